-- Laws of the transmitting entity for the layers above: what a confirmation takes away, and how Low moves.
use Rattle.std.proofs.Common.{ℕ, suc, ◌≡◌, ◌+◌, ◌≤◌, ◌==◌, ◌&&◌, ◌-◌, ◌^◌, leb, ltb, not, Ok, length, subst, Bool, true, false, List, [], ◌∷◌, ◌++◌, refl, sym, ap, ◌∙◌, arith, inl, inr}
use Rattle.std.specs.List.{filter, enumerate_from, range_with_len}
use Rattle.std.proofs.lemmas.Bool.{cases_Bool, eqb-true, eq-eqb}
use Rattle.dc_base.specs.Count.{window}
use Rattle.pdcp_pdu.specs.Bitmap.{names}
use Rattle.pdcp_tx.specs.Sender.{Sender, Entry, least, low, is_kept, Rises}
use Rattle.pdcp_tx.specs.Sending.{take_sdu, give_numbers, confirm_count, take_report}
use Rattle.pdcp_tx.proofs.Entries.{least-first, without_past}

-- ---- what leaves

-- what is kept after a test of COUNTs: those that were kept and fail it
pub is_kept-without : (test : ℕ → Bool) (es : List Entry) (count : ℕ) → is_kept (filter (λ e. not (test e.0)) es) count ≡ (is_kept es count && not (test count))
is_kept-without test [] count = refl
is_kept-without test (e ∷ es) count =
    elim (cases_Bool (e.0 == count)) [
      | inl here ↦
          let same = eqb-true e.0 count here in
          elim (cases_Bool (test e.0)) [
            | inl yes' ↦ let yes'' : test count ≡ true = ap test (sym same) ∙ yes' in
                rw (yes', is_kept-without test es count, here, yes'') (elim (cases_Bool (is_kept es count)) [ inl k ↦ rw k refl | inr k ↦ rw k refl ])
            | inr no' ↦ let no'' : test count ≡ false = ap test (sym same) ∙ no' in rw (no', here, no'') refl
          ]
      | inr apart ↦
          elim (cases_Bool (test e.0)) [
            | inl yes' ↦ rw (yes', apart) (is_kept-without test es count)
            | inr no' ↦ rw (no', apart) (is_kept-without test es count)
          ]
    ]

-- after a confirmation that COUNT is not kept, and every other one is as before
pub is_kept-confirm_count : (s : Sender) (count other : ℕ) → is_kept (confirm_count s count).kept other ≡ (is_kept s.kept other && not (other == count))
is_kept-confirm_count s count other = is_kept-without (λ c. c == count) s.kept other

-- after a report the COUNTs that it names are not kept, and every other one is as before
pub is_kept-take_report : (s : Sender) (fmc : ℕ) (bits : List ℕ) (other : ℕ) → is_kept (take_report s fmc bits).kept other ≡ (is_kept s.kept other && not (names fmc bits other))
is_kept-take_report s fmc bits other = is_kept-without (names fmc bits) s.kept other

-- ---- Low

least-without : (test : Entry → Bool) (next : ℕ) (es : List Entry) → least next es ≤ least next (filter test es)
least-without test next [] = omega arith
least-without test next (e ∷ es) =
    let rest = least-without test next es in
    elim (cases_Bool (test e)) [ inl yes' ↦ rw yes' (omega arith) | inr no' ↦ rw no' (omega arith) ]

-- Low never falls
pub low-confirm_count : (s : Sender) (count : ℕ) → low s ≤ low (confirm_count s count)
low-confirm_count s count = least-without (λ e. not (e.0 == count)) s.next s.kept

pub low-take_report : (s : Sender) (fmc : ℕ) (bits : List ℕ) → low s ≤ low (take_report s fmc bits)
low-take_report s fmc bits = least-without (λ e. not (names fmc bits e.0)) s.next s.kept

pub least-append : (next later : ℕ) (es more : List Entry) → next ≤ least later more → least next es ≤ least later (es ++ more)
least-append next later [] more le = le
least-append next later (e ∷ es) more le = let rest = least-append next later es more le in omega arith

-- after Low is confirmed it is the COUNT kept next, or the next one
pub least-confirm_count : (from next : ℕ) (e : Entry) (es : List Entry) → Rises from next (e ∷ es) → least next (filter (λ f. not (f.0 == least next (e ∷ es))) (e ∷ es)) ≡ least next es
least-confirm_count from next e es up =
    let first : e.0 ≡ least next (e ∷ es) = sym (least-first from next e es up) in
    rw (eq-eqb _ _ first) (ap (least next) (without_past (least next (e ∷ es)) (e.0 + 1) next es up.1 (omega (arith, first))))

-- what numbering leaves has no lower Low
low-grown : (s : Sender) (sdus : List (List ℕ)) → low s ≤ least (s.next + length sdus) (s.kept ++ enumerate_from s.next sdus)
low-grown s sdus = least-append s.next (s.next + length sdus) s.kept (enumerate_from s.next sdus) (from_next s.next sdus)
  where
    from_next : (next : ℕ) (sdus : List (List ℕ)) → next ≤ least (next + length sdus) (enumerate_from next sdus)
    from_next next [] = omega arith
    from_next next (sdu ∷ sdus) =
        let end : next + 1 + length sdus ≡ next + suc (length sdus) = omega arith in
        let rest = subst (λ (k : ℕ). next + 1 ≤ least k (enumerate_from (next + 1) sdus)) end (from_next (next + 1) sdus) in
        omega arith

pub low-take_sdu : (s after : Sender) (sdu : List ℕ) (count : ℕ) → take_sdu s sdu ≡ Ok (after, count) → low s ≤ low after
low-take_sdu s after sdu count ok =
    elim (cases_Bool (leb (low s + window s.n) s.next)) [
      | inl full ↦ let e = rw full at ok in absurd (cc (e))
      | inr room ↦
          let e = rw room at ok in
          elim (cases_Bool (s.next == 2 ^ 32 - 1)) [
            | inl last ↦ let f = rw last at e in absurd (cc (f))
            | inr left ↦
                let f = rw left at e in
                let both : ◌≡◌ {A = Sender × ℕ} (record s { next = s.next + 1; kept = s.kept ++ (s.next, sdu) ∷ [] }, s.next) (after, count) = cc (f) in
                let is = ap (λ (t : Sender × ℕ). t.0) both in
                subst (λ (t : Sender). low s ≤ low t) is (low-grown s (sdu ∷ []))
          ]
    ]

pub low-give_numbers : (s after : Sender) (given : List ℕ) → give_numbers s ≡ Ok (after, given) → low s ≤ low after
low-give_numbers s after given ok =
    elim (cases_Bool (ltb (low s + window s.n) (s.next + length s.held))) [
      | inl full ↦ let e = rw full at ok in absurd (cc (e))
      | inr room ↦
          let e = rw room at ok in
          elim (cases_Bool (ltb (2 ^ 32 - 1) (s.next + length s.held))) [
            | inl last ↦ let f = rw last at e in absurd (cc (f))
            | inr left ↦
                let f = rw left at e in
                let both : ◌≡◌ {A = Sender × List ℕ} (record s { next = s.next + length s.held; kept = s.kept ++ enumerate_from s.next s.held; held = [] }, range_with_len s.next (length s.held)) (after, given) = cc (f) in
                let is = ap (λ (t : Sender × List ℕ). t.0) both in
                subst (λ (t : Sender). low s ≤ low t) is (low-grown s s.held)
          ]
    ]
