-- The report that is sent: it is one of the grammar, and which COUNTs it names.
use Rattle.std.proofs.Common.{ℕ, suc, ◌≡◌, ◌+◌, ◌-◌, ◌*◌, ◌^◌, ◌<◌, ◌||◌, ◌&&◌, min, ltb, Bool, true, false, List, get_or, Ok, refl, sym, ap, ◌∙◌, subst, arith, inl, inr}
use Rattle.std.proofs.lemmas.Bool.{cases_Bool, cases_lt, or_cases, lt-ltb, le-ltb, ltb-true}
use Rattle.dc_base.specs.declared.numbers.SnLen.{SnLen}
use Rattle.pdcp_pdu.specs.Bitmap.{names, is_shown, is_among, bitmap, bitmap_len}
use Rattle.pdcp_pdu.specs.StatusReport.{IsStatusReport, NamesReceived, report_pdu, sent_bits, sent_set, whole_bits}
use Rattle.pdcp_pdu.specs.Pdu.{report, decoded}
use Rattle.pdcp_pdu.proofs.Ascending.{Ascending, among_above, among_last, among_small}
use Rattle.pdcp_pdu.proofs.Bitmaps.{is_shown-bitmap, is_shown-past, length-bitmap}
use Rattle.pdcp_pdu.proofs.Reading.{decoded_again}

-- a bit of m octets of bitmap, by its COUNT
shows : (fmc m : ℕ) (xs : List ℕ) (k : ℕ) → is_shown (bitmap (is_among xs) (fmc + 1) m) (suc k) ≡ (is_among xs (fmc + 1 + k) && ltb (fmc + 1 + k) (fmc + 1 + 8 * m))
shows fmc m xs k =
    elim (cases_lt k (8 * m)) [
      | inl inside ↦
          let room : ltb (fmc + 1 + k) (fmc + 1 + 8 * m) ≡ true = lt-ltb _ _ (omega arith) in
          is_shown-bitmap (is_among xs) m (fmc + 1) k inside ∙ rw room (elim (cases_Bool (is_among xs (fmc + 1 + k))) [ inl yes' ↦ rw yes' refl | inr no' ↦ rw no' refl ])
      | inr past ↦
          let far : ltb (fmc + 1 + k) (fmc + 1 + 8 * m) ≡ false = le-ltb _ _ (omega arith) in
          is_shown-past (is_among xs) m (fmc + 1) k past ∙ rw far (elim (cases_Bool (is_among xs (fmc + 1 + k))) [ inl yes' ↦ rw yes' refl | inr no' ↦ rw no' refl ])
    ]

-- what m octets of bitmap name
names-bitmap : (fmc m : ℕ) (xs : List ℕ) (c : ℕ) → Ascending fmc xs → names fmc (bitmap (is_among xs) (fmc + 1) m) c ≡ (ltb c fmc || (is_among xs c && ltb c (fmc + 1 + 8 * m)))
names-bitmap fmc m xs c up =
    elim (cases_lt fmc c) [
      | inl above ↦
          let k : ℕ = c - fmc - 1 in
          let bit : c - fmc ≡ suc k = omega arith in
          let at : fmc + 1 + k ≡ c = omega arith in
          ap (λ (b : Bool). ltb c fmc || b)
          (ap (λ (j : ℕ). is_shown (bitmap (is_among xs) (fmc + 1) m) j) bit ∙ shows fmc m xs k ∙ ap (λ (d : ℕ). is_among xs d && ltb d (fmc + 1 + 8 * m)) at)
      | inr at_most ↦
          let bit : c - fmc ≡ 0 = omega arith in
          let none : is_among xs c ≡ false = elim (cases_Bool (is_among xs c)) [
            | inl yes' ↦ let more = among_above fmc xs c up yes' in absurd (omega arith)
            | inr no' ↦ no'
          ] in
          rw (bit, none) refl
    ]

pub sent_names : (fmc : ℕ) (xs : List ℕ) (c : ℕ) → Ascending fmc xs → names fmc (sent_bits fmc xs) c ≡ sent_set fmc xs c
sent_names fmc xs c up =
    let m = min 8995 (bitmap_len fmc xs) in
    names-bitmap fmc m xs c up ∙ elim (cases_Bool (is_among xs c)) [
      | inl yes' ↦
          let last = among_last fmc xs c up yes' in
          rw yes' (elim (cases_lt c (fmc + 71961)) [
            | inl near ↦
                let inside : ltb c (fmc + 1 + 8 * m) ≡ true = lt-ltb _ _ (omega arith) in
                let inside' : ltb c (fmc + 71961) ≡ true = lt-ltb _ _ near in
                rw (inside, inside') refl
            | inr far ↦
                let past : ltb c (fmc + 1 + 8 * m) ≡ false = le-ltb _ _ (omega arith) in
                let past' : ltb c (fmc + 71961) ≡ false = le-ltb _ _ far in
                rw (past, past') refl
          ])
      | inr no' ↦ rw no' refl
    ]

-- a bitmap that is never cut names all of them
pub whole_names : (fmc : ℕ) (xs : List ℕ) (c : ℕ) → Ascending fmc xs → names fmc (whole_bits fmc xs) c ≡ (ltb c fmc || is_among xs c)
whole_names fmc xs c up =
    let m = bitmap_len fmc xs in
    names-bitmap fmc m xs c up ∙ elim (cases_Bool (is_among xs c)) [
      | inl yes' ↦
          let last = among_last fmc xs c up yes' in
          let inside : ltb c (fmc + 1 + 8 * m) ≡ true = lt-ltb _ _ (omega arith) in
          rw (yes', inside) refl
      | inr no' ↦ rw no' refl
    ]

pub sent_is_report : (fmc : ℕ) (xs : List ℕ) → fmc < 2 ^ 32 → ((i : ℕ) → get_or xs i 0 < 2 ^ 32) → Ascending fmc xs → IsStatusReport fmc (sent_bits fmc xs) (report_pdu fmc xs)
unfolding report_pdu
sent_is_report fmc xs small each up =
    let len = length-bitmap (is_among xs) (fmc + 1) (min 8995 (bitmap_len fmc xs)) in
    record {
      fmc_small = small;
      most = omega arith;
      counts = λ c named. elim (or_cases _ _ (sym (sent_names fmc xs c up) ∙ named)) [
        | inl below ↦ let less : c < fmc = ltb-true _ _ below in omega arith
        | inr among ↦ elim (cases_Bool (is_among xs c)) [
          | inl yes' ↦ among_small (2 ^ 32) xs c each yes'
          | inr no' ↦ let a = rw no' at among in absurd (cc (a))
        ]
      ];
      r = 0;
      r_small = omega arith;
      spelled = refl;
    }

pub report_names : (fmc : ℕ) (xs octets : List ℕ) → fmc < 2 ^ 32 → ((i : ℕ) → get_or xs i 0 < 2 ^ 32) → Ascending fmc xs → octets ≡ report_pdu fmc xs → NamesReceived fmc (sent_set fmc xs) octets
report_names fmc xs octets small each up is =
    record {
      bits = sent_bits fmc xs;
      report = subst (IsStatusReport fmc (sent_bits fmc xs)) (sym is) (sent_is_report fmc xs small each up);
      named = λ c. sent_names fmc xs c up;
    }

pub sent_again : (fmc : ℕ) (xs octets : List ℕ) → fmc < 2 ^ 32 → ((i : ℕ) → get_or xs i 0 < 2 ^ 32) → Ascending fmc xs → octets ≡ report_pdu fmc xs
    → (n : SnLen) → decoded n octets ≡ Ok (report fmc (sent_bits fmc xs))
sent_again fmc xs octets small each up is n = decoded_again n octets (report fmc (sent_bits fmc xs)) (subst (IsStatusReport fmc (sent_bits fmc xs)) (sym is) (sent_is_report fmc xs small each up))
