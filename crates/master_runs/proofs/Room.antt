-- A submission that is taken had room, and Low stays.
use Rattle.std.proofs.Common.{ℕ, ◌≡◌, ◌+◌, ◌-◌, ◌^◌, ◌<◌, ◌==◌, ◌++◌, List, [], ◌∷◌, sym, ap, ◌∙◌, arith, inl, inr}
use Rattle.std.specs.Prelude.{Ok, nat_le}
use Rattle.std.proofs.lemmas.Bool.{cases_Bool, eqb-false, leb-false}
use Rattle.dc_base.specs.Count.{window}
use Rattle.pdcp_tx.specs.Sender.{Sender, least, low, Entry as Kept}
use Rattle.pdcp_tx.specs.Sending.{take_sdu as taken}

-- Low stays where one more is kept, under the next COUNT
least_push : (next : ℕ) (p : List ℕ) (es : List Kept) → least (next + 1) (es ++ (next, p) ∷ []) ≡ least next es
least_push next p [] = omega arith
least_push next p (x ∷ es) = let rest = least_push next p es in omega arith

-- what a submission that is taken leaves, why it is taken, and that Low stays
pub record HasRoom (s after : Sender) (p : List ℕ) (c : ℕ) : Type 0 where
  pub room : s.next < low s + window s.n
  pub left : s.next ≡ 2 ^ 32 - 1 → ⊥
  pub still : low after ≡ low s
  pub is : ◌≡◌ {A = Sender × ℕ} (record s { next = s.next + 1; kept = s.kept ++ (s.next, p) ∷ [] }, s.next) (after, c)

-- a submission that is taken had room
pub has_room : (s after : Sender) (p : List ℕ) (c : ℕ) → taken s p ≡ Ok (after, c) → HasRoom s after p c
has_room s after p c ok =
    elim (cases_Bool (nat_le (low s + window s.n) s.next)) [
      | inl full ↦ let f = rw full at ok in absurd (cc (f))
      | inr room ↦
          let f = rw room at ok in
          elim (cases_Bool (s.next == 2 ^ 32 - 1)) [
            | inl last ↦ let g = rw last at f in absurd (cc (g))
            | inr left ↦
                let g = rw left at f in
                let is : ◌≡◌ {A = Sender × ℕ} (record s { next = s.next + 1; kept = s.kept ++ (s.next, p) ∷ [] }, s.next) (after, c) = cc (g) in
                record {
                  room = leb-false _ _ room;
                  left = eqb-false _ _ left;
                  still = ap low (sym (ap (λ (q : Sender × ℕ). q.0) is)) ∙ least_push s.next p s.kept;
                  is = is;
                }
          ]
    ]
