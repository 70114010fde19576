-- What is kept once a COUNT is confirmed, and the COUNT of the PDU of a number.
use Rattle.std.proofs.Common.{ℕ, zero, suc, ◌≡◌, ◌==◌, Bool, false, List, [], ◌∷◌, slice_get, refl, ap, inl, inr}
use Rattle.std.specs.Prelude.{map, filter, not}
use Rattle.std.specs.Option.{option_map}
use Rattle.std.proofs.lemmas.Bool.{cases_Bool, or_parts}
use Rattle.pdcp_tx.specs.Sender.{Entry, is_kept}
use Rattle.split_leg.specs.declared.leg.Pdu.{Pdu}

-- a COUNT that is not kept is not kept either where fewer are
pub kept_fewer : (test : Entry → Bool) (c : ℕ) (es : List Entry) → is_kept es c ≡ false → is_kept (filter test es) c ≡ false
kept_fewer test c [] none = refl
kept_fewer test c (e ∷ es) none =
    let parts = or_parts (e.0 == c) (is_kept es c) none in
    elim (cases_Bool (test e)) [
      | inl yes' ↦ rw (yes', parts.0) (kept_fewer test c es parts.1)
      | inr no' ↦ rw no' (kept_fewer test c es parts.1)
    ]

-- and the one that was confirmed is not
pub gone_then : (c : ℕ) (es : List Entry) → is_kept (filter (λ (e : Entry). not (e.0 == c)) es) c ≡ false
gone_then c [] = refl
gone_then c (e ∷ es) = elim (cases_Bool (e.0 == c)) [ inl here ↦ rw here (gone_then c es) | inr there ↦ rw (there, there) (gone_then c es) ]

-- where it was not kept all stays
pub filter_none : (c : ℕ) (es : List Entry) → is_kept es c ≡ false → filter (λ (e : Entry). not (e.0 == c)) es ≡ es
filter_none c [] none = refl
filter_none c (e ∷ es) none =
    let parts = or_parts (e.0 == c) (is_kept es c) none in
    rw parts.0 (ap (λ (xs : List Entry). e ∷ xs) (filter_none c es parts.1))

-- nothing is kept of nothing
pub filter_empty : (test : Entry → Bool) (es : List Entry) → es ≡ [] → filter test es ≡ []
filter_empty test es is = ap (filter test) is

-- the PDU of a number, by its COUNT
pub tag_at : (ps : List Pdu) (num : ℕ) → slice_get (map (λ (p : Pdu). p.count) ps) num ≡ option_map (λ (p : Pdu). p.count) (slice_get ps num)
tag_at [] num = refl
tag_at (p ∷ ps) zero = refl
tag_at (p ∷ ps) (suc num) = tag_at ps num
