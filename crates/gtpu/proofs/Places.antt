-- Octets by their places.
use Rattle.std.proofs.Common.{◌≡◌, ℕ, ◌-◌, ◌<◌, ◌≤◌, List, ◌∷◌, length, take, drop, get_or, Option, None, refl, sym, ap, ◌∙◌, arith, drop-cons, length-drop}
use Rattle.std.proofs.Math.Seq.{take-length}
use Rattle.gtpu.specs.declared.packet.PduNumber.{PduNumber}
use Rattle.gtpu.specs.Extension.{AreExtensions}
use Rattle.gtpu.specs.Grammar.{IsAfterTeid, sequenced, extended}

numbers_at : (octets : List ℕ) → 12 ≤ length octets → drop 8 octets ≡ get_or octets 8 0 ∷ get_or octets 9 0 ∷ get_or octets 10 0 ∷ drop 11 octets
numbers_at octets long =
    let a = drop-cons octets 8 0 (omega arith) in
    let b = drop-cons octets 9 0 (omega arith) in
    let c = drop-cons octets 10 0 (omega arith) in
    a ∙ (ap (λ (o : List ℕ). get_or octets 8 0 ∷ o) b ∙ ap (λ (o : List ℕ). get_or octets 8 0 ∷ get_or octets 9 0 ∷ o) c)

pub sequenced_at : (flags : ℕ) (octets : List ℕ) → 0 < flags → flags < 4 → 12 ≤ length octets → IsAfterTeid flags None None (take (length octets - 12) (drop 12 octets)) (drop 8 octets)
sequenced_at flags octets some less long =
    let d = drop-cons octets 11 0 (omega arith) in
    let all : take (length octets - 12) (drop 12 octets) ≡ drop 12 octets = ap (λ n. take n (drop 12 octets)) (sym (length-drop 12 octets)) ∙ take-length (drop 12 octets) in
    sequenced some less refl refl _ _ _ _ (numbers_at octets long ∙ (ap (λ (o : List ℕ). get_or octets 8 0 ∷ get_or octets 9 0 ∷ get_or octets 10 0 ∷ o) d ∙ ap (λ (o : List ℕ). get_or octets 8 0 ∷ get_or octets 9 0 ∷ get_or octets 10 0 ∷ get_or octets 11 0 ∷ o) (sym all)))

pub extended_at : (flags : ℕ) (octets : List ℕ) (c : Option (List ℕ)) (n : Option PduNumber) (body : List ℕ) → 4 ≤ flags → 12 ≤ length octets → AreExtensions (drop 11 octets) c n (0 ∷ body) → IsAfterTeid flags c n body (drop 8 octets)
extended_at flags octets c n body e long are = extended e _ _ _ _ (numbers_at octets long) are
