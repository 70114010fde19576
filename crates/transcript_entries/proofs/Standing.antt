-- Where lines may stand, one after another.
use Rattle.std.proofs.Common.{ℕ, ◌≡◌, ◌++◌, List, [], ◌∷◌, Option, Some, None, length, map, refl, sym, ap, ◌∙◌, subst}
use Rattle.std.specs.Option.{option_and_then}
use Rattle.std.specs.List.{AllByRecursion}
use Rattle.std.proofs.lemmas.Option.{none-some}
use Rattle.std.proofs.lemmas.List.{map-append}
use Rattle.dc_base.specs.declared.events.Line.{Line}
use Rattle.dc_base.specs.declared.events.Line.TheVariants as line
use Rattle.transcript_entries.specs.Lines.{AreFirstLines, text_of, texts}
use Rattle.transcript_entries.specs.Places.{AreReadFrom, IsRead, Place, place_after, place_after_line, within}
use Rattle.transcript_entries.specs.Read.{IsNoEvent}
use Rattle.transcript_entries.proofs.Joining.{lines_join}

-- a fact of all of two lists
pub all_append : {X : Type 0} (P : X → Type 0) (xs ys : List X) → AllByRecursion P xs → AllByRecursion P ys → AllByRecursion P (xs ++ ys)
all_append P [] ys h k = k
all_append P (x ∷ xs) ys h k = (h.0, all_append P xs ys h.1 k)

-- within an entry a line that is no event stands anywhere
stays_within : (l : Line) → IsNoEvent l → place_after_line within l ≡ Some within
stays_within (line.Event e) h = absurd h
stays_within (line.Answer a) h = refl
stays_within (line.Note n) h = refl
stays_within (line.Send k f) h = refl

pub all_within : (ls : List Line) → AllByRecursion IsNoEvent ls → place_after within ls ≡ Some within
all_within [] h = refl
all_within (l ∷ ls) h = ap (λ o. option_and_then (λ q. place_after q ls) o) (stays_within l h.0) ∙ all_within ls h.1

-- the place after two runs of lines
then_of : (o : Option Place) (xs ys : List Line) (q : Place) → option_and_then (λ r. place_after r xs) o ≡ Some q
    → ((r : Place) → place_after r xs ≡ Some q → place_after r (xs ++ ys) ≡ place_after q ys)
    → option_and_then (λ r. place_after r (xs ++ ys)) o ≡ place_after q ys
then_of None xs ys q is step = absurd (none-some q is)
then_of (Some r) xs ys q is step = step r is

pub place_append : (p : Place) (xs ys : List Line) (q : Place) → place_after p xs ≡ Some q → place_after p (xs ++ ys) ≡ place_after q ys
place_append p [] ys q is = ap (λ (o : Option Place). option_and_then (λ r. place_after r ys) o) is
place_append p (x ∷ xs) ys q is = then_of (place_after_line p x) xs ys q is (λ r. place_append r xs ys q)

-- two runs of lines
pub read_append : (p q r : Place) (xs ys : List Line) (a b c : List ℕ) → AreReadFrom p a xs q b → AreReadFrom q b ys r c → AreReadFrom p a (xs ++ ys) r c
read_append p q r xs ys a b c first second = record {
  read = subst (λ ts. AreFirstLines a ts c) (sym (map-append text_of xs ys)) (lines_join (texts xs) (texts ys) a b c first.read second.read);
  good = all_append IsRead xs ys first.good second.good;
  placed = place_append p xs ys q first.placed ∙ second.placed;
}
