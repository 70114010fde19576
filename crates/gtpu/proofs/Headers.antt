-- Lists of extension headers that grow by one.
use Rattle.std.proofs.Common.{◌≡◌, ℕ, ◌+◌, ◌<◌, false, List, [], ◌∷◌, ◌++◌, length, Option, Some, None, refl, sym, ap, ◌∙◌, append_assoc, arith, length-append}
use Rattle.std.specs.Option.{option_to_list}
use Rattle.std.specs.List.{flat_map, filter_map, cons_option, AllByRecursion}
use Rattle.std.proofs.lemmas.List.{append-nil}
use Rattle.std.proofs.lemmas.List.Elements.{filter_map-append}
use Rattle.std.proofs.lemmas.Grind.{flat_map-append}
use Rattle.gtpu.specs.declared.packet.PduNumber.{PduNumber}
use Rattle.gtpu.specs.Extension.{Extension, octets_of, is_unknown_required, IsExtension, container_of, number_of}
use Rattle.gtpu.specs.Walk.{Splits, Joins, Extends}

pub each-append : {A : Type 0} (P : A → Type 0) (xs ys : List A) → AllByRecursion P xs → AllByRecursion P ys → AllByRecursion P (xs ++ ys)
each-append P [] ys all others = others
each-append P (x ∷ xs) ys all others = (all.0, each-append P xs ys all.1 others)

pub cons_option-nil : {A : Type 0} (o : Option A) → cons_option o [] ≡ option_to_list o
cons_option-nil None = refl
cons_option-nil (Some x) = refl

filter_map-snoc : {A B : Type 0} (f : A → Option B) (xs : List A) (x : A) → filter_map f (xs ++ x ∷ []) ≡ filter_map f xs ++ option_to_list (f x)
filter_map-snoc f xs x = filter_map-append f xs (x ∷ []) ∙ ap (λ ys. filter_map f xs ++ ys) (cons_option-nil (f x))

pub extends : (type : ℕ) (after content rest : List ℕ) (container container' : Option (List ℕ)) (number number' : Option PduNumber) → 0 < type → is_unknown_required type ≡ false → Splits type after content rest → Joins type content container number container' number' → Extends type after container number container' number' rest
extends type after content rest container container' number number' some understood s joins =
    let x : Extension = record { type = type; units = s.units; content = content } in
    let shorter : length rest < length after + 1 = omega (arith, ap length s.spelled, length-append content rest) in (
      s.more,
      shorter,
      λ octets before.
          let headers = before.headers in
          let same : flat_map octets_of (headers ++ x ∷ []) ++ rest ≡ flat_map octets_of headers ++ (type ∷ s.units ∷ content ++ rest) = simp (flat_map-append, append-nil, append_assoc) in
          record {
            headers = headers ++ x ∷ [];
            spelled = before.spelled ∙ (ap (λ (t : List ℕ). flat_map octets_of headers ++ (type ∷ t)) s.spelled ∙ sym same);
            each = each-append IsExtension headers (x ∷ []) before.each ((record { some = some; understood = understood; whole = s.whole; prescribed = s.prescribed }, tt));
            one_container = filter_map-snoc (λ y. container_of y.type y.content) headers x ∙ (ap (λ ys. ys ++ option_to_list (container_of type content)) before.one_container ∙ sym joins.container_is);
            one_number = filter_map-snoc (λ y. number_of y.type y.content) headers x ∙ (ap (λ ys. ys ++ option_to_list (number_of type content)) before.one_number ∙ sym joins.number_is);
          },
    )
