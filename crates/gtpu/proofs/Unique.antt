-- Octets are one packet at most, or have one fault.
use Rattle.std.proofs.Common.{◌≡◌, ℕ, suc, ◌+◌, ◌-◌, ◌*◌, ◌/◌, ◌%◌, ◌<◌, ◌≤◌, ◌⊎◌, inl, inr, false, true, cond, ◌&&◌, ◌||◌, eqb, ltb, List, [], ◌∷◌, ◌++◌, length, take, drop, get_or, Option, Some, None, refl, sym, ap, subst, ◌∙◌, append_assoc, arith, length-append}
use Rattle.std.specs.Prelude.{is_some, is_none, Result, Ok, Err, MatchResult, IsOkAnd, IsErrOf}
use Rattle.std.specs.Option.{option_to_list}
use Rattle.std.specs.Int.{w16, w32, to_be_bytes, from_be_bytes}
use Rattle.std.specs.List.{flat_map, filter_map, cons_option, AllByRecursion}
use Rattle.std.proofs.lemmas.Bool.{or_cases, or_from, or_left, or_right, and_left, and_right, eq-eqb, and_parts, not_from_true, ne_eqb, le-ltb, cond-true, cases_Bool, both_ways}
use Rattle.std.proofs.lemmas.List.{append-nil, take_at, drop_at, append_cancel_left}
use Rattle.std.proofs.lemmas.List.Elements.{filter_map-append}
use Rattle.std.proofs.lemmas.Nat.{from_be_bytes-to_be_bytes_4}
use Rattle.gtpu.specs.declared.faults.GtpErr.{GtpErr}
use Rattle.gtpu.specs.declared.packet.GtpKind.{GtpKind}
use Rattle.gtpu.specs.declared.packet.GtpKind.TheVariants.{GPdu, EndMarker, EchoRequest, EchoResponse, ErrorIndication}
use Rattle.gtpu.specs.declared.packet.PduNumber.{PduNumber}
use Rattle.gtpu.specs.declared.packet.PduNumber.TheVariants.{Short, Long}
use Rattle.gtpu.specs.declared.packet.Packet.{Packet}
use Rattle.gtpu.specs.Content.{Content, view, message_type, kind_of}
use Rattle.gtpu.specs.Extension.{Extension, octets_of, is_unknown_required, IsExtension, container_of, short_number, long_number, number_of, containers, numbers, AreExtensions}
use Rattle.gtpu.specs.Grammar.{IsAfterTeid, plain, sequenced, extended, HasHeader, IsPacket}
use Rattle.gtpu.specs.Fault.{header_fault, is_misshapen, is_second, extension_fault, HasExtensionFault, HasFault}

-- two ways to cut a list at one place
append_parts : (a b x y : List ℕ) → length a ≡ length b → a ++ x ≡ b ++ y → (a ≡ b) × (x ≡ y)
append_parts a b x y same e = (
  sym (take_at a x (length b) same) ∙ (ap (take (length b)) e ∙ take_at b y (length b) refl),
  sym (drop_at a x (length b) same) ∙ (ap (drop (length b)) e ∙ drop_at b y (length b) refl),
)

option_to_list-same : {A : Type 0} (o p : Option A) → option_to_list o ≡ option_to_list p → o ≡ p
option_to_list-same None None e = refl
option_to_list-same None (Some y) e = absurd cc
option_to_list-same (Some x) None e = absurd cc
option_to_list-same (Some x) (Some y) e = cc

length-option_to_list : {A : Type 0} (o : Option A) → length (option_to_list o) ≤ 1
length-option_to_list None = omega arith
length-option_to_list (Some x) = omega arith

length-some : {A : Type 0} (o : Option A) → is_some o ≡ true → length (option_to_list o) ≡ 1
length-some None e = absurd cc
length-some (Some x) e = refl

length-cons_option : {A : Type 0} (o : Option A) (x : A) (xs : List A) → o ≡ Some x → length (cons_option o xs) ≡ suc (length xs)
length-cons_option o x xs e = rw e refl

-- where at most one is allowed, none follows one
no_second : {A B : Type 0} (f : A → Option B) (seen ys : List A) (y : A) (v : B) (o p : Option B) → filter_map f seen ≡ option_to_list o → filter_map f (seen ++ y ∷ ys) ≡ option_to_list p → f y ≡ Some v → is_some o ≡ true → ⊥
no_second f seen ys y v o p before all here some =
    let whole : filter_map f seen ++ cons_option (f y) (filter_map f ys) ≡ option_to_list p = sym (filter_map-append f seen (y ∷ ys)) ∙ all in
    let count : length (filter_map f seen) + length (cons_option (f y) (filter_map f ys)) ≡ length (option_to_list p) = sym (length-append (filter_map f seen) (cons_option (f y) (filter_map f ys))) ∙ ap length whole in
    omega (arith, count, ap length before, length-some o some, length-option_to_list p, length-cons_option (f y) v (filter_map f ys) here)

-- headers end before such a type: the end of them all, or one with a fault
abbrev Stops : Option (List ℕ) → Option PduNumber → ℕ → List ℕ → Type 0
Stops container number type after =
    (type ≡ 0) ⊎ ((is_unknown_required type || (is_misshapen type after || is_second container number type)) ≡ true)

well_shaped : (x : Extension) (rest : List ℕ) → IsExtension x → 0 < length rest → is_misshapen x.type (x.units ∷ (x.content ++ rest)) ≡ false
well_shaped x rest is more =
    or_from _ _ (or_from _ _ (ne_eqb x.units 0 (λ e. omega (arith, is.whole))) (not_from_true _ is.prescribed)) (le-ltb _ _ (omega (arith, is.whole, length-append x.content rest)))

number_there : (type : ℕ) (content : List ℕ) → (eqb type 0xC0 || eqb type 0x82) ≡ true → (n : PduNumber) × (number_of type content ≡ Some n)
number_there type content e =
    let long : Option PduNumber = cond (eqb type 0x82) (Some (Long (long_number content))) None in
    elim (cases_Bool (eqb type 0xC0)) [
      | inl is_short ↦ (Short (short_number content), cond-true (eqb type 0xC0) (Some (Short (short_number content))) long is_short)
      | inr not_short ↦ elim (or_cases (eqb type 0xC0) (eqb type 0x82) e) [
        | inl is_short ↦ (Short (short_number content), cond-true (eqb type 0xC0) (Some (Short (short_number content))) long is_short)
        | inr is_long ↦ (Long (long_number content), rw not_short (cond-true (eqb type 0x82) (Some (Long (long_number content))) None is_long))
      ]
    ]

goes_on : (seen ys : List Extension) (y : Extension) (rest : List ℕ) (type : ℕ) (after : List ℕ) (c c' : Option (List ℕ)) (n n' : Option PduNumber)
    → IsExtension y → 0 < length rest → type ∷ after ≡ octets_of y ++ rest
    → containers seen ≡ option_to_list c → numbers seen ≡ option_to_list n → containers (seen ++ y ∷ ys) ≡ option_to_list c' → numbers (seen ++ y ∷ ys) ≡ option_to_list n'
    → Stops c n type after → ⊥
goes_on seen ys y rest type after c c' n n' is more e seen_c seen_n all_c all_n stops =
    let type-is : type ≡ y.type = cc in
    let after-is : after ≡ y.units ∷ (y.content ++ rest) = cc in
    elim stops [
      | inl ended ↦ omega (arith, is.some)
      | inr fault ↦
          let fault' = subst (λ (a : List ℕ). (is_unknown_required y.type || (is_misshapen y.type a || is_second c n y.type)) ≡ true) after-is (subst (λ (t : ℕ). (is_unknown_required t || (is_misshapen t after || is_second c n t)) ≡ true) type-is fault) in
          let misshapen_y = is_misshapen y.type (y.units ∷ (y.content ++ rest)) in
          let second_y = is_second c n y.type in
          elim (or_cases (is_unknown_required y.type) (misshapen_y || second_y) fault') [
            | inl unknown ↦ both_ways _ is.understood unknown
            | inr broken ↦ elim (or_cases misshapen_y second_y broken) [
              | inl misshapen ↦ both_ways _ (well_shaped y rest is more) misshapen
              | inr second ↦ elim (or_cases (eqb y.type 0x84 && is_some c) ((eqb y.type 0xC0 || eqb y.type 0x82) && is_some n) second) [
                | inl container ↦
                    let parts = and_parts (eqb y.type 0x84) (is_some c) container in
                    no_second (λ x. container_of x.type x.content) seen ys y y.content c c' seen_c all_c (cond-true (eqb y.type 0x84) (Some y.content) None parts.0) parts.1
                | inr number ↦
                    let parts = and_parts (eqb y.type 0xC0 || eqb y.type 0x82) (is_some n) number in
                    let there = number_there y.type y.content parts.0 in
                    no_second (λ x. number_of x.type x.content) seen ys y there.0 n n' seen_n all_n there.1 parts.1
              ]
            ]
          ]
    ]

same_extension : (x y : Extension) → x.type ≡ y.type → x.units ≡ y.units → x.content ≡ y.content → x ≡ y
same_extension x y types units contents =
    let make : ℕ → ℕ → List ℕ → Extension = λ t u c. record { type = t; units = u; content = c } in
    ap (λ t. make t x.units x.content) types ∙ (ap (λ u. make y.type u x.content) units ∙ ap (λ c. make y.type y.units c) contents)

-- headers up to where such a type stops them are the same, however they are found
same_headers : (seen xs ys : List Extension) (t t' : ℕ) (a a' : List ℕ) (c c' : Option (List ℕ)) (n n' : Option PduNumber)
    → AllByRecursion IsExtension xs → AllByRecursion IsExtension ys → flat_map octets_of xs ++ t ∷ a ≡ flat_map octets_of ys ++ t' ∷ a'
    → containers (seen ++ xs) ≡ option_to_list c → numbers (seen ++ xs) ≡ option_to_list n → containers (seen ++ ys) ≡ option_to_list c' → numbers (seen ++ ys) ≡ option_to_list n'
    → Stops c n t a → Stops c' n' t' a' → xs ≡ ys
same_headers seen [] [] t t' a a' c c' n n' each each' e cs ns cs' ns' stops stops' = refl
same_headers seen [] (y ∷ ys) t t' a a' c c' n n' each each' e cs ns cs' ns' stops stops' =
    let front : containers seen ≡ option_to_list c = ap containers (sym (append-nil seen)) ∙ cs in
    let front' : numbers seen ≡ option_to_list n = ap numbers (sym (append-nil seen)) ∙ ns in
    let tail = flat_map octets_of ys ++ t' ∷ a' in
    let more : 0 < length tail = omega (arith, length-append (flat_map octets_of ys) (t' ∷ a')) in
    absurd (goes_on seen ys y tail t a c c' n n' each'.0 more (e ∙ append_assoc (octets_of y) (flat_map octets_of ys) (t' ∷ a')) front front' cs' ns' stops)
same_headers seen (x ∷ xs) [] t t' a a' c c' n n' each each' e cs ns cs' ns' stops stops' =
    let front : containers seen ≡ option_to_list c' = ap containers (sym (append-nil seen)) ∙ cs' in
    let front' : numbers seen ≡ option_to_list n' = ap numbers (sym (append-nil seen)) ∙ ns' in
    let tail = flat_map octets_of xs ++ t ∷ a in
    let more : 0 < length tail = omega (arith, length-append (flat_map octets_of xs) (t ∷ a)) in
    absurd (goes_on seen xs x tail t' a' c' c n' n each.0 more (sym e ∙ append_assoc (octets_of x) (flat_map octets_of xs) (t ∷ a)) front front' cs ns stops')
same_headers seen (x ∷ xs) (y ∷ ys) t t' a a' c c' n n' each each' e cs ns cs' ns' stops stops' =
    let tail = flat_map octets_of xs ++ t ∷ a in
    let tail' = flat_map octets_of ys ++ t' ∷ a' in
    let whole : octets_of x ++ tail ≡ octets_of y ++ tail' = sym (append_assoc (octets_of x) (flat_map octets_of xs) (t ∷ a)) ∙ (e ∙ append_assoc (octets_of y) (flat_map octets_of ys) (t' ∷ a')) in
    let types : x.type ≡ y.type = cc in
    let units : x.units ≡ y.units = cc in
    let contents : x.content ++ tail ≡ y.content ++ tail' = cc in
    let parts = append_parts x.content y.content tail tail' (omega (arith, each.0.whole, each'.0.whole, units)) contents in
    let first : x ≡ y = same_extension x y types units parts.0 in
    let further : (zs : List Extension) → (seen ++ x ∷ []) ++ zs ≡ seen ++ x ∷ zs = λ zs. append_assoc seen (x ∷ []) zs in
    let further' : (zs : List Extension) → (seen ++ x ∷ []) ++ zs ≡ seen ++ y ∷ zs = λ zs. append_assoc seen (x ∷ []) zs ∙ ap (λ (w : Extension). seen ++ w ∷ zs) first in
    let others = same_headers (seen ++ x ∷ []) xs ys t t' a a' c c' n n' each.1 each'.1 parts.1 (ap containers (further xs) ∙ cs) (ap numbers (further xs) ∙ ns) (ap containers (further' ys) ∙ cs') (ap numbers (further' ys) ∙ ns') stops stops' in
    ap (λ (w : Extension). w ∷ xs) first ∙ ap (λ (zs : List Extension). y ∷ zs) others

-- what was read so far agrees, wherever reading stops
record Agree (c c' : Option (List ℕ)) (n n' : Option PduNumber) (t t' : ℕ) (a a' : List ℕ) : Type 0 where
  container : c ≡ c'
  number : n ≡ n'
  type : t ≡ t'
  after : a ≡ a'

agree : (octets : List ℕ) (c c' : Option (List ℕ)) (n n' : Option PduNumber) (t t' : ℕ) (a a' : List ℕ) → AreExtensions octets c n (t ∷ a) → AreExtensions octets c' n' (t' ∷ a') → Stops c n t a → Stops c' n' t' a' → Agree c c' n n' t t' a a'
agree octets c c' n n' t t' a a' p q stops stops' =
    let whole = sym p.spelled ∙ q.spelled in
    let same = same_headers [] p.headers q.headers t t' a a' c c' n n' p.each q.each whole p.one_container p.one_number q.one_container q.one_number stops stops' in
    let rest : t ∷ a ≡ t' ∷ a' = append_cancel_left (flat_map octets_of q.headers) (t ∷ a) (t' ∷ a') (ap (λ (xs : List Extension). flat_map octets_of xs ++ t ∷ a) (sym same) ∙ whole) in
    record {
      container = option_to_list-same c c' (sym p.one_container ∙ (ap containers same ∙ q.one_container));
      number = option_to_list-same n n' (sym p.one_number ∙ (ap numbers same ∙ q.one_number));
      type = cc;
      after = cc;
    }

fault_stops : (c : Option (List ℕ)) (n : Option PduNumber) (t : ℕ) (a : List ℕ) (place : ℕ) (e : GtpErr) → extension_fault c n t a place ≡ Some e → Stops c n t a
fault_stops c n t a place e fault =
    elim (cases_Bool (is_unknown_required t)) [
      | inl unknown ↦ inr (or_left (is_unknown_required t) (is_misshapen t a || is_second c n t) unknown)
      | inr known ↦ elim (cases_Bool (is_misshapen t a || is_second c n t)) [
        | inl broken ↦ inr (or_right (is_unknown_required t) (is_misshapen t a || is_second c n t) broken)
        | inr fine ↦ let none : extension_fault c n t a place ≡ None = rw (known, fine) refl in absurd (cc (fault, none))
      ]
    ]

kind-message_type : (k : GtpKind) → kind_of (message_type k) ≡ Some k
kind-message_type GPdu = refl
kind-message_type EndMarker = refl
kind-message_type EchoRequest = refl
kind-message_type EchoResponse = refl
kind-message_type ErrorIndication = refl

-- the octets before octet 8
abbrev front : ℕ → GtpKind → ℕ → List ℕ → List ℕ
front first kind teid after = first ∷ message_type kind ∷ to_be_bytes w16 (length after) ++ to_be_bytes w32 teid

record SameHeader (first first' : ℕ) (kind kind' : GtpKind) (teid teid' : ℕ) (after after' : List ℕ) : Type 0 where
  first_is : first ≡ first'
  kind_is : kind ≡ kind'
  teid_is : teid ≡ teid'
  after_is : after ≡ after'

one_header : (octets : List ℕ) (first first' : ℕ) (kind kind' : GtpKind) (teid teid' : ℕ) (after after' : List ℕ) → HasHeader octets first kind teid after → HasHeader octets first' kind' teid' after' → SameHeader first first' kind kind' teid teid' after after'
one_header octets first first' kind kind' teid teid' after after' p q =
    let parts = append_parts (front first kind teid after) (front first' kind' teid' after') after after' refl (sym p.spelled ∙ q.spelled) in
    let fours = append_parts (first ∷ message_type kind ∷ to_be_bytes w16 (length after)) (first' ∷ message_type kind' ∷ to_be_bytes w16 (length after')) (to_be_bytes w32 teid) (to_be_bytes w32 teid') refl parts.0 in
    let types : message_type kind ≡ message_type kind' = ap (λ (o : List ℕ). get_or o 1 0) fours.0 in
    let kinds : Some kind ≡ Some kind' = sym (kind-message_type kind) ∙ (ap kind_of types ∙ kind-message_type kind') in
    record {
      first_is = ap (λ (o : List ℕ). get_or o 0 0) fours.0;
      kind_is = cc;
      teid_is = sym (from_be_bytes-to_be_bytes_4 teid p.fits) ∙ (ap (from_be_bytes w32) fours.1 ∙ from_be_bytes-to_be_bytes_4 teid' q.fits);
      after_is = parts.1;
    }

-- what stands after the TEID says one thing
record SameParts (c c' : Option (List ℕ)) (n n' : Option PduNumber) (b b' : List ℕ) : Type 0 where
  container : c ≡ c'
  number : n ≡ n'
  body : b ≡ b'

one_reading : (flags : ℕ) (c c' : Option (List ℕ)) (n n' : Option PduNumber) (b b' octets : List ℕ) → IsAfterTeid flags c n b octets → IsAfterTeid flags c' n' b' octets → SameParts c c' n n' b b'
one_reading flags c c' n n' b b' octets (plain f nc nn o) (plain f' nc' nn' o') = record { container = cc; number = cc; body = cc }
one_reading flags c c' n n' b b' octets (plain f nc nn o) (sequenced f' g' nc' nn' s' t' x' y' o') = absurd (omega arith)
one_reading flags c c' n n' b b' octets (plain f nc nn o) (extended f' s' t' x' more' o' e') = absurd (omega arith)
one_reading flags c c' n n' b b' octets (sequenced f g nc nn s t x y o) (plain f' nc' nn' o') = absurd (omega arith)
one_reading flags c c' n n' b b' octets (sequenced f g nc nn s t x y o) (sequenced f' g' nc' nn' s' t' x' y' o') = record { container = cc; number = cc; body = cc }
one_reading flags c c' n n' b b' octets (sequenced f g nc nn s t x y o) (extended f' s' t' x' more' o' e') = absurd (omega arith)
one_reading flags c c' n n' b b' octets (extended f s t x more o e) (plain f' nc' nn' o') = absurd (omega arith)
one_reading flags c c' n n' b b' octets (extended f s t x more o e) (sequenced f' g' nc' nn' s' t' x' y' o') = absurd (omega arith)
one_reading flags c c' n n' b b' octets (extended f s t x more o e) (extended f' s' t' x' more' o' e') =
    let same : more ≡ more' = cc in
    let both = agree more c c' n n' 0 0 b b' e (subst (λ (m : List ℕ). AreExtensions m c' n' (0 ∷ b')) (sym same) e') (inl refl) (inl refl) in
    record { container = both.container; number = both.number; body = both.after }

same_content : (p q : Content) → p.kind ≡ q.kind → p.teid ≡ q.teid → SameParts p.container q.container p.number q.number p.body q.body → p ≡ q
same_content p q kinds teids parts =
    let make : GtpKind → ℕ → Option (List ℕ) → Option PduNumber → List ℕ → Content = λ k t c n b. record { kind = k; teid = t; container = c; number = n; body = b } in
    ap (λ k. make k p.teid p.container p.number p.body) kinds
    ∙ (ap (λ t. make q.kind t p.container p.number p.body) teids
    ∙ (ap (λ c. make q.kind q.teid c p.number p.body) parts.container
    ∙ (ap (λ n. make q.kind q.teid q.container n p.body) parts.number
    ∙ ap (λ b. make q.kind q.teid q.container q.number b) parts.body)))

pub one_packet : (p q : Content) (octets : List ℕ) → IsPacket p octets → IsPacket q octets → p ≡ q
one_packet p q octets a b =
    let same = one_header octets a.first b.first p.kind q.kind p.teid q.teid a.after b.after a.header b.header in
    let parts = subst (λ (o : List ℕ). IsAfterTeid (a.first % 8) q.container q.number q.body o) (sym same.after_is) (subst (λ (f : ℕ). IsAfterTeid (f % 8) q.container q.number q.body b.after) (sym same.first_is) b.parts) in
    same_content p q same.kind_is same.teid_is (one_reading (a.first % 8) p.container q.container p.number q.number p.body q.body a.after a.parts parts)

-- the numbers that a flag announces are there
numbers_there : (flags : ℕ) (c : Option (List ℕ)) (n : Option PduNumber) (b octets : List ℕ) → IsAfterTeid flags c n b octets → (flags ≡ 0) ⊎ (4 ≤ length octets)
numbers_there flags c n b octets (plain f nc nn o) = inl f
numbers_there flags c n b octets (sequenced f g nc nn s t x y o) = inr (omega (arith, ap length o))
numbers_there flags c n b octets (extended f s t x more o e) = inr (omega (arith, ap length o, ap length e.spelled, length-append (flat_map octets_of e.headers) (0 ∷ b)))

sound_header : (octets : List ℕ) (first : ℕ) (kind : GtpKind) (teid : ℕ) (after : List ℕ) → HasHeader octets first kind teid after → (first % 8 ≡ 0) ⊎ (4 ≤ length after) → header_fault octets ≡ None
sound_header octets first kind teid after h there =
    let size : length octets ≡ length after + 8 = omega (arith, ap length h.spelled) in
    let place : ℕ → ℕ = λ i. get_or octets i 0 in
    let first-is : place 0 ≡ first = ap (λ (o : List ℕ). get_or o 0 0) h.spelled in
    let type-is : place 1 ≡ message_type kind = ap (λ (o : List ℕ). get_or o 1 0) h.spelled in
    let high : place 2 ≡ length after / 256 % 256 = ap (λ (o : List ℕ). get_or o 2 0) h.spelled in
    let low : place 3 ≡ length after % 256 = ap (λ (o : List ℕ). get_or o 3 0) h.spelled in
    let long : ltb (length octets) 8 ≡ false = le-ltb (length octets) 8 (omega arith) in
    let version : eqb (place 0 / 16) 3 ≡ true = eq-eqb (place 0 / 16) 3 (ap (λ f. f / 16) first-is ∙ h.version) in
    let type : is_none (kind_of (place 1)) ≡ false = ap (λ t. is_none (kind_of t)) type-is ∙ ap is_none (kind-message_type kind) in
    let whole : eqb (256 * place 2 + place 3 + 8) (length octets) ≡ true = eq-eqb (256 * place 2 + place 3 + 8) (length octets) (omega (arith, h.short)) in
    let numbers : (ltb 0 (place 0 % 8) && ltb (length octets) 12) ≡ false = elim there [
      | inl none ↦ and_left (ltb 0 (place 0 % 8)) (ltb (length octets) 12) (le-ltb 0 (place 0 % 8) (omega (arith, ap (λ f. f % 8) first-is, none)))
      | inr four ↦ and_right (ltb 0 (place 0 % 8)) (ltb (length octets) 12) (le-ltb (length octets) 12 (omega (arith, four)))
    ] in
    rw (long, version, type, whole, numbers) refl

first_octet : (octets : List ℕ) (first : ℕ) (kind : GtpKind) (teid : ℕ) (after : List ℕ) → HasHeader octets first kind teid after → get_or octets 0 0 ≡ first
first_octet octets first kind teid after h = ap (λ (o : List ℕ). get_or o 0 0) h.spelled

from_eleven : (octets : List ℕ) (first : ℕ) (kind : GtpKind) (teid : ℕ) (after : List ℕ) → HasHeader octets first kind teid after → drop 11 octets ≡ drop 3 after
from_eleven octets first kind teid after h = ap (drop 11) h.spelled

no_extension_fault : (octets : List ℕ) (e : GtpErr) (flags : ℕ) (c : Option (List ℕ)) (n : Option PduNumber) (b after : List ℕ) → drop 11 octets ≡ drop 3 after → 4 ≤ flags → IsAfterTeid flags c n b after → HasExtensionFault octets e → ⊥
no_extension_fault octets e flags c n b after eleven four (plain f nc nn o) fault = omega arith
no_extension_fault octets e flags c n b after eleven four (sequenced f g nc nn s t x y o) fault = omega arith
no_extension_fault octets e flags c n b after eleven four (extended f s t x more o are) fault =
    let from : drop 11 octets ≡ more = eleven ∙ ap (drop 3) o in
    let fine = subst (λ (m : List ℕ). AreExtensions m c n (0 ∷ b)) (sym from) are in
    let both = agree (drop 11 octets) c fault.container n fault.number 0 fault.type b fault.after fine fault.before (inl refl) (fault_stops fault.container fault.number fault.type fault.after _ e fault.fault) in
    omega (arith, both.type, fault.some)

pub no_fault : (p : Content) (octets : List ℕ) (e : GtpErr) → IsPacket p octets → HasFault octets e → ⊥
no_fault p octets e a fault =
    elim fault [
      | inl early ↦
          let fine = sound_header octets a.first p.kind p.teid a.after a.header (numbers_there (a.first % 8) p.container p.number p.body a.after a.parts) in
          absurd (cc (early, fine))
      | inr late ↦
          let four : 4 ≤ a.first % 8 = subst (λ (f : ℕ). 4 ≤ f % 8) (first_octet octets a.first p.kind p.teid a.after a.header) late.1 in
          no_extension_fault octets e (a.first % 8) p.container p.number p.body a.after (from_eleven octets a.first p.kind p.teid a.after a.header) four a.parts late.2
    ]

one_extension_fault : (octets : List ℕ) (e f : GtpErr) → HasExtensionFault octets e → HasExtensionFault octets f → e ≡ f
one_extension_fault octets e f a b =
    let both = agree (drop 11 octets) a.container b.container a.number b.number a.type b.type a.after b.after a.before b.before (fault_stops a.container a.number a.type a.after _ e a.fault) (fault_stops b.container b.number b.type b.after _ f b.fault) in
    let fault_at : Option (List ℕ) → Option PduNumber → ℕ → List ℕ → Option GtpErr = λ c n t r. extension_fault c n t r (length octets - (length r + 1)) in
    let same : fault_at a.container a.number a.type a.after ≡ fault_at b.container b.number b.type b.after =
    ap (λ c. fault_at c a.number a.type a.after) both.container ∙ (ap (λ n. fault_at b.container n a.type a.after) both.number ∙ (ap (λ t. fault_at b.container b.number t a.after) both.type ∙ ap (fault_at b.container b.number b.type) both.after)) in
    let faults : Some e ≡ Some f = sym a.fault ∙ (same ∙ b.fault) in
    cc

pub one_fault : (octets : List ℕ) (e f : GtpErr) → HasFault octets e → HasFault octets f → e ≡ f
one_fault octets e f a b =
    elim a [
      | inl early ↦ elim b [ inl early' ↦ cc | inr late' ↦ absurd (cc (early, late'.0)) ]
      | inr late ↦ elim b [ inl early' ↦ absurd (cc (early', late.0)) | inr late' ↦ one_extension_fault octets e f late.2 late'.2 ]
    ]

-- what is read is the one packet, and an error the one fault
pub reads_only : (octets : List ℕ) (result : Result Packet GtpErr) (p : Content) → MatchResult result (λ q. IsPacket (view q) octets) (λ e. HasFault octets e) → IsPacket p octets → IsOkAnd result (λ q. view q ≡ p)
reads_only octets (Ok q) p read is = one_packet (view q) p octets read is
reads_only octets (Err e) p read is = no_fault p octets e is read

pub fails_first : (octets : List ℕ) (result : Result Packet GtpErr) (e : GtpErr) → MatchResult result (λ q. IsPacket (view q) octets) (λ f. HasFault octets f) → HasFault octets e → IsErrOf result e
fails_first octets (Ok q) e read fault = absurd (no_fault (view q) octets e read fault)
fails_first octets (Err f) e read fault = ap (λ (g : GtpErr). Err g) (one_fault octets f e read fault)
