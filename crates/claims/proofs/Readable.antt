-- From the tests to what they say.
use Rattle.std.proofs.Common.{ℕ, ◌≡◌, ◌==◌, Bool, true, false, List, [], ◌∷◌, Option, Some, None, refl, sym, ap, ◌∙◌, inl, inr, map}
use Rattle.std.specs.Prelude.{nat_lt, not, if◌then◌else◌, ◌&&◌, ◌||◌}
use Rattle.std.specs.List.{AllByRecursion, list_all, list_any}
use Rattle.std.specs.Prelude.{filter}
use Rattle.std.proofs.lemmas.Bool.{eqb-true, eq-eqb, leb-true, and_parts, and_from, cases_Bool}
use Rattle.std.proofs.lemmas.Map.Views.{Contains-from_any}
use Rattle.dc_base.specs.declared.nodes.Dir.{Dir}
use Rattle.dc_base.specs.declared.nodes.Node.{Node}
use Rattle.dc_base.specs.declared.nodes.KeyName.{KeyName}
use Rattle.dc_base.specs.declared.nodes.LinkId.{LinkId}
use Rattle.dc_base.specs.declared.flights.Flight.{Flight}
use Rattle.dc_base.specs.declared.events.Line.{Line}
use Rattle.dc_base.specs.declared.events.Line.TheVariants as line
use Rattle.dc_base.specs.declared.events.Note.TheVariants as note
use Rattle.dc_base.specs.Count.{window}
use Rattle.transcript.specs.Transcript.{Entry}
use Rattle.claims.specs.Sameness.{is_same_octets, are_same_payloads, is_payload, is_some_and, is_none_or, is_among, is_same_key, implies}
use Rattle.claims.specs.Views.{Pdu, data_of}
use Rattle.claims.specs.Table.{Claimed}
use Rattle.claims.specs.Past.{Past, Bearer, Lane, Calm, untouched, recovered, lossless, lossy}
use Rattle.claims.specs.Reading.{Setting, setting, bearer_of, latest, lane, deliv, next_count, submission}
use Rattle.claims.specs.Taking.{direction_of}
use Rattle.claims.specs.Judged.{judged}
use Rattle.claims.specs.Noted.{noted, after}
use Rattle.claims.specs.Claim.{Claim, EachLine, Each, each_line, each}
use Rattle.claims.specs.Protected.{protects, protected_pdu, is_protected, is_protected_pdu}
use Rattle.claims.specs.HandedUp.{has_taken, is_carried, is_next, is_front}
use Rattle.claims.specs.OneUse.{uses_of, is_used_by, uses_once, is_one_use}
use Rattle.claims.specs.Told.{frees, is_told, is_in_window}
use Rattle.claims.specs.AtRest.{is_at_rest, is_under_way, is_lossless, is_undisturbed, has_live_leg, is_able, is_whole, has_all_of_it}
use Rattle.claims.specs.Says.{Protects, IsCarriedUp, IsNextUp, IsUseOf, IsUsedOnce, IsFreed, IsInWindow, payloads, HasAll, IsAble, HasAllOfIt, HasAllUndisturbed}

-- ---- a claim that computes holds of each line and entry, and one that does not is refuted

pub each_line_is : (c : Past → Line → Bool) (p : Past) (xs : List Line) → each_line c p xs ≡ true → EachLine c p xs
each_line_is c p [] is = tt
each_line_is c p (x ∷ xs) is = let both = and_parts _ _ is in (both.0, each_line_is c (noted p x) xs both.1)

pub each_is : (c : Claim) (p : Past) (es : List Entry) → each c p es ≡ true → Each c p es
each_is c p [] is = tt
each_is c p (e ∷ es) is =
    let both = and_parts _ _ is in
    let here = and_parts _ _ both.0 in
    (each_line_is c.of_line (judged e.event e.answer p) e.lines here.0, here.1, each_is c (after p e) es both.1)

pub each_line_from : (c : Past → Line → Bool) (p : Past) (xs : List Line) → EachLine c p xs → each_line c p xs ≡ true
each_line_from c p [] all = refl
each_line_from c p (x ∷ xs) all = and_from (c p x) (each_line c (noted p x) xs) all.0 (each_line_from c (noted p x) xs all.1)

pub each_from : (c : Claim) (p : Past) (es : List Entry) → Each c p es → each c p es ≡ true
each_from c p [] all = refl
each_from c p (e ∷ es) all =
    and_from _ _ (and_from _ _ (each_line_from c.of_line (judged e.event e.answer p) e.lines all.0) all.1) (each_from c (after p e) es all.2)

pub refuted : (c : Claim) (p : Past) (es : List Entry) → each c p es ≡ false → Each c p es → ⊥
refuted c p es is all = let holds = each_from c p es all in cc

-- ---- octets, payloads and options

pub octets_are : (xs ys : List ℕ) → is_same_octets xs ys ≡ true → xs ≡ ys
octets_are [] [] is = refl
octets_are [] (y ∷ ys) is = absurd cc
octets_are (x ∷ xs) [] is = absurd cc
octets_are (x ∷ xs) (y ∷ ys) is =
    let both = and_parts _ _ is in let head = eqb-true x y both.0 in let tail = octets_are xs ys both.1 in cc

pub payloads_are : (xs ys : List (List ℕ)) → are_same_payloads xs ys ≡ true → xs ≡ ys
payloads_are [] [] is = refl
payloads_are [] (y ∷ ys) is = absurd cc
payloads_are (x ∷ xs) [] is = absurd cc
payloads_are (x ∷ xs) (y ∷ ys) is =
    let both = and_parts _ _ is in let head = octets_are x y both.0 in let tail = payloads_are xs ys both.1 in cc

-- what is there, and passes a test
pub found : {X : Type 0} (f : X → Bool) (o : Option X) → is_some_and f o ≡ true → (x : X) × (o ≡ Some x) × (f x ≡ true)
found f None is = absurd cc
found f (Some x) is = (x, refl, is)

pub payload_is : (o : Option (List ℕ)) (ys : List ℕ) → is_payload o ys ≡ true → o ≡ Some ys
payload_is o ys is = let here = found (λ xs. is_same_octets xs ys) o is in here.1 ∙ ap Some (octets_are here.0 ys here.2)

-- ---- protected

protects_is : (p : Past) (d : Dir) (u : Pdu) (tag : Option ℕ) (s : Option Setting) (b : Option Bearer) → u.tag ≡ tag → setting p u.id u.g ≡ s
    → bearer_of p u.id u.g ≡ b → protects p d u tag s b ≡ true → Protects p d u
protects_is p d u (Some c) (Some s) (Some b) t e f is =
    let here = found (λ x. is_same_octets u.octets (protected_pdu p b s.key d c x)) (submission d c b) is in
    record {
      bearer = b;
      of_bearer = f;
      set = s;
      in_plan = e;
      count = c;
      tagged = t;
      sdu = here.0;
      submitted = here.1;
      octets_are = octets_are u.octets (protected_pdu p b s.key d c here.0) here.2;
    }
protects_is p d u None s b t e f is = absurd cc
protects_is p d u (Some c) None b t e f is = absurd cc
protects_is p d u (Some c) (Some s) None t e f is = absurd cc

-- each data PDU that is sent protects its submission
pub protected_is : (p : Past) (l : LinkId) (f : Flight) (u : Pdu) → data_of f ≡ Some u → is_protected p (line.Send l f) ≡ true → Protects p (direction_of p l u) u
protected_is p l f u e is =
    let here : is_protected_pdu p l f u ≡ true = sym (ap (is_none_or (is_protected_pdu p l f)) e) ∙ is in
    protects_is p (direction_of p l u) u u.tag (setting p u.id u.g) (bearer_of p u.id u.g) refl refl refl (and_parts _ _ here).0

-- ---- handed up

pub carried_is : (p : Past) (x : Node) (id : ℕ) (d : Dir) (c : ℕ) (sdu : List ℕ) → is_carried p (line.Note (note.Up x id d c sdu)) ≡ true → IsCarriedUp p id d c
carried_is p x id d c sdu is =
    let here = found (λ b. is_among c (lane d b).taken) (latest p id) (and_parts _ _ is).0 in
    record {
      bearer = here.0;
      is_latest = here.1;
      taken = Contains-from_any {eq = λ q k. k == q} (λ q k e. sym (eqb-true k q e)) c (lane d here.0).taken here.2;
    }

pub next_is : (p : Past) (x : Node) (id : ℕ) (d : Dir) (c : ℕ) (sdu : List ℕ) → is_front p (line.Note (note.Up x id d c sdu)) ≡ true → IsNextUp p id d c sdu
next_is p x id d c sdu is =
    let here = found (λ b. (c == deliv d b) && is_payload (submission d c b) sdu) (latest p id) is in
    let both = and_parts _ _ here.2 in
    record {
      bearer = here.0;
      is_latest = here.1;
      counted = eqb-true c (deliv d here.0) both.0;
      submitted = payload_is (submission d c here.0) sdu both.1;
    }

-- ---- one use

same_key : (x y : KeyName) → y ≡ x → is_same_key x y ≡ true
same_key x y e = ap (is_same_key x) e ∙ and_from _ _ (eq-eqb x.root x.root refl) (eq-eqb _ _ refl)

used_alone : (b : Bearer) (key : KeyName) (cs : List Claimed) → list_all (λ c. c.bearer == b.g) (uses_of b.id key cs) ≡ true → AllByRecursion (IsUseOf b key) cs
used_alone b key [] is = tt
used_alone b key (c ∷ cs) is =
    elim (cases_Bool ((c.id == b.id) && is_same_key key c.key)) [
      | inl this ↦
          let all : ((c.bearer == b.g) && list_all (λ x. x.bearer == b.g) (uses_of b.id key cs)) ≡ true =
          sym (ap (λ t. list_all (λ (x : Claimed). x.bearer == b.g) (if t then c ∷ uses_of b.id key cs else uses_of b.id key cs)) this) ∙ is in
          let both = and_parts _ _ all in
          (λ i k. eqb-true c.bearer b.g both.0, used_alone b key cs both.1)
      | inr other ↦
          let rest : list_all (λ x. x.bearer == b.g) (uses_of b.id key cs) ≡ true =
          sym (ap (λ t. list_all (λ (x : Claimed). x.bearer == b.g) (if t then c ∷ uses_of b.id key cs else uses_of b.id key cs)) other) ∙ is in
          (λ i k. let same : ((c.id == b.id) && is_same_key key c.key) ≡ true = and_from _ _ (eq-eqb c.id b.id i) (same_key key c.key k) in absurd cc, used_alone b key cs rest)
    ]

used_of : (p : Past) (u : Pdu) (s : Option Setting) (b : Option Bearer) → setting p u.id u.g ≡ s → bearer_of p u.id u.g ≡ b → uses_once p s b ≡ true → IsUsedOnce p u
used_of p u (Some s) (Some b) e f is = record {
  bearer = b;
  of_bearer = f;
  set = s;
  in_plan = e;
  alone = used_alone b s.key p.table.uses (and_parts _ _ is).1;
}
used_of p u None b e f is = absurd cc
used_of p u (Some s) None e f is = absurd cc

-- the key of a data PDU that is sent is in use by its establishment alone
pub used_once : (p : Past) (l : LinkId) (f : Flight) (u : Pdu) → data_of f ≡ Some u → is_one_use p (line.Send l f) ≡ true → IsUsedOnce p u
used_once p l f u e is =
    let own : (v : Pdu) → Bool = λ v. uses_once p (setting p v.id v.g) (bearer_of p v.id v.g) in
    used_of p u (setting p u.id u.g) (bearer_of p u.id u.g) refl refl (sym (ap (is_none_or own) e) ∙ (and_parts _ _ is).0)

-- ---- told and the window

pub freed_is : (p : Past) (id : ℕ) (d : Dir) (c : ℕ) → is_told p (line.Note (note.Freed id d c)) ≡ true → IsFreed p id d c
freed_is p id d c is =
    let here = found (λ b. (c == (lane d b).told) && nat_lt (lane d b).freed c) (latest p id) is in
    let both = and_parts _ _ here.2 in
    record { bearer = here.0; is_latest = here.1; value = eqb-true c (lane d here.0).told both.0; rises = leb-true _ _ both.1 }

pub window_is : (d : Dir) (b : Bearer) → is_in_window d b ≡ true → IsInWindow d b
window_is d b is =
    let two = and_parts _ _ is in
    let one = and_parts _ _ two.0 in
    record { told = leb-true _ _ one.0; handed = leb-true _ _ one.1; submitted = leb-true _ _ two.1 }

-- ---- all of it

able_is : (p : Past) (b : Bearer) → IsAble p b → is_able p b ≡ true
able_is p b a = and_from _ _ (and_from _ _ (and_from _ _ a.is_done (ap not a.not_dropped)) (ap not a.none_lost)) a.leg_left

implied : (a b : Bool) → implies a b ≡ true → a ≡ true → b ≡ true
implied true b is e = is
implied false b is e = absurd cc

pub all_of_it_is : (p : Past) (b : Bearer) → has_all_of_it p b ≡ true → HasAllOfIt p b
all_of_it_is p b is able rest calm =
    let whole : (is_whole b.up && is_whole b.down) ≡ true = implied _ _ is (and_from _ _ (and_from _ _ (able_is p b able) rest) calm) in
    let both = and_parts _ _ whole in
    record { up = payloads_are (payloads b.up) b.up.submitted both.0; down = payloads_are (payloads b.down) b.down.submitted both.1 }

undisturbed_is_lossless : (c : Calm) → is_undisturbed c ≡ true → is_lossless c ≡ true
undisturbed_is_lossless untouched is = refl
undisturbed_is_lossless recovered is = refl
undisturbed_is_lossless lossless is = refl
undisturbed_is_lossless lossy is = absurd cc

pub undisturbed_is : (p : Past) (b : Bearer) → has_all_of_it p b ≡ true → HasAllUndisturbed p b
undisturbed_is p b is able empty calm =
    all_of_it_is p b is able (ap (λ ss. not (list_any (is_under_way p b) ss)) empty) (undisturbed_is_lossless b.calm calm)
