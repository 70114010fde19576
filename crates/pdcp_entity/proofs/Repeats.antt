-- A PDU that goes on both legs is one send.
use Rattle.std.proofs.Common.{ℕ, ◌≡◌, ◌≤◌, ◌∙◌, Bool, false, List, [], ◌∷◌, length, Option, Some, None, refl, ap, sym, arith, Result, Ok, Err, OnOk}
use Rattle.std.proofs.lemmas.List.{take-append-le}
use Rattle.dc_base.specs.declared.nodes.Cell.TheVariants.{Mcg, Scg}
use Rattle.node_rules.specs.Sending.{put_by, put_on}
use Rattle.node_rules.specs.declared.bearers.OnLeg.{OnLeg}
use Rattle.split_leg.specs.Legs.{LegsState, is_repeat, with_leg, with_pdu}
use Rattle.split_leg.specs.declared.legs.Route.TheVariants as route

-- what the present send put on the MCG leg makes no PDU a repeat
repeat-put : (legs : LegsState) (tag count : Option ℕ) (octets : ℕ) (r : Bool)
    → length legs.mcg.pdus ≡ legs.mcg.before → is_repeat (with_leg legs Mcg (with_pdu legs.mcg tag octets r)) count ≡ is_repeat legs count
repeat-put legs tag None octets r ended = refl
repeat-put legs tag (Some c) octets r ended =
    let within : legs.mcg.before ≤ length legs.mcg.pdus = omega (arith, ended) in
    rw (take-append-le legs.mcg.before legs.mcg.pdus (record { count = tag; octets = octets; repeat = r; acked = false; settled = false } ∷ []) within) refl

-- a PDU on both legs
pub both : (legs0 legs1 legs2 : LegsState) (tag : Option ℕ) (pdu copy : List ℕ) (one two : OnLeg)
    → legs0.mcg.before ≡ length legs0.mcg.pdus → copy ≡ pdu
    → (legs1, one) ≡ put_on Mcg (is_repeat legs0 tag) (tag, copy) legs0
    → (legs2, two) ≡ put_on Scg (is_repeat legs1 tag) (tag, pdu) legs1
    → (legs2 ≡ (put_by route.Both (is_repeat legs0 tag) (tag, pdu) legs0).0) × (one ∷ two ∷ [] ≡ (put_by route.Both (is_repeat legs0 tag) (tag, pdu) legs0).1)
both legs0 legs1 legs2 tag pdu copy one two ended same first second =
    let r : Bool = is_repeat legs0 tag in
    let first_is : (legs1, one) ≡ put_on Mcg r (tag, pdu) legs0 = first ∙ ap (λ (octets : List ℕ). put_on Mcg r (tag, octets) legs0) same in
    let legs_is : legs1 ≡ (put_on Mcg r (tag, pdu) legs0).0 = ap (λ (x : LegsState × OnLeg). x.0) first_is in
    let r_is : is_repeat legs1 tag ≡ r = ap (λ (legs : LegsState). is_repeat legs tag) legs_is ∙ repeat-put legs0 tag tag (length pdu) r (sym ended) in
    let second_is : (legs2, two) ≡ put_on Scg r (tag, pdu) (put_on Mcg r (tag, pdu) legs0).0 =
    second ∙ ap (λ (b : Bool). put_on Scg b (tag, pdu) legs1) r_is ∙ ap (λ (legs : LegsState). put_on Scg r (tag, pdu) legs) legs_is in
    let one_is = ap (λ (x : LegsState × OnLeg). x.1) first_is in
    let two_is = ap (λ (x : LegsState × OnLeg). x.1) second_is in (
      ap (λ (x : LegsState × OnLeg). x.0) second_is,
      ap (λ (x : OnLeg). x ∷ two ∷ []) one_is ∙ ap (λ (x : OnLeg). (put_on Mcg r (tag, pdu) legs0).1 ∷ x ∷ []) two_is,
    )

-- what holds, holds after a call that did not fail
pub on_ok : {T E : Type 0} (r : Result T E) (P : Type 0) → P → OnOk r P
on_ok (Ok x) P p = p
on_ok (Err e) P p = tt
