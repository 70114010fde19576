-- Sending and confirming leave the shape of a bearer, and the marks of its legs.
use Rattle.std.proofs.Common.{ℕ, ◌≡◌, ◌+◌, Bool, List, [], ◌∷◌, refl, ◌∙◌}
use Rattle.std.specs.Prelude.{fold, is_some}
use Rattle.dc_base.specs.declared.nodes.Cell.{Cell}
use Rattle.dc_base.specs.declared.nodes.Cell.TheVariants.{Mcg, Scg}
use Rattle.split_leg.specs.Legs.{LegsState, is_repeat, leg_at, settled_on_both, with_ack, with_leg, with_send}
use Rattle.split_leg.specs.Routes.{route_of}
use Rattle.split_leg.specs.declared.legs.Route.{Route}
use Rattle.split_leg.specs.declared.legs.Route.TheVariants as route
use Rattle.node_rules.specs.Choices.{Choices}
use Rattle.node_rules.specs.Sending.{Pdu, put_by, put_on, send_each, send_one}

-- both have one shape, and mark the same legs as failed
pub record SameLegs (a b : LegsState) : Type 0 where
  pub shape : a.shape ≡ b.shape
  pub mcg : a.mcg.failed ≡ b.mcg.failed
  pub scg : a.scg.failed ≡ b.scg.failed

pub same_legs : (a : LegsState) → SameLegs a a
same_legs a = record { shape = refl; mcg = refl; scg = refl }

then_same : (a b c : LegsState) → SameLegs b a → SameLegs c b → SameLegs c a
then_same a b c first next = record { shape = next.shape ∙ first.shape; mcg = next.mcg ∙ first.mcg; scg = next.scg ∙ first.scg }

put_on_same : (cell : Cell) (repeat : Bool) (pdu : Pdu) (legs : LegsState) → SameLegs (put_on cell repeat pdu legs).0 legs
put_on_same Mcg repeat pdu legs = record { shape = refl; mcg = refl; scg = refl }
put_on_same Scg repeat pdu legs = record { shape = refl; mcg = refl; scg = refl }

put_by_same : (r : Route) (repeat : Bool) (pdu : Pdu) (legs : LegsState) → SameLegs (put_by r repeat pdu legs).0 legs
put_by_same route.None repeat pdu legs = same_legs legs
put_by_same (route.One cell) repeat pdu legs = put_on_same cell repeat pdu legs
put_by_same route.Both repeat pdu legs =
    let mcg = (put_on Mcg repeat pdu legs).0 in then_same legs mcg (put_on Scg repeat pdu mcg).0 (put_on_same Mcg repeat pdu legs) (put_on_same Scg repeat pdu mcg)

send_one_same : (c : Choices) (pdu : Pdu) (legs : LegsState) → SameLegs (send_one c pdu legs).0 legs
send_one_same c pdu legs =
    let on = put_by_same (route_of legs c.policies (is_some pdu.0)) (is_repeat (with_send legs) pdu.0) pdu (with_send legs) in
    record { shape = on.shape; mcg = on.mcg; scg = on.scg }

-- sends
pub send_each_same : (c : Choices) (pdus : List Pdu) (legs : LegsState) → SameLegs (send_each c pdus legs).0 legs
send_each_same c [] legs = same_legs legs
send_each_same c (pdu ∷ pdus) legs =
    let here = (send_one c pdu legs).0 in then_same legs here (send_each c pdus here).0 (send_one_same c pdu legs) (send_each_same c pdus here)

-- an ack
pub with_ack_same : (cell : Cell) (num : ℕ) (legs : LegsState) → SameLegs (with_leg legs cell (with_ack (leg_at legs cell) num)) legs
with_ack_same Mcg num legs = record { shape = refl; mcg = refl; scg = refl }
with_ack_same Scg num legs = record { shape = refl; mcg = refl; scg = refl }

-- confirmed COUNTs
pub settled_same : (cs : List ℕ) (legs : LegsState) → SameLegs (fold (λ ls c. settled_on_both c (c + 1) ls) legs cs) legs
settled_same [] legs = same_legs legs
settled_same (c ∷ cs) legs =
    let here = settled_on_both c (c + 1) legs in then_same legs here (fold (λ ls d. settled_on_both d (d + 1) ls) here cs) (record { shape = refl; mcg = refl; scg = refl }) (settled_same cs here)
