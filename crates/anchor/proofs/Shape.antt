-- A send keeps the shape of the legs, so it does not matter whose setup says where PDUs go: that before it or that after it.
use Rattle.std.proofs.Common.{ℕ, ◌≡◌, Bool, List, [], ◌∷◌, Result, Ok, Err, IfOk, fold, refl, sym, ap, ◌∙◌}
use Rattle.std.specs.List.{flat_map}
use Rattle.dc_base.specs.declared.nodes.Cell.{Cell}
use Rattle.dc_base.specs.declared.nodes.Cell.TheVariants.{Mcg, Scg}
use Rattle.dc_base.specs.declared.nodes.Shape.{Shape}
use Rattle.split_leg.specs.Legs.{LegsState, LegState, with_leg, with_send, is_repeat}
use Rattle.split_leg.specs.Routes.{route_of}
use Rattle.split_leg.specs.declared.legs.Route.{Route}
use Rattle.split_leg.specs.declared.legs.Route.TheVariants as route
use Rattle.node_rules.specs.Anchor.{Active}
use Rattle.node_rules.specs.AnchorSending.{with_sends, leg_send, tunnelled}
use Rattle.node_rules.specs.Choices.{Choices, Send}
use Rattle.node_rules.specs.Entity.{Entity}
use Rattle.node_rules.specs.declared.bearers.OnLeg.{OnLeg}
use Rattle.node_rules.specs.Sending.{Pdu, put_by, send_each, send_one, sends}
use Rattle.node_rules.specs.Setup.{anchor_cell, is_same_cell}
use Rattle.std.specs.Prelude.{is_some}

shape-with_leg : (legs : LegsState) (cell : Cell) (leg : LegState) → (with_leg legs cell leg).shape ≡ legs.shape
shape-with_leg legs Mcg leg = refl
shape-with_leg legs Scg leg = refl

shape-put_by : (r : Route) (repeat : Bool) (pdu : Pdu) (legs : LegsState) → (put_by r repeat pdu legs).0.shape ≡ legs.shape
shape-put_by route.None repeat pdu legs = refl
shape-put_by (route.One cell) repeat pdu legs = shape-with_leg legs cell _
shape-put_by route.Both repeat pdu legs = refl

shape-send_one : (c : Choices) (pdu : Pdu) (legs : LegsState) → (send_one c pdu legs).0.shape ≡ legs.shape
shape-send_one c pdu legs = shape-put_by (route_of legs c.policies (is_some pdu.0)) (is_repeat (with_send legs) pdu.0) pdu (with_send legs)

shape-send_each : (c : Choices) (pdus : List Pdu) (legs : LegsState) → (send_each c pdus legs).0.shape ≡ legs.shape
shape-send_each c [] legs = refl
shape-send_each c (pdu ∷ pdus) legs = shape-send_each c pdus (send_one c pdu legs).0 ∙ shape-send_one c pdu legs

-- the anchor with what its entity sent, from the anchor that has the entity after it
pub with_sends-after : (c : Choices) (a : Active) (pdus : List Pdu)
    → with_sends (record a { entity = (sends c a.entity pdus).0 }) (sends c a.entity pdus) ≡ with_sends a (sends c a.entity pdus)
with_sends-after c a pdus =
    let done = sends c a.entity pdus in
    ap {B = Active × List Send} (λ (shape : Shape). (
      record a { entity = done.0; tunnel = fold (λ o p. tunnelled o p (is_same_cell p.cell (anchor_cell shape))) a.tunnel done.1 },
      flat_map (λ p. leg_send (record a.entity.setup { legs = record a.entity.setup.legs { shape = shape } }) p (is_same_cell p.cell (anchor_cell shape))) done.1,
    )) (shape-send_each c pdus a.entity.setup.legs)

-- the same, where the entity and what it put on the legs are known by an equation
pub with_sends-carried : (c : Choices) (a : Active) (pdus : List Pdu) (e : Entity) (on_legs : List OnLeg)
    → ◌≡◌ {A = Entity × List OnLeg} (e, on_legs) (sends c a.entity pdus)
    → with_sends (record a { entity = e }) (e, on_legs) ≡ with_sends a (sends c a.entity pdus)
with_sends-carried c a pdus e on_legs is =
    ap {B = Active × List Send} (λ (done : Entity × List OnLeg). with_sends (record a { entity = done.0 }) done) is ∙ with_sends-after c a pdus

-- what an answer and the state after it are, by way of an equal pair
pub if_sends : {E : Type 0} (r : Result (List Send) E) (a : Active) {y z : Active × List Send} → y ≡ z
    → IfOk r (λ sends. ◌≡◌ {A = Active × List Send} (a, sends) y) → IfOk r (λ sends. ◌≡◌ {A = Active × List Send} (a, sends) z)
if_sends (Ok sends) a same is = is ∙ same
if_sends (Err e) a same is = tt
