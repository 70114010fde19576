-- At which node a PDU is taken: the master or a secondary node, and what the other nodes have stays.
use Rattle.std.proofs.Common.{ℕ, ◌≡◌, ◌==◌, true, false, List, refl, ap, ◌∙◌}
use Rattle.std.specs.Option.{option_map}
use Rattle.dc_base.specs.Nodes.{is_same_node}
use Rattle.dc_base.specs.declared.events.Event.{Event}
use Rattle.dc_base.specs.declared.flights.Flight.{Flight}
use Rattle.dc_base.specs.declared.nodes.Class.{Class}
use Rattle.dc_base.specs.declared.nodes.LinkId.{LinkId}
use Rattle.dc_base.specs.declared.nodes.Node.{Node}
use Rattle.dc_base.specs.declared.nodes.Node.TheVariants.{A, B, M, T}
use Rattle.node_rules.specs.Anchor.{Active}
use Rattle.node_rules.specs.Choices.{Choices}
use Rattle.node_rules.specs.Effects.{accepted}
use Rattle.node_rules.specs.Feed.{Fed}
use Rattle.node_rules.specs.Master.{MasterNode}
use Rattle.node_rules.specs.MasterStep.{master_takes}
use Rattle.node_rules.specs.Run.{carried_on, given_to, happening}
use Rattle.node_rules.specs.SecondStep.{second_takes}
use Rattle.node_rules.specs.Secondary.{SecondNode}
use Rattle.node_rules.specs.World.{World}
use Rattle.node_rules.specs.declared.inputs.Effects.{Effects}
use Rattle.node_rules.specs.declared.inputs.Input.TheVariants.{Come}
use Rattle.node_rules.specs.declared.inputs.Outcome.{Outcome}
use Rattle.pdcp_rx.specs.Entries.{Entry}
use Rattle.run_received.specs.Receivers.{anchor_at}
use Rattle.run_received.proofs.Nodes.{MasterHands, SecondHands}
use Rattle.run_received.proofs.Steps.{NodeTakes}

-- ---- what a given flight comes to

pub given_to_master : (c : Choices) (w : World) (e : Event) (l : LinkId) (f : Flight) (k : Class) → happening w e ≡ given_to M (Come l f) → l.class ≡ k
    → (let done = master_takes c w.master l.from f k in carried_on c w (happening w e) ≡ (record w { master = done.0 }, (accepted done).1))
given_to_master c w e l f k is class =
    ap (carried_on c w) is
    ∙ ap {B = World × Outcome} (λ j. let done = master_takes c w.master l.from f j in (record w { master = done.0 }, (accepted done).1)) class

pub given_to_a : (c : Choices) (w : World) (e : Event) (l : LinkId) (f : Flight) (k : Class) → happening w e ≡ given_to A (Come l f) → l.class ≡ k
    → (let done = second_takes c w.a f k in carried_on c w (happening w e) ≡ (record w { a = done.0 }, (accepted done).1))
given_to_a c w e l f k is class =
    ap (carried_on c w) is ∙ ap {B = World × Outcome} (λ j. let done = second_takes c w.a f j in (record w { a = done.0 }, (accepted done).1)) class

pub given_to_b : (c : Choices) (w : World) (e : Event) (l : LinkId) (f : Flight) (k : Class) → happening w e ≡ given_to B (Come l f) → l.class ≡ k
    → (let done = second_takes c w.b f k in carried_on c w (happening w e) ≡ (record w { b = done.0 }, (accepted done).1))
given_to_b c w e l f k is class =
    ap (carried_on c w) is ∙ ap {B = World × Outcome} (λ j. let done = second_takes c w.b f j in (record w { b = done.0 }, (accepted done).1)) class

-- ---- what the nodes have then

pub master_node_takes : (w : World) (id : ℕ) (a : Active) (es : List Entry) (done : MasterNode × Effects) → MasterHands w.master id a es done
    → NodeTakes w (record w { master = done.0 }) M id a
master_node_takes w id a es done h = record { here = h.anchor; there = there; others = others; terminal = refl }
  where
    there : (y : Node) → is_same_node M y ≡ false → anchor_at y (record w { master = done.0 }) id ≡ anchor_at y w id
    there M apart = absurd (let bad : true ≡ false = apart in cc)
    there A apart = refl
    there B apart = refl
    there T apart = refl

    others : (y : Node) (k : ℕ) → (id == k) ≡ false → anchor_at y (record w { master = done.0 }) k ≡ anchor_at y w k
    others M k apart = h.others k apart
    others A k apart = refl
    others B k apart = refl
    others T k apart = refl

pub a_node_takes : (w : World) (id : ℕ) (x : Fed) (a : Active) (es : List Entry) (done : SecondNode × Effects) → SecondHands w.a id x a es done
    → NodeTakes w (record w { a = done.0 }) A id a
a_node_takes w id x a es done h = record { here = ap (option_map (λ (f : Fed). f.anchor)) h.anchor; there = there; others = others; terminal = refl }
  where
    there : (y : Node) → is_same_node A y ≡ false → anchor_at y (record w { a = done.0 }) id ≡ anchor_at y w id
    there M apart = refl
    there A apart = absurd (let bad : true ≡ false = apart in cc)
    there B apart = refl
    there T apart = refl

    others : (y : Node) (k : ℕ) → (id == k) ≡ false → anchor_at y (record w { a = done.0 }) k ≡ anchor_at y w k
    others M k apart = refl
    others A k apart = ap (option_map (λ (f : Fed). f.anchor)) (h.others k apart)
    others B k apart = refl
    others T k apart = refl

pub b_node_takes : (w : World) (id : ℕ) (x : Fed) (a : Active) (es : List Entry) (done : SecondNode × Effects) → SecondHands w.b id x a es done
    → NodeTakes w (record w { b = done.0 }) B id a
b_node_takes w id x a es done h = record { here = ap (option_map (λ (f : Fed). f.anchor)) h.anchor; there = there; others = others; terminal = refl }
  where
    there : (y : Node) → is_same_node B y ≡ false → anchor_at y (record w { b = done.0 }) id ≡ anchor_at y w id
    there M apart = refl
    there A apart = refl
    there B apart = absurd (let bad : true ≡ false = apart in cc)
    there T apart = refl

    others : (y : Node) (k : ℕ) → (id == k) ≡ false → anchor_at y (record w { b = done.0 }) k ≡ anchor_at y w k
    others M k apart = refl
    others A k apart = refl
    others B k apart = ap (option_map (λ (f : Fed). f.anchor)) (h.others k apart)
    others T k apart = refl
