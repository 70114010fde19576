-- What is taken is not aged, so the terminal infers the COUNT of a PDU that is not too far ahead, and the tag of a delivery status is not
-- behind (this product's own premise on packet lifetime).
use Rattle.std.proofs.Common.{◌≡◌, ℕ, ◌+◌, ◌-◌, ◌<◌, ◌≤◌, ◌^◌, true, false, Bool, List, Option, Some, None, refl, sym, ap, ◌∙◌, arith}
use Rattle.std.specs.Prelude.{IfSome, if◌then◌else◌}
use Rattle.std.proofs.lemmas.Bool.{eq-eqb, ltb-false}
use Rattle.dc_base.specs.Count.{sn, window}
use Rattle.dc_base.specs.declared.flights.Flight.TheVariants as flight
use Rattle.dc_base.proofs.Counting.{count_for_is}
use Rattle.pdcp_pdu.specs.DataPdu.{is_data}
use Rattle.node_rules.specs.Entity.{Entity}
use Rattle.node_rules.specs.Flights.{packet_weight, weight}
use Rattle.node_rules.specs.Held.{held}
use Rattle.node_rules.specs.NodeRule.{terminal_node}
use Rattle.node_rules.specs.NodeRule.{NodeState}
use Rattle.node_rules.specs.Packets.{Packet, delivery, packet_of}
use Rattle.node_rules.specs.Readers.{edges_at, edges_of, entity_at, entity_edges, is_aged_for, is_behind}
use Rattle.node_rules.specs.declared.bearers.Weight.TheVariants.{DataPduOf as data_pdu_of, Weightless as weightless}
use Rattle.nr_u.specs.declared.frame.Frame.TheVariants.{Status}
use Rattle.nr_u.specs.declared.frame.Range.{Range}
use Rattle.pdcp_tx.specs.Sender.{low}
use Rattle.node_rules.specs.Terminal.{TerminalNode}
use Rattle.node_rules.specs.TerminalHalf.{TerminalHalf}
use Rattle.run_confirms.specs.Terminals.{IsInferred}
use Rattle.run_senders.specs.Holders.{IfThere}
use Rattle.run_confirmed.specs.Worlds.{Infers}

-- a COUNT within a window round RX_DELIV is inferred
pub near_inferred : (h : TerminalHalf) (count : ℕ) → count < 2 ^ 32 - 1 → h.rx.deliv ≤ count + window h.setup.n → count < h.rx.deliv + window h.setup.n → IsInferred h count
near_inferred h count small above below =
    (count_for_is h.setup.n h.rx.deliv (sn h.setup.n count) count (omega (arith, small)) (record { low = above; high = below; shows = refl }), small)

-- what is not a window behind an edge of an entity of its generation
not_behind : (e : Entity) (g count : ℕ) → e.setup.g ≡ g → is_behind count (λ x. x.deliv) (edges_of g (Some e)) ≡ false → e.rx.deliv ≤ count + window e.setup.n
not_behind e g count same aged =
    let here : edges_of g (Some e) ≡ Some (entity_edges e) = ap (λ (b : Bool). if b then Some (entity_edges e) else None) (eq-eqb e.setup.g g same) in
    let is : is_behind count (λ x. x.deliv) (Some (entity_edges e)) ≡ false = ap (is_behind count (λ x. x.deliv)) (sym here) ∙ aged in
    ltb-false (count + window e.setup.n) e.rx.deliv is

-- a data PDU that is not aged, and lies less than a window ahead of RX_DELIV: the terminal infers its COUNT
pub unaged_infers : (t : TerminalNode) (id g num count : ℕ) (pdu : List ℕ) → is_data pdu ≡ true → is_aged_for (terminal_node t) (weight (flight.Air id g num (Some count) pdu)) ≡ false
    → IfThere (λ (h : TerminalHalf). h.setup.g ≡ g → (count < 2 ^ 32 - 1) × (count < h.rx.deliv + window h.setup.n)) (held id t.halves)
    → Infers t (flight.Air id g num (Some count) pdu)
unaged_infers t id g num count pdu data' aged near = by (held id t.halves) near unaged
  where
    unaged : is_behind count (λ x. x.deliv) (edges_of g (held id t.halves)) ≡ false
    unaged = sym (ap (λ (b : Bool). is_aged_for (terminal_node t) (if b then data_pdu_of id g count else weightless)) data') ∙ aged

    by : (o : Option TerminalHalf) → IfThere (λ (h : TerminalHalf). h.setup.g ≡ g → (count < 2 ^ 32 - 1) × (count < h.rx.deliv + window h.setup.n)) o
        → is_behind count (λ x. x.deliv) (edges_of g o) ≡ false → IfThere (λ (h : TerminalHalf). h.setup.g ≡ g → IfSome (Some count) (IsInferred h)) o
    by None near unaged = tt
    by (Some h) near unaged = λ same. near_inferred h count (near same).0 (not_behind h g count same unaged) (near same).1

-- a delivery status that is not aged for a node with the active entity of its generation: its tag is not a window behind Low
pub unaged_status : (s : NodeState) (id g count highest : ℕ) (packet : List ℕ) (lost : List Range) (e : Entity) → packet_of packet ≡ delivery id g (Status (Some highest) lost)
    → is_aged_for s (weight (flight.Tun (Some count) packet)) ≡ false → entity_at s id ≡ Some e → e.setup.g ≡ g → low e.tx ≤ count + window e.setup.n
unaged_status s id g count highest packet lost e said aged there same =
    let weighed : is_behind count (λ x. x.low) (edges_at s id g) ≡ false = sym (ap (λ (p : Packet). is_aged_for s (packet_weight count p)) said) ∙ aged in
    let here : edges_at s id g ≡ Some (entity_edges e) =
    ap (edges_of g) there ∙ ap (λ (b : Bool). if b then Some (entity_edges e) else None) (eq-eqb e.setup.g g same) in
    let is : is_behind count (λ x. x.low) (Some (entity_edges e)) ≡ false = ap (is_behind count (λ x. x.low)) (sym here) ∙ weighed in
    ltb-false (count + window e.setup.n) (low e.tx) is
