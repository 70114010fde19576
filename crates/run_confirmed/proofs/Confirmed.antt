-- What an anchor stops to keep for an ack or a delivery status was received by the terminal.
use Rattle.std.proofs.Common.{◌≡◌, ℕ, ◌+◌, ◌==◌, ◌&&◌, ◌<◌, true, Bool, List, Option, Some, None, sym, ap, ◌∙◌, subst, arith}
use Rattle.std.specs.Prelude.{IfSome, if◌then◌else◌, is_some}
use Rattle.std.proofs.lemmas.Bool.{and_parts, eqb-true}
use Rattle.dc_base.specs.Count.{window}
use Rattle.dc_base.specs.Nodes.{is_same_node}
use Rattle.dc_base.specs.declared.flights.Flight.TheVariants as flight
use Rattle.dc_base.specs.declared.nodes.Cell.{Cell}
use Rattle.dc_base.specs.declared.nodes.LinkId.{LinkId}
use Rattle.dc_base.specs.declared.nodes.Node.{Node}
use Rattle.dc_base.specs.declared.nodes.Node.TheVariants.{T}
use Rattle.dc_base.specs.declared.numbers.SnLen.{SnLen}
use Rattle.nr_u.specs.Tunnel.Ends.{FirstSendsRise}
use Rattle.nr_u.specs.declared.frame.Frame.{Frame}
use Rattle.nr_u.specs.declared.tunnel.outbound.Sent.{Sent}
use Rattle.pdcp_rx.specs.Receiver.{Received}
use Rattle.pdcp_rx.specs.declared.entity.RxParts.{RxParts}
use Rattle.pdcp_tx.specs.Sender.{low}
use Rattle.pdcp_tx.proofs.Entries.{in_window-near}
use Rattle.node_rules.specs.Anchor.{AnchorState, active_anchor, setup_at, waiting_anchor}
use Rattle.node_rules.specs.AnchorReceiving.{air_in, is_from_host, is_on_leg, packet_in, tunnel_in}
use Rattle.node_rules.specs.Choices.{Choices}
use Rattle.node_rules.specs.Packets.{Packet, delivery, packet_of}
use Rattle.node_rules.specs.Setup.{anchor_cell, has_cell, host_of, is_of, is_same_cell}
use Rattle.node_rules.specs.TerminalHalf.{TerminalHalf}
use Rattle.run_confirms.specs.Packets.{IsTrueFor}
use Rattle.run_confirms.specs.States.{IsReadNear}
use Rattle.run_confirms.specs.Statuses.{IsAckOf, IsStatusOf, WasFirst}
use Rattle.run_confirms.proofs.Found.{ack_finds, delivery_finds}
use Rattle.run_confirms.proofs.Statuses.{status_lasts}
use Rattle.run_confirmed.specs.Confirmed.{IsNotBehind, KeptOrGot}
use Rattle.run_confirmed.specs.Flights.{IsReadRight, IsTrue, IsTruePacket}
use Rattle.run_confirmed.specs.Nodes.{IsAnchorOf, IsHalfOf}
use Rattle.run_confirmed.specs.Stories.{IsInOrder, Layout, ReceivedBy, Stories, fitting, leg_of}
use Rattle.run_confirmed.proofs.Growing.{fitting_front}
use Rattle.run_confirmed.proofs.Hosts.{packet_true}
use Rattle.run_confirmed.proofs.Steps.{itself}

-- the terminal that is in the generation received what the story says that it received
pub received_there : (layout : Layout) (stories : Stories) (id count : ℕ) (h : TerminalHalf) → IsHalfOf layout stories id h
    → ReceivedBy (stories id h.setup.g).rx count → Received h.rx count
received_there layout stories id count h is got = subst (λ (o : Option RxParts). ReceivedBy o count) is.rx got

module _ (layout : Layout) (x : Node) (stories : Stories) (order : (id g : ℕ) → IsInOrder (stories id g)) where
  -- by an ack over the air
  pub ack_confirms : (id : ℕ) (a : AnchorState) (cell : Cell) (l : LinkId) (i g num : ℕ) → IsAnchorOf layout stories x id a → is_same_node l.from T ≡ true
      → l.to ≡ x → IsTrue layout stories l (flight.Ack i g num)
      → KeptOrGot stories id a (air_in a cell (flight.Ack i g num)).0
  ack_confirms id a cell l i g num is from to truth =
      let k = (setup_at a).g in
      let s = stories id k in
      let acks : is_on_leg (setup_at a) cell i g ≡ true → IsAckOf s.own (ReceivedBy s.rx) num = λ on.
      let first = (and_parts (is_of (setup_at a) i g && is_same_cell cell (anchor_cell (setup_at a).legs.shape)) (has_cell (setup_at a) cell) on).0 in
      let of = (and_parts (is_of (setup_at a) i g) (is_same_cell cell (anchor_cell (setup_at a).legs.shape)) first).0 in
      let both = and_parts ((setup_at a).id == i) ((setup_at a).g == g) of in
      let at : IsAckOf (leg_of layout stories id k x) (ReceivedBy (stories id k).rx) num =
      subst (λ (j : ℕ). IsAckOf (leg_of layout stories j k x) (ReceivedBy (stories j k).rx) num) (sym (eqb-true (setup_at a).id i both.0) ∙ is.same_id)
      (subst (λ (j : ℕ). IsAckOf (leg_of layout stories i j x) (ReceivedBy (stories i j).rx) num) (sym (eqb-true (setup_at a).g g both.1))
      (subst (λ (y : Node). IsAckOf (leg_of layout stories i g y) (ReceivedBy (stories i g).rx) num) to (truth from))) in
      let own : leg_of layout stories id k x ≡ s.own = ap (λ (b : Bool). if b then s.own else s.far) (ap (is_same_node x) is.home ∙ itself x) in
      subst (λ (leg : List (Option ℕ)). IsAckOf leg (ReceivedBy s.rx) num) own at in
      ack_finds s.own s.tunnel (ReceivedBy s.rx) a cell i g num acks is.sent

  -- what a status says of the PDUs that a frame can number it says of all
  whole_status : (n : SnLen) (id g : ℕ) (tag : Option ℕ) (f : Frame) → IsStatusOf n (fitting (stories id g).tunnel) (ReceivedBy (stories id g).rx) tag f
      → IsStatusOf n (stories id g).tunnel (ReceivedBy (stories id g).rx) tag f
  whole_status n id g tag f is =
      let s = stories id g in
      let front = fitting_front s.tunnel in
      subst (λ (t : List Sent). IsStatusOf n t (ReceivedBy s.rx) tag f) (sym front.is)
      (status_lasts n (fitting s.tunnel) front.more (ReceivedBy s.rx) (ReceivedBy s.rx) tag f (subst FirstSendsRise front.is (order id g).rise) (λ count got. got) is)

  -- a tag that was sent first is read near
  read_near : (id : ℕ) (a : AnchorState) (tag : Option ℕ) → IsAnchorOf layout stories x id a → IsNotBehind a tag
      → IfSome tag (WasFirst (stories id (setup_at a).g).tunnel) → IsReadNear a tag
  read_near id (waiting_anchor w) tag is behind first = tt
  read_near id (active_anchor a) None is behind first = (tt, omega (arith, is.steady.small))
  read_near id (active_anchor a) (Some count) is behind first =
      let e = a.entity in
      let below = is.sent.sent.below first.0 count first.1 in
      let near = (in_window-near e.tx.n e.tx.next e.tx.kept is.steady.window).0 in
      let high : count < low e.tx + window e.setup.n = subst (λ n. count < low e.tx + window n) behind.0 (omega (arith, below, near)) in
      ((behind.1, high), omega (arith, is.steady.small))

  -- by a delivery status in the tunnel
  pub delivery_confirms : (c : Choices) (id : ℕ) (a : AnchorState) (l : LinkId) (tag : Option ℕ) (packet : List ℕ) (i g : ℕ) (status : Frame)
      → packet_of packet ≡ delivery i g status → IsAnchorOf layout stories x id a
      → IsTruePacket layout stories tag packet → IsReadRight layout stories l (flight.Tun tag packet) → IsNotBehind a tag
      → KeptOrGot stories id a (tunnel_in c a (flight.Tun tag packet)).0
  delivery_confirms c id a l tag packet i g status said is truth reads behind =
      let k = (setup_at a).g in
      let s = stories id k in
      let read : IsTrueFor id k (layout.n id k) (fitting s.tunnel) (ReceivedBy s.rx) tag (delivery i g status) =
      subst (λ (p : Packet). IsTrueFor id k (layout.n id k) (fitting s.tunnel) (ReceivedBy s.rx) tag p) said (packet_true layout stories tag l packet id k truth reads) in
      let says : i ≡ id → g ≡ k → IsStatusOf (layout.n id k) s.tunnel (ReceivedBy s.rx) tag status = λ same_id same_g. whole_status (layout.n id k) id k tag status (read same_id same_g) in
      let full : IsTrueFor (setup_at a).id k (setup_at a).n s.tunnel (ReceivedBy s.rx) tag (delivery i g status) = λ same_id same_g.
      subst (λ (n : SnLen). IsStatusOf n s.tunnel (ReceivedBy s.rx) tag status) (sym is.n) (says (same_id ∙ is.same_id) same_g) in
      let near : is_from_host (setup_at a) i g ≡ true → IsReadNear a tag = λ ours.
      let both = and_parts ((setup_at a).id == i) ((setup_at a).g == g) (and_parts (is_of (setup_at a) i g) (is_some (host_of (setup_at a))) ours).0 in
      let same_id : i ≡ id = sym (eqb-true (setup_at a).id i both.0) ∙ is.same_id in
      let same_g : g ≡ k = sym (eqb-true (setup_at a).g g both.1) in
      read_near id a tag is behind (says same_id same_g).first in
      subst (λ (p : Packet). KeptOrGot stories id a (packet_in c a p).0) (sym said) (delivery_finds c s.own s.tunnel (ReceivedBy s.rx) a tag i g status full near is.sent)
