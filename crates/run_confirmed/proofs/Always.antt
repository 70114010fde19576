-- After each run nodes have what the stories say, and what stands on links says so; so an ack and a delivery status confirm only what
-- the terminal received.
use Rattle.std.proofs.Common.{◌≡◌, ℕ, List, [], Option, Some, refl, sym, subst}
use Rattle.std.specs.Prelude.{slice_get, true}
use Rattle.std.specs.List.{AllByRecursion}
use Rattle.dc_base.specs.Links.{link_number}
use Rattle.dc_base.specs.Nodes.{is_same_node}
use Rattle.dc_base.specs.declared.events.Event.{Event}
use Rattle.dc_base.specs.declared.events.Header.{Header}
use Rattle.dc_base.specs.declared.flights.Flight.TheVariants as flight
use Rattle.dc_base.specs.declared.nodes.Cell.{Cell}
use Rattle.dc_base.specs.declared.nodes.LinkId.{LinkId}
use Rattle.dc_base.specs.declared.nodes.Node.{Node}
use Rattle.dc_base.specs.declared.nodes.Node.TheVariants.{T}
use Rattle.nr_u.specs.declared.frame.Frame.{Frame}
use Rattle.transcript.proofs.OnEach.{each_at}
use Rattle.master_runs.proofs.Moving.{none_there}
use Rattle.node_rules.specs.Anchor.{AnchorState}
use Rattle.node_rules.specs.AnchorReceiving.{air_in, tunnel_in}
use Rattle.node_rules.specs.Choices.{Choices}
use Rattle.node_rules.specs.Packets.{delivery, packet_of}
use Rattle.node_rules.specs.Run.{world_after}
use Rattle.node_rules.specs.World.{World, flights_on, new_world}
use Rattle.run_confirmed.specs.Confirmed.{IsNotBehind, KeptOrGot}
use Rattle.run_confirmed.specs.Flights.{IsReadRight, IsTrue}
use Rattle.run_confirmed.specs.Nodes.{IsAnchorOf}
use Rattle.run_confirmed.specs.Stories.{Layout, Stories, blank}
use Rattle.run_confirmed.specs.Worlds.{IsWorldOf}
use Rattle.run_confirmed.proofs.Confirmed.{ack_confirms, delivery_confirms}
use Rattle.run_confirmed.proofs.Steps.{empty_order}
use Rattle.run_confirmed.proofs.Worlds.{AreTakenRight, run_goes}

-- before the first event all stories are blank
pub new_is : (layout : Layout) (h : Header) → IsWorldOf layout (λ id g. blank) (new_world h)
new_is layout h = record {
  long = refl;
  nodes = record {
    terminal = record { halves = λ id. tt; ascend = tt };
    master = record {
      has = record { anchors = λ id. tt; hosts = λ id. tt; anchors_ascend = tt; hosts_ascend = tt };
      procs = refl;
      young = λ id. tt;
      below = λ id. tt;
      unused = λ id g le. record { own = λ here. refl; tunnel = λ here. refl; far = λ here. refl; rx = λ here. refl };
    };
    a = record { name = refl; anchors = λ id. tt; hosts = λ id. tt; anchors_ascend = tt; hosts_ascend = tt };
    b = record { name = refl; anchors = λ id. tt; hosts = λ id. tt; anchors_ascend = tt; hosts_ascend = tt };
  };
  flights = λ l. subst (AllByRecursion (IsTrue layout (λ id g. blank) l)) (sym (none_there 64 (link_number l) [])) tt;
  order = λ id g. empty_order blank refl;
}

-- after events of which each is taken right there are such stories
pub confirmed_always : (layout : Layout) (c : Choices) (h : Header) (es : List Event)
    → AreTakenRight layout c (λ id g. blank) (new_world h) (new_is layout h) es
    → (stories : Stories) × IsWorldOf layout stories (world_after c (new_world h) es)
confirmed_always layout c h es right = run_goes layout c (λ id g. blank) (new_world h) (new_is layout h) es right

module _ (layout : Layout) (stories : Stories) (w : World) (is : IsWorldOf layout stories w) (x : Node) (id : ℕ) (a : AnchorState) (here : IsAnchorOf layout stories x id a) (l : LinkId) (place : ℕ) where
  -- an ack that stands on a link from the terminal to the node of an anchor: each SDU that the anchor stops to keep for it was received
  pub ack_that_stands : (cell : Cell) (i g num : ℕ) → slice_get (flights_on l w.links) place ≡ Some (flight.Ack i g num) → is_same_node l.from T ≡ true
      → l.to ≡ x
      → KeptOrGot stories id a (air_in a cell (flight.Ack i g num)).0
  ack_that_stands cell i g num at from to =
      ack_confirms layout x stories is.order id a cell l i g num here from to (each_at (IsTrue layout stories l) (flights_on l w.links) place (flight.Ack i g num) (is.flights l) at)

  -- a delivery status that stands in a tunnel, while its tag is not a window behind Low: each SDU that an anchor stops to keep for it
  -- was received
  pub status_that_stands : (c : Choices) (tag : Option ℕ) (packet : List ℕ) (i g : ℕ) (status : Frame)
      → slice_get (flights_on l w.links) place ≡ Some (flight.Tun tag packet)
      → packet_of packet ≡ delivery i g status → IsReadRight layout stories l (flight.Tun tag packet) → IsNotBehind a tag
      → KeptOrGot stories id a (tunnel_in c a (flight.Tun tag packet)).0
  status_that_stands c tag packet i g status at said reads behind =
      delivery_confirms layout x stories is.order c id a l tag packet i g status said here (each_at (IsTrue layout stories l) (flights_on l w.links) place (flight.Tun tag packet) (is.flights l) at) reads behind
