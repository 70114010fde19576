-- What an event has a node send and keep.
use Rattle.std.proofs.Common.{ℕ, ◌≡◌, ◌&&◌, Bool, true, false, List, [], ◌∷◌, Option, Some, None, slice_get, refl, inl, inr}
use Rattle.std.specs.Prelude.{if◌then◌else◌, nat_lt, ⊤}
use Rattle.std.specs.List.{AllByRecursion}
use Rattle.std.proofs.lemmas.Bool.{cases_Bool}
use Rattle.dc_base.specs.Links.{is_ordered, is_tunnel}
use Rattle.dc_base.specs.declared.answers.Refusal.TheVariants as refusal
use Rattle.dc_base.specs.declared.events.Event.{Event}
use Rattle.dc_base.specs.declared.events.Event.TheVariants as event
use Rattle.dc_base.specs.declared.flights.Flight.{Flight}
use Rattle.dc_base.specs.declared.flights.Flight.TheVariants as flight
use Rattle.dc_base.specs.declared.nodes.LinkId.{LinkId}
use Rattle.dc_base.specs.declared.nodes.Node.TheVariants.{A, B, M, T}
use Rattle.node_rules.specs.Choices.{Choices, Send}
use Rattle.node_rules.specs.Flights.{weight}
use Rattle.node_rules.specs.Host.{Host}
use Rattle.node_rules.specs.Readers.{is_aged_for}
use Rattle.node_rules.specs.Run.{Happening, carried_on, copy_of, given_to, happening, loss_of, node_at, on_links, refused_for, step_of}
use Rattle.node_rules.specs.World.{World, flights_on}
use Rattle.node_rules.specs.declared.inputs.Input.TheVariants.{Cmd, Come}
use Rattle.transcript.proofs.OnEach.{each_at}
use Rattle.run_senders.specs.Holders.{AllHeld}
use Rattle.run_uplinks.specs.Readings.{Reading}
use Rattle.run_relays.specs.Kept.{Brings, FedKeepsOf, KeepsOf}
use Rattle.run_relays.specs.Relays.{ArePlain, AreSentFor, OnLink}
use Rattle.run_relays.proofs.MasterSteps.{master_event_plain, master_flight_passes}
use Rattle.run_relays.proofs.SecondSteps.{second_event_plain, second_flight_passes}

-- ---- the flight that is given

-- it stands on a link to the node that takes it
abbrev pub GivenOn : Reading → Happening → Type 0
GivenOn r (given_to x (Come l f)) = (l.to ≡ x) × OnLink r l f
GivenOn r (given_to x (Cmd e)) = ⊤
GivenOn r (refused_for why) = ⊤
GivenOn r (on_links effects) = ⊤

module _ (r : Reading) (w : World) (on : (l : LinkId) → AllByRecursion (OnLink r l) (flights_on l w.links)) where
  step_given : (l : LinkId) (i : ℕ) (o : Option Flight) → slice_get (flights_on l w.links) i ≡ o → GivenOn r (step_of w l i o)
  step_given l i None at = tt
  step_given l i (Some f) at =
      elim (cases_Bool (is_ordered l.class && nat_lt 0 i)) [
        | inl behind ↦ rw behind tt
        | inr first ↦ elim (cases_Bool (is_aged_for (node_at w l.to) (weight f))) [
          | inl aged ↦ rw (first, aged) tt
          | inr fresh ↦ rw (first, fresh) (refl, each_at (OnLink r l) (flights_on l w.links) i f (on l) at)
        ]
      ]

  loss_given : (in_it : Bool) (o : Option Flight) → GivenOn r (if in_it then loss_of o else refused_for refusal.NotTunnel)
  loss_given false o = tt
  loss_given true None = tt
  loss_given true (Some f) = tt

  copy_given : (l : LinkId) (in_it : Bool) (o : Option Flight) → GivenOn r (if in_it then copy_of l o else refused_for refusal.NotTunnel)
  copy_given l false o = tt
  copy_given l true None = tt
  copy_given l true (Some f) = tt

  pub event_given : (e : Event) → GivenOn r (happening w e)
  event_given (event.Step l i) = step_given l i (slice_get (flights_on l w.links) i) refl
  event_given (event.Lose l i) = loss_given (is_tunnel l.class) (slice_get (flights_on l w.links) i)
  event_given (event.Again l i) = copy_given l (is_tunnel l.class) (slice_get (flights_on l w.links) i)
  event_given (event.Bearer id n first shape threshold policy) = tt
  event_given (event.Reshape id shape) = tt
  event_given (event.Remove id) = tt
  event_given (event.Add x) = tt
  event_given event.Change = tt
  event_given event.Release = tt
  event_given event.RekeySecond = tt
  event_given (event.RekeyMaster root) = tt
  event_given (event.Recover id) = tt
  event_given (event.Report x id) = tt
  event_given (event.Deny x on) = tt
  event_given (event.Ask x what) = tt
  event_given event.ScgFail = tt
  event_given (event.Submit id d sdu) = tt

-- ---- what is held

-- of all leg hosts of the nodes this is so
pub record HostsOf (H : Host → Type 0) (w : World) : Type 0 where
  pub master : AllHeld H w.master.hosts
  pub a : AllHeld H w.a.hosts
  pub b : AllHeld H w.b.hosts

-- of any host
abbrev pub AnyHost : Host → Type 0
AnyHost h = ⊤

each_any : (xs : List (ℕ × Host)) → AllHeld AnyHost xs
each_any [] = tt
each_any (x ∷ xs) = (tt, each_any xs)

pub any_hosts : (w : World) → HostsOf AnyHost w
any_hosts w = record { master = each_any w.master.hosts; a = each_any w.a.hosts; b = each_any w.b.hosts }

-- ---- what is kept

-- the waiting anchors of the nodes keep such contents alone
pub record KeptOf (P : ℕ → ℕ → List ℕ → Type 0) (w : World) : Type 0 where
  pub master : AllHeld (KeepsOf P) w.master.anchors
  pub a : AllHeld (FedKeepsOf P) w.a.anchors
  pub b : AllHeld (FedKeepsOf P) w.b.anchors

module _ (P : ℕ → ℕ → List ℕ → Type 0) where
  -- what comes to another node than the terminal brings such a PDU
  abbrev pub BringsTo : Happening → Type 0
  BringsTo (given_to T i) = ⊤
  BringsTo (given_to M (Come l f)) = Brings P f
  BringsTo (given_to A (Come l f)) = Brings P f
  BringsTo (given_to B (Come l f)) = Brings P f
  BringsTo (given_to M (Cmd e)) = ⊤
  BringsTo (given_to A (Cmd e)) = ⊤
  BringsTo (given_to B (Cmd e)) = ⊤
  BringsTo (refused_for why) = ⊤
  BringsTo (on_links effects) = ⊤

  pub carried_kept : (c : Choices) (w : World) (h : Happening) → BringsTo h → KeptOf P w → KeptOf P (carried_on c w h).0
  carried_kept c w (given_to T i) brings kept = record { master = kept.master; a = kept.a; b = kept.b }
  carried_kept c w (given_to M (Come l f)) brings kept = record { master = (master_flight_passes P AnyHost c w.master l f brings (any_hosts w).master kept.master).so; a = kept.a; b = kept.b }
  carried_kept c w (given_to M (Cmd e)) brings kept = record { master = (master_event_plain P AnyHost c w.master e kept.master).so; a = kept.a; b = kept.b }
  carried_kept c w (given_to A (Come l f)) brings kept = record { master = kept.master; a = (second_flight_passes P AnyHost c w.a l f brings (any_hosts w).a kept.a).so; b = kept.b }
  carried_kept c w (given_to A (Cmd e)) brings kept = record { master = kept.master; a = (second_event_plain P AnyHost c w.a e kept.a).so; b = kept.b }
  carried_kept c w (given_to B (Come l f)) brings kept = record { master = kept.master; a = kept.a; b = (second_flight_passes P AnyHost c w.b l f brings (any_hosts w).b kept.b).so }
  carried_kept c w (given_to B (Cmd e)) brings kept = record { master = kept.master; a = kept.a; b = (second_event_plain P AnyHost c w.b e kept.b).so }
  carried_kept c w (refused_for why) brings kept = kept
  carried_kept c w (on_links effects) brings kept = kept

-- ---- what is sent

-- another node than the terminal sends no uplink PDU, or passes on the one that it takes
abbrev pub AreSentIn : (Host → Type 0) → Happening → List Send → Type 0
AreSentIn H (given_to T i) ss = ⊤
AreSentIn H (given_to M (Come l f)) ss = AreSentFor H f ss
AreSentIn H (given_to A (Come l f)) ss = AreSentFor H f ss
AreSentIn H (given_to B (Come l f)) ss = AreSentFor H f ss
AreSentIn H (given_to M (Cmd e)) ss = ArePlain ss
AreSentIn H (given_to A (Cmd e)) ss = ArePlain ss
AreSentIn H (given_to B (Cmd e)) ss = ArePlain ss
AreSentIn H (refused_for why) ss = ⊤
AreSentIn H (on_links effects) ss = ⊤

-- of any PDU
abbrev pub Any : ℕ → ℕ → List ℕ → Type 0
Any id g pdu = ⊤

pub brings_any : (f : Flight) → Brings Any f
brings_any (flight.Air id g num tag pdu) = tt
brings_any (flight.Tun tag packet) = λ id g pdu is. tt
brings_any (flight.Ack id g num) = tt
brings_any (flight.Sdu id g sdu) = tt
brings_any (flight.End id g) = tt
brings_any (flight.Told id g count) = tt
brings_any (flight.Ctl r) = tt

pub brings_any_to : (h : Happening) → BringsTo Any h
brings_any_to (given_to T i) = tt
brings_any_to (given_to M (Come l f)) = brings_any f
brings_any_to (given_to A (Come l f)) = brings_any f
brings_any_to (given_to B (Come l f)) = brings_any f
brings_any_to (given_to M (Cmd e)) = tt
brings_any_to (given_to A (Cmd e)) = tt
brings_any_to (given_to B (Cmd e)) = tt
brings_any_to (refused_for why) = tt
brings_any_to (on_links effects) = tt

pub carried_sends : (H : Host → Type 0) (c : Choices) (w : World) (h : Happening) → HostsOf H w → KeptOf Any w → AreSentIn H h (carried_on c w h).1.sends
carried_sends H c w (given_to T i) hosts kept = tt
carried_sends H c w (given_to M (Come l f)) hosts kept = (master_flight_passes Any H c w.master l f (brings_any f) hosts.master kept.master).sends
carried_sends H c w (given_to M (Cmd e)) hosts kept = (master_event_plain Any H c w.master e kept.master).plain
carried_sends H c w (given_to A (Come l f)) hosts kept = (second_flight_passes Any H c w.a l f (brings_any f) hosts.a kept.a).sends
carried_sends H c w (given_to A (Cmd e)) hosts kept = (second_event_plain Any H c w.a e kept.a).plain
carried_sends H c w (given_to B (Come l f)) hosts kept = (second_flight_passes Any H c w.b l f (brings_any f) hosts.b kept.b).sends
carried_sends H c w (given_to B (Cmd e)) hosts kept = (second_event_plain Any H c w.b e kept.b).plain
carried_sends H c w (refused_for why) hosts kept = tt
carried_sends H c w (on_links effects) hosts kept = tt
