-- Traffic at the terminal.
use Rattle.std.proofs.Common.{ℕ, ◌≡◌, true, List, [], ◌∷◌, Option, Some, None, refl, arith}
use Rattle.std.specs.Prelude.{Err, Ok, Result, not}
use Rattle.dc_base.specs.declared.events.Event.{Event}
use Rattle.dc_base.specs.declared.events.Event.TheVariants as event
use Rattle.dc_base.specs.declared.flights.Flight.{Flight}
use Rattle.dc_base.specs.declared.flights.Flight.TheVariants as flight
use Rattle.dc_base.specs.declared.nodes.Class.{Class}
use Rattle.dc_base.specs.declared.nodes.Class.TheVariants.{Air, Ctl, Feed, Tun}
use Rattle.dc_base.specs.declared.nodes.Node.{Node}
use Rattle.pdcp_pdu.specs.Pdu.{Content, decoded}
use Rattle.pdcp_pdu.specs.declared.pdu.PduErr.{PduErr}
use Rattle.pdcp_tx.specs.Sender.{Sender}
use Rattle.pdcp_tx.specs.Sending.{take_sdu}
use Rattle.pdcp_tx.specs.declared.tx.TxErr.{TxErr}
use Rattle.pdcp_tx.specs.declared.tx.TxErr.TheVariants as unable
use Rattle.node_rules.specs.Choices.{Choices, Send}
use Rattle.node_rules.specs.Effects.{quiet}
use Rattle.node_rules.specs.Entity.{Entity}
use Rattle.node_rules.specs.Flights.{Named, flight_named}
use Rattle.node_rules.specs.Held.{held}
use Rattle.node_rules.specs.Sending.{send_counts, send_report}
use Rattle.node_rules.specs.Setup.{Setup, cell_of, node_of}
use Rattle.node_rules.specs.Terminal.{TerminalNode, air_taken, air_taken_by, reported_there, submitted_there, terminal_event, terminal_step, terminal_takes}
use Rattle.node_rules.specs.TerminalHalf.{TerminalHalf, acked, is_taken, leg_send, pdu_came, silent, submit_as, terminal_air_in, terminal_report, terminal_submit, with_sends}
use Rattle.node_rules.specs.declared.bearers.HalfOut.{HalfOut}
use Rattle.node_rules.specs.declared.bearers.OnLeg.{OnLeg}
use Rattle.node_rules.specs.declared.inputs.Input.{Input}
use Rattle.node_rules.specs.declared.inputs.Input.TheVariants.{Cmd, Come}
use Rattle.run_control.specs.Traffic.{TerminalOnTraffic, came, is_traffic, is_traffic_event}
use Rattle.run_control.specs.Views.{Bearer, bearer_of, controls, is_control}
use Rattle.run_control.proofs.Ascending.{ascends_with}
use Rattle.run_control.proofs.Arrivals.{pdu_bearer}
use Rattle.run_control.proofs.Holding.{seen_again}
use Rattle.run_control.proofs.Sent.{either, none_in_each}

-- what is seen of a bearer
abbrev pub half_view : TerminalHalf → Bearer
half_view h = bearer_of h.setup

-- a bearer that stays, and what it sends is traffic
pub record Stays (h : TerminalHalf) (after : TerminalHalf) (sends : List Send) : Type 0 where
  pub view : half_view after ≡ half_view h
  pub none : controls sends ≡ []

-- nothing comes of it
same : (t : TerminalNode) → TerminalOnTraffic t (t, quiet)
same t = record { sec = refl; views = λ k. refl; sends = refl; ascends = λ up. up }

-- ---- what is sent

leg_none : (s : Setup) (p : OnLeg) (o : Option Node) → controls (leg_send s p o) ≡ []
leg_none s p None = refl
leg_none s p (Some node) = refl

pub sends_none : (done : Entity × List OnLeg) → controls (with_sends done).1 ≡ []
sends_none done = none_in_each (λ (p : OnLeg). leg_send done.0.setup p (node_of done.0.setup.sec p.cell)) (λ p. leg_none done.0.setup p (node_of done.0.setup.sec p.cell)) done.1

-- ---- events

submit_stays : (c : Choices) (h : TerminalHalf) (r : Result (Sender × ℕ) TxErr) → Stays h (submit_as c h r).0 (submit_as c h r).2
submit_stays c h (Ok (tx, count)) = record { view = refl; none = sends_none (send_counts c (record h { tx = tx }) (count ∷ [])) }
submit_stays c h (Err (unable.Full lowest next)) = record { view = refl; none = refl }
submit_stays c h (Err unable.Exhausted) = record { view = refl; none = refl }
submit_stays c h (Err unable.Memory) = record { view = refl; none = refl }

submitted_is : (c : Choices) (t : TerminalNode) (id : ℕ) (payload : List ℕ) (o : Option TerminalHalf) → held id t.halves ≡ o → TerminalOnTraffic t (came (submitted_there c t id payload o))
submitted_is c t id payload None at = same t
submitted_is c t id payload (Some h) at =
    let is = submit_stays c h (take_sdu h.tx payload) in
    record { sec = refl; views = λ k. seen_again half_view id k (terminal_submit c h payload).0 h t.halves at is.view; sends = is.none; ascends = λ up. ascends_with 0 id _ t.halves (omega arith) up }

reported_is : (c : Choices) (t : TerminalNode) (id : ℕ) (o : Option TerminalHalf) → held id t.halves ≡ o → TerminalOnTraffic t (came (reported_there c t id o))
reported_is c t id None at = same t
reported_is c t id (Some h) at =
    record { sec = refl; views = λ k. seen_again half_view id k (terminal_report c h).0 h t.halves at refl; sends = sends_none (send_report c h); ascends = λ up. ascends_with 0 id _ t.halves (omega arith) up }

event_is : (c : Choices) (t : TerminalNode) (e : Event) → is_traffic_event e ≡ true → TerminalOnTraffic t (came (terminal_event c t e))
event_is c t (event.Submit id d payload) is = submitted_is c t id payload (held id t.halves) refl
event_is c t (event.Report node id) is = reported_is c t id (held id t.halves) refl
event_is c t (event.Bearer id n first shape threshold policy) is = absurd cc
event_is c t (event.Reshape id shape) is = absurd cc
event_is c t (event.Remove id) is = absurd cc
event_is c t (event.Add node) is = absurd cc
event_is c t event.Change is = absurd cc
event_is c t event.Release is = absurd cc
event_is c t event.RekeySecond is = absurd cc
event_is c t (event.RekeyMaster root) is = absurd cc
event_is c t (event.Recover id) is = absurd cc
event_is c t (event.Deny node on) is = absurd cc
event_is c t (event.Ask node what) is = absurd cc
event_is c t event.ScgFail is = absurd cc
event_is c t (event.Step l i) is = absurd cc
event_is c t (event.Lose l i) is = absurd cc
event_is c t (event.Again l i) is = absurd cc

-- ---- flights

pdu_stays : (h : TerminalHalf) (from : Node) (num : ℕ) (r : Result Content PduErr) → Stays h (pdu_came h from num r).0 (pdu_came h from num r).1.sends
pdu_stays h from num (Err e) = record { view = refl; none = refl }
pdu_stays h from num (Ok x) = record { view = pdu_bearer h x; none = refl }

-- as of a pair
abbrev StaysBy : TerminalHalf → TerminalHalf × HalfOut → Type 0
StaysBy h done = Stays h done.0 done.1.sends

air_stays : (h : TerminalHalf) (from : Node) (f : Flight) → StaysBy h (terminal_air_in h from f)
air_stays h from (flight.Air id g num tag pdu) =
    either (StaysBy h) (is_taken h.setup from id g) (pdu_came h from num (decoded h.setup.n pdu)) (h, silent) (pdu_stays h from num (decoded h.setup.n pdu)) (record { view = refl; none = refl })
air_stays h from (flight.Ack id g num) =
    either (StaysBy h) (is_taken h.setup from id g) (acked h (cell_of from) num, silent) (h, silent) (record { view = refl; none = refl }) (record { view = refl; none = refl })
air_stays h from (flight.Tun tag packet) = record { view = refl; none = refl }
air_stays h from (flight.Sdu id g payload) = record { view = refl; none = refl }
air_stays h from (flight.End id g) = record { view = refl; none = refl }
air_stays h from (flight.Told id g count) = record { view = refl; none = refl }
air_stays h from (flight.Ctl r) = record { view = refl; none = refl }

taken_by_is : (t : TerminalNode) (from : Node) (f : Flight) (id : ℕ) (o : Option TerminalHalf) → held id t.halves ≡ o → TerminalOnTraffic t (air_taken_by t from f id o)
taken_by_is t from f id None at = same t
taken_by_is t from f id (Some h) at =
    let is = air_stays h from f in
    record { sec = refl; views = λ k. seen_again half_view id k (terminal_air_in h from f).0 h t.halves at is.view; sends = is.none; ascends = λ up. ascends_with 0 id _ t.halves (omega arith) up }

air_is : (t : TerminalNode) (from : Node) (f : Flight) (o : Option Named) → TerminalOnTraffic t (air_taken t from f o)
air_is t from f None = same t
air_is t from f (Some (id, g)) = taken_by_is t from f id (held id t.halves) refl

takes_is : (c : Choices) (t : TerminalNode) (from : Node) (f : Flight) (k : Class) → not (is_control k) ≡ true → TerminalOnTraffic t (terminal_takes c t from f k)
takes_is c t from f Ctl other = absurd cc
takes_is c t from f Feed other = same t
takes_is c t from f Air other = air_is t from f (flight_named f)
takes_is c t from f Tun other = same t

-- traffic at the terminal
pub terminal_traffic : (c : Choices) (t : TerminalNode) (i : Input) → is_traffic i ≡ true → TerminalOnTraffic t (came (terminal_step c t i))
terminal_traffic c t (Cmd e) is = event_is c t e is
terminal_traffic c t (Come l f) is = takes_is c t l.from f l.class is
