-- The states of the nodes of the whole machine in a run whose bearers are at the master alone.
use Rattle.std.specs.Prelude.{ℕ, Bool, false, ◌+◌, ◌++◌, List, [], ◌∷◌, map, length, Option, None}
use Rattle.dc_base.specs.declared.events.Header.{Header}
use Rattle.dc_base.specs.declared.flights.Flight.{Flight}
use Rattle.dc_base.specs.declared.flights.Flight.TheVariants as flight
use Rattle.dc_base.specs.declared.nodes.LegSet.TheVariants.{Mcg}
use Rattle.dc_base.specs.declared.nodes.Node.{Node}
use Rattle.dc_base.specs.declared.nodes.LinkId.{LinkId}
use Rattle.pdcp_rx.specs.declared.entity.RxParts.{RxParts}
use Rattle.pdcp_tx.specs.Sender.{Sender}
use Rattle.split_leg.specs.declared.leg.Pdu.{Pdu}
use Rattle.split_leg.specs.Legs.{LegState, LegsState, begun, is_repeat, with_send}
use Rattle.transcript.specs.Bearers.{Established}
use Rattle.node_rules.specs.Choices.{Send}
use Rattle.node_rules.specs.Entity.{Entity}
use Rattle.node_rules.specs.Setup.{Setup}

-- the legs of a bearer that has one over the master's cells alone: its PDUs there, and what never matters
pub record Leg : Type 0 where
  pub dup : Bool
  pub threshold : ℕ
  pub policy : ℕ
  pub pdus : List Pdu
  pub before : ℕ
  pub other : LegState

-- as a node holds them
abbrev pub legs_as : Leg → LegsState
legs_as x = record {
  shape = record { at_second = false; legs = Mcg; dup = x.dup };
  threshold = x.threshold;
  policy = x.policy;
  mcg = record { pdus = x.pdus; before = x.before; failed = false };
  scg = x.other;
}

-- what is set up for a bearer at a node, under the first root
abbrev pub setup_as : Header → Node → Established → LegsState → Setup
setup_as h node b legs = record { node = node; sec = None; g = b.g; id = b.id; n = b.n; first = b.first; alg = h.alg; key = h.root; legs = legs }

-- its PDCP entity
abbrev pub entity_as : Header → Node → Established → Leg → Sender → RxParts → Entity
entity_as h node b x tx rx = record { setup = setup_as h node b (legs_as x); tx = tx; rx = rx }

-- one more PDU is put on the leg
abbrev pub one_more : Leg → Option ℕ × List ℕ → Leg
one_more x p = record x {
  pdus = x.pdus ++ record { count = p.0; octets = length p.1; repeat = is_repeat (with_send (legs_as x)) p.0; acked = false; settled = false } ∷ [];
  before = length x.pdus;
  other = begun x.other;
}

-- one after another
abbrev pub all_more : Leg → List (Option ℕ × List ℕ) → Leg
all_more x [] = x
all_more x (p ∷ ps) = all_more (one_more x p) ps

-- the PDUs as flights, the first as this number of the leg
abbrev pub flights_from : Established → ℕ → List (Option ℕ × List ℕ) → List Flight
flights_from b num [] = []
flights_from b num (p ∷ ps) = flight.Air b.id b.g num p.0 p.1 ∷ flights_from b (num + 1) ps

-- each on this link
abbrev pub all_on : LinkId → List Flight → List Send
all_on l fs = map (λ f. (l, f)) fs
