-- What a node does, in the world; and what becomes of the links.
use Rattle.std.proofs.Common.{ℕ, ◌≡◌, ◌==◌, ◌++◌, List, [], ◌∷◌, Option, Some, None, refl, sym, ap, subst, inl, inr}
use Rattle.std.specs.Prelude.{if◌then◌else◌}
use Rattle.std.specs.List.{AllByRecursion}
use Rattle.std.proofs.lemmas.Bool.{cases_Bool}
use Rattle.dc_base.specs.Links.{is_same_link}
use Rattle.dc_base.specs.declared.answers.Answer.TheVariants as answer
use Rattle.dc_base.specs.declared.answers.Refusal.{Refusal}
use Rattle.dc_base.specs.declared.events.Header.{Header}
use Rattle.dc_base.specs.declared.events.Line.{Line}
use Rattle.dc_base.specs.declared.events.Line.TheVariants as line
use Rattle.dc_base.specs.declared.flights.Flight.{Flight}
use Rattle.dc_base.specs.declared.flights.Flight.TheVariants as flight
use Rattle.dc_base.specs.declared.nodes.LinkId.{LinkId}
use Rattle.pdcp_pdu.specs.DataPdu.{is_data}
use Rattle.transcript.specs.Content.{put_on, without_taken}
use Rattle.transcript.proofs.OnEach.{each_append, each_remove}
use Rattle.master_runs.specs.Control.{Nodes}
use Rattle.master_runs.specs.Entities.{Entities, Table}
use Rattle.master_runs.specs.Plane.{Outcome, is_aged, is_behind}
use Rattle.node_rules.specs.Anchor.{AnchorState}
use Rattle.node_rules.specs.Effects.{turned_down}
use Rattle.node_rules.specs.Entity.{Entity}
use Rattle.node_rules.specs.Flights.{weight}
use Rattle.node_rules.specs.Master.{MasterNode}
use Rattle.node_rules.specs.NodeRule.{master_node, terminal_node}
use Rattle.node_rules.specs.Readers as readers
use Rattle.node_rules.specs.Readers.{edges_of, entity_in, is_aged_for}
use Rattle.node_rules.specs.Terminal.{TerminalNode}
use Rattle.node_rules.specs.World.{World, Links}
use Rattle.node_rules.specs.declared.bearers.Window.{Window}
use Rattle.node_rules.specs.declared.commands.Row.{Row}
use Rattle.node_rules.specs.declared.bearers.Edges.{Edges}
use Rattle.node_rules.specs.declared.inputs.Outcome.{Outcome as WholeOutcome}
use Rattle.std.specs.Prelude.{option_and_then}
use Rattle.master_runs.specs.Same.{Inside, IsPlainFlight, IsPlainLine, SameHalf, no_half, a_half, SameTerminal, SameBearer, no_bearer, a_bearer, SameMaster, TerminalDid, MasterDid, WorldDid, terminal_as, master_as, world_as}

module _ (h : Header) (s : Nodes) (halves : List (ℕ × Entity)) (y : Inside) (links : Links) (term : SameTerminal h s.terminal halves) (mast : SameMaster h s y) where
  -- the world
  abbrev second_world : World
  second_world = world_as h s.drawn halves y links

  -- what the terminal does
  pub by_terminal : (was : TerminalNode × WholeOutcome) (done : Table × Outcome) → TerminalDid h was done
      → WorldDid h links (record second_world { terminal = was.0 }, was.1) (record s { terminal = done.0 }, done.1)
  by_terminal was done did = record {
    halves = did.after;
    inside = y;
    notes = did.notes;
    sends = did.sends;
    is = ap (λ (d : TerminalNode × WholeOutcome). (record second_world { terminal = d.0 }, d.1)) did.is;
    lined = did.lined;
    plain = did.plain;
    terminal = did.same;
    master = record { bearers = mast.bearers; command = mast.command; unclaimed = mast.unclaimed };
  }

  -- what the master does
  pub by_master : (was : MasterNode × WholeOutcome) (done : Nodes × Outcome) → MasterDid h was done → done.0.terminal ≡ s.terminal
      → WorldDid h links (record second_world { master = was.0 }, was.1) done
  by_master was done did stays = record {
    halves = halves;
    inside = did.after;
    notes = did.notes;
    sends = did.sends;
    is = ap (λ (d : MasterNode × WholeOutcome). (record second_world { master = d.0 }, d.1)) did.is;
    lined = did.lined;
    plain = did.plain;
    terminal = subst (λ t. SameTerminal h t halves) (sym stays) term;
    master = did.same;
  }

  -- an event that is refused
  pub by_none : (why : Refusal) → WorldDid h links (turned_down second_world why) (s, (answer.No why, []))
  by_none why = record {
    halves = halves;
    inside = y;
    notes = [];
    sends = [];
    is = refl;
    lined = refl;
    plain = tt;
    terminal = term;
    master = mast;
  }

-- what is the same as what the world did
pub did_so : (h : Header) (links : Links) {was was' : World × WholeOutcome} {done done' : Nodes × Outcome} → was ≡ was' → done ≡ done' → WorldDid h links was' done' → WorldDid h links was done
did_so h links {was} {was'} {done} {done'} p q did = subst (λ x. WorldDid h links x done) (sym p) (subst (WorldDid h links was') (sym q) did)

-- ---- ageing

-- a COUNT that is behind
behind_same : (e : Entities) (x : Edges) (g count : ℕ) → x.n ≡ e.bearer.n → x.deliv ≡ e.rx.deliv
    → readers.is_behind count (λ z. z.deliv) (if e.bearer.g == g then Some x else None) ≡ is_behind g count (Some e)
behind_same e x g count n deliv =
    elim (cases_Bool (e.bearer.g == g)) [ inl yes' ↦ rw (yes', n, deliv) refl | inr no' ↦ rw no' refl ]

-- a flight that is aged for the terminal
pub aged_there : (h : Header) (table : Table) (halves : List (ℕ × Entity)) → SameTerminal h table halves → (id g num : ℕ) (tag : Option ℕ) (pdu : List ℕ)
    → is_aged_for (terminal_node (terminal_as h halves)) (weight (flight.Air id g num tag pdu)) ≡ is_aged table (flight.Air id g num tag pdu)
aged_there h table halves same id g num None pdu = refl
aged_there h table halves same id g num (Some count) pdu =
    elim (cases_Bool (is_data pdu)) [ inl data' ↦ rw data' (by (same id)) | inr control ↦ rw control refl ]
  where
    by : {o : Option Entities} {p : Option Entity} → SameHalf h id o p → readers.is_behind count (λ z. z.deliv) (edges_of g p) ≡ is_behind g count o
    by no_half = refl
    by (a_half e x named tags) = behind_same e _ g count refl refl

-- and for the master
pub aged_here : (h : Header) (s : Nodes) (y : Inside) → SameMaster h s y → (id g num : ℕ) (tag : Option ℕ) (pdu : List ℕ)
    → is_aged_for (master_node (master_as h s.drawn y)) (weight (flight.Air id g num tag pdu)) ≡ is_aged s.master (flight.Air id g num tag pdu)
aged_here h s y same id g num None pdu = refl
aged_here h s y same id g num (Some count) pdu =
    elim (cases_Bool (is_data pdu)) [ inl data' ↦ rw data' (by (same.bearers id)) | inr control ↦ rw control refl ]
  where
    by : {o : Option Entities} {r : Option Row} {a : Option AnchorState} {w : Option Window} → SameBearer h s.drawn s.busy y.command id o r a w
        → readers.is_behind count (λ z. z.deliv) (edges_of g (option_and_then entity_in a)) ≡ is_behind g count o
    by no_bearer = refl
    by (a_bearer e x r opened tunnel w is) = behind_same e _ g count refl refl

-- ---- links

-- what stands on a link after an event is plain where what stood and what is put there are
plain_put : (l : LinkId) (lines : List Line) → AllByRecursion IsPlainLine lines → AllByRecursion IsPlainFlight (put_on l lines)
plain_put l [] plain = tt
plain_put l (line.Send k f ∷ lines) plain =
    elim (cases_Bool (is_same_link l k)) [ inl same ↦ rw same (plain.0, plain_put l lines plain.1) | inr apart ↦ rw apart (plain_put l lines plain.1) ]
plain_put l (line.Event e ∷ lines) plain = plain_put l lines plain.1
plain_put l (line.Answer a ∷ lines) plain = plain_put l lines plain.1
plain_put l (line.Note n ∷ lines) plain = plain_put l lines plain.1

pub plain_after : (l : LinkId) (place : Option (LinkId × ℕ)) (lines : List Line) (fs : List Flight) → AllByRecursion IsPlainFlight fs → AllByRecursion IsPlainLine lines
    → AllByRecursion IsPlainFlight (without_taken l place fs ++ put_on l lines)
plain_after l place lines fs was plain = each_append IsPlainFlight (without_taken l place fs) (put_on l lines) (left place) (plain_put l lines plain)
  where
    left : (place : Option (LinkId × ℕ)) → AllByRecursion IsPlainFlight (without_taken l place fs)
    left None = was
    left (Some place) = elim (cases_Bool (is_same_link l place.0)) [ inl same ↦ rw same (each_remove IsPlainFlight fs place.1 was) | inr apart ↦ rw apart was ]
