-- In a run, what a worker took gives what its own node's step gives.
use Rattle.std.proofs.Common.{List, None, Option, Some, [], ap, false, inl, inr, refl, sym, true, ℕ, ◌∙◌, ◌∷◌, ◌≡◌}
use Rattle.std.proofs.lemmas.Bool.{cases_Bool, eq-eqb}
use Rattle.std.specs.Prelude.{if◌then◌else◌, slice_get, ⊤}
use Rattle.dc_base.specs.Links.{is_ordered}
use Rattle.dc_base.specs.Nodes.{is_same_node, node_number}
use Rattle.dc_base.specs.declared.answers.Answer.{Answer}
use Rattle.dc_base.specs.declared.answers.Answer.TheVariants as answer
use Rattle.dc_base.specs.declared.answers.Refusal.TheVariants.{Aged}
use Rattle.dc_base.specs.declared.events.Event.{Event}
use Rattle.dc_base.specs.declared.events.Event.TheVariants as event
use Rattle.dc_base.specs.declared.events.Line.{Line}
use Rattle.dc_base.specs.declared.flights.Flight.{Flight}
use Rattle.dc_base.specs.declared.nodes.LinkId.{LinkId}
use Rattle.dc_base.specs.declared.nodes.Node.{Node}
use Rattle.journal_runs.proofs.OwnInputs.{node_at_world_step, outcome_takes}
use Rattle.journal_runs.specs.OwnSteps.{MayTake, Says, driven, own_inputs, own_step}
use Rattle.journal_runs.specs.Scripts.{as_entry, event_of}
use Rattle.journals.specs.declared.entries.JournalEntry.{JournalEntry}
use Rattle.journals.specs.declared.entries.Message.{Message}
use Rattle.journals.specs.declared.entries.What.{What}
use Rattle.journals.specs.declared.entries.What.TheVariants.{Driver, Loss, Step}
use Rattle.node_rules.specs.Choices.{Choices}
use Rattle.node_rules.specs.Effects.{quiet}
use Rattle.node_rules.specs.Flights.{weight}
use Rattle.node_rules.specs.Lines.{lines_of}
use Rattle.node_rules.specs.NodeRule.{NodeState, after_inputs, master_node, node_step, second_node, terminal_node}
use Rattle.node_rules.specs.Readers.{is_aged_for}
use Rattle.node_rules.specs.Run.{Happening, carried_on, entry_with, given_to, happening, input_of, node_at, on_links, refused_for, step_of, world_step}
use Rattle.node_rules.specs.World.{World, flights_on}
use Rattle.node_rules.specs.declared.inputs.Input.TheVariants.{Cmd, Come}
use Rattle.transcript.specs.Content.{place_taken}

-- where the message taken stands first on its link, which ends at the node
abbrev pub Stands : World → Node → What → Type 0
Stands w n (Driver e) = ⊤
Stands w n (Step m) = (m.link.to ≡ n) × (rest : List Flight) × (flights_on m.link w.links ≡ m.flight ∷ rest)
Stands w n (Loss m) = (m.link.to ≡ n) × (rest : List Flight) × (flights_on m.link w.links ≡ m.flight ∷ rest)

-- ---- what happens

-- a line for a node is given to it
abbrev by_taker : World → Event → Option Node → Happening
by_taker w e None = happening w e
by_taker w e (Some n) = given_to n (Cmd e)

by_driven : (w : World) (e : Event) → happening w e ≡ by_taker w e (driven e)
by_driven w (event.Bearer id n first shape threshold policy) = refl
by_driven w (event.Reshape id shape) = refl
by_driven w (event.Remove id) = refl
by_driven w (event.Add node) = refl
by_driven w event.Change = refl
by_driven w event.Release = refl
by_driven w event.RekeySecond = refl
by_driven w (event.RekeyMaster root) = refl
by_driven w (event.Recover id) = refl
by_driven w (event.Report node id) = refl
by_driven w (event.Deny node on) = refl
by_driven w (event.Ask node what) = refl
by_driven w event.ScgFail = refl
by_driven w (event.Submit id d payload) = refl
by_driven w (event.Step l i) = refl
by_driven w (event.Lose l i) = refl
by_driven w (event.Again l i) = refl

-- a message that may be aged for the node
abbrev stepped : NodeState → Node → Message → Happening
stepped s n m = if is_aged_for s (weight m.flight) then refused_for Aged else given_to n (Come m.link m.flight)

-- what happens with what a worker of the node took
abbrev happens : NodeState → Node → What → Happening
happens s n (Driver e) = given_to n (Cmd e)
happens s n (Step m) = stepped s n m
happens s n (Loss m) = on_links quiet

step_first : (w : World) (m : Message) (rest : List Flight) → step_of w m.link 0 (Some m.flight) ≡ stepped (node_at w m.link.to) m.link.to m
step_first w m rest = elim (cases_Bool (is_ordered m.link.class)) [ inl yes' ↦ rw yes' refl | inr no' ↦ rw no' refl ]

happening_step : (w : World) (n : Node) (m : Message) (rest : List Flight) → m.link.to ≡ n → flights_on m.link w.links ≡ m.flight ∷ rest
    → happening w (event.Step m.link 0) ≡ stepped (node_at w n) n m
happening_step w n m rest to is =
    ap (λ (fs : List Flight). step_of w m.link 0 (slice_get fs 0)) is
    ∙ step_first w m rest
    ∙ ap (λ (k : Node). stepped (node_at w k) k m) to

happening_is : (w : World) (n : Node) (what : What) → MayTake n what → Stands w n what → happening w (event_of what) ≡ happens (node_at w n) n what
happening_is w n (Driver e) may stands = by_driven w e ∙ ap (by_taker w e) may
happening_is w n (Step m) may stands = happening_step w n m stands.1 stands.0 stands.2
happening_is w n (Loss m) may stands = rw (may, stands.2) refl

-- ---- the outcome

carried_outcome : (c : Choices) (w : World) (n : Node) (what : What) → (carried_on c w (happens (node_at w n) n what)).1 ≡ (own_step c (node_at w n) what).1
carried_outcome c w n (Driver e) = outcome_takes c w (Cmd e) n
carried_outcome c w n (Step m) =
    elim (cases_Bool (is_aged_for (node_at w n) (weight m.flight))) [ inl yes' ↦ rw yes' refl | inr no' ↦ rw no' (outcome_takes c w (Come m.link m.flight) n) ]
carried_outcome c w n (Loss m) = refl

-- the run's entry is the journal's
pub entry_is : (c : Choices) (w : World) (n : Node) (e : JournalEntry) → MayTake n e.what → Stands w n e.what → Says (own_step c (node_at w n) e.what).1 e
    → (world_step c w (event_of e.what)).1 ≡ as_entry e
entry_is c w n e may stands says =
    let x = event_of e.what in
    let o = (own_step c (node_at w n) e.what).1 in
    let same : (carried_on c w (happening w x)).1 ≡ o = ap (λ h. (carried_on c w h).1) (happening_is w n e.what may stands) ∙ carried_outcome c w n e.what in
    ap (entry_with x) same
    ∙ ap (λ (a : Answer). record { event = x; answer = a; lines = lines_of o }) (sym says.0)
    ∙ ap (λ (ls : List Line). record { event = x; answer = e.answer; lines = ls }) (sym says.1)

-- ---- the state

own_state : (c : Choices) (s : NodeState) (what : What) → (own_step c s what).0 ≡ after_inputs c s (own_inputs c s what)
own_state c s (Driver e) = refl
own_state c s (Step m) = elim (cases_Bool (is_aged_for s (weight m.flight))) [ inl yes' ↦ rw yes' refl | inr no' ↦ rw no' refl ]
own_state c s (Loss m) = refl

input_own : (c : Choices) (s : NodeState) (n : Node) (what : What) → input_of n (happens s n what) ≡ own_inputs c s what
input_own c s n (Driver e) = let same : is_same_node n n ≡ true = eq-eqb (node_number n) (node_number n) refl in rw same refl
input_own c s n (Step m) =
    let same : is_same_node n n ≡ true = eq-eqb (node_number n) (node_number n) refl in
    elim (cases_Bool (is_aged_for s (weight m.flight))) [ inl yes' ↦ rw yes' refl | inr no' ↦ rw (no', same) refl ]
input_own c s n (Loss m) = refl

input_other : (s : NodeState) (n y : Node) (what : What) → is_same_node y n ≡ false → input_of y (happens s n what) ≡ []
input_other s n y (Driver e) other = rw other refl
input_other s n y (Step m) other =
    elim (cases_Bool (is_aged_for s (weight m.flight))) [ inl yes' ↦ rw yes' refl | inr no' ↦ rw (no', other) refl ]
input_other s n y (Loss m) other = refl

-- what the node gets of the event, and what the others get
pub inputs_own : (c : Choices) (w : World) (n : Node) (what : What) → MayTake n what → Stands w n what → input_of n (happening w (event_of what)) ≡ own_inputs c (node_at w n) what
inputs_own c w n what may stands = ap (input_of n) (happening_is w n what may stands) ∙ input_own c (node_at w n) n what

pub inputs_other : (w : World) (n y : Node) (what : What) → MayTake n what → Stands w n what → is_same_node y n ≡ false → input_of y (happening w (event_of what)) ≡ []
inputs_other w n y what may stands other = ap (input_of y) (happening_is w n what may stands) ∙ input_other (node_at w n) n y what other

-- the states after it
pub state_own : (c : Choices) (w : World) (n : Node) (what : What) → MayTake n what → Stands w n what → node_at (world_step c w (event_of what)).0 n ≡ (own_step c (node_at w n) what).0
state_own c w n what may stands =
    node_at_world_step c w n (event_of what) ∙ ap (after_inputs c (node_at w n)) (inputs_own c w n what may stands) ∙ sym (own_state c (node_at w n) what)

pub state_other : (c : Choices) (w : World) (n y : Node) (what : What) → MayTake n what → Stands w n what → is_same_node y n ≡ false
    → node_at (world_step c w (event_of what)).0 y ≡ node_at w y
state_other c w n y what may stands other =
    node_at_world_step c w y (event_of what) ∙ ap (after_inputs c (node_at w y)) (inputs_other w n y what may stands other)

-- ---- the place of the flight that it takes

come_ok : (c : Choices) (s : NodeState) (l : LinkId) (f : Flight) → (node_step c s (Come l f)).1.answer ≡ answer.Ok
come_ok c (terminal_node t) l f = refl
come_ok c (master_node m) l f = refl
come_ok c (second_node s) l f = refl

abbrev pub place_of : What → Option (LinkId × ℕ)
place_of (Driver e) = None
place_of (Step m) = Some (m.link, 0)
place_of (Loss m) = Some (m.link, 0)

driven_place : (e : Event) (n : Node) (a : Answer) → driven e ≡ Some n → place_taken e a ≡ None
driven_place (event.Bearer id k first shape threshold policy) n a is = refl
driven_place (event.Reshape id shape) n a is = refl
driven_place (event.Remove id) n a is = refl
driven_place (event.Add node) n a is = refl
driven_place event.Change n a is = refl
driven_place event.Release n a is = refl
driven_place event.RekeySecond n a is = refl
driven_place (event.RekeyMaster root) n a is = refl
driven_place (event.Recover id) n a is = refl
driven_place (event.Report node id) n a is = refl
driven_place (event.Deny node on) n a is = refl
driven_place (event.Ask node what) n a is = refl
driven_place event.ScgFail n a is = refl
driven_place (event.Submit id d payload) n a is = refl
driven_place (event.Step l i) n a is = absurd cc
driven_place (event.Lose l i) n a is = absurd cc
driven_place (event.Again l i) n a is = absurd cc

pub place_is : (c : Choices) (s : NodeState) (n : Node) (what : What) → MayTake n what → place_taken (event_of what) (own_step c s what).1.answer ≡ place_of what
place_is c s n (Driver e) may = driven_place e n (own_step c s (Driver e)).1.answer may
place_is c s n (Step m) may =
    elim (cases_Bool (is_aged_for s (weight m.flight))) [ inl yes' ↦ rw yes' refl | inr no' ↦ rw no' (ap (place_taken (event.Step m.link 0)) (come_ok c s m.link m.flight)) ]
place_is c s n (Loss m) may = refl
