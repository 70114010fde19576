-- The events of the secondary nodes are answered as it is due; and each step is, but for the age of its flight.
use Rattle.std.proofs.Common.{ℕ, ◌≡◌, Bool, true, false, List, [], ◌∷◌, Option, Some, None, slice_get, refl, sym, ap, ◌∙◌, inl, inr}
use Rattle.std.specs.Prelude.{if◌then◌else◌, is_some, nat_lt, not, ◌&&◌}
use Rattle.std.specs.Option.{option_map}
use Rattle.std.proofs.lemmas.Bool.{cases_Bool, eq-eqb}
use Rattle.dc_base.specs.Links.{is_ordered}
use Rattle.dc_base.specs.declared.answers.Answer.{Answer}
use Rattle.dc_base.specs.declared.answers.Answer.TheVariants as answer
use Rattle.dc_base.specs.declared.answers.Refusal.TheVariants as refusal
use Rattle.dc_base.specs.declared.events.Event.{Event}
use Rattle.dc_base.specs.declared.events.Event.TheVariants as event
use Rattle.dc_base.specs.declared.events.Header.{Header}
use Rattle.dc_base.specs.declared.flights.Flight.{Flight}
use Rattle.dc_base.specs.declared.nodes.LinkId.{LinkId}
use Rattle.dc_base.specs.declared.nodes.Node.{Node}
use Rattle.dc_base.specs.declared.nodes.Node.TheVariants.{A, B, M, T}
use Rattle.dc_base.specs.declared.nodes.Want.{Want}
use Rattle.transcript.specs.Transcript.{Entry}
use Rattle.claims.specs.Causes.{due, first_of_them, has_cause, is_aged, step_due}
use Rattle.claims.specs.Claim.{Each, of_entries}
use Rattle.claims.specs.Judged.{judged}
use Rattle.claims.specs.Names.{cause, claim}
use Rattle.claims.specs.Past.{Past, new_past}
use Rattle.claims.specs.Sameness.{answer_number, is_same_answer}
use Rattle.node_rules.specs.Acts.{first_refusal}
use Rattle.node_rules.specs.Choices.{Choices}
use Rattle.node_rules.specs.Flights.{weight}
use Rattle.node_rules.specs.Readers.{is_aged_for}
use Rattle.node_rules.specs.Run.{carried_on, entries_from, node_at, step_of, takes, world_step}
use Rattle.node_rules.specs.SecondState.{is_joined, second_commands_unless}
use Rattle.node_rules.specs.SecondStep.{second_commanded, second_step}
use Rattle.node_rules.specs.Secondary.{SecondNode}
use Rattle.node_rules.specs.World.{World, flights_on, new_world}
use Rattle.node_rules.specs.declared.inputs.Input.TheVariants.{Cmd, Come}
use Rattle.run_words.specs.Parts.{at_events}
use Rattle.run_words.proofs.Runs.{AreLinked, each_by, linked_new, linked_next, none_said}
use Rattle.run_words.proofs.Standing.{found_standing}
use Rattle.run_seconds.specs.Answers.{but_for_age, is_second_event, step_has_answer, step_is_answered}
use Rattle.run_seconds.specs.Sides.{Side, Sides, held_by, side_of}
use Rattle.run_seconds.proofs.Runs.{Told, told_new, told_next}

same_answer : (a b : Answer) → a ≡ b → is_same_answer a b ≡ true
same_answer a b is = eq-eqb (answer_number a) (answer_number b) (ap answer_number is)

-- ---- a request

-- the answer that a request is due, by what is said of the node
abbrev asking_due : Side → Answer
asking_due z = first_of_them ((not z.joined, refusal.NoSecondary) ∷ (is_some z.wants, refusal.Busy) ∷ [])

ask_answer_by : (c : Choices) (s : SecondNode) (x : Node) (w : Want) (outside busy : Bool)
    → (second_commanded c s (second_commands_unless s.proc (event.Ask x w) (first_refusal ((outside, refusal.NoSecondary) ∷ (busy, refusal.Busy) ∷ [])))).1.answer
    ≡ first_of_them ((outside, refusal.NoSecondary) ∷ (busy, refusal.Busy) ∷ [])
ask_answer_by c s x w true busy = refl
ask_answer_by c s x w false true = refl
ask_answer_by c s x w false false = refl

ask_answer : (c : Choices) (s : SecondNode) (x : Node) (w : Want) → (second_step c s (Cmd (event.Ask x w))).1.answer ≡ asking_due (held_by s.proc)
ask_answer c s x w = ask_answer_by c s x w (not (is_joined s.proc.membership)) (is_some s.proc.want)

-- what the events of the secondary nodes have in common with their claim
abbrev second_has_cause : Past → Entry → Bool
second_has_cause p x = if is_second_event x.event then has_cause p x else true

cause_of : (c : Choices) (w : World) (p : Past) (e : Event) → Told p w → second_has_cause p (world_step c w e).1 ≡ true
cause_of c w p (event.Deny T on) told = refl
cause_of c w p (event.Deny M on) told = refl
cause_of c w p (event.Deny A on) told = refl
cause_of c w p (event.Deny B on) told = refl
cause_of c w p (event.Ask T what) told = refl
cause_of c w p (event.Ask M what) told = refl
cause_of c w p (event.Ask A what) told =
    same_answer (second_step c w.a (Cmd (event.Ask A what))).1.answer (asking_due (side_of p.a)) (ask_answer c w.a A what ∙ sym (ap (λ (s : Sides). asking_due s.a) told.sides_are))
cause_of c w p (event.Ask B what) told =
    same_answer (second_step c w.b (Cmd (event.Ask B what))).1.answer (asking_due (side_of p.b)) (ask_answer c w.b B what ∙ sym (ap (λ (s : Sides). asking_due s.b) told.sides_are))
cause_of c w p (event.Bearer id n first shape threshold policy) told = refl
cause_of c w p (event.Reshape id shape) told = refl
cause_of c w p (event.Remove id) told = refl
cause_of c w p (event.Add x) told = refl
cause_of c w p event.Change told = refl
cause_of c w p event.Release told = refl
cause_of c w p event.RekeySecond told = refl
cause_of c w p (event.RekeyMaster root) told = refl
cause_of c w p (event.Recover id) told = refl
cause_of c w p (event.Report x id) told = refl
cause_of c w p event.ScgFail told = refl
cause_of c w p (event.Submit id d payload) told = refl
cause_of c w p (event.Step l i) told = refl
cause_of c w p (event.Lose l i) told = refl
cause_of c w p (event.Again l i) told = refl

-- each event of a secondary node is answered as it is due: to be set to deny, or not to, ok; and a request is refused where the node
-- did not join or left, and where another request of it has no answer yet
pub second_causes_hold : (c : Choices) (h : Header) (policies : ℕ) (es : List Event)
    → Each (at_events is_second_event (claim cause)) (new_past h policies) (entries_from c (new_world h) es)
second_causes_hold c h policies es =
    each_by c (at_events is_second_event (claim cause)) Told (λ w p e told. none_said (judged e (world_step c w e).1.answer p) (world_step c w e).1.lines) (cause_of c)
    (λ w p e told. told_next c w p e told) es (new_world h) (new_past h policies) (told_new h policies)

-- ---- a step

takes_ok : (c : Choices) (w : World) (l : LinkId) (f : Flight) (x : Node) → (takes c w (Come l f) x).1.answer ≡ answer.Ok
takes_ok c w l f T = refl
takes_ok c w l f M = refl
takes_ok c w l f A = refl
takes_ok c w l f B = refl

-- the answer to a step with a flight at its place, but for its age
abbrev place_answer : Bool → Answer
place_answer behind = first_of_them ((behind, refusal.NotFirst) ∷ [])

step_answer : (c : Choices) (w : World) (l : LinkId) (i : ℕ) (f : Flight) → but_for_age (carried_on c w (step_of w l i (Some f))).1.answer ≡ place_answer (is_ordered l.class && nat_lt 0 i)
step_answer c w l i f =
    elim (cases_Bool (is_ordered l.class && nat_lt 0 i)) [
      | inl behind ↦ rw behind refl
      | inr first ↦ elim (cases_Bool (is_aged_for (node_at w l.to) (weight f))) [
        | inl aged ↦ rw (first, aged) refl
        | inr fresh ↦ rw (first, fresh) (ap but_for_age (takes_ok c w l f l.to))
      ]
    ]

due_answer : (behind aged : Bool) → but_for_age (first_of_them ((behind, refusal.NotFirst) ∷ (aged, refusal.Aged) ∷ [])) ≡ place_answer behind
due_answer true aged = refl
due_answer false true = refl
due_answer false false = refl

step_with : (c : Choices) (w : World) (p : Past) (l : LinkId) (i : ℕ) (o : Option Flight)
    → but_for_age (carried_on c w (step_of w l i o)).1.answer ≡ but_for_age (step_due p l i (option_map (λ f. (l, f)) o))
step_with c w p l i None = refl
step_with c w p l i (Some f) = step_answer c w l i f ∙ sym (due_answer (is_ordered l.class && nat_lt 0 i) (is_aged p l f))

step_is : (c : Choices) (w : World) (p : Past) (e : Event) → AreLinked p w → step_has_answer p (world_step c w e).1 ≡ true
step_is c w p (event.Step l i) linked =
    let o = slice_get (flights_on l w.links) i in
    same_answer (but_for_age (carried_on c w (step_of w l i o)).1.answer) (but_for_age (due p (event.Step l i)))
    (step_with c w p l i o ∙ sym (ap (λ s. but_for_age (step_due p l i s)) (found_standing p w linked.same l i)))
step_is c w p (event.Lose l i) linked = refl
step_is c w p (event.Again l i) linked = refl
step_is c w p (event.Bearer id n first shape threshold policy) linked = refl
step_is c w p (event.Reshape id shape) linked = refl
step_is c w p (event.Remove id) linked = refl
step_is c w p (event.Add x) linked = refl
step_is c w p event.Change linked = refl
step_is c w p event.Release linked = refl
step_is c w p event.RekeySecond linked = refl
step_is c w p (event.RekeyMaster root) linked = refl
step_is c w p (event.Recover id) linked = refl
step_is c w p (event.Report x id) linked = refl
step_is c w p (event.Deny x on) linked = refl
step_is c w p (event.Ask x w') linked = refl
step_is c w p event.ScgFail linked = refl
step_is c w p (event.Submit id d sdu) linked = refl

-- each step is answered as it is due, but for the age of its flight: it is refused where no flight stands at its place, and where the
-- link keeps its order and the flight is not the first there; in every other case the flight is taken from its link
pub steps_answered : (c : Choices) (h : Header) (policies : ℕ) (es : List Event)
    → Each (of_entries (λ p x q. step_has_answer p x)) (new_past h policies) (entries_from c (new_world h) es)
steps_answered c h policies es =
    each_by c (of_entries (λ p x q. step_has_answer p x)) AreLinked (λ w p e linked. none_said (judged e (world_step c w e).1.answer p) (world_step c w e).1.lines) (step_is c)
    (linked_next c) es (new_world h) (new_past h policies) (linked_new h policies)
