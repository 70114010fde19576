-- In each run all anchors and leg hosts are set up as the plan sets them that was drawn with their generation.
use Rattle.std.proofs.Common.{ℕ, ◌≡◌, List, [], ◌∷◌, Option, Some, None, sym, subst, inl, inr}
use Rattle.std.specs.Prelude.{fold, ⊤}
use Rattle.std.specs.List.{AllByRecursion, flat_map}
use Rattle.std.proofs.lemmas.Bool.{cases_Bool}
use Rattle.dc_base.specs.Links.{is_same_link, link_number}
use Rattle.dc_base.specs.declared.events.Event.{Event}
use Rattle.dc_base.specs.declared.events.Header.{Header}
use Rattle.dc_base.specs.declared.events.Line.{Line}
use Rattle.dc_base.specs.declared.events.Line.TheVariants as line
use Rattle.dc_base.specs.declared.events.Note.{Note}
use Rattle.dc_base.specs.declared.flights.Flight.{Flight}
use Rattle.dc_base.specs.declared.nodes.LinkId.{LinkId}
use Rattle.dc_base.specs.declared.records.Plan.{Plan}
use Rattle.transcript.specs.Content.{on_link, place_taken, put_on, without_taken}
use Rattle.transcript.specs.Transcript.{sends}
use Rattle.transcript.proofs.OnEach.{each_append, each_remove, each_weaker}
use Rattle.claims.specs.Noted.{after, past, past_from}
use Rattle.claims.specs.Past.{Past, new_past}
use Rattle.master_runs.proofs.Contents.{flights_next}
use Rattle.master_runs.proofs.Moving.{none_there}
use Rattle.node_rules.specs.Choices.{Choices}
use Rattle.node_rules.specs.Lines.{lines_of}
use Rattle.node_rules.specs.Run.{carried_on, entries_from, happening, world_after, world_step}
use Rattle.node_rules.specs.World.{World, flights_on, new_world}
use Rattle.run_control.specs.Sound.{AddsSecond}
use Rattle.run_table.specs.View.{View, view}
use Rattle.run_table.specs.Words.{hears}
use Rattle.run_table.proofs.Views.{after_view, hears_answer}
use Rattle.run_uplinks.proofs.Wells.{answer_grows, lines_grow}
use Rattle.run_words.proofs.Lines.{each_line_of}
use Rattle.run_relays.specs.Setups.{AreSetUp}
use Rattle.run_relays.proofs.MasterTurn.{ArePlansApart, Stay}
use Rattle.run_relays.proofs.Runs.{Relays, event_becomes, relays_new, relays_next}
use Rattle.run_relays.proofs.SecondSets.{BringsFlight}
use Rattle.run_relays.proofs.SetEvents.{HaveOf, brings_stay, event_after}

-- what is so at any moment of a run: all that nodes have, and all plans on links
pub record Planned (p : Past) (w : World) : Type 0 where
  pub have : HaveOf (view p).plans w
  pub stand : (l : LinkId) → AllByRecursion (BringsFlight (view p).plans) (flights_on l w.links)

-- ---- lines

abbrev LineBrings : List Plan → Line → Type 0
LineBrings plans (line.Send l f) = BringsFlight plans f
LineBrings plans (line.Note n) = ⊤
LineBrings plans (line.Event e) = ⊤
LineBrings plans (line.Answer a) = ⊤

notes_bring : (plans : List Plan) (ns : List Note) → AllByRecursion (λ n. LineBrings plans (line.Note n)) ns
notes_bring plans [] = tt
notes_bring plans (n ∷ ns) = (tt, notes_bring plans ns)

sends_bring : (plans : List Plan) (xs : List Line) → AllByRecursion (LineBrings plans) xs → AllByRecursion (λ (s : LinkId × Flight). BringsFlight plans s.1) (sends xs)
sends_bring plans [] all = tt
sends_bring plans (line.Send l f ∷ xs) all = (all.0, sends_bring plans xs all.1)
sends_bring plans (line.Note n ∷ xs) all = sends_bring plans xs all.1
sends_bring plans (line.Event e ∷ xs) all = sends_bring plans xs all.1
sends_bring plans (line.Answer a ∷ xs) all = sends_bring plans xs all.1

puts_bring : (plans : List Plan) (l : LinkId) (ss : List (LinkId × Flight)) → AllByRecursion (λ (s : LinkId × Flight). BringsFlight plans s.1) ss → AllByRecursion (BringsFlight plans) (flat_map (on_link l) ss)
puts_bring plans l [] all = tt
puts_bring plans l (s ∷ ss) all =
    elim (cases_Bool (is_same_link l s.0)) [ inl here ↦ rw here (all.0, puts_bring plans l ss all.1) | inr there ↦ rw there (puts_bring plans l ss all.1) ]

left_bring : (plans : List Plan) (l : LinkId) (place : Option (LinkId × ℕ)) (fs : List Flight) → AllByRecursion (BringsFlight plans) fs → AllByRecursion (BringsFlight plans) (without_taken l place fs)
left_bring plans l None fs all = all
left_bring plans l (Some place) fs all =
    elim (cases_Bool (is_same_link l place.0)) [ inl here ↦ rw here (each_remove (BringsFlight plans) fs place.1 all) | inr there ↦ rw there all ]

-- ---- an event

pub planned_next : (c : Choices) (w : World) (p : Past) (e : Event) → AddsSecond e → Relays p w → Planned p w → Planned (after p (world_step c w e).1) (world_step c w e).0
planned_next c w p e adds is planned' =
    let h = happening w e in
    let o = (carried_on c w h).1 in
    let x = (world_step c w e).1 in
    let well = is.holds.well in
    let same : view (after p x) ≡ fold hears (hears_answer p e o.answer (view p)) (lines_of o) = after_view p x in
    let plans = (fold hears (hears_answer p e o.answer (view p)) (lines_of o)).plans in
    let apart : ArePlansApart plans = subst (λ (v : View). ArePlansApart v.plans) same (event_becomes c w p e is.read).is.apart in
    let done = event_after c p w well is.holds.lasts.agree planned'.have planned'.stand e adds apart in
    let first = answer_grows p e o.answer (view p) well in
    let stay : Stay (view p).plans plans = λ g q at. (lines_grow (lines_of o) (hears_answer p e o.answer (view p)) first.well).stays g q (first.stays g q at) in
    let lines = each_line_of (LineBrings plans) o (notes_bring plans o.notes) done.brings in
    let links : (l : LinkId) → AllByRecursion (BringsFlight plans) (flights_on l (world_step c w e).0.links) =
    λ l. subst (AllByRecursion (BringsFlight plans)) (sym (flights_next c w e l is.right.long))
    (each_append (BringsFlight plans) (without_taken l (place_taken e x.answer) (flights_on l w.links)) (put_on l x.lines)
    (left_bring plans l (place_taken e x.answer) (flights_on l w.links) (each_weaker (BringsFlight (view p).plans) (BringsFlight plans) (λ f here. brings_stay (view p).plans plans stay f here) (flights_on l w.links) (planned'.stand l)))
    (puts_bring plans l (sends x.lines) (sends_bring plans x.lines lines))) in
    record {
      have = subst (λ (v : View). HaveOf v.plans (world_step c w e).0) (sym same) (record { master = done.all.master; a = done.all.a; b = done.all.b });
      stand = subst (λ (v : View). (l : LinkId) → AllByRecursion (BringsFlight v.plans) (flights_on l (world_step c w e).0.links)) (sym same) links;
    }

-- ---- a run

pub planned_new : (h : Header) (policies : ℕ) → Planned (new_past h policies) (new_world h)
planned_new h policies = record {
  have = record { master = record { anchors = tt; hosts = tt }; a = record { anchors = tt; hosts = tt }; b = record { anchors = tt; hosts = tt } };
  stand = λ l. subst (AllByRecursion (BringsFlight [])) (sym (none_there 64 (link_number l) [])) tt;
}

planned_on : (c : Choices) (es : List Event) → AllByRecursion AddsSecond es → (w : World) (p : Past) → Relays p w → Planned p w → Planned (past_from p (entries_from c w es)) (world_after c w es)
planned_on c [] adds w p is planned' = planned'
planned_on c (e ∷ es) adds w p is planned' =
    planned_on c es adds.1 (world_step c w e).0 (after p (world_step c w e).1) (relays_next c w p e adds.0 is) (planned_next c w p e adds.0 is planned')

-- after any events of which each addition is of a secondary node, each anchor and each leg host is set up as an item of the plan sets
-- it that was drawn with its generation: identity, length of SNs, first COUNT, shape and secondary node, and which node has the anchor
pub setups_of_plans_always : (c : Choices) (h : Header) (policies : ℕ) (es : List Event) → AllByRecursion AddsSecond es
    → AreSetUp (past h policies (entries_from c (new_world h) es)).plans (world_after c (new_world h) es)
setups_of_plans_always c h policies es adds =
    let is = (planned_on c es adds (new_world h) (new_past h policies) (relays_new c h policies) (planned_new h policies)).have in
    record { anchors = is.master.anchors; hosts = is.master.hosts; a_anchors = is.a.anchors; a_hosts = is.a.hosts; b_anchors = is.b.anchors; b_hosts = is.b.hosts }
