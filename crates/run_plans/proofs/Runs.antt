-- In each run each record that carries a plan carries the one that was drawn with its generation.
use Rattle.std.proofs.Common.{ℕ, ◌≡◌, ◌≤◌, ◌++◌, ◌==◌, ◌&&◌, Bool, true, false, List, [], ◌∷◌, Option, Some, None, refl, sym, ap, subst, ◌∙◌, inl, inr, arith}
use Rattle.std.specs.Prelude.{fold, if◌then◌else◌, is_none, length, nat_le, ⊤}
use Rattle.std.specs.List.{AllByRecursion}
use Rattle.std.proofs.lemmas.Bool.{eq-eqb}
use Rattle.std.proofs.lemmas.Bool.Decides.{nat_tests}
use Rattle.dc_base.specs.Count.{bits}
use Rattle.dc_base.specs.Nodes.{node_number}
use Rattle.dc_base.specs.declared.events.Event.{Event}
use Rattle.dc_base.specs.declared.events.Header.{Header}
use Rattle.dc_base.specs.declared.events.Line.{Line}
use Rattle.dc_base.specs.declared.events.Line.TheVariants as line
use Rattle.dc_base.specs.declared.events.Note.{Note}
use Rattle.dc_base.specs.declared.flights.Flight.{Flight}
use Rattle.dc_base.specs.declared.flights.Flight.TheVariants as flight
use Rattle.dc_base.specs.declared.nodes.KeyName.{KeyName}
use Rattle.dc_base.specs.declared.nodes.LinkId.{LinkId}
use Rattle.dc_base.specs.declared.nodes.Node.{Node}
use Rattle.dc_base.specs.declared.records.Item.{Item}
use Rattle.dc_base.specs.declared.records.Item.TheVariants.{Set, Unset}
use Rattle.dc_base.specs.declared.records.Plan.{Plan}
use Rattle.dc_base.specs.declared.records.Rec.{Rec}
use Rattle.dc_base.specs.declared.records.Rec.TheVariants as rec
use Rattle.claims.specs.Claim.{Each, EachLine}
use Rattle.claims.specs.Judged.{judged}
use Rattle.claims.specs.Names as claims
use Rattle.claims.specs.Names.{claim}
use Rattle.claims.specs.Noted.{after, noted}
use Rattle.claims.specs.Past.{Past, new_past}
use Rattle.claims.specs.Planned.{is_drawn, is_planned, plan_in}
use Rattle.claims.specs.Sameness.{are_same_items, are_same_nodes, is_none_or, is_same_item, is_same_key, is_same_plan, is_some_and, shape_number, side_number}
use Rattle.node_rules.specs.Choices.{Choices}
use Rattle.node_rules.specs.Lines.{lines_of}
use Rattle.node_rules.specs.Run.{carried_on, entries_from, happening, world_step}
use Rattle.node_rules.specs.World.{World, new_world}
use Rattle.run_control.specs.Sound.{AddsSecond}
use Rattle.run_table.specs.View.{View, planned, view}
use Rattle.run_table.specs.Words.{hears}
use Rattle.run_table.proofs.Views.{after_view, all_noted_view, hears_answer, judged_view, noted_view}
use Rattle.run_words.proofs.Lines.{each_line_of}
use Rattle.run_words.proofs.Runs.{each_if}
use Rattle.run_relays.specs.Setups.{no_release}
use Rattle.run_relays.proofs.MasterTurn.{ArePlansApart}
use Rattle.run_relays.proofs.Planned.{Runs}
use Rattle.run_relays.proofs.Runs.{Relays, event_becomes, relays_new, relays_next}
use Rattle.run_relays.proofs.SecondSets.{BringsFlight, BringsPlan}
use Rattle.run_relays.proofs.SetEvents.{event_after}
use Rattle.run_relays.proofs.SetRuns.{Planned, planned_new, planned_next}
use Rattle.run_plans.specs.Lines.{AreLater, IsFree, IsStill}
use Rattle.run_plans.proofs.Lines.{Splits, found_later, heard_after, later_answer, later_lines, split_lines, still_fold, still_plans}
use Rattle.run_plans.proofs.Steps.{sorted_event}

-- ---- a plan is the same as itself

same_nodes : (o : Option Node) → are_same_nodes o o ≡ true
same_nodes None = refl
same_nodes (Some x) = eq-eqb (node_number x) (node_number x) refl

same_key : (k : KeyName) → is_same_key k k ≡ true
same_key k = rw (eq-eqb k.root k.root refl) (eq-eqb (side_number k.side) (side_number k.side) refl)

same_item : (i : Item) → is_same_item i i ≡ true
same_item (Set id n first shape threshold policy key old) =
    rw (eq-eqb id id refl) (rw (eq-eqb (bits n) (bits n) refl) (rw (eq-eqb first first refl) (rw (eq-eqb (shape_number shape) (shape_number shape) refl)
    (rw (eq-eqb threshold threshold refl) (rw (eq-eqb policy policy refl) (rw (same_key key) (same_nodes old)))))))
same_item (Unset id) = eq-eqb id id refl

same_items : (is : List Item) → are_same_items is is ≡ true
same_items [] = refl
same_items (i ∷ is) = rw (same_item i) (same_items is)

same_plan : (q : Plan) → is_same_plan q q ≡ true
same_plan q = rw (eq-eqb q.g q.g refl) (rw (same_nodes q.sec) (same_items q.items))

-- ---- a line that carries a plan that was drawn

drawn_so : (p : Past) (q : Plan) → AreLater p.plans → planned p.plans q.g ≡ Some q → is_drawn p q ≡ true
drawn_so p q later at =
    let one = found_later p.plans q.g q later at in
    let real : (q.g == 0) ≡ false = grind (arith, nat_tests, one) in
    rw real (ap (λ o. is_some_and (is_same_plan q) o) at ∙ same_plan q)

free_record : (p : Past) (l : LinkId) (r : Rec) → IsFree (line.Send l (flight.Ctl r)) → is_planned p (line.Send l (flight.Ctl r)) ≡ true
free_record p l r (inl none) = ap (λ o. is_none_or (is_drawn p) o) none
free_record p l r (inr same) = ap (λ (x : Rec). is_planned p (line.Send l (flight.Ctl x))) same

free_line : (p : Past) (x : Line) → IsFree x → is_planned p x ≡ true
free_line p (line.Note n) free = refl
free_line p (line.Event e) free = refl
free_line p (line.Answer a) free = refl
free_line p (line.Send l (flight.Ctl r)) free = free_record p l r free
free_line p (line.Send l (flight.Air id g num tag pdu)) free = refl
free_line p (line.Send l (flight.Ack id g num)) free = refl
free_line p (line.Send l (flight.Tun tag packet)) free = refl
free_line p (line.Send l (flight.Sdu id g payload)) free = refl
free_line p (line.Send l (flight.End id g)) free = refl
free_line p (line.Send l (flight.Told id g count)) free = refl

free_each : (xs : List Line) (p : Past) → AllByRecursion IsFree xs → EachLine is_planned p xs
free_each [] p free = tt
free_each (x ∷ xs) p free = (free_line p x free.0, free_each xs (noted p x) free.1)

-- what a line brings
abbrev pub LineBrings : List Plan → Line → Type 0
LineBrings plans (line.Send l f) = BringsFlight plans f
LineBrings plans (line.Note n) = ⊤
LineBrings plans (line.Event e) = ⊤
LineBrings plans (line.Answer a) = ⊤

plan_so : (p : Past) (r : Rec) (o : Option Plan) → AreLater p.plans → BringsPlan p.plans r o → is_none_or (is_drawn p) o ≡ true
plan_so p r None later brings = refl
plan_so p r (Some q) later (inl runs) = drawn_so p q later runs.0
plan_so p r (Some q) later (inr none) = ap (λ (x : Plan). is_drawn p x) none.0

brings_line : (p : Past) (x : Line) → AreLater p.plans → LineBrings p.plans x → is_planned p x ≡ true
brings_line p (line.Note n) later brings = refl
brings_line p (line.Event e) later brings = refl
brings_line p (line.Answer a) later brings = refl
brings_line p (line.Send l (flight.Ctl r)) later brings = plan_so p r (plan_in r) later brings
brings_line p (line.Send l (flight.Air id g num tag pdu)) later brings = refl
brings_line p (line.Send l (flight.Ack id g num)) later brings = refl
brings_line p (line.Send l (flight.Tun tag packet)) later brings = refl
brings_line p (line.Send l (flight.Sdu id g payload)) later brings = refl
brings_line p (line.Send l (flight.End id g)) later brings = refl
brings_line p (line.Send l (flight.Told id g count)) later brings = refl

still_each : (plans : List Plan) → AreLater plans → (xs : List Line) (p : Past) → (view p).plans ≡ plans → AllByRecursion IsStill xs → AllByRecursion (LineBrings plans) xs → EachLine is_planned p xs
still_each plans later [] p same still bring = tt
still_each plans later (x ∷ xs) p same still bring =
    let next : (view (noted p x)).plans ≡ plans = ap (λ (v : View). v.plans) (noted_view p x) ∙ still_plans (view p) x still.0 ∙ same in (
      brings_line p x (subst AreLater (sym same) later) (subst (λ ps. LineBrings ps x) (sym same) bring.0),
      still_each plans later xs (noted p x) next still.1 bring.1,
    )

each_after : (xs ys : List Line) (p : Past) → EachLine is_planned p xs → EachLine is_planned (fold noted p xs) ys → EachLine is_planned p (xs ++ ys)
each_after [] ys p first then' = then'
each_after (x ∷ xs) ys p first then' = (first.0, each_after xs ys (noted p x) first.1 then')

right_part : {X : Type 0} (P : X → Type 0) (xs ys : List X) → AllByRecursion P (xs ++ ys) → AllByRecursion P ys
right_part P [] ys all = all
right_part P (x ∷ xs) ys all = right_part P xs ys all.1

-- where the lines split, by the plans after them
split_each : (lines : List Line) (p : Past) → Splits lines → let plans = (fold hears (view p) lines).plans in AreLater plans → AllByRecursion (LineBrings plans) lines → EachLine is_planned p lines
split_each lines p s later bring =
    let plans = (fold hears (view p) lines).plans in
    let here = fold noted p s.start in
    let same : (view here).plans ≡ plans =
    ap (λ (v : View). v.plans) (all_noted_view s.start p) ∙ sym (still_fold s.rest (fold hears (view p) s.start) s.still)
    ∙ sym (ap (λ (v : View). v.plans) (ap (λ xs. fold hears (view p) xs) s.is ∙ heard_after s.start s.rest (view p))) in
    subst (λ xs. EachLine is_planned p xs) (sym s.is)
    (each_after s.start s.rest p (free_each s.start p s.free)
    (still_each plans later s.rest here same s.still (right_part (LineBrings plans) s.start s.rest (subst (AllByRecursion (LineBrings plans)) s.is bring))))

-- ---- a run

-- what is so at any moment of it
pub record HoldsPlans (p : Past) (w : World) : Type 0 where
  pub relays : Relays p w
  pub plans : Planned p w
  pub later : AreLater (view p).plans

notes_bring : (plans : List Plan) (ns : List Note) → AllByRecursion (λ n. LineBrings plans (line.Note n)) ns
notes_bring plans [] = tt
notes_bring plans (n ∷ ns) = (tt, notes_bring plans ns)

module _ (c : Choices) where
  event_planned : (w : World) (p : Past) (e : Event) → AddsSecond e → HoldsPlans p w → let x = (world_step c w e).1 in EachLine is_planned (judged x.event x.answer p) x.lines
  event_planned w p e adds is =
      let o = (carried_on c w (happening w e)).1 in
      let x = (world_step c w e).1 in
      let agree = is.relays.holds.lasts.agree in
      let end' = fold hears (hears_answer p e o.answer (view p)) (lines_of o) in
      let same : view (after p x) ≡ end' = after_view p x in
      let apart : ArePlansApart end'.plans = subst (λ (v : View). ArePlansApart v.plans) same (event_becomes c w p e is.relays.read).is.apart in
      let done = event_after c p w is.relays.holds.well agree is.plans.have is.plans.stand e adds apart in
      let later = later_lines (lines_of o) (hears_answer p e o.answer (view p)) (later_answer p e o.answer (view p) is.later) in
      let split = split_lines end'.plans later o done.brings (sorted_event c w (view p) agree e) in
      let bring = each_line_of (LineBrings end'.plans) o (notes_bring end'.plans o.notes) done.brings in
      let start : view (judged e o.answer p) ≡ hears_answer p e o.answer (view p) = judged_view e o.answer p in
      let plans_of : View → List Plan = λ v. (fold hears v (lines_of o)).plans in
      split_each (lines_of o) (judged e o.answer p) split (subst (λ v. AreLater (plans_of v)) (sym start) later) (subst (λ v. AllByRecursion (LineBrings (plans_of v)) (lines_of o)) (sym start) bring)

  pub holds_plans_next : (w : World) (p : Past) (e : Event) → AddsSecond e → HoldsPlans p w → HoldsPlans (after p (world_step c w e).1) (world_step c w e).0
  holds_plans_next w p e adds is =
      let x = (world_step c w e).1 in
      record {
        relays = relays_next c w p e adds is.relays;
        plans = planned_next c w p e adds is.relays is.plans;
        later = subst (λ (v : View). AreLater v.plans) (sym (after_view p x)) (later_lines x.lines (hears_answer p e x.answer (view p)) (later_answer p e x.answer (view p) is.later));
      }

-- each line of each run: a record that carries a plan carries the one that was drawn with its generation, or the empty plan of
-- generation 0, with which a secondary node is told that there is nothing to release
pub records_planned : (c : Choices) (h : Header) (policies : ℕ) (es : List Event) → AllByRecursion AddsSecond es → Each (claim claims.planned) (new_past h policies) (entries_from c (new_world h) es)
records_planned c h policies es adds =
    each_if c (claim claims.planned) AddsSecond HoldsPlans (λ w p e add is. event_planned c w p e add is) (λ w p e add is. refl) (λ w p e add is. holds_plans_next c w p e add is) es adds (new_world h) (new_past h policies)
    (record { relays = relays_new c h policies; plans = planned_new h policies; later = tt })
