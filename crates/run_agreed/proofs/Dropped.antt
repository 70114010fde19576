-- In each run a bearer that was dropped is gone from the table, or its drop is asked for.
use Rattle.std.proofs.Common.{ℕ, ◌≡◌, ◌==◌, Bool, true, false, List, [], ◌∷◌, Option, Some, None, refl, sym, ap, subst, ◌∙◌, inl, inr, length}
use Rattle.std.specs.List.{AllByRecursion}
use Rattle.std.specs.Prelude.{if◌then◌else◌}
use Rattle.std.proofs.lemmas.Bool.{cases_Bool, eqb-true}
use Rattle.dc_base.specs.Nodes.{is_secondary}
use Rattle.dc_base.specs.declared.answers.Refusal.{Refusal}
use Rattle.dc_base.specs.declared.events.Event.{Event}
use Rattle.dc_base.specs.declared.events.Event.TheVariants as event
use Rattle.dc_base.specs.declared.events.Header.{Header}
use Rattle.dc_base.specs.declared.nodes.Node.{Node}
use Rattle.dc_base.specs.declared.nodes.Node.TheVariants.{A}
use Rattle.dc_base.specs.declared.records.Item.TheVariants as item
use Rattle.dc_base.specs.declared.records.Plan.{Plan}
use Rattle.dc_base.specs.declared.records.Rec.{Rec}
use Rattle.dc_base.specs.declared.records.Rec.TheVariants as rec
use Rattle.claims.specs.Noted.{after}
use Rattle.claims.specs.Past.{Past, new_past}
use Rattle.node_rules.specs.Acts.{first_refusal}
use Rattle.node_rules.specs.Choices.{Choices}
use Rattle.node_rules.specs.CommandTable.{row}
use Rattle.node_rules.specs.Drafts.{Draft, asking_for, same_keys, shape_of, without_key}
use Rattle.node_rules.specs.Master.{MasterNode}
use Rattle.node_rules.specs.MasterCommands.{command_refusals, commands, commands_unless}
use Rattle.node_rules.specs.MasterGo.{alone, begins_by, drawn}
use Rattle.node_rules.specs.MasterStep.{commanded}
use Rattle.node_rules.specs.Run.{world_step}
use Rattle.node_rules.specs.World.{World, new_world}
use Rattle.node_rules.specs.declared.commands.First.{First}
use Rattle.run_control.specs.Orders.{Ascends}
use Rattle.run_control.proofs.MasterActs.{does_projects}
use Rattle.run_control.proofs.TalkSteps.{IsKept}
use Rattle.run_windows.specs.Seen.{Seen, answered, seen}
use Rattle.run_agreed.specs.Dropped.{DropsGoOn, IsGoneOrGoing, drops, is_dropped_at, is_going, sets_up}
use Rattle.run_agreed.specs.Drops.{DropStands, RejectionFits, asked_plan}
use Rattle.run_agreed.specs.Lines.{is_spoken, pair_at, spoken}
use Rattle.run_agreed.proofs.DroppedSeen.{after_dropped, answered_dropped, new_dropped}
use Rattle.run_agreed.proofs.Gone.{IsOut, OriginFits, part_out, went_dropped}
use Rattle.run_agreed.proofs.MasterEvents.{MasterEvent, master_event, proc_keeps}

-- what is not of commands rejects nothing
unspoken_fits : (last : ℕ) (o : Option Plan) (r : Rec) → is_spoken r ≡ false → RejectionFits last o r
unspoken_fits last o (rec.Reconf plan key) none = absurd cc
unspoken_fits last o (rec.Rcomp g) none = absurd cc
unspoken_fits last o (rec.Scgf failed) none = absurd cc
unspoken_fits last o (rec.Recov id) none = absurd cc
unspoken_fits last o (rec.Recovd id) none = absurd cc
unspoken_fits last o (rec.Addreq plan key) none = absurd cc
unspoken_fits last o (rec.Addack g) none = absurd cc
unspoken_fits last o (rec.Addrej g) none = absurd cc
unspoken_fits last o (rec.Modreq plan key) none = absurd cc
unspoken_fits last o (rec.Modack g) none = absurd cc
unspoken_fits last o (rec.Modrej g) none = absurd cc
unspoken_fits last o (rec.Recfg g) none = absurd cc
unspoken_fits last o (rec.Relreq plan) none = absurd cc
unspoken_fits last o (rec.Relack g) none = absurd cc
unspoken_fits last o (rec.Relrej g) none = absurd cc
unspoken_fits last o (rec.Uecr g) none = absurd cc
unspoken_fits last o (rec.Snst status) none = tt
unspoken_fits last o (rec.Moved g id) none = tt
unspoken_fits last o (rec.Scgn id g) none = absurd cc
unspoken_fits last o rec.Modrqd none = absurd cc
unspoken_fits last o (rec.Modcnf g) none = absurd cc
unspoken_fits last o (rec.Modref word) none = absurd cc
unspoken_fits last o rec.Chgrqd none = absurd cc
unspoken_fits last o (rec.Chgcnf plan) none = absurd cc
unspoken_fits last o (rec.Chgref word) none = absurd cc
unspoken_fits last o rec.Relrqd none = absurd cc
unspoken_fits last o (rec.Relcnf plan) none = absurd cc

first_fits : (last : ℕ) (o : Option Plan) (q : Rec) (rest : List Rec) → AllByRecursion (RejectionFits last o) (spoken (q ∷ rest)) → RejectionFits last o q
first_fits last o q rest all = by (is_spoken q) refl all
  where
    by : (b : Bool) → is_spoken q ≡ b → AllByRecursion (RejectionFits last o) (if b then q ∷ spoken rest else spoken rest) → RejectionFits last o q
    by true is every = every.0
    by false is every = unspoken_fits last o q is

module _ (c : Choices) (w : World) (e : Event) (kept : IsKept w) (stands : (x : Node) → is_secondary x ≡ true → DropStands (pair_at x w)) (id : ℕ) where
  -- an event that sets none up keeps it
  any_keeps : sets_up id e ≡ false → IsGoneOrGoing id w.master.proc → IsGoneOrGoing id (world_step c w e).0.master.proc
  any_keeps other state =
      let m = w.master.proc in
      let is : MasterEvent w e (world_step c w e).0.master.proc = master_event c w e kept in
      let fits : OriginFits is.origin m =
      λ y q second from. let line = is.on_line y q second from in
      first_fits m.table.last (asked_plan m.command) q line.0 (subst (λ rs. AllByRecursion (RejectionFits m.table.last (asked_plan m.command)) (spoken rs)) line.1 (stands y second).rejections) in
      let out : IsOut id is.origin m = record { first = (stands A refl).first; fits = fits; state = state } in
      subst (IsGoneOrGoing id) (sym is.proc) (proc_keeps is.origin (IsOut id is.origin) (part_out id is.origin (λ d from. ap (sets_up id) (is.of_event d from) ∙ other)) m is.out out is.chain).state

-- ---- a bearer of this identity is set up, or dropped

module _ (c : Choices) (m : MasterNode) (up : Ascends m.anchors) (id : ℕ) (s : Seen) where
  -- after it
  abbrev Then : Event → Option Refusal → Type 0
  Then e o =
      let done = commanded c m (commands_unless m.proc e o) in
      (is_dropped_at id s.bearers ≡ true → IsGoneOrGoing id m.proc) → is_dropped_at id (answered e done.1.answer s).bearers ≡ true → IsGoneOrGoing id done.0.proc

  set_up_then : (e : Event) (o : Option Refusal) → sets_up id e ≡ true → Then e o
  set_up_then e None sets before dropped = let bad : false ≡ true = sym (new_dropped id e s sets) ∙ dropped in absurd (cc bad)
  set_up_then e (Some why) sets before dropped = before dropped

  dropped_then : (i : ℕ) (o : Option Refusal) → i ≡ id → Then (event.Remove i) o
  dropped_then i (Some why) same before dropped = before dropped
  dropped_then i None same before dropped =
      let t = m.proc.table in
      let first = asking_for (shape_of (row t i)) t.sec in
      let d = without_key t (same_keys t t.sec (item.Unset i ∷ [])) first in
      subst (IsGoneOrGoing id) (sym (does_projects c m (commands m.proc (event.Remove i)) up).proc) (by d first (ap (λ j. item.Unset j ∷ []) same))
    where
      by : (d : Draft) (f : Option (First × Node)) → d.change.plan.items ≡ item.Unset id ∷ [] → IsGoneOrGoing id (begins_by (drawn m.proc d) d false f).0
      by d None items = went_dropped id (drawn m.proc d) d.change alone items
      by d (Some (f, who)) items = is_going d.change f who false refl items

-- ---- a step

module _ (c : Choices) (w : World) (p : Past) (kept : IsKept w) (stands : (x : Node) → is_secondary x ≡ true → DropStands (pair_at x w)) (before : DropsGoOn p w) where
  -- what is dropped then was dropped before, or the event dropped it
  abbrev After : Event → Type 0
  After e = DropsGoOn (after p (world_step c w e).1) (world_step c w e).0

  other_next : (e : Event) (id : ℕ) → sets_up id e ≡ false → drops id e ≡ false → is_dropped_at id (answered e (world_step c w e).1.answer (seen p)).bearers ≡ true → IsGoneOrGoing id (world_step c w e).0.master.proc
  other_next e id other kept' dropped =
      any_keeps c w e kept stands id other (before id (sym (answered_dropped id e (world_step c w e).1.answer (seen p) other kept') ∙ dropped))

  command_next : (e : Event) (id : ℕ) → ((o : Option Refusal) → Then c w.master kept.ordered.master id (seen p) e o)
      → (let done = commanded c w.master (commands_unless w.master.proc e (first_refusal (command_refusals (length c.policies) w.master.proc e))) in
      is_dropped_at id (answered e done.1.answer (seen p)).bearers ≡ true → IsGoneOrGoing id done.0.proc)
  command_next e id then' dropped = then' (first_refusal (command_refusals (length c.policies) w.master.proc e)) (before id) dropped

  of_event : (e : Event) (id : ℕ) → is_dropped_at id (answered e (world_step c w e).1.answer (seen p)).bearers ≡ true → IsGoneOrGoing id (world_step c w e).0.master.proc
  of_event (event.Bearer i n first shape threshold policy) id dropped = elim (cases_Bool (i == id)) [ inl same ↦ command_next (event.Bearer i n first shape threshold policy) id (λ o. set_up_then c w.master kept.ordered.master id (seen p) (event.Bearer i n first shape threshold policy) o same) dropped | inr other ↦ other_next (event.Bearer i n first shape threshold policy) id other refl dropped ]
  of_event (event.Reshape i shape) id dropped = other_next (event.Reshape i shape) id refl refl dropped
  of_event (event.Remove i) id dropped = elim (cases_Bool (i == id)) [ inl same ↦ command_next (event.Remove i) id (λ o. dropped_then c w.master kept.ordered.master id (seen p) i o (eqb-true i id same)) dropped | inr other ↦ other_next (event.Remove i) id refl other dropped ]
  of_event (event.Add node) id dropped = other_next (event.Add node) id refl refl dropped
  of_event event.Change id dropped = other_next event.Change id refl refl dropped
  of_event event.Release id dropped = other_next event.Release id refl refl dropped
  of_event event.RekeySecond id dropped = other_next event.RekeySecond id refl refl dropped
  of_event (event.RekeyMaster root) id dropped = other_next (event.RekeyMaster root) id refl refl dropped
  of_event (event.Recover i) id dropped = other_next (event.Recover i) id refl refl dropped
  of_event (event.Report node i) id dropped = other_next (event.Report node i) id refl refl dropped
  of_event (event.Deny node on) id dropped = other_next (event.Deny node on) id refl refl dropped
  of_event (event.Ask node what) id dropped = other_next (event.Ask node what) id refl refl dropped
  of_event event.ScgFail id dropped = other_next event.ScgFail id refl refl dropped
  of_event (event.Submit i d payload) id dropped = other_next (event.Submit i d payload) id refl refl dropped
  of_event (event.Step l j) id dropped = other_next (event.Step l j) id refl refl dropped
  of_event (event.Lose l j) id dropped = other_next (event.Lose l j) id refl refl dropped
  of_event (event.Again l j) id dropped = other_next (event.Again l j) id refl refl dropped

  -- each event keeps it
  pub drops_next : (e : Event) → After e
  drops_next e id dropped = of_event e id (sym (after_dropped id p (world_step c w e).1) ∙ dropped)

pub drops_new : (h : Header) (policies : ℕ) → DropsGoOn (new_past h policies) (new_world h)
drops_new h policies id dropped = let bad : false ≡ true = dropped in absurd (cc bad)
