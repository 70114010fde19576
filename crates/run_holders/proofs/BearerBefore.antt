-- Where a bearer is set up anew, no node has an active anchor of its identity: what each node holds it holds still.
use Rattle.std.proofs.Common.{ℕ, ◌≡◌, ◌∙◌, true, false, Option, Some, None, refl, sym, ap, subst}
use Rattle.std.specs.Prelude.{is_some, length, not, ◌&&◌}
use Rattle.dc_base.specs.declared.answers.Answer.TheVariants as answer
use Rattle.dc_base.specs.declared.answers.Refusal.{Refusal}
use Rattle.dc_base.specs.declared.answers.Refusal.TheVariants as refusal
use Rattle.dc_base.specs.declared.events.Event.{Event}
use Rattle.dc_base.specs.declared.events.Event.TheVariants as event
use Rattle.dc_base.specs.declared.nodes.Node.{Node}
use Rattle.dc_base.specs.declared.nodes.Shape.{Shape}
use Rattle.dc_base.specs.declared.numbers.SnLen.{SnLen}
use Rattle.node_rules.specs.Acts.{first_refusal}
use Rattle.node_rules.specs.Choices.{Choices}
use Rattle.node_rules.specs.CommandTable.{row}
use Rattle.node_rules.specs.MasterCommands.{command_refusals, commands_unless}
use Rattle.node_rules.specs.MasterState.{has_bearer, is_unsettled}
use Rattle.node_rules.specs.MasterStep.{commanded, master_step}
use Rattle.node_rules.specs.World.{World}
use Rattle.node_rules.specs.declared.commands.Row.{Row}
use Rattle.node_rules.specs.declared.inputs.Input.TheVariants.{Cmd}
use Rattle.claims.specs.Judged.{judged}
use Rattle.claims.specs.Past.{Past}
use Rattle.run_places.proofs.Runs.{IsWhole}
use Rattle.run_windows.proofs.Commands.{none_of, not_first}
use Rattle.run_holders.specs.Fitting.{HoldsAll}
use Rattle.run_holders.specs.Suited.{actives_at}
use Rattle.run_holders.proofs.HeldLines.{HoldsIn}
use Rattle.run_holders.proofs.HeldSeeing.{judged_seen}
use Rattle.run_holders.proofs.JudgedHolds.{judged_holds}
use Rattle.run_holders.proofs.NoneActive.{none_active}

-- an event that is refused leaves held what is held
pub refused_before : (p : Past) (e : Event) (why : Refusal) (y : Node) (w : World) → HoldsAll p y (actives_at y w) → HoldsAll (judged e (answer.No why) p) y (actives_at y w)
refused_before p e why y w holds k g at = subst (λ hs. HoldsIn hs k y g) (sym (judged_seen e (answer.No why) p)) (holds k g at)

module _ (c : Choices) (p : Past) (w : World) (whole : IsWhole w) (id : ℕ) (n : SnLen) (first : ℕ) (shape : Shape) (threshold policy : ℕ) where
  no_row : w.master.proc.command ≡ None → has_bearer w.master.proc id ≡ false → row w.master.proc.table id ≡ None
  no_row free has = by (row w.master.proc.table id) (ap (λ o. is_some (row w.master.proc.table id) && not (is_unsettled id o)) (sym free) ∙ has)
    where
      by : (o : Option Row) → (is_some o && true) ≡ false → o ≡ None
      by None no' = refl
      by (Some r) no' = let bad : true ≡ false = no' in cc

  by_refusal : (q : Option Refusal) → first_refusal (command_refusals (length c.policies) w.master.proc (event.Bearer id n first shape threshold policy)) ≡ q → (y : Node) → HoldsAll p y (actives_at y w)
      → HoldsAll (judged (event.Bearer id n first shape threshold policy) (commanded c w.master (commands_unless w.master.proc (event.Bearer id n first shape threshold policy) q)).1.answer p) y (actives_at y w)
  by_refusal (Some why) some y holds = refused_before p (event.Bearer id n first shape threshold policy) why y w holds
  by_refusal None none y holds =
      let e = event.Bearer id n first shape threshold policy in
      let one = not_first (is_some w.master.proc.command) refusal.Busy _ none in
      let free = none_of w.master.proc.command one.0 in
      let two = not_first (has_bearer w.master.proc id) refusal.BearerThere _ one.1 in
      judged_holds p e answer.Ok y (actives_at y w) (none_active w id whole free (no_row free two.0) y) tt holds

  -- before the lines of the event
  pub bearer_before : (y : Node) → HoldsAll p y (actives_at y w) → HoldsAll (judged (event.Bearer id n first shape threshold policy) (master_step c w.master (Cmd (event.Bearer id n first shape threshold policy))).1.answer p) y (actives_at y w)
  bearer_before y holds = by_refusal (first_refusal (command_refusals (length c.policies) w.master.proc (event.Bearer id n first shape threshold policy))) refl y holds
