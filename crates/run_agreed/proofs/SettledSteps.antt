-- After each step of the master's procedures an open command waits for something, and a release that waits where none is open would
-- set a spent key.
use Rattle.std.proofs.Common.{ℕ, ◌≡◌, ◌==◌, ◌&&◌, Bool, true, false, [], ◌∷◌, Option, Some, None, refl, sym, ap, subst, ◌∙◌}
use Rattle.std.specs.Prelude.{Err, Ok, Result, filter, find, if◌then◌else◌, not, ⊤}
use Rattle.std.specs.List.{list_any}
use Rattle.dc_base.specs.Nodes.{is_same_node, is_secondary}
use Rattle.dc_base.specs.declared.answers.Refusal.{Refusal}
use Rattle.dc_base.specs.declared.answers.Word.{Word}
use Rattle.dc_base.specs.declared.events.Event.{Event}
use Rattle.dc_base.specs.declared.events.Event.TheVariants as event
use Rattle.dc_base.specs.declared.events.Note.TheVariants as note
use Rattle.dc_base.specs.declared.nodes.Node.{Node}
use Rattle.dc_base.specs.declared.nodes.Node.TheVariants.{A, B, M, T}
use Rattle.dc_base.specs.declared.nodes.Want.{Want}
use Rattle.dc_base.specs.declared.nodes.Want.TheVariants as want
use Rattle.dc_base.specs.declared.records.Plan.{Plan}
use Rattle.dc_base.specs.declared.records.Rec.{Rec}
use Rattle.dc_base.specs.declared.records.Rec.TheVariants as rec
use Rattle.dc_base.specs.declared.records.RecKind.{RecKind}
use Rattle.dc_base.specs.declared.records.RecKind.TheVariants as kind
use Rattle.dc_base.specs.declared.records.StatusTransfer.{StatusTransfer}
use Rattle.node_rules.specs.Acts.{ProcFault, first_refusal, unexpected}
use Rattle.node_rules.specs.Drafts.{Draft, draft}
use Rattle.node_rules.specs.MasterCommands.{command_by, command_refusals, commands_unless, master_command, recovered_by, recovers_at, recovers_row}
use Rattle.node_rules.specs.CommandTable.{row}
use Rattle.node_rules.specs.MasterEnds.{is_release_spent, tries}
use Rattle.node_rules.specs.MasterGo.{alone, begins_by, begins_if, drawn, way}
use Rattle.node_rules.specs.MasterRecords.{adopted_if, agreed, agreed_if, asking_refusal, begins_asked, completed, completed_if, is_answer, is_moving, moved, passed_to, recovered, recovered_at, recovered_second, recovered_there, rejected, rejected_if, rejecting, released, transferred, wanted_by}
use Rattle.node_rules.specs.MasterState.{MasterActs, MasterProc, with_waits}
use Rattle.node_rules.specs.MasterTaking.{adopted_here, from_second, from_terminal, master_adopted, master_take}
use Rattle.node_rules.specs.Places.{is_at}
use Rattle.node_rules.specs.declared.acts.Act.TheVariants.{Send as send}
use Rattle.node_rules.specs.declared.commands.Change.{Change}
use Rattle.node_rules.specs.declared.commands.Command.{Command}
use Rattle.node_rules.specs.declared.commands.Command.TheVariants.{Asked as asked, Gone as gone, Recovering as recovering}
use Rattle.node_rules.specs.declared.commands.First.{First}
use Rattle.node_rules.specs.declared.commands.First.TheVariants.{Addition as addition, Modification as modification, Release as release}
use Rattle.node_rules.specs.declared.commands.Going.{Going}
use Rattle.node_rules.specs.declared.commands.Row.{Row}
use Rattle.run_control.proofs.Sent.{either}
use Rattle.run_agreed.specs.Stalls.{IsNotOver, IsSettled}
use Rattle.run_agreed.proofs.Settled.{Tried, busy_tries, ends_settled, goes_on_settled, goes_settled, recovers_on_settled, stays, tried, went_on, with_command, without_command}

-- ---- records

abbrev pub OfSettled : Result MasterActs ProcFault → Type 0
OfSettled (Ok r) = IsSettled r.0
OfSettled (Err why) = ⊤

module _ (m : MasterProc) (settled : IsSettled m) where
  agreed_if_settled : (k : RecKind) (c : Change) (first : First) (who : Node) (wanted b : Bool) → OfSettled (agreed_if k m c first who wanted b)
  agreed_if_settled k c first who wanted true = goes_settled m c (way first who wanted m.table.sec)
  agreed_if_settled k c first who wanted false = tt

  agreed_settled : (k : RecKind) (f : First) (from : Node) (g : ℕ) (o : Option Command) → OfSettled (agreed k f from g m o)
  agreed_settled k f from g None = tt
  agreed_settled k f from g (Some (asked c first who wanted)) = agreed_if_settled k c first who wanted (is_answer f from g first who c.plan.g)
  agreed_settled k f from g (Some (gone plan going)) = tt
  agreed_settled k f from g (Some (recovering id t z)) = tt

  released_settled : (r : Result MasterActs ProcFault) → OfSettled r → OfSettled (released r m)
  released_settled (Ok r) is = is
  released_settled (Err why) is = settled

  rejected_if_settled : (k : RecKind) (first : First) (who : Node) (wanted b : Bool) → OfSettled (rejected_if k m first who wanted b)
  rejected_if_settled k first who wanted true = ends_settled m (rejecting first who wanted) note.Rejected
  rejected_if_settled k first who wanted false = tt

  rejected_settled : (k : RecKind) (f : First) (from : Node) (g : ℕ) (o : Option Command) → OfSettled (rejected k f from g m o)
  rejected_settled k f from g None = tt
  rejected_settled k f from g (Some (asked c first who wanted)) = rejected_if_settled k first who wanted (is_answer f from g first who c.plan.g)
  rejected_settled k f from g (Some (gone plan going)) = tt
  rejected_settled k f from g (Some (recovering id t z)) = tt

  completed_if_settled : (p : Plan) (w : Going) (b : Bool) → OfSettled (completed_if m p w b)
  completed_if_settled p w true = goes_on_settled m p (record w { complete = true })
  completed_if_settled p w false = tt

  completed_settled : (g : ℕ) (o : Option Command) → OfSettled (completed g m o)
  completed_settled g None = tt
  completed_settled g (Some (asked c first who wanted)) = tt
  completed_settled g (Some (gone p w)) = completed_if_settled p w ((p.g == g) && not w.complete)
  completed_settled g (Some (recovering id t z)) = tt

  recovered_there_settled : (id : ℕ) (z : Option Node) (b : Bool) → OfSettled (recovered_there m id z b)
  recovered_there_settled id z true = recovers_on_settled m id false z
  recovered_there_settled id z false = tt

  recovered_second_settled : (id : ℕ) (t b : Bool) → OfSettled (recovered_second m id t b)
  recovered_second_settled id t true = recovers_on_settled m id t None
  recovered_second_settled id t false = tt

  recovered_at_settled : (x : Node) (id : ℕ) (t : Bool) (z : Option Node) (same : Bool) → OfSettled (recovered_at x m id t z same)
  recovered_at_settled T id t z same = recovered_there_settled id z (t && same)
  recovered_at_settled A id t z same = recovered_second_settled id t (is_at A z && same)
  recovered_at_settled B id t z same = recovered_second_settled id t (is_at B z && same)
  recovered_at_settled M id t z same = tt

  recovered_settled : (from : Node) (id : ℕ) (o : Option Command) → OfSettled (recovered from id m o)
  recovered_settled from id None = tt
  recovered_settled from id (Some (asked c first who wanted)) = tt
  recovered_settled from id (Some (gone plan going)) = tt
  recovered_settled from id (Some (recovering i t z)) = recovered_at_settled from i t z (i == id)

  adopted_if_settled : (k : RecKind) (id : ℕ) (x : Node) (p : Plan) (w : Going) (b : Bool) → OfSettled (adopted_if k m id x p w b)
  adopted_if_settled k id x p w true = goes_on_settled m p (record w { moving = filter (λ y. not (is_moving id x y)) w.moving })
  adopted_if_settled k id x p w false = tt

  moved_settled : (from : Node) (g id : ℕ) (o : Option Command) → OfSettled (moved from g id m o)
  moved_settled from g id None = tt
  moved_settled from g id (Some (asked c first who wanted)) = tt
  moved_settled from g id (Some (gone p w)) = adopted_if_settled kind.Moved id from p w ((p.g == g) && list_any (is_moving id from) w.moving)
  moved_settled from g id (Some (recovering i t z)) = tt

  passed_settled : (s : StatusTransfer) (from : Node) (o : Option (ℕ × Node)) → OfSettled (passed_to m s from o)
  passed_settled s from None = tt
  passed_settled s from (Some (id, M)) = settled
  passed_settled s from (Some (id, A)) = either OfSettled (is_same_node from A) (Err (unexpected kind.Snst)) (Ok (m, send A (rec.Snst s) ∷ [])) tt settled
  passed_settled s from (Some (id, B)) = either OfSettled (is_same_node from B) (Err (unexpected kind.Snst)) (Ok (m, send B (rec.Snst s) ∷ [])) tt settled
  passed_settled s from (Some (id, T)) = tt

  transferred_settled : (from : Node) (s : StatusTransfer) (o : Option Command) → OfSettled (transferred from s m o)
  transferred_settled from s None = tt
  transferred_settled from s (Some (asked c first who wanted)) = tt
  transferred_settled from s (Some (gone p w)) = passed_settled s from (if p.g == s.g then find (λ (x : ℕ × Node). x.0 == s.id) w.moving else None)
  transferred_settled from s (Some (recovering i t z)) = tt

  begins_by_settled : (k : MasterProc) (d : Draft) (wanted : Bool) (o : Option (First × Node)) → IsSettled (begins_by k d wanted o).0
  begins_by_settled k d wanted None = goes_settled k d.change alone
  begins_by_settled k d wanted (Some (f, who)) = with_command _ (asked d.change f who wanted) refl tt

  begins_if_settled : (wanted : Bool) (o : Option Draft) → IsSettled (begins_if m wanted o).0
  begins_if_settled wanted None = settled
  begins_if_settled wanted (Some d) = begins_by_settled (drawn m d) d wanted d.first

  asked_settled : (from : Node) (what : Want) (e : Event) (refuse : Word → Rec) (o : Option Word) → IsSettled (begins_asked m from what e refuse o).0
  asked_settled from what e refuse (Some why) = settled
  asked_settled from what e refuse None = begins_if_settled true (draft m.table e)

  -- the release of a node waits from now on
  release_settled : (x : Node) → is_secondary x ≡ true → (o : Option Command) → m.command ≡ o → IsSettled (tries x (with_waits true x m)).0
  release_settled x second (Some c) is = subst (λ (q : MasterActs). IsSettled q.0) (sym (busy_tries (with_waits true x m) x c (still x is))) (with_command (with_waits true x m) c (still x is) (subst IsNotOver is settled.command))
    where
      still : (y : Node) → m.command ≡ Some c → (with_waits true y m).command ≡ Some c
      still A e = e
      still B e = e
      still T e = e
      still M e = e
  release_settled A second None is = by (tried (with_waits true A m) A refl is)
    where
      by : Tried (with_waits true A m) A (tries A (with_waits true A m)) → IsSettled (tries A (with_waits true A m)).0
      by (went_on c at waits) = with_command _ c at waits
      by (stays free spent table other) =
          without_command _ free spent (λ waiting. ap (λ t. is_release_spent t (draft t event.Release)) table ∙ settled.spent B is (sym (other B refl) ∙ waiting))
  release_settled B second None is = by (tried (with_waits true B m) B refl is)
    where
      by : Tried (with_waits true B m) B (tries B (with_waits true B m)) → IsSettled (tries B (with_waits true B m)).0
      by (went_on c at waits) = with_command _ c at waits
      by (stays free spent table other) =
          without_command _ free (λ waiting. ap (λ t. is_release_spent t (draft t event.Release)) table ∙ settled.spent A is (sym (other A refl) ∙ waiting)) spent
  release_settled T second None is = absurd cc
  release_settled M second None is = absurd cc

  wanted_settled : (x : Node) (what : Want) → is_secondary x ≡ true → IsSettled (wanted_by x what m).0
  wanted_settled x want.Rekey second = asked_settled x want.Rekey event.RekeySecond (λ w. rec.Modref w) (asking_refusal x m)
  wanted_settled x want.Change second = asked_settled x want.Change event.Change (λ w. rec.Chgref w) (asking_refusal x m)
  wanted_settled x want.Release second = release_settled x second m.command refl

  second_settled : (x : Node) (r : Rec) → is_secondary x ≡ true → OfSettled (from_second x m r)
  second_settled x (rec.Reconf plan key) second = tt
  second_settled x (rec.Rcomp g) second = tt
  second_settled x (rec.Scgf failed) second = tt
  second_settled x (rec.Recov id) second = tt
  second_settled x (rec.Recovd id) second = recovered_settled x id m.command
  second_settled x (rec.Addreq plan key) second = tt
  second_settled x (rec.Addack g) second = agreed_settled kind.Addack addition x g m.command
  second_settled x (rec.Addrej g) second = rejected_settled kind.Addrej addition x g m.command
  second_settled x (rec.Modreq plan key) second = tt
  second_settled x (rec.Modack g) second = agreed_settled kind.Modack modification x g m.command
  second_settled x (rec.Modrej g) second = rejected_settled kind.Modrej modification x g m.command
  second_settled x (rec.Recfg g) second = tt
  second_settled x (rec.Relreq plan) second = tt
  second_settled x (rec.Relack g) second = released_settled (agreed kind.Relack release x g m m.command) (agreed_settled kind.Relack release x g m.command)
  second_settled x (rec.Relrej g) second = rejected_settled kind.Relrej release x g m.command
  second_settled x (rec.Uecr g) second = tt
  second_settled x (rec.Snst status) second = transferred_settled x status m.command
  second_settled x (rec.Moved g id) second = moved_settled x g id m.command
  second_settled x (rec.Scgn id g) second = tt
  second_settled x rec.Modrqd second = wanted_settled x want.Rekey second
  second_settled x (rec.Modcnf g) second = tt
  second_settled x (rec.Modref word) second = tt
  second_settled x rec.Chgrqd second = wanted_settled x want.Change second
  second_settled x (rec.Chgcnf plan) second = tt
  second_settled x (rec.Chgref word) second = tt
  second_settled x rec.Relrqd second = wanted_settled x want.Release second
  second_settled x (rec.Relcnf plan) second = tt

  terminal_settled : (r : Rec) → OfSettled (from_terminal m r)
  terminal_settled (rec.Reconf plan key) = tt
  terminal_settled (rec.Rcomp g) = completed_settled g m.command
  terminal_settled (rec.Scgf failed) = settled
  terminal_settled (rec.Recov id) = tt
  terminal_settled (rec.Recovd id) = recovered_settled T id m.command
  terminal_settled (rec.Addreq plan key) = tt
  terminal_settled (rec.Addack g) = tt
  terminal_settled (rec.Addrej g) = tt
  terminal_settled (rec.Modreq plan key) = tt
  terminal_settled (rec.Modack g) = tt
  terminal_settled (rec.Modrej g) = tt
  terminal_settled (rec.Recfg g) = tt
  terminal_settled (rec.Relreq plan) = tt
  terminal_settled (rec.Relack g) = tt
  terminal_settled (rec.Relrej g) = tt
  terminal_settled (rec.Uecr g) = tt
  terminal_settled (rec.Snst status) = tt
  terminal_settled (rec.Moved g id) = tt
  terminal_settled (rec.Scgn id g) = tt
  terminal_settled rec.Modrqd = tt
  terminal_settled (rec.Modcnf g) = tt
  terminal_settled (rec.Modref word) = tt
  terminal_settled rec.Chgrqd = tt
  terminal_settled (rec.Chgcnf plan) = tt
  terminal_settled (rec.Chgref word) = tt
  terminal_settled rec.Relrqd = tt
  terminal_settled (rec.Relcnf plan) = tt

  pub take_settled : (from : Node) (r : Rec) → OfSettled (master_take from m r)
  take_settled T r = terminal_settled r
  take_settled A r = second_settled A r refl
  take_settled B r = second_settled B r refl
  take_settled M r = tt

  -- ---- commands and adoptions

  recovers_at_settled : (id : ℕ) (x : Node) → IsSettled (recovers_at m id x).0
  recovers_at_settled id M = with_command (recovers_at m id M).0 (recovering id true None) refl (λ t none. let bad : true ≡ false = t in cc)
  recovers_at_settled id A = with_command (recovers_at m id A).0 (recovering id true (Some A)) refl (λ t none. let bad : true ≡ false = t in cc)
  recovers_at_settled id B = with_command (recovers_at m id B).0 (recovering id true (Some B)) refl (λ t none. let bad : true ≡ false = t in cc)
  recovers_at_settled id T = settled

  recovers_row_settled : (id : ℕ) (o : Option Row) → IsSettled (recovers_row m id o).0
  recovers_row_settled id None = settled
  recovers_row_settled id (Some r) = recovers_at_settled id r.anchor

  command_by_settled : (e : Event) (o : Option ℕ) → IsSettled (command_by m e o).0
  command_by_settled e None = begins_if_settled false (draft m.table e)
  command_by_settled e (Some id) = recovers_row_settled id (row m.table id)

  unless_settled : (e : Event) (o : Option Refusal) → OfSettled (commands_unless m e o)
  unless_settled e None = command_by_settled e (recovered_by e)
  unless_settled e (Some why) = tt

  pub command_settled : (n : ℕ) (e : Event) → OfSettled (master_command n m e)
  command_settled n e = unless_settled e (first_refusal (command_refusals n m e))

  adopted_here_settled : (id : ℕ) (o : Option Command) → IsSettled (adopted_here id m o).0
  adopted_here_settled id None = settled
  adopted_here_settled id (Some (asked c first who wanted)) = settled
  adopted_here_settled id (Some (gone p w)) = goes_on_settled m p (record w { moving = filter (λ y. not (is_moving id M y)) w.moving })
  adopted_here_settled id (Some (recovering i t z)) = settled

  pub adoption_settled : (id : ℕ) → IsSettled (master_adopted m id).0
  adoption_settled id = adopted_here_settled id m.command
