-- The master takes a command: what that says to a secondary node.
use Rattle.run_control.specs.SecondControl.{Views}
use Rattle.std.proofs.Common.{ℕ, ◌≡◌, ◌++◌, Bool, true, false, [], ◌∷◌, Option, Some, None, refl, sym, ap, subst, ◌∙◌, arith}
use Rattle.std.specs.Prelude.{if◌then◌else◌, is_none, is_some, not}
use Rattle.dc_base.specs.Nodes.{is_same_node, is_secondary}
use Rattle.dc_base.specs.declared.answers.Refusal.{Refusal}
use Rattle.dc_base.specs.declared.answers.Refusal.TheVariants as refusal
use Rattle.dc_base.specs.declared.events.Event.{Event}
use Rattle.dc_base.specs.declared.events.Event.TheVariants as event
use Rattle.dc_base.specs.declared.nodes.Node.{Node}
use Rattle.dc_base.specs.declared.nodes.Node.TheVariants.{A, B, M, T}
use Rattle.dc_base.specs.declared.nodes.Want.{Want}
use Rattle.dc_base.specs.declared.records.Rec.TheVariants as rec
use Rattle.transcript.proofs.OnEach.{each_append}
use Rattle.node_rules.specs.Acts.{first_refusal}
use Rattle.node_rules.specs.CommandTable.{row}
use Rattle.node_rules.specs.Drafts.{Draft, draft}
use Rattle.node_rules.specs.MasterCommands.{command_refusals, commands, commands_unless, is_alone, master_command, recovers_at, recovers_row}
use Rattle.node_rules.specs.MasterGo.{begins_if}
use Rattle.node_rules.specs.MasterState.{MasterProc, waits_at}
use Rattle.node_rules.specs.Places.{is_at}
use Rattle.node_rules.specs.declared.acts.Act.TheVariants.{RecoverOne as recover_one, Send as send}
use Rattle.node_rules.specs.declared.commands.Command.TheVariants.{Recovering as recovering}
use Rattle.node_rules.specs.declared.commands.First.{First}
use Rattle.node_rules.specs.declared.commands.Row.{Row}
use Rattle.run_control.specs.Claims.{IsStandOf, Stand, membership_if, rests}
use Rattle.run_control.specs.Rows.{has_row, is_request}
use Rattle.run_control.specs.Sound.{AddsSecond}
use Rattle.run_control.specs.Rows.{Reads}
use Rattle.run_control.specs.SecondControl.{fits}
use Rattle.run_pairs.specs.Bearers.{AreHeld, IsHeldAt}
use Rattle.run_pairs.proofs.FitSteps.{fits_with, later_same, still_line}
use Rattle.run_pairs.specs.Apt.{IsApt, IsPlaced, IsPlacedRow}
use Rattle.run_pairs.specs.Pairs.{standing, waiting_of}
use Rattle.run_pairs.proofs.Beginning.{at_rest, begun_by, begun_follows, free}
use Rattle.run_pairs.proofs.Ending.{none_rests}
use Rattle.run_pairs.proofs.Following.{Follows, Leads, follows_still, leads_none, leads_then, leads_to, taken_or}
use Rattle.run_pairs.proofs.Going.{terminal_apart}
use Rattle.run_pairs.proofs.Placed.{AptDraft, MayBegin, apt_draft}
use Rattle.run_pairs.proofs.Putting.{put_here, put_there}
use Rattle.run_pairs.proofs.Replies.{same_node}
use Rattle.run_pairs.proofs.Taking.{placed_at}
use Rattle.run_pairs.proofs.Wanting.{none_open, not_false}

-- ---- refusals

-- the first condition does not hold
free_first : (b : Bool) (why : Refusal) (rest : Option Refusal) → (if b then Some why else rest) ≡ None → b ≡ false
free_first true why rest is = absurd cc
free_first false why rest is = refl

-- nor the second
free_second : (b d : Bool) (why why' : Refusal) (rest : Option Refusal) → (if b then Some why else if d then Some why' else rest) ≡ None → d ≡ false
free_second true d why why' rest is = absurd cc
free_second false true why why' rest is = absurd cc
free_second false false why why' rest is = refl

none_there : (o : Option Node) → is_none o ≡ true → o ≡ None
none_there None is = refl
none_there (Some y) is = absurd cc

-- nothing is owed for a command of the script
not_wanted : (x : Node) (o : Option (First × Node)) → begun_by x false o ≡ []
not_wanted x None = refl
not_wanted x (Some (first, who)) = refl

module _ (x : Node) (second : is_secondary x ≡ true) (m : MasterProc) (apt : IsApt m) (s : Stand) (stands : IsStandOf x m.command s) where
  still : Follows x (standing x m s) (m, [])
  still = follows_still x m s stands apt

  -- where no command is open
  rests_now : m.command ≡ None → standing x m s ≡ free x m []
  rests_now none = ap (λ z. standing x m z) (none_rests x m.command s none stands) ∙ at_rest x m none

  -- a command that has a plan
  planned_follows : (e : Event) → m.command ≡ None → MayBegin m.table false e → Follows x (standing x m s) (begins_if m false (draft m.table e))
  planned_follows e none may = by (draft m.table e) (apt_draft m.table false e apt.second apt.rows apt.up may)
    where
      by : (o : Option Draft) → AptDraft m.table false o → Follows x (standing x m s) (begins_if m false o)
      by None is = still
      by (Some d) is =
          subst (λ v. Follows x v (begins_if m false (Some d))) (sym (rests_now none))
          (begun_follows x m false d (waiting_of (waits_at m x) ++ []) second apt is (ap (λ l. waiting_of (waits_at m x) ++ l) (not_wanted x d.first)))

  -- ---- a recovery

  joined_row : (b : Bool) (w : Option Want) (id : ℕ) → b ≡ true → has_row (membership_if b) w (rec.Recov id) ≡ true
  joined_row true w id is = refl
  joined_row false w id is = absurd cc

  -- the state in which it is open
  abbrev recovers : ℕ → Option Node → MasterProc
  recovers id o = record m { command = Some (recovering id true o) }

  recovers_leads : (id : ℕ) (o : Option Node) (y : Node) → IsPlaced m.table.sec y → (r : Row) → row m.table id ≡ Some r → r.anchor ≡ y → Leads x (free x m []) (standing x (recovers id o) rests) (send y (rec.Recov id) ∷ [])
  recovers_leads id o y placed r found anchor = by (is_same_node x y) refl
    where
      recov_held : (at : Views) → AreHeld x at [] m.table.rows → is_same_node x y ≡ true → fits x at (rec.Recov id) ≡ true
      recov_held at held here = (subst (IsHeldAt x (at id) false) found (held id) (ap (is_same_node x) anchor ∙ here)).1 refl

      by : (b : Bool) → is_same_node x y ≡ b → Leads x (free x m []) (standing x (recovers id o) rests) (send y (rec.Recov id) ∷ [])
      by false apart = leads_none x (free x m []) (send y (rec.Recov id) ∷ []) (λ views. put_there x y (rec.Recov id) views second apart)
      by true here =
          let there = placed_at x m.table.sec second (subst (IsPlaced m.table.sec) (sym (same_node x y here)) placed) in
          leads_to x (free x m []) (standing x (recovers id o) rests) (send y (rec.Recov id) ∷ []) (rec.Recov id ∷ []) (λ views. put_here x y (rec.Recov id) views second here) (record {
            shift = λ w up owes. (w, owes, (joined_row (is_at x m.table.sec) w id there, (refl, refl)));
            line = λ down line old. each_append (λ z. is_request z ≡ false) down (rec.Recov id ∷ []) line (refl, tt);
            answers = λ up old answers. answers;
            later = omega arith;
            within = (tt, tt);
            fits = λ mem w at down up all pair fit.
                fits_with x (free x m []).bearing (free x m []).bearing (rec.Recov id) (later_same x (free x m []).bearing) at down all (λ held. recov_held at held here) tt
                (still_line mem w down pair.wants pair.line (subst (λ n. Reads mem w down n pair.wants) (ap membership_if there) pair.reads)) fit;
          })

  recovers_apt : (id : ℕ) (o : Option Node) → IsApt (recovers id o)
  recovers_apt id o = record { second = apt.second; rows = apt.rows; up = apt.up; command = tt }

  recovers_there : (id : ℕ) (y : Node) → IsPlaced m.table.sec y → (r : Row) → row m.table id ≡ Some r → r.anchor ≡ y → Follows x (free x m []) (recovers id (Some y), send T (rec.Recov id) ∷ send y (rec.Recov id) ∷ [])
  recovers_there id y placed r found anchor = record {
    stand = rests;
    stands = tt;
    apt = recovers_apt id (Some y);
    leads = leads_then x (free x m []) (free x m []) (standing x (recovers id (Some y)) rests) (send T (rec.Recov id) ∷ []) (send y (rec.Recov id) ∷ [])
        (leads_none x (free x m []) (send T (rec.Recov id) ∷ []) (λ views. put_there x T (rec.Recov id) views second (terminal_apart x second))) (recovers_leads id (Some y) y placed r found anchor);
  }

  recovers_at_follows : (id : ℕ) (y : Node) → m.command ≡ None → IsPlaced m.table.sec y → (r : Row) → row m.table id ≡ Some r → r.anchor ≡ y → Follows x (free x m []) (recovers_at m id y)
  recovers_at_follows id M none placed r found anchor = record {
    stand = rests;
    stands = tt;
    apt = recovers_apt id None;
    leads = leads_then x (free x m []) (free x m []) (free x m []) (send T (rec.Recov id) ∷ []) (recover_one id ∷ [])
        (leads_none x (free x m []) (send T (rec.Recov id) ∷ []) (λ views. put_there x T (rec.Recov id) views second (terminal_apart x second))) (leads_none x (free x m []) (recover_one id ∷ []) (λ views. refl));
  }
  recovers_at_follows id A none placed r found anchor = recovers_there id A placed r found anchor
  recovers_at_follows id B none placed r found anchor = recovers_there id B placed r found anchor
  recovers_at_follows id T none placed r found anchor = subst (λ v. Follows x v (m, [])) (rests_now none) still

  recovers_follows : (id : ℕ) (o : Option Row) → m.command ≡ None → IsPlacedRow m.table.sec o → row m.table id ≡ o → Follows x (standing x m s) (recovers_row m id o)
  recovers_follows id None none placed found = still
  recovers_follows id (Some r) none placed found = subst (λ v. Follows x v (recovers_at m id r.anchor)) (sym (rests_now none)) (recovers_at_follows id r.anchor none placed.0 r found refl)

  -- ---- any command

  unless_follows : (e : Event) (o : Option Refusal) → (o ≡ None → Follows x (standing x m s) (commands m e)) → Follows x (standing x m s) (taken_or m (commands_unless m e o))
  unless_follows e None so = so refl
  unless_follows e (Some why) so = still

  -- one whose first refusal is that another is open
  busy_follows : (e : Event) (rest : Option Refusal) → MayBegin m.table false e → (if is_some m.command then Some refusal.Busy else rest) ≡ None → Follows x (standing x m s) (begins_if m false (draft m.table e))
  busy_follows e rest may is = planned_follows e (none_open m.command (free_first (is_some m.command) refusal.Busy rest is)) may

  pub command_follows : (policies : ℕ) (e : Event) → AddsSecond e → Follows x (standing x m s) (taken_or m (master_command policies m e))
  command_follows policies (event.Bearer id n first shape threshold policy) adds =
      unless_follows (event.Bearer id n first shape threshold policy) (first_refusal (command_refusals policies m (event.Bearer id n first shape threshold policy))) (λ is. busy_follows (event.Bearer id n first shape threshold policy) _ tt is)
  command_follows policies (event.Reshape id shape) adds = unless_follows (event.Reshape id shape) (first_refusal (command_refusals policies m (event.Reshape id shape))) (λ is. busy_follows (event.Reshape id shape) _ tt is)
  command_follows policies (event.Remove id) adds = unless_follows (event.Remove id) (first_refusal (command_refusals policies m (event.Remove id))) (λ is. busy_follows (event.Remove id) _ tt is)
  command_follows policies (event.Add node) adds =
      unless_follows (event.Add node) (first_refusal (command_refusals policies m (event.Add node)))
      (λ is. busy_follows (event.Add node) _ (refl, none_there m.table.sec (not_false (is_alone m) (free_second (is_some m.command) (not (is_alone m)) refusal.Busy refusal.SecondaryThere _ is)), adds) is)
  command_follows policies event.Change adds = unless_follows event.Change (first_refusal (command_refusals policies m event.Change)) (λ is. busy_follows event.Change _ tt is)
  command_follows policies event.Release adds = unless_follows event.Release (first_refusal (command_refusals policies m event.Release)) (λ is. busy_follows event.Release _ tt is)
  command_follows policies event.RekeySecond adds = unless_follows event.RekeySecond (first_refusal (command_refusals policies m event.RekeySecond)) (λ is. busy_follows event.RekeySecond _ tt is)
  command_follows policies (event.RekeyMaster root) adds = unless_follows (event.RekeyMaster root) (first_refusal (command_refusals policies m (event.RekeyMaster root))) (λ is. busy_follows (event.RekeyMaster root) _ tt is)
  command_follows policies (event.Recover id) adds =
      unless_follows (event.Recover id) (first_refusal (command_refusals policies m (event.Recover id)))
      (λ is. recovers_follows id (row m.table id) (none_open m.command (free_first (is_some m.command) refusal.Busy _ is)) (apt.rows id) refl)
  command_follows policies (event.Report node id) adds = still
  command_follows policies (event.Deny node on) adds = still
  command_follows policies (event.Ask node what) adds = still
  command_follows policies event.ScgFail adds = still
  command_follows policies (event.Submit id d payload) adds = still
  command_follows policies (event.Step l i) adds = still
  command_follows policies (event.Lose l i) adds = still
  command_follows policies (event.Again l i) adds = still
