-- Where all agree and no record is on its way, an open command was carried out and answered, and a bearer still moves; and what a
-- secondary node asked for was answered, or is a release that would set a spent key.
use Rattle.std.proofs.Common.{ℕ, ◌≡◌, Bool, true, false, List, [], ◌∷◌, Option, Some, None, refl, sym, ap, subst, ◌∙◌, inl, inr}
use Rattle.std.specs.List.{list_any}
use Rattle.std.specs.Prelude.{filter, not, ◌⊎◌}
use Rattle.dc_base.specs.Nodes.{is_same_node, is_secondary}
use Rattle.dc_base.specs.declared.events.Event.{Event}
use Rattle.dc_base.specs.declared.events.Header.{Header}
use Rattle.dc_base.specs.declared.nodes.Node.{Node}
use Rattle.dc_base.specs.declared.nodes.Node.TheVariants.{A, B, M, T}
use Rattle.dc_base.specs.declared.nodes.Want.{Want}
use Rattle.dc_base.specs.declared.records.Rec.{Rec}
use Rattle.node_rules.specs.Choices.{Choices}
use Rattle.node_rules.specs.Run.{world_after}
use Rattle.node_rules.specs.World.{World, new_world}
use Rattle.node_rules.specs.declared.commands.Change.{Change}
use Rattle.node_rules.specs.declared.commands.Command.{Command}
use Rattle.node_rules.specs.declared.commands.Command.TheVariants.{Asked as asked, Gone as gone, Recovering as recovering}
use Rattle.node_rules.specs.declared.commands.First.{First}
use Rattle.run_control.specs.Claims.{Agrees, AreAnswers, IsIdleOrMoves, IsLine, IsQuiet, IsStandOf, NeverStalls, Stand, Talks, TerminalTalks, WaitsSpent, agrees, answered_once, asked_once, asks, goes_on, is_agreement, is_failure, is_rejection, quiet_both, refuses, rests, second_at}
use Rattle.run_control.specs.Links.{records_on}
use Rattle.run_control.specs.Rows.{is_request}
use Rattle.run_control.specs.Sound.{AreSound, IsSound, IsSoundCommand}
use Rattle.run_control.specs.Telling.{Due, due_by, nothing_due, plan_unless, recovery_if}
use Rattle.run_control.proofs.BookRuns.{talks_always}
use Rattle.run_control.proofs.Runs.{always_sound}
use Rattle.run_agreed.specs.Expected.{AgreesAlways}
use Rattle.run_control.specs.Wants.{is_answer_to, is_request_for}
use Rattle.run_agreed.specs.Stalls.{IsForSecond, IsNotOver, IsSettled, RecoveryStands, WantStands, WantsStand, is_answered, is_open, is_recov, is_recovd, is_sent, is_waiting}
use Rattle.run_agreed.proofs.SettledRuns.{settled_always}

-- ---- the terminal

never_one : {X : Type 0} (x : X) → [] ≡ x ∷ [] → ⊥
never_one x is = absurd cc

-- with neither line anything is due
none_due : (due : Due) (down up : List Rec) → Talks due down up → down ≡ [] → up ≡ [] → due ≡ nothing_due
none_due due down up (quiet_both is down_is up_is) no_down no_up = is
none_due due down up (asked_once r asks' down_is up_is) no_down no_up = absurd (never_one r (sym no_down ∙ down_is))
none_due due down up (answered_once r answers down_is up_is) no_down no_up = absurd (never_one r (sym (ap (λ rs. filter (λ q. not (is_failure q)) rs) no_up) ∙ up_is))

complete_is : (b : Bool) (g : ℕ) → plan_unless b g ≡ nothing_due → b ≡ true
complete_is true g is = refl
complete_is false g is = absurd cc

recovered_is : (b : Bool) (id : ℕ) → recovery_if b id ≡ nothing_due → b ≡ false
recovered_is false id is = refl
recovered_is true id is = absurd cc

-- ---- a command that awaits its agreement

itself : (x : Node) → is_same_node x x ≡ true
itself T = refl
itself M = refl
itself A = refl
itself B = refl

not_asked : (x : Node) (c : Change) (first : First) (wanted : Bool) (s : Stand) (down up : List Rec) → IsStandOf x (Some (asked c first x wanted)) s → IsLine s down → AreAnswers s up → down ≡ [] → up ≡ [] → ⊥
not_asked x c first wanted rests down up stands line answers no_down no_up = let bad : true ≡ false = sym (itself x) ∙ stands in cc
not_asked x c first wanted (asks f p) down up stands line answers no_down no_up = never_one line.0 (sym (ap (λ rs. filter is_request rs) no_down) ∙ line.1)
not_asked x c first wanted (refuses f p) down up stands line answers no_down no_up = never_one answers.1.0 (sym (ap (λ rs. filter (is_rejection p.g) rs) no_up) ∙ answers.1.1)
not_asked x c first wanted (agrees f p) down up stands line answers no_down no_up = never_one answers.0.0 (sym (ap (λ rs. filter (is_agreement p.g) rs) no_up) ∙ answers.0.1)
not_asked x c first wanted (goes_on leaves) down up stands line answers no_down no_up = stands

-- ---- a state

module _ (w : World) (sound : IsSound w.master.proc) (all_agree : (x : Node) → is_secondary x ≡ true → Agrees w x) (talks : TerminalTalks w) (settled : IsSettled w.master.proc)
    (recovery : (x : Node) → is_secondary x ≡ true → RecoveryStands w x) (wants : (x : Node) → is_secondary x ≡ true → WantsStand w x) where
  quiet_due : IsQuiet w → due_by w.master.proc.command ≡ nothing_due
  quiet_due quiet = none_due (due_by w.master.proc.command) (records_on M T w) (records_on T M w) talks (quiet M T) (quiet T M)

  moving_left : (moving : List (ℕ × Node)) → (moving ≡ [] → ⊥) → (x : ℕ × Node) × (q : List (ℕ × Node)) × (moving ≡ x ∷ q)
  moving_left [] some' = absurd (some' refl)
  moving_left (x ∷ q) some' = (x, q, refl)

  quiet_recovery : (id : ℕ) (t : Bool) (z : Option Node) → w.master.proc.command ≡ Some (recovering id t z) → IsSoundCommand (Some (recovering id t z)) → IsQuiet w → t ≡ false → (z ≡ None → ⊥) → ⊥
  quiet_recovery id t None is second quiet no_t some' = some' refl
  quiet_recovery id t (Some x) is second quiet no_t some' =
      elim (recovery x second id t is) [
        | inl there ↦ let bad : false ≡ true = sym (ap (λ rs. list_any (is_recov id) rs) (quiet M x)) ∙ there in cc
        | inr there ↦ let bad : false ≡ true = sym (ap (λ rs. list_any (is_recovd id) rs) (quiet x M)) ∙ there in cc
      ]

  -- an open command was carried out and answered, and a bearer still moves
  idle_or_moves : IsQuiet w → (o : Option Command) → w.master.proc.command ≡ o → IsIdleOrMoves o
  idle_or_moves quiet None is = tt
  idle_or_moves quiet (Some (asked c first who wanted)) is =
      let second : is_secondary who ≡ true = (subst IsSoundCommand is sound.command).1 in
      let a = all_agree who second in
      not_asked who c first wanted a.stand (records_on M who w) (records_on who M w) (subst (λ o. IsStandOf who o a.stand) is a.stands) a.line a.answers (quiet M who) (quiet who M)
  idle_or_moves quiet (Some (gone p going)) is =
      let complete : going.complete ≡ true = complete_is going.complete p.g (sym (ap due_by is) ∙ quiet_due quiet) in
      (complete, moving_left going.moving (subst IsNotOver is settled.command complete))
  idle_or_moves quiet (Some (recovering id t z)) is =
      let no_t : t ≡ false = recovered_is t id (sym (ap due_by is) ∙ quiet_due quiet) in
      quiet_recovery id t z is (subst IsSoundCommand is sound.command) quiet no_t (subst IsNotOver is settled.command no_t)

  -- a want that stands is a release that waits
  still_waits : (x : Node) (a : Want) → (second_at x w).proc.want ≡ Some a → IsQuiet w → w.master.proc.command ≡ None → WantStands w x a → WaitsSpent w.master.proc x (second_at x w).proc.want
  still_waits x a is quiet free (is_sent there) = let bad : false ≡ true = sym (ap (λ rs. list_any (is_request_for a) rs) (quiet x M)) ∙ there in absurd (cc bad)
  still_waits x a is quiet free (is_answered there) = let bad : false ≡ true = sym (ap (λ rs. list_any (is_answer_to a) rs) (quiet M x)) ∙ there in absurd (cc bad)
  still_waits x a is quiet free (is_open there) = absurd (subst IsForSecond free there)
  still_waits x a is quiet free (is_waiting release waiting) = (is ∙ ap (λ b. Some b) release, waiting, settled.spent x free waiting)

  answered_or_waits : (x : Node) → is_secondary x ≡ true → IsQuiet w → w.master.proc.command ≡ None → (o : Option Want) → (second_at x w).proc.want ≡ o
      → ((second_at x w).proc.want ≡ None) ⊎ WaitsSpent w.master.proc x (second_at x w).proc.want
  answered_or_waits x second quiet free None is = inl is
  answered_or_waits x second quiet free (Some a) is = inr (still_waits x a is quiet free (wants x second a is))

  -- nothing stalls in the control plane: what hangs hangs on bearers under way
  pub stalls_not : NeverStalls w
  stalls_not = record {
    command = λ quiet. idle_or_moves quiet w.master.proc.command refl;
    asked_for = λ x second quiet free. answered_or_waits x second quiet free (second_at x w).proc.want refl;
  }

-- in each state of each run in which master and secondary nodes always agree, and recoveries and wants stand
pub never_stalls : (c : Choices) (h : Header) → AgreesAlways c h → (es : List Event) → AreSound es → (let w = world_after c (new_world h) es in
    ((x : Node) → is_secondary x ≡ true → RecoveryStands w x) → ((x : Node) → is_secondary x ≡ true → WantsStand w x) → NeverStalls w)
never_stalls c h agreement es sound recovery wants =
    stalls_not (world_after c (new_world h) es) (always_sound c h es sound) (agreement es sound) (talks_always c h es sound) (settled_always c h es) recovery wants
