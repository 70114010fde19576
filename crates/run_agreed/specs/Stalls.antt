-- What is needed besides agreement, for nothing to stall: the open command waits for something, and a want and a recovery are on
-- their way, or answered.
use Rattle.std.specs.List.{list_any}
use Rattle.std.specs.Prelude.{Bool, None, Option, Some, [], false, true, ℕ, ⊤, ◌==◌, ◌≡◌, ◌⊎◌}
use Rattle.dc_base.specs.declared.events.Event.TheVariants as event
use Rattle.dc_base.specs.declared.nodes.Node.{Node}
use Rattle.dc_base.specs.declared.nodes.Node.TheVariants.{M}
use Rattle.dc_base.specs.declared.nodes.Want.{Want}
use Rattle.dc_base.specs.declared.nodes.Want.TheVariants as want
use Rattle.dc_base.specs.declared.records.Rec.{Rec}
use Rattle.dc_base.specs.declared.records.Rec.TheVariants as rec
use Rattle.node_rules.specs.Drafts.{draft}
use Rattle.node_rules.specs.MasterEnds.{is_release_spent}
use Rattle.node_rules.specs.MasterState.{MasterProc, waits_at}
use Rattle.node_rules.specs.World.{World}
use Rattle.node_rules.specs.declared.commands.Command.{Command}
use Rattle.node_rules.specs.declared.commands.Command.TheVariants.{Asked as asked, Gone as gone, Recovering as recovering}
use Rattle.run_control.specs.Claims.{second_at}
use Rattle.run_control.specs.Links.{records_on}
use Rattle.run_control.specs.Wants.{is_answer_to, is_request_for}

-- ---- the master's own state

-- something is still awaited: the terminal's answer or an adoption, or that the terminal or a secondary node recovered
abbrev pub IsNotOver : Option Command → Type 0
IsNotOver None = ⊤
IsNotOver (Some (asked c first who wanted)) = ⊤
IsNotOver (Some (gone plan going)) = going.complete ≡ true → going.moving ≡ [] → ⊥
IsNotOver (Some (recovering id terminal second)) = terminal ≡ false → second ≡ None → ⊥

-- a command that is open waits for something; where none is, a release that waits would set a spent key
pub record IsSettled (m : MasterProc) : Type 0 where
  pub command : IsNotOver m.command
  pub spent : (x : Node) → m.command ≡ None → waits_at m x ≡ true → is_release_spent m.table (draft m.table event.Release) ≡ true

-- ---- recoveries

-- the order to recover a bearer
abbrev pub is_recov : ℕ → Rec → Bool
is_recov id (rec.Recov i) = i == id
is_recov id _ = false

-- the news that it is recovered
abbrev pub is_recovd : ℕ → Rec → Bool
is_recovd id (rec.Recovd i) = i == id
is_recovd id _ = false

-- a node for which the open recovery waits is on its way to hear of it, or its answer is on its way
abbrev pub RecoveryStands : World → Node → Type 0
RecoveryStands w x = (id : ℕ) (terminal : Bool) → w.master.proc.command ≡ Some (recovering id terminal (Some x))
    → (list_any (is_recov id) (records_on M x w) ≡ true) ⊎ (list_any (is_recovd id) (records_on x M w) ≡ true)

-- ---- wants

-- a command is open that was begun for a secondary node
abbrev pub IsForSecond : Option Command → Type 0
IsForSecond None = ⊥
IsForSecond (Some (asked c first who wanted)) = wanted ≡ true
IsForSecond (Some (gone plan going)) = going.confirms ≡ true
IsForSecond (Some (recovering id terminal second)) = ⊥

-- what a node asked for is asked on its link, is answered on the other, is open at the master, or is a release that waits there
pub data WantStands (w : World) (x : Node) (a : Want) : Type 0 where
  is_sent : (there : list_any (is_request_for a) (records_on x M w) ≡ true) → WantStands w x a
  is_answered : (there : list_any (is_answer_to a) (records_on M x w) ≡ true) → WantStands w x a
  is_open : (there : IsForSecond w.master.proc.command) → WantStands w x a
  is_waiting : (release : a ≡ want.Release) → (waiting : waits_at w.master.proc x ≡ true) → WantStands w x a

-- so of what each secondary node asked for
abbrev pub WantsStand : World → Node → Type 0
WantsStand w x = (a : Want) → (second_at x w).proc.want ≡ Some a → WantStands w x a
