-- Where a want of a secondary node stands, and which replies are due to the master.
use Rattle.std.specs.List.{AllByRecursion, list_any}
use Rattle.std.specs.Prelude.{Option, [], true, ⊤, ◌∷◌, ◌≡◌}
use Rattle.dc_base.specs.declared.nodes.Node.{Node}
use Rattle.dc_base.specs.declared.nodes.Node.TheVariants.{M}
use Rattle.dc_base.specs.declared.nodes.Want.{Want}
use Rattle.dc_base.specs.declared.nodes.Want.TheVariants as want
use Rattle.dc_base.specs.declared.records.Rec.{Rec}
use Rattle.dc_base.specs.declared.records.Rec.TheVariants as rec
use Rattle.node_rules.specs.MasterState.{waits_at}
use Rattle.node_rules.specs.World.{World}
use Rattle.node_rules.specs.declared.commands.Command.{Command}
use Rattle.node_rules.specs.declared.commands.First.TheVariants.{Addition as addition, Modification as modification, Release as release}
use Rattle.run_control.specs.Links.{records_on}
use Rattle.run_control.specs.Wants.{IsAskedFor, is_answer_to, is_request_for}
use Rattle.run_pairs.specs.Pairs.{begun_for}

-- ---- wants

-- what a node asked for is asked on its link, is answered on the other, is what the open command was begun for, or is a release that waits
pub data WantStands (w : World) (x : Node) (a : Want) : Type 0 where
  is_sent : (there : list_any (is_request_for a) (records_on x M w) ≡ true) → WantStands w x a
  is_answered : (there : list_any (is_answer_to a) (records_on M x w) ≡ true) → WantStands w x a
  is_begun : (there : begun_for x w.master.proc.command ≡ a ∷ []) → WantStands w x a
  is_waiting : (release : a ≡ want.Release) → (waiting : waits_at w.master.proc x ≡ true) → WantStands w x a

-- ---- replies

-- the record is due, if it replies; the acknowledge of a release may come late
abbrev pub IsReplyDue : Node → Option Command → Rec → Type 0
IsReplyDue x o (rec.Addack g) = IsAskedFor addition x g o
IsReplyDue x o (rec.Addrej g) = IsAskedFor addition x g o
IsReplyDue x o (rec.Modack g) = IsAskedFor modification x g o
IsReplyDue x o (rec.Modrej g) = IsAskedFor modification x g o
IsReplyDue x o (rec.Relrej g) = IsAskedFor release x g o
IsReplyDue x o _ = ⊤

-- each reply on the link of a node is
abbrev pub RepliesAreDue : World → Node → Type 0
RepliesAreDue w x = AllByRecursion (IsReplyDue x w.master.proc.command) (records_on x M w)
