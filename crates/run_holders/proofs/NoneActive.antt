-- A bearer that the table does not have is active nowhere, where no command is open.
use Rattle.std.proofs.Common.{ℕ, ◌≡◌, ◌≤◌, ◌+◌, ◌∙◌, Bool, Option, Some, None, refl, sym, ap, arith}
use Rattle.std.specs.Prelude.{if◌then◌else◌}
use Rattle.dc_base.specs.declared.nodes.Node.{Node}
use Rattle.dc_base.specs.declared.nodes.Node.TheVariants.{A, B, M, T}
use Rattle.node_rules.specs.World.{World}
use Rattle.node_rules.specs.declared.commands.Command.{Command}
use Rattle.run_control.proofs.Records.{bare_records}
use Rattle.run_control.specs.Links.{records_on}
use Rattle.run_control.specs.SecondControl.{is_holding}
use Rattle.run_control.specs.Views.{Stage, View, has_status, holds, lacks_status, master_view, second_view}
use Rattle.run_places.specs.Tokens.{anchors_at, kept_at, kept_by}
use Rattle.run_places.proofs.Runs.{IsWhole}
use Rattle.run_places.proofs.States.{course_of, row_in, set_before}
use Rattle.run_places.proofs.Whole.{agreed_by, rest_of, ups}
use Rattle.run_holders.specs.Holders.{active_in}
use Rattle.run_holders.specs.Suited.{actives_at}
use Rattle.run_holders.proofs.ViewHolders.{actives_seen}

-- an anchor that is not kept is not active
unkept : (o : Option View) → kept_by o ≤ 0 → active_in o ≡ None
unkept None le = refl
unkept (Some v) le = by v.stage le
  where
    by : (k : Stage) → kept_at k ≤ 0 → (if is_holding k then Some v.bearer.g else None) ≡ None
    by holds le' = absurd (omega (arith, le'))
    by lacks_status le' = refl
    by has_status le' = refl

module _ (w : World) (id : ℕ) (whole : IsWhole w) (free : w.master.proc.command ≡ None) (none : row_in id w.master.proc.table.rows ≡ None) where
  nothing_set : (b : Bool) (o : Option Command) → o ≡ None → set_before (course_of b o) id ≡ 0
  nothing_set b o is = ap (λ z. set_before (course_of b z) id) is

  all_none : kept_by (master_view w.master id) + rest_of (second_view w.a) (second_view w.b) (bare_records (records_on M A w)) (bare_records (records_on A M w)) (bare_records (records_on M B w)) (bare_records (records_on B M w)) id ≤ 0
  all_none = omega (arith, whole.keeps.none id none, nothing_set (agreed_by w.master.proc.command (ups (bare_records (records_on A M w)) (bare_records (records_on B M w)))) w.master.proc.command free)

  none_kept : (x : Node) → kept_by (anchors_at x w id) ≤ 0
  none_kept M = omega (arith, all_none)
  none_kept A = omega (arith, all_none)
  none_kept B = omega (arith, all_none)
  none_kept T = omega arith

  -- no node has an active anchor of it
  pub none_active : (x : Node) → actives_at x w id ≡ None
  none_active x = sym (actives_seen x w id) ∙ unkept (anchors_at x w id) (none_kept x)
