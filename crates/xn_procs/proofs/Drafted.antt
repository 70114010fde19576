-- A draft of the code stands for that of the rules.
use Rattle.std.proofs.Common.{◌≡◌, Bool, Option, Some, None, refl, subst, sym, ap, ◌∙◌}
use Rattle.std.specs.Option.{option_map}
use Rattle.command_table.specs.Drawing.{rule_draft}
use Rattle.command_table.specs.declared.drafts.Draft.{Draft}
use Rattle.node_rules.specs.CommandTable.{Table, is_spent_by}
use Rattle.node_rules.specs.Drafts.{Draft as RuleDraft}
use Rattle.node_rules.specs.MasterEnds.{is_release_spent}
use Rattle.node_rules.specs.MasterGo.{begins, begins_if}
use Rattle.node_rules.specs.MasterState.{MasterProc}

-- both are spent by an identity, or neither
pub is_release_spent-drafted : (t : Table) (made : Draft) (d : Option RuleDraft) → option_map (rule_draft t) (Some made) ≡ d → is_spent_by t made.change.plan ≡ is_release_spent t d
is_release_spent-drafted t made d e = subst (λ x. is_spent_by t made.change.plan ≡ is_release_spent t x) e refl

-- what has a draft begins
pub begins_if-drafted : (m : MasterProc) (wanted : Bool) (made : Draft) (d : Option RuleDraft) → option_map (rule_draft m.table) (Some made) ≡ d → begins_if m wanted d ≡ begins m (rule_draft m.table made) wanted
begins_if-drafted m wanted made d e = subst (λ x. begins_if m wanted x ≡ begins m (rule_draft m.table made) wanted) e refl
