-- The record by which a plan is carried out.
use Rattle.std.specs.Prelude.{Bool, List, None, Option, Some, false, true, ℕ, ◌&&◌, ◌≡◌, ◌≤◌, ⊤}
use Rattle.dc_base.specs.declared.events.Line.{Line}
use Rattle.dc_base.specs.declared.events.Line.TheVariants as line
use Rattle.dc_base.specs.declared.records.Plan.{Plan}
use Rattle.key_chain.specs.KeyNames.{octets}
use Rattle.claims.specs.Sameness.{is_same_octets}
use Rattle.claims.specs.Table.{command_has, is_change, master_key}
use Rattle.run_table.specs.View.{View, planned}
use Rattle.run_table.specs.Words.{Words, by_words, orders}

-- it carries the plan that was drawn with its generation, and the octets of the root that is current once it is carried out
pub record IsFitting (v : View) (x : Plan × List ℕ) : Type 0 where
  pub drawn : planned v.plans x.0.g ≡ Some x.0
  pub later : 1 ≤ x.0.g
  pub keyed : command_has (λ c. is_change x.0.g c.kind && is_same_octets x.1 (octets v.table.roots (master_key c.root))) v.table ≡ true

-- if there is one
abbrev pub OrderFits : View → Option (Plan × List ℕ) → Type 0
OrderFits v None = ⊤
OrderFits v (Some x) = IsFitting v x

-- the view before it, where an event says these words
abbrev pub before_order : Words → View → View
before_order w v = by_words (record w { order = None }) v

-- the line sends such a record
abbrev pub is_order_line : Line → Bool
is_order_line (line.Send l f) = orders f
is_order_line _ = false
