-- What the terminal does with a record, as far as the control plane sees it.
use Rattle.std.specs.List.{list_any}
use Rattle.std.specs.Prelude.{Bool, List, None, Option, Some, [], false, if◌then◌else◌, is_none, is_some, not, ℕ, ◌&&◌, ◌==◌, ◌∷◌, ◌≡◌}
use Rattle.dc_base.specs.Count.{bits}
use Rattle.dc_base.specs.Records.{item_id}
use Rattle.dc_base.specs.declared.nodes.Node.{Node}
use Rattle.dc_base.specs.declared.nodes.Node.TheVariants.{M, T}
use Rattle.dc_base.specs.declared.numbers.SnLen.{SnLen}
use Rattle.dc_base.specs.declared.records.Item.{Item}
use Rattle.dc_base.specs.declared.records.Item.TheVariants as item
use Rattle.dc_base.specs.declared.records.Plan.{Plan}
use Rattle.dc_base.specs.declared.records.Rec.{Rec}
use Rattle.dc_base.specs.declared.records.Rec.TheVariants as rec
use Rattle.node_rules.specs.Choices.{Send}
use Rattle.node_rules.specs.Terminal.{TerminalNode}
use Rattle.node_rules.specs.declared.inputs.Effects.{Effects}
use Rattle.run_control.specs.Orders.{Ascends}
use Rattle.run_control.specs.SecondControl.{record_to, records_sent, set_by}
use Rattle.run_control.specs.Views.{Bearer, terminal_view}

-- the bearers of the terminal, by identities
abbrev pub Bearers : Type 0
Bearers = ℕ → Option Bearer

-- ---- a plan

-- the bearer is there, with this SN length and first COUNT
abbrev pub is_like_bearer : SnLen → ℕ → Option Bearer → Bool
is_like_bearer n first None = false
is_like_bearer n first (Some b) = (bits b.n == bits n) && (b.first == first)

-- the item can be taken
abbrev pub takes_item : Bearers → Item → Bool
takes_item bearers (item.Set id n first shape threshold policy key None) = is_none (bearers id)
takes_item bearers (item.Set id n first shape threshold policy key (Some old)) = is_like_bearer n first (bearers id)
takes_item bearers (item.Unset id) = is_some (bearers id)

-- each item of the plan can
abbrev pub takes_plan : Bearers → Plan → Bool
takes_plan bearers p = not (list_any (λ i. not (takes_item bearers i)) p.items)

-- the bearers after an item of a plan of this generation: that which it sets, or none
abbrev pub bearers_with : ℕ → Item → Bearers → Bearers
bearers_with g i bearers k = if item_id i == k then set_by g i else bearers k

-- after several
abbrev pub bearers_after : ℕ → List Item → Bearers → Bearers
bearers_after g [] bearers = bearers
bearers_after g (i ∷ items) bearers = bearers_after g items (bearers_with g i bearers)

-- ---- a record

-- the secondary node of the last plan that was taken, after a record
abbrev pub sec_after : Bearers → Option Node → Rec → Option Node
sec_after bearers sec (rec.Reconf p key) = if takes_plan bearers p then p.sec else sec
sec_after bearers sec r = sec

-- the bearers after a record: a plan is taken, if it can be
abbrev pub heard_bearers : Bearers → Rec → Bearers
heard_bearers bearers (rec.Reconf p key) = if takes_plan bearers p then bearers_after p.g p.items bearers else bearers
heard_bearers bearers r = bearers

-- a recovery is answered, where the bearer is there
abbrev pub recovery_answer : ℕ → Option Bearer → List Send
recovery_answer id None = []
recovery_answer id (Some b) = record_to T M (rec.Recovd id) ∷ []

-- what is answered
abbrev pub terminal_answers : Bearers → Rec → List Send
terminal_answers bearers (rec.Reconf p key) = if takes_plan bearers p then record_to T M (rec.Rcomp p.g) ∷ [] else []
terminal_answers bearers (rec.Recov id) = recovery_answer id (bearers id)
terminal_answers bearers r = []

-- the terminal did this
pub record TerminalDid (t : TerminalNode) (sec : Option Node) (bearers : Bearers) (sends : List Send) (done : TerminalNode × Effects) : Type 0 where
  pub joins : done.0.sec ≡ sec
  pub after : (k : ℕ) → terminal_view done.0 k ≡ bearers k
  pub told : records_sent done.1.sends ≡ sends
  pub ascends : Ascends done.0.halves
