-- What secondary nodes ask the master for, and what answers them (TS 37.340, 10.3 to 10.5), and what the master asks of them.
use Rattle.std.specs.Prelude.{Bool, None, Option, Some, ℕ, ◌≡◌}
use Rattle.dc_base.specs.declared.nodes.Node.{Node}
use Rattle.dc_base.specs.declared.nodes.Want.{Want}
use Rattle.dc_base.specs.declared.nodes.Want.TheVariants as want
use Rattle.dc_base.specs.declared.records.Rec.{Rec}
use Rattle.dc_base.specs.declared.records.Rec.TheVariants as rec
use Rattle.node_rules.specs.SecondRecords.{is_wanted}
use Rattle.node_rules.specs.declared.commands.Command.{Command}
use Rattle.node_rules.specs.declared.commands.Command.TheVariants.{Asked as asked, Gone as gone, Recovering as recovering}
use Rattle.node_rules.specs.declared.commands.First.{First}

-- what a record asks for, if it is a request of a secondary node
abbrev pub asked_by : Rec → Option Want
asked_by rec.Modrqd = Some want.Rekey
asked_by rec.Chgrqd = Some want.Change
asked_by rec.Relrqd = Some want.Release
asked_by _ = None

-- what it answers
abbrev pub answered_by : Rec → Option Want
answered_by (rec.Modcnf g) = Some want.Rekey
answered_by (rec.Modref word) = Some want.Rekey
answered_by (rec.Chgcnf plan) = Some want.Change
answered_by (rec.Chgref word) = Some want.Change
answered_by (rec.Relcnf plan) = Some want.Release
answered_by _ = None

-- it asks for this
abbrev pub is_request_for : Want → Rec → Bool
is_request_for a r = is_wanted a (asked_by r)

-- it answers this
abbrev pub is_answer_to : Want → Rec → Bool
is_answer_to a r = is_wanted a (answered_by r)

-- the open command asks this node by such a first record, in this generation
abbrev pub IsAskedFor : First → Node → ℕ → Option Command → Type 0
IsAskedFor f x g None = ⊥
IsAskedFor f x g (Some (asked c first who wanted)) = (first ≡ f) × (who ≡ x) × (c.plan.g ≡ g)
IsAskedFor f x g (Some (gone plan going)) = ⊥
IsAskedFor f x g (Some (recovering id terminal second)) = ⊥
