-- The procedures of a secondary node (TS 38.423, 8.3; TS 37.340, 10.2 to 10.5): each record with what it does in each state.
use Rattle.std.specs.Prelude.{Bool, Err, List, None, Ok, Option, Result, Some, [], false, is_some, not, true, ◌∷◌}
use Rattle.dc_base.specs.declared.answers.Refusal.{Refusal}
use Rattle.dc_base.specs.declared.answers.Refusal.TheVariants as refusal
use Rattle.dc_base.specs.declared.events.Event.{Event}
use Rattle.dc_base.specs.declared.events.Event.TheVariants as event
use Rattle.dc_base.specs.declared.nodes.Node.{Node}
use Rattle.dc_base.specs.declared.nodes.Node.TheVariants.{M}
use Rattle.dc_base.specs.declared.nodes.Want.{Want}
use Rattle.dc_base.specs.declared.nodes.Want.TheVariants as want
use Rattle.dc_base.specs.declared.records.Rec.{Rec}
use Rattle.dc_base.specs.declared.records.Rec.TheVariants as rec
use Rattle.node_rules.specs.declared.acts.Act.{Act}
use Rattle.node_rules.specs.declared.acts.Act.TheVariants.{Send as send}
use Rattle.node_rules.specs.Acts.{ProcFault, first_refusal, refused}
use Rattle.node_rules.specs.declared.commands.Membership.{Membership}
use Rattle.node_rules.specs.declared.commands.Membership.TheVariants.{Outside as outside, Joined as joined, Left as left}

-- the node; its membership; whether it rejects requests; what it asked the master for, until that is answered
-- (TS 38.423, 8.3; the form is this product's own)
pub record SecondProc : Type 0 where
  pub me : Node
  pub membership : Membership
  pub denies : Bool
  pub want : Option Want

-- the state with what the node has to do (this product's own)
abbrev pub SecondActs : Type 0
SecondActs = SecondProc × List Act

-- the state before the first record (this product's own)
abbrev pub new_second_proc : Node → SecondProc
new_second_proc me = record { me = me; membership = outside; denies = false; want = None }

-- the node serves the terminal (this product's own)
abbrev pub is_joined : Membership → Bool
is_joined outside = false
is_joined joined = true
is_joined left = false

-- the request for a new K_SN, for a change away, or for the release (TS 38.423, 8.3.4, 8.3.5 and 8.3.7)
abbrev pub request : Want → Rec
request want.Rekey = rec.Modrqd
request want.Change = rec.Chgrqd
request want.Release = rec.Relrqd

-- the conditions under which a command is refused, in their order; what is no command of a secondary node is never refused
-- (this product's own)
abbrev pub second_refusals : SecondProc → Event → List (Bool × Refusal)
second_refusals s (event.Ask node what) = (not (is_joined s.membership), refusal.NoSecondary) ∷ (is_some s.want, refusal.Busy) ∷ []
second_refusals s (event.Bearer id n first shape threshold policy) = []
second_refusals s (event.Reshape id shape) = []
second_refusals s (event.Remove id) = []
second_refusals s (event.Add node) = []
second_refusals s event.Change = []
second_refusals s event.Release = []
second_refusals s event.RekeySecond = []
second_refusals s (event.RekeyMaster root) = []
second_refusals s (event.Recover id) = []
second_refusals s (event.Report node id) = []
second_refusals s (event.Deny node on) = []
second_refusals s event.ScgFail = []
second_refusals s (event.Submit id d payload) = []
second_refusals s (event.Step l i) = []
second_refusals s (event.Lose l i) = []
second_refusals s (event.Again l i) = []

-- a command is carried on (TS 38.423, 8.3.4, 8.3.5 and 8.3.7; that a node can be told to reject is this product's own)
abbrev pub second_commands : SecondProc → Event → SecondActs
second_commands s (event.Ask node what) = (record s { want = Some what }, send M (request what) ∷ [])
second_commands s (event.Deny node on) = (record s { denies = on }, [])
second_commands s (event.Bearer id n first shape threshold policy) = (s, [])
second_commands s (event.Reshape id shape) = (s, [])
second_commands s (event.Remove id) = (s, [])
second_commands s (event.Add node) = (s, [])
second_commands s event.Change = (s, [])
second_commands s event.Release = (s, [])
second_commands s event.RekeySecond = (s, [])
second_commands s (event.RekeyMaster root) = (s, [])
second_commands s (event.Recover id) = (s, [])
second_commands s (event.Report node id) = (s, [])
second_commands s event.ScgFail = (s, [])
second_commands s (event.Submit id d payload) = (s, [])
second_commands s (event.Step l i) = (s, [])
second_commands s (event.Lose l i) = (s, [])
second_commands s (event.Again l i) = (s, [])

-- unless it is refused (part of the rule second_command)
abbrev pub second_commands_unless : SecondProc → Event → Option Refusal → Result SecondActs ProcFault
second_commands_unless s e None = Ok (second_commands s e)
second_commands_unless s e (Some why) = Err (refused why)

-- a secondary node takes a command (TS 38.423, 8.3.4, 8.3.5 and 8.3.7; the refusals are this product's own)
abbrev pub second_command : SecondProc → Event → Result SecondActs ProcFault
second_command s e = second_commands_unless s e (first_refusal (second_refusals s e))
