-- The records between the master and a secondary node that are of commands, and how both nodes and these records change in one
-- event.
use Rattle.std.specs.List.{flat_map}
use Rattle.std.specs.Prelude.{Bool, Err, List, Ok, [], false, filter, if◌then◌else◌, true, ◌++◌, ◌∷◌, ◌≡◌}
use Rattle.dc_base.specs.Nodes.{is_same_node}
use Rattle.dc_base.specs.declared.events.Event.{Event}
use Rattle.dc_base.specs.declared.nodes.Node.{Node}
use Rattle.dc_base.specs.declared.nodes.Node.TheVariants.{M}
use Rattle.dc_base.specs.declared.records.Rec.{Rec}
use Rattle.dc_base.specs.declared.records.Rec.TheVariants as rec
use Rattle.node_rules.specs.Acts.{ProcFault}
use Rattle.node_rules.specs.MasterState.{MasterActs, MasterProc}
use Rattle.node_rules.specs.MasterTaking.{master_take}
use Rattle.node_rules.specs.SecondRecords.{second_take}
use Rattle.node_rules.specs.SecondState.{SecondActs, SecondProc, second_command}
use Rattle.node_rules.specs.World.{World}
use Rattle.node_rules.specs.declared.acts.Act.{Act}
use Rattle.node_rules.specs.declared.acts.Act.TheVariants.{Send as send}
use Rattle.run_control.specs.Claims.{second_at}
use Rattle.run_control.specs.Links.{records_on}
use Rattle.run_agreed.specs.Segments.{IsChain, Origin, by_itself, by_record}

-- the record is of a command, or of what a secondary node asks for; status transfers and adoptions are of bearers under way
abbrev pub is_spoken : Rec → Bool
is_spoken (rec.Snst status) = false
is_spoken (rec.Moved g id) = false
is_spoken _ = true

-- those of a line
abbrev pub spoken : List Rec → List Rec
spoken rs = filter is_spoken rs

-- what an act sends to a node
abbrev pub sent_to : Node → Act → List Rec
sent_to x (send to r) = if is_same_node x to then r ∷ [] else []
sent_to x _ = []

-- what of that is of commands, by several acts
abbrev pub said_to : Node → List Act → List Rec
said_to x acts = spoken (flat_map (sent_to x) acts)

-- the procedures of the master and of a secondary node, and the records between them
pub record Pair : Type 0 where
  pub m : MasterProc
  pub down : List Rec
  pub up : List Rec
  pub s : SecondProc

-- in a state of a run
abbrev pub pair_at : Node → World → Pair
pair_at x w = record { m = w.master.proc; down = spoken (records_on M x w); up = spoken (records_on x M w); s = (second_at x w).proc }

-- one event: nothing of this pair; the master goes on, without such a record of this node or with one, after which an adoption may
-- follow, or has no row for it; the secondary node goes on, by a command or by a record, or the record has no effect
pub data PairStep (x : Node) (a b : Pair) : Type 0 where
  rests : (is : b ≡ a) → PairStep x a b
  master_moves : (o : Origin) → (apart : (q : Rec) → o ≡ by_record x q → is_spoken q ≡ false) → (out : MasterActs) → (chain : IsChain o a.m out)
      → (is : b ≡ record a { m = out.0; down = a.down ++ said_to x out.1 }) → PairStep x a b
  master_takes : (r : Rec) → (rest : List Rec) → (first : a.up ≡ r ∷ rest) → (out : MasterActs) → (taken : master_take x a.m r ≡ Ok out)
      → (more : MasterActs) → (chain : IsChain by_itself out.0 more) → (is : b ≡ record a { m = more.0; down = a.down ++ said_to x (out.1 ++ more.1); up = rest }) → PairStep x a b
  master_ignores : (r : Rec) → (rest : List Rec) → (first : a.up ≡ r ∷ rest) → (why : ProcFault) → (refused : master_take x a.m r ≡ Err why)
      → (is : b ≡ record a { up = rest }) → PairStep x a b
  second_moves : (e : Event) → (acts : SecondActs) → (ordered : second_command a.s e ≡ Ok acts)
      → (is : b ≡ record a { s = acts.0; up = a.up ++ said_to M acts.1 }) → PairStep x a b
  second_takes : (r : Rec) → (rest : List Rec) → (first : a.down ≡ r ∷ rest) → (acts : SecondActs) → (taken : second_take a.s r ≡ Ok acts)
      → (is : b ≡ record a { s = acts.0; down = rest; up = a.up ++ said_to M acts.1 }) → PairStep x a b
  second_ignores : (r : Rec) → (rest : List Rec) → (first : a.down ≡ r ∷ rest) → (is : b ≡ record a { down = rest }) → PairStep x a b
