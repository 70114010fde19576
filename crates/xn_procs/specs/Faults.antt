-- How an error of a procedure tells the fault of the rule.
use Rattle.std.specs.Prelude.{◌≡◌, Err, List, Result, ⊤}
use Rattle.node_rules.specs.declared.acts.Act.{Act}
use Rattle.node_rules.specs.Acts.{ProcFault, refused, unexpected}
use Rattle.xn_procs.specs.declared.faults.ProcErr.{ProcErr}
use Rattle.xn_procs.specs.declared.faults.ProcErr.TheVariants.{Memory, Refused, Unexpected}

-- the rule has that fault, and the state is as before; of want of memory nothing is said
abbrev pub FailsAs : {P : Type 0} → Result (P × List Act) ProcFault → P → P → ProcErr → Type 0
FailsAs rule old new (Refused why) = (rule ≡ Err (refused why)) × (new ≡ old)
FailsAs rule old new (Unexpected which) = (rule ≡ Err (unexpected which)) × (new ≡ old)
FailsAs rule old new Memory = ⊤
