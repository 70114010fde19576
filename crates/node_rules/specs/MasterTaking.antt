-- Which record the master takes from which node.
use Rattle.std.specs.Prelude.{None, Ok, Option, Result, Some, [], filter, not, ℕ}
use Rattle.dc_base.specs.Records.{kind_of}
use Rattle.dc_base.specs.declared.nodes.Node.{Node}
use Rattle.dc_base.specs.declared.nodes.Node.TheVariants.{A, B, M, T}
use Rattle.dc_base.specs.declared.nodes.Want.TheVariants as want
use Rattle.dc_base.specs.declared.records.Rec.{Rec}
use Rattle.dc_base.specs.declared.records.Rec.TheVariants as rec
use Rattle.dc_base.specs.declared.records.RecKind.TheVariants as kind
use Rattle.node_rules.specs.Acts.{ProcFault}
use Rattle.node_rules.specs.declared.commands.First.TheVariants.{Addition as addition, Modification as modification, Release as release}
use Rattle.node_rules.specs.MasterEnds.{waits_for}
use Rattle.node_rules.specs.MasterRecords.{agreed, completed, failed_legs, is_moving, moved, no_row, recovered, rejected, released, transferred, wanted_by}
use Rattle.node_rules.specs.declared.commands.Command.{Command}
use Rattle.node_rules.specs.declared.commands.Command.TheVariants.{Asked as asked, Gone as gone, Recovering as recovering}
use Rattle.node_rules.specs.MasterState.{MasterActs, MasterProc}

-- a record from a secondary node (TS 38.423, 8.2.2 and 8.3)
abbrev pub from_second : Node → MasterProc → Rec → Result MasterActs ProcFault
from_second x m (rec.Addack g) = agreed kind.Addack addition x g m m.command
from_second x m (rec.Modack g) = agreed kind.Modack modification x g m m.command
from_second x m (rec.Relack g) = released (agreed kind.Relack release x g m m.command) m
from_second x m (rec.Addrej g) = rejected kind.Addrej addition x g m m.command
from_second x m (rec.Modrej g) = rejected kind.Modrej modification x g m m.command
from_second x m (rec.Relrej g) = rejected kind.Relrej release x g m m.command
from_second x m (rec.Snst status) = transferred x status m m.command
from_second x m (rec.Moved g id) = moved x g id m m.command
from_second x m (rec.Recovd id) = recovered x id m m.command
from_second x m rec.Modrqd = Ok (wanted_by x want.Rekey m)
from_second x m rec.Chgrqd = Ok (wanted_by x want.Change m)
from_second x m rec.Relrqd = Ok (wanted_by x want.Release m)
from_second x m (rec.Reconf plan key) = no_row kind.Reconf
from_second x m (rec.Rcomp g) = no_row kind.Rcomp
from_second x m (rec.Scgf failed) = no_row kind.Scgf
from_second x m (rec.Recov id) = no_row kind.Recov
from_second x m (rec.Addreq plan key) = no_row kind.Addreq
from_second x m (rec.Modreq plan key) = no_row kind.Modreq
from_second x m (rec.Recfg g) = no_row kind.Recfg
from_second x m (rec.Relreq plan) = no_row kind.Relreq
from_second x m (rec.Uecr g) = no_row kind.Uecr
from_second x m (rec.Scgn id g) = no_row kind.Scgn
from_second x m (rec.Modcnf g) = no_row kind.Modcnf
from_second x m (rec.Modref word) = no_row kind.Modref
from_second x m (rec.Chgcnf plan) = no_row kind.Chgcnf
from_second x m (rec.Chgref word) = no_row kind.Chgref
from_second x m (rec.Relcnf plan) = no_row kind.Relcnf

-- a record from the terminal (TS 38.331, 5.3.5 and 5.7.3)
abbrev pub from_terminal : MasterProc → Rec → Result MasterActs ProcFault
from_terminal m (rec.Rcomp g) = completed g m m.command
from_terminal m (rec.Scgf failed) = Ok (failed_legs m failed)
from_terminal m (rec.Recovd id) = recovered T id m m.command
from_terminal m (rec.Reconf plan key) = no_row kind.Reconf
from_terminal m (rec.Recov id) = no_row kind.Recov
from_terminal m (rec.Addreq plan key) = no_row kind.Addreq
from_terminal m (rec.Addack g) = no_row kind.Addack
from_terminal m (rec.Addrej g) = no_row kind.Addrej
from_terminal m (rec.Modreq plan key) = no_row kind.Modreq
from_terminal m (rec.Modack g) = no_row kind.Modack
from_terminal m (rec.Modrej g) = no_row kind.Modrej
from_terminal m (rec.Recfg g) = no_row kind.Recfg
from_terminal m (rec.Relreq plan) = no_row kind.Relreq
from_terminal m (rec.Relack g) = no_row kind.Relack
from_terminal m (rec.Relrej g) = no_row kind.Relrej
from_terminal m (rec.Uecr g) = no_row kind.Uecr
from_terminal m (rec.Snst status) = no_row kind.Snst
from_terminal m (rec.Moved g id) = no_row kind.Moved
from_terminal m (rec.Scgn id g) = no_row kind.Scgn
from_terminal m rec.Modrqd = no_row kind.Modrqd
from_terminal m (rec.Modcnf g) = no_row kind.Modcnf
from_terminal m (rec.Modref word) = no_row kind.Modref
from_terminal m rec.Chgrqd = no_row kind.Chgrqd
from_terminal m (rec.Chgcnf plan) = no_row kind.Chgcnf
from_terminal m (rec.Chgref word) = no_row kind.Chgref
from_terminal m rec.Relrqd = no_row kind.Relrqd
from_terminal m (rec.Relcnf plan) = no_row kind.Relcnf

-- the master takes a record (TS 38.423, 8.3; TS 38.331, 5.3.5 and 5.7.3)
abbrev pub master_take : Node → MasterProc → Rec → Result MasterActs ProcFault
master_take T m r = from_terminal m r
master_take A m r = from_second A m r
master_take B m r = from_second B m r
master_take M m r = no_row (kind_of r)

-- the master's own anchor adopted a bearer that the open plan moves to it (part of the rule master_adopted)
abbrev pub adopted_here : ℕ → MasterProc → Option Command → MasterActs
adopted_here id m None = (m, [])
adopted_here id m (Some (asked c first who wanted)) = (m, [])
adopted_here id m (Some (gone p w)) = waits_for m (gone p (record w { moving = filter (λ y. not (is_moving id M y)) w.moving }))
adopted_here id m (Some (recovering i terminal second)) = (m, [])

-- the procedures hear of it (this product's own)
abbrev pub master_adopted : MasterProc → ℕ → MasterActs
master_adopted m id = adopted_here id m m.command
