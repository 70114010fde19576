-- In which state of a secondary node each record of the master has its row, and what the node's membership is after it.
use Rattle.std.specs.Prelude.{Bool, Err, List, None, Ok, Option, Result, [], false, if◌then◌else◌, is_none, not, true, ⊤, ◌&&◌, ◌==◌, ◌||◌, ◌∷◌, ◌≡◌}
use Rattle.dc_base.specs.declared.nodes.Want.{Want}
use Rattle.dc_base.specs.declared.nodes.Want.TheVariants as want
use Rattle.dc_base.specs.declared.records.Rec.{Rec}
use Rattle.dc_base.specs.declared.records.Rec.TheVariants as rec
use Rattle.node_rules.specs.Acts.{ProcFault}
use Rattle.node_rules.specs.SecondRecords.{is_wanted}
use Rattle.node_rules.specs.SecondState.{is_joined}
use Rattle.node_rules.specs.declared.commands.Membership.{Membership}
use Rattle.node_rules.specs.declared.commands.Membership.TheVariants.{Joined as joined, Left as left, Outside as outside}

-- the node has no context of the terminal
abbrev pub is_outside : Membership → Bool
is_outside outside = true
is_outside joined = false
is_outside left = false

-- it has one from which it was released
abbrev pub is_left : Membership → Bool
is_left outside = false
is_left joined = false
is_left left = true

-- a record has its row in this membership, with what the node asked for
abbrev pub has_row : Membership → Option Want → Rec → Bool
has_row m w (rec.Addreq plan key) = is_outside m
has_row m w (rec.Modreq plan key) = is_joined m
has_row m w (rec.Relreq plan) = is_joined m
has_row m w (rec.Uecr g) = is_left m
has_row m w (rec.Recfg g) = is_joined m
has_row m w (rec.Modcnf g) = is_wanted want.Rekey w && is_joined m
has_row m w (rec.Modref word) = is_wanted want.Rekey w
has_row m w (rec.Chgcnf plan) = is_wanted want.Change w && is_joined m
has_row m w (rec.Chgref word) = is_wanted want.Change w
has_row m w (rec.Relcnf plan) = is_wanted want.Release w && (plan.g == 0 || is_joined m)
has_row m w (rec.Snst status) = is_joined m
has_row m w (rec.Recov id) = is_joined m
has_row m w (rec.Scgn id g) = not (is_outside m)
has_row m w _ = false

-- the record is a request, which the node may reject: the first record of a command
abbrev pub is_request : Rec → Bool
is_request (rec.Addreq plan key) = true
is_request (rec.Modreq plan key) = true
is_request (rec.Relreq plan) = is_none plan.sec
is_request _ = false

-- the membership after a record that is no request; a request counts for nothing, since it may be rejected
abbrev pub membership_after : Rec → Membership → Membership
membership_after (rec.Relreq plan) m = if is_none plan.sec then m else left
membership_after (rec.Chgcnf plan) m = left
membership_after (rec.Relcnf plan) m = if plan.g == 0 then m else left
membership_after (rec.Uecr g) m = outside
membership_after _ m = m

-- what the node asked for is answered by a record
abbrev pub wanted_after : Rec → Option Want → Option Want
wanted_after (rec.Modcnf g) w = None
wanted_after (rec.Modref word) w = None
wanted_after (rec.Chgcnf plan) w = None
wanted_after (rec.Chgref word) w = None
wanted_after (rec.Relcnf plan) w = None
wanted_after _ w = w

-- the record is taken
abbrev pub IsTaken : {R : Type 0} → Result R ProcFault → Type 0
IsTaken (Ok r) = ⊤
IsTaken (Err why) = ⊥

-- the records of a line, taken one after another from this membership and this want, each have their row, and leave these
abbrev pub Reads : Membership → Option Want → List Rec → Membership → Option Want → Type 0
Reads m w [] m' w' = (m ≡ m') × (w ≡ w')
Reads m w (r ∷ q) m' w' = (has_row m w r ≡ true) × Reads (membership_after r m) (wanted_after r w) q m' w'
