-- The records that a secondary node takes: each with what it does in each state.
use Rattle.std.specs.Prelude.{Bool, Err, List, None, Ok, Option, Result, Some, [], false, if◌then◌else◌, is_none, not, true, ℕ, ◌&&◌, ◌++◌, ◌==◌, ◌∷◌}
use Rattle.dc_base.specs.declared.answers.Word.{Word}
use Rattle.dc_base.specs.declared.events.Note.TheVariants as note
use Rattle.dc_base.specs.declared.nodes.Node.TheVariants.{M}
use Rattle.dc_base.specs.declared.nodes.Want.{Want}
use Rattle.dc_base.specs.declared.nodes.Want.TheVariants as want
use Rattle.dc_base.specs.declared.records.Item.{Item}
use Rattle.dc_base.specs.declared.records.Item.TheVariants as item
use Rattle.dc_base.specs.declared.records.Plan.{Plan}
use Rattle.dc_base.specs.declared.records.Rec.{Rec}
use Rattle.dc_base.specs.declared.records.Rec.TheVariants as rec
use Rattle.dc_base.specs.declared.records.RecKind.{RecKind}
use Rattle.dc_base.specs.declared.records.RecKind.TheVariants as kind
use Rattle.dc_base.specs.declared.records.StatusTransfer.{StatusTransfer}
use Rattle.node_rules.specs.declared.acts.Act.{Act}
use Rattle.node_rules.specs.declared.acts.Act.TheVariants.{FailOne as fail_one, Go as go, Pass as pass, RecoverOne as recover_one, Say as say, Send as send, UnlockAll as unlock_all}
use Rattle.node_rules.specs.Acts.{ProcFault, unexpected}
use Rattle.node_rules.specs.declared.commands.Membership.{Membership}
use Rattle.node_rules.specs.declared.commands.Membership.TheVariants.{Joined as joined, Left as left, Outside as outside}
use Rattle.node_rules.specs.SecondState.{SecondActs, SecondProc}

-- a record that has no row in the state (this product's own)
abbrev pub no_second_row : RecKind → Result SecondActs ProcFault
no_second_row k = Err (unexpected k)

-- ---- requests (TS 38.423, 8.3.1, 8.3.3 and 8.3.6)

-- the node is added, unless it rejects (part of the rule addition_asked)
abbrev pub added : SecondProc → Plan → Bool → SecondActs
added s p true = (s, send M (rec.Addrej p.g) ∷ [])
added s p false = (record s { membership = joined }, say (note.Join s.me p.g) ∷ send M (rec.Addack p.g) ∷ go p ∷ [])

-- only a node without a context is added (TS 38.423, 8.3.1)
abbrev pub addition_asked : SecondProc → Plan → Membership → Result SecondActs ProcFault
addition_asked s p outside = Ok (added s p s.denies)
addition_asked s p joined = no_second_row kind.Addreq
addition_asked s p left = no_second_row kind.Addreq

-- the items drop one bearer: such a request is not rejected (part of the rule modification_asked)
abbrev pub is_one_drop : List Item → Bool
is_one_drop [] = false
is_one_drop (item.Set id n first shape threshold policy key old ∷ items) = false
is_one_drop (item.Unset id ∷ []) = true
is_one_drop (item.Unset id ∷ (i ∷ items)) = false

-- the plan is carried out, unless it is rejected (part of the rule modification_asked)
abbrev pub modified : SecondProc → Plan → Bool → SecondActs
modified s p true = (s, send M (rec.Modrej p.g) ∷ [])
modified s p false = (s, send M (rec.Modack p.g) ∷ go p ∷ [])

-- only a node that serves the terminal carries a modification out (TS 38.423, 8.3.3)
abbrev pub modification_asked : SecondProc → Plan → Membership → Result SecondActs ProcFault
modification_asked s p outside = no_second_row kind.Modreq
modification_asked s p joined = Ok (modified s p (s.denies && not (is_one_drop p.items)))
modification_asked s p left = no_second_row kind.Modreq

-- the node leaves, and carries the plan out (part of the rule release_asked)
abbrev pub leaves : SecondProc → Plan → List Act → SecondActs
leaves s p answer = (record s { membership = left }, answer ++ say (note.Leave s.me p.g) ∷ go p ∷ [])

-- the node is released, unless it rejects; one that leaves by a change does not (part of the rule release_asked)
abbrev pub let_off : SecondProc → Plan → Bool → SecondActs
let_off s p true = (s, send M (rec.Relrej p.g) ∷ [])
let_off s p false = leaves s p (send M (rec.Relack p.g) ∷ [])

-- only a node that serves the terminal is released (TS 38.423, 8.3.6)
abbrev pub release_asked : SecondProc → Plan → Membership → Result SecondActs ProcFault
release_asked s p outside = no_second_row kind.Relreq
release_asked s p joined = Ok (let_off s p (s.denies && is_none p.sec))
release_asked s p left = no_second_row kind.Relreq

-- the context ends (TS 38.423, 8.2.7)
abbrev pub forgotten : SecondProc → Membership → Result SecondActs ProcFault
forgotten s outside = no_second_row kind.Uecr
forgotten s joined = no_second_row kind.Uecr
forgotten s left = Ok (record s { membership = outside }, [])

-- ---- what the node asked for (TS 38.423, 8.3.4, 8.3.5 and 8.3.7)

-- it asked for this (part of the rule second_take)
abbrev pub is_wanted : Want → Option Want → Bool
is_wanted w None = false
is_wanted want.Rekey (Some want.Rekey) = true
is_wanted want.Rekey (Some want.Change) = false
is_wanted want.Rekey (Some want.Release) = false
is_wanted want.Change (Some want.Rekey) = false
is_wanted want.Change (Some want.Change) = true
is_wanted want.Change (Some want.Release) = false
is_wanted want.Release (Some want.Rekey) = false
is_wanted want.Release (Some want.Change) = false
is_wanted want.Release (Some want.Release) = true

-- what it asked for is answered (part of the rule second_take)
abbrev pub answered : SecondProc → SecondProc
answered s = record s { want = None }

-- it is refused, whether or not the node still has a context (TS 38.423, 8.3.4 and 8.3.5)
abbrev pub refused_there : RecKind → SecondProc → Word → Bool → Result SecondActs ProcFault
refused_there k s w true = Ok (answered s, say (note.Refused s.me w) ∷ [])
refused_there k s w false = no_second_row k

-- it is confirmed by the completion of the plan (TS 38.423, 8.3.4)
abbrev pub key_confirmed : SecondProc → ℕ → Bool → Membership → Result SecondActs ProcFault
key_confirmed s g true outside = no_second_row kind.Modcnf
key_confirmed s g true joined = Ok (answered s, unlock_all g ∷ say (note.Confirmed s.me) ∷ [])
key_confirmed s g true left = no_second_row kind.Modcnf
key_confirmed s g false m = no_second_row kind.Modcnf

-- it is confirmed, and the node leaves (TS 38.423, 8.3.5 and 8.3.7)
abbrev pub leave_confirmed : RecKind → SecondProc → Plan → Bool → Membership → Result SecondActs ProcFault
leave_confirmed k s p true outside = no_second_row k
leave_confirmed k s p true joined = Ok (leaves (answered s) p (say (note.Confirmed s.me) ∷ []))
leave_confirmed k s p true left = no_second_row k
leave_confirmed k s p false m = no_second_row k

-- a release of generation 0: there is nothing to release, whether or not the node still has a context
-- (TS 38.423, 8.3.7; this answer is this product's own)
abbrev pub release_needless : SecondProc → Bool → Result SecondActs ProcFault
release_needless s true = Ok (answered s, say (note.Confirmed s.me) ∷ [])
release_needless s false = no_second_row kind.Relcnf

-- a release is confirmed (TS 38.423, 8.3.7)
abbrev pub release_confirmed : SecondProc → Plan → Result SecondActs ProcFault
release_confirmed s p =
    if p.g == 0 then release_needless s (is_wanted want.Release s.want)
    else leave_confirmed kind.Relcnf s p (is_wanted want.Release s.want) s.membership

-- ---- what concerns its anchors

-- the reconfiguration is complete (TS 38.423, 8.3.2)
abbrev pub reconfigured : SecondProc → ℕ → Membership → Result SecondActs ProcFault
reconfigured s g outside = no_second_row kind.Recfg
reconfigured s g joined = Ok (s, unlock_all g ∷ [])
reconfigured s g left = no_second_row kind.Recfg

-- a status transfer for its waiting anchor (TS 38.423, 8.2.2)
abbrev pub status_passed : SecondProc → StatusTransfer → Membership → Result SecondActs ProcFault
status_passed s status outside = no_second_row kind.Snst
status_passed s status joined = Ok (s, pass status ∷ [])
status_passed s status left = no_second_row kind.Snst

-- its anchor recovers a bearer (this product's own)
abbrev pub recovery_asked : SecondProc → ℕ → Membership → Result SecondActs ProcFault
recovery_asked s id outside = no_second_row kind.Recov
recovery_asked s id joined = Ok (s, send M (rec.Recovd id) ∷ recover_one id ∷ [])
recovery_asked s id left = no_second_row kind.Recov

-- the SCG leg of a bearer failed (TS 37.340, 7.7); the node may have been released before it hears of it
abbrev pub failure_told : SecondProc → ℕ → ℕ → Membership → Result SecondActs ProcFault
failure_told s id g outside = no_second_row kind.Scgn
failure_told s id g joined = Ok (s, fail_one id g ∷ [])
failure_told s id g left = Ok (s, fail_one id g ∷ [])

-- a secondary node takes a record from the master (TS 38.423, 8.2.2, 8.2.7 and 8.3)
abbrev pub second_take : SecondProc → Rec → Result SecondActs ProcFault
second_take s (rec.Addreq plan key) = addition_asked s plan s.membership
second_take s (rec.Modreq plan key) = modification_asked s plan s.membership
second_take s (rec.Relreq plan) = release_asked s plan s.membership
second_take s (rec.Uecr g) = forgotten s s.membership
second_take s (rec.Recfg g) = reconfigured s g s.membership
second_take s (rec.Modcnf g) = key_confirmed s g (is_wanted want.Rekey s.want) s.membership
second_take s (rec.Modref word) = refused_there kind.Modref s word (is_wanted want.Rekey s.want)
second_take s (rec.Chgcnf plan) = leave_confirmed kind.Chgcnf s plan (is_wanted want.Change s.want) s.membership
second_take s (rec.Chgref word) = refused_there kind.Chgref s word (is_wanted want.Change s.want)
second_take s (rec.Relcnf plan) = release_confirmed s plan
second_take s (rec.Snst status) = status_passed s status s.membership
second_take s (rec.Recov id) = recovery_asked s id s.membership
second_take s (rec.Scgn id g) = failure_told s id g s.membership
second_take s (rec.Reconf plan key) = no_second_row kind.Reconf
second_take s (rec.Rcomp g) = no_second_row kind.Rcomp
second_take s (rec.Scgf failed) = no_second_row kind.Scgf
second_take s (rec.Recovd id) = no_second_row kind.Recovd
second_take s (rec.Addack g) = no_second_row kind.Addack
second_take s (rec.Addrej g) = no_second_row kind.Addrej
second_take s (rec.Modack g) = no_second_row kind.Modack
second_take s (rec.Modrej g) = no_second_row kind.Modrej
second_take s (rec.Relack g) = no_second_row kind.Relack
second_take s (rec.Relrej g) = no_second_row kind.Relrej
second_take s (rec.Moved g id) = no_second_row kind.Moved
second_take s rec.Modrqd = no_second_row kind.Modrqd
second_take s rec.Chgrqd = no_second_row kind.Chgrqd
second_take s rec.Relrqd = no_second_row kind.Relrqd
