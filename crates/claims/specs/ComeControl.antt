-- What must come of commands and records. Everywhere p is the past before the event, and q after it.
use Rattle.std.specs.List.{list_all, list_any}
use Rattle.std.specs.Prelude.{Bool, List, None, Option, Some, false, if◌then◌else◌, is_none, is_some, nat_le, not, true, ℕ, ◌&&◌, ◌==◌, ◌||◌}
use Rattle.dc_base.specs.Nodes.{is_same_node}
use Rattle.dc_base.specs.declared.answers.Answer.{Answer}
use Rattle.dc_base.specs.declared.answers.Answer.TheVariants as answer
use Rattle.dc_base.specs.declared.events.Event.{Event}
use Rattle.dc_base.specs.declared.events.Event.TheVariants as event
use Rattle.dc_base.specs.declared.events.Line.{Line}
use Rattle.dc_base.specs.declared.events.Line.TheVariants as line
use Rattle.dc_base.specs.declared.events.Note.TheVariants as note
use Rattle.dc_base.specs.declared.flights.Flight.{Flight}
use Rattle.dc_base.specs.declared.nodes.LinkId.{LinkId}
use Rattle.dc_base.specs.declared.nodes.Node.{Node}
use Rattle.dc_base.specs.declared.nodes.Node.TheVariants.{A, B, M, T}
use Rattle.dc_base.specs.declared.nodes.Want.{Want}
use Rattle.dc_base.specs.declared.nodes.Want.TheVariants as want
use Rattle.dc_base.specs.declared.records.Item.{Item}
use Rattle.dc_base.specs.declared.records.Item.TheVariants.{Set, Unset}
use Rattle.dc_base.specs.declared.records.Plan.{Plan}
use Rattle.dc_base.specs.declared.records.Rec.{Rec}
use Rattle.dc_base.specs.declared.records.Rec.TheVariants as rec
use Rattle.transcript.specs.Transcript.{Entry}
use Rattle.claims.specs.Sameness.{implies, is_none_or, is_number, is_some_and}
use Rattle.claims.specs.Views.{record_in}
use Rattle.claims.specs.Table.{Command, Kind, change, recovery}
use Rattle.claims.specs.Past.{Past}
use Rattle.claims.specs.Reading.{anchor_in, bearer_of, is_moved, latest, second, setting}
use Rattle.claims.specs.Holder.{is_holder}
use Rattle.claims.specs.LicenceForward.{gives_now, is_carried_in, moves_from}
use Rattle.claims.specs.LicenceRecords.{asks_nobody, gives_record, is_accepted_now, is_change_of_second, is_rcomp_of, is_reconf_of, is_rejected_now, is_release, leaving, may_end}
use Rattle.claims.specs.Replied.{is_rejected_line, sends_record, sends_record_to}
use Rattle.claims.specs.Placed.{confirms_want}
use Rattle.claims.specs.ComeUser.{user_plane_comes}
use Rattle.claims.specs.ComeForward.{carried_plans, is_active_since, move_comes}

-- ---- commands

-- a first record of this generation
abbrev pub is_first_of : ℕ → Rec → Bool
is_first_of g (rec.Addreq r key) = r.g == g
is_first_of g (rec.Modreq r key) = r.g == g
is_first_of g (rec.Relreq r) = r.g == g
is_first_of g _ = false

-- the completion of this generation for the secondary
abbrev pub is_completion_of : ℕ → Rec → Bool
is_completion_of g (rec.Recfg h) = h == g
is_completion_of g (rec.Modcnf h) = h == g
is_completion_of g _ = false

-- a command that is drawn asks a secondary first, or goes
abbrev pub drawn_goes : List Line → ℕ → Command → Bool
drawn_goes xs g c = if asks_nobody c then sends_record (is_reconf_of g) xs else sends_record (is_first_of g) xs

-- a command that is open after the event: if the event drew it, it goes on; and it may not end yet
abbrev pub goes_on : Past → Past → List Line → Command → Kind → Bool
goes_on p q xs c (change g) = (nat_le g p.table.last || drawn_goes xs g c) && not (may_end q (change g))
goes_on p q xs c (recovery id) = not (may_end q (recovery id))

-- the line ends the command
abbrev pub is_done_line : Line → Bool
is_done_line (line.Note note.Done) = true
is_done_line _ = false

-- the generation of a change
abbrev pub generation_of : Kind → Option ℕ
generation_of (change g) = Some g
generation_of (recovery id) = None

-- the record that ends the context of a secondary
abbrev pub is_release_of_context : Rec → Bool
is_release_of_context (rec.Uecr g) = true
is_release_of_context _ = false

-- one that was open before goes where it is accepted, ends where it is rejected, tells the secondary that it asked where
-- it is complete, and releases the one that leaves where it ends
abbrev pub open_goes : Past → List Line → Command → ℕ → Bool
open_goes q xs c g =
    implies (is_accepted_now q g && not c.is_carried) (sends_record (is_reconf_of g) xs) && implies (is_rejected_now q g) (list_any is_rejected_line xs)
    && implies (gives_record (is_rcomp_of g) q && is_some c.target && not (is_release c.event)) (sends_record (is_completion_of g) xs)
    && implies (list_any is_done_line xs) (is_none_or (λ x. sends_record_to x is_release_of_context xs) (leaving c))

-- what a plan that is carried out tells the secondary that leaves by it
abbrev pub is_leave_record : ℕ → Rec → Bool
is_leave_record g (rec.Relreq r) = r.g == g
is_leave_record g (rec.Chgcnf r) = r.g == g
is_leave_record g (rec.Relcnf r) = r.g == g
is_leave_record g _ = false

-- a change of the secondary, and a release that was asked for, tell it to leave where they are carried out
abbrev pub leaver_is_told : List Line → Command → ℕ → Bool
leaver_is_told xs c g =
    implies (sends_record (is_reconf_of g) xs && (is_change_of_second c.event || (is_some c.asker && is_release c.event)))
    (is_none_or (λ x. sends_record_to x (is_leave_record g) xs) (leaving c))

-- commands go on
abbrev pub commands_go_on : Past → Past → List Line → Bool
commands_go_on p q xs =
    is_none_or (λ c. goes_on p q xs c c.kind && is_none_or (leaver_is_told xs c) (generation_of c.kind)) q.table.command
    && is_none_or (λ c. is_none_or (open_goes q xs c) (generation_of c.kind)) p.table.command

-- ---- records that records bring

-- the completion of the terminal
abbrev pub is_rcomp : Rec → Bool
is_rcomp (rec.Rcomp g) = true
is_rcomp _ = false

-- the answer to an order to recover
abbrev pub is_recovd : Rec → Bool
is_recovd (rec.Recovd id) = true
is_recovd _ = false

-- the failure of a leg, told to a secondary
abbrev pub is_scgn_of : ℕ → ℕ → Rec → Bool
is_scgn_of id g (rec.Scgn i h) = (i == id) && (h == g)
is_scgn_of id g _ = false

-- the failure of a leg
abbrev pub is_scgf : Rec → Bool
is_scgf (rec.Scgf pairs) = true
is_scgf _ = false

-- the master tells a secondary anchor of its current generation that its leg failed
abbrev pub failure_is_passed : Past → List Line → ℕ × ℕ → Bool
failure_is_passed q xs (id, g) =
    implies (is_carried_in g (bearer_of q id g))
    (is_none_or (λ s. is_same_node (anchor_in s) M || sends_record_to (anchor_in s) (is_scgn_of id g) xs) (setting q id g))

-- what a record brings about at once
abbrev pub record_brings : Past → List Line → Rec → Bool
record_brings q xs (rec.Reconf r key) = sends_record is_rcomp xs
record_brings q xs (rec.Recov id) = sends_record is_recovd xs
record_brings q xs (rec.Scgf pairs) = list_all (failure_is_passed q xs) pairs
record_brings q xs _ = true

-- an order to recover
abbrev pub is_order : ℕ → Rec → Bool
is_order id (rec.Recov i) = i == id
is_order id _ = false

-- the request of a secondary
abbrev pub is_request_of : Want → Rec → Bool
is_request_of want.Rekey rec.Modrqd = true
is_request_of want.Change rec.Chgrqd = true
is_request_of want.Release rec.Relrqd = true
is_request_of _ _ = false

-- a recovery is ordered at the terminal, and at a secondary that holds the bearer
abbrev pub orders_come : Past → List Line → ℕ → Bool
orders_come q xs id =
    sends_record_to T (is_order id) xs && implies (is_holder A (latest q id)) (sends_record_to A (is_order id) xs)
    && implies (is_holder B (latest q id)) (sends_record_to B (is_order id) xs)

-- the record of an event of its own
abbrev pub event_brings : Past → List Line → Event → Answer → Bool
event_brings q xs (event.Recover id) answer.Ok = orders_come q xs id
event_brings q xs (event.Ask x w) answer.Ok = sends_record (is_request_of w) xs
event_brings q xs event.ScgFail answer.Ok = sends_record is_scgf xs
event_brings q xs _ _ = true

-- ---- what nodes carry out

-- the terminal has what it is told to set, and has not what it is told to drop
abbrev pub is_configured : Past → ℕ → Item → Bool
is_configured q g (Set id n first shape threshold policy key old) = is_some_and (λ b. is_number g b.terminal) (bearer_of q id g)
is_configured q g (Unset id) = list_all (λ b. not (b.id == id) || is_none b.terminal) q.bearers

-- an anchor that is fresh or stays is active once its node has carried the plan out; one that moves away is frozen
abbrev pub item_is_carried : Past → List Line → Node → ℕ → Item → Bool
item_is_carried q xs x g (Set id n first shape threshold policy key old) =
    is_none_or (λ s. implies (is_same_node x (anchor_in s) && not (is_moved s)) (is_active_since q id g) && implies (moves_from x s) (list_any (gives_now x id g) xs))
    (setting q id g)
item_is_carried q xs x g (Unset id) = true

-- all items of a plan
abbrev pub plan_is_carried : Past → List Line → Node → Plan → Bool
plan_is_carried q xs x r = list_all (item_is_carried q xs x r.g) r.items

-- a secondary that accepts carries its plan out
abbrev pub request_is_carried : Past → List Line → Node → Rec → Bool
request_is_carried q xs x (rec.Addreq r key) = (second x q).denies || ((second x q).joined && plan_is_carried q xs x r)
request_is_carried q xs x (rec.Modreq r key) = (second x q).denies || plan_is_carried q xs x r
request_is_carried q xs x (rec.Relreq r) = ((second x q).denies && is_none r.sec) || (not (second x q).joined && plan_is_carried q xs x r)
request_is_carried q xs x (rec.Chgcnf r) = not (second x q).joined && plan_is_carried q xs x r
request_is_carried q xs x (rec.Relcnf r) = (r.g == 0) || (not (second x q).joined && plan_is_carried q xs x r)
request_is_carried q xs T (rec.Reconf r key) = list_all (is_configured q r.g) r.items
request_is_carried q xs x _ = true

-- a record ends a `want`
abbrev pub ends_want : Rec → Bool
ends_want (rec.Modref w) = true
ends_want (rec.Chgref w) = true
ends_want r = confirms_want r

-- and then no `want` of its receiver is left
abbrev pub want_is_ended : Past → Node → Rec → Bool
want_is_ended q x r = implies (ends_want r) (is_none (second x q).wants)

-- what the receiver of a record does
abbrev pub record_is_carried : Past → List Line → LinkId × Flight → Bool
record_is_carried q xs (l, f) =
    is_none_or (λ r. record_brings q xs r && request_is_carried q xs l.to r && want_is_ended q l.to r) (record_in f)

-- all of control comes
abbrev pub control_comes : Past → Entry → Past → Bool
control_comes p e q =
    commands_go_on p q e.lines && event_brings q e.lines e.event e.answer && is_none_or (record_is_carried q e.lines) q.given
    && list_all (plan_is_carried q e.lines M) (carried_plans e.lines)

-- what must come comes
abbrev pub has_come : Past → Entry → Past → Bool
has_come p e q = user_plane_comes p e q && move_comes p e q && control_comes p e q
