-- The reasons of records (TS 37.340, 10.2 to 10.5; TS 38.423, 8.3): each in its step of the common change, once.
use Rattle.std.specs.List.{filter_map, list_all, list_any}
use Rattle.std.specs.Option.{option_and_then, option_map}
use Rattle.std.specs.Prelude.{Bool, List, None, Option, Some, [], false, if◌then◌else◌, is_none, is_some, nat_le, not, true, unwrap_or, ℕ, ◌&&◌, ◌==◌, ◌||◌, ◌∷◌}
use Rattle.dc_base.specs.Links.{is_same_link}
use Rattle.dc_base.specs.Nodes.{is_same_node}
use Rattle.dc_base.specs.declared.answers.Word.{Word}
use Rattle.dc_base.specs.declared.answers.Word.TheVariants as word
use Rattle.dc_base.specs.declared.events.Event.{Event}
use Rattle.dc_base.specs.declared.events.Event.TheVariants as event
use Rattle.dc_base.specs.declared.events.Line.{Line}
use Rattle.dc_base.specs.declared.events.Line.TheVariants as line
use Rattle.dc_base.specs.declared.events.Note.TheVariants as note
use Rattle.dc_base.specs.declared.flights.Flight.{Flight}
use Rattle.dc_base.specs.declared.nodes.LinkId.{LinkId}
use Rattle.dc_base.specs.declared.nodes.Node.{Node}
use Rattle.dc_base.specs.declared.nodes.Node.TheVariants.{M, T}
use Rattle.dc_base.specs.declared.nodes.Want.{Want}
use Rattle.dc_base.specs.declared.nodes.Want.TheVariants as want
use Rattle.dc_base.specs.declared.records.Item.{Item}
use Rattle.dc_base.specs.declared.records.Item.TheVariants.{Set, Unset}
use Rattle.dc_base.specs.declared.records.Plan.{Plan}
use Rattle.dc_base.specs.declared.records.Rec.{Rec}
use Rattle.dc_base.specs.declared.records.Rec.TheVariants as rec
use Rattle.claims.specs.Sameness.{flag_number, implies, is_among, is_at, is_number, is_ok, is_same_want, is_same_word, is_some_and}
use Rattle.claims.specs.Shapes.{other_second}
use Rattle.claims.specs.Views.{record_in}
use Rattle.claims.specs.Table.{Command, Kind, change, command_has, is_change, recovery}
use Rattle.claims.specs.Past.{Bearer, Past}
use Rattle.claims.specs.Reading.{Setting, anchor_in, bearer_of, given_record, given_to, is_moved, latest, plan, said_sends, second, setting}
use Rattle.claims.specs.Holder.{is_holder}
use Rattle.claims.specs.Causes.{is_busy, is_counter_spent}
use Rattle.claims.specs.LicencePdus.{is_recover_of, lists, owns_now}
use Rattle.claims.specs.LicenceForward.{is_carried_in, is_new_anchor, transfer_reason}

-- ---- once

-- the same record of the same change
abbrev pub is_same_record : Rec → Rec → Bool
is_same_record (rec.Reconf q key) (rec.Reconf r k) = q.g == r.g
is_same_record (rec.Rcomp g) (rec.Rcomp h) = g == h
is_same_record (rec.Addreq q key) (rec.Addreq r k) = q.g == r.g
is_same_record (rec.Addack g) (rec.Addack h) = g == h
is_same_record (rec.Addrej g) (rec.Addrej h) = g == h
is_same_record (rec.Modreq q key) (rec.Modreq r k) = q.g == r.g
is_same_record (rec.Modack g) (rec.Modack h) = g == h
is_same_record (rec.Modrej g) (rec.Modrej h) = g == h
is_same_record (rec.Recfg g) (rec.Recfg h) = g == h
is_same_record (rec.Relreq q) (rec.Relreq r) = q.g == r.g
is_same_record (rec.Relack g) (rec.Relack h) = g == h
is_same_record (rec.Relrej g) (rec.Relrej h) = g == h
is_same_record (rec.Uecr g) (rec.Uecr h) = g == h
is_same_record (rec.Snst s) (rec.Snst r) = (s.g == r.g) && (s.id == r.id)
is_same_record (rec.Moved g id) (rec.Moved h i) = (g == h) && (id == i)
is_same_record (rec.Modcnf g) (rec.Modcnf h) = g == h
is_same_record (rec.Chgcnf q) (rec.Chgcnf r) = q.g == r.g
is_same_record _ _ = false

-- the same record of the same event
abbrev pub is_same_in_event : Rec → Rec → Bool
is_same_in_event (rec.Scgf pairs) (rec.Scgf qs) = true
is_same_in_event (rec.Recov id) (rec.Recov i) = id == i
is_same_in_event (rec.Recovd id) (rec.Recovd i) = id == i
is_same_in_event (rec.Scgn id g) (rec.Scgn i h) = (id == i) && (g == h)
is_same_in_event rec.Modrqd rec.Modrqd = true
is_same_in_event rec.Chgrqd rec.Chgrqd = true
is_same_in_event rec.Relrqd rec.Relrqd = true
is_same_in_event _ _ = false

-- a sent flight is this record on this link
abbrev pub is_sent_record : (Rec → Bool) → LinkId → LinkId × Flight → Bool
is_sent_record f l s = is_same_link l s.0 && is_some_and f (record_in s.1)

-- it was not sent before: in its change, or in this event
abbrev pub is_once : Past → LinkId → Rec → Bool
is_once p l r =
    not (list_any (is_sent_record (is_same_record r) l) p.sent) && not (list_any (is_sent_record (is_same_in_event r) l) (said_sends p))

-- ---- what the event gives

-- the generation that a record accepts
abbrev pub accepts : Rec → Option ℕ
accepts (rec.Addack g) = Some g
accepts (rec.Modack g) = Some g
accepts (rec.Relack g) = Some g
accepts _ = None

-- the generation that it rejects
abbrev pub rejects : Rec → Option ℕ
rejects (rec.Addrej g) = Some g
rejects (rec.Modrej g) = Some g
rejects (rec.Relrej g) = Some g
rejects _ = None

-- a secondary just accepted this generation
abbrev pub is_accepted_now : Past → ℕ → Bool
is_accepted_now p g = is_number g (option_and_then accepts (given_record p))

-- a secondary just rejected it
abbrev pub is_rejected_now : Past → ℕ → Bool
is_rejected_now p g = is_number g (option_and_then rejects (given_record p))

-- the terminal just took the plan of this generation
abbrev pub is_reconf_of : ℕ → Rec → Bool
is_reconf_of g (rec.Reconf q key) = q.g == g
is_reconf_of g _ = false

-- the terminal's completion of this generation
abbrev pub is_rcomp_of : ℕ → Rec → Bool
is_rcomp_of g (rec.Rcomp h) = h == g
is_rcomp_of g _ = false

-- the order to recover this identity
abbrev pub is_recov_of : ℕ → Rec → Bool
is_recov_of id (rec.Recov i) = i == id
is_recov_of id _ = false

-- the event gives a record of which the test holds
abbrev pub gives_record : (Rec → Bool) → Past → Bool
gives_record f p = is_some_and f (given_record p)

-- ---- the kinds of commands

-- it releases the secondary
abbrev pub is_release : Event → Bool
is_release event.Release = true
is_release _ = false

-- it changes the secondary
abbrev pub is_change_of_second : Event → Bool
is_change_of_second event.Change = true
is_change_of_second _ = false

-- a request to a secondary: its addition, a modification, its release
pub data Request : Type 0 where
  addition : Request
  modification : Request
  release : Request

-- a request as a number
abbrev pub request_number : Request → ℕ
request_number addition = 0
request_number modification = 1
request_number release = 2

-- the first record of a command
abbrev pub first_request : Event → Request
first_request (event.Add x) = addition
first_request event.Change = addition
first_request event.Release = release
first_request _ = modification

-- a command of this generation is open, and the test holds of it
abbrev pub is_open_change : Past → ℕ → (Command → Bool) → Bool
is_open_change p g f = command_has (λ c. is_change g c.kind && f c) p.table

-- a release that a secondary asked for asks nobody
abbrev pub asks_nobody : Command → Bool
asks_nobody c = is_none c.target || (is_some c.asker && is_release c.event)

-- the line begins a command
abbrev pub is_begin : Line → Bool
is_begin (line.Note (note.Begin w)) = true
is_begin _ = false

-- the open command was drawn in this event
abbrev pub is_drawn_now : Past → Bool
is_drawn_now p = is_none p.given || list_any is_begin p.said

-- the node is asked first by this command, which is just drawn
abbrev pub is_first_asked : Past → Node → Request → Command → Bool
is_first_asked p x r c = is_drawn_now p && is_at x c.target && (request_number (first_request c.event) == request_number r) && not (asks_nobody c)

-- the plan of a generation is carried out at the master now: it was accepted, or nobody is asked
abbrev pub goes : Past → ℕ → Bool
goes p g = is_open_change p g (λ c. is_accepted_now p g || (is_drawn_now p && asks_nobody c))

-- the secondary that leaves with a command
abbrev pub leaving : Command → Option Node
leaving c = if is_release c.event then c.target else if is_change_of_second c.event then Some (other_second c.target) else None

-- ---- what a request is due

-- the items are one drop
abbrev pub is_one_drop : List Item → Bool
is_one_drop (Unset id ∷ []) = true
is_one_drop _ = false

-- an answer to a request: which it answers, whether it rejects, and the generation
pub record Reply : Type 0 where
  pub to : Request
  pub is_rejection : Bool
  pub g : ℕ

-- the answer that a request is due at a secondary: a rejection where it is set to deny, but not for one drop, nor for the
-- release of a change
abbrev pub reply_due : Past → Node → Rec → Option Reply
reply_due p x (rec.Addreq q key) = Some (record { to = addition; is_rejection = (second x p).denies; g = q.g })
reply_due p x (rec.Modreq q key) = Some (record { to = modification; is_rejection = (second x p).denies && not (is_one_drop q.items); g = q.g })
reply_due p x (rec.Relreq q) = Some (record { to = release; is_rejection = (second x p).denies && is_none q.sec; g = q.g })
reply_due p x _ = None

-- the answer that a record is
abbrev pub reply_of : Rec → Option Reply
reply_of (rec.Addack g) = Some (record { to = addition; is_rejection = false; g = g })
reply_of (rec.Addrej g) = Some (record { to = addition; is_rejection = true; g = g })
reply_of (rec.Modack g) = Some (record { to = modification; is_rejection = false; g = g })
reply_of (rec.Modrej g) = Some (record { to = modification; is_rejection = true; g = g })
reply_of (rec.Relack g) = Some (record { to = release; is_rejection = false; g = g })
reply_of (rec.Relrej g) = Some (record { to = release; is_rejection = true; g = g })
reply_of _ = None

-- the same answer to a request
abbrev pub is_same_reply : Reply → Reply → Bool
is_same_reply x y = (request_number x.to == request_number y.to) && (flag_number x.is_rejection == flag_number y.is_rejection) && (x.g == y.g)

-- the answer that the request just taken is due at a node
abbrev pub due_reply : Past → Node → Option Reply
due_reply p x = if given_to x p then option_and_then (reply_due p x) (given_record p) else None

-- the record is the answer that its sender owes
abbrev pub is_due_reply : Past → LinkId → Rec → Bool
is_due_reply p l r = is_some_and (λ y. is_some_and (is_same_reply y) (due_reply p l.from)) (reply_of r)

-- ---- what a request of a secondary is due

-- the word with which it is refused; none where it is begun
abbrev pub word_due : Past → Node → Option Word
word_due p x =
    if not (is_at x p.table.sec) then Some word.NoSecondary else if is_busy p then Some word.Busy else if is_counter_spent p then Some word.CounterSpent else None

-- the command is the one that such a request begins
abbrev pub is_command_of : Want → Event → Bool
is_command_of want.Rekey event.RekeySecond = true
is_command_of want.Change event.Change = true
is_command_of want.Release event.Release = true
is_command_of _ _ = false

-- the request that the master took of a node and did not answer yet is this one
abbrev pub has_request : Past → Node → Want → Bool
has_request p x w = is_some_and (is_same_want w) (second x p).request

-- the command begun for the request was just rejected
abbrev pub is_turned_down : Past → Node → Want → Bool
is_turned_down p x w =
    command_has (λ c. is_at x c.asker && is_command_of w c.event && is_some_and (λ g. is_change g c.kind) (option_and_then rejects (given_record p))) p.table

-- why a request is refused with a word
abbrev pub refuses : Past → LinkId → Want → Word → Bool
refuses p l w v =
    (has_request p l.to w && is_some_and (is_same_word v) (word_due p l.to)) || (is_same_word v word.Rejected && is_turned_down p l.to w)

-- why a `relcnf` is sent: the release begins, or its sender is not the secondary any more
abbrev pub confirms_release : Past → Node → Plan → Bool
confirms_release p x q =
    if q.g == 0 then not (is_at x p.table.sec) && not (is_busy p) && has_request p x want.Release
    else is_open_change p q.g (λ c. is_release c.event && is_at x c.asker)

-- ---- the other records

-- the pairs whose SCG leg failed at the terminal
abbrev pub failed_pair : Bearer → Option (ℕ × ℕ)
failed_pair b = if b.is_failed then option_map (λ g. (b.id, g)) b.terminal else None

-- all of them, the pairs that the terminal has just marked
abbrev pub failed_pairs : Past → List (ℕ × ℕ)
failed_pairs p = filter_map failed_pair p.bearers

-- the event is a failure of the SCG
abbrev pub is_scgfail : Event → Bool
is_scgfail event.ScgFail = true
is_scgfail _ = false

-- the event is this request of this node
abbrev pub is_ask : Node → Want → Event → Bool
is_ask x w (event.Ask y v) = is_same_node x y && is_same_want w v
is_ask x w _ = false

-- a record lists this identity and generation
abbrev pub lists_pair : ℕ → ℕ → Rec → Bool
lists_pair id g (rec.Scgf pairs) = lists id g pairs
lists_pair id g _ = false

-- the terminal just told the master that the SCG leg of this generation failed
abbrev pub is_failure_told : Past → ℕ → ℕ → Bool
is_failure_told p id g = given_to M p && gives_record (lists_pair id g) p

-- the anchor of a move, at a node that just became it
abbrev pub is_moved_here : Past → Node → ℕ → ℕ → Bool
is_moved_here p x id g = list_any (owns_now x id g) p.said && is_some_and is_moved (setting p id g)

-- ---- moves that are over

-- a `moved` of this identity and generation
abbrev pub is_moved_of : ℕ → ℕ → Rec → Bool
is_moved_of id g (rec.Moved h i) = (h == g) && (i == id)
is_moved_of id g _ = false

-- the master knows that a bearer is adopted: its own anchor is active, or it took the `moved`
abbrev pub is_adopted_by : Past → ℕ → ℕ → Setting → Bearer → Bool
is_adopted_by p id g s b = if is_same_node M (anchor_in s) then nat_le g b.owned else list_any (λ r. is_some_and (is_moved_of id g) (record_in r.1)) p.arrived

-- where the plan moves it
abbrev pub is_adopted : Past → ℕ → Item → Bool
is_adopted p g (Set id n first shape threshold policy key old) =
    is_some_and (λ s. implies (is_moved s) (is_some_and (is_adopted_by p id g s) (bearer_of p id g))) (setting p id g)
is_adopted p g (Unset id) = true

-- the items of a generation's plan
abbrev pub items_of : Past → ℕ → List Item
items_of p g = unwrap_or (option_map (λ q. q.items) (plan p g)) []

-- a record of a recovery of this identity
abbrev pub is_recovery_record : ℕ → Rec → Bool
is_recovery_record id (rec.Recov i) = i == id
is_recovery_record id (rec.Recovd i) = i == id
is_recovery_record id _ = false

-- a command may end: it is complete and every move is adopted; or each order to recover was answered
abbrev pub may_end : Past → Kind → Bool
may_end p (change g) = is_among g p.completed && list_all (is_adopted p g) (items_of p g)
may_end p (recovery id) = not (list_any (λ s. is_some_and (is_recovery_record id) (record_in s.1)) p.standing) && is_some p.given

-- ---- why a record is sent

-- an order to recover goes to the terminal, and to a secondary that holds the bearer
abbrev pub orders_recovery : Past → Node → ℕ → Bool
orders_recovery p x id = is_recover_of id p.event && is_ok p.answer && (is_same_node x T || is_holder x (latest p id))

-- the completion goes to the secondary that was asked for an addition or a modification, or asked for the change
abbrev pub is_told_complete : Node → Command → Bool
is_told_complete x c = is_at x c.target && not (is_release c.event) && (is_none c.asker || is_change_of_second c.event)

-- a secondary that asked for a new key gets the answer to its request in that place
abbrev pub is_told_rekeyed : Node → Command → Bool
is_told_rekeyed x c = is_at x c.asker && not (is_release c.event) && not (is_change_of_second c.event)

-- the one that leaves by a change is told so once that is carried out
abbrev pub is_told_leaving : Node → Command → Bool
is_told_leaving x c = c.is_carried && is_change_of_second c.event && is_at x (leaving c)

-- the reason of a record
abbrev pub record_reason : Past → LinkId → Rec → Bool
record_reason p l (rec.Reconf q key) = goes p q.g
record_reason p l (rec.Rcomp g) = given_to T p && gives_record (is_reconf_of g) p
record_reason p l (rec.Scgf pairs) = is_scgfail p.event && is_ok p.answer && list_all (λ q. lists q.0 q.1 (failed_pairs p)) pairs
record_reason p l (rec.Recov id) = orders_recovery p l.to id
record_reason p l (rec.Recovd id) = given_to l.from p && gives_record (is_recov_of id) p
record_reason p l (rec.Addreq q key) = is_open_change p q.g (is_first_asked p l.to addition)
record_reason p l (rec.Addack g) = is_due_reply p l (rec.Addack g)
record_reason p l (rec.Addrej g) = is_due_reply p l (rec.Addrej g)
record_reason p l (rec.Modreq q key) = is_open_change p q.g (is_first_asked p l.to modification)
record_reason p l (rec.Modack g) = is_due_reply p l (rec.Modack g)
record_reason p l (rec.Modrej g) = is_due_reply p l (rec.Modrej g)
record_reason p l (rec.Recfg g) = gives_record (is_rcomp_of g) p && is_open_change p g (is_told_complete l.to)
record_reason p l (rec.Relreq q) = is_open_change p q.g (λ c. is_first_asked p l.to release c || (is_none c.asker && is_told_leaving l.to c))
record_reason p l (rec.Relack g) = is_due_reply p l (rec.Relack g)
record_reason p l (rec.Relrej g) = is_due_reply p l (rec.Relrej g)
record_reason p l (rec.Uecr g) = is_open_change p g (λ c. is_at l.to (leaving c)) && may_end p (change g)
record_reason p l (rec.Snst s) = transfer_reason p l s
record_reason p l (rec.Moved g id) = is_moved_here p l.from id g
record_reason p l (rec.Scgn id g) = is_failure_told p id g && is_carried_in g (bearer_of p id g) && is_new_anchor l.to (setting p id g)
record_reason p l rec.Modrqd = is_ask l.from want.Rekey p.event && is_ok p.answer
record_reason p l (rec.Modcnf g) = gives_record (is_rcomp_of g) p && is_open_change p g (is_told_rekeyed l.to)
record_reason p l (rec.Modref w) = refuses p l want.Rekey w
record_reason p l rec.Chgrqd = is_ask l.from want.Change p.event && is_ok p.answer
record_reason p l (rec.Chgcnf q) = is_open_change p q.g (λ c. is_at l.to c.asker && is_told_leaving l.to c)
record_reason p l (rec.Chgref w) = refuses p l want.Change w
record_reason p l rec.Relrqd = is_ask l.from want.Release p.event && is_ok p.answer
record_reason p l (rec.Relcnf q) = confirms_release p l.to q
