-- What lines and events change of the uplink of an establishment, as the past has it.
use Rattle.std.specs.Prelude.{Bool, List, None, Option, Some, [], false, filter, fold, if◌then◌else◌, is_some}
use Rattle.std.specs.Prelude.{length, max, nat_le, nat_lt, not, true, ℕ, ◌&&◌, ◌||◌, ◌++◌, ◌==◌, ◌∷◌}
use Rattle.dc_base.specs.Nodes.{is_same_node}
use Rattle.dc_base.specs.declared.answers.Answer.{Answer}
use Rattle.dc_base.specs.declared.answers.Answer.TheVariants as answer
use Rattle.dc_base.specs.declared.events.Event.{Event}
use Rattle.dc_base.specs.declared.events.Event.TheVariants as event
use Rattle.dc_base.specs.declared.events.Line.{Line}
use Rattle.dc_base.specs.declared.events.Line.TheVariants as line
use Rattle.dc_base.specs.declared.events.Note.{Note}
use Rattle.dc_base.specs.declared.events.Note.TheVariants as note
use Rattle.dc_base.specs.declared.flights.Flight.{Flight}
use Rattle.dc_base.specs.declared.flights.Flight.TheVariants as flight
use Rattle.dc_base.specs.declared.nodes.Dir.{Dir}
use Rattle.dc_base.specs.declared.nodes.Dir.TheVariants.{Dl, Ul}
use Rattle.dc_base.specs.declared.nodes.LinkId.{LinkId}
use Rattle.dc_base.specs.declared.nodes.Node.{Node}
use Rattle.dc_base.specs.declared.nodes.Node.TheVariants.{M, T}
use Rattle.dc_base.specs.declared.records.Item.{Item}
use Rattle.dc_base.specs.declared.records.Item.TheVariants.{Set, Unset}
use Rattle.dc_base.specs.declared.records.Plan.{Plan}
use Rattle.dc_base.specs.declared.records.Rec.{Rec}
use Rattle.dc_base.specs.declared.records.Rec.TheVariants as rec
use Rattle.claims.specs.Noted.{is_early_at}
use Rattle.claims.specs.Past.{Past}
use Rattle.claims.specs.Reading.{Setting, anchor_in, holds, holds_any, plan, setting}
use Rattle.claims.specs.Table.{Command, is_change}
use Rattle.claims.specs.Taking.{direction_in}
use Rattle.claims.specs.Confirming.{Confirmation, least_but}
use Rattle.claims.specs.Judged.{has_scg_in}
use Rattle.claims.specs.Links.{find_at}
use Rattle.claims.specs.Sameness.{is_number}
use Rattle.claims.specs.Views.{Pdu, pdu_of, report_in}
use Rattle.pdcp_pdu.specs.DataPdu.{is_data}
use Rattle.pdcp_pdu.specs.Pdu.{decoded}
use Rattle.run_received.specs.Receipts.{Receipt, early_counts}

-- the plan of the generation sets the identity, and the establishment is the one that it sets
abbrev pub is_named : Past → ℕ → ℕ → Receipt → Bool
is_named p id g r = is_some (setting p id g) && ((r.id == id) && nat_le r.g g)

-- ---- lines

-- what came early is taken, and the node holds the establishment
abbrev pub owned_on : Node → ℕ → Receipt → Receipt
owned_on x g r = record r {
  taken = early_counts x g r ++ r.taken;
  early = filter (λ w. not (is_early_at x g w)) r.early;
  holder = Some (x, g);
  owned = g;
}

-- the node holds it no more
abbrev pub dropped_on : Node → Receipt → Receipt
dropped_on x r = record r { holder = if holds_any x r.holder then None else r.holder }

-- a note; a command that begins is drawn, which is no change of this kind
abbrev pub note_on : Past → Note → Receipt → Receipt
note_on p (note.Own x id g) r = if is_named p id g r then owned_on x g r else r
note_on p (note.Give x id g) r = if r.id == id then dropped_on x r else r
note_on p (note.Set id g) r = if is_named p id g r then record r { terminal = Some g; is_failed = false } else r
note_on p (note.Unset id) r = if r.id == id then record r { terminal = None } else r
note_on p (note.Up x id Ul count sdu) r = if r.id == id then record r { handed = r.handed ++ (count, sdu) ∷ [] } else r
note_on p (note.Up x id Dl count sdu) r = r
note_on p (note.Freed id Ul count) r = if r.id == id then record r { freed = count } else r
note_on p (note.Freed id Dl count) r = r
note_on p (note.Begin w) r = r
note_on p (note.Join x g) r = r
note_on p (note.Leave x g) r = r
note_on p (note.Confirmed x) r = r
note_on p (note.Refused x w) r = r
note_on p note.Done r = r
note_on p note.Rejected r = r

-- an item that drops an earlier establishment, carried out at a node
abbrev pub item_on : Node → ℕ → Receipt → Item → Receipt
item_on x g r (Unset id) = if (r.id == id) && nat_lt r.g g then dropped_on x r else r
item_on x g r (Set id n first shape threshold policy key old) = r

-- the items of a plan
abbrev pub plan_on : ℕ → Option Plan → Receipt → Receipt
plan_on g None r = r
plan_on g (Some q) r = fold (item_on M g) r q.items

-- if it is the one of the open command, and was not carried out yet
abbrev pub carry_if_on : Past → ℕ → Bool → Receipt → Receipt
carry_if_on p g false r = r
carry_if_on p g true r = plan_on g (plan p g) r

-- with the command that is open
abbrev pub carry_on : Past → ℕ → Option Command → Receipt → Receipt
carry_on p g None r = r
carry_on p g (Some c) r = carry_if_on p g (is_change g c.kind && not c.is_carried) r

-- a record that is sent
abbrev pub record_on : Past → Rec → Receipt → Receipt
record_on p (rec.Reconf q key) r = carry_on p q.g p.table.command r
record_on p _ r = r

-- a flight that is sent
abbrev pub send_on : Past → Flight → Receipt → Receipt
send_on p (flight.Ctl c) r = record_on p c r
send_on p _ r = r

-- a line
abbrev pub line_on : Past → Line → Receipt → Receipt
line_on p (line.Note n) r = note_on p n r
line_on p (line.Send l f) r = send_on p f r
line_on p _ r = r

-- ---- what a node takes

-- the receiving entity takes a data PDU with this COUNT
abbrev pub count_on : Option ℕ → Receipt → Receipt
count_on None r = r
count_on (Some c) r = record r { taken = c ∷ r.taken }

-- an anchor that waits keeps one
abbrev pub early_on : Bool → Node → ℕ → Option ℕ → Receipt → Receipt
early_on false x g c r = r
early_on true x g None r = r
early_on true x g (Some c) r = record r { early = record { node = x; g = g; count = c } ∷ r.early }

-- the node's anchor waits for this generation
abbrev pub waits_on : Node → ℕ → Setting → Receipt → Bool
waits_on x g s r = is_same_node x (anchor_in s) && nat_lt r.owned g

-- a data PDU comes
abbrev pub data_on : LinkId → ℕ → Setting → Dir → Option ℕ → Receipt → Receipt
data_on l g s Dl c r = r
data_on l g s Ul c r = if holds l.to g r.holder then count_on c r else early_on (waits_on l.to g s r) l.to g c r

-- Low: the least COUNT that is not confirmed, or the next one
abbrev pub low_of : Receipt → ℕ
low_of r = least_but r.confirms r.first (length r.submitted)

-- COUNTs are confirmed, and Told is at least Low
abbrev pub confirmed_on : List Confirmation → Receipt → Receipt
confirmed_on cs r = record r { confirms = r.confirms ++ cs; told = max r.told (low_of (record r { confirms = r.confirms ++ cs })) }

-- the terminal has the generation, and did not mark the leg as failed
abbrev pub is_live_on : LinkId → ℕ → Receipt → Bool
is_live_on l g r = is_same_node l.to T && is_number g r.terminal && (is_same_node l.from M || not r.is_failed)

-- a status report comes; one of downlink, at an anchor, changes nothing of the uplink
abbrev pub report_on : LinkId → ℕ → Dir → Option Confirmation → Receipt → Receipt
report_on l g d None r = r
report_on l g Dl (Some c) r = if is_live_on l g r then confirmed_on (c ∷ []) r else r
report_on l g Ul (Some c) r = r

-- a PDU comes, of the generation whose plan has this setting
abbrev pub pdu_on : LinkId → Pdu → Setting → Receipt → Receipt
pdu_on l u s r =
    if is_data u.octets then data_on l u.g s (direction_in l s) u.tag r else report_on l u.g (direction_in l s) (report_in (decoded r.n u.octets)) r

-- by what the plan of its generation sets
abbrev pub set_pdu_on : Past → LinkId → Pdu → Option Setting → Receipt → Receipt
set_pdu_on p l u None r = r
set_pdu_on p l u (Some s) r = if is_named p u.id u.g r then pdu_on l u s r else r

-- if there is one
abbrev pub maybe_pdu_on : Past → LinkId → Option Pdu → Receipt → Receipt
maybe_pdu_on p l None r = r
maybe_pdu_on p l (Some u) r = set_pdu_on p l u (setting p u.id u.g) r

-- a record comes: a secondary node carries drops out when it takes them
abbrev pub taken_record_on : LinkId → Rec → Receipt → Receipt
taken_record_on l (rec.Modreq q key) r = fold (item_on l.to q.g) r q.items
taken_record_on l _ r = r

-- a flight comes
abbrev pub taken_on : Past → LinkId → Flight → Receipt → Receipt
taken_on p l (flight.Ctl c) r = taken_record_on l c r
taken_on p l f r = maybe_pdu_on p l (pdu_of f) r

-- if there is one
abbrev pub given_on : Past → Option (LinkId × Flight) → Receipt → Receipt
given_on p None r = r
given_on p (Some s) r = taken_on p s.0 s.1 r

-- ---- events

-- the SCG leg of the generation that the terminal has fails, if it has one
abbrev pub fails_on : Past → Option ℕ → Receipt → Receipt
fails_on p None r = r
fails_on p (Some g) r = record r { is_failed = has_scg_in (setting p r.id g) || r.is_failed }

-- an event that is answered ok; a command that is drawn is no change of this kind
abbrev pub event_on : Past → Event → Receipt → Receipt
event_on p (event.Submit id Ul sdu) r = if r.id == id then record r { submitted = r.submitted ++ sdu ∷ [] } else r
event_on p event.ScgFail r = fails_on p r.terminal r
event_on p (event.Step l i) r = given_on p (find_at l i p.standing) r
event_on p _ r = r

-- an event with its answer
abbrev pub answered_on : Past → Event → Answer → Receipt → Receipt
answered_on p e answer.Ok r = event_on p e r
answered_on p e (answer.No why) r = r

-- the event draws no command
abbrev pub draws_none : Event → Bool
draws_none (event.Bearer id n first shape threshold policy) = false
draws_none (event.Reshape id shape) = false
draws_none (event.Remove id) = false
draws_none (event.Add x) = false
draws_none event.Change = false
draws_none event.Release = false
draws_none event.RekeySecond = false
draws_none (event.RekeyMaster root) = false
draws_none _ = true
