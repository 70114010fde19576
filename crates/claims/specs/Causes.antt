-- The answer that an event is due: the first refusal of its row that holds.
use Rattle.std.specs.List.{find, list_any}
use Rattle.std.specs.Prelude.{Bool, List, None, Option, Some, [], if◌then◌else◌, is_none, is_some, nat_le, nat_lt, not, ℕ, ◌&&◌, ◌+◌, ◌-◌, ◌==◌, ◌^◌, ◌||◌, ◌∷◌}
use Rattle.dc_base.specs.Count.{window}
use Rattle.dc_base.specs.Links.{is_ordered}
use Rattle.dc_base.specs.Nodes.{is_mm}
use Rattle.dc_base.specs.declared.answers.Answer.{Answer}
use Rattle.dc_base.specs.declared.answers.Answer.TheVariants as answer
use Rattle.dc_base.specs.declared.answers.Refusal.{Refusal}
use Rattle.dc_base.specs.declared.answers.Refusal.TheVariants as refusal
use Rattle.dc_base.specs.declared.events.Event.{Event}
use Rattle.dc_base.specs.declared.events.Event.TheVariants as event
use Rattle.dc_base.specs.declared.flights.Flight.{Flight}
use Rattle.dc_base.specs.declared.nodes.Class.TheVariants.{Tun}
use Rattle.dc_base.specs.declared.nodes.Dir.{Dir}
use Rattle.dc_base.specs.declared.nodes.Dir.TheVariants.{Dl, Ul}
use Rattle.dc_base.specs.declared.nodes.LinkId.{LinkId}
use Rattle.dc_base.specs.declared.nodes.Node.{Node}
use Rattle.dc_base.specs.declared.nodes.Node.TheVariants.{A, B, M, T}
use Rattle.dc_base.specs.declared.nodes.Shape.{Shape}
use Rattle.transcript.specs.Transcript.{Entry}
use Rattle.claims.specs.Links.{find_at, is_class}
use Rattle.claims.specs.Sameness.{is_same_answer, is_same_octets, is_some_and, kept_if, shape_number}
use Rattle.claims.specs.Views.{data_of, delivery_of}
use Rattle.claims.specs.Table.{Row, drawn, row}
use Rattle.claims.specs.Past.{Bearer, Past}
use Rattle.claims.specs.Reading.{bearer_of, deliv, holds, holds_any, lane, latest, low, next_count, second}
use Rattle.claims.specs.Drafts.{spends}
use Rattle.claims.specs.Taking.{direction_of}
use Rattle.claims.specs.HandedUp.{is_active_at}

-- ---- who is there

-- the establishment at the master: done, and not dropped
abbrev pub at_master : Past → ℕ → Option Bearer
at_master p id = kept_if (λ b. b.is_done && not b.is_dropped) (latest p id)

-- at the terminal: it was set, and not unset since
abbrev pub at_terminal : Past → ℕ → Option Bearer
at_terminal p id = find (λ b. (b.id == id) && is_some b.terminal) p.bearers

-- at a secondary: its anchor is active there
abbrev pub at_second : Past → Node → ℕ → Option Bearer
at_second p x id = kept_if (λ b. holds_any x b.holder) (latest p id)

-- at a node
abbrev pub at_node : Past → Node → ℕ → Option Bearer
at_node p T id = at_terminal p id
at_node p M id = at_master p id
at_node p A id = at_second p A id
at_node p B id = at_second p B id

-- ---- what refuses

-- refusals in their order: the first that holds
abbrev pub first_of_them : List (Bool × Refusal) → Answer
first_of_them [] = answer.Ok
first_of_them ((holds, why) ∷ more) = if holds then answer.No why else first_of_them more

-- a command is open
abbrev pub is_busy : Past → Bool
is_busy p = is_some p.table.command

-- there is no secondary
abbrev pub has_no_second : Past → Bool
has_no_second p = is_none p.table.sec

-- the shape needs a secondary, and there is none
abbrev pub lacks_second : Past → Shape → Bool
lacks_second p shape = has_no_second p && not (is_mm shape)

-- the SN Counters of the current root are used up (TS 33.501, 6.10.3.1)
abbrev pub is_counter_spent : Past → Bool
is_counter_spent p = nat_le 65536 (drawn p.table p.table.root)

-- the bearer has this shape already
abbrev pub has_shape : Shape → Option Row → Bool
has_shape s r = is_some_and (λ x. shape_number s == shape_number x.shape) r

-- a submission to a bearer: a full window, or the last COUNT (TS 38.323, 5.2.1 and 7.1)
abbrev pub submit_due : Dir → Option Bearer → Answer
submit_due d None = answer.No refusal.NoBearer
submit_due d (Some b) =
    first_of_them ((nat_le ((lane d b).told + window b.n) (next_count d b), refusal.Full) ∷ (next_count d b == 2 ^ 32 - 1, refusal.Exhausted) ∷ [])

-- ---- ageing

-- a data PDU is more than a window behind the active receiving entity of its generation
abbrev pub pdu_is_aged : Dir → LinkId → ℕ → Option ℕ → Option Bearer → Bool
pdu_is_aged d l g tag b = is_some_and (λ x. is_active_at l g d x && is_some_and (λ c. nat_lt (c + window x.n) (deliv d x)) tag) b

-- a delivery status is more than a window behind Low of the active anchor of its generation
abbrev pub delivery_is_aged : LinkId → ℕ → Option ℕ → Option Bearer → Bool
delivery_is_aged l g tag b = is_some_and (λ x. holds l.to g x.holder && is_some_and (λ c. nat_lt (c + window x.n) (low Dl x)) tag) b

-- a flight is aged
abbrev pub is_aged : Past → LinkId → Flight → Bool
is_aged p l f =
    is_some_and (λ u. pdu_is_aged (direction_of p l u) l u.g u.tag (bearer_of p u.id u.g)) (data_of f)
    || is_some_and (λ v. delivery_is_aged l v.g v.tag (bearer_of p v.id v.g)) (delivery_of f)

-- ---- rows

-- a step, with the flight at its place
abbrev pub step_due : Past → LinkId → ℕ → Option (LinkId × Flight) → Answer
step_due p l i None = answer.No refusal.NoFlight
step_due p l i (Some s) = first_of_them ((is_ordered l.class && nat_lt 0 i, refusal.NotFirst) ∷ (is_aged p l s.1, refusal.Aged) ∷ [])

-- a loss or a copy
abbrev pub tunnel_due : Past → LinkId → ℕ → Answer
tunnel_due p l i = first_of_them ((not (is_class Tun l), refusal.NotTunnel) ∷ (is_none (find_at l i p.standing), refusal.NoFlight) ∷ [])

-- a submission: downlink at the master, uplink at the terminal
abbrev pub submission_due : Past → ℕ → Dir → Answer
submission_due p id Dl = submit_due Dl (at_master p id)
submission_due p id Ul = submit_due Ul (at_terminal p id)

-- the answer of each event
abbrev pub due : Past → Event → Answer
due p (event.Bearer id n first shape threshold policy) = first_of_them (
    (is_busy p, refusal.Busy) ∷ (is_some (at_master p id), refusal.BearerThere) ∷ (lacks_second p shape, refusal.NoSecondary)
    ∷ (nat_le p.policies policy, refusal.NoPolicy) ∷ (spends p.table (event.Bearer id n first shape threshold policy), refusal.IdSpent) ∷ [])
due p (event.Reshape id shape) = first_of_them (
    (is_busy p, refusal.Busy) ∷ (is_none (at_master p id), refusal.NoBearer) ∷ (lacks_second p shape, refusal.NoSecondary)
    ∷ (has_shape shape (row p.table id), refusal.SameShape) ∷ (spends p.table (event.Reshape id shape), refusal.IdSpent) ∷ [])
due p (event.Remove id) = first_of_them ((is_busy p, refusal.Busy) ∷ (is_none (at_master p id), refusal.NoBearer) ∷ [])
due p (event.Recover id) = first_of_them ((is_busy p, refusal.Busy) ∷ (is_none (at_master p id), refusal.NoBearer) ∷ [])
due p (event.Add x) = first_of_them ((is_busy p, refusal.Busy) ∷ (is_some p.table.sec, refusal.SecondaryThere) ∷ (is_counter_spent p, refusal.CounterSpent) ∷ [])
due p event.Change = first_of_them ((is_busy p, refusal.Busy) ∷ (has_no_second p, refusal.NoSecondary) ∷ (is_counter_spent p, refusal.CounterSpent) ∷ [])
due p event.Release = first_of_them ((is_busy p, refusal.Busy) ∷ (has_no_second p, refusal.NoSecondary) ∷ (spends p.table event.Release, refusal.IdSpent) ∷ [])
due p event.RekeySecond = first_of_them ((is_busy p, refusal.Busy) ∷ (has_no_second p, refusal.NoSecondary) ∷ (is_counter_spent p, refusal.CounterSpent) ∷ [])
due p (event.RekeyMaster root) = first_of_them ((is_busy p, refusal.Busy) ∷ (list_any (is_same_octets root) p.table.roots, refusal.RootUsed) ∷ [])
due p (event.Submit id d sdu) = submission_due p id d
due p (event.Report x id) = first_of_them ((is_none (at_node p x id), refusal.NoBearer) ∷ [])
due p (event.Deny x on) = answer.Ok
due p (event.Ask x w) = first_of_them ((not (second x p).joined, refusal.NoSecondary) ∷ (is_some (second x p).wants, refusal.Busy) ∷ [])
due p event.ScgFail = first_of_them ((is_none p.seen, refusal.NoSecondary) ∷ [])
due p (event.Step l i) = step_due p l i (find_at l i p.standing)
due p (event.Lose l i) = tunnel_due p l i
due p (event.Again l i) = tunnel_due p l i

-- each event has the answer that it is due
abbrev pub has_cause : Past → Entry → Bool
has_cause p e = is_same_answer e.answer (due p e.event)
