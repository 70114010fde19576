-- What of the past is so of the terminal's side of each bearer.
use Rattle.std.specs.List.{find}
use Rattle.std.specs.Option.{option_and_then}
use Rattle.std.specs.Prelude.{Bool, List, None, Option, Some, [], false, fold, if◌then◌else◌, map, nat_le, slice_get, true, ℕ, ◌&&◌, ◌++◌, ◌+◌, ◌-◌, ◌==◌, ◌∷◌}
use Rattle.dc_base.specs.declared.answers.Answer.{Answer}
use Rattle.dc_base.specs.declared.answers.Answer.TheVariants as answer
use Rattle.dc_base.specs.declared.events.Event.{Event}
use Rattle.dc_base.specs.declared.events.Event.TheVariants as event
use Rattle.dc_base.specs.declared.events.Line.{Line}
use Rattle.dc_base.specs.declared.events.Line.TheVariants as line
use Rattle.dc_base.specs.declared.events.Note.{Note}
use Rattle.dc_base.specs.declared.events.Note.TheVariants as note
use Rattle.dc_base.specs.declared.flights.Flight.{Flight}
use Rattle.dc_base.specs.declared.flights.Flight.TheVariants as flight
use Rattle.dc_base.specs.declared.nodes.Alg.{Alg}
use Rattle.dc_base.specs.declared.nodes.Dir.TheVariants.{Dl, Ul}
use Rattle.dc_base.specs.declared.nodes.LinkId.{LinkId}
use Rattle.dc_base.specs.declared.nodes.Node.{Node}
use Rattle.dc_base.specs.declared.numbers.SnLen.{SnLen}
use Rattle.dc_base.specs.declared.records.Item.{Item}
use Rattle.dc_base.specs.declared.records.Item.TheVariants.{Set, Unset}
use Rattle.dc_base.specs.declared.records.Plan.{Plan}
use Rattle.dc_base.specs.declared.records.Rec.{Rec}
use Rattle.dc_base.specs.declared.records.Rec.TheVariants as rec
use Rattle.claims.specs.Drafts.{Draft}
use Rattle.claims.specs.Judged.{has_scg_in}
use Rattle.claims.specs.Past.{Bearer, Past}
use Rattle.claims.specs.Reading.{Setting, setting_of, sets}

-- an establishment: its name, identity, length of SNs and first COUNT; the generation that the terminal has, and whether its
-- SCG leg failed there; the payloads submitted in uplink, and the COUNT of the last `freed` line
pub record Uplink : Type 0 where
  pub g : ℕ
  pub id : ℕ
  pub n : SnLen
  pub first : ℕ
  pub terminal : Option ℕ
  pub is_failed : Bool
  pub submitted : List (List ℕ)
  pub freed : ℕ

-- the establishments, the latest first; the plans drawn, the latest first; the roots in the order named; the last generation; the
-- ciphering algorithm; and the secondary node of the last plan that the terminal took
pub record Seen : Type 0 where
  pub bearers : List Uplink
  pub plans : List Plan
  pub roots : List (List ℕ)
  pub last : ℕ
  pub alg : Alg
  pub sec : Option Node

-- what the past has of an establishment
abbrev pub uplink_of : Bearer → Uplink
uplink_of b = record {
  g = b.g;
  id = b.id;
  n = b.n;
  first = b.first;
  terminal = b.terminal;
  is_failed = b.is_failed;
  submitted = b.up.submitted;
  freed = b.up.freed;
}

-- of a past
abbrev pub seen : Past → Seen
seen p = record { bearers = map uplink_of p.bearers; plans = p.plans; roots = p.table.roots; last = p.table.last; alg = p.header.alg; sec = p.seen }

-- ---- reading

-- what the plan of a generation sets of an identity
abbrev pub setting_in : List Plan → ℕ → ℕ → Option Setting
setting_in plans id g = option_and_then (λ (q : Plan). setting_of q.sec (find (sets id) q.items)) (find (λ (q : Plan). q.g == g) plans)

-- the latest establishment of an identity
abbrev pub latest : ℕ → List Uplink → Option Uplink
latest id us = find (λ (u : Uplink). u.id == id) us

-- the latest that was drawn by a generation, if that sets the identity
abbrev pub named_in : ℕ → ℕ → Option Setting → List Uplink → Option Uplink
named_in id g None us = None
named_in id g (Some x) us = find (λ (u : Uplink). (u.id == id) && nat_le u.g g) us

-- the payload that was submitted under this COUNT
abbrev pub submission_in : Uplink → ℕ → Option (List ℕ)
submission_in u c = if nat_le u.first c then slice_get u.submitted (c - u.first) else None

-- ---- changing an establishment

-- the one of this name, changed
abbrev pub on_named : ℕ → (Uplink → Uplink) → List Uplink → List Uplink
on_named g f us = map (λ (u : Uplink). if u.g == g then f u else u) us

-- the one that was found, changed
abbrev pub changed_in : (Uplink → Uplink) → List Uplink → Option Uplink → List Uplink
changed_in f us None = us
changed_in f us (Some u) = on_named u.g f us

-- the latest of an identity, changed
abbrev pub on_latest : ℕ → (Uplink → Uplink) → List Uplink → List Uplink
on_latest id f [] = []
on_latest id f (u ∷ us) = if u.id == id then f u ∷ us else u ∷ on_latest id f us

-- the terminal took a generation
abbrev pub set_to : ℕ → Uplink → Uplink
set_to g u = record u { terminal = Some g; is_failed = false }

-- it dropped the bearer
abbrev pub unset : Uplink → Uplink
unset u = record u { terminal = None }

-- the window begins at this COUNT
abbrev pub freed_to : ℕ → Uplink → Uplink
freed_to count u = record u { freed = count }

-- one more payload was submitted
abbrev pub one_more : List ℕ → Uplink → Uplink
one_more sdu u = record u { submitted = u.submitted ++ sdu ∷ [] }

-- a leg that the terminal has fails
abbrev pub leg_fails : Bool → Uplink → Uplink
leg_fails false u = u
leg_fails true u = record u { is_failed = true }

-- the SCG leg of the generation that the terminal has, if it has one
abbrev pub fails_in : List Plan → Uplink → Option ℕ → Uplink
fails_in plans u None = u
fails_in plans u (Some g) = leg_fails (has_scg_in (setting_in plans u.id g)) u

-- a new one
abbrev pub new_uplink : ℕ → ℕ → SnLen → ℕ → Uplink
new_uplink g id n first = record { g = g; id = id; n = n; first = first; terminal = None; is_failed = false; submitted = []; freed = first }

-- the one that an item establishes, and the earlier ones
abbrev pub with_new : ℕ → List Uplink → Item → List Uplink
with_new g us (Set id n first shape threshold policy key None) = new_uplink g id n first ∷ us
with_new g us (Set id n first shape threshold policy key (Some old)) = us
with_new g us (Unset id) = us

-- ---- steps

-- a draft is drawn
abbrev pub draws : Option Draft → Seen → Seen
draws None s = s
draws (Some d) s = record s {
  bearers = fold (with_new (s.last + 1)) s.bearers d.items;
  plans = record { g = s.last + 1; sec = d.sec; items = d.items } ∷ s.plans;
  roots = s.roots ++ d.named;
  last = s.last + 1;
}

-- a note; a command that begins is drawn, which is no step of this kind
abbrev pub with_note : Seen → Note → Seen
with_note s (note.Begin w) = s
with_note s (note.Join x g) = s
with_note s (note.Leave x g) = s
with_note s (note.Give x id g) = s
with_note s (note.Own x id g) = s
with_note s (note.Set id g) = record s { bearers = changed_in (set_to g) s.bearers (named_in id g (setting_in s.plans id g) s.bearers) }
with_note s (note.Unset id) = record s { bearers = on_latest id unset s.bearers }
with_note s (note.Up x id d count sdu) = s
with_note s (note.Freed id Dl count) = s
with_note s (note.Freed id Ul count) = record s { bearers = on_latest id (freed_to count) s.bearers }
with_note s (note.Confirmed x) = s
with_note s (note.Refused x w) = s
with_note s note.Done = s
with_note s note.Rejected = s

-- a line
abbrev pub with_line : Seen → Line → Seen
with_line s (line.Note n) = with_note s n
with_line s (line.Send l f) = s
with_line s (line.Event e) = s
with_line s (line.Answer a) = s

-- a record that a node takes
abbrev pub with_record : Rec → Seen → Seen
with_record (rec.Reconf q key) s = record s { sec = q.sec }
with_record _ s = s

-- a flight that a node takes
abbrev pub with_flight : Flight → Seen → Seen
with_flight (flight.Ctl r) s = with_record r s
with_flight _ s = s

-- if there is one
abbrev pub with_given : Option (LinkId × Flight) → Seen → Seen
with_given None s = s
with_given (Some x) s = with_flight x.1 s

-- an event that was answered ok, with what it draws and the flight at its place
abbrev pub with_event : Option Draft → Option (LinkId × Flight) → Event → Seen → Seen
with_event d o (event.Bearer id n first shape threshold policy) s = draws d s
with_event d o (event.Reshape id shape) s = draws d s
with_event d o (event.Remove id) s = draws d s
with_event d o (event.Add x) s = draws d s
with_event d o event.Change s = draws d s
with_event d o event.Release s = draws d s
with_event d o event.RekeySecond s = draws d s
with_event d o (event.RekeyMaster root) s = draws d s
with_event d o (event.Recover id) s = s
with_event d o (event.Submit id Dl sdu) s = s
with_event d o (event.Submit id Ul sdu) s = record s { bearers = on_latest id (one_more sdu) s.bearers }
with_event d o (event.Report x id) s = s
with_event d o (event.Deny x on) s = s
with_event d o (event.Ask x w) s = s
with_event d o event.ScgFail s = record s { bearers = map (λ (u : Uplink). fails_in s.plans u u.terminal) s.bearers }
with_event d o (event.Step l i) s = with_given o s
with_event d o (event.Lose l i) s = s
with_event d o (event.Again l i) s = s

-- an event with its answer
abbrev pub answered : Option Draft → Option (LinkId × Flight) → Event → Answer → Seen → Seen
answered d o e answer.Ok s = with_event d o e s
answered d o e (answer.No why) s = s
