-- What of the past decides how a downlink submission is answered.
use Rattle.std.specs.Prelude.{◌+◌, ◌==◌, ◌∷◌, ℕ, Bool, true, false, List, [], Option, Some, None, find, if◌then◌else◌, length, map}
use Rattle.std.specs.Option.{option_map}
use Rattle.dc_base.specs.declared.answers.Answer.{Answer}
use Rattle.dc_base.specs.declared.answers.Answer.TheVariants as answer
use Rattle.dc_base.specs.declared.events.Event.{Event}
use Rattle.dc_base.specs.declared.events.Event.TheVariants as event
use Rattle.dc_base.specs.declared.events.Line.{Line}
use Rattle.dc_base.specs.declared.events.Line.TheVariants as line
use Rattle.dc_base.specs.declared.events.Note.{Note}
use Rattle.dc_base.specs.declared.events.Note.TheVariants as note
use Rattle.dc_base.specs.declared.nodes.Dir.TheVariants.{Dl, Ul}
use Rattle.dc_base.specs.declared.numbers.SnLen.{SnLen}
use Rattle.claims.specs.Table.{Command, Kind, change, is_change, recovery}
use Rattle.claims.specs.Past.{Bearer, Past}

-- an establishment: its name, identity, length of SNs and first COUNT, and whether it is done and dropped
pub record Face : Type 0 where
  pub g : ℕ
  pub id : ℕ
  pub n : SnLen
  pub first : ℕ
  pub is_done : Bool
  pub is_dropped : Bool

-- its downlink: how many payloads were submitted, and the COUNT of the last `freed` line
pub record Count : Type 0 where
  pub submitted : ℕ
  pub freed : ℕ

-- the establishments, the latest first; the last generation drawn, and what the open command is
pub record Seen : Type 0 where
  pub bearers : List (Face × Count)
  pub last : ℕ
  pub kind : Option Kind

-- what the past has of a bearer, but for its counts
abbrev pub face_of : Bearer → Face
face_of b = record { g = b.g; id = b.id; n = b.n; first = b.first; is_done = b.is_done; is_dropped = b.is_dropped }

-- how many payloads were submitted to it in downlink, and its last `freed` line
abbrev pub count_of : Bearer → Count
count_of b = record { submitted = length b.down.submitted; freed = b.down.freed }

-- both
abbrev pub seen_of : Bearer → Face × Count
seen_of b = (face_of b, count_of b)

-- of a past
abbrev pub seen : Past → Seen
seen p = record { bearers = map seen_of p.bearers; last = p.table.last; kind = option_map (λ (c : Command). c.kind) p.table.command }

-- ---- steps of establishments

-- the latest of an identity, changed
abbrev pub on_latest : ℕ → (Face × Count → Face × Count) → List (Face × Count) → List (Face × Count)
on_latest id f [] = []
on_latest id f (b ∷ bs) = if b.0.id == id then f b ∷ bs else b ∷ on_latest id f bs

-- the latest of an identity
abbrev pub latest : ℕ → List (Face × Count) → Option (Face × Count)
latest id bs = find (λ b. b.0.id == id) bs

-- one more payload was submitted
abbrev pub one_more : Face × Count → Face × Count
one_more b = (b.0, record b.1 { submitted = b.1.submitted + 1 })

-- the window begins at this COUNT
abbrev pub freed_to : ℕ → Face × Count → Face × Count
freed_to count b = (b.0, record b.1 { freed = count })

-- it is dropped
abbrev pub dropped : Face × Count → Face × Count
dropped b = (record b.0 { is_dropped = true }, b.1)

-- it is done, if the command established it
abbrev pub done_in : Kind → Face × Count → Face × Count
done_in k b = if is_change b.0.g k then (record b.0 { is_done = true }, b.1) else b

-- the establishments once the command is done
abbrev pub done_by : Option Kind → List (Face × Count) → List (Face × Count)
done_by None bs = bs
done_by (Some k) bs = map (done_in k) bs

-- a new one
abbrev pub new_seen : ℕ → ℕ → SnLen → ℕ → Face × Count
new_seen g id n first = (
  record { g = g; id = id; n = n; first = first; is_done = false; is_dropped = false },
  record { submitted = 0; freed = first },
)

-- ---- steps of what is seen

-- a plan is drawn
abbrev pub drawn : Seen → Seen
drawn s = record s { last = s.last + 1; kind = Some (change (s.last + 1)) }

-- a note
abbrev pub with_note : Seen → Note → Seen
with_note s (note.Begin w) = drawn s
with_note s (note.Join x g) = s
with_note s (note.Leave x g) = s
with_note s (note.Give x id g) = s
with_note s (note.Own x id g) = s
with_note s (note.Set id g) = s
with_note s (note.Unset id) = s
with_note s (note.Up x id d count sdu) = s
with_note s (note.Freed id Dl count) = record s { bearers = on_latest id (freed_to count) s.bearers }
with_note s (note.Freed id Ul count) = s
with_note s (note.Confirmed x) = s
with_note s (note.Refused x w) = s
with_note s note.Done = record s { bearers = done_by s.kind s.bearers; kind = None }
with_note s note.Rejected = record s { kind = None }

-- a line
abbrev pub with_line : Seen → Line → Seen
with_line s (line.Note n) = with_note s n
with_line s (line.Send l f) = s
with_line s (line.Event e) = s
with_line s (line.Answer a) = s

-- an event that was answered ok
abbrev pub with_event : Event → Seen → Seen
with_event (event.Bearer id n first shape threshold policy) s = record (drawn s) { bearers = new_seen (s.last + 1) id n first ∷ s.bearers }
with_event (event.Reshape id shape) s = drawn s
with_event (event.Remove id) s = record (drawn s) { bearers = on_latest id dropped s.bearers }
with_event (event.Add x) s = drawn s
with_event event.Change s = drawn s
with_event event.Release s = drawn s
with_event event.RekeySecond s = drawn s
with_event (event.RekeyMaster root) s = drawn s
with_event (event.Recover id) s = record s { kind = Some (recovery id) }
with_event (event.Submit id Dl sdu) s = record s { bearers = on_latest id one_more s.bearers }
with_event (event.Submit id Ul sdu) s = s
with_event (event.Report x id) s = s
with_event (event.Deny x on) s = s
with_event (event.Ask x w) s = s
with_event event.ScgFail s = s
with_event (event.Step l i) s = s
with_event (event.Lose l i) s = s
with_event (event.Again l i) s = s

-- an event with its answer
abbrev pub answered : Event → Answer → Seen → Seen
answered e answer.Ok s = with_event e s
answered e (answer.No why) s = s
