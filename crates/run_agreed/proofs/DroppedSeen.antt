-- Whether a bearer was dropped changes by the event that drops it or sets one up alone.
use Rattle.std.proofs.Common.{ℕ, ◌≡◌, ◌+◌, ◌==◌, Bool, true, false, List, [], ◌∷◌, Option, Some, None, refl, ap, ◌∙◌, inl, inr}
use Rattle.std.specs.Prelude.{fold, if◌then◌else◌, map}
use Rattle.std.proofs.lemmas.Bool.{cases_Bool}
use Rattle.dc_base.specs.declared.answers.Answer.{Answer}
use Rattle.dc_base.specs.declared.answers.Answer.TheVariants as answer
use Rattle.dc_base.specs.declared.events.Event.{Event}
use Rattle.dc_base.specs.declared.events.Event.TheVariants as event
use Rattle.dc_base.specs.declared.events.Line.{Line}
use Rattle.dc_base.specs.declared.events.Line.TheVariants as line
use Rattle.dc_base.specs.declared.events.Note.{Note}
use Rattle.dc_base.specs.declared.events.Note.TheVariants as note
use Rattle.dc_base.specs.declared.nodes.Dir.TheVariants.{Dl, Ul}
use Rattle.transcript.specs.Transcript.{Entry}
use Rattle.claims.specs.Noted.{after}
use Rattle.claims.specs.Past.{Past}
use Rattle.claims.specs.Table.{Kind, is_change}
use Rattle.run_windows.specs.Seen.{Count, Face, Seen, answered, done_by, done_in, dropped, freed_to, latest, new_seen, on_latest, one_more, seen, with_event, with_line, with_note}
use Rattle.run_windows.proofs.Latest.{latest-other}
use Rattle.run_windows.proofs.Seeing.{after_seen}
use Rattle.run_agreed.specs.Dropped.{drops, is_dropped_at, is_dropped_in, sets_up}

-- a change that leaves identity and drop
module _ (f : Face × Count → Face × Count) (keeps_id : (b : Face × Count) → (f b).0.id ≡ b.0.id) (keeps : (b : Face × Count) → (f b).0.is_dropped ≡ b.0.is_dropped) where
  one_dropped : (id : ℕ) (b : Face × Count) (o o' : Option (Face × Count)) → is_dropped_in o ≡ is_dropped_in o' → is_dropped_in (if (f b).0.id == id then Some (f b) else o) ≡ is_dropped_in (if b.0.id == id then Some b else o')
  one_dropped id b o o' same =
      ap (λ k. is_dropped_in (if k == id then Some (f b) else o)) (keeps_id b)
      ∙ elim (cases_Bool (b.0.id == id)) [ inl here ↦ rw here (keeps b) | inr apart ↦ rw apart same ]

  on_dropped : (id k : ℕ) (bs : List (Face × Count)) → is_dropped_at id (on_latest k f bs) ≡ is_dropped_at id bs
  on_dropped id k [] = refl
  on_dropped id k (b ∷ bs) =
      elim (cases_Bool (b.0.id == k)) [
        | inl there ↦ rw there (one_dropped id b (latest id bs) (latest id bs) refl)
        | inr apart ↦ rw apart (more (b.0.id == id) (on_dropped id k bs))
      ]
    where
      more : (d : Bool) → is_dropped_at id (on_latest k f bs) ≡ is_dropped_at id bs → is_dropped_in (if d then Some b else latest id (on_latest k f bs)) ≡ is_dropped_in (if d then Some b else latest id bs)
      more true same = refl
      more false same = same

  all_dropped : (id : ℕ) (bs : List (Face × Count)) → is_dropped_at id (map f bs) ≡ is_dropped_at id bs
  all_dropped id [] = refl
  all_dropped id (b ∷ bs) = one_dropped id b (latest id (map f bs)) (latest id bs) (all_dropped id bs)

done_id : (k : Kind) (b : Face × Count) → (done_in k b).0.id ≡ b.0.id
done_id k b = elim (cases_Bool (is_change b.0.g k)) [ inl yes' ↦ rw yes' refl | inr no' ↦ rw no' refl ]

done_drop : (k : Kind) (b : Face × Count) → (done_in k b).0.is_dropped ≡ b.0.is_dropped
done_drop k b = elim (cases_Bool (is_change b.0.g k)) [ inl yes' ↦ rw yes' refl | inr no' ↦ rw no' refl ]

done_dropped : (id : ℕ) (o : Option Kind) (bs : List (Face × Count)) → is_dropped_at id (done_by o bs) ≡ is_dropped_at id bs
done_dropped id None bs = refl
done_dropped id (Some k) bs = all_dropped (done_in k) (done_id k) (done_drop k) id bs

note_dropped : (id : ℕ) (s : Seen) (n : Note) → is_dropped_at id (with_note s n).bearers ≡ is_dropped_at id s.bearers
note_dropped id s (note.Begin w) = refl
note_dropped id s (note.Join x g) = refl
note_dropped id s (note.Leave x g) = refl
note_dropped id s (note.Give x i g) = refl
note_dropped id s (note.Own x i g) = refl
note_dropped id s (note.Set i g) = refl
note_dropped id s (note.Unset i) = refl
note_dropped id s (note.Up x i d count sdu) = refl
note_dropped id s (note.Freed i Dl count) = on_dropped (freed_to count) (λ b. refl) (λ b. refl) id i s.bearers
note_dropped id s (note.Freed i Ul count) = refl
note_dropped id s (note.Confirmed x) = refl
note_dropped id s (note.Refused x w) = refl
note_dropped id s note.Done = done_dropped id s.kind s.bearers
note_dropped id s note.Rejected = refl

line_dropped : (id : ℕ) (s : Seen) (x : Line) → is_dropped_at id (with_line s x).bearers ≡ is_dropped_at id s.bearers
line_dropped id s (line.Note n) = note_dropped id s n
line_dropped id s (line.Send l f) = refl
line_dropped id s (line.Event e) = refl
line_dropped id s (line.Answer a) = refl

lines_dropped : (id : ℕ) (xs : List Line) (s : Seen) → is_dropped_at id (fold with_line s xs).bearers ≡ is_dropped_at id s.bearers
lines_dropped id [] s = refl
lines_dropped id (x ∷ xs) s = lines_dropped id xs (with_line s x) ∙ line_dropped id s x

-- after an entry it is as after the event with its answer
pub after_dropped : (id : ℕ) (p : Past) (x : Entry) → is_dropped_at id (seen (after p x)).bearers ≡ is_dropped_at id (answered x.event x.answer (seen p)).bearers
after_dropped id p x = ap (λ (s : Seen). is_dropped_at id s.bearers) (after_seen p x) ∙ lines_dropped id x.lines (answered x.event x.answer (seen p))

-- ---- an event

-- of another identity than one that is set up or dropped
event_dropped : (id : ℕ) (e : Event) (s : Seen) → sets_up id e ≡ false → drops id e ≡ false → is_dropped_at id (with_event e s).bearers ≡ is_dropped_at id s.bearers
event_dropped id (event.Bearer i n first shape threshold policy) s other kept = ap (λ b. is_dropped_in (if b then Some (new_seen (s.last + 1) i n first) else latest id s.bearers)) other
event_dropped id (event.Reshape i shape) s other kept = refl
event_dropped id (event.Remove i) s other kept = ap is_dropped_in (latest-other i id dropped (λ b. refl) kept s.bearers)
event_dropped id (event.Add node) s other kept = refl
event_dropped id event.Change s other kept = refl
event_dropped id event.Release s other kept = refl
event_dropped id event.RekeySecond s other kept = refl
event_dropped id (event.RekeyMaster root) s other kept = refl
event_dropped id (event.Recover i) s other kept = refl
event_dropped id (event.Report node i) s other kept = refl
event_dropped id (event.Deny node on) s other kept = refl
event_dropped id (event.Ask node what) s other kept = refl
event_dropped id event.ScgFail s other kept = refl
event_dropped id (event.Submit i Dl payload) s other kept = on_dropped one_more (λ b. refl) (λ b. refl) id i s.bearers
event_dropped id (event.Submit i Ul payload) s other kept = refl
event_dropped id (event.Step l j) s other kept = refl
event_dropped id (event.Lose l j) s other kept = refl
event_dropped id (event.Again l j) s other kept = refl

pub answered_dropped : (id : ℕ) (e : Event) (a : Answer) (s : Seen) → sets_up id e ≡ false → drops id e ≡ false → is_dropped_at id (answered e a s).bearers ≡ is_dropped_at id s.bearers
answered_dropped id e answer.Ok s other kept = event_dropped id e s other kept
answered_dropped id e (answer.No why) s other kept = refl

-- one that is set up is not dropped
pub new_dropped : (id : ℕ) (e : Event) (s : Seen) → sets_up id e ≡ true → is_dropped_at id (with_event e s).bearers ≡ false
new_dropped id (event.Bearer i n first shape threshold policy) s up = ap (λ b. is_dropped_in (if b then Some (new_seen (s.last + 1) i n first) else latest id s.bearers)) up
new_dropped id (event.Reshape i shape) s up = absurd cc
new_dropped id (event.Remove i) s up = absurd cc
new_dropped id (event.Add node) s up = absurd cc
new_dropped id event.Change s up = absurd cc
new_dropped id event.Release s up = absurd cc
new_dropped id event.RekeySecond s up = absurd cc
new_dropped id (event.RekeyMaster root) s up = absurd cc
new_dropped id (event.Recover i) s up = absurd cc
new_dropped id (event.Report node i) s up = absurd cc
new_dropped id (event.Deny node on) s up = absurd cc
new_dropped id (event.Ask node what) s up = absurd cc
new_dropped id event.ScgFail s up = absurd cc
new_dropped id (event.Submit i d payload) s up = absurd cc
new_dropped id (event.Step l j) s up = absurd cc
new_dropped id (event.Lose l j) s up = absurd cc
new_dropped id (event.Again l j) s up = absurd cc
