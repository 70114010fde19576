-- A key that is in use for an establishment stays so, at each event and each line.
use Rattle.std.proofs.Common.{ℕ, ◌≡◌, ◌==◌, ◌+◌, ◌≤◌, Bool, true, false, List, [], ◌∷◌, Option, Some, None, refl, ap, ◌∙◌, inl, inr, arith}
use Rattle.std.specs.Prelude.{fold, map, nat_le}
use Rattle.std.specs.List.{list_any}
use Rattle.std.proofs.lemmas.Bool.{cases_Bool}
use Rattle.std.proofs.lemmas.Bool.Decides.{nat_tests}
use Rattle.dc_base.specs.declared.answers.Answer.{Answer}
use Rattle.dc_base.specs.declared.answers.Answer.TheVariants as answer
use Rattle.dc_base.specs.declared.events.Event.{Event}
use Rattle.dc_base.specs.declared.events.Event.TheVariants as event
use Rattle.dc_base.specs.declared.events.Line.{Line}
use Rattle.dc_base.specs.declared.events.Line.TheVariants as line
use Rattle.dc_base.specs.declared.events.Note.{Note}
use Rattle.dc_base.specs.declared.events.Note.TheVariants as note
use Rattle.dc_base.specs.declared.flights.Flight.{Flight}
use Rattle.dc_base.specs.declared.flights.Flight.TheVariants as flight
use Rattle.dc_base.specs.declared.nodes.Dir.TheVariants.{Dl, Ul}
use Rattle.dc_base.specs.declared.nodes.LinkId.{LinkId}
use Rattle.dc_base.specs.declared.nodes.Node.{Node}
use Rattle.dc_base.specs.declared.records.Rec.{Rec}
use Rattle.dc_base.specs.declared.records.Rec.TheVariants as rec
use Rattle.claims.specs.Drafts.{Draft, command_of, draft}
use Rattle.claims.specs.Judged.{judged}
use Rattle.claims.specs.Links.{find_at}
use Rattle.claims.specs.Noted.{after, noted}
use Rattle.claims.specs.Past.{Past}
use Rattle.claims.specs.Table.{Claimed, Kind, is_change}
use Rattle.claims.specs.Views.{forwarding_of}
use Rattle.transcript.specs.Transcript.{Entry}
use Rattle.run_table.specs.View.{View, draws, draws_if, view}
use Rattle.run_table.specs.Words.{hears}
use Rattle.run_table.proofs.Views.{hears_answer, hears_event, judged_view, loses, loses_flight, noted_view}
use Rattle.run_windows.specs.Seen.{Count, Face, Seen, answered, done_by, done_in, dropped, freed_to, on_latest, one_more, seen, with_line, with_note}
use Rattle.run_windows.proofs.Seeing.{judged_seen, noted_seen}
use Rattle.run_relays.proofs.Pasts.{IsRead, judged_becomes, noted_becomes}
use Rattle.run_keys.specs.InUse.{IsInUse, name_at, named, names, own_use}
use Rattle.run_keys.proofs.Unused.{carries_uses}

-- ---- names

names_on : (id : ℕ) (f : Face × Count → Face × Count) → ((b : Face × Count) → named (f b) ≡ named b) → (bs : List (Face × Count))
    → map named (on_latest id f bs) ≡ map named bs
names_on id f same [] = refl
names_on id f same (b ∷ bs) =
    elim (cases_Bool (b.0.id == id)) [
      | inl here ↦ rw here (ap (λ x. x ∷ map named bs) (same b))
      | inr apart ↦ rw apart (ap (λ xs. named b ∷ xs) (names_on id f same bs))
    ]

names_done : (o : Option Kind) (bs : List (Face × Count)) → map named (done_by o bs) ≡ map named bs
names_done None bs = refl
names_done (Some k) bs = by bs
  where
    one : (b : Face × Count) → named (done_in k b) ≡ named b
    one b = elim (cases_Bool (is_change b.0.g k)) [ inl yes' ↦ rw yes' refl | inr no' ↦ rw no' refl ]

    by : (bs : List (Face × Count)) → map named (map (done_in k) bs) ≡ map named bs
    by [] = refl
    by (b ∷ bs) = ap (λ x. x ∷ map named (map (done_in k) bs)) (one b) ∙ ap (λ xs. named b ∷ xs) (by bs)

note_names : (s : Seen) (n : Note) → names (with_note s n) ≡ names s
note_names s (note.Begin w) = refl
note_names s (note.Join x g) = refl
note_names s (note.Leave x g) = refl
note_names s (note.Give x id g) = refl
note_names s (note.Own x id g) = refl
note_names s (note.Set id g) = refl
note_names s (note.Unset id) = refl
note_names s (note.Up x id d count sdu) = refl
note_names s (note.Freed id Dl count) = names_on id (freed_to count) (λ b. refl) s.bearers
note_names s (note.Freed id Ul count) = refl
note_names s (note.Confirmed x) = refl
note_names s (note.Refused x w) = refl
note_names s note.Done = names_done s.kind s.bearers
note_names s note.Rejected = refl

line_names : (s : Seen) (x : Line) → names (with_line s x) ≡ names s
line_names s (line.Note n) = note_names s n
line_names s (line.Send l f) = refl
line_names s (line.Event e) = refl
line_names s (line.Answer a) = refl

-- the last generation does not fall
line_last : (s : Seen) (x : Line) → s.last ≤ (with_line s x).last
line_last s (line.Send l f) = omega arith
line_last s (line.Event e) = omega arith
line_last s (line.Answer a) = omega arith
line_last s (line.Note (note.Begin w)) = omega arith
line_last s (line.Note (note.Join x g)) = omega arith
line_last s (line.Note (note.Leave x g)) = omega arith
line_last s (line.Note (note.Give x id g)) = omega arith
line_last s (line.Note (note.Own x id g)) = omega arith
line_last s (line.Note (note.Set id g)) = omega arith
line_last s (line.Note (note.Unset id)) = omega arith
line_last s (line.Note (note.Up x id d count sdu)) = omega arith
line_last s (line.Note (note.Freed id Dl count)) = omega arith
line_last s (line.Note (note.Freed id Ul count)) = omega arith
line_last s (line.Note (note.Confirmed x)) = omega arith
line_last s (line.Note (note.Refused x w)) = omega arith
line_last s (line.Note note.Done) = omega arith
line_last s (line.Note note.Rejected) = omega arith

-- a later name is passed over
later_name : (id g k e : ℕ) (ns : List (ℕ × ℕ)) → g ≤ k → name_at id g ((k + 1, e) ∷ ns) ≡ name_at id g ns
later_name id g k e ns le =
    let over : nat_le (k + 1) g ≡ false = grind (arith, nat_tests, le) in
    elim (cases_Bool (e == id)) [ inl same ↦ rw same (rw over refl) | inr apart ↦ rw apart refl ]

event_names : (e : Event) (a : Answer) (s : Seen) (id g : ℕ) → g ≤ s.last → name_at id g (names (answered e a s)) ≡ name_at id g (names s)
event_names (event.Bearer k n first shape threshold policy) answer.Ok s id g le = later_name id g s.last k (names s) le
event_names (event.Remove k) answer.Ok s id g le = ap (name_at id g) (names_on k dropped (λ b. refl) s.bearers)
event_names (event.Submit k Dl payload) answer.Ok s id g le = ap (name_at id g) (names_on k one_more (λ b. refl) s.bearers)
event_names (event.Submit k Ul payload) answer.Ok s id g le = refl
event_names (event.Reshape k shape) answer.Ok s id g le = refl
event_names (event.Add x) answer.Ok s id g le = refl
event_names event.Change answer.Ok s id g le = refl
event_names event.Release answer.Ok s id g le = refl
event_names event.RekeySecond answer.Ok s id g le = refl
event_names (event.RekeyMaster root) answer.Ok s id g le = refl
event_names (event.Recover k) answer.Ok s id g le = refl
event_names (event.Report x k) answer.Ok s id g le = refl
event_names (event.Deny x on) answer.Ok s id g le = refl
event_names (event.Ask x w) answer.Ok s id g le = refl
event_names event.ScgFail answer.Ok s id g le = refl
event_names (event.Step l i) answer.Ok s id g le = refl
event_names (event.Lose l i) answer.Ok s id g le = refl
event_names (event.Again l i) answer.Ok s id g le = refl
event_names e (answer.No why) s id g le = refl

event_last : (e : Event) (a : Answer) (s : Seen) → s.last ≤ (answered e a s).last
event_last (event.Bearer k n first shape threshold policy) answer.Ok s = omega arith
event_last (event.Remove k) answer.Ok s = omega arith
event_last (event.Submit k Dl payload) answer.Ok s = omega arith
event_last (event.Submit k Ul payload) answer.Ok s = omega arith
event_last (event.Reshape k shape) answer.Ok s = omega arith
event_last (event.Add x) answer.Ok s = omega arith
event_last event.Change answer.Ok s = omega arith
event_last event.Release answer.Ok s = omega arith
event_last event.RekeySecond answer.Ok s = omega arith
event_last (event.RekeyMaster root) answer.Ok s = omega arith
event_last (event.Recover k) answer.Ok s = omega arith
event_last (event.Report x k) answer.Ok s = omega arith
event_last (event.Deny x on) answer.Ok s = omega arith
event_last (event.Ask x w) answer.Ok s = omega arith
event_last event.ScgFail answer.Ok s = omega arith
event_last (event.Step l i) answer.Ok s = omega arith
event_last (event.Lose l i) answer.Ok s = omega arith
event_last (event.Again l i) answer.Ok s = omega arith
event_last e (answer.No why) s = omega arith

-- ---- uses

module _ (f : Claimed → Bool) where
  -- one of these uses stands
  abbrev pub HasUse : View → Type 0
  HasUse v = list_any f v.table.uses ≡ true

  draft_uses : (e : Event) (asker : Option Node) (o : Option Draft) (v : View) → HasUse v → HasUse (draws_if e asker o v)
  draft_uses e asker None v is = is
  draft_uses e asker (Some d) v is = is

  draws_uses : (e : Event) (asker : Option Node) (v : View) → HasUse v → HasUse (draws e asker v)
  draws_uses e asker v is = draft_uses e asker (draft v.table e) v is

  note_uses : (v : View) (n : Note) → HasUse v → HasUse (hears v (line.Note n))
  note_uses v (note.Begin w) is = draws_uses (command_of w) v.table.sec v is
  note_uses v (note.Join x g) is = is
  note_uses v (note.Leave x g) is = is
  note_uses v (note.Give x id g) is = is
  note_uses v (note.Own x id g) is = is
  note_uses v (note.Set id g) is = is
  note_uses v (note.Unset id) is = is
  note_uses v (note.Up x id d count sdu) is = is
  note_uses v (note.Freed id d count) is = is
  note_uses v (note.Confirmed x) is = is
  note_uses v (note.Refused x w) is = is
  note_uses v note.Done is = is
  note_uses v note.Rejected is = is

  record_uses : (l : LinkId) (v : View) (r : Rec) → HasUse v → HasUse (hears v (line.Send l (flight.Ctl r)))
  record_uses l v (rec.Reconf q key) is = carries_uses f q.g v is
  record_uses l v (rec.Rcomp g) is = is
  record_uses l v (rec.Scgf x) is = is
  record_uses l v (rec.Recov id) is = is
  record_uses l v (rec.Recovd id) is = is
  record_uses l v (rec.Addreq q key) is = is
  record_uses l v (rec.Modreq q key) is = is
  record_uses l v (rec.Addack g) is = is
  record_uses l v (rec.Addrej g) is = is
  record_uses l v (rec.Modack g) is = is
  record_uses l v (rec.Modrej g) is = is
  record_uses l v (rec.Recfg g) is = is
  record_uses l v (rec.Relreq q) is = is
  record_uses l v (rec.Relack g) is = is
  record_uses l v (rec.Relrej g) is = is
  record_uses l v (rec.Uecr g) is = is
  record_uses l v (rec.Snst st) is = is
  record_uses l v (rec.Moved g id) is = is
  record_uses l v (rec.Scgn id g) is = is
  record_uses l v rec.Modrqd is = is
  record_uses l v (rec.Modcnf g) is = is
  record_uses l v (rec.Modref w) is = is
  record_uses l v rec.Chgrqd is = is
  record_uses l v (rec.Chgcnf q) is = is
  record_uses l v (rec.Chgref w) is = is
  record_uses l v rec.Relrqd is = is
  record_uses l v (rec.Relcnf q) is = is

  flight_uses : (l : LinkId) (v : View) (x : Flight) → HasUse v → HasUse (hears v (line.Send l x))
  flight_uses l v (flight.Ctl r) is = record_uses l v r is
  flight_uses l v (flight.Air id g num tag pdu) is = is
  flight_uses l v (flight.Ack id g num) is = is
  flight_uses l v (flight.Tun tag packet) is = is
  flight_uses l v (flight.Sdu id g sdu) is = is
  flight_uses l v (flight.End id g) is = is
  flight_uses l v (flight.Told id g count) is = is

  pub line_uses : (v : View) (x : Line) → HasUse v → HasUse (hears v x)
  line_uses v (line.Note n) is = note_uses v n is
  line_uses v (line.Send l x) is = flight_uses l v x is
  line_uses v (line.Event e) is = is
  line_uses v (line.Answer a) is = is

  pub lines_uses : (xs : List Line) (v : View) → HasUse v → HasUse (fold hears v xs)
  lines_uses [] v is = is
  lines_uses (x ∷ xs) v is = lines_uses xs (hears v x) (line_uses v x is)

  lost_uses : (o : Option (ℕ × ℕ)) (v : View) → HasUse v → HasUse (loses o v)
  lost_uses None v is = is
  lost_uses (Some x) v is = is

  lost_flight_uses : (o : Option (LinkId × Flight)) (v : View) → HasUse v → HasUse (loses_flight o v)
  lost_flight_uses None v is = is
  lost_flight_uses (Some s) v is = lost_uses (forwarding_of s.1) v is

  event_uses : (p : Past) (e : Event) (v : View) → HasUse v → HasUse (hears_event p e v)
  event_uses p (event.Bearer id n first shape threshold policy) v is = draws_uses (event.Bearer id n first shape threshold policy) None v is
  event_uses p (event.Reshape id shape) v is = draws_uses (event.Reshape id shape) None v is
  event_uses p (event.Remove id) v is = draws_uses (event.Remove id) None v is
  event_uses p (event.Add node) v is = draws_uses (event.Add node) None v is
  event_uses p event.Change v is = draws_uses event.Change None v is
  event_uses p event.Release v is = draws_uses event.Release None v is
  event_uses p event.RekeySecond v is = draws_uses event.RekeySecond None v is
  event_uses p (event.RekeyMaster root) v is = draws_uses (event.RekeyMaster root) None v is
  event_uses p (event.Recover id) v is = is
  event_uses p (event.Lose l i) v is = lost_flight_uses (find_at l i p.standing) v is
  event_uses p (event.Submit id d payload) v is = is
  event_uses p (event.Report x id) v is = is
  event_uses p (event.Deny x on) v is = is
  event_uses p (event.Ask x w) v is = is
  event_uses p event.ScgFail v is = is
  event_uses p (event.Step l i) v is = is
  event_uses p (event.Again l i) v is = is

  answer_uses : (p : Past) (e : Event) (a : Answer) (v : View) → HasUse v → HasUse (hears_answer p e a v)
  answer_uses p e answer.Ok v is = event_uses p e v is
  answer_uses p e (answer.No why) v is = is

-- ---- a key stays in use

pub use_judged : (e : Event) (a : Answer) (p : Past) (id g : ℕ) → IsRead p → IsInUse p id g → IsInUse (judged e a p) id g
use_judged e a p id g read is =
    let same = judged_seen e a p in
    let f : Claimed → Bool = λ u. own_use id is.set.key is.est u.id u.key u.bearer in
    record {
      set = is.set;
      at = (judged_becomes e a p read).grows.settings id g is.set is.at;
      est = is.est;
      named = ap (λ s. name_at id g (names s)) same ∙ event_names e a (seen p) id g is.upto ∙ is.named;
      used = ap (λ (v : View). list_any f v.table.uses) (judged_view e a p) ∙ answer_uses f p e a (view p) is.used;
      upto = let more = event_last e a (seen p) in let upto = is.upto in let last = ap (λ (s : Seen). s.last) same in omega (arith, more, upto, last);
    }

pub use_noted : (p : Past) (x : Line) (id g : ℕ) → IsRead p → IsInUse p id g → IsInUse (noted p x) id g
use_noted p x id g read is =
    let same = noted_seen p x in
    let f : Claimed → Bool = λ u. own_use id is.set.key is.est u.id u.key u.bearer in
    record {
      set = is.set;
      at = (noted_becomes p x read).grows.settings id g is.set is.at;
      est = is.est;
      named = ap (λ s. name_at id g (names s)) same ∙ ap (name_at id g) (line_names (seen p) x) ∙ is.named;
      used = ap (λ (v : View). list_any f v.table.uses) (noted_view p x) ∙ line_uses f (view p) x is.used;
      upto = let more = line_last (seen p) x in let upto = is.upto in let last = ap (λ (s : Seen). s.last) same in omega (arith, more, upto, last);
    }

pub use_lines : (xs : List Line) (p : Past) (id g : ℕ) → IsRead p → IsInUse p id g → IsInUse (fold noted p xs) id g
use_lines [] p id g read is = is
use_lines (x ∷ xs) p id g read is = use_lines xs (noted p x) id g (noted_becomes p x read).is (use_noted p x id g read is)

-- after an entry
pub use_after : (p : Past) (x : Entry) (id g : ℕ) → IsRead p → IsInUse p id g → IsInUse (after p x) id g
use_after p x id g read is =
    use_lines x.lines (judged x.event x.answer p) id g (judged_becomes x.event x.answer p read).is (use_judged x.event x.answer p id g read is)
