-- What is read of the past of a run grows at each event and at each line.
use Rattle.std.proofs.Common.{◌≡◌, false, List, [], ◌∷◌, refl, sym, ap, subst, ◌∙◌}
use Rattle.std.specs.Prelude.{fold}
use Rattle.dc_base.specs.declared.answers.Answer.{Answer}
use Rattle.dc_base.specs.declared.answers.Answer.TheVariants as answer
use Rattle.dc_base.specs.declared.events.Event.{Event}
use Rattle.dc_base.specs.declared.events.Line.{Line}
use Rattle.dc_base.specs.declared.events.Line.TheVariants as line
use Rattle.dc_base.specs.declared.events.Note.{Note}
use Rattle.dc_base.specs.declared.events.Note.TheVariants as note
use Rattle.dc_base.specs.declared.nodes.Want.{Want}
use Rattle.claims.specs.Drafts.{command_of, draft}
use Rattle.claims.specs.Judged.{judged}
use Rattle.claims.specs.Noted.{noted}
use Rattle.claims.specs.Past.{Past}
use Rattle.run_table.specs.View.{view}
use Rattle.run_table.proofs.Views.{judged_view, noted_view}
use Rattle.run_uplinks.specs.Readings.{reading}
use Rattle.run_uplinks.specs.Seen.{Seen, answered, seen, with_line}
use Rattle.run_uplinks.proofs.ReadStays.{note_reads}
use Rattle.run_uplinks.proofs.Roots.{draft_root}
use Rattle.run_uplinks.proofs.Seeing.{begins_line, begun_seen, flight_at, judged_seen, noted_seen}
use Rattle.run_uplinks.proofs.Wells.{IsWell, answer_grows, line_grows}
use Rattle.run_relays.specs.Pdus.{AreApart, AreRooted, GrowsTo}
use Rattle.run_relays.proofs.Drawing.{draft_apart, draws_apart, draws_grow, draws_rooted, event_apart, event_grows, event_rooted}
use Rattle.run_relays.proofs.Growing.{grows_same, grows_self, grows_then}

-- what is so of each past of a run
pub record IsRead (p : Past) : Type 0 where
  pub well : IsWell (view p)
  pub rooted : AreRooted (reading (seen p))
  pub apart : AreApart (reading (seen p))

-- from one past to a later one
pub record Becomes (p q : Past) : Type 0 where
  pub is : IsRead q
  pub grows : GrowsTo (reading (seen p)) (reading (seen q))

pub becomes_self : (p : Past) → IsRead p → Becomes p p
becomes_self p is = record { is = is; grows = grows_self (reading (seen p)) }

pub becomes_then : (p q t : Past) → Becomes p q → Becomes q t → Becomes p t
becomes_then p q t one more = record { is = more.is; grows = grows_then (reading (seen p)) (reading (seen q)) (reading (seen t)) one.grows more.grows }

-- where the same is read
same_read : (p q : Past) → IsRead p → IsWell (view q) → reading (seen q) ≡ reading (seen p) → Becomes p q
same_read p q is well same = record { is = record { well = well; rooted = subst AreRooted (sym same) is.rooted; apart = subst AreApart (sym same) is.apart }; grows = grows_same (reading (seen p)) (reading (seen q)) same }

-- ---- an answer

answer_reads : (e : Event) (a : Answer) (p : Past) → IsRead p → let s = answered (draft p.table e) (flight_at p.standing e) e a (seen p) in GrowsTo (reading (seen p)) (reading s) × AreRooted (reading s) × AreApart (reading s)
answer_reads e answer.Ok p is = (
  event_grows (draft p.table e) (flight_at p.standing e) (seen p) e is.well.plans,
  event_rooted (draft p.table e) (flight_at p.standing e) (seen p) p.table e (draft_root p.table is.well.root is.well.second e) refl is.rooted,
  event_apart (draft p.table e) (flight_at p.standing e) (seen p) e (draft_apart p.table is.well.rows e) is.apart,
)
answer_reads e (answer.No why) p is = (grows_self (reading (seen p)), is.rooted, is.apart)

pub judged_becomes : (e : Event) (a : Answer) (p : Past) → IsRead p → Becomes p (judged e a p)
judged_becomes e a p is =
    let same = judged_seen e a p in
    let x = answer_reads e a p is in
    record {
      is = record { well = subst IsWell (sym (judged_view e a p)) (answer_grows p e a (view p) is.well).well; rooted = subst (λ s. AreRooted (reading s)) (sym same) x.1; apart = subst (λ s. AreApart (reading s)) (sym same) x.2 };
      grows = subst (λ s. GrowsTo (reading (seen p)) (reading s)) (sym same) x.0;
    }

-- ---- a line

line_reads : (s : Seen) (x : Line) → reading (with_line s x) ≡ reading s
line_reads s (line.Note n) = note_reads s n
line_reads s (line.Send l f) = refl
line_reads s (line.Event e) = refl
line_reads s (line.Answer a) = refl

well_after : (p : Past) (x : Line) → IsWell (view p) → IsWell (view (noted p x))
well_after p x is = subst IsWell (sym (noted_view p x)) (line_grows (view p) x is).well

-- by which no command begins
plain_line : (p : Past) (x : Line) → IsRead p → begins_line x ≡ false → Becomes p (noted p x)
plain_line p x is none = same_read p (noted p x) is (well_after p x is.well) (ap reading (noted_seen p x none) ∙ line_reads (seen p) x)

-- by which one begins
begin_line : (p : Past) (w : Want) → IsRead p → Becomes p (noted p (line.Note (note.Begin w)))
begin_line p w is =
    let d = draft p.table (command_of w) in
    let same = begun_seen p.table.sec w p in
    record {
      is = record {
        well = well_after p (line.Note (note.Begin w)) is.well;
        rooted = subst (λ s. AreRooted (reading s)) (sym same) (draws_rooted p.table (seen p) d (draft_root p.table is.well.root is.well.second (command_of w)) refl is.rooted);
        apart = subst (λ s. AreApart (reading s)) (sym same) (draws_apart (seen p) d (draft_apart p.table is.well.rows (command_of w)) is.apart);
      };
      grows = subst (λ s. GrowsTo (reading (seen p)) (reading s)) (sym same) (draws_grow (seen p) d is.well.plans);
    }

note_becomes : (p : Past) (n : Note) → IsRead p → Becomes p (noted p (line.Note n))
note_becomes p (note.Begin w) is = begin_line p w is
note_becomes p (note.Join x g) is = plain_line p (line.Note (note.Join x g)) is refl
note_becomes p (note.Leave x g) is = plain_line p (line.Note (note.Leave x g)) is refl
note_becomes p (note.Give x id g) is = plain_line p (line.Note (note.Give x id g)) is refl
note_becomes p (note.Own x id g) is = plain_line p (line.Note (note.Own x id g)) is refl
note_becomes p (note.Set id g) is = plain_line p (line.Note (note.Set id g)) is refl
note_becomes p (note.Unset id) is = plain_line p (line.Note (note.Unset id)) is refl
note_becomes p (note.Up x id d count sdu) is = plain_line p (line.Note (note.Up x id d count sdu)) is refl
note_becomes p (note.Freed id d count) is = plain_line p (line.Note (note.Freed id d count)) is refl
note_becomes p (note.Confirmed x) is = plain_line p (line.Note (note.Confirmed x)) is refl
note_becomes p (note.Refused x w) is = plain_line p (line.Note (note.Refused x w)) is refl
note_becomes p note.Done is = plain_line p (line.Note note.Done) is refl
note_becomes p note.Rejected is = plain_line p (line.Note note.Rejected) is refl

pub noted_becomes : (p : Past) (x : Line) → IsRead p → Becomes p (noted p x)
noted_becomes p (line.Note n) is = note_becomes p n is
noted_becomes p (line.Send l f) is = plain_line p (line.Send l f) is refl
noted_becomes p (line.Event e) is = plain_line p (line.Event e) is refl
noted_becomes p (line.Answer a) is = plain_line p (line.Answer a) is refl

pub lines_become : (xs : List Line) (p : Past) → IsRead p → Becomes p (fold noted p xs)
lines_become [] p is = becomes_self p is
lines_become (x ∷ xs) p is =
    let one = noted_becomes p x is in becomes_then p (noted p x) (fold noted (noted p x) xs) one (lines_become xs (noted p x) one.is)
