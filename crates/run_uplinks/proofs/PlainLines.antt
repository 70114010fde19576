-- Lines that say nothing of the terminal's side leave it so.
use Rattle.std.proofs.Common.{◌≡◌, true, false, List, [], ◌∷◌, refl, sym, subst}
use Rattle.std.specs.Prelude.{fold, ⊤}
use Rattle.std.specs.List.{AllByRecursion}
use Rattle.dc_base.specs.declared.events.Event.{Event}
use Rattle.dc_base.specs.declared.events.Line.{Line}
use Rattle.dc_base.specs.declared.events.Line.TheVariants as line
use Rattle.dc_base.specs.declared.events.Note.{Note}
use Rattle.dc_base.specs.declared.events.Note.TheVariants as note
use Rattle.dc_base.specs.declared.nodes.Dir.TheVariants.{Dl, Ul}
use Rattle.claims.specs.Drafts.{draft}
use Rattle.claims.specs.Judged.{judged}
use Rattle.claims.specs.Noted.{after, noted}
use Rattle.claims.specs.Past.{Past}
use Rattle.node_rules.specs.Choices.{Send}
use Rattle.node_rules.specs.Lines.{lines_of}
use Rattle.node_rules.specs.Run.{entry_with}
use Rattle.node_rules.specs.Terminal.{TerminalNode}
use Rattle.node_rules.specs.declared.inputs.Outcome.{Outcome}
use Rattle.run_table.specs.View.{view}
use Rattle.run_table.proofs.Views.{judged_view, noted_view}
use Rattle.run_words.proofs.Lines.{each_line_of}
use Rattle.run_uplinks.specs.Seen.{answered, seen}
use Rattle.run_uplinks.specs.Uplinks.{IsUp}
use Rattle.run_uplinks.proofs.Drawing.{asked_up}
use Rattle.run_uplinks.proofs.SecondNotes.{ArePlain, IsPlain}
use Rattle.run_uplinks.proofs.Seeing.{begun_seen, flight_at, judged_seen, noted_seen}
use Rattle.run_uplinks.proofs.Wells.{IsWell, answer_grows, line_grows}

-- such a line
abbrev IsPlainLine : Line → Type 0
IsPlainLine (line.Note n) = IsPlain n
IsPlainLine (line.Send l f) = ⊤
IsPlainLine (line.Event e) = ⊤
IsPlainLine (line.Answer a) = ⊤

well_line : (p : Past) (x : Line) → IsWell (view p) → IsWell (view (noted p x))
well_line p x is = subst IsWell (sym (noted_view p x)) (line_grows (view p) x is).well

by_seen : (p : Past) (x : Line) (t : TerminalNode) → seen (noted p x) ≡ seen p → IsUp (seen p) t → IsUp (seen (noted p x)) t
by_seen p x t same is = subst (λ s. IsUp s t) (sym same) is

-- one line
line_up : (p : Past) (x : Line) (t : TerminalNode) → IsPlainLine x → IsWell (view p) → IsUp (seen p) t → IsUp (seen (noted p x)) t
line_up p (line.Note (note.Begin w)) t plain well is = subst (λ s. IsUp s t) (sym (begun_seen p.table.sec w p)) (asked_up (seen p) t is p.table w well.rows)
line_up p (line.Note (note.Join x g)) t plain well is = by_seen p (line.Note (note.Join x g)) t (noted_seen p (line.Note (note.Join x g)) refl) is
line_up p (line.Note (note.Leave x g)) t plain well is = by_seen p (line.Note (note.Leave x g)) t (noted_seen p (line.Note (note.Leave x g)) refl) is
line_up p (line.Note (note.Give x id g)) t plain well is = by_seen p (line.Note (note.Give x id g)) t (noted_seen p (line.Note (note.Give x id g)) refl) is
line_up p (line.Note (note.Own x id g)) t plain well is = by_seen p (line.Note (note.Own x id g)) t (noted_seen p (line.Note (note.Own x id g)) refl) is
line_up p (line.Note (note.Set id g)) t plain well is = absurd (let bad : true ≡ false = plain in cc)
line_up p (line.Note (note.Unset id)) t plain well is = absurd (let bad : true ≡ false = plain in cc)
line_up p (line.Note (note.Up x id d count sdu)) t plain well is = by_seen p (line.Note (note.Up x id d count sdu)) t (noted_seen p (line.Note (note.Up x id d count sdu)) refl) is
line_up p (line.Note (note.Freed id Dl count)) t plain well is = by_seen p (line.Note (note.Freed id Dl count)) t (noted_seen p (line.Note (note.Freed id Dl count)) refl) is
line_up p (line.Note (note.Freed id Ul count)) t plain well is = absurd (let bad : true ≡ false = plain in cc)
line_up p (line.Note (note.Confirmed x)) t plain well is = by_seen p (line.Note (note.Confirmed x)) t (noted_seen p (line.Note (note.Confirmed x)) refl) is
line_up p (line.Note (note.Refused x w)) t plain well is = by_seen p (line.Note (note.Refused x w)) t (noted_seen p (line.Note (note.Refused x w)) refl) is
line_up p (line.Note note.Done) t plain well is = by_seen p (line.Note note.Done) t (noted_seen p (line.Note note.Done) refl) is
line_up p (line.Note note.Rejected) t plain well is = by_seen p (line.Note note.Rejected) t (noted_seen p (line.Note note.Rejected) refl) is
line_up p (line.Send l f) t plain well is = by_seen p (line.Send l f) t (noted_seen p (line.Send l f) refl) is
line_up p (line.Event e) t plain well is = by_seen p (line.Event e) t (noted_seen p (line.Event e) refl) is
line_up p (line.Answer a) t plain well is = by_seen p (line.Answer a) t (noted_seen p (line.Answer a) refl) is

lines_up : (xs : List Line) (p : Past) (t : TerminalNode) → AllByRecursion IsPlainLine xs → IsWell (view p) → IsUp (seen p) t → IsUp (seen (fold noted p xs)) t
lines_up [] p t plain well is = is
lines_up (x ∷ xs) p t plain well is = lines_up xs (noted p x) t plain.1 (well_line p x well) (line_up p x t plain.0 well is)

-- the lines of an outcome with such notes
plain_notes : (ns : List Note) → ArePlain ns → AllByRecursion (λ n. IsPlainLine (line.Note n)) ns
plain_notes [] plain = tt
plain_notes (n ∷ ns) plain = (plain.0, plain_notes ns plain.1)

plain_sends : (ss : List Send) → AllByRecursion (λ (x : Send). IsPlainLine (line.Send x.0 x.1)) ss
plain_sends [] = tt
plain_sends (x ∷ ss) = (tt, plain_sends ss)

pub plain_lines : (o : Outcome) → ArePlain o.notes → AllByRecursion IsPlainLine (lines_of o)
plain_lines o plain = each_line_of IsPlainLine o (plain_notes o.notes plain) (plain_sends o.sends)

pub well_judged : (e : Event) (o : Outcome) (p : Past) → IsWell (view p) → IsWell (view (judged e o.answer p))
well_judged e o p well = subst IsWell (sym (judged_view e o.answer p)) (answer_grows p e o.answer (view p) well).well

-- an event with such an outcome
pub plain_up : (e : Event) (o : Outcome) (p : Past) (t : TerminalNode) → ArePlain o.notes → IsWell (view p)
    → IsUp (answered (draft p.table e) (flight_at p.standing e) e o.answer (seen p)) t → IsUp (seen (after p (entry_with e o))) t
plain_up e o p t plain well is =
    lines_up (lines_of o) (judged e o.answer p) t (plain_lines o plain) (well_judged e o p well) (subst (λ s. IsUp s t) (sym (judged_seen e o.answer p)) is)
