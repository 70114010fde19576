-- A step of a secondary node suits the past: where each anchor that becomes active is of the latest establishment of its bearer and no
-- other node has an active one, and where the node takes no record that drops what it has an active anchor of.
use Rattle.std.proofs.Common.{◌≡◌, ◌==◌, true, false, List, [], ◌∷◌, refl, ap, subst}
use Rattle.std.specs.List.{AllByRecursion}
use Rattle.std.specs.Prelude.{fold, ◌||◌}
use Rattle.dc_base.specs.declared.events.Event.{Event}
use Rattle.dc_base.specs.declared.events.Line.TheVariants as line
use Rattle.dc_base.specs.declared.events.Note.{Note}
use Rattle.dc_base.specs.declared.events.Note.TheVariants as note
use Rattle.dc_base.specs.declared.nodes.Node.TheVariants.{A, B}
use Rattle.node_rules.specs.Choices.{Choices, Send}
use Rattle.node_rules.specs.Lines.{lines_of, place}
use Rattle.node_rules.specs.Run.{carried_on, given_to, happening}
use Rattle.node_rules.specs.World.{World}
use Rattle.node_rules.specs.declared.inputs.Input.{Input}
use Rattle.claims.specs.Judged.{judged}
use Rattle.claims.specs.Noted.{noted}
use Rattle.claims.specs.Past.{Past}
use Rattle.run_windows.proofs.Elsewhere.{AreUnseen, second_unseen}
use Rattle.run_words.proofs.Lines.{each_line_of}
use Rattle.run_holders.specs.Actives.{Actives, LinesFit}
use Rattle.run_holders.specs.Fitting.{AllSuit}
use Rattle.run_holders.specs.Owning.{OwnsWell, is_begin_line}
use Rattle.run_holders.specs.Suited.{IsSuited, actives_at}
use Rattle.run_holders.specs.LeftOver.{TakesNone}
use Rattle.run_holders.proofs.JudgedHolds.{judged_holds}
use Rattle.run_holders.proofs.NamesApart.{Descends, before_descends}
use Rattle.run_holders.proofs.OneNode.{second_marks}
use Rattle.run_holders.proofs.OwnSuits.{all_apart, all_suit}
use Rattle.run_holders.proofs.Runs.{Stands, as_master}
use Rattle.run_holders.proofs.TerminalSuited.{others_before, sets_none, taker}

-- ---- a secondary node begins no command

note_begins : (n : Note) → ((place n == 0) || (place n == 6)) ≡ false → is_begin_line (line.Note n) ≡ false
note_begins (note.Begin w) off = absurd (let bad : true ≡ false = off in cc)
note_begins (note.Join y g) off = refl
note_begins (note.Leave y g) off = refl
note_begins (note.Give y id g) off = refl
note_begins (note.Own y id g) off = refl
note_begins (note.Set id g) off = refl
note_begins (note.Unset id) off = refl
note_begins (note.Up y id d count sdu) off = refl
note_begins (note.Freed id d count) off = refl
note_begins (note.Confirmed y) off = refl
note_begins (note.Refused y v) off = refl
note_begins note.Done off = refl
note_begins note.Rejected off = refl

notes_begin : (ns : List Note) → AreUnseen ns → AllByRecursion (λ n. is_begin_line (line.Note n) ≡ false) ns
notes_begin [] unseen = tt
notes_begin (n ∷ ns) unseen = (note_begins n unseen.0.0, notes_begin ns unseen.1)

sends_begin : (ss : List Send) → AllByRecursion (λ (s : Send). is_begin_line (line.Send s.0 s.1) ≡ false) ss
sends_begin [] = tt
sends_begin (s ∷ ss) = (refl, sends_begin ss)

-- ---- its steps

module _ (c : Choices) (p : Past) (w : World) (e : Event) (i : Input) (s : Stands p w) where
  -- its lines suit the past, whatever is active
  pub suits_a : (z : Actives) → AllByRecursion (OwnsWell (judged e (carried_on c w (given_to A i)).1.answer p) w A) (lines_of (carried_on c w (given_to A i)).1)
      → Descends (fold noted (judged e (carried_on c w (given_to A i)).1.answer p) (lines_of (carried_on c w (given_to A i)).1))
      → AllSuit (judged e (carried_on c w (given_to A i)).1.answer p) z (lines_of (carried_on c w (given_to A i)).1)
  suits_a z own down =
      let o = (carried_on c w (given_to A i)).1 in
      let q = judged e o.answer p in
      let ls = lines_of o in
      all_suit w A refl ls q z (before_descends ls q down)
      (each_line_of (λ l. is_begin_line l ≡ false) o (notes_begin o.notes (second_unseen c w.a i)) (sends_begin o.sends)) (as_master c w s.right s.ordered A i) own

  pub suited_a : happening w e ≡ given_to A i → TakesNone p A (actives_at A w) e
      → AllByRecursion (OwnsWell (judged e (carried_on c w (given_to A i)).1.answer p) w A) (lines_of (carried_on c w (given_to A i)).1)
      → Descends (fold noted (judged e (carried_on c w (given_to A i)).1.answer p) (lines_of (carried_on c w (given_to A i)).1))
      → IsSuited p w e A (carried_on c w (given_to A i)).1 (carried_on c w (given_to A i)).0
  suited_a is takes own down =
      let o = (carried_on c w (given_to A i)).1 in
      let q = judged e o.answer p in
      let ls = lines_of o in
      let marks = second_marks c w.a i s.ordered.a in
      record {
        start = actives_at A w;
        begins = λ holds. judged_holds p e o.answer A (actives_at A w) (sets_none w e A (actives_at A w) (ap taker is) refl) takes holds;
        fit = subst (λ z. LinesFit z (actives_at A w) ls) s.right.there.a.name marks.fit;
        suit = suits_a (actives_at A w) own down;
        ends = marks.after;
        others = λ y apart holds. others_before p w e A i is refl o.answer y (actives_at y w) apart holds;
        apart = λ y apart. all_apart q w A y ls apart own;
      }

  -- its lines suit the past, whatever is active
  pub suits_b : (z : Actives) → AllByRecursion (OwnsWell (judged e (carried_on c w (given_to B i)).1.answer p) w B) (lines_of (carried_on c w (given_to B i)).1)
      → Descends (fold noted (judged e (carried_on c w (given_to B i)).1.answer p) (lines_of (carried_on c w (given_to B i)).1))
      → AllSuit (judged e (carried_on c w (given_to B i)).1.answer p) z (lines_of (carried_on c w (given_to B i)).1)
  suits_b z own down =
      let o = (carried_on c w (given_to B i)).1 in
      let q = judged e o.answer p in
      let ls = lines_of o in
      all_suit w B refl ls q z (before_descends ls q down)
      (each_line_of (λ l. is_begin_line l ≡ false) o (notes_begin o.notes (second_unseen c w.b i)) (sends_begin o.sends)) (as_master c w s.right s.ordered B i) own

  pub suited_b : happening w e ≡ given_to B i → TakesNone p B (actives_at B w) e
      → AllByRecursion (OwnsWell (judged e (carried_on c w (given_to B i)).1.answer p) w B) (lines_of (carried_on c w (given_to B i)).1)
      → Descends (fold noted (judged e (carried_on c w (given_to B i)).1.answer p) (lines_of (carried_on c w (given_to B i)).1))
      → IsSuited p w e B (carried_on c w (given_to B i)).1 (carried_on c w (given_to B i)).0
  suited_b is takes own down =
      let o = (carried_on c w (given_to B i)).1 in
      let q = judged e o.answer p in
      let ls = lines_of o in
      let marks = second_marks c w.b i s.ordered.b in
      record {
        start = actives_at B w;
        begins = λ holds. judged_holds p e o.answer B (actives_at B w) (sets_none w e B (actives_at B w) (ap taker is) refl) takes holds;
        fit = subst (λ z. LinesFit z (actives_at B w) ls) s.right.there.b.name marks.fit;
        suit = suits_b (actives_at B w) own down;
        ends = marks.after;
        others = λ y apart holds. others_before p w e B i is refl o.answer y (actives_at y w) apart holds;
        apart = λ y apart. all_apart q w B y ls apart own;
      }
