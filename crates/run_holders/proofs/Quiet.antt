-- A step that says nothing of anchors suits the past by the anchors that are active after it: so where bearers are dropped.
use Rattle.std.proofs.Common.{◌≡◌, ◌∙◌, false, List, [], ◌∷◌, Some, refl, sym, ap, subst}
use Rattle.std.specs.List.{AllByRecursion}
use Rattle.std.specs.Prelude.{fold}
use Rattle.dc_base.specs.Nodes.{is_same_node}
use Rattle.dc_base.specs.declared.events.Event.{Event}
use Rattle.dc_base.specs.declared.events.Line.{Line}
use Rattle.dc_base.specs.declared.events.Line.TheVariants as line
use Rattle.dc_base.specs.declared.events.Note.TheVariants as note
use Rattle.dc_base.specs.declared.nodes.Node.{Node}
use Rattle.dc_base.specs.declared.nodes.Node.TheVariants.{A, B, M}
use Rattle.node_rules.specs.Choices.{Choices}
use Rattle.node_rules.specs.Lines.{lines_of}
use Rattle.node_rules.specs.Run.{carried_on, given_to, happening}
use Rattle.node_rules.specs.World.{World}
use Rattle.node_rules.specs.declared.inputs.Input.{Input}
use Rattle.claims.specs.Judged.{judged}
use Rattle.claims.specs.Past.{Past}
use Rattle.run_places.proofs.Runs.{IsWhole}
use Rattle.run_holders.specs.Actives.{Actives, LineFits, LinesFit, Within, line_actives}
use Rattle.run_holders.specs.Fitting.{AllSuit, IsApart}
use Rattle.run_holders.specs.Lines.{IsQuiet}
use Rattle.run_holders.specs.Requests.{AskSecond}
use Rattle.run_holders.specs.Suited.{IsSuited, actives_at}
use Rattle.run_holders.specs.LeftOver.{TakesNone}
use Rattle.run_holders.proofs.JudgedHolds.{judged_holds}
use Rattle.run_holders.proofs.MasterBefore.{master_before}
use Rattle.run_holders.proofs.OneNode.{master_marks, second_marks}
use Rattle.run_holders.proofs.Runs.{Stands}
use Rattle.run_holders.proofs.TerminalSuited.{others_before, sets_none, taker}

-- ---- quiet lines

quiet_line : (l : Line) → IsQuiet l → (x : Node) (a : Actives) → LineFits x a l × (line_actives a l ≡ a)
quiet_line (line.Note (note.Own y id g)) quiet x a = absurd cc
quiet_line (line.Note (note.Give y id g)) quiet x a = absurd cc
quiet_line (line.Note (note.Up y id d count sdu)) quiet x a = absurd cc
quiet_line (line.Note (note.Begin w)) quiet x a = (tt, refl)
quiet_line (line.Note (note.Join y g)) quiet x a = (tt, refl)
quiet_line (line.Note (note.Leave y g)) quiet x a = (tt, refl)
quiet_line (line.Note (note.Set id g)) quiet x a = (tt, refl)
quiet_line (line.Note (note.Unset id)) quiet x a = (tt, refl)
quiet_line (line.Note (note.Freed id d count)) quiet x a = (tt, refl)
quiet_line (line.Note (note.Confirmed y)) quiet x a = (tt, refl)
quiet_line (line.Note (note.Refused y w)) quiet x a = (tt, refl)
quiet_line (line.Note note.Done) quiet x a = (tt, refl)
quiet_line (line.Note note.Rejected) quiet x a = (tt, refl)
quiet_line (line.Send l f) quiet x a = (tt, refl)
quiet_line (line.Event e) quiet x a = (tt, refl)
quiet_line (line.Answer r) quiet x a = (tt, refl)

quiet_all : (ls : List Line) → AllByRecursion IsQuiet ls → (x : Node) (a : Actives) → LinesFit x a ls × (fold line_actives a ls ≡ a)
quiet_all [] quiet x a = (tt, refl)
quiet_all (l ∷ ls) quiet x a =
    let one = quiet_line l quiet.0 x a in
    let more = quiet_all ls quiet.1 x a in
    ((one.0, subst (λ (z : Actives). LinesFit x z ls) (sym one.1) more.0), ap (λ (z : Actives). fold line_actives z ls) one.1 ∙ more.1)

-- what is active after them was so before
within_quiet : (ls : List Line) → AllByRecursion IsQuiet ls → (x : Node) (a b : Actives) → Within b (fold line_actives a ls) → Within b a
within_quiet ls quiet x a b is k g at = subst (λ (z : Actives). z k ≡ Some g) (quiet_all ls quiet x a).1 (is k g at)

same_within : (ls : List Line) → AllByRecursion IsQuiet ls → (x : Node) (a : Actives) → Within a (fold line_actives a ls)
same_within ls quiet x a k g at = subst (λ (z : Actives). z k ≡ Some g) (sym (quiet_all ls quiet x a).1) at

-- ---- steps

module _ (c : Choices) (p : Past) (w : World) (e : Event) (i : Input) (s : Stands p w) where
  -- of a secondary node, where nothing is active after it that the record drops which it takes
  pub quiet_a : happening w e ≡ given_to A i → TakesNone p A (actives_at A (carried_on c w (given_to A i)).0) e → AllByRecursion IsQuiet (lines_of (carried_on c w (given_to A i)).1)
      → AllSuit (judged e (carried_on c w (given_to A i)).1.answer p) (actives_at A (carried_on c w (given_to A i)).0) (lines_of (carried_on c w (given_to A i)).1)
      → ((y : Node) → is_same_node A y ≡ false → AllByRecursion (IsApart (actives_at y w)) (lines_of (carried_on c w (given_to A i)).1))
      → IsSuited p w e A (carried_on c w (given_to A i)).1 (carried_on c w (given_to A i)).0
  quiet_a is takes quiet suit apart =
      let o = (carried_on c w (given_to A i)).1 in
      let now = actives_at A (carried_on c w (given_to A i)).0 in
      let less = within_quiet (lines_of o) quiet A (actives_at A w) now (second_marks c w.a i s.ordered.a).after in
      record {
        start = now;
        begins = λ holds. judged_holds p e o.answer A now (sets_none w e A now (ap taker is) refl) takes (λ k g at. holds k g (less k g at));
        fit = (quiet_all (lines_of o) quiet A now).0;
        suit = suit;
        ends = same_within (lines_of o) quiet A now;
        others = λ y other holds. others_before p w e A i is refl o.answer y (actives_at y w) other holds;
        apart = apart;
      }

  pub quiet_b : happening w e ≡ given_to B i → TakesNone p B (actives_at B (carried_on c w (given_to B i)).0) e → AllByRecursion IsQuiet (lines_of (carried_on c w (given_to B i)).1)
      → AllSuit (judged e (carried_on c w (given_to B i)).1.answer p) (actives_at B (carried_on c w (given_to B i)).0) (lines_of (carried_on c w (given_to B i)).1)
      → ((y : Node) → is_same_node B y ≡ false → AllByRecursion (IsApart (actives_at y w)) (lines_of (carried_on c w (given_to B i)).1))
      → IsSuited p w e B (carried_on c w (given_to B i)).1 (carried_on c w (given_to B i)).0
  quiet_b is takes quiet suit apart =
      let o = (carried_on c w (given_to B i)).1 in
      let now = actives_at B (carried_on c w (given_to B i)).0 in
      let less = within_quiet (lines_of o) quiet B (actives_at B w) now (second_marks c w.b i s.ordered.b).after in
      record {
        start = now;
        begins = λ holds. judged_holds p e o.answer B now (sets_none w e B now (ap taker is) refl) takes (λ k g at. holds k g (less k g at));
        fit = (quiet_all (lines_of o) quiet B now).0;
        suit = suit;
        ends = same_within (lines_of o) quiet B now;
        others = λ y other holds. others_before p w e B i is refl o.answer y (actives_at y w) other holds;
        apart = apart;
      }

  -- of the master
  pub quiet_master : AskSecond w → IsWhole w → happening w e ≡ given_to M i → AllByRecursion IsQuiet (lines_of (carried_on c w (given_to M i)).1)
      → AllSuit (judged e (carried_on c w (given_to M i)).1.answer p) (actives_at M (carried_on c w (given_to M i)).0) (lines_of (carried_on c w (given_to M i)).1)
      → ((y : Node) → is_same_node M y ≡ false → AllByRecursion (IsApart (actives_at y w)) (lines_of (carried_on c w (given_to M i)).1))
      → IsSuited p w e M (carried_on c w (given_to M i)).1 (carried_on c w (given_to M i)).0
  quiet_master asks whole is quiet suit apart =
      let o = (carried_on c w (given_to M i)).1 in
      let now = actives_at M (carried_on c w (given_to M i)).0 in
      let less = within_quiet (lines_of o) quiet M (actives_at M w) now (master_marks c w.master i s.ordered.master).after in
      record {
        start = now;
        begins = λ holds k g at. master_before c p w s.holds.stands asks whole e i is M holds k g (less k g at);
        fit = (quiet_all (lines_of o) quiet M now).0;
        suit = suit;
        ends = same_within (lines_of o) quiet M now;
        others = λ y other holds. master_before c p w s.holds.stands asks whole e i is y holds;
        apart = apart;
      }
