-- After a step of a node that lasts, that node and each other one has an active anchor of what it holds by the past.
use Rattle.std.proofs.Common.{◌≡◌, false, refl, sym, subst}
use Rattle.std.specs.Prelude.{fold}
use Rattle.dc_base.specs.Nodes.{is_same_node}
use Rattle.dc_base.specs.declared.events.Event.{Event}
use Rattle.dc_base.specs.declared.nodes.Node.{Node}
use Rattle.dc_base.specs.declared.nodes.Node.TheVariants.{A, B, M, T}
use Rattle.node_rules.specs.Choices.{Choices}
use Rattle.node_rules.specs.Lines.{lines_of}
use Rattle.node_rules.specs.Run.{carried_on, given_to}
use Rattle.node_rules.specs.World.{World}
use Rattle.node_rules.specs.declared.inputs.Input.{Input}
use Rattle.node_rules.specs.declared.inputs.Outcome.{Outcome}
use Rattle.claims.specs.Judged.{judged}
use Rattle.claims.specs.Noted.{noted}
use Rattle.claims.specs.Past.{Past}
use Rattle.run_holders.specs.Suited.{actives_at}
use Rattle.run_keepers.specs.Kept.{AllKeep, IsLasting, KeepsAll}
use Rattle.run_keepers.proofs.KeptEvents.{judged_keeps}
use Rattle.run_keepers.proofs.KeptRuns.{lines_keep, lines_keep_other}

module _ (p : Past) (w : World) (e : Event) (x : Node) (o : Outcome) (now : World) (is : IsLasting p w e x o now) (keeps : AllKeep p w) where
  itself : KeepsAll (fold noted (judged e o.answer p) (lines_of o)) x (actives_at x now)
  itself k g at =
      is.lasts k g (lines_keep x (lines_of o) (judged e o.answer p) (actives_at x w) is.fit is.own (judged_keeps p e o.answer x (actives_at x w) (keeps x)) k g at) at

  other : (y : Node) → is_same_node x y ≡ false → actives_at y now ≡ actives_at y w → KeepsAll (fold noted (judged e o.answer p) (lines_of o)) y (actives_at y now)
  other y apart same =
      subst (KeepsAll (fold noted (judged e o.answer p) (lines_of o)) y) (sym same)
      (lines_keep_other x y (lines_of o) (judged e o.answer p) (actives_at x w) (actives_at y w) apart is.fit is.own (judged_keeps p e o.answer y (actives_at y w) (keeps y)))

module _ (c : Choices) (p : Past) (w : World) (e : Event) (i : Input) (keeps : AllKeep p w) where
  -- where a node took an input
  pub given_keeps : (x : Node) → IsLasting p w e x (carried_on c w (given_to x i)).1 (carried_on c w (given_to x i)).0
      → AllKeep (fold noted (judged e (carried_on c w (given_to x i)).1.answer p) (lines_of (carried_on c w (given_to x i)).1)) (carried_on c w (given_to x i)).0
  given_keeps T is T = itself p w e T (carried_on c w (given_to T i)).1 (carried_on c w (given_to T i)).0 is keeps
  given_keeps T is M = other p w e T (carried_on c w (given_to T i)).1 (carried_on c w (given_to T i)).0 is keeps M refl refl
  given_keeps T is A = other p w e T (carried_on c w (given_to T i)).1 (carried_on c w (given_to T i)).0 is keeps A refl refl
  given_keeps T is B = other p w e T (carried_on c w (given_to T i)).1 (carried_on c w (given_to T i)).0 is keeps B refl refl
  given_keeps M is T = other p w e M (carried_on c w (given_to M i)).1 (carried_on c w (given_to M i)).0 is keeps T refl refl
  given_keeps M is M = itself p w e M (carried_on c w (given_to M i)).1 (carried_on c w (given_to M i)).0 is keeps
  given_keeps M is A = other p w e M (carried_on c w (given_to M i)).1 (carried_on c w (given_to M i)).0 is keeps A refl refl
  given_keeps M is B = other p w e M (carried_on c w (given_to M i)).1 (carried_on c w (given_to M i)).0 is keeps B refl refl
  given_keeps A is T = other p w e A (carried_on c w (given_to A i)).1 (carried_on c w (given_to A i)).0 is keeps T refl refl
  given_keeps A is M = other p w e A (carried_on c w (given_to A i)).1 (carried_on c w (given_to A i)).0 is keeps M refl refl
  given_keeps A is A = itself p w e A (carried_on c w (given_to A i)).1 (carried_on c w (given_to A i)).0 is keeps
  given_keeps A is B = other p w e A (carried_on c w (given_to A i)).1 (carried_on c w (given_to A i)).0 is keeps B refl refl
  given_keeps B is T = other p w e B (carried_on c w (given_to B i)).1 (carried_on c w (given_to B i)).0 is keeps T refl refl
  given_keeps B is M = other p w e B (carried_on c w (given_to B i)).1 (carried_on c w (given_to B i)).0 is keeps M refl refl
  given_keeps B is A = other p w e B (carried_on c w (given_to B i)).1 (carried_on c w (given_to B i)).0 is keeps A refl refl
  given_keeps B is B = itself p w e B (carried_on c w (given_to B i)).1 (carried_on c w (given_to B i)).0 is keeps
