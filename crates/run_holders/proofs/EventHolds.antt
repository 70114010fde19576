-- After the lines of an event each node holds, by the past, what it has an active anchor of.
use Rattle.std.proofs.Common.{◌≡◌, false, List, [], ◌∷◌, sym, subst}
use Rattle.std.specs.List.{AllByRecursion}
use Rattle.std.specs.Prelude.{fold}
use Rattle.dc_base.specs.Nodes.{is_same_node}
use Rattle.dc_base.specs.declared.events.Event.{Event}
use Rattle.dc_base.specs.declared.events.Line.{Line}
use Rattle.dc_base.specs.declared.nodes.Node.{Node}
use Rattle.node_rules.specs.Lines.{lines_of}
use Rattle.node_rules.specs.World.{World}
use Rattle.node_rules.specs.declared.inputs.Outcome.{Outcome}
use Rattle.claims.specs.Judged.{judged}
use Rattle.claims.specs.Noted.{noted}
use Rattle.claims.specs.Past.{Past}
use Rattle.run_holders.specs.Actives.{Actives, LinesFit, Within, line_actives}
use Rattle.run_holders.specs.Fitting.{HoldsAll, IsApart}
use Rattle.run_holders.specs.Suited.{AllHold, IsSuited, actives_at}
use Rattle.run_holders.proofs.HeldLines.{OrdersAsMaster, lines_hold, other_holds}
use Rattle.run_holders.proofs.NamesApart.{Descends, after_descends, apart_names, before_descends}

-- fewer are held too
pub fewer_held : (p : Past) (x : Node) (a b : Actives) → Within b a → HoldsAll p x a → HoldsAll p x b
fewer_held p x a b less holds k g at = holds k g (less k g at)

-- what another node holds stays so, after several lines
pub others_hold : (x y : Node) (b : Actives) → is_same_node x y ≡ false → (ls : List Line) (p : Past) (a : Actives) → Descends p → LinesFit x a ls → AllByRecursion (IsApart b) ls → AllByRecursion (OrdersAsMaster x) ls
    → HoldsAll p y b → HoldsAll (fold noted p ls) y b
others_hold x y b other [] p a down fit apart orders holds = holds
others_hold x y b other (l ∷ ls) p a down fit apart orders holds =
    others_hold x y b other ls (noted p l) (line_actives a l) (after_descends l p down) fit.1 apart.1 orders.1 (other_holds p x y a b l other (apart_names p down) fit.0 apart.0 orders.0 holds)

-- what a node and all others hold after a step of the node
module _ (p : Past) (w : World) (e : Event) (x : Node) (o : Outcome) (now : World) (is : IsSuited p w e x o now) (down : Descends (fold noted (judged e o.answer p) (lines_of o)))
    (orders : AllByRecursion (OrdersAsMaster x) (lines_of o)) (holds : AllHold p w) where
  pub itself : HoldsAll (fold noted (judged e o.answer p) (lines_of o)) x (actives_at x now)
  itself =
      fewer_held (fold noted (judged e o.answer p) (lines_of o)) x (fold line_actives is.start (lines_of o)) (actives_at x now) is.ends
      (lines_hold x (lines_of o) (judged e o.answer p) is.start is.fit is.suit (is.begins (holds x)))

  pub each_other : (y : Node) → is_same_node x y ≡ false → actives_at y now ≡ actives_at y w → HoldsAll (fold noted (judged e o.answer p) (lines_of o)) y (actives_at y now)
  each_other y other same =
      let q = judged e o.answer p in
      subst (HoldsAll (fold noted q (lines_of o)) y) (sym same)
      (others_hold x y (actives_at y w) other (lines_of o) q is.start (before_descends (lines_of o) q down) is.fit (is.apart y other) orders (is.others y other (holds y)))
