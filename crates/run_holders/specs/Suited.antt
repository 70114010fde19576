-- What the step of a node has to leave so, for each bearer to be held by the past where its anchor is active.
use Rattle.std.specs.List.{AllByRecursion}
use Rattle.std.specs.Prelude.{List, None, [], false, fold, ⊤, ◌≡◌, ◌∷◌}
use Rattle.dc_base.specs.Nodes.{is_same_node}
use Rattle.dc_base.specs.declared.events.Event.{Event}
use Rattle.dc_base.specs.declared.nodes.Node.{Node}
use Rattle.dc_base.specs.declared.nodes.Node.TheVariants.{A, B, M, T}
use Rattle.node_rules.specs.Choices.{Choices}
use Rattle.node_rules.specs.Lines.{lines_of}
use Rattle.node_rules.specs.Run.{Happening, carried_on, given_to, happening, on_links, refused_for, world_step}
use Rattle.node_rules.specs.World.{World}
use Rattle.node_rules.specs.declared.inputs.Outcome.{Outcome}
use Rattle.claims.specs.Judged.{judged}
use Rattle.claims.specs.Noted.{after}
use Rattle.claims.specs.Past.{Past}
use Rattle.run_holders.specs.Actives.{Actives, LinesFit, Within, line_actives, master_actives, second_actives}
use Rattle.run_holders.specs.Fitting.{AllSuit, HoldsAll, IsApart}

-- the active anchors of a node; the terminal has none
abbrev pub actives_at : Node → World → Actives
actives_at M w = master_actives w.master
actives_at A w = second_actives w.a
actives_at B w = second_actives w.b
actives_at T w = λ k. None

-- by the past each node holds what it has an active anchor of
abbrev pub AllHold : Past → World → Type 0
AllHold p w = (x : Node) → HoldsAll p x (actives_at x w)

-- a step of a node with its outcome: the event itself leaves these anchors held, which the lines fit and suit, and no other anchors of the
-- node are active after it; what other nodes hold the event leaves so, and no line says that the node has an active anchor of it
pub record IsSuited (p : Past) (w : World) (e : Event) (x : Node) (o : Outcome) (now : World) : Type 0 where
  pub start : Actives
  pub begins : HoldsAll p x (actives_at x w) → HoldsAll (judged e o.answer p) x start
  pub fit : LinesFit x start (lines_of o)
  pub suit : AllSuit (judged e o.answer p) start (lines_of o)
  pub ends : Within (actives_at x now) (fold line_actives start (lines_of o))
  pub others : (y : Node) → is_same_node x y ≡ false → HoldsAll p y (actives_at y w) → HoldsAll (judged e o.answer p) y (actives_at y w)
  pub apart : (y : Node) → is_same_node x y ≡ false → AllByRecursion (IsApart (actives_at y w)) (lines_of o)

-- so it is of what happens, where a node takes an input
abbrev pub HappensSuited : Choices → Past → World → Event → Happening → Type 0
HappensSuited c p w e (given_to x i) = IsSuited p w e x (carried_on c w (given_to x i)).1 (carried_on c w (given_to x i)).0
HappensSuited c p w e (refused_for why) = ⊤
HappensSuited c p w e (on_links effects) = ⊤

-- and of each event of a run
abbrev pub RunsSuited : Choices → Past → World → List Event → Type 0
RunsSuited c p w [] = ⊤
RunsSuited c p w (e ∷ es) = HappensSuited c p w e (happening w e) × RunsSuited c (after p (world_step c w e).1) (world_step c w e).0 es
