-- What each step of an anchor keeps is so of all anchors in every run.
use Rattle.std.specs.Prelude.{List, [], ◌∷◌}
use Rattle.dc_base.specs.declared.events.Event.{Event}
use Rattle.dc_base.specs.declared.events.Header.{Header}
use Rattle.dc_base.specs.declared.nodes.Node.TheVariants.{A, B, M, T}
use Rattle.node_rules.specs.Anchor.{AnchorState}
use Rattle.node_rules.specs.Choices.{Choices}
use Rattle.node_rules.specs.Run.{Happening, carried_on, given_to, happening, on_links, refused_for, world_after, world_step}
use Rattle.node_rules.specs.World.{World, new_world}
use Rattle.run_ordered.specs.Anchors.{AllAnchors, IsLaw}
use Rattle.run_ordered.specs.Windows.{IsWindowed}
use Rattle.run_ordered.proofs.MasterWalk.{master_walk}
use Rattle.run_ordered.proofs.SecondWalk.{second_walk}
use Rattle.run_ordered.proofs.Windowed.{windowed_law}

module _ (c : Choices) (P : AnchorState → Type 0) (law : IsLaw c P) where
  carried_law : (w : World) (h : Happening) → AllAnchors P w → AllAnchors P (carried_on c w h).0
  carried_law w (given_to T i) all = record { master = all.master; a = all.a; b = all.b }
  carried_law w (given_to M i) all = record { master = master_walk c P law w.master i all.master; a = all.a; b = all.b }
  carried_law w (given_to A i) all = record { master = all.master; a = second_walk c P law w.a i all.a; b = all.b }
  carried_law w (given_to B i) all = record { master = all.master; a = all.a; b = second_walk c P law w.b i all.b }
  carried_law w (refused_for why) all = all
  carried_law w (on_links effects) all = all

  pub law_next : (w : World) (e : Event) → AllAnchors P w → AllAnchors P (world_step c w e).0
  law_next w e all = let is = carried_law w (happening w e) all in record { master = is.master; a = is.a; b = is.b }

  law_on : (es : List Event) (w : World) → AllAnchors P w → AllAnchors P (world_after c w es)
  law_on [] w all = all
  law_on (e ∷ es) w all = law_on es (world_step c w e).0 (law_next w e all)

  -- in each state of each run
  pub law_always : (h : Header) (es : List Event) → AllAnchors P (world_after c (new_world h) es)
  law_always h es = law_on es (new_world h) (record { master = tt; a = tt; b = tt })

-- after any events: what each active anchor keeps ascends and lies below its next COUNT, which is at most a window past the least of
-- them, where the window is that of its sending entity
pub windowed_always : (c : Choices) (h : Header) (es : List Event) → AllAnchors IsWindowed (world_after c (new_world h) es)
windowed_always c h es = law_always c IsWindowed (windowed_law c) h es
