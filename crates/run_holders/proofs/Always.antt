-- In each run a node with an active anchor of a bearer is its holder by the past; what it gives away it held, and so it is with what an
-- uplink hands up.
use Rattle.std.proofs.Common.{ℕ, ◌≡◌, List, [], ◌∷◌, refl}
use Rattle.std.specs.List.{AllByRecursion}
use Rattle.dc_base.specs.declared.events.Event.{Event}
use Rattle.dc_base.specs.declared.events.Header.{Header}
use Rattle.dc_base.specs.declared.nodes.Node.TheVariants.{A, B, M, T}
use Rattle.node_rules.specs.Choices.{Choices}
use Rattle.node_rules.specs.Run.{Happening, entries_from, given_to, happening, on_links, refused_for, world_after, world_step}
use Rattle.node_rules.specs.World.{World, new_world}
use Rattle.claims.specs.Claim.{Each}
use Rattle.claims.specs.Names.{claim, holder}
use Rattle.claims.specs.Noted.{after, past}
use Rattle.claims.specs.Past.{Past, new_past}
use Rattle.run_control.specs.Sound.{AddsSecond}
use Rattle.run_words.specs.Parts.{at_lines}
use Rattle.run_holders.specs.LeftOver.{HappensWell, RunsWell}
use Rattle.run_holders.specs.Lines.{is_give_line, is_handing_line}
use Rattle.run_holders.specs.Suited.{AllHold}
use Rattle.run_holders.proofs.LeftOver.{all_hold_well, gives_well, hands_well}
use Rattle.run_holders.proofs.MasterWell.{Known, known_new, known_next, master_well}
use Rattle.run_holders.proofs.SecondWell.{second_well_a, second_well_b}
use Rattle.run_holders.proofs.SecondWellAlways.{AreEstablished, established_new, established_next}

-- what is known of a moment of a run
record Stands (c : Choices) (p : Past) (w : World) : Type 0 where
  known : Known c p w
  established : AreEstablished p w

happens_well : (c : Choices) (p : Past) (w : World) (e : Event) → AddsSecond e → Stands c p w → (h : Happening) → happening w e ≡ h → HappensWell c p w e h
happens_well c p w e adds s (given_to T i) is = tt
happens_well c p w e adds s (given_to M i) is = master_well c p w e adds s.known i is
happens_well c p w e adds s (given_to A i) is = second_well_a c p w e i s.established (s.known.whole [] tt) is
happens_well c p w e adds s (given_to B i) is = second_well_b c p w e i s.established (s.known.whole [] tt) is
happens_well c p w e adds s (refused_for why) is = tt
happens_well c p w e adds s (on_links effects) is = tt

well_on : (c : Choices) (es : List Event) → AllByRecursion AddsSecond es → (w : World) (p : Past) → Stands c p w → RunsWell c p w es
well_on c [] adds w p s = tt
well_on c (e ∷ es) adds w p s = (
  happens_well c p w e adds.0 s (happening w e) refl,
  well_on c es adds.1 (world_step c w e).0 (after p (world_step c w e).1)
      (record { known = known_next c p w e adds.0 s.known; established = established_next c w p e adds.0 s.established }),
)

-- the lines of each step meet what they have to
pub runs_well : (c : Choices) (h : Header) (policies : ℕ) (es : List Event) → AllByRecursion AddsSecond es → RunsWell c (new_past h policies) (new_world h) es
runs_well c h policies es adds = well_on c es adds (new_world h) (new_past h policies) (record { known = known_new c h policies; established = established_new c h policies })

-- so each node holds, by the past, what it has an active anchor of
pub all_hold_always : (c : Choices) (h : Header) (policies : ℕ) (es : List Event) → AllByRecursion AddsSecond es
    → AllHold (past h policies (entries_from c (new_world h) es)) (world_after c (new_world h) es)
all_hold_always c h policies es adds = all_hold_well c h policies es adds (runs_well c h policies es adds)

-- each `give` is the holder's
pub gives_by_holder : (c : Choices) (h : Header) (policies : ℕ) (es : List Event) → AllByRecursion AddsSecond es
    → Each (at_lines is_give_line (claim holder)) (new_past h policies) (entries_from c (new_world h) es)
gives_by_holder c h policies es adds = gives_well c h policies es adds (runs_well c h policies es adds)

-- and each `up` of an uplink payload
pub hands_by_holder : (c : Choices) (h : Header) (policies : ℕ) (es : List Event) → AllByRecursion AddsSecond es
    → Each (at_lines is_handing_line (claim holder)) (new_past h policies) (entries_from c (new_world h) es)
hands_by_holder c h policies es adds = hands_well c h policies es adds (runs_well c h policies es adds)
