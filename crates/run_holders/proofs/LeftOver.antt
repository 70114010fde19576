-- What is left to show for the steps of a run to suit the past.
use Rattle.std.proofs.Common.{ℕ, ◌≡◌, List, [], ◌∷◌, refl, false, inl, inr}
use Rattle.std.specs.List.{AllByRecursion}
use Rattle.std.specs.Prelude.{⊤, ◌⊎◌}
use Rattle.dc_base.specs.Nodes.{is_same_node}
use Rattle.dc_base.specs.declared.events.Event.{Event}
use Rattle.dc_base.specs.declared.events.Header.{Header}
use Rattle.dc_base.specs.declared.nodes.Node.{Node}
use Rattle.dc_base.specs.declared.nodes.Node.TheVariants.{A, B, M, T}
use Rattle.node_rules.specs.Choices.{Choices}
use Rattle.node_rules.specs.Lines.{lines_of}
use Rattle.node_rules.specs.Run.{Happening, carried_on, entries_from, entry_with, given_to, happening, on_links, refused_for, world_after, world_step}
use Rattle.node_rules.specs.World.{World, new_world}
use Rattle.claims.specs.Claim.{Each}
use Rattle.claims.specs.Judged.{judged}
use Rattle.claims.specs.Names.{claim, holder}
use Rattle.claims.specs.Noted.{after, past}
use Rattle.claims.specs.Past.{Past, new_past}
use Rattle.run_control.specs.Sound.{AddsSecond}
use Rattle.run_places.proofs.Runs.{IsWhole, whole_always}
use Rattle.run_uplinks.proofs.Runs.{holds_next}
use Rattle.run_words.specs.Parts.{at_lines}
use Rattle.run_holders.specs.Fitting.{AllSuit, IsApart}
use Rattle.run_holders.specs.Lines.{IsQuiet, is_give_line, is_handing_line}
use Rattle.run_holders.specs.Owning.{OwnsWell}
use Rattle.run_holders.specs.Requests.{AskSecond}
use Rattle.run_holders.specs.Suited.{AllHold, HappensSuited, RunsSuited, actives_at}
use Rattle.run_holders.specs.LeftOver.{HappensWell, MasterLines, RunsWell, SecondLines}
use Rattle.run_holders.proofs.MasterBefore.{suited_master}
use Rattle.run_holders.proofs.NamesApart.{Descends, drawn_descends}
use Rattle.run_holders.proofs.OwnSuits.{all_apart}
use Rattle.run_holders.proofs.Quiet.{quiet_a, quiet_b, quiet_master}
use Rattle.run_holders.proofs.Requests.{asks_new, asks_next}
use Rattle.run_holders.proofs.Runs.{Stands, all_hold_if, gives_by_holder_if, hands_by_holder_if, stands_new, stands_next}
use Rattle.run_holders.proofs.SecondSuited.{suited_a, suited_b, suits_a, suits_b}
use Rattle.run_holders.proofs.TerminalSuited.{terminal_suited}

happens_suited : (c : Choices) (p : Past) (w : World) (e : Event) → Stands p w → AskSecond w → IsWhole w → (h : Happening) → happening w e ≡ h → Descends (after p (entry_with e (carried_on c w h).1))
    → HappensWell c p w e h → HappensSuited c p w e h
happens_suited c p w e s asks whole (given_to T i) is down well = terminal_suited c p w e i is
happens_suited c p w e s asks whole (given_to M i) is down (inl suit, apart) = suited_master c p w e i s asks whole is suit apart
happens_suited c p w e s asks whole (given_to M i) is down (inr (quiet, suit), apart) = quiet_master c p w e i s asks whole is quiet suit apart
happens_suited c p w e s asks whole (given_to A i) is down (inl takes, own) = suited_a c p w e i s is takes own down
happens_suited c p w e s asks whole (given_to A i) is down (inr (takes, quiet), own) =
    quiet_a c p w e i s is takes quiet (suits_a c p w e i s (actives_at A (carried_on c w (given_to A i)).0) own down)
    (λ y apart. all_apart (judged e (carried_on c w (given_to A i)).1.answer p) w A y (lines_of (carried_on c w (given_to A i)).1) apart own)
happens_suited c p w e s asks whole (given_to B i) is down (inl takes, own) = suited_b c p w e i s is takes own down
happens_suited c p w e s asks whole (given_to B i) is down (inr (takes, quiet), own) =
    quiet_b c p w e i s is takes quiet (suits_b c p w e i s (actives_at B (carried_on c w (given_to B i)).0) own down)
    (λ y apart. all_apart (judged e (carried_on c w (given_to B i)).1.answer p) w B y (lines_of (carried_on c w (given_to B i)).1) apart own)
happens_suited c p w e s asks whole (refused_for why) is down well = tt
happens_suited c p w e s asks whole (on_links effects) is down well = tt

-- after any events from here each anchor is in one place
abbrev StaysWhole : Choices → World → Type 0
StaysWhole c w = (es : List Event) → AllByRecursion AddsSecond es → IsWhole (world_after c w es)

suited_on : (c : Choices) (es : List Event) → AllByRecursion AddsSecond es → (w : World) (p : Past) → Stands p w → AskSecond w → StaysWhole c w → RunsWell c p w es → RunsSuited c p w es
suited_on c [] adds w p s asks whole well = tt
suited_on c (e ∷ es) adds w p s asks whole well =
    let down = drawn_descends (after p (world_step c w e).1) (holds_next c w p e adds.0 s.holds).up.drawn in
    let is = happens_suited c p w e s asks (whole [] tt) (happening w e) refl down well.0 in (
      is,
      suited_on c es adds.1 (world_step c w e).0 (after p (world_step c w e).1) (stands_next c w p e adds.0 s is)
          (asks_next c w e adds.0 s.right s.ordered s.holds.agreed.kept.sound asks) (λ fs more. whole (e ∷ fs) (adds.0, more)) well.1,
    )

-- such a run suits the past
pub suited_if : (c : Choices) (h : Header) (policies : ℕ) (es : List Event) → AllByRecursion AddsSecond es → RunsWell c (new_past h policies) (new_world h) es
    → RunsSuited c (new_past h policies) (new_world h) es
suited_if c h policies es adds well = suited_on c es adds (new_world h) (new_past h policies) (stands_new c h policies) (asks_new h) (λ fs more. whole_always c h fs more) well

-- so after it each node holds, by the past, what it has an active anchor of; each `give` is the holder's, and each `up` of an uplink
-- payload
pub all_hold_well : (c : Choices) (h : Header) (policies : ℕ) (es : List Event) → AllByRecursion AddsSecond es → RunsWell c (new_past h policies) (new_world h) es
    → AllHold (past h policies (entries_from c (new_world h) es)) (world_after c (new_world h) es)
all_hold_well c h policies es adds well = all_hold_if c h policies es adds (suited_if c h policies es adds well)

pub gives_well : (c : Choices) (h : Header) (policies : ℕ) (es : List Event) → AllByRecursion AddsSecond es → RunsWell c (new_past h policies) (new_world h) es
    → Each (at_lines is_give_line (claim holder)) (new_past h policies) (entries_from c (new_world h) es)
gives_well c h policies es adds well = gives_by_holder_if c h policies es adds (suited_if c h policies es adds well)

pub hands_well : (c : Choices) (h : Header) (policies : ℕ) (es : List Event) → AllByRecursion AddsSecond es → RunsWell c (new_past h policies) (new_world h) es
    → Each (at_lines is_handing_line (claim holder)) (new_past h policies) (entries_from c (new_world h) es)
hands_well c h policies es adds well = hands_by_holder_if c h policies es adds (suited_if c h policies es adds well)
