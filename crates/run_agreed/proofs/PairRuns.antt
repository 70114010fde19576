-- Each event of a run is such a step of each pair of the master and a secondary node.
use Rattle.std.proofs.Common.{◌≡◌, ◌++◌, true, List, [], refl, sym, ap, subst, ◌∙◌}
use Rattle.dc_base.specs.Links.{link}
use Rattle.dc_base.specs.Nodes.{is_secondary}
use Rattle.dc_base.specs.declared.events.Event.{Event}
use Rattle.dc_base.specs.declared.nodes.Class.TheVariants.{Ctl}
use Rattle.dc_base.specs.declared.nodes.LinkId.{LinkId}
use Rattle.dc_base.specs.declared.nodes.Node.{Node}
use Rattle.dc_base.specs.declared.nodes.Node.TheVariants.{A, B, M, T}
use Rattle.dc_base.specs.declared.records.Rec.{Rec}
use Rattle.node_rules.specs.Choices.{Choices, Send}
use Rattle.node_rules.specs.Run.{Happening, carried_on, given_to, happening, on_links, refused_for, world_step}
use Rattle.node_rules.specs.SecondStep.{second_step}
use Rattle.node_rules.specs.Terminal.{terminal_step}
use Rattle.node_rules.specs.World.{World, flights_on}
use Rattle.run_control.specs.Links.{records_on, sent_on}
use Rattle.run_control.specs.SecondControl.{records_sent}
use Rattle.run_control.specs.Traffic.{came}
use Rattle.run_control.specs.Views.{is_control}
use Rattle.run_control.proofs.Links.{IsControlLink, a_master, b_master, master_a, master_b}
use Rattle.run_control.proofs.Names.{IsAway, second_apart}
use Rattle.run_control.proofs.NoLinks.{IsNoLink}
use Rattle.run_control.proofs.Records.{bare_flights, bare_records, sent_bare}
use Rattle.run_control.proofs.Steps.{second_stepped, terminal_stepped}
use Rattle.run_control.proofs.Taken.{HasNone, IsRight, Takes, event_right, event_takes, left_by, records_in}
use Rattle.run_control.proofs.TalkRuns.{after_is, nothing_comes}
use Rattle.run_control.proofs.TalkSteps.{IsKept}
use Rattle.run_agreed.specs.Lines.{Pair, PairStep, pair_at, spoken}
use Rattle.run_agreed.proofs.PairParts.{terminal_apart}
use Rattle.run_agreed.proofs.PairSteps.{elsewhere, other_down, other_up, pair_same, terminal_down, terminal_up, to_master, to_second}
use Rattle.run_agreed.proofs.Spoken.{heard_on, spoken_append, spoken_bare}

-- the line after an event
line_is : (c : Choices) (w : World) (e : Event) (l : LinkId) → IsControlLink l → (control : l.class ≡ Ctl) → is_control l.class ≡ true → IsKept w
    → spoken (records_in (flights_on l (world_step c w e).0.links)) ≡ spoken (records_in (left_by c w l control e (happening w e))) ++ heard_on l (records_sent (carried_on c w (happening w e)).1.sends)
line_is c w e l one control is kept =
    let sends = (carried_on c w (happening w e)).1.sends in
    let left = records_in (left_by c w l control e (happening w e)) in
    sym (spoken_bare (records_in (flights_on l (world_step c w e).0.links))) ∙ ap spoken (after_is c w e l one control is kept.long kept.ordered)
    ∙ spoken_append (bare_records left) (records_in (sent_on l (records_sent sends))) ∙ ap (λ rs. rs ++ heard_on l (records_sent sends)) (spoken_bare left)

-- what is put on links alone is on no control link
links_none : (l : LinkId) (sends : List Send) → is_control l.class ≡ true → sent_on l sends ≡ [] → sent_on l (records_sent sends) ≡ []
links_none l sends is none = sent_bare l is sends ∙ ap bare_flights none

module _ (c : Choices) (w : World) (kept : IsKept w) (d d' u u' : List Rec) where
  -- the pair with the one secondary node
  abbrev AfterA : Happening → Type 0
  AfterA what =
      let done = carried_on c w what in
      PairStep A (record { m = w.master.proc; down = spoken d; up = spoken u; s = w.a.proc })
      (record { m = done.0.master.proc; down = spoken d' ++ heard_on (link M A Ctl) (records_sent done.1.sends); up = spoken u' ++ heard_on (link A M Ctl) (records_sent done.1.sends); s = done.0.a.proc })

  pub carried_a : (what : Happening) → Takes (link M A Ctl) what d d' → Takes (link A M Ctl) what u u' → ((l : LinkId) → IsNoLink l → HasNone l what) → IsRight what → AfterA what
  carried_a (given_to T i) s t others right =
      let done = came (terminal_step c w.terminal i) in
      let stepped = terminal_stepped c w.terminal i kept.ordered.terminal in
      elsewhere c w kept A refl w.a d d' u u' (given_to T i) done.1.sends (λ j e. absurd cc) (λ j e. absurd cc) s t
      (terminal_apart (link M A Ctl) (terminal_down A refl) w.terminal i done stepped) (terminal_apart (link A M Ctl) (terminal_up A refl) w.terminal i done stepped)
  carried_a (given_to M i) s t others right = to_master c w kept A refl w.a d d' u u' i s t right
  carried_a (given_to A i) s t others right = to_second c w kept A refl w.a d d' u u' kept.named.a i kept.ordered.a s t others right
  carried_a (given_to B i) s t others right =
      let done = came (second_step c w.b i) in
      let stepped = second_stepped c w.b i kept.ordered.b in
      elsewhere c w kept A refl w.a d d' u u' (given_to B i) done.1.sends (λ j e. absurd cc) (λ j e. absurd cc) s t
      (second_apart w.b i (link M A Ctl) done (subst (λ me. IsAway me (link M A Ctl)) (sym kept.named.b) (other_down A B (refl, refl, refl))) stepped)
      (second_apart w.b i (link A M Ctl) done (subst (λ me. IsAway me (link A M Ctl)) (sym kept.named.b) (other_up A B (refl, refl, refl))) stepped)
  carried_a (refused_for why) s t others right = elsewhere c w kept A refl w.a d d' u u' (refused_for why) [] (λ j e. absurd cc) (λ j e. absurd cc) s t refl refl
  carried_a (on_links effects) s t others right =
      elsewhere c w kept A refl w.a d d' u u' (on_links effects) effects.sends (λ j e. absurd cc) (λ j e. absurd cc) s t
      (links_none (link M A Ctl) effects.sends refl (right (link M A Ctl) refl)) (links_none (link A M Ctl) effects.sends refl (right (link A M Ctl) refl))

  -- and with the other
  abbrev AfterB : Happening → Type 0
  AfterB what =
      let done = carried_on c w what in
      PairStep B (record { m = w.master.proc; down = spoken d; up = spoken u; s = w.b.proc })
      (record { m = done.0.master.proc; down = spoken d' ++ heard_on (link M B Ctl) (records_sent done.1.sends); up = spoken u' ++ heard_on (link B M Ctl) (records_sent done.1.sends); s = done.0.b.proc })

  pub carried_b : (what : Happening) → Takes (link M B Ctl) what d d' → Takes (link B M Ctl) what u u' → ((l : LinkId) → IsNoLink l → HasNone l what) → IsRight what → AfterB what
  carried_b (given_to T i) s t others right =
      let done = came (terminal_step c w.terminal i) in
      let stepped = terminal_stepped c w.terminal i kept.ordered.terminal in
      elsewhere c w kept B refl w.b d d' u u' (given_to T i) done.1.sends (λ j e. absurd cc) (λ j e. absurd cc) s t
      (terminal_apart (link M B Ctl) (terminal_down B refl) w.terminal i done stepped) (terminal_apart (link B M Ctl) (terminal_up B refl) w.terminal i done stepped)
  carried_b (given_to M i) s t others right = to_master c w kept B refl w.b d d' u u' i s t right
  carried_b (given_to A i) s t others right =
      let done = came (second_step c w.a i) in
      let stepped = second_stepped c w.a i kept.ordered.a in
      elsewhere c w kept B refl w.b d d' u u' (given_to A i) done.1.sends (λ j e. absurd cc) (λ j e. absurd cc) s t
      (second_apart w.a i (link M B Ctl) done (subst (λ me. IsAway me (link M B Ctl)) (sym kept.named.a) (other_down B A (refl, refl, refl))) stepped)
      (second_apart w.a i (link B M Ctl) done (subst (λ me. IsAway me (link B M Ctl)) (sym kept.named.a) (other_up B A (refl, refl, refl))) stepped)
  carried_b (given_to B i) s t others right = to_second c w kept B refl w.b d d' u u' kept.named.b i kept.ordered.b s t others right
  carried_b (refused_for why) s t others right = elsewhere c w kept B refl w.b d d' u u' (refused_for why) [] (λ j e. absurd cc) (λ j e. absurd cc) s t refl refl
  carried_b (on_links effects) s t others right =
      elsewhere c w kept B refl w.b d d' u u' (on_links effects) effects.sends (λ j e. absurd cc) (λ j e. absurd cc) s t
      (links_none (link M B Ctl) effects.sends refl (right (link M B Ctl) refl)) (links_none (link B M Ctl) effects.sends refl (right (link B M Ctl) refl))

-- ---- an event

event_a : (c : Choices) (w : World) (e : Event) → IsKept w → PairStep A (pair_at A w) (pair_at A (world_step c w e).0)
event_a c w e kept =
    let what = happening w e in
    let left_down = records_in (left_by c w (link M A Ctl) refl e what) in
    let left_up = records_in (left_by c w (link A M Ctl) refl e what) in
    let step = carried_a c w kept (records_on M A w) left_down (records_on A M w) left_up what (event_takes c w (link M A Ctl) refl e) (event_takes c w (link A M Ctl) refl e)
    (λ l none. nothing_comes c w e l none (kept.silent l none)) (event_right w e) in
    subst (λ (b : Pair). PairStep A (pair_at A w) b) (pair_same refl (sym (line_is c w e (link M A Ctl) master_a refl refl kept)) (sym (line_is c w e (link A M Ctl) a_master refl refl kept)) refl) step

event_b : (c : Choices) (w : World) (e : Event) → IsKept w → PairStep B (pair_at B w) (pair_at B (world_step c w e).0)
event_b c w e kept =
    let what = happening w e in
    let left_down = records_in (left_by c w (link M B Ctl) refl e what) in
    let left_up = records_in (left_by c w (link B M Ctl) refl e what) in
    let step = carried_b c w kept (records_on M B w) left_down (records_on B M w) left_up what (event_takes c w (link M B Ctl) refl e) (event_takes c w (link B M Ctl) refl e)
    (λ l none. nothing_comes c w e l none (kept.silent l none)) (event_right w e) in
    subst (λ (b : Pair). PairStep B (pair_at B w) b) (pair_same refl (sym (line_is c w e (link M B Ctl) master_b refl refl kept)) (sym (line_is c w e (link B M Ctl) b_master refl refl kept)) refl) step

-- each event is a step of each pair
pub event_pair : (c : Choices) (w : World) (e : Event) → IsKept w → (x : Node) → is_secondary x ≡ true → PairStep x (pair_at x w) (pair_at x (world_step c w e).0)
event_pair c w e kept A second = event_a c w e kept
event_pair c w e kept B second = event_b c w e kept
event_pair c w e kept T second = absurd cc
event_pair c w e kept M second = absurd cc
