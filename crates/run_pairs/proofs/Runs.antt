-- In each run the master and both secondary nodes keep to each other, and what comes first to a secondary node fits its anchors.
use Rattle.std.proofs.Common.{◌≡◌, ◌++◌, true, false, List, [], ◌∷◌, None, refl, sym, ap, subst}
use Rattle.dc_base.specs.Links.{link, link_number}
use Rattle.dc_base.specs.declared.events.Event.{Event}
use Rattle.dc_base.specs.declared.events.Header.{Header}
use Rattle.dc_base.specs.declared.flights.Flight.TheVariants as flight
use Rattle.dc_base.specs.declared.nodes.Class.TheVariants.{Ctl}
use Rattle.dc_base.specs.declared.nodes.LinkId.{LinkId}
use Rattle.dc_base.specs.declared.nodes.Node.{Node}
use Rattle.dc_base.specs.declared.nodes.Node.TheVariants.{A, B, M, T}
use Rattle.dc_base.specs.declared.records.Rec.{Rec}
use Rattle.node_rules.specs.Choices.{Choices}
use Rattle.node_rules.specs.MasterState.{waits_at}
use Rattle.node_rules.specs.Places.{is_at}
use Rattle.node_rules.specs.Run.{Happening, carried_on, given_to, happening, on_links, refused_for, world_after, world_step}
use Rattle.node_rules.specs.SecondStep.{second_step}
use Rattle.node_rules.specs.World.{World, new_world}
use Rattle.node_rules.specs.declared.commands.Membership.TheVariants.{Outside as outside}
use Rattle.node_rules.specs.declared.inputs.Input.TheVariants.{Come}
use Rattle.master_runs.proofs.Moving.{none_there}
use Rattle.run_control.specs.Claims.{FirstIs, rests, second_at}
use Rattle.run_control.specs.Links.{records_on, sent_on}
use Rattle.run_control.specs.SecondControl.{fits, records_sent}
use Rattle.run_control.specs.Sound.{AddsSecond, AreSound}
use Rattle.run_control.specs.Traffic.{came}
use Rattle.std.proofs.Common.{ℕ}
use Rattle.run_control.specs.SecondControl.{Views}
use Rattle.run_control.specs.Views.{second_view}
use Rattle.run_pairs.specs.Bearers.{IsFitLine}
use Rattle.run_pairs.specs.Fits.{IsViewBelow}
use Rattle.run_pairs.proofs.FitTurns.{bare_fits}
use Rattle.run_control.proofs.Links.{a_master, b_master, master_a, master_b}
use Rattle.run_control.proofs.NoLinks.{IsNoLink}
use Rattle.run_control.proofs.Records.{bare_records}
use Rattle.run_control.proofs.Runs.{AddsBy, event_adds}
use Rattle.run_control.proofs.Steps.{second_stepped}
use Rattle.run_control.proofs.Taken.{HasNone, IsRight, Takes, event_right, event_takes, left_by, records_in, takes_none, takes_one}
use Rattle.run_control.proofs.TalkRuns.{after_is, event_kept, new_kept, nothing_comes}
use Rattle.run_control.proofs.TalkSteps.{IsKept, no_happening}
use Rattle.run_pairs.specs.Apt.{IsApt}
use Rattle.run_pairs.specs.Fitting.{FitsFirst, FitsWhile}
use Rattle.run_pairs.specs.Pairs.{waiting_of}
use Rattle.run_pairs.proofs.Sending.{a_from_b, b_from_a}
use Rattle.run_pairs.proofs.Events.{PairedThen, in_refusal, on_neither, other_quiet, own_turn, to_master, to_terminal}
use Rattle.run_pairs.proofs.Pairing.{IsPaired}

-- ---- a state

-- the master and a secondary node, with the two lines between them, without what they say of the traffic
abbrev pub LinePaired : World → Node → Type 0
LinePaired w x = IsPaired x w.master.proc (second_at x w).proc.membership (second_at x w).proc.want (second_view (second_at x w)) (bare_records (records_on M x w)) (bare_records (records_on x M w))

-- with both
pub record ArePaired (w : World) : Type 0 where
  pub apt : IsApt w.master.proc
  pub a : LinePaired w A
  pub b : LinePaired w B

-- ---- an event

module _ (c : Choices) (w : World) (kept : IsKept w) (apt : IsApt w.master.proc) (down down' up up' : List Rec) where
  carried_a : (pair : IsPaired A w.master.proc w.a.proc.membership w.a.proc.want (second_view w.a) (bare_records down) (bare_records up)) (what : Happening)
      → Takes (link M A Ctl) what down down' → Takes (link A M Ctl) what up up' → ((l : LinkId) → IsNoLink l → HasNone l what) → IsRight what → AddsBy what → PairedThen c w kept apt A refl down down' up up' pair what
  carried_a pair (given_to T i) s t others right adds = to_terminal c w kept apt A refl down down' up up' pair i s t
  carried_a pair (given_to M i) s t others right adds = (to_master c w kept apt A refl down down' up up' pair i s t right adds).then'
  carried_a pair (given_to A i) s t others right adds = own_turn c w.master.proc apt w.a A refl kept.named.a kept.ordered.a down down' up up' pair i s t others right
  carried_a pair (given_to B i) (takes_none p none) (takes_none q none') others right adds =
      other_quiet c w kept apt A refl down down' up up' pair w.b B i (came (second_step c w.b i)) refl kept.named.b a_from_b (second_stepped c w.b i kept.ordered.b) p q
  carried_a pair (given_to B i) (takes_one r first is) t others right adds = absurd (no_happening (given_to B i) A B (Come (link M A Ctl) (flight.Ctl r)) is refl refl)
  carried_a pair (given_to B i) (takes_none p none) (takes_one r first is) others right adds = absurd (no_happening (given_to B i) M B (Come (link A M Ctl) (flight.Ctl r)) is refl refl)
  carried_a pair (refused_for why) s t others right adds = in_refusal c w kept apt A refl down down' up up' pair why s t
  carried_a pair (on_links effects) s t others right adds = on_neither c w kept apt A refl down down' up up' pair effects s t right

  carried_b : (pair : IsPaired B w.master.proc w.b.proc.membership w.b.proc.want (second_view w.b) (bare_records down) (bare_records up)) (what : Happening)
      → Takes (link M B Ctl) what down down' → Takes (link B M Ctl) what up up' → ((l : LinkId) → IsNoLink l → HasNone l what) → IsRight what → AddsBy what → PairedThen c w kept apt B refl down down' up up' pair what
  carried_b pair (given_to T i) s t others right adds = to_terminal c w kept apt B refl down down' up up' pair i s t
  carried_b pair (given_to M i) s t others right adds = (to_master c w kept apt B refl down down' up up' pair i s t right adds).then'
  carried_b pair (given_to B i) s t others right adds = own_turn c w.master.proc apt w.b B refl kept.named.b kept.ordered.b down down' up up' pair i s t others right
  carried_b pair (given_to A i) (takes_none p none) (takes_none q none') others right adds =
      other_quiet c w kept apt B refl down down' up up' pair w.a A i (came (second_step c w.a i)) refl kept.named.a b_from_a (second_stepped c w.a i kept.ordered.a) p q
  carried_b pair (given_to A i) (takes_one r first is) t others right adds = absurd (no_happening (given_to A i) B A (Come (link M B Ctl) (flight.Ctl r)) is refl refl)
  carried_b pair (given_to A i) (takes_none p none) (takes_one r first is) others right adds = absurd (no_happening (given_to A i) M A (Come (link B M Ctl) (flight.Ctl r)) is refl refl)
  carried_b pair (refused_for why) s t others right adds = in_refusal c w kept apt B refl down down' up up' pair why s t
  carried_b pair (on_links effects) s t others right adds = on_neither c w kept apt B refl down down' up up' pair effects s t right

  carried_apt : (pair : IsPaired A w.master.proc w.a.proc.membership w.a.proc.want (second_view w.a) (bare_records down) (bare_records up)) (what : Happening)
      → Takes (link M A Ctl) what down down' → Takes (link A M Ctl) what up up' → IsRight what → AddsBy what → IsApt (carried_on c w what).0.master.proc
  carried_apt pair (given_to T i) s t right adds = apt
  carried_apt pair (given_to M i) s t right adds = (to_master c w kept apt A refl down down' up up' pair i s t right adds).apt'
  carried_apt pair (given_to A i) s t right adds = apt
  carried_apt pair (given_to B i) s t right adds = apt
  carried_apt pair (refused_for why) s t right adds = apt
  carried_apt pair (on_links effects) s t right adds = apt

-- an event keeps both
pub event_paired : (c : Choices) (w : World) (e : Event) → AddsSecond e → IsKept w → ArePaired w → ArePaired (world_step c w e).0
event_paired c w e adds kept paired =
    let what = happening w e in
    let others = λ (l : LinkId) (none : IsNoLink l). nothing_comes c w e l none (kept.silent l none) in
    let adds' = event_adds w e adds in
    let right = event_right w e in
    let a_down = records_in (left_by c w (link M A Ctl) refl e what) in
    let a_up = records_in (left_by c w (link A M Ctl) refl e what) in
    let b_down = records_in (left_by c w (link M B Ctl) refl e what) in
    let b_up = records_in (left_by c w (link B M Ctl) refl e what) in
    let a_then = carried_a c w kept paired.apt (records_on M A w) a_down (records_on A M w) a_up paired.a what (event_takes c w (link M A Ctl) refl e) (event_takes c w (link A M Ctl) refl e) others right adds' in
    let b_then = carried_b c w kept paired.apt (records_on M B w) b_down (records_on B M w) b_up paired.b what (event_takes c w (link M B Ctl) refl e) (event_takes c w (link B M Ctl) refl e) others right adds' in
    let u = (carried_on c w what).0 in
    record {
      apt = carried_apt c w kept paired.apt (records_on M A w) a_down (records_on A M w) a_up paired.a what (event_takes c w (link M A Ctl) refl e) (event_takes c w (link A M Ctl) refl e) right adds';
      a = subst (λ rs. IsPaired A u.master.proc u.a.proc.membership u.a.proc.want (second_view u.a) rs (bare_records (records_on A M (world_step c w e).0))) (sym (after_is c w e (link M A Ctl) master_a refl refl kept.long kept.ordered))
          (subst (λ rs. IsPaired A u.master.proc u.a.proc.membership u.a.proc.want (second_view u.a) (bare_records a_down ++ records_in (sent_on (link M A Ctl) (records_sent (carried_on c w what).1.sends))) rs)
          (sym (after_is c w e (link A M Ctl) a_master refl refl kept.long kept.ordered)) a_then);
      b = subst (λ rs. IsPaired B u.master.proc u.b.proc.membership u.b.proc.want (second_view u.b) rs (bare_records (records_on B M (world_step c w e).0))) (sym (after_is c w e (link M B Ctl) master_b refl refl kept.long kept.ordered))
          (subst (λ rs. IsPaired B u.master.proc u.b.proc.membership u.b.proc.want (second_view u.b) (bare_records b_down ++ records_in (sent_on (link M B Ctl) (records_sent (carried_on c w what).1.sends))) rs)
          (sym (after_is c w e (link B M Ctl) b_master refl refl kept.long kept.ordered)) b_then);
    }

-- ---- a run

no_records : (h : Header) (x y : Node) → records_on x y (new_world h) ≡ []
no_records h x y = ap records_in (none_there 64 (link_number (link x y Ctl)) [])

no_views : (h : Header) (x : Node) (k : ℕ) → second_view (second_at x (new_world h)) k ≡ None
no_views h T k = refl
no_views h M k = refl
no_views h A k = refl
no_views h B k = refl

new_pair : (h : Header) (x : Node) (at : Views) → ((k : ℕ) → at k ≡ None) → is_at x None ≡ false → waits_at (new_world h).master.proc x ≡ false → IsPaired x (new_world h).master.proc outside None at [] []
new_pair h x at none away waits = record {
  stand = rests;
  stands = tt;
  pair = record {
    wants = None;
    owes = ap (λ b. (waiting_of b ++ []) ++ []) waits;
    reads = (refl, refl);
    line = tt;
    answers = refl;
    down_within = tt;
    up_within = tt;
  };
  fitting = record { line = tt; held = λ k. tt; moved = tt; up_below = tt; at_below = λ k. subst (IsViewBelow 1) (sym (none k)) tt; down_below = tt };
  empty = λ out. none;
}

new_line : (h : Header) (x : Node) (at : Views) → IsPaired x (new_world h).master.proc outside None at [] [] → IsPaired x (new_world h).master.proc outside None at (bare_records (records_on M x (new_world h))) (bare_records (records_on x M (new_world h)))
new_line h x at pair =
    subst (λ rs. IsPaired x (new_world h).master.proc outside None at rs (bare_records (records_on x M (new_world h)))) (sym (ap bare_records (no_records h M x)))
    (subst (λ rs. IsPaired x (new_world h).master.proc outside None at [] rs) (sym (ap bare_records (no_records h x M))) pair)

-- in the first state
pub new_paired : (h : Header) → ArePaired (new_world h)
new_paired h = record {
  apt = record { second = tt; rows = λ id. tt; up = tt; command = tt };
  a = new_line h A (second_view (new_world h).a) (new_pair h A (second_view (new_world h).a) (no_views h A) refl refl);
  b = new_line h B (second_view (new_world h).b) (new_pair h B (second_view (new_world h).b) (no_views h B) refl refl);
}

-- in each state from one in which all is paired
pub run_paired : (c : Choices) (w : World) (es : List Event) → AreSound es → IsKept w → ArePaired w → ArePaired (world_after c w es)
run_paired c w [] sound kept paired = paired
run_paired c w (e ∷ es) sound kept paired = run_paired c (world_step c w e).0 es sound.1 (event_kept c w e sound.0 kept) (event_paired c w e sound.0 kept paired)

-- in each state of each run
pub paired_always : (c : Choices) (h : Header) (es : List Event) → AreSound es → ArePaired (world_after c (new_world h) es)
paired_always c h es sound = run_paired c (new_world h) es sound (new_kept h) (new_paired h)

-- ---- what comes first fits

first_fits : (x : Node) (views : Views) (rs : List Rec) → IsFitLine x views (bare_records rs) → FirstIs (λ r. fits x views r ≡ true) rs
first_fits x views [] line = tt
first_fits x views (r ∷ rs) line = bare_fits x views r line.0

fits_first : (w : World) → ArePaired w → FitsFirst w
fits_first w paired T second = absurd cc
fits_first w paired M second = absurd cc
fits_first w paired A second = first_fits A (second_view w.a) (records_on M A w) paired.a.fitting.line
fits_first w paired B second = first_fits B (second_view w.b) (records_on M B w) paired.b.fitting.line

fits_on_run : (c : Choices) (w : World) (es : List Event) → AreSound es → IsKept w → ArePaired w → FitsWhile c w es
fits_on_run c w [] sound kept paired = tt
fits_on_run c w (e ∷ es) sound kept paired = (fits_first w paired, fits_on_run c (world_step c w e).0 es sound.1 (event_kept c w e sound.0 kept) (event_paired c w e sound.0 kept paired))

-- in each run, what comes first to a secondary node fits its anchors
pub fits_always : (c : Choices) (h : Header) (es : List Event) → AreSound es → FitsWhile c (new_world h) es
fits_always c h es sound = fits_on_run c (new_world h) es sound (new_kept h) (new_paired h)

-- and so in its last state
pub fits_last : (c : Choices) (h : Header) (es : List Event) → AreSound es → FitsFirst (world_after c (new_world h) es)
fits_last c h es sound = fits_first (world_after c (new_world h) es) (paired_always c h es sound)
