-- In each run each bearer is held at most once, and is where the open command has it be.
use Rattle.std.proofs.Common.{ℕ, ◌≡◌, ◌≤◌, ◌+◌, ◌++◌, List, [], ◌∷◌, refl, sym, ap, subst, arith}
use Rattle.dc_base.specs.Links.{link, link_number}
use Rattle.dc_base.specs.declared.events.Event.{Event}
use Rattle.dc_base.specs.declared.events.Header.{Header}
use Rattle.dc_base.specs.declared.nodes.Class.TheVariants.{Ctl}
use Rattle.dc_base.specs.declared.nodes.LinkId.{LinkId}
use Rattle.dc_base.specs.declared.nodes.Node.{Node}
use Rattle.dc_base.specs.declared.nodes.Node.TheVariants.{A, B, M, T}
use Rattle.dc_base.specs.declared.records.Rec.{Rec}
use Rattle.node_rules.specs.Choices.{Choices}
use Rattle.node_rules.specs.Run.{Happening, carried_on, given_to, happening, on_links, refused_for, world_after, world_step}
use Rattle.node_rules.specs.World.{World, new_world}
use Rattle.master_runs.proofs.Moving.{none_there}
use Rattle.run_control.specs.Links.{records_on}
use Rattle.run_control.specs.SecondControl.{records_sent}
use Rattle.run_control.specs.Sound.{AddsSecond, AreSound}
use Rattle.run_control.specs.Views.{master_view, second_view}
use Rattle.run_control.proofs.Links.{a_master, b_master, master_a, master_b}
use Rattle.run_control.proofs.NoLinks.{IsNoLink}
use Rattle.run_control.proofs.Records.{bare_records}
use Rattle.run_control.proofs.Runs.{AddsBy, event_adds}
use Rattle.run_control.proofs.Taken.{HasNone, IsRight, Takes, event_right, event_takes, left_by, records_in}
use Rattle.run_control.proofs.TalkRuns.{after_is, event_kept, new_kept, nothing_comes}
use Rattle.run_control.proofs.TalkSteps.{IsKept}
use Rattle.run_pairs.proofs.Putting.{heard_of}
use Rattle.run_pairs.proofs.Runs.{ArePaired, event_paired, new_paired}
use Rattle.run_pairs.proofs.SecondWords.{told_of}
use Rattle.run_places.specs.Places.{IsPlaced}
use Rattle.run_places.specs.Tokens.{tokens}
use Rattle.run_places.proofs.Counting.{bare_statuses}
use Rattle.run_places.proofs.Events.{Then, in_refusal, on_neither, to_a, to_b, to_master, to_terminal}
use Rattle.run_places.proofs.Placing.{placed}
use Rattle.run_places.proofs.Whole.{Whole}

-- ---- a state

-- what is kept of all bearers, by the nodes of a state and the lines between them
abbrev pub IsWhole : World → Type 0
IsWhole w =
    Whole w.master.proc (master_view w.master) (second_view w.a) (second_view w.b) (bare_records (records_on M A w)) (bare_records (records_on A M w)) (bare_records (records_on M B w)) (bare_records (records_on B M w))

-- ---- an event

module _ (c : Choices) (w : World) (kept : IsKept w) (paired : ArePaired w) (whole : IsWhole w) (ad' au' bd' bu' : List Rec) where
  abbrev WholeThen' : Happening → Type 0
  WholeThen' what =
      Then c w kept paired.apt (records_on M A w) ad' (records_on A M w) au' (records_on M B w) bd' (records_on B M w) bu' paired.a paired.b whole what

  carried_whole : (what : Happening) → Takes (link M A Ctl) what (records_on M A w) ad' → Takes (link A M Ctl) what (records_on A M w) au' → Takes (link M B Ctl) what (records_on M B w) bd' → Takes (link B M Ctl) what (records_on B M w) bu'
      → ((l : LinkId) → IsNoLink l → HasNone l what) → IsRight what → AddsBy what → WholeThen' what
  carried_whole (given_to T i) s t s' t' others right adds = to_terminal c w kept paired.apt (records_on M A w) ad' (records_on A M w) au' (records_on M B w) bd' (records_on B M w) bu' paired.a paired.b whole i s t s' t'
  carried_whole (given_to M i) s t s' t' others right adds = to_master c w kept paired.apt (records_on M A w) ad' (records_on A M w) au' (records_on M B w) bd' (records_on B M w) bu' paired.a paired.b whole i s t s' t' right adds
  carried_whole (given_to A i) s t s' t' others right adds = to_a c w kept paired.apt (records_on M A w) ad' (records_on A M w) au' (records_on M B w) bd' (records_on B M w) bu' paired.a paired.b whole i s t s' t' others right
  carried_whole (given_to B i) s t s' t' others right adds = to_b c w kept paired.apt (records_on M A w) ad' (records_on A M w) au' (records_on M B w) bd' (records_on B M w) bu' paired.a paired.b whole i s t s' t' others right
  carried_whole (refused_for why) s t s' t' others right adds = in_refusal c w kept paired.apt (records_on M A w) ad' (records_on A M w) au' (records_on M B w) bd' (records_on B M w) bu' paired.a paired.b whole why s t s' t'
  carried_whole (on_links effects) s t s' t' others right adds = on_neither c w kept paired.apt (records_on M A w) ad' (records_on A M w) au' (records_on M B w) bd' (records_on B M w) bu' paired.a paired.b whole effects s t s' t' right

event_whole : (c : Choices) (w : World) (e : Event) → AddsSecond e → IsKept w → ArePaired w → IsWhole w → IsWhole (world_step c w e).0
event_whole c w e adds kept paired whole =
    let what = happening w e in
    let u = (carried_on c w what).0 in
    let sends = records_sent (carried_on c w what).1.sends in
    let next = (world_step c w e).0 in
    let a_down = records_in (left_by c w (link M A Ctl) refl e what) in
    let a_up = records_in (left_by c w (link A M Ctl) refl e what) in
    let b_down = records_in (left_by c w (link M B Ctl) refl e what) in
    let b_up = records_in (left_by c w (link B M Ctl) refl e what) in
    let then' =
    carried_whole c w kept paired whole a_down a_up b_down b_up what (event_takes c w (link M A Ctl) refl e) (event_takes c w (link A M Ctl) refl e) (event_takes c w (link M B Ctl) refl e) (event_takes c w (link B M Ctl) refl e)
    (λ l none. nothing_comes c w e l none (kept.silent l none)) (event_right w e) (event_adds w e adds) in
    subst (λ rs. Whole u.master.proc (master_view u.master) (second_view u.a) (second_view u.b) rs (bare_records (records_on A M next)) (bare_records (records_on M B next)) (bare_records (records_on B M next)))
    (sym (after_is c w e (link M A Ctl) master_a refl refl kept.long kept.ordered))
    (subst (λ rs. Whole u.master.proc (master_view u.master) (second_view u.a) (second_view u.b) (bare_records a_down ++ heard_of A sends) rs (bare_records (records_on M B next)) (bare_records (records_on B M next)))
    (sym (after_is c w e (link A M Ctl) a_master refl refl kept.long kept.ordered))
    (subst (λ rs. Whole u.master.proc (master_view u.master) (second_view u.a) (second_view u.b) (bare_records a_down ++ heard_of A sends) (bare_records a_up ++ told_of A sends) rs (bare_records (records_on B M next)))
    (sym (after_is c w e (link M B Ctl) master_b refl refl kept.long kept.ordered))
    (subst (λ rs. Whole u.master.proc (master_view u.master) (second_view u.a) (second_view u.b) (bare_records a_down ++ heard_of A sends) (bare_records a_up ++ told_of A sends) (bare_records b_down ++ heard_of B sends) rs)
    (sym (after_is c w e (link B M Ctl) b_master refl refl kept.long kept.ordered)) then')))

-- ---- a run

-- in the first state
new_whole : (h : Header) → IsWhole (new_world h)
new_whole h =
    subst (λ z. Whole (new_world h).master.proc (master_view (new_world h).master) (second_view (new_world h).a) (second_view (new_world h).b) z (bare_records (records_on A M (new_world h))) (bare_records (records_on M B (new_world h))) (bare_records (records_on B M (new_world h))))
    (sym (ap bare_records (no_records M A)))
    (subst (λ z. Whole (new_world h).master.proc (master_view (new_world h).master) (second_view (new_world h).a) (second_view (new_world h).b) [] z (bare_records (records_on M B (new_world h))) (bare_records (records_on B M (new_world h)))) (sym (ap bare_records (no_records A M)))
    (subst (λ z. Whole (new_world h).master.proc (master_view (new_world h).master) (second_view (new_world h).a) (second_view (new_world h).b) [] [] z (bare_records (records_on B M (new_world h)))) (sym (ap bare_records (no_records M B)))
    (subst (λ z. Whole (new_world h).master.proc (master_view (new_world h).master) (second_view (new_world h).a) (second_view (new_world h).b) [] [] [] z) (sym (ap bare_records (no_records B M))) empty)))
  where
    no_records : (x y : Node) → records_on x y (new_world h) ≡ []
    no_records x y = ap records_in (none_there 64 (link_number (link x y Ctl)) [])

    empty : Whole (new_world h).master.proc (master_view (new_world h).master) (second_view (new_world h).a) (second_view (new_world h).b) [] [] [] []
    empty = record {
      keeps = record {
        named = λ k. tt;
        once = λ k. omega arith;
        none = λ k none. omega arith;
        dropped = λ k gone. absurd gone;
        own = λ k r there here stays. absurd cc;
        away = λ k r there. absurd cc;
        waits = λ k. tt;
        planned = tt;
        single = λ k y z one two. absurd cc;
      };
      a = record { named = λ k. tt; waits = λ k. tt; line = tt };
      b = record { named = λ k. tt; waits = λ k. tt; line = tt };
    }

-- in each state from one in which all is kept
run_whole : (c : Choices) (w : World) (es : List Event) → AreSound es → IsKept w → ArePaired w → IsWhole w → IsWhole (world_after c w es)
run_whole c w [] sound kept paired whole = whole
run_whole c w (e ∷ es) sound kept paired whole =
    run_whole c (world_step c w e).0 es sound.1 (event_kept c w e sound.0 kept) (event_paired c w e sound.0 kept paired) (event_whole c w e sound.0 kept paired whole)

-- in each state of each run
pub whole_always : (c : Choices) (h : Header) (es : List Event) → AreSound es → IsWhole (world_after c (new_world h) es)
whole_always c h es sound = run_whole c (new_world h) es sound (new_kept h) (new_paired h) (new_whole h)

-- ---- each bearer

tokens_once : (w : World) (id : ℕ) → IsWhole w → tokens id w ≤ 1
tokens_once w id whole =
    omega (arith, whole.keeps.once id, bare_statuses id (records_on M A w), bare_statuses id (records_on A M w), bare_statuses id (records_on M B w), bare_statuses id (records_on B M w))

-- each bearer is held at most once: by an active anchor, by a waiting one that was told where it is, or by a status transfer under way
pub once_always : (c : Choices) (h : Header) (es : List Event) → AreSound es → (id : ℕ) → tokens id (world_after c (new_world h) es) ≤ 1
once_always c h es sound id = tokens_once (world_after c (new_world h) es) id (whole_always c h es sound)

placed_in : (w : World) (id : ℕ) → IsWhole w → IsPlaced w id
placed_in w id whole = placed w (bare_records (records_on M A w)) (bare_records (records_on A M w)) (bare_records (records_on M B w)) (bare_records (records_on B M w)) whole id

-- each bearer is placed
pub placed_always : (c : Choices) (h : Header) (es : List Event) → AreSound es → (id : ℕ) → IsPlaced (world_after c (new_world h) es) id
placed_always c h es sound id = placed_in (world_after c (new_world h) es) id (whole_always c h es sound)
