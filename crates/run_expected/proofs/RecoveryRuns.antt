-- In each run the order to recover a bearer is answered where the secondary node takes it, and so an open recovery that waits for
-- the node is under way.
use Rattle.std.proofs.Common.{ℕ, ◌≡◌, ◌++◌, Bool, true, false, List, [], ◌∷◌, refl, sym, ap, subst, ◌∙◌, inl, inr}
use Rattle.std.proofs.lemmas.Bool.{eq-eqb}
use Rattle.std.specs.List.{list_any}
use Rattle.std.specs.Prelude.{Err, Ok, Result, ⊤, ◌||◌, ◌⊎◌}
use Rattle.dc_base.specs.Links.{link}
use Rattle.dc_base.specs.Nodes.{is_secondary}
use Rattle.dc_base.specs.declared.events.Event.{Event}
use Rattle.dc_base.specs.declared.events.Header.{Header}
use Rattle.dc_base.specs.declared.flights.Flight.TheVariants as flight
use Rattle.dc_base.specs.declared.nodes.Class.TheVariants.{Ctl}
use Rattle.dc_base.specs.declared.nodes.Node.{Node}
use Rattle.dc_base.specs.declared.nodes.Node.TheVariants.{A, B, M, T}
use Rattle.dc_base.specs.declared.records.Rec.{Rec}
use Rattle.dc_base.specs.declared.records.Rec.TheVariants as rec
use Rattle.node_rules.specs.Acts.{ProcFault}
use Rattle.node_rules.specs.Choices.{Choices}
use Rattle.node_rules.specs.Run.{carried_on, given_to, happening, world_after, world_step}
use Rattle.node_rules.specs.SecondRecords.{recovery_asked, second_take}
use Rattle.node_rules.specs.SecondState.{SecondActs, SecondProc}
use Rattle.node_rules.specs.SecondStep.{second_takes}
use Rattle.node_rules.specs.Secondary.{SecondNode, name_of}
use Rattle.node_rules.specs.World.{World, flights_on, new_world}
use Rattle.node_rules.specs.declared.commands.Membership.{Membership}
use Rattle.node_rules.specs.declared.commands.Membership.TheVariants.{Joined as joined, Left as left, Outside as outside}
use Rattle.node_rules.specs.declared.inputs.Effects.{Effects}
use Rattle.node_rules.specs.declared.inputs.Input.TheVariants.{Come}
use Rattle.run_control.specs.Claims.{FirstIs, second_at}
use Rattle.run_control.specs.Links.{records_on, sent_on}
use Rattle.run_control.specs.Rows.{IsTaken}
use Rattle.run_control.specs.SecondControl.{SecondHeard, SecondProjects, acts_sends, fits, heard, no_row, records_sent, unfit, views_within}
use Rattle.run_control.specs.Sound.{AreSound}
use Rattle.run_control.specs.Views.{second_view}
use Rattle.run_control.proofs.EventTurns.{TakesBusy, second_busy}
use Rattle.run_control.proofs.Links.{IsControlLink, a_master, b_master, master_a, master_b}
use Rattle.run_control.proofs.Records.{bare_records}
use Rattle.run_control.proofs.SecondHears.{second_hears}
use Rattle.run_control.proofs.Taken.{Takes, event_takes, left_by, records_in, takes_none, takes_one}
use Rattle.run_control.proofs.TalkRuns.{after_is, event_kept, new_kept}
use Rattle.run_control.proofs.TalkSteps.{IsKept}
use Rattle.run_control.proofs.Turns.{never}
use Rattle.run_agreed.specs.Lines.{pair_at, said_to, spoken}
use Rattle.run_agreed.specs.Stalls.{RecoveryStands, is_recov, is_recovd}
use Rattle.run_agreed.proofs.PairRuns.{event_pair}
use Rattle.run_agreed.proofs.Spoken.{acts_heard, heard_on, spoken_append, spoken_bare}
use Rattle.run_expected.specs.Recoveries.{TakesFirst}
use Rattle.run_expected.proofs.RecoveryRecords.{any_first, any_last, any_later, any_spoken, recov_is, recov_unsaid, recovd_unsaid}
use Rattle.run_expected.proofs.RecoverySteps.{Stands, step_stands}
use Rattle.run_expected.proofs.Seconds.{second_always}

-- ---- the answer of the secondary node

-- the order is answered
abbrev SaysNews : ℕ → Result SecondActs ProcFault → Type 0
SaysNews id (Ok acts) = said_to M acts.1 ≡ rec.Recovd id ∷ []
SaysNews id (Err why) = ⊤

says_news : (s : SecondProc) (id : ℕ) (m : Membership) → SaysNews id (recovery_asked s id m)
says_news s id outside = tt
says_news s id joined = refl
says_news s id left = tt

module _ (x : Node) (second : is_secondary x ≡ true) (s : SecondNode) (named : name_of s ≡ x) (id : ℕ) where
  -- by what it did
  news_heard : (acts : SecondActs) (done : SecondNode × Effects) → second_take s.proc (rec.Recov id) ≡ Ok acts → SecondProjects s acts done → heard_on (link x M Ctl) (records_sent done.1.sends) ≡ rec.Recovd id ∷ []
  news_heard acts done taken is =
      let me : acts.0.me ≡ x = (subst (TakesBusy s.proc) taken (second_busy s.proc (rec.Recov id))).0 ∙ named in
      let views = views_within acts.0.membership (second_view s) in
      ap (heard_on (link x M Ctl)) (is.told ∙ ap (λ y. acts_sends y is.chosen views) me)
      ∙ acts_heard x second is.chosen views
      ∙ ap (said_to M) is.all
      ∙ subst (SaysNews id) taken (says_news s.proc id s.proc.membership)

  news_by : (done : SecondNode × Effects) → IsTaken (second_take s.proc (rec.Recov id)) → fits x (second_view s) (rec.Recov id) ≡ true → SecondHeard s (rec.Recov id) done → heard_on (link x M Ctl) (records_sent done.1.sends) ≡ rec.Recovd id ∷ []
  news_by done row fit (heard acts fit' taken is) = news_heard acts done taken is
  news_by done row fit (unfit none is) = never (fits x (second_view s) (rec.Recov id)) fit (subst (λ y. fits y (second_view s) (rec.Recov id) ≡ false) named none)
  news_by done row fit (no_row why taken is) = absurd (subst IsTaken taken row)

-- ---- an event

-- the line after an event
line_is : (c : Choices) (w : World) (e : Event) (x y : Node) → IsControlLink (link x y Ctl) → IsKept w
    → spoken (records_on x y (world_step c w e).0) ≡ spoken (records_in (left_by c w (link x y Ctl) refl e (happening w e))) ++ heard_on (link x y Ctl) (records_sent (carried_on c w (happening w e)).1.sends)
line_is c w e x y one kept =
    let l = link x y Ctl in
    let sends = (carried_on c w (happening w e)).1.sends in
    let left' = records_in (left_by c w l refl e (happening w e)) in
    sym (spoken_bare (records_in (flights_on l (world_step c w e).0.links))) ∙ ap spoken (after_is c w e l one refl refl kept.long kept.ordered)
    ∙ spoken_append (bare_records left') (records_in (sent_on l (records_sent sends))) ∙ ap (λ rs. rs ++ heard_on l (records_sent sends)) (spoken_bare left')

-- the order stands on the one line of the node, or the news on the other
abbrev Follows : World → Node → ℕ → Type 0
Follows w x id = (list_any (is_recov id) (spoken (records_on M x w)) ≡ true) ⊎ (list_any (is_recovd id) (spoken (records_on x M w)) ≡ true)

module _ (c : Choices) (w : World) (e : Event) (kept : IsKept w) (x : Node) (down_link : IsControlLink (link M x Ctl)) (up_link : IsControlLink (link x M Ctl)) (id : ℕ)
    (news : happening w e ≡ given_to x (Come (link M x Ctl) (flight.Ctl (rec.Recov id))) → IsTaken (second_take (second_at x w).proc (rec.Recov id)) → fits x (second_view (second_at x w)) (rec.Recov id) ≡ true
    → heard_on (link x M Ctl) (records_sent (carried_on c w (happening w e)).1.sends) ≡ rec.Recovd id ∷ []) where
  abbrev left_there : List Rec
  left_there = records_in (left_by c w (link M x Ctl) refl e (happening w e))

  -- it still stands there
  stays : list_any (is_recov id) left_there ≡ true → Follows (world_step c w e).0 x id
  stays there =
      inl (subst (λ rs. list_any (is_recov id) rs ≡ true) (sym (line_is c w e M x down_link kept))
      (any_first (is_recov id) (spoken left_there) (heard_on (link M x Ctl) (records_sent (carried_on c w (happening w e)).1.sends)) (any_spoken (is_recov id) (recov_unsaid id) left_there ∙ there)))

  -- it is answered
  goes : heard_on (link x M Ctl) (records_sent (carried_on c w (happening w e)).1.sends) ≡ rec.Recovd id ∷ [] → Follows (world_step c w e).0 x id
  goes said =
      inr (subst (λ rs. list_any (is_recovd id) rs ≡ true) (sym (line_is c w e x M up_link kept))
      (any_last (is_recovd id) (spoken (records_in (left_by c w (link x M Ctl) refl e (happening w e)))) (heard_on (link x M Ctl) (records_sent (carried_on c w (happening w e)).1.sends))
      (subst (λ rs. list_any (is_recovd id) rs ≡ true) (sym said) (ap (λ b. b || false) (eq-eqb id id refl)))))

  by_takes : (down : List Rec) → Takes (link M x Ctl) (happening w e) down left_there → FirstIs (λ r. IsTaken (second_take (second_at x w).proc r) × (fits x (second_view (second_at x w)) r ≡ true)) down
      → list_any (is_recov id) down ≡ true → Follows (world_step c w e).0 x id
  by_takes down (takes_none same none) first there = stays (ap (list_any (is_recov id)) same ∙ there)
  by_takes down (takes_one r front is) first there = by (is_recov id r) refl
    where
      taken' : IsTaken (second_take (second_at x w).proc r) × (fits x (second_view (second_at x w)) r ≡ true)
      taken' = subst (FirstIs (λ q. IsTaken (second_take (second_at x w).proc q) × (fits x (second_view (second_at x w)) q ≡ true))) front first

      by : (b : Bool) → is_recov id r ≡ b → Follows (world_step c w e).0 x id
      by false other = stays (any_later (is_recov id) r left_there other (sym (ap (list_any (is_recov id)) front) ∙ there))
      by true here =
          let same = recov_is id r here in
          goes (news (is ∙ ap (λ q. given_to x (Come (link M x Ctl) (flight.Ctl q))) same) (subst (λ q. IsTaken (second_take (second_at x w).proc q)) same taken'.0)
          (subst (λ q. fits x (second_view (second_at x w)) q ≡ true) same taken'.1))

  follows : TakesFirst w x → list_any (is_recov id) (spoken (records_on M x w)) ≡ true → Follows (world_step c w e).0 x id
  follows first there = by_takes (records_on M x w) (event_takes c w (link M x Ctl) refl e) first (sym (any_spoken (is_recov id) (recov_unsaid id) (records_on M x w)) ∙ there)

module _ (c : Choices) (w : World) (e : Event) (kept : IsKept w) where
  -- an order that stands on the line of a node that takes what comes first is followed
  event_follows : (x : Node) → is_secondary x ≡ true → TakesFirst w x → (id : ℕ) → list_any (is_recov id) (spoken (records_on M x w)) ≡ true → Follows (world_step c w e).0 x id
  event_follows A second first id there =
      follows c w e kept A master_a a_master id
      (λ is row fit. subst (λ what. heard_on (link A M Ctl) (records_sent (carried_on c w what).1.sends) ≡ rec.Recovd id ∷ []) (sym is)
      (news_by A refl w.a kept.named.a id (second_takes c w.a (flight.Ctl (rec.Recov id)) Ctl) row fit (second_hears c w.a (rec.Recov id) kept.ordered.a))) first there
  event_follows B second first id there =
      follows c w e kept B master_b b_master id
      (λ is row fit. subst (λ what. heard_on (link B M Ctl) (records_sent (carried_on c w what).1.sends) ≡ rec.Recovd id ∷ []) (sym is)
      (news_by B refl w.b kept.named.b id (second_takes c w.b (flight.Ctl (rec.Recov id)) Ctl) row fit (second_hears c w.b (rec.Recov id) kept.ordered.b))) first there
  event_follows T second first id there = absurd cc
  event_follows M second first id there = absurd cc

-- ---- a run

run_stands : (c : Choices) (w : World) (es : List Event) → AreSound es → IsKept w → (x : Node) → is_secondary x ≡ true → ((ds : List Event) → AreSound ds → TakesFirst (world_after c w ds) x) → Stands x (pair_at x w)
    → Stands x (pair_at x (world_after c w es))
run_stands c w [] sound kept x second first is = is
run_stands c w (e ∷ es) sound kept x second first is =
    let v = (world_step c w e).0 in
    run_stands c v es sound.1 (event_kept c w e sound.0 kept) x second (λ ds more. first (e ∷ ds) (sound.0, more))
    (step_stands x second (pair_at x w) (pair_at x v) is (event_follows c w e kept x second (first [] tt)) (event_pair c w e kept x second))

new_stands : (h : Header) (x : Node) → Stands x (pair_at x (new_world h))
new_stands h x id t is = absurd cc

-- in each state of each run, while the open recovery waits for a secondary node, the order to recover is on the link to the node, or
-- the news of it on the link from there
pub recoveries_stand : (c : Choices) (h : Header) (es : List Event) → AreSound es → (x : Node) → is_secondary x ≡ true → RecoveryStands (world_after c (new_world h) es) x
recoveries_stand c h es sound x second id t is =
    let w = world_after c (new_world h) es in
    elim (run_stands c (new_world h) es sound (new_kept h) x second (λ ds more. second_always c h ds more x second) (new_stands h x) id t is) [
      | inl there ↦ inl (sym (any_spoken (is_recov id) (recov_unsaid id) (records_on M x w)) ∙ there)
      | inr there ↦ inr (sym (any_spoken (is_recovd id) (recovd_unsaid id) (records_on x M w)) ∙ there)
    ]
