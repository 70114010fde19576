-- Each step of the master adds to the stories of its anchors and leg hosts alone, behind what it has.
use Rattle.std.proofs.Common.{◌≡◌, ℕ, ◌+◌, ◌++◌, ◌==◌, ◌&&◌, ◌≤◌, ltb, true, false, List, [], Option, Some, None, refl, sym, ap, ◌∙◌, subst, inl, inr, ◌⊎◌, arith}
use Rattle.std.specs.Prelude.{nat_lt}
use Rattle.std.specs.List.{AllByRecursion}
use Rattle.std.proofs.lemmas.Bool.{and_parts, cases_Bool, eqb-true, ltb-false, ltb-true, ne_eqb}
use Rattle.dc_base.specs.declared.nodes.Node.{Node}
use Rattle.dc_base.specs.declared.nodes.Node.TheVariants.{M}
use Rattle.transcript.proofs.OnEach.{each_append}
use Rattle.node_rules.specs.Anchor.{AnchorState, setup_at}
use Rattle.node_rules.specs.Choices.{Send}
use Rattle.node_rules.specs.Effects.{quiet}
use Rattle.node_rules.specs.Held.{held, holding}
use Rattle.node_rules.specs.Host.{Host}
use Rattle.node_rules.specs.Master.{MasterNode, anchor_did, low_rises, on_anchor, on_anchor_of, told_by, window_told}
use Rattle.node_rules.specs.MasterState.{MasterProc}
use Rattle.node_rules.specs.MasterStep.{on_host}
use Rattle.node_rules.specs.declared.commands.Row.{Row}
use Rattle.node_rules.specs.declared.bearers.AnchorOut.{AnchorOut}
use Rattle.node_rules.specs.declared.inputs.Effects.{Effects}
use Rattle.node_rules.specs.declared.bearers.Window.{Window}
use Rattle.run_control.specs.Views.{Bearer, lacks_status, view_of}
use Rattle.run_control.proofs.Sent.{either}
use Rattle.run_confirms.specs.States.{StateSent}
use Rattle.run_senders.specs.Holders.{IfThere}
use Rattle.run_confirmed.specs.Flights.{IsTrueSend}
use Rattle.run_confirmed.specs.Masters.{IsMasterFrom, IsYoung}
use Rattle.run_confirmed.specs.Nodes.{Goes, IsAnchorOf, IsHostOf, IsSteady}
use Rattle.run_confirmed.specs.Stories.{IsInOrder, IsUnused, Layout, Stories, Story}
use Rattle.run_confirmed.proofs.Growing.{sends_later, story_else, story_here, story_older, then_by, with_story}
use Rattle.run_confirmed.proofs.Held.{if_there, put_so, set_ascends}
use Rattle.run_confirmed.proofs.Hosts.{HostGoes, anchor_kept, anchor_other, host_kept, host_other}
use Rattle.run_confirmed.proofs.Seconds.{stays_goes}
use Rattle.run_confirmed.proofs.Steps.{AnchorGoes, IsStep, anchor_goes, lacks_empty}

-- one step and then another, after which something else is so
pub then_to : {S : Type 0} (layout : Layout) (x : Node) (P Q : Stories → S → Type 0) (stories : Stories) (one two : S) (sent more : List Send)
    → (first : Goes layout x P stories one sent)
    → Goes layout x Q first.later two more → Goes layout x Q stories two (sent ++ more)
then_to layout x P Q stories one two sent more first then' = record {
  later = then'.later;
  by = then_by layout x stories first.later then'.later first.by then'.by;
  so = then'.so;
  sends =
      each_append (IsTrueSend layout then'.later) sent more (sends_later layout first.later then'.later (λ id g. (then'.by id g).later) sent first.sends) then'.sends;
}

-- the same state is so in another way
pub seen_to : {S : Type 0} (layout : Layout) (x : Node) (P Q : Stories → S → Type 0) (stories : Stories) (state : S) (sent : List Send)
    → ((later : Stories) → P later state → Q later state)
    → Goes layout x P stories state sent → Goes layout x Q stories state sent
seen_to layout x P Q stories state sent gives g = record { later = g.later; by = g.by; so = gives g.later g.so; sends = g.sends }

module _ (layout : Layout) where
  abbrev pub At : MasterProc → ℕ → Stories → MasterNode → Type 0
  At q from stories m = IsMasterFrom layout q from stories m

  abbrev pub InOrder : Stories → Type 0
  InOrder stories = (id g : ℕ) → IsInOrder (stories id g)

  abbrev pub AtGoes : MasterProc → ℕ → Stories → MasterNode × Effects → Type 0
  AtGoes q from stories done = Goes layout M (At q from) stories done.0 done.1.sends

  pub at_idle : (q : MasterProc) (from : ℕ) (stories : Stories) → InOrder stories → (m : MasterNode) → At q from stories m → AtGoes q from stories (m, quiet)
  at_idle q from stories order m is = stays_goes layout M (At q from) stories order m [] is tt

  young_later : (a b : ℕ) (s : AnchorState) → a ≤ b → IsYoung a s → IsYoung b s
  young_later a b s le (inl below) = inl (omega (arith, le, below))
  young_later a b s le (inr lacks) = inr lacks

  -- a later generation is the next
  pub at_later : (q : MasterProc) (a b : ℕ) (stories : Stories) (m : MasterNode) → a ≤ b → At q a stories m → At q b stories m
  at_later q a b stories m le is = record {
    has = is.has;
    procs = is.procs;
    young = λ id. if_there (IsYoung a) (IsYoung b) (λ s was. young_later a b s le was) (held id m.anchors) (is.young id);
    below = λ id. if_there (λ (h : Host). h.g + 1 ≤ a) (λ (h : Host). h.g + 1 ≤ b) (λ h was. omega (arith, le, was)) (held id m.hosts) (is.below id);
    unused = λ id g above. is.unused id g (omega (arith, le, above));
  }

  -- ---- windows

  -- the windows alone change
  abbrev WindowsChange : MasterProc → ℕ → Stories → MasterNode × Effects → Type 0
  WindowsChange q from stories done = At q from stories done.0 × (done.1.sends ≡ [])

  with_windows : (q : MasterProc) (from : ℕ) (stories : Stories) (m : MasterNode) (windows : List (ℕ × Window)) → At q from stories m
      → At q from stories (record m { windows = windows })
  with_windows q from stories m windows is = record {
    has = record { anchors = is.has.anchors; hosts = is.has.hosts; anchors_ascend = is.has.anchors_ascend; hosts_ascend = is.has.hosts_ascend };
    procs = is.procs;
    young = is.young;
    below = is.below;
    unused = is.unused;
  }

  told_change : (q : MasterProc) (from : ℕ) (stories : Stories) (m : MasterNode) (id count : ℕ) (o : Option Window) → At q from stories m
      → WindowsChange q from stories (window_told m id count o)
  told_change q from stories m id count None is = (is, refl)
  told_change q from stories m id count (Some w) is =
      elim (cases_Bool (nat_lt w.told count)) [
        | inl rises ↦ rw rises (with_windows q from stories m (holding id (Some (record w { told = count })) m.windows) is, refl)
        | inr stays ↦ rw stays (is, refl)
      ]

  low_change : (q : MasterProc) (from : ℕ) (stories : Stories) (m : MasterNode) (id : ℕ) (o : Option ℕ) → At q from stories m
      → WindowsChange q from stories (low_rises m id o)
  low_change q from stories m id None is = (is, refl)
  low_change q from stories m id (Some count) is = told_change q from stories m id count (held id m.windows) is

  none_true : (stories : Stories) (ss : List Send) → ss ≡ [] → AllByRecursion (IsTrueSend layout stories) ss
  none_true stories ss none = subst (AllByRecursion (IsTrueSend layout stories)) (sym none) tt

  pub told_by_goes : (q : MasterProc) (from : ℕ) (stories : Stories) → InOrder stories → (m : MasterNode) (id g count : ℕ) (o : Option Row)
      → At q from stories m → AtGoes q from stories (told_by m id g count o)
  told_by_goes q from stories order m id g count None is = at_idle q from stories order m is
  told_by_goes q from stories order m id g count (Some r) is =
      let change = told_change q from stories m id count (held id m.windows) is in
      let done = window_told m id count (held id m.windows) in
      either (AtGoes q from stories) (nat_lt g r.est) (m, quiet) done (at_idle q from stories order m is)
      (stays_goes layout M (At q from) stories order done.0 done.1.sends change.0 (none_true stories done.1.sends change.1))

  -- ---- anchors

  -- an anchor below the next generation, or one that waits without a status transfer in a later one
  IsEither : ℕ → AnchorState → Type 0
  IsEither from a = ((setup_at a).g + 1 ≤ from) ⊎ ((from ≤ (setup_at a).g) × ((view_of a).stage ≡ lacks_status))

  either_is : (from : ℕ) (a : AnchorState) → IsYoung from a → IsEither from a
  unfolding IsEither
  either_is from a (inl below) = inl below
  either_is from a (inr lacks) = elim (cases_Bool (ltb (setup_at a).g from)) [
    | inl below ↦ let le = ltb-true (setup_at a).g from below in inl (omega (arith, le))
    | inr above ↦ inr (ltb-false (setup_at a).g from above, lacks)
  ]

  -- a step that an anchor may take
  pub record MayStep (from : ℕ) (a : AnchorState) (done : AnchorState × AnchorOut) : Type 0 where
    pub step : IsStep a done
    pub lacks : from ≤ (setup_at a).g → (view_of a).stage ≡ lacks_status → (view_of done.0).stage ≡ lacks_status

  young_step : (from : ℕ) (a : AnchorState) (done : AnchorState × AnchorOut) → MayStep from a done → IsEither from a → IsYoung from done.0
  unfolding IsEither
  young_step from a done may (inl below) = inl (subst (λ (g : ℕ). g + 1 ≤ from) (sym (ap (λ (b : Bearer). b.g) may.step.bearer)) below)
  young_step from a done may (inr (above, lacks)) = inr (may.lacks above lacks)

  -- the stories of later generations stay unused
  unused_step : (from : ℕ) (stories : Stories) (order : InOrder stories) (id : ℕ) (a : AnchorState) (done : AnchorState × AnchorOut) → MayStep from a done
      → IsEither from a
      → (got : AnchorGoes layout M stories order id (setup_at a).g done) → ((k h : ℕ) → from ≤ h → IsUnused layout M k h (stories k h))
      → (k h : ℕ) → from ≤ h → IsUnused layout M k h (with_story id (setup_at a).g got.story stories k h)
  unfolding IsEither
  unused_step from stories order id a done may (inl below) got unused k h above =
      let g = (setup_at a).g in
      let other : (h == g) ≡ false = ne_eqb h g (λ same. absurd (omega (arith, below, above, same))) in
      subst (IsUnused layout M k h) (sym (story_older id g got.story stories k h other)) (unused k h above)
  unused_step from stories order id a done may (inr (high, lacks)) got unused k h above =
      let g = (setup_at a).g in
      let later = with_story id g got.story stories in
      let same_g : (setup_at done.0).g ≡ g = ap (λ (b : Bearer). b.g) may.step.bearer in
      let here : later id g ≡ got.story = story_here id g got.story stories in
      let sent : StateSent got.story.own got.story.tunnel done.0 =
      subst (λ (t : Story). StateSent t.own t.tunnel done.0) here (subst (λ (j : ℕ). StateSent (later id j).own (later id j).tunnel done.0) same_g got.so.sent) in
      let empty = lacks_empty got.story.own got.story.tunnel done.0 (may.lacks high lacks) sent in
      let was = unused id g high in
      let now : IsUnused layout M id g got.story = record { own = λ yes'. empty.0; tunnel = λ yes'. empty.1; far = λ yes'. got.far ∙ was.far yes'; rx = λ yes'. absurd (let bad : false ≡ true = yes' in cc) } in
      elim (cases_Bool ((k == id) && (h == g))) [
        | inl both ↦
            let parts = and_parts (k == id) (h == g) both in
            let there : later k h ≡ got.story = rw both refl in
            subst (IsUnused layout M k h) (sym there)
            (subst (λ (j : ℕ). IsUnused layout M j h got.story) (sym (eqb-true k id parts.0)) (subst (λ (j : ℕ). IsUnused layout M id j got.story) (sym (eqb-true h g parts.1)) now))
        | inr apart ↦ subst (IsUnused layout M k h) (sym (story_else id g got.story stories k h apart)) (unused k h above)
      ]

  -- the anchor of an identity after a step of it
  pub did_goes : (q : MasterProc) (from : ℕ) (stories : Stories) → InOrder stories
      → (m : MasterNode) (id : ℕ) (a : AnchorState) (done : AnchorState × AnchorOut) → IsAnchorOf layout stories M id a → IsYoung from a
      → MayStep from a done → At q from stories m → AtGoes q from stories (anchor_did m id done)
  did_goes q from stories order m id a done here young may is =
      let g = (setup_at a).g in
      let got = anchor_goes layout M stories order id a done refl here may.step in
      let later = with_story id g got.story stories in
      let m' : MasterNode = record m { anchors = holding id (Some done.0) m.anchors } in
      let now : At q from later m' = record {
        has = record {
          anchors = put_so (λ k s. IsAnchorOf layout later M k s) id done.0 m.anchors got.so
              (λ k apart. if_there (IsAnchorOf layout stories M k) (IsAnchorOf layout later M k) (λ s was. anchor_other layout M stories order id g got.story k s apart was) (held k m.anchors) (is.has.anchors k));
          hosts =
              λ k. if_there (IsHostOf layout stories M k) (IsHostOf layout later M k) (λ h was. host_kept layout M stories order id g got.story here.home k h was) (held k m.hosts) (is.has.hosts k);
          anchors_ascend = set_ascends (λ k s. IsAnchorOf layout later M k s) id (Some done.0) m.anchors is.has.anchors_ascend;
          hosts_ascend = is.has.hosts_ascend;
        };
        procs = is.procs;
        young = put_so (λ k s. IsYoung from s) id done.0 m.anchors (young_step from a done may (either_is from a young)) (λ k apart. is.young k);
        below = is.below;
        unused = unused_step from stories order id a done may (either_is from a young) got is.unused;
      } in
      let change = low_change q from later m' id done.1.low now in
      let low = low_rises m' id done.1.low in
      record {
        later = later;
        by = got.by;
        so = change.0;
        sends = each_append (IsTrueSend layout later) done.1.sends low.1.sends got.sends (none_true later low.1.sends change.1);
      }

  -- a step that any anchor may take
  abbrev pub AllMay : ℕ → (AnchorState → AnchorState × AnchorOut) → Type 0
  AllMay from f = (a : AnchorState) → IsSteady a → MayStep from a (f a)

  pub on_anchor_goes : (q : MasterProc) (from : ℕ) (stories : Stories) → InOrder stories
      → (m : MasterNode) (id : ℕ) (f : AnchorState → AnchorState × AnchorOut) → AllMay from f → (o : Option AnchorState)
      → IfThere (IsAnchorOf layout stories M id) o → IfThere (IsYoung from) o → At q from stories m → AtGoes q from stories (on_anchor m id f o)
  on_anchor_goes q from stories order m id f may None here young is = at_idle q from stories order m is
  on_anchor_goes q from stories order m id f may (Some a) here young is = did_goes q from stories order m id a (f a) here young (may a here.steady) is

  pub held_goes : (q : MasterProc) (from : ℕ) (stories : Stories) → InOrder stories → (m : MasterNode) (id : ℕ) (f : AnchorState → AnchorState × AnchorOut)
      → AllMay from f → At q from stories m
      → AtGoes q from stories (on_anchor m id f (held id m.anchors))
  held_goes q from stories order m id f may is = on_anchor_goes q from stories order m id f may (held id m.anchors) (is.has.anchors id) (is.young id) is

  pub of_goes : (q : MasterProc) (from : ℕ) (stories : Stories) → InOrder stories
      → (m : MasterNode) (g : ℕ) (f : AnchorState → AnchorState × AnchorOut) (id : ℕ) → AllMay from f → At q from stories m
      → AtGoes q from stories (on_anchor_of m g f id (held id m.anchors))
  of_goes q from stories order m g f id may is = by (held id m.anchors) (is.has.anchors id) (is.young id)
    where
      by : (o : Option AnchorState) → IfThere (IsAnchorOf layout stories M id) o → IfThere (IsYoung from) o → AtGoes q from stories (on_anchor_of m g f id o)
      by None here young = at_idle q from stories order m is
      by (Some a) here young =
          either (AtGoes q from stories) ((setup_at a).g == g) (anchor_did m id (f a)) (m, quiet) (did_goes q from stories order m id a (f a) here young (may a here.steady) is) (at_idle q from stories order m is)

  -- ---- leg hosts

  pub on_host_goes : (q : MasterProc) (from : ℕ) (stories : Stories) (order : InOrder stories) (m : MasterNode) (id : ℕ) (f : Host → Host × List Send)
      → ((h : Host) → (f h).0.g ≡ h.g) → (o : Option Host)
      → IfThere (λ (h : Host). HostGoes layout M stories order id h.g (f h)) o → IfThere (IsHostOf layout stories M id) o
      → IfThere (λ (h : Host). h.g + 1 ≤ from) o → At q from stories m
      → AtGoes q from stories (on_host m id f o)
  on_host_goes q from stories order m id f same None goes here low is = at_idle q from stories order m is
  on_host_goes q from stories order m id f same (Some h) got here low is =
      let g = h.g in
      let later = with_story id g got.story stories in
      record {
        later = later;
        by = got.by;
        so = record {
          has = record {
            anchors =
                λ k. if_there (IsAnchorOf layout stories M k) (IsAnchorOf layout later M k) (λ s was. anchor_kept layout M stories order id g got.story here.apart k s was) (held k m.anchors) (is.has.anchors k);
            hosts = put_so (λ k y. IsHostOf layout later M k y) id (f h).0 m.hosts got.so
                (λ k apart. if_there (IsHostOf layout stories M k) (IsHostOf layout later M k) (λ y was. host_other layout M stories order id g got.story k y apart was) (held k m.hosts) (is.has.hosts k));
            anchors_ascend = is.has.anchors_ascend;
            hosts_ascend = set_ascends (λ k y. IsHostOf layout later M k y) id (Some (f h).0) m.hosts is.has.hosts_ascend;
          };
          procs = is.procs;
          young = is.young;
          below = put_so (λ k (y : Host). y.g + 1 ≤ from) id (f h).0 m.hosts (subst (λ (j : ℕ). j + 1 ≤ from) (sym (same h)) low) (λ k apart. is.below k);
          unused = λ k j above.
              let other : (j == g) ≡ false = ne_eqb j g (λ equal. absurd (omega (arith, low, above, equal))) in
              subst (IsUnused layout M k j) (sym (story_older id g got.story stories k j other)) (is.unused k j above);
        };
        sends = got.sends;
      }
