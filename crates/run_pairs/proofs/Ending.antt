-- A command ends, and the releases that waited are tried: what that says to a secondary node.
use Rattle.std.proofs.Common.{◌+◌, ◌<◌, ℕ, ◌≡◌, ◌++◌, Bool, true, false, List, [], ◌∷◌, Option, Some, None, refl, sym, ap, subst, ◌∙◌, arith}
use Rattle.std.specs.Prelude.{map, not, ◌&&◌}
use Rattle.std.proofs.lemmas.List.{append-nil}
use Rattle.dc_base.specs.Nodes.{is_same_node, is_secondary}
use Rattle.dc_base.specs.declared.events.Event.TheVariants as event
use Rattle.dc_base.specs.declared.events.Note.{Note}
use Rattle.dc_base.specs.declared.events.Note.TheVariants as note
use Rattle.dc_base.specs.declared.nodes.Node.{Node}
use Rattle.dc_base.specs.declared.nodes.Node.TheVariants.{A, B, M, T}
use Rattle.dc_base.specs.declared.nodes.Want.TheVariants as want
use Rattle.dc_base.specs.declared.records.Plan.{Plan}
use Rattle.dc_base.specs.declared.records.Rec.TheVariants as rec
use Rattle.transcript.proofs.OnEach.{each_append}
use Rattle.node_rules.specs.Drafts.{Draft, asking, draft, same_keys, set_to, shared_rows, without_key}
use Rattle.node_rules.specs.declared.commands.First.TheVariants.{Release as release}
use Rattle.node_rules.specs.MasterEnds.{ends, ends_gone, ends_recovering, forgetting, is_release_spent, nothing_to_release, releases_if, retries, tried_first, tries, tries_if, tries_now, waits_for}
use Rattle.node_rules.specs.MasterState.{MasterProc, waits_at, with_waits}
use Rattle.node_rules.specs.Places.{is_at, mm, other_second}
use Rattle.node_rules.specs.declared.acts.Act.{Act}
use Rattle.node_rules.specs.declared.acts.Act.TheVariants.{Say as say, Send as send}
use Rattle.node_rules.specs.declared.commands.Command.{Command}
use Rattle.node_rules.specs.declared.commands.Command.TheVariants.{Asked as asked, Gone as gone, Recovering as recovering}
use Rattle.node_rules.specs.declared.commands.Going.{Going}
use Rattle.node_rules.specs.declared.commands.Membership.TheVariants.{Left as left}
use Rattle.run_control.specs.Claims.{IsStandOf, Stand, agrees, asks, goes_on, membership_by, membership_if, refuses, rests}
use Rattle.run_control.specs.Rows.{has_row}
use Rattle.run_control.specs.SecondControl.{Views}
use Rattle.run_control.proofs.Sound.{first_is, other_is}
use Rattle.run_pairs.specs.Fits.{bearing_by}
use Rattle.run_pairs.proofs.FitSteps.{IsLater, fits_on, later_same, none_moves}
use Rattle.run_pairs.specs.Apt.{IsApt, IsAptCommand, IsLeavingFrom}
use Rattle.run_pairs.specs.Pairs.{IsLineOf, Standing, asked_for, begun_as, begun_for, standing, waiting_of, wants_in}
use Rattle.run_pairs.proofs.Beginning.{LetGoOf, at_rest, free, lets_go_follows}
use Rattle.run_pairs.proofs.Following.{Follows, Leads, before_follows, follows_still, leads_none, leads_then, leads_to, then_follows}
use Rattle.run_pairs.proofs.Placed.{IsAptDraft, apt_draft}
use Rattle.run_pairs.proofs.Putting.{put, put_here, put_there}
use Rattle.run_pairs.proofs.Replies.{lone, replies_rest, same_node}

-- ---- whether a request waits

-- what does not touch the table or the command leaves both
waits_at_once : (b : Bool) (y : Node) → is_secondary y ≡ true → (m : MasterProc) → waits_at (with_waits b y m) y ≡ b
waits_at_once b T second m = absurd cc
waits_at_once b M second m = absurd cc
waits_at_once b A second m = refl
waits_at_once b B second m = refl

-- of another node
pub waits_apart : (b : Bool) (x y : Node) → is_same_node x y ≡ false → (m : MasterProc) → waits_at (with_waits b y m) x ≡ waits_at m x
waits_apart b x T apart m = refl
waits_apart b x M apart m = refl
waits_apart b T A apart m = refl
waits_apart b M A apart m = refl
waits_apart b A A apart m = absurd cc
waits_apart b B A apart m = refl
waits_apart b T B apart m = refl
waits_apart b M B apart m = refl
waits_apart b A B apart m = refl
waits_apart b B B apart m = absurd cc

-- of the node itself
pub waits_here : (b : Bool) (x y : Node) → is_secondary x ≡ true → is_same_node x y ≡ true → (m : MasterProc) → waits_at (with_waits b y m) x ≡ b
waits_here b x y second here m = subst (λ z. waits_at (with_waits b z m) x ≡ b) (same_node x y here) (waits_at_once b x second m)

-- the rest of the state stays
pub waits_apt : (b : Bool) (y : Node) (m : MasterProc) → IsApt m → IsApt (with_waits b y m)
waits_apt b T m apt = apt
waits_apt b M m apt = apt
waits_apt b A m apt = record { second = apt.second; rows = apt.rows; up = apt.up; command = apt.command }
waits_apt b B m apt = record { second = apt.second; rows = apt.rows; up = apt.up; command = apt.command }

pub waits_stand : (b : Bool) (x y : Node) (m : MasterProc) (s : Stand) → IsStandOf x m.command s → IsStandOf x (with_waits b y m).command s
waits_stand b x T m s is = is
waits_stand b x M m s is = is
waits_stand b x A m s is = is
waits_stand b x B m s is = is

-- the standing of a node then
pub waits_standing : (b : Bool) (x y : Node) (m : MasterProc) (s : Stand)
    → standing x (with_waits b y m) s ≡ record (standing x m s) { owed = waiting_of (waits_at (with_waits b y m) x) ++ begun_for x m.command }
waits_standing b x T m s = refl
waits_standing b x M m s = refl
waits_standing b x A m s = refl
waits_standing b x B m s = refl

waits_table : (b : Bool) (y : Node) (m : MasterProc) → (with_waits b y m).table ≡ m.table
waits_table b T m = refl
waits_table b M m = refl
waits_table b A m = refl
waits_table b B m = refl

-- ---- where no command is open the node rests

pub none_rests : (x : Node) (o : Option Command) (s : Stand) → o ≡ None → IsStandOf x o s → s ≡ rests
none_rests x o s none is = by s (subst (λ c. IsStandOf x c s) none is)
  where
    by : (s : Stand) → IsStandOf x None s → s ≡ rests
    by rests is = refl
    by (asks f p) is = absurd is
    by (refuses f p) is = absurd is
    by (agrees f p) is = absurd is
    by (goes_on l) is = absurd is

-- where nothing moves the generation does not matter
later_gen : (x : Node) (m : MasterProc) (g : ℕ) → IsLater x (record { rows = m.table.rows; moving = []; gen = g; below = m.table.last + 1 }) (record { rows = m.table.rows; moving = []; gen = 0; below = m.table.last + 1 })
later_gen x m g = record {
  held = λ at held. held;
  moved = λ at r is. none_moves x (record { rows = m.table.rows; moving = []; gen = 0; below = m.table.last + 1 }) at (λ id. refl) r;
  below = omega arith;
}

-- ---- a release that waits is tried

module _ (x : Node) (second : is_secondary x ≡ true) where
  -- nothing has to be released any more: the node that asked is told
  needless_here : (m : MasterProc) (y : Node) → is_same_node x y ≡ true → waits_at m y ≡ true
      → Leads x (free x m []) (record (free x m []) { owed = waiting_of (waits_at (with_waits false y m) x) ++ [] }) (send y nothing_to_release ∷ [])
  needless_here m y here waits =
      leads_to x (free x m []) _ (send y nothing_to_release ∷ []) (nothing_to_release ∷ []) (λ views. put_here x y nothing_to_release views second here) (record {
        shift = λ w up owes.
            let is : want.Release ∷ asked_for up ≡ wants_in w = sym (ap (λ b. (waiting_of b ++ []) ++ asked_for up) (waits_there (same_node x y here))) ∙ owes in
            let at = lone want.Release (asked_for up) w is in (
              None,
              ap (λ b. (waiting_of b ++ []) ++ asked_for up) (waits_here false x y second here m) ∙ at.0,
              (ap (λ z. has_row (membership_if (is_at x m.table.sec)) z nothing_to_release) at.1, (refl, refl)),
            );
        line = λ down line old. each_append _ down (nothing_to_release ∷ []) line (refl, tt);
        answers = λ up old answers. answers;
        later = omega arith;
        within = (tt, tt);
        fits = λ mem w at down up all pair fit.
            fits_on x (free x m []).bearing (free x m []).bearing (nothing_to_release ∷ []) (later_same x (free x m []).bearing) (record { free = λ at'. refl; below = some_next m.table.last }, tt) at down all fit;
      })
    where
      some_next : (n : ℕ) → 0 < n + 1
      some_next n = omega arith

      waits_there : x ≡ y → waits_at m x ≡ true
      waits_there e = ap (waits_at m) e ∙ waits

  needless : (m : MasterProc) (y : Node) → IsApt m → m.command ≡ None → waits_at m y ≡ true → Follows x (free x m []) (with_waits false y m, send y nothing_to_release ∷ [])
  needless m y apt none waits = record {
    stand = rests;
    stands = waits_stand false x y m rests (subst (λ c. IsStandOf x c rests) (sym none) tt);
    apt = waits_apt false y m apt;
    leads = subst (λ v. Leads x (free x m []) v (send y nothing_to_release ∷ [])) (sym standing_is) (by (is_same_node x y) refl);
  }
    where
      standing_is : standing x (with_waits false y m) rests ≡ record (free x m []) { owed = waiting_of (waits_at (with_waits false y m) x) ++ [] }
      standing_is = waits_standing false x y m rests ∙ ap (λ c. record (free x m []) { owed = waiting_of (waits_at (with_waits false y m) x) ++ begun_for x c; bearing = bearing_by m c rests }) none

      by : (b : Bool) → is_same_node x y ≡ b → Leads x (free x m []) (record (free x m []) { owed = waiting_of (waits_at (with_waits false y m) x) ++ [] }) (send y nothing_to_release ∷ [])
      by true here = needless_here m y here waits
      by false apart =
          subst (λ b. Leads x (free x m []) (record (free x m []) { owed = waiting_of b ++ [] }) (send y nothing_to_release ∷ [])) (sym (waits_apart false x y apart m))
          (leads_none x (free x m []) (send y nothing_to_release ∷ []) (λ views. put_there x y nothing_to_release views second apart))

  -- the release begins
  let_go_owed : (m : MasterProc) (y : Node) → waits_at m y ≡ true → LetGoOf x y (with_waits false y m) (waiting_of (waits_at m x) ++ [])
  let_go_owed m y waits = (
    λ here. (ap (λ b. waiting_of b ++ []) (ap (waits_at m) (same_node x y here) ∙ waits), waits_here false x y second here m),
    λ apart. ap (λ b. waiting_of b ++ []) (waits_apart false x y apart m),
  )

  released_now : (m : MasterProc) (y : Node) (d : Draft) → IsApt m → is_secondary y ≡ true → m.table.sec ≡ Some y → d.change.plan.sec ≡ None → IsAptDraft m.table true d → waits_at m y ≡ true
      → Follows x (free x m []) (releases_if m y false (Some d))
  released_now m y d apt asker is_second after draft_is waits =
      subst (λ t. Follows x (record { secondary = is_at x t.sec; stand = rests; owed = waiting_of (waits_at m x) ++ []; replies = []; last = t.last; bearing = record { rows = t.rows; moving = []; gen = 0; below = t.last + 1 } }) (releases_if m y false (Some d))) (waits_table false y m)
      (lets_go_follows x second (with_waits false y m) (waits_apt false y m apt) y d (ap (λ t. t.sec) (waits_table false y m) ∙ is_second) after
      (subst (λ t. IsAptDraft t true d) (sym (waits_table false y m)) draft_is) (waiting_of (waits_at m x) ++ []) (let_go_owed m y waits))

  free_still : (m : MasterProc) → IsApt m → m.command ≡ None → Follows x (free x m []) (m, [])
  free_still m apt none = subst (λ v. Follows x v (m, [])) (at_rest x m none) (follows_still x m rests (subst (λ c. IsStandOf x c rests) (sym none) tt) apt)

  tried_now : (m : MasterProc) (y : Node) (there : Bool) → is_at y m.table.sec ≡ there → IsApt m → is_secondary y ≡ true → m.command ≡ None → waits_at m y ≡ true → Follows x (free x m []) (tries_now m y there)
  tried_now m y false away apt asker none waits = needless m y apt none waits
  tried_now m y true there apt asker none waits = by (is_release_spent m.table (draft m.table event.Release))
    where
      second_is : (o : Option Node) → is_at y o ≡ true → o ≡ Some y
      second_is None is = absurd cc
      second_is (Some z) is = ap (λ n. Some n) (sym (same_node y z is))

      by : (spent : Bool) → Follows x (free x m []) (releases_if m y spent (draft m.table event.Release))
      by true = free_still m apt none
      by false = released_now m y (without_key m.table (same_keys m.table None (map (set_to m.table.book.current m.table.second_key (λ r. mm)) (shared_rows m.table))) (asking release m.table.sec)) apt asker (second_is m.table.sec there) refl (apt_draft m.table true event.Release apt.second apt.rows apt.up tt) waits

  tried_if : (m : MasterProc) (y : Node) (waits : Bool) (o : Option Command) (s : Stand) → waits_at m y ≡ waits → m.command ≡ o → IsApt m → is_secondary y ≡ true → IsStandOf x m.command s
      → Follows x (standing x m s) (tries_if m y waits o)
  tried_if m y false o s waits at apt asker stands = follows_still x m s stands apt
  tried_if m y true None s waits at apt asker stands =
      subst (λ v. Follows x v (tries_now m y (is_at y m.table.sec))) (sym (ap (λ z. standing x m z) (none_rests x m.command s at stands) ∙ at_rest x m at)) (tried_now m y (is_at y m.table.sec) refl apt asker at waits)
  tried_if m y true (Some (asked c first who wanted)) s waits at apt asker stands = follows_still x m s stands apt
  tried_if m y true (Some (gone plan going)) s waits at apt asker stands = follows_still x m s stands apt
  tried_if m y true (Some (recovering id terminal sec)) s waits at apt asker stands = follows_still x m s stands apt

  pub tries_follows : (m : MasterProc) (y : Node) (s : Stand) → IsApt m → is_secondary y ≡ true → IsStandOf x m.command s → Follows x (standing x m s) (tries y m)
  tries_follows m y s apt asker stands = tried_if m y (waits_at m y) m.command s refl refl apt asker stands

  pub retries_follows : (m : MasterProc) (s : Stand) → IsApt m → IsStandOf x m.command s → Follows x (standing x m s) (retries m)
  retries_follows m s apt stands =
      let y = tried_first m.table.sec in
      then_follows x (standing x m s) (tries y m) (tries (other_second y)) (tries_follows m y s apt (first_is m.table.sec) stands)
      (λ s' stands' apt'. tries_follows (tries y m).0 (other_second y) s' apt' (other_is y) stands')

  -- ---- a command ends

  -- the state without it
  abbrev pub ended_proc : MasterProc → MasterProc
  ended_proc m = record m { command = None }

  ended_apt : (m : MasterProc) → IsApt m → IsApt (ended_proc m)
  ended_apt m apt = record { second = apt.second; rows = apt.rows; up = apt.up; command = tt }

  -- with what is said first
  pub ends_follows : (v : Standing) (m : MasterProc) (acts : List Act) (how : Note) → IsApt m → Leads x v (free x m []) acts → Follows x v (ends m acts how)
  ends_follows v m acts how apt first =
      before_follows x v (free x m []) (acts ++ say how ∷ []) (retries (ended_proc m)) (leads_then x v (free x m []) (free x m []) acts (say how ∷ []) first (leads_none x (free x m []) (say how ∷ []) (λ views. refl)))
      (retries_follows (ended_proc m) rests (ended_apt m apt) tt)

  -- the context of the node that leaves ends
  -- where nothing moves any more
  abbrev still_going : MasterProc → Bool → ℕ → Standing
  still_going m l g = record (free x m []) { stand = goes_on l; bearing = record { rows = m.table.rows; moving = []; gen = g; below = m.table.last + 1 } }

  forgets : (m : MasterProc) (p : Plan) (going : Going) → IsLeavingFrom going.leaving m.table.sec
      → Leads x (still_going m (is_at x going.leaving) p.g) (free x m []) (forgetting going.leaving p.g)
  forgets m p going leaving = by going.leaving leaving
    where
      stays : (l : Bool) → l ≡ false → (b : Bool) → membership_by b (goes_on l) ≡ membership_if b
      stays true no' b = absurd cc
      stays false no' true = refl
      stays false no' false = refl

      quietly : (l : Bool) → l ≡ false → (acts : List Act) → ((views : Views) → put x acts views ≡ []) → Leads x (still_going m l p.g) (free x m []) acts
      quietly l no' acts none =
          leads_to x _ (free x m []) acts [] none (record {
            shift = λ w up owes. (w, owes, (stays l no' (is_at x m.table.sec), refl));
            line = λ down line old. subst (λ ds. IsLineOf rests ds) (sym (append-nil down)) line;
            answers = λ up old answers. replies_rest (goes_on l) rests (λ g. refl) up answers;
            later = omega arith;
            within = tt;
            fits = λ mem w at down up all pair fit. fits_on x (still_going m l p.g).bearing (free x m []).bearing [] (later_gen x m p.g) tt at down all fit;
          })

      leaves : (b l : Bool) → b ≡ false → l ≡ true → membership_by b (goes_on l) ≡ left
      leaves true l away is = absurd cc
      leaves false true away is = refl
      leaves false false away is = absurd cc

      by : (o : Option Node) → IsLeavingFrom o m.table.sec → Leads x (still_going m (is_at x o) p.g) (free x m []) (forgetting o p.g)
      by None is = quietly false refl [] (λ views. refl)
      by (Some y) is = one (is_same_node x y) refl
        where
          one : (b : Bool) → is_same_node x y ≡ b → Leads x (still_going m (is_same_node x y) p.g) (free x m []) (send y (rec.Uecr p.g) ∷ [])
          one false apart = quietly (is_same_node x y) apart (send y (rec.Uecr p.g) ∷ []) (λ views. put_there x y (rec.Uecr p.g) views second apart)
          one true here =
              let away : is_at x m.table.sec ≡ false = ap (λ z. is_at z m.table.sec) (same_node x y here) ∙ is in
              leads_to x _ (free x m []) (send y (rec.Uecr p.g) ∷ []) (rec.Uecr p.g ∷ []) (λ views. put_here x y (rec.Uecr p.g) views second here) (record {
                shift = λ w up owes. (
                  w,
                  owes,
                  (ap (λ n. has_row n w (rec.Uecr p.g)) (leaves (is_at x m.table.sec) (is_same_node x y) away here), (sym (ap membership_if away), refl)),
                );
                line = λ down line old. each_append _ down (rec.Uecr p.g ∷ []) line (refl, tt);
                answers = λ up old answers. replies_rest (goes_on (is_same_node x y)) rests (λ g. refl) up answers;
                later = omega arith;
                within = (tt, tt);
                fits = λ mem w at down up all pair fit.
                    fits_on x (still_going m (is_same_node x y) p.g).bearing (free x m []).bearing (rec.Uecr p.g ∷ []) (later_gen x m p.g) (record { free = λ at'. refl; below = tt }, tt) at down all fit;
              })

  -- ---- the open command goes on, or ends

  -- nothing is owed by a plan that is complete
  owed_none : (a b d : Bool) → b ≡ true → begun_as want.Rekey ((a && not b) && d) ≡ []
  owed_none true true d is = refl
  owed_none true false d is = absurd cc
  owed_none false b d is = refl

  gone_ends : (m : MasterProc) (p : Plan) (going : Going) (complete : Bool) (moving : List (ℕ × Node)) → m.command ≡ Some (gone p going) → going.complete ≡ complete → going.moving ≡ moving → IsApt m
      → Follows x (standing x m (goes_on (is_at x going.leaving))) (ends_gone m p going complete moving)
  gone_ends m p going false moving at is moves apt = follows_still x m (goes_on (is_at x going.leaving)) (subst (λ c. IsStandOf x c (goes_on (is_at x going.leaving))) (sym at) refl) apt
  gone_ends m p going true (z ∷ zs) at is moves apt = follows_still x m (goes_on (is_at x going.leaving)) (subst (λ c. IsStandOf x c (goes_on (is_at x going.leaving))) (sym at) refl) apt
  gone_ends m p going true [] at is moves apt =
      let v = still_going m (is_at x going.leaving) p.g in
      let before : standing x m (goes_on (is_at x going.leaving)) ≡ v =
      ap (λ c. record v { owed = waiting_of (waits_at m x) ++ begun_for x c; bearing = bearing_by m c (goes_on (is_at x going.leaving)) }) at
      ∙ ap (λ zs. record v { owed = waiting_of (waits_at m x) ++ begun_for x (Some (gone p going)); bearing = record { rows = m.table.rows; moving = zs; gen = p.g; below = m.table.last + 1 } }) moves
      ∙ ap (λ l. record v { owed = waiting_of (waits_at m x) ++ l }) (owed_none going.confirms going.complete (is_at x going.due) is) in
      let gone_is : IsAptCommand m.table (Some (gone p going)) = subst (IsAptCommand m.table) at apt.command in
      subst (λ u. Follows x u (ends_gone m p going true [])) (sym before) (ends_follows v m (forgetting going.leaving p.g) note.Done apt (forgets m p going gone_is.1.leaving))

  recovering_ends : (m : MasterProc) (id : ℕ) (terminal : Bool) (o second' : Option Node) → m.command ≡ Some (recovering id terminal o) → IsApt m → Follows x (standing x m rests) (ends_recovering m terminal second')
  recovering_ends m id false o None at apt =
      subst (λ v. Follows x v (ends_recovering m false None)) (sym (ap (λ c. record (free x m []) { owed = waiting_of (waits_at m x) ++ begun_for x c; bearing = bearing_by m c rests }) at))
      (ends_follows (free x m []) m [] note.Done apt (leads_none x (free x m []) [] (λ views. refl)))
  recovering_ends m id false o (Some y) at apt = follows_still x m rests (subst (λ c. IsStandOf x c rests) (sym at) tt) apt
  recovering_ends m id true o second' at apt = follows_still x m rests (subst (λ c. IsStandOf x c rests) (sym at) tt) apt

  -- the plan that was carried out goes on with this state
  pub going_waits : (m : MasterProc) (p : Plan) (going : Going) → IsApt (record m { command = Some (gone p going) })
      → Follows x (standing x (record m { command = Some (gone p going) }) (goes_on (is_at x going.leaving))) (waits_for m (gone p going))
  going_waits m p going apt = gone_ends (record m { command = Some (gone p going) }) p going going.complete going.moving refl refl refl apt

  -- a recovery does
  pub recovering_waits : (m : MasterProc) (id : ℕ) (terminal : Bool) (o : Option Node) → IsApt (record m { command = Some (recovering id terminal o) })
      → Follows x (standing x (record m { command = Some (recovering id terminal o) }) rests) (waits_for m (recovering id terminal o))
  recovering_waits m id terminal o apt = recovering_ends (record m { command = Some (recovering id terminal o) }) id terminal o o refl apt
