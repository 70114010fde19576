-- A command begins: what that says to a secondary node.
use Rattle.node_rules.specs.declared.commands.Membership.{Membership}
use Rattle.std.proofs.Common.{◌<◌, ℕ, ◌≡◌, ◌≤◌, ◌++◌, ◌==◌, ◌+◌, Bool, true, false, List, [], ◌∷◌, Option, Some, None, refl, sym, ap, subst, ◌∙◌, arith}
use Rattle.std.specs.Prelude.{◌&&◌, if◌then◌else◌, is_none, ⊤, ◌||◌}
use Rattle.std.proofs.lemmas.Bool.{ne_eqb}
use Rattle.std.proofs.lemmas.List.{append-nil}
use Rattle.dc_base.specs.Nodes.{is_same_node, is_secondary}
use Rattle.dc_base.specs.declared.events.Note.TheVariants as note
use Rattle.dc_base.specs.declared.nodes.Node.{Node}
use Rattle.dc_base.specs.declared.nodes.Want.{Want}
use Rattle.dc_base.specs.declared.nodes.Want.TheVariants as want
use Rattle.dc_base.specs.declared.records.Rec.{Rec}
use Rattle.dc_base.specs.declared.records.Rec.TheVariants as rec
use Rattle.node_rules.specs.Drafts.{Draft}
use Rattle.node_rules.specs.MasterGo.{alone, begins, begins_by, drawn, first_record, let_go, lets_go, moves_here, preparing}
use Rattle.node_rules.specs.MasterState.{MasterProc, waits_at}
use Rattle.node_rules.specs.Places.{is_at}
use Rattle.node_rules.specs.declared.acts.Act.TheVariants.{Prepare as prepare, Say as say, Send as send}
use Rattle.node_rules.specs.declared.commands.Change.{Change}
use Rattle.node_rules.specs.declared.commands.First.{First}
use Rattle.node_rules.specs.declared.commands.First.TheVariants.{Addition as addition, Modification as modification, Release as release}
use Rattle.node_rules.specs.declared.commands.Leaving.TheVariants.{ByReleaseConfirm as by_release_confirm}
use Rattle.node_rules.specs.declared.commands.Membership.TheVariants.{Joined as joined, Left as left}
use Rattle.run_control.specs.Claims.{IsFirst, asks, goes_on, membership_if, rests}
use Rattle.run_control.specs.Rows.{Reads, has_row, is_request}
use Rattle.run_control.specs.SecondControl.{Views, bare_record}
use Rattle.run_control.proofs.Sent.{either}
use Rattle.run_control.proofs.Turns.{never}
use Rattle.node_rules.specs.MasterGo.{moving_by}
use Rattle.run_pairs.specs.Fits.{AreFitting, bearing_by}
use Rattle.run_pairs.specs.Pairs.{IsPair}
use Rattle.run_pairs.proofs.DraftBearers.{plan_fits}
use Rattle.run_pairs.proofs.FitSteps.{IsLater, aside_items, aside_moving, fits_on, fits_with, free_plan, later_aside, later_bound, master_items, still_line}
use Rattle.run_pairs.proofs.Going.{gone_standing}
use Rattle.run_pairs.specs.Apt.{IsApt, IsAskedAs}
use Rattle.run_pairs.specs.Pairs.{IsLineOf, IsWithin, Standing, asked_for, begun_asked, begun_for, standing, waiting_of}
use Rattle.run_pairs.proofs.Following.{Follows, Leads, before_follows, follows_from, leads_none, leads_to}
use Rattle.run_pairs.proofs.Going.{IsConcerned, IsReady, goes_follows, leaves_by, stays_by}
use Rattle.run_pairs.proofs.Lines.{asking_line, request_still, request_wants}
use Rattle.run_pairs.proofs.Placed.{IsAptDraft, IsStart}
use Rattle.run_pairs.proofs.Putting.{put_here, put_there}
use Rattle.run_pairs.proofs.Replies.{lone, node_itself, replies_fresh, replies_rest, same_node}

-- ---- where no command is open

-- the standing, with this owed
abbrev pub rested : Node → MasterProc → List Want → Standing
rested x m owed = record {
  secondary = is_at x m.table.sec;
  stand = rests;
  owed = owed;
  replies = [];
  last = m.table.last;
  bearing = record { rows = m.table.rows; moving = []; gen = 0; below = m.table.last + 1 };
}

-- and with what is to be answered by a command that begins now
abbrev pub free : Node → MasterProc → List Want → Standing
free x m more = rested x m (waiting_of (waits_at m x) ++ more)

-- the standing where no command is open
pub at_rest : (x : Node) (m : MasterProc) → m.command ≡ None → standing x m rests ≡ free x m []
at_rest x m none = ap (λ c. record (standing x m rests) { owed = waiting_of (waits_at m x) ++ begun_for x c; bearing = bearing_by m c rests }) none

-- a plan may be carried out
pub rested_ready : (x : Node) (m : MasterProc) (owed : List Want) → IsReady (rested x m owed) m
rested_ready x m owed = record { plain = λ down line. line; answers = λ l up none. replies_rest rests (goes_on l) (λ g. refl) up none; last = refl }

-- ---- a draft is drawn

later_fresh : {last g : ℕ} → g ≡ last + 1 → last ≤ g
later_fresh fresh = omega (arith, fresh)

next_fresh : (last g : ℕ) → g ≡ last + 1 → last + 1 ≤ g + 1
next_fresh last g fresh = omega (arith, fresh)

now_fresh : (last g : ℕ) → g ≡ last + 1 → last + 1 ≤ g
now_fresh last g fresh = omega (arith, fresh)

drawn_leads : (x : Node) (m : MasterProc) (d : Draft) (owed : List Want) → d.change.plan.g ≡ m.table.last + 1 → Leads x (rested x m owed) (rested x (drawn m d) owed) []
drawn_leads x m d owed fresh =
    leads_to x (rested x m owed) (rested x (drawn m d) owed) [] [] (λ views. refl) (record {
      shift = λ w up owes. (w, owes, (refl, refl));
      line = λ down line old. subst (λ ds. IsLineOf rests ds) (sym (append-nil down)) line;
      answers = λ up old answers. answers;
      later = later_fresh fresh;
      within = tt;
      fits = λ mem w at down up all pair fit.
          fits_on x (rested x m owed).bearing (rested x (drawn m d) owed).bearing [] (later_bound x (rested x m owed).bearing (d.change.plan.g + 1) (next_fresh m.table.last d.change.plan.g fresh)) tt at down all fit;
    })

-- ---- a node is asked

bare_first : (roots : List (List ℕ)) (first : First) (c : Change) → bare_record (first_record roots first c) ≡ first_record roots first c
bare_first roots addition c = refl
bare_first roots modification c = refl
bare_first roots release c = refl

first_request : (roots : List (List ℕ)) (first : First) (c : Change) (who : Node) (wanted : Bool) (before : Option Node) → IsAskedAs first who wanted c.plan.sec before → is_request (first_record roots first c) ≡ true
first_request roots addition c who wanted before nodes = refl
first_request roots modification c who wanted before nodes = refl
first_request roots release c who wanted before nodes = ap is_none nodes.0

first_row : (roots : List (List ℕ)) (first : First) (c : Change) (who : Node) (wanted : Bool) (before : Option Node) (w : Option Want) → IsAskedAs first who wanted c.plan.sec before
    → has_row (membership_if (is_at who before)) w (first_record roots first c) ≡ true
first_row roots addition c who wanted before w nodes = ap (λ b. has_row (membership_if b) w (first_record roots addition c)) nodes.2
first_row roots modification c who wanted before w nodes = ap (λ o. has_row (membership_if (is_at who o)) w (first_record roots modification c)) nodes.1 ∙ itself (first_record roots modification c) who refl
  where
    itself : (r : Rec) (y : Node) → has_row joined w r ≡ true → has_row (membership_if (is_same_node y y)) w r ≡ true
    itself r y row = subst (λ b. has_row (membership_if b) w r ≡ true) (sym (node_itself y)) row
first_row roots release c who wanted before w nodes = ap (λ o. has_row (membership_if (is_at who o)) w (first_record roots release c)) nodes.1 ∙ itself (first_record roots release c) who refl
  where
    itself : (r : Rec) (y : Node) → has_row joined w r ≡ true → has_row (membership_if (is_same_node y y)) w r ≡ true
    itself r y row = subst (λ b. has_row (membership_if b) w r ≡ true) (sym (node_itself y)) row

first_is : (roots : List (List ℕ)) (first : First) (c : Change) → IsFirst first c.plan (first_record roots first c)
first_is roots addition c = refl
first_is roots modification c = refl
first_is roots release c = refl

first_within : (roots : List (List ℕ)) (first : First) (c : Change) → IsWithin c.plan.g (first_record roots first c)
first_within roots addition c = tt
first_within roots modification c = tt
first_within roots release c = omega arith

-- what a draft begins for the node
abbrev pub begun_by : Node → Bool → Option (First × Node) → List Want
begun_by x wanted None = []
begun_by x wanted (Some (first, who)) = begun_asked x first who wanted

module _ (x : Node) (second : is_secondary x ≡ true) (m : MasterProc) (apt : IsApt m) (d : Draft) (wanted : Bool) (draft_is : IsAptDraft m.table wanted d) (owed : List Want) where
  -- the state in which it is asked
  abbrev asked_proc : First → Node → MasterProc
  asked_proc first who = (begins_by (drawn m d) d wanted (Some (first, who))).0

  asked_apt : (first : First) (who : Node) → IsAskedAs first who wanted d.change.plan.sec m.table.sec → IsApt (asked_proc first who)
  asked_apt first who nodes = record { second = apt.second; rows = apt.rows; up = apt.up; command = record { fresh = refl; nodes = nodes; rows = draft_is.rows (drawn m d).table; items = draft_is.items } }

  joined_before : (who : Node) → m.table.sec ≡ Some who → x ≡ who → membership_if (is_at x m.table.sec) ≡ joined
  joined_before who is here = ap membership_if (ap (is_at x) is ∙ subst (λ y. is_same_node x y ≡ true) here (node_itself x))

  -- the request fits its bearers
  asked_fits : (first : First) (who : Node) → IsAskedAs first who wanted d.change.plan.sec m.table.sec → x ≡ who → (mem : Membership) (w : Option Want) (at : Views) (down up all : List Rec) → IsPair (rested x m owed) mem w down up
      → AreFitting x (rested x m owed).bearing at down all
      → AreFitting x (record { rows = m.table.rows; moving = []; gen = 0; below = d.change.plan.g }) at (down ++ first_record (drawn m d).table.book.roots first d.change ∷ []) all
  asked_fits addition who nodes here mem w at down up all pair fit =
      fits_on x (rested x m owed).bearing (record { rows = m.table.rows; moving = []; gen = 0; below = d.change.plan.g }) (first_record (drawn m d).table.book.roots addition d.change ∷ [])
      (later_bound x (rested x m owed).bearing d.change.plan.g (now_fresh m.table.last d.change.plan.g draft_is.fresh)) (
        record {
          free = λ at'. ap (λ b. b && true) (free_plan x m.table.sec m.table.rows d.change.plan second (ap (λ z. is_at z m.table.sec) here ∙ nodes.2) apt.rows draft_is.items.olds at');
          below = tt;
        },
        tt,
      ) at down all fit
  asked_fits modification who nodes here mem w at down up all pair fit =
      fits_with x (rested x m owed).bearing (record { rows = m.table.rows; moving = []; gen = 0; below = d.change.plan.g }) (first_record (drawn m d).table.book.roots modification d.change)
      (later_bound x (rested x m owed).bearing d.change.plan.g (now_fresh m.table.last d.change.plan.g draft_is.fresh)) at down all (λ held. ap (λ b. b && true) (plan_fits x at m.table.rows held d.change.plan draft_is.items.olds)) tt
      (still_line mem w down pair.wants pair.line (subst (λ n. Reads mem w down n pair.wants) (joined_before who nodes.1 here) pair.reads)) fit
  asked_fits release who nodes here mem w at down up all pair fit =
      fits_with x (rested x m owed).bearing (record { rows = m.table.rows; moving = []; gen = 0; below = d.change.plan.g }) (first_record (drawn m d).table.book.roots release d.change)
      (later_bound x (rested x m owed).bearing d.change.plan.g (now_fresh m.table.last d.change.plan.g draft_is.fresh)) at down all (λ held. ap (λ b. b && true) (plan_fits x at m.table.rows held d.change.plan draft_is.items.olds))
      (λ some. absurd (never (is_none d.change.plan.sec) (ap is_none nodes.0) some)) (still_line mem w down pair.wants pair.line (subst (λ n. Reads mem w down n pair.wants) (joined_before who nodes.1 here) pair.reads)) fit

  -- the node is the one
  asked_here : (first : First) (who : Node) → IsAskedAs first who wanted d.change.plan.sec m.table.sec → waiting_of (waits_at m x) ++ begun_asked x first who wanted ≡ owed → x ≡ who
      → Follows x (rested x m owed) (begins_by (drawn m d) d wanted (Some (first, who)))
  asked_here first who nodes same here =
      let roots = (drawn m d).table.book.roots in
      let r = first_record roots first d.change in
      let v' = standing x (asked_proc first who) (asks first d.change.plan) in
      let request = first_request roots first d.change who wanted m.table.sec nodes in
      record {
        stand = asks first d.change.plan;
        stands = (here, refl, refl);
        apt = asked_apt first who nodes;
        leads = leads_to x (rested x m owed) v' (send who r ∷ []) (r ∷ [])
            (λ views. put_here x who r views second (subst (λ y. is_same_node x y ≡ true) here (node_itself x)) ∙ ap (λ z. z ∷ []) (bare_first roots first d.change)) (record {
              shift = λ w up owes. (
                w,
                ap (λ l. l ++ asked_for up) same ∙ owes,
                (
                  subst (λ y. has_row (membership_if (is_at y m.table.sec)) w r ≡ true) (sym here) (first_row roots first d.change who wanted m.table.sec w nodes),
                  (request_still (membership_if (is_at x m.table.sec)) r request, request_wants w r request),
                ),
              );
              line = λ down line old. asking_line first d.change.plan m.table.last down r draft_is.fresh request (first_is roots first d.change) line old;
              answers = λ up old answers. replies_fresh first d.change.plan m.table.last draft_is.fresh up old answers;
              later = later_fresh draft_is.fresh;
              within = (first_within roots first d.change, tt);
              fits = λ mem w at down up all pair fit. asked_fits first who nodes here mem w at down up all pair fit;
            });
      }

  -- it is not
  asked_apart : (first : First) (who : Node) → IsAskedAs first who wanted d.change.plan.sec m.table.sec → waiting_of (waits_at m x) ++ begun_asked x first who wanted ≡ owed → is_same_node x who ≡ false
      → Follows x (rested x m owed) (begins_by (drawn m d) d wanted (Some (first, who)))
  asked_apart first who nodes same apart =
      let r = first_record (drawn m d).table.book.roots first d.change in
      record {
        stand = rests;
        stands = apart;
        apt = asked_apt first who nodes;
        leads = leads_to x (rested x m owed) (standing x (asked_proc first who) rests) (send who r ∷ []) [] (λ views. put_there x who r views second apart) (record {
          shift = λ w up owes. (w, ap (λ l. l ++ asked_for up) same ∙ owes, (refl, refl));
          line = λ down line old. subst (λ ds. IsLineOf rests ds) (sym (append-nil down)) line;
          answers = λ up old answers. answers;
          later = later_fresh draft_is.fresh;
          within = tt;
          fits = λ mem w at down up all pair fit.
              fits_on x (rested x m owed).bearing (standing x (asked_proc first who) rests).bearing [] (later_bound x (rested x m owed).bearing (d.change.plan.g + 1) (next_fresh m.table.last d.change.plan.g draft_is.fresh)) tt at down all fit;
        });
      }

  -- nobody is asked: the plan is carried out
  alone_goes : d.first ≡ None → d.change.plan.sec ≡ m.table.sec → waiting_of (waits_at m x) ++ [] ≡ owed → Follows x (rested x m owed) (begins_by (drawn m d) d wanted None)
  alone_goes nobody same owes =
      follows_from x (rested x m owed) (rested x (drawn m d) owed) (begins_by (drawn m d) d wanted None) (drawn_leads x m d owed draft_is.fresh)
      (goes_follows x second (rested x (drawn m d) owed) (drawn m d) d.change alone (rested_ready x (drawn m d) owed) apt.up
      (stays_by refl (ap (λ s. membership_if (is_at x s)) (sym same)) owes
      (later_aside (drawn m d).table x d.change.plan m.table.rows (moving_by d.change.plan) d.change.plan.g (d.change.plan.g + 1) (rested x (drawn m d) owed).bearing refl
      (master_items x d.change.plan.sec second d.change.plan.items (draft_is.alone nobody)) (aside_moving x d.change.plan.sec d.change.plan.items (master_items x d.change.plan.sec second d.change.plan.items (draft_is.alone nobody))))) draft_is.second (draft_is.rows (drawn m d).table) tt tt)

  begins_by_follows : (o : Option (First × Node)) → d.first ≡ o → IsStart wanted o d.change.plan.sec m.table.sec → waiting_of (waits_at m x) ++ begun_by x wanted o ≡ owed → Follows x (rested x m owed) (begins_by (drawn m d) d wanted o)
  begins_by_follows None is start owes = alone_goes is start owes
  begins_by_follows (Some (first, who)) is start owes = by (is_same_node x who) refl
    where
      by : (b : Bool) → is_same_node x who ≡ b → Follows x (rested x m owed) (begins_by (drawn m d) d wanted (Some (first, who)))
      by true here = asked_here first who start owes (same_node x who here)
      by false apart = asked_apart first who start owes apart

  -- the waiting anchors at the master are nothing to the node
  prepared : (v : Standing) → Leads x v v (preparing d.change.plan)
  prepared v = either (λ acts. Leads x v v acts) (moves_here d.change.plan) (prepare d.change.plan ∷ []) [] (leads_none x v (prepare d.change.plan ∷ []) (λ views. refl)) (leads_none x v [] (λ views. refl))

  begins_follows : waiting_of (waits_at m x) ++ begun_by x wanted d.first ≡ owed → Follows x (rested x m owed) (begins m d wanted)
  begins_follows owes = before_follows x (rested x m owed) (rested x m owed) (preparing d.change.plan) (begins_by (drawn m d) d wanted d.first) (prepared (rested x m owed)) (begins_by_follows d.first refl draft_is.start owes)

-- ---- any draft

-- what is owed then
abbrev pub BegunAs : Node → MasterProc → Bool → Option Draft → List Want → Type 0
BegunAs x m wanted None owed = ⊤
BegunAs x m wanted (Some d) owed = waiting_of (waits_at m x) ++ begun_by x wanted d.first ≡ owed

-- a draft, where there is one
pub begun_follows : (x : Node) (m : MasterProc) (wanted : Bool) (d : Draft) (owed : List Want) → is_secondary x ≡ true → IsApt m → IsAptDraft m.table wanted d → BegunAs x m wanted (Some d) owed → Follows x (rested x m owed) (begins m d wanted)
begun_follows x m wanted d owed second apt draft_is owes = begins_follows x second m apt d wanted draft_is owed owes

-- ---- a release that a node asked for

less_next : (g : ℕ) → g < g + 1
less_next g = omega arith

or_true : (b : Bool) → (b || true) ≡ true
or_true true = refl
or_true false = refl

-- what the node is owed: if it is the one, the answer to its request
abbrev pub LetGoOf : Node → Node → MasterProc → List Want → Type 0
LetGoOf x y m owed = (is_same_node x y ≡ true → (owed ≡ want.Release ∷ []) × (waits_at m x ≡ false)) × (is_same_node x y ≡ false → waiting_of (waits_at m x) ++ [] ≡ owed)

module _ (x : Node) (second : is_secondary x ≡ true) (m : MasterProc) (apt : IsApt m) (y : Node) (d : Draft) (is_second : m.table.sec ≡ Some y) (after : d.change.plan.sec ≡ None) (draft_is : IsAptDraft m.table true d) (owed : List Want) (owes : LetGoOf x y m owed) where
  not_zero : (d.change.plan.g == 0) ≡ false
  not_zero = ne_eqb d.change.plan.g 0 (λ e. omega (arith, e, draft_is.fresh))

  none_there : is_at x d.change.plan.sec ≡ false
  none_there = ap (is_at x) after

  later : IsLater x (rested x (drawn m d) owed).bearing (gone_standing x (drawn m d) d.change (let_go y)).bearing
  later =
      later_aside (drawn m d).table x d.change.plan m.table.rows (moving_by d.change.plan) d.change.plan.g (d.change.plan.g + 1) (rested x (drawn m d) owed).bearing refl (aside_items x d.change.plan.sec second none_there d.change.plan.items)
      (aside_moving x d.change.plan.sec d.change.plan.items (aside_items x d.change.plan.sec second none_there d.change.plan.items))

  concerned : (b : Bool) → is_same_node x y ≡ b → IsConcerned x (rested x (drawn m d) owed) (drawn m d) d.change (let_go y)
  concerned false apart = stays_by apart (ap (λ o. membership_if (is_at x o)) is_second ∙ ap membership_if apart ∙ sym (ap membership_if none_there)) (owes.1 apart) later
  concerned true here =
      leaves_by by_release_confirm here refl none_there (ap (λ o. membership_if (is_at x o)) is_second ∙ ap membership_if here) refl tt
      (λ w up is. let at = lone want.Release (asked_for up) w (sym (ap (λ l. l ++ asked_for up) (owes.0 here).0) ∙ is) in record {
        row = ap (λ z. has_row joined z (rec.Relcnf d.change.plan)) at.1 ∙ or_true (d.change.plan.g == 0);
        leaves = ap (λ b. if b then joined else left) not_zero;
        owed = ap (λ b. (waiting_of b ++ []) ++ asked_for up) (owes.0 here).1 ∙ at.0;
      }) later (λ at held. ap (λ b. b && true) (plan_fits x at m.table.rows held d.change.plan draft_is.items.olds)) (less_next d.change.plan.g)

  pub lets_go_follows : Follows x (rested x m owed) (lets_go m y d)
  lets_go_follows =
      before_follows x (rested x m owed) (rested x m owed) (say (note.Begin want.Release) ∷ preparing d.change.plan) _
      (either (λ acts. Leads x (rested x m owed) (rested x m owed) (say (note.Begin want.Release) ∷ acts)) (moves_here d.change.plan) (prepare d.change.plan ∷ []) []
      (leads_none x (rested x m owed) (say (note.Begin want.Release) ∷ prepare d.change.plan ∷ []) (λ views. refl)) (leads_none x (rested x m owed) (say (note.Begin want.Release) ∷ []) (λ views. refl)))
      (follows_from x (rested x m owed) (rested x (drawn m d) owed) _ (drawn_leads x m d owed draft_is.fresh)
      (goes_follows x second (rested x (drawn m d) owed) (drawn m d) d.change (let_go y) (rested_ready x (drawn m d) owed) apt.up
      (concerned (is_same_node x y) refl) draft_is.second (draft_is.rows (drawn m d).table) tt (ap (is_at y) after)))
