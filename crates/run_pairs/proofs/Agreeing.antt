-- The asked node agreed, and its plan is carried out: what that says to a secondary node.
use Rattle.std.proofs.Common.{◌+◌, ◌<◌, ℕ, ◌≡◌, ◌≤◌, ◌++◌, ◌==◌, Bool, true, false, List, [], Option, Some, None, refl, sym, ap, subst, ◌∙◌, arith}
use Rattle.std.specs.Prelude.{if◌then◌else◌, is_none, ◌&&◌}
use Rattle.std.proofs.lemmas.Bool.{eq-eqb}
use Rattle.dc_base.specs.Nodes.{is_same_node, is_secondary}
use Rattle.dc_base.specs.declared.nodes.Node.{Node}
use Rattle.dc_base.specs.declared.nodes.Node.TheVariants.{A, B, M, T}
use Rattle.dc_base.specs.declared.nodes.Want.{Want}
use Rattle.dc_base.specs.declared.nodes.Want.TheVariants as want
use Rattle.dc_base.specs.declared.records.Plan.{Plan}
use Rattle.dc_base.specs.declared.records.Rec.TheVariants as rec
use Rattle.dc_base.specs.declared.records.RecKind.{RecKind}
use Rattle.node_rules.specs.MasterGo.{change_told, goes, way}
use Rattle.node_rules.specs.MasterRecords.{agreed, agreed_if, is_answer, is_same_first}
use Rattle.node_rules.specs.MasterState.{MasterProc, waits_at}
use Rattle.node_rules.specs.Places.{is_at, other_second}
use Rattle.node_rules.specs.declared.commands.Change.{Change}
use Rattle.node_rules.specs.declared.commands.Command.{Command}
use Rattle.node_rules.specs.declared.commands.Command.TheVariants.{Asked as asked, Gone as gone, Recovering as recovering}
use Rattle.node_rules.specs.declared.commands.First.{First}
use Rattle.node_rules.specs.declared.commands.First.TheVariants.{Addition as addition, Modification as modification, Release as release}
use Rattle.node_rules.specs.declared.commands.Membership.TheVariants.{Joined as joined, Left as left}
use Rattle.run_control.specs.Claims.{IsStandOf, Stand, agrees, asks, goes_on, membership_if, refuses, rests}
use Rattle.run_control.specs.Rows.{has_row}
use Rattle.run_control.specs.Sound.{IsSecond}
use Rattle.node_rules.specs.CommandTable.{carried}
use Rattle.node_rules.specs.MasterGo.{moving_by}
use Rattle.run_control.specs.Books.{RowsFrom}
use Rattle.run_pairs.specs.Fits.{bearing_by}
use Rattle.run_pairs.proofs.DraftBearers.{plan_fits}
use Rattle.run_pairs.proofs.FitSteps.{IsLater, aside_items, aside_moving, later_aside, later_same}
use Rattle.run_control.proofs.Turns.{never}
use Rattle.run_pairs.specs.Apt.{IsApt, IsAptAsked, IsAptCommand, IsAskedAs, IsDueAt, IsLeavingFrom}
use Rattle.run_pairs.specs.Pairs.{Standing, asked_for, begun_as, begun_asked, begun_for, standing, waiting_of}
use Rattle.run_pairs.proofs.Beginning.{rested, rested_ready}
use Rattle.run_pairs.proofs.Following.{Follows, follows_still, taken_or}
use Rattle.run_pairs.proofs.Going.{IsConcerned, IsReady, goes_follows, leaves_by, left_by, stays_by}
use Rattle.run_pairs.proofs.Lines.{notices_plain}
use Rattle.run_pairs.proofs.Replies.{apart_turned, cleared, lone_between, node_itself, replies_rest, same_node}

-- ---- nodes

pub apart_other : (x : Node) → is_same_node x (other_second x) ≡ false
apart_other T = refl
apart_other M = refl
apart_other A = refl
apart_other B = refl

-- ---- the way of a plan that a node agreed to

asked_second : (first : First) (who : Node) (wanted : Bool) (after before : Option Node) → IsSecond before → IsAskedAs first who wanted after before → IsSecond after
asked_second addition who wanted after before second nodes = subst IsSecond (sym nodes.0) nodes.1
asked_second modification who wanted after before second nodes = subst IsSecond (nodes.1 ∙ sym nodes.0) second
asked_second release who wanted after before second nodes = subst IsSecond (sym nodes.0) tt

way_due_at : (first : First) (who : Node) (wanted : Bool) (after before : Option Node) → IsAskedAs first who wanted after before → IsDueAt (way first who wanted before).due after
way_due_at addition who wanted after before nodes = nodes.0
way_due_at modification who wanted after before nodes = nodes.0
way_due_at release who wanted after before nodes = tt

leaves_other : (who : Node) (after before : Option Node) → after ≡ Some who → is_at who before ≡ false → IsLeavingFrom before after
leaves_other who after None is apart = tt
leaves_other who after (Some y) is apart = ap (is_at y) is ∙ apart_turned who y apart

way_leaving_from : (first : First) (who : Node) (wanted : Bool) (after before : Option Node) → IsAskedAs first who wanted after before → IsLeavingFrom (way first who wanted before).leaving after
way_leaving_from addition who wanted after before nodes = leaves_other who after before nodes.0 nodes.2
way_leaving_from modification who wanted after before nodes = tt
way_leaving_from release who wanted after before nodes = ap (is_at who) nodes.0

-- ---- the node that agreed

-- the standing, once the acknowledge came
abbrev pub agreed_standing : Node → MasterProc → First → Plan → List Want → Standing
agreed_standing x m first p owed = record { secondary = is_at x m.table.sec; stand = agrees first p; owed = owed; replies = []; last = m.table.last; bearing = bearing_by m m.command (agrees first p) }

agreed_ready : (x : Node) (m : MasterProc) (first : First) (p : Plan) (owed : List Want) → IsReady (agreed_standing x m first p owed) m
agreed_ready x m first p owed = record { plain = λ down line. notices_plain down line; answers = λ l up none. replies_rest (agrees first p) (goes_on l) (λ g. refl) up none; last = refl }

joined_there : (x : Node) (after : Option Node) → after ≡ Some x → joined ≡ membership_if (is_at x after)
joined_there x after is = sym (ap (λ o. membership_if (is_at x o)) is ∙ ap membership_if (node_itself x))

nothing_changed : (x : Node) (waits : List Want) (wanted : Bool) → waits ++ begun_as want.Rekey false ≡ waits ++ begun_asked x addition x wanted
nothing_changed x waits true = ap (λ b. waits ++ begun_as want.Change b) (sym (apart_other x))
nothing_changed x waits false = refl

module _ (x : Node) (second : is_secondary x ≡ true) (m : MasterProc) (is_second : IsSecond m.table.sec) (ascends : RowsFrom 0 m.table.rows) (c : Change) (wanted : Bool) where
  -- the asked one
  concerned_here : (first : First) → IsAskedAs first x wanted c.plan.sec m.table.sec
      → IsConcerned x (agreed_standing x m first c.plan (waiting_of (waits_at m x) ++ begun_asked x first x wanted)) m c (way first x wanted m.table.sec)
  concerned_here addition nodes = stays_by nodes.2 (joined_there x c.plan.sec nodes.0) (nothing_changed x (waiting_of (waits_at m x)) wanted) (later_same x _)
  concerned_here modification nodes = stays_by refl (joined_there x c.plan.sec nodes.0) (rekeyed wanted) (later_same x _)
    where
      rekeyed : (b : Bool) → waiting_of (waits_at m x) ++ begun_as want.Rekey ((b && true) && is_at x (Some x)) ≡ waiting_of (waits_at m x) ++ begun_asked x modification x b
      rekeyed true = refl
      rekeyed false = refl
  concerned_here release nodes = left_by (node_itself x) refl (ap (is_at x) nodes.0) refl (nothing wanted) (later_same x _)
    where
      nothing : (b : Bool) → waiting_of (waits_at m x) ++ [] ≡ waiting_of (waits_at m x) ++ begun_asked x release x b
      nothing true = refl
      nothing false = refl

  pub agreed_here : (first : First) → IsAptAsked m.table c first x wanted
      → Follows x (agreed_standing x m first c.plan (waiting_of (waits_at m x) ++ begun_asked x first x wanted)) (goes m c (way first x wanted m.table.sec))
  agreed_here first apt =
      let owed = waiting_of (waits_at m x) ++ begun_asked x first x wanted in
      goes_follows x second (agreed_standing x m first c.plan owed) m c (way first x wanted m.table.sec) (agreed_ready x m first c.plan owed) ascends (concerned_here first apt.nodes)
      (asked_second first x wanted c.plan.sec m.table.sec is_second apt.nodes) apt.rows (way_due_at first x wanted c.plan.sec m.table.sec apt.nodes) (way_leaving_from first x wanted c.plan.sec m.table.sec apt.nodes)

-- ---- the other one

module _ (x : Node) (second : is_secondary x ≡ true) (m : MasterProc) (is_second : IsSecond m.table.sec) (ascends : RowsFrom 0 m.table.rows) (c : Change) (who : Node) (apart : is_same_node x who ≡ false) where
  -- what is said of its bearers then
  later : is_at x c.plan.sec ≡ false
      → IsLater x (record { rows = m.table.rows; moving = []; gen = 0; below = m.table.last + 1 }) (record { rows = (carried m.table c).rows; moving = moving_by c.plan; gen = c.plan.g; below = m.table.last + 1 })
  later away =
      later_aside m.table x c.plan m.table.rows (moving_by c.plan) c.plan.g (m.table.last + 1) (record { rows = m.table.rows; moving = []; gen = 0; below = m.table.last + 1 }) refl (aside_items x c.plan.sec second away c.plan.items)
      (aside_moving x c.plan.sec c.plan.items (aside_items x c.plan.sec second away c.plan.items))

  less : c.plan.g ≡ m.table.last → c.plan.g < m.table.last + 1
  less e = omega (arith, e)

  -- it leaves by a change
  leaves_so : (wanted : Bool) → IsAptAsked m.table c addition who wanted → is_at x m.table.sec ≡ true
      → IsConcerned x (rested x m (waiting_of (waits_at m x) ++ begun_asked x addition who wanted)) m c (way addition who wanted m.table.sec)
  leaves_so false apt there =
      leaves_by (change_told false) there refl (ap (is_at x) apt.nodes.0 ∙ apart) (ap membership_if there) (ap is_none apt.nodes.0) (within apt.fresh)
      (λ u up owes. record { row = refl; leaves = ap (λ b. if b then joined else left) (ap is_none apt.nodes.0); owed = owes })
      (later (ap (is_at x) apt.nodes.0 ∙ apart)) (λ at held. ap (λ b. b && true) (plan_fits x at m.table.rows held c.plan apt.items.olds)) (λ some. less apt.fresh)
    where
      within : {g last : ℕ} → g ≡ last → g ≤ last
      within e = omega (arith, e)
  leaves_so true apt there =
      leaves_by (change_told true) there refl (ap (is_at x) apt.nodes.0 ∙ apart) (ap membership_if there) refl tt
      (λ u up owes.
      let at = lone_between (waiting_of (waits_at m x)) want.Change (asked_for up) u (sym (ap (λ b. (waiting_of (waits_at m x) ++ begun_as want.Change b) ++ asked_for up) asker) ∙ owes) in record {
        row = ap (λ z. has_row joined z (rec.Chgcnf c.plan)) at.2;
        leaves = refl;
        owed = cleared (waiting_of (waits_at m x)) (asked_for up) at.0 at.1;
      })
      (later (ap (is_at x) apt.nodes.0 ∙ apart)) (λ at held. ap (λ b. b && true) (plan_fits x at m.table.rows held c.plan apt.items.olds)) (less apt.fresh)
    where
      asker : is_same_node x (other_second who) ≡ true
      asker = sym (ap (is_at x) (apt.nodes.3 refl)) ∙ there

  -- it is not the secondary node of before
  stays_so : (wanted : Bool) → IsAptAsked m.table c addition who wanted → is_at x m.table.sec ≡ false
      → IsConcerned x (rested x m (waiting_of (waits_at m x) ++ begun_asked x addition who wanted)) m c (way addition who wanted m.table.sec)
  stays_so false apt away = stays_by away (ap membership_if away ∙ sym (ap membership_if (ap (is_at x) apt.nodes.0 ∙ apart))) refl (later (ap (is_at x) apt.nodes.0 ∙ apart))
  stays_so true apt away =
      stays_by away (ap membership_if away ∙ sym (ap membership_if (ap (is_at x) apt.nodes.0 ∙ apart)))
      (ap (λ b. waiting_of (waits_at m x) ++ begun_as want.Change b) (sym (sym (ap (is_at x) (apt.nodes.3 refl)) ∙ away))) (later (ap (is_at x) apt.nodes.0 ∙ apart))

  concerned_there : (first : First) (wanted : Bool) → IsAptAsked m.table c first who wanted → IsConcerned x (rested x m (waiting_of (waits_at m x) ++ begun_asked x first who wanted)) m c (way first who wanted m.table.sec)
  concerned_there addition wanted apt = by (is_at x m.table.sec) refl
    where
      by : (b : Bool) → is_at x m.table.sec ≡ b → IsConcerned x (rested x m (waiting_of (waits_at m x) ++ begun_asked x addition who wanted)) m c (way addition who wanted m.table.sec)
      by true there = leaves_so wanted apt there
      by false away = stays_so wanted apt away
  concerned_there modification wanted apt =
      stays_by refl (ap membership_if (ap (is_at x) apt.nodes.1) ∙ sym (ap membership_if (ap (is_at x) apt.nodes.0))) (rekeyed wanted) (later (ap (is_at x) apt.nodes.0 ∙ apart))
    where
      rekeyed : (b : Bool) → waiting_of (waits_at m x) ++ begun_as want.Rekey ((b && true) && is_same_node x who) ≡ waiting_of (waits_at m x) ++ begun_asked x modification who b
      rekeyed true = refl
      rekeyed false = refl
  concerned_there release wanted apt =
      stays_by apart (ap membership_if (ap (is_at x) apt.nodes.1 ∙ apart) ∙ sym (ap membership_if (ap (is_at x) apt.nodes.0))) (nothing wanted) (later (ap (is_at x) apt.nodes.0))
    where
      nothing : (b : Bool) → waiting_of (waits_at m x) ++ [] ≡ waiting_of (waits_at m x) ++ begun_asked x release who b
      nothing true = refl
      nothing false = refl

  pub agreed_there : (first : First) (wanted : Bool) → IsAptAsked m.table c first who wanted
      → Follows x (rested x m (waiting_of (waits_at m x) ++ begun_asked x first who wanted)) (goes m c (way first who wanted m.table.sec))
  agreed_there first wanted apt =
      let owed = waiting_of (waits_at m x) ++ begun_asked x first who wanted in
      goes_follows x second (rested x m owed) m c (way first who wanted m.table.sec) (rested_ready x m owed) ascends (concerned_there first wanted apt)
      (asked_second first who wanted c.plan.sec m.table.sec is_second apt.nodes) apt.rows (way_due_at first who wanted c.plan.sec m.table.sec apt.nodes) (way_leaving_from first who wanted c.plan.sec m.table.sec apt.nodes)

-- ---- the acknowledge

first_itself : (f : First) → is_same_first f f ≡ true
first_itself addition = refl
first_itself modification = refl
first_itself release = refl

-- it is the answer to what was asked
pub answers_it : (f : First) (x : Node) (g : ℕ) (first : First) (who : Node) (h : ℕ) → f ≡ first → x ≡ who → g ≡ h → is_answer f x g first who h ≡ true
answers_it f x g first who h p q r =
    ap (λ b. (b && is_same_node x who) && (g == h)) (subst (λ z. is_same_first f z ≡ true) p (first_itself f))
    ∙ ap (λ b. b && (g == h)) (subst (λ z. is_same_node x z ≡ true) q (node_itself x)) ∙ eq-eqb g h r

-- it comes from the node that was asked
pub answer_from : (f : First) (y : Node) (g : ℕ) (first : First) (who : Node) (h : ℕ) → is_answer f y g first who h ≡ true → y ≡ who
answer_from f y g first who h is = by (is_same_first f first) (is_same_node y who) refl is
  where
    by : (b d : Bool) → is_same_node y who ≡ d → ((b && d) && (g == h)) ≡ true → y ≡ who
    by true true same is = same_node y who same
    by true false same is = absurd cc
    by false d same is = absurd cc

module _ (x : Node) (second : is_secondary x ≡ true) (m : MasterProc) (apt : IsApt m) where
  -- from the node itself, which agreed: once it came, the replies are none
  pub agreed_follows : (k : RecKind) (first : First) (p : Plan) (g : ℕ) → g ≡ p.g → IsStandOf x m.command (agrees first p)
      → Follows x (agreed_standing x m first p (waiting_of (waits_at m x) ++ begun_for x m.command)) (taken_or m (agreed k first x g m m.command))
  agreed_follows k f p g same stands = by m.command stands apt.command
    where
      by : (o : Option Command) → IsStandOf x o (agrees f p) → IsAptCommand m.table o → Follows x (agreed_standing x m f p (waiting_of (waits_at m x) ++ begun_for x o)) (taken_or m (agreed k f x g m o))
      by None is apt' = absurd is
      by (Some (asked c first who wanted)) is apt' =
          let yes' = answers_it f x g first who c.plan.g is.1 is.0 (same ∙ ap (λ (q : Plan). q.g) is.2) in
          let goes' : Follows x (agreed_standing x m first c.plan (waiting_of (waits_at m x) ++ begun_asked x first who wanted)) (goes m c (way first who wanted m.table.sec)) =
          subst (λ y. Follows x (agreed_standing x m first c.plan (waiting_of (waits_at m x) ++ begun_asked x first y wanted)) (goes m c (way first y wanted m.table.sec))) is.0
          (agreed_here x second m apt.second apt.up c wanted first (subst (λ y. IsAptAsked m.table c first y wanted) (sym is.0) apt')) in
          subst (λ b. Follows x (agreed_standing x m f p (waiting_of (waits_at m x) ++ begun_asked x first who wanted)) (taken_or m (agreed_if k m c first who wanted b))) (sym yes')
          (subst (λ z. Follows x (agreed_standing x m z p (waiting_of (waits_at m x) ++ begun_asked x first who wanted)) (goes m c (way first who wanted m.table.sec))) (sym is.1)
          (subst (λ q. Follows x (agreed_standing x m first q (waiting_of (waits_at m x) ++ begun_asked x first who wanted)) (goes m c (way first who wanted m.table.sec))) (sym is.2) goes'))
      by (Some (gone plan going)) is apt' = absurd is
      by (Some (recovering id terminal sec)) is apt' = absurd is

  -- where the node is not asked it rests
  pub rests_apart : (c : Change) (first : First) (who : Node) (wanted : Bool) (s : Stand) → is_same_node x who ≡ false → IsStandOf x (Some (asked c first who wanted)) s → s ≡ rests
  rests_apart c first who wanted rests apart is = refl
  rests_apart c first who wanted (asks f p) apart is = absurd (never (is_same_node x who) (subst (λ z. is_same_node x z ≡ true) is.0 (node_itself x)) apart)
  rests_apart c first who wanted (refuses f p) apart is = absurd (never (is_same_node x who) (subst (λ z. is_same_node x z ≡ true) is.0 (node_itself x)) apart)
  rests_apart c first who wanted (agrees f p) apart is = absurd (never (is_same_node x who) (subst (λ z. is_same_node x z ≡ true) is.0 (node_itself x)) apart)
  rests_apart c first who wanted (goes_on l) apart is = absurd is

  -- from another node
  pub agreed_elsewhere : (k : RecKind) (f : First) (y : Node) (g : ℕ) (s : Stand) → is_same_node x y ≡ false → IsStandOf x m.command s → Follows x (standing x m s) (taken_or m (agreed k f y g m m.command))
  agreed_elsewhere k f y g s apart stands = by m.command refl stands apt.command
    where
      still : Follows x (standing x m s) (m, [])
      still = follows_still x m s stands apt

      by : (o : Option Command) → m.command ≡ o → IsStandOf x o s → IsAptCommand m.table o → Follows x (standing x m s) (taken_or m (agreed k f y g m o))
      by None at is apt' = still
      by (Some (asked c first who wanted)) at is apt' = one (is_answer f y g first who c.plan.g) refl
        where
          one : (b : Bool) → is_answer f y g first who c.plan.g ≡ b → Follows x (standing x m s) (taken_or m (agreed_if k m c first who wanted b))
          one true yes' =
              let other : is_same_node x who ≡ false = ap (is_same_node x) (sym (answer_from f y g first who c.plan.g yes')) ∙ apart in
              subst (λ z. Follows x (standing x m z) (goes m c (way first who wanted m.table.sec))) (sym (rests_apart c first who wanted s other is))
              (subst (λ z. Follows x (record (rested x m (waiting_of (waits_at m x) ++ begun_for x z)) { bearing = bearing_by m z rests }) (goes m c (way first who wanted m.table.sec))) (sym at)
              (agreed_there x second m apt.second apt.up c who other first wanted apt'))
          one false no' = still
      by (Some (gone plan going)) at is apt' = still
      by (Some (recovering id terminal sec)) at is apt' = still
