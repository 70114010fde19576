-- A plan is carried out by the master: what that says to a secondary node.
use Rattle.std.proofs.Common.{◌+◌}
use Rattle.std.proofs.Common.{ℕ, ◌≡◌, ◌≤◌, ◌++◌, Bool, true, false, List, [], ◌∷◌, Option, Some, None, refl, sym, ap, subst, ◌∙◌, arith}
use Rattle.std.specs.Prelude.{filter, ◌&&◌}
use Rattle.std.specs.List.{AllByRecursion}
use Rattle.std.proofs.lemmas.List.{append-nil}
use Rattle.dc_base.specs.Nodes.{is_same_node, is_secondary}
use Rattle.dc_base.specs.declared.nodes.Node.{Node}
use Rattle.dc_base.specs.declared.nodes.Node.TheVariants.{A, B, M, T}
use Rattle.dc_base.specs.declared.nodes.Want.{Want}
use Rattle.dc_base.specs.declared.nodes.Want.TheVariants as want
use Rattle.dc_base.specs.declared.records.Plan.{Plan}
use Rattle.dc_base.specs.declared.records.Rec.{Rec}
use Rattle.dc_base.specs.declared.records.Rec.TheVariants as rec
use Rattle.key_chain.specs.KeyNames.{octets}
use Rattle.transcript.proofs.OnEach.{each_append, each_weaker}
use Rattle.node_rules.specs.CommandTable.{carried, master_key_of}
use Rattle.node_rules.specs.MasterGo.{goes, leave_acts, leave_record}
use Rattle.node_rules.specs.MasterState.{MasterProc, waits_at}
use Rattle.node_rules.specs.Places.{is_at}
use Rattle.node_rules.specs.declared.acts.Act.TheVariants.{Go as go, Send as send}
use Rattle.node_rules.specs.declared.commands.Change.{Change}
use Rattle.node_rules.specs.declared.commands.Leaving.{Leaving}
use Rattle.node_rules.specs.declared.commands.Leaving.TheVariants.{ByRequest as by_request, ByChangeConfirm as by_change_confirm, ByReleaseConfirm as by_release_confirm}
use Rattle.node_rules.specs.declared.commands.Membership.{Membership}
use Rattle.node_rules.specs.declared.commands.Membership.TheVariants.{Joined as joined, Left as left}
use Rattle.node_rules.specs.declared.commands.Way.{Way}
use Rattle.run_control.specs.Claims.{goes_on, membership_by, membership_if}
use Rattle.run_control.specs.MasterControl.{own_act_sends, own_act_view}
use Rattle.run_control.specs.Rows.{Reads, has_row, is_request, membership_after, wanted_after}
use Rattle.run_control.specs.SecondControl.{Views, bare_record}
use Rattle.run_control.specs.Books.{RowsFrom}
use Rattle.run_control.specs.Sound.{IsSecond}
use Rattle.run_control.proofs.Tables.{plan_ascends}
use Rattle.node_rules.specs.MasterGo.{moving_by}
use Rattle.run_control.specs.SecondControl.{fits}
use Rattle.run_pairs.specs.Bearers.{AreHeld}
use Rattle.run_pairs.specs.Fits.{AreFitting, IsPlanBelow}
use Rattle.run_pairs.proofs.FitSteps.{IsLater, IsLight, fits_on, fits_with, still_line}
use Rattle.run_pairs.specs.Pairs.{IsPair}
use Rattle.run_pairs.specs.Apt.{ArePlaced, IsDueAt, IsLeavingFrom}
use Rattle.run_pairs.specs.Pairs.{IsLineOf, IsWithin, Standing, asked_for, begun_as, is_reply, waiting_of, wants_in}
use Rattle.run_pairs.proofs.Following.{Follows, IsMore, IsShifted, leads_by}
use Rattle.run_pairs.proofs.Placed.{moving_placed}
use Rattle.run_pairs.proofs.Putting.{IsStatus, heard_of, put, put_cons, put_go, put_go_off, put_here, put_there}

-- ---- status transfers

-- read by a node that serves the terminal, they change nothing
record IsIdle (w : Option Want) (r : Rec) : Type 0 where
  row : has_row joined w r ≡ true
  member : membership_after r joined ≡ joined
  wanted : wanted_after r w ≡ w
  plain : is_request r ≡ false
  within : (last : ℕ) → IsWithin last r

status_idle : (w : Option Want) (r : Rec) → IsStatus r → IsIdle w r
status_idle w (rec.Reconf plan key) is = absurd is
status_idle w (rec.Rcomp g) is = absurd is
status_idle w (rec.Scgf failed) is = absurd is
status_idle w (rec.Recov id) is = absurd is
status_idle w (rec.Recovd id) is = absurd is
status_idle w (rec.Addreq plan key) is = absurd is
status_idle w (rec.Addack g) is = absurd is
status_idle w (rec.Addrej g) is = absurd is
status_idle w (rec.Modreq plan key) is = absurd is
status_idle w (rec.Modack g) is = absurd is
status_idle w (rec.Modrej g) is = absurd is
status_idle w (rec.Recfg g) is = absurd is
status_idle w (rec.Relreq plan) is = absurd is
status_idle w (rec.Relack g) is = absurd is
status_idle w (rec.Relrej g) is = absurd is
status_idle w (rec.Uecr g) is = absurd is
status_idle w (rec.Snst status) is = record { row = refl; member = refl; wanted = refl; plain = refl; within = λ last. tt }
status_idle w (rec.Moved g id) is = absurd is
status_idle w (rec.Scgn id g) is = absurd is
status_idle w rec.Modrqd is = absurd is
status_idle w (rec.Modcnf g) is = absurd is
status_idle w (rec.Modref word) is = absurd is
status_idle w rec.Chgrqd is = absurd is
status_idle w (rec.Chgcnf plan) is = absurd is
status_idle w (rec.Chgref word) is = absurd is
status_idle w rec.Relrqd is = absurd is
status_idle w (rec.Relcnf plan) is = absurd is

statuses_read : (w : Option Want) (rs : List Rec) → AllByRecursion IsStatus rs → Reads joined w rs joined w
statuses_read w [] all = (refl, refl)
statuses_read w (r ∷ rs) all =
    let idle = status_idle w r all.0 in
    (idle.row, subst (λ m. Reads m (wanted_after r w) rs joined w) (sym idle.member) (subst (λ z. Reads joined z rs joined w) (sym idle.wanted) (statuses_read w rs all.1)))

statuses_plain : (rs : List Rec) → AllByRecursion IsStatus rs → AllByRecursion (λ r. is_request r ≡ false) rs
statuses_plain rs all = each_weaker IsStatus (λ r. is_request r ≡ false) (λ r is. (status_idle None r is).plain) rs all

statuses_within : (last : ℕ) (rs : List Rec) → AllByRecursion IsStatus rs → AllByRecursion (IsWithin last) rs
statuses_within last rs all = each_weaker IsStatus (IsWithin last) (λ r is. (status_idle None r is).within last) rs all

status_light : (x : Node) (n : ℕ) (r : Rec) → IsStatus r → IsLight x n r
status_light x n (rec.Reconf plan key) is = absurd is
status_light x n (rec.Rcomp g) is = absurd is
status_light x n (rec.Scgf failed) is = absurd is
status_light x n (rec.Recov id) is = absurd is
status_light x n (rec.Recovd id) is = absurd is
status_light x n (rec.Addreq plan key) is = absurd is
status_light x n (rec.Addack g) is = absurd is
status_light x n (rec.Addrej g) is = absurd is
status_light x n (rec.Modreq plan key) is = absurd is
status_light x n (rec.Modack g) is = absurd is
status_light x n (rec.Modrej g) is = absurd is
status_light x n (rec.Recfg g) is = absurd is
status_light x n (rec.Relreq plan) is = absurd is
status_light x n (rec.Relack g) is = absurd is
status_light x n (rec.Relrej g) is = absurd is
status_light x n (rec.Uecr g) is = absurd is
status_light x n (rec.Snst status) is = record { free = λ at. refl; below = tt }
status_light x n (rec.Moved g id) is = absurd is
status_light x n (rec.Scgn id g) is = absurd is
status_light x n rec.Modrqd is = absurd is
status_light x n (rec.Modcnf g) is = absurd is
status_light x n (rec.Modref word) is = absurd is
status_light x n rec.Chgrqd is = absurd is
status_light x n (rec.Chgcnf plan) is = absurd is
status_light x n (rec.Chgref word) is = absurd is
status_light x n rec.Relrqd is = absurd is
status_light x n (rec.Relcnf plan) is = absurd is

statuses_light : (x : Node) (n : ℕ) (rs : List Rec) → AllByRecursion IsStatus rs → AllByRecursion (IsLight x n) rs
statuses_light x n rs all = each_weaker IsStatus (IsLight x n) (status_light x n) rs all

-- ---- what is put on the line

pub terminal_apart : (x : Node) → is_secondary x ≡ true → is_same_node x T ≡ false
terminal_apart T second = absurd cc
terminal_apart M second = absurd cc
terminal_apart A second = refl
terminal_apart B second = refl

leave_off : (x : Node) (leaving : Option Node) (told : Option Leaving) (p : Plan) (views : Views) → is_secondary x ≡ true → is_at x leaving ≡ false → put x (leave_acts leaving told p) views ≡ []
leave_off x None told p views second apart = refl
leave_off x (Some y) None p views second apart = refl
leave_off x (Some y) (Some how) p views second apart = put_there x y (leave_record how p) views second apart

leave_untold : (x : Node) (leaving : Option Node) (told : Option Leaving) (p : Plan) (views : Views) → told ≡ None → put x (leave_acts leaving told p) views ≡ []
leave_untold x None told p views none = refl
leave_untold x (Some y) None p views none = refl
leave_untold x (Some y) (Some how) p views none = absurd cc

bare_leave : (how : Leaving) (p : Plan) → bare_record (leave_record how p) ≡ leave_record how p
bare_leave by_request p = refl
bare_leave by_change_confirm p = refl
bare_leave by_release_confirm p = refl

leave_on : (x : Node) (leaving : Option Node) (how : Leaving) (p : Plan) (views : Views) → is_secondary x ≡ true → is_at x leaving ≡ true → put x (leave_acts leaving (Some how) p) views ≡ leave_record how p ∷ []
leave_on x None how p views second there = absurd cc
leave_on x (Some y) how p views second there = put_here x y (leave_record how p) views second there ∙ ap (λ r. r ∷ []) (bare_leave how p)

-- of a plan that is carried out
goes_put : (x : Node) (m : MasterProc) (c : Change) (w : Way) (views : Views) → is_secondary x ≡ true
    → put x (goes m c w).1 views ≡ heard_of x (own_act_sends (go c.plan) views) ++ put x (leave_acts w.leaving w.told c.plan) (own_act_view (go c.plan) views)
goes_put x m c w views second =
    let first = rec.Reconf c.plan (octets m.table.book.roots (master_key_of c.root)) in
    let rest = go c.plan ∷ leave_acts w.leaving w.told c.plan in
    put_cons x (send T first) rest views
    ∙ ap (λ rs. rs ++ put x rest views) (put_there x T first views second (terminal_apart x second))
    ∙ put_cons x (go c.plan) (leave_acts w.leaving w.told c.plan) views

-- ---- how it concerns the node

-- the standing then
abbrev pub gone_standing : Node → MasterProc → Change → Way → Standing
gone_standing x m c w = record {
  secondary = is_at x c.plan.sec;
  stand = goes_on (is_at x w.leaving);
  owed = waiting_of (waits_at m x) ++ begun_as want.Rekey ((w.confirms && true) && is_at x w.due);
  replies = [];
  last = m.table.last;
  bearing = record { rows = (carried m.table c).rows; moving = moving_by c.plan; gen = c.plan.g; below = m.table.last + 1 };
}

-- the record by which the node leaves is read where it serves the terminal, and leaves what is owed
pub record IsToldSo (v v' : Standing) (r : Rec) (w : Option Want) (up : List Rec) : Type 0 where
  pub row : has_row joined w r ≡ true
  pub leaves : membership_after r joined ≡ left
  pub owed : v'.owed ++ asked_for up ≡ wants_in (wanted_after r w)

-- the node stays; or it leaves by a record; or it left when it agreed
pub data IsConcerned (x : Node) (v : Standing) (m : MasterProc) (c : Change) (w : Way) : Type 0 where
  stays_by : (stays : is_at x w.leaving ≡ false) → (member : membership_by v.secondary v.stand ≡ membership_if (is_at x c.plan.sec)) → (owed : (gone_standing x m c w).owed ≡ v.owed) → (later : IsLater x v.bearing (gone_standing x m c w).bearing) → IsConcerned x v m c w
  leaves_by : (how : Leaving) → (leaves : is_at x w.leaving ≡ true) → (told : w.told ≡ Some how) → (apart : is_at x c.plan.sec ≡ false) → (member : membership_by v.secondary v.stand ≡ joined)
      → (plain : is_request (leave_record how c.plan) ≡ false) → (within : IsWithin m.table.last (leave_record how c.plan))
      → (so : (u : Option Want) (up : List Rec) → v.owed ++ asked_for up ≡ wants_in u → IsToldSo v (gone_standing x m c w) (leave_record how c.plan) u up)
      → (later : IsLater x v.bearing (gone_standing x m c w).bearing) → (now : (at : Views) → AreHeld x at v.bearing.moving v.bearing.rows → fits x at (leave_record how c.plan) ≡ true) → (below : IsPlanBelow (m.table.last + 1) (leave_record how c.plan)) → IsConcerned x v m c w
  left_by : (leaves : is_at x w.leaving ≡ true) → (untold : w.told ≡ None) → (apart : is_at x c.plan.sec ≡ false) → (member : membership_by v.secondary v.stand ≡ left) → (owed : (gone_standing x m c w).owed ≡ v.owed) → (later : IsLater x v.bearing (gone_standing x m c w).bearing)
      → IsConcerned x v m c w

-- what is so before: no request stands on the line, nothing is awaited, and the generation is the last
pub record IsReady (v : Standing) (m : MasterProc) : Type 0 where
  pub plain : (down : List Rec) → IsLineOf v.stand down → AllByRecursion (λ r. is_request r ≡ false) down
  pub answers : (l : Bool) (up : List Rec) → filter (is_reply v.stand) up ≡ v.replies → filter (is_reply (goes_on l)) up ≡ []
  pub last : v.last ≡ m.table.last

membership_true : (b l : Bool) → b ≡ true → membership_by b (goes_on l) ≡ joined
membership_true true l is = refl
membership_true false l is = absurd cc

membership_stays : (b l : Bool) → l ≡ false → membership_by b (goes_on l) ≡ membership_if b
membership_stays true l is = refl
membership_stays false true is = absurd cc
membership_stays false false is = refl

membership_left : (b l : Bool) → b ≡ false → l ≡ true → membership_by b (goes_on l) ≡ left
membership_left true l is leaves = absurd cc
membership_left false true is leaves = refl
membership_left false false is leaves = absurd cc

le_of : {a b : ℕ} → a ≡ b → a ≤ b
le_of e = omega (arith, e)

module _ (x : Node) (second : is_secondary x ≡ true) (v : Standing) (m : MasterProc) (c : Change) (w : Way) (ready : IsReady v m) where
  -- records that are no requests lead on
  plainly : (more : List Rec) → AllByRecursion (λ r. is_request r ≡ false) more → AllByRecursion (IsWithin m.table.last) more
      → ((u : Option Want) (up : List Rec) → v.owed ++ asked_for up ≡ wants_in u → IsShifted v (gone_standing x m c w) more u up)
      → ((mem : Membership) (u : Option Want) (at : Views) (down up all : List Rec) → IsPair v mem u down up → AreFitting x v.bearing at down all → AreFitting x (gone_standing x m c w).bearing at (down ++ more) all) → IsMore x v (gone_standing x m c w) more
  plainly more plain within shift fitting = record {
    fits = fitting;
    shift = shift;
    line = λ down line old. each_append (λ r. is_request r ≡ false) down more (ready.plain down line) plain;
    answers = λ up old answers. ready.answers (is_at x w.leaving) up answers;
    later = le_of ready.last;
    within = within;
  }

  -- the membership then, read from where it was by status transfers
  by_statuses : (b : Bool) → is_at x c.plan.sec ≡ b → (more : List Rec) → AllByRecursion IsStatus more → (b ≡ false → more ≡ []) → (before after : Membership) → before ≡ membership_if (is_at x c.plan.sec) → after ≡ membership_if (is_at x c.plan.sec)
      → (u : Option Want) → Reads before u more after u
  by_statuses true there more all none before after p q u =
      subst (λ n. Reads n u more after u) (sym (p ∙ ap membership_if there)) (subst (λ n. Reads joined u more n u) (sym (q ∙ ap membership_if there)) (statuses_read u more all))
  by_statuses false apart more all none before after p q u = subst (λ rs. Reads before u rs after u) (sym (none refl)) (p ∙ sym q, refl)

  goes_more : IsConcerned x v m c w → (views : Views) → IsMore x v (gone_standing x m c w) (put x (goes m c w).1 views)
  goes_more (stays_by stays member owed later) views =
      let more = heard_of x (own_act_sends (go c.plan) views) in
      let same : put x (goes m c w).1 views ≡ more =
      goes_put x m c w views second ∙ ap (λ rs. more ++ rs) (leave_off x w.leaving w.told c.plan (own_act_view (go c.plan) views) second stays) ∙ append-nil more in
      let all = put_go x c.plan views in
      subst (IsMore x v (gone_standing x m c w)) (sym same)
      (plainly more (statuses_plain more all) (statuses_within m.table.last more all)
      (λ u up owes. (
        u,
        ap (λ l. l ++ asked_for up) owed ∙ owes,
        by_statuses (is_at x c.plan.sec) refl more all (λ apart. put_go_off x c.plan views second apart) (membership_by v.secondary v.stand) (membership_by (is_at x c.plan.sec) (goes_on (is_at x w.leaving))) member
            (membership_stays (is_at x c.plan.sec) (is_at x w.leaving) stays) u,
      ))
      (λ mem u at down up all' pair fit. fits_on x v.bearing (gone_standing x m c w).bearing more later (statuses_light x (gone_standing x m c w).bearing.below more all) at down all' fit))
  goes_more (leaves_by how leaves told apart member plain within so later now below) views =
      let r = leave_record how c.plan in
      let same : put x (goes m c w).1 views ≡ r ∷ [] =
      goes_put x m c w views second
      ∙ ap (λ rs. rs ++ put x (leave_acts w.leaving w.told c.plan) (own_act_view (go c.plan) views)) (put_go_off x c.plan views second apart)
      ∙ ap (λ o. put x (leave_acts w.leaving o c.plan) (own_act_view (go c.plan) views)) told ∙ leave_on x w.leaving how c.plan (own_act_view (go c.plan) views) second leaves in
      subst (IsMore x v (gone_standing x m c w)) (sym same)
      (plainly (r ∷ []) (plain, tt) (within, tt)
      (λ u up owes. let is = so u up owes in (
        wanted_after r u,
        is.owed,
        subst (λ n. Reads n u (r ∷ []) (membership_by (is_at x c.plan.sec) (goes_on (is_at x w.leaving))) (wanted_after r u)) (sym member)
            (is.row, (is.leaves ∙ sym (membership_left (is_at x c.plan.sec) (is_at x w.leaving) apart leaves), refl)),
      ))
      (λ mem u at down up all' pair fit.
      fits_with x v.bearing (gone_standing x m c w).bearing r later at down all' (now at) below
      (still_line mem u down pair.wants (ready.plain down pair.line) (subst (λ n. Reads mem u down n pair.wants) member pair.reads)) fit))
  goes_more (left_by leaves untold apart member owed later) views =
      let same : put x (goes m c w).1 views ≡ [] =
      goes_put x m c w views second
      ∙ ap (λ rs. rs ++ put x (leave_acts w.leaving w.told c.plan) (own_act_view (go c.plan) views)) (put_go_off x c.plan views second apart)
      ∙ leave_untold x w.leaving w.told c.plan (own_act_view (go c.plan) views) untold in
      subst (IsMore x v (gone_standing x m c w)) (sym same)
      (plainly [] tt tt
      (λ u up owes. (u, ap (λ l. l ++ asked_for up) owed ∙ owes, (member ∙ sym (membership_left (is_at x c.plan.sec) (is_at x w.leaving) apart leaves), refl)))
      (λ mem u at down up all' pair fit. fits_on x v.bearing (gone_standing x m c w).bearing [] later tt at down all' fit))

  -- a plan is carried out
  pub goes_follows : RowsFrom 0 m.table.rows → IsConcerned x v m c w → IsSecond c.plan.sec → ArePlaced c.plan.sec (carried m.table c).rows → IsDueAt w.due c.plan.sec → IsLeavingFrom w.leaving c.plan.sec → Follows x v (goes m c w)
  goes_follows up is sec rows due leaving = record {
    stand = goes_on (is_at x w.leaving);
    stands = refl;
    apt = record { second = sec; rows = rows; up = plan_ascends m.table c.plan.g c.plan.sec c.plan.items m.table.rows up; command = (refl, record { due = due; leaving = leaving; moving = moving_placed c.plan }) };
    leads = leads_by x v (gone_standing x m c w) (goes m c w).1 (goes_more is);
  }
