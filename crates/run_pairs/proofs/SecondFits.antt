-- The bearers of a secondary node after acts of its procedures: those that carry no plan out, and those by which it leaves or agrees.
use Rattle.std.proofs.Common.{ℕ, ◌≡◌, ◌++◌, Bool, true, false, List, [], ◌∷◌, Option, Some, None, refl, sym, ap, subst, ◌∙◌}
use Rattle.std.specs.Prelude.{Ok, map}
use Rattle.dc_base.specs.Nodes.{is_secondary}
use Rattle.dc_base.specs.declared.nodes.Node.{Node}
use Rattle.dc_base.specs.declared.records.Plan.{Plan}
use Rattle.dc_base.specs.declared.records.Rec.{Rec}
use Rattle.dc_base.specs.declared.records.Rec.TheVariants as rec
use Rattle.node_rules.specs.MasterState.{MasterProc}
use Rattle.node_rules.specs.SecondState.{SecondActs, SecondProc, request}
use Rattle.node_rules.specs.Secondary.{SecondNode, name_of}
use Rattle.node_rules.specs.declared.acts.Act.{Act}
use Rattle.node_rules.specs.declared.commands.Membership.{Membership}
use Rattle.node_rules.specs.declared.inputs.Effects.{Effects}
use Rattle.run_control.specs.SecondControl.{SecondProjects, Views, acts_sends, records_sent, views_within}
use Rattle.run_control.specs.Views.{View, second_view}
use Rattle.run_control.proofs.EventTurns.{TakesBusy}
use Rattle.std.proofs.Common.{◌+◌}
use Rattle.std.specs.Prelude.{fold}
use Rattle.std.specs.List.{AllByRecursion, list_any}
use Rattle.transcript.proofs.OnEach.{each_weaker}
use Rattle.node_rules.specs.CommandTable.{rows_after}
use Rattle.node_rules.specs.MasterGo.{moving_by}
use Rattle.node_rules.specs.MasterRecords.{is_moving}
use Rattle.node_rules.specs.SecondStep.{plan_in, recovery_in}
use Rattle.node_rules.specs.declared.commands.Command.{Command}
use Rattle.node_rules.specs.declared.commands.Command.TheVariants.{Asked as asked, Gone as gone, Recovering as recovering}
use Rattle.node_rules.specs.declared.commands.First.{First}
use Rattle.node_rules.specs.declared.commands.First.TheVariants.{Addition as addition, Modification as modification, Release as release}
use Rattle.node_rules.specs.declared.commands.Membership.TheVariants.{Joined as joined, Left as left, Outside as outside}
use Rattle.run_control.specs.Claims.{IsFirst, IsStandOf, asks, agrees}
use Rattle.run_control.specs.Rows.{is_outside, is_request}
use Rattle.run_control.specs.SecondControl.{acts_view, fits_plan, fits_recovery}
use Rattle.run_pairs.specs.Apt.{IsAptCommand}
use Rattle.run_pairs.specs.Bearers.{AreApart, AreHeld, KeepsAll, KeepsHeld, is_mover}
use Rattle.run_pairs.specs.Fits.{AreFitting, Bearing, IsViewBelow, bearing_by}
use Rattle.run_pairs.proofs.ActKinds.{IsActBelow, IsSaying, IsUnmoved}
use Rattle.run_pairs.proofs.Adoptions.{IsSaid, acts_below, acts_empty, acts_said, acts_unmoved, still_below}
use Rattle.run_pairs.proofs.BearersKept.{IsNoGo, keeps_itself, projects_keeps}
use Rattle.run_pairs.proofs.BearersServed.{IsCarried, IsNoPass, carried_held}
use Rattle.run_pairs.proofs.FitLines.{both_are}
use Rattle.run_pairs.proofs.FitTurns.{fits_agreed, fits_kept, fits_left, moved_kept}
use Rattle.run_pairs.proofs.SecondWords.{told_of}

-- ---- views

within_below : (n : ℕ) (mem : Membership) (views : Views) → ((k : ℕ) → IsViewBelow n (views k)) → (k : ℕ) → IsViewBelow n (views_within mem views k)
within_below n outside views below k = tt
within_below n joined views below k = below k
within_below n left views below k = below k

within_empty : (mem : Membership) (views : Views) → is_outside mem ≡ true → (k : ℕ) → views_within mem views k ≡ None
within_empty outside views out k = refl
within_empty joined views out k = absurd cc
within_empty left views out k = absurd cc

nothing_held : (o : Option View) → KeepsHeld None o
nothing_held o = (λ n first is. absurd cc, λ is. absurd cc)

-- the same views
pub same_keeps : (at at' : Views) → ((k : ℕ) → at' k ≡ at k) → KeepsAll at at'
same_keeps at at' same k = subst (KeepsHeld (at k)) (sym (same k)) (keeps_itself (at k))

-- ---- what a record says

request_moves : (r : Rec) → is_request r ≡ true → is_mover r ≡ true
request_moves (rec.Reconf plan key) is = absurd cc
request_moves (rec.Rcomp g) is = absurd cc
request_moves (rec.Scgf failed) is = absurd cc
request_moves (rec.Recov id) is = absurd cc
request_moves (rec.Recovd id) is = absurd cc
request_moves (rec.Addreq plan key) is = refl
request_moves (rec.Addack g) is = absurd cc
request_moves (rec.Addrej g) is = absurd cc
request_moves (rec.Modreq plan key) is = refl
request_moves (rec.Modack g) is = absurd cc
request_moves (rec.Modrej g) is = absurd cc
request_moves (rec.Recfg g) is = absurd cc
request_moves (rec.Relreq plan) is = refl
request_moves (rec.Relack g) is = absurd cc
request_moves (rec.Relrej g) is = absurd cc
request_moves (rec.Uecr g) is = absurd cc
request_moves (rec.Snst status) is = absurd cc
request_moves (rec.Moved g id) is = absurd cc
request_moves (rec.Scgn id g) is = absurd cc
request_moves rec.Modrqd is = absurd cc
request_moves (rec.Modcnf g) is = absurd cc
request_moves (rec.Modref word) is = absurd cc
request_moves rec.Chgrqd is = absurd cc
request_moves (rec.Chgcnf plan) is = absurd cc
request_moves (rec.Chgref word) is = absurd cc
request_moves rec.Relrqd is = absurd cc
request_moves (rec.Relcnf plan) is = absurd cc

addition_plan : (p : Plan) (r : Rec) → IsFirst addition p r → plan_in r ≡ Some p
addition_plan p (rec.Reconf plan key) is = absurd is
addition_plan p (rec.Rcomp g) is = absurd is
addition_plan p (rec.Scgf failed) is = absurd is
addition_plan p (rec.Recov id) is = absurd is
addition_plan p (rec.Recovd id) is = absurd is
addition_plan p (rec.Addreq plan key) is = ap (λ q. Some q) is
addition_plan p (rec.Addack g) is = absurd is
addition_plan p (rec.Addrej g) is = absurd is
addition_plan p (rec.Modreq plan key) is = absurd is
addition_plan p (rec.Modack g) is = absurd is
addition_plan p (rec.Modrej g) is = absurd is
addition_plan p (rec.Recfg g) is = absurd is
addition_plan p (rec.Relreq plan) is = absurd is
addition_plan p (rec.Relack g) is = absurd is
addition_plan p (rec.Relrej g) is = absurd is
addition_plan p (rec.Uecr g) is = absurd is
addition_plan p (rec.Snst status) is = absurd is
addition_plan p (rec.Moved g id) is = absurd is
addition_plan p (rec.Scgn id g) is = absurd is
addition_plan p rec.Modrqd is = absurd is
addition_plan p (rec.Modcnf g) is = absurd is
addition_plan p (rec.Modref word) is = absurd is
addition_plan p rec.Chgrqd is = absurd is
addition_plan p (rec.Chgcnf plan) is = absurd is
addition_plan p (rec.Chgref word) is = absurd is
addition_plan p rec.Relrqd is = absurd is
addition_plan p (rec.Relcnf plan) is = absurd is

modification_plan : (p : Plan) (r : Rec) → IsFirst modification p r → plan_in r ≡ Some p
modification_plan p (rec.Reconf plan key) is = absurd is
modification_plan p (rec.Rcomp g) is = absurd is
modification_plan p (rec.Scgf failed) is = absurd is
modification_plan p (rec.Recov id) is = absurd is
modification_plan p (rec.Recovd id) is = absurd is
modification_plan p (rec.Addreq plan key) is = absurd is
modification_plan p (rec.Addack g) is = absurd is
modification_plan p (rec.Addrej g) is = absurd is
modification_plan p (rec.Modreq plan key) is = ap (λ q. Some q) is
modification_plan p (rec.Modack g) is = absurd is
modification_plan p (rec.Modrej g) is = absurd is
modification_plan p (rec.Recfg g) is = absurd is
modification_plan p (rec.Relreq plan) is = absurd is
modification_plan p (rec.Relack g) is = absurd is
modification_plan p (rec.Relrej g) is = absurd is
modification_plan p (rec.Uecr g) is = absurd is
modification_plan p (rec.Snst status) is = absurd is
modification_plan p (rec.Moved g id) is = absurd is
modification_plan p (rec.Scgn id g) is = absurd is
modification_plan p rec.Modrqd is = absurd is
modification_plan p (rec.Modcnf g) is = absurd is
modification_plan p (rec.Modref word) is = absurd is
modification_plan p rec.Chgrqd is = absurd is
modification_plan p (rec.Chgcnf plan) is = absurd is
modification_plan p (rec.Chgref word) is = absurd is
modification_plan p rec.Relrqd is = absurd is
modification_plan p (rec.Relcnf plan) is = absurd is

release_plan : (p : Plan) (r : Rec) → IsFirst release p r → plan_in r ≡ Some p
release_plan p (rec.Reconf plan key) is = absurd is
release_plan p (rec.Rcomp g) is = absurd is
release_plan p (rec.Scgf failed) is = absurd is
release_plan p (rec.Recov id) is = absurd is
release_plan p (rec.Recovd id) is = absurd is
release_plan p (rec.Addreq plan key) is = absurd is
release_plan p (rec.Addack g) is = absurd is
release_plan p (rec.Addrej g) is = absurd is
release_plan p (rec.Modreq plan key) is = absurd is
release_plan p (rec.Modack g) is = absurd is
release_plan p (rec.Modrej g) is = absurd is
release_plan p (rec.Recfg g) is = absurd is
release_plan p (rec.Relreq plan) is = ap (λ q. Some q) is
release_plan p (rec.Relack g) is = absurd is
release_plan p (rec.Relrej g) is = absurd is
release_plan p (rec.Uecr g) is = absurd is
release_plan p (rec.Snst status) is = absurd is
release_plan p (rec.Moved g id) is = absurd is
release_plan p (rec.Scgn id g) is = absurd is
release_plan p rec.Modrqd is = absurd is
release_plan p (rec.Modcnf g) is = absurd is
release_plan p (rec.Modref word) is = absurd is
release_plan p rec.Chgrqd is = absurd is
release_plan p (rec.Chgcnf plan) is = absurd is
release_plan p (rec.Chgref word) is = absurd is
release_plan p rec.Relrqd is = absurd is
release_plan p (rec.Relcnf plan) is = absurd is

first_plan : (f : First) (p : Plan) (r : Rec) → IsFirst f p r → plan_in r ≡ Some p
first_plan addition p r is = addition_plan p r is
first_plan modification p r is = modification_plan p r is
first_plan release p r is = release_plan p r is

-- the plan that is asked is of the generation drawn last, and its items are of several identities
pub asked_plan : (x : Node) (m : MasterProc) (o : Option Command) (f : First) (p : Plan) → IsStandOf x o (asks f p) → IsAptCommand m.table o → (p.g ≡ m.table.last) × AreApart p.items
asked_plan x m None f p is apt = absurd is
asked_plan x m (Some (asked c first who wanted)) f p is apt = (ap (λ (q : Plan). q.g) is.2 ∙ apt.fresh, subst (λ (q : Plan). AreApart q.items) (sym is.2) apt.items.apart)
asked_plan x m (Some (gone plan going)) f p is apt = absurd is
asked_plan x m (Some (recovering id terminal o)) f p is apt = absurd is

-- ---- acts

module _ (x : Node) (second : is_secondary x ≡ true) (s : SecondNode) (named : name_of s ≡ x) (acts : SecondActs) (done : SecondNode × Effects) (busy : TakesBusy s.proc (Ok acts)) (projects : SecondProjects s acts done) where
  abbrev base : Views
  base = views_within acts.0.membership (second_view s)

  after_is : (k : ℕ) → second_view done.0 k ≡ acts_view x projects.chosen base k
  after_is k = projects.after k ∙ ap (λ me. acts_view me projects.chosen base k) (busy.0 ∙ named)

  told_is : told_of x (records_sent done.1.sends) ≡ told_of x (acts_sends x projects.chosen base)
  told_is = ap (λ sends. told_of x sends) projects.told ∙ ap (λ me. told_of x (acts_sends me projects.chosen base)) (busy.0 ∙ named)

  chosen_all : (P : Act → Type 0) → AllByRecursion P acts.1 → AllByRecursion P (map (λ (a : Bool × Act). a.1) projects.chosen)
  chosen_all P all = subst (AllByRecursion P) (sym projects.all) all

  below_then : (n : ℕ) → AllByRecursion (IsActBelow n) acts.1 → ((k : ℕ) → IsViewBelow n (second_view s k)) → (k : ℕ) → IsViewBelow n (second_view done.0 k)
  below_then n all below k = subst (IsViewBelow n) (sym (after_is k)) (acts_below n x projects.chosen base (chosen_all (IsActBelow n) all) (within_below n acts.0.membership (second_view s) below) k)

  unmoved_then : AllByRecursion IsNoPass acts.1 → AllByRecursion IsSaying acts.1 → AllByRecursion IsUnmoved (told_of x (records_sent done.1.sends))
  unmoved_then plain says = subst (AllByRecursion IsUnmoved) (sym told_is) (acts_unmoved x projects.chosen base (chosen_all IsNoPass plain) (chosen_all IsSaying says))

  -- a node that has no context then has no bearer
  pub emptied : AllByRecursion IsNoGo acts.1 → is_outside acts.0.membership ≡ true → (k : ℕ) → second_view done.0 k ≡ None
  emptied none out k = after_is k ∙ acts_empty x projects.chosen base (chosen_all IsNoGo none) (within_empty acts.0.membership (second_view s) out) k

  keeps_then' : AllByRecursion IsNoGo acts.1 → acts.0.membership ≡ s.proc.membership → (is_outside s.proc.membership ≡ true → (k : ℕ) → second_view s k ≡ None) → KeepsAll (second_view s) (second_view done.0)
  keeps_then' none same empty = by (is_outside s.proc.membership) refl
    where
      by : (b : Bool) → is_outside s.proc.membership ≡ b → KeepsAll (second_view s) (second_view done.0)
      by true out = λ k. subst (λ o. KeepsHeld o (second_view done.0 k)) (sym (empty out k)) (nothing_held (second_view done.0 k))
      by false context = projects_keeps s acts done none (ap (λ (p : SecondProc). is_outside p.membership) projects.proc ∙ ap is_outside same ∙ context) projects

  -- where no plan is carried out
  pub kept_fit : AllByRecursion IsNoGo acts.1 → AllByRecursion IsSaying acts.1 → acts.0.membership ≡ s.proc.membership → (is_outside s.proc.membership ≡ true → (k : ℕ) → second_view s k ≡ None) → (b : Bearing) (down up : List Rec)
      → AreFitting x b (second_view s) down up → AreFitting x b (second_view done.0) down (up ++ told_of x (records_sent done.1.sends))
  kept_fit none says same empty b down up fit =
      let last = acts_view x projects.chosen base in
      fits_kept x b (second_view s) (second_view done.0) down up (told_of x (records_sent done.1.sends)) (keeps_then' none same empty)
      (below_then b.below (each_weaker IsNoGo (IsActBelow b.below) (still_below b.below) acts.1 none) fit.at_below)
      (subst (AllByRecursion (IsSaid x b (second_view done.0))) (sym told_is)
      (each_weaker (IsSaid x b last) (IsSaid x b (second_view done.0)) (λ r is. (moved_kept x b last (second_view done.0) (same_keeps last (second_view done.0) after_is) r is.0, is.1)) (told_of x (acts_sends x projects.chosen base))
      (acts_said x second b projects.chosen base (chosen_all IsNoGo none) (chosen_all IsSaying says) (within_below b.below acts.0.membership (second_view s) fit.at_below)))) fit

  -- where the node leaves
  pub left_fit : AllByRecursion IsNoPass acts.1 → AllByRecursion IsSaying acts.1 → (b : Bearing) → AllByRecursion (IsActBelow b.below) acts.1 → AreHeld x (second_view done.0) b.moving b.rows → ((id : ℕ) → list_any (is_moving id x) b.moving ≡ false)
      → (r : Rec) (down up : List Rec) → is_mover r ≡ true → AreFitting x b (second_view s) (r ∷ down) up → AreFitting x b (second_view done.0) down (up ++ told_of x (records_sent done.1.sends))
  left_fit plain says b below held none r down up moves fit =
      fits_left x b (second_view s) (second_view done.0) r down up (told_of x (records_sent done.1.sends)) moves held none (below_then b.below below fit.at_below) (unmoved_then plain says) fit

  -- where it agrees to a plan
  pub agreed_fit : (m : MasterProc) (f : First) (p : Plan) → IsCarried s.proc p acts → AllByRecursion IsSaying acts.1 → AllByRecursion (IsActBelow (m.table.last + 1)) acts.1 → p.g ≡ m.table.last → AreApart p.items → (r : Rec) (down up : List Rec) → is_request r ≡ true → IsFirst f p r
      → (below : (k : ℕ) → IsViewBelow (m.table.last + 1) (second_view s k)) → AreFitting x (bearing_by m m.command (asks f p)) (second_view s) (r ∷ down) up
      → AreFitting x (bearing_by m m.command (agrees f p)) (second_view done.0) down (up ++ told_of x (records_sent done.1.sends))
  agreed_fit m f p carried says acts_are last apart r down up request first below fit =
      let fit_plan : fits_plan x (second_view s) (Some p) ≡ true = sym (ap (fits_plan x (second_view s)) (first_plan f p r first)) ∙ (both_are (fits_plan x (second_view s) (plan_in r)) (fits_recovery (second_view s) (recovery_in r)) fit.line.0).0 in
      let held : AreHeld x (second_view done.0) (moving_by p) (fold (rows_after m.table p.g p.sec) m.table.rows p.items) =
      subst (λ y. AreHeld y (second_view done.0) (moving_by p) (fold (rows_after m.table p.g p.sec) m.table.rows p.items)) named
      (carried_held m.table s p acts done m.table.rows carried projects apart (ap (λ y. fits_plan y (second_view s) (Some p)) named ∙ fit_plan) (subst (λ y. AreHeld y (second_view s) [] m.table.rows) (sym named) fit.held)) in
      fits_agreed x m m.command f p (second_view s) (second_view done.0) r down up (told_of x (records_sent done.1.sends)) (request_moves r request) last held (below_then (m.table.last + 1) acts_are below) (unmoved_then carried.plain says) fit
