-- A turn of the master, with what it sends: what is kept of all bearers then.
use Rattle.std.proofs.Common.{ℕ, ◌≡◌, ◌≤◌, ◌<◌, ◌+◌, ◌==◌, ◌++◌, ◌∙◌, Bool, true, false, List, [], ◌∷◌, Option, Some, None, refl, sym, ap, subst, arith, inl, inr}
use Rattle.std.specs.List.{AllByRecursion, list_any}
use Rattle.std.specs.Prelude.{if◌then◌else◌, ◌&&◌, ◌||◌}
use Rattle.dc_base.specs.Nodes.{is_same_node, is_secondary}
use Rattle.dc_base.specs.declared.nodes.Node.{Node}
use Rattle.dc_base.specs.declared.nodes.Node.TheVariants.{A, B, M, T}
use Rattle.dc_base.specs.declared.records.Plan.{Plan}
use Rattle.dc_base.specs.declared.records.Rec.{Rec}
use Rattle.node_rules.specs.Master.{MasterNode}
use Rattle.node_rules.specs.MasterGo.{moves_here}
use Rattle.node_rules.specs.MasterState.{MasterActs, MasterProc}
use Rattle.node_rules.specs.MasterTaking.{adopted_here, master_adopted}
use Rattle.std.proofs.lemmas.List.Folds.{list_any-append}
use Rattle.run_places.specs.Tokens.{statuses}
use Rattle.node_rules.specs.declared.acts.Act.{Act}
use Rattle.node_rules.specs.declared.acts.Act.TheVariants.{FailOne as fail_one, Go as go, Pass as pass, Prepare as prepare, RecoverOne as recover_one, Say as say, Send as send, UnlockAll as unlock_all}
use Rattle.node_rules.specs.declared.commands.Change.{Change}
use Rattle.node_rules.specs.declared.commands.Command.{Command}
use Rattle.node_rules.specs.declared.commands.Command.TheVariants.{Asked as asked, Gone as gone, Recovering as recovering}
use Rattle.node_rules.specs.declared.commands.First.{First}
use Rattle.node_rules.specs.declared.inputs.Effects.{Effects}
use Rattle.run_control.specs.Claims.{is_agreement}
use Rattle.run_control.specs.MasterControl.{is_pass, own_acts_sends, own_acts_view}
use Rattle.run_control.specs.SecondControl.{Views, holds_there, records_sent}
use Rattle.run_control.specs.Views.{master_view}
use Rattle.run_pairs.specs.Apt.{IsApt}
use Rattle.run_pairs.proofs.Putting.{heard_of, put}
use Rattle.run_places.proofs.Begins.{IsFlag, IsFree, Turned, still}
use Rattle.run_places.proofs.States.{IsMinor, State, Turn, WaitsFor, carried_out, course_of, draws, goes_on, is_done, is_rejected, minor, one_then, proposed, state_of}
use Rattle.run_places.proofs.Taking.{adoption_turned}
use Rattle.run_places.proofs.TurnKeeps.{AreSame, IsSame, same_itself}
use Rattle.run_places.proofs.Turning.{adopt_keeps, adopt_waits, without}
use Rattle.run_places.proofs.Whole.{Whole, WholeIn, agreed_by, rest_of, turn_whole, ups, whole_less}

-- ---- no turn gives a status transfer to an anchor

minor_no_pass : (acts : List Act) → AllByRecursion IsMinor acts → list_any is_pass acts ≡ false
minor_no_pass [] all = refl
minor_no_pass (a ∷ acts) all = ap (λ b. b || list_any is_pass acts) (one a all.0) ∙ minor_no_pass acts all.1
  where
    one : (z : Act) → IsMinor z → is_pass z ≡ false
    one (send to r) is = refl
    one (prepare p) is = refl
    one (go p) is = refl
    one (unlock_all g) is = refl
    one (say n) is = refl
    one (recover_one id) is = refl
    one (fail_one id g) is = refl
    one (pass status) is = absurd is

pub turn_no_pass : (s s' : State) (acts : List Act) → Turn s acts s' → list_any is_pass acts ≡ false
turn_no_pass s s' acts (minor at acts' all) = minor_no_pass acts all
turn_no_pass s s' acts (draws at p who free plan fresh) = by (moves_here p)
  where
    by : (b : Bool) → list_any is_pass (if b then prepare p ∷ [] else []) ≡ false
    by true = refl
    by false = refl
turn_no_pass s s' acts (goes_on at t p who agreed stands sure) = refl
turn_no_pass s s' acts (is_done at p stands) = refl
turn_no_pass s s' acts (is_rejected at p who stands) = refl
turn_no_pass s s' acts (one_then at s1 at2 acts1 more one two) =
    list_any-append is_pass acts1 more ∙ ap (λ b. b || list_any is_pass more) (turn_no_pass s s1 acts1 one) ∙ turn_no_pass s1 s' more two

-- ---- the lines, after what was taken

-- a plan that is proposed still has the flag of the lines; and on them is no agreement to a later one
pub record AreLines (s : State) (o : Option Command) (agreed : Bool) (ua ub : List Rec) : Type 0 where
  pub old : (c : Change) (first : First) (who : Node) (wanted : Bool) → o ≡ Some (asked c first who wanted) → s.course ≡ proposed c.plan (Some who) agreed → agreed ≡ list_any (is_agreement c.plan.g) (ups ua ub who)
  pub new : IsFree s.course → (g : ℕ) (who : Node) → s.last < g → list_any (is_agreement g) (ups ua ub who) ≡ false

same_course : (s : State) (o : Option Command) (agreed : Bool) (ua ub : List Rec) → IsFlag s agreed o → AreLines s o agreed ua ub → course_of agreed o ≡ course_of (agreed_by o (ups ua ub)) o
same_course s None agreed ua ub flag lines = refl
same_course s (Some (asked c first who wanted)) agreed ua ub (inl same) lines = ap (proposed c.plan (Some who)) (lines.old c first who wanted refl same)
same_course s (Some (asked c first who wanted)) agreed ua ub (inr new) lines = ap (proposed c.plan (Some who)) (new.0 ∙ sym (lines.new new.1 c.plan.g who new.2))
same_course s (Some (gone p going)) agreed ua ub flag lines = refl
same_course s (Some (recovering id terminal second)) agreed ua ub flag lines = refl

-- ---- what the master did

-- all, with what it sent
abbrev pub WholeThen : Views → Views → List Rec → List Rec → List Rec → List Rec → MasterNode × Effects → Type 0
WholeThen av bv da ua db ub done =
    Whole done.0.proc (master_view done.0) av bv (da ++ heard_of A (records_sent done.1.sends)) ua (db ++ heard_of B (records_sent done.1.sends)) ub

pub same_views : (v w : Views) → ((k : ℕ) → w k ≡ v k) → AreSame v w
same_views v w same k = subst (IsSame (v k)) (sym (same k)) (same_itself (v k))

none_more : (k : ℕ) (rs : List Rec) → statuses k rs ≤ statuses k rs
none_more k rs = omega arith

module _ (av bv : Views) (da ua db ub : List Rec) where
  -- by a turn
  pub settle : (s : State) (acts : MasterActs) (mv : Views) (done : MasterNode × Effects) → (is : Turned s acts) → AreLines s acts.0.command is.agreed ua ub → WholeIn s mv av bv da ua db ub → done.0.proc ≡ acts.0 → ((k : ℕ) → master_view done.0 k ≡ own_acts_view acts.1 mv k)
      → records_sent done.1.sends ≡ own_acts_sends acts.1 mv → WholeThen av bv da ua db ub done
  settle s acts mv done is lines whole proc after told =
      let turned = turn_whole s (state_of is.agreed acts.0) acts.1 mv av bv da ua db ub is.turn whole in
      let same = same_course s acts.0.command is.agreed ua ub is.flag lines in
      let now : WholeIn (state_of (agreed_by acts.0.command (ups ua ub)) acts.0) (master_view done.0) av bv (da ++ put A acts.1 mv) ua (db ++ put B acts.1 mv) ub =
      whole_less (state_of (agreed_by acts.0.command (ups ua ub)) acts.0) (own_acts_view acts.1 mv) (master_view done.0) av bv (da ++ put A acts.1 mv) ua ua (db ++ put B acts.1 mv) ub ub (same_views (own_acts_view acts.1 mv) (master_view done.0) after)
      (λ k. none_more k ua) (λ k. none_more k ub)
      (subst (λ c. WholeIn (record { rows = acts.0.table.rows; last = acts.0.table.last; course = c }) (own_acts_view acts.1 mv) av bv (da ++ put A acts.1 mv) ua (db ++ put B acts.1 mv) ub) same turned) in
      subst (λ p. Whole p (master_view done.0) av bv (da ++ heard_of A (records_sent done.1.sends)) ua (db ++ heard_of B (records_sent done.1.sends)) ub) (sym proc)
      (subst (λ sends. Whole acts.0 (master_view done.0) av bv (da ++ heard_of A sends) ua (db ++ heard_of B sends) ub) (sym told) (record { keeps = now.keeps; a = now.a; b = now.b }))

  -- the procedures hear that the master's own anchor has its bearer
  module _ (b : Bool) (m : MasterProc) (apt : IsApt m) (id : ℕ) (mv : Views) (done : MasterNode × Effects) (holds' : holds_there (mv id) ≡ true) (whole : WholeIn (state_of b m) mv av bv da ua db ub) (proc : done.0.proc ≡ (master_adopted m id).0)
      (after : (k : ℕ) → master_view done.0 k ≡ own_acts_view (master_adopted m id).1 mv k) (told : records_sent done.1.sends ≡ own_acts_sends (master_adopted m id).1 mv) (lines : (agreed : Bool) → AreLines (state_of b m) m.command agreed ua ub)
      (fresh : IsFree (course_of b m.command) → (g : ℕ) (who : Node) → m.table.last < g → list_any (is_agreement g) (ups ua ub who) ≡ false) where
    Moves : Option Command → Type 0
    Moves o = m.command ≡ o → WholeThen av bv da ua db ub done

    quiet_one : (o : Option Command) → m.command ≡ o → master_adopted m id ≡ (m, []) → WholeThen av bv da ua db ub done
    quiet_one o at none =
        settle (state_of b m) (m, []) mv done (still b m [] tt) (lines (still b m [] tt).agreed) whole (proc ∙ ap (λ (z : MasterActs). z.0) none) (λ k. after k ∙ ap (λ (z : MasterActs). own_acts_view z.1 mv k) none)
        (told ∙ ap (λ (z : MasterActs). own_acts_sends z.1 mv) none)

    pub adoption_settles : WholeThen av bv da ua db ub done
    adoption_settles = by m.command refl
      where
        apart_there : (x : Node) → is_secondary x ≡ true → (d : Bool) → (d && is_same_node M x) ≡ true → ⊥
        apart_there T second d is = absurd cc
        apart_there M second d is = absurd cc
        apart_there A second true is = absurd cc
        apart_there A second false is = absurd cc
        apart_there B second true is = absurd cc
        apart_there B second false is = absurd cc

        by : (o : Option Command) → m.command ≡ o → WholeThen av bv da ua db ub done
        by None at = quiet_one None at (ap (adopted_here id m) at)
        by (Some (asked c first who wanted)) at = quiet_one (Some (asked c first who wanted)) at (ap (adopted_here id m) at)
        by (Some (recovering i terminal second)) at = quiet_one (Some (recovering i terminal second)) at (ap (adopted_here id m) at)
        by (Some (gone p w)) at =
            let s1 : State = record { rows = m.table.rows; last = m.table.last; course = carried_out p (without id M w.moving) } in
            let course : course_of b m.command ≡ carried_out p w.moving = ap (course_of b) at in
            let whole1 : WholeIn s1 mv av bv da ua db ub =
            record {
              keeps = adopt_keeps (state_of b m) p w.moving id M mv (rest_of av bv da ua db ub) course (λ e. holds') whole.keeps;
              a = record {
                named = whole.a.named;
                waits = λ k. adopt_waits A p w.moving id M k (av k) (λ mine. absurd (apart_there A refl (id == k) mine)) (subst (λ c. WaitsFor A c k (av k)) course (whole.a.waits k));
                line = whole.a.line;
              };
              b = record {
                named = whole.b.named;
                waits = λ k. adopt_waits B p w.moving id M k (bv k) (λ mine. absurd (apart_there B refl (id == k) mine)) (subst (λ c. WaitsFor B c k (bv k)) course (whole.b.waits k));
                line = whole.b.line;
              };
            } in
            settle s1 (master_adopted m id) mv done (adoption_turned m apt id p w at)
            (record { old = λ c first who wanted e same. no_way c.plan who same; new = λ free g who less. fresh (subst IsFree (sym course) tt) g who less }) whole1 proc after told
          where
            no_way : {X : Type 0} {agreed : Bool} (q : Plan) (who : Node) → carried_out p (without id M w.moving) ≡ proposed q (Some who) agreed → X
            no_way q who e = absurd cc
