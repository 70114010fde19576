-- The master takes what a secondary node sends, but for status transfers: it is a turn, of what is kept.
use Rattle.std.proofs.Common.{ℕ, ◌≡◌, ◌≤◌, ◌<◌, ◌+◌, ◌==◌, ◌∙◌, Bool, true, false, List, [], ◌∷◌, Option, Some, None, refl, sym, ap, subst}
use Rattle.std.specs.List.{list_any}
use Rattle.std.specs.Prelude.{Err, Ok, Result, ⊤, ◌&&◌, ◌||◌}
use Rattle.std.proofs.lemmas.Bool.{eqb-true}
use Rattle.dc_base.specs.Nodes.{is_same_node, is_secondary}
use Rattle.dc_base.specs.declared.nodes.Node.{Node}
use Rattle.dc_base.specs.declared.nodes.Node.TheVariants.{A, B, M, T}
use Rattle.dc_base.specs.declared.nodes.Want.{Want}
use Rattle.dc_base.specs.declared.records.Plan.{Plan}
use Rattle.dc_base.specs.declared.records.Rec.{Rec}
use Rattle.dc_base.specs.declared.records.Rec.TheVariants as rec
use Rattle.dc_base.specs.declared.records.RecKind.{RecKind}
use Rattle.dc_base.specs.declared.records.RecKind.TheVariants as kind
use Rattle.node_rules.specs.Acts.{ProcFault}
use Rattle.node_rules.specs.Choices.{Choices}
use Rattle.node_rules.specs.Master.{MasterNode}
use Rattle.node_rules.specs.MasterRecords.{adopted_if, agreed, agreed_if, is_answer, is_moving, is_same_first, moved, released}
use Rattle.node_rules.specs.MasterState.{MasterActs}
use Rattle.node_rules.specs.MasterTaking.{from_second, master_take}
use Rattle.node_rules.specs.declared.commands.Change.{Change}
use Rattle.node_rules.specs.declared.commands.Command.{Command}
use Rattle.node_rules.specs.declared.commands.Command.TheVariants.{Asked as asked, Gone as gone, Recovering as recovering}
use Rattle.node_rules.specs.declared.commands.First.{First}
use Rattle.node_rules.specs.declared.commands.First.TheVariants.{Addition as addition, Modification as modification, Release as release}
use Rattle.node_rules.specs.declared.commands.Going.{Going}
use Rattle.node_rules.specs.declared.commands.Membership.{Membership}
use Rattle.run_control.specs.Claims.{IsStandOf, Stand, agrees, asks, goes_on, is_agreement, refuses, rests}
use Rattle.node_rules.specs.declared.inputs.Effects.{Effects}
use Rattle.run_control.specs.MasterControl.{MasterHeard}
use Rattle.run_control.specs.Orders.{Ascends}
use Rattle.run_places.specs.Tokens.{status_in, statuses}
use Rattle.run_control.specs.SecondControl.{Views, bare_record, holds_there}
use Rattle.run_control.specs.Views.{master_view}
use Rattle.run_control.proofs.Turns.{never}
use Rattle.run_pairs.specs.Apt.{IsApt}
use Rattle.run_pairs.specs.Fits.{IsMovedHeld, bearing_by}
use Rattle.run_pairs.specs.Pairs.{acknowledge}
use Rattle.run_pairs.proofs.Pairing.{IsPaired}
use Rattle.run_pairs.proofs.Replies.{same_node}
use Rattle.run_places.proofs.Begins.{IsFree, Turned, still}
use Rattle.run_places.proofs.MasterSettling.{WholeThen}
use Rattle.run_places.proofs.MasterStepping.{IsSameFlag, TakesSettled, by_turn, heard_then, status_then, turn_taken}
use Rattle.run_places.proofs.PairFacts.{agreement_replies, none_agreed, the_reply}
use Rattle.run_places.proofs.States.{WaitsFor, carried_out, course_of, proposed, state_of}
use Rattle.run_places.proofs.Taking.{AnswersAs, IsAnswered, IsRefused, TakesTurned, agreed_turned, moved_turned, second_turned}
use Rattle.run_places.proofs.Turning.{adopt_keeps, adopt_waits, without}
use Rattle.run_places.proofs.Whole.{WholeIn, agreed_by, rest_of, ups}
use Rattle.run_places.proofs.SecondAnswers.{IsAckOf, IsNoStatus, IsRejection, StatusOr, ack_addition, ack_modification, ack_release, all_three, and_last, is_other, is_status, rejects_addition, rejects_modification, rejects_release, stand_awaits, status_or, the_ack}

-- ---- a record

module _ (c : Choices) (m : MasterNode) (asc : Ascends m.anchors) (apt : IsApt m.proc) (b : Bool) (av bv : Views) (da ua db ub : List Rec) (whole : WholeIn (state_of b m.proc) (master_view m) av bv da ua db ub)
    (fresh : IsFree (course_of b m.proc.command) → (g : ℕ) (who : Node) → m.proc.table.last < g → list_any (is_agreement g) (ups ua ub who) ≡ false)
    (x : Node) (second : is_secondary x ≡ true) (ua' ub' : List Rec) (r : Rec) (flag : b ≡ agreed_by m.proc.command (ups ua' ub')) (here : ups ua' ub' x ≡ r ∷ ups ua ub x) (others : (y : Node) → is_same_node x y ≡ false → ups ua' ub' y ≡ ups ua ub y)
    (mem : Membership) (want : Option Want) (at : Views) (down : List Rec) (pair : IsPaired x m.proc mem want at down (r ∷ ups ua ub x)) (at_a : is_same_node x A ≡ true → (k : ℕ) → at k ≡ av k) (at_b : is_same_node x B ≡ true → (k : ℕ) → at k ≡ bv k) where
  abbrev SameFlag : Type 0
  SameFlag = IsSameFlag c m asc apt b av bv da ua db ub whole fresh

  abbrev Settled : Result MasterActs ProcFault → Type 0
  Settled t = TakesSettled c m asc apt b av bv da ua db ub whole fresh t

  -- the record is no agreement to what is asked of the node
  abbrev Unagreed : Option Command → Type 0
  Unagreed None = ⊤
  Unagreed (Some (asked ch first who wanted)) = is_same_node x who ≡ true → is_agreement ch.plan.g r ≡ false
  Unagreed (Some (gone p w)) = ⊤
  Unagreed (Some (recovering i terminal o)) = ⊤

  lines_at : (g : ℕ) (who : Node) → is_same_node x who ≡ true → list_any (is_agreement g) (ups ua' ub' who) ≡ (is_agreement g r || list_any (is_agreement g) (ups ua ub who))
  lines_at g who is =
      let same = same_node x who is in
      ap (λ y. list_any (is_agreement g) (ups ua' ub' y)) (sym same) ∙ ap (list_any (is_agreement g)) here ∙ ap (λ y. is_agreement g r || list_any (is_agreement g) (ups ua ub y)) same

  flag_for : (o : Option Command) → m.proc.command ≡ o → Unagreed o → SameFlag
  flag_for o e none = flag ∙ ap (λ z. agreed_by z (ups ua' ub')) e ∙ by o none ∙ sym (ap (λ z. agreed_by z (ups ua ub)) e)
    where
      one : (ch : Change) (who : Node) → (is_same_node x who ≡ true → is_agreement ch.plan.g r ≡ false) → (d : Bool) → is_same_node x who ≡ d → list_any (is_agreement ch.plan.g) (ups ua' ub' who) ≡ list_any (is_agreement ch.plan.g) (ups ua ub who)
      one ch who so true same = lines_at ch.plan.g who same ∙ ap (λ z. z || list_any (is_agreement ch.plan.g) (ups ua ub who)) (so same)
      one ch who so false apart = ap (list_any (is_agreement ch.plan.g)) (others who apart)

      by : (p : Option Command) → Unagreed p → agreed_by p (ups ua' ub') ≡ agreed_by p (ups ua ub)
      by None so = refl
      by (Some (asked ch first who wanted)) so = one ch who so (is_same_node x who) refl
      by (Some (gone p w)) so = refl
      by (Some (recovering i terminal z)) so = refl

  pub flag_quiet : ((h : ℕ) → is_agreement h r ≡ false) → SameFlag
  flag_quiet none = flag_for m.proc.command refl (by m.proc.command)
    where
      by : (o : Option Command) → Unagreed o
      by None = tt
      by (Some (asked ch first who wanted)) = λ same. none ch.plan.g
      by (Some (gone p w)) = tt
      by (Some (recovering i terminal z)) = tt

  stands_at : (o : Option Command) → m.proc.command ≡ o → IsStandOf x o pair.stand
  stands_at o e = subst (λ z. IsStandOf x z pair.stand) e pair.stands

  -- ---- acknowledges

  -- an agreement is what the node was asked for
  asked_ack : (ch : Change) (first : First) (who : Node) (wanted : Bool) → m.proc.command ≡ Some (asked ch first who wanted) → is_same_node x who ≡ true → is_agreement ch.plan.g r ≡ true → r ≡ acknowledge first ch.plan.g
  asked_ack ch first who wanted e same is =
      let stands = stands_at (Some (asked ch first who wanted)) e in
      let awaits = stand_awaits x ch first who wanted pair.stand same stands in
      let replies = agreement_replies pair.stand ch.plan.g r awaits is in
      the_ack x ch first who wanted pair.stand r stands awaits (the_reply pair.stand r (ups ua ub x) replies.0 replies.1 pair.pair.answers).first is

  goes_settled : (q : MasterActs) (ch : Change) (first : First) (who : Node) (wanted : Bool) → m.proc.command ≡ Some (asked ch first who wanted) → ((ch' : Change) (f : First) (y : Node) (w : Bool) → q.0.command ≡ Some (asked ch' f y w) → ⊥) → Turned (state_of b m.proc) q
      → Settled (Ok q)
  goes_settled q ch first who wanted e none is = record {
    from = state_of b m.proc;
    turned = is;
    lines = record { old = λ ch' f y w so same. absurd (none ch' f y w so); new = λ free. absurd (subst IsFree (ap (course_of b) e) free) };
    kept = whole;
  }

  ack_settled : (k : RecKind) (f : First) (g : ℕ) → ((h : ℕ) → is_agreement h r ≡ (g == h)) → IsAckOf f r → Settled (agreed k f x g m.proc m.proc.command)
  ack_settled k f g agrees' of = by m.proc.command refl (agreed_turned b m.proc apt k f x g (sure m.proc.command refl))
    where
      sure : (o : Option Command) → m.proc.command ≡ o → IsAnswered f x g b o
      sure None e = tt
      sure (Some (gone p w)) e = tt
      sure (Some (recovering i terminal z)) e = tt
      sure (Some (asked ch first who wanted)) e = λ is. (
          let so = and_last (is_same_first f first) (is_same_node x who) (g == ch.plan.g) is in
          flag ∙ ap (λ z. agreed_by z (ups ua' ub')) e ∙ lines_at ch.plan.g who so.0 ∙ ap (λ z. z || list_any (is_agreement ch.plan.g) (ups ua ub who)) (agrees' ch.plan.g ∙ so.1))

      by : (o : Option Command) → m.proc.command ≡ o → TakesTurned (state_of b m.proc) (agreed k f x g m.proc o) → Settled (agreed k f x g m.proc o)
      by None e turned = flag_for None e tt
      by (Some (gone p w)) e turned = flag_for (Some (gone p w)) e tt
      by (Some (recovering i terminal z)) e turned = flag_for (Some (recovering i terminal z)) e tt
      by (Some (asked ch first who wanted)) e turned = one (is_answer f x g first who ch.plan.g) refl turned
        where
          no_way : {X : Type 0} (p : Plan) (w : Going) (ch' : Change) (f' : First) (y : Node) (w' : Bool) → Some (gone p w) ≡ Some (asked ch' f' y w') → X
          no_way p w ch' f' y w' is = absurd cc

          unagreed : is_answer f x g first who ch.plan.g ≡ false → is_same_node x who ≡ true → (d : Bool) → is_agreement ch.plan.g r ≡ d → d ≡ false
          unagreed other same false is = refl
          unagreed other same true is =
              absurd
              (never (is_answer f x g first who ch.plan.g)
              (all_three (is_same_first f first) (is_same_node x who) (g == ch.plan.g) (of first ch.plan.g (asked_ack ch first who wanted e same is)) same (sym (agrees' ch.plan.g) ∙ is)) other)

          one : (d : Bool) → is_answer f x g first who ch.plan.g ≡ d → TakesTurned (state_of b m.proc) (agreed_if k m.proc ch first who wanted d) → Settled (agreed_if k m.proc ch first who wanted d)
          one true answers is = goes_settled _ ch first who wanted e (λ ch' f' y w so. no_way _ _ ch' f' y w so) is
          one false other is = flag_for (Some (asked ch first who wanted)) e (λ same. unagreed other same (is_agreement ch.plan.g r) refl)

  released_settled : (t : Result MasterActs ProcFault) → Settled t → Settled (released t m.proc)
  released_settled (Ok q) is = is
  released_settled (Err why) same = by_turn c m asc apt b av bv da ua db ub whole fresh (m.proc, []) same (still b m.proc [] tt)

  -- ---- rejections

  refused : (f : First) (g : ℕ) → ((h : ℕ) → is_agreement h r ≡ false) → IsRejection r → IsRefused f x g b m.proc.command
  refused f g none rejects' = by m.proc.command refl
    where
      by : (o : Option Command) → m.proc.command ≡ o → IsRefused f x g b o
      by None e = tt
      by (Some (gone p w)) e = tt
      by (Some (recovering i terminal z)) e = tt
      by (Some (asked ch first who wanted)) e = λ is. (
          let so = and_last (is_same_first f first) (is_same_node x who) (g == ch.plan.g) is in
          let awaits = stand_awaits x ch first who wanted pair.stand so.0 (stands_at (Some (asked ch first who wanted)) e) in
          let rest = (the_reply pair.stand r (ups ua ub x) rejects'.0 (rejects'.1 pair.stand ch.plan.g awaits) pair.pair.answers).rest in
          flag ∙ ap (λ z. agreed_by z (ups ua' ub')) e ∙ lines_at ch.plan.g who so.0 ∙ ap (λ z. z || list_any (is_agreement ch.plan.g) (ups ua ub who)) (none ch.plan.g)
          ∙ ap (λ y. list_any (is_agreement ch.plan.g) (ups ua ub y)) (sym (same_node x who so.0)) ∙ none_agreed pair.stand ch.plan.g (ups ua ub x) awaits rest)

  -- ---- a bearer that moved

  moved_held : (p : Plan) (w : Going) (g id : ℕ) → m.proc.command ≡ Some (gone p w) → r ≡ rec.Moved g id → (p.g == g) ≡ true → list_any (is_moving id x) w.moving ≡ true → holds_there (at id) ≡ true
  moved_held p w g id e is same moves =
      by pair.stand (stands_at (Some (gone p w)) e) (subst (λ z. IsMovedHeld x (bearing_by m.proc (Some (gone p w)) pair.stand) at z) is (subst (λ o. IsMovedHeld x (bearing_by m.proc o pair.stand) at r) e pair.fitting.moved.0))
    where
      by : (s : Stand) → IsStandOf x (Some (gone p w)) s → IsMovedHeld x (bearing_by m.proc (Some (gone p w)) s) at (rec.Moved g id) → holds_there (at id) ≡ true
      by rests stands so = absurd stands
      by (asks f q) stands so = absurd stands
      by (refuses f q) stands so = absurd stands
      by (agrees f q) stands so = absurd stands
      by (goes_on leaves) stands so = so (sym (eqb-true p.g g same)) moves

  moved_settled : (g id : ℕ) → r ≡ rec.Moved g id → Settled (moved x g id m.proc m.proc.command)
  moved_settled g id is = by m.proc.command refl
    where
      same : SameFlag
      same = flag_quiet (λ h. ap (is_agreement h) is)

      both : (d e : Bool) → (d && e) ≡ true → (d ≡ true) × (e ≡ true)
      both true true so = (refl, refl)
      both true false so = absurd cc
      both false e so = absurd cc

      by : (o : Option Command) → m.proc.command ≡ o → Settled (moved x g id m.proc o)
      by None e = same
      by (Some (asked ch first who wanted)) e = same
      by (Some (recovering i terminal z)) e = same
      by (Some (gone p w)) e = one ((p.g == g) && list_any (is_moving id x) w.moving) refl
        where
          course : course_of b m.proc.command ≡ carried_out p w.moving
          course = ap (course_of b) e

          no_way : {X : Type 0} {agreed' : Bool} (q : Plan) (who : Node) → carried_out p (without id x w.moving) ≡ proposed q (Some who) agreed' → X
          no_way q who so = absurd cc

          no_master : (y : Node) → is_secondary y ≡ true → y ≡ M → ⊥
          no_master T so is' = absurd cc
          no_master M so is' = absurd cc
          no_master A so is' = absurd cc
          no_master B so is' = absurd cc

          there : (y : Node) (views : Views) → (is_same_node x y ≡ true → (k : ℕ) → at k ≡ views k) → holds_there (at id) ≡ true → (k : ℕ) → ((id == k) && is_same_node x y) ≡ true → holds_there (views k) ≡ true
          there y views is_at' held k mine =
              let so = both (id == k) (is_same_node x y) mine in
              sym (ap holds_there (is_at' so.1 k)) ∙ ap (λ j. holds_there (at j)) (sym (eqb-true id k so.0)) ∙ held

          one : (d : Bool) → ((p.g == g) && list_any (is_moving id x) w.moving) ≡ d → Settled (adopted_if kind.Moved m.proc id x p w d)
          one false other = same
          one true moves =
              let so = both (p.g == g) (list_any (is_moving id x) w.moving) moves in
              let held = moved_held p w g id e is so.0 so.1 in
              record {
                from = record { rows = m.proc.table.rows; last = m.proc.table.last; course = carried_out p (without id x w.moving) };
                turned = moved_turned b m.proc apt x id p w _ e refl;
                lines = record { old = λ ch' f y w' e' so'. no_way ch'.plan y so'; new = λ free. fresh (subst IsFree (sym course) tt) };
                kept = record {
                  keeps = adopt_keeps (state_of b m.proc) p w.moving id x (master_view m) (rest_of av bv da ua db ub) course (λ e'. absurd (no_master x second e')) whole.keeps;
                  a = record {
                    named = whole.a.named;
                    waits = λ k. adopt_waits A p w.moving id x k (av k) (there A av at_a held k) (subst (λ z. WaitsFor A z k (av k)) course (whole.a.waits k));
                    line = whole.a.line;
                  };
                  b = record {
                    named = whole.b.named;
                    waits = λ k. adopt_waits B p w.moving id x k (bv k) (there B bv at_b held k) (subst (λ z. WaitsFor B z k (bv k)) course (whole.b.waits k));
                    line = whole.b.line;
                  };
                };
              }

  -- ---- any record but a status transfer

  turns : (q : Rec) → ((h : ℕ) → is_agreement h r ≡ false) → AnswersAs b m.proc apt x q → Settled (from_second x m.proc q)
  turns q none sure = turn_taken c m asc apt b av bv da ua db ub whole fresh (from_second x m.proc q) (flag_quiet none) (second_turned b m.proc apt x q sure)

  rejection_of : (e : Rec) → r ≡ e → IsRejection e → IsRejection r
  rejection_of e is = subst IsRejection (sym is)

  ack_of : (f : First) (e : Rec) → r ≡ e → IsAckOf f e → IsAckOf f r
  ack_of f e is = subst (IsAckOf f) (sym is)

  pub says : (q : Rec) → r ≡ bare_record q → IsNoStatus q → Settled (from_second x m.proc q)
  says (rec.Addack g) e no' = ack_settled kind.Addack addition g (λ h. ap (is_agreement h) e) (ack_of addition (rec.Addack g) e (ack_addition g))
  says (rec.Modack g) e no' = ack_settled kind.Modack modification g (λ h. ap (is_agreement h) e) (ack_of modification (rec.Modack g) e (ack_modification g))
  says (rec.Relack g) e no' =
      released_settled (agreed kind.Relack release x g m.proc m.proc.command) (ack_settled kind.Relack release g (λ h. ap (is_agreement h) e) (ack_of release (rec.Relack g) e (ack_release g)))
  says (rec.Addrej g) e no' =
      let none = λ (h : ℕ). ap (is_agreement h) e in
      turns (rec.Addrej g) none (refused addition g none (rejection_of (rec.Addrej g) e (rejects_addition g)))
  says (rec.Modrej g) e no' =
      let none = λ (h : ℕ). ap (is_agreement h) e in
      turns (rec.Modrej g) none (refused modification g none (rejection_of (rec.Modrej g) e (rejects_modification g)))
  says (rec.Relrej g) e no' =
      let none = λ (h : ℕ). ap (is_agreement h) e in
      turns (rec.Relrej g) none (refused release g none (rejection_of (rec.Relrej g) e (rejects_release g)))
  says (rec.Snst status) e no' = absurd no'
  says (rec.Moved g id) e no' = moved_settled g id e
  says (rec.Reconf plan key) e no' = turns (rec.Reconf plan key) (λ h. ap (is_agreement h) e) tt
  says (rec.Rcomp g) e no' = turns (rec.Rcomp g) (λ h. ap (is_agreement h) e) tt
  says (rec.Scgf failed) e no' = turns (rec.Scgf failed) (λ h. ap (is_agreement h) e) tt
  says (rec.Recov id) e no' = turns (rec.Recov id) (λ h. ap (is_agreement h) e) tt
  says (rec.Recovd id) e no' = turns (rec.Recovd id) (λ h. ap (is_agreement h) e) tt
  says (rec.Addreq plan key) e no' = turns (rec.Addreq plan key) (λ h. ap (is_agreement h) e) tt
  says (rec.Modreq plan key) e no' = turns (rec.Modreq plan key) (λ h. ap (is_agreement h) e) tt
  says (rec.Recfg g) e no' = turns (rec.Recfg g) (λ h. ap (is_agreement h) e) tt
  says (rec.Relreq plan) e no' = turns (rec.Relreq plan) (λ h. ap (is_agreement h) e) tt
  says (rec.Uecr g) e no' = turns (rec.Uecr g) (λ h. ap (is_agreement h) e) tt
  says (rec.Scgn id g) e no' = turns (rec.Scgn id g) (λ h. ap (is_agreement h) e) tt
  says rec.Modrqd e no' = turns rec.Modrqd (λ h. ap (is_agreement h) e) tt
  says (rec.Modcnf g) e no' = turns (rec.Modcnf g) (λ h. ap (is_agreement h) e) tt
  says (rec.Modref word) e no' = turns (rec.Modref word) (λ h. ap (is_agreement h) e) tt
  says rec.Chgrqd e no' = turns rec.Chgrqd (λ h. ap (is_agreement h) e) tt
  says (rec.Chgcnf plan) e no' = turns (rec.Chgcnf plan) (λ h. ap (is_agreement h) e) tt
  says (rec.Chgref word) e no' = turns (rec.Chgref word) (λ h. ap (is_agreement h) e) tt
  says rec.Relrqd e no' = turns rec.Relrqd (λ h. ap (is_agreement h) e) tt
  says (rec.Relcnf plan) e no' = turns (rec.Relcnf plan) (λ h. ap (is_agreement h) e) tt

  -- ---- any record

  pub comes : (q : Rec) (done : MasterNode × Effects) → r ≡ bare_record q → ((z : Rec) → master_take x m.proc z ≡ from_second x m.proc z) → MasterHeard c m x q done → WholeIn (state_of b m.proc) (master_view m) av bv da ua' db ub'
      → ((k : ℕ) → (statuses k ua + statuses k ub) + status_in k q ≤ statuses k ua' + statuses k ub') → WholeThen av bv da ua db ub done
  comes q done e row hears before' count = by (status_or q)
    where
      by : StatusOr q → WholeThen av bv da ua db ub done
      by (is_other no') = heard_then c m asc apt b av bv da ua db ub whole fresh x q done (subst Settled (sym (row q)) (says q e no')) hears
      by (is_status status is) =
          status_then c m asc apt b av bv da ua db ub whole fresh status ua' ub' (λ k. subst (λ z. (statuses k ua + statuses k ub) + status_in k z ≤ statuses k ua' + statuses k ub') is (count k)) before'
          (flag_quiet (λ h. ap (is_agreement h) (e ∙ ap bare_record is))) x done (row (rec.Snst status)) (subst (λ z. MasterHeard c m x z done) is hears)
