-- The master takes traffic, a command, or a record: what is kept of all bearers then.
use Rattle.std.proofs.Common.{ℕ, ◌≡◌, ◌≤◌, ◌<◌, ◌+◌, ◌==◌, ◌++◌, ◌∙◌, Bool, true, false, List, [], ◌∷◌, Option, Some, None, length, refl, sym, ap, subst, arith}
use Rattle.std.specs.List.{find, list_any}
use Rattle.std.specs.Prelude.{Err, Ok, Result, if◌then◌else◌, ◌&&◌}
use Rattle.std.proofs.lemmas.Bool.{eq-eqb, eqb-true}
use Rattle.dc_base.specs.Links.{link}
use Rattle.dc_base.specs.Nodes.{is_same_node, is_secondary}
use Rattle.dc_base.specs.declared.events.Event.{Event}
use Rattle.dc_base.specs.declared.nodes.Class.TheVariants.{Ctl}
use Rattle.dc_base.specs.declared.nodes.Node.{Node}
use Rattle.dc_base.specs.declared.nodes.Node.TheVariants.{A, B, M, T}
use Rattle.dc_base.specs.declared.records.Plan.{Plan}
use Rattle.dc_base.specs.declared.records.Rec.{Rec}
use Rattle.dc_base.specs.declared.records.Rec.TheVariants as rec
use Rattle.dc_base.specs.declared.records.StatusTransfer.{StatusTransfer}
use Rattle.dc_base.specs.declared.records.RecKind.TheVariants as kind
use Rattle.node_rules.specs.Acts.{ProcFault, unexpected}
use Rattle.node_rules.specs.Choices.{Choices}
use Rattle.node_rules.specs.Effects.{after_effects, quiet}
use Rattle.node_rules.specs.Master.{MasterNode}
use Rattle.node_rules.specs.MasterPlan.{does}
use Rattle.node_rules.specs.MasterRecords.{passed_to, transferred}
use Rattle.node_rules.specs.MasterState.{MasterActs, MasterProc}
use Rattle.node_rules.specs.MasterTaking.{master_adopted, master_take}
use Rattle.node_rules.specs.declared.acts.Act.{Act}
use Rattle.node_rules.specs.declared.acts.Act.TheVariants.{Pass as pass, Send as send}
use Rattle.node_rules.specs.declared.commands.Command.{Command}
use Rattle.node_rules.specs.declared.commands.Command.TheVariants.{Asked as asked, Gone as gone, Recovering as recovering}
use Rattle.node_rules.specs.declared.inputs.Effects.{Effects}
use Rattle.run_control.specs.Claims.{is_agreement}
use Rattle.run_control.specs.MasterControl.{MasterHeard, MasterOrdered, MasterPassed, MasterProjects, adopts_by_it, is_pass, master_heard, master_no_row, master_ordered, master_passed, master_refused, own_acts_sends, own_acts_view, waits_on}
use Rattle.run_control.specs.Orders.{Ascends}
use Rattle.run_control.specs.SecondControl.{Views, bare_record, holds_there, is_holding, passed, records_sent, stage_after}
use Rattle.run_control.specs.Sound.{AddsSecond}
use Rattle.run_control.specs.Traffic.{MasterOnTraffic, master_adopts, master_keeps}
use Rattle.run_control.specs.Views.{View, adopting, at_stage, is_awaited, master_view}
use Rattle.run_control.proofs.MasterActs.{does_projects}
use Rattle.run_control.proofs.Sequences.{no_records, records_both}
use Rattle.run_control.proofs.Turns.{never}
use Rattle.run_pairs.specs.Apt.{IsApt}
use Rattle.run_pairs.proofs.Putting.{heard_of, put, put_send}
use Rattle.run_places.specs.Tokens.{kept_at, kept_by, statuses}
use Rattle.run_places.proofs.Begins.{IsFree, Turned, still}
use Rattle.run_places.proofs.Commanding.{command_turned}
use Rattle.run_places.proofs.Counting.{sent, statuses_append, two_lines}
use Rattle.run_places.proofs.Items.{IsNamed}
use Rattle.run_places.proofs.MasterSettling.{AreLines, WholeThen, adoption_settles, same_views, settle, turn_no_pass}
use Rattle.run_places.proofs.SecondLaws.{awaited_idle, passed_law, passed_named, passed_waits}
use Rattle.run_places.proofs.States.{Course, Keeps, State, WaitsFor, carried_out, course_of, proposed, settled, state_of}
use Rattle.run_places.proofs.Taking.{TakesTurned}
use Rattle.run_places.proofs.TurnKeeps.{keeps_same}
use Rattle.run_places.proofs.TurnLines.{AreApartAll, both_apart}
use Rattle.run_places.proofs.Whole.{Whole, WholeIn, agreed_by, rest_of, ups}

-- ---- one anchor changes

-- an anchor of the master is told where its bearer is, or adopts it
pub changed_keeps : (s : State) (mv mv' : Views) (rest rest' : ℕ → ℕ) (id : ℕ) (o : Option View) (e : ℕ) → ((k : ℕ) → mv' k ≡ (if id == k then o else mv k)) → kept_by o ≤ kept_by (mv id) + e
    → ((k : ℕ) → rest' k + (if id == k then e else 0) ≤ rest k) → IsNamed id o → WaitsFor M s.course id o → (holds_there (mv id) ≡ true → holds_there o ≡ true) → Keeps s mv rest → Keeps s mv' rest'
changed_keeps s mv mv' rest rest' id o e views few count named waits holds' keeps = record {
  named = λ k. subst (IsNamed k) (sym (views k)) (name k);
  once = λ k. omega (arith, keeps.once k, less k);
  none = λ k none. omega (arith, keeps.none k none, less k);
  dropped = λ k gone. omega (arith, keeps.dropped k gone, less k);
  own = λ k r there here stays. ap holds_there (views k) ∙ held k (keeps.own k r there here stays);
  away = keeps.away;
  waits = λ k. subst (WaitsFor M s.course k) (sym (views k)) (wait k);
  planned = keeps.planned;
  single = keeps.single;
}
  where
    less : (k : ℕ) → kept_by (mv' k) + rest' k ≤ kept_by (mv k) + rest k
    less k = by (id == k) refl (views k) (count k)
      where
        by : (b : Bool) → (id == k) ≡ b → mv' k ≡ (if b then o else mv k) → rest' k + (if b then e else 0) ≤ rest k → kept_by (mv' k) + rest' k ≤ kept_by (mv k) + rest k
        by true here is fewer = omega (arith, ap kept_by is, few, ap (λ j. kept_by (mv j)) (eqb-true id k here), fewer)
        by false other is fewer = omega (arith, ap kept_by is, fewer)

    name : (k : ℕ) → IsNamed k (if id == k then o else mv k)
    name k = by (id == k) refl
      where
        by : (b : Bool) → (id == k) ≡ b → IsNamed k (if b then o else mv k)
        by true here = subst (λ j. IsNamed j o) (eqb-true id k here) named
        by false other = keeps.named k

    wait : (k : ℕ) → WaitsFor M s.course k (if id == k then o else mv k)
    wait k = by (id == k) refl
      where
        by : (b : Bool) → (id == k) ≡ b → WaitsFor M s.course k (if b then o else mv k)
        by true here = subst (λ j. WaitsFor M s.course j o) (eqb-true id k here) waits
        by false other = keeps.waits k

    held : (k : ℕ) → holds_there (mv k) ≡ true → holds_there (if id == k then o else mv k) ≡ true
    held k is = by (id == k) refl
      where
        by : (b : Bool) → (id == k) ≡ b → holds_there (if b then o else mv k) ≡ true
        by true here = holds' (ap (λ j. holds_there (mv j)) (eqb-true id k here) ∙ is)
        by false other = is

-- what holds waits for nothing
adopting_waits : (x : Node) (c : Course) (k : ℕ) (v : View) → WaitsFor x c k (Some (adopting v))
adopting_waits x c k v = λ idle. absurd cc

-- ---- the parts of a course

abbrev agreed_of : Course → Bool
agreed_of settled = false
agreed_of (proposed p who agreed) = agreed
agreed_of (carried_out p zs) = false

abbrev gen_of : Course → ℕ
gen_of settled = 0
gen_of (proposed p who agreed) = p.g
gen_of (carried_out p zs) = 0

abbrev who_or : Option Node → Node
who_or None = M
who_or (Some x) = x

abbrev who_of : Course → Node
who_of settled = M
who_of (proposed p who agreed) = who_or who
who_of (carried_out p zs) = M

-- ---- what becomes of a status transfer

pub data StatusTaken (m : MasterProc) (status : StatusTransfer) (t : Result MasterActs ProcFault) : Type 0 where
  stays_so : (why : ProcFault) → (is : t ≡ Err why) → StatusTaken m status t
  to_own : (is : t ≡ Ok (m, pass status ∷ [])) → StatusTaken m status t
  to_other : (y : Node) → (is : t ≡ Ok (m, send y (rec.Snst status) ∷ [])) → StatusTaken m status t

pub status_taken : (from : Node) (status : StatusTransfer) (m : MasterProc) → StatusTaken m status (transferred from status m m.command)
status_taken from status m = by m.command
  where
    unless_from : (y : Node) (b : Bool) (why : ProcFault) → StatusTaken m status (if b then Err why else Ok (m, send y (rec.Snst status) ∷ []))
    unless_from y true why = stays_so why refl
    unless_from y false why = to_other y refl

    passes : (o : Option (ℕ × Node)) → StatusTaken m status (passed_to m status from o)
    passes None = stays_so (unexpected kind.Snst) refl
    passes (Some (id, T)) = stays_so (unexpected kind.Snst) refl
    passes (Some (id, M)) = to_own refl
    passes (Some (id, A)) = unless_from A (is_same_node from A) (unexpected kind.Snst)
    passes (Some (id, B)) = unless_from B (is_same_node from B) (unexpected kind.Snst)

    by : (o : Option Command) → StatusTaken m status (transferred from status m o)
    by None = stays_so (unexpected kind.Snst) refl
    by (Some (asked c first who wanted)) = stays_so (unexpected kind.Snst) refl
    by (Some (gone p w)) = passes (if p.g == status.g then find (λ (x : ℕ × Node). x.0 == status.id) w.moving else None)
    by (Some (recovering i terminal second)) = stays_so (unexpected kind.Snst) refl

abbrev acts_or : List Act → Result MasterActs ProcFault → List Act
acts_or d (Ok r) = r.1
acts_or d (Err why) = d

abbrev ok_or : MasterActs → Result MasterActs ProcFault → MasterActs
ok_or d (Ok r) = r
ok_or d (Err why) = d

same_acts : (r q : MasterActs) (t : Result MasterActs ProcFault) → t ≡ Ok r → t ≡ Ok q → r ≡ q
same_acts r q t one two = ap (ok_or r) (sym one ∙ two)

abbrev passed_in : StatusTransfer → List Act → StatusTransfer
passed_in d [] = d
passed_in d (pass status ∷ acts) = status
passed_in d (a ∷ acts) = d

-- ---- a step

module _ (c : Choices) (m : MasterNode) (up : Ascends m.anchors) (apt : IsApt m.proc) (b : Bool) (av bv : Views) (da ua db ub : List Rec) (whole : WholeIn (state_of b m.proc) (master_view m) av bv da ua db ub)
    (fresh : IsFree (course_of b m.proc.command) → (g : ℕ) (who : Node) → m.proc.table.last < g → list_any (is_agreement g) (ups ua ub who) ≡ false) where
  -- the flag is that of the lines
  abbrev pub IsSameFlag : Type 0
  IsSameFlag = b ≡ agreed_by m.proc.command (ups ua ub)

  pub lines_of : IsSameFlag → (o : Option Command) (agreed : Bool) → AreLines (state_of b m.proc) o agreed ua ub
  lines_of same o agreed = record { old = λ ch first who wanted e at. by m.proc.command ch.plan who at same; new = fresh }
    where
      by : (p : Option Command) (q : Plan) (who : Node) → course_of b p ≡ proposed q (Some who) agreed → b ≡ agreed_by p (ups ua ub) → agreed ≡ list_any (is_agreement q.g) (ups ua ub who)
      by None q who at is = absurd cc
      by (Some (asked ch first y wanted)) q who at is = sym (ap agreed_of at) ∙ is ∙ ap (λ (z : Course). list_any (is_agreement (gen_of z)) (ups ua ub (who_of z))) at
      by (Some (gone p w)) q who at is = absurd cc
      by (Some (recovering i terminal second)) q who at is = absurd cc

  -- what was taken is a turn, of what is kept
  pub record Settles (r : MasterActs) : Type 0 where
    pub from : State
    pub turned : Turned from r
    pub lines : AreLines from r.0.command turned.agreed ua ub
    pub kept : WholeIn from (master_view m) av bv da ua db ub

  abbrev pub TakesSettled : Result MasterActs ProcFault → Type 0
  TakesSettled (Ok r) = Settles r
  TakesSettled (Err why) = IsSameFlag

  settled_then : (r : MasterActs) (done : MasterNode × Effects) → Settles r → MasterProjects m r done → WholeThen av bv da ua db ub done
  settled_then r done is did = settle av bv da ua db ub is.from r (master_view m) done is.turned is.lines is.kept did.proc did.after did.told

  pub by_turn : (r : MasterActs) → IsSameFlag → Turned (state_of b m.proc) r → Settles r
  by_turn r same is = record { from = state_of b m.proc; turned = is; lines = lines_of same r.0.command is.agreed; kept = whole }

  pub turn_taken : (t : Result MasterActs ProcFault) → IsSameFlag → TakesTurned (state_of b m.proc) t → TakesSettled t
  turn_taken (Ok r) same is = by_turn r same is
  turn_taken (Err why) same is = same

  pub nothing_then : (done : MasterNode × Effects) → IsSameFlag → done ≡ (m, quiet) → WholeThen av bv da ua db ub done
  nothing_then done same is =
      subst (λ z. WholeThen av bv da ua db ub z) (sym is)
      (settled_then (m.proc, []) (m, quiet) (by_turn (m.proc, []) same (still b m.proc [] tt)) (record { proc = refl; after = λ k. refl; told = refl; ascends = up }))

  -- a record that is no status transfer
  pub heard_then : (from : Node) (r : Rec) (done : MasterNode × Effects) → TakesSettled (master_take from m.proc r) → MasterHeard c m from r done → WholeThen av bv da ua db ub done
  heard_then from r done settles (master_heard acts taken plain is) = settled_then acts done (subst TakesSettled taken settles) is
  heard_then from r done settles (master_passed status taken is) =
      let now = subst TakesSettled taken settles in
      absurd (no_way (turn_no_pass now.from (state_of now.turned.agreed m.proc) (pass status ∷ []) now.turned.turn))
    where
      no_way : true ≡ false → ⊥
      no_way e = absurd cc
  heard_then from r done settles (master_no_row why taken is) = nothing_then done (subst TakesSettled taken settles) is

  -- a command
  pub command_then : (e : Event) (done : MasterNode × Effects) → AddsSecond e → IsSameFlag → MasterOrdered m (length c.policies) e done → WholeThen av bv da ua db ub done
  command_then e done adds same (master_ordered acts taken is) =
      settled_then acts done (by_turn acts same (subst (TakesTurned (state_of b m.proc)) taken (command_turned b m.proc apt whole.keeps.away (length c.policies) e adds))) is
  command_then e done adds same (master_refused why refused is) = nothing_then done same is

  -- an adoption
  adopted_then : (id : ℕ) (next : MasterNode) (before : Effects) (done : MasterNode × Effects) → IsSameFlag → next.proc ≡ m.proc → Ascends next.anchors → records_sent before.sends ≡ []
      → done ≡ after_effects before (does c next (master_adopted next.proc id)) → holds_there (master_view next id) ≡ true → WholeIn (state_of b m.proc) (master_view next) av bv da ua db ub → WholeThen av bv da ua db ub done
  adopted_then id next before done same proc up' none is has kept =
      let acts = master_adopted next.proc id in
      let then' = does c next acts in
      let projects = does_projects c next acts up' in
      adoption_settles av bv da ua db ub b m.proc apt id (master_view next) done has kept (ap (λ (z : MasterNode × Effects). z.0.proc) is ∙ projects.proc ∙ ap (λ (p : MasterProc). (master_adopted p id).0) proc)
      (λ k. ap (λ (z : MasterNode × Effects). master_view z.0 k) is ∙ projects.after k ∙ ap (λ (p : MasterProc). own_acts_view (master_adopted p id).1 (master_view next) k) proc)
      (ap (λ (z : MasterNode × Effects). records_sent z.1.sends) is ∙ records_both before.sends then'.1.sends none projects.told ∙ ap (λ (p : MasterProc). own_acts_sends (master_adopted p id).1 (master_view next)) proc)
      (lines_of same m.proc.command) fresh

  -- traffic
  pub traffic_then : (done : MasterNode × Effects) → IsSameFlag → MasterOnTraffic c m done → WholeThen av bv da ua db ub done
  traffic_then done same (master_keeps proc views sends up') =
      settled_then (m.proc, []) done (by_turn (m.proc, []) same (still b m.proc [] tt)) (record { proc = proc; after = views; told = no_records done.1.sends sends; ascends = up' up })
  traffic_then done same (master_adopts id v at had next before proc views sends up' is) =
      adopted_then id next before done same proc (up' up) (no_records before.sends sends) is has
      (record {
        keeps = changed_keeps (state_of b m.proc) (master_view m) (master_view next) (rest_of av bv da ua db ub) (rest_of av bv da ua db ub) id (Some (adopting v)) 0 views (omega (arith, ap kept_by at, ap kept_at had)) (λ k. fewer k (id == k))
            (subst (IsNamed id) at (whole.keeps.named id)) (adopting_waits M (course_of b m.proc.command) id v) (λ e. refl) whole.keeps;
        a = whole.a;
        b = whole.b;
      })
    where
      fewer : (k : ℕ) (d : Bool) → rest_of av bv da ua db ub k + (if d then 0 else 0) ≤ rest_of av bv da ua db ub k
      fewer k true = omega arith
      fewer k false = omega arith

      has : holds_there (master_view next id) ≡ true
      has = ap holds_there (views id) ∙ ap (λ d. holds_there (if d then Some (adopting v) else master_view m id)) (eq-eqb id id refl)

  -- ---- a status transfer

  module _ (status : StatusTransfer) (ua' ub' : List Rec) (count : (k : ℕ) → (statuses k ua + statuses k ub) + (if status.id == k then 1 else 0) ≤ statuses k ua' + statuses k ub') (before' : WholeIn (state_of b m.proc) (master_view m) av bv da ua' db ub')
      (same : IsSameFlag) where
    -- at the master's own anchor
    own_kept : (mv : Views) (adopts : Bool) → ((k : ℕ) → mv k ≡ (if status.id == k then passed status adopts (master_view m status.id) else master_view m k)) → WholeIn (state_of b m.proc) mv av bv da ua db ub
    own_kept mv adopts views = record {
      keeps = changed_keeps (state_of b m.proc) (master_view m) mv (rest_of av bv da ua' db ub') (rest_of av bv da ua db ub) status.id (passed status adopts (master_view m status.id)) 1 views (passed_law status adopts (master_view m status.id))
          (λ k. omega (arith, count k)) (passed_named status.id status adopts (master_view m status.id) (whole.keeps.named status.id))
          (passed_waits M (course_of b m.proc.command) status.id status adopts (master_view m status.id) (whole.keeps.waits status.id)) (holds_on' (master_view m status.id)) before'.keeps;
      a = whole.a;
      b = whole.b;
    }
      where
        holds_on' : (o : Option View) → holds_there o ≡ true → holds_there (passed status adopts o) ≡ true
        holds_on' None is = absurd cc
        holds_on' (Some v) is = by (is_awaited status v) refl
          where
            by : (d : Bool) → is_awaited status v ≡ d → holds_there (Some (if d then at_stage (stage_after adopts) v else v)) ≡ true
            by true awaited = absurd (never (is_holding v.stage) is (awaited_idle v.stage ((v.bearer.id == status.id) && (v.bearer.g == status.g)) awaited))
            by false other = is

    passed_then : (done : MasterNode × Effects) → MasterPassed c m status done → WholeThen av bv da ua db ub done
    passed_then done (waits_on did) =
        settle av bv da ua db ub (state_of b m.proc) (m.proc, []) (master_view done.0) done (still b m.proc [] tt) (lines_of same m.proc.command (still b m.proc [] tt).agreed) (own_kept (master_view done.0) false did.after) did.proc (λ k. refl) did.told
    passed_then done (adopts_by_it v at awaited next before did is) =
        adopted_then status.id next before done same did.proc did.ascends did.told is (ap holds_there (did.after status.id) ∙ ap (λ d. holds_there (if d then Some (adopting v) else master_view m status.id)) (eq-eqb status.id status.id refl))
        (own_kept (master_view next) true (λ k. did.after k ∙ ap (λ o. if status.id == k then o else master_view m k) passes))
      where
        passes : Some (adopting v) ≡ passed status true (master_view m status.id)
        passes = sym (ap (passed status true) at ∙ ap (λ d. Some (if d then adopting v else v)) awaited)

    -- on its way to a secondary node
    whole_of : (n : MasterProc) (mv : Views) (da' db' : List Rec) → n ≡ m.proc → WholeIn (state_of b m.proc) mv av bv da' ua db' ub → Whole n mv av bv da' ua db' ub
    whole_of n mv da' db' is kept =
        let now = subst (λ d. WholeIn (state_of d m.proc) mv av bv da' ua db' ub) same kept in
        subst (λ p. Whole p mv av bv da' ua db' ub) (sym is) (record { keeps = now.keeps; a = now.a; b = now.b })

    sent_then : (y : Node) (done : MasterNode × Effects) → MasterProjects m (m.proc, send y (rec.Snst status) ∷ []) done → WholeThen av bv da ua db ub done
    sent_then y done did =
        let acts = send y (rec.Snst status) ∷ [] in
        let mv = master_view m in
        let kept : WholeIn (state_of b m.proc) (master_view done.0) av bv (da ++ put A acts mv) ua (db ++ put B acts mv) ub =
        record {
          keeps = keeps_same (state_of b m.proc) mv (master_view done.0) (rest_of av bv da ua' db ub') (rest_of av bv (da ++ put A acts mv) ua (db ++ put B acts mv) ub) (same_views mv (master_view done.0) did.after)
              (λ k. omega (arith, count k, statuses_append k da (put A acts mv), statuses_append k db (put B acts mv), two_lines k (link M A Ctl) (link M B Ctl) (own_acts_sends acts mv) refl, one_sent k)) before'.keeps;
          a = record { named = whole.a.named; waits = whole.a.waits; line = both_apart A da (put A acts mv) whole.a.line (apart A refl) };
          b = record { named = whole.b.named; waits = whole.b.waits; line = both_apart B db (put B acts mv) whole.b.line (apart B refl) };
        } in
        subst (λ sends. Whole done.0.proc (master_view done.0) av bv (da ++ heard_of A sends) ua (db ++ heard_of B sends) ub) (sym did.told)
        (whole_of done.0.proc (master_view done.0) (da ++ put A acts mv) (db ++ put B acts mv) did.proc kept)
      where
        one_sent : (k : ℕ) → sent k (own_acts_sends (send y (rec.Snst status) ∷ []) (master_view m)) ≡ (if status.id == k then 1 else 0)
        one_sent k = omega arith

        apart : (x : Node) → is_secondary x ≡ true → AreApartAll x (put x (send y (rec.Snst status) ∷ []) (master_view m))
        apart x second = subst (AreApartAll x) (sym (put_send x y (rec.Snst status) (master_view m) second)) (by (is_same_node x y))
          where
            by : (d : Bool) → AreApartAll x (if d then bare_record (rec.Snst status) ∷ [] else [])
            by true = (tt, tt)
            by false = tt

    pub status_then : (from : Node) (done : MasterNode × Effects) → master_take from m.proc (rec.Snst status) ≡ transferred from status m.proc m.proc.command → MasterHeard c m from (rec.Snst status) done → WholeThen av bv da ua db ub done
    status_then from done row hears = by (status_taken from status m.proc) hears
      where
        no_way : true ≡ false → ⊥
        no_way e = absurd cc

        by : StatusTaken m.proc status (transferred from status m.proc m.proc.command) → MasterHeard c m from (rec.Snst status) done → WholeThen av bv da ua db ub done
        by t (master_no_row why taken is) = nothing_then done same is
        by (stays_so why e) (master_heard acts taken plain is) = absurd cc
        by (stays_so why e) (master_passed status' taken is) = absurd cc
        by (to_own e) (master_heard acts taken plain is) = absurd (no_way (ap (λ t. list_any is_pass (acts_or [] t)) (sym e ∙ sym row ∙ taken) ∙ plain))
        by (to_own e) (master_passed status' taken is) =
            passed_then done (subst (λ z. MasterPassed c m z done) (ap (λ t. passed_in status (acts_or [] t)) (sym taken ∙ row ∙ e)) is)
        by (to_other y e) (master_heard acts taken plain is) = sent_then y done (subst (λ z. MasterProjects m z done) (same_acts acts (m.proc, send y (rec.Snst status) ∷ []) (transferred from status m.proc m.proc.command) (sym row ∙ taken) e) is)
        by (to_other y e) (master_passed status' taken is) = absurd (no_way (ap (λ t. list_any is_pass (acts_or [] t)) (sym taken ∙ row ∙ e)))
