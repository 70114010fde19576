-- The master and both secondary nodes with the lines between them: what is kept of all bearers, as a secondary node acts, or the master turns.
use Rattle.std.proofs.Common.{ℕ, ◌≡◌, ◌≤◌, ◌<◌, ◌+◌, ◌==◌, ◌++◌, ◌∙◌, Bool, true, false, List, [], ◌∷◌, Option, Some, None, refl, sym, ap, subst, arith, inl, inr}
use Rattle.std.specs.List.{list_any}
use Rattle.std.specs.Prelude.{⊤, ◌||◌, ◌⊎◌}
use Rattle.std.proofs.lemmas.List.Folds.{list_any-append}
use Rattle.dc_base.specs.Links.{link}
use Rattle.dc_base.specs.Nodes.{is_same_node, is_secondary}
use Rattle.dc_base.specs.declared.nodes.Class.TheVariants.{Ctl}
use Rattle.dc_base.specs.declared.nodes.Node.{Node}
use Rattle.dc_base.specs.declared.nodes.Node.TheVariants.{A, B, M, T}
use Rattle.dc_base.specs.declared.records.Plan.{Plan}
use Rattle.dc_base.specs.declared.records.Rec.{Rec}
use Rattle.node_rules.specs.MasterState.{MasterActs, MasterProc}
use Rattle.node_rules.specs.declared.commands.Change.{Change}
use Rattle.node_rules.specs.declared.commands.Command.{Command}
use Rattle.node_rules.specs.declared.commands.Command.TheVariants.{Asked as asked, Gone as gone, Recovering as recovering}
use Rattle.node_rules.specs.declared.commands.First.{First}
use Rattle.node_rules.specs.declared.commands.Row.{Row}
use Rattle.run_control.specs.Claims.{is_agreement}
use Rattle.run_control.specs.MasterControl.{own_acts_sends, own_acts_view}
use Rattle.run_control.specs.SecondControl.{Views}
use Rattle.run_control.specs.Views.{View}
use Rattle.node_rules.specs.declared.acts.Act.{Act}
use Rattle.run_pairs.specs.Bearers.{AreHeld, IsHeldAt}
use Rattle.run_pairs.proofs.Putting.{heard_of, put}
use Rattle.run_pairs.proofs.Replies.{node_itself}
use Rattle.run_places.specs.Tokens.{kept_by, statuses}
use Rattle.run_places.proofs.Agreeing.{agreed_keeps}
use Rattle.run_places.proofs.Begins.{IsFlag, Turned}
use Rattle.run_places.proofs.Counting.{sent, statuses_append, two_lines}
use Rattle.run_places.proofs.Going.{held_is_kept}
use Rattle.run_places.proofs.Items.{AreNamed}
use Rattle.run_places.proofs.SecondSteps.{HasAgreed, HoldsOn}
use Rattle.run_places.proofs.SecondTurning.{HasTaken, IsAskedHere, has_agreed, holds_on}
use Rattle.run_places.proofs.States.{Course, IsDroppedAt, Keeps, State, Turn, WaitsFor, carried_out, course_of, proposed, row_in, settled, state_of}
use Rattle.run_places.proofs.TurnKeeps.{AreSame, keeps_same, same_itself}
use Rattle.run_places.proofs.Turning.{turn_keeps}
use Rattle.run_places.proofs.TurnLines.{AreApartAll, both_apart, turn_apart, turn_waits}

-- ---- what is kept

-- the lines from the secondary nodes
abbrev pub ups : List Rec → List Rec → Node → List Rec
ups ua ub A = ua
ups ua ub B = ub
ups ua ub M = []
ups ua ub T = []

-- the node that is asked has agreed
abbrev pub agreed_by : Option Command → (Node → List Rec) → Bool
agreed_by None up = false
agreed_by (Some (asked c first who wanted)) up = list_any (is_agreement c.plan.g) (up who)
agreed_by (Some (gone p going)) up = false
agreed_by (Some (recovering id terminal second)) up = false

-- how often a bearer is held, or on its way, elsewhere than at the master
abbrev pub rest_of : Views → Views → List Rec → List Rec → List Rec → List Rec → ℕ → ℕ
rest_of av bv da ua db ub k = (kept_by (av k) + kept_by (bv k)) + ((statuses k da + statuses k ua) + (statuses k db + statuses k ub))

-- a secondary node: its anchors, and the line to it
pub record There (x : Node) (c : Course) (at : Views) (down : List Rec) : Type 0 where
  pub named : AreNamed at
  pub waits : (k : ℕ) → WaitsFor x c k (at k)
  pub line : AreApartAll x down

-- all
pub record Whole (m : MasterProc) (mv av bv : Views) (da ua db ub : List Rec) : Type 0 where
  pub keeps : Keeps (state_of (agreed_by m.command (ups ua ub)) m) mv (rest_of av bv da ua db ub)
  pub a : There A (course_of (agreed_by m.command (ups ua ub)) m.command) av da
  pub b : There B (course_of (agreed_by m.command (ups ua ub)) m.command) bv db

-- ---- a secondary node acts

or_false : (b : Bool) → (b || false) ≡ b
or_false true = refl
or_false false = refl

or_true : (b : Bool) → (b || true) ≡ true
or_true true = refl
or_true false = refl

-- the flag stays, or the node has agreed
same_flag_a : (o : Option Command) (ua ub told : List Rec) → ((c : Change) (first : First) (wanted : Bool) → IsAskedHere A o c first wanted → list_any (is_agreement c.plan.g) told ≡ false) → agreed_by o (ups (ua ++ told) ub) ≡ agreed_by o (ups ua ub)
same_flag_a None ua ub told silent = refl
same_flag_a (Some (asked c first A wanted)) ua ub told silent =
    list_any-append (is_agreement c.plan.g) ua told ∙ ap (λ z. list_any (is_agreement c.plan.g) ua || z) (silent c first wanted refl) ∙ or_false (list_any (is_agreement c.plan.g) ua)
same_flag_a (Some (asked c first B wanted)) ua ub told silent = refl
same_flag_a (Some (asked c first M wanted)) ua ub told silent = refl
same_flag_a (Some (asked c first T wanted)) ua ub told silent = refl
same_flag_a (Some (gone p going)) ua ub told silent = refl
same_flag_a (Some (recovering id terminal second)) ua ub told silent = refl

same_flag_b : (o : Option Command) (ua ub told : List Rec) → ((c : Change) (first : First) (wanted : Bool) → IsAskedHere B o c first wanted → list_any (is_agreement c.plan.g) told ≡ false) → agreed_by o (ups ua (ub ++ told)) ≡ agreed_by o (ups ua ub)
same_flag_b None ua ub told silent = refl
same_flag_b (Some (asked c first B wanted)) ua ub told silent =
    list_any-append (is_agreement c.plan.g) ub told ∙ ap (λ z. list_any (is_agreement c.plan.g) ub || z) (silent c first wanted refl) ∙ or_false (list_any (is_agreement c.plan.g) ub)
same_flag_b (Some (asked c first A wanted)) ua ub told silent = refl
same_flag_b (Some (asked c first M wanted)) ua ub told silent = refl
same_flag_b (Some (asked c first T wanted)) ua ub told silent = refl
same_flag_b (Some (gone p going)) ua ub told silent = refl
same_flag_b (Some (recovering id terminal second)) ua ub told silent = refl

agreed_flag : (g : ℕ) (up told : List Rec) → list_any (is_agreement g) told ≡ true → list_any (is_agreement g) (up ++ told) ≡ true
agreed_flag g up told tells = list_any-append (is_agreement g) up told ∙ ap (λ z. list_any (is_agreement g) up || z) tells ∙ or_true (list_any (is_agreement g) up)

-- a waiting anchor of another node waits on, where a node agreed
agreed_waits : (y : Node) (p : Plan) (x : Node) (k : ℕ) (o : Option View) → is_secondary y ≡ true → WaitsFor y (proposed p (Some x) false) k o → WaitsFor y (proposed p (Some x) true) k o
agreed_waits y p x k None second is = tt
agreed_waits T p x k (Some v) second is = absurd cc
agreed_waits M p x k (Some v) second is = absurd cc
agreed_waits A p x k (Some v) second is = λ idle. absurd (no_way (is idle).2.1)
  where
    no_way : false ≡ true → ⊥
    no_way e = absurd cc
agreed_waits B p x k (Some v) second is = λ idle. absurd (no_way (is idle).2.1)
  where
    no_way : false ≡ true → ⊥
    no_way e = absurd cc

-- the holder of a row at the node, where nothing moves
row_held : (x : Node) (at : Views) (rows : List Row) (k : ℕ) (r : Row) → AreHeld x at [] rows → row_in k rows ≡ Some r → r.anchor ≡ x → kept_by (at k) ≡ 1
row_held x at rows k r held there here =
    let is : IsHeldAt x (at k) false (Some r) = subst (IsHeldAt x (at k) false) there (held k) in
    held_is_kept (at k) ((is (subst (λ y. is_same_node x y ≡ true) (sym here) (node_itself x))).1 refl)

module _ (m : MasterProc) (mv av bv : Views) (da ua db ub : List Rec) (whole : Whole m mv av bv da ua db ub) where
  abbrev flag : Bool
  flag = agreed_by m.command (ups ua ub)

  -- the node on the one side
  pub a_acts : (av' : Views) (da' told : List Rec) (taken : ℕ → ℕ) → ((k : ℕ) → statuses k da' + taken k ≤ statuses k da) → AreApartAll A da' → HasTaken A flag m.command m.table.rows taken av av' told → Whole m mv av' bv da' (ua ++ told) db ub
  a_acts av' da' told taken fewer line (holds_on is silent) =
      let same = sym (same_flag_a m.command ua ub told silent) in
      record {
        keeps = subst (λ z. Keeps (state_of z m) mv (rest_of av' bv da' (ua ++ told) db ub)) same
            (keeps_same (state_of flag m) mv mv (rest_of av bv da ua db ub) (rest_of av' bv da' (ua ++ told) db ub) (λ k. same_itself (mv k)) (λ k. omega (arith, is.few k, fewer k, statuses_append k ua told)) whole.keeps);
        a = subst (λ z. There A (course_of z m.command) av' da') same (record { named = is.named; waits = is.waits; line = line });
        b = subst (λ z. There B (course_of z m.command) bv db) same whole.b;
      }
  a_acts av' da' told taken fewer line (has_agreed c first wanted asks_it before is held tells) =
      let after : agreed_by m.command (ups (ua ++ told) ub) ≡ true = ap (λ o. agreed_by o (ups (ua ++ told) ub)) asks_it ∙ agreed_flag c.plan.g ua told tells in
      let course : course_of flag m.command ≡ proposed c.plan (Some A) false = ap (λ z. course_of z m.command) before ∙ ap (course_of false) asks_it in
      let course' : course_of true m.command ≡ proposed c.plan (Some A) true = ap (course_of true) asks_it in
      record {
        keeps = subst (λ z. Keeps (state_of z m) mv (rest_of av' bv da' (ua ++ told) db ub)) (sym after)
            (subst (λ z. Keeps (record (state_of true m) { course = z }) mv (rest_of av' bv da' (ua ++ told) db ub)) (sym course')
            (agreed_keeps (state_of flag m) c.plan A mv (rest_of av bv da ua db ub) (rest_of av' bv da' (ua ++ told) db ub) course (λ k. omega (arith, is.few k, fewer k, statuses_append k ua told))
            (λ k gone. omega (arith, row_held A av m.table.rows k gone.its_row held gone.there gone.here, is.drops k gone.it gone.found gone.drop, whole.keeps.once k, fewer k, statuses_append k ua told)) whole.keeps));
        a = subst (λ z. There A (course_of z m.command) av' da') (sym after) (subst (λ z. There A z av' da') (sym course') (record { named = is.named; waits = is.waits; line = line }));
        b = subst (λ z. There B (course_of z m.command) bv db) (sym after)
            (subst (λ z. There B z bv db) (sym course')
            (record { named = whole.b.named; waits = λ k. agreed_waits B c.plan A k (bv k) refl (subst (λ z. WaitsFor B z k (bv k)) course (whole.b.waits k)); line = whole.b.line }));
      }

  -- and that on the other
  pub b_acts : (bv' : Views) (db' told : List Rec) (taken : ℕ → ℕ) → ((k : ℕ) → statuses k db' + taken k ≤ statuses k db) → AreApartAll B db' → HasTaken B flag m.command m.table.rows taken bv bv' told → Whole m mv av bv' da ua db' (ub ++ told)
  b_acts bv' db' told taken fewer line (holds_on is silent) =
      let same = sym (same_flag_b m.command ua ub told silent) in
      record {
        keeps = subst (λ z. Keeps (state_of z m) mv (rest_of av bv' da ua db' (ub ++ told))) same
            (keeps_same (state_of flag m) mv mv (rest_of av bv da ua db ub) (rest_of av bv' da ua db' (ub ++ told)) (λ k. same_itself (mv k)) (λ k. omega (arith, is.few k, fewer k, statuses_append k ub told)) whole.keeps);
        a = subst (λ z. There A (course_of z m.command) av da) same whole.a;
        b = subst (λ z. There B (course_of z m.command) bv' db') same (record { named = is.named; waits = is.waits; line = line });
      }
  b_acts bv' db' told taken fewer line (has_agreed c first wanted asks_it before is held tells) =
      let after : agreed_by m.command (ups ua (ub ++ told)) ≡ true = ap (λ o. agreed_by o (ups ua (ub ++ told))) asks_it ∙ agreed_flag c.plan.g ub told tells in
      let course : course_of flag m.command ≡ proposed c.plan (Some B) false = ap (λ z. course_of z m.command) before ∙ ap (course_of false) asks_it in
      let course' : course_of true m.command ≡ proposed c.plan (Some B) true = ap (course_of true) asks_it in
      record {
        keeps = subst (λ z. Keeps (state_of z m) mv (rest_of av bv' da ua db' (ub ++ told))) (sym after)
            (subst (λ z. Keeps (record (state_of true m) { course = z }) mv (rest_of av bv' da ua db' (ub ++ told))) (sym course')
            (agreed_keeps (state_of flag m) c.plan B mv (rest_of av bv da ua db ub) (rest_of av bv' da ua db' (ub ++ told)) course (λ k. omega (arith, is.few k, fewer k, statuses_append k ub told))
            (λ k gone. omega (arith, row_held B bv m.table.rows k gone.its_row held gone.there gone.here, is.drops k gone.it gone.found gone.drop, whole.keeps.once k, fewer k, statuses_append k ub told)) whole.keeps));
        a = subst (λ z. There A (course_of z m.command) av da) (sym after)
            (subst (λ z. There A z av da) (sym course')
            (record { named = whole.a.named; waits = λ k. agreed_waits A c.plan B k (av k) refl (subst (λ z. WaitsFor A z k (av k)) course (whole.a.waits k)); line = whole.a.line }));
        b = subst (λ z. There B (course_of z m.command) bv' db') (sym after) (subst (λ z. There B z bv' db') (sym course') (record { named = is.named; waits = is.waits; line = line }));
      }

-- ---- the master turns

-- from a state in which this is kept
pub record WholeIn (s : State) (mv av bv : Views) (da ua db ub : List Rec) : Type 0 where
  pub keeps : Keeps s mv (rest_of av bv da ua db ub)
  pub a : There A s.course av da
  pub b : There B s.course bv db

pub turn_whole : (s s' : State) (acts : List Act) (mv av bv : Views) (da ua db ub : List Rec) → Turn s acts s' → WholeIn s mv av bv da ua db ub
    → WholeIn s' (own_acts_view acts mv) av bv (da ++ put A acts mv) ua (db ++ put B acts mv) ub
turn_whole s s' acts mv av bv da ua db ub turn whole = record {
  keeps = keeps_same s' (own_acts_view acts mv) (own_acts_view acts mv) (λ k. rest_of av bv da ua db ub k + sent k (own_acts_sends acts mv)) (rest_of av bv (da ++ put A acts mv) ua (db ++ put B acts mv) ub) (λ k. same_itself (own_acts_view acts mv k))
      (λ k. omega (arith, statuses_append k da (put A acts mv), statuses_append k db (put B acts mv), two_lines k (link M A Ctl) (link M B Ctl) (own_acts_sends acts mv) refl)) (turn_keeps s s' acts mv (rest_of av bv da ua db ub) turn whole.keeps);
  a = record { named = whole.a.named; waits = λ k. turn_waits A refl s s' acts turn k (av k) (whole.a.waits k); line = both_apart A da (put A acts mv) whole.a.line (turn_apart A refl s s' acts turn mv) };
  b = record { named = whole.b.named; waits = λ k. turn_waits B refl s s' acts turn k (bv k) (whole.b.waits k); line = both_apart B db (put B acts mv) whole.b.line (turn_apart B refl s s' acts turn mv) };
}

-- fewer status transfers elsewhere, and the same anchors
pub whole_less : (s : State) (mv mv' av bv : Views) (da ua ua' db ub ub' : List Rec) → AreSame mv mv' → ((k : ℕ) → statuses k ua' ≤ statuses k ua) → ((k : ℕ) → statuses k ub' ≤ statuses k ub) → WholeIn s mv av bv da ua db ub → WholeIn s mv' av bv da ua' db ub'
whole_less s mv mv' av bv da ua ua' db ub ub' same p q whole = record {
  keeps = keeps_same s mv mv' (rest_of av bv da ua db ub) (rest_of av bv da ua' db ub') same (λ k. omega (arith, p k, q k)) whole.keeps;
  a = whole.a;
  b = whole.b;
}
