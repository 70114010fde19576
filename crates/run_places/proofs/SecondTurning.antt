-- Whatever input a secondary node takes, by the pair of it and the master.
use Rattle.std.proofs.Common.{ℕ, ◌≡◌, ◌≤◌, ◌+◌, ◌==◌, ◌++◌, ◌∙◌, Bool, true, false, List, [], ◌∷◌, Option, Some, None, refl, sym, ap, subst, arith, inl, inr}
use Rattle.std.specs.List.{AllByRecursion, filter, list_any}
use Rattle.std.specs.Prelude.{Err, Ok, Result, if◌then◌else◌, is_none, map, not, ⊤, ◌&&◌, ◌||◌, ◌⊎◌}
use Rattle.std.proofs.lemmas.Bool.{eq-eqb, eqb-true}
use Rattle.std.proofs.lemmas.Option.{same_Some}
use Rattle.dc_base.specs.Links.{link}
use Rattle.dc_base.specs.Nodes.{is_same_node, is_secondary}
use Rattle.dc_base.specs.declared.events.Event.{Event}
use Rattle.dc_base.specs.declared.flights.Flight.TheVariants as flight
use Rattle.dc_base.specs.declared.nodes.Class.TheVariants.{Ctl}
use Rattle.dc_base.specs.declared.nodes.Node.{Node}
use Rattle.dc_base.specs.declared.nodes.Node.TheVariants.{M}
use Rattle.dc_base.specs.declared.records.Plan.{Plan}
use Rattle.dc_base.specs.declared.records.Rec.{Rec}
use Rattle.dc_base.specs.declared.records.Rec.TheVariants as rec
use Rattle.node_rules.specs.Acts.{ProcFault, first_refusal}
use Rattle.node_rules.specs.Choices.{Send}
use Rattle.node_rules.specs.Effects.{quiet}
use Rattle.node_rules.specs.MasterState.{MasterProc}
use Rattle.node_rules.specs.SecondRecords.{second_take}
use Rattle.node_rules.specs.SecondState.{SecondActs, second_refusals}
use Rattle.node_rules.specs.SecondStep.{plan_in}
use Rattle.node_rules.specs.Secondary.{SecondNode, name_of}
use Rattle.node_rules.specs.declared.acts.Act.{Act}
use Rattle.node_rules.specs.declared.acts.Act.TheVariants.{Go as go, Pass as pass}
use Rattle.node_rules.specs.declared.commands.Change.{Change}
use Rattle.node_rules.specs.declared.commands.Command.{Command}
use Rattle.node_rules.specs.declared.commands.Command.TheVariants.{Asked as asked, Gone as gone, Recovering as recovering}
use Rattle.node_rules.specs.declared.commands.First.{First}
use Rattle.node_rules.specs.declared.commands.First.TheVariants.{Addition as addition, Modification as modification, Release as release}
use Rattle.node_rules.specs.declared.inputs.Effects.{Effects}
use Rattle.node_rules.specs.declared.inputs.Input.{Input}
use Rattle.run_control.specs.Claims.{IsFirst, IsStandOf, Stand, agrees, asks, goes_on, is_agreement, refuses, rests}
use Rattle.run_control.specs.Rows.{has_row, is_request}
use Rattle.run_control.specs.SecondControl.{Views, SecondHeard, SecondOrdered, SecondProjects, bare_flight, bare_record, fits, heard, no_row, not_ordered, ordered, records_sent, unfit}
use Rattle.run_control.specs.Steps.{SecondStepped, record_in, second_by_command, second_by_nothing, second_by_record, second_by_traffic}
use Rattle.run_control.specs.Traffic.{second_adopts, second_keeps, with_view}
use Rattle.run_control.specs.Views.{View, adopting, has_status, second_view}
use Rattle.run_control.proofs.EventTurns.{TakesBusy, second_busy, unless_busy}
use Rattle.run_control.proofs.Sequences.{no_records}
use Rattle.run_control.proofs.Turns.{never}
use Rattle.run_pairs.specs.Apt.{IsApt, IsAptCommand}
use Rattle.run_pairs.specs.Bearers.{AreHeld}
use Rattle.run_pairs.specs.Fits.{AreFitting, bearing_by}
use Rattle.node_rules.specs.declared.commands.Row.{Row}
use Rattle.run_pairs.specs.Pairs.{IsLineOf, acknowledge, is_before, is_notice, is_word, rejection, reply, words}
use Rattle.run_pairs.proofs.BearersKept.{IsNoGo}
use Rattle.run_pairs.proofs.FitTurns.{bare_fits}
use Rattle.run_pairs.proofs.Pairing.{IsOfAsked, IsPaired, asked_first, asked_stand, of_asked}
use Rattle.run_pairs.proofs.SecondWords.{bare_heard, bare_row, projects_words, told_of, told_send}
use Rattle.run_pairs.proofs.Serving.{IsHeardAs, IsServed, acknowledged, agreeing, plainly, rejecting, said, served}
use Rattle.run_places.specs.Tokens.{kept_at, kept_by, status_in, statuses}
use Rattle.run_places.proofs.Counting.{bare_status}
use Rattle.run_places.proofs.Items.{AreNamed, IsNamed}
use Rattle.run_places.proofs.PairFacts.{none_agreed, replies_in}
use Rattle.run_pairs.proofs.Replies.{node_itself}
use Rattle.run_places.proofs.SecondSteps.{HasAgreed, HoldsOn, agrees_to, leaving, passing, quietly}
use Rattle.run_places.proofs.SecondTakes.{IsQuiet, OrdersQuiet, OrdersUnagreed, Took, TookBy, orders_quiet, orders_unagreed, took, took_plan, took_quietly, took_status}
use Rattle.run_places.proofs.States.{IsLeave, WaitsFor, course_of, proposed}
use Rattle.run_places.proofs.TurnLines.{AreApartAll, IsApart}

-- ---- records

bare_plan : (r : Rec) → plan_in (bare_record r) ≡ plan_in r
bare_plan (rec.Snst status) = refl
bare_plan r = refl

bare_request : (r : Rec) → is_request (bare_record r) ≡ is_request r
bare_request (rec.Snst status) = refl
bare_request r = refl

-- the plan by which a node leaves has no anchor there
leave_of : (x : Node) (r : Rec) (p : Plan) → plan_in r ≡ Some p → is_request r ≡ false → IsApart x r → IsLeave x p
leave_of x (rec.Relreq q) p is plain (inl none) = absurd (never (is_none q.sec) (ap is_none none) plain)
leave_of x (rec.Relreq q) p is plain (inr leave) = subst (IsLeave x) (same_Some q p is) leave
leave_of x (rec.Chgcnf q) p is plain leave = subst (IsLeave x) (same_Some q p is) leave
leave_of x (rec.Relcnf q) p is plain leave = subst (IsLeave x) (same_Some q p is) leave
leave_of x (rec.Addreq q key) p is plain leave = absurd cc
leave_of x (rec.Modreq q key) p is plain leave = absurd cc
leave_of x r p is plain leave = absurd cc

first_plan : (f : First) (p : Plan) (r : Rec) → IsFirst f p r → plan_in r ≡ Some p
first_plan addition p (rec.Addreq q key) is = ap (λ z. Some z) is
first_plan addition p r is = absurd is
first_plan modification p (rec.Modreq q key) is = ap (λ z. Some z) is
first_plan modification p r is = absurd is
first_plan release p (rec.Relreq q) is = ap (λ z. Some z) is
first_plan release p r is = absurd is

-- an agreement is a word
agreement_word : (g : ℕ) (r : Rec) → is_agreement g r ≡ true → is_word r ≡ true
agreement_word g (rec.Addack h) is = refl
agreement_word g (rec.Modack h) is = refl
agreement_word g (rec.Relack h) is = refl
agreement_word g r is = absurd cc

any_words : (g : ℕ) (rs : List Rec) → list_any (is_agreement g) (words rs) ≡ list_any (is_agreement g) rs
any_words g [] = refl
any_words g (r ∷ rs) = by (is_word r) refl (any_words g rs)
  where
    idle : (b : Bool) → is_word r ≡ false → is_agreement g r ≡ b → b ≡ false
    idle false no' is = refl
    idle true no' is = absurd (never (is_word r) (agreement_word g r is) no')

    by : (b : Bool) → is_word r ≡ b → list_any (is_agreement g) (words rs) ≡ list_any (is_agreement g) rs → list_any (is_agreement g) (if b then r ∷ words rs else words rs) ≡ (is_agreement g r || list_any (is_agreement g) rs)
    by true word more = ap (λ z. is_agreement g r || z) more
    by false no' more = more ∙ sym (ap (λ z. z || list_any (is_agreement g) rs) (idle (is_agreement g r) no' refl))

rejection_none : (g : ℕ) (f : First) (h : ℕ) → list_any (is_agreement g) (rejection f h ∷ []) ≡ false
rejection_none g addition h = refl
rejection_none g modification h = refl
rejection_none g release h = refl

acknowledge_one : (g : ℕ) (f : First) (h : ℕ) → h ≡ g → list_any (is_agreement g) (acknowledge f h ∷ []) ≡ true
acknowledge_one g addition h is = ap (λ b. b || false) (eq-eqb h g is)
acknowledge_one g modification h is = ap (λ b. b || false) (eq-eqb h g is)
acknowledge_one g release h is = ap (λ b. b || false) (eq-eqb h g is)

-- the acknowledge of a release by another plan agrees to nothing that is asked
other_generation : (b : Bool) → not b ≡ true → b ≡ false
other_generation true is = absurd cc
other_generation false is = refl

no_go : (front : List Act) (p : Plan) → AllByRecursion IsNoGo (front ++ go p ∷ []) → ⊥
no_go [] p all = all.0
no_go (a ∷ front) p all = no_go front p all.1

-- ---- what comes of an input

-- the plan that is asked of the node
abbrev pub IsAskedHere : Node → Option Command → Change → First → Bool → Type 0
IsAskedHere x o c first wanted = o ≡ Some (asked c first x wanted)

-- it holds each bearer no more often, and agrees to nothing; or it agrees to the plan that is asked of it
pub data HasTaken (x : Node) (b : Bool) (o : Option Command) (rows : List Row) (taken : ℕ → ℕ) (at at' : Views) (told : List Rec) : Type 0 where
  holds_on : (is : HoldsOn x (course_of b o) taken at at' told) → (silent : (c : Change) (first : First) (wanted : Bool) → IsAskedHere x o c first wanted → list_any (is_agreement c.plan.g) told ≡ false) → HasTaken x b o rows taken at at' told
  has_agreed : (c : Change) (first : First) (wanted : Bool) → (asks_it : IsAskedHere x o c first wanted) → (before : b ≡ false) → (is : HasAgreed x c.plan at at' told) → (held : AreHeld x at [] rows) → (tells : list_any (is_agreement c.plan.g) told ≡ true) → HasTaken x b o rows taken at at' told

-- the flag is that of the line, where the node is asked
abbrev pub IsFlagOf : Node → Bool → Option Command → List Rec → Type 0
IsFlagOf x b o up = (c : Change) (first : First) (wanted : Bool) → IsAskedHere x o c first wanted → b ≡ list_any (is_agreement c.plan.g) up

module _ (x : Node) (second : is_secondary x ≡ true) (m : MasterProc) (apt : IsApt m) (b : Bool) (s : SecondNode) (name : name_of s ≡ x) (named : AreNamed (second_view s)) (waits : (k : ℕ) → WaitsFor x (course_of b m.command) k (second_view s k)) where
  abbrev Result' : (ℕ → ℕ) → SecondNode × Effects → Type 0
  Result' taken done = HasTaken x b m.command m.table.rows taken (second_view s) (second_view done.0) (told_of x (records_sent done.1.sends))

  -- ---- the record that comes first

  module _ (r : Rec) (acts : SecondActs) (done : SecondNode × Effects) (down up : List Rec) (pair : IsPaired x m s.proc.membership s.proc.want (second_view s) (bare_record r ∷ down) up) (line : IsApart x (bare_record r)) (flag : IsFlagOf x b m.command up)
      (busy : TakesBusy s.proc (Ok acts)) (projects : SecondProjects s acts done) (it : Took r acts.1) where
    me_is : acts.0.me ≡ x
    me_is = busy.0 ∙ name

    told_is : (g : ℕ) → list_any (is_agreement g) (told_of x (records_sent done.1.sends)) ≡ list_any (is_agreement g) (said acts.1)
    told_is g = sym (any_words g (told_of x (records_sent done.1.sends))) ∙ ap (list_any (is_agreement g)) (projects_words x second s acts done name busy projects) ∙ any_words g (said acts.1)

    -- nothing asked here is agreed to by an acknowledge of another release
    acknowledged_none : (o : Option Command) (st : Stand) → IsStandOf x o st → is_request (bare_record r) ≡ false → IsLineOf st (bare_record r ∷ down) → (c : Change) (first : First) (wanted : Bool) → IsAskedHere x o c first wanted
        → list_any (is_agreement c.plan.g) (acknowledged (bare_record r)) ≡ false
    acknowledged_none o st stands plain at c first wanted asks_it = by st (subst (λ z. IsStandOf x z st) asks_it stands) at
      where
        notice_none : (q : Rec) → is_notice q ≡ true → list_any (is_agreement c.plan.g) (acknowledged q) ≡ false
        notice_none (rec.Relreq p) is = absurd cc
        notice_none q is = refl

        before_none : (p : Plan) (q : Rec) → p ≡ c.plan → is_before p.g q ≡ true → list_any (is_agreement c.plan.g) (acknowledged q) ≡ false
        before_none p (rec.Relreq q) same is = ap (λ z. z || false) (ap (λ (z : Plan). q.g == z.g) (sym same) ∙ other_generation (q.g == p.g) is)
        before_none p q same is = refl

        by : (st : Stand) → IsStandOf x (Some (asked c first x wanted)) st → IsLineOf st (bare_record r ∷ down) → list_any (is_agreement c.plan.g) (acknowledged (bare_record r)) ≡ false
        by rests is at' = absurd (never (is_same_node x x) (node_itself x) is)
        by (goes_on l) is at' = absurd is
        by (refuses f p) is at' = notice_none (bare_record r) at'.0
        by (agrees f p) is at' = notice_none (bare_record r) at'.0
        by (asks f p) is (inl here) = absurd (never (is_request (bare_record r)) here.0 plain)
        by (asks f p) is (inr later) = before_none p (bare_record r) is.2 later.1

    taken_plainly : is_request (bare_record r) ≡ false → words (said acts.1) ≡ acknowledged (bare_record r) → Result' (λ k. status_in k r) done
    taken_plainly plain told = by it
      where
        silent : (c : Change) (first : First) (wanted : Bool) → IsAskedHere x m.command c first wanted → list_any (is_agreement c.plan.g) (told_of x (records_sent done.1.sends)) ≡ false
        silent c first wanted asks_it =
            told_is c.plan.g ∙ sym (any_words c.plan.g (said acts.1)) ∙ ap (list_any (is_agreement c.plan.g)) told ∙ acknowledged_none m.command pair.stand pair.stands plain pair.pair.line c first wanted asks_it

        more : HoldsOn x (course_of b m.command) (λ k. 0) (second_view s) (second_view done.0) (told_of x (records_sent done.1.sends)) → HoldsOn x (course_of b m.command) (λ k. status_in k r) (second_view s) (second_view done.0) (told_of x (records_sent done.1.sends))
        more is = record { few = λ k. omega (arith, is.few k); named = is.named; waits = is.waits }

        by : Took r acts.1 → Result' (λ k. status_in k r) done
        by (took_quietly all unagreed) = holds_on (more (quietly x second s done acts me_is projects named (course_of b m.command) all waits)) silent
        by (took_status status is acts_are) =
            holds_on
            (subst (λ q. HoldsOn x (course_of b m.command) (λ k. status_in k q) (second_view s) (second_view done.0) (told_of x (records_sent done.1.sends))) (sym is)
            (passing x second s done acts me_is projects named (course_of b m.command) status waits acts_are)) silent
        by (took_plan p plan front all acts_are) =
            let leave = leave_of x (bare_record r) p (bare_plan r ∙ plan) plain line in
            holds_on (more (leaving x second s done acts me_is projects named p front all acts_are leave.1 (course_of b m.command) leave.0 waits)) silent

    rejected_there : is_request (bare_record r) ≡ true → ((f : First) (p : Plan) → IsFirst f p (bare_record r) → words (said acts.1) ≡ rejection f p.g ∷ []) → AllByRecursion IsNoGo acts.1 → Result' (λ k. status_in k r) done
    rejected_there request told none = by it (asked_stand pair.stand (bare_record r) down request pair.pair.line)
      where
        silent : (f : First) (p : Plan) → IsFirst f p (bare_record r) → (g : ℕ) → list_any (is_agreement g) (told_of x (records_sent done.1.sends)) ≡ false
        silent f p first g = told_is g ∙ sym (any_words g (said acts.1)) ∙ ap (list_any (is_agreement g)) (told f p first) ∙ rejection_none g f p.g

        more : HoldsOn x (course_of b m.command) (λ k. 0) (second_view s) (second_view done.0) (told_of x (records_sent done.1.sends)) → HoldsOn x (course_of b m.command) (λ k. status_in k r) (second_view s) (second_view done.0) (told_of x (records_sent done.1.sends))
        more is = record { few = λ k. omega (arith, is.few k); named = is.named; waits = is.waits }

        by : Took r acts.1 → IsOfAsked pair.stand → Result' (λ k. status_in k r) done
        by (took_quietly all unagreed) (of_asked f p e) =
            let first = (asked_first f p (bare_record r) down request (subst (λ z. IsLineOf z (bare_record r ∷ down)) e pair.pair.line)).first in
            holds_on (more (quietly x second s done acts me_is projects named (course_of b m.command) all waits)) (λ c f' wanted asks_it. silent f p first c.plan.g)
        by (took_status status is acts_are) (of_asked f p e) = absurd (never (is_request (bare_record r)) request (ap (λ q. is_request (bare_record q)) is))
        by (took_plan p plan front all acts_are) stand = absurd (no_go front p (subst (AllByRecursion IsNoGo) acts_are none))

    agreed_there : is_request (bare_record r) ≡ true → ((f : First) (p : Plan) → IsFirst f p (bare_record r) → words (said acts.1) ≡ acknowledge f p.g ∷ []) → Result' (λ k. status_in k r) done
    agreed_there request told = by (asked_stand pair.stand (bare_record r) down request pair.pair.line)
      where
        agreed_is : (f : First) (p : Plan) → IsFirst f p (bare_record r) → list_any (is_agreement p.g) (said acts.1) ≡ true
        agreed_is f p first = sym (any_words p.g (said acts.1)) ∙ ap (list_any (is_agreement p.g)) (told f p first) ∙ acknowledge_one p.g f p.g refl

        to_plan : (f : First) (p : Plan) → IsFirst f p (bare_record r) → AreHeld x (second_view s) [] m.table.rows → replies_in (asks f p) up ≡ [] → (o : Option Command) → m.command ≡ o → IsStandOf x o (asks f p) → IsAptCommand m.table o → Took r acts.1 → Result' (λ k. status_in k r) done
        to_plan f p first held none None at is apt' it' = absurd is
        to_plan f p first held none (Some (gone q going)) at is apt' it' = absurd is
        to_plan f p first held none (Some (recovering id terminal o)) at is apt' it' = absurd is
        to_plan f p first held none (Some (asked c f' who wanted)) at is apt' (took_quietly all unagreed) =
            absurd (never (list_any (is_agreement p.g) (said acts.1)) (agreed_is f p first) (unagreed (sym (bare_request r) ∙ request) p.g))
        to_plan f p first held none (Some (asked c f' who wanted)) at is apt' (took_status status of acts_are) = absurd (never (is_request (bare_record r)) request (ap (λ q. is_request (bare_record q)) of))
        to_plan f p first held none (Some (asked c f' who wanted)) at is apt' (took_plan q plan front all acts_are) =
            let here : m.command ≡ Some (asked c f' x wanted) = at ∙ ap (λ z. Some (asked c f' z wanted)) (sym is.0) in
            let same : q ≡ c.plan = same_Some q c.plan (sym plan ∙ sym (bare_plan r) ∙ first_plan f p (bare_record r) first ∙ ap (λ z. Some z) is.2) in
            let no_flag : b ≡ false = flag c f' wanted here ∙ ap (λ z. list_any (is_agreement z) up) (sym (ap (λ (z : Plan). z.g) is.2)) ∙ none_agreed (asks f p) p.g up refl none in
            let course : course_of b m.command ≡ proposed c.plan (Some x) false = ap (course_of b) here ∙ ap (proposed c.plan (Some x)) no_flag in
            has_agreed c f' wanted here no_flag
            (agrees_to x second s done acts me_is projects named c.plan front all (acts_are ∙ ap (λ z. front ++ go z ∷ []) same) apt'.items.apart (λ k. subst (λ z. WaitsFor x z k (second_view s k)) course (waits k)))
            held
            (told_is c.plan.g ∙ ap (λ (z : Plan). list_any (is_agreement z.g) (said acts.1)) (sym is.2) ∙ agreed_is f p first)

        by : IsOfAsked pair.stand → Result' (λ k. status_in k r) done
        by (of_asked f p e) =
            let first = (asked_first f p (bare_record r) down request (subst (λ z. IsLineOf z (bare_record r ∷ down)) e pair.pair.line)).first in
            to_plan f p first (subst (λ z. AreFitting x (bearing_by m m.command z) (second_view s) (bare_record r ∷ down) up) e pair.fitting).held (subst (λ z. replies_in z up ≡ reply z) e pair.pair.answers) m.command refl (subst (IsStandOf x m.command) e pair.stands) apt.command it

    pub acts_taken : IsHeardAs s.proc (bare_record r) acts → Result' (λ k. status_in k r) done
    acts_taken (plainly plain member wanted told says more) = taken_plainly plain told
    acts_taken (rejecting request member wanted told says none) = rejected_there request told none
    acts_taken (agreeing request member wanted told says carried below) = agreed_there request told

  -- ---- nothing comes of it

  nothing_taken : (taken : ℕ → ℕ) (done : SecondNode × Effects) → done ≡ (s, quiet) → Result' taken done
  nothing_taken taken done is = subst (Result' taken) (sym is) (holds_on (record { few = λ k. omega arith; named = named; waits = waits }) (λ c first wanted asks_it. refl))

  pub record_taken : (r : Rec) (done : SecondNode × Effects) (down up : List Rec) → IsPaired x m s.proc.membership s.proc.want (second_view s) (bare_record r ∷ down) up → IsApart x (bare_record r) → IsFlagOf x b m.command up → SecondHeard s r done
      → Result' (λ k. status_in k r) done
  record_taken r done down up pair line flag (heard acts fit taken is) =
      let row : has_row s.proc.membership s.proc.want r ≡ true = sym (bare_row s.proc.membership s.proc.want r) ∙ pair.pair.reads.0 in
      acts_taken r acts done down up pair line flag (subst (TakesBusy s.proc) taken (second_busy s.proc r)) is (subst (TookBy r) taken (took s.proc r))
      (bare_heard s.proc r acts (subst (IsServed s.proc r) taken (served s.proc r row)))
  record_taken r done down up pair line flag (unfit fit is) = nothing_taken (λ k. status_in k r) done is
  record_taken r done down up pair line flag (no_row why taken is) = nothing_taken (λ k. status_in k r) done is

  -- ---- traffic, and commands

  same_taken : (done : SecondNode × Effects) → ((k : ℕ) → second_view done.0 k ≡ second_view s k) → told_of x (records_sent done.1.sends) ≡ [] → Result' (λ k. 0) done
  same_taken done views none =
      holds_on (record {
        few = λ k. omega (arith, ap kept_by (views k), ap (statuses k) none);
        named = λ k. subst (IsNamed k) (sym (views k)) (named k);
        waits = λ k. subst (WaitsFor x (course_of b m.command) k) (sym (views k)) (waits k);
      }) (λ c first wanted asks_it. ap (list_any (is_agreement c.plan.g)) none)

  adopts_taken : (id : ℕ) (v : View) (done : SecondNode × Effects) → second_view s id ≡ Some v → v.stage ≡ has_status → ((k : ℕ) → second_view done.0 k ≡ with_view id (adopting v) (second_view s) k)
      → told_of x (records_sent done.1.sends) ≡ rec.Moved v.bearer.g id ∷ [] → Result' (λ k. 0) done
  adopts_taken id v done at had views told =
      holds_on (record {
        few = λ k. omega (arith, ap kept_by (views k), ap (statuses k) told, kept k);
        named = λ k. subst (IsNamed k) (sym (views k)) (names k);
        waits = λ k. subst (WaitsFor x (course_of b m.command) k) (sym (views k)) (idle k);
      }) (λ c first wanted asks_it. ap (list_any (is_agreement c.plan.g)) told)
    where
      kept : (k : ℕ) → kept_by (with_view id (adopting v) (second_view s) k) ≤ kept_by (second_view s k)
      kept k = by (id == k) refl
        where
          by : (d : Bool) → (id == k) ≡ d → kept_by (if d then Some (adopting v) else second_view s k) ≤ kept_by (second_view s k)
          by true here = omega (arith, ap kept_by (ap (second_view s) (sym (eqb-true id k here)) ∙ at), ap kept_at had)
          by false other = omega arith

      names : (k : ℕ) → IsNamed k (with_view id (adopting v) (second_view s) k)
      names k = by (id == k) refl
        where
          by : (d : Bool) → (id == k) ≡ d → IsNamed k (if d then Some (adopting v) else second_view s k)
          by true here = subst (IsNamed k) (ap (second_view s) (sym (eqb-true id k here)) ∙ at) (named k)
          by false other = named k

      idle : (k : ℕ) → WaitsFor x (course_of b m.command) k (with_view id (adopting v) (second_view s) k)
      idle k = by (id == k)
        where
          no_way : {X : Type 0} → true ≡ false → X
          no_way e = absurd cc

          by : (d : Bool) → WaitsFor x (course_of b m.command) k (if d then Some (adopting v) else second_view s k)
          by true = λ e. no_way e
          by false = waits k

  ordered_taken : (e : Event) (done : SecondNode × Effects) → SecondOrdered s e done → Result' (λ k. 0) done
  ordered_taken e done (not_ordered why refused is) = nothing_taken (λ k. 0) done is
  ordered_taken e done (ordered acts taken is) =
      let busy : TakesBusy s.proc (Ok acts) = subst (TakesBusy s.proc) taken (unless_busy s.proc e (first_refusal (second_refusals s.proc e))) in
      holds_on (quietly x second s done acts (busy.0 ∙ name) is named (course_of b m.command) (subst (OrdersQuiet s.proc) taken (orders_quiet s.proc e)) waits)
      (λ c first wanted asks_it.
      sym (any_words c.plan.g (told_of x (records_sent done.1.sends))) ∙ ap (list_any (is_agreement c.plan.g)) (projects_words x second s acts done name busy is) ∙ any_words c.plan.g (said acts.1)
      ∙ (subst (OrdersUnagreed s.proc) taken (orders_unagreed s.proc e)) c.plan.g)

  pub alone_taken : (i : Input) (done : SecondNode × Effects) → ((r : Rec) → record_in i ≡ Some r → ⊥) → SecondStepped s i done → Result' (λ k. 0) done
  alone_taken i done never_given (second_by_traffic (second_keeps proc views sends ascends)) = same_taken done views (ap (λ zs. told_of x zs) (no_records done.1.sends sends))
  alone_taken i done never_given (second_by_traffic (second_adopts id v at had proc views sends ascends)) =
      adopts_taken id v done at had views
      (ap (λ (zs : List Send). told_of x (map (λ (z : Send). (z.0, bare_flight z.1)) zs)) sends ∙ ap (λ me. told_of x ((link me M Ctl, flight.Ctl (rec.Moved v.bearer.g id)) ∷ [])) name ∙ told_send x M (rec.Moved v.bearer.g id) second)
  alone_taken i done never_given (second_by_record r came_in is) = absurd (never_given r came_in)
  alone_taken i done never_given (second_by_command e came_in is) = ordered_taken e done is
  alone_taken i done never_given (second_by_nothing is) = nothing_taken (λ k. 0) done is
