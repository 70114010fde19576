-- In each run in which a secondary node always agrees with the master, the answers on its link to the master are awaited there.
use Rattle.std.proofs.Common.{◌≡◌, Bool, true, false, List, [], ◌∷◌, Option, Some, None, refl, sym, ap, subst, ◌∙◌, inl, inr}
use Rattle.std.specs.List.{AllByRecursion}
use Rattle.std.specs.Prelude.{if◌then◌else◌, ◌⊎◌}
use Rattle.transcript.proofs.OnEach.{each_append}
use Rattle.dc_base.specs.Nodes.{is_same_node, is_secondary}
use Rattle.dc_base.specs.declared.events.Event.{Event}
use Rattle.dc_base.specs.declared.events.Header.{Header}
use Rattle.dc_base.specs.declared.nodes.Node.{Node}
use Rattle.dc_base.specs.declared.nodes.Node.TheVariants.{A, B, M, T}
use Rattle.dc_base.specs.declared.records.Rec.{Rec}
use Rattle.dc_base.specs.declared.records.Rec.TheVariants as rec
use Rattle.node_rules.specs.Choices.{Choices}
use Rattle.node_rules.specs.MasterState.{MasterActs, MasterProc}
use Rattle.node_rules.specs.Run.{world_after, world_step}
use Rattle.node_rules.specs.World.{World, new_world}
use Rattle.node_rules.specs.declared.commands.Change.{Change}
use Rattle.node_rules.specs.declared.commands.Command.{Command}
use Rattle.node_rules.specs.declared.commands.Command.TheVariants.{Asked as asked, Gone as gone, Recovering as recovering}
use Rattle.node_rules.specs.declared.commands.First.{First}
use Rattle.run_control.specs.Claims.{Agrees, IsStandOf}
use Rattle.run_control.specs.Links.{records_on}
use Rattle.run_control.specs.Sound.{AreSound}
use Rattle.run_control.proofs.TalkRuns.{event_kept, new_kept}
use Rattle.run_control.proofs.TalkSteps.{IsKept}
use Rattle.run_control.specs.Wants.{IsAskedFor}
use Rattle.run_agreed.specs.Expected.{AgreesAlways, AwaitedAlone, IsAwaited}
use Rattle.run_agreed.specs.Lines.{Pair, PairStep, is_spoken, master_ignores, master_moves, master_takes, pair_at, rests, said_to, second_ignores, second_moves, second_takes, spoken}
use Rattle.run_agreed.specs.Segments.{OfChain, Origin, Segment, agrees, aside, begun, by_itself, by_record, completes, ends, lets_off, moves_on, needless, recovered, recovers, refuses, rejects, second_recovers, terminal_recovers, waits}
use Rattle.run_agreed.proofs.Chained.{same_node, take_chain}
use Rattle.run_agreed.proofs.Drops.{waits_same}
use Rattle.run_agreed.proofs.MasterEvents.{proc_keeps}
use Rattle.run_agreed.proofs.PairKeeping.{each_as, said_all}
use Rattle.run_agreed.proofs.PairRuns.{event_pair}
use Rattle.run_agreed.proofs.AnswerKinds.{AnswersNone, IsNotAsked, ack_agrees, answers_said, any_awaited, is_answering, none_answering, rej_agrees}
use Rattle.run_agreed.proofs.AskedRequests.{front_asked}
use Rattle.run_agreed.proofs.AwaitedAnswers.{asked_awaited, request_awaited}
use Rattle.run_agreed.proofs.SecondSays.{Says, order_says, take_says}
use Rattle.run_agreed.proofs.OneAnswer.{answer_in, rest_none}

-- ---- a part of a step of the master

not_asked_none : (x : Node) (o k : Option Command) → o ≡ k → IsNotAsked x k → IsNotAsked x o
not_asked_none x o k is none f g awaited = none f g (subst (IsAskedFor f x g) is awaited)

all_none : (x : Node) (o : Option Command) (rs : List Rec) → IsNotAsked x o → AllByRecursion (IsAwaited x o) rs → AnswersNone rs
all_none x o rs none all = each_as (IsAwaited x o) (λ r. is_answering r ≡ false) (λ r awaited. none_answering x o r none awaited) rs all

module _ (x : Node) (start : Option Command) (rest : List Rec) (o : Origin)
    (ends_one : (c : Change) (first : First) (who : Node) (wanted : Bool) (q : Rec) → start ≡ Some (asked c first who wanted) → o ≡ by_record who q → answer_in c.plan.g q ≡ true → AnswersNone rest) where
  -- none of the rest answers, or the command is that of before and awaits them
  abbrev Stays : MasterProc → Type 0
  Stays m = AnswersNone rest ⊎ ((m.command ≡ start) × AllByRecursion (IsAwaited x m.command) rest)

  keeps_on : (m k : MasterProc) → k.command ≡ m.command → (m.command ≡ start) × AllByRecursion (IsAwaited x m.command) rest → Stays k
  keeps_on m k command is = inr (command ∙ is.0, subst (λ c. AllByRecursion (IsAwaited x c) rest) (sym command) is.1)

  none_on : (m k : MasterProc) (c : Option Command) → m.command ≡ c → IsNotAsked x c → (m.command ≡ start) × AllByRecursion (IsAwaited x m.command) rest → Stays k
  none_on m k c command none is = inl (all_none x m.command rest (not_asked_none x m.command c command none) is.1)

  part_by : (m : MasterProc) (r : MasterActs) → (m.command ≡ start) × AllByRecursion (IsAwaited x m.command) rest → Segment o m r → Stays r.0
  part_by m r is (aside acts all at) = keeps_on m r.0 (ap (λ (y : MasterActs). y.0.command) at) is
  part_by m r is (refuses y q refusal what from at) = keeps_on m r.0 (ap (λ (z : MasterActs). z.0.command) at) is
  part_by m r is (waits y from at) = keeps_on m r.0 (ap (λ (z : MasterActs). z.0.command) at ∙ (waits_same true y m).1) is
  part_by m r is (needless y waiting free apart at) = none_on m r.0 None free (λ f g bad. bad) is
  part_by m r is (lets_off y d waiting free here drawn unspent at) = none_on m r.0 None free (λ f g bad. bad) is
  part_by m r is (begun e d wanted free drawn may at) = none_on m r.0 None free (λ f g bad. bad) is
  part_by m r is (agrees c f who wanted opened second q from ack at) = inl (ends_one c f who wanted q (sym is.0 ∙ opened) from (ack_agrees f c.plan.g q ack))
  part_by m r is (completes p w opened waited from at) = none_on m r.0 (Some (gone p w)) opened (λ f g bad. bad) is
  part_by m r is (moves_on p w moving opened at) = none_on m r.0 (Some (gone p w)) opened (λ f g bad. bad) is
  part_by m r is (ends p w opened complete at) = none_on m r.0 (Some (gone p w)) opened (λ f g bad. bad) is
  part_by m r is (rejects c f who wanted opened second q from rej at) = inl (ends_one c f who wanted q (sym is.0 ∙ opened) from (rej_agrees f c.plan.g q rej))
  part_by m r is (recovers i y free at) = none_on m r.0 None free (λ f g bad. bad) is
  part_by m r is (terminal_recovers i t y opened from at) = none_on m r.0 (Some (recovering i t y)) opened (λ f g bad. bad) is
  part_by m r is (second_recovers i t y opened from at) = none_on m r.0 (Some (recovering i t (Some y))) opened (λ f g bad. bad) is
  part_by m r is (recovered i opened at) = none_on m r.0 (Some (recovering i false None)) opened (λ f g bad. bad) is

  part_stays : (m : MasterProc) (r : MasterActs) → Stays m → Segment o m r → Stays r.0
  part_stays m r stays part = elim stays [ inl none ↦ inl none | inr is ↦ part_by m r is part ]

-- ---- a pair

-- the answers of the line are awaited
abbrev pub AreAwaited : Node → Pair → Type 0
AreAwaited x a = AllByRecursion (IsAwaited x a.m.command) a.up

both_awaited : (x : Node) (o k : Option Command) (rs : List Rec) → AnswersNone rs → AllByRecursion (IsAwaited x o) rs → AllByRecursion (IsAwaited x k) rs
both_awaited x o k [] none all = tt
both_awaited x o k (r ∷ rs) none all = (any_awaited x o k r none.0 all.0, both_awaited x o k rs none.1 all.1)

stays_awaited : (x : Node) (start : Option Command) (rest : List Rec) (o : Origin)
    (ends_one : (c : Change) (first : First) (who : Node) (wanted : Bool) (q : Rec) → start ≡ Some (asked c first who wanted) → o ≡ by_record who q → answer_in c.plan.g q ≡ true → AnswersNone rest)
    (m : MasterProc) → AllByRecursion (IsAwaited x start) rest → AnswersNone rest ⊎ ((m.command ≡ start) × AllByRecursion (IsAwaited x m.command) rest) → AllByRecursion (IsAwaited x m.command) rest
stays_awaited x start rest o ends_one m before stays = elim stays [ inl none ↦ both_awaited x start m.command rest none before | inr is ↦ is.1 ]

module _ (x : Node) (second : is_secondary x ≡ true) (w : World) (agree : Agrees w x) where
  abbrev a : Pair
  a = pair_at x w

  abbrev start : Option Command
  start = w.master.proc.command

  other_node : (who : Node) → is_same_node x who ≡ false → (c : Change) (first : First) (wanted : Bool) → IsNotAsked x (Some (asked c first who wanted))
  other_node who other c first wanted f g awaited = let bad : true ≡ false = sym (itself x) ∙ ap (is_same_node x) (sym awaited.1) ∙ other in cc
    where
      itself : (y : Node) → is_same_node y y ≡ true
      itself T = refl
      itself M = refl
      itself A = refl
      itself B = refl

  -- where the record from which a step comes is no answer of the node, none is taken
  moves_none : (o : Origin) → ((q : Rec) → o ≡ by_record x q → is_spoken q ≡ false) → AreAwaited x a → (c : Change) (first : First) (who : Node) (wanted : Bool) (q : Rec) → start ≡ Some (asked c first who wanted)
      → o ≡ by_record who q → answer_in c.plan.g q ≡ true → AnswersNone a.up
  moves_none o apart all c first who wanted q opened from answers = by (is_same_node x who) refl
    where
      by : (b : Bool) → is_same_node x who ≡ b → AnswersNone a.up
      by false other = all_none x start a.up (not_asked_none x start (Some (asked c first who wanted)) opened (other_node who other c first wanted)) all
      by true same =
          let unsaid : is_spoken q ≡ false = apart q (from ∙ ap (λ y. by_record y q) (sym (same_node x who same))) in
          let bad : true ≡ false = sym (answers_said c.plan.g q answers) ∙ unsaid in absurd (cc bad)

  takes_none : (r : Rec) (rest : List Rec) → a.up ≡ r ∷ rest → AllByRecursion (IsAwaited x start) rest → (c : Change) (first : First) (who : Node) (wanted : Bool) (q : Rec) → start ≡ Some (asked c first who wanted)
      → by_record x r ≡ by_record who q → answer_in c.plan.g q ≡ true → AnswersNone rest
  takes_none r rest front all c first who wanted q opened from answers =
      let here : x ≡ who = cc in
      let same : r ≡ q = cc in
      rest_none x c first who wanted agree.stand (records_on x M w) r rest (subst (λ y. is_same_node x y ≡ true) here (itself x)) (subst (λ o. IsStandOf x o agree.stand) opened agree.stands) agree.answers
      front (subst (λ y. answer_in c.plan.g y ≡ true) (sym same) answers) (subst (λ o. AllByRecursion (IsAwaited x o) rest) opened all)
    where
      itself : (y : Node) → is_same_node y y ≡ true
      itself T = refl
      itself M = refl
      itself A = refl
      itself B = refl

  never_itself : (y : Node) (q : Rec) → by_itself ≡ by_record y q → ⊥
  never_itself y q is = absurd cc

  awaited_step : (b : Pair) → AreAwaited x a → PairStep x a b → AreAwaited x b
  awaited_step b all (rests same) = subst (AreAwaited x) (sym same) all
  awaited_step b all (master_moves o apart out chain same) =
      let one = moves_none o apart all in
      subst (AreAwaited x) (sym same) (stays_awaited x start a.up o one out.0 all (proc_keeps o (Stays x start a.up o one) (part_stays x start a.up o one) w.master.proc out (inr (refl, all)) chain))
  awaited_step b all (master_takes r rest first out taken more chain same) =
      let left = (subst (AllByRecursion (IsAwaited x start)) first all).1 in
      let og = by_record x r in
      let one = takes_none r rest first left in
      let mid = stays_awaited x start rest og one out.0 left (proc_keeps og (Stays x start rest og one) (part_stays x start rest og one) w.master.proc out (inr (refl, left)) (subst (OfChain og w.master.proc) taken (take_chain og w.master.proc x r refl))) in
      let two : (c : Change) (f : First) (who : Node) (wanted : Bool) (q : Rec) → out.0.command ≡ Some (asked c f who wanted) → by_itself ≡ by_record who q → answer_in c.plan.g q ≡ true → AnswersNone rest =
      λ c f who wanted q opened from answers. absurd (never_itself who q from) in
      subst (AreAwaited x) (sym same) (stays_awaited x out.0.command rest by_itself two more.0 mid (proc_keeps by_itself (Stays x out.0.command rest by_itself two) (part_stays x out.0.command rest by_itself two) out.0 more (inr (refl, mid)) chain))
  awaited_step b all (master_ignores r rest first why refused same) = subst (AreAwaited x) (sym same) (subst (AllByRecursion (IsAwaited x start)) first all).1
  awaited_step b all (second_moves e acts ordered same) =
      subst (AreAwaited x) (sym same) (each_append (IsAwaited x start) a.up (said_to M acts.1) all (said_all (IsAwaited x start) M acts.1 (subst (Says (IsAwaited x start)) ordered (order_says (IsAwaited x start) a.s e (request_awaited x start)))))
  awaited_step b all (second_takes r rest first acts taken same) =
      let asked' = front_asked x start agree.stand (records_on M x w) r rest agree.stands agree.line first in
      subst (AreAwaited x) (sym same) (each_append (IsAwaited x start) a.up (said_to M acts.1) all (said_all (IsAwaited x start) M acts.1 (subst (Says (IsAwaited x start)) taken (take_says (IsAwaited x start) a.s r (asked_awaited x start r asked')))))
  awaited_step b all (second_ignores r rest first same) = subst (AreAwaited x) (sym same) all

-- ---- a run

run_awaited : (c : Choices) (w : World) (es : List Event) → AreSound es → IsKept w → (x : Node) → is_secondary x ≡ true → ((ds : List Event) → AreSound ds → Agrees (world_after c w ds) x) → AreAwaited x (pair_at x w)
    → AreAwaited x (pair_at x (world_after c w es))
run_awaited c w [] sound kept x second agree all = all
run_awaited c w (e ∷ es) sound kept x second agree all =
    let v = (world_step c w e).0 in
    run_awaited c v es sound.1 (event_kept c w e sound.0 kept) x second (λ ds more. agree (e ∷ ds) (sound.0, more)) (awaited_step x second w (agree [] tt) (pair_at x v) all (event_pair c w e kept x second))

new_awaited : (h : Header) (x : Node) → is_secondary x ≡ true → AreAwaited x (pair_at x (new_world h))
new_awaited h A second = tt
new_awaited h B second = tt
new_awaited h T second = absurd cc
new_awaited h M second = absurd cc

unspoken_awaited : (x : Node) (o : Option Command) (r : Rec) → is_spoken r ≡ false → IsAwaited x o r
unspoken_awaited x o (rec.Reconf plan key) unsaid = absurd cc
unspoken_awaited x o (rec.Rcomp g) unsaid = absurd cc
unspoken_awaited x o (rec.Scgf failed) unsaid = absurd cc
unspoken_awaited x o (rec.Recov id) unsaid = absurd cc
unspoken_awaited x o (rec.Recovd id) unsaid = absurd cc
unspoken_awaited x o (rec.Addreq plan key) unsaid = absurd cc
unspoken_awaited x o (rec.Addack g) unsaid = absurd cc
unspoken_awaited x o (rec.Addrej g) unsaid = absurd cc
unspoken_awaited x o (rec.Modreq plan key) unsaid = absurd cc
unspoken_awaited x o (rec.Modack g) unsaid = absurd cc
unspoken_awaited x o (rec.Modrej g) unsaid = absurd cc
unspoken_awaited x o (rec.Recfg g) unsaid = absurd cc
unspoken_awaited x o (rec.Relreq plan) unsaid = absurd cc
unspoken_awaited x o (rec.Relack g) unsaid = absurd cc
unspoken_awaited x o (rec.Relrej g) unsaid = absurd cc
unspoken_awaited x o (rec.Uecr g) unsaid = absurd cc
unspoken_awaited x o (rec.Snst status) unsaid = tt
unspoken_awaited x o (rec.Moved g id) unsaid = tt
unspoken_awaited x o (rec.Scgn id g) unsaid = absurd cc
unspoken_awaited x o rec.Modrqd unsaid = absurd cc
unspoken_awaited x o (rec.Modcnf g) unsaid = absurd cc
unspoken_awaited x o (rec.Modref word) unsaid = absurd cc
unspoken_awaited x o rec.Chgrqd unsaid = absurd cc
unspoken_awaited x o (rec.Chgcnf plan) unsaid = absurd cc
unspoken_awaited x o (rec.Chgref word) unsaid = absurd cc
unspoken_awaited x o rec.Relrqd unsaid = absurd cc
unspoken_awaited x o (rec.Relcnf plan) unsaid = absurd cc

whole : (x : Node) (o : Option Command) (rs : List Rec) → AllByRecursion (IsAwaited x o) (spoken rs) → AllByRecursion (IsAwaited x o) rs
whole x o [] all = tt
whole x o (r ∷ rs) all = by (is_spoken r) refl all (λ more. whole x o rs more)
  where
    by : (b : Bool) → is_spoken r ≡ b → AllByRecursion (IsAwaited x o) (if b then r ∷ spoken rs else spoken rs) → (AllByRecursion (IsAwaited x o) (spoken rs) → AllByRecursion (IsAwaited x o) rs) → IsAwaited x o r × AllByRecursion (IsAwaited x o) rs
    by true said every more = (every.0, more every.1)
    by false unsaid every more = (unspoken_awaited x o r unsaid, more every)

-- in each state of each run in which the nodes always agree, the answers on the link to the master are awaited there
pub awaited_always : (c : Choices) (h : Header) → AgreesAlways c h → (es : List Event) → AreSound es → (x : Node) → is_secondary x ≡ true → AwaitedAlone (world_after c (new_world h) es) x
awaited_always c h agreement es sound x second =
    let w = world_after c (new_world h) es in
    whole x w.master.proc.command (records_on x M w) (run_awaited c (new_world h) es sound (new_kept h) x second (λ ds more. agreement ds more x second) (new_awaited h x second))
