-- Each step of the procedures of the master is made of parts: for a record, for a command, and for an adoption.
use Rattle.std.proofs.Common.{ℕ, ◌≡◌, ◌++◌, ◌==◌, ◌&&◌, Bool, true, false, List, [], ◌∷◌, Option, Some, None, refl, sym, ap, subst, ◌∙◌}
use Rattle.std.proofs.lemmas.Bool.{and_parts, eq-eqb, eqb-true}
use Rattle.std.specs.Prelude.{Err, Ok, Result, filter, find, if◌then◌else◌, is_some, not}
use Rattle.std.specs.List.{AllByRecursion, flat_map, list_any}
use Rattle.transcript.proofs.OnEach.{each_append}
use Rattle.dc_base.specs.Nodes.{is_same_node, is_secondary}
use Rattle.dc_base.specs.declared.answers.Refusal.{Refusal}
use Rattle.dc_base.specs.declared.answers.Refusal.TheVariants as refusal
use Rattle.dc_base.specs.declared.answers.Word.{Word}
use Rattle.dc_base.specs.declared.answers.Word.TheVariants as word
use Rattle.dc_base.specs.declared.events.Event.{Event}
use Rattle.dc_base.specs.declared.events.Event.TheVariants as event
use Rattle.dc_base.specs.declared.events.Note.TheVariants as note
use Rattle.dc_base.specs.declared.nodes.Node.{Node}
use Rattle.dc_base.specs.declared.nodes.Node.TheVariants.{A, B, M, T}
use Rattle.dc_base.specs.declared.nodes.Want.{Want}
use Rattle.dc_base.specs.declared.nodes.Want.TheVariants as want
use Rattle.dc_base.specs.declared.records.Plan.{Plan}
use Rattle.dc_base.specs.declared.records.Rec.{Rec}
use Rattle.dc_base.specs.declared.records.Rec.TheVariants as rec
use Rattle.dc_base.specs.declared.records.RecKind.{RecKind}
use Rattle.dc_base.specs.declared.records.RecKind.TheVariants as kind
use Rattle.dc_base.specs.declared.records.StatusTransfer.{StatusTransfer}
use Rattle.claims.specs.Drafts.{command_of}
use Rattle.node_rules.specs.Acts.{ProcFault, first_refusal, unexpected}
use Rattle.node_rules.specs.CommandTable.{is_counter_spent, row}
use Rattle.node_rules.specs.Drafts.{Draft, draft}
use Rattle.node_rules.specs.MasterCommands.{command_by, command_refusals, commands_unless, master_command, recovered_by, recovers_at, recovers_row}
use Rattle.node_rules.specs.MasterEnds.{retries, tries, waits_for}
use Rattle.node_rules.specs.MasterGo.{begins, begins_if, goes, way}
use Rattle.node_rules.specs.MasterRecords.{adopted_if, agreed, agreed_if, asking_refusal, begins_asked, completed, completed_if, completing, failing, failing_at, is_answer, is_moving, is_same_first, moved, passed_to, recovered, recovered_at, recovered_second, recovered_there, rejected, rejected_if, rejecting, released, transferred, wanted_by}
use Rattle.node_rules.specs.MasterState.{MasterActs, MasterProc, with_waits}
use Rattle.node_rules.specs.MasterTaking.{adopted_here, from_second, from_terminal, master_adopted, master_take}
use Rattle.node_rules.specs.Places.{is_at}
use Rattle.node_rules.specs.SecondState.{request}
use Rattle.node_rules.specs.declared.acts.Act.TheVariants.{Pass as pass, Say as say, Send as send, UnlockAll as unlock_all}
use Rattle.node_rules.specs.declared.commands.Change.{Change}
use Rattle.node_rules.specs.declared.commands.Command.{Command}
use Rattle.node_rules.specs.declared.commands.Command.TheVariants.{Asked as asked, Gone as gone, Recovering as recovering}
use Rattle.node_rules.specs.declared.commands.First.{First}
use Rattle.node_rules.specs.declared.commands.First.TheVariants.{Addition as addition, Modification as modification, Release as release}
use Rattle.node_rules.specs.declared.commands.Going.{Going}
use Rattle.node_rules.specs.declared.commands.Row.{Row}
use Rattle.run_control.proofs.Sent.{either}
use Rattle.run_agreed.specs.Segments.{IsAside, IsChain, IsRefusal, MayBegin, OfChain, Origin, Segment, agrees, aside, begun, by_event, by_record, completes, is_ack, is_asked, is_ordered, is_rej, moves_on, recovers, refuses, rejects, second_recovers, terminal_recovers, waits}
use Rattle.run_agreed.proofs.Chains.{chain_aside, chain_none, chain_one, chain_then, retries_chain, tries_chain, waits_for_chain}

-- ---- what an answer is of

pub same_node : (x y : Node) → is_same_node x y ≡ true → x ≡ y
same_node T T is = refl
same_node T M is = absurd cc
same_node T A is = absurd cc
same_node T B is = absurd cc
same_node M T is = absurd cc
same_node M M is = refl
same_node M A is = absurd cc
same_node M B is = absurd cc
same_node A T is = absurd cc
same_node A M is = absurd cc
same_node A A is = refl
same_node A B is = absurd cc
same_node B T is = absurd cc
same_node B M is = absurd cc
same_node B A is = absurd cc
same_node B B is = refl

same_first : (f g : First) → is_same_first f g ≡ true → f ≡ g
same_first addition addition is = refl
same_first addition modification is = absurd cc
same_first addition release is = absurd cc
same_first modification addition is = absurd cc
same_first modification modification is = refl
same_first modification release is = absurd cc
same_first release addition is = absurd cc
same_first release modification is = absurd cc
same_first release release is = refl

answer_of : (f : First) (from : Node) (g : ℕ) (first : First) (who : Node) (h : ℕ) → is_answer f from g first who h ≡ true → (f ≡ first) × (from ≡ who) × (g ≡ h)
answer_of f from g first who h is =
    let one = and_parts (is_same_first f first && is_same_node from who) (g == h) is in
    let two = and_parts (is_same_first f first) (is_same_node from who) one.0 in
    (same_first f first two.0, same_node from who two.1, eqb-true g h one.1)

module _ (og : Origin) (m : MasterProc) where
  -- ---- the answers to a first record

  agreed_if_chain : (k : RecKind) (f : First) (from : Node) (g : ℕ) (q : Rec) → is_secondary from ≡ true → og ≡ by_record from q → is_ack f g q ≡ true → (c : Change) (first : First) (who : Node) (wanted b : Bool) → is_answer f from g first who c.plan.g ≡ b → m.command ≡ Some (asked c first who wanted) → OfChain og m (agreed_if k m c first who wanted b)
  agreed_if_chain k f from g q is_second o_is ack c first who wanted true answers is =
      let parts = answer_of f from g first who c.plan.g answers in
      chain_one og m (goes m c (way first who wanted m.table.sec))
      (agrees c first who wanted is (subst (λ y. is_secondary y ≡ true) parts.1 is_second) q (o_is ∙ ap (λ y. by_record y q) parts.1) (subst (λ j. is_ack first j q ≡ true) parts.2 (subst (λ j. is_ack j g q ≡ true) parts.0 ack)) refl)
  agreed_if_chain k f from g q is_second o_is ack c first who wanted false answers is = tt

  agreed_chain : (k : RecKind) (f : First) (from : Node) (g : ℕ) (q : Rec) → is_secondary from ≡ true → og ≡ by_record from q → is_ack f g q ≡ true → (o : Option Command) → m.command ≡ o → OfChain og m (agreed k f from g m o)
  agreed_chain k f from g q is_second o_is ack None is = tt
  agreed_chain k f from g q is_second o_is ack (Some (asked c first who wanted)) is = agreed_if_chain k f from g q is_second o_is ack c first who wanted (is_answer f from g first who c.plan.g) refl is
  agreed_chain k f from g q is_second o_is ack (Some (gone plan going)) is = tt
  agreed_chain k f from g q is_second o_is ack (Some (recovering id terminal second)) is = tt

  released_chain : (r : Result MasterActs ProcFault) → OfChain og m r → OfChain og m (released r m)
  released_chain (Ok r) is = is
  released_chain (Err why) is = chain_none og m

  rejected_if_chain : (k : RecKind) (f : First) (from : Node) (g : ℕ) (q : Rec) → is_secondary from ≡ true → og ≡ by_record from q → is_rej f g q ≡ true → (c : Change) (first : First) (who : Node) (wanted b : Bool) → is_answer f from g first who c.plan.g ≡ b → m.command ≡ Some (asked c first who wanted) → OfChain og m (rejected_if k m first who wanted b)
  rejected_if_chain k f from g q is_second o_is rej c first who wanted true answers is =
      let m' : MasterProc = record m { command = None } in
      let parts = answer_of f from g first who c.plan.g answers in
      chain_then og m (m', rejecting first who wanted ++ say note.Rejected ∷ []) (retries m') (rejects c first who wanted is (subst (λ y. is_secondary y ≡ true) parts.1 is_second) q (o_is ∙ ap (λ y. by_record y q) parts.1) (subst (λ j. is_rej first j q ≡ true) parts.2 (subst (λ j. is_rej j g q ≡ true) parts.0 rej)) refl) (retries_chain og m')
  rejected_if_chain k f from g q is_second o_is rej c first who wanted false answers is = tt

  rejected_chain : (k : RecKind) (f : First) (from : Node) (g : ℕ) (q : Rec) → is_secondary from ≡ true → og ≡ by_record from q → is_rej f g q ≡ true → (o : Option Command) → m.command ≡ o → OfChain og m (rejected k f from g m o)
  rejected_chain k f from g q is_second o_is rej None is = tt
  rejected_chain k f from g q is_second o_is rej (Some (asked c first who wanted)) is = rejected_if_chain k f from g q is_second o_is rej c first who wanted (is_answer f from g first who c.plan.g) refl is
  rejected_chain k f from g q is_second o_is rej (Some (gone plan going)) is = tt
  rejected_chain k f from g q is_second o_is rej (Some (recovering id terminal second)) is = tt

  -- ---- the terminal's answers

  not_true : (b : Bool) → not b ≡ true → b ≡ false
  not_true false is = refl
  not_true true is = absurd cc

  completed_if_chain : (g : ℕ) → og ≡ by_record T (rec.Rcomp g) → (p : Plan) (w : Going) (same : Bool) → (p.g == g) ≡ same → m.command ≡ Some (gone p w) → OfChain og m (completed_if m p w (same && not w.complete))
  completed_if_chain g o_is p w same g_is is = by (same && not w.complete) refl
    where
      by : (b : Bool) → (same && not w.complete) ≡ b → OfChain og m (completed_if m p w b)
      by false b_is = tt
      by true b_is =
          let m' : MasterProc = record m { command = Some (gone p (record w { complete = true })) } in
          chain_then og m (m', completing w.due w.confirms p.g ++ unlock_all p.g ∷ []) (waits_for m (gone p (record w { complete = true })))
          (completes p w is (not_true w.complete (and_parts same (not w.complete) b_is).1) (o_is ∙ ap (λ j. by_record T (rec.Rcomp j)) (sym (eqb-true p.g g (g_is ∙ (and_parts same (not w.complete) b_is).0)))) refl) (waits_for_chain og m (gone p (record w { complete = true })))

  completed_chain : (g : ℕ) → og ≡ by_record T (rec.Rcomp g) → (o : Option Command) → m.command ≡ o → OfChain og m (completed g m o)
  completed_chain g o_is None is = tt
  completed_chain g o_is (Some (asked c first who wanted)) is = tt
  completed_chain g o_is (Some (gone p w)) is = completed_if_chain g o_is p w (p.g == g) refl is
  completed_chain g o_is (Some (recovering id terminal second)) is = tt

  failing_at_aside : (id g : ℕ) (x : Node) → AllByRecursion IsAside (failing_at id g x)
  failing_at_aside id g M = (tt, tt)
  failing_at_aside id g A = (tt, tt)
  failing_at_aside id g B = (tt, tt)
  failing_at_aside id g T = tt

  failing_aside : (id g : ℕ) (o : Option Row) → AllByRecursion IsAside (failing id g o)
  failing_aside id g None = tt
  failing_aside id g (Some r) = either (AllByRecursion IsAside) (r.g == g) (failing_at id g r.anchor) [] (failing_at_aside id g r.anchor) tt

  failed_aside : (pairs : List (ℕ × ℕ)) → AllByRecursion IsAside (flat_map (λ (x : ℕ × ℕ). failing x.0 x.1 (row m.table x.0)) pairs)
  failed_aside [] = tt
  failed_aside (x ∷ xs) =
      each_append IsAside (failing x.0 x.1 (row m.table x.0)) (flat_map (λ (y : ℕ × ℕ). failing y.0 y.1 (row m.table y.0)) xs) (failing_aside x.0 x.1 (row m.table x.0)) (failed_aside xs)

  -- ---- recoveries and moves

  -- a part that sends nothing, and then the end that may come
  goes_on_chain : (c : Command) → Segment og m (record m { command = Some c }, []) → IsChain og m (waits_for m c)
  goes_on_chain c part = chain_then og m (record m { command = Some c }, []) (waits_for m c) part (waits_for_chain og m c)

  recovered_there_chain : (id : ℕ) → og ≡ by_record T (rec.Recovd id) → (t : Bool) (second : Option Node) (b : Bool) → m.command ≡ Some (recovering id t second) → OfChain og m (recovered_there m id second b)
  recovered_there_chain id o_is t second true is = goes_on_chain (recovering id false second) (terminal_recovers id t second is o_is refl)
  recovered_there_chain id o_is t second false is = tt

  recovered_second_chain : (id : ℕ) (x : Node) → og ≡ by_record x (rec.Recovd id) → (t : Bool) (second : Option Node) (same : Bool) → m.command ≡ Some (recovering id t second)
      → OfChain og m (recovered_second m id t (is_at x second && same))
  recovered_second_chain id x o_is t None same is = tt
  recovered_second_chain id x o_is t (Some y) same is = by (is_same_node x y && same) refl
    where
      by : (b : Bool) → (is_same_node x y && same) ≡ b → OfChain og m (recovered_second m id t b)
      by false none = tt
      by true both =
          let here : x ≡ y = same_node x y (and_parts (is_same_node x y) same both).0 in
          goes_on_chain (recovering id t None) (second_recovers id t y is (o_is ∙ ap (λ z. by_record z (rec.Recovd id)) here) refl)

  recovered_at_chain : (x : Node) (id : ℕ) → og ≡ by_record x (rec.Recovd id) → (t : Bool) (second : Option Node) (same : Bool) → m.command ≡ Some (recovering id t second) → OfChain og m (recovered_at x m id t second same)
  recovered_at_chain T id o_is t second same is = recovered_there_chain id o_is t second (t && same) is
  recovered_at_chain A id o_is t second same is = recovered_second_chain id A o_is t second same is
  recovered_at_chain B id o_is t second same is = recovered_second_chain id B o_is t second same is
  recovered_at_chain M id o_is t second same is = tt

  recovering_by : (x : Node) (id i : ℕ) → og ≡ by_record x (rec.Recovd id) → (t : Bool) (second : Option Node) (b : Bool) → (i == id) ≡ b → m.command ≡ Some (recovering i t second) → OfChain og m (recovered_at x m i t second b)
  recovering_by x id i o_is t second true same is = recovered_at_chain x i (o_is ∙ ap (λ j. by_record x (rec.Recovd j)) (sym (eqb-true i id same))) t second true is
  recovering_by x id i o_is t second false same is = none_at x
    where
      not_both : (b : Bool) → (b && false) ≡ false
      not_both true = refl
      not_both false = refl

      none_at : (y : Node) → OfChain og m (recovered_at y m i t second false)
      none_at T = subst (λ b. OfChain og m (recovered_there m i second b)) (sym (not_both t)) tt
      none_at A = subst (λ b. OfChain og m (recovered_second m i t b)) (sym (not_both (is_at A second))) tt
      none_at B = subst (λ b. OfChain og m (recovered_second m i t b)) (sym (not_both (is_at B second))) tt
      none_at M = tt

  recovered_chain : (from : Node) (id : ℕ) → og ≡ by_record from (rec.Recovd id) → (o : Option Command) → m.command ≡ o → OfChain og m (recovered from id m o)
  recovered_chain from id o_is None is = tt
  recovered_chain from id o_is (Some (asked c first who wanted)) is = tt
  recovered_chain from id o_is (Some (gone plan going)) is = tt
  recovered_chain from id o_is (Some (recovering i t second)) is = recovering_by from id i o_is t second (i == id) refl is

  adopted_if_chain : (k : RecKind) (id : ℕ) (x : Node) (p : Plan) (w : Going) (b : Bool) → m.command ≡ Some (gone p w) → OfChain og m (adopted_if k m id x p w b)
  adopted_if_chain k id x p w true is =
      let left : List (ℕ × Node) = filter (λ y. not (is_moving id x y)) w.moving in goes_on_chain (gone p (record w { moving = left })) (moves_on p w left is refl)
  adopted_if_chain k id x p w false is = tt

  moved_chain : (from : Node) (g id : ℕ) (o : Option Command) → m.command ≡ o → OfChain og m (moved from g id m o)
  moved_chain from g id None is = tt
  moved_chain from g id (Some (asked c first who wanted)) is = tt
  moved_chain from g id (Some (gone p w)) is = adopted_if_chain kind.Moved id from p w ((p.g == g) && list_any (is_moving id from) w.moving) is
  moved_chain from g id (Some (recovering i t second)) is = tt

  passed_chain : (s : StatusTransfer) (from : Node) (o : Option (ℕ × Node)) → OfChain og m (passed_to m s from o)
  passed_chain s from None = tt
  passed_chain s from (Some (id, M)) = chain_aside og m (pass s ∷ []) (tt, tt)
  passed_chain s from (Some (id, A)) = either (OfChain og m) (is_same_node from A) (Err (unexpected kind.Snst)) (Ok (m, send A (rec.Snst s) ∷ [])) tt (chain_aside og m (send A (rec.Snst s) ∷ []) (tt, tt))
  passed_chain s from (Some (id, B)) = either (OfChain og m) (is_same_node from B) (Err (unexpected kind.Snst)) (Ok (m, send B (rec.Snst s) ∷ [])) tt (chain_aside og m (send B (rec.Snst s) ∷ []) (tt, tt))
  passed_chain s from (Some (id, T)) = tt

  transferred_chain : (from : Node) (s : StatusTransfer) (o : Option Command) → OfChain og m (transferred from s m o)
  transferred_chain from s None = tt
  transferred_chain from s (Some (asked c first who wanted)) = tt
  transferred_chain from s (Some (gone p w)) = passed_chain s from (if p.g == s.g then find (λ (x : ℕ × Node). x.0 == s.id) w.moving else None)
  transferred_chain from s (Some (recovering i t second)) = tt

  -- ---- a command begins

  begun_chain : (e : Event) (wanted : Bool) (o : Option Draft) → m.command ≡ None → draft m.table e ≡ o → MayBegin og m e wanted → IsChain og m (begins_if m wanted o)
  begun_chain e wanted None free drawn may = chain_none og m
  begun_chain e wanted (Some d) free drawn may = chain_one og m (begins m d wanted) (begun e d wanted free drawn may refl)

  -- what is not refused finds no command open
  free_asked : (o : Option Command) (from : Node) → (if not (is_at from m.table.sec) then Some word.NoSecondary else if is_some o then Some word.Busy else if is_counter_spent m.table then Some word.CounterSpent else None) ≡ None → o ≡ None
  free_asked None from none = refl
  free_asked (Some c) from none =
      let bad : (if not (is_at from m.table.sec) then Some word.NoSecondary else Some word.Busy) ≡ None = none in
      by (not (is_at from m.table.sec)) bad
    where
      by : (b : Bool) → (if b then Some word.NoSecondary else Some word.Busy) ≡ None → Some c ≡ None
      by true is = absurd cc
      by false is = absurd cc

  asked_chain : (from : Node) (what : Want) → og ≡ by_record from (request what) → (e : Event) → e ≡ command_of what → (refuse : Word → Rec) (o : Option Word) → ((w : Word) → IsRefusal (refuse w)) → asking_refusal from m ≡ o → IsChain og m (begins_asked m from what e refuse o)
  asked_chain from what o_is e event_is refuse (Some why) refusal is = chain_one og m (m, send from (refuse why) ∷ []) (refuses from (refuse why) (refusal why) what o_is refl)
  asked_chain from what o_is e event_is refuse None refusal is =
      chain_then og m (m, say (note.Begin what) ∷ []) (begins_if m true (draft m.table e)) (aside (say (note.Begin what) ∷ []) (tt, tt) refl)
      (begun_chain e true (draft m.table e) (free_asked m.command from is) refl (is_asked from what is o_is refl event_is))

  wanted_chain : (from : Node) (what : Want) → og ≡ by_record from (request what) → IsChain og m (wanted_by from what m)
  wanted_chain from want.Rekey o_is = asked_chain from want.Rekey o_is event.RekeySecond refl (λ w. rec.Modref w) (asking_refusal from m) (λ w. tt) refl
  wanted_chain from want.Change o_is = asked_chain from want.Change o_is event.Change refl (λ w. rec.Chgref w) (asking_refusal from m) (λ w. tt) refl
  wanted_chain from want.Release o_is = chain_then og m (with_waits true from m, []) (tries from (with_waits true from m)) (waits from o_is refl) (tries_chain og from (with_waits true from m))

  -- ---- any record

  second_chain : (x : Node) (r : Rec) → is_secondary x ≡ true → og ≡ by_record x r → OfChain og m (from_second x m r)
  second_chain x (rec.Addack g) second o_is = agreed_chain kind.Addack addition x g (rec.Addack g) second o_is (eq-eqb g g refl) m.command refl
  second_chain x (rec.Modack g) second o_is = agreed_chain kind.Modack modification x g (rec.Modack g) second o_is (eq-eqb g g refl) m.command refl
  second_chain x (rec.Relack g) second o_is = released_chain (agreed kind.Relack release x g m m.command) (agreed_chain kind.Relack release x g (rec.Relack g) second o_is (eq-eqb g g refl) m.command refl)
  second_chain x (rec.Addrej g) second o_is = rejected_chain kind.Addrej addition x g (rec.Addrej g) second o_is (eq-eqb g g refl) m.command refl
  second_chain x (rec.Modrej g) second o_is = rejected_chain kind.Modrej modification x g (rec.Modrej g) second o_is (eq-eqb g g refl) m.command refl
  second_chain x (rec.Relrej g) second o_is = rejected_chain kind.Relrej release x g (rec.Relrej g) second o_is (eq-eqb g g refl) m.command refl
  second_chain x (rec.Snst status) second o_is = transferred_chain x status m.command
  second_chain x (rec.Moved g id) second o_is = moved_chain x g id m.command refl
  second_chain x (rec.Recovd id) second o_is = recovered_chain x id o_is m.command refl
  second_chain x rec.Modrqd second o_is = wanted_chain x want.Rekey o_is
  second_chain x rec.Chgrqd second o_is = wanted_chain x want.Change o_is
  second_chain x rec.Relrqd second o_is = wanted_chain x want.Release o_is
  second_chain x (rec.Reconf plan key) second o_is = tt
  second_chain x (rec.Rcomp g) second o_is = tt
  second_chain x (rec.Scgf failed) second o_is = tt
  second_chain x (rec.Recov id) second o_is = tt
  second_chain x (rec.Addreq plan key) second o_is = tt
  second_chain x (rec.Modreq plan key) second o_is = tt
  second_chain x (rec.Recfg g) second o_is = tt
  second_chain x (rec.Relreq plan) second o_is = tt
  second_chain x (rec.Uecr g) second o_is = tt
  second_chain x (rec.Scgn id g) second o_is = tt
  second_chain x (rec.Modcnf g) second o_is = tt
  second_chain x (rec.Modref word) second o_is = tt
  second_chain x (rec.Chgcnf plan) second o_is = tt
  second_chain x (rec.Chgref word) second o_is = tt
  second_chain x (rec.Relcnf plan) second o_is = tt

  terminal_chain : (r : Rec) → og ≡ by_record T r → OfChain og m (from_terminal m r)
  terminal_chain (rec.Rcomp g) o_is = completed_chain g o_is m.command refl
  terminal_chain (rec.Scgf failed) o_is = chain_aside og m (flat_map (λ (x : ℕ × ℕ). failing x.0 x.1 (row m.table x.0)) failed) (failed_aside failed)
  terminal_chain (rec.Recovd id) o_is = recovered_chain T id o_is m.command refl
  terminal_chain (rec.Reconf plan key) o_is = tt
  terminal_chain (rec.Recov id) o_is = tt
  terminal_chain (rec.Addreq plan key) o_is = tt
  terminal_chain (rec.Addack g) o_is = tt
  terminal_chain (rec.Addrej g) o_is = tt
  terminal_chain (rec.Modreq plan key) o_is = tt
  terminal_chain (rec.Modack g) o_is = tt
  terminal_chain (rec.Modrej g) o_is = tt
  terminal_chain (rec.Recfg g) o_is = tt
  terminal_chain (rec.Relreq plan) o_is = tt
  terminal_chain (rec.Relack g) o_is = tt
  terminal_chain (rec.Relrej g) o_is = tt
  terminal_chain (rec.Uecr g) o_is = tt
  terminal_chain (rec.Snst status) o_is = tt
  terminal_chain (rec.Moved g id) o_is = tt
  terminal_chain (rec.Scgn id g) o_is = tt
  terminal_chain rec.Modrqd o_is = tt
  terminal_chain (rec.Modcnf g) o_is = tt
  terminal_chain (rec.Modref word) o_is = tt
  terminal_chain rec.Chgrqd o_is = tt
  terminal_chain (rec.Chgcnf plan) o_is = tt
  terminal_chain (rec.Chgref word) o_is = tt
  terminal_chain rec.Relrqd o_is = tt
  terminal_chain (rec.Relcnf plan) o_is = tt

  -- whatever record comes from whatever node
  pub take_chain : (from : Node) (r : Rec) → og ≡ by_record from r → OfChain og m (master_take from m r)
  take_chain T r o_is = terminal_chain r o_is
  take_chain A r o_is = second_chain A r refl o_is
  take_chain B r o_is = second_chain B r refl o_is
  take_chain M r o_is = tt

  -- ---- commands

  recovers_chain : (id : ℕ) (o : Option Row) → m.command ≡ None → IsChain og m (recovers_row m id o)
  recovers_chain id None free = chain_none og m
  recovers_chain id (Some r) free = chain_one og m (recovers_at m id r.anchor) (recovers id r.anchor free refl)

  -- a command that is not refused finds none open, and none that is carried on by an event of another node
  data OfMaster (e : Event) : Type 0 where
    finds_none : (free : m.command ≡ None) → OfMaster e
    draws_none : (no_draft : draft m.table e ≡ None) → (no_recovery : recovered_by e ≡ None) → OfMaster e

  not_busy : (o : Option Command) (rest : Option Refusal) → (if is_some o then Some refusal.Busy else rest) ≡ None → o ≡ None
  not_busy None rest is = refl
  not_busy (Some c) rest is = let bad : Some refusal.Busy ≡ None = is in absurd cc

  of_master : (n : ℕ) (e : Event) → first_refusal (command_refusals n m e) ≡ None → OfMaster e
  of_master n (event.Bearer id k first shape threshold policy) none = finds_none (not_busy m.command _ none)
  of_master n (event.Reshape id shape) none = finds_none (not_busy m.command _ none)
  of_master n (event.Remove id) none = finds_none (not_busy m.command _ none)
  of_master n (event.Add node) none = finds_none (not_busy m.command _ none)
  of_master n event.Change none = finds_none (not_busy m.command _ none)
  of_master n event.Release none = finds_none (not_busy m.command _ none)
  of_master n event.RekeySecond none = finds_none (not_busy m.command _ none)
  of_master n (event.RekeyMaster root) none = finds_none (not_busy m.command _ none)
  of_master n (event.Recover id) none = finds_none (not_busy m.command _ none)
  of_master n (event.Report node id) none = draws_none refl refl
  of_master n (event.Deny node on) none = draws_none refl refl
  of_master n (event.Ask node what) none = draws_none refl refl
  of_master n event.ScgFail none = draws_none refl refl
  of_master n (event.Submit id d payload) none = draws_none refl refl
  of_master n (event.Step l i) none = draws_none refl refl
  of_master n (event.Lose l i) none = draws_none refl refl
  of_master n (event.Again l i) none = draws_none refl refl

  command_by_chain : (n : ℕ) (e : Event) → og ≡ by_event e → (o : Option ℕ) → recovered_by e ≡ o → first_refusal (command_refusals n m e) ≡ None → OfMaster e → IsChain og m (command_by m e o)
  command_by_chain n e o_is None is none (finds_none free) = begun_chain e false (draft m.table e) free refl (is_ordered n none o_is refl)
  command_by_chain n e o_is None is none (draws_none no_draft no_recovery) = subst (λ o. IsChain og m (begins_if m false o)) (sym no_draft) (chain_none og m)
  command_by_chain n e o_is (Some id) is none (finds_none free) = recovers_chain id (row m.table id) free
  command_by_chain n e o_is (Some id) is none (draws_none no_draft no_recovery) = let bad : Some id ≡ None = sym is ∙ no_recovery in absurd (cc bad)

  unless_chain : (n : ℕ) (e : Event) → og ≡ by_event e → (o : Option Refusal) → first_refusal (command_refusals n m e) ≡ o → OfChain og m (commands_unless m e o)
  unless_chain n e o_is None none = command_by_chain n e o_is (recovered_by e) refl none (of_master n e none)
  unless_chain n e o_is (Some why) some = tt

  -- whatever command is given
  pub command_chain : (n : ℕ) (e : Event) → og ≡ by_event e → OfChain og m (master_command n m e)
  command_chain n e o_is = unless_chain n e o_is (first_refusal (command_refusals n m e)) refl

  -- ---- an adoption

  adopted_here_chain : (id : ℕ) (o : Option Command) → m.command ≡ o → IsChain og m (adopted_here id m o)
  adopted_here_chain id None is = chain_none og m
  adopted_here_chain id (Some (asked c first who wanted)) is = chain_none og m
  adopted_here_chain id (Some (gone p w)) is =
      let left : List (ℕ × Node) = filter (λ y. not (is_moving id M y)) w.moving in goes_on_chain (gone p (record w { moving = left })) (moves_on p w left is refl)
  adopted_here_chain id (Some (recovering i t second)) is = chain_none og m

  pub adoption_chain : (id : ℕ) → IsChain og m (master_adopted m id)
  adoption_chain id = adopted_here_chain id m.command refl
