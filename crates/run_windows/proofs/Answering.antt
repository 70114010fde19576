-- Every downlink submission of a run is answered as it is due.
use Rattle.std.proofs.Common.{ℕ, ◌≡◌, ◌+◌, ◌-◌, ◌==◌, ◌^◌, Bool, true, false, List, [], ◌∷◌, Option, Some, None, length, refl, sym, ap, subst, ◌∙◌, inl, inr}
use Rattle.std.specs.Prelude.{find, fold, filter, is_some, map, nat_le, nat_lt, not, slice_get, if◌then◌else◌, ◌&&◌}
use Rattle.std.specs.List.{list_any}
use Rattle.std.specs.Option.{option_map}
use Rattle.std.proofs.lemmas.Bool.{cases_Bool, eq-eqb}
use Rattle.dc_base.specs.Count.{window}
use Rattle.dc_base.specs.Links.{is_ordered, is_tunnel}
use Rattle.dc_base.specs.Nodes.{is_mm}
use Rattle.dc_base.specs.declared.answers.Answer.{Answer}
use Rattle.dc_base.specs.declared.answers.Answer.TheVariants as answer
use Rattle.dc_base.specs.declared.answers.Refusal.{Refusal}
use Rattle.dc_base.specs.declared.answers.Refusal.TheVariants as refusal
use Rattle.dc_base.specs.declared.events.Event.{Event}
use Rattle.dc_base.specs.declared.events.Event.TheVariants as event
use Rattle.dc_base.specs.declared.events.Header.{Header}
use Rattle.dc_base.specs.declared.events.Note.{Note}
use Rattle.dc_base.specs.declared.flights.Flight.{Flight}
use Rattle.dc_base.specs.declared.nodes.Dir.TheVariants.{Dl, Ul}
use Rattle.dc_base.specs.declared.nodes.LinkId.{LinkId}
use Rattle.dc_base.specs.declared.nodes.Node.{Node}
use Rattle.dc_base.specs.declared.nodes.Node.TheVariants.{A, B, M, T}
use Rattle.claims.specs.Claim.{Each, of_entries}
use Rattle.claims.specs.Judged.{judged}
use Rattle.claims.specs.Noted.{after}
use Rattle.claims.specs.Past.{Bearer, Past, new_past}
use Rattle.claims.specs.Reading as reading
use Rattle.claims.specs.Causes.{first_of_them}
use Rattle.claims.specs.Sameness.{answer_number, is_same_answer, kept_if}
use Rattle.dc_base.specs.declared.nodes.Shape.{Shape}
use Rattle.dc_base.specs.declared.numbers.SnLen.{SnLen}
use Rattle.dc_base.specs.declared.records.Item.TheVariants as item
use Rattle.node_rules.specs.Acts.{first_refusal}
use Rattle.node_rules.specs.Choices.{Choices}
use Rattle.node_rules.specs.CommandTable.{row, second_key_of}
use Rattle.node_rules.specs.Drafts.{asking_for, key_for, next_second, next_second_key, same_keys, second_rows, set_to, shape_of, shared_rows, with_next_key, with_root, without_key}
use Rattle.node_rules.specs.Drafts.{asking as first_asking}
use Rattle.node_rules.specs.Lines.{is_end, notes_after}
use Rattle.node_rules.specs.Master.{MasterNode, on_anchor}
use Rattle.node_rules.specs.MasterCommands.{command_refusals, commands, commands_unless}
use Rattle.node_rules.specs.MasterGo.{begins}
use Rattle.node_rules.specs.MasterPlan.{does}
use Rattle.node_rules.specs.AnchorSending.{report}
use Rattle.node_rules.specs.Flights.{weight}
use Rattle.node_rules.specs.Held.{held}
use Rattle.node_rules.specs.Places.{mm}
use Rattle.node_rules.specs.Readers.{is_aged_for}
use Rattle.node_rules.specs.declared.commands.First.TheVariants.{Addition as addition, Modification as modification, Release as release}
use Rattle.node_rules.specs.declared.commands.Row.{Row}
use Rattle.node_rules.specs.MasterState.{has_bearer, is_unsettled}
use Rattle.node_rules.specs.MasterStep.{command_taken, commanded, master_event, report_asked, settled_row, submitted}
use Rattle.node_rules.specs.Run.{copy_of, loss_of, node_at, step_of, carried_on, entries_from, happening, takes, world_step, refused_for}
use Rattle.node_rules.specs.World.{World, flights_on, new_world}
use Rattle.node_rules.specs.declared.inputs.Input.{Input}
use Rattle.node_rules.specs.declared.inputs.Input.TheVariants.{Cmd, Come}
use Rattle.node_rules.specs.declared.inputs.Outcome.{Outcome}
use Rattle.run_words.proofs.Runs.{each_by, none_said}
use Rattle.run_windows.specs.Answers.{IsSeen, submission_due, submission_is_answered, unless_dropped}
use Rattle.run_windows.specs.Controls.{controls}
use Rattle.run_windows.specs.Fits.{absent}
use Rattle.run_windows.specs.Seen.{Seen, answered, latest, seen, seen_of, with_event, with_note}
use Rattle.run_windows.proofs.Carrying.{IsSeenOnce, after_controls}
use Rattle.run_windows.proofs.Commands.{bearer_begun, drop_begun, none_of, not_first, recovery_seen, settings_seen}
use Rattle.run_windows.proofs.Elsewhere.{AreUnseen, second_unseen, terminal_unseen}
use Rattle.run_windows.proofs.Masters.{takes_seen, told_seen}
use Rattle.run_windows.proofs.Seeing.{after_seen}
use Rattle.run_windows.proofs.Sorting.{lines_seen}
use Rattle.run_windows.proofs.Submitting.{IsDue, answer_of, count_due, is_submitted}
use Rattle.run_windows.proofs.Tables.{all_of_rows, own_rows, some_of_rows}
use Rattle.run_windows.proofs.Telling.{on_anchor_tells, tells_nothing}

-- an event that is not for the terminal alone
abbrev happens_at_master : Event → Bool
happens_at_master (event.Submit id Ul payload) = false
happens_at_master _ = true

-- ---- one command

-- what is seen after an input that was answered
abbrev AfterInput : Seen → Event → MasterNode × Outcome → Type 0
AfterInput s e done = IsSeenOnce (answered e done.1.answer s) done.0 done.1.notes

module _ (c : Choices) (s : Seen) (m : MasterNode) (is : IsSeen s m) where
  -- nothing happens
  nothing : IsSeenOnce s m []
  nothing = told_seen s m is m [] (tells_nothing m)

  -- a refusal leaves all as it was, and so does a command that is none
  taken : (e : Event) (q : Option Refusal) → first_refusal (command_refusals (length c.policies) m.proc e) ≡ q
      → (first_refusal (command_refusals (length c.policies) m.proc e) ≡ None → IsSeenOnce (with_event e s) (does c m (commands m.proc e)).0 (does c m (commands m.proc e)).1.notes)
      → AfterInput s e (commanded c m (commands_unless m.proc e q))
  taken e None none begins' = begins' none
  taken e (Some why) some begins' = nothing

  command_seen : (e : Event)
      → (first_refusal (command_refusals (length c.policies) m.proc e) ≡ None → IsSeenOnce (with_event e s) (does c m (commands m.proc e)).0 (does c m (commands m.proc e)).1.notes)
      → AfterInput s e (command_taken c m e)
  command_seen e begins' = taken e (first_refusal (command_refusals (length c.policies) m.proc e)) refl begins'

  bearer_seen : (id : ℕ) (n : SnLen) (first : ℕ) (shape : Shape) (threshold policy : ℕ) → AfterInput s (event.Bearer id n first shape threshold policy) (command_taken c m (event.Bearer id n first shape threshold policy))
  bearer_seen id n first shape threshold policy =
      let e = event.Bearer id n first shape threshold policy in
      let key = key_for shape m.proc.table.book.current m.proc.table.second_key in
      let d = without_key m.proc.table (same_keys m.proc.table m.proc.table.sec (item.Set id n first shape threshold policy key None ∷ [])) (asking_for shape m.proc.table.sec) in
      command_seen e (λ none.
      let one = not_first (is_some m.proc.command) refusal.Busy _ none in
      let free = none_of m.proc.command one.0 in
      let two = not_first (has_bearer m.proc id) refusal.BearerThere _ one.1 in
      bearer_begun c s m is id n first shape threshold policy key d refl free (no_row free two.0) (asking_for shape m.proc.table.sec))
    where
      no_row : m.proc.command ≡ None → has_bearer m.proc id ≡ false → row m.proc.table id ≡ None
      no_row free has = by (row m.proc.table id) (ap (λ o. is_some (row m.proc.table id) && not (is_unsettled id o)) (sym free) ∙ has)
        where
          by : (o : Option Row) → (is_some o && true) ≡ false → o ≡ None
          by None no' = refl
          by (Some r) no' = let bad : true ≡ false = no' in cc

  remove_seen : (id : ℕ) → AfterInput s (event.Remove id) (command_taken c m (event.Remove id))
  remove_seen id =
      let first = asking_for (shape_of (row m.proc.table id)) m.proc.table.sec in
      let d = without_key m.proc.table (same_keys m.proc.table m.proc.table.sec (item.Unset id ∷ [])) first in
      command_seen (event.Remove id) (λ none. drop_begun c s m is id d refl (none_of m.proc.command (not_first (is_some m.proc.command) refusal.Busy _ none).0) first)

  free_of : (more : Option Refusal) → (if is_some m.proc.command then Some refusal.Busy else more) ≡ None → m.proc.command ≡ None
  free_of more none = none_of m.proc.command (not_first (is_some m.proc.command) refusal.Busy more none).0

  reshape_seen : (id : ℕ) (shape : Shape) → AfterInput s (event.Reshape id shape) (command_taken c m (event.Reshape id shape))
  reshape_seen id shape =
      let t = m.proc.table in
      let d = without_key t (same_keys t t.sec (map (set_to t.book.current t.second_key (λ r. shape)) (filter (λ r. r.id == id) t.rows))) (first_asking modification t.sec) in
      command_seen (event.Reshape id shape) (λ none.
      settings_seen c s m is d (free_of _ none) (some_of_rows t t.book.current t.second_key (λ r. shape) (λ r. r.id == id) is.fit.ascends))

  add_seen : (x : Node) → AfterInput s (event.Add x) (command_taken c m (event.Add x))
  add_seen x = command_seen (event.Add x) (λ none. settings_seen c s m is (with_next_key m.proc.table (Some x) [] addition) (free_of _ none) tt)

  change_seen : AfterInput s event.Change (command_taken c m event.Change)
  change_seen =
      let t = m.proc.table in
      command_seen event.Change (λ none.
      settings_seen c s m is (with_next_key t (next_second t.sec) (shared_rows t) addition) (free_of _ none)
      (some_of_rows t t.book.current (next_second_key t) (λ r. r.shape) (λ r. not (is_mm r.shape)) is.fit.ascends))

  release_seen : AfterInput s event.Release (command_taken c m event.Release)
  release_seen =
      let t = m.proc.table in
      command_seen event.Release (λ none.
      settings_seen c s m is (without_key t (same_keys t None (map (set_to t.book.current t.second_key (λ r. mm)) (shared_rows t))) (first_asking release t.sec)) (free_of _ none)
      (some_of_rows t t.book.current t.second_key (λ r. mm) (λ r. not (is_mm r.shape)) is.fit.ascends))

  rekey_second_seen : AfterInput s event.RekeySecond (command_taken c m event.RekeySecond)
  rekey_second_seen =
      let t = m.proc.table in
      command_seen event.RekeySecond (λ none.
      settings_seen c s m is (with_next_key t t.sec (second_rows t) modification) (free_of _ none)
      (some_of_rows t t.book.current (next_second_key t) (λ r. r.shape) (λ r. r.shape.at_second) is.fit.ascends))

  rekey_master_seen : (root : List ℕ) → AfterInput s (event.RekeyMaster root) (command_taken c m (event.RekeyMaster root))
  rekey_master_seen root =
      let t = m.proc.table in
      command_seen (event.RekeyMaster root) (λ none.
      settings_seen c s m is (with_root t root) (free_of _ none)
      (all_of_rows t (length t.book.roots) (second_key_of (length t.book.roots) 0) (λ r. r.shape) t.rows (own_rows 0 t.rows is.fit.ascends)))

  recover_seen : (id : ℕ) → AfterInput s (event.Recover id) (command_taken c m (event.Recover id))
  recover_seen id = command_seen (event.Recover id) (λ none. recovery_seen c s m is id (free_of _ none) (row m.proc.table id))

  report_seen : (x : Node) (id : ℕ) (has : Bool) → AfterInput s (event.Report x id) (report_asked c m id has)
  report_seen x id false = nothing
  report_seen x id true =
      let done = on_anchor m id (report c) (held id m.anchors) in told_seen s m is done.0 done.1.notes (on_anchor_tells m id (report c) (held id m.anchors))

  -- whatever event the master takes
  event_seen : (e : Event) → happens_at_master e ≡ true → AfterInput s e (master_event c m e)
  event_seen (event.Bearer id n first shape threshold policy) at = bearer_seen id n first shape threshold policy
  event_seen (event.Reshape id shape) at = reshape_seen id shape
  event_seen (event.Remove id) at = remove_seen id
  event_seen (event.Add x) at = add_seen x
  event_seen event.Change at = change_seen
  event_seen event.Release at = release_seen
  event_seen event.RekeySecond at = rekey_second_seen
  event_seen (event.RekeyMaster root) at = rekey_master_seen root
  event_seen (event.Recover id) at = recover_seen id
  event_seen (event.Report x id) at = report_seen x id (has_bearer m.proc id)
  event_seen (event.Deny x on) at = nothing
  event_seen (event.Ask x w) at = nothing
  event_seen event.ScgFail at = nothing
  event_seen (event.Submit id Dl payload) at = (is_submitted c s m is id payload).seen
  event_seen (event.Submit id Ul payload) at = let bad : false ≡ true = at in cc
  event_seen (event.Step l i) at = nothing
  event_seen (event.Lose l i) at = nothing
  event_seen (event.Again l i) at = nothing

-- ---- one event

-- notes of which nothing is seen
unseen_fold : (s : Seen) (ns : List Note) → AreUnseen ns → fold with_note s ns ≡ s
unseen_fold s [] all = refl
unseen_fold s (n ∷ ns) all = ap (λ t. fold with_note t ns) (all.0.1 s) ∙ unseen_fold s ns all.1

unseen_controls : (ns : List Note) → AreUnseen ns → controls ns ≡ []
unseen_controls [] all = refl
unseen_controls (n ∷ ns) all = let off = all.0.0 in rw off (unseen_controls ns all.1)

unseen : (s t : Seen) (m : MasterNode) (ns : List Note) → IsSeen s m → t ≡ s → AreUnseen ns → IsSeenOnce t m ns
unseen s t m ns is same all = record {
  seen = subst (λ u. IsSeen u m) (sym (ap (λ u. fold with_note u ns) same ∙ unseen_fold s ns all)) is;
  once = after_controls ns ∙ ap (λ cs. list_any is_end (notes_after cs)) (unseen_controls ns all);
}

-- the event itself is not seen
abbrev IsStill : Seen → Event → Type 0
IsStill s e = (a : Answer) → answered e a s ≡ s

module _ (c : Choices) (s : Seen) (v : World) (is : IsSeen s v.master) where
  -- what is seen after what an event came to
  abbrev AfterHappening : Event → World × Outcome → Type 0
  AfterHappening e done = IsSeenOnce (answered e done.1.answer s) done.0.master done.1.notes

  at_terminal : (e : Event) (i : Input) → IsStill s e → AfterHappening e (takes c v i T)
  at_terminal e i still = unseen s (answered e (takes c v i T).1.answer s) v.master (takes c v i T).1.notes is (still (takes c v i T).1.answer) (terminal_unseen c v.terminal i)

  at_a : (e : Event) (i : Input) → IsStill s e → AfterHappening e (takes c v i A)
  at_a e i still = unseen s (answered e (takes c v i A).1.answer s) v.master (takes c v i A).1.notes is (still (takes c v i A).1.answer) (second_unseen c v.a i)

  at_b : (e : Event) (i : Input) → IsStill s e → AfterHappening e (takes c v i B)
  at_b e i still = unseen s (answered e (takes c v i B).1.answer s) v.master (takes c v i B).1.notes is (still (takes c v i B).1.answer) (second_unseen c v.b i)

  -- an event for a node
  at_node : (e : Event) → IsStill s e → happens_at_master e ≡ true → (x : Node) → AfterHappening e (takes c v (Cmd e) x)
  at_node e still at T = at_terminal e (Cmd e) still
  at_node e still at M = event_seen c s v.master is e at
  at_node e still at A = at_a e (Cmd e) still
  at_node e still at B = at_b e (Cmd e) still

  -- a flight that is given to a node
  flight_given : (l : LinkId) (i : ℕ) (f : Flight) (x : Node) → AfterHappening (event.Step l i) (takes c v (Come l f) x)
  flight_given l i f T = at_terminal (event.Step l i) (Come l f) step_still
    where
      step_still : IsStill s (event.Step l i)
      step_still answer.Ok = refl
      step_still (answer.No why) = refl
  flight_given l i f M = takes_seen s v.master is c l.from f l.class
  flight_given l i f A = at_a (event.Step l i) (Come l f) step_still
    where
      step_still : IsStill s (event.Step l i)
      step_still answer.Ok = refl
      step_still (answer.No why) = refl
  flight_given l i f B = at_b (event.Step l i) (Come l f) step_still
    where
      step_still : IsStill s (event.Step l i)
      step_still answer.Ok = refl
      step_still (answer.No why) = refl

  refused_seen : (e : Event) (why : Refusal) → AfterHappening e (carried_on c v (refused_for why))
  refused_seen e why = told_seen s v.master is v.master [] (tells_nothing v.master)

  step_seen : (l : LinkId) (i : ℕ) (o : Option Flight) → AfterHappening (event.Step l i) (carried_on c v (step_of v l i o))
  step_seen l i None = refused_seen (event.Step l i) refusal.NoFlight
  step_seen l i (Some f) =
      elim (cases_Bool (is_ordered l.class && nat_lt 0 i)) [
        | inl behind ↦ rw behind (refused_seen (event.Step l i) refusal.NotFirst)
        | inr first ↦ elim (cases_Bool (is_aged_for (node_at v l.to) (weight f))) [
          | inl aged ↦ rw (first, aged) (refused_seen (event.Step l i) refusal.Aged)
          | inr fresh ↦ rw (first, fresh) (flight_given l i f l.to)
        ]
      ]

  loss_seen : (l : LinkId) (i : ℕ) (in_it : Bool) (o : Option Flight) → AfterHappening (event.Lose l i) (carried_on c v (if in_it then loss_of o else refused_for refusal.NotTunnel))
  loss_seen l i false o = refused_seen (event.Lose l i) refusal.NotTunnel
  loss_seen l i true None = refused_seen (event.Lose l i) refusal.NoFlight
  loss_seen l i true (Some f) = told_seen s v.master is v.master [] (tells_nothing v.master)

  copy_seen : (l : LinkId) (i : ℕ) (in_it : Bool) (o : Option Flight) → AfterHappening (event.Again l i) (carried_on c v (if in_it then copy_of l o else refused_for refusal.NotTunnel))
  copy_seen l i false o = refused_seen (event.Again l i) refusal.NotTunnel
  copy_seen l i true None = refused_seen (event.Again l i) refusal.NoFlight
  copy_seen l i true (Some f) = told_seen s v.master is v.master [] (tells_nothing v.master)

  -- any event
  happens_seen : (e : Event) → AfterHappening e (carried_on c v (happening v e))
  happens_seen (event.Bearer id n first shape threshold policy) = bearer_seen c s v.master is id n first shape threshold policy
  happens_seen (event.Reshape id shape) = reshape_seen c s v.master is id shape
  happens_seen (event.Remove id) = remove_seen c s v.master is id
  happens_seen (event.Add x) = add_seen c s v.master is x
  happens_seen event.Change = change_seen c s v.master is
  happens_seen event.Release = release_seen c s v.master is
  happens_seen event.RekeySecond = rekey_second_seen c s v.master is
  happens_seen (event.RekeyMaster root) = rekey_master_seen c s v.master is root
  happens_seen (event.Recover id) = recover_seen c s v.master is id
  happens_seen (event.Report x id) = at_node (event.Report x id) still refl x
    where
      still : IsStill s (event.Report x id)
      still answer.Ok = refl
      still (answer.No why) = refl
  happens_seen (event.Deny x on) = at_node (event.Deny x on) still refl x
    where
      still : IsStill s (event.Deny x on)
      still answer.Ok = refl
      still (answer.No why) = refl
  happens_seen (event.Ask x w) = at_node (event.Ask x w) still refl x
    where
      still : IsStill s (event.Ask x w)
      still answer.Ok = refl
      still (answer.No why) = refl
  happens_seen event.ScgFail = at_terminal event.ScgFail (Cmd event.ScgFail) still
    where
      still : IsStill s event.ScgFail
      still answer.Ok = refl
      still (answer.No why) = refl
  happens_seen (event.Submit id Ul payload) = at_terminal (event.Submit id Ul payload) (Cmd (event.Submit id Ul payload)) still
    where
      still : IsStill s (event.Submit id Ul payload)
      still answer.Ok = refl
      still (answer.No why) = refl
  happens_seen (event.Submit id Dl payload) = (is_submitted c s v.master is id payload).seen
  happens_seen (event.Step l i) = step_seen l i (slice_get (flights_on l v.links) i)
  happens_seen (event.Lose l i) = loss_seen l i (is_tunnel l.class) (slice_get (flights_on l v.links) i)
  happens_seen (event.Again l i) = copy_seen l i (is_tunnel l.class) (slice_get (flights_on l v.links) i)

-- ---- a run

-- at each moment of a run what is seen of the past is what the master holds
abbrev pub Holds : Past → World → Type 0
Holds p v = IsSeen (seen p) v.master

pub holds_next : (c : Choices) (v : World) (p : Past) (e : Event) → Holds p v → Holds (after p (world_step c v e).1) (world_step c v e).0
holds_next c v p e is =
    let done = carried_on c v (happening v e) in
    let x = happens_seen c (seen p) v is e in
    subst (λ t. IsSeen t done.0.master) (sym (after_seen p (world_step c v e).1 ∙ lines_seen (answered e done.1.answer (seen p)) done.1 x.once)) x.seen

pub holds_new : (h : Header) (policies : ℕ) → Holds (new_past h policies) (new_world h)
holds_new h policies = record {
  fit = record { each = λ id. absent refl tt; opened = tt; bound = λ id b at. let bad : None ≡ Some b = at in absurd (cc bad); ascends = tt };
  counted = record {
    each = λ id w at. let bad : None ≡ Some w = at in absurd (cc bad);
    fresh = λ id n first to. let bad : None ≡ Some (id, n, first) = to in absurd (cc bad);
    ascends = tt;
  };
  there = λ id. refl;
}

-- ---- answers

same_answer : (a b : Answer) → a ≡ b → is_same_answer a b ≡ true
same_answer a b is = eq-eqb (answer_number a) (answer_number b) (ap answer_number is)

pub latest_is : (id : ℕ) (bs : List Bearer) → latest id (map seen_of bs) ≡ option_map seen_of (find (λ (b : Bearer). b.id == id) bs)
latest_is id [] = refl
latest_is id (b ∷ bs) = elim (cases_Bool (b.id == id)) [ inl here ↦ rw here refl | inr there' ↦ rw there' (latest_is id bs) ]

-- the refusals of both forms
same_due : (full spent : Bool) → answer_of (first_refusal ((full, refusal.Full) ∷ (spent, refusal.Exhausted) ∷ [])) ≡ first_of_them ((full, refusal.Full) ∷ (spent, refusal.Exhausted) ∷ [])
same_due true spent = refl
same_due false true = refl
same_due false false = refl

due_answer : (o : Option Bearer) (a : Answer) → IsDue (option_map seen_of o) a
    → unless_dropped o (is_same_answer a (submission_due (kept_if (λ (b : Bearer). b.is_done && not b.is_dropped) o))) ≡ true
due_answer None a due = same_answer a (answer.No refusal.NoBearer) due
due_answer (Some b) a due =
    elim (cases_Bool b.is_dropped) [
      | inl gone' ↦ rw gone' refl
      | inr kept ↦ elim (cases_Bool b.is_done) [
        | inl done ↦
            let is : a ≡ answer_of (count_due (seen_of b)) = rw done at (due kept) in
            rw kept (rw done (same_answer a (submission_due (Some b)) (is ∙ same_due (nat_le (b.down.freed + window b.n) (b.first + length b.down.submitted)) (b.first + length b.down.submitted == 2 ^ 32 - 1))))
        | inr undone ↦
            let is : a ≡ answer.No refusal.NoBearer = rw undone at (due kept) in
            rw kept (rw undone (same_answer a (answer.No refusal.NoBearer) is))
      ]
    ]

pub answer_is : (c : Choices) (v : World) (p : Past) (e : Event) → Holds p v → submission_is_answered p (world_step c v e).1 ≡ true
answer_is c v p (event.Submit id Dl payload) is =
    let done = submitted c v.master id payload (settled_row v.master id) in
    due_answer (reading.latest p id) done.1.answer (subst (λ o. IsDue o done.1.answer) (latest_is id p.bearers) (is_submitted c (seen p) v.master is id payload).due)
answer_is c v p (event.Submit id Ul payload) is = refl
answer_is c v p (event.Bearer id n first shape threshold policy) is = refl
answer_is c v p (event.Reshape id shape) is = refl
answer_is c v p (event.Remove id) is = refl
answer_is c v p (event.Add x) is = refl
answer_is c v p event.Change is = refl
answer_is c v p event.Release is = refl
answer_is c v p event.RekeySecond is = refl
answer_is c v p (event.RekeyMaster root) is = refl
answer_is c v p (event.Recover id) is = refl
answer_is c v p (event.Report x id) is = refl
answer_is c v p (event.Deny x on) is = refl
answer_is c v p (event.Ask x w) is = refl
answer_is c v p event.ScgFail is = refl
answer_is c v p (event.Step l i) is = refl
answer_is c v p (event.Lose l i) is = refl
answer_is c v p (event.Again l i) is = refl

-- each downlink submission of any run is answered as it is due: a bearer that is done and not dropped takes it, unless its
-- window is full or its COUNTs are used up
pub submissions_answered : (c : Choices) (h : Header) (policies : ℕ) (es : List Event)
    → Each (of_entries (λ p x q. submission_is_answered p x)) (new_past h policies) (entries_from c (new_world h) es)
submissions_answered c h policies es =
    each_by c (of_entries (λ p x q. submission_is_answered p x)) Holds (λ v p e holds. none_said (judged e (world_step c v e).1.answer p) (world_step c v e).1.lines) (answer_is c) (holds_next c)
    es (new_world h) (new_past h policies) (holds_new h policies)
