-- Plans that the master's procedures tell a node of are newer than those before, whatever record or command they take.
use Rattle.std.proofs.Common.{ℕ, ◌≡◌, ◌≤◌, ◌+◌, ◌==◌, ◌++◌, Bool, true, false, List, [], ◌∷◌, Option, Some, None, refl, sym, ap, subst, ◌∙◌, arith}
use Rattle.std.specs.Prelude.{Err, Ok, Result, filter, find, if◌then◌else◌, is_none, is_some, not, ◌&&◌}
use Rattle.std.specs.List.{flat_map, list_any}
use Rattle.dc_base.specs.Nodes.{is_mm, is_same_node, is_secondary}
use Rattle.dc_base.specs.declared.answers.Refusal.{Refusal}
use Rattle.dc_base.specs.declared.answers.Refusal.TheVariants as refusal
use Rattle.dc_base.specs.declared.answers.Word.{Word}
use Rattle.dc_base.specs.declared.answers.Word.TheVariants as word
use Rattle.dc_base.specs.declared.events.Event.{Event}
use Rattle.dc_base.specs.declared.events.Event.TheVariants as event
use Rattle.dc_base.specs.declared.events.Note.TheVariants as note
use Rattle.dc_base.specs.declared.nodes.Node.{Node}
use Rattle.dc_base.specs.declared.nodes.Node.TheVariants.{A, B, M, T}
use Rattle.dc_base.specs.declared.nodes.Shape.{Shape}
use Rattle.dc_base.specs.declared.nodes.Want.{Want}
use Rattle.dc_base.specs.declared.nodes.Want.TheVariants as want
use Rattle.dc_base.specs.declared.records.Rec.{Rec}
use Rattle.dc_base.specs.declared.records.Rec.TheVariants as rec
use Rattle.dc_base.specs.declared.records.RecKind.{RecKind}
use Rattle.dc_base.specs.declared.records.RecKind.TheVariants as kind
use Rattle.dc_base.specs.declared.records.StatusTransfer.{StatusTransfer}
use Rattle.node_rules.specs.Acts.{ProcFault, first_refusal, unexpected}
use Rattle.node_rules.specs.CommandTable.{Table, is_counter_spent, row}
use Rattle.node_rules.specs.Drafts.{asking, asking_for, draft, next_second, shape_of}
use Rattle.node_rules.specs.MasterCommands.{command_refusals, commands, commands_unless, is_alone, master_command, recovers_at, recovers_row}
use Rattle.node_rules.specs.MasterEnds.{waits_for}
use Rattle.node_rules.specs.MasterGo.{begins_if, way}
use Rattle.node_rules.specs.MasterRecords.{adopted_if, agreed, agreed_if, asking_refusal, begins_asked, completed, completed_if, completing, failed_legs, failing, failing_at, is_answer, is_moving, moved, passed_to, recovered, recovered_at, recovered_second, recovered_there, rejected, rejected_if, rejecting, released, transferred, wanted_by}
use Rattle.node_rules.specs.MasterState.{MasterActs, MasterProc, with_waits}
use Rattle.node_rules.specs.MasterTaking.{adopted_here, from_second, from_terminal, master_adopted, master_take}
use Rattle.node_rules.specs.Places.{is_at, other_second}
use Rattle.node_rules.specs.declared.acts.Act.{Act}
use Rattle.node_rules.specs.declared.acts.Act.TheVariants.{Say as say, Send as send, UnlockAll as unlock_all}
use Rattle.node_rules.specs.declared.commands.Change.{Change}
use Rattle.node_rules.specs.declared.commands.Command.{Command}
use Rattle.node_rules.specs.declared.commands.Command.TheVariants.{Asked as asked, Gone as gone, Recovering as recovering}
use Rattle.node_rules.specs.declared.commands.First.{First}
use Rattle.node_rules.specs.declared.commands.First.TheVariants.{Addition as addition, Modification as modification, Release as release}
use Rattle.node_rules.specs.declared.commands.Row.{Row}
use Rattle.run_control.specs.Sound.{IsSound, IsSoundCommand}
use Rattle.run_control.proofs.Sent.{either}
use Rattle.run_control.proofs.Sound.{way_leaving}
use Rattle.run_generations.specs.Newer.{AsksOther, Between, FirstAsksOther, IsDrawn, IsDrawnBy, IsNewer, IsNextDraft, TakesNewer, fresh_by, fresh_from, plan_generation, told_in}
use Rattle.run_generations.proofs.Telling.{before_newer, begins_if_newer, ends_newer, free_stays, goes_newer, leaves, lower_newer, MayHear, none_told, stays_newer, told_append, tries_newer, waits_drawn, waits_for_newer, waits_fresh}

left_of : (a b : Bool) → (a && b) ≡ true → a ≡ true
left_of true b is = refl
left_of false b is = absurd cc

no_one : (a : Bool) → (a && false) ≡ true → ⊥
no_one true is = absurd cc
no_one false is = absurd cc

same_node : (x z : Node) → is_same_node x z ≡ true → x ≡ z
same_node T T is = refl
same_node T M is = absurd cc
same_node T A is = absurd cc
same_node T B is = absurd cc
same_node M T is = absurd cc
same_node M M is = refl
same_node M A is = absurd cc
same_node M B is = absurd cc
same_node A T is = absurd cc
same_node A M is = absurd cc
same_node A A is = refl
same_node A B is = absurd cc
same_node B T is = absurd cc
same_node B M is = absurd cc
same_node B A is = absurd cc
same_node B B is = refl

-- the one node is not at a place where the other one is, if they are the same
is_no_other : (x z : Node) (o : Option Node) → is_same_node x z ≡ true → is_at z o ≡ false → is_at x o ≡ true → ⊥
is_no_other x z o same not_there there = absurd (cc (subst (λ n. is_at n o ≡ true) (same_node x z same) there, not_there))

-- ---- drafts have the next generation

asking_next : (f : First) (o : Option Node) (sec : Option Node) → ((x : Node) → AsksOther f x sec) → FirstAsksOther (asking f o) sec
asking_next f None sec other = tt
asking_next f (Some x) sec other = other x

asking_for_next : (s : Shape) (o sec : Option Node) → FirstAsksOther (asking_for s o) sec
asking_for_next s o sec = either (λ a. FirstAsksOther a sec) (is_mm s) None (asking modification o) tt (asking_next modification o sec (λ x. tt))

other_is_other : (x : Node) → is_same_node (other_second x) x ≡ false
other_is_other A = refl
other_is_other B = refl
other_is_other M = refl
other_is_other T = refl

rekey_next : (t : Table) → IsNextDraft t (draft t event.RekeySecond)
rekey_next t = (refl, asking_next modification t.sec t.sec (λ x. tt))

change_next : (t : Table) → IsNextDraft t (draft t event.Change)
change_next t = (refl, by t.sec)
  where
    by : (o : Option Node) → FirstAsksOther (asking addition (next_second o)) o
    by None = tt
    by (Some x) = other_is_other x

module _ (y : Node) where
  -- where nothing but records without plans comes of it
  plain : (m : MasterProc) (acts : List Act) → IsDrawn m → told_in y acts ≡ [] → IsNewer y (fresh_from y m) (m, acts)
  plain m acts drawn none = record { told = subst (λ gs. Between (fresh_from y m) gs (fresh_from y m)) (sym none) (stays_newer y m drawn).told; drawn = drawn }

  -- ---- answers

  -- of a plan that was agreed to, the terminal hears, and the node that leaves
  may_hear : (c : Change) (first : First) (who : Node) (wanted : Bool) (t : Table) → is_secondary who ≡ true → (c.plan.g ≡ t.last) × (1 ≤ t.last) × AsksOther first who t.sec
      → MayHear y (fresh_by y t.last (Some (asked c first who wanted))) c.plan.g (way first who wanted t.sec)
  may_hear c first who wanted t second drawn = record {
    terminal = λ is. at_most (is_same_node y who) refl (λ same. not_terminal y who is second same);
    leaver = λ is. at_most (is_same_node y who) refl (λ same. not_leaver first drawn.2 same is);
    above = either (λ k. k ≤ c.plan.g + 1) (is_same_node y who) (t.last + 1) t.last (omega (arith, drawn.0)) (omega (arith, drawn.0));
  }
    where
      at_most : (b : Bool) → is_same_node y who ≡ b → (is_same_node y who ≡ true → ⊥) → (if is_same_node y who then t.last + 1 else t.last) ≤ c.plan.g
      at_most true is other = absurd (other is)
      at_most false is other = rw is (omega (arith, drawn.0))

      not_terminal : (z x : Node) → is_same_node z T ≡ true → is_secondary x ≡ true → is_same_node z x ≡ true → ⊥
      not_terminal T T is second same = absurd cc
      not_terminal T M is second same = absurd cc
      not_terminal T A is second same = absurd cc
      not_terminal T B is second same = absurd cc
      not_terminal M x is second same = absurd cc
      not_terminal A x is second same = absurd cc
      not_terminal B x is second same = absurd cc

      not_leaver : (f : First) → AsksOther f who t.sec → is_same_node y who ≡ true → leaves y (way f who wanted t.sec) ≡ true → ⊥
      not_leaver addition other same is = is_no_other y who t.sec same other (left_of (is_at y t.sec) true is)
      not_leaver modification other same is = absurd cc
      not_leaver release other same is = no_one (is_same_node y who) is

  agreed_newer : (k : RecKind) (f : First) (from : Node) (g : ℕ) (m : MasterProc) (c : Option Command) → IsSound m → IsSoundCommand c → IsDrawnBy m.table c
      → TakesNewer y (fresh_by y m.table.last c) (agreed k f from g m c)
  agreed_newer k f from g m None sound is drawn = tt
  agreed_newer k f from g m (Some (asked c first who wanted)) sound is drawn = by (is_answer f from g first who c.plan.g)
    where
      by : (b : Bool) → TakesNewer y (fresh_by y m.table.last (Some (asked c first who wanted))) (agreed_if k m c first who wanted b)
      by true =
          goes_newer y (fresh_by y m.table.last (Some (asked c first who wanted))) m c (way first who wanted m.table.sec) drawn.0 drawn.1 (way_leaving first who wanted m.table.sec is.1 sound.sec)
          (may_hear c first who wanted m.table is.1 drawn)
      by false = tt
  agreed_newer k f from g m (Some (gone plan going)) sound is drawn = tt
  agreed_newer k f from g m (Some (recovering id terminal second)) sound is drawn = tt

  released_newer : (r : Result MasterActs ProcFault) (m : MasterProc) → IsDrawn m → TakesNewer y (fresh_from y m) r → TakesNewer y (fresh_from y m) (released r m)
  released_newer (Ok r) m drawn is = is
  released_newer (Err why) m drawn is = stays_newer y m drawn

  rejecting_none : (first : First) (who : Node) (wanted : Bool) → told_in y (rejecting first who wanted) ≡ []
  rejecting_none first who false = refl
  rejecting_none addition who true = none_told y (other_second who) (rec.Chgref word.Rejected) refl
  rejecting_none modification who true = none_told y who (rec.Modref word.Rejected) refl
  rejecting_none release who true = refl

  -- once a plan was asked for, what may be told is at most the next one
  at_most_next : (last : ℕ) (c : Option Command) → fresh_by y last c ≤ last + 1
  at_most_next last None = omega arith
  at_most_next last (Some (asked c first who wanted)) = either (λ k. k ≤ last + 1) (is_same_node y who) (last + 1) last (omega arith) (omega arith)
  at_most_next last (Some (gone plan going)) = omega arith
  at_most_next last (Some (recovering id terminal second)) = omega arith

  rejected_newer : (k : RecKind) (f : First) (from : Node) (g : ℕ) (m : MasterProc) (c : Option Command) → TakesNewer y (fresh_by y m.table.last c) (rejected k f from g m c)
  rejected_newer k f from g m None = tt
  rejected_newer k f from g m (Some (asked c first who wanted)) = by (is_answer f from g first who c.plan.g)
    where
      by : (b : Bool) → TakesNewer y (fresh_by y m.table.last (Some (asked c first who wanted))) (rejected_if k m first who wanted b)
      by true =
          lower_newer y (fresh_by y m.table.last (Some (asked c first who wanted))) (m.table.last + 1) _ (at_most_next m.table.last (Some (asked c first who wanted)))
          (ends_newer y m (rejecting first who wanted) note.Rejected (rejecting_none first who wanted))
      by false = tt
  rejected_newer k f from g m (Some (gone plan going)) = tt
  rejected_newer k f from g m (Some (recovering id terminal second)) = tt

  -- ---- the terminal

  completing_none : (x : Option Node) (confirms : Bool) (g : ℕ) → told_in y (completing x confirms g) ≡ []
  completing_none None confirms g = refl
  completing_none (Some x) true g = none_told y x (rec.Modcnf g) refl
  completing_none (Some x) false g = none_told y x (rec.Recfg g) refl

  completed_newer : (g : ℕ) (m : MasterProc) (c : Option Command) → TakesNewer y (fresh_by y m.table.last c) (completed g m c)
  completed_newer g m None = tt
  completed_newer g m (Some (asked c first who wanted)) = tt
  completed_newer g m (Some (gone p w)) = by ((p.g == g) && not w.complete)
    where
      by : (b : Bool) → TakesNewer y (m.table.last + 1) (completed_if m p w b)
      by true =
          before_newer y (m.table.last + 1) (completing w.due w.confirms p.g ++ unlock_all p.g ∷ []) (waits_for m (gone p (record w { complete = true })))
          (told_append y (completing w.due w.confirms p.g) (unlock_all p.g ∷ []) ∙ ap (λ zs. zs ++ []) (completing_none w.due w.confirms p.g)) (waits_for_newer y m (gone p (record w { complete = true })) tt)
      by false = tt
  completed_newer g m (Some (recovering id terminal second)) = tt

  failing_at_none : (id g : ℕ) (x : Node) → told_in y (failing_at id g x) ≡ []
  failing_at_none id g M = refl
  failing_at_none id g A = none_told y A (rec.Scgn id g) refl
  failing_at_none id g B = none_told y B (rec.Scgn id g) refl
  failing_at_none id g T = refl

  failing_none : (id g : ℕ) (o : Option Row) → told_in y (failing id g o) ≡ []
  failing_none id g None = refl
  failing_none id g (Some r) = either (λ acts. told_in y acts ≡ []) (r.g == g) (failing_at id g r.anchor) [] (failing_at_none id g r.anchor) refl

  each_none : {X : Type 0} (f : X → List Act) → ((x : X) → told_in y (f x) ≡ []) → (xs : List X) → told_in y (flat_map f xs) ≡ []
  each_none f none [] = refl
  each_none f none (x ∷ xs) = told_append y (f x) (flat_map f xs) ∙ ap (λ zs. zs ++ told_in y (flat_map f xs)) (none x) ∙ each_none f none xs

  failed_newer : (m : MasterProc) (pairs : List (ℕ × ℕ)) → IsDrawn m → IsNewer y (fresh_from y m) (failed_legs m pairs)
  failed_newer m pairs drawn = plain m (failed_legs m pairs).1 drawn (each_none (λ (x : ℕ × ℕ). failing x.0 x.1 (row m.table x.0)) (λ x. failing_none x.0 x.1 (row m.table x.0)) pairs)

  -- ---- recoveries

  recovered_newer : (x : Node) (id : ℕ) (m : MasterProc) (c : Option Command) → TakesNewer y (fresh_by y m.table.last c) (recovered x id m c)
  recovered_newer x id m None = tt
  recovered_newer x id m (Some (asked c first who wanted)) = tt
  recovered_newer x id m (Some (gone plan going)) = tt
  recovered_newer x id m (Some (recovering i terminal second)) = by x (i == id)
    where
      there : (b : Bool) → TakesNewer y (m.table.last + 1) (recovered_there m i second b)
      there true = waits_for_newer y m (recovering i false second) tt
      there false = tt

      at_second : (b : Bool) → TakesNewer y (m.table.last + 1) (recovered_second m i terminal b)
      at_second true = waits_for_newer y m (recovering i terminal None) tt
      at_second false = tt

      by : (x : Node) (same : Bool) → TakesNewer y (m.table.last + 1) (recovered_at x m i terminal second same)
      by T same = there (terminal && same)
      by A same = at_second (is_at A second && same)
      by B same = at_second (is_at B second && same)
      by M same = tt

  -- ---- moves

  moved_newer : (from : Node) (g id : ℕ) (m : MasterProc) (c : Option Command) → TakesNewer y (fresh_by y m.table.last c) (moved from g id m c)
  moved_newer from g id m None = tt
  moved_newer from g id m (Some (asked c first who wanted)) = tt
  moved_newer from g id m (Some (gone p w)) = by ((p.g == g) && list_any (is_moving id from) w.moving)
    where
      by : (b : Bool) → TakesNewer y (m.table.last + 1) (adopted_if kind.Moved m id from p w b)
      by true = waits_for_newer y m (gone p (record w { moving = filter (λ z. not (is_moving id from z)) w.moving })) tt
      by false = tt
  moved_newer from g id m (Some (recovering i terminal second)) = tt

  passed_newer : (m : MasterProc) (s : StatusTransfer) (from : Node) (o : Option (ℕ × Node)) → IsDrawn m → TakesNewer y (fresh_from y m) (passed_to m s from o)
  passed_newer m s from None drawn = tt
  passed_newer m s from (Some (id, M)) drawn = plain m _ drawn refl
  passed_newer m s from (Some (id, A)) drawn = either (TakesNewer y (fresh_from y m)) (is_same_node from A) (Err (unexpected kind.Snst)) (Ok (m, send A (rec.Snst s) ∷ [])) tt (plain m _ drawn (none_told y A (rec.Snst s) refl))
  passed_newer m s from (Some (id, B)) drawn = either (TakesNewer y (fresh_from y m)) (is_same_node from B) (Err (unexpected kind.Snst)) (Ok (m, send B (rec.Snst s) ∷ [])) tt (plain m _ drawn (none_told y B (rec.Snst s) refl))
  passed_newer m s from (Some (id, T)) drawn = tt

  transferred_newer : (from : Node) (s : StatusTransfer) (m : MasterProc) (c : Option Command) → IsDrawn m → TakesNewer y (fresh_from y m) (transferred from s m c)
  transferred_newer from s m None drawn = tt
  transferred_newer from s m (Some (asked c first who wanted)) drawn = tt
  transferred_newer from s m (Some (gone p w)) drawn = passed_newer m s from (if p.g == s.g then find (λ (x : ℕ × Node). x.0 == s.id) w.moving else None) drawn
  transferred_newer from s m (Some (recovering i terminal second)) drawn = tt

  -- ---- what a secondary node asks for

  -- no command is open
  none_open : (c : Option Command) → is_some c ≡ false → c ≡ None
  none_open None none = refl
  none_open (Some c) none = absurd cc

  free_if : {X : Type 0} (a b d : Bool) (u v w : X) → (if a then Some u else if b then Some v else if d then Some w else None) ≡ None → b ≡ false
  free_if true b d u v w is = absurd cc
  free_if false true d u v w is = absurd cc
  free_if false false d u v w is = refl

  asked_newer : (m : MasterProc) (from : Node) (what : Want) (e : Event) (refuse : Word → Rec) (o : Option Word) → asking_refusal from m ≡ o → ((why : Word) → plan_generation (refuse why) ≡ [])
      → IsDrawn m → IsNextDraft m.table (draft m.table e) → IsNewer y (fresh_from y m) (begins_asked m from what e refuse o)
  asked_newer m from what e refuse (Some why) is none drawn next = plain m _ drawn (none_told y from (refuse why) (none why))
  asked_newer m from what e refuse None is none drawn next =
      let free = none_open m.command (free_if (not (is_at from m.table.sec)) (is_some m.command) (is_counter_spent m.table) word.NoSecondary word.Busy word.CounterSpent is) in
      lower_newer y (fresh_from y m) (m.table.last + 1) _ (at_most_next m.table.last m.command)
      (before_newer y (m.table.last + 1) (say (note.Begin what) ∷ []) (begins_if m true (draft m.table e)) refl (begins_if_newer y m true (draft m.table e) next free))

  wanted_newer : (from : Node) (what : Want) (m : MasterProc) → is_secondary from ≡ true → IsDrawn m → IsNewer y (fresh_from y m) (wanted_by from what m)
  wanted_newer from want.Rekey m second drawn = asked_newer m from want.Rekey event.RekeySecond (λ w. rec.Modref w) (asking_refusal from m) refl (λ why. refl) drawn (rekey_next m.table)
  wanted_newer from want.Change m second drawn = asked_newer m from want.Change event.Change (λ w. rec.Chgref w) (asking_refusal from m) refl (λ why. refl) drawn (change_next m.table)
  wanted_newer from want.Release m second drawn =
      lower_newer y (fresh_from y m) (fresh_from y (with_waits true from m)) _ (subst (λ k. fresh_from y m ≤ k) (sym (waits_fresh y true from m)) (omega arith))
      (tries_newer y from (with_waits true from m) second (waits_drawn y true from m drawn))

  -- ---- a record

  second_newer : (x : Node) (m : MasterProc) (r : Rec) → is_secondary x ≡ true → IsSound m → IsDrawn m → TakesNewer y (fresh_from y m) (from_second x m r)
  second_newer x m (rec.Addack g) second sound drawn = agreed_newer kind.Addack addition x g m m.command sound sound.command drawn
  second_newer x m (rec.Modack g) second sound drawn = agreed_newer kind.Modack modification x g m m.command sound sound.command drawn
  second_newer x m (rec.Relack g) second sound drawn = released_newer (agreed kind.Relack release x g m m.command) m drawn (agreed_newer kind.Relack release x g m m.command sound sound.command drawn)
  second_newer x m (rec.Addrej g) second sound drawn = rejected_newer kind.Addrej addition x g m m.command
  second_newer x m (rec.Modrej g) second sound drawn = rejected_newer kind.Modrej modification x g m m.command
  second_newer x m (rec.Relrej g) second sound drawn = rejected_newer kind.Relrej release x g m m.command
  second_newer x m (rec.Snst status) second sound drawn = transferred_newer x status m m.command drawn
  second_newer x m (rec.Moved g id) second sound drawn = moved_newer x g id m m.command
  second_newer x m (rec.Recovd id) second sound drawn = recovered_newer x id m m.command
  second_newer x m rec.Modrqd second sound drawn = wanted_newer x want.Rekey m second drawn
  second_newer x m rec.Chgrqd second sound drawn = wanted_newer x want.Change m second drawn
  second_newer x m rec.Relrqd second sound drawn = wanted_newer x want.Release m second drawn
  second_newer x m (rec.Reconf plan key) second sound drawn = tt
  second_newer x m (rec.Rcomp g) second sound drawn = tt
  second_newer x m (rec.Scgf failed) second sound drawn = tt
  second_newer x m (rec.Recov id) second sound drawn = tt
  second_newer x m (rec.Addreq plan key) second sound drawn = tt
  second_newer x m (rec.Modreq plan key) second sound drawn = tt
  second_newer x m (rec.Recfg g) second sound drawn = tt
  second_newer x m (rec.Relreq plan) second sound drawn = tt
  second_newer x m (rec.Uecr g) second sound drawn = tt
  second_newer x m (rec.Scgn id g) second sound drawn = tt
  second_newer x m (rec.Modcnf g) second sound drawn = tt
  second_newer x m (rec.Modref word) second sound drawn = tt
  second_newer x m (rec.Chgcnf plan) second sound drawn = tt
  second_newer x m (rec.Chgref word) second sound drawn = tt
  second_newer x m (rec.Relcnf plan) second sound drawn = tt

  terminal_newer : (m : MasterProc) (r : Rec) → IsDrawn m → TakesNewer y (fresh_from y m) (from_terminal m r)
  terminal_newer m (rec.Rcomp g) drawn = completed_newer g m m.command
  terminal_newer m (rec.Scgf failed) drawn = failed_newer m failed drawn
  terminal_newer m (rec.Recovd id) drawn = recovered_newer T id m m.command
  terminal_newer m (rec.Reconf plan key) drawn = tt
  terminal_newer m (rec.Recov id) drawn = tt
  terminal_newer m (rec.Addreq plan key) drawn = tt
  terminal_newer m (rec.Addack g) drawn = tt
  terminal_newer m (rec.Addrej g) drawn = tt
  terminal_newer m (rec.Modreq plan key) drawn = tt
  terminal_newer m (rec.Modack g) drawn = tt
  terminal_newer m (rec.Modrej g) drawn = tt
  terminal_newer m (rec.Recfg g) drawn = tt
  terminal_newer m (rec.Relreq plan) drawn = tt
  terminal_newer m (rec.Relack g) drawn = tt
  terminal_newer m (rec.Relrej g) drawn = tt
  terminal_newer m (rec.Uecr g) drawn = tt
  terminal_newer m (rec.Snst status) drawn = tt
  terminal_newer m (rec.Moved g id) drawn = tt
  terminal_newer m (rec.Scgn id g) drawn = tt
  terminal_newer m rec.Modrqd drawn = tt
  terminal_newer m (rec.Modcnf g) drawn = tt
  terminal_newer m (rec.Modref word) drawn = tt
  terminal_newer m rec.Chgrqd drawn = tt
  terminal_newer m (rec.Chgcnf plan) drawn = tt
  terminal_newer m (rec.Chgref word) drawn = tt
  terminal_newer m rec.Relrqd drawn = tt
  terminal_newer m (rec.Relcnf plan) drawn = tt

  -- whatever record comes from whatever node
  pub take_newer : (from : Node) (m : MasterProc) (r : Rec) → IsSound m → IsDrawn m → TakesNewer y (fresh_from y m) (master_take from m r)
  take_newer T m r sound drawn = terminal_newer m r drawn
  take_newer A m r sound drawn = second_newer A m r refl sound drawn
  take_newer B m r sound drawn = second_newer B m r refl sound drawn
  take_newer M m r sound drawn = tt

  -- ---- an adoption

  adopted_newer : (id : ℕ) (m : MasterProc) (c : Option Command) → m.command ≡ c → IsDrawn m → IsNewer y (fresh_by y m.table.last c) (adopted_here id m c)
  adopted_newer id m None is drawn = subst (λ d. IsNewer y (fresh_by y m.table.last d) (m, [])) is (stays_newer y m drawn)
  adopted_newer id m (Some (asked c first who wanted)) is drawn = subst (λ d. IsNewer y (fresh_by y m.table.last d) (m, [])) is (stays_newer y m drawn)
  adopted_newer id m (Some (gone p w)) is drawn = waits_for_newer y m (gone p (record w { moving = filter (λ z. not (is_moving id M z)) w.moving })) tt
  adopted_newer id m (Some (recovering i terminal second)) is drawn = subst (λ d. IsNewer y (fresh_by y m.table.last d) (m, [])) is (stays_newer y m drawn)

  pub adoption_newer : (m : MasterProc) (id : ℕ) → IsDrawn m → IsNewer y (fresh_from y m) (master_adopted m id)
  adoption_newer m id drawn = adopted_newer id m m.command refl drawn

  -- ---- a command

  -- the first condition of those under which it is refused is that a command is open
  free_first : (b : Bool) (why : Refusal) (rest : Option Refusal) → (if b then Some why else rest) ≡ None → b ≡ false
  free_first true why rest is = absurd cc
  free_first false why rest is = refl

  rest_of : (b : Bool) (why : Refusal) (rest : Option Refusal) → (if b then Some why else rest) ≡ None → rest ≡ None
  rest_of true why rest is = absurd cc
  rest_of false why rest is = is

  unless_newer : (m : MasterProc) (e : Event) (o : Option Refusal) → (o ≡ None → IsNewer y (fresh_from y m) (commands m e)) → TakesNewer y (fresh_from y m) (commands_unless m e o)
  unless_newer m e None so = so refl
  unless_newer m e (Some why) so = tt

  planned_newer : (m : MasterProc) (e : Event) → IsNextDraft m.table (draft m.table e) → is_some m.command ≡ false → IsNewer y (fresh_from y m) (begins_if m false (draft m.table e))
  planned_newer m e next free =
      lower_newer y (fresh_from y m) (m.table.last + 1) _ (at_most_next m.table.last m.command) (begins_if_newer y m false (draft m.table e) next (none_open m.command free))

  free_state : (m : MasterProc) → is_some m.command ≡ false → IsNewer y (m.table.last + 1) (m, [])
  free_state m free = free_stays y m (none_open m.command free)

  -- a recovery has no plan
  recovers_newer : (m : MasterProc) (id : ℕ) (o : Option Row) → is_some m.command ≡ false → IsNewer y (fresh_from y m) (recovers_row m id o)
  recovers_newer m id o free = lower_newer y (fresh_from y m) (m.table.last + 1) _ (at_most_next m.table.last m.command) (by o)
    where
      told : (x : Option Node) (acts : List Act) → told_in y acts ≡ [] → IsNewer y (m.table.last + 1) (record m { command = Some (recovering id true x) }, acts)
      told x acts none = record { told = subst (λ gs. Between (m.table.last + 1) gs (m.table.last + 1)) (sym none) (omega arith); drawn = tt }

      both : (x : Node) → told_in y (send T (rec.Recov id) ∷ send x (rec.Recov id) ∷ []) ≡ []
      both x = told_append y (send T (rec.Recov id) ∷ []) (send x (rec.Recov id) ∷ []) ∙ ap (λ gs. gs ++ told_in y (send x (rec.Recov id) ∷ [])) (none_told y T (rec.Recov id) refl) ∙ none_told y x (rec.Recov id) refl

      at_node : (x : Node) → IsNewer y (m.table.last + 1) (recovers_at m id x)
      at_node M = told None _ (none_told y T (rec.Recov id) refl)
      at_node A = told (Some A) _ (both A)
      at_node B = told (Some B) _ (both B)
      at_node T = free_state m free

      by : (o : Option Row) → IsNewer y (m.table.last + 1) (recovers_row m id o)
      by None = free_state m free
      by (Some r) = at_node r.anchor

  -- a command that has a plan is refused first of all where one is open
  commands_newer : (m : MasterProc) (e : Event) (rest : Option Refusal) → (rest ≡ None → IsNextDraft m.table (draft m.table e)) → commands m e ≡ begins_if m false (draft m.table e)
      → TakesNewer y (fresh_from y m) (commands_unless m e (if is_some m.command then Some refusal.Busy else rest))
  commands_newer m e rest next same =
      unless_newer m e (if is_some m.command then Some refusal.Busy else rest)
      (λ is. subst (IsNewer y (fresh_from y m)) (sym same) (planned_newer m e (next (rest_of (is_some m.command) refusal.Busy rest is)) (free_first (is_some m.command) refusal.Busy rest is)))

  -- a secondary node is added where there is none
  add_next : (t : Table) (x : Node) → is_none t.sec ≡ true → IsNextDraft t (draft t (event.Add x))
  add_next t x none = (refl, by t.sec none)
    where
      by : (o : Option Node) → is_none o ≡ true → is_at x o ≡ false
      by None is = refl
      by (Some z) is = absurd cc

  alone_if : (b : Bool) (why : Refusal) (rest : Option Refusal) → (if not b then Some why else rest) ≡ None → b ≡ true
  alone_if true why rest is = refl
  alone_if false why rest is = absurd cc

  pub command_newer : (policies : ℕ) (m : MasterProc) (e : Event) → IsDrawn m → TakesNewer y (fresh_from y m) (master_command policies m e)
  command_newer policies m (event.Bearer id n first shape threshold policy) drawn = commands_newer m (event.Bearer id n first shape threshold policy) _ (λ is. (refl, asking_for_next shape m.table.sec m.table.sec)) refl
  command_newer policies m (event.Reshape id shape) drawn = commands_newer m (event.Reshape id shape) _ (λ is. (refl, asking_next modification m.table.sec m.table.sec (λ x. tt))) refl
  command_newer policies m (event.Remove id) drawn = commands_newer m (event.Remove id) _ (λ is. (refl, asking_for_next (shape_of (row m.table id)) m.table.sec m.table.sec)) refl
  command_newer policies m (event.Add node) drawn = commands_newer m (event.Add node) _ (λ is. add_next m.table node (alone_if (is_alone m) refusal.SecondaryThere _ is)) refl
  command_newer policies m event.Change drawn = commands_newer m event.Change _ (λ is. change_next m.table) refl
  command_newer policies m event.Release drawn = commands_newer m event.Release _ (λ is. (refl, asking_next release m.table.sec m.table.sec (λ x. tt))) refl
  command_newer policies m event.RekeySecond drawn = commands_newer m event.RekeySecond _ (λ is. rekey_next m.table) refl
  command_newer policies m (event.RekeyMaster root) drawn = commands_newer m (event.RekeyMaster root) _ (λ is. (refl, asking_next modification m.table.sec m.table.sec (λ x. tt))) refl
  command_newer policies m (event.Recover id) drawn =
      unless_newer m (event.Recover id) (first_refusal (command_refusals policies m (event.Recover id))) (λ is. recovers_newer m id (row m.table id) (free_first (is_some m.command) refusal.Busy _ is))
  command_newer policies m (event.Report node id) drawn = stays_newer y m drawn
  command_newer policies m (event.Deny node on) drawn = stays_newer y m drawn
  command_newer policies m (event.Ask node what) drawn = stays_newer y m drawn
  command_newer policies m event.ScgFail drawn = stays_newer y m drawn
  command_newer policies m (event.Submit id d payload) drawn = stays_newer y m drawn
  command_newer policies m (event.Step l i) drawn = stays_newer y m drawn
  command_newer policies m (event.Lose l i) drawn = stays_newer y m drawn
  command_newer policies m (event.Again l i) drawn = stays_newer y m drawn
