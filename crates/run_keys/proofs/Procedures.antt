-- Whatever the master's procedures take: what is so of the command table, where drafts keep it, is so after it.
use Rattle.std.proofs.Common.{ℕ, ◌≡◌, ◌++◌, ◌==◌, ◌&&◌, Bool, true, false, List, [], ◌∷◌, Option, Some, None, refl, sym, ap, subst, ◌∙◌, inl, inr, ◌⊎◌}
use Rattle.std.specs.Prelude.{Err, Ok, Result, filter, find, if◌then◌else◌, is_some, not, ⊤}
use Rattle.std.specs.List.{AllByRecursion, flat_map, list_any}
use Rattle.std.proofs.lemmas.List.{append-nil}
use Rattle.dc_base.specs.Nodes.{is_same_node}
use Rattle.dc_base.specs.declared.answers.Word.{Word}
use Rattle.dc_base.specs.declared.events.Event.{Event}
use Rattle.dc_base.specs.declared.events.Event.TheVariants as event
use Rattle.dc_base.specs.declared.events.Note.{Note}
use Rattle.dc_base.specs.declared.events.Note.TheVariants as note
use Rattle.dc_base.specs.declared.nodes.Node.{Node}
use Rattle.dc_base.specs.declared.nodes.Node.TheVariants.{A, B, M, T}
use Rattle.dc_base.specs.declared.nodes.Want.{Want}
use Rattle.dc_base.specs.declared.nodes.Want.TheVariants as want
use Rattle.dc_base.specs.declared.records.Plan.{Plan}
use Rattle.dc_base.specs.declared.records.Rec.{Rec}
use Rattle.dc_base.specs.declared.records.Rec.TheVariants as rec
use Rattle.dc_base.specs.declared.records.RecKind.{RecKind}
use Rattle.dc_base.specs.declared.records.StatusTransfer.{StatusTransfer}
use Rattle.transcript.proofs.OnEach.{each_append}
use Rattle.node_rules.specs.Acts.{ProcFault}
use Rattle.node_rules.specs.CommandTable.{Table, carried, row}
use Rattle.node_rules.specs.Drafts.{Draft, draft}
use Rattle.node_rules.specs.MasterCommands.{command_by, commands, recovered_by, recovers_at, recovers_row}
use Rattle.node_rules.specs.MasterEnds.{and_then, ends, ends_gone, ends_if, ends_recovering, forgetting, is_release_spent, releases_if, retries, tried_first, tries, tries_if, tries_now, waits_for}
use Rattle.node_rules.specs.MasterGo.{alone, before_acts, begins, begins_by, begins_if, drawn, first_record, goes, leave_acts, let_go, lets_go, moves_here, preparing, way}
use Rattle.node_rules.specs.MasterRecords.{adopted_if, agreed, agreed_if, asking_refusal, begins_asked, completed, completed_if, completing, failed_legs, failing, failing_at, is_answer, is_moving, moved, passed_to, recovered, recovered_at, recovered_second, recovered_there, rejected, rejected_if, rejecting, released, transferred, wanted_by}
use Rattle.node_rules.specs.MasterState.{MasterActs, MasterProc, waits_at, with_waits}
use Rattle.node_rules.specs.MasterTaking.{adopted_here, from_second, from_terminal, master_adopted, master_take}
use Rattle.node_rules.specs.Places.{is_at, other_second}
use Rattle.node_rules.specs.declared.acts.Act.{Act}
use Rattle.node_rules.specs.declared.acts.Act.TheVariants.{FailOne as fail_one, Go as go, Pass as pass, Prepare as prepare, RecoverOne as recover_one, Say as say, Send as send, UnlockAll as unlock_all}
use Rattle.node_rules.specs.declared.commands.Change.{Change}
use Rattle.node_rules.specs.declared.commands.Command.{Command}
use Rattle.node_rules.specs.declared.commands.Command.TheVariants.{Asked as asked, Gone as gone, Recovering as recovering}
use Rattle.node_rules.specs.declared.commands.First.{First}
use Rattle.node_rules.specs.declared.commands.First.TheVariants.{Addition as addition, Modification as modification, Release as release}
use Rattle.node_rules.specs.declared.commands.Going.{Going}
use Rattle.node_rules.specs.declared.commands.Leaving.{Leaving}
use Rattle.node_rules.specs.declared.commands.Leaving.TheVariants.{ByChangeConfirm as by_change_confirm, ByReleaseConfirm as by_release_confirm, ByRequest as by_request}
use Rattle.node_rules.specs.declared.commands.Row.{Row}
use Rattle.node_rules.specs.declared.commands.Way.{Way}
use Rattle.run_keys.specs.Tables.{IsFree, MayDraw, OfAct, OfCommand, OfProc, OfSome, OfStep}

-- either way
either : {X : Type 0} (P : X → Type 0) (b : Bool) (x y : X) → P x → P y → P (if b then x else y)
either P true x y here there = here
either P false x y here there = there

-- ---- acts that are free

leave_free : (o : Option Node) (told : Option Leaving) (p : Plan) → AllByRecursion IsFree (leave_acts o told p)
leave_free None told p = tt
leave_free (Some x) None p = tt
leave_free (Some x) (Some by_request) p = ((refl, refl), tt)
leave_free (Some x) (Some by_change_confirm) p = ((refl, refl), tt)
leave_free (Some x) (Some by_release_confirm) p = ((refl, refl), tt)

preparing_free : (p : Plan) → AllByRecursion IsFree (preparing p)
preparing_free p = either (AllByRecursion IsFree) (moves_here p) (prepare p ∷ []) [] (tt, tt) tt

first_free : (who : Node) (roots : List (List ℕ)) (f : First) (c : Change) → IsFree (send who (first_record roots f c))
first_free who roots addition c = (refl, refl)
first_free who roots modification c = (refl, refl)
first_free who roots release c = (refl, refl)

forgetting_free : (o : Option Node) (g : ℕ) → AllByRecursion IsFree (forgetting o g)
forgetting_free None g = tt
forgetting_free (Some x) g = ((refl, refl), tt)

rejecting_free : (first : First) (who : Node) (wanted : Bool) → AllByRecursion IsFree (rejecting first who wanted)
rejecting_free first who false = tt
rejecting_free addition who true = ((refl, refl), tt)
rejecting_free modification who true = ((refl, refl), tt)
rejecting_free release who true = tt

at_free : (id g : ℕ) (x : Node) → AllByRecursion IsFree (failing_at id g x)
at_free id g M = (tt, tt)
at_free id g A = ((refl, refl), tt)
at_free id g B = ((refl, refl), tt)
at_free id g T = tt

failing_free : (id g : ℕ) (o : Option Row) → AllByRecursion IsFree (failing id g o)
failing_free id g None = tt
failing_free id g (Some r) = either (AllByRecursion IsFree) (r.g == g) (failing_at id g r.anchor) [] (at_free id g r.anchor) tt

failed_free : (t : Table) (pairs : List (ℕ × ℕ)) → AllByRecursion IsFree (flat_map (λ (x : ℕ × ℕ). failing x.0 x.1 (row t x.0)) pairs)
failed_free t [] = tt
failed_free t (x ∷ pairs) =
    each_append IsFree (failing x.0 x.1 (row t x.0)) (flat_map (λ (y : ℕ × ℕ). failing y.0 y.1 (row t y.0)) pairs) (failing_free x.0 x.1 (row t x.0)) (failed_free t pairs)

module _ (P : Plan → Type 0) (U : ℕ → Type 0) where
  free_act : (a : Act) → IsFree a → OfAct P U a
  free_act (send to r) free = (subst (OfSome P) (sym free.0) tt, subst (OfSome U) (sym free.1) tt)
  free_act (say n) free = tt
  free_act (prepare p) free = tt
  free_act (go p) free = tt
  free_act (unlock_all g) free = absurd free
  free_act (recover_one id) free = tt
  free_act (fail_one id g) free = tt
  free_act (pass st) free = tt

  free_acts : (acts : List Act) → AllByRecursion IsFree acts → AllByRecursion (OfAct P U) acts
  free_acts [] free = tt
  free_acts (a ∷ acts) free = (free_act a free.0, free_acts acts free.1)

-- ---- steps

module _ (K : Table → Type 0) (S : Table → Plan → Type 0) (D : Table → Event → Type 0) (U : ℕ → Type 0)
    (draws : (t : Table) (e : Event) (d : Draft) → K t → D t e → draft t e ≡ Some d → MayDraw K S t d)
    (may_rekey : (t : Table) → D t event.RekeySecond) (may_change : (t : Table) → is_some t.sec ≡ true → D t event.Change)
    (may_release : (t : Table) → is_release_spent t (draft t event.Release) ≡ false → D t event.Release) where
  -- of a state, of a step, and of what is taken
  abbrev Good : MasterProc → Type 0
  Good m = OfProc K S m

  abbrev Step : MasterActs → Type 0
  Step r = OfStep K S U r

  abbrev pub Taken : Result MasterActs ProcFault → Type 0
  Taken (Ok r) = Step r
  Taken (Err why) = ⊤

  stays : (m : MasterProc) (acts : List Act) → AllByRecursion IsFree acts → Good m → Step (m, acts)
  stays m acts free good = record { state = good; acts = free_acts (S m.table) U acts free }

  after_free : (acts : List Act) (r : MasterActs) → AllByRecursion IsFree acts → Step r → Step (before_acts acts r)
  after_free acts r free step = record {
    state = step.state;
    acts = each_append (OfAct (S r.0.table) U) acts r.1 (free_acts (S r.0.table) U acts free) step.acts;
  }

  -- a plan is carried out
  goes_step : (m : MasterProc) (c : Change) (w : Way) → K (carried m.table c) → S (carried m.table c) c.plan → Step (goes m c w)
  goes_step m c w kept set = record {
    state = record { table = kept; command = set };
    acts = ((set, tt), (tt, free_acts (S (carried m.table c)) U (leave_acts w.leaving w.told c.plan) (leave_free w.leaving w.told c.plan)));
  }

  by_first : (m : MasterProc) (d : Draft) (wanted : Bool) → MayDraw K S m.table d → (o : Option (First × Node)) → Step (begins_by (drawn m d) d wanted o)
  by_first m d wanted may None = goes_step (drawn m d) d.change alone may.carried_out may.set
  by_first m d wanted may (Some (first, who)) =
      let n : MasterProc = record (drawn m d) { command = Some (asked d.change first who wanted) } in
      stays n (send who (first_record (drawn m d).table.book.roots first d.change) ∷ []) (first_free who (drawn m d).table.book.roots first d.change, tt)
      (record { table = may.drawn; command = (may.carried_out, may.set) })

  begins_step : (m : MasterProc) (d : Draft) (wanted : Bool) → MayDraw K S m.table d → Step (begins m d wanted)
  begins_step m d wanted may = after_free (preparing d.change.plan) (begins_by (drawn m d) d wanted d.first) (preparing_free d.change.plan) (by_first m d wanted may d.first)

  -- a draft is begun, if there is one
  pub begins_if_step : (m : MasterProc) (e : Event) (wanted : Bool) → Good m → D m.table e → (o : Option Draft) → draft m.table e ≡ o → Step (begins_if m wanted o)
  begins_if_step m e wanted good may None is = stays m [] tt good
  begins_if_step m e wanted good may (Some d) is = begins_step m d wanted (draws m.table e d good.table may is)

  lets_step : (m : MasterProc) (x : Node) (d : Draft) → MayDraw K S m.table d → Step (lets_go m x d)
  lets_step m x d may =
      after_free (say (note.Begin want.Release) ∷ preparing d.change.plan) (goes (drawn m d) d.change (let_go x)) (tt, preparing_free d.change.plan)
      (goes_step (drawn m d) d.change (let_go x) may.carried_out may.set)

  -- ---- a command ends, and what waits is tried

  waits_good : (m : MasterProc) (b : Bool) (x : Node) → Good m → Good (with_waits b x m)
  waits_good m b A good = record { table = good.table; command = good.command }
  waits_good m b B good = record { table = good.table; command = good.command }
  waits_good m b M good = good
  waits_good m b T good = good

  waits_table : (m : MasterProc) (b : Bool) (x : Node) → (with_waits b x m).table ≡ m.table
  waits_table m b A = refl
  waits_table m b B = refl
  waits_table m b M = refl
  waits_table m b T = refl

  -- nothing was carried out, or a command is open
  abbrev Tried : MasterActs → Type 0
  Tried r = (AllByRecursion IsFree r.1 × Good r.0) ⊎ (Step r × (is_some r.0.command ≡ true))

  releases_tried : (m : MasterProc) (x : Node) → Good m → (o : Option Draft) → draft m.table event.Release ≡ o → (spent : Bool) → is_release_spent m.table o ≡ spent → Tried (releases_if m x spent o)
  releases_tried m x good None is spent at = inl (tt, good)
  releases_tried m x good (Some d) is true at = inl (tt, good)
  releases_tried m x good (Some d) is false at =
      let free : is_release_spent m.table (draft m.table event.Release) ≡ false = ap (λ o. is_release_spent m.table o) is ∙ at in
      let may : MayDraw K S m.table d = draws m.table event.Release d good.table (may_release m.table free) is in
      inr (lets_step (with_waits false x m) x d (subst (λ t. MayDraw K S t d) (sym (waits_table m false x)) may), refl)

  now_tried : (m : MasterProc) (x : Node) → Good m → (is : Bool) → Tried (tries_now m x is)
  now_tried m x good true = let d = draft m.table event.Release in releases_tried m x good d refl (is_release_spent m.table d) refl
  now_tried m x good false = inl (((refl, refl), tt), waits_good m false x good)

  if_tried : (m : MasterProc) (x : Node) → Good m → (waits : Bool) (c : Option Command) → Tried (tries_if m x waits c)
  if_tried m x good false c = inl (tt, good)
  if_tried m x good true None = now_tried m x good (is_at x m.table.sec)
  if_tried m x good true (Some (asked c first who wanted)) = inl (tt, good)
  if_tried m x good true (Some (gone plan going)) = inl (tt, good)
  if_tried m x good true (Some (recovering id terminal second)) = inl (tt, good)

  tried : (x : Node) (m : MasterProc) → Good m → Tried (tries x m)
  tried x m good = if_tried m x good (waits_at m x) m.command

  -- where a command is open nothing is tried
  not_tried : (m : MasterProc) (x : Node) (waits : Bool) (c : Option Command) → is_some c ≡ true → tries_if m x waits c ≡ (m, [])
  not_tried m x false c open' = refl
  not_tried m x true None open' = absurd (let bad : false ≡ true = open' in cc)
  not_tried m x true (Some (asked c first who wanted)) open' = refl
  not_tried m x true (Some (gone plan going)) open' = refl
  not_tried m x true (Some (recovering id terminal second)) open' = refl

  tried_step : (r : MasterActs) → Tried r → Step r
  tried_step r (inl quiet') = stays r.0 r.1 quiet'.0 quiet'.1
  tried_step r (inr step) = step.0

  then_tried : (y : Node) (r : MasterActs) → Tried r → Step (and_then r (tries y))
  then_tried y r (inl quiet') = after_free r.1 (tries y r.0) quiet'.0 (tried_step (tries y r.0) (tried y r.0 quiet'.1))
  then_tried y r (inr step) =
      let is : and_then r (tries y) ≡ r = ap (λ (x : MasterActs). before_acts r.1 x) (not_tried r.0 y (waits_at r.0 y) r.0.command step.1) ∙ ap (λ acts. (r.0, acts)) (append-nil r.1) in
      subst Step (sym is) step.0

  retries_step : (m : MasterProc) → Good m → Step (retries m)
  retries_step m good = let x = tried_first m.table.sec in then_tried (other_second x) (tries x m) (tried x m good)

  ended_good : (m : MasterProc) → Good m → Good (record m { command = None })
  ended_good m good = record { table = good.table; command = tt }

  ends_step : (m : MasterProc) (acts : List Act) (how : Note) → AllByRecursion IsFree acts → Good m → Step (ends m acts how)
  ends_step m acts how free good =
      after_free (acts ++ say how ∷ []) (retries (record m { command = None })) (each_append IsFree acts (say how ∷ []) free (tt, tt))
      (retries_step (record m { command = None }) (ended_good m good))

  gone_step : (m : MasterProc) (p : Plan) (w : Going) (complete : Bool) (moving : List (ℕ × Node)) → Good m → Step (ends_gone m p w complete moving)
  gone_step m p w false moving good = stays m [] tt good
  gone_step m p w true (x ∷ xs) good = stays m [] tt good
  gone_step m p w true [] good = ends_step m (forgetting w.leaving p.g) note.Done (forgetting_free w.leaving p.g) good

  recovering_step : (m : MasterProc) (terminal : Bool) (second : Option Node) → Good m → Step (ends_recovering m terminal second)
  recovering_step m false None good = ends_step m [] note.Done tt good
  recovering_step m false (Some x) good = stays m [] tt good
  recovering_step m true second good = stays m [] tt good

  ended_step : (m : MasterProc) (c : Option Command) → Good m → Step (ends_if m c)
  ended_step m None good = stays m [] tt good
  ended_step m (Some (asked c first who wanted)) good = stays m [] tt good
  ended_step m (Some (gone plan going)) good = gone_step m plan going going.complete going.moving good
  ended_step m (Some (recovering id terminal second)) good = recovering_step m terminal second good

  waits_step : (m : MasterProc) (c : Command) → Good (record m { command = Some c }) → Step (waits_for m c)
  waits_step m c good = ended_step (record m { command = Some c }) (Some c) good

  -- ---- with the open command

  -- it goes on
  still_gone : (m : MasterProc) (p : Plan) (w v : Going) → m.command ≡ Some (gone p w) → Good m → Good (record m { command = Some (gone p v) })
  still_gone m p w v is good = record { table = good.table; command = subst (OfCommand K S m.table) is good.command }

  still_recovering : (m : MasterProc) (id : ℕ) (t : Bool) (x : Option Node) → Good m → Good (record m { command = Some (recovering id t x) })
  still_recovering m id t x good = record { table = good.table; command = tt }

  module _ (m : MasterProc) (good : Good m) (opens : (p : Plan) (w : Going) → m.command ≡ Some (gone p w) → U p.g) where
    agreed_now : (k : RecKind) (c : Change) (first : First) (who : Node) (wanted : Bool) → m.command ≡ Some (asked c first who wanted) → (is : Bool) → Taken (agreed_if k m c first who wanted is)
    agreed_now k c first who wanted at true =
        let may = subst (OfCommand K S m.table) at good.command in goes_step m c (way first who wanted m.table.sec) may.0 may.1
    agreed_now k c first who wanted at false = tt

    on_agreed : (k : RecKind) (f : First) (from : Node) (g : ℕ) (o : Option Command) → m.command ≡ o → Taken (agreed k f from g m o)
    on_agreed k f from g None at = tt
    on_agreed k f from g (Some (asked c first who wanted)) at = agreed_now k c first who wanted at (is_answer f from g first who c.plan.g)
    on_agreed k f from g (Some (gone plan going)) at = tt
    on_agreed k f from g (Some (recovering id terminal second)) at = tt

    on_released : (r : Result MasterActs ProcFault) → Taken r → Taken (released r m)
    on_released (Ok r) taken = taken
    on_released (Err why) taken = stays m [] tt good

    rejected_now : (k : RecKind) (first : First) (who : Node) (wanted is : Bool) → Taken (rejected_if k m first who wanted is)
    rejected_now k first who wanted true = ends_step m (rejecting first who wanted) note.Rejected (rejecting_free first who wanted) good
    rejected_now k first who wanted false = tt

    on_rejected : (k : RecKind) (f : First) (from : Node) (g : ℕ) (o : Option Command) → Taken (rejected k f from g m o)
    on_rejected k f from g None = tt
    on_rejected k f from g (Some (asked c first who wanted)) = rejected_now k first who wanted (is_answer f from g first who c.plan.g)
    on_rejected k f from g (Some (gone plan going)) = tt
    on_rejected k f from g (Some (recovering id terminal second)) = tt

    -- the anchors of a plan that was carried out open
    completing_acts : (P : Plan → Type 0) (o : Option Node) (confirms : Bool) (g : ℕ) → U g → AllByRecursion (OfAct P U) (completing o confirms g ++ unlock_all g ∷ [])
    completing_acts P None confirms g may = (may, tt)
    completing_acts P (Some x) true g may = ((tt, may), (may, tt))
    completing_acts P (Some x) false g may = ((tt, may), (may, tt))

    completed_now : (p : Plan) (w : Going) → m.command ≡ Some (gone p w) → (is : Bool) → Taken (completed_if m p w is)
    completed_now p w at true =
        let v : Going = record w { complete = true } in
        let acts = completing w.due w.confirms p.g ++ unlock_all p.g ∷ [] in
        let rest = waits_for m (gone p v) in
        let step = waits_step m (gone p v) (still_gone m p w v at good) in
        record { state = step.state; acts = each_append (OfAct (S rest.0.table) U) acts rest.1 (completing_acts (S rest.0.table) w.due w.confirms p.g (opens p w at)) step.acts }
    completed_now p w at false = tt

    on_completed : (g : ℕ) (o : Option Command) → m.command ≡ o → Taken (completed g m o)
    on_completed g None at = tt
    on_completed g (Some (asked c first who wanted)) at = tt
    on_completed g (Some (gone p w)) at = completed_now p w at ((p.g == g) && not w.complete)
    on_completed g (Some (recovering id terminal second)) at = tt

    there_now : (id : ℕ) (second : Option Node) (is : Bool) → Taken (recovered_there m id second is)
    there_now id second true = waits_step m (recovering id false second) (still_recovering m id false second good)
    there_now id second false = tt

    second_now : (id : ℕ) (terminal is : Bool) → Taken (recovered_second m id terminal is)
    second_now id terminal true = waits_step m (recovering id terminal None) (still_recovering m id terminal None good)
    second_now id terminal false = tt

    at_now : (x : Node) (id : ℕ) (terminal : Bool) (second : Option Node) (same : Bool) → Taken (recovered_at x m id terminal second same)
    at_now T id terminal second same = there_now id second (terminal && same)
    at_now A id terminal second same = second_now id terminal (is_at A second && same)
    at_now B id terminal second same = second_now id terminal (is_at B second && same)
    at_now M id terminal second same = tt

    on_recovered : (from : Node) (id : ℕ) (o : Option Command) → Taken (recovered from id m o)
    on_recovered from id None = tt
    on_recovered from id (Some (asked c first who wanted)) = tt
    on_recovered from id (Some (gone plan going)) = tt
    on_recovered from id (Some (recovering i terminal second)) = at_now from i terminal second (i == id)

    adopted_now : (k : RecKind) (id : ℕ) (x : Node) (p : Plan) (w : Going) → m.command ≡ Some (gone p w) → (is : Bool) → Taken (adopted_if k m id x p w is)
    adopted_now k id x p w at true =
        let v : Going = record w { moving = filter (λ y. not (is_moving id x y)) w.moving } in waits_step m (gone p v) (still_gone m p w v at good)
    adopted_now k id x p w at false = tt

    on_moved : (from : Node) (g id : ℕ) (o : Option Command) → m.command ≡ o → Taken (moved from g id m o)
    on_moved from g id None at = tt
    on_moved from g id (Some (asked c first who wanted)) at = tt
    on_moved from g id (Some (gone p w)) at = adopted_now _ id from p w at ((p.g == g) && list_any (is_moving id from) w.moving)
    on_moved from g id (Some (recovering i terminal second)) at = tt

    on_adopted : (id : ℕ) (o : Option Command) → m.command ≡ o → Step (adopted_here id m o)
    on_adopted id None at = stays m [] tt good
    on_adopted id (Some (asked c first who wanted)) at = stays m [] tt good
    on_adopted id (Some (gone p w)) at =
        let v : Going = record w { moving = filter (λ y. not (is_moving id M y)) w.moving } in waits_step m (gone p v) (still_gone m p w v at good)
    on_adopted id (Some (recovering i terminal second)) at = stays m [] tt good

    -- the master's own anchor adopted a bearer
    pub adopted_step : (id : ℕ) → Step (master_adopted m id)
    adopted_step id = on_adopted id m.command refl

    on_passed : (s : StatusTransfer) (from : Node) (o : Option (ℕ × Node)) → Taken (passed_to m s from o)
    on_passed s from None = tt
    on_passed s from (Some (id, M)) = stays m _ (tt, tt) good
    on_passed s from (Some (id, A)) = either Taken (is_same_node from A) _ (Ok (m, send A (rec.Snst s) ∷ [])) tt (stays m (send A (rec.Snst s) ∷ []) ((refl, refl), tt) good)
    on_passed s from (Some (id, B)) = either Taken (is_same_node from B) _ (Ok (m, send B (rec.Snst s) ∷ [])) tt (stays m (send B (rec.Snst s) ∷ []) ((refl, refl), tt) good)
    on_passed s from (Some (id, T)) = tt

    on_transferred : (from : Node) (s : StatusTransfer) (o : Option Command) → Taken (transferred from s m o)
    on_transferred from s None = tt
    on_transferred from s (Some (asked c first who wanted)) = tt
    on_transferred from s (Some (gone p w)) = on_passed s from (if p.g == s.g then find (λ (x : ℕ × Node). x.0 == s.id) w.moving else None)
    on_transferred from s (Some (recovering i terminal second)) = tt

    -- ---- requests

    -- a request is not refused where its node is the secondary
    asker_there : (from : Node) → asking_refusal from m ≡ None → is_some m.table.sec ≡ true
    asker_there from none = there m.table.sec refl
      where
        there : (o : Option Node) → m.table.sec ≡ o → is_some o ≡ true
        there None is = absurd (let n = rw is at none in cc)
        there (Some x) is = refl

    asked_step : (from : Node) (what : Want) (e : Event) (refuse : Word → Rec) → ((w : Word) → IsFree (send from (refuse w))) → (o : Option Word) → (o ≡ None → D m.table e) → Step (begins_asked m from what e refuse o)
    asked_step from what e refuse free (Some why) may = stays m (send from (refuse why) ∷ []) (free why, tt) good
    asked_step from what e refuse free None may =
        after_free (say (note.Begin what) ∷ []) (begins_if m true (draft m.table e)) (tt, tt) (begins_if_step m e true good (may refl) (draft m.table e) refl)

    on_wanted : (from : Node) (w : Want) → Step (wanted_by from w m)
    on_wanted from want.Rekey = asked_step from want.Rekey event.RekeySecond (λ w. rec.Modref w) (λ w. (refl, refl)) (asking_refusal from m) (λ none. may_rekey m.table)
    on_wanted from want.Change = asked_step from want.Change event.Change (λ w. rec.Chgref w) (λ w. (refl, refl)) (asking_refusal from m) (λ none. may_change m.table (asker_there from none))
    on_wanted from want.Release = let n = with_waits true from m in tried_step (tries from n) (tried from n (waits_good m true from good))

    -- ---- all records

    second_taken : (x : Node) (r : Rec) → Taken (from_second x m r)
    second_taken x (rec.Addack g) = on_agreed _ addition x g m.command refl
    second_taken x (rec.Modack g) = on_agreed _ modification x g m.command refl
    second_taken x (rec.Relack g) = on_released (agreed _ release x g m m.command) (on_agreed _ release x g m.command refl)
    second_taken x (rec.Addrej g) = on_rejected _ addition x g m.command
    second_taken x (rec.Modrej g) = on_rejected _ modification x g m.command
    second_taken x (rec.Relrej g) = on_rejected _ release x g m.command
    second_taken x (rec.Snst status) = on_transferred x status m.command
    second_taken x (rec.Moved g id) = on_moved x g id m.command refl
    second_taken x (rec.Recovd id) = on_recovered x id m.command
    second_taken x rec.Modrqd = on_wanted x want.Rekey
    second_taken x rec.Chgrqd = on_wanted x want.Change
    second_taken x rec.Relrqd = on_wanted x want.Release
    second_taken x (rec.Reconf plan key) = tt
    second_taken x (rec.Rcomp g) = tt
    second_taken x (rec.Scgf failed) = tt
    second_taken x (rec.Recov id) = tt
    second_taken x (rec.Addreq plan key) = tt
    second_taken x (rec.Modreq plan key) = tt
    second_taken x (rec.Recfg g) = tt
    second_taken x (rec.Relreq plan) = tt
    second_taken x (rec.Uecr g) = tt
    second_taken x (rec.Scgn id g) = tt
    second_taken x (rec.Modcnf g) = tt
    second_taken x (rec.Modref word) = tt
    second_taken x (rec.Chgcnf plan) = tt
    second_taken x (rec.Chgref word) = tt
    second_taken x (rec.Relcnf plan) = tt

    terminal_taken : (r : Rec) → Taken (from_terminal m r)
    terminal_taken (rec.Rcomp g) = on_completed g m.command refl
    terminal_taken (rec.Scgf failed) = stays m (failed_legs m failed).1 (failed_free m.table failed) good
    terminal_taken (rec.Recovd id) = on_recovered T id m.command
    terminal_taken (rec.Reconf plan key) = tt
    terminal_taken (rec.Recov id) = tt
    terminal_taken (rec.Addreq plan key) = tt
    terminal_taken (rec.Addack g) = tt
    terminal_taken (rec.Addrej g) = tt
    terminal_taken (rec.Modreq plan key) = tt
    terminal_taken (rec.Modack g) = tt
    terminal_taken (rec.Modrej g) = tt
    terminal_taken (rec.Recfg g) = tt
    terminal_taken (rec.Relreq plan) = tt
    terminal_taken (rec.Relack g) = tt
    terminal_taken (rec.Relrej g) = tt
    terminal_taken (rec.Uecr g) = tt
    terminal_taken (rec.Snst status) = tt
    terminal_taken (rec.Moved g id) = tt
    terminal_taken (rec.Scgn id g) = tt
    terminal_taken rec.Modrqd = tt
    terminal_taken (rec.Modcnf g) = tt
    terminal_taken (rec.Modref word) = tt
    terminal_taken rec.Chgrqd = tt
    terminal_taken (rec.Chgcnf plan) = tt
    terminal_taken (rec.Chgref word) = tt
    terminal_taken rec.Relrqd = tt
    terminal_taken (rec.Relcnf plan) = tt

    -- whatever record comes from whichever node
    pub taken_step : (from : Node) (r : Rec) → Taken (master_take from m r)
    taken_step T r = terminal_taken r
    taken_step A r = second_taken A r
    taken_step B r = second_taken B r
    taken_step M r = tt

    -- ---- commands

    recovers_step : (id : ℕ) (x : Node) → Step (recovers_at m id x)
    recovers_step id M = stays (record m { command = Some (recovering id true None) }) (send T (rec.Recov id) ∷ recover_one id ∷ []) ((refl, refl), (tt, tt)) (still_recovering m id true None good)
    recovers_step id A = stays (record m { command = Some (recovering id true (Some A)) }) (send T (rec.Recov id) ∷ send A (rec.Recov id) ∷ []) ((refl, refl), ((refl, refl), tt)) (still_recovering m id true (Some A) good)
    recovers_step id B = stays (record m { command = Some (recovering id true (Some B)) }) (send T (rec.Recov id) ∷ send B (rec.Recov id) ∷ []) ((refl, refl), ((refl, refl), tt)) (still_recovering m id true (Some B) good)
    recovers_step id T = stays m [] tt good

    row_step : (id : ℕ) (o : Option Row) → Step (recovers_row m id o)
    row_step id None = stays m [] tt good
    row_step id (Some r) = recovers_step id r.anchor

    by_step : (e : Event) → D m.table e → (o : Option ℕ) → Step (command_by m e o)
    by_step e may None = begins_if_step m e false good may (draft m.table e) refl
    by_step e may (Some id) = row_step id (row m.table id)

    -- a command that is not refused
    pub commands_step : (e : Event) → D m.table e → Step (commands m e)
    commands_step e may = by_step e may (recovered_by e)
