-- Whatever command the master takes: it is a turn.
use Rattle.std.proofs.Common.{ℕ, ◌≡◌, ◌+◌, ◌==◌, ◌++◌, ◌∙◌, Bool, true, false, List, [], ◌∷◌, Option, Some, None, refl, sym, ap, subst, inl, inr}
use Rattle.std.specs.List.{AllByRecursion, filter, find}
use Rattle.dc_base.specs.Records.{item_id}
use Rattle.std.specs.Prelude.{if◌then◌else◌, is_none, is_some, length, map, not, ⊤, ◌&&◌, ◌⊎◌}
use Rattle.std.proofs.lemmas.Option.{same_Some}
use Rattle.dc_base.specs.Nodes.{is_mm, is_same_node, is_secondary}
use Rattle.dc_base.specs.declared.answers.Refusal.{Refusal}
use Rattle.dc_base.specs.declared.answers.Refusal.TheVariants as refusal
use Rattle.dc_base.specs.declared.events.Event.{Event}
use Rattle.dc_base.specs.declared.events.Event.TheVariants as event
use Rattle.dc_base.specs.declared.nodes.Node.{Node}
use Rattle.dc_base.specs.declared.nodes.Node.TheVariants.{A, B, M, T}
use Rattle.dc_base.specs.declared.nodes.Shape.{Shape}
use Rattle.dc_base.specs.declared.numbers.SnLen.{SnLen}
use Rattle.dc_base.specs.declared.records.Item.{Item}
use Rattle.dc_base.specs.declared.records.Item.TheVariants as item
use Rattle.dc_base.specs.declared.records.Plan.{Plan}
use Rattle.dc_base.specs.declared.records.Rec.TheVariants as rec
use Rattle.node_rules.specs.Acts.{first_refusal}
use Rattle.node_rules.specs.CommandTable.{Table, row, second_key_of}
use Rattle.node_rules.specs.Drafts.{Draft, asking, asking_for, draft, key_for, next_second_key, same_keys, set_to, shape_of, shared_rows, with_next_key, with_root, without_key}
use Rattle.node_rules.specs.MasterCommands.{command_refusals, commands, commands_unless, is_alone, master_command, recovers_at, recovers_row}
use Rattle.node_rules.specs.MasterGo.{begins_if}
use Rattle.node_rules.specs.MasterState.{MasterActs, MasterProc, has_bearer, is_unsettled}
use Rattle.node_rules.specs.Places.{is_at, mm}
use Rattle.node_rules.specs.declared.acts.Act.{Act}
use Rattle.node_rules.specs.declared.acts.Act.TheVariants.{RecoverOne as recover_one, Send as send}
use Rattle.node_rules.specs.declared.commands.Command.{Command}
use Rattle.node_rules.specs.declared.commands.Command.TheVariants.{Asked as asked, Gone as gone, Recovering as recovering}
use Rattle.node_rules.specs.declared.commands.First.{First}
use Rattle.node_rules.specs.declared.commands.First.TheVariants.{Addition as addition, Modification as modification, Release as release}
use Rattle.node_rules.specs.declared.commands.Row.{Row}
use Rattle.run_control.specs.Sound.{AddsSecond, IsSecond}
use Rattle.run_control.proofs.Turns.{never}
use Rattle.run_pairs.specs.Apt.{IsApt, IsPlaced, IsPlacedRow}
use Rattle.run_pairs.proofs.DraftBearers.{draft_of_table}
use Rattle.run_pairs.proofs.Replies.{same_node}
use Rattle.run_places.proofs.Begins.{IsDraftFor, IsReleaseAlone, Turned, asked_in, rows_planned, still}
use Rattle.run_places.proofs.Plans.{found_here}
use Rattle.run_places.proofs.States.{IsMinor, IsPlanFor, State, Turn, course_of, is_drop, is_new, item_in, minor, row_in, settled, state_of}
use Rattle.run_places.proofs.Taking.{TakesTurned, asking_lone, asking_second, change_turned, none_open, plan_begins, rekey_turned}

-- the rows have their anchors at nodes of the network
abbrev pub AreKnown : List Row → Type 0
AreKnown rows = (k : ℕ) (r : Row) → row_in k rows ≡ Some r → is_same_node T r.anchor ≡ false

-- one item
one_found : (i : Item) (k : ℕ) (j : Item) → find (λ z. item_id z == k) (i ∷ []) ≡ Some j → j ≡ i
one_found i k j found = by (item_id i == k) found
  where
    by : (b : Bool) → (if b then Some i else None) ≡ Some j → j ≡ i
    by true is = sym (same_Some i j is)
    by false is = absurd cc

free_first : (b : Bool) (why : Refusal) (rest : Option Refusal) → (if b then Some why else rest) ≡ None → b ≡ false
free_first true why rest is = absurd cc
free_first false why rest is = refl

rest_of : (b : Bool) (why : Refusal) (rest : Option Refusal) → (if b then Some why else rest) ≡ None → rest ≡ None
rest_of true why rest is = absurd cc
rest_of false why rest is = is

module _ (b : Bool) (m : MasterProc) (apt : IsApt m) (known : AreKnown m.table.rows) where
  asking_for_second : (s : Shape) → IsSecond (asked_in (asking_for s m.table.sec))
  asking_for_second s = by (is_mm s)
    where
      by : (d : Bool) → IsSecond (asked_in (if d then None else asking modification m.table.sec))
      by true = tt
      by false = asking_second b m apt modification m.table.sec apt.second

  asking_for_lone : (d : Draft) (s : Shape) → IsReleaseAlone d (asking_for s m.table.sec)
  asking_for_lone d s = by (is_mm s)
    where
      no_release : {X : Type 0} → modification ≡ release → X
      no_release e = absurd cc

      by : (c : Bool) → IsReleaseAlone d (if c then None else asking modification m.table.sec)
      by true = tt
      by false = asking_lone b m apt modification d m.table.sec (λ e. no_release e)

  -- ---- a new bearer

  no_row : (id : ℕ) → m.command ≡ None → has_bearer m id ≡ false → row m.table id ≡ None
  no_row id none is = by (row m.table id) (sym (ap (λ o. is_some (row m.table id) && not (is_unsettled id o)) none) ∙ is)
    where
      by : (o : Option Row) → (is_some o && true) ≡ false → o ≡ None
      by None so = refl
      by (Some r) so = absurd cc

  bearer_planned : (id : ℕ) (n : SnLen) (first : ℕ) (shape : Shape) (threshold policy : ℕ) → m.command ≡ None → has_bearer m id ≡ false
      → (let t = m.table in IsPlanFor t.rows (same_keys t t.sec (item.Set id n first shape threshold policy (key_for shape t.book.current t.second_key) None ∷ [])).plan (asked_in (asking_for shape t.sec)))
  bearer_planned id n first shape threshold policy none free = record {
    second = apt.second;
    asked_second = asking_for_second shape;
    items = draft_of_table m.table (event.Bearer id n first shape threshold policy) apt.up;
    new = λ k i found new. subst (λ j. row_in j m.table.rows ≡ None) (ap item_id (sym (one_found it k i found)) ∙ found_here (it ∷ []) k i found) (no_row id none free);
    drops = λ k i r found drop there. absurd (never (is_drop i) drop (ap is_drop (one_found it k i found)));
  }
    where
      it : Item
      it = item.Set id n first shape threshold policy (key_for shape m.table.book.current m.table.second_key) None

  -- ---- a bearer that is dropped

  -- its anchor is at the master, or at the node that is asked
  asked_of : (r : Row) (sec : Option Node) → IsPlaced sec r.anchor → is_same_node T r.anchor ≡ false → (r.anchor ≡ M) ⊎ (asked_in (asking modification sec) ≡ Some r.anchor)
  asked_of r sec placed off = by sec r.anchor placed off
    where
      by : (o : Option Node) (x : Node) → IsPlaced o x → is_same_node T x ≡ false → (x ≡ M) ⊎ (asked_in (asking modification o) ≡ Some x)
      by o T is no' = absurd cc
      by o M is no' = inl refl
      by None A is no' = absurd cc
      by None B is no' = absurd cc
      by (Some y) A is no' = inr (ap (λ z. Some z) (sym (same_node A y is)))
      by (Some y) B is no' = inr (ap (λ z. Some z) (sym (same_node B y is)))

  dropped_at : (id : ℕ) (r : Row) → row m.table id ≡ Some r → (r.anchor ≡ M) ⊎ (asked_in (asking_for (shape_of (row m.table id)) m.table.sec) ≡ Some r.anchor)
  dropped_at id r there = by (is_mm r.shape) refl
    where
      placed : IsPlacedRow m.table.sec (Some r)
      placed = subst (IsPlacedRow m.table.sec) there (apt.rows id)

      by : (d : Bool) → is_mm r.shape ≡ d → (r.anchor ≡ M) ⊎ (asked_in (asking_for (shape_of (row m.table id)) m.table.sec) ≡ Some r.anchor)
      by true alone = inl (placed.1 alone)
      by false joint =
          let same : asking_for (shape_of (row m.table id)) m.table.sec ≡ asking modification m.table.sec =
          ap (λ o. asking_for (shape_of o) m.table.sec) there ∙ ap (λ d. if d then None else asking modification m.table.sec) joint in
          subst (λ f. (r.anchor ≡ M) ⊎ (asked_in f ≡ Some r.anchor)) (sym same) (asked_of r m.table.sec placed.0 (known id r there))

  drop_planned : (id : ℕ) → (let t = m.table in IsPlanFor t.rows (same_keys t t.sec (item.Unset id ∷ [])).plan (asked_in (asking_for (shape_of (row t id)) t.sec)))
  drop_planned id = record {
    second = apt.second;
    asked_second = asking_for_second (shape_of (row m.table id));
    items = draft_of_table m.table (event.Remove id) apt.up;
    new = λ k i found new. absurd (never (is_new i) new (ap is_new (one_found (item.Unset id) k i found)));
    drops = λ k i r found drop there.
        dropped_at id r (ap (λ j. row_in j m.table.rows) (ap item_id (sym (one_found (item.Unset id) k i found)) ∙ found_here (item.Unset id ∷ []) k i found) ∙ there);
  }

  -- ---- any command

  unless_turned : (e : Event) (o : Option Refusal) → (o ≡ None → Turned (state_of b m) (commands m e)) → TakesTurned (state_of b m) (commands_unless m e o)
  unless_turned e None so = so refl
  unless_turned e (Some why) so = tt

  -- a command that is refused first of all where one is open
  open_first : (e : Event) (rest : Option Refusal) → (m.command ≡ None → rest ≡ None → Turned (state_of b m) (commands m e)) → TakesTurned (state_of b m) (commands_unless m e (if is_some m.command then Some refusal.Busy else rest))
  open_first e rest so =
      unless_turned e (if is_some m.command then Some refusal.Busy else rest) (λ is. so (none_open b m apt m.command (free_first (is_some m.command) refusal.Busy rest is)) (rest_of (is_some m.command) refusal.Busy rest is))

  no_release : {X : Type 0} → modification ≡ release → X
  no_release e = absurd cc

  no_addition : {X : Type 0} → addition ≡ release → X
  no_addition e = absurd cc

  recovers_turned : (id : ℕ) (o : Option Row) → m.command ≡ None → Turned (state_of b m) (recovers_row m id o)
  recovers_turned id None none = still b m [] tt
  recovers_turned id (Some r) none = by r.anchor
    where
      same : settled ≡ course_of b m.command
      same = ap (course_of b) (sym none)

      told : (second : Option Node) (acts : List Act) → AllByRecursion IsMinor acts → Turned (state_of b m) (record m { command = Some (recovering id true second) }, acts)
      told second acts all = record { agreed = b; turn = subst (λ c. Turn (state_of b m) acts (record (state_of b m) { course = c })) (sym same) (minor (state_of b m) acts all); flag = tt }

      by : (x : Node) → Turned (state_of b m) (recovers_at m id x)
      by M = told None (send T (rec.Recov id) ∷ recover_one id ∷ []) (tt, (tt, tt))
      by A = told (Some A) (send T (rec.Recov id) ∷ send A (rec.Recov id) ∷ []) (tt, (tt, tt))
      by B = told (Some B) (send T (rec.Recov id) ∷ send B (rec.Recov id) ∷ []) (tt, (tt, tt))
      by T = still b m [] tt

  pub command_turned : (policies : ℕ) (e : Event) → AddsSecond e → TakesTurned (state_of b m) (master_command policies m e)
  command_turned policies (event.Bearer id n first shape threshold policy) adds =
      let t = m.table in
      let d = without_key t (same_keys t t.sec (item.Set id n first shape threshold policy (key_for shape t.book.current t.second_key) None ∷ [])) (asking_for shape t.sec) in
      open_first (event.Bearer id n first shape threshold policy) _
      (λ none rest. plan_begins b m apt false d none (record { plan = bearer_planned id n first shape threshold policy none (free_first (has_bearer m id) refusal.BearerThere _ rest); fresh = refl }) (asking_for_lone d shape))
  command_turned policies (event.Reshape id shape) adds =
      let t = m.table in
      let rows = filter (λ (r : Row). r.id == id) t.rows in
      let d = without_key t (same_keys t t.sec (map (set_to t.book.current t.second_key (λ r. shape)) rows)) (asking modification t.sec) in
      open_first (event.Reshape id shape) _
      (λ none rest. plan_begins b m apt false d none
      (record { plan = rows_planned t.book.current t.second_key (λ r. shape) rows t.rows (t.last + 1) t.sec (asked_in (asking modification t.sec)) apt.second (asking_second b m apt modification t.sec apt.second) (draft_of_table t (event.Reshape id shape) apt.up); fresh = refl })
      (asking_lone b m apt modification d t.sec (λ e. no_release e)))
  command_turned policies (event.Remove id) adds =
      let t = m.table in
      let d = without_key t (same_keys t t.sec (item.Unset id ∷ [])) (asking_for (shape_of (row t id)) t.sec) in
      open_first (event.Remove id) _ (λ none rest. plan_begins b m apt false d none (record { plan = drop_planned id; fresh = refl }) (asking_for_lone d (shape_of (row t id))))
  command_turned policies (event.Add node) adds =
      let t = m.table in
      let d = with_next_key t (Some node) [] addition in
      open_first (event.Add node) _
      (λ none rest. plan_begins b m apt false d none
      (record { plan = rows_planned t.book.current (next_second_key t) (λ r. r.shape) [] t.rows (t.last + 1) (Some node) (Some node) adds adds (draft_of_table t (event.Add node) apt.up); fresh = refl }) (λ e. no_addition e))
  command_turned policies event.Change adds = open_first event.Change _ (λ none rest. change_turned b m apt false none)
  command_turned policies event.Release adds =
      let t = m.table in
      let d = without_key t (same_keys t None (map (set_to t.book.current t.second_key (λ r. mm)) (shared_rows t))) (asking release t.sec) in
      open_first event.Release _
      (λ none rest. plan_begins b m apt false d none
      (record { plan = rows_planned t.book.current t.second_key (λ r. mm) (shared_rows t) t.rows (t.last + 1) None (asked_in (asking release t.sec)) tt (asking_second b m apt release t.sec apt.second) (draft_of_table t event.Release apt.up); fresh = refl })
      (asking_lone b m apt release d t.sec (λ e. refl)))
  command_turned policies event.RekeySecond adds = open_first event.RekeySecond _ (λ none rest. rekey_turned b m apt false none)
  command_turned policies (event.RekeyMaster root) adds =
      let t = m.table in
      let number = length t.book.roots in
      let d = with_root t root in
      open_first (event.RekeyMaster root) _
      (λ none rest. plan_begins b m apt false d none
      (record { plan = rows_planned number (second_key_of number 0) (λ r. r.shape) t.rows t.rows (t.last + 1) t.sec (asked_in (asking modification t.sec)) apt.second (asking_second b m apt modification t.sec apt.second) (draft_of_table t (event.RekeyMaster root) apt.up); fresh = refl })
      (asking_lone b m apt modification d t.sec (λ e. no_release e)))
  command_turned policies (event.Recover id) adds = open_first (event.Recover id) _ (λ none rest. recovers_turned id (row m.table id) none)
  command_turned policies (event.Report node id) adds = still b m [] tt
  command_turned policies (event.Deny node on) adds = still b m [] tt
  command_turned policies (event.Ask node what) adds = still b m [] tt
  command_turned policies event.ScgFail adds = still b m [] tt
  command_turned policies (event.Submit id d payload) adds = still b m [] tt
  command_turned policies (event.Step l i) adds = still b m [] tt
  command_turned policies (event.Lose l i) adds = still b m [] tt
  command_turned policies (event.Again l i) adds = still b m [] tt
