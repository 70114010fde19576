-- A command ends, and releases that were asked for are tried: as turns.
use Rattle.std.proofs.Common.{ℕ, ◌≡◌, ◌≤◌, ◌+◌, ◌==◌, ◌++◌, ◌∙◌, Bool, true, false, List, [], ◌∷◌, Option, Some, None, refl, sym, ap, subst, arith, inl, inr}
use Rattle.std.specs.List.{AllByRecursion}
use Rattle.std.specs.Prelude.{map, ⊤, ◌⊎◌}
use Rattle.dc_base.specs.Nodes.{is_secondary}
use Rattle.dc_base.specs.declared.events.Event.TheVariants as event
use Rattle.dc_base.specs.declared.events.Note.{Note}
use Rattle.dc_base.specs.declared.events.Note.TheVariants as note
use Rattle.dc_base.specs.declared.nodes.Node.{Node}
use Rattle.dc_base.specs.declared.nodes.Node.TheVariants.{A, B, M, T}
use Rattle.dc_base.specs.declared.records.Plan.{Plan}
use Rattle.dc_base.specs.declared.records.Rec.TheVariants as rec
use Rattle.node_rules.specs.CommandTable.{Table}
use Rattle.node_rules.specs.Drafts.{Draft, asking, draft, same_keys, set_to, shared_rows, without_key}
use Rattle.node_rules.specs.MasterEnds.{and_then, ends, ends_gone, ends_recovering, forgetting, is_release_spent, nothing_to_release, releases_if, retries, tried_first, tries, tries_if, tries_now, waits_for}
use Rattle.node_rules.specs.MasterGo.{before_acts, lets_go}
use Rattle.node_rules.specs.MasterPlan.{is_rejection}
use Rattle.node_rules.specs.MasterState.{MasterActs, MasterProc, waits_at, with_waits}
use Rattle.node_rules.specs.Places.{is_at, mm, other_second}
use Rattle.node_rules.specs.declared.acts.Act.{Act}
use Rattle.node_rules.specs.declared.acts.Act.TheVariants.{Say as say, Send as send}
use Rattle.node_rules.specs.declared.commands.Command.{Command}
use Rattle.node_rules.specs.declared.commands.Command.TheVariants.{Asked as asked, Gone as gone, Recovering as recovering}
use Rattle.node_rules.specs.declared.commands.First.TheVariants.{Release as release}
use Rattle.node_rules.specs.declared.commands.Going.{Going}
use Rattle.run_control.specs.Books.{RowsFrom}
use Rattle.run_control.proofs.Tables.{plan_ascends}
use Rattle.run_places.proofs.States.{IsPlanFor}
use Rattle.dc_base.specs.Nodes.{is_mm}
use Rattle.std.specs.Prelude.{not}
use Rattle.node_rules.specs.MasterGo.{drawn}
use Rattle.run_control.specs.Sound.{IsSecond}
use Rattle.run_pairs.proofs.DraftBearers.{some_of_table}
use Rattle.run_places.proofs.Begins.{IsFlag, Turned, lets_go_turned, rows_planned}
use Rattle.run_places.proofs.States.{Course, IsMinor, State, Turn, carried_out, course_of, is_done, minor, one_then, settled, state_of}

-- ---- no plan awaits an agreement then

abbrev pub IsFreeCommand : Option Command → Type 0
IsFreeCommand None = ⊤
IsFreeCommand (Some (asked c first who wanted)) = ⊥
IsFreeCommand (Some (gone p going)) = ⊤
IsFreeCommand (Some (recovering id terminal second)) = ⊤

pub record FreeTurned (s : State) (r : MasterActs) : Type 0 where
  pub turn : Turn s r.1 (state_of false r.0)
  pub unasked : IsFreeCommand r.0.command
  pub up : RowsFrom 0 r.0.table.rows

free_flag : (s : State) (o : Option Command) → IsFreeCommand o → IsFlag s false o
free_flag s None is = tt
free_flag s (Some (asked c first who wanted)) is = absurd is
free_flag s (Some (gone p going)) is = tt
free_flag s (Some (recovering id terminal second)) is = tt

pub free_turned : (s : State) (r : MasterActs) → FreeTurned s r → Turned s r
free_turned s r is = record { agreed = false; turn = is.turn; flag = free_flag s r.0.command is.unasked }

pub free_still : (m : MasterProc) (acts : List Act) → AllByRecursion IsMinor acts → IsFreeCommand m.command → RowsFrom 0 m.table.rows → FreeTurned (state_of false m) (m, acts)
free_still m acts all free up = record { turn = minor (state_of false m) acts all; unasked = free; up = up }

-- ---- the release that a node asked for is tried

pub waits_state : (b w : Bool) (x : Node) (m : MasterProc) → state_of b (with_waits w x m) ≡ state_of b m
waits_state b w T m = refl
waits_state b w M m = refl
waits_state b w A m = refl
waits_state b w B m = refl

pub waits_command : (w : Bool) (x : Node) (m : MasterProc) → (with_waits w x m).command ≡ m.command
waits_command w T m = refl
waits_command w M m = refl
waits_command w A m = refl
waits_command w B m = refl

waits_table : (w : Bool) (x : Node) (m : MasterProc) → (with_waits w x m).table ≡ m.table
waits_table w T m = refl
waits_table w M m = refl
waits_table w A m = refl
waits_table w B m = refl

-- the draft of a release
abbrev pub release_draft : Table → Draft
release_draft t = without_key t (same_keys t None (map (set_to t.book.current t.second_key (λ r. mm)) (shared_rows t))) (asking release t.sec)

module _ (m : MasterProc) (up : RowsFrom 0 m.table.rows) (none : m.command ≡ None) where
  free_now : IsFreeCommand m.command
  free_now = subst IsFreeCommand (sym none) tt

  still' : FreeTurned (state_of false m) (m, [])
  still' = free_still m [] tt free_now up

  releases : (x : Node) → FreeTurned (state_of false m) (lets_go (with_waits false x m) x (release_draft m.table))
  releases x =
      let m' = with_waits false x m in
      let table : m'.table ≡ m.table = waits_table false x m in
      let d = release_draft m.table in
      let turned =
      lets_go_turned m' x d (ap (course_of false) (waits_command false x m ∙ none))
      (subst (λ t. IsPlanFor t.rows d.change.plan None) (sym table) (rows_planned m.table.book.current m.table.second_key (λ r. mm) (shared_rows m.table) m.table.rows d.change.plan.g None None tt tt (some_of_table m.table.book.current m.table.second_key (λ r. mm) (λ r. not (is_mm r.shape)) m.table.rows up)))
      (ap (λ (t : Table). t.last + 1) (sym table)) refl in
      record {
        turn = subst (λ s. Turn s (lets_go m' x d).1 (state_of false (lets_go m' x d).0)) (waits_state false false x m) turned.turn;
        unasked = tt;
        up = plan_ascends (drawn m' d).table d.change.plan.g None d.change.plan.items m'.table.rows (subst (λ t. RowsFrom 0 t.rows) (sym table) up);
      }

  tried_now : (x : Node) (there : Bool) → FreeTurned (state_of false m) (tries_now m x there)
  tried_now x false = record {
    turn = subst (λ s. Turn (state_of false m) (send x nothing_to_release ∷ []) s) (sym (waits_state false false x m)) (minor (state_of false m) (send x nothing_to_release ∷ []) ((refl, tt), tt));
    unasked = subst IsFreeCommand (sym (waits_command false x m)) free_now;
    up = subst (λ t. RowsFrom 0 t.rows) (sym (waits_table false x m)) up;
  }
  tried_now x true = by (is_release_spent m.table (draft m.table event.Release))
    where
      by : (spent : Bool) → FreeTurned (state_of false m) (releases_if m x spent (draft m.table event.Release))
      by true = still'
      by false = releases x

pub tried_free : (m : MasterProc) (x : Node) (waits : Bool) (o : Option Command) → RowsFrom 0 m.table.rows → m.command ≡ o → IsFreeCommand o → FreeTurned (state_of false m) (tries_if m x waits o)
tried_free m x false o up at free = free_still m [] tt (subst IsFreeCommand (sym at) free) up
tried_free m x true None up at free = tried_now m up at x (is_at x m.table.sec)
tried_free m x true (Some (asked c first who wanted)) up at free = absurd free
tried_free m x true (Some (gone p going)) up at free = free_still m [] tt (subst IsFreeCommand (sym at) free) up
tried_free m x true (Some (recovering id terminal second)) up at free = free_still m [] tt (subst IsFreeCommand (sym at) free) up

pub tries_turned : (m : MasterProc) (x : Node) → RowsFrom 0 m.table.rows → IsFreeCommand m.command → FreeTurned (state_of false m) (tries x m)
tries_turned m x up free = tried_free m x (waits_at m x) m.command up refl free

free_after : (s : State) (r : MasterActs) (f : MasterProc → MasterActs) → FreeTurned s r → FreeTurned (state_of false r.0) (f r.0) → FreeTurned s (and_then r f)
free_after s r f one two = record { turn = one_then s (state_of false r.0) (state_of false (f r.0).0) r.1 (f r.0).1 one.turn two.turn; unasked = two.unasked; up = two.up }

pub retries_turned : (m : MasterProc) → RowsFrom 0 m.table.rows → IsFreeCommand m.command → FreeTurned (state_of false m) (retries m)
retries_turned m up free =
    let x = tried_first m.table.sec in
    let first = tries_turned m x up free in
    free_after (state_of false m) (tries x m) (tries (other_second x)) first (tries_turned (tries x m).0 (other_second x) first.up first.unasked)

-- ---- a command ends

-- from a state by a turn to that without a command
pub ends_turned : (s : State) (m : MasterProc) (acts : List Act) (how : Note) → RowsFrom 0 m.table.rows → Turn s (acts ++ say how ∷ []) (state_of false (record m { command = None })) → FreeTurned s (ends m acts how)
ends_turned s m acts how up turn =
    let m' = record m { command = None } in
    let rest = retries_turned m' up tt in
    record { turn = one_then s (state_of false m') (state_of false (retries m').0) (acts ++ say how ∷ []) (retries m').1 turn rest.turn; unasked = rest.unasked; up = rest.up }

forget_minor : (x : Option Node) (g : ℕ) → AllByRecursion IsMinor (forgetting x g ++ say note.Done ∷ [])
forget_minor None g = (refl, tt)
forget_minor (Some x) g = (tt, (refl, tt))

-- a plan that was carried out goes on, or is done
gone_turned : (m : MasterProc) (p : Plan) (w : Going) (complete : Bool) (zs : List (ℕ × Node)) → RowsFrom 0 m.table.rows → IsFreeCommand m.command → course_of false m.command ≡ carried_out p zs → FreeTurned (state_of false m) (ends_gone m p w complete zs)
gone_turned m p w false zs up free at = free_still m [] tt free up
gone_turned m p w true (z ∷ zs) up free at = free_still m [] tt free up
gone_turned m p w true [] up free at =
    let s = state_of false m in
    let s' = state_of false (record m { command = None }) in
    ends_turned s m (forgetting w.leaving p.g) note.Done up
    (one_then s s' s' [] (forgetting w.leaving p.g ++ say note.Done ∷ []) (is_done s p at) (minor s' (forgetting w.leaving p.g ++ say note.Done ∷ []) (forget_minor w.leaving p.g)))

pub going_turned : (m : MasterProc) (p : Plan) (w : Going) → RowsFrom 0 m.table.rows → FreeTurned (record { rows = m.table.rows; last = m.table.last; course = carried_out p w.moving }) (waits_for m (gone p w))
going_turned m p w up = gone_turned (record m { command = Some (gone p w) }) p w w.complete w.moving up tt refl

-- a recovery does
recovering_ends : (m : MasterProc) (terminal : Bool) (second : Option Node) → RowsFrom 0 m.table.rows → IsFreeCommand m.command → course_of false m.command ≡ settled → FreeTurned (state_of false m) (ends_recovering m terminal second)
recovering_ends m true second up free at = free_still m [] tt free up
recovering_ends m false (Some x) up free at = free_still m [] tt free up
recovering_ends m false None up free at =
    ends_turned (state_of false m) m [] note.Done up
    (subst (λ c. Turn (state_of false m) (say note.Done ∷ []) (record (state_of false m) { course = c })) at (minor (state_of false m) (say note.Done ∷ []) (refl, tt)))

pub recovering_turned : (m : MasterProc) (id : ℕ) (terminal : Bool) (second : Option Node) → RowsFrom 0 m.table.rows
    → FreeTurned (record { rows = m.table.rows; last = m.table.last; course = settled }) (waits_for m (recovering id terminal second))
recovering_turned m id terminal second up = recovering_ends (record m { command = Some (recovering id terminal second) }) terminal second up tt refl
