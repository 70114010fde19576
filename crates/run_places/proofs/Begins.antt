-- The plans that the master's procedures begin, carry out and end, as turns.
use Rattle.std.proofs.Common.{ℕ, ◌≡◌, ◌≤◌, ◌<◌, ◌+◌, ◌==◌, ◌++◌, ◌∙◌, Bool, true, false, List, [], ◌∷◌, Option, Some, None, refl, sym, ap, subst, arith, inl, inr}
use Rattle.std.specs.List.{AllByRecursion, filter, find, list_any}
use Rattle.std.specs.Prelude.{if◌then◌else◌, is_none, is_some, map, not, ⊤, ◌&&◌, ◌||◌, ◌⊎◌}
use Rattle.std.proofs.lemmas.Bool.{eqb-true}
use Rattle.std.proofs.lemmas.Option.{same_Some}
use Rattle.std.specs.Option.{option_map}
use Rattle.dc_base.specs.Nodes.{is_mm, is_same_node, is_secondary}
use Rattle.dc_base.specs.Records.{item_id}
use Rattle.dc_base.specs.declared.events.Event.{Event}
use Rattle.dc_base.specs.declared.events.Event.TheVariants as event
use Rattle.dc_base.specs.declared.events.Note.{Note}
use Rattle.dc_base.specs.declared.events.Note.TheVariants as note
use Rattle.dc_base.specs.declared.nodes.KeyName.{KeyName}
use Rattle.dc_base.specs.declared.nodes.Node.{Node}
use Rattle.dc_base.specs.declared.nodes.Node.TheVariants.{A, B, M, T}
use Rattle.dc_base.specs.declared.nodes.Shape.{Shape}
use Rattle.dc_base.specs.declared.nodes.Want.TheVariants as want
use Rattle.dc_base.specs.declared.records.Item.{Item}
use Rattle.dc_base.specs.declared.records.Item.TheVariants as item
use Rattle.dc_base.specs.declared.records.Plan.{Plan}
use Rattle.dc_base.specs.declared.records.Rec.TheVariants as rec
use Rattle.key_chain.specs.KeyNames.{octets}
use Rattle.node_rules.specs.CommandTable.{master_key_of}
use Rattle.node_rules.specs.Drafts.{Draft, draft, set_to}
use Rattle.node_rules.specs.MasterEnds.{ends, ends_gone, ends_recovering, forgetting, nothing_to_release, releases_if, retries, tried_first, tries, tries_if, tries_now, waits_for}
use Rattle.node_rules.specs.MasterGo.{alone, before_acts, begins, begins_by, drawn, first_record, goes, leave_acts, leave_record, let_go, lets_go, moving_by, preparing, way}
use Rattle.node_rules.specs.MasterState.{MasterActs, MasterProc, waits_at, with_waits}
use Rattle.node_rules.specs.Places.{is_at, mm, other_second}
use Rattle.node_rules.specs.declared.acts.Act.{Act}
use Rattle.node_rules.specs.declared.acts.Act.TheVariants.{Go as go, Prepare as prepare, Say as say, Send as send}
use Rattle.node_rules.specs.declared.commands.Change.{Change}
use Rattle.node_rules.specs.declared.commands.Command.{Command}
use Rattle.node_rules.specs.declared.commands.Command.TheVariants.{Asked as asked, Gone as gone, Recovering as recovering}
use Rattle.node_rules.specs.declared.commands.First.{First}
use Rattle.node_rules.specs.declared.commands.First.TheVariants.{Addition as addition, Modification as modification, Release as release}
use Rattle.node_rules.specs.declared.commands.Going.{Going}
use Rattle.node_rules.specs.declared.commands.Leaving.{Leaving}
use Rattle.node_rules.specs.declared.commands.Leaving.TheVariants.{ByRequest as by_request, ByChangeConfirm as by_change_confirm, ByReleaseConfirm as by_release_confirm}
use Rattle.node_rules.specs.declared.commands.Row.{Row}
use Rattle.node_rules.specs.declared.commands.Way.{Way}
use Rattle.run_control.specs.Sound.{IsSecond}
use Rattle.run_control.proofs.Sent.{either}
use Rattle.run_control.proofs.Turns.{never}
use Rattle.run_pairs.specs.Bearers.{AreApart, IsOfTable}
use Rattle.run_places.proofs.States.{Course, IsLeave, IsMinor, IsPlanFor, State, Turn, carried_out, course_of, draws, goes_on, is_done, is_drop, is_new, item_in, minor, one_then, proposed, row_in, settled, state_of}

-- ---- a turn of the procedures

-- no plan awaits an agreement
abbrev pub IsFree : Course → Type 0
IsFree settled = ⊤
IsFree (proposed p who agreed) = ⊥
IsFree (carried_out p zs) = ⊤

-- a plan that is proposed then, was before; or it is new, and not agreed to
abbrev pub IsFlag : State → Bool → Option Command → Type 0
IsFlag s agreed None = ⊤
IsFlag s agreed (Some (asked c first who wanted)) = (s.course ≡ proposed c.plan (Some who) agreed) ⊎ ((agreed ≡ false) × IsFree s.course × (s.last < c.plan.g))
IsFlag s agreed (Some (gone p going)) = ⊤
IsFlag s agreed (Some (recovering id terminal second)) = ⊤

-- from a state, to that of the procedures then
pub record Turned (s : State) (r : MasterActs) : Type 0 where
  pub agreed : Bool
  pub turn : Turn s r.1 (state_of agreed r.0)
  pub flag : IsFlag s agreed r.0.command

-- with what is said first
pub said_first : (s : State) (acts : List Act) (r : MasterActs) → AllByRecursion IsMinor acts → Turned s r → Turned s (before_acts acts r)
said_first s acts r all is = record { agreed = is.agreed; turn = one_then s s (state_of is.agreed r.0) acts r.1 (minor s acts all) is.turn; flag = is.flag }

-- nothing changes but how the procedures wait
still_flag : (b : Bool) (m : MasterProc) (o : Option Command) → IsFlag (record (state_of b m) { course = course_of b o }) b o
still_flag b m None = tt
still_flag b m (Some (asked c first who wanted)) = inl refl
still_flag b m (Some (gone p going)) = tt
still_flag b m (Some (recovering id terminal second)) = tt

pub still : (b : Bool) (m : MasterProc) (acts : List Act) → AllByRecursion IsMinor acts → Turned (state_of b m) (m, acts)
still b m acts all = record { agreed = b; turn = minor (state_of b m) acts all; flag = still_flag b m m.command }

-- ---- a plan is carried out

leave_minor : (x : Node) (how : Leaving) (p : Plan) → IsLeave x p → IsMinor (send x (leave_record how p))
leave_minor x by_request p is = inr is
leave_minor x by_change_confirm p is = is
leave_minor x by_release_confirm p is = is

-- the node that leaves has no anchor in it
abbrev pub LeavesWell : Option Node → Option Leaving → Plan → Type 0
LeavesWell None told p = ⊤
LeavesWell (Some x) None p = ⊤
LeavesWell (Some x) (Some how) p = IsLeave x p

leaves_minor : (leaving : Option Node) (told : Option Leaving) (p : Plan) → LeavesWell leaving told p → AllByRecursion IsMinor (leave_acts leaving told p)
leaves_minor None told p is = tt
leaves_minor (Some x) None p is = tt
leaves_minor (Some x) (Some how) p is = (leave_minor x how p is, tt)

pub goes_turned : (m : MasterProc) (c : Change) (w : Way) (who : Option Node) (b : Bool) → (who ≡ None) ⊎ (b ≡ true) → LeavesWell w.leaving w.told c.plan
    → Turn (record { rows = m.table.rows; last = m.table.last; course = proposed c.plan who b }) (goes m c w).1 (state_of false (goes m c w).0)
goes_turned m c w who b sure leaves =
    let s : State = record { rows = m.table.rows; last = m.table.last; course = proposed c.plan who b } in
    let s' = state_of false (goes m c w).0 in
    one_then s s s' (send T (rec.Reconf c.plan (octets m.table.book.roots (master_key_of c.root))) ∷ []) (go c.plan ∷ leave_acts w.leaving w.told c.plan) (minor s _ (tt, tt))
    (one_then s s' s' (go c.plan ∷ []) (leave_acts w.leaving w.told c.plan) (goes_on s m.table c.plan who b refl sure) (minor s' _ (leaves_minor w.leaving w.told c.plan leaves)))

-- ---- a draft is begun

-- whom it asks
abbrev pub asked_in : Option (First × Node) → Option Node
asked_in o = option_map (λ (z : First × Node). z.1) o

-- the draft has a plan that may be proposed
pub record IsDraftFor (m : MasterProc) (d : Draft) : Type 0 where
  pub plan : IsPlanFor m.table.rows d.change.plan (asked_in d.first)
  pub fresh : d.change.plan.g ≡ m.table.last + 1

draw_turn : (m : MasterProc) (d : Draft) → course_of false m.command ≡ settled → IsDraftFor m d
    → Turn (state_of false m) (preparing d.change.plan) (record { rows = m.table.rows; last = d.change.plan.g; course = proposed d.change.plan (asked_in d.first) false })
draw_turn m d free is = draws (state_of false m) d.change.plan (asked_in d.first) free is.plan is.fresh

is_free : (c : Course) → c ≡ settled → IsFree c
is_free c at = subst IsFree (sym at) tt

asks_minor : (roots : List (List ℕ)) (first : First) (c : Change) (who : Node) → (first ≡ release → c.plan.sec ≡ None) → IsMinor (send who (first_record roots first c))
asks_minor roots addition c who so = tt
asks_minor roots modification c who so = tt
asks_minor roots release c who so = inl (so refl)

-- a release asks for a plan without a secondary node
abbrev pub IsReleaseAlone : Draft → Option (First × Node) → Type 0
IsReleaseAlone d None = ⊤
IsReleaseAlone d (Some (first, who)) = first ≡ release → d.change.plan.sec ≡ None

pub begins_turned : (m : MasterProc) (d : Draft) (wanted : Bool) → course_of false m.command ≡ settled → IsDraftFor m d → IsReleaseAlone d d.first → Turned (state_of false m) (begins m d wanted)
begins_turned m d wanted free is lone = by d.first refl lone
  where
    s : State
    s = state_of false m

    by : (o : Option (First × Node)) → d.first ≡ o → IsReleaseAlone d o → Turned s (before_acts (preparing d.change.plan) (begins_by (drawn m d) d wanted o))
    by None nobody lone = record {
      agreed = false;
      turn = one_then s (record { rows = m.table.rows; last = d.change.plan.g; course = proposed d.change.plan None false }) (state_of false (goes (drawn m d) d.change alone).0) (preparing d.change.plan) (goes (drawn m d) d.change alone).1
          (subst (λ o. Turn s (preparing d.change.plan) (record { rows = m.table.rows; last = d.change.plan.g; course = proposed d.change.plan (asked_in o) false })) nobody (draw_turn m d free is))
          (goes_turned (drawn m d) d.change alone None false (inl refl) tt);
      flag = tt;
    }
    by (Some (first, who)) asks lone = record {
      agreed = false;
      turn = one_then s (record { rows = m.table.rows; last = d.change.plan.g; course = proposed d.change.plan (Some who) false }) (record { rows = m.table.rows; last = d.change.plan.g; course = proposed d.change.plan (Some who) false }) (preparing d.change.plan)
          (send who (first_record (drawn m d).table.book.roots first d.change) ∷ [])
          (subst (λ o. Turn s (preparing d.change.plan) (record { rows = m.table.rows; last = d.change.plan.g; course = proposed d.change.plan (asked_in o) false })) asks (draw_turn m d free is))
          (minor _ _ (asks_minor (drawn m d).table.book.roots first d.change who lone, tt));
      flag = inr (refl, is_free s.course free, less m.table.last d.change.plan.g is.fresh);
    }
      where
        less : (last g : ℕ) → g ≡ last + 1 → last < g
        less last g e = omega (arith, e)

-- ---- drafts of rows

none_new : (root : ℕ) (key : KeyName) (shape : Row → Shape) (rows : List Row) (k : ℕ) (i : Item) → find (λ j. item_id j == k) (map (set_to root key shape) rows) ≡ Some i → (is_new i ≡ false) × (is_drop i ≡ false)
none_new root key shape [] k i found = absurd cc
none_new root key shape (r ∷ rows) k i found = by (r.id == k) found (λ rest. none_new root key shape rows k i rest)
  where
    by : (b : Bool) → (if b then Some (set_to root key shape r) else find (λ j. item_id j == k) (map (set_to root key shape) rows)) ≡ Some i
        → (find (λ j. item_id j == k) (map (set_to root key shape) rows) ≡ Some i → (is_new i ≡ false) × (is_drop i ≡ false)) → (is_new i ≡ false) × (is_drop i ≡ false)
    by true is more = subst (λ z. (is_new z ≡ false) × (is_drop z ≡ false)) (same_Some (set_to root key shape r) i is) (refl, refl)
    by false is more = more is

-- bearers of the table, set anew
pub rows_planned : (root : ℕ) (key : KeyName) (shape : Row → Shape) (qs rows : List Row) (g : ℕ) (sec who : Option Node) → IsSecond sec → IsSecond who → IsOfTable rows (map (set_to root key shape) qs)
    → IsPlanFor rows (record { g = g; sec = sec; items = map (set_to root key shape) qs }) who
rows_planned root key shape qs rows g sec who second asked_second items = record {
  second = second;
  asked_second = asked_second;
  items = items;
  new = λ k i found new. absurd (never (is_new i) new (none_new root key shape qs k i found).0);
  drops = λ k i r found drop there. absurd (never (is_drop i) drop (none_new root key shape qs k i found).1);
}

-- ---- a release that a node asked for

pub lets_go_turned : (m : MasterProc) (x : Node) (d : Draft) → course_of false m.command ≡ settled → IsPlanFor m.table.rows d.change.plan None → d.change.plan.g ≡ m.table.last + 1 → d.change.plan.sec ≡ None → Turned (state_of false m) (lets_go m x d)
lets_go_turned m x d free plan fresh alone' =
    let s = state_of false m in
    let mid : State = record { rows = m.table.rows; last = d.change.plan.g; course = proposed d.change.plan None false } in
    let last = state_of false (goes (drawn m d) d.change (let_go x)).0 in
    record {
      agreed = false;
      turn = one_then s s last (say (note.Begin want.Release) ∷ []) (preparing d.change.plan ++ (goes (drawn m d) d.change (let_go x)).1) (minor s _ (refl, tt))
          (one_then s mid last (preparing d.change.plan) (goes (drawn m d) d.change (let_go x)).1 (draws s d.change.plan None free plan fresh)
          (goes_turned (drawn m d) d.change (let_go x) None false (inl refl) (ap (is_at x) alone', plan.items.apart)));
      flag = tt;
    }
