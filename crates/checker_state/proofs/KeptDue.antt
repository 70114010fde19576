-- What is kept of a past is all that the answers to commands, submissions and failures rest on.
use Rattle.std.proofs.Common.{◌≡◌, ◌==◌, ◌&&◌, ℕ, Bool, true, false, [], ◌∷◌, Option, Some, None, nat_le, not, refl, sym, ap, ◌∙◌}
use Rattle.std.specs.List.{list_any}
use Rattle.std.specs.Option.{option_map}
use Rattle.std.specs.Prelude.{if◌then◌else◌, is_none, is_some}
use Rattle.dc_base.specs.declared.answers.Answer.{Answer}
use Rattle.dc_base.specs.declared.answers.Refusal.TheVariants as refusal
use Rattle.dc_base.specs.declared.events.Event.{Event}
use Rattle.dc_base.specs.declared.events.Event.TheVariants as event
use Rattle.dc_base.specs.declared.nodes.Dir.{Dir}
use Rattle.dc_base.specs.declared.nodes.Dir.TheVariants.{Dl, Ul}
use Rattle.dc_base.specs.declared.nodes.Node.{Node}
use Rattle.dc_base.specs.declared.nodes.Node.TheVariants.{T, M, A, B}
use Rattle.dc_base.specs.declared.nodes.Want.{Want}
use Rattle.claims.specs.Causes.{at_master, at_node, at_second, at_terminal, due, first_of_them, has_no_second, has_shape, is_busy, lacks_second, submit_due}
use Rattle.claims.specs.Drafts.{is_spent, spends}
use Rattle.claims.specs.Past.{Bearer, Past}
use Rattle.claims.specs.Reading.{holds_any, latest}
use Rattle.claims.specs.Sameness.{is_some_and, kept_if}
use Rattle.claims.specs.Table.{Table, row}
use Rattle.checker_state.specs.Due.{decided_due, is_of_link, with_policies, without_room}
use Rattle.checker_state.specs.Kept.{kept, kept_bearer, kept_command, kept_table}
use Rattle.checker_state.proofs.KeptBearers.{found_kept}
use Rattle.checker_state.proofs.KeptLines.{draft_kept}
use Rattle.checker_state.proofs.Room.{room_is}

-- ---- who is there

some_kept : {X Y : Type 0} (f : X → Y) (o : Option X) → is_some (option_map f o) ≡ is_some o
some_kept f None = refl
some_kept f (Some x) = refl

none_kept : {X Y : Type 0} (f : X → Y) (o : Option X) → is_none (option_map f o) ≡ is_none o
none_kept f None = refl
none_kept f (Some x) = refl

test_kept : (b c : Bearer) (is : Bool) → kept_if (λ x. is) (Some (kept_bearer b)) ≡ option_map kept_bearer (kept_if (λ x. is) (Some b))
test_kept b c true = refl
test_kept b c false = refl

kept_if_kept : (test : Bearer → Bool) (o : Option Bearer) → ((b : Bearer) → test (kept_bearer b) ≡ test b)
    → kept_if test (option_map kept_bearer o) ≡ option_map kept_bearer (kept_if test o)
kept_if_kept test None same = refl
kept_if_kept test (Some b) same =
    ap (λ (is : Bool). if is then Some (kept_bearer b) else None) (same b) ∙ test_kept b b (test b)

latest_kept : (p : Past) (id : ℕ) → latest (kept p) id ≡ option_map kept_bearer (latest p id)
latest_kept p id = found_kept (λ b. b.id == id) p.bearers (λ b. refl)

at_master_kept : (p : Past) (id : ℕ) → at_master (kept p) id ≡ option_map kept_bearer (at_master p id)
at_master_kept p id =
    ap (λ (o : Option Bearer). kept_if (λ b. b.is_done && not b.is_dropped) o) (latest_kept p id)
    ∙ kept_if_kept (λ b. b.is_done && not b.is_dropped) (latest p id) (λ b. refl)

at_terminal_kept : (p : Past) (id : ℕ) → at_terminal (kept p) id ≡ option_map kept_bearer (at_terminal p id)
at_terminal_kept p id = found_kept (λ b. (b.id == id) && is_some b.terminal) p.bearers (λ b. refl)

at_second_kept : (p : Past) (x : Node) (id : ℕ) → at_second (kept p) x id ≡ option_map kept_bearer (at_second p x id)
at_second_kept p x id =
    ap (λ (o : Option Bearer). kept_if (λ b. holds_any x b.holder) o) (latest_kept p id)
    ∙ kept_if_kept (λ b. holds_any x b.holder) (latest p id) (λ b. refl)

at_node_kept : (p : Past) (x : Node) (id : ℕ) → is_none (at_node (kept p) x id) ≡ is_none (at_node p x id)
at_node_kept p T id = ap is_none (at_terminal_kept p id) ∙ none_kept kept_bearer (at_terminal p id)
at_node_kept p M id = ap is_none (at_master_kept p id) ∙ none_kept kept_bearer (at_master p id)
at_node_kept p A id = ap is_none (at_second_kept p A id) ∙ none_kept kept_bearer (at_second p A id)
at_node_kept p B id = ap is_none (at_second_kept p B id) ∙ none_kept kept_bearer (at_second p B id)

some_at_master : (p : Past) (id : ℕ) → is_some (at_master (kept p) id) ≡ is_some (at_master p id)
some_at_master p id = ap is_some (at_master_kept p id) ∙ some_kept kept_bearer (at_master p id)

none_at_master : (p : Past) (id : ℕ) → is_none (at_master (kept p) id) ≡ is_none (at_master p id)
none_at_master p id = ap is_none (at_master_kept p id) ∙ none_kept kept_bearer (at_master p id)

busy_kept : (p : Past) → is_busy (kept p) ≡ is_busy p
busy_kept p = some_kept kept_command p.table.command

spends_kept : (t : Table) (e : Event) → spends (kept_table t) e ≡ spends t e
spends_kept t e = ap (λ o. is_some_and (λ d. list_any (is_spent t) d.items) o) (draft_kept t e)

submit_kept : (d : Dir) (o : Option Bearer) → without_room (submit_due d (option_map kept_bearer o)) ≡ without_room (submit_due d o)
submit_kept d None = refl
submit_kept d (Some b) = room_is d (kept_bearer b) ∙ sym (room_is d b)

-- ---- rows

-- the row of a new bearer, of another shape, of a release
abbrev bearer_row : Bool → Bool → Bool → Bool → Bool → Answer
bearer_row busy there lacks none spent =
    first_of_them ((busy, refusal.Busy) ∷ (there, refusal.BearerThere) ∷ (lacks, refusal.NoSecondary) ∷ (none, refusal.NoPolicy) ∷ (spent, refusal.IdSpent) ∷ [])

abbrev shape_row : Bool → Bool → Bool → Bool → Bool → Answer
shape_row busy none lacks same spent =
    first_of_them ((busy, refusal.Busy) ∷ (none, refusal.NoBearer) ∷ (lacks, refusal.NoSecondary) ∷ (same, refusal.SameShape) ∷ (spent, refusal.IdSpent) ∷ [])

abbrev release_row : Bool → Bool → Bool → Answer
release_row busy none spent = first_of_them ((busy, refusal.Busy) ∷ (none, refusal.NoSecondary) ∷ (spent, refusal.IdSpent) ∷ [])

pub due_kept : (a : Answer) (p : Past) (e : Event) → is_of_link e ≡ false → decided_due a (kept p) e ≡ decided_due a p e
due_kept a p (event.Bearer id n first shape threshold policy) own =
    let e = event.Bearer id n first shape threshold policy in
    ap (λ (busy : Bool). bearer_row busy (is_some (at_master (kept p) id)) (lacks_second p shape) (nat_le (with_policies a p).policies policy) (spends (kept_table p.table) e)) (busy_kept p)
    ∙ ap (λ (there : Bool). bearer_row (is_busy p) there (lacks_second p shape) (nat_le (with_policies a p).policies policy) (spends (kept_table p.table) e)) (some_at_master p id)
    ∙ ap (bearer_row (is_busy p) (is_some (at_master p id)) (lacks_second p shape) (nat_le (with_policies a p).policies policy)) (spends_kept p.table e)
due_kept a p (event.Reshape id shape) own =
    let e = event.Reshape id shape in
    ap (λ (busy : Bool). shape_row busy (is_none (at_master (kept p) id)) (lacks_second p shape) (has_shape shape (row p.table id)) (spends (kept_table p.table) e)) (busy_kept p)
    ∙ ap (λ (none : Bool). shape_row (is_busy p) none (lacks_second p shape) (has_shape shape (row p.table id)) (spends (kept_table p.table) e)) (none_at_master p id)
    ∙ ap (shape_row (is_busy p) (is_none (at_master p id)) (lacks_second p shape) (has_shape shape (row p.table id))) (spends_kept p.table e)
due_kept a p (event.Remove id) own = rw (busy_kept p, none_at_master p id) refl
due_kept a p (event.Recover id) own = rw (busy_kept p, none_at_master p id) refl
due_kept a p (event.Add x) own = rw (busy_kept p) refl
due_kept a p event.Change own = rw (busy_kept p) refl
due_kept a p event.Release own =
    ap (λ (busy : Bool). release_row busy (has_no_second p) (spends (kept_table p.table) event.Release)) (busy_kept p)
    ∙ ap (release_row (is_busy p) (has_no_second p)) (spends_kept p.table event.Release)
due_kept a p event.RekeySecond own = rw (busy_kept p) refl
due_kept a p (event.RekeyMaster root) own = rw (busy_kept p) refl
due_kept a p (event.Submit id Dl sdu) own =
    ap (λ (o : Option Bearer). without_room (submit_due Dl o)) (at_master_kept p id) ∙ submit_kept Dl (at_master p id)
due_kept a p (event.Submit id Ul sdu) own =
    ap (λ (o : Option Bearer). without_room (submit_due Ul o)) (at_terminal_kept p id) ∙ submit_kept Ul (at_terminal p id)
due_kept a p (event.Report x id) own = rw (at_node_kept p x id) refl
due_kept a p (event.Deny x on) own = refl
due_kept a p (event.Ask T w) own = refl
due_kept a p (event.Ask M w) own = refl
due_kept a p (event.Ask A w) own = refl
due_kept a p (event.Ask B w) own = refl
due_kept a p event.ScgFail own = refl
due_kept a p (event.Step l i) own = absurd cc
due_kept a p (event.Lose l i) own = absurd cc
due_kept a p (event.Again l i) own = absurd cc

-- what a secondary node is due rests on no policy
pub want_due : (a : Answer) (p : Past) (x : Node) (w : Want) → due p (event.Ask x w) ≡ decided_due a p (event.Ask x w)
want_due a p T w = refl
want_due a p M w = refl
want_due a p A w = refl
want_due a p B w = refl
