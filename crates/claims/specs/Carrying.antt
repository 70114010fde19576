-- How a command is drawn, and its plan carried out.
use Rattle.std.specs.List.{list_any}
use Rattle.std.specs.Prelude.{Bool, List, None, Option, Some, [], false, filter, fold, if◌then◌else◌, length, map, nat_lt, not, slice_index, slice_set, true, ℕ, ◌&&◌, ◌++◌, ◌+◌, ◌==◌, ◌∷◌}
use Rattle.dc_base.specs.declared.events.Event.{Event}
use Rattle.dc_base.specs.declared.nodes.Node.{Node}
use Rattle.dc_base.specs.declared.nodes.Node.TheVariants.{M}
use Rattle.dc_base.specs.declared.records.Item.{Item}
use Rattle.dc_base.specs.declared.records.Item.TheVariants.{Set, Unset}
use Rattle.dc_base.specs.declared.records.Plan.{Plan}
use Rattle.claims.specs.Table.{Command, Row, Table, change, is_change, row}
use Rattle.claims.specs.Past.{Bearer, Calm, Past, lossless, lossy, new_bearer, recovered, untouched}
use Rattle.claims.specs.Reading.{bearer_of, changed, holds_any, named, plan, sets}
use Rattle.claims.specs.Drafts.{Draft, draft}

-- ---- drawing

-- one more counter of this root
abbrev pub with_counter : List ℕ → ℕ → List ℕ
with_counter counters root = slice_set counters root (slice_index counters root + 1)

-- the counters, where a new root has none yet
abbrev pub counters_with : List ℕ → List (List ℕ) → List ℕ
counters_with counters named = counters ++ map (λ r. 0) named

-- the plan of a draft, with the next generation
abbrev pub plan_of : Table → Draft → Plan
plan_of t d = record { g = t.last + 1; sec = d.sec; items = d.items }

-- the command of a draft
abbrev pub command_for : Table → Event → Option Node → Draft → Command
command_for t e asker d = record {
  kind = change (t.last + 1);
  event = e;
  asker = asker;
  target = d.target;
  root = d.root;
  second_key = d.second_key;
  is_carried = false;
  is_lost = false;
}

-- the table once it is open: generation, counter and root are drawn
abbrev pub with_command : Table → Event → Option Node → Draft → Table
with_command t e asker d =
    let counters = counters_with t.counters d.named in
    record t {
      last = t.last + 1;
      roots = t.roots ++ d.named;
      counters = if d.is_new then with_counter counters d.root else counters;
      command = Some (command_for t e asker d);
    }

-- a plan that sets the bearer came
abbrev pub planned_for : Bool → Calm → Calm
planned_for is_set untouched = if is_set then lossless else untouched
planned_for is_set recovered = lossless
planned_for is_set lossless = lossless
planned_for is_set lossy = lossy

-- the bearer, once a plan with these items was drawn
abbrev pub with_plan_drawn : List Item → Bearer → Bearer
with_plan_drawn items b = record b { calm = planned_for (list_any (sets b.id) items) b.calm }

-- a bearer that an item establishes, and the earlier ones
abbrev pub with_new : ℕ → List Bearer → Item → List Bearer
with_new g bs (Set id n first shape threshold policy key None) = new_bearer g id n first ∷ bs
with_new g bs (Set id n first shape threshold policy key (Some old)) = bs
with_new g bs (Unset id) = bs

-- a command is drawn: it is open
abbrev pub with_draft : Past → Event → Option Node → Option Draft → Past
with_draft p e asker None = p
with_draft p e asker (Some d) = record p {
  plans = plan_of p.table d ∷ p.plans;
  bearers = fold (with_new (p.table.last + 1)) (map (with_plan_drawn d.items) p.bearers) d.items;
  table = with_command p.table e asker d;
}

-- an event draws its command, for a secondary that asked or for none
abbrev pub drawn_by : Event → Option Node → Past → Past
drawn_by e asker p = with_draft p e asker (draft p.table e)

-- ---- carrying out

-- a row in its place by ascending identity, in place of the one that was there
abbrev pub with_row : Row → List Row → List Row
with_row r [] = r ∷ []
with_row r (x ∷ xs) = if x.id == r.id then r ∷ xs else if nat_lt r.id x.id then r ∷ x ∷ xs else x ∷ with_row r xs

-- the establishment that a row names: this generation, where there was no anchor
abbrev pub bearer_in_row : ℕ → Option Node → Option Row → ℕ
bearer_in_row g None r = g
bearer_in_row g (Some old) None = g
bearer_in_row g (Some old) (Some r) = r.bearer

-- the table with an item carried out
abbrev pub with_item : ℕ → Table → Item → Table
with_item g t (Set id n first shape threshold policy key old) =
    let b = bearer_in_row g old (row t id) in
    record t {
      rows = with_row (record { id = id; bearer = b; n = n; first = first; shape = shape; threshold = threshold; policy = policy; key = key }) t.rows;
      uses = record { id = id; key = key; bearer = b } ∷ t.uses;
    }
with_item g t (Unset id) = record t { rows = filter (λ r. not (r.id == id)) t.rows }

-- in a new generation nothing was lost yet
abbrev pub renewed : Calm → Calm
renewed untouched = untouched
renewed recovered = recovered
renewed lossless = lossless
renewed lossy = lossless

-- what a carried-out plan is for a bearer that it sets
abbrev pub with_set : ℕ → Bearer → Bearer
with_set g b = record b { carried = g; before = length b.down.submitted; calm = renewed b.calm }

-- the bearer without its anchor at a node that dropped it
abbrev pub dropped_at : Node → Bearer → Bearer
dropped_at x b = if holds_any x b.holder then record b { holder = None } else b

-- and for one that it drops
abbrev pub gone_at_master : Bearer → Bearer
gone_at_master b = record (dropped_at M b) { is_gone = true }

-- the bearers with an item carried out at the master
abbrev pub on_item : Past → ℕ → List Bearer → Item → List Bearer
on_item p g bs (Set id n first shape threshold policy key old) = changed (with_set g) bs (bearer_of p id g)
on_item p g bs (Unset id) = map (λ (b : Bearer). if (b.id == id) && nat_lt b.g g then gone_at_master b else b) bs

-- a plan is carried out: the first `reconf` of the open command does it
abbrev pub carry_plan : Past → ℕ → Command → Option Plan → Past
carry_plan p g c None = p
carry_plan p g c (Some q) = record p {
  bearers = fold (on_item p g) p.bearers q.items;
  table = record (fold (with_item g) p.table q.items) { sec = q.sec; root = c.root; second_key = c.second_key; command = Some (record c { is_carried = true }) };
}

-- if it is the command's, and was not carried out yet
abbrev pub carry_if : Past → ℕ → Command → Bool → Past
carry_if p g c false = p
carry_if p g c true = carry_plan p g c (plan p g)

-- with the command that is open
abbrev pub carry_with : Past → ℕ → Option Command → Past
carry_with p g None = p
carry_with p g (Some c) = carry_if p g c (is_change g c.kind && not c.is_carried)

-- the plan of a generation is carried out at the master
abbrev pub carry : ℕ → Past → Past
carry g p = carry_with p g p.table.command
