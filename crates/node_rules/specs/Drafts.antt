-- What a command would change: its plan, and the node that has to agree first (TS 37.340, 10.2 to 10.5 and 10.7).
use Rattle.std.specs.Prelude.{List, None, Option, Some, [], filter, if◌then◌else◌, length, map, not, option_map, ℕ, ◌+◌, ◌==◌, ◌∷◌}
use Rattle.dc_base.specs.Nodes.{is_mm}
use Rattle.dc_base.specs.declared.events.Event.{Event}
use Rattle.dc_base.specs.declared.events.Event.TheVariants as event
use Rattle.dc_base.specs.declared.nodes.KeyName.{KeyName}
use Rattle.dc_base.specs.declared.nodes.Node.{Node}
use Rattle.dc_base.specs.declared.nodes.Shape.{Shape}
use Rattle.dc_base.specs.declared.records.Item.{Item}
use Rattle.dc_base.specs.declared.records.Item.TheVariants as item
use Rattle.dc_base.specs.declared.records.Plan.{Plan}
use Rattle.nr_u.specs.Frames.{number}
use Rattle.key_chain.specs.Book.{Book, counters_drawn, noting}
use Rattle.node_rules.specs.declared.commands.Change.{Change}
use Rattle.node_rules.specs.declared.commands.Row.{Row}
use Rattle.node_rules.specs.CommandTable.{Table, master_key_of, row, second_key_of, with_counter}
use Rattle.node_rules.specs.Places.{mm, other_second}
use Rattle.node_rules.specs.declared.commands.First.{First}
use Rattle.node_rules.specs.declared.commands.First.TheVariants.{Addition as addition, Modification as modification, Release as release}

-- the change, the book once the command has drawn its root and its SN Counter, and the first record with the node that it
-- goes to; without one the change is carried out at once (this product's own)
pub record Draft : Type 0 where
  pub change : Change
  pub book : Book
  pub first : Option (First × Node)

-- the key of a shape: K_SN where the anchor is at the secondary node, else the master's (TS 33.501, 6.10.2.1)
abbrev pub key_for : Shape → ℕ → KeyName → KeyName
key_for s root second_key = if s.at_second then second_key else master_key_of root

-- the item that sets a bearer of the table to a shape, under the key of that shape (TS 37.340, 10.3; TS 33.501, 6.10.2.1)
abbrev pub set_to : ℕ → KeyName → (Row → Shape) → Row → Item
set_to root second_key shape r =
    item.Set r.id r.n r.first (shape r) r.threshold r.policy (key_for (shape r) root second_key) (Some r.anchor)

-- the plan of the next generation (part of the rule draft)
abbrev pub next_plan : Table → Option Node → List Item → Plan
next_plan t sec items = record { g = t.last + 1; sec = sec; items = items }

-- a change that keeps the root and the K_SN (part of the rule draft)
abbrev pub same_keys : Table → Option Node → List Item → Change
same_keys t sec items = record { plan = next_plan t sec items; root = t.book.current; second_key = t.second_key }

-- the first record, to the node that there may be (part of the rule draft)
abbrev pub asking : First → Option Node → Option (First × Node)
asking f x = option_map (λ y. (f, y)) x

-- the record goes to the secondary node unless only the master has the bearer (TS 37.340, 10.3; TS 38.423, 8.3.3)
abbrev pub asking_for : Shape → Option Node → Option (First × Node)
asking_for s sec = if is_mm s then None else asking modification sec

-- the shape that a bearer has; that of none is the master's (part of the rule draft)
abbrev pub shape_of : Option Row → Shape
shape_of None = mm
shape_of (Some r) = r.shape

-- the bearers that the secondary node has a part in (part of the rule draft)
abbrev pub shared_rows : Table → List Row
shared_rows t = filter (λ r. not (is_mm r.shape)) t.rows

-- those with their anchor at the secondary node (part of the rule draft)
abbrev pub second_rows : Table → List Row
second_rows t = filter (λ r. r.shape.at_second) t.rows

-- the name of the next K_SN of the current root (TS 33.501, 6.10.3.1)
abbrev pub next_second_key : Table → KeyName
next_second_key t = second_key_of t.book.current (counters_drawn t.book t.book.current)

-- bearers of the table under a new K_SN of the current root, at this secondary node, with their shapes as they are
-- (TS 33.501, 6.10.3.1; TS 37.340, 10.2, 10.3 and 10.5)
abbrev pub with_next_key : Table → Option Node → List Row → First → Draft
with_next_key t sec rows f = record {
  change = record {
    plan = next_plan t sec (map (set_to t.book.current (next_second_key t) (λ r. r.shape)) rows);
    root = t.book.current;
    second_key = next_second_key t;
  };
  book = with_counter t.book t.book.current;
  first = asking f sec;
}

-- a command that draws no key (part of the rule draft)
abbrev pub without_key : Table → Change → Option (First × Node) → Draft
without_key t c first = record { change = c; book = t.book; first = first }

-- the book with a new root, and with its first SN Counter drawn where there is a secondary node (TS 33.501, 6.10.3.1)
abbrev pub book_with_root : Table → List ℕ → Option Node → Book
book_with_root t root None = noting t.book root
book_with_root t root (Some x) = with_counter (noting t.book root) (length t.book.roots)

-- every bearer under the keys of a new root: the master's and, at a secondary node, a new K_SN
-- (TS 33.501, 6.10; TS 37.340, 10.3)
abbrev pub with_root : Table → List ℕ → Draft
with_root t root =
    let number = length t.book.roots in record {
      change = record {
        plan = next_plan t t.sec (map (set_to number (second_key_of number 0) (λ r. r.shape)) t.rows);
        root = number;
        second_key = second_key_of number 0;
      };
      book = book_with_root t root t.sec;
      first = asking modification t.sec;
    }

-- the other secondary node, where there is one now (part of the rule draft)
abbrev pub next_second : Option Node → Option Node
next_second None = None
next_second (Some x) = Some (other_second x)

-- the draft of a command; an event that draws no plan has none (TS 37.340, 10.2 to 10.5)
abbrev pub draft : Table → Event → Option Draft
draft t (event.Bearer id n first shape threshold policy) =
    Some (without_key t (same_keys t t.sec (item.Set id n first shape threshold policy (key_for shape t.book.current t.second_key) None ∷ [])) (asking_for shape t.sec))
draft t (event.Reshape id shape) =
    Some (without_key t (same_keys t t.sec (map (set_to t.book.current t.second_key (λ r. shape)) (filter (λ r. r.id == id) t.rows))) (asking modification t.sec))
draft t (event.Remove id) = Some (without_key t (same_keys t t.sec (item.Unset id ∷ [])) (asking_for (shape_of (row t id)) t.sec))
draft t (event.Add node) = Some (with_next_key t (Some node) [] addition)
draft t event.Change = Some (with_next_key t (next_second t.sec) (shared_rows t) addition)
draft t event.Release =
    Some (without_key t (same_keys t None (map (set_to t.book.current t.second_key (λ r. mm)) (shared_rows t))) (asking release t.sec))
draft t event.RekeySecond = Some (with_next_key t t.sec (second_rows t) modification)
draft t (event.RekeyMaster root) = Some (with_root t root)
draft t (event.Recover id) = None
draft t (event.Report node id) = None
draft t (event.Deny node on) = None
draft t (event.Ask node what) = None
draft t event.ScgFail = None
draft t (event.Submit id d payload) = None
draft t (event.Step l i) = None
draft t (event.Lose l i) = None
draft t (event.Again l i) = None
