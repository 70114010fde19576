-- A command draws the same in both tables.
use Rattle.std.proofs.Common.{ℕ, ◌≡◌, ◌++◌, ◌+◌, ◌==◌, Bool, true, false, List, [], ◌∷◌, Option, Some, None, refl, sym, ap, ap₂, subst, ◌∙◌, inl, inr}
use Rattle.std.specs.Prelude.{filter, if◌then◌else◌, is_some, length, map, not, ⊤}
use Rattle.std.specs.List.{AllByRecursion, list_any}
use Rattle.std.proofs.lemmas.Bool.{cases_Bool, eq-eqb}
use Rattle.std.proofs.lemmas.List.{append-nil}
use Rattle.dc_base.specs.Nodes.{is_mm}
use Rattle.dc_base.specs.declared.events.Event.{Event}
use Rattle.dc_base.specs.declared.events.Event.TheVariants as event
use Rattle.dc_base.specs.declared.nodes.KeyName.{KeyName}
use Rattle.dc_base.specs.declared.nodes.Node.{Node}
use Rattle.dc_base.specs.declared.nodes.Node.TheVariants.{A, B, M, T}
use Rattle.dc_base.specs.declared.nodes.Shape.{Shape}
use Rattle.dc_base.specs.declared.records.Item.TheVariants.{Set}
use Rattle.dc_base.specs.declared.records.Plan.{Plan}
use Rattle.claims.specs.Carrying.{command_for, counters_with, plan_of, with_counter}
use Rattle.claims.specs.Drafts as claims
use Rattle.claims.specs.Shapes as shapes
use Rattle.claims.specs.Table as claimed
use Rattle.claims.specs.Table.{Claimed, change}
use Rattle.node_rules.specs.CommandTable.{Table}
use Rattle.node_rules.specs.Drafts.{Draft, book_with_root, draft, key_for, next_second, set_to}
use Rattle.node_rules.specs.MasterGo.{drawn}
use Rattle.node_rules.specs.MasterState.{MasterProc}
use Rattle.node_rules.specs.Places.{anchor_at, other_second}
use Rattle.node_rules.specs.declared.commands.Row.{Row}
use Rattle.run_table.specs.SameTable.{IsDrawn, IsFor, SameRest, row_of}
use Rattle.run_table.specs.View.{View, draws, draws_if}

-- the table of the claims that the master's is, with these uses and this open command
abbrev pub table_of : Table → List Claimed → Option claimed.Command → claimed.Table
table_of m us k = record {
  sec = m.sec;
  root = m.book.current;
  roots = m.book.roots;
  counters = m.book.drawn;
  second_key = m.second_key;
  rows = map row_of m.rows;
  uses = us;
  last = m.last;
  command = k;
}

pub table_is : (t : claimed.Table) (m : Table) → SameRest t m → t ≡ table_of m t.uses t.command
table_is t m s =
    ap (λ x. record t { sec = x }) s.sec
    ∙ ap (λ x. record t { sec = m.sec; root = x }) s.root
    ∙ ap (λ x. record t { sec = m.sec; root = m.book.current; roots = x }) s.roots
    ∙ ap (λ x. record t { sec = m.sec; root = m.book.current; roots = m.book.roots; counters = x }) s.counters
    ∙ ap (λ x. record t { sec = m.sec; root = m.book.current; roots = m.book.roots; counters = m.book.drawn; second_key = x }) s.second_key
    ∙ ap (λ x. record t { sec = m.sec; root = m.book.current; roots = m.book.roots; counters = m.book.drawn; second_key = m.second_key; rows = x }) s.rows
    ∙ ap (λ x. record t { sec = m.sec; root = m.book.current; roots = m.book.roots; counters = m.book.drawn; second_key = m.second_key; rows = map row_of m.rows; last = x }) s.last

-- both drafts are of the same command
pub record SameDraft (t : claimed.Table) (d : claims.Draft) (m : Table) (d' : Draft) : Type 0 where
  pub plan : plan_of t d ≡ d'.change.plan
  pub root : d.root ≡ d'.change.root
  pub second_key : d.second_key ≡ d'.change.second_key
  pub roots : t.roots ++ d.named ≡ d'.book.roots
  pub counters : (if d.is_new then with_counter (counters_with t.counters d.named) d.root else counters_with t.counters d.named) ≡ d'.book.drawn
  pub current : d'.book.current ≡ m.book.current
  pub claims : d'.book.claims ≡ m.book.claims

-- or there is none in either
abbrev pub SameDrafts : claimed.Table → Table → Option claims.Draft → Option Draft → Type 0
SameDrafts t m None None = ⊤
SameDrafts t m (Some d) (Some d') = SameDraft t d m d'
SameDrafts t m _ _ = ⊥

-- ---- items

anchor_is : (sec : Option Node) (s : Shape) → shapes.anchor_at sec s ≡ anchor_at sec s
anchor_is None s = refl
anchor_is (Some x) s = refl

one_item : (t : claimed.Table) (root : ℕ) (k : KeyName) (shape : claimed.Row → Shape) (r : Row) → r.anchor ≡ anchor_at t.sec r.shape
    → claims.set_to t root k shape (row_of r) ≡ set_to root k (λ x. shape (row_of x)) r
one_item t root k shape r is =
    ap (λ x. Set r.id r.n r.first (shape (row_of r)) r.threshold r.policy (key_for (shape (row_of r)) root k) (Some x)) (anchor_is t.sec r.shape ∙ sym is)

pub same_items : (t : claimed.Table) (root : ℕ) (k : KeyName) (shape : claimed.Row → Shape) (f : claimed.Row → Bool) (rows : List Row)
    → AllByRecursion (λ (r : Row). r.anchor ≡ anchor_at t.sec r.shape) rows
    → map (claims.set_to t root k shape) (filter f (map row_of rows)) ≡ map (set_to root k (λ r. shape (row_of r))) (filter (λ r. f (row_of r)) rows)
same_items t root k shape f [] all = refl
same_items t root k shape f (r ∷ rows) all =
    elim (cases_Bool (f (row_of r))) [
      | inl yes' ↦ rw yes' (ap₂ (λ x xs. x ∷ xs) (one_item t root k shape r all.0) (same_items t root k shape f rows all.1))
      | inr no' ↦ rw no' (same_items t root k shape f rows all.1)
    ]

pub all_items : (t : claimed.Table) (root : ℕ) (k : KeyName) (shape : claimed.Row → Shape) (rows : List Row)
    → AllByRecursion (λ (r : Row). r.anchor ≡ anchor_at t.sec r.shape) rows
    → map (claims.set_to t root k shape) (map row_of rows) ≡ map (set_to root k (λ r. shape (row_of r))) rows
all_items t root k shape [] all = refl
all_items t root k shape (r ∷ rows) all = ap₂ (λ x xs. x ∷ xs) (one_item t root k shape r all.0) (all_items t root k shape rows all.1)

other_is : (x : Node) → shapes.other_second (Some x) ≡ other_second x
other_is A = refl
other_is B = refl
other_is M = refl
other_is T = refl

-- ---- drafts

-- a command that changes the secondary node is only drawn where there is one
abbrev pub IsDrawable : Option Node → Event → Type 0
IsDrawable sec event.Change = is_some sec ≡ true
IsDrawable sec _ = ⊤

module _ (m : Table) (us : List Claimed) (k : Option claimed.Command) (anchors : AllByRecursion (λ (r : Row). r.anchor ≡ anchor_at m.sec r.shape) m.rows) where
  abbrev t : claimed.Table
  t = table_of m us k

  at_change : (o : Option Node) → m.sec ≡ o → is_some o ≡ true → Some (shapes.other_second o) ≡ next_second o
  at_change None is some' = absurd cc
  at_change (Some x) is some' = ap Some (other_is x)

  -- the book with a new root
  new_roots : (octets : List ℕ) (o : Option Node) → m.book.roots ++ octets ∷ [] ≡ (book_with_root m octets o).roots
  new_roots octets None = refl
  new_roots octets (Some x) = refl

  new_counters : (octets : List ℕ) (o : Option Node)
      → (if is_some o then with_counter (counters_with m.book.drawn (octets ∷ [])) (length m.book.roots) else counters_with m.book.drawn (octets ∷ [])) ≡ (book_with_root m octets o).drawn
  new_counters octets None = refl
  new_counters octets (Some x) = refl

  new_current : (octets : List ℕ) (o : Option Node) → (book_with_root m octets o).current ≡ m.book.current
  new_current octets None = refl
  new_current octets (Some x) = refl

  new_claims : (octets : List ℕ) (o : Option Node) → (book_with_root m octets o).claims ≡ m.book.claims
  new_claims octets None = refl
  new_claims octets (Some x) = refl

  pub same_drafts : (e : Event) → IsDrawable m.sec e → SameDrafts t m (claims.draft t e) (draft m e)
  same_drafts (event.Bearer id n first shape threshold policy) may =
      record { plan = refl; root = refl; second_key = refl; roots = append-nil m.book.roots; counters = append-nil m.book.drawn; current = refl; claims = refl }
  same_drafts (event.Reshape id shape) may = record {
    plan = ap (λ xs. record { g = m.last + 1; sec = m.sec; items = xs }) (same_items t m.book.current m.second_key (λ r. shape) (λ r. r.id == id) m.rows anchors);
    root = refl;
    second_key = refl;
    roots = append-nil m.book.roots;
    counters = append-nil m.book.drawn;
    current = refl;
    claims = refl;
  }
  same_drafts (event.Remove id) may =
      record { plan = refl; root = refl; second_key = refl; roots = append-nil m.book.roots; counters = append-nil m.book.drawn; current = refl; claims = refl }
  same_drafts (event.Add node) may =
      record { plan = refl; root = refl; second_key = refl; roots = append-nil m.book.roots; counters = ap (λ xs. with_counter xs m.book.current) (append-nil m.book.drawn); current = refl; claims = refl }
  same_drafts event.Change may = record {
    plan =
        ap (λ o. record { g = m.last + 1; sec = o; items = (claims.change_draft t).items }) (at_change m.sec refl may)
        ∙ ap (λ xs. record { g = m.last + 1; sec = next_second m.sec; items = xs })
        (same_items t m.book.current (claimed.next_key t) (λ r. r.shape) (λ r. not (is_mm r.shape)) m.rows anchors);
    root = refl;
    second_key = refl;
    roots = append-nil m.book.roots;
    counters = ap (λ xs. with_counter xs m.book.current) (append-nil m.book.drawn);
    current = refl;
    claims = refl;
  }
  same_drafts event.Release may = record {
    plan = ap (λ xs. record { g = m.last + 1; sec = None; items = xs }) (same_items t m.book.current m.second_key (λ r. shapes.mm) (λ r. not (is_mm r.shape)) m.rows anchors);
    root = refl;
    second_key = refl;
    roots = append-nil m.book.roots;
    counters = append-nil m.book.drawn;
    current = refl;
    claims = refl;
  }
  same_drafts event.RekeySecond may = record {
    plan = ap (λ xs. record { g = m.last + 1; sec = m.sec; items = xs }) (same_items t m.book.current (claimed.next_key t) (λ r. r.shape) (λ r. r.shape.at_second) m.rows anchors);
    root = refl;
    second_key = refl;
    roots = append-nil m.book.roots;
    counters = ap (λ xs. with_counter xs m.book.current) (append-nil m.book.drawn);
    current = refl;
    claims = refl;
  }
  same_drafts (event.RekeyMaster octets) may = record {
    plan = ap (λ xs. record { g = m.last + 1; sec = m.sec; items = xs }) (all_items t (length m.book.roots) (claimed.second_key (length m.book.roots) 0) (λ r. r.shape) m.rows anchors);
    root = refl;
    second_key = refl;
    roots = new_roots octets m.sec;
    counters = new_counters octets m.sec;
    current = new_current octets m.sec;
    claims = new_claims octets m.sec;
  }
  same_drafts (event.Recover id) may = tt
  same_drafts (event.Report x id) may = tt
  same_drafts (event.Deny x on) may = tt
  same_drafts (event.Ask x w) may = tt
  same_drafts event.ScgFail may = tt
  same_drafts (event.Submit id d sdu) may = tt
  same_drafts (event.Step l i) may = tt
  same_drafts (event.Lose l i) may = tt
  same_drafts (event.Again l i) may = tt

-- both draw the same, or neither draws
pub drafts_so : (t : claimed.Table) (m : Table) → SameRest t m → (e : Event) → IsDrawable m.sec e → AllByRecursion (λ (r : Row). r.anchor ≡ anchor_at m.sec r.shape) m.rows
    → SameDrafts t m (claims.draft t e) (draft m e)
drafts_so t m same e may anchors =
    subst (λ (x : claimed.Table). SameDrafts x m (claims.draft x e) (draft m e)) (sym (table_is t m same)) (same_drafts m t.uses t.command anchors e may)

-- ---- what is drawn

-- the tables after it, with the plan that is open
pub record SameDrawn (v : View) (m : MasterProc) (d : Draft) : Type 0 where
  pub rest : SameRest v.table (drawn m d).table
  pub command : claimed.Command
  pub is_open : v.table.command ≡ Some command
  pub is_drawn : IsDrawn v command d.change.plan.g false
  pub is_for : IsFor v command d.change
  pub next : d.change.plan.g ≡ m.table.last + 1
  pub claims : d.book.claims ≡ m.table.book.claims

module _ (e : Event) (asker : Option Node) (v : View) (m : MasterProc) (same : SameRest v.table m.table) where
  drawn_by : (o : Option claims.Draft) (d' : Draft) → SameDrafts v.table m.table o (Some d') → SameDrawn (draws_if e asker o v) m d'
  drawn_by None d' drafts = absurd drafts
  drawn_by (Some d) d' drafts =
      let g : v.table.last + 1 ≡ d'.change.plan.g = ap (λ (q : Plan). q.g) drafts.plan in
      let found : ((plan_of v.table d).g == d'.change.plan.g) ≡ true = eq-eqb (v.table.last + 1) d'.change.plan.g g in
      record {
        rest = record {
          sec = same.sec;
          root = same.root ∙ sym drafts.current;
          roots = drafts.roots;
          counters = drafts.counters;
          second_key = same.second_key;
          rows = same.rows;
          uses = λ f. same.uses f ∙ ap (λ cs. list_any (λ c. f c.id c.key c.est) cs) (sym drafts.claims);
          last = g;
        };
        command = command_for v.table e asker d;
        is_open = refl;
        is_drawn = record { kind = ap change g; carried = refl; last = sym g };
        is_for = record { root = drafts.root; second_key = drafts.second_key; plan = rw found (ap Some drafts.plan) };
        next = sym g ∙ ap (λ n. n + 1) same.last;
        claims = drafts.claims;
      }

  -- a command that the master draws is drawn by the claims too
  pub same_drawn : (d : Draft) → draft m.table e ≡ Some d → IsDrawable m.table.sec e → AllByRecursion (λ (r : Row). r.anchor ≡ anchor_at m.table.sec r.shape) m.table.rows
      → SameDrawn (draws e asker v) m d
  same_drawn d is may anchors =
      let back = drafts_so v.table m.table same e may anchors in
      drawn_by (claims.draft v.table e) d (subst (λ o. SameDrafts v.table m.table (claims.draft v.table e) o) is back)
