-- A plan that is carried out does the same to both tables.
use Rattle.std.proofs.Common.{ℕ, ◌≡◌, ◌++◌, ◌==◌, ◌||◌, Bool, true, List, [], ◌∷◌, Option, Some, None, refl, sym, ap, ◌∙◌, inl, inr}
use Rattle.std.specs.Prelude.{filter, find, fold, map, not}
use Rattle.std.specs.List.{AllByRecursion, flat_map, list_any}
use Rattle.std.proofs.lemmas.Bool.{and_parts, cases_Bool, eqb-true}
use Rattle.dc_base.specs.Nodes.{is_same_key, is_same_side}
use Rattle.dc_base.specs.declared.nodes.KeyName.{KeyName}
use Rattle.dc_base.specs.declared.nodes.Node.{Node}
use Rattle.dc_base.specs.declared.nodes.Node.TheVariants.{M}
use Rattle.dc_base.specs.declared.nodes.Side.{Side}
use Rattle.dc_base.specs.declared.nodes.Side.TheVariants.{Master, Second}
use Rattle.dc_base.specs.declared.records.Item.{Item}
use Rattle.dc_base.specs.declared.records.Item.TheVariants.{Set, Unset}
use Rattle.key_chain.specs.Book.{Claim, is_claimed, is_for, is_same_claim, with_claim}
use Rattle.claims.specs.Carrying.{bearer_in_row, with_item}
use Rattle.claims.specs.Carrying as carrying
use Rattle.claims.specs.Table as claims
use Rattle.claims.specs.Table.{Claimed}
use Rattle.node_rules.specs.CommandTable.{Table, carried, claims_of, establishment, row, rows_after, with_row}
use Rattle.node_rules.specs.Places.{anchor_at}
use Rattle.node_rules.specs.declared.commands.Change.{Change}
use Rattle.node_rules.specs.declared.commands.Row.{Row}
use Rattle.run_table.specs.SameTable.{AreFit, IsOld, SameRest, SameUses, row_of}
use Rattle.run_table.proofs.Rows.{found_else, found_there, same_place}

-- ---- keys in use

same_side : (a b : Side) → is_same_side a b ≡ true → a ≡ b
same_side Master Master is = refl
same_side Master (Second d) is = absurd cc
same_side (Second c) Master is = absurd cc
same_side (Second c) (Second d) is = ap Second (eqb-true c d is)

same_key : (a b : KeyName) → is_same_key a b ≡ true → a ≡ b
same_key a b is =
    let parts = and_parts (a.root == b.root) (is_same_side a.side b.side) is in
    ap (λ (r : ℕ). record a { root = r }) (eqb-true a.root b.root parts.0) ∙ ap (λ s. record b { side = s }) (same_side a.side b.side parts.1)

module _ (f : ℕ → KeyName → ℕ → Bool) where
  -- of a claim
  abbrev of_claim : Claim → Bool
  of_claim c = f c.id c.key c.est

  any_more : (cs : List Claim) (c : Claim) → list_any of_claim (cs ++ c ∷ []) ≡ (of_claim c || list_any of_claim cs)
  any_more [] c = refl
  any_more (x ∷ xs) c =
      elim (cases_Bool (of_claim x)) [
        | inl yes' ↦ rw yes' (elim (cases_Bool (of_claim c)) [ inl too ↦ rw too refl | inr no' ↦ rw no' refl ])
        | inr no' ↦ rw no' (any_more xs c)
      ]

  any_claimed : (cs : List Claim) (c : Claim) → is_claimed cs c ≡ true → of_claim c ≡ true → list_any of_claim cs ≡ true
  any_claimed [] c is holds = absurd cc
  any_claimed (x ∷ xs) c is holds =
      elim (cases_Bool (is_same_claim c x)) [
        | inl same ↦
            let parts = and_parts (is_for c.id c.key x) (x.est == c.est) same in
            let both' = and_parts (c.id == x.id) (is_same_key c.key x.key) parts.0 in
            let id : x.id ≡ c.id = sym (eqb-true c.id x.id both'.0) in
            let key : x.key ≡ c.key = sym (same_key c.key x.key both'.1) in
            let est : x.est ≡ c.est = eqb-true x.est c.est parts.1 in
            let here : of_claim x ≡ true = ap (λ i. f i x.key x.est) id ∙ ap (λ k. f c.id k x.est) key ∙ ap (λ e. f c.id c.key e) est ∙ holds in
            rw here refl
        | inr other ↦
            let rest : list_any of_claim xs ≡ true = any_claimed xs c (rw other at is) holds in
            elim (cases_Bool (of_claim x)) [ inl yes' ↦ rw yes' refl | inr no' ↦ rw no' rest ]
      ]

  -- one more use is one more claim, or one that stood already
  one_more : (us : List Claimed) (cs : List Claim) (c : Claim) → list_any (λ u. f u.id u.key u.bearer) us ≡ list_any of_claim cs
      → (of_claim c || list_any (λ u. f u.id u.key u.bearer) us) ≡ list_any of_claim (with_claim cs c)
  one_more us cs c same =
      elim (cases_Bool (is_claimed cs c)) [
        | inl there ↦ rw there (elim (cases_Bool (of_claim c)) [
          | inl yes' ↦ rw yes' (sym (any_claimed cs c there yes'))
          | inr no' ↦ rw no' same
        ])
        | inr new ↦ rw new (ap (λ b. of_claim c || b) same ∙ sym (any_more cs c))
      ]

pub uses_more : (us : List Claimed) (cs : List Claim) (c : Claim) → SameUses us cs → SameUses (record { id = c.id; key = c.key; bearer = c.est } ∷ us) (with_claim cs c)
uses_more us cs c same = λ f. one_more f us cs c (same f)

-- ---- items

-- the tables in the midst of the items of a plan
record SameSoFar (t' : claims.Table) (rows : List Row) (cs : List Claim) : Type 0 where
  same_rows : t'.rows ≡ map row_of rows
  same_uses : SameUses t'.uses cs

-- the establishment of each identity is that of the table before
abbrev Looks : Table → ℕ → claims.Table → Type 0
Looks t g t' = (id : ℕ) → bearer_in_row g (Some M) (claims.row t' id) ≡ establishment g (Some M) (row t id)

module _ (t : Table) (g : ℕ) (sec : Option Node) where
  looks_found : (id : ℕ) (rows : List Row) → bearer_in_row g (Some M) (find (λ r. r.id == id) (map row_of rows)) ≡ establishment g (Some M) (find (λ r. r.id == id) rows)
  looks_found id [] = refl
  looks_found id (r ∷ rows) = elim (cases_Bool (r.id == id)) [ inl here ↦ rw here refl | inr apart ↦ rw apart (looks_found id rows) ]

  row_gone : (id : ℕ) (rows : List Row) → filter (λ r. not (r.id == id)) (map row_of rows) ≡ map row_of (filter (λ r. not (r.id == id)) rows)
  row_gone id [] = refl
  row_gone id (r ∷ rows) =
      elim (cases_Bool (r.id == id)) [ inl here ↦ rw here (row_gone id rows) | inr apart ↦ rw apart (ap (λ rs. row_of r ∷ rs) (row_gone id rows)) ]

  set_so : (t' : claims.Table) (rows : List Row) (cs : List Claim) (r : Row) (b : ℕ) → b ≡ r.est → SameSoFar t' rows cs
      → SameSoFar (record t' { rows = carrying.with_row (record (row_of r) { bearer = b }) t'.rows; uses = record { id = r.id; key = r.key; bearer = b } ∷ t'.uses })
      (with_row r rows) (with_claim cs (record { id = r.id; key = r.key; est = r.est }))
  set_so t' rows cs r b is same =
      rw is (record {
        same_rows = ap (λ rs. carrying.with_row (row_of r) rs) same.same_rows ∙ same_place r rows;
        same_uses = uses_more t'.uses cs (record { id = r.id; key = r.key; est = r.est }) same.same_uses;
      })

  item_so : (i : Item) (t' : claims.Table) (rows : List Row) (cs : List Claim) → Looks t g t' → SameSoFar t' rows cs
      → SameSoFar (with_item g t' i) (rows_after t g sec rows i) (fold with_claim cs (claims_of t g i))
  item_so (Set id n first shape threshold policy key None) t' rows cs looks same =
      set_so t' rows cs (record { id = id; est = g; n = n; first = first; shape = shape; threshold = threshold; policy = policy; key = key; anchor = anchor_at sec shape; g = g }) g refl same
  item_so (Set id n first shape threshold policy key (Some old)) t' rows cs looks same =
      set_so t' rows cs
      (record { id = id; est = establishment g (Some old) (row t id); n = n; first = first; shape = shape; threshold = threshold; policy = policy; key = key; anchor = anchor_at sec shape; g = g })
      (bearer_in_row g (Some old) (claims.row t' id)) (looks id) same
  item_so (Unset id) t' rows cs looks same = record { same_rows = ap (λ rs. filter (λ r. not (r.id == id)) rs) same.same_rows ∙ row_gone id rows; same_uses = same.same_uses }

  -- an item of a bearer that is there leaves the establishments as they are
  looks_on : (i : Item) → IsOld i → (t' : claims.Table) → Looks t g t' → Looks t g (with_item g t' i)
  looks_on (Set id n first shape threshold policy key None) old t' looks = absurd old
  looks_on (Unset id) old t' looks = absurd old
  looks_on (Set id n first shape threshold policy key (Some x)) old t' looks = λ k.
      let b = bearer_in_row g (Some x) (claims.row t' id) in
      let r : claims.Row = record { id = id; bearer = b; n = n; first = first; shape = shape; threshold = threshold; policy = policy; key = key } in
      elim (cases_Bool (id == k)) [
        | inl here ↦
            let is : id ≡ k = eqb-true id k here in
            ap (λ j. bearer_in_row g (Some M) (find (λ y. y.id == j) (carrying.with_row r t'.rows))) (sym is)
            ∙ ap (λ o. bearer_in_row g (Some M) o) (found_there r t'.rows) ∙ looks id ∙ ap (λ j. establishment g (Some M) (row t j)) is
        | inr apart ↦ ap (λ o. bearer_in_row g (Some M) o) (found_else k r t'.rows apart) ∙ looks k
      ]

  items_so : (is : List Item) → AllByRecursion IsOld is → (t' : claims.Table) (rows : List Row) (cs : List Claim) → Looks t g t' → SameSoFar t' rows cs
      → SameSoFar (fold (with_item g) t' is) (fold (rows_after t g sec) rows is) (fold with_claim cs (flat_map (claims_of t g) is))
  items_so [] old t' rows cs looks same = same
  items_so (Set id n first shape threshold policy key o ∷ is) old t' rows cs looks same =
      let i = Set id n first shape threshold policy key o in
      items_so is old.1 (with_item g t' i) (rows_after t g sec rows i) (fold with_claim cs (claims_of t g i)) (looks_on i old.0 t' looks) (item_so i t' rows cs looks same)
  items_so (Unset id ∷ is) old t' rows cs looks same = absurd old.0

  fit_so : (is : List Item) → AreFit is → (t' : claims.Table) (rows : List Row) (cs : List Claim) → Looks t g t' → SameSoFar t' rows cs
      → SameSoFar (fold (with_item g) t' is) (fold (rows_after t g sec) rows is) (fold with_claim cs (flat_map (claims_of t g) is))
  fit_so [] fit t' rows cs looks same = same
  fit_so (Set id n first shape threshold policy key o ∷ []) fit t' rows cs looks same = item_so (Set id n first shape threshold policy key o) t' rows cs looks same
  fit_so (Unset id ∷ []) fit t' rows cs looks same = item_so (Unset id) t' rows cs looks same
  fit_so (i ∷ j ∷ is) fit t' rows cs looks same = items_so (i ∷ j ∷ is) fit t' rows cs looks same

-- ---- the rest of the table

item_keeps : {X : Type 0} (P : claims.Table → X) (g : ℕ) → ((t : claims.Table) (rows : List claims.Row) (us : List Claimed) → P (record t { rows = rows; uses = us }) ≡ P t)
    → (t : claims.Table) (i : Item) → P (with_item g t i) ≡ P t
item_keeps P g keeps t (Set id n first shape threshold policy key old) =
    let b = bearer_in_row g old (claims.row t id) in
    keeps t (carrying.with_row (record { id = id; bearer = b; n = n; first = first; shape = shape; threshold = threshold; policy = policy; key = key }) t.rows)
    (record { id = id; key = key; bearer = b } ∷ t.uses)
item_keeps P g keeps t (Unset id) = keeps t (filter (λ r. not (r.id == id)) t.rows) t.uses

pub items_keep : {X : Type 0} (P : claims.Table → X) (g : ℕ) → ((t : claims.Table) (rows : List claims.Row) (us : List Claimed) → P (record t { rows = rows; uses = us }) ≡ P t)
    → (is : List Item) (t : claims.Table) → P (fold (with_item g) t is) ≡ P t
items_keep P g keeps [] t = refl
items_keep P g keeps (i ∷ is) t = items_keep P g keeps is (with_item g t i) ∙ item_keeps P g keeps t i

-- a plan that is carried out
pub same_carried : (t : claims.Table) (m : Table) (c : Change) (root : ℕ) (key : KeyName) (k : Option claims.Command) → SameRest t m → AreFit c.plan.items → root ≡ c.root → key ≡ c.second_key
    → SameRest (record (fold (with_item c.plan.g) t c.plan.items) { sec = c.plan.sec; root = root; second_key = key; command = k }) (carried m c)
same_carried t m c root key k same fit of_root of_key =
    let g = c.plan.g in
    let looks : Looks m g t = λ id. ap (λ rs. bearer_in_row g (Some M) (find (λ r. r.id == id) rs)) same.rows ∙ looks_found m g c.plan.sec id m.rows in
    let so : SameSoFar t m.rows m.book.claims = record { same_rows = same.rows; same_uses = same.uses } in
    let done = fit_so m g c.plan.sec c.plan.items fit t m.rows m.book.claims looks so in
    record {
      sec = refl;
      root = of_root;
      roots = items_keep (λ x. x.roots) g (λ x rs us. refl) c.plan.items t ∙ same.roots;
      counters = items_keep (λ x. x.counters) g (λ x rs us. refl) c.plan.items t ∙ same.counters;
      second_key = of_key;
      rows = done.same_rows;
      uses = done.same_uses;
      last = items_keep (λ x. x.last) g (λ x rs us. refl) c.plan.items t ∙ same.last;
    }
