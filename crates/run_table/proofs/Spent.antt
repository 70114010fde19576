-- A command would set a key that is spent by both tables, or by neither.
use Rattle.std.proofs.Common.{ℕ, ◌≡◌, ◌+◌, ◌≤◌, ◌==◌, ◌&&◌, ◌||◌, false, List, [], ◌∷◌, Option, Some, None, refl, sym, ap, ap₂, subst, ◌∙◌, inl, inr, arith}
use Rattle.std.specs.Prelude.{find, map, not}
use Rattle.std.specs.List.{AllByRecursion, flat_map, list_any}
use Rattle.std.specs.Option.{option_map}
use Rattle.std.proofs.lemmas.Bool.{cases_Bool}
use Rattle.std.proofs.lemmas.Bool.Decides.{nat_tests}
use Rattle.dc_base.specs.Nodes as nodes
use Rattle.dc_base.specs.declared.events.Event.{Event}
use Rattle.dc_base.specs.declared.nodes.KeyName.{KeyName}
use Rattle.dc_base.specs.declared.nodes.Node.{Node}
use Rattle.dc_base.specs.declared.nodes.Side.{Side}
use Rattle.dc_base.specs.declared.nodes.Side.TheVariants.{Master, Second}
use Rattle.dc_base.specs.declared.records.Item.{Item}
use Rattle.dc_base.specs.declared.records.Item.TheVariants.{Set, Unset}
use Rattle.key_chain.specs.Book.{Claim, is_spent, spends}
use Rattle.claims.specs.Drafts as claims
use Rattle.claims.specs.Sameness.{is_number, is_same_key, is_some_and, side_number}
use Rattle.claims.specs.Table as claimed
use Rattle.node_rules.specs.CommandTable.{Table, claims_of, establishment, is_spent_by, row}
use Rattle.node_rules.specs.Drafts.{Draft, draft}
use Rattle.node_rules.specs.MasterEnds.{is_release_spent}
use Rattle.node_rules.specs.Places.{anchor_at}
use Rattle.node_rules.specs.declared.commands.Row.{Row}
use Rattle.run_table.specs.SameTable.{SameRest, row_of}
use Rattle.run_table.proofs.Drafting.{IsDrawable, SameDrafts, drafts_so}

same_sides : (a b : Side) → (side_number a == side_number b) ≡ nodes.is_same_side a b
same_sides Master Master = refl
same_sides Master (Second d) = grind (arith, nat_tests)
same_sides (Second c) Master = grind (arith, nat_tests)
same_sides (Second c) (Second d) = grind (arith, nat_tests)

same_keys : (a b : KeyName) → is_same_key a b ≡ nodes.is_same_key a b
same_keys a b = ap (λ s. (a.root == b.root) && s) (same_sides a.side b.side)

flip : (a b : ℕ) → (a == b) ≡ (b == a)
flip a b = grind (arith, nat_tests)

later_apart : (a b : ℕ) → a ≤ b → (a == b + 1) ≡ false
later_apart a b le = grind (arith, nat_tests)

module _ (t : claimed.Table) (m : Table) (same : SameRest t m) (below : AllByRecursion (λ (c : Claim). c.est ≤ m.last) m.book.claims) where
  -- the establishment of an item: where the one table has none, the other has the next generation
  abbrev IsOwn : Option ℕ → ℕ → Type 0
  IsOwn None e = e ≡ m.last + 1
  IsOwn (Some b) e = e ≡ b

  own_found : (old : Node) (id : ℕ) (rows : List Row)
      → IsOwn (option_map (λ r. r.bearer) (find (λ r. r.id == id) (map row_of rows))) (establishment (m.last + 1) (Some old) (find (λ r. r.id == id) rows))
  own_found old id [] = refl
  own_found old id (r ∷ rows) = elim (cases_Bool (r.id == id)) [ inl here ↦ rw here refl | inr apart ↦ rw apart (own_found old id rows) ]

  own_is : (id : ℕ) (old : Option Node) → IsOwn (claims.own_bearer t id old) (establishment (m.last + 1) old (row m id))
  own_is id None = refl
  own_is id (Some old) =
      subst (λ rs. IsOwn (option_map (λ r. r.bearer) (find (λ r. r.id == id) rs)) (establishment (m.last + 1) (Some old) (row m id))) (sym same.rows) (own_found old id m.rows)

  other_so : (own : Option ℕ) (e : ℕ) → IsOwn own e → (c : Claim) → c.est ≤ m.last → not (is_number c.est own) ≡ not (c.est == e)
  other_so None e is c le = sym (ap not (ap (λ x. c.est == x) is ∙ later_apart c.est m.last le))
  other_so (Some b) e is c le = sym (ap (λ x. not (c.est == x)) is)

  one_key : (id : ℕ) (key : KeyName) (own : Option ℕ) (e : ℕ) → IsOwn own e → (c : Claim) → c.est ≤ m.last
      → ((c.id == id) && is_same_key key c.key && not (is_number c.est own)) ≡ spends id e key c
  one_key id key own e is c le =
      ap₂ (λ a b. (a && b) && not (is_number c.est own)) (flip c.id id) (same_keys key c.key)
      ∙ ap (λ b. ((id == c.id) && nodes.is_same_key key c.key) && b) (other_so own e is c le)

  each_key : (id : ℕ) (key : KeyName) (own : Option ℕ) (e : ℕ) → IsOwn own e → (cs : List Claim) → AllByRecursion (λ (c : Claim). c.est ≤ m.last) cs
      → list_any (λ c. (c.id == id) && is_same_key key c.key && not (is_number c.est own)) cs ≡ list_any (spends id e key) cs
  each_key id key own e is [] all = refl
  each_key id key own e is (c ∷ cs) all = ap₂ (λ a b. a || b) (one_key id key own e is c all.0) (each_key id key own e is cs all.1)

  key_spent : (id : ℕ) (key : KeyName) (old : Option Node)
      → list_any (λ u. (u.id == id) && is_same_key key u.key && not (is_number u.bearer (claims.own_bearer t id old))) t.uses ≡ is_spent m.book.claims id (establishment (m.last + 1) old (row m id)) key
  key_spent id key old =
      let own = claims.own_bearer t id old in
      same.uses (λ i k b. (i == id) && is_same_key key k && not (is_number b own))
      ∙ each_key id key own (establishment (m.last + 1) old (row m id)) (own_is id old) m.book.claims below

  items_spent : (is : List Item) → list_any (claims.is_spent t) is ≡ list_any (λ (c : Claim). is_spent m.book.claims c.id c.est c.key) (flat_map (claims_of m (m.last + 1)) is)
  items_spent [] = refl
  items_spent (Set id n first shape threshold policy key old ∷ is) = ap₂ (λ a b. a || b) (key_spent id key old) (items_spent is)
  items_spent (Unset id ∷ is) = items_spent is

  draft_spent : (o : Option claims.Draft) (o' : Option Draft) → SameDrafts t m o o' → is_some_and (λ d. list_any (claims.is_spent t) d.items) o ≡ is_release_spent m o'
  draft_spent None None drafts = refl
  draft_spent None (Some d') drafts = absurd drafts
  draft_spent (Some d) None drafts = absurd drafts
  draft_spent (Some d) (Some d') drafts =
      items_spent d.items ∙ sym (ap (λ n. is_spent_by m (record { g = n + 1; sec = d.sec; items = d.items })) same.last) ∙ ap (is_spent_by m) drafts.plan

  -- of a command that is drawn in both tables
  pub same_spent : (e : Event) → IsDrawable m.sec e → AllByRecursion (λ (r : Row). r.anchor ≡ anchor_at m.sec r.shape) m.rows → claims.spends t e ≡ is_release_spent m (draft m e)
  same_spent e may anchors = draft_spent (claims.draft t e) (draft m e) (drafts_so t m same e may anchors)
