-- Each command that is not refused keeps the keys of the command table, when it is drawn and when it is carried out.
use Rattle.std.proofs.Common.{ℕ, ◌≡◌, ◌++◌, ◌==◌, ◌&&◌, ◌<◌, ◌≤◌, ◌+◌, ◌||◌, Bool, true, false, List, [], ◌∷◌, Option, Some, None, refl, sym, ap, subst, ◌∙◌, inl, inr, arith}
use Rattle.std.specs.Prelude.{filter, find, fold, is_none, is_some, length, map, nat_lt, not, slice_index, slice_set}
use Rattle.std.specs.List.{AllByRecursion, flat_map, list_any}
use Rattle.std.proofs.lemmas.Bool.{and_parts, cases_Bool, eq-eqb, eqb-true}
use Rattle.std.proofs.lemmas.List.{get_or-set_other, get_or-set_same, get_or_append_left, length-append, length-set}
use Rattle.dc_base.specs.Nodes.{is_mm}
use Rattle.dc_base.specs.declared.events.Event.{Event}
use Rattle.dc_base.specs.declared.events.Event.TheVariants as event
use Rattle.dc_base.specs.declared.nodes.KeyName.{KeyName}
use Rattle.dc_base.specs.declared.nodes.Node.{Node}
use Rattle.dc_base.specs.declared.nodes.Node.TheVariants.{M}
use Rattle.dc_base.specs.declared.nodes.Shape.{Shape}
use Rattle.dc_base.specs.declared.nodes.Side.{Side}
use Rattle.dc_base.specs.declared.nodes.Side.TheVariants.{Master, Second}
use Rattle.dc_base.specs.declared.numbers.SnLen.{SnLen}
use Rattle.dc_base.specs.declared.records.Item.TheVariants as item
use Rattle.key_chain.specs.Book.{Book, Claim, counters_drawn, is_claimed, is_for, is_same_claim, is_spent, noting, spends, with_claim}
use Rattle.node_rules.specs.CommandTable.{Table, carried, claims_of, establishment, master_key_of, row, rows_after, second_key_of, with_counter, with_row}
use Rattle.node_rules.specs.Drafts.{Draft, asking, book_with_root, draft, key_for, next_second, next_second_key, set_to}
use Rattle.node_rules.specs.Places.{anchor_at, mm}
use Rattle.node_rules.specs.declared.commands.Change.{Change}
use Rattle.node_rules.specs.declared.commands.First.{First}
use Rattle.node_rules.specs.declared.commands.First.TheVariants.{Addition as addition, Modification as modification}
use Rattle.node_rules.specs.declared.commands.Row.{Row}
use Rattle.run_table.specs.SameTable.{IsPlaced}
use Rattle.run_table.proofs.Fitting.{each_both, fits_for}
use Rattle.run_table.proofs.Rows.{each_left, each_placed, each_set, each_weaker, moved, set_if, set_rows}
use Rattle.run_keys.specs.Keyed.{AreSet, IsApt, IsDrawnKey, IsKeyed, IsKeyedRow, IsOfFirst, IsSetIn, claim_of}
use Rattle.run_keys.specs.OneClaimant.{AreOne, IsUnspent}
use Rattle.run_keys.specs.Tables.{MayDraw, with_draft}
use Rattle.run_keys.proofs.ClaimLists.{any_fold, any_found, claimed_all, each_claimed, for_it, one_all}
use Rattle.run_keys.proofs.Rows.{all_set_in, each_set_claim, of_set_claim, rows_found, set_claim, set_claims}

-- ---- what is drawn stays drawn

-- a book with more roots and counters, and the same claims
record Grows (b d : Book) : Type 0 where
  counts : length d.drawn ≡ length d.roots
  current : d.current ≡ b.current
  claims : d.claims ≡ b.claims
  more : length b.roots ≤ length d.roots
  keys : (k : KeyName) → IsDrawnKey b k → IsDrawnKey d k

grows_same : (b : Book) → length b.drawn ≡ length b.roots → Grows b b
grows_same b counts = record { counts = counts; current = refl; claims = refl; more = omega arith; keys = λ k is. is }

first_more : (s : Side) (m n : ℕ) → m ≤ n → IsOfFirst s m → IsOfFirst s n
first_more Master m n le is = tt
first_more (Second c) m n le is = omega (arith, le, is)

counter_least : (xs : List ℕ) (i j : ℕ) → i < length xs → slice_index xs j ≤ slice_index (slice_set xs i (slice_index xs i + 1)) j
counter_least xs i j below =
    elim (cases_Bool (j == i)) [
      | inl same ↦
          let is : j ≡ i = eqb-true j i same in
          let at : slice_index (slice_set xs i (slice_index xs i + 1)) j ≡ slice_index xs i + 1 = ap (λ n. slice_index (slice_set xs i (slice_index xs i + 1)) n) is ∙ get_or-set_same xs i (slice_index xs i + 1) 0 below in
          let own : slice_index xs j ≡ slice_index xs i = ap (λ n. slice_index xs n) is in
          omega (arith, at, own)
      | inr apart ↦
          let at : slice_index (slice_set xs i (slice_index xs i + 1)) j ≡ slice_index xs j =
          get_or-set_other xs i j (slice_index xs i + 1) 0 (λ same. let bad : false ≡ true = sym apart ∙ eq-eqb j i same in absurd (cc bad)) in
          omega (arith, at)
    ]

grows_counter : (b : Book) (root : ℕ) → length b.drawn ≡ length b.roots → root < length b.roots → Grows b (with_counter b root)
grows_counter b root counts below =
    let len : length (with_counter b root).drawn ≡ length b.drawn = length-set b.drawn root (counters_drawn b root + 1) in
    record {
      counts = len ∙ counts;
      current = refl;
      claims = refl;
      more = omega arith;
      keys = λ k is. (is.0, first_more k.side (counters_drawn b k.root) (counters_drawn (with_counter b root) k.root) (counter_least b.drawn root k.root (omega (arith, counts, below))) is.1);
    }

grows_noting : (b : Book) (root : List ℕ) → length b.drawn ≡ length b.roots → Grows b (noting b root)
grows_noting b root counts =
    let roots : length (b.roots ++ root ∷ []) ≡ length b.roots + 1 = length-append b.roots (root ∷ []) in
    let drawn : length (b.drawn ++ 0 ∷ []) ≡ length b.drawn + 1 = length-append b.drawn (0 ∷ []) in
    record {
      counts = drawn ∙ ap (λ n. n + 1) counts ∙ sym roots;
      current = refl;
      claims = refl;
      more = omega (arith, roots);
      keys = λ k is.
          let below : k.root < length b.roots = is.0 in
          let at : counters_drawn (noting b root) k.root ≡ counters_drawn b k.root = get_or_append_left b.drawn (0 ∷ []) 0 k.root (omega (arith, below, counts)) in
          (omega (arith, below, roots), subst (λ n. IsOfFirst k.side n) (sym at) is.1);
    }

grows_then : (a b c : Book) → Grows a b → Grows b c → Grows a c
grows_then a b c f g = record {
  counts = g.counts;
  current = g.current ∙ f.current;
  claims = g.claims ∙ f.claims;
  more = let x = f.more in let y = g.more in omega (arith, x, y);
  keys = λ k is. g.keys k (f.keys k is);
}

root_count : (b : Book) (root : List ℕ) → length (noting b root).roots ≡ length b.roots + 1
root_count b root = length-append b.roots (root ∷ [])

grows_root : (t : Table) (root : List ℕ) → length t.book.drawn ≡ length t.book.roots → (o : Option Node) → Grows t.book (book_with_root t root o)
grows_root t root counts None = grows_noting t.book root counts
grows_root t root counts (Some x) =
    let one = grows_noting t.book root counts in
    let more = root_count t.book root in
    grows_then t.book (noting t.book root) (with_counter (noting t.book root) (length t.book.roots)) one
    (grows_counter (noting t.book root) (length t.book.roots) one.counts (omega (arith, more)))

-- ---- the table once a draft is drawn

drawn_keyed : (E : ℕ → Option ℕ) (t : Table) (b : Book) (last : ℕ) → Grows t.book b → t.last ≤ last → IsKeyed E t → IsKeyed E (record t { book = b; last = last })
drawn_keyed E t b last grows le is = record {
  placed = is.placed;
  counts = grows.counts;
  current = let below = is.current in let more = grows.more in let same = grows.current in omega (arith, below, more, same);
  drawn = λ c stands. grows.keys c.key (is.drawn c (subst (λ cs. is_claimed cs c ≡ true) grows.claims stands));
  one = subst AreOne (sym grows.claims) is.one;
  rows =
      each_weaker (IsKeyedRow E t.book t.last) (IsKeyedRow E b last)
      (λ r row'. record {
        claimed = subst (λ cs. is_claimed cs (claim_of r) ≡ true) (sym grows.claims) row'.claimed;
        at_master = λ here. row'.at_master here ∙ sym (ap master_key_of grows.current);
        latest = row'.latest;
        upto = let under = row'.upto in omega (arith, under, le);
      }) t.rows is.rows;
  second = λ there. grows.keys t.second_key (is.second there);
}

-- ---- a plan that sets some rows

-- what is so of each row before it is set or left
record MayBeSet (b : Book) (root : ℕ) (k : KeyName) (shape : Row → Shape) (f : Row → Bool) (r : Row) : Type 0 where
  key : f r ≡ true → IsDrawnKey b (key_for (shape r) root k)
  unspent : f r ≡ true → IsUnspent b.claims (record { id = r.id; key = key_for (shape r) root k; est = r.est })
  left : f r ≡ false → r.shape.at_second ≡ false → r.key ≡ master_key_of root

master_for : (s : Shape) (root : ℕ) (k : KeyName) → s.at_second ≡ false → key_for s root k ≡ master_key_of root
master_for s root k here = rw here refl

module _ (E : ℕ → Option ℕ) (u : Table) (is : IsKeyed E u) (sec : Option Node) (root : ℕ) (k : KeyName) (shape : Row → Shape) (f : Row → Bool) (c : Change)
    (below : root < length u.book.roots) (second : is_some sec ≡ true → IsDrawnKey u.book k) (may : AllByRecursion (MayBeSet u.book root k shape f) u.rows)
    (last : c.plan.g ≡ u.last) (of_sec : c.plan.sec ≡ sec) (of_root : c.root ≡ root) (of_key : c.second_key ≡ k) (items : c.plan.items ≡ map (set_to root k shape) (filter f u.rows))
    (placed : IsPlaced c.plan.sec (carried u c).rows) where
  there : AllByRecursion (λ (r : Row). row u r.id ≡ Some r) u.rows
  there = rows_found u.rows is.placed.ascend

  abbrev news : List Claim
  news = set_claims u c.plan.g root k shape f u.rows

  abbrev claims_then : List Claim
  claims_then = fold with_claim u.book.claims news

  claims_are : (carried u c).book.claims ≡ claims_then
  claims_are = ap (λ is. fold with_claim u.book.claims (flat_map (claims_of u c.plan.g) is)) items

  rows_are : (carried u c).rows ≡ map (set_if u c.plan.g c.plan.sec root k shape f) u.rows
  rows_are =
      ap (λ is. fold (rows_after u c.plan.g c.plan.sec) u.rows is) items ∙ set_rows u c.plan.g c.plan.sec root k shape f u.rows is.placed.ascend

  -- the establishment of each identity
  abbrev of_table : ℕ → ℕ
  of_table id = establishment c.plan.g (Some M) (row u id)

  own : (rows : List Row) → AllByRecursion (λ (r : Row). row u r.id ≡ Some r) rows → AllByRecursion (λ (r : Row). f r ≡ true → (set_claim u c.plan.g root k shape f r).est ≡ of_table r.id) rows
  own [] at = tt
  own (r ∷ rows) at = (λ set. sym (ap (λ o. establishment c.plan.g (Some M) o) at.0), own rows at.1)

  one_then : AreOne claims_then
  one_then =
      one_all of_table news u.book.claims is.one (each_set_claim u c.plan.g root k shape f (λ x. x.est ≡ of_table x.id) u.rows there (own u.rows there))
      (each_set_claim u c.plan.g root k shape f (IsUnspent u.book.claims) u.rows there (each_weaker (MayBeSet u.book root k shape f) _ (λ r m. m.unspent) u.rows may))

  drawn_then : (x : Claim) → is_claimed claims_then x ≡ true → IsDrawnKey u.book x.key
  drawn_then =
      each_claimed (λ x. IsDrawnKey u.book x.key) news u.book.claims is.drawn
      (each_set_claim u c.plan.g root k shape f (λ x. IsDrawnKey u.book x.key) u.rows there (each_weaker (MayBeSet u.book root k shape f) _ (λ r m. m.key) u.rows may))

  claimed_then : AllByRecursion (λ (r : Row). f r ≡ true → is_claimed claims_then (set_claim u c.plan.g root k shape f r) ≡ true) u.rows
  claimed_then = of_set_claim u c.plan.g root k shape f (λ x. is_claimed claims_then x ≡ true) u.rows there (claimed_all news u.book.claims)

  -- a row with all of it
  abbrev IsReady : Row → Type 0
  IsReady r =
      IsKeyedRow E u.book u.last r × ((row u r.id ≡ Some r) × (MayBeSet u.book root k shape f r × (f r ≡ true → is_claimed claims_then (set_claim u c.plan.g root k shape f r) ≡ true)))

  ready : AllByRecursion IsReady u.rows
  ready = each_both _ _ u.rows is.rows (each_both _ _ u.rows there (each_both _ _ u.rows may claimed_then))

  abbrev book_then : Book
  book_then = record u.book { current = root; claims = claims_then }

  by_set : (r : Row) → IsReady r → f r ≡ true → IsKeyedRow E book_then u.last (moved u c.plan.g c.plan.sec root k shape r)
  by_set r it set =
      let est : establishment c.plan.g (Some r.anchor) (row u r.id) ≡ r.est = ap (λ o. establishment c.plan.g (Some r.anchor) o) it.1.0 in
      record {
        claimed = subst (λ e. is_claimed claims_then (record { id = r.id; key = key_for (shape r) root k; est = e }) ≡ true) (sym est) (it.1.1.1 set);
        at_master = λ here. master_for (shape r) root k here;
        latest = it.0.latest ∙ ap Some (sym est);
        upto = subst (λ e. e ≤ u.last) (sym est) it.0.upto;
      }

  by_left : (r : Row) → IsReady r → f r ≡ false → IsKeyedRow E book_then u.last r
  by_left r it left' = record {
    claimed = any_fold (is_same_claim (claim_of r)) news u.book.claims it.0.claimed;
    at_master = λ here. it.1.1.0.left left' here;
    latest = it.0.latest;
    upto = it.0.upto;
  }

  book_is : (carried u c).book ≡ book_then
  book_is = ap (λ cs. record u.book { current = c.root; claims = cs }) claims_are ∙ ap (λ r. record u.book { current = r; claims = claims_then }) of_root

  set_keyed : IsKeyed E (carried u c)
  set_keyed = record {
    placed = placed;
    counts = is.counts;
    current = subst (λ n. n < length u.book.roots) (sym of_root) below;
    drawn = λ x stands. drawn_then x (subst (λ cs. is_claimed cs x ≡ true) claims_are stands);
    one = subst AreOne (sym claims_are) one_then;
    rows =
        subst (λ b. AllByRecursion (IsKeyedRow E b u.last) (carried u c).rows) (sym book_is)
        (subst (λ rs. AllByRecursion (IsKeyedRow E book_then u.last) rs) (sym rows_are) (each_set u c.plan.g c.plan.sec root k shape f IsReady (IsKeyedRow E book_then u.last) by_set by_left u.rows ready));
    second = λ some'. subst (λ x. IsDrawnKey u.book x) (sym of_key) (second (ap is_some (sym of_sec) ∙ some'));
  }

  are_set : AreSet (carried u c) c.plan
  are_set =
      subst (λ is. AllByRecursion (IsSetIn (carried u c) c.plan.g) is) (sym items)
      (all_set_in u c.plan.g root k shape f c.plan.sec (carried u c) u.last rows_are (let same = last in omega (arith, same)) u.rows there
      (each_weaker (IsKeyedRow E u.book u.last) (λ (r : Row). r.est ≤ u.last) (λ r it. it.upto) u.rows is.rows))

-- ---- drafts of rows

none_spent : (cs ns : List Claim) → list_any (λ (c : Claim). is_spent cs c.id c.est c.key) ns ≡ false → AllByRecursion (IsUnspent cs) ns
none_spent cs [] none = tt
none_spent cs (n ∷ ns) none =
    elim (cases_Bool (is_spent cs n.id n.est n.key)) [
      | inl yes' ↦ absurd (let bad : true ≡ false = rw yes' at none in cc)
      | inr no' ↦ (no', none_spent cs ns (rw no' at none))
    ]

mm_here : (s : Shape) → is_mm s ≡ true → s.at_second ≡ false
mm_here s is = elim (cases_Bool s.at_second) [ inl there ↦ absurd (let bad : false ≡ true = rw there at is in cc) | inr here ↦ here ]

all_left : (rows : List Row) → filter (λ r. true) rows ≡ rows
all_left [] = refl
all_left (r ∷ rows) = ap (λ rs. r ∷ rs) (all_left rows)

none_left : (rows : List Row) → filter (λ r. false) rows ≡ []
none_left [] = refl
none_left (r ∷ rows) = none_left rows

from_not : (b : Bool) → not b ≡ false → b ≡ true
from_not true is = refl
from_not false is = absurd (let bad : true ≡ false = is in cc)

found_placed : (r : Row) (rows : List Row) → find (λ x. x.id == r.id) (with_row r rows) ≡ Some r
found_placed r [] = rw (eq-eqb r.id r.id refl) refl
found_placed r (x ∷ xs) =
    elim (cases_Bool (x.id == r.id)) [
      | inl here ↦ rw here (rw (eq-eqb r.id r.id refl) refl)
      | inr apart ↦ elim (cases_Bool (nat_lt r.id x.id)) [
        | inl above ↦ rw apart (rw above (rw (eq-eqb r.id r.id refl) refl))
        | inr below ↦ rw apart (rw below (rw apart (found_placed r xs)))
      ]
    ]

some_is : {X : Type 0} {x y : X} → Some x ≡ Some y → x ≡ y
some_is is = cc

module _ (E : ℕ → Option ℕ) (t : Table) (is : IsKeyed E t) where
  -- a key that was not drawn is not spent
  fresh_unspent : (id est : ℕ) (key : KeyName) → (IsDrawnKey t.book key → ⊥) → is_spent t.book.claims id est key ≡ false
  fresh_unspent id est key not_drawn =
      elim (cases_Bool (is_spent t.book.claims id est key)) [
        | inl spent ↦
            let it = any_found (spends id est key) t.book.claims spent in
            let parts = and_parts (is_for id key it.0) (not (it.0.est == est)) it.2 in
            absurd (not_drawn (subst (λ x. IsDrawnKey t.book x) (sym (for_it id key it.0 parts.0).1) (is.drawn it.0 it.1)))
        | inr no' ↦ no'
      ]

  -- a draft that sets some rows
  abbrev rows_draft : Book → Option Node → ℕ → KeyName → (Row → Shape) → (Row → Bool) → Option (First × Node) → Draft
  rows_draft b sec root k shape f first = record {
    change = record { plan = record { g = t.last + 1; sec = sec; items = map (set_to root k shape) (filter f t.rows) }; root = root; second_key = k };
    book = b;
    first = first;
  }

  by_rows : (b : Book) → Grows t.book b → (sec : Option Node) (root : ℕ) (k : KeyName) (shape : Row → Shape) (f : Row → Bool) (first : Option (First × Node)) → root < length b.roots
      → (is_some sec ≡ true → IsDrawnKey b k) → AllByRecursion (MayBeSet b root k shape f) t.rows
      → IsPlaced sec (carried (with_draft t (rows_draft b sec root k shape f first)) (rows_draft b sec root k shape f first).change).rows → MayDraw (IsKeyed E) AreSet t (rows_draft b sec root k shape f first)
  by_rows b grows sec root k shape f first below second may placed =
      let d = rows_draft b sec root k shape f first in
      let u = with_draft t d in
      let then' : IsKeyed E u = drawn_keyed E t b (t.last + 1) grows (omega arith) is in
      record {
        drawn = then';
        carried_out = set_keyed E u then' sec root k shape f d.change below second may refl refl refl refl refl placed;
        set = are_set E u then' sec root k shape f d.change below second may refl refl refl refl refl placed;
      }

  -- ---- those that keep root and K_SN

  -- the K_SN was drawn where a shape has the anchor at the secondary node
  key_there : (s : Shape) → (not (is_mm s) && is_none t.sec) ≡ false → IsDrawnKey t.book (key_for s t.book.current t.second_key)
  key_there s may =
      elim (cases_Bool s.at_second) [
        | inl there ↦ rw there (is.second (some_there t.sec (other s there)))
        | inr here ↦ rw here (is.current, tt)
      ]
    where
      other : (s : Shape) → s.at_second ≡ true → is_mm s ≡ false
      other s there = elim (cases_Bool (is_mm s)) [ inl mm' ↦ absurd (let bad : true ≡ false = sym there ∙ mm_here s mm' in cc) | inr no' ↦ no' ]

      some_there : (o : Option Node) → is_mm s ≡ false → is_some t.sec ≡ true
      some_there o no' = by t.sec (rw no' at may)
        where
          by : (o : Option Node) → is_none o ≡ false → is_some o ≡ true
          by None none = absurd (let bad : true ≡ false = none in cc)
          by (Some x) none = refl

  kept_rows : (shape : Row → Shape) (f : Row → Bool) → ((r : Row) → IsDrawnKey t.book (key_for (shape r) t.book.current t.second_key))
      → list_any (λ (c : Claim). is_spent t.book.claims c.id c.est c.key) (flat_map (claims_of t (t.last + 1)) (map (set_to t.book.current t.second_key shape) (filter f t.rows))) ≡ false
      → AllByRecursion (MayBeSet t.book t.book.current t.second_key shape f) t.rows
  kept_rows shape f key free =
      let unspent = of_set_claim t (t.last + 1) t.book.current t.second_key shape f (IsUnspent t.book.claims) t.rows (rows_found t.rows is.placed.ascend) (none_spent t.book.claims _ free) in
      each_weaker _ (MayBeSet t.book t.book.current t.second_key shape f)
      (λ r it. record { key = λ set. key r; unspent = it.1; left = λ left' here. it.0.at_master here }) t.rows
      (each_both (IsKeyedRow E t.book t.last) _ t.rows is.rows unspent)

  -- ---- those that draw a K_SN

  next_drawn : IsDrawnKey (with_counter t.book t.book.current) (next_second_key t)
  next_drawn =
      let below = is.current in
      let counts = is.counts in
      let at : counters_drawn (with_counter t.book t.book.current) t.book.current ≡ counters_drawn t.book t.book.current + 1 =
      get_or-set_same t.book.drawn t.book.current (counters_drawn t.book t.book.current + 1) 0 (omega (arith, below, counts)) in
      (below, omega (arith, at))

  next_fresh : IsDrawnKey t.book (next_second_key t) → ⊥
  next_fresh drawn' = absurd (let lt = drawn'.1 in omega (arith, lt))

  renewed_row : (r : Row) → IsKeyedRow E t.book t.last r → IsUnspent t.book.claims (record { id = r.id; key = key_for r.shape t.book.current (next_second_key t); est = r.est })
  renewed_row r it =
      elim (cases_Bool r.shape.at_second) [
        | inl there ↦ rw there (fresh_unspent r.id r.est (next_second_key t) next_fresh)
        | inr here ↦ rw here (subst (λ k. is_spent t.book.claims r.id r.est k ≡ false) (it.at_master here) (is.one (claim_of r) it.claimed))
      ]

  renewed_key : (s : Shape) → IsDrawnKey (with_counter t.book t.book.current) (key_for s t.book.current (next_second_key t))
  renewed_key s = elim (cases_Bool s.at_second) [ inl there ↦ rw there next_drawn | inr here ↦ rw here (is.current, tt) ]

  renewed_rows : (f : Row → Bool) → AllByRecursion (MayBeSet (with_counter t.book t.book.current) t.book.current (next_second_key t) (λ r. r.shape) f) t.rows
  renewed_rows f =
      each_weaker (IsKeyedRow E t.book t.last) (MayBeSet (with_counter t.book t.book.current) t.book.current (next_second_key t) (λ r. r.shape) f)
      (λ r it. record { key = λ set. renewed_key r.shape; unspent = λ set. renewed_row r it; left = λ left' here. it.at_master here }) t.rows is.rows

  by_next : (sec : Option Node) (f : Row → Bool) (first : Option (First × Node))
      → (let d = rows_draft (with_counter t.book t.book.current) sec t.book.current (next_second_key t) (λ r. r.shape) f first in IsPlaced sec (carried (with_draft t d) d.change).rows)
      → MayDraw (IsKeyed E) AreSet t (rows_draft (with_counter t.book t.book.current) sec t.book.current (next_second_key t) (λ r. r.shape) f first)
  by_next sec f first placed =
      by_rows (with_counter t.book t.book.current) (grows_counter t.book t.book.current is.counts is.current) sec t.book.current (next_second_key t) (λ r. r.shape) f first is.current (λ some'. next_drawn)
      (renewed_rows f) placed

  -- ---- those that draw a root

  -- its number
  abbrev number : ℕ
  number = length t.book.roots

  module _ (root : List ℕ) where
    rooted_count : (o : Option Node) → length (book_with_root t root o).roots ≡ number + 1
    rooted_count None = root_count t.book root
    rooted_count (Some x) = root_count t.book root

    first_drawn : (o : Option Node) → is_some o ≡ true → IsDrawnKey (book_with_root t root o) (second_key_of number 0)
    first_drawn None there = absurd (let bad : false ≡ true = there in cc)
    first_drawn (Some x) there =
        let count = root_count t.book root in
        let drawn' : length (t.book.drawn ++ 0 ∷ []) ≡ length t.book.drawn + 1 = length-append t.book.drawn (0 ∷ []) in
        let counts = is.counts in
        let at : counters_drawn (with_counter (noting t.book root) number) number ≡ counters_drawn (noting t.book root) number + 1 =
        get_or-set_same (noting t.book root).drawn number (counters_drawn (noting t.book root) number + 1) 0 (omega (arith, drawn', counts)) in
        (omega (arith, count), omega (arith, at))

    new_fresh : (s : Side) → IsDrawnKey t.book (record { root = number; side = s }) → ⊥
    new_fresh s drawn' = let lt = drawn'.0 in absurd (omega (arith, lt))

    new_unspent : (s : Shape) (id est : ℕ) → is_spent t.book.claims id est (key_for s number (second_key_of number 0)) ≡ false
    new_unspent s id est =
        elim (cases_Bool s.at_second) [
          | inl there ↦ rw there (fresh_unspent id est (second_key_of number 0) (new_fresh (Second 0)))
          | inr here ↦ rw here (fresh_unspent id est (master_key_of number) (new_fresh Master))
        ]

    new_key : (o : Option Node) (r : Row) → (o ≡ None → is_mm r.shape ≡ true) → IsDrawnKey (book_with_root t root o) (key_for r.shape number (second_key_of number 0))
    new_key o r alone =
        elim (cases_Bool r.shape.at_second) [
          | inl there ↦ rw there (first_drawn o (by o alone there))
          | inr here ↦ rw here (let count = rooted_count o in omega (arith, count), tt)
        ]
      where
        by : (o : Option Node) → (o ≡ None → is_mm r.shape ≡ true) → r.shape.at_second ≡ true → is_some o ≡ true
        by None alone there = absurd (let bad : true ≡ false = sym there ∙ mm_here r.shape (alone refl) in cc)
        by (Some x) alone there = refl

    same_claims : (o : Option Node) → (book_with_root t root o).claims ≡ t.book.claims
    same_claims None = refl
    same_claims (Some x) = refl

    rooted_rows : (rows : List Row) → (t.sec ≡ None → AllByRecursion (λ (r : Row). is_mm r.shape ≡ true) rows)
        → AllByRecursion (MayBeSet (book_with_root t root t.sec) number (second_key_of number 0) (λ r. r.shape) (λ r. true)) rows
    rooted_rows [] alone = tt
    rooted_rows (r ∷ rows) alone = (
      record {
        key = λ set. new_key t.sec r (λ none. (alone none).0);
        unspent = λ set. subst (λ cs. is_spent cs r.id r.est (key_for r.shape number (second_key_of number 0)) ≡ false) (sym (same_claims t.sec)) (new_unspent r.shape r.id r.est);
        left = λ left' here. absurd (let bad : true ≡ false = left' in cc);
      },
      rooted_rows rows (λ none. (alone none).1),
    )

    by_root : (first : Option (First × Node))
        → (let d = rows_draft (book_with_root t root t.sec) t.sec number (second_key_of number 0) (λ r. r.shape) (λ r. true) first in IsPlaced t.sec (carried (with_draft t d) d.change).rows)
        → MayDraw (IsKeyed E) AreSet t (rows_draft (book_with_root t root t.sec) t.sec number (second_key_of number 0) (λ r. r.shape) (λ r. true) first)
    by_root first placed =
        by_rows (book_with_root t root t.sec) (grows_root t root is.counts t.sec) t.sec number (second_key_of number 0) (λ r. r.shape) (λ r. true) first
        (let count = rooted_count t.sec in omega (arith, count)) (first_drawn t.sec) (rooted_rows t.rows is.placed.alone) placed

  -- ---- one bearer

  module _ (id : ℕ) (n : SnLen) (first : ℕ) (shape : Shape) (threshold policy : ℕ) (who : Option (First × Node)) where
    abbrev set_up : Change
    set_up = record {
      plan = record { g = t.last + 1; sec = t.sec; items = item.Set id n first shape threshold policy (key_for shape t.book.current t.second_key) None ∷ [] };
      root = t.book.current;
      second_key = t.second_key;
    }

    abbrev new_claim : Claim
    new_claim = record { id = id; key = key_for shape t.book.current t.second_key; est = t.last + 1 }

    abbrev new_row : Row
    new_row = record {
      id = id;
      est = t.last + 1;
      n = n;
      first = first;
      shape = shape;
      threshold = threshold;
      policy = policy;
      key = key_for shape t.book.current t.second_key;
      anchor = anchor_at t.sec shape;
      g = t.last + 1;
    }

    by_bearer : IsUnspent t.book.claims new_claim → IsDrawnKey t.book (key_for shape t.book.current t.second_key) → E id ≡ Some (t.last + 1)
        → IsPlaced t.sec (carried (with_draft t (record { change = set_up; book = t.book; first = who })) set_up).rows
        → MayDraw (IsKeyed E) AreSet t (record { change = set_up; book = t.book; first = who })
    by_bearer unspent key latest placed =
        let u : Table = record t { last = t.last + 1 } in
        let then' : IsKeyed E u = drawn_keyed E t t.book (t.last + 1) (grows_same t.book is.counts) (omega arith) is in
        let book : Book = record t.book { claims = with_claim t.book.claims new_claim } in
        record {
          drawn = then';
          carried_out = record {
            placed = placed;
            counts = is.counts;
            current = is.current;
            drawn = each_claimed (λ x. IsDrawnKey t.book x.key) (new_claim ∷ []) t.book.claims is.drawn (key, tt);
            one = one_all (λ i. t.last + 1) (new_claim ∷ []) t.book.claims is.one (refl, tt) (unspent, tt);
            rows =
                each_placed (IsKeyedRow E book (t.last + 1)) new_row t.rows
                (record { claimed = (claimed_all (new_claim ∷ []) t.book.claims).0; at_master = λ here. master_for shape t.book.current t.second_key here; latest = latest; upto = omega arith })
                (each_weaker (IsKeyedRow E t.book (t.last + 1)) (IsKeyedRow E book (t.last + 1))
                (λ r it. record { claimed = any_fold (is_same_claim (claim_of r)) (new_claim ∷ []) t.book.claims it.claimed; at_master = it.at_master; latest = it.latest; upto = it.upto }) t.rows then'.rows);
            second = is.second;
          };
          set = ((new_row, found_placed new_row t.rows, refl, omega arith), tt);
        }

  by_drop : (id : ℕ) (who : Option (First × Node))
      → (let c : Change = record { plan = record { g = t.last + 1; sec = t.sec; items = item.Unset id ∷ [] }; root = t.book.current; second_key = t.second_key } in
      IsPlaced t.sec (carried (with_draft t (record { change = c; book = t.book; first = who })) c).rows → MayDraw (IsKeyed E) AreSet t (record { change = c; book = t.book; first = who }))
  by_drop id who = λ placed.
      let then' : IsKeyed E (record t { last = t.last + 1 }) = drawn_keyed E t t.book (t.last + 1) (grows_same t.book is.counts) (omega arith) is in
      record {
        drawn = then';
        carried_out = record {
          placed = placed;
          counts = is.counts;
          current = is.current;
          drawn = is.drawn;
          one = is.one;
          rows = each_left (IsKeyedRow E t.book (t.last + 1)) (λ r. not (r.id == id)) t.rows then'.rows;
          second = is.second;
        };
        set = (tt, tt);
      }

  -- ---- each command

  -- drafts that draw a key, of these rows
  abbrev next_draft : Option Node → Option (First × Node) → List Row → Draft
  next_draft sec first rows = record {
    change = record {
      plan = record { g = t.last + 1; sec = sec; items = map (set_to t.book.current (next_second_key t) (λ r. r.shape)) rows };
      root = t.book.current;
      second_key = next_second_key t;
    };
    book = with_counter t.book t.book.current;
    first = first;
  }

  abbrev root_draft : List ℕ → Option (First × Node) → List Row → Draft
  root_draft root first rows = record {
    change = record {
      plan = record { g = t.last + 1; sec = t.sec; items = map (set_to number (second_key_of number 0) (λ r. r.shape)) rows };
      root = number;
      second_key = second_key_of number 0;
    };
    book = book_with_root t root t.sec;
    first = first;
  }

  or_false : (a : Bool) → (a || false) ≡ a
  or_false true = refl
  or_false false = refl

  pub draws_keyed : (e : Event) (d : Draft) → IsApt E t e → draft t e ≡ Some d → MayDraw (IsKeyed E) AreSet t d
  draws_keyed (event.Bearer id n first shape threshold policy) d apt at =
      let one = apt.unspent refl in
      subst (MayDraw (IsKeyed E) AreSet t) (some_is at)
      (by_bearer id n first shape threshold policy _ (sym (or_false (is_spent t.book.claims id (t.last + 1) (key_for shape t.book.current t.second_key))) ∙ one) (key_there shape apt.allowed) apt.latest
      (fits_for t is.placed (event.Bearer id n first shape threshold policy) _ refl apt.allowed).1)
  draws_keyed (event.Reshape id shape) d apt at =
      subst (MayDraw (IsKeyed E) AreSet t) (some_is at)
      (by_rows t.book (grows_same t.book is.counts) t.sec t.book.current t.second_key (λ r. shape) (λ r. r.id == id) _ is.current is.second
      (kept_rows (λ r. shape) (λ r. r.id == id) (λ r. key_there shape apt.allowed) (apt.unspent refl)) (fits_for t is.placed (event.Reshape id shape) _ refl apt.allowed).1)
  draws_keyed (event.Remove id) d apt at =
      subst (MayDraw (IsKeyed E) AreSet t) (some_is at) (by_drop id _ (fits_for t is.placed (event.Remove id) _ refl apt.allowed).1)
  draws_keyed (event.Add node) d apt at =
      let placed = (fits_for t is.placed (event.Add node) _ refl apt.allowed).1 in
      let none = none_left t.rows in
      let of_items : List Row → Type 0 =
      λ rows. let d = next_draft (Some node) (Some (addition, node)) rows in IsPlaced (Some node) (carried (with_draft t d) d.change).rows → MayDraw (IsKeyed E) AreSet t d in
      subst (MayDraw (IsKeyed E) AreSet t) (some_is at) (subst of_items none (by_next (Some node) (λ r. false) (Some (addition, node))) placed)
  draws_keyed event.Change d apt at =
      subst (MayDraw (IsKeyed E) AreSet t) (some_is at) (by_next (next_second t.sec) (λ r. not (is_mm r.shape)) _ (fits_for t is.placed event.Change _ refl apt.allowed).1)
  draws_keyed event.Release d apt at =
      subst (MayDraw (IsKeyed E) AreSet t) (some_is at)
      (by_rows t.book (grows_same t.book is.counts) None t.book.current t.second_key (λ r. mm) (λ r. not (is_mm r.shape)) _ is.current (λ some'. absurd (let bad : false ≡ true = some' in cc))
      (kept_rows (λ r. mm) (λ r. not (is_mm r.shape)) (λ r. (is.current, tt)) (apt.unspent refl)) (fits_for t is.placed event.Release _ refl apt.allowed).1)
  draws_keyed event.RekeySecond d apt at =
      subst (MayDraw (IsKeyed E) AreSet t) (some_is at) (by_next t.sec (λ r. r.shape.at_second) _ (fits_for t is.placed event.RekeySecond _ refl apt.allowed).1)
  draws_keyed (event.RekeyMaster root) d apt at =
      let placed = (fits_for t is.placed (event.RekeyMaster root) _ refl apt.allowed).1 in
      let of_items : List Row → Type 0 =
      λ rows. let d = root_draft root (asking modification t.sec) rows in IsPlaced t.sec (carried (with_draft t d) d.change).rows → MayDraw (IsKeyed E) AreSet t d in
      subst (MayDraw (IsKeyed E) AreSet t) (some_is at) (subst of_items (all_left t.rows) (by_root root (asking modification t.sec)) placed)
  draws_keyed (event.Recover id) d apt at = absurd (let bad : None ≡ Some d = at in cc)
  draws_keyed (event.Report x id) d apt at = absurd (let bad : None ≡ Some d = at in cc)
  draws_keyed (event.Deny x on) d apt at = absurd (let bad : None ≡ Some d = at in cc)
  draws_keyed (event.Ask x w) d apt at = absurd (let bad : None ≡ Some d = at in cc)
  draws_keyed event.ScgFail d apt at = absurd (let bad : None ≡ Some d = at in cc)
  draws_keyed (event.Submit id dir payload) d apt at = absurd (let bad : None ≡ Some d = at in cc)
  draws_keyed (event.Step l i) d apt at = absurd (let bad : None ≡ Some d = at in cc)
  draws_keyed (event.Lose l i) d apt at = absurd (let bad : None ≡ Some d = at in cc)
  draws_keyed (event.Again l i) d apt at = absurd (let bad : None ≡ Some d = at in cc)
