-- What a command draws keeps the bearers placed, and no establishment is of a later generation.
use Rattle.std.proofs.Common.{ℕ, ◌≡◌, ◌+◌, ◌≤◌, ◌==◌, ◌&&◌, Bool, true, false, List, [], ◌∷◌, Option, Some, None, refl, sym, ap, subst, ◌∙◌, inl, inr}
use Rattle.std.specs.Prelude.{filter, find, fold, is_none, is_some, length, map, not, ⊤}
use Rattle.std.specs.List.{AllByRecursion, flat_map}
use Rattle.std.proofs.lemmas.Bool.{cases_Bool}
use Rattle.dc_base.specs.Nodes.{is_mm, is_secondary}
use Rattle.dc_base.specs.declared.events.Event.{Event}
use Rattle.dc_base.specs.declared.events.Event.TheVariants as event
use Rattle.dc_base.specs.declared.nodes.KeyName.{KeyName}
use Rattle.dc_base.specs.declared.nodes.Node.{Node}
use Rattle.dc_base.specs.declared.nodes.Node.TheVariants.{A, B, M, T}
use Rattle.dc_base.specs.declared.nodes.Shape.{Shape}
use Rattle.dc_base.specs.declared.records.Item.{Item}
use Rattle.dc_base.specs.declared.records.Item.TheVariants.{Set, Unset}
use Rattle.key_chain.specs.Book.{Book, Claim, is_claimed, with_claim}
use Rattle.transcript.proofs.OnEach.{each_append}
use Rattle.node_rules.specs.CommandTable.{Table, carried, claims_of, establishment, row, rows_after, second_key_of, with_counter}
use Rattle.node_rules.specs.Drafts.{Draft, book_with_root, draft, next_second, next_second_key, second_rows, set_to, shared_rows}
use Rattle.node_rules.specs.Places.{anchor_at, mm}
use Rattle.node_rules.specs.declared.commands.Row.{Row}
use Rattle.run_control.specs.Sound.{IsSecond}
use Rattle.run_table.specs.SameTable.{AreFit, IsOld, IsPlaced}
use Rattle.run_table.proofs.Rows.{each_left, each_placed, each_set, each_weaker, left_ascend, placed_ascend, set_ascend, set_if, set_rows}

-- ---- shapes

-- the anchor of a bearer that is the master's alone
mm_anchor : (o : Option Node) (s : Shape) → is_mm s ≡ true → anchor_at o s ≡ M
mm_anchor o s is =
    elim (cases_Bool s.at_second) [
      | inl there ↦ let n = rw there at is in absurd cc
      | inr here ↦ rw here refl
    ]

pub each_both : {X : Type 0} (P Q : X → Type 0) (xs : List X) → AllByRecursion P xs → AllByRecursion Q xs → AllByRecursion (λ x. P x × Q x) xs
each_both P Q [] p q = tt
each_both P Q (x ∷ xs) p q = ((p.0, q.0), each_both P Q xs p.1 q.1)

-- ---- items

fit_olds : (is : List Item) → AllByRecursion IsOld is → AreFit is
fit_olds [] all = tt
fit_olds (i ∷ []) all = tt
fit_olds (i ∷ j ∷ is) all = all

olds : (root : ℕ) (k : KeyName) (shape : Row → Shape) (rows : List Row) → AllByRecursion IsOld (map (set_to root k shape) rows)
olds root k shape [] = tt
olds root k shape (r ∷ rows) = (tt, olds root k shape rows)

all_left : (rows : List Row) → filter (λ r. true) rows ≡ rows
all_left [] = refl
all_left (r ∷ rows) = ap (λ rs. r ∷ rs) (all_left rows)

-- ---- a draft

-- the command is not refused for want of a secondary node, or because there is one
abbrev pub IsAllowed : Option Node → Event → Type 0
IsAllowed sec (event.Bearer id n first shape threshold policy) = (not (is_mm shape) && is_none sec) ≡ false
IsAllowed sec (event.Reshape id shape) = (not (is_mm shape) && is_none sec) ≡ false
IsAllowed sec (event.Add x) = (sec ≡ None) × (is_secondary x ≡ true)
IsAllowed sec event.Change = is_some sec ≡ true
IsAllowed sec _ = ⊤

shape_allowed : (sec : Option Node) (s : Shape) → (not (is_mm s) && is_none sec) ≡ false → sec ≡ None → is_mm s ≡ true
shape_allowed sec s may none =
    elim (cases_Bool (is_mm s)) [ inl yes' ↦ yes' | inr no' ↦ let n = rw (no', none) at may in absurd cc ]

some_is : {X : Type 0} {x y : X} → Some x ≡ Some y → x ≡ y
some_is is = cc

from_not : (b : Bool) → not b ≡ false → b ≡ true
from_not true is = refl
from_not false is = absurd cc

next_there : (o : Option Node) → is_some o ≡ true → next_second o ≡ None → ⊥
next_there None some' none = absurd cc
next_there (Some x) some' none = absurd cc

next_is : (o : Option Node) → IsSecond (next_second o)
next_is None = tt
next_is (Some A) = refl
next_is (Some B) = refl
next_is (Some M) = refl
next_is (Some T) = refl

module _ (m : Table) (placed : IsPlaced m.sec m.rows) where
  -- the table once a draft is drawn
  abbrev pub with_draft : Draft → Table
  with_draft d = record m { book = d.book; last = d.change.plan.g }

  -- rows set anew for this secondary node, under whatever book
  module _ (b : Book) (g : ℕ) (sec : Option Node) (root : ℕ) (k : KeyName) (shape : Row → Shape) (f : Row → Bool)
      (second : IsSecond sec) (stays : (r : Row) → r.anchor ≡ anchor_at m.sec r.shape → f r ≡ false → r.anchor ≡ anchor_at sec r.shape)
      (alone : sec ≡ None → AllByRecursion (λ (r : Row). is_mm r.shape ≡ true) (map (set_if (record m { book = b; last = g }) g sec root k shape f) m.rows)) where
    placed_anew : IsPlaced sec (fold (rows_after (record m { book = b; last = g }) g sec) m.rows (map (set_to root k shape) (filter f m.rows)))
    placed_anew =
        let t = record m { book = b; last = g } in
        let done = map (set_if t g sec root k shape f) m.rows in
        let all : IsPlaced sec done = record {
          anchors =
              each_set t g sec root k shape f (λ (r : Row). r.anchor ≡ anchor_at m.sec r.shape) (λ (r : Row). r.anchor ≡ anchor_at sec r.shape) (λ r is set. refl) stays m.rows placed.anchors;
          alone = alone;
          ascend = set_ascend t g sec root k shape f m.rows placed.ascend;
          second = second;
        } in
        subst (λ rows. IsPlaced sec rows) (sym (set_rows t g sec root k shape f m.rows placed.ascend)) all

  -- none is left without the master where there is no secondary node
  alone_anew : (b : Book) (g : ℕ) (sec : Option Node) (root : ℕ) (k : KeyName) (shape : Row → Shape) (f : Row → Bool) (P : Row → Type 0) → AllByRecursion P m.rows
      → ((r : Row) → P r → f r ≡ true → is_mm (shape r) ≡ true) → ((r : Row) → P r → f r ≡ false → is_mm r.shape ≡ true)
      → AllByRecursion (λ (r : Row). is_mm r.shape ≡ true) (map (set_if (record m { book = b; last = g }) g sec root k shape f) m.rows)
  alone_anew b g sec root k shape f P all by_set by_left = each_set (record m { book = b; last = g }) g sec root k shape f P (λ (r : Row). is_mm r.shape ≡ true) by_set by_left m.rows all

  mm_left : (sec : Option Node) (r : Row) → r.anchor ≡ anchor_at m.sec r.shape → not (is_mm r.shape) ≡ false → r.anchor ≡ anchor_at sec r.shape
  mm_left sec r is left' = let own : is_mm r.shape ≡ true = from_not (is_mm r.shape) left' in is ∙ mm_anchor m.sec r.shape own ∙ sym (mm_anchor sec r.shape own)

  pub fits_for : (e : Event) (d : Draft) → draft m e ≡ Some d → IsAllowed m.sec e → AreFit d.change.plan.items × IsPlaced d.change.plan.sec (carried (with_draft d) d.change).rows
  fits_for (event.Bearer id n first shape threshold policy) d is may =
      subst (λ (d : Draft). AreFit d.change.plan.items × IsPlaced d.change.plan.sec (carried (with_draft d) d.change).rows) (some_is is) (
        tt,
        record {
          anchors = each_placed (λ (r : Row). r.anchor ≡ anchor_at m.sec r.shape) _ m.rows refl placed.anchors;
          alone = λ none. each_placed (λ (r : Row). is_mm r.shape ≡ true) _ m.rows (shape_allowed m.sec shape may none) (placed.alone none);
          ascend = placed_ascend _ m.rows placed.ascend;
          second = placed.second;
        },
      )
  fits_for (event.Reshape id shape) d is may =
      subst (λ (d : Draft). AreFit d.change.plan.items × IsPlaced d.change.plan.sec (carried (with_draft d) d.change).rows) (some_is is) (
        fit_olds _ (olds m.book.current m.second_key (λ r. shape) (filter (λ r. r.id == id) m.rows)),
        placed_anew m.book (m.last + 1) m.sec m.book.current m.second_key (λ r. shape) (λ r. r.id == id) placed.second (λ r is left'. is)
            (λ none. alone_anew m.book (m.last + 1) m.sec m.book.current m.second_key (λ r. shape) (λ r. r.id == id) (λ (r : Row). is_mm r.shape ≡ true) (placed.alone none)
            (λ r is yes'. shape_allowed m.sec shape may none) (λ r is left'. is)),
      )
  fits_for (event.Remove id) d is may =
      subst (λ (d : Draft). AreFit d.change.plan.items × IsPlaced d.change.plan.sec (carried (with_draft d) d.change).rows) (some_is is) (
        tt,
        record {
          anchors = each_left (λ (r : Row). r.anchor ≡ anchor_at m.sec r.shape) _ m.rows placed.anchors;
          alone = λ none. each_left (λ (r : Row). is_mm r.shape ≡ true) _ m.rows (placed.alone none);
          ascend = left_ascend _ m.rows placed.ascend;
          second = placed.second;
        },
      )
  fits_for (event.Add x) d is may =
      subst (λ (d : Draft). AreFit d.change.plan.items × IsPlaced d.change.plan.sec (carried (with_draft d) d.change).rows) (some_is is) (
        tt,
        record {
          anchors =
              each_weaker (λ (r : Row). (r.anchor ≡ anchor_at m.sec r.shape) × (is_mm r.shape ≡ true)) (λ (r : Row). r.anchor ≡ anchor_at (Some x) r.shape)
              (λ r both'. both'.0 ∙ mm_anchor m.sec r.shape both'.1 ∙ sym (mm_anchor (Some x) r.shape both'.1)) m.rows
              (each_both (λ (r : Row). r.anchor ≡ anchor_at m.sec r.shape) (λ (r : Row). is_mm r.shape ≡ true) m.rows placed.anchors (placed.alone may.0));
          alone = λ none. absurd cc;
          ascend = placed.ascend;
          second = may.1;
        },
      )
  fits_for event.Change d is may =
      subst (λ (d : Draft). AreFit d.change.plan.items × IsPlaced d.change.plan.sec (carried (with_draft d) d.change).rows) (some_is is)
      (let k = next_second_key m in (
        fit_olds _ (olds m.book.current k (λ r. r.shape) (shared_rows m)),
        placed_anew (with_counter m.book m.book.current) (m.last + 1) (next_second m.sec) m.book.current k (λ r. r.shape) (λ r. not (is_mm r.shape)) (next_is m.sec) (mm_left (next_second m.sec))
            (λ none. absurd (next_there m.sec may none)),
      ))
  fits_for event.Release d is may =
      subst (λ (d : Draft). AreFit d.change.plan.items × IsPlaced d.change.plan.sec (carried (with_draft d) d.change).rows) (some_is is) (
        fit_olds _ (olds m.book.current m.second_key (λ r. mm) (shared_rows m)),
        placed_anew m.book (m.last + 1) None m.book.current m.second_key (λ r. mm) (λ r. not (is_mm r.shape)) tt (mm_left None)
            (λ none. alone_anew m.book (m.last + 1) None m.book.current m.second_key (λ r. mm) (λ r. not (is_mm r.shape)) (λ r. r.anchor ≡ anchor_at m.sec r.shape) placed.anchors
            (λ r is yes'. refl) (λ r is left'. from_not (is_mm r.shape) left')),
      )
  fits_for event.RekeySecond d is may =
      subst (λ (d : Draft). AreFit d.change.plan.items × IsPlaced d.change.plan.sec (carried (with_draft d) d.change).rows) (some_is is)
      (let k = next_second_key m in (
        fit_olds _ (olds m.book.current k (λ r. r.shape) (second_rows m)),
        placed_anew (with_counter m.book m.book.current) (m.last + 1) m.sec m.book.current k (λ r. r.shape) (λ r. r.shape.at_second) placed.second (λ r is left'. is)
            (λ none. alone_anew (with_counter m.book m.book.current) (m.last + 1) m.sec m.book.current k (λ r. r.shape) (λ r. r.shape.at_second) (λ (r : Row). is_mm r.shape ≡ true) (placed.alone none)
            (λ r is yes'. is) (λ r is left'. is)),
      ))
  fits_for (event.RekeyMaster octets) d is may =
      subst (λ (d : Draft). AreFit d.change.plan.items × IsPlaced d.change.plan.sec (carried (with_draft d) d.change).rows) (some_is is)
      (let k = second_key_of (length m.book.roots) 0 in
      let n = length m.book.roots in
      let b = book_with_root m octets m.sec in (
        fit_olds _ (olds n k (λ r. r.shape) m.rows),
        subst (λ rows. IsPlaced m.sec (fold (rows_after (record m { book = b; last = m.last + 1 }) (m.last + 1) m.sec) m.rows (map (set_to n k (λ r. r.shape)) rows))) (all_left m.rows)
            (placed_anew b (m.last + 1) m.sec n k (λ r. r.shape) (λ r. true) placed.second (λ r is left'. is)
            (λ none. alone_anew b (m.last + 1) m.sec n k (λ r. r.shape) (λ r. true) (λ (r : Row). is_mm r.shape ≡ true) (placed.alone none) (λ r is yes'. is) (λ r is left'. is))),
      ))
  fits_for (event.Recover id) d is may = absurd cc
  fits_for (event.Report x id) d is may = absurd cc
  fits_for (event.Deny x on) d is may = absurd cc
  fits_for (event.Ask x w) d is may = absurd cc
  fits_for event.ScgFail d is may = absurd cc
  fits_for (event.Submit id dir sdu) d is may = absurd cc
  fits_for (event.Step l i) d is may = absurd cc
  fits_for (event.Lose l i) d is may = absurd cc
  fits_for (event.Again l i) d is may = absurd cc

-- ---- establishments

pub found_holds : (n : ℕ) (id : ℕ) (rows : List Row) (g : ℕ) (old : Option Node) → g ≤ n → AllByRecursion (λ (r : Row). r.est ≤ n) rows
    → establishment g old (find (λ r. r.id == id) rows) ≤ n
found_holds n id rows g None le all = le
found_holds n id [] g (Some old) le all = le
found_holds n id (r ∷ rows) g (Some old) le all =
    elim (cases_Bool (r.id == id)) [ inl here ↦ rw here all.0 | inr apart ↦ rw apart (found_holds n id rows g (Some old) le all.1) ]

module _ (t : Table) (n : ℕ) (g : ℕ) (le : g ≤ n) (all : AllByRecursion (λ (r : Row). r.est ≤ n) t.rows) where
  pub rows_below : (sec : Option Node) (is : List Item) (rows : List Row) → AllByRecursion (λ (r : Row). r.est ≤ n) rows → AllByRecursion (λ (r : Row). r.est ≤ n) (fold (rows_after t g sec) rows is)
  rows_below sec [] rows below = below
  rows_below sec (Set id k first shape threshold policy key old ∷ is) rows below =
      rows_below sec is _ (each_placed (λ (r : Row). r.est ≤ n) _ rows (found_holds n id t.rows g old le all) below)
  rows_below sec (Unset id ∷ is) rows below = rows_below sec is _ (each_left (λ (r : Row). r.est ≤ n) _ rows below)

  claim_below : (cs : List Claim) (c : Claim) → AllByRecursion (λ (x : Claim). x.est ≤ n) cs → c.est ≤ n → AllByRecursion (λ (x : Claim). x.est ≤ n) (with_claim cs c)
  claim_below cs c below here =
      elim (cases_Bool (is_claimed cs c)) [
        | inl there ↦ rw there below
        | inr new ↦ rw new (each_append (λ (x : Claim). x.est ≤ n) cs (c ∷ []) below (here, tt))
      ]

  pub claims_below : (is : List Item) (cs : List Claim) → AllByRecursion (λ (x : Claim). x.est ≤ n) cs → AllByRecursion (λ (x : Claim). x.est ≤ n) (fold with_claim cs (flat_map (claims_of t g) is))
  claims_below [] cs below = below
  claims_below (Set id k first shape threshold policy key old ∷ is) cs below =
      claims_below is _ (claim_below cs (record { id = id; key = key; est = establishment g old (row t id) }) below (found_holds n id t.rows g old le all))
  claims_below (Unset id ∷ is) cs below = claims_below is cs below
