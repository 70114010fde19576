-- What the items of a plan make of one bearer, where no two are of one identity: what its own item makes of it.
use Rattle.std.proofs.Common.{ℕ, ◌≡◌, ◌+◌, ◌==◌, ◌++◌, ◌∙◌, Bool, true, false, List, [], ◌∷◌, Option, Some, None, refl, sym, ap, subst, arith}
use Rattle.std.specs.List.{find, list_any}
use Rattle.std.specs.Prelude.{if◌then◌else◌, ⊤}
use Rattle.dc_base.specs.Records.{item_id}
use Rattle.dc_base.specs.declared.records.Item.{Item}
use Rattle.node_rules.specs.Choices.{Send}
use Rattle.run_control.specs.SecondControl.{Views, at_id}
use Rattle.run_control.specs.Views.{View}
use Rattle.run_control.proofs.Turns.{or_first, or_later}
use Rattle.std.proofs.lemmas.Bool.{eqb-true}
use Rattle.run_pairs.specs.Bearers.{AreApart}
use Rattle.run_places.proofs.Counting.{sent, sent_append}

-- the anchor held under an identity is of that bearer
abbrev pub IsNamed : ℕ → Option View → Type 0
IsNamed k None = ⊤
IsNamed k (Some v) = v.bearer.id ≡ k

-- each is
abbrev pub AreNamed : Views → Type 0
AreNamed views = (k : ℕ) → IsNamed k (views k)

-- ---- a plan, by what each item makes of the view of its bearer, and by what is sent

module _ (f : Item → Option View → Option View) (s : Item → Option View → List Send) where
  abbrev pub made_by : List Item → Views → Views
  made_by [] views = views
  made_by (i ∷ items) views = made_by items (at_id (item_id i) (f i (views (item_id i))) views)

  abbrev pub sends_by : List Item → Views → List Send
  sends_by [] views = []
  sends_by (i ∷ items) views = s i (views (item_id i)) ++ sends_by items (at_id (item_id i) (f i (views (item_id i))) views)

  -- names stay, and an item sends nothing of another bearer
  pub record IsOwn : Type 0 where
    pub names : (i : Item) (o : Option View) → IsNamed (item_id i) o → IsNamed (item_id i) (f i o)
    pub others : (i : Item) (o : Option View) (k : ℕ) → IsNamed (item_id i) o → (item_id i == k) ≡ false → sent k (s i o) ≡ 0

  module _ (own : IsOwn) where
    named_next : (i : Item) (views : Views) → AreNamed views → AreNamed (at_id (item_id i) (f i (views (item_id i))) views)
    named_next i views named k = by (item_id i == k) refl
      where
        by : (b : Bool) → (item_id i == k) ≡ b → IsNamed k (if b then f i (views (item_id i)) else views k)
        by true here = subst (λ n. IsNamed n (f i (views (item_id i)))) (eqb-true (item_id i) k here) (own.names i (views (item_id i)) (named (item_id i)))
        by false apart = named k

    pub all_named : (items : List Item) (views : Views) → AreNamed views → AreNamed (made_by items views)
    all_named [] views named = named
    all_named (i ∷ items) views named = all_named items (at_id (item_id i) (f i (views (item_id i))) views) (named_next i views named)

    -- a bearer of which no item is stays, and nothing of it is sent
    unnamed : (items : List Item) (views : Views) (k : ℕ) → AreNamed views → list_any (λ j. item_id j == k) items ≡ false → (made_by items views k ≡ views k) × (sent k (sends_by items views) ≡ 0)
    unnamed [] views k named none = (refl, refl)
    unnamed (i ∷ items) views k named none =
        let apart : (item_id i == k) ≡ false = or_first (item_id i == k) (list_any (λ j. item_id j == k) items) none in
        let next = at_id (item_id i) (f i (views (item_id i))) views in
        let rest = unnamed items next k (named_next i views named) (or_later (item_id i == k) (list_any (λ j. item_id j == k) items) none) in (
          rest.0 ∙ ap (λ b. if b then f i (views (item_id i)) else views k) apart,
          sent_append k (s i (views (item_id i))) (sends_by items next) ∙ omega (arith, rest.1, own.others i (views (item_id i)) k (named (item_id i)) apart),
        )

    -- what becomes of a bearer
    pub data OneItem (items : List Item) (views : Views) (k : ℕ) : Type 0 where
      untouched : (none : find (λ j. item_id j == k) items ≡ None) → (stays : made_by items views k ≡ views k) → (silent : sent k (sends_by items views) ≡ 0) → OneItem items views k
      by_item : (i : Item) → (found : find (λ j. item_id j == k) items ≡ Some i) → (here : item_id i ≡ k) → (becomes : made_by items views k ≡ f i (views k)) → (says : sent k (sends_by items views) ≡ sent k (s i (views k))) → OneItem items views k

    pub one_item : (items : List Item) (views : Views) (k : ℕ) → AreApart items → AreNamed views → OneItem items views k
    one_item [] views k apart named = untouched refl refl refl
    one_item (i ∷ items) views k apart named = by (item_id i == k) refl (one_item items next k apart.1 (named_next i views named))
      where
        next : Views
        next = at_id (item_id i) (f i (views (item_id i))) views

        later : (item_id i == k) ≡ false → OneItem items next k → OneItem (i ∷ items) views k
        later other (untouched none stays silent) =
            untouched (ap (λ b. if b then Some i else find (λ j. item_id j == k) items) other ∙ none) (stays ∙ ap (λ b. if b then f i (views (item_id i)) else views k) other)
            (sent_append k (s i (views (item_id i))) (sends_by items next) ∙ omega (arith, silent, own.others i (views (item_id i)) k (named (item_id i)) other))
        later other (by_item j found here becomes says) =
            let same : next k ≡ views k = ap (λ b. if b then f i (views (item_id i)) else views k) other in
            by_item j (ap (λ b. if b then Some i else find (λ j. item_id j == k) items) other ∙ found) here (becomes ∙ ap (f j) same)
            (sent_append k (s i (views (item_id i))) (sends_by items next) ∙ omega (arith, says ∙ ap (λ o. sent k (s j o)) same, own.others i (views (item_id i)) k (named (item_id i)) other))

        by : (b : Bool) → (item_id i == k) ≡ b → OneItem items next k → OneItem (i ∷ items) views k
        by true here more =
            let same : item_id i ≡ k = eqb-true (item_id i) k here in
            let rest = unnamed items next k (named_next i views named) (subst (λ n. list_any (λ j. item_id j == n) items ≡ false) same apart.0) in
            by_item i (ap (λ b. if b then Some i else find (λ j. item_id j == k) items) here) same
            (rest.0 ∙ ap (λ b. if b then f i (views (item_id i)) else views k) here ∙ ap (λ n. f i (views n)) same)
            (sent_append k (s i (views (item_id i))) (sends_by items next) ∙ omega (arith, rest.1, ap (λ n. sent k (s i (views n))) same))
        by false other more = later other more
