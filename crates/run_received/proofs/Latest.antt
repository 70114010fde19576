-- The latest establishment of an identity, as the bearers of a past change.
use Rattle.std.proofs.Common.{ℕ, ◌≡◌, ◌==◌, ◌≤◌, Bool, true, false, List, [], ◌∷◌, Option, Some, None, refl, sym, ap, subst, ◌∙◌, inl, inr, arith}
use Rattle.std.specs.Prelude.{find, if◌then◌else◌, is_some, map, nat_le, ◌&&◌, ⊤}
use Rattle.std.specs.List.{AllByRecursion}
use Rattle.std.specs.Option.{option_map}
use Rattle.std.proofs.lemmas.Bool.{cases_Bool, eq-eqb, eqb-true, ne_eqb}
use Rattle.claims.specs.Past.{Bearer, Past}
use Rattle.claims.specs.Reading.{Setting, change_bearer, changed, named, on_bearer, on_latest, setting}
use Rattle.run_uplinks.specs.Seen.{uplink_of}
use Rattle.run_uplinks.specs.Uplinks.{Descend}

-- the latest of an identity
abbrev pub latest_in : ℕ → List Bearer → Option Bearer
latest_in id bs = find (λ (b : Bearer). b.id == id) bs

-- a change that leaves the identity
abbrev pub KeepsId : (Bearer → Bearer) → Type 0
KeepsId f = (b : Bearer) → (f b).id ≡ b.id

pub latest_map : (id : ℕ) (f : Bearer → Bearer) → KeepsId f → (bs : List Bearer) → latest_in id (map f bs) ≡ option_map f (latest_in id bs)
latest_map id f keeps [] = refl
latest_map id f keeps (b ∷ bs) =
    let same : ((f b).id == id) ≡ (b.id == id) = ap (λ k. k == id) (keeps b) in
    elim (cases_Bool (b.id == id)) [
      | inl here ↦ rw (same ∙ here, here) refl
      | inr there ↦ rw (same ∙ there, there) (latest_map id f keeps bs)
    ]

-- it has the identity
pub latest_id : (id : ℕ) (bs : List Bearer) (b : Bearer) → latest_in id bs ≡ Some b → b.id ≡ id
latest_id id [] b at = absurd (let bad : None ≡ Some b = at in cc)
latest_id id (x ∷ xs) b at =
    elim (cases_Bool (x.id == id)) [
      | inl here ↦ let is : Some x ≡ Some b = rw here at at in subst (λ y. y.id ≡ id) (let same : x ≡ b = cc in same) (eqb-true x.id id here)
      | inr there ↦ latest_id id xs b (rw there at at)
    ]

-- a change of the latest of one identity
pub latest_on_latest : (id k : ℕ) (f : Bearer → Bearer) → KeepsId f → (bs : List Bearer)
    → latest_in id (on_latest k f bs) ≡ option_map (λ b. if b.id == k then f b else b) (latest_in id bs)
latest_on_latest id k f keeps [] = refl
latest_on_latest id k f keeps (b ∷ bs) =
    let same : ((f b).id == id) ≡ (b.id == id) = ap (λ j. j == id) (keeps b) in
    elim (cases_Bool (b.id == k)) [
      | inl this ↦ elim (cases_Bool (b.id == id)) [
        | inl here ↦ rw (this, same ∙ here, here, this) refl
        | inr there ↦ rw (this, same ∙ there, there) (sym (others (latest_in id bs) (latest_id id bs)
            (λ is. absurd (let bad : true ≡ false = sym (eq-eqb b.id id (eqb-true b.id k this ∙ is)) ∙ there in cc))))
      ]
      | inr other ↦ elim (cases_Bool (b.id == id)) [
        | inl here ↦ rw (other, here, other) refl
        | inr there ↦ rw (other, there) (latest_on_latest id k f keeps bs)
      ]
    ]
  where
    others : (o : Option Bearer) → ((b : Bearer) → o ≡ Some b → b.id ≡ id) → (k ≡ id → ⊥) → option_map (λ b. if b.id == k then f b else b) o ≡ o
    others None has apart = refl
    others (Some b) has apart = let is = has b refl in let no' = ne_eqb b.id k (λ same. apart (sym same ∙ is)) in rw no' refl

-- ---- the one of a generation

-- the first that passes a test is changed
abbrev on_first : (Bearer → Bool) → (Bearer → Bearer) → List Bearer → List Bearer
on_first t f [] = []
on_first t f (b ∷ bs) = if t b then f b ∷ bs else b ∷ on_first t f bs

-- each has another name than those before it
abbrev pub Distinct : List Bearer → Type 0
Distinct [] = ⊤
Distinct (b ∷ bs) = AllByRecursion (λ (x : Bearer). (x.g == b.g) ≡ false) bs × Distinct bs

none_of_name : (g : ℕ) (f : Bearer → Bearer) (bs : List Bearer) → AllByRecursion (λ (x : Bearer). (x.g == g) ≡ false) bs → on_bearer g f bs ≡ bs
none_of_name g f [] all = refl
none_of_name g f (b ∷ bs) all = rw (all.0) (ap (λ xs. b ∷ xs) (none_of_name g f bs all.1))

found_apart : (t : Bearer → Bool) (g : ℕ) (bs : List Bearer) (c : Bearer) → AllByRecursion (λ (x : Bearer). (x.g == g) ≡ false) bs → find t bs ≡ Some c
    → (c.g == g) ≡ false
found_apart t g [] c all at = absurd (let bad : None ≡ Some c = at in cc)
found_apart t g (b ∷ bs) c all at =
    elim (cases_Bool (t b)) [
      | inl here ↦ let is : Some b ≡ Some c = rw here at at in subst (λ (x : Bearer). (x.g == g) ≡ false) (let same : b ≡ c = cc in same) all.0
      | inr there ↦ found_apart t g bs c all.1 (rw there at at)
    ]

one_of_name : (t : Bearer → Bool) (f : Bearer → Bearer) (bs : List Bearer) (c : Bearer) → Distinct bs → find t bs ≡ Some c
    → on_bearer c.g f bs ≡ on_first t f bs
one_of_name t f [] c distinct at = refl
one_of_name t f (b ∷ bs) c distinct at =
    elim (cases_Bool (t b)) [
      | inl here ↦
          let is : Some b ≡ Some c = rw here at at in
          let same : b ≡ c = cc in
          let name : (b.g == c.g) ≡ true = eq-eqb b.g c.g (ap (λ (x : Bearer). x.g) same) in
          rw (here, name) (ap (λ xs. f b ∷ xs) (none_of_name c.g f bs (subst (λ (y : Bearer). AllByRecursion
          (λ (x : Bearer). (x.g == y.g) ≡ false) bs) same distinct.0)))
      | inr there ↦
          let at' = rw there at at in
          let apart = found_apart t b.g bs c distinct.0 at' in
          let name : (b.g == c.g) ≡ false = ne_eqb b.g c.g (λ is. absurd (let bad : true ≡ false = sym (eq-eqb c.g b.g (sym is)) ∙ apart in cc)) in
          rw (there, name) (ap (λ xs. b ∷ xs) (one_of_name t f bs c distinct.1 at'))
    ]

-- the establishment of an identity that a generation is one of
abbrev is_drawn_by : ℕ → ℕ → Bearer → Bool
is_drawn_by k g b = (b.id == k) && nat_le b.g g

latest_on_first : (id k g : ℕ) (f : Bearer → Bearer) → KeepsId f → (bs : List Bearer)
    → latest_in id (on_first (is_drawn_by k g) f bs) ≡ option_map (λ b. if is_drawn_by k g b then f b else b) (latest_in id bs)
latest_on_first id k g f keeps [] = refl
latest_on_first id k g f keeps (b ∷ bs) =
    let same : ((f b).id == id) ≡ (b.id == id) = ap (λ j. j == id) (keeps b) in
    elim (cases_Bool (is_drawn_by k g b)) [
      | inl this ↦ elim (cases_Bool (b.id == id)) [
        | inl here ↦ rw (this, same ∙ here, here, this) refl
        | inr there ↦ rw (this, same ∙ there, there) (sym (others (latest_in id bs) (latest_id id bs)
            (λ is. absurd (let bad : true ≡ false = sym (eq-eqb b.id id (of_id b this ∙ is)) ∙ there in cc))))
      ]
      | inr other ↦ elim (cases_Bool (b.id == id)) [
        | inl here ↦ rw (other, here, other) refl
        | inr there ↦ rw (other, there) (latest_on_first id k g f keeps bs)
      ]
    ]
  where
    of_id : (b : Bearer) → is_drawn_by k g b ≡ true → b.id ≡ k
    of_id b is = elim (cases_Bool (b.id == k)) [ inl yes' ↦ eqb-true b.id k yes' | inr no' ↦ absurd (let bad : false ≡ true = rw no' at is in cc) ]

    others : (o : Option Bearer) → ((b : Bearer) → o ≡ Some b → b.id ≡ id) → (k ≡ id → ⊥) → option_map (λ b. if is_drawn_by k g b then f b else b) o ≡ o
    others None has apart = refl
    others (Some b) has apart = let is = has b refl in let no' = ne_eqb b.id k (λ same. apart (sym same ∙ is)) in rw no' refl

-- a change of the establishment that a generation sets
pub latest_changed : (p : Past) (id k g : ℕ) (f : Bearer → Bearer) → KeepsId f → Distinct p.bearers
    → latest_in id (change_bearer p k g f) ≡ option_map (λ b. if is_some (setting p k g) && is_drawn_by k g b then f b else b) (latest_in id p.bearers)
latest_changed p id k g f keeps distinct = by (setting p k g)
  where
    same : (o : Option Bearer) → o ≡ option_map (λ b. b) o
    same None = refl
    same (Some b) = refl

    none : (o : Option Bearer) → find (is_drawn_by k g) p.bearers ≡ o
        → latest_in id (changed f p.bearers o) ≡ latest_in id (on_first (is_drawn_by k g) f p.bearers)
    none None at = ap (latest_in id) (sym (untouched p.bearers at))
      where
        untouched : (bs : List Bearer) → find (is_drawn_by k g) bs ≡ None → on_first (is_drawn_by k g) f bs ≡ bs
        untouched [] no' = refl
        untouched (b ∷ bs) no' =
            elim (cases_Bool (is_drawn_by k g b)) [
              | inl here ↦ absurd (let bad : Some b ≡ None = rw here at no' in cc)
              | inr there ↦ rw there (ap (λ xs. b ∷ xs) (untouched bs (rw there at no')))
            ]
    none (Some c) at = ap (latest_in id) (one_of_name (is_drawn_by k g) f p.bearers c distinct at)

    by : (s : Option Setting) → latest_in id (changed f p.bearers (named p k g s)) ≡ option_map
        (λ b. if is_some s && is_drawn_by k g b then f b else b) (latest_in id p.bearers)
    by None = same (latest_in id p.bearers)
    by (Some s) = none (find (is_drawn_by k g) p.bearers) refl ∙ latest_on_first id k g f keeps p.bearers

-- ---- names descend

all_below : (above g : ℕ) (bs : List Bearer) → above ≤ g → Descend above (map uplink_of bs) → AllByRecursion (λ (x : Bearer). (x.g == g) ≡ false) bs
all_below above g [] le down = tt
all_below above g (b ∷ bs) le down =
    (ne_eqb b.g g (λ is. let lt = down.0 in absurd (omega (arith, lt, le, is))), all_below b.g g bs (let lt = down.0 in omega (arith, lt, le)) down.1)

pub distinct_of : (above : ℕ) (bs : List Bearer) → Descend above (map uplink_of bs) → Distinct bs
distinct_of above [] down = tt
distinct_of above (b ∷ bs) down = (all_below b.g b.g bs (omega arith) down.1, distinct_of b.g bs down.1)
