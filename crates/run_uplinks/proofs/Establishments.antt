-- The latest establishment of an identity, after a step.
use Rattle.std.proofs.Common.{ℕ, ◌≡◌, ◌≤◌, ◌<◌, ◌+◌, ◌==◌, true, false, List, [], ◌∷◌, Some, None, refl, sym, ap, subst, ◌∙◌, arith, inl, inr}
use Rattle.std.specs.Prelude.{if◌then◌else◌, map, nat_le}
use Rattle.std.specs.List.{AllByRecursion}
use Rattle.std.specs.Option.{option_map, unwrap_or}
use Rattle.std.proofs.lemmas.Bool.{cases_Bool, eq-eqb, eqb-true, le-leb, ne_eqb}
use Rattle.claims.specs.Reading.{Setting}
use Rattle.run_uplinks.specs.Seen.{Uplink, latest, named_in, on_latest, on_named}
use Rattle.run_uplinks.specs.Uplinks.{AreAlone, Descend, IsOutBehind}

pub some_is : {X : Type 0} (x y : X) → Some x ≡ Some y → x ≡ y
some_is x y same = ap (λ o. unwrap_or o x) same

-- a change keeps the identity
abbrev pub KeepsId : (Uplink → Uplink) → Type 0
KeepsId f = (u : Uplink) → (f u).id ≡ u.id

-- and the name
abbrev pub KeepsName : (Uplink → Uplink) → Type 0
KeepsName f = (u : Uplink) → (f u).g ≡ u.g

-- ---- the latest of an identity

pub latest-same : (id : ℕ) (f : Uplink → Uplink) → KeepsId f → (us : List Uplink) → latest id (on_latest id f us) ≡ option_map f (latest id us)
latest-same id f keeps [] = refl
latest-same id f keeps (u ∷ us) =
    elim (cases_Bool (u.id == id)) [
      | inl here ↦ let there = ap (λ k. k == id) (keeps u) ∙ here in rw (here, there) refl
      | inr there ↦ rw (there, there) (latest-same id f keeps us)
    ]

pub latest-other : (id k : ℕ) (f : Uplink → Uplink) → KeepsId f → (id == k) ≡ false → (us : List Uplink) → latest k (on_latest id f us) ≡ latest k us
latest-other id k f keeps apart [] = refl
latest-other id k f keeps apart (u ∷ us) =
    elim (cases_Bool (u.id == id)) [
      | inl here ↦
          let other : (u.id == k) ≡ false = ap (λ j. j == k) (eqb-true u.id id here) ∙ apart in
          let mine : ((f u).id == k) ≡ false = ap (λ j. j == k) (keeps u) ∙ other in
          rw (here, mine, other) refl
      | inr there ↦ rw there (ap (λ o. if u.id == k then Some u else o) (latest-other id k f keeps apart us))
    ]

-- each changed
pub latest-each : (id : ℕ) (f : Uplink → Uplink) → KeepsId f → (us : List Uplink) → latest id (map f us) ≡ option_map f (latest id us)
latest-each id f keeps [] = refl
latest-each id f keeps (u ∷ us) =
    elim (cases_Bool (u.id == id)) [
      | inl here ↦ let there = ap (λ j. j == id) (keeps u) ∙ here in rw (there, here) refl
      | inr other ↦ let there = ap (λ j. j == id) (keeps u) ∙ other in rw (there, other) (latest-each id f keeps us)
    ]

-- it has that identity
pub latest-id : (id : ℕ) (us : List Uplink) (u : Uplink) → latest id us ≡ Some u → u.id ≡ id
latest-id id [] u at = absurd (let bad : None ≡ Some u = at in cc)
latest-id id (v ∷ us) u at =
    elim (cases_Bool (v.id == id)) [
      | inl here ↦ let is = some_is v u (rw here at at) in subst (λ (x : Uplink). x.id ≡ id) is (eqb-true v.id id here)
      | inr there ↦ latest-id id us u (rw there at at)
    ]

-- ---- names descend

pub descend_more : (low high : ℕ) (us : List Uplink) → low ≤ high → Descend low us → Descend high us
descend_more low high [] le down = tt
descend_more low high (u ∷ us) le down = (omega (arith, down.0), down.1)

-- so the latest is named below
pub latest-below : (above id : ℕ) (us : List Uplink) (u : Uplink) → Descend above us → latest id us ≡ Some u → u.g < above
latest-below above id [] u down at = absurd (let bad : None ≡ Some u = at in cc)
latest-below above id (v ∷ us) u down at =
    elim (cases_Bool (v.id == id)) [
      | inl here ↦ let is = some_is v u (rw here at at) in subst (λ (x : Uplink). x.g < above) is down.0
      | inr there ↦ let rest = latest-below v.g id us u down.1 (rw there at at) in omega (arith, rest, down.0)
    ]

pub descend_latest : (above id : ℕ) (f : Uplink → Uplink) → KeepsName f → (us : List Uplink) → Descend above us → Descend above (on_latest id f us)
descend_latest above id f keeps [] down = tt
descend_latest above id f keeps (u ∷ us) down =
    elim (cases_Bool (u.id == id)) [
      | inl here ↦ let same = keeps u in rw here (subst (λ k. (k < above) × Descend k us) (sym same) down)
      | inr there ↦ rw there (down.0, descend_latest u.g id f keeps us down.1)
    ]

pub descend_each : (above : ℕ) (f : Uplink → Uplink) → KeepsName f → (us : List Uplink) → Descend above us → Descend above (map f us)
descend_each above f keeps [] down = tt
descend_each above f keeps (u ∷ us) down =
    let same = keeps u in
    subst (λ k. (k < above) × Descend k (map f us)) (sym same) (down.0, descend_each u.g f keeps us down.1)

-- ---- the one that a generation names

-- where none is named later than a generation, it names the latest
pub named-latest : (above id g : ℕ) (x : Setting) (us : List Uplink) → Descend above us → above ≤ g + 1 → named_in id g (Some x) us ≡ latest id us
named-latest above id g x [] down le = refl
named-latest above id g x (u ∷ us) down le =
    let upto : nat_le u.g g ≡ true = le-leb u.g g (omega (arith, down.0)) in
    elim (cases_Bool (u.id == id)) [
      | inl here ↦ rw (here, upto) refl
      | inr there ↦ rw there (named-latest u.g id g x us down.1 (omega (arith, down.0)))
    ]

none_named : (above g : ℕ) (f : Uplink → Uplink) (us : List Uplink) → Descend above us → above ≤ g → on_named g f us ≡ us
none_named above g f [] down le = refl
none_named above g f (u ∷ us) down le =
    let apart : (u.g == g) ≡ false = ne_eqb u.g g (λ same. omega (arith, down.0)) in
    rw apart (ap (λ xs. u ∷ xs) (none_named u.g g f us down.1 (omega (arith, down.0))))

-- the one of the latest's name is the latest
pub named-on : (above id : ℕ) (f : Uplink → Uplink) (us : List Uplink) (u : Uplink) → Descend above us → latest id us ≡ Some u → on_named u.g f us ≡ on_latest id f us
named-on above id f [] u down at = refl
named-on above id f (v ∷ us) u down at =
    elim (cases_Bool (v.id == id)) [
      | inl here ↦
          let is = some_is v u (rw here at at) in
          subst (λ (x : Uplink). on_named x.g f (v ∷ us) ≡ on_latest id f (v ∷ us)) is
          (rw here (rw (eq-eqb v.g v.g refl) (ap (λ xs. f v ∷ xs) (none_named v.g v.g f us down.1 (omega arith)))))
      | inr there ↦
          let rest = rw there at at in
          let below = latest-below v.g id us u down.1 rest in
          let apart : (v.g == u.g) ≡ false = ne_eqb v.g u.g (λ same. omega (arith, below)) in
          rw there (rw apart (ap (λ xs. v ∷ xs) (named-on v.g id f us u down.1 rest)))
    ]

-- ---- the earlier ones of an identity

-- one is changed that is behind none of its identity
behind_latest : (k id : ℕ) (f : Uplink → Uplink) → KeepsId f → (k == id) ≡ false → (us : List Uplink) → AllByRecursion (IsOutBehind k) us → AllByRecursion (IsOutBehind k) (on_latest id f us)
behind_latest k id f keeps apart [] all = tt
behind_latest k id f keeps apart (u ∷ us) all =
    elim (cases_Bool (u.id == id)) [
      | inl here ↦
          let no = never u here in rw here (no, all.1)
      | inr there ↦ rw there (all.0, behind_latest k id f keeps apart us all.1)
    ]
  where
    never : (u : Uplink) → (u.id == id) ≡ true → IsOutBehind k (f u)
    never u here = λ same.
        let is : k ≡ id = sym same ∙ keeps u ∙ eqb-true u.id id here in
        let bad : true ≡ false = sym (eq-eqb k id is) ∙ apart in absurd cc

pub alone_latest : (id : ℕ) (f : Uplink → Uplink) → KeepsId f → (us : List Uplink) → AreAlone us → AreAlone (on_latest id f us)
alone_latest id f keeps [] alone = tt
alone_latest id f keeps (u ∷ us) alone =
    elim (cases_Bool (u.id == id)) [
      | inl here ↦ let same = keeps u in rw here (subst (λ k. AllByRecursion (IsOutBehind k) us × AreAlone us) (sym same) alone)
      | inr there ↦ rw there (behind_latest u.id id f keeps there us alone.0, alone_latest id f keeps us alone.1)
    ]

-- a change that leaves those that the terminal has not
abbrev pub KeepsOut : (Uplink → Uplink) → Type 0
KeepsOut f = (u : Uplink) → u.terminal ≡ None → (f u).terminal ≡ None

behind_each : (k : ℕ) (f : Uplink → Uplink) → KeepsId f → KeepsOut f → (us : List Uplink) → AllByRecursion (IsOutBehind k) us → AllByRecursion (IsOutBehind k) (map f us)
behind_each k f keeps out [] all = tt
behind_each k f keeps out (u ∷ us) all = (λ same. out u (all.0 (sym (keeps u) ∙ same)), behind_each k f keeps out us all.1)

pub alone_each : (f : Uplink → Uplink) → KeepsId f → KeepsOut f → (us : List Uplink) → AreAlone us → AreAlone (map f us)
alone_each f keeps out [] alone = tt
alone_each f keeps out (u ∷ us) alone =
    let same = keeps u in
    subst (λ k. AllByRecursion (IsOutBehind k) (map f us) × AreAlone (map f us)) (sym same) (behind_each u.id f keeps out us alone.0, alone_each f keeps out us alone.1)

-- where the latest of an identity is not at the terminal, none of the identity is
pub all_out : (id : ℕ) (us : List Uplink) → AreAlone us → ((u : Uplink) → latest id us ≡ Some u → u.terminal ≡ None) → AllByRecursion (IsOutBehind id) us
all_out id [] alone out = tt
all_out id (u ∷ us) alone out =
    elim (cases_Bool (u.id == id)) [
      | inl here ↦
          let is = eqb-true u.id id here in
          (λ same. out u (rw here refl), subst (λ k. AllByRecursion (IsOutBehind k) us) is alone.0)
      | inr there ↦ (
        λ same. let bad : true ≡ false = sym (eq-eqb u.id id same) ∙ there in absurd cc,
        all_out id us alone.1 (λ v at. out v (rw there at)),
      )
    ]
