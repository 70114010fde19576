-- The latest establishment of an identity, after a step.
use Rattle.std.proofs.Common.{ℕ, ◌≡◌, ◌≤◌, ◌<◌, ◌+◌, ◌==◌, false, List, [], ◌∷◌, Option, Some, None, refl, sym, ap, subst, ◌∙◌, arith, inl, inr}
use Rattle.std.specs.Prelude.{map, if◌then◌else◌}
use Rattle.std.specs.Option.{option_map, unwrap_or}
use Rattle.std.proofs.lemmas.Bool.{cases_Bool, eqb-true, ne_eqb}
use Rattle.std.proofs.lemmas.Option.{none-some}
use Rattle.dc_base.specs.Count.{window}
use Rattle.dc_base.specs.declared.numbers.SnLen.{SnLen}
use Rattle.claims.specs.Table.{Kind, is_change}
use Rattle.node_rules.specs.Held.{held, holding}
use Rattle.node_rules.specs.declared.bearers.Window.{Window}
use Rattle.master_runs.proofs.Holding.{held-same, held-other}
use Rattle.run_windows.specs.Seen.{Count, Face, done_by, done_in, freed_to, latest, on_latest}
use Rattle.run_windows.specs.Windows.{AreCounted, Ascends, IsWindow}
use Rattle.run_windows.proofs.Keys.{ascends-put}

pub some_is : {X : Type 0} (x y : X) → Some x ≡ Some y → x ≡ y
some_is x y same = ap (λ o. unwrap_or o x) same

-- a change keeps the identity
abbrev KeepsId : (Face × Count → Face × Count) → Type 0
KeepsId f = (b : Face × Count) → (f b).0.id ≡ b.0.id

pub latest-same : (id : ℕ) (f : Face × Count → Face × Count) → KeepsId f → (bs : List (Face × Count)) → latest id (on_latest id f bs) ≡ option_map f (latest id bs)
latest-same id f keeps [] = refl
latest-same id f keeps (b ∷ bs) =
    elim (cases_Bool (b.0.id == id)) [
      | inl here ↦ let there = ap (λ k. k == id) (keeps b) ∙ here in rw (here, there) refl
      | inr there ↦ rw (there, there) (latest-same id f keeps bs)
    ]

pub latest-other : (id k : ℕ) (f : Face × Count → Face × Count) → KeepsId f → (id == k) ≡ false → (bs : List (Face × Count)) → latest k (on_latest id f bs) ≡ latest k bs
latest-other id k f keeps apart [] = refl
latest-other id k f keeps apart (b ∷ bs) =
    elim (cases_Bool (b.0.id == id)) [
      | inl here ↦
          let other : (b.0.id == k) ≡ false = ap (λ j. j == k) (eqb-true b.0.id id here) ∙ apart in
          let mine : ((f b).0.id == k) ≡ false = ap (λ j. j == k) (keeps b) ∙ other in
          rw (here, mine, other) refl
      | inr there ↦ rw there (ap (λ o. if b.0.id == k then Some b else o) (latest-other id k f keeps apart bs))
    ]

done_keeps : (k : Kind) → KeepsId (done_in k)
done_keeps k b = elim (cases_Bool (is_change b.0.g k)) [ inl yes' ↦ rw yes' refl | inr no' ↦ rw no' refl ]

pub latest-done : (k : Kind) (id : ℕ) (bs : List (Face × Count)) → latest id (map (done_in k) bs) ≡ option_map (done_in k) (latest id bs)
latest-done k id [] = refl
latest-done k id (b ∷ bs) =
    elim (cases_Bool (b.0.id == id)) [
      | inl here ↦ let there = ap (λ j. j == id) (done_keeps k b) ∙ here in rw (there, here) refl
      | inr other ↦ let there = ap (λ j. j == id) (done_keeps k b) ∙ other in rw (there, other) (latest-done k id bs)
    ]

-- a done command leaves the counts
done_count : (k : Kind) (b : Face × Count) → (done_in k b).1 ≡ b.1
done_count k b = elim (cases_Bool (is_change b.0.g k)) [ inl yes' ↦ rw yes' refl | inr no' ↦ rw no' refl ]

done_n : (k : Kind) (b : Face × Count) → (done_in k b).0.n ≡ b.0.n
done_n k b = elim (cases_Bool (is_change b.0.g k)) [ inl yes' ↦ rw yes' refl | inr no' ↦ rw no' refl ]

done_first : (k : Kind) (b : Face × Count) → (done_in k b).0.first ≡ b.0.first
done_first k b = elim (cases_Bool (is_change b.0.g k)) [ inl yes' ↦ rw yes' refl | inr no' ↦ rw no' refl ]

-- the window of a bearer is that of one with the same counts
window_as : (b c : Face × Count) (w : Window) → IsWindow b w → c.0.n ≡ b.0.n → c.0.first ≡ b.0.first → c.1 ≡ b.1 → IsWindow c w
window_as b c w is n first count = record {
  accepted = is.accepted ∙ ap (λ (y : Count). y.submitted) (sym count);
  told = is.told ∙ ap (λ (y : Count). y.freed) (sym count);
  within =
      subst (λ k. c.0.first + c.1.submitted ≤ c.1.freed + window k) (sym n)
      (subst (λ k. k + c.1.submitted ≤ c.1.freed + window b.0.n) (sym first) (subst (λ (y : Count). b.0.first + y.submitted ≤ y.freed + window b.0.n) (sym count) is.within));
}

-- ---- windows

module _ (pend : Option (ℕ × SnLen × ℕ)) (bs : List (Face × Count)) (ws : List (ℕ × Window)) (is : AreCounted pend bs ws) where
  -- other establishments with the same counts
  pub counted_as : (cs : List (Face × Count)) → ((id : ℕ) (b : Face × Count) → latest id bs ≡ Some b → (c : Face × Count) × (latest id cs ≡ Some c) × (c.0.n ≡ b.0.n) × (c.0.first ≡ b.0.first) × (c.1 ≡ b.1))
      → AreCounted pend cs ws
  counted_as cs same = record {
    each = λ id w at. let x = is.each id w at in let y = same id x.0 x.1 in (y.0, y.1, window_as x.0 y.0 w x.2 y.2 y.3 y.4);
    fresh = λ id n first to. let x = is.fresh id n first to in let y = same id x.1.0 x.1.1 in (x.0, (y.0, y.1, y.2 ∙ x.1.2, y.3 ∙ x.1.3, y.4 ∙ x.1.4));
    ascends = is.ascends;
  }

  -- the same is held of each
  pub counted_held : (vs : List (ℕ × Window)) → ((id : ℕ) → held id vs ≡ held id ws) → Ascends 0 vs → AreCounted pend bs vs
  counted_held vs same up = record {
    each = λ id w at. is.each id w (sym (same id) ∙ at);
    fresh = λ id n first to. let x = is.fresh id n first to in (same id ∙ x.0, x.1);
    ascends = up;
  }

  -- a command is done
  pub counted_done : (o : Option Kind) → AreCounted pend (done_by o bs) ws
  counted_done None = is
  counted_done (Some k) = counted_as (map (done_in k) bs) (λ id b at. (done_in k b, latest-done k id bs ∙ ap (option_map (done_in k)) at, done_n k b, done_first k b, done_count k b))

  -- the latest of an identity and its window change together
  pub counted_changed : (id : ℕ) (w v : Window) (f : Face × Count → Face × Count) → KeepsId f → held id ws ≡ Some w → ((b : Face × Count) → latest id bs ≡ Some b → IsWindow b w → IsWindow (f b) v)
      → AreCounted pend (on_latest id f bs) (holding id (Some v) ws)
  counted_changed id w v f keeps at changes = record {
    each = λ k u there. elim (cases_Bool (id == k)) [
      | inl same ↦
          let here : id ≡ k = eqb-true id k same in
          let x = is.each id w at in
          let to : Some v ≡ Some u = sym (held-same id v ws) ∙ ap (λ j. held j (holding id (Some v) ws)) here ∙ there in (
            f x.0,
            ap (λ j. latest j (on_latest id f bs)) (sym here) ∙ latest-same id f keeps bs ∙ ap (option_map f) x.1,
            subst (λ y. IsWindow (f x.0) y) (some_is v u to) (changes x.0 x.1 x.2),
          )
      | inr apart ↦
          let x = is.each k u (sym (held-other id k v ws apart) ∙ there) in
          (x.0, latest-other id k f keeps apart bs ∙ x.1, x.2)
    ];
    fresh = λ k n first to.
        let x = is.fresh k n first to in
        let apart : (id == k) ≡ false = ne_eqb id k (λ same. none-some w (sym x.0 ∙ ap (λ j. held j ws) (sym same) ∙ at)) in
        (held-other id k v ws apart ∙ x.0, (x.1.0, latest-other id k f keeps apart bs ∙ x.1.1, x.1.2, x.1.3, x.1.4));
    ascends = ascends-put 0 id v ws (omega arith) is.ascends;
  }

  -- the window begins further on
  pub counted_freed : (id : ℕ) (w : Window) (count : ℕ) → held id ws ≡ Some w → w.told < count
      → AreCounted pend (on_latest id (freed_to count) bs) (holding id (Some (record w { told = count })) ws)
  counted_freed id w count at rises =
      counted_changed id w (record w { told = count }) (freed_to count) (λ b. refl) at
      (λ b there x. record { accepted = x.accepted; told = refl; within = omega (arith, x.within, x.told, rises) })
