-- Steps in turn, with what comes of each.
use Rattle.std.proofs.Common.{◌≡◌, ℕ, List, [], ◌∷◌, ◌++◌, ap, sym, ◌∙◌, append_assoc, ◌+◌, ◌<◌, length, drop, get_or}
use Rattle.std.proofs.lemmas.List.{drop_more}
use Rattle.node_rules.specs.declared.inputs.Effects.{Effects}
use Rattle.node_rules.specs.Effects.{after_effects, both, in_turn, quiet}

-- what came earlier stands first
pub both_assoc : (x y z : Effects) → both (both x y) z ≡ both x (both y z)
both_assoc x y z = simp append_assoc

-- one more step: what came of it stands before what comes of the others
pub in_turn_more : {S X : Type 0} (f : S → X → S × Effects) (e : Effects) (s : S) (x : X) (xs : List X) (done : S × Effects) → done ≡ f s x
    → after_effects (both e done.1) (in_turn f done.0 xs) ≡ after_effects e (in_turn f s (x ∷ xs))
in_turn_more f e s x xs done is =
    ap (λ later. ((in_turn f done.0 xs).0, later)) (both_assoc e done.1 (in_turn f done.0 xs).1) ∙ ap (λ (d : _). after_effects e (after_effects d.1 (in_turn f d.0 xs))) is

-- so it is with the one at place i, where the steps before it are taken
pub in_turn_next : {S X : Type 0} (f : S → X → S × Effects) (e later : Effects) (s : S) (xs : List X) (i : ℕ) (x : X) (done whole : S × Effects)
    → i < length xs → x ≡ get_or xs i x → done ≡ f s x → later ≡ both e done.1
    → after_effects e (in_turn f s (drop i xs)) ≡ whole
    → after_effects later (in_turn f done.0 (drop (i + 1) xs)) ≡ whole
in_turn_next f e later s xs i x done whole within is step added before =
    let split : drop i xs ≡ x ∷ drop (i + 1) xs = drop_more xs i x within ∙ ap (λ y. y ∷ drop (i + 1) xs) (sym is) in
    rw added (in_turn_more f e s x (drop (i + 1) xs) done step ∙ ap (λ ys. after_effects e (in_turn f s ys)) (sym split) ∙ before)
