-- Steps in turn: one more at the end.
use Rattle.std.proofs.Common.{◌≡◌, ℕ, ◌+◌, ◌<◌, List, [], ◌∷◌, ◌++◌, ap, sym, ◌∙◌, length, get_or, take}
use Rattle.std.proofs.lemmas.List.{append-nil, take_more}
use Rattle.node_parts.proofs.Turns.{both_assoc}
use Rattle.node_rules.specs.declared.inputs.Effects.{Effects}
use Rattle.node_rules.specs.Effects.{after_effects, both, in_turn}

-- what comes of the last step stands last
after_push : {S X : Type 0} (f : S → X → S × Effects) (s : S) (xs : List X) (x : X)
    → in_turn f s (xs ++ x ∷ []) ≡ after_effects (in_turn f s xs).1 (f (in_turn f s xs).0 x)
after_push f s [] x = simp append-nil
after_push f s (y ∷ ys) x =
    let h : _ = f s y in
    let t : _ = in_turn f h.0 ys in
    ap (after_effects h.1) (after_push f h.0 ys x) ∙ ap (λ e. ((f t.0 x).0, e)) (sym (both_assoc h.1 t.1 (f t.0 x).1))

pub in_turn_push : {S X : Type 0} (f : S → X → S × Effects) (s : S) (xs : List X) (x : X) (before after : S × Effects) → before ≡ in_turn f s xs → after ≡ f before.0 x
    → after_effects before.1 after ≡ in_turn f s (xs ++ x ∷ [])
in_turn_push f s xs x before after is step =
    ap (λ d. after_effects before.1 d) step ∙ ap (λ (b : _). after_effects b.1 (f b.0 x)) is ∙ sym (after_push f s xs x)

-- the step of a loop that goes over all of them
pub in_turn_at : {S X : Type 0} (f : S → X → S × Effects) (s : S) (xs : List X) (i : ℕ) (x : X) (before after : S × Effects) (e : Effects) → i < length xs → x ≡ get_or xs i x → in_turn f s (take i xs) ≡ before
    → after ≡ f before.0 x → e ≡ both before.1 after.1 → in_turn f s (take (i + 1) xs) ≡ (after.0, e)
in_turn_at f s xs i x before after e within here is step added =
    let split : take (i + 1) xs ≡ take i xs ++ x ∷ [] = take_more xs i x within ∙ ap (λ y. take i xs ++ y ∷ []) (sym here) in
    rw (split, added) (sym (in_turn_push f s (take i xs) x before after (sym is) step))
