-- Texts that a loop writes piece by piece.
use Rattle.std.proofs.Common.{◌≡◌, ℕ, ◌+◌, ◌/◌, ◌%◌, ◌<◌, ◌≤◌, List, [], ◌∷◌, ◌++◌, length, map, drop, slice_index, refl, sym, ap, ◌∙◌}
use Rattle.std.specs.List.{flat_map, join_with_byte}
use Rattle.std.proofs.lemmas.List.{append_assoc, append-nil, drop_all}

-- each field but the first stands behind a separator
joined_more : {A : Type 0} (text : A → List ℕ) (c : ℕ) (x : List ℕ) (xs : List A)
    → join_with_byte c (x ∷ map text xs) ≡ x ++ flat_map (λ y. c ∷ text y) xs
joined_more text c x [] = sym (append-nil x)
joined_more text c x (y ∷ ys) = ap (λ (rest : List ℕ). x ++ (c ∷ rest)) (joined_more text c (text y) ys)

-- every piece is written
pub pieces_done : {A : Type 0} (piece : A → List ℕ) (out whole : List ℕ) (xs : List A) (i : ℕ) → length xs ≤ i
    → out ++ flat_map piece (drop i xs) ≡ whole → out ≡ whole
pieces_done piece out whole xs i h inv =
    let d = drop_all i xs h in
    rw (d, append-nil) at inv

-- the first field is written, and a loop wrote the rest
pub joined_done : {A : Type 0} (text : A → List ℕ) (c : ℕ) (old one out x : List ℕ) (xs : List A) (i : ℕ)
    → one ≡ old ++ x → length xs ≤ i
    → out ++ flat_map (λ y. c ∷ text y) (drop i xs) ≡ one ++ flat_map (λ y. c ∷ text y) xs
    → out ≡ old ++ join_with_byte c (x ∷ map text xs)
joined_done text c old one out x xs i first h inv =
    let all = pieces_done (λ y. c ∷ text y) out (one ++ flat_map (λ y. c ∷ text y) xs) xs i h inv in
    let more = joined_more text c x xs in
    all ∙ rw (first, append_assoc, more) refl

-- two fields are written, and a loop wrote the rest
pub joined_two_done : {A : Type 0} (text : A → List ℕ) (c : ℕ) (old one out x y : List ℕ) (xs : List A) (i : ℕ)
    → one ≡ old ++ join_with_byte c (x ∷ y ∷ []) → length xs ≤ i
    → out ++ flat_map (λ z. c ∷ text z) (drop i xs) ≡ one ++ flat_map (λ z. c ∷ text z) xs
    → out ≡ old ++ join_with_byte c (x ∷ y ∷ map text xs)
joined_two_done text c old one out x y xs i first h inv =
    let all = pieces_done (λ z. c ∷ text z) out (one ++ flat_map (λ z. c ∷ text z) xs) xs i h inv in
    let last = joined_more text c y xs in
    all ∙ (ap (λ (l : List ℕ). l ++ flat_map (λ z. c ∷ text z) xs) first ∙ rw (append_assoc, append_assoc, last) refl)
