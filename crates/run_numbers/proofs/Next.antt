-- The next number by the PDUs that were sent, with one PDU more.
use Rattle.std.proofs.Common.{ℕ, ◌≡◌, ◌++◌, ◌+◌, ◌==◌, Bool, true, false, List, [], ◌∷◌, Option, Some, None, length, refl, sym, ap, subst, ◌∙◌, arith}
use Rattle.std.specs.Option.{option_map}
use Rattle.std.specs.Prelude.{fold, if◌then◌else◌, max, unwrap_or, ◌&&◌}
use Rattle.std.proofs.lemmas.Bool.{eq-eqb}
use Rattle.std.proofs.lemmas.List.{append-nil}
use Rattle.dc_base.specs.Links.{is_same_link, link_number}
use Rattle.dc_base.specs.declared.nodes.LinkId.{LinkId}
use Rattle.claims.specs.Noted.{with_pdu}
use Rattle.claims.specs.Numbers.{has_next_number, next_number, number_after}
use Rattle.claims.specs.Past.{Past}
use Rattle.claims.specs.Sameness.{is_none_or}
use Rattle.claims.specs.Views.{Pdu}
use Rattle.run_numbers.specs.Histories.{IsNumberedFrom, Numbered, numbered_if, put_in, puts_in, with_number}

max_assoc : (a b c : ℕ) → max (max a b) c ≡ max a (max b c)
max_assoc a b c = omega arith

max_none : (a : ℕ) → max a 0 ≡ a
max_none a = omega arith

max_first : (a : ℕ) → max 0 a ≡ a
max_first a = omega arith

-- the greatest of several, from one on
fold_max : {X : Type 0} (f : X → ℕ) (a : ℕ) (xs : List X) → fold (λ k x. max k (f x)) a xs ≡ max a (fold (λ k x. max k (f x)) 0 xs)
fold_max f a [] = sym (max_none a)
fold_max f a (x ∷ xs) =
    fold_max f (max a (f x)) xs ∙ max_assoc a (f x) (fold (λ k y. max k (f y)) 0 xs)
    ∙ ap (λ k. max a (max k (fold (λ k y. max k (f y)) 0 xs))) (sym (max_first (f x))) ∙ ap (λ k. max a k) (sym (fold_max f (max 0 (f x)) xs))

-- the next number, by PDUs
abbrev pub next_in : List (LinkId × Pdu) → LinkId → ℕ → ℕ → ℕ
next_in us l id g = fold (λ k s. max k (number_after l id g s)) 0 us

-- with one PDU more
next_with : (us : List (LinkId × Pdu)) (s : LinkId × Pdu) (l : LinkId) (id g : ℕ) → next_in (s ∷ us) l id g ≡ max (number_after l id g s) (next_in us l id g)
next_with us s l id g = fold_max (number_after l id g) (max 0 (number_after l id g s)) us ∙ ap (λ n. max n (next_in us l id g)) (max_first (number_after l id g s))

-- where it has the next number, or none, so many are counted then
next_by : (u : Pdu) (n : ℕ) (same of_id of_g : Bool) (o : Option ℕ) → IsNumberedFrom n (if same then (if of_id && of_g then with_number u o else []) else [])
    → max (if same && of_id && of_g then unwrap_or (option_map (λ k. k + 1) o) 0 else 0) n ≡ n + length (if same then (if of_id && of_g then with_number u o else []) else [])
next_by u n true true true (Some k) is = let at = is.0 in omega (arith, at)
next_by u n true true true None is = omega arith
next_by u n true true false o is = omega arith
next_by u n true false of_g o is = omega arith
next_by u n false of_id of_g o is = omega arith

next_one : (us : List (LinkId × Pdu)) (k : LinkId) (u : Pdu) (l : LinkId) (id g : ℕ) → IsNumberedFrom (next_in us l id g) (put_in l id g (k, u))
    → next_in ((k, u) ∷ us) l id g ≡ next_in us l id g + length (put_in l id g (k, u))
next_one us k u l id g is = next_with us (k, u) l id g ∙ next_by u (next_in us l id g) (is_same_link l k) (u.id == id) (u.g == g) u.num is

-- ---- with a flight more

-- the PDU of a flight that is put on a link, if it has one, as it counts on a link
abbrev pub one_of : LinkId → ℕ → ℕ → LinkId → Option Pdu → List Numbered
one_of l id g k o = if is_same_link l k then numbered_if id g o else []

-- no PDUs
abbrev no_puts : List Numbered
no_puts = []

nothing_of : (b : Bool) → (if b then no_puts else no_puts) ≡ no_puts
nothing_of true = refl
nothing_of false = refl

nothing_more : (b : Bool) (n : ℕ) → n ≡ n + length (if b then no_puts else no_puts)
nothing_more true n = omega arith
nothing_more false n = omega arith

pub next_flight : (us : List (LinkId × Pdu)) (k : LinkId) (o : Option Pdu) (l : LinkId) (id g : ℕ) → IsNumberedFrom (next_in us l id g) (one_of l id g k o)
    → next_in (with_pdu k o us) l id g ≡ next_in us l id g + length (one_of l id g k o)
next_flight us k None l id g is = nothing_more (is_same_link l k) (next_in us l id g)
next_flight us k (Some u) l id g is = next_one us k u l id g is

-- what was put there grows by it
pub puts_flight : (us : List (LinkId × Pdu)) (k : LinkId) (o : Option Pdu) (l : LinkId) (id g : ℕ) → puts_in l id g (with_pdu k o us) ≡ puts_in l id g us ++ one_of l id g k o
puts_flight us k None l id g = sym (ap (λ zs. puts_in l id g us ++ zs) (nothing_of (is_same_link l k)) ∙ append-nil (puts_in l id g us))
puts_flight us k (Some u) l id g = refl

-- and it has the next number
pub flight_numbered : (p : Past) (l : LinkId) (o : Option Pdu) → ((id g : ℕ) → IsNumberedFrom (next_number p l id g) (one_of l id g l o)) → is_none_or (has_next_number p l) o ≡ true
flight_numbered p l None is = refl
flight_numbered p l (Some u) is = by u.num (subst (IsNumberedFrom (next_number p l u.id u.g)) (itself u.num) (is u.id u.g))
  where
    itself : (o : Option ℕ) → (if is_same_link l l then (if (u.id == u.id) && (u.g == u.g) then with_number u o else []) else []) ≡ with_number u o
    itself o = rw (eq-eqb (link_number l) (link_number l) refl, eq-eqb u.id u.id refl, eq-eqb u.g u.g refl) refl

    by : (o : Option ℕ) → IsNumberedFrom (next_number p l u.id u.g) (with_number u o) → is_none_or (λ k. k == next_number p l u.id u.g) o ≡ true
    by None at = refl
    by (Some k) at = eq-eqb k (next_number p l u.id u.g) at.0
