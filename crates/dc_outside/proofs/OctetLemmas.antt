-- Octets that are added or taken in several steps.
use Rattle.std.proofs.Common.{ℕ, ◌+◌, List, [], ◌++◌, take, drop, sym, ◌∙◌, ap, append_assoc, Option, Some, None}
use Rattle.std.proofs.lemmas.List.{append-nil}
use Rattle.std.proofs.Math.Seq.{take-add}
use Rattle.std.specs.Io.KnownBytes.{Appends, Consumes, Keeps}

-- what stays as it was grew by nothing
pub Keeps-Appends : (old new : Option (List ℕ)) → Keeps old new → Appends old new []
Keeps-Appends None new h = tt
Keeps-Appends (Some xs) None h = h
Keeps-Appends (Some xs) (Some ys) h = h ∙ sym (append-nil xs)

-- octets added in two steps
pub Appends-append : (old mid new : Option (List ℕ)) (a b : List ℕ) → Appends old mid a → Appends mid new b → Appends old new (a ++ b)
Appends-append None mid new a b p q = tt
Appends-append (Some xs) None new a b p q = absurd p
Appends-append (Some xs) (Some ys) None a b p q = q
Appends-append (Some xs) (Some ys) (Some zs) a b p q = q ∙ ap (λ l. l ++ b) p ∙ append_assoc xs a b

-- a front of the octets, and then a front of the rest
pub Appends-take : (old mid new : Option (List ℕ)) (octets : List ℕ) (n m : ℕ)
    → Appends old mid (take n octets) → Appends mid new (take m (drop n octets)) → Appends old new (take (n + m) octets)
Appends-take old mid new octets n m p q = rw take-add (Appends-append old mid new (take n octets) (take m (drop n octets)) p q)

-- octets taken in two steps
pub Consumes-append : (old mid new : Option (List ℕ)) (a b : List ℕ) → Consumes old mid a → Consumes mid new b → Consumes old new (a ++ b)
Consumes-append None mid new a b p q = tt
Consumes-append (Some xs) None new a b p q = absurd p
Consumes-append (Some xs) (Some ys) None a b p q = q
Consumes-append (Some xs) (Some ys) (Some zs) a b p q = p ∙ ap (λ l. a ++ l) q ∙ sym (append_assoc a b zs)
