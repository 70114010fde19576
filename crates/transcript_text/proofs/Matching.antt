-- Fields that are of their sorts have no fault.
use Rattle.std.proofs.Common.{◌≡◌, ℕ, ◌+◌, List, [], ◌∷◌, length, refl, sym, subst, inl, inr}
use Rattle.std.proofs.Common.{Bool, true, ◌&&◌, map}
use Rattle.std.proofs.lemmas.Bool.{and_parts}
use Rattle.transcript_text.specs.Grammar.{Kind, Allows, IsFault, IsFaultAfter, each}
use Rattle.transcript_text.specs.Ranges.{Every}
use Rattle.transcript_text.proofs.Free.{AllFree}
use Rattle.transcript_text.proofs.Sorts.{is_small, allowed_free}

-- the fields are of these sorts, one by one
abbrev pub Match : List Kind → List (List ℕ) → Type 0
Match [] [] = Unit {0}
Match [] (f ∷ fs) = ⊥
Match (k ∷ ks) [] = ⊥
Match (k ∷ ks) (f ∷ fs) = Allows k f × Match ks fs

-- fields of their sorts have no fault
pub no_fault : (ks : List Kind) (fs : List (List ℕ)) (at c : ℕ) → Match ks fs → IsFault ks at fs c → ⊥
no_fault [] [] at c m h = h
no_fault [] (f ∷ fs) at c m h = m
no_fault (k ∷ ks) [] at c m h = m
no_fault (k ∷ ks) (f ∷ fs) at c m h =
    elim h [ inl here ↦ here.0 m.0 | inr more ↦ no_fault ks fs (at + length f + 1) c m.1 more.1 ]

-- nor has a word with what may come after it, where no two words are written alike
pub no_fault_after : {W : Type 0} (word : W → List ℕ) (after : W → ℕ → List (List ℕ) → ℕ → Type 0)
    → ((a b : W) → word a ≡ word b → a ≡ b) → (w : W) (rest : List (List ℕ)) → ((at c : ℕ) → after w at rest c → ⊥)
    → (at c : ℕ) → IsFaultAfter word after at (word w ∷ rest) c → ⊥
no_fault_after word after same w rest none at c h =
    elim h [
      | inl here ↦ here.0 w refl
      | inr more ↦
          let e = same w more.0 more.1 in
          none (at + length (word w) + 1) c (subst (λ (v : _). after v (at + length (word w) + 1) rest c) (sym e) more.2)
    ]

-- whether all sorts have numbers of 32 bits at most
abbrev pub all_small : List Kind → Bool
all_small [] = true
all_small (k ∷ ks) = is_small k && all_small ks

-- fields of their sorts have no space
pub match_free : (ks : List Kind) (fs : List (List ℕ)) → all_small ks ≡ true → Match ks fs → AllFree 32 fs
match_free [] [] small m = tt
match_free [] (f ∷ fs) small m = absurd m
match_free (k ∷ ks) [] small m = absurd m
match_free (k ∷ ks) (f ∷ fs) small m =
    let both = and_parts (is_small k) (all_small ks) small in (
      allowed_free k f both.0 m.0,
      match_free ks fs both.1 m.1,
    )

-- fields of one sort
pub each_match : {A : Type 0} (k : Kind) (text : A → List ℕ) (P : A → Type 0) → ((a : A) → P a → Allows k (text a))
    → (xs : List A) → Every P xs → Match (each k (map text xs)) (map text xs)
each_match k text P allows [] h = tt
each_match k text P allows (x ∷ xs) h = (allows x h.0, each_match k text P allows xs h.1)

pub each_small : (k : Kind) → is_small k ≡ true → (fs : List (List ℕ)) → all_small (each k fs) ≡ true
each_small k small [] = refl
each_small k small (f ∷ fs) = let rest = each_small k small fs in rw (small, rest) refl
