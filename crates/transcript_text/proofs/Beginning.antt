-- Fields that begin with a word and go on as it says.
use Rattle.std.proofs.Common.{◌≡◌, ℕ, List, ◌∷◌, true, refl, sym, subst, arith}
use Rattle.std.specs.Fmt.{decimal}
use Rattle.script_text.specs.Scripts.{IsIdentity}
use Rattle.transcript_text.specs.Grammar.{Kind, Allows, IsFault, IsFaultAfter, identity, word_32}
use Rattle.transcript_text.specs.Ranges.{IsWord}
use Rattle.transcript_text.proofs.Free.{is_free, AllFree}
use Rattle.transcript_text.proofs.Matching.{Match, no_fault, no_fault_after, all_small, match_free}

-- the fields begin with a word, and what comes after it has no fault and no space
pub record Begins {W : Type 0} (word : W → List ℕ) (after : W → ℕ → List (List ℕ) → ℕ → Type 0) (fs : List (List ℕ)) : Type 0 where
  pub which : W
  pub rest : List (List ℕ)
  pub is : fs ≡ word which ∷ rest
  pub none : (at c : ℕ) → after which at rest c → ⊥
  pub free : AllFree 32 rest

-- fields of these sorts after the word
pub begins : {W : Type 0} (word : W → List ℕ) (after : W → ℕ → List (List ℕ) → ℕ → Type 0) (w : W) (ks : List Kind) (rest : List (List ℕ))
    → all_small ks ≡ true → Match ks rest → ((at c : ℕ) → after w at rest c → IsFault ks at rest c) → Begins word after (word w ∷ rest)
begins word after w ks rest small m same = record {
  which = w;
  rest = rest;
  is = refl;
  none = λ at c bad. no_fault ks rest at c m (same at c bad);
  free = match_free ks rest small m;
}

-- such fields have no fault
pub no_fault_begun : {W : Type 0} (word : W → List ℕ) (after : W → ℕ → List (List ℕ) → ℕ → Type 0)
    → ((a b : W) → word a ≡ word b → a ≡ b) → (fs : List (List ℕ)) → Begins word after fs
    → (at c : ℕ) → IsFaultAfter word after at fs c → ⊥
no_fault_begun word after same fs b at c bad =
    no_fault_after word after same b.which b.rest b.none at c (subst (λ (l : List (List ℕ)). IsFaultAfter word after at l c) b.is bad)

-- and no space
pub begun_free : {W : Type 0} (word : W → List ℕ) (after : W → ℕ → List (List ℕ) → ℕ → Type 0)
    → ((w : W) → is_free 32 (word w) ≡ true) → (fs : List (List ℕ)) → Begins word after fs → AllFree 32 fs
begun_free word after free fs b = subst (AllFree 32) (sym b.is) (free b.which, b.free)

-- the identity of a bearer
pub id_of : (id : ℕ) → IsIdentity id → Allows identity (decimal id)
id_of id h = (id, h, refl)

-- a number of 32 bits
pub word_of : (n : ℕ) → IsWord n → Allows word_32 (decimal n)
word_of n h = (n, (omega arith, h), refl)
