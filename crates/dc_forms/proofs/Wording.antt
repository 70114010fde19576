-- Words that are no form, since octets have a wrong length.
use Rattle.std.proofs.Common.{ℕ, ◌≡◌, ◌<◌, ◌≤◌, false, Option, Some, None, IfSome, MatchOption, List, [], ◌∷◌, length, refl, sym, ap, ◌∙◌, arith}
use Rattle.std.specs.Prelude.{codes, ◌≢◌, ◌==◌, ◌↔◌, IsSome, slice_index, slice_index_or}
use Rattle.std.specs.Fmt.{decimal}
use Rattle.std.proofs.lemmas.Fmt.{decimal_injective}
use Rattle.std.proofs.lemmas.Bool.{true≢false, eq-eqb}
use Rattle.hex.specs.Hex.{encode_lower, lower_digits}
use Rattle.hex.proofs.HexLemmas.{length-encode_with}
use Rattle.dc_forms.specs.declared.form.Form.{Form}
use Rattle.dc_forms.specs.declared.form.Form.TheVariants.{Keys, Cipher, Show}
use Rattle.dc_forms.specs.Forms.{IsForm, words_of}

-- different numbers are not equal
apart : (m n : ℕ) → (m == n) ≡ false → m ≡ n → ⊥
apart m n differ same = true≢false (sym (eq-eqb m n same) ∙ differ)

-- the first letter of the first word
first_letter : List (List ℕ) → ℕ
first_letter words = slice_index (slice_index_or words 0 []) 0

word : ℕ → List (List ℕ) → List ℕ
word i words = slice_index_or words i []

encoded_length : (xs ys : List ℕ) → encode_lower xs ≡ encode_lower ys → length xs ≡ length ys
encoded_length xs ys same =
    let n = ap (λ (zs : List ℕ). length zs) same in
    omega (arith, length-encode_with lower_digits xs, length-encode_with lower_digits ys)

pub no_root : (root counter read : List ℕ) → root ≡ encode_lower read → length read ≢ 32 → (f : Form) → IsForm f → codes "keys" ∷ root ∷ counter ∷ [] ≢ words_of f
unfolding first_letter word
no_root root counter read is other (Keys r c) good same =
    let digits : encode_lower read ≡ encode_lower r = sym is ∙ ap (word 1) same in
    let n = encoded_length read r digits in let least = good.0.some in let most = good.0.few in other (omega arith)
no_root root counter read is other (Cipher key count id dir text) good same =
    let n : 3 ≡ 6 = ap (λ (ws : List (List ℕ)). length ws) same in apart 3 6 refl n
no_root root counter read is other (Show kind octets) good same = apart 107 115 refl (ap first_letter same)

module _ (key count id dir text : List ℕ) where
  pub no_key : (read : List ℕ) → key ≡ encode_lower read → length read ≢ 16 → (f : Form) → IsForm f → codes "nea2" ∷ key ∷ count ∷ id ∷ dir ∷ text ∷ [] ≢ words_of f
  unfolding first_letter word
  no_key read is other (Keys r c) good same = let n : 6 ≡ 3 = ap (λ (ws : List (List ℕ)). length ws) same in apart 6 3 refl n
  no_key read is other (Cipher k c i d t) good same =
      let digits : encode_lower read ≡ encode_lower k = sym is ∙ ap (word 1) same in
      let n = encoded_length read k digits in let least = good.0.some in let most = good.0.few in other (omega arith)
  no_key read is other (Show kind octets) good same = let n : 6 ≡ 3 = ap (λ (ws : List (List ℕ)). length ws) same in apart 6 3 refl n

  pub long_text : (read : List ℕ) → text ≡ encode_lower read → 9000 < length read → (f : Form) → IsForm f → codes "nea2" ∷ key ∷ count ∷ id ∷ dir ∷ text ∷ [] ≢ words_of f
  unfolding first_letter word
  long_text read is long (Keys r c) good same = let n : 6 ≡ 3 = ap (λ (ws : List (List ℕ)). length ws) same in apart 6 3 refl n
  long_text read is long (Cipher k c i d t) good same =
      let digits : encode_lower read ≡ encode_lower t = sym is ∙ ap (word 5) same in
      let n = encoded_length read t digits in let most = good.4.few in omega arith
  long_text read is long (Show kind octets) good same = let n : 6 ≡ 3 = ap (λ (ws : List (List ℕ)). length ws) same in apart 6 3 refl n

-- the identity that a number is
pub id_found : (field : List ℕ) (n : ℕ) (o : Option ℕ) → field ≡ decimal n → n ≤ 32 → (IsSome o ↔ ((1 ≤ n) × (n ≤ 32))) → IfSome o (λ id. id ≡ n)
    → MatchOption o ((id : ℕ) → 1 ≤ id → id ≤ 32 → field ≢ decimal id) (λ id. (field ≡ decimal id) × (1 ≤ id) × (id ≤ 32))
id_found field n None is most some value = λ id least few same.
    let n_is : n ≡ id = decimal_injective n id (omega arith) (omega arith) (sym is ∙ same) in
    true≢false (sym (some.1 (omega arith, most)))
id_found field n (Some id) is most some value =
    let range = some.0 refl in (is ∙ ap decimal (sym value), omega (arith, range.0), omega (arith, range.1))
