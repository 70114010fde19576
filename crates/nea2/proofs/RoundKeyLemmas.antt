-- Round keys, as they are made.
use Rattle.std.proofs.Common.{◌≡◌, ◌≢◌, ℕ, ◌+◌, ◌<◌, List, length, map, slice_index, get_or, refl, subst, sym, ap, ◌∙◌, arith, add-one, below_more}
use Rattle.std.specs.Prelude.{slice_set}
use Rattle.std.specs.List.{range_with_len}
use Rattle.std.proofs.lemmas.List.{get_or-set_same, get_or-set_other}
use Rattle.std.proofs.lemmas.List.FromFn.{get_or-map-range_with_len}
use Rattle.nea2.specs.Field.{power_of_x}
use Rattle.nea2.specs.Cipher.{next_round_key, round_key}
use Rattle.nea2.specs.declared.round_keys.RoundKey.{RoundKey}
use Rattle.nea2.specs.declared.key_schedule.TheConstants.{ROUND_CONSTANTS}
use Rattle.nea2.specs.RoundKeys.{no_round_key, planes_of}
use Rattle.nea2.specs.Planes.{IsFull, block_of, octet_of}
use Rattle.nea2.proofs.Blocks.{block_of-octets}

-- the planes of a round key hold it in each block
pub record Holds (x : RoundKey) (key : List ℕ) : Type 0 where
  pub full : IsFull (planes_of x)
  pub each_block : (k : ℕ) → k < 8 → block_of (planes_of x) k ≡ key

pub holds : (x : RoundKey) (b key : List ℕ) → length b ≡ 16 → IsFull (planes_of x)
    → ((j k : ℕ) → j < 16 → k < 8 → octet_of (planes_of x) k j ≡ slice_index b j) → b ≡ key → Holds x key
holds x b key long full same e = record {
  full = full;
  each_block = λ k low. sym (block_of-octets (planes_of x) k b long (λ j lane. sym (same j k lane low))) ∙ e;
}

-- the first n are those of the key
abbrev pub HoldsTo : List RoundKey → List ℕ → ℕ → Type 0
HoldsTo keys key n = (r : ℕ) → r < n → Holds (get_or keys r no_round_key) (round_key key r)

pub HoldsTo-more : (keys : List RoundKey) (key : List ℕ) (n : ℕ) (next : RoundKey) → n + 1 < length keys → HoldsTo keys key (n + 1)
    → Holds next (round_key key (n + 1)) → HoldsTo (slice_set keys (n + 1) next) key (n + 1 + 1)
HoldsTo-more keys key n next room held here =
    below_more _ _
    (λ r low.
    let other : r ≢ n + 1 = omega arith in
    subst (λ (x : RoundKey). Holds x (round_key key r)) (sym (get_or-set_other keys (n + 1) r next no_round_key other)) (held r low))
    (subst (λ (x : RoundKey). Holds x (round_key key (n + 1))) (sym (get_or-set_same keys (n + 1) next no_round_key room)) here)

constants : ROUND_CONSTANTS ≡ map power_of_x (range_with_len 0 10)
constants = refl

pub slice_index-ROUND_CONSTANTS : (n : ℕ) → n < 10 → slice_index ROUND_CONSTANTS n ≡ power_of_x n
slice_index-ROUND_CONSTANTS n low =
    ap (λ (t : List ℕ). slice_index t n) constants
    ∙ get_or-map-range_with_len power_of_x 0 10 n n 0 low (omega arith)

pub round_key-more : (key : List ℕ) (n : ℕ) → round_key key (n + 1) ≡ next_round_key (round_key key n) (power_of_x n)
unfolding round_key
round_key-more key n = rw add-one refl

pub length-next_round_key : (key : List ℕ) (constant : ℕ) → length (next_round_key key constant) ≡ 16
length-next_round_key key constant = refl
