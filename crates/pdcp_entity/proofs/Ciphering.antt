-- The stream of a key that was made ready, and the length of a ciphered text.
use Rattle.std.proofs.Common.{ℕ, ◌≡◌, List, [], ◌∷◌, length, refl, ap}
use Rattle.dc_base.specs.Nodes.{opposite}
use Rattle.dc_base.specs.declared.nodes.Alg.{Alg}
use Rattle.dc_base.specs.declared.nodes.Alg.TheVariants.{Nea0, Nea2}
use Rattle.dc_base.specs.declared.nodes.Dir.{Dir}
use Rattle.dc_base.specs.declared.nodes.Dir.TheVariants.{Ul, Dl}
use Rattle.key_chain.specs.Derived.{k_upenc}
use Rattle.nea2.specs.Combined.{combined}
use Rattle.nea2.specs.Keystream.{keystream}
use Rattle.node_rules.specs.Entity.{stream}

-- the keystream of the key that was made ready is that of the rule
pub stream_is : (alg : Alg) (key cipher : List ℕ) (count id : ℕ) (d : Dir) (octets : ℕ)
    → cipher ≡ k_upenc key alg → keystream alg cipher count id d octets ≡ stream alg key count id d octets
unfolding keystream
stream_is Nea0 key cipher count id d octets same = refl
stream_is Nea2 key cipher count id d octets same = ap (λ (k : List ℕ). keystream Nea2 k count id d octets) same

-- a text keeps its length
pub length-combined : (text stream : List ℕ) → length (combined text stream) ≡ length text
length-combined text [] = refl
length-combined [] (k ∷ ks) = refl
length-combined (x ∷ xs) (k ∷ ks) = let rest = length-combined xs ks in cc

-- the opposite of the opposite
pub opposite_twice : (d : Dir) → opposite (opposite d) ≡ d
opposite_twice Ul = refl
opposite_twice Dl = refl
