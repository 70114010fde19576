-- What a key name stands for, given the roots in the order noted.
use Rattle.std.specs.Prelude.{ℕ, List, [], slice_index_or}
use Rattle.dc_base.specs.declared.nodes.Alg.{Alg}
use Rattle.dc_base.specs.declared.nodes.KeyName.{KeyName}
use Rattle.dc_base.specs.declared.nodes.Side.{Side}
use Rattle.dc_base.specs.declared.nodes.Side.TheVariants.{Master, Second}
use Rattle.key_chain.specs.Derived.{k_sn, k_upenc}

-- the master's key of a root is the root; a secondary's is K_SN of the root and the counter
abbrev pub octets_of_side : List ℕ → Side → List ℕ
octets_of_side root Master = root
octets_of_side root (Second counter) = k_sn root counter

-- the 32 octets of a key
abbrev pub octets : List (List ℕ) → KeyName → List ℕ
octets roots name = octets_of_side (slice_index_or roots name.root []) name.side

-- the 16 octets that cipher user data under a key
abbrev pub upenc : List (List ℕ) → KeyName → Alg → List ℕ
upenc roots name alg = k_upenc (octets roots name) alg
