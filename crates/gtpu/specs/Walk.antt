-- The steps by which a decoder goes over a packet.
use Rattle.std.specs.Prelude.{◌≡◌, ℕ, ◌+◌, ◌*◌, ◌<◌, true, List, ◌∷◌, ◌++◌, length, Option}
use Rattle.std.specs.Option.{option_to_list}
use Rattle.gtpu.specs.declared.packet.PduNumber.{PduNumber}
use Rattle.gtpu.specs.Extension.{may_have_length, container_of, number_of, AreExtensions}

-- what follows the type of a header splits into its length octet, its content, and more
pub record Splits (type : ℕ) (after content rest : List ℕ) : Type 0 where
  pub units : ℕ
  pub spelled : after ≡ units ∷ content ++ rest
  pub whole : length content + 2 ≡ 4 * units
  pub prescribed : may_have_length type units ≡ true
  pub more : 0 < length rest

-- a container and a number, with those of one more header
pub record Joins (type : ℕ) (content : List ℕ) (container : Option (List ℕ)) (number : Option PduNumber) (container' : Option (List ℕ)) (number' : Option PduNumber) : Type 0 where
  pub container_is : option_to_list container' ≡ option_to_list container ++ option_to_list (container_of type content)
  pub number_is : option_to_list number' ≡ option_to_list number ++ option_to_list (number_of type content)

-- where headers end before one of this type, they go on to the rest with it
abbrev pub Extends : ℕ → List ℕ → Option (List ℕ) → Option PduNumber → Option (List ℕ) → Option PduNumber → List ℕ → Type 0
Extends type after container number container' number' rest =
    (0 < length rest) × (length rest < length after + 1) × ((octets : List ℕ) → AreExtensions octets container number (type ∷ after) → AreExtensions octets container' number' rest)
