-- The parts of an item of a plan.
use Rattle.std.specs.Prelude.{ℕ, List, [], ◌∷◌, ◌++◌, codes}
use Rattle.std.specs.Fmt.{decimal}
use Rattle.dc_base.specs.declared.records.Item.{Item}
use Rattle.dc_base.specs.declared.records.Item.TheVariants.{Set, Unset}
use Rattle.transcript.specs.Words.{or_dash, node_word, sn_word, shape_word, key_word}
use Rattle.transcript_text.specs.Grammar.{Kind, Number, Sequence, Shaped, Key, MaybeNode, identity, word_32}

-- the parts of an item between its slashes
abbrev pub item_parts : Item → List (List ℕ)
item_parts (Set id n first shape threshold policy key old) =
    decimal id ∷ sn_word n ∷ decimal first ∷ shape_word shape ∷ decimal threshold ∷ decimal policy ∷ key_word key ∷ or_dash node_word old ∷ []
item_parts (Unset id) = (codes "-" ++ decimal id) ∷ []

-- the sorts of the parts of an item that sets a bearer
abbrev pub set_kinds : List Kind
set_kinds = identity ∷ Sequence ∷ word_32 ∷ Shaped ∷ word_32 ∷ Number 0 255 ∷ Key ∷ MaybeNode ∷ []
