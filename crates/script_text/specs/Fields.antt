-- The text of a field.
use Rattle.std.specs.Prelude.{ℕ, List}
use Rattle.std.specs.Fmt.{decimal}
use Rattle.hex.specs.Hex.{encode_lower}
use Rattle.script_text.specs.declared.fields.Field.{Field}
use Rattle.script_text.specs.declared.fields.Field.TheVariants as field
use Rattle.transcript.specs.Words.{or_dash, octets_or_dash, dir_word, node_word, alg_word, sn_word, link_word, shape_word, key_word, want_word, state_word, refusal_word, cause_word}

-- the octets of one field of a line; a dash stands for a node or a tag that is missing, and for a bitmap of no octets
abbrev pub field_text : Field → List ℕ
field_text (field.Text word) = word.now
field_text (field.Number n) = decimal n
field_text (field.Id id) = decimal id
field_text (field.Root root) = encode_lower root.now
field_text (field.Payload octets) = encode_lower octets.now
field_text (field.Bits octets) = octets_or_dash octets.now
field_text (field.Alg alg) = alg_word alg
field_text (field.Dir dir) = dir_word dir
field_text (field.Node node) = node_word node
field_text (field.MaybeNode node) = or_dash node_word node
field_text (field.Sn length) = sn_word length
field_text (field.Shape shape) = shape_word shape
field_text (field.Link link) = link_word link
field_text (field.Key key) = key_word key
field_text (field.Want want) = want_word want
field_text (field.State on) = state_word on
field_text (field.Refusal refusal) = refusal_word refusal
field_text (field.Cause word) = cause_word word
field_text (field.Tag tag) = or_dash decimal tag
