-- The fields of notes have no fault.
use Rattle.std.proofs.Common.{◌≡◌, [], ◌∷◌, refl}
use Rattle.std.specs.Fmt.{decimal}
use Rattle.hex.specs.Hex.{encode_lower}
use Rattle.dc_base.specs.declared.events.Note.{Note}
use Rattle.dc_base.specs.declared.events.Note.TheVariants as note
use Rattle.transcript.specs.Words.{spaced, dir_word, node_word, want_word, cause_word}
use Rattle.transcript.specs.Text.{note_text}
use Rattle.transcript_text.specs.Ranges.{IsNote}
use Rattle.transcript_text.specs.Words.{consequence_word}
use Rattle.transcript_text.specs.declared.words.Consequence.TheVariants as consequence
use Rattle.transcript_text.specs.Fields.{note_fields}
use Rattle.transcript_text.specs.Grammar.{Octets, AnyNode, Direction, Wanted, Cause, AfterConsequence, identity, word_32}
use Rattle.transcript_text.proofs.Beginning.{Begins, begins, id_of, word_of}

-- the fields of a note begin with its word
pub note_begins : (n : Note) → IsNote n → Begins consequence_word AfterConsequence (note_fields n)
note_begins (note.Begin what) h =
    begins consequence_word AfterConsequence consequence.Begin (Wanted ∷ []) (want_word what ∷ []) refl ((what, refl), tt) (λ at c bad. bad)
note_begins (note.Join node g) h =
    begins consequence_word AfterConsequence consequence.Join (AnyNode ∷ word_32 ∷ []) (node_word node ∷ decimal g ∷ []) refl ((node, refl), (word_of g h, tt)) (λ at c bad. bad)
note_begins (note.Leave node g) h =
    begins consequence_word AfterConsequence consequence.Leave (AnyNode ∷ word_32 ∷ []) (node_word node ∷ decimal g ∷ []) refl ((node, refl), (word_of g h, tt)) (λ at c bad. bad)
note_begins (note.Give node id g) h =
    begins consequence_word AfterConsequence consequence.Give (AnyNode ∷ identity ∷ word_32 ∷ []) (node_word node ∷ decimal id ∷ decimal g ∷ []) refl ((node, refl), (id_of id h.0, (word_of g h.1, tt))) (λ at c bad. bad)
note_begins (note.Own node id g) h =
    begins consequence_word AfterConsequence consequence.Own (AnyNode ∷ identity ∷ word_32 ∷ []) (node_word node ∷ decimal id ∷ decimal g ∷ []) refl ((node, refl), (id_of id h.0, (word_of g h.1, tt))) (λ at c bad. bad)
note_begins (note.Set id g) h =
    begins consequence_word AfterConsequence consequence.Set (identity ∷ word_32 ∷ []) (decimal id ∷ decimal g ∷ []) refl (id_of id h.0, (word_of g h.1, tt)) (λ at c bad. bad)
note_begins (note.Unset id) h =
    begins consequence_word AfterConsequence consequence.Unset (identity ∷ []) (decimal id ∷ []) refl (id_of id h, tt) (λ at c bad. bad)
note_begins (note.Up node id dir count sdu) h =
    begins consequence_word AfterConsequence consequence.Up (AnyNode ∷ identity ∷ Direction ∷ word_32 ∷ Octets ∷ []) (node_word node ∷ decimal id ∷ dir_word dir ∷ decimal count ∷ encode_lower sdu ∷ []) refl ((node, refl), (id_of id h.0, ((dir, refl), (word_of count h.1, ((sdu, h.2, refl), tt))))) (λ at c bad. bad)
note_begins (note.Freed id dir count) h =
    begins consequence_word AfterConsequence consequence.Freed (identity ∷ Direction ∷ word_32 ∷ []) (decimal id ∷ dir_word dir ∷ decimal count ∷ []) refl (id_of id h.0, ((dir, refl), (word_of count h.1, tt))) (λ at c bad. bad)
note_begins (note.Confirmed node) h =
    begins consequence_word AfterConsequence consequence.Confirmed (AnyNode ∷ []) (node_word node ∷ []) refl ((node, refl), tt) (λ at c bad. bad)
note_begins (note.Refused node word) h =
    begins consequence_word AfterConsequence consequence.Refused (AnyNode ∷ Cause ∷ []) (node_word node ∷ cause_word word ∷ []) refl ((node, refl), ((word, refl), tt)) (λ at c bad. bad)
note_begins note.Done h =
    begins consequence_word AfterConsequence consequence.Done ([]) ([]) refl (tt) (λ at c bad. bad)
note_begins note.Rejected h =
    begins consequence_word AfterConsequence consequence.Rejected ([]) ([]) refl (tt) (λ at c bad. bad)

-- and make its text
pub spaced-note_fields : (n : Note) → spaced (note_fields n) ≡ note_text n
spaced-note_fields (note.Begin what) = refl
spaced-note_fields (note.Join node g) = refl
spaced-note_fields (note.Leave node g) = refl
spaced-note_fields (note.Give node id g) = refl
spaced-note_fields (note.Own node id g) = refl
spaced-note_fields (note.Set id g) = refl
spaced-note_fields (note.Unset id) = refl
spaced-note_fields (note.Up node id dir count sdu) = refl
spaced-note_fields (note.Freed id dir count) = refl
spaced-note_fields (note.Confirmed node) = refl
spaced-note_fields (note.Refused node word) = refl
spaced-note_fields note.Done = refl
spaced-note_fields note.Rejected = refl
