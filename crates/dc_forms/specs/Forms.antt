-- The forms of the command line that read no source: their words, and what each writes.
use Rattle.std.specs.Prelude.{◌≡◌, ℕ, ◌≤◌, List, [], ◌∷◌, ◌++◌, length, codes, ◌≢◌, Option, MatchOption}
use Rattle.std.specs.Fmt.{decimal}
use Rattle.hex.specs.Hex.{encode_lower, IsBytes}
use Rattle.dc_base.specs.declared.nodes.Alg.TheVariants.{Nea2}
use Rattle.nea2.specs.Combined.{combined}
use Rattle.nea2.specs.Keystream.{keystream}
use Rattle.key_chain.specs.Derived.{k_sn, k_upenc}
use Rattle.transcript.specs.Words.{dir_word}
use Rattle.transcript.specs.Text.{ended}
use Rattle.dc_forms.specs.declared.form.Kind.{Kind}
use Rattle.dc_forms.specs.declared.form.Kind.TheVariants.{Pdu12, Pdu18, Gtp, Nru}
use Rattle.dc_forms.specs.declared.form.Form.{Form}
use Rattle.dc_forms.specs.declared.form.Form.TheVariants.{Keys, Cipher, Show}
use Rattle.dc_forms.specs.Shown.{IsShown}

-- octets in a range of lengths
pub record AreOctets (least most : ℕ) (octets : List ℕ) : Type 0 where
  pub bytes : IsBytes octets
  pub some : least ≤ length octets
  pub few : length octets ≤ most

-- the parts of a form are in their ranges
abbrev pub IsForm : Form → Type 0
IsForm (Keys root counter) = AreOctets 32 32 root × (counter ≤ 65535)
IsForm (Cipher key count id dir text) = AreOctets 16 16 key × (count ≤ 4294967295) × (1 ≤ id) × (id ≤ 32) × AreOctets 1 9000 text
IsForm (Show kind octets) = IsBytes octets × (1 ≤ length octets)

-- the word after `show`, for a PDCP PDU with an SN of 12 or of 18 bits, a GTP-U packet or an NR-U frame
abbrev pub kind_word : Kind → List ℕ
kind_word Pdu12 = codes "pdu12"
kind_word Pdu18 = codes "pdu18"
kind_word Gtp = codes "gtp"
kind_word Nru = codes "nru"

-- the words of a form
abbrev pub words_of : Form → List (List ℕ)
words_of (Keys root counter) = codes "keys" ∷ encode_lower root ∷ decimal counter ∷ []
words_of (Cipher key count id dir text) = codes "nea2" ∷ encode_lower key ∷ decimal count ∷ decimal id ∷ dir_word dir ∷ encode_lower text ∷ []
words_of (Show kind octets) = codes "show" ∷ kind_word kind ∷ encode_lower octets ∷ []

-- a name and octets
abbrev pub named : List ℕ → List ℕ → List ℕ
named name octets = ended (name ++ encode_lower octets)

-- what a form writes: the keys under a root, a text under 128-NEA2, or what octets are
abbrev pub IsOutput : Form → List ℕ → Type 0
IsOutput (Keys root counter) text =
    text ≡ named (codes "master-upenc ") (k_upenc root Nea2) ++ named (codes "ksn ") (k_sn root counter)
    ++ named (codes "second-upenc ") (k_upenc (k_sn root counter) Nea2)
IsOutput (Cipher key count id dir octets) text = text ≡ named [] (combined octets (keystream Nea2 key count id dir (length octets)))
IsOutput (Show kind octets) text = IsShown kind octets text

-- what words were found to be: none of the forms, or this one
abbrev pub IsRead : List (List ℕ) → Option Form → Type 0
IsRead words found = MatchOption found ((f : Form) → IsForm f → words ≢ words_of f) (λ f. IsForm f × (words ≡ words_of f))

-- what words of a command line write: nothing, where they are none of the forms
pub record IsFormText (words : List (List ℕ)) (text : List ℕ) : Type 0 where
  pub form : Form
  pub good : IsForm form
  pub worded : words ≡ words_of form
  pub output : IsOutput form text

-- the text that words of a command line write as one of the forms; None, where they are none of them
abbrev pub HasFormText : List (List ℕ) → Option (List ℕ) → Type 0
HasFormText words found = MatchOption found ((f : Form) → IsForm f → words ≢ words_of f) (λ text. IsFormText words text)
