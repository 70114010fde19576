-- The grammar of a line of a script.
use Rattle.std.specs.Prelude.{◌≡◌, ◌≢◌, ℕ, ◌+◌, ◌≤◌, ◌==◌, ◌⊎◌, List, [], ◌∷◌, length, codes, Bool, true, false, not, IsTrue, if◌then◌else◌}
use Rattle.std.specs.Fmt.{decimal}
use Rattle.std.specs.List.{slice_split}
use Rattle.std.specs.Str.{bytes_eq}
use Rattle.hex.specs.Hex.{encode_lower, IsBytes}
use Rattle.dc_base.specs.declared.nodes.Alg.{Alg}
use Rattle.dc_base.specs.declared.nodes.Want.{Want}
use Rattle.dc_base.specs.declared.numbers.SnLen.{SnLen}
use Rattle.transcript.specs.Words.{alg_word, node_word, sn_word, link_word, shape_word, want_word, state_word}
use Rattle.dc_base.specs.declared.nodes.Node.{Node}
use Rattle.dc_base.specs.declared.nodes.LinkId.{LinkId}
use Rattle.dc_base.specs.declared.nodes.Shape.{Shape}
use Rattle.dc_base.specs.Links.{is_link}
use Rattle.dc_base.specs.Nodes.{is_secondary, is_shape}
use Rattle.script_text.specs.declared.spelling.Command.{Command}
use Rattle.script_text.specs.declared.spelling.Command.TheVariants as command

-- the first word of a line, which tells what the rest of it is
abbrev pub command_word : Command → List ℕ
command_word command.Bearer = codes "bearer"
command_word command.Shape = codes "shape"
command_word command.Drop = codes "drop"
command_word command.Add = codes "add"
command_word command.Change = codes "change"
command_word command.Release = codes "release"
command_word command.Rekey = codes "rekey"
command_word command.Recover = codes "recover"
command_word command.Report = codes "report"
command_word command.Deny = codes "deny"
command_word command.Want = codes "want"
command_word command.ScgFail = codes "scgfail"
command_word command.Ul = codes "ul"
command_word command.Dl = codes "dl"
command_word command.Step = codes "step"
command_word command.Lose = codes "lose"
command_word command.Again = codes "again"
command_word command.Drain = codes "drain"

-- ---- fields

-- the sorts of fields
pub data Kind : Type 0 where
  Exactly : List ℕ → Kind
  Number : ℕ → ℕ → Kind
  Octets : ℕ → ℕ → Kind
  Sequence : Kind
  Shaped : Kind
  AnyNode : Kind
  Secondary : Kind
  State : Kind
  Wanted : Kind
  Linked : Kind
  Cipher : Kind

-- the fields of a sort: this word; a number, or octets, of at least and at most so many; a word of the sort
abbrev pub Allows : Kind → List ℕ → Type 0
Allows (Exactly word) f = f ≡ word
Allows (Number low high) f = (n : ℕ) × (low ≤ n) × (n ≤ high) × (f ≡ decimal n)
Allows (Octets low high) f = (x : List ℕ) × IsBytes x × (low ≤ length x) × (length x ≤ high) × (f ≡ encode_lower x)
Allows Sequence f = (n : SnLen) × (f ≡ sn_word n)
Allows Shaped f = (s : Shape) × IsTrue (is_shape s) × (f ≡ shape_word s)
Allows AnyNode f = (n : Node) × (f ≡ node_word n)
Allows Secondary f = (n : Node) × IsTrue (is_secondary n) × (f ≡ node_word n)
Allows State f = (on : Bool) × (f ≡ state_word on)
Allows Wanted f = (w : Want) × (f ≡ want_word w)
Allows Linked f = (l : LinkId) × IsTrue (is_link l) × (f ≡ link_word l)
Allows Cipher f = (a : Alg) × (f ≡ alg_word a)

-- the identity of a bearer: 1 to 32
abbrev pub identity : Kind
identity = Number 1 32

-- a number of 32 bits: a threshold in octets, or a place on a link, from 0
abbrev pub word_32 : Kind
word_32 = Number 0 4294967295

-- a root key: 32 octets
abbrev pub root : Kind
root = Octets 32 32

-- the payload of a submission: 1 to 9000 octets
abbrev pub payload : Kind
payload = Octets 1 9000

-- the fields after `rekey`: m and a root, or s
abbrev pub rekey_kinds : List (List ℕ) → List Kind
rekey_kinds [] = Exactly (codes "s") ∷ []
rekey_kinds (side ∷ rest) = if bytes_eq side (codes "m") then Exactly (codes "m") ∷ root ∷ [] else Exactly (codes "s") ∷ []

-- the fields after the first word; the first of them decides between the two forms of `rekey`
abbrev pub kinds : Command → List (List ℕ) → List Kind
kinds command.Bearer rest = identity ∷ Sequence ∷ Number 0 4294967294 ∷ Shaped ∷ word_32 ∷ Number 0 255 ∷ []
kinds command.Shape rest = identity ∷ Shaped ∷ []
kinds command.Drop rest = identity ∷ []
kinds command.Add rest = Secondary ∷ []
kinds command.Change rest = []
kinds command.Release rest = []
kinds command.Rekey rest = rekey_kinds rest
kinds command.Recover rest = identity ∷ []
kinds command.Report rest = AnyNode ∷ identity ∷ []
kinds command.Deny rest = Secondary ∷ State ∷ []
kinds command.Want rest = Secondary ∷ Wanted ∷ []
kinds command.ScgFail rest = []
kinds command.Ul rest = identity ∷ payload ∷ []
kinds command.Dl rest = identity ∷ payload ∷ []
kinds command.Step rest = Linked ∷ word_32 ∷ []
kinds command.Lose rest = Linked ∷ word_32 ∷ []
kinds command.Again rest = Linked ∷ word_32 ∷ []
kinds command.Drain rest = []

-- the fields of a header
abbrev pub header_kinds : List Kind
header_kinds = Exactly (codes "dcs1") ∷ Cipher ∷ Number 0 65536 ∷ root ∷ []

-- ---- columns

-- c is the column of the first field that is not allowed, where the sorts of the fields are given and the first of them
-- would begin after `at` octets; a missing field has the column after the line's end, a field too many its own
abbrev pub IsFault : List Kind → ℕ → List (List ℕ) → ℕ → Type 0
IsFault [] at [] c = ⊥
IsFault [] at (f ∷ fs) c = c ≡ at + 1
IsFault (k ∷ ks) at [] c = c ≡ at
IsFault (k ∷ ks) at (f ∷ fs) c = ((Allows k f → ⊥) × (c ≡ at + 1)) ⊎ (Allows k f × IsFault ks (at + length f + 1) fs c)

-- the octet is a space, which ends a field
abbrev pub is_space : ℕ → Bool
is_space o = o == 32

-- the fields of a line: what stands between its spaces
abbrev pub fields : List ℕ → List (List ℕ)
fields line = slice_split is_space line

-- c is the column of the first bad or missing one of a line's fields: 1, where the first is no command's word
abbrev pub IsFaultOf : List (List ℕ) → ℕ → Type 0
IsFaultOf [] c = ⊥
IsFaultOf (word ∷ rest) c =
    (((k : Command) → word ≢ command_word k) × (c ≡ 1))
    ⊎ ((k : Command) × (word ≡ command_word k) × IsFault (kinds k rest) (length word + 1) rest c)

-- c is the column of a line that is no event and no `drain`
abbrev pub IsColumn : List ℕ → ℕ → Type 0
IsColumn line c = IsFaultOf (fields line) c

-- c is the column of a line that is no header
abbrev pub IsHeaderColumn : List ℕ → ℕ → Type 0
IsHeaderColumn line c = IsFault header_kinds 0 (fields line) c
