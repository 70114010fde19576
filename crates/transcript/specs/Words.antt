-- The words of scripts and transcripts.
use Rattle.std.specs.Prelude.{ℕ, if◌then◌else◌, Bool, true, false, List, [], ◌∷◌, ◌++◌, codes, Option, Some, None}
use Rattle.std.specs.Fmt.{decimal}
use Rattle.std.specs.List.{join_with_byte}
use Rattle.hex.specs.Hex.{encode_lower}
use Rattle.dc_base.specs.declared.nodes.Dir.{Dir}
use Rattle.dc_base.specs.declared.nodes.Dir.TheVariants.{Ul, Dl}
use Rattle.dc_base.specs.declared.nodes.Node.{Node}
use Rattle.dc_base.specs.declared.nodes.Node.TheVariants.{T, M, A, B}
use Rattle.dc_base.specs.declared.nodes.Cell.{Cell}
use Rattle.dc_base.specs.declared.nodes.Cell.TheVariants as cell
use Rattle.dc_base.specs.declared.nodes.Alg.{Alg}
use Rattle.dc_base.specs.declared.nodes.Alg.TheVariants.{Nea0, Nea2}
use Rattle.dc_base.specs.declared.nodes.LegSet.{LegSet}
use Rattle.dc_base.specs.declared.nodes.LegSet.TheVariants.{Mcg, Scg, Split}
use Rattle.dc_base.specs.declared.nodes.Side.{Side}
use Rattle.dc_base.specs.declared.nodes.Side.TheVariants.{Master, Second}
use Rattle.dc_base.specs.declared.nodes.Want.{Want}
use Rattle.dc_base.specs.declared.nodes.Want.TheVariants.{Rekey, Change, Release}
use Rattle.dc_base.specs.declared.nodes.Class.{Class}
use Rattle.dc_base.specs.declared.nodes.Class.TheVariants.{Ctl, Feed, Air, Tun}
use Rattle.dc_base.specs.declared.nodes.Shape.{Shape}
use Rattle.dc_base.specs.declared.nodes.KeyName.{KeyName}
use Rattle.dc_base.specs.declared.nodes.LinkId.{LinkId}
use Rattle.dc_base.specs.declared.numbers.SnLen.{SnLen}
use Rattle.dc_base.specs.declared.numbers.SnLen.TheVariants.{S12, S18}
use Rattle.dc_base.specs.declared.answers.Refusal.{Refusal}
use Rattle.dc_base.specs.declared.answers.Refusal.TheVariants as refusal
use Rattle.dc_base.specs.declared.answers.Word.{Word}
use Rattle.dc_base.specs.declared.answers.Word.TheVariants as word

-- fields with one space between two
abbrev pub spaced : List (List ℕ) → List ℕ
spaced fields = join_with_byte 32 fields

-- what stands there, or a dash
abbrev pub or_dash : {A : Type 0} → (A → List ℕ) → Option A → List ℕ
or_dash text (Some a) = text a
or_dash text None = codes "-"

-- octets, or a dash for none
abbrev pub octets_or_dash : List ℕ → List ℕ
octets_or_dash [] = codes "-"
octets_or_dash (o ∷ os) = encode_lower (o ∷ os)

-- a direction: uplink or downlink
abbrev pub dir_word : Dir → List ℕ
dir_word Ul = codes "ul"
dir_word Dl = codes "dl"

-- a node: the terminal, the master, or one of the two secondary nodes
abbrev pub node_word : Node → List ℕ
node_word T = codes "t"
node_word M = codes "m"
node_word A = codes "a"
node_word B = codes "b"

-- a ciphering algorithm: none, or 128-NEA2
abbrev pub alg_word : Alg → List ℕ
alg_word Nea0 = codes "nea0"
alg_word Nea2 = codes "nea2"

-- how long sequence numbers are, in bits
abbrev pub sn_word : SnLen → List ℕ
sn_word S12 = codes "12"
sn_word S18 = codes "18"

-- the class of a link: control, the core's feed, an air link, or a tunnel
abbrev pub class_word : Class → List ℕ
class_word Ctl = codes "ctl"
class_word Feed = codes "feed"
class_word Air = codes "air"
class_word Tun = codes "tun"

-- a link: sender and receiver, a dot, the class
abbrev pub link_word : LinkId → List ℕ
link_word l = node_word l.from ++ node_word l.to ++ codes "." ++ class_word l.class

-- a cell group: the master's or the secondary's
abbrev pub cell_word : Cell → List ℕ
cell_word cell.Mcg = codes "m"
cell_word cell.Scg = codes "s"

-- the legs of a bearer: the master's, the secondary's, or x for both, and then the primary one
abbrev pub legs_word : LegSet → List ℕ
legs_word Mcg = codes "m"
legs_word Scg = codes "s"
legs_word (Split primary) = codes "x" ++ cell_word primary

-- a shape: the anchor, the legs, and d for duplication
abbrev pub shape_word : Shape → List ℕ
shape_word s = (if s.at_second then codes "s" else codes "m") ++ legs_word s.legs ++ (if s.dup then codes "d" else [])

-- a key of the root of this number: the master's, or K_SN with an SN Counter
abbrev pub side_word : ℕ → Side → List ℕ
side_word root Master = codes "m" ++ decimal root
side_word root (Second counter) = codes "s" ++ decimal root ++ codes "." ++ decimal counter

-- a key: mR for the master's of root R, sR.C for K_SN of root R and SN Counter C
abbrev pub key_word : KeyName → List ℕ
key_word k = side_word k.root k.side

-- what a secondary node asks the master for: a new key, a change to the other secondary node, or its release
abbrev pub want_word : Want → List ℕ
want_word Rekey = codes "rekey"
want_word Change = codes "change"
want_word Release = codes "release"

-- whether a secondary node is to reject requests: on, or off again
abbrev pub state_word : Bool → List ℕ
state_word true = codes "on"
state_word false = codes "off"

-- why an event is refused
abbrev pub refusal_word : Refusal → List ℕ
refusal_word refusal.NoBearer = codes "nobearer"
refusal_word refusal.BearerThere = codes "bearerthere"
refusal_word refusal.Busy = codes "busy"
refusal_word refusal.NoSecondary = codes "nosecondary"
refusal_word refusal.SecondaryThere = codes "secondarythere"
refusal_word refusal.SameShape = codes "sameshape"
refusal_word refusal.IdSpent = codes "idspent"
refusal_word refusal.CounterSpent = codes "counterspent"
refusal_word refusal.RootUsed = codes "rootused"
refusal_word refusal.NoFlight = codes "noflight"
refusal_word refusal.NotFirst = codes "notfirst"
refusal_word refusal.NotTunnel = codes "nottunnel"
refusal_word refusal.Aged = codes "aged"
refusal_word refusal.Full = codes "full"
refusal_word refusal.Exhausted = codes "exhausted"
refusal_word refusal.NoPolicy = codes "nopolicy"

-- why a request of a secondary node is refused (TS 38.423, 8.3)
abbrev pub cause_word : Word → List ℕ
cause_word word.Busy = codes "busy"
cause_word word.NoSecondary = codes "nosecondary"
cause_word word.CounterSpent = codes "counterspent"
cause_word word.Rejected = codes "rejected"
