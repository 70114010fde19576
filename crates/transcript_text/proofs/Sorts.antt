-- Which separators the words of a line hold: a field has no space, a part of a field no slash.
use Rattle.std.proofs.Common.{◌≡◌, ℕ, ◌≤◌, List, [], ◌∷◌, ◌++◌, Bool, true, false, Option, Some, None, refl, sym, subst, arith}
use Rattle.std.specs.Prelude.{codes, nat_le}
use Rattle.std.specs.Fmt.{decimal}
use borrow.Author.Tests.{leb-true}
use Rattle.hex.specs.Hex.{encode_lower, IsBytes}
use Rattle.dc_base.specs.declared.answers.Refusal.{Refusal}
use Rattle.dc_base.specs.declared.answers.Refusal.TheVariants as refusal
use Rattle.dc_base.specs.declared.answers.Word.{Word}
use Rattle.dc_base.specs.declared.answers.Word.TheVariants as word
use Rattle.dc_base.specs.declared.nodes.Cell.TheVariants as cell
use Rattle.dc_base.specs.declared.nodes.Dir.{Dir}
use Rattle.dc_base.specs.declared.nodes.Dir.TheVariants.{Ul, Dl}
use Rattle.dc_base.specs.declared.nodes.KeyName.{KeyName}
use Rattle.dc_base.specs.declared.nodes.LegSet.{LegSet}
use Rattle.dc_base.specs.declared.nodes.LegSet.TheVariants.{Mcg, Scg, Split}
use Rattle.dc_base.specs.declared.nodes.Node.{Node}
use Rattle.dc_base.specs.declared.nodes.Node.TheVariants.{T, M, A, B}
use Rattle.dc_base.specs.declared.nodes.Shape.{Shape}
use Rattle.dc_base.specs.declared.nodes.Side.{Side}
use Rattle.dc_base.specs.declared.nodes.Side.TheVariants.{Master, Second}
use Rattle.dc_base.specs.declared.nodes.Want.{Want}
use Rattle.dc_base.specs.declared.nodes.Want.TheVariants.{Rekey, Change, Release}
use Rattle.dc_base.specs.declared.numbers.SnLen.{SnLen}
use Rattle.dc_base.specs.declared.numbers.SnLen.TheVariants.{S12, S18}
use Rattle.dc_base.specs.declared.records.Item.{Item}
use Rattle.dc_base.specs.declared.records.Item.TheVariants.{Set, Unset}
use Rattle.transcript.specs.Words.{or_dash, octets_or_dash, dir_word, node_word, sn_word, link_word, shape_word, side_word, key_word, want_word, refusal_word, cause_word}
use Rattle.transcript.specs.Text.{item_text, pair_text}
use Rattle.script_text.proofs.Spaceless.{octets_are_spaceless, link_is_spaceless}
use Rattle.transcript_text.specs.Ranges.{IsTag, IsSide, IsKey, IsItem, IsPair}
use Rattle.transcript_text.specs.Grammar.{Kind, Allows, Number, Octets, Pdu, Bits, Tag, AnyNode, MaybeNode, Direction, Linked, Wanted, Refused, Cause, Sequence, Shaped, Key, PlanItem, BearerPair}
use Rattle.transcript_text.specs.Items.{item_parts}
use Rattle.transcript_text.proofs.Free.{is_free, AllFree, is_free-append, is_free-joined, decimal_is_free, free_of_space}

-- neither a space nor a slash
abbrev pub IsPlain : List ℕ → Type 0
IsPlain f = (is_free 32 f ≡ true) × (is_free 47 f ≡ true)

number_plain : (n : ℕ) → n ≤ 4294967295 → IsPlain (decimal n)
number_plain n h = (decimal_is_free 32 n (omega arith) (omega (arith, h)), decimal_is_free 47 n (omega arith) (omega (arith, h)))

both_plain : (a b : List ℕ) → IsPlain a → IsPlain b → IsPlain (a ++ b)
both_plain a b ha hb = (is_free-append 32 a b ha.0 hb.0, is_free-append 47 a b ha.1 hb.1)

node_plain : (n : Node) → IsPlain (node_word n)
node_plain T = (refl, refl)
node_plain M = (refl, refl)
node_plain A = (refl, refl)
node_plain B = (refl, refl)

maybe_node_plain : (n : Option Node) → IsPlain (or_dash node_word n)
maybe_node_plain (Some n) = node_plain n
maybe_node_plain None = (refl, refl)

dir_plain : (d : Dir) → IsPlain (dir_word d)
dir_plain Ul = (refl, refl)
dir_plain Dl = (refl, refl)

sn_plain : (n : SnLen) → IsPlain (sn_word n)
sn_plain S12 = (refl, refl)
sn_plain S18 = (refl, refl)

want_plain : (w : Want) → IsPlain (want_word w)
want_plain Rekey = (refl, refl)
want_plain Change = (refl, refl)
want_plain Release = (refl, refl)

cause_plain : (w : Word) → IsPlain (cause_word w)
cause_plain word.Busy = (refl, refl)
cause_plain word.NoSecondary = (refl, refl)
cause_plain word.CounterSpent = (refl, refl)
cause_plain word.Rejected = (refl, refl)

pub refusal_plain : (r : Refusal) → IsPlain (refusal_word r)
refusal_plain refusal.NoBearer = (refl, refl)
refusal_plain refusal.BearerThere = (refl, refl)
refusal_plain refusal.Busy = (refl, refl)
refusal_plain refusal.NoSecondary = (refl, refl)
refusal_plain refusal.SecondaryThere = (refl, refl)
refusal_plain refusal.SameShape = (refl, refl)
refusal_plain refusal.IdSpent = (refl, refl)
refusal_plain refusal.CounterSpent = (refl, refl)
refusal_plain refusal.RootUsed = (refl, refl)
refusal_plain refusal.NoFlight = (refl, refl)
refusal_plain refusal.NotFirst = (refl, refl)
refusal_plain refusal.NotTunnel = (refl, refl)
refusal_plain refusal.Aged = (refl, refl)
refusal_plain refusal.Full = (refl, refl)
refusal_plain refusal.Exhausted = (refl, refl)
refusal_plain refusal.NoPolicy = (refl, refl)

shape_parts : (second : Bool) (legs : LegSet) (dup : Bool) → IsPlain (shape_word record { at_second = second; legs = legs; dup = dup })
shape_parts false Mcg false = (refl, refl)
shape_parts false Mcg true = (refl, refl)
shape_parts false Scg false = (refl, refl)
shape_parts false Scg true = (refl, refl)
shape_parts false (Split cell.Mcg) false = (refl, refl)
shape_parts false (Split cell.Mcg) true = (refl, refl)
shape_parts false (Split cell.Scg) false = (refl, refl)
shape_parts false (Split cell.Scg) true = (refl, refl)
shape_parts true Mcg false = (refl, refl)
shape_parts true Mcg true = (refl, refl)
shape_parts true Scg false = (refl, refl)
shape_parts true Scg true = (refl, refl)
shape_parts true (Split cell.Mcg) false = (refl, refl)
shape_parts true (Split cell.Mcg) true = (refl, refl)
shape_parts true (Split cell.Scg) false = (refl, refl)
shape_parts true (Split cell.Scg) true = (refl, refl)

shape_plain : (s : Shape) → IsPlain (shape_word s)
shape_plain s = shape_parts s.at_second s.legs s.dup

side_plain : (root : ℕ) (side : Side) → root ≤ 4294967295 → IsSide side → IsPlain (side_word root side)
side_plain root Master h side = both_plain (codes "m") (decimal root) (refl, refl) (number_plain root h)
side_plain root (Second counter) h side =
    both_plain (codes "s" ++ decimal root ++ codes ".") (decimal counter)
    (both_plain (codes "s" ++ decimal root) (codes ".") (both_plain (codes "s") (decimal root) (refl, refl) (number_plain root h)) (refl, refl))
    (number_plain counter (omega (arith, side)))

key_plain : (k : KeyName) → IsKey k → IsPlain (key_word k)
key_plain k h = side_plain k.root k.side h.0 h.1

tag_free : (t : Option ℕ) → IsTag t → is_free 32 (or_dash decimal t) ≡ true
tag_free (Some n) h = (number_plain n h).0
tag_free None h = refl

bits_free : (x : List ℕ) → IsBytes x → is_free 32 (octets_or_dash x) ≡ true
bits_free [] h = refl
bits_free (o ∷ os) h = free_of_space (encode_lower (o ∷ os)) (octets_are_spaceless (o ∷ os) h)

-- the parts of an item have no slash
pub item_parts_free : (id : ℕ) (n : SnLen) (first : ℕ) (shape : Shape) (threshold policy : ℕ) (key : KeyName) (old : Option Node)
    → IsItem (Set id n first shape threshold policy key old) → AllFree 47 (item_parts (Set id n first shape threshold policy key old))
item_parts_free id n first shape threshold policy key old h = (
  (number_plain id (omega (arith, h.0.1))).1,
  (
    (sn_plain n).1,
    (
      (number_plain first h.1).1,
      (
        (shape_plain shape).1,
        (
          (number_plain threshold h.3).1,
          (
            (number_plain policy (omega (arith, h.4))).1,
            (
              (key_plain key h.5).1,
              ((maybe_node_plain old).1, tt),
            ),
          ),
        ),
      ),
    ),
  ),
)

item_free : (i : Item) → IsItem i → is_free 32 (item_text i) ≡ true
item_free (Set id n first shape threshold policy key old) h =
    is_free-joined 32 47 (item_parts (Set id n first shape threshold policy key old)) refl (
      (number_plain id (omega (arith, h.0.1))).0,
      (
        (sn_plain n).0,
        (
          (number_plain first h.1).0,
          (
            (shape_plain shape).0,
            (
              (number_plain threshold h.3).0,
              (
                (number_plain policy (omega (arith, h.4))).0,
                (
                  (key_plain key h.5).0,
                  ((maybe_node_plain old).0, tt),
                ),
              ),
            ),
          ),
        ),
      ),
    )
item_free (Unset id) h = is_free-append 32 (codes "-") (decimal id) refl (number_plain id (omega (arith, h.1))).0

-- nor have the two parts of a pair
pub pair_parts_free : (p : ℕ × ℕ) → IsPair p → AllFree 47 (decimal p.0 ∷ decimal p.1 ∷ [])
pair_parts_free p h = ((number_plain p.0 (omega (arith, h.0.1))).1, ((number_plain p.1 h.1).1, tt))

pair_free : (p : ℕ × ℕ) → IsPair p → is_free 32 (pair_text p) ≡ true
pair_free p h =
    is_free-append 32 (decimal p.0 ++ codes "/") (decimal p.1)
    (is_free-append 32 (decimal p.0) (codes "/") (number_plain p.0 (omega (arith, h.0.1))).0 refl) (number_plain p.1 h.1).0

free_as : (f g : List ℕ) → f ≡ g → is_free 32 g ≡ true → is_free 32 f ≡ true
free_as f g e h = subst (λ (x : List ℕ). is_free 32 x ≡ true) (sym e) h

-- whether numbers of the sort have 32 bits at most
abbrev pub is_small : Kind → Bool
is_small (Number low high) = nat_le high 4294967295
is_small _ = true

-- a field of any sort has no space
pub allowed_free : (k : Kind) (f : List ℕ) → is_small k ≡ true → Allows k f → is_free 32 f ≡ true
allowed_free (Number low high) f small w = free_as f (decimal w.0) w.2 (number_plain w.0 (omega (arith, w.1.1, leb-true _ _ small))).0
allowed_free Octets f small w = free_as f (encode_lower w.0) w.2 (free_of_space (encode_lower w.0) (octets_are_spaceless w.0 w.1.1))
allowed_free (Pdu d) f small w = free_as f (encode_lower w.0) w.2 (free_of_space (encode_lower w.0) (octets_are_spaceless w.0 w.1.0.1))
allowed_free Bits f small w = free_as f (octets_or_dash w.0) w.2 (bits_free w.0 w.1)
allowed_free Tag f small w = free_as f (or_dash decimal w.0) w.2 (tag_free w.0 w.1)
allowed_free AnyNode f small w = free_as f (node_word w.0) w.1 (node_plain w.0).0
allowed_free MaybeNode f small w = free_as f (or_dash node_word w.0) w.1 (maybe_node_plain w.0).0
allowed_free Direction f small w = free_as f (dir_word w.0) w.1 (dir_plain w.0).0
allowed_free Linked f small w = free_as f (link_word w.0) w.2 (free_of_space (link_word w.0) (link_is_spaceless w.0))
allowed_free Wanted f small w = free_as f (want_word w.0) w.1 (want_plain w.0).0
allowed_free Refused f small w = free_as f (refusal_word w.0) w.1 (refusal_plain w.0).0
allowed_free Cause f small w = free_as f (cause_word w.0) w.1 (cause_plain w.0).0
allowed_free Sequence f small w = free_as f (sn_word w.0) w.1 (sn_plain w.0).0
allowed_free Shaped f small w = free_as f (shape_word w.0) w.2 (shape_plain w.0).0
allowed_free Key f small w = free_as f (key_word w.0) w.2 (key_plain w.0 w.1).0
allowed_free PlanItem f small w = free_as f (item_text w.0) w.2 (item_free w.0 w.1)
allowed_free BearerPair f small w = free_as f (pair_text w.0) w.2 (pair_free w.0 w.1)
