-- When two things are the same: as tests, so that a claim computes.
use Rattle.std.specs.List.{list_any}
use Rattle.std.specs.Option.{option_map}
use Rattle.std.specs.Prelude.{Bool, List, None, Option, Some, [], false, if◌then◌else◌, not, true, ℕ, ◌&&◌, ◌*◌, ◌+◌, ◌==◌, ◌||◌, ◌∷◌}
use Rattle.dc_base.specs.Count.{bits}
use Rattle.dc_base.specs.Nodes.{is_same_node, node_number}
use Rattle.dc_base.specs.declared.answers.Answer.{Answer}
use Rattle.dc_base.specs.declared.answers.Answer.TheVariants as answer
use Rattle.dc_base.specs.declared.answers.Refusal.{Refusal}
use Rattle.dc_base.specs.declared.answers.Refusal.TheVariants as refusal
use Rattle.dc_base.specs.declared.answers.Word.{Word}
use Rattle.dc_base.specs.declared.answers.Word.TheVariants as word
use Rattle.dc_base.specs.declared.nodes.Cell.{Cell}
use Rattle.dc_base.specs.declared.nodes.Cell.TheVariants as cell
use Rattle.dc_base.specs.declared.nodes.KeyName.{KeyName}
use Rattle.dc_base.specs.declared.nodes.LegSet.{LegSet}
use Rattle.dc_base.specs.declared.nodes.LegSet.TheVariants.{Mcg, Scg, Split}
use Rattle.dc_base.specs.declared.nodes.Node.{Node}
use Rattle.dc_base.specs.declared.nodes.Shape.{Shape}
use Rattle.dc_base.specs.declared.nodes.Side.{Side}
use Rattle.dc_base.specs.declared.nodes.Side.TheVariants.{Master, Second as SecondKey}
use Rattle.dc_base.specs.declared.nodes.Want.{Want}
use Rattle.dc_base.specs.declared.nodes.Want.TheVariants as want
use Rattle.dc_base.specs.declared.records.Item.{Item}
use Rattle.dc_base.specs.declared.records.Item.TheVariants.{Set, Unset}
use Rattle.dc_base.specs.declared.records.Plan.{Plan}

-- it is there, and the test holds of it
abbrev pub is_some_and : {X : Type 0} → (X → Bool) → Option X → Bool
is_some_and f None = false
is_some_and f (Some x) = f x

-- the test holds of it, if it is there
abbrev pub is_none_or : {X : Type 0} → (X → Bool) → Option X → Bool
is_none_or f None = true
is_none_or f (Some x) = f x

-- it, where the test holds of it
abbrev pub kept_if : {X : Type 0} → (X → Bool) → Option X → Option X
kept_if f None = None
kept_if f (Some x) = if f x then Some x else None

-- if the one holds, so does the other
abbrev pub implies : Bool → Bool → Bool
implies a b = not a || b

-- a cell group as a number
abbrev pub cell_number : Cell → ℕ
cell_number cell.Mcg = 0
cell_number cell.Scg = 1

-- legs as a number
abbrev pub legs_number : LegSet → ℕ
legs_number Mcg = 0
legs_number Scg = 1
legs_number (Split primary) = 2 + cell_number primary

-- the node that may be there is this one
abbrev pub is_at : Node → Option Node → Bool
is_at x o = is_some_and (is_same_node x) o

-- the number that may be there is this one
abbrev pub is_number : ℕ → Option ℕ → Bool
is_number k o = is_some_and (λ h. k == h) o

-- the same octets
abbrev pub is_same_octets : List ℕ → List ℕ → Bool
is_same_octets [] [] = true
is_same_octets (x ∷ xs) (y ∷ ys) = (x == y) && is_same_octets xs ys
is_same_octets _ _ = false

-- the same payloads in the same order
abbrev pub are_same_payloads : List (List ℕ) → List (List ℕ) → Bool
are_same_payloads [] [] = true
are_same_payloads (x ∷ xs) (y ∷ ys) = is_same_octets x y && are_same_payloads xs ys
are_same_payloads _ _ = false

-- the octets that may be there are these
abbrev pub is_payload : Option (List ℕ) → List ℕ → Bool
is_payload o ys = is_some_and (λ xs. is_same_octets xs ys) o

-- the same number, or none on both sides
abbrev pub is_same_number : Option ℕ → Option ℕ → Bool
is_same_number None None = true
is_same_number (Some x) (Some y) = x == y
is_same_number _ _ = false

-- the same node, or none on both sides
abbrev pub are_same_nodes : Option Node → Option Node → Bool
are_same_nodes x y = is_same_number (option_map node_number x) (option_map node_number y)

-- the number is among these
abbrev pub is_among : ℕ → List ℕ → Bool
is_among c cs = list_any (λ x. x == c) cs

-- a flag as a number
abbrev pub flag_number : Bool → ℕ
flag_number b = if b then 1 else 0

-- a shape as a number: no two shapes have the same
abbrev pub shape_number : Shape → ℕ
shape_number s = legs_number s.legs + 4 * flag_number s.at_second + 8 * flag_number s.dup

-- whose key it is, and under which SN Counter
abbrev pub side_number : Side → ℕ
side_number Master = 0
side_number (SecondKey counter) = 1 + counter

-- the same key name
abbrev pub is_same_key : KeyName → KeyName → Bool
is_same_key x y = (x.root == y.root) && (side_number x.side == side_number y.side)

-- what a secondary asks for, as a number
abbrev pub want_number : Want → ℕ
want_number want.Rekey = 0
want_number want.Change = 1
want_number want.Release = 2

-- the same request
abbrev pub is_same_want : Want → Want → Bool
is_same_want x y = want_number x == want_number y

-- the word of a refused request, as a number
abbrev pub word_number : Word → ℕ
word_number word.Busy = 0
word_number word.NoSecondary = 1
word_number word.CounterSpent = 2
word_number word.Rejected = 3

-- the same word
abbrev pub is_same_word : Word → Word → Bool
is_same_word x y = word_number x == word_number y

-- the word of a refused event, as a number
abbrev pub refusal_number : Refusal → ℕ
refusal_number refusal.NoBearer = 1
refusal_number refusal.BearerThere = 2
refusal_number refusal.Busy = 3
refusal_number refusal.NoSecondary = 4
refusal_number refusal.SecondaryThere = 5
refusal_number refusal.SameShape = 6
refusal_number refusal.IdSpent = 7
refusal_number refusal.CounterSpent = 8
refusal_number refusal.RootUsed = 9
refusal_number refusal.NoFlight = 10
refusal_number refusal.NotFirst = 11
refusal_number refusal.NotTunnel = 12
refusal_number refusal.Aged = 13
refusal_number refusal.Full = 14
refusal_number refusal.Exhausted = 15
refusal_number refusal.NoPolicy = 16

-- an answer as a number: 0 is ok
abbrev pub answer_number : Answer → ℕ
answer_number answer.Ok = 0
answer_number (answer.No why) = refusal_number why

-- the same answer
abbrev pub is_same_answer : Answer → Answer → Bool
is_same_answer x y = answer_number x == answer_number y

-- the answer is ok
abbrev pub is_ok : Answer → Bool
is_ok x = answer_number x == 0

-- the same item of a plan
abbrev pub is_same_item : Item → Item → Bool
is_same_item (Set i n f s t p k o) (Set i' n' f' s' t' p' k' o') =
    (i == i') && (bits n == bits n') && (f == f') && (shape_number s == shape_number s') && (t == t') && (p == p') && is_same_key k k' && are_same_nodes o o'
is_same_item (Unset i) (Unset i') = i == i'
is_same_item _ _ = false

-- the same items in the same order
abbrev pub are_same_items : List Item → List Item → Bool
are_same_items [] [] = true
are_same_items (x ∷ xs) (y ∷ ys) = is_same_item x y && are_same_items xs ys
are_same_items _ _ = false

-- the same plan
abbrev pub is_same_plan : Plan → Plan → Bool
is_same_plan x y = (x.g == y.g) && are_same_nodes x.sec y.sec && are_same_items x.items y.items
