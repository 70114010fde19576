-- All entries in one order, and what was sent and not taken at each moment of it.
use Rattle.std.specs.Prelude.{Bool, List, [], drop, if◌then◌else◌, nat_le, nat_lt, true, ℕ, ⊤, ◌&&◌, ◌++◌, ◌==◌, ◌||◌, ◌∷◌, ◌≡◌}
use Rattle.std.specs.List.{AllByRecursion}
use Rattle.dc_base.specs.Nodes.{node_number}
use Rattle.dc_base.specs.declared.nodes.Node.{Node}
use Rattle.dc_base.specs.declared.nodes.Node.TheVariants.{A, B, M, T}
use Rattle.journals.specs.Journals.{outputs}
use Rattle.journals.specs.Messages.{to}
use Rattle.journals.specs.declared.entries.JournalEntry.{JournalEntry}
use Rattle.journals.specs.declared.entries.Message.{Message}
use Rattle.journals.specs.declared.entries.What.{What}
use Rattle.journals.specs.declared.entries.What.TheVariants.{Driver, Loss, Step}

-- the entries of node n
abbrev pub of : ℕ → List (Node × JournalEntry) → List JournalEntry
of n [] = []
of n (x ∷ xs) = if node_number x.0 == n then x.1 ∷ of n xs else of n xs

-- by stamp, and then by node
abbrev pub is_before : Node × JournalEntry → Node × JournalEntry → Bool
is_before x y =
    nat_lt x.1.stamp y.1.stamp || (x.1.stamp == y.1.stamp && nat_le (node_number x.0) (node_number y.0))

-- none stands behind one that it comes before
abbrev pub Sorted : List (Node × JournalEntry) → Type 0
Sorted [] = ⊤
Sorted (x ∷ xs) = AllByRecursion (λ y. is_before x y ≡ true) xs × Sorted xs

-- the order has each journal's entries, in the journal's order
pub record Merged (j : ℕ → List JournalEntry) (xs : List (Node × JournalEntry)) : Type 0 where
  pub sorted : Sorted xs
  pub parts : (n : ℕ) → of n xs ≡ j n

-- ---- what was sent from one node to another and not taken yet

-- by the numbers of sender and receiver, the messages in the order in which they were sent
abbrev pub Under : Type 0
Under = ℕ → ℕ → List Message

-- nothing
abbrev pub empty : Under
empty p k = []

-- this message is the first of its sender to node n
abbrev pub IsAtFront : Under → ℕ → Message → Type 0
IsAtFront under n m = (rest : List Message) × (under (node_number m.link.from) n ≡ m ∷ rest)

-- what an entry of node n takes is the first of its sender
abbrev pub Found : Under → ℕ → What → Type 0
Found under n (Driver e) = ⊤
Found under n (Step m) = IsAtFront under n m
Found under n (Loss m) = IsAtFront under n m

-- without the first message from one node to another
abbrev pub without_first : ℕ → ℕ → Under → Under
without_first from n under = λ p k. if from == p then (if n == k then drop 1 (under p k) else under p k) else under p k

-- without what an entry of node n takes
abbrev pub taken_off : Under → ℕ → What → Under
taken_off under n (Driver e) = under
taken_off under n (Step m) = without_first (node_number m.link.from) n under
taken_off under n (Loss m) = without_first (node_number m.link.from) n under

-- with what node n sends
abbrev pub added : Under → ℕ → List Message → Under
added under n ms = λ p k. if n == p then under p k ++ to k ms else under p k

-- after an entry
abbrev pub after : Under → Node × JournalEntry → Under
after under x = added (taken_off under (node_number x.0) x.1.what) (node_number x.0) (outputs x.1)

-- each message is found when it is taken
abbrev pub Runs : Under → List (Node × JournalEntry) → Type 0
Runs under [] = ⊤
Runs under (x ∷ xs) = Found under (node_number x.0) x.1.what × Runs (after under x) xs

-- ---- one such order

-- four journals by the nodes' numbers
abbrev pub numbered : List JournalEntry → List JournalEntry → List JournalEntry → List JournalEntry → ℕ → List JournalEntry
numbered t m a b n = if 0 == n then t else if 1 == n then m else if 2 == n then a else if 3 == n then b else []

-- an entry put before the first that it comes before
abbrev pub put : Node × JournalEntry → List (Node × JournalEntry) → List (Node × JournalEntry)
put x [] = x ∷ []
put x (y ∷ ys) = if is_before x y then x ∷ y ∷ ys else y ∷ put x ys

-- a journal's entries put among others
abbrev pub put_all : Node → List JournalEntry → List (Node × JournalEntry) → List (Node × JournalEntry)
put_all n [] ys = ys
put_all n (e ∷ es) ys = put (n, e) (put_all n es ys)

-- all four
abbrev pub merged : List JournalEntry → List JournalEntry → List JournalEntry → List JournalEntry → List (Node × JournalEntry)
merged t m a b = put_all T t (put_all M m (put_all A a (put_all B b [])))
