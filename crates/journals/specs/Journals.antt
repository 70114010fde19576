-- When the journals of the four nodes may stand beside one another.
use Rattle.std.specs.Prelude.{List, [], ℕ, ⊤, ◌++◌, ◌+◌, ◌<◌, ◌∷◌, ◌≡◌, ◌≤◌, ◌⊎◌}
use Rattle.std.specs.List.{AllByRecursion}
use Rattle.dc_base.specs.Nodes.{node_number}
use Rattle.journals.specs.Messages.{from, messages, to}
use Rattle.journals.specs.declared.entries.JournalEntry.{JournalEntry}
use Rattle.journals.specs.declared.entries.Message.{Message}
use Rattle.journals.specs.declared.entries.What.{What}
use Rattle.journals.specs.declared.entries.What.TheVariants.{Driver, Loss, Step}

-- the message that was taken, if one was
abbrev pub took : What → List Message
took (Driver e) = []
took (Step m) = m ∷ []
took (Loss m) = m ∷ []

-- all that were taken
abbrev pub taken : List JournalEntry → List Message
taken [] = []
taken (e ∷ es) = took e.what ++ taken es

-- the messages that an entry sent
abbrev pub outputs : JournalEntry → List Message
outputs e = messages e.stamp e.lines

-- all that were sent
abbrev pub sent : List JournalEntry → List Message
sent [] = []
sent (e ∷ es) = outputs e ++ sent es

-- node n sends on links of its own alone, and what it takes has a smaller stamp
pub record Stamped (n : ℕ) (e : JournalEntry) : Type 0 where
  pub sends : AllByRecursion (λ (m : Message). node_number m.link.from ≡ n) (outputs e)
  pub takes : AllByRecursion (λ (m : Message). m.stamp < e.stamp) (took e.what)

-- stamps rise, from s on, and turns, from t on
abbrev pub Rising : ℕ → ℕ → List JournalEntry → Type 0
Rising s t [] = ⊤
Rising s t (e ∷ es) = (s ≤ e.stamp) × (t ≤ e.turn) × Rising (e.stamp + 1) (e.turn + 1) es

-- xs are the first of ys, in order
abbrev pub AreFirst : List Message → List Message → Type 0
AreFirst xs ys = (rest : List Message) × (ys ≡ xs ++ rest)

-- the journals by the nodes' numbers: of each sender, what a node took is what was sent to it first, none left out
pub record Legal (j : ℕ → List JournalEntry) : Type 0 where
  pub stamped : (n : ℕ) → AllByRecursion (Stamped n) (j n)
  pub rising : (n : ℕ) → Rising 0 0 (j n)
  pub first : (p n : ℕ) → AreFirst (from p (taken (j n))) (to n (sent (j p)))

-- P of some element
abbrev pub Somewhere : {X : Type 0} → (X → Type 0) → List X → Type 0
Somewhere P [] = ⊥
Somewhere P (x ∷ xs) = P x ⊎ Somewhere P xs

-- an entry of its sender sent it, with a stamp below s
abbrev pub SentBefore : (ℕ → List JournalEntry) → ℕ → Message → Type 0
SentBefore j s m =
    Somewhere (λ (f : JournalEntry). (f.stamp < s) × Somewhere (λ (x : Message). x ≡ m) (outputs f)) (j (node_number m.link.from))
