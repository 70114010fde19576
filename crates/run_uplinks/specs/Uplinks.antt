-- The terminal's side of each bearer is what the past says of it.
use Rattle.std.specs.List.{AllByRecursion}
use Rattle.std.specs.Prelude.{List, None, Option, Some, [], false, length, slice_index_or, ℕ, ◌+◌, ◌<◌, ◌≡◌, ◌≤◌, ◌∷◌, ⊤}
use Rattle.std.proofs.Common.{◌⊎◌}
use Rattle.dc_base.specs.Count.{window}
use Rattle.dc_base.specs.declared.nodes.Alg.{Alg}
use Rattle.dc_base.specs.declared.nodes.KeyName.{KeyName}
use Rattle.dc_base.specs.declared.nodes.Node.TheVariants.{T}
use Rattle.dc_base.specs.declared.nodes.Shape.{Shape}
use Rattle.dc_base.specs.declared.numbers.SnLen.{SnLen}
use Rattle.dc_base.specs.declared.records.Item.{Item}
use Rattle.dc_base.specs.declared.records.Item.TheVariants.{Set, Unset}
use Rattle.dc_base.specs.declared.records.Plan.{Plan}
use Rattle.key_chain.specs.KeyNames.{octets}
use Rattle.claims.specs.Reading.{Setting}
use Rattle.claims.specs.Table.{Row}
use Rattle.pdcp_tx.specs.Sender.{Rises, Sender, low}
use Rattle.node_rules.specs.Held.{held}
use Rattle.node_rules.specs.Setup.{Setup}
use Rattle.node_rules.specs.Terminal.{TerminalNode}
use Rattle.node_rules.specs.TerminalHalf.{TerminalHalf}
use Rattle.run_windows.specs.Windows.{Ascends}
use Rattle.run_uplinks.specs.Seen.{Seen, Uplink, latest, setting_in, submission_in}

-- an SDU is kept under the COUNT of its submission
abbrev pub IsSubmitted : Uplink → ℕ × List ℕ → Type 0
IsSubmitted u e = submission_in u e.0 ≡ Some e.1

-- the sending entity of an uplink: the next COUNT is the one after the submissions; nothing waits for a COUNT; what is kept ascends,
-- each under the COUNT of its submission; Low is the COUNT of the last `freed` line, and the next COUNT is at most a window past
-- it (TS 38.323, 5.2.1 and 7.1)
pub record IsSender (u : Uplink) (tx : Sender) : Type 0 where
  pub n : tx.n ≡ u.n
  pub next : tx.next ≡ u.first + length u.submitted
  pub held_none : tx.held ≡ []
  pub rises : Rises u.first tx.next tx.kept
  pub low_is : low tx ≡ u.freed
  pub near : tx.next ≤ u.freed + window u.n
  pub payloads : AllByRecursion (IsSubmitted u) tx.kept

-- what all bearers have in common: the plans drawn, the roots named, the last generation and the algorithm
pub record Plane : Type 0 where
  pub plans : List Plan
  pub roots : List (List ℕ)
  pub last : ℕ
  pub alg : Alg

-- as it is seen
abbrev pub plane : Seen → Plane
plane s = record { plans = s.plans; roots = s.roots; last = s.last; alg = s.alg }

-- the shape and the secondary node of a setting are those of the setup, and its key has the name that the setting gives it, of a
-- root that was named
abbrev pub IsSetBy : List (List ℕ) → Setup → Option Setting → Type 0
IsSetBy roots s None = ⊥
IsSetBy roots s (Some x) = (x.shape ≡ s.legs.shape) × (x.sec ≡ s.sec) × (s.key ≡ octets roots x.key) × (x.key.root < length roots)

-- what the terminal holds of a bearer: the setup is by the plan of the generation that the past has for the terminal, and by the
-- establishment; the SCG leg is marked as the past has it, and the MCG leg is not
pub record IsHalf (k : Plane) (u : Uplink) (h : TerminalHalf) : Type 0 where
  pub node : h.setup.node ≡ T
  pub alg : h.setup.alg ≡ k.alg
  pub taken : u.terminal ≡ Some h.setup.g
  pub id : h.setup.id ≡ u.id
  pub n : h.setup.n ≡ u.n
  pub first : h.setup.first ≡ u.first
  pub set : IsSetBy k.roots h.setup (setting_in k.plans u.id h.setup.g)
  pub since : u.g ≤ h.setup.g
  pub upto : h.setup.g ≤ k.last
  pub failed : h.setup.legs.scg.failed ≡ u.is_failed
  pub mcg : h.setup.legs.mcg.failed ≡ false
  pub sender : IsSender u h.tx

-- nothing happened to the uplink yet
pub record IsFresh (u : Uplink) : Type 0 where
  pub submitted : u.submitted ≡ []
  pub freed : u.freed ≡ u.first

-- an establishment that the terminal does not have: it never had it, or a later plan dropped it
abbrev pub IsOut : ℕ → Option Uplink → Type 0
IsOut last None = ⊤
IsOut last (Some u) = (u.terminal ≡ None) × (IsFresh u ⊎ (u.g < last))

-- of an identity the terminal holds nothing, and has not the latest establishment; or it holds that
pub data Fits (s : Seen) (t : TerminalNode) (id : ℕ) : Type 0 where
  absent : (none : held id t.halves ≡ None) → (out : IsOut s.last (latest id s.bearers)) → Fits s t id
  present : (h : TerminalHalf) → (there : held id t.halves ≡ Some h) → (u : Uplink) → (at : latest id s.bearers ≡ Some u)
      → (half : IsHalf (plane s) u h) → Fits s t id

-- an earlier establishment of the same identity is not at the terminal
abbrev pub IsOutBehind : ℕ → Uplink → Type 0
IsOutBehind id v = v.id ≡ id → v.terminal ≡ None

-- none behind the latest of an identity is
abbrev pub AreAlone : List Uplink → Type 0
AreAlone [] = ⊤
AreAlone (u ∷ us) = AllByRecursion (IsOutBehind u.id) us × AreAlone us

-- names descend, from below this one
abbrev pub Descend : ℕ → List Uplink → Type 0
Descend above [] = ⊤
Descend above (u ∷ us) = (u.g < above) × Descend u.g us

-- items that set bearers that were there before, by ascending identities from this one on
abbrev pub AreSettings : ℕ → List Item → Type 0
AreSettings from [] = ⊤
AreSettings from (Set id n first shape threshold policy key None ∷ items) = ⊥
AreSettings from (Set id n first shape threshold policy key (Some old) ∷ items) = (from ≤ id) × AreSettings (id + 1) items
AreSettings from (Unset id ∷ items) = ⊥

-- the key that an item sets is of this root
abbrev pub IsOfRoot : ℕ → Item → Type 0
IsOfRoot root (Set id n first shape threshold policy key old) = key.root ≡ root
IsOfRoot root (Unset id) = ⊤

-- the octets are those of a root that was named, of which all keys of the plan are (TS 33.501, 6.10.2.1)
pub record IsKeyOf (roots : List (List ℕ)) (q : Plan) (key : List ℕ) : Type 0 where
  pub root : ℕ
  pub named : root < length roots
  pub is : key ≡ slice_index_or roots root []
  pub items : AllByRecursion (IsOfRoot root) q.items

-- rows of the command table by ascending identities, from this one on
abbrev pub RowsAscend : ℕ → List Row → Type 0
RowsAscend from [] = ⊤
RowsAscend from (r ∷ rows) = (from ≤ r.id) × RowsAscend (r.id + 1) rows

-- the last plan sets bearers that were there before, or sets up the latest establishment, or drops one; none is named later than it
pub data IsDrawn (s : Seen) : Type 0 where
  nothing_drawn : (plans : s.plans ≡ []) → (bearers : s.bearers ≡ []) → IsDrawn s
  settings_drawn : (q : Plan) → (qs : List Plan) → (plans : s.plans ≡ q ∷ qs) → (last : q.g ≡ s.last) → (olds : AreSettings 0 q.items)
      → (below : Descend s.last s.bearers) → IsDrawn s
  bearer_drawn : (q : Plan) → (qs : List Plan) → (plans : s.plans ≡ q ∷ qs) → (last : q.g ≡ s.last)
      → (id : ℕ) → (n : SnLen) → (first : ℕ) → (shape : Shape) → (threshold : ℕ) → (policy : ℕ) → (key : KeyName)
      → (items : q.items ≡ Set id n first shape threshold policy key None ∷ [])
      → (u : Uplink) → (us : List Uplink) → (bearers : s.bearers ≡ u ∷ us) → (named : u.g ≡ s.last) → (of_id : u.id ≡ id) → (of_n : u.n ≡ n) → (of_first : u.first ≡ first)
      → (below : Descend s.last us) → IsDrawn s
  drop_drawn : (q : Plan) → (qs : List Plan) → (plans : s.plans ≡ q ∷ qs) → (last : q.g ≡ s.last) → (id : ℕ) → (items : q.items ≡ Unset id ∷ [])
      → (below : Descend s.last s.bearers) → IsDrawn s

-- the next COUNT is at most a window past the last `freed` line (TS 38.323, 5.2.1)
abbrev pub IsNear : Uplink → Type 0
IsNear u = u.first + length u.submitted ≤ u.freed + window u.n

-- all of it
pub record IsUp (s : Seen) (t : TerminalNode) : Type 0 where
  pub each : (id : ℕ) → Fits s t id
  pub alone : AreAlone s.bearers
  pub drawn : IsDrawn s
  pub near : AllByRecursion IsNear s.bearers
  pub sec : s.sec ≡ t.sec
  pub alg : s.alg ≡ t.alg
  pub ascends : Ascends 0 t.halves
