-- What stands on the core's lines to secondary nodes, by bearers (TS 37.340, 8; the line is this product's own).
use Rattle.std.specs.Prelude.{Bool, List, None, Option, Some, [], false, true, ℕ, ⊤, if◌then◌else◌, nat_le, ◌&&◌, ◌==◌, ◌≡◌, ◌≤◌, ◌<◌, ◌∷◌}
use Rattle.std.specs.List.{AllByRecursion, filter_map}
use Rattle.dc_base.specs.declared.flights.Flight.{Flight}
use Rattle.dc_base.specs.declared.flights.Flight.TheVariants as flight
use Rattle.node_rules.specs.Feed.{Fed}
use Rattle.run_senders.specs.Holders.{IfThere}

-- the payload of a flight that is an SDU of this identity, sent in the generation of an establishment or a later one
abbrev pub sdu_of : ℕ → ℕ → Flight → Option (List ℕ)
sdu_of est id (flight.Sdu i g payload) = if (i == id) && nat_le est g then Some payload else None
sdu_of est id _ = None

-- those on a line, in their order
abbrev pub sdus_of : ℕ → ℕ → List Flight → List (List ℕ)
sdus_of est id line = filter_map (sdu_of est id) line

-- an SDU of the establishment is of this generation or a later one
abbrev pub IsSince : ℕ → ℕ → ℕ → Flight → Type 0
IsSince est id since (flight.Sdu i g payload) = i ≡ id → est ≤ g → since ≤ g
IsSince est id since _ = ⊤

-- an SDU of the establishment is of an earlier generation than this
abbrev pub IsBefore : ℕ → ℕ → ℕ → Flight → Type 0
IsBefore est id h (flight.Sdu i g payload) = i ≡ id → est ≤ g → g < h
IsBefore est id h _ = ⊤

-- the flight is the end of the line for this identity, for a change of this generation
abbrev pub is_end_of : ℕ → ℕ → Flight → Bool
is_end_of id h (flight.End i g) = (i == id) && (g == h)
is_end_of id h _ = false

-- no SDU of the establishment stands behind such an end
abbrev pub EndsLine : ℕ → ℕ → ℕ → List Flight → Type 0
EndsLine est id h [] = ⊤
EndsLine est id h (f ∷ line) = (is_end_of id h f ≡ true → sdus_of est id line ≡ []) × EndsLine est id h line

-- what a flight on a line from or to the core says is of no later generation than this
abbrev pub IsKnown : ℕ → Flight → Type 0
IsKnown last (flight.Sdu i g payload) = g ≤ last
IsKnown last (flight.End i g) = g ≤ last
IsKnown last (flight.Told i g count) = g ≤ last
IsKnown last _ = ⊤

-- a COUNT that is told of the establishment is at most Low
abbrev pub IsTold : ℕ → ℕ → ℕ → Flight → Type 0
IsTold est id low (flight.Told i g count) = i ≡ id → est ≤ g → count ≤ low
IsTold est id low _ = ⊤

-- each SDU of the establishment on the line to an anchor is one that the anchor takes
pub record IsLineOf (est id : ℕ) (x : Fed) (line : List Flight) : Type 0 where
  pub since : AllByRecursion (IsSince est id x.since) line
  pub from : est ≤ x.since

-- and once the path leads elsewhere, by a change of this generation: all are of earlier ones and stand in front of the end, and none
-- stands there if the end was taken
pub record IsLastLineOf (est id h : ℕ) (x : Fed) (line : List Flight) : Type 0 where
  pub before : AllByRecursion (IsBefore est id h) line
  pub ends : EndsLine est id h line
  pub ended : x.ended ≡ Some h → sdus_of est id line ≡ []

-- an SDU of this identity, and an end of its line, is of no later generation than this
abbrev pub IsUpto : ℕ → ℕ → Flight → Type 0
IsUpto id h (flight.Sdu i g payload) = i ≡ id → g ≤ h
IsUpto id h (flight.End i g) = i ≡ id → g ≤ h
IsUpto id h _ = ⊤

-- nothing stands on a line that is of a later generation than this, and it has not ended for one
pub record AreUpto (id h : ℕ) (line : List Flight) (fed : Option Fed) : Type 0 where
  pub stand : AllByRecursion (IsUpto id h) line
  pub taken : IfThere (λ (x : Fed). (g : ℕ) → x.ended ≡ Some g → g ≤ h) fed

-- a node became the anchor in no later generation than this
abbrev pub IsSinceUpto : ℕ → Option Fed → Type 0
IsSinceUpto h fed = IfThere (λ (x : Fed). x.since ≤ h) fed
