-- The order of an event's lines, without the past.
use Rattle.std.specs.Prelude.{◌≡◌, ◌||◌, true, List, [], ◌∷◌, ⊤}
use Rattle.dc_base.specs.declared.events.Line.{Line}
use Rattle.claims.specs.Order.{ends_row, is_not_after, place}

-- a line may stand right after another
abbrev pub MayFollow : Line → Line → Type 0
MayFollow y x = (ends_row y || is_not_after (place y) (place x)) ≡ true

-- each of these may follow the one before it, the first this one
abbrev pub FollowOn : Line → List Line → Type 0
FollowOn y [] = ⊤
FollowOn y (x ∷ xs) = MayFollow y x × FollowOn x xs

-- lines in their order
abbrev pub AreInOrder : List Line → Type 0
AreInOrder [] = ⊤
AreInOrder (x ∷ xs) = FollowOn x xs
