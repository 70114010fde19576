-- The payloads of each establishment of a bearer, counted.
use Rattle.std.specs.Prelude.{ℕ, ◌+◌, ◌==◌, ◌||◌, if◌then◌else◌, Bool, false, List, [], ◌∷◌, ◌++◌, ◌≡◌, ◌<◌, drop, length, slice_index_or}
use Rattle.dc_base.specs.declared.events.Event.{Event}
use Rattle.dc_base.specs.declared.events.Event.TheVariants.{Bearer, Submit}
use Rattle.dc_base.specs.declared.nodes.Dir.{Dir}
use Rattle.dc_base.specs.declared.nodes.Dir.TheVariants.{Dl, Ul}
use Rattle.summary.specs.declared.tallies.Concern.{Concern}
use Rattle.summary.specs.declared.tallies.Concern.TheVariants.{Nothing, SetUp, Submission}
use Rattle.summary.specs.declared.tallies.Tally.{Tally}

-- an establishment of this identity, with no payload yet
abbrev pub new_tally : ℕ → Tally
new_tally id = record { id = id; dl = record { handed = 0; submitted = 0 }; ul = record { handed = 0; submitted = 0 } }

-- with one more payload that was handed up
abbrev pub with_handed : Dir → Tally → Tally
with_handed Dl t = record t { dl = record t.dl { handed = t.dl.handed + 1 } }
with_handed Ul t = record t { ul = record t.ul { handed = t.ul.handed + 1 } }

-- with one more submission that was answered ok
abbrev pub with_submitted : Dir → Tally → Tally
with_submitted Dl t = record t { dl = record t.dl { submitted = t.dl.submitted + 1 } }
with_submitted Ul t = record t { ul = record t.ul { submitted = t.ul.submitted + 1 } }

-- whether an establishment of this identity is among some
abbrev pub is_there : ℕ → List Tally → Bool
is_there id [] = false
is_there id (t ∷ later) = (t.id == id) || is_there id later

-- the place of the latest of them
pub record IsLatest (id : ℕ) (bearers : List Tally) (place : ℕ) : Type 0 where
  pub there : place < length bearers
  pub is_it : (d : Tally) → (slice_index_or bearers place d).id ≡ id
  pub last : is_there id (drop (place + 1) bearers) ≡ false

-- a change of the latest establishment of an identity; the oldest come first
unfoldable pub with_latest : ℕ → (Tally → Tally) → List Tally → List Tally
with_latest id change [] = []
with_latest id change (t ∷ later) =
    if is_there id later then t ∷ with_latest id change later else if t.id == id then change t ∷ later else t ∷ later

-- what an event may add
abbrev pub concern_of : Event → Concern
concern_of (Bearer id n first shape threshold policy) = SetUp id
concern_of (Submit id dir sdu) = Submission id dir
concern_of _ = Nothing

-- what it adds, once it is answered ok
abbrev pub with_concern : Concern → List Tally → List Tally
with_concern (SetUp id) ts = ts ++ new_tally id ∷ []
with_concern (Submission id dir) ts = with_latest id (with_submitted dir) ts
with_concern Nothing ts = ts
