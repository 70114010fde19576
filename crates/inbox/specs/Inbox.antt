-- The rule of an inbox.
use Rattle.std.specs.Prelude.{◌≡◌, ℕ, ◌==◌, not, Bool, true, false, List, [], ◌∷◌, ◌++◌, map}
use Rattle.std.specs.List.{AllByRecursion, filter}
use mathlib.Core.Option.{some}
use lib.ListN.{get_elem?}
use Rattle.journals.specs.declared.entries.Message.{Message}
use Rattle.journals.specs.Messages.{from}
use Rattle.inbox.specs.declared.Claim.{Claim}
use Rattle.inbox.specs.declared.View.{View}

-- the right to push as sender p, and what was pushed under it
abbrev pub claim : ℕ → List Message → Claim
claim p put = record { sender = p; put = put }

-- what a pass may do, what it has taken, and its claims
abbrev pub view_of : Bool → List Message → List Claim → View
view_of gets got claims = record { gets = gets; got = got; claims = claims }

-- a pass of sender p
abbrev pub sender : ℕ → List Message → View
sender p put = view_of false [] (claim p put ∷ [])

-- the pass with all rights
abbrev pub whole : View
whole = view_of true [] (claim 0 [] ∷ claim 1 [] ∷ claim 2 [] ∷ claim 3 [] ∷ [])

-- the claims of sender p among these
abbrev pub claim_of : ℕ → List Claim → List Claim
claim_of p cs = filter (λ c. c.sender == p) cs

-- those of the other senders
abbrev pub claims_but : ℕ → List Claim → List Claim
claims_but p cs = filter (λ c. not (c.sender == p)) cs

-- a message was pushed: under each claim of the pass
abbrev pub pushed_on : View → Message → View
pushed_on v x = view_of v.gets v.got (map (λ c. claim c.sender (c.put ++ x ∷ [])) v.claims)

-- a message was taken, and stands at the end of what was
abbrev pub popped_on : View → Message → View
popped_on v x = view_of v.gets (v.got ++ x ∷ []) v.claims

-- what the first claim has pushed
abbrev pub puts : List Claim → List Message
puts [] = []
puts (c ∷ cs) = c.put

-- what was pushed under the first claim of a pass
abbrev pub put_of : View → List Message
put_of v = puts v.claims

-- the pass is sender p's: it has this one claim and takes nothing
abbrev pub IsSender : ℕ → View → Type 0
IsSender p v = v ≡ sender p (put_of v)

-- each sender has one pass, which knows what was pushed
abbrev pub FitsClaim : (ℕ → ℕ) → (ℕ → List Message) → ℕ → Claim → Type 0
FitsClaim seat pushed pass c = (seat c.sender ≡ pass) × (c.put ≡ pushed c.sender)

-- one pass at most pops, and it knows what was popped
abbrev pub Fits : ℕ → (ℕ → ℕ) → (ℕ → List Message) → List Message → ℕ → View → Type 0
Fits reader seat pushed got pass v = (v.gets ≡ true → (pass ≡ reader) × (v.got ≡ got)) × AllByRecursion (FitsClaim seat pushed pass) v.claims

-- of each sender, what was taken and then what is queued is what was pushed
abbrev pub Delivers : List Message → List View → Type 0
Delivers items views =
    (reader : ℕ) × (seat : ℕ → ℕ) × (pushed : ℕ → List Message) × (got : List Message)
    × ((p : ℕ) → from p got ++ from p items ≡ pushed p)
    × ((pass : ℕ) (v : View) → get_elem? views pass ≡ some v → Fits reader seat pushed got pass v)

-- the same of one claim
abbrev pub Kept : List Message → List Message → Claim → Type 0
Kept got items c = from c.sender got ++ from c.sender items ≡ c.put
