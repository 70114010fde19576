-- What is read off the past.
use Rattle.std.specs.List.{filter_map, find, list_any}
use Rattle.std.specs.Option.{option_and_then, option_map}
use Rattle.std.specs.Prelude.{Bool, List, None, Option, Some, [], false, filter, fold, if◌then◌else◌, length, map, nat_le, nat_lt, not, slice_get, true, ℕ, ◌&&◌, ◌+◌, ◌-◌, ◌==◌, ◌∷◌}
use Rattle.dc_base.specs.Links.{is_same_link}
use Rattle.dc_base.specs.Nodes.{is_same_node}
use Rattle.dc_base.specs.declared.events.Line.{Line}
use Rattle.dc_base.specs.declared.events.Line.TheVariants as line
use Rattle.dc_base.specs.declared.flights.Flight.{Flight}
use Rattle.dc_base.specs.declared.flights.Flight.TheVariants as flight
use Rattle.dc_base.specs.declared.nodes.Dir.{Dir}
use Rattle.dc_base.specs.declared.nodes.Dir.TheVariants.{Dl, Ul}
use Rattle.dc_base.specs.declared.nodes.KeyName.{KeyName}
use Rattle.dc_base.specs.declared.nodes.LinkId.{LinkId}
use Rattle.dc_base.specs.declared.nodes.Node.{Node}
use Rattle.dc_base.specs.declared.nodes.Node.TheVariants.{A, B, M, T}
use Rattle.dc_base.specs.declared.nodes.Shape.{Shape}
use Rattle.dc_base.specs.declared.records.Item.{Item}
use Rattle.dc_base.specs.declared.records.Item.TheVariants.{Set, Unset}
use Rattle.dc_base.specs.declared.records.Plan.{Plan}
use Rattle.dc_base.specs.declared.records.Rec.{Rec}
use Rattle.claims.specs.Sameness.{is_among, is_number, is_some_and, kept_if}
use Rattle.claims.specs.Shapes.{anchor_at, has_leg_left}
use Rattle.claims.specs.Confirming.{least_but, unconfirmed_from}
use Rattle.claims.specs.Views.{record_in}
use Rattle.claims.specs.Past.{Bearer, Lane, Past, Second, new_second}

-- ---- plans

-- the plan that was drawn with a generation
abbrev pub plan : Past → ℕ → Option Plan
plan p g = find (λ q. q.g == g) p.plans

-- the item sets the identity
abbrev pub sets : ℕ → Item → Bool
sets id (Set i n first shape threshold policy key old) = i == id
sets id (Unset i) = false

-- the item drops it
abbrev pub unsets : ℕ → Item → Bool
unsets id (Set i n first shape threshold policy key old) = false
unsets id (Unset i) = i == id

-- what a plan sets of an identity, with the secondary of the plan
pub record Setting : Type 0 where
  pub sec : Option Node
  pub shape : Shape
  pub key : KeyName
  pub old : Option Node

-- the setting of an item
abbrev pub setting_of : Option Node → Option Item → Option Setting
setting_of sec None = None
setting_of sec (Some (Set i n first shape threshold policy key old)) = Some (record { sec = sec; shape = shape; key = key; old = old })
setting_of sec (Some (Unset i)) = None

-- what the plan of a generation sets of an identity
abbrev pub setting : Past → ℕ → ℕ → Option Setting
setting p id g = option_and_then (λ q. setting_of q.sec (find (sets id) q.items)) (plan p g)

-- the anchor's node there
abbrev pub anchor_in : Setting → Node
anchor_in s = anchor_at s.sec s.shape

-- the anchor moves: there was one, at another node
abbrev pub is_moved : Setting → Bool
is_moved s = is_some_and (λ x. not (is_same_node x (anchor_in s))) s.old

-- ---- bearers

-- the latest establishment of an identity
abbrev pub latest : Past → ℕ → Option Bearer
latest p id = find (λ b. b.id == id) p.bearers

-- the establishment of an identity that a generation is one of: the latest that was drawn by then
abbrev pub named : Past → ℕ → ℕ → Option Setting → Option Bearer
named p id g None = None
named p id g (Some s) = find (λ b. (b.id == id) && nat_le b.g g) p.bearers

-- the establishment that a generation's plan sets for an identity
abbrev pub bearer_of : Past → ℕ → ℕ → Option Bearer
bearer_of p id g = named p id g (setting p id g)

-- a direction of a bearer
abbrev pub lane : Dir → Bearer → Lane
lane Ul b = b.up
lane Dl b = b.down

-- the bearer with that direction in its place
abbrev pub with_lane : Dir → Lane → Bearer → Bearer
with_lane Ul x b = record b { up = x }
with_lane Dl x b = record b { down = x }

-- Low: the least COUNT that is not confirmed, or the next one
abbrev pub low : Dir → Bearer → ℕ
low d b = least_but (lane d b).confirms b.first (length (lane d b).submitted)

-- the COUNT of the next submission
abbrev pub next_count : Dir → Bearer → ℕ
next_count d b = b.first + length (lane d b).submitted

-- RX_DELIV, the COUNT of the next payload to hand up (TS 38.323, 7.1)
abbrev pub deliv : Dir → Bearer → ℕ
deliv d b = b.first + length (lane d b).handed

-- the payload that was submitted under this COUNT
abbrev pub submission : Dir → ℕ → Bearer → Option (List ℕ)
submission d c b = if nat_le b.first c then slice_get (lane d b).submitted (c - b.first) else None

-- COUNTs in their order, each once
abbrev pub with_count : ℕ → List ℕ → List ℕ
with_count c [] = c ∷ []
with_count c (x ∷ xs) = if x == c then x ∷ xs else if nat_lt c x then c ∷ x ∷ xs else x ∷ with_count c xs

-- the COUNTs that are stored: taken, and above the next to hand up
abbrev pub stored : Dir → Bearer → List ℕ
stored d b = fold (λ xs c. with_count c xs) [] (filter (nat_lt (deliv d b)) (lane d b).taken)

-- the node's anchor is active in this generation
abbrev pub holds : Node → ℕ → Option (Node × ℕ) → Bool
holds x g h = is_some_and (λ o. is_same_node x o.0 && (o.1 == g)) h

-- in some generation
abbrev pub holds_any : Node → Option (Node × ℕ) → Bool
holds_any x h = is_some_and (λ o. is_same_node x o.0) h

-- the generation in which it is, if it is there
abbrev pub generation_at : Node → Option (Node × ℕ) → Option ℕ
generation_at x h = option_map (λ o. o.1) (kept_if (λ o. is_same_node x o.0) h)

-- the generation that a node sends and receives in: that of the terminal, or of the active anchor there
abbrev pub current : Node → Bearer → Option ℕ
current T b = b.terminal
current M b = generation_at M b.holder
current A b = generation_at A b.holder
current B b = generation_at B b.holder

-- a node knows that the SCG leg of a generation failed
abbrev pub knows_failure : Node → ℕ → Bearer → Bool
knows_failure T g b = b.is_failed && is_number g b.terminal
knows_failure M g b = list_any (λ w. is_same_node M w.0 && (w.1 == g)) b.warned
knows_failure A g b = list_any (λ w. is_same_node A w.0 && (w.1 == g)) b.warned
knows_failure B g b = list_any (λ w. is_same_node B w.0 && (w.1 == g)) b.warned

-- the direction that a node receives
abbrev pub received_at : Node → Dir
received_at T = Dl
received_at M = Ul
received_at A = Ul
received_at B = Ul

-- the direction that it sends
abbrev pub sent_by : Node → Dir
sent_by T = Ul
sent_by M = Dl
sent_by A = Dl
sent_by B = Dl

-- the anchor's downlink is open in a generation: the master took its `rcomp`, and at a secondary that node its `recfg`
-- or `modcnf`; the terminal is always open
abbrev pub is_open_at : Past → Node → ℕ → Bool
is_open_at p T g = true
is_open_at p M g = is_among g p.completed
is_open_at p A g = is_among g p.completed && list_any (λ c. is_same_node A c.0 && (c.1 == g)) p.configured
is_open_at p B g = is_among g p.completed && list_any (λ c. is_same_node B c.0 && (c.1 == g)) p.configured

-- the node sends in this generation, and has a leg left
abbrev pub can_send : Past → Node → ℕ → Bearer → Option Setting → Bool
can_send p x g b s = is_open_at p x g && is_some_and (λ t. has_leg_left (knows_failure x g b) t.shape.legs) s

-- ---- which submissions a node has

-- a flight is a downlink SDU of the bearer, on its way to the node
abbrev pub is_sdu_for : Past → Node → Bearer → LinkId × Flight → Bool
is_sdu_for p x b (l, flight.Sdu id g sdu) = is_same_node l.to x && (id == b.id) && is_some_and (λ c. c.g == b.g) (bearer_of p id g)
is_sdu_for p x b _ = false

-- how many downlink submissions went to the node's anchor: all, or those from before the plan that moved it away
abbrev pub directed : Node → Bearer → Option Setting → ℕ
directed x b s = if is_some_and (λ t. is_same_node x (anchor_in t)) s then length b.down.submitted else b.before

-- how many of them reached it: all but those that still stand on its feed
abbrev pub reached : Past → Node → Bearer → ℕ
reached p x b = directed x b (setting p b.id b.carried) - length (filter (is_sdu_for p x b) p.standing)

-- the COUNTs that a node keeps to send: those that reached it and are not confirmed
abbrev pub kept : Past → Node → Bearer → List ℕ
kept p T b = unconfirmed_from b.up.confirms b.first (length b.up.submitted)
kept p M b = unconfirmed_from b.down.confirms b.first (reached p M b)
kept p A b = unconfirmed_from b.down.confirms b.first (reached p A b)
kept p B b = unconfirmed_from b.down.confirms b.first (reached p B b)

-- ---- secondaries and links

-- the one secondary or the other; terminal and master have no such part
abbrev pub second : Node → Past → Second
second A p = p.a
second B p = p.b
second T p = new_second
second M p = new_second

-- the past with that secondary in its place
abbrev pub with_second : Node → Second → Past → Past
with_second A x p = record p { a = x }
with_second B x p = record p { b = x }
with_second T x p = p
with_second M x p = p

-- what stands on a link
abbrev pub content : LinkId → Past → List Flight
content l p = filter_map (λ s. if is_same_link l s.0 then Some s.1 else None) p.standing

-- the flight that a line sends
abbrev pub sent_of : Line → Option (LinkId × Flight)
sent_of (line.Send l f) = Some (l, f)
sent_of _ = None

-- the flights that lines send
abbrev pub sends_in : List Line → List (LinkId × Flight)
sends_in xs = filter_map sent_of xs

-- the flights of the event so far
abbrev pub said_sends : Past → List (LinkId × Flight)
said_sends p = sends_in p.said

-- the record that the event gives
abbrev pub given_record : Past → Option Rec
given_record p = option_and_then (λ s. record_in s.1) p.given

-- it gives a flight from this node
abbrev pub given_from : Node → Past → Bool
given_from x p = is_some_and (λ s. is_same_node x s.0.from) p.given

-- or to this node
abbrev pub given_to : Node → Past → Bool
given_to x p = is_some_and (λ s. is_same_node x s.0.to) p.given

-- ---- changing a bearer

-- the establishment with this name, changed
abbrev pub on_bearer : ℕ → (Bearer → Bearer) → List Bearer → List Bearer
on_bearer g f bs = map (λ (b : Bearer). if b.g == g then f b else b) bs

-- the latest of an identity, changed
abbrev pub on_latest : ℕ → (Bearer → Bearer) → List Bearer → List Bearer
on_latest id f [] = []
on_latest id f (b ∷ bs) = if b.id == id then f b ∷ bs else b ∷ on_latest id f bs

-- the establishment that was found, changed
abbrev pub changed : (Bearer → Bearer) → List Bearer → Option Bearer → List Bearer
changed f bs None = bs
changed f bs (Some b) = on_bearer b.g f bs

-- the establishment of an identity and generation, changed
abbrev pub change_bearer : Past → ℕ → ℕ → (Bearer → Bearer) → List Bearer
change_bearer p id g f = changed f p.bearers (bearer_of p id g)
