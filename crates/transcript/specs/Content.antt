-- What stands on each link.
use Rattle.std.specs.Prelude.{ℕ, nat_lt, if◌then◌else◌, Bool, List, [], ◌∷◌, ◌++◌, length, fold, remove, slice_get, Option, Some, None}
use Rattle.std.specs.List.{find, flat_map}
use Rattle.std.specs.Option.{option_map}
use Rattle.dc_base.specs.declared.nodes.Node.{Node}
use Rattle.dc_base.specs.declared.nodes.Node.TheVariants.{T, M}
use Rattle.dc_base.specs.declared.nodes.Class.{Class}
use Rattle.dc_base.specs.declared.nodes.Class.TheVariants.{Ctl, Air}
use Rattle.dc_base.specs.declared.nodes.Dir.{Dir}
use Rattle.dc_base.specs.declared.nodes.Dir.TheVariants.{Ul, Dl}
use Rattle.dc_base.specs.declared.nodes.LinkId.{LinkId}
use Rattle.dc_base.specs.Links.{link, all_links, is_same_link}
use Rattle.dc_base.specs.declared.flights.Flight.{Flight}
use Rattle.dc_base.specs.declared.answers.Answer.{Answer}
use Rattle.dc_base.specs.declared.answers.Answer.TheVariants.{Ok, No}
use Rattle.dc_base.specs.declared.answers.Refusal.TheVariants.{Aged}
use Rattle.dc_base.specs.declared.events.Event.{Event}
use Rattle.dc_base.specs.declared.events.Event.TheVariants.{Step, Lose}
use Rattle.dc_base.specs.declared.events.Line.{Line}
use Rattle.transcript.specs.Transcript.{Entry, sends}

-- control from the master to the terminal
abbrev pub mt_ctl : LinkId
mt_ctl = link M T Ctl

-- control from the terminal to the master
abbrev pub tm_ctl : LinkId
tm_ctl = link T M Ctl

-- the air link from the master to the terminal
abbrev pub mt_air : LinkId
mt_air = link M T Air

-- the air link from the terminal to the master
abbrev pub tm_air : LinkId
tm_air = link T M Air

-- the air link on which PDUs of a direction travel
abbrev pub air_link : Dir → LinkId
air_link Dl = mt_air
air_link Ul = tm_air

-- what the terminal sends is uplink, all else is downlink
abbrev pub direction_from : Node → Dir
direction_from T = Ul
direction_from _ = Dl

-- the direction of what a link carries, which its sender decides
abbrev pub direction : LinkId → Dir
direction l = direction_from l.from

-- the flights of the sends on a link, in order
abbrev pub on_link : LinkId → LinkId × Flight → List Flight
on_link l s = if is_same_link l s.0 then s.1 ∷ [] else []

-- the flights that lines put on this link, in order
abbrev pub put_on : LinkId → List Line → List Flight
put_on l lines = flat_map (on_link l) (sends lines)

-- the place from which an event takes a flight: a step gives it or finds it aged, a loss loses it
abbrev pub place_taken : Event → Answer → Option (LinkId × ℕ)
place_taken (Step l i) Ok = Some (l, i)
place_taken (Step l i) (No Aged) = Some (l, i)
place_taken (Lose l i) Ok = Some (l, i)
place_taken _ _ = None

-- the flights left on a link after one was taken from this place; all of them if none was (None), or on another link
abbrev pub without_taken : LinkId → Option (LinkId × ℕ) → List Flight → List Flight
without_taken l None flights = flights
without_taken l (Some place) flights = if is_same_link l place.0 then remove flights place.1 else flights

-- what an entry makes of the flights on a link
abbrev pub content_after : LinkId → List Flight → Entry → List Flight
content_after l flights e = without_taken l (place_taken e.event e.answer) flights ++ put_on l e.lines

-- the flights that stand on a link, in order: those put on it, less those taken
abbrev pub content : LinkId → List Entry → List Flight
content l t = fold (content_after l) [] t

-- the flight that a step answered ok gives to the receiver of its link
abbrev pub given_at : List Entry → Event → Answer → Option (LinkId × Flight)
given_at before (Step l i) Ok = option_map (λ f. (l, f)) (slice_get (content l before) i)
given_at before _ _ = None

-- the flight that an entry gives to a receiver, with its link; None unless it is a step that is answered ok
abbrev pub given : List Entry → Entry → Option (LinkId × Flight)
given before e = given_at before e.event e.answer

-- the first link on which a flight stands
abbrev pub first_loaded : List Entry → Option LinkId
first_loaded t = find (λ l. nat_lt 0 (length (content l t))) all_links
