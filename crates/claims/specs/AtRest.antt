-- What holds where nothing is under way: no command waits for ever, and all of it was handed up.
use Rattle.std.specs.List.{list_all, list_any}
use Rattle.std.specs.Prelude.{Bool, None, Option, Some, false, length, map, nat_le, not, true, ◌&&◌, ◌==◌, ◌||◌}
use Rattle.dc_base.specs.declared.events.Event.TheVariants as event
use Rattle.dc_base.specs.declared.flights.Flight.{Flight}
use Rattle.dc_base.specs.declared.nodes.Class.TheVariants.{Ctl}
use Rattle.dc_base.specs.declared.nodes.LinkId.{LinkId}
use Rattle.dc_base.specs.declared.nodes.Node.{Node}
use Rattle.dc_base.specs.declared.nodes.Node.TheVariants.{A, B}
use Rattle.dc_base.specs.declared.nodes.Want.{Want}
use Rattle.dc_base.specs.declared.nodes.Want.TheVariants as want
use Rattle.claims.specs.Links.{is_class}
use Rattle.claims.specs.Sameness.{are_same_payloads, implies, is_at, is_none_or, is_same_want, is_some_and}
use Rattle.claims.specs.Shapes.{has_leg_left}
use Rattle.claims.specs.Views.{owner_of}
use Rattle.claims.specs.Table.{Command}
use Rattle.claims.specs.Past.{Bearer, Calm, Lane, Past, lossless, lossy, recovered, untouched}
use Rattle.claims.specs.Reading.{Setting, bearer_of, second, setting}
use Rattle.claims.specs.Drafts.{spends}

-- ---- no stall

-- nothing stands on any link
abbrev pub is_quiet : Past → Bool
is_quiet p = nat_le (length p.standing) 0

-- a request may wait: a release, while it would spend an identity
abbrev pub may_wait : Past → Node → Want → Bool
may_wait p x w = is_same_want w want.Release && is_at x p.table.sec && spends p.table event.Release

-- each `want` of a secondary was answered, or may wait
abbrev pub has_answer : Past → Node → Bool
has_answer p x = is_none_or (may_wait p x) (second x p).wants

-- no command is open, and each `want` was answered; unless a forwarded packet of the command was lost
abbrev pub has_ended : Past → Option Command → Bool
has_ended p None = has_answer p A && has_answer p B
has_ended p (Some c) = c.is_lost

-- with nothing on the links nothing waits
abbrev pub is_unstalled : Past → Bool
is_unstalled p = not (is_quiet p) || has_ended p p.table.command

-- ---- all of it

-- a flight is of this establishment
abbrev pub is_flight_of : Past → Bearer → Flight → Bool
is_flight_of p b f = is_some_and (λ o. is_some_and (λ c. c.g == b.g) (bearer_of p o.0 o.1)) (owner_of f)

-- a flight is under way for a bearer: any record, and any other flight of its own
abbrev pub is_under_way : Past → Bearer → LinkId × Flight → Bool
is_under_way p b (l, f) = is_class Ctl l || is_flight_of p b f

-- no flight is
abbrev pub is_at_rest : Past → Bearer → Bool
is_at_rest p b = not (list_any (is_under_way p b) p.standing)

-- no flight of its own was lost since its beginning, its last recovery, or the last plan that set it was carried out
abbrev pub is_lossless : Calm → Bool
is_lossless untouched = true
is_lossless recovered = true
is_lossless lossless = true
is_lossless lossy = false

-- nothing was lost or failed, and no plan set it, since its beginning; or nothing was lost or failed, and no command
-- came, since its last recovery
abbrev pub is_undisturbed : Calm → Bool
is_undisturbed untouched = true
is_undisturbed recovered = true
is_undisturbed lossless = false
is_undisturbed lossy = false

-- a leg of the bearer's last carried-out generation has not failed
abbrev pub has_live_leg : Option Setting → Bearer → Bool
has_live_leg s b = is_some_and (λ t. has_leg_left b.is_failed t.shape.legs) s

-- the bearer is established and was not dropped, none of its forwarded packets was ever lost, and it has a leg
abbrev pub is_able : Past → Bearer → Bool
is_able p b = b.is_done && not b.is_dropped && not b.lost_forward && has_live_leg (setting p b.id b.carried) b

-- all that was submitted was handed up
abbrev pub is_whole : Lane → Bool
is_whole x = are_same_payloads (map (λ h. h.1) x.handed) x.submitted

-- all of it: of an able bearer that is at rest, and of whose flights none was lost in its last calm time, all is handed up
abbrev pub has_all_of_it : Past → Bearer → Bool
has_all_of_it p b = implies (is_able p b && is_at_rest p b && is_lossless b.calm) (is_whole b.up && is_whole b.down)

-- so of every bearer, after an event
abbrev pub is_all_of_it : Past → Bool
is_all_of_it p = list_all (has_all_of_it p) p.bearers
