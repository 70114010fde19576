-- Who has a bearer's active anchor, and what it alone may do.
use Rattle.std.specs.Prelude.{Bool, Option, Some, false, true, ℕ, ◌&&◌, ◌||◌}
use Rattle.dc_base.specs.Nodes.{is_same_node}
use Rattle.dc_base.specs.declared.events.Line.{Line}
use Rattle.dc_base.specs.declared.events.Line.TheVariants as line
use Rattle.dc_base.specs.declared.events.Note.TheVariants as note
use Rattle.dc_base.specs.declared.flights.Flight.{Flight}
use Rattle.dc_base.specs.declared.nodes.Dir.{Dir}
use Rattle.dc_base.specs.declared.nodes.Dir.TheVariants.{Dl, Ul}
use Rattle.dc_base.specs.declared.nodes.LinkId.{LinkId}
use Rattle.dc_base.specs.declared.nodes.Node.{Node}
use Rattle.dc_base.specs.declared.nodes.Node.TheVariants.{T}
use Rattle.claims.specs.Sameness.{is_none_or, is_some_and}
use Rattle.claims.specs.Views.{Pdu, data_of}
use Rattle.claims.specs.Past.{Bearer, Past}
use Rattle.claims.specs.Reading.{Setting, anchor_in, bearer_of, holds, holds_any, is_open_at, latest, setting}
use Rattle.claims.specs.Taking.{direction_of}
use Rattle.claims.specs.Protected.{is_copy, is_passed_on}

-- no other node holds
abbrev pub is_free_for : Node → Option (Node × ℕ) → Bool
is_free_for x h = is_none_or (λ o. is_same_node x o.0) h

-- the node may become the holder: it is the anchor of the plan, and no other node holds
abbrev pub may_own : Node → Option Setting → Option Bearer → Bool
may_own x (Some s) (Some b) = is_same_node x (anchor_in s) && is_free_for x b.holder
may_own x _ _ = false

-- the node holds the bearer
abbrev pub is_holder : Node → Option Bearer → Bool
is_holder x b = is_some_and (λ y. holds_any x y.holder) b

-- the node sends in downlink: it holds the bearer in this generation, and its anchor is open
abbrev pub may_send : Past → Node → ℕ → Option Bearer → Bool
may_send p x g b = is_some_and (λ y. holds x g y.holder && is_open_at p x g) b

-- a downlink data PDU comes from the holder, or is passed on or copied
abbrev pub may_send_pdu : Past → LinkId → Flight → Pdu → Dir → Bool
may_send_pdu p l f u Ul = true
may_send_pdu p l f u Dl = is_passed_on p l u || is_copy p l f || may_send p l.from u.g (bearer_of p u.id u.g)

-- an `up` stands at the holder in uplink, at the terminal in downlink
abbrev pub is_up_by : Node → Dir → Option Bearer → Bool
is_up_by x Ul b = is_holder x b
is_up_by x Dl b = is_same_node x T

-- there is one holder; it gives, hands up in uplink, and sends in downlink, in its generation, once that is complete
abbrev pub is_by_holder : Past → Line → Bool
is_by_holder p (line.Note (note.Own x id g)) = may_own x (setting p id g) (bearer_of p id g)
is_by_holder p (line.Note (note.Give x id g)) = is_holder x (latest p id)
is_by_holder p (line.Note (note.Up x id d c sdu)) = is_up_by x d (latest p id)
is_by_holder p (line.Send l f) = is_none_or (λ u. may_send_pdu p l f u (direction_of p l u)) (data_of f)
is_by_holder p _ = true
