-- The delivery status of what came in a tunnel.
use Rattle.std.specs.Prelude.{ℕ, Option, option_and_then}
use Rattle.nr_u.specs.declared.frame.Frame.{Frame}
use Rattle.nr_u.specs.declared.frame.Frame.TheVariants.{Status}
use Rattle.nr_u.specs.Tunnel.Incoming.{Incoming, listed, named}

-- the frame: the gaps, and the sequence number of the named PDU
abbrev pub status_of : Incoming → Frame
status_of i = Status (option_and_then (λ a. a.1.sn) (named i)) (listed i.came)

-- the named PDU's tag
abbrev pub tag_of : Incoming → Option ℕ
tag_of i = option_and_then (λ a. a.1.tag) (named i)
