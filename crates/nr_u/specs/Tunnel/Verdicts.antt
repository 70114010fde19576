-- What a frame gives at the sender: the COUNTs that it confirms, and those to send again.
use Rattle.std.specs.Prelude.{◌≡◌, ℕ, true, List, [], map}
use Rattle.nr_u.specs.declared.frame.Frame.{Frame}
use Rattle.nr_u.specs.declared.frame.Frame.TheVariants.{User, Status}
use Rattle.nr_u.specs.Tunnel.Outgoing.{Outgoing, Counted, highest_of, confirms, confirmed_by, asked_by, with_status}

-- what the frame leaves
abbrev pub after_frame : Outgoing → ℕ → Frame → Outgoing
after_frame o low (User n user repeat) = o
after_frame o low (Status highest lost) = with_status o low highest lost

-- the COUNTs that the frame confirms and no frame before it did
abbrev pub confirmed_of : Outgoing → ℕ → Frame → List ℕ
confirmed_of o low (User n user repeat) = []
confirmed_of o low (Status highest lost) = map (λ e. e.1) (confirmed_by o low highest lost)

-- the COUNTs that the frame asks for again, once for each number, in the order of the numbers
abbrev pub again_of : Outgoing → ℕ → Frame → List ℕ
again_of o low (User n user repeat) = []
again_of o low (Status highest lost) = map (λ e. e.1) (asked_by o low highest lost)

-- the frame says of this number and COUNT that they were delivered: at most the highest, and in no listed range
abbrev pub SaysDelivered : Outgoing → ℕ → Frame → Counted → Type 0
SaysDelivered o low (User n user repeat) e = ⊥
SaysDelivered o low (Status highest lost) e = confirms (highest_of o.n low highest) lost e ≡ true
