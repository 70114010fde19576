-- The messages of a sender, those to a receiver, and those that lines send. Nodes are told apart by their numbers.
use Rattle.std.specs.Prelude.{List, [], ℕ, ◌==◌, ◌∷◌}
use Rattle.std.specs.List.{filter, flat_map}
use Rattle.dc_base.specs.Nodes.{node_number}
use Rattle.dc_base.specs.declared.events.Line.{Line}
use Rattle.dc_base.specs.declared.events.Line.TheVariants.{Send}
use Rattle.dc_base.specs.declared.flights.Flight.{Flight}
use Rattle.dc_base.specs.declared.nodes.LinkId.{LinkId}
use Rattle.journals.specs.declared.entries.Message.{Message}

-- a flight on a link, with a stamp
abbrev pub message : ℕ → LinkId → Flight → Message
message s l f = record { link = l; stamp = s; flight = f }

-- those of sender p
abbrev pub from : ℕ → List Message → List Message
from p ms = filter (λ m. node_number m.link.from == p) ms

-- those to receiver n
abbrev pub to : ℕ → List Message → List Message
to n ms = filter (λ m. node_number m.link.to == n) ms

-- the one that a line sends, if it is a send
abbrev pub message_of : ℕ → Line → List Message
message_of s (Send l f) = message s l f ∷ []
message_of s _ = []

-- those that lines send with this stamp, in order
abbrev pub messages : ℕ → List Line → List Message
messages s lines = flat_map (message_of s) lines
