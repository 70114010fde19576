-- Which node sends a line of a run.
use Rattle.std.specs.Prelude.{Bool, Some, false, slice_get, true, ◌&&◌, ◌≡◌, ⊤}
use Rattle.dc_base.specs.Links.{is_link, is_tunnel}
use Rattle.dc_base.specs.Nodes.{is_same_node}
use Rattle.dc_base.specs.declared.events.Event.{Event}
use Rattle.dc_base.specs.declared.events.Event.TheVariants as event
use Rattle.dc_base.specs.declared.events.Line.{Line}
use Rattle.dc_base.specs.declared.events.Line.TheVariants as line
use Rattle.dc_base.specs.declared.nodes.Node.{Node}
use Rattle.dc_base.specs.declared.nodes.Node.TheVariants.{T}
use Rattle.node_rules.specs.Run.{Happening, given_to, on_links, refused_for}
use Rattle.node_rules.specs.World.{World, flights_on}
use Rattle.claims.specs.Links.{is_class}
use Rattle.run_words.specs.Senders.{IsBy, class_of}

-- a line is no send, or one by this node on a link of the class of its flight
abbrev pub IsLineBy : Node → Line → Type 0
IsLineBy x (line.Send l f) = IsBy x (l, f)
IsLineBy x (line.Note n) = ⊤
IsLineBy x (line.Event e) = ⊤
IsLineBy x (line.Answer a) = ⊤

-- a line is the copy that an event asks for: of the flight that stands at that place of a tunnel
abbrev pub IsCopyBy : World → Event → Line → Type 0
IsCopyBy w (event.Again l i) (line.Send k f) = (k ≡ l) × (is_tunnel l.class ≡ true) × (slice_get (flights_on l w.links) i ≡ Some f)
IsCopyBy w _ _ = ⊥

-- a line of an event is by the node that took its input, or is such a copy; one that is refused has none
abbrev pub IsOwnLine : World → Event → Happening → Line → Type 0
IsOwnLine w e (given_to x i) k = IsLineBy x k
IsOwnLine w e (refused_for why) k = ⊥
IsOwnLine w e (on_links effects) k = IsCopyBy w e k

-- a line is a send from the terminal
abbrev pub is_from_terminal : Line → Bool
is_from_terminal (line.Send l f) = is_same_node l.from T
is_from_terminal (line.Note n) = false
is_from_terminal (line.Event e) = false
is_from_terminal (line.Answer a) = false

-- a send is on one of the 22 links, and the link is of the class of its flight
abbrev pub is_on_its_link : Line → Bool
is_on_its_link (line.Send l f) = is_link l && is_class (class_of f) l
is_on_its_link (line.Note n) = true
is_on_its_link (line.Event e) = true
is_on_its_link (line.Answer a) = true
