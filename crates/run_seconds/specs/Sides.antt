-- What the past says of the procedures of the secondary nodes.
use Rattle.std.specs.Prelude.{Bool, None, Option, Some, false, if◌then◌else◌, true, ◌≡◌}
use Rattle.dc_base.specs.Nodes.{is_same_node}
use Rattle.dc_base.specs.declared.answers.Answer.{Answer}
use Rattle.dc_base.specs.declared.answers.Answer.TheVariants as answer
use Rattle.dc_base.specs.declared.events.Event.{Event}
use Rattle.dc_base.specs.declared.events.Event.TheVariants as event
use Rattle.dc_base.specs.declared.events.Line.{Line}
use Rattle.dc_base.specs.declared.events.Line.TheVariants as line
use Rattle.dc_base.specs.declared.events.Note.{Note}
use Rattle.dc_base.specs.declared.events.Note.TheVariants as note
use Rattle.dc_base.specs.declared.nodes.Node.{Node}
use Rattle.dc_base.specs.declared.nodes.Node.TheVariants.{A, B, M, T}
use Rattle.dc_base.specs.declared.nodes.Want.{Want}
use Rattle.claims.specs.Past.{Past, Second}
use Rattle.node_rules.specs.SecondState.{SecondProc, is_joined}

-- a secondary node: it joined and did not leave; it is set to deny; and its request without an answer
pub record Side : Type 0 where
  pub joined : Bool
  pub denies : Bool
  pub wants : Option Want

-- both of them
pub record Sides : Type 0 where
  pub a : Side
  pub b : Side

-- what the past has of one
abbrev pub side_of : Second → Side
side_of s = record { joined = s.joined; denies = s.denies; wants = s.wants }

-- of a past
abbrev pub sides : Past → Sides
sides p = record { a = side_of p.a; b = side_of p.b }

-- ---- steps

-- one of them is changed; terminal and master have no such part
abbrev pub on_side : Node → (Side → Side) → Sides → Sides
on_side A f s = record s { a = f s.a }
on_side B f s = record s { b = f s.b }
on_side T f s = s
on_side M f s = s

-- it joined, or left
abbrev pub joining : Bool → Side → Side
joining is s = record s { joined = is }

-- its request has no answer yet, or none is open
abbrev pub wanting : Option Want → Side → Side
wanting w s = record s { wants = w }

-- it is set to deny, or not to
abbrev pub denying : Bool → Side → Side
denying on s = record s { denies = on }

-- a note
abbrev pub with_note : Sides → Note → Sides
with_note s (note.Join x g) = on_side x (joining true) s
with_note s (note.Leave x g) = on_side x (joining false) s
with_note s (note.Confirmed x) = on_side x (wanting None) s
with_note s (note.Refused x w) = on_side x (wanting None) s
with_note s _ = s

-- a line
abbrev pub with_line : Sides → Line → Sides
with_line s (line.Note n) = with_note s n
with_line s _ = s

-- an event that was answered ok
abbrev pub with_event : Event → Sides → Sides
with_event (event.Deny x on) s = on_side x (denying on) s
with_event (event.Ask x w) s = on_side x (wanting (Some w)) s
with_event _ s = s

-- an event with its answer
abbrev pub answered : Event → Answer → Sides → Sides
answered e answer.Ok s = with_event e s
answered e (answer.No why) s = s

-- ---- what the nodes hold

-- as the procedures of a node hold it
abbrev pub held_by : SecondProc → Side
held_by s = record { joined = is_joined s.membership; denies = s.denies; wants = s.want }

-- as those of both do
abbrev pub held_in : SecondProc → SecondProc → Sides
held_in a b = record { a = held_by a; b = held_by b }

-- the past says of each secondary node what its procedures hold; each goes by its own name
pub record AreTold (p : Past) (a b : SecondProc) : Type 0 where
  pub sides_are : sides p ≡ held_in a b
  pub is_a : a.me ≡ A
  pub is_b : b.me ≡ B
