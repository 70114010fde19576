-- Each line of an event is by the node that takes its input, or is the copy that it asks for.
use Rattle.std.proofs.Common.{ℕ, ◌≡◌, Bool, true, false, List, [], ◌∷◌, Option, Some, None, slice_get, refl, inl, inr}
use Rattle.std.specs.Prelude.{if◌then◌else◌, nat_lt, ◌&&◌, ⊤}
use Rattle.std.specs.List.{AllByRecursion}
use Rattle.std.proofs.lemmas.Bool.{cases_Bool}
use Rattle.dc_base.specs.Links.{is_ordered, is_tunnel}
use Rattle.dc_base.specs.declared.answers.Refusal.TheVariants as refusal
use Rattle.dc_base.specs.declared.events.Event.{Event}
use Rattle.dc_base.specs.declared.events.Event.TheVariants as event
use Rattle.dc_base.specs.declared.events.Header.{Header}
use Rattle.dc_base.specs.declared.events.Line.{Line}
use Rattle.dc_base.specs.declared.events.Line.TheVariants as line
use Rattle.dc_base.specs.declared.events.Note.{Note}
use Rattle.dc_base.specs.declared.flights.Flight.{Flight}
use Rattle.dc_base.specs.declared.nodes.LinkId.{LinkId}
use Rattle.dc_base.specs.declared.nodes.Node.{Node}
use Rattle.dc_base.specs.declared.nodes.Node.TheVariants.{A, B, M, T}
use Rattle.node_rules.specs.Choices.{Choices}
use Rattle.node_rules.specs.Flights.{weight}
use Rattle.node_rules.specs.Lines.{lines_of}
use Rattle.node_rules.specs.Readers.{is_aged_for}
use Rattle.node_rules.specs.Run.{Happening, carried_on, copy_of, given_to, happening, loss_of, node_at, on_links, refused_for, step_of, world_after, world_step}
use Rattle.node_rules.specs.World.{World, flights_on, new_world}
use Rattle.node_rules.specs.declared.inputs.Outcome.{Outcome}
use Rattle.run_words.specs.Senders.{AreBy}
use Rattle.run_words.proofs.Lines.{each_line_of}
use Rattle.run_words.proofs.TerminalSends.{terminal_sends}
use Rattle.run_senders.specs.Holders.{AreThere}
use Rattle.run_senders.specs.Lines.{IsCopyBy, IsLineBy, IsOwnLine}
use Rattle.run_senders.proofs.MasterSends.{master_sends}
use Rattle.run_senders.proofs.SecondSends.{second_sends}

-- of notes nothing is said
pub any_notes : (ns : List Note) → AllByRecursion (λ n. ⊤) ns
any_notes [] = tt
any_notes (n ∷ ns) = (tt, any_notes ns)

-- the lines of an outcome whose sends are by a node
lines_by : (x : Node) (o : Outcome) → AreBy x o.sends → AllByRecursion (IsLineBy x) (lines_of o)
lines_by x o by = each_line_of (IsLineBy x) o (any_notes o.notes) by

-- ---- copies

-- what an event puts on a link by itself is the copy that it asks for
abbrev pub IsCopied : World → Event → Happening → Type 0
IsCopied w e (given_to x i) = ⊤
IsCopied w e (refused_for why) = ⊤
IsCopied w e (on_links x) = AllByRecursion (λ n. IsCopyBy w e (line.Note n)) x.notes × AllByRecursion (λ s. IsCopyBy w e (line.Send s.0 s.1)) x.sends

step_copies : (w : World) (e : Event) (l : LinkId) (i : ℕ) (o : Option Flight) → IsCopied w e (step_of w l i o)
step_copies w e l i None = tt
step_copies w e l i (Some f) =
    elim (cases_Bool (is_ordered l.class && nat_lt 0 i)) [
      | inl behind ↦ rw behind tt
      | inr first ↦ elim (cases_Bool (is_aged_for (node_at w l.to) (weight f))) [
        | inl aged ↦ rw (first, aged) tt
        | inr fresh ↦ rw (first, fresh) tt
      ]
    ]

loss_copies : (w : World) (e : Event) (in_it : Bool) (o : Option Flight) → IsCopied w e (if in_it then loss_of o else refused_for refusal.NotTunnel)
loss_copies w e false o = tt
loss_copies w e true None = tt
loss_copies w e true (Some f) = (tt, tt)

copy_copies : (w : World) (l : LinkId) (i : ℕ) (in_it : Bool) (o : Option Flight) → is_tunnel l.class ≡ in_it → slice_get (flights_on l w.links) i ≡ o
    → IsCopied w (event.Again l i) (if in_it then copy_of l o else refused_for refusal.NotTunnel)
copy_copies w l i false o tunnel at = tt
copy_copies w l i true None tunnel at = tt
copy_copies w l i true (Some f) tunnel at = (tt, ((refl, tunnel, at), tt))

-- what the events put on a link by themselves, apart from the flight that `again` repeats, is nothing
pub copy_is : (P : Line → Type 0) (w : World) (e : Event) (k : Line)
    → ((l : LinkId) (i : ℕ) (m : LinkId) (f : Flight) → m ≡ l → is_tunnel l.class ≡ true → slice_get (flights_on l w.links) i ≡ Some f → P (line.Send m f)) → IsCopyBy w e k → P k
copy_is P w (event.Again l i) (line.Send m f) so copy = so l i m f copy.0 copy.1 copy.2
copy_is P w (event.Again l i) (line.Note n) so copy = absurd copy
copy_is P w (event.Again l i) (line.Event e) so copy = absurd copy
copy_is P w (event.Again l i) (line.Answer a) so copy = absurd copy
copy_is P w (event.Step l i) k so copy = absurd copy
copy_is P w (event.Lose l i) k so copy = absurd copy
copy_is P w (event.Bearer id n first shape threshold policy) k so copy = absurd copy
copy_is P w (event.Reshape id shape) k so copy = absurd copy
copy_is P w (event.Remove id) k so copy = absurd copy
copy_is P w (event.Add x) k so copy = absurd copy
copy_is P w event.Change k so copy = absurd copy
copy_is P w event.Release k so copy = absurd copy
copy_is P w event.RekeySecond k so copy = absurd copy
copy_is P w (event.RekeyMaster root) k so copy = absurd copy
copy_is P w (event.Recover id) k so copy = absurd copy
copy_is P w (event.Report x id) k so copy = absurd copy
copy_is P w (event.Deny x on) k so copy = absurd copy
copy_is P w (event.Ask x what) k so copy = absurd copy
copy_is P w event.ScgFail k so copy = absurd copy
copy_is P w (event.Submit id d sdu) k so copy = absurd copy

pub event_copies : (w : World) (e : Event) → IsCopied w e (happening w e)
event_copies w (event.Step l i) = step_copies w (event.Step l i) l i (slice_get (flights_on l w.links) i)
event_copies w (event.Lose l i) = loss_copies w (event.Lose l i) (is_tunnel l.class) (slice_get (flights_on l w.links) i)
event_copies w (event.Again l i) = copy_copies w l i (is_tunnel l.class) (slice_get (flights_on l w.links) i) refl refl
event_copies w (event.Bearer id n first shape threshold policy) = tt
event_copies w (event.Reshape id shape) = tt
event_copies w (event.Remove id) = tt
event_copies w (event.Add x) = tt
event_copies w event.Change = tt
event_copies w event.Release = tt
event_copies w event.RekeySecond = tt
event_copies w (event.RekeyMaster root) = tt
event_copies w (event.Recover id) = tt
event_copies w (event.Report x id) = tt
event_copies w (event.Deny x on) = tt
event_copies w (event.Ask x what) = tt
event_copies w event.ScgFail = tt
event_copies w (event.Submit id d sdu) = tt

-- ---- an event

pub own_lines : (c : Choices) (w : World) (e : Event) (h : Happening) → AreThere w → IsCopied w e h → AllByRecursion (IsOwnLine w e h) (lines_of (carried_on c w h).1)
own_lines c w e (given_to T i) there copied = lines_by T (carried_on c w (given_to T i)).1 (terminal_sends c w.terminal i)
own_lines c w e (given_to M i) there copied = lines_by M (carried_on c w (given_to M i)).1 (master_sends c w.master i there.master).by
own_lines c w e (given_to A i) there copied = lines_by A (carried_on c w (given_to A i)).1 (second_sends A c w.a i there.a).by
own_lines c w e (given_to B i) there copied = lines_by B (carried_on c w (given_to B i)).1 (second_sends B c w.b i there.b).by
own_lines c w e (refused_for why) there copied = tt
own_lines c w e (on_links effects) there copied = each_line_of (IsCopyBy w e) (carried_on c w (on_links effects)).1 copied.0 copied.1

-- all that the nodes hold stays their own
carried_there : (c : Choices) (w : World) (h : Happening) → AreThere w → AreThere (carried_on c w h).0
carried_there c w (given_to T i) there = record { master = there.master; a = there.a; b = there.b }
carried_there c w (given_to M i) there = record { master = (master_sends c w.master i there.master).so; a = there.a; b = there.b }
carried_there c w (given_to A i) there = record { master = there.master; a = (second_sends A c w.a i there.a).so; b = there.b }
carried_there c w (given_to B i) there = record { master = there.master; a = there.a; b = (second_sends B c w.b i there.b).so }
carried_there c w (refused_for why) there = there
carried_there c w (on_links effects) there = there

pub there_next : (c : Choices) (w : World) (e : Event) → AreThere w → AreThere (world_step c w e).0
there_next c w e there = let is = carried_there c w (happening w e) there in record { master = is.master; a = is.a; b = is.b }

pub there_new : (h : Header) → AreThere (new_world h)
there_new h = record {
  master = record { anchors = tt; hosts = tt };
  a = record { name = refl; anchors = tt; frozen = tt; hosts = tt };
  b = record { name = refl; anchors = tt; frozen = tt; hosts = tt };
}

there_on : (c : Choices) (es : List Event) (w : World) → AreThere w → AreThere (world_after c w es)
there_on c [] w there = there
there_on c (e ∷ es) w there = there_on c es (world_step c w e).0 (there_next c w e there)

-- after any events each node is the one that it is called, and all that it holds begins there: its anchors, waiting or active,
-- its leg hosts, and the tunnels of its frozen anchors
pub there_always : (c : Choices) (h : Header) (es : List Event) → AreThere (world_after c (new_world h) es)
there_always c h es = there_on c es (new_world h) (there_new h)

-- whatever event happens next in a run: each of its lines is a note, or a send of the node that took its input, on a link that
-- begins there and has the class of its flight, or the copy of a flight that stands in a tunnel
pub senders_always : (c : Choices) (h : Header) (es : List Event) (e : Event)
    → (let w = world_after c (new_world h) es in AllByRecursion (IsOwnLine w e (happening w e)) (world_step c w e).1.lines)
senders_always c h es e =
    let w = world_after c (new_world h) es in own_lines c w e (happening w e) (there_always c h es) (event_copies w e)
