-- What stands on a link is of its class, and from the terminal only what may come from there.
use Rattle.std.proofs.Common.{ℕ, ◌≡◌, true, false, List, [], ◌∷◌, Option, Some, None, length, refl, sym, ap, subst, ◌∙◌, inl, inr}
use Rattle.std.specs.List.{AllByRecursion, flat_map}
use Rattle.std.proofs.lemmas.Bool.{cases_Bool}
use Rattle.dc_base.specs.Links.{is_same_link, link_number}
use Rattle.dc_base.specs.Nodes.{is_same_node}
use Rattle.dc_base.specs.declared.events.Event.{Event}
use Rattle.dc_base.specs.declared.events.Header.{Header}
use Rattle.dc_base.specs.declared.events.Line.{Line}
use Rattle.dc_base.specs.declared.events.Line.TheVariants as line
use Rattle.dc_base.specs.declared.flights.Flight.{Flight}
use Rattle.dc_base.specs.declared.nodes.LinkId.{LinkId}
use Rattle.dc_base.specs.declared.nodes.Node.{Node}
use Rattle.dc_base.specs.declared.nodes.Node.TheVariants.{A, B, M, T}
use Rattle.transcript.specs.Content.{on_link, place_taken, put_on, without_taken}
use Rattle.transcript.specs.Transcript.{sends}
use Rattle.transcript.proofs.OnEach.{each_append, each_at, each_remove, each_weaker}
use Rattle.master_runs.proofs.Contents.{flights_next, long_next}
use Rattle.master_runs.proofs.Moving.{none_there, same_link}
use Rattle.node_rules.specs.Choices.{Choices, Send}
use Rattle.node_rules.specs.Lines.{lines_of}
use Rattle.node_rules.specs.Run.{Happening, carried_on, given_to, happening, on_links, refused_for, world_step}
use Rattle.node_rules.specs.World.{World, flights_on, new_world}
use Rattle.run_words.specs.Senders.{AreBy, IsBy}
use Rattle.run_words.proofs.Lines.{each_line_of}
use Rattle.run_words.proofs.TerminalSends.{terminal_sends}
use Rattle.run_senders.specs.Kinds.{MayBeOn, MayStand, is_of_terminal}
use Rattle.run_senders.specs.Holders.{AreThere}
use Rattle.run_senders.specs.Lines.{IsCopyBy, IsLineBy, IsOwnLine}
use Rattle.run_senders.proofs.Lines.{any_notes, copy_is, event_copies, own_lines, there_new, there_next}
use Rattle.run_senders.proofs.TerminalKinds.{terminal_kinds}

-- each flight that stands on a link may be there
abbrev pub StandRight : World → Type 0
StandRight w = (l : LinkId) → AllByRecursion (MayBeOn l) (flights_on l w.links)

-- of the links at any moment of a run
pub record AreRight (w : World) : Type 0 where
  pub long : length w.links ≡ 64
  pub right : StandRight w
  pub there : AreThere w

-- ---- what an event sends

-- from another node than the terminal
send_may : (x : Node) (l : LinkId) (f : Flight) → is_same_node x T ≡ false → IsBy x (l, f) → MayBeOn l f
send_may x l f other by = record {
  class = by.1;
  terminal = λ from. let bad : false ≡ true = sym other ∙ ap (λ y. is_same_node y T) (sym by.0) ∙ from in absurd cc;
}

line_may : (x : Node) → is_same_node x T ≡ false → (k : Line) → IsLineBy x k → MayStand k
line_may x other (line.Send l f) by = send_may x l f other by
line_may x other (line.Note n) by = tt
line_may x other (line.Event e) by = tt
line_may x other (line.Answer a) by = tt

-- from the terminal
both_may : (ss : List Send) → AreBy T ss → AllByRecursion (λ s. is_of_terminal s.0 s.1 ≡ true) ss → AllByRecursion (λ s. MayBeOn s.0 s.1) ss
both_may [] by kinds = tt
both_may (s ∷ ss) by kinds = (record { class = by.0.1; terminal = λ from. kinds.0 }, both_may ss by.1 kinds.1)

-- a copy stands where its flight does
copy_may : (w : World) → StandRight w → (e : Event) (k : Line) → IsCopyBy w e k → MayStand k
copy_may w right e k copy =
    copy_is MayStand w e k (λ l i m f same tunnel at. subst (λ y. MayBeOn y f) (sym same) (each_at (MayBeOn l) (flights_on l w.links) i f (right l) at)) copy

lines_may : (c : Choices) (w : World) (e : Event) (h : Happening) → StandRight w → AllByRecursion (IsOwnLine w e h) (lines_of (carried_on c w h).1) → AllByRecursion MayStand (lines_of (carried_on c w h).1)
lines_may c w e (given_to T i) right own =
    let o = (carried_on c w (given_to T i)).1 in each_line_of MayStand o (any_notes o.notes) (both_may o.sends (terminal_sends c w.terminal i) (terminal_kinds c w.terminal i))
lines_may c w e (given_to M i) right own = each_weaker (IsLineBy M) MayStand (line_may M refl) (lines_of (carried_on c w (given_to M i)).1) own
lines_may c w e (given_to A i) right own = each_weaker (IsLineBy A) MayStand (line_may A refl) (lines_of (carried_on c w (given_to A i)).1) own
lines_may c w e (given_to B i) right own = each_weaker (IsLineBy B) MayStand (line_may B refl) (lines_of (carried_on c w (given_to B i)).1) own
lines_may c w e (refused_for why) right own = tt
lines_may c w e (on_links effects) right own = each_weaker (IsCopyBy w e) MayStand (copy_may w right e) (lines_of (carried_on c w (on_links effects)).1) own

-- each line of an event may stand
pub event_may : (c : Choices) (w : World) (e : Event) → AreRight w → AllByRecursion MayStand (world_step c w e).1.lines
event_may c w e is = lines_may c w e (happening w e) is.right (own_lines c w e (happening w e) is.there (event_copies w e))

-- ---- what stands after it

sends_may : (xs : List Line) → AllByRecursion MayStand xs → AllByRecursion (λ (s : LinkId × Flight). MayBeOn s.0 s.1) (sends xs)
sends_may [] all = tt
sends_may (line.Send l f ∷ xs) all = (all.0, sends_may xs all.1)
sends_may (line.Note n ∷ xs) all = sends_may xs all.1
sends_may (line.Event e ∷ xs) all = sends_may xs all.1
sends_may (line.Answer a ∷ xs) all = sends_may xs all.1

put_may : (l : LinkId) (ss : List (LinkId × Flight)) → AllByRecursion (λ (s : LinkId × Flight). MayBeOn s.0 s.1) ss → AllByRecursion (MayBeOn l) (flat_map (on_link l) ss)
put_may l [] all = tt
put_may l (s ∷ ss) all =
    elim (cases_Bool (is_same_link l s.0)) [
      | inl here ↦ rw here (subst (λ k. MayBeOn k s.1) (sym (same_link l s.0 here)) all.0, put_may l ss all.1)
      | inr there ↦ rw there (put_may l ss all.1)
    ]

left_may : (l : LinkId) (place : Option (LinkId × ℕ)) (fs : List Flight) → AllByRecursion (MayBeOn l) fs → AllByRecursion (MayBeOn l) (without_taken l place fs)
left_may l None fs all = all
left_may l (Some place) fs all =
    elim (cases_Bool (is_same_link l place.0)) [ inl here ↦ rw here (each_remove (MayBeOn l) fs place.1 all) | inr there ↦ rw there all ]

pub right_next : (c : Choices) (w : World) (e : Event) → AreRight w → AreRight (world_step c w e).0
right_next c w e is = record {
  long = long_next c w e is.long;
  right = λ l.
      let x = (world_step c w e).1 in
      subst (AllByRecursion (MayBeOn l)) (sym (flights_next c w e l is.long))
      (each_append (MayBeOn l) (without_taken l (place_taken e x.answer) (flights_on l w.links)) (put_on l x.lines)
      (left_may l (place_taken e x.answer) (flights_on l w.links) (is.right l)) (put_may l (sends x.lines) (sends_may x.lines (event_may c w e is))));
  there = there_next c w e is.there;
}

pub right_new : (h : Header) → AreRight (new_world h)
right_new h = record {
  long = refl;
  right = λ l. subst (AllByRecursion (MayBeOn l)) (sym (none_there 64 (link_number l) [])) tt;
  there = there_new h;
}
