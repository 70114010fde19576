-- The lines of each event: what is sent on the air to another node than the terminal, and what is relayed in a tunnel, is the PDU of
-- its submission.
use Rattle.std.proofs.Common.{ℕ, ◌≡◌, true, false, List, [], ◌∷◌, Option, Some, None, length, refl, sym, ap, subst, ◌∙◌, inl, inr}
use Rattle.std.specs.List.{AllByRecursion, flat_map}
use Rattle.std.proofs.lemmas.Bool.{cases_Bool}
use Rattle.dc_base.specs.Links.{is_same_link}
use Rattle.dc_base.specs.Nodes.{is_same_node}
use Rattle.dc_base.specs.declared.events.Event.{Event}
use Rattle.dc_base.specs.declared.events.Line.{Line}
use Rattle.dc_base.specs.declared.events.Line.TheVariants as line
use Rattle.dc_base.specs.declared.flights.Flight.{Flight}
use Rattle.dc_base.specs.declared.flights.Flight.TheVariants as flight
use Rattle.dc_base.specs.declared.nodes.LinkId.{LinkId}
use Rattle.dc_base.specs.declared.nodes.Node.{Node}
use Rattle.dc_base.specs.declared.nodes.Node.TheVariants.{A, B, M, T}
use Rattle.transcript.specs.Content.{on_link, place_taken, put_on, without_taken}
use Rattle.transcript.specs.Transcript.{sends}
use Rattle.transcript.proofs.OnEach.{each_append, each_at, each_remove, each_weaker}
use Rattle.claims.specs.Judged.{judged}
use Rattle.claims.specs.Noted.{after}
use Rattle.claims.specs.Past.{Past}
use Rattle.master_runs.proofs.Contents.{flights_next}
use Rattle.master_runs.proofs.Moving.{same_link}
use Rattle.node_rules.specs.Choices.{Choices, Send}
use Rattle.node_rules.specs.Lines.{lines_of}
use Rattle.node_rules.specs.Run.{Happening, carried_on, entry_with, given_to, on_links, refused_for, world_step}
use Rattle.node_rules.specs.World.{World, flights_on}
use Rattle.node_rules.specs.declared.inputs.Input.TheVariants.{Cmd, Come}
use Rattle.node_rules.specs.declared.inputs.Outcome.{Outcome}
use Rattle.run_words.specs.Senders.{AreBy}
use Rattle.run_words.proofs.Lines.{each_line_of}
use Rattle.run_words.proofs.TerminalSends.{terminal_sends}
use Rattle.run_senders.specs.Kinds.{is_of_terminal}
use Rattle.run_senders.specs.Lines.{IsCopyBy, IsOwnLine}
use Rattle.run_senders.proofs.Lines.{any_notes, copy_is}
use Rattle.run_senders.proofs.TerminalKinds.{terminal_kinds}
use Rattle.run_uplinks.specs.Readings.{Reading, reading}
use Rattle.run_uplinks.specs.Seen.{seen}
use Rattle.run_uplinks.proofs.Protected.{ProtectsIf}
use Rattle.run_relays.specs.Pdus.{GrowsTo}
use Rattle.run_relays.specs.Relays.{AreOnLinks, ArePlain, AreSentFor, IsPlain, OnLine, OnLink, PassesOn}
use Rattle.run_relays.proofs.FromTerminal.{IsFromTerminal, line_stays, link_stays, terminal_lines}
use Rattle.run_relays.proofs.Pasts.{IsRead, becomes_then, judged_becomes, lines_become}
use Rattle.run_relays.proofs.Steps.{AnyHost, AreSentIn, GivenOn}

-- ---- sends

plain_on : (r : Reading) (l : LinkId) (f : Flight) → IsPlain (l, f) → OnLink r l f
plain_on r l (flight.Air id g num tag pdu) plain = λ away. absurd (let bad : true ≡ false = sym (ap (λ y. is_same_node y T) plain) ∙ away in cc)
plain_on r l (flight.Tun tag packet) plain = inl plain
plain_on r l (flight.Ack id g num) plain = tt
plain_on r l (flight.Sdu id g sdu) plain = tt
plain_on r l (flight.End id g) plain = tt
plain_on r l (flight.Told id g count) plain = tt
plain_on r l (flight.Ctl x) plain = tt

-- one that passes a flight on
passed_on : (r : Reading) (k : LinkId) (f : Flight) (s : Send) → OnLink r k f → is_same_node k.to T ≡ false → PassesOn AnyHost f s → OnLink r s.0 s.1
passed_on r k f s on away x =
    let here : OnLink r k (flight.Air x.id x.g x.num x.tag x.pdu) = subst (OnLink r k) x.is on in
    subst (OnLink r s.0) (sym x.relays) (inr (record { id = x.id; g = x.g; pdu = x.pdu; is = refl; promised = here away }))

all_plain : (r : Reading) (ss : List Send) → ArePlain ss → AllByRecursion (λ (s : Send). OnLink r s.0 s.1) ss
all_plain r [] plain = tt
all_plain r (s ∷ ss) plain = (plain_on r s.0 s.1 plain.0, all_plain r ss plain.1)

all_sent : (r : Reading) (k : LinkId) (f : Flight) (ss : List Send) → OnLink r k f → is_same_node k.to T ≡ false → AreSentFor AnyHost f ss → AllByRecursion (λ (s : Send). OnLink r s.0 s.1) ss
all_sent r k f [] on away sent = tt
all_sent r k f (s ∷ ss) on away sent = (elim sent.0 [ inl plain ↦ plain_on r s.0 s.1 plain | inr passes ↦ passed_on r k f s on away passes ], all_sent r k f ss on away sent.1)

lines_on : (r : Reading) (o : Outcome) → AllByRecursion (λ (s : Send). OnLink r s.0 s.1) o.sends → AllByRecursion (OnLine r) (lines_of o)
lines_on r o sent = each_line_of (OnLine r) o (any_notes o.notes) sent

-- ---- the terminal's

both_from : (ss : List Send) → AreBy T ss → AllByRecursion (λ (s : Send). is_of_terminal s.0 s.1 ≡ true) ss → AllByRecursion (λ (s : Send). IsFromTerminal (line.Send s.0 s.1)) ss
both_from [] by kinds = tt
both_from (s ∷ ss) by kinds = ((ap (λ y. is_same_node y T) by.0.0, kinds.0), both_from ss by.1 kinds.1)

-- ---- an event

-- another node than the terminal takes a flight
taken_on : (r : Reading) (x : Node) (l : LinkId) (f : Flight) (o : Outcome) → is_same_node x T ≡ false → GivenOn r (given_to x (Come l f)) → AreSentFor AnyHost f o.sends → AllByRecursion (OnLine r) (lines_of o)
taken_on r x l f o other given sent = lines_on r o (all_sent r l f o.sends given.1 (ap (λ y. is_same_node y T) given.0 ∙ other) sent)

-- a copy stands where its flight does
copy_on : (r : Reading) (w : World) (e : Event) (k : Line) → AreOnLinks r w → IsCopyBy w e k → OnLine r k
copy_on r w e k on copy =
    copy_is (OnLine r) w e k (λ l i m f same tunnel at. subst (λ y. OnLink r y f) (sym same) (each_at (OnLink r l) (flights_on l w.links) i f (on l) at)) copy

-- in what is read after the event
later_lines : (p : Past) (e : Event) (o : Outcome) → IsRead p → AllByRecursion (OnLine (reading (seen p))) (lines_of o) → AllByRecursion (OnLine (reading (seen (after p (entry_with e o))))) (lines_of o)
later_lines p e o is on =
    let q = judged e o.answer p in
    let one = judged_becomes e o.answer p is in
    let all = becomes_then p q (after p (entry_with e o)) one (lines_become (lines_of o) q one.is) in
    each_weaker (OnLine (reading (seen p))) (OnLine (reading (seen (after p (entry_with e o))))) (λ k here. line_stays (reading (seen p)) (reading (seen (after p (entry_with e o)))) k all.grows here) (lines_of o) on

-- the lines of an event, by who takes it
pub event_lines : (c : Choices) (w : World) (p : Past) (e : Event) (h : Happening) → IsRead p → AreOnLinks (reading (seen p)) w → GivenOn (reading (seen p)) h → AreSentIn AnyHost h (carried_on c w h).1.sends
    → ProtectsIf c w p e h → AllByRecursion (IsOwnLine w e h) (lines_of (carried_on c w h).1)
    → let o = (carried_on c w h).1 in AllByRecursion (OnLine (reading (seen (after p (entry_with e o))))) (lines_of o)
event_lines c w p e (given_to T i) is on given sent protects own =
    let o = (carried_on c w (given_to T i)).1 in
    terminal_lines (lines_of o) (judged e o.answer p) (judged_becomes e o.answer p is).is
    (each_line_of IsFromTerminal o (any_notes o.notes) (both_from o.sends (terminal_sends c w.terminal i) (terminal_kinds c w.terminal i))) protects
event_lines c w p e (given_to M (Come l f)) is on given sent protects own =
    let o = (carried_on c w (given_to M (Come l f))).1 in later_lines p e o is (taken_on (reading (seen p)) M l f o refl given sent)
event_lines c w p e (given_to A (Come l f)) is on given sent protects own =
    let o = (carried_on c w (given_to A (Come l f))).1 in later_lines p e o is (taken_on (reading (seen p)) A l f o refl given sent)
event_lines c w p e (given_to B (Come l f)) is on given sent protects own =
    let o = (carried_on c w (given_to B (Come l f))).1 in later_lines p e o is (taken_on (reading (seen p)) B l f o refl given sent)
event_lines c w p e (given_to M (Cmd x)) is on given sent protects own =
    let o = (carried_on c w (given_to M (Cmd x))).1 in later_lines p e o is (lines_on (reading (seen p)) o (all_plain (reading (seen p)) o.sends sent))
event_lines c w p e (given_to A (Cmd x)) is on given sent protects own =
    let o = (carried_on c w (given_to A (Cmd x))).1 in later_lines p e o is (lines_on (reading (seen p)) o (all_plain (reading (seen p)) o.sends sent))
event_lines c w p e (given_to B (Cmd x)) is on given sent protects own =
    let o = (carried_on c w (given_to B (Cmd x))).1 in later_lines p e o is (lines_on (reading (seen p)) o (all_plain (reading (seen p)) o.sends sent))
event_lines c w p e (refused_for why) is on given sent protects own = tt
event_lines c w p e (on_links effects) is on given sent protects own =
    let o = (carried_on c w (on_links effects)).1 in
    later_lines p e o is (each_weaker (IsCopyBy w e) (OnLine (reading (seen p))) (λ k copy. copy_on (reading (seen p)) w e k on copy) (lines_of o) own)

-- ---- what stands after it

sends_on : (r : Reading) (xs : List Line) → AllByRecursion (OnLine r) xs → AllByRecursion (λ (s : LinkId × Flight). OnLink r s.0 s.1) (sends xs)
sends_on r [] all = tt
sends_on r (line.Send l f ∷ xs) all = (all.0, sends_on r xs all.1)
sends_on r (line.Note n ∷ xs) all = sends_on r xs all.1
sends_on r (line.Event e ∷ xs) all = sends_on r xs all.1
sends_on r (line.Answer a ∷ xs) all = sends_on r xs all.1

puts_on : (r : Reading) (l : LinkId) (ss : List (LinkId × Flight)) → AllByRecursion (λ (s : LinkId × Flight). OnLink r s.0 s.1) ss → AllByRecursion (OnLink r l) (flat_map (on_link l) ss)
puts_on r l [] all = tt
puts_on r l (s ∷ ss) all =
    elim (cases_Bool (is_same_link l s.0)) [
      | inl here ↦ rw here (subst (λ k. OnLink r k s.1) (sym (same_link l s.0 here)) all.0, puts_on r l ss all.1)
      | inr there ↦ rw there (puts_on r l ss all.1)
    ]

left_on : (r : Reading) (l : LinkId) (place : Option (LinkId × ℕ)) (fs : List Flight) → AllByRecursion (OnLink r l) fs → AllByRecursion (OnLink r l) (without_taken l place fs)
left_on r l None fs all = all
left_on r l (Some place) fs all = elim (cases_Bool (is_same_link l place.0)) [ inl here ↦ rw here (each_remove (OnLink r l) fs place.1 all) | inr there ↦ rw there all ]

pub links_next : (c : Choices) (w : World) (e : Event) (r s : Reading) → length w.links ≡ 64 → GrowsTo r s → AreOnLinks r w → AllByRecursion (OnLine s) (world_step c w e).1.lines → AreOnLinks s (world_step c w e).0
links_next c w e r s long grows on new = λ l.
    let x = (world_step c w e).1 in
    subst (AllByRecursion (OnLink s l)) (sym (flights_next c w e l long))
    (each_append (OnLink s l) (without_taken l (place_taken e x.answer) (flights_on l w.links)) (put_on l x.lines)
    (left_on s l (place_taken e x.answer) (flights_on l w.links) (each_weaker (OnLink r l) (OnLink s l) (λ f here. link_stays r s l f grows here) (flights_on l w.links) (on l)))
    (puts_on s l (sends x.lines) (sends_on s x.lines new)))
