-- Each data PDU on a link from the terminal protects the submission of its tag.
use Rattle.std.proofs.Common.{ℕ, ◌≡◌, Bool, true, false, List, [], ◌∷◌, refl, sym, ap, ◌∙◌, inl, inr}
use Rattle.std.specs.Prelude.{if◌then◌else◌}
use Rattle.std.specs.List.{AllByRecursion}
use Rattle.std.proofs.lemmas.Bool.{cases_Bool}
use Rattle.dc_base.specs.Links.{is_tunnel}
use Rattle.dc_base.specs.Nodes.{is_same_node}
use Rattle.dc_base.specs.declared.events.Event.{Event}
use Rattle.dc_base.specs.declared.events.Header.{Header}
use Rattle.dc_base.specs.declared.events.Line.{Line}
use Rattle.dc_base.specs.declared.events.Line.TheVariants as line
use Rattle.dc_base.specs.declared.flights.Flight.{Flight}
use Rattle.dc_base.specs.declared.flights.Flight.TheVariants as flight
use Rattle.dc_base.specs.declared.nodes.Class.{Class}
use Rattle.dc_base.specs.declared.nodes.Class.TheVariants.{Air, Ctl, Feed, Tun}
use Rattle.dc_base.specs.declared.nodes.LinkId.{LinkId}
use Rattle.dc_base.specs.declared.nodes.Node.{Node}
use Rattle.dc_base.specs.declared.nodes.Node.TheVariants.{A, B, M, T}
use Rattle.transcript.proofs.OnEach.{each_at, each_weaker}
use Rattle.claims.specs.Claim.{Each, EachLine}
use Rattle.claims.specs.Judged.{judged}
use Rattle.claims.specs.Names.{claim, protected}
use Rattle.claims.specs.Noted.{noted}
use Rattle.claims.specs.Past.{Past, new_past}
use Rattle.claims.specs.Protected.{is_protected}
use Rattle.node_rules.specs.Choices.{Choices}
use Rattle.node_rules.specs.Lines.{lines_of}
use Rattle.node_rules.specs.Run.{Happening, carried_on, entries_from, given_to, happening, on_links, refused_for}
use Rattle.node_rules.specs.World.{World, flights_on, new_world}
use Rattle.run_control.specs.Sound.{AddsSecond}
use Rattle.run_words.specs.Parts.{at_lines}
use Rattle.run_words.specs.Senders.{class_of}
use Rattle.run_words.proofs.Runs.{each_if}
use Rattle.run_uplinks.proofs.Held.{Holds}
use Rattle.run_uplinks.proofs.Protected.{ProtectsIf, event_protects}
use Rattle.run_uplinks.proofs.Runs.{holds_new, holds_next}
use Rattle.run_senders.specs.Kinds.{MayBeOn, is_of_terminal}
use Rattle.run_senders.specs.Lines.{IsCopyBy, IsLineBy, IsOwnLine, is_from_terminal}
use Rattle.run_senders.proofs.Lines.{copy_is, event_copies, own_lines}
use Rattle.run_senders.proofs.Standing.{AreRight, StandRight, right_new, right_next}

-- a line protects, if it is a send from the terminal
abbrev protects_there : Past → Line → Bool
protects_there p x = if is_from_terminal x then is_protected p x else true

-- where each line protects
from_all : (p : Past) (xs : List Line) → EachLine is_protected p xs → EachLine protects_there p xs
from_all p [] all = tt
from_all p (x ∷ xs) all = (by (is_from_terminal x), from_all (noted p x) xs all.1)
  where
    by : (b : Bool) → (if b then is_protected p x else true) ≡ true
    by true = all.0
    by false = refl

-- where none is from the terminal
from_none : (p : Past) (xs : List Line) → AllByRecursion (λ x. is_from_terminal x ≡ false) xs → EachLine protects_there p xs
from_none p [] none = tt
from_none p (x ∷ xs) none = (rw none.0 refl, from_none (noted p x) xs none.1)

-- a line of another node
from_other : (x : Node) → is_same_node x T ≡ false → (k : Line) → IsLineBy x k → is_from_terminal k ≡ false
from_other x other (line.Send l f) by = ap (λ y. is_same_node y T) by.0 ∙ other
from_other x other (line.Note n) by = refl
from_other x other (line.Event e) by = refl
from_other x other (line.Answer a) by = refl

-- what may come from the terminal stands in no tunnel
no_tunnel : (k : Class) (f : Flight) → k ≡ class_of f → is_tunnel k ≡ true → (l : LinkId) → is_of_terminal l f ≡ false
no_tunnel Tun (flight.Tun tag packet) same tunnel l = refl
no_tunnel Tun (flight.Air id g num tag pdu) same tunnel l = absurd cc
no_tunnel Tun (flight.Ack id g num) same tunnel l = absurd cc
no_tunnel Tun (flight.Sdu id g sdu) same tunnel l = refl
no_tunnel Tun (flight.End id g) same tunnel l = refl
no_tunnel Tun (flight.Told id g count) same tunnel l = refl
no_tunnel Tun (flight.Ctl r) same tunnel l = absurd cc
no_tunnel Ctl f same tunnel l = absurd cc
no_tunnel Feed f same tunnel l = absurd cc
no_tunnel Air f same tunnel l = absurd cc

not_there : (l : LinkId) (f : Flight) → MayBeOn l f → is_tunnel l.class ≡ true → is_same_node l.from T ≡ false
not_there l f may tunnel =
    elim (cases_Bool (is_same_node l.from T)) [
      | inl from ↦ let bad : false ≡ true = sym (no_tunnel l.class f may.class tunnel l) ∙ may.terminal from in absurd cc
      | inr other ↦ other
    ]

-- a copy
from_copy : (w : World) → StandRight w → (e : Event) (k : Line) → IsCopyBy w e k → is_from_terminal k ≡ false
from_copy w right e k copy =
    copy_is (λ x. is_from_terminal x ≡ false) w e k
    (λ l i m f same tunnel at. ap (λ (y : LinkId). is_same_node y.from T) same ∙ not_there l f (each_at (MayBeOn l) (flights_on l w.links) i f (right l) at) tunnel) copy

-- the lines of an event, by who takes it
lines_protect : (c : Choices) (w : World) (p : Past) (e : Event) (h : Happening) → StandRight w → ProtectsIf c w p e h → AllByRecursion (IsOwnLine w e h) (lines_of (carried_on c w h).1)
    → EachLine protects_there (judged e (carried_on c w h).1.answer p) (lines_of (carried_on c w h).1)
lines_protect c w p e (given_to T i) right all own = from_all (judged e (carried_on c w (given_to T i)).1.answer p) (lines_of (carried_on c w (given_to T i)).1) all
lines_protect c w p e (given_to M i) right all own =
    let o = (carried_on c w (given_to M i)).1 in from_none (judged e o.answer p) (lines_of o) (each_weaker (IsLineBy M) (λ x. is_from_terminal x ≡ false) (from_other M refl) (lines_of o) own)
lines_protect c w p e (given_to A i) right all own =
    let o = (carried_on c w (given_to A i)).1 in from_none (judged e o.answer p) (lines_of o) (each_weaker (IsLineBy A) (λ x. is_from_terminal x ≡ false) (from_other A refl) (lines_of o) own)
lines_protect c w p e (given_to B i) right all own =
    let o = (carried_on c w (given_to B i)).1 in from_none (judged e o.answer p) (lines_of o) (each_weaker (IsLineBy B) (λ x. is_from_terminal x ≡ false) (from_other B refl) (lines_of o) own)
lines_protect c w p e (refused_for why) right all own = tt
lines_protect c w p e (on_links effects) right all own =
    let o = (carried_on c w (on_links effects)).1 in from_none (judged e o.answer p) (lines_of o) (each_weaker (IsCopyBy w e) (λ x. is_from_terminal x ≡ false) (from_copy w right e) (lines_of o) own)

-- ---- a run

-- what is so at any moment of a run
record Stands (p : Past) (w : World) : Type 0 where
  holds : Holds p w
  right : AreRight w

-- each data PDU that is sent on a link from the terminal protects the submission of its tag, under the key of the plan of its
-- generation
pub uplink_pdus_protected : (c : Choices) (h : Header) (policies : ℕ) (es : List Event) → AllByRecursion AddsSecond es
    → Each (at_lines is_from_terminal (claim protected)) (new_past h policies) (entries_from c (new_world h) es)
uplink_pdus_protected c h policies es adds =
    each_if c (at_lines is_from_terminal (claim protected)) AddsSecond Stands
    (λ w p e names is. lines_protect c w p e (happening w e) is.right.right (event_protects c w p is.holds e) (own_lines c w e (happening w e) is.right.there (event_copies w e)))
    (λ w p e names is. refl) (λ w p e names is. record { holds = holds_next c w p e names is.holds; right = right_next c w e is.right }) es adds (new_world h) (new_past h policies)
    (record { holds = holds_new c h policies; right = right_new h })
