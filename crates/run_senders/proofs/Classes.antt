-- Each send of a run is on one of the 22 links, which is of the class of its flight; records are between their ends.
use Rattle.std.proofs.Common.{ℕ, ◌≡◌, Bool, true, false, List, [], ◌∷◌, refl, sym, ap, ◌∙◌}
use Rattle.std.specs.Prelude.{if◌then◌else◌, ⊤, ◌&&◌}
use Rattle.std.specs.List.{AllByRecursion}
use Rattle.std.proofs.lemmas.Bool.{eq-eqb}
use Rattle.dc_base.specs.Links.{class_number, is_link, is_tunnel}
use Rattle.dc_base.specs.declared.events.Event.{Event}
use Rattle.dc_base.specs.declared.events.Header.{Header}
use Rattle.dc_base.specs.declared.events.Line.{Line}
use Rattle.dc_base.specs.declared.events.Line.TheVariants as line
use Rattle.dc_base.specs.declared.flights.Flight.{Flight}
use Rattle.dc_base.specs.declared.flights.Flight.TheVariants as flight
use Rattle.dc_base.specs.declared.nodes.Class.{Class}
use Rattle.dc_base.specs.declared.nodes.Class.TheVariants.{Air, Ctl, Feed, Tun}
use Rattle.dc_base.specs.declared.nodes.LinkId.{LinkId}
use Rattle.dc_base.specs.declared.nodes.Node.TheVariants.{A, B, M, T}
use Rattle.transcript.proofs.OnEach.{each_at, each_weaker}
use Rattle.claims.specs.Claim.{Each, EachLine, of_lines}
use Rattle.claims.specs.Judged.{judged}
use Rattle.claims.specs.Links.{is_class, is_from_to}
use Rattle.claims.specs.Noted.{after, noted}
use Rattle.claims.specs.Past.{Past, new_past}
use Rattle.node_rules.specs.Choices.{Choices, Send}
use Rattle.node_rules.specs.Lines.{is_idle_release}
use Rattle.node_rules.specs.MasterStep.{master_step}
use Rattle.node_rules.specs.Run.{Happening, carried_on, entries_from, given_to, happening, on_links, refused_for, world_step}
use Rattle.node_rules.specs.SecondStep.{second_step}
use Rattle.node_rules.specs.Terminal.{terminal_step}
use Rattle.node_rules.specs.World.{World, flights_on, new_world}
use Rattle.run_control.specs.Steps.{AreOrdered}
use Rattle.run_control.specs.Traffic.{came}
use Rattle.run_control.proofs.EventTurns.{second_idle, terminal_idle}
use Rattle.run_control.proofs.Steps.{event_ordered, master_stepped, second_stepped, terminal_stepped}
use Rattle.run_words.specs.Senders.{class_of}
use Rattle.run_words.proofs.Runs.{each_if}
use Rattle.run_senders.specs.Kinds.{MayBeOn, MayStand, is_of_terminal}
use Rattle.run_senders.specs.Lines.{IsCopyBy, is_on_its_link}
use Rattle.run_senders.proofs.Records.{fits_from_records, idle_from_records, none_idle}
use Rattle.run_senders.proofs.MasterFits.{idle_by_fits, master_fits}
use Rattle.run_senders.proofs.SecondRecords.{second_fits}
use Rattle.run_senders.proofs.MasterSends.{master_sends}
use Rattle.run_senders.proofs.TerminalKinds.{terminal_kinds}
use Rattle.run_senders.specs.Fitting.{FitsOn, IsFitting, IsFittingLine, is_record_or_ack}
use Rattle.run_control.specs.Sound.{AddsSecond, IsSound}
use Rattle.run_control.proofs.Runs.{AddsBy, event_adds, event_sound}
use Rattle.claims.specs.OnLink.{is_on_link, record_fits}
use Rattle.claims.specs.Names.{claim, on_link}
use Rattle.run_words.specs.Parts.{at_lines}
use Rattle.run_words.proofs.Lines.{each_line_of}
use Rattle.run_senders.proofs.Lines.{IsCopied, any_notes, copy_is, event_copies}
use Rattle.run_senders.proofs.OnLinks.{AreLinked, IsIdleLinked, lines_linked}
use Rattle.run_senders.proofs.Standing.{AreRight, StandRight, event_may, right_new, right_next}

-- ---- no copy says that nothing has to be released

not_idle : (k : Class) (f : Flight) → k ≡ class_of f → is_tunnel k ≡ true → (l : LinkId) → is_idle_release (l, f) ≡ false
not_idle Tun (flight.Tun tag packet) same tunnel l = refl
not_idle Tun (flight.Air id g num tag pdu) same tunnel l = refl
not_idle Tun (flight.Ack id g num) same tunnel l = refl
not_idle Tun (flight.Sdu id g sdu) same tunnel l = refl
not_idle Tun (flight.End id g) same tunnel l = refl
not_idle Tun (flight.Told id g count) same tunnel l = refl
not_idle Tun (flight.Ctl r) same tunnel l = absurd cc
not_idle Ctl f same tunnel l = absurd cc
not_idle Feed f same tunnel l = absurd cc
not_idle Air f same tunnel l = absurd cc

-- a send is no such answer
abbrev IsBusy : Line → Type 0
IsBusy (line.Send l f) = is_idle_release (l, f) ≡ false
IsBusy (line.Note n) = ⊤
IsBusy (line.Event e) = ⊤
IsBusy (line.Answer a) = ⊤

copy_busy : (w : World) → StandRight w → (e : Event) (s : Send) → IsCopyBy w e (line.Send s.0 s.1) → IsIdleLinked s
copy_busy w right e s copy =
    let busy = copy_is IsBusy w e (line.Send s.0 s.1) (λ l i m f same tunnel at. not_idle l.class f (each_at (MayBeOn l) (flights_on l w.links) i f (right l) at).class tunnel m) copy in
    λ idle. let bad : false ≡ true = sym busy ∙ idle in absurd cc

-- nor is one a record
tunnel_fits : (k : Class) (f : Flight) → k ≡ class_of f → is_tunnel k ≡ true → (l : LinkId) → FitsOn l f
tunnel_fits Tun (flight.Tun tag packet) same tunnel l = tt
tunnel_fits Tun (flight.Air id g num tag pdu) same tunnel l = tt
tunnel_fits Tun (flight.Ack id g num) same tunnel l = tt
tunnel_fits Tun (flight.Sdu id g sdu) same tunnel l = tt
tunnel_fits Tun (flight.End id g) same tunnel l = tt
tunnel_fits Tun (flight.Told id g count) same tunnel l = tt
tunnel_fits Tun (flight.Ctl r) same tunnel l = absurd cc
tunnel_fits Ctl f same tunnel l = absurd cc
tunnel_fits Feed f same tunnel l = absurd cc
tunnel_fits Air f same tunnel l = absurd cc

copy_fits : (w : World) → StandRight w → (e : Event) (s : Send) → IsCopyBy w e (line.Send s.0 s.1) → IsFitting s
copy_fits w right e s copy =
    copy_is IsFittingLine w e (line.Send s.0 s.1) (λ l i m f same tunnel at. tunnel_fits l.class f (each_at (MayBeOn l) (flights_on l w.links) i f (right l) at).class tunnel m) copy

-- ---- what the terminal sends

both_are : (a b : Bool) → (a && b) ≡ true → (a ≡ true) × (b ≡ true)
both_are true b is = (refl, is)
both_are false b is = absurd cc

terminal_fits : (l : LinkId) (f : Flight) → is_of_terminal l f ≡ true → FitsOn l f
terminal_fits l (flight.Ctl r) may = (both_are (is_class Ctl l && is_from_to T M l) (record_fits l r) may).1
terminal_fits l (flight.Air id g num tag pdu) may = tt
terminal_fits l (flight.Ack id g num) may = tt
terminal_fits l (flight.Tun tag packet) may = tt
terminal_fits l (flight.Sdu id g sdu) may = tt
terminal_fits l (flight.End id g) may = tt
terminal_fits l (flight.Told id g count) may = tt

-- ---- an event

-- what is so at any moment of a run
record Stands (p : Past) (w : World) : Type 0 where
  right : AreRight w
  ordered : AreOrdered w
  sound : IsSound w.master.proc

module _ (c : Choices) (w : World) (is : AreRight w) (up : AreOrdered w) (sound : IsSound w.master.proc) where
  sends_fit : (e : Event) (h : Happening) → AddsBy h → IsCopied w e h → AllByRecursion IsFitting (carried_on c w h).1.sends
  sends_fit e (given_to T i) adds copied =
      each_weaker (λ (s : Send). is_of_terminal s.0 s.1 ≡ true) IsFitting (λ s may. terminal_fits s.0 s.1 may) (terminal_step c w.terminal i).1.sends (terminal_kinds c w.terminal i)
  sends_fit e (given_to M i) adds copied =
      let done = came (master_step c w.master i) in fits_from_records done.1.sends (master_fits c w.master i done adds sound up.master (master_stepped c w.master i up.master))
  sends_fit e (given_to A i) adds copied =
      let done = came (second_step c w.a i) in fits_from_records done.1.sends (second_fits A refl w.a i done is.there.a.name (second_stepped c w.a i up.a))
  sends_fit e (given_to B i) adds copied =
      let done = came (second_step c w.b i) in fits_from_records done.1.sends (second_fits B refl w.b i done is.there.b.name (second_stepped c w.b i up.b))
  sends_fit e (refused_for why) adds copied = tt
  sends_fit e (on_links effects) adds copied = each_weaker (λ (s : Send). IsCopyBy w e (line.Send s.0 s.1)) IsFitting (copy_fits w is.right e) effects.sends copied.1

  sends_idle : (e : Event) (h : Happening) → AddsBy h → IsCopied w e h → AllByRecursion IsIdleLinked (carried_on c w h).1.sends
  sends_idle e (given_to T i) adds copied =
      let done = came (terminal_step c w.terminal i) in idle_from_records done.1.sends (none_idle _ (terminal_idle w.terminal i done (terminal_stepped c w.terminal i up.terminal)))
  sends_idle e (given_to M i) adds copied = idle_by_fits (master_step c w.master i).1.sends (master_sends c w.master i is.there.master).by (sends_fit e (given_to M i) adds copied)
  sends_idle e (given_to A i) adds copied =
      let done = came (second_step c w.a i) in idle_from_records done.1.sends (none_idle _ (second_idle w.a i done (second_stepped c w.a i up.a)))
  sends_idle e (given_to B i) adds copied =
      let done = came (second_step c w.b i) in idle_from_records done.1.sends (none_idle _ (second_idle w.b i done (second_stepped c w.b i up.b)))
  sends_idle e (refused_for why) adds copied = tt
  sends_idle e (on_links effects) adds copied = each_weaker (λ (s : Send). IsCopyBy w e (line.Send s.0 s.1)) IsIdleLinked (copy_busy w is.right e) effects.sends copied.1

  event_linked : (e : Event) → AddsSecond e → AreLinked (world_step c w e).1.lines
  event_linked e adds = lines_linked (carried_on c w (happening w e)).1 (sends_idle e (happening w e) (event_adds w e adds) (event_copies w e))

  event_fits : (e : Event) → AddsSecond e → AllByRecursion IsFittingLine (world_step c w e).1.lines
  event_fits e adds =
      let o = (carried_on c w (happening w e)).1 in each_line_of IsFittingLine o (any_notes o.notes) (sends_fit e (happening w e) (event_adds w e adds) (event_copies w e))

-- ---- the claims

both_true : (a b : Bool) → a ≡ true → b ≡ true → (a && b) ≡ true
both_true true b p q = q
both_true false b p q = p

of_class : (l : LinkId) (f : Flight) → MayBeOn l f → is_class (class_of f) l ≡ true
of_class l f may = eq-eqb (class_number l.class) (class_number (class_of f)) (ap class_number may.class)

each_is : (p : Past) (xs : List Line) → AreLinked xs → AllByRecursion MayStand xs → EachLine (λ q x. is_on_its_link x) p xs
each_is p [] linked may = tt
each_is p (line.Send l f ∷ xs) linked may = (both_true (is_link l) (is_class (class_of f) l) linked.0 (of_class l f may.0), each_is (noted p (line.Send l f)) xs linked.1 may.1)
each_is p (line.Note n ∷ xs) linked may = (refl, each_is (noted p (line.Note n)) xs linked.1 may.1)
each_is p (line.Event e ∷ xs) linked may = (refl, each_is (noted p (line.Event e)) xs linked.1 may.1)
each_is p (line.Answer a ∷ xs) linked may = (refl, each_is (noted p (line.Answer a)) xs linked.1 may.1)

-- the claim on links, of records and acks
abbrev record_is_on_link : Past → Line → Bool
record_is_on_link p x = if is_record_or_ack x then is_on_link p x else true

one_fits : (p : Past) (l : LinkId) (f : Flight) → is_link l ≡ true → MayBeOn l f → FitsOn l f → record_is_on_link p (line.Send l f) ≡ true
one_fits p l (flight.Ctl r) linked may fits =
    both_true (is_link l) (is_class Ctl l && record_fits l r) linked (both_true (is_class Ctl l) (record_fits l r) (of_class l (flight.Ctl r) may) fits)
one_fits p l (flight.Ack id g num) linked may fits = both_true (is_link l) (is_class Air l) linked (of_class l (flight.Ack id g num) may)
one_fits p l (flight.Air id g num tag pdu) linked may fits = refl
one_fits p l (flight.Tun tag packet) linked may fits = refl
one_fits p l (flight.Sdu id g sdu) linked may fits = refl
one_fits p l (flight.End id g) linked may fits = refl
one_fits p l (flight.Told id g count) linked may fits = refl

each_fits : (p : Past) (xs : List Line) → AreLinked xs → AllByRecursion MayStand xs → AllByRecursion IsFittingLine xs → EachLine record_is_on_link p xs
each_fits p [] linked may fits = tt
each_fits p (line.Send l f ∷ xs) linked may fits = (one_fits p l f linked.0 may.0 fits.0, each_fits (noted p (line.Send l f)) xs linked.1 may.1 fits.1)
each_fits p (line.Note n ∷ xs) linked may fits = (refl, each_fits (noted p (line.Note n)) xs linked.1 may.1 fits.1)
each_fits p (line.Event e ∷ xs) linked may fits = (refl, each_fits (noted p (line.Event e)) xs linked.1 may.1 fits.1)
each_fits p (line.Answer a ∷ xs) linked may fits = (refl, each_fits (noted p (line.Answer a)) xs linked.1 may.1 fits.1)

-- ---- a run

stands_next : (c : Choices) (w : World) (p : Past) (e : Event) → AddsSecond e → Stands p w → Stands (after p (world_step c w e).1) (world_step c w e).0
stands_next c w p e adds is = record { right = right_next c w e is.right; ordered = event_ordered c w e is.ordered; sound = event_sound c w e adds is.ordered is.sound }

stands_new : (h : Header) (policies : ℕ) → Stands (new_past h policies) (new_world h)
stands_new h policies = record { right = right_new h; ordered = record { terminal = tt; master = tt; a = tt; b = tt }; sound = record { sec = tt; command = tt } }

-- in every run each send is on one of the 22 links, and the link is of the class of its flight
pub sends_on_links : (c : Choices) (h : Header) (policies : ℕ) (es : List Event) → AllByRecursion AddsSecond es → Each (of_lines (λ p x. is_on_its_link x)) (new_past h policies) (entries_from c (new_world h) es)
sends_on_links c h policies es adds =
    each_if c (of_lines (λ p x. is_on_its_link x)) AddsSecond Stands
    (λ w p e names is. each_is (judged e (world_step c w e).1.answer p) (world_step c w e).1.lines (event_linked c w is.right is.ordered is.sound e names) (event_may c w e is.right))
    (λ w p e names is. refl) (stands_next c) es adds (new_world h) (new_past h policies) (stands_new h policies)

-- each record is moreover between the ends that such a record has
pub records_between_ends : (c : Choices) (h : Header) (policies : ℕ) (es : List Event) → AllByRecursion AddsSecond es
    → Each (at_lines is_record_or_ack (claim on_link)) (new_past h policies) (entries_from c (new_world h) es)
records_between_ends c h policies es adds =
    each_if c (at_lines is_record_or_ack (claim on_link)) AddsSecond Stands
    (λ w p e names is. each_fits (judged e (world_step c w e).1.answer p) (world_step c w e).1.lines (event_linked c w is.right is.ordered is.sound e names) (event_may c w e is.right)
    (event_fits c w is.right is.ordered is.sound e names))
    (λ w p e names is. refl) (stands_next c) es adds (new_world h) (new_past h policies) (stands_new h policies)
