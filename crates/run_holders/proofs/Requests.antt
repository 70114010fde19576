-- In every run a request to modify is on its way to a secondary node alone.
use Rattle.std.proofs.Common.{◌≡◌, Bool, true, false, List, [], ◌∷◌, Option, Some, None, ℕ, refl, sym, subst, inl, inr}
use Rattle.std.specs.List.{AllByRecursion, flat_map}
use Rattle.std.specs.Prelude.{◌&&◌}
use Rattle.std.proofs.lemmas.Bool.{cases_Bool}
use Rattle.dc_base.specs.Links.{is_same_link, link_number}
use Rattle.dc_base.specs.Nodes.{is_secondary}
use Rattle.dc_base.specs.declared.events.Event.{Event}
use Rattle.dc_base.specs.declared.events.Header.{Header}
use Rattle.dc_base.specs.declared.events.Line.{Line}
use Rattle.dc_base.specs.declared.events.Line.TheVariants as line
use Rattle.dc_base.specs.declared.flights.Flight.{Flight}
use Rattle.dc_base.specs.declared.flights.Flight.TheVariants as flight
use Rattle.dc_base.specs.declared.nodes.Class.TheVariants.{Ctl}
use Rattle.dc_base.specs.declared.nodes.LinkId.{LinkId}
use Rattle.dc_base.specs.declared.nodes.Node.TheVariants.{A, B, M, T}
use Rattle.dc_base.specs.declared.records.Rec.TheVariants as rec
use Rattle.transcript.specs.Content.{on_link, place_taken, put_on, without_taken}
use Rattle.transcript.specs.Transcript.{sends}
use Rattle.transcript.proofs.OnEach.{each_append, each_at, each_remove, each_weaker}
use Rattle.claims.specs.Links.{is_class, is_from_to}
use Rattle.master_runs.proofs.Contents.{flights_next}
use Rattle.master_runs.proofs.Moving.{none_there, same_link}
use Rattle.node_rules.specs.Choices.{Choices, Send}
use Rattle.node_rules.specs.MasterStep.{master_step}
use Rattle.node_rules.specs.Run.{Happening, carried_on, given_to, happening, on_links, refused_for, world_after, world_step}
use Rattle.node_rules.specs.SecondStep.{second_step}
use Rattle.node_rules.specs.Terminal.{terminal_step}
use Rattle.node_rules.specs.World.{World, flights_on, new_world}
use Rattle.run_control.specs.Sound.{AddsSecond, IsSound}
use Rattle.run_control.specs.Steps.{AreOrdered}
use Rattle.run_control.specs.Traffic.{came}
use Rattle.run_control.proofs.Runs.{AddsBy, event_adds, event_sound}
use Rattle.run_control.proofs.Steps.{event_ordered, master_stepped, second_stepped}
use Rattle.run_senders.specs.Fitting.{FitsOn, IsFitting}
use Rattle.run_senders.specs.Kinds.{is_of_terminal}
use Rattle.run_senders.specs.Lines.{IsCopyBy}
use Rattle.run_senders.proofs.Lines.{IsCopied, any_notes, copy_is, event_copies}
use Rattle.run_senders.proofs.MasterFits.{master_fits}
use Rattle.run_senders.proofs.Records.{fits_from_records}
use Rattle.run_senders.proofs.SecondRecords.{second_fits}
use Rattle.run_senders.proofs.Standing.{AreRight, right_new, right_next}
use Rattle.run_senders.proofs.TerminalKinds.{terminal_kinds}
use Rattle.run_words.proofs.Lines.{each_line_of}
use Rattle.run_holders.specs.Requests.{AskSecond, AsksSecond, LineAsks}

-- ---- what is sent

-- a send
abbrev SendAsks : Send → Type 0
SendAsks s = AsksSecond s.0 s.1

fits_ask : (l : LinkId) (f : Flight) → FitsOn l f → AsksSecond l f
fits_ask l (flight.Ctl (rec.Modreq q key)) fits = fits
fits_ask l f fits = tt

last_true : (a b d : Bool) → (a && b && d) ≡ true → d ≡ true
last_true true true d is = is
last_true true false d is = absurd (let bad : false ≡ true = is in cc)
last_true false b d is = absurd (let bad : false ≡ true = is in cc)

terminal_asks : (l : LinkId) (f : Flight) → is_of_terminal l f ≡ true → AsksSecond l f
terminal_asks l (flight.Ctl (rec.Modreq q key)) may = last_true (is_class Ctl l) (is_from_to T M l) (is_secondary l.to) may
terminal_asks l f may = tt

fitting_ask : (ss : List Send) → AllByRecursion IsFitting ss → AllByRecursion SendAsks ss
fitting_ask ss fits = each_weaker IsFitting SendAsks (λ s is. fits_ask s.0 s.1 is) ss fits

module _ (c : Choices) (w : World) (is : AreRight w) (up : AreOrdered w) (sound : IsSound w.master.proc) (asks : AskSecond w) where
  copy_asks : (e : Event) (s : Send) → IsCopyBy w e (line.Send s.0 s.1) → SendAsks s
  copy_asks e s copy =
      copy_is LineAsks w e (line.Send s.0 s.1) (λ l i m f same tunnel at. subst (λ y. AsksSecond y f) (sym same) (each_at (AsksSecond l) (flights_on l w.links) i f (asks l) at)) copy

  sends_ask : (e : Event) (h : Happening) → AddsBy h → IsCopied w e h → AllByRecursion SendAsks (carried_on c w h).1.sends
  sends_ask e (given_to T i) adds copied =
      each_weaker (λ (s : Send). is_of_terminal s.0 s.1 ≡ true) SendAsks (λ s may. terminal_asks s.0 s.1 may) (terminal_step c w.terminal i).1.sends (terminal_kinds c w.terminal i)
  sends_ask e (given_to M i) adds copied =
      let done = came (master_step c w.master i) in
      fitting_ask done.1.sends (fits_from_records done.1.sends (master_fits c w.master i done adds sound up.master (master_stepped c w.master i up.master)))
  sends_ask e (given_to A i) adds copied =
      let done = came (second_step c w.a i) in fitting_ask done.1.sends (fits_from_records done.1.sends (second_fits A refl w.a i done is.there.a.name (second_stepped c w.a i up.a)))
  sends_ask e (given_to B i) adds copied =
      let done = came (second_step c w.b i) in fitting_ask done.1.sends (fits_from_records done.1.sends (second_fits B refl w.b i done is.there.b.name (second_stepped c w.b i up.b)))
  sends_ask e (refused_for why) adds copied = tt
  sends_ask e (on_links effects) adds copied = each_weaker (λ (s : Send). IsCopyBy w e (line.Send s.0 s.1)) SendAsks (copy_asks e) effects.sends copied.1

  event_asks : (e : Event) → AddsSecond e → AllByRecursion LineAsks (world_step c w e).1.lines
  event_asks e adds =
      let o = (carried_on c w (happening w e)).1 in each_line_of LineAsks o (any_notes o.notes) (sends_ask e (happening w e) (event_adds w e adds) (event_copies w e))

-- ---- what stands after it

sent_ask : (xs : List Line) → AllByRecursion LineAsks xs → AllByRecursion SendAsks (sends xs)
sent_ask [] all = tt
sent_ask (line.Send l f ∷ xs) all = (all.0, sent_ask xs all.1)
sent_ask (line.Note n ∷ xs) all = sent_ask xs all.1
sent_ask (line.Event e ∷ xs) all = sent_ask xs all.1
sent_ask (line.Answer a ∷ xs) all = sent_ask xs all.1

put_ask : (l : LinkId) (ss : List Send) → AllByRecursion SendAsks ss → AllByRecursion (AsksSecond l) (flat_map (on_link l) ss)
put_ask l [] all = tt
put_ask l (s ∷ ss) all =
    elim (cases_Bool (is_same_link l s.0)) [
      | inl here ↦ rw here (subst (λ k. AsksSecond k s.1) (sym (same_link l s.0 here)) all.0, put_ask l ss all.1)
      | inr there ↦ rw there (put_ask l ss all.1)
    ]

left_ask : (l : LinkId) (place : Option (LinkId × ℕ)) (fs : List Flight) → AllByRecursion (AsksSecond l) fs → AllByRecursion (AsksSecond l) (without_taken l place fs)
left_ask l None fs all = all
left_ask l (Some place) fs all =
    elim (cases_Bool (is_same_link l place.0)) [ inl here ↦ rw here (each_remove (AsksSecond l) fs place.1 all) | inr there ↦ rw there all ]

-- an event keeps it so
pub asks_next : (c : Choices) (w : World) (e : Event) → AddsSecond e → AreRight w → AreOrdered w → IsSound w.master.proc → AskSecond w → AskSecond (world_step c w e).0
asks_next c w e adds is up sound asks l =
    let x = (world_step c w e).1 in
    subst (AllByRecursion (AsksSecond l)) (sym (flights_next c w e l is.long))
    (each_append (AsksSecond l) (without_taken l (place_taken e x.answer) (flights_on l w.links)) (put_on l x.lines)
    (left_ask l (place_taken e x.answer) (flights_on l w.links) (asks l)) (put_ask l (sends x.lines) (sent_ask x.lines (event_asks c w is up sound asks e adds))))

-- ---- a run

pub asks_new : (h : Header) → AskSecond (new_world h)
asks_new h l = subst (AllByRecursion (AsksSecond l)) (sym (none_there 64 (link_number l) [])) tt

asks_on : (c : Choices) (es : List Event) → AllByRecursion AddsSecond es → (w : World) → AreRight w → AreOrdered w → IsSound w.master.proc → AskSecond w → AskSecond (world_after c w es)
asks_on c [] adds w is up sound asks = asks
asks_on c (e ∷ es) adds w is up sound asks =
    asks_on c es adds.1 (world_step c w e).0 (right_next c w e is) (event_ordered c w e up) (event_sound c w e adds.0 up sound) (asks_next c w e adds.0 is up sound asks)

-- after any events of which each addition is of a secondary node
pub asks_always : (c : Choices) (h : Header) (es : List Event) → AllByRecursion AddsSecond es → AskSecond (world_after c (new_world h) es)
asks_always c h es adds =
    asks_on c es adds (new_world h) (right_new h) (record { terminal = tt; master = tt; a = tt; b = tt }) (record { sec = tt; command = tt }) (asks_new h)
