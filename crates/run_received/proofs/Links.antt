-- What is so of each flight on each link, after an event: of what stood there, and of what its lines send.
use Rattle.std.proofs.Common.{ℕ, ◌≡◌, List, [], ◌∷◌, Option, Some, None, sym, subst, inl, inr}
use Rattle.std.specs.Prelude.{⊤}
use Rattle.std.specs.List.{AllByRecursion, flat_map}
use Rattle.std.proofs.lemmas.Bool.{cases_Bool}
use Rattle.dc_base.specs.Links.{is_same_link}
use Rattle.dc_base.specs.declared.events.Event.{Event}
use Rattle.dc_base.specs.declared.events.Line.{Line}
use Rattle.dc_base.specs.declared.events.Line.TheVariants as line
use Rattle.dc_base.specs.declared.flights.Flight.{Flight}
use Rattle.dc_base.specs.declared.nodes.LinkId.{LinkId}
use Rattle.transcript.specs.Content.{on_link, place_taken, put_on, without_taken}
use Rattle.transcript.specs.Transcript.{sends}
use Rattle.transcript.proofs.OnEach.{each_append, each_remove}
use Rattle.master_runs.proofs.Contents.{flights_next}
use Rattle.master_runs.proofs.Moving.{same_link}
use Rattle.node_rules.specs.Choices.{Choices}
use Rattle.node_rules.specs.Run.{world_step}
use Rattle.node_rules.specs.World.{World, flights_on}
use Rattle.std.specs.Prelude.{length}

module _ (P : LinkId → Flight → Type 0) where
  -- of what a line sends
  abbrev pub OfLine : Line → Type 0
  OfLine (line.Send l f) = P l f
  OfLine (line.Note n) = ⊤
  OfLine (line.Event e) = ⊤
  OfLine (line.Answer a) = ⊤

  of_sends : (xs : List Line) → AllByRecursion OfLine xs → AllByRecursion (λ (s : LinkId × Flight). P s.0 s.1) (sends xs)
  of_sends [] all = tt
  of_sends (line.Send l f ∷ xs) all = (all.0, of_sends xs all.1)
  of_sends (line.Note n ∷ xs) all = of_sends xs all.1
  of_sends (line.Event e ∷ xs) all = of_sends xs all.1
  of_sends (line.Answer a ∷ xs) all = of_sends xs all.1

  of_puts : (l : LinkId) (ss : List (LinkId × Flight)) → AllByRecursion (λ (s : LinkId × Flight). P s.0 s.1) ss → AllByRecursion (P l) (flat_map (on_link l) ss)
  of_puts l [] all = tt
  of_puts l (s ∷ ss) all =
      elim (cases_Bool (is_same_link l s.0)) [
        | inl here ↦ rw here (subst (λ k. P k s.1) (sym (same_link l s.0 here)) all.0, of_puts l ss all.1)
        | inr there ↦ rw there (of_puts l ss all.1)
      ]

  of_left : (l : LinkId) (place : Option (LinkId × ℕ)) (fs : List Flight) → AllByRecursion (P l) fs → AllByRecursion (P l) (without_taken l place fs)
  of_left l None fs all = all
  of_left l (Some place) fs all =
      elim (cases_Bool (is_same_link l place.0)) [ inl here ↦ rw here (each_remove (P l) fs place.1 all) | inr there ↦ rw there all ]

  pub each_after : (c : Choices) (w : World) (e : Event) → length w.links ≡ 64 → ((l : LinkId) → AllByRecursion (P l) (flights_on l w.links))
      → AllByRecursion OfLine (world_step c w e).1.lines → (l : LinkId) → AllByRecursion (P l) (flights_on l (world_step c w e).0.links)
  each_after c w e long stood lines l =
      let x = (world_step c w e).1 in
      subst (AllByRecursion (P l)) (sym (flights_next c w e l long))
      (each_append (P l) (without_taken l (place_taken e x.answer) (flights_on l w.links)) (put_on l x.lines)
      (of_left l (place_taken e x.answer) (flights_on l w.links) (stood l)) (of_puts l (sends x.lines) (of_sends x.lines lines)))
