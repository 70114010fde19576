use Rattle.std.proofs.Common.{ℕ, ◌≡◌, ◌<◌, ◌∙◌, ◌-◌, Some, None, ap, length, refl, remove, slice_get, subst, sym, arith}
use Rattle.flight_queue.specs.Runs.{joined, place_in}
use Rattle.flight_queue.proofs.Places.{IsPlace, is_place, no_place, one_less}
use Rattle.flight_queue.proofs.queue.FlightQueue.take.Goals as goal

pub take_in-flight-requires-clause-run : goal.take_in-flight-requires-clause-run
take_in-flight-requires-clause-run c =
    (is_place c.self.inside.runs.items c.args.position (c.in-Some.run', c.in-Some.place)
    (sym (c.place_in.ensures ∙ ap (λ rs. place_in rs c.args.position) c.as_slice.ensures.value) ∙ c.in-Some.is)).run

pub take_in-flight-requires-clause-place : goal.take_in-flight-requires-clause-place
take_in-flight-requires-clause-place c =
    (is_place c.self.inside.runs.items c.args.position (c.in-Some.run', c.in-Some.place)
    (sym (c.place_in.ensures ∙ ap (λ rs. place_in rs c.args.position) c.as_slice.ensures.value) ∙ c.in-Some.is)).place

pub invariant_of-self : goal.invariant_of-self
invariant_of-self c =
    let is = is_place c.self.inside.runs.items c.args.position (c.in-Some.run', c.in-Some.place)
    (sym (c.place_in.ensures ∙ ap (λ rs. place_in rs c.args.position) c.as_slice.ensures.value) ∙ c.in-Some.is) in
    let less : c.args.position < c.self.inside.len = (let old = c.requires in let all = c.self.invariant in let same = ap length c.self.view_is in omega (arith, old, all, same)) in
    one_less (joined c.self.inside.runs.items) (joined c.take_in-flight.new.runs.items) c.self.inside.len c.args.position c.self.invariant less (c.take_in-flight.ensures.rest ∙ sym is.without)

pub unreachable-requires : goal.unreachable-requires
unreachable-requires c =
    let none = no_place c.self.inside.runs.items c.args.position (sym (c.place_in.ensures ∙ ap (λ rs. place_in rs c.args.position) c.as_slice.ensures.value) ∙ c.in-None.is) in
    let less = c.requires in
    let same = ap length c.self.view_is in
    omega (arith, none, less, same)

pub returns-clause-flight : goal.returns-clause-flight
returns-clause-flight c =
    let is = is_place c.self.inside.runs.items c.args.position (c.in-Some.run', c.in-Some.place)
    (sym (c.place_in.ensures ∙ ap (λ rs. place_in rs c.args.position) c.as_slice.ensures.value) ∙ c.in-Some.is) in
    ap (λ xs. slice_get xs c.args.position) (sym c.self.view_is) ∙ is.at ∙ c.take_in-flight.ensures.flight

pub returns-clause-rest : goal.returns-clause-rest
returns-clause-rest c =
    let is = is_place c.self.inside.runs.items c.args.position (c.in-Some.run', c.in-Some.place)
    (sym (c.place_in.ensures ∙ ap (λ rs. place_in rs c.args.position) c.as_slice.ensures.value) ∙ c.in-Some.is) in
    c.take_in-flight.ensures.rest ∙ sym is.without ∙ ap (λ xs. remove xs c.args.position) c.self.view_is
