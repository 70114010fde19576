use Rattle.std.proofs.Common.{◌≡◌, ◌<◌, ◌∙◌, Some, None, ap, length, refl, slice_get, subst, sym, []}
use Rattle.std.proofs.lemmas.List.{get_or_default}
use Rattle.std.proofs.lemmas.Option.{slice_get_past}
use Rattle.flight_queue.specs.Runs.{joined, place_in}
use Rattle.flight_queue.proofs.Places.{is_place, no_place}
use Rattle.flight_queue.proofs.queue.FlightQueue.flight.Goals as goal

pub index-requires : goal.index-requires
index-requires c =
    let found : place_in c.self.inside.runs.items c.args.position ≡ Some (c.in-Some.run', c.in-Some.place) =
    sym (c.place_in.ensures ∙ ap (λ rs. place_in rs c.args.position) c.as_slice.ensures.value) ∙ c.in-Some.is in
    let less = (is_place c.self.inside.runs.items c.args.position (c.in-Some.run', c.in-Some.place) found).run in
    subst (λ k. c.in-Some.run' < k) (sym (ap length c.as_slice.ensures.value) ∙ c.as_slice.ensures.len) less

pub returns-in-Some : goal.returns-in-Some
returns-in-Some c =
    let found : place_in c.self.inside.runs.items c.args.position ≡ Some (c.in-Some.run', c.in-Some.place) =
    sym (c.place_in.ensures ∙ ap (λ rs. place_in rs c.args.position) c.as_slice.ensures.value) ∙ c.in-Some.is in
    let is = is_place c.self.inside.runs.items c.args.position (c.in-Some.run', c.in-Some.place) found in
    c.flight.ensures ∙ ap (λ r. slice_get r c.in-Some.place) (c.index.ensures ∙ get_or_default c.self.inside.runs.items c.in-Some.run' c.index.result.now [] is.run) ∙ sym is.at
    ∙ ap (λ xs. slice_get xs c.args.position) c.self.view_is

pub returns-in-None : goal.returns-in-None
returns-in-None c =
    let none : place_in c.self.inside.runs.items c.args.position ≡ None =
    sym (c.place_in.ensures ∙ ap (λ rs. place_in rs c.args.position) c.as_slice.ensures.value) ∙ c.in-None.is in
    sym (ap (λ xs. slice_get xs c.args.position) (sym c.self.view_is) ∙ slice_get_past (joined c.self.inside.runs.items) c.args.position (no_place c.self.inside.runs.items c.args.position none))
