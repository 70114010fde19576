use Rattle.std.proofs.Common.{◌≡◌, None, Some, set, sym, ap, ◌∙◌}
use Rattle.std.specs.List.{position}
use Rattle.claims.specs.Past.{Bearer}
use Rattle.checker_state.specs.Changes.{changed_by}
use Rattle.checker_state.proofs.Latest.{is_of, latest_none, latest_there}
use Rattle.checker_state.proofs.PlacedRows.{position-none, position-some}
use Rattle.checker_state.proofs.lists.change_latest.Goals as goal

pub returns-in_default : goal.returns-in_default
returns-in_default c =
    let bs = c.args.bearers.now.items in
    let none : position (is_of c.args.id) bs ≡ None = ap (position (is_of c.args.id)) (sym c.deref.ensures.value) ∙ sym c.in_default.ensures in
    latest_none c.args.id (changed_by c.args.change) bs (position-none _ bs none)

pub returns : goal.returns
returns c =
    let bs = c.args.bearers.now.items in
    let at : position (is_of c.args.id) bs ≡ Some c.in-Some.place = ap (position (is_of c.args.id)) (sym c.deref.ensures.value) ∙ sym c.place_of.ensures ∙ c.in-Some.is in
    let place = position-some (is_of c.args.id) bs c.in-Some.place at in
    let d : Bearer = c.index.result.now in
    ap (λ (b : Bearer). set bs c.in-Some.place b) (c.changed-changed.ensures ∙ ap (changed_by c.args.change) c.index.ensures)
    ∙ latest_there c.args.id (changed_by c.args.change) bs c.in-Some.place d place.0 place.1
