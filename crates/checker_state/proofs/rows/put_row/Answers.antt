use Rattle.std.proofs.Common.{◌≡◌, ◌==◌, ℕ, None, Some, true, false, get_or, nat_le, sym, ap, ◌∙◌}
use Rattle.std.specs.List.{position}
use Rattle.claims.specs.Table.{Row}
use Rattle.checker_state.proofs.PlacedRows.{is_from, position-none, position-some, with_row-between, with_row-last, with_row-there}
use Rattle.checker_state.proofs.rows.put_row.Goals as goal

pub returns-in_default : goal.returns-in_default
returns-in_default c =
    let xs = c.args.rows.now.items in
    let none : position (is_from c.args.row) xs ≡ None =
    ap (position (is_from c.args.row)) (sym c.deref.ensures.value)
    ∙ ap (λ (k : ℕ). position (λ (r : Row). nat_le k r.id) c.deref.result.now) (sym c.id.ensures) ∙ sym c.in_default.ensures in
    c.in_ok-push.ensures.items ∙ sym (with_row-last c.args.row xs (position-none _ xs none))

pub returns-then-eq : goal.returns-then-eq
returns-then-eq c =
    let xs = c.args.rows.now.items in
    let at : position (is_from c.args.row) xs ≡ Some c.in-Some.place =
    ap (position (is_from c.args.row)) (sym c.deref.ensures.value)
    ∙ ap (λ (k : ℕ). position (λ (r : Row). nat_le k r.id) c.deref.result.now) (sym c.id.ensures) ∙ sym c.place_of.ensures ∙ c.in-Some.is in
    let place = position-some (is_from c.args.row) xs c.in-Some.place at in
    let d : Row = c.index.result.now in
    let there : ((get_or xs c.in-Some.place d).id == c.args.row.id) ≡ true =
    ap (λ (x : Row). x.id == c.args.row.id) (sym c.index.ensures) ∙ ap (λ (k : ℕ). k == c.args.row.id) (sym c.id-2.ensures)
    ∙ ap (λ (k : ℕ). c.id-2.result == k) (sym c.id-3.ensures) ∙ sym c.if-eq.ensures in
    sym (with_row-there c.args.row xs c.in-Some.place d place.0 place.1 there)

pub returns : goal.returns
returns c =
    let xs = c.args.rows.now.items in
    let at : position (is_from c.args.row) xs ≡ Some c.in-Some.place =
    ap (position (is_from c.args.row)) (sym c.deref.ensures.value)
    ∙ ap (λ (k : ℕ). position (λ (r : Row). nat_le k r.id) c.deref.result.now) (sym c.id.ensures) ∙ sym c.place_of.ensures ∙ c.in-Some.is in
    let place = position-some (is_from c.args.row) xs c.in-Some.place at in
    let d : Row = c.index.result.now in
    let other : ((get_or xs c.in-Some.place d).id == c.args.row.id) ≡ false =
    ap (λ (x : Row). x.id == c.args.row.id) (sym c.index.ensures) ∙ ap (λ (k : ℕ). k == c.args.row.id) (sym c.id-2.ensures)
    ∙ ap (λ (k : ℕ). c.id-2.result == k) (sym c.id-3.ensures) ∙ sym c.if-eq.ensures in
    c.in_ok-insert.ensures.items ∙ sym (with_row-between c.args.row xs c.in-Some.place d place.0 place.1 other)
