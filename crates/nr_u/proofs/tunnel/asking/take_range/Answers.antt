use Rattle.std.proofs.Common.{◌++◌, [], ◌∷◌, not, ◌∙◌, sym, ap, append-nil}
use Rattle.std.specs.Prelude.{map}
use Rattle.nr_u.specs.Tunnel.Outgoing.{Counted, asks, is_listed}
use Rattle.nr_u.proofs.Filters.{left_out, none_passes}
use Rattle.nr_u.proofs.Asking.{open_found, empty_asks, empty_range}
use Rattle.nr_u.proofs.tunnel.asking.take_range.Goals as goal

pub returns-then-range-clause-looked : goal.returns-then-range-clause-looked
returns-then-range-clause-looked c =
    sym (none_passes (λ e. is_listed (c.args.range ∷ []) e.0) c.args.askable.now.entries (λ e. empty_range c.args.range c.if-range.true e.0)).1

pub returns-then-range-clause-left : goal.returns-then-range-clause-left
returns-then-range-clause-left c =
    sym (none_passes (asks c.args.low c.args.confirmed.now.keys (c.args.range ∷ [])) c.args.unasked.now.entries (empty_asks c.args.low c.args.confirmed.now.keys c.args.range c.if-range.true)).1

pub returns-then-range-clause-again : goal.returns-then-range-clause-again
returns-then-range-clause-again c =
    let none = none_passes (asks c.args.low c.args.confirmed.now.keys (c.args.range ∷ [])) c.args.unasked.now.entries (empty_asks c.args.low c.args.confirmed.now.keys c.args.range c.if-range.true) in
    sym (ap (λ x. c.args.again.now.items ++ map (λ (e : Counted). e.1) x) none.0 ∙ append-nil c.args.again.now.items)

pub returns-clause-looked : goal.returns-clause-looked
returns-clause-looked c =
    left_out (λ e. is_listed (c.args.range ∷ []) e.0) c.args.askable.now.entries _ _ _ c.in_ok-listed.ensures.ordered c.in_ok-listed.ensures.found c.as_slice-3.ensures.value c.take_out.ensures

pub returns-clause-left : goal.returns-clause-left
returns-clause-left c =
    let asked = open_found c.args.low c.args.confirmed.now.keys c.args.range c.args.askable.now.entries c.args.unasked.now.entries _ _ _ c.requires.covers c.in_ok-listed.ensures.found c.as_slice.ensures.value c.in_ok-asked.ensures in
    left_out (asks c.args.low c.args.confirmed.now.keys (c.args.range ∷ [])) c.args.unasked.now.entries _ _ _ c.requires.sorted asked c.as_slice-4.ensures.value c.take_out-2.ensures

pub returns-clause-again : goal.returns-clause-again
returns-clause-again c =
    let asked = open_found c.args.low c.args.confirmed.now.keys c.args.range c.args.askable.now.entries c.args.unasked.now.entries _ _ _ c.requires.covers c.in_ok-listed.ensures.found c.as_slice.ensures.value c.in_ok-asked.ensures in
    c.in_ok-add_counts.ensures ∙ ap (λ x. c.args.again.now.items ++ map (λ (e : Counted). e.1) x) (c.as_slice-2.ensures.value ∙ asked)
