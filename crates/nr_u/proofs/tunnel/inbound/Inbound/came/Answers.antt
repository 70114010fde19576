use Rattle.std.proofs.Common.{sym, ap, ◌∙◌, arith}
use Rattle.nr_u.specs.Tunnel.Incoming.{is_first}
use Rattle.nr_u.proofs.ByNumber.{contains-new, has-filter}
use Rattle.nr_u.proofs.Gaps.{below_new, gap_there}
use Rattle.nr_u.proofs.Numbers.{sn_small}
use Rattle.nr_u.proofs.KeptLemmas.{state-insert, state-restored}
use Rattle.nr_u.proofs.tunnel.inbound.Inbound.came.Goals as goal

pub add-added-requires-clause-acked : goal.add-added-requires-clause-acked
add-added-requires-clause-acked c =
    contains-new c.args.number c.self.inside.came.entries c.self.inside.unacked.keys c.self.invariant.unacked_came (sym c.contains_key.ensures ∙ c.if-contains_key.false)

pub add-added-requires-clause-first : goal.add-added-requires-clause-first
add-added-requires-clause-first c =
    rw c.self.invariant.firsts_are (has-filter (λ a. is_first a.1) c.args.number c.self.inside.came.entries (sym c.contains_key.ensures ∙ c.if-contains_key.false))

pub narrow-requires-clause-there : goal.narrow-requires-clause-there
narrow-requires-clause-there c =
    rw (c.gap_at-gap.ensures, c.in_ok-add_below.ensures.ok) (gap_there c.args.number _ c.self.inside.gaps.entries)

pub invariant_of-self-in-Ok : goal.invariant_of-self-in-Ok
invariant_of-self-in-Ok c =
    let added = c.in-Ok.ensures in
    let small = sn_small c.args.self.now.n c.args.sn c.requires.sn in
    rw (added.came, added.unacked, added.firsts, c.narrow.ensures, c.max-self-inside.ensures, c.in_ok-add_below.ensures.ok, c.begin_of-from.ensures, c.gap_at-gap.ensures) (state-insert _ _ _ _ _ c.args.number _ c.self.invariant c.requires.number (sym c.contains_key.ensures ∙ c.if-contains_key.false) small)

pub invariant_of-self-in-Err : goal.invariant_of-self-in-Err
invariant_of-self-in-Err c =
    let added = c.in-Err.ensures in
    state-restored _ _ _ _ c.self.inside.next c.args.number _ _ _ _ _ _ _ c.self.invariant (sym c.contains_key.ensures ∙ c.if-contains_key.false) added.err_came added.err_unacked added.err_firsts c.gap_at-gap.ensures c.begin_of-from.ensures c.in_ok-add_below.ensures.ok c.drop_below.ensures
