use Rattle.std.proofs.Common.{◌≡◌, ℕ, List, ◌+◌, ◌-◌, ◌^◌, ◌<◌, ◌≤◌, Result, Ok, Err, length, subst, arith, rules}
use Rattle.dc_base.specs.Count.{window}
use Rattle.pdcp_tx.specs.declared.tx.TxErr.{TxErr}
use Rattle.pdcp_tx.specs.declared.tx.TxErr.TheVariants.{Full}
use Rattle.pdcp_tx.specs.Sender.{Sender, least}
use Rattle.pdcp_tx.specs.Sending.{give_numbers}
use Rattle.pdcp_tx.specs.Slots.{live}
use Rattle.pdcp_tx.proofs.Entries.{in_window-near}
use Rattle.pdcp_tx.proofs.Grown.{kept-grown, live-grown}
use Rattle.pdcp_tx.proofs.Rules.{give_numbers-full, give_numbers-ok}
use Rattle.pdcp_tx.proofs.tx.Tx.give_numbers.Goals as goal

pub overflow_sub-self-inside : goal.overflow_sub-self-inside
overflow_sub-self-inside c =
    let near = in_window-near c.self.inside.n c.self.inside.next (live c.self.inside.next c.self.inside.kept.items) c.self.invariant.window in
    omega (arith, near.1, c.least-low.ensures)

pub overflow_sub-window : goal.overflow_sub-window
overflow_sub-window c =
    let near = in_window-near c.self.inside.n c.self.inside.next (live c.self.inside.next c.self.inside.kept.items) c.self.invariant.window in
    omega (arith, near.0, c.least-low.ensures, c.window.ensures)

pub returns-then-waiting-window-clause-err : goal.returns-then-waiting-window-clause-err
returns-then-waiting-window-clause-err c =
    let near = in_window-near c.self.inside.n c.self.inside.next (live c.self.inside.next c.self.inside.kept.items) c.self.invariant.window in
    let s : Sender = record { n = c.self.inside.n; next = c.self.inside.next; kept = live c.self.inside.next c.self.inside.kept.items; held = c.self.inside.held.items } in
    let len : c.len-waiting.result ≡ length c.self.inside.held.items = search rules in
    let full : least s.next s.kept + window s.n < s.next + length s.held = omega (arith, near.0, near.1, len, c.least-low.ensures, c.window.ensures, c.if-waiting-window.true) in
    subst (λ v. ◌≡◌ {A = Result (Sender × List ℕ) TxErr} (give_numbers v) (Err (Full c.least-low.result c.self.inside.next))) c.self.view_is
    (rw c.least-low.ensures (give_numbers-full s full))

pub invariant_of-self-2 : goal.invariant_of-self-2
invariant_of-self-2 c =
    let near = in_window-near c.self.inside.n c.self.inside.next (live c.self.inside.next c.self.inside.kept.items) c.self.invariant.window in
    let len : c.len-waiting.result ≡ length c.self.inside.held.items = search rules in
    let room : c.self.inside.next + length c.self.inside.held.items ≤ least c.self.inside.next (live c.self.inside.next c.self.inside.kept.items) + window c.self.inside.n =
    omega (arith, near.0, near.1, len, c.least-low.ensures, c.window.ensures, c.if-waiting-window.false) in
    rw (c.number_all.ensures.next, c.number_all.ensures.kept, c.reserve.ensures.items)
    (kept-grown c.self.inside.n c.self.inside.next c.self.inside.kept.items c.self.inside.held.items c.self.invariant room)

pub returns-clause-ok : goal.returns-clause-ok
returns-clause-ok c =
    let near = in_window-near c.self.inside.n c.self.inside.next (live c.self.inside.next c.self.inside.kept.items) c.self.invariant.window in
    let s : Sender = record { n = c.self.inside.n; next = c.self.inside.next; kept = live c.self.inside.next c.self.inside.kept.items; held = c.self.inside.held.items } in
    let len : c.len-waiting.result ≡ length c.self.inside.held.items = search rules in
    let room : s.next + length s.held ≤ least s.next s.kept + window s.n = omega (arith, near.0, near.1, len, c.least-low.ensures, c.window.ensures, c.if-waiting-window.false) in
    let left : s.next + length s.held ≤ 2 ^ 32 - 1 = omega (arith, len, c.if-waiting-self.false) in
    subst (λ v. ◌≡◌ {A = Result (Sender × List ℕ) TxErr} (give_numbers v)
    (Ok (record { n = c.self.inside.n; next = c.number_all.new.next; kept = live c.number_all.new.next c.number_all.new.kept.items; held = c.number_all.new.held.items }, c.from_vec.result))) c.self.view_is
    (rw (c.from_vec.ensures, c.number_all.ensures.next, c.number_all.ensures.kept, c.number_all.ensures.held, c.number_all.ensures.counts, c.reserve.ensures.items, c.in-Ok.ensures.items, live-grown c.self.inside.n c.self.inside.next c.self.inside.kept.items c.self.inside.held.items c.self.invariant room) (give_numbers-ok s room left))
