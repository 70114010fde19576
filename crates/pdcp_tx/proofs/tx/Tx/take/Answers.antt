use Rattle.std.proofs.Common.{◌≡◌, ℕ, ◌+◌, ◌<◌, ◌≤◌, Result, Err, subst, arith}
use Rattle.dc_base.specs.Count.{window}
use Rattle.pdcp_tx.specs.declared.tx.TxErr.{TxErr}
use Rattle.pdcp_tx.specs.declared.tx.TxErr.TheVariants.{Full}
use Rattle.pdcp_tx.specs.Sender.{Sender, least}
use Rattle.pdcp_tx.specs.Sending.{take_sdu}
use Rattle.pdcp_tx.specs.Slots.{live}
use Rattle.pdcp_tx.proofs.Entries.{in_window-near}
use Rattle.pdcp_tx.proofs.Grown.{kept-take_sdu, live-take_sdu}
use Rattle.pdcp_tx.proofs.Rules.{take_sdu-full, take_sdu-ok}
use Rattle.pdcp_tx.proofs.tx.Tx.take.Goals as goal
use Rattle.pdcp_tx.proofs.tx.Tx.take.Goals.{in-Ok, in-Err}

pub overflow_sub-self-inside : goal.overflow_sub-self-inside
overflow_sub-self-inside c =
    let near = in_window-near c.self.inside.n c.self.inside.next (live c.self.inside.next c.self.inside.kept.items) c.self.invariant.window in
    omega (arith, near.1, c.least-low.ensures)

pub returns-then-self-low-clause-err : goal.returns-then-self-low-clause-err
returns-then-self-low-clause-err c =
    let near = in_window-near c.self.inside.n c.self.inside.next (live c.self.inside.next c.self.inside.kept.items) c.self.invariant.window in
    let s : Sender = record { n = c.self.inside.n; next = c.self.inside.next; kept = live c.self.inside.next c.self.inside.kept.items; held = c.self.inside.held.items } in
    let full : least s.next s.kept + window s.n ≤ s.next = omega (arith, near.1, c.least-low.ensures, c.window.ensures, c.if-self-low.true) in
    subst (λ v. ◌≡◌ {A = Result (Sender × ℕ) TxErr} (take_sdu v c.args.sdu) (Err (Full c.least-low.result c.self.inside.next))) c.self.view_is
    (rw c.least-low.ensures (take_sdu-full s c.args.sdu full))

pub invariant_of-self : goal.invariant_of-self
invariant_of-self c =
    let near = in_window-near c.self.inside.n c.self.inside.next (live c.self.inside.next c.self.inside.kept.items) c.self.invariant.window in
    let room : c.self.inside.next < least c.self.inside.next (live c.self.inside.next c.self.inside.kept.items) + window c.self.inside.n = omega (arith, near.1, c.least-low.ensures, c.window.ensures, c.if-self-low.false) in
    rw c.in-Ok.ensures.items (kept-take_sdu c.self.inside.n c.self.inside.next c.self.inside.kept.items c.args.sdu c.self.invariant room)

pub returns-clause-ok : goal.returns-clause-ok
returns-clause-ok c =
    let near = in_window-near c.self.inside.n c.self.inside.next (live c.self.inside.next c.self.inside.kept.items) c.self.invariant.window in
    let s : Sender = record { n = c.self.inside.n; next = c.self.inside.next; kept = live c.self.inside.next c.self.inside.kept.items; held = c.self.inside.held.items } in
    let room : s.next < least s.next s.kept + window s.n = omega (arith, near.1, c.least-low.ensures, c.window.ensures, c.if-self-low.false) in
    let more = live-take_sdu c.self.inside.n c.self.inside.next c.self.inside.kept.items c.args.sdu c.self.invariant room in
    elim c.match-push_back.branch [
      | in-Ok w ↦ rw (w.result-is, w.self-is, ← c.self.view_is, w.in-Ok.ensures.items, more) (take_sdu-ok s c.args.sdu room (λ last. omega arith))
      | in-Err w ↦ rw w.result-is tt
    ]
