use Rattle.std.proofs.Common.{ℕ, ◌≡◌, List, [], ◌++◌, length, ap, sym, ◌∙◌}
use Rattle.dc_base.specs.declared.records.StatusTransfer.{StatusTransfer}
use Rattle.pdcp_pdu.specs.StatusReport.{whole_bits}
use Rattle.pdcp_rx.specs.Entries.{counts_of}
use Rattle.pdcp_rx.specs.declared.entity.RxParts.{RxParts}
use Rattle.pdcp_tx.specs.declared.tx.TxParts.{TxParts}
use Rattle.node_rules.specs.Anchor.{Active}
use Rattle.node_rules.specs.Choices.{Send}
use Rattle.node_rules.specs.Entity.{Entity}
use Rattle.node_rules.specs.Freezing.{FreezeOut, freeze, numbered, pieces}
use Rattle.node_rules.specs.Setup.{Setup}
use Rattle.anchor.specs.Paths.{ForwardPath, after_pieces}
use Rattle.anchor.proofs.Frozen.{freeze-is}
use Rattle.anchor.proofs.freezing.freeze.Goals as goal

pub returns : goal.returns
returns c = λ a is.
    let e = c.args.entity in
    let tx = c.in_ok-setup.tx in
    let rx = c.in_ok-setup.rx in
    let left : Entity = record { setup = c.in_ok-setup.setup; tx = record { n = tx.n; next = tx.next; kept = tx.kept; held = tx.held }; rx = rx } in
    let same : left ≡ e =
    ap {B = Entity} (λ (s : Setup). record { setup = s; tx = left.tx; rx = left.rx }) c.in_ok-setup.ensures.setup
    ∙ ap {B = Entity} (λ (x : TxParts). record { setup = e.setup; tx = record { n = x.n; next = x.next; kept = x.kept; held = x.held }; rx = left.rx }) c.in_ok-setup.ensures.tx
    ∙ ap {B = Entity} (λ (r : RxParts). record { setup = e.setup; tx = e.tx; rx = r }) c.in_ok-setup.ensures.rx in
    let b : Active = record a { entity = left } in
    let status = c.in_ok-status.ensures ∙ ap {B = StatusTransfer} (λ (i : ℕ). record { g = c.args.g; id = i; ul = rx.deliv; bits = whole_bits rx.deliv (counts_of rx.stored); dl = tx.next }) c.id.ensures in
    let p1 = c.in_ok-numbered.ensures.path ∙ ap (λ (p : ForwardPath). after_pieces p (length tx.kept)) c.new-down.ensures in
    let s1 = c.in_ok-numbered.ensures.sends
    ∙ ap (λ (xs : List Send). xs ++ pieces c.new-down.result.tunnel c.new-down.result.teid c.new-down.result.tunnel.next (numbered c.new-down.result.tunnel.n tx.kept)) c.new-sends.ensures
    ∙ ap (λ (p : ForwardPath). pieces p.tunnel p.teid p.tunnel.next (numbered p.tunnel.n tx.kept)) c.new-down.ensures in
    let q1 = c.in_ok-numbered-2.ensures.path ∙ ap (λ (p : ForwardPath). after_pieces p (length rx.stored)) c.new-up.ensures in
    let s4 = c.in_ok-numbered-2.ensures.sends
    ∙ ap (λ (p : ForwardPath). c.end_if.new.sends ++ pieces p.tunnel p.teid p.tunnel.next (numbered p.tunnel.n rx.stored)) c.new-up.ensures in
    freeze-is b c.args.target c.args.g c.args.last c.in_ok-status.status c.numbered.new.sends c.fresh.new.sends c.end_if.new.sends c.numbered-2.new.sends c.close.new.sends
    c.numbered.new.self c.fresh.new.self c.numbered-2.new.self c.in_ok-rest.rest
    status p1 s1 c.in_ok-fresh.ensures.path c.in_ok-fresh.ensures.sends c.in_ok-rest.ensures.rest c.in_ok-rest.ensures.sends q1 s4 c.in_ok-close.ensures
    ∙ ap {B = FreezeOut} (λ (x : Entity). freeze (record a { entity = x }) c.args.target c.args.g c.args.last) (same ∙ sym is)
