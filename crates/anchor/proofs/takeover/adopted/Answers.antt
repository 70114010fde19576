use Rattle.std.proofs.Common.{ℕ, ◌≡◌, Bool, false, List, ap, sym, ◌∙◌}
use Rattle.pdcp_pdu.specs.Pdu.{Content}
use Rattle.pdcp_rx.specs.Entries.{Entry}
use Rattle.pdcp_tx.specs.Sender.{low}
use Rattle.split_leg.specs.Stored.{margins}
use Rattle.node_rules.specs.Anchor.{Active, new_tunnel}
use Rattle.node_rules.specs.AnchorSending.{open_if}
use Rattle.node_rules.specs.Choices.{Choices, Send, by_policies}
use Rattle.node_rules.specs.Entity.{Entity, risen, take_pdus}
use Rattle.node_rules.specs.Setup.{Setup}
use Rattle.anchor.proofs.Adoption.{adopted-is}
use Rattle.anchor.proofs.takeover.adopted.Goals as goal

pub returns : goal.returns
returns g c = λ w setup_is told_is pdus_is.
    let choices : Choices = by_policies (margins c.args.policies.now) in
    let after : Entity = c.take_pdus.new.entity in
    let closed : Active = record { entity = after; is_open = false; tunnel = new_tunnel after.setup.n } in
    let came = c.in_ok-ups.ensures ∙ ap {B = Entity × List Entry} (λ (xs : List Content). take_pdus c.args.entity xs) (sym pdus_is) in
    let opened = c.in_ok-sends.ensures ∙ ap {B = Active × List Send} (λ (x : Active). open_if c.args.is_told choices x) c.closed-active.ensures
    ∙ ap {B = Active × List Send} (λ (b : Bool). open_if b choices closed) (sym told_is) in
    let rose = c.risen-low.ensures ∙ ap (λ (k : ℕ). risen k c.low.result) c.low-before.ensures ∙ ap (λ (k : ℕ). risen (low c.args.entity.tx) k) c.low.ensures in
    let there = adopted-is choices w c.args.entity after c.in_ok-ups.ups c.open_if.new.self c.in_ok-sends.sends (ap (λ (s : Setup). s.n) setup_is) came opened in
    rw rose there
