use Rattle.std.proofs.Common.{◌≡◌, ◌∙◌, ℕ, Bool, List, not, rules, ap}
use Rattle.std.specs.BTreeSet.{contains as has}
use Rattle.std.specs.List.{filter}
use Rattle.std.specs.Ordering.{nat_cmp}
use Rattle.std.proofs.lemmas.List.Elements.{filter_agree}
use Rattle.nr_u.specs.Tunnel.Incoming.{contains}
use Rattle.node_rules.specs.Entity.{Entity}
use Rattle.pdcp_tx.specs.Sender.{counts}
use Rattle.pdcp_entity.proofs.Confirmed.{confirmed_all, confirmed_tx}
use Rattle.pdcp_entity.proofs.Payloads.{payloads_stay}
use Rattle.pdcp_entity.proofs.entity.PdcpEntity.confirm_all.Goals as goal

pub invariant_of-self : goal.invariant_of-self
invariant_of-self c =
    let e = c.self.inside in
    let v = c.self.invariant in
    let test : ℕ → Bool = λ n. contains n c.args.counts.now in
    let agree = filter_agree (has nat_cmp c.in_ok-set_of.field-0) test c.in_ok-set_of.ensures c.as_slice.result.now in
    let kept : c.as_slice.result.now ≡ counts e.tx.kept = first_of (cc, search rules) in
    let named : c.as_slice-3.result.now ≡ filter (has nat_cmp c.in_ok-set_of.field-0) c.as_slice.result.now = first_of (cc, search rules) in
    let tx = confirmed_tx test e.tx c.drop_each.new.tx c.as_slice-3.result.now (named ∙ agree ∙ ap (λ (cs : List ℕ). filter test cs) kept) c.drop_each.ensures in
    let stay = payloads_stay (λ x. not (test x.0)) e.tx.kept v.2 in
    rw (tx, c.settle_each.ensures) (v.0, v.1, stay, v.3)

pub returns : goal.returns
returns c =
    let e = c.self.inside in
    let test : ℕ → Bool = λ n. contains n c.args.counts.now in
    let agree = filter_agree (has nat_cmp c.in_ok-set_of.field-0) test c.in_ok-set_of.ensures c.as_slice.result.now in
    let kept : c.as_slice.result.now ≡ counts e.tx.kept = first_of (cc, search rules) in
    let named : c.as_slice-3.result.now ≡ filter (has nat_cmp c.in_ok-set_of.field-0) c.as_slice.result.now = first_of (cc, search rules) in
    let same : c.as_slice-2.result.now ≡ c.as_slice-3.result.now = first_of (cc, search rules) in
    let settled = rw same at c.settle_each.ensures in
    let whole : Entity = record { setup = e.setup; tx = e.tx; rx = e.rx } in
    rw (← c.self.view_is)
    (confirmed_all test whole c.settle_each.new.self c.drop_each.new.tx c.as_slice-3.result.now (named ∙ agree ∙ ap (λ (cs : List ℕ). filter test cs) kept) settled c.drop_each.ensures)
