use Rattle.std.proofs.Common.{◌++◌, ◌∙◌, ap, arith, get_or}
use Rattle.dc_base.specs.declared.nodes.Class.TheVariants.{Ctl}
use Rattle.dc_base.specs.declared.nodes.LinkId.{LinkId}
use Rattle.dc_base.specs.declared.nodes.Node.TheVariants.{T}
use Rattle.node_rules.specs.Lines.{sends_on}
use Rattle.dc_network.proofs.Ordering.{sends_on-left, written_more}
use Rattle.dc_network.proofs.outcome_lines.write_links.Goals as goal

pub loop-link-preserved : goal.loop-link-preserved
loop-link-preserved c =
    let none : LinkId = record { from = T; to = T; class = Ctl } in
    let link : LinkId = get_or c.args.links.now c.loop-link.link-index none in
    let here = c.loop-link.invariant.ahead c.loop-link.link-index none (omega arith) c.loop-link-test.true in
    record {
      ahead = λ k d from below.
          rw c.in_ok-left.ensures.others (
          sends_on-left c.loop-link.left.items link (get_or c.args.links.now k d) (c.requires c.loop-link.link-index k d none (omega arith) below)
          ∙ c.loop-link.invariant.ahead k d (omega arith) below
          );
      written = c.in_ok-left.ensures.written ∙ ap (λ zs. c.loop-link.lines ++ zs) here
          ∙ written_more (sends_on c.args.sends.items) c.args.lines.now c.loop-link.lines c.args.links.now c.loop-link.link-index none c.loop-link-test.true c.loop-link.invariant.written;
    }
