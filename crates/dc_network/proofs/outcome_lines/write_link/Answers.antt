use Rattle.std.proofs.Common.{◌≡◌, ◌++◌, ◌∙◌, [], ap, false, not, sym}
use Rattle.std.specs.Prelude.{map}
use Rattle.std.specs.List.{list_any}
use Rattle.std.proofs.lemmas.List.{append-nil}
use Rattle.dc_base.specs.Links.{is_same_link}
use Rattle.dc_base.specs.declared.events.Line.TheVariants as line
use Rattle.node_rules.specs.Choices.{Send}
use Rattle.dc_network.proofs.Splitting.{all_fail, none_pass}
use Rattle.dc_network.proofs.outcome_lines.write_link.Goals as goal

pub returns-then-not-has_send_on-clause-others : goal.returns-then-not-has_send_on-clause-others
returns-then-not-has_send_on-clause-others c =
    let none : list_any (λ (s : Send). is_same_link c.args.link s.0) c.args.sends.items ≡ false =
    cc (c.as_slice.ensures.value, c.has_send_on.ensures, c.if-not-has_send_on.true) in
    sym (all_fail (λ (s : Send). is_same_link c.args.link s.0) c.args.sends.items none)

pub returns-then-not-has_send_on-clause-written : goal.returns-then-not-has_send_on-clause-written
returns-then-not-has_send_on-clause-written c =
    let none : list_any (λ (s : Send). is_same_link c.args.link s.0) c.args.sends.items ≡ false =
    cc (c.as_slice.ensures.value, c.has_send_on.ensures, c.if-not-has_send_on.true) in
    sym (ap (λ xs. c.args.lines.now ++ map (λ (s : Send). line.Send s.0 s.1) xs) (none_pass (λ (s : Send). is_same_link c.args.link s.0) c.args.sends.items none) ∙ append-nil c.args.lines.now)
