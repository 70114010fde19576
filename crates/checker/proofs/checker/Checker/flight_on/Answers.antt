use Rattle.std.proofs.Common.{Option, Some, sym, ap, ◌∙◌, subst}
use Rattle.std.specs.Option.{option_map}
use Rattle.dc_base.specs.declared.flights.Flight.{Flight}
use Rattle.dc_base.specs.declared.nodes.LinkId.{LinkId}
use Rattle.checker.specs.Parts.{ArePartsOf, Parts}
use Rattle.checker.proofs.Deciding.{found_there}
use Rattle.checker.proofs.checker.Checker.flight_on.Goals as goal

-- it with the link
abbrev with_link : LinkId → Option Flight → Option (LinkId × Flight)
with_link l o = option_map (λ f. (l, f)) o

pub returns-in-None : goal.returns-in-None
returns-in-None c = λ p are.
    sym (found_there _ p c.args.link c.args.index (subst (λ (s : Parts). ArePartsOf s p) (sym c.self.view_is) are) ∙ ap (with_link c.args.link) (sym c.in-None.ensures))

pub returns-in_ok-copy-in-Some : goal.returns-in_ok-copy-in-Some
returns-in_ok-copy-in-Some c = λ p are.
    ap (λ (f : Flight). Some (c.args.link, f)) c.in_ok-copy-in-Some.ensures
    ∙ sym (found_there _ p c.args.link c.args.index (subst (λ (s : Parts). ArePartsOf s p) (sym c.self.view_is) are) ∙ ap (with_link c.args.link) (sym c.in-Some.ensures))
