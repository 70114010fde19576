use Rattle.std.proofs.Common.{◌≡◌, ◌∙◌, None, Some, false, true, sym, ap, rules}
use Rattle.dc_base.specs.Links.{is_tunnel}
use Rattle.dc_base.specs.declared.events.Event.TheVariants.{Lose}
use Rattle.node_rules.specs.World.{flights_on}
use Rattle.made_scripts.specs.Turns.{own_place}
use Rattle.made_turns.proofs.Loaded.{no_own, no_tunnel, own_lost}
use Rattle.made_turns.proofs.losing.loss_on.Goals as goal

pub returns-then-not-is_tunnel : goal.returns-then-not-is_tunnel
returns-then-not-is_tunnel c =
    let other : is_tunnel c.args.link.class ≡ false = cc in
    sym (no_tunnel c.args.network.now.links c.args.link other)

pub returns-in_default : goal.returns-in_default
returns-in_default c =
    let tunnel : is_tunnel c.args.link.class ≡ true = cc in
    let none : own_place (flights_on c.args.link c.args.network.now.links) ≡ None = cc (c.own_place.ensures, c.in_default.is) in
    sym (no_own c.args.network.now.links c.args.link tunnel none)

pub returns : goal.returns
returns c =
    let tunnel : is_tunnel c.args.link.class ≡ true = cc in
    let found : own_place (flights_on c.args.link c.args.network.now.links) ≡ Some c.in-Some.place = cc (c.own_place.ensures, c.in-Some.is) in
    let same : c.in-Some.place ≡ c.in-Ok.index = search rules in
    sym (own_lost c.args.network.now.links c.args.link c.in-Some.place tunnel found ∙ ap (λ i. Some (Lose c.args.link i)) same)
