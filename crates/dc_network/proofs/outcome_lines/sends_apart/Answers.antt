use Rattle.std.proofs.Common.{◌≡◌, ◌++◌, ◌∷◌, ◌||◌, ◌∙◌, [], ap, false, sym, true}
use Rattle.std.specs.List.{list_any}
use Rattle.node_rules.specs.Choices.{Send}
use Rattle.node_rules.specs.Lines.{opens_release}
use Rattle.dc_network.proofs.Splitting.{after_none, any-push, before_none, before_one, idle_not, idle_one, other_not, other_one}
use Rattle.dc_network.proofs.outcome_lines.sends_apart.Goals as goal

pub loop-link-preserved-in-Continue-1 : goal.loop-link-preserved-in-Continue-1
loop-link-preserved-in-Continue-1 c =
    let x : Send = (c.in-Some.link, c.in-Some.flight) in
    let flag = c.has_begun-begun.ensures.value c.in-Some.link ∙ ap (λ b. b || opens_release x) c.loop-link.invariant.flag in
    let still : (list_any opens_release c.loop-link.yielded || opens_release x) ≡ false = sym flag ∙ c.if-not-begun.true in
    record {
      flag = flag ∙ sym (any-push opens_release c.loop-link.yielded x);
      front = c.in_ok-push.ensures.items ∙ ap (λ zs. zs ++ x ∷ []) c.loop-link.invariant.front ∙ sym (before_one c.loop-link.yielded x still);
      idle = c.loop-link.invariant.idle ∙ sym (idle_not c.loop-link.yielded x (c.has_begun-begun.ensures.idle c.in-Some.link c.if-not-begun.true));
      back = c.loop-link.invariant.back ∙ sym (before_none c.loop-link.yielded x still);
    }

pub loop-link-preserved-in-Continue-branch-2 : goal.loop-link-preserved-in-Continue-branch-2
loop-link-preserved-in-Continue-branch-2 c =
    let x : Send = (c.in-Some.link, c.in-Some.flight) in
    let flag = c.has_begun-begun.ensures.value c.in-Some.link ∙ ap (λ b. b || opens_release x) c.loop-link.invariant.flag in
    let begun : (list_any opens_release c.loop-link.yielded || opens_release x) ≡ true = sym flag ∙ c.if-not-begun.false in
    let idle = sym (c.is_idle_release.ensures c.in-Some.link) ∙ c.if-is_idle_release.true in
    record {
      flag = flag ∙ sym (any-push opens_release c.loop-link.yielded x);
      front = c.loop-link.invariant.front ∙ sym (after_none c.loop-link.yielded x begun);
      idle = c.in_ok-push-2.ensures.items ∙ ap (λ zs. zs ++ x ∷ []) c.loop-link.invariant.idle ∙ sym (idle_one c.loop-link.yielded x idle);
      back = c.loop-link.invariant.back ∙ sym (other_not c.loop-link.yielded x begun idle);
    }

pub loop-link-preserved : goal.loop-link-preserved
loop-link-preserved c =
    let x : Send = (c.in-Some.link, c.in-Some.flight) in
    let flag = c.has_begun-begun.ensures.value c.in-Some.link ∙ ap (λ b. b || opens_release x) c.loop-link.invariant.flag in
    let begun : (list_any opens_release c.loop-link.yielded || opens_release x) ≡ true = sym flag ∙ c.if-not-begun.false in
    let other = sym (c.is_idle_release.ensures c.in-Some.link) ∙ c.if-is_idle_release.false in
    record {
      flag = flag ∙ sym (any-push opens_release c.loop-link.yielded x);
      front = c.loop-link.invariant.front ∙ sym (after_none c.loop-link.yielded x begun);
      idle = c.loop-link.invariant.idle ∙ sym (idle_not c.loop-link.yielded x other);
      back = c.in_ok-push-3.ensures.items ∙ ap (λ zs. zs ++ x ∷ []) c.loop-link.invariant.back ∙ sym (other_one c.loop-link.yielded x begun other);
    }
