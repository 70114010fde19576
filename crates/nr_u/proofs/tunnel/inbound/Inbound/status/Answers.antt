use Rattle.std.proofs.Common.{◌≡◌, ℕ, take, List, Option, Some, None, refl, sym, ap, subst, ◌∙◌}
use Rattle.nr_u.specs.declared.frame.Frame.{Frame}
use Rattle.nr_u.specs.declared.frame.Frame.TheVariants.{Status}
use Rattle.nr_u.specs.Frames.{IsWritable}
use Rattle.nr_u.specs.Tunnel.Incoming.{Incoming, listed}
use Rattle.nr_u.specs.Tunnel.Delivery.{status_of}
use Rattle.nr_u.proofs.Law.{status_writable}
use Rattle.nr_u.proofs.Settled.{told_some, told_none}
use Rattle.nr_u.proofs.tunnel.inbound.Inbound.status.Goals as goal

pub returns-in-Some-clause-frame : goal.returns-in-Some-clause-frame
returns-in-Some-clause-frame c =
    let highest = told_some (λ a. a.sn) _ c.in-Some.arrival (sym c.in-Some.is ∙ c.named-named.ensures.found) in
    let gaps = c.in_ok-lost.ensures ∙ ap (take 168) c.self.invariant.gaps_are ∙ ap (λ (i : Incoming). listed i.came) c.self.view_is in
    rw (gaps, highest) refl

pub returns-in-Some-clause-tag : goal.returns-in-Some-clause-tag
returns-in-Some-clause-tag c =
    told_some (λ a. a.tag) _ c.in-Some.arrival (sym c.in-Some.is ∙ c.named-named.ensures.found)

pub returns-in-Some-clause-writable : goal.returns-in-Some-clause-writable
returns-in-Some-clause-writable c =
    let highest = told_some (λ a. a.sn) _ c.in-Some.arrival (sym c.in-Some.is ∙ c.named-named.ensures.found) in
    let gaps = c.in_ok-lost.ensures ∙ ap (take 168) c.self.invariant.gaps_are ∙ ap (λ (i : Incoming). listed i.came) c.self.view_is in
    let same : Status c.in-Some.arrival.sn c.in_ok-lost.lost ≡ status_of c.args.self.now = rw (gaps, highest) refl in
    let inside : Incoming = record { n = c.self.inside.n; came = c.self.inside.came.entries; unacked = c.self.inside.unacked.keys } in
    subst (λ (f : Frame). IsWritable f) (sym same) (subst (λ (i : Incoming). IsWritable (status_of i)) c.self.view_is (status_writable inside _ _ _ c.self.invariant))

pub returns-in-None-clause-frame : goal.returns-in-None-clause-frame
returns-in-None-clause-frame c =
    let highest = told_none (λ a. a.sn) _ (sym c.in-None.is ∙ c.named-named.ensures.found) in
    let gaps = c.in_ok-lost.ensures ∙ ap (take 168) c.self.invariant.gaps_are ∙ ap (λ (i : Incoming). listed i.came) c.self.view_is in
    rw (gaps, highest) refl

pub returns-in-None-clause-tag : goal.returns-in-None-clause-tag
returns-in-None-clause-tag c =
    c.none.ensures ∙ told_none (λ a. a.tag) _ (sym c.in-None.is ∙ c.named-named.ensures.found)

pub returns-in-None-clause-writable : goal.returns-in-None-clause-writable
returns-in-None-clause-writable c =
    let highest = told_none (λ a. a.sn) _ (sym c.in-None.is ∙ c.named-named.ensures.found) in
    let gaps = c.in_ok-lost.ensures ∙ ap (take 168) c.self.invariant.gaps_are ∙ ap (λ (i : Incoming). listed i.came) c.self.view_is in
    let none : Option ℕ = None in
    let same : Status none c.in_ok-lost.lost ≡ status_of c.args.self.now = rw (gaps, highest) refl in
    let inside : Incoming = record { n = c.self.inside.n; came = c.self.inside.came.entries; unacked = c.self.inside.unacked.keys } in
    subst (λ (f : Frame). IsWritable f) (sym same) (subst (λ (i : Incoming). IsWritable (status_of i)) c.self.view_is (status_writable inside _ _ _ c.self.invariant))
