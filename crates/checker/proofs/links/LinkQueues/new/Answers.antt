use Rattle.std.proofs.Common.{◌≡◌, ◌++◌, List, [], ◌∷◌, length, slice_index_or, ap, ◌∙◌, arith}
use Rattle.std.proofs.lemmas.List.{length_push}
use Rattle.dc_base.specs.Links.{link_number}
use Rattle.dc_base.specs.declared.flights.Flight.{Flight}
use Rattle.checker.specs.Parts.{Queues}
use Rattle.checker.proofs.Deciding.{empty_more}
use Rattle.checker.proofs.links.LinkQueues.new.Goals as goal

pub loop-place-preserved : goal.loop-place-preserved
loop-place-preserved c =
    let old : Queues = c.loop-place.queues.items in
    let is : c.push.new.self.items ≡ old ++ [] ∷ [] = c.in_ok-push.ensures.items ∙ ap (λ (q : List Flight). old ++ q ∷ []) c.new.ensures in
    let long : length c.push.new.self.items ≡ length (old ++ [] ∷ []) = ap (λ (qs : Queues). length qs) is in (
      omega (arith, long, length_push old [], c.loop-place.invariant.0),
      λ n. ap (λ (qs : Queues). slice_index_or qs n []) is ∙ empty_more old c.loop-place.invariant.1 n,
    )

pub returns : goal.returns
returns c = λ l. c.loop-place.invariant.1 (link_number l)
