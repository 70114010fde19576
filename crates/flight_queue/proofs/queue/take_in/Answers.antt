use Rattle.std.proofs.Common.{◌≡◌, ◌∙◌, [], ap, arith, length, remove, slice_set, sym}
use Rattle.std.proofs.lemmas.List.{get_or-set_same, get_or_default, length-set, nil_from_length}
use Rattle.flight_queue.proofs.Places.{take_last}
use Rattle.flight_queue.proofs.queue.take_in.Goals as goal

pub returns-then-len-eq0-clause-rest : goal.returns-then-len-eq0-clause-rest
returns-then-len-eq0-clause-rest c =
    take_last c.args.runs.now.items c.remove-empty.new.self.items c.args.run c.args.place c.take-flight.new.self c.requires.run
    (c.take-flight.ensures.rest ∙ ap (λ r. remove r c.args.place) (c.index_mut.ensures.value ∙ get_or_default c.args.runs.now.items c.args.run c.index_mut.result.now [] c.requires.run))
    (nil_from_length c.take-flight.new.self (ap length (sym (get_or-set_same c.args.runs.now.items c.args.run c.take-flight.new.self [] c.requires.run)) ∙ sym (c.len.ensures ∙ ap length (c.index.ensures ∙ get_or_default (slice_set c.args.runs.now.items c.args.run c.take-flight.new.self) c.args.run c.index.result.now []
    (let same = length-set c.args.runs.now.items c.args.run c.take-flight.new.self in let less = c.requires.run in omega (arith, same, less)))) ∙ c.if-len-eq0.true)) c.remove-empty.ensures.items
