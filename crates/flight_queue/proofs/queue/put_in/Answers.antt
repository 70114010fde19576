use Rattle.std.proofs.Common.{◌≡◌, ◌∙◌, ◌++◌, ◌∷◌, [], ◌-◌, ap, length, slice_set}
use Rattle.flight_queue.specs.Runs.{joined}
use Rattle.flight_queue.proofs.Places.{if_ok, put_at, put_new}
use Rattle.flight_queue.proofs.queue.put_in.Goals as goal

pub returns-then-len-lt-MOST-clause-put : goal.returns-then-len-lt-MOST-clause-put
returns-then-len-lt-MOST-clause-put c =
    let count = length c.as_slice-count.result.now in
    if_ok c.put.result (c.put.new.self ≡ c.index_mut.result.now ++ c.args.flight ∷ [])
    (joined (slice_set c.args.runs.now.items (count - 1) c.put.new.self) ≡ joined c.args.runs.now.items ++ c.args.flight ∷ [])
    (λ put. put_at c.args.runs.now.items count c.index_mut.result.now c.put.new.self c.args.flight (ap length c.as_slice-count.ensures.value) c.if-count-gt0.true c.index_mut.ensures.value put) c.put.ensures.put

pub returns-clause-put : goal.returns-clause-put
returns-clause-put c =
    ap joined c.in_ok-push.ensures.items
    ∙ ap (λ r. joined (c.args.runs.now.items ++ r ∷ [])) (c.in_ok-put.ensures.put ∙ ap (λ r. r ++ c.args.flight ∷ []) c.new-run.ensures)
    ∙ put_new c.args.runs.now.items c.args.flight
