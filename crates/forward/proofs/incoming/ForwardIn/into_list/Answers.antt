use Rattle.std.proofs.lemmas.Result.{IfOk-weaker}
use Rattle.forward.proofs.Arrivals.{one_list, list_of, list_sent}
use Rattle.forward.proofs.incoming.ForwardIn.into_list.Goals as goal

pub returns-clause-only : goal.returns-clause-only
returns-clause-only c list is = IfOk-weaker c.list_if_done.result _ _ (λ made h. one_list c.args.self made list h is) c.list_if_done.ensures.list

pub returns-clause-sent : goal.returns-clause-sent
returns-clause-sent c t end done = list_of t c.args.self end done

pub returns-clause-whatever_came : goal.returns-clause-whatever_came
returns-clause-whatever_came c = IfOk-weaker c.list_if_done.result _ _ (λ made h. list_sent c.args.self made h) c.list_if_done.ensures.list
