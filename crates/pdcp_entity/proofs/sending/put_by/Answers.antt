use Rattle.std.proofs.Common.{◌≡◌, ◌++◌, [], ◌∷◌, append_assoc}
use Rattle.std.proofs.lemmas.Result.{on_ok_weaker}
use Rattle.node_rules.specs.Sending.{put_by}
use Rattle.split_leg.specs.Legs.{is_repeat}
use Rattle.pdcp_entity.proofs.Repeats.{both, on_ok}
use Rattle.pdcp_entity.proofs.sending.put_by.Goals as goal

pub returns-in_ok-put_on-in-Both-2-clause-legs : goal.returns-in_ok-put_on-in-Both-2-clause-legs
returns-in_ok-put_on-in-Both-2-clause-legs c =
    let done = both c.args.legs.now c.put_on-in-Both.new.legs c.put_on-in-Both-2.new.legs c.args.tag c.args.pdu c.in_ok-copy-in-Both.field-0 c.in_ok-put_on-in-Both.field-0 c.in_ok-put_on-in-Both-2.field-0
    c.requires.ended (c.in_ok-copy-in-Both.ensures) c.in_ok-put_on-in-Both.ensures c.in_ok-put_on-in-Both-2.ensures in
    rw c.in-Both.is (on_ok c.push-in-Both-2.result _ done.0)

pub returns-in_ok-put_on-in-Both-2-clause-put : goal.returns-in_ok-put_on-in-Both-2-clause-put
returns-in_ok-put_on-in-Both-2-clause-put c =
    let done = both c.args.legs.now c.put_on-in-Both.new.legs c.put_on-in-Both-2.new.legs c.args.tag c.args.pdu c.in_ok-copy-in-Both.field-0 c.in_ok-put_on-in-Both.field-0 c.in_ok-put_on-in-Both-2.field-0
    c.requires.ended (c.in_ok-copy-in-Both.ensures) c.in_ok-put_on-in-Both.ensures c.in_ok-put_on-in-Both-2.ensures in
    let one = c.in_ok-put_on-in-Both.field-0 in
    let two = c.in_ok-put_on-in-Both-2.field-0 in
    let joined : (c.push-in-Both-2.new.self ≡ c.push-in-Both.new.self ++ two ∷ []) → (c.push-in-Both-2.new.self ≡ c.args.put.now ++ (put_by c.args.route (is_repeat c.args.legs.now c.args.tag) (c.args.tag, c.args.pdu) c.args.legs.now).1) =
    λ e. rw (c.in-Both.is, e, c.in_ok-push-in-Both.ensures.ok, ← done.1) (append_assoc c.args.put.now (one ∷ []) (two ∷ [])) in
    on_ok_weaker c.push-in-Both-2.result joined c.push-in-Both-2.ensures.ok
