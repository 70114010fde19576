use Rattle.std.proofs.Common.{ℕ, ◌≡◌, ◌++◌, ◌∷◌, [], List, Ok, ap, sym, subst, ◌∙◌}
use Rattle.dc_base.specs.declared.numbers.SnLen.{SnLen}
use Rattle.pdcp_pdu.specs.Pdu.{content, decoded, outcome}
use Rattle.node_rules.specs.Anchor.{Waiting}
use Rattle.anchor.specs.Readable.{readable}
use Rattle.anchor.proofs.Kept.{kept_pdu-ok, readable-more}
use Rattle.anchor.proofs.waiting.WaitingAnchor.keep.Goals as goal

pub returns-in_ok-push-in-Ok : goal.returns-in_ok-push-in-Ok
returns-in_ok-push-in-Ok c =
    let n = c.self.inside.setup.n in
    let w : Waiting = record {
      setup = c.self.inside.setup;
      is_told = c.self.inside.is_told;
      transfer = c.self.inside.transfer;
      down = c.self.inside.down;
      up = c.self.inside.up;
      pdus = readable n c.self.inside.pdus;
      fresh = c.self.inside.fresh;
    } in
    let said : decoded n c.args.pdu.now ≡ Ok (content c.in-Ok.field-0) =
    subst (λ (m : SnLen). decoded m c.args.pdu.now ≡ Ok (content c.in-Ok.field-0)) c.n.ensures (sym c.decode.ensures.exact ∙ ap outcome c.in-Ok.is) in
    let pushed = c.in_ok-push-in-Ok.ensures.ok ∙ ap (λ (o : List ℕ). c.self.inside.pdus ++ o ∷ []) c.in_ok-pdu-in-Ok.ensures in
    let more = ap (λ (xs : List (List ℕ)). readable n xs) pushed ∙ readable-more n c.self.inside.pdus c.args.pdu.now (content c.in-Ok.field-0) said in
    rw (← c.self.view_is) (kept_pdu-ok w (decoded n c.args.pdu.now) (content c.in-Ok.field-0) (readable n c.push.new.self) said more)
