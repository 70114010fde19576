-- What an anchor does on its own account: it serves its bearer, opens, and gives it up.
use Rattle.std.proofs.Common.{ℕ, ◌≡◌, Bool, true, false, List, [], ◌∷◌, Option, Some, None, refl, ap, ◌∙◌}
use Rattle.std.specs.Prelude.{Err, Ok, Result, not}
use Rattle.dc_base.specs.declared.nodes.Node.{Node}
use Rattle.pdcp_tx.specs.Sender.{Sender}
use Rattle.pdcp_tx.specs.Sending.{give_numbers, take_sdu}
use Rattle.pdcp_tx.specs.declared.tx.TxErr.{TxErr}
use Rattle.node_rules.specs.Anchor.{Active, AnchorState, active_anchor, waiting_anchor}
use Rattle.node_rules.specs.AnchorSending.{anchor_recovers, anchor_sends, fail_scg, is_local, leg_send, open_if, opens, recover, recover_at, report, report_at, sent_by, submit, submit_as, submit_at, tunnel_send, unlock, with_failure, with_numbers, with_sends, with_tx}
use Rattle.node_rules.specs.Choices.{Choices, Send}
use Rattle.node_rules.specs.Entity.{Entity}
use Rattle.node_rules.specs.Sending.{send_counts, send_kept, send_report}
use Rattle.node_rules.specs.Setup.{Setup, host_of}
use Rattle.node_rules.specs.declared.bearers.AnchorOut.{AnchorOut}
use Rattle.node_rules.specs.declared.bearers.OnLeg.{OnLeg}
use Rattle.run_control.specs.Traffic.{Keeps, OnTraffic, Opens, Serves, keeps}
use Rattle.run_control.specs.Views.{Bearer, Stage, View, bearer_of, controls, holds}
use Rattle.run_control.proofs.Sent.{none_in_both, none_in_each}

-- a view by its parts
pub view_is : {b d : Bearer} {o q : Bool} (k : Stage) → b ≡ d → o ≡ q → ◌≡◌ {A = View} (record { bearer = b; opened = o; stage = k }) (record { bearer = d; opened = q; stage = k })
view_is {b} {d} {o} {q} k p r = ap (λ (x : Bearer). record { bearer = x; opened = o; stage = k }) p ∙ ap (λ (y : Bool). record { bearer = d; opened = y; stage = k }) r

-- ---- what goes on the legs is traffic

tunnel_none : (s : Setup) (p : OnLeg) (host : Option Node) → controls (tunnel_send s p host) ≡ []
tunnel_none s p None = refl
tunnel_none s p (Some host) = refl

leg_none : (s : Setup) (p : OnLeg) (own : Bool) → controls (leg_send s p own) ≡ []
leg_none s p true = refl
leg_none s p false = tunnel_none s p (host_of s)

-- the anchor with what its entity put on the legs
serves_with : (a : Active) (done : Entity × List OnLeg) → bearer_of done.0.setup ≡ bearer_of a.entity.setup → Serves a (with_sends a done)
serves_with a done same = record {
  bearer = same;
  opened = refl;
  sends = none_in_each (λ (p : OnLeg). leg_send a.entity.setup p (is_local a.entity.setup p)) (λ p. leg_none a.entity.setup p (is_local a.entity.setup p)) done.1;
}

-- what serves an anchor serves one that is the same but for its traffic
serves_as : (a b : Active) (done : Active × List Send) → bearer_of b.entity.setup ≡ bearer_of a.entity.setup → b.is_open ≡ a.is_open → Serves b done → Serves a done
serves_as a b done same opened is = record { bearer = is.bearer ∙ same; opened = is.opened ∙ opened; sends = is.sends }

-- nothing is done
idle : (a : Active) → Serves a (a, [])
idle a = record { bearer = refl; opened = refl; sends = refl }

pub sends_serves : (c : Choices) (a : Active) (cs : List ℕ) → Serves a (anchor_sends c a cs)
sends_serves c a cs = serves_with a (send_counts c a.entity cs) refl

recovers_serves : (c : Choices) (a : Active) → Serves a (anchor_recovers c a)
recovers_serves c a = serves_with a (send_kept c a.entity) refl

-- as a step of the anchor
pub served : (a : Active) (done : Active × List Send) → Serves a done → Keeps (active_anchor a) (sent_by done)
served a done is = record { stays = refl; view = view_is holds is.bearer is.opened; sends = is.sends }

-- what keeps an anchor is a case of what traffic does
pub kept : {a : AnchorState} {done : AnchorState × AnchorOut} → Keeps a done → OnTraffic a done
kept is = keeps is.stays is.view is.sends

-- ---- submissions, recoveries, failures and reports

submit_by : (c : Choices) (a : Active) (sdu : List ℕ) (r : Result (Sender × ℕ) TxErr) → Serves a (submit_as c a sdu r)
submit_by c a sdu (Ok (tx, count)) = serves_as a (with_tx a tx) (anchor_sends c (with_tx a tx) (count ∷ [])) refl refl (sends_serves c (with_tx a tx) (count ∷ []))
submit_by c a sdu (Err e) = record { bearer = refl; opened = refl; sends = refl }

submit_serves : (c : Choices) (a : Active) (sdu : List ℕ) (open' : Bool) → Serves a (submit_at open' c a sdu)
submit_serves c a sdu true = submit_by c a sdu (take_sdu a.entity.tx sdu)
submit_serves c a sdu false = record { bearer = refl; opened = refl; sends = refl }

pub submit_keeps : (c : Choices) (s : AnchorState) (sdu : List ℕ) → Keeps s (submit c s sdu)
submit_keeps c (waiting_anchor w) sdu = record { stays = refl; view = refl; sends = refl }
submit_keeps c (active_anchor a) sdu = served a (submit_at a.is_open c a sdu) (submit_serves c a sdu a.is_open)

recover_serves : (c : Choices) (a : Active) (open' : Bool) → Serves a (recover_at open' c a)
recover_serves c a true = recovers_serves c a
recover_serves c a false = idle a

pub recover_keeps : (c : Choices) (s : AnchorState) → Keeps s (recover c s)
recover_keeps c (waiting_anchor w) = record { stays = refl; view = refl; sends = refl }
recover_keeps c (active_anchor a) = served a (recover_at a.is_open c a) (recover_serves c a a.is_open)

pub fail_keeps : (c : Choices) (s : AnchorState) → Keeps s (fail_scg c s)
fail_keeps c (waiting_anchor w) = record { stays = refl; view = refl; sends = refl }
fail_keeps c (active_anchor a) =
    let b : Active = record a { entity = with_failure a.entity } in
    served a (recover_at a.is_open c b) (serves_as a b (recover_at a.is_open c b) refl refl (recover_serves c b a.is_open))

report_serves : (c : Choices) (a : Active) (open' : Bool) → Serves a (report_at open' c a)
report_serves c a true = serves_with a (send_report c a.entity) refl
report_serves c a false = idle a

pub report_keeps : (c : Choices) (s : AnchorState) → Keeps s (report c s)
report_keeps c (waiting_anchor w) = record { stays = refl; view = refl; sends = refl }
report_keeps c (active_anchor a) = served a (report_at a.is_open c a) (report_serves c a a.is_open)

-- ---- opening

numbers_serves : (c : Choices) (a : Active) (r : Result (Sender × List ℕ) TxErr) → Serves a (with_numbers c a r)
numbers_serves c a (Ok (tx, given)) = serves_as a (with_tx a tx) (anchor_sends c (with_tx a tx) given) refl refl (sends_serves c (with_tx a tx) given)
numbers_serves c a (Err e) = idle a

-- an anchor that opens serves as one that is open
opens_serves : (c : Choices) (a : Active) → Serves (record a { is_open = true }) (opens c a)
opens_serves c a =
    let again = anchor_recovers c (record a { is_open = true }) in
    let first = with_numbers c again.0 (give_numbers again.0.entity.tx) in
    let one = recovers_serves c (record a { is_open = true }) in
    let two = numbers_serves c again.0 (give_numbers again.0.entity.tx) in
    record { bearer = two.bearer ∙ one.bearer; opened = two.opened ∙ one.opened; sends = none_in_both again.1 first.1 one.sends two.sends }

-- it is open if it was to open
pub open_if_serves : (c : Choices) (a : Active) (open' : Bool) → a.is_open ≡ false → Serves (record a { is_open = open' }) (open_if open' c a)
open_if_serves c a true closed = opens_serves c a
open_if_serves c a false closed = record { bearer = refl; opened = closed; sends = refl }

-- the completion
unlock_by : (c : Choices) (a : Active) (was : Bool) → a.is_open ≡ was → Serves (record a { is_open = true }) (open_if (not was) c a)
unlock_by c a true opened = record { bearer = refl; opened = opened; sends = refl }
unlock_by c a false closed = opens_serves c a

pub unlock_opens : (c : Choices) (s : AnchorState) → Opens s (unlock c s)
unlock_opens c (waiting_anchor w) = record { stays = refl; view = refl; sends = refl }
unlock_opens c (active_anchor a) =
    let is = unlock_by c a a.is_open refl in
    record { stays = refl; view = view_is holds is.bearer is.opened; sends = is.sends }
