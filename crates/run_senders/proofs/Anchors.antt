-- What an anchor sends on its own account, and as it gives its bearer up, begins at its node.
use Rattle.std.proofs.Common.{ℕ, ◌≡◌, ◌+◌, Bool, true, false, List, [], ◌∷◌, Option, Some, None, length, refl, subst, ◌∙◌}
use Rattle.std.specs.Prelude.{Err, Ok, Result, not}
use Rattle.dc_base.specs.Tunnel.{teid}
use Rattle.dc_base.specs.declared.nodes.Node.{Node}
use Rattle.forward.specs.Load.{Sdu}
use Rattle.pdcp_tx.specs.Sender.{Sender}
use Rattle.pdcp_tx.specs.Sending.{give_numbers, take_sdu}
use Rattle.pdcp_tx.specs.declared.tx.TxErr.{TxErr}
use Rattle.transcript.proofs.OnEach.{each_append}
use Rattle.node_rules.specs.Anchor.{Active, AnchorState, active_anchor, waiting_anchor}
use Rattle.node_rules.specs.AnchorSending.{anchor_recovers, anchor_sends, fail_scg, is_local, leg_send, open_if, opens, recover, recover_at, report, report_at, sent_by, submit, submit_as, submit_at, tunnel_send, unlock, with_failure, with_numbers, with_sends, with_tx}
use Rattle.node_rules.specs.Choices.{Choices, Send}
use Rattle.node_rules.specs.Entity.{Entity}
use Rattle.node_rules.specs.Freezing.{Tunnel, closing, down_sdus, down_sends, freeze, new_tunnel, pieces, rest_of, up_sdus, whole_tunnel}
use Rattle.node_rules.specs.Sending.{send_counts, send_kept, send_report}
use Rattle.node_rules.specs.Setup.{Setup, host_of}
use Rattle.node_rules.specs.declared.bearers.OnLeg.{OnLeg}
use Rattle.run_words.specs.Senders.{AreBy, IsBy}
use Rattle.run_words.proofs.Lines.{each_flat}
use Rattle.run_senders.specs.Holders.{IfThere, Serves, Stays}

-- ---- on its legs

by_tunnel : (s : Setup) (p : OnLeg) (host : Option Node) → AreBy s.node (tunnel_send s p host)
by_tunnel s p None = tt
by_tunnel s p (Some host) = ((refl, refl), tt)

by_leg : (s : Setup) (p : OnLeg) (own : Bool) → AreBy s.node (leg_send s p own)
by_leg s p true = ((refl, refl), tt)
by_leg s p false = by_tunnel s p (host_of s)

-- what its entity put on the legs
serves_with : (a : Active) (done : Entity × List OnLeg) → done.0.setup.node ≡ a.entity.setup.node → Serves a (with_sends a done)
serves_with a done same = record {
  node = same;
  by = each_flat (IsBy a.entity.setup.node) (λ (p : OnLeg). leg_send a.entity.setup p (is_local a.entity.setup p)) done.1
      (λ p. by_leg a.entity.setup p (is_local a.entity.setup p));
}

-- nothing is done
idle : (a : Active) → Serves a (a, [])
idle a = record { node = refl; by = tt }

pub sends_serves : (c : Choices) (a : Active) (cs : List ℕ) → Serves a (anchor_sends c a cs)
sends_serves c a cs = serves_with a (send_counts c a.entity cs) refl

recovers_serves : (c : Choices) (a : Active) → Serves a (anchor_recovers c a)
recovers_serves c a = serves_with a (send_kept c a.entity) refl

-- what serves an anchor at the same node
serves_as : (a b : Active) (done : Active × List Send) → b.entity.setup.node ≡ a.entity.setup.node → Serves b done → Serves a done
serves_as a b done same is = record { node = is.node ∙ same; by = subst (λ x. AreBy x done.1) same is.by }

served : (a : Active) (done : Active × List Send) → Serves a done → Stays (active_anchor a) (sent_by done)
served a done is = record { node = is.node; by = is.by }

-- ---- submissions, recoveries, failures and reports

submit_by : (c : Choices) (a : Active) (sdu : List ℕ) (r : Result (Sender × ℕ) TxErr) → Serves a (submit_as c a sdu r)
submit_by c a sdu (Ok (tx, count)) = serves_as a (with_tx a tx) (anchor_sends c (with_tx a tx) (count ∷ [])) refl (sends_serves c (with_tx a tx) (count ∷ []))
submit_by c a sdu (Err e) = record { node = refl; by = tt }

submit_serves : (c : Choices) (a : Active) (sdu : List ℕ) (open' : Bool) → Serves a (submit_at open' c a sdu)
submit_serves c a sdu true = submit_by c a sdu (take_sdu a.entity.tx sdu)
submit_serves c a sdu false = record { node = refl; by = tt }

pub submit_stays : (c : Choices) (s : AnchorState) (sdu : List ℕ) → Stays s (submit c s sdu)
submit_stays c (waiting_anchor w) sdu = record { node = refl; by = tt }
submit_stays c (active_anchor a) sdu = served a (submit_at a.is_open c a sdu) (submit_serves c a sdu a.is_open)

recover_serves : (c : Choices) (a : Active) (open' : Bool) → Serves a (recover_at open' c a)
recover_serves c a true = recovers_serves c a
recover_serves c a false = idle a

pub recover_stays : (c : Choices) (s : AnchorState) → Stays s (recover c s)
recover_stays c (waiting_anchor w) = record { node = refl; by = tt }
recover_stays c (active_anchor a) = served a (recover_at a.is_open c a) (recover_serves c a a.is_open)

pub fail_stays : (c : Choices) (s : AnchorState) → Stays s (fail_scg c s)
fail_stays c (waiting_anchor w) = record { node = refl; by = tt }
fail_stays c (active_anchor a) =
    let b : Active = record a { entity = with_failure a.entity } in
    served a (recover_at a.is_open c b) (serves_as a b (recover_at a.is_open c b) refl (recover_serves c b a.is_open))

report_serves : (c : Choices) (a : Active) (open' : Bool) → Serves a (report_at open' c a)
report_serves c a true = serves_with a (send_report c a.entity) refl
report_serves c a false = idle a

pub report_stays : (c : Choices) (s : AnchorState) → Stays s (report c s)
report_stays c (waiting_anchor w) = record { node = refl; by = tt }
report_stays c (active_anchor a) = served a (report_at a.is_open c a) (report_serves c a a.is_open)

-- ---- opening

numbers_serves : (c : Choices) (a : Active) (r : Result (Sender × List ℕ) TxErr) → Serves a (with_numbers c a r)
numbers_serves c a (Ok (tx, given)) = serves_as a (with_tx a tx) (anchor_sends c (with_tx a tx) given) refl (sends_serves c (with_tx a tx) given)
numbers_serves c a (Err e) = idle a

opens_serves : (c : Choices) (a : Active) → Serves a (opens c a)
opens_serves c a =
    let again = anchor_recovers c (record a { is_open = true }) in
    let first = with_numbers c again.0 (give_numbers again.0.entity.tx) in
    let one = recovers_serves c (record a { is_open = true }) in
    let two = numbers_serves c again.0 (give_numbers again.0.entity.tx) in
    record { node = two.node ∙ one.node; by = each_append (IsBy a.entity.setup.node) again.1 first.1 one.by (subst (λ x. AreBy x first.1) one.node two.by) }

pub open_if_serves : (c : Choices) (a : Active) (open' : Bool) → Serves a (open_if open' c a)
open_if_serves c a true = opens_serves c a
open_if_serves c a false = idle a

pub unlock_stays : (c : Choices) (s : AnchorState) → Stays s (unlock c s)
unlock_stays c (waiting_anchor w) = record { node = refl; by = tt }
unlock_stays c (active_anchor a) = served a (open_if (not a.is_open) c a) (open_if_serves c a (not a.is_open))

-- ---- as it is frozen

pub by_pieces : (t : Tunnel) (teid' number : ℕ) (sdus : List Sdu) → AreBy t.node (pieces t teid' number sdus)
by_pieces t teid' number [] = tt
by_pieces t teid' number (s ∷ ss) = ((refl, refl), by_pieces t teid' (number + 1) ss)

pub by_closing : (t : Tunnel) (teid' total : ℕ) → AreBy t.node (closing t teid' total)
by_closing t teid' total = ((refl, refl), ((refl, refl), tt))

by_whole : (t : Tunnel) (teid' : ℕ) (sdus : List Sdu) → AreBy t.node (whole_tunnel t teid' sdus)
by_whole t teid' sdus = each_append (IsBy t.node) (pieces t teid' 0 sdus) (closing t teid' (length sdus)) (by_pieces t teid' 0 sdus) (by_closing t teid' (length sdus))

by_down : (t : Tunnel) (last : Bool) (sdus : List Sdu) → AreBy t.node (down_sends t last sdus)
by_down t true sdus = by_whole t (teid t.g t.id 1) sdus
by_down t false sdus = by_pieces t (teid t.g t.id 1) 0 sdus

pub by_freeze : (a : Active) (target : Node) (g : ℕ) (last : Bool) → AreBy a.entity.setup.node (freeze a target g last).sends
by_freeze a target g last =
    let t = new_tunnel a.entity target g in
    each_append (IsBy a.entity.setup.node) (down_sends t last (down_sdus a.entity)) (whole_tunnel t (teid g a.entity.setup.id 2) (up_sdus a.entity))
    (by_down t last (down_sdus a.entity)) (by_whole t (teid g a.entity.setup.id 2) (up_sdus a.entity))

-- what stays open begins at the same node
rest_there : (t : Tunnel) (last : Bool) (number : ℕ) → IfThere (λ (r : Tunnel). r.node ≡ t.node) (rest_of t last number)
rest_there t true number = tt
rest_there t false number = refl

pub freeze_there : (a : Active) (target : Node) (g : ℕ) (last : Bool) → IfThere (λ (r : Tunnel). r.node ≡ a.entity.setup.node) (freeze a target g last).rest
freeze_there a target g last = rest_there (new_tunnel a.entity target g) last (length (down_sdus a.entity))
