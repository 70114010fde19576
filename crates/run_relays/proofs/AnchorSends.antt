-- What anchors and frozen anchors send on their own account is no uplink PDU, and what a waiting anchor keeps stays.
use Rattle.std.proofs.Common.{ℕ, ◌++◌, ◌&&◌, ◌+◌, ◌==◌, Bool, true, false, List, [], ◌∷◌, Option, Some, None, refl}
use Rattle.std.specs.Prelude.{Ok, Err, Result, if◌then◌else◌, length, nat_le, nat_lt, not}
use Rattle.std.specs.List.{AllByRecursion, flat_map}
use Rattle.dc_base.specs.Tunnel.{teid}
use Rattle.dc_base.specs.declared.nodes.Node.{Node}
use Rattle.forward.specs.Load.{Sdu}
use Rattle.forward.specs.Outgoing.{end_marker, sdu_packet, total_packet}
use Rattle.gtpu.specs.declared.packet.GtpKind.TheVariants.{GPdu}
use Rattle.nr_u.specs.Frames.{written}
use Rattle.nr_u.specs.declared.frame.Frame.TheVariants.{User}
use Rattle.pdcp_pdu.specs.Pdu.{Content}
use Rattle.pdcp_tx.specs.Sender.{Sender}
use Rattle.pdcp_tx.specs.Sending.{give_numbers, take_sdu}
use Rattle.pdcp_tx.specs.declared.tx.TxErr.{TxErr}
use Rattle.transcript.proofs.OnEach.{each_append}
use Rattle.node_rules.specs.Anchor.{Active, AnchorState, active_anchor, waiting_anchor}
use Rattle.node_rules.specs.AnchorSending.{anchor_recovers, anchor_sends, fail_scg, leg_send, is_local, open_if, opens, recover, recover_at, report, report_at, submit, submit_as, submit_at, tunnel_send, unlock, with_failure, with_numbers, with_sends, with_tx}
use Rattle.node_rules.specs.Choices.{Choices, Send}
use Rattle.node_rules.specs.Entity.{Entity}
use Rattle.node_rules.specs.Feed.{Frozen, frozen_end_in, frozen_sdu_in}
use Rattle.node_rules.specs.Freezing as freezing
use Rattle.node_rules.specs.Freezing.{Tunnel, closing, down_sdus, down_sends, forward_end, forward_fresh, freeze, pieces, up_sdus, whole_tunnel}
use Rattle.node_rules.specs.Packets.{own_packet}
use Rattle.node_rules.specs.Sending.{send_counts, send_kept, send_report}
use Rattle.node_rules.specs.Setup.{Setup, host_of, with_failed_scg}
use Rattle.node_rules.specs.declared.bearers.AnchorOut.{AnchorOut}
use Rattle.node_rules.specs.declared.bearers.OnLeg.{OnLeg}
use Rattle.run_relays.specs.Kept.{IsReadOf, KeepsOf}
use Rattle.run_relays.specs.Relays.{ArePlain, IsOther, IsPlain}

-- ---- lists of sends

pub both_plain : (xs ys : List Send) → ArePlain xs → ArePlain ys → ArePlain (xs ++ ys)
both_plain xs ys first then' = each_append IsPlain xs ys first then'

flat_plain : {X : Type 0} (f : X → List Send) (xs : List X) → ((x : X) → ArePlain (f x)) → ArePlain (flat_map f xs)
flat_plain f [] plain = tt
flat_plain f (x ∷ xs) plain = both_plain (f x) (flat_map f xs) (plain x) (flat_plain f xs plain)

pub if_plain : {S : Type 0} (t : Bool) (x y : S × List Send) → ArePlain x.1 → ArePlain y.1 → ArePlain (if t then x else y).1
if_plain true x y is else' = is
if_plain false x y is else' = else'

-- a packet of a bearer's own traffic with a container
pub own_other : (g id : ℕ) (container body : List ℕ) → IsOther (own_packet g id (Some container) body)
own_other g id container body = record { content = record { kind = GPdu; teid = teid g id 0; container = Some container; number = None; body = body }; is = refl; other = refl }

-- ---- what an anchor sends

of_tunnel : (s : Setup) (p : OnLeg) (o : Option Node) → ArePlain (tunnel_send s p o)
of_tunnel s p None = tt
of_tunnel s p (Some host) = (own_other s.g s.id (written (User p.num true p.repeat)) p.pdu.1, tt)

of_leg : (s : Setup) (p : OnLeg) (local : Bool) → ArePlain (leg_send s p local)
of_leg s p true = (refl, tt)
of_leg s p false = of_tunnel s p (host_of s)

of_entity : (a : Active) (done : Entity × List OnLeg) → ArePlain (with_sends a done).1
of_entity a done = flat_plain (λ p. leg_send a.entity.setup p (is_local a.entity.setup p)) done.1 (λ p. of_leg a.entity.setup p (is_local a.entity.setup p))

pub of_counts : (c : Choices) (a : Active) (cs : List ℕ) → ArePlain (anchor_sends c a cs).1
of_counts c a cs = of_entity a (send_counts c a.entity cs)

of_recovery : (c : Choices) (a : Active) → ArePlain (anchor_recovers c a).1
of_recovery c a = of_entity a (send_kept c a.entity)

of_submission : (c : Choices) (a : Active) (sdu : List ℕ) (r : Result (Sender × ℕ) TxErr) → ArePlain (submit_as c a sdu r).1
of_submission c a sdu (Ok x) = of_counts c (with_tx a x.0) (x.1 ∷ [])
of_submission c a sdu (Err e) = tt

of_submission_at : (is : Bool) (c : Choices) (a : Active) (sdu : List ℕ) → ArePlain (submit_at is c a sdu).1
of_submission_at true c a sdu = of_submission c a sdu (take_sdu a.entity.tx sdu)
of_submission_at false c a sdu = tt

of_numbers : (c : Choices) (a : Active) (r : Result (Sender × List ℕ) TxErr) → ArePlain (with_numbers c a r).1
of_numbers c a (Ok x) = of_counts c (with_tx a x.0) x.1
of_numbers c a (Err e) = tt

of_opening : (c : Choices) (a : Active) → ArePlain (opens c a).1
of_opening c a =
    let again = anchor_recovers c (record a { is_open = true }) in
    both_plain again.1 (with_numbers c again.0 (give_numbers again.0.entity.tx)).1 (of_recovery c (record a { is_open = true })) (of_numbers c again.0 (give_numbers again.0.entity.tx))

pub of_open_if : (is : Bool) (c : Choices) (a : Active) → ArePlain (open_if is c a).1
of_open_if true c a = of_opening c a
of_open_if false c a = tt

of_recovery_at : (is : Bool) (c : Choices) (a : Active) → ArePlain (recover_at is c a).1
of_recovery_at true c a = of_recovery c a
of_recovery_at false c a = tt

of_report_at : (is : Bool) (c : Choices) (a : Active) → ArePlain (report_at is c a).1
of_report_at true c a = of_entity a (send_report c a.entity)
of_report_at false c a = tt

-- ---- its steps

-- a step of an anchor after which it keeps such contents, and sends no uplink PDU
pub record AnchorDoes (P : ℕ → ℕ → List ℕ → Type 0) (done : AnchorState × AnchorOut) : Type 0 where
  pub keeps : KeepsOf P done.0
  pub plain : ArePlain done.1.sends

module _ (P : ℕ → ℕ → List ℕ → Type 0) where
  pub submit_does : (c : Choices) (s : AnchorState) (sdu : List ℕ) → KeepsOf P s → AnchorDoes P (submit c s sdu)
  submit_does c (waiting_anchor w) sdu keeps = record { keeps = keeps; plain = tt }
  submit_does c (active_anchor a) sdu keeps = record { keeps = tt; plain = of_submission_at a.is_open c a sdu }

  pub unlock_does : (c : Choices) (s : AnchorState) → KeepsOf P s → AnchorDoes P (unlock c s)
  unlock_does c (waiting_anchor w) keeps = record { keeps = keeps; plain = tt }
  unlock_does c (active_anchor a) keeps = record { keeps = tt; plain = of_open_if (not a.is_open) c a }

  pub recover_does : (c : Choices) (s : AnchorState) → KeepsOf P s → AnchorDoes P (recover c s)
  recover_does c (waiting_anchor w) keeps = record { keeps = keeps; plain = tt }
  recover_does c (active_anchor a) keeps = record { keeps = tt; plain = of_recovery_at a.is_open c a }

  -- what is kept was read with the same setup but for the mark of a leg
  marked : (s : Setup) (xs : List Content) → AllByRecursion (IsReadOf P s) xs → AllByRecursion (IsReadOf P (with_failed_scg s)) xs
  marked s [] all = tt
  marked s (x ∷ xs) all = (record { pdu = all.0.pdu; reads = all.0.reads; so = all.0.so }, marked s xs all.1)

  pub fail_does : (c : Choices) (s : AnchorState) → KeepsOf P s → AnchorDoes P (fail_scg c s)
  fail_does c (waiting_anchor w) keeps = record { keeps = marked w.setup w.pdus keeps; plain = tt }
  fail_does c (active_anchor a) keeps = record { keeps = tt; plain = of_recovery_at a.is_open c (record a { entity = with_failure a.entity }) }

  pub report_does : (c : Choices) (s : AnchorState) → KeepsOf P s → AnchorDoes P (report c s)
  report_does c (waiting_anchor w) keeps = record { keeps = keeps; plain = tt }
  report_does c (active_anchor a) keeps = record { keeps = tt; plain = of_report_at a.is_open c a }

-- ---- what a frozen anchor forwards

of_pieces : (t : Tunnel) (kind number : ℕ) (sdus : List Sdu) → ArePlain (pieces t (teid t.g t.id kind) number sdus)
of_pieces t kind number [] = tt
of_pieces t kind number (s ∷ ss) = (record { content = sdu_packet (teid t.g t.id kind) t.n number s; is = refl; other = refl }, of_pieces t kind (number + 1) ss)

of_closing : (t : Tunnel) (kind total : ℕ) → ArePlain (closing t (teid t.g t.id kind) total)
of_closing t kind total = (
  record { content = total_packet (teid t.g t.id kind) total; is = refl; other = refl },
  (record { content = end_marker (teid t.g t.id kind); is = refl; other = refl }, tt),
)

of_whole : (t : Tunnel) (kind : ℕ) (sdus : List Sdu) → ArePlain (whole_tunnel t (teid t.g t.id kind) sdus)
of_whole t kind sdus =
    both_plain (pieces t (teid t.g t.id kind) 0 sdus) (closing t (teid t.g t.id kind) (length sdus)) (of_pieces t kind 0 sdus) (of_closing t kind (length sdus))

of_down : (t : Tunnel) (last : Bool) (sdus : List Sdu) → ArePlain (down_sends t last sdus)
of_down t true sdus = of_whole t 1 sdus
of_down t false sdus = of_pieces t 1 0 sdus

pub freeze_plain : (a : Active) (to : Node) (g : ℕ) (last : Bool) → ArePlain (freeze a to g last).sends
freeze_plain a to g last =
    let t = freezing.new_tunnel a.entity to g in
    both_plain (down_sends t last (down_sdus a.entity)) (whole_tunnel t (teid g a.entity.setup.id 2) (up_sdus a.entity)) (of_down t last (down_sdus a.entity)) (of_whole t 2 (up_sdus a.entity))

pub frozen_sdu_plain : (f : Frozen) (g : ℕ) (sdu : List ℕ) → ArePlain (frozen_sdu_in f g sdu).1
frozen_sdu_plain f g sdu =
    if_plain (nat_le f.since g && nat_lt g f.tunnel.g) (record f { tunnel = (forward_fresh f.tunnel sdu).0 }, (forward_fresh f.tunnel sdu).1) (f, []) (of_pieces f.tunnel 1 f.tunnel.next ((None, sdu) ∷ [])) tt

pub frozen_end_plain : (f : Frozen) (g : ℕ) → ArePlain (frozen_end_in f g).1
frozen_end_plain f g = if_plain (f.tunnel.g == g) (None, forward_end f.tunnel) (Some f, []) (of_closing f.tunnel 1 f.tunnel.next) tt
