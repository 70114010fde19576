-- What an anchor does besides taking PDUs leaves the receiving entity as it is: submissions, openings, recoveries, failures of the SCG,
-- status reports that are sent or taken, confirms and delivery statuses.
use Rattle.std.proofs.Common.{ℕ, Bool, true, false, List, [], ◌∷◌, Option, Some, None, Ok, refl, ap, ◌∙◌}
use Rattle.std.specs.Prelude.{Err, Result}
use Rattle.nr_u.specs.declared.frame.Frame.{Frame}
use Rattle.nr_u.specs.Tunnel.Verdicts.{again_of}
use Rattle.dc_base.specs.declared.nodes.Cell.{Cell}
use Rattle.pdcp_pdu.specs.Pdu.{report}
use Rattle.pdcp_tx.specs.Sender.{Sender, low}
use Rattle.pdcp_tx.specs.Sending.{give_numbers, take_sdu}
use Rattle.pdcp_tx.specs.declared.tx.TxErr.{TxErr}
use Rattle.split_leg.specs.Legs.{acked_count, leg_at, with_ack, with_leg}
use Rattle.node_rules.specs.Anchor.{Active}
use Rattle.node_rules.specs.AnchorReceiving.{acked, ascending, with_delivery}
use Rattle.node_rules.specs.AnchorSending.{anchor_recovers, anchor_sends, open_if, opens, recover_at, report_at, submit_as, submit_at, with_failure, with_numbers, with_tx}
use Rattle.node_rules.specs.Choices.{Choices}
use Rattle.node_rules.specs.Entity.{Entity, confirmed_count, confirmed_where, direction_to, take_pdu}
use Rattle.node_rules.specs.Sending.{send_counts, send_kept, send_report}
use Rattle.node_rules.specs.Setup.{Setup}
use Rattle.run_receivers.specs.Pdus.{Ciphering, IsReader, ciphering_in}
use Rattle.run_receivers.specs.Submitted.{Submitted}
use Rattle.run_receivers.specs.Untouched.{IsSameSetup, IsUntouched}

-- ---- one after another

pub untouched : (e : Entity) → IsUntouched e e
untouched e = record { setup = record { node = refl; id = refl; g = refl; n = refl; alg = refl; key = refl }; rx = refl }

pub untouched_again : (a b c : Entity) → IsUntouched a b → IsUntouched b c → IsUntouched a c
untouched_again a b c first later = record {
  setup = record {
    node = later.setup.node ∙ first.setup.node;
    id = later.setup.id ∙ first.setup.id;
    g = later.setup.g ∙ first.setup.g;
    n = later.setup.n ∙ first.setup.n;
    alg = later.setup.alg ∙ first.setup.alg;
    key = later.setup.key ∙ first.setup.key;
  };
  rx = later.rx ∙ first.rx;
}

-- the node reads as it did
pub same_reader : (u : Submitted) (k : Ciphering) (before after : Setup) → IsSameSetup before after → IsReader u k before → IsReader u k after
same_reader u k before after s reader = record {
  same_n = s.n ∙ reader.same_n;
  same_key =
      ap (λ x. ciphering_in (direction_to x) after) s.node
      ∙ ap (λ x. ciphering_in (direction_to before.node) (record after { alg = x })) s.alg
      ∙ ap (λ x. ciphering_in (direction_to before.node) (record after { alg = before.alg; key = x })) s.key
      ∙ ap (λ x. ciphering_in (direction_to before.node) (record after { alg = before.alg; key = before.key; id = x })) s.id
      ∙ reader.same_key;
}

-- ---- an entity

pub confirmed_untouched : (test : ℕ → Bool) (e : Entity) → IsUntouched e (confirmed_where test e)
confirmed_untouched test e = record { setup = record { node = refl; id = refl; g = refl; n = refl; alg = refl; key = refl }; rx = refl }

pub report_untouched : (fmc : ℕ) (bits : List ℕ) (e : Entity) → IsUntouched e (take_pdu e (report fmc bits)).0
report_untouched fmc bits e = record { setup = record { node = refl; id = refl; g = refl; n = refl; alg = refl; key = refl }; rx = refl }

pub acked_untouched : (e : Entity) (cell : Cell) (num : ℕ) → IsUntouched e (acked e cell num)
acked_untouched e cell num = by (acked_count (leg_at e.setup.legs cell).pdus num)
  where
    by : (o : Option ℕ)
        → IsUntouched e (confirmed_count (record e {
          setup = record e.setup {
            legs = with_leg e.setup.legs cell
                (with_ack (leg_at e.setup.legs cell) num);
          };
        }) o)
    by None = record { setup = record { node = refl; id = refl; g = refl; n = refl; alg = refl; key = refl }; rx = refl }
    by (Some count) = record { setup = record { node = refl; id = refl; g = refl; n = refl; alg = refl; key = refl }; rx = refl }

pub counts_untouched : (c : Choices) (e : Entity) (cs : List ℕ) → IsUntouched e (send_counts c e cs).0
counts_untouched c e cs = record { setup = record { node = refl; id = refl; g = refl; n = refl; alg = refl; key = refl }; rx = refl }

pub kept_untouched : (c : Choices) (e : Entity) → IsUntouched e (send_kept c e).0
kept_untouched c e = record { setup = record { node = refl; id = refl; g = refl; n = refl; alg = refl; key = refl }; rx = refl }

pub reporting_untouched : (c : Choices) (e : Entity) → IsUntouched e (send_report c e).0
reporting_untouched c e = record { setup = record { node = refl; id = refl; g = refl; n = refl; alg = refl; key = refl }; rx = refl }

pub tx_untouched : (e : Entity) (tx : Sender) → IsUntouched e (record e { tx = tx })
tx_untouched e tx = record { setup = record { node = refl; id = refl; g = refl; n = refl; alg = refl; key = refl }; rx = refl }

pub failure_untouched : (e : Entity) → IsUntouched e (with_failure e)
failure_untouched e = record { setup = record { node = refl; id = refl; g = refl; n = refl; alg = refl; key = refl }; rx = refl }

-- ---- an active anchor

abbrev pub LeavesReceiver : Active → Active → Type 0
LeavesReceiver before after = IsUntouched before.entity after.entity

pub sends_leave : (c : Choices) (a : Active) (cs : List ℕ) → LeavesReceiver a (anchor_sends c a cs).0
sends_leave c a cs = counts_untouched c a.entity cs

pub recovers_leave : (c : Choices) (a : Active) → LeavesReceiver a (anchor_recovers c a).0
recovers_leave c a = kept_untouched c a.entity

by_submission : (c : Choices) (a : Active) (p : List ℕ) (r : Result (Sender × ℕ) TxErr) → LeavesReceiver a (submit_as c a p r).0
by_submission c a p (Ok x) =
    untouched_again a.entity (with_tx a x.0).entity (anchor_sends c (with_tx a x.0) (x.1 ∷ [])).0.entity (tx_untouched a.entity x.0)
    (sends_leave c (with_tx a x.0) (x.1 ∷ []))
by_submission c a p (Err e) = tx_untouched a.entity _

-- a submission
pub submit_leaves : (is_open : Bool) (c : Choices) (a : Active) (p : List ℕ) → LeavesReceiver a (submit_at is_open c a p).0
submit_leaves true c a p = by_submission c a p (take_sdu a.entity.tx p)
submit_leaves false c a p = tx_untouched a.entity _

by_numbers : (c : Choices) (a : Active) (r : Result (Sender × List ℕ) TxErr) → LeavesReceiver a (with_numbers c a r).0
by_numbers c a (Ok x) =
    untouched_again a.entity (with_tx a x.0).entity (anchor_sends c (with_tx a x.0) x.1).0.entity (tx_untouched a.entity x.0)
    (sends_leave c (with_tx a x.0) x.1)
by_numbers c a (Err e) = untouched a.entity

-- an opening
pub opening_leaves : (c : Choices) (a : Active) → LeavesReceiver a (opens c a).0
opening_leaves c a =
    let again = anchor_recovers c (record a { is_open = true }) in
    untouched_again a.entity again.0.entity (with_numbers c again.0 (give_numbers again.0.entity.tx)).0.entity
    (recovers_leave c (record a { is_open = true })) (by_numbers c again.0 (give_numbers again.0.entity.tx))

pub open_if_leaves : (is : Bool) (c : Choices) (a : Active) → LeavesReceiver a (open_if is c a).0
open_if_leaves true c a = opening_leaves c a
open_if_leaves false c a = untouched a.entity

-- a recovery
pub recovery_leaves : (is_open : Bool) (c : Choices) (a : Active) → LeavesReceiver a (recover_at is_open c a).0
recovery_leaves true c a = recovers_leave c a
recovery_leaves false c a = untouched a.entity

-- a failure of the SCG
pub failure_leaves : (is_open : Bool) (c : Choices) (a : Active) → LeavesReceiver a (recover_at is_open c (record a { entity = with_failure a.entity })).0
failure_leaves is_open c a =
    let failed : Active = record a { entity = with_failure a.entity } in
    untouched_again a.entity failed.entity (recover_at is_open c failed).0.entity (failure_untouched a.entity) (recovery_leaves is_open c failed)

-- a report that is asked for
pub report_leaves : (is_open : Bool) (c : Choices) (a : Active) → LeavesReceiver a (report_at is_open c a).0
report_leaves true c a = reporting_untouched c a.entity
report_leaves false c a = untouched a.entity

-- a delivery status
pub delivery_leaves : (c : Choices) (a : Active) (status : Frame)
    → LeavesReceiver a (anchor_sends c (with_delivery a status) (ascending (again_of a.tunnel (low a.entity.tx) status))).0
delivery_leaves c a status =
    let confirmed = with_delivery a status in
    let cs = ascending (again_of a.tunnel (low a.entity.tx) status) in
    untouched_again a.entity confirmed.entity (anchor_sends c confirmed cs).0.entity (confirmed_untouched _ a.entity) (sends_leave c confirmed cs)
