-- What an entity sends: data PDUs of SDUs that it keeps, or a status report.
use Rattle.std.proofs.Common.{ℕ, ◌≡◌, ◌∷◌, [], List, Option, Some, None, refl}
use Rattle.std.specs.List.{AllByRecursion, filter_map}
use Rattle.pdcp_tx.specs.Sender.{counts, sdu_at}
use Rattle.node_rules.specs.Choices.{Choices}
use Rattle.node_rules.specs.Entity.{Entity, pdu_of}
use Rattle.node_rules.specs.Sending.{Pdu, pdu_at, send_counts, send_kept, sends}
use Rattle.run_legs.specs.Entities.{HasSent, IsOfKept}
use Rattle.run_legs.proofs.Sends.{each_sent}

pub has_sent : (c : Choices) (e : Entity) (pdus : List Pdu) → HasSent pdus e (sends c e pdus)
has_sent c e pdus = record { tx = refl; rx = refl; setup = refl; legs = each_sent c pdus e.setup.legs }

-- what is sent of COUNTs is of SDUs that are kept
pub counts_are_kept : (e : Entity) (cs : List ℕ) → AllByRecursion (IsOfKept e) (filter_map (pdu_at e) cs)
counts_are_kept e [] = tt
counts_are_kept e (c ∷ cs) = by (sdu_at e.tx.kept c) refl (counts_are_kept e cs)
  where
    by : (o : Option (List ℕ)) → sdu_at e.tx.kept c ≡ o → AllByRecursion (IsOfKept e) (filter_map (pdu_at e) cs) → AllByRecursion (IsOfKept e) (filter_map (pdu_at e) (c ∷ cs))
    by None is later = rw is later
    by (Some sdu) is later = rw is (record { count = c; sdu = sdu; kept = is; is = refl }, later)

-- the PDUs of COUNTs
pub counts_sent : (c : Choices) (e : Entity) (cs : List ℕ) → HasSent (filter_map (pdu_at e) cs) e (send_counts c e cs)
counts_sent c e cs = has_sent c e (filter_map (pdu_at e) cs)

-- of all that is kept
pub kept_sent : (c : Choices) (e : Entity) → HasSent (filter_map (pdu_at e) (counts e.tx.kept)) e (send_kept c e)
kept_sent c e = counts_sent c e (counts e.tx.kept)
