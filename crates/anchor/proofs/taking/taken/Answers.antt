use Rattle.std.proofs.Common.{ℕ, ◌≡◌, List, rules}
use Rattle.std.proofs.lemmas.List.Elements.{All-same}
use Rattle.pdcp_pdu.specs.DataPdu.{IsPayload}
use Rattle.anchor.proofs.taking.taken.Goals as goal

pub returns-clause-kept : goal.returns-clause-kept
returns-clause-kept c =
    let same : c.from_vec-counted.result ≡ c.in_ok-entries.entries.entries = search rules in
    All-same (λ (y : ℕ × List ℕ). IsPayload y.1) c.from_vec-counted.result c.in_ok-entries.entries.entries same c.in_ok-entries.ensures.payloads.0
