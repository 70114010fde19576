use Rattle.std.proofs.Common.{◌≡◌, ℕ, ◌+◌, ◌-◌, ◌^◌, drop}
use Rattle.std.specs.Option.{option_map}
use Rattle.pdcp_pdu.specs.StatusReport.{first_beyond}
use Rattle.pdcp_pdu.proofs.status_report.first_beyond.Given as goal

abbrev pub invariant-loop-place : goal.invariant-loop-place
invariant-loop-place l = first_beyond (2 ^ 32 - 1 - l.fmc) l.bits ≡ option_map (λ (i : ℕ). l.place + i) (first_beyond l.room (drop l.place l.bits))
