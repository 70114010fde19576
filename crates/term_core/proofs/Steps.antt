-- A step of a bearer that the terminal has, as a step of the terminal.
use Rattle.std.proofs.Common.{◌≡◌, ℕ, List, [], ◌++◌, ap, Some}
use Rattle.std.specs.BTreeMap.{insert_entry}
use Rattle.std.specs.Ordering.{nat_cmp}
use Rattle.dc_base.specs.declared.answers.Answer.{Answer}
use Rattle.dc_base.specs.declared.answers.Answer.TheVariants as answer
use Rattle.dc_base.specs.declared.flights.Flight.{Flight}
use Rattle.dc_base.specs.declared.nodes.Dir.TheVariants.{Dl}
use Rattle.dc_base.specs.declared.nodes.Node.{Node}
use Rattle.dc_base.specs.declared.nodes.Node.TheVariants.{M, T}
use Rattle.dc_base.specs.declared.records.Rec.TheVariants as rec
use Rattle.node_rules.specs.declared.bearers.HalfOut.{HalfOut}
use Rattle.node_rules.specs.declared.inputs.Effects.{Effects}
use Rattle.node_rules.specs.declared.inputs.Outcome.{Outcome}
use Rattle.node_rules.specs.Choices.{Choices, Send}
use Rattle.node_rules.specs.Effects.{both, told}
use Rattle.node_rules.specs.Entity.{Entity}
use Rattle.node_rules.specs.Held.{held}
use Rattle.node_rules.specs.Master.{handed_up}
use Rattle.node_rules.specs.Setup.{Setup}
use Rattle.node_rules.specs.Terminal.{TerminalNode, air_taken_by, half_set, recovered_half, reported_there, submitted_there, uplink_freed, with_half}
use Rattle.node_rules.specs.TerminalHalf.{terminal_air_in, terminal_recover, terminal_renew, terminal_report, terminal_submit}

-- the bearers with one that took the place of another
abbrev pub Written : TerminalNode → ℕ → Entity → List (ℕ × Entity) → Type 0
Written t id w es = es ≡ insert_entry nat_cmp t.halves id w

pub half_submits : (c : Choices) (t : TerminalNode) (id : ℕ) (payload : List ℕ) (h : Entity) (done : Entity × Answer × List Send) (es : List (ℕ × Entity)) → held id t.halves ≡ Some h → Written t id done.0 es
    → done ≡ terminal_submit c h payload
    → (let out : TerminalNode × Outcome = (record t { halves = es }, record { answer = done.1; notes = []; sends = done.2 }) in out) ≡ submitted_there c t id payload (held id t.halves)
half_submits c t id payload h done es there put step =
    rw (there, put) (ap (λ (d : Entity × Answer × List Send). (let out : TerminalNode × Outcome = (with_half t id (Some d.0), record { answer = d.1; notes = []; sends = d.2 }) in out)) step)

pub half_reports : (c : Choices) (t : TerminalNode) (id : ℕ) (h : Entity) (done : Entity × List Send) (es : List (ℕ × Entity)) → held id t.halves ≡ Some h → Written t id done.0 es
    → done ≡ terminal_report c h
    → (let out : TerminalNode × Outcome = (record t { halves = es }, record { answer = answer.Ok; notes = []; sends = done.1 }) in out) ≡ reported_there c t id (held id t.halves)
half_reports c t id h done es there put step =
    rw (there, put) (ap (λ (d : Entity × List Send). (let out : TerminalNode × Outcome = (with_half t id (Some d.0), record { answer = answer.Ok; notes = []; sends = d.1 }) in out)) step)

pub half_recovers : (c : Choices) (t : TerminalNode) (id : ℕ) (h : Entity) (done : Entity × List Send) (es : List (ℕ × Entity)) → held id t.halves ≡ Some h → Written t id done.0 es
    → done ≡ terminal_recover c h
    → (let out : TerminalNode × Effects = (record t { halves = es }, both (told T M (rec.Recovd id)) (record { notes = []; sends = done.1 })) in out) ≡ recovered_half c t id (held id t.halves)
half_recovers c t id h done es there put step =
    rw (there, put) (ap (λ (d : Entity × List Send). (let out : TerminalNode × Effects = (with_half t id (Some d.0), both (told T M (rec.Recovd id)) (record { notes = []; sends = d.1 })) in out)) step)

pub half_renews : (c : Choices) (t : TerminalNode) (id : ℕ) (s : Setup) (h : Entity) (done : Entity × List Send) (es : List (ℕ × Entity)) → held id t.halves ≡ Some h → Written t id done.0 es
    → done ≡ terminal_renew c h s
    → (let out : TerminalNode × Effects = (record t { halves = es }, record { notes = []; sends = done.1 }) in out) ≡ half_set c t id s (held id t.halves)
half_renews c t id s h done es there put step =
    rw (there, put) (ap (λ (d : Entity × List Send). (let out : TerminalNode × Effects = (with_half t id (Some d.0), record { notes = []; sends = d.1 }) in out)) step)

pub half_takes : (t : TerminalNode) (from : Node) (f : Flight) (id : ℕ) (h : Entity) (done : Entity × HalfOut) (es : List (ℕ × Entity)) → held id t.halves ≡ Some h → Written t id done.0 es
    → done ≡ terminal_air_in h from f
    → (let out : TerminalNode × Effects = (record t { halves = es }, record { notes = handed_up T id Dl done.1.ups ++ uplink_freed id done.1.low; sends = done.1.sends }) in out) ≡ air_taken_by t from f id (held id t.halves)
half_takes t from f id h done es there put step =
    rw (there, put) (ap (λ (d : Entity × HalfOut). (let out : TerminalNode × Effects = (with_half t id (Some d.0), record { notes = handed_up T id Dl d.1.ups ++ uplink_freed id d.1.low; sends = d.1.sends }) in out)) step)
