-- What the terminal does with a flight that is no plan; and what is seen of the lines of its outcomes.
use Rattle.std.proofs.Common.{inl, inr, ℕ, ◌≡◌, true, false, Option, Some, None, refl, ap, ◌∙◌}
use Rattle.std.specs.Prelude.{fold}
use Rattle.std.specs.List.{AllByRecursion}
use Rattle.dc_base.specs.declared.events.Event.{Event}
use Rattle.dc_base.specs.declared.flights.Flight.{Flight}
use Rattle.dc_base.specs.declared.flights.Flight.TheVariants as flight
use Rattle.dc_base.specs.declared.nodes.Class.{Class}
use Rattle.dc_base.specs.declared.nodes.Class.TheVariants.{Air, Ctl, Feed, Tun}
use Rattle.dc_base.specs.declared.nodes.Node.{Node}
use Rattle.dc_base.specs.declared.records.Rec.{Rec}
use Rattle.dc_base.specs.declared.records.Rec.TheVariants as rec
use Rattle.claims.specs.Drafts.{draft}
use Rattle.claims.specs.Judged.{judged}
use Rattle.claims.specs.Noted.{after}
use Rattle.claims.specs.Past.{Past}
use Rattle.node_rules.specs.Choices.{Choices}
use Rattle.node_rules.specs.Flights.{Named, flight_named}
use Rattle.node_rules.specs.Held.{held}
use Rattle.node_rules.specs.Lines.{lines_of}
use Rattle.node_rules.specs.Run.{entry_with}
use Rattle.node_rules.specs.Terminal.{TerminalNode, recovered_half, terminal_takes}
use Rattle.node_rules.specs.TerminalHalf.{TerminalHalf}
use Rattle.node_rules.specs.declared.inputs.Effects.{Effects}
use Rattle.node_rules.specs.declared.inputs.Outcome.{Outcome}
use Rattle.run_table.specs.Words.{orders}
use Rattle.run_uplinks.specs.Seen.{Seen, answered, seen, with_flight, with_note}
use Rattle.std.specs.Prelude.{Err, Ok, Result}
use Rattle.std.proofs.lemmas.Bool.{cases_Bool}
use Rattle.pdcp_pdu.specs.Pdu.{Content, decoded}
use Rattle.pdcp_pdu.specs.declared.pdu.PduErr.{PduErr}
use Rattle.pdcp_tx.specs.Sender.{counts}
use Rattle.node_rules.specs.Sending.{send_kept}
use Rattle.node_rules.specs.Terminal.{air_taken_by}
use Rattle.node_rules.specs.TerminalHalf.{is_taken, pdu_came, terminal_air_in}
use Rattle.master_runs.proofs.Holding.{held-same}
use Rattle.run_uplinks.specs.Readings.{IsGood, Reading, reading}
use Rattle.run_uplinks.proofs.Protecting.{sends_good}
use Rattle.run_uplinks.specs.Uplinks.{IsUp}
use Rattle.run_uplinks.proofs.Lines.{IsOfTerminal, all_noted_seen, freed_lines, lines_begin_none, set_lines}
use Rattle.run_uplinks.proofs.Seeing.{flight_at, judged_seen}
use Rattle.run_uplinks.proofs.Terminals.{air_up, recovered_up}
use Rattle.run_uplinks.proofs.TerminalNotes.{air_notes}
use Rattle.node_rules.specs.Effects.{quiet}
use Rattle.node_rules.specs.Terminal.{air_taken, terminal_control, terminal_record}

-- ---- an outcome of the terminal

pub after_set : (p : Past) (e : Event) (o : Outcome) → AllByRecursion (IsOfTerminal 2) o.notes
    → seen (after p (entry_with e o)) ≡ fold with_note (answered (draft p.table e) (flight_at p.standing e) e o.answer (seen p)) o.notes
after_set p e o all =
    all_noted_seen (lines_of o) (judged e o.answer p) (lines_begin_none 2 o all) ∙ set_lines o (seen (judged e o.answer p)) all ∙ ap (λ s. fold with_note s o.notes) (judged_seen e o.answer p)

pub after_freed : (p : Past) (e : Event) (o : Outcome) → AllByRecursion (IsOfTerminal 4) o.notes
    → seen (after p (entry_with e o)) ≡ fold with_note (answered (draft p.table e) (flight_at p.standing e) e o.answer (seen p)) o.notes
after_freed p e o all =
    all_noted_seen (lines_of o) (judged e o.answer p) (lines_begin_none 4 o all) ∙ freed_lines o (seen (judged e o.answer p)) all ∙ ap (λ s. fold with_note s o.notes) (judged_seen e o.answer p)

-- a record that is no plan for the terminal is not seen
unseen_record : (r : Rec) (s : Seen) → orders (flight.Ctl r) ≡ false → with_flight (flight.Ctl r) s ≡ s
unseen_record (rec.Reconf q key) s no' = absurd (let bad : true ≡ false = no' in cc)
unseen_record (rec.Rcomp g) s no' = refl
unseen_record (rec.Scgf failed) s no' = refl
unseen_record (rec.Recov id) s no' = refl
unseen_record (rec.Recovd id) s no' = refl
unseen_record (rec.Addreq plan key) s no' = refl
unseen_record (rec.Addack g) s no' = refl
unseen_record (rec.Addrej g) s no' = refl
unseen_record (rec.Modreq plan key) s no' = refl
unseen_record (rec.Modack g) s no' = refl
unseen_record (rec.Modrej g) s no' = refl
unseen_record (rec.Recfg g) s no' = refl
unseen_record (rec.Relreq plan) s no' = refl
unseen_record (rec.Relack g) s no' = refl
unseen_record (rec.Relrej g) s no' = refl
unseen_record (rec.Uecr g) s no' = refl
unseen_record (rec.Snst status) s no' = refl
unseen_record (rec.Moved g id) s no' = refl
unseen_record (rec.Scgn id g) s no' = refl
unseen_record rec.Modrqd s no' = refl
unseen_record (rec.Modcnf g) s no' = refl
unseen_record (rec.Modref word) s no' = refl
unseen_record rec.Chgrqd s no' = refl
unseen_record (rec.Chgcnf plan) s no' = refl
unseen_record (rec.Chgref word) s no' = refl
unseen_record rec.Relrqd s no' = refl
unseen_record (rec.Relcnf plan) s no' = refl

pub unseen_flight : (f : Flight) (s : Seen) → orders f ≡ false → with_flight f s ≡ s
unseen_flight (flight.Ctl r) s no' = unseen_record r s no'
unseen_flight (flight.Air id g num tag pdu) s no' = refl
unseen_flight (flight.Ack id g num) s no' = refl
unseen_flight (flight.Tun tag packet) s no' = refl
unseen_flight (flight.Sdu id g payload) s no' = refl
unseen_flight (flight.End id g) s no' = refl
unseen_flight (flight.Told id g count) s no' = refl

-- it sends acks alone
pdu_acks : (r : Reading) (h : TerminalHalf) (from : Node) (num : ℕ) (x : Result Content PduErr) → AllByRecursion (IsGood r) (pdu_came h from num x).1.sends
pdu_acks r h from num (Err e) = tt
pdu_acks r h from num (Ok x) = (λ p same. refl, tt)

half_acks : (r : Reading) (h : TerminalHalf) (from : Node) (f : Flight) → AllByRecursion (IsGood r) (terminal_air_in h from f).1.sends
half_acks r h from (flight.Air id g num tag pdu) =
    elim (cases_Bool (is_taken h.setup from id g)) [ inl yes' ↦ rw yes' (pdu_acks r h from num (decoded h.setup.n pdu)) | inr no' ↦ rw no' tt ]
half_acks r h from (flight.Ack id g num) = elim (cases_Bool (is_taken h.setup from id g)) [ inl yes' ↦ rw yes' tt | inr no' ↦ rw no' tt ]
half_acks r h from (flight.Tun tag packet) = tt
half_acks r h from (flight.Sdu id g payload) = tt
half_acks r h from (flight.End id g) = tt
half_acks r h from (flight.Told id g count) = tt
half_acks r h from (flight.Ctl x) = tt

acks_by : (r : Reading) (t : TerminalNode) (from : Node) (f : Flight) (id : ℕ) (o : Option TerminalHalf) → AllByRecursion (IsGood r) (air_taken_by t from f id o).1.sends
acks_by r t from f id None = tt
acks_by r t from f id (Some h) = half_acks r h from f

acks_good : (r : Reading) (t : TerminalNode) (from : Node) (f : Flight) (o : Option Named) → AllByRecursion (IsGood r) (air_taken t from f o).1.sends
acks_good r t from f None = tt
acks_good r t from f (Some (id, g)) = acks_by r t from f id (held id t.halves)

-- what the terminal does with a flight: its notes, its side, and its sends
pub record DoesWell (s : Seen) (done : TerminalNode × Effects) : Type 0 where
  pub notes : AllByRecursion (IsOfTerminal 4) done.1.notes
  pub up : IsUp (fold with_note s done.1.notes) done.0
  pub good : AllByRecursion (IsGood (reading s)) done.1.sends

module _ (c : Choices) (s : Seen) (t : TerminalNode) (is : IsUp s t) where
  does_nothing : DoesWell s (t, quiet)
  does_nothing = record { notes = tt; up = is; good = tt }

  does_recovery : (id : ℕ) (o : Option TerminalHalf) → held id t.halves ≡ o → DoesWell s (recovered_half c t id o)
  does_recovery id None at = does_nothing
  does_recovery id (Some h) at =
      let up = recovered_up c s t is id (Some h) at in
      record {
        notes = tt;
        up = up;
        good = (λ p same. refl, sends_good c s (recovered_half c t id (Some h)).0 up id h (counts h.tx.kept) (held-same id (send_kept c h).0 t.halves));
      }

  does_air : (from : Node) (f : Flight) (o : Option Named) → DoesWell s (air_taken t from f o)
  does_air from f o = record { notes = air_notes t from f o; up = air_up c s t is from f o; good = acks_good (reading s) t from f o }

  does_record : (from : Node) (r : Rec) → orders (flight.Ctl r) ≡ false → DoesWell s (terminal_record c t r)
  does_record from (rec.Reconf q key) no' = absurd (let bad : true ≡ false = no' in cc)
  does_record from (rec.Recov id) no' = does_recovery id (held id t.halves) refl
  does_record from (rec.Rcomp g) no' = does_nothing
  does_record from (rec.Scgf failed) no' = does_nothing
  does_record from (rec.Recovd id) no' = does_nothing
  does_record from (rec.Addreq plan key) no' = does_nothing
  does_record from (rec.Addack g) no' = does_nothing
  does_record from (rec.Addrej g) no' = does_nothing
  does_record from (rec.Modreq plan key) no' = does_nothing
  does_record from (rec.Modack g) no' = does_nothing
  does_record from (rec.Modrej g) no' = does_nothing
  does_record from (rec.Recfg g) no' = does_nothing
  does_record from (rec.Relreq plan) no' = does_nothing
  does_record from (rec.Relack g) no' = does_nothing
  does_record from (rec.Relrej g) no' = does_nothing
  does_record from (rec.Uecr g) no' = does_nothing
  does_record from (rec.Snst status) no' = does_nothing
  does_record from (rec.Moved g id) no' = does_nothing
  does_record from (rec.Scgn id g) no' = does_nothing
  does_record from rec.Modrqd no' = does_nothing
  does_record from (rec.Modcnf g) no' = does_nothing
  does_record from (rec.Modref word) no' = does_nothing
  does_record from rec.Chgrqd no' = does_nothing
  does_record from (rec.Chgcnf plan) no' = does_nothing
  does_record from (rec.Chgref word) no' = does_nothing
  does_record from rec.Relrqd no' = does_nothing
  does_record from (rec.Relcnf plan) no' = does_nothing

  does_control : (from : Node) (f : Flight) → orders f ≡ false → DoesWell s (terminal_control c t f)
  does_control from (flight.Ctl r) no' = does_record from r no'
  does_control from (flight.Air id g num tag pdu) no' = does_nothing
  does_control from (flight.Ack id g num) no' = does_nothing
  does_control from (flight.Tun tag packet) no' = does_nothing
  does_control from (flight.Sdu id g payload) no' = does_nothing
  does_control from (flight.End id g) no' = does_nothing
  does_control from (flight.Told id g count) no' = does_nothing

  -- any flight but a plan
  pub does_flight : (from : Node) (f : Flight) (k : Class) → orders f ≡ false → DoesWell s (terminal_takes c t from f k)
  does_flight from f Ctl no' = does_control from f no'
  does_flight from f Feed no' = does_nothing
  does_flight from f Air no' = does_air from f (flight_named f)
  does_flight from f Tun no' = does_nothing
