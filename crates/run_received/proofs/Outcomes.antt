-- What an event that draws no command, with lines that hand up at most, changes of an uplink.
use Rattle.std.proofs.Common.{ℕ, ◌≡◌, Bool, true, false, List, [], ◌∷◌, Option, Some, None, refl, sym, ap, subst, ◌∙◌}
use Rattle.std.specs.List.{AllByRecursion, list_any}
use Rattle.std.specs.Option.{option_map}
use Rattle.dc_base.specs.declared.answers.Answer.{Answer}
use Rattle.dc_base.specs.declared.answers.Answer.TheVariants as answer
use Rattle.dc_base.specs.declared.events.Event.{Event}
use Rattle.dc_base.specs.declared.events.Event.TheVariants as event
use Rattle.dc_base.specs.declared.events.Line.{Line}
use Rattle.dc_base.specs.declared.events.Line.TheVariants as line
use Rattle.dc_base.specs.declared.events.Note.TheVariants as note
use Rattle.dc_base.specs.declared.flights.Flight.{Flight}
use Rattle.dc_base.specs.declared.flights.Flight.TheVariants as flight
use Rattle.dc_base.specs.declared.nodes.Dir.TheVariants.{Dl, Ul}
use Rattle.dc_base.specs.declared.nodes.LinkId.{LinkId}
use Rattle.dc_base.specs.declared.records.Rec.{Rec}
use Rattle.dc_base.specs.declared.records.Rec.TheVariants as rec
use Rattle.claims.specs.Drafts.{Draft, draft}
use Rattle.claims.specs.Judged.{has_scg_in, judged}
use Rattle.claims.specs.Noted.{after}
use Rattle.claims.specs.Past.{Past}
use Rattle.node_rules.specs.Lines.{is_end, lines_of}
use Rattle.node_rules.specs.Run.{entry_with}
use Rattle.node_rules.specs.declared.inputs.Outcome.{Outcome}
use Rattle.run_uplinks.specs.Seen.{Seen, Uplink, answered, fails_in, leg_fails, one_more, seen, setting_in, with_event, with_flight, with_given, with_record}
use Rattle.run_uplinks.specs.Uplinks.{Descend}
use Rattle.run_uplinks.proofs.Establishments.{descend_each, descend_latest}
use Rattle.run_uplinks.proofs.Lines.{NoneBegins}
use Rattle.run_uplinks.proofs.Seeing.{begins_line, flight_at, judged_seen}
use Rattle.run_received.specs.Changes.{answered_on, draws_none}
use Rattle.run_received.specs.Receipts.{Receipt, receipt}
use Rattle.run_received.proofs.Folding.{NamesDescend, as_lines, hands_only, lines_on, lines_receipt, outcome_hands, ups_in, with_ups}
use Rattle.run_received.proofs.Judging.{judged_receipt}
use Rattle.run_received.proofs.Latest.{distinct_of}

-- ---- names stay at an event that draws none

record_down : (above : ℕ) (s : Seen) (r : Rec) → Descend above s.bearers → Descend above (with_record r s).bearers
record_down above s (rec.Reconf q key) down = down
record_down above s (rec.Rcomp g) down = down
record_down above s (rec.Scgf pairs) down = down
record_down above s (rec.Recov k) down = down
record_down above s (rec.Recovd k) down = down
record_down above s (rec.Addreq q key) down = down
record_down above s (rec.Addack g) down = down
record_down above s (rec.Addrej g) down = down
record_down above s (rec.Modreq q key) down = down
record_down above s (rec.Modack g) down = down
record_down above s (rec.Modrej g) down = down
record_down above s (rec.Recfg g) down = down
record_down above s (rec.Relreq q) down = down
record_down above s (rec.Relack g) down = down
record_down above s (rec.Relrej g) down = down
record_down above s (rec.Uecr g) down = down
record_down above s (rec.Snst st) down = down
record_down above s (rec.Moved g k) down = down
record_down above s (rec.Scgn k g) down = down
record_down above s rec.Modrqd down = down
record_down above s (rec.Modcnf g) down = down
record_down above s (rec.Modref w) down = down
record_down above s rec.Chgrqd down = down
record_down above s (rec.Chgcnf q) down = down
record_down above s (rec.Chgref w) down = down
record_down above s rec.Relrqd down = down
record_down above s (rec.Relcnf q) down = down

flight_down : (above : ℕ) (s : Seen) (f : Flight) → Descend above s.bearers → Descend above (with_flight f s).bearers
flight_down above s (flight.Ctl r) down = record_down above s r down
flight_down above s (flight.Air id g num tag pdu) down = down
flight_down above s (flight.Ack id g num) down = down
flight_down above s (flight.Tun tag packet) down = down
flight_down above s (flight.Sdu id g sdu) down = down
flight_down above s (flight.End id g) down = down
flight_down above s (flight.Told id g count) down = down

given_down : (above : ℕ) (s : Seen) (o : Option (LinkId × Flight)) → Descend above s.bearers → Descend above (with_given o s).bearers
given_down above s None down = down
given_down above s (Some x) down = flight_down above s x.1 down

event_down : (above : ℕ) (d : Option Draft) (o : Option (LinkId × Flight)) (e : Event) (s : Seen) → draws_none e ≡ true → Descend above s.bearers
    → Descend above (with_event d o e s).bearers
event_down above d o (event.Bearer id n first shape threshold policy) s none down = absurd (let bad : false ≡ true = none in cc)
event_down above d o (event.Reshape id shape) s none down = absurd (let bad : false ≡ true = none in cc)
event_down above d o (event.Remove id) s none down = absurd (let bad : false ≡ true = none in cc)
event_down above d o (event.Add x) s none down = absurd (let bad : false ≡ true = none in cc)
event_down above d o event.Change s none down = absurd (let bad : false ≡ true = none in cc)
event_down above d o event.Release s none down = absurd (let bad : false ≡ true = none in cc)
event_down above d o event.RekeySecond s none down = absurd (let bad : false ≡ true = none in cc)
event_down above d o (event.RekeyMaster root) s none down = absurd (let bad : false ≡ true = none in cc)
event_down above d o (event.Recover id) s none down = down
event_down above d o (event.Submit id Dl sdu) s none down = down
event_down above d o (event.Submit id Ul sdu) s none down = descend_latest above id (one_more sdu) (λ u. refl) s.bearers down
event_down above d o (event.Report x id) s none down = down
event_down above d o (event.Deny x on) s none down = down
event_down above d o (event.Ask x w) s none down = down
event_down above d o event.ScgFail s none down = descend_each above (λ (u : Uplink). fails_in s.plans u u.terminal) (λ u. keeps u u.terminal) s.bearers down
  where
    by : (u : Uplink) (is : Bool) → (leg_fails is u).g ≡ u.g
    by u true = refl
    by u false = refl

    keeps : (u : Uplink) (t : Option ℕ) → (fails_in s.plans u t).g ≡ u.g
    keeps u None = refl
    keeps u (Some g) = by u (has_scg_in (setting_in s.plans u.id g))
event_down above d o (event.Step l i) s none down = given_down above s o down
event_down above d o (event.Lose l i) s none down = down
event_down above d o (event.Again l i) s none down = down

answer_down : (above : ℕ) (d : Option Draft) (o : Option (LinkId × Flight)) (e : Event) (a : Answer) (s : Seen) → draws_none e ≡ true → Descend above s.bearers
    → Descend above (answered d o e a s).bearers
answer_down above d o e answer.Ok s none down = event_down above d o e s none down
answer_down above d o e (answer.No why) s none down = down

pub judged_down : (above : ℕ) (p : Past) (e : Event) (a : Answer) → draws_none e ≡ true → NamesDescend above p → NamesDescend above (judged e a p)
judged_down above p e a none down =
    subst (λ (s : Seen). Descend above s.bearers) (sym (judged_seen e a p)) (answer_down above (draft p.table e) (flight_at p.standing e) e a
    (seen p) none down)

-- ---- the event

-- a line that hands up at most begins no command
pub hands_begins : (x : Line) → hands_only x ≡ true → begins_line x ≡ false
hands_begins (line.Note (note.Begin w)) is = absurd (let bad : false ≡ true = is in cc)
hands_begins (line.Note (note.Join x g)) is = refl
hands_begins (line.Note (note.Leave x g)) is = refl
hands_begins (line.Note (note.Give x id g)) is = refl
hands_begins (line.Note (note.Own x id g)) is = refl
hands_begins (line.Note (note.Set id g)) is = refl
hands_begins (line.Note (note.Unset id)) is = refl
hands_begins (line.Note (note.Up x id d count sdu)) is = refl
hands_begins (line.Note (note.Freed id d count)) is = refl
hands_begins (line.Note (note.Confirmed x)) is = refl
hands_begins (line.Note (note.Refused x w)) is = refl
hands_begins (line.Note note.Done) is = refl
hands_begins (line.Note note.Rejected) is = refl
hands_begins (line.Send l f) is = refl
hands_begins (line.Event e) is = refl
hands_begins (line.Answer a) is = refl

pub none_begin : (xs : List Line) → AllByRecursion (λ x. hands_only x ≡ true) xs → NoneBegins xs
none_begin [] all = tt
none_begin (x ∷ xs) all = (hands_begins x all.0, none_begin xs all.1)

-- the uplink has what the event says, and besides what the notes hand up
pub outcome_receipt : (p : Past) (e : Event) (o : Outcome) (id above : ℕ) → draws_none e ≡ true → NamesDescend above p → list_any is_end o.notes ≡ false
    → AllByRecursion (λ x. hands_only x ≡ true) (lines_of o) → (r : Receipt) → receipt p id ≡ Some r
    → (let q = answered_on p e o.answer r in receipt (after p (entry_with e o)) id ≡ Some (with_ups (ups_in q.id (as_lines o.notes)) q))
outcome_receipt p e o id above none down no_end all r at =
    let j = judged e o.answer p in
    let q = answered_on p e o.answer r in
    let before : receipt j id ≡ Some q =
    judged_receipt e o.answer p id none (distinct_of above p.bearers down) ∙ ap (option_map (answered_on p e o.answer)) at in
    lines_receipt (lines_of o) j id above (none_begin (lines_of o) all) (judged_down above p e o.answer none down)
    ∙ ap (option_map (lines_on j (lines_of o))) before
    ∙ ap Some (outcome_hands o j q no_end all)
