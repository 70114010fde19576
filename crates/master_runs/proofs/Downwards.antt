-- What comes to the terminal over the air.
use Rattle.std.proofs.Common.{ℕ, ◌≡◌, ◌-◌, ◌^◌, ◌==◌, ◌++◌, List, [], ◌∷◌, Option, Some, None, refl, sym, ap, subst, ◌∙◌, inl, inr, arith}
use Rattle.std.specs.Prelude.{Ok, Err, Result, map, filter, nat_lt}
use Rattle.std.specs.List.{AllByRecursion}
use Rattle.std.proofs.lemmas.Bool.{cases_Bool, eqb-true, eqb-false, eq-eqb, ne_eqb, le-ltb, cond-false}
use Rattle.std.proofs.lemmas.List.{append-nil}
use Rattle.dc_base.specs.Count.{count_for}
use Rattle.dc_base.specs.declared.answers.Answer.TheVariants as answer
use Rattle.dc_base.specs.declared.events.Header.{Header}
use Rattle.dc_base.specs.declared.events.Line.{Line}
use Rattle.dc_base.specs.declared.events.Line.TheVariants as line
use Rattle.dc_base.specs.declared.flights.Flight.TheVariants as flight
use Rattle.dc_base.specs.declared.nodes.Dir.{Dir}
use Rattle.dc_base.specs.declared.nodes.Dir.TheVariants.{Dl}
use Rattle.dc_base.specs.declared.nodes.Node.TheVariants.{M, T}
use Rattle.pdcp_pdu.specs.Bitmap.{names}
use Rattle.pdcp_pdu.specs.Pdu.{Content, decoded, sdu, report}
use Rattle.pdcp_pdu.specs.declared.pdu.PduErr.{PduErr}
use Rattle.pdcp_rx.specs.Receiver.{put, handed_of}
use Rattle.pdcp_rx.specs.declared.entity.RxParts.{RxParts}
use Rattle.pdcp_tx.specs.Sender.{counts, low}
use Rattle.pdcp_tx.specs.Sending.{take_report as reported}
use Rattle.transcript.specs.Content.{tm_air}
use Rattle.master_runs.specs.Entities.{Entities, Table, bearer_in, with_bearer}
use Rattle.master_runs.specs.Plane as plane
use Rattle.master_runs.specs.Plane.{Outcome, ack_line, pdu_taken, taken_for, up_line, with_count}
use Rattle.master_runs.proofs.Tables.{within_table}
use Rattle.node_rules.specs.Choices.{Send}
use Rattle.transcript.specs.Claims.{receiver}
use Rattle.node_rules.specs.Effects.{accepted}
use Rattle.node_rules.specs.Entity.{Entity, received_as, risen}
use Rattle.node_rules.specs.Held.{holding}
use Rattle.node_rules.specs.Master.{handed_up}
use Rattle.node_rules.specs.Terminal.{TerminalNode, air_taken_by, half_did, uplink_freed}
use Rattle.node_rules.specs.TerminalHalf as half
use Rattle.node_rules.specs.declared.inputs.Outcome.{Outcome as WholeOutcome}
use Rattle.master_runs.specs.Forms.{Leg, legs_as, entity_as}
use Rattle.master_runs.specs.Same.{tags_of, IsPlainLine, SameHalf, a_half, no_half, SameTerminal, TerminalDid, terminal_as}
use Rattle.master_runs.proofs.Ciphering.{ciphered_same}
use Rattle.master_runs.proofs.Lining.{lines_handed}
use Rattle.master_runs.proofs.Legs.{settled, settled_legs, tags-settled, acked_in, tags-acked}
use Rattle.master_runs.proofs.Halves.{halves_with}

-- two numbers are one whichever comes first
pub eqb_sym : (a b : ℕ) → (a == b) ≡ (b == a)
eqb_sym a b =
    elim (cases_Bool (b == a)) [
      | inl same ↦ eq-eqb a b (sym (eqb-true b a same)) ∙ sym same
      | inr apart ↦ ne_eqb a b (λ is. eqb-false b a apart (sym is)) ∙ sym apart
    ]

-- what stays did not rise
pub not_risen : (low : ℕ) → risen low low ≡ None
not_risen low = cond-false _ _ _ (le-ltb low low (omega arith))

-- what is handed up, as lines
pub handed_lines : (id : ℕ) (d : Dir) (us : List (ℕ × List ℕ)) → map (λ n. line.Note n) (handed_up (receiver d) id d us) ≡ map (up_line id d) us
handed_lines id d [] = refl
handed_lines id d (u ∷ us) = ap (λ ls. up_line id d u ∷ ls) (handed_lines id d us)

-- no plan is among it
pub plain_handed : (id : ℕ) (d : Dir) (us : List (ℕ × List ℕ)) (l : Line) → IsPlainLine l → AllByRecursion IsPlainLine (map (up_line id d) us ++ l ∷ [])
plain_handed id d [] l plain = (plain, tt)
plain_handed id d (u ∷ us) l plain = (tt, plain_handed id d us l plain)

-- what is the same as what the terminal did
did_by : (h : Header) {was was' : TerminalNode × WholeOutcome} {done done' : Table × Outcome} → was ≡ was' → done ≡ done' → TerminalDid h was' done' → TerminalDid h was done
did_by h {was} {was'} {done} {done'} p q did = subst (λ x. TerminalDid h x done) (sym p) (subst (TerminalDid h was') (sym q) did)

module _ (h : Header) (table : Table) (halves : List (ℕ × Entity)) (same : SameTerminal h table halves)
    (e : Entities) (x : Leg) (tags : tags_of x ≡ e.sent) (at : bearer_in table e.bearer.id ≡ Some e) where
  -- the terminal, and its half of the bearer
  abbrev the_terminal : TerminalNode
  the_terminal = terminal_as h halves

  abbrev the_half : Entity
  the_half = entity_as h T e.bearer x e.tx e.rx

  -- nothing comes of it
  nothing_came : (y : Leg) → tags_of y ≡ e.sent
      → TerminalDid h (accepted (half_did the_terminal e.bearer.id (entity_as h T e.bearer y e.tx e.rx, half.silent))) (with_bearer table e.bearer.id (Some e), (answer.Ok, []))
  nothing_came y tags' = record {
    after = holding e.bearer.id (Some (entity_as h T e.bearer y e.tx e.rx)) halves;
    notes = [];
    sends = [];
    is = refl;
    lined = refl;
    plain = tt;
    same = halves_with h table halves same e.bearer.id (within_table table e.bearer.id e at) e y refl tags';
  }

  module _ (num : ℕ) where
    -- the confirm
    abbrev the_confirm : List Send
    the_confirm = (tm_air, flight.Ack e.bearer.id e.bearer.g num) ∷ []

    -- SDUs are handed up
    handed_as : (rx : RxParts) (us : List (ℕ × List ℕ))
        → TerminalDid h (accepted (half_did the_terminal e.bearer.id (half.stepped the_half the_confirm (record the_half { rx = rx }, us))))
        (with_bearer table e.bearer.id (Some (record e { rx = rx })), (answer.Ok, map (up_line e.bearer.id Dl) us ++ ack_line e.bearer Dl num ∷ []))
    handed_as rx us = record {
      after = holding e.bearer.id (Some (entity_as h T e.bearer x e.tx rx)) halves;
      notes = handed_up T e.bearer.id Dl us;
      sends = the_confirm;
      is = rw (not_risen (low e.tx), append-nil) refl;
      lined = lines_handed answer.Ok T e.bearer.id Dl us (tm_air, flight.Ack e.bearer.id e.bearer.g num) refl ∙ ap (λ ls. ls ++ ack_line e.bearer Dl num ∷ []) (handed_lines e.bearer.id Dl us);
      plain = plain_handed e.bearer.id Dl us (ack_line e.bearer Dl num) tt;
      same = halves_with h table halves same e.bearer.id (within_table table e.bearer.id e at) (record e { rx = rx }) x refl tags;
    }

    -- by the COUNT of a data PDU
    data_as : (body : List ℕ) (o : Option ℕ)
        → TerminalDid h (accepted (half_did the_terminal e.bearer.id (half.stepped the_half the_confirm (let done = received_as the_half.setup e.rx body o in (record the_half { rx = done.0 }, done.1)))))
        (let done = with_count h Dl e body o in (with_bearer table e.bearer.id (Some done.0), (answer.Ok, done.1 ++ ack_line e.bearer Dl num ∷ [])))
    data_as body None = handed_as e.rx []
    data_as body (Some count) =
        elim (cases_Bool (count == 2 ^ 32 - 1)) [
          | inl last ↦ did_by h (rw last refl) (rw last refl) (handed_as e.rx [])
          | inr other ↦
              let done = put e.rx count (plane.ciphered h e.bearer.id Dl count body) in
              let clear = ciphered_same h T e.bearer (legs_as x) Dl count body in
              did_by h (rw (other, clear) refl) (rw other refl) (handed_as done.0 (handed_of done.1))
        ]

    -- a report confirms
    report_as : (fmc : ℕ) (bits : List ℕ)
        → TerminalDid h (accepted (half_did the_terminal e.bearer.id (half.pdu_came the_half M num (Ok (report fmc bits)))))
        (let done = pdu_taken h Dl e num (Ok (report fmc bits)) in (with_bearer table e.bearer.id (Some done.0), (answer.Ok, done.1)))
    report_as fmc bits =
        let tx = reported e.tx fmc bits in
        let cs = filter (names fmc bits) (counts e.tx.kept) in
        let y = settled x cs in
        record {
          after = holding e.bearer.id (Some (entity_as h T e.bearer y tx e.rx)) halves;
          notes = uplink_freed e.bearer.id (risen (low e.tx) (low tx));
          sends = the_confirm;
          is = rw (settled_legs x cs) refl;
          lined = elim (cases_Bool (nat_lt (low e.tx) (low tx))) [ inl yes' ↦ rw yes' refl | inr no' ↦ rw no' refl ];
          plain = elim (cases_Bool (nat_lt (low e.tx) (low tx))) [ inl yes' ↦ rw yes' (tt, (tt, tt)) | inr no' ↦ rw no' (tt, tt) ];
          same = halves_with h table halves same e.bearer.id (within_table table e.bearer.id e at) (record e { tx = tx }) y refl (tags-settled x cs ∙ tags);
        }

    -- a PDU that is read, or is not
    read_as : (r : Result Content PduErr)
        → TerminalDid h (accepted (half_did the_terminal e.bearer.id (half.pdu_came the_half M num r)))
        (let done = pdu_taken h Dl e num r in (with_bearer table e.bearer.id (Some done.0), (answer.Ok, done.1)))
    read_as (Err why) = nothing_came x tags
    read_as (Ok (sdu shown body)) = data_as body (count_for e.bearer.n e.rx.deliv shown)
    read_as (Ok (report fmc bits)) = report_as fmc bits

    -- a PDU over the air
    pdu_came : (g : ℕ) (tag : Option ℕ) (pdu : List ℕ) → let f = flight.Air e.bearer.id g num tag pdu in
        TerminalDid h (accepted (air_taken_by the_terminal M f e.bearer.id (Some the_half))) (let done = taken_for h Dl table e.bearer.id f (Some e) in (done.0, (answer.Ok, done.1)))
    pdu_came g tag pdu =
        let named = eq-eqb e.bearer.id e.bearer.id refl in
        elim (cases_Bool (g == e.bearer.g)) [
          | inl mine ↦ let mine' = eqb_sym e.bearer.g g ∙ mine in did_by h (rw (named, mine') refl) (rw mine refl) (read_as (decoded e.bearer.n pdu))
          | inr other ↦ let other' = eqb_sym e.bearer.g g ∙ other in did_by h (rw (named, other') refl) (rw other refl) (nothing_came x tags)
        ]

    -- a confirm over the air
    ack_came : (g : ℕ) → let f = flight.Ack e.bearer.id g num in
        TerminalDid h (accepted (air_taken_by the_terminal M f e.bearer.id (Some the_half))) (let done = taken_for h Dl table e.bearer.id f (Some e) in (done.0, (answer.Ok, done.1)))
    ack_came g =
        let named = eq-eqb e.bearer.id e.bearer.id refl in
        elim (cases_Bool (g == e.bearer.g)) [
          | inl mine ↦ let mine' = eqb_sym e.bearer.g g ∙ mine in did_by h (rw (named, mine') refl) (rw mine refl) (nothing_came (acked_in x num) (tags-acked x num ∙ tags))
          | inr other ↦ let other' = eqb_sym e.bearer.g g ∙ other in did_by h (rw (named, other') refl) (rw other refl) (nothing_came x tags)
        ]

-- a PDU comes for an identity
pub pdu_down : (h : Header) (table : Table) (halves : List (ℕ × Entity)) → SameTerminal h table halves → (id g num : ℕ) (tag : Option ℕ) (pdu : List ℕ)
    → {o : Option Entities} {p : Option Entity} → SameHalf h id o p → bearer_in table id ≡ o → let f = flight.Air id g num tag pdu in
    TerminalDid h (accepted (air_taken_by (terminal_as h halves) M f id p)) (let done = taken_for h Dl table id f o in (done.0, (answer.Ok, done.1)))
pdu_down h table halves same id g num tag pdu no_half at = record { after = halves; notes = []; sends = []; is = refl; lined = refl; plain = tt; same = same }
pdu_down h table halves same id g num tag pdu (a_half e x named tags) at =
    let P : ℕ → Type 0 = λ j. bearer_in table j ≡ Some e → let f = flight.Air j g num tag pdu in
    TerminalDid h (accepted (air_taken_by (terminal_as h halves) M f j (Some (entity_as h T e.bearer x e.tx e.rx)))) (let done = taken_for h Dl table j f (Some e) in (done.0, (answer.Ok, done.1))) in
    subst P named (λ here. pdu_came h table halves same e x tags here num g tag pdu) at

-- a confirm
pub ack_down : (h : Header) (table : Table) (halves : List (ℕ × Entity)) → SameTerminal h table halves → (id g num : ℕ)
    → {o : Option Entities} {p : Option Entity} → SameHalf h id o p → bearer_in table id ≡ o → let f = flight.Ack id g num in
    TerminalDid h (accepted (air_taken_by (terminal_as h halves) M f id p)) (let done = taken_for h Dl table id f o in (done.0, (answer.Ok, done.1)))
ack_down h table halves same id g num no_half at = record { after = halves; notes = []; sends = []; is = refl; lined = refl; plain = tt; same = same }
ack_down h table halves same id g num (a_half e x named tags) at =
    let P : ℕ → Type 0 = λ j. bearer_in table j ≡ Some e → let f = flight.Ack j g num in
    TerminalDid h (accepted (air_taken_by (terminal_as h halves) M f j (Some (entity_as h T e.bearer x e.tx e.rx)))) (let done = taken_for h Dl table j f (Some e) in (done.0, (answer.Ok, done.1))) in
    subst P named (λ here. ack_came h table halves same e x tags here num g) at
