-- What the terminal sends: a submission, a report, and what it sends again.
use Rattle.std.proofs.Common.{ℕ, ◌≡◌, ◌+◌, ◌++◌, List, [], ◌∷◌, Option, Some, None, length, refl, ap, subst, ◌∙◌}
use Rattle.std.specs.Prelude.{Ok, Err, Result, map}
use Rattle.std.specs.List.{filter_map, cons_option}
use Rattle.std.specs.Option.{option_map}
use Rattle.dc_base.specs.declared.answers.Answer.TheVariants as answer
use Rattle.dc_base.specs.declared.events.Header.{Header}
use Rattle.dc_base.specs.declared.events.Line.TheVariants as line
use Rattle.dc_base.specs.declared.flights.Flight.TheVariants as flight
use Rattle.dc_base.specs.declared.nodes.Dir.TheVariants.{Ul}
use Rattle.dc_base.specs.declared.nodes.Node.TheVariants.{M, T}
use Rattle.dc_base.specs.declared.records.Rec.TheVariants.{Recovd}
use Rattle.pdcp_pdu.specs.StatusReport.{report_pdu}
use Rattle.pdcp_rx.specs.Entries.{counts_of}
use Rattle.pdcp_tx.specs.Sender.{Sender, counts, Rises}
use Rattle.pdcp_tx.specs.Sending.{take_sdu as taken}
use Rattle.pdcp_tx.specs.declared.tx.TxErr.{TxErr}
use Rattle.pdcp_tx.specs.declared.tx.TxErr.TheVariants as unable
use Rattle.transcript.specs.Content.{tm_air, tm_ctl}
use Rattle.master_runs.specs.Control.{Nodes, recovers_there}
use Rattle.master_runs.specs.Entities.{Entities, Table, bearer_in, with_bearer}
use Rattle.master_runs.specs.Plane.{numbered_as, recovers, resends, submitted}
use Rattle.master_runs.specs.Run.{reported_by}
use Rattle.master_runs.proofs.Room.{has_room}
use Rattle.master_runs.proofs.Tables.{within_table}
use Rattle.node_rules.specs.Choices.{Choices, Send}
use Rattle.node_rules.specs.Effects.{accepted, after_effects, told}
use Rattle.node_rules.specs.Entity.{Entity, pdu_of}
use Rattle.node_rules.specs.Held.{holding}
use Rattle.node_rules.specs.Sending.{pdu_at, sends}
use Rattle.node_rules.specs.Terminal.{half_submitted, half_sent, recovered_half, reported_there, submitted_there}
use Rattle.node_rules.specs.TerminalHalf as half
use Rattle.master_runs.specs.Forms.{Leg, legs_as, setup_as, entity_as, all_more, flights_from, all_on}
use Rattle.master_runs.specs.Same.{tags_of, SameHalf, a_half, no_half, SameTerminal, TerminalDid, terminal_as}
use Rattle.master_runs.proofs.SameSending.{half_sends, sdu-next, sdu_of_each, pdus_of_all}
use Rattle.master_runs.proofs.Lining.{lines_up, lines_record_up}
use Rattle.master_runs.proofs.Ciphering.{kept_pdus, tags_kept, pdu_same, resends_same, plain_resends}
use Rattle.master_runs.proofs.Legs.{tags-more, many_same}
use Rattle.master_runs.proofs.Halves.{halves_with}

module _ (h : Header) (c : Choices) (table : Table) (halves : List (ℕ × Entity)) (same : SameTerminal h table halves) where
  -- a submission that is numbered, or refused
  submitted_as : (id : ℕ) (payload : List ℕ) (e : Entities) (x : Leg) → e.bearer.id ≡ id → tags_of x ≡ e.sent → bearer_in table id ≡ Some e
      → Rises e.bearer.first e.tx.next e.tx.kept → (r : Result (Sender × ℕ) TxErr) → taken e.tx payload ≡ r
      → TerminalDid h (half_submitted (terminal_as h halves) id (half.submit_as c (entity_as h T e.bearer x e.tx e.rx) r))
      (with_bearer table id (Some (numbered_as h Ul e payload r).0), (numbered_as h Ul e payload r).1)
  submitted_as id payload e x named tags at rises (Err (unable.Full lowest next)) is = record {
    after = holding id (Some (entity_as h T e.bearer x e.tx e.rx)) halves;
    notes = [];
    sends = [];
    is = refl;
    lined = refl;
    plain = tt;
    same = halves_with h table halves same id (within_table table id e at) e x named tags;
  }
  submitted_as id payload e x named tags at rises (Err unable.Exhausted) is = record {
    after = holding id (Some (entity_as h T e.bearer x e.tx e.rx)) halves;
    notes = [];
    sends = [];
    is = refl;
    lined = refl;
    plain = tt;
    same = halves_with h table halves same id (within_table table id e at) e x named tags;
  }
  submitted_as id payload e x named tags at rises (Err unable.Memory) is = record {
    after = holding id (Some (entity_as h T e.bearer x e.tx e.rx)) halves;
    notes = [];
    sends = [];
    is = refl;
    lined = refl;
    plain = tt;
    same = halves_with h table halves same id (within_table table id e at) e x named tags;
  }
  submitted_as id payload e x named tags at rises (Ok (tx, count)) is =
      let b = e.bearer in
      let count' = e.tx.next in
      let tx' : Sender = record e.tx { next = e.tx.next + 1; kept = e.tx.kept ++ (e.tx.next, payload) ∷ [] } in
      let P : Sender × ℕ → Type 0 = λ q. TerminalDid h (half_submitted (terminal_as h halves) id (half.submit_as c (entity_as h T b x e.tx e.rx) (Ok (q.0, q.1))))
      (with_bearer table id (Some (numbered_as h Ul e payload (Ok (q.0, q.1))).0), (numbered_as h Ul e payload (Ok (q.0, q.1))).1) in
      let the_half = entity_as h T b x tx' e.rx in
      let pdu = pdu_of (setup_as h T b (legs_as x)) (count', payload) in
      let ps : List (Option ℕ × List ℕ) = (Some count', pdu) ∷ [] in
      let found : filter_map (pdu_at the_half) (count' ∷ []) ≡ ps =
      ap (λ o. cons_option (option_map (λ sdu. (Some count', pdu_of (setup_as h T b (legs_as x)) (count', sdu))) o) []) (sdu-next b.first count' payload e.tx.kept rises) in
      let e' : Entities = record e { tx = tx'; sent = e.sent ++ Some count' ∷ [] } in
      subst P (has_room e.tx tx payload count is).is (record {
        after = holding id (Some (entity_as h T b (all_more x ps) tx' e.rx)) halves;
        notes = [];
        sends = all_on tm_air (flights_from b (length x.pdus) ps);
        is = ap (λ qs. half_submitted (terminal_as h halves) id (let done = half.with_sends (sends c the_half qs) in (done.0, answer.Ok, done.1))) found
            ∙ ap (λ (done : Entity × List Send). half_submitted (terminal_as h halves) id (done.0, answer.Ok, done.1)) (half_sends h c b x tx' e.rx ps);
        lined = lines_up answer.Ok (flights_from b (length x.pdus) ps)
            ∙ ap (λ k. line.Send tm_air (flight.Air b.id b.g k (Some count') pdu) ∷ []) (many_same x e.sent tags)
            ∙ ap (λ u. line.Send tm_air (flight.Air b.id b.g (length e.sent) (Some count') u) ∷ []) (pdu_same h Ul b (legs_as x) count' payload);
        plain = (tt, tt);
        same = halves_with h table halves same id (within_table table id e at) e' (all_more x ps) named (tags-more x ps ∙ ap (λ ts. ts ++ Some count' ∷ []) tags);
      })

  -- a payload is submitted
  pub submitted_up : (id : ℕ) (payload : List ℕ) {o : Option Entities} {p : Option Entity} → SameHalf h id o p → bearer_in table id ≡ o
      → ((e : Entities) → o ≡ Some e → Rises e.bearer.first e.tx.next e.tx.kept)
      → TerminalDid h (submitted_there c (terminal_as h halves) id payload p) (submitted h Ul table id payload o)
  submitted_up id payload no_half at rises = record { after = halves; notes = []; sends = []; is = refl; lined = refl; plain = tt; same = same }
  submitted_up id payload (a_half e x named tags) at rises = submitted_as id payload e x named tags at (rises e refl) (taken e.tx payload) refl

  -- a report is asked for
  pub reported_up : (id : ℕ) {o : Option Entities} {p : Option Entity} → SameHalf h id o p → bearer_in table id ≡ o
      → TerminalDid h (reported_there c (terminal_as h halves) id p) (reported_by Ul table id o)
  reported_up id no_half at = record { after = halves; notes = []; sends = []; is = refl; lined = refl; plain = tt; same = same }
  reported_up id (a_half e x named tags) at =
      let b = e.bearer in
      let ps : List (Option ℕ × List ℕ) = (None, report_pdu e.rx.deliv (counts_of e.rx.stored)) ∷ [] in
      let e' : Entities = record e { sent = e.sent ++ None ∷ [] } in
      record {
        after = holding id (Some (entity_as h T b (all_more x ps) e.tx e.rx)) halves;
        notes = [];
        sends = all_on tm_air (flights_from b (length x.pdus) ps);
        is = ap (λ (done : Entity × List Send). accepted (half_sent (terminal_as h halves) id done)) (half_sends h c b x e.tx e.rx ps);
        lined = lines_up answer.Ok (flights_from b (length x.pdus) ps)
            ∙ ap (λ k. line.Send tm_air (flight.Air b.id b.g k None (report_pdu e.rx.deliv (counts_of e.rx.stored))) ∷ []) (many_same x e.sent tags);
        plain = (tt, tt);
        same = halves_with h table halves same id (within_table table id e at) e' (all_more x ps) named (tags-more x ps ∙ ap (λ ts. ts ++ None ∷ []) tags);
      }

-- a bearer is recovered
pub recovered_up : (h : Header) (c : Choices) (s : Nodes) (halves : List (ℕ × Entity)) → SameTerminal h s.terminal halves
    → (id : ℕ) {o : Option Entities} {p : Option Entity} → SameHalf h id o p → bearer_in s.terminal id ≡ o
    → ((e : Entities) → o ≡ Some e → Rises e.bearer.first e.tx.next e.tx.kept)
    → TerminalDid h (accepted (recovered_half c (terminal_as h halves) id p)) ((recovers_there h s id o).0.terminal, (answer.Ok, (recovers_there h s id o).1))
recovered_up h c s halves same id no_half at rises = record { after = halves; notes = []; sends = []; is = refl; lined = refl; plain = tt; same = same }
recovered_up h c s halves same id (a_half e x named tags) at rises =
    let b = e.bearer in
    let the_half = entity_as h T b x e.tx e.rx in
    let ps = kept_pdus h Ul b (legs_as x) e.tx.kept in
    let e' = (recovers h Ul e).0 in
    let found : filter_map (pdu_at the_half) (counts e.tx.kept) ≡ ps =
    pdus_of_all (λ count sdu. (Some count, pdu_of (setup_as h T b (legs_as x)) (count, sdu))) e.tx.kept e.tx.kept (sdu_of_each b.first e.tx.next e.tx.kept (rises e refl)) in
    let first : Send = (tm_ctl, flight.Ctl (Recovd id)) in
    record {
      after = holding id (Some (entity_as h T b (all_more x ps) e.tx e.rx)) halves;
      notes = [];
      sends = first ∷ all_on tm_air (flights_from b (length x.pdus) ps);
      is = ap (λ qs. accepted (after_effects (told T M (Recovd id)) (half_sent (terminal_as h halves) id (half.with_sends (sends c the_half qs))))) found
          ∙ ap (λ (done : Entity × List Send). accepted (after_effects (told T M (Recovd id)) (half_sent (terminal_as h halves) id done))) (half_sends h c b x e.tx e.rx ps);
      lined = lines_record_up answer.Ok (flight.Ctl (Recovd id)) (flights_from b (length x.pdus) ps)
          ∙ ap (λ ls. line.Send tm_ctl (flight.Ctl (Recovd id)) ∷ ls)
          (resends_same h Ul b (legs_as x) (length x.pdus) e.tx.kept ∙ ap (λ k. resends h b Ul k e.tx.kept) (many_same x e.sent tags));
      plain = (tt, plain_resends h b Ul (length e.sent) e.tx.kept);
      same = halves_with h s.terminal halves same id (within_table s.terminal id e at) e' (all_more x ps) named
          (tags-more x ps ∙ ap (λ ts. ts ++ map (λ p. p.0) ps) tags ∙ ap (λ ts. e.sent ++ ts) (tags_kept h Ul b (legs_as x) e.tx.kept));
    }
