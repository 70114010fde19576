-- The master has a bearer recovered, and hears that it was.
use Rattle.std.proofs.Common.{ℕ, ◌≡◌, ◌==◌, ◌++◌, true, List, [], ◌∷◌, Option, Some, None, length, refl, ap, subst, ◌∙◌}
use Rattle.std.specs.Prelude.{find, map}
use Rattle.std.specs.List.{AllByRecursion, filter_map}
use Rattle.std.specs.Option.{option_map}
use Rattle.std.proofs.lemmas.Bool.{eq-eqb}
use Rattle.std.proofs.lemmas.List.{append-nil}
use Rattle.dc_base.specs.declared.answers.Answer.TheVariants as answer
use Rattle.dc_base.specs.declared.answers.Refusal.TheVariants as refusal
use Rattle.dc_base.specs.declared.events.Event.TheVariants as event
use Rattle.dc_base.specs.declared.events.Header.{Header}
use Rattle.dc_base.specs.declared.events.Line.TheVariants as line
use Rattle.dc_base.specs.declared.events.Note.TheVariants as note
use Rattle.dc_base.specs.declared.flights.Flight.TheVariants as flight
use Rattle.dc_base.specs.declared.nodes.Dir.TheVariants.{Dl}
use Rattle.dc_base.specs.declared.nodes.Node.TheVariants.{M, T}
use Rattle.dc_base.specs.declared.records.Rec.TheVariants.{Recov, Recovd}
use Rattle.nr_u.specs.Tunnel.Outgoing.{Outgoing}
use Rattle.pdcp_tx.specs.Sender.{Entry, counts, sdu_at}
use Rattle.transcript.specs.Bearers.{OpenCommand, change, recovery}
use Rattle.transcript.specs.Content.{mt_air, mt_ctl, tm_ctl}
use Rattle.master_runs.specs.Control.{Nodes, recovered, recovery_commanded, told_master, unless_open}
use Rattle.master_runs.specs.Entities.{Entities, Table, bearer_in}
use Rattle.master_runs.specs.Plane.{recovers, resends}
use Rattle.master_runs.proofs.Tables.{within_table}
use Rattle.node_rules.specs.Anchor.{Active, AnchorState, active_anchor}
use Rattle.node_rules.specs.AnchorSending as anchor
use Rattle.node_rules.specs.Choices.{Choices, Send}
use Rattle.node_rules.specs.Effects.{accepted, both, quiet, told}
use Rattle.node_rules.specs.Entity.{pdu_of}
use Rattle.node_rules.specs.Held.{held, holding}
use Rattle.node_rules.specs.Master.{MasterNode, anchor_did}
use Rattle.node_rules.specs.MasterStep as master
use Rattle.node_rules.specs.Sending.{sends}
use Rattle.node_rules.specs.declared.bearers.Window.{Window}
use Rattle.node_rules.specs.declared.commands.Command.{Command}
use Rattle.node_rules.specs.declared.commands.Command.TheVariants.{Recovering as recovering}
use Rattle.node_rules.specs.declared.commands.Row.{Row}
use Rattle.node_rules.specs.declared.inputs.Input.TheVariants.{Come}
use Rattle.node_rules.specs.declared.inputs.Outcome.{Outcome as WholeOutcome}
use Rattle.master_runs.specs.Forms.{Leg, legs_as, setup_as, entity_as, all_more, one_more, flights_from, all_on}
use Rattle.master_runs.specs.Same.{Inside, IsBearer, IsConfirmed, SameBearer, no_bearer, a_bearer, SameCommand, no_command, a_change, a_recovery, SameMaster, MasterDid, master_as}
use Rattle.master_runs.proofs.SameSending.{anchor_with, sdu_of_each, pdus_of_all}
use Rattle.master_runs.proofs.Lining.{lines_record_down}
use Rattle.master_runs.proofs.Ciphering.{kept_pdus, tags_kept, resends_same, plain_resends}
use Rattle.master_runs.proofs.Legs.{tags-more, many_same}
use Rattle.master_runs.proofs.Bearers.{active_as, bearer_map, did_there, bearers_with}
use Rattle.master_runs.proofs.SameSubmitting.{unchanged, confirmed-more}
use Rattle.master_runs.proofs.Serving.{IsServable}

-- what was confirmed is so after more PDUs
pub confirmed-all : (kept : List Entry) (x : Leg) (ps : List (Option ℕ × List ℕ)) → AllByRecursion (IsConfirmed kept) x.pdus → AllByRecursion (IsConfirmed kept) (all_more x ps).pdus
confirmed-all kept x [] all = all
confirmed-all kept x (p ∷ ps) all = confirmed-all kept (one_more x p) ps (confirmed-more kept x.pdus _ refl all)

-- nodes and master with this command open
abbrev pub with_busy : Nodes → Option OpenCommand → Nodes
with_busy s g = record s { busy = g }

abbrev pub with_command : Inside → Option Command → Inside
with_command y k = record y { command = k }

-- the nodes
abbrev pub nodes_as : ℕ → Option OpenCommand → Table → Table → Nodes
nodes_as drawn g table terminal = record { drawn = drawn; busy = g; master = table; terminal = terminal }

-- a recovery is open from now on
same_recovering : (h : Header) (s : Nodes) (y : Inside) → s.busy ≡ None → y.command ≡ None → SameMaster h s y → (id : ℕ)
    → SameMaster h (with_busy s (Some (recovery id))) (with_command y (Some (recovering id true None)))
same_recovering h s y free idle same id = record {
  bearers = λ k. bearer_map h s.drawn s.busy y.command s.drawn (Some (recovery id)) (Some (recovering id true None)) k (λ e x r opened w is. record {
    named = is.named;
    tags = is.tags;
    confirmed = is.confirmed;
    n = is.n;
    tx_n = is.tx_n;
    anchor = is.anchor;
    accepted = is.accepted;
    told = is.told;
    known = is.known;
    unsettled = refl;
    open_is = is.open_is ∙ rw free refl;
    unused = λ open'. absurd cc;
  }) (same.bearers k);
  command = a_recovery id;
  unclaimed = same.unclaimed;
}

-- none is from now on
same_idle : (h : Header) (s : Nodes) (y : Inside) (i : ℕ) → s.busy ≡ Some (recovery i) → SameMaster h s y → SameMaster h (with_busy s None) (with_command y None)
same_idle h s y i busy same = record {
  bearers = λ k. bearer_map h s.drawn s.busy y.command s.drawn None None k (λ e x r opened w is. record {
    named = is.named;
    tags = is.tags;
    confirmed = is.confirmed;
    n = is.n;
    tx_n = is.tx_n;
    anchor = is.anchor;
    accepted = is.accepted;
    told = is.told;
    known = is.known;
    unsettled = refl;
    open_is = is.open_is ∙ rw busy refl;
    unused = λ open'. absurd cc;
  }) (same.bearers k);
  command = no_command;
  unclaimed = same.unclaimed;
}

module _ (h : Header) (c : Choices) where
  -- the bearer is there, and no command is open
  recovers_it : (s : Nodes) (y : Inside) → SameMaster h s y → (free : s.busy ≡ None) (idle : y.command ≡ None) (id : ℕ)
      (e : Entities) (x : Leg) (r : Row) (tunnel : Outgoing) (w : Window) → IsBearer s.drawn s.busy y.command id e x r true w
      → bearer_in s.master id ≡ Some e → find (λ r. r.id == id) y.rows ≡ Some r → held id y.windows ≡ Some w → IsServable e
      → MasterDid h
      (let done = anchor_did (master_as h s.drawn (with_command y (Some (recovering id true None)))) id (anchor.recover c (active_anchor (active_as h e.bearer x e.tx e.rx true tunnel))) in
      accepted (done.0, both (told M T (Recov id)) (both done.1 quiet)))
      (recovered h s id (Some e))
  recovers_it s y same free idle id e x r tunnel w is at row window_at servable =
      let b = e.bearer in
      let s' = with_busy s (Some (recovery id)) in
      let y' = with_command y (Some (recovering id true None)) in
      let same' = same_recovering h s y free idle same id in
      let m = master_as h s.drawn y' in
      let the_entity = entity_as h M b x e.tx e.rx in
      let ps = kept_pdus h Dl b (legs_as x) e.tx.kept in
      let z = all_more x ps in
      let e' = (recovers h Dl e).0 in
      let found : filter_map (λ k. option_map (λ sdu. (Some k, pdu_of (setup_as h M b (legs_as x)) (k, sdu))) (sdu_at e.tx.kept k)) (counts e.tx.kept) ≡ ps =
      pdus_of_all (λ k sdu. (Some k, pdu_of (setup_as h M b (legs_as x)) (k, sdu))) e.tx.kept e.tx.kept (sdu_of_each b.first e.tx.next e.tx.kept servable.rises) in
      let finish : Active × List Send → MasterNode × WholeOutcome = λ q.
      let done = anchor_did m id (anchor.sent_by q) in accepted (done.0, both (told M T (Recov id)) (both done.1 quiet)) in
      let fs = flights_from b (length x.pdus) ps in
      record {
        after = record y' { anchors = holding id (Some (active_anchor (active_as h b z e.tx e.rx true tunnel))) y.anchors };
        notes = [];
        sends = (mt_ctl, flight.Ctl (Recov id)) ∷ all_on mt_air fs;
        is = ap (λ qs. finish (anchor.with_sends (active_as h b x e.tx e.rx true tunnel) (sends c the_entity qs))) found
            ∙ ap finish (anchor_with h c b x e.tx e.rx true tunnel ps)
            ∙ rw (append-nil (all_on mt_air fs), append-nil (all_on mt_air fs)) refl;
        lined = lines_record_down answer.Ok (flight.Ctl (Recov id)) fs
            ∙ ap (λ ls. line.Send mt_ctl (flight.Ctl (Recov id)) ∷ ls)
            (resends_same h Dl b (legs_as x) (length x.pdus) e.tx.kept ∙ ap (λ k. resends h b Dl k e.tx.kept) (many_same x e.sent is.tags));
        plain = (tt, plain_resends h b Dl (length e.sent) e.tx.kept);
        same = bearers_with h s' y' same' id (within_table s.master id e at) e' z r true tunnel w y.windows row window_at (λ k apart. refl) (record {
          named = is.named;
          tags = tags-more x ps ∙ ap (λ ts. ts ++ map (λ p. p.0) ps) is.tags ∙ ap (λ ts. e.sent ++ ts) (tags_kept h Dl b (legs_as x) e.tx.kept);
          confirmed = confirmed-all e.tx.kept x ps is.confirmed;
          n = is.n;
          tx_n = is.tx_n;
          anchor = is.anchor;
          accepted = is.accepted;
          told = is.told;
          known = is.known;
          unsettled = refl;
          open_is = refl;
          unused = λ open'. absurd cc;
        });
      }

  -- no command is open
  recovers_free : (drawn : ℕ) (table terminal : Table) (y : Inside) (id : ℕ)
      → SameMaster h (nodes_as drawn None table terminal) (with_command y None) → {o : Option Entities} {r : Option Row} {a : Option AnchorState} {w : Option Window}
      → SameBearer h drawn None None id o r a w → bearer_in table id ≡ o → find (λ r. r.id == id) y.rows ≡ r → held id y.anchors ≡ a → held id y.windows ≡ w
      → ((e : Entities) → o ≡ Some e → IsServable e)
      → MasterDid h (master.command_taken c (master_as h drawn (with_command y None)) (event.Recover id)) (recovered h (nodes_as drawn None table terminal) id (unless_open None o))
  recovers_free drawn table terminal y id same no_bearer at row anchor_at window_at servable =
      did_there h (rw row refl) refl (unchanged h c (nodes_as drawn None table terminal) (with_command y None) same refusal.NoBearer)
  recovers_free drawn table terminal y id same (a_bearer e x r opened tunnel w is) at row anchor_at window_at servable =
      let s : Nodes = nodes_as drawn None table terminal in
      let open_bearer : IsBearer drawn None None id e x r true w = subst (λ o. IsBearer drawn None None id e x r o w) is.open_is is in
      let open_anchor : held id y.anchors ≡ Some (active_anchor (active_as h e.bearer x e.tx e.rx true tunnel)) =
      subst (λ o. held id y.anchors ≡ Some (active_anchor (active_as h e.bearer x e.tx e.rx o tunnel))) is.open_is anchor_at in
      did_there h (rw (row, row, is.anchor, open_anchor) refl) refl (recovers_it s (with_command y None) same refl refl id e x r tunnel w open_bearer at row window_at (servable e refl))

  -- a recovery is commanded
  pub recovery_down : (drawn : ℕ) (table terminal : Table) (y : Inside) (id : ℕ) {g : Option OpenCommand} {k : Option Command} → SameCommand g k
      → let s : Nodes = record { drawn = drawn; busy = g; master = table; terminal = terminal } in let z = with_command y k in
      SameMaster h s z → ((e : Entities) → bearer_in table id ≡ Some e → IsServable e)
      → MasterDid h (master.command_taken c (master_as h drawn z) (event.Recover id)) (recovery_commanded h s id)
  recovery_down drawn table terminal y id no_command same servable = recovers_free drawn table terminal y id same (same.bearers id) refl refl refl refl servable
  recovery_down drawn table terminal y id (a_change g i n first shape threshold policy) same servable =
      unchanged h c (record { drawn = drawn; busy = Some (change g); master = table; terminal = terminal }) _ same refusal.Busy
  recovery_down drawn table terminal y id (a_recovery i) same servable =
      unchanged h c (record { drawn = drawn; busy = Some (recovery i); master = table; terminal = terminal }) _ same refusal.Busy

  -- the terminal recovered the bearer
  pub recovered_there : (drawn : ℕ) (table terminal : Table) (y : Inside) (id : ℕ) {g : Option OpenCommand} {k : Option Command} → SameCommand g k → g ≡ Some (recovery id)
      → let s : Nodes = record { drawn = drawn; busy = g; master = table; terminal = terminal } in let z = with_command y k in
      SameMaster h s z → let f = flight.Ctl (Recovd id) in
      MasterDid h (master.master_step c (master_as h drawn z) (Come tm_ctl f)) (let done = told_master s f in (done.0, (answer.Ok, done.1)))
  recovered_there drawn table terminal y id no_command is same = absurd cc
  recovered_there drawn table terminal y id (a_change g i n first shape threshold policy) is same = absurd cc
  recovered_there drawn table terminal y id (a_recovery i) is same =
      let here : i ≡ id = cc in
      let it : (i == id) ≡ true = eq-eqb i id here in
      let s : Nodes = record { drawn = drawn; busy = Some (recovery i); master = table; terminal = terminal } in
      let z = with_command y (Some (recovering i true None)) in
      did_there h {done' = (with_busy s None, (answer.Ok, line.Note note.Done ∷ []))} (rw it refl) (rw it refl) (record {
        after = with_command y None;
        notes = note.Done ∷ [];
        sends = [];
        is = refl;
        lined = refl;
        plain = (tt, tt);
        same = same_idle h s z i refl same;
      })
