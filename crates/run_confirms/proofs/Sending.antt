-- When an anchor sends: at a submission, at its opening, at a recovery, at the failure of the SCG, and a status report.
use Rattle.std.proofs.Common.{◌≡◌, ℕ, ◌≤◌, ◌∷◌, [], true, false, Bool, List, Option, None, map, not, refl, sym, ap, ◌∙◌, arith}
use Rattle.std.specs.Prelude.{◌&&◌, ◌||◌, is_some}
use Rattle.std.specs.List.{AllByRecursion, filter_map}
use Rattle.std.proofs.lemmas.Bool.{false≢true}
use Rattle.dc_base.specs.declared.nodes.Cell.{Cell}
use Rattle.dc_base.specs.declared.nodes.Cell.TheVariants.{Mcg, Scg}
use Rattle.nr_u.specs.declared.tunnel.outbound.Sent.{Sent}
use Rattle.nr_u.proofs.History.{history_none}
use Rattle.pdcp_pdu.specs.StatusReport.{report_pdu}
use Rattle.pdcp_rx.specs.Entries.{counts_of}
use Rattle.pdcp_tx.specs.Sender.{Sender, counts, sdu_at}
use Rattle.split_leg.specs.Legs.{leg_at}
use Rattle.split_leg.specs.Routes.{has_leg, is_live}
use Rattle.node_rules.specs.Anchor.{Active, new_tunnel}
use Rattle.node_rules.specs.AnchorSending.{anchor_recovers, recover_at, report_at, with_failure, with_tx}
use Rattle.node_rules.specs.Choices.{Choices}
use Rattle.node_rules.specs.Entity.{Entity}
use Rattle.node_rules.specs.Sending.{pdu_at, send_each}
use Rattle.run_legs.proofs.Sends.{each_sent}
use Rattle.run_confirms.specs.Anchors.{AnchorSent, HasSent, Sends, far_cell, has_live, own_cell, sent_on, was_put}
use Rattle.run_confirms.specs.States.{HasEmptyLegs}
use Rattle.run_confirms.proofs.Anchors.{counts_there, fit_counts, fit_put, none_step, rises_by, sends_step}
use Rattle.run_confirms.proofs.Arrivals.{each_both, each_with}
use Rattle.run_confirms.proofs.Legs.{RisesTo}
use Rattle.run_confirms.proofs.Puts.{grown_still, sent_there}
use Rattle.run_confirms.proofs.Statuses.{all_map}

-- ---- an anchor in a new generation

-- a closed anchor with new legs and a new tunnel sent nothing
pub new_sent : (e : Entity) → HasEmptyLegs e.setup → AnchorSent [] [] (record { entity = e; is_open = false; tunnel = new_tunnel e.setup.n })
new_sent e new = record {
  sent = record {
    own = none (own_cell e);
    far = none_far (far_cell e);
    history = history_none (new_tunnel e.setup.n) refl refl;
    unasked = tt;
    rise = λ j k c d less at_j at_k. absurd cc;
    below = λ number count at. absurd cc;
    marks = λ number count at. absurd cc;
    same_n = refl;
  };
  closed = λ shut. (refl, refl);
  all_sent = λ opened live. absurd (false≢true opened);
}
  where
    none_far : (cell : Cell) → sent_on (leg_at e.setup.legs cell) ≡ []
    none_far Mcg = new.0
    none_far Scg = new.1

    none : (cell : Cell) → map (λ (s : Sent). s.count) (sent_on (leg_at e.setup.legs cell)) ≡ []
    none Mcg = ap (map (λ (s : Sent). s.count)) new.0
    none Scg = ap (map (λ (s : Sent). s.count)) new.1

-- ---- what is known of the sending side

-- another sending side, with no lower next COUNT
pub with_tx_sent : (air : List (Option ℕ)) (tun : List Sent) (a : Active) (tx : Sender) → a.entity.tx.next ≤ tx.next → HasSent air tun a
    → HasSent air tun (with_tx a tx)
with_tx_sent air tun a tx le is = record {
  own = is.own;
  far = is.far;
  history = is.history;
  unasked = is.unasked;
  rise = is.rise;
  below = λ number count at. omega (arith, le, is.below number count at);
  marks = is.marks;
  same_n = is.same_n;
}

-- the first sends on the far leg rise
pub far_rises : (air : List (Option ℕ)) (tun : List Sent) (a : Active) → HasSent air tun a
    → RisesTo a.entity.tx.next (sent_on (leg_at a.entity.setup.legs (far_cell a.entity)))
far_rises air tun a is = rw is.far (is.rise, is.below)

-- an anchor that is open did not close
pub not_shut : {X : Type 0} (b : Bool) → b ≡ true → b ≡ false → X
not_shut b opened shut = absurd (false≢true (sym shut ∙ opened))

-- what was kept and sent is sent still; what is sent now of what is kept is there
pub still_sent : (c : Choices) (e : Entity) (cs : List ℕ) (es : List (ℕ × List ℕ)) → AllByRecursion (λ (x : ℕ × List ℕ). was_put e.setup.legs x.0 ≡ true) es
    → AllByRecursion (λ (x : ℕ × List ℕ). was_put (send_each c (filter_map (pdu_at e) cs) e.setup.legs).0 x.0 ≡ true) es
still_sent c e cs es all =
    let pdus = filter_map (pdu_at e) cs in
    each_with (λ (x : ℕ × List ℕ). was_put e.setup.legs x.0 ≡ true) (λ (x : ℕ × List ℕ). was_put (send_each c pdus e.setup.legs).0 x.0 ≡ true) es all
    (λ x there. grown_still (send_each c pdus e.setup.legs).1 e.setup.legs (send_each c pdus e.setup.legs).0 x.0 (each_sent c pdus e.setup.legs).grown there)

now_sent : (c : Choices) (e : Entity) (cs : List ℕ) → has_live e.setup.legs ≡ true
    → AllByRecursion (λ k. is_some (sdu_at e.tx.kept k) ≡ true → was_put (send_each c (filter_map (pdu_at e) cs) e.setup.legs).0 k ≡ true) cs
now_sent c e cs live =
    let pdus = filter_map (pdu_at e) cs in
    counts_there e (send_each c pdus e.setup.legs).0 cs (sent_there pdus e.setup.legs (send_each c pdus e.setup.legs).0 (send_each c pdus e.setup.legs).1 (each_sent c pdus e.setup.legs) live)

-- of the entries of these COUNTs, all of which are kept
pub entries_sent : (c : Choices) (e : Entity) (cs : List ℕ) (es : List (ℕ × List ℕ)) → has_live e.setup.legs ≡ true → counts es ≡ cs
    → AllByRecursion (λ (x : ℕ × List ℕ). is_some (sdu_at e.tx.kept x.0) ≡ true) es
    → AllByRecursion (λ (x : ℕ × List ℕ). was_put (send_each c (filter_map (pdu_at e) cs) e.setup.legs).0 x.0 ≡ true) es
entries_sent c e cs es live is kept =
    let legs = (send_each c (filter_map (pdu_at e) cs) e.setup.legs).0 in
    each_both (λ (x : ℕ × List ℕ). is_some (sdu_at e.tx.kept x.0) ≡ true → was_put legs x.0 ≡ true) (λ (x : ℕ × List ℕ). is_some (sdu_at e.tx.kept x.0) ≡ true) (λ (x : ℕ × List ℕ). was_put legs x.0 ≡ true) es
    (of_counts (λ k. is_some (sdu_at e.tx.kept k) ≡ true → was_put legs k ≡ true) es (rw is (now_sent c e cs live))) kept (λ x gives there. gives there)
  where
    of_counts : (P : ℕ → Type 0) (es : List (ℕ × List ℕ)) → AllByRecursion P (counts es) → AllByRecursion (λ (x : ℕ × List ℕ). P x.0) es
    of_counts P [] all = tt
    of_counts P (x ∷ es) all = (all.0, of_counts P es all.1)

-- ---- a recovery, and the first sends of all that is kept

-- an open anchor sends again what it keeps
pub recovers : (c : Choices) (air : List (Option ℕ)) (tun : List Sent) (a : Active) → a.is_open ≡ true → AnchorSent air tun a
    → Sends air tun a (anchor_recovers c a)
recovers c air tun a opened is =
    let e = a.entity in
    let cs = counts e.tx.kept in
    sends_step c air tun a (filter_map (pdu_at e) cs) is.sent
    (rises_by c (filter_map (pdu_at e) cs) e.setup.legs e.tx.next e.tx.next (far_cell e)
    (λ live. fit_counts e e.setup.legs e.tx.next e.tx.next cs (fit_put e.setup.legs e.tx.next e.tx.next cs (omega arith) (all_map (λ (x : ℕ × List ℕ). was_put e.setup.legs x.0 ≡ true) (λ k. was_put e.setup.legs k ≡ true) (λ (x : ℕ × List ℕ). x.0) e.tx.kept (is.all_sent opened live) (λ x there. there))))
    (omega arith) (far_rises air tun a is.sent))
    (λ shut. not_shut a.is_open opened shut)
    (λ also live. still_sent c e cs e.tx.kept (is.all_sent opened live))

-- PDCP data recovery is asked for
pub recover_step : (c : Choices) (air : List (Option ℕ)) (tun : List Sent) (a : Active) → AnchorSent air tun a → Sends air tun a (recover_at a.is_open c a)
recover_step c air tun a is = by a.is_open refl
  where
    by : (b : Bool) → a.is_open ≡ b → Sends air tun a (recover_at b c a)
    by true opened = recovers c air tun a opened is
    by false shut = none_step air tun a a is

-- ---- the failure of the SCG

-- a leg that failed is live no more
failure_sent : (air : List (Option ℕ)) (tun : List Sent) (a : Active) → AnchorSent air tun a → AnchorSent air tun (record a { entity = with_failure a.entity })
failure_sent air tun a is = record {
  sent = record {
    own = on_cell (own_cell a.entity) ∙ is.sent.own;
    far = on_far (far_cell a.entity) ∙ is.sent.far;
    history = is.sent.history;
    unasked = is.sent.unasked;
    rise = is.sent.rise;
    below = is.sent.below;
    marks = is.sent.marks;
    same_n = is.sent.same_n;
  };
  closed = is.closed;
  all_sent = λ opened live. is.all_sent opened (was_live live);
}
  where
    on_far : (cell : Cell) → sent_on (leg_at (with_failure a.entity).setup.legs cell) ≡ sent_on (leg_at a.entity.setup.legs cell)
    on_far Mcg = refl
    on_far Scg = refl

    on_cell : (cell : Cell)
        → map (λ (s : Sent). s.count) (sent_on (leg_at (with_failure a.entity).setup.legs cell)) ≡ map (λ (s : Sent). s.count) (sent_on (leg_at a.entity.setup.legs cell))
    on_cell Mcg = refl
    on_cell Scg = refl

    was_live : has_live (with_failure a.entity).setup.legs ≡ true → has_live a.entity.setup.legs ≡ true
    was_live live = by (is_live a.entity.setup.legs Mcg) (has_leg a.entity.setup.legs.shape.legs Scg) live
      where
        by : (m h : Bool) → (m || (h && false)) ≡ true → (m || (h && not a.entity.setup.legs.scg.failed)) ≡ true
        by true h live = refl
        by false true live = absurd cc
        by false false live = absurd cc

pub failure_step : (c : Choices) (air : List (Option ℕ)) (tun : List Sent) (a : Active) → AnchorSent air tun a
    → Sends air tun a (recover_at a.is_open c (record a { entity = with_failure a.entity }))
failure_step c air tun a is =
    let step = recover_step c air tun (record a { entity = with_failure a.entity }) (failure_sent air tun a is) in
    record { more_air = step.more_air; more_tun = step.more_tun; after = step.after; flights = step.flights }

-- ---- a status report

pub report_step : (c : Choices) (air : List (Option ℕ)) (tun : List Sent) (a : Active) → AnchorSent air tun a → Sends air tun a (report_at a.is_open c a)
report_step c air tun a is = by a.is_open refl
  where
    by : (b : Bool) → a.is_open ≡ b → Sends air tun a (report_at b c a)
    by true opened =
        let e = a.entity in
        let pdus : List (Option ℕ × List ℕ) = (None, report_pdu e.rx.deliv (counts_of e.rx.stored)) ∷ [] in
        sends_step c air tun a pdus is.sent
        (rises_by c pdus e.setup.legs e.tx.next e.tx.next (far_cell e) (λ live. (e.tx.next, (omega arith, omega arith))) (omega arith) (far_rises air tun a is.sent))
        (λ shut. not_shut a.is_open opened shut)
        (λ also live. each_with (λ (x : ℕ × List ℕ). was_put e.setup.legs x.0 ≡ true) (λ (x : ℕ × List ℕ). was_put (send_each c pdus e.setup.legs).0 x.0 ≡ true) e.tx.kept (is.all_sent opened live)
        (λ x there. grown_still (send_each c pdus e.setup.legs).1 e.setup.legs (send_each c pdus e.setup.legs).0 x.0 (each_sent c pdus e.setup.legs).grown there))
    by false shut = none_step air tun a a is
