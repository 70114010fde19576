-- An ack, and a delivery status, at an anchor: they confirm only what was received, and what is sent again was sent before.
use Rattle.std.proofs.Common.{◌≡◌, ℕ, ◌≤◌, ◌^◌, ◌∷◌, [], true, false, Bool, List, Option, Some, None, ltb, map, not, refl, sym, ap, ◌∙◌, subst, inl, inr, arith}
use Rattle.std.specs.Prelude.{◌==◌, IfSome, filter, option_and_then, option_map, cond, slice_get}
use Rattle.std.specs.List.{AllByRecursion, filter_map}
use Rattle.std.specs.Option.{IsSomeAnd}
use Rattle.std.proofs.lemmas.Bool.{cases_Bool}
use Rattle.std.proofs.lemmas.Option.{slice_get-map}
use Rattle.nr_u.specs.declared.frame.Frame.{Frame}
use Rattle.nr_u.specs.declared.frame.Frame.TheVariants.{Status, User}
use Rattle.nr_u.specs.declared.tunnel.outbound.Sent.{Sent}
use Rattle.nr_u.specs.Tunnel.Incoming.{contains}
use Rattle.nr_u.specs.Tunnel.Outgoing.{Counted, Outgoing, asks, confirmed_after}
use Rattle.nr_u.specs.Tunnel.Verdicts.{after_frame, again_of, confirmed_of}
use Rattle.nr_u.proofs.ByNumber.{cmp_tells}
use Rattle.nr_u.proofs.History.{history_frame}
use Rattle.pdcp_tx.specs.Sender.{counts, low}
use Rattle.split_leg.specs.declared.leg.Pdu.{Pdu}
use Rattle.split_leg.specs.Legs.{acked_count, count_unless_acked, leg_at, with_ack, with_leg}
use Rattle.node_rules.specs.Anchor.{Active}
use Rattle.node_rules.specs.AnchorReceiving.{acked, ascending, in_place, with_delivery}
use Rattle.node_rules.specs.AnchorSending.{anchor_sends}
use Rattle.node_rules.specs.Choices.{Choices}
use Rattle.node_rules.specs.Entity.{Entity, confirmed_count}
use Rattle.node_rules.specs.Sending.{pdu_at}
use Rattle.run_confirms.specs.Anchors.{AnchorSent, HasSent, KeptOrReceived, Sends, as_sent, far_cell, is_among, own_cell, was_put}
use Rattle.run_confirms.specs.Statuses.{IsAckOf, IsNear, IsStatusOf, count_under}
use Rattle.run_confirms.proofs.Anchors.{fit_counts, fit_put, rises_by, sends_step}
use Rattle.run_confirms.proofs.Arrivals.{each_with}
use Rattle.run_confirms.proofs.Confirming.{ack_same, all_kept, all_settled_same, confirmed_found, confirmed_sent, filter_less, less_kept, same_put}
use Rattle.run_confirms.proofs.Puts.{among_at, cell_put}
use Rattle.run_confirms.proofs.Sending.{far_rises, still_sent}
use Rattle.run_confirms.proofs.Statuses.{all_map, only_received}

-- ---- an ack on the anchor's own leg

-- the anchor's entity when it is noted, before anything is confirmed
abbrev noted_ack : Entity → ℕ → Entity
noted_ack e num = record e { setup = record e.setup { legs = with_leg e.setup.legs (own_cell e) (with_ack (leg_at e.setup.legs (own_cell e)) num) } }

-- the anchor's history stays
pub ack_sent : (air : List (Option ℕ)) (tun : List Sent) (a : Active) (num : ℕ) → AnchorSent air tun a
    → AnchorSent air tun (record a { entity = acked a.entity (own_cell a.entity) num })
ack_sent air tun a num is = by (acked_count (leg_at a.entity.setup.legs (own_cell a.entity)).pdus num) (less_kept air tun a (noted_ack a.entity num) (ack_same a.entity.setup.legs (own_cell a.entity) num) refl refl (λ P all. all) is)
  where
    by : (o : Option ℕ) → AnchorSent air tun (record a { entity = noted_ack a.entity num })
        → AnchorSent air tun (record a { entity = confirmed_count (noted_ack a.entity num) o })
    by None noted = noted
    by (Some count) noted = confirmed_sent air tun (record a { entity = noted_ack a.entity num }) (λ c. c == count) noted

-- the COUNT that it confirms was received
pub ack_confirms : (air : List (Option ℕ)) (tun : List Sent) (received : ℕ → Type 0) (a : Active) (num : ℕ) → HasSent air tun a → IsAckOf air received num
    → IfSome (acked_count (leg_at a.entity.setup.legs (own_cell a.entity)).pdus num) received
ack_confirms air tun received a num is acks = by (slice_get (leg_at a.entity.setup.legs (own_cell a.entity)).pdus num) refl
  where
    by : (o : Option Pdu) → slice_get (leg_at a.entity.setup.legs (own_cell a.entity)).pdus num ≡ o → IfSome (count_unless_acked o) received
    by None at = tt
    by (Some p) at =
        let pdus = (leg_at a.entity.setup.legs (own_cell a.entity)).pdus in
        let on_leg : slice_get (map as_sent pdus) num ≡ Some (as_sent p) = slice_get-map as_sent pdus num ∙ ap (option_map as_sent) at in
        let in_air : slice_get air num ≡ Some p.count =
        ap (λ (xs : List (Option ℕ)). slice_get xs num) (sym is.own) ∙ slice_get-map (λ (s : Sent). s.count) (map as_sent pdus) num ∙ ap (option_map (λ (s : Sent). s.count)) on_leg in
        let came : IfSome p.count received = subst (λ (o : Option (Option ℕ)). IsSomeAnd o (λ tag. IfSome tag received)) in_air acks in
        once p.acked came
      where
        once : (b : Bool) → IfSome p.count received → IfSome (cond b None p.count) received
        once true came = tt
        once false came = came

-- what is not kept any more was received
pub ack_found : (air : List (Option ℕ)) (tun : List Sent) (received : ℕ → Type 0) (a : Active) (num : ℕ) → HasSent air tun a → IsAckOf air received num
    → KeptOrReceived received a.entity.tx.kept (acked a.entity (own_cell a.entity) num).tx.kept
ack_found air tun received a num is acks = by (acked_count (leg_at a.entity.setup.legs (own_cell a.entity)).pdus num) (ack_confirms air tun received a num is acks)
  where
    same_count : (c count : ℕ) → (c == count) ≡ true → c ≡ count
    same_count c count is = grind arith

    by : (o : Option ℕ) → IfSome o received → KeptOrReceived received a.entity.tx.kept (confirmed_count (noted_ack a.entity num) o).tx.kept
    by None came = all_kept received a.entity.tx.kept
    by (Some count) came = confirmed_found received (λ c. c == count) (noted_ack a.entity num) (λ c is. subst received (sym (same_count c count is)) came)

-- ---- a delivery status

unasked_after : (tun : List Sent) (o : Outgoing) (low : ℕ) (f : Frame) → AllByRecursion (λ (e : Counted). count_under tun e.0 ≡ Some e.1) o.unasked
    → AllByRecursion (λ (e : Counted). count_under tun e.0 ≡ Some e.1) (after_frame o low f).unasked
unasked_after tun o low (User n user repeat) all = all
unasked_after tun o low (Status highest lost) all = filter_less (λ (e : Counted). count_under tun e.0 ≡ Some e.1) (λ (e : Counted). not (asks low (confirmed_after o low highest lost) lost e)) o.unasked all

n_after : (o : Outgoing) (low : ℕ) (f : Frame) → (after_frame o low f).n ≡ o.n
n_after o low (User n user repeat) = refl
n_after o low (Status highest lost) = refl

-- the anchor's history stays
pub delivery_sent : (air : List (Option ℕ)) (tun : List Sent) (a : Active) (status : Frame) → AnchorSent air tun a → AnchorSent air tun (with_delivery a status)
delivery_sent air tun a status is =
    let reference = low a.entity.tx in
    let less = confirmed_sent air tun a (λ c. contains c (confirmed_of a.tunnel reference status)) is in
    record {
      sent = record {
        own = less.sent.own;
        far = less.sent.far;
        history = history_frame tun a.tunnel reference status less.sent.history;
        unasked = unasked_after tun a.tunnel reference status less.sent.unasked;
        rise = less.sent.rise;
        below = less.sent.below;
        marks = less.sent.marks;
        same_n = n_after a.tunnel reference status ∙ less.sent.same_n;
      };
      closed = less.closed;
      all_sent = less.all_sent;
    }

contained : (received : ℕ → Type 0) (c : ℕ) (cs : List ℕ) → AllByRecursion received cs → contains c cs ≡ true → received c
contained received c [] all there = absurd cc
contained received c (x ∷ cs) all there =
    elim (cmp_tells c x) [
      | inl less ↦ contained received c cs all.1 (grind (arith, less.0, there))
      | inr rest ↦ elim rest [
        | inl same ↦ subst received (sym same.1) all.0
        | inr more ↦ contained received c cs all.1 (grind (arith, more.0, there))
      ]
    ]

-- the COUNTs that it confirms were received
pub delivery_confirms : (air : List (Option ℕ)) (tun : List Sent) (received : ℕ → Type 0) (a : Active) (tag : Option ℕ) (status : Frame) → HasSent air tun a
    → a.entity.tx.next ≤ 2 ^ 32
    → IsNear a.entity.setup.n (low a.entity.tx) tag → IsStatusOf a.entity.setup.n tun received tag status
    → AllByRecursion received (confirmed_of a.tunnel (low a.entity.tx) status)
delivery_confirms air tun received a tag status is small near truth =
    only_received a.entity.setup.n tun received a.tunnel (low a.entity.tx) tag status is.same_n (λ number count at. omega (arith, small, is.below number count at)) is.history.firsts near truth

-- what is not kept any more was received
pub delivery_found : (air : List (Option ℕ)) (tun : List Sent) (received : ℕ → Type 0) (a : Active) (tag : Option ℕ) (status : Frame) → HasSent air tun a
    → a.entity.tx.next ≤ 2 ^ 32
    → IsNear a.entity.setup.n (low a.entity.tx) tag → IsStatusOf a.entity.setup.n tun received tag status
    → KeptOrReceived received a.entity.tx.kept (with_delivery a status).entity.tx.kept
delivery_found air tun received a tag status is small near truth =
    let reference = low a.entity.tx in
    confirmed_found received (λ c. contains c (confirmed_of a.tunnel reference status)) a.entity
    (λ c there. contained received c (confirmed_of a.tunnel reference status) (delivery_confirms air tun received a tag status is small near truth) there)

-- ---- what is asked for again

in_place_all : (P : ℕ → Type 0) (c : ℕ) (cs : List ℕ) → P c → AllByRecursion P cs → AllByRecursion P (in_place c cs)
in_place_all P c [] here all = (here, tt)
in_place_all P c (x ∷ cs) here all = elim (cases_Bool (ltb x c)) [ inl less ↦ rw less (all.0, in_place_all P c cs here all.1) | inr more ↦ rw more (here, all) ]

ascending_all : (P : ℕ → Type 0) (cs : List ℕ) → AllByRecursion P cs → AllByRecursion P (ascending cs)
ascending_all P [] all = tt
ascending_all P (x ∷ cs) all = in_place_all P x (ascending cs) all.0 (ascending_all P cs all.1)

-- what was sent in the tunnel was put on the far leg
under_put : (tun : List Sent) (number count : ℕ) → count_under tun number ≡ Some count → is_among count tun ≡ true
under_put tun number count is = by (slice_get tun number) refl
  where
    by : (o : Option Sent) → slice_get tun number ≡ o → is_among count tun ≡ true
    by None at = let none : None ≡ Some count = sym (ap (option_and_then (λ (s : Sent). s.count)) at) ∙ is in absurd cc
    by (Some s) at = among_at count number tun s at (sym (ap (option_and_then (λ (s : Sent). s.count)) at) ∙ is)

asked_put : (air : List (Option ℕ)) (tun : List Sent) (a : Active) (reference : ℕ) (f : Frame) → HasSent air tun a
    → AllByRecursion (λ k. was_put a.entity.setup.legs k ≡ true) (again_of a.tunnel reference f)
asked_put air tun a reference (User n user repeat) is = tt
asked_put air tun a reference (Status highest lost) is =
    let asked = asks reference (confirmed_after a.tunnel reference highest lost) lost in
    all_map (λ (e : Counted). count_under tun e.0 ≡ Some e.1) (λ k. was_put a.entity.setup.legs k ≡ true) (λ (e : Counted). e.1) (filter asked a.tunnel.unasked)
    (filter_less (λ (e : Counted). count_under tun e.0 ≡ Some e.1) asked a.tunnel.unasked is.unasked)
    (λ e under. cell_put (far_cell a.entity) a.entity.setup.legs e.1 (ap (is_among e.1) is.far ∙ under_put tun e.0 e.1 under))

none_unasked : (es : List Counted) → AllByRecursion (λ (e : Counted). count_under [] e.0 ≡ Some e.1) es → es ≡ []
none_unasked [] all = refl
none_unasked (e ∷ es) all = let none : None ≡ Some e.1 = all.0 in absurd cc

none_asked : (o : Outgoing) (reference : ℕ) (f : Frame) → o.unasked ≡ [] → again_of o reference f ≡ []
none_asked o reference (User n user repeat) is = refl
none_asked o reference (Status highest lost) is = rw is refl

-- a delivery status comes: what it asks for is sent again, of what is kept still; each was sent before
pub delivery_step : (c : Choices) (air : List (Option ℕ)) (tun : List Sent) (a : Active) (status : Frame) → AnchorSent air tun a
    → Sends air tun a (anchor_sends c (with_delivery a status) (ascending (again_of a.tunnel (low a.entity.tx) status)))
delivery_step c air tun a status is =
    let b = with_delivery a status in
    let e = b.entity in
    let reference = low a.entity.tx in
    let cs = ascending (again_of a.tunnel reference status) in
    let pdus : List (Option ℕ × List ℕ) = filter_map (pdu_at e) cs in
    let now = delivery_sent air tun a status is in
    let put : AllByRecursion (λ k. was_put e.setup.legs k ≡ true) cs =
    ascending_all (λ k. was_put e.setup.legs k ≡ true) (again_of a.tunnel reference status)
    (each_with (λ k. was_put a.entity.setup.legs k ≡ true) (λ k. was_put e.setup.legs k ≡ true) (again_of a.tunnel reference status) (asked_put air tun a reference status is.sent)
    (λ k there. same_put a.entity.setup.legs e.setup.legs k (all_settled_same a.entity.setup.legs (filter (λ x. contains x (confirmed_of a.tunnel reference status)) (counts a.entity.tx.kept))) ∙ there)) in
    let step = sends_step c air tun b pdus now.sent
    (rises_by c pdus e.setup.legs e.tx.next e.tx.next (far_cell e) (λ live. fit_counts e e.setup.legs e.tx.next e.tx.next cs (fit_put e.setup.legs e.tx.next e.tx.next cs (omega arith) put)) (omega arith) (far_rises air tun b now.sent))
    (λ shut. ((is.closed shut).0, (is.closed shut).1, none e (is.closed shut).1))
    (λ opened live. still_sent c e cs e.tx.kept (now.all_sent opened live))
    in record { more_air = step.more_air; more_tun = step.more_tun; after = step.after; flights = step.flights }
  where
    none : (e : Entity) → tun ≡ [] → filter_map (pdu_at e) (ascending (again_of a.tunnel (low a.entity.tx) status)) ≡ []
    none e no_tun =
        let no_unasked : a.tunnel.unasked ≡ [] = none_unasked a.tunnel.unasked (subst (λ (t : List Sent). AllByRecursion (λ (e : Counted). count_under t e.0 ≡ Some e.1) a.tunnel.unasked) no_tun is.sent.unasked) in
        ap (λ (cs : List ℕ). filter_map (pdu_at e) (ascending cs)) (none_asked a.tunnel (low a.entity.tx) status no_unasked)
