-- Each step of an anchor goes on where its legs were: what it sends has the next numbers, and what it takes leaves its legs.
use Rattle.std.proofs.Common.{ℕ, ◌≡◌, ◌≤◌, ◌++◌, ◌+◌, ◌==◌, Bool, true, false, List, [], ◌∷◌, Option, Some, None, length, refl, sym, ap, subst, ◌∙◌, arith}
use Rattle.std.specs.Prelude.{Err, Ok, Result, filter, if◌then◌else◌, is_none, not, ◌&&◌}
use Rattle.std.proofs.lemmas.List.{length-append, length-map}
use Rattle.dc_base.specs.Links.{is_same_link, link}
use Rattle.dc_base.specs.declared.flights.Flight.{Flight}
use Rattle.dc_base.specs.declared.flights.Flight.TheVariants as flight
use Rattle.dc_base.specs.declared.nodes.Cell.{Cell}
use Rattle.dc_base.specs.declared.nodes.Cell.TheVariants.{Mcg, Scg}
use Rattle.dc_base.specs.declared.nodes.Class.TheVariants.{Air, Tun}
use Rattle.dc_base.specs.declared.nodes.LinkId.{LinkId}
use Rattle.dc_base.specs.declared.nodes.Node.{Node}
use Rattle.dc_base.specs.declared.nodes.Node.TheVariants.{T}
use Rattle.dc_base.specs.declared.nodes.Shape.{Shape}
use Rattle.dc_base.specs.declared.nodes.Dir.{Dir}
use Rattle.dc_base.specs.declared.nodes.Dir.TheVariants.{Dl, Ul}
use Rattle.dc_base.specs.declared.records.StatusTransfer.{StatusTransfer}
use Rattle.forward.specs.Forwarded.{whole}
use Rattle.forward.specs.Load.{Load, Sdu}
use Rattle.nr_u.specs.Tunnel.Incoming.{contains}
use Rattle.nr_u.specs.Tunnel.Verdicts.{again_of, confirmed_of}
use Rattle.nr_u.specs.declared.frame.Frame.{Frame}
use Rattle.pdcp_pdu.specs.Pdu.{Content, decoded}
use Rattle.pdcp_pdu.specs.StatusReport.{report_pdu}
use Rattle.pdcp_pdu.specs.declared.pdu.PduErr.{PduErr}
use Rattle.pdcp_rx.specs.Entries.{counts_of}
use Rattle.pdcp_tx.specs.Sender.{Sender, counts, low}
use Rattle.pdcp_tx.specs.Sending.{give_numbers, take_sdu}
use Rattle.pdcp_tx.specs.declared.tx.TxErr.{TxErr}
use Rattle.split_leg.specs.Legs.{LegsState, acked_count, leg_at, with_ack, with_leg}
use Rattle.node_rules.specs.Adopting.{adopts_with, forward_in, settled, status_in, taken_over, with_load}
use Rattle.node_rules.specs.Anchor.{Active, AnchorState, Waiting, active_anchor, new_tunnel, setup_at, silent, waiting_anchor}
use Rattle.node_rules.specs.AnchorReceiving.{ack, acked, air_ack, air_in, air_pdu, ascending, delivery_in, is_from_host, is_on_leg, packet_in, pdu_in, relayed_pdu, tunnel_in, with_delivery}
use Rattle.node_rules.specs.AnchorSending.{anchor_recovers, anchor_sends, fail_scg, open_if, opens, recover, recover_at, report, report_at, submit, submit_as, submit_at, unlock, with_failure, with_numbers, with_tx}
use Rattle.node_rules.specs.Choices.{Choices, Send}
use Rattle.node_rules.specs.Entity.{Entity, confirmed_count, confirmed_where, take_pdu, take_pdus}
use Rattle.node_rules.specs.Packets.{Packet, delivery, forwarding, nothing, packet_of, pdu_down, pdu_up}
use Rattle.node_rules.specs.Sending.{Pdu, send_counts, send_kept, send_report}
use Rattle.node_rules.specs.Setup.{Setup, anchor_cell, has_failed, host_of, is_of, other_cell, with_failed_scg}
use Rattle.node_rules.specs.declared.bearers.AnchorOut.{AnchorOut}
use Rattle.run_confirms.specs.Anchors.{as_sent, sent_on}
use Rattle.run_confirms.proofs.Confirming.{SameSends, ack_same, all_settled_same}
use Rattle.run_legs.proofs.Entities.{counts_sent, has_sent, kept_sent}
use Rattle.run_numbers.specs.Histories.{Continues, NoneOf, OnlyOf}
use Rattle.run_numbers.specs.Records.{AnchorGoes, HasFew, IsInRange, SamePuts, air_sents, anchor_on, far_of, far_on}
use Rattle.run_numbers.proofs.AnchorLegs.{entity_goes}
use Rattle.run_numbers.proofs.Holding.{ack_none, only_both}
use Rattle.run_numbers.proofs.Puts.{continues_both, continues_none}
use Rattle.run_numbers.proofs.Sending.{same_sents, taken_same, taken_setup}

-- ---- legs that stay

module _ (s : Setup) (legs : LegsState) (same : SamePuts s.legs legs) where
  -- these legs, in the shape of the setup
  abbrev shaped : Setup
  shaped = record s { legs = record legs { shape = s.legs.shape } }

  same_air : (cell : Cell) → air_sents (leg_at shaped.legs cell) ≡ air_sents (leg_at s.legs cell)
  same_air Mcg = same_sents s.legs.mcg legs.mcg same.mcg
  same_air Scg = same_sents s.legs.scg legs.scg same.scg

  same_far : (cell : Cell) → sent_on (leg_at shaped.legs cell) ≡ sent_on (leg_at s.legs cell)
  same_far Mcg = same.mcg
  same_far Scg = same.scg

  same_shown : (l : LinkId) → anchor_on l (record s { legs = legs }) ≡ anchor_on l s
  same_shown l =
      ap (λ (shape : Shape). anchor_on l (record s { legs = record legs { shape = shape } })) same.shape
      ∙ ap (λ zs. if is_same_link l (link s.node T Air) then zs else far_on l shaped (host_of s)) (same_air (anchor_cell s.legs.shape))
      ∙ ap (λ zs. if is_same_link l (link s.node T Air) then air_sents (leg_at s.legs (anchor_cell s.legs.shape)) else zs) (by (host_of s))
    where
      by : (o : Option Node) → far_on l shaped o ≡ far_on l s o
      by None = refl
      by (Some host) = ap (λ zs. if is_same_link l (link s.node host Tun) then zs else []) (same_far (other_cell (anchor_cell s.legs.shape)))

  same_length : (cell : Cell) → length (leg_at legs cell).pdus ≡ length (leg_at s.legs cell).pdus
  same_length Mcg = sym (length-map legs.mcg.pdus as_sent) ∙ ap length same.mcg ∙ length-map s.legs.mcg.pdus as_sent
  same_length Scg = sym (length-map legs.scg.pdus as_sent) ∙ ap length same.scg ∙ length-map s.legs.scg.pdus as_sent

  -- where no PDU is sent it goes on
  pub legs_kept : (sends : List Send) → ((id g : ℕ) → NoneOf id g sends) → AnchorGoes s (record s { legs = legs }) sends
  legs_kept sends none = record {
    same = refl;
    shape = same.shape;
    grow = λ cell. let is = same_length cell in omega (arith, is);
    more = λ host to. let is = same_length (far_of s) in omega (arith, is);
    goes = λ range few. record {
      own = λ l. subst (λ zs. Continues l s.id s.g (anchor_on l s) zs sends) (sym (same_shown l)) (continues_none l s.id s.g (anchor_on l s) sends (none s.id s.g l));
      others = λ l id g apart. none id g l;
    };
  }

-- no PDU is sent, and nothing changes
pub quiet_kept : (s : Setup) (sends : List Send) → ((id g : ℕ) → NoneOf id g sends) → AnchorGoes s s sends
quiet_kept s sends none = legs_kept s s.legs (record { shape = refl; mcg = refl; scg = refl }) sends none

pub nothing_kept : (s : Setup) → AnchorGoes s s []
nothing_kept s = quiet_kept s [] (λ id g l. refl)

-- one step, and then another
pub both_goes : (s t u : Setup) (xs ys : List Send) → AnchorGoes s t xs → AnchorGoes t u ys → AnchorGoes s u (xs ++ ys)
both_goes s t u xs ys one two = record {
  same = two.same ∙ ap (λ (x : Setup). record x { legs = u.legs }) one.same;
  shape = two.shape ∙ one.shape;
  grow = λ cell. let a = one.grow cell in let b = two.grow cell in omega (arith, a, b);
  more = λ host to. let a = one.more host to in let b = two_more host to in let sum = length-append xs ys in omega (arith, a, b, sum);
  goes = λ range few.
      let few' : HasFew s t = λ host to. let a = few host to in let b = two.grow (far_of s) in omega (arith, a, b) in
      let range' : IsInRange t = subst IsInRange (sym one.same) range in
      let first = one.goes range few' in
      let then' = two.goes range' (subst (λ (x : Setup). HasFew x u) (sym as_before) few) in
      let id_is : t.id ≡ u.id = sym (ap (λ (x : Setup). x.id) two.same) in
      let g_is : t.g ≡ u.g = sym (ap (λ (x : Setup). x.g) two.same) in
      record {
        own = λ l.
            continues_both l u.id u.g (anchor_on l s) (anchor_on l t) (anchor_on l u) xs ys
            (subst (λ g. Continues l u.id g (anchor_on l s) (anchor_on l t) xs) g_is (subst (λ i. Continues l i t.g (anchor_on l s) (anchor_on l t) xs) id_is (first.own l))) (then'.own l);
        others = only_both u.id u.g xs ys (subst (λ g. OnlyOf u.id g xs) g_is (subst (λ i. OnlyOf i t.g xs) id_is first.others)) then'.others;
      };
}
  where
    as_before : t ≡ record s { legs = record t.legs { shape = s.legs.shape } }
    as_before = one.same ∙ ap (λ (shape : Shape). record s { legs = record t.legs { shape = shape } }) one.shape

    two_more : (host : Node) → host_of s ≡ Some host → length (leg_at u.legs (far_of s)).pdus ≤ length (leg_at t.legs (far_of s)).pdus + length ys
    two_more = subst (λ (x : Setup). (host : Node) → host_of x ≡ Some host → length (leg_at u.legs (far_of x)).pdus ≤ length (leg_at t.legs (far_of x)).pdus + length ys) as_before two.more

-- ---- what an active anchor sends

-- a step of an active anchor
abbrev pub ActiveGoes : Active → Active × List Send → Type 0
ActiveGoes a done = AnchorGoes a.entity.setup done.0.entity.setup done.1

counts_go : (c : Choices) (a : Active) (cs : List ℕ) → ActiveGoes a (anchor_sends c a cs)
counts_go c a cs = entity_goes _ a (send_counts c a.entity cs) (counts_sent c a.entity cs)

recovers_go : (c : Choices) (a : Active) → ActiveGoes a (anchor_recovers c a)
recovers_go c a = entity_goes _ a (send_kept c a.entity) (kept_sent c a.entity)

submitted_go : (c : Choices) (a : Active) (sdu : List ℕ) (r : Result (Sender × ℕ) TxErr) → ActiveGoes a (submit_as c a sdu r)
submitted_go c a sdu (Ok (tx, count)) = counts_go c (with_tx a tx) (count ∷ [])
submitted_go c a sdu (Err e) = nothing_kept a.entity.setup

submit_at_goes : (is : Bool) (c : Choices) (a : Active) (sdu : List ℕ) → ActiveGoes a (submit_at is c a sdu)
submit_at_goes true c a sdu = submitted_go c a sdu (take_sdu a.entity.tx sdu)
submit_at_goes false c a sdu = nothing_kept a.entity.setup

numbers_go : (c : Choices) (a : Active) (r : Result (Sender × List ℕ) TxErr) → ActiveGoes a (with_numbers c a r)
numbers_go c a (Ok (tx, given)) = counts_go c (with_tx a tx) given
numbers_go c a (Err e) = nothing_kept a.entity.setup

opens_go : (c : Choices) (a : Active) → ActiveGoes a (opens c a)
opens_go c a =
    let again = anchor_recovers c (record a { is_open = true }) in
    let first = with_numbers c again.0 (give_numbers again.0.entity.tx) in
    both_goes a.entity.setup again.0.entity.setup first.0.entity.setup again.1 first.1 (recovers_go c (record a { is_open = true })) (numbers_go c again.0 (give_numbers again.0.entity.tx))

pub open_if_goes : (is : Bool) (c : Choices) (a : Active) → ActiveGoes a (open_if is c a)
open_if_goes true c a = opens_go c a
open_if_goes false c a = nothing_kept a.entity.setup

recover_at_goes : (is : Bool) (c : Choices) (a : Active) → ActiveGoes a (recover_at is c a)
recover_at_goes true c a = recovers_go c a
recover_at_goes false c a = nothing_kept a.entity.setup

report_at_goes : (is : Bool) (c : Choices) (a : Active) → ActiveGoes a (report_at is c a)
report_at_goes true c a =
    let pdus : List Pdu = (None, report_pdu a.entity.rx.deliv (counts_of a.entity.rx.stored)) ∷ [] in entity_goes pdus a (send_report c a.entity) (has_sent c a.entity pdus)
report_at_goes false c a = nothing_kept a.entity.setup

-- ---- an anchor, active or waiting

-- a step of an anchor
abbrev pub StateGoes : AnchorState → AnchorState × AnchorOut → Type 0
StateGoes s done = AnchorGoes (setup_at s) (setup_at done.0) done.1.sends

pub submit_goes : (c : Choices) (s : AnchorState) (sdu : List ℕ) → StateGoes s (submit c s sdu)
submit_goes c (waiting_anchor w) sdu = nothing_kept w.setup
submit_goes c (active_anchor a) sdu = submit_at_goes a.is_open c a sdu

pub unlock_goes : (c : Choices) (s : AnchorState) → StateGoes s (unlock c s)
unlock_goes c (waiting_anchor w) = nothing_kept w.setup
unlock_goes c (active_anchor a) = open_if_goes (not a.is_open) c a

pub recover_goes : (c : Choices) (s : AnchorState) → StateGoes s (recover c s)
recover_goes c (waiting_anchor w) = nothing_kept w.setup
recover_goes c (active_anchor a) = recover_at_goes a.is_open c a

pub report_goes : (c : Choices) (s : AnchorState) → StateGoes s (report c s)
report_goes c (waiting_anchor w) = nothing_kept w.setup
report_goes c (active_anchor a) = report_at_goes a.is_open c a

pub fail_goes : (c : Choices) (s : AnchorState) → StateGoes s (fail_scg c s)
fail_goes c (waiting_anchor w) = legs_kept w.setup (with_failed_scg w.setup).legs (record { shape = refl; mcg = refl; scg = refl }) [] (λ id g l. refl)
fail_goes c (active_anchor a) =
    let b = record a { entity = with_failure a.entity } in
    both_goes a.entity.setup b.entity.setup (recover_at a.is_open c b).0.entity.setup [] (recover_at a.is_open c b).1
    (legs_kept a.entity.setup b.entity.setup.legs (record { shape = refl; mcg = refl; scg = refl }) [] (λ id g l. refl)) (recover_at_goes a.is_open c b)

-- ---- what comes to an anchor

put_same : (a b : LegsState) → SameSends a b → SamePuts a b
put_same a b same = record { shape = same.shape; mcg = same.mcg; scg = same.scg }

-- an entity takes PDUs
pdu_kept : (e : Entity) (x : Content) (sends : List Send) → ((id g : ℕ) → NoneOf id g sends) → AnchorGoes e.setup (take_pdu e x).0.setup sends
pdu_kept e x sends none =
    subst (λ (s : Setup). AnchorGoes e.setup s sends) (sym (taken_setup e x)) (legs_kept e.setup (take_pdu e x).0.setup.legs (put_same e.setup.legs (take_pdu e x).0.setup.legs (taken_same e x)) sends none)

pdus_kept : (e : Entity) (xs : List Content) → AnchorGoes e.setup (take_pdus e xs).0.setup []
pdus_kept e [] = nothing_kept e.setup
pdus_kept e (x ∷ xs) = both_goes e.setup (take_pdu e x).0.setup (take_pdus e (x ∷ xs)).0.setup [] [] (pdu_kept e x [] (λ id g l. refl)) (pdus_kept (take_pdu e x).0 xs)

pdu_goes : (s : AnchorState) (x : Content) → StateGoes s (pdu_in s x)
pdu_goes (waiting_anchor w) x = nothing_kept w.setup
pdu_goes (active_anchor a) x = pdu_kept a.entity x [] (λ id g l. refl)

-- the acks of a PDU, and what comes of it
acks_none : (s : Setup) (num : ℕ) (failed : Bool) (id g : ℕ) → NoneOf id g (ack s num failed)
acks_none s num true id g = λ l. refl
acks_none s num false id g = ack_none (link s.node T Air) s.id s.g num id g

air_pdu_goes : (s : AnchorState) (num : ℕ) (r : Result Content PduErr) → StateGoes s (air_pdu s num r)
air_pdu_goes s num (Err e) = nothing_kept (setup_at s)
air_pdu_goes s num (Ok x) =
    let setup = setup_at s in
    let acks = ack setup num (has_failed setup (anchor_cell setup.legs.shape)) in
    both_goes setup setup (setup_at (pdu_in s x).0) acks (pdu_in s x).1.sends (quiet_kept setup acks (acks_none setup num (has_failed setup (anchor_cell setup.legs.shape)))) (pdu_goes s x)

confirmed_kept : (test : ℕ → Bool) (e : Entity) → AnchorGoes e.setup (confirmed_where test e).setup []
confirmed_kept test e = legs_kept e.setup (confirmed_where test e).setup.legs (put_same e.setup.legs _ (all_settled_same e.setup.legs (filter test (counts e.tx.kept)))) [] (λ id g l. refl)

count_kept : (e : Entity) (o : Option ℕ) → AnchorGoes e.setup (confirmed_count e o).setup []
count_kept e None = nothing_kept e.setup
count_kept e (Some count) = confirmed_kept (λ c. c == count) e

acked_kept : (e : Entity) (cell : Cell) (num : ℕ) → AnchorGoes e.setup (acked e cell num).setup []
acked_kept e cell num =
    let legs = with_leg e.setup.legs cell (with_ack (leg_at e.setup.legs cell) num) in
    let b = record e { setup = record e.setup { legs = legs } } in
    both_goes e.setup b.setup (acked e cell num).setup [] [] (legs_kept e.setup legs (put_same e.setup.legs legs (ack_same e.setup.legs cell num)) [] (λ id g l. refl))
    (count_kept b (acked_count (leg_at e.setup.legs cell).pdus num))

air_ack_goes : (s : AnchorState) (num : ℕ) → StateGoes s (air_ack s num)
air_ack_goes (waiting_anchor w) num = nothing_kept w.setup
air_ack_goes (active_anchor a) num = acked_kept a.entity (anchor_cell a.entity.setup.legs.shape) num

goes_if : (s : AnchorState) (t : Bool) (x y : AnchorState × AnchorOut) → StateGoes s x → StateGoes s y → StateGoes s (if t then x else y)
goes_if s true x y is else' = is
goes_if s false x y is else' = else'

pub air_goes : (s : AnchorState) (cell : Cell) (f : Flight) → StateGoes s (air_in s cell f)
air_goes s cell (flight.Air id g num tag pdu) =
    goes_if s (is_on_leg (setup_at s) cell id g) (air_pdu s num (decoded (setup_at s).n pdu)) (s, silent) (air_pdu_goes s num (decoded (setup_at s).n pdu)) (nothing_kept (setup_at s))
air_goes s cell (flight.Ack id g num) = goes_if s (is_on_leg (setup_at s) cell id g) (air_ack s num) (s, silent) (air_ack_goes s num) (nothing_kept (setup_at s))
air_goes s cell (flight.Tun tag packet) = nothing_kept (setup_at s)
air_goes s cell (flight.Sdu id g sdu) = nothing_kept (setup_at s)
air_goes s cell (flight.End id g) = nothing_kept (setup_at s)
air_goes s cell (flight.Told id g count) = nothing_kept (setup_at s)
air_goes s cell (flight.Ctl r) = nothing_kept (setup_at s)

-- ---- an adoption

adoption_goes : (c : Choices) (w : Waiting) (st : Option StatusTransfer) (down up : Option (List Sdu)) → StateGoes (waiting_anchor w) (adopts_with c w st down up)
adoption_goes c w None down up = nothing_kept w.setup
adoption_goes c w (Some st) None up = nothing_kept w.setup
adoption_goes c w (Some st) (Some down) None = nothing_kept w.setup
adoption_goes c w (Some st) (Some down) (Some up) =
    let e = taken_over w st down up in
    let a : Active = record { entity = (take_pdus e w.pdus).0; is_open = false; tunnel = new_tunnel w.setup.n } in
    let done = open_if w.is_told c a in
    both_goes w.setup a.entity.setup done.0.entity.setup [] done.1 (pdus_kept e w.pdus) (open_if_goes w.is_told c a)

settled_goes : (c : Choices) (w : Waiting) → StateGoes (waiting_anchor w) (settled c w)
settled_goes c w = adoption_goes c w w.transfer (whole w.down) (whole w.up)

pub status_goes : (c : Choices) (s : AnchorState) (st : StatusTransfer) → StateGoes s (status_in c s st)
status_goes c (waiting_anchor w) st =
    goes_if (waiting_anchor w) (is_of w.setup st.id st.g && is_none w.transfer) (settled c (record w { transfer = Some st })) (waiting_anchor w, silent) (settled_goes c (record w { transfer = Some st })) (nothing_kept w.setup)
status_goes c (active_anchor a) st = nothing_kept a.entity.setup

forward_goes : (c : Choices) (s : AnchorState) (d : Dir) (load : Load) → StateGoes s (forward_in c s d load)
forward_goes c (waiting_anchor w) Dl load = settled_goes c (with_load w Dl load)
forward_goes c (waiting_anchor w) Ul load = settled_goes c (with_load w Ul load)
forward_goes c (active_anchor a) d load = nothing_kept a.entity.setup

-- ---- through the tunnels

relayed_goes : (s : AnchorState) (r : Result Content PduErr) → StateGoes s (relayed_pdu s r)
relayed_goes s (Err e) = nothing_kept (setup_at s)
relayed_goes s (Ok x) = pdu_goes s x

delivery_goes : (c : Choices) (s : AnchorState) (status : Frame) → StateGoes s (delivery_in c s status)
delivery_goes c (waiting_anchor w) status = nothing_kept w.setup
delivery_goes c (active_anchor a) status =
    let b = with_delivery a status in
    let done = anchor_sends c b (ascending (again_of a.tunnel (low a.entity.tx) status)) in
    both_goes a.entity.setup b.entity.setup done.0.entity.setup [] done.1
    (confirmed_kept (λ k. contains k (confirmed_of a.tunnel (low a.entity.tx) status)) a.entity) (counts_go c b (ascending (again_of a.tunnel (low a.entity.tx) status)))

packet_goes : (c : Choices) (s : AnchorState) (p : Packet) → StateGoes s (packet_in c s p)
packet_goes c s (pdu_down id g number repeat pdu) = nothing_kept (setup_at s)
packet_goes c s (pdu_up id g pdu) =
    goes_if s (is_from_host (setup_at s) id g) (relayed_pdu s (decoded (setup_at s).n pdu)) (s, silent) (relayed_goes s (decoded (setup_at s).n pdu)) (nothing_kept (setup_at s))
packet_goes c s (delivery id g status) = goes_if s (is_from_host (setup_at s) id g) (delivery_in c s status) (s, silent) (delivery_goes c s status) (nothing_kept (setup_at s))
packet_goes c s (forwarding id g d load) = goes_if s (is_of (setup_at s) id g) (forward_in c s d load) (s, silent) (forward_goes c s d load) (nothing_kept (setup_at s))
packet_goes c s nothing = nothing_kept (setup_at s)

pub tunnel_goes : (c : Choices) (s : AnchorState) (f : Flight) → StateGoes s (tunnel_in c s f)
tunnel_goes c s (flight.Tun tag packet) = packet_goes c s (packet_of packet)
tunnel_goes c s (flight.Air id g num tag pdu) = nothing_kept (setup_at s)
tunnel_goes c s (flight.Ack id g num) = nothing_kept (setup_at s)
tunnel_goes c s (flight.Sdu id g sdu) = nothing_kept (setup_at s)
tunnel_goes c s (flight.End id g) = nothing_kept (setup_at s)
tunnel_goes c s (flight.Told id g count) = nothing_kept (setup_at s)
tunnel_goes c s (flight.Ctl r) = nothing_kept (setup_at s)
