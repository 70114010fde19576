-- An uplink data PDU is given to the node that holds its bearer: what the past says of the uplink stays what the node's receiving
-- entity has, and what is handed up is claimed rightly.
use Rattle.std.proofs.Common.{ℕ, ◌≡◌, ◌+◌, ◌≤◌, ◌==◌, ◌++◌, Bool, true, false, List, [], ◌∷◌, Option, Some, refl, sym, ap, subst, ◌∙◌}
use Rattle.std.specs.Prelude.{Ok, if◌then◌else◌, is_some, nat_le, ◌&&◌}
use Rattle.std.specs.List.{AllByRecursion}
use Rattle.std.specs.Option.{option_map}
use Rattle.std.proofs.lemmas.Bool.{and_from, eq-eqb}
use Rattle.dc_base.specs.Count.{window}
use Rattle.dc_base.specs.Nodes.{is_same_node}
use Rattle.dc_base.specs.declared.answers.Answer.{Answer}
use Rattle.dc_base.specs.declared.events.Event.TheVariants as event
use Rattle.dc_base.specs.declared.flights.Flight.{Flight}
use Rattle.dc_base.specs.declared.flights.Flight.TheVariants as flight
use Rattle.dc_base.specs.declared.nodes.Cell.{Cell}
use Rattle.dc_base.specs.declared.nodes.Cell.TheVariants as cell
use Rattle.dc_base.specs.declared.nodes.Class.TheVariants.{Air, Tun}
use Rattle.dc_base.specs.declared.nodes.Dir.TheVariants.{Ul}
use Rattle.dc_base.specs.declared.nodes.LinkId.{LinkId}
use Rattle.dc_base.specs.declared.nodes.Node.{Node}
use Rattle.dc_base.specs.declared.nodes.Node.TheVariants.{T}
use Rattle.dc_base.specs.declared.numbers.SnLen.{SnLen}
use Rattle.claims.specs.Claim.{EachLine}
use Rattle.claims.specs.HandedUp.{is_carried, is_front, is_within}
use Rattle.claims.specs.Judged.{judged}
use Rattle.claims.specs.Links.{find_at}
use Rattle.claims.specs.Noted.{after}
use Rattle.claims.specs.Past.{Bearer, Past}
use Rattle.claims.specs.Reading.{Setting, holds, latest, setting}
use Rattle.claims.specs.Taking.{direction_in}
use Rattle.claims.specs.Views.{Pdu}
use Rattle.node_rules.specs.Anchor as anchor
use Rattle.node_rules.specs.Anchor.{Active, AnchorState, active_anchor, setup_at}
use Rattle.node_rules.specs.AnchorReceiving.{ack, air_in, air_pdu, is_from_host, is_on_leg, packet_in, pdu_in, relayed_pdu, tunnel_in, with_confirm}
use Rattle.node_rules.specs.Choices.{Choices}
use Rattle.node_rules.specs.Entity.{Entity, take_pdu}
use Rattle.node_rules.specs.Feed.{Fed}
use Rattle.node_rules.specs.Flights.{packet_named}
use Rattle.node_rules.specs.Held.{held}
use Rattle.node_rules.specs.HostRules.{host_air_in, host_tunnel_in}
use Rattle.node_rules.specs.Lines.{lines_by, lines_of}
use Rattle.node_rules.specs.Master.{MasterNode}
use Rattle.node_rules.specs.MasterStep.{data_taken, master_takes}
use Rattle.node_rules.specs.Packets.{packet_of, pdu_up}
use Rattle.node_rules.specs.Run.{entry_with}
use Rattle.node_rules.specs.SecondStep.{second_data, second_takes}
use Rattle.node_rules.specs.Secondary.{SecondNode}
use Rattle.node_rules.specs.Setup.{Setup, anchor_cell, has_failed}
use Rattle.node_rules.specs.declared.inputs.Outcome.{Outcome}
use Rattle.node_rules.specs.declared.bearers.AnchorOut.{AnchorOut}
use Rattle.pdcp_pdu.specs.DataPdu.{is_data}
use Rattle.pdcp_pdu.specs.Pdu.{decoded}
use Rattle.run_receivers.specs.Pdus.{IsReader}
use Rattle.run_receivers.specs.Receiving.{HasTaken}
use Rattle.run_receivers.proofs.Growing.{below_next}
use Rattle.run_received.specs.Changes.{answered_on, given_on, is_named, maybe_pdu_on, taken_on}
use Rattle.run_received.specs.Receipts.{Receipt, receipt, receipt_of, submitted_to}
use Rattle.run_received.specs.Receivers.{IsReceiver, ciphering_of}
use Rattle.run_received.proofs.Arriving.{IsRead, data_arrives, is_inferred_at, past_takes}
use Rattle.run_received.proofs.Claims.{AreNext, AreTaken, taken_next, taken_were}
use Rattle.run_received.proofs.Folding.{NamesDescend, as_lines, ups_in, ups_ordered, with_ups}
use Rattle.run_received.proofs.Judging.{judged_receipt}
use Rattle.run_received.proofs.Latest.{distinct_of}
use Rattle.run_received.proofs.Nodes.{GoesUp, HandsUp, IsConfirm, MasterHands, SecondHands, carried_lines, fronts}
use Rattle.run_received.proofs.Nodes.{lines_hand, lines_up, lines_uplink, low_still, master_hands, no_end, second_hands, ups_are}
use Rattle.run_received.proofs.Outcomes.{judged_down, outcome_receipt}
use Rattle.run_received.proofs.Receiving.{with_taken}

-- ---- at the anchor

acks_hand : (s : Setup) (num : ℕ) (failed : Bool) → AllByRecursion IsConfirm (ack s num failed ++ [])
acks_hand s num true = tt
acks_hand s num false = (tt, tt)

-- over the leg of its own node
pub air_hands : (p : Past) (b : Bearer) (set : Setting) (tag : Option ℕ) (pdu : List ℕ) (a : Active) (cell' : Cell) (id g num : ℕ)
    → a.entity.setup.n ≡ b.n → is_on_leg a.entity.setup cell' id g ≡ true → (is : IsRead p b set tag pdu)
    → (let done = take_pdu a.entity is.reads.content in
    HandsUp (record a { entity = done.0 }) done.1 (air_in (active_anchor a) cell' (flight.Air id g num tag pdu)))
air_hands p b set tag pdu a cell' id g num same_n on is =
    let done = take_pdu a.entity is.reads.content in
    let read : decoded a.entity.setup.n pdu ≡ Ok is.reads.content = ap (λ (n : SnLen). decoded n pdu) same_n ∙ is.reads.read in
    let failed = has_failed a.entity.setup (anchor_cell a.entity.setup.legs.shape) in
    let all : air_in (active_anchor a) cell' (flight.Air id g num tag pdu) ≡ with_confirm (ack a.entity.setup num failed) (pdu_in
    (active_anchor a) is.reads.content) =
    ap (λ t. if◌then◌else◌ {A = AnchorState × AnchorOut} t (air_pdu (active_anchor a) num (decoded a.entity.setup.n pdu)) (active_anchor a, anchor.silent)) on
    ∙ ap (air_pdu (active_anchor a) num) read in
    subst (HandsUp (record a { entity = done.0 }) done.1) (sym all)
    (record { state = refl; ups = refl; stays = refl; low = low_still p b set tag pdu is a.entity; sends = acks_hand a.entity.setup num failed })

-- from its leg host
pub relay_hands : (p : Past) (b : Bearer) (set : Setting) (tag : Option ℕ) (pdu : List ℕ) (c : Choices) (a : Active) (packet : List ℕ) (id g : ℕ)
    → a.entity.setup.n ≡ b.n → is_from_host a.entity.setup id g ≡ true → packet_of packet ≡ pdu_up id g pdu → (is : IsRead p b set tag pdu)
    → (let done = take_pdu a.entity is.reads.content in
    HandsUp (record a { entity = done.0 }) done.1 (tunnel_in c (active_anchor a) (flight.Tun tag packet)))
relay_hands p b set tag pdu c a packet id g same_n from says is =
    let done = take_pdu a.entity is.reads.content in
    let read : decoded a.entity.setup.n pdu ≡ Ok is.reads.content = ap (λ (n : SnLen). decoded n pdu) same_n ∙ is.reads.read in
    let all : tunnel_in c (active_anchor a) (flight.Tun tag packet) ≡ pdu_in (active_anchor a) is.reads.content =
    ap (packet_in c (active_anchor a)) says
    ∙ ap (λ t. if◌then◌else◌ {A = AnchorState
    × AnchorOut} t (relayed_pdu (active_anchor a) (decoded a.entity.setup.n pdu)) (active_anchor a, anchor.silent)) from
    ∙ ap (relayed_pdu (active_anchor a)) read in
    subst (HandsUp (record a { entity = done.0 }) done.1) (sym all)
    (record { state = refl; ups = refl; stays = refl; low = low_still p b set tag pdu is a.entity; sends = tt })

-- ---- at the node

module _ (p : Past) (b : Bearer) (set : Setting) (tag : Option ℕ) (pdu : List ℕ) (a : Active) (g : ℕ) (same_n : a.entity.setup.n ≡ b.n)
    (of_g : a.entity.setup.g ≡ g) (is : IsRead p b set tag pdu) where
  abbrev pub After : Active
  After = record a { entity = (take_pdu a.entity is.reads.content).0 }

  abbrev pub Ups : List (ℕ × List ℕ)
  Ups = (take_pdu a.entity is.reads.content).1

  -- a secondary node
  pub second_takes_air : (c : Choices) (s : SecondNode) (x : Fed) (num : ℕ) → held b.id s.anchors ≡ Some x → x.anchor ≡ active_anchor a
      → is_on_leg a.entity.setup cell.Scg b.id g ≡ true
      → SecondHands s b.id x After Ups (second_takes c s (flight.Air b.id g num tag pdu) Air)
  second_takes_air c s x num at active on =
      let f = flight.Air b.id g num tag pdu in
      second_hands s (λ y. air_in y cell.Scg f) (λ h. host_air_in h f) b.id g x After Ups at
      (ap (λ y. (setup_at y).g == g) active ∙ eq-eqb a.entity.setup.g g of_g)
      (subst (λ y. HandsUp After Ups (air_in y cell.Scg f)) (sym active) (air_hands p b set tag pdu a cell.Scg b.id g num same_n on is))

  pub second_takes_relayed : (c : Choices) (s : SecondNode) (x : Fed) (packet : List ℕ) → held b.id s.anchors ≡ Some x → x.anchor ≡ active_anchor a
      → packet_of packet ≡ pdu_up b.id g pdu → is_from_host a.entity.setup b.id g ≡ true
      → SecondHands s b.id x After Ups (second_takes c s (flight.Tun tag packet) Tun)
  second_takes_relayed c s x packet at active says from =
      let f = flight.Tun tag packet in
      subst (λ o. SecondHands s b.id x After Ups (second_data s (λ y. tunnel_in c y f) (λ h. host_tunnel_in h f) (packet_named o))) (sym says)
      (second_hands s (λ y. tunnel_in c y f) (λ h. host_tunnel_in h f) b.id g x After Ups at
      (ap (λ y. (setup_at y).g == g) active ∙ eq-eqb a.entity.setup.g g of_g)
      (subst (λ y. HandsUp After Ups (tunnel_in c y f)) (sym active) (relay_hands p b set tag pdu c a packet b.id g same_n from says is)))

  -- the master
  pub master_takes_air : (c : Choices) (m : MasterNode) (num : ℕ) (from : Node) → held b.id m.anchors ≡ Some (active_anchor a)
      → is_on_leg a.entity.setup cell.Mcg b.id g ≡ true
      → MasterHands m b.id After Ups (master_takes c m from (flight.Air b.id g num tag pdu) Air)
  master_takes_air c m num from at on =
      let f = flight.Air b.id g num tag pdu in
      master_hands c m (λ y. air_in y cell.Mcg f) (λ h. host_air_in h f) b.id g (active_anchor a) After Ups at (eq-eqb a.entity.setup.g g of_g)
      (air_hands p b set tag pdu a cell.Mcg b.id g num same_n on is)

  pub master_takes_relayed : (c : Choices) (m : MasterNode) (packet : List ℕ) (from : Node) → held b.id m.anchors ≡ Some (active_anchor a)
      → packet_of packet ≡ pdu_up b.id g pdu → is_from_host a.entity.setup b.id g ≡ true
      → MasterHands m b.id After Ups (master_takes c m from (flight.Tun tag packet) Tun)
  master_takes_relayed c m packet from at says has_host =
      let f = flight.Tun tag packet in
      subst (λ o. MasterHands m b.id After Ups (data_taken c m (λ y. tunnel_in c y f) (λ h. host_tunnel_in h f) (packet_named o))) (sym says)
      (master_hands c m (λ y. tunnel_in c y f) (λ h. host_tunnel_in h f) b.id g (active_anchor a) After Ups at (eq-eqb a.entity.setup.g g of_g)
      (relay_hands p b set tag pdu c a packet b.id g same_n has_host says is))

-- ---- by the past

-- what is next to hand up does not depend on what was taken
next_as : (r : Receipt) (cs : List ℕ) (es : List (ℕ × List ℕ)) → AreNext r es → AreNext (record r { taken = cs }) es
next_as r cs [] all = tt
next_as r cs (e ∷ es) all = (all.0, next_as (with_ups (e ∷ []) r) cs es all.1)

-- the step of an uplink data PDU that comes to its holder: it is a PDU of the establishment, and is not aged
pub record IsDelivered (p : Past) (b : Bearer) (set : Setting) (l : LinkId) (i : ℕ) (f : Flight) (u : Pdu) (e : Entity) : Type 0 where
  pub above : ℕ
  pub down : NamesDescend above p
  pub at : latest p b.id ≡ Some b
  pub found : find_at l i p.standing ≡ Some (l, f)
  pub pdu : (r : Receipt) → taken_on p l f r ≡ maybe_pdu_on p l (Some u) r
  pub of_id : u.id ≡ b.id
  pub upto : nat_le b.g u.g ≡ true
  pub in_plan : setting p u.id u.g ≡ Some set
  pub data' : is_data u.octets ≡ true
  pub up : direction_in l set ≡ Ul
  pub holds' : holds l.to u.g b.holder ≡ true
  pub read : IsRead p b set u.tag u.octets
  pub receiver : IsReceiver (receipt_of b) e.rx
  pub reader : IsReader (submitted_to (receipt_of b)) (ciphering_of p b.id set) e.setup
  pub young : e.rx.deliv ≤ read.count + window b.n

module _ (p : Past) (b : Bearer) (set : Setting) (l : LinkId) (i : ℕ) (f : Flight) (u : Pdu) (e : Entity) (k : IsDelivered p b set l i f u e)
    (x : Node) (o : Outcome)
    (goes : GoesUp x b.id (take_pdu e k.read.reads.content).1 o) where
  -- the entity after it
  abbrev pub Later : Entity
  Later = (take_pdu e k.read.reads.content).0

  abbrev pub Handed : List (ℕ × List ℕ)
  Handed = (take_pdu e k.read.reads.content).1

  -- the past before its lines
  abbrev Counted : Receipt
  Counted = record (receipt_of b) { taken = k.read.count ∷ b.up.taken }

  before_lines : answered_on p (event.Step l i) o.answer (receipt_of b) ≡ Counted
  before_lines =
      let r = receipt_of b in
      let named : is_named p u.id u.g r ≡ true =
      ap (λ s. is_some s && ((b.id == u.id) && nat_le b.g u.g)) k.in_plan ∙ and_from (b.id == u.id) (nat_le b.g u.g) (eq-eqb b.id u.id (sym k.of_id)) k.upto in
      ap (λ (n : Answer). answered_on p (event.Step l i) n r) goes.ok
      ∙ ap (λ s. given_on p s r) k.found
      ∙ k.pdu r
      ∙ past_takes p l u set r k.read.count k.in_plan named k.data' k.up k.holds' k.read.tagged

  here : receipt p b.id ≡ Some (receipt_of b)
  here = ap (option_map receipt_of) k.at

  ups_of_lines : ups_in b.id (lines_of o) ≡ Handed
  ups_of_lines =
      ap (λ t. ups_in b.id (lines_by t o)) (no_end x b.id Handed o goes) ∙ ups_ordered b.id o.notes o.sends ∙ ups_are x b.id Handed o goes

  -- what the past says of the uplink after it
  pub after_is : receipt (after p (entry_with (event.Step l i) o)) b.id ≡ Some (with_taken (k.read.count ∷ []) Handed (receipt_of b))
  after_is =
      outcome_receipt p (event.Step l i) o b.id k.above refl k.down (no_end x b.id Handed o goes) (lines_hand x b.id Handed o goes) (receipt_of b) here
      ∙ ap (λ (q : Receipt). Some (with_ups (ups_in q.id (as_lines o.notes)) q)) before_lines
      ∙ ap (λ es. Some (with_ups es Counted)) (ups_are x b.id Handed o goes)

  -- and that is what the receiving entity has
  pub after_receives : IsReceiver (with_taken (k.read.count ∷ []) Handed (receipt_of b)) Later.rx
  after_receives = (data_arrives p b set u.tag u.octets e k.receiver k.reader k.read k.young).0

  -- before its lines the past has the COUNT as taken
  judged_is : receipt (judged (event.Step l i) o.answer p) b.id ≡ Some Counted
  judged_is =
      judged_receipt (event.Step l i) o.answer p b.id refl (distinct_of k.above p.bearers k.down)
      ∙ ap (option_map (answered_on p (event.Step l i) o.answer)) here ∙ ap Some before_lines

  pub taken' : HasTaken (submitted_to (receipt_of b)) b.up.freed (Some k.read.count ∷ []) e.rx Later.rx Handed
  taken' = (data_arrives p b set u.tag u.octets e k.receiver k.reader k.read k.young).1

  -- what its lines hand up is the next of the submissions, each under its COUNT
  pub after_front : EachLine is_front (judged (event.Step l i) o.answer p) (lines_of o)
  after_front =
      fronts (lines_of o) (judged (event.Step l i) o.answer p) x b.id k.above Counted (judged_down k.above p (event.Step l i) o.answer refl k.down)
      (lines_hand x b.id Handed o goes) (lines_uplink x b.id Handed o goes) (lines_up x b.id Handed o goes) judged_is refl
      (subst (AreNext Counted) (sym ups_of_lines)
      (next_as (receipt_of b) (k.read.count ∷ b.up.taken) Handed (taken_next (receipt_of b) e.rx Later.rx (Some k.read.count ∷ []) Handed k.receiver taken')))

  -- and was carried by a PDU that the node took
  pub after_carried : is_same_node x T ≡ false → EachLine is_carried (judged (event.Step l i) o.answer p) (lines_of o)
  after_carried away =
      carried_lines (lines_of o) (judged (event.Step l i) o.answer p) x b.id k.above Counted away
      (judged_down k.above p (event.Step l i) o.answer refl k.down)
      (lines_hand x b.id Handed o goes) (lines_uplink x b.id Handed o goes) (lines_up x b.id Handed o goes) judged_is refl
      (subst (AreTaken Counted) (sym ups_of_lines)
      (taken_were (receipt_of b) e.rx Later.rx (Some k.read.count ∷ []) (k.read.count ∷ []) Handed taken' after_receives))

  -- the COUNT that is inferred from it is its tag
  pub count_inferred : is_within b.n e.rx.deliv k.read.count ≡ true
  count_inferred =
      let below = below_next (submitted_to (receipt_of b)) (k.read.count, k.read.payload) k.read.submission in
      is_inferred_at b e.rx k.read.count k.receiver k.read.submission.from below k.young
