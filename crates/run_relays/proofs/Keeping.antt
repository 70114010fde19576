-- In each run each content that a waiting anchor keeps is read of a PDU that is that of its submission.
use Rattle.std.proofs.Common.{ℕ, ◌≡◌, false, List, [], ◌∷◌, Option, refl, sym, ap, subst, ◌∙◌, inl, inr}
use Rattle.std.specs.List.{AllByRecursion}
use Rattle.dc_base.specs.Nodes.{is_same_node}
use Rattle.dc_base.specs.declared.events.Event.{Event}
use Rattle.dc_base.specs.declared.events.Header.{Header}
use Rattle.dc_base.specs.declared.flights.Flight.{Flight}
use Rattle.dc_base.specs.declared.flights.Flight.TheVariants as flight
use Rattle.dc_base.specs.declared.nodes.LinkId.{LinkId}
use Rattle.dc_base.specs.declared.nodes.Node.{Node}
use Rattle.dc_base.specs.declared.nodes.Node.TheVariants.{A, B, M, T}
use Rattle.pdcp_pdu.specs.DataPdu.{is_data}
use Rattle.pdcp_pdu.specs.Pdu.{Content}
use Rattle.claims.specs.Noted.{after, past, past_from}
use Rattle.claims.specs.Past.{Past, new_past}
use Rattle.node_rules.specs.Anchor.{AnchorState, active_anchor, waiting_anchor}
use Rattle.node_rules.specs.Choices.{Choices}
use Rattle.node_rules.specs.Feed.{Fed}
use Rattle.node_rules.specs.Packets.{packet_of, pdu_up}
use Rattle.node_rules.specs.Run.{Happening, carried_on, entries_from, given_to, happening, on_links, refused_for, world_after, world_step}
use Rattle.node_rules.specs.Setup.{Setup}
use Rattle.node_rules.specs.World.{World, new_world}
use Rattle.node_rules.specs.declared.inputs.Input.TheVariants.{Cmd, Come}
use Rattle.run_control.specs.Sound.{AddsSecond}
use Rattle.run_senders.specs.Holders.{AllHeld}
use Rattle.run_uplinks.specs.Readings.{Reading, reading}
use Rattle.run_uplinks.specs.Seen.{seen}
use Rattle.run_relays.specs.Kept.{AreKept, AreSmall, Brings, FedKeepsOf, HasTag, IsReadOf, KeepsOf}
use Rattle.run_relays.specs.Pdus.{GrowsTo, IsGoodPdu}
use Rattle.run_relays.specs.Relays.{IsRelayed, OnLink}
use Rattle.run_relays.proofs.Growing.{promise_stays}
use Rattle.run_relays.proofs.Packets.{other_is_none, up_is}
use Rattle.run_relays.proofs.Runs.{Relays, event_becomes, relays_new, relays_next, run_becomes}
use Rattle.run_relays.proofs.Steps.{BringsTo, GivenOn, KeptOf, carried_kept, event_given}

-- ---- what comes

-- a relayed PDU is read as the PDU that it is
relayed_brings : (r : Reading) (tag : Option ℕ) (packet : List ℕ) → AreSmall r → IsRelayed r tag packet → (id g : ℕ) (pdu : List ℕ) → packet_of packet ≡ pdu_up id g pdu → HasTag r id g pdu
relayed_brings r tag packet small x id g pdu reads =
    let is = up_is x.g x.id x.pdu id g pdu (sym (ap packet_of x.is) ∙ reads) in
    record {
      tag = tag;
      promised = λ data'.
          let good = x.promised (sym (ap is_data is.octets) ∙ data') in
          let in_range = small x.id x.g good.set good.in_plan in
          let owner = is.owner in_range.0 in_range.1 in_range.2 in
          subst (λ i. IsGoodPdu r i g tag pdu) (sym owner.0) (subst (λ h. IsGoodPdu r x.id h tag pdu) (sym owner.1) (subst (IsGoodPdu r x.id x.g tag) (sym is.octets) good));
    }

brings : (r : Reading) (l : LinkId) (f : Flight) → AreSmall r → is_same_node l.to T ≡ false → OnLink r l f → Brings (HasTag r) f
brings r l (flight.Air id g num tag pdu) small away on = record { tag = tag; promised = on away }
brings r l (flight.Tun tag packet) small away (inl other) = λ id g pdu reads. absurd (other_is_none packet id g pdu other reads)
brings r l (flight.Tun tag packet) small away (inr x) = relayed_brings r tag packet small x
brings r l (flight.Ack id g num) small away on = tt
brings r l (flight.Sdu id g sdu) small away on = tt
brings r l (flight.End id g) small away on = tt
brings r l (flight.Told id g count) small away on = tt
brings r l (flight.Ctl x) small away on = tt

away_from : (x : Node) (l : LinkId) → l.to ≡ x → is_same_node x T ≡ false → is_same_node l.to T ≡ false
away_from x l same other = ap (λ y. is_same_node y T) same ∙ other

given_brings : (r : Reading) (h : Happening) → AreSmall r → GivenOn r h → BringsTo (HasTag r) h
given_brings r (given_to T i) small given = tt
given_brings r (given_to M (Come l f)) small given = brings r l f small (away_from M l given.0 refl) given.1
given_brings r (given_to A (Come l f)) small given = brings r l f small (away_from A l given.0 refl) given.1
given_brings r (given_to B (Come l f)) small given = brings r l f small (away_from B l given.0 refl) given.1
given_brings r (given_to M (Cmd e)) small given = tt
given_brings r (given_to A (Cmd e)) small given = tt
given_brings r (given_to B (Cmd e)) small given = tt
given_brings r (refused_for why) small given = tt
given_brings r (on_links effects) small given = tt

-- ---- what is kept stays

module _ (r s : Reading) (grows : GrowsTo r s) where
  contents_stay : (x : Setup) (cs : List Content) → AllByRecursion (IsReadOf (HasTag r) x) cs → AllByRecursion (IsReadOf (HasTag s) x) cs
  contents_stay x [] all = tt
  contents_stay x (c ∷ cs) all = (
    record { pdu = all.0.pdu; reads = all.0.reads; so = record { tag = all.0.so.tag; promised = promise_stays r s x.id x.g all.0.so.tag all.0.pdu grows all.0.so.promised } },
    contents_stay x cs all.1,
  )

  anchor_keeps : (a : AnchorState) → KeepsOf (HasTag r) a → KeepsOf (HasTag s) a
  anchor_keeps (waiting_anchor w) keeps = contents_stay w.setup w.pdus keeps
  anchor_keeps (active_anchor a) keeps = tt

  anchors_keep : (xs : List (ℕ × AnchorState)) → AllHeld (KeepsOf (HasTag r)) xs → AllHeld (KeepsOf (HasTag s)) xs
  anchors_keep [] all = tt
  anchors_keep (x ∷ xs) all = (anchor_keeps x.1 all.0, anchors_keep xs all.1)

  feds_keep : (xs : List (ℕ × Fed)) → AllHeld (FedKeepsOf (HasTag r)) xs → AllHeld (FedKeepsOf (HasTag s)) xs
  feds_keep [] all = tt
  feds_keep (x ∷ xs) all = (anchor_keeps x.1.anchor all.0, feds_keep xs all.1)

  kept_stays : (w : World) → KeptOf (HasTag r) w → KeptOf (HasTag s) w
  kept_stays w kept = record { master = anchors_keep w.master.anchors kept.master; a = feds_keep w.a.anchors kept.a; b = feds_keep w.b.anchors kept.b }

  -- what was drawn by then is small
  pub small_before : AreSmall s → AreSmall r
  small_before small = λ id g x at. small id g x (grows.settings id g x at)

-- ---- a run

kept_next : (c : Choices) (w : World) (p : Past) (e : Event) → Relays p w → AreSmall (reading (seen p)) → KeptOf (HasTag (reading (seen p))) w
    → KeptOf (HasTag (reading (seen (after p (world_step c w e).1)))) (world_step c w e).0
kept_next c w p e is small kept =
    let r = reading (seen p) in
    let s = reading (seen (after p (world_step c w e).1)) in
    let x = carried_kept (HasTag r) c w (happening w e) (given_brings r (happening w e) small (event_given r w is.on e)) kept in
    let y = kept_stays r s (event_becomes c w p e is.read).grows (carried_on c w (happening w e)).0 x in
    record { master = y.master; a = y.a; b = y.b }

kept_on : (c : Choices) (es : List Event) → AllByRecursion AddsSecond es → (w : World) (p : Past) → Relays p w → AreSmall (reading (seen (past_from p (entries_from c w es)))) → KeptOf (HasTag (reading (seen p))) w
    → KeptOf (HasTag (reading (seen (past_from p (entries_from c w es))))) (world_after c w es)
kept_on c [] adds w p is small kept = kept
kept_on c (e ∷ es) adds w p is small kept =
    let q = after p (world_step c w e).1 in
    let t = past_from q (entries_from c (world_step c w e).0 es) in
    let all = run_becomes c (e ∷ es) w p is.read in
    kept_on c es adds.1 (world_step c w e).0 q (relays_next c w p e adds.0 is) small (kept_next c w p e is (small_before (reading (seen p)) (reading (seen t)) all.grows small) kept)

-- after any events of which each addition is of a secondary node, while the plans drawn are of small generations and set identities of
-- 1 to 32: all that waiting anchors keep is read of PDUs of their own generation that are those of their submissions
pub kept_always : (c : Choices) (h : Header) (policies : ℕ) (es : List Event) → AllByRecursion AddsSecond es → AreSmall (reading (seen (past h policies (entries_from c (new_world h) es))))
    → AreKept (reading (seen (past h policies (entries_from c (new_world h) es)))) (world_after c (new_world h) es)
kept_always c h policies es adds small =
    let x = kept_on c es adds (new_world h) (new_past h policies) (relays_new c h policies) small (record { master = tt; a = tt; b = tt }) in record { master = x.master; a = x.a; b = x.b }
