-- What is on its way of an uplink stays so as the uplink grows.
use Rattle.std.proofs.Common.{ℕ, ◌≡◌, ◌<◌, Bool, true, false, List, Option, sym, ap, subst, ◌∙◌, arith}
use Rattle.std.specs.List.{AllByRecursion}
use Rattle.transcript.proofs.OnEach.{each_weaker}
use Rattle.dc_base.specs.Nodes.{is_same_node}
use Rattle.dc_base.specs.declared.flights.Flight.{Flight}
use Rattle.dc_base.specs.declared.flights.Flight.TheVariants as flight
use Rattle.dc_base.specs.declared.nodes.LinkId.{LinkId}
use Rattle.dc_base.specs.declared.nodes.Node.TheVariants.{T}
use Rattle.dc_base.specs.declared.numbers.SnLen.{SnLen}
use Rattle.dc_base.specs.declared.records.Rec.{Rec}
use Rattle.dc_base.specs.declared.records.Rec.TheVariants as rec
use Rattle.node_rules.specs.Choices.{Send}
use Rattle.node_rules.specs.Packets.{Packet, delivery, forwarding, nothing, packet_of, pdu_down, pdu_up}
use Rattle.pdcp_pdu.specs.Pdu.{decoded}
use Rattle.pdcp_rx.specs.declared.entity.RxParts.{RxParts}
use Rattle.run_receivers.specs.Frozen.{IsForwardedOf, SaysOf}
use Rattle.run_receivers.proofs.Reporting.{names_later}
use Rattle.run_received.specs.OnTheWay.{AirComes, Comes, DownComes, Grows, IsDue, IsHandedOver, IsOf, PacketComes, RecordComes, SentAlso, UpComes, is_sent_in}
use Rattle.run_received.specs.Receipts.{Receipt}

module _ (before after : List Send) (r s : Receipt) (rx ry : RxParts) (grows : Grows r s rx ry) (also : SentAlso before after) where
  was_of : (id g : ℕ) → IsOf s id g → IsOf r id g
  was_of id g is = (is.0 ∙ grows.id, let same = grows.g in let le = is.1 in omega (arith, same, le))

  due_later : (g : ℕ) (tag : Option ℕ) → IsDue before r g tag → IsDue after s g tag
  due_later g tag d = record {
    count = d.count;
    tagged = d.tagged;
    from = let same = grows.first in let from = d.from in omega (arith, same, from);
    submitted = let more = grows.more in let below = d.submitted in omega (arith, more, below);
    sends = subst (λ i. is_sent_in i g after ≡ true) (sym grows.id) (also r.id g d.sends);
    set = λ h at. d.set h (sym grows.terminal ∙ at);
    late = λ above.
        let owned = grows.owned in
        let was : r.owned < g = omega (arith, above, owned) in
        let le = grows.freed g was d.set in
        let from = d.late was in
        omega (arith, le, from);
  }

  up_later : (id g : ℕ) (tag : Option ℕ) (pdu : List ℕ) → UpComes before r id g tag pdu → UpComes after s id g tag pdu
  up_later id g tag pdu comes of data' = due_later g tag (comes (was_of id g of) data')

  down_later : (id g : ℕ) (pdu : List ℕ) → DownComes r rx id g pdu → DownComes s ry id g pdu
  down_later id g pdu comes of fmc bits reads =
      let was = comes (was_of id g of) fmc bits (ap (λ (n : SnLen). decoded n pdu) (sym grows.n) ∙ reads) in
      record {
        owned = let same = grows.owned in let le = was.owned in omega (arith, same, le);
        names = names_later rx ry fmc bits grows.deliv grows.received was.names;
      }

  over_later : (g : ℕ) (P : RxParts → Type 0) → IsHandedOver r g (P rx) → IsHandedOver s g (P ry)
  over_later g P over = record {
    says = λ above.
        let owned = grows.owned in
        let was = over.says (omega (arith, above, owned)) in
        (grows.holder ∙ was.0, subst P (sym (grows.frozen was.0)) was.1);
  }

  packet_later : (tag : Option ℕ) (x : Packet) → PacketComes before r rx tag x → PacketComes after s ry tag x
  packet_later tag (pdu_down id g number repeat pdu) comes = down_later id g pdu comes
  packet_later tag (pdu_up id g pdu) comes = up_later id g tag pdu comes
  packet_later tag (delivery id g status) comes = tt
  packet_later tag (forwarding id g d load) comes = λ up of. over_later g (λ z. IsForwardedOf z load) (comes up (was_of id g of))
  packet_later tag nothing comes = tt

  air_later : (down : Bool) (id g : ℕ) (tag : Option ℕ) (pdu : List ℕ) → AirComes before r rx down id g tag pdu → AirComes after s ry down id g tag pdu
  air_later true id g tag pdu comes = down_later id g pdu comes
  air_later false id g tag pdu comes = up_later id g tag pdu comes

  record_later : (c : Rec) → RecordComes r rx c → RecordComes s ry c
  record_later (rec.Snst st) comes = λ of. over_later st.g (λ z. SaysOf z st) (comes (was_of st.id st.g of))
  record_later (rec.Reconf q key) comes = tt
  record_later (rec.Rcomp g) comes = tt
  record_later (rec.Scgf pairs) comes = tt
  record_later (rec.Recov k) comes = tt
  record_later (rec.Recovd k) comes = tt
  record_later (rec.Addreq q key) comes = tt
  record_later (rec.Addack g) comes = tt
  record_later (rec.Addrej g) comes = tt
  record_later (rec.Modreq q key) comes = tt
  record_later (rec.Modack g) comes = tt
  record_later (rec.Modrej g) comes = tt
  record_later (rec.Recfg g) comes = tt
  record_later (rec.Relreq q) comes = tt
  record_later (rec.Relack g) comes = tt
  record_later (rec.Relrej g) comes = tt
  record_later (rec.Uecr g) comes = tt
  record_later (rec.Moved g k) comes = tt
  record_later (rec.Scgn k g) comes = tt
  record_later rec.Modrqd comes = tt
  record_later (rec.Modcnf g) comes = tt
  record_later (rec.Modref w) comes = tt
  record_later rec.Chgrqd comes = tt
  record_later (rec.Chgcnf q) comes = tt
  record_later (rec.Chgref w) comes = tt
  record_later rec.Relrqd comes = tt
  record_later (rec.Relcnf q) comes = tt

  pub comes_later : (l : LinkId) (f : Flight) → Comes before r rx l f → Comes after s ry l f
  comes_later l (flight.Air id g num tag pdu) comes = air_later (is_same_node l.to T) id g tag pdu comes
  comes_later l (flight.Tun tag packet) comes = packet_later tag (packet_of packet) comes
  comes_later l (flight.Ctl c) comes = record_later c comes
  comes_later l (flight.Ack id g num) comes = tt
  comes_later l (flight.Sdu id g sdu) comes = tt
  comes_later l (flight.End id g) comes = tt
  comes_later l (flight.Told id g count) comes = tt

  -- each on a link
  pub all_later : (l : LinkId) (fs : List Flight) → AllByRecursion (Comes before r rx l) fs → AllByRecursion (Comes after s ry l) fs
  all_later l fs all = each_weaker (Comes before r rx l) (Comes after s ry l) (comes_later l) fs all
