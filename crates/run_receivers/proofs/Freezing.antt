-- What a freeze sends of the receiving entity: the place where it is, and the packets of what it stores.
use Rattle.std.proofs.Common.{ℕ, zero, suc, ◌≡◌, ◌+◌, ◌-◌, ◌/◌, ◌%◌, ◌^◌, ◌<◌, ◌≤◌, ◌++◌, Bool, true, false, List, [], ◌∷◌, Option, Some, None, Ok, length, slice_get, refl, sym, ap, ◌∙◌, subst, arith}
use Rattle.std.specs.Prelude.{IfSome, if◌then◌else◌, nat_le, nat_lt, ◌&&◌, ◌==◌}
use Rattle.std.specs.List.{AllByRecursion}
use Rattle.std.proofs.lemmas.Bool.Decides.{nat_tests}
use Rattle.std.proofs.lemmas.Option.{slice_get_within}
use Rattle.dc_base.specs.Count.{modulus, sn, window}
use Rattle.dc_base.specs.Tunnel.{teid, teid_kind}
use Rattle.dc_base.specs.declared.flights.Flight.{Flight}
use Rattle.dc_base.specs.declared.flights.Flight.TheVariants as flight
use Rattle.dc_base.specs.declared.nodes.Dir.TheVariants.{Ul}
use Rattle.dc_base.specs.declared.nodes.Node.{Node}
use Rattle.dc_base.specs.declared.numbers.SnLen.{SnLen}
use Rattle.dc_base.specs.declared.numbers.SnLen.TheVariants.{S12, S18}
use Rattle.dc_base.proofs.Counting.{sn_small, window_small}
use Rattle.forward.specs.Load.{Carries, Sdu}
use Rattle.forward.specs.Outgoing.{end_marker, pdu_number, sdu_packet, total_packet}
use Rattle.forward.specs.Reading.{load_in, load_with}
use Rattle.forward.specs.Tunnel.{IsPacketOf, marker_of, sdu_of, total_of}
use Rattle.forward.proofs.Carrying.{load_carried, without_container}
use Rattle.gtpu.specs.Content.{Content}
use Rattle.gtpu.specs.Decoded.{decoded}
use Rattle.gtpu.specs.Spelling.{FitsLong, FitsShort, IsContainer, extensions, spelling}
use Rattle.gtpu.specs.declared.packet.GtpKind.TheVariants.{GPdu}
use Rattle.gtpu.proofs.Again.{read_again}
use Rattle.gtpu.proofs.Reading.{packet_is_read}
use Rattle.nr_u.specs.Frames.{written}
use Rattle.nr_u.specs.declared.frame.Frame.TheVariants.{User}
use Rattle.nr_u.proofs.Shown.{frame_decodes}
use Rattle.nr_u.proofs.Written.{written_is_frame}
use Rattle.pdcp_rx.specs.Entries.{AscendFrom, Entry}
use Rattle.pdcp_rx.specs.Receiver.{IsInOrder}
use Rattle.pdcp_rx.specs.declared.entity.RxParts.{RxParts}
use Rattle.transcript.proofs.OnEach.{each_append}
use Rattle.node_rules.specs.Adopting.{is_payload}
use Rattle.node_rules.specs.Anchor.{Active}
use Rattle.node_rules.specs.Choices.{Send}
use Rattle.node_rules.specs.Entity.{Entity}
use Rattle.node_rules.specs.Feed.{Frozen, frozen_end_in, frozen_sdu_in}
use Rattle.node_rules.specs.Freezing.{Tunnel, closing, down_sdus, down_sends, forward_end, forward_fresh, freeze, new_tunnel, numbered, pieces, transfer_of, up_sdus, whole_tunnel}
use Rattle.node_rules.specs.Packets.{own_packet}
use Rattle.run_moves.specs.Movable.{ArePayloads}
use Rattle.run_receivers.specs.Frozen.{IsForwardedOf, IsOfFrozen, IsTransferOf, SaysOf, up_tunnel}
use Rattle.run_receivers.proofs.Packets.{gen_in_teid, id_in_teid, kind_in_teid, says_forwarded, teid_fits}

-- ---- packets are read again

pub packet_again : (p : Content) → p.teid < 2 ^ 32 → length (extensions p) + length p.body < 2 ^ 16 → IfSome p.container IsContainer
    → IfSome p.number FitsShort → IfSome p.number FitsLong
    → decoded (spelling p) ≡ Ok p
packet_again p fits size container short long = packet_is_read (spelling p) p (read_again p (spelling p) refl fits size container short long)

sn_short : (n : SnLen) (c : ℕ) → FitsShort (pdu_number n (sn n c))
unfolding modulus
sn_short S12 c = let small = sn_small S12 c in omega arith
sn_short S18 c = tt

sn_long : (n : SnLen) (c : ℕ) → FitsLong (pdu_number n (sn n c))
unfolding modulus
sn_long S12 c = tt
sn_long S18 c = let small = sn_small S18 c in omega arith

-- an SDU with its sequence number
sdu_again : (t : ℕ) (n : SnLen) (number c : ℕ) (body : List ℕ) → t < 2 ^ 32 → length body ≤ 9000
    → decoded (spelling (sdu_packet t n number (Some (sn n c), body))) ≡ Ok (sdu_packet t n number (Some (sn n c), body))
sdu_again t S12 number c body fits short =
    packet_again (sdu_packet t S12 number (Some (sn S12 c), body)) fits (omega (arith, short)) (refl, omega arith) (sn_short S12 c) (sn_long S12 c)
sdu_again t S18 number c body fits short =
    packet_again (sdu_packet t S18 number (Some (sn S18 c), body)) fits (omega (arith, short)) (refl, omega arith) (sn_short S18 c) (sn_long S18 c)

total_again : (t total : ℕ) → t < 2 ^ 32 → decoded (spelling (total_packet t total)) ≡ Ok (total_packet t total)
total_again t total fits = packet_again (total_packet t total) fits (omega arith) (refl, omega arith) tt tt

marker_again : (t : ℕ) → t < 2 ^ 32 → decoded (spelling (end_marker t)) ≡ Ok (end_marker t)
marker_again t fits = packet_again (end_marker t) fits (omega arith) tt tt tt

-- a G-PDU with a user data frame carries what is read of it
user_carries : (p : Content) (number : ℕ) (user : Bool) → p.kind ≡ GPdu → p.container ≡ Some (written (User number user false)) → number < 2 ^ 24
    → Carries p (load_in p p.container)
user_carries p number user kind has fits =
    let octets = written (User number user false) in
    let frame = written_is_frame (User number user false) fits in
    let read = frame_decodes octets (User number user false) frame in
    subst (Carries p) (sym (ap (load_in p) has ∙ ap (load_with p) read)) (load_carried p octets (Ok (User number user false)) kind has read frame)

-- ---- what is stored

payload_short : (sdu : List ℕ) → is_payload sdu ≡ true → length sdu ≤ 9000
payload_short sdu is = grind (arith, nat_tests)

-- so many COUNTs ascend below a bound
pub stored_few : (from bound : ℕ) (es : List Entry) → AscendFrom from es → AllByRecursion (λ e. e.0 < bound) es → length es ≤ bound - from
stored_few from bound [] up all = omega arith
stored_few from bound (e ∷ es) up all = let rest = stored_few (e.0 + 1) bound es up.1 all.1 in omega (arith, up.0, all.0)

pub length-numbered : (n : SnLen) (es : List Entry) → length (numbered n es) ≡ length es
length-numbered n [] = refl
length-numbered n (e ∷ es) = ap suc (length-numbered n es)

-- what is forwarded under a number is what is stored at its place
record IsStoredAt (n : SnLen) (es : List Entry) (s : Sdu) : Type 0 where
  count : ℕ
  body : List ℕ
  is : s ≡ (Some (sn n count), body)
  good : is_payload body ≡ true

stored_at : (n : SnLen) (es : List Entry) (j : ℕ) (s : Sdu) → ArePayloads es → slice_get (numbered n es) j ≡ Some s → IsStoredAt n es s
stored_at n [] j s all at = absurd cc
stored_at n (e ∷ es) zero s all at = record { count = e.0; body = e.1; is = cc; good = all.0 }
stored_at n (e ∷ es) (suc j) s all at =
    let later = stored_at n es j s all.1 at in record { count = later.count; body = later.body; is = later.is; good = later.good }

-- ---- packets of a list

each_piece : (P : Flight → Type 0) (t : Tunnel) (key number : ℕ) (sdus : List Sdu)
    → ((j : ℕ) (s : Sdu) → slice_get sdus j ≡ Some s → P (flight.Tun None (spelling (sdu_packet key t.n (number + j) s))))
    → AllByRecursion (λ (x : Send). P x.1) (pieces t key number sdus)
each_piece P t key number [] each = tt
each_piece P t key number (s ∷ sdus) each =
    let here : number + 0 ≡ number = omega arith in (
      subst (λ k. P (flight.Tun None (spelling (sdu_packet key t.n k s)))) here (each 0 s refl),
      each_piece P t key (number + 1) sdus (λ j x at.
          let next : number + suc j ≡ number + 1 + j = omega arith in
          subst (λ k. P (flight.Tun None (spelling (sdu_packet key t.n k x)))) next (each (suc j) x at)),
    )

module _ (rx : RxParts) (g id : ℕ) where
  -- a packet of no uplink forwarding tunnel of this bearer and generation says nothing of the entity
  pub other_packet : (tag : Option ℕ) (p : Content) → p.teid < 2 ^ 32 → (teid_kind p.teid ≡ 2 → ⊥) → IsOfFrozen rx g id (flight.Tun tag (spelling p))
  other_packet tag p fits other load is = let said = says_forwarded p id g Ul load fits is in absurd (other said.kind)

  -- a packet of downlink forwarding
  down_packet : (h i : ℕ) (p : Content) → h < 2 ^ 24 → i ≤ 32 → p.teid ≡ teid h i 1 → IsOfFrozen rx g id (flight.Tun None (spelling p))
  down_packet h i p small most is =
      let kind : teid_kind p.teid ≡ 1 = ap teid_kind is ∙ kind_in_teid h i 1 (omega arith) in
      other_packet None p (subst (λ k. k < 2 ^ 32) (sym is) (teid_fits h i 1 small most (omega arith))) (λ two. omega arith)

  pub down_closing : (t : Tunnel) (total : ℕ) → t.g < 2 ^ 24 → t.id ≤ 32
      → AllByRecursion (λ (x : Send). IsOfFrozen rx g id x.1) (closing t (teid t.g t.id 1) total)
  down_closing t total small most =
      (down_packet t.g t.id (total_packet (teid t.g t.id 1) total) small most refl, (down_packet t.g t.id (end_marker (teid t.g t.id 1)) small most refl, tt))

  pub down_pieces : (t : Tunnel) (number : ℕ) (sdus : List Sdu) → t.g < 2 ^ 24 → t.id ≤ 32
      → AllByRecursion (λ (x : Send). IsOfFrozen rx g id x.1) (pieces t (teid t.g t.id 1) number sdus)
  down_pieces t number sdus small most =
      each_piece (IsOfFrozen rx g id) t (teid t.g t.id 1) number sdus
      (λ j s at. down_packet t.g t.id (sdu_packet (teid t.g t.id 1) t.n (number + j) s) small most refl)

  down_ends : (t : Tunnel) (last : Bool) (sdus : List Sdu) → t.g < 2 ^ 24 → t.id ≤ 32
      → AllByRecursion (λ (x : Send). IsOfFrozen rx g id x.1) (down_sends t last sdus)
  down_ends t true sdus small most =
      each_append (λ (x : Send). IsOfFrozen rx g id x.1) (pieces t (teid t.g t.id 1) 0 sdus) (closing t (teid t.g t.id 1) (length sdus))
      (down_pieces t 0 sdus small most) (down_closing t (length sdus) small most)
  down_ends t false sdus small most = down_pieces t 0 sdus small most

  -- ---- uplink

  -- the packets of another bearer or generation, or of the entity
  module _ (e : Entity) (h : ℕ) (small : h < 2 ^ 24) (some : 1 ≤ e.setup.id) (most : e.setup.id ≤ 32) (same : g ≡ h → id ≡ e.setup.id → rx ≡ e.rx) where
    up_packet : (p : Content) → p.teid ≡ teid h e.setup.id 2 → decoded (spelling p) ≡ Ok p → IsPacketOf (up_tunnel e.rx) p → Carries p (load_in p p.container)
        → IsOfFrozen rx g id (flight.Tun None (spelling p))
    up_packet p is again of carries load says =
        let fits : p.teid < 2 ^ 32 = subst (λ k. k < 2 ^ 32) (sym is) (teid_fits h e.setup.id 2 small most (omega arith)) in
        let said = says_forwarded p id g Ul load fits says in
        let read : said.read ≡ p = let both : Ok said.read ≡ Ok p = sym said.decoded_is ∙ again in cc in
        let gen : g ≡ h = sym said.g_is ∙ ap (λ k. k / 128) is ∙ gen_in_teid h e.setup.id 2 most (omega arith) in
        let identity : id ≡ e.setup.id = sym said.id_is ∙ ap (λ k. 1 + k % 128 / 4) is ∙ id_in_teid h e.setup.id 2 some most (omega arith) in
        let loaded : load_in p p.container ≡ load = ap (λ (q : Content). load_in q q.container) (sym read) ∙ said.load_is in
        subst (λ r. IsForwardedOf r load) (sym (same gen identity)) (p, of, subst (Carries p) loaded carries)

    -- the entity is in order, and what it stores are payloads
    module _ (same_n : e.rx.n ≡ e.setup.n) (order : IsInOrder e.rx) (payloads : ArePayloads e.rx.stored) where
      key : ℕ
      key = teid h e.setup.id 2

      -- what is forwarded is of the tunnel
      sdus_are : up_sdus e ≡ (up_tunnel e.rx).sdus
      sdus_are = ap (λ n. numbered n e.rx.stored) (sym same_n)

      few : length (up_sdus e) < 2 ^ 24
      few =
          let count = length-numbered e.setup.n e.rx.stored in
          let stored = stored_few (e.rx.deliv + 1) (e.rx.deliv + window e.rx.n) e.rx.stored order.ascends order.in_window in
          let wide = window_small e.rx.n in
          omega arith

      up_piece : (n : SnLen) (j : ℕ) (s : Sdu) → n ≡ e.setup.n → slice_get (up_sdus e) j ≡ Some s
          → IsOfFrozen rx g id (flight.Tun None (spelling (sdu_packet (teid h e.setup.id 2) n j s)))
      up_piece n j s is at =
          let stored = stored_at e.setup.n e.rx.stored j s payloads at in
          let within = slice_get_within (up_sdus e) j s at in
          let few' = few in
          let p : Content = sdu_packet (teid h e.setup.id 2) n j s in
          let s_is : s ≡ (Some (sn n stored.count), stored.body) = stored.is ∙ ap (λ m. (Some (sn m stored.count), stored.body)) (sym is) in
          let again : decoded (spelling p) ≡ Ok p =
          subst (λ (x : Sdu). decoded (spelling (sdu_packet (teid h e.setup.id 2) n j x)) ≡ Ok (sdu_packet (teid h e.setup.id 2) n j x)) (sym s_is)
          (sdu_again (teid h e.setup.id 2) n j stored.count stored.body (teid_fits h e.setup.id 2 small most (omega arith))
          (payload_short stored.body stored.good)) in
          let of : IsPacketOf (up_tunnel e.rx) p = sdu_of (teid h e.setup.id 2) n j s (ap (λ (xs : List Sdu). slice_get xs j) (sym sdus_are) ∙ at) refl in
          up_packet p refl again of (user_carries p j true refl refl (omega arith))

      up_closing : (t : Tunnel) → AllByRecursion (λ (x : Send). IsOfFrozen rx g id x.1) (closing t (teid h e.setup.id 2) (length (up_sdus e)))
      up_closing t =
          let fits = teid_fits h e.setup.id 2 small most (omega arith) in
          let total = length (up_sdus e) in
          let all : total ≡ length (up_tunnel e.rx).sdus = ap length sdus_are in
          let p : Content = total_packet (teid h e.setup.id 2) total in
          let q : Content = end_marker (teid h e.setup.id 2) in (
            up_packet p refl (total_again (teid h e.setup.id 2) total fits)
                (total_of (teid h e.setup.id 2) refl (ap (total_packet (teid h e.setup.id 2)) all)) (user_carries p total false refl refl few),
            (up_packet q refl (marker_again (teid h e.setup.id 2) fits) (marker_of (teid h e.setup.id 2) refl refl) (without_container q refl), tt),
          )

      -- what a freeze sends is of the frozen entity, or says nothing of it
      pub freeze_says : (open' : Bool) (tunnel : Tunnel) → tunnel.n ≡ e.setup.n → tunnel.g ≡ h → tunnel.id ≡ e.setup.id
          → AllByRecursion (λ (x : Send). IsOfFrozen rx g id x.1)
          (down_sends tunnel open' (down_sdus e) ++ whole_tunnel tunnel (teid h e.setup.id 2) (up_sdus e))
      freeze_says open' tunnel n_is g_is id_is =
          each_append (λ (x : Send). IsOfFrozen rx g id x.1) (down_sends tunnel open' (down_sdus e)) (whole_tunnel tunnel (teid h e.setup.id 2) (up_sdus e))
          (down_ends tunnel open' (down_sdus e) (subst (λ k. k < 2 ^ 24) (sym g_is) small) (subst (λ k. k ≤ 32) (sym id_is) most))
          (each_append (λ (x : Send). IsOfFrozen rx g id x.1) (pieces tunnel (teid h e.setup.id 2) 0 (up_sdus e))
          (closing tunnel (teid h e.setup.id 2) (length (up_sdus e)))
          (each_piece (IsOfFrozen rx g id) tunnel (teid h e.setup.id 2) 0 (up_sdus e) (λ j s at.
          let place : j ≡ 0 + j = omega arith in
          subst (λ k. IsOfFrozen rx g id (flight.Tun None (spelling (sdu_packet (teid h e.setup.id 2) tunnel.n k s)))) place
          (up_piece tunnel.n j s n_is at))) (up_closing tunnel))

-- ---- the freeze

-- the status transfer says where the receiving entity is
pub transfer_says : (e : Entity) (h : ℕ) → SaysOf e.rx (transfer_of e h)
transfer_says e h = record { ul = refl; bits = refl }

-- whatever bearer and generation it is looked at for
pub transfer_is : (rx : RxParts) (g id : ℕ) (e : Entity) (h : ℕ) → (g ≡ h → id ≡ e.setup.id → rx ≡ e.rx) → IsTransferOf rx g id (transfer_of e h)
transfer_is rx g id e h same gen identity = subst (λ r. SaysOf r (transfer_of e h)) (sym (same (sym gen) (sym identity))) (transfer_says e h)

-- each packet of a freeze is of the receiving entity that was frozen, or says nothing of one
pub frozen_says : (a : Active) (target : Node) (h : ℕ) (last : Bool) → h < 2 ^ 24 → 1 ≤ a.entity.setup.id → a.entity.setup.id ≤ 32
    → a.entity.rx.n ≡ a.entity.setup.n → IsInOrder a.entity.rx
    → ArePayloads a.entity.rx.stored → (rx : RxParts) (g id : ℕ) → (g ≡ h → id ≡ a.entity.setup.id → rx ≡ a.entity.rx)
    → AllByRecursion (λ (x : Send). IsOfFrozen rx g id x.1) (freeze a target h last).sends
frozen_says a target h last small some most same_n order payloads rx g id same =
    freeze_says rx g id a.entity h small some most same same_n order payloads last (new_tunnel a.entity target h) refl refl refl

-- what a frozen anchor forwards later is downlink
pub frozen_sdu_says : (f : Frozen) (h : ℕ) (sdu : List ℕ) → f.tunnel.g < 2 ^ 24 → f.tunnel.id ≤ 32 → (rx : RxParts) (g id : ℕ)
    → AllByRecursion (λ (x : Send). IsOfFrozen rx g id x.1) (frozen_sdu_in f h sdu).1
frozen_sdu_says f h sdu small most rx g id = by (nat_le f.since h && nat_lt h f.tunnel.g)
  where
    by : (t : Bool) → AllByRecursion (λ (x : Send). IsOfFrozen rx g id x.1)
        (if◌then◌else◌ {A = Frozen × List Send} t (record f { tunnel = (forward_fresh f.tunnel sdu).0 }, (forward_fresh f.tunnel sdu).1) (f, [])).1
    by true = down_pieces rx g id f.tunnel f.tunnel.next ((None, sdu) ∷ []) small most
    by false = tt

-- and so is the end
pub frozen_end_says : (f : Frozen) (h : ℕ) → f.tunnel.g < 2 ^ 24 → f.tunnel.id ≤ 32 → (rx : RxParts) (g id : ℕ)
    → AllByRecursion (λ (x : Send). IsOfFrozen rx g id x.1) (frozen_end_in f h).1
frozen_end_says f h small most rx g id = by (f.tunnel.g == h)
  where
    by : (t : Bool) → AllByRecursion (λ (x : Send). IsOfFrozen rx g id x.1)
        (if◌then◌else◌ {A = Option Frozen × List Send} t (None, forward_end f.tunnel) (Some f, [])).1
    by true = down_closing rx g id f.tunnel f.tunnel.next small most
    by false = tt

-- a packet of a bearer's own traffic says nothing of what is forwarded
pub own_says : (h i : ℕ) (container : Option (List ℕ)) (body : List ℕ) (tag : Option ℕ) → h < 2 ^ 24 → i ≤ 32 → (rx : RxParts) (g id : ℕ)
    → IsOfFrozen rx g id (flight.Tun tag (own_packet h i container body))
own_says h i container body tag small most rx g id =
    let kind = kind_in_teid h i 0 (omega arith) in
    other_packet rx g id tag (record { kind = GPdu; teid = teid h i 0; container = container; number = None; body = body })
    (teid_fits h i 0 small most (omega arith)) (λ two. omega arith)
