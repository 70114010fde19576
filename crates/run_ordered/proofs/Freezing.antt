-- What a freeze sends of the sending entity, and what the frozen anchor forwards after it.
use Rattle.std.proofs.Common.{Bool, List, None, Ok, Option, Some, [], false, refl, sym, subst, ap, arith, suc, true, zero, ℕ, ◌%◌, ◌+◌, ◌++◌, ◌/◌, ◌<◌, ◌^◌, ◌≡◌, ◌≤◌, ◌∙◌, ◌∷◌, append_assoc, length, slice_get}
use Rattle.std.specs.List.{AllByRecursion}
use Rattle.std.specs.Prelude.{IfSome}
use Rattle.std.proofs.lemmas.List.{append-nil, length-append}
use Rattle.std.proofs.lemmas.Option.{slice_get_within}
use Rattle.dc_base.specs.Count.{modulus, sn}
use Rattle.dc_base.specs.Tunnel.{teid, teid_kind}
use Rattle.dc_base.specs.declared.flights.Flight.{Flight}
use Rattle.dc_base.specs.declared.flights.Flight.TheVariants as flight
use Rattle.dc_base.specs.declared.nodes.Dir.TheVariants.{Dl}
use Rattle.dc_base.specs.declared.nodes.Node.{Node}
use Rattle.dc_base.specs.declared.numbers.SnLen.{SnLen}
use Rattle.dc_base.specs.declared.numbers.SnLen.TheVariants.{S12, S18}
use Rattle.dc_base.proofs.Counting.{sn_small, window_small}
use Rattle.forward.specs.Load.{Carries, Sdu}
use Rattle.forward.specs.Outgoing.{end_marker, pdu_number, sdu_packet, total_packet}
use Rattle.forward.specs.Reading.{load_in, load_with}
use Rattle.forward.specs.Tunnel.{IsLater, IsPacketOf, marker_of, sdu_of, total_of}
use Rattle.forward.proofs.Carrying.{load_carried, without_container}
use Rattle.gtpu.specs.Content.{Content}
use Rattle.gtpu.specs.Decoded.{decoded}
use Rattle.gtpu.specs.Spelling.{FitsLong, FitsShort, IsContainer, extensions, spelling}
use Rattle.gtpu.specs.declared.packet.GtpKind.TheVariants.{GPdu}
use Rattle.gtpu.proofs.Again.{read_again}
use Rattle.gtpu.proofs.Reading.{packet_is_read}
use Rattle.nr_u.specs.Frames.{written}
use Rattle.nr_u.specs.declared.frame.Frame.TheVariants.{User}
use Rattle.nr_u.proofs.Shown.{frame_decodes}
use Rattle.nr_u.proofs.Written.{written_is_frame}
use Rattle.pdcp_tx.specs.Sender.{Entry, Rises, Sender, low}
use Rattle.pdcp_tx.specs.Sending.{hold_sdu}
use Rattle.pdcp_tx.proofs.Entries.{Rises-least}
use Rattle.transcript.proofs.OnEach.{each_append}
use Rattle.master_runs.proofs.Lists.{slice_get_right}
use Rattle.node_rules.specs.Anchor.{Active}
use Rattle.node_rules.specs.Choices.{Send}
use Rattle.node_rules.specs.Freezing.{Tunnel, closing, down_sdus, down_sends, forward_end, forward_fresh, freeze, new_tunnel, numbered, pieces, up_sdus, whole_tunnel}
use Rattle.run_moves.proofs.Taken.{unnumbered}
use Rattle.run_receivers.specs.Submitted.{Submitted}
use Rattle.run_receivers.proofs.Packets.{gen_in_teid, id_in_teid, kind_in_teid, says_forwarded, teid_fits}
use Rattle.run_ordered.specs.Forwarding.{SaysOnlyOf, down_tunnel, forwarded_by}
use Rattle.run_ordered.specs.Fronts.{IsFront}

-- ---- packets are read again

packet_again : (p : Content) → p.teid < 2 ^ 32 → length (extensions p) + length p.body < 2 ^ 16 → IfSome p.container IsContainer → IfSome p.number FitsShort → IfSome p.number FitsLong
    → decoded (spelling p) ≡ Ok p
packet_again p fits size container short long = packet_is_read (spelling p) p (read_again p (spelling p) refl fits size container short long)

sn_short : (n : SnLen) (c : ℕ) → FitsShort (pdu_number n (sn n c))
unfolding modulus
sn_short S12 c = let small = sn_small S12 c in omega arith
sn_short S18 c = tt

sn_long : (n : SnLen) (c : ℕ) → FitsLong (pdu_number n (sn n c))
unfolding modulus
sn_long S12 c = tt
sn_long S18 c = let small = sn_small S18 c in omega arith

-- an SDU that may be forwarded: a payload, with the SN of a COUNT or without one
pub data IsForwardable (n : SnLen) : Sdu → Type 0 where
  with_count : (c : ℕ) (body : List ℕ) → length body ≤ 9000 → IsForwardable n (Some (sn n c), body)
  without : (body : List ℕ) → length body ≤ 9000 → IsForwardable n (None, body)

counted_again : (t : ℕ) (n : SnLen) (number c : ℕ) (body : List ℕ) → t < 2 ^ 32 → length body ≤ 9000
    → decoded (spelling (sdu_packet t n number (Some (sn n c), body))) ≡ Ok (sdu_packet t n number (Some (sn n c), body))
counted_again t S12 number c body fits short = packet_again (sdu_packet t S12 number (Some (sn S12 c), body)) fits (omega (arith, short)) (refl, omega arith) (sn_short S12 c) (sn_long S12 c)
counted_again t S18 number c body fits short = packet_again (sdu_packet t S18 number (Some (sn S18 c), body)) fits (omega (arith, short)) (refl, omega arith) (sn_short S18 c) (sn_long S18 c)

fresh_again : (t : ℕ) (n : SnLen) (number : ℕ) (body : List ℕ) → t < 2 ^ 32 → length body ≤ 9000 → decoded (spelling (sdu_packet t n number (None, body))) ≡ Ok (sdu_packet t n number (None, body))
fresh_again t n number body fits short = packet_again (sdu_packet t n number (None, body)) fits (omega (arith, short)) (refl, omega arith) tt tt

sdu_again : (t : ℕ) (n : SnLen) (number : ℕ) (s : Sdu) → t < 2 ^ 32 → IsForwardable n s → decoded (spelling (sdu_packet t n number s)) ≡ Ok (sdu_packet t n number s)
sdu_again t n number s fits (with_count c body short) = counted_again t n number c body fits short
sdu_again t n number s fits (without body short) = fresh_again t n number body fits short

total_again : (t total : ℕ) → t < 2 ^ 32 → decoded (spelling (total_packet t total)) ≡ Ok (total_packet t total)
total_again t total fits = packet_again (total_packet t total) fits (omega arith) (refl, omega arith) tt tt

marker_again : (t : ℕ) → t < 2 ^ 32 → decoded (spelling (end_marker t)) ≡ Ok (end_marker t)
marker_again t fits = packet_again (end_marker t) fits (omega arith) tt tt tt

-- a G-PDU with a user data frame carries what is read of it
user_carries : (p : Content) (number : ℕ) (user : Bool) → p.kind ≡ GPdu → p.container ≡ Some (written (User number user false)) → number < 2 ^ 24 → Carries p (load_in p p.container)
user_carries p number user kind has fits =
    let octets = written (User number user false) in
    let frame = written_is_frame (User number user false) fits in
    let read = frame_decodes octets (User number user false) frame in
    subst (Carries p) (sym (ap (load_in p) has ∙ ap (load_with p) read)) (load_carried p octets (Ok (User number user false)) kind has read frame)

-- ---- what is forwarded

pub all_at : {X : Type 0} (P : X → Type 0) (xs : List X) (j : ℕ) (x : X) → AllByRecursion P xs → slice_get xs j ≡ Some x → P x
all_at P [] j x all at = absurd cc
all_at P (y ∷ ys) zero x all at = subst P (same at) all.0
  where
    same : Some y ≡ Some x → y ≡ x
    same e = cc
all_at P (y ∷ ys) (suc j) x all at = all_at P ys j x all.1 at

-- the SDUs of an entity whose SDUs are payloads
abbrev pub HasPayloads : Sender → Type 0
HasPayloads tx = AllByRecursion (λ (e : Entry). length e.1 ≤ 9000) tx.kept × AllByRecursion (λ (sdu : List ℕ). length sdu ≤ 9000) tx.held

numbered_good : (n : SnLen) (es : List Entry) → AllByRecursion (λ (e : Entry). length e.1 ≤ 9000) es → AllByRecursion (IsForwardable n) (numbered n es)
numbered_good n [] all = tt
numbered_good n (e ∷ es) all = (with_count e.0 e.1 all.0, numbered_good n es all.1)

unnumbered_good : (n : SnLen) (sdus : List (List ℕ)) → AllByRecursion (λ (sdu : List ℕ). length sdu ≤ 9000) sdus → AllByRecursion (IsForwardable n) (unnumbered sdus)
unnumbered_good n [] all = tt
unnumbered_good n (sdu ∷ sdus) all = (without sdu all.0, unnumbered_good n sdus all.1)

forwarded_good : (tx : Sender) → HasPayloads tx → AllByRecursion (IsForwardable tx.n) (forwarded_by tx)
forwarded_good tx all = each_append (IsForwardable tx.n) (numbered tx.n tx.kept) (unnumbered tx.held) (numbered_good tx.n tx.kept all.0) (unnumbered_good tx.n tx.held all.1)

length_numbered : (n : SnLen) (es : List Entry) → length (numbered n es) ≡ length es
length_numbered n [] = refl
length_numbered n (e ∷ es) = ap suc (length_numbered n es)

length_unnumbered : (sdus : List (List ℕ)) → length (unnumbered sdus) ≡ length sdus
length_unnumbered [] = refl
length_unnumbered (sdu ∷ sdus) = ap suc (length_unnumbered sdus)

rises_few : (from next : ℕ) (es : List Entry) → Rises from next es → from + length es ≤ next
rises_few from next [] up = omega (arith, up)
rises_few from next (e ∷ es) up = let more = rises_few (e.0 + 1) next es up.1 in omega (arith, up.0)

-- there are few of them: what is kept and what is held fits in a window
pub forwarded_few : (u : Submitted) (rest : List (List ℕ)) (is_open : Bool) (tx : Sender) → IsFront u rest is_open tx → length (forwarded_by tx) < 2 ^ 24
forwarded_few u rest is_open tx f =
    let one = length-append (numbered tx.n tx.kept) (unnumbered tx.held) in
    let kept = length_numbered tx.n tx.kept in
    let held = length_unnumbered tx.held in
    let few = rises_few (low tx) tx.next tx.kept (Rises-least u.first tx.next tx.kept f.rises) in
    let all : length u.payloads ≡ length (f.given ++ (tx.held ++ rest)) = ap length f.all in
    let two = length-append f.given (tx.held ++ rest) in
    let three = length-append tx.held rest in
    let next = f.next in
    let room = f.room in
    let wide = window_small u.n in
    omega arith

-- ---- packets of a list

each_piece : (P : Flight → Type 0) (t : Tunnel) (key number : ℕ) (sdus : List Sdu)
    → ((j : ℕ) (s : Sdu) → slice_get sdus j ≡ Some s → P (flight.Tun None (spelling (sdu_packet key t.n (number + j) s)))) → AllByRecursion (λ (x : Send). P x.1) (pieces t key number sdus)
each_piece P t key number [] each = tt
each_piece P t key number (s ∷ sdus) each =
    let here : number + 0 ≡ number = omega arith in (
      subst (λ k. P (flight.Tun None (spelling (sdu_packet key t.n k s)))) here (each 0 s refl),
      each_piece P t key (number + 1) sdus (λ j x at.
          let next : number + suc j ≡ number + 1 + j = omega arith in
          subst (λ k. P (flight.Tun None (spelling (sdu_packet key t.n k x)))) next (each (suc j) x at)),
    )

module _ (tx : Sender) (closed : Bool) (h i : ℕ) (small : h < 2 ^ 24) (some : 1 ≤ i) (most : i ≤ 32) where
  abbrev Says : Flight → Type 0
  Says f = SaysOnlyOf tx closed h i f

  -- a packet of the downlink tunnel
  down_packet : (p : Content) → p.teid ≡ teid h i 1 → decoded (spelling p) ≡ Ok p → IsPacketOf (down_tunnel tx closed) p → Carries p (load_in p p.container) → Says (flight.Tun None (spelling p))
  down_packet p is again of carries id g load says =
      let fits : p.teid < 2 ^ 32 = subst (λ k. k < 2 ^ 32) (sym is) (teid_fits h i 1 small most (omega arith)) in
      let said = says_forwarded p id g Dl load fits says in
      let read : said.read ≡ p = let both : Ok said.read ≡ Ok p = sym said.decoded_is ∙ again in cc in
      let gen : g ≡ h = sym said.g_is ∙ ap (λ k. k / 128) is ∙ gen_in_teid h i 1 most (omega arith) in
      let identity : id ≡ i = sym said.id_is ∙ ap (λ k. 1 + k % 128 / 4) is ∙ id_in_teid h i 1 some most (omega arith) in
      let loaded : load_in p p.container ≡ load = ap (λ (q : Content). load_in q q.container) (sym read) ∙ said.load_is in
      (gen, identity, (p, of, subst (Carries p) loaded carries))

  -- a packet of another kind of tunnel
  other_packet : (tag : Option ℕ) (p : Content) → p.teid < 2 ^ 32 → (teid_kind p.teid ≡ 1 → ⊥) → Says (flight.Tun tag (spelling p))
  other_packet tag p fits other id g load is = let said = says_forwarded p id g Dl load fits is in absurd (other said.kind)

  up_packet : (p : Content) → p.teid ≡ teid h i 2 → Says (flight.Tun None (spelling p))
  up_packet p is =
      let kind : teid_kind p.teid ≡ 2 = ap teid_kind is ∙ kind_in_teid h i 2 (omega arith) in
      other_packet None p (subst (λ k. k < 2 ^ 32) (sym is) (teid_fits h i 2 small most (omega arith))) (λ one. omega arith)

  up_sends : (t : Tunnel) (sdus : List Sdu) → AllByRecursion (λ (x : Send). Says x.1) (whole_tunnel t (teid h i 2) sdus)
  up_sends t sdus =
      each_append (λ (x : Send). Says x.1) (pieces t (teid h i 2) 0 sdus) (closing t (teid h i 2) (length sdus))
      (each_piece Says t (teid h i 2) 0 sdus (λ j s at. up_packet (sdu_packet (teid h i 2) t.n (0 + j) s) refl))
      (up_packet (total_packet (teid h i 2) (length sdus)) refl, (up_packet (end_marker (teid h i 2)) refl, tt))

  -- the SDUs of the entity from some place on
  down_pieces : (t : Tunnel) (before sdus : List Sdu) → t.n ≡ tx.n → forwarded_by tx ≡ before ++ sdus → length (forwarded_by tx) < 2 ^ 24 → AllByRecursion (IsForwardable tx.n) (forwarded_by tx)
      → AllByRecursion (λ (x : Send). Says x.1) (pieces t (teid h i 1) (length before) sdus)
  down_pieces t before sdus n_is is few good =
      each_piece Says t (teid h i 1) (length before) sdus (λ j s at.
      let there : slice_get (forwarded_by tx) (length before + j) ≡ Some s = subst (λ xs. slice_get xs (length before + j) ≡ Some s) (sym is) (slice_get_right before sdus j s at) in
      let within = slice_get_within (forwarded_by tx) (length before + j) s there in
      subst (λ n. Says (flight.Tun None (spelling (sdu_packet (teid h i 1) n (length before + j) s)))) (sym n_is)
      (down_packet (sdu_packet (teid h i 1) tx.n (length before + j) s) refl
      (sdu_again (teid h i 1) tx.n (length before + j) s (teid_fits h i 1 small most (omega arith)) (all_at (IsForwardable tx.n) (forwarded_by tx) (length before + j) s good there))
      (sdu_of (teid h i 1) tx.n (length before + j) s there refl) (user_carries (sdu_packet (teid h i 1) tx.n (length before + j) s) (length before + j) true refl refl (omega arith))))

  -- and their number, and the end
  down_closing : (t : Tunnel) (total : ℕ) → closed ≡ true → total ≡ length (forwarded_by tx) → total < 2 ^ 24 → AllByRecursion (λ (x : Send). Says x.1) (closing t (teid h i 1) total)
  down_closing t total shut all few =
      let fits = teid_fits h i 1 small most (omega arith) in
      let p : Content = total_packet (teid h i 1) total in
      let q : Content = end_marker (teid h i 1) in (
        down_packet p refl (total_again (teid h i 1) total fits) (total_of (teid h i 1) shut (ap (total_packet (teid h i 1)) all)) (user_carries p total false refl refl few),
        (down_packet q refl (marker_again (teid h i 1) fits) (marker_of (teid h i 1) shut refl) (without_container q refl), tt),
      )

  -- all of the downlink tunnel as it is then
  down_all : (t : Tunnel) (last : Bool) (sdus : List Sdu) → t.n ≡ tx.n → t.g ≡ h → t.id ≡ i → closed ≡ last → forwarded_by tx ≡ sdus → length (forwarded_by tx) < 2 ^ 24
      → AllByRecursion (IsForwardable tx.n) (forwarded_by tx) → AllByRecursion (λ (x : Send). Says x.1) (down_sends t last sdus)
  down_all t true sdus n_is g_is id_is shut is few good =
      let key : teid t.g t.id 1 ≡ teid h i 1 = ap (λ k. teid k t.id 1) g_is ∙ ap (λ k. teid h k 1) id_is in
      subst (λ k. AllByRecursion (λ (x : Send). Says x.1) (pieces t k 0 sdus ++ closing t k (length sdus))) (sym key)
      (each_append (λ (x : Send). Says x.1) (pieces t (teid h i 1) 0 sdus) (closing t (teid h i 1) (length sdus)) (down_pieces t [] sdus n_is is few good)
      (down_closing t (length sdus) shut (ap length (sym is)) (subst (λ xs. length xs < 2 ^ 24) is few)))
  down_all t false sdus n_is g_is id_is shut is few good =
      let key : teid t.g t.id 1 ≡ teid h i 1 = ap (λ k. teid k t.id 1) g_is ∙ ap (λ k. teid h k 1) id_is in
      subst (λ k. AllByRecursion (λ (x : Send). Says x.1) (pieces t k 0 sdus)) (sym key) (down_pieces t [] sdus n_is is few good)

  -- ---- after the freeze

  -- one that came later
  pub fresh_says : (t : Tunnel) (before : List Sdu) (sdu : List ℕ) → t.n ≡ tx.n → t.g ≡ h → t.id ≡ i → forwarded_by tx ≡ before ++ (None, sdu) ∷ [] → t.next ≡ length before → length (forwarded_by tx) < 2 ^ 24 → HasPayloads tx
      → AllByRecursion (λ (x : Send). Says x.1) (forward_fresh t sdu).1
  fresh_says t before sdu n_is g_is id_is is next few payloads =
      let key : teid t.g t.id 1 ≡ teid h i 1 = ap (λ k. teid k t.id 1) g_is ∙ ap (λ k. teid h k 1) id_is in
      subst (λ k. AllByRecursion (λ (x : Send). Says x.1) (pieces t k t.next ((None, sdu) ∷ []))) (sym key)
      (subst (λ k. AllByRecursion (λ (x : Send). Says x.1) (pieces t (teid h i 1) k ((None, sdu) ∷ []))) (sym next)
      (down_pieces t before ((None, sdu) ∷ []) n_is is few (forwarded_good tx payloads)))

  -- the end
  pub end_says : (t : Tunnel) → t.g ≡ h → t.id ≡ i → closed ≡ true → t.next ≡ length (forwarded_by tx) → length (forwarded_by tx) < 2 ^ 24 → AllByRecursion (λ (x : Send). Says x.1) (forward_end t)
  end_says t g_is id_is shut next few =
      let key : teid t.g t.id 1 ≡ teid h i 1 = ap (λ k. teid k t.id 1) g_is ∙ ap (λ k. teid h k 1) id_is in
      subst (λ k. AllByRecursion (λ (x : Send). Says x.1) (closing t k t.next)) (sym key) (down_closing t t.next shut next (subst (λ k. k < 2 ^ 24) (sym next) few))

-- ---- the freeze

-- each packet of a freeze says of a sending entity only what is so of the one that was frozen
pub freeze_says : (a : Active) (target : Node) (h : ℕ) (last : Bool) → h < 2 ^ 24 → 1 ≤ a.entity.setup.id → a.entity.setup.id ≤ 32 → a.entity.tx.n ≡ a.entity.setup.n → HasPayloads a.entity.tx
    → length (forwarded_by a.entity.tx) < 2 ^ 24 → AllByRecursion (λ (x : Send). SaysOnlyOf a.entity.tx last h a.entity.setup.id x.1) (freeze a target h last).sends
freeze_says a target h last small some most same_n payloads few =
    let t = new_tunnel a.entity target h in
    let e = a.entity in
    let same : forwarded_by e.tx ≡ down_sdus e = ap (λ n. numbered n e.tx.kept ++ unnumbered e.tx.held) same_n in
    each_append (λ (x : Send). SaysOnlyOf e.tx last h e.setup.id x.1) (down_sends t last (down_sdus e)) (whole_tunnel t (teid h e.setup.id 2) (up_sdus e))
    (down_all e.tx last h e.setup.id small some most t last (down_sdus e) (sym same_n) refl refl refl same few (forwarded_good e.tx payloads)) (up_sends e.tx last h e.setup.id small some most t (up_sdus e))

-- ---- a frozen entity goes on as a closed one

unnumbered_more : (sdus : List (List ℕ)) (sdu : List ℕ) → unnumbered (sdus ++ sdu ∷ []) ≡ unnumbered sdus ++ (None, sdu) ∷ []
unnumbered_more [] sdu = refl
unnumbered_more (x ∷ sdus) sdu = ap (λ (xs : List Sdu). (None, x) ∷ xs) (unnumbered_more sdus sdu)

-- what it holds more is forwarded behind the rest
pub forwarded_more : (tx : Sender) (sdu : List ℕ) → forwarded_by (hold_sdu tx sdu) ≡ forwarded_by tx ++ (None, sdu) ∷ []
forwarded_more tx sdu = ap (λ (xs : List Sdu). numbered tx.n tx.kept ++ xs) (unnumbered_more tx.held sdu) ∙ sym (append_assoc (numbered tx.n tx.kept) (unnumbered tx.held) ((None, sdu) ∷ []))

pub later_more : (tx : Sender) (sdu : List ℕ) → IsLater (down_tunnel tx false) (down_tunnel (hold_sdu tx sdu) false)
later_more tx sdu = record { more = (None, sdu) ∷ []; longer = forwarded_more tx sdu; last = λ closed. absurd cc }

-- it ends
pub later_closed : (tx : Sender) → IsLater (down_tunnel tx false) (down_tunnel tx true)
later_closed tx = record { more = []; longer = sym (append-nil (forwarded_by tx)); last = λ closed. absurd cc }
