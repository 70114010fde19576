-- What the packets of a tunnel carry.
use Rattle.std.proofs.Common.{◌≡◌, ℕ, ◌^◌, ◌<◌, Bool, true, false, List, [], ◌∷◌, ◌++◌, length, Option, Some, None, refl, sym, ap, subst, ◌∙◌, arith}
use Rattle.std.specs.Prelude.{slice_get, Ok}
use Rattle.std.specs.Option.{option_map}
use Rattle.std.proofs.lemmas.Option.{slice_get_within}
use Rattle.dc_base.specs.declared.numbers.SnLen.{SnLen}
use Rattle.dc_base.specs.declared.numbers.SnLen.TheVariants.{S12, S18}
use Rattle.gtpu.specs.Content.{Content}
use Rattle.gtpu.specs.Decoded.{decoded}
use Rattle.nr_u.specs.declared.frame.Frame.TheVariants.{User}
use Rattle.nr_u.specs.Frames.{IsFrame, written}
use Rattle.nr_u.proofs.Grammar.{one_frame}
use Rattle.nr_u.proofs.Written.{written_is_frame}
use Rattle.forward.specs.Load.{Sdu, Load, Piece, Total, Nothing, sn_of, HasNumber, Carries}
use Rattle.forward.specs.Outgoing.{pdu_number, sdu_packet, total_packet, end_marker}
use Rattle.forward.specs.Tunnel.{Tunnel, IsPacketOf, sdu_of, total_of, marker_of, IsSentIn}
use Rattle.forward.proofs.Numbers.{slice_get-last}

-- a container with a frame that was written so has that frame's number
one_number : (p : Content) (m k : ℕ) (u v : Bool) → m < 2 ^ 24 → p.container ≡ Some (written (User m u false)) → HasNumber p k v → (k ≡ m) × (v ≡ u)
one_number p m k u v fits is h =
    let octets : h.octets ≡ written (User m u false) = cc (is, h.has_container) in
    let same : User k v h.repeat ≡ User m u false = one_frame h.octets (User k v h.repeat) (User m u false) h.frame (subst (λ (o : List ℕ). IsFrame o (User m u false)) (sym octets) (written_is_frame (User m u false) fits)) in
    (cc, cc)

sn-pdu_number : (n : SnLen) (o : Option ℕ) → option_map sn_of (option_map (pdu_number n) o) ≡ o
sn-pdu_number n None = refl
sn-pdu_number S12 (Some sn) = refl
sn-pdu_number S18 (Some sn) = refl

-- what a packet of the tunnel may carry: SDU k of the list under number k, and the number of all once it is closed
abbrev pub IsSent : Tunnel → Load → Type 0
IsSent t (Piece number sdu) = slice_get t.sdus number ≡ Some sdu
IsSent t (Total total) = (t.closed ≡ true) × (total ≡ length t.sdus)
IsSent t Nothing = Unit {0}

sdu_sent : (t : Tunnel) (teid : ℕ) (n : SnLen) (m : ℕ) (s : Sdu) (load : Load) → m < 2 ^ 24 → slice_get t.sdus m ≡ Some s → Carries (sdu_packet teid n m s) load → IsSent t load
sdu_sent t teid n m s (Piece number sdu) fits there c =
    let same : number ≡ m = (one_number (sdu_packet teid n m s) m number true true fits refl c.0).0 in
    let sn : sdu.0 ≡ s.0 = ap (λ (x : Sdu). x.0) c.1 ∙ sn-pdu_number n s.0 in
    let body : sdu.1 ≡ s.1 = ap (λ (x : Sdu). x.1) c.1 in
    let whole : s ≡ sdu = ap (λ (o : Option ℕ). let x : Sdu = (o, s.1) in x) (sym sn) ∙ ap (λ (o : List ℕ). let x : Sdu = (sdu.0, o) in x) (sym body) in
    ap (slice_get t.sdus) same ∙ (there ∙ ap (λ (x : Sdu). Some x) whole)
sdu_sent t teid n m s (Total total) fits there c = absurd (cc ((one_number (sdu_packet teid n m s) m total true false fits refl c.0).1))
sdu_sent t teid n m s Nothing fits there c = tt

total_sent : (t : Tunnel) (teid m : ℕ) (load : Load) → m < 2 ^ 24 → m ≡ length t.sdus → t.closed ≡ true → Carries (total_packet teid m) load → IsSent t load
total_sent t teid m (Piece number sdu) fits all closed c = absurd (cc ((one_number (total_packet teid m) m number false true fits refl c.0).1))
total_sent t teid m (Total total) fits all closed c = (closed, (one_number (total_packet teid m) m total false false fits refl c.0).0 ∙ all)
total_sent t teid m Nothing fits all closed c = tt

marker_sent : (t : Tunnel) (teid : ℕ) (load : Load) → Carries (end_marker teid) load → IsSent t load
marker_sent t teid (Piece number sdu) c = absurd (cc c.0.is_g_pdu)
marker_sent t teid (Total total) c = absurd (cc c.0.is_g_pdu)
marker_sent t teid Nothing c = tt

-- a packet of the tunnel carries what was sent
pub packet_sent : (t : Tunnel) (p : Content) (load : Load) → length t.sdus < 2 ^ 24 → IsPacketOf t p → Carries p load → IsSent t load
packet_sent t p load fits (sdu_of teid n m s there is) c =
    sdu_sent t teid n m s load (omega (arith, slice_get_within t.sdus m s there)) there (subst (λ (q : Content). Carries q load) is c)
packet_sent t p load fits (total_of teid closed is) c = total_sent t teid (length t.sdus) load fits refl closed (subst (λ (q : Content). Carries q load) is c)
packet_sent t p load fits (marker_of teid closed is) c = marker_sent t teid load (subst (λ (q : Content). Carries q load) is c)

-- ---- what the sending end gives out

pub sdu_sent_in : (teid : ℕ) (n : SnLen) (sdus : List Sdu) (s : Sdu) (number : ℕ) (octets : List ℕ) → decoded octets ≡ Ok (sdu_packet teid n number s) → length sdus ≡ number → IsSentIn (record { sdus = sdus ++ s ∷ []; closed = false }) octets
sdu_sent_in teid n sdus s number octets read all =
    (sdu_packet teid n number s, read, sdu_of teid n number s (ap (slice_get (sdus ++ s ∷ [])) (sym all) ∙ slice_get-last sdus s) refl)

pub total_sent_in : (teid : ℕ) (sdus : List Sdu) (number : ℕ) (octets : List ℕ) → decoded octets ≡ Ok (total_packet teid number) → length sdus ≡ number → IsSentIn (record { sdus = sdus; closed = true }) octets
total_sent_in teid sdus number octets read all = (total_packet teid number, read, total_of teid refl (ap (total_packet teid) (sym all)))

pub marker_sent_in : (teid : ℕ) (sdus : List Sdu) (octets : List ℕ) → decoded octets ≡ Ok (end_marker teid) → IsSentIn (record { sdus = sdus; closed = true }) octets
marker_sent_in teid sdus octets read = (end_marker teid, read, marker_of teid refl refl)
