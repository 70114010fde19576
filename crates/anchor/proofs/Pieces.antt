-- SDUs that are forwarded one after another.
use Rattle.std.proofs.Common.{ℕ, suc, ◌≡◌, ◌+◌, ◌∙◌, List, [], ◌∷◌, ◌++◌, None, length, refl, ap, add-zero, append_assoc, arith}
use Rattle.forward.specs.Load.{Sdu}
use Rattle.forward.specs.Outgoing.{end_marker, sdu_packet, total_packet}
use Rattle.gtpu.specs.Content.{Content}
use Rattle.gtpu.specs.Spelling.{spelling}
use Rattle.dc_base.specs.Links.{link}
use Rattle.dc_base.specs.declared.flights.Flight.TheVariants as flight
use Rattle.dc_base.specs.declared.nodes.Class.TheVariants.{Tun}
use Rattle.node_rules.specs.Choices.{Send}
use Rattle.node_rules.specs.Freezing.{Tunnel, closing, packet_send, pieces}
use Rattle.anchor.specs.Paths.{ForwardPath, after_pieces}

-- the packets do not depend on the number that the tunnel keeps
pub pieces-next : (t : Tunnel) (next teid number : ℕ) (sdus : List Sdu) → pieces (record t { next = next }) teid number sdus ≡ pieces t teid number sdus
pieces-next t next teid number [] = refl
pieces-next t next teid number (s ∷ sdus) =
    ap (λ (sends : List Send). packet_send t (sdu_packet teid t.n number s) ∷ sends) (pieces-next t next teid (number + 1) sdus)

pub pieces-append : (t : Tunnel) (teid number : ℕ) (xs ys : List Sdu) → pieces t teid number (xs ++ ys) ≡ pieces t teid number xs ++ pieces t teid (number + length xs) ys
pieces-append t teid number [] ys = ap (λ k. pieces t teid k ys) (omega arith)
pieces-append t teid number (s ∷ xs) ys =
    let next : number + 1 + length xs ≡ number + length (s ∷ xs) = omega arith in
    ap (λ (sends : List Send). packet_send t (sdu_packet teid t.n number s) ∷ sends) (rw (← next) (pieces-append t teid (number + 1) xs ys))

-- one SDU and then others are those in one list
pub pieces-step : (t : Tunnel) (teid : ℕ) (sends : List Send) (s : Sdu) (sdus : List Sdu)
    → (sends ++ pieces t teid t.next (s ∷ [])) ++ pieces (record t { next = t.next + 1 }) teid (t.next + 1) sdus ≡ sends ++ pieces t teid t.next (s ∷ sdus)
pieces-step t teid sends s sdus =
    append_assoc sends (pieces t teid t.next (s ∷ [])) (pieces (record t { next = t.next + 1 }) teid (t.next + 1) sdus)
    ∙ ap (λ (rest : List Send). sends ++ packet_send t (sdu_packet teid t.n t.next s) ∷ rest) (pieces-next t (t.next + 1) teid (t.next + 1) sdus)

pub after_pieces-none : (p : ForwardPath) → after_pieces p 0 ≡ p
after_pieces-none p = ap (λ (k : ℕ). record p { tunnel = record p.tunnel { next = k } }) (add-zero p.tunnel.next)

pub after_pieces-more : (p : ForwardPath) (k : ℕ) → after_pieces (after_pieces p 1) k ≡ after_pieces p (suc k)
after_pieces-more p k = ap (λ (m : ℕ). record p { tunnel = record p.tunnel { next = m } }) (omega arith)

-- the packet that was sent is the next
pub piece-is : (t : Tunnel) (p : Content) (sends after : List Send) (x : Send) (octets : List ℕ)
    → after ≡ sends ++ x ∷ [] → x ≡ (link t.node t.target Tun, flight.Tun None octets) → octets ≡ spelling p
    → after ≡ sends ++ packet_send t p ∷ []
piece-is t p sends after x octets after_is x_is spelled =
    after_is ∙ ap (λ (s : Send). sends ++ s ∷ []) (x_is ∙ ap {B = Send} (λ (o : List ℕ). (link t.node t.target Tun, flight.Tun None o)) spelled)

-- and so are the two that close the tunnel
pub closing-is : (t : Tunnel) (teid : ℕ) (sends one two : List Send) (x y : Send) (first second : List ℕ)
    → one ≡ sends ++ x ∷ [] → two ≡ one ++ y ∷ []
    → x ≡ (link t.node t.target Tun, flight.Tun None first) → y ≡ (link t.node t.target Tun, flight.Tun None second)
    → first ≡ spelling (total_packet teid t.next) → second ≡ spelling (end_marker teid)
    → two ≡ sends ++ closing t teid t.next
closing-is t teid sends one two x y first second one_is two_is x_is y_is first_is second_is =
    piece-is t (end_marker teid) one two y second two_is y_is second_is
    ∙ ap (λ (xs : List Send). xs ++ packet_send t (end_marker teid) ∷ []) (piece-is t (total_packet teid t.next) sends one x first one_is x_is first_is)
    ∙ append_assoc sends (packet_send t (total_packet teid t.next) ∷ []) (packet_send t (end_marker teid) ∷ [])
