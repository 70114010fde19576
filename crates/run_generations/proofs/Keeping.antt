-- Anchors and leg hosts keep their generation, whatever they take.
use Rattle.std.proofs.Common.{ℕ, ◌≡◌, Bool, List, [], ◌∷◌, Option, Some, None, refl, sym, ap, ◌∙◌}
use Rattle.std.specs.Prelude.{Err, Ok, Result, slice_get}
use Rattle.dc_base.specs.declared.flights.Flight.{Flight}
use Rattle.dc_base.specs.declared.flights.Flight.TheVariants as flight
use Rattle.node_rules.specs.Anchor.{AnchorState, setup_at}
use Rattle.node_rules.specs.Choices.{Send}
use Rattle.node_rules.specs.Host.{Host}
use Rattle.node_rules.specs.HostRules.{confirmed, host_air_in, host_packet, host_tunnel_in, is_hosts, pdu_came, put_on_leg, sn_in, to_anchor, to_terminal}
use Rattle.node_rules.specs.Packets.{Packet, delivery, forwarding, nothing, packet_of, pdu_down, pdu_up, up_packet}
use Rattle.node_rules.specs.declared.bearers.AnchorOut.{AnchorOut}
use Rattle.nr_u.specs.Tunnel.Incoming.{has}
use Rattle.pdcp_pdu.specs.Pdu.{Content, decoded}
use Rattle.pdcp_pdu.specs.declared.pdu.PduErr.{PduErr}
use Rattle.run_control.specs.Traffic.{OnStatus, OnTraffic, Opens, adopts, adopts_at_once, keeps, notes, passes}
use Rattle.run_control.specs.Views.{View, view_of}
use Rattle.run_control.proofs.Seconds.{setup_g}
use Rattle.run_control.proofs.Sent.{either}

-- ---- anchors keep their generation

pub same_generation : (x y : AnchorState) → view_of y ≡ view_of x → (setup_at y).g ≡ (setup_at x).g
same_generation x y same = setup_g y ∙ ap (λ (v : View). v.bearer.g) same ∙ sym (setup_g x)

pub traffic_generation : (a : AnchorState) (done : AnchorState × AnchorOut) → OnTraffic a done → (setup_at done.0).g ≡ (setup_at a).g
traffic_generation a done (keeps stays view sends) = same_generation a done.0 view
traffic_generation a done (adopts adopted had view sends) = setup_g done.0 ∙ ap (λ (v : View). v.bearer.g) view ∙ sym (setup_g a)

pub status_generation : (st : _) (a : AnchorState) (done : AnchorState × AnchorOut) → OnStatus st a done → (setup_at done.0).g ≡ (setup_at a).g
status_generation st a done (passes other is) = same_generation a done.0 is.view
status_generation st a done (notes awaited stays view sends) = setup_g done.0 ∙ ap (λ (v : View). v.bearer.g) view ∙ sym (setup_g a)
status_generation st a done (adopts_at_once awaited adopted view sends) = setup_g done.0 ∙ ap (λ (v : View). v.bearer.g) view ∙ sym (setup_g a)

pub opens_generation : (a : AnchorState) (done : AnchorState × AnchorOut) → Opens a done → (setup_at done.0).g ≡ (setup_at a).g
opens_generation a done is = setup_g done.0 ∙ ap (λ (v : View). v.bearer.g) is.view ∙ sym (setup_g a)

-- ---- leg hosts keep theirs

host_confirmed : (h : Host) (o : Option ℕ) → (confirmed h o).0.g ≡ h.g
host_confirmed h None = refl
host_confirmed h (Some number) = refl

pub host_air : (f : Flight) (h : Host) → (host_air_in h f).0.g ≡ h.g
host_air (flight.Air id g num tag pdu) h =
    either (λ (done : Host × List Send). done.0.g ≡ h.g) (is_hosts h id g) (h, to_terminal h (flight.Ack id g num) ∷ to_anchor h tag (up_packet g id pdu) ∷ []) (h, []) refl refl
host_air (flight.Ack id g num) h = either (λ (done : Host × List Send). done.0.g ≡ h.g) (is_hosts h id g) (confirmed h (slice_get h.carried num)) (h, []) (host_confirmed h (slice_get h.carried num)) refl
host_air (flight.Tun tag packet) h = refl
host_air (flight.Sdu id g payload) h = refl
host_air (flight.End id g) h = refl
host_air (flight.Told id g count) h = refl
host_air (flight.Ctl r) h = refl

host_came : (h : Host) (number : ℕ) (repeat : Bool) (tag : Option ℕ) (pdu : List ℕ) (r : Result Content PduErr) → (pdu_came h number repeat tag pdu r).0.g ≡ h.g
host_came h number repeat tag pdu (Err e) = refl
host_came h number repeat tag pdu (Ok x) = either (λ (done : Host × List Send). done.0.g ≡ h.g) (has number h.tunnel.came) (h, []) (put_on_leg h number repeat tag pdu (sn_in x)) refl refl

host_took : (h : Host) (tag : Option ℕ) (p : Packet) → (host_packet h tag p).0.g ≡ h.g
host_took h tag (pdu_down id g number repeat pdu) =
    either (λ (done : Host × List Send). done.0.g ≡ h.g) (is_hosts h id g) (pdu_came h number repeat tag pdu (decoded h.tunnel.n pdu)) (h, []) (host_came h number repeat tag pdu (decoded h.tunnel.n pdu)) refl
host_took h tag (pdu_up id g pdu) = refl
host_took h tag (delivery id g status) = refl
host_took h tag (forwarding id g d load) = refl
host_took h tag nothing = refl

pub host_tunnel : (f : Flight) (h : Host) → (host_tunnel_in h f).0.g ≡ h.g
host_tunnel (flight.Tun tag packet) h = host_took h tag (packet_of packet)
host_tunnel (flight.Air id g num tag pdu) h = refl
host_tunnel (flight.Ack id g num) h = refl
host_tunnel (flight.Sdu id g payload) h = refl
host_tunnel (flight.End id g) h = refl
host_tunnel (flight.Told id g count) h = refl
host_tunnel (flight.Ctl r) h = refl
