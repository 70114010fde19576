-- Traffic at a secondary node.
use Rattle.std.proofs.Common.{ℕ, ◌≡◌, ◌==◌, true, false, List, [], ◌∷◌, Option, Some, None, refl, ap, ◌∙◌, arith}
use Rattle.std.specs.Prelude.{if◌then◌else◌, is_some, nat_le, nat_lt, not, ◌&&◌}
use Rattle.std.specs.Option.{option_map}
use Rattle.dc_base.specs.Links.{link}
use Rattle.dc_base.specs.declared.events.Event.{Event}
use Rattle.dc_base.specs.declared.events.Event.TheVariants as event
use Rattle.dc_base.specs.declared.flights.Flight.{Flight}
use Rattle.dc_base.specs.declared.flights.Flight.TheVariants as flight
use Rattle.dc_base.specs.declared.nodes.Cell.TheVariants as cell
use Rattle.dc_base.specs.declared.nodes.Class.{Class}
use Rattle.dc_base.specs.declared.nodes.Class.TheVariants.{Air, Ctl, Feed, Tun}
use Rattle.dc_base.specs.declared.nodes.Node.{Node}
use Rattle.dc_base.specs.declared.nodes.Node.TheVariants.{M}
use Rattle.dc_base.specs.declared.records.Rec.TheVariants as rec
use Rattle.node_rules.specs.Anchor.{Active, AnchorState, active_anchor, setup_at, silent, waiting_anchor}
use Rattle.node_rules.specs.AnchorReceiving.{air_in, tunnel_in}
use Rattle.node_rules.specs.AnchorSending.{report, submit}
use Rattle.node_rules.specs.Choices.{Choices, Send}
use Rattle.node_rules.specs.Effects.{quiet}
use Rattle.node_rules.specs.Feed.{Fed, Frozen, end_in, frozen_end_in, frozen_sdu_in, sdu_in}
use Rattle.node_rules.specs.Flights.{Named, flight_named}
use Rattle.node_rules.specs.Freezing.{forward_end, forward_fresh}
use Rattle.node_rules.specs.Held.{held}
use Rattle.node_rules.specs.Host.{Host}
use Rattle.node_rules.specs.HostRules.{host_air_in, host_tunnel_in}
use Rattle.node_rules.specs.SecondStep.{fed_ended, fed_took, frozen_ended, frozen_took, is_before_change, on_second_host, second_data, second_line, second_event, second_report, second_step, second_takes}
use Rattle.node_rules.specs.Secondary.{SecondNode, active_at, anchored, fed_did, is_fed_of, low_told, name_of, on_fed, second_effects}
use Rattle.node_rules.specs.declared.bearers.AnchorOut.{AnchorOut}
use Rattle.node_rules.specs.declared.inputs.Input.{Input}
use Rattle.node_rules.specs.declared.inputs.Input.TheVariants.{Cmd, Come}
use Rattle.run_control.specs.Traffic.{OnTraffic, SecondOnTraffic, adopts, came, is_traffic, is_traffic_event, keeps, second_adopts, second_keeps}
use Rattle.run_control.specs.Views.{View, controls, is_control, second_view, view_of}
use Rattle.run_control.proofs.Ascending.{ascends_with}
use Rattle.run_control.proofs.Anchors.{kept, report_keeps, submit_keeps}
use Rattle.run_control.proofs.Arrivals.{air_keeps, stays_so, tunnel_is}
use Rattle.run_control.proofs.Holding.{seen_again, seen_with}
use Rattle.run_control.proofs.Hosts.{host_air_none, host_tunnel_none}
use Rattle.run_control.proofs.Sent.{either, none_in_both}

-- what is seen of an anchor with its line
abbrev pub fed_view : Fed → View
fed_view x = view_of x.anchor

-- nothing comes of it
pub second_same : (s : SecondNode) → SecondOnTraffic s (s, quiet)
second_same s = second_keeps refl (λ k. refl) refl (λ up. up)

-- ---- what an anchor does

low_none : (me : Node) (id g : ℕ) (low : Option ℕ) → controls (low_told me id g low).sends ≡ []
low_none me id g None = refl
low_none me id g (Some count) = refl

-- what comes of its step, if it does not adopt
pub effects_none : (me : Node) (id g : ℕ) (out : AnchorOut) → out.adopted ≡ false → controls out.sends ≡ [] → controls (second_effects me id g out).sends ≡ []
effects_none me id g out stays none = rw stays (none_in_both out.sends (low_told me id g out.low).sends none (low_none me id g out.low))

-- and if it does
pub effects_moved : (me : Node) (id g : ℕ) (out : AnchorOut) → out.adopted ≡ true → controls out.sends ≡ []
    → controls (second_effects me id g out).sends ≡ (link me M Ctl, flight.Ctl (rec.Moved g id)) ∷ []
effects_moved me id g out adopted none =
    rw adopted (ap (λ (ss : List Send). (link me M Ctl, flight.Ctl (rec.Moved g id)) ∷ ss) (none_in_both out.sends (low_told me id g out.low).sends none (low_none me id g out.low)))

-- the generation of an anchor
pub setup_g : (a : AnchorState) → (setup_at a).g ≡ (view_of a).bearer.g
setup_g (waiting_anchor w) = refl
setup_g (active_anchor a) = refl

-- an anchor with its line after a step of it
pub fed_is : (s : SecondNode) (id : ℕ) (x : Fed) (done : Fed × AnchorOut) → held id s.anchors ≡ Some x → OnTraffic x.anchor (done.0.anchor, done.1) → SecondOnTraffic s (fed_did s id done)
fed_is s id x done at (keeps stays view sends) =
    second_keeps refl (λ k. seen_again fed_view id k done.0 x s.anchors at view) (effects_none (name_of s) id (setup_at done.0.anchor).g done.1 stays sends) (λ up. ascends_with 0 id done.0 s.anchors (omega arith) up)
fed_is s id x done at (adopts adopted had view sends) =
    second_adopts id (view_of x.anchor) (ap (λ o. option_map fed_view o) at) had refl
    (λ k. seen_with fed_view id k done.0 s.anchors ∙ ap (λ v. if id == k then Some v else second_view s k) view)
    (effects_moved (name_of s) id (setup_at done.0.anchor).g done.1 adopted sends
    ∙ ap (λ g. (link (name_of s) M Ctl, flight.Ctl (rec.Moved g id)) ∷ []) (setup_g done.0.anchor ∙ ap (λ (v : View). v.bearer.g) view))
    (λ up. ascends_with 0 id done.0 s.anchors (omega arith) up)

-- a step of the anchor of a bearer, where the node has it
pub on_fed_is : (s : SecondNode) (id : ℕ) (f : AnchorState → AnchorState × AnchorOut) → ((a : AnchorState) → OnTraffic a (f a)) → (o : Option Fed) → held id s.anchors ≡ o
    → SecondOnTraffic s (on_fed s id f o)
on_fed_is s id f is None at = second_same s
on_fed_is s id f is (Some x) at = fed_is s id x (anchored x (f x.anchor)) at (is x.anchor)

-- ---- flights of user data

host_is : (s : SecondNode) (id : ℕ) (f : Host → Host × List Send) → ((h : Host) → controls (f h).1 ≡ []) → (o : Option Host) → SecondOnTraffic s (on_second_host s id f o)
host_is s id f none None = second_same s
host_is s id f none (Some h) = second_keeps refl (λ k. refl) (none h) (λ up. up)

data_is : (s : SecondNode) (f : AnchorState → AnchorState × AnchorOut) (h : Host → Host × List Send) → ((a : AnchorState) → OnTraffic a (f a)) → ((x : Host) → controls (h x).1 ≡ [])
    → (named : Option Named) → SecondOnTraffic s (second_data s f h named)
data_is s f h anchor host None = second_same s
data_is s f h anchor host (Some (id, g)) =
    either (SecondOnTraffic s) (is_fed_of g (held id s.anchors)) (on_fed s id f (held id s.anchors)) (on_second_host s id h (held id s.hosts))
    (on_fed_is s id f anchor (held id s.anchors) refl) (host_is s id h host (held id s.hosts))

-- ---- the core's lines

sdu_is : (c : Choices) (x : Fed) (g : ℕ) (payload : List ℕ) → OnTraffic x.anchor ((sdu_in c x g payload).0.anchor, (sdu_in c x g payload).1)
sdu_is c x g payload =
    either (λ (done : Fed × AnchorOut). OnTraffic x.anchor (done.0.anchor, done.1)) (nat_lt g x.since) (x, silent) (record x { anchor = (submit c x.anchor payload).0 }, (submit c x.anchor payload).1)
    (stays_so x.anchor) (kept (submit_keeps c x.anchor payload))

fed_took_is : (c : Choices) (s : SecondNode) (id g : ℕ) (payload : List ℕ) (o : Option Fed) → held id s.anchors ≡ o → SecondOnTraffic s (fed_took c s id g payload o)
fed_took_is c s id g payload None at = second_same s
fed_took_is c s id g payload (Some x) at = fed_is s id x (sdu_in c x g payload) at (sdu_is c x g payload)

frozen_none : (f : Frozen) (g : ℕ) (payload : List ℕ) → controls (frozen_sdu_in f g payload).1 ≡ []
frozen_none f g payload =
    either (λ (done : Frozen × List Send). controls done.1 ≡ []) (nat_le f.since g && nat_lt g f.tunnel.g)
    (record f { tunnel = (forward_fresh f.tunnel payload).0 }, (forward_fresh f.tunnel payload).1) (f, []) refl refl

frozen_took_is : (s : SecondNode) (id g : ℕ) (payload : List ℕ) (o : Option Frozen) → SecondOnTraffic s (frozen_took s id g payload o)
frozen_took_is s id g payload None = second_same s
frozen_took_is s id g payload (Some f) = second_keeps refl (λ k. refl) (frozen_none f g payload) (λ up. up)

end_none : (f : Frozen) (g : ℕ) → controls (frozen_end_in f g).1 ≡ []
end_none f g = either (λ (done : Option Frozen × List Send). controls done.1 ≡ []) (f.tunnel.g == g) (None, forward_end f.tunnel) (Some f, []) refl refl

frozen_ended_is : (s : SecondNode) (id g : ℕ) (o : Option Frozen) → SecondOnTraffic s (frozen_ended s id g o)
frozen_ended_is s id g None = second_same s
frozen_ended_is s id g (Some f) = second_keeps refl (λ k. refl) (end_none f g) (λ up. up)

end_view : (f : Fed) (g : ℕ) (a : AnchorState) → fed_view (end_in f g a) ≡ fed_view f
end_view f g (active_anchor a) = refl
end_view f g (waiting_anchor w) = refl

fed_ended_is : (s : SecondNode) (id g : ℕ) (o : Option Fed) → held id s.anchors ≡ o → SecondOnTraffic s (fed_ended s id g o)
fed_ended_is s id g None at = second_same s
fed_ended_is s id g (Some x) at = second_keeps refl (λ k. seen_again fed_view id k (end_in x g x.anchor) x s.anchors at (end_view x g x.anchor)) refl (λ up. ascends_with 0 id (end_in x g x.anchor) s.anchors (omega arith) up)

pub line_is : (c : Choices) (s : SecondNode) (f : Flight) → SecondOnTraffic s (second_line c s f)
line_is c s (flight.Sdu id g payload) =
    either (SecondOnTraffic s) (is_before_change g (held id s.frozen)) (frozen_took s id g payload (held id s.frozen)) (fed_took c s id g payload (held id s.anchors))
    (frozen_took_is s id g payload (held id s.frozen)) (fed_took_is c s id g payload (held id s.anchors) refl)
line_is c s (flight.End id g) =
    either (SecondOnTraffic s) (is_some (held id s.frozen)) (frozen_ended s id g (held id s.frozen)) (fed_ended s id g (held id s.anchors))
    (frozen_ended_is s id g (held id s.frozen)) (fed_ended_is s id g (held id s.anchors) refl)
line_is c s (flight.Told id g count) = second_same s
line_is c s (flight.Air id g num tag pdu) = second_same s
line_is c s (flight.Ack id g num) = second_same s
line_is c s (flight.Tun tag packet) = second_same s
line_is c s (flight.Ctl r) = second_same s

-- ---- whatever comes on another link than a control link

second_takes_is : (c : Choices) (s : SecondNode) (f : Flight) (k : Class) → not (is_control k) ≡ true → SecondOnTraffic s (second_takes c s f k)
second_takes_is c s f Ctl other = absurd cc
second_takes_is c s f Feed other = line_is c s f
second_takes_is c s f Air other = data_is s (λ a. air_in a cell.Scg f) (λ h. host_air_in h f) (λ a. air_keeps a cell.Scg f) (λ h. host_air_none h f) (flight_named f)
second_takes_is c s f Tun other = data_is s (λ a. tunnel_in c a f) (λ h. host_tunnel_in h f) (λ a. tunnel_is c a f) (λ h. host_tunnel_none h f) (flight_named f)

report_is : (c : Choices) (s : SecondNode) (id : ℕ) (o : Option Active) → SecondOnTraffic s (came (second_report c s id o))
report_is c s id None = second_same s
report_is c s id (Some a) = on_fed_is s id (report c) (λ x. kept (report_keeps c x)) (held id s.anchors) refl

second_event_is : (c : Choices) (s : SecondNode) (e : Event) → is_traffic_event e ≡ true → SecondOnTraffic s (came (second_event c s e))
second_event_is c s (event.Submit id d payload) is = second_same s
second_event_is c s (event.Report node id) is = report_is c s id (active_at s id)
second_event_is c s (event.Bearer id n first shape threshold policy) is = absurd cc
second_event_is c s (event.Reshape id shape) is = absurd cc
second_event_is c s (event.Remove id) is = absurd cc
second_event_is c s (event.Add node) is = absurd cc
second_event_is c s event.Change is = absurd cc
second_event_is c s event.Release is = absurd cc
second_event_is c s event.RekeySecond is = absurd cc
second_event_is c s (event.RekeyMaster root) is = absurd cc
second_event_is c s (event.Recover id) is = absurd cc
second_event_is c s (event.Deny node on) is = absurd cc
second_event_is c s (event.Ask node what) is = absurd cc
second_event_is c s event.ScgFail is = absurd cc
second_event_is c s (event.Step l i) is = absurd cc
second_event_is c s (event.Lose l i) is = absurd cc
second_event_is c s (event.Again l i) is = absurd cc

-- traffic at a secondary node
pub second_traffic : (c : Choices) (s : SecondNode) (i : Input) → is_traffic i ≡ true → SecondOnTraffic s (came (second_step c s i))
second_traffic c s (Cmd e) is = second_event_is c s e is
second_traffic c s (Come l f) is = second_takes_is c s f l.class is
