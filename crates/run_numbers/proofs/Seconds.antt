-- What a secondary node sends follows on from what it sent before: each step of an anchor, of a leg host and of a line from the core.
use Rattle.std.proofs.Common.{ℕ, ◌≡◌, ◌≤◌, ◌++◌, Bool, true, false, List, [], ◌∷◌, Option, Some, None, length, refl, sym, subst, arith, append_assoc}
use Rattle.std.specs.Prelude.{if◌then◌else◌, is_some, nat_lt, ⊤, ◌^◌}
use Rattle.std.proofs.lemmas.List.{length-append}
use Rattle.dc_base.specs.Links.{is_same_link, link}
use Rattle.dc_base.specs.declared.flights.Flight.{Flight}
use Rattle.dc_base.specs.declared.flights.Flight.TheVariants as flight
use Rattle.dc_base.specs.declared.nodes.Cell.TheVariants as cell
use Rattle.dc_base.specs.declared.nodes.Class.TheVariants.{Ctl, Feed}
use Rattle.dc_base.specs.declared.nodes.LinkId.{LinkId}
use Rattle.dc_base.specs.declared.nodes.Node.{Node}
use Rattle.dc_base.specs.declared.nodes.Node.TheVariants.{M}
use Rattle.dc_base.specs.declared.records.Rec.TheVariants as rec
use Rattle.node_rules.specs.Anchor.{AnchorState, active_anchor, setup_at, silent, waiting_anchor}
use Rattle.node_rules.specs.AnchorReceiving.{air_in, tunnel_in}
use Rattle.node_rules.specs.AnchorSending.{fail_scg, recover, submit, unlock}
use Rattle.node_rules.specs.Adopting.{status_in}
use Rattle.node_rules.specs.Choices.{Choices, Send}
use Rattle.node_rules.specs.Effects.{in_turn, quiet}
use Rattle.node_rules.specs.Feed.{Fed, Frozen, end_in, sdu_in}
use Rattle.node_rules.specs.Flights.{Named}
use Rattle.node_rules.specs.Held.{held, identities}
use Rattle.node_rules.specs.HostRules.{host_air_in, host_tunnel_in}
use Rattle.node_rules.specs.SecondPlan.{second_act}
use Rattle.node_rules.specs.declared.acts.Act.{Act}
use Rattle.node_rules.specs.declared.acts.Act.TheVariants.{FailOne as fail_one, Go as go, Pass as pass, Prepare as prepare, RecoverOne as recover_one, Say as say, Send as send, UnlockAll as unlock_all}
use Rattle.node_rules.specs.Host.{Host}
use Rattle.node_rules.specs.SecondStep.{fed_ended, fed_took, frozen_ended, frozen_took, is_before_change, on_second_host, second_data, second_line}
use Rattle.node_rules.specs.Secondary.{SecondNode, adopted_there, anchored, fed_did, is_fed_of, low_told, name_of, on_fed, on_fed_of, second_effects}
use Rattle.node_rules.specs.Setup.{Setup}
use Rattle.node_rules.specs.declared.bearers.AnchorOut.{AnchorOut}
use Rattle.node_rules.specs.declared.inputs.Effects.{Effects}
use Rattle.run_numbers.specs.Histories.{NoneOf, puts_of}
use Rattle.run_numbers.specs.Records.{AnchorGoes, AreBearersPut, HostSends, IsSecondPut, SecondGoes}
use Rattle.run_numbers.proofs.Anchors.{StateGoes, air_goes, both_goes, fail_goes, nothing_kept, quiet_kept, recover_goes, status_goes, submit_goes, tunnel_goes, unlock_goes}
use Rattle.run_numbers.proofs.Bearers.{anchor_steps, host_steps, quiet_steps}
use Rattle.run_numbers.proofs.Forwarding.{frozen_end_none, frozen_sdu_none}
use Rattle.run_numbers.proofs.Holding.{follow_both, nothing_follows, record_none}
use Rattle.run_numbers.proofs.Hosts.{host_air_goes, host_tunnel_goes}

-- what an anchor is set up with
abbrev pub fed_setup : Fed → Setup
fed_setup x = setup_at x.anchor

-- what is told of Low is no PDU
told_none : (k : LinkId) (i h count : ℕ) (id g : ℕ) → NoneOf id g ((k, flight.Told i h count) ∷ [])
told_none k i h count id g l = by (is_same_link l k)
  where
    by : (b : Bool) → puts_of id g ((if b then flight.Told i h count ∷ [] else []) ++ []) ≡ []
    by true = refl
    by false = refl

adopted_none : (me : Node) (id g : ℕ) (adopted : Bool) (i h : ℕ) → NoneOf i h (adopted_there me id g adopted).sends
adopted_none me id g false i h = λ l. refl
adopted_none me id g true i h = record_none (link me M Ctl) (rec.Moved g id) i h

low_none : (me : Node) (id g : ℕ) (o : Option ℕ) (i h : ℕ) → NoneOf i h (low_told me id g o).sends
low_none me id g None i h = λ l. refl
low_none me id g (Some count) i h = told_none (link me M Feed) id g count i h

-- an anchor's step, with all that comes of it at a secondary node
effects_go : (s t : Setup) (me : Node) (id g : ℕ) (out : AnchorOut) → AnchorGoes s t out.sends → AnchorGoes s t (second_effects me id g out).sends
effects_go s t me id g out goes =
    let first = (adopted_there me id g out.adopted).sends in
    let last = (low_told me id g out.low).sends in
    both_goes s t t (first ++ out.sends) last (both_goes s s t first out.sends (quiet_kept s first (adopted_none me id g out.adopted)) goes) (quiet_kept t last (low_none me id g out.low))

module _ (sent : List Send) (s : SecondNode) (put : IsSecondPut sent s) where
  -- no PDU is sent, and anchors and leg hosts stay
  pub quiet_goes : (t : SecondNode) (x : Effects) → t.anchors ≡ s.anchors → t.hosts ≡ s.hosts → ((id g : ℕ) → NoneOf id g x.sends) → SecondGoes sent (t, x)
  quiet_goes t x anchors hosts none few = (
    nothing_follows sent x.sends none,
    subst (λ hs. AreBearersPut fed_setup (sent ++ x.sends) t.anchors hs) (sym hosts)
        (subst (λ xs. AreBearersPut fed_setup (sent ++ x.sends) xs s.hosts) (sym anchors) (quiet_steps fed_setup sent s.anchors s.hosts put x.sends none)),
  )

  pub idle : SecondGoes sent (s, quiet)
  idle = quiet_goes s quiet refl refl (λ id g l. refl)

  goes_if : (t : Bool) (x y : SecondNode × Effects) → SecondGoes sent x → SecondGoes sent y → SecondGoes sent (if t then x else y)
  goes_if true x y is else' = is
  goes_if false x y is else' = else'

  -- ---- anchors

  did_goes : (id : ℕ) (x : Fed) (done : Fed × AnchorOut) → held id s.anchors ≡ Some x → AnchorGoes (fed_setup x) (fed_setup done.0) done.1.sends → SecondGoes sent (fed_did s id done)
  did_goes id x done at goes few =
      anchor_steps fed_setup sent s.anchors s.hosts put id x done.0 (fed_did s id done).1.sends at (effects_go (fed_setup x) (fed_setup done.0) (name_of s) id (fed_setup done.0).g done.1 goes) few

  pub fed_goes : (id : ℕ) (f : AnchorState → AnchorState × AnchorOut) → ((a : AnchorState) → StateGoes a (f a)) → (o : Option Fed) → held id s.anchors ≡ o → SecondGoes sent (on_fed s id f o)
  fed_goes id f each None at = idle
  fed_goes id f each (Some x) at = did_goes id x (anchored x (f x.anchor)) at (each x.anchor)

  pub fed_of_goes : (g : ℕ) (f : AnchorState → AnchorState × AnchorOut) → ((a : AnchorState) → StateGoes a (f a)) → (id : ℕ) → SecondGoes sent (on_fed_of s g f id (held id s.anchors))
  fed_of_goes g f each id = goes_if (is_fed_of g (held id s.anchors)) (on_fed s id f (held id s.anchors)) (s, quiet) (fed_goes id f each (held id s.anchors) refl) idle

  -- ---- leg hosts

  host_goes : (id : ℕ) (f : Host → Host × List Send) → ((h : Host) → HostSends h (f h).0 (f h).1) → (o : Option Host) → held id s.hosts ≡ o → SecondGoes sent (on_second_host s id f o)
  host_goes id f each None at few = idle few
  host_goes id f each (Some h) at few = host_steps fed_setup sent s.anchors s.hosts put id h (f h).0 (f h).1 at (each h)

  pub data_goes : (f : AnchorState → AnchorState × AnchorOut) (h : Host → Host × List Send) → ((a : AnchorState) → StateGoes a (f a)) → ((x : Host) → HostSends x (h x).0 (h x).1) → (o : Option Named) → SecondGoes sent (second_data s f h o)
  data_goes f h each each' None = idle
  data_goes f h each each' (Some (id, g)) =
      goes_if (is_fed_of g (held id s.anchors)) (on_fed s id f (held id s.anchors)) (on_second_host s id h (held id s.hosts)) (fed_goes id f each (held id s.anchors) refl) (host_goes id h each' (held id s.hosts) refl)

  -- ---- the core's lines

  frozen_took_goes : (id g : ℕ) (payload : List ℕ) (o : Option Frozen) → SecondGoes sent (frozen_took s id g payload o)
  frozen_took_goes id g payload None = idle
  frozen_took_goes id g payload (Some f) = quiet_goes (frozen_took s id g payload (Some f)).0 (frozen_took s id g payload (Some f)).1 refl refl (λ i h. frozen_sdu_none i h f g payload)

  frozen_ended_goes : (id g : ℕ) (o : Option Frozen) → SecondGoes sent (frozen_ended s id g o)
  frozen_ended_goes id g None = idle
  frozen_ended_goes id g (Some f) = quiet_goes (frozen_ended s id g (Some f)).0 (frozen_ended s id g (Some f)).1 refl refl (λ i h. frozen_end_none i h f g)

  sdu_goes : (c : Choices) (x : Fed) (g : ℕ) (payload : List ℕ) → AnchorGoes (fed_setup x) (fed_setup (sdu_in c x g payload).0) (sdu_in c x g payload).1.sends
  sdu_goes c x g payload = by (nat_lt g x.since)
    where
      old : Fed × AnchorOut
      old = (x, silent)

      new : Fed × AnchorOut
      new = (record x { anchor = (submit c x.anchor payload).0 }, (submit c x.anchor payload).1)

      by : (b : Bool) → let done = if b then old else new in AnchorGoes (fed_setup x) (fed_setup done.0) done.1.sends
      by true = nothing_kept (fed_setup x)
      by false = submit_goes c x.anchor payload

  fed_took_goes : (c : Choices) (id g : ℕ) (payload : List ℕ) (o : Option Fed) → held id s.anchors ≡ o → SecondGoes sent (fed_took c s id g payload o)
  fed_took_goes c id g payload None at = idle
  fed_took_goes c id g payload (Some x) at = did_goes id x (sdu_in c x g payload) at (sdu_goes c x g payload)

  end_goes : (x : Fed) (g : ℕ) (a : AnchorState) → x.anchor ≡ a → AnchorGoes (fed_setup x) (fed_setup (end_in x g a)) []
  end_goes x g (active_anchor a) is = nothing_kept (fed_setup x)
  end_goes x g (waiting_anchor w) is = nothing_kept (fed_setup x)

  fed_ended_goes : (id g : ℕ) (o : Option Fed) → held id s.anchors ≡ o → SecondGoes sent (fed_ended s id g o)
  fed_ended_goes id g None at few = idle few
  fed_ended_goes id g (Some x) at few = anchor_steps fed_setup sent s.anchors s.hosts put id x (end_in x g x.anchor) [] at (end_goes x g x.anchor refl) few

  pub line_goes : (c : Choices) (f : Flight) → SecondGoes sent (second_line c s f)
  line_goes c (flight.Sdu id g payload) =
      goes_if (is_before_change g (held id s.frozen)) (frozen_took s id g payload (held id s.frozen)) (fed_took c s id g payload (held id s.anchors)) (frozen_took_goes id g payload (held id s.frozen))
      (fed_took_goes c id g payload (held id s.anchors) refl)
  line_goes c (flight.End id g) =
      goes_if (is_some (held id s.frozen)) (frozen_ended s id g (held id s.frozen)) (fed_ended s id g (held id s.anchors)) (frozen_ended_goes id g (held id s.frozen)) (fed_ended_goes id g (held id s.anchors) refl)
  line_goes c (flight.Told id g count) = idle
  line_goes c (flight.Air id g num tag pdu) = idle
  line_goes c (flight.Ack id g num) = idle
  line_goes c (flight.Tun tag packet) = idle
  line_goes c (flight.Ctl r) = idle

-- ---- one step after another

-- several steps in turn, where each follows on
pub turns_go : {X : Type 0} (f : SecondNode → X → SecondNode × Effects) → ((sent : List Send) (s : SecondNode) (x : X) → IsSecondPut sent s → SecondGoes sent (f s x)) → (sent : List Send) (s : SecondNode) (xs : List X)
    → IsSecondPut sent s → SecondGoes sent (in_turn f s xs)
turns_go f each sent s [] put few = idle sent s put few
turns_go f each sent s (x ∷ xs) put few =
    let one = f s x in
    let rest = in_turn f one.0 xs in
    let all = length-append sent (one.1.sends ++ rest.1.sends) in
    let both = length-append one.1.sends rest.1.sends in
    let here = each sent s x put (let sum = length-append sent one.1.sends in omega (arith, few, all, both, sum)) in
    let more = turns_go f each (sent ++ one.1.sends) one.0 xs here.1 (subst (λ zs. length zs ≤ 2 ^ 24) (sym (append_assoc sent one.1.sends rest.1.sends)) few) in
    (follow_both sent one.1.sends rest.1.sends here.0 more.0, subst (λ zs. IsSecondPut zs rest.0) (append_assoc sent one.1.sends rest.1.sends) more.1)

-- an act that carries no plan out
abbrev pub IsNoGo : Act → Type 0
IsNoGo (go p) = ⊥
IsNoGo _ = ⊤

pub act_goes : (c : Choices) (key : List ℕ) (sent : List Send) (s : SecondNode) (a : Act) → IsNoGo a → IsSecondPut sent s → SecondGoes sent (second_act c key s a)
act_goes c key sent s (send to r) no' put = quiet_goes sent s put s (second_act c key s (send to r)).1 refl refl (λ i h. record_none (link (name_of s) to Ctl) r i h)
act_goes c key sent s (prepare p) no' put = idle sent s put
act_goes c key sent s (go p) no' put = absurd no'
act_goes c key sent s (unlock_all g) no' put =
    turns_go (λ (n : SecondNode) (id : ℕ). on_fed_of n g (unlock c) id (held id n.anchors)) (λ before n id put'. fed_of_goes before n put' g (unlock c) (unlock_goes c) id) sent s (identities s.anchors) put
act_goes c key sent s (say n) no' put = quiet_goes sent s put s (second_act c key s (say n)).1 refl refl (λ i h l. refl)
act_goes c key sent s (recover_one id) no' put = fed_goes sent s put id (recover c) (recover_goes c) (held id s.anchors) refl
act_goes c key sent s (fail_one id g) no' put = fed_of_goes sent s put g (fail_scg c) (fail_goes c) id
act_goes c key sent s (pass status) no' put = fed_goes sent s put status.id (λ a. status_in c a status) (λ a. status_goes c a status) (held status.id s.anchors) refl

-- a flight of user data, over the air or through a tunnel
pub air_taken_goes : (sent : List Send) (s : SecondNode) (f : Flight) (o : Option Named) → IsSecondPut sent s → SecondGoes sent (second_data s (λ a. air_in a cell.Scg f) (λ h. host_air_in h f) o)
air_taken_goes sent s f o put = data_goes sent s put (λ a. air_in a cell.Scg f) (λ h. host_air_in h f) (λ a. air_goes a cell.Scg f) (λ h. host_air_goes h f) o

pub tunnel_taken_goes : (c : Choices) (sent : List Send) (s : SecondNode) (f : Flight) (o : Option Named) → IsSecondPut sent s → SecondGoes sent (second_data s (λ a. tunnel_in c a f) (λ h. host_tunnel_in h f) o)
tunnel_taken_goes c sent s f o put = data_goes sent s put (λ a. tunnel_in c a f) (λ h. host_tunnel_in h f) (λ a. tunnel_goes c a f) (λ h. host_tunnel_goes h f) o
