-- Each step of an anchor adds to its story behind what it has.
use Rattle.std.proofs.Common.{◌≡◌, ℕ, ◌++◌, ◌==◌, ◌&&◌, true, false, Bool, List, [], ◌∷◌, Option, Some, None, refl, sym, ap, ◌∙◌, subst, inl, inr, arith}
use Rattle.std.specs.Prelude.{if◌then◌else◌, slice_get, ◌||◌, ◌<◌, ◌^◌}
use Rattle.std.specs.List.{AllByRecursion}
use Rattle.std.proofs.lemmas.Bool.{and_parts, cases_Bool, eqb-true}
use Rattle.dc_base.specs.Nodes.{is_same_node}
use Rattle.dc_base.specs.declared.flights.Flight.{Flight}
use Rattle.dc_base.specs.declared.flights.Flight.TheVariants as flight
use Rattle.dc_base.specs.declared.nodes.Cell.{Cell}
use Rattle.dc_base.specs.declared.nodes.Node.{Node}
use Rattle.dc_base.specs.declared.nodes.LinkId.{LinkId}
use Rattle.dc_base.specs.declared.nodes.Node.TheVariants.{A, B, M, T}
use Rattle.dc_base.specs.declared.records.StatusTransfer.{StatusTransfer}
use Rattle.nr_u.specs.declared.tunnel.outbound.Sent.{Sent}
use Rattle.nr_u.specs.Tunnel.Outgoing.{first_send}
use Rattle.node_rules.specs.Adopting.{status_in}
use Rattle.node_rules.specs.Anchor.{AnchorState, active_anchor, setup_at, waiting_anchor}
use Rattle.node_rules.specs.AnchorReceiving.{air_in, tunnel_in}
use Rattle.node_rules.specs.AnchorSending.{fail_scg, recover, report, submit, unlock}
use Rattle.node_rules.specs.Choices.{Choices, Send}
use Rattle.node_rules.specs.declared.bearers.AnchorOut.{AnchorOut}
use Rattle.run_control.specs.Traffic.{OnStatus, OnTraffic, adopts, adopts_at_once, keeps, notes, passes}
use Rattle.run_control.specs.Views.{Bearer, View, bearer_of, controls, has_status, holds, is_awaited, is_control, is_lacking, is_of_control, lacks_status, view_of}
use Rattle.run_control.proofs.Anchors.{fail_keeps, recover_keeps, report_keeps, submit_keeps, unlock_opens}
use Rattle.run_control.proofs.Arrivals.{air_keeps, status_is, tunnel_is}
use Rattle.run_confirms.specs.Anchors.{IsOfAnchor}
use Rattle.run_confirms.specs.States.{StateSends, StateSent}
use Rattle.run_confirms.proofs.Opening.{unlock_step}
use Rattle.run_confirms.proofs.Found.{tunnel_sends}
use Rattle.run_confirms.proofs.Adopting.{status_sends}
use Rattle.run_confirms.proofs.States.{air_sends, fail_sends, recover_sends, report_sends, submit_sends, unlock_sends}
use Rattle.run_senders.specs.Holders.{Stays}
use Rattle.run_senders.proofs.Anchors.{fail_stays, recover_stays, report_stays, submit_stays, unlock_stays}
use Rattle.run_senders.proofs.Arrivals.{air_stays, status_stays, tunnel_stays}
use Rattle.run_words.specs.Senders.{AreBy as AreSentBy}
use Rattle.run_confirmed.specs.Flights.{IsTrue, IsTrueSend}
use Rattle.run_confirmed.specs.Nodes.{IsNameable, IsAnchorOf, IsSteady}
use Rattle.run_confirmed.specs.Stories.{AreBy, IsInOrder, Layout, Stories, Story, leg_of}
use Rattle.run_confirmed.proofs.Growing.{extends_none, story_by, story_here, with_story}
use Rattle.run_confirmed.proofs.Steady.{air_steady, fail_steady, recover_steady, report_steady, status_steady, submit_steady, tunnel_steady, unlock_steady}

-- ---- what a step keeps

-- of an anchor: its bearer, its node, its window; it sends no record, and what it sends is behind what it sent
pub record IsStep (a : AnchorState) (done : AnchorState × AnchorOut) : Type 0 where
  pub bearer : bearer_of (setup_at done.0) ≡ bearer_of (setup_at a)
  pub stays : Stays a done
  pub plain : controls done.1.sends ≡ []
  pub sends : (air : List (Option ℕ)) (tun : List Sent) → StateSent air tun a → StateSends air tun a done
  pub steady : IsSteady done.0

seen_bearer : (a : AnchorState) → (view_of a).bearer ≡ bearer_of (setup_at a)
seen_bearer (waiting_anchor w) = refl
seen_bearer (active_anchor a) = refl

by_view : (a b : AnchorState) → (view_of b).bearer ≡ (view_of a).bearer → bearer_of (setup_at b) ≡ bearer_of (setup_at a)
by_view a b same = sym (seen_bearer b) ∙ same ∙ seen_bearer a

traffic_bearer : (a : AnchorState) (done : AnchorState × AnchorOut) → OnTraffic a done → bearer_of (setup_at done.0) ≡ bearer_of (setup_at a)
traffic_bearer a done (keeps stays view sends) = by_view a done.0 (ap (λ (v : View). v.bearer) view)
traffic_bearer a done (adopts adopted had view sends) = by_view a done.0 (ap (λ (v : View). v.bearer) view)

traffic_plain : (a : AnchorState) (done : AnchorState × AnchorOut) → OnTraffic a done → controls done.1.sends ≡ []
traffic_plain a done (keeps stays view sends) = sends
traffic_plain a done (adopts adopted had view sends) = sends

status_bearer : (st : StatusTransfer) (a : AnchorState) (done : AnchorState × AnchorOut) → OnStatus st a done
    → bearer_of (setup_at done.0) ≡ bearer_of (setup_at a)
status_bearer st a done (passes other is) = by_view a done.0 (ap (λ (v : View). v.bearer) is.view)
status_bearer st a done (notes awaited stays view sends) = by_view a done.0 (ap (λ (v : View). v.bearer) view)
status_bearer st a done (adopts_at_once awaited adopted view sends) = by_view a done.0 (ap (λ (v : View). v.bearer) view)

status_plain : (st : StatusTransfer) (a : AnchorState) (done : AnchorState × AnchorOut) → OnStatus st a done → controls done.1.sends ≡ []
status_plain st a done (passes other is) = is.sends
status_plain st a done (notes awaited stays view sends) = sends
status_plain st a done (adopts_at_once awaited adopted view sends) = sends

-- the opening of an anchor
opening_sends : (c : Choices) (air : List (Option ℕ)) (tun : List Sent) (s : AnchorState) → IsSteady s → StateSent air tun s → StateSends air tun s (unlock c s)
opening_sends c air tun (waiting_anchor w) steady is = unlock_sends c air tun (waiting_anchor w) tt is
opening_sends c air tun (active_anchor a) steady is =
    let step = unlock_step c air tun a a.entity.tx.n is steady.window in record { more_air = step.more_air; more_tun = step.more_tun; after = step.after; flights = step.flights }

-- ---- each step

pub submit_is : (c : Choices) (p : List ℕ) (a : AnchorState) → IsSteady a → IsStep a (submit c a p)
submit_is c p a is = record {
  bearer = by_view a (submit c a p).0 (ap (λ (v : View). v.bearer) (submit_keeps c a p).view);
  stays = submit_stays c a p;
  plain = (submit_keeps c a p).sends;
  sends = λ air tun sent. submit_sends c air tun a p sent;
  steady = submit_steady c a p is;
}

pub unlock_is : (c : Choices) (a : AnchorState) → IsSteady a → IsStep a (unlock c a)
unlock_is c a is = record {
  bearer = by_view a (unlock c a).0 (ap (λ (v : View). v.bearer) (unlock_opens c a).view);
  stays = unlock_stays c a;
  plain = (unlock_opens c a).sends;
  sends = λ air tun sent. opening_sends c air tun a is sent;
  steady = unlock_steady c a is;
}

pub recover_is : (c : Choices) (a : AnchorState) → IsSteady a → IsStep a (recover c a)
recover_is c a is = record {
  bearer = by_view a (recover c a).0 (ap (λ (v : View). v.bearer) (recover_keeps c a).view);
  stays = recover_stays c a;
  plain = (recover_keeps c a).sends;
  sends = λ air tun sent. recover_sends c air tun a sent;
  steady = recover_steady c a is;
}

pub fail_is : (c : Choices) (a : AnchorState) → IsSteady a → IsStep a (fail_scg c a)
fail_is c a is = record {
  bearer = by_view a (fail_scg c a).0 (ap (λ (v : View). v.bearer) (fail_keeps c a).view);
  stays = fail_stays c a;
  plain = (fail_keeps c a).sends;
  sends = λ air tun sent. fail_sends c air tun a sent;
  steady = fail_steady c a is;
}

pub report_is : (c : Choices) (a : AnchorState) → IsSteady a → IsStep a (report c a)
report_is c a is = record {
  bearer = by_view a (report c a).0 (ap (λ (v : View). v.bearer) (report_keeps c a).view);
  stays = report_stays c a;
  plain = (report_keeps c a).sends;
  sends = λ air tun sent. report_sends c air tun a sent;
  steady = report_steady c a is;
}

pub air_is : (cell : Cell) (f : Flight) (a : AnchorState) → IsSteady a → IsStep a (air_in a cell f)
air_is cell f a is = record {
  bearer = traffic_bearer a (air_in a cell f) (air_keeps a cell f);
  stays = air_stays a cell f;
  plain = traffic_plain a (air_in a cell f) (air_keeps a cell f);
  sends = λ air tun sent. air_sends air tun a cell f sent;
  steady = air_steady a cell f is;
}

pub tunnelled_is : (c : Choices) (f : Flight) (a : AnchorState) → IsSteady a → IsStep a (tunnel_in c a f)
tunnelled_is c f a is = record {
  bearer = traffic_bearer a (tunnel_in c a f) (tunnel_is c a f);
  stays = tunnel_stays c a f;
  plain = traffic_plain a (tunnel_in c a f) (tunnel_is c a f);
  sends = λ air tun sent. tunnel_sends c air tun a f sent;
  steady = tunnel_steady c a f is;
}

pub passed_is : (c : Choices) (st : StatusTransfer) → st.dl < 2 ^ 32 → (a : AnchorState) → IsSteady a → IsStep a (status_in c a st)
passed_is c st small a is = record {
  bearer = status_bearer st a (status_in c a st) (status_is c a st);
  stays = status_stays c a st;
  plain = status_plain st a (status_in c a st) (status_is c a st);
  sends = λ air tun sent. status_sends c air tun a st sent;
  steady = status_steady c a st small is;
}

-- ---- the story after it

-- a node is itself
pub itself : (x : Node) → is_same_node x x ≡ true
itself T = refl
itself M = refl
itself A = refl
itself B = refl

-- in an empty tunnel first sends rise
pub empty_order : (s : Story) → s.tunnel ≡ [] → IsInOrder s
empty_order s none = record {
  rise = λ j k c d less at_j at_k. absurd (nothing j (first_send c) at_j);
  below = λ number count at. absurd (nothing number (first_send count) at);
}
  where
    nothing : (k : ℕ) (e : Sent) → slice_get s.tunnel k ≡ Some e → ⊥
    nothing k e at = no_some (sym (ap (λ l. slice_get l k) none) ∙ at)
      where
        no_some : ◌≡◌ {A = Option Sent} None (Some e) → ⊥
        no_some bad = cc

-- those of an anchor rise, below 2^32
anchor_order : (s : Story) (a : AnchorState) → StateSent s.own s.tunnel a → IsSteady a → IsInOrder s
anchor_order s (waiting_anchor w) sent steady = empty_order s sent.1
anchor_order s (active_anchor a) sent steady = record {
  rise = sent.sent.rise;
  below = λ number count at. let below = sent.sent.below number count at in omega (arith, below, steady.small);
}

-- sends of which none is of the control plane
none_of_control : (ss : List Send) → controls ss ≡ [] → AllByRecursion (λ (s : Send). is_of_control s ≡ false) ss
none_of_control [] none = tt
none_of_control (s ∷ ss) none =
    elim (cases_Bool (is_of_control s)) [
      | inl yes' ↦ absurd (let bad : ◌≡◌ {A = List Send} (s ∷ controls ss) [] = rw yes' at none in cc)
      | inr no' ↦ (no', none_of_control ss (rw no' at none))
    ]

or_true : (b : Bool) → (b || true) ≡ false → ⊥
or_true true is = cc
or_true false is = cc

-- what an anchor sends is so by the story of its generation
module _ (layout : Layout) (x : Node) (stories : Stories) (id g : ℕ) (home : layout.home id g ≡ x) (other : is_same_node x T ≡ false) (named : IsNameable id g) where
  own_leg : leg_of layout stories id g x ≡ (stories id g).own
  own_leg = ap (λ (b : Bool). if b then (stories id g).own else (stories id g).far) (ap (is_same_node x) home ∙ itself x)

  one_true : (l : LinkId) (f : Flight) → l.from ≡ x → is_of_control (l, f) ≡ false → IsOfAnchor id g (stories id g).own (stories id g).tunnel f
      → IsTrue layout stories l f
  one_true l (flight.Air i h num tag pdu) from plain is = λ down.
      ap (λ (y : Node). slice_get (leg_of layout stories i h y) num) from ∙ ap (λ (k : ℕ). slice_get (leg_of layout stories k h x) num) is.0
      ∙ ap (λ (k : ℕ). slice_get (leg_of layout stories id k x) num) is.1 ∙ ap (λ (leg : List (Option ℕ)). slice_get leg num) own_leg ∙ is.2
  one_true l (flight.Ack i h num) from plain is = λ up. absurd (let bad : true ≡ false = sym up ∙ ap (λ y. is_same_node y T) from ∙ other in cc)
  one_true l (flight.Tun tag packet) from plain is = inl (record {
    id = id;
    g = g;
    sent = is;
    named = record { some = named.some; small = named.small; generation = omega (arith, named.generation); short = omega arith };
  })
  one_true l (flight.Ctl r) from plain is = absurd (or_true (is_control l.class) plain)
  one_true l (flight.Sdu i h payload) from plain is = tt
  one_true l (flight.End i h) from plain is = tt
  one_true l (flight.Told i h count) from plain is = tt

  all_true : (ss : List Send) → AreSentBy x ss → AllByRecursion (λ (s : Send). is_of_control s ≡ false) ss
      → AllByRecursion (λ (s : Send). IsOfAnchor id g (stories id g).own (stories id g).tunnel s.1) ss → AllByRecursion (IsTrueSend layout stories) ss
  all_true [] by plain are = tt
  all_true (s ∷ ss) by plain are = (one_true s.0 s.1 by.0.0 plain.0 are.0, all_true ss by.1 plain.1 are.1)

-- a step of an anchor
module _ (layout : Layout) (x : Node) (stories : Stories) (order : (id g : ℕ) → IsInOrder (stories id g)) where
  -- the stories after it
  abbrev grown : (id g : ℕ) (a : AnchorState) (done : AnchorState × AnchorOut) → StateSends (stories id g).own (stories id g).tunnel a done → Story
  grown id g a done step = record (stories id g) { own = (stories id g).own ++ step.more_air; tunnel = (stories id g).tunnel ++ step.more_tun }

  grown_by : (id g : ℕ) (a : AnchorState) (done : AnchorState × AnchorOut) → layout.home id g ≡ x
      → (step : StateSends (stories id g).own (stories id g).tunnel a done) → IsSteady done.0
      → AreBy layout x stories (with_story id g (grown id g a done step) stories)
  grown_by id g a done home step steady =
      let s = stories id g in
      let here : is_same_node x (layout.home id g) ≡ true = ap (is_same_node x) home ∙ itself x in
      story_by layout x id g (grown id g a done step) stories order (record {
        later = record {
          own = record { more = step.more_air; is = refl };
          tunnel = record { more = step.more_tun; is = refl };
          far = extends_none s.far;
          received = λ count is. is;
          order = anchor_order (grown id g a done step) done.0 step.after steady;
        };
        own = λ apart. absurd (let bad : true ≡ false = sym here ∙ apart in cc);
        tunnel = λ apart. absurd (let bad : true ≡ false = sym here ∙ apart in cc);
        far = λ apart. refl;
        rx = λ apart. refl;
      })

  -- where it is the anchor of this generation
  by_step : (id g : ℕ) (a : AnchorState) (done : AnchorState × AnchorOut) → is_same_node x T ≡ false → (setup_at a).g ≡ g → IsAnchorOf layout stories x id a
      → (step : IsStep a done)
      → (sends : StateSends (stories id g).own (stories id g).tunnel a done)
      → (let later = with_story id g (grown id g a done sends) stories in IsAnchorOf layout later x id done.0 × AllByRecursion (IsTrueSend layout later) done.1.sends)
  by_step id g a done other same is step sends =
      let s = grown id g a done sends in
      let later = with_story id g s stories in
      let here : later id g ≡ s = story_here id g s stories in
      let home : layout.home id g ≡ x = ap (layout.home id) (sym same) ∙ is.home in
      let g_is : (setup_at done.0).g ≡ g = ap (λ (b : Bearer). b.g) step.bearer ∙ same in
      let own_id : (setup_at a).id ≡ id = is.same_id in (
        record {
          same_id = ap (λ (b : Bearer). b.id) step.bearer ∙ is.same_id;
          node = step.stays.node ∙ is.node;
          home = ap (layout.home id) g_is ∙ home;
          n = ap (λ (b : Bearer). b.n) step.bearer ∙ is.n ∙ ap (layout.n id) (sym (ap (λ (b : Bearer). b.g) step.bearer));
          sent =
              subst (λ (k : ℕ). StateSent (later id k).own (later id k).tunnel done.0) (sym g_is) (subst (λ (t : Story). StateSent t.own t.tunnel done.0) (sym here) sends.after);
          steady = step.steady;
          named = subst (IsNameable id) (sym (ap (λ (b : Bearer). b.g) step.bearer)) is.named;
        },
        all_true layout x later id g home other (subst (IsNameable id) same is.named) done.1.sends (subst (λ (y : Node). AreSentBy y done.1.sends) is.node step.stays.by) (none_of_control done.1.sends step.plain)
            (subst (λ (t : Story). AllByRecursion (λ (e : Send). IsOfAnchor id g t.own t.tunnel e.1) done.1.sends) (sym here)
            (subst (λ (i : ℕ). AllByRecursion (λ (e : Send). IsOfAnchor i g (s.own) (s.tunnel) e.1) done.1.sends) own_id
            (subst (λ (k : ℕ). AllByRecursion (λ (e : Send). IsOfAnchor (setup_at a).id k (s.own) (s.tunnel) e.1) done.1.sends) same sends.flights))),
      )

  -- the stories after it differ in the generation of the anchor alone
  pub record AnchorGoes (id g : ℕ) (done : AnchorState × AnchorOut) : Type 0 where
    pub story : Story
    pub by : AreBy layout x stories (with_story id g story stories)
    pub so : IsAnchorOf layout (with_story id g story stories) x id done.0
    pub far : story.far ≡ (stories id g).far
    pub rx : story.rx ≡ (stories id g).rx
    pub sends : AllByRecursion (IsTrueSend layout (with_story id g story stories)) done.1.sends

  pub anchor_goes : (id : ℕ) (a : AnchorState) (done : AnchorState × AnchorOut) → is_same_node x T ≡ false → IsAnchorOf layout stories x id a → IsStep a done
      → AnchorGoes id (setup_at a).g done
  anchor_goes id a done other is step =
      let g = (setup_at a).g in
      let sends = step.sends (stories id g).own (stories id g).tunnel is.sent in
      let got = by_step id g a done other refl is step sends in
      record { story = grown id g a done sends; by = grown_by id g a done is.home sends step.steady; so = got.0; far = refl; rx = refl; sends = got.1 }

-- ---- a waiting anchor without a status transfer stays one

by_stage : (a b : AnchorState) → view_of b ≡ view_of a → (view_of a).stage ≡ lacks_status → (view_of b).stage ≡ lacks_status
by_stage a b same lacks = ap (λ (v : View). v.stage) same ∙ lacks

no_stage : lacks_status ≡ has_status → ⊥
no_stage is = cc

traffic_lacks : (a : AnchorState) (done : AnchorState × AnchorOut) → OnTraffic a done → (view_of a).stage ≡ lacks_status → (view_of done.0).stage ≡ lacks_status
traffic_lacks a done (keeps stays view sends) lacks = by_stage a done.0 view lacks
traffic_lacks a done (adopts adopted had view sends) lacks = absurd (no_stage (sym lacks ∙ had))

-- what is taken of a status transfer is of the anchor's generation
awaited_g : (st : StatusTransfer) (v : View) → is_awaited st v ≡ true → v.bearer.g ≡ st.g
awaited_g st v is =
    let first = (and_parts ((v.bearer.id == st.id) && (v.bearer.g == st.g)) (is_lacking v.stage) is).0 in
    eqb-true v.bearer.g st.g (and_parts (v.bearer.id == st.id) (v.bearer.g == st.g) first).1

status_lacks : (st : StatusTransfer) (a : AnchorState) (done : AnchorState × AnchorOut) → OnStatus st a done → ((setup_at a).g ≡ st.g → ⊥)
    → (view_of a).stage ≡ lacks_status
    → (view_of done.0).stage ≡ lacks_status
status_lacks st a done (passes other is) apart lacks = by_stage a done.0 is.view lacks
status_lacks st a done (notes awaited stays view sends) apart lacks =
    absurd (apart (ap (λ (b : Bearer). b.g) (sym (seen_bearer a)) ∙ awaited_g st (view_of a) awaited))
status_lacks st a done (adopts_at_once awaited adopted view sends) apart lacks =
    absurd (apart (ap (λ (b : Bearer). b.g) (sym (seen_bearer a)) ∙ awaited_g st (view_of a) awaited))

-- it stays so in each step
abbrev pub Lacks : (AnchorState → AnchorState × AnchorOut) → AnchorState → Type 0
Lacks f a = (view_of a).stage ≡ lacks_status → (view_of (f a).0).stage ≡ lacks_status

pub submit_lacks : (c : Choices) (p : List ℕ) (a : AnchorState) → Lacks (λ s. submit c s p) a
submit_lacks c p a lacks = by_stage a (submit c a p).0 (submit_keeps c a p).view lacks

pub unlock_lacks : (c : Choices) (a : AnchorState) → Lacks (unlock c) a
unlock_lacks c a lacks = ap (λ (v : View). v.stage) (unlock_opens c a).view ∙ lacks

pub recover_lacks : (c : Choices) (a : AnchorState) → Lacks (recover c) a
recover_lacks c a lacks = by_stage a (recover c a).0 (recover_keeps c a).view lacks

pub fail_lacks : (c : Choices) (a : AnchorState) → Lacks (fail_scg c) a
fail_lacks c a lacks = by_stage a (fail_scg c a).0 (fail_keeps c a).view lacks

pub report_lacks : (c : Choices) (a : AnchorState) → Lacks (report c) a
report_lacks c a lacks = by_stage a (report c a).0 (report_keeps c a).view lacks

pub air_lacks : (cell : Cell) (f : Flight) (a : AnchorState) → Lacks (λ s. air_in s cell f) a
air_lacks cell f a lacks = traffic_lacks a (air_in a cell f) (air_keeps a cell f) lacks

pub tunnel_lacks : (c : Choices) (f : Flight) (a : AnchorState) → Lacks (λ s. tunnel_in c s f) a
tunnel_lacks c f a lacks = traffic_lacks a (tunnel_in c a f) (tunnel_is c a f) lacks

pub passed_lacks : (c : Choices) (st : StatusTransfer) (a : AnchorState) → ((setup_at a).g ≡ st.g → ⊥) → Lacks (λ s. status_in c s st) a
passed_lacks c st a apart lacks = status_lacks st a (status_in c a st) (status_is c a st) apart lacks

-- it sent nothing
pub lacks_empty : (own : List (Option ℕ)) (tun : List Sent) (a : AnchorState) → (view_of a).stage ≡ lacks_status → StateSent own tun a → (own ≡ []) × (tun ≡ [])
lacks_empty own tun (waiting_anchor w) lacks sent = (sent.0, sent.1)
lacks_empty own tun (active_anchor a) lacks sent = absurd (no_holds lacks)
  where
    no_holds : holds ≡ lacks_status → ⊥
    no_holds is = cc
