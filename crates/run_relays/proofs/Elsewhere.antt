-- What is relayed in a tunnel comes from another node than the anchor of its plan.
use Rattle.std.proofs.Common.{ℕ, ◌≡◌, Bool, true, false, List, [], ◌∷◌, Option, Some, None, length, refl, sym, ap, subst, ◌∙◌, inl, inr}
use Rattle.std.specs.Prelude.{find, not, ⊤}
use Rattle.std.specs.Option.{option_and_then}
use Rattle.std.specs.List.{AllByRecursion, flat_map}
use Rattle.std.proofs.lemmas.Bool.{and_parts, cases_Bool}
use Rattle.dc_base.specs.Links.{is_same_link}
use Rattle.dc_base.specs.Nodes.{is_same_node}
use Rattle.dc_base.specs.declared.events.Event.{Event}
use Rattle.dc_base.specs.declared.events.Line.{Line}
use Rattle.dc_base.specs.declared.events.Line.TheVariants as line
use Rattle.dc_base.specs.declared.flights.Flight.{Flight}
use Rattle.dc_base.specs.declared.flights.Flight.TheVariants as flight
use Rattle.dc_base.specs.declared.nodes.LinkId.{LinkId}
use Rattle.dc_base.specs.declared.nodes.Node.{Node}
use Rattle.dc_base.specs.declared.nodes.Node.TheVariants.{A, B, M, T}
use Rattle.dc_base.specs.declared.nodes.Shape.{Shape}
use Rattle.dc_base.specs.declared.records.Plan.{Plan}
use Rattle.transcript.specs.Content.{on_link, place_taken, put_on, without_taken}
use Rattle.transcript.specs.Transcript.{sends}
use Rattle.transcript.proofs.OnEach.{each_append, each_at, each_remove, each_weaker}
use Rattle.claims.specs.Reading.{Setting, setting_of, sets}
use Rattle.claims.specs.Shapes as claims
use Rattle.master_runs.proofs.Contents.{flights_next}
use Rattle.master_runs.proofs.Moving.{same_link}
use Rattle.node_rules.specs.Choices.{Choices, Send}
use Rattle.node_rules.specs.Host.{Host}
use Rattle.node_rules.specs.Lines.{lines_of}
use Rattle.node_rules.specs.Places.{anchor_at, has_leg_at}
use Rattle.node_rules.specs.Run.{Happening, carried_on, given_to, on_links, refused_for, world_step}
use Rattle.node_rules.specs.World.{World, flights_on}
use Rattle.node_rules.specs.declared.inputs.Input.TheVariants.{Cmd, Come}
use Rattle.node_rules.specs.declared.inputs.Outcome.{Outcome}
use Rattle.run_senders.specs.Kinds.{is_of_terminal}
use Rattle.run_senders.specs.Lines.{IsCopyBy, IsOwnLine}
use Rattle.run_senders.proofs.Lines.{any_notes, copy_is}
use Rattle.run_senders.proofs.TerminalKinds.{terminal_kinds}
use Rattle.run_words.proofs.Lines.{each_line_of}
use Rattle.run_uplinks.specs.Readings.{Reading}
use Rattle.run_uplinks.specs.Seen.{setting_in}
use Rattle.run_relays.specs.Elsewhere.{AreFromElsewhere, InTunnel, IsElsewhere}
use Rattle.run_relays.specs.Pdus.{GrowsTo}
use Rattle.run_relays.specs.Relays.{ArePlain, AreSentFor, IsPlain, PassesOn}
use Rattle.run_relays.specs.Setups.{HostOf, IsHostOfPlan}
use Rattle.run_relays.proofs.Steps.{AreSentIn}

-- ---- a leg host

same_anchor : (sec : Option Node) (s : Shape) → claims.anchor_at sec s ≡ anchor_at sec s
same_anchor None s = refl
same_anchor (Some x) s = refl

not_true : (b : Bool) → not b ≡ true → b ≡ false
not_true true is = absurd (let bad : false ≡ true = is in cc)
not_true false is = refl

-- it is at another node than the anchor of its plan
pub host_elsewhere : (r : Reading) (h : Host) (l : LinkId) → HostOf (IsHostOfPlan r.plans) h → l.from ≡ h.node → IsElsewhere r l h.id h.g
host_elsewhere r h l is from =
    let of = is.of in
    let x = is.is in
    let set : Setting = record { sec = x.plan.sec; shape = of.shape; key = x.key; old = x.old } in
    let found : setting_in r.plans of.id of.g ≡ Some set =
    ap (option_and_then (λ (q : Plan). setting_of q.sec (find (sets of.id) q.items))) x.drawn ∙ ap (setting_of x.plan.sec) x.item in
    let away = not_true (is_same_node h.node (anchor_at of.sec of.shape)) (and_parts (has_leg_at of.sec of.shape h.node) (not (is_same_node h.node (anchor_at of.sec of.shape))) is.hosts).1 in
    record {
      set = set;
      in_plan = ap (λ i. setting_in r.plans i h.g) is.id ∙ ap (λ g. setting_in r.plans of.id g) is.g ∙ found;
      apart = ap (λ y. is_same_node y (claims.anchor_at x.plan.sec of.shape)) from ∙ ap (is_same_node h.node) (same_anchor x.plan.sec of.shape ∙ ap (λ o. anchor_at o of.shape) (sym x.sec)) ∙ away;
    }

-- ---- it stays

elsewhere_stays : (r s : Reading) (l : LinkId) (id g : ℕ) → GrowsTo r s → IsElsewhere r l id g → IsElsewhere s l id g
elsewhere_stays r s l id g grows is = record { set = is.set; in_plan = grows.settings id g is.set is.in_plan; apart = is.apart }

pub tunnel_stays : (r s : Reading) (l : LinkId) (f : Flight) → GrowsTo r s → InTunnel r l f → InTunnel s l f
tunnel_stays r s l (flight.Tun tag packet) grows (inl other) = inl other
tunnel_stays r s l (flight.Tun tag packet) grows (inr x) = inr (record { id = x.id; g = x.g; pdu = x.pdu; is = x.is; elsewhere = elsewhere_stays r s l x.id x.g grows x.elsewhere })
tunnel_stays r s l (flight.Air id g num tag pdu) grows is = tt
tunnel_stays r s l (flight.Ack id g num) grows is = tt
tunnel_stays r s l (flight.Sdu id g sdu) grows is = tt
tunnel_stays r s l (flight.End id g) grows is = tt
tunnel_stays r s l (flight.Told id g count) grows is = tt
tunnel_stays r s l (flight.Ctl x) grows is = tt

-- ---- sends

module _ (r : Reading) where
  -- a leg host as its plan has it
  abbrev pub OfPlan : Host → Type 0
  OfPlan h = HostOf (IsHostOfPlan r.plans) h

  -- of a send
  abbrev pub SentIn : Send → Type 0
  SentIn s = InTunnel r s.0 s.1

  plain_in : (l : LinkId) (f : Flight) → IsPlain (l, f) → InTunnel r l f
  plain_in l (flight.Air id g num tag pdu) plain = tt
  plain_in l (flight.Tun tag packet) plain = inl plain
  plain_in l (flight.Ack id g num) plain = tt
  plain_in l (flight.Sdu id g sdu) plain = tt
  plain_in l (flight.End id g) plain = tt
  plain_in l (flight.Told id g count) plain = tt
  plain_in l (flight.Ctl x) plain = tt

  pub passes_elsewhere : (f : Flight) (s : Send) → (x : PassesOn OfPlan f s) → IsElsewhere r s.0 x.id x.g
  passes_elsewhere f s x = subst (λ g. IsElsewhere r s.0 x.id g) x.of_g (subst (λ i. IsElsewhere r s.0 i x.host.g) x.of_id (host_elsewhere r x.host s.0 x.so x.from))

  passes_in : (f : Flight) (s : Send) → PassesOn OfPlan f s → SentIn s
  passes_in f s x = subst (InTunnel r s.0) (sym x.relays) (inr (record { id = x.id; g = x.g; pdu = x.pdu; is = refl; elsewhere = passes_elsewhere f s x }))

  all_plain : (ss : List Send) → ArePlain ss → AllByRecursion SentIn ss
  all_plain [] plain = tt
  all_plain (s ∷ ss) plain = (plain_in s.0 s.1 plain.0, all_plain ss plain.1)

  all_sent : (f : Flight) (ss : List Send) → AreSentFor OfPlan f ss → AllByRecursion SentIn ss
  all_sent f [] sent = tt
  all_sent f (s ∷ ss) sent = (elim sent.0 [ inl plain ↦ plain_in s.0 s.1 plain | inr passes ↦ passes_in f s passes ], all_sent f ss sent.1)

  of_terminal : (l : LinkId) (f : Flight) → is_of_terminal l f ≡ true → InTunnel r l f
  of_terminal l (flight.Tun tag packet) kind = absurd (let bad : false ≡ true = kind in cc)
  of_terminal l (flight.Air id g num tag pdu) kind = tt
  of_terminal l (flight.Ack id g num) kind = tt
  of_terminal l (flight.Sdu id g sdu) kind = tt
  of_terminal l (flight.End id g) kind = tt
  of_terminal l (flight.Told id g count) kind = tt
  of_terminal l (flight.Ctl x) kind = tt

  all_terminal : (ss : List Send) → AllByRecursion (λ (s : Send). is_of_terminal s.0 s.1 ≡ true) ss → AllByRecursion SentIn ss
  all_terminal [] kinds = tt
  all_terminal (s ∷ ss) kinds = (of_terminal s.0 s.1 kinds.0, all_terminal ss kinds.1)

  -- ---- the lines of an event

  abbrev pub LineIn : Line → Type 0
  LineIn (line.Send l f) = InTunnel r l f
  LineIn (line.Note n) = ⊤
  LineIn (line.Event e) = ⊤
  LineIn (line.Answer a) = ⊤

  lines_in : (o : Outcome) → AllByRecursion SentIn o.sends → AllByRecursion LineIn (lines_of o)
  lines_in o sent = each_line_of LineIn o (any_notes o.notes) sent

  pub event_in : (c : Choices) (w : World) (e : Event) (h : Happening) → AreFromElsewhere r w → AreSentIn OfPlan h (carried_on c w h).1.sends → AllByRecursion (IsOwnLine w e h) (lines_of (carried_on c w h).1)
      → AllByRecursion LineIn (lines_of (carried_on c w h).1)
  event_in c w e (given_to T i) on sent own = let o = (carried_on c w (given_to T i)).1 in lines_in o (all_terminal o.sends (terminal_kinds c w.terminal i))
  event_in c w e (given_to M (Come l f)) on sent own = let o = (carried_on c w (given_to M (Come l f))).1 in lines_in o (all_sent f o.sends sent)
  event_in c w e (given_to A (Come l f)) on sent own = let o = (carried_on c w (given_to A (Come l f))).1 in lines_in o (all_sent f o.sends sent)
  event_in c w e (given_to B (Come l f)) on sent own = let o = (carried_on c w (given_to B (Come l f))).1 in lines_in o (all_sent f o.sends sent)
  event_in c w e (given_to M (Cmd x)) on sent own = let o = (carried_on c w (given_to M (Cmd x))).1 in lines_in o (all_plain o.sends sent)
  event_in c w e (given_to A (Cmd x)) on sent own = let o = (carried_on c w (given_to A (Cmd x))).1 in lines_in o (all_plain o.sends sent)
  event_in c w e (given_to B (Cmd x)) on sent own = let o = (carried_on c w (given_to B (Cmd x))).1 in lines_in o (all_plain o.sends sent)
  event_in c w e (refused_for why) on sent own = tt
  event_in c w e (on_links effects) on sent own =
      each_weaker (IsCopyBy w e) LineIn
      (λ k copy. copy_is LineIn w e k (λ l i m f same tunnel at. subst (λ y. InTunnel r y f) (sym same) (each_at (InTunnel r l) (flights_on l w.links) i f (on l) at)) copy)
      (lines_of (carried_on c w (on_links effects)).1) own

-- ---- what stands after it

sends_in : (r : Reading) (xs : List Line) → AllByRecursion (LineIn r) xs → AllByRecursion (λ (s : LinkId × Flight). InTunnel r s.0 s.1) (sends xs)
sends_in r [] all = tt
sends_in r (line.Send l f ∷ xs) all = (all.0, sends_in r xs all.1)
sends_in r (line.Note n ∷ xs) all = sends_in r xs all.1
sends_in r (line.Event e ∷ xs) all = sends_in r xs all.1
sends_in r (line.Answer a ∷ xs) all = sends_in r xs all.1

puts_in : (r : Reading) (l : LinkId) (ss : List (LinkId × Flight)) → AllByRecursion (λ (s : LinkId × Flight). InTunnel r s.0 s.1) ss → AllByRecursion (InTunnel r l) (flat_map (on_link l) ss)
puts_in r l [] all = tt
puts_in r l (s ∷ ss) all =
    elim (cases_Bool (is_same_link l s.0)) [
      | inl here ↦ rw here (subst (λ k. InTunnel r k s.1) (sym (same_link l s.0 here)) all.0, puts_in r l ss all.1)
      | inr there ↦ rw there (puts_in r l ss all.1)
    ]

left_in : (r : Reading) (l : LinkId) (place : Option (LinkId × ℕ)) (fs : List Flight) → AllByRecursion (InTunnel r l) fs → AllByRecursion (InTunnel r l) (without_taken l place fs)
left_in r l None fs all = all
left_in r l (Some place) fs all = elim (cases_Bool (is_same_link l place.0)) [ inl here ↦ rw here (each_remove (InTunnel r l) fs place.1 all) | inr there ↦ rw there all ]

pub elsewhere_next : (c : Choices) (w : World) (e : Event) (r s : Reading) → length w.links ≡ 64 → GrowsTo r s → AreFromElsewhere r w → AllByRecursion (LineIn r) (world_step c w e).1.lines → AreFromElsewhere s (world_step c w e).0
elsewhere_next c w e r s long grows on new = λ l.
    let x = (world_step c w e).1 in
    let place = place_taken e x.answer in
    subst (AllByRecursion (InTunnel s l)) (sym (flights_next c w e l long))
    (each_weaker (InTunnel r l) (InTunnel s l) (λ f here. tunnel_stays r s l f grows here) _
    (each_append (InTunnel r l) (without_taken l place (flights_on l w.links)) (put_on l x.lines) (left_in r l place (flights_on l w.links) (on l)) (puts_in r l (sends x.lines) (sends_in r x.lines new))))
