-- In each run in which the anchors send the PDUs of submissions, each line that sends a downlink data PDU protects its submission.
use Rattle.std.proofs.Common.{ℕ, ◌≡◌, ◌&&◌, ◌||◌, Bool, true, false, List, [], ◌∷◌, Option, Some, None, length, slice_get, refl, sym, ap, subst, ◌∙◌, inl, inr}
use Rattle.std.specs.Prelude.{flat_map, if◌then◌else◌, nat_lt, not, ⊤}
use Rattle.std.specs.List.{AllByRecursion}
use Rattle.std.specs.Option.{option_map}
use Rattle.std.proofs.lemmas.Bool.{cases_Bool}
use Rattle.dc_base.specs.Links.{is_ordered, is_same_link, is_tunnel, link_number}
use Rattle.dc_base.specs.Nodes.{is_same_node}
use Rattle.dc_base.specs.declared.answers.Answer.TheVariants as answer
use Rattle.dc_base.specs.declared.answers.Refusal.TheVariants as refusal
use Rattle.dc_base.specs.declared.events.Event.{Event}
use Rattle.dc_base.specs.declared.events.Event.TheVariants as event
use Rattle.dc_base.specs.declared.events.Header.{Header}
use Rattle.dc_base.specs.declared.events.Line.{Line}
use Rattle.dc_base.specs.declared.events.Line.TheVariants as line
use Rattle.dc_base.specs.declared.events.Note.{Note}
use Rattle.dc_base.specs.declared.flights.Flight.{Flight}
use Rattle.dc_base.specs.declared.flights.Flight.TheVariants as flight
use Rattle.dc_base.specs.declared.nodes.LinkId.{LinkId}
use Rattle.dc_base.specs.declared.nodes.Node.{Node}
use Rattle.dc_base.specs.declared.nodes.Node.TheVariants.{A, B, M, T}
use Rattle.transcript.specs.Content.{on_link, place_taken, put_on, without_taken}
use Rattle.transcript.specs.Transcript.{sends}
use Rattle.transcript.proofs.OnEach.{each_append, each_at, each_remove, each_weaker}
use Rattle.claims.specs.Claim.{Each}
use Rattle.claims.specs.Judged.{judged}
use Rattle.claims.specs.Links.{without}
use Rattle.claims.specs.Names.{claim, protected}
use Rattle.claims.specs.Noted.{after}
use Rattle.claims.specs.Past.{Past, new_past}
use Rattle.claims.specs.Protected.{is_protected}
use Rattle.claims.specs.Taking.{given_if}
use Rattle.master_runs.proofs.Contents.{flights_next}
use Rattle.master_runs.proofs.Moving.{none_there, same_link}
use Rattle.node_rules.specs.Choices.{Choices, Send}
use Rattle.node_rules.specs.Flights.{weight}
use Rattle.node_rules.specs.Lines.{lines_of}
use Rattle.node_rules.specs.Readers.{is_aged_for}
use Rattle.node_rules.specs.Run.{Happening, carried_on, copy_of, entries_from, given_to, happening, loss_of, node_at, on_links, refused_for, step_of, world_step}
use Rattle.node_rules.specs.World.{World, flights_on, new_world}
use Rattle.node_rules.specs.declared.inputs.Input.TheVariants.{Cmd, Come}
use Rattle.node_rules.specs.declared.inputs.Outcome.{Outcome}
use Rattle.run_control.specs.Sound.{AddsSecond}
use Rattle.run_words.specs.Parts.{at_lines}
use Rattle.run_words.specs.Senders.{AreBy, class_of}
use Rattle.run_words.specs.Standing.{StandsAs}
use Rattle.run_words.proofs.Lines.{each_line_of}
use Rattle.run_words.proofs.Standing.{found_standing}
use Rattle.run_words.proofs.TerminalSends.{terminal_sends}
use Rattle.run_uplinks.specs.Readings.{Reading}
use Rattle.run_senders.specs.Kinds.{MayBeOn, is_of_terminal}
use Rattle.run_senders.specs.Lines.{IsCopyBy, IsOwnLine}
use Rattle.run_senders.proofs.Lines.{copy_is, event_copies, own_lines}
use Rattle.run_senders.proofs.MasterSends.{master_sends}
use Rattle.run_senders.proofs.SecondSends.{second_sends}
use Rattle.run_senders.proofs.Standing.{AreRight}
use Rattle.run_senders.proofs.TerminalKinds.{terminal_kinds}
use Rattle.run_relays.specs.Pdus.{GrowsTo}
use Rattle.run_relays.proofs.Contexts.{taken_context}
use Rattle.run_relays.proofs.Growing.{grows_self, grows_then}
use Rattle.run_relays.proofs.Pasts.{IsRead, judged_becomes}
use Rattle.run_relays.proofs.Runs.{Relays, relays_new, relays_next}
use Rattle.run_keys.specs.Downlink.{is_downlink_line}
use Rattle.run_downlinks.specs.Downlinks.{AllSendDown, AreInTunnels, InTunnel, IsDownSend, LineIn, PassesDown, PassesNone, SendDown}
use Rattle.run_downlinks.specs.Seen.{down_reading}
use Rattle.run_downlinks.proofs.Growing.{judged_grows, line_stays, lines_grow, tunnel_stays}
use Rattle.run_downlinks.proofs.Protecting.{HoldsFrom, each_from, passed_holds, send_holds, tunnel_holds}

-- ---- the flight that is given

module _ (p : Past) (w : World) (same : StandsAs p w) (on : AreInTunnels (down_reading p) w) where
  -- it stands on a link to the node that takes it, and is the one that the past of the event gives
  abbrev Given : Event → Happening → Type 0
  Given e (given_to x (Come l f)) = (l.to ≡ x) × InTunnel (down_reading p) l f × ((judged e answer.Ok p).given ≡ Some (l, f))
  Given e (given_to x (Cmd y)) = ⊤
  Given e (refused_for why) = ⊤
  Given e (on_links effects) = ⊤

  given_is : (l : LinkId) (i : ℕ) (f : Flight) → slice_get (flights_on l w.links) i ≡ Some f → (judged (event.Step l i) answer.Ok p).given ≡ Some (l, f)
  given_is l i f at =
      let e = event.Step l i in
      let q : Past = record p { earlier = p.pdus; event = e; answer = answer.Ok; given = None; copied = None; fresh = []; said = []; standing = without l i p.standing } in
      ap (λ o. (given_if o q).given) (found_standing p w same l i ∙ ap (option_map (λ x. (l, x))) at)
      ∙ ap (λ (c : Option (LinkId × Flight) × Option (LinkId × Flight)). c.0) (taken_context l f (record q { given = Some (l, f) }))

  step_given : (l : LinkId) (i : ℕ) (o : Option Flight) → slice_get (flights_on l w.links) i ≡ o → Given (event.Step l i) (step_of w l i o)
  step_given l i None at = tt
  step_given l i (Some f) at =
      elim (cases_Bool (is_ordered l.class && nat_lt 0 i)) [
        | inl behind ↦ rw behind tt
        | inr first ↦ elim (cases_Bool (is_aged_for (node_at w l.to) (weight f))) [
          | inl aged ↦ rw (first, aged) tt
          | inr fresh ↦ rw (first, fresh) (refl, each_at (InTunnel (down_reading p) l) (flights_on l w.links) i f (on l) at, given_is l i f at)
        ]
      ]

  loss_given : (e : Event) (in_it : Bool) (o : Option Flight) → Given e (if in_it then loss_of o else refused_for refusal.NotTunnel)
  loss_given e false o = tt
  loss_given e true None = tt
  loss_given e true (Some f) = tt

  copy_given : (e : Event) (l : LinkId) (in_it : Bool) (o : Option Flight) → Given e (if in_it then copy_of l o else refused_for refusal.NotTunnel)
  copy_given e l false o = tt
  copy_given e l true None = tt
  copy_given e l true (Some f) = tt

  event_given : (e : Event) → Given e (happening w e)
  event_given (event.Step l i) = step_given l i (slice_get (flights_on l w.links) i) refl
  event_given (event.Lose l i) = loss_given (event.Lose l i) (is_tunnel l.class) (slice_get (flights_on l w.links) i)
  event_given (event.Again l i) = copy_given (event.Again l i) l (is_tunnel l.class) (slice_get (flights_on l w.links) i)
  event_given (event.Bearer id n first shape threshold policy) = tt
  event_given (event.Reshape id shape) = tt
  event_given (event.Remove id) = tt
  event_given (event.Add x) = tt
  event_given event.Change = tt
  event_given event.Release = tt
  event_given event.RekeySecond = tt
  event_given (event.RekeyMaster root) = tt
  event_given (event.Recover id) = tt
  event_given (event.Report x id) = tt
  event_given (event.Deny x which) = tt
  event_given (event.Ask x what) = tt
  event_given event.ScgFail = tt
  event_given (event.Submit id d sdu) = tt

-- ---- the lines of an event

-- a line is fit to be sent: of what stands in tunnels it says nothing, or sends that; and it holds
abbrev LineFit : Past → Line → Type 0
LineFit p x = LineIn (down_reading p) x × HoldsFrom p x

any_notes : (p : Past) (ns : List Note) → AllByRecursion (λ n. LineFit p (line.Note n)) ns
any_notes p [] = tt
any_notes p (n ∷ ns) = ((tt, λ q grows same. refl), any_notes p ns)

sent_in : (Passes : ℕ → ℕ → Option ℕ → List ℕ → Type 0) (r : Reading) (l : LinkId) (f : Flight) → IsDownSend Passes r (l, f) → InTunnel r l f
sent_in Passes r l (flight.Tun tag packet) is = is
sent_in Passes r l (flight.Air id g num tag pdu) is = tt
sent_in Passes r l (flight.Ack id g num) is = tt
sent_in Passes r l (flight.Sdu id g sdu) is = tt
sent_in Passes r l (flight.End id g) is = tt
sent_in Passes r l (flight.Told id g count) is = tt
sent_in Passes r l (flight.Ctl c) is = tt

-- where nothing is passed on
plain_fit : (q : Past) (ss : List Send) → AllByRecursion (IsDownSend PassesNone (down_reading q)) ss → AllByRecursion (λ (s : Send). LineFit q (line.Send s.0 s.1)) ss
plain_fit q [] all = tt
plain_fit q (s ∷ ss) all = (
  (sent_in PassesNone (down_reading q) s.0 s.1 all.0, send_holds PassesNone q s.0 s.1 (λ id g num tag pdu to none. absurd none) all.0),
  plain_fit q ss all.1,
)

-- where this flight is
passing_fit : (q : Past) (x : Node) (k : LinkId) (f : Flight) (ss : List Send) → InTunnel (down_reading q) k f → q.given ≡ Some (k, f) → k.to ≡ x → AreBy x ss → AllByRecursion (IsDownSend (PassesDown f) (down_reading q)) ss
    → AllByRecursion (λ (s : Send). LineFit q (line.Send s.0 s.1)) ss
passing_fit q x k f [] in' given to by all = tt
passing_fit q x k f (s ∷ ss) in' given to by all = (
  (
    sent_in (PassesDown f) (down_reading q) s.0 s.1 all.0,
    send_holds (PassesDown f) q s.0 s.1
        (λ id g num tag pdu there is.
        passed_holds q k s.0 id g num tag pdu is.packet (subst (InTunnel (down_reading q) k) is.is in') (given ∙ ap (λ y. Some (k, y)) is.is) (to ∙ sym by.0.0) there is.number is.repeat is.says)
        all.0,
  ),
  passing_fit q x k f ss in' given to by.1 all.1,
)

-- what the terminal sends is no downlink PDU
terminal_fit : (q : Past) (ss : List Send) → AreBy T ss → AllByRecursion (λ (s : Send). is_of_terminal s.0 s.1 ≡ true) ss → AllByRecursion (λ (s : Send). LineFit q (line.Send s.0 s.1)) ss
terminal_fit q [] by kinds = tt
terminal_fit q ((l, flight.Air id g num tag pdu) ∷ ss) by kinds = (
  (tt, λ r grows same. ap (λ b. if not (b || false) then is_protected r (line.Send l (flight.Air id g num tag pdu)) else true) (ap (λ y. is_same_node y T) by.0.0)),
  terminal_fit q ss by.1 kinds.1,
)
terminal_fit q ((l, flight.Ack id g num) ∷ ss) by kinds = ((tt, λ r grows same. refl), terminal_fit q ss by.1 kinds.1)
terminal_fit q ((l, flight.Tun tag packet) ∷ ss) by kinds = absurd (let bad : false ≡ true = kinds.0 in cc)
terminal_fit q ((l, flight.Sdu id g sdu) ∷ ss) by kinds = ((tt, λ r grows same. refl), terminal_fit q ss by.1 kinds.1)
terminal_fit q ((l, flight.End id g) ∷ ss) by kinds = ((tt, λ r grows same. refl), terminal_fit q ss by.1 kinds.1)
terminal_fit q ((l, flight.Told id g count) ∷ ss) by kinds = ((tt, λ r grows same. refl), terminal_fit q ss by.1 kinds.1)
terminal_fit q ((l, flight.Ctl r) ∷ ss) by kinds = ((tt, λ r' grows same. refl), terminal_fit q ss by.1 kinds.1)

-- what stands in a tunnel is a packet
is_packet : (f : Flight) → is_tunnel (class_of f) ≡ true → (tag : Option ℕ) × (packet : List ℕ) × (f ≡ flight.Tun tag packet)
is_packet (flight.Tun tag packet) tunnel = (tag, packet, refl)
is_packet (flight.Air id g num tag pdu) tunnel = absurd (let bad : false ≡ true = tunnel in cc)
is_packet (flight.Ack id g num) tunnel = absurd (let bad : false ≡ true = tunnel in cc)
is_packet (flight.Sdu id g sdu) tunnel = absurd (let bad : false ≡ true = tunnel in cc)
is_packet (flight.End id g) tunnel = absurd (let bad : false ≡ true = tunnel in cc)
is_packet (flight.Told id g count) tunnel = absurd (let bad : false ≡ true = tunnel in cc)
is_packet (flight.Ctl r) tunnel = absurd (let bad : false ≡ true = tunnel in cc)

copied_fit : (q : Past) (l : LinkId) (f : Flight) → is_tunnel l.class ≡ true → MayBeOn l f → InTunnel (down_reading q) l f → LineFit q (line.Send l f)
copied_fit q l f tunnel may in' = let x = is_packet f (sym (ap is_tunnel may.class) ∙ tunnel) in (in', tunnel_holds q l f in' x.0 x.1 x.2)

module _ (c : Choices) (w : World) (p : Past) (e : Event) (read : IsRead p) (right : AreRight w) (stands : StandsAs p w) (on : AreInTunnels (down_reading p) w) where
  abbrev now : Outcome → Past
  now o = judged e o.answer p

  taken : (x : Node) (l : LinkId) (f : Flight) (o : Outcome) → o.answer ≡ answer.Ok → (l.to ≡ x) × InTunnel (down_reading p) l f × ((judged e answer.Ok p).given ≡ Some (l, f)) → AreBy x o.sends
      → AllByRecursion (IsDownSend (PassesDown f) (down_reading (now o))) o.sends → AllByRecursion (LineFit (now o)) (lines_of o)
  taken x l f o ok given by sent =
      each_line_of (LineFit (now o)) o (any_notes (now o) o.notes)
      (passing_fit (now o) x l f o.sends (tunnel_stays (down_reading p) (down_reading (now o)) l f (judged_grows e o.answer p read) given.1) (subst (λ a. (judged e a p).given ≡ Some (l, f)) (sym ok) given.2) given.0 by sent)

  commanded : (o : Outcome) → AllByRecursion (IsDownSend PassesNone (down_reading (now o))) o.sends → AllByRecursion (LineFit (now o)) (lines_of o)
  commanded o sent = each_line_of (LineFit (now o)) o (any_notes (now o) o.notes) (plain_fit (now o) o.sends sent)

  lines_fit : (h : Happening) → Given p w stands on e h → SendDown (down_reading (now (carried_on c w h).1)) h (carried_on c w h).1.sends → AllByRecursion (IsOwnLine w e h) (lines_of (carried_on c w h).1)
      → AllByRecursion (LineFit (now (carried_on c w h).1)) (lines_of (carried_on c w h).1)
  lines_fit (given_to T i) given sent own =
      let o = (carried_on c w (given_to T i)).1 in
      each_line_of (LineFit (now o)) o (any_notes (now o) o.notes) (terminal_fit (now o) o.sends (terminal_sends c w.terminal i) (terminal_kinds c w.terminal i))
  lines_fit (given_to M (Come l f)) given sent own = taken M l f (carried_on c w (given_to M (Come l f))).1 refl given (master_sends c w.master (Come l f) right.there.master).by sent
  lines_fit (given_to A (Come l f)) given sent own = taken A l f (carried_on c w (given_to A (Come l f))).1 refl given (second_sends A c w.a (Come l f) right.there.a).by sent
  lines_fit (given_to B (Come l f)) given sent own = taken B l f (carried_on c w (given_to B (Come l f))).1 refl given (second_sends B c w.b (Come l f) right.there.b).by sent
  lines_fit (given_to M (Cmd y)) given sent own = commanded (carried_on c w (given_to M (Cmd y))).1 sent
  lines_fit (given_to A (Cmd y)) given sent own = commanded (carried_on c w (given_to A (Cmd y))).1 sent
  lines_fit (given_to B (Cmd y)) given sent own = commanded (carried_on c w (given_to B (Cmd y))).1 sent
  lines_fit (refused_for why) given sent own = tt
  lines_fit (on_links effects) given sent own =
      let o = (carried_on c w (on_links effects)).1 in
      each_weaker (IsCopyBy w e) (LineFit (now o))
      (λ k copy. copy_is (LineFit (now o)) w e k
      (λ l i m f same tunnel at. subst (λ y. LineFit (now o) (line.Send y f)) (sym same)
      (copied_fit (now o) l f tunnel (each_at (MayBeOn l) (flights_on l w.links) i f (right.right l) at)
      (tunnel_stays (down_reading p) (down_reading (now o)) l f (judged_grows e o.answer p read) (each_at (InTunnel (down_reading p) l) (flights_on l w.links) i f (on l) at))))
      copy)
      (lines_of o) own

-- ---- what stands after it

sends_in : (r : Reading) (xs : List Line) → AllByRecursion (LineIn r) xs → AllByRecursion (λ (s : LinkId × Flight). InTunnel r s.0 s.1) (sends xs)
sends_in r [] all = tt
sends_in r (line.Send l f ∷ xs) all = (all.0, sends_in r xs all.1)
sends_in r (line.Note n ∷ xs) all = sends_in r xs all.1
sends_in r (line.Event e ∷ xs) all = sends_in r xs all.1
sends_in r (line.Answer a ∷ xs) all = sends_in r xs all.1

puts_in : (r : Reading) (l : LinkId) (ss : List (LinkId × Flight)) → AllByRecursion (λ (s : LinkId × Flight). InTunnel r s.0 s.1) ss → AllByRecursion (InTunnel r l) (flat_map (on_link l) ss)
puts_in r l [] all = tt
puts_in r l (s ∷ ss) all =
    elim (cases_Bool (is_same_link l s.0)) [
      | inl here ↦ rw here (subst (λ k. InTunnel r k s.1) (sym (same_link l s.0 here)) all.0, puts_in r l ss all.1)
      | inr there ↦ rw there (puts_in r l ss all.1)
    ]

left_in : (r : Reading) (l : LinkId) (place : Option (LinkId × ℕ)) (fs : List Flight) → AllByRecursion (InTunnel r l) fs → AllByRecursion (InTunnel r l) (without_taken l place fs)
left_in r l None fs all = all
left_in r l (Some place) fs all = elim (cases_Bool (is_same_link l place.0)) [ inl here ↦ rw here (each_remove (InTunnel r l) fs place.1 all) | inr there ↦ rw there all ]

tunnels_next : (c : Choices) (w : World) (e : Event) (r s : Reading) → length w.links ≡ 64 → GrowsTo r s → AreInTunnels r w → AllByRecursion (LineIn s) (world_step c w e).1.lines → AreInTunnels s (world_step c w e).0
tunnels_next c w e r s long grows on lines = λ l.
    let x = (world_step c w e).1 in
    subst (AllByRecursion (InTunnel s l)) (sym (flights_next c w e l long))
    (each_append (InTunnel s l) (without_taken l (place_taken e x.answer) (flights_on l w.links)) (put_on l x.lines)
    (left_in s l (place_taken e x.answer) (flights_on l w.links) (each_weaker (InTunnel r l) (InTunnel s l) (λ f here. tunnel_stays r s l f grows here) (flights_on l w.links) (on l)))
    (puts_in s l (sends x.lines) (sends_in s x.lines lines)))

-- ---- a run

downlinks_on : (c : Choices) (es : List Event) → AllByRecursion AddsSecond es → (w : World) (p : Past) → Relays p w → AreInTunnels (down_reading p) w → AllSendDown c p w es → Each (at_lines is_downlink_line (claim protected)) p (entries_from c w es)
downlinks_on c [] adds w p is on sent = tt
downlinks_on c (e ∷ es) adds w p is on sent =
    let h = happening w e in
    let x = (world_step c w e).1 in
    let q = judged e x.answer p in
    let one = judged_becomes e x.answer p is.read in
    let fit = lines_fit c w p e is.read is.right is.holds.stands on h (event_given p w is.holds.stands on e) sent.0 (own_lines c w e h is.right.there (event_copies w e)) in
    let later = lines_grow x.lines q one.is in
    let lines = each_weaker (LineFit q) (LineIn (down_reading (after p x))) (λ k it. line_stays (down_reading q) (down_reading (after p x)) k later it.0) x.lines fit in (
      each_from q x.lines q one.is (grows_self (down_reading q)) refl (each_weaker (LineFit q) (HoldsFrom q) (λ k it. it.1) x.lines fit),
      refl,
      downlinks_on c es adds.1 (world_step c w e).0 (after p x) (relays_next c w p e adds.0 is)
          (tunnels_next c w e (down_reading p) (down_reading (after p x)) is.right.long (grows_then (down_reading p) (down_reading q) (down_reading (after p x)) (judged_grows e x.answer p is.read) later) on lines) sent.1,
    )

-- after any events of which each addition is of a secondary node, where each PDU on the air, and each that a packet brings to a leg host,
-- comes from the anchor of its plan and is that of its submission, or is passed on by a leg host: each line that sends a downlink data PDU
-- protects its submission, under the key of its plan
pub downlinks_protected : (c : Choices) (h : Header) (policies : ℕ) (es : List Event) → AllByRecursion AddsSecond es → AllSendDown c (new_past h policies) (new_world h) es
    → Each (at_lines is_downlink_line (claim protected)) (new_past h policies) (entries_from c (new_world h) es)
downlinks_protected c h policies es adds sent =
    downlinks_on c es adds (new_world h) (new_past h policies) (relays_new c h policies)
    (λ l. subst (AllByRecursion (InTunnel (down_reading (new_past h policies)) l)) (sym (none_there 64 (link_number l) [])) tt) sent
