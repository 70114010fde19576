-- In each run the key of each uplink data PDU, whether the terminal sends it, a leg host relays it or it is a copy, is in use for its
-- establishment, and for no other.
use Rattle.std.proofs.Common.{ℕ, ◌≡◌, ◌&&◌, ◌<◌, ◌^◌, ◌||◌, Bool, true, false, List, [], ◌∷◌, Option, Some, None, refl, sym, ap, subst, ◌∙◌, inl, inr, ◌⊎◌}
use Rattle.std.specs.Prelude.{flat_map, fold, if◌then◌else◌, is_none, length, nat_lt, slice_get, ⊤}
use Rattle.std.specs.List.{AllByRecursion, list_any}
use Rattle.std.proofs.lemmas.Bool.{cases_Bool}
use Rattle.dc_base.specs.Links.{is_ordered, is_same_link, is_tunnel, link_number}
use Rattle.dc_base.specs.Nodes.{is_same_node}
use Rattle.dc_base.specs.declared.answers.Refusal.TheVariants as refusal
use Rattle.dc_base.specs.declared.events.Event.{Event}
use Rattle.dc_base.specs.declared.events.Event.TheVariants as event
use Rattle.dc_base.specs.declared.events.Header.{Header}
use Rattle.dc_base.specs.declared.events.Line.{Line}
use Rattle.dc_base.specs.declared.events.Line.TheVariants as line
use Rattle.dc_base.specs.declared.events.Note.{Note}
use Rattle.dc_base.specs.declared.flights.Flight.{Flight}
use Rattle.dc_base.specs.declared.flights.Flight.TheVariants as flight
use Rattle.dc_base.specs.declared.nodes.LinkId.{LinkId}
use Rattle.dc_base.specs.declared.nodes.Node.TheVariants.{A, B, M, T}
use Rattle.pdcp_pdu.specs.DataPdu.{is_data}
use Rattle.transcript.specs.Content.{on_link, place_taken, put_on, without_taken}
use Rattle.transcript.specs.Transcript.{sends}
use Rattle.transcript.proofs.OnEach.{each_append, each_at, each_remove, each_weaker}
use Rattle.claims.specs.Claim.{Each, EachLine, of_lines}
use Rattle.claims.specs.Judged.{judged}
use Rattle.claims.specs.Names as claims
use Rattle.claims.specs.Names.{claim}
use Rattle.claims.specs.Noted.{after, noted, past_from}
use Rattle.claims.specs.OneUse.{is_one_use, uses_once}
use Rattle.claims.specs.Packets.{packet_of}
use Rattle.claims.specs.Past.{Past, new_past}
use Rattle.claims.specs.Reading.{bearer_of, setting}
use Rattle.claims.specs.Sameness.{is_none_or, is_some_and}
use Rattle.claims.specs.Views.{Pdu, if_data, pdu_in}
use Rattle.master_runs.proofs.Contents.{flights_next}
use Rattle.master_runs.proofs.Moving.{none_there, same_link}
use Rattle.node_rules.specs.Choices.{Choices, Send}
use Rattle.node_rules.specs.CommandTable.{Table}
use Rattle.node_rules.specs.Lines.{lines_of}
use Rattle.node_rules.specs.Flights.{weight}
use Rattle.node_rules.specs.Readers.{is_aged_for}
use Rattle.node_rules.specs.Run.{Happening, carried_on, copy_of, entries_from, given_to, happening, loss_of, node_at, on_links, refused_for, step_of, world_step}
use Rattle.node_rules.specs.World.{World, flights_on, new_world}
use Rattle.node_rules.specs.declared.inputs.Input.TheVariants.{Cmd, Come}
use Rattle.run_control.specs.Sound.{AddsSecond}
use Rattle.run_table.specs.View.{View, view}
use Rattle.run_table.proofs.Views.{all_noted_view}
use Rattle.run_uplinks.specs.Readings.{reading}
use Rattle.run_uplinks.specs.Seen as up
use Rattle.run_words.specs.Parts.{at_lines}
use Rattle.run_words.proofs.Lines.{each_line_of}
use Rattle.run_windows.specs.Seen.{seen}
use Rattle.run_senders.specs.Kinds.{MayBeOn, MayStand, is_of_terminal}
use Rattle.run_senders.specs.Lines.{IsCopyBy, IsOwnLine}
use Rattle.run_senders.proofs.Lines.{copy_is, event_copies, own_lines}
use Rattle.run_senders.proofs.Standing.{event_may}
use Rattle.run_senders.proofs.TerminalKinds.{terminal_kinds}
use Rattle.run_relays.specs.Kept.{AreSmall}
use Rattle.run_relays.specs.Lines.{is_uplink_line}
use Rattle.run_relays.specs.Ranges.{NamesIdentity}
use Rattle.run_relays.specs.Relays.{ArePlain, AreSentFor, IsOther, IsPlain, PassesOn}
use Rattle.run_relays.proofs.Keeping.{small_before}
use Rattle.run_relays.proofs.Pasts.{IsRead, judged_becomes, lines_become, noted_becomes}
use Rattle.run_relays.proofs.Runs.{run_becomes}
use Rattle.run_relays.proofs.Small.{small_always}
use Rattle.run_relays.proofs.Steps.{AnyHost, AreSentIn, any_hosts, carried_sends}
use Rattle.run_relays.proofs.Views.{other_numbered, up_is_viewed}
use Rattle.run_keys.specs.Halves.{AreSentOf}
use Rattle.run_keys.specs.InUse.{IsInUse}
use Rattle.run_keys.specs.Keyed.{IsKeyed}
use Rattle.run_keys.specs.Names.{est}
use Rattle.run_keys.specs.Relays.{HoldsRelays, IsUpInUse, RelaysInUse}
use Rattle.run_keys.proofs.Halves.{terminal_fares}
use Rattle.run_keys.proofs.Lasting.{lines_uses, use_after, use_judged, use_noted}
use Rattle.run_keys.proofs.Unused.{Within}
use Rattle.run_keys.proofs.Uses.{Fit, LineUses, event_fit, holds_uses_new, holds_uses_next, lines_use, once_so, uses_judged, uses_noted}
use Rattle.run_keys.proofs.Worlds.{holds_keys_next}

-- ---- what is in use stays so

-- a growth of pasts that keeps it
abbrev Stays : Past → Past → Type 0
Stays p q = (id g : ℕ) → IsInUse p id g → IsInUse q id g

up_stays : (p q : Past) → Stays p q → (l : LinkId) (f : Flight) → IsUpInUse p l f → IsUpInUse q l f
up_stays p q stay l (flight.Air id g num tag pdu) is = λ away. stay id g (is away)
up_stays p q stay l (flight.Tun tag packet) (inl other) = inl other
up_stays p q stay l (flight.Tun tag packet) (inr x) = inr (record { id = x.id; g = x.g; pdu = x.pdu; is = x.is; in_use = stay x.id x.g x.in_use })
up_stays p q stay l (flight.Ack id g num) is = tt
up_stays p q stay l (flight.Sdu id g sdu) is = tt
up_stays p q stay l (flight.End id g) is = tt
up_stays p q stay l (flight.Told id g count) is = tt
up_stays p q stay l (flight.Ctl r) is = tt

-- a line sends such a flight
abbrev LineUp : Past → Line → Type 0
LineUp p (line.Send l f) = IsUpInUse p l f
LineUp p (line.Note n) = ⊤
LineUp p (line.Event e) = ⊤
LineUp p (line.Answer a) = ⊤

line_stays : (p q : Past) → Stays p q → (x : Line) → LineUp p x → LineUp q x
line_stays p q stay (line.Send l f) is = up_stays p q stay l f is
line_stays p q stay (line.Note n) is = tt
line_stays p q stay (line.Event e) is = tt
line_stays p q stay (line.Answer a) is = tt

-- ---- sends

any_notes : (p : Past) (ns : List Note) → AllByRecursion (λ n. LineUp p (line.Note n)) ns
any_notes p [] = tt
any_notes p (n ∷ ns) = (tt, any_notes p ns)

terminal_up : (p : Past) (ss : List Send) → AreSentOf (IsInUse p) ss → AllByRecursion (λ (s : Send). is_of_terminal s.0 s.1 ≡ true) ss → AllByRecursion (λ (s : Send). IsUpInUse p s.0 s.1) ss
terminal_up p [] all kinds = tt
terminal_up p ((l, flight.Air id g num tag pdu) ∷ ss) all kinds = (λ away. all.0, terminal_up p ss all.1 kinds.1)
terminal_up p ((l, flight.Ack id g num) ∷ ss) all kinds = (tt, terminal_up p ss all.1 kinds.1)
terminal_up p ((l, flight.Tun tag packet) ∷ ss) all kinds = absurd (let bad : false ≡ true = kinds.0 in cc)
terminal_up p ((l, flight.Sdu id g sdu) ∷ ss) all kinds = (tt, terminal_up p ss all.1 kinds.1)
terminal_up p ((l, flight.End id g) ∷ ss) all kinds = (tt, terminal_up p ss all.1 kinds.1)
terminal_up p ((l, flight.Told id g count) ∷ ss) all kinds = (tt, terminal_up p ss all.1 kinds.1)
terminal_up p ((l, flight.Ctl r) ∷ ss) all kinds = (tt, terminal_up p ss all.1 kinds.1)

plain_up : (p : Past) (l : LinkId) (f : Flight) → IsPlain (l, f) → IsUpInUse p l f
plain_up p l (flight.Air id g num tag pdu) plain = λ away. absurd (let bad : true ≡ false = sym (ap (λ y. is_same_node y T) plain) ∙ away in cc)
plain_up p l (flight.Tun tag packet) plain = inl plain
plain_up p l (flight.Ack id g num) plain = tt
plain_up p l (flight.Sdu id g sdu) plain = tt
plain_up p l (flight.End id g) plain = tt
plain_up p l (flight.Told id g count) plain = tt
plain_up p l (flight.Ctl r) plain = tt

all_plain : (p : Past) (ss : List Send) → ArePlain ss → AllByRecursion (λ (s : Send). IsUpInUse p s.0 s.1) ss
all_plain p [] plain = tt
all_plain p (s ∷ ss) plain = (plain_up p s.0 s.1 plain.0, all_plain p ss plain.1)

passed_up : (p : Past) (k : LinkId) (f : Flight) (s : Send) → IsUpInUse p k f → is_same_node k.to T ≡ false → PassesOn AnyHost f s → IsUpInUse p s.0 s.1
passed_up p k f s on away x =
    let here : IsUpInUse p k (flight.Air x.id x.g x.num x.tag x.pdu) = subst (IsUpInUse p k) x.is on in
    subst (IsUpInUse p s.0) (sym x.relays) (inr (record { id = x.id; g = x.g; pdu = x.pdu; is = refl; in_use = here away }))

all_sent : (p : Past) (k : LinkId) (f : Flight) (ss : List Send) → IsUpInUse p k f → is_same_node k.to T ≡ false → AreSentFor AnyHost f ss → AllByRecursion (λ (s : Send). IsUpInUse p s.0 s.1) ss
all_sent p k f [] on away sent = tt
all_sent p k f (s ∷ ss) on away sent = (elim sent.0 [ inl plain ↦ plain_up p s.0 s.1 plain | inr passes ↦ passed_up p k f s on away passes ], all_sent p k f ss on away sent.1)

-- ---- an event

module _ (c : Choices) (w : World) (p : Past) (is : HoldsRelays p w) where
  -- what another node than the terminal takes is such a flight, on a link to it
  abbrev GivenUp : Happening → Type 0
  GivenUp (given_to x (Come l f)) = (l.to ≡ x) × IsUpInUse p l f
  GivenUp (given_to x (Cmd e)) = ⊤
  GivenUp (refused_for why) = ⊤
  GivenUp (on_links effects) = ⊤

  stepped_up : (l : LinkId) (i : ℕ) (o : Option Flight) → slice_get (flights_on l w.links) i ≡ o → GivenUp (step_of w l i o)
  stepped_up l i None at = tt
  stepped_up l i (Some f) at =
      elim (cases_Bool (is_ordered l.class && nat_lt 0 i)) [
        | inl behind ↦ rw behind tt
        | inr first ↦ elim (cases_Bool (is_aged_for (node_at w l.to) (weight f))) [
          | inl aged ↦ rw (first, aged) tt
          | inr fresh ↦ rw (first, fresh) (refl, each_at (IsUpInUse p l) (flights_on l w.links) i f (is.up l) at)
        ]
      ]

  lost_up : (in_it : Bool) (o : Option Flight) → GivenUp (if in_it then loss_of o else refused_for refusal.NotTunnel)
  lost_up false o = tt
  lost_up true None = tt
  lost_up true (Some f) = tt

  copied_up : (l : LinkId) (in_it : Bool) (o : Option Flight) → GivenUp (if in_it then copy_of l o else refused_for refusal.NotTunnel)
  copied_up l false o = tt
  copied_up l true None = tt
  copied_up l true (Some f) = tt

  event_given_up : (e : Event) → GivenUp (happening w e)
  event_given_up (event.Bearer id n first shape threshold policy) = tt
  event_given_up (event.Reshape id shape) = tt
  event_given_up (event.Remove id) = tt
  event_given_up (event.Add x) = tt
  event_given_up event.Change = tt
  event_given_up event.Release = tt
  event_given_up event.RekeySecond = tt
  event_given_up (event.RekeyMaster root) = tt
  event_given_up (event.Recover id) = tt
  event_given_up (event.Report x id) = tt
  event_given_up (event.Deny x on) = tt
  event_given_up (event.Ask x what) = tt
  event_given_up event.ScgFail = tt
  event_given_up (event.Submit id d payload) = tt
  event_given_up (event.Step l i) = stepped_up l i (slice_get (flights_on l w.links) i) refl
  event_given_up (event.Lose l i) = lost_up (is_tunnel l.class) (slice_get (flights_on l w.links) i)
  event_given_up (event.Again l i) = copied_up l (is_tunnel l.class) (slice_get (flights_on l w.links) i)

  lines_up : (e : Event) (h : Happening) → Fit c w p is.uses h → GivenUp h → AreSentIn AnyHost h (carried_on c w h).1.sends → AllByRecursion (IsOwnLine w e h) (lines_of (carried_on c w h).1)
      → AllByRecursion (LineUp p) (lines_of (carried_on c w h).1)
  lines_up e (given_to T i) fit given sent own =
      let o = (carried_on c w (given_to T i)).1 in
      each_line_of (LineUp p) o (any_notes p o.notes) (terminal_up p o.sends (terminal_fares (IsInUse p) c w.terminal i fit is.uses.halves).1 (terminal_kinds c w.terminal i))
  lines_up e (given_to M (Come l f)) fit given sent own =
      let o = (carried_on c w (given_to M (Come l f))).1 in
      each_line_of (LineUp p) o (any_notes p o.notes) (all_sent p l f o.sends given.1 (ap (λ y. is_same_node y T) given.0) sent)
  lines_up e (given_to M (Cmd k)) fit given sent own =
      let o = (carried_on c w (given_to M (Cmd k))).1 in each_line_of (LineUp p) o (any_notes p o.notes) (all_plain p o.sends sent)
  lines_up e (given_to A (Come l f)) fit given sent own =
      let o = (carried_on c w (given_to A (Come l f))).1 in
      each_line_of (LineUp p) o (any_notes p o.notes) (all_sent p l f o.sends given.1 (ap (λ y. is_same_node y T) given.0) sent)
  lines_up e (given_to A (Cmd k)) fit given sent own =
      let o = (carried_on c w (given_to A (Cmd k))).1 in each_line_of (LineUp p) o (any_notes p o.notes) (all_plain p o.sends sent)
  lines_up e (given_to B (Come l f)) fit given sent own =
      let o = (carried_on c w (given_to B (Come l f))).1 in
      each_line_of (LineUp p) o (any_notes p o.notes) (all_sent p l f o.sends given.1 (ap (λ y. is_same_node y T) given.0) sent)
  lines_up e (given_to B (Cmd k)) fit given sent own =
      let o = (carried_on c w (given_to B (Cmd k))).1 in each_line_of (LineUp p) o (any_notes p o.notes) (all_plain p o.sends sent)
  lines_up e (refused_for why) fit given sent own = tt
  lines_up e (on_links effects) fit given sent own =
      each_weaker (IsCopyBy w e) (LineUp p)
      (λ k copy. copy_is (LineUp p) w e k (λ l i m f same tunnel at. subst (λ y. IsUpInUse p y f) (sym same) (each_at (IsUpInUse p l) (flights_on l w.links) i f (is.up l) at)) copy)
      (lines_of (carried_on c w (on_links effects)).1) own

  event_up : (e : Event) → AllByRecursion (LineUp p) (world_step c w e).1.lines
  event_up e =
      lines_up e (happening w e) (event_fit c w p is.uses e) (event_given_up e) (carried_sends AnyHost c w (happening w e) (any_hosts w) is.uses.plans.relays.any)
      (own_lines c w e (happening w e) is.uses.plans.relays.right.there (event_copies w e))

-- ---- what stands after it

sends_up : (p : Past) (xs : List Line) → AllByRecursion (LineUp p) xs → AllByRecursion (λ (s : LinkId × Flight). IsUpInUse p s.0 s.1) (sends xs)
sends_up p [] all = tt
sends_up p (line.Send l f ∷ xs) all = (all.0, sends_up p xs all.1)
sends_up p (line.Note n ∷ xs) all = sends_up p xs all.1
sends_up p (line.Event e ∷ xs) all = sends_up p xs all.1
sends_up p (line.Answer a ∷ xs) all = sends_up p xs all.1

puts_up : (p : Past) (l : LinkId) (ss : List (LinkId × Flight)) → AllByRecursion (λ (s : LinkId × Flight). IsUpInUse p s.0 s.1) ss → AllByRecursion (IsUpInUse p l) (flat_map (on_link l) ss)
puts_up p l [] all = tt
puts_up p l (s ∷ ss) all =
    elim (cases_Bool (is_same_link l s.0)) [
      | inl here ↦ rw here (subst (λ k. IsUpInUse p k s.1) (sym (same_link l s.0 here)) all.0, puts_up p l ss all.1)
      | inr there ↦ rw there (puts_up p l ss all.1)
    ]

left_up : (p : Past) (l : LinkId) (place : Option (LinkId × ℕ)) (fs : List Flight) → AllByRecursion (IsUpInUse p l) fs → AllByRecursion (IsUpInUse p l) (without_taken l place fs)
left_up p l None fs all = all
left_up p l (Some place) fs all = elim (cases_Bool (is_same_link l place.0)) [ inl here ↦ rw here (each_remove (IsUpInUse p l) fs place.1 all) | inr there ↦ rw there all ]

holds_relays_next : (c : Choices) (w : World) (p : Past) (e : Event) → AddsSecond e → HoldsRelays p w → HoldsRelays (after p (world_step c w e).1) (world_step c w e).0
holds_relays_next c w p e adds is =
    let x = (world_step c w e).1 in
    let p' = after p x in
    let stay : Stays p p' = λ id g has. use_after p x id g is.uses.plans.relays.read has in
    let lines = each_weaker (LineUp p) (LineUp p') (line_stays p p' stay) x.lines (event_up c w p is e) in
    record {
      uses = holds_uses_next c w p is.uses e adds;
      up = λ l. subst (AllByRecursion (IsUpInUse p' l)) (sym (flights_next c w e l is.uses.plans.relays.right.long))
          (each_append (IsUpInUse p' l) (without_taken l (place_taken e x.answer) (flights_on l w.links)) (put_on l x.lines)
          (left_up p' l (place_taken e x.answer) (flights_on l w.links) (each_weaker (IsUpInUse p l) (IsUpInUse p' l) (up_stays p p' stay l) (flights_on l w.links) (is.up l)))
          (puts_up p' l (sends x.lines) (sends_up p' x.lines lines)));
    }

-- ---- lines

-- the claim on keys, of lines that send an uplink PDU
abbrev uplink_uses : Past → Line → Bool
uplink_uses p x = if is_uplink_line x then is_one_use p x else true

air_once : (p : Past) (l : LinkId) (id g num : ℕ) (tag : Option ℕ) (pdu : List ℕ) → (is_same_node l.from T ≡ true → uses_once p (setting p id g) (bearer_of p id g) ≡ true) → uplink_uses p (line.Send l (flight.Air id g num tag pdu)) ≡ true
air_once p l id g num tag pdu once =
    elim (cases_Bool (is_same_node l.from T)) [
      | inl from ↦ elim (cases_Bool (is_data pdu)) [ inl data' ↦ rw from (rw data' (rw (once from) refl)) | inr control ↦ rw from (rw control refl) ]
      | inr away ↦ rw away refl
    ]

-- the test by the PDU that a packet has
abbrev by_pdu : Past → LinkId → Option Pdu → Bool
by_pdu p l o =
    if is_some_and (λ (u : Pdu). is_same_node l.from T || is_none u.num) o then is_none_or (λ (u : Pdu). uses_once p (setting p u.id u.g) (bearer_of p u.id u.g)) (if_data o) && true else true

relayed_once : (p : Past) (l : LinkId) (tag : Option ℕ) (id g : ℕ) (pdu : List ℕ) → uses_once p (setting p id g) (bearer_of p id g) ≡ true
    → by_pdu p l (Some (record { id = id; g = g; num = None; is_repeat = false; tag = tag; octets = pdu })) ≡ true
relayed_once p l tag id g pdu once =
    elim (cases_Bool (is_same_node l.from T)) [
      | inl from ↦ elim (cases_Bool (is_data pdu)) [ inl data' ↦ rw from (rw data' (rw once refl)) | inr control ↦ rw from (rw control refl) ]
      | inr away ↦ elim (cases_Bool (is_data pdu)) [ inl data' ↦ rw away (rw data' (rw once refl)) | inr control ↦ rw away (rw control refl) ]
    ]

none_up : (l : LinkId) (o : Option Pdu) → is_same_node l.from T ≡ false → is_some_and (λ (v : Pdu). is_none v.num) o ≡ false → is_some_and (λ (u : Pdu). is_same_node l.from T || is_none u.num) o ≡ false
none_up l None other none = refl
none_up l (Some v) other none = rw (other, none) refl

if_no : (b x : Bool) → b ≡ false → (if b then x else true) ≡ true
if_no false x is = refl
if_no true x is = absurd (let bad : true ≡ false = is in cc)

tunnel_away : (l : LinkId) (tag : Option ℕ) (packet : List ℕ) → MayBeOn l (flight.Tun tag packet) → is_same_node l.from T ≡ false
tunnel_away l tag packet may =
    elim (cases_Bool (is_same_node l.from T)) [ inl from ↦ absurd (let bad : false ≡ true = may.terminal from in cc) | inr away ↦ away ]

module _ (E : ℕ → Option ℕ) (t : Table) (keyed : IsKeyed E t) where
  tunnel_once : (p : Past) (l : LinkId) (tag : Option ℕ) (packet : List ℕ) → AreSmall (reading (up.seen p)) → Within p.table.uses t.book.claims → MayBeOn l (flight.Tun tag packet)
      → IsOther packet ⊎ RelaysInUse p packet → by_pdu p l (pdu_in tag (packet_of packet)) ≡ true
  tunnel_once p l tag packet small within may (inl other) =
      if_no (is_some_and (λ (u : Pdu). is_same_node l.from T || is_none u.num) (pdu_in tag (packet_of packet))) _
      (none_up l (pdu_in tag (packet_of packet)) (tunnel_away l tag packet may) (other_numbered tag packet other))
  tunnel_once p l tag packet small within may (inr x) =
      let in_range = small x.id x.g x.in_use.set x.in_use.at in
      let viewed = up_is_viewed x.g x.id x.pdu in_range.0 in_range.1 in_range.2 in
      ap (λ k. by_pdu p l (pdu_in tag (packet_of k))) x.is ∙ ap (λ o. by_pdu p l (pdu_in tag o)) viewed
      ∙ relayed_once p l tag x.id x.g x.pdu (once_so E t keyed p x.id x.g within x.in_use)

  line_once : (p : Past) (x : Line) → AreSmall (reading (up.seen p)) → Within p.table.uses t.book.claims → MayStand x → LineUp p x → LineUses p x → uplink_uses p x ≡ true
  line_once p (line.Send l (flight.Air id g num tag pdu)) small within may on from = air_once p l id g num tag pdu (λ is. once_so E t keyed p id g within (from is))
  line_once p (line.Send l (flight.Tun tag packet)) small within may on from = tunnel_once p l tag packet small within may on
  line_once p (line.Send l (flight.Ack id g num)) small within may on from = refl
  line_once p (line.Send l (flight.Sdu id g sdu)) small within may on from = refl
  line_once p (line.Send l (flight.End id g)) small within may on from = refl
  line_once p (line.Send l (flight.Told id g count)) small within may on from = refl
  line_once p (line.Send l (flight.Ctl r)) small within may on from = refl
  line_once p (line.Note n) small within may on from = refl
  line_once p (line.Event e) small within may on from = refl
  line_once p (line.Answer a) small within may on from = refl

  -- a line with all of it
  abbrev LineReady : Past → Line → Type 0
  LineReady p x = MayStand x × (LineUp p x × LineUses p x)

  lines_once : (xs : List Line) (p : Past) → IsRead p → AreSmall (reading (up.seen (fold noted p xs))) → AllByRecursion (LineReady p) xs → Within (fold noted p xs).table.uses t.book.claims → EachLine uplink_uses p xs
  lines_once [] p read small all within = tt
  lines_once (x ∷ xs) p read small all within =
      let next = noted_becomes p x read in
      let small_now = small_before (reading (up.seen p)) (reading (up.seen (fold noted (noted p x) xs))) (lines_become (x ∷ xs) p read).grows small in
      let here : Within p.table.uses t.book.claims =
      λ f used. within f (ap (λ (v : View). list_any (λ u. f u.id u.key u.bearer) v.table.uses) (all_noted_view (x ∷ xs) p) ∙ lines_uses (λ u. f u.id u.key u.bearer) (x ∷ xs) (view p) used) in
      let stay : Stays p (noted p x) = λ id g has. use_noted p x id g read has in (
        line_once p x small_now here all.0.0 all.0.1.0 all.0.1.1,
        lines_once xs (noted p x) next.is small
            (each_weaker (LineReady p) (LineReady (noted p x)) (λ y it. (it.0, (line_stays p (noted p x) stay y it.1.0, uses_noted E t keyed p x read y it.1.1))) xs all.1) within,
      )

-- ---- a run

both : {X : Type 0} (P Q : X → Type 0) (xs : List X) → AllByRecursion P xs → AllByRecursion Q xs → AllByRecursion (λ x. P x × Q x) xs
both P Q [] p q = tt
both P Q (x ∷ xs) p q = ((p.0, q.0), both P Q xs p.1 q.1)

module _ (c : Choices) where
  event_once : (w : World) (p : Past) (e : Event) → AddsSecond e → HoldsRelays p w → AreSmall (reading (up.seen (after p (world_step c w e).1))) → let x = (world_step c w e).1 in EachLine uplink_uses (judged x.event x.answer p) x.lines
  event_once w p e adds is small =
      let x = (world_step c w e).1 in
      let q = judged e x.answer p in
      let read = is.uses.plans.relays.read in
      let next = holds_keys_next c w p is.uses.keys e adds in
      let t = (world_step c w e).0.master.proc.table in
      let stay : Stays p q = λ id g has. use_judged e x.answer p id g read has in
      let uses = lines_use c w p is.uses e (happening w e) (event_fit c w p is.uses e) (own_lines c w e (happening w e) is.uses.plans.relays.right.there (event_copies w e)) in
      let all = both MayStand (λ y. LineUp q y × LineUses q y) x.lines (event_may c w e is.uses.plans.relays.right)
      (both (LineUp q) (LineUses q) x.lines (each_weaker (LineUp p) (LineUp q) (line_stays p q stay) x.lines (event_up c w p is e)) (each_weaker (LineUses p) (LineUses q) (uses_judged e x.answer p read) x.lines uses)) in
      let within : Within (fold noted q x.lines).table.uses t.book.claims = λ f used. sym (next.lasts.agree.same.rest.uses f) ∙ used in
      lines_once (est (seen (after p x))) t next.keys.table x.lines q (judged_becomes e x.answer p read).is small all within

  once_on : (es : List Event) → AllByRecursion AddsSecond es → (w : World) (p : Past) → HoldsRelays p w → AreSmall (reading (up.seen (past_from p (entries_from c w es)))) → Each (of_lines uplink_uses) p (entries_from c w es)
  once_on [] adds w p is small = tt
  once_on (e ∷ es) adds w p is small =
      let x = (world_step c w e).1 in
      let v = (world_step c w e).0 in
      let next = holds_relays_next c w p e adds.0 is in
      let more = run_becomes c es v (after p x) next.uses.plans.relays.read in
      let small_now = small_before (reading (up.seen (after p x))) (reading (up.seen (past_from (after p x) (entries_from c v es)))) more.grows small in
      (event_once w p e adds.0 is small_now, refl, once_on es adds.1 v (after p x) next small)

-- at the start
holds_relays_new : (c : Choices) (h : Header) (policies : ℕ) → HoldsRelays (new_past h policies) (new_world h)
holds_relays_new c h policies = record {
  uses = holds_uses_new c h policies;
  up = λ l. subst (AllByRecursion (IsUpInUse (new_past h policies) l)) (sym (none_there 64 (link_number l) [])) tt;
}

-- after fewer than 2^23 events of which each addition is of a secondary node and each bearer has an identity of 1 to 32: the key of each
-- uplink data PDU that a line sends is in use for the establishment that it is of, and for no other
pub uplink_uses_once : (c : Choices) (h : Header) (policies : ℕ) (es : List Event) → AllByRecursion AddsSecond es → AllByRecursion NamesIdentity es → length es < 2 ^ 23
    → Each (at_lines is_uplink_line (claim claims.one_use)) (new_past h policies) (entries_from c (new_world h) es)
uplink_uses_once c h policies es adds names few = once_on c es adds (new_world h) (new_past h policies) (holds_relays_new c h policies) (small_always c h policies es adds names few)
