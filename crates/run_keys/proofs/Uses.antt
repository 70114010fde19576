-- In each run the key of each data PDU that the terminal sends is in use for its establishment, and for no other.
use Rattle.std.proofs.Common.{ℕ, ◌≡◌, ◌==◌, ◌&&◌, ◌≤◌, ◌||◌, Bool, true, false, List, [], ◌∷◌, Option, Some, None, refl, sym, ap, ap₂, subst, ◌∙◌, inl, inr, arith}
use Rattle.std.specs.Prelude.{find, flat_map, fold, if◌then◌else◌, length, map, nat_le, nat_lt, option_map, slice_get, ⊤}
use Rattle.std.specs.List.{AllByRecursion, list_any}
use Rattle.std.specs.Option.{option_and_then}
use Rattle.std.proofs.lemmas.Bool.{cases_Bool, eqb-true}
use Rattle.std.proofs.lemmas.Bool.Decides.{nat_tests}
use Rattle.dc_base.specs.Links.{is_ordered, is_same_link, is_tunnel, link_number}
use Rattle.dc_base.specs.Nodes.{is_same_node}
use Rattle.dc_base.specs.declared.answers.Answer.{Answer}
use Rattle.dc_base.specs.declared.answers.Refusal.TheVariants as refusal
use Rattle.dc_base.specs.declared.events.Event.{Event}
use Rattle.dc_base.specs.declared.events.Event.TheVariants as event
use Rattle.dc_base.specs.declared.events.Header.{Header}
use Rattle.dc_base.specs.declared.events.Line.{Line}
use Rattle.dc_base.specs.declared.events.Line.TheVariants as line
use Rattle.dc_base.specs.declared.events.Note.{Note}
use Rattle.dc_base.specs.declared.flights.Flight.{Flight}
use Rattle.dc_base.specs.declared.flights.Flight.TheVariants as flight
use Rattle.dc_base.specs.declared.nodes.KeyName.{KeyName}
use Rattle.dc_base.specs.declared.nodes.LinkId.{LinkId}
use Rattle.dc_base.specs.declared.nodes.Node.{Node}
use Rattle.dc_base.specs.declared.nodes.Node.TheVariants.{A, B, M, T}
use Rattle.dc_base.specs.declared.records.Item.{Item}
use Rattle.dc_base.specs.declared.records.Item.TheVariants.{Set, Unset}
use Rattle.dc_base.specs.declared.records.Plan.{Plan}
use Rattle.dc_base.specs.declared.records.Rec.{Rec}
use Rattle.dc_base.specs.declared.records.Rec.TheVariants as rec
use Rattle.key_chain.specs.Book.{Claim, is_claimed, is_same_claim, is_spent}
use Rattle.pdcp_pdu.specs.DataPdu.{is_data}
use Rattle.transcript.specs.Content.{on_link, place_taken, put_on, without_taken}
use Rattle.transcript.specs.Transcript.{Entry, sends}
use Rattle.transcript.proofs.OnEach.{each_append, each_at, each_remove, each_weaker}
use Rattle.claims.specs.Claim.{Each, EachLine, of_lines}
use Rattle.claims.specs.Judged.{judged}
use Rattle.claims.specs.Names as claims
use Rattle.claims.specs.Names.{claim}
use Rattle.claims.specs.Noted.{after, noted}
use Rattle.claims.specs.OneUse.{is_one_use, is_used_by, uses_of, uses_once}
use Rattle.claims.specs.Past.{Bearer, Past, new_past}
use Rattle.claims.specs.Reading.{bearer_of, named, setting, setting_of, sets}
use Rattle.claims.specs.Sameness.{is_same_key}
use Rattle.claims.specs.Table.{Claimed}
use Rattle.claims.specs.Views.{carried_plan}
use Rattle.master_runs.proofs.Contents.{flights_next}
use Rattle.master_runs.proofs.Moving.{none_there}
use Rattle.node_rules.specs.Choices.{Choices, Send}
use Rattle.node_rules.specs.CommandTable.{Table}
use Rattle.node_rules.specs.Lines.{lines_of}
use Rattle.node_rules.specs.Flights.{weight}
use Rattle.node_rules.specs.Readers.{is_aged_for}
use Rattle.node_rules.specs.Run.{Happening, carried_on, copy_of, entries_from, given_to, happening, loss_of, node_at, on_links, refused_for, step_of, submitter, world_step}
use Rattle.node_rules.specs.TerminalHalf.{TerminalHalf}
use Rattle.node_rules.specs.World.{World, flights_on, new_world}
use Rattle.node_rules.specs.declared.inputs.Input.TheVariants.{Cmd, Come}
use Rattle.run_control.specs.Sound.{AddsSecond}
use Rattle.run_table.specs.SameTable.{SameUses}
use Rattle.run_table.specs.View.{View, planned, view}
use Rattle.run_table.specs.Words.{hears}
use Rattle.run_table.proofs.Views.{after_view, all_noted_view, hears_answer}
use Rattle.run_words.specs.Parts.{at_lines}
use Rattle.run_words.proofs.Lines.{each_line_of}
use Rattle.run_words.proofs.Runs.{each_if}
use Rattle.run_windows.specs.Seen.{Count, Face, latest, seen, seen_of}
use Rattle.run_senders.specs.Kinds.{MayBeOn}
use Rattle.run_senders.specs.Lines.{IsCopyBy, IsLineBy, IsOwnLine}
use Rattle.run_senders.proofs.Lines.{copy_is, event_copies, own_lines}
use Rattle.run_senders.proofs.Standing.{StandRight}
use Rattle.run_relays.proofs.Drawn.{SendBrings}
use Rattle.run_relays.proofs.MasterTurn.{ArePlansApart}
use Rattle.run_relays.proofs.Pasts.{IsRead, judged_becomes, noted_becomes}
use Rattle.run_relays.proofs.Planned.{FoundIn, each_found}
use Rattle.run_relays.proofs.Runs.{event_becomes, relays_new}
use Rattle.run_relays.proofs.SecondSets.{BringsFlight}
use Rattle.run_relays.proofs.SetEvents.{event_after}
use Rattle.run_relays.proofs.SetRuns.{planned_new}
use Rattle.run_plans.proofs.Runs.{holds_plans_next}
use Rattle.run_keys.specs.Halves.{AreSentOf, HalvesOf, SetsItem, SetsOnly}
use Rattle.run_keys.specs.InUse as inuse
use Rattle.run_keys.specs.InUse.{HoldsUses, IsFlightInUse, IsInUse, is_terminal_pdu, name_at, names, own_use}
use Rattle.run_keys.specs.Keyed.{AreSet, IsKeyed, IsKeyedRow, IsSetIn}
use Rattle.run_keys.specs.Names.{est}
use Rattle.run_keys.specs.Tables.{OfSend, OfSome}
use Rattle.run_keys.proofs.Halves.{OfInput, terminal_fares}
use Rattle.run_keys.proofs.Lasting.{lines_uses, use_after, use_judged, use_noted}
use Rattle.run_keys.proofs.Unused.{Within, all_own, each_spent, row_keyed, same_keys, spent_use}
use Rattle.run_keys.proofs.Worlds.{event_then, holds_keys_new, holds_keys_next}

-- ---- the establishment of a generation

found_named : (id g : ℕ) (n : ℕ × ℕ) (bs : List Bearer) → name_at id g (map inuse.named (map seen_of bs)) ≡ Some n → (b : Bearer) × (find (λ b. (b.id == id) && nat_le b.g g) bs ≡ Some b) × ((b.g, b.id) ≡ n)
found_named id g n [] is = absurd (let bad : None ≡ Some n = is in cc)
found_named id g n (b ∷ bs) is =
    elim (cases_Bool ((b.id == id) && nat_le b.g g)) [
      | inl here ↦ (b, rw here refl, let at : Some (inuse.named (seen_of b)) ≡ Some n = rw here at is in cc)
      | inr apart ↦ let rest = found_named id g n bs (rw apart at is) in (rest.0, rw apart rest.1, rest.2)
    ]

-- the latest is that of a generation that is not before it
name_there : (id g e : ℕ) (bs : List (Face × Count)) → option_map (λ (b : Face × Count). b.0.g) (latest id bs) ≡ Some e → e ≤ g → name_at id g (map inuse.named bs) ≡ Some (e, id)
name_there id g e [] is le = absurd (let bad : None ≡ Some e = is in cc)
name_there id g e (b ∷ bs) is le =
    elim (cases_Bool (b.0.id == id)) [
      | inl here ↦
          let name : b.0.g ≡ e = let at : Some b.0.g ≡ Some e = rw here at is in cc in
          let under : nat_le b.0.g g ≡ true = grind (arith, nat_tests, le, name) in
          rw here (rw under (ap (λ k. Some (k, b.0.id)) name ∙ ap (λ k. Some (e, k)) (eqb-true b.0.id id here)))
      | inr apart ↦ rw apart (name_there id g e bs (rw apart at is) le)
    ]

-- ---- uses

flip : (a b : ℕ) → (a == b) ≡ (b == a)
flip a b = grind (arith, nat_tests)

own_same : (id e : ℕ) (key : KeyName) (c : Claim) → own_use id key e c.id c.key c.est ≡ is_same_claim (record { id = id; key = key; est = e }) c
own_same id e key c = ap₂ (λ a b. (a && b) && (c.est == e)) (flip c.id id) (same_keys key c.key)

each_own : (id e : ℕ) (key : KeyName) (cs : List Claim) → list_any (λ c. own_use id key e c.id c.key c.est) cs ≡ is_claimed cs (record { id = id; key = key; est = e })
each_own id e key [] = refl
each_own id e key (c ∷ cs) = ap₂ (λ a b. a || b) (own_same id e key c) (each_own id e key cs)

some_own : (id e : ℕ) (key : KeyName) (us : List Claimed) → list_any (λ u. own_use id key e u.id u.key u.bearer) us ≡ true → nat_lt 0 (length (uses_of id key us)) ≡ true
some_own id e key [] any = absurd (let bad : false ≡ true = any in cc)
some_own id e key (u ∷ us) any =
    elim (cases_Bool ((u.id == id) && is_same_key key u.key)) [
      | inl here ↦ rw here (let more : 0 ≤ length (uses_of id key us) = omega arith in grind (arith, nat_tests, more))
      | inr apart ↦ rw apart (some_own id e key us (rw apart at any))
    ]

module _ (E : ℕ → Option ℕ) (t : Table) (is : IsKeyed E t) where
  -- a key that is in use is in use for one establishment alone
  pub once_so : (p : Past) (id g : ℕ) → Within p.table.uses t.book.claims → IsInUse p id g → uses_once p (setting p id g) (bearer_of p id g) ≡ true
  once_so p id g within has =
      let key = has.set.key in
      let e = has.est in
      let us = p.table.uses in
      let found = found_named id g (e, id) p.bearers has.named in
      let b = found.0 in
      let name : b.g ≡ e = ap (λ (n : ℕ × ℕ). n.0) found.2 in
      let of_id : b.id ≡ id = ap (λ (n : ℕ × ℕ). n.1) found.2 in
      let stands : is_claimed t.book.claims (record { id = id; key = key; est = e }) ≡ true = sym (each_own id e key t.book.claims) ∙ within (own_use id key e) has.used in
      let unspent : is_spent t.book.claims id e key ≡ false = is.one (record { id = id; key = key; est = e }) stands in
      let none : list_any (λ u. spent_use id key e u.id u.key u.bearer) us ≡ false = elim (cases_Bool (list_any (λ u. spent_use id key e u.id u.key u.bearer) us)) [
        | inl some' ↦ absurd (let bad : false ≡ true = sym unspent ∙ sym (each_spent id e key t.book.claims) ∙ within (spent_use id key e) some' in cc)
        | inr no' ↦ no'
      ] in
      let used : is_used_by id key e us ≡ true = rw (some_own id e key us has.used) (all_own id e key us none) in
      let at : bearer_of p id g ≡ Some b = ap (λ o. named p id g o) has.at ∙ found.1 in
      ap₂ (λ o x. uses_once p o x) has.at at ∙ ap₂ (λ i k. is_used_by i key k us) of_id name ∙ used

-- ---- lines

-- of a line from the terminal that carries a PDU
abbrev pub LineUses : Past → Line → Type 0
LineUses p (line.Send l (flight.Air id g num tag pdu)) = is_same_node l.from T ≡ true → IsInUse p id g
LineUses p (line.Send l (flight.Ack id g num)) = ⊤
LineUses p (line.Send l (flight.Tun tag packet)) = ⊤
LineUses p (line.Send l (flight.Sdu id g sdu)) = ⊤
LineUses p (line.Send l (flight.End id g)) = ⊤
LineUses p (line.Send l (flight.Told id g count)) = ⊤
LineUses p (line.Send l (flight.Ctl r)) = ⊤
LineUses p (line.Note n) = ⊤
LineUses p (line.Event e) = ⊤
LineUses p (line.Answer a) = ⊤

-- the claim on keys, of such lines
abbrev pdu_uses_once : Past → Line → Bool
pdu_uses_once p x = if is_terminal_pdu x then is_one_use p x else true

air_once : (p : Past) (l : LinkId) (id g num : ℕ) (tag : Option ℕ) (pdu : List ℕ) → (is_same_node l.from T ≡ true → uses_once p (setting p id g) (bearer_of p id g) ≡ true) → pdu_uses_once p (line.Send l (flight.Air id g num tag pdu)) ≡ true
air_once p l id g num tag pdu once =
    elim (cases_Bool (is_same_node l.from T)) [
      | inl from ↦ elim (cases_Bool (is_data pdu)) [ inl data' ↦ rw from (rw data' (rw (once from) refl)) | inr control ↦ rw from (rw control refl) ]
      | inr away ↦ rw away refl
    ]

module _ (E : ℕ → Option ℕ) (t : Table) (is : IsKeyed E t) where
  line_once : (p : Past) (x : Line) → Within p.table.uses t.book.claims → LineUses p x → pdu_uses_once p x ≡ true
  line_once p (line.Send l (flight.Air id g num tag pdu)) within has = air_once p l id g num tag pdu (λ from. once_so E t is p id g within (has from))
  line_once p (line.Send l (flight.Ack id g num)) within has = refl
  line_once p (line.Send l (flight.Tun tag packet)) within has = refl
  line_once p (line.Send l (flight.Sdu id g sdu)) within has = refl
  line_once p (line.Send l (flight.End id g)) within has = refl
  line_once p (line.Send l (flight.Told id g count)) within has = refl
  line_once p (line.Send l (flight.Ctl r)) within has = refl
  line_once p (line.Note n) within has = refl
  line_once p (line.Event e) within has = refl
  line_once p (line.Answer a) within has = refl

  pub uses_noted : (p : Past) (y : Line) → IsRead p → (x : Line) → LineUses p x → LineUses (noted p y) x
  uses_noted p y read (line.Send l (flight.Air id g num tag pdu)) has = λ from. use_noted p y id g read (has from)
  uses_noted p y read (line.Send l (flight.Ack id g num)) has = tt
  uses_noted p y read (line.Send l (flight.Tun tag packet)) has = tt
  uses_noted p y read (line.Send l (flight.Sdu id g sdu)) has = tt
  uses_noted p y read (line.Send l (flight.End id g)) has = tt
  uses_noted p y read (line.Send l (flight.Told id g count)) has = tt
  uses_noted p y read (line.Send l (flight.Ctl r)) has = tt
  uses_noted p y read (line.Note n) has = tt
  uses_noted p y read (line.Event e) has = tt
  uses_noted p y read (line.Answer a) has = tt

  lines_once : (xs : List Line) (p : Past) → IsRead p → AllByRecursion (LineUses p) xs → Within (fold noted p xs).table.uses t.book.claims → EachLine pdu_uses_once p xs
  lines_once [] p read all within = tt
  lines_once (x ∷ xs) p read all within =
      let here : Within p.table.uses t.book.claims =
      λ f used. within f (ap (λ (v : View). list_any (λ u. f u.id u.key u.bearer) v.table.uses) (all_noted_view (x ∷ xs) p) ∙ lines_uses (λ u. f u.id u.key u.bearer) (x ∷ xs) (view p) used) in (
        line_once p x here all.0,
        lines_once xs (noted p x) (noted_becomes p x read).is (each_weaker (LineUses p) (LineUses (noted p x)) (λ y has. uses_noted p x read y has) xs all.1) within,
      )

pub uses_judged : (e : Event) (a : Answer) (p : Past) → IsRead p → (x : Line) → LineUses p x → LineUses (judged e a p) x
uses_judged e a p read (line.Send l (flight.Air id g num tag pdu)) has = λ from. use_judged e a p id g read (has from)
uses_judged e a p read (line.Send l (flight.Ack id g num)) has = tt
uses_judged e a p read (line.Send l (flight.Tun tag packet)) has = tt
uses_judged e a p read (line.Send l (flight.Sdu id g sdu)) has = tt
uses_judged e a p read (line.Send l (flight.End id g)) has = tt
uses_judged e a p read (line.Send l (flight.Told id g count)) has = tt
uses_judged e a p read (line.Send l (flight.Ctl r)) has = tt
uses_judged e a p read (line.Note n) has = tt
uses_judged e a p read (line.Event e') has = tt
uses_judged e a p read (line.Answer a') has = tt

-- ---- what the terminal sends, and what others do

any_notes : (p : Past) (ns : List Note) → AllByRecursion (λ n. LineUses p (line.Note n)) ns
any_notes p [] = tt
any_notes p (n ∷ ns) = (tt, any_notes p ns)

sends_use : (p : Past) (ss : List Send) → AreSentOf (IsInUse p) ss → AllByRecursion (λ (s : Send). LineUses p (line.Send s.0 s.1)) ss
sends_use p [] all = tt
sends_use p ((l, flight.Air id g num tag pdu) ∷ ss) all = (λ from. all.0, sends_use p ss all.1)
sends_use p ((l, flight.Ack id g num) ∷ ss) all = (tt, sends_use p ss all.1)
sends_use p ((l, flight.Tun tag packet) ∷ ss) all = (tt, sends_use p ss all.1)
sends_use p ((l, flight.Sdu id g sdu) ∷ ss) all = (tt, sends_use p ss all.1)
sends_use p ((l, flight.End id g) ∷ ss) all = (tt, sends_use p ss all.1)
sends_use p ((l, flight.Told id g count) ∷ ss) all = (tt, sends_use p ss all.1)
sends_use p ((l, flight.Ctl r) ∷ ss) all = (tt, sends_use p ss all.1)

-- a line that does not come from the terminal
away_uses : (p : Past) (x : Line) → ((l : LinkId) (f : Flight) → x ≡ line.Send l f → is_same_node l.from T ≡ true → (id g num : ℕ) (tag : Option ℕ) (pdu : List ℕ) → f ≡ flight.Air id g num tag pdu → ⊥) → LineUses p x
away_uses p (line.Send l (flight.Air id g num tag pdu)) never = λ from. absurd (never l (flight.Air id g num tag pdu) refl from id g num tag pdu refl)
away_uses p (line.Send l (flight.Ack id g num)) never = tt
away_uses p (line.Send l (flight.Tun tag packet)) never = tt
away_uses p (line.Send l (flight.Sdu id g sdu)) never = tt
away_uses p (line.Send l (flight.End id g)) never = tt
away_uses p (line.Send l (flight.Told id g count)) never = tt
away_uses p (line.Send l (flight.Ctl r)) never = tt
away_uses p (line.Note n) never = tt
away_uses p (line.Event e) never = tt
away_uses p (line.Answer a) never = tt

other_by : (p : Past) (x : Node) → is_same_node x T ≡ false → (k : Line) → IsLineBy x k → LineUses p k
other_by p x other (line.Send l (flight.Air id g num tag pdu)) by =
    λ from. absurd (let bad : false ≡ true = sym other ∙ ap (λ y. is_same_node y T) (sym by.0) ∙ from in cc)
other_by p x other (line.Send l (flight.Ack id g num)) by = tt
other_by p x other (line.Send l (flight.Tun tag packet)) by = tt
other_by p x other (line.Send l (flight.Sdu id g sdu)) by = tt
other_by p x other (line.Send l (flight.End id g)) by = tt
other_by p x other (line.Send l (flight.Told id g count)) by = tt
other_by p x other (line.Send l (flight.Ctl r)) by = tt
other_by p x other (line.Note n) by = tt
other_by p x other (line.Event e) by = tt
other_by p x other (line.Answer a) by = tt

air_copy : (l : LinkId) (f : Flight) → is_tunnel l.class ≡ true → MayBeOn l f → (id g num : ℕ) (tag : Option ℕ) (pdu : List ℕ) → f ≡ flight.Air id g num tag pdu → ⊥
air_copy l f tunnel may id g num tag pdu is =
    let on : MayBeOn l (flight.Air id g num tag pdu) = subst (MayBeOn l) is may in
    let bad : false ≡ true = ap is_tunnel (sym on.class) ∙ tunnel in absurd (cc bad)

copy_uses : (p : Past) (w : World) → StandRight w → (e : Event) (k : Line) → IsCopyBy w e k → LineUses p k
copy_uses p w right e k copy =
    copy_is (LineUses p) w e k (λ l i m f same tunnel at. away_uses p (line.Send m f) (λ l' f' eq from id g num tag pdu is_air.
    air_copy l f tunnel (each_at (MayBeOn l) (flights_on l w.links) i f (right l) at) id g num tag pdu (send_flight m l' f f' eq ∙ is_air))) copy
  where
    send_flight : (m l : LinkId) (f f' : Flight) → line.Send m f ≡ line.Send l f' → f ≡ f'
    send_flight m l f f' eq = cc

-- ---- an event

-- what is taken of an order on a link
module _ (c : Choices) (w : World) (p : Past) (is : HoldsUses p w) where
  -- the terminal takes an input of which this is so
  abbrev pub Fit : Happening → Type 0
  Fit (given_to T i) = OfInput (IsInUse p) i
  Fit (given_to M i) = ⊤
  Fit (given_to A i) = ⊤
  Fit (given_to B i) = ⊤
  Fit (refused_for why) = ⊤
  Fit (on_links effects) = ⊤

  pub lines_use : (e : Event) (h : Happening) → Fit h → AllByRecursion (IsOwnLine w e h) (lines_of (carried_on c w h).1) → AllByRecursion (LineUses p) (lines_of (carried_on c w h).1)
  lines_use e (given_to T i) fit own =
      let o = (carried_on c w (given_to T i)).1 in each_line_of (LineUses p) o (any_notes p o.notes) (sends_use p o.sends (terminal_fares (IsInUse p) c w.terminal i fit is.halves).1)
  lines_use e (given_to M i) fit own = each_weaker (IsLineBy M) (LineUses p) (other_by p M refl) (lines_of (carried_on c w (given_to M i)).1) own
  lines_use e (given_to A i) fit own = each_weaker (IsLineBy A) (LineUses p) (other_by p A refl) (lines_of (carried_on c w (given_to A i)).1) own
  lines_use e (given_to B i) fit own = each_weaker (IsLineBy B) (LineUses p) (other_by p B refl) (lines_of (carried_on c w (given_to B i)).1) own
  lines_use e (refused_for why) fit own = tt
  lines_use e (on_links effects) fit own =
      each_weaker (IsCopyBy w e) (LineUses p) (copy_uses p w is.plans.relays.right.right e) (lines_of (carried_on c w (on_links effects)).1) own

  halves_then : (h : Happening) → Fit h → HalvesOf (IsInUse p) (carried_on c w h).0.terminal
  halves_then (given_to T i) fit = (terminal_fares (IsInUse p) c w.terminal i fit is.halves).0
  halves_then (given_to M i) fit = is.halves
  halves_then (given_to A i) fit = is.halves
  halves_then (given_to B i) fit = is.halves
  halves_then (refused_for why) fit = is.halves
  halves_then (on_links effects) fit = is.halves

  cmd_fit : (x : Node) (e : Event) → Fit (given_to x (Cmd e))
  cmd_fit T e = tt
  cmd_fit M e = tt
  cmd_fit A e = tt
  cmd_fit B e = tt

  come_fit : (x : Node) (l : LinkId) (f : Flight) → IsFlightInUse p f → Fit (given_to x (Come l f))
  come_fit T l f has = has
  come_fit M l f has = tt
  come_fit A l f has = tt
  come_fit B l f has = tt

  stepped_fit : (l : LinkId) (i : ℕ) (o : Option Flight) → slice_get (flights_on l w.links) i ≡ o → Fit (step_of w l i o)
  stepped_fit l i None at = tt
  stepped_fit l i (Some f) at =
      elim (cases_Bool (is_ordered l.class && nat_lt 0 i)) [
        | inl behind ↦ rw behind tt
        | inr first ↦ elim (cases_Bool (is_aged_for (node_at w l.to) (weight f))) [
          | inl aged ↦ rw (first, aged) tt
          | inr fresh ↦ rw (first, fresh) (come_fit l.to l f (each_at (IsFlightInUse p) (flights_on l w.links) i f (is.orders l) at))
        ]
      ]

  lost_fit : (in_it : Bool) (o : Option Flight) → Fit (if in_it then loss_of o else refused_for refusal.NotTunnel)
  lost_fit false o = tt
  lost_fit true None = tt
  lost_fit true (Some f) = tt

  copied_fit : (l : LinkId) (in_it : Bool) (o : Option Flight) → Fit (if in_it then copy_of l o else refused_for refusal.NotTunnel)
  copied_fit l false o = tt
  copied_fit l true None = tt
  copied_fit l true (Some f) = tt

  pub event_fit : (e : Event) → Fit (happening w e)
  event_fit (event.Bearer id n first shape threshold policy) = tt
  event_fit (event.Reshape id shape) = tt
  event_fit (event.Remove id) = tt
  event_fit (event.Add x) = tt
  event_fit event.Change = tt
  event_fit event.Release = tt
  event_fit event.RekeySecond = tt
  event_fit (event.RekeyMaster root) = tt
  event_fit (event.Recover id) = tt
  event_fit (event.Report x id) = cmd_fit x (event.Report x id)
  event_fit (event.Deny x on) = cmd_fit x (event.Deny x on)
  event_fit (event.Ask x what) = cmd_fit x (event.Ask x what)
  event_fit event.ScgFail = tt
  event_fit (event.Submit id d payload) = cmd_fit (submitter d) (event.Submit id d payload)
  event_fit (event.Step l i) = stepped_fit l i (slice_get (flights_on l w.links) i) refl
  event_fit (event.Lose l i) = lost_fit (is_tunnel l.class) (slice_get (flights_on l w.links) i)
  event_fit (event.Again l i) = copied_fit l (is_tunnel l.class) (slice_get (flights_on l w.links) i)

  event_uses_once : (e : Event) → AddsSecond e → let x = (world_step c w e).1 in EachLine pdu_uses_once (judged x.event x.answer p) x.lines
  event_uses_once e adds =
      let x = (world_step c w e).1 in
      let next = holds_keys_next c w p is.keys e adds in
      let t = (world_step c w e).0.master.proc.table in
      let read = is.plans.relays.read in
      let lines = lines_use e (happening w e) (event_fit e) (own_lines c w e (happening w e) is.plans.relays.right.there (event_copies w e)) in
      let within : Within (fold noted (judged e x.answer p) x.lines).table.uses t.book.claims = λ f used. sym (next.lasts.agree.same.rest.uses f) ∙ used in
      lines_once (est (seen (after p x))) t next.keys.table x.lines (judged e x.answer p) (judged_becomes e x.answer p read).is
      (each_weaker (LineUses p) (LineUses (judged e x.answer p)) (uses_judged e x.answer p read) x.lines lines) within

-- ---- what is so after it

found_upto : (last g : ℕ) (plans : List Plan) (q : Plan) → AllByRecursion (λ (q : Plan). q.g ≤ last) plans → planned plans g ≡ Some q → g ≤ last
found_upto last g [] q all is = absurd (let bad : None ≡ Some q = is in cc)
found_upto last g (x ∷ plans) q all is =
    elim (cases_Bool (x.g == g)) [
      | inl here ↦ subst (λ k. k ≤ last) (eqb-true x.g g here) all.0
      | inr apart ↦ found_upto last g plans q all.1 (rw apart at is)
    ]

-- an item of a plan that was drawn, of which the table has what it sets
module _ (p : Past) (t : Table) (is : IsKeyed (est (seen p)) t) (uses : SameUses p.table.uses t.book.claims) (read : IsRead p) (q : Plan) (drawn : planned p.plans q.g ≡ Some q) where
  item_in_use : (i : Item) → IsSetIn t q.g i → FoundIn q.items i → SetsItem (IsInUse p) q.g i
  item_in_use (Unset id) set found = tt
  item_in_use (Set id n first shape threshold policy key old) set found =
      let r = set.0 in
      let it = row_keyed (IsKeyedRow (est (seen p)) t.book t.last) id t.rows r is.rows set.1 in
      let name : est (seen p) id ≡ Some r.est = ap (est (seen p)) (sym it.1) ∙ it.0.latest in
      let f : ℕ → KeyName → ℕ → Bool = own_use id key r.est in
      let stands : is_claimed t.book.claims (record { id = id; key = key; est = r.est }) ≡ true =
      ap₂ (λ i k. is_claimed t.book.claims (record { id = i; key = k; est = r.est })) (sym it.1) (sym set.2) ∙ it.0.claimed in
      record {
        set = record { sec = q.sec; shape = shape; key = key; old = old };
        at = ap (λ o. option_and_then (λ (q : Plan). setting_of q.sec (find (sets id) q.items)) o) drawn ∙ ap (λ o. setting_of q.sec o) found;
        est = r.est;
        named = name_there id q.g r.est (seen p).bearers name set.3;
        used = uses f ∙ each_own id r.est key t.book.claims ∙ stands;
        upto = found_upto p.table.last q.g p.plans q read.well.plans drawn;
      }

  pub items_in_use : (is' : List Item) → AllByRecursion (IsSetIn t q.g) is' → AllByRecursion (FoundIn q.items) is' → AllByRecursion (SetsItem (IsInUse p) q.g) is'
  items_in_use [] set found = tt
  items_in_use (i ∷ is') set found = (item_in_use i set.0 found.0, items_in_use is' set.1 found.1)

module _ (p : Past) (t : Table) (is : IsKeyed (est (seen p)) t) (uses : SameUses p.table.uses t.book.claims) (read : IsRead p) where
  order_use : (r : Rec) → OfSome (AreSet t) (carried_plan (flight.Ctl r)) → BringsFlight p.plans (flight.Ctl r) → IsFlightInUse p (flight.Ctl r)
  order_use (rec.Reconf q key) set (inl runs) = items_in_use p t is uses read q runs.0 q.items set (each_found 0 q.items runs.1)
  order_use (rec.Reconf q key) set (inr none) = absurd (let bad : rec.Reconf q key ≡ rec.Relcnf q = none.1 in cc)
  order_use (rec.Rcomp g) set brings = tt
  order_use (rec.Scgf x) set brings = tt
  order_use (rec.Recov id) set brings = tt
  order_use (rec.Recovd id) set brings = tt
  order_use (rec.Addreq q key) set brings = tt
  order_use (rec.Modreq q key) set brings = tt
  order_use (rec.Addack g) set brings = tt
  order_use (rec.Addrej g) set brings = tt
  order_use (rec.Modack g) set brings = tt
  order_use (rec.Modrej g) set brings = tt
  order_use (rec.Recfg g) set brings = tt
  order_use (rec.Relreq q) set brings = tt
  order_use (rec.Relack g) set brings = tt
  order_use (rec.Relrej g) set brings = tt
  order_use (rec.Uecr g) set brings = tt
  order_use (rec.Snst st) set brings = tt
  order_use (rec.Moved g id) set brings = tt
  order_use (rec.Scgn id g) set brings = tt
  order_use rec.Modrqd set brings = tt
  order_use (rec.Modcnf g) set brings = tt
  order_use (rec.Modref w) set brings = tt
  order_use rec.Chgrqd set brings = tt
  order_use (rec.Chgcnf q) set brings = tt
  order_use (rec.Chgref w) set brings = tt
  order_use rec.Relrqd set brings = tt
  order_use (rec.Relcnf q) set brings = tt

  flight_use : (f : Flight) → OfSome (AreSet t) (carried_plan f) → BringsFlight p.plans f → IsFlightInUse p f
  flight_use (flight.Ctl r) set brings = order_use r set brings
  flight_use (flight.Air id g num tag pdu) set brings = tt
  flight_use (flight.Ack id g num) set brings = tt
  flight_use (flight.Tun tag packet) set brings = tt
  flight_use (flight.Sdu id g sdu) set brings = tt
  flight_use (flight.End id g) set brings = tt
  flight_use (flight.Told id g count) set brings = tt

  sends_in_use : (ss : List Send) → AllByRecursion (OfSend (AreSet t)) ss → AllByRecursion (SendBrings p.plans) ss → AllByRecursion (λ (s : Send). IsFlightInUse p s.1) ss
  sends_in_use [] set brings = tt
  sends_in_use (s ∷ ss) set brings = (flight_use s.1 set.0 brings.0, sends_in_use ss set.1 brings.1)

-- a line sends such a flight
abbrev LineInUse : Past → Line → Type 0
LineInUse p (line.Send l f) = IsFlightInUse p f
LineInUse p (line.Note n) = ⊤
LineInUse p (line.Event e) = ⊤
LineInUse p (line.Answer a) = ⊤

notes_in_use : (p : Past) (ns : List Note) → AllByRecursion (λ n. LineInUse p (line.Note n)) ns
notes_in_use p [] = tt
notes_in_use p (n ∷ ns) = (tt, notes_in_use p ns)

lines_sends : (p : Past) (xs : List Line) → AllByRecursion (LineInUse p) xs → AllByRecursion (λ (s : LinkId × Flight). IsFlightInUse p s.1) (sends xs)
lines_sends p [] all = tt
lines_sends p (line.Send l f ∷ xs) all = (all.0, lines_sends p xs all.1)
lines_sends p (line.Note n ∷ xs) all = lines_sends p xs all.1
lines_sends p (line.Event e ∷ xs) all = lines_sends p xs all.1
lines_sends p (line.Answer a ∷ xs) all = lines_sends p xs all.1

puts_in_use : (p : Past) (l : LinkId) (ss : List (LinkId × Flight)) → AllByRecursion (λ (s : LinkId × Flight). IsFlightInUse p s.1) ss → AllByRecursion (IsFlightInUse p) (flat_map (on_link l) ss)
puts_in_use p l [] all = tt
puts_in_use p l (s ∷ ss) all =
    elim (cases_Bool (is_same_link l s.0)) [ inl here ↦ rw here (all.0, puts_in_use p l ss all.1) | inr there ↦ rw there (puts_in_use p l ss all.1) ]

left_in_use : (p : Past) (l : LinkId) (place : Option (LinkId × ℕ)) (fs : List Flight) → AllByRecursion (IsFlightInUse p) fs → AllByRecursion (IsFlightInUse p) (without_taken l place fs)
left_in_use p l None fs all = all
left_in_use p l (Some place) fs all =
    elim (cases_Bool (is_same_link l place.0)) [ inl here ↦ rw here (each_remove (IsFlightInUse p) fs place.1 all) | inr there ↦ rw there all ]

-- what is in use stays so
items_stay : (p : Past) (x : Entry) → IsRead p → (g : ℕ) (is : List Item) → AllByRecursion (SetsItem (IsInUse p) g) is → AllByRecursion (SetsItem (IsInUse (after p x)) g) is
items_stay p x read g [] all = tt
items_stay p x read g (Set id n first shape threshold policy key old ∷ is) all = (use_after p x id g read all.0, items_stay p x read g is all.1)
items_stay p x read g (Unset id ∷ is) all = (tt, items_stay p x read g is all.1)

flight_stays : (p : Past) (x : Entry) → IsRead p → (f : Flight) → IsFlightInUse p f → IsFlightInUse (after p x) f
flight_stays p x read f has = by (carried_plan f) has
  where
    by : (o : Option Plan) → OfSome (SetsOnly (IsInUse p)) o → OfSome (SetsOnly (IsInUse (after p x))) o
    by None has = tt
    by (Some q) has = items_stay p x read q.g q.items has

module _ (c : Choices) (w : World) (p : Past) (is : HoldsUses p w) where
  pub holds_uses_next : (e : Event) → AddsSecond e → HoldsUses (after p (world_step c w e).1) (world_step c w e).0
  holds_uses_next e adds =
      let x = (world_step c w e).1 in
      let w' = (world_step c w e).0 in
      let p' = after p x in
      let o = (carried_on c w (happening w e)).1 in
      let read = is.plans.relays.read in
      let keys = holds_keys_next c w p is.keys e adds in
      let plans = holds_plans_next c w p e adds is.plans in
      let same : view p' ≡ fold hears (hears_answer p e o.answer (view p)) (lines_of o) = after_view p x in
      let apart : ArePlansApart (fold hears (hears_answer p e o.answer (view p)) (lines_of o)).plans = subst (λ (v : View). ArePlansApart v.plans) same (event_becomes c w p e read).is.apart in
      let done = event_after c p w is.plans.relays.holds.well is.plans.relays.holds.lasts.agree is.plans.plans.have is.plans.plans.stand e adds apart in
      let brings : AllByRecursion (SendBrings p'.plans) o.sends = subst (λ (v : View). AllByRecursion (SendBrings v.plans) o.sends) (sym same) done.brings in
      let set = (event_then c w p is.keys e adds).sends in
      let sent = sends_in_use p' w'.master.proc.table keys.keys.table keys.lasts.agree.same.rest.uses plans.relays.read o.sends set brings in
      let lines : AllByRecursion (LineInUse p') x.lines = each_line_of (LineInUse p') o (notes_in_use p' o.notes) sent in
      record {
        keys = keys;
        plans = plans;
        orders = λ l. subst (AllByRecursion (IsFlightInUse p')) (sym (flights_next c w e l is.plans.relays.right.long))
            (each_append (IsFlightInUse p') (without_taken l (place_taken e x.answer) (flights_on l w.links)) (put_on l x.lines)
            (left_in_use p' l (place_taken e x.answer) (flights_on l w.links) (each_weaker (IsFlightInUse p) (IsFlightInUse p') (flight_stays p x read) (flights_on l w.links) (is.orders l)))
            (puts_in_use p' l (sends x.lines) (lines_sends p' x.lines lines)));
        halves =
            each_weaker (λ (y : ℕ × TerminalHalf). IsInUse p y.1.setup.id y.1.setup.g) (λ (y : ℕ × TerminalHalf). IsInUse p' y.1.setup.id y.1.setup.g)
            (λ y has. use_after p x y.1.setup.id y.1.setup.g read has) w'.terminal.halves (halves_then c w p is (happening w e) (event_fit c w p is e));
      }

pub holds_uses_new : (c : Choices) (h : Header) (policies : ℕ) → HoldsUses (new_past h policies) (new_world h)
holds_uses_new c h policies = record {
  keys = holds_keys_new h policies;
  plans = record { relays = relays_new c h policies; plans = planned_new h policies; later = tt };
  orders = λ l. subst (AllByRecursion (IsFlightInUse (new_past h policies))) (sym (none_there 64 (link_number l) [])) tt;
  halves = tt;
}

-- after any events of which each addition is of a secondary node: the key of each data PDU that the terminal sends is in use for the
-- establishment that it is of, and for no other
pub terminal_uses_once : (c : Choices) (h : Header) (policies : ℕ) (es : List Event) → AllByRecursion AddsSecond es → Each (at_lines is_terminal_pdu (claim claims.one_use)) (new_past h policies) (entries_from c (new_world h) es)
terminal_uses_once c h policies es adds =
    each_if c (of_lines pdu_uses_once) AddsSecond HoldsUses (λ w p e add is. event_uses_once c w p is e add) (λ w p e add is. refl) (λ w p e add is. holds_uses_next c w p is e add) es adds (new_world h) (new_past h policies)
    (holds_uses_new c h policies)
