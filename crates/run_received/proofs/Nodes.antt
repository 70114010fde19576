-- An uplink PDU that comes to a node with an active anchor of its bearer and generation.
use Rattle.std.proofs.Common.{ℕ, ◌≡◌, ◌==◌, ◌++◌, Bool, true, false, List, [], ◌∷◌, Option}
use Rattle.std.proofs.Common.{Some, None, refl, sym, ap, subst, ◌∙◌, inl, inr, arith, append_assoc}
use Rattle.std.specs.Prelude.{⊤, if◌then◌else◌, nat_lt, not}
use Rattle.std.specs.List.{AllByRecursion, list_any}
use Rattle.std.specs.Option.{option_map}
use Rattle.std.proofs.lemmas.Bool.{and_from, cases_Bool, eq-eqb, ltb-true}
use Rattle.std.proofs.lemmas.List.{append-nil}
use Rattle.dc_base.specs.Nodes.{is_same_node}
use Rattle.dc_base.specs.declared.answers.Answer.TheVariants as answer
use Rattle.dc_base.specs.declared.events.Line.{Line}
use Rattle.dc_base.specs.declared.events.Line.TheVariants as line
use Rattle.dc_base.specs.declared.events.Note.TheVariants as note
use Rattle.dc_base.specs.declared.flights.Flight.{Flight}
use Rattle.dc_base.specs.declared.flights.Flight.TheVariants as flight
use Rattle.dc_base.specs.declared.nodes.Dir.TheVariants.{Dl, Ul}
use Rattle.dc_base.specs.declared.nodes.LinkId.{LinkId}
use Rattle.dc_base.specs.declared.nodes.Node.{Node}
use Rattle.dc_base.specs.declared.nodes.Node.TheVariants.{M, T}
use Rattle.claims.specs.Claim.{EachLine}
use Rattle.claims.specs.HandedUp.{has_taken, is_carried, is_front, is_up_at}
use Rattle.claims.specs.Noted.{noted}
use Rattle.claims.specs.Past.{Bearer, Past}
use Rattle.claims.specs.Reading.{latest}
use Rattle.claims.specs.Sameness.{is_among}
use Rattle.master_runs.proofs.Holding.{held-other, held-same}
use Rattle.node_rules.specs.Anchor.{Active, AnchorState, active_anchor, setup_at}
use Rattle.node_rules.specs.Choices.{Choices, Send}
use Rattle.node_rules.specs.Effects.{accepted, after_effects, quiet}
use Rattle.node_rules.specs.Entity.{Entity, risen, risen_low, take_pdu}
use Rattle.node_rules.specs.Feed.{Fed}
use Rattle.node_rules.specs.Held.{held, holding}
use Rattle.node_rules.specs.Host.{Host}
use Rattle.node_rules.specs.Lines.{is_end, lines_of}
use Rattle.node_rules.specs.Master.{MasterNode, anchor_did, handed_up, low_rises}
use Rattle.node_rules.specs.MasterPlan.{adopts_if, on_waiting}
use Rattle.node_rules.specs.MasterStep.{data_taken, is_anchor_of, on_host}
use Rattle.node_rules.specs.SecondStep.{on_second_host, second_data}
use Rattle.node_rules.specs.Secondary.{SecondNode, anchored, fed_did, is_fed_of, name_of, on_fed, second_effects}
use Rattle.node_rules.specs.declared.bearers.AnchorOut.{AnchorOut}
use Rattle.node_rules.specs.declared.inputs.Effects.{Effects}
use Rattle.node_rules.specs.declared.inputs.Outcome.{Outcome}
use Rattle.pdcp_pdu.specs.Pdu.{Content}
use Rattle.pdcp_rx.specs.Entries.{Entry}
use Rattle.pdcp_tx.specs.Sender.{low}
use Rattle.claims.specs.Reading.{Setting}
use Rattle.run_words.proofs.Lines.{each_line_of}
use Rattle.run_received.specs.Receipts.{Receipt, receipt, receipt_of}
use Rattle.run_received.proofs.Arriving.{IsRead}
use Rattle.run_received.proofs.Claims.{AreNext, AreTaken, next_is}
use Rattle.run_received.proofs.Folding.{NamesDescend, as_lines, hands_only, no_ups, noted_down, ups_handed, ups_in, up_of, with_ups, handing}
use Rattle.run_received.proofs.Latest.{distinct_of}
use Rattle.run_received.proofs.Noting.{noted_receipt}
use Rattle.run_received.specs.Changes.{line_on}
use Rattle.run_received.proofs.Outcomes.{hands_begins}

-- ---- of the anchor

-- no COUNT is confirmed by a data PDU: Low does not rise
not_below : (n : ℕ) → nat_lt n n ≡ false
not_below n = elim (cases_Bool (nat_lt n n)) [ inl yes' ↦ absurd (let lt = ltb-true n n yes' in omega (arith, lt)) | inr no' ↦ no' ]

pub low_still : (p : Past) (b : Bearer) (set : Setting) (tag : Option ℕ) (pdu : List ℕ) (is : IsRead p b set tag pdu) (e : Entity)
    → risen_low e (take_pdu e is.reads.content).0 ≡ None
low_still p b set tag pdu is e = subst (λ (x : Content). risen_low e (take_pdu e x).0 ≡ None) (sym is.reads.is.is) by
  where
    by : risen (low e.tx) (low e.tx) ≡ None
    by = ap (λ t. if t then Some (low e.tx) else None) (not_below (low e.tx))

-- a send is the confirm of a PDU
abbrev pub IsConfirm : Send → Type 0
IsConfirm (l, flight.Ack id g num) = ⊤
IsConfirm (l, flight.Air id g num tag pdu) = ⊥
IsConfirm (l, flight.Tun tag packet) = ⊥
IsConfirm (l, flight.Sdu id g payload) = ⊥
IsConfirm (l, flight.End id g) = ⊥
IsConfirm (l, flight.Told id g count) = ⊥
IsConfirm (l, flight.Ctl r) = ⊥

confirm_hands : (l : LinkId) (f : Flight) → IsConfirm (l, f) → hands_only (line.Send l f) ≡ true
confirm_hands l (flight.Ack id g num) is = refl
confirm_hands l (flight.Air id g num tag pdu) is = absurd is
confirm_hands l (flight.Tun tag packet) is = absurd is
confirm_hands l (flight.Sdu id g payload) is = absurd is
confirm_hands l (flight.End id g) is = absurd is
confirm_hands l (flight.Told id g count) is = absurd is
confirm_hands l (flight.Ctl r) is = absurd is

-- each
pub confirms_hand : (ss : List Send) → AllByRecursion IsConfirm ss → AllByRecursion (λ (z : Send). hands_only (line.Send z.0 z.1) ≡ true) ss
confirms_hand [] all = tt
confirms_hand (z ∷ ss) all = (confirm_hands z.0 z.1 all.0, confirms_hand ss all.1)

-- a step of an active anchor that hands these up, and does nothing else that an uplink shows
pub record HandsUp (a : Active) (es : List Entry) (done : AnchorState × AnchorOut) : Type 0 where
  pub state : done.0 ≡ active_anchor a
  pub ups : done.1.ups ≡ es
  pub stays : done.1.adopted ≡ false
  pub low : done.1.low ≡ None
  pub sends : AllByRecursion IsConfirm done.1.sends

-- ---- of the node

-- an outcome of a node that hands these up, and nothing else that an uplink shows
pub record GoesUp (x : Node) (id : ℕ) (es : List Entry) (o : Outcome) : Type 0 where
  pub ok : o.answer ≡ answer.Ok
  pub notes : o.notes ≡ handed_up x id Ul es
  pub sends : AllByRecursion IsConfirm o.sends

effects_notes : (me : Node) (id g : ℕ) (out : AnchorOut) (es : List Entry) → out.ups ≡ es → out.adopted ≡ false → out.low ≡ None
    → (second_effects me id g out).notes ≡ handed_up me id Ul es
effects_notes me id g out es ups stays low' = by out.adopted out.low out.ups stays low' ups
  where
    by : (b : Bool) (o : Option ℕ) (xs : List Entry) → b ≡ false → o ≡ None → xs ≡ es
        → (second_effects me id g (record { adopted = b; ups = xs; low = o; sends = out.sends })).notes ≡ handed_up me id Ul es
    by false None xs off none same = append-nil (handed_up me id Ul xs) ∙ ap (handed_up me id Ul) same
    by false (Some c) xs off none same = absurd (let bad : Some c ≡ None = none in cc)
    by true o xs off none same = absurd (let bad : true ≡ false = off in cc)

effects_sends : (me : Node) (id g : ℕ) (out : AnchorOut) → out.adopted ≡ false → out.low ≡ None → (second_effects me id g out).sends ≡ out.sends
effects_sends me id g out stays low' = by out.adopted out.low stays low'
  where
    by : (b : Bool) (o : Option ℕ) → b ≡ false → o ≡ None
        → (second_effects me id g (record { adopted = b; ups = out.ups; low = o; sends = out.sends })).sends ≡ out.sends
    by false None off none = append-nil out.sends
    by false (Some c) off none = absurd (let bad : Some c ≡ None = none in cc)
    by true o off none = absurd (let bad : true ≡ false = off in cc)

-- at a secondary node
pub record SecondHands (s : SecondNode) (id : ℕ) (x : Fed) (a : Active) (es : List Entry) (done : SecondNode × Effects) : Type 0 where
  pub outcome : GoesUp (name_of s) id es (accepted done).1
  pub anchor : held id done.0.anchors ≡ Some (record x { anchor = active_anchor a })
  pub others : (k : ℕ) → (id == k) ≡ false → held k done.0.anchors ≡ held k s.anchors

pub second_hands : (s : SecondNode) (fa : AnchorState → AnchorState × AnchorOut) (fh : Host → Host
    × List Send) (id g : ℕ) (x : Fed) (a : Active) (es : List Entry)
    → held id s.anchors ≡ Some x → ((setup_at x.anchor).g == g) ≡ true → HandsUp a es (fa x.anchor)
    → SecondHands s id x a es (second_data s fa fh (Some (id, g)))
second_hands s fa fh id g x a es at of h =
    let out = (fa x.anchor).1 in
    let y : Fed = record x { anchor = (fa x.anchor).0 } in
    let is : second_data s fa fh (Some (id, g)) ≡ fed_did s id (anchored x (fa x.anchor)) =
    ap (λ o. if is_fed_of g o then on_fed s id fa o else on_second_host s id fh (held id s.hosts)) at
    ∙ ap (λ t. if t then fed_did s id (anchored x (fa x.anchor)) else on_second_host s id fh (held id s.hosts)) of in
    subst (SecondHands s id x a es) (sym is) (record {
      outcome = record {
        ok = refl;
        notes = effects_notes (name_of s) id (setup_at (fa x.anchor).0).g out es h.ups h.stays h.low;
        sends = subst (AllByRecursion IsConfirm)
            (sym (effects_sends (name_of s) id (setup_at (fa x.anchor).0).g out h.stays h.low)) h.sends;
      };
      anchor = held-same id y s.anchors ∙ ap (λ (z : AnchorState). Some (record x { anchor = z })) h.state;
      others = λ k apart. held-other id k y s.anchors apart;
    })

-- at the master
pub record MasterHands (m : MasterNode) (id : ℕ) (a : Active) (es : List Entry) (done : MasterNode × Effects) : Type 0 where
  pub outcome : GoesUp M id es (accepted done).1
  pub anchor : held id done.0.anchors ≡ Some (active_anchor a)
  pub others : (k : ℕ) → (id == k) ≡ false → held k done.0.anchors ≡ held k m.anchors

pub master_hands : (c : Choices) (m : MasterNode) (fa : AnchorState → AnchorState × AnchorOut) (fh : Host → Host × List Send) (id g : ℕ) (x : AnchorState)
    (a : Active) (es : List Entry) → held id m.anchors ≡ Some x → ((setup_at x).g == g) ≡ true → HandsUp a es (fa x)
    → MasterHands m id a es (data_taken c m fa fh (Some (id, g)))
master_hands c m fa fh id g x a es at of h =
    let is : data_taken c m fa fh (Some (id, g)) ≡ anchor_did m id (fa x) =
    ap (λ o. if is_anchor_of g o then on_waiting c m id fa o else on_host m id fh (held id m.hosts)) at
    ∙ ap (λ t. if t then adopts_if c id (setup_at x).g (fa x).1.adopted (anchor_did m id (fa x)) else on_host m id fh (held id m.hosts)) of
    ∙ ap (λ t. adopts_if c id (setup_at x).g t (anchor_did m id (fa x))) h.stays in
    let next : MasterNode = record m { anchors = holding id (Some (fa x).0) m.anchors } in
    let told : Effects = record { notes = handed_up M id Ul (fa x).1.ups; sends = (fa x).1.sends } in
    let still : anchor_did m id (fa x) ≡ after_effects told (next, quiet) = ap (λ o. after_effects told (low_rises next id o)) h.low in
    subst (MasterHands m id a es) (sym (is ∙ still)) (record {
      outcome = record {
        ok = refl;
        notes = append-nil (handed_up M id Ul (fa x).1.ups) ∙ ap (handed_up M id Ul) h.ups;
        sends = subst (AllByRecursion IsConfirm) (sym (append-nil (fa x).1.sends)) h.sends;
      };
      anchor = held-same id (fa x).0 m.anchors ∙ ap Some h.state;
      others = λ k apart. held-other id k (fa x).0 m.anchors apart;
    })

-- ---- the lines

up_ends : (x : Node) (id : ℕ) (es : List Entry) → list_any is_end (handed_up x id Ul es) ≡ false
up_ends x id [] = refl
up_ends x id (e ∷ es) = up_ends x id es

-- a line hands up nothing in downlink
abbrev pub IsOfUplink : Line → Type 0
IsOfUplink (line.Note (note.Up y k Dl count payload)) = ⊥
IsOfUplink _ = ⊤

-- a line hands up at most, in the uplink of this identity, at this node
abbrev pub IsUpOf : Node → ℕ → Line → Type 0
IsUpOf x id (line.Note (note.Up y k Ul count payload)) = (y ≡ x) × (k ≡ id)
IsUpOf x id _ = ⊤

up_notes : (x : Node) (id : ℕ) (es : List Entry) → AllByRecursion (λ n. IsUpOf x id (line.Note n)) (handed_up x id Ul es)
up_notes x id [] = tt
up_notes x id (e ∷ es) = ((refl, refl), up_notes x id es)

up_hands : (x : Node) (id : ℕ) (es : List Entry) → AllByRecursion (λ n. hands_only (line.Note n) ≡ true) (handed_up x id Ul es)
up_hands x id [] = tt
up_hands x id (e ∷ es) = (refl, up_hands x id es)

up_sends : (x : Node) (id : ℕ) (ss : List Send) → AllByRecursion (λ (s : Send). IsUpOf x id (line.Send s.0 s.1)) ss
up_sends x id [] = tt
up_sends x id (s ∷ ss) = (tt, up_sends x id ss)

uplink_notes : (x : Node) (id : ℕ) (es : List Entry) → AllByRecursion (λ n. IsOfUplink (line.Note n)) (handed_up x id Ul es)
uplink_notes x id [] = tt
uplink_notes x id (e ∷ es) = (tt, uplink_notes x id es)

uplink_sends : (ss : List Send) → AllByRecursion (λ (s : Send). IsOfUplink (line.Send s.0 s.1)) ss
uplink_sends [] = tt
uplink_sends (s ∷ ss) = (tt, uplink_sends ss)

module _ (x : Node) (id : ℕ) (es : List Entry) (o : Outcome) (is : GoesUp x id es o) where
  pub no_end : list_any is_end o.notes ≡ false
  no_end = ap (list_any is_end) is.notes ∙ up_ends x id es

  pub lines_hand : AllByRecursion (λ k. hands_only k ≡ true) (lines_of o)
  lines_hand = each_line_of (λ k. hands_only k ≡ true) o (subst (AllByRecursion
      (λ n. hands_only (line.Note n) ≡ true)) (sym is.notes) (up_hands x id es)) (confirms_hand o.sends is.sends)

  pub lines_up : AllByRecursion (IsUpOf x id) (lines_of o)
  lines_up = each_line_of (IsUpOf x id) o (subst (AllByRecursion (λ n. IsUpOf x id (line.Note n))) (sym is.notes) (up_notes x id es)) (up_sends x id o.sends)

  pub lines_uplink : AllByRecursion IsOfUplink (lines_of o)
  lines_uplink = each_line_of IsOfUplink o (subst (AllByRecursion (λ n. IsOfUplink (line.Note n))) (sym is.notes) (uplink_notes x id es)) (uplink_sends o.sends)

  pub ups_are : ups_in id (as_lines o.notes) ≡ es
  ups_are = ap (λ ns. ups_in id (as_lines ns)) is.notes ∙ ups_handed x id es

-- ---- the claims of its lines

-- the past of a line after another
next_receipt : (q : Past) (k : Line) (id above : ℕ) (r : Receipt) → NamesDescend above q → hands_only k ≡ true → receipt q id ≡ Some r → r.id ≡ id
    → receipt (noted q k) id ≡ Some (with_ups (up_of id k) r)
next_receipt q k id above r down hands at of =
    noted_receipt q k id (hands_begins k hands) (distinct_of above q.bearers down) ∙ ap (option_map (line_on q k)) at
    ∙ ap Some (handing q k r hands ∙ ap (λ j. with_ups (up_of j k) r) of)

next_then : (r : Receipt) (xs ys : List Entry) → AreNext r (xs ++ ys) → AreNext (with_ups xs r) ys
next_then r [] ys all = subst (λ (z : Receipt). AreNext z ys) (no_ups r) all
next_then r (e ∷ xs) ys all =
    subst (λ (es : List Entry). AreNext (record r { handed = es }) ys) (append_assoc r.handed (e ∷ []) xs) (next_then (with_ups (e ∷ []) r) xs ys all.1)

next_first : (r : Receipt) (xs ys : List Entry) → AreNext r (xs ++ ys) → AreNext r xs
next_first r [] ys all = tt
next_first r (e ∷ xs) ys all = (all.0, next_first (with_ups (e ∷ []) r) xs ys all.1)

one_front : (k : Line) (q : Past) (x : Node) (id : ℕ) (r : Receipt) → IsOfUplink k → IsUpOf x id k → receipt q id ≡ Some r → AreNext r (up_of id k)
    → is_front q k ≡ true
one_front (line.Note (note.Up y j Ul c payload)) q x id r hands up at next =
    let here : (id == j) ≡ true = eq-eqb id j (sym up.1) in
    let now : AreNext r ((c, payload) ∷ []) = subst (λ t. AreNext r (if t then (c, payload) ∷ [] else [])) here next in
    next_is q j c payload r (ap (receipt q) up.1 ∙ at) now.0
one_front (line.Note (note.Up y j Dl c payload)) q x id r hands up at next = absurd hands
one_front (line.Note (note.Begin w)) q x id r hands up at next = refl
one_front (line.Note (note.Join y g)) q x id r hands up at next = refl
one_front (line.Note (note.Leave y g)) q x id r hands up at next = refl
one_front (line.Note (note.Give y j g)) q x id r hands up at next = refl
one_front (line.Note (note.Own y j g)) q x id r hands up at next = refl
one_front (line.Note (note.Set j g)) q x id r hands up at next = refl
one_front (line.Note (note.Unset j)) q x id r hands up at next = refl
one_front (line.Note (note.Freed j d c)) q x id r hands up at next = refl
one_front (line.Note (note.Confirmed y)) q x id r hands up at next = refl
one_front (line.Note (note.Refused y w)) q x id r hands up at next = refl
one_front (line.Note note.Done) q x id r hands up at next = refl
one_front (line.Note note.Rejected) q x id r hands up at next = refl
one_front (line.Send l f) q x id r hands up at next = refl
one_front (line.Event e) q x id r hands up at next = refl
one_front (line.Answer a) q x id r hands up at next = refl

-- each payload is the next submission, under its COUNT
pub fronts : (xs : List Line) (q : Past) (x : Node) (id above : ℕ) (r : Receipt) → NamesDescend above q → AllByRecursion (λ k. hands_only k ≡ true) xs
    → AllByRecursion IsOfUplink xs → AllByRecursion (IsUpOf x id) xs → receipt q id ≡ Some r → r.id ≡ id → AreNext r (ups_in id xs) → EachLine is_front q xs
fronts [] q x id above r down hands none ups at of next = tt
fronts (k ∷ xs) q x id above r down hands none ups at of next = (
  one_front k q x id r none.0 ups.0 at (next_first r (up_of id k) (ups_in id xs) next),
  fronts xs (noted q k) x id above (with_ups (up_of id k) r) (noted_down above q k (hands_begins k hands.0) down) hands.1 none.1 ups.1
      (next_receipt q k id above r down hands.0 at of) of (next_then r (up_of id k) (ups_in id xs) next),
)

one_carried : (k : Line) (q : Past) (x : Node) (id : ℕ) (r : Receipt) → is_same_node x T ≡ false → IsOfUplink k → IsUpOf x id k → receipt q id ≡ Some r
    → AreTaken r (up_of id k) → is_carried q k ≡ true
one_carried (line.Note (note.Up y j Ul c payload)) q x id r away hands up at taken =
    let here : (id == j) ≡ true = eq-eqb id j (sym up.1) in
    let now : AreTaken r ((c, payload) ∷ []) = subst (λ t. AreTaken r (if t then (c, payload) ∷ [] else [])) here taken in
    and_from (has_taken Ul c (latest q j)) (is_up_at y Ul) (by (latest q j) (ap (receipt q) up.1 ∙ at) now.0)
    (ap (λ n. not (is_same_node n T)) up.0 ∙ ap not away)
  where
    by : (b : Option Bearer) → option_map receipt_of b ≡ Some r → is_among c r.taken ≡ true → has_taken Ul c b ≡ true
    by None none is = absurd (let bad : None ≡ Some r = none in cc)
    by (Some b) some is = subst (λ (z : Receipt). is_among c z.taken ≡ true) (let same : receipt_of b ≡ r = cc in sym same) is
one_carried (line.Note (note.Up y j Dl c payload)) q x id r away hands up at taken = absurd hands
one_carried (line.Note (note.Begin w)) q x id r away hands up at taken = refl
one_carried (line.Note (note.Join y g)) q x id r away hands up at taken = refl
one_carried (line.Note (note.Leave y g)) q x id r away hands up at taken = refl
one_carried (line.Note (note.Give y j g)) q x id r away hands up at taken = refl
one_carried (line.Note (note.Own y j g)) q x id r away hands up at taken = refl
one_carried (line.Note (note.Set j g)) q x id r away hands up at taken = refl
one_carried (line.Note (note.Unset j)) q x id r away hands up at taken = refl
one_carried (line.Note (note.Freed j d c)) q x id r away hands up at taken = refl
one_carried (line.Note (note.Confirmed y)) q x id r away hands up at taken = refl
one_carried (line.Note (note.Refused y w)) q x id r away hands up at taken = refl
one_carried (line.Note note.Done) q x id r away hands up at taken = refl
one_carried (line.Note note.Rejected) q x id r away hands up at taken = refl
one_carried (line.Send l f) q x id r away hands up at taken = refl
one_carried (line.Event e) q x id r away hands up at taken = refl
one_carried (line.Answer a) q x id r away hands up at taken = refl

taken_first : (r : Receipt) (xs ys : List Entry) → AreTaken r (xs ++ ys) → AreTaken r xs × AreTaken r ys
taken_first r [] ys all = (tt, all)
taken_first r (e ∷ xs) ys all = let rest = taken_first r xs ys all.1 in ((all.0, rest.0), rest.1)

-- each was carried by a PDU that the node took
pub carried_lines : (xs : List Line) (q : Past) (x : Node) (id above : ℕ) (r : Receipt) → is_same_node x T ≡ false → NamesDescend above q
    → AllByRecursion (λ k. hands_only k ≡ true) xs → AllByRecursion IsOfUplink xs → AllByRecursion (IsUpOf x id) xs → receipt q id ≡ Some r → r.id ≡ id
    → AreTaken r (ups_in id xs) → EachLine is_carried q xs
carried_lines [] q x id above r away down hands none ups at of taken = tt
carried_lines (k ∷ xs) q x id above r away down hands none ups at of taken =
    let both = taken_first r (up_of id k) (ups_in id xs) taken in (
      one_carried k q x id r away none.0 ups.0 at both.0,
      carried_lines xs (noted q k) x id above (with_ups (up_of id k) r) away (noted_down above q k (hands_begins k hands.0) down) hands.1 none.1 ups.1
          (next_receipt q k id above r down hands.0 at of) of both.1,
    )
