-- Each uplink after a step in which an uplink data PDU is given to the node that holds its bearer.
use Rattle.std.proofs.Common.{ℕ, ◌≡◌, ◌==◌, true, false, List, [], ◌∷◌, Option, Some, length, refl, sym, ap, subst, ◌∙◌, inl, inr}
use Rattle.std.specs.List.{AllByRecursion}
use Rattle.std.specs.Prelude.{if◌then◌else◌, is_some, nat_le, ◌&&◌}
use Rattle.std.proofs.lemmas.Bool.{cases_Bool, eqb-false, ne_eqb}
use Rattle.dc_base.specs.Nodes.{is_same_node}
use Rattle.dc_base.specs.declared.events.Event.{Event}
use Rattle.dc_base.specs.declared.events.Event.TheVariants as event
use Rattle.dc_base.specs.declared.events.Line.TheVariants as line
use Rattle.dc_base.specs.declared.events.Note.{Note}
use Rattle.dc_base.specs.declared.flights.Flight.{Flight}
use Rattle.dc_base.specs.declared.flights.Flight.TheVariants as flight
use Rattle.dc_base.specs.declared.nodes.LinkId.{LinkId}
use Rattle.dc_base.specs.declared.nodes.Node.{Node}
use Rattle.dc_base.specs.declared.nodes.Node.TheVariants.{A, B, M, T}
use Rattle.claims.specs.Noted.{after}
use Rattle.claims.specs.Past.{Bearer, Past}
use Rattle.claims.specs.Reading.{Setting}
use Rattle.claims.specs.Views.{Pdu}
use Rattle.node_rules.specs.Anchor.{Active, AnchorState, active_anchor, waiting_anchor}
use Rattle.node_rules.specs.Choices.{Choices, Send}
use Rattle.node_rules.specs.Entity.{take_pdu}
use Rattle.node_rules.specs.Held.{held}
use Rattle.node_rules.specs.Lines.{lines_of}
use Rattle.node_rules.specs.Run.{carried_on, entry_with, happening, moved_on, world_step}
use Rattle.node_rules.specs.Terminal.{TerminalNode}
use Rattle.node_rules.specs.World.{World, flights_on}
use Rattle.node_rules.specs.declared.inputs.Outcome.{Outcome}
use Rattle.pdcp_rx.specs.declared.entity.RxParts.{RxParts}
use Rattle.run_uplinks.specs.Seen.{seen}
use Rattle.run_uplinks.specs.Uplinks.{plane}
use Rattle.run_uplinks.proofs.Establishments.{some_is}
use Rattle.run_words.proofs.Lines.{each_line_of}
use Rattle.run_received.specs.OnTheWay.{Comes, Grows}
use Rattle.run_received.specs.Receipts.{Receipt, receipt, receipt_of}
use Rattle.run_received.specs.Receivers.{anchor_at}
use Rattle.run_received.specs.Uplinks.{HasReceiver, IsHeld, Serves}
use Rattle.run_received.proofs.Coming.{all_later}
use Rattle.run_received.proofs.Deliveries.{IsDelivered, after_is, after_receives, taken'}
use Rattle.run_received.proofs.Keeping.{grows_taken, waiter_still, waiter_taken}
use Rattle.run_received.proofs.Links.{OfLine, each_after}
use Rattle.run_received.specs.Changes.{answered_on, given_on, is_named, pdu_on, set_pdu_on}
use Rattle.run_received.proofs.Folding.{as_lines, no_ups, ups_in, with_ups}
use Rattle.run_received.proofs.Nodes.{GoesUp, IsConfirm, lines_hand, no_end}
use Rattle.run_received.proofs.Outcomes.{none_begin, outcome_receipt}
use Rattle.node_rules.specs.Master.{handed_up}
use Rattle.pdcp_rx.specs.Entries.{Entry}
use Rattle.dc_base.specs.declared.answers.Answer.{Answer}
use Rattle.dc_base.specs.declared.nodes.Dir.TheVariants.{Ul}
use Rattle.run_received.proofs.Planes.{plane_after}
use Rattle.run_received.proofs.Receiving.{with_taken}

-- a confirm says nothing of an uplink
confirm_comes : (sent : List Send) (r : Receipt) (rx : RxParts) (l : LinkId) (f : Flight) → IsConfirm (l, f) → Comes sent r rx l f
confirm_comes sent r rx l (flight.Ack id g num) is = tt
confirm_comes sent r rx l (flight.Air id g num tag pdu) is = absurd is
confirm_comes sent r rx l (flight.Tun tag packet) is = absurd is
confirm_comes sent r rx l (flight.Sdu id g payload) is = absurd is
confirm_comes sent r rx l (flight.End id g) is = absurd is
confirm_comes sent r rx l (flight.Told id g count) is = absurd is
confirm_comes sent r rx l (flight.Ctl c) is = absurd is

confirms_come : (sent : List Send) (r : Receipt) (rx : RxParts) (ss : List Send) → AllByRecursion IsConfirm ss
    → AllByRecursion (λ (s : Send). OfLine (Comes sent r rx) (line.Send s.0 s.1)) ss
confirms_come sent r rx [] all = tt
confirms_come sent r rx (s ∷ ss) all = (confirm_comes sent r rx s.0 s.1 all.0, confirms_come sent r rx ss all.1)

notes_come : (sent : List Send) (r : Receipt) (rx : RxParts) (ns : List Note) → AllByRecursion (λ n. OfLine (Comes sent r rx) (line.Note n)) ns
notes_come sent r rx [] = tt
notes_come sent r rx (n ∷ ns) = (tt, notes_come sent r rx ns)

pub lines_come : (sent : List Send) (r : Receipt) (rx : RxParts) (o : Outcome) → AllByRecursion IsConfirm o.sends
    → AllByRecursion (OfLine (Comes sent r rx)) (lines_of o)
lines_come sent r rx o all = each_line_of (OfLine (Comes sent r rx)) o (notes_come sent r rx o.notes) (confirms_come sent r rx o.sends all)

-- anchors stand where they did once flights moved
pub moved_anchors : (e : Event) (w : World) (o : Outcome) (y : Node) (id : ℕ) → anchor_at y (moved_on e (w, o)).0 id ≡ anchor_at y w id
moved_anchors e w o M id = refl
moved_anchors e w o A id = refl
moved_anchors e w o B id = refl
moved_anchors e w o T id = refl

one_node : (x y : Node) → is_same_node x y ≡ true → x ≡ y
one_node M M same = refl
one_node A A same = refl
one_node B B same = refl
one_node T T same = refl
one_node M A same = absurd (let bad : false ≡ true = same in cc)
one_node M B same = absurd (let bad : false ≡ true = same in cc)
one_node M T same = absurd (let bad : false ≡ true = same in cc)
one_node A M same = absurd (let bad : false ≡ true = same in cc)
one_node A B same = absurd (let bad : false ≡ true = same in cc)
one_node A T same = absurd (let bad : false ≡ true = same in cc)
one_node B M same = absurd (let bad : false ≡ true = same in cc)
one_node B A same = absurd (let bad : false ≡ true = same in cc)
one_node B T same = absurd (let bad : false ≡ true = same in cc)
one_node T M same = absurd (let bad : false ≡ true = same in cc)
one_node T A same = absurd (let bad : false ≡ true = same in cc)
one_node T B same = absurd (let bad : false ≡ true = same in cc)

same_holder : (x y : Node) (g h : ℕ) → ◌≡◌ {A = Option (Node × ℕ)} (Some (x, g)) (Some (y, h)) → x ≡ y
same_holder x y g h is =
    let one : Node × ℕ = (x, g) in
    let two : Node × ℕ = (y, h) in
    ap (λ (q : Node × ℕ). q.0) (some_is one two is)

-- the step of a node with the active anchor `a` of the bearer: it takes the PDU, and the others stay as they are
pub record NodeTakes (w v : World) (x : Node) (id : ℕ) (a : Active) : Type 0 where
  pub here : anchor_at x v id ≡ Some (active_anchor a)
  pub there : (y : Node) → is_same_node x y ≡ false → anchor_at y v id ≡ anchor_at y w id
  pub others : (y : Node) (k : ℕ) → (id == k) ≡ false → anchor_at y v k ≡ anchor_at y w k
  pub terminal : v.terminal ≡ w.terminal

-- of another identity nothing is handed up
none_handed : (x : Node) (id k : ℕ) (es : List Entry) → (k == id) ≡ false → ups_in k (as_lines (handed_up x id Ul es)) ≡ []
none_handed x id k [] apart = refl
none_handed x id k (e ∷ es) apart = rw apart (none_handed x id k es apart)

module _ (c : Choices) (w v : World) (p : Past) (b : Bearer) (set : Setting) (l : LinkId) (i : ℕ) (f : Flight) (u : Pdu) (a : Active) (x : Node) (o : Outcome)
    (k : IsDelivered p b set l i f u a.entity) (goes : GoesUp x b.id (take_pdu a.entity k.read.reads.content).1 o)
    (happens : carried_on c w (happening w (event.Step l i)) ≡ (v, o)) (long : length w.links ≡ 64)
    (takes : NodeTakes w v x b.id (record a { entity = (take_pdu a.entity k.read.reads.content).0 })) where
  abbrev Next : World
  Next = (world_step c w (event.Step l i)).0

  abbrev Q : Past
  Q = after p (world_step c w (event.Step l i)).1

  step_is : world_step c w (event.Step l i) ≡ moved_on (event.Step l i) (v, o)
  step_is = ap (moved_on (event.Step l i)) happens

  entry_is : (world_step c w (event.Step l i)).1 ≡ entry_with (event.Step l i) o
  entry_is = ap (λ s. s.1) step_is

  anchors_next : (y : Node) (id : ℕ) → anchor_at y Next id ≡ anchor_at y v id
  anchors_next y id = ap (λ s. anchor_at y s.0 id) step_is ∙ moved_anchors (event.Step l i) v o y id

  terminal_next : Next.terminal ≡ w.terminal
  terminal_next = ap (λ s. s.0.terminal) step_is ∙ takes.terminal

  same_plane : plane (seen Q) ≡ plane (seen p)
  same_plane =
      ap (λ z. plane (seen (after p z))) entry_is
      ∙ plane_after p (entry_with (event.Step l i) o) refl
      (none_begin (lines_of o) (lines_hand x b.id (take_pdu a.entity k.read.reads.content).1 o goes))

  -- the past has of the uplink what was taken and handed up
  pub receipt_next : receipt Q b.id ≡ Some (with_taken (k.read.count ∷ []) (take_pdu a.entity k.read.reads.content).1 (receipt_of b))
  receipt_next = ap (λ z. receipt (after p z) b.id) entry_is ∙ after_is p b set l i f u a.entity k x o goes

  module _ (sent : List Send) (was : HasReceiver p w sent (receipt_of b) a.entity.rx) (held' : IsHeld w (receipt_of b))
      (active : anchor_at x w b.id ≡ Some (active_anchor a)) where
    abbrev R : Receipt
    R = with_taken (k.read.count ∷ []) (take_pdu a.entity k.read.reads.content).1 (receipt_of b)

    abbrev Rx : RxParts
    Rx = (take_pdu a.entity k.read.reads.content).0.rx

    holder_is : b.holder ≡ Some (x, a.entity.setup.g)
    holder_is = (held'.active x a.entity.setup.g (record { anchor = a; there = active; of = refl })).0

    grows : Grows (receipt_of b) R a.entity.rx Rx
    grows =
        grows_taken (receipt_of b) a.entity.rx Rx (Some k.read.count ∷ []) (k.read.count ∷ []) (take_pdu a.entity k.read.reads.content).1
        (x, a.entity.setup.g) holder_is (taken' p b set l i f u a.entity k x o goes)

    serves_there : (y : Node) (s : AnchorState) → is_same_node x y ≡ false → anchor_at y w b.id ≡ Some s → Serves p (receipt_of b) a.entity.rx y s
        → Serves Q R Rx y s
    serves_there y (active_anchor z) apart at serves =
        let other = (held'.active y z.entity.setup.g (record { anchor = z; there = at; of = refl })).0 in
        let both : ◌≡◌ {A = Option (Node × ℕ)} (Some (x, a.entity.setup.g)) (Some (y, z.entity.setup.g)) = sym holder_is ∙ other in
        absurd (let same = same_holder x y a.entity.setup.g z.entity.setup.g both in let bad : true ≡ false = sym (self x) ∙ ap (is_same_node x) same
        ∙ apart in cc)
      where
        self : (n : Node) → is_same_node n n ≡ true
        self M = refl
        self A = refl
        self B = refl
        self T = refl
    serves_there y (waiting_anchor z) apart at serves =
        waiter_taken p Q (receipt_of b) a.entity.rx Rx (k.read.count ∷ []) (take_pdu a.entity k.read.reads.content).1 y z (x, a.entity.setup.g) same_plane
        holder_is serves

    serves_next : (y : Node) (s : AnchorState) → anchor_at y Next b.id ≡ Some s → Serves Q R Rx y s
    serves_next y s at =
        let there : anchor_at y v b.id ≡ Some s = sym (anchors_next y b.id) ∙ at in
        elim (cases_Bool (is_same_node x y)) [
          | inl same ↦
              let node = one_node x y same in
              let is : Some (active_anchor (record a { entity = (take_pdu a.entity k.read.reads.content).0 })) ≡ Some s =
              sym takes.here ∙ ap (λ n. anchor_at n v b.id) node ∙ there in
              subst (Serves Q R Rx y) (let one : active_anchor (record a { entity = (take_pdu a.entity k.read.reads.content).0 }) ≡ s = cc in one) refl
          | inr apart ↦
              let stood : anchor_at y w b.id ≡ Some s = sym (takes.there y apart) ∙ there in
              serves_there y s apart stood (was.anchors y s stood)
        ]

    -- the entity is the receiving one of the uplink still, and all that is on its way is of it
    pub receiver_next : HasReceiver Q Next sent R Rx
    receiver_next = record {
      is = after_receives p b set l i f u a.entity k x o goes;
      told = was.told;
      source = λ h at. was.source h (ap (λ (t : TerminalNode). held b.id t.halves) (sym terminal_next) ∙ at);
      anchors = serves_next;
      comes = each_after (Comes sent R Rx) c w (event.Step l i) long
          (λ j. all_later sent sent (receipt_of b) R a.entity.rx Rx grows (λ id g there. there) j (flights_on j w.links) (was.comes j))
          (subst (λ z. AllByRecursion (OfLine (Comes sent R Rx)) z.lines) (sym entry_is) (lines_come sent R Rx o goes.sends));
      early = was.early;
    }

  -- ---- another bearer

  -- nothing of its uplink changes by the past
  pub other_receipt : (id : ℕ) (r : Receipt) → (b.id == id) ≡ false → r.id ≡ id → receipt p id ≡ Some r → receipt Q id ≡ Some r
  other_receipt id r apart of at =
      let Es = (take_pdu a.entity k.read.reads.content).1 in
      let unnamed : is_named p u.id u.g r ≡ false =
      ap (λ s. is_some s && ((r.id == u.id) && nat_le r.g u.g)) k.in_plan
      ∙ ap (λ t. t && nat_le r.g u.g) (ap (λ j. r.id == j) k.of_id ∙ ne_eqb r.id b.id (λ same. eqb-false b.id id apart (sym same ∙ of))) in
      let same : answered_on p (event.Step l i) o.answer r ≡ r =
      ap (λ (n : Answer). answered_on p (event.Step l i) n r) goes.ok
      ∙ ap (λ s. given_on p s r) k.found
      ∙ k.pdu r
      ∙ ap (λ s. set_pdu_on p l u s r) k.in_plan
      ∙ ap (λ t. if t then pdu_on l u set r else r) unnamed in
      let none : ups_in r.id (as_lines o.notes) ≡ [] =
      ap (λ ns. ups_in r.id (as_lines ns)) goes.notes ∙ none_handed x b.id r.id Es (ne_eqb r.id b.id (λ is. eqb-false b.id id apart (sym is ∙ of))) in
      ap (λ z. receipt (after p z) id) entry_is
      ∙ outcome_receipt p (event.Step l i) o id k.above refl k.down (no_end x b.id Es o goes) (lines_hand x b.id Es o goes) r at
      ∙ ap (λ (q : Receipt). Some (with_ups (ups_in q.id (as_lines o.notes)) q)) same
      ∙ ap (λ es. Some (with_ups es r)) none
      ∙ ap Some (sym (no_ups r))

  -- and its entity is what it was
  pub other_next : (sent : List Send) (r : Receipt) (rx : RxParts) → (b.id == r.id) ≡ false → HasReceiver p w sent r rx → HasReceiver Q Next sent r rx
  other_next sent r rx apart was = record {
    is = was.is;
    told = was.told;
    source = λ h at. was.source h (ap (λ (t : TerminalNode). held r.id t.halves) (sym terminal_next) ∙ at);
    anchors = λ y s at.
        let stood : anchor_at y w r.id ≡ Some s = sym (takes.others y r.id apart) ∙ sym (anchors_next y r.id) ∙ at in
        still_serves y s (was.anchors y s stood);
    comes = each_after (Comes sent r rx) c w (event.Step l i) long was.comes
        (subst (λ z. AllByRecursion (OfLine (Comes sent r rx)) z.lines) (sym entry_is) (lines_come sent r rx o goes.sends));
    early = was.early;
  }
    where
      still_serves : (y : Node) (s : AnchorState) → Serves p r rx y s → Serves Q r rx y s
      still_serves y (active_anchor z) is = is
      still_serves y (waiting_anchor z) is = waiter_still p Q r rx y z same_plane is
