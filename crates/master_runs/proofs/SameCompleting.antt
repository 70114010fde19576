-- The master hears that the terminal took a plan: the bearer's anchor opens, and the command is done.
use Rattle.std.proofs.Common.{ℕ, ◌≡◌, ◌+◌, ◌-◌, ◌^◌, ◌<◌, ◌==◌, ◌||◌, Bool, true, false, List, [], ◌∷◌, Option, Some, None, refl, sym, ap, subst, ◌∙◌, inl, inr, arith, add-zero}
use Rattle.std.specs.Prelude.{find, not, nat_lt}
use Rattle.std.specs.List.{list_any}
use Rattle.std.proofs.lemmas.Bool.{cases_Bool, eq-eqb, eqb-true, le-ltb}
use Rattle.dc_base.specs.Count.{window}
use Rattle.dc_base.specs.declared.answers.Answer.TheVariants as answer
use Rattle.dc_base.specs.declared.events.Header.{Header}
use Rattle.dc_base.specs.declared.events.Line.TheVariants as line
use Rattle.dc_base.specs.declared.events.Note.TheVariants as note
use Rattle.dc_base.specs.declared.flights.Flight.TheVariants as flight
use Rattle.dc_base.specs.declared.numbers.SnLen.{SnLen}
use Rattle.dc_base.specs.declared.records.Rec.TheVariants.{Rcomp}
use Rattle.dc_base.specs.declared.nodes.Shape.{Shape}
use Rattle.nr_u.specs.Tunnel.Outgoing.{Outgoing}
use Rattle.pdcp_rx.specs.declared.entity.RxParts.{RxParts}
use Rattle.pdcp_tx.specs.Sender.{Sender}
use Rattle.transcript.specs.Bearers.{Established, OpenCommand, change}
use Rattle.transcript.specs.Content.{tm_ctl}
use Rattle.master_runs.specs.Control.{is_change, plan_for, told_master}
use Rattle.master_runs.specs.Entities.{Entities, Table, bearer_in}
use Rattle.node_rules.specs.Anchor.{AnchorState, active_anchor, setup_at, silent}
use Rattle.node_rules.specs.AnchorSending.{unlock}
use Rattle.node_rules.specs.Choices.{Choices}
use Rattle.node_rules.specs.Effects.{accepted, both, in_turn, noted, quiet}
use Rattle.node_rules.specs.Held.{held, holding, identities}
use Rattle.node_rules.specs.Master.{MasterNode, anchor_did, on_anchor_of}
use Rattle.node_rules.specs.MasterState.{is_unsettled}
use Rattle.node_rules.specs.MasterStep as master
use Rattle.node_rules.specs.declared.bearers.Window.{Window}
use Rattle.node_rules.specs.declared.commands.Command.{Command}
use Rattle.node_rules.specs.declared.commands.Command.TheVariants.{Gone as gone}
use Rattle.node_rules.specs.declared.commands.Row.{Row}
use Rattle.node_rules.specs.declared.inputs.Effects.{Effects}
use Rattle.node_rules.specs.declared.inputs.Input.TheVariants.{Come}
use Rattle.master_runs.specs.Forms.{Leg}
use Rattle.master_runs.specs.Same.{Inside, IsUnused, SameBearer, no_bearer, a_bearer, SameCommand, no_command, a_change, a_recovery, SameMaster, MasterDid, master_as}
use Rattle.master_runs.proofs.Holding.{held-same, held-other, held-cons}
use Rattle.master_runs.proofs.Bearers.{active_as, did_there, same_bearer_by}
use Rattle.master_runs.proofs.Downwards.{eqb_sym}
use Rattle.master_runs.proofs.SameRecovering.{nodes_as, with_busy, with_command}

-- ---- an anchor opens

-- an anchor that keeps and holds nothing sends nothing when it opens
opens_unused : (h : Header) (c : Choices) (b : Established) (x : Leg) (n : SnLen) (next : ℕ) (rx : RxParts) (tunnel : Outgoing) → next < 2 ^ 32 - 1
    → let tx : Sender = record { n = n; next = next; kept = []; held = [] } in
    unlock c (active_anchor (active_as h b x tx rx false tunnel)) ≡ (active_anchor (active_as h b x tx rx true tunnel), silent)
opens_unused h c b x n next rx tunnel short =
    let room : nat_lt (next + window n) (next + 0) ≡ false = le-ltb (next + window n) (next + 0) (omega arith) in
    let left : nat_lt (2 ^ 32 - 1) (next + 0) ≡ false = le-ltb (2 ^ 32 - 1) (next + 0) (omega arith) in
    rw (room, left, add-zero next) refl

-- whether it was open or not, it is open then
opens_any : (h : Header) (c : Choices) (b : Established) (x : Leg) (tx : Sender) (rx : RxParts) (tunnel : Outgoing) → IsUnused tx → (opened : Bool)
    → unlock c (active_anchor (active_as h b x tx rx opened tunnel)) ≡ (active_anchor (active_as h b x tx rx true tunnel), silent)
opens_any h c b x tx rx tunnel unused true = refl
opens_any h c b x tx rx tunnel unused false =
    let same : record { n = tx.n; next = tx.next; kept = []; held = [] } ≡ tx =
    ap (λ k. record { n = tx.n; next = tx.next; kept = k; held = [] }) (sym unused.kept) ∙ ap (λ k. record { n = tx.n; next = tx.next; kept = tx.kept; held = k }) (sym unused.held) in
    subst (λ t. unlock c (active_anchor (active_as h b x t rx false tunnel)) ≡ (active_anchor (active_as h b x t rx true tunnel), silent)) same
    (opens_unused h c b x tx.n tx.next rx tunnel unused.short)

-- what is held of an identity makes it one of the identities
held_listed : {X : Type 0} (id : ℕ) (x : X) (xs : List (ℕ × X)) → held id xs ≡ Some x → list_any (λ i. id == i) (identities xs) ≡ true
held_listed id x [] at = absurd cc
held_listed id x (e ∷ es) at =
    elim (cases_Bool (id == e.0)) [
      | inl here ↦ rw here refl
      | inr there ↦ let later = rw there at (sym (held-cons id e es) ∙ at) in rw there (held_listed id x es later)
    ]

-- the command that sets a bearer up
abbrev pub change_of : ℕ → ℕ → SnLen → ℕ → Shape → ℕ → ℕ → Option Command
change_of g i n first shape threshold policy = Some (gone (plan_for g i n first shape threshold policy) (record { complete = false; due = None; confirms = false; leaving = None; moving = [] }))

-- ---- all anchors of the generation

-- not an anchor of this generation
abbrev IsOther : ℕ → Option AnchorState → Type 0
IsOther g None = Unit {0}
IsOther g (Some a) = ((setup_at a).g == g) ≡ false

module _ (h : Header) (c : Choices) (drawn : ℕ) (y : Inside) (g id : ℕ) (b : Established) (x : Leg) (tx : Sender) (rx : RxParts) (tunnel : Outgoing)
    (own : b.g ≡ g) (unused : IsUnused tx) (others : (k : ℕ) → (id == k) ≡ false → IsOther g (held k y.anchors)) where
  -- the master with these anchors, and one anchor's step
  abbrev with_anchors : List (ℕ × AnchorState) → MasterNode
  with_anchors anchors = master_as h drawn (record y { anchors = anchors })

  abbrev step : MasterNode → ℕ → MasterNode × Effects
  step n i = on_anchor_of n g (unlock c) i (held i n.anchors)

  abbrev mine : Bool → AnchorState
  mine opened = active_anchor (active_as h b x tx rx opened tunnel)

  -- what the steps for these identities leave
  record Unlocked (ids : List ℕ) (anchors : List (ℕ × AnchorState)) (opened : Bool) : Type 0 where
    after : List (ℕ × AnchorState)
    opens : Bool
    is : in_turn step (with_anchors anchors) ids ≡ (with_anchors after, quiet)
    here : held id after ≡ Some (mine opens)
    elsewhere : (k : ℕ) → (id == k) ≡ false → held k after ≡ held k y.anchors
    still : opened ≡ true → opens ≡ true
    reached : list_any (λ i. id == i) ids ≡ true → opens ≡ true

  -- an anchor of another generation is left
  left_alone : (anchors : List (ℕ × AnchorState)) (i : ℕ) (a : Option AnchorState) → IsOther g a → on_anchor_of (with_anchors anchors) g (unlock c) i a ≡ (with_anchors anchors, quiet)
  left_alone anchors i None other = refl
  left_alone anchors i (Some a) other = rw other refl

  unlock_each : (ids : List ℕ) (anchors : List (ℕ × AnchorState)) (opened : Bool) → held id anchors ≡ Some (mine opened)
      → ((k : ℕ) → (id == k) ≡ false → held k anchors ≡ held k y.anchors) → Unlocked ids anchors opened
  unlock_each [] anchors opened here elsewhere = record {
    after = anchors;
    opens = opened;
    is = refl;
    here = here;
    elsewhere = elsewhere;
    still = λ is. is;
    reached = λ is. absurd cc;
  }
  unlock_each (i ∷ ids) anchors opened here elsewhere =
      elim (cases_Bool (id == i)) [
        | inl it ↦
            let is_id : id ≡ i = eqb-true id i it in
            let at : held i anchors ≡ Some (mine opened) = subst (λ j. held j anchors ≡ Some (mine opened)) is_id here in
            let next = holding i (Some (mine true)) anchors in
            let rest = unlock_each ids next true (subst (λ j. held id (holding j (Some (mine true)) anchors) ≡ Some (mine true)) is_id (held-same id (mine true) anchors))
            (λ k apart. held-other i k (mine true) anchors (ap (λ j. j == k) (sym is_id) ∙ apart) ∙ elsewhere k apart) in
            let one : step (with_anchors anchors) i ≡ (with_anchors next, quiet) = rw (at, eq-eqb b.g g own) (ap (λ done. anchor_did (with_anchors anchors) i done) (opens_any h c b x tx rx tunnel unused opened)) in
            record {
              after = rest.after;
              opens = rest.opens;
              is = rw one rest.is;
              here = rest.here;
              elsewhere = rest.elsewhere;
              still = λ is. rest.still refl;
              reached = λ is. rest.still refl;
            }
        | inr apart ↦
            let rest = unlock_each ids anchors opened here elsewhere in
            let other : IsOther g (held i anchors) = subst (IsOther g) (sym (elsewhere i apart)) (others i apart) in
            record {
              after = rest.after;
              opens = rest.opens;
              is = rw (left_alone anchors i (held i anchors) other) rest.is;
              here = rest.here;
              elsewhere = rest.elsewhere;
              still = rest.still;
              reached = λ is. rest.reached (let later = rw apart at is in later);
            }
      ]

  -- all of them, from the master as it is
  all_unlocked : (opened : Bool) → held id y.anchors ≡ Some (mine opened)
      → (after : List (ℕ × AnchorState)) × (in_turn step (master_as h drawn y) (identities y.anchors) ≡ (with_anchors after, quiet))
      × (held id after ≡ Some (mine true)) × ((k : ℕ) → (id == k) ≡ false → held k after ≡ held k y.anchors)
  all_unlocked opened here =
      let done = unlock_each (identities y.anchors) y.anchors opened here (λ k apart. refl) in
      (done.after, done.is, subst (λ o. held id done.after ≡ Some (mine o)) (done.reached (held_listed id (mine opened) y.anchors here)) done.here, done.elsewhere)

-- ---- the command is done

-- an anchor of a bearer that the command does not set up is of another generation
other_of : (h : Header) (drawn g i : ℕ) (n : SnLen) (first : ℕ) (shape : Shape) (threshold policy : ℕ) (k : ℕ)
    {o : Option Entities} {r : Option Row} {a : Option AnchorState} {w : Option Window}
    → SameBearer h drawn (Some (change g)) (change_of g i n first shape threshold policy) k o r a w → (i == k) ≡ false → IsOther g a
other_of h drawn g i n first shape threshold policy k no_bearer apart = tt
other_of h drawn g i n first shape threshold policy k (a_bearer e x r opened tunnel w is) apart =
    let known : is_unsettled k (change_of g i n first shape threshold policy) ≡ false = rw apart refl in
    eqb_sym e.bearer.g g ∙ sym is.unsettled ∙ known

-- no command is open for any other bearer
others_idle : (h : Header) (drawn g i : ℕ) (n : SnLen) (first : ℕ) (shape : Shape) (threshold policy : ℕ) (k : ℕ)
    {o : Option Entities} {r : Option Row} {a : Option AnchorState} {w : Option Window}
    → SameBearer h drawn (Some (change g)) (change_of g i n first shape threshold policy) k o r a w → (i == k) ≡ false → SameBearer h drawn None None k o r a w
others_idle h drawn g i n first shape threshold policy k no_bearer apart = no_bearer
others_idle h drawn g i n first shape threshold policy k (a_bearer e x r opened tunnel w is) apart =
    let known : is_unsettled k (change_of g i n first shape threshold policy) ≡ false = rw apart refl in
    a_bearer e x r opened tunnel w (record {
      named = is.named;
      tags = is.tags;
      confirmed = is.confirmed;
      n = is.n;
      tx_n = is.tx_n;
      anchor = is.anchor;
      accepted = is.accepted;
      told = is.told;
      known = is.known;
      unsettled = refl;
      open_is = is.open_is ∙ ap not (sym is.unsettled ∙ known);
      unused = λ open'. absurd cc;
    })

module _ (h : Header) (c : Choices) (drawn : ℕ) (table terminal : Table) (y : Inside) (g i : ℕ) (n : SnLen) (first : ℕ) (shape : Shape) (threshold policy : ℕ)
    (same : SameMaster h (nodes_as drawn (Some (change g)) table terminal) (with_command y (change_of g i n first shape threshold policy))) where
  -- the bearer that is set up is of that generation
  completed_of : (j : ℕ) (e : Entities) → e.bearer.g ≡ g → {o : Option Entities} {r : Option Row} {a : Option AnchorState} {w : Option Window}
      → SameBearer h drawn (Some (change g)) (change_of g i n first shape threshold policy) j o r a w
      → o ≡ Some e → bearer_in table j ≡ o → find (λ r. r.id == j) y.rows ≡ r → held j y.anchors ≡ a → held j y.windows ≡ w
      → let f = flight.Ctl (Rcomp g) in let s = nodes_as drawn (Some (change g)) table terminal in
      MasterDid h (master.master_step c (master_as h drawn (with_command y (change_of g i n first shape threshold policy))) (Come tm_ctl f)) (let done = told_master s f in (done.0, (answer.Ok, done.1)))
  completed_of j e own no_bearer it at row anchor_at window_at = absurd cc
  completed_of j e own (a_bearer e' x r opened tunnel w is) it at row anchor_at window_at =
      let s = nodes_as drawn (Some (change g)) table terminal in
      let e_is : e' ≡ e = cc in
      let own' : e'.bearer.g ≡ g = ap (λ (z : Entities). z.bearer.g) e_is ∙ own in
      let opening : is_change (Some (change g)) e'.bearer.g ≡ true = eq-eqb g e'.bearer.g (sym own') in
      let known : is_unsettled j (change_of g i n first shape threshold policy) ≡ true = is.unsettled ∙ opening in
      let here : i ≡ j = the_one known in
      let others : (k : ℕ) → (j == k) ≡ false → IsOther g (held k y.anchors) =
      λ k apart. other_of h drawn g i n first shape threshold policy k (same.bearers k) (ap (λ m. m == k) here ∙ apart) in
      let y0 = with_command y None in
      let unlocked = all_unlocked h c drawn y0 g j e'.bearer x e'.tx e'.rx tunnel own' (is.unused opening) others opened anchor_at in
      let after = record y0 { anchors = unlocked.0 } in
      let it_is : (g == g) ≡ true = eq-eqb g g refl in
      let P : ℕ → Type 0 = λ k. SameBearer h drawn None None k (bearer_in table k) (find (λ r. r.id == k) y.rows) (held k unlocked.0) (held k y.windows) in
      did_there h {done' = (with_busy s None, (answer.Ok, line.Note note.Done ∷ []))} refl (rw it_is refl) (record {
        after = after;
        notes = note.Done ∷ [];
        sends = [];
        is = rw it_is (ap (λ (u : MasterNode × Effects). accepted (u.0, both u.1 (both (noted note.Done) quiet))) unlocked.1);
        lined = refl;
        plain = (tt, tt);
        same = record {
          bearers = λ k. elim (cases_Bool (j == k)) [
            | inl one ↦ subst P (eqb-true j k one) (same_bearer_by h drawn None None j at row unlocked.2 window_at (a_bearer e' x r true tunnel w (record {
              named = is.named;
              tags = is.tags;
              confirmed = is.confirmed;
              n = is.n;
              tx_n = is.tx_n;
              anchor = is.anchor;
              accepted = is.accepted;
              told = is.told;
              known = is.known;
              unsettled = refl;
              open_is = refl;
              unused = λ open'. absurd cc;
            })))
            | inr apart ↦ same_bearer_by h drawn None None k refl refl (unlocked.3 k apart) refl
                (others_idle h drawn g i n first shape threshold policy k (same.bearers k) (ap (λ m. m == k) here ∙ apart))
          ];
          command = no_command;
          unclaimed = same.unclaimed;
        };
      })
    where
      the_one : ((i == j) || false) ≡ true → i ≡ j
      the_one is = elim (cases_Bool (i == j)) [ inl yes' ↦ eqb-true i j yes' | inr no' ↦ absurd (let e = rw no' at is in cc (e)) ]

-- the terminal took the plan
pub completed_there : (h : Header) (c : Choices) (drawn : ℕ) (table terminal : Table) (y : Inside) (g j : ℕ) (e : Entities) → e.bearer.g ≡ g → bearer_in table j ≡ Some e
    → {o : Option OpenCommand} {k : Option Command} → SameCommand o k → o ≡ Some (change g) → SameMaster h (nodes_as drawn o table terminal) (with_command y k)
    → let f = flight.Ctl (Rcomp g) in
    MasterDid h (master.master_step c (master_as h drawn (with_command y k)) (Come tm_ctl f)) (let done = told_master (nodes_as drawn o table terminal) f in (done.0, (answer.Ok, done.1)))
completed_there h c drawn table terminal y g j e own at no_command is same = absurd cc
completed_there h c drawn table terminal y g j e own at (a_recovery i) is same = absurd cc
completed_there h c drawn table terminal y g j e own at (a_change g' i n first shape threshold policy) is same =
    let here : g' ≡ g = cc in
    let P : ℕ → Type 0 = λ q. let f = flight.Ctl (Rcomp q) in
    MasterDid h (master.master_step c (master_as h drawn (with_command y (change_of g' i n first shape threshold policy))) (Come tm_ctl f))
    (let done = told_master (nodes_as drawn (Some (change g')) table terminal) f in (done.0, (answer.Ok, done.1))) in
    subst P here (completed_of h c drawn table terminal y g' i n first shape threshold policy same j e (own ∙ sym here) (same.bearers j) at refl refl refl refl)
