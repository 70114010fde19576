-- The master sets a bearer up, or refuses it.
use Rattle.std.proofs.Common.{ℕ, ◌≡◌, ◌+◌, ◌-◌, ◌^◌, ◌<◌, ◌==◌, Bool, true, false, List, [], ◌∷◌, Option, Some, None, length, refl, sym, ap, subst, ◌∙◌, inl, inr, arith}
use Rattle.std.specs.Prelude.{find, not, nat_le}
use Rattle.std.specs.List.{list_any}
use Rattle.std.proofs.lemmas.Bool.{cases_Bool, eq-eqb, eqb-true, eqb-false, ne_eqb, not-true, or_parts, or_from}
use Rattle.std.proofs.lemmas.List.Folds.{list_any-append}
use Rattle.dc_base.specs.Nodes.{is_mm}
use Rattle.dc_base.specs.declared.answers.Refusal.TheVariants as refusal
use Rattle.dc_base.specs.declared.events.Event.TheVariants as event
use Rattle.dc_base.specs.declared.events.Header.{Header}
use Rattle.dc_base.specs.declared.events.Note.TheVariants as note
use Rattle.dc_base.specs.declared.flights.Flight.TheVariants as flight
use Rattle.dc_base.specs.declared.nodes.KeyName.{KeyName}
use Rattle.dc_base.specs.declared.nodes.LegSet.TheVariants.{Mcg}
use Rattle.dc_base.specs.declared.nodes.Node.TheVariants.{M}
use Rattle.dc_base.specs.declared.nodes.Shape.{Shape}
use Rattle.dc_base.specs.declared.numbers.SnLen.{SnLen}
use Rattle.dc_base.specs.declared.records.Rec.TheVariants.{Reconf}
use Rattle.key_chain.specs.Book.{Claim, is_claimed, is_spent, spends, with_claim}
use Rattle.transcript.specs.Bearers.{OpenCommand, change, recovery, master_key}
use Rattle.transcript.specs.Content.{mt_ctl}
use Rattle.master_runs.specs.Control.{commanded, opened, plan_for, set_up}
use Rattle.master_runs.specs.Entities.{Entities, Table, bearer_in, fresh, with_bearer}
use Rattle.master_runs.proofs.Tables.{bearer_in-same, bearer_in-other}
use Rattle.node_rules.specs.Anchor.{AnchorState, active_anchor, new_tunnel}
use Rattle.node_rules.specs.Choices.{Choices}
use Rattle.node_rules.specs.Held.{held, holding}
use Rattle.node_rules.specs.CommandTable.{with_row}
use Rattle.node_rules.specs.MasterStep as master
use Rattle.node_rules.specs.declared.bearers.Window.{Window}
use Rattle.node_rules.specs.declared.commands.Command.{Command}
use Rattle.node_rules.specs.declared.commands.Command.TheVariants.{Gone as gone}
use Rattle.node_rules.specs.declared.commands.Row.{Row}
use Rattle.master_runs.specs.Forms.{Leg}
use Rattle.master_runs.specs.Same.{Inside, IsBearer, SameBearer, no_bearer, a_bearer, SameCommand, no_command, a_change, a_recovery, SameMaster, MasterDid, master_as, is_unclaimed}
use Rattle.master_runs.proofs.Holding.{held-same, held-other, row-same, row-other}
use Rattle.master_runs.proofs.Bearers.{active_as, bearer_map, did_there, same_bearer_by}
use Rattle.master_runs.proofs.SameConfiguring.{mm_shape, unused_leg}
use Rattle.master_runs.proofs.SameSubmitting.{unchanged}
use Rattle.master_runs.proofs.SameRecovering.{nodes_as, with_command}

-- no key is spent for an identity that has no claim
unspent : (id est : ℕ) (key : KeyName) (claims : List Claim) → list_any (λ c. id == c.id) claims ≡ false → is_spent claims id est key ≡ false
unspent id est key [] none = refl
unspent id est key (x ∷ xs) none =
    let parts = or_parts (id == x.id) (list_any (λ c. id == c.id) xs) none in
    or_from (spends id est key x) (list_any (spends id est key) xs) (rw parts.0 refl) (unspent id est key xs parts.1)

-- another identity's claim claims nothing for it
unclaimed-with : (id k est : ℕ) (key : KeyName) (claims : List Claim) → (id == k) ≡ false → is_unclaimed k claims ≡ true
    → is_unclaimed k (with_claim claims (record { id = id; key = key; est = est })) ≡ true
unclaimed-with id k est key claims apart none =
    let claim : Claim = record { id = id; key = key; est = est } in
    let other : (k == id) ≡ false = ne_eqb k id (λ is. eqb-false id k apart (sym is)) in
    elim (cases_Bool (is_claimed claims claim)) [
      | inl there ↦ rw there none
      | inr new ↦ rw new (ap not (list_any-append (λ (c : Claim). k == c.id) claims (claim ∷ []) ∙ or_from _ _ (not-true _ none) (rw other refl)))
    ]

module _ (h : Header) (c : Choices) (drawn : ℕ) (table terminal : Table) (y : Inside) (id : ℕ) (n : SnLen) (first : ℕ) (dup : Bool) (threshold policy : ℕ)
    (same : SameMaster h (nodes_as drawn None table terminal) (with_command y None)) (small : id < length table) (short : first < 2 ^ 32 - 1) where
  -- the generation, the shape and the plan
  abbrev the_generation : ℕ
  the_generation = drawn + 1

  abbrev the_shape : Shape
  the_shape = record { at_second = false; legs = Mcg; dup = dup }

  abbrev the_command : Option Command
  the_command = Some (gone (plan_for the_generation id n first the_shape threshold policy) (record { complete = false; due = None; confirms = false; leaving = None; moving = [] }))

  -- the row, the window, the leg and the anchor
  abbrev the_row : Row
  the_row = record { id = id; est = the_generation; n = n; first = first; shape = the_shape; threshold = threshold; policy = policy; key = master_key 0; anchor = M; g = the_generation }

  abbrev the_window : Window
  the_window = record { accepted = 0; told = first }

  abbrev the_leg : Leg
  the_leg = unused_leg dup threshold policy

  abbrev the_bearer : Entities
  the_bearer = fresh (opened the_generation id n first)

  abbrev the_state : Inside
  the_state = record y {
    claims = with_claim y.claims (record { id = id; key = master_key 0; est = the_generation });
    rows = with_row the_row y.rows;
    command = the_command;
    anchors = holding id (Some (active_anchor (active_as h the_bearer.bearer the_leg the_bearer.tx the_bearer.rx false (new_tunnel n)))) y.anchors;
    windows = holding id (Some the_window) y.windows;
  }

  -- the new bearer
  new_bearer : IsBearer the_generation (Some (change the_generation)) the_command id the_bearer the_leg the_row false the_window
  new_bearer = record {
    named = refl;
    tags = refl;
    confirmed = tt;
    n = refl;
    tx_n = refl;
    anchor = refl;
    accepted = omega arith;
    told = refl;
    known = omega arith;
    unsettled = rw (eq-eqb id id refl, eq-eqb the_generation the_generation refl) refl;
    open_is = rw (eq-eqb the_generation the_generation refl) refl;
    unused = λ is. record { kept = refl; held = refl; short = short };
  }

  -- any other, which is of an earlier generation
  old_bearer : (k : ℕ) → (id == k) ≡ false → (e : Entities) (x : Leg) (r : Row) (opened : Bool) (w : Window)
      → IsBearer drawn None None k e x r opened w → IsBearer the_generation (Some (change the_generation)) the_command k e x r opened w
  old_bearer k apart e x r opened w is =
      let known = is.known in
      let older : (the_generation == e.bearer.g) ≡ false = ne_eqb the_generation e.bearer.g (λ same. omega arith) in
      record {
        named = is.named;
        tags = is.tags;
        confirmed = is.confirmed;
        n = is.n;
        tx_n = is.tx_n;
        anchor = is.anchor;
        accepted = is.accepted;
        told = is.told;
        known = omega arith;
        unsettled = rw (apart, older) refl;
        open_is = rw older is.open_is;
        unused = λ open'. absurd cc;
      }

  -- the two masters then
  set_up_same : SameMaster h (set_up h (nodes_as drawn None table terminal) id n first the_shape threshold policy).0 the_state
  set_up_same =
      let a = active_anchor (active_as h the_bearer.bearer the_leg the_bearer.tx the_bearer.rx false (new_tunnel n)) in
      let table' = with_bearer table id (Some the_bearer) in
      let P : ℕ → Type 0 = λ k. SameBearer h the_generation (Some (change the_generation)) the_command k (bearer_in table' k) (find (λ r. r.id == k) the_state.rows) (held k the_state.anchors) (held k the_state.windows) in
      record {
        bearers = λ k. elim (cases_Bool (id == k)) [
          | inl it ↦ subst P (eqb-true id k it)
              (same_bearer_by h the_generation (Some (change the_generation)) the_command id (bearer_in-same table id (Some the_bearer) small) (row-same the_row y.rows) (held-same id a y.anchors) (held-same id the_window y.windows)
              (a_bearer the_bearer the_leg the_row false (new_tunnel n) the_window new_bearer))
          | inr apart ↦ same_bearer_by h the_generation (Some (change the_generation)) the_command k
              (bearer_in-other table id k (Some the_bearer) apart) (row-other the_row k y.rows apart) (held-other id k a y.anchors apart) (held-other id k the_window y.windows apart)
              (bearer_map h drawn None None the_generation (Some (change the_generation)) the_command k (old_bearer k apart) (same.bearers k))
        ];
        command = a_change the_generation id n first the_shape threshold policy;
        unclaimed = λ k none. elim (cases_Bool (id == k)) [
          | inl it ↦ absurd (let is : bearer_in table' k ≡ Some the_bearer = subst (λ j. bearer_in table' j ≡ Some the_bearer) (eqb-true id k it) (bearer_in-same table id (Some the_bearer) small) in cc)
          | inr apart ↦ unclaimed-with id k the_generation (master_key 0) y.claims apart (same.unclaimed k (sym (bearer_in-other table id k (Some the_bearer) apart) ∙ none))
        ];
      }

  -- the command, where the identity has no bearer
  set_up_there : bearer_in table id ≡ None → find (λ r. r.id == id) y.rows ≡ None
      → MasterDid h (master.command_taken c (master_as h drawn (with_command y None)) (event.Bearer id n first the_shape threshold policy))
      (commanded (length c.policies) h (nodes_as drawn None table terminal) id n first the_shape threshold policy)
  set_up_there at row =
      elim (cases_Bool (nat_le (length c.policies) policy)) [
        | inl unknown ↦ did_there h (rw (row, unknown) refl) (rw (at, unknown) refl) (unchanged h c (nodes_as drawn None table terminal) (with_command y None) same refusal.NoPolicy)
        | inr known ↦
            let free = unspent id the_generation (master_key 0) y.claims (not-true _ (same.unclaimed id at)) in
            did_there h {done' = set_up h (nodes_as drawn None table terminal) id n first the_shape threshold policy} refl (rw (at, known) refl) (record {
              after = the_state;
              notes = note.Own M id the_generation ∷ [];
              sends = (mt_ctl, flight.Ctl (Reconf (plan_for the_generation id n first the_shape threshold policy) h.root)) ∷ [];
              is = rw (row, known, free) refl;
              lined = refl;
              plain = (tt, ((refl, tt), tt));
              same = set_up_same;
            })
      ]

-- a bearer is commanded
pub bearer_down : (h : Header) (c : Choices) (drawn : ℕ) (table terminal : Table) (y : Inside) (id : ℕ) (n : SnLen) (first : ℕ) (shape : Shape) (threshold policy : ℕ)
    {g : Option OpenCommand} {k : Option Command} → SameCommand g k → SameMaster h (nodes_as drawn g table terminal) (with_command y k) → id < length table → first < 2 ^ 32 - 1
    → MasterDid h (master.command_taken c (master_as h drawn (with_command y k)) (event.Bearer id n first shape threshold policy))
    (commanded (length c.policies) h (nodes_as drawn g table terminal) id n first shape threshold policy)
bearer_down h c drawn table terminal y id n first shape threshold policy (a_change g i m f s u v) same small short =
    unchanged h c (nodes_as drawn (Some (change g)) table terminal) _ same refusal.Busy
bearer_down h c drawn table terminal y id n first shape threshold policy (a_recovery i) same small short =
    unchanged h c (nodes_as drawn (Some (recovery i)) table terminal) _ same refusal.Busy
bearer_down h c drawn table terminal y id n first shape threshold policy no_command same small short = by (same.bearers id) refl refl
  where
    by : {o : Option Entities} {r : Option Row} {a : Option AnchorState} {w : Option Window} → SameBearer h drawn None None id o r a w
        → bearer_in table id ≡ o → find (λ r. r.id == id) y.rows ≡ r
        → MasterDid h (master.command_taken c (master_as h drawn (with_command y None)) (event.Bearer id n first shape threshold policy))
        (commanded (length c.policies) h (nodes_as drawn None table terminal) id n first shape threshold policy)
    by (a_bearer e x r opened tunnel w is) at row =
        did_there h (rw row refl) (rw at refl) (unchanged h c (nodes_as drawn None table terminal) (with_command y None) same refusal.BearerThere)
    by no_bearer at row =
        elim (cases_Bool (is_mm shape)) [
          | inl mm ↦
              let P : Shape → Type 0 = λ shape. MasterDid h (master.command_taken c (master_as h drawn (with_command y None)) (event.Bearer id n first shape threshold policy))
              (commanded (length c.policies) h (nodes_as drawn None table terminal) id n first shape threshold policy) in
              subst P (sym (mm_shape shape mm)) (set_up_there h c drawn table terminal y id n first shape.dup threshold policy same small short at row)
          | inr away ↦ did_there h (rw (row, away) refl) (rw (at, away) refl) (unchanged h c (nodes_as drawn None table terminal) (with_command y None) same refusal.NoSecondary)
        ]
