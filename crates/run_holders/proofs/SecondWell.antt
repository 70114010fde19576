-- Each step of a secondary node meets what it has to: it takes no record that drops what it has an active anchor of, or has none of it after
-- it; and each anchor that becomes active is of the latest establishment of its bearer, of which no other node has an active one.
use Rattle.std.proofs.Common.{ℕ, ◌≡◌, ◌≤◌, ◌==◌, ◌∙◌, Bool, true, false, List, [], ◌∷◌, Some, None, refl, sym, ap, subst, arith, inl}
use Rattle.std.specs.List.{AllByRecursion}
use Rattle.std.specs.Prelude.{if◌then◌else◌, ◌&&◌}
use Rattle.std.proofs.lemmas.Bool.{eq-eqb}
use Rattle.std.proofs.lemmas.Option.{same_Some}
use Rattle.dc_base.specs.Links.{link}
use Rattle.dc_base.specs.Nodes.{is_same_node, is_secondary}
use Rattle.dc_base.specs.Records.{item_id}
use Rattle.dc_base.specs.declared.events.Event.{Event}
use Rattle.dc_base.specs.declared.events.Line.TheVariants as line
use Rattle.dc_base.specs.declared.events.Note.{Note}
use Rattle.dc_base.specs.declared.events.Note.TheVariants as note
use Rattle.dc_base.specs.declared.nodes.Class.TheVariants.{Ctl}
use Rattle.dc_base.specs.declared.nodes.Node.{Node}
use Rattle.dc_base.specs.declared.nodes.Node.TheVariants.{A, B, M}
use Rattle.dc_base.specs.declared.records.Item.{Item}
use Rattle.dc_base.specs.declared.records.Plan.{Plan}
use Rattle.dc_base.specs.declared.records.Rec.{Rec}
use Rattle.dc_base.specs.declared.records.Rec.TheVariants as rec
use Rattle.dc_base.specs.declared.records.StatusTransfer.{StatusTransfer}
use Rattle.node_rules.specs.Choices.{Choices, Send}
use Rattle.node_rules.specs.Parts.{part_at}
use Rattle.node_rules.specs.Run.{given_to, happening}
use Rattle.node_rules.specs.SecondStep.{is_fit, plan_in, second_step}
use Rattle.node_rules.specs.Secondary.{name_of}
use Rattle.node_rules.specs.World.{World}
use Rattle.node_rules.specs.declared.inputs.Input.{Input}
use Rattle.claims.specs.Judged.{judged}
use Rattle.claims.specs.Past.{Past}
use Rattle.run_control.proofs.Records.{bare_records}
use Rattle.run_control.proofs.SecondHears.{fits_is}
use Rattle.run_control.proofs.Taken.{Takes, left_by, records_in, takes_none, takes_one}
use Rattle.run_control.specs.Claims.{second_at}
use Rattle.run_control.specs.Links.{records_on}
use Rattle.run_control.specs.Orders.{Ascends}
use Rattle.run_control.specs.SecondControl.{bare_record, fits, is_holding}
use Rattle.run_control.specs.Steps.{record_in}
use Rattle.run_control.specs.Views.{Stage, View, has_status, holds, is_awaited, is_lacking, lacks_status, second_view}
use Rattle.run_pairs.proofs.Runs.{LinePaired}
use Rattle.run_places.proofs.Runs.{IsWhole}
use Rattle.run_places.proofs.States.{course_of}
use Rattle.run_places.proofs.Whole.{There}
use Rattle.run_places.specs.Tokens.{kept_at, kept_by, status_in, statuses}
use Rattle.run_words.proofs.Lines.{each_line_of}
use Rattle.run_holders.specs.LeftOver.{SecondLines}
use Rattle.run_holders.specs.Owning.{OwnsWell, SetsLatest}
use Rattle.run_holders.specs.Suited.{actives_at}
use Rattle.run_holders.proofs.SecondWellAlways.{AreEstablished}
use Rattle.run_holders.proofs.SecondWellApart.{alone_a, alone_b}
use Rattle.run_holders.proofs.SecondWellDrops.{input_of, none_comes, takes_of, takes_well}
use Rattle.run_holders.proofs.SecondWellJudged.{no_draft, sets_judged}
use Rattle.run_holders.proofs.SecondWellActs.{IsAmong, OwnBy, is_active_part}
use Rattle.run_holders.proofs.SecondWellOwns.{OwnsBy, step_owns}
use Rattle.run_holders.proofs.SecondWellPlans.{IsAlone, flag_in, held_at, plan_owns}
use Rattle.run_holders.proofs.SecondWellWaits.{waiting_owns}
use Rattle.run_holders.proofs.TerminalSuited.{taker}

-- ---- each anchor that becomes active

lacking_idle : (k : Stage) → is_lacking k ≡ true → is_holding k ≡ false
lacking_idle lacks_status is = refl
lacking_idle holds is = absurd (let bad : false ≡ true = is in cc)
lacking_idle has_status is = absurd (let bad : false ≡ true = is in cc)

second_true : (a b : Bool) → (a && b) ≡ true → b ≡ true
second_true true b is = is
second_true false b is = absurd (let bad : false ≡ true = is in cc)

-- it is of such a generation, and the node alone has it, or is to have it
abbrev OwnsThere : Past → World → Node → ℕ → ℕ → Type 0
OwnsThere p w x id g = SetsLatest p id g × IsAlone w x id

module _ (c : Choices) (p : Past) (w : World) (is : AreEstablished p w) (whole : IsWhole w) (x : Node) (second : is_secondary x ≡ true) (pair : LinePaired w x)
    (there : There x (course_of (flag_in w) w.master.proc.command) (second_view (second_at x w)) (bare_records (records_on M x w)))
    (named : name_of (second_at x w) ≡ x) (up : Ascends (second_at x w).anchors)
    (e : Event) (i : Input) (at : happening w e ≡ given_to x i) where
  -- once it has the status transfer
  by_rest : (id : ℕ) (v : View) → second_view (second_at x w) id ≡ Some v → v.stage ≡ has_status → OwnsThere p w x id v.bearer.g
  by_rest id v seen had =
      let held : 1 ≤ held_at w x id =
      omega (arith, ap kept_by seen, ap kept_at had) in (waiting_owns p w is whole x second there id v seen (ap is_holding had) held, inl held)

  -- by the status transfer that comes first
  by_status : (st : StatusTransfer) (v : View) (rest : List Rec) → records_on M x w ≡ rec.Snst st ∷ rest → second_view (second_at x w) st.id ≡ Some v
      → is_awaited st v ≡ true → OwnsThere p w x st.id v.bearer.g
  by_status st v rest first seen awaited =
      let one : status_in st.id (bare_record (rec.Snst st)) ≡ 1 = ap (λ (b : Bool). if b then 1 else 0) (eq-eqb st.id st.id refl) in
      let held : 1 ≤ held_at w x st.id = omega (arith, ap (λ rs. statuses st.id (bare_records rs)) first, one) in
      let idle = lacking_idle v.stage (second_true ((v.bearer.id == st.id) && (v.bearer.g == st.g)) (is_lacking v.stage) awaited) in
      (waiting_owns p w is whole x second there st.id v seen idle held, inl held)

  by_plan : (r : Rec) (q : Plan) (it : Item) (rest : List Rec) → records_on M x w ≡ r ∷ rest → is_fit (second_at x w) r ≡ true → plan_in r ≡ Some q
      → IsAmong it q.items → is_active_part (part_at (name_of (second_at x w)) q.sec it) ≡ true → OwnsThere p w x (item_id it) q.g
  by_plan r q it rest first fit plan among active =
      plan_owns p w is whole x second pair there r q it rest first
      (subst (λ y. fits y (second_view (second_at x w)) r ≡ true) named (sym (fits_is (second_at x w) r) ∙ fit)) plan among
      (subst (λ y. is_active_part (part_at y q.sec it) ≡ true) named active)

  owns_by : Takes (link M x Ctl) (given_to x i) (records_on M x w) (records_in (left_by c w (link M x Ctl) refl e (happening w e)))
      → OwnsBy (OwnsThere p w x) (second_at x w) i
  owns_by (takes_one r first is') =
      let rest = records_in (left_by c w (link M x Ctl) refl e (happening w e)) in
      let came : record_in i ≡ Some r = ap record_in (ap (input_of i) is') in
      record {
        plan = λ z q it comes fit plan among active.
            let same : r ≡ z = same_Some r z (sym came ∙ comes) in
            by_plan z q it rest (first ∙ ap (λ y. y ∷ rest) same) fit plan among active;
        status = λ st v comes seen awaited. by_status st v rest (first ∙ ap (λ y. y ∷ rest) (same_Some r (rec.Snst st) (sym came ∙ comes))) seen awaited;
        rest = by_rest;
      }
  owns_by (takes_none same none) = record {
    plan = λ z q it comes fit plan among active. absurd (none_comes c p w is x second pair up e i at none z comes);
    status = λ st v comes seen awaited. absurd (none_comes c p w is x second pair up e i at none (rec.Snst st) comes);
    rest = by_rest;
  }

  notes_own : Takes (link M x Ctl) (given_to x i) (records_on M x w) (records_in (left_by c w (link M x Ctl) refl e (happening w e)))
      → AllByRecursion (OwnBy (OwnsThere p w x)) (second_step c (second_at x w) i).1.notes
  notes_own takes = step_owns (OwnsThere p w x) c (second_at x w) i (owns_by takes)

-- ---- its lines

note_well : (P : ℕ → ℕ → Type 0) (q : Past) (w : World) (x : Node)
    → ((id g : ℕ) → P id g → SetsLatest q id g × ((z : Node) → is_same_node x z ≡ false → actives_at z w id ≡ None)) → (n : Note) → OwnBy P n
    → OwnsWell q w x (line.Note n)
note_well P q w x so (note.Own y id g) own = so id g own
note_well P q w x so n own = tt

notes_well : (P : ℕ → ℕ → Type 0) (q : Past) (w : World) (x : Node)
    → ((id g : ℕ) → P id g → SetsLatest q id g × ((z : Node) → is_same_node x z ≡ false → actives_at z w id ≡ None)) → (ns : List Note)
    → AllByRecursion (OwnBy P) ns
    → AllByRecursion (λ n. OwnsWell q w x (line.Note n)) ns
notes_well P q w x so [] own = tt
notes_well P q w x so (n ∷ ns) own = (note_well P q w x so n own.0, notes_well P q w x so ns own.1)

sends_well : (q : Past) (w : World) (x : Node) (ss : List Send) → AllByRecursion (λ (s : Send). OwnsWell q w x (line.Send s.0 s.1)) ss
sends_well q w x [] = tt
sends_well q w x (s ∷ ss) = (tt, sends_well q w x ss)

-- each step of a secondary node meets what it has to
pub second_well_a : (c : Choices) (p : Past) (w : World) (e : Event) (i : Input) → AreEstablished p w → IsWhole w → happening w e ≡ given_to A i
    → SecondLines c p w e A (given_to A i)
second_well_a c p w e i is whole at =
    let kept = is.relays.holds.agreed.kept in
    let o = (second_step c w.a i).1 in
    let q = judged e o.answer p in
    let none = no_draft w e A (ap taker at) refl p.table in
    let own =
    notes_own c p w is whole A refl is.paired.a whole.a kept.named.a kept.ordered.a e i at (takes_of c p w is A refl is.paired.a kept.ordered.a e i at) in (
      takes_well c p w is A refl is.paired.a kept.ordered.a e i at,
      each_line_of (OwnsWell q w A) o
          (notes_well (OwnsThere p w A) q w A (λ id g so. (sets_judged p e o.answer id g none so.0, λ z apart. alone_a w whole id so.1 z apart)) o.notes own)
          (sends_well q w A o.sends),
    )

pub second_well_b : (c : Choices) (p : Past) (w : World) (e : Event) (i : Input) → AreEstablished p w → IsWhole w → happening w e ≡ given_to B i
    → SecondLines c p w e B (given_to B i)
second_well_b c p w e i is whole at =
    let kept = is.relays.holds.agreed.kept in
    let o = (second_step c w.b i).1 in
    let q = judged e o.answer p in
    let none = no_draft w e B (ap taker at) refl p.table in
    let own =
    notes_own c p w is whole B refl is.paired.b whole.b kept.named.b kept.ordered.b e i at (takes_of c p w is B refl is.paired.b kept.ordered.b e i at) in (
      takes_well c p w is B refl is.paired.b kept.ordered.b e i at,
      each_line_of (OwnsWell q w B) o
          (notes_well (OwnsThere p w B) q w B (λ id g so. (sets_judged p e o.answer id g none so.0, λ z apart. alone_b w whole id so.1 z apart)) o.notes own)
          (sends_well q w B o.sends),
    )
