-- Each record by which a plan is carried out carries the plan that was drawn, and the octets of the root.
use Rattle.std.proofs.Common.{ℕ, ◌≡◌, ◌==◌, ◌&&◌, Bool, true, false, List, [], ◌∷◌, Option, Some, None, refl, sym, ap, subst, ◌∙◌, inl, inr, arith}
use Rattle.std.specs.Prelude.{filter, fold, if◌then◌else◌, is_none, length, nat_le, ⊤}
use Rattle.std.specs.List.{AllByRecursion}
use Rattle.std.proofs.lemmas.Bool.{and_from, cases_Bool, eq-eqb}
use Rattle.std.proofs.lemmas.Bool.Decides.{nat_tests}
use Rattle.dc_base.specs.Count.{bits}
use Rattle.dc_base.specs.Nodes.{node_number}
use Rattle.dc_base.specs.declared.events.Event.{Event}
use Rattle.dc_base.specs.declared.events.Header.{Header}
use Rattle.dc_base.specs.declared.events.Line.{Line}
use Rattle.dc_base.specs.declared.events.Line.TheVariants as line
use Rattle.dc_base.specs.declared.events.Note.{Note}
use Rattle.dc_base.specs.declared.flights.Flight.{Flight}
use Rattle.dc_base.specs.declared.flights.Flight.TheVariants as flight
use Rattle.dc_base.specs.declared.nodes.KeyName.{KeyName}
use Rattle.dc_base.specs.declared.nodes.LinkId.{LinkId}
use Rattle.dc_base.specs.declared.nodes.Node.{Node}
use Rattle.dc_base.specs.declared.records.Item.{Item}
use Rattle.dc_base.specs.declared.records.Item.TheVariants.{Set, Unset}
use Rattle.dc_base.specs.declared.records.Plan.{Plan}
use Rattle.dc_base.specs.declared.records.Rec.{Rec}
use Rattle.dc_base.specs.declared.records.Rec.TheVariants as rec
use Rattle.key_chain.specs.KeyNames.{octets}
use Rattle.claims.specs.Claim.{Each, EachLine, of_lines}
use Rattle.claims.specs.Judged.{judged}
use Rattle.claims.specs.Names as claims
use Rattle.claims.specs.Names.{claim}
use Rattle.claims.specs.Noted.{noted}
use Rattle.claims.specs.Past.{Past, new_past}
use Rattle.claims.specs.Planned.{is_keyed, is_planned}
use Rattle.claims.specs.Sameness.{are_same_items, are_same_nodes, is_same_item, is_same_key, is_same_octets, is_same_plan, is_some_and, shape_number, side_number}
use Rattle.claims.specs.Table.{command_has, is_change, master_key}
use Rattle.node_rules.specs.Choices.{Choices}
use Rattle.node_rules.specs.Run.{entries_from, world_step}
use Rattle.node_rules.specs.World.{World, new_world}
use Rattle.run_table.specs.Orders.{IsFitting, OrderFits, before_order, is_order_line}
use Rattle.run_control.specs.Sound.{AddsSecond}
use Rattle.run_table.specs.View.{View, planned, view}
use Rattle.run_table.specs.Words.{Words, hears, is_word_line, lines_in, notes_of, order_sends, orders}
use Rattle.run_table.proofs.LineWords.{quiet_line}
use Rattle.run_table.proofs.Runs.{Lasts, lasts_new, lasts_next}
use Rattle.run_words.specs.Parts.{at_lines}
use Rattle.run_words.proofs.Runs.{each_if}
use Rattle.run_table.proofs.Steps.{agrees_after}
use Rattle.run_table.proofs.Views.{hears_answer, judged_view, noted_view}

-- ---- a plan is the same as itself

same_nodes : (o : Option Node) → are_same_nodes o o ≡ true
same_nodes None = refl
same_nodes (Some x) = eq-eqb (node_number x) (node_number x) refl

same_key : (k : KeyName) → is_same_key k k ≡ true
same_key k = and_from _ _ (eq-eqb k.root k.root refl) (eq-eqb (side_number k.side) (side_number k.side) refl)

same_item : (i : Item) → is_same_item i i ≡ true
same_item (Set id n first shape threshold policy key old) =
    rw (eq-eqb id id refl) (rw (eq-eqb (bits n) (bits n) refl) (rw (eq-eqb first first refl) (rw (eq-eqb (shape_number shape) (shape_number shape) refl)
    (rw (eq-eqb threshold threshold refl) (rw (eq-eqb policy policy refl) (rw (same_key key) (same_nodes old)))))))
same_item (Unset id) = eq-eqb id id refl

same_items : (is : List Item) → are_same_items is is ≡ true
same_items [] = refl
same_items (i ∷ is) = and_from _ _ (same_item i) (same_items is)

same_plan : (q : Plan) → is_same_plan q q ≡ true
same_plan q = rw (eq-eqb q.g q.g refl) (rw (same_nodes q.sec) (same_items q.items))

-- ---- a test that looks at orders alone, and reads the table and the plans

-- by the view
abbrev OfOrder : Type 0
OfOrder = View → Plan → List ℕ → Bool

abbrev in_record : OfOrder → View → Rec → Bool
in_record f v (rec.Reconf q key) = f v q key
in_record f v _ = true

abbrev in_flight : OfOrder → View → Flight → Bool
in_flight f v (flight.Ctl r) = in_record f v r
in_flight f v _ = true

abbrev in_line : OfOrder → View → Line → Bool
in_line f v (line.Send l x) = in_flight f v x
in_line f v _ = true

module _ (f : OfOrder) where
  record_quiet : (v : View) (r : Rec) → orders (flight.Ctl r) ≡ false → in_record f v r ≡ true
  record_quiet v (rec.Reconf q key) is = absurd cc
  record_quiet v (rec.Rcomp g) is = refl
  record_quiet v (rec.Scgf pairs) is = refl
  record_quiet v (rec.Recov id) is = refl
  record_quiet v (rec.Recovd id) is = refl
  record_quiet v (rec.Addreq q key) is = refl
  record_quiet v (rec.Addack g) is = refl
  record_quiet v (rec.Addrej g) is = refl
  record_quiet v (rec.Modreq q key) is = refl
  record_quiet v (rec.Modack g) is = refl
  record_quiet v (rec.Modrej g) is = refl
  record_quiet v (rec.Recfg g) is = refl
  record_quiet v (rec.Relreq q) is = refl
  record_quiet v (rec.Relack g) is = refl
  record_quiet v (rec.Relrej g) is = refl
  record_quiet v (rec.Uecr g) is = refl
  record_quiet v (rec.Snst s) is = refl
  record_quiet v (rec.Moved g id) is = refl
  record_quiet v (rec.Scgn id g) is = refl
  record_quiet v rec.Modrqd is = refl
  record_quiet v (rec.Modcnf g) is = refl
  record_quiet v (rec.Modref w) is = refl
  record_quiet v rec.Chgrqd is = refl
  record_quiet v (rec.Chgcnf q) is = refl
  record_quiet v (rec.Chgref w) is = refl
  record_quiet v rec.Relrqd is = refl
  record_quiet v (rec.Relcnf q) is = refl

  flight_quiet : (v : View) (x : Flight) → orders x ≡ false → in_flight f v x ≡ true
  flight_quiet v (flight.Ctl r) is = record_quiet v r is
  flight_quiet v (flight.Air id g num tag pdu) is = refl
  flight_quiet v (flight.Ack id g num) is = refl
  flight_quiet v (flight.Tun tag packet) is = refl
  flight_quiet v (flight.Sdu id g sdu) is = refl
  flight_quiet v (flight.End id g) is = refl
  flight_quiet v (flight.Told id g count) is = refl

  line_quiet : (v : View) (x : Line) → is_word_line x ≡ false → in_line f v x ≡ true
  line_quiet v (line.Note n) is = refl
  line_quiet v (line.Send l x) is = flight_quiet v x is
  line_quiet v (line.Event e) is = refl
  line_quiet v (line.Answer a) is = refl

  -- it holds of each line
  abbrev EachHeard : View → List Line → Type 0
  EachHeard v [] = ⊤
  EachHeard v (x ∷ xs) = (in_line f v x ≡ true) × EachHeard (hears v x) xs

  -- if it holds of the words
  of_words : (xs : List Line) (v : View) → EachHeard v (filter is_word_line xs) → EachHeard v xs
  of_words [] v each = tt
  of_words (x ∷ xs) v each =
      elim (cases_Bool (is_word_line x)) [
        | inl yes' ↦ let here = rw yes' at each in (here.0, of_words xs (hears v x) here.1)
        | inr no' ↦ (line_quiet v x no', subst (λ u. EachHeard u xs) (sym (quiet_line v x no')) (of_words xs v (rw no' at each)))
      ]

  -- of the notes it holds; of the order it does where it fits
  of_order : (ns : List Note) (o : Option (Plan × List ℕ)) (v : View) → ((x : Plan × List ℕ) → o ≡ Some x → f (fold hears v (lines_in ns [])) x.0 x.1 ≡ true) → EachHeard v (lines_in ns (order_sends o))
  of_order [] None v fits = tt
  of_order [] (Some x) v fits = (fits x refl, tt)
  of_order (n ∷ ns) o v fits = (refl, of_order ns o (hears v (line.Note n)) fits)

  -- so it holds of each line of an event
  module _ (t : Past → Line → Bool) (reads : (p : Past) (x : Line) → t p x ≡ in_line f (view p) x) where
    of_lines_read : (xs : List Line) (p : Past) → EachHeard (view p) xs → EachLine t p xs
    of_lines_read [] p each = tt
    of_lines_read (x ∷ xs) p each = (reads p x ∙ each.0, of_lines_read xs (noted p x) (subst (λ u. EachHeard u xs) (sym (noted_view p x)) each.1))

    module _ (fitting : (v : View) (x : Plan × List ℕ) → IsFitting v x → f v x.0 x.1 ≡ true) (c : Choices) where
      fits_so : (w : Words) (v : View) (o : Option (Plan × List ℕ)) → OrderFits (before_order w v) o → (x : Plan × List ℕ) → o ≡ Some x → f (before_order w v) x.0 x.1 ≡ true
      fits_so w v None fits x is = absurd cc
      fits_so w v (Some y) fits x is = let same : y ≡ x = cc in fitting (before_order w v) x (subst (λ z. IsFitting (before_order w v) z) same fits)

      lines_fit : (w : World) (p : Past) (e : Event) → AddsSecond e → Lasts p w → let x = (world_step c w e).1 in EachLine t (judged x.event x.answer p) x.lines
      lines_fit w p e names l =
          let x = (world_step c w e).1 in
          let v = hears_answer p e x.answer (view p) in
          let done = agrees_after c w p (view p) e names l.none l.agree in
          let each : EachHeard v (lines_in (notes_of done.words) (order_sends done.words.order)) =
          of_order (notes_of done.words) done.words.order v (fits_so done.words v done.words.order done.fits) in
          let all : EachHeard v x.lines = of_words x.lines v (subst (λ xs. EachHeard v xs) (sym done.said) each) in
          of_lines_read x.lines (judged e x.answer p) (subst (λ u. EachHeard u x.lines) (sym (judged_view e x.answer p)) all)

      pub each_fits : (h : Header) (policies : ℕ) (es : List Event) → AllByRecursion AddsSecond es → Each (of_lines t) (new_past h policies) (entries_from c (new_world h) es)
      each_fits h policies es names =
          each_if c (of_lines t) AddsSecond Lasts lines_fit (λ w p e name l. refl) (λ w p e name l. lasts_next c w p e name l) es names (new_world h) (new_past h policies) (lasts_new h policies)

-- ---- the plan

-- the claim on plans, of this record alone
abbrev order_is_planned : Past → Line → Bool
order_is_planned p x = if is_order_line x then is_planned p x else true

-- the claim on the octets of keys, of this record alone
abbrev order_is_keyed : Past → Line → Bool
order_is_keyed p x = if is_order_line x then is_keyed p x else true

abbrev plan_test : OfOrder
plan_test v q key = if q.g == 0 then is_none q.sec && nat_le (length q.items) 0 else is_some_and (is_same_plan q) (planned v.plans q.g)

abbrev key_test : OfOrder
key_test v q key = command_has (λ c. is_change q.g c.kind && is_same_octets key (octets v.table.roots (master_key c.root))) v.table

plan_fits : (v : View) (x : Plan × List ℕ) → IsFitting v x → plan_test v x.0 x.1 ≡ true
plan_fits v x fits =
    let later = fits.later in
    let real : (x.0.g == 0) ≡ false = grind (arith, nat_tests, later) in rw real (ap (λ o. is_some_and (is_same_plan x.0) o) fits.drawn ∙ same_plan x.0)

reads_plan_record : (p : Past) (l : LinkId) (r : Rec) → order_is_planned p (line.Send l (flight.Ctl r)) ≡ in_record plan_test (view p) r
reads_plan_record p l (rec.Reconf q key) = refl
reads_plan_record p l (rec.Rcomp g) = refl
reads_plan_record p l (rec.Scgf pairs) = refl
reads_plan_record p l (rec.Recov id) = refl
reads_plan_record p l (rec.Recovd id) = refl
reads_plan_record p l (rec.Addreq q key) = refl
reads_plan_record p l (rec.Addack g) = refl
reads_plan_record p l (rec.Addrej g) = refl
reads_plan_record p l (rec.Modreq q key) = refl
reads_plan_record p l (rec.Modack g) = refl
reads_plan_record p l (rec.Modrej g) = refl
reads_plan_record p l (rec.Recfg g) = refl
reads_plan_record p l (rec.Relreq q) = refl
reads_plan_record p l (rec.Relack g) = refl
reads_plan_record p l (rec.Relrej g) = refl
reads_plan_record p l (rec.Uecr g) = refl
reads_plan_record p l (rec.Snst s) = refl
reads_plan_record p l (rec.Moved g id) = refl
reads_plan_record p l (rec.Scgn id g) = refl
reads_plan_record p l rec.Modrqd = refl
reads_plan_record p l (rec.Modcnf g) = refl
reads_plan_record p l (rec.Modref w) = refl
reads_plan_record p l rec.Chgrqd = refl
reads_plan_record p l (rec.Chgcnf q) = refl
reads_plan_record p l (rec.Chgref w) = refl
reads_plan_record p l rec.Relrqd = refl
reads_plan_record p l (rec.Relcnf q) = refl

reads_plan : (p : Past) (x : Line) → order_is_planned p x ≡ in_line plan_test (view p) x
reads_plan p (line.Note n) = refl
reads_plan p (line.Event e) = refl
reads_plan p (line.Answer a) = refl
reads_plan p (line.Send l (flight.Ctl r)) = reads_plan_record p l r
reads_plan p (line.Send l (flight.Air id g num tag pdu)) = refl
reads_plan p (line.Send l (flight.Ack id g num)) = refl
reads_plan p (line.Send l (flight.Tun tag packet)) = refl
reads_plan p (line.Send l (flight.Sdu id g sdu)) = refl
reads_plan p (line.Send l (flight.End id g)) = refl
reads_plan p (line.Send l (flight.Told id g count)) = refl

reads_key_record : (p : Past) (l : LinkId) (r : Rec) → order_is_keyed p (line.Send l (flight.Ctl r)) ≡ in_record key_test (view p) r
reads_key_record p l (rec.Reconf q key) = refl
reads_key_record p l (rec.Rcomp g) = refl
reads_key_record p l (rec.Scgf pairs) = refl
reads_key_record p l (rec.Recov id) = refl
reads_key_record p l (rec.Recovd id) = refl
reads_key_record p l (rec.Addreq q key) = refl
reads_key_record p l (rec.Addack g) = refl
reads_key_record p l (rec.Addrej g) = refl
reads_key_record p l (rec.Modreq q key) = refl
reads_key_record p l (rec.Modack g) = refl
reads_key_record p l (rec.Modrej g) = refl
reads_key_record p l (rec.Recfg g) = refl
reads_key_record p l (rec.Relreq q) = refl
reads_key_record p l (rec.Relack g) = refl
reads_key_record p l (rec.Relrej g) = refl
reads_key_record p l (rec.Uecr g) = refl
reads_key_record p l (rec.Snst s) = refl
reads_key_record p l (rec.Moved g id) = refl
reads_key_record p l (rec.Scgn id g) = refl
reads_key_record p l rec.Modrqd = refl
reads_key_record p l (rec.Modcnf g) = refl
reads_key_record p l (rec.Modref w) = refl
reads_key_record p l rec.Chgrqd = refl
reads_key_record p l (rec.Chgcnf q) = refl
reads_key_record p l (rec.Chgref w) = refl
reads_key_record p l rec.Relrqd = refl
reads_key_record p l (rec.Relcnf q) = refl

reads_key : (p : Past) (x : Line) → order_is_keyed p x ≡ in_line key_test (view p) x
reads_key p (line.Note n) = refl
reads_key p (line.Event e) = refl
reads_key p (line.Answer a) = refl
reads_key p (line.Send l (flight.Ctl r)) = reads_key_record p l r
reads_key p (line.Send l (flight.Air id g num tag pdu)) = refl
reads_key p (line.Send l (flight.Ack id g num)) = refl
reads_key p (line.Send l (flight.Tun tag packet)) = refl
reads_key p (line.Send l (flight.Sdu id g sdu)) = refl
reads_key p (line.Send l (flight.End id g)) = refl
reads_key p (line.Send l (flight.Told id g count)) = refl

-- each record by which a plan is carried out carries the plan that was drawn with its generation
pub orders_planned : (c : Choices) (h : Header) (policies : ℕ) (es : List Event) → AllByRecursion AddsSecond es
    → Each (at_lines is_order_line (claim claims.planned)) (new_past h policies) (entries_from c (new_world h) es)
orders_planned c h policies es names = each_fits plan_test order_is_planned reads_plan plan_fits c h policies es names

-- and the octets of the root that is current once it is carried out
pub orders_keyed : (c : Choices) (h : Header) (policies : ℕ) (es : List Event) → AllByRecursion AddsSecond es
    → Each (at_lines is_order_line (claim claims.keyed)) (new_past h policies) (entries_from c (new_world h) es)
orders_keyed c h policies es names = each_fits key_test order_is_keyed reads_key (λ v x fits. fits.keyed) c h policies es names
