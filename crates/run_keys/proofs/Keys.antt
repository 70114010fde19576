-- In each run each record that carries a key carries the octets of the one that its plan names: the root, or the K_SN, that is
-- current once the plan is carried out.
use Rattle.std.proofs.Common.{ℕ, ◌≡◌, ◌++◌, ◌&&◌, Bool, true, false, List, [], ◌∷◌, Option, Some, None, refl, sym, ap, ap₂, subst, ◌∙◌, inl, inr}
use Rattle.std.specs.Prelude.{filter, fold, if◌then◌else◌, not, ⊤}
use Rattle.std.specs.List.{AllByRecursion, list_any}
use Rattle.std.proofs.lemmas.Bool.{and_parts, cases_Bool, eq-eqb}
use Rattle.dc_base.specs.declared.events.Event.{Event}
use Rattle.dc_base.specs.declared.events.Header.{Header}
use Rattle.dc_base.specs.declared.events.Line.{Line}
use Rattle.dc_base.specs.declared.events.Line.TheVariants as line
use Rattle.dc_base.specs.declared.events.Note.{Note}
use Rattle.dc_base.specs.declared.events.Note.TheVariants as note
use Rattle.dc_base.specs.declared.flights.Flight.TheVariants as flight
use Rattle.dc_base.specs.declared.nodes.LinkId.{LinkId}
use Rattle.dc_base.specs.declared.nodes.Node.{Node}
use Rattle.dc_base.specs.declared.records.Plan.{Plan}
use Rattle.dc_base.specs.declared.records.Rec.{Rec}
use Rattle.dc_base.specs.declared.records.Rec.TheVariants as rec
use Rattle.key_chain.specs.KeyNames.{octets}
use Rattle.transcript.specs.Transcript.{Entry, sends}
use Rattle.transcript.proofs.OnEach.{each_weaker}
use Rattle.claims.specs.Claim.{Each, EachLine, of_lines}
use Rattle.claims.specs.Judged.{judged}
use Rattle.claims.specs.Names as claims
use Rattle.claims.specs.Names.{claim}
use Rattle.claims.specs.Noted.{after, noted}
use Rattle.claims.specs.Past.{Past, new_past}
use Rattle.claims.specs.Planned.{is_keyed, plan_in}
use Rattle.claims.specs.Sameness.{is_same_octets, is_some_and}
use Rattle.claims.specs.Table as claimed
use Rattle.claims.specs.Table.{command_has, is_change}
use Rattle.node_rules.specs.Choices.{Choices, Send}
use Rattle.node_rules.specs.Lines.{is_end, lines_of}
use Rattle.node_rules.specs.MasterState.{MasterProc}
use Rattle.node_rules.specs.Run.{carried_on, entries_from, happening, world_step}
use Rattle.node_rules.specs.World.{World, new_world}
use Rattle.node_rules.specs.declared.commands.Change.{Change}
use Rattle.node_rules.specs.declared.commands.Command.TheVariants.{Asked as asked}
use Rattle.node_rules.specs.declared.commands.First.{First}
use Rattle.node_rules.specs.declared.inputs.Outcome.{Outcome}
use Rattle.run_control.specs.Sound.{AddsSecond}
use Rattle.run_table.specs.Orders.{IsFitting, OrderFits, before_order, is_order_line}
use Rattle.run_table.specs.Quiet.{effects_of}
use Rattle.run_table.specs.SameTable.{Agree, SameCommand}
use Rattle.run_table.specs.View.{View, carries, carries_if, carries_plan, carries_with, view}
use Rattle.run_table.specs.Words.{Words, hears, is_order_sent, is_word, is_word_line, lines_in, notes_of, order_sends, orders}
use Rattle.run_table.proofs.LineWords.{quiet_line}
use Rattle.run_table.proofs.Orders.{orders_keyed}
use Rattle.run_table.proofs.Steps.{After, agrees_after}
use Rattle.run_table.proofs.Views.{after_view, all_noted_view, hears_answer, judged_view, noted_view}
use Rattle.run_words.specs.Parts.{at_lines}
use Rattle.run_words.proofs.Lines.{each_line_of}
use Rattle.run_words.proofs.Runs.{each_if}
use Rattle.run_relays.proofs.MasterTurn.{ArePlansApart}
use Rattle.run_relays.proofs.Runs.{event_becomes, relays_new}
use Rattle.run_relays.proofs.SetEvents.{event_after}
use Rattle.run_relays.proofs.SetRuns.{planned_new}
use Rattle.run_plans.specs.Leading.{is_first}
use Rattle.run_plans.specs.Lines.{IsFree, IsStill, is_begin}
use Rattle.run_plans.proofs.Lines.{Splits, heard_after, later_answer, later_lines, split_lines}
use Rattle.run_plans.proofs.Runs.{HoldsPlans, holds_plans_next}
use Rattle.run_keys.specs.Firsts.{AsksBy, IsFirstOf, asks_for, asks_none, is_first_line}
use Rattle.run_keys.proofs.Firsts.{event_asks}

-- the claim on the octets of keys, of first records alone
abbrev first_is_keyed : Past → Line → Bool
first_is_keyed p x = if is_first_line x then is_keyed p x else true

-- ---- lines that send none

none_keyed : (p : Past) (x : Line) → is_first_line x ≡ false → first_is_keyed p x ≡ true
none_keyed p x none = rw none refl

all_none : (xs : List Line) (p : Past) → AllByRecursion (λ x. is_first_line x ≡ false) xs → EachLine first_is_keyed p xs
all_none [] p none = tt
all_none (x ∷ xs) p none = (none_keyed p x none.0, all_none xs (noted p x) none.1)

notes_none : (ns : List Note) → AllByRecursion (λ n. is_first_line (line.Note n) ≡ false) ns
notes_none [] = tt
notes_none (n ∷ ns) = (refl, notes_none ns)

no_first : (r : Rec) → plan_in r ≡ None → is_first r ≡ false
no_first (rec.Addreq q key) none = absurd (let bad : Some q ≡ None = none in cc)
no_first (rec.Modreq q key) none = absurd (let bad : Some q ≡ None = none in cc)
no_first (rec.Reconf q key) none = refl
no_first (rec.Rcomp g) none = refl
no_first (rec.Scgf x) none = refl
no_first (rec.Recov id) none = refl
no_first (rec.Recovd id) none = refl
no_first (rec.Addack g) none = refl
no_first (rec.Addrej g) none = refl
no_first (rec.Modack g) none = refl
no_first (rec.Modrej g) none = refl
no_first (rec.Recfg g) none = refl
no_first (rec.Relreq q) none = refl
no_first (rec.Relack g) none = refl
no_first (rec.Relrej g) none = refl
no_first (rec.Uecr g) none = refl
no_first (rec.Snst st) none = refl
no_first (rec.Moved g id) none = refl
no_first (rec.Scgn id g) none = refl
no_first rec.Modrqd none = refl
no_first (rec.Modcnf g) none = refl
no_first (rec.Modref w) none = refl
no_first rec.Chgrqd none = refl
no_first (rec.Chgcnf q) none = refl
no_first (rec.Chgref w) none = refl
no_first rec.Relrqd none = refl
no_first (rec.Relcnf q) none = refl

free_none : (x : Line) → IsFree x → is_first_line x ≡ false
free_none (line.Note n) free = refl
free_none (line.Event e) free = refl
free_none (line.Answer a) free = refl
free_none (line.Send l (flight.Ctl r)) (inl none) = no_first r none
free_none (line.Send l (flight.Ctl r)) (inr same) = ap is_first same
free_none (line.Send l (flight.Air id g num tag pdu)) free = refl
free_none (line.Send l (flight.Ack id g num)) free = refl
free_none (line.Send l (flight.Tun tag packet)) free = refl
free_none (line.Send l (flight.Sdu id g payload)) free = refl
free_none (line.Send l (flight.End id g)) free = refl
free_none (line.Send l (flight.Told id g count)) free = refl

-- ---- lines that change nothing of commands

-- no command ends by the line, and no plan is carried out
abbrev GoesOn : Line → Type 0
GoesOn (line.Note n) = is_end n ≡ false
GoesOn (line.Send l f) = orders f ≡ false
GoesOn (line.Event e) = ⊤
GoesOn (line.Answer a) = ⊤

no_word : (n : Note) → is_begin n ≡ false → is_end n ≡ false → is_word n ≡ false
no_word (note.Begin w) still on = absurd (let bad : true ≡ false = still in cc)
no_word (note.Join x g) still on = refl
no_word (note.Leave x g) still on = refl
no_word (note.Give x id g) still on = refl
no_word (note.Own x id g) still on = refl
no_word (note.Set id g) still on = refl
no_word (note.Unset id) still on = refl
no_word (note.Up x id d count sdu) still on = refl
no_word (note.Freed id d count) still on = refl
no_word (note.Confirmed x) still on = refl
no_word (note.Refused x w) still on = refl
no_word note.Done still on = absurd (let bad : true ≡ false = on in cc)
no_word note.Rejected still on = absurd (let bad : true ≡ false = on in cc)

no_word_line : (x : Line) → IsStill x → GoesOn x → is_word_line x ≡ false
no_word_line (line.Note n) still on = no_word n still on
no_word_line (line.Send l f) still on = on
no_word_line (line.Event e) still on = refl
no_word_line (line.Answer a) still on = refl

-- by notes and sends
notes_on : (ns : List Note) → list_any is_end ns ≡ false → AllByRecursion (λ n. is_end n ≡ false) ns
notes_on [] none = tt
notes_on (n ∷ ns) none =
    elim (cases_Bool (is_end n)) [ inl yes' ↦ absurd (let bad : true ≡ false = rw yes' at none in cc) | inr no' ↦ (no', notes_on ns (rw no' at none)) ]

-- no line sends an order
abbrev NoOrder : Line → Type 0
NoOrder (line.Send l f) = orders f ≡ false
NoOrder (line.Note n) = ⊤
NoOrder (line.Event e) = ⊤
NoOrder (line.Answer a) = ⊤

no_orders : (xs : List Line) → filter is_order_sent (sends xs) ≡ [] → AllByRecursion NoOrder xs
no_orders [] none = tt
no_orders (line.Note n ∷ xs) none = (tt, no_orders xs none)
no_orders (line.Event e ∷ xs) none = (tt, no_orders xs none)
no_orders (line.Answer a ∷ xs) none = (tt, no_orders xs none)
no_orders (line.Send l f ∷ xs) none =
    elim (cases_Bool (orders f)) [
      | inl yes' ↦ absurd (let bad : (l, f) ∷ filter is_order_sent (sends xs) ≡ [] = rw yes' at none in cc)
      | inr no' ↦ (no', no_orders xs (rw no' at none))
    ]

-- a line by which no command ends
abbrev NoEnd : Line → Type 0
NoEnd (line.Note n) = is_end n ≡ false
NoEnd (line.Send l f) = ⊤
NoEnd (line.Event e) = ⊤
NoEnd (line.Answer a) = ⊤

any_sends : (ss : List Send) → AllByRecursion (λ (s : Send). NoEnd (line.Send s.0 s.1)) ss
any_sends [] = tt
any_sends (s ∷ ss) = (tt, any_sends ss)

both_on : (x : Line) → NoEnd x → NoOrder x → GoesOn x
both_on (line.Note n) end' order = end'
both_on (line.Send l f) end' order = order
both_on (line.Event e) end' order = tt
both_on (line.Answer a) end' order = tt

all_on : (xs : List Line) → AllByRecursion NoEnd xs → AllByRecursion NoOrder xs → AllByRecursion GoesOn xs
all_on [] ends orders' = tt
all_on (x ∷ xs) ends orders' = (both_on x ends.0 orders'.0, all_on xs ends.1 orders'.1)

right_part : {X : Type 0} (P : X → Type 0) (xs ys : List X) → AllByRecursion P (xs ++ ys) → AllByRecursion P ys
right_part P [] ys all = all
right_part P (x ∷ xs) ys all = right_part P xs ys all.1

-- nothing is heard of them
unheard : (xs : List Line) (v : View) → AllByRecursion IsStill xs → AllByRecursion GoesOn xs → fold hears v xs ≡ v
unheard [] v still on = refl
unheard (x ∷ xs) v still on = ap (λ u. fold hears u xs) (quiet_line v x (no_word_line x still.0 on.0)) ∙ unheard xs v still.1 on.1

-- ---- where a change is asked for

same_octets : (xs : List ℕ) → is_same_octets xs xs ≡ true
same_octets [] = refl
same_octets (x ∷ xs) = rw (eq-eqb x x refl) (same_octets xs)

-- the view has this change open, with these roots
pub record IsOpen (v : View) (roots : List (List ℕ)) (c : Change) : Type 0 where
  command : claimed.Command
  is_open : v.table.command ≡ Some command
  kind : command.kind ≡ claimed.change c.plan.g
  key : command.second_key ≡ c.second_key
  rooted : v.table.roots ≡ roots
  waits : command.is_carried ≡ false

key_is : (v : View) (roots : List (List ℕ)) (c : Change) (o : IsOpen v roots c) (q : Plan) (key : List ℕ) → q ≡ c.plan → key ≡ octets roots c.second_key
    → command_has (λ x. is_change q.g x.kind && is_same_octets key (octets v.table.roots x.second_key)) v.table ≡ true
key_is v roots c o q key plan is =
    let g = c.plan.g in
    ap (λ (y : Plan). command_has (λ x. is_change y.g x.kind && is_same_octets key (octets v.table.roots x.second_key)) v.table) plan
    ∙ ap (λ y. is_some_and (λ (x : claimed.Command). is_change g x.kind && is_same_octets key (octets v.table.roots x.second_key)) y) o.is_open
    ∙ ap (λ (x : claimed.Kind). is_change g x && is_same_octets key (octets v.table.roots o.command.second_key)) o.kind
    ∙ ap (λ b. b && is_same_octets key (octets v.table.roots o.command.second_key)) (eq-eqb g g refl)
    ∙ ap₂ (λ rs k. is_same_octets key (octets rs k)) o.rooted o.key
    ∙ ap (λ x. is_same_octets x (octets roots c.second_key)) is ∙ same_octets (octets roots c.second_key)

-- what a line sends is of the change
abbrev OfChange : List (List ℕ) → Change → Line → Type 0
OfChange roots c (line.Send l f) = IsFirstOf roots c f
OfChange roots c (line.Note n) = ⊤
OfChange roots c (line.Event e) = ⊤
OfChange roots c (line.Answer a) = ⊤

any_of_change : (roots : List (List ℕ)) (c : Change) (ns : List Note) → AllByRecursion (λ n. OfChange roots c (line.Note n)) ns
any_of_change roots c [] = tt
any_of_change roots c (n ∷ ns) = (tt, any_of_change roots c ns)

record_keyed : (p : Past) (l : LinkId) (roots : List (List ℕ)) (c : Change) → IsOpen (view p) roots c → (r : Rec) → IsFirstOf roots c (flight.Ctl r) → first_is_keyed p (line.Send l (flight.Ctl r)) ≡ true
record_keyed p l roots c o (rec.Addreq q key) is = key_is (view p) roots c o q key is.0 is.1
record_keyed p l roots c o (rec.Modreq q key) is = key_is (view p) roots c o q key is.0 is.1
record_keyed p l roots c o (rec.Reconf q key) is = refl
record_keyed p l roots c o (rec.Rcomp g) is = refl
record_keyed p l roots c o (rec.Scgf x) is = refl
record_keyed p l roots c o (rec.Recov id) is = refl
record_keyed p l roots c o (rec.Recovd id) is = refl
record_keyed p l roots c o (rec.Addack g) is = refl
record_keyed p l roots c o (rec.Addrej g) is = refl
record_keyed p l roots c o (rec.Modack g) is = refl
record_keyed p l roots c o (rec.Modrej g) is = refl
record_keyed p l roots c o (rec.Recfg g) is = refl
record_keyed p l roots c o (rec.Relreq q) is = refl
record_keyed p l roots c o (rec.Relack g) is = refl
record_keyed p l roots c o (rec.Relrej g) is = refl
record_keyed p l roots c o (rec.Uecr g) is = refl
record_keyed p l roots c o (rec.Snst st) is = refl
record_keyed p l roots c o (rec.Moved g id) is = refl
record_keyed p l roots c o (rec.Scgn id g) is = refl
record_keyed p l roots c o rec.Modrqd is = refl
record_keyed p l roots c o (rec.Modcnf g) is = refl
record_keyed p l roots c o (rec.Modref w) is = refl
record_keyed p l roots c o rec.Chgrqd is = refl
record_keyed p l roots c o (rec.Chgcnf q) is = refl
record_keyed p l roots c o (rec.Chgref w) is = refl
record_keyed p l roots c o rec.Relrqd is = refl
record_keyed p l roots c o (rec.Relcnf q) is = refl

line_keyed : (p : Past) (roots : List (List ℕ)) (c : Change) → IsOpen (view p) roots c → (x : Line) → OfChange roots c x → first_is_keyed p x ≡ true
line_keyed p roots c o (line.Note n) is = refl
line_keyed p roots c o (line.Event e) is = refl
line_keyed p roots c o (line.Answer a) is = refl
line_keyed p roots c o (line.Send l (flight.Ctl r)) is = record_keyed p l roots c o r is
line_keyed p roots c o (line.Send l (flight.Air id g num tag pdu)) is = refl
line_keyed p roots c o (line.Send l (flight.Ack id g num)) is = refl
line_keyed p roots c o (line.Send l (flight.Tun tag packet)) is = refl
line_keyed p roots c o (line.Send l (flight.Sdu id g payload)) is = refl
line_keyed p roots c o (line.Send l (flight.End id g)) is = refl
line_keyed p roots c o (line.Send l (flight.Told id g count)) is = refl

module _ (roots : List (List ℕ)) (c : Change) where
  rest_keyed : (xs : List Line) (p : Past) → AllByRecursion IsStill xs → AllByRecursion GoesOn xs → AllByRecursion (OfChange roots c) xs → IsOpen (view p) roots c → EachLine first_is_keyed p xs
  rest_keyed [] p still on of o = tt
  rest_keyed (x ∷ xs) p still on of o = (
    line_keyed p roots c o x of.0,
    rest_keyed xs (noted p x) still.1 on.1 of.1 (subst (λ v. IsOpen v roots c) (sym (noted_view p x ∙ quiet_line (view p) x (no_word_line x still.0 on.0))) o),
  )

each_after : (xs ys : List Line) (p : Past) → EachLine first_is_keyed p xs → EachLine first_is_keyed (fold noted p xs) ys → EachLine first_is_keyed p (xs ++ ys)
each_after [] ys p first then' = then'
each_after (x ∷ xs) ys p first then' = (first.0, each_after xs ys (noted p x) first.1 then')

-- the lines of an event, where the change is open after it
asking_keyed : (roots : List (List ℕ)) (c : Change) (lines : List Line) (p : Past) → Splits lines → AllByRecursion GoesOn lines → AllByRecursion (OfChange roots c) lines
    → IsOpen (fold hears (view p) lines) roots c → EachLine first_is_keyed p lines
asking_keyed roots c lines p s on of o =
    let here = fold noted p s.start in
    let rest_on = right_part GoesOn s.start s.rest (subst (AllByRecursion GoesOn) s.is on) in
    let rest_of = right_part (OfChange roots c) s.start s.rest (subst (AllByRecursion (OfChange roots c)) s.is of) in
    let same : fold hears (view p) lines ≡ view here =
    ap (λ xs. fold hears (view p) xs) s.is ∙ heard_after s.start s.rest (view p) ∙ unheard s.rest (fold hears (view p) s.start) s.still rest_on ∙ sym (all_noted_view s.start p) in
    subst (λ xs. EachLine first_is_keyed p xs) (sym s.is)
    (each_after s.start s.rest p (all_none s.start p (each_weaker IsFree (λ x. is_first_line x ≡ false) free_none s.start s.free))
    (rest_keyed roots c s.rest here s.still rest_on rest_of (subst (λ v. IsOpen v roots c) same o)))

-- ---- no plan is carried out where one is asked for

-- after an order the command is carried out
carried_then : (v : View) (x : Plan × List ℕ) → IsFitting v x → (k : claimed.Command) → (carries x.0.g v).table.command ≡ Some k → k.is_carried ≡ true
carried_then v x fits k at = by v.table.command refl
  where
    some_is : {X : Type 0} {y z : X} → Some y ≡ Some z → y ≡ z
    some_is is = cc

    by_plan : (d : claimed.Command) → (carries_if x.0.g d true v).table.command ≡ Some (record d { is_carried = true })
    by_plan d = ap (λ (o : Option Plan). (carries_plan x.0.g d o v).table.command) fits.drawn

    by_flag : (d : claimed.Command) → v.table.command ≡ Some d → (b : Bool) → d.is_carried ≡ b → (carries_if x.0.g d (true && not b) v).table.command ≡ Some k → k.is_carried ≡ true
    by_flag d is true flag at' = ap (λ (y : claimed.Command). y.is_carried) (sym (some_is (sym is ∙ at'))) ∙ flag
    by_flag d is false flag at' = ap (λ (y : claimed.Command). y.is_carried) (sym (some_is (sym (by_plan d) ∙ at')))

    by : (o : Option claimed.Command) → v.table.command ≡ o → k.is_carried ≡ true
    by None is = absurd (let bad : false ≡ true = ap (λ o. is_some_and (λ (c : claimed.Command). is_change x.0.g c.kind && is_same_octets x.1 (octets v.table.roots (claimed.master_key c.root))) o) (sym is) ∙ fits.keyed in cc)
    by (Some d) is =
        let test = ap (λ o. is_some_and (λ (c : claimed.Command). is_change x.0.g c.kind && is_same_octets x.1 (octets v.table.roots (claimed.master_key c.root))) o) (sym is) ∙ fits.keyed in
        let kind : is_change x.0.g d.kind ≡ true = (and_parts (is_change x.0.g d.kind) (is_same_octets x.1 (octets v.table.roots (claimed.master_key d.root))) test).0 in
        by_flag d is d.is_carried refl (sym (ap (λ b. (carries_if x.0.g d (b && not d.is_carried) v).table.command) kind) ∙ sym (ap (λ o. (carries_with x.0.g o v).table.command) is) ∙ at)

open_is : (v : View) (m : MasterProc) (c : Change) (first : First) (who : Node) (wanted : Bool) → m.command ≡ Some (asked c first who wanted) → Agree v m → IsOpen v m.table.book.roots c
open_is v m c first who wanted at agree = by v.table.command refl (subst (λ o. SameCommand v o v.table.command) at agree.same.command)
  where
    by : (o : Option claimed.Command) → v.table.command ≡ o → SameCommand v (Some (asked c first who wanted)) o → IsOpen v m.table.book.roots c
    by None is same = absurd same
    by (Some k) is same = record { command = k; is_open = is; kind = same.0.kind; key = same.1.second_key; rooted = agree.same.rest.roots; waits = same.0.carried }

-- the notes, and then the order
fold_order : (ns : List Note) (x : Plan × List ℕ) (v : View) → fold hears v (lines_in ns (order_sends (Some x))) ≡ carries x.0.g (fold hears v (lines_in ns []))
fold_order [] x v = refl
fold_order (n ∷ ns) x v = fold_order ns x (hears v (line.Note n))

-- only words are heard
words_heard : (xs : List Line) (v : View) → fold hears v (filter is_word_line xs) ≡ fold hears v xs
words_heard [] v = refl
words_heard (x ∷ xs) v =
    elim (cases_Bool (is_word_line x)) [
      | inl yes' ↦ rw yes' (words_heard xs (hears v x))
      | inr no' ↦ rw no' (words_heard xs v ∙ ap (λ u. fold hears u xs) (sym (quiet_line v x no')))
    ]

no_order_then : (v : View) (w : Words) (lines : List Line) (roots : List (List ℕ)) (c : Change) → filter is_word_line lines ≡ lines_in (notes_of w) (order_sends w.order) → OrderFits (before_order w v) w.order
    → IsOpen (fold hears v lines) roots c → w.order ≡ None
no_order_then v w lines roots c said fits o = by w.order refl
  where
    by : (y : Option (Plan × List ℕ)) → w.order ≡ y → w.order ≡ None
    by None is = is
    by (Some x) is =
        let u = before_order w v in
        let fitting = subst (λ y. OrderFits u y) is fits in
        let end' : fold hears v lines ≡ carries x.0.g u =
        sym (words_heard lines v) ∙ ap (λ xs. fold hears v xs) (said ∙ ap (λ y. lines_in (notes_of w) (order_sends y)) is) ∙ fold_order (notes_of w) x v in
        let done = carried_then u x fitting o.command (sym (ap (λ (z : View). z.table.command) end') ∙ o.is_open) in
        absurd (let bad : true ≡ false = sym done ∙ o.waits in cc)

-- ---- a run

module _ (c : Choices) (w : World) (p : Past) (e : Event) (adds : AddsSecond e) (is : HoldsPlans p w) where
  agree : Agree (view p) w.master.proc
  agree = is.relays.holds.lasts.agree

  -- what comes of it
  abbrev o : Outcome
  o = (carried_on c w (happening w e)).1

  -- the master's procedures after it
  abbrev m : MasterProc
  m = (world_step c w e).0.master.proc

  -- the view before its lines
  abbrev v : View
  v = hears_answer p e o.answer (view p)

  -- and after them
  abbrev v_then : View
  v_then = fold hears v (lines_of o)

  start : view (judged e o.answer p) ≡ v
  start = judged_view e o.answer p

  done : After v m (lines_of o)
  done = agrees_after c w p (view p) e adds is.relays.holds.lasts.none agree

  split : list_any is_end o.notes ≡ false → Splits (lines_of o)
  split none =
      let same : view (after p (world_step c w e).1) ≡ v_then = after_view p (world_step c w e).1 in
      let apart : ArePlansApart v_then.plans = subst (λ (v : View). ArePlansApart v.plans) same (event_becomes c w p e is.relays.read).is.apart in
      let planned' = event_after c p w is.relays.holds.well agree is.plans.have is.plans.stand e adds apart in
      let later = later_lines (lines_of o) v (later_answer p e o.answer (view p) is.later) in
      split_lines v_then.plans later o planned'.brings (inl none)

  by_asking : AsksBy m (effects_of o) → EachLine first_is_keyed (judged e o.answer p) (lines_of o)
  by_asking (asks_none none) = all_none (lines_of o) (judged e o.answer p) (each_line_of (λ x. is_first_line x ≡ false) o (notes_none o.notes) none)
  by_asking (asks_for ch first who wanted opened are goes_on) =
      let open' = open_is v_then m ch first who wanted opened done.agree in
      let no_order = no_order_then v done.words (lines_of o) m.table.book.roots ch done.said done.fits open' in
      let ends = each_line_of NoEnd o (notes_on o.notes goes_on) (any_sends o.sends) in
      let orders' = no_orders (lines_of o) (done.sent ∙ ap order_sends no_order) in
      asking_keyed m.table.book.roots ch (lines_of o) (judged e o.answer p) (split goes_on) (all_on (lines_of o) ends orders')
      (each_line_of (OfChange m.table.book.roots ch) o (any_of_change m.table.book.roots ch o.notes) are)
      (subst (λ u. IsOpen (fold hears u (lines_of o)) m.table.book.roots ch) (sym start) open')

  event_keyed : let x = (world_step c w e).1 in EachLine first_is_keyed (judged x.event x.answer p) x.lines
  event_keyed = by_asking (event_asks c w (view p) agree is.relays.right.right e)

-- each first record carries the octets of the K_SN of its change
firsts_keyed : (c : Choices) (h : Header) (policies : ℕ) (es : List Event) → AllByRecursion AddsSecond es → Each (of_lines first_is_keyed) (new_past h policies) (entries_from c (new_world h) es)
firsts_keyed c h policies es adds =
    each_if c (of_lines first_is_keyed) AddsSecond HoldsPlans (λ w p e add is. event_keyed c w p e add is) (λ w p e add is. refl) (λ w p e add is. holds_plans_next c w p e add is) es adds (new_world h) (new_past h policies)
    (record { relays = relays_new c h policies; plans = planned_new h policies; later = tt })

-- ---- all records

record_merged : (p : Past) (l : LinkId) (r : Rec) → first_is_keyed p (line.Send l (flight.Ctl r)) ≡ true
    → (if is_order_line (line.Send l (flight.Ctl r)) then is_keyed p (line.Send l (flight.Ctl r)) else true) ≡ true → is_keyed p (line.Send l (flight.Ctl r)) ≡ true
record_merged p l (rec.Addreq q key) first order = first
record_merged p l (rec.Modreq q key) first order = first
record_merged p l (rec.Reconf q key) first order = order
record_merged p l (rec.Rcomp g) first order = refl
record_merged p l (rec.Scgf x) first order = refl
record_merged p l (rec.Recov id) first order = refl
record_merged p l (rec.Recovd id) first order = refl
record_merged p l (rec.Addack g) first order = refl
record_merged p l (rec.Addrej g) first order = refl
record_merged p l (rec.Modack g) first order = refl
record_merged p l (rec.Modrej g) first order = refl
record_merged p l (rec.Recfg g) first order = refl
record_merged p l (rec.Relreq q) first order = refl
record_merged p l (rec.Relack g) first order = refl
record_merged p l (rec.Relrej g) first order = refl
record_merged p l (rec.Uecr g) first order = refl
record_merged p l (rec.Snst st) first order = refl
record_merged p l (rec.Moved g id) first order = refl
record_merged p l (rec.Scgn id g) first order = refl
record_merged p l rec.Modrqd first order = refl
record_merged p l (rec.Modcnf g) first order = refl
record_merged p l (rec.Modref w) first order = refl
record_merged p l rec.Chgrqd first order = refl
record_merged p l (rec.Chgcnf q) first order = refl
record_merged p l (rec.Chgref w) first order = refl
record_merged p l rec.Relrqd first order = refl
record_merged p l (rec.Relcnf q) first order = refl

line_merged : (p : Past) (x : Line) → first_is_keyed p x ≡ true → (if is_order_line x then is_keyed p x else true) ≡ true → is_keyed p x ≡ true
line_merged p (line.Note n) first order = refl
line_merged p (line.Event e) first order = refl
line_merged p (line.Answer a) first order = refl
line_merged p (line.Send l (flight.Ctl r)) first order = record_merged p l r first order
line_merged p (line.Send l (flight.Air id g num tag pdu)) first order = refl
line_merged p (line.Send l (flight.Ack id g num)) first order = refl
line_merged p (line.Send l (flight.Tun tag packet)) first order = refl
line_merged p (line.Send l (flight.Sdu id g payload)) first order = refl
line_merged p (line.Send l (flight.End id g)) first order = refl
line_merged p (line.Send l (flight.Told id g count)) first order = refl

lines_merged : (xs : List Line) (p : Past) → EachLine first_is_keyed p xs → EachLine (λ q x. if is_order_line x then is_keyed q x else true) p xs → EachLine is_keyed p xs
lines_merged [] p first order = tt
lines_merged (x ∷ xs) p first order = (line_merged p x first.0 order.0, lines_merged xs (noted p x) first.1 order.1)

each_merged : (es : List Entry) (p : Past) → Each (of_lines first_is_keyed) p es → Each (at_lines is_order_line (claim claims.keyed)) p es → Each (claim claims.keyed) p es
each_merged [] p first order = tt
each_merged (e ∷ es) p first order = (lines_merged e.lines (judged e.event e.answer p) first.0 order.0, refl, each_merged es (after p e) first.2 order.2)

-- each record that carries a key carries the octets of the one that its plan names: one that has the terminal reconfigure those of the
-- root, and one that asks a secondary node first those of the K_SN, that are current once the plan is carried out
pub records_keyed : (c : Choices) (h : Header) (policies : ℕ) (es : List Event) → AllByRecursion AddsSecond es → Each (claim claims.keyed) (new_past h policies) (entries_from c (new_world h) es)
records_keyed c h policies es adds = each_merged (entries_from c (new_world h) es) (new_past h policies) (firsts_keyed c h policies es adds) (orders_keyed c h policies es adds)
