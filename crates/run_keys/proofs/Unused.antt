-- Each plan that is carried out brings no key that another establishment of its identity uses.
use Rattle.std.proofs.Common.{ℕ, ◌≡◌, ◌==◌, ◌&&◌, ◌≤◌, ◌||◌, Bool, true, false, List, [], ◌∷◌, Option, Some, None, refl, sym, ap, ap₂, subst, ◌∙◌, inl, inr, arith}
use Rattle.std.specs.Prelude.{filter, find, fold, if◌then◌else◌, map, nat_le, not, option_map, ⊤}
use Rattle.std.specs.List.{AllByRecursion, list_all, list_any}
use Rattle.std.specs.Option.{option_and_then}
use Rattle.std.proofs.lemmas.Bool.{cases_Bool, eq-eqb, eqb-true}
use Rattle.std.proofs.lemmas.Bool.Decides.{nat_tests}
use Rattle.dc_base.specs.Nodes as nodes
use Rattle.dc_base.specs.declared.events.Event.{Event}
use Rattle.dc_base.specs.declared.events.Header.{Header}
use Rattle.dc_base.specs.declared.events.Line.{Line}
use Rattle.dc_base.specs.declared.events.Line.TheVariants as line
use Rattle.dc_base.specs.declared.events.Note.{Note}
use Rattle.dc_base.specs.declared.flights.Flight.TheVariants as flight
use Rattle.dc_base.specs.declared.nodes.KeyName.{KeyName}
use Rattle.dc_base.specs.declared.nodes.LinkId.{LinkId}
use Rattle.dc_base.specs.declared.nodes.Node.{Node}
use Rattle.dc_base.specs.declared.nodes.Side.{Side}
use Rattle.dc_base.specs.declared.nodes.Side.TheVariants.{Master, Second}
use Rattle.dc_base.specs.declared.records.Item.{Item}
use Rattle.dc_base.specs.declared.records.Item.TheVariants.{Set, Unset}
use Rattle.dc_base.specs.declared.records.Plan.{Plan}
use Rattle.dc_base.specs.declared.records.Rec.{Rec}
use Rattle.dc_base.specs.declared.records.Rec.TheVariants as rec
use Rattle.key_chain.specs.Book.{Claim, is_spent, spends}
use Rattle.claims.specs.Carrying.{bearer_in_row, with_item}
use Rattle.claims.specs.Claim.{Each, EachLine, of_lines}
use Rattle.claims.specs.Judged.{judged}
use Rattle.claims.specs.Names as claims
use Rattle.claims.specs.Names.{claim}
use Rattle.claims.specs.Noted.{noted}
use Rattle.claims.specs.OneUse.{is_one_use, is_unused, plan_is_unused, uses_of}
use Rattle.claims.specs.Past.{Bearer, Past, new_past}
use Rattle.claims.specs.Reading.{Setting, bearer_of, named, setting, setting_of, sets}
use Rattle.claims.specs.Sameness.{is_same_key, is_some_and, side_number}
use Rattle.claims.specs.Table as claimed
use Rattle.claims.specs.Table.{Claimed}
use Rattle.claims.specs.Views.{carried_plan}
use Rattle.node_rules.specs.Choices.{Choices}
use Rattle.node_rules.specs.CommandTable.{Table}
use Rattle.node_rules.specs.Run.{carried_on, entries_from, happening, world_step}
use Rattle.node_rules.specs.World.{World, new_world}
use Rattle.node_rules.specs.declared.commands.Row.{Row}
use Rattle.run_control.specs.Sound.{AddsSecond}
use Rattle.run_table.specs.Orders.{OrderFits, before_order, is_order_line}
use Rattle.run_table.specs.SameTable.{SameUses}
use Rattle.run_table.specs.View.{View, carries, carries_if, carries_plan, carries_with, planned, view}
use Rattle.run_table.specs.Words.{Words, hears, is_word_line, lines_in, notes_of, order_sends}
use Rattle.run_table.proofs.LineWords.{quiet_line}
use Rattle.run_table.proofs.Steps.{agrees_after}
use Rattle.run_table.proofs.Views.{hears_answer, judged_view, noted_view}
use Rattle.run_words.specs.Parts.{at_lines}
use Rattle.run_words.proofs.Lines.{each_line_of}
use Rattle.run_words.proofs.Runs.{each_if}
use Rattle.run_windows.specs.Seen.{Count, Face, answered, latest, seen, seen_of}
use Rattle.run_windows.proofs.Seeing.{judged_seen, noted_seen}
use Rattle.run_keys.specs.Keyed.{AreSet, IsKeyed, IsKeyedRow, IsSetIn, claim_of}
use Rattle.run_keys.specs.Names.{HoldsKeys, est}
use Rattle.run_keys.specs.Tables.{OfSome}
use Rattle.run_keys.proofs.Worlds.{event_then, holds_keys_new, holds_keys_next, line_est, unordered}

-- ---- keys are the same by both tests

same_sides : (a b : Side) → (side_number a == side_number b) ≡ nodes.is_same_side a b
same_sides Master Master = refl
same_sides Master (Second d) = grind (arith, nat_tests)
same_sides (Second c) Master = grind (arith, nat_tests)
same_sides (Second c) (Second d) = grind (arith, nat_tests)

pub same_keys : (a b : KeyName) → is_same_key a b ≡ nodes.is_same_key a b
same_keys a b = ap (λ s. (a.root == b.root) && s) (same_sides a.side b.side)

flip : (a b : ℕ) → (a == b) ≡ (b == a)
flip a b = grind (arith, nat_tests)

-- ---- the establishment that a generation names

-- the latest of an identity that was drawn by a generation is the latest, if that was
pub latest_named : (id g e : ℕ) (bs : List Bearer) → option_map (λ (b : Face × Count). b.0.g) (latest id (map seen_of bs)) ≡ Some e → e ≤ g
    → (b : Bearer) × (find (λ b. (b.id == id) && nat_le b.g g) bs ≡ Some b) × (b.g ≡ e)
latest_named id g e [] is le = absurd (let bad : None ≡ Some e = is in cc)
latest_named id g e (b ∷ bs) is le =
    elim (cases_Bool (b.id == id)) [
      | inl here ↦
          let name : b.g ≡ e = let at : Some b.g ≡ Some e = rw here at is in cc in
          let under : nat_le b.g g ≡ true = grind (arith, nat_tests, le, name) in
          (b, rw here (rw under refl), name)
      | inr apart ↦ let rest = latest_named id g e bs (rw apart at is) le in (rest.0, rw apart rest.1, rest.2)
    ]

-- an item that sets an identity is found
setting_there : (sec : Option Node) (id : ℕ) (items : List Item) → list_any (sets id) items ≡ true → (x : Setting) × (setting_of sec (find (sets id) items) ≡ Some x)
setting_there sec id [] any = absurd (let bad : false ≡ true = any in cc)
setting_there sec id (Set i n first shape threshold policy key old ∷ items) any =
    elim (cases_Bool (i == id)) [
      | inl here ↦ (record { sec = sec; shape = shape; key = key; old = old }, rw here refl)
      | inr apart ↦ let rest = setting_there sec id items (rw apart at any) in (rest.0, rw apart rest.1)
    ]
setting_there sec id (Unset i ∷ items) any = setting_there sec id items any

-- ---- the keys in use

-- another establishment of the identity uses the key
abbrev pub spent_use : ℕ → KeyName → ℕ → ℕ → KeyName → ℕ → Bool
spent_use id key e i k b = ((i == id) && is_same_key key k) && not (b == e)

pub all_own : (id e : ℕ) (key : KeyName) (us : List Claimed) → list_any (λ u. spent_use id key e u.id u.key u.bearer) us ≡ false → list_all (λ c. c.bearer == e) (uses_of id key us) ≡ true
all_own id e key [] none = refl
all_own id e key (u ∷ us) none =
    elim (cases_Bool ((u.id == id) && is_same_key key u.key)) [
      | inl here ↦ elim (cases_Bool (u.bearer == e)) [
        | inl own ↦ rw here (rw own (all_own id e key us (rw own at (rw here at none))))
        | inr other ↦ absurd (let bad : true ≡ false = rw other at (rw here at none) in cc)
      ]
      | inr apart ↦ rw apart (all_own id e key us (rw apart at none))
    ]

one_spent : (id e : ℕ) (key : KeyName) (c : Claim) → spent_use id key e c.id c.key c.est ≡ spends id e key c
one_spent id e key c = ap₂ (λ a b. (a && b) && not (c.est == e)) (flip c.id id) (same_keys key c.key)

pub each_spent : (id e : ℕ) (key : KeyName) (cs : List Claim) → list_any (λ c. spent_use id key e c.id c.key c.est) cs ≡ is_spent cs id e key
each_spent id e key [] = refl
each_spent id e key (c ∷ cs) = ap₂ (λ a b. a || b) (one_spent id e key c) (each_spent id e key cs)

-- a row that is found has made its claim
pub row_keyed : (P : Row → Type 0) (id : ℕ) (rows : List Row) (r : Row) → AllByRecursion P rows → find (λ x. x.id == id) rows ≡ Some r → P r × (r.id ≡ id)
row_keyed P id [] r all is = absurd (let bad : None ≡ Some r = is in cc)
row_keyed P id (x ∷ xs) r all is =
    elim (cases_Bool (x.id == id)) [
      | inl here ↦ let same : x ≡ r = let e = rw here at is in cc in (subst P same all.0, sym (ap (λ (y : Row). y.id) same) ∙ eqb-true x.id id here)
      | inr apart ↦ row_keyed P id xs r all.1 (rw apart at is)
    ]

-- uses in the one list are in the other
abbrev pub Within : List Claimed → List Claim → Type 0
Within us cs = (f : ℕ → KeyName → ℕ → Bool) → list_any (λ u. f u.id u.key u.bearer) us ≡ true → list_any (λ c. f c.id c.key c.est) cs ≡ true

-- ---- a plan whose bearers the table has

module _ (E : ℕ → Option ℕ) (t : Table) (is : IsKeyed E t) (p : Past) (names : (id : ℕ) → est (seen p) id ≡ E id) (within : Within p.table.uses t.book.claims) (q : Plan) (drawn : planned p.plans q.g ≡ Some q) where
  item_unused : (i : Item) → IsSetIn t q.g i → ((id : ℕ) → sets id i ≡ true → list_any (sets id) q.items ≡ true) → is_unused p q.g i ≡ true
  item_unused (Unset id) set there = refl
  item_unused (Set id n first shape threshold policy key old) set there =
      let r = set.0 in
      let it = row_keyed (IsKeyedRow E t.book t.last) id t.rows r is.rows set.1 in
      let name : est (seen p) id ≡ Some r.est = names id ∙ ap E (sym it.1) ∙ it.0.latest in
      let found = latest_named id q.g r.est p.bearers name set.3 in
      let b = found.0 in
      let x = setting_there q.sec id q.items (there id (eq-eqb id id refl)) in
      let here : setting p id q.g ≡ Some x.0 = ap (λ o. option_and_then (λ (q : Plan). setting_of q.sec (find (sets id) q.items)) o) drawn ∙ x.1 in
      let at : bearer_of p id q.g ≡ Some b = ap (λ o. named p id q.g o) here ∙ found.1 in
      let unspent : is_spent t.book.claims id r.est key ≡ false =
      ap₂ (λ i k. is_spent t.book.claims i r.est k) (sym it.1) (sym set.2) ∙ is.one (claim_of r) it.0.claimed in
      let none : list_any (λ u. spent_use id key r.est u.id u.key u.bearer) p.table.uses ≡ false = elim (cases_Bool (list_any (λ u. spent_use id key r.est u.id u.key u.bearer) p.table.uses)) [
        | inl some' ↦ absurd (let bad : false ≡ true = sym unspent ∙ sym (each_spent id r.est key t.book.claims) ∙ within (spent_use id key r.est) some' in cc)
        | inr no' ↦ no'
      ] in
      ap (λ o. is_some_and (λ (b : Bearer). list_all (λ c. c.bearer == b.g) (uses_of id key p.table.uses)) o) at
      ∙ ap (λ g. list_all (λ (c : Claimed). c.bearer == g) (uses_of id key p.table.uses)) found.2 ∙ all_own id r.est key p.table.uses none

  items_unused : (is' : List Item) → AllByRecursion (IsSetIn t q.g) is' → ((id : ℕ) → list_any (sets id) is' ≡ true → list_any (sets id) q.items ≡ true) → list_all (is_unused p q.g) is' ≡ true
  items_unused [] set there = refl
  items_unused (i ∷ is') set there =
      rw (item_unused i set.0 (λ id it. there id (ap (λ b. b || list_any (sets id) is') it)))
      (items_unused is' set.1 (λ id it. there id (more (sets id i) (list_any (sets id) is') it)))
    where
      more : (a b : Bool) → b ≡ true → (a || b) ≡ true
      more true b it = refl
      more false b it = it

  pub plan_unused : AreSet t q → plan_is_unused p q ≡ true
  plan_unused set = items_unused q.items set (λ id it. it)

-- ---- uses stay in use

item_uses : (f : Claimed → Bool) (g : ℕ) (t : claimed.Table) (i : Item) → list_any f t.uses ≡ true → list_any f (with_item g t i).uses ≡ true
item_uses f g t (Unset id) is = is
item_uses f g t (Set id n first shape threshold policy key old) is =
    elim (cases_Bool (f (record { id = id; key = key; bearer = bearer_in_row g old (claimed.row t id) }))) [ inl yes' ↦ rw yes' refl | inr no' ↦ rw no' is ]

items_uses : (f : Claimed → Bool) (g : ℕ) (is' : List Item) (t : claimed.Table) → list_any f t.uses ≡ true → list_any f (fold (with_item g) t is').uses ≡ true
items_uses f g [] t is = is
items_uses f g (i ∷ is') t is = items_uses f g is' (with_item g t i) (item_uses f g t i is)

pub carries_uses : (f : Claimed → Bool) (g : ℕ) (v : View) → list_any f v.table.uses ≡ true → list_any f (carries g v).table.uses ≡ true
carries_uses f g v is = by v.table.command
  where
    of_plan : (c : claimed.Command) (o : Option Plan) → list_any f (carries_plan g c o v).table.uses ≡ true
    of_plan c None = is
    of_plan c (Some q) = items_uses f g q.items v.table is

    if_so : (c : claimed.Command) (b : Bool) → list_any f (carries_if g c b v).table.uses ≡ true
    if_so c true = of_plan c (planned v.plans g)
    if_so c false = is

    by : (o : Option claimed.Command) → list_any f (carries_with g o v).table.uses ≡ true
    by None = is
    by (Some c) = if_so c _

-- ---- the lines of an event

-- the claim on keys, of a record by which a plan is carried out
abbrev order_is_one_use : Past → Line → Bool
order_is_one_use p x = if is_order_line x then is_one_use p x else true

module _ (E : ℕ → Option ℕ) (t : Table) (is : IsKeyed E t) where
  -- a plan that may be carried out here
  abbrev Ready : View → Plan → Type 0
  Ready v q = (planned v.plans q.g ≡ Some q) × (Within v.table.uses t.book.claims × AreSet t q)

  -- where a line carries one out
  abbrev OrderHere : View → Line → Type 0
  OrderHere v (line.Send l f) = OfSome (Ready v) (carried_plan f)
  OrderHere v (line.Note n) = ⊤
  OrderHere v (line.Event e) = ⊤
  OrderHere v (line.Answer a) = ⊤

  -- in each line
  abbrev EachOrder : View → List Line → Type 0
  EachOrder v [] = ⊤
  EachOrder v (x ∷ xs) = OrderHere v x × EachOrder (hears v x) xs

  no_order : (v : View) (x : Line) → is_word_line x ≡ false → OrderHere v x
  no_order v (line.Note n) none = tt
  no_order v (line.Event e) none = tt
  no_order v (line.Answer a) none = tt
  no_order v (line.Send l f) none = subst (OfSome (Ready v)) (sym (unordered f none)) tt

  of_words : (xs : List Line) (v : View) → EachOrder v (filter is_word_line xs) → EachOrder v xs
  of_words [] v each = tt
  of_words (x ∷ xs) v each =
      elim (cases_Bool (is_word_line x)) [
        | inl yes' ↦ let here = rw yes' at each in (here.0, of_words xs (hears v x) here.1)
        | inr no' ↦ (no_order v x no', subst (λ u. EachOrder u xs) (sym (quiet_line v x no')) (of_words xs v (rw no' at each)))
      ]

  of_order : (ns : List Note) (o : Option (Plan × List ℕ)) (v : View) → ((x : Plan × List ℕ) → o ≡ Some x → Ready (fold hears v (lines_in ns [])) x.0) → EachOrder v (lines_in ns (order_sends o))
  of_order [] None v ready = tt
  of_order [] (Some x) v ready = (ready x refl, tt)
  of_order (n ∷ ns) o v ready = (tt, of_order ns o (hears v (line.Note n)) ready)

  record_one_use : (p : Past) (l : LinkId) (r : Rec) → (names : (id : ℕ) → est (seen p) id ≡ E id) → OfSome (Ready (view p)) (carried_plan (flight.Ctl r)) → order_is_one_use p (line.Send l (flight.Ctl r)) ≡ true
  record_one_use p l (rec.Reconf q key) names ready = plan_unused E t is p names ready.1.0 q ready.0 ready.1.1
  record_one_use p l (rec.Rcomp g) names ready = refl
  record_one_use p l (rec.Scgf x) names ready = refl
  record_one_use p l (rec.Recov id) names ready = refl
  record_one_use p l (rec.Recovd id) names ready = refl
  record_one_use p l (rec.Addreq q key) names ready = refl
  record_one_use p l (rec.Addack g) names ready = refl
  record_one_use p l (rec.Addrej g) names ready = refl
  record_one_use p l (rec.Modreq q key) names ready = refl
  record_one_use p l (rec.Modack g) names ready = refl
  record_one_use p l (rec.Modrej g) names ready = refl
  record_one_use p l (rec.Recfg g) names ready = refl
  record_one_use p l (rec.Relreq q) names ready = refl
  record_one_use p l (rec.Relack g) names ready = refl
  record_one_use p l (rec.Relrej g) names ready = refl
  record_one_use p l (rec.Uecr g) names ready = refl
  record_one_use p l (rec.Snst st) names ready = refl
  record_one_use p l (rec.Moved g id) names ready = refl
  record_one_use p l (rec.Scgn id g) names ready = refl
  record_one_use p l rec.Modrqd names ready = refl
  record_one_use p l (rec.Modcnf g) names ready = refl
  record_one_use p l (rec.Modref w) names ready = refl
  record_one_use p l rec.Chgrqd names ready = refl
  record_one_use p l (rec.Chgcnf q) names ready = refl
  record_one_use p l (rec.Chgref w) names ready = refl
  record_one_use p l rec.Relrqd names ready = refl
  record_one_use p l (rec.Relcnf q) names ready = refl

  line_one_use : (p : Past) (x : Line) → ((id : ℕ) → est (seen p) id ≡ E id) → OrderHere (view p) x → order_is_one_use p x ≡ true
  line_one_use p (line.Note n) names here = refl
  line_one_use p (line.Event e) names here = refl
  line_one_use p (line.Answer a) names here = refl
  line_one_use p (line.Send l (flight.Ctl r)) names here = record_one_use p l r names here
  line_one_use p (line.Send l (flight.Air id g num tag pdu)) names here = refl
  line_one_use p (line.Send l (flight.Ack id g num)) names here = refl
  line_one_use p (line.Send l (flight.Tun tag packet)) names here = refl
  line_one_use p (line.Send l (flight.Sdu id g sdu)) names here = refl
  line_one_use p (line.Send l (flight.End id g)) names here = refl
  line_one_use p (line.Send l (flight.Told id g count)) names here = refl

  lines_one_use : (xs : List Line) (p : Past) → ((id : ℕ) → est (seen p) id ≡ E id) → EachOrder (view p) xs → EachLine order_is_one_use p xs
  lines_one_use [] p names each = tt
  lines_one_use (x ∷ xs) p names each = (
    line_one_use p x names each.0,
    lines_one_use xs (noted p x) (λ id. ap (λ s. est s id) (noted_seen p x) ∙ line_est (seen p) x id ∙ names id) (subst (λ v. EachOrder v xs) (sym (noted_view p x)) each.1),
  )

-- what a line has the terminal carry out is set in the table
abbrev OfLine : (Plan → Type 0) → Line → Type 0
OfLine P (line.Send l f) = OfSome P (carried_plan f)
OfLine P (line.Note n) = ⊤
OfLine P (line.Event e) = ⊤
OfLine P (line.Answer a) = ⊤

notes_set : (P : Plan → Type 0) (ns : List Note) → AllByRecursion (λ n. OfLine P (line.Note n)) ns
notes_set P [] = tt
notes_set P (n ∷ ns) = (tt, notes_set P ns)

words_set : (P : Plan → Type 0) (xs : List Line) → AllByRecursion (OfLine P) xs → AllByRecursion (OfLine P) (filter is_word_line xs)
words_set P [] all = tt
words_set P (x ∷ xs) all = elim (cases_Bool (is_word_line x)) [ inl yes' ↦ rw yes' (all.0, words_set P xs all.1) | inr no' ↦ rw no' (words_set P xs all.1) ]

order_set : (P : Plan → Type 0) (ns : List Note) (x : Plan × List ℕ) → AllByRecursion (OfLine P) (lines_in ns (order_sends (Some x))) → P x.0
order_set P [] x all = all.0
order_set P (n ∷ ns) x all = order_set P ns x all.1

-- the notes, and then the order
fold_order : (ns : List Note) (x : Plan × List ℕ) (v : View) → fold hears v (lines_in ns (order_sends (Some x))) ≡ carries x.0.g (fold hears v (lines_in ns []))
fold_order [] x v = refl
fold_order (n ∷ ns) x v = fold_order ns x (hears v (line.Note n))

-- only words are heard
words_heard : (xs : List Line) (v : View) → fold hears v (filter is_word_line xs) ≡ fold hears v xs
words_heard [] v = refl
words_heard (x ∷ xs) v =
    elim (cases_Bool (is_word_line x)) [
      | inl yes' ↦ rw yes' (words_heard xs (hears v x))
      | inr no' ↦ rw no' (words_heard xs v ∙ ap (λ u. fold hears u xs) (sym (quiet_line v x no')))
    ]

module _ (c : Choices) where
  event_unused : (w : World) (p : Past) (e : Event) → AddsSecond e → HoldsKeys p w → let x = (world_step c w e).1 in EachLine order_is_one_use (judged x.event x.answer p) x.lines
  event_unused w p e adds is =
      let x = (world_step c w e).1 in
      let o = (carried_on c w (happening w e)).1 in
      let v = hears_answer p e x.answer (view p) in
      let done = agrees_after c w p (view p) e adds is.lasts.none is.lasts.agree in
      let then' = event_then c w p is e adds in
      let t : Table = (world_step c w e).0.master.proc.table in
      let E : ℕ → Option ℕ = est (answered e x.answer (seen p)) in
      let all : AllByRecursion (OfLine (AreSet t)) x.lines = each_line_of (OfLine (AreSet t)) o (notes_set (AreSet t) o.notes) then'.sends in
      let ready : (y : Plan × List ℕ) → done.words.order ≡ Some y → Ready E t then'.state.table (before_order done.words v) y.0 =
      λ y is_it. ready_so t E then'.state.table v done.words y is_it done.fits x.lines all done.said done.agree.same.rest.uses in
      let each : EachOrder E t then'.state.table v (lines_in (notes_of done.words) (order_sends done.words.order)) = of_order E t then'.state.table (notes_of done.words) done.words.order v ready in
      let lines : EachOrder E t then'.state.table v x.lines = of_words E t then'.state.table x.lines v (subst (λ xs. EachOrder E t then'.state.table v xs) (sym done.said) each) in
      lines_one_use E t then'.state.table x.lines (judged e x.answer p) (λ id. ap (λ s. est s id) (judged_seen e x.answer p))
      (subst (λ u. EachOrder E t then'.state.table u x.lines) (sym (judged_view e x.answer p)) lines)
    where
      ready_so : (t : Table) (E : ℕ → Option ℕ) (keyed : IsKeyed E t) (v : View) (words : Words) (y : Plan × List ℕ) → words.order ≡ Some y → OrderFits (before_order words v) words.order
          → (lines : List Line) → AllByRecursion (OfLine (AreSet t)) lines → filter is_word_line lines ≡ lines_in (notes_of words) (order_sends words.order)
          → SameUses (fold hears v lines).table.uses t.book.claims → Ready E t keyed (before_order words v) y.0
      ready_so t E keyed v words y is_it fits lines all said uses =
          let u = before_order words v in
          let fitting = subst (λ o. OrderFits u o) is_it fits in
          let said' : filter is_word_line lines ≡ lines_in (notes_of words) (order_sends (Some y)) = said ∙ ap (λ o. lines_in (notes_of words) (order_sends o)) is_it in
          let end' : fold hears v lines ≡ carries y.0.g u = sym (words_heard lines v) ∙ ap (λ xs. fold hears v xs) said' ∙ fold_order (notes_of words) y v in (
            fitting.drawn,
            (
              (λ f used. sym (uses f) ∙ ap (λ (z : View). list_any (λ x. f x.id x.key x.bearer) z.table.uses) end' ∙ carries_uses (λ x. f x.id x.key x.bearer) y.0.g u used),
              order_set (AreSet t) (notes_of words) y (subst (AllByRecursion (OfLine (AreSet t))) said' (words_set (AreSet t) lines all)),
            ),
          )

  pub orders_unused : (h : Header) (policies : ℕ) (es : List Event) → AllByRecursion AddsSecond es → Each (at_lines is_order_line (claim claims.one_use)) (new_past h policies) (entries_from c (new_world h) es)
  orders_unused h policies es adds =
      each_if c (of_lines order_is_one_use) AddsSecond HoldsKeys event_unused (λ w p e add is. refl) (λ w p e add is. holds_keys_next c w p is e add) es adds (new_world h) (new_past h policies) (holds_keys_new h policies)
