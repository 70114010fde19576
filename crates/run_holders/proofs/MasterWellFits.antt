-- The lines of a step of the master suit the past, by what is so of the event before them and after them.
use Rattle.std.proofs.Common.{ℕ, ◌≡◌, ◌==◌, ◌++◌, ◌∙◌, Bool, true, false, List, [], ◌∷◌, Option, Some, None, refl, sym, ap, subst, inl, inr}
use Rattle.std.proofs.lemmas.Bool.{cases_Bool, eq-eqb, eqb-true}
use Rattle.std.specs.List.{AllByRecursion, list_any}
use Rattle.std.specs.Prelude.{find, fold, if◌then◌else◌, is_some, ⊤, ◌+◌, ◌||◌, ◌⊎◌}
use Rattle.dc_base.specs.Nodes.{is_same_node}
use Rattle.dc_base.specs.declared.events.Event.{Event}
use Rattle.dc_base.specs.declared.events.Line.{Line}
use Rattle.dc_base.specs.declared.events.Line.TheVariants as line
use Rattle.dc_base.specs.declared.events.Note.{Note}
use Rattle.dc_base.specs.declared.events.Note.TheVariants as note
use Rattle.dc_base.specs.declared.nodes.Node.{Node}
use Rattle.dc_base.specs.declared.nodes.Node.TheVariants.{A, B, M, T}
use Rattle.dc_base.specs.declared.records.Item.{Item}
use Rattle.dc_base.specs.declared.records.Item.TheVariants as item
use Rattle.dc_base.specs.declared.records.Plan.{Plan}
use Rattle.transcript.proofs.OnEach.{each_append, each_weaker}
use Rattle.node_rules.specs.Choices.{Choices, Send}
use Rattle.node_rules.specs.Effects.{in_turn}
use Rattle.node_rules.specs.Lines.{lines_of}
use Rattle.node_rules.specs.Anchor.{AnchorState}
use Rattle.node_rules.specs.Held.{held}
use Rattle.node_rules.specs.Master.{MasterNode}
use Rattle.node_rules.specs.MasterPlan.{carries_item}
use Rattle.node_rules.specs.MasterStep.{master_step}
use Rattle.node_rules.specs.Run.{Happening, carried_on, given_to}
use Rattle.node_rules.specs.World.{World}
use Rattle.node_rules.specs.declared.commands.Command.{Command}
use Rattle.node_rules.specs.declared.commands.Command.TheVariants.{Gone as gone}
use Rattle.node_rules.specs.declared.commands.Going.{Going}
use Rattle.node_rules.specs.declared.inputs.Effects.{Effects}
use Rattle.node_rules.specs.declared.inputs.Input.{Input}
use Rattle.node_rules.specs.declared.inputs.Outcome.{Outcome}
use Rattle.claims.specs.Judged.{judged}
use Rattle.claims.specs.Noted.{noted}
use Rattle.claims.specs.Past.{Past}
use Rattle.claims.specs.Reading.{Setting, setting_of, sets, unsets}
use Rattle.claims.specs.Table as claims
use Rattle.run_keys.specs.Keyed.{AreSet, IsKeyed}
use Rattle.run_keys.specs.Names.{est}
use Rattle.run_keys.specs.Tables.{OfCommand, OfProc}
use Rattle.run_relays.proofs.Drawn.{SendBrings}
use Rattle.run_relays.proofs.Planned.{Runs}
use Rattle.run_table.specs.SameTable.{Agree, SameCommand}
use Rattle.run_table.specs.View.{View, planned, view}
use Rattle.run_uplinks.proofs.Wells.{IsWell}
use Rattle.run_uplinks.specs.Seen as uplinks
use Rattle.run_uplinks.specs.Uplinks.{AreSettings, IsDrawn, bearer_drawn, drop_drawn, nothing_drawn, settings_drawn}
use Rattle.run_windows.specs.Seen.{seen}
use Rattle.run_words.proofs.Lines.{each_line_of}
use Rattle.run_holders.specs.Actives.{Actives, active_of, is_of_anchor, line_actives, master_actives}
use Rattle.run_holders.specs.Fitting.{AllSuit, IsApart}
use Rattle.run_holders.specs.LeftOver.{MasterLines}
use Rattle.run_holders.specs.Lines.{IsQuiet}
use Rattle.run_holders.specs.Suited.{actives_at}
use Rattle.run_holders.proofs.MasterWellActs.{NoteNone}
use Rattle.run_holders.proofs.MasterWellCut.{Cut, cut_lines}
use Rattle.run_holders.proofs.MasterWellItems.{IsOfItems, drop_done, items_done, items_end}
use Rattle.run_holders.proofs.MasterWellLines.{DropsNone, LineOf, OrdersOf, OwnsOf, StillOf, descends_all, sets_all, suit_append, suit_quiet, suit_rest, suit_start, well_all}
use Rattle.run_holders.proofs.MasterWellSets.{SetsBy, table_sets}
use Rattle.run_holders.proofs.MasterWellSteps.{ShapeOf, WithPlan, with_plan, without_plan}
use Rattle.run_holders.proofs.NamesApart.{Descends, before_descends}

-- ---- an event

-- the past after it
abbrev pub past_then : Past → Event → Outcome → Past
past_then p e o = fold noted (judged e o.answer p) (lines_of o)

-- before its lines all is well; after them the plans that it sends were drawn, the command table is the master's, with its keys, and no
-- other node has an active anchor where the master has
pub record Then (c : Choices) (p : Past) (w : World) (e : Event) (h : Happening) : Type 0 where
  pub well : IsWell (view (judged e (carried_on c w h).1.answer p))
  pub brings : AllByRecursion (SendBrings (past_then p e (carried_on c w h).1).plans) (carried_on c w h).1.sends
  pub keys : OfProc (IsKeyed (est (seen (past_then p e (carried_on c w h).1)))) AreSet (carried_on c w h).0.master.proc
  pub agree : Agree (view (past_then p e (carried_on c w h).1)) (carried_on c w h).0.master.proc
  pub drawn : IsDrawn (uplinks.seen (past_then p e (carried_on c w h).1))
  pub down : Descends (past_then p e (carried_on c w h).1)
  pub alone : (id : ℕ) → is_some (actives_at M (carried_on c w h).0 id) ≡ true → (y : Node) → is_same_node M y ≡ false
      → actives_at y (carried_on c w h).0 id ≡ None

-- ---- the plan that is carried out

-- it is the last one drawn: it drops no bearer, or one alone
last_by : (v : View) (q : Plan) (going : Going) (o : Option claims.Command) → SameCommand v (Some (gone q going)) o → q.g ≡ v.table.last
last_by v q going None same = absurd same
last_by v q going (Some k) same = same.last

head_is : (q x : Plan) (xs : List Plan) → x.g ≡ q.g → planned (x ∷ xs) q.g ≡ Some q → x ≡ q
head_is q x xs same at = by (x.g == q.g) (eq-eqb x.g q.g same) at
  where
    or_else : Option Plan → Plan
    or_else None = x
    or_else (Some z) = z

    by : (b : Bool) → b ≡ true → (if b then Some x else planned xs q.g) ≡ Some q → x ≡ q
    by true is so = ap or_else so
    by false is so = absurd cc

settings_keep : (from : ℕ) (items : List Item) → AreSettings from items → (id : ℕ) → list_any (unsets id) items ≡ false
settings_keep from [] all id = refl
settings_keep from (item.Set k n first shape threshold policy key None ∷ items) all id = absurd all
settings_keep from (item.Set k n first shape threshold policy key (Some old) ∷ items) all id = settings_keep (k + 1) items all.1 id
settings_keep from (item.Unset k ∷ items) all id = absurd all

drops_or : (p : Past) (q : Plan) → IsDrawn (uplinks.seen p) → planned p.plans q.g ≡ Some q → q.g ≡ p.table.last
    → DropsNone q ⊎ ((id : ℕ) × (q.items ≡ item.Unset id ∷ []))
drops_or p q (nothing_drawn plans bearers) at last = absurd (let bad : None ≡ Some q = sym (ap (λ (ps : List Plan). planned ps q.g) plans) ∙ at in cc)
drops_or p q (settings_drawn x xs plans is olds below) at last =
    let same = head_is q x xs (is ∙ sym last) (sym (ap (λ (ps : List Plan). planned ps q.g) plans) ∙ at) in
    inl (λ k. subst (λ (z : Plan). list_any (unsets k) z.items ≡ false) same (settings_keep 0 x.items olds k))
drops_or p q (bearer_drawn x xs plans is id n first shape threshold policy key items u us bearers named of_id of_n of_first below) at last =
    let same = head_is q x xs (is ∙ sym last) (sym (ap (λ (ps : List Plan). planned ps q.g) plans) ∙ at) in
    inl (λ k. subst (λ (z : Plan). list_any (unsets k) z.items ≡ false) same (ap (list_any (unsets k)) items))
drops_or p q (drop_drawn x xs plans is id items below) at last =
    let same = head_is q x xs (is ∙ sym last) (sym (ap (λ (ps : List Plan). planned ps q.g) plans) ∙ at) in
    inr (id, subst (λ (z : Plan). z.items ≡ item.Unset id ∷ []) same items)

item_setting : (sec : Option Node) (id : ℕ) (items : List Item) → list_any (sets id) items ≡ true
    → (x : Setting) × (setting_of sec (find (sets id) items) ≡ Some x)
item_setting sec id [] any = absurd (let bad : false ≡ true = any in cc)
item_setting sec id (item.Set i n first shape threshold policy key old ∷ items) any =
    elim (cases_Bool (i == id)) [
      | inl here ↦ (record { sec = sec; shape = shape; key = key; old = old }, rw here refl)
      | inr apart ↦ let rest = item_setting sec id items (rw apart at any) in (rest.0, rw apart rest.1)
    ]
item_setting sec id (item.Unset i ∷ items) any = item_setting sec id items any

-- ---- lines and other nodes

lines_apart : (P : ℕ → ℕ → Type 0) (Q : Plan → Type 0) (b : Actives) → ((id g : ℕ) → P id g → b id ≡ None) → (ls : List Line) → AllByRecursion (LineOf P Q) ls
    → AllByRecursion (IsApart b) ls
lines_apart P Q b own [] all = tt
lines_apart P Q b own (l ∷ ls) all = (by l all.0, lines_apart P Q b own ls all.1)
  where
    by : (l : Line) → LineOf P Q l → IsApart b l
    by (line.Note (note.Own x id g)) is = own id g is
    by l is = tt

quiet_apart : (b : Actives) (ls : List Line) → AllByRecursion IsQuiet ls → AllByRecursion (IsApart b) ls
quiet_apart b [] quiet = tt
quiet_apart b (l ∷ ls) quiet = (by l quiet.0, quiet_apart b ls quiet.1)
  where
    by : (l : Line) → IsQuiet l → IsApart b l
    by (line.Note (note.Own x id g)) is = absurd cc
    by l is = tt

sends_quiet : (ss : List Send) → AllByRecursion (λ (s : Send). IsQuiet (line.Send s.0 s.1)) ss
sends_quiet [] = tt
sends_quiet (s ∷ ss) = (tt, sends_quiet ss)

owns_any : (ns : List Note) → AllByRecursion (OwnsOf (λ id g. ⊤)) ns
owns_any [] = tt
owns_any (n ∷ ns) = (by n, owns_any ns)
  where
    by : (n : Note) → OwnsOf (λ id g. ⊤) n
    by (note.Own x id g) = tt
    by n = tt

fold_lines : (xs ys : List Line) (p : Past) → fold noted (fold noted p xs) ys ≡ fold noted p (xs ++ ys)
fold_lines [] ys p = refl
fold_lines (x ∷ xs) ys p = fold_lines xs ys (noted p x)

-- what a single drop drops
dropped_id : (id k : ℕ) → list_any (unsets k) (item.Unset id ∷ []) ≡ true → id ≡ k
dropped_id id k is = eqb-true id k (by (id == k) is)
  where
    by : (b : Bool) → (b || false) ≡ true → b ≡ true
    by true so = refl
    by false so = so

-- ---- a step

module _ (c : Choices) (p : Past) (w : World) (e : Event) (i : Input) (t : Then c p w e (given_to M i)) where
  abbrev o : Outcome
  o = (master_step c w.master i).1

  abbrev then' : Past
  then' = past_then p e (master_step c w.master i).1

  -- what may become active by what is so before the lines
  abbrev pub Before : ℕ → ℕ → Type 0
  Before id g = SetsBy (judged e (master_step c w.master i).1.answer p) id g × ((y : Node) → is_same_node M y ≡ false → actives_at y w id ≡ None)

  -- and what by what is so after them
  abbrev After : ℕ → ℕ → Type 0
  After id g = SetsBy (past_then p e (master_step c w.master i).1) id g × (is_some (actives_at M (carried_on c w (given_to M i)).0 id) ≡ true)

  down_before : Descends (judged e (master_step c w.master i).1.answer p)
  down_before = before_descends (lines_of o) (judged e o.answer p) t.down

  after_apart : (id g : ℕ) → After id g → (y : Node) → is_same_node M y ≡ false → actives_at y w id ≡ None
  after_apart id g is M apart = absurd (let bad : true ≡ false = apart in cc)
  after_apart id g is T apart = refl
  after_apart id g is A apart = t.alone id is.1 A apart
  after_apart id g is B apart = t.alone id is.1 B apart

  by_none : AllByRecursion (OwnsOf Before) o.notes → AllByRecursion (λ (s : Send). OrdersOf (λ q. ⊥) s.1) o.sends → MasterLines c p w e (given_to M i)
  by_none owns orders =
      let lines = each_line_of (LineOf Before (λ q. ⊥)) o owns orders in (
        inl (suit_start Before (lines_of o) (judged e o.answer p) (actives_at M w) t.well down_before (λ id g is. is.0) lines),
        λ y apart. lines_apart Before (λ q. ⊥) (actives_at y w) (λ id g is. is.1 y apart) (lines_of o) lines,
      )

  module _ (q : Plan) (is : WithPlan Before ((master_step c w.master i).0, record { notes = o.notes; sends = o.sends }) q) where
    abbrev goes : MasterNode × Effects
    goes = in_turn (carries_item q) is.at q.items

    runs : Runs then'.plans q
    runs = is.runs then'.plans t.brings

    set : AreSet (master_step c w.master i).0.proc.table q
    set = subst (OfCommand (IsKeyed (est (seen then'))) AreSet (master_step c w.master i).0.proc.table) is.opened t.keys.command

    owned_later : (n : Note) → IsOfItems q.items q.g (master_actives (in_turn (carries_item q) is.at q.items).0) n → OwnsOf After n
    owned_later (note.Own x id g) so =
        let its = item_setting q.sec id q.items so.1 in (
          subst (SetsBy then' id) (sym so.0) (table_sets then' (master_step c w.master i).0.proc.table q id its.0 t.keys.table set runs.0 its.1),
          ap (λ (xs : List (ℕ × AnchorState)). is_some (active_of (held id xs))) is.anchors ∙ so.2,
        )
    owned_later n so = tt

    kind : DropsNone q ⊎ ((id : ℕ) × (q.items ≡ item.Unset id ∷ []))
    kind = drops_or then' q t.drawn runs.0
        (last_by (view then') q is.going then'.table.command
        (subst (λ (x : Option Command). SameCommand (view then') x then'.table.command) is.opened t.agree.same.command))

    -- its lines: what was before it, and what comes of it
    cut : Cut (LineOf Before (λ r. ⊥)) (StillOf (λ id g. Before id g ⊎ After id g) (λ r. r ≡ q)) (lines_of o)
    cut =
        let items = items_done q q.items 0 runs.1 is.at is.up in
        let later = each_weaker (IsOfItems q.items q.g (master_actives (in_turn (carries_item q) is.at q.items).0))
        (OwnsOf After) owned_later goes.1.notes items.notes in
        cut_lines Before After (λ r. r ≡ q) o is.first goes.1.notes is.notes is.owns later
        (items_end q.items q.g (master_actives goes.0) goes.1.notes items.notes) is.orders

    -- a plan that drops none
    by_keeping : DropsNone q → MasterLines c p w e (given_to M i)
    by_keeping none =
        let start = judged e o.answer p in
        let a = actives_at M w in
        let ends : fold noted (fold noted start cut.start) cut.rest ≡ then' = fold_lines cut.start cut.rest start ∙ ap (fold noted start) (sym cut.is) in (
          inl (subst (AllSuit start a) (sym cut.is)
              (suit_append cut.start cut.rest start a (suit_start Before cut.start start a t.well down_before (λ id g so. so.0) cut.first)
              (suit_rest then' q runs.0 Before After none (λ id g so. so.0) cut.rest (fold noted start cut.start) (fold line_actives a cut.start) ends
              (well_all cut.start start t.well) (descends_all cut.start start down_before)
              (λ id g so. sets_all cut.start start t.well id g so.0) cut.then'))),
          λ y apart. subst (AllByRecursion (IsApart (actives_at y w))) (sym cut.is)
              (each_append (IsApart (actives_at y w)) cut.start cut.rest
              (lines_apart Before (λ r. ⊥) (actives_at y w) (λ id g so. so.1 y apart) cut.start cut.first)
              (lines_apart (λ id g. Before id g ⊎ After id g) (λ r. r ≡ q) (actives_at y w) (λ id g so. either' y apart id g so) cut.rest
              (each_weaker (StillOf (λ id g. Before id g ⊎ After id g) (λ r. r ≡ q)) (LineOf (λ id g. Before id g ⊎ After id g) (λ r. r ≡ q))
              (λ l so. so.1) cut.rest cut.then'))),
        )
      where
        either' : (y : Node) → is_same_node M y ≡ false → (id g : ℕ) → Before id g ⊎ After id g → actives_at y w id ≡ None
        either' y apart id g (inl so) = so.1 y apart
        either' y apart id g (inr so) = after_apart id g so y apart

    -- one that drops a bearer
    by_drop : (id : ℕ) → q.items ≡ item.Unset id ∷ [] → MasterLines c p w e (given_to M i)
    by_drop id items =
        let start = judged e o.answer p in
        let now = actives_at M (carried_on c w (given_to M i)).0 in
        let done = drop_done q id is.at is.up in
        let silent : goes.1.notes ≡ [] = ap (λ (xs : List Item). (in_turn (carries_item q) is.at xs).1.notes) items ∙ done.0 in
        let gone' : now id ≡ None =
        ap (λ (xs : List (ℕ × AnchorState)). active_of (held id xs)) is.anchors ∙ ap
        (λ (xs : List Item). master_actives (in_turn (carries_item q) is.at xs).0 id) items ∙ done.1 in
        let none : NoteNone o.notes = subst NoteNone (sym is.notes)
        (each_append (λ n. is_of_anchor n ≡ false) is.first goes.1.notes (calm is.calm) (subst NoteNone (sym silent) tt)) in
        let quiet' = each_line_of IsQuiet o none (sends_quiet o.sends) in (
          inr (
            quiet',
            suit_quiet then' q runs.0 (lines_of o) start now refl t.well
                (λ k drops. subst (λ j. now j ≡ None) (dropped_id id k (ap (list_any (unsets k)) (sym items) ∙ drops)) gone') quiet'
                (each_line_of (LineOf (λ k g. ⊤) (λ r. r ≡ q)) o (owns_any o.notes) is.orders),
          ),
          λ y apart. quiet_apart (actives_at y w) (lines_of o) quiet',
        )
      where
        calm : DropsNone q ⊎ NoteNone is.first → NoteNone is.first
        calm (inr none) = none
        calm (inl none) = absurd (let bad : false ≡ true = sym (none id) ∙ ap (list_any (unsets id)) items ∙ ap (λ b. b || false) (eq-eqb id id refl) in cc)

    by_plan : MasterLines c p w e (given_to M i)
    by_plan = by kind
      where
        by : DropsNone q ⊎ ((id : ℕ) × (q.items ≡ item.Unset id ∷ [])) → MasterLines c p w e (given_to M i)
        by (inl none) = by_keeping none
        by (inr (id, items)) = by_drop id items

  -- whatever the step does
  pub master_lines : ShapeOf Before (master_step c w.master i) → MasterLines c p w e (given_to M i)
  master_lines (without_plan owns orders) = by_none owns orders
  master_lines (with_plan q is) = by_plan q is
