-- A plan that comes to the terminal: what the terminal notes of it stands in its place.
use Rattle.std.proofs.Common.{ℕ, ◌≡◌, ◌+◌, ◌≤◌, ◌<◌, ◌==◌, ◌++◌, Bool, true, false, not, List, [], ◌∷◌, Option, Some, None, slice_get, refl, sym, ap, subst, ◌∙◌, inl, inr, arith}
use Rattle.std.specs.Prelude.{filter, find, flat_map, if◌then◌else◌, is_none, is_some, map, ⊤}
use Rattle.std.specs.List.{AllByRecursion, list_any}
use Rattle.std.proofs.lemmas.Bool.{eq-eqb, ne_eqb}
use Rattle.std.proofs.lemmas.List.{append-nil}
use Rattle.dc_base.specs.Links.{all_links, link}
use Rattle.dc_base.specs.declared.events.Line.{Line}
use Rattle.dc_base.specs.declared.events.Line.TheVariants as line
use Rattle.dc_base.specs.declared.events.Note.{Note}
use Rattle.dc_base.specs.declared.events.Note.TheVariants as note
use Rattle.dc_base.specs.declared.flights.Flight.{Flight}
use Rattle.dc_base.specs.declared.flights.Flight.TheVariants as flight
use Rattle.dc_base.specs.declared.nodes.Class.TheVariants.{Ctl}
use Rattle.dc_base.specs.declared.nodes.KeyName.{KeyName}
use Rattle.dc_base.specs.declared.nodes.LinkId.{LinkId}
use Rattle.dc_base.specs.declared.nodes.Node.{Node}
use Rattle.dc_base.specs.declared.nodes.Node.TheVariants.{M, T}
use Rattle.dc_base.specs.declared.nodes.Shape.{Shape}
use Rattle.dc_base.specs.declared.numbers.SnLen.{SnLen}
use Rattle.dc_base.specs.declared.records.Item.{Item}
use Rattle.dc_base.specs.declared.records.Item.TheVariants as item
use Rattle.dc_base.specs.declared.records.Plan.{Plan}
use Rattle.dc_base.specs.declared.records.Rec.{Rec}
use Rattle.dc_base.specs.declared.records.Rec.TheVariants as rec
use Rattle.key_chain.specs.KeyNames.{octets_of_side}
use Rattle.claims.specs.Past.{Past}
use Rattle.claims.specs.Sameness.{is_number}
use Rattle.node_rules.specs.Choices.{Choices, Send}
use Rattle.node_rules.specs.Effects.{accepted, in_turn}
use Rattle.node_rules.specs.Held.{held}
use Rattle.node_rules.specs.Lines.{is_end, lines_by, lines_of, notes_at, ordered, place, sends_on}
use Rattle.node_rules.specs.Setup.{Setup, setup_of}
use Rattle.node_rules.specs.Terminal.{TerminalNode, half_set, half_set_if, is_bearer_like, is_takable, item_taken, plan_taken}
use Rattle.node_rules.specs.TerminalHalf.{TerminalHalf}
use Rattle.node_rules.specs.World.{World, flights_on}
use Rattle.node_rules.specs.declared.inputs.Outcome.{Outcome}
use Rattle.run_control.specs.Links.{record_of, records_on}
use Rattle.run_generations.specs.Ahead.{HalvesBelow, IsAhead, IsHalfBelow}
use Rattle.run_generations.specs.Newer.{plan_generation}
use Rattle.run_generations.proofs.Held.{each_held}
use Rattle.run_generations.proofs.Runs.{new_when_taken}
use Rattle.run_uplinks.specs.Seen.{Seen, Uplink, latest, seen}
use Rattle.run_uplinks.specs.Uplinks.{AreSettings, Descend, Fits, IsDrawn, IsOut, IsUp, absent, bearer_drawn, drop_drawn, nothing_drawn, present, settings_drawn}
use Rattle.run_uplinks.proofs.Drawing.{drawn_below}
use Rattle.run_uplinks.proofs.Establishments.{latest-below, some_is}
use Rattle.run_uplinks.proofs.Plans.{AreTakable, IsLast, all_takable}
use Rattle.run_uplinks.proofs.Terminals.{present_at}
use Rattle.run_placed.proofs.Beside.{ArePlaced, IsBeside}
use Rattle.run_placed.proofs.Settings.{Gives, MaySet, MayTake, MayUnset, drop_placed, new_placed, note_of, settings_placed}

-- ---- the notes of a plan

set_notes : (c : Choices) (t : TerminalNode) (id : ℕ) (x : Setup) (o : Option TerminalHalf) → (half_set c t id x o).1.notes ≡ []
set_notes c t id x None = refl
set_notes c t id x (Some h) = refl

set_if_notes : (c : Choices) (t : TerminalNode) (id : ℕ) (o : Option Setup) → (half_set_if c t id o).1.notes ≡ []
set_if_notes c t id None = refl
set_if_notes c t id (Some x) = set_notes c t id x (held id t.halves)

item_notes : (c : Choices) (key : List ℕ) (q : Plan) (t : TerminalNode) (i : Item) → (item_taken c key q t i).1.notes ≡ note_of q.g i ∷ []
item_notes c key q t (item.Set id n first shape threshold policy name old) =
    ap (λ ns. note.Set id q.g ∷ ns) (set_if_notes c t id (setup_of T q t.alg (octets_of_side key name.side) (item.Set id n first shape threshold policy name old)))
item_notes c key q t (item.Unset id) = refl

items_notes : (c : Choices) (key : List ℕ) (q : Plan) (t : TerminalNode) (items : List Item) → (in_turn (item_taken c key q) t items).1.notes ≡ map (note_of q.g) items
items_notes c key q t [] = refl
items_notes c key q t (i ∷ items) =
    let here = item_taken c key q t i in
    ap (λ ns. ns ++ (in_turn (item_taken c key q) here.0 items).1.notes) (item_notes c key q t i) ∙ ap (λ ns. note_of q.g i ∷ ns) (items_notes c key q here.0 items)

-- ---- its lines

module _ (g : ℕ) where
  notes_two : (items : List Item) → notes_at (map (note_of g) items) 2 ≡ map (λ n. line.Note n) (map (note_of g) items)
  notes_two [] = refl
  notes_two (item.Set id n first shape threshold policy name old ∷ items) = ap (λ xs. line.Note (note.Set id g) ∷ xs) (notes_two items)
  notes_two (item.Unset id ∷ items) = ap (λ xs. line.Note (note.Unset id) ∷ xs) (notes_two items)

  notes_off : (j : ℕ) → (2 == j) ≡ false → (items : List Item) → notes_at (map (note_of g) items) j ≡ []
  notes_off j off [] = refl
  notes_off j off (item.Set id n first shape threshold policy name old ∷ items) =
      ap (λ b. map (λ n. line.Note n) (if b then note.Set id g ∷ filter (λ x. place x == j) (map (note_of g) items) else filter (λ x. place x == j) (map (note_of g) items))) off
      ∙ notes_off j off items
  notes_off j off (item.Unset id ∷ items) =
      ap (λ b. map (λ n. line.Note n) (if b then note.Unset id ∷ filter (λ x. place x == j) (map (note_of g) items) else filter (λ x. place x == j) (map (note_of g) items))) off
      ∙ notes_off j off items

  no_end : (items : List Item) → list_any is_end (map (note_of g) items) ≡ false
  no_end [] = refl
  no_end (item.Set id n first shape threshold policy name old ∷ items) = no_end items
  no_end (item.Unset id ∷ items) = no_end items

  -- the notes, and then what is sent
  ordered_is : (items : List Item) (sent : List Line) → let ns = map (note_of g) items in
      flat_map (notes_at ns) (0 ∷ 1 ∷ 2 ∷ 3 ∷ 4 ∷ []) ++ sent ++ flat_map (notes_at ns) (5 ∷ 6 ∷ []) ≡ map (λ n. line.Note n) ns ++ sent
  ordered_is items sent =
      let at = notes_at (map (note_of g) items) in
      let first : flat_map at (0 ∷ 1 ∷ 2 ∷ 3 ∷ 4 ∷ []) ≡ map (λ n. line.Note n) (map (note_of g) items) =
      ap (λ xs. xs ++ flat_map at (1 ∷ 2 ∷ 3 ∷ 4 ∷ [])) (notes_off 0 refl items)
      ∙ ap (λ xs. xs ++ flat_map at (2 ∷ 3 ∷ 4 ∷ [])) (notes_off 1 refl items)
      ∙ ap (λ xs. xs ++ flat_map at (3 ∷ 4 ∷ [])) (notes_two items)
      ∙ ap (λ xs. map (λ n. line.Note n) (map (note_of g) items) ++ (xs ++ flat_map at (4 ∷ []))) (notes_off 3 refl items)
      ∙ ap (λ xs. map (λ n. line.Note n) (map (note_of g) items) ++ (xs ++ [])) (notes_off 4 refl items)
      ∙ append-nil (map (λ n. line.Note n) (map (note_of g) items)) in
      let last : flat_map at (5 ∷ 6 ∷ []) ≡ [] = ap (λ xs. xs ++ flat_map at (6 ∷ [])) (notes_off 5 refl items) ∙ ap (λ xs. xs ++ []) (notes_off 6 refl items) in
      ap (λ xs. xs ++ sent ++ flat_map at (5 ∷ 6 ∷ [])) first
      ∙ ap (λ xs. map (λ n. line.Note n) (map (note_of g) items) ++ sent ++ xs) last
      ∙ append-nil (map (λ n. line.Note n) (map (note_of g) items) ++ sent)

all_sent : (ss : List Send) → AllByRecursion IsBeside (map (λ (s : Send). line.Send s.0 s.1) ss)
all_sent [] = tt
all_sent (s ∷ ss) = (refl, all_sent ss)

each_append' : (xs ys : List Line) → AllByRecursion IsBeside xs → AllByRecursion IsBeside ys → AllByRecursion IsBeside (xs ++ ys)
each_append' [] ys first second = second
each_append' (x ∷ xs) ys first second = (first.0, each_append' xs ys first.1 second)

sent_beside : (ss : List Send) (ls : List LinkId) → AllByRecursion IsBeside (flat_map (sends_on ss) ls)
sent_beside ss [] = tt
sent_beside ss (l ∷ ls) = each_append' (sends_on ss l) (flat_map (sends_on ss) ls) (all_sent _) (sent_beside ss ls)

-- of an outcome with these notes
outcome_is : (o : Outcome) (g : ℕ) (items : List Item) → o.notes ≡ map (note_of g) items
    → lines_of o ≡ map (λ n. line.Note n) (map (note_of g) items) ++ flat_map (sends_on o.sends) all_links
outcome_is o g items are =
    ap (λ ns. lines_by (list_any is_end ns) o) are
    ∙ ap (λ b. lines_by b o) (no_end g items)
    ∙ ap (λ ns. ordered ns o.sends) are
    ∙ ordered_is g items (flat_map (sends_on o.sends) all_links)

-- ---- what may be taken

held_older : (g : ℕ) (t : TerminalNode) → HalvesBelow g t → (id : ℕ) (h : TerminalHalf) → held id t.halves ≡ Some h → h.setup.g + 1 ≤ g
held_older g t older id h at = let is = each_held (IsHalfBelow g) id t.halves older in rw at at is

latest_head : (id : ℕ) (us vs : List Uplink) (u : Uplink) → us ≡ u ∷ vs → u.id ≡ id → latest id us ≡ Some u
latest_head id us vs u is of_id = ap (latest id) is ∙ ap (λ b. if b then Some u else latest id vs) (eq-eqb u.id id of_id)

module _ (c : Choices) (q : Plan) (p : Past) (w : World) (is : IsUp (seen p) w.terminal) (older : 0 < q.g → HalvesBelow q.g w.terminal) where
  -- once the terminal is given the plan, its secondary node is seen
  abbrev pub Given : Seen
  Given = record (seen p) { sec = q.sec }

  was_there : (id : ℕ) (n : SnLen) (first : ℕ) (o : Option TerminalHalf) → held id w.terminal.halves ≡ o → is_bearer_like n first o ≡ true → Descend q.g (seen p).bearers → MaySet Given id q.g
  was_there id n first None at like below = absurd cc
  was_there id n first (Some h) at like below =
      let x = present_at c (seen p) w.terminal is id h at in
      let under = latest-below q.g id (seen p).bearers x.0 below x.1 in
      let before = held_older q.g w.terminal (older (omega (arith, under))) id h at in
      record { bearer = x.0; there = x.1; other = ap (is_number q.g) x.2.taken ∙ ne_eqb q.g h.setup.g (λ same. omega (arith, before, same)) }

  may_set : (items : List Item) (from : ℕ) → AreSettings from items → AreTakable w.terminal items → Descend q.g (seen p).bearers → AllByRecursion (MayTake Given q.g) items
  may_set [] from olds all below = tt
  may_set (item.Set id n first shape threshold policy name None ∷ items) from olds all below = absurd olds
  may_set (item.Unset id ∷ items) from olds all below = absurd olds
  may_set (item.Set id n first shape threshold policy name (Some old) ∷ items) from olds all below =
      (was_there id n first (held id w.terminal.halves) refl all.0 below, may_set items (id + 1) olds.1 all.1 below)

  -- a new one is not there
  may_begin : (id : ℕ) (u : Uplink) → latest id (seen p).bearers ≡ Some u → (o : Option TerminalHalf) → held id w.terminal.halves ≡ o → is_none o ≡ true → MaySet Given id q.g
  may_begin id u at (Some h) held_is none = absurd cc
  may_begin id u at None held_is none = by (is.each id)
    where
      by : Fits (seen p) w.terminal id → MaySet Given id q.g
      by (present h there v v_at half) = absurd (let bad : None ≡ Some h = sym held_is ∙ there in cc)
      by (absent none' out) =
          let x = subst (λ o. IsOut (seen p).last o) at out in record { bearer = u; there = at; other = ap (is_number q.g) x.0 }

  -- one that is dropped is there
  may_drop : (id : ℕ) (o : Option TerminalHalf) → held id w.terminal.halves ≡ o → is_some o ≡ true → MayUnset Given id
  may_drop id None at some = absurd cc
  may_drop id (Some h) at some =
      let x = present_at c (seen p) w.terminal is id h at in record { bearer = x.0; there = x.1; has = ap is_some x.2.taken }

  -- ---- the plan

  module _ (l : LinkId) (to : l.to ≡ T) (key : List ℕ) (qs : List Plan) (lasts : IsLast q key qs (seen p)) (r : Past) (gives : Gives l q key r) (same : seen r ≡ Given)
      (all : AreTakable w.terminal q.items) (rest : List Line) (beside : AllByRecursion IsBeside rest) where
    plans : (seen r).plans ≡ q ∷ qs
    plans = ap (λ (s : Seen). s.plans) same ∙ lasts.plans

    down : Descend (q.g + 1) (seen r).bearers
    down = subst (λ (s : Seen). Descend (q.g + 1) s.bearers) (sym same) (subst (λ k. Descend (k + 1) (seen p).bearers) (sym lasts.last) (drawn_below (seen p) is.drawn))

    head_same : (x : Plan) (xs : List Plan) → (seen p).plans ≡ x ∷ xs → x ≡ q
    head_same x xs at = let both : x ∷ xs ≡ q ∷ qs = sym at ∙ lasts.plans in cc

    last_is : (us : List Uplink) → Descend (seen p).last us → Descend q.g us
    last_is us below = subst (λ k. Descend k us) (sym lasts.last) below

    by_drawn : IsDrawn (seen p) → ArePlaced r (map (λ n. line.Note n) (map (note_of q.g) q.items) ++ rest)
    by_drawn (nothing_drawn none bearers) = absurd (let bad : [] ≡ q ∷ qs = sym none ∙ lasts.plans in cc)
    by_drawn (settings_drawn x xs at last olds below) =
        let olds' = subst (λ (y : Plan). AreSettings 0 y.items) (head_same x xs at) olds in
        settings_placed l q key to qs q.items 0 r gives plans down olds' (λ k le. refl)
        (subst (λ (s : Seen). AllByRecursion (MayTake s q.g) q.items) (sym same) (may_set q.items 0 olds' all (last_is (seen p).bearers below))) rest beside
    by_drawn (bearer_drawn x xs at last id n first shape threshold policy name items u us bearers named of_id of_n of_first below) =
        let only : q.items ≡ item.Set id n first shape threshold policy name None ∷ [] = ap (λ (y : Plan). y.items) (sym (head_same x xs at)) ∙ items in
        let may = may_begin id u (latest_head id (seen p).bearers us u bearers of_id) (held id w.terminal.halves) refl (subst (AreTakable w.terminal) only all).0 in
        subst (λ (ys : List Item). ArePlaced r (map (λ n. line.Note n) (map (note_of q.g) ys) ++ rest)) (sym only)
        (new_placed l q key to qs r gives plans down id n first shape threshold policy name only (subst (λ (s : Seen). MaySet s id q.g) (sym same) may) rest beside)
    by_drawn (drop_drawn x xs at last id items below) =
        let only : q.items ≡ item.Unset id ∷ [] = ap (λ (y : Plan). y.items) (sym (head_same x xs at)) ∙ items in
        let may = may_drop id (held id w.terminal.halves) refl (subst (AreTakable w.terminal) only all).0 in
        subst (λ (ys : List Item). ArePlaced r (map (λ n. line.Note n) (map (note_of q.g) ys) ++ rest)) (sym only)
        (drop_placed l q key to r gives id only (subst (λ (s : Seen). MayUnset s id) (sym same) may) rest beside)

    pub notes_placed : ArePlaced r (map (λ n. line.Note n) (map (note_of q.g) q.items) ++ rest)
    notes_placed = by_drawn is.drawn

  -- ---- its lines

  pub plan_placed : (l : LinkId) → l.to ≡ T → (key : List ℕ) (qs : List Plan) → IsLast q key qs (seen p) → (takes : Bool) → takes ≡ not (list_any (λ i. not (is_takable w.terminal i)) q.items)
      → takes ≡ true → (r : Past) → Gives l q key r → seen r ≡ Given → ArePlaced r (lines_of (accepted (plan_taken c key q w.terminal takes)).1)
  plan_placed l to key qs lasts false test takes r gives same = absurd cc
  plan_placed l to key qs lasts true test takes r gives same =
      let o = (accepted (plan_taken c key q w.terminal true)).1 in
      subst (ArePlaced r) (sym (outcome_is o q.g q.items (items_notes c key q (record w.terminal { sec = q.sec }) q.items)))
      (notes_placed l to key qs lasts r gives same (all_takable w.terminal q.items (sym test)) (flat_map (sends_on o.sends) all_links) (sent_beside o.sends all_links))
