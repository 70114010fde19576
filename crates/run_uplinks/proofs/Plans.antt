-- The terminal's side stays what the past says of it where the terminal takes a plan.
use Rattle.std.proofs.Common.{ℕ, ◌≡◌, ◌≤◌, ◌<◌, ◌+◌, ◌==◌, ◌++◌, Bool, true, false, List, [], ◌∷◌, Option, Some, None, refl, sym, ap, subst, ◌∙◌, arith, inl, inr}
use Rattle.std.specs.Prelude.{find, fold, if◌then◌else◌, is_none, length, not, slice_index_or, ◌&&◌}
use Rattle.std.specs.List.{AllByRecursion, list_any}
use Rattle.std.proofs.lemmas.Bool.{cases_Bool, eq-eqb, eqb-true, ne_eqb}
use Rattle.std.proofs.lemmas.List.{append-nil}
use Rattle.dc_base.specs.Count.{bits}
use Rattle.dc_base.specs.declared.events.Note.{Note}
use Rattle.dc_base.specs.declared.events.Note.TheVariants as note
use Rattle.dc_base.specs.declared.nodes.KeyName.{KeyName}
use Rattle.dc_base.specs.declared.nodes.Node.{Node}
use Rattle.dc_base.specs.declared.nodes.Node.TheVariants.{T}
use Rattle.dc_base.specs.declared.nodes.Shape.{Shape}
use Rattle.dc_base.specs.declared.numbers.SnLen.{SnLen}
use Rattle.dc_base.specs.declared.numbers.SnLen.TheVariants.{S12, S18}
use Rattle.dc_base.specs.declared.records.Item.{Item}
use Rattle.dc_base.specs.declared.records.Item.TheVariants.{Set, Unset}
use Rattle.dc_base.specs.declared.records.Plan.{Plan}
use Rattle.key_chain.specs.KeyNames.{octets, octets_of_side}
use Rattle.pdcp_tx.specs.Sender.{counts}
use Rattle.claims.specs.Reading.{Setting, setting_of, sets}
use Rattle.std.specs.List.{filter_map}
use Rattle.node_rules.specs.Choices.{Choices}
use Rattle.node_rules.specs.Effects.{both, in_turn, noted, quiet}
use Rattle.node_rules.specs.Entity.{renewed}
use Rattle.node_rules.specs.Held.{held, holding}
use Rattle.node_rules.specs.Sending.{pdu_at, send_kept}
use Rattle.node_rules.specs.Setup.{Setup, new_legs}
use Rattle.node_rules.specs.Terminal.{TerminalNode, half_set, is_bearer_like, is_takable, item_taken, plan_taken}
use Rattle.node_rules.specs.TerminalHalf.{TerminalHalf, terminal_new}
use Rattle.transcript.proofs.OnEach.{each_append}
use Rattle.node_rules.specs.declared.inputs.Effects.{Effects}
use Rattle.master_runs.proofs.Holding.{held-other, held-same}
use Rattle.run_uplinks.specs.Readings.{IsGood, Reading, reading}
use Rattle.run_uplinks.proofs.Protecting.{sends_good}
use Rattle.run_uplinks.proofs.ReadStays.{note_reads}
use Rattle.run_uplinks.specs.Seen.{Seen, Uplink, changed_in, latest, named_in, set_to, setting_in, with_note}
use Rattle.run_uplinks.specs.Uplinks.{plane, AreSettings, Fits, IsDrawn, IsFresh, IsHalf, IsKeyOf, IsOfRoot, IsOut, IsSender, IsSetBy, IsUp, absent, bearer_drawn, drop_drawn, nothing_drawn, present, settings_drawn}
use Rattle.run_uplinks.proofs.Changing.{KeepsFace, half_changed, half_dropped, with_latest}
use Rattle.run_uplinks.proofs.Drawing.{drawn_below}
use Rattle.run_uplinks.proofs.Establishments.{latest-below, latest-id, named-latest, named-on, some_is}
use Rattle.run_uplinks.proofs.Halves.{half_sends}
use Rattle.run_uplinks.proofs.Senders.{sender_as, sender_new}
use Rattle.run_uplinks.proofs.Terminals.{present_at}

-- ---- tests

same_bits : (a b : SnLen) → (bits a == bits b) ≡ true → a ≡ b
same_bits S12 S12 is = refl
same_bits S18 S18 is = refl
same_bits S12 S18 is = absurd (let bad : false ≡ true = is in cc)
same_bits S18 S12 is = absurd (let bad : false ≡ true = is in cc)

pub both_true : (a b : Bool) → (a && b) ≡ true → (a ≡ true) × (b ≡ true)
both_true true true is = (refl, refl)
both_true true false is = absurd (let bad : false ≡ true = is in cc)
both_true false b is = absurd (let bad : false ≡ true = is in cc)

-- the bearer is there, with this length of SNs and this first COUNT
record IsLike (n : SnLen) (first : ℕ) (o : Option TerminalHalf) : Type 0 where
  half : TerminalHalf
  there : o ≡ Some half
  same_n : half.setup.n ≡ n
  same_first : half.setup.first ≡ first

like : (n : SnLen) (first : ℕ) (o : Option TerminalHalf) → is_bearer_like n first o ≡ true → IsLike n first o
like n first None is = absurd (let bad : false ≡ true = is in cc)
like n first (Some h) is =
    let x = both_true (bits h.setup.n == bits n) (h.setup.first == first) is in
    record { half = h; there = refl; same_n = same_bits h.setup.n n x.0; same_first = eqb-true h.setup.first first x.1 }

-- each item can be taken
abbrev pub AreTakable : TerminalNode → List Item → Type 0
AreTakable t items = AllByRecursion (λ i. is_takable t i ≡ true) items

pub all_takable : (t : TerminalNode) (items : List Item) → not (list_any (λ i. not (is_takable t i)) items) ≡ true → AreTakable t items
all_takable t [] is = tt
all_takable t (i ∷ items) is =
    elim (cases_Bool (is_takable t i)) [
      | inl yes' ↦ (yes', all_takable t items (rw yes' at is))
      | inr no' ↦ absurd (let bad : false ≡ true = rw no' at is in cc)
    ]

fold_append : (s : Seen) (xs ys : List Note) → fold with_note s (xs ++ ys) ≡ fold with_note (fold with_note s xs) ys
fold_append s [] ys = refl
fold_append s (x ∷ xs) ys = fold_append (with_note s x) xs ys

-- what a plan sets up at the terminal
abbrev setup_for : Plan → TerminalNode → List ℕ → ℕ → SnLen → ℕ → Shape → ℕ → ℕ → KeyName → Setup
setup_for q t key id n first shape threshold policy name = record {
  node = T;
  sec = q.sec;
  g = q.g;
  id = id;
  n = n;
  first = first;
  alg = t.alg;
  key = octets_of_side key name.side;
  legs = new_legs shape threshold policy;
}

set_quiet : (c : Choices) (t : TerminalNode) (id : ℕ) (x : Setup) (o : Option TerminalHalf) → (half_set c t id x o).1.notes ≡ []
set_quiet c t id x None = refl
set_quiet c t id x (Some h) = refl

set_other : (c : Choices) (t : TerminalNode) (id : ℕ) (x : Setup) (o : Option TerminalHalf) (k : ℕ) → (id == k) ≡ false → held k (half_set c t id x o).0.halves ≡ held k t.halves
set_other c t id x None k apart = held-other id k (terminal_new x) t.halves apart
set_other c t id x (Some h) k apart = held-other id k (send_kept c (renewed h x)).0 t.halves apart

head_is : (p : Plan) (ps : List Plan) (q : Plan) (qs : List Plan) → p ∷ ps ≡ q ∷ qs → p ≡ q
head_is p ps q qs is = cc

-- the plan is the last one, with this key
pub record IsLast (q : Plan) (key : List ℕ) (qs : List Plan) (s : Seen) : Type 0 where
  pub plans : s.plans ≡ q ∷ qs
  pub last : q.g ≡ s.last
  pub keyed : IsKeyOf s.roots q key

-- an item that is found passes what all do
find_item : (P : Item → Type 0) (id : ℕ) (items : List Item) (i : Item) → AllByRecursion P items → find (sets id) items ≡ Some i → P i
find_item P id [] i all at = absurd (let bad : None ≡ Some i = at in cc)
find_item P id (x ∷ items) i all at =
    elim (cases_Bool (sets id x)) [
      | inl here ↦ let same = some_is x i (rw here at at) in subst P same all.0
      | inr there ↦ find_item P id items i all.1 (rw there at at)
    ]

-- the terminal after a step, and what it sends by it
pub record Does (s : Seen) (done : TerminalNode × Effects) : Type 0 where
  pub up : IsUp (fold with_note s done.1.notes) done.0
  pub good : AllByRecursion (IsGood (reading s)) done.1.sends

-- and nothing after it
does_alone : (s : Seen) (done : TerminalNode × Effects) → Does s done → Does s (done.0, both done.1 quiet)
does_alone s done does = record {
  up = subst (λ ns. IsUp (fold with_note s ns) done.0) (sym (append-nil done.1.notes)) does.up;
  good = subst (λ ss. AllByRecursion (IsGood (reading s)) ss) (sym (append-nil done.1.sends)) does.good;
}

-- what a bearer sends that is set up
set_good : (c : Choices) (s : Seen) (t : TerminalNode) (id : ℕ) (x : Setup) (o : Option TerminalHalf) → IsUp s (half_set c t id x o).0 → AllByRecursion (IsGood (reading s)) (half_set c t id x o).1.sends
set_good c s t id x None up = tt
set_good c s t id x (Some h) up =
    let y = renewed h x in sends_good c s (half_set c t id x (Some h)).0 up id y (counts y.tx.kept) (held-same id (send_kept c y).0 t.halves)

-- ---- one item

module _ (c : Choices) (key : List ℕ) (q : Plan) (qs : List Plan) where
  -- what it sets of an identity
  setting_is : (s : Seen) (id : ℕ) (o : Option Item) → IsLast q key qs s → find (sets id) q.items ≡ o → setting_in s.plans id q.g ≡ setting_of q.sec o
  setting_is s id o is found =
      let here : (q.g == q.g) ≡ true = eq-eqb q.g q.g refl in
      ap (λ ps. setting_in ps id q.g) is.plans ∙ rw here (ap (setting_of q.sec) found)

  module _ (s : Seen) (t : TerminalNode) (is : IsUp s t) (lasts : IsLast q key qs s) (id : ℕ) (n : SnLen) (first : ℕ) (shape : Shape) (threshold policy : ℕ) (name : KeyName) (old : Option Node)
      (found : find (sets id) q.items ≡ Some (Set id n first shape threshold policy name old)) where
    abbrev setting : Setting
    setting = record { sec = q.sec; shape = shape; key = name; old = old }

    setting_at : setting_in s.plans id q.g ≡ Some setting
    setting_at = setting_is s id (Some (Set id n first shape threshold policy name old)) lasts found

    abbrev setup : Setup
    setup = setup_for q t key id n first shape threshold policy name

    -- the note says that the terminal has the latest establishment in the generation of the plan
    note_is : (u : Uplink) → latest id s.bearers ≡ Some u → with_note s (note.Set id q.g) ≡ with_latest id (set_to q.g) s
    note_is u at =
        let down = drawn_below s is.drawn in
        let named : named_in id q.g (Some setting) s.bearers ≡ Some u = named-latest (s.last + 1) id q.g setting s.bearers down (let k = lasts.last in omega (arith, k)) ∙ at in
        ap (λ us. record s { bearers = us })
        (ap (λ o. changed_in (set_to q.g) s.bearers (named_in id q.g o s.bearers)) setting_at ∙ ap (changed_in (set_to q.g) s.bearers) named ∙ named-on (s.last + 1) id (set_to q.g) s.bearers u down at)

    set_keeps : KeepsFace (set_to q.g)
    set_keeps = record { g = λ u. refl; id = λ u. refl; n = λ u. refl; first = λ u. refl }

    -- a half with this setup
    half_is : (u : Uplink) → latest id s.bearers ≡ Some u → n ≡ u.n → first ≡ u.first → (h : TerminalHalf) → IsSender u h.tx → IsHalf (plane s) (set_to q.g u) (record h { setup = setup })
    half_is u at same_n same_first h sender =
        let of_id = latest-id id s.bearers u at in
        let below = latest-below (s.last + 1) id s.bearers u (drawn_below s is.drawn) at in
        let k = lasts.last in
        let root : name.root ≡ lasts.keyed.root = find_item (IsOfRoot lasts.keyed.root) id q.items (Set id n first shape threshold policy name old) lasts.keyed.items found in
        let octets_are : setup.key ≡ octets s.roots name = ap (λ o. octets_of_side o name.side) (lasts.keyed.is ∙ ap (λ j. slice_index_or s.roots j []) (sym root)) in
        let named : name.root < length s.roots = subst (λ j. j < length s.roots) (sym root) lasts.keyed.named in
        let set : IsSetBy s.roots setup (Some setting) = (refl, refl, octets_are, named) in
        record {
          node = refl;
          alg = sym is.alg;
          taken = refl;
          id = sym of_id;
          n = same_n;
          first = same_first;
          set = subst (λ j. IsSetBy s.roots setup (setting_in s.plans j q.g)) (sym of_id) (subst (λ o. IsSetBy s.roots setup o) (sym setting_at) set);
          since = omega (arith, below, k);
          upto = omega (arith, k);
          failed = refl;
          mcg = refl;
          sender = sender_as u (set_to q.g u) h.tx refl refl refl refl sender;
        }

    set_up : (u : Uplink) → latest id s.bearers ≡ Some u → (h : TerminalHalf) → IsHalf (plane s) (set_to q.g u) h
        → IsUp (with_note s (note.Set id q.g)) (record t { halves = holding id (Some h) t.halves })
    set_up u at h half =
        subst (λ z. IsUp z (record t { halves = holding id (Some h) t.halves })) (sym (note_is u at)) (half_changed s t is id (set_to q.g) u h set_keeps at half)

    -- a new one
    new_up : (u : Uplink) → latest id s.bearers ≡ Some u → IsFresh u → n ≡ u.n → first ≡ u.first → IsUp (with_note s (note.Set id q.g)) (half_set c t id setup None).0
    new_up u at fresh same_n same_first =
        set_up u at (terminal_new setup) (half_is u at same_n same_first (terminal_new setup)
        (subst (λ m. IsSender u (record { n = m; next = first; kept = []; held = [] })) (sym same_n)
        (subst (λ k. IsSender u (record { n = u.n; next = k; kept = []; held = [] })) (sym same_first) (sender_new u fresh.submitted fresh.freed))))

    -- one that was there before
    renewed_up : (o : Option TerminalHalf) → held id t.halves ≡ o → IsLike n first o → IsUp (with_note s (note.Set id q.g)) (half_set c t id setup o).0
    renewed_up None at alike = absurd (let bad : None ≡ Some alike.half = alike.there in cc)
    renewed_up (Some h) at alike =
        let x = present_at c s t is id h at in
        let same : h ≡ alike.half = some_is h alike.half alike.there in
        let same_n : n ≡ x.0.n = sym (subst (λ (y : TerminalHalf). y.setup.n ≡ n) (sym same) alike.same_n) ∙ x.2.n in
        let same_first : first ≡ x.0.first = sym (subst (λ (y : TerminalHalf). y.setup.first ≡ first) (sym same) alike.same_first) ∙ x.2.first in
        let y = renewed h setup in
        set_up x.0 x.1 (send_kept c y).0 (half_sends c (plane s) (set_to q.g x.0) y (filter_map (pdu_at y) (counts y.tx.kept)) (half_is x.0 x.1 same_n same_first h x.2.sender))

    -- the notes of the item
    set_item_notes : (o : Option TerminalHalf) → fold with_note s (both (noted (note.Set id q.g)) (half_set c t id setup o).1).notes ≡ with_note s (note.Set id q.g)
    set_item_notes o = ap (λ ns. fold with_note s (note.Set id q.g ∷ ns)) (set_quiet c t id setup o)

  -- ---- settings of bearers that were there before

  takable_still : (from : ℕ) (items : List Item) (t t' : TerminalNode) → AreSettings from items → ((k : ℕ) → from ≤ k → held k t'.halves ≡ held k t.halves) → AreTakable t items → AreTakable t' items
  takable_still from [] t t' olds same all = tt
  takable_still from (Set id n first shape threshold policy name (Some old) ∷ items) t t' olds same all =
      (ap (is_bearer_like n first) (same id olds.0) ∙ all.0, takable_still (id + 1) items t t' olds.1 (λ k le. same k (omega (arith, le, olds.0))) all.1)
  takable_still from (Set id n first shape threshold policy name None ∷ items) t t' olds same all = absurd olds
  takable_still from (Unset id ∷ items) t t' olds same all = absurd olds

  settings_up : (items : List Item) (from : ℕ) (s : Seen) (t : TerminalNode) → IsUp s t → IsLast q key qs s → AreSettings from items → ((k : ℕ) → from ≤ k → find (sets k) q.items ≡ find (sets k) items) → AreTakable t items → Does s (in_turn (item_taken c key q) t items)
  settings_up [] from s t is lasts olds found all = record { up = is; good = tt }
  settings_up (Set id n first shape threshold policy name None ∷ items) from s t is lasts olds found all = absurd olds
  settings_up (Unset id ∷ items) from s t is lasts olds found all = absurd olds
  settings_up (Set id n first shape threshold policy name (Some old) ∷ items) from s t is lasts olds found all =
      let i = Set id n first shape threshold policy name (Some old) in
      let x = setup_for q t key id n first shape threshold policy name in
      let here : find (sets id) q.items ≡ Some i = found id olds.0 ∙ ap (λ b. if b then Some i else find (sets id) items) (eq-eqb id id refl) in
      let o = held id t.halves in
      let done = item_taken c key q t i in
      let next = with_note s (note.Set id q.g) in
      let up : IsUp next done.0 = renewed_up s t is lasts id n first shape threshold policy name (Some old) here o refl (like n first o all.0) in
      let rest = in_turn (item_taken c key q) done.0 items in
      let more : Does next rest =
      settings_up items (id + 1) next done.0 up (record { plans = lasts.plans; last = lasts.last; keyed = lasts.keyed }) olds.1 (λ k le. found k (omega (arith, le, olds.0)) ∙ ap (λ b. if b then Some i else find (sets k) items) (ne_eqb id k (λ same. omega (arith, le, same))))
      (takable_still (id + 1) items t done.0 olds.1 (λ k le. set_other c t id x o k (ne_eqb id k (λ same. omega (arith, le, same)))) all.1) in
      record {
        up = subst (λ z. IsUp z rest.0)
            (sym (fold_append s done.1.notes rest.1.notes ∙ ap (λ z. fold with_note z rest.1.notes) (set_item_notes s t is lasts id n first shape threshold policy name (Some old) here o)))
            more.up;
        good =
            let same = note_reads s (note.Set id q.g) in
            each_append (IsGood (reading s)) done.1.sends rest.1.sends (subst (λ r. AllByRecursion (IsGood r) done.1.sends) same (set_good c next t id x o up))
            (subst (λ r. AllByRecursion (IsGood r) rest.1.sends) same more.good);
      }

  -- ---- one new bearer

  new_item_up : (s : Seen) (t : TerminalNode) → IsUp s t → IsLast q key qs s → (id : ℕ) (n : SnLen) (first : ℕ) (shape : Shape) (threshold policy : ℕ) (name : KeyName)
      → q.items ≡ Set id n first shape threshold policy name None ∷ [] → (u : Uplink) → latest id s.bearers ≡ Some u → u.g ≡ s.last → u.n ≡ n → u.first ≡ first → (o : Option TerminalHalf) → held id t.halves ≡ o → is_none o ≡ true
      → let x = setup_for q t key id n first shape threshold policy name in IsUp (fold with_note s (both (noted (note.Set id q.g)) (half_set c t id x o).1).notes) (half_set c t id x o).0
  new_item_up s t is lasts id n first shape threshold policy name items u at named of_n of_first (Some h) held_is none = absurd (let bad : false ≡ true = none in cc)
  new_item_up s t is lasts id n first shape threshold policy name items u at named of_n of_first None held_is none =
      let i = Set id n first shape threshold policy name None in
      let found : find (sets id) q.items ≡ Some i = ap (find (sets id)) items ∙ ap (λ b. if b then Some i else None) (eq-eqb id id refl) in
      new_up s t is lasts id n first shape threshold policy name None found u at (fresh (is.each id)) (sym of_n) (sym of_first)
    where
      fresh : Fits s t id → IsFresh u
      fresh (present h there v v_at half) = absurd (let bad : None ≡ Some h = sym held_is ∙ there in cc)
      fresh (absent none' out) =
          let x = subst (λ o. IsOut s.last o) at out in
          elim x.1 [ inl is_fresh ↦ is_fresh | inr earlier ↦ absurd (omega (arith, earlier, named)) ]

  new_sends : (r : Reading) (t : TerminalNode) (id : ℕ) (x : Setup) (o : Option TerminalHalf) → is_none o ≡ true → AllByRecursion (IsGood r) (half_set c t id x o).1.sends
  new_sends r t id x None none = tt
  new_sends r t id x (Some h) none = absurd (let bad : false ≡ true = none in cc)

  -- ---- the plan

  latest_head : (id : ℕ) (us vs : List Uplink) (u : Uplink) → us ≡ u ∷ vs → u.id ≡ id → latest id us ≡ Some u
  latest_head id us vs u is of_id = ap (latest id) is ∙ ap (λ b. if b then Some u else latest id vs) (eq-eqb u.id id of_id)

  items_up : (s : Seen) (t : TerminalNode) → IsUp s t → IsLast q key qs s → IsDrawn s → AreTakable t q.items → Does s (in_turn (item_taken c key q) t q.items)
  items_up s t is lasts (nothing_drawn plans bearers) all = absurd (let bad : [] ≡ q ∷ qs = sym plans ∙ lasts.plans in cc)
  items_up s t is lasts (settings_drawn p ps plans last olds below) all =
      settings_up q.items 0 s t is lasts (subst (λ (x : Plan). AreSettings 0 x.items) (head_is p ps q qs (sym plans ∙ lasts.plans)) olds) (λ k le. refl) all
  items_up s t is lasts (bearer_drawn p ps plans last id n first shape threshold policy name items u us bearers named of_id of_n of_first below) all =
      let same = head_is p ps q qs (sym plans ∙ lasts.plans) in
      let only : q.items ≡ Set id n first shape threshold policy name None ∷ [] = ap (λ (x : Plan). x.items) (sym same) ∙ items in
      let all' = subst (AreTakable t) only all in
      let i = Set id n first shape threshold policy name None in
      let done = item_taken c key q t i in
      let one : Does s done = record {
        up = new_item_up s t is lasts id n first shape threshold policy name only u (latest_head id s.bearers us u bearers of_id) named of_n of_first (held id t.halves) refl all'.0;
        good = new_sends (reading s) t id (setup_for q t key id n first shape threshold policy name) (held id t.halves) all'.0;
      } in
      subst (λ (is' : List Item). Does s (in_turn (item_taken c key q) t is')) (sym only) (does_alone s done one)
  items_up s t is lasts (drop_drawn p ps plans last id items below) all =
      let same = head_is p ps q qs (sym plans ∙ lasts.plans) in
      let only : q.items ≡ Unset id ∷ [] = ap (λ (x : Plan). x.items) (sym same) ∙ items in
      subst (λ (is' : List Item). Does s (in_turn (item_taken c key q) t is')) (sym only) (record { up = half_dropped s t is id (λ u at. latest-below s.last id s.bearers u below at); good = tt })

  -- the plan is taken
  pub plan_up : (s : Seen) (t : TerminalNode) → IsUp s t → IsLast q key qs s → (takes : Bool) → takes ≡ not (list_any (λ i. not (is_takable t i)) q.items) → takes ≡ true → Does (record s { sec = q.sec }) (plan_taken c key q t takes)
  plan_up s t is lasts false test takes = absurd (let bad : false ≡ true = takes in cc)
  plan_up s t is lasts true test takes =
      let s' = record s { sec = q.sec } in
      let t' = record t { sec = q.sec } in
      let items = items_up s' t' (with_sec is) (record { plans = lasts.plans; last = lasts.last; keyed = lasts.keyed }) (with_sec_drawn is.drawn) (all_takable t' q.items (sym test)) in
      record { up = items.up; good = (λ p same. refl, items.good) }
    where
      fits_sec : (k : ℕ) → Fits s t k → Fits (record s { sec = q.sec }) (record t { sec = q.sec }) k
      fits_sec k (absent none out) = absent none out
      fits_sec k (present h there u at half) = present h there u at half

      with_sec_drawn : IsDrawn s → IsDrawn (record s { sec = q.sec })
      with_sec_drawn (nothing_drawn plans bearers) = nothing_drawn plans bearers
      with_sec_drawn (settings_drawn p ps plans last olds below) = settings_drawn p ps plans last olds below
      with_sec_drawn (bearer_drawn p ps plans last id n first shape threshold policy name items u us bearers named of_id of_n of_first below) =
          bearer_drawn p ps plans last id n first shape threshold policy name items u us bearers named of_id of_n of_first below
      with_sec_drawn (drop_drawn p ps plans last id items below) = drop_drawn p ps plans last id items below

      with_sec : IsUp s t → IsUp (record s { sec = q.sec }) (record t { sec = q.sec })
      with_sec up = record { each = λ k. fits_sec k (up.each k); alone = up.alone; near = up.near; drawn = with_sec_drawn up.drawn; sec = refl; alg = up.alg; ascends = up.ascends }
