-- What is so of the terminal's side stays so where a command is drawn.
use Rattle.std.proofs.Common.{ℕ, zero, suc, ◌≡◌, ◌≤◌, ◌<◌, ◌+◌, ◌==◌, ◌++◌, Bool, true, false, List, [], ◌∷◌, Option, Some, None, length, refl, sym, ap, subst, ◌∙◌, arith, inl, inr}
use Rattle.std.specs.Prelude.{filter, fold, slice_index_or, if◌then◌else◌, map, not, ⊤}
use Rattle.std.proofs.lemmas.Bool.{cases_Bool, eq-eqb, eqb-true, ne_eqb}
use Rattle.dc_base.specs.Count.{window}
use Rattle.dc_base.specs.Nodes.{is_mm}
use Rattle.dc_base.specs.declared.events.Event.{Event}
use Rattle.dc_base.specs.declared.events.Event.TheVariants as event
use Rattle.dc_base.specs.declared.nodes.KeyName.{KeyName}
use Rattle.dc_base.specs.declared.nodes.Shape.{Shape}
use Rattle.dc_base.specs.declared.nodes.Want.{Want}
use Rattle.dc_base.specs.declared.nodes.Want.TheVariants as want
use Rattle.dc_base.specs.declared.numbers.SnLen.{SnLen}
use Rattle.dc_base.specs.declared.records.Item.{Item}
use Rattle.dc_base.specs.declared.records.Item.TheVariants.{Set, Unset}
use Rattle.dc_base.specs.declared.records.Plan.{Plan}
use Rattle.std.proofs.lemmas.List.{length-append}
use Rattle.key_chain.specs.KeyNames.{octets, octets_of_side}
use Rattle.node_rules.specs.Setup.{Setup}
use Rattle.claims.specs.Drafts.{Draft, bearer_draft, change_draft, command_of, draft, draft_of, is_mm_row, rekey_master_draft, rekey_second_draft, release_draft, renewing, set_to, shape_draft, unless}
use Rattle.claims.specs.Reading.{Setting}
use Rattle.claims.specs.Shapes.{mm}
use Rattle.claims.specs.Table.{Row, Table, key_for, next_key, row, second_key}
use Rattle.node_rules.specs.Held.{held}
use Rattle.node_rules.specs.Terminal.{TerminalNode}
use Rattle.node_rules.specs.TerminalHalf.{TerminalHalf}
use Rattle.run_uplinks.specs.Seen.{Seen, Uplink, draws, latest, new_uplink, setting_in, with_new}
use Rattle.run_uplinks.specs.Uplinks.{Plane, plane, AreSettings, Descend, Fits, IsDrawn, IsHalf, IsOut, IsSetBy, IsUp, RowsAscend, absent, bearer_drawn, drop_drawn, nothing_drawn, present, settings_drawn}
use Rattle.run_uplinks.proofs.Establishments.{all_out, descend_more}

-- ---- names

-- no establishment is named later than the last generation
pub drawn_below : (s : Seen) → IsDrawn s → Descend (s.last + 1) s.bearers
drawn_below s (nothing_drawn plans bearers) = subst (λ us. Descend (s.last + 1) us) (sym bearers) tt
drawn_below s (settings_drawn q qs plans last olds below) = descend_more s.last (s.last + 1) s.bearers (omega arith) below
drawn_below s (bearer_drawn q qs plans last id n first shape threshold policy key items u us bearers named of_id of_n of_first below) =
    subst (λ xs. Descend (s.last + 1) xs) (sym bearers) (omega (arith, named), descend_more s.last u.g us (omega (arith, named)) below)
drawn_below s (drop_drawn q qs plans last id items below) = descend_more s.last (s.last + 1) s.bearers (omega arith) below

-- ---- what was drawn before stays

setting_stays : (q : Plan) (plans : List Plan) (last id g : ℕ) → q.g ≡ last + 1 → g ≤ last → setting_in (q ∷ plans) id g ≡ setting_in plans id g
setting_stays q plans last id g new old = let apart : (q.g == g) ≡ false = ne_eqb q.g g (λ same. omega (arith, new, old, same)) in rw apart refl

-- more roots
pub index_more : (xs ys : List (List ℕ)) (i : ℕ) → i < length xs → slice_index_or (xs ++ ys) i [] ≡ slice_index_or xs i []
index_more [] ys i below = absurd (omega arith)
index_more (x ∷ xs) ys zero below = refl
index_more (x ∷ xs) ys (suc i) below = index_more xs ys i (omega arith)

pub octets_more : (xs ys : List (List ℕ)) (name : KeyName) → name.root < length xs → octets (xs ++ ys) name ≡ octets xs name
octets_more xs ys name below = ap (λ o. octets_of_side o name.side) (index_more xs ys name.root below)

set_more : (roots named : List (List ℕ)) (x : Setup) (o : Option Setting) → IsSetBy roots x o → IsSetBy (roots ++ named) x o
set_more roots named x None set = set
set_more roots named x (Some y) set = (
  set.0,
  set.1,
  set.2 ∙ sym (octets_more roots named y.key set.3),
  let more = length-append roots named in let below = set.3 in omega (arith, more, below),
)

half_stays : (k : Plane) (q : Plan) (named : List (List ℕ)) (u : Uplink) (h : TerminalHalf) → q.g ≡ k.last + 1 → IsHalf k u h
    → IsHalf (record { plans = q ∷ k.plans; roots = k.roots ++ named; last = k.last + 1; alg = k.alg }) u h
half_stays k q named u h new is = record {
  node = is.node;
  alg = is.alg;
  taken = is.taken;
  id = is.id;
  n = is.n;
  first = is.first;
  set = set_more k.roots named h.setup (setting_in (q ∷ k.plans) u.id h.setup.g)
      (subst (λ (o : Option Setting). IsSetBy k.roots h.setup o) (sym (setting_stays q k.plans k.last u.id h.setup.g new is.upto)) is.set);
  since = is.since;
  upto = omega (arith, is.upto);
  failed = is.failed;
  mcg = is.mcg;
  sender = is.sender;
}

out_stays : (last : ℕ) (o : Option Uplink) → IsOut last o → IsOut (last + 1) o
out_stays last None out = tt
out_stays last (Some u) out = (out.0, elim out.1 [ inl fresh ↦ inl fresh | inr earlier ↦ inr (omega (arith, earlier)) ])

-- ---- the draft sets bearers that were there before

no_new : (g from : ℕ) (items : List Item) (us : List Uplink) → AreSettings from items → fold (with_new g) us items ≡ us
no_new g from [] us olds = refl
no_new g from (Set id n first shape threshold policy key (Some old) ∷ items) us olds = no_new g (id + 1) items us olds.1
no_new g from (Set id n first shape threshold policy key None ∷ items) us olds = absurd olds
no_new g from (Unset id ∷ items) us olds = absurd olds

all_old : (t : Table) (root : ℕ) (k : KeyName) (shape : Row → Shape) (from : ℕ) (rows : List Row) → RowsAscend from rows → AreSettings from (map (set_to t root k shape) rows)
all_old t root k shape from [] up = tt
all_old t root k shape from (r ∷ rows) up = (up.0, all_old t root k shape (r.id + 1) rows up.1)

pub rows_from : (low high : ℕ) (rows : List Row) → low ≤ high → RowsAscend high rows → RowsAscend low rows
rows_from low high [] le up = tt
rows_from low high (r ∷ rows) le up = (omega (arith, up.0), up.1)

-- some of the rows
pub some_rows : (f : Row → Bool) (from : ℕ) (rows : List Row) → RowsAscend from rows → RowsAscend from (filter f rows)
some_rows f from [] up = tt
some_rows f from (r ∷ rows) up =
    elim (cases_Bool (f r)) [
      | inl yes' ↦ rw yes' (up.0, some_rows f (r.id + 1) rows up.1)
      | inr no' ↦ rw no' (rows_from from (r.id + 1) (filter f rows) (omega (arith, up.0)) (some_rows f (r.id + 1) rows up.1))
    ]

module _ (s : Seen) (t : TerminalNode) (is : IsUp s t) where
  -- the plan of a draft
  abbrev plan_for : Draft → Plan
  plan_for d = record { g = s.last + 1; sec = d.sec; items = d.items }

  -- with the same establishments each identity fits as before
  same_fits : (d : Draft) (id : ℕ) → Fits s t id → Fits (record { bearers = s.bearers; plans = plan_for d ∷ s.plans; roots = s.roots ++ d.named; last = s.last + 1; alg = s.alg; sec = s.sec }) t id
  same_fits d id (absent none out) = absent none (out_stays s.last (latest id s.bearers) out)
  same_fits d id (present h there u at half) = present h there u at (half_stays (plane s) (plan_for d) d.named u h refl half)

  olds_up : (d : Draft) → AreSettings 0 d.items → IsUp (draws (Some d) s) t
  olds_up d olds =
      subst (λ us. IsUp (record { bearers = us; plans = plan_for d ∷ s.plans; roots = s.roots ++ d.named; last = s.last + 1; alg = s.alg; sec = s.sec }) t) (sym (no_new (s.last + 1) 0 d.items s.bearers olds))
      (record {
        each = λ id. same_fits d id (is.each id);
        alone = is.alone;
        near = is.near;
        drawn = settings_drawn (plan_for d) s.plans refl refl olds (drawn_below s is.drawn);
        sec = is.sec;
        alg = is.alg;
        ascends = is.ascends;
      })

  drop_up : (d : Draft) (id : ℕ) → d.items ≡ Unset id ∷ [] → IsUp (draws (Some d) s) t
  drop_up d id items =
      subst (λ us. IsUp (record { bearers = us; plans = plan_for d ∷ s.plans; roots = s.roots ++ d.named; last = s.last + 1; alg = s.alg; sec = s.sec }) t) (sym (ap (λ xs. fold (with_new (s.last + 1)) s.bearers xs) items))
      (record {
        each = λ k. same_fits d k (is.each k);
        alone = is.alone;
        near = is.near;
        drawn = drop_drawn (plan_for d) s.plans refl refl id items (drawn_below s is.drawn);
        sec = is.sec;
        alg = is.alg;
        ascends = is.ascends;
      })

  -- ---- a new bearer

  module _ (d : Draft) (id : ℕ) (n : SnLen) (first : ℕ) (shape : Shape) (threshold policy : ℕ) (key : KeyName) (items : d.items ≡ Set id n first shape threshold policy key None ∷ [])
      (none : held id t.halves ≡ None) where
    abbrev new : Uplink
    new = new_uplink (s.last + 1) id n first

    abbrev with_it : Seen
    with_it = record { bearers = new ∷ s.bearers; plans = plan_for d ∷ s.plans; roots = s.roots ++ d.named; last = s.last + 1; alg = s.alg; sec = s.sec }

    new_fits : (k : ℕ) → Fits s t k → Fits with_it t k
    new_fits k fits =
        elim (cases_Bool (id == k)) [
          | inl same ↦ subst (λ j. Fits with_it t j) (eqb-true id k same) (absent none (here id (eq-eqb id id refl)))
          | inr other ↦ others k other (same_fits d k fits)
        ]
      where
        here : (j : ℕ) → (id == j) ≡ true → IsOut (s.last + 1) (latest j (new ∷ s.bearers))
        here j same = rw same (refl, inl (record { submitted = refl; freed = refl }))

        others : (k : ℕ) → (id == k) ≡ false → Fits (record { bearers = s.bearers; plans = plan_for d ∷ s.plans; roots = s.roots ++ d.named; last = s.last + 1; alg = s.alg; sec = s.sec }) t k → Fits with_it t k
        others k other (absent no' out) = absent no' (subst (λ o. IsOut (s.last + 1) o) (ap (λ b. if b then Some new else latest k s.bearers) (sym other)) out)
        others k other (present h there u at half) = present h there u (ap (λ b. if b then Some new else latest k s.bearers) other ∙ at) half

    latest_out : (u : Uplink) → latest id s.bearers ≡ Some u → u.terminal ≡ None
    latest_out u at = by (is.each id)
      where
        by : Fits s t id → u.terminal ≡ None
        by (absent no' out) = (subst (λ o. IsOut s.last o) at out).0
        by (present h there v v_at half) = absurd (let bad : None ≡ Some h = sym none ∙ there in cc)

    new_near : new.first + length new.submitted ≤ new.freed + window new.n
    new_near = omega arith

    new_up : IsUp (draws (Some d) s) t
    new_up =
        subst (λ us. IsUp (record { bearers = us; plans = plan_for d ∷ s.plans; roots = s.roots ++ d.named; last = s.last + 1; alg = s.alg; sec = s.sec }) t) (sym (ap (λ xs. fold (with_new (s.last + 1)) s.bearers xs) items))
        (record {
          each = λ k. new_fits k (is.each k);
          alone = (all_out id s.bearers is.alone latest_out, is.alone);
          near = (new_near, is.near);
          drawn = bearer_drawn (plan_for d) s.plans refl refl id n first shape threshold policy key items new s.bearers refl refl refl refl refl (drawn_below s is.drawn);
          sec = is.sec;
          alg = is.alg;
          ascends = is.ascends;
        })

  -- ---- any command

  -- the terminal does not have a bearer that is to be set up
  abbrev pub IsFree : Event → Type 0
  IsFree (event.Bearer id n first shape threshold policy) = held id t.halves ≡ None
  IsFree _ = ⊤

  pub draws_up : (table : Table) (e : Event) → RowsAscend 0 table.rows → IsFree e → IsUp (draws (draft table e) s) t
  draws_up table (event.Bearer id n first shape threshold policy) up free =
      new_up (bearer_draft table id n first shape threshold policy) id n first shape threshold policy (key_for shape table.root table.second_key) refl free
  draws_up table (event.Reshape id shape) up free =
      olds_up (shape_draft table id shape) (all_old table table.root table.second_key (λ r. shape) 0 (filter (λ r. r.id == id) table.rows) (some_rows (λ r. r.id == id) 0 table.rows up))
  draws_up table (event.Remove id) up free = drop_up (draft_of table (Unset id ∷ []) (unless (is_mm_row (row table id)) table.sec)) id refl
  draws_up table (event.Add x) up free = olds_up (renewing table (Some x) []) tt
  draws_up table event.Change up free =
      olds_up (change_draft table) (all_old table table.root (next_key table) (λ r. r.shape) 0 (filter (λ r. not (is_mm r.shape)) table.rows) (some_rows (λ r. not (is_mm r.shape)) 0 table.rows up))
  draws_up table event.Release up free =
      olds_up (release_draft table) (all_old table table.root table.second_key (λ r. mm) 0 (filter (λ r. not (is_mm r.shape)) table.rows) (some_rows (λ r. not (is_mm r.shape)) 0 table.rows up))
  draws_up table event.RekeySecond up free =
      olds_up (rekey_second_draft table) (all_old table table.root (next_key table) (λ r. r.shape) 0 (filter (λ r. r.shape.at_second) table.rows) (some_rows (λ r. r.shape.at_second) 0 table.rows up))
  draws_up table (event.RekeyMaster root) up free =
      olds_up (rekey_master_draft table root) (all_old table (length table.roots) (second_key (length table.roots) 0) (λ r. r.shape) 0 table.rows up)
  draws_up table (event.Recover id) up free = is
  draws_up table (event.Submit id d sdu) up free = is
  draws_up table (event.Report x id) up free = is
  draws_up table (event.Deny x on) up free = is
  draws_up table (event.Ask x w) up free = is
  draws_up table event.ScgFail up free = is
  draws_up table (event.Step l i) up free = is
  draws_up table (event.Lose l i) up free = is
  draws_up table (event.Again l i) up free = is

  -- what a secondary node asked for
  pub asked_up : (table : Table) (w : Want) → RowsAscend 0 table.rows → IsUp (draws (draft table (command_of w)) s) t
  asked_up table want.Rekey up = draws_up table event.RekeySecond up tt
  asked_up table want.Change up = draws_up table event.Change up tt
  asked_up table want.Release up = draws_up table event.Release up tt
