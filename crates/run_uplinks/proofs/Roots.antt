-- The keys of each draft are of one root, that which is current once it is carried out.
use Rattle.std.proofs.Common.{ℕ, ◌≡◌, ◌<◌, ◌==◌, ◌++◌, List, [], ◌∷◌, Option, Some, None, length, refl, arith, inl, inr}
use Rattle.std.specs.Prelude.{filter, map, not, ⊤}
use Rattle.std.specs.List.{AllByRecursion}
use Rattle.std.proofs.lemmas.Bool.{cases_Bool}
use Rattle.std.proofs.lemmas.List.{length-append}
use Rattle.dc_base.specs.Nodes.{is_mm}
use Rattle.dc_base.specs.declared.events.Event.{Event}
use Rattle.dc_base.specs.declared.events.Event.TheVariants as event
use Rattle.dc_base.specs.declared.nodes.KeyName.{KeyName}
use Rattle.dc_base.specs.declared.nodes.Shape.{Shape}
use Rattle.claims.specs.Drafts.{Draft, draft, set_to}
use Rattle.claims.specs.Shapes.{mm}
use Rattle.claims.specs.Table.{Row, Table, key_for, next_key, second_key}
use Rattle.run_uplinks.specs.Uplinks.{IsOfRoot}

-- the root of a draft is named, its K_SN is of that root, and so are the keys of its items
pub record IsOfOneRoot (t : Table) (d : Draft) : Type 0 where
  pub named : d.root < length (t.roots ++ d.named)
  pub second : d.second_key.root ≡ d.root
  pub items : AllByRecursion (IsOfRoot d.root) d.items

-- of a draft that may be there
abbrev pub OfOneRoot : Table → Option Draft → Type 0
OfOneRoot t None = ⊤
OfOneRoot t (Some d) = IsOfOneRoot t d

key_root : (s : Shape) (root : ℕ) (k : KeyName) → k.root ≡ root → (key_for s root k).root ≡ root
key_root s root k same = elim (cases_Bool s.at_second) [ inl yes' ↦ rw yes' same | inr no' ↦ rw no' refl ]

all_of_root : (t : Table) (root : ℕ) (k : KeyName) (shape : Row → Shape) (rows : List Row) → k.root ≡ root → AllByRecursion (IsOfRoot root) (map (set_to t root k shape) rows)
all_of_root t root k shape [] same = tt
all_of_root t root k shape (r ∷ rows) same = (key_root (shape r) root k same, all_of_root t root k shape rows same)

-- each draft
module _ (t : Table) (named : t.root < length t.roots) (second : t.second_key.root ≡ t.root) where
  still_named : t.root < length (t.roots ++ [])
  still_named = let more = length-append t.roots [] in omega (arith, more, named)

  pub draft_root : (e : Event) → OfOneRoot t (draft t e)
  draft_root (event.Bearer id n first shape threshold policy) = record { named = still_named; second = second; items = (key_root shape t.root t.second_key second, tt) }
  draft_root (event.Reshape id shape) = record { named = still_named; second = second; items = all_of_root t t.root t.second_key (λ r. shape) (filter (λ r. r.id == id) t.rows) second }
  draft_root (event.Remove id) = record { named = still_named; second = second; items = (tt, tt) }
  draft_root (event.Add x) = record { named = still_named; second = refl; items = tt }
  draft_root event.Change = record { named = still_named; second = refl; items = all_of_root t t.root (next_key t) (λ r. r.shape) (filter (λ r. not (is_mm r.shape)) t.rows) refl }
  draft_root event.Release = record { named = still_named; second = second; items = all_of_root t t.root t.second_key (λ r. mm) (filter (λ r. not (is_mm r.shape)) t.rows) second }
  draft_root event.RekeySecond = record { named = still_named; second = refl; items = all_of_root t t.root (next_key t) (λ r. r.shape) (filter (λ r. r.shape.at_second) t.rows) refl }
  draft_root (event.RekeyMaster octets) = record {
    named = let more = length-append t.roots (octets ∷ []) in omega (arith, more);
    second = refl;
    items = all_of_root t (length t.roots) (second_key (length t.roots) 0) (λ r. r.shape) t.rows refl;
  }
  draft_root (event.Recover id) = tt
  draft_root (event.Submit id d sdu) = tt
  draft_root (event.Report x id) = tt
  draft_root (event.Deny x on) = tt
  draft_root (event.Ask x w) = tt
  draft_root event.ScgFail = tt
  draft_root (event.Step l i) = tt
  draft_root (event.Lose l i) = tt
  draft_root (event.Again l i) = tt
