-- What is kept of bearers, after a change of them.
use Rattle.std.proofs.Common.{◌≡◌, ◌==◌, ◌&&◌, ℕ, Bool, true, false, List, [], ◌∷◌, Option, Some, None, nat_le, nat_lt, refl, sym, ap, ◌∙◌, inl, inr}
use Rattle.std.specs.List.{find}
use Rattle.std.specs.Option.{option_map}
use Rattle.std.specs.Prelude.{fold, if◌then◌else◌, map}
use Rattle.std.proofs.lemmas.Bool.{cases_Bool}
use Rattle.dc_base.specs.declared.nodes.Node.{Node}
use Rattle.dc_base.specs.declared.nodes.Node.TheVariants.{T, M, A, B}
use Rattle.dc_base.specs.declared.records.Item.{Item}
use Rattle.dc_base.specs.declared.records.Item.TheVariants.{Set, Unset}
use Rattle.claims.specs.Carrying.{dropped_at, gone_at_master, on_item, with_new, with_set}
use Rattle.claims.specs.Noted.{owned_by}
use Rattle.claims.specs.Past.{Bearer, Past}
use Rattle.claims.specs.Reading.{Setting, bearer_of, change_bearer, changed, holds_any, named, on_latest, setting}
use Rattle.claims.specs.Taking.{drop_taken}
use Rattle.checker_state.specs.Kept.{kept, kept_bearer}
use Rattle.checker_state.proofs.Blank.{not_below}

-- ---- a change that is kept, and one that is not

-- one function on bearers goes with another on what is kept
abbrev pub GoesWith : (Bearer → Bearer) → (Bearer → Bearer) → Type 0
GoesWith f h = (b : Bearer) → kept_bearer (f b) ≡ h (kept_bearer b)

-- nothing of it is kept
abbrev pub IsUnkept : (Bearer → Bearer) → Type 0
IsUnkept f = (b : Bearer) → kept_bearer (f b) ≡ kept_bearer b

pub if_kept : (c : Bool) (x y k : Bearer) → kept_bearer x ≡ k → kept_bearer y ≡ k → kept_bearer (if c then x else y) ≡ k
if_kept true x y k is_x is_y = is_x
if_kept false x y k is_x is_y = is_y

pub if_with : (c : Bool) (x y u v : Bearer) → kept_bearer x ≡ u → kept_bearer y ≡ v → kept_bearer (if c then x else y) ≡ (if c then u else v)
if_with true x y u v is_x is_y = is_x
if_with false x y u v is_x is_y = is_y

-- ---- all bearers

pub map_with : (f h : Bearer → Bearer) (bs : List Bearer) → GoesWith f h → map kept_bearer (map f bs) ≡ map h (map kept_bearer bs)
map_with f h [] goes = refl
map_with f h (b ∷ bs) goes = ap (λ (x : Bearer). x ∷ map kept_bearer (map f bs)) (goes b) ∙ ap (λ (xs : List Bearer). h (kept_bearer b) ∷ xs) (map_with f h bs goes)

pub map_unkept : (f : Bearer → Bearer) (bs : List Bearer) → IsUnkept f → map kept_bearer (map f bs) ≡ map kept_bearer bs
map_unkept f [] un = refl
map_unkept f (b ∷ bs) un = ap (λ (x : Bearer). x ∷ map kept_bearer (map f bs)) (un b) ∙ ap (λ (xs : List Bearer). kept_bearer b ∷ xs) (map_unkept f bs un)

-- ---- the latest of an identity

pub latest_with : (id : ℕ) (f h : Bearer → Bearer) (bs : List Bearer) → GoesWith f h → map kept_bearer (on_latest id f bs) ≡ on_latest id h (map kept_bearer bs)
latest_with id f h [] goes = refl
latest_with id f h (b ∷ bs) goes = elim (cases_Bool (b.id == id)) [
  | inl is ↦ rw is (ap (λ (x : Bearer). x ∷ map kept_bearer bs) (goes b))
  | inr not ↦ rw not (ap (λ (xs : List Bearer). kept_bearer b ∷ xs) (latest_with id f h bs goes))
]

pub latest_unkept : (id : ℕ) (f : Bearer → Bearer) (bs : List Bearer) → IsUnkept f → map kept_bearer (on_latest id f bs) ≡ map kept_bearer bs
latest_unkept id f [] un = refl
latest_unkept id f (b ∷ bs) un = elim (cases_Bool (b.id == id)) [
  | inl is ↦ rw is (ap (λ (x : Bearer). x ∷ map kept_bearer bs) (un b))
  | inr not ↦ rw not (ap (λ (xs : List Bearer). kept_bearer b ∷ xs) (latest_unkept id f bs un))
]

-- ---- the one of an identity and generation

pub found_kept : (test : Bearer → Bool) (bs : List Bearer) → ((b : Bearer) → test (kept_bearer b) ≡ test b)
    → find test (map kept_bearer bs) ≡ option_map kept_bearer (find test bs)
found_kept test [] same = refl
found_kept test (b ∷ bs) same = elim (cases_Bool (test b)) [
  | inl is ↦ rw (same b, is) refl
  | inr not ↦ rw (same b, not) (found_kept test bs same)
]

named_kept : (p : Past) (id g : ℕ) (o : Option Setting) → named (kept p) id g o ≡ option_map kept_bearer (named p id g o)
named_kept p id g None = refl
named_kept p id g (Some s) = found_kept (λ b. (b.id == id) && nat_le b.g g) p.bearers (λ b. refl)

pub bearer_of_kept : (p : Past) (id g : ℕ) → bearer_of (kept p) id g ≡ option_map kept_bearer (bearer_of p id g)
bearer_of_kept p id g = named_kept p id g (setting p id g)

pub changed_with : (f h : Bearer → Bearer) (bs : List Bearer) (o : Option Bearer) → GoesWith f h
    → map kept_bearer (changed f bs o) ≡ changed h (map kept_bearer bs) (option_map kept_bearer o)
changed_with f h bs None goes = refl
changed_with f h bs (Some c) goes =
    map_with (λ b. if b.g == c.g then f b else b) (λ b. if b.g == c.g then h b else b) bs
    (λ b. if_with (b.g == c.g) (f b) b (h (kept_bearer b)) (kept_bearer b) (goes b) refl)

pub changed_unkept : (f : Bearer → Bearer) (bs : List Bearer) (o : Option Bearer) → IsUnkept f → map kept_bearer (changed f bs o) ≡ map kept_bearer bs
changed_unkept f bs None un = refl
changed_unkept f bs (Some c) un =
    map_unkept (λ b. if b.g == c.g then f b else b) bs (λ b. if_kept (b.g == c.g) (f b) b (kept_bearer b) (un b) refl)

pub change_with : (p : Past) (id g : ℕ) (f h : Bearer → Bearer) → GoesWith f h → map kept_bearer (change_bearer p id g f) ≡ change_bearer (kept p) id g h
change_with p id g f h goes =
    changed_with f h p.bearers (bearer_of p id g) goes ∙ ap (changed h (map kept_bearer p.bearers)) (sym (bearer_of_kept p id g))

pub change_unkept : (p : Past) (id g : ℕ) (f : Bearer → Bearer) → IsUnkept f → map kept_bearer (change_bearer p id g f) ≡ map kept_bearer p.bearers
change_unkept p id g f un = changed_unkept f p.bearers (bearer_of p id g) un

-- ---- what happens to anchors

pub dropped_with : (x : Node) (b : Bearer) → kept_bearer (dropped_at x b) ≡ dropped_at x (kept_bearer b)
dropped_with x b = if_with (holds_any x b.holder) (record b { holder = None }) b _ _ refl refl

pub gone_with : (b : Bearer) → kept_bearer (gone_at_master b) ≡ gone_at_master (kept_bearer b)
gone_with b = ap (λ (c : Bearer). record c { is_gone = true }) (dropped_with M b)

pub owned_with : (x : Node) (g : ℕ) (b : Bearer) → kept_bearer (owned_by x g b) ≡ owned_by x g (kept_bearer b)
owned_with T g b = refl
owned_with M g b = rw (not_below b.first) refl
owned_with A g b = refl
owned_with B g b = refl

-- ---- items

pub new_with : (g : ℕ) (items : List Item) (bs : List Bearer) → map kept_bearer (fold (with_new g) bs items) ≡ fold (with_new g) (map kept_bearer bs) items
new_with g [] bs = refl
new_with g (Set id n first shape threshold policy key None ∷ items) bs = new_with g items (with_new g bs (Set id n first shape threshold policy key None))
new_with g (Set id n first shape threshold policy key (Some old) ∷ items) bs = new_with g items bs
new_with g (Unset id ∷ items) bs = new_with g items bs

item_with : (p : Past) (g : ℕ) (bs : List Bearer) (item : Item) → map kept_bearer (on_item p g bs item) ≡ on_item (kept p) g (map kept_bearer bs) item
item_with p g bs (Set id n first shape threshold policy key old) =
    changed_with (with_set g) (with_set g) bs (bearer_of p id g) (λ b. refl) ∙ ap (changed (with_set g) (map kept_bearer bs)) (sym (bearer_of_kept p id g))
item_with p g bs (Unset id) =
    map_with (λ b. if (b.id == id) && nat_lt b.g g then gone_at_master b else b) (λ b. if (b.id == id) && nat_lt b.g g then gone_at_master b else b) bs
    (λ b. if_with ((b.id == id) && nat_lt b.g g) (gone_at_master b) b _ _ (gone_with b) refl)

pub items_with : (p : Past) (g : ℕ) (items : List Item) (bs : List Bearer)
    → map kept_bearer (fold (on_item p g) bs items) ≡ fold (on_item (kept p) g) (map kept_bearer bs) items
items_with p g [] bs = refl
items_with p g (item ∷ items) bs =
    items_with p g items (on_item p g bs item) ∙ ap (λ (cs : List Bearer). fold (on_item (kept p) g) cs items) (item_with p g bs item)

drop_with : (x : Node) (g : ℕ) (bs : List Bearer) (item : Item) → map kept_bearer (drop_taken x g bs item) ≡ drop_taken x g (map kept_bearer bs) item
drop_with x g bs (Set id n first shape threshold policy key old) = refl
drop_with x g bs (Unset id) =
    map_with (λ b. if (b.id == id) && nat_lt b.g g then dropped_at x b else b) (λ b. if (b.id == id) && nat_lt b.g g then dropped_at x b else b) bs
    (λ b. if_with ((b.id == id) && nat_lt b.g g) (dropped_at x b) b _ _ (dropped_with x b) refl)

pub drops_with : (x : Node) (g : ℕ) (items : List Item) (bs : List Bearer)
    → map kept_bearer (fold (drop_taken x g) bs items) ≡ fold (drop_taken x g) (map kept_bearer bs) items
drops_with x g [] bs = refl
drops_with x g (item ∷ items) bs =
    drops_with x g items (drop_taken x g bs item) ∙ ap (λ (cs : List Bearer). fold (drop_taken x g) cs items) (drop_with x g bs item)
