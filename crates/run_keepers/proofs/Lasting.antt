-- What several notes leave active, but for what is dropped.
use Rattle.std.proofs.Common.{ℕ, ◌≡◌, ◌==◌, ◌++◌, Bool, true, false, List, [], ◌∷◌, Option, Some, None, refl, sym, subst, inl, inr}
use Rattle.std.specs.Prelude.{fold, if◌then◌else◌, ◌⊎◌}
use Rattle.dc_base.specs.declared.events.Note.{Note}
use Rattle.dc_base.specs.declared.events.Note.TheVariants as note
use Rattle.dc_base.specs.declared.nodes.Dir.TheVariants.{Ul}
use Rattle.dc_base.specs.declared.nodes.Node.{Node}
use Rattle.node_rules.specs.Master.{handed_up}
use Rattle.run_holders.specs.Actives.{Actives, is_of_anchor, note_actives, with_active}
use Rattle.run_holders.proofs.Notes.{fold_notes}
use Rattle.run_keepers.specs.Lasting.{Lasts}

-- ---- of any anchors

pub lasts_itself : (D : ℕ → Type 0) (a : Actives) → Lasts D a a
lasts_itself D a k g at = inl at

pub lasts_then : (D : ℕ → Type 0) (a b d : Actives) → Lasts D a b → Lasts D b d → Lasts D a d
lasts_then D a b d one two k g at = by (one k g at)
  where
    by : (b k ≡ Some g) ⊎ D k → (d k ≡ Some g) ⊎ D k
    by (inl is) = two k g is
    by (inr gone) = inr gone

lasts_with : (D : ℕ → Type 0) (id : ℕ) (o : Option ℕ) (a b : Actives) → Lasts D a b → Lasts D (with_active id o a) (with_active id o b)
lasts_with D id o a b more k g = by (id == k)
  where
    by : (d : Bool) → (if d then o else a k) ≡ Some g → ((if d then o else b k) ≡ Some g) ⊎ D k
    by true at = inl at
    by false at = more k g at

note_lasts : (D : ℕ → Type 0) (a b : Actives) (n : Note) → Lasts D a b → Lasts D (note_actives a n) (note_actives b n)
note_lasts D a b (note.Own x id h) more = lasts_with D id (Some h) a b more
note_lasts D a b (note.Give x id h) more = lasts_with D id None a b more
note_lasts D a b (note.Begin w) more = more
note_lasts D a b (note.Join x h) more = more
note_lasts D a b (note.Leave x h) more = more
note_lasts D a b (note.Set id h) more = more
note_lasts D a b (note.Unset id) more = more
note_lasts D a b (note.Up x id d count sdu) more = more
note_lasts D a b (note.Freed id d count) more = more
note_lasts D a b (note.Confirmed x) more = more
note_lasts D a b (note.Refused x w) more = more
note_lasts D a b note.Done more = more
note_lasts D a b note.Rejected more = more

pub notes_last : (D : ℕ → Type 0) (ns : List Note) (a b : Actives) → Lasts D a b → Lasts D (fold note_actives a ns) (fold note_actives b ns)
notes_last D [] a b more = more
notes_last D (n ∷ ns) a b more = notes_last D ns (note_actives a n) (note_actives b n) (note_lasts D a b n more)

-- ---- over notes

-- after the notes no other anchors stay active than these, but for what is dropped
abbrev pub LastsOver : (ℕ → Type 0) → Actives → List Note → Actives → Type 0
LastsOver D a ns b = Lasts D (fold note_actives a ns) b

pub over_then : (D : ℕ → Type 0) (a b d : Actives) (ns ms : List Note) → LastsOver D a ns b → LastsOver D b ms d → LastsOver D a (ns ++ ms) d
over_then D a b d ns ms one two =
    subst (λ z. Lasts D z d) (sym (fold_notes ns ms a)) (lasts_then D (fold note_actives (fold note_actives a ns) ms) (fold note_actives b ms) d (notes_last D ms (fold note_actives a ns) b one) two)

-- what is handed up changes nothing
pub hands_still : (x : Node) (id : ℕ) (ups : List (ℕ × List ℕ)) (a : Actives) → fold note_actives a (handed_up x id Ul ups) ≡ a
hands_still x id [] a = refl
hands_still x id (u ∷ ups) a = hands_still x id ups a

-- nor does a note that says nothing of anchors
pub still : (n : Note) (a : Actives) → is_of_anchor n ≡ false → note_actives a n ≡ a
still (note.Begin w) a none = refl
still (note.Join x h) a none = refl
still (note.Leave x h) a none = refl
still (note.Set id h) a none = refl
still (note.Unset id) a none = refl
still (note.Freed id d count) a none = refl
still (note.Confirmed x) a none = refl
still (note.Refused x w) a none = refl
still note.Done a none = refl
still note.Rejected a none = refl
still (note.Own x id h) a none = absurd cc
still (note.Give x id h) a none = absurd cc
still (note.Up x id d count sdu) a none = refl
