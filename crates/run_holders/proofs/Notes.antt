-- What several notes of a node come to, one after another.
use Rattle.std.proofs.Common.{ℕ, ◌≡◌, ◌==◌, ◌++◌, Bool, true, false, List, [], ◌∷◌, Option, Some, None, refl, ap}
use Rattle.std.specs.Prelude.{fold, if◌then◌else◌, is_some}
use Rattle.dc_base.specs.declared.events.Note.{Note}
use Rattle.dc_base.specs.declared.events.Note.TheVariants as note
use Rattle.dc_base.specs.declared.nodes.Dir.TheVariants.{Dl, Ul}
use Rattle.dc_base.specs.declared.nodes.Node.{Node}
use Rattle.run_holders.specs.Actives.{Actives, NoteFits, NotesFit, Within, note_actives, with_active}

-- ---- what is active by more

pub within_itself : (a : Actives) → Within a a
within_itself a k g at = at

pub within_then : (a b d : Actives) → Within a b → Within b d → Within a d
within_then a b d one two k g at = two k g (one k g at)

pub within_with : (id : ℕ) (o : Option ℕ) (a b : Actives) → Within a b → Within (with_active id o a) (with_active id o b)
within_with id o a b more k g = by (id == k)
  where
    by : (d : Bool) → (if d then o else a k) ≡ Some g → (if d then o else b k) ≡ Some g
    by true at = at
    by false at = more k g at

pub note_within : (a b : Actives) (n : Note) → Within a b → Within (note_actives a n) (note_actives b n)
note_within a b (note.Own x id h) more = within_with id (Some h) a b more
note_within a b (note.Give x id h) more = within_with id None a b more
note_within a b (note.Begin w) more = more
note_within a b (note.Join x h) more = more
note_within a b (note.Leave x h) more = more
note_within a b (note.Set id h) more = more
note_within a b (note.Unset id) more = more
note_within a b (note.Up x id d count sdu) more = more
note_within a b (note.Freed id d count) more = more
note_within a b (note.Confirmed x) more = more
note_within a b (note.Refused x w) more = more
note_within a b note.Done more = more
note_within a b note.Rejected more = more

pub notes_within : (ns : List Note) (a b : Actives) → Within a b → Within (fold note_actives a ns) (fold note_actives b ns)
notes_within [] a b more = more
notes_within (n ∷ ns) a b more = notes_within ns (note_actives a n) (note_actives b n) (note_within a b n more)

-- an active anchor is active by more
pub some_within : (a b : Actives) (id : ℕ) → Within a b → is_some (a id) ≡ true → is_some (b id) ≡ true
some_within a b id more is = by (a id) refl is
  where
    by : (o : Option ℕ) → a id ≡ o → is_some o ≡ true → is_some (b id) ≡ true
    by None at none = absurd cc
    by (Some g) at some = ap is_some (more id g at)

pub fits_within : (x : Node) (a b : Actives) (n : Note) → Within a b → NoteFits x a n → NoteFits x b n
fits_within x a b (note.Own y id h) more is = is
fits_within x a b (note.Give y id h) more is = (is.0, some_within a b id more is.1)
fits_within x a b (note.Up y id Ul count sdu) more is = (is.0, some_within a b id more is.1)
fits_within x a b (note.Up y id Dl count sdu) more is = tt
fits_within x a b (note.Begin w) more is = tt
fits_within x a b (note.Join y h) more is = tt
fits_within x a b (note.Leave y h) more is = tt
fits_within x a b (note.Set id h) more is = tt
fits_within x a b (note.Unset id) more is = tt
fits_within x a b (note.Freed id d count) more is = tt
fits_within x a b (note.Confirmed y) more is = tt
fits_within x a b (note.Refused y w) more is = tt
fits_within x a b note.Done more is = tt
fits_within x a b note.Rejected more is = tt

pub all_within : (x : Node) (ns : List Note) (a b : Actives) → Within a b → NotesFit x a ns → NotesFit x b ns
all_within x [] a b more is = tt
all_within x (n ∷ ns) a b more is =
    (fits_within x a b n more is.0, all_within x ns (note_actives a n) (note_actives b n) (note_within a b n more) is.1)

-- ---- one after another

pub fold_notes : (ns ms : List Note) (a : Actives) → fold note_actives a (ns ++ ms) ≡ fold note_actives (fold note_actives a ns) ms
fold_notes [] ms a = refl
fold_notes (n ∷ ns) ms a = fold_notes ns ms (note_actives a n)

pub fit_append : (x : Node) (ns ms : List Note) (a : Actives) → NotesFit x a ns → NotesFit x (fold note_actives a ns) ms → NotesFit x a (ns ++ ms)
fit_append x [] ms a one two = two
fit_append x (n ∷ ns) ms a one two = (one.0, fit_append x ns ms (note_actives a n) one.1 two)

-- the first of them, and the others
pub fit_first : (x : Node) (ns ms : List Note) (a : Actives) → NotesFit x a (ns ++ ms) → NotesFit x a ns
fit_first x [] ms a is = tt
fit_first x (n ∷ ns) ms a is = (is.0, fit_first x ns ms (note_actives a n) is.1)

pub fit_later : (x : Node) (ns ms : List Note) (a : Actives) → NotesFit x a (ns ++ ms) → NotesFit x (fold note_actives a ns) ms
fit_later x [] ms a is = is
fit_later x (n ∷ ns) ms a is = fit_later x ns ms (note_actives a n) is.1
