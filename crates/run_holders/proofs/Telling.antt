-- Notes of a node that fit its active anchors, and say which are active after them.
use Rattle.std.proofs.Common.{ℕ, ◌≡◌, ◌==◌, ◌++◌, Bool, true, false, List, [], ◌∷◌, Some, None, refl, sym, ap, subst, inl, inr}
use Rattle.std.specs.Prelude.{fold, if◌then◌else◌, is_some, ◌⊎◌}
use Rattle.std.proofs.lemmas.Bool.{eq-eqb}
use Rattle.dc_base.specs.declared.events.Note.{Note}
use Rattle.dc_base.specs.declared.events.Note.TheVariants as note
use Rattle.dc_base.specs.declared.nodes.Dir.TheVariants.{Ul}
use Rattle.dc_base.specs.declared.nodes.Node.{Node}
use Rattle.node_rules.specs.Master.{handed_up}
use Rattle.run_holders.specs.Actives.{Actives, NoteFits, NotesFit, Within, is_of_anchor, note_actives, with_active}
use Rattle.run_holders.proofs.Notes.{all_within, fit_append, fold_notes, notes_within, within_then}

-- notes that fit, after which no other anchors are active than these
pub record Tells (x : Node) (a : Actives) (ns : List Note) (b : Actives) : Type 0 where
  pub fits : NotesFit x a ns
  pub after : Within b (fold note_actives a ns)

-- notes one after another
pub tells_then : (x : Node) (a b d : Actives) (ns ms : List Note) → Tells x a ns b → Tells x b ms d → Tells x a (ns ++ ms) d
tells_then x a b d ns ms one two = record {
  fits = fit_append x ns ms a one.fits (all_within x ms b (fold note_actives a ns) one.after two.fits);
  after = subst (Within d) (sym (fold_notes ns ms a)) (within_then d (fold note_actives b ms) (fold note_actives (fold note_actives a ns) ms) two.after (notes_within ms b (fold note_actives a ns) one.after));
}

-- none
pub quietly : (x : Node) (a b : Actives) → Within b a → Tells x a [] b
quietly x a b less = record { fits = tt; after = less }

-- an anchor is active from now on
pub own_tells : (x : Node) (id g : ℕ) (a b : Actives) → Within b (with_active id (Some g) a) → Tells x a (note.Own x id g ∷ []) b
own_tells x id g a b less = record { fits = (refl, tt); after = less }

-- fewer are active
pub less_with : (id : ℕ) (a : Actives) → Within (with_active id None a) a
less_with id a k g = by (id == k)
  where
    by : (d : Bool) → (if d then None else a k) ≡ Some g → a k ≡ Some g
    by true at = absurd cc
    by false at = at

pub with_whatever : (id g : ℕ) (a : Actives) → is_some (with_active id (Some g) a id) ≡ true
with_whatever id g a = ap (λ d. is_some (if d then Some g else a id)) (eq-eqb id id refl)

-- what an active anchor hands up
hands_fit : (x : Node) (id : ℕ) (ups : List (ℕ × List ℕ)) (a : Actives) → is_some (a id) ≡ true → NotesFit x a (handed_up x id Ul ups)
hands_fit x id [] a is = tt
hands_fit x id (u ∷ ups) a is = ((refl, is), hands_fit x id ups a is)

hands_still : (x : Node) (id : ℕ) (ups : List (ℕ × List ℕ)) (a : Actives) → fold note_actives a (handed_up x id Ul ups) ≡ a
hands_still x id [] a = refl
hands_still x id (u ∷ ups) a = hands_still x id ups a

nil_after : (ns : List Note) → ns ++ [] ≡ ns
nil_after [] = refl
nil_after (n ∷ ns) = ap (λ zs. n ∷ zs) (nil_after ns)

pub still_hands : (x : Node) (id : ℕ) (ups : List (ℕ × List ℕ)) (a b : Actives) → Within b a → (is_some (a id) ≡ true) ⊎ (ups ≡ []) → Tells x a (handed_up x id Ul ups ++ []) b
still_hands x id ups a b less (inl is) = subst (λ ns. Tells x a ns b) (sym (nil_after (handed_up x id Ul ups))) (record {
  fits = hands_fit x id ups a is;
  after = subst (Within b) (sym (hands_still x id ups a)) less;
})
still_hands x id ups a b less (inr none) = subst (λ us. Tells x a (handed_up x id Ul us ++ []) b) (sym none) (quietly x a b less)

-- a note that says nothing of anchors
pub record IsBeside (n : Note) : Type 0 where
  pub fits : (x : Node) (a : Actives) → NoteFits x a n
  pub still : (a : Actives) → note_actives a n ≡ a

-- what is no note of an anchor is one
pub beside : (n : Note) → is_of_anchor n ≡ false → IsBeside n
beside (note.Begin w) none = record { fits = λ y a. tt; still = λ a. refl }
beside (note.Join x h) none = record { fits = λ y a. tt; still = λ a. refl }
beside (note.Leave x h) none = record { fits = λ y a. tt; still = λ a. refl }
beside (note.Set id h) none = record { fits = λ y a. tt; still = λ a. refl }
beside (note.Unset id) none = record { fits = λ y a. tt; still = λ a. refl }
beside (note.Freed id d count) none = record { fits = λ y a. tt; still = λ a. refl }
beside (note.Confirmed x) none = record { fits = λ y a. tt; still = λ a. refl }
beside (note.Refused x w) none = record { fits = λ y a. tt; still = λ a. refl }
beside note.Done none = record { fits = λ y a. tt; still = λ a. refl }
beside note.Rejected none = record { fits = λ y a. tt; still = λ a. refl }
beside (note.Own x id h) none = absurd cc
beside (note.Give x id h) none = absurd cc
beside (note.Up x id d count sdu) none = absurd cc

-- what is handed up, and nothing else
pub hands_tell : (x : Node) (id : ℕ) (ups : List (ℕ × List ℕ)) (a b : Actives) → Within b a → (is_some (a id) ≡ true) ⊎ (ups ≡ []) → Tells x a (handed_up x id Ul ups) b
hands_tell x id ups a b less either = subst (λ ns. Tells x a ns b) (nil_after (handed_up x id Ul ups)) (still_hands x id ups a b less either)
