-- A field is taken, or is where a line leaves the grammar.
use Rattle.std.proofs.Common.{◌≡◌, ℕ, ◌+◌, List, [], ◌∷◌, length, Option, Some, None, Result, refl, sym, ◌∙◌, ap, subst, inl, inr}
use Rattle.std.specs.Prelude.{IfOk, IfErr, IfSome, IfNone}
use Rattle.std.specs.Option.{ok_or}
use Rattle.script_text.specs.Grammar.{Kind, Allows, IsFault}
use Rattle.script_text.specs.Places.{Left, Takes, IsFaultAt}
use Rattle.script_text.specs.declared.scripted.LineFault.{LineFault}
use Rattle.script_text.specs.declared.scripted.LineFault.TheVariants as fault

-- no field is left
pub missing : (k : Kind) (ks : List Kind) (left : Left) (f : LineFault) → f ≡ fault.Column left.at → left.fields ≡ [] → IsFaultAt (k ∷ ks) left f
missing k ks left f e none =
    subst (IsFaultAt (k ∷ ks) left) (sym e) (subst (λ (fs : List (List ℕ)). IsFault (k ∷ ks) left.at fs left.at) (sym none) refl)

-- the field is not allowed
pub not_allowed : (k : Kind) (ks : List Kind) (field : List ℕ) (rest : List (List ℕ)) (left : Left)
    → left.fields ≡ field ∷ rest → (Allows k field → ⊥) → IsFaultAt (k ∷ ks) left (fault.Column (left.at + 1))
not_allowed k ks field rest left found refused =
    subst (λ (fs : List (List ℕ)). IsFault (k ∷ ks) left.at fs (left.at + 1)) (sym found) (inl (refused, refl))

-- the fault comes after a field that is taken
pub later : (k : Kind) (ks : List Kind) (field : List ℕ) (old new : Left) (f : LineFault) → Takes k field old new
    → IsFaultAt ks new f → IsFaultAt (k ∷ ks) old f
later k ks field old new (fault.Column c) t h =
    subst (λ (fs : List (List ℕ)). IsFault (k ∷ ks) old.at fs c) (sym t.found)
    (inr (t.allowed, subst (λ (a : ℕ). IsFault ks a new.fields c) t.moved h))
later k ks field old new fault.Memory t h = tt

-- what is read of the field decides
pub taken_if : {T : Type 0} (P : T → Type 0) (k : Kind) (word : T → List ℕ) → ((t : T) → P t → Allows k (word t))
    → (v : Option T) (r : Result T LineFault) (field : List ℕ) (old new : Left)
    → IfSome v (λ t. P t × (field ≡ word t))
    → old.fields ≡ field ∷ new.fields → new.at ≡ old.at + length field + 1
    → (column : ℕ) → r ≡ ok_or v (fault.Column column)
    → IfOk r (λ t. Takes k (word t) old new)
taken_if P k word allows (Some t) r field old new some found moved column e =
    rw e record {
      allowed = allows t some.0;
      found = found ∙ ap (λ (f : List ℕ). f ∷ new.fields) some.1;
      moved = moved ∙ ap (λ (f : List ℕ). old.at + length f + 1) some.1;
    }
taken_if P k word allows None r field old new some found moved column e = rw e tt

pub in_range_if : {T : Type 0} (P Q : T → Type 0) (v : Option T) (r : Result T LineFault) (f : LineFault)
    → IfSome v (λ t. P t × Q t) → r ≡ ok_or v f → IfOk r P
in_range_if P Q (Some t) r f some e = rw e some.0
in_range_if P Q None r f some e = rw e tt

pub fault_if : {T : Type 0} (k : Kind) (v : Option T) (r : Result T LineFault) (field : List ℕ) (rest : List (List ℕ)) (left : Left)
    → IfNone v (Allows k field → ⊥) → left.fields ≡ field ∷ rest → (column : ℕ) → column ≡ left.at + 1 → r ≡ ok_or v (fault.Column column)
    → IfErr r (λ f. (ks : List Kind) → IsFaultAt (k ∷ ks) left f)
fault_if k (Some t) r field rest left none found column at e = rw e tt
fault_if k None r field rest left none found column at e = rw (e, at) (λ ks. not_allowed k ks field rest left found none)
