-- As many fields of one sort as are left.
use Rattle.std.proofs.Common.{◌≡◌, ℕ, ◌<◌, List, [], ◌∷◌, ◌++◌, length, map, true, false, refl, sym, ap, subst, ◌∙◌, inl, arith}
use Rattle.std.proofs.lemmas.List.{append-nil}
use Rattle.transcript_text.specs.Grammar.{Kind, Allows, IsFault, IsNotHere, each}
use Rattle.transcript_text.specs.Ranges.{Every}
use Rattle.transcript_text.specs.Places.{Left, Takes, FaultAt, IsFaultAt, has_any}
use Rattle.transcript_text.specs.declared.fault.LineFault.{LineFault}
use Rattle.transcript_text.specs.declared.fault.LineFault.TheVariants as fault
use Rattle.transcript_text.proofs.Taking.{here, later}

here_at : (k : Kind) (at : ℕ) (fs : List (List ℕ)) (c : ℕ) → has_any fs ≡ true → IsNotHere k at fs c → IsFault (each k fs) at fs c
here_at k at [] c some h = cc
here_at k at (f ∷ fs) c some h = inl h

-- the fault is that of the next field
each_here : (k : Kind) (left : Left) (f : LineFault) → has_any left.fields ≡ true → FaultAt (IsNotHere k) left f
    → IsFaultAt (each k left.fields) left f
each_here k left (fault.Column c) some h = here_at k left.at left.fields c some h
each_here k left fault.Memory some h = tt

-- the same, where a fault of what is left is one of all
pub each_failed : (k : Kind) (old left : Left)
    → ((f : LineFault) → IsFaultAt (each k left.fields) left f → IsFaultAt (each k old.fields) old f)
    → has_any left.fields ≡ true → (f : LineFault) → FaultAt (IsNotHere k) left f → IsFaultAt (each k old.fields) old f
each_failed k old left inv some f h = inv f (each_here k left f some h)

-- the fault comes after a field that is taken
pub each_later : (k : Kind) (field : List ℕ) (old new : Left) (f : LineFault) → Allows k field → Takes field old new
    → IsFaultAt (each k new.fields) new f → IsFaultAt (each k old.fields) old f
each_later k field old new f allowed t h =
    subst (λ (fs : List (List ℕ)). IsFaultAt (each k fs) old f) (sym t.found)
    (later k (each k new.fields) field old new f allowed t h)

-- one more value of the range
pub every_more : {A : Type 0} (P : A → Type 0) (xs : List A) (x : A) → Every P xs → P x → Every P (xs ++ x ∷ [])
every_more P [] x h here = (here, tt)
every_more P (y ∷ ys) x h here = (h.0, every_more P ys x h.1 here)

-- one more value read
pub read_more : {A : Type 0} (word : A → List ℕ) (xs : List A) (x : A) (rest : List (List ℕ))
    → map word xs ++ word x ∷ rest ≡ map word (xs ++ x ∷ []) ++ rest
read_more word [] x rest = refl
read_more word (y ∷ ys) x rest = ap (λ (l : List (List ℕ)). word y ∷ l) (read_more word ys x rest)

-- no field is left
pub none_left : (fs : List (List ℕ)) → has_any fs ≡ false → fs ≡ []
none_left [] h = refl
none_left (f ∷ fs) h = cc

pub read_all : (whole front rest : List (List ℕ)) → whole ≡ front ++ rest → has_any rest ≡ false → whole ≡ front
read_all whole front rest e none =
    let empty = none_left rest none in
    e ∙ (ap (λ (l : List (List ℕ)). front ++ l) empty ∙ append-nil front)

-- fewer fields are left
pub fewer : (field : List ℕ) (old new : Left) → Takes field old new → length new.fields < length old.fields
fewer field old new t =
    let e : length old.fields ≡ length (field ∷ new.fields) = ap length t.found in
    omega (arith, e)
