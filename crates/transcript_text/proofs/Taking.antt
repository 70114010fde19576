-- A field is taken, or is where a line leaves the grammar.
use Rattle.std.proofs.Common.{ℕ, List, [], ◌∷◌, refl, sym, subst, inl, inr}
use Rattle.transcript_text.specs.Grammar.{Kind, Linked, Allows, IsFault, IsNotHere, IsNoWord, IsFaultAfter, IsFlightFault, IsSendFault, AfterCarried}
use Rattle.transcript_text.specs.Words.{carried_word}
use Rattle.transcript_text.specs.Places.{Left, Takes, FaultAt, IsFaultAt}
use Rattle.transcript_text.specs.declared.fault.LineFault.{LineFault}
use Rattle.transcript_text.specs.declared.fault.LineFault.TheVariants as fault

fault_here : (k : Kind) (ks : List Kind) (at : ℕ) (fs : List (List ℕ)) (c : ℕ) → IsNotHere k at fs c → IsFault (k ∷ ks) at fs c
fault_here k ks at [] c h = h
fault_here k ks at (f ∷ fs) c h = inl h

-- the fault is that of the next field
pub here : (k : Kind) (ks : List Kind) (left : Left) (f : LineFault) → FaultAt (IsNotHere k) left f → IsFaultAt (k ∷ ks) left f
here k ks left (fault.Column c) h = fault_here k ks left.at left.fields c h
here k ks left fault.Memory h = tt

-- the fault comes after a field that is taken
pub later : (k : Kind) (ks : List Kind) (field : List ℕ) (old new : Left) (f : LineFault) → Allows k field → Takes field old new
    → IsFaultAt ks new f → IsFaultAt (k ∷ ks) old f
later k ks field old new (fault.Column c) allowed t h =
    subst (λ (fs : List (List ℕ)). IsFault (k ∷ ks) old.at fs c) (sym t.found)
    (inr (allowed, subst (λ (a : ℕ). IsFault ks a new.fields c) t.moved h))
later k ks field old new fault.Memory allowed t h = tt

-- the fault is that of the field after one that is taken
pub later_here : (k next : Kind) (ks : List Kind) (field : List ℕ) (old new : Left) (f : LineFault) → Allows k field → Takes field old new
    → FaultAt (IsNotHere next) new f → IsFaultAt (k ∷ next ∷ ks) old f
later_here k next ks field old new f allowed t h = later k (next ∷ ks) field old new f allowed t (here next ks new f h)

no_word_after : {W : Type 0} (word : W → List ℕ) (after : W → ℕ → List (List ℕ) → ℕ → Type 0) (at : ℕ) (fs : List (List ℕ)) (c : ℕ)
    → IsNoWord word at fs c → IsFaultAfter word after at fs c
no_word_after word after at [] c h = h
no_word_after word after at (f ∷ fs) c h = inl h

-- a fault of the word is one of the line
pub at_word : {W : Type 0} (word : W → List ℕ) (after : W → ℕ → List (List ℕ) → ℕ → Type 0) (left : Left) (f : LineFault)
    → FaultAt (IsNoWord word) left f → FaultAt (IsFaultAfter word after) left f
at_word word after left (fault.Column c) h = no_word_after word after left.at left.fields c h
at_word word after left fault.Memory h = tt

-- the fault comes after a word that is taken
pub after_word : {W : Type 0} (word : W → List ℕ) (after : W → ℕ → List (List ℕ) → ℕ → Type 0) (w : W) (old new : Left) (f : LineFault)
    → Takes (word w) old new → FaultAt (after w) new f → FaultAt (IsFaultAfter word after) old f
after_word word after w old new (fault.Column c) t h =
    subst (λ (fs : List (List ℕ)). IsFaultAfter word after old.at fs c) (sym t.found)
    (inr (w, refl, subst (λ (a : ℕ). after w a new.fields c) t.moved h))
after_word word after w old new fault.Memory t h = tt

send_fault_here : (at : ℕ) (fs : List (List ℕ)) (c : ℕ) → IsNotHere Linked at fs c → IsSendFault at fs c
send_fault_here at [] c h = h
send_fault_here at (f ∷ fs) c h = inl h

-- a fault of the link is one of the send
pub at_link : (left : Left) (f : LineFault) → FaultAt (IsNotHere Linked) left f → FaultAt IsSendFault left f
at_link left (fault.Column c) h = send_fault_here left.at left.fields c h
at_link left fault.Memory h = tt

-- the fault comes after the link
pub after_link : (field : List ℕ) (old new : Left) (f : LineFault) → Allows Linked field → Takes field old new
    → FaultAt IsFlightFault new f → FaultAt IsSendFault old f
after_link field old new (fault.Column c) allowed t h =
    subst (λ (fs : List (List ℕ)). IsSendFault old.at fs c) (sym t.found)
    (inr (allowed, subst (λ (a : ℕ). IsFlightFault a new.fields c) t.moved h))
after_link field old new fault.Memory allowed t h = tt

-- the fault is that of the word after the link
pub after_link_at_word : (field : List ℕ) (old new : Left) (f : LineFault) → Allows Linked field → Takes field old new
    → FaultAt (IsNoWord carried_word) new f → FaultAt IsSendFault old f
after_link_at_word field old new f allowed t h = after_link field old new f allowed t (at_word carried_word AfterCarried new f h)
