-- The fields of an event, read as a line of a script.
use Rattle.std.proofs.Common.{◌≡◌, ◌==◌, ℕ, ◌+◌, ◌<◌, ◌≤◌, List, [], ◌∷◌, length, Bool, true, false, refl, sym, ap, subst, ◌∙◌, inl, inr, arith}
use Rattle.std.specs.Prelude.{if◌then◌else◌}
use Rattle.std.proofs.lemmas.List.Splits.{length-slice_split, join_with_byte-slice_split}
use Rattle.dc_base.specs.declared.events.Event.{Event}
use Rattle.transcript.specs.Words.{spaced}
use Rattle.script_text.specs.Grammar.{IsColumn, IsFaultOf}
use Rattle.script_text.specs.Scripts.{IsLineOf, event_fields}
use Rattle.script_text.specs.declared.scripted.Scripted.TheVariants.{One}
use Rattle.script_text.proofs.Outside.{fields-event_text}
use Rattle.transcript_text.specs.Grammar.{IsEventFault, parts}
use Rattle.transcript_text.specs.Places.{has_any}

-- a text has a part
pub has_a_part : (s : ℕ) (text : List ℕ) (fs : List (List ℕ)) → fs ≡ parts s text → has_any fs ≡ true
has_a_part s text [] e =
    let one = length-slice_split (λ o. o == s) text in
    let none : 0 ≡ length (parts s text) = ap length e in
    absurd (omega (arith, one, none))
has_a_part s text (f ∷ fs) e = refl

-- whether a part is left
pub any_left : (b : Bool) (fs : List (List ℕ)) → has_any fs ≡ true → b ≡ has_any (if b then fs else [])
any_left true fs h = sym h
any_left false fs h = refl

text_is : (text f : List ℕ) (fs : List (List ℕ)) → f ∷ fs ≡ parts 32 text → text ≡ spaced (f ∷ fs)
text_is text f fs e = sym (join_with_byte-slice_split 32 text) ∙ ap spaced (sym e)

-- a line that is too long
pub long_fault : (fs : List (List ℕ)) (text : List ℕ) (at c : ℕ) → fs ≡ parts 32 text → 20000 < length text → c ≡ at + 20001 → IsEventFault at fs c
long_fault [] text at c e h is = let some = has_a_part 32 text [] e in cc
long_fault (f ∷ fs) text at c e h is = inl (subst (λ (t : List ℕ). 20000 < length t) (text_is text f fs e) h, is)

-- a line that is no script's
pub event_fault : (fs : List (List ℕ)) (text : List ℕ) (at d c : ℕ) → fs ≡ parts 32 text → length text ≤ 20000 → IsColumn text d → c ≡ at + d → IsEventFault at fs c
event_fault [] text at d c e h bad is = let some = has_a_part 32 text [] e in cc
event_fault (f ∷ fs) text at d c e h bad is =
    inr (subst (λ (t : List ℕ). length t ≤ 20000) (text_is text f fs e) h, inl (d, subst (λ (l : List (List ℕ)). IsFaultOf l d) (sym e) bad, is))

-- the fields of an event that was read
pub event_read : (e : Event) (text : List ℕ) (fs : List (List ℕ)) → IsLineOf (One e) text → fs ≡ parts 32 text → event_fields e ≡ fs
event_read e text fs is cut = sym (cut ∙ (ap (parts 32) is.1 ∙ fields-event_text e is.0))
