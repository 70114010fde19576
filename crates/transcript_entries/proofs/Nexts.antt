-- What one call of the reader of lines gives.
use Rattle.std.proofs.Common.{Bool, false, true, ℕ, ◌≡◌, ◌+◌, List, [], ◌∷◌, Option, Some, None, refl, sym, ap, ◌∙◌, subst}
use Rattle.std.specs.Prelude.{IfNone, IfSome}
use Rattle.std.specs.Io.KnownBytes.{IsAtEnd}
use Rattle.dc_text.specs.Lines.{GivesLine, span, taken_by}
use Rattle.transcript_entries.specs.Lines.{Ahead, HaveRead}
use Rattle.transcript_entries.proofs.Joining.{read_one}

-- a line, if one came
pub line_came : (found : Option (List ℕ)) (a b : Ahead) → IfSome found (λ line. GivesLine a.octets b.octets line)
    → IfSome found (λ _. IfSome a.octets (λ os. b.passed ≡ a.passed + span os)) → IfSome found (λ line. IfSome a.octets (λ os. span os ≡ taken_by line b.ended))
    → IfSome found (λ line. HaveRead a (line ∷ []) b)
line_came None a b gives counted ends = tt
line_came (Some line) a b gives counted ends = read_one a b line gives counted ends

-- the end, if none came
pub end_came : (found : Option (List ℕ)) (over : Bool) (o n : Option (List ℕ)) → (over ≡ false → IfNone found (IsAtEnd o × IsAtEnd n)) → (over ≡ true → n ≡ o)
    → (over ≡ true → IsAtEnd o) → IfNone found (IsAtEnd o × IsAtEnd n)
end_came found false o n open_still same settled = open_still refl
end_came None true o n open_still same settled = (settled refl, subst IsAtEnd (sym (same refl)) (settled refl))
end_came (Some line) true o n open_still same settled = tt
