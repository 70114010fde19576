-- What one more entry, and a list of them, adds to what a transcript says.
use Rattle.std.proofs.Common.{◌≡◌, ◌++◌, List, [], ◌∷◌, sym, ap, ◌∙◌, subst, inl, inr, append_assoc}
use Rattle.std.proofs.lemmas.List.{append-nil}
use Rattle.std.proofs.lemmas.List.Sums.{fold-append}
use Rattle.dc_base.specs.declared.nodes.LinkId.{LinkId}
use Rattle.transcript.specs.Transcript.{Entry, gathered_from, gathered, EachFrom, Each, SomeFrom, SomeEntry}
use Rattle.transcript.specs.Content.{content, content_after}

module _ {A : Type 0} (f : List Entry → Entry → List A) where
  pub gathered_from-append : (before es fs : List Entry) → gathered_from f before (es ++ fs) ≡ gathered_from f before es ++ gathered_from f (before ++ es) fs
  gathered_from-append before [] fs = ap (λ b. gathered_from f b fs) (sym (append-nil before))
  gathered_from-append before (e ∷ es) fs =
      let rest = gathered_from-append (before ++ e ∷ []) es fs in
      let same : gathered_from f ((before ++ e ∷ []) ++ es) fs ≡ gathered_from f (before ++ e ∷ es) fs = ap (λ b. gathered_from f b fs) (append_assoc before (e ∷ []) es) in
      ap (λ xs. f before e ++ xs) (rest ∙ ap (λ xs. gathered_from f (before ++ e ∷ []) es ++ xs) same)
      ∙ sym (append_assoc (f before e) (gathered_from f (before ++ e ∷ []) es) (gathered_from f (before ++ e ∷ es) fs))

  -- one more entry
  pub gathered-next : (t : List Entry) (e : Entry) → gathered f (t ++ e ∷ []) ≡ gathered f t ++ f t e
  gathered-next t e = gathered_from-append [] t (e ∷ []) ∙ ap (λ xs. gathered f t ++ xs) (append-nil (f t e))

module _ (P : List Entry → Entry → Type 0) where
  pub EachFrom-append : (before es fs : List Entry) → EachFrom P before es → EachFrom P (before ++ es) fs → EachFrom P before (es ++ fs)
  EachFrom-append before [] fs all more = subst (λ b. EachFrom P b fs) (append-nil before) more
  EachFrom-append before (e ∷ es) fs all more =
      (all.0, EachFrom-append (before ++ e ∷ []) es fs all.1 (subst (λ b. EachFrom P b fs) (sym (append_assoc before (e ∷ []) es)) more))

  pub Each-next : (t : List Entry) (e : Entry) → Each P t → P t e → Each P (t ++ e ∷ [])
  Each-next t e all one = EachFrom-append [] t (e ∷ []) all (one, tt)

  -- what holds of some entry does so when more come
  pub SomeFrom-later : (before es fs : List Entry) → SomeFrom P before es → SomeFrom P before (es ++ fs)
  SomeFrom-later before [] fs some = absurd some
  SomeFrom-later before (e ∷ es) fs some = elim some [ inl here ↦ inl here | inr there ↦ inr (SomeFrom-later (before ++ e ∷ []) es fs there) ]

  pub SomeFrom-last : (before es : List Entry) (e : Entry) → P (before ++ es) e → SomeFrom P before (es ++ e ∷ [])
  SomeFrom-last before [] e one = inl (subst (λ b. P b e) (append-nil before) one)
  SomeFrom-last before (x ∷ es) e one = inr (SomeFrom-last (before ++ x ∷ []) es e (subst (λ b. P b e) (sym (append_assoc before (x ∷ []) es)) one))

  pub SomeEntry-later : (t : List Entry) (e : Entry) → SomeEntry P t → SomeEntry P (t ++ e ∷ [])
  SomeEntry-later t e some = SomeFrom-later [] t (e ∷ []) some

  pub SomeEntry-last : (t : List Entry) (e : Entry) → P t e → SomeEntry P (t ++ e ∷ [])
  SomeEntry-last t e one = SomeFrom-last [] t e one

pub content-next : (l : LinkId) (t : List Entry) (e : Entry) → content l (t ++ e ∷ []) ≡ content_after l (content l t) e
content-next l t e = fold-append (content_after l) [] t (e ∷ [])
