-- A leg of which something is confirmed.
use Rattle.std.proofs.Common.{ℕ, zero, suc, ◌≡◌, ◌+◌, ◌++◌, true, false, List, [], ◌∷◌, Option, Some, None, length, slice_get, refl, sym, ap, subst, ◌∙◌, inl, inr, append_assoc}
use Rattle.std.specs.Prelude.{fold, map, slice_set}
use Rattle.std.specs.List.{AllByRecursion}
use Rattle.std.proofs.lemmas.Bool.{cases_Bool}
use Rattle.std.proofs.lemmas.List.{length-map, map-append, append-nil}
use Rattle.pdcp_tx.specs.Sender.{Entry, is_kept}
use Rattle.split_leg.specs.declared.leg.Pdu.{Pdu}
use Rattle.split_leg.specs.Legs.{is_settled_by, set_acked, settle, settle_all, settled_on_both}
use Rattle.master_runs.specs.Forms.{Leg, legs_as, one_more, all_more}
use Rattle.master_runs.specs.Same.{tags_of, IsGone, IsConfirmed}

-- ---- more PDUs

-- the COUNTs of what was put there, and of these
pub tags-more : (x : Leg) (ps : List (Option ℕ × List ℕ)) → tags_of (all_more x ps) ≡ tags_of x ++ map (λ p. p.0) ps
tags-more x [] = sym (append-nil _)
tags-more x (p ∷ ps) =
    tags-more (one_more x p) ps
    ∙ ap (λ ts. ts ++ map (λ p. p.0) ps) (map-append (λ (p : Pdu). p.count) x.pdus _)
    ∙ append_assoc (tags_of x) (p.0 ∷ []) (map (λ p. p.0) ps)

-- there are as many
pub many_same : (x : Leg) (sent : List (Option ℕ)) → tags_of x ≡ sent → length x.pdus ≡ length sent
many_same x sent tags = sym (length-map x.pdus (λ p. p.count)) ∙ ap (λ (ts : List (Option ℕ)). length ts) tags

-- ---- COUNTs that are confirmed

-- the leg after it
abbrev pub settled : Leg → List ℕ → Leg
settled x [] = x
settled x (c ∷ cs) = settled (record x { pdus = map (settle c (c + 1)) x.pdus; other = settle_all c (c + 1) x.other }) cs

-- as a node does it
pub settled_legs : (x : Leg) (cs : List ℕ) → fold (λ legs c. settled_on_both c (c + 1) legs) (legs_as x) cs ≡ legs_as (settled x cs)
settled_legs x [] = refl
settled_legs x (c ∷ cs) = settled_legs (record x { pdus = map (settle c (c + 1)) x.pdus; other = settle_all c (c + 1) x.other }) cs

-- a PDU keeps its COUNT and its ack
settle_count : (a b : ℕ) (p : Pdu) → (settle a b p).count ≡ p.count
settle_count a b p = elim (cases_Bool (is_settled_by a b p)) [ inl yes' ↦ rw yes' refl | inr no' ↦ rw no' refl ]

settle_acked : (a b : ℕ) (p : Pdu) → (settle a b p).acked ≡ p.acked
settle_acked a b p = elim (cases_Bool (is_settled_by a b p)) [ inl yes' ↦ rw yes' refl | inr no' ↦ rw no' refl ]

settle_tags : (a b : ℕ) (ps : List Pdu) → map (λ (p : Pdu). p.count) (map (settle a b) ps) ≡ map (λ (p : Pdu). p.count) ps
settle_tags a b [] = refl
settle_tags a b (p ∷ ps) = ap (λ c. c ∷ map (λ (p : Pdu). p.count) (map (settle a b) ps)) (settle_count a b p) ∙ ap (λ cs. p.count ∷ cs) (settle_tags a b ps)

pub tags-settled : (x : Leg) (cs : List ℕ) → tags_of (settled x cs) ≡ tags_of x
tags-settled x [] = refl
tags-settled x (c ∷ cs) = tags-settled (record x { pdus = map (settle c (c + 1)) x.pdus; other = settle_all c (c + 1) x.other }) cs ∙ settle_tags c (c + 1) x.pdus

settle_confirmed : (kept : List Entry) (a b : ℕ) (ps : List Pdu) → AllByRecursion (IsConfirmed kept) ps → AllByRecursion (IsConfirmed kept) (map (settle a b) ps)
settle_confirmed kept a b [] all = tt
settle_confirmed kept a b (p ∷ ps) all =
    ((λ is. subst (IsGone kept) (sym (settle_count a b p)) (all.0 (sym (settle_acked a b p) ∙ is))), settle_confirmed kept a b ps all.1)

pub confirmed-settled : (kept : List Entry) (x : Leg) (cs : List ℕ) → AllByRecursion (IsConfirmed kept) x.pdus → AllByRecursion (IsConfirmed kept) (settled x cs).pdus
confirmed-settled kept x [] all = all
confirmed-settled kept x (c ∷ cs) all =
    confirmed-settled kept (record x { pdus = map (settle c (c + 1)) x.pdus; other = settle_all c (c + 1) x.other }) cs (settle_confirmed kept c (c + 1) x.pdus all)

-- ---- an ack

-- the leg after it
abbrev pub acked_in : Leg → ℕ → Leg
acked_in x num = record x { pdus = set_acked x.pdus num (slice_get x.pdus num) }

-- what has another at a place, with the same COUNT, has the same COUNTs
set_tags : (ps : List Pdu) (num : ℕ) (p : Pdu) → slice_get ps num ≡ Some p → map (λ (p : Pdu). p.count) (slice_set ps num (record p { acked = true })) ≡ map (λ (p : Pdu). p.count) ps
set_tags [] num p at = refl
set_tags (q ∷ ps) zero p at = let same : q ≡ p = cc in ap (λ (r : Pdu). r.count ∷ map (λ (p : Pdu). p.count) ps) (sym same)
set_tags (q ∷ ps) (suc num) p at = ap (λ cs. q.count ∷ cs) (set_tags ps num p at)

pub tags-acked : (x : Leg) (num : ℕ) → tags_of (acked_in x num) ≡ tags_of x
tags-acked x num = go (slice_get x.pdus num) refl
  where
    go : (o : Option Pdu) → slice_get x.pdus num ≡ o → map (λ (p : Pdu). p.count) (set_acked x.pdus num o) ≡ tags_of x
    go None at = refl
    go (Some p) at = set_tags x.pdus num p at

-- what is kept no more is kept no less
pub confirmed_fewer : (kept kept' : List Entry) → ((c : ℕ) → is_kept kept c ≡ false → is_kept kept' c ≡ false) → (ps : List Pdu)
    → AllByRecursion (IsConfirmed kept) ps → AllByRecursion (IsConfirmed kept') ps
confirmed_fewer kept kept' fewer [] all = tt
confirmed_fewer kept kept' fewer (p ∷ ps) all = ((λ is. gone p.count (all.0 is)), confirmed_fewer kept kept' fewer ps all.1)
  where
    gone : (o : Option ℕ) → IsGone kept o → IsGone kept' o
    gone None was = was
    gone (Some c) was = fewer c was

-- one that is acked is to be gone
pub confirmed-acked : (kept : List Entry) (ps : List Pdu) (num : ℕ) (p : Pdu) → slice_get ps num ≡ Some p → IsGone kept p.count
    → AllByRecursion (IsConfirmed kept) ps → AllByRecursion (IsConfirmed kept) (slice_set ps num (record p { acked = true }))
confirmed-acked kept [] num p at gone all = tt
confirmed-acked kept (q ∷ ps) zero p at gone all = ((λ is. gone), all.1)
confirmed-acked kept (q ∷ ps) (suc num) p at gone all = (all.0, confirmed-acked kept ps num p at gone all.1)
