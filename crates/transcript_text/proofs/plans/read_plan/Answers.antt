use Rattle.std.proofs.Common.{◌≡◌, ℕ, List, ◌∷◌, refl, subst}
use Rattle.std.proofs.lemmas.Result.{err_from_is_err_and}
use Rattle.transcript_text.specs.Grammar.{Kind, Allows, MaybeNode, PlanItem, each, items, word_32}
use Rattle.transcript_text.specs.Places.{Left, Takes, IsFaultAt}
use Rattle.transcript_text.specs.declared.fault.LineFault.{LineFault}
use Rattle.transcript_text.proofs.Taking.{here, later, later_here}
use Rattle.transcript_text.proofs.plans.read_plan.Goals as goal

items_left : (old mid new : List (List ℕ)) (a b : List ℕ) → old ≡ a ∷ mid → mid ≡ b ∷ new → each PlanItem new ≡ items old
items_left old mid new a b first second = rw (first, second) refl

-- a fault of the items comes after the secondary node
later_items : (whole : List (List ℕ)) (field : List ℕ) (old new : Left) (f : LineFault) → Allows MaybeNode field → Takes field old new
    → each PlanItem new.fields ≡ items whole → IsFaultAt (each PlanItem new.fields) new f → IsFaultAt (MaybeNode ∷ items whole) old f
later_items whole field old new f allowed taken e h =
    later MaybeNode (items whole) field old new f allowed taken (subst (λ (ks : List Kind). IsFaultAt ks new f) e h)

pub returns-in_err-g-clause-fault : goal.returns-in_err-g-clause-fault
returns-in_err-g-clause-fault c =
    let p = err_from_is_err_and c.from_residual.result c.from_residual.ensures.1 in
    rw (p.1, p.2) (here word_32 (MaybeNode ∷ items c.args.fields.now.fields) c.args.fields.now _ c.in_err-g.ensures.fault)

pub returns-in_err-sec-clause-fault : goal.returns-in_err-sec-clause-fault
returns-in_err-sec-clause-fault c =
    let p = err_from_is_err_and c.from_residual-in_err-sec.result c.from_residual-in_err-sec.ensures.1 in
    rw (p.1, p.2)
    (later_here word_32 MaybeNode (items c.args.fields.now.fields) _ _ _ _ c.in_ok-g.ensures.allowed c.in_ok-g.ensures.taken
    c.in_err-sec.ensures.fault)

pub returns-in_err-items-clause-fault : goal.returns-in_err-items-clause-fault
returns-in_err-items-clause-fault c =
    let p = err_from_is_err_and c.from_residual-in_err-items.result c.from_residual-in_err-items.ensures.1 in
    rw (p.1, p.2)
    (later word_32 (MaybeNode ∷ items c.args.fields.now.fields) _ _ _ _ c.in_ok-g.ensures.allowed c.in_ok-g.ensures.taken
    (later_items c.args.fields.now.fields _ _ _ _ c.in_ok-sec.ensures.allowed c.in_ok-sec.ensures.taken
    (items_left _ _ _ _ _ c.in_ok-g.ensures.taken.found c.in_ok-sec.ensures.taken.found) c.in_err-items.ensures.fault))
