-- The terminal's half of a bearer, put in its place.
use Rattle.std.proofs.Common.{ℕ, ◌≡◌, ◌<◌, ◌==◌, List, Some, length, sym, subst, inl, inr}
use Rattle.std.proofs.lemmas.Bool.{cases_Bool, eqb-true}
use Rattle.dc_base.specs.declared.events.Header.{Header}
use Rattle.dc_base.specs.declared.nodes.Node.TheVariants.{T}
use Rattle.master_runs.specs.Entities.{Entities, Table, bearer_in, with_bearer}
use Rattle.master_runs.proofs.Tables.{bearer_in-same, bearer_in-other}
use Rattle.node_rules.specs.Entity.{Entity}
use Rattle.node_rules.specs.Held.{held, holding}
use Rattle.master_runs.specs.Forms.{Leg, entity_as}
use Rattle.master_runs.specs.Same.{tags_of, SameHalf, a_half, SameTerminal}
use Rattle.master_runs.proofs.Holding.{held-same, held-other}

-- both terminals have another half of an identity from now on
pub halves_with : (h : Header) (table : Table) (halves : List (ℕ × Entity)) → SameTerminal h table halves → (id : ℕ) → id < length table
    → (e : Entities) (x : Leg) → e.bearer.id ≡ id → tags_of x ≡ e.sent
    → SameTerminal h (with_bearer table id (Some e)) (holding id (Some (entity_as h T e.bearer x e.tx e.rx)) halves)
halves_with h table halves same id small e x named tags k =
    let y = entity_as h T e.bearer x e.tx e.rx in
    let P : ℕ → Type 0 = λ k. SameHalf h k (bearer_in (with_bearer table id (Some e)) k) (held k (holding id (Some y) halves)) in
    elim (cases_Bool (id == k)) [
      | inl here ↦
          subst P (eqb-true id k here)
          (subst (λ o. SameHalf h id o (held id (holding id (Some y) halves))) (sym (bearer_in-same table id (Some e) small))
          (subst (SameHalf h id (Some e)) (sym (held-same id y halves)) (a_half e x named tags)))
      | inr apart ↦
          subst (λ o. SameHalf h k o (held k (holding id (Some y) halves))) (sym (bearer_in-other table id k (Some e) apart))
          (subst (SameHalf h k (bearer_in table k)) (sym (held-other id k y halves apart)) (same k))
    ]
