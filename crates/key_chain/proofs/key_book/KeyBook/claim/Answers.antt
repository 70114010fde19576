use Rattle.std.proofs.Common.{◌≡◌, ◌++◌, [], ◌∷◌, true, false, not, List, subst, sym, ap, ◌∙◌, rules, ℕ}
use Rattle.indexmap.proofs.CallerLemmas.{insert_entry-new}
use Rattle.key_chain.specs.declared.key_book.KeyOfId.{KeyOfId}
use Rattle.key_chain.specs.declared.key_book.KeyErr.TheVariants.{IdSpent}
use Rattle.key_chain.specs.Book.{Book, Claim, HasOneClaimant, is_spent}
use Rattle.key_chain.specs.BookOfMaps.{book_of, claims_of}
use Rattle.key_chain.proofs.Books.{only_memory, other_number, same_number, with_claim-again, with_claim-new}
use Rattle.key_chain.proofs.Claims.{HasOneClaimant-new, is_claimed-found, is_equal, is_spent-found}
use Rattle.key_chain.proofs.key_book.KeyBook.claim.Goals as goal

pub returns-in-Some-clause-spent : goal.returns-in-Some-clause-spent
returns-in-Some-clause-spent c =
    let what : KeyOfId = record { id = c.args.id; key = c.args.key.now } in
    let spent : is_spent c.args.self.now.claims c.args.id c.args.est c.args.key.now ≡ true =
    rw (← c.self.view_is)
    (is_spent-found what c.args.est c.self.inside.claims.entries c.self.invariant.1 _ c.in-Some.ensures.value ∙ other_number _ _ c.if-claimant-est.true) in
    (λ _. spent, λ _. search rules)

pub returns-in-Some-2-clause-spent : goal.returns-in-Some-2-clause-spent
returns-in-Some-2-clause-spent c =
    let what : KeyOfId = record { id = c.args.id; key = c.args.key.now } in
    let spent : is_spent c.args.self.now.claims c.args.id c.args.est c.args.key.now ≡ false =
    rw (← c.self.view_is)
    (is_spent-found what c.args.est c.self.inside.claims.entries c.self.invariant.1 _ c.in-Some.ensures.value ∙ ap not (same_number _ _ c.if-claimant-est.false)) in
    (λ is. absurd cc, λ is. absurd cc)

pub returns-in-Some-2-clause-ok : goal.returns-in-Some-2-clause-ok
returns-in-Some-2-clause-ok c =
    let what : KeyOfId = record { id = c.args.id; key = c.args.key.now } in
    let book : Book = book_of c.self.inside.roots.entries c.self.inside.current c.self.inside.claims.entries in
    let stands = is_claimed-found what c.args.est c.self.inside.claims.entries c.self.invariant.1 _ c.in-Some.ensures.value ∙ same_number _ _ c.if-claimant-est.false in
    rw (← c.self.view_is)
    (ap (λ (cs : List Claim). record book { claims = cs }) (with_claim-again c.self.inside.claims.entries what c.args.est stands))

pub returns-in_err-insert-in-None-clause-spent : goal.returns-in_err-insert-in-None-clause-spent
returns-in_err-insert-in-None-clause-spent c =
    let what : KeyOfId = record { id = c.args.id; key = c.args.key.now } in
    let spent : is_spent c.args.self.now.claims c.args.id c.args.est c.args.key.now ≡ false =
    rw (← c.self.view_is)
    (is_spent-found what c.args.est c.self.inside.claims.entries c.self.invariant.1 _ c.in-None.ensures.value) in
    (λ is. absurd (only_memory c.from_residual.result IdSpent (λ e. absurd cc) c.from_residual.ensures.1 is), λ is. absurd cc)

pub returns-in_ok-insert-in-None-clause-spent : goal.returns-in_ok-insert-in-None-clause-spent
returns-in_ok-insert-in-None-clause-spent c =
    let what : KeyOfId = record { id = c.args.id; key = c.args.key.now } in
    let spent : is_spent c.args.self.now.claims c.args.id c.args.est c.args.key.now ≡ false =
    rw (← c.self.view_is)
    (is_spent-found what c.args.est c.self.inside.claims.entries c.self.invariant.1 _ c.in-None.ensures.value) in
    (λ is. absurd cc, λ is. absurd cc)

pub returns-in_ok-insert-in-None-clause-ok : goal.returns-in_ok-insert-in-None-clause-ok
returns-in_ok-insert-in-None-clause-ok c =
    let what : KeyOfId = record { id = c.args.id; key = c.args.key.now } in
    let book : Book = book_of c.self.inside.roots.entries c.self.inside.current c.self.inside.claims.entries in
    let new = is_claimed-found what c.args.est c.self.inside.claims.entries c.self.invariant.1 _ c.in-None.ensures.value in
    let entries = c.in_ok-insert-in-None.ensures.entries ∙ insert_entry-new is_equal c.self.inside.claims what c.args.est (sym c.in-None.ensures.value) in
    rw (← c.self.view_is)
    (ap (λ (cs : List Claim). record book { claims = cs }) (with_claim-new c.self.inside.claims.entries _ what c.args.est entries new))

pub returns-in_ok-insert-in-None-clause-one : goal.returns-in_ok-insert-in-None-clause-one
returns-in_ok-insert-in-None-clause-one c =
    let what : KeyOfId = record { id = c.args.id; key = c.args.key.now } in
    let entries = c.in_ok-insert-in-None.ensures.entries ∙ insert_entry-new is_equal c.self.inside.claims what c.args.est (sym c.in-None.ensures.value) in
    subst (λ (es : List (KeyOfId × ℕ)). HasOneClaimant (claims_of es)) (sym entries)
    (HasOneClaimant-new what c.args.est c.self.inside.claims.entries c.self.invariant.1 (sym c.in-None.ensures.value))

pub invariant_of-self-in-None : goal.invariant_of-self-in-None
invariant_of-self-in-None c =
    let what : KeyOfId = record { id = c.args.id; key = c.args.key.now } in
    let entries = c.in_ok-insert-in-None.ensures.entries ∙ insert_entry-new is_equal c.self.inside.claims what c.args.est (sym c.in-None.ensures.value) in (
      c.self.invariant.0,
      subst (λ (es : List (KeyOfId × ℕ)). HasOneClaimant (claims_of es)) (sym entries)
          (HasOneClaimant-new what c.args.est c.self.inside.claims.entries c.self.invariant.1 (sym c.in-None.ensures.value)),
    )
