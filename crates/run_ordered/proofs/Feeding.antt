-- What comes first on the core's line to a secondary node, and what the node makes of it for one bearer.
use Rattle.std.proofs.Common.{Bool, List, [], false, refl, sym, subst, ap, arith, true, ℕ, inl, inr, ◌++◌, ◌<◌, ◌≡◌, ◌≤◌, ◌∙◌, ◌∷◌, append_assoc}
use Rattle.std.specs.Prelude.{if◌then◌else◌, nat_lt, ◌&&◌, ◌==◌}
use Rattle.std.proofs.lemmas.Bool.{cases_lt, eq-eqb, le-leb, lt-leb, lt-ltb, ltb-false, ltb-true}
use Rattle.std.proofs.lemmas.List.{append-nil}
use Rattle.dc_base.specs.declared.flights.Flight.{Flight}
use Rattle.dc_base.specs.declared.flights.Flight.TheVariants as flight
use Rattle.node_rules.specs.Anchor.{Active, AnchorState, Waiting, active_anchor, silent, waiting_anchor}
use Rattle.node_rules.specs.AnchorSending.{submit, submit_at}
use Rattle.node_rules.specs.Choices.{Choices, Send}
use Rattle.node_rules.specs.Feed.{Fed, Frozen, frozen_sdu_in, sdu_in}
use Rattle.node_rules.specs.Freezing.{forward_fresh}
use Rattle.node_rules.specs.declared.bearers.AnchorOut.{AnchorOut}
use Rattle.pdcp_tx.specs.Sender.{Sender}
use Rattle.pdcp_tx.specs.Sending.{hold_sdu}
use Rattle.run_receivers.specs.Submitted.{Submitted}
use Rattle.run_ordered.specs.Feeds.{sdus_of}
use Rattle.run_ordered.specs.Fronts.{HasFront, IsFront}
use Rattle.run_ordered.proofs.Fronts.{held_front, submit_front}

-- ---- what stands first

-- an SDU of the establishment
pub first_is : (est id g : ℕ) (p : List ℕ) (line : List Flight) → est ≤ g → sdus_of est id (flight.Sdu id g p ∷ line) ≡ p ∷ sdus_of est id line
first_is est id g p line le = rw (eq-eqb id id refl, le-leb est g le) refl

-- one of an earlier one
pub first_older : (est id g : ℕ) (p : List ℕ) (line : List Flight) → g < est → sdus_of est id (flight.Sdu id g p ∷ line) ≡ sdus_of est id line
first_older est id g p line less = rw (eq-eqb id id refl, lt-leb est g less) refl

-- one of another identity
pub first_other : (est id i g : ℕ) (p : List ℕ) (line : List Flight) → (i == id) ≡ false → sdus_of est id (flight.Sdu i g p ∷ line) ≡ sdus_of est id line
first_other est id i g p line apart = rw apart refl

module _ (u : Submitted) (est id : ℕ) where
  -- ---- an anchor that takes SDUs from the core

  -- it is active, with such a sending entity
  pub record HasTaken (rest : List (List ℕ)) (s : AnchorState) : Type 0 where
    pub anchor : Active
    pub is : s ≡ active_anchor anchor
    pub front : HasFront u rest anchor

  -- an SDU comes to it
  pub sdu_taken : (c : Choices) (x : Fed) (a : Active) (g : ℕ) (p : List ℕ) (line : List Flight) (later : List (List ℕ)) → x.anchor ≡ active_anchor a → est ≤ x.since → (est ≤ g → x.since ≤ g)
      → HasFront u (sdus_of est id (flight.Sdu id g p ∷ line) ++ later) a → HasTaken (sdus_of est id line ++ later) (sdu_in c x g p).0.anchor
  sdu_taken c x a g p line later at from since front = by (nat_lt g x.since) refl
    where
      by : (t : Bool) → nat_lt g x.since ≡ t
          → HasTaken (sdus_of est id line ++ later) (if◌then◌else◌ {A = Fed × AnchorOut} t (x, silent) (record x { anchor = (submit c x.anchor p).0 }, (submit c x.anchor p).1)).0.anchor
      by true old =
          let less = ltb-true g x.since old in
          elim (cases_lt g est) [
            | inl older ↦ record { anchor = a; is = at; front = subst (λ xs. HasFront u (xs ++ later) a) (first_older est id g p line older) front }
            | inr le ↦ absurd (let le' = since le in omega (arith, less, le'))
          ]
      by false now =
          let le = ltb-false g x.since now in
          let front' : HasFront u (p ∷ (sdus_of est id line ++ later)) a = subst (λ xs. HasFront u (xs ++ later) a) (first_is est id g p line (omega (arith, from, le))) front in
          record { anchor = (submit_at a.is_open c a p).0; is = ap (λ s. (submit c s p).0) at; front = submit_front u c (sdus_of est id line ++ later) p a front' }

  -- what came to an anchor that waits, and what is to come, is as it was
  pub sdu_gathered : (c : Choices) (x : Fed) (w : Waiting) (g : ℕ) (p : List ℕ) (line : List Flight) → x.anchor ≡ waiting_anchor w → est ≤ x.since → (est ≤ g → x.since ≤ g)
      → (more : List (List ℕ)) × ((sdu_in c x g p).0.anchor ≡ waiting_anchor (record w { fresh = w.fresh ++ more })) × ((w.fresh ++ more) ++ sdus_of est id line ≡ w.fresh ++ sdus_of est id (flight.Sdu id g p ∷ line))
  sdu_gathered c x w g p line at from since = by (nat_lt g x.since) refl
    where
      Goal : AnchorState → Type 0
      Goal s = (more : List (List ℕ)) × (s ≡ waiting_anchor (record w { fresh = w.fresh ++ more })) × ((w.fresh ++ more) ++ sdus_of est id line ≡ w.fresh ++ sdus_of est id (flight.Sdu id g p ∷ line))

      by : (t : Bool) → nat_lt g x.since ≡ t → Goal (if◌then◌else◌ {A = Fed × AnchorOut} t (x, silent) (record x { anchor = (submit c x.anchor p).0 }, (submit c x.anchor p).1)).0.anchor
      by true old =
          let less = ltb-true g x.since old in
          elim (cases_lt g est) [
            | inl older ↦ (
              [],
              at ∙ ap (λ xs. waiting_anchor (record w { fresh = xs })) (sym (append-nil w.fresh)),
              append_assoc w.fresh [] (sdus_of est id line) ∙ ap (λ xs. w.fresh ++ xs) (sym (first_older est id g p line older)),
            )
            | inr le ↦ absurd (let le' = since le in omega (arith, less, le'))
          ]
      by false now =
          let le = ltb-false g x.since now in (
            p ∷ [],
            ap (λ s. (submit c s p).0) at,
            append_assoc w.fresh (p ∷ []) (sdus_of est id line) ∙ ap (λ xs. w.fresh ++ xs) (sym (first_is est id g p line (omega (arith, from, le)))),
          )

  -- ---- a frozen anchor

  -- what it forwards then
  pub data HasForwarded (rest : List (List ℕ)) (tx : Sender) (f : Frozen) (p : List ℕ) (done : Frozen × List Send) : Type 0 where
    older : (same : done ≡ (f, [])) → (front : IsFront u rest false tx) → HasForwarded rest tx f p done
    forwarded : (same : done ≡ (record f { tunnel = (forward_fresh f.tunnel p).0 }, (forward_fresh f.tunnel p).1)) → (front : IsFront u rest false (hold_sdu tx p)) → HasForwarded rest tx f p done

  pub sdu_forwarded : (f : Frozen) (tx : Sender) (g : ℕ) (p : List ℕ) (line : List Flight) (later : List (List ℕ)) → est ≤ f.since → (est ≤ g → f.since ≤ g) → (est ≤ g → g < f.tunnel.g)
      → IsFront u (sdus_of est id (flight.Sdu id g p ∷ line) ++ later) false tx → HasForwarded (sdus_of est id line ++ later) tx f p (frozen_sdu_in f g p)
  sdu_forwarded f tx g p line later from since before front =
      elim (cases_lt g est) [
        | inl older' ↦ older
            (ap (λ b. if◌then◌else◌ {A = Frozen × List Send} (b && nat_lt g f.tunnel.g) (record f { tunnel = (forward_fresh f.tunnel p).0 }, (forward_fresh f.tunnel p).1) (f, [])) (lt-leb f.since g (omega (arith, older', from))))
            (subst (λ xs. IsFront u (xs ++ later) false tx) (first_older est id g p line older') front)
        | inr le ↦ forwarded
            (ap (λ b. if◌then◌else◌ {A = Frozen × List Send} (b && nat_lt g f.tunnel.g) (record f { tunnel = (forward_fresh f.tunnel p).0 }, (forward_fresh f.tunnel p).1) (f, [])) (le-leb f.since g (since le))
            ∙ ap (λ b. if◌then◌else◌ {A = Frozen × List Send} b (record f { tunnel = (forward_fresh f.tunnel p).0 }, (forward_fresh f.tunnel p).1) (f, [])) (lt-ltb g f.tunnel.g (before le)))
            (held_front u (sdus_of est id line ++ later) p tx (subst (λ xs. IsFront u (xs ++ later) false tx) (first_is est id g p line le) front))
      ]
