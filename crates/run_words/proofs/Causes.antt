-- The answer of a step, a loss and a copy is the one that the claims find due.
use Rattle.std.proofs.Common.{ℕ, ◌≡◌, ◌==◌, Bool, true, [], ◌∷◌, Option, Some, None, slice_get, refl, sym, ap, ◌∙◌, inl, inr}
use Rattle.std.specs.Prelude.{is_none, nat_lt, not, ◌&&◌, ⊤}
use Rattle.std.specs.Option.{option_map}
use Rattle.std.proofs.lemmas.Bool.{cases_Bool, eq-eqb}
use Rattle.dc_base.specs.Links.{class_number, is_ordered}
use Rattle.dc_base.specs.declared.answers.Answer.{Answer}
use Rattle.dc_base.specs.declared.answers.Answer.TheVariants as answer
use Rattle.dc_base.specs.declared.answers.Refusal.TheVariants as refusal
use Rattle.dc_base.specs.declared.events.Event.TheVariants as event
use Rattle.dc_base.specs.declared.flights.Flight.{Flight}
use Rattle.dc_base.specs.declared.nodes.Class.{Class}
use Rattle.dc_base.specs.declared.nodes.Class.TheVariants.{Air, Ctl, Feed, Tun}
use Rattle.dc_base.specs.declared.nodes.LinkId.{LinkId}
use Rattle.dc_base.specs.declared.nodes.Node.TheVariants.{A, B, M, T}
use Rattle.dc_base.specs.declared.nodes.Node.{Node}
use Rattle.claims.specs.Causes.{first_of_them, has_cause, is_aged, step_due}
use Rattle.claims.specs.Links.{find_at}
use Rattle.claims.specs.Past.{Past}
use Rattle.claims.specs.Sameness.{answer_number, is_same_answer}
use Rattle.node_rules.specs.Choices.{Choices}
use Rattle.node_rules.specs.Flights.{weight}
use Rattle.node_rules.specs.Readers.{is_aged_for}
use Rattle.node_rules.specs.Run.{carried_on, copy_of, in_tunnel, loss_of, node_at, step_of, takes, world_step}
use Rattle.node_rules.specs.World.{World, flights_on}
use Rattle.node_rules.specs.declared.inputs.Input.TheVariants.{Come}
use Rattle.run_words.specs.Standing.{StandsAs}
use Rattle.run_words.proofs.Standing.{found_standing}

-- equal answers are the same by the test
same_answer : (a b : Answer) → a ≡ b → is_same_answer a b ≡ true
same_answer a b is = eq-eqb (answer_number a) (answer_number b) (ap answer_number is)

-- what is there stays so with its link
abbrev with_link : LinkId → Option Flight → Option (LinkId × Flight)
with_link l o = option_map (λ f. (l, f)) o

none_with : (l : LinkId) (o : Option Flight) → is_none (with_link l o) ≡ is_none o
none_with l None = refl
none_with l (Some f) = refl

-- ---- a loss and a copy

-- the answer to both, by the class of the link and the flight at the place
abbrev tunnel_answer : Class → Bool → Answer
tunnel_answer k none = first_of_them ((not (class_number k == class_number Tun), refusal.NotTunnel) ∷ (none, refusal.NoFlight) ∷ [])

lose_answer : (c : Choices) (v : World) (k : Class) (o : Option Flight) → (carried_on c v (in_tunnel k (loss_of o))).1.answer ≡ tunnel_answer k (is_none o)
lose_answer c v Ctl o = refl
lose_answer c v Feed o = refl
lose_answer c v Air o = refl
lose_answer c v Tun None = refl
lose_answer c v Tun (Some f) = refl

copy_answer : (c : Choices) (v : World) (l : LinkId) (k : Class) (o : Option Flight) → (carried_on c v (in_tunnel k (copy_of l o))).1.answer ≡ tunnel_answer k (is_none o)
copy_answer c v l Ctl o = refl
copy_answer c v l Feed o = refl
copy_answer c v l Air o = refl
copy_answer c v l Tun None = refl
copy_answer c v l Tun (Some f) = refl

module _ (c : Choices) (v : World) (p : Past) (same : StandsAs p v) (l : LinkId) (i : ℕ) where
  abbrev here : Option Flight
  here = slice_get (flights_on l v.links) i

  none_found : is_none here ≡ is_none (find_at l i p.standing)
  none_found = sym (ap is_none (found_standing p v same l i) ∙ none_with l here)

  -- a loss is answered as it is due
  pub lose_cause : has_cause p (world_step c v (event.Lose l i)).1 ≡ true
  lose_cause = same_answer _ _ (lose_answer c v l.class here ∙ ap (tunnel_answer l.class) none_found)

  -- and so is a copy
  pub copy_cause : has_cause p (world_step c v (event.Again l i)).1 ≡ true
  copy_cause = same_answer _ _ (copy_answer c v l l.class here ∙ ap (tunnel_answer l.class) none_found)

-- ---- a step

-- a flight that is given is answered ok
takes_ok : (c : Choices) (v : World) (l : LinkId) (f : Flight) (x : Node) → (takes c v (Come l f) x).1.answer ≡ answer.Ok
takes_ok c v l f T = refl
takes_ok c v l f M = refl
takes_ok c v l f A = refl
takes_ok c v l f B = refl

-- the answer to a step with this flight at the place
abbrev given_answer : Bool → Bool → Answer
given_answer behind aged = first_of_them ((behind, refusal.NotFirst) ∷ (aged, refusal.Aged) ∷ [])

step_answer : (c : Choices) (v : World) (l : LinkId) (i : ℕ) (f : Flight)
    → (carried_on c v (step_of v l i (Some f))).1.answer ≡ given_answer (is_ordered l.class && nat_lt 0 i) (is_aged_for (node_at v l.to) (weight f))
step_answer c v l i f =
    elim (cases_Bool (is_ordered l.class && nat_lt 0 i)) [
      | inl behind ↦ rw behind refl
      | inr first ↦ elim (cases_Bool (is_aged_for (node_at v l.to) (weight f))) [
        | inl aged ↦ rw first (rw aged refl)
        | inr fresh ↦ rw first (rw fresh (takes_ok c v l f l.to))
      ]
    ]

-- the claims and the rules find the same flight of a link aged
abbrev pub AgeAlike : Past → World → LinkId → Option Flight → Type 0
AgeAlike p v l None = ⊤
AgeAlike p v l (Some f) = is_aged p l f ≡ is_aged_for (node_at v l.to) (weight f)

due_with : (c : Choices) (v : World) (p : Past) (l : LinkId) (i : ℕ) (o : Option Flight) → AgeAlike p v l o
    → (carried_on c v (step_of v l i o)).1.answer ≡ step_due p l i (with_link l o)
due_with c v p l i None alike = refl
due_with c v p l i (Some f) alike = step_answer c v l i f ∙ ap (given_answer (is_ordered l.class && nat_lt 0 i)) (sym alike)

-- a step is answered as it is due, where its flight is aged by both or by neither
pub step_cause : (c : Choices) (v : World) (p : Past) → StandsAs p v → (l : LinkId) (i : ℕ) → AgeAlike p v l (slice_get (flights_on l v.links) i)
    → has_cause p (world_step c v (event.Step l i)).1 ≡ true
step_cause c v p same l i alike =
    same_answer _ _ (due_with c v p l i (slice_get (flights_on l v.links) i) alike ∙ sym (ap (step_due p l i) (found_standing p v same l i)))
