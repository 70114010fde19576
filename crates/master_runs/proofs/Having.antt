-- Both ends of a leg on which something was sent have its bearer.
use Rattle.std.proofs.Common.{ℕ, ◌≡◌, List, [], Option, Some, None, slice_get, refl, sym, ap, ◌∙◌, subst}
use Rattle.std.specs.Prelude.{Contains}
use Rattle.std.proofs.lemmas.Option.{none-some}
use Rattle.dc_base.specs.declared.nodes.Dir.{Dir}
use Rattle.dc_base.specs.declared.nodes.Dir.TheVariants.{Ul, Dl}
use Rattle.dc_base.specs.declared.events.Header.{Header}
use Rattle.transcript.specs.Transcript.{Entry}
use Rattle.transcript.specs.Bearers.{Established, established}
use Rattle.master_runs.specs.Entities.{Entities, bearer_in}
use Rattle.master_runs.specs.Control.{Nodes}
use Rattle.master_runs.specs.Links.{Links}
use Rattle.master_runs.proofs.Sound.{or_fresh, half, sender_table, receiver_table, IsNumberOf, Phase, idle, commanded, answered, recovering, recovered, IsTabled}
use Rattle.master_runs.proofs.Tables.{at_the_master, is_the_bearer}

-- no bearer that sent something is missing at the terminal
not_missing : (h : Header) (t : List Entry) (s : Nodes) (links : Links) → Phase h t s links
    → (b : Established) → Contains (established t) b → (num : ℕ) (sent : Option ℕ) → IsNumberOf s b Dl num sent → bearer_in s.terminal b.id ≡ None → ⊥
not_missing h t s links phase b there num sent is none =
    elim phase [
      | idle free no_down no_up all ↦ all b there none
      | commanded x in_t shape threshold policy open' plan no_up unused unsent absent only ↦
          let same : b ≡ x = only b there none in
          let empty : (half b s.master).sent ≡ [] = subst (λ y. (half y s.master).sent ≡ []) (sym same) unsent in
          none-some sent (ap (λ xs. slice_get xs num) (sym empty) ∙ is)
      | answered x in_t open' no_down done all ↦ all b there none
      | recovering x in_t open' down no_up all ↦ all b there none
      | recovered x in_t open' no_down up all ↦ all b there none
    ]

-- the receiver of what was sent on a leg has its bearer
pub receiver_has : (h : Header) (t : List Entry) (s : Nodes) (links : Links) → IsTabled t s → Phase h t s links
    → (d : Dir) (b : Established) → Contains (established t) b → (num : ℕ) (sent : Option ℕ) → IsNumberOf s b d num sent
    → (r : Entities) × (bearer_in (receiver_table d s) b.id ≡ Some r) × (r.bearer ≡ b)
receiver_has h t s links tables phase Ul b there num sent is = at_the_master t s tables b there
receiver_has h t s links tables phase Dl b there num sent is = found (bearer_in s.terminal b.id) refl
  where
    found : (o : Option Entities) → bearer_in s.terminal b.id ≡ o → (r : Entities) × (bearer_in s.terminal b.id ≡ Some r) × (r.bearer ≡ b)
    found None none = absurd (not_missing h t s links phase b there num sent is none)
    found (Some r) at = (r, at, is_the_bearer t s tables Ul b r there at)

-- and so has its sender
pub sender_has : (t : List Entry) (s : Nodes) → IsTabled t s → (d : Dir) (b : Established) → Contains (established t) b → (num : ℕ) (sent : Option ℕ) → IsNumberOf s b d num sent
    → (e : Entities) × (bearer_in (sender_table d s) b.id ≡ Some e) × (e.bearer ≡ b)
sender_has t s tables d b there num sent is = found (bearer_in (sender_table d s) b.id) refl
  where
    found : (o : Option Entities) → bearer_in (sender_table d s) b.id ≡ o → (e : Entities) × (bearer_in (sender_table d s) b.id ≡ Some e) × (e.bearer ≡ b)
    found None none = absurd (none-some sent (ap (λ (x : Option Entities). slice_get (or_fresh b x).sent num) (sym none) ∙ is))
    found (Some e) at = (e, at, is_the_bearer t s tables d b e there at)
