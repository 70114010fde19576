-- What is decided on an event: how the run goes on with it, and the bearer that a node serves.
use Rattle.std.proofs.Common.{ℕ, ◌≡◌, ◌++◌, List, [], ◌∷◌, Option, Some, None, refl, sym, ap, ◌∙◌, inl, inr}
use Rattle.std.specs.Option.{option_map}
use Rattle.std.proofs.lemmas.Bool.{cases_Bool}
use Rattle.dc_base.specs.declared.nodes.Dir.{Dir}
use Rattle.dc_base.specs.declared.nodes.Dir.TheVariants.{Ul, Dl}
use Rattle.dc_base.specs.declared.events.Header.{Header}
use Rattle.dc_base.specs.declared.events.Event.{Event}
use Rattle.transcript.specs.Transcript.{Entry}
use Rattle.transcript.specs.Content.{place_taken}
use Rattle.transcript.specs.Bearers.{OpenCommand, change, recovery, established, latest, unless_opening, is_opening, at_master, at_submitter}
use Rattle.master_runs.specs.Entities.{Entities, bearer_in}
use Rattle.master_runs.specs.Plane.{Outcome}
use Rattle.master_runs.specs.Control.{Nodes, is_change, unless_open}
use Rattle.master_runs.specs.Links.{moved}
use Rattle.master_runs.specs.Run.{WorldState}
use Rattle.master_runs.proofs.Sound.{sender_table, Happened, Sound}
use Rattle.master_runs.proofs.Assembly.{sound_next}

-- the bearer to which a node submits in this direction
abbrev pub serving : WorldState → Dir → ℕ → Option Entities
serving w Dl id = unless_open w.nodes.busy (bearer_in w.nodes.master id)
serving w Ul id = bearer_in w.nodes.terminal id

module _ (h : Header) (policies : ℕ) (t : List Entry) (w : WorldState) where
  -- the run goes on with this decision on an event
  abbrev pub Next : Event → Nodes × Outcome → Type 0
  Next e q = Sound h policies (t ++ record { event = e; answer = q.1.0; lines = q.1.1 } ∷ []) (record w { nodes = q.0; links = moved w.links (place_taken e q.1.0) q.1.1 })

module _ (h : Header) (policies : ℕ) (t : List Entry) (w : WorldState) (sound : Sound h policies t w) where
  -- an event that happened is followed by a sound state
  pub next : (e : Event) (q : Nodes × Outcome) → Happened h policies t w (record { event = e; answer = q.1.0; lines = q.1.1 }) q.0 → Next h policies t w e q
  next e q happened = sound_next h policies t w (record { event = e; answer = q.1.0; lines = q.1.1 }) q.0 sound happened

  -- what the master has of an identity is what the transcript says
  pub at_master_is : (id : ℕ) → at_master id t ≡ option_map (λ e. e.bearer) (unless_open w.nodes.busy (bearer_in w.nodes.master id))
  at_master_is id =
      ap (λ g. unless_opening g (latest id (established t))) (sym sound.tables.busy_is)
      ∙ ap (unless_opening w.nodes.busy) (sym (sound.tables.master_is id))
      ∙ mapped w.nodes.busy (bearer_in w.nodes.master id)
    where
      opening_is : (g : Option OpenCommand) (e : Entities) → is_opening g e.bearer ≡ is_change g e.bearer.g
      opening_is None e = refl
      opening_is (Some (change g)) e = refl
      opening_is (Some (recovery id)) e = refl

      -- what is open is so of the bearer alone
      mapped : (g : Option OpenCommand) (o : Option Entities) → unless_opening g (option_map (λ e. e.bearer) o) ≡ option_map (λ e. e.bearer) (unless_open g o)
      mapped g None = refl
      mapped g (Some e) = rw (opening_is g e) (elim (cases_Bool (is_change g e.bearer.g)) [ inl yes' ↦ rw yes' refl | inr no' ↦ rw no' refl ])

  -- who can be submitted to
  pub serving_is : (d : Dir) (id : ℕ) → at_submitter d id t ≡ option_map (λ e. e.bearer) (serving w d id)
  serving_is Dl id = at_master_is id
  serving_is Ul id = sym (sound.tables.terminal_is id)

  -- that is one of the tables
  pub serving_in : (d : Dir) (id : ℕ) (e : Entities) → serving w d id ≡ Some e → bearer_in (sender_table d w.nodes) id ≡ Some e
  serving_in Dl id e is = opened w.nodes.busy (bearer_in w.nodes.master id) is
    where
      opened : (g : Option OpenCommand) (o : Option Entities) → unless_open g o ≡ Some e → o ≡ Some e
      opened g None is = absurd cc
      opened g (Some x) is = elim (cases_Bool (is_change g x.bearer.g)) [ inl yes' ↦ (let e = rw yes' at is in absurd (cc (e))) | inr no' ↦ (let e = rw no' at is in e) ]
  serving_in Ul id e is = is
