-- The master takes that the terminal did.
use Rattle.std.proofs.Common.{ℕ, ◌≡◌, ◌++◌, List, [], ◌∷◌, Some, None, slice_get, refl, sym, ap, ◌∙◌, subst, inr}
use Rattle.std.specs.Prelude.{Contains}
use Rattle.std.specs.List.{remove}
use Rattle.std.proofs.lemmas.Bool.{eq-eqb}
use Rattle.dc_base.specs.declared.nodes.Dir.{Dir}
use Rattle.dc_base.specs.declared.nodes.Dir.TheVariants.{Ul, Dl}
use Rattle.dc_base.specs.declared.flights.Flight.TheVariants as flight
use Rattle.dc_base.specs.declared.records.Rec.TheVariants.{Rcomp}
use Rattle.dc_base.specs.declared.answers.Answer.TheVariants as answer
use Rattle.dc_base.specs.declared.events.Header.{Header}
use Rattle.dc_base.specs.declared.events.Event.TheVariants.{Step}
use Rattle.dc_base.specs.declared.events.Line.TheVariants as line
use Rattle.dc_base.specs.declared.events.Note.TheVariants as note
use Rattle.transcript.specs.Transcript.{Entry}
use Rattle.transcript.specs.Content.{mt_ctl, tm_ctl, given}
use Rattle.transcript.specs.Bearers.{change, Established, established}
use Rattle.transcript.specs.Claims.{HasCause}
use Rattle.master_runs.specs.Plane.{leg}
use Rattle.master_runs.specs.Control.{Nodes, is_change, ends, told_master}
use Rattle.master_runs.specs.Links.{Links, on, moved}
use Rattle.master_runs.specs.Run.{WorldState}
use Rattle.transcript.proofs.Establishing.{open_command-next, is_set-next}
use Rattle.master_runs.proofs.Moving.{on_moved, step_given, step_due}
use Rattle.master_runs.proofs.Plain.{IsUndrawn, there_before, tabled_busy}
use Rattle.master_runs.proofs.Silent.{no_ups, no_frees, IsSilent, silent_happened, record_confirms}
use Rattle.master_runs.proofs.Sound.{half, sender_table, IsUnderWay, AllConfigured, Phase, idle as phase_idle, IsTabled, Happened, Sound}
use Rattle.master_runs.proofs.Leaving.{legs_same}
use Rattle.master_runs.proofs.Tables.{keeps_all}

module _ (h : Header) (policies : ℕ) (t : List Entry) (w : WorldState) (sound : Sound h policies t w) (b : Established) (there : Contains (established t) b) where
  -- the entry
  abbrev pub completed : Entry
  completed = record { event = Step tm_ctl 0; answer = answer.Ok; lines = line.Note note.Done ∷ [] }

  -- the nodes after it
  abbrev pub completed_nodes : Nodes
  completed_nodes = record w.nodes { busy = None }

  -- the transcript after it
  abbrev after_completed : List Entry
  after_completed = t ++ completed ∷ []

  -- no generation is drawn
  undrawn : IsUndrawn completed
  undrawn = record { no_plan = λ g. refl; no_draw = refl }

  -- the nodes follow the transcript
  completed_tables : IsTabled after_completed completed_nodes
  completed_tables = tabled_busy t completed undrawn (λ id. is_set-next id t completed) w.nodes w.nodes (keeps_all w.nodes) None (open_command-next t completed) sound.tables

  module _ (at : on w.links tm_ctl ≡ flight.Ctl (Rcomp b.g) ∷ []) where
    -- the flight that it gives
    completed_given : given t completed ≡ Some (tm_ctl, flight.Ctl (Rcomp b.g))
    completed_given = step_given t w.links sound.contents tm_ctl 0 (flight.Ctl (Rcomp b.g)) (ap (λ fs. slice_get fs 0) at) completed.lines

    -- it carries no data
    completed_silent : IsSilent t completed
    completed_silent = record {
      submits = λ c d. refl;
      hands = λ c d. no_ups c d t completed refl;
      moves = λ c d. no_frees c d t completed refl;
      confirms = record_confirms t completed tm_ctl (Rcomp b.g) completed_given;
      tags = λ l id g num. refl;
    }

    -- the links after it
    abbrev links_completed : Links
    links_completed = moved w.links (Some (tm_ctl, 0)) completed.lines

    -- the legs are as before
    air_completed : (d : Dir) → on links_completed (leg d) ≡ on w.links (leg d)
    air_completed = legs_same w.links (Some (tm_ctl, 0)) completed.lines sound.long refl refl refl refl

    -- no command is open
    completed_phase : on w.links mt_ctl ≡ [] → AllConfigured t w.nodes → Phase h after_completed completed_nodes links_completed
    completed_phase empty all = phase_idle refl
        (on_moved w.links (Some (tm_ctl, 0)) completed.lines mt_ctl sound.long ∙ ap (λ fs. fs ++ []) empty)
        (on_moved w.links (Some (tm_ctl, 0)) completed.lines tm_ctl sound.long ∙ ap (λ fs. remove fs 0 ++ []) at)
        (λ c is gone. all c (there_before t completed undrawn c is) gone)

    -- its answer is due
    completed_cause : HasCause policies t completed
    completed_cause = sym (step_due t w.links sound.contents tm_ctl 0 (flight.Ctl (Rcomp b.g)) (ap (λ fs. slice_get fs 0) at))

    -- all that it owes
    pub completed_happened : on w.links mt_ctl ≡ [] → AllConfigured t w.nodes → Happened h policies t w completed completed_nodes
    completed_happened empty all =
        silent_happened h policies t w sound completed completed_nodes completed_silent refl
        (λ c d. elim d as (λ d. half c (sender_table d completed_nodes) ≡ half c (sender_table d w.nodes)) [ Ul ↦ refl | Dl ↦ refl ])
        undrawn completed_tables (completed_phase empty all) (λ c d is count way. inr (subst (IsUnderWay c count) (sym (air_completed d)) way)) completed_cause

  -- what the master does with the answer to its open command
  pub told_done : w.nodes.busy ≡ Some (change b.g) → told_master w.nodes (flight.Ctl (Rcomp b.g)) ≡ (completed_nodes, completed.lines)
  told_done busy = ap (λ o. ends w.nodes (is_change o b.g)) busy ∙ ap (ends w.nodes) (eq-eqb b.g b.g refl)
