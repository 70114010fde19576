-- A refused event keeps everything.
use Rattle.std.proofs.Common.{Option, ℕ, ◌≡◌, List, [], None, Bool, false, refl, sym, ap, subst, inr}
use Rattle.dc_base.specs.declared.nodes.Dir.{Dir}
use Rattle.dc_base.specs.declared.nodes.Dir.TheVariants.{Ul, Dl}
use Rattle.dc_base.specs.declared.answers.Answer.TheVariants.{No}
use Rattle.dc_base.specs.declared.answers.Refusal.{Refusal}
use Rattle.dc_base.specs.declared.events.Header.{Header}
use Rattle.dc_base.specs.declared.events.Event.{Event}
use Rattle.transcript.specs.Transcript.{Entry}
use Rattle.transcript.specs.Content.{mt_ctl, tm_ctl, given_at, place_taken}
use Rattle.transcript.specs.Bearers.{OpenCommand, opens, Established, plan_of, is_draw_of, is_latest, submission_of, confirms, confirmed_by}
use Rattle.transcript.specs.Claims.{HasCause}
use Rattle.master_runs.specs.Plane.{leg}
use Rattle.master_runs.specs.Links.{on, moved}
use Rattle.master_runs.specs.Run.{WorldState}
use Rattle.master_runs.proofs.Sound.{IsUnderWay, Happened, Sound}
use Rattle.master_runs.proofs.Tables.{keeps_all}
use Rattle.master_runs.proofs.Silent.{IsSilent, no_ups, no_frees, plain_happened}

module _ (h : Header) (policies : ℕ) (t : List Entry) (w : WorldState) (sound : Sound h policies t w) (event : Event) (why : Refusal) where
  -- the entry
  abbrev pub refused : Entry
  refused = record { event = event; answer = No why; lines = [] }

  -- all that it owes
  pub refused_happened : ((g : ℕ) → plan_of g event (No why) ≡ []) → is_draw_of event (No why) ≡ false → ((g : ℕ) (open' : Option OpenCommand) → opens g open' event (No why) ≡ open')
      → ((b : Established) (d : Dir) (current : Bool) → submission_of b d current event (No why) ≡ [])
      → given_at t event (No why) ≡ None → place_taken event (No why) ≡ None → HasCause policies t refused
      → Happened h policies t w refused w.nodes
  refused_happened no_plan no_draw no_open no_submission none_given none_taken due =
      let links : moved w.links (place_taken event (No why)) [] ≡ w.links = ap (λ place. moved w.links place []) none_taken in
      plain_happened h policies t w sound refused w.nodes silent refl (λ b d. refl) (record { undrawn = record { no_plan = no_plan; no_draw = no_draw }; no_open = no_open; no_end = λ g. refl; no_set = λ id has. refl })
      (keeps_all w.nodes) (ap (λ k. on k mt_ctl) links) (ap (λ k. on k tm_ctl) links) (λ b d there c way. inr (subst (λ k. IsUnderWay b c (on k (leg d))) (sym links) way)) due
    where
      silent : IsSilent t refused
      silent = record {
        submits = λ b d. no_submission b d (is_latest b t);
        hands = λ b d. no_ups b d t refused refl;
        moves = λ b d. no_frees b d t refused refl;
        confirms = λ b d. elim d as (λ d. confirms b d t refused ≡ []) [ Ul ↦ ap (confirmed_by b Ul t) none_given | Dl ↦ ap (confirmed_by b Dl t) none_given ];
        tags = λ l id g num. refl;
      }
