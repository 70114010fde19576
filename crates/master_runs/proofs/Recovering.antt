-- A bearer recovers: at the master with the command, then at the terminal, and the master is told.
use Rattle.std.proofs.Common.{ℕ, ◌≡◌, ◌++◌, List, [], ◌∷◌, Option, Some, None, true, false, slice_get, refl, sym, ap, ◌∙◌, subst, inl, inr}
use Rattle.std.specs.Prelude.{Contains, is_some, if◌then◌else◌}
use Rattle.std.specs.List.{remove}
use Rattle.std.proofs.lemmas.Bool.{cases_Bool, cond-true, eq-eqb}
use Rattle.dc_base.specs.declared.flights.Flight.TheVariants as flight
use Rattle.dc_base.specs.declared.nodes.Dir.{Dir}
use Rattle.dc_base.specs.declared.nodes.Dir.TheVariants.{Ul, Dl}
use Rattle.dc_base.specs.declared.records.Rec.TheVariants.{Recov, Recovd}
use Rattle.dc_base.specs.declared.answers.Answer.TheVariants as answer
use Rattle.dc_base.specs.declared.answers.Refusal.TheVariants.{NoBearer, Busy}
use Rattle.dc_base.specs.declared.events.Header.{Header}
use Rattle.dc_base.specs.declared.events.Event.TheVariants.{Recover, Step}
use Rattle.dc_base.specs.declared.events.Line.TheVariants as line
use Rattle.dc_base.specs.declared.events.Note.TheVariants as note
use Rattle.transcript.specs.Transcript.{Entry}
use Rattle.transcript.specs.Content.{mt_ctl, tm_ctl, given, put_on, without_taken}
use Rattle.transcript.specs.Bearers.{OpenCommand, Established, established, recovery, latest, open_command, unless_opening, at_master, confirms}
use Rattle.master_runs.specs.Entities.{Entities, bearer_in}
use Rattle.master_runs.specs.Plane.{leg}
use Rattle.master_runs.specs.Control.{Nodes, is_change, is_recovery, unless_open, recovers_there, told_terminal, told_master}
use Rattle.master_runs.specs.Control.{recovered as recovered_by}
use Rattle.master_runs.specs.Links.{Links, on, moved}
use Rattle.master_runs.specs.Run.{WorldState}
use Rattle.transcript.proofs.Establishing.{open_command-next, is_set-next}
use Rattle.master_runs.proofs.Moving.{on_moved, step_given, step_due}
use Rattle.master_runs.proofs.Plain.{IsUndrawn, there_then, there_before, tabled_busy}
use Rattle.master_runs.proofs.Silent.{no_ups, no_frees, IsSilent, silent_happened, record_confirms}
use Rattle.master_runs.proofs.Resending.{entry, here, named, all_there, resending_happened}
use Rattle.master_runs.proofs.Resent.{resent_apart}
use Rattle.master_runs.proofs.Sound.{half, sender_table, IsUnderWay, AllConfigured, Phase, idle, commanded, answered, recovering, recovered, IsTabled, Happened, Sound}
use Rattle.master_runs.proofs.Leaving.{legs_same}
use Rattle.master_runs.proofs.Tables.{keeps_all}

-- a bearer that is not held back is in the table
opened : (o : Option OpenCommand) (x : Option Entities) (e : Entities) → unless_open o x ≡ Some e → x ≡ Some e
opened o None e is = absurd cc
opened o (Some x) e is = elim (cases_Bool (is_change o x.bearer.g)) [ inl yes' ↦ (let e = rw yes' at is in absurd (cc (e))) | inr no' ↦ (let e = rw no' at is in e) ]

-- where no command is open there is none
not_some : (o : Option OpenCommand) → is_some o ≡ false → o ≡ None
not_some None free = refl
not_some (Some x) free = absurd cc

module _ (h : Header) (policies : ℕ) (t : List Entry) (w : WorldState) (sound : Sound h policies t w) where
  -- every bearer is at the terminal, and nothing stands on the control links
  record IsIdle : Type 0 where
    down : on w.links mt_ctl ≡ []
    up : on w.links tm_ctl ≡ []
    all : AllConfigured t w.nodes

  -- so it is with no command open
  idle_here : w.nodes.busy ≡ None → IsIdle
  idle_here none = elim sound.phase [
    | idle busy down up all ↦ record { down = down; up = up; all = all }
    | commanded b there shape threshold policy busy down up before unsent absent only ↦ absurd (cc)
    | answered b there busy down up all ↦ absurd (cc)
    | recovering b there busy down up all ↦ absurd (cc)
    | recovered b there busy down up all ↦ absurd (cc)
  ]

  -- the command, and the master's recovery
  pub recover_happened : (id : ℕ) (e : Entities) → is_some w.nodes.busy ≡ false → unless_open w.nodes.busy (bearer_in w.nodes.master id) ≡ Some e
      → let done = recovered_by h w.nodes id (Some e) in
      Happened h policies t w (record { event = Recover id; answer = answer.Ok; lines = done.1.1 }) done.0
  recover_happened id e free there =
      let at : bearer_in w.nodes.master id ≡ Some e = opened w.nodes.busy (bearer_in w.nodes.master id) e there in
      let none : w.nodes.busy ≡ None = not_some w.nodes.busy free in
      let was : IsIdle = idle_here none in
      let x : Entry = entry h policies t w sound Dl id e at (Recover id) mt_ctl (Recov id) (Some (recovery id)) in
      let b : Established = e.bearer in
      let here' : Contains (established t) b = here h policies t w sound Dl id e at (Recover id) mt_ctl (Recov id) (Some (recovery id)) in
      let named' : b.id ≡ id = named h policies t w sound Dl id e at (Recover id) mt_ctl (Recov id) (Some (recovery id)) in
      let undrawn : IsUndrawn x = record { no_plan = λ g. refl; no_draw = refl } in
      let closed : open_command t ≡ None = sym sound.tables.busy_is ∙ none in
      let found : at_master id t ≡ Some b =
      ap (λ o. unless_opening o (latest id (established t))) closed
      ∙ ap (unless_opening None) (ap (λ k. latest k (established t)) (sym named') ∙ sound.tables.once b here') in
      let down : on (moved w.links None x.lines) mt_ctl ≡ flight.Ctl (Recov b.id) ∷ [] =
      on_moved w.links None x.lines mt_ctl sound.long ∙ ap (λ fs. fs ++ put_on mt_ctl x.lines) was.down
      ∙ ap (λ fs. flight.Ctl (Recov id) ∷ fs) (resent_apart h b Dl mt_ctl refl _ e.tx.kept) ∙ ap (λ k. flight.Ctl (Recov k) ∷ []) (sym named') in
      let up : on (moved w.links None x.lines) tm_ctl ≡ [] =
      on_moved w.links None x.lines tm_ctl sound.long ∙ ap (λ fs. fs ++ put_on tm_ctl x.lines) was.up ∙ resent_apart h b Dl tm_ctl refl _ e.tx.kept in
      resending_happened h policies t w sound Dl id e at (Recover id) mt_ctl (Recov id) (Some (recovery id)) undrawn (λ c k. refl)
      (λ c k. elim k as (λ k. confirms c k t x ≡ []) [ Ul ↦ refl | Dl ↦ refl ])
      (λ k fs. refl) refl
      (recovering b (there_then t x undrawn b here') (ap (λ k. Some (recovery k)) (sym named')) down up (all_there h policies t w sound Dl id e at (Recover id) mt_ctl (Recov id) (Some (recovery id)) undrawn was.all))
      tt (refl, refl) (record { commanded = refl; accepted = refl; to_terminal = refl })
      (sym (ap (λ o. if is_some o then answer.No Busy else (if is_some (at_master id t) then answer.Ok else answer.No NoBearer)) closed
      ∙ ap (λ o. if is_some o then answer.Ok else answer.No NoBearer) found))

  module _ (b : Established) (there : Contains (established t) b) (busy : w.nodes.busy ≡ Some (recovery b.id)) (all : AllConfigured t w.nodes) where
    -- the terminal's recovery
    pub recov_happened : on w.links mt_ctl ≡ flight.Ctl (Recov b.id) ∷ [] → on w.links tm_ctl ≡ []
        → let done = told_terminal h w.nodes (flight.Ctl (Recov b.id)) in
        Happened h policies t w (record { event = Step mt_ctl 0; answer = answer.Ok; lines = done.1 }) done.0
    recov_happened down up = found (bearer_in w.nodes.terminal b.id) refl
      where
        -- with the bearer of the terminal
        recovers_happened : (e : Entities) → bearer_in w.nodes.terminal b.id ≡ Some e
            → let done = recovers_there h w.nodes b.id (Some e) in Happened h policies t w (record { event = Step mt_ctl 0; answer = answer.Ok; lines = done.1 }) done.0
        recovers_happened e at =
            let x : Entry = entry h policies t w sound Ul b.id e at (Step mt_ctl 0) tm_ctl (Recovd b.id) w.nodes.busy in
            let undrawn : IsUndrawn x = record { no_plan = λ g. refl; no_draw = refl } in
            let stands : slice_get (on w.links mt_ctl) 0 ≡ Some (flight.Ctl (Recov b.id)) = ap (λ fs. slice_get fs 0) down in
            let is_given : given t x ≡ Some (mt_ctl, flight.Ctl (Recov b.id)) = step_given t w.links sound.contents mt_ctl 0 (flight.Ctl (Recov b.id)) stands x.lines in
            let down' : on (moved w.links (Some (mt_ctl, 0)) x.lines) mt_ctl ≡ [] =
            on_moved w.links (Some (mt_ctl, 0)) x.lines mt_ctl sound.long ∙ ap (λ fs. remove fs 0 ++ put_on mt_ctl x.lines) down ∙ resent_apart h e.bearer Ul mt_ctl refl _ e.tx.kept in
            let up' : on (moved w.links (Some (mt_ctl, 0)) x.lines) tm_ctl ≡ flight.Ctl (Recovd b.id) ∷ [] =
            on_moved w.links (Some (mt_ctl, 0)) x.lines tm_ctl sound.long ∙ ap (λ fs. fs ++ put_on tm_ctl x.lines) up
            ∙ ap (λ fs. flight.Ctl (Recovd b.id) ∷ fs) (resent_apart h e.bearer Ul tm_ctl refl _ e.tx.kept) in
            resending_happened h policies t w sound Ul b.id e at (Step mt_ctl 0) tm_ctl (Recovd b.id) w.nodes.busy undrawn (λ c k. refl)
            (record_confirms t x mt_ctl (Recov b.id) is_given)
            (λ k fs. elim k as (λ k. without_taken (leg k) (Some (mt_ctl, 0)) fs ≡ fs) [ Ul ↦ refl | Dl ↦ refl ])
            (sym sound.tables.busy_is)
            (recovered b (there_then t x undrawn b there) busy down' up' (all_there h policies t w sound Ul b.id e at (Step mt_ctl 0) tm_ctl (Recovd b.id) w.nodes.busy undrawn all))
            tt is_given (record { is_given = is_given; to_master = refl })
            (sym (step_due t w.links sound.contents mt_ctl 0 (flight.Ctl (Recov b.id)) stands))

        -- the terminal has it
        found : (o : Option Entities) → bearer_in w.nodes.terminal b.id ≡ o
            → let done = told_terminal h w.nodes (flight.Ctl (Recov b.id)) in Happened h policies t w (record { event = Step mt_ctl 0; answer = answer.Ok; lines = done.1 }) done.0
        found None none = absurd (all b there none)
        found (Some e) at =
            subst (λ o. let done = recovers_there h w.nodes b.id o in Happened h policies t w (record { event = Step mt_ctl 0; answer = answer.Ok; lines = done.1 }) done.0) (sym at)
            (recovers_happened e at)

    -- the entry at the master
    abbrev done_entry : Entry
    done_entry = record { event = Step tm_ctl 0; answer = answer.Ok; lines = line.Note note.Done ∷ [] }

    -- the nodes after it
    abbrev done_nodes : Nodes
    done_nodes = record w.nodes { busy = None }

    -- no generation is drawn
    done_undrawn : IsUndrawn done_entry
    done_undrawn = record { no_plan = λ g. refl; no_draw = refl }

    -- the nodes follow the transcript
    done_tables : IsTabled (t ++ done_entry ∷ []) done_nodes
    done_tables = tabled_busy t done_entry done_undrawn (λ id. is_set-next id t done_entry) w.nodes w.nodes (keeps_all w.nodes) None (open_command-next t done_entry) sound.tables

    -- it gives the record, and carries no data
    done_silent : given t done_entry ≡ Some (tm_ctl, flight.Ctl (Recovd b.id)) → IsSilent t done_entry
    done_silent is_given = record {
      submits = λ c d. refl;
      hands = λ c d. no_ups c d t done_entry refl;
      moves = λ c d. no_frees c d t done_entry refl;
      confirms = record_confirms t done_entry tm_ctl (Recovd b.id) is_given;
      tags = λ l id g num. refl;
    }

    -- what the master does with it
    done_is : told_master w.nodes (flight.Ctl (Recovd b.id)) ≡ (done_nodes, done_entry.lines)
    done_is =
        let is_own : is_recovery w.nodes.busy b.id ≡ true = ap (λ o. is_recovery o b.id) busy ∙ eq-eqb b.id b.id refl in
        cond-true (is_recovery w.nodes.busy b.id) (done_nodes, done_entry.lines) (w.nodes, []) is_own

    -- the master takes that it did
    pub recovd_happened : on w.links mt_ctl ≡ [] → on w.links tm_ctl ≡ flight.Ctl (Recovd b.id) ∷ []
        → let done = told_master w.nodes (flight.Ctl (Recovd b.id)) in
        Happened h policies t w (record { event = Step tm_ctl 0; answer = answer.Ok; lines = done.1 }) done.0
    recovd_happened down up =
        let stands : slice_get (on w.links tm_ctl) 0 ≡ Some (flight.Ctl (Recovd b.id)) = ap (λ fs. slice_get fs 0) up in
        let is_given : given t done_entry ≡ Some (tm_ctl, flight.Ctl (Recovd b.id)) = step_given t w.links sound.contents tm_ctl 0 (flight.Ctl (Recovd b.id)) stands done_entry.lines in
        let links'' : Links = moved w.links (Some (tm_ctl, 0)) done_entry.lines in
        let air : (d : Dir) → on links'' (leg d) ≡ on w.links (leg d) = legs_same w.links (Some (tm_ctl, 0)) done_entry.lines sound.long refl refl refl refl in
        let phase : Phase h (t ++ done_entry ∷ []) done_nodes links'' = idle refl
        (on_moved w.links (Some (tm_ctl, 0)) done_entry.lines mt_ctl sound.long ∙ ap (λ fs. fs ++ []) down)
        (on_moved w.links (Some (tm_ctl, 0)) done_entry.lines tm_ctl sound.long ∙ ap (λ fs. remove fs 0 ++ []) up)
        (λ c is gone. all c (there_before t done_entry done_undrawn c is) gone) in
        subst (λ done. Happened h policies t w (record { event = Step tm_ctl 0; answer = answer.Ok; lines = done.1 }) done.0) (sym done_is)
        (silent_happened h policies t w sound done_entry done_nodes (done_silent is_given) refl
        (λ c d. elim d as (λ d. half c (sender_table d done_nodes) ≡ half c (sender_table d w.nodes)) [ Ul ↦ refl | Dl ↦ refl ])
        done_undrawn done_tables phase (λ c d is count way. inr (subst (IsUnderWay c count) (sym (air d)) way))
        (sym (step_due t w.links sound.contents tm_ctl 0 (flight.Ctl (Recovd b.id)) stands)))
