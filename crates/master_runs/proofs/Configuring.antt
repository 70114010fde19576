-- The terminal takes the plan of a bearer.
use Rattle.std.proofs.Common.{ℕ, ◌≡◌, ◌==◌, ◌++◌, List, [], ◌∷◌, Some, None, true, false, slice_get, refl, sym, ap, ◌∙◌, subst, arith, inl, inr}
use Rattle.std.specs.Prelude.{Contains, is_some, if◌then◌else◌}
use Rattle.std.specs.List.{remove}
use Rattle.std.specs.Option.{option_map}
use Rattle.std.proofs.lemmas.Bool.{cases_Bool, cond-false, cond-true, eqb-true, eqb-false}
use Rattle.dc_base.specs.declared.nodes.Dir.{Dir}
use Rattle.dc_base.specs.declared.nodes.Shape.{Shape}
use Rattle.dc_base.specs.declared.nodes.Dir.TheVariants.{Ul, Dl}
use Rattle.dc_base.specs.declared.flights.Flight.TheVariants as flight
use Rattle.dc_base.specs.declared.records.Plan.{Plan}
use Rattle.dc_base.specs.declared.records.Rec.TheVariants.{Reconf, Rcomp}
use Rattle.dc_base.specs.declared.answers.Answer.TheVariants as answer
use Rattle.dc_base.specs.declared.events.Header.{Header}
use Rattle.dc_base.specs.declared.events.Event.TheVariants.{Step}
use Rattle.dc_base.specs.declared.events.Line.TheVariants as line
use Rattle.dc_base.specs.declared.events.Note.TheVariants as note
use Rattle.pdcp_tx.specs.Sender.{low}
use Rattle.transcript.specs.Transcript.{Entry}
use Rattle.transcript.specs.Content.{mt_ctl, tm_ctl, given}
use Rattle.transcript.specs.Bearers.{change, Established, established, latest, is_set, at_terminal, key_in}
use Rattle.transcript.specs.Claims.{IsLicensed, HasCause}
use Rattle.master_runs.specs.Entities.{fresh, bearer_in, with_bearer}
use Rattle.master_runs.specs.Plane.{leg}
use Rattle.master_runs.specs.Control.{Nodes, plan_for}
use Rattle.master_runs.specs.Links.{Links, on, moved}
use Rattle.master_runs.specs.Run.{WorldState}
use Rattle.transcript.proofs.Establishing.{open_command-next, is_set-next, IsOnce, same_bearer}
use Rattle.master_runs.proofs.Moving.{on_moved, step_given, step_due}
use Rattle.master_runs.proofs.Tables.{bearer_in-same, bearer_in-other, length-with_bearer}
use Rattle.master_runs.proofs.Plain.{IsUndrawn, plans_same, established_same, generation_same, there_then, there_before}
use Rattle.master_runs.proofs.Served.{served_still}
use Rattle.master_runs.proofs.Silent.{no_ups, no_frees, no_move, none_carried, none_sent_still, grows_same, IsSilent, record_confirms}
use Rattle.master_runs.proofs.Sound.{or_fresh, half, sender_table, receiver_table, IsUnderWay, IsServed, AllConfigured, Phase, answered as phase_answered, IsTabled, Happened, Sound}
use Rattle.master_runs.proofs.Leaving.{legs_same}

module _ (h : Header) (policies : ℕ) (t : List Entry) (w : WorldState) (sound : Sound h policies t w) (b : Established) (there : Contains (established t) b) (shape : Shape) (threshold policy : ℕ) where
  -- the plan of the open command
  abbrev pub plan : Plan
  plan = plan_for b.g b.id b.n b.first shape threshold policy

  -- the entry
  abbrev pub configured : Entry
  configured = record { event = Step mt_ctl 0; answer = answer.Ok; lines = line.Note (note.Set b.id b.g) ∷ line.Send tm_ctl (flight.Ctl (Rcomp b.g)) ∷ [] }

  -- the nodes after it
  abbrev pub configured_nodes : Nodes
  configured_nodes = record w.nodes { terminal = with_bearer w.nodes.terminal b.id (Some (fresh b)) }

  -- the transcript after it
  abbrev after_configured : List Entry
  after_configured = t ++ configured ∷ []

  module _ (at : on w.links mt_ctl ≡ flight.Ctl (Reconf plan h.root) ∷ []) where
    -- the flight that it gives
    configured_given : given t configured ≡ Some (mt_ctl, flight.Ctl (Reconf plan h.root))
    configured_given = step_given t w.links sound.contents mt_ctl 0 (flight.Ctl (Reconf plan h.root)) (ap (λ fs. slice_get fs 0) at) configured.lines

    -- it carries no data
    configured_silent : IsSilent t configured
    configured_silent = record {
      submits = λ c d. refl;
      hands = λ c d. no_ups c d t configured refl;
      moves = λ c d. no_frees c d t configured refl;
      confirms = record_confirms t configured mt_ctl (Reconf plan h.root) configured_given;
      tags = λ l id g num. refl;
    }

    -- its send has its reason
    configured_licence : IsLicensed h t configured
    configured_licence = record {
      reasons = (record { plan = plan; root = h.root; is_given = configured_given; same = refl; to_master = refl }, tt);
      ascends = tt;
      one = omega arith;
    }

    -- its answer is due
    configured_cause : HasCause policies t configured
    configured_cause = sym (step_due t w.links sound.contents mt_ctl 0 (flight.Ctl (Reconf plan h.root)) (ap (λ fs. slice_get fs 0) at))

  -- no generation is drawn
  undrawn : IsUndrawn configured
  undrawn = record { no_plan = λ g. refl; no_draw = refl }

  -- so the bearers are the same
  configured_established : established after_configured ≡ established t
  configured_established = established_same t configured undrawn

  -- the identities at the terminal then
  configured_set : (id : ℕ) → is_set id after_configured ≡ (if b.id == id then true else is_set id t)
  configured_set id = is_set-next id t configured

  -- the terminal has it then
  terminal_has : bearer_in configured_nodes.terminal b.id ≡ Some (fresh b)
  terminal_has = bearer_in-same w.nodes.terminal b.id (Some (fresh b)) (let small = (sound.tables.ranged b there).0 in let long = sound.tables.terminal_long in omega arith)

  -- and of other identities what it had
  terminal_other : (id : ℕ) → (b.id == id) ≡ false → bearer_in configured_nodes.terminal id ≡ bearer_in w.nodes.terminal id
  terminal_other id apart = bearer_in-other w.nodes.terminal b.id id (Some (fresh b)) apart

  -- the terminal follows the transcript
  configured_terminal_is : (id : ℕ) → option_map (λ e. e.bearer) (bearer_in configured_nodes.terminal id) ≡ at_terminal id after_configured
  configured_terminal_is id = elim (cases_Bool (b.id == id)) [
    | inl same ↦
        let id_is : b.id ≡ id = eqb-true b.id id same in
        let set : is_set id after_configured ≡ true = configured_set id ∙ cond-true _ _ _ same in
        ap (option_map (λ e. e.bearer)) (subst (λ k. bearer_in configured_nodes.terminal k ≡ Some (fresh b)) id_is terminal_has)
        ∙ sym (cond-true _ _ _ set ∙ ap (latest id) configured_established ∙ subst (λ k. latest k (established t) ≡ Some b) id_is (sound.tables.once b there))
    | inr apart ↦
        let set : is_set id after_configured ≡ is_set id t = configured_set id ∙ cond-false _ _ _ apart in
        ap (option_map (λ e. e.bearer)) (terminal_other id apart) ∙ sound.tables.terminal_is id
        ∙ sym (ap (λ x. if x then latest id (established after_configured) else None) set ∙ ap (λ bs. if is_set id t then latest id bs else None) configured_established)
  ]

  -- and has the identities that it was told
  configured_set_is : (id : ℕ) → is_set id after_configured ≡ is_some (bearer_in configured_nodes.terminal id)
  configured_set_is id = elim (cases_Bool (b.id == id)) [
    | inl same ↦
        configured_set id ∙ cond-true _ _ _ same
        ∙ sym (ap (λ o. is_some o) (subst (λ k. bearer_in configured_nodes.terminal k ≡ Some (fresh b)) (eqb-true b.id id same) terminal_has))
    | inr apart ↦ configured_set id ∙ cond-false _ _ _ apart ∙ sound.tables.set_is id ∙ sym (ap (λ o. is_some o) (terminal_other id apart))
  ]

  -- the nodes follow the transcript
  configured_tables : IsTabled after_configured configured_nodes
  configured_tables =
      let tables = sound.tables in
      record {
        master_long = tables.master_long;
        terminal_long = length-with_bearer w.nodes.terminal b.id (Some (fresh b)) ∙ tables.terminal_long;
        master_is = λ id. tables.master_is id ∙ ap (latest id) (sym configured_established);
        terminal_is = configured_terminal_is;
        set_is = configured_set_is;
        drawn_is = tables.drawn_is ∙ sym (generation_same t configured undrawn);
        busy_is = tables.busy_is ∙ sym (open_command-next t configured);
        once = subst IsOnce (sym configured_established) tables.once;
        ranged = λ c is. tables.ranged c (there_before t configured undrawn c is);
        keyed = λ c is. ap (key_in c.g c.id) (plans_same t configured undrawn) ∙ tables.keyed c (there_before t configured undrawn c is);
      }

  module _ (lacks : bearer_in w.nodes.terminal b.id ≡ None) where
    -- of each bearer the terminal has what it had, or began with
    configured_half : (c : Established) → Contains (established t) c → half c configured_nodes.terminal ≡ half c w.nodes.terminal
    configured_half c is = elim (cases_Bool (b.id == c.id)) [
      | inl same ↦ subst (λ c. half c configured_nodes.terminal ≡ half c w.nodes.terminal) (same_bearer (established t) b c sound.tables.once there is (eqb-true b.id c.id same))
          (ap (or_fresh b) terminal_has ∙ sym (ap (or_fresh b) lacks))
      | inr apart ↦ ap (or_fresh c) (terminal_other c.id apart)
    ]

    -- what sends is as before
    configured_sender : (c : Established) (d : Dir) → Contains (established t) c → half c (sender_table d configured_nodes) ≡ half c (sender_table d w.nodes)
    configured_sender c Dl is = refl
    configured_sender c Ul is = configured_half c is

    -- what receives is as before
    configured_receiver : (c : Established) (d : Dir) → Contains (established t) c → half c (receiver_table d configured_nodes) ≡ half c (receiver_table d w.nodes)
    configured_receiver c Dl is = configured_half c is
    configured_receiver c Ul is = refl

    module _ (at : on w.links mt_ctl ≡ flight.Ctl (Reconf plan h.root) ∷ []) where
      -- the links after it
      abbrev links_configured : Links
      links_configured = moved w.links (Some (mt_ctl, 0)) configured.lines

      -- the legs are as before
      air_configured : (d : Dir) → on links_configured (leg d) ≡ on w.links (leg d)
      air_configured = legs_same w.links (Some (mt_ctl, 0)) configured.lines sound.long refl refl refl refl

      -- every bearer is served as before
      configured_served : (c : Established) (d : Dir) → Contains (established after_configured) c → IsServed after_configured configured_nodes links_configured c d
      configured_served c d is =
          let silent = configured_silent at in
          let was = there_before t configured undrawn c is in
          served_still t w.nodes w.links c d configured configured_nodes links_configured (sound.served c d was) (silent.hands c d) (ap (λ e. e.rx) (configured_receiver c d was))
          (silent.submits c d) (silent.confirms c d) (silent.tags (leg d) c.id c.g)
          (ap (λ e. e.tx) (configured_sender c d was)) (ap (λ e. e.sent) (configured_sender c d was)) (λ count flying. inr (subst (IsUnderWay c count) (sym (air_configured d)) flying))

      -- every bearer is at the terminal
      all_configured : ((c : Established) → Contains (established t) c → bearer_in w.nodes.terminal c.id ≡ None → c ≡ b) → AllConfigured after_configured configured_nodes
      all_configured only c is gone = elim (cases_Bool (b.id == c.id)) [
        | inl same ↦ let has = subst (λ k. bearer_in configured_nodes.terminal k ≡ Some (fresh b)) (eqb-true b.id c.id same) terminal_has in absurd (cc)
        | inr apart ↦
            let same : c ≡ b = only c (there_before t configured undrawn c is) (sym (terminal_other c.id apart) ∙ gone) in
            absurd (eqb-false b.id c.id apart (ap (λ c. c.id) (sym same)))
      ]

      -- the command is answered
      configured_phase : w.nodes.busy ≡ Some (change b.g) → on w.links tm_ctl ≡ [] → ((c : Established) → Contains (established t) c → bearer_in w.nodes.terminal c.id ≡ None → c ≡ b)
          → Phase h after_configured configured_nodes links_configured
      configured_phase busy empty only = phase_answered b (there_then t configured undrawn b there) busy
          (on_moved w.links (Some (mt_ctl, 0)) configured.lines mt_ctl sound.long ∙ ap (λ fs. remove fs 0 ++ []) at)
          (on_moved w.links (Some (mt_ctl, 0)) configured.lines tm_ctl sound.long ∙ ap (λ fs. fs ++ flight.Ctl (Rcomp b.g) ∷ []) empty)
          (all_configured only)

      -- all that it owes
      pub configured_happened : w.nodes.busy ≡ Some (change b.g) → on w.links tm_ctl ≡ [] → ((c : Established) → Contains (established t) c → bearer_in w.nodes.terminal c.id ≡ None → c ≡ b)
          → Happened h policies t w configured configured_nodes
      configured_happened busy empty only =
          let silent = configured_silent at in
          record {
            tables = configured_tables;
            phase = configured_phase busy empty only;
            served = configured_served;
            grows = grows_same t configured w.nodes configured_nodes (there_then t configured undrawn) (λ c d is. ap (λ e. e.rx) (configured_receiver c d is))
                (λ c d is num o was. subst (λ e. slice_get e.sent num ≡ Some o) (sym (configured_sender c d is)) was);
            sent = (tt, tt);
            none_sent = none_sent_still t configured silent.tags sound.none_sent;
            protects = λ c d is. ((λ is_data. absurd is_data), tt);
            carried = λ c d is. none_carried c d t configured (silent.hands c d);
            freed = λ c d is. silent.moves c d ∙ no_move _ _ (ap (λ e. low e.tx) (configured_sender c d (there_before t configured undrawn c is)));
            fresh_before = λ c is. inl (there_before t configured undrawn c is);
            cause = configured_cause at;
            licence = configured_licence at;
          }
