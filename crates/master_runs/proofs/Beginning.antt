-- The master sets a bearer up.
use Rattle.std.proofs.Common.{ℕ, ◌≡◌, ◌+◌, ◌-◌, ◌^◌, ◌<◌, ◌≤◌, ◌==◌, ◌⊎◌, ◌++◌, List, [], ◌∷◌, Option, Some, None, true, false, refl, sym, ap, ◌∙◌, subst, arith, inl, inr, slice_get, Bool}
use Rattle.std.specs.Prelude.{Contains, nat_le, not, is_some, if◌then◌else◌}
use Rattle.std.specs.List.{flat_map}
use Rattle.std.specs.Option.{option_map}
use Rattle.std.proofs.lemmas.Bool.{cases_Bool, cond-false, cond-true, eqb-true, eq-eqb, ne_eqb}
use Rattle.dc_base.specs.declared.numbers.SnLen.{SnLen}
use Rattle.dc_base.specs.declared.nodes.Dir.{Dir}
use Rattle.dc_base.specs.declared.nodes.Node.TheVariants.{M}
use Rattle.dc_base.specs.declared.nodes.Shape.{Shape}
use Rattle.dc_base.specs.declared.nodes.Dir.TheVariants.{Ul, Dl}
use Rattle.dc_base.specs.declared.flights.Flight.TheVariants as flight
use Rattle.dc_base.specs.declared.records.Plan.{Plan}
use Rattle.dc_base.specs.declared.records.Rec.TheVariants.{Reconf}
use Rattle.dc_base.specs.declared.answers.Answer.TheVariants as answer
use Rattle.dc_base.specs.declared.events.Header.{Header}
use Rattle.dc_base.specs.declared.events.Event.TheVariants.{Bearer}
use Rattle.dc_base.specs.declared.events.Line.TheVariants as line
use Rattle.dc_base.specs.declared.events.Note.TheVariants as note
use Rattle.pdcp_tx.specs.Sender.{low}
use Rattle.dc_base.specs.Nodes.{is_mm}
use Rattle.transcript.specs.Transcript.{Entry}
use Rattle.transcript.specs.Content.{mt_ctl, tm_ctl}
use Rattle.transcript.specs.Bearers.{change, recovery, OpenCommand, open_command, unless_opening, at_master, master_key, submitted, Established, established, established_by, generation, plans, plan_drawn, latest, is_set, at_terminal, key_in, confirms}
use Rattle.transcript.specs.Claims.{IsLicensed, HasCause}
use Rattle.master_runs.specs.Entities.{fresh, bearer_in, with_bearer}
use Rattle.master_runs.specs.Plane.{leg}
use Rattle.master_runs.specs.Control.{Nodes, opened, plan_for}
use Rattle.master_runs.specs.Links.{Links, on, moved}
use Rattle.master_runs.specs.Run.{WorldState}
use Rattle.transcript.proofs.Establishing.{established-next, generation-next, plans-next, open_command-next, is_set-next, IsOnce, latest-push, once-push, contains_push, contains_left, contains_last, established_drawn, none_submitted, none_confirmed, none_handed, key_in-other, key_in-same}
use Rattle.master_runs.proofs.Moving.{on_moved}
use Rattle.master_runs.proofs.Tables.{bearer_in-same, bearer_in-other, length-with_bearer}
use Rattle.master_runs.proofs.Plain.{none_mapped, is_none}
use Rattle.master_runs.proofs.Served.{served_still}
use Rattle.master_runs.proofs.Silent.{no_ups, no_frees, no_move, none_carried, none_sent_still, grows_same, IsSilent, submitted_same, handed_same, confirmed_same, tags_same}
use Rattle.master_runs.proofs.Bare.{fresh_served}
use Rattle.master_runs.proofs.Sound.{or_fresh, half, sender_table, receiver_table, IsUnderWay, IsServed, AllConfigured, Phase, idle as phase_idle, commanded as phase_commanded, answered as phase_answered, recovering as phase_recovering, recovered as phase_recovered, IsTabled, Happened, Sound}
use Rattle.master_runs.proofs.Leaving.{legs_same}

module _ (h : Header) (policies : ℕ) (t : List Entry) (w : WorldState) (sound : Sound h policies t w) (id : ℕ) (n : SnLen) (first : ℕ) (shape : Shape) (threshold policy : ℕ) where
  -- the bearer, and what its command makes
  abbrev pub new_one : Established
  new_one = opened (w.nodes.drawn + 1) id n first

  -- its plan
  abbrev pub its_plan : Plan
  its_plan = plan_for (w.nodes.drawn + 1) id n first shape threshold policy

  -- the entry
  abbrev pub began : Entry
  began = record {
    event = Bearer id n first shape threshold policy;
    answer = answer.Ok;
    lines = line.Note (note.Own M id (w.nodes.drawn + 1)) ∷ line.Send mt_ctl (flight.Ctl (Reconf its_plan h.root)) ∷ [];
  }

  -- the nodes after it
  abbrev pub began_nodes : Nodes
  began_nodes = record w.nodes { drawn = w.nodes.drawn + 1; busy = Some (change (w.nodes.drawn + 1)); master = with_bearer w.nodes.master id (Some (fresh new_one)) }

  -- the transcript after it
  abbrev after_began : List Entry
  after_began = t ++ began ∷ []

  -- the links after it
  abbrev links_began : Links
  links_began = moved w.links None began.lines

  -- ---- what it says

  -- the plan that it draws
  began_plan : plan_drawn t began ≡ its_plan ∷ []
  began_plan = ap (λ g. plan_for (g + 1) id n first shape threshold policy ∷ []) (sym sound.tables.drawn_is)

  -- it carries no data
  began_silent : IsSilent t began
  began_silent = record {
    submits = λ c d. refl;
    hands = λ c d. no_ups c d t began refl;
    moves = λ c d. no_frees c d t began refl;
    confirms = λ c d. elim d as (λ d. confirms c d t began ≡ []) [ Ul ↦ refl | Dl ↦ refl ];
    tags = λ l id g num. refl;
  }

  -- its send has its reason
  began_licence : IsLicensed h t began
  began_licence = record { reasons = (record { drawn = began_plan; keyed = refl; to_terminal = refl }, tt); ascends = tt; one = omega arith }

  -- the bearer is one more
  began_established : established after_began ≡ established t ++ new_one ∷ []
  began_established = established-next t began ∙ ap (λ ps. established t ++ flat_map (λ p. flat_map (established_by p.g) p.items) ps) began_plan

  -- its plan is one more
  began_plans : plans after_began ≡ plans t ++ its_plan ∷ []
  began_plans = plans-next t began ∙ ap (λ ps. plans t ++ ps) began_plan

  -- its generation is the last one drawn
  began_generation : generation after_began ≡ w.nodes.drawn + 1
  began_generation = generation-next t began ∙ ap (λ g. g + 1) (sym sound.tables.drawn_is)

  -- the identities at the terminal are the same
  began_set : (k : ℕ) → is_set k after_began ≡ is_set k t
  began_set k = is_set-next k t began

  -- its generation is new
  later : generation t < new_one.g
  later = let drawn_is = sound.tables.drawn_is in omega arith

  -- the bearers before it are still there
  began_on : (c : Established) → Contains (established t) c → Contains (established after_began) c
  began_on c is = subst (λ bs. Contains bs c) (sym began_established) (contains_left (established t) (new_one ∷ []) c is)

  -- and it is
  began_there : Contains (established after_began) new_one
  began_there = subst (λ bs. Contains bs new_one) (sym began_established) (contains_last (established t) new_one)

  -- there is no other
  began_back : (c : Established) → Contains (established after_began) c → (c ≡ new_one) ⊎ Contains (established t) c
  began_back c is = contains_push (established t) new_one c (subst (λ bs. Contains bs c) began_established is)

  -- every bearer before it has another generation
  apart_from_old : (c : Established) → Contains (established t) c → ((w.nodes.drawn + 1) == c.g) ≡ false
  apart_from_old c is =
      let drawn = established_drawn t c is in let drawn_is = sound.tables.drawn_is in
      ne_eqb (w.nodes.drawn + 1) c.g (λ (same : w.nodes.drawn + 1 ≡ c.g). omega arith)

  -- each bearer has the key of its plan
  began_keyed : (c : Established) → Contains (established after_began) c → key_in c.g c.id (plans after_began) ≡ Some (master_key 0)
  began_keyed c is = ap (key_in c.g c.id) began_plans ∙ elim (began_back c is) [
    | inl same ↦ subst (λ c. key_in c.g c.id (plans t ++ its_plan ∷ []) ≡ Some (master_key 0)) (sym same)
        (key_in-same (w.nodes.drawn + 1) id (plans t) its_plan (eq-eqb (w.nodes.drawn + 1) (w.nodes.drawn + 1) refl) ∙ cond-true _ _ _ (eq-eqb id id refl))
    | inr old ↦ key_in-other c.g c.id (plans t) its_plan (apart_from_old c old) ∙ sound.tables.keyed c old
  ]

  module _ (small : id ≤ 32) (short : first < 2 ^ 32 - 1) (free : is_some w.nodes.busy ≡ false) (new : is_some (bearer_in w.nodes.master id) ≡ false) where
    -- the identity is new to the master
    not_at_master : bearer_in w.nodes.master id ≡ None
    not_at_master = is_none (bearer_in w.nodes.master id) new

    -- so it was never established
    not_established : latest id (established t) ≡ None
    not_established = sym (sound.tables.master_is id) ∙ ap (option_map (λ e. e.bearer)) not_at_master

    -- it is new to the terminal
    not_at_terminal : bearer_in w.nodes.terminal id ≡ None
    not_at_terminal = none_mapped (bearer_in w.nodes.terminal id) (sound.tables.terminal_is id ∙ unset (is_set id t) (latest id (established t)) not_established)
      where
        -- nothing, whether it is set up or not
        unset : (set : Bool) (o : Option Established) → o ≡ None → (if set then o else None) ≡ None
        unset true o none = none
        unset false o none = refl

    -- so the terminal was never told of it
    not_set : is_set id t ≡ false
    not_set = sound.tables.set_is id ∙ ap (λ o. is_some o) not_at_terminal

    -- its answer is due
    began_cause : is_mm shape ≡ true → nat_le policies policy ≡ false → HasCause policies t began
    began_cause mm known =
        let idle : is_some (open_command t) ≡ false = ap (λ o. is_some o) (sym sound.tables.busy_is) ∙ free in
        let gone : is_some (at_master id t) ≡ false = ap (λ o. is_some (unless_opening (open_command t) o)) not_established in
        let alone : not (is_mm shape) ≡ false = ap (λ x. not x) mm in
        sym (cond-false _ _ _ idle ∙ cond-false _ _ _ gone ∙ cond-false _ _ _ alone ∙ cond-false _ _ _ known)

    -- ---- the tables

    -- the master has it then
    master_has : bearer_in began_nodes.master id ≡ Some (fresh new_one)
    master_has = bearer_in-same w.nodes.master id (Some (fresh new_one)) (let long = sound.tables.master_long in omega arith)

    -- and of other identities what it had
    master_other : (k : ℕ) → (id == k) ≡ false → bearer_in began_nodes.master k ≡ bearer_in w.nodes.master k
    master_other k apart = bearer_in-other w.nodes.master id k (Some (fresh new_one)) apart

    -- the latest of each identity
    began_latest : (k : ℕ) → latest k (established after_began) ≡ (if id == k then Some new_one else latest k (established t))
    began_latest k = ap (latest k) began_established ∙ latest-push k (established t) new_one

    -- the master follows the transcript
    began_master_is : (k : ℕ) → option_map (λ e. e.bearer) (bearer_in began_nodes.master k) ≡ latest k (established after_began)
    began_master_is k = elim (cases_Bool (id == k)) [
      | inl same ↦
          ap (option_map (λ e. e.bearer)) (subst (λ k. bearer_in began_nodes.master k ≡ Some (fresh new_one)) (eqb-true id k same) master_has)
          ∙ sym (began_latest k ∙ cond-true _ _ _ same)
      | inr apart ↦ ap (option_map (λ e. e.bearer)) (master_other k apart) ∙ sound.tables.master_is k ∙ sym (began_latest k ∙ cond-false _ _ _ apart)
    ]

    -- and so does the terminal
    began_terminal_is : (k : ℕ) → option_map (λ e. e.bearer) (bearer_in began_nodes.terminal k) ≡ at_terminal k after_began
    began_terminal_is k =
        let set : at_terminal k after_began ≡ (if is_set k t then latest k (established after_began) else None) = ap (λ x. if x then latest k (established after_began) else None) (began_set k) in
        elim (cases_Bool (id == k)) [
          | inl same ↦
              let unset : is_set k t ≡ false = subst (λ k. is_set k t ≡ false) (eqb-true id k same) not_set in
              let gone : bearer_in w.nodes.terminal k ≡ None = subst (λ k. bearer_in w.nodes.terminal k ≡ None) (eqb-true id k same) not_at_terminal in
              ap (option_map (λ e. e.bearer)) gone ∙ sym (set ∙ cond-false _ _ _ unset)
          | inr apart ↦ sound.tables.terminal_is k ∙ sym (set ∙ ap (λ o. if is_set k t then o else None) (began_latest k ∙ cond-false _ _ _ apart))
        ]

    -- identities and first COUNTs are in their ranges
    began_ranged : (c : Established) → Contains (established after_began) c → (c.id ≤ 32) × (c.first < 2 ^ 32 - 1)
    began_ranged c is = elim (began_back c is) [
      | inl same ↦ subst (λ c. (c.id ≤ 32) × (c.first < 2 ^ 32 - 1)) (sym same) (small, short)
      | inr old ↦ sound.tables.ranged c old
    ]

    -- the nodes follow the transcript
    began_tables : IsTabled after_began began_nodes
    began_tables =
        let tables = sound.tables in
        record {
          master_long = length-with_bearer w.nodes.master id (Some (fresh new_one)) ∙ tables.master_long;
          terminal_long = tables.terminal_long;
          master_is = began_master_is;
          terminal_is = began_terminal_is;
          set_is = λ k. began_set k ∙ tables.set_is k;
          drawn_is = sym began_generation;
          busy_is = ap (λ g. Some (change (g + 1))) tables.drawn_is ∙ sym (open_command-next t began);
          once = subst IsOnce (sym began_established) (once-push (established t) new_one tables.once not_established);
          ranged = began_ranged;
          keyed = began_keyed;
        }

    -- ---- the nodes and the links

    -- what the nodes hold of each bearer is as before, of the new one nothing
    began_master_half : (c : Established) → Contains (established after_began) c → half c began_nodes.master ≡ half c w.nodes.master
    began_master_half c is = elim (began_back c is) [
      | inl same ↦ subst (λ c. half c began_nodes.master ≡ half c w.nodes.master) (sym same) (ap (or_fresh new_one) master_has ∙ sym (ap (or_fresh new_one) not_at_master))
      | inr old ↦ elim (cases_Bool (id == c.id)) [
        | inl same ↦
            let none : latest c.id (established t) ≡ None = subst (λ k. latest k (established t) ≡ None) (eqb-true id c.id same) not_established in
            let some = sound.tables.once c old in absurd cc
        | inr apart ↦ ap (or_fresh c) (master_other c.id apart)
      ]
    ]

    -- the legs are as before
    began_air : (d : Dir) → on links_began (leg d) ≡ on w.links (leg d)
    began_air = legs_same w.links None began.lines sound.long refl refl refl refl

    -- what sends is as before
    began_sender : (c : Established) (d : Dir) → Contains (established after_began) c → half c (sender_table d began_nodes) ≡ half c (sender_table d w.nodes)
    began_sender c Dl is = began_master_half c is
    began_sender c Ul is = refl

    -- what receives is as before
    began_receiver : (c : Established) (d : Dir) → Contains (established after_began) c → half c (receiver_table d began_nodes) ≡ half c (receiver_table d w.nodes)
    began_receiver c Dl is = refl
    began_receiver c Ul is = began_master_half c is

    -- the new bearer has sent nothing
    new_half : (d : Dir) → half new_one (sender_table d began_nodes) ≡ fresh new_one
    new_half Dl = ap (or_fresh new_one) master_has
    new_half Ul = ap (or_fresh new_one) not_at_terminal

    -- and received nothing
    new_receiver_half : (d : Dir) → half new_one (receiver_table d began_nodes) ≡ fresh new_one
    new_receiver_half Dl = ap (or_fresh new_one) not_at_terminal
    new_receiver_half Ul = ap (or_fresh new_one) master_has

    -- nothing was submitted to it
    new_unsubmitted : (d : Dir) → submitted new_one d after_began ≡ []
    new_unsubmitted d = submitted_same t began began_silent new_one d ∙ none_submitted new_one d t later

    -- it is served
    new_served : (d : Dir) → IsServed after_began began_nodes links_began new_one d
    new_served d = fresh_served after_began began_nodes links_began new_one d short (new_unsubmitted d)
        (handed_same t began began_silent new_one d ∙ none_handed new_one d t later)
        (confirmed_same t began began_silent new_one d ∙ none_confirmed new_one d t later)
        (λ num. tags_same t began began_silent (leg d) new_one.id new_one.g num ∙ sound.none_sent (leg d) new_one.id new_one.g num later)
        (new_half d) (new_receiver_half d)

    -- so every bearer is served
    began_served : (c : Established) (d : Dir) → Contains (established after_began) c → IsServed after_began began_nodes links_began c d
    began_served c d is = elim (began_back c is) [
      | inl same ↦ subst (λ c. IsServed after_began began_nodes links_began c d) (sym same) (new_served d)
      | inr old ↦
          let silent = began_silent in
          served_still t w.nodes w.links c d began began_nodes links_began (sound.served c d old) (silent.hands c d) (ap (λ e. e.rx) (began_receiver c d is))
          (silent.submits c d) (silent.confirms c d) (silent.tags (leg d) c.id c.g)
          (ap (λ e. e.tx) (began_sender c d is)) (ap (λ e. e.sent) (began_sender c d is)) (λ count flying. inr (subst (IsUnderWay c count) (sym (began_air d)) flying))
    ]

    -- ---- the command

    -- it alone is not at the terminal
    only_new : AllConfigured t w.nodes → (c : Established) → Contains (established after_began) c → bearer_in began_nodes.terminal c.id ≡ None → c ≡ new_one
    only_new all c is gone = elim (began_back c is) [ inl same ↦ same | inr old ↦ absurd (all c old gone) ]

    -- the command is open
    began_phase : Phase h after_began began_nodes links_began
    began_phase = elim sound.phase [
      | phase_idle none plans answers all ↦ phase_commanded new_one began_there shape threshold policy refl
          (on_moved w.links None began.lines mt_ctl sound.long ∙ ap (λ fs. fs ++ flight.Ctl (Reconf its_plan h.root) ∷ []) plans)
          (on_moved w.links None began.lines tm_ctl sound.long ∙ ap (λ fs. fs ++ []) answers)
          new_unsubmitted (ap (λ e. e.sent) (new_half Dl)) not_at_terminal (only_new all)
      | phase_commanded b there shape threshold policy busy plans answers none unsent lacks only ↦ absurd (is_busy (change b.g) busy)
      | phase_answered b there busy plans answers all ↦ absurd (is_busy (change b.g) busy)
      | phase_recovering b there busy plans answers all ↦ absurd (is_busy (recovery b.id) busy)
      | phase_recovered b there busy plans answers all ↦ absurd (is_busy (recovery b.id) busy)
    ]
      where
        -- no command was
        is_busy : (c : OpenCommand) → w.nodes.busy ≡ Some c → ⊥
        is_busy c busy = let some : is_some w.nodes.busy ≡ true = ap (λ o. is_some o) busy in cc

    -- it is new, or was there before
    began_before : (c : Established) → Contains (established after_began) c
        → Contains (established t) c ⊎ ((generation t < c.g) × (bearer_in w.nodes.master c.id ≡ None) × (bearer_in w.nodes.terminal c.id ≡ None))
    began_before c is = elim (began_back c is) [
      | inl same ↦ inr (subst (λ c. (generation t < c.g) × (bearer_in w.nodes.master c.id ≡ None) × (bearer_in w.nodes.terminal c.id ≡ None)) (sym same) (later, not_at_master, not_at_terminal))
      | inr old ↦ inl old
    ]

    -- all that it owes
    pub began_happened : is_mm shape ≡ true → nat_le policies policy ≡ false → Happened h policies t w began began_nodes
    began_happened mm known =
        let silent = began_silent in
        record {
          tables = began_tables;
          phase = began_phase;
          served = began_served;
          grows = grows_same t began w.nodes began_nodes began_on (λ c d is. ap (λ e. e.rx) (began_receiver c d (began_on c is)))
              (λ c d is num o at. subst (λ e. slice_get e.sent num ≡ Some o) (sym (began_sender c d (began_on c is))) at);
          sent = (tt, tt);
          none_sent = none_sent_still t began silent.tags sound.none_sent;
          protects = λ c d is. ((λ is_data. absurd is_data), tt);
          carried = λ c d is. none_carried c d t began (silent.hands c d);
          freed = λ c d is. silent.moves c d ∙ no_move _ _ (ap (λ e. low e.tx) (began_sender c d is));
          fresh_before = began_before;
          cause = began_cause mm known;
          licence = began_licence;
        }
