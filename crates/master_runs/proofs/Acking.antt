-- An ack is taken.
use Rattle.std.proofs.Common.{ℕ, ◌≡◌, ◌<◌, ◌==◌, ◌++◌, List, [], ◌∷◌, Option, Some, None, map, slice_get, refl, sym, ap, ◌∙◌, subst, inl, inr}
use Rattle.std.specs.Prelude.{Contains, nat_lt, if◌then◌else◌, ◌&&◌, fold}
use Rattle.std.specs.List.{flat_map}
use Rattle.std.proofs.lemmas.List.{append-nil}
use Rattle.std.proofs.lemmas.Bool.{cases_Bool, eqb-true, eq-eqb, cond-true, cond_both}
use Rattle.dc_base.specs.declared.nodes.Dir.{Dir}
use Rattle.dc_base.specs.declared.nodes.Dir.TheVariants.{Ul, Dl}
use Rattle.dc_base.specs.declared.nodes.LinkId.{LinkId}
use Rattle.dc_base.specs.declared.flights.Flight.{Flight}
use Rattle.dc_base.specs.declared.flights.Flight.TheVariants as flight
use Rattle.dc_base.specs.declared.answers.Answer.TheVariants as answer
use Rattle.dc_base.specs.declared.events.Header.{Header}
use Rattle.dc_base.specs.declared.events.Event.TheVariants.{Step}
use Rattle.dc_base.specs.declared.events.Line.{Line}
use Rattle.pdcp_tx.specs.Sender.{low}
use Rattle.pdcp_tx.specs.Sending.{confirm_count as without}
use Rattle.pdcp_rx.specs.Receiver.{Received}
use Rattle.transcript.specs.Transcript.{Entry, sends}
use Rattle.transcript.specs.Content.{mt_ctl, tm_ctl, mt_air, tm_air, given, on_link}
use Rattle.transcript.specs.Bearers.{Confirmation, acked, Established, established, is_generation_of, ends_command, has_after, submitted, up_of, freed_of, frees, confirmed_by, confirms, confirmed, tag_of, tags_sent, ups}
use Rattle.transcript.specs.Claims.{step_answer, HasCause}
use Rattle.master_runs.specs.Entities.{Entities, Table, bearer_in, with_bearer}
use Rattle.master_runs.specs.Plane.{leg, other, air_taken, taken_for, flight_taken, confirmed_at, freed_lines}
use Rattle.master_runs.specs.Control.{Nodes}
use Rattle.master_runs.specs.Links.{Links, on, moved}
use Rattle.master_runs.specs.Run.{WorldState}
use Rattle.transcript.proofs.Establishing.{is_latest_once, is_generation_once}
use Rattle.master_runs.proofs.Lane.{IsLane, lane_confirmed}
use Rattle.master_runs.proofs.Tables.{with_receiver, at_the_master, Keeps, half_at, sender_put, sender_put_same, sender_put_here, sender_put_apart, sender_put_rx, keeps_all, keeps_sender}
use Rattle.master_runs.proofs.Directions.{each_bearer, Apart, not_other}
use Rattle.master_runs.proofs.Plain.{IsPlain, there_then, there_before, tabled_same, phase_same}
use Rattle.master_runs.proofs.Served.{lane_same, served_next, served_still, lane_of}
use Rattle.master_runs.proofs.Silent.{no_ups, no_frees, no_move, none_carried, none_sent_still, grows_same, IsSilent, plain_happened, quiet_sent, quiet_protects, quiet_licence}
use Rattle.master_runs.proofs.Moving.{step_given, step_due}
use Rattle.master_runs.proofs.Leaving.{flying_after, control_down, control_up}
use Rattle.master_runs.proofs.Sound.{or_fresh, half, sender_table, receiver_table, IsGot, IsAckOf, IsUnderWay, listed, IsServed, Happened, Sound}
use Rattle.master_runs.proofs.Freeing.{freed_sends, freed_ups, freed_ends, freed_sets, freed_apart, freed_here, rising}

-- an ack that is given is neither out of order nor aged
ack_due : (d : Dir) (t : List Entry) (i id g num : ℕ) → step_answer t (leg (other d)) i (Some (flight.Ack id g num)) ≡ answer.Ok
ack_due Dl t i id g num = refl
ack_due Ul t i id g num = refl

module _ (h : Header) (policies : ℕ) (t : List Entry) (w : WorldState) (sound : Sound h policies t w) where
  -- an ack leaves a leg
  module _ (d : Dir) (i id g num : ℕ) (lines : List Line) (at : slice_get (on w.links (leg (other d))) i ≡ Some (flight.Ack id g num)) where
    -- what happens
    abbrev entry : Entry
    entry = record { event = Step (leg (other d)) i; answer = answer.Ok; lines = lines }

    -- PDUs under way are so
    flying : (b : Established) (d' : Dir) (k : ℕ) → IsUnderWay b k (on w.links (leg d')) → IsUnderWay b k (on (moved w.links (Some (leg (other d), i)) lines) (leg d'))
    flying b d' k way = elim (flying_after w.links sound.long (other d) i (flight.Ack id g num) at lines b d' k way) [ inl it ↦ absurd it.1 | inr still ↦ still ]

    -- the ack is given
    given_is : given t entry ≡ Some (leg (other d), flight.Ack id g num)
    given_is = step_given t w.links sound.contents (leg (other d)) i (flight.Ack id g num) at lines

    -- its answer is due
    ack_cause : HasCause policies t entry
    ack_cause = sym (step_due t w.links sound.contents (leg (other d)) i (flight.Ack id g num) at ∙ ack_due d t i id g num)

  -- ---- an ack that confirms nothing

  module _ (d : Dir) (i id g num : ℕ) (s' : Nodes) (at : slice_get (on w.links (leg (other d))) i ≡ Some (flight.Ack id g num)) (keeps : Keeps w.nodes s')
      (still : (b : Established) (k : Dir) → half b (sender_table k s') ≡ half b (sender_table k w.nodes))
      (none : (b : Established) → confirmed_by b Dl t (Some (leg (other d), flight.Ack id g num)) ≡ []) where
    -- the node does nothing
    abbrev unheeded : Entry
    unheeded = record { event = Step (leg (other d)) i; answer = answer.Ok; lines = [] }

    -- in uplink none does
    none_confirmed_by : (b : Established) (k : Dir) → confirmed_by b k t (Some (leg (other d), flight.Ack id g num)) ≡ []
    none_confirmed_by b Ul = refl
    none_confirmed_by b Dl = none b

    -- it carries no data
    unheeded_silent : IsSilent t unheeded
    unheeded_silent = record {
      submits = λ b k. refl;
      hands = λ b k. no_ups b k t unheeded refl;
      moves = λ b k. no_frees b k t unheeded refl;
      confirms = λ b k. ap (confirmed_by b k t) (given_is d i id g num [] at) ∙ none_confirmed_by b k;
      tags = λ l id g num. refl;
    }

    -- so all is kept
    unheeded_happened : Happened h policies t w unheeded s'
    unheeded_happened =
        plain_happened h policies t w sound unheeded s' unheeded_silent refl still
        (record { undrawn = record { no_plan = λ g. refl; no_draw = refl }; no_open = λ g o. refl; no_end = λ g. refl; no_set = λ k has. refl }) keeps
        (control_down w.links sound.long (other d) i (flight.Ack id g num) at [] refl) (control_up w.links sound.long (other d) i (flight.Ack id g num) at [] refl)
        (λ b k there c way. inr (flying d i id g num [] at b k c way)) (ack_cause d i id g num [] at)

  -- ---- an ack of uplink, at the terminal

  -- what the terminal made of a flight happened
  abbrev AtTerminal : ℕ → Table × List Line → Type 0
  AtTerminal i q = Happened h policies t w (record { event = Step mt_air i; answer = answer.Ok; lines = q.1 }) (record w.nodes { terminal = q.0 })

  -- the terminal takes an ack
  terminal_takes : (i id g num : ℕ) → slice_get (on w.links mt_air) i ≡ Some (flight.Ack id g num) → (found : Option Entities) → bearer_in w.nodes.terminal id ≡ found
      → AtTerminal i (taken_for h Dl w.nodes.terminal id (flight.Ack id g num) found)
  terminal_takes i id g num at None is = unheeded_happened Ul i id g num w.nodes at (keeps_all w.nodes) (λ b d. refl) (λ b. refl)
  terminal_takes i id g num at (Some e) is =
      let nothing : flight_taken h Dl e (flight.Ack id g num) ≡ (e, []) = elim (cases_Bool (g == e.bearer.g)) [ inl same ↦ rw same refl | inr apart ↦ rw apart refl ] in
      subst (λ (q : Entities × List Line). AtTerminal i (with_bearer w.nodes.terminal id (Some q.0), q.1)) (sym nothing)
      (unheeded_happened Ul i id g num (sender_put Ul w.nodes id e) at (keeps_sender Ul w.nodes id e e is refl)
      (λ b d. sender_put_same (or_fresh b) Ul w.nodes id e e is refl d b.id) (λ b. refl))

  -- ---- an ack of downlink, at the master

  -- what the master made of a flight happened
  abbrev AtMaster : ℕ → Table × List Line → Type 0
  AtMaster i q = Happened h policies t w (record { event = Step tm_air i; answer = answer.Ok; lines = q.1 }) (record w.nodes { master = q.0 })

  -- the master takes an ack of a PDU that it sent, of its own bearer
  master_takes : (e : Entities) (num : ℕ) (o : Option ℕ) → bearer_in w.nodes.master e.bearer.id ≡ Some e → slice_get e.sent num ≡ Some o
      → let done = confirmed_at e (Some o) in
      air_taken h Ul w.nodes.master (flight.Ack e.bearer.id e.bearer.g num) ≡ (with_bearer w.nodes.master e.bearer.id (Some done.0), done.1)
  master_takes e num o at sent_there =
      let b = e.bearer in
      let for_it : flight_taken h Ul e (flight.Ack b.id b.g num) ≡ confirmed_at e (Some o) = cond-true _ _ _ (eq-eqb b.g b.g refl) ∙ ap (confirmed_at e) sent_there in
      ap (taken_for h Ul w.nodes.master b.id (flight.Ack b.id b.g num)) at
      ∙ ap (λ (q : Entities × List Line). (with_bearer w.nodes.master b.id (Some q.0), q.1)) for_it

  -- the COUNT of the PDU is that of its place
  tags_of : (e : Entities) (num : ℕ) (o : Option ℕ) → Contains (established t) e.bearer → bearer_in w.nodes.master e.bearer.id ≡ Some e → slice_get e.sent num ≡ Some o
      → tags_sent mt_air e.bearer.id e.bearer.g num t ≡ listed (Some o)
  tags_of e num o here at sent_there =
      (sound.served e.bearer Dl here).numbers num ∙ ap (λ (x : Entities). listed (slice_get x.sent num)) (half_at e.bearer w.nodes.master e.bearer.id e at refl) ∙ ap listed sent_there

  -- an ack of a control PDU confirms nothing
  none_acked : (id g num : ℕ) → tags_sent mt_air id g num t ≡ [] → (b : Established) → confirmed_by b Dl t (Some (tm_air, flight.Ack id g num)) ≡ []
  none_acked id g num none b =
      ap (λ (cs : List ℕ). if (id == b.id) && is_generation_of b g t then map acked cs else []) none
      ∙ cond_both ((id == b.id) && is_generation_of b g t) [] [] (λ (cs : List Confirmation). cs ≡ []) (λ is. refl) (λ is. refl)

  module _ (i : ℕ) (e : Entities) (num count : ℕ) (here : Contains (established t) e.bearer) (at : bearer_in w.nodes.master e.bearer.id ≡ Some e)
      (sent_there : slice_get e.sent num ≡ Some (Some count)) (got : Received (half e.bearer w.nodes.terminal).rx count)
      (placed : slice_get (on w.links tm_air) i ≡ Some (flight.Ack e.bearer.id e.bearer.g num)) where
    -- the bearer
    abbrev b : Established
    b = e.bearer

    -- what the master holds of the bearer then
    abbrev e' : Entities
    e' = record e { tx = without e.tx count }

    -- what the nodes hold then
    abbrev after : Nodes
    after = record w.nodes { master = with_bearer w.nodes.master b.id (Some e') }

    -- it tells where Low is, if it rises
    abbrev lines : List Line
    lines = freed_lines b.id Dl (low e.tx) (low e'.tx)

    -- it is all that it says
    lines_are : lines ≡ lines ++ []
    lines_are = sym (append-nil lines)

    -- what happens
    abbrev heeded : Entry
    heeded = record { event = Step tm_air i; answer = answer.Ok; lines = lines }

    -- no generation is drawn
    plain : IsPlain heeded
    plain = record {
      undrawn = record { no_plan = λ g. refl; no_draw = refl };
      no_open = λ g o. refl;
      no_end = λ g. ap (fold ends_command g) lines_are ∙ freed_ends g b.id Dl (low e.tx) (low e'.tx) [];
      no_set = λ k has. ap (fold (has_after k) has) lines_are ∙ freed_sets k has b.id Dl (low e.tx) (low e'.tx) [];
    }

    -- each place keeps its bearer
    keeps : Keeps w.nodes after
    keeps = keeps_sender Dl w.nodes b.id e e' at refl

    -- and its receiving side
    rx_still : (b' : Established) (d' : Dir) → (half b' (receiver_table d' after)).rx ≡ (half b' (receiver_table d' w.nodes)).rx
    rx_still b' d' = sender_put_rx Dl w.nodes b.id e e' at refl b' d'

    -- what the links hold then
    abbrev left_links : Links
    left_links = moved w.links (Some (tm_air, i)) lines

    -- nothing is sent
    silent : sends lines ≡ []
    silent = ap sends lines_are ∙ freed_sends b.id Dl (low e.tx) (low e'.tx) []

    -- so no PDU is
    no_tags : (l : LinkId) (id g k : ℕ) → flat_map (tag_of l id g k) (sends lines) ≡ []
    no_tags l id g k = ap (flat_map (tag_of l id g k)) silent

    -- nothing goes up
    nothing_up : (b' : Established) (d' : Dir) → ups b' d' t heeded ≡ []
    nothing_up b' d' = no_ups b' d' t heeded (ap (flat_map (up_of b' d')) lines_are ∙ freed_ups b' d' b.id Dl (low e.tx) (low e'.tx) [])

    -- PDUs under way are so
    flying_here : (b' : Established) (d' : Dir) (k : ℕ) → IsUnderWay b' k (on w.links (leg d')) → IsUnderWay b' k (on left_links (leg d'))
    flying_here = flying Dl i b.id b.g num lines placed

    -- the ack is given
    given_here : given t heeded ≡ Some (tm_air, flight.Ack b.id b.g num)
    given_here = given_is Dl i b.id b.g num lines placed

    -- what the master held of the bearer
    half_before : half b w.nodes.master ≡ e
    half_before = half_at b w.nodes.master b.id e at refl

    -- and holds then
    half_after : half b after.master ≡ e'
    half_after = sender_put_here Dl w.nodes b b.id e e' at refl

    -- the bearer was served
    was : IsServed t w.nodes w.links b Dl
    was = sound.served b Dl here

    -- so was what the master held
    lane : IsLane b.n b.first (submitted b Dl t) (confirmed b Dl t) e.tx e.sent (half b w.nodes.terminal).rx
    lane = lane_of t w.nodes w.links b Dl e was half_before

    -- the COUNT is confirmed
    confirms_here : confirms b Dl t heeded ≡ acked count ∷ []
    confirms_here =
        ap (confirmed_by b Dl t) given_here
        ∙ rw (eq-eqb b.id b.id refl, is_generation_once t b sound.tables.once here) (ap (map acked) (tags_of e num (Some count) here at sent_there))

    -- and for no other bearer or direction
    confirms_apart : (b' : Established) (d' : Dir) → Apart Dl b.id d' b'.id → confirms b' d' t heeded ≡ []
    confirms_apart b' Dl (inl turned) = absurd (not_other Dl turned)
    confirms_apart b' Dl (inr apart) = ap (confirmed_by b' Dl t) given_here ∙ rw apart refl
    confirms_apart b' Ul apart = ap (confirmed_by b' Ul t) given_here

    -- the PDUs on each leg have their numbers
    sent_still : (b' : Established) (d' : Dir) → (half b' (sender_table d' after)).sent ≡ (half b' (sender_table d' w.nodes)).sent
    sent_still b' d' = sender_put_same (λ o. (or_fresh b' o).sent) Dl w.nodes b.id e e' at refl d' b'.id

    -- the bearer is served
    served_here : IsServed (t ++ heeded ∷ []) after left_links b Dl
    served_here =
        served_next t w.nodes w.links b Dl heeded after left_links was (nothing_up b Dl) (rx_still b Dl)
        (lane_same b.n b.first _ _ _ _ _ _ _ _ _ _ (append-nil (submitted b Dl t)) (ap (λ cs. confirmed b Dl t ++ cs) confirms_here)
        (ap (λ (x : Entities). x.tx) half_after) (ap (λ (x : Entities). x.sent) half_after) refl
        (lane_confirmed b.n b.first (submitted b Dl t) (confirmed b Dl t) e.tx e.sent (half b w.nodes.terminal).rx lane (acked count)
        (λ c from is. subst (Received (half b w.nodes.terminal).rx) (sym (eqb-true c count is)) got)))
        (λ k from below.
        let before : k < e.tx.next = subst (λ (x : Entities). k < x.tx.next) half_after below in
        elim (was.owed k from (subst (λ (x : Entities). k < x.tx.next) (sym half_before) before)) [
          | inl got' ↦ inl got'
          | inr under ↦ inr (flying_here b Dl k under)
        ])
        (λ n.
        ap (λ xs. tags_sent (leg Dl) b.id b.g n t ++ xs) (no_tags (leg Dl) b.id b.g n) ∙ append-nil (tags_sent (leg Dl) b.id b.g n t)
        ∙ was.numbers n ∙ ap (λ (x : Entities). listed (slice_get x.sent n)) half_before ∙ ap (λ (x : Entities). listed (slice_get x.sent n)) (sym half_after))

    -- so is every other
    served_all : (b' : Established) (d' : Dir) → Contains (established t) b' → IsServed (t ++ heeded ∷ []) after left_links b' d'
    served_all = each_bearer (established t) sound.tables.once b here Dl b.id refl (λ x k. IsServed (t ++ heeded ∷ []) after left_links x k) served_here (λ b' d' there apart.
        let same : half b' (sender_table d' after) ≡ half b' (sender_table d' w.nodes) = sender_put_apart Dl w.nodes b.id e' b' d' apart in
        served_still t w.nodes w.links b' d' heeded after left_links (sound.served b' d' there) (nothing_up b' d') (rx_still b' d') refl (confirms_apart b' d' apart)
        (λ n. no_tags (leg d') b'.id b'.g n) (ap (λ (x : Entities). x.tx) same) (ap (λ (x : Entities). x.sent) same) (λ k way. inr (flying_here b' d' k way)))

    -- its window moves where Low rises, and no other
    freed_all : (b' : Established) (d' : Dir) → Contains (established t) b'
        → frees b' d' t heeded ≡ (if nat_lt (low (half b' (sender_table d' w.nodes)).tx) (low (half b' (sender_table d' after)).tx) then low (half b' (sender_table d' after)).tx ∷ [] else [])
    freed_all b' d' there =
        cond-true _ _ _ (is_latest_once t b' sound.tables.once there)
        ∙ each_bearer (established t) sound.tables.once b here Dl b.id refl (λ x k. flat_map (freed_of x k) lines ≡ rising (half x (sender_table k w.nodes)) (half x (sender_table k after)))
        (ap (flat_map (freed_of b Dl)) lines_are ∙ freed_here b Dl (low e.tx) (low e'.tx) [] ∙ append-nil _ ∙ ap (λ x. rising x e') (sym half_before) ∙ ap (rising (half b w.nodes.master)) (sym half_after))
        (λ x k there apart. ap (flat_map (freed_of x k)) lines_are ∙ freed_apart x k b.id Dl (low e.tx) (low e'.tx) [] apart ∙ no_move _ _ (ap (λ (x : Entities). low x.tx) (sender_put_apart Dl w.nodes b.id e' x k apart))) b' d' there

    -- so all is kept
    heeded_happened : Happened h policies t w heeded after
    heeded_happened =
        let before = there_before t heeded plain.undrawn in
        record {
          tables = tabled_same t heeded plain w.nodes after keeps sound.tables;
          phase = phase_same t heeded plain w.nodes after keeps h w.links left_links
              (control_down w.links sound.long Ul i _ placed lines (ap (flat_map (on_link mt_ctl)) silent)) (control_up w.links sound.long Ul i _ placed lines (ap (flat_map (on_link tm_ctl)) silent))
              (λ b' there busy absent d'. refl) (λ b' there busy. sent_still b' Dl) sound.phase;
          served = λ b' d' there. served_all b' d' (before b' there);
          grows = grows_same t heeded w.nodes after (there_then t heeded plain.undrawn) (λ b' d' there. rx_still b' d')
              (λ b' d' there k o is. subst (λ xs. slice_get xs k ≡ Some o) (sym (sent_still b' d')) is);
          sent = quiet_sent h t heeded silent after;
          none_sent = none_sent_still t heeded no_tags sound.none_sent;
          protects = λ b' d' there. quiet_protects h t heeded silent b' d';
          carried = λ b' d' there. none_carried b' d' t heeded (nothing_up b' d');
          freed = λ b' d' there. freed_all b' d' (before b' there);
          fresh_before = λ b' there. inl (before b' there);
          cause = ack_cause Dl i b.id b.g num lines placed;
          licence = quiet_licence h t heeded silent;
        }

  -- the master takes an ack of what it sent
  heard : (i : ℕ) (e : Entities) (num : ℕ) (o : Option ℕ) → Contains (established t) e.bearer → bearer_in w.nodes.master e.bearer.id ≡ Some e
      → slice_get e.sent num ≡ Some o → IsGot e.bearer (half e.bearer w.nodes.terminal).rx o → slice_get (on w.links tm_air) i ≡ Some (flight.Ack e.bearer.id e.bearer.g num)
      → AtMaster i (air_taken h Ul w.nodes.master (flight.Ack e.bearer.id e.bearer.g num))
  heard i e num None here at sent_there got placed =
      let b = e.bearer in
      subst (AtMaster i) (sym (master_takes e num None at sent_there))
      (unheeded_happened Dl i b.id b.g num (sender_put Dl w.nodes b.id e) placed (keeps_sender Dl w.nodes b.id e e at refl)
      (λ x k. sender_put_same (or_fresh x) Dl w.nodes b.id e e at refl k x.id) (none_acked b.id b.g num (tags_of e num None here at sent_there)))
  heard i e num (Some count) here at sent_there got placed =
      subst (AtMaster i) (sym (master_takes e num (Some count) at sent_there)) (heeded_happened i e num count here at sent_there got.1 placed)

  -- an ack of direction d's PDUs is taken from the other leg
  pub ack_happened : (d : Dir) (i : ℕ) (f : Flight) → slice_get (on w.links (leg (other d))) i ≡ Some f → IsAckOf t w.nodes d f
      → let done = air_taken h (other d) (receiver_table (other d) w.nodes) f in
      Happened h policies t w (record { event = Step (leg (other d)) i; answer = answer.Ok; lines = done.1 }) (with_receiver (other d) w.nodes done.0)
  ack_happened Dl i f at ack =
      let found = at_the_master t w.nodes sound.tables ack.bearer ack.there in
      let e = found.0 in let is = found.2 in
      let here : Contains (established t) e.bearer = subst (λ x. Contains (established t) x) (sym is) ack.there in
      let at_id : bearer_in w.nodes.master e.bearer.id ≡ Some e = ap (λ (x : Established). bearer_in w.nodes.master x.id) is ∙ found.1 in
      let sent_there : slice_get e.sent ack.num ≡ Some ack.sent = subst (λ (x : Option Entities). slice_get (or_fresh ack.bearer x).sent ack.num ≡ Some ack.sent) found.1 ack.numbered in
      let got : IsGot e.bearer (half e.bearer w.nodes.terminal).rx ack.sent = subst (λ x. IsGot x (half x w.nodes.terminal).rx ack.sent) (sym is) ack.got in
      let f_is : f ≡ flight.Ack e.bearer.id e.bearer.g ack.num = ack.is ∙ ap (λ (x : Established). flight.Ack x.id x.g ack.num) (sym is) in
      subst (λ x. AtMaster i (air_taken h Ul w.nodes.master x)) (sym f_is) (heard i e ack.num ack.sent here at_id sent_there got (at ∙ ap Some f_is))
  ack_happened Ul i f at ack =
      let b = ack.bearer in
      subst (λ x. AtTerminal i (air_taken h Dl w.nodes.terminal x)) (sym ack.is)
      (terminal_takes i b.id b.g ack.num (at ∙ ap Some ack.is) (bearer_in w.nodes.terminal b.id) refl)
