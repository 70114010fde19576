-- A status report is asked for and sent, or comes.
use Rattle.std.proofs.Common.{ℕ, ◌≡◌, ◌<◌, ◌≤◌, ◌++◌, List, [], ◌∷◌, Option, Some, None, true, false, Ok, slice_get, refl, sym, ap, ◌∙◌, subst, inl, inr}
use Rattle.std.specs.Prelude.{Contains, nat_lt, if◌then◌else◌}
use Rattle.std.specs.List.{flat_map}
use Rattle.std.proofs.lemmas.List.{append-nil}
use Rattle.std.proofs.lemmas.Option.{none-some}
use Rattle.std.proofs.lemmas.Bool.{cases_Bool, eq-eqb, cond-true}
use Rattle.dc_base.specs.declared.nodes.Dir.{Dir}
use Rattle.dc_base.specs.declared.nodes.Dir.TheVariants.{Ul, Dl}
use Rattle.dc_base.specs.declared.nodes.LinkId.{LinkId}
use Rattle.dc_base.specs.declared.flights.Flight.{Flight}
use Rattle.dc_base.specs.declared.flights.Flight.TheVariants as flight
use Rattle.dc_base.specs.declared.answers.Answer.TheVariants as answer
use Rattle.dc_base.specs.declared.events.Header.{Header}
use Rattle.dc_base.specs.declared.events.Event.TheVariants.{Report, Step}
use Rattle.dc_base.specs.declared.events.Line.{Line}
use Rattle.pdcp_pdu.specs.Bitmap.{names}
use Rattle.pdcp_pdu.specs.Pdu.{report, decoded}
use Rattle.pdcp_tx.specs.Sender.{Sender, low}
use Rattle.pdcp_tx.specs.Sending.{take_report as without_named}
use Rattle.pdcp_rx.specs.Receiver.{Received}
use Rattle.dc_base.specs.Links.{is_to}
use Rattle.transcript.specs.Transcript.{Entry, sends}
use Rattle.transcript.specs.Content.{mt_ctl, tm_ctl, given, on_link}
use Rattle.transcript.specs.Bearers.{Established, reported, established, submitted, ups, freed_of, frees, read_of, confirmed_by, confirms, confirmed, tag_of, tags_sent, at_submitter, submitter}
use Rattle.transcript.specs.Claims.{step_answer, HasCause}
use Rattle.transcript.proofs.Establishing.{is_latest_once, is_generation_once}
use Rattle.master_runs.specs.Entities.{Entities, Table, bearer_in, with_bearer}
use Rattle.master_runs.specs.Plane.{leg, other, air_taken, taken_for, flight_taken, pdu_taken, freed_lines, ack_line, reports}
use Rattle.master_runs.specs.Control.{Nodes}
use Rattle.master_runs.specs.Links.{Links, on, moved}
use Rattle.master_runs.specs.Run.{WorldState}
use Rattle.master_runs.proofs.Asking.{asked_happened}
use Rattle.master_runs.proofs.Lane.{IsLane, lane_confirmed}
use Rattle.master_runs.proofs.Tables.{with_sender, with_receiver, Keeps, receiver_put, receiver_put_same, keeps_receiver, half_back, put_back_here, put_back_apart, put_back_rx}
use Rattle.master_runs.proofs.Directions.{each_bearer, Apart}
use Rattle.master_runs.proofs.Plain.{IsPlain, there_then, there_before, tabled_same, phase_same}
use Rattle.master_runs.proofs.Served.{lane_same, served_next, served_still, lane_of}
use Rattle.master_runs.proofs.Silent.{no_ups, no_move, none_carried, none_sent_still, grows_same}
use Rattle.master_runs.proofs.Moving.{step_given, step_due}
use Rattle.master_runs.proofs.Leaving.{no_command, no_completion, flying_after, control_down, control_up}
use Rattle.master_runs.proofs.Having.{receiver_has}
use Rattle.master_runs.proofs.Sound.{or_fresh, half, sender_table, receiver_table, IsUnderWay, IsNumberOf, IsReportOf, IsAckOf, listed, IsServed, Happened, Sound}
use Rattle.master_runs.proofs.Freeing.{freed_sends, freed_ups, freed_ends, freed_sets, freed_apart, freed_here, rising}
use Rattle.master_runs.proofs.Taking.{pdu_confirms}
use Rattle.master_runs.proofs.Confirming.{confirm_sent, confirm_protects, confirm_licence}

-- ---- what comes on a leg

-- what comes on a leg comes to the submitter of the other direction
comes_back : (d : Dir) → is_to (submitter (other d)) (leg d) ≡ true
comes_back Dl = refl
comes_back Ul = refl

-- and not to its own
not_own : (d : Dir) → is_to (submitter (other (other d))) (leg d) ≡ false
not_own Dl = refl
not_own Ul = refl

-- a report is neither out of order nor aged
report_due : (d : Dir) (t : List Entry) (i id g num : ℕ) (pdu : List ℕ) → step_answer t (leg d) i (Some (flight.Air id g num None pdu)) ≡ answer.Ok
report_due Dl t i id g num pdu = refl
report_due Ul t i id g num pdu = refl

module _ (h : Header) (policies : ℕ) (t : List Entry) (w : WorldState) (sound : Sound h policies t w) where
  -- ---- one report

  module _ (d : Dir) (i : ℕ) (r : Entities) (here : Contains (established t) r.bearer) (has : bearer_in (receiver_table d w.nodes) r.bearer.id ≡ Some r)
      (num : ℕ) (numbered : IsNumberOf w.nodes r.bearer d num None) (pdu : List ℕ) (fmc : ℕ) (bits : List ℕ) (read : decoded r.bearer.n pdu ≡ Ok (report fmc bits))
      (named : (c : ℕ) → r.bearer.first ≤ c → names fmc bits c ≡ true → Received (half r.bearer (receiver_table (other d) w.nodes)).rx c)
      (at : slice_get (on w.links (leg d)) i ≡ Some (flight.Air r.bearer.id r.bearer.g num None pdu)) where
    -- the bearer
    abbrev b : Established
    b = r.bearer

    -- the flight
    abbrev f : Flight
    f = flight.Air b.id b.g num None pdu

    -- the sending entity then
    abbrev tx' : Sender
    tx' = without_named r.tx fmc bits

    -- what the node holds of the bearer then
    abbrev r' : Entities
    r' = record r { tx = tx' }

    -- what the nodes hold then
    abbrev after : Nodes
    after = receiver_put d w.nodes b.id r'

    -- the confirm
    abbrev ack : List Line
    ack = ack_line b d num ∷ []

    -- it tells where Low is, if it rises, and confirms the report
    abbrev lines : List Line
    lines = freed_lines b.id (other d) (low r.tx) (low tx') ++ ack

    -- what happens
    abbrev entry : Entry
    entry = record { event = Step (leg d) i; answer = answer.Ok; lines = lines }

    -- what the links hold then
    abbrev links' : Links
    links' = moved w.links (Some (leg d, i)) lines

    -- it is plain
    plain : IsPlain entry
    plain = record {
      undrawn = record { no_plan = λ g. refl; no_draw = refl };
      no_open = λ g o. refl;
      no_end = λ o. freed_ends o b.id (other d) (low r.tx) (low tx') ack;
      no_set = λ k has'. freed_sets k has' b.id (other d) (low r.tx) (low tx') ack;
    }

    -- each place keeps its bearer
    keeps : Keeps w.nodes after
    keeps = keeps_receiver d w.nodes b.id r r' has refl

    -- and its receiving side
    rx_still : (x : Established) (k : Dir) → (half x (receiver_table k after)).rx ≡ (half x (receiver_table k w.nodes)).rx
    rx_still x k = put_back_rx d w.nodes b.id r r' has refl x k

    -- and its numbers
    sent_still : (x : Established) (k : Dir) → (half x (sender_table k after)).sent ≡ (half x (sender_table k w.nodes)).sent
    sent_still x k = receiver_put_same (λ o. (or_fresh x o).sent) d w.nodes b.id r r' has refl k x.id

    -- ---- what the entry says

    -- it sends the confirm alone
    sends_are : sends lines ≡ (leg (other d), flight.Ack b.id b.g num) ∷ []
    sends_are = freed_sends b.id (other d) (low r.tx) (low tx') ack

    -- no PDU with a COUNT is sent
    no_tags : (l : LinkId) (id g k : ℕ) → flat_map (tag_of l id g k) (sends lines) ≡ []
    no_tags l id g k = ap (λ ss. flat_map (tag_of l id g k) ss) sends_are

    -- nothing goes up
    nothing_up : (x : Established) (k : Dir) → ups x k t entry ≡ []
    nothing_up x k = no_ups x k t entry (freed_ups x k b.id (other d) (low r.tx) (low tx') ack)

    -- the report is given
    given_is : given t entry ≡ Some (leg d, f)
    given_is = step_given t w.links sound.contents (leg d) i f at lines

    -- what was under way is so still
    flying : (x : Established) (k : Dir) (c : ℕ) → IsUnderWay x c (on w.links (leg k)) → IsUnderWay x c (on links' (leg k))
    flying x k c way = elim (flying_after w.links sound.long d i f at lines x k c way) [ inl it ↦ absurd (none-some c it.1.2) | inr still ↦ still ]

    -- it confirms what it names of the bearer, sent the other way
    confirms_here : confirms b (other d) t entry ≡ reported fmc bits ∷ []
    confirms_here =
        ap (confirmed_by b (other d) t) given_is ∙ pdu_confirms b (other d) t (leg d) b.id b.g num None pdu
        ∙ rw (comes_back d, eq-eqb b.id b.id refl, is_generation_once t b sound.tables.once here) (ap read_of read)

    -- and nothing for any other
    confirms_apart : (x : Established) (k : Dir) → Apart (other d) b.id k x.id → confirms x k t entry ≡ []
    confirms_apart x k apart =
        ap (confirmed_by x k t) given_is ∙ pdu_confirms x k t (leg d) b.id b.g num None pdu
        ∙ elim apart [
          | inl turned ↦
              let own : is_to (submitter k) (leg d) ≡ false = ap (λ j. is_to (submitter j) (leg d)) turned ∙ not_own d in
              rw own refl
          | inr unlike ↦ elim (cases_Bool (is_to (submitter k) (leg d))) [ inl yes' ↦ rw (yes', unlike) refl | inr no' ↦ rw no' refl ]
        ]

    -- ---- the bearer

    -- what the node held of it
    half_before : half b (sender_table (other d) w.nodes) ≡ r
    half_before = half_back d w.nodes b r has

    -- and holds then
    half_after : half b (sender_table (other d) after) ≡ r'
    half_after = put_back_here d w.nodes b r r' has

    -- the bearer was served
    was : IsServed t w.nodes w.links b (other d)
    was = sound.served b (other d) here

    -- so was what the node held
    lane : IsLane b.n b.first (submitted b (other d) t) (confirmed b (other d) t) r.tx r.sent (half b (receiver_table (other d) w.nodes)).rx
    lane = lane_of t w.nodes w.links b (other d) r was half_before

    -- the bearer is served
    served_here : IsServed (t ++ entry ∷ []) after links' b (other d)
    served_here =
        served_next t w.nodes w.links b (other d) entry after links' was (nothing_up b (other d)) (rx_still b (other d))
        (lane_same b.n b.first _ _ _ _ _ _ _ _ _ _ (append-nil (submitted b (other d) t)) (ap (λ cs. confirmed b (other d) t ++ cs) confirms_here)
        (ap (λ (x : Entities). x.tx) half_after) (ap (λ (x : Entities). x.sent) half_after) refl
        (lane_confirmed b.n b.first (submitted b (other d) t) (confirmed b (other d) t) r.tx r.sent (half b (receiver_table (other d) w.nodes)).rx lane (reported fmc bits) named))
        (λ k from below.
        let before = subst (λ (x : Entities). k < x.tx.next) half_after below in
        elim (was.owed k from (subst (λ (x : Entities). k < x.tx.next) (sym half_before) before)) [
          | inl got ↦ inl got
          | inr way ↦ inr (flying b (other d) k way)
        ])
        (λ n.
        ap (λ xs. tags_sent (leg (other d)) b.id b.g n t ++ xs) (no_tags (leg (other d)) b.id b.g n) ∙ append-nil _
        ∙ was.numbers n ∙ ap (λ xs. listed (slice_get xs n)) (sym (sent_still b (other d))))

    -- so is every other
    served_all : (x : Established) (k : Dir) → Contains (established t) x → IsServed (t ++ entry ∷ []) after links' x k
    served_all = each_bearer (established t) sound.tables.once b here (other d) b.id refl (λ x k. IsServed (t ++ entry ∷ []) after links' x k) served_here (λ x k there apart.
        let same : half x (sender_table k after) ≡ half x (sender_table k w.nodes) = put_back_apart d w.nodes b.id r' x k apart in
        served_still t w.nodes w.links x k entry after links' (sound.served x k there) (nothing_up x k) (rx_still x k) refl (confirms_apart x k apart)
        (λ n. no_tags (leg k) x.id x.g n) (ap (λ (y : Entities). y.tx) same) (sent_still x k) (λ c way. inr (flying x k c way)))

    -- its window moves where Low rises, and no other
    freed_all : (x : Established) (k : Dir) → Contains (established t) x
        → frees x k t entry ≡ (if nat_lt (low (half x (sender_table k w.nodes)).tx) (low (half x (sender_table k after)).tx) then low (half x (sender_table k after)).tx ∷ [] else [])
    freed_all x k there =
        cond-true _ _ _ (is_latest_once t x sound.tables.once there)
        ∙ each_bearer (established t) sound.tables.once b here (other d) b.id refl (λ x k. flat_map (freed_of x k) lines ≡ rising (half x (sender_table k w.nodes)) (half x (sender_table k after)))
        (freed_here b (other d) (low r.tx) (low tx') ack ∙ append-nil _ ∙ ap (λ y. rising y r') (sym half_before) ∙ ap (rising (half b (sender_table (other d) w.nodes))) (sym half_after))
        (λ x k there apart. freed_apart x k b.id (other d) (low r.tx) (low tx') ack apart ∙ no_move _ _ (ap (λ (y : Entities). low y.tx) (put_back_apart d w.nodes b.id r' x k apart))) x k there

    -- ---- the confirm

    -- numbers of the legs stay
    numbers_stay : (x : Established) (k : Dir) (n : ℕ) (sent : Option ℕ) → IsNumberOf w.nodes x k n sent → IsNumberOf after x k n sent
    numbers_stay x k n sent is = ap (λ xs. slice_get xs n) (sent_still x k) ∙ is

    -- its promise holds
    the_ack : IsAckOf (t ++ entry ∷ []) after d (flight.Ack b.id b.g num)
    the_ack = record {
      bearer = b;
      there = there_then t entry plain.undrawn b here;
      num = num;
      sent = None;
      numbered = numbers_stay b d num None numbered;
      got = tt;
      is = refl;
    }

    -- the answer that was due
    cause_is : HasCause policies t entry
    cause_is = sym (step_due t w.links sound.contents (leg d) i f at ∙ report_due d t i b.id b.g num pdu)

    -- so all is kept
    heeded_happened : Happened h policies t w entry after
    heeded_happened =
        let before = there_before t entry plain.undrawn in
        record {
          tables = tabled_same t entry plain w.nodes after keeps sound.tables;
          phase = phase_same t entry plain w.nodes after keeps h w.links links'
              (control_down w.links sound.long d i f at lines (ap (λ ss. flat_map (on_link mt_ctl) ss) sends_are ∙ no_command (other d) (flight.Ack b.id b.g num)))
              (control_up w.links sound.long d i f at lines (ap (λ ss. flat_map (on_link tm_ctl) ss) sends_are ∙ no_completion (other d) (flight.Ack b.id b.g num)))
              (λ x there busy absent k. refl) (λ x there busy. sent_still x Dl) sound.phase;
          served = λ x k there. served_all x k (before x there);
          grows = grows_same t entry w.nodes after (there_then t entry plain.undrawn) (λ x k there. rx_still x k) (λ x k there. numbers_stay x k);
          sent = confirm_sent h t entry d b.id b.g num sends_are after the_ack;
          none_sent = none_sent_still t entry no_tags sound.none_sent;
          protects = λ x k there. confirm_protects h t entry d b.id b.g num sends_are x k;
          carried = λ x k there. none_carried x k t entry (nothing_up x k);
          freed = λ x k there. freed_all x k (before x there);
          fresh_before = λ x there. inl (before x there);
          cause = cause_is;
          licence = confirm_licence h t entry d b.id b.g num sends_are None pdu given_is;
        }

    -- what the node's rule makes of it
    taken_is : air_taken h d (receiver_table d w.nodes) f ≡ (with_bearer (receiver_table d w.nodes) b.id (Some r'), lines)
    taken_is =
        let for_it : flight_taken h d r f ≡ (r', lines) = cond-true _ _ _ (eq-eqb b.g b.g refl) ∙ ap (pdu_taken h d r num) read in
        ap (taken_for h d (receiver_table d w.nodes) b.id f) has
        ∙ ap (λ (q : Entities × List Line). (with_bearer (receiver_table d w.nodes) b.id (Some q.0), q.1)) for_it

    -- so what it makes of it happened
    heard_happened : let done = air_taken h d (receiver_table d w.nodes) f in
        Happened h policies t w (record { event = Step (leg d) i; answer = answer.Ok; lines = done.1 }) (with_receiver d w.nodes done.0)
    heard_happened =
        let Q : Table × List Line → Type 0 = λ q. Happened h policies t w (record { event = Step (leg d) i; answer = answer.Ok; lines = q.1 }) (with_receiver d w.nodes q.0) in
        subst Q (sym taken_is) heeded_happened

  -- ---- the two events

  -- the node that submits in this direction sends a report
  pub reports_happened : (d : Dir) (id : ℕ) (e : Entities) → bearer_in (sender_table d w.nodes) id ≡ Some e → at_submitter d id t ≡ Some e.bearer
      → let done = reports d e in
      Happened h policies t w (record { event = Report (submitter d) id; answer = answer.Ok; lines = done.1 })
      (with_sender d w.nodes (with_bearer (sender_table d w.nodes) id (Some done.0)))
  reports_happened d id e at there = asked_happened h policies t w sound d id e at there

  -- a report comes
  pub report_happened : (d : Dir) (i : ℕ) (f : Flight) → slice_get (on w.links (leg d)) i ≡ Some f → IsReportOf t w.nodes d f
      → let done = air_taken h d (receiver_table d w.nodes) f in
      Happened h policies t w (record { event = Step (leg d) i; answer = answer.Ok; lines = done.1 }) (with_receiver d w.nodes done.0)
  report_happened d i f at came =
      let num = came.num in let pdu = came.pdu in let fmc = came.fmc in let bits = came.bits in
      let found = receiver_has h t w.nodes w.links sound.tables sound.phase d came.bearer came.there num None came.numbered in
      let r = found.0 in let same : came.bearer ≡ r.bearer = sym found.2 in
      let f_is : f ≡ flight.Air r.bearer.id r.bearer.g num None pdu = came.is ∙ ap (λ (x : Established). flight.Air x.id x.g num None pdu) same in
      let Q : Flight → Type 0 = λ g. let done = air_taken h d (receiver_table d w.nodes) g in
      Happened h policies t w (record { event = Step (leg d) i; answer = answer.Ok; lines = done.1 }) (with_receiver d w.nodes done.0) in
      subst Q (sym f_is)
      (heard_happened d i r (subst (λ x. Contains (established t) x) same came.there)
      (subst (λ (x : Established). bearer_in (receiver_table d w.nodes) x.id ≡ Some r) same found.1)
      num (subst (λ (x : Established). IsNumberOf w.nodes x d num None) same came.numbered) pdu fmc bits
      (subst (λ (x : Established). decoded x.n pdu ≡ Ok (report fmc bits)) same came.read)
      (subst (λ (x : Established). (c : ℕ) → x.first ≤ c → names fmc bits c ≡ true → Received (half x (receiver_table (other d) w.nodes)).rx c) same came.named)
      (at ∙ ap Some f_is))
