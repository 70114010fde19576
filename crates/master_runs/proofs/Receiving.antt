-- A data PDU is taken, or is aged.
use Rattle.std.proofs.Common.{ℕ, ◌≡◌, ◌+◌, ◌-◌, ◌<◌, ◌≤◌, ◌⊎◌, ◌==◌, ◌++◌, List, [], ◌∷◌, Option, Some, true, false, length, map, take, slice_get, refl, sym, ap, ◌∙◌, subst, arith, inl, inr}
use Rattle.std.specs.Prelude.{Contains, nat_lt, ◌&&◌, if◌then◌else◌}
use Rattle.std.specs.List.{AllByRecursion, flat_map}
use Rattle.std.proofs.lemmas.List.{append-nil}
use Rattle.std.proofs.lemmas.Option.{same_Some}
use Rattle.std.proofs.lemmas.Bool.{eq-eqb, ltb-false, ltb-true, and_from, cond-true, cond-false}
use Rattle.dc_base.specs.Count.{window, sn, count_for}
use Rattle.dc_base.specs.declared.nodes.Dir.{Dir}
use Rattle.dc_base.specs.declared.nodes.Dir.TheVariants.{Ul, Dl}
use Rattle.dc_base.specs.declared.nodes.LinkId.{LinkId}
use Rattle.dc_base.specs.declared.flights.Flight.{Flight}
use Rattle.dc_base.specs.declared.flights.Flight.TheVariants as flight
use Rattle.dc_base.specs.declared.answers.Answer.TheVariants as answer
use Rattle.dc_base.specs.declared.answers.Refusal.TheVariants.{Aged}
use Rattle.dc_base.specs.declared.events.Header.{Header}
use Rattle.dc_base.specs.declared.events.Event.TheVariants.{Step}
use Rattle.dc_base.specs.declared.events.Line.{Line}
use Rattle.pdcp_pdu.specs.DataPdu.{IsPayload, data_pdu}
use Rattle.pdcp_rx.specs.declared.entity.RxParts.{RxParts}
use Rattle.pdcp_rx.specs.Receiver.{put, handed_of, Received}
use Rattle.pdcp_rx.proofs.Laws.{Received-put, Received-put_same, handed_consecutive}
use Rattle.pdcp_tx.specs.Sender.{Sender, low}
use Rattle.dc_base.specs.Nodes.{is_same_dir}
use Rattle.transcript.specs.Transcript.{Entry, sends, SomeEntry}
use Rattle.transcript.specs.Content.{mt_ctl, tm_ctl, given, put_on, on_link, direction}
use Rattle.transcript.specs.Bearers.{Established, established, latest, submitted, ups, handed, numbered, confirmed, confirms, confirmed_by, tag_of, tags_sent, frees}
use Rattle.transcript.specs.Claims.{TakesData, Carried, receiver, due_answer, step_answer, is_behind as is_behind_in, is_aged as is_aged_in}
use Rattle.transcript.proofs.OnEach.{each_weaker}
use Rattle.transcript.proofs.Growing.{SomeEntry-later, SomeEntry-last}
use Rattle.master_runs.specs.Entities.{Entities, Table, bearer_in, with_bearer}
use Rattle.master_runs.specs.Plane.{leg, other, ciphered, data_flight, taken_for, up_line, ack_line, air_taken, is_behind, is_aged}
use Rattle.master_runs.specs.Control.{Nodes}
use Rattle.master_runs.specs.Links.{Links, on, moved}
use Rattle.master_runs.specs.Run.{WorldState}
use Rattle.transcript.proofs.Establishing.{submitted-next, handed-next, confirmed-next, tags_sent-next, same_bearer, is_latest_once, is_generation_once}
use Rattle.master_runs.proofs.Lane.{IsNumbered, IsLane, numbered_below, Received-only, put_below, found_by_sn, lane_put, lane_handed}
use Rattle.master_runs.proofs.Sound.{half, or_fresh, sender_table, receiver_table, CarriesCount, IsUnderWay, IsNumberOf, IsPduOf, IsAckOf, listed, IsServed, Happened, Sound}
use Rattle.master_runs.proofs.Tables.{with_receiver, deliv_is, Keeps, receiver_put, receiver_put_same, receiver_put_here, receiver_put_apart, keeps_all, keeps_receiver}
use Rattle.master_runs.proofs.Directions.{each_bearer, Apart, same_dir, direction_leg, not_apart, not_named}
use Rattle.master_runs.proofs.Plain.{IsPlain, there_then, there_before, tabled_same, phase_same}
use Rattle.master_runs.proofs.Served.{lane_same, served_still}
use Rattle.master_runs.proofs.Silent.{no_ups, no_frees, no_move, none_carried, none_sent_still, grows_next, IsSilent, plain_happened}
use Rattle.master_runs.proofs.Moving.{step_given, step_due}
use Rattle.master_runs.proofs.Leaving.{no_command, no_completion, flying_after, control_down, control_up}
use Rattle.master_runs.proofs.Upwards.{sends_after_ups, ups_here, ups_elsewhere, frees_after_ups, has_after_ups, command_after_ups}
use Rattle.master_runs.proofs.Taking.{taken_data, is_data_flight, data_confirmed}
use Rattle.master_runs.proofs.Lists.{consecutive_from, each_both}
use Rattle.master_runs.proofs.Having.{receiver_has}
use Rattle.master_runs.proofs.Confirming.{confirm_sent, confirm_protects, confirm_licence}

-- ---- one flight of a submission

module _ (h : Header) (policies : ℕ) (t : List Entry) (w : WorldState) (sound : Sound h policies t w)
    (d : Dir) (i : ℕ) (b : Established) (there : Contains (established t) b) (num c : ℕ) (p : List ℕ) (placed : IsNumberOf w.nodes b d num (Some c)) (sub : IsNumbered b.first (submitted b d t) (c, p))
    (r : Entities) (has : bearer_in (receiver_table d w.nodes) b.id ≡ Some r) (is : r.bearer ≡ b)
    (at : slice_get (on w.links (leg d)) i ≡ Some (data_flight h b d num c p)) where
  -- the flight
  abbrev f : Flight
  f = data_flight h b d num c p

  -- its bearer is served so far
  served_b : IsServed t w.nodes w.links b d
  served_b = sound.served b d there

  -- what the receiver holds of it
  half_is : half b (receiver_table d w.nodes) ≡ r
  half_is = ap (or_fresh b) has

  -- its COUNT was given
  below_next : c < (half b (sender_table d w.nodes)).tx.next
  below_next = let counted = served_b.lane.counted in let below = numbered_below b.first (submitted b d t) c p sub in omega arith

  -- its bearer is the latest of the identity
  latest_is : latest b.id (established t) ≡ Some b
  latest_is = sound.tables.once b there

  -- what the rule says of its age
  aged_is : is_aged (receiver_table d w.nodes) f ≡ nat_lt (c + window b.n) r.rx.deliv
  aged_is =
      ap (λ x. x && is_behind b.g c (bearer_in (receiver_table d w.nodes) b.id)) (is_data_flight h d b c p)
      ∙ ap (is_behind b.g c) has
      ∙ ap (λ (x : Established). (x.g == b.g) && nat_lt (c + window x.n) r.rx.deliv) is
      ∙ ap (λ x. x && nat_lt (c + window b.n) r.rx.deliv) (eq-eqb b.g b.g refl)

  -- and what the claim says of it
  aged_claim : is_aged_in t (leg d, f) ≡ nat_lt (c + window b.n) r.rx.deliv
  aged_claim =
      ap (λ x. x && is_behind_in t (direction (leg d)) b.g c (latest b.id (established t))) (is_data_flight h d b c p)
      ∙ ap (is_behind_in t (direction (leg d)) b.g c) latest_is
      ∙ ap (λ x. x && nat_lt (c + window b.n) (b.first + length (handed b (direction (leg d)) t))) (eq-eqb b.g b.g refl)
      ∙ ap (λ k. nat_lt (c + window b.n) (b.first + length (handed b k t))) (direction_leg d)
      ∙ ap (λ k. nat_lt (c + window b.n) k) (deliv_is t w.nodes w.links b d served_b ∙ ap (λ (x : Entities). x.rx.deliv) half_is)

  -- a step that is answered ok gives it
  given_is : (lines : List Line) → given t (record { event = Step (leg d) i; answer = answer.Ok; lines = lines }) ≡ Some (leg d, f)
  given_is = step_given t w.links sound.contents (leg d) i f at

  -- the answer that is due
  due_is : due_answer policies t (Step (leg d) i) ≡ (if nat_lt (c + window b.n) r.rx.deliv then answer.No Aged else answer.Ok)
  due_is =
      step_due t w.links sound.contents (leg d) i f at
      ∙ unordered d ∙ ap (λ x. if x then answer.No Aged else answer.Ok) aged_claim
    where
      unordered : (k : Dir) → step_answer t (leg k) i (Some f) ≡ (if is_aged_in t (leg k, f) then answer.No Aged else answer.Ok)
      unordered Ul = refl
      unordered Dl = refl

  -- what was under way is so still, or it was this flight
  flying_on : (lines : List Line) (x : Established) (k : Dir) (a : ℕ) → IsUnderWay x a (on w.links (leg k)) → ((k ≡ d) × CarriesCount x a f) ⊎ IsUnderWay x a (on (moved w.links (Some (leg d, i)) lines) (leg k))
  flying_on lines = flying_after w.links sound.long d i f at lines

  -- the flight is of this bearer alone
  carries_is : (x : Established) (a : ℕ) → Contains (established t) x → CarriesCount x a f → (b ≡ x) × (c ≡ a)
  carries_is x a in_t carries = (same_bearer (established t) b x sound.tables.once there in_t carries.0, same_Some c a carries.2)

  -- ---- it is aged

  module _ (old : nat_lt (c + window b.n) r.rx.deliv ≡ true) where
    -- it is refused
    abbrev aged_entry : Entry
    aged_entry = record { event = Step (leg d) i; answer = answer.No Aged; lines = [] }

    -- and is taken away
    abbrev aged_links : Links
    aged_links = moved w.links (Some (leg d, i)) []

    -- its COUNT was received already
    aged_got : Received (half b (receiver_table d w.nodes)).rx c
    aged_got = let behind = ltb-true (c + window b.n) r.rx.deliv old in subst (λ (x : Entities). Received x.rx c) (sym half_is) (inl (omega arith))

    -- it carries no data
    aged_silent : IsSilent t aged_entry
    aged_silent = record {
      submits = λ x k. refl;
      hands = λ x k. no_ups x k t aged_entry refl;
      moves = λ x k. no_frees x k t aged_entry refl;
      confirms = λ x k. elim k as (λ k. confirms x k t aged_entry ≡ []) [ Ul ↦ refl | Dl ↦ refl ];
      tags = λ l id g num. refl;
    }

    -- what was under way is so still, or was received
    aged_flying : (x : Established) (k : Dir) → Contains (established t) x → (a : ℕ) → IsUnderWay x a (on w.links (leg k))
        → Received (half x (receiver_table k w.nodes)).rx a ⊎ IsUnderWay x a (on aged_links (leg k))
    aged_flying x k in_t a way =
        elim (flying_on [] x k a way) [
          | inl it ↦
              let is_it = carries_is x a in_t it.1 in
              let at_dir : Received (half b (receiver_table k w.nodes)).rx c = subst (λ j. Received (half b (receiver_table j w.nodes)).rx c) (sym it.0) aged_got in
              inl (subst (λ (y : Established). Received (half y (receiver_table k w.nodes)).rx a) is_it.0 (subst (Received (half b (receiver_table k w.nodes)).rx) is_it.1 at_dir))
          | inr still ↦ inr still
        ]

    -- all that the refusal owes
    aged_sound : Happened h policies t w aged_entry w.nodes
    aged_sound =
        plain_happened h policies t w sound aged_entry w.nodes aged_silent refl (λ x k. refl)
        (record { undrawn = record { no_plan = λ g. refl; no_draw = refl }; no_open = λ g o. refl; no_end = λ g. refl; no_set = λ k has. refl }) (keeps_all w.nodes)
        (control_down w.links sound.long d i f at [] refl) (control_up w.links sound.long d i f at [] refl) aged_flying (sym (due_is ∙ cond-true _ _ _ old))

  -- ---- it is taken

  -- the receiving entity then
  abbrev rx' : RxParts
  rx' = (put r.rx c p).0

  -- what goes up
  abbrev run : List (ℕ × List ℕ)
  run = handed_of (put r.rx c p).1

  -- the confirm
  abbrev ack : List Line
  ack = ack_line b d num ∷ []

  -- all lines after it
  abbrev lines : List Line
  lines = map (up_line b.id d) run ++ ack

  -- the entry
  abbrev entry : Entry
  entry = record { event = Step (leg d) i; answer = answer.Ok; lines = lines }

  -- the transcript then
  abbrev t' : List Entry
  t' = t ++ entry ∷ []

  -- what the receiver holds of the bearer then
  abbrev r' : Entities
  r' = record r { rx = rx' }

  -- the nodes then
  abbrev s' : Nodes
  s' = receiver_put d w.nodes b.id r'

  -- the links then
  abbrev links' : Links
  links' = moved w.links (Some (leg d, i)) lines

  -- it is plain
  plain : IsPlain entry
  plain = record {
    undrawn = record { no_plan = λ g. refl; no_draw = refl };
    no_open = λ g o. refl;
    no_end = λ g. command_after_ups b.id d ack g run;
    no_set = λ id has. has_after_ups b.id d ack id has run;
  }

  -- a bearer now was one before
  back : (x : Established) → Contains (established t') x → Contains (established t) x
  back = there_before t entry plain.undrawn

  -- ---- its lines

  -- it sends the confirm alone
  sends_are : sends lines ≡ (leg (other d), flight.Ack b.id b.g num) ∷ []
  sends_are = sends_after_ups b.id d ack run

  -- no tag is sent
  tags_none : (l : LinkId) (id g k : ℕ) → flat_map (tag_of l id g k) (sends lines) ≡ []
  tags_none l id g k = ap (λ ss. flat_map (tag_of l id g k) ss) sends_are

  -- a data PDU confirms nothing
  confirms_none : (x : Established) (k : Dir) → confirms x k t entry ≡ []
  confirms_none x k = ap (confirmed_by x k t) (given_is lines) ∙ data_confirmed x k t (leg d) b.id b.g num (Some c) _ (is_data_flight h d b c p)

  -- the run goes up for its bearer
  ups_b : ups b d t entry ≡ run
  ups_b = cond-true _ _ _ (is_latest_once t b sound.tables.once there) ∙ ups_here b.id d ack b d (and_from (b.id == b.id) (is_same_dir d d) (eq-eqb b.id b.id refl) (same_dir d)) run ∙ append-nil run

  -- and nothing for any other
  ups_other : (x : Established) (k : Dir) → Apart d b.id k x.id → ups x k t entry ≡ []
  ups_other x k apart = no_ups x k t entry (ups_elsewhere b.id d ack x k (not_named d b.id k x.id apart) run)

  -- no window moves
  frees_none : (x : Established) (k : Dir) → frees x k t entry ≡ []
  frees_none x k = no_frees x k t entry (frees_after_ups b.id d ack x k run)

  -- ---- its tables

  -- what does not depend on the receiving entity is as before at each node
  same_at : {A : Type 0} (g : Option Entities → A) → g (Some r') ≡ g (Some r) → (k : Dir) (id : ℕ) → g (bearer_in (sender_table k s') id) ≡ g (bearer_in (sender_table k w.nodes) id)
  same_at g = receiver_put_same g d w.nodes b.id r r' has

  -- the sending entities are as before
  tx_same : (x : Established) (k : Dir) → (half x (sender_table k s')).tx ≡ (half x (sender_table k w.nodes)).tx
  tx_same x k = same_at (λ o. (or_fresh x o).tx) refl k x.id

  -- and the COUNTs by their numbers
  sent_same : (x : Established) (k : Dir) → (half x (sender_table k s')).sent ≡ (half x (sender_table k w.nodes)).sent
  sent_same x k = same_at (λ o. (or_fresh x o).sent) refl k x.id

  -- so no number on a leg changes
  still_placed : (x : Established) (k : Dir) (m : ℕ) (o : Option ℕ) → IsNumberOf w.nodes x k m o → IsNumberOf s' x k m o
  still_placed x k m o is = subst (λ xs. slice_get xs m ≡ Some o) (sym (sent_same x k)) is

  -- its receiver has the new entity
  rx_here : (half b (receiver_table d s')).rx ≡ rx'
  rx_here = ap (λ (x : Entities). x.rx) (receiver_put_here d w.nodes b b.id r r' has refl)

  -- any other has the old one
  rx_elsewhere : (x : Established) (k : Dir) → Apart d b.id k x.id → (half x (receiver_table k s')).rx ≡ (half x (receiver_table k w.nodes)).rx
  rx_elsewhere x k apart = ap (λ (y : Entities). y.rx) (receiver_put_apart d w.nodes b.id r' x k apart)

  -- each place keeps its bearer
  keeps : Keeps w.nodes s'
  keeps = keeps_receiver d w.nodes b.id r r' has refl

  -- nothing is put on the control link to the terminal
  no_control_down : put_on mt_ctl lines ≡ []
  no_control_down = ap (λ ss. flat_map (on_link mt_ctl) ss) sends_are ∙ no_command (other d) (flight.Ack b.id b.g num)

  -- nor on that to the master
  no_control_up : put_on tm_ctl lines ≡ []
  no_control_up = ap (λ ss. flat_map (on_link tm_ctl) ss) sends_are ∙ no_completion (other d) (flight.Ack b.id b.g num)

  -- ---- its bearer

  -- the COUNT is received now
  got_c : Received (half b (receiver_table d s')).rx c
  got_c = subst (λ x. Received x c) (sym rx_here) (Received-put_same r.rx c p)

  -- the lane so far, with what the receiver holds
  lane_r : IsLane b.n b.first (submitted b d t) (confirmed b d t) (half b (sender_table d w.nodes)).tx (half b (sender_table d w.nodes)).sent r.rx
  lane_r = subst (λ (x : Entities). IsLane b.n b.first (submitted b d t) (confirmed b d t) (half b (sender_table d w.nodes)).tx (half b (sender_table d w.nodes)).sent x.rx) half_is served_b.lane

  -- the entry gives the PDU to its receiver
  takes : TakesData b d c t entry
  takes = record {
    taken = (leg d, f);
    is_given = given_is lines;
    of_bearer = (is_data_flight h d b c p, refl, is_generation_once t b sound.tables.once there, direction_leg d);
    tagged = refl;
    received = to_receiver d;
  }
    where
      to_receiver : (k : Dir) → (leg k).to ≡ receiver k
      to_receiver Ul = refl
      to_receiver Dl = refl

  -- each COUNT that is received now came in some entry
  came_after : (a : ℕ) → b.first ≤ a → Received rx' a → SomeEntry (TakesData b d a) t'
  came_after a from got = elim (Received-only r.rx c a p got) [
    | inl now ↦ subst (λ k. SomeEntry (TakesData b d k) t') (sym now) (SomeEntry-last (TakesData b d c) t entry takes)
    | inr before ↦ SomeEntry-later (TakesData b d a) t entry (served_b.came a from (subst (λ (x : Entities). Received x.rx a) (sym half_is) before))
  ]

  -- nothing is submitted
  submitted_is : (x : Established) (k : Dir) → submitted x k t' ≡ submitted x k t
  submitted_is x k = submitted-next x k t entry ∙ append-nil _

  -- its bearer is served in its direction
  served_here : IsServed t' s' links' b d
  served_here =
      let confirmed_is : confirmed b d t' ≡ confirmed b d t = confirmed-next b d t entry ∙ ap (λ xs. confirmed b d t ++ xs) (confirms_none b d) ∙ append-nil _ in
      record {
        lane = lane_same b.n b.first _ _ _ _ _ _ _ _ _ _ (submitted_is b d) confirmed_is (tx_same b d) (sent_same b d) rx_here
            (lane_put b.n b.first (submitted b d t) (confirmed b d t) _ _ r.rx lane_r c p sub);
        handed_is = handed-next b d t entry ∙ ap (λ xs. handed b d t ++ xs) ups_b
            ∙ ap (λ (xs : List (ℕ × List ℕ)). xs ++ run) (served_b.handed_is ∙ ap (λ (x : Entities). numbered b.first (take (x.rx.deliv - b.first) (submitted b d t))) half_is)
            ∙ lane_handed b.n b.first (submitted b d t) (confirmed b d t) _ _ r.rx lane_r c p sub
            ∙ ap (λ (x : RxParts). numbered b.first (take (x.deliv - b.first) (submitted b d t))) (sym rx_here)
            ∙ ap (λ xs. numbered b.first (take ((half b (receiver_table d s')).rx.deliv - b.first) xs)) (sym (submitted_is b d));
        came = λ a from got. came_after a from (subst (λ x. Received x a) rx_here got);
        owed = λ a from below. elim (served_b.owed a from (subst (λ (x : Sender). a < x.next) (tx_same b d) below)) [
          | inl got ↦ inl (subst (λ x. Received x a) (sym rx_here) (Received-put r.rx a c p (subst (λ (x : Entities). Received x.rx a) half_is got)))
          | inr way ↦ elim (flying_on lines b d a way) [
            | inl it ↦ inl (subst (Received (half b (receiver_table d s')).rx) (carries_is b a there it.1).1 got_c)
            | inr still ↦ inr still
          ]
        ];
        numbers = λ k. tags_sent-next (leg d) b.id b.g k t entry ∙ ap (λ xs. tags_sent (leg d) b.id b.g k t ++ xs) (tags_none (leg d) b.id b.g k) ∙ append-nil _
            ∙ served_b.numbers k ∙ ap (λ xs. listed (slice_get xs k)) (sym (sent_same b d));
      }

  -- any other is served as before
  served_elsewhere : (x : Established) (k : Dir) → Contains (established t) x → Apart d b.id k x.id → IsServed t' s' links' x k
  served_elsewhere x k in_t apart =
      served_still t w.nodes w.links x k entry s' links' (sound.served x k in_t) (ups_other x k apart) (rx_elsewhere x k apart) refl (confirms_none x k) (λ n. tags_none (leg k) x.id x.g n)
      (tx_same x k) (sent_same x k)
      (λ a way. elim (flying_on lines x k a way) [ inl it ↦ absurd (not_apart d b.id k x.id apart it.0 it.1.0) | inr still ↦ inr still ])

  -- what holds of the bearer in its direction, and of every other, holds of all
  all_from : (P : Established → Dir → Type 0) → P b d → ((x : Established) (k : Dir) → Contains (established t) x → Apart d b.id k x.id → P x k)
      → (x : Established) (k : Dir) → Contains (established t) x → P x k
  all_from = each_bearer (established t) sound.tables.once b there d b.id refl

  -- each payload that goes up came
  run_came : AllByRecursion (λ u. SomeEntry (TakesData b d u.0) t') run
  run_came =
      each_weaker (λ u. (b.first ≤ u.0) × (u.0 < rx'.deliv)) (λ u. SomeEntry (TakesData b d u.0) t') (λ u both. came_after u.0 both.0 (inl both.1)) run
      (each_both (λ u. b.first ≤ u.0) (λ u. u.0 < rx'.deliv) run (consecutive_from b.first r.rx.deliv run lane_r.from (handed_consecutive r.rx c p)) (put_below r.rx c p))

  -- all that the delivery owes
  data_sound : nat_lt (c + window b.n) r.rx.deliv ≡ false → Happened h policies t w entry s'
  data_sound young = record {
    tables = tabled_same t entry plain w.nodes s' keeps sound.tables;
    phase = phase_same t entry plain w.nodes s' keeps h w.links links' (control_down w.links sound.long d i f at lines no_control_down) (control_up w.links sound.long d i f at lines no_control_up)
        (λ x in_t busy absent k. refl) (λ x in_t busy. sent_same x Dl) sound.phase;
    served = λ x k in_t. all_from (λ x k. IsServed t' s' links' x k) served_here served_elsewhere x k (back x in_t);
    grows = grows_next t entry w.nodes s' (there_then t entry plain.undrawn) (all_from (λ x k. (a : ℕ) → Received (half x (receiver_table k w.nodes)).rx a → Received (half x (receiver_table k s')).rx a)
        (λ a got. subst (λ x. Received x a) (sym rx_here) (Received-put r.rx a c p (subst (λ (x : Entities). Received x.rx a) half_is got)))
        (λ x k in_t apart a got. subst (λ y. Received y a) (sym (rx_elsewhere x k apart)) got)) (λ x k in_t. still_placed x k);
    sent = confirm_sent h t entry d b.id b.g num sends_are s' the_ack;
    none_sent = none_sent_still t entry tags_none sound.none_sent;
    protects = λ x k in_t. confirm_protects h t entry d b.id b.g num sends_are x k;
    carried = λ x k in_t. all_from (λ x k. Carried x k t entry)
        (subst (AllByRecursion (λ u. SomeEntry (TakesData b d u.0) t')) (sym ups_b) run_came)
        (λ x k in_t apart. none_carried x k t entry (ups_other x k apart)) x k (back x in_t);
    freed = λ x k in_t. frees_none x k ∙ no_move _ _ (ap low (tx_same x k));
    fresh_before = λ x in_t. inl (back x in_t);
    cause = sym (due_is ∙ cond-false _ _ _ young);
    licence = confirm_licence h t entry d b.id b.g num sends_are (Some c) (data_pdu b.n (sn b.n c) (ciphered h b.id d c p)) (given_is lines);
  }
    where
      -- its confirm is one of the bearer
      the_ack : IsAckOf t' s' d (flight.Ack b.id b.g num)
      the_ack = record {
        bearer = b;
        there = there_then t entry plain.undrawn b there;
        num = num;
        sent = Some c;
        numbered = still_placed b d num (Some c) placed;
        got = (sub.counted, got_c);
        is = refl;
      }

  -- what the receiver's rule makes of it
  taken_is : IsPayload p → nat_lt (c + window b.n) r.rx.deliv ≡ false → air_taken h d (receiver_table d w.nodes) f ≡ (with_bearer (receiver_table d w.nodes) b.id (Some r'), lines)
  taken_is good young =
      let before = lane_r.small in let below = below_next in
      let near : r.rx.deliv ≤ c + window b.n = ltb-false (c + window b.n) r.rx.deliv young in
      let found : count_for b.n r.rx.deliv (sn b.n c) ≡ Some c = found_by_sn b.n b.first (submitted b d t) (confirmed b d t) _ _ r.rx lane_r c below near in
      ap (taken_for h d (receiver_table d w.nodes) b.id f) has
      ∙ ap (λ (done : Entities × List Line). (with_bearer (receiver_table d w.nodes) b.id (Some done.0), done.1)) (taken_data h d b r num c p is good (omega arith) found)

module _ (h : Header) (policies : ℕ) (t : List Entry) (w : WorldState) (sound : Sound h policies t w) where
  -- a data PDU is taken
  pub data_happened : (d : Dir) (i : ℕ) (f : Flight) → slice_get (on w.links (leg d)) i ≡ Some f → IsPduOf h t w.nodes d f → is_aged (receiver_table d w.nodes) f ≡ false
      → let done = air_taken h d (receiver_table d w.nodes) f in
      Happened h policies t w (record { event = Step (leg d) i; answer = answer.Ok; lines = done.1 }) (with_receiver d w.nodes done.0)
  data_happened d i f at pdu young =
      let b = pdu.bearer in let num = pdu.num in let c = pdu.count in let p = pdu.payload in
      let sent = data_flight h b d num c p in
      let found = receiver_has h t w.nodes w.links sound.tables sound.phase d b pdu.there num (Some c) pdu.numbered in
      let here : slice_get (on w.links (leg d)) i ≡ Some sent = at ∙ ap Some pdu.is in
      let near : is_aged (receiver_table d w.nodes) sent ≡ false = subst (λ g. is_aged (receiver_table d w.nodes) g ≡ false) pdu.is young in
      let within : nat_lt (c + window b.n) found.0.rx.deliv ≡ false =
      sym (aged_is h policies t w sound d i b pdu.there num c p pdu.numbered pdu.submission found.0 found.1 found.2 here) ∙ near in
      let Q : Table × List Line → Type 0 = λ q. Happened h policies t w (record { event = Step (leg d) i; answer = answer.Ok; lines = q.1 }) (with_receiver d w.nodes q.0) in
      subst (λ g. Q (air_taken h d (receiver_table d w.nodes) g)) (sym pdu.is)
      (subst Q (sym (taken_is h policies t w sound d i b pdu.there num c p pdu.numbered pdu.submission found.0 found.1 found.2 here pdu.good within))
      (data_sound h policies t w sound d i b pdu.there num c p pdu.numbered pdu.submission found.0 found.1 found.2 here within))

  -- an aged one is not
  pub aged_happened : (d : Dir) (i : ℕ) (f : Flight) → slice_get (on w.links (leg d)) i ≡ Some f → IsPduOf h t w.nodes d f → is_aged (receiver_table d w.nodes) f ≡ true
      → Happened h policies t w (record { event = Step (leg d) i; answer = answer.No Aged; lines = [] }) w.nodes
  aged_happened d i f at pdu old =
      let b = pdu.bearer in let num = pdu.num in let c = pdu.count in let p = pdu.payload in
      let found = receiver_has h t w.nodes w.links sound.tables sound.phase d b pdu.there num (Some c) pdu.numbered in
      let here : slice_get (on w.links (leg d)) i ≡ Some (data_flight h b d num c p) = at ∙ ap Some pdu.is in
      let behind : is_aged (receiver_table d w.nodes) (data_flight h b d num c p) ≡ true = subst (λ g. is_aged (receiver_table d w.nodes) g ≡ true) pdu.is old in
      aged_sound h policies t w sound d i b pdu.there num c p pdu.numbered pdu.submission found.0 found.1 found.2 here
      (sym (aged_is h policies t w sound d i b pdu.there num c p pdu.numbered pdu.submission found.0 found.1 found.2 here) ∙ behind)
