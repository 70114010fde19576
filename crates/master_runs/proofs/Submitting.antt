-- A payload is submitted and taken.
use Rattle.std.proofs.Common.{ℕ, ◌≡◌, ◌+◌, ◌-◌, ◌^◌, ◌<◌, ◌≤◌, ◌⊎◌, ◌==◌, ◌++◌, List, [], ◌∷◌, Option, Some, None, false, length, slice_get, refl, sym, ap, ◌∙◌, subst, arith, inl, inr}
use Rattle.std.specs.Prelude.{Contains, Ok, if◌then◌else◌}
use Rattle.std.specs.List.{flat_map}
use Rattle.std.proofs.lemmas.List.{append-nil, length_push}
use Rattle.std.proofs.lemmas.Bool.{lt-leb, cases_Bool, cases_lt, eq-eqb, ne_eqb, cond-false}
use Rattle.dc_base.specs.Count.{window, sn}
use Rattle.dc_base.specs.declared.nodes.Dir.{Dir}
use Rattle.dc_base.specs.declared.nodes.Dir.TheVariants.{Ul, Dl}
use Rattle.dc_base.specs.declared.nodes.LinkId.{LinkId}
use Rattle.dc_base.specs.declared.flights.Flight.{Flight}
use Rattle.dc_base.specs.declared.answers.Answer.TheVariants as answer
use Rattle.dc_base.specs.declared.events.Header.{Header}
use Rattle.dc_base.specs.declared.events.Event.TheVariants.{Submit}
use Rattle.dc_base.specs.declared.events.Line.TheVariants as line
use Rattle.pdcp_pdu.specs.DataPdu.{IsPayload, data_pdu}
use Rattle.pdcp_tx.specs.Sender.{Sender, low}
use Rattle.pdcp_tx.specs.Sending.{take_sdu as taken}
use Rattle.pdcp_rx.specs.Receiver.{Received}
use Rattle.dc_base.specs.Nodes.{is_same_dir}
use Rattle.dc_base.specs.Links.{is_same_link}
use Rattle.transcript.specs.Transcript.{Entry, sends}
use Rattle.transcript.specs.Content.{mt_ctl, tm_ctl, put_on}
use Rattle.transcript.specs.Bearers.{Established, established, submission, submitted, confirms, confirmed, tag_of, told, at_submitter, master_key, key_in}
use Rattle.transcript.specs.Claims.{Protects, ProtectsSubmission, IsLicensed, submit_answer}
use Rattle.master_runs.specs.Entities.{Entities, bearer_in, with_bearer}
use Rattle.master_runs.specs.Plane.{leg, ciphered, data_flight}
use Rattle.master_runs.specs.Control.{Nodes}
use Rattle.master_runs.specs.Links.{Links, on, moved}
use Rattle.master_runs.specs.Run.{WorldState}
use Rattle.transcript.proofs.Establishing.{submitted-next, is_latest_once, is_generation_once}
use Rattle.master_runs.proofs.Lists.{slice_get_left, slice_get_last}
use Rattle.master_runs.proofs.Lane.{IsLane, low_is, lane_taken}
use Rattle.master_runs.proofs.Taking.{is_data_flight}
use Rattle.master_runs.proofs.Tables.{with_sender, is_established, Keeps, half_at, sender_put_here, sender_put_apart, sender_put_rx, keeps_sender, not_opening, apart_at_master}
use Rattle.master_runs.proofs.Moving.{on_moved}
use Rattle.master_runs.proofs.Directions.{each_bearer, Apart, same_dir, other_dir, direction_leg, same_leg, other_leg, protects_whichever}
use Rattle.master_runs.proofs.Plain.{IsPlain, plans_same, there_then, there_before, tabled_same, phase_same}
use Rattle.master_runs.proofs.Served.{lane_same, served_next, served_still, under_way_last, listed_push, lane_of}
use Rattle.master_runs.proofs.Silent.{no_ups, no_frees, no_move, none_carried, grows_same, none_sent_drawn}
use Rattle.master_runs.proofs.Sound.{half, sender_table, receiver_table, IsNumberOf, IsPduOf, IsUnderWay, Phase, listed, IsServed, NoneSent, Happened, Sound}
use Rattle.master_runs.proofs.Leaving.{no_command, no_completion, own_leg, promised, flying_put}
use Rattle.master_runs.proofs.Room.{has_room}

module _ (h : Header) (policies : ℕ) (t : List Entry) (w : WorldState) (sound : Sound h policies t w) where
  module _ (id : ℕ) (d : Dir) (payload : List ℕ) (e : Entities) (tx : Sender) (c : ℕ) (good : IsPayload payload)
      (at : bearer_in (sender_table d w.nodes) id ≡ Some e) (there : at_submitter d id t ≡ Some e.bearer) (ok : taken e.tx payload ≡ Ok (tx, c)) where
    -- the bearer
    abbrev b : Established
    b = e.bearer

    -- its new PDU
    abbrev f : Flight
    f = data_flight h b d (length e.sent) c payload

    -- what happens
    abbrev entry : Entry
    entry = record { event = Submit id d payload; answer = answer.Ok; lines = line.Send (leg d) f ∷ [] }

    -- what the node holds of the bearer then
    abbrev e' : Entities
    e' = record e { tx = tx; sent = e.sent ++ Some c ∷ [] }

    -- what the nodes hold then
    abbrev after : Nodes
    after = with_sender d w.nodes (with_bearer (sender_table d w.nodes) id (Some e'))

    -- what the links hold then
    abbrev links' : Links
    links' = moved w.links None entry.lines

    -- the bearer is established
    here : Contains (established t) b
    here = (is_established t w.nodes sound.tables d id e at).0

    -- under the identity that was named
    named : b.id ≡ id
    named = (is_established t w.nodes sound.tables d id e at).1

    -- no generation is drawn
    plain : IsPlain entry
    plain = record { undrawn = record { no_plan = λ g. refl; no_draw = refl }; no_open = λ g o. refl; no_end = λ g. refl; no_set = λ k has. refl }

    -- each place keeps its bearer
    keeps : Keeps w.nodes after
    keeps = keeps_sender d w.nodes id e e' at refl

    -- and its receiving side
    rx_still : (b' : Established) (d' : Dir) → (half b' (receiver_table d' after)).rx ≡ (half b' (receiver_table d' w.nodes)).rx
    rx_still b' d' = sender_put_rx d w.nodes id e e' at refl b' d'

    -- ---- what the entry says

    -- the payload is one of the bearer
    submission_here : submission b d t entry ≡ payload ∷ []
    submission_here = rw (eq-eqb id b.id (sym named), same_dir d, is_latest_once t b sound.tables.once here) refl

    -- and of no other
    submission_apart : (b' : Established) (d' : Dir) → Apart d id d' b'.id → submission b' d' t entry ≡ []
    submission_apart b' d' (inl turned) =
        let other' : is_same_dir d d' ≡ false = ap (is_same_dir d) turned ∙ other_dir d in
        elim (cases_Bool (id == b'.id)) [ inl same ↦ rw (same, other') refl | inr apart ↦ rw apart refl ]
    submission_apart b' d' (inr apart) = rw apart refl

    -- the COUNT is sent under the next number
    tag_here : (num : ℕ) → flat_map (tag_of (leg d) b.id b.g num) (sends entry.lines) ≡ (if length e.sent == num then c ∷ [] else [])
    tag_here num = rw (same_leg d, eq-eqb b.id b.id refl, eq-eqb b.g b.g refl) (append-nil _)

    -- and for no other bearer or direction
    tag_apart : (b' : Established) (d' : Dir) (num : ℕ) → Apart d id d' b'.id → flat_map (tag_of (leg d') b'.id b'.g num) (sends entry.lines) ≡ []
    tag_apart b' d' num (inl turned) =
        let other' : is_same_link (leg d') (leg d) ≡ false = ap (λ k. is_same_link (leg k) (leg d)) turned ∙ other_leg d in
        rw other' refl
    tag_apart b' d' num (inr apart) =
        let other' : (b.id == b'.id) ≡ false = ap (λ k. k == b'.id) named ∙ apart in
        elim (cases_Bool (is_same_link (leg d') (leg d))) [ inl same ↦ rw (same, other') refl | inr turned ↦ rw turned refl ]

    -- nothing is confirmed
    nothing_confirmed : (b' : Established) (d' : Dir) → confirms b' d' t entry ≡ []
    nothing_confirmed b' Dl = refl
    nothing_confirmed b' Ul = refl

    -- what stands on the links then
    on_then : (l : LinkId) → on links' l ≡ on w.links l ++ put_on l entry.lines
    on_then l = on_moved w.links None entry.lines l sound.long

    -- what was under way is so
    flying : (b' : Established) (d' : Dir) (k : ℕ) → IsUnderWay b' k (on w.links (leg d')) → IsUnderWay b' k (on links' (leg d'))
    flying = flying_put w.links sound.long entry.lines

    -- ---- the bearer

    -- what the node held of it
    half_before : half b (sender_table d w.nodes) ≡ e
    half_before = half_at b (sender_table d w.nodes) id e at named

    -- and holds then
    half_after : half b (sender_table d after) ≡ e'
    half_after = sender_put_here d w.nodes b id e e' at named

    -- the bearer was served
    was : IsServed t w.nodes w.links b d
    was = sound.served b d here

    -- so was what the node held
    lane : IsLane b.n b.first (submitted b d t) (confirmed b d t) e.tx e.sent (half b (receiver_table d w.nodes)).rx
    lane = lane_of t w.nodes w.links b d e was half_before

    -- and what it holds then, with the next COUNT
    taken_lane : (c ≡ b.first + length (submitted b d t)) × IsLane b.n b.first (submitted b d t ++ payload ∷ []) (confirmed b d t) tx (e.sent ++ Some c ∷ []) (half b (receiver_table d w.nodes)).rx
    taken_lane = lane_taken b.n b.first (submitted b d t) (confirmed b d t) e.tx e.sent (half b (receiver_table d w.nodes)).rx lane payload tx c good ok

    -- each COUNT that was sent is received or under way
    owed_here : (k : ℕ) → b.first ≤ k → k < tx.next → Received (half b (receiver_table d w.nodes)).rx k ⊎ IsUnderWay b k (on links' (leg d))
    owed_here k from below =
        let counted : c ≡ b.first + length (submitted b d t) = taken_lane.0 in
        let counted' : tx.next ≡ b.first + length (submitted b d t ++ payload ∷ []) = taken_lane.1.counted in
        let more : length (submitted b d t ++ payload ∷ []) ≡ length (submitted b d t) + 1 = length_push (submitted b d t) payload in
        let before : e.tx.next ≡ b.first + length (submitted b d t) = lane.counted in
        elim (cases_lt k e.tx.next) [
          | inl less ↦
              elim (was.owed k from (subst (λ (x : Entities). k < x.tx.next) (sym half_before) less)) [ inl got ↦ inl got | inr under ↦ inr (flying b d k under) ]
          | inr most ↦
              let last : c ≡ k = omega arith in
              let new : IsUnderWay b k (f ∷ []) = inl (refl, refl, ap Some last) in
              inr (subst (IsUnderWay b k) (sym (on_then (leg d) ∙ ap (λ fs. on w.links (leg d) ++ fs) (own_leg d f))) (under_way_last b k (on w.links (leg d)) f new))
        ]

    -- the bearer is served
    served_here : IsServed (t ++ entry ∷ []) after links' b d
    served_here =
        let xs' : submitted b d t ++ submission b d t entry ≡ submitted b d t ++ payload ∷ [] = ap (λ xs. submitted b d t ++ xs) submission_here in
        let cs' : confirmed b d t ++ confirms b d t entry ≡ confirmed b d t = ap (λ cs. confirmed b d t ++ cs) (nothing_confirmed b d) ∙ append-nil (confirmed b d t) in
        served_next t w.nodes w.links b d entry after links' was (no_ups b d t entry refl) (rx_still b d)
        (lane_same b.n b.first _ _ _ _ _ _ _ _ _ _ xs' cs' (ap (λ (x : Entities). x.tx) half_after) (ap (λ (x : Entities). x.sent) half_after) refl taken_lane.1)
        (λ k from below. owed_here k from (subst (λ (x : Entities). k < x.tx.next) half_after below))
        (λ num.
        ap (λ xs. xs ++ flat_map (tag_of (leg d) b.id b.g num) (sends entry.lines)) (was.numbers num ∙ ap (λ (x : Entities). listed (slice_get x.sent num)) half_before)
        ∙ ap (λ xs. listed (slice_get e.sent num) ++ xs) (tag_here num)
        ∙ listed_push e.sent c num
        ∙ ap (λ (x : Entities). listed (slice_get x.sent num)) (sym half_after))

    -- so is every other
    served_all : (b' : Established) (d' : Dir) → Contains (established t) b' → IsServed (t ++ entry ∷ []) after links' b' d'
    served_all = each_bearer (established t) sound.tables.once b here d id named (λ x k. IsServed (t ++ entry ∷ []) after links' x k) served_here (λ b' d' at' apart.
        let same : half b' (sender_table d' after) ≡ half b' (sender_table d' w.nodes) = sender_put_apart d w.nodes id e' b' d' apart in
        served_still t w.nodes w.links b' d' entry after links' (sound.served b' d' at') (no_ups b' d' t entry refl) (rx_still b' d')
        (submission_apart b' d' apart) (nothing_confirmed b' d') (λ num. tag_apart b' d' num apart)
        (ap (λ (x : Entities). x.tx) same) (ap (λ (x : Entities). x.sent) same) (λ k way. inr (flying b' d' k way)))

    -- ---- the PDU

    -- the payload stands under its COUNT
    submission_then : slice_get (submitted b d (t ++ entry ∷ [])) (c - b.first) ≡ Some payload
    submission_then =
        let counted : c ≡ b.first + length (submitted b d t) = taken_lane.0 in
        let place : length (submitted b d t) ≡ c - b.first = omega arith in
        ap (λ xs. slice_get xs (c - b.first)) (submitted-next b d t entry ∙ ap (λ xs. submitted b d t ++ xs) submission_here)
        ∙ subst (λ k. slice_get (submitted b d t ++ payload ∷ []) k ≡ Some payload) place (slice_get_last (submitted b d t) payload)

    -- the PDU protects it
    protected : ProtectsSubmission h (t ++ entry ∷ []) b d b.g (Some c) (data_pdu b.n (sn b.n c) (ciphered h b.id d c payload))
    protected =
        let counted : c ≡ b.first + length (submitted b d t) = taken_lane.0 in
        record {
          count = c;
          tagged = refl;
          counted = omega arith;
          sdu = payload;
          submission = submission_then;
          key = master_key 0;
          keyed = ap (key_in b.g b.id) (plans_same t entry plain.undrawn) ∙ sound.tables.keyed b here;
          spelled = refl;
        }

    -- and is of no other bearer
    protects_all : (b' : Established) (d' : Dir) → Contains (established (t ++ entry ∷ [])) b' → Protects h b' d' t entry
    protects_all b' d' at' = (
      λ is. protects_whichever h t (t ++ entry ∷ []) sound.tables.once b b' d d' (Some c) (data_pdu b.n (sn b.n c) (ciphered h b.id d c payload)) here (there_before t entry plain.undrawn b' at') is.1 is.3 protected,
      tt,
    )

    -- so its promise holds
    pdu : IsPduOf h (t ++ entry ∷ []) after d f
    pdu =
        let counted : c ≡ b.first + length (submitted b d t) = taken_lane.0 in
        record {
          bearer = b;
          there = there_then t entry plain.undrawn b here;
          num = length e.sent;
          count = c;
          numbered = ap (λ (x : Entities). slice_get x.sent (length e.sent)) half_after ∙ slice_get_last e.sent (Some c);
          payload = payload;
          good = good;
          submission = record { counted = omega arith; payload = submission_then };
          is = refl;
        }

    -- the PDUs sent before have their numbers
    numbers_kept : (b' : Established) (d' : Dir) → Contains (established t) b' → (num : ℕ) (o : Option ℕ) → IsNumberOf w.nodes b' d' num o → IsNumberOf after b' d' num o
    numbers_kept = each_bearer (established t) sound.tables.once b here d id named (λ x k. (num : ℕ) (o : Option ℕ) → IsNumberOf w.nodes x k num o → IsNumberOf after x k num o)
        (λ num o is. subst (λ (x : Entities). slice_get x.sent num ≡ Some o) (sym half_after)
        (slice_get_left e.sent (Some c ∷ []) num o (subst (λ (x : Entities). slice_get x.sent num ≡ Some o) half_before is)))
        (λ b' d' at' apart num o is. subst (λ (x : Entities). slice_get x.sent num ≡ Some o) (sym (sender_put_apart d w.nodes id e' b' d' apart)) is)

    -- ---- the other claims

    -- Low stays
    low_still : (b' : Established) (d' : Dir) → Contains (established t) b' → low (half b' (sender_table d' after)).tx ≡ low (half b' (sender_table d' w.nodes)).tx
    low_still = each_bearer (established t) sound.tables.once b here d id named (λ x k. low (half x (sender_table k after)).tx ≡ low (half x (sender_table k w.nodes)).tx)
        (ap (λ (x : Entities). low x.tx) half_after ∙ (has_room e.tx tx payload c ok).still ∙ sym (ap (λ (x : Entities). low x.tx) half_before))
        (λ b' d' at' apart. ap (λ (x : Entities). low x.tx) (sender_put_apart d w.nodes id e' b' d' apart))

    -- there was room, and a COUNT was left
    due : submit_answer d t (Some b) ≡ answer.Ok
    due =
        let next = b.first + length (submitted b d t) in
        let took = has_room e.tx tx payload c ok in
        let room = took.room in let left = took.left in
        let counted : e.tx.next ≡ b.first + length (submitted b d t) = lane.counted in
        let same : window e.tx.n ≡ window b.n = ap window lane.tx_length in
        let told_is : low e.tx ≡ told b d t = low_is b.n b.first (submitted b d t) (confirmed b d t) e.tx e.sent (half b (receiver_table d w.nodes)).rx lane in
        cond-false _ _ _ (lt-leb (told b d t + window b.n) next (omega arith)) ∙ cond-false _ _ _ (ne_eqb next (2 ^ 32 - 1) (λ is. left (omega arith)))

    -- the PDU is sent for its submission
    licence : IsLicensed h t entry
    licence =
        let counted : c ≡ b.first + length (submitted b d t) = taken_lane.0 in
        record {
          reasons = (
            inl (
              is_data_flight h d b c payload,
              inl (record {
                sdu = payload;
                submits = ap (λ k. Submit k d payload) (sym named) ∙ ap (λ k. Submit b.id k payload) (sym (direction_leg d));
                accepted = refl;
                bearer = b;
                of_bearer = record { latest_is = sound.tables.once b here; of_generation = is_generation_once t b sound.tables.once here };
                tagged = ap Some counted ∙ ap (λ k. Some (b.first + length (submitted b k t))) (sym (direction_leg d));
              }),
            ),
            tt,
          );
          ascends = (omega arith, tt);
          one = omega arith;
        }

    -- under a generation that was drawn
    none_sent : NoneSent (t ++ entry ∷ [])
    none_sent = none_sent_drawn t entry plain.undrawn b here (λ l k g num unlike. elim (cases_Bool (is_same_link l (leg d))) [
      | inl same ↦ elim (cases_Bool (b.id == k)) [ inl named' ↦ rw (same, named', unlike) refl | inr apart ↦ rw (same, apart) refl ]
      | inr apart ↦ rw apart refl
    ]) sound.none_sent

    -- the command stands where it stood
    phase : Phase h (t ++ entry ∷ []) after links'
    phase =
        phase_same t entry plain w.nodes after keeps h w.links links'
        (on_then mt_ctl ∙ ap (λ fs. on w.links mt_ctl ++ fs) (no_command d f) ∙ append-nil (on w.links mt_ctl))
        (on_then tm_ctl ∙ ap (λ fs. on w.links tm_ctl ++ fs) (no_completion d f) ∙ append-nil (on w.links tm_ctl))
        (λ b' at' busy absent d'. submission_apart b' d' (inr (not_opening t w.nodes sound.tables d id e at there b' at' busy absent)))
        (λ b' at' busy. ap (λ (x : Entities). x.sent) (sender_put_apart d w.nodes id e' b' Dl (apart_at_master t w.nodes sound.tables d id b there b' at' busy)))
        sound.phase

    -- so all is kept
    happened : Happened h policies t w entry after
    happened = record {
      tables = tabled_same t entry plain w.nodes after keeps sound.tables;
      phase = phase;
      served = λ b' d' at'. served_all b' d' (there_before t entry plain.undrawn b' at');
      grows = grows_same t entry w.nodes after (there_then t entry plain.undrawn) (λ b' d' at'. rx_still b' d') numbers_kept;
      sent = (promised h (t ++ entry ∷ []) after d f pdu, tt);
      none_sent = none_sent;
      protects = protects_all;
      carried = λ b' d' at'. none_carried b' d' t entry (no_ups b' d' t entry refl);
      freed = λ b' d' at'. no_frees b' d' t entry refl ∙ no_move _ _ (low_still b' d' (there_before t entry plain.undrawn b' at'));
      fresh_before = λ b' at'. inl (there_before t entry plain.undrawn b' at');
      cause = sym (ap (submit_answer d t) there ∙ due);
      licence = licence;
    }

  -- a payload is submitted and taken
  pub submitted_happened : (id : ℕ) (d : Dir) (payload : List ℕ) (e : Entities) (tx : Sender) (c : ℕ) → IsPayload payload
      → bearer_in (sender_table d w.nodes) id ≡ Some e → at_submitter d id t ≡ Some e.bearer → taken e.tx payload ≡ Ok (tx, c)
      → Happened h policies t w
      (record { event = Submit id d payload; answer = answer.Ok; lines = line.Send (leg d) (data_flight h e.bearer d (length e.sent) c payload) ∷ [] })
      (with_sender d w.nodes (with_bearer (sender_table d w.nodes) id (Some (record e { tx = tx; sent = e.sent ++ Some c ∷ [] }))))
  submitted_happened id d payload e tx c good at there ok = happened id d payload e tx c good at there ok
