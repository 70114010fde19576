-- A node sends again all that it keeps of a bearer: what a recovery owes at either node.
use Rattle.std.proofs.Common.{ℕ, ◌≡◌, ◌+◌, ◌-◌, ◌<◌, ◌==◌, ◌++◌, List, [], ◌∷◌, Option, Some, false, length, slice_get, refl, sym, ap, ◌∙◌, subst, arith, inl, inr}
use Rattle.std.specs.Prelude.{Contains, count_by}
use Rattle.std.specs.List.{AllByRecursion, flat_map}
use Rattle.std.specs.Option.{option_map}
use Rattle.dc_base.specs.Count.{sn}
use Rattle.dc_base.specs.declared.nodes.Dir.{Dir}
use Rattle.dc_base.specs.declared.nodes.Dir.TheVariants.{Ul, Dl}
use Rattle.dc_base.specs.declared.nodes.LinkId.{LinkId}
use Rattle.dc_base.specs.declared.flights.Flight.{Flight}
use Rattle.dc_base.specs.declared.flights.Flight.TheVariants as flight
use Rattle.dc_base.specs.declared.records.Rec.{Rec}
use Rattle.dc_base.specs.declared.answers.Answer.TheVariants as answer
use Rattle.dc_base.specs.declared.events.Header.{Header}
use Rattle.dc_base.specs.declared.events.Event.{Event}
use Rattle.dc_base.specs.declared.events.Line.TheVariants as line
use Rattle.pdcp_pdu.specs.DataPdu.{IsPayload, data_pdu}
use Rattle.pdcp_tx.specs.Sender.{low}
use Rattle.dc_base.specs.Links.{is_same_link}
use Rattle.transcript.specs.Transcript.{Entry, sends}
use Rattle.transcript.specs.Content.{put_on, place_taken, without_taken}
use Rattle.transcript.specs.Bearers.{OpenCommand, Established, established, generation, submission, submitted, confirms, confirmed, is_confirmed, up_of, freed_of, tag_of, opens, open_command, is_set, key_in, master_key}
use Rattle.transcript.specs.Claims.{Protects, ProtectsSubmission, IsDataFlight, IsProtected, IsReason, IsLicensed, HasCause, MakesRecover, SentAgain, is_uncounted}
use Rattle.master_runs.specs.Entities.{Entities, bearer_in}
use Rattle.master_runs.specs.Plane.{leg, ciphered, data_flight, resends}
use Rattle.master_runs.specs.Control.{Nodes}
use Rattle.master_runs.specs.Links.{Links, on, moved}
use Rattle.master_runs.specs.Run.{WorldState}
use Rattle.transcript.proofs.OnEach.{each_at}
use Rattle.transcript.proofs.Establishing.{submitted-next, open_command-next, is_set-next, is_generation_once}
use Rattle.master_runs.proofs.Lists.{slice_get_left, slice_get_right}
use Rattle.master_runs.proofs.Lane.{IsNumbered, IsLane, lane_sent, kept_unconfirmed}
use Rattle.master_runs.proofs.Taking.{is_data_flight}
use Rattle.master_runs.proofs.Tables.{is_established, Keeps, half_at, sender_put, sender_put_here, sender_put_apart, sender_put_rx, keeps_sender}
use Rattle.master_runs.proofs.Moving.{on_moved}
use Rattle.master_runs.proofs.Directions.{each_bearer, Apart, direction_leg, other_leg, protects_whichever}
use Rattle.master_runs.proofs.Plain.{IsUndrawn, plans_same, there_then, there_before, none_mapped, tabled_busy}
use Rattle.master_runs.proofs.Served.{lane_same, under_way_left, served_next, served_still, lane_of}
use Rattle.master_runs.proofs.Silent.{no_ups, no_frees, no_move, none_carried, grows_same, none_more, none_sent_drawn}
use Rattle.master_runs.proofs.Sound.{half, sender_table, receiver_table, IsNumberOf, IsPduOf, IsUnderWay, AllConfigured, PromiseOf, Phase, listed, IsServed, IsTabled, NoneSent, Happened, Sound}
use Rattle.master_runs.proofs.Leaving.{promised}
use Rattle.master_runs.proofs.Resent.{counts_sent, counts_at, given_again, each_resent, resent_ups, resent_frees, resent_sets, resent_ends, resent_tags, resent_untagged, resent_ascend, resent_counted}

-- ---- the nodes, where the open command may be another

-- what the nodes hold does not depend on the command
sender_busy : (k : Dir) (s : Nodes) (o : Option OpenCommand) → sender_table k (record s { busy = o }) ≡ sender_table k s
sender_busy Dl s o = refl
sender_busy Ul s o = refl

-- nor do the receivers' tables
receiver_busy : (k : Dir) (s : Nodes) (o : Option OpenCommand) → receiver_table k (record s { busy = o }) ≡ receiver_table k s
receiver_busy Dl s o = refl
receiver_busy Ul s o = refl

-- an entry with a record and then all that the bearer keeps
module _ (h : Header) (policies : ℕ) (t : List Entry) (w : WorldState) (sound : Sound h policies t w) (d : Dir) (id : ℕ) (e : Entities)
    (at : bearer_in (sender_table d w.nodes) id ≡ Some e) (event : Event) (l : LinkId) (r : Rec) (busy : Option OpenCommand) where
  -- the bearer
  abbrev pub b : Established
  b = e.bearer

  -- what happens
  abbrev pub entry : Entry
  entry = record { event = event; answer = answer.Ok; lines = line.Send l (flight.Ctl r) ∷ resends h b d (length e.sent) e.tx.kept }

  -- what the node holds of the bearer then
  abbrev pub e' : Entities
  e' = record e { sent = e.sent ++ counts_sent e.tx.kept }

  -- what the nodes hold then
  abbrev pub after : Nodes
  after = record (sender_put d w.nodes id e') { busy = busy }

  -- what the links hold then
  abbrev pub links' : Links
  links' = moved w.links (place_taken event answer.Ok) entry.lines

  -- the bearer is established
  pub here : Contains (established t) b
  here = (is_established t w.nodes sound.tables d id e at).0

  -- under the identity that was named
  pub named : b.id ≡ id
  named = (is_established t w.nodes sound.tables d id e at).1

  -- each place keeps its bearer
  keeps : Keeps w.nodes (sender_put d w.nodes id e')
  keeps = keeps_sender d w.nodes id e e' at refl

  -- and its receiving side
  rx_still : (b' : Established) (d' : Dir) → (half b' (receiver_table d' after)).rx ≡ (half b' (receiver_table d' w.nodes)).rx
  rx_still b' d' = ap (λ table. (half b' table).rx) (receiver_busy d' (sender_put d w.nodes id e') busy) ∙ sender_put_rx d w.nodes id e e' at refl b' d'

  -- what the node held of the bearer
  half_before : half b (sender_table d w.nodes) ≡ e
  half_before = half_at b (sender_table d w.nodes) id e at named

  -- and holds then
  half_after : half b (sender_table d after) ≡ e'
  half_after = ap (half b) (sender_busy d (sender_put d w.nodes id e') busy) ∙ sender_put_here d w.nodes b id e e' at named

  -- of every other it holds what it held
  half_apart : (b' : Established) (d' : Dir) → Apart d id d' b'.id → half b' (sender_table d' after) ≡ half b' (sender_table d' w.nodes)
  half_apart b' d' apart = ap (half b') (sender_busy d' (sender_put d w.nodes id e') busy) ∙ sender_put_apart d w.nodes id e' b' d' apart

  -- the bearer was served
  was : IsServed t w.nodes w.links b d
  was = sound.served b d here

  -- with what the node held
  lane : IsLane b.n b.first (submitted b d t) (confirmed b d t) e.tx e.sent (half b (receiver_table d w.nodes)).rx
  lane = lane_of t w.nodes w.links b d e was half_before

  -- what is so of each payload that is kept
  abbrev IsKeptHere : ℕ × List ℕ → Type 0
  IsKeptHere x = IsNumbered b.first (submitted b d t) x × (x.0 < e.tx.next) × (is_confirmed (confirmed b d t) x.0 ≡ false) × IsPayload x.1

  -- it was submitted, and is not confirmed
  kept_here : AllByRecursion IsKeptHere e.tx.kept
  kept_here = kept_unconfirmed b.n b.first (submitted b d t) (confirmed b d t) e.tx e.sent (half b (receiver_table d w.nodes)).rx lane

  -- more PDUs were sent
  lane_then : IsLane b.n b.first (submitted b d t) (confirmed b d t) e.tx (e.sent ++ counts_sent e.tx.kept) (half b (receiver_table d w.nodes)).rx
  lane_then = lane_sent b.n b.first (submitted b d t) (confirmed b d t) e.tx e.sent (half b (receiver_table d w.nodes)).rx lane (counts_sent e.tx.kept)
      (given_again b.first e.tx.next IsKeptHere (λ x is. (is.0.counted, is.1)) e.tx.kept kept_here)

  -- Low stays
  low_still : (b' : Established) (d' : Dir) → Contains (established t) b' → low (half b' (sender_table d' after)).tx ≡ low (half b' (sender_table d' w.nodes)).tx
  low_still = each_bearer (established t) sound.tables.once b here d id named (λ x k. low (half x (sender_table k after)).tx ≡ low (half x (sender_table k w.nodes)).tx)
      (ap (λ (x : Entities). low x.tx) half_after ∙ sym (ap (λ (x : Entities). low x.tx) half_before))
      (λ b' d' at' apart. ap (λ (x : Entities). low x.tx) (half_apart b' d' apart))

  -- each number stands for the PDU that it stood for
  numbers_still : (b' : Established) (d' : Dir) → Contains (established t) b' → (num : ℕ) (o : Option ℕ) → IsNumberOf w.nodes b' d' num o → IsNumberOf after b' d' num o
  numbers_still = each_bearer (established t) sound.tables.once b here d id named (λ x k. (num : ℕ) (o : Option ℕ) → IsNumberOf w.nodes x k num o → IsNumberOf after x k num o)
      (λ num o is. subst (λ (x : Entities). slice_get x.sent num ≡ Some o) (sym half_after)
      (slice_get_left e.sent (counts_sent e.tx.kept) num o (subst (λ (x : Entities). slice_get x.sent num ≡ Some o) half_before is)))
      (λ b' d' at' apart num o is. subst (λ (x : Entities). slice_get x.sent num ≡ Some o) (sym (half_apart b' d' apart)) is)

  -- nothing goes up
  no_ups_here : (c : Established) (k : Dir) → flat_map (up_of c k) entry.lines ≡ []
  no_ups_here c k = resent_ups h b d c k (length e.sent) e.tx.kept

  -- no window moves
  no_frees_here : (c : Established) (k : Dir) → flat_map (freed_of c k) entry.lines ≡ []
  no_frees_here c k = resent_frees h b d c k (length e.sent) e.tx.kept

  -- of no other bearer or direction is a COUNT sent
  tag_apart : (b' : Established) (d' : Dir) (num : ℕ) → Apart d id d' b'.id → flat_map (tag_of (leg d') b'.id b'.g num) (sends entry.lines) ≡ []
  tag_apart b' d' num (inl turned) =
      resent_untagged h b d (leg d') b'.id b'.g num (length e.sent) (inl (ap (λ k. is_same_link (leg k) (leg d)) turned ∙ other_leg d)) e.tx.kept
  tag_apart b' d' num (inr apart) = resent_untagged h b d (leg d') b'.id b'.g num (length e.sent) (inr (inl (ap (λ k. k == b'.id) named ∙ apart))) e.tx.kept

  -- every bearer is still at the terminal
  pub all_there : IsUndrawn entry → AllConfigured t w.nodes → AllConfigured (t ++ entry ∷ []) after
  all_there undrawn all c is gone =
      all c (there_before t entry undrawn c is) (none_mapped (bearer_in w.nodes.terminal c.id) (sym (keeps.bearers Ul c.id) ∙ ap (option_map (λ (x : Entities). x.bearer)) gone))

  module _ (undrawn : IsUndrawn entry) (submits : (c : Established) (k : Dir) → submission c k t entry ≡ []) (confirming : (c : Established) (k : Dir) → confirms c k t entry ≡ [])
      (stays : (k : Dir) (fs : List Flight) → without_taken (leg k) (place_taken event answer.Ok) fs ≡ fs) where
    -- what was submitted is the same
    submitted_same : (c : Established) (k : Dir) → submitted c k (t ++ entry ∷ []) ≡ submitted c k t
    submitted_same c k = submitted-next c k t entry ∙ none_more (submitted c k t) (submission c k t entry) (submits c k)

    -- what stands on a leg then
    on_leg : (k : Dir) → on links' (leg k) ≡ on w.links (leg k) ++ put_on (leg k) entry.lines
    on_leg k = on_moved w.links (place_taken event answer.Ok) entry.lines (leg k) sound.long ∙ ap (λ fs. fs ++ put_on (leg k) entry.lines) (stays k (on w.links (leg k)))

    -- what was under way is so
    flying : (b' : Established) (d' : Dir) (k : ℕ) → IsUnderWay b' k (on w.links (leg d')) → IsUnderWay b' k (on links' (leg d'))
    flying b' d' k under = subst (IsUnderWay b' k) (sym (on_leg d')) (under_way_left b' k (on w.links (leg d')) (put_on (leg d') entry.lines) under)

    -- ---- the bearer

    -- the bearer is served
    served_here : IsServed (t ++ entry ∷ []) after links' b d
    served_here =
        served_next t w.nodes w.links b d entry after links' was (no_ups b d t entry (no_ups_here b d)) (rx_still b d)
        (lane_same b.n b.first _ _ _ _ _ _ _ _ _ _ (none_more (submitted b d t) (submission b d t entry) (submits b d)) (none_more (confirmed b d t) (confirms b d t entry) (confirming b d))
        (ap (λ (x : Entities). x.tx) half_after) (ap (λ (x : Entities). x.sent) half_after) refl lane_then)
        (λ k from below.
        elim (was.owed k from (subst (λ (x : Entities). k < x.tx.next) (sym half_before) (subst (λ (x : Entities). k < x.tx.next) half_after below))) [ inl got ↦ inl got | inr under ↦ inr (flying b d k under) ])
        (λ num.
        ap (λ xs. xs ++ flat_map (tag_of (leg d) b.id b.g num) (sends entry.lines)) (was.numbers num ∙ ap (λ (x : Entities). listed (slice_get x.sent num)) half_before)
        ∙ resent_tags h b d e.sent e.tx.kept num (length e.sent) refl
        ∙ ap (λ (x : Entities). listed (slice_get x.sent num)) (sym half_after))

    -- so is every other
    served_all : (b' : Established) (d' : Dir) → Contains (established t) b' → IsServed (t ++ entry ∷ []) after links' b' d'
    served_all = each_bearer (established t) sound.tables.once b here d id named (λ x k. IsServed (t ++ entry ∷ []) after links' x k) served_here (λ b' d' at' apart.
        let same : half b' (sender_table d' after) ≡ half b' (sender_table d' w.nodes) = half_apart b' d' apart in
        served_still t w.nodes w.links b' d' entry after links' (sound.served b' d' at') (no_ups b' d' t entry (no_ups_here b' d')) (rx_still b' d')
        (submits b' d') (confirming b' d') (λ num. tag_apart b' d' num apart)
        (ap (λ (x : Entities). x.tx) same) (ap (λ (x : Entities). x.sent) same) (λ k way. inr (flying b' d' k way)))

    -- ---- the PDUs

    -- the flight of a payload that is kept
    abbrev pdu_at : ℕ → ℕ × List ℕ → Flight
    pdu_at k x = data_flight h b d (length e.sent + k) x.0 x.1

    -- its promise holds
    pdu : (k : ℕ) (x : ℕ × List ℕ) → slice_get e.tx.kept k ≡ Some x → IsPduOf h (t ++ entry ∷ []) after d (pdu_at k x)
    pdu k x is =
        let kept : IsKeptHere x = each_at IsKeptHere e.tx.kept k x kept_here is in
        record {
          bearer = b;
          there = there_then t entry undrawn b here;
          num = length e.sent + k;
          count = x.0;
          numbered = subst (λ (y : Entities). slice_get y.sent (length e.sent + k) ≡ Some (Some x.0)) (sym half_after)
              (slice_get_right e.sent (counts_sent e.tx.kept) k (Some x.0) (counts_at e.tx.kept k x is));
          payload = x.1;
          good = kept.3;
          submission = subst (λ xs. IsNumbered b.first xs (x.0, x.1)) (sym (submitted_same b d)) kept.0;
          is = refl;
        }

    -- it protects its submission
    protected : (k : ℕ) (x : ℕ × List ℕ) → slice_get e.tx.kept k ≡ Some x → ProtectsSubmission h (t ++ entry ∷ []) b d b.g (Some x.0) (data_pdu b.n (sn b.n x.0) (ciphered h b.id d x.0 x.1))
    protected k x is =
        let kept : IsKeptHere x = each_at IsKeptHere e.tx.kept k x kept_here is in
        record {
          count = x.0;
          tagged = refl;
          counted = kept.0.counted;
          sdu = x.1;
          submission = ap (λ xs. slice_get xs (x.0 - b.first)) (submitted_same b d) ∙ kept.0.payload;
          key = master_key 0;
          keyed = ap (key_in b.g b.id) (plans_same t entry undrawn) ∙ sound.tables.keyed b here;
          spelled = refl;
        }

    -- and is of no other bearer
    protects_all : (b' : Established) (d' : Dir) → Contains (established (t ++ entry ∷ [])) b' → Protects h b' d' t entry
    protects_all b' d' at' = (
      (λ is. absurd is),
      each_resent h b d (λ s. IsDataFlight (t ++ entry ∷ []) b' d' s → IsProtected h (t ++ entry ∷ []) b' d' s) (length e.sent) e.tx.kept (λ k x kept is.
          protects_whichever h t (t ++ entry ∷ []) sound.tables.once b b' d d' (Some x.0) (data_pdu b.n (sn b.n x.0) (ciphered h b.id d x.0 x.1)) here (there_before t entry undrawn b' at') is.1 is.3 (protected k x kept)),
    )

    -- it is sent again for the recovery
    again : MakesRecover t entry d id → (k : ℕ) (x : ℕ × List ℕ) → slice_get e.tx.kept k ≡ Some x → SentAgain t entry (leg d) b.id b.g (Some x.0)
    again recovers k x is =
        let kept : IsKeptHere x = each_at IsKeptHere e.tx.kept k x kept_here is in
        let counted : e.tx.next ≡ b.first + length (submitted b d t) = lane.counted in
        let below : x.0 < b.first + length (submitted b d t) = subst (λ n. x.0 < n) counted kept.1 in
        record {
          recovers = subst (λ k. MakesRecover t entry k b.id) (sym (direction_leg d)) (subst (MakesRecover t entry d) (sym named) recovers);
          bearer = b;
          of_bearer = record { latest_is = sound.tables.once b here; of_generation = is_generation_once t b sound.tables.once here };
          count = x.0;
          tagged = refl;
          from = kept.0.counted;
          below = subst (λ k. x.0 < b.first + length (submitted b k t)) (sym (direction_leg d)) below;
          unconfirmed = subst (λ k. is_confirmed (confirmed b k t) x.0 ≡ false) (sym (direction_leg d)) kept.2;
        }

    -- the record has its reason, and so have they
    licence : MakesRecover t entry d id → IsReason h t entry (l, flight.Ctl r) → IsLicensed h t entry
    licence recovers reason = record {
      reasons = (reason, each_resent h b d (IsReason h t entry) (length e.sent) e.tx.kept (λ k x kept. inl (is_data_flight h d b x.0 x.1, inr (again recovers k x kept))));
      ascends = resent_ascend h b d 0 b.first e.tx.next (length e.sent) e.tx.kept (omega arith) lane.rises;
      one = let one : count_by is_uncounted (sends entry.lines) ≡ 1 = resent_counted h b d (length e.sent) 1 e.tx.kept in omega arith;
    }

    -- under a generation that was drawn
    none_sent : NoneSent (t ++ entry ∷ [])
    none_sent = none_sent_drawn t entry undrawn b here (λ k i g num unlike. resent_untagged h b d k i g num (length e.sent) (inr (inr unlike)) e.tx.kept) sound.none_sent

    -- ---- the tables

    -- the terminal has the same bearers
    set_same : (k : ℕ) → is_set k (t ++ entry ∷ []) ≡ is_set k t
    set_same k = is_set-next k t entry ∙ resent_sets h b d k (is_set k t) (length e.sent) e.tx.kept

    -- the nodes follow the transcript
    pub resending_tables : opens (generation t + 1) (open_command t) event answer.Ok ≡ busy → IsTabled (t ++ entry ∷ []) after
    resending_tables opened =
        tabled_busy t entry undrawn set_same w.nodes (sender_put d w.nodes id e') keeps busy
        (open_command-next t entry ∙ resent_ends h b d (opens (generation t + 1) (open_command t) event answer.Ok) (length e.sent) e.tx.kept ∙ opened) sound.tables

    -- ---- all that it owes

    -- with the command that is open then, the phase, and what is so of the record
    pub resending_happened : opens (generation t + 1) (open_command t) event answer.Ok ≡ busy → Phase h (t ++ entry ∷ []) after links'
        → PromiseOf h (t ++ entry ∷ []) after (l, flight.Ctl r) → MakesRecover t entry d id → IsReason h t entry (l, flight.Ctl r) → HasCause policies t entry → Happened h policies t w entry after
    resending_happened opened phase promise recovers reason cause = record {
      tables = resending_tables opened;
      phase = phase;
      served = λ b' d' at'. served_all b' d' (there_before t entry undrawn b' at');
      grows = grows_same t entry w.nodes after (there_then t entry undrawn) (λ b' d' at'. rx_still b' d') numbers_still;
      sent = (promise, each_resent h b d (PromiseOf h (t ++ entry ∷ []) after) (length e.sent) e.tx.kept (λ k x kept. promised h (t ++ entry ∷ []) after d (pdu_at k x) (pdu k x kept)));
      none_sent = none_sent;
      protects = protects_all;
      carried = λ b' d' at'. none_carried b' d' t entry (no_ups b' d' t entry (no_ups_here b' d'));
      freed = λ b' d' at'. no_frees b' d' t entry (no_frees_here b' d') ∙ no_move _ _ (low_still b' d' (there_before t entry undrawn b' at'));
      fresh_before = λ b' at'. inl (there_before t entry undrawn b' at');
      cause = cause;
      licence = licence recovers reason;
    }
