-- A status report is asked for: the node sends one of what it received.
use Rattle.std.proofs.Common.{ℕ, zero, suc, ◌≡◌, ◌+◌, ◌^◌, ◌<◌, ◌==◌, ◌||◌, ◌++◌, List, [], ◌∷◌, Option, Some, None, true, false, length, slice_get, get_or, refl, sym, ap, ◌∙◌, subst, arith, inl, inr}
use Rattle.std.specs.Prelude.{Contains, nat_lt, ◌&&◌}
use Rattle.std.specs.List.{AllByRecursion, flat_map}
use Rattle.std.proofs.lemmas.List.{append-nil}
use Rattle.std.proofs.lemmas.Bool.{cases_Bool, or_cases, ltb-true}
use Rattle.dc_base.specs.declared.nodes.Dir.{Dir}
use Rattle.dc_base.specs.declared.nodes.Dir.TheVariants.{Ul, Dl}
use Rattle.dc_base.specs.declared.nodes.LinkId.{LinkId}
use Rattle.dc_base.specs.declared.flights.Flight.{Flight}
use Rattle.dc_base.specs.declared.answers.Answer.TheVariants as answer
use Rattle.dc_base.specs.declared.events.Header.{Header}
use Rattle.dc_base.specs.declared.events.Event.TheVariants.{Report}
use Rattle.dc_base.specs.declared.events.Line.TheVariants as line
use Rattle.pdcp_pdu.specs.Bitmap.{is_among}
use Rattle.pdcp_pdu.specs.StatusReport.{report_pdu, sent_bits, sent_set}
use Rattle.pdcp_pdu.proofs.Ascending.{Ascending}
use Rattle.pdcp_pdu.proofs.Reports.{sent_names, sent_again}
use Rattle.pdcp_tx.specs.Sender.{low}
use Rattle.pdcp_rx.specs.Entries.{AscendFrom, counts_of, is_stored}
use Rattle.pdcp_rx.specs.Receiver.{Received}
use Rattle.pdcp_rx.specs.declared.entity.RxParts.{RxParts}
use Rattle.pdcp_pdu.specs.DataPdu.{is_data}
use Rattle.transcript.specs.Transcript.{Entry, sends}
use Rattle.transcript.specs.Content.{mt_ctl, tm_ctl, put_on}
use Rattle.transcript.specs.Bearers.{Established, established, submitted, confirms, confirmed, tag_of, at_submitter, submitter}
use Rattle.transcript.specs.Claims.{Protects, IsLicensed, report_answer}
use Rattle.transcript.proofs.Establishing.{is_generation_once}
use Rattle.master_runs.specs.Entities.{Entities, bearer_in}
use Rattle.master_runs.specs.Plane.{leg, other, report_flight}
use Rattle.master_runs.specs.Control.{Nodes}
use Rattle.master_runs.specs.Links.{Links, on, moved}
use Rattle.master_runs.specs.Run.{WorldState}
use Rattle.master_runs.proofs.Lists.{slice_get_left, slice_get_last}
use Rattle.master_runs.proofs.Lane.{IsNumbered, numbered_below, IsLane, lane_sent}
use Rattle.master_runs.proofs.Tables.{is_established, Keeps, half_at, sender_put, sender_put_here, sender_put_apart, sender_put_rx, sender_put_same, keeps_sender, turned, apart_at_master}
use Rattle.master_runs.proofs.Moving.{on_moved}
use Rattle.master_runs.proofs.Directions.{each_bearer, leg_from}
use Rattle.master_runs.proofs.Plain.{IsPlain, there_then, there_before, tabled_same, phase_same}
use Rattle.master_runs.proofs.Served.{lane_same, served_next, served_still, listed_none}
use Rattle.master_runs.proofs.Silent.{no_ups, no_frees, no_move, none_carried, none_sent_still, grows_same}
use Rattle.master_runs.proofs.Sound.{or_fresh, half, sender_table, receiver_table, IsNumberOf, IsReportOf, IsUnderWay, Phase, listed, IsServed, Happened, Sound}
use Rattle.master_runs.proofs.Leaving.{no_command, no_completion, report_promised, flying_put}

-- ---- what a report names

-- COUNTs that are stored ascend
stored_ascend : (c : ℕ) (es : List (ℕ × List ℕ)) → AscendFrom (c + 1) es → Ascending c (counts_of es)
stored_ascend c [] up = tt
stored_ascend c (e ∷ es) up = (omega (arith, up.0), stored_ascend e.0 es up.1)

-- what was submitted has COUNTs below the next one
stored_small : (first bound : ℕ) (xs : List (List ℕ)) (es : List (ℕ × List ℕ)) → first + length xs < bound → AllByRecursion (IsNumbered first xs) es
    → (i : ℕ) → get_or (counts_of es) i 0 < bound
stored_small first bound xs [] small all i = omega arith
stored_small first bound xs (e ∷ es) small all zero = let below = numbered_below first xs e.0 e.1 all.0 in omega arith
stored_small first bound xs (e ∷ es) small all (suc i) = stored_small first bound xs es small all.1 i

-- a COUNT among those of what is stored is stored
among_stored : (c : ℕ) (es : List (ℕ × List ℕ)) → is_among (counts_of es) c ≡ is_stored c es
among_stored c [] = refl
among_stored c (e ∷ es) = ap (λ b. (e.0 == c) || b) (among_stored c es)

-- what a report of a receiving entity is to name was received
set_received : (rx : RxParts) (c : ℕ) → sent_set rx.deliv (counts_of rx.stored) c ≡ true → Received rx c
set_received rx c named =
    elim (or_cases (nat_lt c rx.deliv) (is_among (counts_of rx.stored) c && nat_lt c (rx.deliv + 71961)) named) [
      | inl below ↦ inl (ltb-true c rx.deliv below)
      | inr among ↦ elim (cases_Bool (is_among (counts_of rx.stored) c)) [
        | inl stored ↦ inr (sym (among_stored c rx.stored) ∙ stored)
        | inr not_there ↦ let e = rw not_there at among in absurd (cc (e))
      ]
    ]

-- a report is a control PDU
is_control : (fmc : ℕ) (counts : List ℕ) → is_data (report_pdu fmc counts) ≡ false
unfolding report_pdu
is_control fmc counts = refl

module _ (h : Header) (policies : ℕ) (t : List Entry) (w : WorldState) (sound : Sound h policies t w) where
  module _ (d : Dir) (id : ℕ) (e : Entities) (at : bearer_in (sender_table d w.nodes) id ≡ Some e) (there : at_submitter d id t ≡ Some e.bearer) where
    -- the bearer
    abbrev b : Established
    b = e.bearer

    -- its report
    abbrev f : Flight
    f = report_flight e

    -- what happens
    abbrev entry : Entry
    entry = record { event = Report (submitter d) id; answer = answer.Ok; lines = line.Send (leg d) f ∷ [] }

    -- what the node holds of the bearer then
    abbrev e' : Entities
    e' = record e { sent = e.sent ++ None ∷ [] }

    -- what the nodes hold then
    abbrev after : Nodes
    after = sender_put d w.nodes id e'

    -- what the links hold then
    abbrev links' : Links
    links' = moved w.links None entry.lines

    -- the bearer is established
    here : Contains (established t) b
    here = (is_established t w.nodes sound.tables d id e at).0

    -- under the identity that was named
    named : b.id ≡ id
    named = (is_established t w.nodes sound.tables d id e at).1

    -- it is plain
    plain : IsPlain entry
    plain = record { undrawn = record { no_plan = λ g. refl; no_draw = refl }; no_open = λ g o. refl; no_end = λ o. refl; no_set = λ k has. refl }

    -- each place keeps its bearer
    keeps : Keeps w.nodes after
    keeps = keeps_sender d w.nodes id e e' at refl

    -- and its receiving side
    rx_still : (b' : Established) (d' : Dir) → (half b' (receiver_table d' after)).rx ≡ (half b' (receiver_table d' w.nodes)).rx
    rx_still b' d' = sender_put_rx d w.nodes id e e' at refl b' d'

    -- and its sending entity
    tx_still : (b' : Established) (d' : Dir) → (half b' (sender_table d' after)).tx ≡ (half b' (sender_table d' w.nodes)).tx
    tx_still b' d' = sender_put_same (λ o. (or_fresh b' o).tx) d w.nodes id e e' at refl d' b'.id

    -- nothing is confirmed
    nothing_confirmed : (b' : Established) (d' : Dir) → confirms b' d' t entry ≡ []
    nothing_confirmed b' Dl = refl
    nothing_confirmed b' Ul = refl

    -- no PDU with a COUNT is sent
    no_tags : (l : LinkId) (id g num : ℕ) → flat_map (tag_of l id g num) (sends entry.lines) ≡ []
    no_tags l id g num = refl

    -- what stands on the links then
    on_then : (l : LinkId) → on links' l ≡ on w.links l ++ put_on l entry.lines
    on_then l = on_moved w.links None entry.lines l sound.long

    -- what was under way is so
    flying : (b' : Established) (d' : Dir) (k : ℕ) → IsUnderWay b' k (on w.links (leg d')) → IsUnderWay b' k (on links' (leg d'))
    flying = flying_put w.links sound.long entry.lines

    -- ---- the bearer

    -- what the node held of it
    half_before : half b (sender_table d w.nodes) ≡ e
    half_before = half_at b (sender_table d w.nodes) id e at named

    -- and holds then
    half_after : half b (sender_table d after) ≡ e'
    half_after = sender_put_here d w.nodes b id e e' at named

    -- the bearer was served
    was : IsServed t w.nodes w.links b d
    was = sound.served b d here

    -- the bearer is served
    served_here : IsServed (t ++ entry ∷ []) after links' b d
    served_here =
        let cs' : confirmed b d t ++ confirms b d t entry ≡ confirmed b d t = ap (λ cs. confirmed b d t ++ cs) (nothing_confirmed b d) ∙ append-nil (confirmed b d t) in
        let sent' : (half b (sender_table d after)).sent ≡ (half b (sender_table d w.nodes)).sent ++ None ∷ [] =
        ap (λ (x : Entities). x.sent) half_after ∙ ap (λ (x : Entities). x.sent ++ None ∷ []) (sym half_before) in
        served_next t w.nodes w.links b d entry after links' was (no_ups b d t entry refl) (rx_still b d)
        (lane_same b.n b.first _ _ _ _ _ _ _ _ _ _ (append-nil (submitted b d t)) cs' (tx_still b d) sent' refl
        (lane_sent b.n b.first (submitted b d t) (confirmed b d t) (half b (sender_table d w.nodes)).tx (half b (sender_table d w.nodes)).sent (half b (receiver_table d w.nodes)).rx was.lane (None ∷ []) (tt, tt)))
        (λ k from below. elim (was.owed k from (subst (λ x. k < x.next) (tx_still b d) below)) [ inl got ↦ inl got | inr way ↦ inr (flying b d k way) ])
        (λ num.
        append-nil _ ∙ was.numbers num ∙ sym (listed_none (half b (sender_table d w.nodes)).sent num)
        ∙ ap (λ xs. listed (slice_get xs num)) (sym sent'))

    -- so is every other
    served_all : (b' : Established) (d' : Dir) → Contains (established t) b' → IsServed (t ++ entry ∷ []) after links' b' d'
    served_all = each_bearer (established t) sound.tables.once b here d id named (λ x k. IsServed (t ++ entry ∷ []) after links' x k) served_here (λ b' d' at' apart.
        let same : half b' (sender_table d' after) ≡ half b' (sender_table d' w.nodes) = sender_put_apart d w.nodes id e' b' d' apart in
        served_still t w.nodes w.links b' d' entry after links' (sound.served b' d' at') (no_ups b' d' t entry refl) (rx_still b' d') refl (nothing_confirmed b' d')
        (λ num. refl) (tx_still b' d') (ap (λ (x : Entities). x.sent) same) (λ k way. inr (flying b' d' k way)))

    -- numbers of the legs stay
    numbers_stay : (b' : Established) (d' : Dir) → Contains (established t) b' → (num : ℕ) (sent : Option ℕ) → IsNumberOf w.nodes b' d' num sent → IsNumberOf after b' d' num sent
    numbers_stay = each_bearer (established t) sound.tables.once b here d id named (λ x k. (num : ℕ) (sent : Option ℕ) → IsNumberOf w.nodes x k num sent → IsNumberOf after x k num sent)
        (λ num sent is.
        ap (λ (x : Entities). slice_get x.sent num) half_after
        ∙ slice_get_left e.sent (None ∷ []) num sent (ap (λ (x : Entities). slice_get x.sent num) (sym half_before) ∙ is))
        (λ b' d' at' apart num sent is. ap (λ (x : Entities). slice_get x.sent num) (sender_put_apart d w.nodes id e' b' d' apart) ∙ is)

    -- ---- the report

    -- the lane of what the report is about
    lane_back : IsLane b.n b.first (submitted b (other d) t) (confirmed b (other d) t) (half b (sender_table (other d) w.nodes)).tx (half b (sender_table (other d) w.nodes)).sent e.rx
    lane_back =
        subst (λ (x : Entities). IsLane b.n b.first (submitted b (other d) t) (confirmed b (other d) t) (half b (sender_table (other d) w.nodes)).tx (half b (sender_table (other d) w.nodes)).sent x.rx)
        (ap (half b) (turned d w.nodes) ∙ half_before) (sound.served b (other d) here).lane

    -- what the node receives with then is what it had
    rx_back : (half b (receiver_table (other d) after)).rx ≡ e.rx
    rx_back = rx_still b (other d) ∙ ap (λ table. (half b table).rx) (turned d w.nodes) ∙ ap (λ (x : Entities). x.rx) half_before

    -- its promise holds
    promise : IsReportOf (t ++ entry ∷ []) after d f
    promise =
        let fmc = e.rx.deliv in let counts = counts_of e.rx.stored in
        let up : Ascending fmc counts = stored_ascend fmc e.rx.stored lane_back.ascends in
        let counted = lane_back.counted in let small = lane_back.small in let upto = lane_back.upto in
        record {
          bearer = b;
          there = there_then t entry plain.undrawn b here;
          num = length e.sent;
          numbered = ap (λ (x : Entities). slice_get x.sent (length e.sent)) half_after ∙ slice_get_last e.sent None;
          pdu = report_pdu fmc counts;
          control = is_control fmc counts;
          fmc = fmc;
          bits = sent_bits fmc counts;
          read = sent_again fmc counts (report_pdu fmc counts) (omega arith) (stored_small b.first (2 ^ 32) (submitted b (other d) t) e.rx.stored (omega arith) lane_back.stored) up refl b.n;
          named = λ c from is. subst (λ x. Received x c) (sym rx_back) (set_received e.rx c (sym (sent_names fmc counts c up) ∙ is));
          is = refl;
        }

    -- ---- the other claims

    -- it is no data PDU
    no_protects : (b' : Established) (d' : Dir) → Protects h b' d' t entry
    no_protects b' d' = ((λ is. absurd (let yes' : is_data (report_pdu e.rx.deliv (counts_of e.rx.stored)) ≡ true = is.0 in let no' = is_control e.rx.deliv (counts_of e.rx.stored) in cc)), tt)

    -- the report is sent for its event
    licence : IsLicensed h t entry
    licence = record {
      reasons = (
        inr (
          is_control e.rx.deliv (counts_of e.rx.stored),
          record {
            node = submitter d;
            commanded = ap (λ k. Report (submitter d) k) (sym named);
            accepted = refl;
            by = leg_from d;
            bearer = b;
            of_bearer = record { latest_is = sound.tables.once b here; of_generation = is_generation_once t b sound.tables.once here };
          },
        ),
        tt,
      );
      ascends = tt;
      one = omega arith;
    }

    -- the command stands where it stood
    phase : Phase h (t ++ entry ∷ []) after links'
    phase =
        phase_same t entry plain w.nodes after keeps h w.links links'
        (on_then mt_ctl ∙ ap (λ fs. on w.links mt_ctl ++ fs) (no_command d f) ∙ append-nil (on w.links mt_ctl))
        (on_then tm_ctl ∙ ap (λ fs. on w.links tm_ctl ++ fs) (no_completion d f) ∙ append-nil (on w.links tm_ctl))
        (λ b' at' busy absent d'. refl) (λ b' at' busy. ap (λ (x : Entities). x.sent) (sender_put_apart d w.nodes id e' b' Dl (apart_at_master t w.nodes sound.tables d id b there b' at' busy))) sound.phase

    -- so all is kept
    pub asked_happened : Happened h policies t w entry after
    asked_happened = record {
      tables = tabled_same t entry plain w.nodes after keeps sound.tables;
      phase = phase;
      served = λ b' d' at'. served_all b' d' (there_before t entry plain.undrawn b' at');
      grows = grows_same t entry w.nodes after (there_then t entry plain.undrawn) (λ b' d' at'. rx_still b' d') numbers_stay;
      sent = (report_promised h (t ++ entry ∷ []) after d f promise, tt);
      none_sent = none_sent_still t entry no_tags sound.none_sent;
      protects = λ b' d' at'. no_protects b' d';
      carried = λ b' d' at'. none_carried b' d' t entry (no_ups b' d' t entry refl);
      freed = λ b' d' at'. no_frees b' d' t entry refl ∙ no_move _ _ (ap low (tx_still b' d'));
      fresh_before = λ b' at'. inl (there_before t entry plain.undrawn b' at');
      cause = sym (ap report_answer there);
      licence = licence;
    }
