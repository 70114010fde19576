-- From what an event owes to all that is kept.
use Rattle.std.proofs.Common.{ℕ, ◌≡◌, ◌+◌, ◌-◌, ◌++◌, length, take, drop, List, [], ◌∷◌, Option, Some, None, sym, ap, ◌∙◌, subst, inl, inr}
use Rattle.std.specs.Prelude.{if◌then◌else◌, nat_lt, Contains, remove}
use Rattle.std.specs.List.{AllByRecursion, flat_map}
use Rattle.dc_base.specs.declared.nodes.Dir.{Dir}
use Rattle.dc_base.specs.declared.nodes.Dir.TheVariants.{Ul, Dl}
use Rattle.dc_base.specs.declared.nodes.LinkId.{LinkId}
use Rattle.dc_base.specs.declared.nodes.Node.{Node}
use Rattle.dc_base.specs.declared.nodes.Node.TheVariants.{T, M, A, B}
use Rattle.dc_base.specs.declared.nodes.Class.{Class}
use Rattle.dc_base.specs.declared.nodes.Class.TheVariants.{Ctl, Feed, Air, Tun}
use Rattle.dc_base.specs.declared.flights.Flight.{Flight}
use Rattle.dc_base.specs.declared.events.Header.{Header}
use Rattle.dc_base.specs.Links.{is_same_link}
use Rattle.transcript.specs.Transcript.{Entry, sends}
use Rattle.transcript.specs.Content.{without_taken, on_link, put_on, place_taken, mt_ctl, tm_ctl}
use Rattle.transcript.specs.Bearers.{Established, established, submitted, handed, confirmed, numbered, least_but, told, open_command}
use Rattle.transcript.specs.Claims.{KeepsAll, HasCause, IsLicensed, IsQuiet, NoStall}
use Rattle.transcript.proofs.OnEach.{each_append, each_remove, each_weaker}
use Rattle.transcript.proofs.Growing.{Each-next}
use Rattle.transcript.proofs.Establishing.{none_submitted, none_confirmed}
use Rattle.std.proofs.lemmas.List.{take-append-drop}
use Rattle.std.proofs.lemmas.Bool.{cond_both}
use Rattle.pdcp_tx.specs.Sender.{low}
use Rattle.master_runs.specs.Entities.{bearer_in}
use Rattle.master_runs.proofs.Lists.{numbered-append}
use Rattle.master_runs.proofs.Lane.{low_is, all_handed}
use Rattle.master_runs.proofs.Moving.{on_moved, length_moved, contents-next, same_link}
use Rattle.master_runs.specs.Control.{Nodes}
use Rattle.master_runs.specs.Links.{Links, on, moved}
use Rattle.master_runs.specs.Plane.{leg, other}
use Rattle.master_runs.specs.Run.{WorldState}
use Rattle.master_runs.proofs.Sound.{or_fresh, half, sender_table, receiver_table, IsUnderWay, IsServed, IsPduOf, IsReportOf, IsGot, IsAckOf, OnLeg, a_pdu, a_report, an_ack, Promise, PromiseOf, Phase, idle, commanded, answered, recovering, recovered, Grows, Happened, Sound}

module _ (h : Header) (t : List Entry) (s : Nodes) (t' : List Entry) (s' : Nodes) (grows : Grows t s t' s') where
  pdu_later : (d : Dir) (f : Flight) → IsPduOf h t s d f → IsPduOf h t' s' d f
  pdu_later d f p = record {
    bearer = p.bearer;
    there = grows.there p.bearer p.there;
    num = p.num;
    count = p.count;
    numbered = grows.sent p.bearer d p.there p.num (Some p.count) p.numbered;
    payload = p.payload;
    good = p.good;
    submission = grows.numbered p.bearer d p.there (p.count, p.payload) p.submission;
    is = p.is;
  }

  -- a report is one later
  report_later : (d : Dir) (f : Flight) → IsReportOf t s d f → IsReportOf t' s' d f
  report_later d f r = record {
    bearer = r.bearer;
    there = grows.there r.bearer r.there;
    num = r.num;
    numbered = grows.sent r.bearer d r.there r.num None r.numbered;
    pdu = r.pdu;
    control = r.control;
    fmc = r.fmc;
    bits = r.bits;
    read = r.read;
    named = λ c from is. grows.received r.bearer (other d) r.there c (r.named c from is);
    is = r.is;
  }

  -- what was received is so later
  got_later : (b : Established) (d : Dir) → Contains (established t) b → (o : Option ℕ) → IsGot b (half b (receiver_table d s)).rx o → IsGot b (half b (receiver_table d s')).rx o
  got_later b d there None got = got
  got_later b d there (Some c) got = (got.0, grows.received b d there c got.1)

  -- the confirm of a PDU is one later
  ack_later : (d : Dir) (f : Flight) → IsAckOf t s d f → IsAckOf t' s' d f
  ack_later d f a = record {
    bearer = a.bearer;
    there = grows.there a.bearer a.there;
    num = a.num;
    sent = a.sent;
    numbered = grows.sent a.bearer d a.there a.num a.sent a.numbered;
    got = got_later a.bearer d a.there a.sent a.got;
    is = a.is;
  }

  -- so what stands on a leg keeps its promise
  air_later : (d : Dir) (f : Flight) → OnLeg h t s d f → OnLeg h t' s' d f
  air_later d f (a_pdu pdu) = a_pdu (pdu_later d f pdu)
  air_later d f (a_report r) = a_report (report_later d f r)
  air_later d f (an_ack ack) = an_ack (ack_later (other d) f ack)

  -- promises last
  pub Promise-later : (from to : Node) (class : Class) (f : Flight) → Promise h t s from to class f → Promise h t' s' from to class f
  Promise-later M T Air f promise = air_later Dl f promise
  Promise-later T M Air f promise = air_later Ul f promise
  Promise-later M T Ctl f promise = promise
  Promise-later T M Ctl f promise = promise
  Promise-later M T Feed f promise = absurd promise
  Promise-later M T Tun f promise = absurd promise
  Promise-later T M Feed f promise = absurd promise
  Promise-later T M Tun f promise = absurd promise
  Promise-later T T class f promise = absurd promise
  Promise-later T A class f promise = absurd promise
  Promise-later T B class f promise = absurd promise
  Promise-later M M class f promise = absurd promise
  Promise-later M A class f promise = absurd promise
  Promise-later M B class f promise = absurd promise
  Promise-later A to class f promise = absurd promise
  Promise-later B to class f promise = absurd promise

-- what was handed up is a front of what was submitted, and all of it where no flight stands on a link
served_prefix : (t : List Entry) (s : Nodes) (links : Links) (b : Established) (d : Dir) → IsServed t s links b d
    → (rest : List (ℕ × List ℕ)) × (numbered b.first (submitted b d t) ≡ handed b d t ++ rest)
served_prefix t s links b d served =
    let k = (half b (receiver_table d s)).rx.deliv - b.first in
    let S = submitted b d t in (
      numbered (b.first + length (take k S)) (drop k S),
      ap (numbered b.first) (sym (take-append-drop k S)) ∙ numbered-append b.first (take k S) (drop k S)
          ∙ ap (λ xs. xs ++ numbered (b.first + length (take k S)) (drop k S)) (sym served.handed_is),
    )

-- all of it was handed up where no flight stands on the leg
served_complete : (t : List Entry) (s : Nodes) (links : Links) (b : Established) (d : Dir) → IsServed t s links b d → on links (leg d) ≡ []
    → handed b d t ≡ numbered b.first (submitted b d t)
served_complete t s links b d served none =
    let x = half b (sender_table d s) in let y = half b (receiver_table d s) in
    served.handed_is ∙ ap (numbered b.first) (all_handed b.n b.first (submitted b d t) (confirmed b d t) x.tx x.sent y.rx served.lane
    (λ c from below. elim (served.owed c from below) [ inl got ↦ got | inr way ↦ absurd (subst (IsUnderWay b c) none way) ]))

-- where the window of a bearer begins is its sender's Low
pub served_told : (t : List Entry) (s : Nodes) (links : Links) (b : Established) (d : Dir) → IsServed t s links b d → told b d t ≡ low (half b (sender_table d s)).tx
served_told t s links b d served =
    let x = half b (sender_table d s) in let y = half b (receiver_table d s) in
    sym (low_is b.n b.first (submitted b d t) (confirmed b d t) x.tx x.sent y.rx served.lane)

module _ (h : Header) (policies : ℕ) (t : List Entry) (w : WorldState) (e : Entry) (s' : Nodes) (sound : Sound h policies t w) (happened : Happened h policies t w e s') where
  abbrev links' : Links
  links' = moved w.links (place_taken e.event e.answer) e.lines

  -- before it is established nothing is told of a bearer: its window begins at its first COUNT
  told_before : (b : Established) (d : Dir) → Contains (established (t ++ e ∷ [])) b → told b d t ≡ low (half b (sender_table d w.nodes)).tx
  told_before b d there = elim (happened.fresh_before b there) [
    | inl was ↦ served_told t w.nodes w.links b d (sound.served b d was)
    | inr (later, at_master, at_terminal) ↦
        ap (λ cs. least_but cs b.first (length (submitted b d t))) (none_confirmed b d t later)
        ∙ ap (λ (xs : List (List ℕ)). least_but [] b.first (length xs)) (none_submitted b d t later)
        ∙ ap (λ o. low (or_fresh b o).tx) (sym (at_sender d at_master at_terminal))
  ]
    where
      at_sender : (d : Dir) → bearer_in w.nodes.master b.id ≡ None → bearer_in w.nodes.terminal b.id ≡ None → bearer_in (sender_table d w.nodes) b.id ≡ None
      at_sender Dl none _ = none
      at_sender Ul _ none = none

  -- the entry keeps all claims
  kept : KeepsAll h t e
  kept b d there =
      let served = happened.served b d there in
      let t' : List Entry = t ++ e ∷ [] in
      record {
        protects = happened.protects b d there;
        carried = happened.carried b d there;
        prefix = served_prefix t' s' links' b d served;
        frees = happened.freed b d there ∙
            (let before = told_before b d there in let after = served_told t' s' links' b d served in
            ap (λ m. if nat_lt m (low (half b (sender_table d s')).tx) then low (half b (sender_table d s')).tx ∷ [] else []) (sym before)
            ∙ ap (λ m. if nat_lt (told b d t) m then m ∷ [] else []) (sym after));
        complete = λ none. served_complete t' s' links' b d served (sym (contents-next t e w.links sound.long sound.contents (leg d)) ∙ none);
      }

  -- with nothing on the control links no command is open
  unstalled : Phase h (t ++ e ∷ []) s' links' → on links' mt_ctl ≡ [] → on links' tm_ctl ≡ [] → open_command (t ++ e ∷ []) ≡ None
  unstalled (idle free mt tm all) down up = sym happened.tables.busy_is ∙ free
  unstalled (commanded b there shape threshold policy busy mt tm unused unsent absent only) down up = absurd (let stands = sym mt ∙ down in cc)
  unstalled (answered b there busy mt tm all) down up = absurd (let stands = sym tm ∙ up in cc)
  unstalled (recovering b there busy mt tm all) down up = absurd (let stands = sym mt ∙ down in cc)
  unstalled (recovered b there busy mt tm all) down up = absurd (let stands = sym tm ∙ up in cc)

  on_control : (l : LinkId) → IsQuiet (t ++ e ∷ []) → on links' l ≡ []
  on_control l quiet = sym (contents-next t e w.links sound.long sound.contents l) ∙ quiet l

  -- and so the whole is kept
  pub sound_next : Sound h policies (t ++ e ∷ []) (record w { nodes = s'; links = links' })
  sound_next = record {
    header = sound.header;
    long = length_moved w.links (place_taken e.event e.answer) e.lines ∙ sound.long;
    contents = contents-next t e w.links sound.long sound.contents;
    tables = happened.tables;
    phase = happened.phase;
    served = happened.served;
    promises = λ l.
        let P = Promise h (t ++ e ∷ []) s' l.from l.to l.class in
        subst (AllByRecursion P) (sym (on_moved w.links (place_taken e.event e.answer) e.lines l sound.long))
        (each_append P (without_taken l (place_taken e.event e.answer) (on w.links l)) (put_on l e.lines)
        (each_left P l (place_taken e.event e.answer) (on w.links l)
        (each_weaker (Promise h t w.nodes l.from l.to l.class) P (Promise-later h t w.nodes (t ++ e ∷ []) s' happened.grows l.from l.to l.class) (on w.links l) (sound.promises l)))
        (each_put l (sends e.lines) happened.sent));
    none_sent = happened.none_sent;
    claims = Each-next (KeepsAll h) t e sound.claims kept;
    causes = Each-next (HasCause policies) t e sound.causes happened.cause;
    licence = Each-next (IsLicensed h) t e sound.licence happened.licence;
    no_stall = Each-next NoStall t e sound.no_stall (λ quiet. unstalled happened.phase (on_control mt_ctl quiet) (on_control tm_ctl quiet));
  }
    where
      each_left : (P : Flight → Type 0) (l : LinkId) (place : Option (LinkId × ℕ)) (fs : List Flight) → AllByRecursion P fs → AllByRecursion P (without_taken l place fs)
      each_left P l None fs all = all
      each_left P l (Some place) fs all =
          cond_both (is_same_link l place.0) (remove fs place.1) fs (AllByRecursion P) (λ _. each_remove P fs place.1 all) (λ _. all)

      -- a send on a link keeps the promise of that link
      each_put : (l : LinkId) (xs : List (LinkId × Flight)) → AllByRecursion (PromiseOf h (t ++ e ∷ []) s') xs
          → AllByRecursion (Promise h (t ++ e ∷ []) s' l.from l.to l.class) (flat_map (on_link l) xs)
      each_put l [] all = tt
      each_put l (x ∷ xs) all =
          each_append (Promise h (t ++ e ∷ []) s' l.from l.to l.class) (on_link l x) (flat_map (on_link l) xs)
          (cond_both (is_same_link l x.0) (x.1 ∷ []) [] (AllByRecursion (Promise h (t ++ e ∷ []) s' l.from l.to l.class))
          (λ same. (subst (λ k. Promise h (t ++ e ∷ []) s' k.from k.to k.class x.1) (sym (same_link l x.0 same)) all.0, tt)) (λ _. tt))
          (each_put l xs all.1)
