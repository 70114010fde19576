-- What an entry keeps that carries no data.
use Rattle.std.proofs.Common.{ℕ, ◌≡◌, ◌+◌, ◌≤◌, ◌++◌, Option, Some, slice_get, List, [], ◌∷◌, refl, sym, ap, ◌∙◌, subst, arith, inl, inr, append-nil, ◌⊎◌, ◌<◌, ◌==◌, false}
use Rattle.std.specs.Prelude.{if◌then◌else◌, nat_lt, count_by, Contains}
use Rattle.std.specs.List.{AllByRecursion, flat_map}
use Rattle.std.proofs.lemmas.Bool.{cond-false, le-ltb, cases_Bool, ne_eqb}
use Rattle.dc_base.specs.declared.nodes.Dir.{Dir}
use Rattle.dc_base.specs.declared.nodes.LinkId.{LinkId}
use Rattle.pdcp_tx.specs.Sender.{low}
use Rattle.pdcp_rx.specs.Receiver.{Received}
use Rattle.transcript.specs.Transcript.{Entry, sends, SomeEntry}
use Rattle.transcript.specs.Bearers.{Established, established, generation, submission, submitted, ups, handed, confirms, confirmed, tag_of, tags_sent, frees, up_of, freed_of, is_latest, confirmed_by}
use Rattle.transcript.specs.Claims.{TakesData, Carried, IsDataFlight, IsProtected, IsReason, HasCause, AscendsFrom, count_in, is_uncounted, Protects, IsLicensed}
use Rattle.master_runs.specs.Plane.{leg}
use Rattle.master_runs.specs.Control.{Nodes}
use Rattle.master_runs.specs.Links.{Links, on, moved}
use Rattle.transcript.proofs.Establishing.{confirmed-next, submitted-next, handed-next, tags_sent-next, generation-next, established_drawn}
use Rattle.master_runs.proofs.Lane.{IsNumbered, IsNumbered-later}
use Rattle.master_runs.proofs.Sound.{half, sender_table, receiver_table, IsNumberOf, Grows, NoneSent, IsUnderWay, IsTabled, Phase, PromiseOf, Happened, Sound}
use Rattle.transcript.specs.Content.{mt_ctl, tm_ctl, place_taken, given}
use Rattle.dc_base.specs.declared.events.Header.{Header}
use Rattle.dc_base.specs.declared.flights.Flight.{Flight}
use Rattle.dc_base.specs.declared.flights.Flight.TheVariants as flight
use Rattle.dc_base.specs.declared.records.Rec.{Rec}
use Rattle.dc_base.specs.declared.nodes.Dir.TheVariants.{Ul, Dl}
use Rattle.master_runs.specs.Entities.{Entities}
use Rattle.master_runs.specs.Run.{WorldState}
use Rattle.master_runs.proofs.Tables.{Keeps}
use Rattle.master_runs.proofs.Plain.{IsUndrawn, IsPlain, there_then, there_before, tabled_same, phase_same, generation_same}
use Rattle.master_runs.proofs.Served.{served_still}

-- ---- what an entry does not say

-- nothing goes up
pub no_ups : (b : Established) (d : Dir) (t : List Entry) (e : Entry) → flat_map (up_of b d) e.lines ≡ [] → ups b d t e ≡ []
no_ups b d t e none = elim (cases_Bool (is_latest b t)) [ inl now ↦ rw now none | inr past ↦ rw past refl ]

-- no window moves
pub no_frees : (b : Established) (d : Dir) (t : List Entry) (e : Entry) → flat_map (freed_of b d) e.lines ≡ [] → frees b d t e ≡ []
no_frees b d t e none = elim (cases_Bool (is_latest b t)) [ inl now ↦ rw now none | inr past ↦ rw past refl ]

-- none moves where Low stays
pub no_move : (low low' : ℕ) → low' ≡ low → [] ≡ (if nat_lt low low' then low' ∷ [] else [])
no_move low low' same = sym (cond-false _ _ _ (le-ltb low low' (omega arith)))

-- what goes up is carried, where nothing does
pub none_carried : (b : Established) (d : Dir) (t : List Entry) (e : Entry) → ups b d t e ≡ [] → Carried b d t e
none_carried b d t e none = subst (AllByRecursion (λ up. SomeEntry (TakesData b d up.0) (t ++ e ∷ []))) (sym none) tt

-- nothing more was gathered
pub none_more : {A : Type 0} (xs ys : List A) → ys ≡ [] → xs ++ ys ≡ xs
none_more xs ys none = ap (λ zs. xs ++ zs) none ∙ append-nil xs

-- a record confirms nothing
pub record_confirms : (t : List Entry) (e : Entry) (l : LinkId) (r : Rec) → given t e ≡ Some (l, flight.Ctl r) → (b : Established) (d : Dir) → confirms b d t e ≡ []
record_confirms t e l r is b Ul = ap (confirmed_by b Ul t) is
record_confirms t e l r is b Dl = ap (confirmed_by b Dl t) is

-- nothing was sent of generations to come
pub none_sent_still : (t : List Entry) (e : Entry) → ((l : LinkId) (id g num : ℕ) → flat_map (tag_of l id g num) (sends e.lines) ≡ []) → NoneSent t → NoneSent (t ++ e ∷ [])
none_sent_still t e tags none l id g num later =
    let counted : generation (t ++ e ∷ []) ≡ generation t + _ = generation-next t e in
    tags_sent-next l id g num t e ∙ none_more (tags_sent l id g num t) _ (tags l id g num) ∙ none l id g num (omega arith)

-- nor was it where PDUs are sent of a generation that was drawn alone
pub none_sent_drawn : (t : List Entry) (e : Entry) → IsUndrawn e → (b : Established) → Contains (established t) b
    → ((l : LinkId) (id g num : ℕ) → (b.g == g) ≡ false → flat_map (tag_of l id g num) (sends e.lines) ≡ []) → NoneSent t → NoneSent (t ++ e ∷ [])
none_sent_drawn t e undrawn b here tags none l id g num later =
    let before : generation t < g = subst (λ n. n < g) (generation_same t e undrawn) later in
    let drawn : b.g ≤ generation t = established_drawn t b here in
    let unlike : (b.g == g) ≡ false = ne_eqb b.g g (λ is. omega arith) in
    tags_sent-next l id g num t e ∙ none_more (tags_sent l id g num t) _ (tags l id g num unlike) ∙ none l id g num before

-- what flights speak of is still so
pub grows_next : (t : List Entry) (e : Entry) (s s' : Nodes) → ((b : Established) → Contains (established t) b → Contains (established (t ++ e ∷ [])) b)
    → ((b : Established) (d : Dir) → Contains (established t) b → (c : ℕ) → Received (half b (receiver_table d s)).rx c → Received (half b (receiver_table d s')).rx c)
    → ((b : Established) (d : Dir) → Contains (established t) b → (num : ℕ) (sent : Option ℕ) → IsNumberOf s b d num sent → IsNumberOf s' b d num sent)
    → Grows t s (t ++ e ∷ []) s'
grows_next t e s s' there received sent = record {
  there = there;
  numbered = λ b d at x is. subst (λ xs. IsNumbered b.first xs x) (sym (submitted-next b d t e)) (IsNumbered-later b.first (submitted b d t) (submission b d t e) x is);
  received = received;
  sent = sent;
}

-- so it is where each receiving entity is as before, and each leg has the numbers that it had
pub grows_same : (t : List Entry) (e : Entry) (s s' : Nodes) → ((b : Established) → Contains (established t) b → Contains (established (t ++ e ∷ [])) b)
    → ((b : Established) (d : Dir) → Contains (established t) b → (half b (receiver_table d s')).rx ≡ (half b (receiver_table d s)).rx)
    → ((b : Established) (d : Dir) → Contains (established t) b → (num : ℕ) (sent : Option ℕ) → IsNumberOf s b d num sent → IsNumberOf s' b d num sent)
    → Grows t s (t ++ e ∷ []) s'
grows_same t e s s' there same = grows_next t e s s' there (λ b d at c got. subst (λ r. Received r c) (sym (same b d at)) got)

-- ---- an entry that carries no data

-- the entry submits, hands up, frees, confirms and sends no data
pub record IsSilent (t : List Entry) (e : Entry) : Type 0 where
  pub submits : (b : Established) (d : Dir) → submission b d t e ≡ []
  pub hands : (b : Established) (d : Dir) → ups b d t e ≡ []
  pub moves : (b : Established) (d : Dir) → frees b d t e ≡ []
  pub confirms : (b : Established) (d : Dir) → confirms b d t e ≡ []
  pub tags : (l : LinkId) (id g num : ℕ) → flat_map (tag_of l id g num) (sends e.lines) ≡ []

module _ (t : List Entry) (e : Entry) (silent : IsSilent t e) where
  -- nothing more was submitted
  pub submitted_same : (b : Established) (d : Dir) → submitted b d (t ++ e ∷ []) ≡ submitted b d t
  submitted_same b d = submitted-next b d t e ∙ none_more (submitted b d t) (submission b d t e) (silent.submits b d)

  -- nothing more was handed up
  pub handed_same : (b : Established) (d : Dir) → handed b d (t ++ e ∷ []) ≡ handed b d t
  handed_same b d = handed-next b d t e ∙ none_more (handed b d t) (ups b d t e) (silent.hands b d)

  -- nothing more was confirmed
  pub confirmed_same : (b : Established) (d : Dir) → confirmed b d (t ++ e ∷ []) ≡ confirmed b d t
  confirmed_same b d = confirmed-next b d t e ∙ none_more (confirmed b d t) (confirms b d t e) (silent.confirms b d)

  -- nothing more was sent
  pub tags_same : (l : LinkId) (id g num : ℕ) → tags_sent l id g num (t ++ e ∷ []) ≡ tags_sent l id g num t
  tags_same l id g num = tags_sent-next l id g num t e ∙ none_more (tags_sent l id g num t) (flat_map (tag_of l id g num) (sends e.lines)) (silent.tags l id g num)

-- ---- an entry that sends nothing

module _ (h : Header) (t : List Entry) (e : Entry) (quiet : sends e.lines ≡ []) where
  -- it makes no promise
  pub quiet_sent : (s' : Nodes) → AllByRecursion (PromiseOf h (t ++ e ∷ []) s') (sends e.lines)
  quiet_sent s' = subst (AllByRecursion (PromiseOf h (t ++ e ∷ []) s')) (sym quiet) tt

  -- it has nothing to protect
  pub quiet_protects : (b : Established) (d : Dir) → Protects h b d t e
  quiet_protects b d = subst (AllByRecursion (λ s. IsDataFlight (t ++ e ∷ []) b d s → IsProtected h (t ++ e ∷ []) b d s)) (sym quiet) tt

  -- and nothing to give a reason for
  pub quiet_licence : IsLicensed h t e
  quiet_licence = record {
    reasons = subst (AllByRecursion (IsReason h t e)) (sym quiet) tt;
    ascends = subst (λ (ss : List (LinkId × Flight)). AscendsFrom 0 (flat_map count_in ss)) (sym quiet) tt;
    one = subst (λ (ss : List (LinkId × Flight)). count_by is_uncounted ss ≤ 1) (sym quiet) (omega arith);
  }

-- ---- all that such an entry owes, which sends nothing

module _ (h : Header) (policies : ℕ) (t : List Entry) (w : WorldState) (sound : Sound h policies t w) (e : Entry) (s' : Nodes) (silent : IsSilent t e) (quiet : sends e.lines ≡ [])
    (same : (b : Established) (d : Dir) → half b (sender_table d s') ≡ half b (sender_table d w.nodes)) where
  -- the links after it
  abbrev links' : Links
  links' = moved w.links (place_taken e.event e.answer) e.lines

  -- each node receives with what it had
  receiver_same : (b : Established) (d : Dir) → half b (receiver_table d s') ≡ half b (receiver_table d w.nodes)
  receiver_same b Dl = same b Ul
  receiver_same b Ul = same b Dl

  -- where it draws nothing, with the tables and the phase after it
  pub silent_happened : IsUndrawn e → IsTabled (t ++ e ∷ []) s' → Phase h (t ++ e ∷ []) s' links'
      → ((b : Established) (d : Dir) → Contains (established t) b → (c : ℕ) → IsUnderWay b c (on w.links (leg d)) → Received (half b (receiver_table d w.nodes)).rx c ⊎ IsUnderWay b c (on links' (leg d)))
      → HasCause policies t e → Happened h policies t w e s'
  silent_happened undrawn tables phase flying due = record {
    tables = tables;
    phase = phase;
    served = λ b d there.
        let was = there_before t e undrawn b there in
        served_still t w.nodes w.links b d e s' links' (sound.served b d was) (silent.hands b d) (ap (λ (x : Entities). x.rx) (receiver_same b d))
        (silent.submits b d) (silent.confirms b d) (silent.tags (leg d) b.id b.g) (ap (λ (x : Entities). x.tx) (same b d)) (ap (λ (x : Entities). x.sent) (same b d)) (flying b d was);
    grows = grows_same t e w.nodes s' (there_then t e undrawn) (λ b d there. ap (λ (x : Entities). x.rx) (receiver_same b d))
        (λ b d there num o is. subst (λ (x : Entities). slice_get x.sent num ≡ Some o) (sym (same b d)) is);
    sent = quiet_sent h t e quiet s';
    none_sent = none_sent_still t e silent.tags sound.none_sent;
    protects = λ b d there. quiet_protects h t e quiet b d;
    carried = λ b d there. none_carried b d t e (silent.hands b d);
    freed = λ b d there. silent.moves b d ∙ no_move _ _ (ap (λ (x : Entities). low x.tx) (same b d));
    fresh_before = λ b there. inl (there_before t e undrawn b there);
    cause = due;
    licence = quiet_licence h t e quiet;
  }

  -- where it is plain and touches no control link
  pub plain_happened : IsPlain e → Keeps w.nodes s' → on links' mt_ctl ≡ on w.links mt_ctl → on links' tm_ctl ≡ on w.links tm_ctl
      → ((b : Established) (d : Dir) → Contains (established t) b → (c : ℕ) → IsUnderWay b c (on w.links (leg d)) → Received (half b (receiver_table d w.nodes)).rx c ⊎ IsUnderWay b c (on links' (leg d)))
      → HasCause policies t e → Happened h policies t w e s'
  plain_happened plain keeps down up =
      silent_happened plain.undrawn (tabled_same t e plain w.nodes s' keeps sound.tables)
      (phase_same t e plain w.nodes s' keeps h w.links links' down up (λ b there busy absent d. silent.submits b d) (λ b there busy. ap (λ (x : Entities). x.sent) (same b Dl)) sound.phase)
