-- A run after its first lines, and one more line.
use Rattle.std.proofs.Common.{Bool, false, true, ℕ, ◌≡◌, ◌+◌, ◌<◌, ◌≤◌, ◌^◌, ◌++◌, List, [], ◌∷◌, Option, Some, length, take, refl, sym, ap, ◌∙◌, subst, arith, inl, inr, append_assoc, append-nil}
use Rattle.std.specs.Prelude.{IfSome}
use Rattle.std.specs.List.{AllByRecursion, flat_map}
use Rattle.std.specs.Io.KnownBytes.{Appends, IsAtEnd, prepend_known}
use Rattle.std.proofs.KnownBytes.{Appends-nil, Appends-trans}
use Rattle.std.proofs.lemmas.List.{length_push}
use Rattle.dc_base.specs.declared.answers.Status.{Status}
use Rattle.dc_base.specs.declared.answers.Status.TheVariants as status
use Rattle.dc_base.specs.declared.events.Header.{Header}
use Rattle.dc_base.specs.declared.events.Event.{Event}
use Rattle.dc_text.specs.Lines.{GivesLine, IsCutOff, span, taken_by}
use Rattle.transcript.specs.Text.{header_text, ended, lines_text}
use Rattle.transcript.specs.Transcript.{Entry, entry_lines, transcript_text}
use Rattle.transcript.proofs.OnEach.{each_append}
use Rattle.script_text.specs.Scripts.{IsScriptHeader}
use Rattle.script_text.specs.declared.scripted.Scripted.{Scripted}
use Rattle.node_rules.specs.Choices.{Choices}
use Rattle.node_rules.specs.Run.{entries_from, world_step}
use Rattle.node_rules.specs.World.{new_world}
use Rattle.dc_network.specs.Counting.{IsWithin, counted}
use Rattle.dc_top.specs.Script.{HasRead, HasBadHeader, HasBadLine, HasLine, IsInRange, IsTaken, IsTooLong, IsUnreadHeader, IsUnreadLine, script_line, most_line, most_octets}
use Rattle.counted_network.specs.Counted.{Counting, counting_after_all, start}
use Rattle.dc_top.specs.Steps.{AreBegun, AreEventsOf, HasRun, HasStoppedIn, IsUnwritten, events_text}
use Rattle.dc_top.specs.Run.{AreFirstEntriesOf, IsByRules, IsTranscriptOf, no_lines, one_more, IsFrontOf, whole, part, IsNextOf, next, RanTo, RanUpTo}
use Rattle.dc_top.specs.Ended.{HasEnded, IsAhead, IsCutInEvent, PassesLimit}
use Rattle.dc_top.proofs.Texts.{transcript_text-none}
use Rattle.dc_top.proofs.Adding.{fit_more, line_fits}
use Rattle.dc_top.proofs.Lines.{are_entries, are_first, counting, counting-more, entries, entries_more, events_begun, few_within, ruled, state, state_more, text_more}
use Rattle.counted_network.proofs.Events.{entries-next, within_front}
use Rattle.dc_top.specs.SoFar.{IsAfterLines, IsAtRest, IsFit, IsSoFar, ReadsOn}
use Rattle.dc_top.proofs.Taken.{at_end_of_source, reads_first, reads_more, not_far, few_lines}

-- where the octets are told
pub at_rest : (all : Option (List ℕ)) (input : List ℕ) (h : Header) (lines : List Scripted) (now : Option (List ℕ)) (passed : ℕ) (last : Bool) → all ≡ Some input
    → ReadsOn all h lines now passed last → IsAtRest input h lines now passed last
at_rest all input h lines now passed last told reads = subst (λ a. ReadsOn a h lines now passed last) told reads

not_true : (b : Bool) → (b ≡ true → ⊥) → b ≡ false
not_true false h = refl
not_true true h = absurd (h refl)

within_nothing : IsWithin (counted [])
within_nothing = record { events = omega arith; flights = omega arith; octets = omega arith }

pub so_far_first : (c : Choices) (h : Header) (k : Counting) (old new : Option (List ℕ)) → IsScriptHeader h → k ≡ start h → Appends old new (ended (header_text h)) → IsSoFar c h [] k old new
so_far_first c h k old new good is written = record {
  good = good;
  taken = tt;
  events = [];
  fit = tt;
  after = is;
  transcript = no_lines;
  within = subst (λ (j : Counting). IsWithin j.counts) (sym is) within_nothing;
  written = subst (Appends old new) (sym (transcript_text-none h)) written;
}

few_so_far : (c : Choices) (h : Header) (lines : List Scripted) (k : Counting) (old mid : Option (List ℕ)) (s : IsSoFar c h lines k old mid) → length s.events < 2 ^ 23
few_so_far c h lines k old mid s = let few = few_within c h s.events (subst (λ (j : Counting). IsWithin j.counts) s.after s.within) in omega (arith, few)

module _ (c : Choices) (h : Header) (lines : List Scripted) (k : Counting) (old mid : Option (List ℕ)) (s : IsSoFar c h lines k old mid) where
  -- the run of the lines so far
  abbrev ran : (input rest : List ℕ) → HasRead input h lines rest → RanTo c IsTranscriptOf input rest (transcript_text h (entries c h s.events))
  ran input rest read = record {
    header = h;
    lines = lines;
    entries = entries c h s.events;
    good = s.good;
    taken = s.taken;
    read = read;
    transcript = s.transcript;
    ruled = ruled c h s.events s.fit (few_so_far c h lines k old mid s);
    within = subst (λ (j : Counting). IsWithin j.counts) s.after s.within;
    spelled = refl;
  }

  abbrev ran_front : (input rest : List ℕ) → HasRead input h lines rest → RanTo c IsFrontOf input rest (transcript_text h (entries c h s.events))
  ran_front input rest read = record {
    header = h;
    lines = lines;
    entries = entries c h s.events;
    good = s.good;
    taken = s.taken;
    read = read;
    transcript = whole lines (entries c h s.events) s.transcript;
    ruled = ruled c h s.events s.fit (few_so_far c h lines k old mid s);
    within = subst (λ (j : Counting). IsWithin j.counts) s.after s.within;
    spelled = refl;
  }

  -- ---- an end between lines

  pub ended_well : (input : List ℕ) (now left : Option (List ℕ)) (passed : ℕ) (last : Bool) → IsAtRest input h lines now passed last → IsAtEnd now → IsAtEnd left
      → HasEnded c input status.Ok left old mid
  ended_well input now left passed last r end nothing_left =
      let none : r.rest ≡ [] = subst IsAtEnd r.told end in
      (transcript_text h (entries c h s.events), ran input [] (subst (HasRead input h lines) none r.read), s.written, nothing_left)

  pub no_memory : (input : List ℕ) (now left : Option (List ℕ)) (passed : ℕ) (last : Bool) → IsAtRest input h lines now passed last → HasEnded c input status.Memory left old mid
  no_memory input now left passed last r = (transcript_text h (entries c h s.events), inr (r.rest, ran_front input r.rest r.read), s.written)

  pub too_many_lines : (input : List ℕ) (now : Option (List ℕ)) (passed number : ℕ) (last : Bool) → IsAtRest input h lines now passed last → number ≡ length lines + 2
      → 4294967295 ≤ number → ⊥
  too_many_lines input now passed number last r counted many =
      let few = few_lines input h lines r.rest r.read in omega arith

  pub unread_line : (st : Status) (input : List ℕ) (now left : Option (List ℕ)) (passed number : ℕ) (last : Bool) → IsAtRest input h lines now passed last
      → number ≡ length lines + 2 → last ≡ false → IsUnreadLine st number now passed left → HasEnded c input st left old mid
  unread_line status.Ok input now left passed number last r counted open_still un = absurd un
  unread_line status.Usage input now left passed number last r counted open_still un = absurd un
  unread_line status.WriteFault input now left passed number last r counted open_still un = absurd un
  unread_line (status.BadLine line column) input now left passed number last r counted open_still un =
      let bad : HasLine passed r.rest × HasBadLine r.rest column = subst (λ o. IfSome o (λ octets. HasLine passed octets × HasBadLine octets column)) r.told un.1 in
      (transcript_text h (entries c h s.events), inr (r.rest, ran input r.rest r.read, subst (λ n. HasLine n r.rest) r.counted bad.0, bad.1, un.0 ∙ counted), s.written)
  unread_line status.ReadFault input now left passed number last r counted open_still un =
      let cut : IsCutOff (Some r.rest) left = subst (λ o. IsCutOff o left) r.told un in
      (transcript_text h (entries c h s.events), inr (r.rest, ran input r.rest r.read, r.with_feeds open_still, cut), s.written)
  unread_line status.TooLong input now left passed number last r counted open_still un =
      let long : IsTooLong passed r.rest = subst (λ o. IfSome o (IsTooLong passed)) r.told un in
      (transcript_text h (entries c h s.events), inr (inl (r.rest, ran input r.rest r.read, subst (λ n. IsTooLong n r.rest) r.counted long)), s.written)
  unread_line status.Memory input now left passed number last r counted open_still un = no_memory input now left passed last r

  -- ---- one more line

  module _ (line : Scripted) (in_range : IsInRange line) (short : length (script_line line) ≤ most_line) where
    taken_more : AllByRecursion IsTaken (lines ++ line ∷ [])
    taken_more = each_append IsTaken lines (line ∷ []) s.taken (record { in_range = in_range; short = short }, tt)

    text_is : (es : List Event) → transcript_text h (entries c h s.events) ++ events_text c k.world es ≡ transcript_text h (entries c h (s.events ++ es))
    text_is es =
        ap (λ (j : Counting). transcript_text h (entries c h s.events) ++ events_text c j.world es) s.after ∙ sym (text_more c h s.events es)

    more_fit : (es : List Event) → AreBegun c line k es → AllByRecursion IsFit (s.events ++ es)
    more_fit es begun = fit_more s.events es s.fit (line_fits c line k es in_range begun)

    counting_is : (es : List Event) → counting_after_all c k es ≡ counting c h (s.events ++ es)
    counting_is es = ap (λ j. counting_after_all c j es) s.after ∙ counting-more c h s.events es

    -- within the limits there are few events, and with one more there are
    few_upto : (es : List Event) → IsWithin (counting_after_all c k es).counts → length (s.events ++ es) ≤ 2 ^ 20
    few_upto es within = few_within c h (s.events ++ es) (subst (λ (j : Counting). IsWithin j.counts) (counting_is es) within)

    few_more : (es : List Event) → IsWithin (counting_after_all c k es).counts → length (s.events ++ es) < 2 ^ 23
    few_more es within = let few = few_upto es within in omega (arith, few)

    few_with_one : (es : List Event) (e : Event) → IsWithin (counting_after_all c k es).counts → length (s.events ++ (es ++ e ∷ [])) < 2 ^ 23
    few_with_one es e within =
        let few = few_upto es within in
        let one = ap (λ (fs : List Event). length fs) (sym (append_assoc s.events es (e ∷ []))) ∙ length_push (s.events ++ es) e in
        omega (arith, few, one)

    pub so_far_next : (es : List Event) (k' : Counting) (new : Option (List ℕ)) → AreEventsOf c line k es → HasRun c k es k' mid new → IsSoFar c h (lines ++ line ∷ []) k' old new
    so_far_next es k' new all run =
        let all' : AreEventsOf c line (counting c h s.events) es = subst (λ j. AreEventsOf c line j es) s.after all in
        record {
          good = s.good;
          taken = taken_more;
          events = s.events ++ es;
          fit = more_fit es (events_begun c line k es all);
          after = run.after ∙ counting_is es;
          transcript = subst (IsTranscriptOf (lines ++ line ∷ [])) (sym (entries_more c h s.events es))
              (one_more lines (entries c h s.events) line (entries_from c (state c h s.events) es) s.transcript (are_entries c h line s.events es all'));
          within = run.within;
          written = subst (Appends old new) (text_is es) (Appends-trans old mid new (transcript_text h (entries c h s.events)) (events_text c k.world es) s.written run.written);
        }

    -- a front of the line's events
    front_of : (es : List Event) → AreBegun c line k es → IsFrontOf (lines ++ line ∷ []) (entries c h (s.events ++ es))
    front_of es begun =
        subst (IsFrontOf (lines ++ line ∷ [])) (sym (entries_more c h s.events es))
        (part lines (entries c h s.events) line (entries_from c (state c h s.events) es) s.transcript
        (are_first c h line s.events es (subst (λ j. AreBegun c line j es) s.after begun)))

    abbrev ran_part : (input rest : List ℕ) (es : List Event) → HasRead input h (lines ++ line ∷ []) rest → AreBegun c line k es → IsWithin (counting_after_all c k es).counts
        → RanTo c IsFrontOf input rest (transcript_text h (entries c h (s.events ++ es)))
    ran_part input rest es read begun within = record {
      header = h;
      lines = lines ++ line ∷ [];
      entries = entries c h (s.events ++ es);
      good = s.good;
      taken = taken_more;
      read = read;
      transcript = front_of es begun;
      ruled = ruled c h (s.events ++ es) (more_fit es begun) (few_more es within);
      within = subst (λ (j : Counting). IsWithin j.counts) (counting_is es) within;
      spelled = refl;
    }

    written_part : (new : Option (List ℕ)) (es : List Event) → Appends mid new (events_text c k.world es) → Appends old new (transcript_text h (entries c h (s.events ++ es)))
    written_part new es more =
        subst (Appends old new) (text_is es) (Appends-trans old mid new (transcript_text h (entries c h s.events)) (events_text c k.world es) s.written more)

    -- the next entry, after a front of the line's events
    next_entry : List Event → Event → Entry
    next_entry es e = (world_step c (state c h (s.events ++ es)) e).1

    entries_one_more : (es : List Event) (e : Event) → entries c h (s.events ++ (es ++ e ∷ [])) ≡ entries c h (s.events ++ es) ++ next_entry es e ∷ []
    unfolding next_entry
    entries_one_more es e = ap (entries c h) (sym (append_assoc s.events es (e ∷ []))) ∙ entries-next c (new_world h) (s.events ++ es) e

    -- the line's entries from the end of the lines before it
    own_entries : List Event → List Entry
    own_entries es = entries_from c (state c h s.events) es

    own_one_more : (es : List Event) (e : Event) → own_entries (es ++ e ∷ []) ≡ own_entries es ++ next_entry es e ∷ []
    unfolding own_entries next_entry
    own_one_more es e =
        entries-next c (state c h s.events) es e ∙ ap (λ w. own_entries es ++ (world_step c w e).1 ∷ []) (sym (state_more c h s.events es))

    next_of : (es : List Event) (e : Event) → AreBegun c line k (es ++ e ∷ []) → IsNextOf (lines ++ line ∷ []) (entries c h (s.events ++ es)) (next_entry es e)
    unfolding own_entries
    next_of es e begun =
        subst (λ t. IsNextOf (lines ++ line ∷ []) t (next_entry es e)) (sym (entries_more c h s.events es))
        (next lines (entries c h s.events) line (own_entries es) (next_entry es e) s.transcript
        (subst (AreFirstEntriesOf line (entries c h s.events)) (own_one_more es e)
        (are_first c h line s.events (es ++ e ∷ []) (subst (λ j. AreBegun c line j (es ++ e ∷ [])) s.after begun))))

    counts_are : (es : List Event) (e : Event) → (counting_after_all c k (es ++ e ∷ [])).counts ≡ counted (flat_map entry_lines (entries c h (s.events ++ es) ++ next_entry es e ∷ []))
    counts_are es e =
        ap (λ (j : Counting). j.counts) (counting_is (es ++ e ∷ [])) ∙ ap (λ t. counted (flat_map entry_lines t)) (entries_one_more es e)

    ran_up_to : (input rest : List ℕ) (es : List Event) (e : Event) → HasRead input h (lines ++ line ∷ []) rest → AreBegun c line k es → AreBegun c line k (es ++ e ∷ [])
        → IsWithin (counting_after_all c k es).counts → RanUpTo c (next_entry es e) input rest (transcript_text h (entries c h (s.events ++ es)))
    ran_up_to input rest es e read begun more within = record {
      header = h;
      lines = lines ++ line ∷ [];
      entries = entries c h (s.events ++ es);
      good = s.good;
      taken = taken_more;
      read = read;
      next = next_of es e more;
      ruled = subst (IsByRules c h) (entries_one_more es e) (ruled c h (s.events ++ (es ++ e ∷ [])) (more_fit (es ++ e ∷ []) more) (few_with_one es e within));
      within = subst (λ (j : Counting). IsWithin j.counts) (counting_is es) within;
      spelled = refl;
    }

    past_limit : (input rest : List ℕ) (es : List Event) (e : Event) → HasRead input h (lines ++ line ∷ []) rest → AreBegun c line k es → AreBegun c line k (es ++ e ∷ [])
        → IsWithin (counting_after_all c k es).counts → (IsWithin (counting_after_all c k (es ++ e ∷ [])).counts → ⊥)
        → PassesLimit c input (transcript_text h (entries c h (s.events ++ es)))
    unfolding ran_up_to
    past_limit input rest es e read begun more within past =
        (rest, next_entry es e, ran_up_to input rest es e read begun more within, λ w. past (subst IsWithin (sym (counts_are es e)) w))

    -- a front of the next entry's text, after the text before it
    written_front : (new : Option (List ℕ)) (es : List Event) (e : Event) (n : ℕ) → Appends mid new (events_text c k.world es ++ take n (events_text c (counting_after_all c k es).world (e ∷ [])))
        → Appends old new (transcript_text h (entries c h (s.events ++ es)) ++ take n (lines_text (entry_lines (next_entry es e))))
    unfolding next_entry
    written_front new es e n more =
        let whole = transcript_text h (entries c h s.events) in
        let own : events_text c (counting_after_all c k es).world (e ∷ []) ≡ lines_text (entry_lines (next_entry es e)) =
        ap (λ (j : Counting). events_text c j.world (e ∷ [])) (counting_is es) ∙ ap lines_text (append-nil (entry_lines (next_entry es e))) in
        subst (Appends old new)
        (sym (append_assoc whole (events_text c k.world es) (take n (events_text c (counting_after_all c k es).world (e ∷ []))))
        ∙ ap (λ t. t ++ take n (events_text c (counting_after_all c k es).world (e ∷ []))) (text_is es)
        ∙ ap (λ t. transcript_text h (entries c h (s.events ++ es)) ++ take n t) own)
        (Appends-trans old mid new whole (events_text c k.world es ++ take n (events_text c (counting_after_all c k es).world (e ∷ []))) s.written more)

    cut_in_event : (input rest : List ℕ) (left new : Option (List ℕ)) (es : List Event) (e : Event) (n : ℕ) → HasRead input h (lines ++ line ∷ []) rest → IsAhead rest left
        → AreBegun c line k es → AreBegun c line k (es ++ e ∷ []) → IsWithin (counting_after_all c k (es ++ e ∷ [])).counts
        → Appends mid new (events_text c k.world es ++ take n (events_text c (counting_after_all c k es).world (e ∷ [])))
        → IsCutInEvent c input left old new
    unfolding ran_up_to
    cut_in_event input rest left new es e n read near begun more within written = record {
      entry = next_entry es e;
      rest = rest;
      text = transcript_text h (entries c h (s.events ++ es));
      ran = ran_up_to input rest es e read begun more (within_front c k es e within);
      within = subst IsWithin (counts_are es e) within;
      front = n;
      put_out = written_front new es e n written;
      ahead = near;
    }

    stopped_in : (st : Status) (input rest : List ℕ) (left new : Option (List ℕ)) → HasRead input h (lines ++ line ∷ []) rest
        → IsAhead rest left → HasStoppedIn c st line k mid new → HasEnded c input st left old new
    stopped_in status.Ok input rest left new read near p = absurd p.stopped
    stopped_in status.Usage input rest left new read near p = absurd p.stopped
    stopped_in (status.BadLine number column) input rest left new read near p = absurd p.stopped
    stopped_in status.ReadFault input rest left new read near p = absurd p.stopped
    stopped_in status.Memory input rest left new read near p = (
      transcript_text h (entries c h (s.events ++ p.before)),
      inr (rest, ran_part input rest p.before read p.begun p.stopped.0),
      written_part new p.before p.stopped.1,
    )
    stopped_in status.TooLong input rest left new read near p = (
      transcript_text h (entries c h (s.events ++ p.before)),
      inr (inr (past_limit input rest p.before p.event read p.begun p.next p.stopped.0 p.stopped.1)),
      written_part new p.before p.stopped.2,
    )
    stopped_in status.WriteFault input rest left new read near p =
        inr (cut_in_event input rest left new p.before p.event p.stopped.0 read near p.begun p.next p.stopped.1 p.stopped.2)

    -- the line was taken, and was not run to its end
    pub ended_at : (st : Status) (input held : List ℕ) (now' left new : Option (List ℕ)) (passed' : ℕ) (last' : Bool) → IsAtRest input h (lines ++ line ∷ []) now' passed' last'
        → now' ≡ prepend_known held left → length held ≤ 65536 → HasStoppedIn c st line k mid new → HasEnded c input st left old new
    ended_at st input held now' left new passed' last' after is few stopped =
        stopped_in st input after.rest left new after.read (not_far held left after.rest (sym is ∙ after.told) few) stopped

-- ---- an end at the header

pub unread_header : (c : Choices) (st : Status) (input : List ℕ) (now left out : Option (List ℕ)) → now ≡ Some input → IsUnreadHeader st now 0 left → HasEnded c input st left out out
unread_header c status.Ok input now left out told un = absurd un
unread_header c status.Usage input now left out told un = absurd un
unread_header c status.WriteFault input now left out told un = absurd un
unread_header c (status.BadLine line column) input now left out told un =
    ([], inl (subst (λ o. IfSome o (λ octets. HasBadHeader octets column)) told un.1, un.0, refl), Appends-nil out)
unread_header c status.ReadFault input now left out told un = ([], inl (refl, subst (λ o. IsCutOff o left) told un), Appends-nil out)
unread_header c status.TooLong input now left out told un = ([], inl (refl, subst (λ o. IfSome o (IsTooLong 0)) told un), Appends-nil out)
unread_header c status.Memory input now left out told un = ([], inl refl, Appends-nil out)

-- the header was taken, and its line was not written whole
pub unwritten_header : (c : Choices) (st : Status) (h : Header) (input held : List ℕ) (now left old new : Option (List ℕ)) (passed : ℕ) (last : Bool) → IsScriptHeader h
    → IsAtRest input h [] now passed last → now ≡ prepend_known held left → length held ≤ 65536 → IsUnwritten st (ended (header_text h)) old new → HasEnded c input st left old new
unwritten_header c status.Ok h input held now left old new passed last good r is few un = absurd un
unwritten_header c status.Usage h input held now left old new passed last good r is few un = absurd un
unwritten_header c (status.BadLine line column) h input held now left old new passed last good r is few un = absurd un
unwritten_header c status.ReadFault h input held now left old new passed last good r is few un = absurd un
unwritten_header c status.TooLong h input held now left old new passed last good r is few un = absurd un
unwritten_header c status.Memory h input held now left old new passed last good r is few un = ([], inl refl, un)
unwritten_header c status.WriteFault h input held now left old new passed last good r is few un =
    inl (record { header = h; good = good; rest = r.rest; read = r.read; put_out = un; ahead = not_far held left r.rest (sym is ∙ r.told) few })

-- ---- the loop over lines

pub after_header : (c : Choices) (h : Header) (k : Counting) (passed : ℕ) (last : Bool) (all now old new : Option (List ℕ)) → IsScriptHeader h → k ≡ start h
    → Appends old new (ended (header_text h)) → GivesLine (prepend_known [] all) now (header_text h) → IfSome (prepend_known [] all) (λ octets. passed ≡ 0 + span octets)
    → IfSome (prepend_known [] all) (λ octets. span octets ≡ taken_by (header_text h) last) → passed ≤ most_octets → IsAfterLines c k 2 passed last all now old new
after_header c h k passed last all now old new good is written gives counted ends short = record {
  header = h;
  lines = [];
  so_far = so_far_first c h k old new good is written;
  reads = reads_first all now h passed last gives counted ends short;
  counted = refl;
}

module _ (c : Choices) (k : Counting) (number passed : ℕ) (last : Bool) (all now old mid : Option (List ℕ)) (a : IsAfterLines c k number passed last all now old mid) where
  pub after_line : (line : Scripted) (k' : Counting) (es : List Event) (passed' : ℕ) (last' : Bool) (now' new : Option (List ℕ)) → IsInRange line → length (script_line line) ≤ most_line
      → AreEventsOf c line k es → HasRun c k es k' mid new → GivesLine now now' (script_line line) → IfSome now (λ octets. passed' ≡ passed + span octets)
      → IfSome now (λ octets. span octets ≡ taken_by (script_line line) last') → passed' ≤ most_octets → IsAfterLines c k' (number + 1) passed' last' all now' old new
  after_line line k' es passed' last' now' new in_range short all' run gives counted ends few = record {
    header = a.header;
    lines = a.lines ++ line ∷ [];
    so_far = so_far_next c a.header a.lines k old mid a.so_far line in_range short es k' new all' run;
    reads = reads_more all a.header a.lines line now now' passed passed' last last' a.reads gives counted ends few;
    counted = ap (λ n. n + 1) a.counted ∙ omega (arith, length_push a.lines line);
  }

  module _ (input : List ℕ) (told : all ≡ Some input) (left : Option (List ℕ)) where
    abbrev rested : IsAtRest input a.header a.lines now passed last
    rested = at_rest all input a.header a.lines now passed last told a.reads

    -- no line came: the end was found now, or it was found before and nothing was read since
    pub end_of_input : (held : List ℕ) → (last ≡ false → IsAtEnd now × IsAtEnd (prepend_known held left)) → (last ≡ true → prepend_known held left ≡ now)
        → HasEnded c input status.Ok left old mid
    end_of_input held found before = by last refl
      where
        well : IsAtEnd now → IsAtEnd (prepend_known held left) → HasEnded c input status.Ok left old mid
        well none over = ended_well c a.header a.lines k old mid a.so_far input now left passed last rested none (at_end_of_source held left over)

        by : (b : Bool) → last ≡ b → HasEnded c input status.Ok left old mid
        by false is = let both = found is in well both.0 both.1
        by true is =
            let none : IsAtEnd now = subst IsAtEnd (sym rested.told) (rested.at_end is) in
            well none (subst IsAtEnd (sym (before is)) none)

    pub end_of_lines : 4294967295 ≤ number → HasEnded c input status.TooLong left old mid
    end_of_lines many = absurd (too_many_lines c a.header a.lines k old mid a.so_far input now passed number last rested a.counted many)

    pub no_line : (st : Status) → (last ≡ true → ⊥) → IsUnreadLine st number now passed left → HasEnded c input st left old mid
    no_line st unended un = unread_line c a.header a.lines k old mid a.so_far st input now left passed number last rested a.counted (not_true last unended) un

    pub end_in_line : (st : Status) (line : Scripted) (held : List ℕ) (passed' : ℕ) (last' : Bool) (new : Option (List ℕ)) → IsInRange line → length (script_line line) ≤ most_line
        → GivesLine now (prepend_known held left) (script_line line) → IfSome now (λ octets. passed' ≡ passed + span octets)
        → IfSome now (λ octets. span octets ≡ taken_by (script_line line) last') → passed' ≤ most_octets → length held ≤ 65536
        → HasStoppedIn c st line k mid new → HasEnded c input st left old new
    end_in_line st line held passed' last' new in_range short gives counted ends small few stopped =
        let reads = reads_more all a.header a.lines line now (prepend_known held left) passed passed' last last' a.reads gives counted ends small in
        ended_at c a.header a.lines k old mid a.so_far line in_range short st input held (prepend_known held left) left new passed' last'
        (at_rest all input a.header (a.lines ++ line ∷ []) (prepend_known held left) passed' last' told reads) refl few stopped

-- an end at the header's own line
pub end_at_header : (c : Choices) (st : Status) (h : Header) (input held : List ℕ) (all left old new : Option (List ℕ)) (passed : ℕ) (last : Bool) → all ≡ Some input → IsScriptHeader h
    → GivesLine (prepend_known [] all) (prepend_known held left) (header_text h) → IfSome (prepend_known [] all) (λ octets. passed ≡ 0 + span octets)
    → IfSome (prepend_known [] all) (λ octets. span octets ≡ taken_by (header_text h) last) → passed ≤ most_octets
    → length held ≤ 65536 → IsUnwritten st (ended (header_text h)) old new → HasEnded c input st left old new
end_at_header c st h input held all left old new passed last told good gives counted ends short few un =
    let reads = reads_first all (prepend_known held left) h passed last gives counted ends short in
    unwritten_header c st h input held (prepend_known held left) left old new passed last good (at_rest all input h [] (prepend_known held left) passed last told reads) refl few un

-- the header was written, and there was no memory for the nodes
pub end_before_lines : (c : Choices) (h : Header) (input held : List ℕ) (all left old new : Option (List ℕ)) (passed : ℕ) (last : Bool) → all ≡ Some input → IsScriptHeader h
    → GivesLine (prepend_known [] all) (prepend_known held left) (header_text h) → IfSome (prepend_known [] all) (λ octets. passed ≡ 0 + span octets)
    → IfSome (prepend_known [] all) (λ octets. span octets ≡ taken_by (header_text h) last) → passed ≤ most_octets
    → Appends old new (ended (header_text h)) → HasEnded c input status.Memory left old new
end_before_lines c h input held all left old new passed last told good gives counted ends short written =
    let reads = reads_first all (prepend_known held left) h passed last gives counted ends short in
    no_memory c h [] (start h) old new (so_far_first c h (start h) old new good refl written) input (prepend_known held left) left passed last
    (at_rest all input h [] (prepend_known held left) passed last told reads)
