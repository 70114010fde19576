-- The nodes after events, and the text of the entries that these make.
use Rattle.std.proofs.Common.{ℕ, ◌≡◌, ◌+◌, ◌≤◌, ◌++◌, List, [], ◌∷◌, Option, Some, take, refl, sym, ap, ◌∙◌, subst, arith, inl, inr, append-nil}
use Rattle.std.specs.Prelude.{IfErr, OnOk, Result, Ok, Err}
use Rattle.std.specs.List.{flat_map}
use Rattle.std.specs.Io.KnownBytes.{Appends}
use Rattle.std.proofs.KnownBytes.{Appends-nil, Appends-trans}
use Rattle.dc_base.specs.declared.answers.Answer.{Answer}
use Rattle.dc_base.specs.declared.answers.Status.{Status}
use Rattle.dc_base.specs.declared.answers.Status.TheVariants as status
use Rattle.dc_base.specs.declared.events.Event.{Event}
use Rattle.dc_base.specs.declared.events.Event.TheVariants.{Step}
use Rattle.dc_base.specs.declared.events.Line.{Line}
use Rattle.dc_base.specs.declared.events.Line.TheVariants as line
use Rattle.dc_base.specs.declared.nodes.LinkId.{LinkId}
use Rattle.transcript.specs.Text.{lines_text}
use Rattle.transcript.specs.Transcript.{Entry, entry_lines}
use Rattle.script_text.specs.declared.scripted.Scripted.{Scripted}
use Rattle.script_text.specs.declared.scripted.Scripted.TheVariants.{One, Drain}
use Rattle.node_rules.specs.Choices.{Choices}
use Rattle.node_rules.specs.Run.{entries_from, world_after, world_step}
use Rattle.node_rules.specs.World.{World, first_loaded}
use Rattle.dc_network.specs.Counting.{IsWithin}
use Rattle.counted_network.proofs.Events.{counting-append, counting_world, entries-append}
use Rattle.dc_top.specs.Run.{events_of}
use Rattle.counted_network.specs.Counted.{Counting, counting_after, counting_after_all}
use Rattle.dc_top.specs.Steps.{AreEventsOf, AreFirstSteps, HasRun, HasStopped, HasStoppedDraining, HasStoppedIn, IsUnwritten, events_text}
use Rattle.dc_top.proofs.Texts.{entries_text-append, lines_text-append}

-- ---- one event after others

module _ (c : Choices) where
  -- the events of their entries are the events
  pub events_are : (w : World) (es : List Event) → events_of (entries_from c w es) ≡ es
  events_are w [] = refl
  events_are w (e ∷ es) = ap (λ (t : List Event). e ∷ t) (events_are (world_step c w e).0 es)

  pub steps-append : (w : World) (es fs : List Event) → AreFirstSteps c w es → AreFirstSteps c (world_after c w es) fs → AreFirstSteps c w (es ++ fs)
  steps-append w [] fs steps more = more
  steps-append w (e ∷ es) fs steps more = (steps.0, steps-append (world_step c w e).0 es fs steps.1 more)

  steps_before : (w : World) (es : List Event) (e : Event) → AreFirstSteps c w (es ++ e ∷ []) → AreFirstSteps c w es
  steps_before w [] e steps = tt
  steps_before w (x ∷ es) e steps = (steps.0, steps_before (world_step c w x).0 es e steps.1)

  events_text-append : (w : World) (es fs : List Event) → events_text c w (es ++ fs) ≡ events_text c w es ++ events_text c (world_after c w es) fs
  events_text-append w es fs =
      ap (λ t. lines_text (flat_map entry_lines t)) (entries-append c w es fs)
      ∙ entries_text-append (entries_from c w es) (entries_from c (world_after c w es) fs)

-- ---- one event, run

-- the text of the one entry, as it is made
pub happened_text : (x : Entry) (e : Event) (a : Answer) (ls : List Line) → x ≡ record { event = e; answer = a; lines = ls }
    → lines_text (line.Event e ∷ []) ++ lines_text (line.Answer a ∷ ls) ≡ lines_text (flat_map entry_lines (x ∷ []))
happened_text x e a ls is =
    sym (lines_text-append (line.Event e ∷ []) (line.Answer a ∷ ls)) ∙ ap (λ (y : Entry). lines_text (entry_lines y)) (sym is)
    ∙ ap lines_text (sym (append-nil (entry_lines x)))

module _ (c : Choices) where
  -- a text that was not written, of one event
  pub unwritten_stopped : {T : Type 0} (r : Result T Status) (k : Counting) (e : Event) (text : List ℕ) (old new : Option (List ℕ))
      → text ≡ events_text c k.world (e ∷ []) → IsWithin k.counts → IsWithin (counting_after c k e).counts
      → IfErr r (λ s. IsUnwritten s text old new) → IfErr r (λ s. HasStopped c s k [] e old new)
  unwritten_stopped (Ok x) k e text old new is before after un = tt
  unwritten_stopped (Err status.Ok) k e text old new is before after un = un
  unwritten_stopped (Err status.Usage) k e text old new is before after un = un
  unwritten_stopped (Err (status.BadLine line column)) k e text old new is before after un = un
  unwritten_stopped (Err status.ReadFault) k e text old new is before after un = un
  unwritten_stopped (Err status.WriteFault) k e text old new is before after un =
      (un.0, after, subst (λ t. Appends old new (take un.0 t)) is un.1)
  unwritten_stopped (Err status.Memory) k e text old new is before after un = (before, un)
  unwritten_stopped (Err status.TooLong) k e text old new is before after un = absurd un

  -- ---- one event more

  pub run_none : (k : Counting) (old : Option (List ℕ)) → IsWithin k.counts → HasRun c k [] k old old
  run_none k old within = record { after = refl; within = within; written = Appends-nil old }

  pub run_more : (k m n : Counting) (es fs : List Event) (x y z : Option (List ℕ)) → HasRun c k es m x y → HasRun c m fs n y z → HasRun c k (es ++ fs) n x z
  run_more k m n es fs x y z p q =
      let world : m.world ≡ world_after c k.world es = ap (λ (j : Counting). j.world) p.after ∙ counting_world c k es in
      record {
        after = q.after ∙ ap (λ j. counting_after_all c j fs) p.after ∙ sym (counting-append c k es fs);
        within = q.within;
        written = subst (Appends x z) (ap (λ w. events_text c k.world es ++ events_text c w fs) world ∙ sym (events_text-append c k.world es fs))
            (Appends-trans x y z (events_text c k.world es) (events_text c m.world fs) p.written q.written);
      }

  -- the end came at the one event after events that were run
  pub stopped_after : (s : Status) (k m : Counting) (es : List Event) (e : Event) (x y z : Option (List ℕ)) → HasRun c k es m x y → HasStopped c s m [] e y z → HasStopped c s k es e x z
  stopped_after status.Ok k m es e x y z p q = q
  stopped_after status.Usage k m es e x y z p q = q
  stopped_after (status.BadLine line column) k m es e x y z p q = q
  stopped_after status.ReadFault k m es e x y z p q = q
  stopped_after status.Memory k m es e x y z p q = (
    subst (λ (j : Counting). IsWithin j.counts) p.after p.within,
    subst (Appends x z) (append-nil (events_text c k.world es)) (Appends-trans x y z (events_text c k.world es) [] p.written q.1),
  )
  stopped_after status.TooLong k m es e x y z p q =
      let next : counting_after_all c m (e ∷ []) ≡ counting_after_all c k (es ++ e ∷ []) = ap (λ j. counting_after_all c j (e ∷ [])) p.after ∙ sym (counting-append c k es (e ∷ [])) in (
        subst (λ (j : Counting). IsWithin j.counts) p.after p.within,
        subst (λ (j : Counting). IsWithin j.counts → ⊥) next q.1,
        subst (Appends x z) (append-nil (events_text c k.world es)) (Appends-trans x y z (events_text c k.world es) [] p.written q.2),
      )
  stopped_after status.WriteFault k m es e x y z p q =
      let next : counting_after_all c m (e ∷ []) ≡ counting_after_all c k (es ++ e ∷ []) = ap (λ j. counting_after_all c j (e ∷ [])) p.after ∙ sym (counting-append c k es (e ∷ [])) in (
        q.0,
        subst (λ (j : Counting). IsWithin j.counts) next q.1,
        subst (λ (j : Counting). Appends x z (events_text c k.world es ++ take q.0 (events_text c j.world (e ∷ [])))) p.after
            (Appends-trans x y z (events_text c k.world es) (take q.0 (events_text c m.world (e ∷ []))) p.written q.2),
      )

  -- ---- the ends of lines

  -- one more step
  pub first_step : (k m : Counting) (es : List Event) (l : LinkId) (x y : Option (List ℕ)) → HasRun c k es m x y → Some l ≡ first_loaded m.world.links → AreFirstSteps c k.world es
      → AreFirstSteps c k.world (es ++ Step l 0 ∷ [])
  first_step k m es l x y run first steps =
      let world : m.world ≡ world_after c k.world es = ap (λ (j : Counting). j.world) run.after ∙ counting_world c k es in
      steps-append c k.world es (Step l 0 ∷ []) steps
      (record { link = l; first = ap (λ (w : World). first_loaded w.links) (sym world) ∙ sym first; step = refl }, tt)

  pub drain_ended : {T : Type 0} (r : Result T Status) (line : Scripted) (k : Counting) (old new : Option (List ℕ)) → line ≡ Drain
      → IfErr r (λ s. HasStoppedDraining c s k old new) → IfErr r (λ s. HasStoppedIn c s line k old new)
  drain_ended (Ok x) line k old new is p = tt
  drain_ended (Err s) line k old new is p =
      subst (λ l. HasStoppedIn c s l k old new) (sym is)
      (record { before = p.before; event = p.event; begun = steps_before c k.world p.before p.event p.steps; next = p.steps; stopped = p.stopped })

  pub event_ended : {T : Type 0} (r : Result T Status) (line : Scripted) (e : Event) (k : Counting) (old new : Option (List ℕ)) → line ≡ One e
      → IfErr r (λ s. HasStopped c s k [] e old new) → IfErr r (λ s. HasStoppedIn c s line k old new)
  event_ended (Ok x) line e k old new is p = tt
  event_ended (Err s) line e k old new is p =
      subst (λ l. HasStoppedIn c s l k old new) (sym is)
      (record { before = []; event = e; begun = inl refl; next = inr refl; stopped = p })

  -- the event of a line was run
  pub event_ran : {T : Type 0} (r : Result T Status) (line : Scripted) (e : Event) (k k' : Counting) (old new : Option (List ℕ)) → line ≡ One e
      → OnOk r (HasRun c k (e ∷ []) k' old new) → OnOk r ((es : List Event) × AreEventsOf c line k es × HasRun c k es k' old new)
  event_ran (Ok x) line e k k' old new is p = (e ∷ [], subst (λ l. AreEventsOf c l k (e ∷ [])) (sym is) refl, p)
  event_ran (Err s) line e k k' old new is p = tt
