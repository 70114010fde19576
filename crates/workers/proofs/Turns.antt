-- What a turn leaves.
use Rattle.std.proofs.Common.{Err, List, Ok, Result, [], ap, arith, false, length, refl, subst, sym, true, ℕ, ◌+◌, ◌++◌, ◌<◌, ◌∙◌, ◌∷◌, ◌≡◌}
use Rattle.std.proofs.lemmas.List.{append-nil}
use Rattle.std.specs.List.{AllByRecursion}
use Rattle.std.specs.Prelude.{Bool, OnOk, Some, slice_index_or}
use Rattle.crossbeam_queue.specs.Passes.{view}
use Rattle.dc_base.specs.Nodes.{node_number}
use Rattle.dc_base.specs.declared.events.Event.{Event}
use Rattle.dc_base.specs.declared.lists.Memory.{Memory}
use Rattle.inbox.specs.Inbox.{view_of}
use Rattle.journal_runs.specs.OwnSteps.{driven}
use Rattle.journals.proofs.OnEach.{each_append, each_weaker}
use Rattle.journals.specs.Journals.{Stamped, sent, taken, took}
use Rattle.journals.specs.Messages.{messages, to}
use Rattle.journals.specs.declared.entries.JournalEntry.{JournalEntry}
use Rattle.journals.specs.declared.entries.Message.{Message}
use Rattle.journals.specs.declared.entries.What.{What}
use Rattle.journals.specs.declared.entries.What.TheVariants.{Driver}
use Rattle.node_rules.specs.NodeRule.{NodeState}
use Rattle.outlets.proofs.Posts.{ways_posted}
use Rattle.outlets.specs.Ways.{AreWays, IsTicketOf}
use Rattle.workers.proofs.Snoc.{rising_snoc, sent_snoc, taken_snoc, worked_idle, worked_snoc}
use Rattle.workers.specs.Plans.{Waits, is_ready}
use Rattle.workers.specs.Working.{Around, IsTaken, LosesNone, Noted, Opening, Ready, Sound, Until, is_loss}
use Rattle.workers.specs.declared.worker.Worker.{Worker}

on_ok : {T E : Type 0} (r : Result T E) (P Q : Type 0) → (P → Q) → OnOk r P → OnOk r Q
on_ok (Ok x) P Q so h = so h
on_ok (Err e) P Q so h = h

module _ {C G S : Type 0} (node : C → NodeState) (is_lossless : S → Bool) (x : Around) (o : Opening) (turn clock : ℕ) where
  noted : (what : What) (w v : Worker C G S) → Ready node is_lossless x o turn clock what w → Noted node x.choices w turn clock what v → Sound node is_lossless x o (turn + 1) (taken v.journal) v
  noted what w v r n =
      let e : JournalEntry = record { stamp = clock; turn = turn; what = what; answer = n.answer; lines = n.lines } in
      let es = w.journal in
      let ways : AreWays x.ids (node_number w.me) (λ k. to k (sent (es ++ e ∷ []))) v.outlets =
      rw (sent_snoc es e, n.outlets) (ways_posted x.ids (node_number w.me) (sent es) (messages clock n.lines) w.outlets r.ways n.own) in
      let its : Stamped (node_number w.me) e = record { sends = n.own; takes = r.early } in
      record {
        me = n.me ∙ r.me;
        pass = rw (n.me, n.ticket) r.pass;
        right = rw (n.ticket, n.journal) (r.right ∙ ap (λ (l : List Message). view_of true l []) (sym (taken_snoc es e)));
        ways = rw (n.me, n.journal) ways;
        stamped = rw (n.me, n.journal) (each_append (Stamped (node_number w.me)) es (e ∷ []) r.stamped (its, tt));
        rising = rw n.journal (rising_snoc 0 0 w.clock turn es e r.rising r.until r.later refl (omega arith) (omega arith));
        until = rw (n.clock_is, n.journal) (each_append (Until clock (turn + 1)) es (e ∷ []) (each_weaker (Until w.clock turn) (Until clock (turn + 1)) (λ y h. let a = h.0 in let b = h.1 in let l = r.later in (omega arith, omega arith)) es r.until)
            ((omega arith, omega arith), tt));
        driven_by = rw (n.me, n.left) r.driven_by;
        worked = rw (n.me, n.journal, n.left) (worked_snoc x.choices w.me o.state o.plan 0 (node w.core) r.ahead es e (node v.core) w.lines.items r.worked r.may (n.done.answer_is, n.done.lines_are) n.done.state r.takes_line);
        shaper = ap is_lossless n.shaper ∙ r.shaper;
        lossless = λ is. rw n.journal (each_append (λ (y : JournalEntry). is_loss y.what ≡ false) es (e ∷ []) (r.lossless is) (r.kept (r.shaper ∙ is), tt));
      }

  ready_to_hear : (m : Message) (what : What) (w u : Worker C G S) → Sound node is_lossless x o turn (taken w.journal ++ m ∷ []) w → IsTaken is_lossless w m what u → w.clock < clock → m.stamp < clock
      → Ready node is_lossless x o turn clock what (record w { shaped = u.shaped })
  ready_to_hear m what w u s is later early =
      record {
        me = s.me;
        pass = s.pass;
        right = s.right ∙ ap (λ (l : List Message). view_of true (taken w.journal ++ l) []) (sym is.takes);
        ways = s.ways;
        stamped = s.stamped;
        rising = s.rising;
        until = s.until;
        driven_by = s.driven_by;
        ahead = w.lines.items;
        worked = s.worked;
        takes_line = rw is.no_line refl;
        may = is.may w.me;
        shaper = s.shaper;
        lossless = s.lossless;
        kept = is.kept;
        later = later;
        early = rw is.takes (early, tt);
      }

  -- a message was taken
  pub heard : (m : Message) (what : What) (w u v : Worker C G S) (r : Result Unit Memory) → Sound node is_lossless x o turn (taken w.journal ++ m ∷ []) w → IsTaken is_lossless w m what u → w.clock < clock → m.stamp < clock
      → OnOk r (Noted node x.choices u turn clock what v) → OnOk r (Sound node is_lossless x o (turn + 1) (taken v.journal) v)
  heard m what w u v r s is later early =
      on_ok r (Noted node x.choices u turn clock what v) (Sound node is_lossless x o (turn + 1) (taken v.journal) v)
      (noted what u v (subst (λ (y : Worker C G S). Ready node is_lossless x o turn clock what y) (sym is.rest) (ready_to_hear m what w u s is later early)))

  ready_to_drive : (e : Event) (w u : Worker C G S) → Sound node is_lossless x o turn (taken w.journal) w → w.lines.items ≡ e ∷ u.lines.items → w.clock < clock
      → Ready node is_lossless x o turn clock (Driver e) (record w { lines = u.lines })
  ready_to_drive e w u s first later =
      let lines : AllByRecursion (λ (l : Event). driven l ≡ Some w.me) (e ∷ u.lines.items) = rw first at s.driven_by in
      record {
        me = s.me;
        pass = s.pass;
        right = s.right ∙ ap (λ (l : List Message). view_of true l []) (sym (append-nil (taken w.journal)));
        ways = s.ways;
        stamped = s.stamped;
        rising = s.rising;
        until = s.until;
        driven_by = lines.1;
        ahead = w.lines.items;
        worked = s.worked;
        takes_line = first;
        may = lines.0;
        shaper = s.shaper;
        lossless = s.lossless;
        kept = λ _. refl;
        later = later;
        early = tt;
      }

  -- a line of the plan was taken
  pub drove : (e : Event) (w u v : Worker C G S) (r : Result Unit Memory) → Sound node is_lossless x o turn (taken w.journal) w → u ≡ record w { lines = u.lines } → w.lines.items ≡ e ∷ u.lines.items → w.clock < clock
      → OnOk r (Noted node x.choices u turn clock (Driver e) v) → OnOk r (Sound node is_lossless x o (turn + 1) (taken v.journal) v)
  drove e w u v r s rest first later =
      on_ok r (Noted node x.choices u turn clock (Driver e) v) (Sound node is_lossless x o (turn + 1) (taken v.journal) v)
      (noted (Driver e) u v (subst (λ (y : Worker C G S). Ready node is_lossless x o turn clock (Driver e) y) (sym rest) (ready_to_drive e w u s first later)))

-- the gate was passed, what waits was offered, and the inbox was looked at
pub went_on : {C G S : Type 0} (node : C → NodeState) (is_lossless : S → Bool) (x : Around) (o : Opening) (turn : ℕ) (got now : List Message) (w u : Worker C G S) → Sound node is_lossless x o turn got w
    → u ≡ record w { gate = u.gate; outlets = u.outlets; ticket = u.ticket } → AreWays x.ids (node_number w.me) (λ k. to k (sent w.journal)) u.outlets
    → IsTicketOf (x.ids (node_number w.me)) u.ticket → view u.ticket ≡ view_of true now [] → Sound node is_lossless x o turn now u
went_on {C} {G} {S} node is_lossless x o turn got now w u s rest ways pass right =
    let v : Worker C G S = record w { gate = u.gate; outlets = u.outlets; ticket = u.ticket } in
    let at_v : Sound node is_lossless x o turn now v = record {
      me = s.me;
      pass = pass;
      right = right;
      ways = ways;
      stamped = s.stamped;
      rising = s.rising;
      until = s.until;
      driven_by = s.driven_by;
      worked = s.worked;
      shaper = s.shaper;
      lossless = s.lossless;
    } in
    subst (λ (y : Worker C G S). Sound node is_lossless x o turn now y) (sym rest) at_v

-- there is no line
pub no_line : (s : NodeState) (ls : List Event) → (0 < length ls → ⊥) → Waits s ls
no_line s [] none = tt
no_line s (l ∷ ls) none = absurd (none (omega arith))

-- the next line is not ready
pub not_ready : (s : NodeState) (ls : List Event) (next : Event) → next ≡ slice_index_or ls 0 next → is_ready s next ≡ false → Waits s ls
not_ready s [] next is waits = tt
not_ready s (l ∷ ls) next is waits = subst (λ (e : Event). is_ready s e ≡ false) is waits

-- nothing was taken
pub idle : {C G S : Type 0} (node : C → NodeState) (is_lossless : S → Bool) (x : Around) (o : Opening) (turn : ℕ) (got : List Message) (w : Worker C G S) → Sound node is_lossless x o turn got w → Waits (node w.core) w.lines.items
    → Sound node is_lossless x o (turn + 1) got w
idle node is_lossless x o turn got w s waits =
    record {
      me = s.me;
      pass = s.pass;
      right = s.right;
      ways = s.ways;
      stamped = s.stamped;
      rising = s.rising;
      until = each_weaker (Until w.clock turn) (Until w.clock (turn + 1)) (λ y h. let b = h.1 in (h.0, omega arith)) w.journal s.until;
      driven_by = s.driven_by;
      worked = worked_idle x.choices w.me o.state o.plan 0 (node w.core) w.lines.items turn w.journal s.worked waits;
      shaper = s.shaper;
      lossless = s.lossless;
    }
