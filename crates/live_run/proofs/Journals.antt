-- After the last turn: what each worker leaves, and the four journals beside one another.
use Rattle.std.proofs.Common.{List, [], ap, arith, false, refl, subst, suc, sym, zero, ℕ, ◌++◌, ◌<◌, ◌==◌, ◌∙◌, ◌∷◌, ◌≡◌}
use Rattle.std.proofs.lemmas.Bool.{cond-false, ne_eqb}
use Rattle.std.specs.List.{AllByRecursion}
use Rattle.std.specs.Prelude.{Bool}
use Rattle.atomic_table.specs.Seated.{TableId}
use Rattle.crossbeam_queue.specs.Passes.{Pass, view}
use Rattle.dc_base.specs.Nodes.{node_number}
use Rattle.dc_base.specs.declared.nodes.Node.{Node}
use Rattle.dc_base.specs.declared.nodes.Node.TheVariants as at
use Rattle.inbox.specs.declared.View.{View}
use Rattle.journal_runs.proofs.SameLink.{node_small}
use Rattle.journals.proofs.OnEach.{each_weaker}
use Rattle.journals.specs.Journals.{AreFirst, Legal, Rising, Stamped, sent, taken}
use Rattle.journals.specs.Merging.{numbered}
use Rattle.journals.specs.Messages.{from, to}
use Rattle.journals.specs.declared.entries.JournalEntry.{JournalEntry}
use Rattle.journals.specs.declared.entries.Message.{Message}
use Rattle.live_run.specs.Ran.{IsDone, Ran}
use Rattle.node_rules.specs.Choices.{Choices}
use Rattle.node_rules.specs.NodeRule.{NodeState}
use Rattle.outlets.specs.Boxes.{AllFirst, AreAllWays, AreReaders}
use Rattle.outlets.specs.Ways.{AreWays, Ways}
use Rattle.outlets.specs.declared.four.Four.{Four}
use Rattle.workers.specs.Working.{AreDrivenAt, HasRun, MayRun, Opening, Sound, Until, Worked, around}
use Rattle.workers.specs.declared.worker.Worker.{Worker}

-- ---- one worker

pub may_run : {C G S : Type 0} (node : C → NodeState) (is_lossless : S → Bool) (ids : ℕ → TableId) (c : Choices) (o : Opening) (w : Worker C G S)
    → Sound node is_lossless (around ids c) o 0 (taken w.journal) w → MayRun node is_lossless (around ids c) w
may_run node is_lossless ids c o w s = record { opens = o; sound = s }

pub ran_of : {C G S : Type 0} (node : C → NodeState) (is_lossless : S → Bool) (ids : ℕ → TableId) (c : Choices) (o : Opening) (turns : ℕ) (v w : Worker C G S)
    → Sound node is_lossless (around ids c) o 0 (taken v.journal) v → HasRun node is_lossless (around ids c) turns v w → Ran c o turns w.journal w.lines.items
ran_of node is_lossless ids c o turns v w begins run =
    let s = run.now o begins in
    record {
      end = node w.core;
      worked = subst (λ (n : Node). Worked c n o.state o.plan 0 w.journal (node w.core) w.lines.items turns) s.me s.worked;
      in_turns = each_weaker (Until w.clock turns) (λ (e : JournalEntry). e.turn < turns) (λ e h. h.1) w.journal s.until;
      left_for = subst (λ (n : Node). AreDrivenAt n w.lines.items) s.me s.driven_by;
      lossless = s.lossless;
    }

pub done_of : {C G S : Type 0} (node : C → NodeState) (is_lossless : S → Bool) (ids : ℕ → TableId) (c : Choices) (o : Opening) (turns : ℕ) (v w : Worker C G S)
    → Sound node is_lossless (around ids c) o 0 (taken v.journal) v → HasRun node is_lossless (around ids c) turns v w → IsDone ids o.me w
done_of node is_lossless ids c o turns v w begins run =
    let s = run.now o begins in
    record {
      pass = rw s.me at s.pass;
      right = s.right;
      ways = rw s.me at s.ways;
      stamped = rw s.me at s.stamped;
      rising = s.rising;
    }

-- ---- four journals

numbered_past : (t m a b : List JournalEntry) (k : ℕ) → numbered t m a b (suc (suc (suc (suc k)))) ≡ []
numbered_past t m a b k =
    let n : ℕ = suc (suc (suc (suc k))) in
    let none : (i : ℕ) → i < 4 → (i == n) ≡ false = λ i h. ne_eqb i n (λ e. omega arith) in
    let n0 : (0 == n) ≡ false = none 0 (omega arith) in
    let n1 : (1 == n) ≡ false = none 1 (omega arith) in
    let n2 : (2 == n) ≡ false = none 2 (omega arith) in
    let n3 : (3 == n) ≡ false = none 3 (omega arith) in
    cond-false (0 == n) _ _ n0 ∙ (cond-false (1 == n) _ _ n1 ∙ (cond-false (2 == n) _ _ n2 ∙ cond-false (3 == n) _ _ n3))

from_past : (k : ℕ) (ms : List Message) → from (suc (suc (suc (suc k)))) ms ≡ []
from_past k [] = refl
from_past k (m ∷ ms) =
    let small = node_small m.link.from in
    let no' : (node_number m.link.from == suc (suc (suc (suc k)))) ≡ false = ne_eqb (node_number m.link.from) (suc (suc (suc (suc k)))) (λ e. omega arith) in
    rw no' (from_past k ms)

by_number : (P : ℕ → List JournalEntry → Type 0) (t m a b : List JournalEntry) → P 0 t → P 1 m → P 2 a → P 3 b → ((n : ℕ) → P n []) → (n : ℕ) → P n (numbered t m a b n)
by_number P t m a b p0 p1 p2 p3 none zero = p0
by_number P t m a b p0 p1 p2 p3 none (suc zero) = p1
by_number P t m a b p0 p1 p2 p3 none (suc (suc zero)) = p2
by_number P t m a b p0 p1 p2 p3 none (suc (suc (suc zero))) = p3
by_number P t m a b p0 p1 p2 p3 none (suc (suc (suc (suc n)))) = rw (numbered_past t m a b n) (none (suc (suc (suc (suc n)))))

-- what each node took, and what each sent to each, by the nodes' numbers
abbrev pub all_taken : List JournalEntry → List JournalEntry → List JournalEntry → List JournalEntry → ℕ → List Message
all_taken t m a b n = taken (numbered t m a b n)

abbrev pub all_sent : List JournalEntry → List JournalEntry → List JournalEntry → List JournalEntry → ℕ → ℕ → List Message
all_sent t m a b p k = to k (sent (numbered t m a b p))

first_all : (t m a b : List JournalEntry) → AllFirst (all_taken t m a b) (all_sent t m a b) → (p n : ℕ) → AreFirst (from p (taken (numbered t m a b n))) (to n (sent (numbered t m a b p)))
first_all t m a b h (suc (suc (suc (suc p)))) n =
    (to n (sent (numbered t m a b (suc (suc (suc (suc p)))))), ap (λ (l : List Message). l ++ to n (sent (numbered t m a b (suc (suc (suc (suc p))))))) (sym (from_past p (taken (numbered t m a b n)))))
first_all t m a b h p (suc (suc (suc (suc n)))) = rw (numbered_past t m a b n) (to (suc (suc (suc (suc n)))) (sent (numbered t m a b p)), refl)
first_all t m a b h zero zero = h 0 0 (omega arith) (omega arith)
first_all t m a b h zero (suc zero) = h 0 1 (omega arith) (omega arith)
first_all t m a b h zero (suc (suc zero)) = h 0 2 (omega arith) (omega arith)
first_all t m a b h zero (suc (suc (suc zero))) = h 0 3 (omega arith) (omega arith)
first_all t m a b h (suc zero) zero = h 1 0 (omega arith) (omega arith)
first_all t m a b h (suc zero) (suc zero) = h 1 1 (omega arith) (omega arith)
first_all t m a b h (suc zero) (suc (suc zero)) = h 1 2 (omega arith) (omega arith)
first_all t m a b h (suc zero) (suc (suc (suc zero))) = h 1 3 (omega arith) (omega arith)
first_all t m a b h (suc (suc zero)) zero = h 2 0 (omega arith) (omega arith)
first_all t m a b h (suc (suc zero)) (suc zero) = h 2 1 (omega arith) (omega arith)
first_all t m a b h (suc (suc zero)) (suc (suc zero)) = h 2 2 (omega arith) (omega arith)
first_all t m a b h (suc (suc zero)) (suc (suc (suc zero))) = h 2 3 (omega arith) (omega arith)
first_all t m a b h (suc (suc (suc zero))) zero = h 3 0 (omega arith) (omega arith)
first_all t m a b h (suc (suc (suc zero))) (suc zero) = h 3 1 (omega arith) (omega arith)
first_all t m a b h (suc (suc (suc zero))) (suc (suc zero)) = h 3 2 (omega arith) (omega arith)
first_all t m a b h (suc (suc (suc zero))) (suc (suc (suc zero))) = h 3 3 (omega arith) (omega arith)

pub readers_of : {C D E G S : Type 0} (ids : ℕ → TableId) (t : Worker C G S) (m : Worker D G S) (a b : Worker E G S) (ts : Four (Pass Message View))
    → IsDone ids at.T t → IsDone ids at.M m → IsDone ids at.A a → IsDone ids at.B b → ts.t ≡ t.ticket → ts.m ≡ m.ticket → ts.a ≡ a.ticket → ts.b ≡ b.ticket
    → AreReaders ids (all_taken t.journal m.journal a.journal b.journal) ts
readers_of ids t m a b ts dt dm da db et em ea eb =
    record { t = rw et (dt.pass, dt.right); m = rw em (dm.pass, dm.right); a = rw ea (da.pass, da.right); b = rw eb (db.pass, db.right) }

pub ways_of : {C D E G S : Type 0} (ids : ℕ → TableId) (t : Worker C G S) (m : Worker D G S) (a b : Worker E G S) (ws : Four Ways)
    → IsDone ids at.T t → IsDone ids at.M m → IsDone ids at.A a → IsDone ids at.B b → ws.t ≡ t.outlets → ws.m ≡ m.outlets → ws.a ≡ a.outlets → ws.b ≡ b.outlets
    → AreAllWays ids (all_sent t.journal m.journal a.journal b.journal) ws
ways_of ids t m a b ws dt dm da db et em ea eb = record { t = rw et dt.ways; m = rw em dm.ways; a = rw ea da.ways; b = rw eb db.ways }

pub legal_of : {C D E G S : Type 0} (ids : ℕ → TableId) (t : Worker C G S) (m : Worker D G S) (a b : Worker E G S)
    → IsDone ids at.T t → IsDone ids at.M m → IsDone ids at.A a → IsDone ids at.B b → AllFirst (all_taken t.journal m.journal a.journal b.journal) (all_sent t.journal m.journal a.journal b.journal)
    → Legal (numbered t.journal m.journal a.journal b.journal)
legal_of ids t m a b dt dm da db h =
    record {
      stamped = by_number (λ n es. AllByRecursion (Stamped n) es) t.journal m.journal a.journal b.journal dt.stamped dm.stamped da.stamped db.stamped (λ n. tt);
      rising = by_number (λ n es. Rising 0 0 es) t.journal m.journal a.journal b.journal dt.rising dm.rising da.rising db.rising (λ n. tt);
      first = first_all t.journal m.journal a.journal b.journal h;
    }
