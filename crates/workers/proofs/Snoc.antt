-- A journal with an entry more.
use Rattle.std.proofs.Common.{List, [], ap, append_assoc, arith, refl, subst, sym, ℕ, ◌+◌, ◌++◌, ◌<◌, ◌∙◌, ◌∷◌, ◌≡◌, ◌≤◌}
use Rattle.std.proofs.lemmas.List.{append-nil}
use Rattle.std.specs.List.{AllByRecursion}
use Rattle.dc_base.specs.declared.events.Event.{Event}
use Rattle.dc_base.specs.declared.nodes.Node.{Node}
use Rattle.journal_runs.specs.OwnSteps.{AreOwnSteps, MayTake, Says, own_step}
use Rattle.journals.specs.Journals.{Rising, outputs, sent, taken, took}
use Rattle.journals.specs.declared.entries.JournalEntry.{JournalEntry}
use Rattle.journals.specs.declared.entries.Message.{Message}
use Rattle.node_rules.specs.Choices.{Choices}
use Rattle.node_rules.specs.NodeRule.{NodeState}
use Rattle.workers.specs.Plans.{Waits, line_in}
use Rattle.workers.specs.Working.{Until, Worked}

pub taken_snoc : (es : List JournalEntry) (e : JournalEntry) → taken (es ++ e ∷ []) ≡ taken es ++ took e.what
taken_snoc [] e = append-nil (took e.what)
taken_snoc (x ∷ es) e = ap (λ (l : List Message). took x.what ++ l) (taken_snoc es e) ∙ sym (append_assoc (took x.what) (taken es) (took e.what))

pub sent_snoc : (es : List JournalEntry) (e : JournalEntry) → sent (es ++ e ∷ []) ≡ sent es ++ outputs e
sent_snoc [] e = append-nil (outputs e)
sent_snoc (x ∷ es) e = ap (λ (l : List Message). outputs x ++ l) (sent_snoc es e) ∙ sym (append_assoc (outputs x) (sent es) (outputs e))

pub rising_snoc : (s t clock turn : ℕ) (es : List JournalEntry) (e : JournalEntry) → Rising s t es → AllByRecursion (Until clock turn) es → clock < e.stamp → turn ≡ e.turn → s ≤ e.stamp → t ≤ e.turn
    → Rising s t (es ++ e ∷ [])
rising_snoc s t clock turn [] e r until later same low early = (low, early, tt)
rising_snoc s t clock turn (x ∷ es) e r until later same low early =
    let a = until.0.0 in
    let b = until.0.1 in
    (r.0, r.1, rising_snoc (x.stamp + 1) (x.turn + 1) clock turn es e r.2 until.1 later same (omega arith) (omega arith))

-- one more entry in this turn
pub worked_snoc : (c : Choices) (n : Node) (s : NodeState) (ls : List Event) (t : ℕ) (d : NodeState) (ks : List Event) (es : List JournalEntry) (e : JournalEntry) (z : NodeState) (js : List Event)
    → Worked c n s ls t es d ks e.turn → MayTake n e.what → Says (own_step c d e.what).1 e → z ≡ (own_step c d e.what).0 → ks ≡ line_in e.what ++ js → Worked c n s ls t (es ++ e ∷ []) z js (e.turn + 1)
worked_snoc c n s ls t d ks [] e z js f may says is line = (
  f.2,
  may,
  subst (λ (q : NodeState). Says (own_step c q e.what).1 e) (sym f.0) says,
  js,
  f.1 ∙ line,
  (ap (λ (q : NodeState). (own_step c q e.what).0) f.0 ∙ sym is, refl, λ less. absurd (omega arith)),
)
worked_snoc c n s ls t d ks (x ∷ es) e z js f may says is line =
    (f.0, f.1, f.2, f.3, f.4, worked_snoc c n (own_step c s x.what).0 f.3 (x.turn + 1) d ks es e z js f.5 may says is line)

-- no entry in this turn
pub worked_idle : (c : Choices) (n : Node) (s : NodeState) (ls : List Event) (t : ℕ) (d : NodeState) (ks : List Event) (u : ℕ) (es : List JournalEntry)
    → Worked c n s ls t es d ks u → Waits d ks → Worked c n s ls t es d ks (u + 1)
worked_idle c n s ls t d ks u [] f waits = (f.0, f.1, λ _. subst (λ (x : NodeState × List Event). Waits x.0 x.1) (λ i. (sym f.0 i, sym f.1 i)) waits)
worked_idle c n s ls t d ks u (x ∷ es) f waits = (f.0, f.1, f.2, f.3, f.4, worked_idle c n (own_step c s x.what).0 f.3 (x.turn + 1) d ks u es f.5 waits)

-- the entries are steps of the node
pub own_steps : (c : Choices) (n : Node) (s : NodeState) (ls : List Event) (t : ℕ) (es : List JournalEntry) (d : NodeState) (ks : List Event) (u : ℕ)
    → Worked c n s ls t es d ks u → AreOwnSteps c n s es d
own_steps c n s ls t [] d ks u f = f.0
own_steps c n s ls t (e ∷ es) d ks u f = (f.1, f.2, own_steps c n (own_step c s e.what).0 f.3 (e.turn + 1) es d ks u f.5)
