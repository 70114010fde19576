-- Every event of the terminal is answered as it is due.
use Rattle.std.proofs.Common.{ℕ, ◌≡◌, ◌+◌, ◌-◌, ◌==◌, ◌^◌, Bool, true, false, List, [], ◌∷◌, Option, Some, None, length, refl, sym, ap, subst, ◌∙◌, inl, inr}
use Rattle.std.specs.Prelude.{find, is_none, is_some, map, nat_le, ◌&&◌}
use Rattle.std.specs.List.{AllByRecursion, list_all}
use Rattle.std.specs.Option.{option_map}
use Rattle.std.proofs.lemmas.Bool.{cases_Bool, eq-eqb, eqb-true, le-leb}
use Rattle.dc_base.specs.Count.{window}
use Rattle.dc_base.specs.declared.answers.Answer.{Answer}
use Rattle.dc_base.specs.declared.answers.Answer.TheVariants as answer
use Rattle.dc_base.specs.declared.answers.Refusal.TheVariants as refusal
use Rattle.dc_base.specs.declared.events.Event.{Event}
use Rattle.dc_base.specs.declared.events.Event.TheVariants as event
use Rattle.dc_base.specs.declared.events.Header.{Header}
use Rattle.dc_base.specs.declared.nodes.Dir.TheVariants.{Dl, Ul}
use Rattle.dc_base.specs.declared.nodes.Node.{Node}
use Rattle.dc_base.specs.declared.nodes.Node.TheVariants.{A, B, M, T}
use Rattle.claims.specs.Causes.{at_terminal, first_of_them}
use Rattle.claims.specs.Claim.{Each, of_entries}
use Rattle.claims.specs.Judged.{judged}
use Rattle.claims.specs.Noted.{after}
use Rattle.claims.specs.Reading.{next_count}
use Rattle.claims.specs.Past.{Bearer, Past, new_past}
use Rattle.claims.specs.Sameness.{answer_number, is_same_answer}
use Rattle.pdcp_tx.specs.Sender.{low}
use Rattle.node_rules.specs.Choices.{Choices}
use Rattle.node_rules.specs.Held.{held}
use Rattle.node_rules.specs.Run.{entries_from, world_step}
use Rattle.node_rules.specs.Terminal.{TerminalNode, reported_there, scg_fails, submitted_there}
use Rattle.node_rules.specs.TerminalHalf.{TerminalHalf}
use Rattle.node_rules.specs.World.{World, new_world}
use Rattle.run_control.specs.Sound.{AddsSecond}
use Rattle.run_words.proofs.Runs.{each_if, none_said}
use Rattle.run_uplinks.specs.Answers.{submission_due, terminal_is_answered, uplinks_are_near}
use Rattle.run_uplinks.specs.Seen.{Uplink, latest, seen, uplink_of}
use Rattle.run_uplinks.specs.Uplinks.{plane, Fits, IsHalf, IsNear, IsOut, IsOutBehind, IsUp, absent, present}
use Rattle.run_uplinks.proofs.Establishments.{all_out, some_is}
use Rattle.run_uplinks.proofs.Held.{Holds}
use Rattle.run_uplinks.proofs.Runs.{holds_new, holds_next}
use Rattle.run_uplinks.proofs.Terminals.{present_at}
use Rattle.run_uplinks.proofs.Unseen.{found_seen}

-- ---- the establishment that the terminal has

abbrev has_it : ℕ → Uplink → Bool
has_it id u = (u.id == id) && is_some u.terminal

none_there : (id : ℕ) (us : List Uplink) → AllByRecursion (IsOutBehind id) us → find (has_it id) us ≡ None
none_there id [] all = refl
none_there id (u ∷ us) all =
    elim (cases_Bool (u.id == id)) [
      | inl here ↦ let out : is_some u.terminal ≡ false = ap is_some (all.0 (eqb-true u.id id here)) in rw (here, out) (none_there id us all.1)
      | inr there ↦ rw there (none_there id us all.1)
    ]

latest_there : (id g : ℕ) (us : List Uplink) (u : Uplink) → latest id us ≡ Some u → u.terminal ≡ Some g → find (has_it id) us ≡ Some u
latest_there id g [] u at has = absurd (let bad : None ≡ Some u = at in cc)
latest_there id g (v ∷ us) u at has =
    elim (cases_Bool (v.id == id)) [
      | inl here ↦
          let same = some_is v u (rw here at at) in
          let there : is_some v.terminal ≡ true = ap (λ (x : Uplink). is_some x.terminal) same ∙ ap is_some has in
          rw (here, there) (ap (λ x. Some x) same)
      | inr apart ↦ rw apart (latest_there id g us u (rw apart at at) has)
    ]

module _ (p : Past) (t : TerminalNode) (is : IsUp (seen p) t) (id : ℕ) where
  pub none_at : held id t.halves ≡ None → option_map uplink_of (at_terminal p id) ≡ None
  none_at none =
      sym (found_seen (has_it id) p.bearers) ∙ none_there id (seen p).bearers (all_out id (seen p).bearers is.alone (λ u at. out u at (is.each id)))
    where
      out : (u : Uplink) → latest id (seen p).bearers ≡ Some u → Fits (seen p) t id → u.terminal ≡ None
      out u at (absent none' out') = (subst (λ o. IsOut (seen p).last o) at out').0
      out u at (present h there v v_at half) = absurd (let bad : None ≡ Some h = sym none ∙ there in cc)

  one_at : (h : TerminalHalf) (u : Uplink) → latest id (seen p).bearers ≡ Some u → IsHalf (plane (seen p)) u h → option_map uplink_of (at_terminal p id) ≡ Some u
  one_at h u at half = sym (found_seen (has_it id) p.bearers) ∙ latest_there id h.setup.g (seen p).bearers u at half.taken

-- ---- answers

same_answer : (a b : Answer) → a ≡ b → is_same_answer a b ≡ true
same_answer a b is = eq-eqb (answer_number a) (answer_number b) (ap answer_number is)

-- the answer to a submission, by what is seen
abbrev due_seen : Option Uplink → Answer
due_seen None = answer.No refusal.NoBearer
due_seen (Some u) = first_of_them ((nat_le (u.freed + window u.n) (u.first + length u.submitted), refusal.Full) ∷ (u.first + length u.submitted == 2 ^ 32 - 1, refusal.Exhausted) ∷ [])

due_is : (o : Option Bearer) → submission_due o ≡ due_seen (option_map uplink_of o)
due_is None = refl
due_is (Some b) = refl

-- to a report
abbrev report_seen : Option Uplink → Answer
report_seen o = first_of_them ((is_none o, refusal.NoBearer) ∷ [])

none_seen : (o : Option Bearer) → is_none o ≡ is_none (option_map uplink_of o)
none_seen None = refl
none_seen (Some b) = refl

module _ (c : Choices) (p : Past) (t : TerminalNode) (is : IsUp (seen p) t) (id : ℕ) where
  -- the sending entity refuses what is due to be refused
  taken_as : (h : TerminalHalf) (payload : List ℕ)
      → (submitted_there c t id payload (Some h)).1.answer ≡ first_of_them ((nat_le (low h.tx + window h.tx.n) h.tx.next, refusal.Full) ∷ (h.tx.next == 2 ^ 32 - 1, refusal.Exhausted) ∷ [])
  taken_as h payload =
      elim (cases_Bool (nat_le (low h.tx + window h.tx.n) h.tx.next)) [
        | inl full ↦ rw full refl
        | inr room ↦ elim (cases_Bool (h.tx.next == 2 ^ 32 - 1)) [ inl spent ↦ rw (room, spent) refl | inr left ↦ rw (room, left) refl ]
      ]

  submission_is : (payload : List ℕ) (o : Option TerminalHalf) → held id t.halves ≡ o → (submitted_there c t id payload o).1.answer ≡ submission_due (at_terminal p id)
  submission_is payload None at = sym (due_is (at_terminal p id) ∙ ap due_seen (none_at p t is id at))
  submission_is payload (Some h) at =
      let x = present_at c (seen p) t is id h at in
      let u = x.0 in
      let tx = x.2.sender in
      taken_as h payload
      ∙ ap (λ k. first_of_them ((nat_le (k + window h.tx.n) h.tx.next, refusal.Full) ∷ (h.tx.next == 2 ^ 32 - 1, refusal.Exhausted) ∷ [])) tx.low_is
      ∙ ap (λ n. first_of_them ((nat_le (u.freed + window n) h.tx.next, refusal.Full) ∷ (h.tx.next == 2 ^ 32 - 1, refusal.Exhausted) ∷ [])) tx.n
      ∙ ap (λ k. first_of_them ((nat_le (u.freed + window u.n) k, refusal.Full) ∷ (k == 2 ^ 32 - 1, refusal.Exhausted) ∷ [])) tx.next
      ∙ sym (due_is (at_terminal p id) ∙ ap due_seen (one_at p t is id h u x.1 x.2))

  report_is : (o : Option TerminalHalf) → held id t.halves ≡ o → (reported_there c t id o).1.answer ≡ first_of_them ((is_none (at_terminal p id), refusal.NoBearer) ∷ [])
  report_is None at = sym (ap (λ b. first_of_them ((b, refusal.NoBearer) ∷ [])) (none_seen (at_terminal p id) ∙ ap is_none (none_at p t is id at)))
  report_is (Some h) at =
      let x = present_at c (seen p) t is id h at in
      sym (ap (λ b. first_of_them ((b, refusal.NoBearer) ∷ [])) (none_seen (at_terminal p id) ∙ ap is_none (one_at p t is id h x.0 x.1 x.2)))

failure_is : (t : TerminalNode) (o : Option Node) → (scg_fails t o).1.answer ≡ first_of_them ((is_none o, refusal.NoSecondary) ∷ [])
failure_is t None = refl
failure_is t (Some x) = refl

-- ---- an event

answer_is : (c : Choices) (w : World) (p : Past) (e : Event) → AddsSecond e → Holds p w → terminal_is_answered p (world_step c w e).1 ≡ true
answer_is c w p (event.Submit id Ul payload) names h =
    let done = submitted_there c w.terminal id payload (held id w.terminal.halves) in
    same_answer done.1.answer (submission_due (at_terminal p id)) (submission_is c p w.terminal h.up id payload (held id w.terminal.halves) refl)
answer_is c w p (event.Submit id Dl payload) names h = refl
answer_is c w p (event.Report T id) names h =
    let done = reported_there c w.terminal id (held id w.terminal.halves) in
    same_answer done.1.answer (first_of_them ((is_none (at_terminal p id), refusal.NoBearer) ∷ [])) (report_is c p w.terminal h.up id (held id w.terminal.halves) refl)
answer_is c w p (event.Report M id) names h = refl
answer_is c w p (event.Report A id) names h = refl
answer_is c w p (event.Report B id) names h = refl
answer_is c w p event.ScgFail names h =
    let done = scg_fails w.terminal w.terminal.sec in
    same_answer done.1.answer (first_of_them ((is_none p.seen, refusal.NoSecondary) ∷ []))
    (failure_is w.terminal w.terminal.sec ∙ ap (λ o. first_of_them ((is_none o, refusal.NoSecondary) ∷ [])) (sym h.up.sec))
answer_is c w p (event.Bearer id n first shape threshold policy) names h = refl
answer_is c w p (event.Reshape id shape) names h = refl
answer_is c w p (event.Remove id) names h = refl
answer_is c w p (event.Add x) names h = refl
answer_is c w p event.Change names h = refl
answer_is c w p event.Release names h = refl
answer_is c w p event.RekeySecond names h = refl
answer_is c w p (event.RekeyMaster root) names h = refl
answer_is c w p (event.Recover id) names h = refl
answer_is c w p (event.Deny x on) names h = refl
answer_is c w p (event.Ask x what) names h = refl
answer_is c w p (event.Step l i) names h = refl
answer_is c w p (event.Lose l i) names h = refl
answer_is c w p (event.Again l i) names h = refl

all_near : (bs : List Bearer) → AllByRecursion IsNear (map uplink_of bs) → list_all (λ b. nat_le (next_count Ul b) (b.up.freed + window b.n)) bs ≡ true
all_near [] all = refl
all_near (b ∷ bs) all = let here = le-leb (next_count Ul b) (b.up.freed + window b.n) all.0 in rw here (all_near bs all.1)

-- after each event of any run the next COUNT of each uplink is at most a window past its last `freed` line
pub uplinks_near : (c : Choices) (h : Header) (policies : ℕ) (es : List Event) → AllByRecursion AddsSecond es
    → Each (of_entries (λ p x q. uplinks_are_near q)) (new_past h policies) (entries_from c (new_world h) es)
uplinks_near c h policies es names =
    each_if c (of_entries (λ p x q. uplinks_are_near q)) AddsSecond Holds (λ w p e name holds. none_said (judged e (world_step c w e).1.answer p) (world_step c w e).1.lines)
    (λ w p e name holds. let q = after p (world_step c w e).1 in all_near q.bearers (holds_next c w p e name holds).up.near) (holds_next c)
    es names (new_world h) (new_past h policies) (holds_new c h policies)

-- each event of the terminal is answered as it is due: an uplink submission is refused where the terminal has no such bearer, its
-- window is full or its COUNTs are used up; a status report where it has no such bearer; and a failure of the secondary cell group
-- where the last plan that it took has no secondary node
pub terminal_answered : (c : Choices) (h : Header) (policies : ℕ) (es : List Event) → AllByRecursion AddsSecond es
    → Each (of_entries (λ p x q. terminal_is_answered p x)) (new_past h policies) (entries_from c (new_world h) es)
terminal_answered c h policies es names =
    each_if c (of_entries (λ p x q. terminal_is_answered p x)) AddsSecond Holds (λ w p e name holds. none_said (judged e (world_step c w e).1.answer p) (world_step c w e).1.lines) (answer_is c) (holds_next c)
    es names (new_world h) (new_past h policies) (holds_new c h policies)
