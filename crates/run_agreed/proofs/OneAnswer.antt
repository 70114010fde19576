-- Where a secondary node agrees, at most one record on its link to the master answers what is asked for.
use Rattle.std.proofs.Common.{ℕ, ◌≡◌, ◌||◌, Bool, true, false, List, [], ◌∷◌, Some, refl, sym, ap, subst, ◌∙◌}
use Rattle.std.specs.List.{AllByRecursion, list_any}
use Rattle.std.specs.Prelude.{filter, if◌then◌else◌}
use Rattle.dc_base.specs.Nodes.{is_same_node}
use Rattle.dc_base.specs.declared.nodes.Node.{Node}
use Rattle.dc_base.specs.declared.records.Plan.{Plan}
use Rattle.dc_base.specs.declared.records.Rec.{Rec}
use Rattle.node_rules.specs.declared.commands.Change.{Change}
use Rattle.node_rules.specs.declared.commands.Command.TheVariants.{Asked as asked}
use Rattle.node_rules.specs.declared.commands.First.{First}
use Rattle.run_control.specs.Claims.{AreAnswers, IsStandOf, Stand, agrees as agreeing, asks, goes_on, is_agreement, is_rejection, refuses as refusing, rests as resting}
use Rattle.run_agreed.specs.Expected.{IsAwaited}
use Rattle.run_agreed.specs.Lines.{spoken}
use Rattle.run_agreed.proofs.AnswerKinds.{AnswersNone, answer_of, answers_said, is_answering}
use Rattle.run_agreed.proofs.AskedRequests.{filter_spoken, one_first}

-- ---- at most one

or_none : (a b : Bool) → (a || b) ≡ false → (a ≡ false) × (b ≡ false)
or_none true b is = let bad : true ≡ false = is in absurd (cc bad)
or_none false b is = (refl, is)

without_first : (a b : Rec → Bool) (rs : List Rec) → list_any a rs ≡ false → filter (λ r. a r || b r) rs ≡ filter b rs
without_first a b [] none = refl
without_first a b (r ∷ rs) none =
    let two = or_none (a r) (list_any a rs) none in
    ap (λ d. if d || b r then r ∷ filter (λ q. a q || b q) rs else filter (λ q. a q || b q) rs) two.0 ∙ ap (λ xs. if b r then r ∷ xs else xs) (without_first a b rs two.1)

without_second : (a b : Rec → Bool) (rs : List Rec) → list_any b rs ≡ false → filter (λ r. a r || b r) rs ≡ filter a rs
without_second a b [] none = refl
without_second a b (r ∷ rs) none =
    let two = or_none (b r) (list_any b rs) none in
    ap (λ d. if a r || d then r ∷ filter (λ q. a q || b q) rs else filter (λ q. a q || b q) rs) two.0
    ∙ ap (λ d. if d then r ∷ filter (λ q. a q || b q) rs else filter (λ q. a q || b q) rs) (or_false (a r)) ∙ ap (λ xs. if a r then r ∷ xs else xs) (without_second a b rs two.1)
  where
    or_false : (d : Bool) → (d || false) ≡ d
    or_false true = refl
    or_false false = refl

filter_none : (a : Rec → Bool) (rs : List Rec) → list_any a rs ≡ false → filter a rs ≡ []
filter_none a [] none = refl
filter_none a (r ∷ rs) none = let two = or_none (a r) (list_any a rs) none in ap (λ d. if d then r ∷ filter a rs else filter a rs) two.0 ∙ filter_none a rs two.1

-- of a generation that is asked for at most one answer is on the line
data IsOneAtMost (rs : List Rec) : Type 0 where
  no_one : (is : rs ≡ []) → IsOneAtMost rs
  only_one : (r : Rec) → (is : rs ≡ r ∷ []) → IsOneAtMost rs

abbrev pub answer_in : ℕ → Rec → Bool
answer_in g r = is_agreement g r || is_rejection g r

at_most_one : (x : Node) (c : Change) (first : First) (who : Node) (wanted : Bool) (stand : Stand) (up : List Rec) → is_same_node x who ≡ true → IsStandOf x (Some (asked c first who wanted)) stand → AreAnswers stand up
    → IsOneAtMost (filter (answer_in c.plan.g) up)
at_most_one x c first who wanted resting up same stands answers = let bad : true ≡ false = sym same ∙ stands in absurd (cc bad)
at_most_one x c first who wanted (asks f p) up same stands answers =
    subst (λ (q : Plan). IsOneAtMost (filter (answer_in q.g) up)) stands.2 (no_one (without_first (is_agreement p.g) (is_rejection p.g) up answers.0 ∙ filter_none (is_rejection p.g) up answers.1))
at_most_one x c first who wanted (refusing f p) up same stands answers =
    subst (λ (q : Plan). IsOneAtMost (filter (answer_in q.g) up)) stands.2 (only_one answers.1.0 (without_first (is_agreement p.g) (is_rejection p.g) up answers.0 ∙ answers.1.1))
at_most_one x c first who wanted (agreeing f p) up same stands answers =
    subst (λ (q : Plan). IsOneAtMost (filter (answer_in q.g) up)) stands.2 (only_one answers.0.0 (without_second (is_agreement p.g) (is_rejection p.g) up answers.1 ∙ answers.0.1))
at_most_one x c first who wanted (goes_on leaves) up same stands answers = absurd stands

one_gone : (r : Rec) (rs : List Rec) → IsOneAtMost (r ∷ rs) → rs ≡ []
one_gone r rs (no_one is) = absurd cc
one_gone r rs (only_one q is) = (one_first r q rs [] is).1

-- where the first answers, none of the rest does
none_left : (x : Node) (c : Change) (first : First) (who : Node) (wanted : Bool) (rest : List Rec) → AllByRecursion (IsAwaited x (Some (asked c first who wanted))) rest → filter (answer_in c.plan.g) rest ≡ [] → AnswersNone rest
none_left x c first who wanted [] all none = tt
none_left x c first who wanted (r ∷ rs) all none = (by (is_answering r) refl, none_left x c first who wanted rs all.1 (tail none))
  where
    cons_none : (b : Bool) → (if b then r ∷ filter (answer_in c.plan.g) rs else filter (answer_in c.plan.g) rs) ≡ [] → (b ≡ false) × (filter (answer_in c.plan.g) rs ≡ [])
    cons_none true is = absurd cc
    cons_none false is = (refl, is)

    tail : filter (answer_in c.plan.g) (r ∷ rs) ≡ [] → filter (answer_in c.plan.g) rs ≡ []
    tail is = (cons_none (answer_in c.plan.g r) is).1

    by : (b : Bool) → is_answering r ≡ b → is_answering r ≡ false
    by false is = is
    by true is = let bad : true ≡ false = sym (answer_of x c first who wanted r is all.0) ∙ (cons_none (answer_in c.plan.g r) none).0 in absurd (cc bad)

pub rest_none : (x : Node) (c : Change) (first : First) (who : Node) (wanted : Bool) (stand : Stand) (up : List Rec) (r : Rec) (rest : List Rec) → is_same_node x who ≡ true → IsStandOf x (Some (asked c first who wanted)) stand → AreAnswers stand up
    → spoken up ≡ r ∷ rest → answer_in c.plan.g r ≡ true → AllByRecursion (IsAwaited x (Some (asked c first who wanted))) rest → AnswersNone rest
rest_none x c first who wanted stand up r rest same stands answers front answers_it all =
    let t = answer_in c.plan.g in
    let line : filter t up ≡ r ∷ filter t rest = sym (filter_spoken t (answers_said c.plan.g) up) ∙ ap (filter t) front ∙ ap (λ b. if b then r ∷ filter t rest else filter t rest) answers_it in
    none_left x c first who wanted rest all (one_gone r (filter t rest) (subst IsOneAtMost line (at_most_one x c first who wanted stand up same stands answers)))
