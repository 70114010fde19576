-- The master answers its commands on secondary nodes and keys as it is due.
use Rattle.std.proofs.Common.{ℕ, ◌≡◌, ◌==◌, ◌&&◌, ◌||◌, Bool, true, List, [], ◌∷◌, Option, Some, None, refl, sym, ap, ap₂, ◌∙◌, inl, inr, arith}
use Rattle.std.specs.Prelude.{bytes_eq, if◌then◌else◌, is_none, is_some, length, nat_le, nat_lt, not, slice_index}
use Rattle.std.specs.List.{AllByRecursion, list_any}
use Rattle.std.proofs.lemmas.Bool.{cases_Bool, eq-eqb}
use Rattle.std.proofs.lemmas.Bool.Decides.{nat_tests}
use Rattle.dc_base.specs.declared.answers.Answer.{Answer}
use Rattle.dc_base.specs.declared.answers.Answer.TheVariants as answer
use Rattle.dc_base.specs.declared.answers.Refusal.{Refusal}
use Rattle.dc_base.specs.declared.answers.Refusal.TheVariants as refusal
use Rattle.dc_base.specs.declared.events.Event.{Event}
use Rattle.dc_base.specs.declared.events.Event.TheVariants as event
use Rattle.dc_base.specs.declared.events.Header.{Header}
use Rattle.dc_base.specs.declared.nodes.Node.{Node}
use Rattle.transcript.specs.Transcript.{Entry}
use Rattle.claims.specs.Causes.{due, first_of_them, has_cause}
use Rattle.claims.specs.Claim.{Each}
use Rattle.claims.specs.Judged.{judged}
use Rattle.claims.specs.Names.{cause, claim}
use Rattle.claims.specs.Past.{Past, new_past}
use Rattle.claims.specs.Sameness.{answer_number, is_same_answer, is_same_octets}
use Rattle.claims.specs.Table as claims
use Rattle.node_rules.specs.Acts.{first_refusal}
use Rattle.node_rules.specs.Choices.{Choices}
use Rattle.node_rules.specs.Master.{MasterNode}
use Rattle.node_rules.specs.MasterCommands.{command_refusals, commands_unless}
use Rattle.node_rules.specs.MasterState.{MasterProc}
use Rattle.node_rules.specs.MasterStep.{commanded}
use Rattle.node_rules.specs.Run.{entries_from, world_step}
use Rattle.node_rules.specs.World.{World, new_world}
use Rattle.node_rules.specs.declared.commands.Command.{Command}
use Rattle.node_rules.specs.declared.commands.Command.TheVariants.{Asked as asked, Gone as gone, Recovering as recovering}
use Rattle.run_control.specs.Sound.{AddsSecond}
use Rattle.run_table.specs.SameTable.{Agree, SameCommand}
use Rattle.run_table.specs.Commands.{is_key_command}
use Rattle.run_table.specs.View.{View, view}
use Rattle.run_table.proofs.Spent.{same_spent}
use Rattle.run_table.proofs.Runs.{Lasts, lasts_new, lasts_next}
use Rattle.run_words.specs.Parts.{at_events}
use Rattle.run_words.proofs.Runs.{each_if, none_said}

-- ---- answers

-- by a refusal that may be there
abbrev pub answer_by : Option Refusal → Answer
answer_by None = answer.Ok
answer_by (Some why) = answer.No why

commanded_answer : (c : Choices) (m : MasterNode) (e : Event) (o : Option Refusal) → (commanded c m (commands_unless m.proc e o)).1.answer ≡ answer_by o
commanded_answer c m e None = refl
commanded_answer c m e (Some why) = refl

first_is : (bs : List (Bool × Refusal)) → first_of_them bs ≡ answer_by (first_refusal bs)
first_is [] = refl
first_is ((holds, why) ∷ more) = elim (cases_Bool holds) [ inl yes' ↦ rw yes' refl | inr no' ↦ rw no' (first_is more) ]

same_answers : (a b : Answer) → a ≡ b → is_same_answer a b ≡ true
same_answers a b is = eq-eqb (answer_number a) (answer_number b) (ap answer_number is)

-- ---- conditions

busy_so : (v : View) (o : Option Command) (k : Option claims.Command) → SameCommand v o k → is_some k ≡ is_some o
busy_so v None None is = refl
busy_so v None (Some k) is = absurd is
busy_so v (Some (asked c first who wanted)) None is = absurd is
busy_so v (Some (asked c first who wanted)) (Some k) is = refl
busy_so v (Some (gone plan going)) None is = absurd is
busy_so v (Some (gone plan going)) (Some k) is = refl
busy_so v (Some (recovering id terminal second)) None is = absurd is
busy_so v (Some (recovering id terminal second)) (Some k) is = refl

there_so : (o : Option Node) → is_some o ≡ not (is_none o)
there_so None = refl
there_so (Some x) = refl

spent_so : (n : ℕ) → nat_le 65536 n ≡ nat_lt 65535 n
spent_so n = grind (arith, nat_tests)

octets_so : (xs ys : List ℕ) → is_same_octets xs ys ≡ bytes_eq xs ys
octets_so [] [] = refl
octets_so [] (y ∷ ys) = refl
octets_so (x ∷ xs) [] = refl
octets_so (x ∷ xs) (y ∷ ys) = ap (λ b. (x == y) && b) (octets_so xs ys)

noted_so : (root : List ℕ) (roots : List (List ℕ)) → list_any (is_same_octets root) roots ≡ list_any (bytes_eq root) roots
noted_so root [] = refl
noted_so root (r ∷ rs) = ap₂ (λ a b. a || b) (octets_so root r) (noted_so root rs)

-- ---- the claim on answers, of these commands

-- the answer of an event is the one that it is due, if it is such a command
abbrev key_command_has_cause : Past → Entry → Bool
key_command_has_cause p x = if is_key_command x.event then has_cause p x else true

module _ (c : Choices) (w : World) (p : Past) (agree : Agree (view p) w.master.proc) where
  abbrev m : MasterProc
  m = w.master.proc

  pub busy : is_some p.table.command ≡ is_some m.command
  busy = busy_so (view p) m.command p.table.command agree.same.command

  pub none_there : is_none p.table.sec ≡ is_none m.table.sec
  none_there = ap is_none agree.same.rest.sec

  one_there : is_some p.table.sec ≡ not (is_none m.table.sec)
  one_there = ap is_some agree.same.rest.sec ∙ there_so m.table.sec

  counters : nat_le 65536 (slice_index p.table.counters p.table.root) ≡ nat_lt 65535 (slice_index m.table.book.drawn m.table.book.current)
  counters = ap₂ (λ ds r. nat_le 65536 (slice_index ds r)) agree.same.rest.counters agree.same.rest.root ∙ spent_so (slice_index m.table.book.drawn m.table.book.current)

  -- three conditions that are the same
  three : (a a' b b' d d' : Bool) (x y z : Refusal) → a ≡ a' → b ≡ b' → d ≡ d' → first_of_them ((a, x) ∷ (b, y) ∷ (d, z) ∷ []) ≡ first_of_them ((a', x) ∷ (b', y) ∷ (d', z) ∷ [])
  three a a' b b' d d' x y z is is' is'' =
      ap (λ k. first_of_them ((k, x) ∷ (b, y) ∷ (d, z) ∷ [])) is ∙ ap (λ k. first_of_them ((a', x) ∷ (k, y) ∷ (d, z) ∷ [])) is'
      ∙ ap (λ k. first_of_them ((a', x) ∷ (b', y) ∷ (k, z) ∷ [])) is''

  two : (a a' b b' : Bool) (x y : Refusal) → a ≡ a' → b ≡ b' → first_of_them ((a, x) ∷ (b, y) ∷ []) ≡ first_of_them ((a', x) ∷ (b', y) ∷ [])
  two a a' b b' x y is is' = ap (λ k. first_of_them ((k, x) ∷ (b, y) ∷ [])) is ∙ ap (λ k. first_of_them ((a', x) ∷ (k, y) ∷ [])) is'

  -- the answer is by the refusals of the master, which are those of the claims
  pub caused : (e : Event) → due p e ≡ first_of_them (command_refusals (length c.policies) m e)
      → is_same_answer (commanded c w.master (commands_unless m e (first_refusal (command_refusals (length c.policies) m e)))).1.answer (due p e) ≡ true
  caused e is =
      let bs = command_refusals (length c.policies) m e in
      same_answers _ _ (commanded_answer c w.master e (first_refusal bs) ∙ sym (first_is bs) ∙ sym is)

  pub has_key_cause : (e : Event) → key_command_has_cause p (world_step c w e).1 ≡ true
  has_key_cause (event.Add node) = caused (event.Add node) (three _ _ _ _ _ _ refusal.Busy refusal.SecondaryThere refusal.CounterSpent busy one_there counters)
  has_key_cause event.Change = caused event.Change (three _ _ _ _ _ _ refusal.Busy refusal.NoSecondary refusal.CounterSpent busy none_there counters)
  has_key_cause event.Release =
      caused event.Release
      (three _ _ _ _ _ _ refusal.Busy refusal.NoSecondary refusal.IdSpent busy none_there
      (same_spent p.table m.table agree.same.rest agree.sound.claims event.Release tt agree.sound.placed.anchors))
  has_key_cause event.RekeySecond = caused event.RekeySecond (three _ _ _ _ _ _ refusal.Busy refusal.NoSecondary refusal.CounterSpent busy none_there counters)
  has_key_cause (event.RekeyMaster root) =
      caused (event.RekeyMaster root)
      (two _ _ _ _ refusal.Busy refusal.RootUsed busy (ap (λ rs. list_any (is_same_octets root) rs) agree.same.rest.roots ∙ noted_so root m.table.book.roots))
  has_key_cause (event.Bearer id n first shape threshold policy) = refl
  has_key_cause (event.Reshape id shape) = refl
  has_key_cause (event.Remove id) = refl
  has_key_cause (event.Recover id) = refl
  has_key_cause (event.Report x id) = refl
  has_key_cause (event.Deny x on) = refl
  has_key_cause (event.Ask x what) = refl
  has_key_cause event.ScgFail = refl
  has_key_cause (event.Submit id d sdu) = refl
  has_key_cause (event.Step l i) = refl
  has_key_cause (event.Lose l i) = refl
  has_key_cause (event.Again l i) = refl

-- each addition, change, release and new key of a run is answered as it is due: in each row the first refusal that holds, else
-- ok
pub key_causes_hold : (c : Choices) (h : Header) (policies : ℕ) (es : List Event) → AllByRecursion AddsSecond es
    → Each (at_events is_key_command (claim cause)) (new_past h policies) (entries_from c (new_world h) es)
key_causes_hold c h policies es names =
    each_if c (at_events is_key_command (claim cause)) AddsSecond Lasts
    (λ w p e name l. none_said (judged e (world_step c w e).1.answer p) (world_step c w e).1.lines) (λ w p e name l. has_key_cause c w p l.agree e) (λ w p e name l. lasts_next c w p e name l)
    es names (new_world h) (new_past h policies) (lasts_new h policies)
