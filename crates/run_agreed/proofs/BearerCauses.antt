-- In each run the commands on bearers, and the downlink submissions, are answered as it is due.
use Rattle.std.proofs.Common.{ℕ, ◌≡◌, ◌==◌, ◌&&◌, ◌||◌, Bool, true, false, List, [], ◌∷◌, Option, Some, None, refl, sym, ap, subst, ◌∙◌, inl, inr, length}
use Rattle.std.specs.List.{AllByRecursion, find, list_any}
use Rattle.std.specs.Option.{option_map}
use Rattle.std.specs.Prelude.{bytes_eq, if◌then◌else◌, is_none, is_some, map, nat_le, not}
use Rattle.std.proofs.lemmas.Bool.{cases_Bool, eq-eqb}
use Rattle.dc_base.specs.Nodes.{is_mm, is_secondary}
use Rattle.dc_base.specs.declared.answers.Answer.{Answer}
use Rattle.dc_base.specs.declared.answers.Answer.TheVariants as answer
use Rattle.dc_base.specs.declared.answers.Refusal.{Refusal}
use Rattle.dc_base.specs.declared.answers.Refusal.TheVariants as refusal
use Rattle.dc_base.specs.declared.events.Event.{Event}
use Rattle.dc_base.specs.declared.events.Event.TheVariants as event
use Rattle.dc_base.specs.declared.events.Header.{Header}
use Rattle.dc_base.specs.declared.nodes.Cell.TheVariants as cell
use Rattle.dc_base.specs.declared.nodes.Dir.TheVariants.{Dl, Ul}
use Rattle.dc_base.specs.declared.nodes.LegSet.{LegSet}
use Rattle.dc_base.specs.declared.nodes.LegSet.TheVariants.{Mcg, Scg, Split}
use Rattle.dc_base.specs.declared.nodes.Node.{Node}
use Rattle.dc_base.specs.declared.nodes.Shape.{Shape}
use Rattle.transcript.specs.Transcript.{Entry}
use Rattle.transcript.specs.Words.{shape_word}
use Rattle.claims.specs.Causes.{at_master, first_of_them, has_shape, lacks_second, has_cause}
use Rattle.claims.specs.Claim.{Each, of_entries}
use Rattle.claims.specs.Drafts.{spends}
use Rattle.claims.specs.Judged.{judged}
use Rattle.claims.specs.Names.{cause, claim}
use Rattle.claims.specs.Noted.{after}
use Rattle.claims.specs.Past.{Bearer, Past, new_past}
use Rattle.claims.specs.Reading as reading
use Rattle.claims.specs.Sameness.{answer_number, is_same_answer, is_some_and, kept_if, shape_number}
use Rattle.claims.specs.Table as claims
use Rattle.node_rules.specs.Choices.{Choices}
use Rattle.node_rules.specs.CommandTable.{row}
use Rattle.node_rules.specs.MasterCommands.{is_alone, is_same_shape, spends_identity}
use Rattle.node_rules.specs.MasterState.{MasterProc, has_bearer, is_unsettled, is_unsettled_by}
use Rattle.node_rules.specs.MasterStep.{settled_row, submitted}
use Rattle.node_rules.specs.Run.{entries_from, world_step}
use Rattle.node_rules.specs.World.{World, new_world}
use Rattle.node_rules.specs.declared.commands.Command.{Command}
use Rattle.node_rules.specs.declared.commands.Command.TheVariants.{Asked as asked, Gone as gone}
use Rattle.node_rules.specs.declared.commands.Row.{Row}
use Rattle.run_control.specs.Sound.{AddsSecond}
use Rattle.run_control.proofs.TalkRuns.{event_kept, new_kept}
use Rattle.run_control.proofs.TalkSteps.{IsKept}
use Rattle.run_table.specs.SameTable.{row_of}
use Rattle.run_table.proofs.Causes.{busy, caused, none_there}
use Rattle.run_table.proofs.Drafting.{IsDrawable}
use Rattle.run_table.proofs.Runs.{Lasts, lasts_new, lasts_next}
use Rattle.run_table.proofs.Spent.{same_spent}
use Rattle.run_words.specs.Parts.{at_events}
use Rattle.run_words.proofs.Runs.{each_if, none_said}
use Rattle.run_windows.specs.Answers.{submission_due, unless_dropped}
use Rattle.run_windows.specs.Fits.{Fits, IsNoneOrOut, absent, awaited, set_up, there}
use Rattle.run_windows.specs.Seen.{Count, Face, latest, seen, seen_of}
use Rattle.run_windows.proofs.Answering.{Holds, answer_is, holds_new, holds_next, latest_is}
use Rattle.run_windows.proofs.Commands.{none_of}
use Rattle.run_windows.proofs.Latest.{some_is}
use Rattle.run_agreed.specs.BearerCauses.{is_bearer_command, submission_has_answer}
use Rattle.run_agreed.specs.Dropped.{DropsGoOn, IsGoneOrGoing, is_dropped_at, is_dropped_in, is_going, is_gone}
use Rattle.run_agreed.specs.Drops.{DropStands}
use Rattle.run_agreed.specs.Lines.{pair_at}
use Rattle.run_agreed.proofs.Dropped.{drops_new, drops_next}
use Rattle.run_agreed.proofs.Drops.{drop_step, new_stands}
use Rattle.run_agreed.proofs.PairRuns.{event_pair}
use Rattle.run_agreed.proofs.Policies.{after_policies}

-- ---- shapes have the same number where they have the same word

abbrev shapes : List Shape
shapes =
    record { at_second = false; legs = Mcg; dup = false }
    ∷ record { at_second = false; legs = Mcg; dup = true }
    ∷ record { at_second = false; legs = Scg; dup = false }
    ∷ record { at_second = false; legs = Scg; dup = true }
    ∷ record { at_second = false; legs = Split cell.Mcg; dup = false }
    ∷ record { at_second = false; legs = Split cell.Mcg; dup = true }
    ∷ record { at_second = false; legs = Split cell.Scg; dup = false }
    ∷ record { at_second = false; legs = Split cell.Scg; dup = true }
    ∷ record { at_second = true; legs = Mcg; dup = false }
    ∷ record { at_second = true; legs = Mcg; dup = true }
    ∷ record { at_second = true; legs = Scg; dup = false }
    ∷ record { at_second = true; legs = Scg; dup = true }
    ∷ record { at_second = true; legs = Split cell.Mcg; dup = false }
    ∷ record { at_second = true; legs = Split cell.Mcg; dup = true }
    ∷ record { at_second = true; legs = Split cell.Scg; dup = false }
    ∷ record { at_second = true; legs = Split cell.Scg; dup = true } ∷ []

each_of : (P : Shape → Type 0) → AllByRecursion P shapes → (second : Bool) (legs : LegSet) (dup : Bool) → P (record { at_second = second; legs = legs; dup = dup })
each_of P all false Mcg false = all.0
each_of P all false Mcg true = all.1.0
each_of P all false Scg false = all.1.1.0
each_of P all false Scg true = all.1.1.1.0
each_of P all false (Split cell.Mcg) false = all.1.1.1.1.0
each_of P all false (Split cell.Mcg) true = all.1.1.1.1.1.0
each_of P all false (Split cell.Scg) false = all.1.1.1.1.1.1.0
each_of P all false (Split cell.Scg) true = all.1.1.1.1.1.1.1.0
each_of P all true Mcg false = all.1.1.1.1.1.1.1.1.0
each_of P all true Mcg true = all.1.1.1.1.1.1.1.1.1.0
each_of P all true Scg false = all.1.1.1.1.1.1.1.1.1.1.0
each_of P all true Scg true = all.1.1.1.1.1.1.1.1.1.1.1.0
each_of P all true (Split cell.Mcg) false = all.1.1.1.1.1.1.1.1.1.1.1.1.0
each_of P all true (Split cell.Mcg) true = all.1.1.1.1.1.1.1.1.1.1.1.1.1.0
each_of P all true (Split cell.Scg) false = all.1.1.1.1.1.1.1.1.1.1.1.1.1.1.0
each_of P all true (Split cell.Scg) true = all.1.1.1.1.1.1.1.1.1.1.1.1.1.1.1.0

each_shape : (P : Shape → Type 0) → AllByRecursion P shapes → (s : Shape) → P s
each_shape P all s = each_of P all s.at_second s.legs s.dup

abbrev IsSame : Shape → Shape → Type 0
IsSame a b = (shape_number a == shape_number b) ≡ bytes_eq (shape_word a) (shape_word b)

shape_same : (a b : Shape) → IsSame a b
shape_same = each_shape (λ a. (b : Shape) → IsSame a b)
    (each_shape (IsSame (record { at_second = false; legs = Mcg; dup = false })) (refl, (refl, (refl, (refl, (refl, (refl, (refl, (refl, (refl, (refl, (refl, (refl, (refl, (refl, (refl, (refl, tt)))))))))))))))), (each_shape (IsSame (record { at_second = false; legs = Mcg; dup = true })) (refl, (refl, (refl, (refl, (refl, (refl, (refl, (refl, (refl, (refl, (refl, (refl, (refl, (refl, (refl, (refl, tt)))))))))))))))), (each_shape (IsSame (record { at_second = false; legs = Scg; dup = false })) (refl, (refl, (refl, (refl, (refl, (refl, (refl, (refl, (refl, (refl, (refl, (refl, (refl, (refl, (refl, (refl, tt)))))))))))))))), (each_shape (IsSame (record { at_second = false; legs = Scg; dup = true })) (refl, (refl, (refl, (refl, (refl, (refl, (refl, (refl, (refl, (refl, (refl, (refl, (refl, (refl, (refl, (refl, tt)))))))))))))))), (each_shape (IsSame (record { at_second = false; legs = Split cell.Mcg; dup = false })) (refl, (refl, (refl, (refl, (refl, (refl, (refl, (refl, (refl, (refl, (refl, (refl, (refl, (refl, (refl, (refl, tt)))))))))))))))), (each_shape (IsSame (record { at_second = false; legs = Split cell.Mcg; dup = true })) (refl, (refl, (refl, (refl, (refl, (refl, (refl, (refl, (refl, (refl, (refl, (refl, (refl, (refl, (refl, (refl, tt)))))))))))))))), (each_shape (IsSame (record { at_second = false; legs = Split cell.Scg; dup = false })) (refl, (refl, (refl, (refl, (refl, (refl, (refl, (refl, (refl, (refl, (refl, (refl, (refl, (refl, (refl, (refl, tt)))))))))))))))), (each_shape (IsSame (record { at_second = false; legs = Split cell.Scg; dup = true })) (refl, (refl, (refl, (refl, (refl, (refl, (refl, (refl, (refl, (refl, (refl, (refl, (refl, (refl, (refl, (refl, tt)))))))))))))))), (each_shape (IsSame (record { at_second = true; legs = Mcg; dup = false })) (refl, (refl, (refl, (refl, (refl, (refl, (refl, (refl, (refl, (refl, (refl, (refl, (refl, (refl, (refl, (refl, tt)))))))))))))))), (each_shape (IsSame (record { at_second = true; legs = Mcg; dup = true })) (refl, (refl, (refl, (refl, (refl, (refl, (refl, (refl, (refl, (refl, (refl, (refl, (refl, (refl, (refl, (refl, tt)))))))))))))))), (each_shape (IsSame (record { at_second = true; legs = Scg; dup = false })) (refl, (refl, (refl, (refl, (refl, (refl, (refl, (refl, (refl, (refl, (refl, (refl, (refl, (refl, (refl, (refl, tt)))))))))))))))), (each_shape (IsSame (record { at_second = true; legs = Scg; dup = true })) (refl, (refl, (refl, (refl, (refl, (refl, (refl, (refl, (refl, (refl, (refl, (refl, (refl, (refl, (refl, (refl, tt)))))))))))))))), (each_shape (IsSame (record { at_second = true; legs = Split cell.Mcg; dup = false })) (refl, (refl, (refl, (refl, (refl, (refl, (refl, (refl, (refl, (refl, (refl, (refl, (refl, (refl, (refl, (refl, tt)))))))))))))))), (each_shape (IsSame (record { at_second = true; legs = Split cell.Mcg; dup = true })) (refl, (refl, (refl, (refl, (refl, (refl, (refl, (refl, (refl, (refl, (refl, (refl, (refl, (refl, (refl, (refl, tt)))))))))))))))), (each_shape (IsSame (record { at_second = true; legs = Split cell.Scg; dup = false })) (refl, (refl, (refl, (refl, (refl, (refl, (refl, (refl, (refl, (refl, (refl, (refl, (refl, (refl, (refl, (refl, tt)))))))))))))))), (each_shape (IsSame (record { at_second = true; legs = Split cell.Scg; dup = true })) (refl, (refl, (refl, (refl, (refl, (refl, (refl, (refl, (refl, (refl, (refl, (refl, (refl, (refl, (refl, (refl, tt)))))))))))))))), tt))))))))))))))))

-- ---- conditions

there_refusal : (b b' : Bool) (x : Refusal) (xs ys : List (Bool × Refusal)) → b ≡ b' → (b' ≡ false → first_of_them xs ≡ first_of_them ys) → first_of_them ((b, x) ∷ xs) ≡ first_of_them ((b', x) ∷ ys)
there_refusal b true x xs ys same rest = ap (λ k. first_of_them ((k, x) ∷ xs)) same
there_refusal b false x xs ys same rest = ap (λ k. first_of_them ((k, x) ∷ xs)) same ∙ rest refl

next_refusal : (b b' : Bool) (x : Refusal) (xs ys : List (Bool × Refusal)) → b ≡ b' → first_of_them xs ≡ first_of_them ys → first_of_them ((b, x) ∷ xs) ≡ first_of_them ((b', x) ∷ ys)
next_refusal b b' x xs ys same rest = there_refusal b b' x xs ys same (λ none. rest)

swap : (a b : Bool) → (a && b) ≡ (b && a)
swap true true = refl
swap true false = refl
swap false true = refl
swap false false = refl

pub none_some : {X : Type 0} (o : Option X) → is_none o ≡ not (is_some o)
none_some None = refl
none_some (Some x) = refl

found_row : (id : ℕ) (rows : List Row) → find (λ (r : claims.Row). r.id == id) (map row_of rows) ≡ option_map row_of (find (λ (r : Row). r.id == id) rows)
found_row id [] = refl
found_row id (r ∷ rows) = elim (cases_Bool (r.id == id)) [ inl here ↦ rw here refl | inr apart ↦ rw apart (found_row id rows) ]

same_shape : (s : Shape) (o : Option Row) → is_some_and (λ (x : claims.Row). shape_number s == shape_number x.shape) (option_map row_of o) ≡ is_same_shape s o
same_shape s None = refl
same_shape s (Some r) = shape_same s r.shape

-- ---- what holds in a run

pub record AllHold (c : Choices) (p : Past) (w : World) : Type 0 where
  pub table : Lasts p w
  pub windows : Holds p w
  pub kept : IsKept w
  pub stands : (x : Node) → is_secondary x ≡ true → DropStands (pair_at x w)
  pub drops : DropsGoOn p w
  pub policies : p.policies ≡ length c.policies

pub hold_next : (c : Choices) (w : World) (p : Past) (e : Event) → AddsSecond e → AllHold c p w → AllHold c (after p (world_step c w e).1) (world_step c w e).0
hold_next c w p e names is = record {
  table = lasts_next c w p e names is.table;
  windows = holds_next c w p e is.windows;
  kept = event_kept c w e names is.kept;
  stands = λ x second. drop_step x second (pair_at x w) (pair_at x (world_step c w e).0) (is.stands x second) (event_pair c w e is.kept x second);
  drops = drops_next c w p is.kept is.stands is.drops e;
  policies = after_policies p (world_step c w e).1 ∙ is.policies;
}

pub hold_new : (c : Choices) (h : Header) → AllHold c (new_past h (length c.policies)) (new_world h)
hold_new c h = record {
  table = lasts_new h (length c.policies);
  windows = holds_new h (length c.policies);
  kept = new_kept h;
  stands = new_stands h;
  drops = drops_new h (length c.policies);
  policies = refl;
}

-- the answer of an event is the one that it is due, if it is such a command
abbrev bearer_command_has_cause : Past → Entry → Bool
bearer_command_has_cause p x = if is_bearer_command x.event then has_cause p x else true

module _ (c : Choices) (w : World) (p : Past) (is : AllHold c p w) where
  abbrev pub m : MasterProc
  m = w.master.proc

  -- ---- bearers at the master

  abbrev pub kept_there : Bearer → Bool
  kept_there b = b.is_done && not b.is_dropped

  not_open : (o : Option Command) (k : Command) → o ≡ None → o ≡ Some k → ⊥
  not_open o k none some' = let bad : None ≡ Some k = sym none ∙ some' in cc

  pub not_both : {X : Type 0} (o : Option X) (x : X) → o ≡ None → o ≡ Some x → ⊥
  not_both o x none some' = let bad : None ≡ Some x = sym none ∙ some' in cc

  pub and_false : (d : Bool) → (d && false) ≡ false
  and_false true = refl
  and_false false = refl

  pub out_of : (b : Bearer) → kept_there b ≡ false → is_some (kept_if kept_there (Some b)) ≡ false
  out_of b off = ap (λ d. is_some (if d then Some b else None)) off

  pub in_of : (b : Bearer) → kept_there b ≡ true → is_some (kept_if kept_there (Some b)) ≡ true
  in_of b on = ap (λ d. is_some (if d then Some b else None)) on

  module _ (id : ℕ) where
    pub seen_at : (o : Option Bearer) → reading.latest p id ≡ o → latest id (seen p).bearers ≡ option_map seen_of o
    seen_at o at = latest_is id p.bearers ∙ ap (option_map seen_of) at

    -- one that is out of the table
    pub absent_is : (o : Option Bearer) → reading.latest p id ≡ o → IsNoneOrOut (seen p).kind (latest id (seen p).bearers) → is_some (kept_if kept_there o) ≡ false
    absent_is None at out = refl
    absent_is (Some b) at out =
        out_of b (elim (subst (λ o. IsNoneOrOut (seen p).kind o) (seen_at (Some b) at) out) [
          | inl gone' ↦ ap (λ d. b.is_done && not d) gone' ∙ and_false b.is_done
          | inr never ↦ ap (λ d. d && not b.is_dropped) never.0
        ])

    -- one that was dropped is not in the table, where no command is open
    not_dropped : (r : Row) → m.command ≡ None → row m.table id ≡ Some r → is_dropped_at id (seen p).bearers ≡ true → ⊥
    not_dropped r free row_at dropped = by (is.drops id dropped)
      where
        by : IsGoneOrGoing id m → ⊥
        by (is_gone none unset) = not_both (row m.table id) r none row_at
        by (is_going ch f who wanted opened items) = not_open m.command (asked ch f who wanted) free opened

    there_is : (o : Option Bearer) → reading.latest p id ≡ o → m.command ≡ None → (y : Face × Count) → latest id (seen p).bearers ≡ Some y → y.0.is_done ≡ true → (r : Row) → row m.table id ≡ Some r
        → is_some (kept_if kept_there o) ≡ true
    there_is None at free y y_at done r row_at = absurd (not_both (latest id (seen p).bearers) y (seen_at None at) y_at)
    there_is (Some b) at free y y_at done r row_at =
        let same : seen_of b ≡ y = some_is (seen_of b) y (sym (seen_at (Some b) at) ∙ y_at) in
        let is_done : b.is_done ≡ true = ap (λ (z : Face × Count). z.0.is_done) same ∙ done in
        in_of b (ap (λ d. d && not b.is_dropped) is_done ∙ elim (cases_Bool b.is_dropped) [
          | inl dropped ↦ absurd (not_dropped r free row_at (ap is_dropped_in (seen_at (Some b) at) ∙ dropped))
          | inr kept' ↦ ap not kept'
        ])

    by_fits : (o : Option Bearer) → reading.latest p id ≡ o → m.command ≡ None → Fits (seen p) m id → is_some (kept_if kept_there o) ≡ is_some (row m.table id)
    by_fits o at free (absent none out) = absent_is o at out ∙ sym (ap is_some none)
    by_fits o at free (awaited y y_at none ch f who wanted opened sets new) = absurd (not_open m.command (asked ch f who wanted) free opened)
    by_fits o at free (set_up y y_at r row_at same plan going opened sets new) = absurd (not_open m.command (gone plan going) free opened)
    by_fits o at free (there y y_at r row_at same done settled) = there_is o at free y y_at done r row_at ∙ sym (ap is_some row_at)

    -- where no command is open, the bearers at the master are those of the table
    at_master_is : m.command ≡ None → is_some (at_master p id) ≡ has_bearer m id
    at_master_is free = by_fits (reading.latest p id) refl free (is.windows.fit.each id) ∙ sym (ap (λ o. is_some (row m.table id) && not (is_unsettled id o)) free ∙ and_true (is_some (row m.table id)))
      where
        and_true : (d : Bool) → (d && true) ≡ d
        and_true true = refl
        and_true false = refl

    no_master_is : m.command ≡ None → is_none (at_master p id) ≡ not (has_bearer m id)
    no_master_is free = none_some (at_master p id) ∙ ap not (at_master_is free)

  -- ---- causes

  lacks_is : (s : Shape) → lacks_second p s ≡ (not (is_mm s) && is_alone m)
  lacks_is s = swap (is_none p.table.sec) (not (is_mm s)) ∙ ap (λ d. not (is_mm s) && d) (none_there c w p is.table.agree)

  spends_is : (e : Event) → IsDrawable m.table.sec e → spends p.table e ≡ spends_identity m e
  spends_is e may = same_spent p.table m.table is.table.agree.same.rest is.table.agree.sound.claims e may is.table.agree.sound.placed.anchors

  shape_is : (id : ℕ) (s : Shape) → has_shape s (claims.row p.table id) ≡ is_same_shape s (row m.table id)
  shape_is id s =
      ap (λ (rows : List claims.Row). has_shape s (find (λ (r : claims.Row). r.id == id) rows)) is.table.agree.same.rest.rows
      ∙ ap (has_shape s) (found_row id m.table.rows) ∙ same_shape s (row m.table id)

  policies_are : (policy : ℕ) → nat_le p.policies policy ≡ nat_le (length c.policies) policy
  policies_are policy = ap (λ n. nat_le n policy) is.policies

  busy_or : (xs ys : List (Bool × Refusal)) → (m.command ≡ None → first_of_them xs ≡ first_of_them ys) → first_of_them ((is_some p.table.command, refusal.Busy) ∷ xs) ≡ first_of_them ((is_some m.command, refusal.Busy) ∷ ys)
  busy_or xs ys rest = there_refusal (is_some p.table.command) (is_some m.command) refusal.Busy xs ys (busy c w p is.table.agree) (λ none. rest (none_of m.command none))

  five : (b b' d d' e e' k k' : Bool) (x y z u : Refusal) → (m.command ≡ None → b ≡ b') → d ≡ d' → e ≡ e' → k ≡ k'
      → first_of_them ((is_some p.table.command, refusal.Busy) ∷ (b, x) ∷ (d, y) ∷ (e, z) ∷ (k, u) ∷ []) ≡ first_of_them ((is_some m.command, refusal.Busy) ∷ (b', x) ∷ (d', y) ∷ (e', z) ∷ (k', u) ∷ [])
  five b b' d d' e e' k k' x y z u is' is'' is3 is4 =
      busy_or ((b, x) ∷ (d, y) ∷ (e, z) ∷ (k, u) ∷ []) ((b', x) ∷ (d', y) ∷ (e', z) ∷ (k', u) ∷ []) (λ free.
      next_refusal b b' x ((d, y) ∷ (e, z) ∷ (k, u) ∷ []) ((d', y) ∷ (e', z) ∷ (k', u) ∷ []) (is' free)
      (next_refusal d d' y ((e, z) ∷ (k, u) ∷ []) ((e', z) ∷ (k', u) ∷ []) is''
      (next_refusal e e' z ((k, u) ∷ []) ((k', u) ∷ []) is3 (next_refusal k k' u [] [] is4 refl))))

  two : (b b' : Bool) (x : Refusal) → (m.command ≡ None → b ≡ b') → first_of_them ((is_some p.table.command, refusal.Busy) ∷ (b, x) ∷ []) ≡ first_of_them ((is_some m.command, refusal.Busy) ∷ (b', x) ∷ [])
  two b b' x is' = busy_or ((b, x) ∷ []) ((b', x) ∷ []) (λ free. next_refusal b b' x [] [] (is' free) refl)

  pub has_bearer_cause : (e : Event) → bearer_command_has_cause p (world_step c w e).1 ≡ true
  has_bearer_cause (event.Bearer id n first shape threshold policy) = caused c w p is.table.agree (event.Bearer id n first shape threshold policy)
      (five _ _ _ _ _ _ _ _ refusal.BearerThere refusal.NoSecondary refusal.NoPolicy refusal.IdSpent (at_master_is id) (lacks_is shape) (policies_are policy) (spends_is (event.Bearer id n first shape threshold policy) tt))
  has_bearer_cause (event.Reshape id shape) = caused c w p is.table.agree (event.Reshape id shape)
      (five _ _ _ _ _ _ _ _ refusal.NoBearer refusal.NoSecondary refusal.SameShape refusal.IdSpent (no_master_is id) (lacks_is shape) (shape_is id shape) (spends_is (event.Reshape id shape) tt))
  has_bearer_cause (event.Remove id) = caused c w p is.table.agree (event.Remove id) (two _ _ refusal.NoBearer (no_master_is id))
  has_bearer_cause (event.Add node) = refl
  has_bearer_cause event.Change = refl
  has_bearer_cause event.Release = refl
  has_bearer_cause event.RekeySecond = refl
  has_bearer_cause (event.RekeyMaster root) = refl
  has_bearer_cause (event.Recover id) = caused c w p is.table.agree (event.Recover id) (two _ _ refusal.NoBearer (no_master_is id))
  has_bearer_cause (event.Report node id) = refl
  has_bearer_cause (event.Deny node on) = refl
  has_bearer_cause (event.Ask node what) = refl
  has_bearer_cause event.ScgFail = refl
  has_bearer_cause (event.Submit id d payload) = refl
  has_bearer_cause (event.Step l i) = refl
  has_bearer_cause (event.Lose l i) = refl
  has_bearer_cause (event.Again l i) = refl

  -- ---- submissions

  answers_same : (a d : Answer) → a ≡ d → is_same_answer a d ≡ true
  answers_same a d same = eq-eqb (answer_number a) (answer_number d) (ap answer_number same)

  -- to a bearer that was dropped a submission is answered that there is none
  dropped_answer : (id : ℕ) (payload : List ℕ) → is_dropped_at id (seen p).bearers ≡ true → (submitted c w.master id payload (settled_row w.master id)).1.answer ≡ answer.No refusal.NoBearer
  dropped_answer id payload dropped = ap (λ o. (submitted c w.master id payload o).1.answer) (by (is.drops id dropped))
    where
      no_row : (d : Bool) → row m.table id ≡ None → (if d then None else row m.table id) ≡ None
      no_row true none = refl
      no_row false none = none

      by : IsGoneOrGoing id m → settled_row w.master id ≡ None
      by (is_gone none unset) = no_row (is_unsettled id m.command) none
      by (is_going ch f who wanted opened items) =
          ap (λ d. if d then None else row m.table id) (ap (is_unsettled id) opened ∙ ap (λ xs. list_any (is_unsettled_by id) xs) items ∙ ap (λ d. d || false) (eq-eqb id id refl))

  dropped_due : (o : Option Bearer) → is_dropped_in (option_map seen_of o) ≡ true → submission_due (kept_if kept_there o) ≡ answer.No refusal.NoBearer
  dropped_due None dropped = refl
  dropped_due (Some b) dropped = ap (λ d. submission_due (if d then Some b else None)) (ap (λ d. b.is_done && not d) dropped ∙ and_false b.is_done)

  submission_by : (id : ℕ) (payload : List ℕ) (o : Option Bearer) → reading.latest p id ≡ o → is_same_answer (submitted c w.master id payload (settled_row w.master id)).1.answer (submission_due (kept_if kept_there o)) ≡ true
  submission_by id payload None at =
      subst (λ o. unless_dropped o (is_same_answer (submitted c w.master id payload (settled_row w.master id)).1.answer (submission_due (kept_if kept_there o))) ≡ true) at (answer_is c w p (event.Submit id Dl payload) is.windows)
  submission_by id payload (Some b) at =
      elim (cases_Bool b.is_dropped) [
        | inl dropped ↦
            answers_same _ _ (dropped_answer id payload (ap is_dropped_in (seen_at id (Some b) at) ∙ dropped) ∙ sym (dropped_due (Some b) dropped))
        | inr kept' ↦
            let all = subst (λ o. unless_dropped o (is_same_answer (submitted c w.master id payload (settled_row w.master id)).1.answer (submission_due (kept_if kept_there o))) ≡ true) at (answer_is c w p (event.Submit id Dl payload) is.windows) in
            sym (ap (λ d. if d then true else is_same_answer (submitted c w.master id payload (settled_row w.master id)).1.answer (submission_due (kept_if kept_there (Some b)))) kept') ∙ all
      ]

  pub has_submission_answer : (e : Event) → submission_has_answer p (world_step c w e).1.answer e ≡ true
  has_submission_answer (event.Bearer id n first shape threshold policy) = refl
  has_submission_answer (event.Reshape id shape) = refl
  has_submission_answer (event.Remove id) = refl
  has_submission_answer (event.Add node) = refl
  has_submission_answer event.Change = refl
  has_submission_answer event.Release = refl
  has_submission_answer event.RekeySecond = refl
  has_submission_answer (event.RekeyMaster root) = refl
  has_submission_answer (event.Recover id) = refl
  has_submission_answer (event.Report node id) = refl
  has_submission_answer (event.Deny node on) = refl
  has_submission_answer (event.Ask node what) = refl
  has_submission_answer event.ScgFail = refl
  has_submission_answer (event.Submit id Dl payload) = submission_by id payload (reading.latest p id) refl
  has_submission_answer (event.Submit id Ul payload) = refl
  has_submission_answer (event.Step l i) = refl
  has_submission_answer (event.Lose l i) = refl
  has_submission_answer (event.Again l i) = refl

-- each setting up, change of shape, drop and recovery of a bearer is answered as it is due, in a run with so many policies
pub bearer_causes_hold : (c : Choices) (h : Header) (es : List Event) → AllByRecursion AddsSecond es
    → Each (at_events is_bearer_command (claim cause)) (new_past h (length c.policies)) (entries_from c (new_world h) es)
bearer_causes_hold c h es names =
    each_if c (at_events is_bearer_command (claim cause)) AddsSecond (AllHold c)
    (λ w p e name l. none_said (judged e (world_step c w e).1.answer p) (world_step c w e).1.lines) (λ w p e name l. has_bearer_cause c w p l e) (λ w p e name l. hold_next c w p e name l)
    es names (new_world h) (new_past h (length c.policies)) (hold_new c h)

-- each downlink submission is answered as it is due: a bearer that is done and not dropped takes it, unless its window is full or its
-- COUNTs are used up, and no other one does
pub submissions_have_answers : (c : Choices) (h : Header) (es : List Event) → AllByRecursion AddsSecond es
    → Each (of_entries (λ p x q. submission_has_answer p x.answer x.event)) (new_past h (length c.policies)) (entries_from c (new_world h) es)
submissions_have_answers c h es names =
    each_if c (of_entries (λ p x q. submission_has_answer p x.answer x.event)) AddsSecond (AllHold c)
    (λ w p e name l. none_said (judged e (world_step c w e).1.answer p) (world_step c w e).1.lines) (λ w p e name l. has_submission_answer c w p l e) (λ w p e name l. hold_next c w p e name l)
    es names (new_world h) (new_past h (length c.policies)) (hold_new c h)
