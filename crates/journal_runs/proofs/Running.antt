-- The run of the script of merged journals says what the journals say.
use Rattle.std.proofs.Common.{List, [], ap, false, inl, inr, refl, subst, sym, true, ℕ, ◌++◌, ◌==◌, ◌∙◌, ◌∷◌, ◌≡◌}
use Rattle.std.proofs.lemmas.Bool.{cases_Bool, eq-eqb, eqb-true, ne_eqb}
use Rattle.std.specs.List.{AllByRecursion}
use Rattle.std.specs.Prelude.{map}
use Rattle.dc_base.specs.Nodes.{is_same_node, node_number}
use Rattle.dc_base.specs.declared.events.Header.{Header}
use Rattle.dc_base.specs.declared.nodes.Node.{Node}
use Rattle.journal_runs.proofs.SameLink.{node_is}
use Rattle.journal_runs.proofs.Standing.{Stood, stands_of, stood_new, stood_next}
use Rattle.journal_runs.proofs.Steps.{Stands, entry_is, inputs_other, inputs_own, state_other, state_own}
use Rattle.journal_runs.specs.OwnSteps.{AreOwnSteps, MayTake, inputs_taken, own_inputs, own_step}
use Rattle.journal_runs.specs.Scripts.{IsRunOf, as_entry, event_of, script}
use Rattle.journals.proofs.Finding.{all_found, each_of}
use Rattle.journals.specs.Journals.{Legal, Stamped}
use Rattle.journals.specs.Merging.{Merged, Runs, Under, after, empty, of}
use Rattle.journals.specs.declared.entries.JournalEntry.{JournalEntry}
use Rattle.node_rules.specs.Choices.{Choices}
use Rattle.node_rules.specs.NodeRule.{NodeState}
use Rattle.node_rules.specs.Run.{entries_from, happening, input_of, inputs_of, node_at, world_after, world_step}
use Rattle.node_rules.specs.World.{World, new_world}
use Rattle.node_rules.specs.declared.inputs.Input.{Input}
use Rattle.transcript.specs.Transcript.{Entry}

-- the nodes' journals from here on are their own steps
abbrev Own : Choices → World → (Node → NodeState) → List (Node × JournalEntry) → Type 0
Own c w ends xs = (y : Node) → AreOwnSteps c y (node_at w y) (of (node_number y) xs) (ends y)

-- another node is another
apart : (n y : Node) → (node_number n == node_number y) ≡ false → is_same_node y n ≡ false
apart n y other = ne_eqb (node_number y) (node_number n) (λ e. let yes' : (node_number n == node_number y) ≡ true = eq-eqb (node_number n) (node_number y) (sym e) in absurd cc)

own_now : (c : Choices) (w : World) (ends : Node → NodeState) (n : Node) (e : JournalEntry) (xs : List (Node × JournalEntry)) → Own c w ends ((n, e) ∷ xs)
    → AreOwnSteps c n (node_at w n) (e ∷ of (node_number n) xs) (ends n)
own_now c w ends n e xs own = let same : (node_number n == node_number n) ≡ true = eq-eqb (node_number n) (node_number n) refl in rw same at (own n)

own_next : (c : Choices) (w : World) (ends : Node → NodeState) (n : Node) (e : JournalEntry) (xs : List (Node × JournalEntry)) → MayTake n e.what → Stands w n e.what
    → Own c w ends ((n, e) ∷ xs) → Own c (world_step c w (event_of e.what)).0 ends xs
own_next c w ends n e xs may stands own y =
    elim (cases_Bool (node_number n == node_number y)) [
      | inl here ↦
          let its : n ≡ y = node_is n y (eqb-true (node_number n) (node_number y) here) in
          subst (λ (z : Node). AreOwnSteps c z (node_at (world_step c w (event_of e.what)).0 z) (of (node_number z) xs) (ends z)) its
          (subst (λ (s : NodeState). AreOwnSteps c n s (of (node_number n) xs) (ends n)) (sym (state_own c w n e.what may stands)) (own_now c w ends n e xs own).2)
      | inr other ↦
          let h : AreOwnSteps c y (node_at w y) (of (node_number y) xs) (ends y) = rw other at (own y) in
          subst (λ (s : NodeState). AreOwnSteps c y s (of (node_number y) xs) (ends y)) (sym (state_other c w n y e.what may stands (apart n y other))) h
    ]

inputs_next : (c : Choices) (w : World) (n : Node) (e : JournalEntry) (xs : List (Node × JournalEntry)) (y : Node) (rest : List Input) → MayTake n e.what → Stands w n e.what
    → rest ≡ inputs_taken c (node_at (world_step c w (event_of e.what)).0 y) (of (node_number y) xs)
    → input_of y (happening w (event_of e.what)) ++ rest ≡ inputs_taken c (node_at w y) (of (node_number y) ((n, e) ∷ xs))
inputs_next c w n e xs y rest may stands is =
    elim (cases_Bool (node_number n == node_number y)) [
      | inl here ↦
          let its : n ≡ y = node_is n y (eqb-true (node_number n) (node_number y) here) in
          let own : input_of y (happening w (event_of e.what)) ≡ own_inputs c (node_at w y) e.what = subst (λ (z : Node). input_of z (happening w (event_of e.what)) ≡ own_inputs c (node_at w z) e.what) its (inputs_own c w n e.what may stands) in
          let state : node_at (world_step c w (event_of e.what)).0 y ≡ (own_step c (node_at w y) e.what).0 = subst (λ (z : Node). node_at (world_step c w (event_of e.what)).0 z ≡ (own_step c (node_at w z) e.what).0) its (state_own c w n e.what may stands) in
          rw here (
          ap (λ (l : List Input). l ++ rest) own
          ∙ (ap (λ (l : List Input). own_inputs c (node_at w y) e.what ++ l) is
          ∙ ap (λ (s : NodeState). own_inputs c (node_at w y) e.what ++ inputs_taken c s (of (node_number y) xs)) state))
      | inr other ↦
          let no' = apart n y other in
          rw other (
          ap (λ (l : List Input). l ++ rest) (inputs_other w n y e.what may stands no')
          ∙ (is ∙ ap (λ (s : NodeState). inputs_taken c s (of (node_number y) xs)) (state_other c w n y e.what may stands no')))
    ]

record Ran (c : Choices) (w : World) (ends : Node → NodeState) (xs : List (Node × JournalEntry)) : Type 0 where
  pub entries : entries_from c w (script xs) ≡ map (λ (x : Node × JournalEntry). as_entry x.1) xs
  pub inputs : (y : Node) → inputs_of c y w (script xs) ≡ inputs_taken c (node_at w y) (of (node_number y) xs)
  pub ends_are : (y : Node) → node_at (world_after c w (script xs)) y ≡ ends y

ran : (c : Choices) (ends : Node → NodeState) (xs : List (Node × JournalEntry)) (w : World) (under : Under) → Stood under w → Runs under xs
    → AllByRecursion (λ (x : Node × JournalEntry). Stamped (node_number x.0) x.1) xs → Own c w ends xs → Ran c w ends xs
ran c ends [] w under s runs stamped own = record { entries = refl; inputs = λ y. refl; ends_are = own }
ran c ends ((n, e) ∷ xs) w under s runs stamped own =
    let now = own_now c w ends n e xs own in
    let stands = stands_of under w n e.what s runs.0 in
    let v = (world_step c w (event_of e.what)).0 in
    let rest : Ran c v ends xs = ran c ends xs v (after under (n, e)) (stood_next c under w n e s runs.0 now.0 stamped.0 now.1) runs.1 stamped.1 (own_next c w ends n e xs now.0 stands own) in
    record {
      entries = ap (λ (x : Entry). x ∷ entries_from c v (script xs)) (entry_is c w n e now.0 stands now.1) ∙ ap (λ (l : List Entry). as_entry e ∷ l) rest.entries;
      inputs = λ y. inputs_next c w n e xs y (inputs_of c y v (script xs)) now.0 stands (rest.inputs y);
      ends_are = rest.ends_are;
    }

pub run_of : (c : Choices) (h : Header) (j : ℕ → List JournalEntry) (ends : Node → NodeState) (xs : List (Node × JournalEntry))
    → Legal j → ((n : Node) → AreOwnSteps c n (node_at (new_world h) n) (j (node_number n)) (ends n)) → Merged j xs → IsRunOf c h j ends xs
run_of c h j ends xs legal own is =
    let all = ran c ends xs (new_world h) empty (stood_new h) (all_found j xs legal is)
    (each_of Stamped xs (λ n. subst (AllByRecursion (Stamped n)) (sym (is.parts n)) (legal.stamped n)))
    (λ y. subst (λ (es : List JournalEntry). AreOwnSteps c y (node_at (new_world h) y) es (ends y)) (sym (is.parts (node_number y))) (own y)) in
    record {
      entries = all.entries;
      inputs = λ n. all.inputs n ∙ ap (inputs_taken c (node_at (new_world h) n)) (is.parts (node_number n));
      ends_are = all.ends_are;
    }
