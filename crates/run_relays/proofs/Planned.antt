-- What a plan that was drawn sets up at a node.
use Rattle.std.proofs.Common.{ℕ, ◌≡◌, ◌≤◌, ◌+◌, ◌==◌, false, List, [], ◌∷◌, Some, refl, arith, inl, inr}
use Rattle.std.specs.Prelude.{find, ⊤}
use Rattle.std.specs.List.{AllByRecursion}
use Rattle.std.proofs.lemmas.Bool.{cases_Bool, eq-eqb, ne_eqb}
use Rattle.dc_base.specs.Records.{item_id}
use Rattle.dc_base.specs.declared.nodes.Alg.{Alg}
use Rattle.dc_base.specs.declared.nodes.Node.{Node}
use Rattle.dc_base.specs.declared.records.Item.{Item}
use Rattle.dc_base.specs.declared.records.Item.TheVariants.{Set, Unset}
use Rattle.dc_base.specs.declared.records.Plan.{Plan}
use Rattle.transcript.proofs.OnEach.{each_weaker}
use Rattle.claims.specs.Reading.{sets}
use Rattle.node_rules.specs.Effects.{in_turn}
use Rattle.node_rules.specs.Parts.{host_at}
use Rattle.node_rules.specs.Places.{is_host_at}
use Rattle.node_rules.specs.Setup.{Setup, setup_of}
use Rattle.node_rules.specs.declared.acts.Act.{Act}
use Rattle.node_rules.specs.declared.acts.Act.TheVariants.{FailOne as fail_one, Go as go, Pass as pass, Prepare as prepare, RecoverOne as recover_one, Say as say, Send as send, UnlockAll as unlock_all}
use Rattle.node_rules.specs.declared.inputs.Effects.{Effects}
use Rattle.run_senders.specs.Holders.{IfThere}
use Rattle.run_table.specs.View.{planned}
use Rattle.run_relays.specs.Pdus.{Ascend}
use Rattle.run_relays.specs.Setups.{HostOf, IsHostOfPlan, IsOfPlan, core}

-- ---- the items of a plan

-- an item that sets an identity is the one that is found for it
abbrev pub FoundIn : List Item → Item → Type 0
FoundIn items (Set id n first shape threshold policy key old) = find (sets id) items ≡ Some (Set id n first shape threshold policy key old)
FoundIn items (Unset id) = ⊤

above : (from : ℕ) (items : List Item) → Ascend from items → AllByRecursion (λ i. from ≤ item_id i) items
above from [] up = tt
above from (i ∷ items) up = (up.0, each_weaker (λ j. item_id i + 1 ≤ item_id j) (λ j. from ≤ item_id j) (λ j le. let first = up.0 in omega (arith, first, le)) items (above (item_id i + 1) items up.1))

skipped : (i j : Item) (items : List Item) → item_id i + 1 ≤ item_id j → FoundIn items j → FoundIn (i ∷ items) j
skipped (Set k n first shape threshold policy key old) (Set id n' first' shape' threshold' policy' key' old') items later found =
    let apart : (k == id) ≡ false = ne_eqb k id (λ same. omega (arith, later, same)) in rw apart found
skipped (Unset k) (Set id n first shape threshold policy key old) items later found = found
skipped i (Unset id) items later found = tt

all_skipped : (i : Item) (items js : List Item) → AllByRecursion (λ j. item_id i + 1 ≤ item_id j) js → AllByRecursion (FoundIn items) js → AllByRecursion (FoundIn (i ∷ items)) js
all_skipped i items [] later found = tt
all_skipped i items (j ∷ js) later found = (skipped i j items later.0 found.0, all_skipped i items js later.1 found.1)

here : (i : Item) (items : List Item) → FoundIn (i ∷ items) i
here (Set id n first shape threshold policy key old) items = rw (eq-eqb id id refl) refl
here (Unset id) items = tt

-- where identities ascend, each is
pub each_found : (from : ℕ) (items : List Item) → Ascend from items → AllByRecursion (FoundIn items) items
each_found from [] up = tt
each_found from (i ∷ items) up = (here i items, all_skipped i items items (above (item_id i + 1) items up.1) (each_found (item_id i + 1) items up.1))

-- ---- a plan that was drawn

module _ (plans : List Plan) where
  -- it is the one of its generation, and its items are of bearers apart
  abbrev pub Runs : Plan → Type 0
  Runs p = (planned plans p.g ≡ Some p) × Ascend 0 p.items

  -- of acts that carry one out, or prepare for it
  abbrev pub RunsOnly : Act → Type 0
  RunsOnly (go p) = Runs p
  RunsOnly (prepare p) = Runs p
  RunsOnly (send to r) = ⊤
  RunsOnly (unlock_all g) = ⊤
  RunsOnly (say n) = ⊤
  RunsOnly (recover_one id) = ⊤
  RunsOnly (fail_one id g) = ⊤
  RunsOnly (pass st) = ⊤

  -- what an item sets up
  pub setup_is : (node : Node) (p : Plan) (alg : Alg) (key : List ℕ) (i : Item) → Runs p → FoundIn p.items i → IfThere (λ (s : Setup). IsOfPlan plans (core s)) (setup_of node p alg key i)
  setup_is node p alg key (Set id n first shape threshold policy name old) runs found =
      record { plan = p; drawn = runs.0; threshold = threshold; policy = policy; key = name; old = old; item = found; sec = refl }
  setup_is node p alg key (Unset id) runs found = tt

  pub host_is : (me : Node) (p : Plan) (i : Item) → Runs p → FoundIn p.items i → IfThere (HostOf (IsHostOfPlan plans)) (host_at me p i)
  host_is me p (Set id n first shape threshold policy name old) runs found =
      elim (cases_Bool (is_host_at p.sec shape me)) [
        | inl yes' ↦ rw yes' (record {
          of = record { sec = p.sec; g = p.g; id = id; n = n; first = first; shape = shape };
          is = record { plan = p; drawn = runs.0; threshold = threshold; policy = policy; key = name; old = old; item = found; sec = refl };
          g = refl;
          id = refl;
          hosts = yes';
          anchor = refl;
        })
        | inr no' ↦ rw no' tt
      ]
  host_is me p (Unset id) runs found = tt

-- ---- one step after another

pub turn_keeps : {S X : Type 0} (K : S → Type 0) (Fits : X → Type 0) (f : S → X → S × Effects) → ((s : S) (y : X) → Fits y → K s → K (f s y).0) → (s : S) (ys : List X) → AllByRecursion Fits ys → K s → K (in_turn f s ys).0
turn_keeps K Fits f each s [] fits so = so
turn_keeps K Fits f each s (y ∷ ys) fits so = turn_keeps K Fits f each (f s y).0 ys fits.1 (each s y fits.0 so)

pub any_fit : {X : Type 0} (ys : List X) → AllByRecursion (λ (y : X). ⊤) ys
any_fit [] = tt
any_fit (y ∷ ys) = (tt, any_fit ys)
