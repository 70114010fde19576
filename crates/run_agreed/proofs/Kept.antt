-- The command table changes where a plan is carried out alone: a command that is rejected leaves it as it was.
use Rattle.std.proofs.Common.{ℕ, ◌≡◌, ◌++◌, ◌||◌, Bool, true, false, List, [], ◌∷◌, Option, Some, None, refl, sym, ap, subst, ◌∙◌, inl, inr}
use Rattle.std.specs.List.{list_any}
use Rattle.std.specs.Prelude.{⊤, ◌⊎◌}
use Rattle.dc_base.specs.declared.events.Event.{Event}
use Rattle.dc_base.specs.declared.events.Event.TheVariants as event
use Rattle.dc_base.specs.declared.events.Note.TheVariants as note
use Rattle.dc_base.specs.declared.nodes.Node.{Node}
use Rattle.dc_base.specs.declared.nodes.Node.TheVariants.{A, B, M, T}
use Rattle.dc_base.specs.declared.nodes.Want.TheVariants as want
use Rattle.node_rules.specs.CommandTable.{Table}
use Rattle.node_rules.specs.Drafts.{Draft, book_with_root, draft}
use Rattle.node_rules.specs.MasterCommands.{recovers_at}
use Rattle.node_rules.specs.MasterGo.{alone, begins_by, drawn, goes, let_go, preparing}
use Rattle.node_rules.specs.MasterState.{MasterActs, MasterProc, with_waits}
use Rattle.node_rules.specs.declared.acts.Act.{Act}
use Rattle.node_rules.specs.declared.acts.Act.TheVariants.{Say as say}
use Rattle.node_rules.specs.declared.commands.Change.{Change}
use Rattle.node_rules.specs.declared.commands.First.{First}
use Rattle.node_rules.specs.declared.commands.Way.{Way}
use Rattle.run_agreed.specs.Kept.{SameBearers, is_go}
use Rattle.run_agreed.specs.Segments.{Chain, IsChain, Origin, Segment, agrees, aside, begun, completes, ends, lets_off, moves_on, needless, recovered, recovers, refuses, rejects, second_recovers, terminal_recovers, waits}
use Rattle.run_agreed.proofs.Drops.{waits_same}

same_bearers : (t : Table) → SameBearers t t
same_bearers t = record { sec = refl; rows = refl; root = refl; second_key = refl; claims = refl }

same_then : (t u v : Table) → SameBearers t u → SameBearers u v → SameBearers t v
same_then t u v p q = record { sec = q.sec ∙ p.sec; rows = q.rows ∙ p.rows; root = q.root ∙ p.root; second_key = q.second_key ∙ p.second_key; claims = q.claims ∙ p.claims }

same_table : (t u : Table) → u ≡ t → SameBearers t u
same_table t u is = subst (λ v. SameBearers t v) (sym is) (same_bearers t)

-- ---- drafts

abbrev KeepsIf : Table → Option Draft → Type 0
KeepsIf t None = ⊤
KeepsIf t (Some d) = (d.book.current ≡ t.book.current) × (d.book.claims ≡ t.book.claims)

root_keeps : (t : Table) (root : List ℕ) (o : Option Node) → ((book_with_root t root o).current ≡ t.book.current) × ((book_with_root t root o).claims ≡ t.book.claims)
root_keeps t root None = (refl, refl)
root_keeps t root (Some x) = (refl, refl)

-- drawing changes neither the current root nor the claims
draft_keeps : (t : Table) (e : Event) → KeepsIf t (draft t e)
draft_keeps t (event.Bearer id n first shape threshold policy) = (refl, refl)
draft_keeps t (event.Reshape id shape) = (refl, refl)
draft_keeps t (event.Remove id) = (refl, refl)
draft_keeps t (event.Add node) = (refl, refl)
draft_keeps t event.Change = (refl, refl)
draft_keeps t event.Release = (refl, refl)
draft_keeps t event.RekeySecond = (refl, refl)
draft_keeps t (event.RekeyMaster root) = root_keeps t root t.sec
draft_keeps t (event.Recover id) = tt
draft_keeps t (event.Report node id) = tt
draft_keeps t (event.Deny node on) = tt
draft_keeps t (event.Ask node what) = tt
draft_keeps t event.ScgFail = tt
draft_keeps t (event.Submit id d payload) = tt
draft_keeps t (event.Step l i) = tt
draft_keeps t (event.Lose l i) = tt
draft_keeps t (event.Again l i) = tt

-- ---- parts

any_later : (xs ys : List Act) → list_any is_go ys ≡ true → list_any is_go (xs ++ ys) ≡ true
any_later [] ys is = is
any_later (x ∷ xs) ys is = ap (λ b. is_go x || b) (any_later xs ys is) ∙ or_true (is_go x)
  where
    or_true : (b : Bool) → (b || true) ≡ true
    or_true true = refl
    or_true false = refl

any_first : (xs ys : List Act) → list_any is_go xs ≡ true → list_any is_go (xs ++ ys) ≡ true
any_first [] ys is = absurd cc
any_first (x ∷ xs) ys is = by (is_go x) refl is (λ more. any_first xs ys more)
  where
    by : (b : Bool) → is_go x ≡ b → (b || list_any is_go xs) ≡ true → (list_any is_go xs ≡ true → list_any is_go (xs ++ ys) ≡ true) → (is_go x || list_any is_go (xs ++ ys)) ≡ true
    by true here any more = ap (λ b. b || list_any is_go (xs ++ ys)) here
    by false here any more = ap (λ b. b || list_any is_go (xs ++ ys)) here ∙ more any

goes_any : (before : List Act) (m : MasterProc) (c : Change) (w : Way) → list_any is_go (before ++ (goes m c w).1) ≡ true
goes_any before m c w = any_later before (goes m c w).1 refl

-- a plan is carried out, or the table stays as it was
abbrev pub GoesOrKeeps : MasterProc → MasterActs → Type 0
GoesOrKeeps m r = (list_any is_go r.1 ≡ true) ⊎ SameBearers m.table r.0.table

of_same : (m : MasterProc) (r q : MasterActs) → r ≡ q → q.0.table ≡ m.table → GoesOrKeeps m r
of_same m r q is table = inr (same_table m.table r.0.table (ap (λ (y : MasterActs). y.0.table) is ∙ table))

begins_table : (m : MasterProc) (d : Draft) (wanted : Bool) (o : Option (First × Node)) → (d.book.current ≡ m.table.book.current) × (d.book.claims ≡ m.table.book.claims)
    → (let r = begins_by (drawn m d) d wanted o in GoesOrKeeps m (r.0, preparing d.change.plan ++ r.1))
begins_table m d wanted None keeps = inl (goes_any (preparing d.change.plan) (drawn m d) d.change alone)
begins_table m d wanted (Some (f, who)) keeps = inr (record { sec = refl; rows = refl; root = keeps.0; second_key = refl; claims = keeps.1 })

recovers_table : (m : MasterProc) (id : ℕ) (x : Node) → (recovers_at m id x).0.table ≡ m.table
recovers_table m id M = refl
recovers_table m id A = refl
recovers_table m id B = refl
recovers_table m id T = refl

part_table : (o : Origin) (m : MasterProc) (r : MasterActs) → Segment o m r → GoesOrKeeps m r
part_table o m r (aside acts all is) = of_same m r (m, acts) is refl
part_table o m r (refuses x q refusal what from is) = of_same m r _ is refl
part_table o m r (waits x from is) = of_same m r _ is (waits_same true x m).0
part_table o m r (needless x waiting free apart is) = of_same m r _ is (waits_same false x m).0
part_table o m r (lets_off x d waiting free here drawn' unspent is) = subst (GoesOrKeeps m) (sym is) (inl (goes_any (say (note.Begin want.Release) ∷ preparing d.change.plan) (drawn (with_waits false x m) d) d.change (let_go x)))
part_table o m r (begun e d wanted free drawn' may is) = subst (GoesOrKeeps m) (sym is) (begins_table m d wanted d.first (subst (KeepsIf m.table) drawn' (draft_keeps m.table e)))
part_table o m r (agrees c f who wanted opened second q from ack is) = subst (GoesOrKeeps m) (sym is) (inl refl)
part_table o m r (completes p w opened waited from is) = of_same m r _ is refl
part_table o m r (moves_on p w moving opened is) = of_same m r _ is refl
part_table o m r (ends p w opened complete is) = of_same m r _ is refl
part_table o m r (rejects c f who wanted opened second q from rej is) = of_same m r _ is refl
part_table o m r (recovers id x free is) = of_same m r (recovers_at m id x) is (recovers_table m id x)
part_table o m r (terminal_recovers id t y opened from is) = of_same m r _ is refl
part_table o m r (second_recovers id t x opened from is) = of_same m r _ is refl
part_table o m r (recovered id opened is) = of_same m r _ is refl

chain_by : (o : Origin) (parts : List MasterActs) (m : MasterProc) (out : MasterActs) → Chain o parts m out → GoesOrKeeps m out
chain_by o [] m out is = of_same m out (m, []) is refl
chain_by o (r ∷ rs) m out all =
    let q = all.1.0 in
    subst (GoesOrKeeps m) (sym all.1.2) (both (part_table o m r all.0) (chain_by o rs r.0 q all.1.1))
  where
    both : GoesOrKeeps m r → GoesOrKeeps r.0 all.1.0 → GoesOrKeeps m (all.1.0.0, r.1 ++ all.1.0.1)
    both first then' =
        elim first [
          | inl goes' ↦ inl (any_first r.1 all.1.0.1 goes')
          | inr same ↦ elim then' [ inl goes' ↦ inl (any_later r.1 all.1.0.1 goes') | inr more ↦ inr (same_then m.table r.0.table all.1.0.0.table same more) ]
        ]

-- in a step of the master in which no plan is carried out, the table keeps its secondary node, bearers, current keys and claims; so
-- the plan of a command that is rejected leaves nothing there
pub chain_table : (o : Origin) (m : MasterProc) (out : MasterActs) → IsChain o m out → GoesOrKeeps m out
chain_table o m out chain = chain_by o chain.parts m out chain.all
