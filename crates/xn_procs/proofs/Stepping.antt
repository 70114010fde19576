-- What a step of the rules comes to where the code has found the state that it wants.
use Rattle.std.proofs.Common.{◌≡◌, ℕ, ◌==◌, ◌++◌, Bool, true, false, if◌then◌else◌, cond, List, [], ◌∷◌, Option, Some, None, Ok, Result, refl, subst, sym, ap, ◌∙◌, eq-eqb, filter, find, not}
use Rattle.std.specs.List.{list_any}
use Rattle.std.specs.Option.{option_map}
use Rattle.command_table.specs.Drawing.{rule_draft}
use Rattle.command_table.specs.declared.drafts.Draft.{Draft}
use Rattle.dc_base.specs.declared.events.Event.TheVariants as event
use Rattle.dc_base.specs.declared.events.Note.TheVariants as note
use Rattle.dc_base.specs.declared.nodes.Node.{Node}
use Rattle.dc_base.specs.declared.nodes.Node.TheVariants.{T}
use Rattle.dc_base.specs.declared.nodes.Want.TheVariants as want
use Rattle.dc_base.specs.declared.records.Plan.{Plan}
use Rattle.dc_base.specs.declared.records.Rec.TheVariants as rec
use Rattle.dc_base.specs.declared.records.StatusTransfer.{StatusTransfer}
use Rattle.key_chain.specs.KeyNames.{octets}
use Rattle.node_rules.specs.Acts.{ProcFault}
use Rattle.node_rules.specs.CommandTable.{Table, carried, is_spent_by, master_key_of}
use Rattle.node_rules.specs.Drafts.{Draft as RuleDraft, draft}
use Rattle.node_rules.specs.MasterEnds.{is_release_spent, releases_if, tries_now, waits_for}
use Rattle.node_rules.specs.MasterGo.{alone, begins, drawn, goes, leave_acts, let_go, lets_go, moving_by, preparing}
use Rattle.node_rules.specs.MasterRecords.{is_moving, moved, passed_to, transferred}
use Rattle.node_rules.specs.MasterState.{MasterActs, MasterProc, with_waits}
use Rattle.node_rules.specs.Places.{is_at}
use Rattle.node_rules.specs.declared.acts.Act.{Act}
use Rattle.node_rules.specs.declared.acts.Act.TheVariants as act
use Rattle.node_rules.specs.declared.commands.Change.{Change}
use Rattle.node_rules.specs.declared.commands.Command.{Command}
use Rattle.node_rules.specs.declared.commands.Command.TheVariants.{Gone as gone}
use Rattle.node_rules.specs.declared.commands.First.{First}
use Rattle.node_rules.specs.declared.commands.Going.{Going}
use Rattle.node_rules.specs.declared.commands.Way.{Way}
use Rattle.xn_procs.proofs.Drafted.{is_release_spent-drafted}
use Rattle.xn_procs.specs.Asking.{asks}

-- ---- plans

-- a change that is carried out, by its parts
pub goes-made : (m : MasterProc) (c : Change) (w : Way) (t : Table) (moving : List (ℕ × Node)) (key : List ℕ) (p q : Plan) (told made : List Act)
    → t ≡ carried m.table c → moving ≡ moving_by c.plan → key ≡ octets m.table.book.roots (master_key_of c.root) → p ≡ c.plan → q ≡ c.plan
    → told ≡ leave_acts w.leaving w.told c.plan → made ≡ (act.Send T (rec.Reconf p key) ∷ act.Go q ∷ []) ++ told
    → goes m c w ≡ (record m { table = t; command = Some (gone c.plan (record { complete = false; due = w.due; confirms = w.confirms; leaving = w.leaving; moving = moving })) }, made)
goes-made m c w t moving key p q told made at_table at_moving at_key at_p at_q at_told at_made =
    rw (at_made, at_told, at_table, at_moving, at_key, at_p, at_q) refl

-- a draft with a first record is begun by that
pub begins-asked : (m : MasterProc) (d : Draft) (wanted : Bool) (first : First) (who : Node) (m1 m2 : MasterProc) (prepared begun : List Act)
    → d.first ≡ Some (first, who) → prepared ≡ preparing d.change.plan → m1 ≡ drawn m (rule_draft m.table d) → asks m1 d.change first who wanted ≡ (m2, begun)
    → begins m (rule_draft m.table d) wanted ≡ (m2, prepared ++ begun)
begins-asked m d wanted first who m1 m2 prepared begun is_first is_prepared is_drawn is_asked =
    let e = rw is_drawn at is_asked in
    rw (is_first, is_prepared) (ap (λ (r : MasterActs). (r.0, preparing d.change.plan ++ r.1)) e)

-- a draft without one is carried out at once
pub begins-alone : (m : MasterProc) (d : Draft) (wanted : Bool) (m1 m2 : MasterProc) (prepared begun : List Act)
    → d.first ≡ None → prepared ≡ preparing d.change.plan → m1 ≡ drawn m (rule_draft m.table d) → goes m1 d.change alone ≡ (m2, begun)
    → begins m (rule_draft m.table d) wanted ≡ (m2, prepared ++ begun)
begins-alone m d wanted m1 m2 prepared begun is_first is_prepared is_drawn is_gone =
    let e = rw is_drawn at is_gone in
    rw (is_first, is_prepared) (ap (λ (r : MasterActs). (r.0, preparing d.change.plan ++ r.1)) e)

-- a release that was asked for is begun
pub lets_go-made : (m : MasterProc) (x : Node) (d : Draft) (m1 m2 : MasterProc) (prepared begun : List Act)
    → prepared ≡ (act.Say (note.Begin want.Release) ∷ []) ++ preparing d.change.plan → m1 ≡ drawn m (rule_draft m.table d) → goes m1 d.change (let_go x) ≡ (m2, begun)
    → lets_go m x (rule_draft m.table d) ≡ (m2, prepared ++ begun)
lets_go-made m x d m1 m2 prepared begun is_prepared is_drawn is_gone =
    let e = rw is_drawn at is_gone in
    rw is_prepared (ap (λ (r : MasterActs). (r.0, ((act.Say (note.Begin want.Release) ∷ []) ++ preparing d.change.plan) ++ r.1)) e)

-- ---- releases that wait

-- the draft of the one that is tried is begun
pub releases_if-begun : (m m1 : MasterProc) (x : Node) (made : Draft) (d : Option RuleDraft)
    → option_map (rule_draft m.table) (Some made) ≡ d → is_spent_by m.table made.change.plan ≡ false → m1 ≡ with_waits false x m → m1.table ≡ m.table
    → releases_if m x (is_release_spent m.table d) d ≡ lets_go m1 x (rule_draft m1.table made)
releases_if-begun m m1 x made d is_draft not_spent is_after same_table =
    let P : Option RuleDraft → Type 0 = λ o. releases_if m x (is_release_spent m.table o) o ≡ lets_go (with_waits false x m) x (rule_draft m.table made) in
    subst P is_draft (rw not_spent refl)
    ∙ ap (λ (n : MasterProc). lets_go n x (rule_draft m.table made)) (sym is_after)
    ∙ ap (λ (t : Table). lets_go m1 x (rule_draft t made)) (sym same_table)

-- the one that is tried is begun
pub tries_now-begun : (m m1 : MasterProc) (x : Node) (made : Draft)
    → is_at x m.table.sec ≡ true → option_map (rule_draft m.table) (Some made) ≡ draft m.table event.Release → is_spent_by m.table made.change.plan ≡ false
    → m1 ≡ with_waits false x m → m1.table ≡ m.table
    → tries_now m x (is_at x m.table.sec) ≡ lets_go m1 x (rule_draft m1.table made)
tries_now-begun m m1 x made at_second is_draft not_spent is_after same_table =
    let P : Bool → Type 0 = λ b. tries_now m x b ≡ lets_go m1 x (rule_draft m1.table made) in
    subst P (sym at_second) (releases_if-begun m m1 x made (draft m.table event.Release) is_draft not_spent is_after same_table)

-- ---- moves

-- a status transfer of the open plan's generation is passed to where the bearer moves
pub transferred-passed : (from : Node) (s : StatusTransfer) (m : MasterProc) (o : Option Command) (p : Plan) (w : Going)
    → o ≡ Some (gone p w) → p.g ≡ s.g → transferred from s m o ≡ passed_to m s from (find (λ (x : ℕ × Node). x.0 == s.id) w.moving)
transferred-passed from s m o p w is_gone same =
    rw (is_gone, eq-eqb p.g s.g same) refl

-- a bearer that moved is awaited no longer
pub moved-awaited : (from : Node) (g id : ℕ) (m : MasterProc) (o : Option Command) (p : Plan) (w : Going)
    → o ≡ Some (gone p w) → p.g ≡ g → list_any (is_moving id from) w.moving ≡ true
    → moved from g id m o ≡ Ok (waits_for m (gone p (record w { moving = filter (λ y. not (is_moving id from y)) w.moving })))
moved-awaited from g id m o p w is_gone same is_there =
    rw (is_gone, eq-eqb p.g g same, is_there) refl
