use Rattle.std.proofs.Common.{◌≡◌, ℕ, List, Some, true, Result, Ok, Err, fold, ap, ◌∙◌}
use Rattle.std.specs.Prelude.{OnOk}
use Rattle.dc_base.specs.declared.records.Item.{Item}
use Rattle.dc_base.specs.declared.records.Plan.{Plan}
use Rattle.claims.specs.Carrying.{carry_plan, on_item, with_item}
use Rattle.claims.specs.Past.{Bearer, Past}
use Rattle.claims.specs.Table.{Command, Table}
use Rattle.checker_state.proofs.state.State.carry_plan.Goals as goal

where_ok : {E P Q : Type 0} (r : Result (Unit {0}) E) → (P → Q) → OnOk r P → OnOk r Q
where_ok (Ok u) f h = f h
where_ok (Err e) f h = tt

-- the table of a plan that is carried out
abbrev carried : Table → ℕ → Command → Plan → Table
carried t g k q = record (fold (with_item g) t q.items) { sec = q.sec; root = k.root; second_key = k.second_key; command = Some (record k { is_carried = true }) }

carried_is : (v p : Past) (g : ℕ) (k : Command) (q : Plan) (t : Table) (bs : List Bearer) → v ≡ p → t ≡ carried v.table g k q
    → bs ≡ fold (on_item p g) p.bearers q.items → record v { table = t; bearers = bs } ≡ carry_plan p g k (Some q)
carried_is v p g k q t bs same table_is bearers_are =
    ap (λ (u : Table). record v { table = u; bearers = bs }) table_is
    ∙ ap (λ (cs : List Bearer). record v { table = carried v.table g k q; bearers = cs }) bearers_are
    ∙ ap (λ (w : Past). record w { table = carried w.table g k q; bearers = fold (on_item p g) p.bearers q.items }) same

pub returns : goal.returns
returns c = λ k is.
    let p = c.args.self.now in
    let table_is = ap (λ (q : Past). q.table) c.self.view_is in
    let bearers_are = c.in_ok-self-inside.ensures ∙ ap (λ (items : List Item). fold (on_item p c.args.g) p.bearers items) c.as_slice.ensures in
    where_ok c.carry.result (λ made. carried_is _ p c.args.g k c.args.plan.now c.carry.new.self c.in_ok-self-inside.field-0.items c.self.view_is made bearers_are)
    (c.carry.ensures k (ap (λ (t : Table). t.command) table_is ∙ is))
