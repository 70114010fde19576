-- What the plan of a generation sets of the latest establishment of an identity: before and after a line.
use Rattle.std.proofs.Common.{ℕ, ◌≡◌, ◌≤◌, ◌==◌, ◌∙◌, Bool, true, false, List, [], ◌∷◌, Option, Some, None, refl, sym, ap, subst, inl, inr}
use Rattle.std.proofs.lemmas.Bool.{cases_Bool, eqb-true, le-leb}
use Rattle.std.specs.List.{AllByRecursion}
use Rattle.std.specs.Option.{option_and_then, option_map}
use Rattle.std.specs.Prelude.{find, if◌then◌else◌, map, nat_le, ◌&&◌}
use Rattle.dc_base.specs.declared.answers.Answer.{Answer}
use Rattle.dc_base.specs.declared.answers.Answer.TheVariants as answer
use Rattle.dc_base.specs.declared.events.Event.TheVariants as event
use Rattle.dc_base.specs.declared.events.Line.{Line}
use Rattle.dc_base.specs.declared.nodes.LinkId.{LinkId}
use Rattle.dc_base.specs.declared.nodes.Node.{Node}
use Rattle.dc_base.specs.declared.records.Item.{Item}
use Rattle.dc_base.specs.declared.records.Item.TheVariants.{Set, Unset}
use Rattle.dc_base.specs.declared.records.Plan.{Plan}
use Rattle.node_rules.specs.CommandTable.{Table, row}
use Rattle.node_rules.specs.declared.commands.Row.{Row}
use Rattle.claims.specs.Judged.{judged}
use Rattle.claims.specs.Noted.{noted}
use Rattle.claims.specs.Past.{Bearer, Past}
use Rattle.claims.specs.Reading.{Setting, setting_of, sets}
use Rattle.run_keys.proofs.Unused.{row_keyed}
use Rattle.run_keys.proofs.Worlds.{line_est}
use Rattle.run_keys.specs.Keyed.{AreSet, IsKeyed, IsKeyedRow, IsSetIn}
use Rattle.run_keys.specs.Names.{est}
use Rattle.run_plans.proofs.Lines.{still_plans}
use Rattle.run_plans.specs.Lines.{IsStill}
use Rattle.run_table.proofs.Views.{judged_view, noted_view}
use Rattle.run_table.specs.View.{View, planned, view}
use Rattle.run_uplinks.proofs.Wells.{IsWell, answer_grows, line_grows}
use Rattle.run_windows.proofs.Seeing as windows
use Rattle.run_windows.specs.Seen as windows_seen
use Rattle.run_windows.specs.Seen.{Count, Face, latest, seen, seen_of}
use Rattle.run_holders.specs.Fitting.{IsOfLatest}
use Rattle.run_holders.specs.Holdings.{Holding, holding_of, holdings, latest_in, named_in}
use Rattle.run_holders.proofs.NamesApart.{Descends, distinct_names}

-- the plan of this generation sets the identity, whose latest establishment is of no later one
pub record SetsBy (p : Past) (id g : ℕ) : Type 0 where
  pub by : Plan
  pub drawn : planned p.plans g ≡ Some by
  pub set : Setting
  pub in_plan : setting_of by.sec (find (sets id) by.items) ≡ Some set
  pub name : ℕ
  pub newest : est (seen p) id ≡ Some name
  pub upto : name ≤ g

-- ---- a line

-- after it all is well, as before
pub well_noted : (p : Past) (l : Line) → IsWell (view p) → IsWell (view (noted p l))
well_noted p l well = subst IsWell (sym (noted_view p l)) (line_grows (view p) l well).well

-- a plan that was drawn stays
pub plan_noted : (p : Past) (l : Line) → IsWell (view p) → (g : ℕ) (q : Plan) → planned p.plans g ≡ Some q → planned (noted p l).plans g ≡ Some q
plan_noted p l well g q at = subst (λ (v : View). planned v.plans g ≡ Some q) (sym (noted_view p l)) ((line_grows (view p) l well).stays g q at)

-- so do the names
name_noted : (p : Past) (l : Line) (id : ℕ) → est (seen (noted p l)) id ≡ est (seen p) id
name_noted p l id = ap (λ s. est s id) (windows.noted_seen p l) ∙ line_est (seen p) l id

pub sets_noted : (p : Past) (l : Line) → IsWell (view p) → (id g : ℕ) → SetsBy p id g → SetsBy (noted p l) id g
sets_noted p l well id g is = record {
  by = is.by;
  drawn = plan_noted p l well g is.by is.drawn;
  set = is.set;
  in_plan = is.in_plan;
  name = is.name;
  newest = name_noted p l id ∙ is.newest;
  upto = is.upto;
}

-- before one that draws no plan it was so already
pub sets_before : (p : Past) (l : Line) → IsStill l → (id g : ℕ) → SetsBy (noted p l) id g → SetsBy p id g
sets_before p l still id g is = record {
  by = is.by;
  drawn = subst (λ (ps : List Plan). planned ps g ≡ Some is.by) (ap (λ (v : View). v.plans) (noted_view p l) ∙ still_plans (view p) l still) is.drawn;
  set = is.set;
  in_plan = is.in_plan;
  name = is.name;
  newest = sym (name_noted p l id) ∙ is.newest;
  upto = is.upto;
}

-- ---- an event

pub well_judged : (p : Past) (l : LinkId) (i : ℕ) (a : Answer) → IsWell (view p) → IsWell (view (judged (event.Step l i) a p))
well_judged p l i a well = subst IsWell (sym (judged_view (event.Step l i) a p)) (answer_grows p (event.Step l i) a (view p) well).well

-- where a flight is taken
pub sets_judged : (p : Past) (l : LinkId) (i : ℕ) (a : Answer) → IsWell (view p) → (id g : ℕ) → SetsBy p id g → SetsBy (judged (event.Step l i) a p) id g
sets_judged p l i a well id g is = record {
  by = is.by;
  drawn = subst (λ (v : View). planned v.plans g ≡ Some is.by) (sym (judged_view (event.Step l i) a p))
      ((answer_grows p (event.Step l i) a (view p) well).stays g is.by is.drawn);
  set = is.set;
  in_plan = is.in_plan;
  name = is.name;
  newest = ap (λ s. est s id) (windows.judged_seen (event.Step l i) a p) ∙ by a ∙ is.newest;
  upto = is.upto;
}
  where
    by : (b : Answer) → est (windows_seen.answered (event.Step l i) b (seen p)) id ≡ est (seen p) id
    by answer.Ok = refl
    by (answer.No why) = refl

-- ---- as it is asked

named_latest : (id g : ℕ) (s : Setting) (hs : List Holding) (h : Holding) → latest_in id hs ≡ Some h → h.g ≤ g → named_in id g (Some s) hs ≡ Some h
named_latest id g s [] h at le = absurd (let bad : None ≡ Some h = at in cc)
named_latest id g s (u ∷ hs) h at le = by (u.id == id) refl at (λ is. named_latest id g s hs h is le)
  where
    or_else : Option Holding → Holding
    or_else None = u
    or_else (Some z) = z

    by : (b : Bool) → (u.id == id) ≡ b → (if b then Some u else latest_in id hs) ≡ Some h → (latest_in id hs ≡ Some h → named_in id g (Some s) hs ≡ Some h)
        → (if b && nat_le u.g g then Some u else named_in id g (Some s) hs) ≡ Some h
    by false apart is more = more is
    by true here is more =
        let same : u ≡ h = ap or_else is in
        ap (λ b. if b then Some u else named_in id g (Some s) hs) (le-leb u.g g (subst (λ (z : Holding). z.g ≤ g) (sym same) le)) ∙ is

-- the latest establishment has its name
latest_holding : (id name : ℕ) (bs : List Bearer) → option_map (λ (b : Face × Count). b.0.g) (latest id (map seen_of bs)) ≡ Some name
    → (h : Holding) × (latest_in id (map holding_of bs) ≡ Some h) × (h.g ≡ name)
latest_holding id name [] is = absurd (let bad : None ≡ Some name = is in cc)
latest_holding id name (b ∷ bs) is =
    elim (cases_Bool (b.id == id)) [
      | inl here ↦ let same : b.g ≡ name = let at : Some b.g ≡ Some name = rw here at is in cc in (holding_of b, rw here refl, same)
      | inr apart ↦ let rest = latest_holding id name bs (rw apart at is) in (rest.0, rw apart rest.1, rest.2)
    ]

pub sets_latest : (p : Past) (id g : ℕ) → Descends p → SetsBy p id g → IsOfLatest p id g
sets_latest p id g down is =
    let h = latest_holding id is.name p.bearers is.newest in
    record {
      holding = h.0;
      named = ap (λ o. named_in id g o (holdings p))
          (ap (λ o. option_and_then (λ (q : Plan). setting_of q.sec (find (sets id) q.items)) o) is.drawn ∙ is.in_plan) ∙ named_latest id g is.set
          (holdings p) h.0 h.1 (subst (λ n. n ≤ g) (sym h.2) is.upto);
      latest = h.1;
      distinct = distinct_names p down;
    }

-- ---- by the command table

-- of an item that sets the identity there is a row
row_of_item : (t : Table) (g id : ℕ) (sec : Option Node) (items : List Item) (x : Setting) → AllByRecursion (IsSetIn t g) items
    → setting_of sec (find (sets id) items) ≡ Some x → (r : Row) × (row t id ≡ Some r) × (r.est ≤ g)
row_of_item t g id sec [] x all is = absurd (let bad : None ≡ Some x = is in cc)
row_of_item t g id sec (Unset k ∷ items) x all is = row_of_item t g id sec items x all.1 is
row_of_item t g id sec (Set k n first shape threshold policy key old ∷ items) x all is = by (k == id) refl is (λ at. row_of_item t g id sec items x all.1 at)
  where
    by : (b : Bool) → (k == id) ≡ b → setting_of sec (if b then Some (Set k n first shape threshold policy key old) else find (sets id) items) ≡ Some x
        → (setting_of sec (find (sets id) items) ≡ Some x → (r : Row) × (row t id ≡ Some r) × (r.est ≤ g)) → (r : Row) × (row t id ≡ Some r) × (r.est ≤ g)
    by true here at more = let it = all.0 in (it.0, ap (row t) (sym (eqb-true k id here)) ∙ it.1, it.3)
    by false apart at more = more at

-- what the table has set is of the latest establishment
pub table_sets : (p : Past) (t : Table) (q : Plan) (id : ℕ) (x : Setting) → IsKeyed (est (seen p)) t → AreSet t q → planned p.plans q.g ≡ Some q
    → setting_of q.sec (find (sets id) q.items) ≡ Some x → SetsBy p id q.g
table_sets p t q id x keyed set drawn is =
    let r = row_of_item t q.g id q.sec q.items x set is in
    let it = row_keyed (IsKeyedRow (est (seen p)) t.book t.last) id t.rows r.0 keyed.rows r.1 in
    record { by = q; drawn = drawn; set = x; in_plan = is; name = r.0.est; newest = ap (est (seen p)) (sym it.1) ∙ it.0.latest; upto = r.2 }

-- so is what a plan sets of a bearer of the table, if the table is no later than it
pub row_sets : (p : Past) (t : Table) (q : Plan) (id g : ℕ) (x : Setting) (r : Row) → IsKeyed (est (seen p)) t → row t id ≡ Some r → g ≡ t.last
    → planned p.plans g ≡ Some q → setting_of q.sec (find (sets id) q.items) ≡ Some x → SetsBy p id g
row_sets p t q id g x r keyed at last drawn is =
    let it = row_keyed (IsKeyedRow (est (seen p)) t.book t.last) id t.rows r keyed.rows at in
    record {
      by = q;
      drawn = drawn;
      set = x;
      in_plan = is;
      name = r.est;
      newest = ap (est (seen p)) (sym it.1) ∙ it.0.latest;
      upto = subst (λ n. r.est ≤ n)
          (sym last) it.0.upto;
    }
