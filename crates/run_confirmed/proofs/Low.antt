-- Where bearers begin with COUNTs of 32 bits, so do all that plans set.
use Rattle.std.proofs.Common.{ℕ, length, ◌≡◌, ◌==◌, ◌&&◌, ◌++◌, Bool, true, false, List, [], ◌∷◌, Option, Some, None, refl, sym, ap, subst, ◌∙◌, inl, inr}
use Rattle.std.specs.Prelude.{filter, fold, map, nat_lt, not, ⊤}
use Rattle.std.specs.List.{AllByRecursion}
use Rattle.std.proofs.lemmas.Bool.{cases_Bool}
use Rattle.dc_base.specs.Nodes.{is_mm}
use Rattle.dc_base.specs.declared.answers.Answer.{Answer}
use Rattle.dc_base.specs.declared.answers.Answer.TheVariants as answer
use Rattle.dc_base.specs.declared.events.Event.{Event}
use Rattle.dc_base.specs.declared.events.Event.TheVariants as event
use Rattle.dc_base.specs.declared.events.Header.{Header}
use Rattle.dc_base.specs.declared.events.Line.{Line}
use Rattle.dc_base.specs.declared.flights.Flight.{Flight}
use Rattle.dc_base.specs.declared.nodes.KeyName.{KeyName}
use Rattle.dc_base.specs.declared.nodes.LinkId.{LinkId}
use Rattle.dc_base.specs.declared.nodes.Node.{Node}
use Rattle.dc_base.specs.declared.nodes.Shape.{Shape}
use Rattle.dc_base.specs.declared.nodes.Want.{Want}
use Rattle.dc_base.specs.declared.nodes.Want.TheVariants as want
use Rattle.dc_base.specs.declared.records.Item.{Item}
use Rattle.dc_base.specs.declared.records.Item.TheVariants.{Set, Unset}
use Rattle.dc_base.specs.declared.records.Plan.{Plan}
use Rattle.master_runs.proofs.Lists.{each_filter}
use Rattle.claims.specs.Carrying.{with_item, with_row}
use Rattle.claims.specs.Drafts.{Draft, command_of, draft, set_to}
use Rattle.claims.specs.Links.{find_at}
use Rattle.claims.specs.Noted.{after, past, past_from}
use Rattle.claims.specs.Past.{Past, new_past}
use Rattle.claims.specs.Shapes.{mm}
use Rattle.claims.specs.Table.{Command, Row, Table, is_change, next_key, second_key}
use Rattle.claims.specs.Views.{forwarding_of}
use Rattle.node_rules.specs.Choices.{Choices}
use Rattle.node_rules.specs.Run.{entries_from, world_step}
use Rattle.node_rules.specs.World.{World, new_world}
use Rattle.run_control.specs.Sound.{AddsSecond}
use Rattle.run_table.specs.View.{View, carries, carries_if, carries_plan, carries_with, draws_if, ends, planned, view}
use Rattle.run_table.specs.Words.{Ending, Words, begun_notes, by_words, done, hears, is_word_line, lines_in, order_sends, over_notes, rejected}
use Rattle.run_table.proofs.LineWords.{quiet_line}
use Rattle.run_table.proofs.Runs.{Lasts, lasts_new, lasts_next}
use Rattle.run_table.proofs.Steps.{agrees_after}
use Rattle.run_table.proofs.Views.{after_view, hears_answer, hears_event, loses, loses_flight}
use Rattle.run_confirmed.specs.Laid.{AreLow, BeginsLow, HasLow, IsLowRow, SetsLow}

-- the items of a plan
abbrev IsLowPlan : Plan → Type 0
IsLowPlan q = AllByRecursion SetsLow q.items

-- ---- drafts

items_low : (t : Table) (root : ℕ) (key : KeyName) (shape : Row → Shape) (rows : List Row) → AllByRecursion IsLowRow rows → AllByRecursion SetsLow (map (set_to t root key shape) rows)
items_low t root key shape [] all = tt
items_low t root key shape (r ∷ rows) all = (all.0, items_low t root key shape rows all.1)

-- the items of a draft, if there is one
abbrev DraftLow : Option Draft → Type 0
DraftLow None = ⊤
DraftLow (Some d) = AllByRecursion SetsLow d.items

draft_low : (t : Table) → AllByRecursion IsLowRow t.rows → (e : Event) → BeginsLow e → DraftLow (draft t e)
draft_low t rows (event.Bearer id n first shape threshold policy) names = (names, tt)
draft_low t rows (event.Reshape id shape) names = items_low t t.root t.second_key (λ r. shape) (filter (λ r. r.id == id) t.rows) (each_filter IsLowRow (λ r. r.id == id) t.rows rows)
draft_low t rows (event.Remove id) names = (tt, tt)
draft_low t rows (event.Add x) names = tt
draft_low t rows event.Change names =
    items_low t t.root (next_key t) (λ r. r.shape) (filter (λ r. not (is_mm r.shape)) t.rows) (each_filter IsLowRow (λ r. not (is_mm r.shape)) t.rows rows)
draft_low t rows event.Release names =
    items_low t t.root t.second_key (λ r. mm) (filter (λ r. not (is_mm r.shape)) t.rows) (each_filter IsLowRow (λ r. not (is_mm r.shape)) t.rows rows)
draft_low t rows event.RekeySecond names =
    items_low t t.root (next_key t) (λ r. r.shape) (filter (λ r. r.shape.at_second) t.rows) (each_filter IsLowRow (λ r. r.shape.at_second) t.rows rows)
draft_low t rows (event.RekeyMaster octets) names = items_low t (length t.roots) (second_key (length t.roots) 0) (λ r. r.shape) t.rows rows
draft_low t rows (event.Recover id) names = tt
draft_low t rows (event.Submit id d sdu) names = tt
draft_low t rows (event.Report x id) names = tt
draft_low t rows (event.Deny x on) names = tt
draft_low t rows (event.Ask x w) names = tt
draft_low t rows event.ScgFail names = tt
draft_low t rows (event.Step l i) names = tt
draft_low t rows (event.Lose l i) names = tt
draft_low t rows (event.Again l i) names = tt

-- ---- steps of the table

draws_low : (e : Event) (asker : Option Node) (o : Option Draft) (v : View) → DraftLow o → HasLow v → HasLow (draws_if e asker o v)
draws_low e asker None v named is = is
draws_low e asker (Some d) v named is = record { rows = is.rows; plans = (named, is.plans) }

command_low : (e : Event) (asker : Option Node) (v : View) → BeginsLow e → HasLow v → HasLow (draws_if e asker (draft v.table e) v)
command_low e asker v names is = draws_low e asker (draft v.table e) v (draft_low v.table is.rows e names) is

row_low : (r : Row) (rows : List Row) → IsLowRow r → AllByRecursion IsLowRow rows → AllByRecursion IsLowRow (with_row r rows)
row_low r [] named all = (named, tt)
row_low r (x ∷ xs) named all =
    elim (cases_Bool (x.id == r.id)) [
      | inl same ↦ rw same (named, all.1)
      | inr apart ↦ elim (cases_Bool (nat_lt r.id x.id)) [
        | inl before ↦ rw (apart, before) (named, all)
        | inr after' ↦ rw (apart, after') (all.0, row_low r xs named all.1)
      ]
    ]

-- after a plan: rows named, and the same generation last
carried_low : (g : ℕ) (items : List Item) (t : Table) → AllByRecursion SetsLow items → AllByRecursion IsLowRow t.rows → AllByRecursion IsLowRow (fold (with_item g) t items).rows × ((fold (with_item g) t items).last ≡ t.last)
carried_low g [] t named rows = (rows, refl)
carried_low g (Set id n first shape threshold policy key old ∷ items) t named rows =
    let i = Set id n first shape threshold policy key old in
    let more = carried_low g items (with_item g t i) named.1 (row_low _ t.rows named.0 rows) in (more.0, more.1)
carried_low g (Unset id ∷ items) t named rows =
    let more = carried_low g items (with_item g t (Unset id)) named.1 (each_filter IsLowRow (λ r. not (r.id == id)) t.rows rows) in (more.0, more.1)

found_plan : (g : ℕ) (plans : List Plan) (q : Plan) → AllByRecursion IsLowPlan plans → planned plans g ≡ Some q → IsLowPlan q
found_plan g [] q all at = absurd (let bad : None ≡ Some q = at in cc)
found_plan g (x ∷ plans) q all at =
    elim (cases_Bool (x.g == g)) [
      | inl here ↦ let same : x ≡ q = let e = rw here at at in cc in subst IsLowPlan same all.0
      | inr there ↦ found_plan g plans q all.1 (rw there at at)
    ]

plan_low : (g : ℕ) (c : Command) (o : Option Plan) (v : View) → planned v.plans g ≡ o → HasLow v → HasLow (carries_plan g c o v)
plan_low g c None v at is = is
plan_low g c (Some q) v at is =
    let x = carried_low g q.items v.table (found_plan g v.plans q is.plans at) is.rows in record { rows = x.0; plans = is.plans }

if_low : (g : ℕ) (c : Command) (b : Bool) (v : View) → HasLow v → HasLow (carries_if g c b v)
if_low g c false v is = is
if_low g c true v is = plan_low g c (planned v.plans g) v refl is

with_low : (g : ℕ) (o : Option Command) (v : View) → HasLow v → HasLow (carries_with g o v)
with_low g None v is = is
with_low g (Some c) v is = if_low g c (is_change g c.kind && not c.is_carried) v is

order_low : (g : ℕ) (v : View) → HasLow v → HasLow (carries g v)
order_low g v is = with_low g v.table.command v is

ends_low : (v : View) → HasLow v → HasLow (ends v)
ends_low v is = record { rows = is.rows; plans = is.plans }

-- a request names no identity
wanted : (w : Want) → BeginsLow (command_of w)
wanted want.Rekey = tt
wanted want.Change = tt
wanted want.Release = tt

-- ---- the words of an event

module _ where
  begun_low : (begun : Option Want) (order : Option (Plan × List ℕ)) (v : View) → HasLow v → HasLow (fold hears v (lines_in (begun_notes begun) (order_sends order)))
  begun_low None None v is = is
  begun_low None (Some x) v is = order_low x.0.g v is
  begun_low (Some w) None v is = command_low (command_of w) v.table.sec v (wanted w) is
  begun_low (Some w) (Some x) v is =
      order_low x.0.g (draws_if (command_of w) v.table.sec (draft v.table (command_of w)) v) (command_low (command_of w) v.table.sec v (wanted w) is)

  over_low : (over : Option Ending) (begun : Option Want) (order : Option (Plan × List ℕ)) (v : View) → HasLow v → HasLow (fold hears v (lines_in (over_notes over ++ begun_notes begun) (order_sends order)))
  over_low None begun order v is = begun_low begun order v is
  over_low (Some done) begun order v is = begun_low begun order (ends v) (ends_low v is)
  over_low (Some rejected) begun order v is = begun_low begun order (ends v) (ends_low v is)

words_low : (w : Words) (v : View) → HasLow v → HasLow (by_words w v)
words_low w v is = over_low w.over w.begun w.order v is

words_alone : (xs : List Line) (v : View) → fold hears v xs ≡ fold hears v (filter is_word_line xs)
words_alone [] v = refl
words_alone (x ∷ xs) v =
    elim (cases_Bool (is_word_line x)) [
      | inl yes' ↦ rw yes' (words_alone xs (hears v x))
      | inr no' ↦ rw no' (ap (λ w. fold hears w xs) (quiet_line v x no') ∙ words_alone xs v)
    ]

-- ---- an answer

lost_low : (o : Option (LinkId × Flight)) (v : View) → HasLow v → HasLow (loses_flight o v)
lost_low None v is = is
lost_low (Some s) v is = by (forwarding_of s.1)
  where
    by : (o : Option (ℕ × ℕ)) → HasLow (loses o v)
    by None = is
    by (Some x) = record { rows = is.rows; plans = is.plans }

event_low : (p : Past) (e : Event) (v : View) → BeginsLow e → HasLow v → HasLow (hears_event p e v)
event_low p (event.Bearer id n first shape threshold policy) v names is = command_low (event.Bearer id n first shape threshold policy) None v names is
event_low p (event.Reshape id shape) v names is = command_low (event.Reshape id shape) None v names is
event_low p (event.Remove id) v names is = command_low (event.Remove id) None v names is
event_low p (event.Add x) v names is = command_low (event.Add x) None v names is
event_low p event.Change v names is = command_low event.Change None v names is
event_low p event.Release v names is = command_low event.Release None v names is
event_low p event.RekeySecond v names is = command_low event.RekeySecond None v names is
event_low p (event.RekeyMaster root) v names is = command_low (event.RekeyMaster root) None v names is
event_low p (event.Recover id) v names is = record { rows = is.rows; plans = is.plans }
event_low p (event.Lose l i) v names is = lost_low (find_at l i p.standing) v is
event_low p (event.Submit id d sdu) v names is = is
event_low p (event.Report x id) v names is = is
event_low p (event.Deny x on) v names is = is
event_low p (event.Ask x w) v names is = is
event_low p event.ScgFail v names is = is
event_low p (event.Step l i) v names is = is
event_low p (event.Again l i) v names is = is

answer_low : (p : Past) (e : Event) (a : Answer) (v : View) → BeginsLow e → HasLow v → HasLow (hears_answer p e a v)
answer_low p e answer.Ok v names is = event_low p e v names is
answer_low p e (answer.No why) v names is = is

-- ---- a run

low_next : (c : Choices) (w : World) (p : Past) (e : Event) → AddsSecond e → BeginsLow e → Lasts p w → HasLow (view p) → HasLow (view (after p (world_step c w e).1))
low_next c w p e adds names lasts is =
    let x = (world_step c w e).1 in
    let v = hears_answer p e x.answer (view p) in
    let said = agrees_after c w p (view p) e adds lasts.none lasts.agree in
    let more = words_low said.words v (answer_low p e x.answer (view p) names is) in
    let same : view (after p x) ≡ by_words said.words v = after_view p x ∙ words_alone x.lines v ∙ ap (fold hears v) said.said in
    subst HasLow (sym same) more

low_on : (c : Choices) (es : List Event) → AllByRecursion AddsSecond es → AllByRecursion BeginsLow es → (w : World) (p : Past) → Lasts p w → HasLow (view p)
    → HasLow (view (past_from p (entries_from c w es)))
low_on c [] adds names w p lasts is = is
low_on c (e ∷ es) adds names w p lasts is =
    low_on c es adds.1 names.1 (world_step c w e).0 (after p (world_step c w e).1) (lasts_next c w p e adds.0 lasts) (low_next c w p e adds.0 names.0 lasts is)

-- after events of which each addition is of a secondary node and each bearer begins with a COUNT of 32 bits, so do all that plans set
pub low_always : (c : Choices) (h : Header) (policies : ℕ) (es : List Event) → AllByRecursion AddsSecond es → AllByRecursion BeginsLow es
    → AreLow (past h policies (entries_from c (new_world h) es)).plans
low_always c h policies es adds names = (low_on c es adds names (new_world h) (new_past h policies) (lasts_new h policies) (record { rows = tt; plans = tt })).plans
