-- Where bearers have identities of 1 to 32, and fewer than 2^23 events happen, all plans are small.
use Rattle.std.proofs.Common.{ℕ, length, ◌≡◌, ◌≤◌, ◌<◌, ◌+◌, ◌*◌, ◌^◌, ◌==◌, ◌&&◌, ◌++◌, Bool, true, false, List, [], ◌∷◌, Option, Some, None, refl, sym, ap, subst, ◌∙◌, arith, inl, inr}
use Rattle.std.specs.Prelude.{filter, find, fold, map, nat_lt, not, ⊤}
use Rattle.std.specs.List.{AllByRecursion}
use Rattle.std.proofs.lemmas.Bool.{cases_Bool, eqb-true}
use Rattle.dc_base.specs.Nodes.{is_mm}
use Rattle.dc_base.specs.declared.answers.Answer.{Answer}
use Rattle.dc_base.specs.declared.answers.Answer.TheVariants as answer
use Rattle.dc_base.specs.declared.events.Event.{Event}
use Rattle.dc_base.specs.declared.events.Event.TheVariants as event
use Rattle.dc_base.specs.declared.events.Header.{Header}
use Rattle.dc_base.specs.declared.events.Line.{Line}
use Rattle.dc_base.specs.declared.flights.Flight.{Flight}
use Rattle.dc_base.specs.declared.nodes.KeyName.{KeyName}
use Rattle.dc_base.specs.declared.nodes.LinkId.{LinkId}
use Rattle.dc_base.specs.declared.nodes.Node.{Node}
use Rattle.dc_base.specs.declared.nodes.Shape.{Shape}
use Rattle.dc_base.specs.declared.nodes.Want.{Want}
use Rattle.dc_base.specs.declared.nodes.Want.TheVariants as want
use Rattle.dc_base.specs.declared.records.Item.{Item}
use Rattle.dc_base.specs.declared.records.Item.TheVariants.{Set, Unset}
use Rattle.dc_base.specs.declared.records.Plan.{Plan}
use Rattle.master_runs.proofs.Lists.{each_filter}
use Rattle.claims.specs.Carrying.{with_item, with_row}
use Rattle.claims.specs.Drafts.{Draft, command_of, draft, set_to}
use Rattle.claims.specs.Links.{find_at}
use Rattle.claims.specs.Noted.{after, past, past_from}
use Rattle.claims.specs.Past.{Past, new_past}
use Rattle.claims.specs.Reading.{Setting, setting_of, sets}
use Rattle.claims.specs.Shapes.{mm}
use Rattle.claims.specs.Table.{Command, Row, Table, is_change, next_key, second_key}
use Rattle.claims.specs.Views.{forwarding_of}
use Rattle.node_rules.specs.Choices.{Choices}
use Rattle.node_rules.specs.Run.{entries_from, world_step}
use Rattle.node_rules.specs.World.{World, new_world}
use Rattle.run_control.specs.Sound.{AddsSecond}
use Rattle.run_table.specs.View.{View, carries, carries_if, carries_plan, carries_with, draws_if, ends, planned, view}
use Rattle.run_table.specs.Words.{Ending, Words, begun_notes, by_words, done, hears, is_word_line, lines_in, order_sends, over_notes, rejected}
use Rattle.run_table.proofs.LineWords.{quiet_line}
use Rattle.run_table.proofs.Runs.{Lasts, lasts_new, lasts_next}
use Rattle.run_table.proofs.Steps.{agrees_after}
use Rattle.run_table.proofs.Views.{after_view, hears_answer, hears_event, loses, loses_flight}
use Rattle.run_uplinks.specs.Readings.{reading}
use Rattle.run_uplinks.specs.Seen.{seen, setting_in}
use Rattle.run_uplinks.proofs.Wells.{AreUpTo}
use Rattle.run_relays.specs.Kept.{AreSmall}
use Rattle.run_relays.specs.Ranges.{IsIdentity, IsNamed, IsNamedItem, IsNamedPlan, IsNamedRow, NamesIdentity}
use Rattle.run_relays.proofs.Runs.{read_new, run_becomes}

-- ---- drafts

items_named : (t : Table) (root : ℕ) (k : KeyName) (shape : Row → Shape) (rows : List Row) → AllByRecursion IsNamedRow rows → AllByRecursion IsNamedItem (map (set_to t root k shape) rows)
items_named t root k shape [] all = tt
items_named t root k shape (r ∷ rows) all = (all.0, items_named t root k shape rows all.1)

-- the items of a draft, if there is one
abbrev DraftNamed : Option Draft → Type 0
DraftNamed None = ⊤
DraftNamed (Some d) = AllByRecursion IsNamedItem d.items

draft_named : (t : Table) → AllByRecursion IsNamedRow t.rows → (e : Event) → NamesIdentity e → DraftNamed (draft t e)
draft_named t rows (event.Bearer id n first shape threshold policy) names = (names, tt)
draft_named t rows (event.Reshape id shape) names = items_named t t.root t.second_key (λ r. shape) (filter (λ r. r.id == id) t.rows) (each_filter IsNamedRow (λ r. r.id == id) t.rows rows)
draft_named t rows (event.Remove id) names = (tt, tt)
draft_named t rows (event.Add x) names = tt
draft_named t rows event.Change names =
    items_named t t.root (next_key t) (λ r. r.shape) (filter (λ r. not (is_mm r.shape)) t.rows) (each_filter IsNamedRow (λ r. not (is_mm r.shape)) t.rows rows)
draft_named t rows event.Release names =
    items_named t t.root t.second_key (λ r. mm) (filter (λ r. not (is_mm r.shape)) t.rows) (each_filter IsNamedRow (λ r. not (is_mm r.shape)) t.rows rows)
draft_named t rows event.RekeySecond names =
    items_named t t.root (next_key t) (λ r. r.shape) (filter (λ r. r.shape.at_second) t.rows) (each_filter IsNamedRow (λ r. r.shape.at_second) t.rows rows)
draft_named t rows (event.RekeyMaster octets) names = items_named t (length t.roots) (second_key (length t.roots) 0) (λ r. r.shape) t.rows rows
draft_named t rows (event.Recover id) names = tt
draft_named t rows (event.Submit id d sdu) names = tt
draft_named t rows (event.Report x id) names = tt
draft_named t rows (event.Deny x on) names = tt
draft_named t rows (event.Ask x w) names = tt
draft_named t rows event.ScgFail names = tt
draft_named t rows (event.Step l i) names = tt
draft_named t rows (event.Lose l i) names = tt
draft_named t rows (event.Again l i) names = tt

-- ---- steps of the table

later : (k : ℕ) (v : View) → IsNamed k v → IsNamed (k + 1) v
later k v is = record { rows = is.rows; plans = is.plans; last = let le = is.last in omega (arith, le) }

draws_named : (k : ℕ) (e : Event) (asker : Option Node) (o : Option Draft) (v : View) → DraftNamed o → IsNamed k v → IsNamed (k + 1) (draws_if e asker o v)
draws_named k e asker None v named is = later k v is
draws_named k e asker (Some d) v named is = record { rows = is.rows; plans = (named, is.plans); last = let le = is.last in omega (arith, le) }

command_named : (k : ℕ) (e : Event) (asker : Option Node) (v : View) → NamesIdentity e → IsNamed k v → IsNamed (k + 1) (draws_if e asker (draft v.table e) v)
command_named k e asker v names is = draws_named k e asker (draft v.table e) v (draft_named v.table is.rows e names) is

row_named : (r : Row) (rows : List Row) → IsNamedRow r → AllByRecursion IsNamedRow rows → AllByRecursion IsNamedRow (with_row r rows)
row_named r [] named all = (named, tt)
row_named r (x ∷ xs) named all =
    elim (cases_Bool (x.id == r.id)) [
      | inl same ↦ rw same (named, all.1)
      | inr apart ↦ elim (cases_Bool (nat_lt r.id x.id)) [
        | inl before ↦ rw (apart, before) (named, all)
        | inr after' ↦ rw (apart, after') (all.0, row_named r xs named all.1)
      ]
    ]

-- after a plan: rows named, and the same generation last
carried_named : (g : ℕ) (items : List Item) (t : Table) → AllByRecursion IsNamedItem items → AllByRecursion IsNamedRow t.rows → AllByRecursion IsNamedRow (fold (with_item g) t items).rows × ((fold (with_item g) t items).last ≡ t.last)
carried_named g [] t named rows = (rows, refl)
carried_named g (Set id n first shape threshold policy key old ∷ items) t named rows =
    let i = Set id n first shape threshold policy key old in
    let more = carried_named g items (with_item g t i) named.1 (row_named _ t.rows named.0 rows) in (more.0, more.1)
carried_named g (Unset id ∷ items) t named rows =
    let more = carried_named g items (with_item g t (Unset id)) named.1 (each_filter IsNamedRow (λ r. not (r.id == id)) t.rows rows) in (more.0, more.1)

found_plan : (g : ℕ) (plans : List Plan) (q : Plan) → AllByRecursion IsNamedPlan plans → planned plans g ≡ Some q → IsNamedPlan q
found_plan g [] q all at = absurd (let bad : None ≡ Some q = at in cc)
found_plan g (x ∷ plans) q all at =
    elim (cases_Bool (x.g == g)) [
      | inl here ↦ let same : x ≡ q = let e = rw here at at in cc in subst IsNamedPlan same all.0
      | inr there ↦ found_plan g plans q all.1 (rw there at at)
    ]

plan_named : (k g : ℕ) (c : Command) (o : Option Plan) (v : View) → planned v.plans g ≡ o → IsNamed k v → IsNamed k (carries_plan g c o v)
plan_named k g c None v at is = is
plan_named k g c (Some q) v at is =
    let x = carried_named g q.items v.table (found_plan g v.plans q is.plans at) is.rows in record { rows = x.0; plans = is.plans; last = subst (λ n. n ≤ k) (sym x.1) is.last }

if_named : (k g : ℕ) (c : Command) (b : Bool) (v : View) → IsNamed k v → IsNamed k (carries_if g c b v)
if_named k g c false v is = is
if_named k g c true v is = plan_named k g c (planned v.plans g) v refl is

with_named : (k g : ℕ) (o : Option Command) (v : View) → IsNamed k v → IsNamed k (carries_with g o v)
with_named k g None v is = is
with_named k g (Some c) v is = if_named k g c (is_change g c.kind && not c.is_carried) v is

order_named : (k : ℕ) (g : ℕ) (v : View) → IsNamed k v → IsNamed k (carries g v)
order_named k g v is = with_named k g v.table.command v is

ends_named : (k : ℕ) (v : View) → IsNamed k v → IsNamed k (ends v)
ends_named k v is = record { rows = is.rows; plans = is.plans; last = is.last }

-- a request names no identity
wanted : (w : Want) → NamesIdentity (command_of w)
wanted want.Rekey = tt
wanted want.Change = tt
wanted want.Release = tt

-- ---- the words of an event

module _ (k : ℕ) where
  begun_named : (begun : Option Want) (order : Option (Plan × List ℕ)) (v : View) → IsNamed k v → IsNamed (k + 1) (fold hears v (lines_in (begun_notes begun) (order_sends order)))
  begun_named None None v is = later k v is
  begun_named None (Some x) v is = order_named (k + 1) x.0.g v (later k v is)
  begun_named (Some w) None v is = command_named k (command_of w) v.table.sec v (wanted w) is
  begun_named (Some w) (Some x) v is =
      order_named (k + 1) x.0.g (draws_if (command_of w) v.table.sec (draft v.table (command_of w)) v) (command_named k (command_of w) v.table.sec v (wanted w) is)

  over_named : (over : Option Ending) (begun : Option Want) (order : Option (Plan × List ℕ)) (v : View) → IsNamed k v → IsNamed (k + 1) (fold hears v (lines_in (over_notes over ++ begun_notes begun) (order_sends order)))
  over_named None begun order v is = begun_named begun order v is
  over_named (Some done) begun order v is = begun_named begun order (ends v) (ends_named k v is)
  over_named (Some rejected) begun order v is = begun_named begun order (ends v) (ends_named k v is)

words_named : (k : ℕ) (w : Words) (v : View) → IsNamed k v → IsNamed (k + 1) (by_words w v)
words_named k w v is = over_named k w.over w.begun w.order v is

words_alone : (xs : List Line) (v : View) → fold hears v xs ≡ fold hears v (filter is_word_line xs)
words_alone [] v = refl
words_alone (x ∷ xs) v =
    elim (cases_Bool (is_word_line x)) [
      | inl yes' ↦ rw yes' (words_alone xs (hears v x))
      | inr no' ↦ rw no' (ap (λ w. fold hears w xs) (quiet_line v x no') ∙ words_alone xs v)
    ]

-- ---- an answer

lost_named : (k : ℕ) (o : Option (LinkId × Flight)) (v : View) → IsNamed k v → IsNamed k (loses_flight o v)
lost_named k None v is = is
lost_named k (Some s) v is = by (forwarding_of s.1)
  where
    by : (o : Option (ℕ × ℕ)) → IsNamed k (loses o v)
    by None = is
    by (Some x) = record { rows = is.rows; plans = is.plans; last = is.last }

event_named : (k : ℕ) (p : Past) (e : Event) (v : View) → NamesIdentity e → IsNamed k v → IsNamed (k + 1) (hears_event p e v)
event_named k p (event.Bearer id n first shape threshold policy) v names is = command_named k (event.Bearer id n first shape threshold policy) None v names is
event_named k p (event.Reshape id shape) v names is = command_named k (event.Reshape id shape) None v names is
event_named k p (event.Remove id) v names is = command_named k (event.Remove id) None v names is
event_named k p (event.Add x) v names is = command_named k (event.Add x) None v names is
event_named k p event.Change v names is = command_named k event.Change None v names is
event_named k p event.Release v names is = command_named k event.Release None v names is
event_named k p event.RekeySecond v names is = command_named k event.RekeySecond None v names is
event_named k p (event.RekeyMaster root) v names is = command_named k (event.RekeyMaster root) None v names is
event_named k p (event.Recover id) v names is = record { rows = is.rows; plans = is.plans; last = let le = is.last in omega (arith, le) }
event_named k p (event.Lose l i) v names is = later k (loses_flight (find_at l i p.standing) v) (lost_named k (find_at l i p.standing) v is)
event_named k p (event.Submit id d sdu) v names is = later k v is
event_named k p (event.Report x id) v names is = later k v is
event_named k p (event.Deny x on) v names is = later k v is
event_named k p (event.Ask x w) v names is = later k v is
event_named k p event.ScgFail v names is = later k v is
event_named k p (event.Step l i) v names is = later k v is
event_named k p (event.Again l i) v names is = later k v is

answer_named : (k : ℕ) (p : Past) (e : Event) (a : Answer) (v : View) → NamesIdentity e → IsNamed k v → IsNamed (k + 1) (hears_answer p e a v)
answer_named k p e answer.Ok v names is = event_named k p e v names is
answer_named k p e (answer.No why) v names is = later k v is

-- ---- a run

-- an event draws two plans at most
named_next : (k : ℕ) (c : Choices) (w : World) (p : Past) (e : Event) → AddsSecond e → NamesIdentity e → Lasts p w → IsNamed k (view p) → IsNamed (k + 2) (view (after p (world_step c w e).1))
named_next k c w p e adds names lasts is =
    let x = (world_step c w e).1 in
    let v = hears_answer p e x.answer (view p) in
    let said = agrees_after c w p (view p) e adds lasts.none lasts.agree in
    let more = words_named (k + 1) said.words v (answer_named k p e x.answer (view p) names is) in
    let same : view (after p x) ≡ by_words said.words v = after_view p x ∙ words_alone x.lines v ∙ ap (fold hears v) said.said in
    let sum : (k + 1) + 1 ≡ k + 2 = omega arith in
    subst (λ n. IsNamed n (view (after p x))) sum (subst (IsNamed ((k + 1) + 1)) (sym same) more)

named_on : (c : Choices) (es : List Event) → AllByRecursion AddsSecond es → AllByRecursion NamesIdentity es → (k : ℕ) (w : World) (p : Past) → Lasts p w → IsNamed k (view p)
    → IsNamed (k + 2 * length es) (view (past_from p (entries_from c w es)))
named_on c [] adds names k w p lasts is = let sum : k ≡ k + 2 * 0 = omega arith in subst (λ n. IsNamed n (view p)) sum is
named_on c (e ∷ es) adds names k w p lasts is =
    let q = after p (world_step c w e).1 in
    let more = named_on c es adds.1 names.1 (k + 2) (world_step c w e).0 q (lasts_next c w p e adds.0 lasts) (named_next k c w p e adds.0 names.0 lasts is) in
    let sum : (k + 2) + 2 * length es ≡ k + 2 * length (e ∷ es) = omega arith in
    subst (λ n. IsNamed n (view (past_from q (entries_from c (world_step c w e).0 es)))) sum more

-- ---- small plans

found_named : (sec : Option Node) (id : ℕ) (items : List Item) (x : Setting) → AllByRecursion IsNamedItem items → setting_of sec (find (sets id) items) ≡ Some x → IsIdentity id
found_named sec id [] x all at = absurd (let bad : None ≡ Some x = at in cc)
found_named sec id (Set i n first shape threshold policy key old ∷ items) x all at =
    elim (cases_Bool (i == id)) [
      | inl here ↦ subst IsIdentity (eqb-true i id here) all.0
      | inr there ↦ found_named sec id items x all.1 (rw there at at)
    ]
found_named sec id (Unset i ∷ items) x all at = found_named sec id items x all.1 at

set_small : (k last id g : ℕ) (plans : List Plan) (x : Setting) → last ≤ k → k < 2 ^ 24 → AreUpTo last plans → AllByRecursion IsNamedPlan plans → setting_in plans id g ≡ Some x → (1 ≤ id) × (id ≤ 32) × (g < 2 ^ 24)
set_small k last id g [] x le small upto named at = absurd (let bad : None ≡ Some x = at in cc)
set_small k last id g (q ∷ plans) x le small upto named at =
    elim (cases_Bool (q.g == g)) [
      | inl here ↦
          let of = found_named q.sec id q.items x named.0 (rw here at at) in
          let is = eqb-true q.g g here in
          let below = upto.0 in
          (of.0, of.1, omega (arith, is, below, le, small))
      | inr there ↦ set_small k last id g plans x le small upto.1 named.1 (rw there at at)
    ]

-- after fewer than 2^23 events of which each addition is of a secondary node and each bearer has an identity of 1 to 32, all plans
-- drawn are of generations below 2^24 and set such identities alone
pub small_always : (c : Choices) (h : Header) (policies : ℕ) (es : List Event) → AllByRecursion AddsSecond es → AllByRecursion NamesIdentity es → length es < 2 ^ 23
    → AreSmall (reading (seen (past h policies (entries_from c (new_world h) es))))
small_always c h policies es adds names few = λ id g x at.
    let p = past h policies (entries_from c (new_world h) es) in
    let k = 0 + 2 * length es in
    let is = named_on c es adds names 0 (new_world h) (new_past h policies) (lasts_new h policies) (record { rows = tt; plans = tt; last = omega arith }) in
    let well = (run_becomes c es (new_world h) (new_past h policies) (read_new h policies)).is.well in
    set_small k p.table.last id g p.plans x is.last (omega (arith, few)) well.plans is.plans at
