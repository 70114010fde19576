-- The rows of the command table ascend, each plan that was drawn stays the one of its generation, and the keys of the open
-- command's plan are of the root that is current once it is carried out.
use Rattle.std.proofs.Common.{ℕ, length, ◌≡◌, ◌≤◌, ◌<◌, ◌+◌, ◌==◌, Bool, true, false, List, [], ◌∷◌, Option, Some, None, refl, sym, ap, subst, ◌∙◌, arith, inl, inr}
use Rattle.std.specs.Prelude.{slice_index_or, ⊤, fold, nat_lt, not, ◌&&◌}
use Rattle.std.specs.List.{AllByRecursion}
use Rattle.std.proofs.lemmas.Bool.{cases_Bool, eq-eqb, eqb-true, ltb-true, ltb-false, eqb-false, ne_eqb}
use Rattle.dc_base.specs.declared.answers.Answer.{Answer}
use Rattle.dc_base.specs.declared.answers.Answer.TheVariants as answer
use Rattle.dc_base.specs.declared.events.Event.{Event}
use Rattle.dc_base.specs.declared.events.Event.TheVariants as event
use Rattle.dc_base.specs.declared.events.Header.{Header}
use Rattle.dc_base.specs.declared.events.Line.{Line}
use Rattle.dc_base.specs.declared.events.Line.TheVariants as line
use Rattle.dc_base.specs.declared.events.Note.TheVariants as note
use Rattle.dc_base.specs.declared.flights.Flight.{Flight}
use Rattle.dc_base.specs.declared.flights.Flight.TheVariants as flight
use Rattle.dc_base.specs.declared.nodes.LinkId.{LinkId}
use Rattle.dc_base.specs.declared.nodes.Node.{Node}
use Rattle.dc_base.specs.declared.records.Item.{Item}
use Rattle.dc_base.specs.declared.records.Item.TheVariants.{Set, Unset}
use Rattle.dc_base.specs.declared.records.Plan.{Plan}
use Rattle.dc_base.specs.declared.records.Rec.{Rec}
use Rattle.dc_base.specs.declared.records.Rec.TheVariants as rec
use Rattle.claims.specs.Carrying.{bearer_in_row, with_item, with_row}
use Rattle.claims.specs.Drafts.{Draft, command_of, draft}
use Rattle.claims.specs.Judged.{lost_command}
use Rattle.claims.specs.Links.{find_at}
use Rattle.claims.specs.Views.{forwarding_of}
use Rattle.claims.specs.Past.{Past, new_past}
use Rattle.claims.specs.Table.{Command, Row, Table, is_change, row}
use Rattle.run_table.specs.View.{View, carries_if, carries_plan, carries_with, draws_if, ends, planned, view}
use Rattle.run_table.specs.Words.{hears, is_word_line}
use Rattle.run_table.proofs.LineWords.{quiet_line}
use Rattle.run_table.proofs.Views.{hears_answer, hears_event, loses, loses_flight, recovers}
use Rattle.run_uplinks.specs.Uplinks.{IsOfRoot, RowsAscend}
use Rattle.run_uplinks.proofs.Drawing.{index_more, some_rows}
use Rattle.run_uplinks.proofs.Establishments.{some_is}
use Rattle.run_uplinks.proofs.Roots.{OfOneRoot, draft_root}
use Rattle.std.proofs.lemmas.List.{length-append}

-- no plan is of a later generation than the last
abbrev pub AreUpTo : ℕ → List Plan → Type 0
AreUpTo last plans = AllByRecursion (λ (q : Plan). q.g ≤ last) plans

-- an open command
pub record IsKeyed (plans : List Plan) (roots : List (List ℕ)) (c : Command) : Type 0 where
  pub named : c.root < length roots
  pub second : c.second_key.root ≡ c.root
  pub items : (g : ℕ) (q : Plan) → is_change g c.kind ≡ true → planned plans g ≡ Some q → AllByRecursion (IsOfRoot c.root) q.items

-- if there is one
abbrev pub AreKeyed : List Plan → List (List ℕ) → Option Command → Type 0
AreKeyed plans roots None = ⊤
AreKeyed plans roots (Some c) = IsKeyed plans roots c

-- all of it
pub record IsWell (v : View) : Type 0 where
  pub rows : RowsAscend 0 v.table.rows
  pub plans : AreUpTo v.table.last v.plans
  pub root : v.table.root < length v.table.roots
  pub second : v.table.second_key.root ≡ v.table.root
  pub command : AreKeyed v.plans v.table.roots v.table.command

-- what was drawn stays the plan of its generation, and a root that was named stays
pub record Grows (v w : View) : Type 0 where
  pub well : IsWell w
  pub stays : (g : ℕ) (q : Plan) → planned v.plans g ≡ Some q → planned w.plans g ≡ Some q
  pub roots : (i : ℕ) → i < length v.table.roots → (i < length w.table.roots) × (slice_index_or w.table.roots i [] ≡ slice_index_or v.table.roots i [])

nothing_grows : (v : View) → IsWell v → Grows v v
nothing_grows v is = record { well = is; stays = λ g q at. at; roots = λ i below. (below, refl) }

-- where plans, roots and last generation stay
same_plans : (v : View) (t : Table) → t.roots ≡ v.table.roots → IsWell (record v { table = t }) → Grows v (record v { table = t })
same_plans v t same well = record {
  well = well;
  stays = λ g q at. at;
  roots = λ i below. (subst (λ rs. i < length rs) (sym same) below, ap (λ rs. slice_index_or rs i []) same);
}

-- ---- drawing

all_up : (last : ℕ) (plans : List Plan) → AreUpTo last plans → AreUpTo (last + 1) plans
all_up last [] all = tt
all_up last (q ∷ plans) all = (omega (arith, all.0), all_up last plans all.1)

found_up : (last g : ℕ) (plans : List Plan) (q : Plan) → AreUpTo last plans → planned plans g ≡ Some q → g ≤ last
found_up last g [] q all at = absurd (let bad : None ≡ Some q = at in cc)
found_up last g (p ∷ plans) q all at =
    elim (cases_Bool (p.g == g)) [
      | inl here ↦ let is = eqb-true p.g g here in omega (arith, is, all.0)
      | inr there ↦ found_up last g plans q all.1 (rw there at at)
    ]

found_last : (last : ℕ) (q p : Plan) (plans : List Plan) (g : ℕ) → q.g ≡ last → (g == last) ≡ true → planned (q ∷ plans) g ≡ Some p → q ≡ p
found_last last q p plans g of_last same at = let here : (q.g == g) ≡ true = eq-eqb q.g g (of_last ∙ sym (eqb-true g last same)) in some_is q p (rw here at at)

draws_grow : (e : Event) (asker : Option Node) (o : Option Draft) (v : View) → OfOneRoot v.table o → IsWell v → Grows v (draws_if e asker o v)
draws_grow e asker None v one is = nothing_grows v is
draws_grow e asker (Some d) v one is =
    let q : Plan = record { g = v.table.last + 1; sec = d.sec; items = d.items } in
    record {
      well = record {
        rows = is.rows;
        plans = (omega arith, all_up v.table.last v.plans is.plans);
        root = let more = length-append v.table.roots d.named in let below = is.root in omega (arith, more, below);
        second = is.second;
        command = record {
          named = one.named;
          second = one.second;
          items = λ g p of_g at. subst (λ (x : Plan). AllByRecursion (IsOfRoot d.root) x.items) (found_last (v.table.last + 1) q p v.plans g refl of_g at) one.items;
        };
      };
      stays = λ g p at.
          let upto = found_up v.table.last g v.plans p is.plans at in
          let apart : (v.table.last + 1 == g) ≡ false = ne_eqb (v.table.last + 1) g (λ same. omega (arith, upto, same)) in
          rw apart at;
      roots = λ i below. (let more = length-append v.table.roots d.named in omega (arith, more, below), index_more v.table.roots d.named i below);
    }

-- a command is drawn
command_grows : (e : Event) (asker : Option Node) (v : View) → IsWell v → Grows v (draws_if e asker (draft v.table e) v)
command_grows e asker v is = draws_grow e asker (draft v.table e) v (draft_root v.table is.root is.second e) is

-- ---- carrying out

row_put : (from : ℕ) (r : Row) (rows : List Row) → from ≤ r.id → RowsAscend from rows → RowsAscend from (with_row r rows)
row_put from r [] le up = (le, tt)
row_put from r (x ∷ rows) le up =
    elim (cases_Bool (x.id == r.id)) [
      | inl same ↦ let is = eqb-true x.id r.id same in rw same (le, subst (λ k. RowsAscend (k + 1) rows) is up.1)
      | inr apart ↦ elim (cases_Bool (nat_lt r.id x.id)) [
        | inl before ↦ let less = ltb-true r.id x.id before in rw apart (rw before (le, (omega (arith, less), up.1)))
        | inr after ↦
            let more = ltb-false r.id x.id after in
            rw apart (rw after (up.0, row_put (x.id + 1) r rows (omega (arith, more, eqb-false x.id r.id apart)) up.1))
      ]
    ]

item_rows : (g : ℕ) (t : Table) (i : Item) → RowsAscend 0 t.rows → (RowsAscend 0 (with_item g t i).rows) × ((with_item g t i).last ≡ t.last)
item_rows g t (Set id n first shape threshold policy key old) up = (
  row_put 0 (record { id = id; bearer = bearer_in_row g old (row t id); n = n; first = first; shape = shape; threshold = threshold; policy = policy; key = key }) t.rows (omega arith) up,
  refl,
)
item_rows g t (Unset id) up = (some_rows (λ (r : Row). not (r.id == id)) 0 t.rows up, refl)

items_rows : (g : ℕ) (items : List Item) (t : Table) → RowsAscend 0 t.rows → (RowsAscend 0 (fold (with_item g) t items).rows) × ((fold (with_item g) t items).last ≡ t.last) × ((fold (with_item g) t items).roots ≡ t.roots)
items_rows g [] t up = (up, refl, refl)
items_rows g (Set id n first shape threshold policy key old ∷ items) t up =
    let i = Set id n first shape threshold policy key old in let here = item_rows g t i up in let more = items_rows g items (with_item g t i) here.0 in (more.0, more.1, more.2)
items_rows g (Unset id ∷ items) t up = let here = item_rows g t (Unset id) up in let more = items_rows g items (with_item g t (Unset id)) here.0 in (more.0, more.1, more.2)

plan_grows : (g : ℕ) (c : Command) (o : Option Plan) (v : View) → v.table.command ≡ Some c → IsWell v → Grows v (carries_plan g c o v)
plan_grows g c None v open' is = nothing_grows v is
plan_grows g c (Some q) v open' is =
    let x = items_rows g q.items v.table is.rows in
    let t = fold (with_item g) v.table q.items in
    let k : IsKeyed v.plans v.table.roots c = subst (AreKeyed v.plans v.table.roots) open' is.command in
    same_plans v (record t { sec = q.sec; root = c.root; second_key = c.second_key; command = Some (record c { is_carried = true }) }) x.2
    (record {
      rows = x.0;
      plans = subst (λ j. AreUpTo j v.plans) (sym x.1) is.plans;
      root = subst (λ rs. c.root < length rs) (sym x.2) k.named;
      second = k.second;
      command = record { named = subst (λ rs. c.root < length rs) (sym x.2) k.named; second = k.second; items = k.items };
    })

if_grows : (g : ℕ) (c : Command) (b : Bool) (v : View) → v.table.command ≡ Some c → IsWell v → Grows v (carries_if g c b v)
if_grows g c false v open' is = nothing_grows v is
if_grows g c true v open' is = plan_grows g c (planned v.plans g) v open' is

with_grows : (g : ℕ) (o : Option Command) (v : View) → v.table.command ≡ o → IsWell v → Grows v (carries_with g o v)
with_grows g None v open' is = nothing_grows v is
with_grows g (Some c) v open' is = if_grows g c (is_change g c.kind && not c.is_carried) v open' is

-- ---- lines

ends_grow : (v : View) → IsWell v → Grows v (ends v)
ends_grow v is = same_plans v (record v.table { command = None }) refl (record { rows = is.rows; plans = is.plans; root = is.root; second = is.second; command = tt })

quiet_grows : (v : View) (x : Line) → is_word_line x ≡ false → IsWell v → Grows v (hears v x)
quiet_grows v x quiet is = subst (λ w. Grows v w) (sym (quiet_line v x quiet)) (nothing_grows v is)

record_grows : (v : View) (l : LinkId) (r : Rec) → IsWell v → Grows v (hears v (line.Send l (flight.Ctl r)))
record_grows v l (rec.Reconf q key) is = with_grows q.g v.table.command v refl is
record_grows v l (rec.Rcomp g) is = nothing_grows v is
record_grows v l (rec.Scgf pairs) is = nothing_grows v is
record_grows v l (rec.Recov id) is = nothing_grows v is
record_grows v l (rec.Recovd id) is = nothing_grows v is
record_grows v l (rec.Addreq q key) is = nothing_grows v is
record_grows v l (rec.Addack g) is = nothing_grows v is
record_grows v l (rec.Addrej g) is = nothing_grows v is
record_grows v l (rec.Modreq q key) is = nothing_grows v is
record_grows v l (rec.Modack g) is = nothing_grows v is
record_grows v l (rec.Modrej g) is = nothing_grows v is
record_grows v l (rec.Recfg g) is = nothing_grows v is
record_grows v l (rec.Relreq q) is = nothing_grows v is
record_grows v l (rec.Relack g) is = nothing_grows v is
record_grows v l (rec.Relrej g) is = nothing_grows v is
record_grows v l (rec.Uecr g) is = nothing_grows v is
record_grows v l (rec.Snst s) is = nothing_grows v is
record_grows v l (rec.Moved g id) is = nothing_grows v is
record_grows v l (rec.Scgn id g) is = nothing_grows v is
record_grows v l rec.Modrqd is = nothing_grows v is
record_grows v l (rec.Modcnf g) is = nothing_grows v is
record_grows v l (rec.Modref w) is = nothing_grows v is
record_grows v l rec.Chgrqd is = nothing_grows v is
record_grows v l (rec.Chgcnf q) is = nothing_grows v is
record_grows v l (rec.Chgref w) is = nothing_grows v is
record_grows v l rec.Relrqd is = nothing_grows v is
record_grows v l (rec.Relcnf q) is = nothing_grows v is

-- a line
pub line_grows : (v : View) (x : Line) → IsWell v → Grows v (hears v x)
line_grows v (line.Note (note.Begin w)) is = command_grows (command_of w) v.table.sec v is
line_grows v (line.Note note.Done) is = ends_grow v is
line_grows v (line.Note note.Rejected) is = ends_grow v is
line_grows v (line.Note (note.Join x g)) is = nothing_grows v is
line_grows v (line.Note (note.Leave x g)) is = nothing_grows v is
line_grows v (line.Note (note.Give x id g)) is = nothing_grows v is
line_grows v (line.Note (note.Own x id g)) is = nothing_grows v is
line_grows v (line.Note (note.Set id g)) is = nothing_grows v is
line_grows v (line.Note (note.Unset id)) is = nothing_grows v is
line_grows v (line.Note (note.Up x id d count sdu)) is = nothing_grows v is
line_grows v (line.Note (note.Freed id d count)) is = nothing_grows v is
line_grows v (line.Note (note.Confirmed x)) is = nothing_grows v is
line_grows v (line.Note (note.Refused x w)) is = nothing_grows v is
line_grows v (line.Send l (flight.Ctl r)) is = record_grows v l r is
line_grows v (line.Send l (flight.Air id g num tag pdu)) is = nothing_grows v is
line_grows v (line.Send l (flight.Ack id g num)) is = nothing_grows v is
line_grows v (line.Send l (flight.Tun tag packet)) is = nothing_grows v is
line_grows v (line.Send l (flight.Sdu id g sdu)) is = nothing_grows v is
line_grows v (line.Send l (flight.End id g)) is = nothing_grows v is
line_grows v (line.Send l (flight.Told id g count)) is = nothing_grows v is
line_grows v (line.Event e) is = nothing_grows v is
line_grows v (line.Answer a) is = nothing_grows v is

pub then_grows : (u v w : View) → Grows u v → Grows v w → Grows u w
then_grows u v w one more = record {
  well = more.well;
  stays = λ g q at. more.stays g q (one.stays g q at);
  roots = λ i below. let x = one.roots i below in let y = more.roots i x.0 in (y.0, y.1 ∙ x.1);
}

pub lines_grow : (xs : List Line) (v : View) → IsWell v → Grows v (fold hears v xs)
lines_grow [] v is = nothing_grows v is
lines_grow (x ∷ xs) v is = let one = line_grows v x is in then_grows v (hears v x) (fold hears (hears v x) xs) one (lines_grow xs (hears v x) one.well)

-- ---- an event

lost_grows : (o : Option (LinkId × Flight)) (v : View) → IsWell v → Grows v (loses_flight o v)
lost_grows None v is = nothing_grows v is
lost_grows (Some s) v is = by (forwarding_of s.1)
  where
    by : (o : Option (ℕ × ℕ)) → Grows v (loses o v)
    by None = nothing_grows v is
    by (Some x) =
        same_plans v (record v.table { command = lost_command x.1 v.table.command }) refl
        (record { rows = is.rows; plans = is.plans; root = is.root; second = is.second; command = still x.1 v.table.command is.command })
      where
        still : (g : ℕ) (o : Option Command) → AreKeyed v.plans v.table.roots o → AreKeyed v.plans v.table.roots (lost_command g o)
        still g None keyed = tt
        still g (Some c) keyed = record { named = keyed.named; second = keyed.second; items = keyed.items }

event_grows : (p : Past) (e : Event) (v : View) → IsWell v → Grows v (hears_event p e v)
event_grows p (event.Bearer id n first shape threshold policy) v is = let e = event.Bearer id n first shape threshold policy in command_grows e None v is
event_grows p (event.Reshape id shape) v is = let e = event.Reshape id shape in command_grows e None v is
event_grows p (event.Remove id) v is = let e = event.Remove id in command_grows e None v is
event_grows p (event.Add x) v is = let e = event.Add x in command_grows e None v is
event_grows p event.Change v is = command_grows event.Change None v is
event_grows p event.Release v is = command_grows event.Release None v is
event_grows p event.RekeySecond v is = command_grows event.RekeySecond None v is
event_grows p (event.RekeyMaster root) v is = let e = event.RekeyMaster root in command_grows e None v is
event_grows p (event.Recover id) v is =
    same_plans v (recovers id v).table refl
    (record {
      rows = is.rows;
      plans = is.plans;
      root = is.root;
      second = is.second;
      command = record { named = is.root; second = is.second; items = λ g q of_g at. absurd (let bad : false ≡ true = of_g in cc) };
    })
event_grows p (event.Lose l i) v is = lost_grows (find_at l i p.standing) v is
event_grows p (event.Submit id d sdu) v is = nothing_grows v is
event_grows p (event.Report x id) v is = nothing_grows v is
event_grows p (event.Deny x on) v is = nothing_grows v is
event_grows p (event.Ask x w) v is = nothing_grows v is
event_grows p event.ScgFail v is = nothing_grows v is
event_grows p (event.Step l i) v is = nothing_grows v is
event_grows p (event.Again l i) v is = nothing_grows v is

pub answer_grows : (p : Past) (e : Event) (a : Answer) (v : View) → IsWell v → Grows v (hears_answer p e a v)
answer_grows p e answer.Ok v is = event_grows p e v is
answer_grows p e (answer.No why) v is = nothing_grows v is

-- nothing happened yet
pub well_new : (h : Header) (policies : ℕ) → IsWell (view (new_past h policies))
well_new h policies = record { rows = tt; plans = tt; root = omega arith; second = refl; command = tt }
