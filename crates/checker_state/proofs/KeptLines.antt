-- What is kept of a past, after a line.
use Rattle.std.proofs.Common.{◌≡◌, ◌&&◌, ℕ, Bool, true, false, List, [], ◌∷◌, ◌+◌, Option, Some, None, not, refl, sym, ap, ◌∙◌}
use Rattle.std.specs.Option.{option_map}
use Rattle.std.specs.Prelude.{fold, if◌then◌else◌, map}
use Rattle.dc_base.specs.declared.events.Event.{Event}
use Rattle.dc_base.specs.declared.events.Event.TheVariants as event
use Rattle.dc_base.specs.declared.events.Line.{Line}
use Rattle.dc_base.specs.declared.events.Line.TheVariants as line
use Rattle.dc_base.specs.declared.events.Note.{Note}
use Rattle.dc_base.specs.declared.events.Note.TheVariants as note
use Rattle.dc_base.specs.declared.flights.Flight.{Flight}
use Rattle.dc_base.specs.declared.flights.Flight.TheVariants as flight
use Rattle.dc_base.specs.declared.nodes.Dir.{Dir}
use Rattle.dc_base.specs.declared.nodes.Dir.TheVariants.{Dl, Ul}
use Rattle.dc_base.specs.declared.nodes.LinkId.{LinkId}
use Rattle.dc_base.specs.declared.nodes.Node.{Node}
use Rattle.dc_base.specs.declared.nodes.Node.TheVariants.{T, M, A, B}
use Rattle.dc_base.specs.declared.nodes.Want.{Want}
use Rattle.dc_base.specs.declared.records.Item.{Item}
use Rattle.dc_base.specs.declared.records.Item.TheVariants.{Set, Unset}
use Rattle.dc_base.specs.declared.records.Plan.{Plan}
use Rattle.dc_base.specs.declared.records.Rec.{Rec}
use Rattle.dc_base.specs.declared.records.Rec.TheVariants as rec
use Rattle.claims.specs.Carrying.{carry, carry_if, carry_plan, carry_with, drawn_by, on_item, plan_of, with_command, with_draft, with_item, with_plan_drawn}
use Rattle.claims.specs.Drafts.{Draft, command_of, draft}
use Rattle.claims.specs.Noted.{answers, as_send, begun, done_by, given_away, noted, noted_flight, noted_note, noted_record, owned_by, put, set_to_generation, with_up}
use Rattle.claims.specs.Past.{Bearer, Past, Second}
use Rattle.claims.specs.Reading.{lane, plan, second, with_lane, with_second}
use Rattle.claims.specs.Table.{Command, Table, is_change}
use Rattle.checker_state.specs.Kept.{kept, kept_bearer, kept_command, kept_table}
use Rattle.checker_state.specs.Steps.{kept_begun, kept_draft, kept_drawn, kept_flight, kept_line, kept_note}
use Rattle.checker_state.proofs.KeptBearers.{change_unkept, change_with, dropped_with, if_with, items_with, latest_unkept, latest_with, map_unkept, map_with, new_with, owned_with}

-- the bearers alone are different
abbrev pub with_bearers : List Bearer → Past → Past
with_bearers bs p = record p { bearers = bs }

-- ---- secondary nodes

pub second_kept : (x : Node) (p : Past) → second x (kept p) ≡ second x p
second_kept T p = refl
second_kept M p = refl
second_kept A p = refl
second_kept B p = refl

pub with_second_kept : (x : Node) (s : Second) (p : Past) → kept (with_second x s p) ≡ with_second x s (kept p)
with_second_kept T s p = refl
with_second_kept M s p = refl
with_second_kept A s p = refl
with_second_kept B s p = refl

-- a change of a secondary
pub change_second : (x : Node) (f : Second → Second) (p : Past) → kept (with_second x (f (second x p)) p) ≡ with_second x (f (second x (kept p))) (kept p)
change_second T f p = refl
change_second M f p = refl
change_second A f p = refl
change_second B f p = refl

-- ---- drawing

pub draft_kept : (t : Table) (e : Event) → draft (kept_table t) e ≡ draft t e
draft_kept t (event.Bearer id n first shape threshold policy) = refl
draft_kept t (event.Reshape id shape) = refl
draft_kept t (event.Remove id) = refl
draft_kept t (event.Add x) = refl
draft_kept t event.Change = refl
draft_kept t event.Release = refl
draft_kept t event.RekeySecond = refl
draft_kept t (event.RekeyMaster root) = refl
draft_kept t (event.Recover id) = refl
draft_kept t (event.Submit id d sdu) = refl
draft_kept t (event.Report x id) = refl
draft_kept t (event.Deny x on) = refl
draft_kept t (event.Ask x w) = refl
draft_kept t event.ScgFail = refl
draft_kept t (event.Step l i) = refl
draft_kept t (event.Lose l i) = refl
draft_kept t (event.Again l i) = refl

with_draft_kept : (p : Past) (e : Event) (asker : Option Node) (o : Option Draft) → kept (with_draft p e asker o) ≡ kept_draft (kept p) e asker o
with_draft_kept p e asker None = refl
with_draft_kept p e asker (Some d) =
    ap (λ (bs : List Bearer). record (kept p) { plans = plan_of p.table d ∷ p.plans; bearers = bs; table = with_command (kept_table p.table) e asker d })
    (new_with (p.table.last + 1) d.items (map (with_plan_drawn d.items) p.bearers)
    ∙ ap (λ (bs : List Bearer). fold (Rattle.claims.specs.Carrying.with_new (p.table.last + 1)) bs d.items) (map_unkept (with_plan_drawn d.items) p.bearers (λ b. refl)))

pub drawn_kept : (e : Event) (asker : Option Node) (p : Past) → kept (drawn_by e asker p) ≡ kept_drawn e asker (kept p)
drawn_kept e asker p =
    with_draft_kept p e asker (draft p.table e) ∙ ap (kept_draft (kept p) e asker) (sym (draft_kept p.table e))

begun_kept : (o : Option Node) (w : Want) (p : Past) → kept (begun o w p) ≡ kept_begun o w (kept p)
begun_kept None w p = drawn_kept (command_of w) None p
begun_kept (Some x) w p =
    drawn_kept (command_of w) (Some x) (answers x p)
    ∙ ap (kept_drawn (command_of w) (Some x)) (change_second x (λ s. record s { request = None }) p)

-- ---- carrying out

item_kept : (g : ℕ) (t : Table) (item : Item) → with_item g (kept_table t) item ≡ kept_table (with_item g t item)
item_kept g t (Set id n first shape threshold policy key old) = refl
item_kept g t (Unset id) = refl

items_kept : (g : ℕ) (items : List Item) (t : Table) → fold (with_item g) (kept_table t) items ≡ kept_table (fold (with_item g) t items)
items_kept g [] t = refl
items_kept g (item ∷ items) t = ap (λ (u : Table). fold (with_item g) u items) (item_kept g t item) ∙ items_kept g items (with_item g t item)

carry_plan_kept : (p : Past) (g : ℕ) (c : Command) (o : Option Plan) → kept (carry_plan p g c o) ≡ carry_plan (kept p) g (kept_command c) o
carry_plan_kept p g c None = refl
carry_plan_kept p g c (Some q) =
    ap (λ (bs : List Bearer). record (kept p) {
      bearers = bs;
      table = record (kept_table (fold (with_item g) p.table q.items)) { sec = q.sec; root = c.root; second_key = c.second_key; command = Some (record (kept_command c) { is_carried = true }) };
    }) (items_with p g q.items p.bearers)
    ∙ ap (λ (t : Table). record (kept p) {
      bearers = fold (on_item (kept p) g) (map kept_bearer p.bearers) q.items;
      table = record t { sec = q.sec; root = c.root; second_key = c.second_key; command = Some (record (kept_command c) { is_carried = true }) };
    }) (sym (items_kept g q.items p.table))

carry_if_kept : (p : Past) (g : ℕ) (c : Command) (is : Bool) → kept (carry_if p g c is) ≡ carry_if (kept p) g (kept_command c) is
carry_if_kept p g c false = refl
carry_if_kept p g c true = carry_plan_kept p g c (plan p g)

carry_with_kept : (p : Past) (g : ℕ) (o : Option Command) → kept (carry_with p g o) ≡ carry_with (kept p) g (option_map kept_command o)
carry_with_kept p g None = refl
carry_with_kept p g (Some c) = carry_if_kept p g c (is_change g c.kind && not c.is_carried)

carry_kept : (g : ℕ) (p : Past) → kept (carry g p) ≡ carry g (kept p)
carry_kept g p = carry_with_kept p g p.table.command

-- ---- notes

done_kept : (o : Option Command) (bs : List Bearer) → map kept_bearer (done_by o bs) ≡ done_by (option_map kept_command o) (map kept_bearer bs)
done_kept None bs = refl
done_kept (Some c) bs =
    map_with (λ b. if is_change b.g c.kind then record b { is_done = true } else b) (λ b. if is_change b.g c.kind then record b { is_done = true } else b) bs
    (λ b. if_with (is_change b.g c.kind) (record b { is_done = true }) b _ _ refl refl)

pub lane_unkept : (d : Dir) (b : Bearer) (x : Rattle.claims.specs.Past.Lane) → kept_bearer (with_lane d x b) ≡ kept_bearer b
lane_unkept Ul b x = refl
lane_unkept Dl b x = refl

note_kept : (n : Note) (p : Past) → kept (noted_note n p) ≡ kept_note n (kept p)
note_kept (note.Begin w) p = begun_kept p.table.sec w p
note_kept (note.Join x g) p = change_second x (λ s. record s { joined = true }) p
note_kept (note.Leave x g) p = change_second x (λ s. record s { joined = false }) p
note_kept (note.Give x id g) p =
    ap (λ (bs : List Bearer). with_bearers bs (kept p))
    (latest_with id (given_away x g) (given_away x g) p.bearers (λ b. ap (λ (c : Bearer). record c { gave = Some (x, g) }) (dropped_with x b)))
note_kept (note.Own x id g) p = ap (λ (bs : List Bearer). with_bearers bs (kept p)) (change_with p id g (owned_by x g) (owned_by x g) (owned_with x g))
note_kept (note.Set id g) p =
    ap (λ (bs : List Bearer). with_bearers bs (kept p)) (change_with p id g (set_to_generation g) (set_to_generation g) (λ b. refl))
note_kept (note.Unset id) p =
    ap (λ (bs : List Bearer). with_bearers bs (kept p)) (latest_with id (λ b. record b { terminal = None }) (λ b. record b { terminal = None }) p.bearers (λ b. refl))
note_kept (note.Up x id d count sdu) p =
    ap (λ (bs : List Bearer). with_bearers bs (kept p)) (latest_unkept id (λ b. with_lane d (with_up count sdu (lane d b)) b) p.bearers (λ b. lane_unkept d b _))
note_kept (note.Freed id d count) p =
    ap (λ (bs : List Bearer). with_bearers bs (kept p)) (latest_unkept id (λ b. with_lane d (record (lane d b) { freed = count }) b) p.bearers (λ b. lane_unkept d b _))
note_kept (note.Confirmed x) p = change_second x (λ s. record s { wants = None }) p
note_kept (note.Refused x w) p = change_second x (λ s. record s { wants = None }) p
note_kept note.Done p =
    ap (λ (bs : List Bearer). record (kept p) { table = record (kept_table p.table) { command = None }; bearers = bs }) (done_kept p.table.command p.bearers)
note_kept note.Rejected p = refl

-- ---- flights that are sent

record_kept : (x : Node) (r : Rec) (p : Past) → kept (noted_record x r p) ≡ noted_record x r (kept p)
record_kept x (rec.Reconf q key) p = carry_kept q.g p
record_kept x (rec.Rcomp g) p = refl
record_kept x (rec.Scgf pairs) p = refl
record_kept x (rec.Recov id) p = refl
record_kept x (rec.Recovd id) p = refl
record_kept x (rec.Addreq q key) p = refl
record_kept x (rec.Addack g) p = refl
record_kept x (rec.Addrej g) p = refl
record_kept x (rec.Modreq q key) p = refl
record_kept x (rec.Modack g) p = refl
record_kept x (rec.Modrej g) p = refl
record_kept x (rec.Recfg g) p = refl
record_kept x (rec.Relreq q) p = refl
record_kept x (rec.Relack g) p = refl
record_kept x (rec.Relrej g) p = refl
record_kept x (rec.Uecr g) p = refl
record_kept x (rec.Snst s) p = refl
record_kept x (rec.Moved g id) p = refl
record_kept x (rec.Scgn id g) p = refl
record_kept x rec.Modrqd p = refl
record_kept x (rec.Modcnf g) p = refl
record_kept x (rec.Modref w) p = change_second x (λ s. record s { request = None }) p
record_kept x rec.Chgrqd p = refl
record_kept x (rec.Chgcnf q) p = refl
record_kept x (rec.Chgref w) p = change_second x (λ s. record s { request = None }) p
record_kept x rec.Relrqd p = refl
record_kept x (rec.Relcnf q) p = change_second x (λ s. record s { request = None }) p

as_send_kept : (o : Option (LinkId × Flight)) (l : LinkId) (f : Flight) (p : Past) → kept (as_send o l f p) ≡ kept p
as_send_kept None l f p = refl
as_send_kept (Some s) l f p = refl

put_kept : (l : LinkId) (f : Flight) (p : Past) → kept (put l f p) ≡ kept p
put_kept l f p = as_send_kept p.copied l f p

flight_kept : (l : LinkId) (f : Flight) (p : Past) → kept (noted_flight l f p) ≡ kept_flight l f (kept p)
flight_kept l (flight.Air id g num tag pdu) p = refl
flight_kept l (flight.Ack id g num) p = refl
flight_kept l (flight.Tun tag packet) p = refl
flight_kept l (flight.Sdu id g sdu) p = refl
flight_kept l (flight.End id g) p = refl
flight_kept l (flight.Told id g count) p =
    ap (λ (bs : List Bearer). with_bearers bs (kept p)) (change_unkept p id g (λ b. record b { tells = count }) (λ b. refl))
flight_kept l (flight.Ctl r) p = record_kept l.to r p

-- ---- lines

pub line_kept : (x : Line) (p : Past) → kept (noted p x) ≡ kept_line x (kept p)
line_kept (line.Note n) p = note_kept n p
line_kept (line.Send l f) p = flight_kept l f (put l f p) ∙ ap (kept_flight l f) (put_kept l f p)
line_kept (line.Event e) p = refl
line_kept (line.Answer a) p = refl
