-- What lines change of the uplink of the latest establishment of an identity.
use Rattle.std.proofs.Common.{ℕ, ◌≡◌, ◌==◌, Bool, true, false, List, [], ◌∷◌, Option, Some, None, refl, sym, ap, ◌∙◌, inl, inr}
use Rattle.std.specs.Prelude.{fold, if◌then◌else◌, is_some, map, nat_le, nat_lt, not, ◌&&◌, ◌++◌}
use Rattle.std.specs.Option.{option_map}
use Rattle.std.proofs.lemmas.Bool.{cases_Bool}
use Rattle.dc_base.specs.declared.events.Line.{Line}
use Rattle.dc_base.specs.declared.events.Line.TheVariants as line
use Rattle.dc_base.specs.declared.events.Note.{Note}
use Rattle.dc_base.specs.declared.events.Note.TheVariants as note
use Rattle.dc_base.specs.declared.flights.Flight.{Flight}
use Rattle.dc_base.specs.declared.flights.Flight.TheVariants as flight
use Rattle.dc_base.specs.declared.nodes.Dir.TheVariants.{Dl, Ul}
use Rattle.dc_base.specs.declared.nodes.LinkId.{LinkId}
use Rattle.dc_base.specs.declared.nodes.Node.{Node}
use Rattle.dc_base.specs.declared.nodes.Node.TheVariants.{A, B, M, T}
use Rattle.dc_base.specs.declared.records.Item.{Item}
use Rattle.dc_base.specs.declared.records.Item.TheVariants.{Set, Unset}
use Rattle.dc_base.specs.declared.records.Plan.{Plan}
use Rattle.dc_base.specs.declared.records.Rec.{Rec}
use Rattle.dc_base.specs.declared.records.Rec.TheVariants as rec
use Rattle.claims.specs.Carrying.{carry, carry_if, carry_plan, carry_with, dropped_at, gone_at_master, on_item, with_set}
use Rattle.claims.specs.Noted.{as_send, at_the_end, done_by, given_away, noted, noted_flight}
use Rattle.claims.specs.Noted.{noted_line, noted_note, noted_record, owned_by, put, set_to_generation, with_up}
use Rattle.claims.specs.Past.{Bearer, Past, Second}
use Rattle.claims.specs.Reading.{bearer_of, change_bearer, changed, holds_any, lane, on_bearer, on_latest, plan, setting, with_lane, with_second}
use Rattle.claims.specs.Table.{Command, is_change}
use Rattle.run_uplinks.proofs.Seeing.{begins, begins_line}
use Rattle.run_received.specs.Changes.{carry_if_on, carry_on, dropped_on, is_named, item_on, line_on, note_on, owned_on, plan_on, record_on, send_on}
use Rattle.run_received.specs.Receipts.{Receipt, receipt, receipt_of}
use Rattle.run_received.proofs.Latest.{Distinct, KeepsId, latest_changed, latest_in, latest_map, latest_on_latest}

-- ---- changes of a bearer

-- a change of which this is seen of the uplink
abbrev pub IsSeenAs : (Bearer → Bearer) → (Receipt → Receipt) → Type 0
IsSeenAs f k = (b : Bearer) → receipt_of (f b) ≡ k (receipt_of b)

-- a change of which nothing is seen
abbrev pub IsUnseen : (Bearer → Bearer) → Type 0
IsUnseen f = (b : Bearer) → receipt_of (f b) ≡ receipt_of b

pub seen_of : (f : Bearer → Bearer) (k : Receipt → Receipt) → IsSeenAs f k → (o : Option Bearer)
    → option_map receipt_of (option_map f o) ≡ option_map k (option_map receipt_of o)
seen_of f k is None = refl
seen_of f k is (Some b) = ap Some (is b)

pub unseen_of : (f : Bearer → Bearer) → IsUnseen f → (o : Option Bearer) → option_map receipt_of (option_map f o) ≡ option_map receipt_of o
unseen_of f is None = refl
unseen_of f is (Some b) = ap Some (is b)

pub same_receipt : (o : Option Receipt) → option_map (λ r. r) o ≡ o
same_receipt None = refl
same_receipt (Some r) = refl

pub if_seen : (t : Bool) (f : Bearer → Bearer) (k : Receipt → Receipt) (b : Bearer) → receipt_of (f b) ≡ k (receipt_of b)
    → receipt_of (if t then f b else b) ≡ (if t then k (receipt_of b) else receipt_of b)
if_seen true f k b is = is
if_seen false f k b is = refl

pub keeps_if : (t : Bearer → Bool) (f : Bearer → Bearer) → KeepsId f → KeepsId (λ b. if t b then f b else b)
keeps_if t f keeps b = by (t b)
  where
    by : (x : Bool) → (if x then f b else b).id ≡ b.id
    by true = keeps b
    by false = refl

-- ---- several of them

pub all_unseen : (id : ℕ) (f : Bearer → Bearer) → KeepsId f → IsUnseen f → (bs : List Bearer)
    → option_map receipt_of (latest_in id (map f bs)) ≡ option_map receipt_of (latest_in id bs)
all_unseen id f keeps is bs = ap (option_map receipt_of) (latest_map id f keeps bs) ∙ unseen_of f is (latest_in id bs)

pub one_unseen : (id g : ℕ) (f : Bearer → Bearer) → KeepsId f → IsUnseen f → (bs : List Bearer)
    → option_map receipt_of (latest_in id (on_bearer g f bs)) ≡ option_map receipt_of (latest_in id bs)
one_unseen id g f keeps is bs =
    all_unseen id (λ b. if b.g == g then f b else b) (keeps_if (λ b. b.g == g) f keeps) (λ b. by b (b.g == g)) bs
  where
    by : (b : Bearer) (x : Bool) → receipt_of (if x then f b else b) ≡ receipt_of b
    by b true = is b
    by b false = refl

pub changed_unseen : (id : ℕ) (f : Bearer → Bearer) → KeepsId f → IsUnseen f → (o : Option Bearer) (bs : List Bearer)
    → option_map receipt_of (latest_in id (changed f bs o)) ≡ option_map receipt_of (latest_in id bs)
changed_unseen id f keeps is None bs = refl
changed_unseen id f keeps is (Some b) bs = one_unseen id b.g f keeps is bs

-- the latest of an identity
pub latest_seen : (id k : ℕ) (f : Bearer → Bearer) (h : Receipt → Receipt) → KeepsId f → IsSeenAs f h → (bs : List Bearer)
    → option_map receipt_of (latest_in id (on_latest k f bs)) ≡ option_map (λ r. if r.id == k then h r else r) (option_map receipt_of (latest_in id bs))
latest_seen id k f h keeps is bs =
    ap (option_map receipt_of) (latest_on_latest id k f keeps bs)
    ∙ seen_of (λ b. if b.id == k then f b else b) (λ r. if r.id == k then h r else r) (λ b. if_seen (b.id == k) f h b (is b)) (latest_in id bs)

-- the one that a generation sets
pub change_seen : (p : Past) (id k g : ℕ) (f : Bearer → Bearer) (h : Receipt → Receipt) → KeepsId f → IsSeenAs f h → Distinct p.bearers
    → option_map receipt_of (latest_in id (change_bearer p k g f)) ≡ option_map (λ r. if is_named p k g r then h r else r) (receipt p id)
change_seen p id k g f h keeps is distinct =
    ap (option_map receipt_of) (latest_changed p id k g f keeps distinct)
    ∙ seen_of (λ b. if is_some (setting p k g) && ((b.id == k) && nat_le b.g g) then f b else b) (λ r. if is_named p k g r then h r else r)
    (λ b. if_seen (is_some (setting p k g) && ((b.id == k) && nat_le b.g g)) f h b (is b)) (latest_in id p.bearers)

-- a change of one identity that is none
pub same_either : (k : ℕ) (o : Option Receipt) → option_map (λ r. if r.id == k then r else r) o ≡ option_map (λ r. r) o
same_either k None = refl
same_either k (Some r) = elim (cases_Bool (r.id == k)) [ inl yes' ↦ rw yes' refl | inr no' ↦ rw no' refl ]

-- ---- notes

pub dropped_seen : (x : Node) → IsSeenAs (dropped_at x) (dropped_on x)
dropped_seen x b = elim (cases_Bool (holds_any x b.holder)) [ inl yes' ↦ rw yes' refl | inr no' ↦ rw no' refl ]

pub dropped_keeps : (x : Node) → KeepsId (dropped_at x)
dropped_keeps x b = elim (cases_Bool (holds_any x b.holder)) [ inl yes' ↦ rw yes' refl | inr no' ↦ rw no' refl ]

given_seen : (x : Node) (g : ℕ) → IsSeenAs (given_away x g) (dropped_on x)
given_seen x g b = elim (cases_Bool (holds_any x b.holder)) [ inl yes' ↦ rw yes' refl | inr no' ↦ rw no' refl ]

given_keeps : (x : Node) (g : ℕ) → KeepsId (given_away x g)
given_keeps x g b = dropped_keeps x b

pub second_receipt : (x : Node) (s : Second) (p : Past) (id : ℕ) → receipt (with_second x s p) id ≡ receipt p id
second_receipt T s p id = refl
second_receipt M s p id = refl
second_receipt A s p id = refl
second_receipt B s p id = refl

done_receipt : (id : ℕ) (o : Option Command) (bs : List Bearer)
    → option_map receipt_of (latest_in id (done_by o bs)) ≡ option_map receipt_of (latest_in id bs)
done_receipt id None bs = refl
done_receipt id (Some c) bs =
    all_unseen id (λ (b : Bearer). if is_change b.g c.kind then record b { is_done = true } else b)
    (keeps_if (λ b. is_change b.g c.kind) (λ b. record b { is_done = true }) (λ b. refl)) (λ b. by b (is_change b.g c.kind)) bs
  where
    by : (b : Bearer) (x : Bool) → receipt_of (if x then record b { is_done = true } else b) ≡ receipt_of b
    by b true = refl
    by b false = refl

note_receipt : (n : Note) (p : Past) (id : ℕ) → begins n ≡ false → Distinct p.bearers → receipt (noted_note n p) id ≡ option_map (note_on p n) (receipt p id)
note_receipt (note.Begin w) p id no' distinct = absurd (let bad : true ≡ false = no' in cc)
note_receipt (note.Join x g) p id no' distinct = second_receipt x _ p id ∙ sym (same_receipt (receipt p id))
note_receipt (note.Leave x g) p id no' distinct = second_receipt x _ p id ∙ sym (same_receipt (receipt p id))
note_receipt (note.Give x k g) p id no' distinct = latest_seen id k (given_away x g) (dropped_on x) (given_keeps x g) (given_seen x g) p.bearers
note_receipt (note.Own x k g) p id no' distinct = change_seen p id k g (owned_by x g) (owned_on x g) (λ b. refl) (λ b. refl) distinct
note_receipt (note.Set k g) p id no' distinct =
    change_seen p id k g (set_to_generation g) (λ r. record r { terminal = Some g; is_failed = false }) (λ b. refl) (λ b. refl) distinct
note_receipt (note.Unset k) p id no' distinct =
    latest_seen id k (λ b. record b { terminal = None }) (λ r. record r { terminal = None }) (λ b. refl) (λ b. refl) p.bearers
note_receipt (note.Up x k Ul count sdu) p id no' distinct =
    latest_seen id k (λ b. with_lane Ul (with_up count sdu (lane Ul b)) b) (λ r. record r { handed = r.handed ++ (count, sdu) ∷ [] }) (λ b. refl)
    (λ b. refl) p.bearers
note_receipt (note.Up x k Dl count sdu) p id no' distinct =
    latest_seen id k (λ b. with_lane Dl (with_up count sdu (lane Dl b)) b) (λ r. r) (λ b. refl) (λ b. refl) p.bearers
    ∙ same_either k (receipt p id)
note_receipt (note.Freed k Ul count) p id no' distinct =
    latest_seen id k (λ b. with_lane Ul (record (lane Ul b) { freed = count }) b) (λ r. record r { freed = count }) (λ b. refl) (λ b. refl) p.bearers
note_receipt (note.Freed k Dl count) p id no' distinct =
    latest_seen id k (λ b. with_lane Dl (record (lane Dl b) { freed = count }) b) (λ r. r) (λ b. refl) (λ b. refl) p.bearers
    ∙ same_either k (receipt p id)
note_receipt (note.Confirmed x) p id no' distinct = second_receipt x _ p id ∙ sym (same_receipt (receipt p id))
note_receipt (note.Refused x w) p id no' distinct = second_receipt x _ p id ∙ sym (same_receipt (receipt p id))
note_receipt note.Done p id no' distinct = done_receipt id p.table.command p.bearers ∙ sym (same_receipt (receipt p id))
note_receipt note.Rejected p id no' distinct = sym (same_receipt (receipt p id))

-- ---- a plan is carried out

item_seen : (id : ℕ) (p : Past) (g : ℕ) (bs : List Bearer) (i : Item)
    → option_map receipt_of (latest_in id (on_item p g bs i)) ≡ option_map (λ r. item_on M g r i) (option_map receipt_of (latest_in id bs))
item_seen id p g bs (Set k n first shape threshold policy key old) =
    changed_unseen id (with_set g) (λ b. refl) (λ b. refl) (bearer_of p k g) bs ∙ sym (same_receipt (option_map receipt_of (latest_in id bs)))
item_seen id p g bs (Unset k) =
    ap (option_map receipt_of) (latest_map id (λ (b : Bearer). if (b.id == k) && nat_lt b.g g then gone_at_master b else b)
    (keeps_if (λ b. (b.id == k) && nat_lt b.g g) gone_at_master (λ b. dropped_keeps M b)) bs)
    ∙ seen_of (λ b. if (b.id == k) && nat_lt b.g g then gone_at_master b else b) (λ r. if (r.id == k) && nat_lt r.g g then dropped_on M r else r)
    (λ b. if_seen ((b.id == k) && nat_lt b.g g) gone_at_master (dropped_on M) b (gone_seen b)) (latest_in id bs)
  where
    gone_seen : IsSeenAs gone_at_master (dropped_on M)
    gone_seen b = elim (cases_Bool (holds_any M b.holder)) [ inl yes' ↦ rw yes' refl | inr no' ↦ rw no' refl ]

-- one change after another
pub map_again : (f h : Receipt → Receipt) (o : Option Receipt) → option_map f (option_map h o) ≡ option_map (λ r. f (h r)) o
map_again f h None = refl
map_again f h (Some r) = refl

items_seen : (id : ℕ) (p : Past) (g : ℕ) (items : List Item) (bs : List Bearer)
    → option_map receipt_of (latest_in id (fold (on_item p g) bs items)) ≡ option_map
    (λ r. fold (item_on M g) r items) (option_map receipt_of (latest_in id bs))
items_seen id p g [] bs = sym (same_receipt (option_map receipt_of (latest_in id bs)))
items_seen id p g (i ∷ items) bs =
    items_seen id p g items (on_item p g bs i)
    ∙ ap (option_map (λ r. fold (item_on M g) r items)) (item_seen id p g bs i)
    ∙ map_again (λ r. fold (item_on M g) r items) (λ r. item_on M g r i) (option_map receipt_of (latest_in id bs))

plan_receipt : (id : ℕ) (g : ℕ) (p : Past) (c : Command) (o : Option Plan) → receipt (carry_plan p g c o) id ≡ option_map (plan_on g o) (receipt p id)
plan_receipt id g p c None = sym (same_receipt (receipt p id))
plan_receipt id g p c (Some q) = items_seen id p g q.items p.bearers

if_receipt : (id : ℕ) (g : ℕ) (p : Past) (c : Command) (is : Bool) → receipt (carry_if p g c is) id ≡ option_map (carry_if_on p g is) (receipt p id)
if_receipt id g p c false = sym (same_receipt (receipt p id))
if_receipt id g p c true = plan_receipt id g p c (plan p g)

with_receipt : (id : ℕ) (g : ℕ) (p : Past) (o : Option Command) → receipt (carry_with p g o) id ≡ option_map (carry_on p g o) (receipt p id)
with_receipt id g p None = sym (same_receipt (receipt p id))
with_receipt id g p (Some c) = if_receipt id g p c (is_change g c.kind && not c.is_carried)

carried_receipt : (id : ℕ) (g : ℕ) (p : Past) → receipt (carry g p) id ≡ option_map (carry_on p g p.table.command) (receipt p id)
carried_receipt id g p = with_receipt id g p p.table.command

-- ---- sends

record_receipt : (x : Node) (r : Rec) (p : Past) (id : ℕ) → receipt (noted_record x r p) id ≡ option_map (record_on p r) (receipt p id)
record_receipt x (rec.Reconf q key) p id = carried_receipt id q.g p
record_receipt x (rec.Rcomp g) p id = sym (same_receipt (receipt p id))
record_receipt x (rec.Scgf pairs) p id = sym (same_receipt (receipt p id))
record_receipt x (rec.Recov k) p id = sym (same_receipt (receipt p id))
record_receipt x (rec.Recovd k) p id = sym (same_receipt (receipt p id))
record_receipt x (rec.Addreq q key) p id = sym (same_receipt (receipt p id))
record_receipt x (rec.Addack g) p id = sym (same_receipt (receipt p id))
record_receipt x (rec.Addrej g) p id = sym (same_receipt (receipt p id))
record_receipt x (rec.Modreq q key) p id = sym (same_receipt (receipt p id))
record_receipt x (rec.Modack g) p id = sym (same_receipt (receipt p id))
record_receipt x (rec.Modrej g) p id = sym (same_receipt (receipt p id))
record_receipt x (rec.Recfg g) p id = sym (same_receipt (receipt p id))
record_receipt x (rec.Relreq q) p id = sym (same_receipt (receipt p id))
record_receipt x (rec.Relack g) p id = sym (same_receipt (receipt p id))
record_receipt x (rec.Relrej g) p id = sym (same_receipt (receipt p id))
record_receipt x (rec.Uecr g) p id = sym (same_receipt (receipt p id))
record_receipt x (rec.Snst s) p id = sym (same_receipt (receipt p id))
record_receipt x (rec.Moved g k) p id = sym (same_receipt (receipt p id))
record_receipt x (rec.Scgn k g) p id = sym (same_receipt (receipt p id))
record_receipt x rec.Modrqd p id = sym (same_receipt (receipt p id))
record_receipt x (rec.Modcnf g) p id = sym (same_receipt (receipt p id))
record_receipt x (rec.Modref w) p id = second_receipt x _ p id ∙ sym (same_receipt (receipt p id))
record_receipt x rec.Chgrqd p id = sym (same_receipt (receipt p id))
record_receipt x (rec.Chgcnf q) p id = sym (same_receipt (receipt p id))
record_receipt x (rec.Chgref w) p id = second_receipt x _ p id ∙ sym (same_receipt (receipt p id))
record_receipt x rec.Relrqd p id = sym (same_receipt (receipt p id))
record_receipt x (rec.Relcnf q) p id = second_receipt x _ p id ∙ sym (same_receipt (receipt p id))

flight_receipt : (l : LinkId) (f : Flight) (p : Past) (id : ℕ) → receipt (noted_flight l f p) id ≡ option_map (send_on p f) (receipt p id)
flight_receipt l (flight.Air k g num tag pdu) p id = sym (same_receipt (receipt p id))
flight_receipt l (flight.Ack k g num) p id = sym (same_receipt (receipt p id))
flight_receipt l (flight.Tun tag packet) p id = sym (same_receipt (receipt p id))
flight_receipt l (flight.Sdu k g sdu) p id = sym (same_receipt (receipt p id))
flight_receipt l (flight.End k g) p id = sym (same_receipt (receipt p id))
flight_receipt l (flight.Told k g count) p id =
    changed_unseen id (λ b. record b { tells = count }) (λ b. refl) (λ b. refl) (bearer_of p k g) p.bearers ∙ sym (same_receipt (receipt p id))
flight_receipt l (flight.Ctl r) p id = record_receipt l.to r p id

-- what a line of a send changes does not depend on what stands on the links
put_is : (o : Option (LinkId × Flight)) (l : LinkId) (f : Flight) (p : Past) (id : ℕ)
    → option_map (send_on (at_the_end l f (as_send o l f p)) f) (receipt (at_the_end l f (as_send o l f p)) id) ≡ option_map (send_on p f) (receipt p id)
put_is None l f p id = refl
put_is (Some s) l f p id = refl

line_receipt : (x : Line) (p : Past) (id : ℕ) → begins_line x ≡ false → Distinct p.bearers
    → receipt (noted_line x p) id ≡ option_map (line_on p x) (receipt p id)
line_receipt (line.Note n) p id no' distinct = note_receipt n p id no' distinct
line_receipt (line.Send l f) p id no' distinct = flight_receipt l f (put l f p) id ∙ put_is p.copied l f p id
line_receipt (line.Event e) p id no' distinct = sym (same_receipt (receipt p id))
line_receipt (line.Answer a) p id no' distinct = sym (same_receipt (receipt p id))

-- of a line that begins no command
pub noted_receipt : (p : Past) (x : Line) (id : ℕ) → begins_line x ≡ false → Distinct p.bearers
    → receipt (noted p x) id ≡ option_map (line_on p x) (receipt p id)
noted_receipt p x id no' distinct = line_receipt x p id no' distinct
