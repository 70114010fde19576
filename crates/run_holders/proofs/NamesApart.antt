-- The names of establishments descend, and no line of an event changes them.
use Rattle.std.proofs.Common.{ℕ, ◌≡◌, ◌<◌, ◌==◌, ◌∙◌, Bool, true, false, List, [], ◌∷◌, Option, Some, None, refl, sym, ap, subst, arith, inl, inr, ◌+◌}
use Rattle.std.specs.Prelude.{find, fold, if◌then◌else◌, map, nat_le, nat_lt, ⊤, ◌&&◌, ◌⊎◌}
use Rattle.dc_base.specs.declared.events.Line.{Line}
use Rattle.dc_base.specs.declared.events.Line.TheVariants as line
use Rattle.dc_base.specs.declared.events.Note.TheVariants as note
use Rattle.dc_base.specs.declared.flights.Flight.TheVariants as flight
use Rattle.dc_base.specs.declared.nodes.LinkId.{LinkId}
use Rattle.dc_base.specs.declared.nodes.Node.{Node}
use Rattle.dc_base.specs.declared.nodes.Node.TheVariants.{M}
use Rattle.dc_base.specs.declared.records.Item.{Item}
use Rattle.dc_base.specs.declared.records.Item.TheVariants.{Set, Unset}
use Rattle.dc_base.specs.declared.records.Plan.{Plan}
use Rattle.dc_base.specs.declared.records.Rec.TheVariants as rec
use Rattle.claims.specs.Noted.{noted}
use Rattle.claims.specs.Past.{Bearer, Past}
use Rattle.claims.specs.Reading.{holds_any, plan, setting}
use Rattle.run_uplinks.specs.Seen.{seen, uplink_of}
use Rattle.run_uplinks.specs.Uplinks.{Descend, IsDrawn, bearer_drawn, drop_drawn, nothing_drawn, settings_drawn}
use Rattle.run_holders.specs.Fitting.{AreDistinct}
use Rattle.run_holders.specs.Holdings.{Holding, changed_in, dropped_all, dropped_by, holding_of, holdings, let_go, named_in, on_latest, taken_by}
use Rattle.run_holders.proofs.HeldLines.{AreApartNames, latest_id, named_id}
use Rattle.run_holders.proofs.HeldSeeing.{is_moving_line, noted_give, noted_order, noted_own, noted_seen}

-- ---- names

-- the names of establishments, the latest first
abbrev pub names : List Holding → List ℕ
names hs = map (λ (h : Holding). h.g) hs

-- they descend, from below this one
abbrev pub AreDescending : ℕ → List ℕ → Type 0
AreDescending above [] = ⊤
AreDescending above (g ∷ gs) = (g < above) × AreDescending g gs

-- those of a past do
pub record Descends (p : Past) : Type 0 where
  pub above : ℕ
  pub are : AreDescending above (names (holdings p))

-- what is found is below
found_below : (above : ℕ) (t : Holding → Bool) (hs : List Holding) (h : Holding) → AreDescending above (names hs) → find t hs ≡ Some h → h.g < above
found_below above t [] h down at = absurd (let bad : None ≡ Some h = at in cc)
found_below above t (u ∷ hs) h down at = by (t u) at (λ is. found_below u.g t hs h down.1 is)
  where
    or_else : Option Holding → Holding
    or_else None = u
    or_else (Some z) = z

    by : (b : Bool) → (if b then Some u else find t hs) ≡ Some h → (find t hs ≡ Some h → h.g < u.g) → h.g < above
    by true is more = subst (λ (z : Holding). z.g < above) (ap or_else is) down.0
    by false is more = omega (arith, more is, down.0)

-- of one name there is one
one_of_name : (above : ℕ) (t s : Holding → Bool) (hs : List Holding) (h u : Holding) → AreDescending above (names hs) → find t hs ≡ Some h → find s hs ≡ Some u → h.g ≡ u.g → h ≡ u
one_of_name above t s [] h u down one two same = absurd (let bad : None ≡ Some h = one in cc)
one_of_name above t s (z ∷ hs) h u down one two same =
    by (t z) (s z) one two (λ is. found_below z.g t hs h down.1 is) (λ is. found_below z.g s hs u down.1 is) (λ a b. one_of_name z.g t s hs h u down.1 a b same)
  where
    or_else : Option Holding → Holding
    or_else None = z
    or_else (Some x) = x

    by : (b d : Bool) → (if b then Some z else find t hs) ≡ Some h → (if d then Some z else find s hs) ≡ Some u → (find t hs ≡ Some h → h.g < z.g) → (find s hs ≡ Some u → u.g < z.g)
        → (find t hs ≡ Some h → find s hs ≡ Some u → h ≡ u) → h ≡ u
    by true true a b low low' more = sym (ap or_else a) ∙ ap or_else b
    by true false a b low low' more = absurd (omega (arith, low' b, ap (λ (x : Holding). x.g) (ap or_else a), same))
    by false true a b low low' more = absurd (omega (arith, low a, ap (λ (x : Holding). x.g) (ap or_else b), same))
    by false false a b low low' more = more a b

pub apart_names : (p : Past) → Descends p → AreApartNames (holdings p)
apart_names p d id g s k h u one two same =
    let is = one_of_name d.above (λ (z : Holding). (z.id == id) && nat_le z.g g) (λ (z : Holding). z.id == k) (holdings p) h u d.are one two same in
    sym (named_id id g s (holdings p) h one) ∙ ap (λ (z : Holding). z.id) is ∙ latest_id k (holdings p) u two

pub distinct_names : (p : Past) → Descends p → AreDistinct (holdings p)
distinct_names p d id k h u one two same =
    let is = one_of_name d.above (λ (z : Holding). z.id == id) (λ (z : Holding). z.id == k) (holdings p) h u d.are one two same in
    sym (latest_id id (holdings p) h one) ∙ ap (λ (z : Holding). z.id) is ∙ latest_id k (holdings p) u two

-- ---- as it is seen of uplinks

descend_is : (above : ℕ) (bs : List Bearer) → Descend above (map uplink_of bs) → AreDescending above (names (map holding_of bs))
descend_is above [] down = tt
descend_is above (b ∷ bs) down = (down.0, descend_is b.g bs down.1)

pub drawn_descends : (p : Past) → IsDrawn (seen p) → Descends p
drawn_descends p (nothing_drawn plans bearers) = record { above = 0; are = by p.bearers bearers }
  where
    by : (bs : List Bearer) → map uplink_of bs ≡ [] → AreDescending 0 (names (map holding_of bs))
    by [] none = tt
    by (b ∷ bs) none = absurd (let bad : map uplink_of (b ∷ bs) ≡ [] = none in cc)
drawn_descends p (settings_drawn q qs plans last olds below) = record { above = p.table.last; are = descend_is p.table.last p.bearers below }
drawn_descends p (bearer_drawn q qs plans last id n first shape threshold policy key items u us bearers named of_id of_n of_first below) =
    record { above = p.table.last + 1; are = descend_is (p.table.last + 1) p.bearers (subst (Descend (p.table.last + 1)) (sym bearers) (omega (arith, named), subst (λ k. Descend k us) (sym named) below)) }
drawn_descends p (drop_drawn q qs plans last id items below) = record { above = p.table.last; are = descend_is p.table.last p.bearers below }

-- ---- lines

map_names : (f : Holding → Holding) → ((h : Holding) → (f h).g ≡ h.g) → (hs : List Holding) → names (map f hs) ≡ names hs
map_names f keeps [] = refl
map_names f keeps (h ∷ hs) = ap (λ n. n ∷ names (map f hs)) (keeps h) ∙ ap (λ ns. h.g ∷ ns) (map_names f keeps hs)

latest_names : (id : ℕ) (f : Holding → Holding) → ((h : Holding) → (f h).g ≡ h.g) → (hs : List Holding) → names (on_latest id f hs) ≡ names hs
latest_names id f keeps [] = refl
latest_names id f keeps (h ∷ hs) = by (h.id == id) (latest_names id f keeps hs)
  where
    by : (b : Bool) → names (on_latest id f hs) ≡ names hs → names (if b then f h ∷ hs else h ∷ on_latest id f hs) ≡ h.g ∷ names hs
    by true more = ap (λ n. n ∷ names hs) (keeps h)
    by false more = ap (λ ns. h.g ∷ ns) more

pub go_name : (x : Node) (h : Holding) → (let_go x h).g ≡ h.g
go_name x h = by (holds_any x h.holder)
  where
    by : (b : Bool) → (if b then record h { holder = None } else h).g ≡ h.g
    by true = refl
    by false = refl

pub drop_name : (x : Node) (g : ℕ) (i : Item) (h : Holding) → (dropped_by x g h i).g ≡ h.g
drop_name x g (Set id n first shape threshold policy key old) h = refl
drop_name x g (Unset id) h = by ((h.id == id) && nat_lt h.g g)
  where
    by : (b : Bool) → (if b then let_go x h else h).g ≡ h.g
    by true = go_name x h
    by false = refl

drops_names : (x : Node) (g : ℕ) (items : List Item) (hs : List Holding) → names (dropped_all x g items hs) ≡ names hs
drops_names x g [] hs = refl
drops_names x g (i ∷ items) hs = drops_names x g items (map (λ (h : Holding). dropped_by x g h i) hs) ∙ map_names (λ h. dropped_by x g h i) (drop_name x g i) hs

own_names : (x : Node) (g : ℕ) (hs : List Holding) (o : Option Holding) → names (changed_in (taken_by x g) hs o) ≡ names hs
own_names x g hs None = refl
own_names x g hs (Some u) = map_names (λ h. if h.g == u.g then taken_by x g h else h) keeps hs
  where
    keeps : (h : Holding) → (if h.g == u.g then taken_by x g h else h).g ≡ h.g
    keeps h = by (h.g == u.g)
      where
        by : (b : Bool) → (if b then taken_by x g h else h).g ≡ h.g
        by true = refl
        by false = refl

still_names : (p : Past) (l : Line) → is_moving_line l ≡ false → names (holdings (noted p l)) ≡ names (holdings p)
still_names p l still = ap names (noted_seen p l still)

order_names : (p : Past) (l : LinkId) (q : Plan) (key : List ℕ) → names (holdings (noted p (line.Send l (flight.Ctl (rec.Reconf q key))))) ≡ names (holdings p)
order_names p l q key = by (noted_order p l q key)
  where
    now : List Holding
    now = holdings (noted p (line.Send l (flight.Ctl (rec.Reconf q key))))

    by : (now ≡ holdings p) ⊎ ((r : Plan) × (plan p q.g ≡ Some r) × (now ≡ dropped_all M q.g r.items (holdings p))) → names now ≡ names (holdings p)
    by (inl same) = ap names same
    by (inr (r, found, drops)) = ap names drops ∙ drops_names M q.g r.items (holdings p)

pub line_names : (p : Past) (l : Line) → names (holdings (noted p l)) ≡ names (holdings p)
line_names p (line.Note (note.Own x id g)) = ap names (noted_own p x id g) ∙ own_names x g (holdings p) (named_in id g (setting p id g) (holdings p))
line_names p (line.Note (note.Give x id g)) = ap names (noted_give p x id g) ∙ latest_names id (let_go x) (go_name x) (holdings p)
line_names p (line.Send l (flight.Ctl (rec.Reconf q key))) = order_names p l q key
line_names p (line.Note (note.Begin w)) = still_names p (line.Note (note.Begin w)) refl
line_names p (line.Note (note.Join y g)) = still_names p (line.Note (note.Join y g)) refl
line_names p (line.Note (note.Leave y g)) = still_names p (line.Note (note.Leave y g)) refl
line_names p (line.Note (note.Set id g)) = still_names p (line.Note (note.Set id g)) refl
line_names p (line.Note (note.Unset id)) = still_names p (line.Note (note.Unset id)) refl
line_names p (line.Note (note.Up y id d count sdu)) = still_names p (line.Note (note.Up y id d count sdu)) refl
line_names p (line.Note (note.Freed id d count)) = still_names p (line.Note (note.Freed id d count)) refl
line_names p (line.Note (note.Confirmed y)) = still_names p (line.Note (note.Confirmed y)) refl
line_names p (line.Note (note.Refused y w)) = still_names p (line.Note (note.Refused y w)) refl
line_names p (line.Note note.Done) = still_names p (line.Note note.Done) refl
line_names p (line.Note note.Rejected) = still_names p (line.Note note.Rejected) refl
line_names p (line.Send l (flight.Air id g num tag pdu)) = still_names p (line.Send l (flight.Air id g num tag pdu)) refl
line_names p (line.Send l (flight.Ack id g num)) = still_names p (line.Send l (flight.Ack id g num)) refl
line_names p (line.Send l (flight.Tun tag packet)) = still_names p (line.Send l (flight.Tun tag packet)) refl
line_names p (line.Send l (flight.Sdu id g sdu)) = still_names p (line.Send l (flight.Sdu id g sdu)) refl
line_names p (line.Send l (flight.End id g)) = still_names p (line.Send l (flight.End id g)) refl
line_names p (line.Send l (flight.Told id g count)) = still_names p (line.Send l (flight.Told id g count)) refl
line_names p (line.Send l (flight.Ctl (rec.Rcomp g))) = still_names p (line.Send l (flight.Ctl (rec.Rcomp g))) refl
line_names p (line.Send l (flight.Ctl (rec.Scgf pairs))) = still_names p (line.Send l (flight.Ctl (rec.Scgf pairs))) refl
line_names p (line.Send l (flight.Ctl (rec.Recov id))) = still_names p (line.Send l (flight.Ctl (rec.Recov id))) refl
line_names p (line.Send l (flight.Ctl (rec.Recovd id))) = still_names p (line.Send l (flight.Ctl (rec.Recovd id))) refl
line_names p (line.Send l (flight.Ctl (rec.Addreq q key))) = still_names p (line.Send l (flight.Ctl (rec.Addreq q key))) refl
line_names p (line.Send l (flight.Ctl (rec.Addack g))) = still_names p (line.Send l (flight.Ctl (rec.Addack g))) refl
line_names p (line.Send l (flight.Ctl (rec.Addrej g))) = still_names p (line.Send l (flight.Ctl (rec.Addrej g))) refl
line_names p (line.Send l (flight.Ctl (rec.Modreq q key))) = still_names p (line.Send l (flight.Ctl (rec.Modreq q key))) refl
line_names p (line.Send l (flight.Ctl (rec.Modack g))) = still_names p (line.Send l (flight.Ctl (rec.Modack g))) refl
line_names p (line.Send l (flight.Ctl (rec.Modrej g))) = still_names p (line.Send l (flight.Ctl (rec.Modrej g))) refl
line_names p (line.Send l (flight.Ctl (rec.Recfg g))) = still_names p (line.Send l (flight.Ctl (rec.Recfg g))) refl
line_names p (line.Send l (flight.Ctl (rec.Relreq q))) = still_names p (line.Send l (flight.Ctl (rec.Relreq q))) refl
line_names p (line.Send l (flight.Ctl (rec.Relack g))) = still_names p (line.Send l (flight.Ctl (rec.Relack g))) refl
line_names p (line.Send l (flight.Ctl (rec.Relrej g))) = still_names p (line.Send l (flight.Ctl (rec.Relrej g))) refl
line_names p (line.Send l (flight.Ctl (rec.Uecr g))) = still_names p (line.Send l (flight.Ctl (rec.Uecr g))) refl
line_names p (line.Send l (flight.Ctl (rec.Snst s))) = still_names p (line.Send l (flight.Ctl (rec.Snst s))) refl
line_names p (line.Send l (flight.Ctl (rec.Moved g id))) = still_names p (line.Send l (flight.Ctl (rec.Moved g id))) refl
line_names p (line.Send l (flight.Ctl (rec.Scgn id g))) = still_names p (line.Send l (flight.Ctl (rec.Scgn id g))) refl
line_names p (line.Send l (flight.Ctl rec.Modrqd)) = still_names p (line.Send l (flight.Ctl rec.Modrqd)) refl
line_names p (line.Send l (flight.Ctl (rec.Modcnf g))) = still_names p (line.Send l (flight.Ctl (rec.Modcnf g))) refl
line_names p (line.Send l (flight.Ctl (rec.Modref w))) = still_names p (line.Send l (flight.Ctl (rec.Modref w))) refl
line_names p (line.Send l (flight.Ctl rec.Chgrqd)) = still_names p (line.Send l (flight.Ctl rec.Chgrqd)) refl
line_names p (line.Send l (flight.Ctl (rec.Chgcnf q))) = still_names p (line.Send l (flight.Ctl (rec.Chgcnf q))) refl
line_names p (line.Send l (flight.Ctl (rec.Chgref w))) = still_names p (line.Send l (flight.Ctl (rec.Chgref w))) refl
line_names p (line.Send l (flight.Ctl rec.Relrqd)) = still_names p (line.Send l (flight.Ctl rec.Relrqd)) refl
line_names p (line.Send l (flight.Ctl (rec.Relcnf q))) = still_names p (line.Send l (flight.Ctl (rec.Relcnf q))) refl
line_names p (line.Event e) = still_names p (line.Event e) refl
line_names p (line.Answer r) = still_names p (line.Answer r) refl

pub lines_names : (ls : List Line) (p : Past) → names (holdings (fold noted p ls)) ≡ names (holdings p)
lines_names [] p = refl
lines_names (l ∷ ls) p = lines_names ls (noted p l) ∙ line_names p l

-- before the lines of an event names descend, if they do after them
pub before_descends : (ls : List Line) (p : Past) → Descends (fold noted p ls) → Descends p
before_descends ls p d = record { above = d.above; are = subst (AreDescending d.above) (lines_names ls p) d.are }

-- and after each
pub after_descends : (l : Line) (p : Past) → Descends p → Descends (noted p l)
after_descends l p d = record { above = d.above; are = subst (AreDescending d.above) (sym (line_names p l)) d.are }
