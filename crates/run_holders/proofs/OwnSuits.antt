-- A step of a secondary node suits the past, where each anchor that becomes active does before the lines.
use Rattle.std.proofs.Common.{ℕ, ◌≡◌, ◌≤◌, ◌==◌, ◌∙◌, Bool, true, false, List, [], ◌∷◌, Option, Some, None, refl, sym, ap, subst, inl, inr}
use Rattle.std.specs.List.{AllByRecursion}
use Rattle.std.specs.Option.{option_map}
use Rattle.std.specs.Prelude.{if◌then◌else◌, map, nat_le, nat_lt, ◌&&◌, ◌⊎◌}
use Rattle.std.proofs.lemmas.Bool.{eqb-true, le-leb}
use Rattle.dc_base.specs.Nodes.{is_same_node}
use Rattle.dc_base.specs.declared.events.Line.{Line}
use Rattle.dc_base.specs.declared.events.Line.TheVariants as line
use Rattle.dc_base.specs.declared.events.Note.TheVariants as note
use Rattle.dc_base.specs.declared.flights.Flight.TheVariants as flight
use Rattle.dc_base.specs.declared.nodes.Dir.TheVariants.{Dl, Ul}
use Rattle.dc_base.specs.declared.nodes.LinkId.{LinkId}
use Rattle.dc_base.specs.declared.nodes.Node.{Node}
use Rattle.dc_base.specs.declared.nodes.Node.TheVariants.{M}
use Rattle.dc_base.specs.declared.records.Item.{Item}
use Rattle.dc_base.specs.declared.records.Item.TheVariants.{Set, Unset}
use Rattle.dc_base.specs.declared.records.Plan.{Plan}
use Rattle.dc_base.specs.declared.records.Rec.TheVariants as rec
use Rattle.node_rules.specs.World.{World}
use Rattle.claims.specs.Noted.{noted}
use Rattle.claims.specs.Past.{Past}
use Rattle.claims.specs.Reading.{Setting, holds_any, plan, setting}
use Rattle.run_uplinks.specs.Seen.{Seen, seen, setting_in, with_line}
use Rattle.run_uplinks.proofs.Seeing as seeing
use Rattle.run_holders.specs.Actives.{Actives, line_actives}
use Rattle.run_holders.specs.Fitting.{AllSuit, IsApart, IsOfLatest, Suits}
use Rattle.run_holders.specs.Holdings.{Holding, changed_in, dropped_all, dropped_by, holdings, latest_in, let_go, named_in, on_latest, taken_by}
use Rattle.run_holders.specs.Owning.{OwnsWell, SetsLatest, is_begin_line}
use Rattle.run_holders.specs.Suited.{actives_at}
use Rattle.run_holders.proofs.HeldLines.{OrdersAsMaster, latest_map, latest_off, latest_on}
use Rattle.run_holders.proofs.HeldSeeing.{is_moving_line, noted_give, noted_order, noted_own, noted_seen}
use Rattle.run_holders.proofs.NamesApart.{Descends, after_descends, distinct_names, drop_name, go_name}

-- ---- plans stay, where no command begins

same_begin : (l : Line) → is_begin_line l ≡ false → seeing.begins_line l ≡ false
same_begin (line.Note (note.Begin w)) none = absurd cc
same_begin (line.Note (note.Join x g)) none = refl
same_begin (line.Note (note.Leave x g)) none = refl
same_begin (line.Note (note.Give x id g)) none = refl
same_begin (line.Note (note.Own x id g)) none = refl
same_begin (line.Note (note.Set id g)) none = refl
same_begin (line.Note (note.Unset id)) none = refl
same_begin (line.Note (note.Up x id d count sdu)) none = refl
same_begin (line.Note (note.Freed id d count)) none = refl
same_begin (line.Note (note.Confirmed x)) none = refl
same_begin (line.Note (note.Refused x w)) none = refl
same_begin (line.Note note.Done) none = refl
same_begin (line.Note note.Rejected) none = refl
same_begin (line.Send l f) none = refl
same_begin (line.Event e) none = refl
same_begin (line.Answer a) none = refl

line_plans : (s : Seen) (l : Line) → (with_line s l).plans ≡ s.plans
line_plans s (line.Note (note.Begin w)) = refl
line_plans s (line.Note (note.Join x g)) = refl
line_plans s (line.Note (note.Leave x g)) = refl
line_plans s (line.Note (note.Give x id g)) = refl
line_plans s (line.Note (note.Own x id g)) = refl
line_plans s (line.Note (note.Set id g)) = refl
line_plans s (line.Note (note.Unset id)) = refl
line_plans s (line.Note (note.Up x id d count sdu)) = refl
line_plans s (line.Note (note.Freed id Dl count)) = refl
line_plans s (line.Note (note.Freed id Ul count)) = refl
line_plans s (line.Note (note.Confirmed x)) = refl
line_plans s (line.Note (note.Refused x w)) = refl
line_plans s (line.Note note.Done) = refl
line_plans s (line.Note note.Rejected) = refl
line_plans s (line.Send l f) = refl
line_plans s (line.Event e) = refl
line_plans s (line.Answer a) = refl

setting_stays : (p : Past) (l : Line) (id g : ℕ) → is_begin_line l ≡ false → setting (noted p l) id g ≡ setting p id g
setting_stays p l id g none =
    ap (λ (plans : List Plan). setting_in plans id g) (ap (λ (s : Seen). s.plans) (seeing.noted_seen p l (same_begin l none)) ∙ line_plans (seen p) l)

-- ---- the latest establishment stays the latest

-- it is there, with this name
abbrev LatestNamed : List Holding → ℕ → ℕ → Type 0
LatestNamed hs id name = (h : Holding) × (latest_in id hs ≡ Some h) × (h.g ≡ name)

by_map : (f : Holding → Holding) → ((h : Holding) → (f h).id ≡ h.id) → ((h : Holding) → (f h).g ≡ h.g) → (hs : List Holding) (id name : ℕ) → LatestNamed hs id name → LatestNamed (map f hs) id name
by_map f ids names hs id name (h, at, is) = (f h, latest_map id f ids hs ∙ ap (λ o. option_map f o) at, names h ∙ is)

by_latest : (k : ℕ) (f : Holding → Holding) → ((h : Holding) → (f h).id ≡ h.id) → ((h : Holding) → (f h).g ≡ h.g) → (hs : List Holding) (id name : ℕ) → LatestNamed hs id name → LatestNamed (on_latest k f hs) id name
by_latest k f ids names hs id name (h, at, is) = by (k == id) refl
  where
    by : (b : Bool) → (k == id) ≡ b → LatestNamed (on_latest k f hs) id name
    by true here =
        let same = eqb-true k id here in
        (f h, subst (λ j. latest_in j (on_latest k f hs) ≡ Some (f h)) same (latest_on k f ids hs ∙ ap (λ o. option_map f o) (ap (λ j. latest_in j hs) same ∙ at)), names h ∙ is)
    by false apart = (h, latest_off k id f ids apart hs ∙ at, is)

go_id : (x : Node) (h : Holding) → (let_go x h).id ≡ h.id
go_id x h = by (holds_any x h.holder)
  where
    by : (b : Bool) → (if b then record h { holder = None } else h).id ≡ h.id
    by true = refl
    by false = refl

drop_id : (x : Node) (g : ℕ) (i : Item) (h : Holding) → (dropped_by x g h i).id ≡ h.id
drop_id x g (Set id n first shape threshold policy key old) h = refl
drop_id x g (Unset id) h = by ((h.id == id) && nat_lt h.g g)
  where
    by : (b : Bool) → (if b then let_go x h else h).id ≡ h.id
    by true = go_id x h
    by false = refl

by_drops : (x : Node) (g : ℕ) (items : List Item) (hs : List Holding) (id name : ℕ) → LatestNamed hs id name → LatestNamed (dropped_all x g items hs) id name
by_drops x g [] hs id name is = is
by_drops x g (i ∷ items) hs id name is = by_drops x g items (map (λ (h : Holding). dropped_by x g h i) hs) id name (by_map (λ h. dropped_by x g h i) (drop_id x g i) (drop_name x g i) hs id name is)

by_own : (x : Node) (g : ℕ) (hs : List Holding) (o : Option Holding) (id name : ℕ) → LatestNamed hs id name → LatestNamed (changed_in (taken_by x g) hs o) id name
by_own x g hs None id name is = is
by_own x g hs (Some u) id name is = by_map (λ h. if h.g == u.g then taken_by x g h else h) ids names hs id name is
  where
    ids : (h : Holding) → (if h.g == u.g then taken_by x g h else h).id ≡ h.id
    ids h = by (h.g == u.g)
      where
        by : (b : Bool) → (if b then taken_by x g h else h).id ≡ h.id
        by true = refl
        by false = refl

    names : (h : Holding) → (if h.g == u.g then taken_by x g h else h).g ≡ h.g
    names h = by (h.g == u.g)
      where
        by : (b : Bool) → (if b then taken_by x g h else h).g ≡ h.g
        by true = refl
        by false = refl

by_still : (p : Past) (l : Line) (id name : ℕ) → is_moving_line l ≡ false → LatestNamed (holdings p) id name → LatestNamed (holdings (noted p l)) id name
by_still p l id name still is = subst (λ hs. LatestNamed hs id name) (sym (noted_seen p l still)) is

by_order : (p : Past) (l : LinkId) (q : Plan) (key : List ℕ) (id name : ℕ) → LatestNamed (holdings p) id name → LatestNamed (holdings (noted p (line.Send l (flight.Ctl (rec.Reconf q key))))) id name
by_order p l q key id name is = by (noted_order p l q key)
  where
    now : List Holding
    now = holdings (noted p (line.Send l (flight.Ctl (rec.Reconf q key))))

    by : (now ≡ holdings p) ⊎ ((r : Plan) × (plan p q.g ≡ Some r) × (now ≡ dropped_all M q.g r.items (holdings p))) → LatestNamed now id name
    by (inl same) = subst (λ hs. LatestNamed hs id name) (sym same) is
    by (inr (r, found, drops)) = subst (λ hs. LatestNamed hs id name) (sym drops) (by_drops M q.g r.items (holdings p) id name is)

latest_stays : (p : Past) (l : Line) (id name : ℕ) → LatestNamed (holdings p) id name → LatestNamed (holdings (noted p l)) id name
latest_stays p (line.Note (note.Own x k g)) id name is = subst (λ hs. LatestNamed hs id name) (sym (noted_own p x k g)) (by_own x g (holdings p) (named_in k g (setting p k g) (holdings p)) id name is)
latest_stays p (line.Note (note.Give x k g)) id name is = subst (λ hs. LatestNamed hs id name) (sym (noted_give p x k g)) (by_latest k (let_go x) (go_id x) (go_name x) (holdings p) id name is)
latest_stays p (line.Send l (flight.Ctl (rec.Reconf q key))) id name is = by_order p l q key id name is
latest_stays p (line.Note (note.Begin w)) id name is = by_still p (line.Note (note.Begin w)) id name refl is
latest_stays p (line.Note (note.Join y g)) id name is = by_still p (line.Note (note.Join y g)) id name refl is
latest_stays p (line.Note (note.Leave y g)) id name is = by_still p (line.Note (note.Leave y g)) id name refl is
latest_stays p (line.Note (note.Set k g)) id name is = by_still p (line.Note (note.Set k g)) id name refl is
latest_stays p (line.Note (note.Unset k)) id name is = by_still p (line.Note (note.Unset k)) id name refl is
latest_stays p (line.Note (note.Up y k d count sdu)) id name is = by_still p (line.Note (note.Up y k d count sdu)) id name refl is
latest_stays p (line.Note (note.Freed k d count)) id name is = by_still p (line.Note (note.Freed k d count)) id name refl is
latest_stays p (line.Note (note.Confirmed y)) id name is = by_still p (line.Note (note.Confirmed y)) id name refl is
latest_stays p (line.Note (note.Refused y w)) id name is = by_still p (line.Note (note.Refused y w)) id name refl is
latest_stays p (line.Note note.Done) id name is = by_still p (line.Note note.Done) id name refl is
latest_stays p (line.Note note.Rejected) id name is = by_still p (line.Note note.Rejected) id name refl is
latest_stays p (line.Send l (flight.Air k g num tag pdu)) id name is = by_still p (line.Send l (flight.Air k g num tag pdu)) id name refl is
latest_stays p (line.Send l (flight.Ack k g num)) id name is = by_still p (line.Send l (flight.Ack k g num)) id name refl is
latest_stays p (line.Send l (flight.Tun tag packet)) id name is = by_still p (line.Send l (flight.Tun tag packet)) id name refl is
latest_stays p (line.Send l (flight.Sdu k g sdu)) id name is = by_still p (line.Send l (flight.Sdu k g sdu)) id name refl is
latest_stays p (line.Send l (flight.End k g)) id name is = by_still p (line.Send l (flight.End k g)) id name refl is
latest_stays p (line.Send l (flight.Told k g count)) id name is = by_still p (line.Send l (flight.Told k g count)) id name refl is
latest_stays p (line.Send l (flight.Ctl (rec.Rcomp g))) id name is = by_still p (line.Send l (flight.Ctl (rec.Rcomp g))) id name refl is
latest_stays p (line.Send l (flight.Ctl (rec.Scgf pairs))) id name is = by_still p (line.Send l (flight.Ctl (rec.Scgf pairs))) id name refl is
latest_stays p (line.Send l (flight.Ctl (rec.Recov k))) id name is = by_still p (line.Send l (flight.Ctl (rec.Recov k))) id name refl is
latest_stays p (line.Send l (flight.Ctl (rec.Recovd k))) id name is = by_still p (line.Send l (flight.Ctl (rec.Recovd k))) id name refl is
latest_stays p (line.Send l (flight.Ctl (rec.Addreq q key))) id name is = by_still p (line.Send l (flight.Ctl (rec.Addreq q key))) id name refl is
latest_stays p (line.Send l (flight.Ctl (rec.Addack g))) id name is = by_still p (line.Send l (flight.Ctl (rec.Addack g))) id name refl is
latest_stays p (line.Send l (flight.Ctl (rec.Addrej g))) id name is = by_still p (line.Send l (flight.Ctl (rec.Addrej g))) id name refl is
latest_stays p (line.Send l (flight.Ctl (rec.Modreq q key))) id name is = by_still p (line.Send l (flight.Ctl (rec.Modreq q key))) id name refl is
latest_stays p (line.Send l (flight.Ctl (rec.Modack g))) id name is = by_still p (line.Send l (flight.Ctl (rec.Modack g))) id name refl is
latest_stays p (line.Send l (flight.Ctl (rec.Modrej g))) id name is = by_still p (line.Send l (flight.Ctl (rec.Modrej g))) id name refl is
latest_stays p (line.Send l (flight.Ctl (rec.Recfg g))) id name is = by_still p (line.Send l (flight.Ctl (rec.Recfg g))) id name refl is
latest_stays p (line.Send l (flight.Ctl (rec.Relreq q))) id name is = by_still p (line.Send l (flight.Ctl (rec.Relreq q))) id name refl is
latest_stays p (line.Send l (flight.Ctl (rec.Relack g))) id name is = by_still p (line.Send l (flight.Ctl (rec.Relack g))) id name refl is
latest_stays p (line.Send l (flight.Ctl (rec.Relrej g))) id name is = by_still p (line.Send l (flight.Ctl (rec.Relrej g))) id name refl is
latest_stays p (line.Send l (flight.Ctl (rec.Uecr g))) id name is = by_still p (line.Send l (flight.Ctl (rec.Uecr g))) id name refl is
latest_stays p (line.Send l (flight.Ctl (rec.Snst s))) id name is = by_still p (line.Send l (flight.Ctl (rec.Snst s))) id name refl is
latest_stays p (line.Send l (flight.Ctl (rec.Moved g k))) id name is = by_still p (line.Send l (flight.Ctl (rec.Moved g k))) id name refl is
latest_stays p (line.Send l (flight.Ctl (rec.Scgn k g))) id name is = by_still p (line.Send l (flight.Ctl (rec.Scgn k g))) id name refl is
latest_stays p (line.Send l (flight.Ctl rec.Modrqd)) id name is = by_still p (line.Send l (flight.Ctl rec.Modrqd)) id name refl is
latest_stays p (line.Send l (flight.Ctl (rec.Modcnf g))) id name is = by_still p (line.Send l (flight.Ctl (rec.Modcnf g))) id name refl is
latest_stays p (line.Send l (flight.Ctl (rec.Modref w))) id name is = by_still p (line.Send l (flight.Ctl (rec.Modref w))) id name refl is
latest_stays p (line.Send l (flight.Ctl rec.Chgrqd)) id name is = by_still p (line.Send l (flight.Ctl rec.Chgrqd)) id name refl is
latest_stays p (line.Send l (flight.Ctl (rec.Chgcnf q))) id name is = by_still p (line.Send l (flight.Ctl (rec.Chgcnf q))) id name refl is
latest_stays p (line.Send l (flight.Ctl (rec.Chgref w))) id name is = by_still p (line.Send l (flight.Ctl (rec.Chgref w))) id name refl is
latest_stays p (line.Send l (flight.Ctl rec.Relrqd)) id name is = by_still p (line.Send l (flight.Ctl rec.Relrqd)) id name refl is
latest_stays p (line.Send l (flight.Ctl (rec.Relcnf q))) id name is = by_still p (line.Send l (flight.Ctl (rec.Relcnf q))) id name refl is
latest_stays p (line.Event e) id name is = by_still p (line.Event e) id name refl is
latest_stays p (line.Answer r) id name is = by_still p (line.Answer r) id name refl is

-- what a generation sets of the latest establishment it sets so after a line that begins no command
sets_stays : (p : Past) (l : Line) (id g : ℕ) → is_begin_line l ≡ false → SetsLatest p id g → SetsLatest (noted p l) id g
sets_stays p l id g none is = by (latest_stays p l id is.holding.g (is.holding, is.latest, refl))
  where
    by : LatestNamed (holdings (noted p l)) id is.holding.g → SetsLatest (noted p l) id g
    by (h, at, same) = record { set = is.set; in_plan = setting_stays p l id g none ∙ is.in_plan; holding = h; latest = at; upto = subst (λ n. n ≤ g) (sym same) is.upto }

owns_stays : (p : Past) (w : World) (x : Node) (l k : Line) → is_begin_line l ≡ false → OwnsWell p w x k → OwnsWell (noted p l) w x k
owns_stays p w x l (line.Note (note.Own y id g)) none is = (sets_stays p l id g none is.0, is.1)
owns_stays p w x l (line.Note (note.Begin v)) none is = tt
owns_stays p w x l (line.Note (note.Join y g)) none is = tt
owns_stays p w x l (line.Note (note.Leave y g)) none is = tt
owns_stays p w x l (line.Note (note.Give y id g)) none is = tt
owns_stays p w x l (line.Note (note.Set id g)) none is = tt
owns_stays p w x l (line.Note (note.Unset id)) none is = tt
owns_stays p w x l (line.Note (note.Up y id d count sdu)) none is = tt
owns_stays p w x l (line.Note (note.Freed id d count)) none is = tt
owns_stays p w x l (line.Note (note.Confirmed y)) none is = tt
owns_stays p w x l (line.Note (note.Refused y v)) none is = tt
owns_stays p w x l (line.Note note.Done) none is = tt
owns_stays p w x l (line.Note note.Rejected) none is = tt
owns_stays p w x l (line.Send m f) none is = tt
owns_stays p w x l (line.Event e) none is = tt
owns_stays p w x l (line.Answer a) none is = tt

all_own : (p : Past) (w : World) (x : Node) (l : Line) (ks : List Line) → is_begin_line l ≡ false → AllByRecursion (OwnsWell p w x) ks → AllByRecursion (OwnsWell (noted p l) w x) ks
all_own p w x l [] none all = tt
all_own p w x l (k ∷ ks) none all = (owns_stays p w x l k none all.0, all_own p w x l ks none all.1)

-- ---- such lines suit the past

-- the latest is what is found by the generation
named_latest : (id g : ℕ) (s : Setting) (hs : List Holding) (h : Holding) → latest_in id hs ≡ Some h → h.g ≤ g → named_in id g (Some s) hs ≡ Some h
named_latest id g s [] h at le = absurd (let bad : None ≡ Some h = at in cc)
named_latest id g s (u ∷ hs) h at le = by (u.id == id) refl at (λ is. named_latest id g s hs h is le)
  where
    or_else : Option Holding → Holding
    or_else None = u
    or_else (Some z) = z

    by : (b : Bool) → (u.id == id) ≡ b → (if b then Some u else latest_in id hs) ≡ Some h → (latest_in id hs ≡ Some h → named_in id g (Some s) hs ≡ Some h) → (if b && nat_le u.g g then Some u else named_in id g (Some s) hs) ≡ Some h
    by false apart is more = more is
    by true here is more =
        let same : u ≡ h = ap or_else is in
        ap (λ b. if b then Some u else named_in id g (Some s) hs) (le-leb u.g g (subst (λ (z : Holding). z.g ≤ g) (sym same) le)) ∙ is

of_latest : (p : Past) (id g : ℕ) → Descends p → SetsLatest p id g → IsOfLatest p id g
of_latest p id g down is = record {
  holding = is.holding;
  named = ap (λ o. named_in id g o (holdings p)) is.in_plan ∙ named_latest id g is.set (holdings p) is.holding is.latest is.upto;
  latest = is.latest;
  distinct = distinct_names p down;
}

never_master : {X : Type 0} (x : Node) → is_same_node x M ≡ false → x ≡ M → X
never_master x off is = absurd (let bad : true ≡ false = ap (λ z. is_same_node z M) (sym is) ∙ off in cc)

owns_suit : (p : Past) (w : World) (x : Node) (a : Actives) (l : Line) → is_same_node x M ≡ false → Descends p → OrdersAsMaster x l → OwnsWell p w x l → Suits p a l
owns_suit p w x a (line.Note (note.Own y id g)) off down orders is = of_latest p id g down is.0
owns_suit p w x a (line.Send l (flight.Ctl (rec.Reconf q key))) off down orders is = never_master x off (orders refl)
owns_suit p w x a (line.Note (note.Begin v)) off down orders is = tt
owns_suit p w x a (line.Note (note.Join y g)) off down orders is = tt
owns_suit p w x a (line.Note (note.Leave y g)) off down orders is = tt
owns_suit p w x a (line.Note (note.Give y id g)) off down orders is = tt
owns_suit p w x a (line.Note (note.Set id g)) off down orders is = tt
owns_suit p w x a (line.Note (note.Unset id)) off down orders is = tt
owns_suit p w x a (line.Note (note.Up y id d count sdu)) off down orders is = tt
owns_suit p w x a (line.Note (note.Freed id d count)) off down orders is = tt
owns_suit p w x a (line.Note (note.Confirmed y)) off down orders is = tt
owns_suit p w x a (line.Note (note.Refused y v)) off down orders is = tt
owns_suit p w x a (line.Note note.Done) off down orders is = tt
owns_suit p w x a (line.Note note.Rejected) off down orders is = tt
owns_suit p w x a (line.Send l (flight.Air k g num tag pdu)) off down orders is = tt
owns_suit p w x a (line.Send l (flight.Ack k g num)) off down orders is = tt
owns_suit p w x a (line.Send l (flight.Tun tag packet)) off down orders is = tt
owns_suit p w x a (line.Send l (flight.Sdu k g sdu)) off down orders is = tt
owns_suit p w x a (line.Send l (flight.End k g)) off down orders is = tt
owns_suit p w x a (line.Send l (flight.Told k g count)) off down orders is = tt
owns_suit p w x a (line.Send l (flight.Ctl (rec.Rcomp g))) off down orders is = tt
owns_suit p w x a (line.Send l (flight.Ctl (rec.Scgf pairs))) off down orders is = tt
owns_suit p w x a (line.Send l (flight.Ctl (rec.Recov k))) off down orders is = tt
owns_suit p w x a (line.Send l (flight.Ctl (rec.Recovd k))) off down orders is = tt
owns_suit p w x a (line.Send l (flight.Ctl (rec.Addreq q key))) off down orders is = tt
owns_suit p w x a (line.Send l (flight.Ctl (rec.Addack g))) off down orders is = tt
owns_suit p w x a (line.Send l (flight.Ctl (rec.Addrej g))) off down orders is = tt
owns_suit p w x a (line.Send l (flight.Ctl (rec.Modreq q key))) off down orders is = tt
owns_suit p w x a (line.Send l (flight.Ctl (rec.Modack g))) off down orders is = tt
owns_suit p w x a (line.Send l (flight.Ctl (rec.Modrej g))) off down orders is = tt
owns_suit p w x a (line.Send l (flight.Ctl (rec.Recfg g))) off down orders is = tt
owns_suit p w x a (line.Send l (flight.Ctl (rec.Relreq q))) off down orders is = tt
owns_suit p w x a (line.Send l (flight.Ctl (rec.Relack g))) off down orders is = tt
owns_suit p w x a (line.Send l (flight.Ctl (rec.Relrej g))) off down orders is = tt
owns_suit p w x a (line.Send l (flight.Ctl (rec.Uecr g))) off down orders is = tt
owns_suit p w x a (line.Send l (flight.Ctl (rec.Snst s))) off down orders is = tt
owns_suit p w x a (line.Send l (flight.Ctl (rec.Moved g k))) off down orders is = tt
owns_suit p w x a (line.Send l (flight.Ctl (rec.Scgn k g))) off down orders is = tt
owns_suit p w x a (line.Send l (flight.Ctl rec.Modrqd)) off down orders is = tt
owns_suit p w x a (line.Send l (flight.Ctl (rec.Modcnf g))) off down orders is = tt
owns_suit p w x a (line.Send l (flight.Ctl (rec.Modref v))) off down orders is = tt
owns_suit p w x a (line.Send l (flight.Ctl rec.Chgrqd)) off down orders is = tt
owns_suit p w x a (line.Send l (flight.Ctl (rec.Chgcnf q))) off down orders is = tt
owns_suit p w x a (line.Send l (flight.Ctl (rec.Chgref v))) off down orders is = tt
owns_suit p w x a (line.Send l (flight.Ctl rec.Relrqd)) off down orders is = tt
owns_suit p w x a (line.Send l (flight.Ctl (rec.Relcnf q))) off down orders is = tt
owns_suit p w x a (line.Event e) off down orders is = tt
owns_suit p w x a (line.Answer r) off down orders is = tt

pub all_suit : (w : World) (x : Node) → is_same_node x M ≡ false → (ls : List Line) (p : Past) (a : Actives) → Descends p → AllByRecursion (λ l. is_begin_line l ≡ false) ls → AllByRecursion (OrdersAsMaster x) ls → AllByRecursion (OwnsWell p w x) ls → AllSuit p a ls
all_suit w x off [] p a down none orders own = tt
all_suit w x off (l ∷ ls) p a down none orders own =
    (owns_suit p w x a l off down orders.0 own.0, all_suit w x off ls (noted p l) (line_actives a l) (after_descends l p down) none.1 orders.1 (all_own p w x l ls none.0 own.1))

own_apart : (p : Past) (w : World) (x z : Node) (l : Line) → is_same_node x z ≡ false → OwnsWell p w x l → IsApart (actives_at z w) l
own_apart p w x z (line.Note (note.Own y id g)) apart is = is.1 z apart
own_apart p w x z (line.Note (note.Begin v)) apart is = tt
own_apart p w x z (line.Note (note.Join y g)) apart is = tt
own_apart p w x z (line.Note (note.Leave y g)) apart is = tt
own_apart p w x z (line.Note (note.Give y id g)) apart is = tt
own_apart p w x z (line.Note (note.Set id g)) apart is = tt
own_apart p w x z (line.Note (note.Unset id)) apart is = tt
own_apart p w x z (line.Note (note.Up y id d count sdu)) apart is = tt
own_apart p w x z (line.Note (note.Freed id d count)) apart is = tt
own_apart p w x z (line.Note (note.Confirmed y)) apart is = tt
own_apart p w x z (line.Note (note.Refused y v)) apart is = tt
own_apart p w x z (line.Note note.Done) apart is = tt
own_apart p w x z (line.Note note.Rejected) apart is = tt
own_apart p w x z (line.Send l f) apart is = tt
own_apart p w x z (line.Event e) apart is = tt
own_apart p w x z (line.Answer r) apart is = tt

pub all_apart : (p : Past) (w : World) (x z : Node) (ls : List Line) → is_same_node x z ≡ false → AllByRecursion (OwnsWell p w x) ls → AllByRecursion (IsApart (actives_at z w)) ls
all_apart p w x z [] apart own = tt
all_apart p w x z (l ∷ ls) apart own = (own_apart p w x z l apart own.0, all_apart p w x z ls apart own.1)
