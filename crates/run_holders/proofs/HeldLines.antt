-- A node holds, by the past, each bearer of which it has an active anchor: as the lines of an event are noted.
use Rattle.std.proofs.Common.{ℕ, ◌≡◌, ◌==◌, ◌∙◌, Bool, true, false, List, [], ◌∷◌, Option, Some, None, refl, sym, ap, subst, inl, inr}
use Rattle.std.specs.List.{list_any}
use Rattle.std.specs.Option.{option_map}
use Rattle.std.specs.Prelude.{fold, if◌then◌else◌, map, nat_le, nat_lt, ⊤, ◌&&◌, ◌||◌, ◌⊎◌}
use Rattle.std.proofs.lemmas.Bool.{eq-eqb, eqb-true, eqb-false, ne_eqb}
use Rattle.dc_base.specs.Nodes.{is_same_node}
use Rattle.dc_base.specs.declared.events.Line.{Line}
use Rattle.dc_base.specs.declared.events.Line.TheVariants as line
use Rattle.dc_base.specs.declared.events.Note.TheVariants as note
use Rattle.dc_base.specs.declared.flights.Flight.TheVariants as flight
use Rattle.dc_base.specs.declared.nodes.Dir.TheVariants.{Dl, Ul}
use Rattle.dc_base.specs.declared.nodes.LinkId.{LinkId}
use Rattle.dc_base.specs.declared.nodes.Node.{Node}
use Rattle.dc_base.specs.declared.nodes.Node.TheVariants.{A, B, M, T}
use Rattle.dc_base.specs.declared.records.Item.{Item}
use Rattle.dc_base.specs.declared.records.Item.TheVariants.{Set, Unset}
use Rattle.dc_base.specs.declared.records.Plan.{Plan}
use Rattle.dc_base.specs.declared.records.Rec.TheVariants as rec
use Rattle.claims.specs.Noted.{noted}
use Rattle.claims.specs.Past.{Past}
use Rattle.claims.specs.Reading.{Setting, holds_any, plan, setting, unsets}
use Rattle.run_table.specs.Words.{orders}
use Rattle.run_holders.specs.Actives.{Actives, LineFits, LinesFit, line_actives, with_active}
use Rattle.run_holders.specs.Fitting.{AllSuit, AreDistinct, HoldsAll, IsApart, IsDroppedBy, IsOfLatest, Suits}
use Rattle.run_holders.specs.Holdings.{Holding, changed_in, dropped_all, dropped_by, holdings, latest_in, let_go, named_in, on_latest, on_named, taken_by}
use Rattle.run_holders.proofs.HeldSeeing.{noted_give, noted_order, noted_own, noted_seen}

-- ---- establishments in a list

-- a node holds the latest of an identity
abbrev pub HoldsIn : List Holding → ℕ → Node → ℕ → Type 0
HoldsIn hs k x g = (h : Holding) × (latest_in k hs ≡ Some h) × (h.holder ≡ Some (x, g))

-- by changes that keep the identities
abbrev KeepsId : (Holding → Holding) → Type 0
KeepsId f = (h : Holding) → (f h).id ≡ h.id

pub latest_map : (k : ℕ) (f : Holding → Holding) → KeepsId f → (hs : List Holding) → latest_in k (map f hs) ≡ option_map f (latest_in k hs)
latest_map k f keeps [] = refl
latest_map k f keeps (h ∷ hs) =
    ap (λ n. if n == k then Some (f h) else latest_in k (map f hs)) (keeps h) ∙ by (h.id == k) (latest_map k f keeps hs)
  where
    by : (b : Bool) → latest_in k (map f hs) ≡ option_map f (latest_in k hs) → (if b then Some (f h) else latest_in k (map f hs)) ≡ option_map f (if b then Some h else latest_in k hs)
    by true more = refl
    by false more = more

pub latest_on : (k : ℕ) (f : Holding → Holding) → KeepsId f → (hs : List Holding) → latest_in k (on_latest k f hs) ≡ option_map f (latest_in k hs)
latest_on k f keeps [] = refl
latest_on k f keeps (h ∷ hs) = by (h.id == k) refl (latest_on k f keeps hs)
  where
    by : (b : Bool) → (h.id == k) ≡ b → latest_in k (on_latest k f hs) ≡ option_map f (latest_in k hs) → latest_in k (if b then f h ∷ hs else h ∷ on_latest k f hs) ≡ option_map f (if b then Some h else latest_in k hs)
    by true here more = ap (λ n. if n == k then Some (f h) else latest_in k hs) (keeps h) ∙ ap (λ b. if b then Some (f h) else latest_in k hs) here
    by false apart more = ap (λ b. if b then Some h else latest_in k (on_latest k f hs)) apart ∙ more

pub latest_off : (id k : ℕ) (f : Holding → Holding) → KeepsId f → (id == k) ≡ false → (hs : List Holding) → latest_in k (on_latest id f hs) ≡ latest_in k hs
latest_off id k f keeps other [] = refl
latest_off id k f keeps other (h ∷ hs) = by (h.id == id) refl (latest_off id k f keeps other hs)
  where
    by : (b : Bool) → (h.id == id) ≡ b → latest_in k (on_latest id f hs) ≡ latest_in k hs → latest_in k (if b then f h ∷ hs else h ∷ on_latest id f hs) ≡ latest_in k (h ∷ hs)
    by true here more =
        let off : (h.id == k) ≡ false = ap (λ n. n == k) (eqb-true h.id id here) ∙ other in
        ap (λ n. if n == k then Some (f h) else latest_in k hs) (keeps h) ∙ ap (λ b. if b then Some (f h) else latest_in k hs) off ∙ sym (ap (λ b. if b then Some h else latest_in k hs) off)
    by false apart more = ap (λ o. if h.id == k then Some h else o) more

-- what is found has the identity
pub latest_id : (k : ℕ) (hs : List Holding) (h : Holding) → latest_in k hs ≡ Some h → h.id ≡ k
latest_id k [] h at = absurd (let bad : None ≡ Some h = at in cc)
latest_id k (u ∷ hs) h at = by (u.id == k) refl at (λ is. latest_id k hs h is)
  where
    or_else : Holding → Option Holding → Holding
    or_else y None = y
    or_else y (Some z) = z

    some : (a b : Holding) → Some a ≡ Some b → a ≡ b
    some a b e = ap (or_else a) e

    by : (b : Bool) → (u.id == k) ≡ b → (if b then Some u else latest_in k hs) ≡ Some h → (latest_in k hs ≡ Some h → h.id ≡ k) → h.id ≡ k
    by true here is more = ap (λ (z : Holding). z.id) (sym (some u h is)) ∙ eqb-true u.id k here
    by false apart is more = more is

-- ---- a node lets go

keeps_go : (x : Node) → KeepsId (let_go x)
keeps_go x h = by (holds_any x h.holder)
  where
    by : (b : Bool) → (if b then record h { holder = None } else h).id ≡ h.id
    by true = refl
    by false = refl

-- what another holds stays so
go_other : (x y : Node) (g : ℕ) (h : Holding) → is_same_node x y ≡ false → h.holder ≡ Some (y, g) → (let_go x h).holder ≡ Some (y, g)
go_other x y g h apart holds = ap (λ (b : Bool). (if b then record h { holder = None } else h).holder) (ap (holds_any x) holds ∙ apart) ∙ holds

map_some : {X Y : Type 0} (f : X → Y) (o : Option X) (x : X) → o ≡ Some x → option_map f o ≡ Some (f x)
map_some f o x is = ap (λ z. option_map f z) is

gives_other : (id : ℕ) (x y : Node) (k g : ℕ) (hs : List Holding) → is_same_node x y ≡ false → HoldsIn hs k y g → HoldsIn (on_latest id (let_go x) hs) k y g
gives_other id x y k g hs apart (h, at, holds) = by (id == k) refl
  where
    by : (b : Bool) → (id == k) ≡ b → HoldsIn (on_latest id (let_go x) hs) k y g
    by true here =
        let same = eqb-true id k here in
        (let_go x h, subst (λ j. latest_in j (on_latest id (let_go x) hs) ≡ Some (let_go x h)) same (latest_on id (let_go x) (keeps_go x) hs ∙ map_some (let_go x) (latest_in id hs) h (ap (λ j. latest_in j hs) same ∙ at)), go_other x y g h apart holds)
    by false other = (h, latest_off id k (let_go x) (keeps_go x) other hs ∙ at, holds)

-- so does what the node itself holds of other identities
gives_off : (id : ℕ) (x y : Node) (k g : ℕ) (hs : List Holding) → (id == k) ≡ false → HoldsIn hs k y g → HoldsIn (on_latest id (let_go x) hs) k y g
gives_off id x y k g hs other (h, at, holds) = (h, latest_off id k (let_go x) (keeps_go x) other hs ∙ at, holds)

-- ---- items drop

keeps_drop : (x : Node) (g : ℕ) (i : Item) → KeepsId (λ h. dropped_by x g h i)
keeps_drop x g (Set id n first shape threshold policy key old) h = refl
keeps_drop x g (Unset id) h = by ((h.id == id) && nat_lt h.g g)
  where
    by : (b : Bool) → (if b then let_go x h else h).id ≡ h.id
    by true = keeps_go x h
    by false = refl

drop_other : (x y : Node) (g e : ℕ) (i : Item) (h : Holding) → is_same_node x y ≡ false → h.holder ≡ Some (y, e) → (dropped_by x g h i).holder ≡ Some (y, e)
drop_other x y g e (Set id n first shape threshold policy key old) h apart holds = holds
drop_other x y g e (Unset id) h apart holds = by ((h.id == id) && nat_lt h.g g)
  where
    by : (b : Bool) → (if b then let_go x h else h).holder ≡ Some (y, e)
    by true = go_other x y e h apart holds
    by false = holds

drop_off : (x y : Node) (g e k : ℕ) (i : Item) (h : Holding) → unsets k i ≡ false → h.id ≡ k → h.holder ≡ Some (y, e) → (dropped_by x g h i).holder ≡ Some (y, e)
drop_off x y g e k (Set id n first shape threshold policy key old) h none is holds = holds
drop_off x y g e k (Unset id) h none is holds = ap (λ (b : Bool). (if b then let_go x h else h).holder) other ∙ holds
  where
    off : (h.id == id) ≡ false
    off = ne_eqb h.id id (λ same. eqb-false id k none (sym same ∙ is))

    other : ((h.id == id) && nat_lt h.g g) ≡ false
    other = ap (λ b. b && nat_lt h.g g) off

-- what another node holds, or what no item drops, stays so
pub drops_other : (x y : Node) (g e k : ℕ) (items : List Item) (hs : List Holding) → is_same_node x y ≡ false → HoldsIn hs k y e → HoldsIn (dropped_all x g items hs) k y e
drops_other x y g e k [] hs apart is = is
drops_other x y g e k (i ∷ items) hs apart (h, at, holds) =
    drops_other x y g e k items (map (λ (u : Holding). dropped_by x g u i) hs) apart
    (dropped_by x g h i, latest_map k (λ u. dropped_by x g u i) (keeps_drop x g i) hs ∙ map_some (λ u. dropped_by x g u i) (latest_in k hs) h at, drop_other x y g e i h apart holds)

pub drops_off : (x y : Node) (g e k : ℕ) (items : List Item) (hs : List Holding) → list_any (unsets k) items ≡ false → HoldsIn hs k y e → HoldsIn (dropped_all x g items hs) k y e
drops_off x y g e k [] hs none is = is
drops_off x y g e k (i ∷ items) hs none (h, at, holds) =
    let parts = both (unsets k i) (list_any (unsets k) items) none in
    drops_off x y g e k items (map (λ (u : Holding). dropped_by x g u i) hs) parts.1
    (dropped_by x g h i, latest_map k (λ u. dropped_by x g u i) (keeps_drop x g i) hs ∙ map_some (λ u. dropped_by x g u i) (latest_in k hs) h at, drop_off x y g e k i h parts.0 (latest_id k hs h at) holds)
  where
    both : (b d : Bool) → (b || d) ≡ false → (b ≡ false) × (d ≡ false)
    both true d is = absurd cc
    both false d is = (refl, is)

-- ---- a node takes it

keeps_taking : (name : ℕ) (x : Node) (g : ℕ) → KeepsId (λ h. if h.g == name then taken_by x g h else h)
keeps_taking name x g h = by (h.g == name)
  where
    by : (b : Bool) → (if b then taken_by x g h else h).id ≡ h.id
    by true = refl
    by false = refl

owns_it : (x : Node) (id g : ℕ) (hs : List Holding) (h : Holding) → latest_in id hs ≡ Some h → HoldsIn (on_named h.g (taken_by x g) hs) id x g
owns_it x id g hs h at = (
  if h.g == h.g then taken_by x g h else h,
  latest_map id (λ u. if u.g == h.g then taken_by x g u else u) (keeps_taking h.g x g) hs ∙ map_some (λ u. if u.g == h.g then taken_by x g u else u) (latest_in id hs) h at,
  ap (λ (b : Bool). (if b then taken_by x g h else h).holder) (eq-eqb h.g h.g refl),
)

owns_off : (x y : Node) (id k g e : ℕ) (hs : List Holding) (h : Holding) → AreDistinct hs → latest_in id hs ≡ Some h → (id == k) ≡ false → HoldsIn hs k y e → HoldsIn (on_named h.g (taken_by x g) hs) k y e
owns_off x y id k g e hs h distinct at other (u, at', holds) = (
  if u.g == h.g then taken_by x g u else u,
  latest_map k (λ z. if z.g == h.g then taken_by x g z else z) (keeps_taking h.g x g) hs ∙ map_some (λ z. if z.g == h.g then taken_by x g z else z) (latest_in k hs) u at',
  ap (λ (b : Bool). (if b then taken_by x g u else u).holder) off ∙ holds,
)
  where
    off : (u.g == h.g) ≡ false
    off = ne_eqb u.g h.g (λ same. eqb-false id k other (distinct id k h u at at' (sym same)))

-- ---- one line

pub same_node : (x : Node) → is_same_node x x ≡ true
same_node T = refl
same_node M = refl
same_node A = refl
same_node B = refl

module _ (p : Past) where
  as_before : (x : Node) (a : Actives) (l : Line) → holdings (noted p l) ≡ holdings p → HoldsAll p x a → HoldsAll (noted p l) x a
  as_before x a l same holds k g at = subst (λ hs. HoldsIn hs k x g) (sym same) (holds k g at)

  own_is : (x : Node) (id g : ℕ) (is : IsOfLatest p id g) → holdings (noted p (line.Note (note.Own x id g))) ≡ on_named is.holding.g (taken_by x g) (holdings p)
  own_is x id g is = noted_own p x id g ∙ ap (changed_in (taken_by x g) (holdings p)) is.named

  own_holds : (x : Node) (id g : ℕ) (a : Actives) → IsOfLatest p id g → HoldsAll p x a → HoldsAll (noted p (line.Note (note.Own x id g))) x (with_active id (Some g) a)
  own_holds x id g a is holds k e at = subst (λ hs. HoldsIn hs k x e) (sym (own_is x id g is)) (by (id == k) refl at)
    where
      by : (b : Bool) → (id == k) ≡ b → (if b then Some g else a k) ≡ Some e → HoldsIn (on_named is.holding.g (taken_by x g) (holdings p)) k x e
      by true here at' =
          subst (λ j. HoldsIn (on_named is.holding.g (taken_by x g) (holdings p)) j x e) (eqb-true id k here)
          (subst (λ o. HoldsIn (on_named is.holding.g (taken_by x g) (holdings p)) id x (of o)) at' (owns_it x id g (holdings p) is.holding is.latest))
        where
          of : Option ℕ → ℕ
          of None = g
          of (Some z) = z
      by false other at' = owns_off x x id k g e (holdings p) is.holding is.distinct is.latest other (holds k e at')

  give_holds : (x : Node) (id g : ℕ) (a : Actives) → HoldsAll p x a → HoldsAll (noted p (line.Note (note.Give x id g))) x (with_active id None a)
  give_holds x id g a holds k e at = subst (λ hs. HoldsIn hs k x e) (sym (noted_give p x id g)) (by (id == k) refl at)
    where
      by : (b : Bool) → (id == k) ≡ b → (if b then None else a k) ≡ Some e → HoldsIn (on_latest id (let_go x) (holdings p)) k x e
      by true here at' = absurd (let bad : None ≡ Some e = at' in cc)
      by false other at' = gives_off id x x k e (holdings p) other (holds k e at')

  -- a plan is carried out
  order_holds : (x : Node) (a : Actives) (l : LinkId) (q : Plan) (key : List ℕ) → ((id : ℕ) → IsDroppedBy p q.g id → a id ≡ None) → HoldsAll p x a → HoldsAll (noted p (line.Send l (flight.Ctl (rec.Reconf q key)))) x a
  order_holds x a l q key none holds k e at = by (noted_order p l q key)
    where
      now : List Holding
      now = holdings (noted p (line.Send l (flight.Ctl (rec.Reconf q key))))

      by : (now ≡ holdings p) ⊎ ((r : Plan) × (plan p q.g ≡ Some r) × (now ≡ dropped_all M q.g r.items (holdings p))) → HoldsIn now k x e
      by (inl same) = subst (λ hs. HoldsIn hs k x e) (sym same) (holds k e at)
      by (inr (r, found, drops)) = subst (λ hs. HoldsIn hs k x e) (sym drops) (dropped (list_any (unsets k) r.items) refl)
        where
          dropped : (b : Bool) → list_any (unsets k) r.items ≡ b → HoldsIn (dropped_all M q.g r.items (holdings p)) k x e
          dropped true is = absurd (let bad : None ≡ Some e = sym (none k (r, found, is)) ∙ at in cc)
          dropped false is = drops_off M x q.g e k r.items (holdings p) is (holds k e at)

-- ---- the lines of the node itself

-- the claim of an anchor that is frozen, or that hands up
abbrev pub is_give_or_handing : Line → Bool
is_give_or_handing (line.Note (note.Give x id g)) = true
is_give_or_handing (line.Note (note.Up x id Ul count sdu)) = true
is_give_or_handing _ = false

pub line_holds : (p : Past) (x : Node) (a : Actives) (l : Line) → LineFits x a l → Suits p a l → HoldsAll p x a → HoldsAll (noted p l) x (line_actives a l)
line_holds p x a (line.Note (note.Own y id g)) fit suits holds = subst (λ z. HoldsAll (noted p (line.Note (note.Own z id g))) x (with_active id (Some g) a)) (sym fit) (own_holds p x id g a suits holds)
line_holds p x a (line.Note (note.Give y id g)) fit suits holds = subst (λ z. HoldsAll (noted p (line.Note (note.Give z id g))) x (with_active id None a)) (sym fit.0) (give_holds p x id g a holds)
line_holds p x a (line.Send l (flight.Ctl (rec.Reconf q key))) fit suits holds = order_holds p x a l q key suits holds
line_holds p x a (line.Note (note.Begin w)) fit suits holds = as_before p x a (line.Note (note.Begin w)) (noted_seen p (line.Note (note.Begin w)) refl) holds
line_holds p x a (line.Note (note.Join y g)) fit suits holds = as_before p x a (line.Note (note.Join y g)) (noted_seen p (line.Note (note.Join y g)) refl) holds
line_holds p x a (line.Note (note.Leave y g)) fit suits holds = as_before p x a (line.Note (note.Leave y g)) (noted_seen p (line.Note (note.Leave y g)) refl) holds
line_holds p x a (line.Note (note.Set id g)) fit suits holds = as_before p x a (line.Note (note.Set id g)) (noted_seen p (line.Note (note.Set id g)) refl) holds
line_holds p x a (line.Note (note.Unset id)) fit suits holds = as_before p x a (line.Note (note.Unset id)) (noted_seen p (line.Note (note.Unset id)) refl) holds
line_holds p x a (line.Note (note.Up y id Ul count sdu)) fit suits holds = as_before p x a (line.Note (note.Up y id Ul count sdu)) (noted_seen p (line.Note (note.Up y id Ul count sdu)) refl) holds
line_holds p x a (line.Note (note.Up y id Dl count sdu)) fit suits holds = as_before p x a (line.Note (note.Up y id Dl count sdu)) (noted_seen p (line.Note (note.Up y id Dl count sdu)) refl) holds
line_holds p x a (line.Note (note.Freed id d count)) fit suits holds = as_before p x a (line.Note (note.Freed id d count)) (noted_seen p (line.Note (note.Freed id d count)) refl) holds
line_holds p x a (line.Note (note.Confirmed y)) fit suits holds = as_before p x a (line.Note (note.Confirmed y)) (noted_seen p (line.Note (note.Confirmed y)) refl) holds
line_holds p x a (line.Note (note.Refused y w)) fit suits holds = as_before p x a (line.Note (note.Refused y w)) (noted_seen p (line.Note (note.Refused y w)) refl) holds
line_holds p x a (line.Note note.Done) fit suits holds = as_before p x a (line.Note note.Done) (noted_seen p (line.Note note.Done) refl) holds
line_holds p x a (line.Note note.Rejected) fit suits holds = as_before p x a (line.Note note.Rejected) (noted_seen p (line.Note note.Rejected) refl) holds
line_holds p x a (line.Send l (flight.Air id g num tag pdu)) fit suits holds = as_before p x a (line.Send l (flight.Air id g num tag pdu)) (noted_seen p (line.Send l (flight.Air id g num tag pdu)) refl) holds
line_holds p x a (line.Send l (flight.Ack id g num)) fit suits holds = as_before p x a (line.Send l (flight.Ack id g num)) (noted_seen p (line.Send l (flight.Ack id g num)) refl) holds
line_holds p x a (line.Send l (flight.Tun tag packet)) fit suits holds = as_before p x a (line.Send l (flight.Tun tag packet)) (noted_seen p (line.Send l (flight.Tun tag packet)) refl) holds
line_holds p x a (line.Send l (flight.Sdu id g sdu)) fit suits holds = as_before p x a (line.Send l (flight.Sdu id g sdu)) (noted_seen p (line.Send l (flight.Sdu id g sdu)) refl) holds
line_holds p x a (line.Send l (flight.End id g)) fit suits holds = as_before p x a (line.Send l (flight.End id g)) (noted_seen p (line.Send l (flight.End id g)) refl) holds
line_holds p x a (line.Send l (flight.Told id g count)) fit suits holds = as_before p x a (line.Send l (flight.Told id g count)) (noted_seen p (line.Send l (flight.Told id g count)) refl) holds
line_holds p x a (line.Send l (flight.Ctl (rec.Rcomp g))) fit suits holds = as_before p x a (line.Send l (flight.Ctl (rec.Rcomp g))) (noted_seen p (line.Send l (flight.Ctl (rec.Rcomp g))) refl) holds
line_holds p x a (line.Send l (flight.Ctl (rec.Scgf pairs))) fit suits holds = as_before p x a (line.Send l (flight.Ctl (rec.Scgf pairs))) (noted_seen p (line.Send l (flight.Ctl (rec.Scgf pairs))) refl) holds
line_holds p x a (line.Send l (flight.Ctl (rec.Recov id))) fit suits holds = as_before p x a (line.Send l (flight.Ctl (rec.Recov id))) (noted_seen p (line.Send l (flight.Ctl (rec.Recov id))) refl) holds
line_holds p x a (line.Send l (flight.Ctl (rec.Recovd id))) fit suits holds = as_before p x a (line.Send l (flight.Ctl (rec.Recovd id))) (noted_seen p (line.Send l (flight.Ctl (rec.Recovd id))) refl) holds
line_holds p x a (line.Send l (flight.Ctl (rec.Addreq q key))) fit suits holds = as_before p x a (line.Send l (flight.Ctl (rec.Addreq q key))) (noted_seen p (line.Send l (flight.Ctl (rec.Addreq q key))) refl) holds
line_holds p x a (line.Send l (flight.Ctl (rec.Addack g))) fit suits holds = as_before p x a (line.Send l (flight.Ctl (rec.Addack g))) (noted_seen p (line.Send l (flight.Ctl (rec.Addack g))) refl) holds
line_holds p x a (line.Send l (flight.Ctl (rec.Addrej g))) fit suits holds = as_before p x a (line.Send l (flight.Ctl (rec.Addrej g))) (noted_seen p (line.Send l (flight.Ctl (rec.Addrej g))) refl) holds
line_holds p x a (line.Send l (flight.Ctl (rec.Modreq q key))) fit suits holds = as_before p x a (line.Send l (flight.Ctl (rec.Modreq q key))) (noted_seen p (line.Send l (flight.Ctl (rec.Modreq q key))) refl) holds
line_holds p x a (line.Send l (flight.Ctl (rec.Modack g))) fit suits holds = as_before p x a (line.Send l (flight.Ctl (rec.Modack g))) (noted_seen p (line.Send l (flight.Ctl (rec.Modack g))) refl) holds
line_holds p x a (line.Send l (flight.Ctl (rec.Modrej g))) fit suits holds = as_before p x a (line.Send l (flight.Ctl (rec.Modrej g))) (noted_seen p (line.Send l (flight.Ctl (rec.Modrej g))) refl) holds
line_holds p x a (line.Send l (flight.Ctl (rec.Recfg g))) fit suits holds = as_before p x a (line.Send l (flight.Ctl (rec.Recfg g))) (noted_seen p (line.Send l (flight.Ctl (rec.Recfg g))) refl) holds
line_holds p x a (line.Send l (flight.Ctl (rec.Relreq q))) fit suits holds = as_before p x a (line.Send l (flight.Ctl (rec.Relreq q))) (noted_seen p (line.Send l (flight.Ctl (rec.Relreq q))) refl) holds
line_holds p x a (line.Send l (flight.Ctl (rec.Relack g))) fit suits holds = as_before p x a (line.Send l (flight.Ctl (rec.Relack g))) (noted_seen p (line.Send l (flight.Ctl (rec.Relack g))) refl) holds
line_holds p x a (line.Send l (flight.Ctl (rec.Relrej g))) fit suits holds = as_before p x a (line.Send l (flight.Ctl (rec.Relrej g))) (noted_seen p (line.Send l (flight.Ctl (rec.Relrej g))) refl) holds
line_holds p x a (line.Send l (flight.Ctl (rec.Uecr g))) fit suits holds = as_before p x a (line.Send l (flight.Ctl (rec.Uecr g))) (noted_seen p (line.Send l (flight.Ctl (rec.Uecr g))) refl) holds
line_holds p x a (line.Send l (flight.Ctl (rec.Snst s))) fit suits holds = as_before p x a (line.Send l (flight.Ctl (rec.Snst s))) (noted_seen p (line.Send l (flight.Ctl (rec.Snst s))) refl) holds
line_holds p x a (line.Send l (flight.Ctl (rec.Moved g id))) fit suits holds = as_before p x a (line.Send l (flight.Ctl (rec.Moved g id))) (noted_seen p (line.Send l (flight.Ctl (rec.Moved g id))) refl) holds
line_holds p x a (line.Send l (flight.Ctl (rec.Scgn id g))) fit suits holds = as_before p x a (line.Send l (flight.Ctl (rec.Scgn id g))) (noted_seen p (line.Send l (flight.Ctl (rec.Scgn id g))) refl) holds
line_holds p x a (line.Send l (flight.Ctl rec.Modrqd)) fit suits holds = as_before p x a (line.Send l (flight.Ctl rec.Modrqd)) (noted_seen p (line.Send l (flight.Ctl rec.Modrqd)) refl) holds
line_holds p x a (line.Send l (flight.Ctl (rec.Modcnf g))) fit suits holds = as_before p x a (line.Send l (flight.Ctl (rec.Modcnf g))) (noted_seen p (line.Send l (flight.Ctl (rec.Modcnf g))) refl) holds
line_holds p x a (line.Send l (flight.Ctl (rec.Modref w))) fit suits holds = as_before p x a (line.Send l (flight.Ctl (rec.Modref w))) (noted_seen p (line.Send l (flight.Ctl (rec.Modref w))) refl) holds
line_holds p x a (line.Send l (flight.Ctl rec.Chgrqd)) fit suits holds = as_before p x a (line.Send l (flight.Ctl rec.Chgrqd)) (noted_seen p (line.Send l (flight.Ctl rec.Chgrqd)) refl) holds
line_holds p x a (line.Send l (flight.Ctl (rec.Chgcnf q))) fit suits holds = as_before p x a (line.Send l (flight.Ctl (rec.Chgcnf q))) (noted_seen p (line.Send l (flight.Ctl (rec.Chgcnf q))) refl) holds
line_holds p x a (line.Send l (flight.Ctl (rec.Chgref w))) fit suits holds = as_before p x a (line.Send l (flight.Ctl (rec.Chgref w))) (noted_seen p (line.Send l (flight.Ctl (rec.Chgref w))) refl) holds
line_holds p x a (line.Send l (flight.Ctl rec.Relrqd)) fit suits holds = as_before p x a (line.Send l (flight.Ctl rec.Relrqd)) (noted_seen p (line.Send l (flight.Ctl rec.Relrqd)) refl) holds
line_holds p x a (line.Send l (flight.Ctl (rec.Relcnf q))) fit suits holds = as_before p x a (line.Send l (flight.Ctl (rec.Relcnf q))) (noted_seen p (line.Send l (flight.Ctl (rec.Relcnf q))) refl) holds
line_holds p x a (line.Event e) fit suits holds = as_before p x a (line.Event e) (noted_seen p (line.Event e) refl) holds
line_holds p x a (line.Answer r) fit suits holds = as_before p x a (line.Answer r) (noted_seen p (line.Answer r) refl) holds

-- after several lines
pub lines_hold : (x : Node) (ls : List Line) (p : Past) (a : Actives) → LinesFit x a ls → AllSuit p a ls → HoldsAll p x a → HoldsAll (fold noted p ls) x (fold line_actives a ls)
lines_hold x [] p a fit suit holds = holds
lines_hold x (l ∷ ls) p a fit suit holds = lines_hold x ls (noted p l) (line_actives a l) fit.1 suit.1 (line_holds p x a l fit.0 suit.0 holds)

-- ---- the lines of another node

-- what is found by a generation has the identity
pub named_id : (id g : ℕ) (s : Setting) (hs : List Holding) (h : Holding) → named_in id g (Some s) hs ≡ Some h → h.id ≡ id
named_id id g s [] h at = absurd (let bad : None ≡ Some h = at in cc)
named_id id g s (u ∷ hs) h at = by (u.id == id) refl at (λ is. named_id id g s hs h is)
  where
    or_else : Option Holding → Holding
    or_else None = u
    or_else (Some z) = z

    by : (b : Bool) → (u.id == id) ≡ b → (if b && nat_le u.g g then Some u else named_in id g (Some s) hs) ≡ Some h → (named_in id g (Some s) hs ≡ Some h → h.id ≡ id) → h.id ≡ id
    by false apart is more = more is
    by true here is more = within (nat_le u.g g) is
      where
        within : (d : Bool) → (if d then Some u else named_in id g (Some s) hs) ≡ Some h → h.id ≡ id
        within true e = ap (λ (z : Holding). z.id) (sym (ap or_else e)) ∙ eqb-true u.id id here
        within false e = more e

-- no two establishments have one name, whether they are the latest of their identities or not
abbrev pub AreApartNames : List Holding → Type 0
AreApartNames hs = (id g : ℕ) (s : Setting) (k : ℕ) (h u : Holding) → named_in id g (Some s) hs ≡ Some h → latest_in k hs ≡ Some u → h.g ≡ u.g → id ≡ k

module _ (p : Past) (x y : Node) (b : Actives) (other : is_same_node x y ≡ false) (apart : AreApartNames (holdings p)) where
  others_own : (id g : ℕ) → b id ≡ None → HoldsAll p y b → HoldsAll (noted p (line.Note (note.Own x id g))) y b
  others_own id g none holds k e at = subst (λ hs. HoldsIn hs k y e) (sym (noted_own p x id g)) (by (setting p id g))
    where
      off : (id == k) ≡ false
      off = ne_eqb id k (λ same. absurd (let bad : None ≡ Some e = sym none ∙ ap b same ∙ at in cc))

      of_named : (s : Setting) (o : Option Holding) → named_in id g (Some s) (holdings p) ≡ o → HoldsIn (changed_in (taken_by x g) (holdings p) o) k y e
      of_named s None found = holds k e at
      of_named s (Some h) found = changed (holds k e at)
        where
          changed : HoldsIn (holdings p) k y e → HoldsIn (on_named h.g (taken_by x g) (holdings p)) k y e
          changed (u, at', is) = (
            if u.g == h.g then taken_by x g u else u,
            latest_map k (λ z. if z.g == h.g then taken_by x g z else z) (keeps_taking h.g x g) (holdings p) ∙ map_some (λ z. if z.g == h.g then taken_by x g z else z) (latest_in k (holdings p)) u at',
            ap (λ (d : Bool). (if d then taken_by x g u else u).holder) (ne_eqb u.g h.g (λ same. eqb-false id k off (apart id g s k h u found at' (sym same)))) ∙ is,
          )

      by : (o : Option Setting) → HoldsIn (changed_in (taken_by x g) (holdings p) (named_in id g o (holdings p))) k y e
      by None = holds k e at
      by (Some s) = of_named s (named_in id g (Some s) (holdings p)) refl

  others_give : (id g : ℕ) → HoldsAll p y b → HoldsAll (noted p (line.Note (note.Give x id g))) y b
  others_give id g holds k e at = subst (λ hs. HoldsIn hs k y e) (sym (noted_give p x id g)) (gives_other id x y k e (holdings p) other (holds k e at))

-- a plan that is carried out drops what the master holds, and no other node
others_order : (p : Past) (y : Node) (b : Actives) (l : LinkId) (q : Plan) (key : List ℕ) → is_same_node M y ≡ false → HoldsAll p y b → HoldsAll (noted p (line.Send l (flight.Ctl (rec.Reconf q key)))) y b
others_order p y b l q key other holds k e at = by (noted_order p l q key)
  where
    now : List Holding
    now = holdings (noted p (line.Send l (flight.Ctl (rec.Reconf q key))))

    by : (now ≡ holdings p) ⊎ ((r : Plan) × (plan p q.g ≡ Some r) × (now ≡ dropped_all M q.g r.items (holdings p))) → HoldsIn now k y e
    by (inl same) = subst (λ hs. HoldsIn hs k y e) (sym same) (holds k e at)
    by (inr (r, found, drops)) = subst (λ hs. HoldsIn hs k y e) (sym drops) (drops_other M y q.g e k r.items (holdings p) other (holds k e at))

-- a line of a node has the terminal reconfigure only if the node is the master
abbrev pub OrdersAsMaster : Node → Line → Type 0
OrdersAsMaster x (line.Send l f) = orders f ≡ true → x ≡ M
OrdersAsMaster x _ = ⊤

pub other_holds : (p : Past) (x y : Node) (a b : Actives) (l : Line) → is_same_node x y ≡ false → AreApartNames (holdings p) → LineFits x a l → IsApart b l → OrdersAsMaster x l → HoldsAll p y b → HoldsAll (noted p l) y b
other_holds p x y a b (line.Note (note.Own z id g)) other names fit apart orders' holds = subst (λ n. HoldsAll (noted p (line.Note (note.Own n id g))) y b) (sym fit) (others_own p x y b other names id g apart holds)
other_holds p x y a b (line.Note (note.Give z id g)) other names fit apart orders' holds = subst (λ n. HoldsAll (noted p (line.Note (note.Give n id g))) y b) (sym fit.0) (others_give p x y b other names id g holds)
other_holds p x y a b (line.Send l (flight.Ctl (rec.Reconf q key))) other names fit apart orders' holds = others_order p y b l q key (ap (λ n. is_same_node n y) (sym (orders' refl)) ∙ other) holds
other_holds p x y a b (line.Note (note.Begin w)) other names fit apart orders' holds = as_before p y b (line.Note (note.Begin w)) (noted_seen p (line.Note (note.Begin w)) refl) holds
other_holds p x y a b (line.Note (note.Join z g)) other names fit apart orders' holds = as_before p y b (line.Note (note.Join z g)) (noted_seen p (line.Note (note.Join z g)) refl) holds
other_holds p x y a b (line.Note (note.Leave z g)) other names fit apart orders' holds = as_before p y b (line.Note (note.Leave z g)) (noted_seen p (line.Note (note.Leave z g)) refl) holds
other_holds p x y a b (line.Note (note.Set id g)) other names fit apart orders' holds = as_before p y b (line.Note (note.Set id g)) (noted_seen p (line.Note (note.Set id g)) refl) holds
other_holds p x y a b (line.Note (note.Unset id)) other names fit apart orders' holds = as_before p y b (line.Note (note.Unset id)) (noted_seen p (line.Note (note.Unset id)) refl) holds
other_holds p x y a b (line.Note (note.Up z id Ul count sdu)) other names fit apart orders' holds = as_before p y b (line.Note (note.Up z id Ul count sdu)) (noted_seen p (line.Note (note.Up z id Ul count sdu)) refl) holds
other_holds p x y a b (line.Note (note.Up z id Dl count sdu)) other names fit apart orders' holds = as_before p y b (line.Note (note.Up z id Dl count sdu)) (noted_seen p (line.Note (note.Up z id Dl count sdu)) refl) holds
other_holds p x y a b (line.Note (note.Freed id d count)) other names fit apart orders' holds = as_before p y b (line.Note (note.Freed id d count)) (noted_seen p (line.Note (note.Freed id d count)) refl) holds
other_holds p x y a b (line.Note (note.Confirmed z)) other names fit apart orders' holds = as_before p y b (line.Note (note.Confirmed z)) (noted_seen p (line.Note (note.Confirmed z)) refl) holds
other_holds p x y a b (line.Note (note.Refused z w)) other names fit apart orders' holds = as_before p y b (line.Note (note.Refused z w)) (noted_seen p (line.Note (note.Refused z w)) refl) holds
other_holds p x y a b (line.Note note.Done) other names fit apart orders' holds = as_before p y b (line.Note note.Done) (noted_seen p (line.Note note.Done) refl) holds
other_holds p x y a b (line.Note note.Rejected) other names fit apart orders' holds = as_before p y b (line.Note note.Rejected) (noted_seen p (line.Note note.Rejected) refl) holds
other_holds p x y a b (line.Send l (flight.Air id g num tag pdu)) other names fit apart orders' holds = as_before p y b (line.Send l (flight.Air id g num tag pdu)) (noted_seen p (line.Send l (flight.Air id g num tag pdu)) refl) holds
other_holds p x y a b (line.Send l (flight.Ack id g num)) other names fit apart orders' holds = as_before p y b (line.Send l (flight.Ack id g num)) (noted_seen p (line.Send l (flight.Ack id g num)) refl) holds
other_holds p x y a b (line.Send l (flight.Tun tag packet)) other names fit apart orders' holds = as_before p y b (line.Send l (flight.Tun tag packet)) (noted_seen p (line.Send l (flight.Tun tag packet)) refl) holds
other_holds p x y a b (line.Send l (flight.Sdu id g sdu)) other names fit apart orders' holds = as_before p y b (line.Send l (flight.Sdu id g sdu)) (noted_seen p (line.Send l (flight.Sdu id g sdu)) refl) holds
other_holds p x y a b (line.Send l (flight.End id g)) other names fit apart orders' holds = as_before p y b (line.Send l (flight.End id g)) (noted_seen p (line.Send l (flight.End id g)) refl) holds
other_holds p x y a b (line.Send l (flight.Told id g count)) other names fit apart orders' holds = as_before p y b (line.Send l (flight.Told id g count)) (noted_seen p (line.Send l (flight.Told id g count)) refl) holds
other_holds p x y a b (line.Send l (flight.Ctl (rec.Rcomp g))) other names fit apart orders' holds = as_before p y b (line.Send l (flight.Ctl (rec.Rcomp g))) (noted_seen p (line.Send l (flight.Ctl (rec.Rcomp g))) refl) holds
other_holds p x y a b (line.Send l (flight.Ctl (rec.Scgf pairs))) other names fit apart orders' holds = as_before p y b (line.Send l (flight.Ctl (rec.Scgf pairs))) (noted_seen p (line.Send l (flight.Ctl (rec.Scgf pairs))) refl) holds
other_holds p x y a b (line.Send l (flight.Ctl (rec.Recov id))) other names fit apart orders' holds = as_before p y b (line.Send l (flight.Ctl (rec.Recov id))) (noted_seen p (line.Send l (flight.Ctl (rec.Recov id))) refl) holds
other_holds p x y a b (line.Send l (flight.Ctl (rec.Recovd id))) other names fit apart orders' holds = as_before p y b (line.Send l (flight.Ctl (rec.Recovd id))) (noted_seen p (line.Send l (flight.Ctl (rec.Recovd id))) refl) holds
other_holds p x y a b (line.Send l (flight.Ctl (rec.Addreq q key))) other names fit apart orders' holds = as_before p y b (line.Send l (flight.Ctl (rec.Addreq q key))) (noted_seen p (line.Send l (flight.Ctl (rec.Addreq q key))) refl) holds
other_holds p x y a b (line.Send l (flight.Ctl (rec.Addack g))) other names fit apart orders' holds = as_before p y b (line.Send l (flight.Ctl (rec.Addack g))) (noted_seen p (line.Send l (flight.Ctl (rec.Addack g))) refl) holds
other_holds p x y a b (line.Send l (flight.Ctl (rec.Addrej g))) other names fit apart orders' holds = as_before p y b (line.Send l (flight.Ctl (rec.Addrej g))) (noted_seen p (line.Send l (flight.Ctl (rec.Addrej g))) refl) holds
other_holds p x y a b (line.Send l (flight.Ctl (rec.Modreq q key))) other names fit apart orders' holds = as_before p y b (line.Send l (flight.Ctl (rec.Modreq q key))) (noted_seen p (line.Send l (flight.Ctl (rec.Modreq q key))) refl) holds
other_holds p x y a b (line.Send l (flight.Ctl (rec.Modack g))) other names fit apart orders' holds = as_before p y b (line.Send l (flight.Ctl (rec.Modack g))) (noted_seen p (line.Send l (flight.Ctl (rec.Modack g))) refl) holds
other_holds p x y a b (line.Send l (flight.Ctl (rec.Modrej g))) other names fit apart orders' holds = as_before p y b (line.Send l (flight.Ctl (rec.Modrej g))) (noted_seen p (line.Send l (flight.Ctl (rec.Modrej g))) refl) holds
other_holds p x y a b (line.Send l (flight.Ctl (rec.Recfg g))) other names fit apart orders' holds = as_before p y b (line.Send l (flight.Ctl (rec.Recfg g))) (noted_seen p (line.Send l (flight.Ctl (rec.Recfg g))) refl) holds
other_holds p x y a b (line.Send l (flight.Ctl (rec.Relreq q))) other names fit apart orders' holds = as_before p y b (line.Send l (flight.Ctl (rec.Relreq q))) (noted_seen p (line.Send l (flight.Ctl (rec.Relreq q))) refl) holds
other_holds p x y a b (line.Send l (flight.Ctl (rec.Relack g))) other names fit apart orders' holds = as_before p y b (line.Send l (flight.Ctl (rec.Relack g))) (noted_seen p (line.Send l (flight.Ctl (rec.Relack g))) refl) holds
other_holds p x y a b (line.Send l (flight.Ctl (rec.Relrej g))) other names fit apart orders' holds = as_before p y b (line.Send l (flight.Ctl (rec.Relrej g))) (noted_seen p (line.Send l (flight.Ctl (rec.Relrej g))) refl) holds
other_holds p x y a b (line.Send l (flight.Ctl (rec.Uecr g))) other names fit apart orders' holds = as_before p y b (line.Send l (flight.Ctl (rec.Uecr g))) (noted_seen p (line.Send l (flight.Ctl (rec.Uecr g))) refl) holds
other_holds p x y a b (line.Send l (flight.Ctl (rec.Snst s))) other names fit apart orders' holds = as_before p y b (line.Send l (flight.Ctl (rec.Snst s))) (noted_seen p (line.Send l (flight.Ctl (rec.Snst s))) refl) holds
other_holds p x y a b (line.Send l (flight.Ctl (rec.Moved g id))) other names fit apart orders' holds = as_before p y b (line.Send l (flight.Ctl (rec.Moved g id))) (noted_seen p (line.Send l (flight.Ctl (rec.Moved g id))) refl) holds
other_holds p x y a b (line.Send l (flight.Ctl (rec.Scgn id g))) other names fit apart orders' holds = as_before p y b (line.Send l (flight.Ctl (rec.Scgn id g))) (noted_seen p (line.Send l (flight.Ctl (rec.Scgn id g))) refl) holds
other_holds p x y a b (line.Send l (flight.Ctl rec.Modrqd)) other names fit apart orders' holds = as_before p y b (line.Send l (flight.Ctl rec.Modrqd)) (noted_seen p (line.Send l (flight.Ctl rec.Modrqd)) refl) holds
other_holds p x y a b (line.Send l (flight.Ctl (rec.Modcnf g))) other names fit apart orders' holds = as_before p y b (line.Send l (flight.Ctl (rec.Modcnf g))) (noted_seen p (line.Send l (flight.Ctl (rec.Modcnf g))) refl) holds
other_holds p x y a b (line.Send l (flight.Ctl (rec.Modref w))) other names fit apart orders' holds = as_before p y b (line.Send l (flight.Ctl (rec.Modref w))) (noted_seen p (line.Send l (flight.Ctl (rec.Modref w))) refl) holds
other_holds p x y a b (line.Send l (flight.Ctl rec.Chgrqd)) other names fit apart orders' holds = as_before p y b (line.Send l (flight.Ctl rec.Chgrqd)) (noted_seen p (line.Send l (flight.Ctl rec.Chgrqd)) refl) holds
other_holds p x y a b (line.Send l (flight.Ctl (rec.Chgcnf q))) other names fit apart orders' holds = as_before p y b (line.Send l (flight.Ctl (rec.Chgcnf q))) (noted_seen p (line.Send l (flight.Ctl (rec.Chgcnf q))) refl) holds
other_holds p x y a b (line.Send l (flight.Ctl (rec.Chgref w))) other names fit apart orders' holds = as_before p y b (line.Send l (flight.Ctl (rec.Chgref w))) (noted_seen p (line.Send l (flight.Ctl (rec.Chgref w))) refl) holds
other_holds p x y a b (line.Send l (flight.Ctl rec.Relrqd)) other names fit apart orders' holds = as_before p y b (line.Send l (flight.Ctl rec.Relrqd)) (noted_seen p (line.Send l (flight.Ctl rec.Relrqd)) refl) holds
other_holds p x y a b (line.Send l (flight.Ctl (rec.Relcnf q))) other names fit apart orders' holds = as_before p y b (line.Send l (flight.Ctl (rec.Relcnf q))) (noted_seen p (line.Send l (flight.Ctl (rec.Relcnf q))) refl) holds
other_holds p x y a b (line.Event e) other names fit apart orders' holds = as_before p y b (line.Event e) (noted_seen p (line.Event e) refl) holds
other_holds p x y a b (line.Answer r) other names fit apart orders' holds = as_before p y b (line.Answer r) (noted_seen p (line.Answer r) refl) holds
