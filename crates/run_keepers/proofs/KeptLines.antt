-- The lines of a node leave it so that it has an active anchor of each bearer that it holds by the past.
use Rattle.std.proofs.Common.{ℕ, ◌≡◌, ◌==◌, ◌∙◌, Bool, true, false, List, [], ◌∷◌, Option, Some, None, refl, sym, ap, subst, inl, inr}
use Rattle.std.proofs.lemmas.Bool.{eq-eqb, eqb-false, eqb-true, ne_eqb}
use Rattle.std.specs.Option.{option_and_then, option_map}
use Rattle.std.specs.Prelude.{if◌then◌else◌, map, nat_lt, ◌&&◌, ◌⊎◌}
use Rattle.dc_base.specs.Nodes.{is_same_node}
use Rattle.dc_base.specs.declared.events.Line.{Line}
use Rattle.dc_base.specs.declared.events.Line.TheVariants as line
use Rattle.dc_base.specs.declared.events.Note.TheVariants as note
use Rattle.dc_base.specs.declared.flights.Flight.TheVariants as flight
use Rattle.dc_base.specs.declared.nodes.LinkId.{LinkId}
use Rattle.dc_base.specs.declared.nodes.Node.{Node}
use Rattle.dc_base.specs.declared.nodes.Node.TheVariants.{M}
use Rattle.dc_base.specs.declared.records.Item.{Item}
use Rattle.dc_base.specs.declared.records.Item.TheVariants as item
use Rattle.dc_base.specs.declared.records.Plan.{Plan}
use Rattle.dc_base.specs.declared.records.Rec.TheVariants as rec
use Rattle.claims.specs.Noted.{noted}
use Rattle.claims.specs.Past.{Past}
use Rattle.claims.specs.Reading.{holds_any, plan}
use Rattle.run_holders.specs.Holdings.{Holding, changed_in, dropped_all, dropped_by, holder_in, holdings, latest_in, let_go, on_latest, taken_by}
use Rattle.run_holders.proofs.HeldLines.{latest_map, latest_off, latest_on, same_node}
use Rattle.run_holders.specs.Actives.{Actives, with_active}
use Rattle.run_holders.specs.Fitting.{IsOfLatest}
use Rattle.run_holders.proofs.HeldSeeing.{is_moving_line, noted_give, noted_order, noted_own, noted_seen}
use Rattle.run_keepers.specs.Kept.{KeepsAll}

-- ---- changes by which nobody comes to hold

abbrev LetsGo : (Holding → Holding) → Type 0
LetsGo f = (h : Holding) (z : Node × ℕ) → (f h).holder ≡ Some z → h.holder ≡ Some z

holder_less : (k : ℕ) (f : Holding → Holding) → ((h : Holding) → (f h).id ≡ h.id) → LetsGo f → (hs : List Holding) (z : Node × ℕ) → holder_in k (map f hs) ≡ Some z → holder_in k hs ≡ Some z
holder_less k f keeps less hs z at = by (latest_in k hs) (ap (option_and_then (λ (h : Holding). h.holder)) (sym (latest_map k f keeps hs)) ∙ at)
  where
    by : (o : Option Holding) → option_and_then (λ (h : Holding). h.holder) (option_map f o) ≡ Some z → option_and_then (λ (h : Holding). h.holder) o ≡ Some z
    by None is = is
    by (Some h) is = less h z is

let_less : (x : Node) → LetsGo (let_go x)
let_less x h z = by (holds_any x h.holder)
  where
    by : (b : Bool) → (if b then record h { holder = None } else h).holder ≡ Some z → h.holder ≡ Some z
    by true is = absurd (let bad : None ≡ Some z = is in cc)
    by false is = is

let_id : (x : Node) (h : Holding) → (let_go x h).id ≡ h.id
let_id x h = by (holds_any x h.holder)
  where
    by : (b : Bool) → (if b then record h { holder = None } else h).id ≡ h.id
    by true = refl
    by false = refl

drop_less : (x : Node) (g : ℕ) (i : Item) → LetsGo (λ h. dropped_by x g h i)
drop_less x g (item.Set id n first shape threshold policy key old) h z is = is
drop_less x g (item.Unset id) h z is = by ((h.id == id) && nat_lt h.g g) is
  where
    by : (b : Bool) → (if b then let_go x h else h).holder ≡ Some z → h.holder ≡ Some z
    by true at = let_less x h z at
    by false at = at

drop_id : (x : Node) (g : ℕ) (i : Item) (h : Holding) → (dropped_by x g h i).id ≡ h.id
drop_id x g (item.Set id n first shape threshold policy key old) h = refl
drop_id x g (item.Unset id) h = by ((h.id == id) && nat_lt h.g g)
  where
    by : (b : Bool) → (if b then let_go x h else h).id ≡ h.id
    by true = let_id x h
    by false = refl

-- a plan that drops
pub drops_less : (x : Node) (g k : ℕ) (items : List Item) (hs : List Holding) (z : Node × ℕ) → holder_in k (dropped_all x g items hs) ≡ Some z → holder_in k hs ≡ Some z
drops_less x g k [] hs z at = at
drops_less x g k (i ∷ items) hs z at =
    holder_less k (λ h. dropped_by x g h i) (drop_id x g i) (drop_less x g i) hs z (drops_less x g k items (map (λ (h : Holding). dropped_by x g h i) hs) z at)

-- so where a plan is carried out
pub order_less : (p : Past) (l : LinkId) (q : Plan) (key : List ℕ) (k : ℕ) (z : Node × ℕ) → holder_in k (holdings (noted p (line.Send l (flight.Ctl (rec.Reconf q key))))) ≡ Some z → holder_in k (holdings p) ≡ Some z
order_less p l q key k z at = by (noted_order p l q key)
  where
    now : List Holding
    now = holdings (noted p (line.Send l (flight.Ctl (rec.Reconf q key))))

    by : (now ≡ holdings p) ⊎ ((r : Plan) × (plan p q.g ≡ Some r) × (now ≡ dropped_all M q.g r.items (holdings p))) → holder_in k (holdings p) ≡ Some z
    by (inl same) = subst (λ hs. holder_in k hs ≡ Some z) same at
    by (inr (r, found, drops)) = drops_less M q.g k r.items (holdings p) z (subst (λ hs. holder_in k hs ≡ Some z) drops at)

-- ---- an anchor becomes active, or is frozen

module _ (p : Past) where
  own_holder : (x : Node) (id g : ℕ) → IsOfLatest p id g → (k : ℕ) → holder_in k (holdings (noted p (line.Note (note.Own x id g)))) ≡ (if id == k then Some (x, g) else holder_in k (holdings p))
  own_holder x id g is k =
      ap (holder_in k) (noted_own p x id g ∙ ap (changed_in (taken_by x g) (holdings p)) is.named) ∙ ap (option_and_then (λ (h : Holding). h.holder)) (latest_map k taking keeps (holdings p)) ∙ by (id == k) refl
    where
      taking : Holding → Holding
      taking h = if h.g == is.holding.g then taken_by x g h else h

      keeps : (h : Holding) → (taking h).id ≡ h.id
      keeps h = by' (h.g == is.holding.g)
        where
          by' : (b : Bool) → (if b then taken_by x g h else h).id ≡ h.id
          by' true = refl
          by' false = refl

      off : (u : Holding) → (id == k) ≡ false → latest_in k (holdings p) ≡ Some u → (taking u).holder ≡ u.holder
      off u other at =
          ap (λ (b : Bool). (if b then taken_by x g u else u).holder) (ne_eqb u.g is.holding.g (λ same. eqb-false id k other (is.distinct id k is.holding u is.latest at (sym same))))

      apart : (o : Option Holding) → (id == k) ≡ false → latest_in k (holdings p) ≡ o → option_and_then (λ (h : Holding). h.holder) (option_map taking o) ≡ option_and_then (λ (h : Holding). h.holder) o
      apart None other at = refl
      apart (Some u) other at = off u other at

      by : (b : Bool) → (id == k) ≡ b → option_and_then (λ (h : Holding). h.holder) (option_map taking (latest_in k (holdings p))) ≡ (if b then Some (x, g) else holder_in k (holdings p))
      by true here =
          ap (λ j. option_and_then (λ (h : Holding). h.holder) (option_map taking (latest_in j (holdings p)))) (sym (eqb-true id k here))
          ∙ ap (λ o. option_and_then (λ (h : Holding). h.holder) (option_map taking o)) is.latest
          ∙ ap (λ (b : Bool). (if b then taken_by x g is.holding else is.holding).holder) (eq-eqb is.holding.g is.holding.g refl)
      by false other = apart (latest_in k (holdings p)) other refl

  pub own_keeps : (x : Node) (id g : ℕ) (a : Actives) → IsOfLatest p id g → KeepsAll p x a → KeepsAll (noted p (line.Note (note.Own x id g))) x (with_active id (Some g) a)
  own_keeps x id g a is keeps k e at = by (id == k) (sym (own_holder x id g is k) ∙ at)
    where
      by : (b : Bool) → (if b then Some (x, g) else holder_in k (holdings p)) ≡ Some (x, e) → (if b then Some g else a k) ≡ Some e
      by true at' = ap (λ (o : Option (Node × ℕ)). option_map (λ (z : Node × ℕ). z.1) o) at'
      by false at' = keeps k e at'

  pub own_keeps_other : (x y : Node) (id g : ℕ) (b : Actives) → is_same_node x y ≡ false → IsOfLatest p id g → KeepsAll p y b → KeepsAll (noted p (line.Note (note.Own x id g))) y b
  own_keeps_other x y id g b other is keeps k e at = by (id == k) (sym (own_holder x id g is k) ∙ at)
    where
      node_or : Option (Node × ℕ) → Node
      node_or None = x
      node_or (Some z) = z.0

      by : (d : Bool) → (if d then Some (x, g) else holder_in k (holdings p)) ≡ Some (y, e) → b k ≡ Some e
      by true at' = absurd (let bad : true ≡ false = sym (same_node x) ∙ ap (is_same_node x) (ap node_or at') ∙ other in cc)
      by false at' = keeps k e at'

  give_holder : (x : Node) (id g k : ℕ) → holder_in k (holdings (noted p (line.Note (note.Give x id g)))) ≡ (if id == k then option_and_then (λ (h : Holding). (let_go x h).holder) (latest_in k (holdings p)) else holder_in k (holdings p))
  give_holder x id g k = ap (holder_in k) (noted_give p x id g) ∙ by (id == k) refl
    where
      mapped : (o : Option Holding) → option_and_then (λ (h : Holding). h.holder) (option_map (let_go x) o) ≡ option_and_then (λ (h : Holding). (let_go x h).holder) o
      mapped None = refl
      mapped (Some h) = refl

      by : (b : Bool) → (id == k) ≡ b → holder_in k (on_latest id (let_go x) (holdings p)) ≡ (if b then option_and_then (λ (h : Holding). (let_go x h).holder) (latest_in k (holdings p)) else holder_in k (holdings p))
      by true here =
          subst (λ j. holder_in j (on_latest id (let_go x) (holdings p)) ≡ option_and_then (λ (h : Holding). (let_go x h).holder) (latest_in j (holdings p))) (eqb-true id k here)
          (ap (option_and_then (λ (h : Holding). h.holder)) (latest_on id (let_go x) (let_id x) (holdings p)) ∙ mapped (latest_in id (holdings p)))
      by false other = ap (option_and_then (λ (h : Holding). h.holder)) (latest_off id k (let_go x) (let_id x) other (holdings p))

  -- of what it lets go, a node is not the holder
  let_none : (x : Node) (e : ℕ) (o : Option Holding) → option_and_then (λ (h : Holding). (let_go x h).holder) o ≡ Some (x, e) → ⊥
  let_none x e None at = absurd (let bad : None ≡ Some (x, e) = at in cc)
  let_none x e (Some h) at = by (holds_any x h.holder) refl at
    where
      by : (b : Bool) → holds_any x h.holder ≡ b → (if b then record h { holder = None } else h).holder ≡ Some (x, e) → ⊥
      by true is at' = absurd (let bad : None ≡ Some (x, e) = at' in cc)
      by false is at' = absurd (let bad : true ≡ false = sym (same_node x) ∙ sym (ap (holds_any x) at') ∙ is in cc)

  pub give_keeps : (x : Node) (id g : ℕ) (a : Actives) → KeepsAll p x a → KeepsAll (noted p (line.Note (note.Give x id g))) x (with_active id None a)
  give_keeps x id g a keeps k e at = by (id == k) (sym (give_holder x id g k) ∙ at)
    where
      by : (b : Bool) → (if b then option_and_then (λ (h : Holding). (let_go x h).holder) (latest_in k (holdings p)) else holder_in k (holdings p)) ≡ Some (x, e) → (if b then None else a k) ≡ Some e
      by true at' = absurd (let_none x e (latest_in k (holdings p)) at')
      by false at' = keeps k e at'

  pub give_keeps_other : (x y : Node) (id g : ℕ) (b : Actives) → KeepsAll p y b → KeepsAll (noted p (line.Note (note.Give x id g))) y b
  give_keeps_other x y id g b keeps k e at = by (id == k) (sym (give_holder x id g k) ∙ at)
    where
      less : (o : Option Holding) → option_and_then (λ (h : Holding). (let_go x h).holder) o ≡ Some (y, e) → option_and_then (λ (h : Holding). h.holder) o ≡ Some (y, e)
      less None is = is
      less (Some h) is = let_less x h (y, e) is

      by : (d : Bool) → (if d then option_and_then (λ (h : Holding). (let_go x h).holder) (latest_in k (holdings p)) else holder_in k (holdings p)) ≡ Some (y, e) → b k ≡ Some e
      by true at' = keeps k e (less (latest_in k (holdings p)) at')
      by false at' = keeps k e at'

  pub order_keeps : (x : Node) (a : Actives) (l : LinkId) (q : Plan) (key : List ℕ) → KeepsAll p x a → KeepsAll (noted p (line.Send l (flight.Ctl (rec.Reconf q key)))) x a
  order_keeps x a l q key keeps k e at = keeps k e (order_less p l q key k (x, e) at)

  pub same_keeps : (x : Node) (a : Actives) (l : Line) → is_moving_line l ≡ false → KeepsAll p x a → KeepsAll (noted p l) x a
  same_keeps x a l still keeps k e at = keeps k e (subst (λ hs. holder_in k hs ≡ Some (x, e)) (noted_seen p l still) at)
