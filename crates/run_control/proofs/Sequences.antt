-- What is sent on the control links, of several sends; and views that are the same for each identity.
use Rattle.std.proofs.Common.{ℕ, ◌≡◌, ◌++◌, ◌==◌, List, [], ◌∷◌, Option, refl, sym, ap, ◌∙◌, inl, inr}
use Rattle.std.specs.Prelude.{if◌then◌else◌, map}
use Rattle.std.proofs.lemmas.Bool.{cases_Bool, eqb-true}
use Rattle.dc_base.specs.Records.{item_id}
use Rattle.dc_base.specs.declared.nodes.Node.{Node}
use Rattle.dc_base.specs.declared.records.Item.{Item}
use Rattle.dc_base.specs.declared.records.Plan.{Plan}
use Rattle.node_rules.specs.Choices.{Send}
use Rattle.node_rules.specs.Parts.{part_at}
use Rattle.run_control.specs.SecondControl.{Views, at_id, bare_flight, carried_by, part_sends, part_view, records_sent, sent_by_items, with_item}
use Rattle.run_control.specs.Views.{View, controls}
use Rattle.run_control.proofs.Sent.{controls_append}

-- ---- sends

map_append : {X Y : Type 0} (f : X → Y) (xs ys : List X) → map f (xs ++ ys) ≡ map f xs ++ map f ys
map_append f [] ys = refl
map_append f (x ∷ xs) ys = ap (λ zs. f x ∷ zs) (map_append f xs ys)

pub records_append : (xs ys : List Send) → records_sent (xs ++ ys) ≡ records_sent xs ++ records_sent ys
records_append xs ys = ap (λ (zs : List Send). map (λ (s : Send). (s.0, bare_flight s.1)) zs) (controls_append xs ys) ∙ map_append (λ (s : Send). (s.0, bare_flight s.1)) (controls xs) (controls ys)

pub records_both : (xs ys : List Send) {us vs : List Send} → records_sent xs ≡ us → records_sent ys ≡ vs → records_sent (xs ++ ys) ≡ us ++ vs
records_both xs ys {us} {vs} p q = records_append xs ys ∙ ap (λ zs. zs ++ records_sent ys) p ∙ ap (λ zs. us ++ zs) q

-- traffic has none
pub no_records : (xs : List Send) → controls xs ≡ [] → records_sent xs ≡ []
no_records xs none = ap (λ (zs : List Send). map (λ (s : Send). (s.0, bare_flight s.1)) zs) none

-- ---- views

-- the same for each identity
abbrev pub Alike : Views → Views → Type 0
Alike v w = (k : ℕ) → v k ≡ w k

pub at_alike : (id : ℕ) (x y : Option View) (v w : Views) → x ≡ y → Alike v w → Alike (at_id id x v) (at_id id y w)
at_alike id x y v w p same k = ap (λ z. if id == k then z else v k) p ∙ ap (λ z. if id == k then y else z) (same k)

-- an identity keeps what it has
pub at_same : (id k : ℕ) (v : Views) → v k ≡ at_id id (v id) v k
at_same id k v =
    elim (cases_Bool (id == k)) [
      | inl here ↦ rw here (ap v (sym (eqb-true id k here)))
      | inr apart ↦ rw apart refl
    ]

pub item_alike : (me : Node) (p : Plan) (i : Item) (v w : Views) → Alike v w → Alike (with_item me p i v) (with_item me p i w)
item_alike me p i v w same = at_alike (item_id i) _ _ v w (ap (part_view p.g i (part_at me p.sec i)) (same (item_id i))) same

pub carried_alike : (me : Node) (p : Plan) (is : List Item) (v w : Views) → Alike v w → Alike (carried_by me p is v) (carried_by me p is w)
carried_alike me p [] v w same = same
carried_alike me p (i ∷ is) v w same = carried_alike me p is (with_item me p i v) (with_item me p i w) (item_alike me p i v w same)

pub items_alike : (me : Node) (p : Plan) (is : List Item) (v w : Views) → Alike v w → sent_by_items me p is v ≡ sent_by_items me p is w
items_alike me p [] v w same = refl
items_alike me p (i ∷ is) v w same =
    ap (λ zs. zs ++ sent_by_items me p is (with_item me p i v)) (ap (part_sends me p.g (part_at me p.sec i)) (same (item_id i)))
    ∙ ap (λ zs. part_sends me p.g (part_at me p.sec i) (w (item_id i)) ++ zs) (items_alike me p is (with_item me p i v) (with_item me p i w) (item_alike me p i v w same))
