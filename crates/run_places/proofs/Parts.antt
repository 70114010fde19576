-- What an item makes of the anchor at a node, and what is sent of it: the bearer's entity is neither doubled nor sent twice.
use Rattle.std.proofs.Common.{ℕ, ◌≡◌, ◌≤◌, ◌+◌, ◌==◌, ◌++◌, ◌∙◌, Bool, true, false, List, [], ◌∷◌, Option, Some, None, refl, sym, ap, subst, arith}
use Rattle.std.specs.Prelude.{if◌then◌else◌, ⊤}
use Rattle.std.specs.Option.{option_map}
use Rattle.std.proofs.lemmas.Bool.{eq-eqb}
use Rattle.dc_base.specs.Links.{link}
use Rattle.dc_base.specs.Records.{item_id}
use Rattle.dc_base.specs.declared.nodes.Class.TheVariants.{Ctl}
use Rattle.dc_base.specs.declared.nodes.LinkId.{LinkId}
use Rattle.dc_base.specs.declared.nodes.Node.{Node}
use Rattle.dc_base.specs.declared.nodes.Node.TheVariants.{M}
use Rattle.dc_base.specs.declared.records.Item.{Item}
use Rattle.dc_base.specs.declared.records.Item.TheVariants as item
use Rattle.dc_base.specs.declared.records.Plan.{Plan}
use Rattle.node_rules.specs.Choices.{Send}
use Rattle.node_rules.specs.Parts.{part_at}
use Rattle.node_rules.specs.declared.parts.Part.{Part}
use Rattle.node_rules.specs.declared.parts.Part.TheVariants.{Awaits as awaits, Drops as drops, Establishes as establishes, HandsOver as hands_over, HasNoAnchor as has_no_anchor, Renews as renews}
use Rattle.run_control.specs.MasterControl.{carried_here, own_part_sends, own_part_view, prepared_here, prepared_view, sent_here, with_own_item, with_prepared}
use Rattle.run_control.specs.SecondControl.{Views, carried_by, given, given_at, made, part_sends, part_view, renewed, renewed_at, sent_by_items, set_by, tells, tells_at, with_item}
use Rattle.run_control.specs.Views.{Bearer, Stage, View, has_status, holds, lacks_status}
use Rattle.run_places.specs.Tokens.{kept_at, kept_by}
use Rattle.run_places.proofs.Counting.{sent}
use Rattle.run_places.proofs.Items.{IsNamed, IsOwn, made_by, sends_by}

-- the part sets a bearer up
abbrev pub setting : Part → ℕ
setting establishes = 1
setting renews = 0
setting awaits = 0
setting (hands_over to) = 0
setting drops = 0
setting has_no_anchor = 0

-- ---- an anchor that is given up

other_status : (l : LinkId) (k : Stage) (g : ℕ) (v : View) (id : ℕ) → (v.bearer.id == id) ≡ false → sent id (tells_at k l g v) ≡ 0
other_status l holds g v id apart = ap (λ b. (if b then 1 else 0) + 0) apart
other_status l lacks_status g v id apart = refl
other_status l has_status g v id apart = refl

pub tells_others : (l : LinkId) (g : ℕ) (o : Option View) (j id : ℕ) → IsNamed j o → (j == id) ≡ false → sent id (tells l g o) ≡ 0
tells_others l g None j id named apart = refl
tells_others l g (Some v) j id named apart = other_status l v.stage g v id (ap (λ n. n == id) named ∙ apart)

given_stage : (l : LinkId) (k : Stage) (g : ℕ) (v : View) (id : ℕ) → v.stage ≡ k → kept_by (given_at k v) + sent id (tells_at k l g v) ≤ kept_at k
given_stage l holds g v id is = by (v.bearer.id == id)
  where
    by : (b : Bool) → 0 + ((if b then 1 else 0) + 0) ≤ 1
    by true = omega arith
    by false = omega arith
given_stage l lacks_status g v id is = omega (arith, ap kept_at is)
given_stage l has_status g v id is = omega (arith, ap kept_at is)

-- what it had goes with its status transfer
pub given_law : (l : LinkId) (g : ℕ) (o : Option View) (id : ℕ) → kept_by (given o) + sent id (tells l g o) ≤ kept_by o
given_law l g None id = omega arith
given_law l g (Some v) id = given_stage l v.stage g v id refl

named_given : (k : Stage) (v : View) (id : ℕ) → v.bearer.id ≡ id → IsNamed id (given_at k v)
named_given holds v id is = tt
named_given lacks_status v id is = is
named_given has_status v id is = is

given_named : (o : Option View) (id : ℕ) → IsNamed id o → IsNamed id (given o)
given_named None id is = tt
given_named (Some v) id is = named_given v.stage v id is

-- ---- an anchor in a new generation

renewed_stage : (k : Stage) (b : Bearer) (v : View) → v.stage ≡ k → kept_at (renewed_at k b v).stage ≡ kept_at k
renewed_stage holds b v is = refl
renewed_stage lacks_status b v is = ap kept_at is
renewed_stage has_status b v is = ap kept_at is

pub renewed_law : (b : Option Bearer) (o : Option View) → kept_by (renewed b o) ≡ kept_by o
renewed_law None o = refl
renewed_law (Some b) None = refl
renewed_law (Some b) (Some v) = renewed_stage v.stage b v refl

named_renewed : (k : Stage) (b : Bearer) (v : View) (id : ℕ) → b.id ≡ id → v.bearer.id ≡ id → (renewed_at k b v).bearer.id ≡ id
named_renewed holds b v id made is = made
named_renewed lacks_status b v id made is = is
named_renewed has_status b v id made is = is

renewed_named : (g : ℕ) (i : Item) (o : Option View) → IsNamed (item_id i) o → IsNamed (item_id i) (renewed (set_by g i) o)
renewed_named g (item.Set id n first shape threshold policy key old) None is = tt
renewed_named g (item.Set id n first shape threshold policy key old) (Some v) is = named_renewed v.stage (record { id = id; g = g; n = n; first = first }) v id refl is
renewed_named g (item.Unset id) o is = is

made_named : (g : ℕ) (i : Item) (k : Stage) → IsNamed (item_id i) (made k (set_by g i))
made_named g (item.Set id n first shape threshold policy key old) k = refl
made_named g (item.Unset id) k = tt

made_at_most : (k : Stage) (b : Option Bearer) → kept_by (made k b) ≤ kept_at k
made_at_most k None = omega arith
made_at_most k (Some b) = omega arith

-- ---- by the part

part_named : (g : ℕ) (i : Item) (part : Part) (o : Option View) → IsNamed (item_id i) o → IsNamed (item_id i) (part_view g i part o)
part_named g i establishes o is = made_named g i holds
part_named g i renews o is = renewed_named g i o is
part_named g i awaits o is = made_named g i lacks_status
part_named g i (hands_over to) o is = given_named o (item_id i) is
part_named g i drops o is = tt
part_named g i has_no_anchor o is = is

part_others : (me : Node) (g : ℕ) (i : Item) (part : Part) (o : Option View) (k : ℕ) → IsNamed (item_id i) o → (item_id i == k) ≡ false → sent k (part_sends me g part o) ≡ 0
part_others me g i establishes o k is apart = refl
part_others me g i renews o k is apart = refl
part_others me g i awaits o k is apart = refl
part_others me g i (hands_over to) o k is apart = tells_others (link me M Ctl) g o (item_id i) k is apart
part_others me g i drops o k is apart = refl
part_others me g i has_no_anchor o k is apart = refl

-- at a secondary node: no more is held and sent than was held, but what is set up
pub part_law : (me : Node) (g : ℕ) (i : Item) (part : Part) (o : Option View) (k : ℕ) → kept_by (part_view g i part o) + sent k (part_sends me g part o) ≤ kept_by o + setting part
part_law me g i establishes o k = omega (arith, made_at_most holds (set_by g i))
part_law me g i renews o k = omega (arith, renewed_law (set_by g i) o)
part_law me g i awaits o k = omega (arith, made_at_most lacks_status (set_by g i))
part_law me g i (hands_over to) o k = omega (arith, given_law (link me M Ctl) g o k)
part_law me g i drops o k = omega arith
part_law me g i has_no_anchor o k = omega arith

own_named : (g : ℕ) (i : Item) (part : Part) (o : Option View) → IsNamed (item_id i) o → IsNamed (item_id i) (own_part_view g i part o)
own_named g i establishes o is = made_named g i holds
own_named g i renews o is = renewed_named g i o is
own_named g i awaits o is = is
own_named g i (hands_over to) o is = given_named o (item_id i) is
own_named g i drops o is = tt
own_named g i has_no_anchor o is = is

own_others : (g : ℕ) (i : Item) (part : Part) (o : Option View) (k : ℕ) → IsNamed (item_id i) o → (item_id i == k) ≡ false → sent k (own_part_sends g part o) ≡ 0
own_others g i establishes o k is apart = refl
own_others g i renews o k is apart = refl
own_others g i awaits o k is apart = refl
own_others g i (hands_over to) o k is apart = tells_others (link M to Ctl) g o (item_id i) k is apart
own_others g i drops o k is apart = refl
own_others g i has_no_anchor o k is apart = refl

-- at the master
pub own_part_law : (g : ℕ) (i : Item) (part : Part) (o : Option View) (k : ℕ) → kept_by (own_part_view g i part o) + sent k (own_part_sends g part o) ≤ kept_by o + setting part
own_part_law g i establishes o k = omega (arith, made_at_most holds (set_by g i))
own_part_law g i renews o k = omega (arith, renewed_law (set_by g i) o)
own_part_law g i awaits o k = omega arith
own_part_law g i (hands_over to) o k = omega (arith, given_law (link M to Ctl) g o k)
own_part_law g i drops o k = omega arith
own_part_law g i has_no_anchor o k = omega arith

prepared_named : (g : ℕ) (i : Item) (part : Part) (o : Option View) → IsNamed (item_id i) o → IsNamed (item_id i) (prepared_view g i part o)
prepared_named g i establishes o is = is
prepared_named g i renews o is = is
prepared_named g i awaits o is = made_named g i lacks_status
prepared_named g i (hands_over to) o is = is
prepared_named g i drops o is = is
prepared_named g i has_no_anchor o is = is

-- where a plan begins
pub prepared_law : (g : ℕ) (i : Item) (part : Part) (o : Option View) → kept_by (prepared_view g i part o) ≤ kept_by o
prepared_law g i establishes o = omega arith
prepared_law g i renews o = omega arith
prepared_law g i awaits o = omega (arith, made_at_most lacks_status (set_by g i))
prepared_law g i (hands_over to) o = omega arith
prepared_law g i drops o = omega arith
prepared_law g i has_no_anchor o = omega arith

-- ---- the plan, as items one after another

module _ (me : Node) (p : Plan) where
  abbrev pub second_makes : Item → Option View → Option View
  second_makes i o = part_view p.g i (part_at me p.sec i) o

  abbrev pub second_says : Item → Option View → List Send
  second_says i o = part_sends me p.g (part_at me p.sec i) o

  pub second_own : IsOwn second_makes second_says
  second_own = record { names = λ i o is. part_named p.g i (part_at me p.sec i) o is; others = λ i o k is apart. part_others me p.g i (part_at me p.sec i) o k is apart }

  pub carried_is : (items : List Item) (views : Views) → carried_by me p items views ≡ made_by second_makes second_says items views
  carried_is [] views = refl
  carried_is (i ∷ items) views = carried_is items (with_item me p i views)

  pub carried_says : (items : List Item) (views : Views) → sent_by_items me p items views ≡ sends_by second_makes second_says items views
  carried_says [] views = refl
  carried_says (i ∷ items) views = ap (λ zs. part_sends me p.g (part_at me p.sec i) (views (item_id i)) ++ zs) (carried_says items (with_item me p i views))

module _ (p : Plan) where
  abbrev pub master_makes : Item → Option View → Option View
  master_makes i o = own_part_view p.g i (part_at M p.sec i) o

  abbrev pub master_says : Item → Option View → List Send
  master_says i o = own_part_sends p.g (part_at M p.sec i) o

  pub master_own : IsOwn master_makes master_says
  master_own = record { names = λ i o is. own_named p.g i (part_at M p.sec i) o is; others = λ i o k is apart. own_others p.g i (part_at M p.sec i) o k is apart }

  pub own_is : (items : List Item) (views : Views) → carried_here p items views ≡ made_by master_makes master_says items views
  own_is [] views = refl
  own_is (i ∷ items) views = own_is items (with_own_item p i views)

  pub own_says : (items : List Item) (views : Views) → sent_here p items views ≡ sends_by master_makes master_says items views
  own_says [] views = refl
  own_says (i ∷ items) views = ap (λ zs. own_part_sends p.g (part_at M p.sec i) (views (item_id i)) ++ zs) (own_says items (with_own_item p i views))

  abbrev pub prepares : Item → Option View → Option View
  prepares i o = prepared_view p.g i (part_at M p.sec i) o

  abbrev pub says_nothing : Item → Option View → List Send
  says_nothing i o = []

  pub prepares_own : IsOwn prepares says_nothing
  prepares_own = record { names = λ i o is. prepared_named p.g i (part_at M p.sec i) o is; others = λ i o k is apart. refl }

  pub prepared_is : (items : List Item) (views : Views) → prepared_here p items views ≡ made_by prepares says_nothing items views
  prepared_is [] views = refl
  prepared_is (i ∷ items) views = prepared_is items (with_prepared p i views)
