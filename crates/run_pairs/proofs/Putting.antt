-- What the master's acts put on the line to a secondary node.
use Rattle.std.proofs.Common.{ℕ, ◌≡◌, ◌++◌, Bool, true, false, List, [], ◌∷◌, Option, Some, None, refl, sym, ap, subst, ◌∙◌, append_assoc}
use Rattle.std.specs.Prelude.{if◌then◌else◌, ⊤}
use Rattle.std.specs.List.{AllByRecursion}
use Rattle.std.proofs.lemmas.Grind.{flat_map-append}
use Rattle.dc_base.specs.Links.{is_same_link, link}
use Rattle.dc_base.specs.Nodes.{is_same_node, is_secondary}
use Rattle.dc_base.specs.Records.{item_id}
use Rattle.dc_base.specs.declared.flights.Flight.{Flight}
use Rattle.dc_base.specs.declared.flights.Flight.TheVariants as flight
use Rattle.dc_base.specs.declared.nodes.Class.TheVariants.{Ctl}
use Rattle.dc_base.specs.declared.nodes.Node.{Node}
use Rattle.dc_base.specs.declared.nodes.Node.TheVariants.{A, B, M, T}
use Rattle.dc_base.specs.declared.nodes.Shape.{Shape}
use Rattle.dc_base.specs.declared.records.Item.{Item}
use Rattle.dc_base.specs.declared.records.Item.TheVariants as item
use Rattle.dc_base.specs.declared.records.Plan.{Plan}
use Rattle.dc_base.specs.declared.records.Rec.{Rec}
use Rattle.dc_base.specs.declared.records.Rec.TheVariants as rec
use Rattle.transcript.specs.Content.{on_link}
use Rattle.transcript.proofs.OnEach.{each_append}
use Rattle.node_rules.specs.Choices.{Send}
use Rattle.node_rules.specs.Parts.{moved_part, part_at}
use Rattle.node_rules.specs.Places.{anchor_at, is_at, node_or_master}
use Rattle.node_rules.specs.declared.acts.Act.{Act}
use Rattle.node_rules.specs.declared.acts.Act.TheVariants.{Go as go, Send as send}
use Rattle.node_rules.specs.declared.parts.Part.{Part}
use Rattle.node_rules.specs.declared.parts.Part.TheVariants.{Awaits as awaits, Drops as drops, Establishes as establishes, HandsOver as hands_over, HasNoAnchor as has_no_anchor, Renews as renews}
use Rattle.run_control.specs.Links.{sent_on}
use Rattle.run_control.specs.MasterControl.{own_act_sends, own_act_view, own_acts_sends, own_acts_view, own_part_sends, sent_here, with_own_item}
use Rattle.run_control.specs.SecondControl.{Views, bare_record, status_of, tells, tells_at}
use Rattle.run_control.specs.Views.{Stage, View, has_status, holds, lacks_status}
use Rattle.run_control.proofs.Records.{records_append}
use Rattle.run_control.proofs.Sent.{either}
use Rattle.run_control.proofs.Taken.{records_in}

-- what sends put on the line to a node
abbrev pub heard_of : Node → List Send → List Rec
heard_of x sends = records_in (sent_on (link M x Ctl) sends)

-- what acts put there
abbrev pub put : Node → List Act → Views → List Rec
put x acts views = heard_of x (own_acts_sends acts views)

pub heard_append : (x : Node) (xs ys : List Send) → heard_of x (xs ++ ys) ≡ heard_of x xs ++ heard_of x ys
heard_append x xs ys = ap records_in (flat_map-append (on_link (link M x Ctl)) xs ys) ∙ records_append (sent_on (link M x Ctl) xs) (sent_on (link M x Ctl) ys)

-- one act, and more
pub put_cons : (x : Node) (a : Act) (acts : List Act) (views : Views) → put x (a ∷ acts) views ≡ heard_of x (own_act_sends a views) ++ put x acts (own_act_view a views)
put_cons x a acts views = heard_append x (own_act_sends a views) (own_acts_sends acts (own_act_view a views))

-- some acts, and more
pub put_append : (x : Node) (acts more : List Act) (views : Views) → put x (acts ++ more) views ≡ put x acts views ++ put x more (own_acts_view acts views)
put_append x [] more views = refl
put_append x (a ∷ acts) more views =
    put_cons x a (acts ++ more) views
    ∙ ap (λ rs. heard_of x (own_act_sends a views) ++ rs) (put_append x acts more (own_act_view a views))
    ∙ sym (append_assoc (heard_of x (own_act_sends a views)) (put x acts (own_act_view a views)) (put x more (own_acts_view acts (own_act_view a views))))
    ∙ ap (λ rs. rs ++ put x more (own_acts_view acts (own_act_view a views))) (sym (put_cons x a acts views))

-- ---- one record

-- on the line to a secondary node stands what is sent to it
pub put_send : (x to : Node) (r : Rec) (views : Views) → is_secondary x ≡ true → put x (send to r ∷ []) views ≡ (if is_same_node x to then bare_record r ∷ [] else [])
put_send T to r views is = absurd cc
put_send M to r views is = absurd cc
put_send A T r views is = refl
put_send A M r views is = refl
put_send A A r views is = refl
put_send A B r views is = refl
put_send B T r views is = refl
put_send B M r views is = refl
put_send B A r views is = refl
put_send B B r views is = refl

-- to this node
pub put_here : (x to : Node) (r : Rec) (views : Views) → is_secondary x ≡ true → is_same_node x to ≡ true → put x (send to r ∷ []) views ≡ bare_record r ∷ []
put_here x to r views is same = put_send x to r views is ∙ ap (λ b. if b then bare_record r ∷ [] else []) same

-- to another one
pub put_there : (x to : Node) (r : Rec) (views : Views) → is_secondary x ≡ true → is_same_node x to ≡ false → put x (send to r ∷ []) views ≡ []
put_there x to r views is other = put_send x to r views is ∙ ap (λ b. if b then bare_record r ∷ [] else []) other

-- ---- a plan

-- nothing but status transfers
abbrev pub IsStatus : Rec → Type 0
IsStatus (rec.Snst status) = ⊤
IsStatus _ = ⊥

one_off : (x y : Node) (f : Flight) → is_same_link (link M x Ctl) (link M y Ctl) ≡ false → on_link (link M x Ctl) (link M y Ctl, f) ≡ []
one_off x y f apart = ap (λ b. if b then f ∷ [] else []) apart

tells_off_at : (x y : Node) (k : Stage) (g : ℕ) (v : View) → is_same_link (link M x Ctl) (link M y Ctl) ≡ false → sent_on (link M x Ctl) (tells_at k (link M y Ctl) g v) ≡ []
tells_off_at x y holds g v apart = ap (λ fs. fs ++ []) (one_off x y (flight.Ctl (rec.Snst (status_of g v.bearer.id))) apart)
tells_off_at x y lacks_status g v apart = refl
tells_off_at x y has_status g v apart = refl

tells_off : (x y : Node) (g : ℕ) (o : Option View) → is_same_link (link M x Ctl) (link M y Ctl) ≡ false → sent_on (link M x Ctl) (tells (link M y Ctl) g o) ≡ []
tells_off x y g None apart = refl
tells_off x y g (Some v) apart = tells_off_at x y v.stage g v apart

-- a bearer is not handed over to this node
abbrev GoesOff : Node → Part → Type 0
GoesOff x (hands_over to) = is_same_link (link M x Ctl) (link M to Ctl) ≡ false
GoesOff x establishes = ⊤
GoesOff x renews = ⊤
GoesOff x awaits = ⊤
GoesOff x drops = ⊤
GoesOff x has_no_anchor = ⊤

sec_off : (x : Node) (sec : Option Node) → is_secondary x ≡ true → is_at x sec ≡ false → is_same_link (link M x Ctl) (link M (node_or_master sec) Ctl) ≡ false
sec_off T sec second apart = absurd cc
sec_off M sec second apart = absurd cc
sec_off A None second apart = refl
sec_off A (Some T) second apart = refl
sec_off A (Some M) second apart = refl
sec_off A (Some A) second apart = absurd cc
sec_off A (Some B) second apart = refl
sec_off B None second apart = refl
sec_off B (Some T) second apart = refl
sec_off B (Some M) second apart = refl
sec_off B (Some A) second apart = refl
sec_off B (Some B) second apart = absurd cc

master_off : (x : Node) → is_secondary x ≡ true → is_same_link (link M x Ctl) (link M M Ctl) ≡ false
master_off T second = absurd cc
master_off M second = absurd cc
master_off A second = refl
master_off B second = refl

anchor_off : (x : Node) (sec : Option Node) (shape : Shape) → is_secondary x ≡ true → is_at x sec ≡ false → is_same_link (link M x Ctl) (link M (anchor_at sec shape) Ctl) ≡ false
anchor_off x sec shape second apart = either (λ y. is_same_link (link M x Ctl) (link M y Ctl) ≡ false) shape.at_second (node_or_master sec) M (sec_off x sec second apart) (master_off x second)

moved_off : (x new : Node) (b d : Bool) → is_same_link (link M x Ctl) (link M new Ctl) ≡ false → GoesOff x (moved_part new b d)
moved_off x new true true apart = tt
moved_off x new true false apart = apart
moved_off x new false true apart = tt
moved_off x new false false apart = tt

part_off : (x : Node) (sec : Option Node) (i : Item) → is_secondary x ≡ true → is_at x sec ≡ false → GoesOff x (part_at M sec i)
part_off x sec (item.Set id n first shape threshold policy key None) second apart = either (GoesOff x) (is_same_node M (anchor_at sec shape)) establishes has_no_anchor tt tt
part_off x sec (item.Set id n first shape threshold policy key (Some old)) second apart =
    moved_off x (anchor_at sec shape) (is_same_node M old) (is_same_node M (anchor_at sec shape)) (anchor_off x sec shape second apart)
part_off x sec (item.Unset id) second apart = tt

sends_off : (x : Node) (g : ℕ) (part : Part) (o : Option View) → GoesOff x part → sent_on (link M x Ctl) (own_part_sends g part o) ≡ []
sends_off x g establishes o off = refl
sends_off x g renews o off = refl
sends_off x g awaits o off = refl
sends_off x g (hands_over to) o off = tells_off x to g o off
sends_off x g drops o off = refl
sends_off x g has_no_anchor o off = refl

items_off : (x : Node) (p : Plan) (is : List Item) (v : Views) → is_secondary x ≡ true → is_at x p.sec ≡ false → sent_on (link M x Ctl) (sent_here p is v) ≡ []
items_off x p [] v second apart = refl
items_off x p (i ∷ is) v second apart =
    flat_map-append (on_link (link M x Ctl)) (own_part_sends p.g (part_at M p.sec i) (v (item_id i))) (sent_here p is (with_own_item p i v))
    ∙ ap (λ fs. fs ++ sent_on (link M x Ctl) (sent_here p is (with_own_item p i v))) (sends_off x p.g (part_at M p.sec i) (v (item_id i)) (part_off x p.sec i second apart))
    ∙ items_off x p is (with_own_item p i v) second apart

-- a plan that is carried out puts nothing on the line to a node that is not its secondary node
pub put_go_off : (x : Node) (p : Plan) (v : Views) → is_secondary x ≡ true → is_at x p.sec ≡ false → heard_of x (own_act_sends (go p) v) ≡ []
put_go_off x p v second apart = ap records_in (items_off x p p.items v second apart)

tells_status_at : (x y : Node) (k : Stage) (g : ℕ) (v : View) → AllByRecursion IsStatus (heard_of x (tells_at k (link M y Ctl) g v))
tells_status_at x y holds g v = by (is_same_link (link M x Ctl) (link M y Ctl))
  where
    by : (b : Bool) → AllByRecursion IsStatus (records_in ((if b then flight.Ctl (rec.Snst (status_of g v.bearer.id)) ∷ [] else []) ++ []))
    by true = (tt, tt)
    by false = tt
tells_status_at x y lacks_status g v = tt
tells_status_at x y has_status g v = tt

tells_status : (x y : Node) (g : ℕ) (o : Option View) → AllByRecursion IsStatus (heard_of x (tells (link M y Ctl) g o))
tells_status x y g None = tt
tells_status x y g (Some v) = tells_status_at x y v.stage g v

part_status : (x : Node) (g : ℕ) (part : Part) (o : Option View) → AllByRecursion IsStatus (heard_of x (own_part_sends g part o))
part_status x g establishes o = tt
part_status x g renews o = tt
part_status x g awaits o = tt
part_status x g (hands_over to) o = tells_status x to g o
part_status x g drops o = tt
part_status x g has_no_anchor o = tt

items_status : (x : Node) (p : Plan) (is : List Item) (v : Views) → AllByRecursion IsStatus (heard_of x (sent_here p is v))
items_status x p [] v = tt
items_status x p (i ∷ is) v =
    subst (AllByRecursion IsStatus) (sym (heard_append x (own_part_sends p.g (part_at M p.sec i) (v (item_id i))) (sent_here p is (with_own_item p i v))))
    (each_append IsStatus (heard_of x (own_part_sends p.g (part_at M p.sec i) (v (item_id i)))) (heard_of x (sent_here p is (with_own_item p i v)))
    (part_status x p.g (part_at M p.sec i) (v (item_id i))) (items_status x p is (with_own_item p i v)))

-- a plan that is carried out puts status transfers there
pub put_go : (x : Node) (p : Plan) (v : Views) → AllByRecursion IsStatus (heard_of x (own_act_sends (go p) v))
put_go x p v = items_status x p p.items v
