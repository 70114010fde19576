-- What the master's acts put on the control link to a node carries the generations that they tell it.
use Rattle.std.proofs.Common.{ℕ, ◌≡◌, ◌++◌, Bool, true, false, List, [], ◌∷◌, Option, Some, None, refl, ap, ◌∙◌}
use Rattle.std.specs.Prelude.{if◌then◌else◌}
use Rattle.std.proofs.lemmas.Grind.{flat_map-append}
use Rattle.std.proofs.lemmas.List.{append-nil}
use Rattle.dc_base.specs.Links.{is_same_link, link}
use Rattle.dc_base.specs.Nodes.{is_same_node}
use Rattle.dc_base.specs.Records.{item_id}
use Rattle.dc_base.specs.declared.flights.Flight.TheVariants as flight
use Rattle.dc_base.specs.declared.nodes.Class.TheVariants.{Ctl}
use Rattle.dc_base.specs.declared.nodes.Node.{Node}
use Rattle.dc_base.specs.declared.nodes.Node.TheVariants.{A, B, M, T}
use Rattle.dc_base.specs.declared.records.Item.{Item}
use Rattle.dc_base.specs.declared.records.Plan.{Plan}
use Rattle.dc_base.specs.declared.records.Rec.{Rec}
use Rattle.dc_base.specs.declared.records.Rec.TheVariants as rec
use Rattle.transcript.specs.Content.{on_link}
use Rattle.node_rules.specs.Choices.{Send}
use Rattle.node_rules.specs.Parts.{part_at}
use Rattle.node_rules.specs.declared.acts.Act.{Act}
use Rattle.node_rules.specs.declared.acts.Act.TheVariants.{FailOne as fail_one, Go as go, Pass as pass, Prepare as prepare, RecoverOne as recover_one, Say as say, Send as send, UnlockAll as unlock_all}
use Rattle.node_rules.specs.declared.parts.Part.{Part}
use Rattle.node_rules.specs.declared.parts.Part.TheVariants.{Awaits as awaits, Drops as drops, Establishes as establishes, HandsOver as hands_over, HasNoAnchor as has_no_anchor, Renews as renews}
use Rattle.run_control.specs.Links.{sent_on}
use Rattle.run_control.specs.MasterControl.{own_act_sends, own_act_view, own_acts_sends, own_part_sends, sent_here, with_own_item}
use Rattle.run_control.specs.SecondControl.{Views, bare_record, record_to, status_of, tells, tells_at}
use Rattle.run_control.specs.Views.{Stage, View, has_status, holds, lacks_status}
use Rattle.run_control.proofs.Records.{bare_records, records_append}
use Rattle.run_control.proofs.Taken.{records_in}
use Rattle.run_generations.specs.Ahead.{generations}
use Rattle.run_generations.specs.Newer.{plan_generation, told_in, told_to}

-- ---- records without what they say of the traffic

bare_generation : (r : Rec) → plan_generation (bare_record r) ≡ plan_generation r
bare_generation (rec.Reconf plan key) = refl
bare_generation (rec.Rcomp g) = refl
bare_generation (rec.Scgf failed) = refl
bare_generation (rec.Recov id) = refl
bare_generation (rec.Recovd id) = refl
bare_generation (rec.Addreq plan key) = refl
bare_generation (rec.Addack g) = refl
bare_generation (rec.Addrej g) = refl
bare_generation (rec.Modreq plan key) = refl
bare_generation (rec.Modack g) = refl
bare_generation (rec.Modrej g) = refl
bare_generation (rec.Recfg g) = refl
bare_generation (rec.Relreq plan) = refl
bare_generation (rec.Relack g) = refl
bare_generation (rec.Relrej g) = refl
bare_generation (rec.Uecr g) = refl
bare_generation (rec.Snst status) = refl
bare_generation (rec.Moved g id) = refl
bare_generation (rec.Scgn id g) = refl
bare_generation rec.Modrqd = refl
bare_generation (rec.Modcnf g) = refl
bare_generation (rec.Modref word) = refl
bare_generation rec.Chgrqd = refl
bare_generation (rec.Chgcnf plan) = refl
bare_generation (rec.Chgref word) = refl
bare_generation rec.Relrqd = refl
bare_generation (rec.Relcnf plan) = refl

pub bare_generations : (rs : List Rec) → generations (bare_records rs) ≡ generations rs
bare_generations [] = refl
bare_generations (r ∷ rs) = ap (λ gs. gs ++ generations (bare_records rs)) (bare_generation r) ∙ ap (λ gs. plan_generation r ++ gs) (bare_generations rs)

pub generations_append : (rs qs : List Rec) → generations (rs ++ qs) ≡ generations rs ++ generations qs
generations_append rs qs = flat_map-append plan_generation rs qs

-- ---- sends

-- what sends put on the control link to a node, by its generations
abbrev pub put_to : Node → List Send → List ℕ
put_to y sends = generations (records_in (sent_on (link M y Ctl) sends))

put_append : (y : Node) (xs ys : List Send) → put_to y (xs ++ ys) ≡ put_to y xs ++ put_to y ys
put_append y xs ys =
    ap (λ fs. generations (records_in fs)) (flat_map-append (on_link (link M y Ctl)) xs ys)
    ∙ ap generations (records_append (sent_on (link M y Ctl) xs) (sent_on (link M y Ctl) ys))
    ∙ generations_append (records_in (sent_on (link M y Ctl) xs)) (records_in (sent_on (link M y Ctl) ys))

same_way : (x y : Node) → is_same_link (link M x Ctl) (link M y Ctl) ≡ is_same_node x y
same_way T T = refl
same_way T M = refl
same_way T A = refl
same_way T B = refl
same_way M T = refl
same_way M M = refl
same_way M A = refl
same_way M B = refl
same_way A T = refl
same_way A M = refl
same_way A A = refl
same_way A B = refl
same_way B T = refl
same_way B M = refl
same_way B A = refl
same_way B B = refl

one_put : (y to : Node) (r : Rec) → put_to y (record_to M to r ∷ []) ≡ told_to y (send to r)
one_put y to r = ap (λ b. generations (records_in ((if b then flight.Ctl (bare_record r) ∷ [] else []) ++ []))) (same_way y to) ∙ by (is_same_node y to)
  where
    by : (b : Bool) → generations (records_in ((if b then flight.Ctl (bare_record r) ∷ [] else []) ++ [])) ≡ (if b then plan_generation r else [])
    by true = append-nil (plan_generation (bare_record r)) ∙ bare_generation r
    by false = refl

-- a status transfer carries no plan
tells_put_at : (y to : Node) (k : Stage) (g : ℕ) (v : View) → put_to y (tells_at k (link M to Ctl) g v) ≡ []
tells_put_at y to holds g v = by (is_same_link (link M y Ctl) (link M to Ctl))
  where
    by : (b : Bool) → generations (records_in ((if b then flight.Ctl (rec.Snst (status_of g v.bearer.id)) ∷ [] else []) ++ [])) ≡ []
    by true = refl
    by false = refl
tells_put_at y to lacks_status g v = refl
tells_put_at y to has_status g v = refl

tells_put : (y to : Node) (g : ℕ) (o : Option View) → put_to y (tells (link M to Ctl) g o) ≡ []
tells_put y to g None = refl
tells_put y to g (Some v) = tells_put_at y to v.stage g v

part_put : (y : Node) (g : ℕ) (part : Part) (o : Option View) → put_to y (own_part_sends g part o) ≡ []
part_put y g establishes o = refl
part_put y g renews o = refl
part_put y g awaits o = refl
part_put y g (hands_over to) o = tells_put y to g o
part_put y g drops o = refl
part_put y g has_no_anchor o = refl

items_put : (y : Node) (p : Plan) (is : List Item) (v : Views) → put_to y (sent_here p is v) ≡ []
items_put y p [] v = refl
items_put y p (i ∷ is) v =
    put_append y (own_part_sends p.g (part_at M p.sec i) (v (item_id i))) (sent_here p is (with_own_item p i v))
    ∙ ap (λ gs. gs ++ put_to y (sent_here p is (with_own_item p i v))) (part_put y p.g (part_at M p.sec i) (v (item_id i)))
    ∙ items_put y p is (with_own_item p i v)

act_put : (y : Node) (a : Act) (v : Views) → put_to y (own_act_sends a v) ≡ told_to y a
act_put y (send to r) v = one_put y to r
act_put y (prepare p) v = refl
act_put y (go p) v = items_put y p p.items v
act_put y (unlock_all g) v = refl
act_put y (say n) v = refl
act_put y (recover_one id) v = refl
act_put y (fail_one id g) v = refl
act_put y (pass status) v = refl

-- of several acts
pub acts_put : (y : Node) (acts : List Act) (v : Views) → put_to y (own_acts_sends acts v) ≡ told_in y acts
acts_put y [] v = refl
acts_put y (a ∷ acts) v =
    put_append y (own_act_sends a v) (own_acts_sends acts (own_act_view a v))
    ∙ ap (λ gs. gs ++ put_to y (own_acts_sends acts (own_act_view a v))) (act_put y a v)
    ∙ ap (λ gs. told_to y a ++ gs) (acts_put y acts (own_act_view a v))
