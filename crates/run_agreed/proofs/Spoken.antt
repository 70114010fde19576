-- What the acts of the master and of a secondary node put on the line between them, as far as it is of commands.
use Rattle.std.proofs.Common.{ℕ, ◌≡◌, ◌++◌, Bool, true, false, List, [], ◌∷◌, Option, Some, None, refl, sym, ap, ◌∙◌}
use Rattle.std.specs.Prelude.{if◌then◌else◌, map, ◌&&◌}
use Rattle.std.specs.List.{flat_map}
use Rattle.std.proofs.lemmas.Grind.{flat_map-append}
use Rattle.std.proofs.lemmas.List.Elements.{filter-append}
use Rattle.dc_base.specs.Links.{is_same_link, link}
use Rattle.dc_base.specs.Nodes.{is_same_node, is_secondary}
use Rattle.dc_base.specs.Records.{item_id}
use Rattle.dc_base.specs.declared.flights.Flight.TheVariants as flight
use Rattle.dc_base.specs.declared.nodes.Class.TheVariants.{Ctl}
use Rattle.dc_base.specs.declared.nodes.LinkId.{LinkId}
use Rattle.dc_base.specs.declared.nodes.Node.{Node}
use Rattle.dc_base.specs.declared.nodes.Node.TheVariants.{A, B, M, T}
use Rattle.dc_base.specs.declared.records.Item.{Item}
use Rattle.dc_base.specs.declared.records.Plan.{Plan}
use Rattle.dc_base.specs.declared.records.Rec.{Rec}
use Rattle.dc_base.specs.declared.records.Rec.TheVariants as rec
use Rattle.dc_base.specs.declared.records.StatusTransfer.{StatusTransfer}
use Rattle.transcript.specs.Content.{on_link}
use Rattle.node_rules.specs.Choices.{Send}
use Rattle.node_rules.specs.Parts.{part_at}
use Rattle.node_rules.specs.declared.acts.Act.{Act}
use Rattle.node_rules.specs.declared.acts.Act.TheVariants.{FailOne as fail_one, Go as go, Pass as pass, Prepare as prepare, RecoverOne as recover_one, Say as say, Send as send, UnlockAll as unlock_all}
use Rattle.node_rules.specs.declared.parts.Part.{Part}
use Rattle.node_rules.specs.declared.parts.Part.TheVariants.{Awaits as awaits, Drops as drops, Establishes as establishes, HandsOver as hands_over, HasNoAnchor as has_no_anchor, Renews as renews}
use Rattle.run_control.specs.Links.{sent_on}
use Rattle.run_control.specs.MasterControl.{own_act_sends, own_act_view, own_acts_sends, own_part_sends, sent_here, with_own_item}
use Rattle.run_control.specs.SecondControl.{Views, act_sends, act_view, acts_sends, bare_record, moved, part_sends, record_to, sent_by_items, status_of, tells, tells_at, with_item}
use Rattle.run_control.specs.Views.{Stage, View, has_status, holds, is_awaited, lacks_status}
use Rattle.run_control.proofs.Records.{bare_records, records_append}
use Rattle.run_control.proofs.Sent.{either}
use Rattle.run_control.proofs.Taken.{records_in}
use Rattle.run_agreed.specs.Lines.{is_spoken, said_to, sent_to, spoken}

-- ---- records without what they say of the traffic

spoken_one : (r : Rec) → spoken (bare_record r ∷ []) ≡ spoken (r ∷ [])
spoken_one (rec.Reconf plan key) = refl
spoken_one (rec.Rcomp g) = refl
spoken_one (rec.Scgf failed) = refl
spoken_one (rec.Recov id) = refl
spoken_one (rec.Recovd id) = refl
spoken_one (rec.Addreq plan key) = refl
spoken_one (rec.Addack g) = refl
spoken_one (rec.Addrej g) = refl
spoken_one (rec.Modreq plan key) = refl
spoken_one (rec.Modack g) = refl
spoken_one (rec.Modrej g) = refl
spoken_one (rec.Recfg g) = refl
spoken_one (rec.Relreq plan) = refl
spoken_one (rec.Relack g) = refl
spoken_one (rec.Relrej g) = refl
spoken_one (rec.Uecr g) = refl
spoken_one (rec.Snst status) = refl
spoken_one (rec.Moved g id) = refl
spoken_one (rec.Scgn id g) = refl
spoken_one rec.Modrqd = refl
spoken_one (rec.Modcnf g) = refl
spoken_one (rec.Modref word) = refl
spoken_one rec.Chgrqd = refl
spoken_one (rec.Chgcnf plan) = refl
spoken_one (rec.Chgref word) = refl
spoken_one rec.Relrqd = refl
spoken_one (rec.Relcnf plan) = refl

pub spoken_append : (xs ys : List Rec) → spoken (xs ++ ys) ≡ spoken xs ++ spoken ys
spoken_append xs ys = filter-append is_spoken xs ys

pub spoken_bare : (rs : List Rec) → spoken (bare_records rs) ≡ spoken rs
spoken_bare [] = refl
spoken_bare (r ∷ rs) =
    spoken_append (bare_record r ∷ []) (bare_records rs)
    ∙ ap (λ xs. xs ++ spoken (bare_records rs)) (spoken_one r)
    ∙ ap (λ xs. spoken (r ∷ []) ++ xs) (spoken_bare rs)
    ∙ sym (spoken_append (r ∷ []) rs)

-- what of sends is of commands, on a link
abbrev pub heard_on : LinkId → List Send → List Rec
heard_on l sends = spoken (records_in (sent_on l sends))

heard_append : (l : LinkId) (xs ys : List Send) → heard_on l (xs ++ ys) ≡ heard_on l xs ++ heard_on l ys
heard_append l xs ys =
    ap (λ fs. spoken (records_in fs)) (flat_map-append (on_link l) xs ys)
    ∙ ap spoken (records_append (sent_on l xs) (sent_on l ys))
    ∙ spoken_append (records_in (sent_on l xs)) (records_in (sent_on l ys))

said_cons : (x : Node) (a : Act) (acts : List Act) → said_to x (a ∷ acts) ≡ spoken (sent_to x a) ++ said_to x acts
said_cons x a acts = spoken_append (sent_to x a) (flat_map (sent_to x) acts)

pub said_append : (x : Node) (xs ys : List Act) → said_to x (xs ++ ys) ≡ said_to x xs ++ said_to x ys
said_append x xs ys = ap spoken (flat_map-append (sent_to x) xs ys) ∙ spoken_append (flat_map (sent_to x) xs) (flat_map (sent_to x) ys)

-- a record on a link of a node, for another
module _ (me x : Node) (same : (to : Node) → is_same_link (link me x Ctl) (link me to Ctl) ≡ is_same_node x to) where
  one_heard : (to : Node) (r : Rec) → heard_on (link me x Ctl) (record_to me to r ∷ []) ≡ spoken (sent_to x (send to r))
  one_heard to r =
      ap (λ b. spoken (records_in ((if b then flight.Ctl (bare_record r) ∷ [] else []) ++ []))) (same to) ∙ by (is_same_node x to)
    where
      by : (b : Bool) → spoken (records_in ((if b then flight.Ctl (bare_record r) ∷ [] else []) ++ [])) ≡ spoken (if b then r ∷ [] else [])
      by true = spoken_one r
      by false = refl

  -- a status transfer is not of commands
  tells_none_at : (k : Stage) (to : Node) (g : ℕ) (v : View) → heard_on (link me x Ctl) (tells_at k (link me to Ctl) g v) ≡ []
  tells_none_at holds to g v = by (is_same_link (link me x Ctl) (link me to Ctl))
    where
      by : (b : Bool) → spoken (records_in ((if b then flight.Ctl (rec.Snst (status_of g v.bearer.id)) ∷ [] else []) ++ [])) ≡ []
      by true = refl
      by false = refl
  tells_none_at lacks_status to g v = refl
  tells_none_at has_status to g v = refl

  tells_none : (to : Node) (g : ℕ) (o : Option View) → heard_on (link me x Ctl) (tells (link me to Ctl) g o) ≡ []
  tells_none to g None = refl
  tells_none to g (Some v) = tells_none_at v.stage to g v

  both_none : (xs ys : List Send) → heard_on (link me x Ctl) xs ≡ [] → heard_on (link me x Ctl) ys ≡ [] → heard_on (link me x Ctl) (xs ++ ys) ≡ []
  both_none xs ys p q = heard_append (link me x Ctl) xs ys ∙ ap (λ zs. zs ++ heard_on (link me x Ctl) ys) p ∙ q

-- ---- the master

same_from_master : (x : Node) → is_secondary x ≡ true → (to : Node) → is_same_link (link M x Ctl) (link M to Ctl) ≡ is_same_node x to
same_from_master T is to = absurd cc
same_from_master M is to = absurd cc
same_from_master A is T = refl
same_from_master A is M = refl
same_from_master A is A = refl
same_from_master A is B = refl
same_from_master B is T = refl
same_from_master B is M = refl
same_from_master B is A = refl
same_from_master B is B = refl

module _ (x : Node) (second : is_secondary x ≡ true) where
  own_part_none : (g : ℕ) (part : Part) (o : Option View) → heard_on (link M x Ctl) (own_part_sends g part o) ≡ []
  own_part_none g establishes o = refl
  own_part_none g renews o = refl
  own_part_none g awaits o = refl
  own_part_none g (hands_over to) o = tells_none M x (same_from_master x second) to g o
  own_part_none g drops o = refl
  own_part_none g has_no_anchor o = refl

  own_items_none : (p : Plan) (is : List Item) (v : Views) → heard_on (link M x Ctl) (sent_here p is v) ≡ []
  own_items_none p [] v = refl
  own_items_none p (i ∷ is) v =
      both_none M x (same_from_master x second) (own_part_sends p.g (part_at M p.sec i) (v (item_id i))) (sent_here p is (with_own_item p i v)) (own_part_none p.g (part_at M p.sec i) (v (item_id i)))
      (own_items_none p is (with_own_item p i v))

  own_act_heard : (a : Act) (v : Views) → heard_on (link M x Ctl) (own_act_sends a v) ≡ spoken (sent_to x a)
  own_act_heard (send to r) v = one_heard M x (same_from_master x second) to r
  own_act_heard (prepare p) v = refl
  own_act_heard (go p) v = own_items_none p p.items v
  own_act_heard (unlock_all g) v = refl
  own_act_heard (say n) v = refl
  own_act_heard (recover_one id) v = refl
  own_act_heard (fail_one id g) v = refl
  own_act_heard (pass status) v = refl

  -- what the master sends to the node is what the acts say
  pub own_acts_heard : (acts : List Act) (v : Views) → heard_on (link M x Ctl) (own_acts_sends acts v) ≡ said_to x acts
  own_acts_heard [] v = refl
  own_acts_heard (a ∷ acts) v =
      heard_append (link M x Ctl) (own_act_sends a v) (own_acts_sends acts (own_act_view a v))
      ∙ ap (λ rs. rs ++ heard_on (link M x Ctl) (own_acts_sends acts (own_act_view a v))) (own_act_heard a v)
      ∙ ap (λ rs. spoken (sent_to x a) ++ rs) (own_acts_heard acts (own_act_view a v))
      ∙ sym (said_cons x a acts)

-- ---- a secondary node

same_from_second : (x : Node) → is_secondary x ≡ true → (to : Node) → is_same_link (link x M Ctl) (link x to Ctl) ≡ is_same_node M to
same_from_second T is to = absurd cc
same_from_second M is to = absurd cc
same_from_second A is T = refl
same_from_second A is M = refl
same_from_second A is A = refl
same_from_second A is B = refl
same_from_second B is T = refl
same_from_second B is M = refl
same_from_second B is A = refl
same_from_second B is B = refl

module _ (x : Node) (second : is_secondary x ≡ true) where
  part_none : (g : ℕ) (part : Part) (o : Option View) → heard_on (link x M Ctl) (part_sends x g part o) ≡ []
  part_none g establishes o = refl
  part_none g renews o = refl
  part_none g awaits o = refl
  part_none g (hands_over to) o = tells_none x M (same_from_second x second) M g o
  part_none g drops o = refl
  part_none g has_no_anchor o = refl

  items_none : (p : Plan) (is : List Item) (v : Views) → heard_on (link x M Ctl) (sent_by_items x p is v) ≡ []
  items_none p [] v = refl
  items_none p (i ∷ is) v =
      both_none x M (same_from_second x second) (part_sends x p.g (part_at x p.sec i) (v (item_id i))) (sent_by_items x p is (with_item x p i v)) (part_none p.g (part_at x p.sec i) (v (item_id i)))
      (items_none p is (with_item x p i v))

  moved_none : (status : StatusTransfer) (adopts : Bool) (o : Option View) → heard_on (link x M Ctl) (moved x status adopts o) ≡ []
  moved_none status adopts None = refl
  moved_none status adopts (Some v) =
      either (λ (xs : List Send). heard_on (link x M Ctl) xs ≡ []) (is_awaited status v && adopts) (record_to x M (rec.Moved v.bearer.g status.id) ∷ []) []
      (one_heard x M (same_from_second x second) M (rec.Moved v.bearer.g status.id)) refl

  act_heard : (adopts : Bool) (a : Act) (v : Views) → heard_on (link x M Ctl) (act_sends x adopts a v) ≡ spoken (sent_to M a)
  act_heard adopts (send to r) v = one_heard x M (same_from_second x second) to r
  act_heard adopts (prepare p) v = refl
  act_heard adopts (go p) v = items_none p p.items v
  act_heard adopts (unlock_all g) v = refl
  act_heard adopts (say n) v = refl
  act_heard adopts (recover_one id) v = refl
  act_heard adopts (fail_one id g) v = refl
  act_heard adopts (pass status) v = moved_none status adopts (v status.id)

  -- what it sends to the master is what the acts say
  pub acts_heard : (chosen : List (Bool × Act)) (v : Views) → heard_on (link x M Ctl) (acts_sends x chosen v) ≡ said_to M (map (λ (a : Bool × Act). a.1) chosen)
  acts_heard [] v = refl
  acts_heard (a ∷ chosen) v =
      heard_append (link x M Ctl) (act_sends x a.0 a.1 v) (acts_sends x chosen (act_view x a.0 a.1 v))
      ∙ ap (λ rs. rs ++ heard_on (link x M Ctl) (acts_sends x chosen (act_view x a.0 a.1 v))) (act_heard a.0 a.1 v)
      ∙ ap (λ rs. spoken (sent_to M a.1) ++ rs) (acts_heard chosen (act_view x a.0 a.1 v))
      ∙ sym (said_cons M a.1 (map (λ (y : Bool × Act). y.1) chosen))
