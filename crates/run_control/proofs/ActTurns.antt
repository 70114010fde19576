-- What acts send is in its turn, if the acts are.
use Rattle.std.proofs.Common.{ℕ, ◌≡◌, ◌++◌, Bool, true, false, List, [], ◌∷◌, Option, Some, None, refl, ap, ◌∙◌}
use Rattle.std.specs.Prelude.{if◌then◌else◌, map, not, ◌&&◌, ◌||◌}
use Rattle.std.specs.List.{list_any}
use Rattle.std.proofs.lemmas.List.Folds.{list_any-append}
use Rattle.dc_base.specs.Links.{link}
use Rattle.dc_base.specs.Records.{item_id}
use Rattle.dc_base.specs.declared.flights.Flight.TheVariants as flight
use Rattle.dc_base.specs.declared.nodes.Class.TheVariants.{Ctl}
use Rattle.dc_base.specs.declared.nodes.LinkId.{LinkId}
use Rattle.dc_base.specs.declared.nodes.Node.{Node}
use Rattle.dc_base.specs.declared.nodes.Node.TheVariants.{M}
use Rattle.dc_base.specs.declared.records.Item.{Item}
use Rattle.dc_base.specs.declared.records.Plan.{Plan}
use Rattle.dc_base.specs.declared.records.Rec.TheVariants as rec
use Rattle.dc_base.specs.declared.records.StatusTransfer.{StatusTransfer}
use Rattle.node_rules.specs.Choices.{Send}
use Rattle.node_rules.specs.Lines.{is_idle_release, opens_release}
use Rattle.node_rules.specs.Parts.{part_at}
use Rattle.node_rules.specs.declared.acts.Act.{Act}
use Rattle.node_rules.specs.declared.acts.Act.TheVariants.{FailOne as fail_one, Go as go, Pass as pass, Prepare as prepare, RecoverOne as recover_one, Say as say, Send as send, UnlockAll as unlock_all}
use Rattle.node_rules.specs.declared.parts.Part.{Part}
use Rattle.node_rules.specs.declared.parts.Part.TheVariants.{Awaits as awaits, Drops as drops, Establishes as establishes, HandsOver as hands_over, HasNoAnchor as has_no_anchor, Renews as renews}
use Rattle.run_control.specs.Links.{idles_first, is_in_turn}
use Rattle.run_control.specs.MasterControl.{own_act_sends, own_act_view, own_acts_sends, own_part_sends, sent_here, with_own_item}
use Rattle.run_control.specs.SecondControl.{Views, act_sends, act_view, acts_sends, moved, part_sends, record_to, sent_by_items, status_of, tells, tells_at, with_item}
use Rattle.run_control.specs.Views.{Stage, View, has_status, holds, is_awaited, lacks_status}
use Rattle.run_control.proofs.Links.{opens_idle}
use Rattle.run_control.proofs.Turns.{busy_first, not_is, or_none, past}

-- ---- acts

-- the act sends that nothing has to be released
abbrev pub is_idle_act : Node → Act → Bool
is_idle_act me (send to r) = is_idle_release (record_to me to r)
is_idle_act me (prepare p) = false
is_idle_act me (go p) = false
is_idle_act me (unlock_all g) = false
is_idle_act me (say n) = false
is_idle_act me (recover_one id) = false
is_idle_act me (fail_one id g) = false
is_idle_act me (pass status) = false

-- the act sends what opens a release
abbrev pub opens_act : Node → Act → Bool
opens_act me (send to r) = opens_release (record_to me to r)
opens_act me (prepare p) = false
opens_act me (go p) = false
opens_act me (unlock_all g) = false
opens_act me (say n) = false
opens_act me (recover_one id) = false
opens_act me (fail_one id g) = false
opens_act me (pass status) = false

pub opens_idle_act : (me : Node) (a : Act) → is_idle_act me a ≡ true → opens_act me a ≡ true
opens_idle_act me (send to r) idle = opens_idle (record_to me to r) idle
opens_idle_act me (prepare p) idle = absurd cc
opens_idle_act me (go p) idle = absurd cc
opens_idle_act me (unlock_all g) idle = absurd cc
opens_idle_act me (say n) idle = absurd cc
opens_idle_act me (recover_one id) idle = absurd cc
opens_idle_act me (fail_one id g) idle = absurd cc
opens_idle_act me (pass status) idle = absurd cc

-- ---- what they send

-- status transfers are no such records
module _ (test : Send → Bool) (none : (l : LinkId) (status : StatusTransfer) → test (l, flight.Ctl (rec.Snst status)) ≡ false) where
  both_none : (xs ys : List Send) → list_any test xs ≡ false → list_any test ys ≡ false → list_any test (xs ++ ys) ≡ false
  both_none xs ys p q = list_any-append test xs ys ∙ ap (λ b. b || list_any test ys) p ∙ q

  tells_none_at : (k : Stage) (l : LinkId) (g : ℕ) (v : View) → list_any test (tells_at k l g v) ≡ false
  tells_none_at holds l g v = ap (λ b. b || false) (none l (status_of g v.bearer.id))
  tells_none_at lacks_status l g v = refl
  tells_none_at has_status l g v = refl

  tells_none : (l : LinkId) (g : ℕ) (o : Option View) → list_any test (tells l g o) ≡ false
  tells_none l g None = refl
  tells_none l g (Some v) = tells_none_at v.stage l g v

  own_part_none : (g : ℕ) (part : Part) (o : Option View) → list_any test (own_part_sends g part o) ≡ false
  own_part_none g establishes o = refl
  own_part_none g renews o = refl
  own_part_none g awaits o = refl
  own_part_none g (hands_over to) o = tells_none (link M to Ctl) g o
  own_part_none g drops o = refl
  own_part_none g has_no_anchor o = refl

  pub sent_here_none : (p : Plan) (is : List Item) (v : Views) → list_any test (sent_here p is v) ≡ false
  sent_here_none p [] v = refl
  sent_here_none p (i ∷ is) v =
      both_none (own_part_sends p.g (part_at M p.sec i) (v (item_id i))) (sent_here p is (with_own_item p i v)) (own_part_none p.g (part_at M p.sec i) (v (item_id i))) (sent_here_none p is (with_own_item p i v))

  part_none : (me : Node) (g : ℕ) (part : Part) (o : Option View) → list_any test (part_sends me g part o) ≡ false
  part_none me g establishes o = refl
  part_none me g renews o = refl
  part_none me g awaits o = refl
  part_none me g (hands_over to) o = tells_none (link me M Ctl) g o
  part_none me g drops o = refl
  part_none me g has_no_anchor o = refl

  pub items_none : (me : Node) (p : Plan) (is : List Item) (v : Views) → list_any test (sent_by_items me p is v) ≡ false
  items_none me p [] v = refl
  items_none me p (i ∷ is) v =
      both_none (part_sends me p.g (part_at me p.sec i) (v (item_id i))) (sent_by_items me p is (with_item me p i v)) (part_none me p.g (part_at me p.sec i) (v (item_id i))) (items_none me p is (with_item me p i v))

-- ---- by the master

own_idle : (a : Act) (v : Views) → list_any is_idle_release (own_act_sends a v) ≡ is_idle_act M a
own_idle (send to r) v = or_none (is_idle_release (record_to M to r))
own_idle (prepare p) v = refl
own_idle (go p) v = sent_here_none is_idle_release (λ l status. refl) p p.items v
own_idle (unlock_all g) v = refl
own_idle (say n) v = refl
own_idle (recover_one id) v = refl
own_idle (fail_one id g) v = refl
own_idle (pass status) v = refl

own_opens : (a : Act) (v : Views) → list_any opens_release (own_act_sends a v) ≡ opens_act M a
own_opens (send to r) v = or_none (opens_release (record_to M to r))
own_opens (prepare p) v = refl
own_opens (go p) v = sent_here_none opens_release (λ l status. refl) p p.items v
own_opens (unlock_all g) v = refl
own_opens (say n) v = refl
own_opens (recover_one id) v = refl
own_opens (fail_one id g) v = refl
own_opens (pass status) v = refl

all_idle : (acts : List Act) (v : Views) → list_any is_idle_release (own_acts_sends acts v) ≡ list_any (is_idle_act M) acts
all_idle [] v = refl
all_idle (a ∷ acts) v =
    list_any-append is_idle_release (own_act_sends a v) (own_acts_sends acts (own_act_view a v))
    ∙ ap (λ b. b || list_any is_idle_release (own_acts_sends acts (own_act_view a v))) (own_idle a v)
    ∙ ap (λ b. is_idle_act M a || b) (all_idle acts (own_act_view a v))

-- none later than an act that sends no such record
busy_then : (a : Act) (acts : List Act) (v : Views) → is_idle_act M a ≡ false → not (list_any (is_idle_act M) acts) ≡ true → idles_first is_idle_release (own_acts_sends (a ∷ acts) v) ≡ true
busy_then a acts v busy none =
    busy_first is_idle_release opens_release (own_acts_sends (a ∷ acts) v)
    (all_idle (a ∷ acts) v ∙ ap (λ b. b || list_any (is_idle_act M) acts) busy ∙ not_is (list_any (is_idle_act M) acts) none)

sends_first : (acts : List Act) (v : Views) → idles_first (is_idle_act M) acts ≡ true → idles_first is_idle_release (own_acts_sends acts v) ≡ true
sends_first [] v first = refl
sends_first (send to r ∷ acts) v first = by (is_idle_release (record_to M to r)) first (sends_first acts v)
  where
    by : (b : Bool) → (if b then idles_first (is_idle_act M) acts else not (list_any (is_idle_act M) acts)) ≡ true
        → (idles_first (is_idle_act M) acts ≡ true → idles_first is_idle_release (own_acts_sends acts v) ≡ true)
        → (if b then idles_first is_idle_release (own_acts_sends acts v) else not (list_any is_idle_release (own_acts_sends acts v))) ≡ true
    by true is more = more is
    by false is more = ap not (all_idle acts v) ∙ is
sends_first (prepare p ∷ acts) v first = busy_then (prepare p) acts v refl first
sends_first (go p ∷ acts) v first = busy_then (go p) acts v refl first
sends_first (unlock_all g ∷ acts) v first = busy_then (unlock_all g) acts v refl first
sends_first (say n ∷ acts) v first = busy_then (say n) acts v refl first
sends_first (recover_one id ∷ acts) v first = busy_then (recover_one id) acts v refl first
sends_first (fail_one id g ∷ acts) v first = busy_then (fail_one id g) acts v refl first
sends_first (pass status ∷ acts) v first = busy_then (pass status) acts v refl first

-- an act that sends nothing that opens
still_then : (a : Act) (acts : List Act) (v : Views) → opens_act M a ≡ false → is_in_turn is_idle_release opens_release (own_acts_sends acts (own_act_view a v)) ≡ true
    → is_in_turn is_idle_release opens_release (own_acts_sends (a ∷ acts) v) ≡ true
still_then a acts v still turn = past is_idle_release opens_release (own_act_sends a v) (own_acts_sends acts (own_act_view a v)) (own_opens a v ∙ still) ∙ turn

pub sends_turn : (acts : List Act) (v : Views) → is_in_turn (is_idle_act M) (opens_act M) acts ≡ true → is_in_turn is_idle_release opens_release (own_acts_sends acts v) ≡ true
sends_turn [] v turn = refl
sends_turn (send to r ∷ acts) v turn = by (opens_release (record_to M to r)) turn (sends_turn acts v) (sends_first (send to r ∷ acts) v)
  where
    by : (b : Bool) → (if b then idles_first (is_idle_act M) (send to r ∷ acts) else is_in_turn (is_idle_act M) (opens_act M) acts) ≡ true
        → (is_in_turn (is_idle_act M) (opens_act M) acts ≡ true → is_in_turn is_idle_release opens_release (own_acts_sends acts v) ≡ true)
        → (idles_first (is_idle_act M) (send to r ∷ acts) ≡ true → idles_first is_idle_release (own_acts_sends (send to r ∷ acts) v) ≡ true)
        → (if b then idles_first is_idle_release (own_acts_sends (send to r ∷ acts) v) else is_in_turn is_idle_release opens_release (own_acts_sends acts v)) ≡ true
    by true is more first = first is
    by false is more first = more is
sends_turn (prepare p ∷ acts) v turn = still_then (prepare p) acts v refl (sends_turn acts (own_act_view (prepare p) v) turn)
sends_turn (go p ∷ acts) v turn = still_then (go p) acts v refl (sends_turn acts (own_act_view (go p) v) turn)
sends_turn (unlock_all g ∷ acts) v turn = still_then (unlock_all g) acts v refl (sends_turn acts (own_act_view (unlock_all g) v) turn)
sends_turn (say n ∷ acts) v turn = still_then (say n) acts v refl (sends_turn acts (own_act_view (say n) v) turn)
sends_turn (recover_one id ∷ acts) v turn = still_then (recover_one id) acts v refl (sends_turn acts (own_act_view (recover_one id) v) turn)
sends_turn (fail_one id g ∷ acts) v turn = still_then (fail_one id g) acts v refl (sends_turn acts (own_act_view (fail_one id g) v) turn)
sends_turn (pass status ∷ acts) v turn = still_then (pass status) acts v refl (sends_turn acts (own_act_view (pass status) v) turn)

-- ---- by a secondary node

moved_idle : (me : Node) (status : StatusTransfer) (adopts : Bool) (o : Option View) → list_any is_idle_release (moved me status adopts o) ≡ false
moved_idle me status adopts None = refl
moved_idle me status true (Some v) = by (is_awaited status v)
  where
    by : (b : Bool) → list_any is_idle_release (if b && true then record_to me M (rec.Moved v.bearer.g status.id) ∷ [] else []) ≡ false
    by true = refl
    by false = refl
moved_idle me status false (Some v) = by (is_awaited status v)
  where
    by : (b : Bool) → list_any is_idle_release (if b && false then record_to me M (rec.Moved v.bearer.g status.id) ∷ [] else []) ≡ false
    by true = refl
    by false = refl

act_idle : (me : Node) (adopts : Bool) (a : Act) (v : Views) → list_any is_idle_release (act_sends me adopts a v) ≡ is_idle_act me a
act_idle me adopts (send to r) v = or_none (is_idle_release (record_to me to r))
act_idle me adopts (prepare p) v = refl
act_idle me adopts (go p) v = items_none is_idle_release (λ l status. refl) me p p.items v
act_idle me adopts (unlock_all g) v = refl
act_idle me adopts (say n) v = refl
act_idle me adopts (recover_one id) v = refl
act_idle me adopts (fail_one id g) v = refl
act_idle me adopts (pass status) v = moved_idle me status adopts (v status.id)

pub chosen_idle : (me : Node) (chosen : List (Bool × Act)) (v : Views) → list_any is_idle_release (acts_sends me chosen v) ≡ list_any (is_idle_act me) (map (λ (x : Bool × Act). x.1) chosen)
chosen_idle me [] v = refl
chosen_idle me (a ∷ acts) v =
    list_any-append is_idle_release (act_sends me a.0 a.1 v) (acts_sends me acts (act_view me a.0 a.1 v))
    ∙ ap (λ b. b || list_any is_idle_release (acts_sends me acts (act_view me a.0 a.1 v))) (act_idle me a.0 a.1 v)
    ∙ ap (λ b. is_idle_act me a.1 || b) (chosen_idle me acts (act_view me a.0 a.1 v))
