-- What the procedures have the master do: where no plan is carried out, nothing is noted of anchors; where one is, that of its items comes
-- last.
use Rattle.std.proofs.Common.{append_assoc, ℕ, ◌≡◌, ◌==◌, ◌++◌, ◌∙◌, true, false, List, [], ◌∷◌, Option, Some, None, refl, sym, ap, subst, inl, inr}
use Rattle.std.proofs.lemmas.Bool.{cases_Bool}
use Rattle.std.proofs.lemmas.List.{append-nil}
use Rattle.std.specs.List.{AllByRecursion}
use Rattle.std.specs.Prelude.{filter, nat_lt}
use Rattle.dc_base.specs.Links.{link}
use Rattle.dc_base.specs.declared.events.Note.{Note}
use Rattle.dc_base.specs.declared.events.Note.TheVariants as note
use Rattle.dc_base.specs.declared.flights.Flight.TheVariants as flight
use Rattle.dc_base.specs.declared.nodes.Class.TheVariants.{Ctl}
use Rattle.dc_base.specs.declared.nodes.Dir.TheVariants.{Dl, Ul}
use Rattle.dc_base.specs.declared.nodes.Node.TheVariants.{M, T}
use Rattle.dc_base.specs.declared.records.Item.{Item}
use Rattle.dc_base.specs.declared.records.Plan.{Plan}
use Rattle.dc_base.specs.declared.records.Rec.{Rec}
use Rattle.dc_base.specs.declared.records.Rec.TheVariants as rec
use Rattle.transcript.proofs.OnEach.{each_append}
use Rattle.node_rules.specs.Anchor.{AnchorState, setup_at}
use Rattle.node_rules.specs.AnchorSending.{fail_scg, recover, unlock}
use Rattle.node_rules.specs.Choices.{Choices, Send}
use Rattle.node_rules.specs.Effects.{in_turn, noted, quiet}
use Rattle.node_rules.specs.Held.{held, holding, identities}
use Rattle.node_rules.specs.Master.{MasterNode, anchor_did, handed_up, low_rises, on_anchor, on_anchor_of, window_told}
use Rattle.node_rules.specs.MasterPlan.{carries_item, does, master_act, prepares_item, prepares_part}
use Rattle.node_rules.specs.MasterState.{MasterActs}
use Rattle.node_rules.specs.Parts.{part_at}
use Rattle.node_rules.specs.declared.acts.Act.{Act}
use Rattle.node_rules.specs.declared.acts.Act.TheVariants.{FailOne as fail_one, Go as go, Pass as pass, Prepare as prepare, RecoverOne as recover_one, Say as say, Send as send, UnlockAll as unlock_all}
use Rattle.node_rules.specs.declared.bearers.AnchorOut.{AnchorOut}
use Rattle.node_rules.specs.declared.bearers.Window.{Window}
use Rattle.node_rules.specs.declared.inputs.Effects.{Effects}
use Rattle.node_rules.specs.declared.parts.Part.{Part}
use Rattle.node_rules.specs.declared.parts.Part.TheVariants.{Awaits as awaits, Drops as drops, Establishes as establishes, HandsOver as hands_over, HasNoAnchor as has_no_anchor, Renews as renews}
use Rattle.run_control.specs.Orders.{Ascends}
use Rattle.run_relays.proofs.Drawn.{SendBrings}
use Rattle.run_relays.proofs.Planned.{Runs}
use Rattle.run_table.proofs.Beside.{does_follows}
use Rattle.run_table.proofs.LineWords.{filter_append}
use Rattle.run_table.specs.Quiet.{HaveNoPlan, has_plan, said, said_by}
use Rattle.run_table.specs.Words.{is_order}
use Rattle.run_holders.specs.Actives.{is_of_anchor}
use Rattle.run_holders.proofs.AnchorSteps.{Stays, either, fail_stays, recover_stays, unlock_stays}
use Rattle.run_holders.proofs.MasterSaying.{SayPlain, SaysPlain}
use Rattle.run_holders.proofs.MasterTelling.{does_tell}
use Rattle.run_holders.proofs.MasterWellCut.{each_filter}
use Rattle.run_holders.proofs.MasterWellGoes.{IsFarewell, IsStay, Stay}
use Rattle.run_holders.proofs.MasterWellLines.{OrdersOf, OwnsOf}

-- ---- what notes nothing of anchors

abbrev pub NoteNone : List Note → Type 0
NoteNone ns = AllByRecursion (λ n. is_of_anchor n ≡ false) ns

none_then : (ns ms : List Note) → NoteNone ns → NoteNone ms → NoteNone (ns ++ ms)
none_then ns ms one two = each_append (λ n. is_of_anchor n ≡ false) ns ms one two

-- none says that an anchor became active
pub none_owns : (P : ℕ → ℕ → Type 0) (ns : List Note) → NoteNone ns → AllByRecursion (OwnsOf P) ns
none_owns P [] none = tt
none_owns P (n ∷ ns) none = (by n none.0, none_owns P ns none.1)
  where
    by : (n : Note) → is_of_anchor n ≡ false → OwnsOf P n
    by (note.Own x id g) is = absurd cc
    by n is = tt

window_none : (m : MasterNode) (id count : ℕ) (o : Option Window) → NoteNone (window_told m id count o).1.notes
window_none m id count None = tt
window_none m id count (Some w) =
    either (λ (done : MasterNode × Effects). NoteNone done.1.notes) (nat_lt w.told count)
    (record m { windows = holding id (Some (record w { told = count })) m.windows }, noted (note.Freed id Dl count)) (m, quiet) (refl, tt) tt

pub low_none : (m : MasterNode) (id : ℕ) (o : Option ℕ) → NoteNone (low_rises m id o).1.notes
low_none m id None = tt
low_none m id (Some count) = window_none m id count (held id m.windows)

did_none : (m : MasterNode) (id : ℕ) (done : AnchorState × AnchorOut) → done.1.ups ≡ [] → NoteNone (anchor_did m id done).1.notes
did_none m id done none =
    none_then (handed_up M id Ul done.1.ups) (low_rises (record m { anchors = holding id (Some done.0) m.anchors }) id done.1.low).1.notes
    (subst (λ us. NoteNone (handed_up M id Ul us)) (sym none) tt)
    (low_none (record m { anchors = holding id (Some done.0) m.anchors }) id done.1.low)

pub on_anchor_none : (m : MasterNode) (id : ℕ) (f : AnchorState → AnchorState × AnchorOut) → ((s : AnchorState) → Stays s (f s)) → (o : Option AnchorState)
    → NoteNone (on_anchor m id f o).1.notes
on_anchor_none m id f stays None = tt
on_anchor_none m id f stays (Some s) = did_none m id (f s) (stays s).ups

on_anchor_of_none : (m : MasterNode) (g : ℕ) (f : AnchorState → AnchorState × AnchorOut) → ((s : AnchorState) → Stays s (f s))
    → (id : ℕ) (o : Option AnchorState) → NoteNone (on_anchor_of m g f id o).1.notes
on_anchor_of_none m g f stays id None = tt
on_anchor_of_none m g f stays id (Some s) = either (λ (done : MasterNode × Effects). NoteNone done.1.notes) ((setup_at s).g == g) (anchor_did m id (f s))
    (m, quiet) (did_none m id (f s) (stays s).ups) tt

each_none : {X : Type 0} (f : MasterNode → X → MasterNode × Effects) → ((m : MasterNode) (x : X) → NoteNone (f m x).1.notes) → (m : MasterNode) (xs : List X)
    → NoteNone (in_turn f m xs).1.notes
each_none f each m [] = tt
each_none f each m (x ∷ xs) = none_then (f m x).1.notes (in_turn f (f m x).0 xs).1.notes (each m x) (each_none f each (f m x).0 xs)

prepares_none : (m : MasterNode) (p : Plan) (i : Item) (part : Part) → NoteNone (prepares_part m p i part).1.notes
prepares_none m p i establishes = tt
prepares_none m p i renews = tt
prepares_none m p i awaits = tt
prepares_none m p i (hands_over to) = tt
prepares_none m p i drops = tt
prepares_none m p i has_no_anchor = tt

act_none : (c : Choices) (m : MasterNode) (a : Act) → IsStay a → NoteNone (master_act c m a).1.notes
act_none c m (send to r) stay = tt
act_none c m (prepare p) stay = each_none (prepares_item p) (λ n i. prepares_none n p i (part_at M p.sec i)) m p.items
act_none c m (go p) stay = absurd stay
act_none c m (unlock_all g) stay = each_none (λ n id. on_anchor_of n g (unlock c) id (held id n.anchors))
    (λ n id. on_anchor_of_none n g (unlock c) (unlock_stays c) id (held id n.anchors)) m (identities m.anchors)
act_none c m (say n) stay = (stay, tt)
act_none c m (recover_one id) stay = on_anchor_none m id (recover c) (recover_stays c) (held id m.anchors)
act_none c m (fail_one id g) stay = on_anchor_of_none m g (fail_scg c) (fail_stays c) id (held id m.anchors)
act_none c m (pass st) stay = absurd stay

acts_none : (c : Choices) (m : MasterNode) (acts : List Act) → Stay acts → NoteNone (in_turn (master_act c) m acts).1.notes
acts_none c m [] stay = tt
acts_none c m (a ∷ acts) stay = none_then (master_act c m a).1.notes (in_turn (master_act c) (master_act c m a).0 acts).1.notes (act_none c m a stay.0)
    (acts_none c (master_act c m a).0 acts stay.1)

-- ---- what sends no order, or those of one plan

not_order : (Q : Plan → Type 0) (s : Send) → has_plan s ≡ false → OrdersOf Q s.1
not_order Q (l, flight.Ctl (rec.Reconf q key)) is = absurd (let bad : true ≡ false = is in cc)
not_order Q (l, f) is = tt

-- sends that carry no plan carry no order
pub planless : (ss : List Send) → HaveNoPlan ss → AllByRecursion (λ (s : Send). OrdersOf (λ q. ⊥) s.1) ss
planless [] none = tt
planless (s ∷ ss) none =
    elim (cases_Bool (has_plan s)) [
      | inl yes' ↦ absurd (let bad : s ∷ filter has_plan ss ≡ [] = rw yes' at none in cc)
      | inr no' ↦
          (not_order (λ q. ⊥) s no', planless ss (rw no' at none))
    ]

from_filter : (Q : Plan → Type 0) (ss : List Send) → AllByRecursion (λ (s : Send). OrdersOf Q s.1) (filter has_plan ss)
    → AllByRecursion (λ (s : Send). OrdersOf Q s.1) ss
from_filter Q [] all = tt
from_filter Q (s ∷ ss) all =
    elim (cases_Bool (has_plan s)) [
      | inl yes' ↦ let both' : AllByRecursion (λ (s : Send). OrdersOf Q s.1) (s ∷ filter has_plan ss) = rw yes' at all in (both'.0, from_filter Q ss both'.1)
      | inr no' ↦ (not_order Q s no', from_filter Q ss (rw no' at all))
    ]

-- where the plans that are carried are the same
same_plans : (Q : Plan → Type 0) (xs ys : List Send) → filter has_plan xs ≡ filter has_plan ys → AllByRecursion (λ (s : Send). OrdersOf Q s.1) ys
    → AllByRecursion (λ (s : Send). OrdersOf Q s.1) xs
same_plans Q xs ys same all = from_filter Q xs
    (subst (AllByRecursion (λ (s : Send). OrdersOf Q s.1)) (sym same) (each_filter (λ (s : Send). OrdersOf Q s.1) has_plan ys all))

record_not : (Q : Plan → Type 0) (r : Rec) → is_order r ≡ false → OrdersOf Q (flight.Ctl r)
record_not Q (rec.Reconf q key) is = absurd (let bad : true ≡ false = is in cc)
record_not Q r is = tt

orders_before : (Q : Plan → Type 0) (acts later : List Act) → Stay acts → AllByRecursion (λ (s : Send). OrdersOf Q s.1) (said later).sends
    → AllByRecursion (λ (s : Send). OrdersOf Q s.1) (said (acts ++ later)).sends
orders_before Q [] later stay all = all
orders_before Q (send to r ∷ acts) later stay all = (record_not Q r stay.0, orders_before Q acts later stay.1 all)
orders_before Q (prepare p ∷ acts) later stay all = orders_before Q acts later stay.1 all
orders_before Q (go p ∷ acts) later stay all = absurd stay.0
orders_before Q (unlock_all g ∷ acts) later stay all = orders_before Q acts later stay.1 all
orders_before Q (say n ∷ acts) later stay all = orders_before Q acts later stay.1 all
orders_before Q (recover_one id ∷ acts) later stay all = orders_before Q acts later stay.1 all
orders_before Q (fail_one id g ∷ acts) later stay all = orders_before Q acts later stay.1 all
orders_before Q (pass st ∷ acts) later stay all = absurd stay.0

stay_orders : (Q : Plan → Type 0) (acts : List Act) → Stay acts → AllByRecursion (λ (s : Send). OrdersOf Q s.1) (said acts).sends
stay_orders Q acts stay = subst (λ zs. AllByRecursion (λ (s : Send). OrdersOf Q s.1) (said zs).sends) (append-nil acts) (orders_before Q acts [] stay tt)

farewell_orders : (Q : Plan → Type 0) (acts : List Act) → AllByRecursion IsFarewell acts → AllByRecursion (λ (s : Send). OrdersOf Q s.1) (said acts).sends
farewell_orders Q [] all = tt
farewell_orders Q (send to r ∷ acts) all = (record_not Q r all.0, farewell_orders Q acts all.1)
farewell_orders Q (a ∷ acts) all = absurd all.0

pub each_right : {X : Type 0} (P : X → Type 0) (xs ys : List X) → AllByRecursion P (xs ++ ys) → AllByRecursion P ys
each_right P [] ys all = all
each_right P (x ∷ xs) ys all = each_right P xs ys all.1

-- the order is among them
order_there : (P : Send → Type 0) (before later : List Act) (q : Plan) (key : List ℕ)
    → AllByRecursion P (filter has_plan (said (before ++ (send T (rec.Reconf q key) ∷ later))).sends) → P (link M T Ctl, flight.Ctl (rec.Reconf q key))
order_there P [] later q key all = all.0
order_there P (b ∷ before) later q key all =
    let rest = (said (before ++ (send T (rec.Reconf q key) ∷ later))).sends in
    order_there P before later q key
    (each_right P (filter has_plan (said_by b).sends) (filter has_plan rest) (subst (AllByRecursion P) (filter_append has_plan (said_by b).sends rest) all))

-- ---- one after another

turn_state : {X : Type 0} (f : MasterNode → X → MasterNode × Effects) (xs ys : List X) (m : MasterNode)
    → (in_turn f m (xs ++ ys)).0 ≡ (in_turn f (in_turn f m xs).0 ys).0
turn_state f [] ys m = refl
turn_state f (x ∷ xs) ys m = turn_state f xs ys (f m x).0

turn_notes : {X : Type 0} (f : MasterNode → X → MasterNode × Effects) (xs ys : List X) (m : MasterNode)
    → (in_turn f m (xs ++ ys)).1.notes ≡ (in_turn f m xs).1.notes ++ (in_turn f (in_turn f m xs).0 ys).1.notes
turn_notes f [] ys m = refl
turn_notes f (x ∷ xs) ys m =
    ap (λ ns. (f m x).1.notes ++ ns) (turn_notes f xs ys (f m x).0) ∙ sym (append_assoc (f m x).1.notes (in_turn f (f m x).0 xs).1.notes
    (in_turn f (in_turn f (f m x).0 xs).0 ys).1.notes)

farewells : (c : Choices) (acts : List Act) → AllByRecursion IsFarewell acts → (m : MasterNode)
    → ((in_turn (master_act c) m acts).0 ≡ m) × ((in_turn (master_act c) m acts).1.notes ≡ [])
farewells c [] all m = (refl, refl)
farewells c (send to r ∷ acts) all m = farewells c acts all.1 m
farewells c (a ∷ acts) all m = absurd all.0

stay_plain : (acts : List Act) → Stay acts → SayPlain acts
stay_plain [] stay = tt
stay_plain (a ∷ acts) stay = (by a stay.0, stay_plain acts stay.1)
  where
    by : (a : Act) → IsStay a → SaysPlain a
    by (say n) is = is
    by a is = tt

-- ---- a plan is carried out

-- by a step of the master: its items are carried out last
pub record CarriesOut (m : MasterNode) (done : MasterNode × Effects) (q : Plan) : Type 0 where
  pub at : MasterNode
  pub up : Ascends at.anchors
  pub first : List Note
  pub notes : done.1.notes ≡ first ++ (in_turn (carries_item q) at q.items).1.notes
  pub anchors : done.0.anchors ≡ (in_turn (carries_item q) at q.items).0.anchors
  pub none : NoteNone first
  pub orders : AllByRecursion (λ (s : Send). OrdersOf (λ r. r ≡ q) s.1) done.1.sends
  pub runs : (plans : List Plan) → AllByRecursion (SendBrings plans) done.1.sends → Runs plans q

-- so does a step whose procedures have it do it
pub does_carry : (c : Choices) (m : MasterNode) (r : MasterActs) (before : List Act) (q : Plan) (key : List ℕ) (leave : List Act)
    → r.1 ≡ before ++ (send T (rec.Reconf q key) ∷ go q ∷ leave) → Stay before → AllByRecursion IsFarewell leave
    → Ascends m.anchors → CarriesOut m (does c m r) q
does_carry c m r before q key leave is stay more up =
    let f = master_act c in
    let start = record m { proc = r.0 } in
    let here = in_turn f start before in
    let order : List Act = send T (rec.Reconf q key) ∷ go q ∷ leave in
    let done = in_turn (carries_item q) here.0 q.items in
    let last = farewells c leave more done.0 in
    record {
      at = here.0;
      up = (does_tell c m (r.0, before) (stay_plain before stay) up).up;
      first = here.1.notes;
      notes =
          ap (λ acts. (in_turn f start acts).1.notes) is ∙ turn_notes f before order start ∙ ap (λ ns. here.1.notes ++ (done.1.notes ++ ns)) last.1
          ∙ ap (λ ns. here.1.notes ++ ns) (append-nil done.1.notes);
      anchors = ap (λ acts. (in_turn f start acts).0.anchors) is ∙ ap (λ (n : MasterNode). n.anchors) (turn_state f before order start) ∙ ap
          (λ (n : MasterNode). n.anchors) last.0;
      none = acts_none c start before stay;
      orders =
          same_plans (λ x. x ≡ q) (does c m r).1.sends (said r.1).sends (does_follows c m r).says.sends
          (subst (λ acts. AllByRecursion (λ (s : Send). OrdersOf (λ x. x ≡ q) s.1) (said acts).sends) (sym is)
          (orders_before (λ x. x ≡ q) before order stay (refl, farewell_orders (λ x. x ≡ q) leave more)));
      runs = λ plans bring.
          by plans
          (order_there (SendBrings plans) before (go q ∷ leave) q key
          (subst (λ acts. AllByRecursion (SendBrings plans) (filter has_plan (said acts).sends)) is
          (subst (AllByRecursion (SendBrings plans)) (does_follows c m r).says.sends (each_filter (SendBrings plans) has_plan (does c m r).1.sends bring))));
    }
  where
    by : (plans : List Plan) → SendBrings plans (link M T Ctl, flight.Ctl (rec.Reconf q key)) → Runs plans q
    by plans (inl runs) = runs
    by plans (inr none) = absurd (let bad : rec.Reconf q key ≡ rec.Relcnf q = none.1 in cc)

-- and one that carries none out notes nothing of anchors, and sends no order
pub does_none : (c : Choices) (m : MasterNode) (r : MasterActs) → Stay r.1
    → NoteNone (does c m r).1.notes × AllByRecursion (λ (s : Send). OrdersOf (λ q. ⊥) s.1) (does c m r).1.sends
does_none c m r stay = (
  acts_none c (record m { proc = r.0 }) r.1 stay,
  same_plans (λ q. ⊥) (does c m r).1.sends (said r.1).sends (does_follows c m r).says.sends
      (stay_orders (λ q. ⊥) r.1 stay),
)
