-- Where the master carries a plan out, each anchor that becomes active is of a bearer that the plan sets, and is active after it.
use Rattle.std.proofs.Common.{ℕ, ◌≡◌, ◌<◌, ◌+◌, ◌==◌, ◌++◌, ◌∙◌, Bool, true, false, List, [], ◌∷◌, Option, Some, None, refl, sym, ap, subst, arith}
use Rattle.std.proofs.lemmas.Bool.{eq-eqb, eqb-true, ne_eqb}
use Rattle.std.specs.List.{AllByRecursion, list_any}
use Rattle.std.specs.Option.{option_map}
use Rattle.std.specs.Prelude.{if◌then◌else◌, is_some, ⊤, ◌||◌}
use Rattle.dc_base.specs.Nodes.{is_same_node}
use Rattle.dc_base.specs.Records.{item_id}
use Rattle.dc_base.specs.declared.events.Note.{Note}
use Rattle.dc_base.specs.declared.events.Note.TheVariants as note
use Rattle.dc_base.specs.declared.nodes.Node.{Node}
use Rattle.dc_base.specs.declared.nodes.Node.TheVariants.{A, B, M, T}
use Rattle.dc_base.specs.declared.records.Item.{Item}
use Rattle.dc_base.specs.declared.records.Item.TheVariants as item
use Rattle.dc_base.specs.declared.records.Plan.{Plan}
use Rattle.transcript.proofs.OnEach.{each_append, each_weaker}
use Rattle.node_rules.specs.Anchor.{AnchorState, active_anchor, fresh, renew, waiting_anchor}
use Rattle.node_rules.specs.Effects.{after_effects, in_turn, quiet}
use Rattle.node_rules.specs.Held.{held, holding}
use Rattle.node_rules.specs.Master.{MasterNode}
use Rattle.node_rules.specs.MasterPlan.{carries_item, frozen_here, line_end, line_ends, master_part, master_setup, owned, renewed_here, with_host_and_window}
use Rattle.node_rules.specs.Parts.{part_at}
use Rattle.node_rules.specs.Places.{anchor_at}
use Rattle.node_rules.specs.Setup.{Setup}
use Rattle.node_rules.specs.declared.inputs.Effects.{Effects}
use Rattle.node_rules.specs.declared.parts.Part.{Part}
use Rattle.node_rules.specs.declared.parts.Part.TheVariants.{Awaits as awaits, Drops as drops, Establishes as establishes, HandsOver as hands_over, HasNoAnchor as has_no_anchor, Renews as renews}
use Rattle.claims.specs.Reading.{sets}
use Rattle.node_rules.specs.Lines.{is_end}
use Rattle.run_control.specs.Orders.{Ascends}
use Rattle.run_control.proofs.SecondItems.{ascends_put, seen_put}
use Rattle.run_relays.specs.Pdus.{Ascend}
use Rattle.run_holders.specs.Actives.{active_of, master_actives}
use Rattle.run_holders.proofs.AnchorSteps.{either}

-- ---- an anchor in its place

same_map : {X : Type 0} (o : Option X) → option_map (λ (x : X). x) o ≡ o
same_map None = refl
same_map (Some x) = refl

put_actives : (xs : List (ℕ × AnchorState)) (id k : ℕ) (o : Option AnchorState) → Ascends xs
    → active_of (held k (holding id o xs)) ≡ (if id == k then active_of o else active_of (held k xs))
put_actives xs id k o up = ap active_of (sym (same_map (held k (holding id o xs))) ∙ seen_put (λ (a : AnchorState). a) id k o xs up) ∙ by (id == k)
  where
    by : (d : Bool) → active_of (if d then option_map (λ (a : AnchorState). a) o else option_map (λ (a : AnchorState). a) (held k xs)) ≡ (if d then active_of o else active_of (held k xs))
    by true = ap active_of (same_map o)
    by false = ap active_of (same_map (held k xs))

put_here : (xs : List (ℕ × AnchorState)) (id : ℕ) (o : Option AnchorState) → Ascends xs → active_of (held id (holding id o xs)) ≡ active_of o
put_here xs id o up = put_actives xs id id o up ∙ ap (λ b. if b then active_of o else active_of (held id xs)) (eq-eqb id id refl)

put_apart : (xs : List (ℕ × AnchorState)) (id k : ℕ) (o : Option AnchorState) → Ascends xs → (id == k) ≡ false
    → active_of (held k (holding id o xs)) ≡ active_of (held k xs)
put_apart xs id k o up apart = put_actives xs id k o up ∙ ap (λ b. if b then active_of o else active_of (held k xs)) apart

-- ---- an item

-- the note says that an anchor of this bearer is active from now on, in this generation, or that one was frozen
abbrev pub IsOfItem : Item → ℕ → (ℕ → Option ℕ) → Note → Type 0
IsOfItem i n now (note.Own x id g) = (g ≡ n) × (sets id i ≡ true) × (is_some (now id) ≡ true)
IsOfItem i n now (note.Give x id g) = ⊤
IsOfItem i n now _ = ⊥

-- after an item: the anchors ascend, that of another bearer is as before, and so are the notes
record ItemDone (m : MasterNode) (i : Item) (n : ℕ) (done : MasterNode × Effects) : Type 0 where
  up : Ascends done.0.anchors
  others : (k : ℕ) → (item_id i == k) ≡ false → master_actives done.0 k ≡ master_actives m k
  notes : AllByRecursion (IsOfItem i n (master_actives done.0)) done.1.notes

nothing_done : (m : MasterNode) (i : Item) (n : ℕ) → Ascends m.anchors → ItemDone m i n (m, quiet)
nothing_done m i n up = record { up = up; others = λ k apart. refl; notes = tt }

-- the bearer that an item sets is its own
its_id : (i : Item) (id : ℕ) → sets id i ≡ true → item_id i ≡ id
its_id (item.Set k n first shape threshold policy key old) id is = eqb-true k id is
its_id (item.Unset k) id is = absurd (let bad : false ≡ true = is in cc)

module _ (m : MasterNode) (n : ℕ) (i : Item) (own : sets (item_id i) i ≡ true) (up : Ascends m.anchors) where
  -- an anchor of it is active from now on
  is_owned : (o : Option AnchorState) → is_some (active_of o) ≡ true → ItemDone m i n (owned m (item_id i) n o)
  is_owned o is = record {
    up = ascends_put (item_id i) o m.anchors up;
    others = λ k apart. put_apart m.anchors (item_id i) k o up apart;
    notes = ((refl, own, ap is_some (put_here m.anchors (item_id i) o up) ∙ is), tt);
  }

  is_renewed : (o : Option Setup) (s : Option AnchorState) → ItemDone m i n (renewed_here m (item_id i) n o s)
  is_renewed None s = nothing_done m i n up
  is_renewed (Some st) None = nothing_done m i n up
  is_renewed (Some st) (Some (waiting_anchor w)) = nothing_done m i n up
  is_renewed (Some st) (Some (active_anchor a)) = is_owned (Some (active_anchor (renew a st))) refl

  is_frozen : (to : Node) (s : Option AnchorState) → ItemDone m i n (frozen_here m (item_id i) n to s)
  is_frozen to None = nothing_done m i n up
  is_frozen to (Some (waiting_anchor w)) = nothing_done m i n up
  is_frozen to (Some (active_anchor a)) =
      record { up = ascends_put (item_id i) None m.anchors up; others = λ k apart. put_apart m.anchors (item_id i) k None up apart; notes = (tt, tt) }

-- one that sets a bearer, by its part
part_done : (m : MasterNode) (p : Plan) (i : Item) → sets (item_id i) i ≡ true → is_some (active_of (option_map fresh (master_setup m p i))) ≡ true
    → (part : Part) → Ascends m.anchors → ItemDone m i p.g (master_part m p i part)
part_done m p i own made establishes up = is_owned m p.g i own up (option_map fresh (master_setup m p i)) made
part_done m p i own made renews up = is_renewed m p.g i own up (master_setup m p i) (held (item_id i) m.anchors)
part_done m p i own made awaits up = nothing_done m i p.g up
part_done m p i own made (hands_over to) up = is_frozen m p.g i own up to (held (item_id i) m.anchors)
part_done m p i own made drops up =
    record { up = ascends_put (item_id i) None m.anchors up; others = λ k apart. put_apart m.anchors (item_id i) k None up apart; notes = tt }
part_done m p i own made has_no_anchor up = nothing_done m i p.g up

end_silent : (g id : ℕ) (new old : Node) → (line_end g id new old).notes ≡ []
end_silent g id new M = refl
end_silent g id new T = refl
end_silent g id new A = either (λ (x : Effects). x.notes ≡ []) (is_same_node new A) _ _ refl refl
end_silent g id new B = either (λ (x : Effects). x.notes ≡ []) (is_same_node new B) _ _ refl refl

ends_silent : (g : ℕ) (sec : Option Node) (i : Item) → (line_ends g sec i).notes ≡ []
ends_silent g sec (item.Set id n first shape threshold policy key None) = refl
ends_silent g sec (item.Set id n first shape threshold policy key (Some old)) = end_silent g id (anchor_at sec shape) old
ends_silent g sec (item.Unset id) = refl

-- behind what says nothing
behind : (m k : MasterNode) (i : Item) (n : ℕ) (x : Effects) (done : MasterNode × Effects) → k.anchors ≡ m.anchors → x.notes ≡ [] → ItemDone k i n done
    → ItemDone m i n (after_effects x done)
behind m k i n x done same none is = record {
  up = is.up;
  others = λ j apart. is.others j apart ∙ ap (λ (xs : List (ℕ × AnchorState)). active_of (held j xs)) same;
  notes = subst (λ ns. AllByRecursion (IsOfItem i n (master_actives done.0)) (ns ++ done.1.notes)) (sym none) is.notes;
}

item_done : (p : Plan) (m : MasterNode) (i : Item) → Ascends m.anchors → ItemDone m i p.g (carries_item p m i)
item_done p m (item.Unset id) up = record { up = ascends_put id None m.anchors up; others = λ k apart. put_apart m.anchors id k None up apart; notes = tt }
item_done p m (item.Set id n first shape threshold policy key old) up =
    let i = item.Set id n first shape threshold policy key old in
    let k = with_host_and_window p m i in
    behind m k i p.g (line_ends p.g p.sec i) (master_part k p i (part_at M p.sec i)) refl (ends_silent p.g p.sec i)
    (part_done k p i (eq-eqb id id refl) refl (part_at M p.sec i) up)

-- ---- a plan

-- the same of its items
abbrev pub IsOfItems : List Item → ℕ → (ℕ → Option ℕ) → Note → Type 0
IsOfItems is n now (note.Own x id g) = (g ≡ n) × (list_any (sets id) is ≡ true) × (is_some (now id) ≡ true)
IsOfItems is n now (note.Give x id g) = ⊤
IsOfItems is n now _ = ⊥

-- after items whose bearers ascend from one on
pub record ItemsDone (m : MasterNode) (from : ℕ) (is : List Item) (n : ℕ) (done : MasterNode × Effects) : Type 0 where
  pub up : Ascends done.0.anchors
  pub others : (k : ℕ) → k < from → master_actives done.0 k ≡ master_actives m k
  pub notes : AllByRecursion (IsOfItems is n (master_actives done.0)) done.1.notes

first_of : (i : Item) (is : List Item) (n : ℕ) (now last : ℕ → Option ℕ) → ((k : ℕ) → k < item_id i + 1 → last k ≡ now k) → (x : Note) → IsOfItem i n now x
    → IsOfItems (i ∷ is) n last x
first_of i is n now last same (note.Own y id g) so =
    (so.0, ap (λ b. b || list_any (sets id) is) so.1, ap is_some (same id (let it = its_id i id so.1 in omega (arith, it))) ∙ so.2)
first_of i is n now last same (note.Give y id g) so = tt
first_of i is n now last same x so = absurd so

or_more : (a b : Bool) → b ≡ true → (a || b) ≡ true
or_more true b is = refl
or_more false b is = is

later_of : (i : Item) (is : List Item) (n : ℕ) (now : ℕ → Option ℕ) → (x : Note) → IsOfItems is n now x → IsOfItems (i ∷ is) n now x
later_of i is n now (note.Own y id g) so = (so.0, or_more (sets id i) (list_any (sets id) is) so.1, so.2)
later_of i is n now (note.Give y id g) so = tt
later_of i is n now x so = absurd so

pub items_done : (p : Plan) (is : List Item) (from : ℕ) → Ascend from is → (m : MasterNode) → Ascends m.anchors
    → ItemsDone m from is p.g (in_turn (carries_item p) m is)
items_done p [] from ascend m up = record { up = up; others = λ k below. refl; notes = tt }
items_done p (i ∷ is) from ascend m up =
    let here = carries_item p m i in
    let one = item_done p m i up in
    let rest = items_done p is (item_id i + 1) ascend.1 here.0 one.up in
    let last = in_turn (carries_item p) here.0 is in
    record {
      up = rest.up;
      others = λ k below. rest.others k (omega (arith, below, ascend.0)) ∙ one.others k (ne_eqb (item_id i) k (λ same. omega (arith, below, ascend.0, same)));
      notes =
          each_append (IsOfItems (i ∷ is) p.g (master_actives last.0)) here.1.notes last.1.notes
          (each_weaker (IsOfItem i p.g (master_actives here.0)) (IsOfItems (i ∷ is) p.g (master_actives last.0))
          (first_of i is p.g (master_actives here.0) (master_actives last.0) rest.others) here.1.notes one.notes)
          (each_weaker (IsOfItems is p.g (master_actives last.0)) (IsOfItems (i ∷ is) p.g (master_actives last.0))
          (later_of i is p.g (master_actives last.0)) last.1.notes rest.notes);
    }

-- no command ends by such a note
pub items_end : (is : List Item) (n : ℕ) (now : ℕ → Option ℕ) (ns : List Note) → AllByRecursion (IsOfItems is n now) ns
    → AllByRecursion (λ x. is_end x ≡ false) ns
items_end is n now [] all = tt
items_end is n now (x ∷ ns) all = (by x all.0, items_end is n now ns all.1)
  where
    by : (x : Note) → IsOfItems is n now x → is_end x ≡ false
    by (note.Own y id g) so = refl
    by (note.Give y id g) so = refl
    by y so = absurd so

-- one drop says nothing, and nothing is active of its bearer after it
pub drop_done : (p : Plan) (id : ℕ) (m : MasterNode) → Ascends m.anchors
    → ((in_turn (carries_item p) m (item.Unset id ∷ [])).1.notes ≡ []) × (master_actives (in_turn (carries_item p) m (item.Unset id ∷ [])).0 id ≡ None)
drop_done p id m up = (refl, put_here m.anchors id None up)
