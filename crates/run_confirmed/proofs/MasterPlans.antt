-- The master carries a plan out, and does what its procedures have it do.
use Rattle.std.proofs.Common.{◌≡◌, ℕ, ◌+◌, ◌<◌, ◌≤◌, ◌^◌, true, Bool, List, [], ◌∷◌, Option, Some, None, refl, sym, ◌∙◌, subst, inl, inr, arith}
use Rattle.std.specs.Prelude.{if◌then◌else◌, not}
use Rattle.std.specs.List.{AllByRecursion}
use Rattle.std.proofs.lemmas.Bool.{cases_Bool}
use Rattle.dc_base.specs.Links.{link}
use Rattle.dc_base.specs.Nodes.{is_same_node}
use Rattle.dc_base.specs.Records.{item_id}
use Rattle.dc_base.specs.declared.events.Note.{Note}
use Rattle.dc_base.specs.declared.flights.Flight.TheVariants as flight
use Rattle.dc_base.specs.declared.nodes.Class.TheVariants.{Ctl}
use Rattle.dc_base.specs.declared.nodes.Node.{Node}
use Rattle.dc_base.specs.declared.nodes.Node.TheVariants.{A, B, M, T}
use Rattle.dc_base.specs.declared.nodes.Shape.{Shape}
use Rattle.dc_base.specs.declared.numbers.SnLen.{SnLen}
use Rattle.dc_base.specs.declared.records.Item.{Item}
use Rattle.dc_base.specs.declared.records.Item.TheVariants as item
use Rattle.dc_base.specs.declared.records.Plan.{Plan}
use Rattle.dc_base.specs.declared.nodes.KeyName.{KeyName}
use Rattle.transcript.proofs.OnEach.{each_append}
use Rattle.node_rules.specs.Anchor.{AnchorState, active_anchor, fresh, renew, waiting, waiting_anchor}
use Rattle.node_rules.specs.AnchorSending.{fail_scg, recover, unlock}
use Rattle.node_rules.specs.Choices.{Choices}
use Rattle.node_rules.specs.Effects.{in_turn}
use Rattle.node_rules.specs.Held.{held, holding, identities}
use Rattle.node_rules.specs.Host.{Host, new_host}
use Rattle.node_rules.specs.Master.{MasterNode, is_waiting, on_anchor_of, without_waiting}
use Rattle.node_rules.specs.MasterPlan.{carries_item, frozen_here, is_rejection, key_octets, line_end, line_ends, master_act, master_part, prepares_item, prepares_part, renewed_here, says, with_host_and_window}
use Rattle.node_rules.specs.MasterState.{MasterProc}
use Rattle.node_rules.specs.Parts.{host_at, item_key, part_at, set_part}
use Rattle.node_rules.specs.Places.{anchor_at, is_host_at}
use Rattle.node_rules.specs.Setup.{Setup, new_legs}
use Rattle.node_rules.specs.declared.acts.Act.{Act}
use Rattle.node_rules.specs.declared.acts.Act.TheVariants.{FailOne as fail_one, Go as go, Pass as pass, Prepare as prepare, RecoverOne as recover_one, Say as say, Send as send, UnlockAll as unlock_all}
use Rattle.node_rules.specs.declared.inputs.Effects.{Effects}
use Rattle.node_rules.specs.declared.parts.Part.{Part}
use Rattle.node_rules.specs.declared.parts.Part.TheVariants.{Awaits as awaits, Drops as drops, Establishes as establishes, HandsOver as hands_over, HasNoAnchor as has_no_anchor, Renews as renews}
use Rattle.run_control.proofs.Ascending.{ascends_some, held_some, kept_by}
use Rattle.run_control.proofs.Sent.{either}
use Rattle.run_pairs.proofs.Replies.{same_node}
use Rattle.run_senders.specs.Holders.{IfThere}
use Rattle.run_confirmed.specs.Flights.{IsTrueSend}
use Rattle.run_confirmed.specs.Masters.{IsYoung, MayDo}
use Rattle.run_confirmed.specs.Nodes.{IsAnchorOf, IsHostOf}
use Rattle.run_confirmed.specs.Plans.{IsLaidOut, SetsAsLaidOut}
use Rattle.run_confirmed.specs.Stories.{IsNew, Layout, Stories}
use Rattle.run_confirmed.proofs.Asides.{freeze_true}
use Rattle.run_confirmed.proofs.Held.{set_ascends, set_so}
use Rattle.run_confirmed.proofs.Masters.{AllMay, At, AtGoes, InOrder, at_idle, at_later, held_goes, of_goes, then_to}
use Rattle.run_confirmed.proofs.SecondPlans.{IsSetHere, fresh_so, host_so, part_home, renew_so, takes_anchor, waiting_so}
use Rattle.run_confirmed.proofs.Seconds.{order_then, stays_goes, turns_go}
use Rattle.run_confirmed.proofs.Steps.{fail_is, fail_lacks, recover_is, recover_lacks, unlock_is, unlock_lacks}

module _ (layout : Layout) where
  -- ---- one is put

  put_anchor : (q : MasterProc) (from : ℕ) (stories : Stories) (m : MasterNode) (id : ℕ) (o : Option AnchorState) → IfThere (IsAnchorOf layout stories M id) o
      → IfThere (IsYoung from) o → At layout q from stories m
      → At layout q from stories (record m { anchors = holding id o m.anchors })
  put_anchor q from stories m id o here young is = record {
    has = record {
      anchors = set_so (λ k s. IsAnchorOf layout stories M k s) id o m.anchors is.has.anchors_ascend here (λ k apart. is.has.anchors k);
      hosts = is.has.hosts;
      anchors_ascend = set_ascends (λ k s. IsAnchorOf layout stories M k s) id o m.anchors is.has.anchors_ascend;
      hosts_ascend = is.has.hosts_ascend;
    };
    procs = is.procs;
    young = set_so (λ k s. IsYoung from s) id o m.anchors is.has.anchors_ascend young (λ k apart. is.young k);
    below = is.below;
    unused = is.unused;
  }

  -- ---- an item

  module _ (stories : Stories) (q : MasterProc) (from : ℕ) (p : Plan) (new : IsNew layout M stories p.g) where
    -- after it all is so by the same stories
    abbrev Stays : MasterNode × Effects → Type 0
    Stays done = At layout q from stories done.0 × AllByRecursion (IsTrueSend layout stories) done.1.sends

    set_here : (id : ℕ) (n : SnLen) (first : ℕ) (shape : Shape) (st : Setup) → IsLaidOut layout p id n first shape
        → is_same_node M (anchor_at p.sec shape) ≡ true → st.id ≡ id → st.node ≡ M → st.g ≡ p.g → st.n ≡ n → st.first ≡ first
        → (st.legs.mcg.pdus ≡ []) × (st.legs.scg.pdus ≡ []) → IsSetHere layout M stories p new id st
    set_here id n first shape st laid here same_id node g same_n same_first legs = record {
      same_id = same_id;
      node = node;
      g = g;
      home = laid.home ∙ sym (same_node M (anchor_at p.sec shape) here);
      n = same_n ∙ laid.same_n;
      small = subst (λ (k : ℕ). k < 2 ^ 32) (sym same_first) laid.small;
      named = laid.named;
      legs = legs;
    }

    renew_stays : (m : MasterNode) (id : ℕ) (st : Setup) (o : Option AnchorState) → st.g + 1 ≤ from → IsSetHere layout M stories p new id st
        → IfThere (IsAnchorOf layout stories M id) o → At layout q from stories m
        → Stays (renewed_here m id p.g (Some st) o)
    renew_stays m id st None low set here is = (is, tt)
    renew_stays m id st (Some (waiting_anchor w)) low set here is = (is, tt)
    renew_stays m id st (Some (active_anchor a)) low set here is =
        (put_anchor q from stories m id (Some (active_anchor (renew a st))) (renew_so layout M stories p new id st a set here.steady) (inl low) is, tt)

    freeze_stays : (m : MasterNode) (id : ℕ) (to : Node) (o : Option AnchorState) → IfThere (IsAnchorOf layout stories M id) o → At layout q from stories m
        → Stays (frozen_here m id p.g to o)
    freeze_stays m id to None here is = (is, tt)
    freeze_stays m id to (Some (waiting_anchor w)) here is = (is, tt)
    freeze_stays m id to (Some (active_anchor a)) here is =
        (put_anchor q from stories m id None tt tt is, (here.steady.small, freeze_true layout stories a to p.g true))

    -- the setup of an item at the master
    abbrev setup_here : MasterNode → Item → ℕ → SnLen → ℕ → Shape → ℕ → ℕ → Setup
    setup_here m i id n first shape threshold policy =
        record { node = M; sec = p.sec; g = p.g; id = id; n = n; first = first; alg = m.alg; key = key_octets m.proc.table.book.roots (item_key i); legs = new_legs shape threshold policy }

    part_stays : (m : MasterNode) (id : ℕ) (n : SnLen) (first : ℕ) (shape : Shape) (threshold policy : ℕ) (key : KeyName) (old : Option Node) (part : Part)
        → p.g + 1 ≤ from → IsLaidOut layout p id n first shape
        → (takes_anchor part ≡ true → is_same_node M (anchor_at p.sec shape) ≡ true) → At layout q from stories m
        → Stays (master_part m p (item.Set id n first shape threshold policy key old) part)
    part_stays m id n first shape threshold policy key old establishes low laid takes is =
        let st = setup_here m (item.Set id n first shape threshold policy key old) id n first shape threshold policy in
        let set = set_here id n first shape st laid (takes refl) refl refl refl refl refl (refl, refl) in
        (put_anchor q from stories m id (Some (fresh st)) (fresh_so layout M stories p new id st set) (inl low) is, tt)
    part_stays m id n first shape threshold policy key old renews low laid takes is =
        let st = setup_here m (item.Set id n first shape threshold policy key old) id n first shape threshold policy in
        renew_stays m id st (held id m.anchors) low (set_here id n first shape st laid (takes refl) refl refl refl refl refl (refl, refl)) (is.has.anchors id) is
    part_stays m id n first shape threshold policy key old awaits low laid takes is = (is, tt)
    part_stays m id n first shape threshold policy key old (hands_over to) low laid takes is = freeze_stays m id to (held id m.anchors) (is.has.anchors id) is
    part_stays m id n first shape threshold policy key old drops low laid takes is = (put_anchor q from stories m id None tt tt is, tt)
    part_stays m id n first shape threshold policy key old has_no_anchor low laid takes is = (is, tt)

    host_below : (i : Item) → p.g + 1 ≤ from → IfThere (λ (h : Host). h.g + 1 ≤ from) (host_at M p i)
    host_below (item.Set id n first shape threshold policy key old) low =
        either (IfThere (λ (h : Host). h.g + 1 ≤ from)) (is_host_at p.sec shape M) (Some (new_host M (anchor_at p.sec shape) p.g id n)) None low tt
    host_below (item.Unset id) low = tt

    with_host : (m : MasterNode) (i : Item) → p.g + 1 ≤ from → SetsAsLaidOut layout p i → At layout q from stories m
        → At layout q from stories (with_host_and_window p m i)
    with_host m i low laid is = record {
      has = record {
        anchors = is.has.anchors;
        hosts =
            set_so (λ k y. IsHostOf layout stories M k y) (item_id i) (host_at M p i) m.hosts is.has.hosts_ascend (host_so layout M stories p new i laid) (λ k apart. is.has.hosts k);
        anchors_ascend = is.has.anchors_ascend;
        hosts_ascend = set_ascends (λ k y. IsHostOf layout stories M k y) (item_id i) (host_at M p i) m.hosts is.has.hosts_ascend;
      };
      procs = is.procs;
      young = is.young;
      below = set_so (λ k (y : Host). y.g + 1 ≤ from) (item_id i) (host_at M p i) m.hosts is.has.hosts_ascend (host_below i low) (λ k apart. is.below k);
      unused = is.unused;
    }

    end_true : (id : ℕ) (fresh' old : Node) → AllByRecursion (IsTrueSend layout stories) (line_end p.g id fresh' old).sends
    end_true id y M = tt
    end_true id y T = tt
    end_true id y A = elim (cases_Bool (is_same_node y A)) [ inl yes' ↦ rw yes' tt | inr no' ↦ rw no' (tt, tt) ]
    end_true id y B = elim (cases_Bool (is_same_node y B)) [ inl yes' ↦ rw yes' tt | inr no' ↦ rw no' (tt, tt) ]

    ends_true : (i : Item) → AllByRecursion (IsTrueSend layout stories) (line_ends p.g p.sec i).sends
    ends_true (item.Set id n first shape threshold policy key None) = tt
    ends_true (item.Set id n first shape threshold policy key (Some old)) = end_true id (anchor_at p.sec shape) old
    ends_true (item.Unset id) = tt

    carry_part : (m : MasterNode) (i : Item) → p.g + 1 ≤ from → SetsAsLaidOut layout p i → At layout q from stories m
        → Stays (master_part m p i (part_at M p.sec i))
    carry_part m (item.Set id n first shape threshold policy key old) low laid is =
        part_stays m id n first shape threshold policy key old (set_part M (anchor_at p.sec shape) old) low laid (λ takes. part_home M (anchor_at p.sec shape) old takes) is
    carry_part m (item.Unset id) low laid is = (put_anchor q from stories m id None tt tt is, tt)

    item_stays : (m : MasterNode) (i : Item) → p.g + 1 ≤ from → SetsAsLaidOut layout p i → At layout q from stories m → Stays (carries_item p m i)
    item_stays m i low laid is =
        let k = with_host_and_window p m i in
        let part = carry_part k i low laid (with_host m i low laid is) in
        (part.0, each_append (IsTrueSend layout stories) (line_ends p.g p.sec i).sends (master_part k p i (part_at M p.sec i)).1.sends (ends_true i) part.1)

    pub items_stay : (m : MasterNode) (items : List Item) → p.g + 1 ≤ from → AllByRecursion (SetsAsLaidOut layout p) items → At layout q from stories m
        → Stays (in_turn (carries_item p) m items)
    items_stay m [] low laid is = (is, tt)
    items_stay m (i ∷ items) low laid is =
        let here = item_stays m i low laid.0 is in
        let rest = items_stay (carries_item p m i).0 items low laid.1 here.0 in
        (rest.0, each_append (IsTrueSend layout stories) (carries_item p m i).1.sends (in_turn (carries_item p) (carries_item p m i).0 items).1.sends here.1 rest.1)

    -- a waiting anchor is made
    prepare_part : (m : MasterNode) (i : Item) (part : Part) → (takes_anchor part ≡ true → takes_anchor (part_at M p.sec i) ≡ true) → SetsAsLaidOut layout p i
        → At layout q from stories m → Stays (prepares_part m p i part)
    prepare_part m i establishes takes laid is = (is, tt)
    prepare_part m i renews takes laid is = (is, tt)
    prepare_part m (item.Set id n first shape threshold policy key old) awaits takes laid is =
        let st = setup_here m (item.Set id n first shape threshold policy key old) id n first shape threshold policy in
        let set = set_here id n first shape st laid (part_home M (anchor_at p.sec shape) old (takes refl)) refl refl refl refl refl (refl, refl) in
        (put_anchor q from stories m id (Some (waiting st)) (waiting_so layout M stories p new id st set) (inr refl) is, tt)
    prepare_part m (item.Unset id) awaits takes laid is = (put_anchor q from stories m id None tt tt is, tt)
    prepare_part m i (hands_over to) takes laid is = (is, tt)
    prepare_part m i drops takes laid is = (is, tt)
    prepare_part m i has_no_anchor takes laid is = (is, tt)

    pub prepare_stays : (m : MasterNode) (items : List Item) → AllByRecursion (SetsAsLaidOut layout p) items → At layout q from stories m
        → Stays (in_turn (prepares_item p) m items)
    prepare_stays m [] laid is = (is, tt)
    prepare_stays m (i ∷ items) laid is =
        let here = prepare_part m i (part_at M p.sec i) (λ takes. takes) laid.0 is in
        let rest = prepare_stays (prepares_item p m i).0 items laid.1 here.0 in
        (rest.0, each_append (IsTrueSend layout stories) (prepares_item p m i).1.sends (in_turn (prepares_item p) (prepares_item p m i).0 items).1.sends here.1 rest.1)

  -- ---- acts

  kept_so : {X : Type 0} (P : X → Type 0) (test : X → Bool) (o : Option X) → IfThere P o → IfThere P (kept_by test o)
  kept_so P test None is = tt
  kept_so P test (Some y) is = either (IfThere P) (test y) (Some y) None is tt

  without_so : (q : MasterProc) (from : ℕ) (stories : Stories) (m : MasterNode) → At layout q from stories m → At layout q from stories (without_waiting m)
  without_so q from stories m is =
      let test = λ (s : AnchorState). not (is_waiting s) in
      let same = λ (k : ℕ). held_some test 0 k m.anchors is.has.anchors_ascend in
      record {
        has = record {
          anchors =
              λ k. subst (IfThere (IsAnchorOf layout stories M k)) (sym (same k)) (kept_so (IsAnchorOf layout stories M k) test (held k m.anchors) (is.has.anchors k));
          hosts = is.has.hosts;
          anchors_ascend = ascends_some test 0 m.anchors is.has.anchors_ascend;
          hosts_ascend = is.has.hosts_ascend;
        };
        procs = is.procs;
        young = λ k. subst (IfThere (IsYoung from)) (sym (same k)) (kept_so (IsYoung from) test (held k m.anchors) (is.young k));
        below = is.below;
        unused = is.unused;
      }

  says_goes : (q : MasterProc) (from : ℕ) (stories : Stories) → InOrder layout stories → (m : MasterNode) (n : Note) → At layout q from stories m
      → AtGoes layout q from stories (says m n)
  says_goes q from stories order m n is =
      let k = if is_rejection n then without_waiting m else m in
      stays_goes layout M (At layout q from) stories order k [] (either (At layout q from stories) (is_rejection n) (without_waiting m) m (without_so q from stories m is) is) tt

  unlock_may : (from : ℕ) (c : Choices) → AllMay layout from (unlock c)
  unlock_may from c a steady = record { step = unlock_is c a steady; lacks = λ above lacks. unlock_lacks c a lacks }

  recover_may : (from : ℕ) (c : Choices) → AllMay layout from (recover c)
  recover_may from c a steady = record { step = recover_is c a steady; lacks = λ above lacks. recover_lacks c a lacks }

  fail_may : (from : ℕ) (c : Choices) → AllMay layout from (fail_scg c)
  fail_may from c a steady = record { step = fail_is c a steady; lacks = λ above lacks. fail_lacks c a lacks }

  -- the next generation after an act
  abbrev pub after_act : ℕ → Act → ℕ
  after_act from (go p) = p.g + 1
  after_act from (send to r) = from
  after_act from (prepare p) = from
  after_act from (unlock_all g) = from
  after_act from (say n) = from
  after_act from (recover_one id) = from
  after_act from (fail_one id g) = from
  after_act from (pass st) = from

  -- one act; a status transfer does nothing by itself
  pub act_goes : (q : MasterProc) (from below : ℕ) (stories : Stories) → InOrder layout stories → (c : Choices) (m : MasterNode) (a : Act) (acts : List Act)
      → MayDo layout from (a ∷ acts) below → At layout q from stories m
      → AtGoes layout q (after_act from a) stories (master_act c m a)
  act_goes q from below stories order c m (send to r) acts may is =
      stays_goes layout M (At layout q from) stories order m ((link M to Ctl, flight.Ctl r) ∷ []) is (may.0, tt)
  act_goes q from below stories order c m (prepare p) acts may is =
      let done = in_turn (prepares_item p) m p.items in
      let stays = prepare_stays stories q from p (λ id. is.unused id p.g may.0) m p.items may.1 is in
      stays_goes layout M (At layout q from) stories order done.0 done.1.sends stays.0 stays.1
  act_goes q from below stories order c m (go p) acts may is =
      let done = in_turn (carries_item p) m p.items in
      let first = at_later layout q from (p.g + 1) stories m (omega (arith, may.0)) is in
      let stays = items_stay stories q (p.g + 1) p (λ id. is.unused id p.g may.0) m p.items (omega arith) may.1 first in
      stays_goes layout M (At layout q (p.g + 1)) stories order done.0 done.1.sends stays.0 stays.1
  act_goes q from below stories order c m (unlock_all g) acts may is =
      turns_go layout M (At layout q from) (λ n id. on_anchor_of n g (unlock c) id (held id n.anchors)) (λ later n id right so. of_goes layout q from later right n g (unlock c) id (unlock_may from c) so)
      stories m (identities m.anchors) order is
  act_goes q from below stories order c m (say n) acts may is = says_goes q from stories order m n is
  act_goes q from below stories order c m (recover_one id) acts may is = held_goes layout q from stories order m id (recover c) (recover_may from c) is
  act_goes q from below stories order c m (fail_one id g) acts may is = of_goes layout q from stories order m g (fail_scg c) id (fail_may from c) is
  act_goes q from below stories order c m (pass st) acts may is = at_idle layout q from stories order m is

  -- those after it
  pub rest_may : (from below : ℕ) (a : Act) (acts : List Act) → MayDo layout from (a ∷ acts) below → MayDo layout (after_act from a) acts below
  rest_may from below (send to r) acts may = may.1
  rest_may from below (prepare p) acts may = may.2
  rest_may from below (go p) acts may = may.2
  rest_may from below (unlock_all g) acts may = may
  rest_may from below (say n) acts may = may
  rest_may from below (recover_one id) acts may = may
  rest_may from below (fail_one id g) acts may = may
  rest_may from below (pass st) acts may = may

  pub acts_go : (q : MasterProc) (from below : ℕ) (stories : Stories) → InOrder layout stories → (c : Choices) (m : MasterNode) (acts : List Act)
      → MayDo layout from acts below → At layout q from stories m
      → AtGoes layout q below stories (in_turn (master_act c) m acts)
  acts_go q from below stories order c m [] may is = at_idle layout q below stories order m (at_later layout q from below stories m may is)
  acts_go q from below stories order c m (a ∷ acts) may is =
      let one = master_act c m a in
      let next = after_act from a in
      let first = act_goes q from below stories order c m a acts may is in
      let rest = acts_go q next below first.later (order_then layout M (At layout q next) stories one.0 one.1.sends first) c one.0 acts (rest_may from below a acts may) first.so in
      then_to layout M (At layout q next) (At layout q below) stories one.0 (in_turn (master_act c) one.0 acts).0 one.1.sends (in_turn (master_act c) one.0 acts).1.sends first rest
