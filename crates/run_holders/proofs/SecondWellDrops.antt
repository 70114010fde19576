-- A secondary node takes no record that drops what it has an active anchor of, but one that drops one bearer: then it has no anchor of it
-- after the step, which says nothing of anchors.
use Rattle.std.proofs.Common.{ℕ, ◌≡◌, ◌+◌, ◌==◌, ◌++◌, ◌∙◌, Bool, true, false, List, [], ◌∷◌, Option, Some, None, refl, sym, ap, subst, inl, inr}
use Rattle.std.specs.List.{AllByRecursion, list_any}
use Rattle.std.specs.Option.{option_map}
use Rattle.std.specs.Prelude.{Ok, if◌then◌else◌, nat_lt, not, slice_get, ◌&&◌, ◌||◌, ◌⊎◌}
use Rattle.std.proofs.lemmas.Option.{same_Some}
use Rattle.dc_base.specs.Links.{is_ordered, link}
use Rattle.dc_base.specs.Nodes.{is_secondary}
use Rattle.dc_base.specs.declared.answers.Refusal.TheVariants as refusal
use Rattle.dc_base.specs.declared.events.Event.{Event}
use Rattle.dc_base.specs.declared.events.Event.TheVariants as event
use Rattle.dc_base.specs.declared.events.Line.TheVariants as line
use Rattle.dc_base.specs.declared.flights.Flight.{Flight}
use Rattle.dc_base.specs.declared.flights.Flight.TheVariants as flight
use Rattle.dc_base.specs.declared.nodes.Class.TheVariants.{Ctl}
use Rattle.dc_base.specs.declared.nodes.LinkId.{LinkId}
use Rattle.dc_base.specs.declared.nodes.Node.{Node}
use Rattle.dc_base.specs.declared.nodes.Node.TheVariants.{M}
use Rattle.dc_base.specs.declared.records.Item.{Item}
use Rattle.dc_base.specs.declared.records.Item.TheVariants as item
use Rattle.dc_base.specs.declared.records.Plan.{Plan}
use Rattle.dc_base.specs.declared.records.Rec.{Rec}
use Rattle.dc_base.specs.declared.records.Rec.TheVariants as rec
use Rattle.transcript.proofs.OnEach.{each_at}
use Rattle.node_rules.specs.Choices.{Choices, Send}
use Rattle.node_rules.specs.Effects.{in_turn}
use Rattle.node_rules.specs.Feed.{Fed}
use Rattle.node_rules.specs.Flights.{weight}
use Rattle.node_rules.specs.Held.{held, holding}
use Rattle.node_rules.specs.Lines.{lines_of}
use Rattle.node_rules.specs.Readers.{is_aged_for}
use Rattle.node_rules.specs.Run.{Happening, given_to, happening, node_at, on_links, refused_for, step_of}
use Rattle.node_rules.specs.SecondPlan.{second_act, second_item}
use Rattle.node_rules.specs.SecondRecords.{is_one_drop, modification_asked, modified, second_take}
use Rattle.node_rules.specs.SecondState.{is_joined}
use Rattle.node_rules.specs.SecondStep.{is_fit, is_unfit, second_record, second_record_taken, second_step}
use Rattle.node_rules.specs.Secondary.{SecondNode, within}
use Rattle.node_rules.specs.World.{World, flights_on}
use Rattle.node_rules.specs.declared.acts.Act.{Act}
use Rattle.node_rules.specs.declared.acts.Act.TheVariants.{Go as go, Send as send}
use Rattle.node_rules.specs.declared.commands.Membership.{Membership}
use Rattle.node_rules.specs.declared.commands.Membership.TheVariants.{Joined as joined, Left as left, Outside as outside}
use Rattle.node_rules.specs.declared.inputs.Effects.{Effects}
use Rattle.node_rules.specs.declared.inputs.Input.{Input}
use Rattle.node_rules.specs.declared.inputs.Input.TheVariants.{Cmd, Come}
use Rattle.claims.specs.Links.{find_at}
use Rattle.claims.specs.Past.{Past}
use Rattle.claims.specs.Reading.{unsets}
use Rattle.run_control.proofs.Records.{bare_records}
use Rattle.run_control.proofs.SecondItems.{seen_put}
use Rattle.run_agreed.proofs.PairParts.{none_given}
use Rattle.run_control.proofs.Taken.{GoesRight, HasNone, IsRight, NoneOf, Takes, event_right, event_takes, left_by, records_in, takes_none, takes_one}
use Rattle.run_control.proofs.TalkRuns.{nothing_comes}
use Rattle.run_control.specs.Claims.{second_at}
use Rattle.run_control.specs.Links.{records_on}
use Rattle.run_control.specs.Orders.{Ascends}
use Rattle.run_control.specs.Steps.{record_in, record_on}
use Rattle.run_control.specs.Views.{second_view}
use Rattle.run_pairs.proofs.Pairing.{IsPaired}
use Rattle.run_pairs.proofs.Runs.{LinePaired}
use Rattle.run_senders.proofs.Standing.{AreRight}
use Rattle.run_senders.specs.Kinds.{MayBeOn}
use Rattle.run_uplinks.specs.Uplinks.{AreSettings}
use Rattle.run_words.proofs.Lines.{each_line_of}
use Rattle.run_words.proofs.Standing.{found_standing}
use Rattle.run_words.specs.Standing.{StandsAs}
use Rattle.run_holders.specs.Actives.{Actives, active_of, second_actives}
use Rattle.run_holders.specs.LeftOver.{TakesNone, dropped_in, drops_in}
use Rattle.run_holders.specs.Lines.{IsQuiet}
use Rattle.run_holders.proofs.SecondWellAlways.{AreEstablished}
use Rattle.run_holders.proofs.SecondWellLatest.{KindOfLast, asked_now, drops_one, kind_now, sets_new, sets_olds}

-- ---- what a node takes of a link

abbrev pub input_of : Input → Happening → Input
input_of i (given_to y j) = j
input_of i (refused_for why) = i
input_of i (on_links effects) = i

abbrev is_refused : Happening → Bool
is_refused (given_to y j) = false
is_refused (refused_for why) = true
is_refused (on_links effects) = true

-- it is the flight at the place of the step
came_is : (w : World) (l : LinkId) (n : ℕ) (f : Flight) (x : Node) (i : Input) → step_of w l n (Some f) ≡ given_to x i → i ≡ Come l f
came_is w l n f x i is = by (is_ordered l.class && nat_lt 0 n) (is_aged_for (node_at w l.to) (weight f)) is
  where
    no : {X : Type 0} → refused_for refusal.NotFirst ≡ given_to x i → X
    no e = absurd (let bad : true ≡ false = ap is_refused e in cc)

    no_more : {X : Type 0} → refused_for refusal.Aged ≡ given_to x i → X
    no_more e = absurd (let bad : true ≡ false = ap is_refused e in cc)

    by : (a b : Bool) → (if a then refused_for refusal.NotFirst else if b then refused_for refusal.Aged else given_to l.to (Come l f)) ≡ given_to x i
        → i ≡ Come l f
    by true b e = no e
    by false true e = no_more e
    by false false e = sym (ap (input_of i) e)

-- where that drops none of these, the step takes none of them
takes_by : (p : Past) (w : World) → StandsAs p w → AreRight w → (e : Event) (x : Node) (i : Input) (b : Actives) → happening w e ≡ given_to x i
    → ((l : LinkId) (f : Flight) → i ≡ Come l f → MayBeOn l f → (k g : ℕ) → b k ≡ Some g → list_any (unsets k) (drops_in f) ≡ false) → TakesNone p x b e
takes_by p w stands right (event.Step l n) x i b is none = λ f found k g at.
    let there =
    at_place f found in inr
    (none l f (came_is w l n f x i (sym (ap (step_of w l n) there) ∙ is)) (each_at (MayBeOn l) (flights_on l w.links) n f (right.right l) there) k g at)
  where
    at_place : (f : Flight) → find_at l n p.standing ≡ Some (l, f) → slice_get (flights_on l w.links) n ≡ Some f
    at_place f found = by (slice_get (flights_on l w.links) n) (sym (found_standing p w stands l n) ∙ found)
      where
        by : (o : Option Flight) → option_map {U = LinkId × Flight} (λ (z : Flight). (l, z)) o ≡ Some (l, f) → o ≡ Some f
        by None e = absurd (let bad : None ≡ Some (l, f) = e in cc)
        by (Some z) e = ap (λ (y : LinkId × Flight). Some y.1) (same_Some (l, z) (l, f) e)
takes_by p w stands right e x i b is none = tt

-- ---- what is dropped

no_unsets : (from : ℕ) (items : List Item) (k : ℕ) → AreSettings from items → list_any (unsets k) items ≡ false
no_unsets from [] k olds = refl
no_unsets from (item.Set id n first shape threshold policy key None ∷ items) k olds = absurd olds
no_unsets from (item.Set id n first shape threshold policy key (Some old) ∷ items) k olds = no_unsets (id + 1) items k olds.1
no_unsets from (item.Unset id ∷ items) k olds = absurd olds

-- ---- a node drops one bearer

-- what comes of it
pub record DropsOne (s : SecondNode) (id : ℕ) (done : SecondNode × Effects) : Type 0 where
  pub anchors : done.0.anchors ≡ holding id None s.anchors
  pub silent : done.1.notes ≡ []

and_false : (b : Bool) → (b && false) ≡ false
and_false true = refl
and_false false = refl

drop_done : (c : Choices) (s : SecondNode) (q : Plan) (key : List ℕ) (id : ℕ) → q.items ≡ item.Unset id ∷ [] → s.proc.membership ≡ joined
    → DropsOne s id (second_record c s (rec.Modreq q key) (is_fit s (rec.Modreq q key)))
drop_done c s q key id items member =
    let r = rec.Modreq q key in
    let acts : List Act = send M (rec.Modack q.g) ∷ go q ∷ [] in
    let fit : is_fit s r ≡ true = ap (λ (z : List Item). not (list_any (is_unfit s) z) && true) items in
    let denies : (s.proc.denies && not (is_one_drop q.items)) ≡ false =
    ap (λ (z : List Item). s.proc.denies && not (is_one_drop z)) items ∙ and_false s.proc.denies in
    let took : second_take s.proc r ≡ Ok (s.proc, acts) =
    ap (λ n. modification_asked s.proc q n) member ∙ ap (λ b. Ok (modified s.proc q b)) denies in
    let steps : second_record c s r (is_fit s r) ≡ in_turn (second_act c key) s acts =
    ap (second_record c s r) fit ∙ ap (second_record_taken c key s) took ∙ ap (λ n. in_turn (second_act c key) (within n s) acts) member in
    subst (DropsOne s id) (sym steps)
    (record {
      anchors = ap (λ (z : List Item). (in_turn (second_item key q) s z).0.anchors) items;
      silent = ap (λ (z : List Item). ((in_turn (second_item key q) s z).1.notes ++ [])) items;
    })

-- after it the node has no active anchor that the plan drops
dropped_none : (s : SecondNode) (id : ℕ) (done : SecondNode × Effects) → Ascends s.anchors → DropsOne s id done → (k g : ℕ) → second_actives done.0 k ≡ Some g
    → (id == k) ≡ false
dropped_none s id done up is k g at =
    let same = ap (λ (xs : List (ℕ × Fed)). option_map (λ (z : Fed). z.anchor) (held k xs)) is.anchors in
    let gone = same ∙ seen_put (λ (z : Fed). z.anchor) id k None s.anchors up in
    by (id == k) (sym (ap active_of gone) ∙ at)
  where
    by : (b : Bool) → active_of (if b then option_map (λ (z : Fed). z.anchor) None else option_map (λ (z : Fed). z.anchor) (held k s.anchors)) ≡ Some g
        → b ≡ false
    by true e = absurd (let bad : None ≡ Some g = e in cc)
    by false e = refl

is_joined_there : (m : Membership) → is_joined m ≡ true → m ≡ joined
is_joined_there joined e = refl
is_joined_there outside e = absurd (let bad : false ≡ true = e in cc)
is_joined_there left e = absurd (let bad : false ≡ true = e in cc)

-- ---- an input of a secondary node

-- a record that is no request to modify drops nothing
none_of : (r : Rec) → ((q : Plan) (key : List ℕ) → r ≡ rec.Modreq q key → (k : ℕ) → list_any (unsets k) q.items ≡ false) → (k : ℕ)
    → list_any (unsets k) (dropped_in r) ≡ false
none_of (rec.Modreq q key) so k = so q key refl k
none_of r so k = refl

abbrev flight_or : Flight → Input → Flight
flight_or f (Cmd e) = f
flight_or f (Come l g) = g

sends_quiet : (ss : List Send) → AllByRecursion (λ (s : Send). IsQuiet (line.Send s.0 s.1)) ss
sends_quiet [] = tt
sends_quiet (s ∷ ss) = (tt, sends_quiet ss)

module _ (c : Choices) (p : Past) (w : World) (is : AreEstablished p w) (x : Node) (second : is_secondary x ≡ true) (pair : LinePaired w x)
    (up : Ascends (second_at x w).anchors) (e : Event) (i : Input) (at : happening w e ≡ given_to x i) where
  -- from the link of the master nothing comes that is no record of it
  pub none_comes : NoneOf (link M x Ctl) i → (r : Rec) → record_in i ≡ Some r → ⊥
  none_comes none r came =
      none_given x i r second (λ l no. subst (HasNone l) at (nothing_comes c w e l no (is.relays.holds.agreed.kept.silent l no))) none
      (λ k f same. subst (λ j. GoesRight j x) same (subst IsRight at (event_right w e))) came

  pub takes_of : Takes (link M x Ctl) (given_to x i) (records_on M x w) (records_in (left_by c w (link M x Ctl) refl e (happening w e)))
  takes_of =
      subst (λ h. Takes (link M x Ctl) h (records_on M x w) (records_in (left_by c w (link M x Ctl) refl e (happening w e)))) at
      (event_takes c w (link M x Ctl) refl e)

  -- nothing is dropped
  leaves_all : (b : Actives) (r : Rec) → i ≡ Come (link M x Ctl) (flight.Ctl r) → ((k g : ℕ) → b k ≡ Some g → list_any (unsets k) (dropped_in r) ≡ false)
      → TakesNone p x b e
  leaves_all b r same none =
      takes_by p w is.relays.holds.stands is.relays.right e x i b at
      (λ l f came may k g active. subst (λ z. list_any (unsets k) (drops_in z) ≡ false) (sym (ap (flight_or f) (sym came ∙ same))) (none k g active))

  -- what is to hold
  abbrev TakesWell : Input → Type 0
  TakesWell j =
      TakesNone p x (second_actives (second_at x w)) e
      ⊎ (TakesNone p x (second_actives (second_step c (second_at x w) j).0) e × AllByRecursion IsQuiet (lines_of (second_step c (second_at x w) j).1))

  -- the one bearer of a plan is dropped
  drops_well : (q : Plan) (key : List ℕ) (id : ℕ) (rest : List Rec) → q.items ≡ item.Unset id ∷ [] → i ≡ Come (link M x Ctl) (flight.Ctl (rec.Modreq q key))
      → records_on M x w ≡ rec.Modreq q key ∷ rest → TakesWell i
  drops_well q key id rest items same first =
      let s = second_at x w in
      let r = rec.Modreq q key in
      let up' = bare_records (records_on x M w) in
      let pair' = subst (λ rs. IsPaired x w.master.proc s.proc.membership s.proc.want (second_view s) (bare_records rs) up') first pair in
      let member = is_joined_there s.proc.membership pair'.pair.reads.0 in
      let done = drop_done c s q key id items member in
      let o = (second_step c s (Come (link M x Ctl) (flight.Ctl r))).1 in
      let quiet : AllByRecursion IsQuiet (lines_of o) =
      each_line_of IsQuiet o (subst (AllByRecursion (λ n. IsQuiet (line.Note n))) (sym done.silent) tt) (sends_quiet o.sends) in
      subst TakesWell (sym same)
      (inr (
        leaves_all (second_actives (second_step c s (Come (link M x Ctl) (flight.Ctl r))).0) r same
            (λ k g active.
            ap (λ (z : List Item). list_any (unsets k) z) items
            ∙ ap (λ b. b || false) (dropped_none s id (second_record c s r (is_fit s r)) up done k g active)),
        quiet,
      ))

  record_well : (r : Rec) (rest : List Rec) → i ≡ Come (link M x Ctl) (flight.Ctl r) → records_on M x w ≡ r ∷ rest → TakesWell i
  record_well (rec.Modreq q key) rest same first =
      by (kind_now p w is x (bare_records (records_on x M w)) q (asked_now x w (rec.Modreq q key) q rest pair first refl refl))
    where
      by : KindOfLast p q → TakesWell i
      by (sets_olds olds) = inl (leaves_all (second_actives (second_at x w)) (rec.Modreq q key) same (λ k g active. no_unsets 0 q.items k olds))
      by (sets_new id n f shape threshold policy name items latest) =
          inl (leaves_all (second_actives (second_at x w)) (rec.Modreq q key) same (λ k g active. ap (λ (z : List Item). list_any (unsets k) z) items))
      by (drops_one id items) = drops_well q key id rest items same first
  record_well r rest same first = inl (leaves_all (second_actives (second_at x w)) r same (λ k g active. refl))

  other_none : (l : LinkId) (f : Flight) → i ≡ Come l f → MayBeOn l f → NoneOf (link M x Ctl) i → (k : ℕ) → list_any (unsets k) (drops_in f) ≡ false
  other_none l (flight.Ctl (rec.Modreq q key)) same may none k =
      absurd (none_comes none (rec.Modreq q key) (ap record_in same ∙ ap (λ z. record_on z (flight.Ctl (rec.Modreq q key))) may.class))
  other_none l f same may none k = refl

  pub takes_well : TakesWell i
  takes_well = by takes_of
    where
      by : Takes (link M x Ctl) (given_to x i) (records_on M x w) (records_in (left_by c w (link M x Ctl) refl e (happening w e))) → TakesWell i
      by (takes_one r first is') = record_well r (records_in (left_by c w (link M x Ctl) refl e (happening w e))) (ap (input_of i) is') first
      by (takes_none same none) =
          inl
          (takes_by p w is.relays.holds.stands is.relays.right e x i (second_actives (second_at x w)) at
          (λ l f came may k g active. other_none l f came may none k))
