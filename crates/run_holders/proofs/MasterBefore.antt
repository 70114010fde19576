-- What an event does by itself, before the lines of the master, leaves held what each node holds; what is left to say of its steps.
use Rattle.std.proofs.Common.{◌≡◌, ◌∙◌, true, false, Option, Some, None, ℕ, refl, sym, ap, subst, inl, inr}
use Rattle.std.specs.List.{AllByRecursion, list_any}
use Rattle.std.specs.Option.{option_map}
use Rattle.std.specs.Prelude.{slice_get, ◌⊎◌}
use Rattle.dc_base.specs.Nodes.{is_same_node, is_secondary}
use Rattle.dc_base.specs.declared.events.Event.{Event}
use Rattle.dc_base.specs.declared.events.Event.TheVariants as event
use Rattle.dc_base.specs.declared.flights.Flight.{Flight}
use Rattle.dc_base.specs.declared.flights.Flight.TheVariants as flight
use Rattle.dc_base.specs.declared.nodes.LinkId.{LinkId}
use Rattle.dc_base.specs.declared.nodes.Node.{Node}
use Rattle.dc_base.specs.declared.nodes.Node.TheVariants.{A, B, M, T}
use Rattle.dc_base.specs.declared.records.Rec.TheVariants as rec
use Rattle.transcript.proofs.OnEach.{each_at}
use Rattle.node_rules.specs.Choices.{Choices}
use Rattle.node_rules.specs.Lines.{lines_of}
use Rattle.node_rules.specs.MasterStep.{master_step}
use Rattle.node_rules.specs.Run.{Happening, carried_on, given_to, happening, on_links, refused_for}
use Rattle.node_rules.specs.World.{World, flights_on}
use Rattle.node_rules.specs.declared.inputs.Input.{Input}
use Rattle.claims.specs.Judged.{judged}
use Rattle.claims.specs.Links.{find_at}
use Rattle.claims.specs.Past.{Past}
use Rattle.claims.specs.Reading.{unsets}
use Rattle.run_places.proofs.Runs.{IsWhole}
use Rattle.run_words.specs.Standing.{StandsAs}
use Rattle.run_words.proofs.Standing.{found_standing}
use Rattle.run_holders.specs.Actives.{Actives}
use Rattle.run_holders.specs.Fitting.{AllSuit, HoldsAll, IsApart}
use Rattle.run_holders.specs.Requests.{AskSecond, AsksSecond}
use Rattle.run_holders.specs.Suited.{IsSuited, actives_at}
use Rattle.run_holders.proofs.BearerBefore.{bearer_before}
use Rattle.run_holders.specs.LeftOver.{TakesNone, drops_in}
use Rattle.run_holders.proofs.JudgedHolds.{SetsUpNone, judged_holds}
use Rattle.run_holders.proofs.OneNode.{master_marks}
use Rattle.run_holders.proofs.Runs.{Stands}
use Rattle.run_holders.proofs.TerminalSuited.{taker, takes_apart}

-- ---- the master takes no request to modify

-- of a flight for the master nothing is dropped
drops_none : (l : LinkId) (f : Flight) (k : ℕ) → is_secondary l.to ≡ false → AsksSecond l f → list_any (unsets k) (drops_in f) ≡ false
drops_none l (flight.Ctl (rec.Modreq q key)) k other asks = absurd (let bad : true ≡ false = sym asks ∙ other in cc)
drops_none l f k other asks = refl

same_some : (x y : LinkId × Flight) → Some x ≡ Some y → x ≡ y
same_some x y is = ap or_else is
  where
    or_else : Option (LinkId × Flight) → LinkId × Flight
    or_else None = x
    or_else (Some z) = z

never : (x : LinkId × Flight) → None ≡ Some x → ⊥
never x is = absurd (let bad : None ≡ Some x = is in cc)

module _ (p : Past) (w : World) (stands : StandsAs p w) (asks : AskSecond w) where
  found_asks : (l : LinkId) (i : ℕ) (f : Flight) → find_at l i p.standing ≡ Some (l, f) → AsksSecond l f
  found_asks l i f found = by (slice_get (flights_on l w.links) i) refl (sym (found_standing p w stands l i) ∙ found)
    where
      by : (o : Option Flight) → slice_get (flights_on l w.links) i ≡ o → option_map {U = LinkId × Flight} (λ (g : Flight). (l, g)) o ≡ Some (l, f) → AsksSecond l f
      by None at is = absurd (never (l, f) is)
      by (Some g) at is = subst (AsksSecond l) (ap (λ (z : LinkId × Flight). z.1) (same_some (l, g) (l, f) is)) (each_at (AsksSecond l) (flights_on l w.links) i g (asks l) at)

  step_none : (l : LinkId) (f : Flight) (k : ℕ) → AsksSecond l f → (is_same_node l.to M ≡ false) ⊎ (list_any (unsets k) (drops_in f) ≡ false)
  step_none l f k is = by l.to refl
    where
      by : (x : Node) → l.to ≡ x → (is_same_node l.to M ≡ false) ⊎ (list_any (unsets k) (drops_in f) ≡ false)
      by M at = inr (drops_none l f k (ap is_secondary at) is)
      by T at = inl (ap (λ z. is_same_node z M) at)
      by A at = inl (ap (λ z. is_same_node z M) at)
      by B at = inl (ap (λ z. is_same_node z M) at)

  pub takes_none_master : (e : Event) (b : Actives) → TakesNone p M b e
  takes_none_master (event.Step l i) b = λ f found k g at. step_none l f k (found_asks l i f found)
  takes_none_master (event.Bearer id n first shape threshold policy) b = tt
  takes_none_master (event.Reshape id shape) b = tt
  takes_none_master (event.Remove id) b = tt
  takes_none_master (event.Add node) b = tt
  takes_none_master event.Change b = tt
  takes_none_master event.Release b = tt
  takes_none_master event.RekeySecond b = tt
  takes_none_master (event.RekeyMaster octets) b = tt
  takes_none_master (event.Recover id) b = tt
  takes_none_master (event.Submit id d sdu) b = tt
  takes_none_master (event.Report node id) b = tt
  takes_none_master (event.Deny node denies) b = tt
  takes_none_master (event.Ask node what) b = tt
  takes_none_master event.ScgFail b = tt
  takes_none_master (event.Lose l i) b = tt
  takes_none_master (event.Again l i) b = tt

-- ---- before its lines

-- the input of what happens
abbrev input_of : Input → Happening → Input
input_of i (given_to x j) = j
input_of i (refused_for why) = i
input_of i (on_links effects) = i

module _ (c : Choices) (p : Past) (w : World) (stands : StandsAs p w) (asks : AskSecond w) (whole : IsWhole w) where
  takes_none : (e : Event) (i : Input) → happening w e ≡ given_to M i → (y : Node) (b : Actives) → TakesNone p y b e
  takes_none e i is M b = takes_none_master p w stands asks e b
  takes_none e i is T b = takes_apart p w e M T b (ap taker is) refl
  takes_none e i is A b = takes_apart p w e M A b (ap taker is) refl
  takes_none e i is B b = takes_apart p w e M B b (ap taker is) refl

  none_set : (e : Event) (i : Input) → happening w e ≡ given_to M i → (y : Node) → SetsUpNone (actives_at y w) e → HoldsAll p y (actives_at y w) → HoldsAll (judged e (master_step c w.master i).1.answer p) y (actives_at y w)
  none_set e i is y none holds = judged_holds p e (master_step c w.master i).1.answer y (actives_at y w) none (takes_none e i is y (actives_at y w)) holds

  -- what each node holds it holds still
  pub master_before : (e : Event) (i : Input) → happening w e ≡ given_to M i → (y : Node) → HoldsAll p y (actives_at y w) → HoldsAll (judged e (master_step c w.master i).1.answer p) y (actives_at y w)
  master_before (event.Bearer id n first shape threshold policy) i is y holds =
      let e = event.Bearer id n first shape threshold policy in
      subst (λ j. HoldsAll (judged e (master_step c w.master j).1.answer p) y (actives_at y w)) (ap (input_of i) is) (bearer_before c p w whole id n first shape threshold policy y holds)
  master_before (event.Step l k) i is y holds = none_set (event.Step l k) i is y tt holds
  master_before (event.Reshape id shape) i is y holds = none_set (event.Reshape id shape) i is y tt holds
  master_before (event.Remove id) i is y holds = none_set (event.Remove id) i is y tt holds
  master_before (event.Add node) i is y holds = none_set (event.Add node) i is y tt holds
  master_before event.Change i is y holds = none_set event.Change i is y tt holds
  master_before event.Release i is y holds = none_set event.Release i is y tt holds
  master_before event.RekeySecond i is y holds = none_set event.RekeySecond i is y tt holds
  master_before (event.RekeyMaster octets) i is y holds = none_set (event.RekeyMaster octets) i is y tt holds
  master_before (event.Recover id) i is y holds = none_set (event.Recover id) i is y tt holds
  master_before (event.Submit id d sdu) i is y holds = none_set (event.Submit id d sdu) i is y tt holds
  master_before (event.Report node id) i is y holds = none_set (event.Report node id) i is y tt holds
  master_before (event.Deny node denies) i is y holds = none_set (event.Deny node denies) i is y tt holds
  master_before (event.Ask node what) i is y holds = none_set (event.Ask node what) i is y tt holds
  master_before event.ScgFail i is y holds = none_set event.ScgFail i is y tt holds
  master_before (event.Lose l k) i is y holds = none_set (event.Lose l k) i is y tt holds
  master_before (event.Again l k) i is y holds = none_set (event.Again l k) i is y tt holds

-- ---- its steps

module _ (c : Choices) (p : Past) (w : World) (e : Event) (i : Input) (s : Stands p w) (asks : AskSecond w) (whole : IsWhole w) where
  -- a step of the master suits the past, where its lines suit the past and say of no other node's active anchor that it became active
  pub suited_master : happening w e ≡ given_to M i
      → AllSuit (judged e (carried_on c w (given_to M i)).1.answer p) (actives_at M w) (lines_of (carried_on c w (given_to M i)).1)
      → ((y : Node) → is_same_node M y ≡ false → AllByRecursion (IsApart (actives_at y w)) (lines_of (carried_on c w (given_to M i)).1))
      → IsSuited p w e M (carried_on c w (given_to M i)).1 (carried_on c w (given_to M i)).0
  suited_master is suit apart =
      let marks = master_marks c w.master i s.ordered.master in
      record {
        start = actives_at M w;
        begins = λ holds. master_before c p w s.holds.stands asks whole e i is M holds;
        fit = marks.fit;
        suit = suit;
        ends = marks.after;
        others = λ y other holds. master_before c p w s.holds.stands asks whole e i is y holds;
        apart = apart;
      }
