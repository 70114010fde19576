-- An event adds to the stories, and all nodes and links stay as they say.
use Rattle.std.proofs.Common.{◌≡◌, ℕ, true, false, List, [], ◌∷◌, Option, Some, None, refl, sym, ◌∙◌, subst, inl, inr}
use Rattle.std.specs.Prelude.{if◌then◌else◌, nat_lt, slice_get, ⊤, ◌&&◌}
use Rattle.std.specs.List.{AllByRecursion, flat_map}
use Rattle.std.proofs.lemmas.Bool.{cases_Bool}
use Rattle.dc_base.specs.Links.{is_ordered, is_same_link, is_tunnel}
use Rattle.dc_base.specs.Nodes.{is_same_node}
use Rattle.dc_base.specs.declared.answers.Refusal.TheVariants as refusal
use Rattle.dc_base.specs.declared.events.Event.{Event}
use Rattle.dc_base.specs.declared.events.Event.TheVariants as event
use Rattle.dc_base.specs.declared.events.Line.{Line}
use Rattle.dc_base.specs.declared.events.Line.TheVariants as line
use Rattle.dc_base.specs.declared.flights.Flight.{Flight}
use Rattle.dc_base.specs.declared.nodes.LinkId.{LinkId}
use Rattle.dc_base.specs.declared.nodes.Node.{Node}
use Rattle.dc_base.specs.declared.nodes.Node.TheVariants.{A, B, M, T}
use Rattle.transcript.specs.Content.{on_link, place_taken, put_on, without_taken}
use Rattle.transcript.specs.Transcript.{sends}
use Rattle.transcript.proofs.OnEach.{each_append, each_at, each_remove}
use Rattle.master_runs.proofs.Contents.{flights_next, long_next}
use Rattle.master_runs.proofs.Moving.{same_link}
use Rattle.node_rules.specs.Choices.{Choices}
use Rattle.node_rules.specs.Effects.{sent}
use Rattle.node_rules.specs.Feed.{Fed}
use Rattle.node_rules.specs.Flights.{weight}
use Rattle.node_rules.specs.Held.{held}
use Rattle.node_rules.specs.Lines.{lines_of}
use Rattle.node_rules.specs.Master.{MasterNode}
use Rattle.node_rules.specs.Readers.{is_aged_for}
use Rattle.node_rules.specs.Run.{Happening, carried_on, copy_of, given_to, happening, loss_of, node_at, on_links, refused_for, step_of, world_after, world_step}
use Rattle.node_rules.specs.Secondary.{SecondNode}
use Rattle.node_rules.specs.Terminal.{TerminalNode}
use Rattle.node_rules.specs.World.{World, flights_on}
use Rattle.node_rules.specs.declared.inputs.Input.{Input}
use Rattle.node_rules.specs.declared.inputs.Input.TheVariants.{Cmd, Come}
use Rattle.node_rules.specs.declared.inputs.Outcome.{Outcome}
use Rattle.run_control.proofs.Sent.{either}
use Rattle.run_pairs.proofs.Replies.{same_node}
use Rattle.run_senders.proofs.Lines.{any_notes}
use Rattle.run_words.proofs.Lines.{each_line_of}
use Rattle.run_confirmed.specs.Flights.{IsTrue, IsTrueSend}
use Rattle.run_confirmed.specs.Masters.{IsMasterNow}
use Rattle.run_confirmed.specs.Nodes.{IsAnchorOf, IsHalfOf, IsHostOf, IsSecondOf, IsTerminalOf}
use Rattle.run_confirmed.specs.Stories.{AreBy, IsInOrder, IsUnused, Layout, Stories}
use Rattle.run_confirmed.specs.Worlds.{AreNodesOf, HappensRight, IsWorldOf}
use Rattle.run_confirmed.proofs.Growing.{anchor_else, host_else, none_by, trues_later}
use Rattle.run_confirmed.proofs.Held.{if_there}
use Rattle.run_confirmed.proofs.MasterSteps.{master_goes}
use Rattle.run_confirmed.proofs.MasterSteps as masters
use Rattle.run_confirmed.proofs.SecondSteps.{second_goes}
use Rattle.run_confirmed.proofs.SecondSteps as seconds
use Rattle.run_confirmed.proofs.Terminals.{terminal_goes}
use Rattle.run_confirmed.proofs.Terminals as terminals

-- ---- other nodes

module _ (layout : Layout) (x : Node) (a b : Stories) (by : AreBy layout x a b) where
  pub second_else : (y : Node) (s : SecondNode) → is_same_node x y ≡ false → IsSecondOf layout y a s → IsSecondOf layout y b s
  second_else y s apart is = record {
    name = is.name;
    anchors =
        λ id. if_there (λ (f : Fed). IsAnchorOf layout a y id f.anchor) (λ (f : Fed). IsAnchorOf layout b y id f.anchor) (λ f was. anchor_else layout x a b by y id f.anchor apart was) (held id s.anchors) (is.anchors id);
    hosts =
        λ id. if_there (IsHostOf layout a y id) (IsHostOf layout b y id) (λ h was. host_else layout x a b by y id h apart was) (held id s.hosts) (is.hosts id);
    anchors_ascend = is.anchors_ascend;
    hosts_ascend = is.hosts_ascend;
  }

  away : (y z : Node) → is_same_node x y ≡ false → is_same_node y z ≡ true → is_same_node x z ≡ false
  away y z apart here = subst (λ k. is_same_node x k ≡ false) (same_node y z here) apart

  unused_else : (id g : ℕ) → is_same_node x M ≡ false → IsUnused layout M id g (a id g) → IsUnused layout M id g (b id g)
  unused_else id g apart is = record {
    own = λ here. (by id g).own (away M (layout.home id g) apart here) ∙ is.own here;
    tunnel = λ here. (by id g).tunnel (away M (layout.home id g) apart here) ∙ is.tunnel here;
    far = λ here. (by id g).far (away M (layout.host id g) apart here) ∙ is.far here;
    rx = λ here. absurd (let bad : false ≡ true = here in cc);
  }

  pub master_else : (m : MasterNode) → is_same_node x M ≡ false → IsMasterNow layout a m → IsMasterNow layout b m
  master_else m apart is = record {
    has = record {
      anchors =
          λ id. if_there (IsAnchorOf layout a M id) (IsAnchorOf layout b M id) (λ s was. anchor_else layout x a b by M id s apart was) (held id m.anchors) (is.has.anchors id);
      hosts =
          λ id. if_there (IsHostOf layout a M id) (IsHostOf layout b M id) (λ h was. host_else layout x a b by M id h apart was) (held id m.hosts) (is.has.hosts id);
      anchors_ascend = is.has.anchors_ascend;
      hosts_ascend = is.has.hosts_ascend;
    };
    procs = is.procs;
    young = is.young;
    below = is.below;
    unused = λ id g le. unused_else id g apart (is.unused id g le);
  }

  pub terminal_else : (t : TerminalNode) → is_same_node x T ≡ false → IsTerminalOf layout a t → IsTerminalOf layout b t
  terminal_else t apart is = record {
    halves =
        λ id. if_there (IsHalfOf layout a id) (IsHalfOf layout b id) (λ h was. record { same_id = was.same_id; n = was.n; rx = (by id h.setup.g).rx apart ∙ was.rx }) (held id t.halves) (is.halves id);
    ascend = is.ascend;
  }

-- ---- what happens

module _ (layout : Layout) (c : Choices) where
  -- what is taken or copied stands on its link, and is so
  abbrev pub HappensTrue : Stories → Happening → Type 0
  HappensTrue stories (given_to x (Come l f)) = IsTrue layout stories l f
  HappensTrue stories (given_to x (Cmd e)) = ⊤
  HappensTrue stories (refused_for why) = ⊤
  HappensTrue stories (on_links effects) = AllByRecursion (IsTrueSend layout stories) effects.sends

  module _ (stories : Stories) (w : World) (flights : (l : LinkId) → AllByRecursion (IsTrue layout stories l) (flights_on l w.links)) where
    step_true : (l : LinkId) (i : ℕ) (o : Option Flight) → slice_get (flights_on l w.links) i ≡ o → HappensTrue stories (step_of w l i o)
    step_true l i None at = tt
    step_true l i (Some f) at =
        either (HappensTrue stories) (is_ordered l.class && nat_lt 0 i) (refused_for refusal.NotFirst) (if is_aged_for (node_at w l.to) (weight f) then refused_for refusal.Aged else given_to l.to (Come l f)) tt
        (either (HappensTrue stories) (is_aged_for (node_at w l.to) (weight f)) (refused_for refusal.Aged) (given_to l.to (Come l f)) tt (each_at (IsTrue layout stories l) (flights_on l w.links) i f (flights l) at))

    copy_true : (l : LinkId) (i : ℕ) (o : Option Flight) → slice_get (flights_on l w.links) i ≡ o → HappensTrue stories (copy_of l o)
    copy_true l i None at = tt
    copy_true l i (Some f) at = (each_at (IsTrue layout stories l) (flights_on l w.links) i f (flights l) at, tt)

    loss_true : (o : Option Flight) → HappensTrue stories (loss_of o)
    loss_true None = tt
    loss_true (Some f) = tt

    pub happens_true : (e : Event) → HappensTrue stories (happening w e)
    happens_true (event.Step l i) = step_true l i (slice_get (flights_on l w.links) i) refl
    happens_true (event.Lose l i) =
        either (HappensTrue stories) (is_tunnel l.class) (loss_of (slice_get (flights_on l w.links) i)) (refused_for refusal.NotTunnel) (loss_true (slice_get (flights_on l w.links) i)) tt
    happens_true (event.Again l i) =
        either (HappensTrue stories) (is_tunnel l.class) (copy_of l (slice_get (flights_on l w.links) i)) (refused_for refusal.NotTunnel) (copy_true l i (slice_get (flights_on l w.links) i) refl) tt
    happens_true (event.Bearer id n first shape threshold policy) = tt
    happens_true (event.Reshape id shape) = tt
    happens_true (event.Remove id) = tt
    happens_true (event.Add node) = tt
    happens_true event.Change = tt
    happens_true event.Release = tt
    happens_true event.RekeySecond = tt
    happens_true (event.RekeyMaster root) = tt
    happens_true (event.Recover id) = tt
    happens_true (event.Report node id) = tt
    happens_true (event.Deny node on) = tt
    happens_true (event.Ask node what) = tt
    happens_true event.ScgFail = tt
    happens_true (event.Submit id d payload) = tt

  -- the nodes after it, and what is sent
  pub record Carries (stories : Stories) (done : World × Outcome) : Type 0 where
    pub later : Stories
    pub node : Node
    pub by : AreBy layout node stories later
    pub nodes : AreNodesOf layout later done.0
    pub sends : AllByRecursion (IsTrueSend layout later) done.1.sends

  pub terminal_right : (stories : Stories) (w : World) (i : Input) → HappensRight layout c stories w (given_to T i) → HappensTrue stories (given_to T i)
      → terminals.InputIsRight layout stories w.terminal i
  terminal_right stories w (Cmd e) right true' = tt
  terminal_right stories w (Come l f) right true' =
      record { from = right.from; true' = true'; reads = right.reads; infers = right.infers refl; fits = right.fits }

  pub master_right : (stories : Stories) (w : World) (i : Input) → HappensRight layout c stories w (given_to M i) → HappensTrue stories (given_to M i)
      → masters.InputIsRight layout c stories w.master i
  master_right stories w (Cmd e) right true' = right
  master_right stories w (Come l f) right true' =
      record { from = right.from; to = right.to; true' = true'; reads = right.reads; adopts = right.procs.0; controls = right.procs.1 }

  pub a_right : (stories : Stories) (w : World) (i : Input) → HappensRight layout c stories w (given_to A i) → HappensTrue stories (given_to A i)
      → seconds.InputIsRight layout A refl stories i
  a_right stories w (Cmd e) right true' = tt
  a_right stories w (Come l f) right true' = record { from = right.from; to = right.to; true' = true'; reads = right.reads; fits = right.fits }

  pub b_right : (stories : Stories) (w : World) (i : Input) → HappensRight layout c stories w (given_to B i) → HappensTrue stories (given_to B i)
      → seconds.InputIsRight layout B refl stories i
  b_right stories w (Cmd e) right true' = tt
  b_right stories w (Come l f) right true' = record { from = right.from; to = right.to; true' = true'; reads = right.reads; fits = right.fits }

  carries : (stories : Stories) (w : World) (what : Happening) → ((id g : ℕ) → IsInOrder (stories id g)) → AreNodesOf layout stories w
      → HappensRight layout c stories w what → HappensTrue stories what
      → Carries stories (carried_on c w what)
  carries stories w (given_to T i) order is right true' =
      let g = terminal_goes layout stories order c w.terminal i (terminal_right stories w i right true') is.terminal in
      let by = g.by in
      record {
        later = g.later;
        node = T;
        by = by;
        nodes =
            record { terminal = g.so; master = master_else layout T stories g.later by w.master refl is.master; a = second_else layout T stories g.later by A w.a refl is.a; b = second_else layout T stories g.later by B w.b refl is.b };
        sends = g.sends;
      }
  carries stories w (given_to M i) order is right true' =
      let g = master_goes layout c stories order w.master i (master_right stories w i right true') is.master in
      let by = g.by in
      record {
        later = g.later;
        node = M;
        by = by;
        nodes =
            record { terminal = terminal_else layout M stories g.later by w.terminal refl is.terminal; master = g.so; a = second_else layout M stories g.later by A w.a refl is.a; b = second_else layout M stories g.later by B w.b refl is.b };
        sends = g.sends;
      }
  carries stories w (given_to A i) order is right true' =
      let g = second_goes layout A refl stories order c w.a i (a_right stories w i right true') is.a in
      let by = g.by in
      record {
        later = g.later;
        node = A;
        by = by;
        nodes =
            record { terminal = terminal_else layout A stories g.later by w.terminal refl is.terminal; master = master_else layout A stories g.later by w.master refl is.master; a = g.so; b = second_else layout A stories g.later by B w.b refl is.b };
        sends = g.sends;
      }
  carries stories w (given_to B i) order is right true' =
      let g = second_goes layout B refl stories order c w.b i (b_right stories w i right true') is.b in
      let by = g.by in
      record {
        later = g.later;
        node = B;
        by = by;
        nodes =
            record { terminal = terminal_else layout B stories g.later by w.terminal refl is.terminal; master = master_else layout B stories g.later by w.master refl is.master; a = second_else layout B stories g.later by A w.a refl is.a; b = g.so };
        sends = g.sends;
      }
  carries stories w (refused_for why) order is right true' = record { later = stories; node = T; by = none_by layout T stories order; nodes = is; sends = tt }
  carries stories w (on_links effects) order is right true' =
      record { later = stories; node = T; by = none_by layout T stories order; nodes = is; sends = true' }

  -- ---- the links after it

  abbrev LineTrue : Stories → Line → Type 0
  LineTrue stories (line.Send l f) = IsTrue layout stories l f
  LineTrue stories (line.Note n) = ⊤
  LineTrue stories (line.Event e) = ⊤
  LineTrue stories (line.Answer a) = ⊤

  lines_true : (stories : Stories) (o : Outcome) → AllByRecursion (IsTrueSend layout stories) o.sends → AllByRecursion (LineTrue stories) (lines_of o)
  lines_true stories o sent = each_line_of (LineTrue stories) o (any_notes o.notes) sent

  sends_true : (stories : Stories) (xs : List Line) → AllByRecursion (LineTrue stories) xs
      → AllByRecursion (λ (s : LinkId × Flight). IsTrue layout stories s.0 s.1) (sends xs)
  sends_true stories [] all = tt
  sends_true stories (line.Send l f ∷ xs) all = (all.0, sends_true stories xs all.1)
  sends_true stories (line.Note n ∷ xs) all = sends_true stories xs all.1
  sends_true stories (line.Event e ∷ xs) all = sends_true stories xs all.1
  sends_true stories (line.Answer a ∷ xs) all = sends_true stories xs all.1

  puts_true : (stories : Stories) (l : LinkId) (ss : List (LinkId × Flight)) → AllByRecursion (λ (s : LinkId × Flight). IsTrue layout stories s.0 s.1) ss
      → AllByRecursion (IsTrue layout stories l) (flat_map (on_link l) ss)
  puts_true stories l [] all = tt
  puts_true stories l (s ∷ ss) all =
      elim (cases_Bool (is_same_link l s.0)) [
        | inl here ↦ rw here (subst (λ k. IsTrue layout stories k s.1) (sym (same_link l s.0 here)) all.0, puts_true stories l ss all.1)
        | inr there ↦ rw there (puts_true stories l ss all.1)
      ]

  left_true : (stories : Stories) (l : LinkId) (place : Option (LinkId × ℕ)) (fs : List Flight) → AllByRecursion (IsTrue layout stories l) fs
      → AllByRecursion (IsTrue layout stories l) (without_taken l place fs)
  left_true stories l None fs all = all
  left_true stories l (Some place) fs all =
      elim (cases_Bool (is_same_link l place.0)) [ inl here ↦ rw here (each_remove (IsTrue layout stories l) fs place.1 all) | inr there ↦ rw there all ]

  -- ---- an event

  -- the world after it, with the later stories
  pub record EventGoes (stories : Stories) (w : World) : Type 0 where
    pub later : Stories
    pub node : Node
    pub by : AreBy layout node stories later
    pub so : IsWorldOf layout later w

  same_nodes : (stories : Stories) (e : Event) (w : World) → AreNodesOf layout stories (carried_on c w (happening w e)).0
      → AreNodesOf layout stories (world_step c w e).0
  same_nodes stories e w is = record { terminal = is.terminal; master = is.master; a = is.a; b = is.b }

  -- by the stories after it
  pub world_so : (stories : Stories) (w : World) (e : Event) → IsWorldOf layout stories w → (later : Stories) (node : Node) → AreBy layout node stories later
      → AreNodesOf layout later (carried_on c w (happening w e)).0 → AllByRecursion (IsTrueSend layout later) (carried_on c w (happening w e)).1.sends
      → IsWorldOf layout later (world_step c w e).0
  world_so stories w e is later node by nodes sent =
      let x = (world_step c w e).1 in
      let grows = λ (id g : ℕ). (by id g).later in
      record {
        long = long_next c w e is.long;
        nodes = same_nodes later e w nodes;
        flights = λ l.
            subst (AllByRecursion (IsTrue layout later l)) (sym (flights_next c w e l is.long))
            (each_append (IsTrue layout later l) (without_taken l (place_taken e x.answer) (flights_on l w.links)) (put_on l x.lines)
            (left_true later l (place_taken e x.answer) (flights_on l w.links) (trues_later layout stories later grows l (flights_on l w.links) (is.flights l)))
            (puts_true later l (sends x.lines) (sends_true later x.lines (lines_true later (carried_on c w (happening w e)).1 sent))));
        order = λ id g. (by id g).later.order;
      }

  pub event_goes : (stories : Stories) (w : World) (e : Event) → IsWorldOf layout stories w → HappensRight layout c stories w (happening w e)
      → EventGoes stories (world_step c w e).0
  event_goes stories w e is right =
      let got = carries stories w (happening w e) is.order is.nodes right (happens_true stories w is.flights e) in
      record { later = got.later; node = got.node; by = got.by; so = world_so stories w e is got.later got.node got.by got.nodes got.sends }

  -- ---- a run

  -- each event of a run is taken right, by the stories up to it
  abbrev pub AreTakenRight : (stories : Stories) (w : World) → IsWorldOf layout stories w → List Event → Type 0
  AreTakenRight stories w is [] = ⊤
  AreTakenRight stories w is (e ∷ es) =
      (right : HappensRight layout c stories w (happening w e)) × AreTakenRight (event_goes stories w e is right).later (world_step c w e).0 (event_goes stories w e is right).so es

  -- then after it all is as the stories say
  pub run_goes : (stories : Stories) (w : World) (is : IsWorldOf layout stories w) (es : List Event) → AreTakenRight stories w is es
      → (later : Stories) × IsWorldOf layout later (world_after c w es)
  run_goes stories w is [] right = (stories, is)
  run_goes stories w is (e ∷ es) right = let one = event_goes stories w e is right.0 in run_goes one.later (world_step c w e).0 one.so es right.1
