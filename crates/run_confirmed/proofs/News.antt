-- At each event of a run the plan that comes is new where it comes, and what is taken is not aged.
use Rattle.std.proofs.Common.{◌≡◌, ℕ, ◌≤◌, ◌==◌, ◌&&◌, true, false, Bool, List, Option, Some, None, refl, sym, ap, ◌∙◌, subst, inl, inr, arith}
use Rattle.std.specs.Prelude.{IfSome, if◌then◌else◌, nat_lt, not, slice_get, ⊤}
use Rattle.std.specs.List.{AllByRecursion}
use Rattle.std.proofs.lemmas.Bool.{cases_Bool, eqb-false}
use Rattle.dc_base.specs.Links.{is_ordered, is_tunnel, joins}
use Rattle.dc_base.specs.Nodes.{is_same_node}
use Rattle.dc_base.specs.declared.answers.Refusal.TheVariants as refusal
use Rattle.dc_base.specs.declared.events.Event.{Event}
use Rattle.dc_base.specs.declared.events.Event.TheVariants as event
use Rattle.dc_base.specs.declared.events.Header.{Header}
use Rattle.dc_base.specs.declared.flights.Flight.{Flight}
use Rattle.dc_base.specs.declared.flights.Flight.TheVariants as flight
use Rattle.dc_base.specs.declared.nodes.Class.{Class}
use Rattle.dc_base.specs.declared.nodes.Class.TheVariants.{Ctl}
use Rattle.dc_base.specs.declared.nodes.Dir.TheVariants.{Dl, Ul}
use Rattle.dc_base.specs.declared.nodes.LinkId.{LinkId}
use Rattle.dc_base.specs.declared.nodes.Node.{Node}
use Rattle.dc_base.specs.declared.nodes.Node.TheVariants.{A, B, M, T}
use Rattle.dc_base.specs.declared.records.Plan.{Plan}
use Rattle.dc_base.specs.declared.records.Rec.{Rec}
use Rattle.dc_base.specs.declared.records.Rec.TheVariants as rec
use Rattle.transcript.proofs.OnEach.{each_at}
use Rattle.claims.specs.Noted.{after}
use Rattle.claims.specs.Past.{Past, new_past}
use Rattle.node_rules.specs.Choices.{Choices}
use Rattle.node_rules.specs.Flights.{weight}
use Rattle.node_rules.specs.Lines.{lines_of}
use Rattle.node_rules.specs.Readers.{is_aged_for}
use Rattle.node_rules.specs.Run.{Happening, carried_on, copy_of, given_to, happening, loss_of, node_at, on_links, refused_for, step_of, world_step}
use Rattle.node_rules.specs.Held.{held}
use Rattle.node_rules.specs.Terminal.{TerminalNode}
use Rattle.node_rules.specs.TerminalHalf.{TerminalHalf}
use Rattle.run_confirms.specs.Terminals.{IsInferred}
use Rattle.run_senders.specs.Holders.{IfThere}
use Rattle.node_rules.specs.World.{World, flights_on, new_world}
use Rattle.node_rules.specs.declared.inputs.Input.{Input}
use Rattle.node_rules.specs.declared.inputs.Input.TheVariants.{Cmd, Come}
use Rattle.run_control.specs.Sound.{AddsSecond}
use Rattle.run_control.specs.Steps.{record_in, record_on}
use Rattle.run_control.specs.Links.{records_on}
use Rattle.run_senders.specs.Kinds.{MayBeOn}
use Rattle.run_senders.proofs.SecondSends.{second_sends}
use Rattle.run_words.proofs.TerminalSends.{terminal_sends}
use Rattle.run_table.specs.View.{View, view}
use Rattle.run_table.proofs.Views.{after_view, hears_answer}
use Rattle.run_relays.proofs.SecondSets.{BringsFlight, BringsPlan, BringsRec}
use Rattle.run_plans.specs.Lines.{AreLater}
use Rattle.run_plans.proofs.Lines.{found_later, later_answer, later_lines}
use Rattle.run_generations.specs.Ahead.{IsOlder}
use Rattle.run_generations.specs.Newer.{IsDrawn, fresh_from, later, plan_generation}
use Rattle.run_generations.proofs.Seconds.{has_later, second_fares}
use Rattle.run_generations.proofs.Terminals.{halves_later, terminal_fares}
use Rattle.run_confirmed.specs.Flights.{IsReadRight, IsTrueSend}
use Rattle.run_confirmed.specs.Heard.{HappensHeard, HappensRead, HasNewOrder, HasNewPlan, IsNewAt, IsNotAhead}
use Rattle.run_confirmed.specs.Stories.{AreBy, IsNew, IsUnused, Layout, Stories}
use Rattle.run_confirmed.specs.Worlds.{AreNodesOf, HappensRight, Infers, IsWorldOf}
use Rattle.run_confirmed.proofs.Clipped.{terminal_unused}
use Rattle.run_confirmed.proofs.Ends.{air_ends}
use Rattle.run_confirmed.proofs.Linked.{IsOnLink}
use Rattle.run_confirmed.proofs.Near.{unaged_infers}
use Rattle.run_confirmed.proofs.Fresh.{Fresh, Hears, drawn_next, hears_at, line_stays}
use Rattle.run_confirmed.proofs.Growing.{none_by}
use Rattle.run_confirmed.proofs.MasterSteps.{master_goes}
use Rattle.run_confirmed.proofs.Relaid.{InputIsBelow, InputMayBe, second_unused}
use Rattle.run_confirmed.proofs.Runs.{Stands, stands_new, stands_next}
use Rattle.run_confirmed.proofs.Worlds.{HappensTrue, a_right, b_right, happens_true, master_else, master_right, second_else, terminal_else, terminal_right, world_so}
use Rattle.run_pairs.proofs.Replies.{same_node}

-- ---- what is so at any moment of a run

pub record AllFresh (layout : Layout) (w : World) (stories : Stories) : Type 0 where
  pub t : Fresh layout T w stories
  pub a : Fresh layout A w stories
  pub b : Fresh layout B w stories

pub record Newly (p : Past) (w : World) : Type 0 where
  pub stands : Stands p w
  pub drawn : IsDrawn w.master.proc
  pub later' : AreLater (view p).plans

pub newly_new : (c : Choices) (h : Header) (policies : ℕ) → Newly (new_past h policies) (new_world h)
newly_new c h policies = record { stands = stands_new c h policies; drawn = tt; later' = tt }

pub newly_next : (c : Choices) (w : World) (p : Past) (e : Event) → AddsSecond e → Newly p w → Newly (after p (world_step c w e).1) (world_step c w e).0
newly_next c w p e adds is =
    let o = (carried_on c w (happening w e)).1 in
    record {
      stands = stands_next c w p e adds is.stands;
      drawn = drawn_next c w e is.stands.kept is.drawn;
      later' = subst (λ (v : View). AreLater v.plans) (sym (after_view p (world_step c w e).1))
          (later_lines (lines_of o) (hears_answer p e o.answer (view p)) (later_answer p e o.answer (view p) is.later'));
    }

-- ---- what comes stood on its link

module _ (p : Past) (w : World) (stands : Stands p w) where
  -- a flight that a node takes stood on its link, and is not aged
  pub record StoodOn (x : Node) (l : LinkId) (f : Flight) : Type 0 where
    pub brings : BringsFlight (view p).plans f
    pub may : MayBeOn l f
    pub on : IsOnLink l f
    pub to : l.to ≡ x
    pub unaged : is_aged_for (node_at w x) (weight f) ≡ false

  abbrev Stood : Happening → Type 0
  Stood (given_to x (Come l f)) = StoodOn x l f
  Stood (given_to x (Cmd e)) = ⊤
  Stood (refused_for why) = ⊤
  Stood (on_links effects) = ⊤

  step_stood : (l : LinkId) (i : ℕ) (o : Option Flight) → slice_get (flights_on l w.links) i ≡ o → Stood (step_of w l i o)
  step_stood l i None at = tt
  step_stood l i (Some f) at =
      let fs = flights_on l w.links in
      elim (cases_Bool (is_ordered l.class && nat_lt 0 i)) [
        | inl behind ↦ rw behind tt
        | inr first ↦ elim (cases_Bool (is_aged_for (node_at w l.to) (weight f))) [
          | inl aged ↦ rw (first, aged) tt
          | inr fresh ↦ rw (first, fresh) (record {
            brings = each_at (BringsFlight (view p).plans) fs i f (stands.planned'.stand l) at;
            may = each_at (MayBeOn l) fs i f (stands.relays.right.right l) at;
            on = each_at (IsOnLink l) fs i f (stands.linked l) at;
            to = refl;
            unaged = fresh;
          })
        ]
      ]

  loss_stood : (b : Bool) (o : Option Flight) → Stood (if b then loss_of o else refused_for refusal.NotTunnel)
  loss_stood false o = tt
  loss_stood true None = tt
  loss_stood true (Some f) = tt

  copy_stood : (l : LinkId) (b : Bool) (o : Option Flight) → Stood (if b then copy_of l o else refused_for refusal.NotTunnel)
  copy_stood l false o = tt
  copy_stood l true None = tt
  copy_stood l true (Some f) = tt

  stood : (e : Event) → Stood (happening w e)
  stood (event.Step l i) = step_stood l i (slice_get (flights_on l w.links) i) refl
  stood (event.Lose l i) = loss_stood (is_tunnel l.class) (slice_get (flights_on l w.links) i)
  stood (event.Again l i) = copy_stood l (is_tunnel l.class) (slice_get (flights_on l w.links) i)
  stood (event.Submit id Ul payload) = tt
  stood (event.Submit id Dl payload) = tt
  stood (event.Bearer id n first shape threshold policy) = tt
  stood (event.Reshape id shape) = tt
  stood (event.Remove id) = tt
  stood (event.Add node) = tt
  stood event.Change = tt
  stood event.Release = tt
  stood event.RekeySecond = tt
  stood (event.RekeyMaster root) = tt
  stood (event.Recover id) = tt
  stood (event.Report node id) = tt
  stood (event.Deny node on) = tt
  stood (event.Ask node what) = tt
  stood event.ScgFail = tt

-- ---- what another node adds

away : (x y z : Node) → is_same_node x y ≡ false → is_same_node y z ≡ true → is_same_node x z ≡ false
away x y z apart here = subst (λ (k : Node). is_same_node x k ≡ false) (same_node y z here) apart

unused_else : (layout : Layout) (x y : Node) (a b : Stories) → AreBy layout x a b → is_same_node x y ≡ false → (id g : ℕ) → IsUnused layout y id g (a id g)
    → IsUnused layout y id g (b id g)
unused_else layout x y a b by apart id g is = record {
  own = λ here. (by id g).own (away x y (layout.home id g) apart here) ∙ is.own here;
  tunnel = λ here. (by id g).tunnel (away x y (layout.home id g) apart here) ∙ is.tunnel here;
  far = λ here. (by id g).far (away x y (layout.host id g) apart here) ∙ is.far here;
  rx = λ here. (by id g).rx (away x y T apart here) ∙ is.rx here;
}

-- ---- an event

module _ (layout : Layout) (c : Choices) (p : Past) (w : World) (is_new : Newly p w) (stories : Stories) (is : IsWorldOf layout stories w) (fresh : AllFresh layout w stories) (e : Event) where
  abbrev next : World
  next = (world_step c w e).0

  older_links : (y : Node) (k : ℕ) (what : Happening) → happening w e ≡ what → IsOlder y k (carried_on c w what).0 → IsOlder y k next
  older_links y k what at older = by y (subst (λ (h : Happening). IsOlder y k (carried_on c w h).0) (sym at) older)
    where
      by : (z : Node) → IsOlder z k (carried_on c w (happening w e)).0 → IsOlder z k next
      by T is = is
      by M is = is
      by A is = is
      by B is = is

  -- a node that does not act
  rests : (y : Node) → is_same_node y M ≡ false → (was : Fresh layout y w stories) → IsOlder y was.bound next → (later : Stories)
      → ((id g : ℕ) → IsUnused layout y id g (stories id g) → IsUnused layout y id g (later id g))
      → Fresh layout y next later
  rests y no_master was older later stays = record {
    bound = was.bound;
    some = was.some;
    older = older;
    line = line_stays c w e y no_master is_new.stands.kept is_new.drawn was.bound was.some was.older was.line;
    unused = λ id g above. stays id g (was.unused id g above);
  }

  input_below : (y : Node) (b : ℕ) (i : Input) (left : List Rec) (n : ℕ) → (hears : Hears y b i left n) → InputIsBelow hears.k i
  input_below y b (Cmd e') left n hears = tt
  input_below y b (Come l f) left n hears = λ r same class. hears.below r (ap (λ (k : Class). record_on k f) class ∙ ap (record_on Ctl) same)

  -- after it
  pub record GoesNew (what : Happening) : Type 0 where
    pub later : Stories
    pub node : Node
    pub by : AreBy layout node stories later
    pub nodes : AreNodesOf layout later (carried_on c w what).0
    pub sends : AllByRecursion (IsTrueSend layout later) (carried_on c w what).1.sends
    pub fresh' : AllFresh layout next later

  input_may : (y : Node) (i : Input) → Stood p w is_new.stands (given_to y i) → InputMayBe i
  input_may y (Cmd e') stood' = tt
  input_may y (Come l f) stood' = stood'.may

  goes_new : (what : Happening) → happening w e ≡ what → Stood p w is_new.stands what → HappensRight layout c stories w what → HappensTrue layout c stories what → GoesNew what
  goes_new (given_to T i) at stood' right true' =
      let was = fresh.t in
      let kept = is_new.stands.kept in
      let hears = hears_at c w e T i refl kept is_new.stands.relays.right.there at was.bound was.line in
      let one : 1 ≤ hears.k = let le = hears.le in let some = was.some in omega (arith, le, some) in
      let had = halves_later was.bound hears.k w.terminal hears.le was.older in
      let fares = terminal_fares hears.k c w.terminal i one (λ r came_in. hears.below r came_in) had in
      let unused = λ (id g : ℕ) (above : hears.k ≤ g). was.unused id g (let le = hears.le in omega (arith, le, above)) in
      let got = terminal_unused layout hears.k stories is.order unused c w.terminal i (terminal_right layout c stories w i right true') is.nodes.terminal had fares.0 (terminal_sends c w.terminal i) in
      let by = got.goes.by in
      let later = got.goes.later in
      record {
        later = later;
        node = T;
        by = by;
        nodes =
            record { terminal = got.goes.so; master = master_else layout T stories later by w.master refl is.nodes.master; a = second_else layout T stories later by A w.a refl is.nodes.a; b = second_else layout T stories later by B w.b refl is.nodes.b };
        sends = got.goes.sends;
        fresh' = record {
          t = record { bound = hears.k; some = one; older = older_links T hears.k (given_to T i) at fares.0; line = hears.up; unused = got.unused };
          a = rests A refl fresh.a (older_links A fresh.a.bound (given_to T i) at fresh.a.older) later (unused_else layout T A stories later by refl);
          b = rests B refl fresh.b (older_links B fresh.b.bound (given_to T i) at fresh.b.older) later (unused_else layout T B stories later by refl);
        };
      }
  goes_new (given_to M i) at stood' right true' =
      let g = master_goes layout c stories is.order w.master i (master_right layout c stories w i right true') is.nodes.master in
      let by = g.by in
      record {
        later = g.later;
        node = M;
        by = by;
        nodes =
            record { terminal = terminal_else layout M stories g.later by w.terminal refl is.nodes.terminal; master = g.so; a = second_else layout M stories g.later by A w.a refl is.nodes.a; b = second_else layout M stories g.later by B w.b refl is.nodes.b };
        sends = g.sends;
        fresh' = record {
          t = rests T refl fresh.t (older_links T fresh.t.bound (given_to M i) at fresh.t.older) g.later (unused_else layout M T stories g.later by refl);
          a = rests A refl fresh.a (older_links A fresh.a.bound (given_to M i) at fresh.a.older) g.later (unused_else layout M A stories g.later by refl);
          b = rests B refl fresh.b (older_links B fresh.b.bound (given_to M i) at fresh.b.older) g.later (unused_else layout M B stories g.later by refl);
        };
      }
  goes_new (given_to A i) at stood' right true' =
      let was = fresh.a in
      let kept = is_new.stands.kept in
      let there = is_new.stands.relays.right.there in
      let hears = hears_at c w e A i refl kept there at was.bound was.line in
      let one : 1 ≤ hears.k = let le = hears.le in let some = was.some in omega (arith, le, some) in
      let had = has_later was.bound hears.k w.a hears.le was.older in
      let fares = second_fares hears.k c w.a i one (λ r came_in. hears.below r came_in) had in
      let unused = λ (id g : ℕ) (above : hears.k ≤ g). was.unused id g (let le = hears.le in omega (arith, le, above)) in
      let got = second_unused layout A refl hears.k one stories is.order unused c w.a i (input_may A i stood') (input_below A was.bound i (records_on M A next) (fresh_from A next.master.proc) hears) (a_right layout c stories w i right true') is.nodes.a had fares.0 fares.1 (second_sends A c w.a i there.a).by in
      let by = got.goes.by in
      let later = got.goes.later in
      record {
        later = later;
        node = A;
        by = by;
        nodes =
            record { terminal = terminal_else layout A stories later by w.terminal refl is.nodes.terminal; master = master_else layout A stories later by w.master refl is.nodes.master; a = got.goes.so; b = second_else layout A stories later by B w.b refl is.nodes.b };
        sends = got.goes.sends;
        fresh' = record {
          t = rests T refl fresh.t (older_links T fresh.t.bound (given_to A i) at fresh.t.older) later (unused_else layout A T stories later by refl);
          a = record { bound = hears.k; some = one; older = older_links A hears.k (given_to A i) at fares.0; line = hears.up; unused = got.unused };
          b = rests B refl fresh.b (older_links B fresh.b.bound (given_to A i) at fresh.b.older) later (unused_else layout A B stories later by refl);
        };
      }
  goes_new (given_to B i) at stood' right true' =
      let was = fresh.b in
      let kept = is_new.stands.kept in
      let there = is_new.stands.relays.right.there in
      let hears = hears_at c w e B i refl kept there at was.bound was.line in
      let one : 1 ≤ hears.k = let le = hears.le in let some = was.some in omega (arith, le, some) in
      let had = has_later was.bound hears.k w.b hears.le was.older in
      let fares = second_fares hears.k c w.b i one (λ r came_in. hears.below r came_in) had in
      let unused = λ (id g : ℕ) (above : hears.k ≤ g). was.unused id g (let le = hears.le in omega (arith, le, above)) in
      let got = second_unused layout B refl hears.k one stories is.order unused c w.b i (input_may B i stood') (input_below B was.bound i (records_on M B next) (fresh_from B next.master.proc) hears) (b_right layout c stories w i right true') is.nodes.b had fares.0 fares.1 (second_sends B c w.b i there.b).by in
      let by = got.goes.by in
      let later = got.goes.later in
      record {
        later = later;
        node = B;
        by = by;
        nodes =
            record { terminal = terminal_else layout B stories later by w.terminal refl is.nodes.terminal; master = master_else layout B stories later by w.master refl is.nodes.master; b = got.goes.so; a = second_else layout B stories later by A w.a refl is.nodes.a };
        sends = got.goes.sends;
        fresh' = record {
          t = rests T refl fresh.t (older_links T fresh.t.bound (given_to B i) at fresh.t.older) later (unused_else layout B T stories later by refl);
          b = record { bound = hears.k; some = one; older = older_links B hears.k (given_to B i) at fares.0; line = hears.up; unused = got.unused };
          a = rests A refl fresh.a (older_links A fresh.a.bound (given_to B i) at fresh.a.older) later (unused_else layout B A stories later by refl);
        };
      }
  goes_new (refused_for why) at stood' right true' = record {
    later = stories;
    node = T;
    by = none_by layout T stories is.order;
    nodes = is.nodes;
    sends = tt;
    fresh' = record {
      t = rests T refl fresh.t (older_links T fresh.t.bound (refused_for why) at fresh.t.older) stories (λ id g was. was);
      a = rests A refl fresh.a (older_links A fresh.a.bound (refused_for why) at fresh.a.older) stories (λ id g was. was);
      b = rests B refl fresh.b (older_links B fresh.b.bound (refused_for why) at fresh.b.older) stories (λ id g was. was);
    };
  }
  goes_new (on_links effects) at stood' right true' = record {
    later = stories;
    node = T;
    by = none_by layout T stories is.order;
    nodes = is.nodes;
    sends = true';
    fresh' = record {
      t = rests T refl fresh.t (older_links T fresh.t.bound (on_links effects) at fresh.t.older) stories (λ id g was. was);
      a = rests A refl fresh.a (older_links A fresh.a.bound (on_links effects) at fresh.a.older) stories (λ id g was. was);
      b = rests B refl fresh.b (older_links B fresh.b.bound (on_links effects) at fresh.b.older) stories (λ id g was. was);
    };
  }

  -- ---- a plan is new

  -- the plan of a record that comes
  new_plan : (y : Node) (was : Fresh layout y w stories) (i : Input) (left : List Rec) (n : ℕ) → Hears y was.bound i left n → (r : Rec) → record_in i ≡ Some r → (g : ℕ) → 1 ≤ g
      → plan_generation r ≡ later g
      → IsNew layout y stories g
  new_plan y was i left n hears r came_in g one of = λ id. was.unused id g (hears.newer r came_in g one of)

  drawn_later : (r : Rec) (q : Plan) → BringsPlan (view p).plans r (Some q) → (r ≡ rec.Relcnf q → ⊥) → 1 ≤ q.g
  drawn_later r q (inl runs) other = found_later (view p).plans q.g q is_new.later' runs.0
  drawn_later r q (inr none) other = absurd (other none.1)

  some_later : (g : ℕ) → (g == 0) ≡ false → 1 ≤ g
  some_later g some = let other = eqb-false g 0 some in omega (arith, other)

  order_new : (fresh' : ℕ → Type 0) (r : Rec) → BringsRec (view p).plans r → ((g : ℕ) → 1 ≤ g → plan_generation r ≡ later g → fresh' g) → HasNewOrder fresh' r
  order_new fresh' (rec.Reconf q key) brings new = new q.g (drawn_later (rec.Reconf q key) q brings (λ same. cc)) refl
  order_new fresh' (rec.Rcomp g) brings new = tt
  order_new fresh' (rec.Scgf failed) brings new = tt
  order_new fresh' (rec.Recov id) brings new = tt
  order_new fresh' (rec.Recovd id) brings new = tt
  order_new fresh' (rec.Addreq q key) brings new = tt
  order_new fresh' (rec.Addack g) brings new = tt
  order_new fresh' (rec.Addrej g) brings new = tt
  order_new fresh' (rec.Modreq q key) brings new = tt
  order_new fresh' (rec.Modack g) brings new = tt
  order_new fresh' (rec.Modrej g) brings new = tt
  order_new fresh' (rec.Recfg g) brings new = tt
  order_new fresh' (rec.Relreq q) brings new = tt
  order_new fresh' (rec.Relack g) brings new = tt
  order_new fresh' (rec.Relrej g) brings new = tt
  order_new fresh' (rec.Uecr g) brings new = tt
  order_new fresh' (rec.Snst status) brings new = tt
  order_new fresh' (rec.Moved g id) brings new = tt
  order_new fresh' (rec.Scgn id g) brings new = tt
  order_new fresh' rec.Modrqd brings new = tt
  order_new fresh' (rec.Modcnf g) brings new = tt
  order_new fresh' (rec.Modref word) brings new = tt
  order_new fresh' rec.Chgrqd brings new = tt
  order_new fresh' (rec.Chgcnf q) brings new = tt
  order_new fresh' (rec.Chgref word) brings new = tt
  order_new fresh' rec.Relrqd brings new = tt
  order_new fresh' (rec.Relcnf q) brings new = tt

  record_new : (fresh' : ℕ → Type 0) (r : Rec) → BringsRec (view p).plans r → ((g : ℕ) → 1 ≤ g → plan_generation r ≡ later g → fresh' g) → HasNewPlan fresh' r
  record_new fresh' (rec.Addreq q key) brings new = new q.g (drawn_later (rec.Addreq q key) q brings (λ same. cc)) refl
  record_new fresh' (rec.Modreq q key) brings new = new q.g (drawn_later (rec.Modreq q key) q brings (λ same. cc)) refl
  record_new fresh' (rec.Relreq q) brings new = new q.g (drawn_later (rec.Relreq q) q brings (λ same. cc)) refl
  record_new fresh' (rec.Chgcnf q) brings new = new q.g (drawn_later (rec.Chgcnf q) q brings (λ same. cc)) refl
  record_new fresh' (rec.Relcnf q) brings new = λ some. new q.g (some_later q.g some) refl
  record_new fresh' (rec.Reconf q key) brings new = tt
  record_new fresh' (rec.Rcomp g) brings new = tt
  record_new fresh' (rec.Scgf failed) brings new = tt
  record_new fresh' (rec.Recov id) brings new = tt
  record_new fresh' (rec.Recovd id) brings new = tt
  record_new fresh' (rec.Addack g) brings new = tt
  record_new fresh' (rec.Addrej g) brings new = tt
  record_new fresh' (rec.Modack g) brings new = tt
  record_new fresh' (rec.Modrej g) brings new = tt
  record_new fresh' (rec.Recfg g) brings new = tt
  record_new fresh' (rec.Relack g) brings new = tt
  record_new fresh' (rec.Relrej g) brings new = tt
  record_new fresh' (rec.Uecr g) brings new = tt
  record_new fresh' (rec.Snst status) brings new = tt
  record_new fresh' (rec.Moved g id) brings new = tt
  record_new fresh' (rec.Scgn id g) brings new = tt
  record_new fresh' rec.Modrqd brings new = tt
  record_new fresh' (rec.Modcnf g) brings new = tt
  record_new fresh' (rec.Modref word) brings new = tt
  record_new fresh' rec.Chgrqd brings new = tt
  record_new fresh' (rec.Chgref word) brings new = tt
  record_new fresh' rec.Relrqd brings new = tt

  came_as : (l : LinkId) (f : Flight) (r : Rec) → f ≡ flight.Ctl r → l.class ≡ Ctl → record_in (Come l f) ≡ Some r
  came_as l f r same class = ap (λ (k : Class). record_on k f) class ∙ ap (record_on Ctl) same

  new_at : (y : Node) (l : LinkId) (f : Flight) → happening w e ≡ given_to y (Come l f) → BringsFlight (view p).plans f → (r : Rec) → f ≡ flight.Ctl r → l.class ≡ Ctl
      → IsNewAt layout stories y r
  new_at T l f at brings r same class =
      let hears = hears_at c w e T (Come l f) refl is_new.stands.kept is_new.stands.relays.right.there at fresh.t.bound fresh.t.line in
      order_new (IsNew layout T stories) r (subst (BringsFlight (view p).plans) same brings)
      (λ g one of. new_plan T fresh.t (Come l f) (records_on M T next) (fresh_from T next.master.proc) hears r (came_as l f r same class) g one of)
  new_at M l f at brings r same class = tt
  new_at A l f at brings r same class =
      let hears = hears_at c w e A (Come l f) refl is_new.stands.kept is_new.stands.relays.right.there at fresh.a.bound fresh.a.line in
      record_new (IsNew layout A stories) r (subst (BringsFlight (view p).plans) same brings)
      (λ g one of. new_plan A fresh.a (Come l f) (records_on M A next) (fresh_from A next.master.proc) hears r (came_as l f r same class) g one of)
  new_at B l f at brings r same class =
      let hears = hears_at c w e B (Come l f) refl is_new.stands.kept is_new.stands.relays.right.there at fresh.b.bound fresh.b.line in
      record_new (IsNew layout B stories) r (subst (BringsFlight (view p).plans) same brings)
      (λ g one of. new_plan B fresh.b (Come l f) (records_on M B next) (fresh_from B next.master.proc) hears r (came_as l f r same class) g one of)

  -- the terminal infers the COUNT of what is neither aged nor too far ahead
  untagged : (t : TerminalNode) (id g num : ℕ) (pdu : List ℕ) → Infers t (flight.Air id g num None pdu)
  untagged t id g num pdu = by (held id t.halves)
    where
      by : (o : Option TerminalHalf) → IfThere (λ (h : TerminalHalf). h.setup.g ≡ g → IfSome None (IsInferred h)) o
      by None = tt
      by (Some h) = λ same. tt

  infers_at : (x : Node) (l : LinkId) (f : Flight) → is_same_node x T ≡ true → StoodOn p w is_new.stands x l f → IsReadRight layout stories l f → IsNotAhead w.terminal f
      → Infers w.terminal f
  infers_at x l (flight.Air id g num None pdu) here stood' reads near = untagged w.terminal id g num pdu
  infers_at x l (flight.Air id g num (Some count) pdu) here stood' reads near =
      let f = flight.Air id g num (Some count) pdu in
      let at_terminal : x ≡ T = same_node x T here in
      let ends = air_ends l.from l.to (subst (λ (k : Class). joins k l.from l.to ≡ true) stood'.may.class (stood'.on refl)) in
      let down : is_same_node l.from T ≡ false = ends ∙ ap (λ (y : Node). not (is_same_node y T)) (stood'.to ∙ at_terminal) in
      let unaged : is_aged_for (node_at w T) (weight f) ≡ false = subst (λ (y : Node). is_aged_for (node_at w y) (weight f) ≡ false) at_terminal stood'.unaged in
      unaged_infers w.terminal id g num count pdu (reads down).data' unaged near
  infers_at x l (flight.Ack id g num) here stood' reads near = tt
  infers_at x l (flight.Tun tag packet) here stood' reads near = tt
  infers_at x l (flight.Sdu id g payload) here stood' reads near = tt
  infers_at x l (flight.End id g) here stood' reads near = tt
  infers_at x l (flight.Told id g count) here stood' reads near = tt
  infers_at x l (flight.Ctl r) here stood' reads near = tt

  heard_by : (what : Happening) → happening w e ≡ what → Stood p w is_new.stands what → HappensRead layout stories w what → HappensHeard layout stories w what
  heard_by (given_to x (Come l f)) at stood' read =
      record { reads = read.reads; infers = λ here. infers_at x l f here stood' read.reads (read.near here); new = new_at x l f at stood'.brings }
  heard_by (given_to x (Cmd e')) at stood' read = tt
  heard_by (refused_for why) at stood' read = tt
  heard_by (on_links effects) at stood' read = tt

  pub event_heard : HappensRead layout stories w (happening w e) → HappensHeard layout stories w (happening w e)
  event_heard read = heard_by (happening w e) refl (stood p w is_new.stands e) read

  -- the stories after it
  pub record EventNew : Type 0 where
    pub later : Stories
    pub so : IsWorldOf layout later next
    pub fresh' : AllFresh layout next later

  pub event_new : HappensRight layout c stories w (happening w e) → EventNew
  event_new right =
      let got = goes_new (happening w e) refl (stood p w is_new.stands e) right (happens_true layout c stories w is.flights e) in
      record { later = got.later; so = world_so layout c stories w e is got.later got.node got.by got.nodes got.sends; fresh' = got.fresh' }
