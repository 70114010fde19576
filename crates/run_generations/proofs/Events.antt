-- Each event keeps: what a node has is older than the plans on their way to it, and these are older than those of which it may be told.
use Rattle.std.proofs.Common.{ℕ, ◌≡◌, ◌≤◌, ◌+◌, ◌++◌, Bool, true, false, List, [], ◌∷◌, Option, Some, None, refl, sym, ap, subst, ◌∙◌, arith, inl, inr}
use Rattle.std.proofs.lemmas.Bool.{eq-eqb}
use Rattle.std.proofs.lemmas.List.{append-nil}
use Rattle.dc_base.specs.Links.{is_same_link, link, link_number}
use Rattle.dc_base.specs.Nodes.{is_same_node}
use Rattle.dc_base.specs.declared.flights.Flight.{Flight}
use Rattle.dc_base.specs.declared.flights.Flight.TheVariants as flight
use Rattle.dc_base.specs.declared.nodes.Class.{Class}
use Rattle.dc_base.specs.declared.nodes.Class.TheVariants.{Air, Ctl, Feed, Tun}
use Rattle.dc_base.specs.declared.nodes.LinkId.{LinkId}
use Rattle.dc_base.specs.declared.nodes.Node.{Node}
use Rattle.dc_base.specs.declared.nodes.Node.TheVariants.{A, B, M, T}
use Rattle.dc_base.specs.declared.records.Rec.{Rec}
use Rattle.transcript.proofs.OnEach.{each_append}
use Rattle.std.specs.Prelude.{if◌then◌else◌}
use Rattle.node_rules.specs.Choices.{Choices, Send}
use Rattle.node_rules.specs.Master.{MasterNode}
use Rattle.node_rules.specs.MasterStep.{master_step}
use Rattle.node_rules.specs.Run.{Happening, carried_on, given_to, on_links, refused_for}
use Rattle.node_rules.specs.SecondStep.{second_step}
use Rattle.node_rules.specs.Terminal.{terminal_step}
use Rattle.node_rules.specs.World.{World}
use Rattle.node_rules.specs.declared.inputs.Input.{Input}
use Rattle.node_rules.specs.declared.inputs.Input.TheVariants.{Cmd, Come}
use Rattle.run_control.specs.SecondControl.{records_sent}
use Rattle.run_control.specs.Steps.{record_in, record_on}
use Rattle.run_control.specs.Traffic.{came}
use Rattle.run_control.proofs.Names.{IsAway, second_apart}
use Rattle.run_control.proofs.NoLinks.{IsNoLink, a_a, a_b, a_terminal, b_a, b_b, b_terminal, terminal_a, terminal_b, terminal_terminal}
use Rattle.run_control.proofs.Records.{bare_flights, sent_bare}
use Rattle.run_control.proofs.Steps.{master_stepped, second_stepped, terminal_stepped}
use Rattle.run_control.proofs.Taken.{GoesRight, HasNone, IsRight, NoneOf, Takes, records_in, takes_none, takes_one}
use Rattle.run_control.proofs.TalkSteps.{IsKept, a_down, b_down, input_of, no_happening}
use Rattle.run_control.proofs.Turns.{never}
use Rattle.run_generations.specs.Ahead.{AllBelow, AreSentBelow, IsAheadBy, IsOlder, IsSentBelow, generations, sends_by}
use Rattle.run_generations.specs.Newer.{Between, IsDrawn, fresh_from, plan_generation}
use Rattle.run_generations.proofs.Masters.{HasTold, stepped_told}
use Rattle.run_generations.proofs.Putting.{put_to}
use Rattle.run_generations.proofs.Telling.{between_append}
use Rattle.run_generations.proofs.Seconds.{has_later, second_fares}
use Rattle.run_generations.proofs.Terminals.{halves_later, terminal_fares}
use Rattle.run_pairs.proofs.Replies.{same_node}
use Rattle.run_pairs.proofs.Sending.{down_away, terminal_away}

-- ---- where a record comes from

class_is : (k : Class) (f : Flight) (r : Rec) → record_on k f ≡ Some r → k ≡ Ctl
class_is Ctl f r is = refl
class_is Feed f r is = absurd cc
class_is Air f r is = absurd cc
class_is Tun f r is = absurd cc

link_is : (x y : Node) (k : LinkId) → k.from ≡ x → y ≡ k.to → k.class ≡ Ctl → is_same_link (link x y Ctl) k ≡ true
link_is x y k from to class =
    let is : k ≡ link x y Ctl =
    ap (λ n. record { from = n; to = k.to; class = k.class }) from
    ∙ ap (λ n. record { from = x; to = n; class = k.class }) (sym to)
    ∙ ap (λ n. record { from = x; to = y; class = n }) class in
    subst (λ j. is_same_link (link x y Ctl) j ≡ true) (sym is) (eq-eqb (link_number (link x y Ctl)) (link_number (link x y Ctl)) refl)

-- no record of this link is among the input
no_record_of : (x y : Node) (k : LinkId) (f : Flight) (r : Rec) → NoneOf (link x y Ctl) (Come k f) → k.from ≡ x → y ≡ k.to → record_in (Come k f) ≡ Some r → ⊥
no_record_of x y k f r (inl other) from to is = never (is_same_link (link x y Ctl) k) (link_is x y k from to (class_is k.class f r is)) other
no_record_of x y k f r (inr none) from to is = no_some r (sym none ∙ is)
  where
    no_some : (q : Rec) → None ≡ Some q → ⊥
    no_some q e = absurd cc

-- between no two of these nodes
no_link_to : (y x : Node) → is_same_node y M ≡ false → is_same_node x M ≡ false → IsNoLink (link x y Ctl)
no_link_to T T no_master apart = terminal_terminal
no_link_to T M no_master apart = absurd cc
no_link_to T A no_master apart = a_terminal
no_link_to T B no_master apart = b_terminal
no_link_to M x no_master apart = absurd cc
no_link_to A T no_master apart = terminal_a
no_link_to A M no_master apart = absurd cc
no_link_to A A no_master apart = a_a
no_link_to A B no_master apart = b_a
no_link_to B T no_master apart = terminal_b
no_link_to B M no_master apart = absurd cc
no_link_to B A no_master apart = a_b
no_link_to B B no_master apart = b_b

-- a node gets a record from the master alone
not_given : (y : Node) → is_same_node y M ≡ false → (i : Input) (r : Rec) → ((l : LinkId) → IsNoLink l → NoneOf l i) → NoneOf (link M y Ctl) i → GoesRight i y → record_in i ≡ Some r → ⊥
not_given y no_master (Cmd e) r others none right is = absurd cc
not_given y no_master (Come k f) r others none right is = by (is_same_node k.from M) refl
  where
    by : (b : Bool) → is_same_node k.from M ≡ b → ⊥
    by true here = no_record_of M y k f r none (same_node k.from M here) right is
    by false apart = no_record_of k.from y k f r (others (link k.from y Ctl) (no_link_to y k.from no_master apart)) refl right is

-- ---- who sends there

a_away : (y : Node) → is_same_node y M ≡ false → IsAway A (link M y Ctl)
a_away T no_master = a_down
a_away M no_master = absurd cc
a_away A no_master = down_away A A refl refl
a_away B no_master = down_away B A refl refl

b_away : (y : Node) → is_same_node y M ≡ false → IsAway B (link M y Ctl)
b_away T no_master = b_down
b_away M no_master = absurd cc
b_away A no_master = down_away A B refl refl
b_away B no_master = down_away B B refl refl

terminal_off : (y : Node) → is_same_link (link M y Ctl) (link T M Ctl) ≡ false
terminal_off T = refl
terminal_off M = refl
terminal_off A = refl
terminal_off B = refl

-- ---- lines

-- those that are taken are below a bound from which the others ascend
split : (from below : ℕ) (gs hs : List ℕ) → Between from (gs ++ hs) below → (k : ℕ) × (from ≤ k) × AllBelow k gs × Between k hs below
split from below [] hs line = (from, omega arith, tt, line)
split from below (g ∷ gs) hs line = by (split (g + 1) below gs hs line.1)
  where
    by : ((k : ℕ) × (g + 1 ≤ k) × AllBelow k gs × Between k hs below) → (k : ℕ) × (from ≤ k) × AllBelow k (g ∷ gs) × Between k hs below
    by (k, le, all, rest) = (k, omega (arith, le, line.0), (le, all), rest)

-- ---- what happens

-- another node acts: what this one has stays
older_master : (y : Node) (w : World) (m : MasterNode) (k : ℕ) → IsOlder y k w → IsOlder y k (record w { master = m })
older_master T w m k is = is
older_master M w m k is = is
older_master A w m k is = is
older_master B w m k is = is

-- ---- what was sent

-- it is below a greater bound
one_later : (a b : ℕ) (l : LinkId) (f : Flight) → a ≤ b → IsSentBelow a (l, f) → IsSentBelow b (l, f)
one_later a b l (flight.Air id g num tag pdu) le is = omega (arith, le, is)
one_later a b l (flight.Tun tag packet) le is = record { content = is.content; g = is.g; id = is.id; kind = is.kind; is = is.is; of = is.of; le = omega (arith, le, is.le) }
one_later a b l (flight.Ack id g num) le is = tt
one_later a b l (flight.Sdu id g sdu) le is = tt
one_later a b l (flight.End id g) le is = tt
one_later a b l (flight.Told id g count) le is = tt
one_later a b l (flight.Ctl r) le is = tt

pub sent_later : (a b : ℕ) (sends : List Send) → a ≤ b → AreSentBelow a sends → AreSentBelow b sends
sent_later a b [] le all = tt
sent_later a b ((l, f) ∷ sends) le all = (one_later a b l f le all.0, sent_later a b sends le all.1)

-- another node sends nothing of this one's
not_own : (y x : Node) (i : Input) (sends : List Send) → is_same_node y x ≡ false → sends_by y (given_to x i) sends ≡ []
not_own y x i sends other = ap (λ b. if b then sends else []) other

module _ (y : Node) (no_master : is_same_node y M ≡ false) (c : Choices) (w : World) (kept : IsKept w) (drawn : IsDrawn w.master.proc) (down down' : List Rec) (sent : List Send) (ahead : IsAheadBy y w (generations down) sent) where
  -- what is so of a world, where these were put on links, and these the node sent
  abbrev pub Then : World → List Send → List Send → Type 0
  Then u sends own = IsAheadBy y u (generations down' ++ put_to y (records_sent sends)) (sent ++ own)

  -- nothing is put there, and the node sends nothing
  quietly : (u : World) (sends own : List Send) → down' ≡ down → put_to y (records_sent sends) ≡ [] → own ≡ [] → u.master.proc ≡ w.master.proc → IsOlder y ahead.bound u → Then u sends own
  quietly u sends own same none silent proc older =
      let is : generations down' ++ put_to y (records_sent sends) ≡ generations down = ap (λ gs. generations down' ++ gs) none ∙ append-nil (generations down') ∙ ap generations same in
      record {
        bound = ahead.bound;
        some = ahead.some;
        older = older;
        below = subst (AreSentBelow ahead.bound) (sym (ap (λ zs. sent ++ zs) silent ∙ append-nil sent)) ahead.below;
        line = subst (λ gs. Between ahead.bound gs (fresh_from y u.master.proc)) (sym is) (subst (λ p. Between ahead.bound (generations down) (fresh_from y p)) (sym proc) ahead.line);
      }

  -- the node acts on what it took: a record of which it knows a bound
  acting : (u : World) (sends own : List Send) (taken : List ℕ) → generations down ≡ taken ++ generations down' → put_to y (records_sent sends) ≡ [] → u.master.proc ≡ w.master.proc
      → ((k : ℕ) → ahead.bound ≤ k → AllBelow k taken → IsOlder y k u × AreSentBelow k own) → Then u sends own
  acting u sends own taken is none proc fares = by (split ahead.bound (fresh_from y w.master.proc) taken (generations down') (subst (λ gs. Between ahead.bound gs (fresh_from y w.master.proc)) is ahead.line))
    where
      by : ((k : ℕ) × (ahead.bound ≤ k) × AllBelow k taken × Between k (generations down') (fresh_from y w.master.proc)) → Then u sends own
      by (k, le, all, rest) = record {
        bound = k;
        some = omega (arith, le, ahead.some);
        older = (fares k le all).0;
        below = each_append (IsSentBelow k) sent own (sent_later ahead.bound k sent le ahead.below) (fares k le all).1;
        line = subst (λ gs. Between k gs (fresh_from y u.master.proc)) (sym (ap (λ gs. generations down' ++ gs) none ∙ append-nil (generations down')))
            (subst (λ p. Between k (generations down') (fresh_from y p)) (sym proc) rest);
      }

  -- a record, or none
  pub record Given (i : Input) : Type 0 where
    pub taken : List ℕ
    pub is : generations down ≡ taken ++ generations down'
    pub plans : (k : ℕ) → AllBelow k taken → (r : Rec) → record_in i ≡ Some r → AllBelow k (plan_generation r)

  given_by : (i : Input) → Takes (link M y Ctl) (given_to y i) down down' → ((l : LinkId) → IsNoLink l → HasNone l (given_to y i)) → GoesRight i y → Given i
  given_by i (takes_none same none) others right = record {
    taken = [];
    is = ap generations (sym same);
    plans = λ k all r came_in. absurd (not_given y no_master i r others none right came_in);
  }
  given_by i (takes_one r first is) others right = record {
    taken = plan_generation r;
    is = ap generations first;
    plans = λ k all q came_in. subst (λ z. AllBelow k (plan_generation z)) (one q (sym (ap record_in (ap (λ h. input_of h i) is)) ∙ came_in)) all;
  }
    where
      one : (q : Rec) → record_in (Come (link M y Ctl) (flight.Ctl r)) ≡ Some q → r ≡ q
      one q e = ap (λ (o : Option Rec). or_this o) e
        where
          or_this : Option Rec → Rec
          or_this None = r
          or_this (Some z) = z

  -- where it is another node's
  not_taken : (x : Node) (i : Input) → is_same_node y x ≡ false → Takes (link M y Ctl) (given_to x i) down down' → down' ≡ down
  not_taken x i other (takes_none same none) = same
  not_taken x i other (takes_one r first is) = absurd (no_happening (given_to x i) y x (Come (link M y Ctl) (flight.Ctl r)) is refl other)

  to_master : (i : Input) → Takes (link M y Ctl) (given_to M i) down down' → (let done = came (master_step c w.master i) in Then (record w { master = done.0 }) done.1.sends (sends_by y (given_to M i) done.1.sends))
  to_master i takes =
      let done = came (master_step c w.master i) in
      let told : HasTold y w.master.proc done = stepped_told y c w.master i done kept.ordered.master kept.sound drawn (master_stepped c w.master i kept.ordered.master) in
      record {
        bound = ahead.bound;
        some = ahead.some;
        older = older_master y w done.0 ahead.bound ahead.older;
        below = subst (AreSentBelow ahead.bound) (sym (ap (λ zs. sent ++ zs) (not_own y M i done.1.sends no_master) ∙ append-nil sent)) ahead.below;
        line = between_append ahead.bound (fresh_from y w.master.proc) (fresh_from y done.0.proc) (generations down') (put_to y (records_sent done.1.sends))
            (subst (λ rs. Between ahead.bound (generations rs) (fresh_from y w.master.proc)) (sym (not_taken M i no_master takes)) ahead.line) told.told;
      }

  terminal_puts : (i : Input) → put_to y (records_sent (came (terminal_step c w.terminal i)).1.sends) ≡ []
  terminal_puts i = ap (λ fs. generations (records_in fs)) (terminal_away (link M y Ctl) (terminal_off y) w.terminal i (came (terminal_step c w.terminal i)) (terminal_stepped c w.terminal i kept.ordered.terminal))

  a_puts : (i : Input) → put_to y (records_sent (came (second_step c w.a i)).1.sends) ≡ []
  a_puts i =
      ap (λ fs. generations (records_in fs))
      (second_apart w.a i (link M y Ctl) (came (second_step c w.a i)) (subst (λ me. IsAway me (link M y Ctl)) (sym kept.named.a) (a_away y no_master)) (second_stepped c w.a i kept.ordered.a))

  b_puts : (i : Input) → put_to y (records_sent (came (second_step c w.b i)).1.sends) ≡ []
  b_puts i =
      ap (λ fs. generations (records_in fs))
      (second_apart w.b i (link M y Ctl) (came (second_step c w.b i)) (subst (λ me. IsAway me (link M y Ctl)) (sym kept.named.b) (b_away y no_master)) (second_stepped c w.b i kept.ordered.b))

  on_neither : (what : Happening) → Takes (link M y Ctl) what down down' → ((x : Node) (i : Input) → what ≡ given_to x i → ⊥) → down' ≡ down
  on_neither what (takes_none same none) apart = same
  on_neither what (takes_one r first is) apart = absurd (apart (link M y Ctl).to (Come (link M y Ctl) (flight.Ctl r)) is)

-- ---- each node

module _ (c : Choices) (w : World) (kept : IsKept w) (drawn : IsDrawn w.master.proc) (down down' : List Rec) (sent : List Send) where
  -- after it happened, for a node
  abbrev pub ThenAt : Node → Happening → Type 0
  ThenAt y what = (let done = carried_on c w what in IsAheadBy y done.0 (generations down' ++ put_to y (records_sent done.1.sends)) (sent ++ sends_by y what done.1.sends))

  abbrev pub Others : Happening → Type 0
  Others what = (l : LinkId) → IsNoLink l → HasNone l what

  to_terminal : (y : Node) → is_same_node y M ≡ false → IsAheadBy y w (generations down) sent → (i : Input) → Takes (link M y Ctl) (given_to T i) down down' → Others (given_to T i) → GoesRight i T → ThenAt y (given_to T i)
  to_terminal T no_master ahead i takes others right =
      let done = came (terminal_step c w.terminal i) in
      let given = given_by T no_master c w kept drawn down down' sent ahead i takes others right in
      acting T no_master c w kept drawn down down' sent ahead (record w { terminal = done.0 }) done.1.sends done.1.sends given.taken given.is (terminal_puts T no_master c w kept drawn down down' sent ahead i) refl
      (λ k le all. terminal_fares k c w.terminal i (omega (arith, le, ahead.some)) (given.plans k all) (halves_later ahead.bound k w.terminal le ahead.older))
  to_terminal M no_master ahead i takes others right = absurd cc
  to_terminal A no_master ahead i takes others right =
      let done = came (terminal_step c w.terminal i) in quietly A no_master c w kept drawn down down' sent ahead (record w { terminal = done.0 }) done.1.sends [] (not_taken A no_master c w kept drawn down down' sent ahead T i refl takes) (terminal_puts A no_master c w kept drawn down down' sent ahead i) refl refl ahead.older
  to_terminal B no_master ahead i takes others right =
      let done = came (terminal_step c w.terminal i) in quietly B no_master c w kept drawn down down' sent ahead (record w { terminal = done.0 }) done.1.sends [] (not_taken B no_master c w kept drawn down down' sent ahead T i refl takes) (terminal_puts B no_master c w kept drawn down down' sent ahead i) refl refl ahead.older

  to_a : (y : Node) → is_same_node y M ≡ false → IsAheadBy y w (generations down) sent → (i : Input) → Takes (link M y Ctl) (given_to A i) down down' → Others (given_to A i) → GoesRight i A → ThenAt y (given_to A i)
  to_a T no_master ahead i takes others right =
      let done = came (second_step c w.a i) in quietly T no_master c w kept drawn down down' sent ahead (record w { a = done.0 }) done.1.sends [] (not_taken T no_master c w kept drawn down down' sent ahead A i refl takes) (a_puts T no_master c w kept drawn down down' sent ahead i) refl refl ahead.older
  to_a M no_master ahead i takes others right = absurd cc
  to_a A no_master ahead i takes others right =
      let done = came (second_step c w.a i) in
      let given = given_by A no_master c w kept drawn down down' sent ahead i takes others right in
      acting A no_master c w kept drawn down down' sent ahead (record w { a = done.0 }) done.1.sends done.1.sends given.taken given.is (a_puts A no_master c w kept drawn down down' sent ahead i) refl
      (λ k le all. second_fares k c w.a i (omega (arith, le, ahead.some)) (given.plans k all) (has_later ahead.bound k w.a le ahead.older))
  to_a B no_master ahead i takes others right =
      let done = came (second_step c w.a i) in quietly B no_master c w kept drawn down down' sent ahead (record w { a = done.0 }) done.1.sends [] (not_taken B no_master c w kept drawn down down' sent ahead A i refl takes) (a_puts B no_master c w kept drawn down down' sent ahead i) refl refl ahead.older

  to_b : (y : Node) → is_same_node y M ≡ false → IsAheadBy y w (generations down) sent → (i : Input) → Takes (link M y Ctl) (given_to B i) down down' → Others (given_to B i) → GoesRight i B → ThenAt y (given_to B i)
  to_b T no_master ahead i takes others right =
      let done = came (second_step c w.b i) in quietly T no_master c w kept drawn down down' sent ahead (record w { b = done.0 }) done.1.sends [] (not_taken T no_master c w kept drawn down down' sent ahead B i refl takes) (b_puts T no_master c w kept drawn down down' sent ahead i) refl refl ahead.older
  to_b M no_master ahead i takes others right = absurd cc
  to_b A no_master ahead i takes others right =
      let done = came (second_step c w.b i) in quietly A no_master c w kept drawn down down' sent ahead (record w { b = done.0 }) done.1.sends [] (not_taken A no_master c w kept drawn down down' sent ahead B i refl takes) (b_puts A no_master c w kept drawn down down' sent ahead i) refl refl ahead.older
  to_b B no_master ahead i takes others right =
      let done = came (second_step c w.b i) in
      let given = given_by B no_master c w kept drawn down down' sent ahead i takes others right in
      acting B no_master c w kept drawn down down' sent ahead (record w { b = done.0 }) done.1.sends done.1.sends given.taken given.is (b_puts B no_master c w kept drawn down down' sent ahead i) refl
      (λ k le all. second_fares k c w.b i (omega (arith, le, ahead.some)) (given.plans k all) (has_later ahead.bound k w.b le ahead.older))

  -- any input
  pub carried_ahead : (y : Node) → is_same_node y M ≡ false → IsAheadBy y w (generations down) sent → (what : Happening) → Takes (link M y Ctl) what down down' → Others what → IsRight what → ThenAt y what
  carried_ahead y no_master ahead (given_to T i) takes others right = to_terminal y no_master ahead i takes others right
  carried_ahead y no_master ahead (given_to M i) takes others right = to_master y no_master c w kept drawn down down' sent ahead i takes
  carried_ahead y no_master ahead (given_to A i) takes others right = to_a y no_master ahead i takes others right
  carried_ahead y no_master ahead (given_to B i) takes others right = to_b y no_master ahead i takes others right
  carried_ahead y no_master ahead (refused_for why) takes others right =
      quietly y no_master c w kept drawn down down' sent ahead w [] [] (on_neither y no_master c w kept drawn down down' sent ahead (refused_for why) takes (λ x i. no_way x i)) refl refl refl ahead.older
    where
      no_way : (x : Node) (i : Input) → refused_for why ≡ given_to x i → ⊥
      no_way x i e = absurd cc
  carried_ahead y no_master ahead (on_links effects) takes others right =
      quietly y no_master c w kept drawn down down' sent ahead w effects.sends [] (on_neither y no_master c w kept drawn down down' sent ahead (on_links effects) takes (λ x i. no_way x i))
      (ap (λ fs. generations (records_in fs)) (sent_bare (link M y Ctl) refl effects.sends ∙ ap bare_flights (right (link M y Ctl) refl))) refl refl ahead.older
    where
      no_way : (x : Node) (i : Input) → on_links effects ≡ given_to x i → ⊥
      no_way x i e = absurd cc
