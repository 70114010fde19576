-- A plan that comes to a node is of a generation of which the stories have nothing there.
use Rattle.std.proofs.Common.{◌≡◌, ℕ, ◌+◌, ◌-◌, ◌≤◌, ◌++◌, true, false, List, [], ◌∷◌, Option, Some, None, refl, sym, ap, ◌∙◌, subst, inl, inr, arith}
use Rattle.std.specs.List.{AllByRecursion}
use Rattle.std.proofs.lemmas.Bool.{cases_Bool}
use Rattle.std.proofs.lemmas.List.{append-nil}
use Rattle.dc_base.specs.Links.{is_same_link, link}
use Rattle.dc_base.specs.Nodes.{is_same_node}
use Rattle.dc_base.specs.declared.events.Event.{Event}
use Rattle.dc_base.specs.declared.events.Line.{Line}
use Rattle.dc_base.specs.declared.events.Line.TheVariants as line
use Rattle.dc_base.specs.declared.flights.Flight.TheVariants as flight
use Rattle.dc_base.specs.declared.nodes.Class.TheVariants.{Air, Ctl}
use Rattle.dc_base.specs.declared.nodes.LinkId.{LinkId}
use Rattle.dc_base.specs.declared.nodes.Node.{Node}
use Rattle.dc_base.specs.declared.nodes.Node.TheVariants.{A, B, M, T}
use Rattle.dc_base.specs.declared.records.Rec.{Rec}
use Rattle.transcript.specs.Content.{put_on}
use Rattle.master_runs.proofs.Contents.{flights_next}
use Rattle.master_runs.proofs.Moving.{same_link}
use Rattle.node_rules.specs.Choices.{Choices, Send}
use Rattle.node_rules.specs.MasterStep.{master_step}
use Rattle.node_rules.specs.Run.{Happening, carried_on, given_to, happening, on_links, refused_for, world_step}
use Rattle.node_rules.specs.World.{World, flights_on}
use Rattle.node_rules.specs.declared.inputs.Input.{Input}
use Rattle.node_rules.specs.declared.inputs.Input.TheVariants.{Cmd, Come}
use Rattle.run_control.specs.Links.{records_on}
use Rattle.run_control.specs.Steps.{record_in}
use Rattle.run_control.specs.Traffic.{came}
use Rattle.run_control.proofs.NoLinks.{IsNoLink, a_a, a_b, a_terminal, b_a, b_b, b_terminal, terminal_a, terminal_b, terminal_terminal}
use Rattle.run_control.proofs.Steps.{master_stepped}
use Rattle.run_control.proofs.Taken.{GoesRight, HasNone, IsRight, NoneOf, Takes, event_right, event_takes, left_by, records_in, takes_none, takes_one}
use Rattle.run_control.proofs.TalkRuns.{nothing_comes}
use Rattle.run_control.proofs.TalkSteps.{IsKept, refutes}
use Rattle.run_senders.specs.Lines.{IsLineBy, IsOwnLine}
use Rattle.run_senders.specs.Holders.{AreThere}
use Rattle.run_senders.proofs.Lines.{event_copies, own_lines}
use Rattle.run_generations.specs.Ahead.{AllBelow, IsAhead, IsOlder, generations}
use Rattle.run_generations.specs.Newer.{Between, IsDrawn, fresh_from, later, plan_generation}
use Rattle.run_generations.proofs.Masters.{stepped_told}
use Rattle.run_generations.proofs.Runs.{event_ahead}
use Rattle.run_generations.proofs.Telling.{later_is}
use Rattle.run_confirmed.specs.Stories.{IsUnused, Layout, Stories}

-- from this generation on the stories have nothing of the node; all that it has is older, and the plans on their way to it are not
pub record Fresh (layout : Layout) (y : Node) (w : World) (stories : Stories) : Type 0 where
  pub bound : ℕ
  pub some : 1 ≤ bound
  pub older : IsOlder y bound w
  pub line : Between bound (generations (records_on M y w)) (fresh_from y w.master.proc)
  pub unused : (id g : ℕ) → bound ≤ g → IsUnused layout y id g (stories id g)

-- ---- a plan that awaits its agreement is the last one drawn

carried_drawn : (c : Choices) (w : World) (what : Happening) → IsKept w → IsDrawn w.master.proc → IsDrawn (carried_on c w what).0.master.proc
carried_drawn c w (given_to T i) kept drawn = drawn
carried_drawn c w (given_to M i) kept drawn = (stepped_told T c w.master i (came (master_step c w.master i)) kept.ordered.master kept.sound drawn (master_stepped c w.master i kept.ordered.master)).drawn
carried_drawn c w (given_to A i) kept drawn = drawn
carried_drawn c w (given_to B i) kept drawn = drawn
carried_drawn c w (refused_for why) kept drawn = drawn
carried_drawn c w (on_links effects) kept drawn = drawn

pub drawn_next : (c : Choices) (w : World) (e : Event) → IsKept w → IsDrawn w.master.proc → IsDrawn (world_step c w e).0.master.proc
drawn_next c w e kept drawn = carried_drawn c w (happening w e) kept drawn

-- ---- plans on their way

between_lower : (i j k : ℕ) (gs : List ℕ) → i ≤ j → Between j gs k → Between i gs k
between_lower i j k [] le is = omega (arith, le, is)
between_lower i j k (g ∷ gs) le is = (let first = is.0 in omega (arith, le, first), is.1)

-- whoever acts, what is on its way is no older than before
pub line_stays : (c : Choices) (w : World) (e : Event) (y : Node) → is_same_node y M ≡ false → IsKept w → IsDrawn w.master.proc → (b : ℕ) → 1 ≤ b → IsOlder y b w
    → Between b (generations (records_on M y w)) (fresh_from y w.master.proc)
    → Between b (generations (records_on M y (world_step c w e).0)) (fresh_from y (world_step c w e).0.master.proc)
line_stays c w e y no_master kept drawn b some older up =
    let mark : List Send = (link T M Air, flight.Air 0 (b - 1) 0 None []) ∷ [] in
    let ahead : IsAhead y w mark = record { bound = b; some = some; older = older; below = (omega (arith, some), tt); line = up } in
    let next = event_ahead c w e y mark no_master kept drawn ahead in
    let least = next.below.0 in
    between_lower b next.bound (fresh_from y (world_step c w e).0.master.proc) (generations (records_on M y (world_step c w e).0)) (omega (arith, some, least)) next.line

-- ---- what a node takes

-- those that are taken are below a bound from which the others ascend
split : (from below : ℕ) (gs hs : List ℕ) → Between from (gs ++ hs) below → (k : ℕ) × (from ≤ k) × AllBelow k gs × Between k hs below
split from below [] hs up = (from, omega arith, tt, up)
split from below (g ∷ gs) hs up = by (split (g + 1) below gs hs up.1)
  where
    by : ((k : ℕ) × (g + 1 ≤ k) × AllBelow k gs × Between k hs below) → (k : ℕ) × (from ≤ k) × AllBelow k (g ∷ gs) × Between k hs below
    by (k, le, all, rest) = let first = up.0 in (k, omega (arith, le, first), (le, all), rest)

-- between no two of these nodes
no_link_to : (y x : Node) → is_same_node y M ≡ false → is_same_node x M ≡ false → IsNoLink (link x y Ctl)
no_link_to T T no_master apart = terminal_terminal
no_link_to T M no_master apart = absurd (let bad : true ≡ false = apart in cc)
no_link_to T A no_master apart = a_terminal
no_link_to T B no_master apart = b_terminal
no_link_to M x no_master apart = absurd (let bad : true ≡ false = no_master in cc)
no_link_to A T no_master apart = terminal_a
no_link_to A M no_master apart = absurd (let bad : true ≡ false = apart in cc)
no_link_to A A no_master apart = a_a
no_link_to A B no_master apart = b_a
no_link_to B T no_master apart = terminal_b
no_link_to B M no_master apart = absurd (let bad : true ≡ false = apart in cc)
no_link_to B A no_master apart = a_b
no_link_to B B no_master apart = b_b

-- a node gets a record from the master alone
not_given : (y : Node) → is_same_node y M ≡ false → (i : Input) (r : Rec) → ((l : LinkId) → IsNoLink l → NoneOf l i) → NoneOf (link M y Ctl) i → GoesRight i y
    → record_in i ≡ Some r → ⊥
not_given y no_master (Cmd e) r others none right is = let bad : None ≡ Some r = is in cc
not_given y no_master (Come k f) r others none right is = by k.from refl
  where
    by : (x : Node) → k.from ≡ x → ⊥
    by M from = refutes M y k f r none from right is
    by T from = refutes T y k f r (others (link T y Ctl) (no_link_to y T no_master refl)) from right is
    by A from = refutes A y k f r (others (link A y Ctl) (no_link_to y A no_master refl)) from right is
    by B from = refutes B y k f r (others (link B y Ctl) (no_link_to y B no_master refl)) from right is

-- from this generation on the node was told of nothing, once it took an input: its plan, if it has one, is below, and the others are not
pub record Hears (y : Node) (b : ℕ) (i : Input) (left : List Rec) (fresh : ℕ) : Type 0 where
  pub k : ℕ
  pub le : b ≤ k
  pub below : (r : Rec) → record_in i ≡ Some r → AllBelow k (plan_generation r)
  pub newer : (r : Rec) → record_in i ≡ Some r → (g : ℕ) → 1 ≤ g → plan_generation r ≡ later g → b ≤ g
  pub up : Between k (generations left) fresh

one_some : (r q : Rec) → ◌≡◌ {A = Option Rec} (Some r) (Some q) → r ≡ q
one_some r q is = cc

by_takes : (y : Node) → is_same_node y M ≡ false → (b fresh : ℕ) (i : Input) (before left : List Rec) → ((l : LinkId) → IsNoLink l → NoneOf l i) → GoesRight i y
    → Takes (link M y Ctl) (given_to y i) before left → Between b (generations before) fresh
    → Hears y b i left fresh
by_takes y no_master b fresh i before left others right (takes_none same none) up = record {
  k = b;
  le = omega arith;
  below = λ r is. absurd (not_given y no_master i r others none right is);
  newer = λ r is. absurd (not_given y no_master i r others none right is);
  up = subst (λ rs. Between b (generations rs) fresh) (sym same) up;
}
by_takes y no_master b fresh i before left others right (takes_one r first is) up =
    by (split b fresh (plan_generation r) (generations left) (subst (λ rs. Between b (generations rs) fresh) first up))
  where
    input : Happening → Input
    input (given_to x j) = j
    input (refused_for why) = i
    input (on_links effects) = i

    same : (q : Rec) → record_in i ≡ Some q → r ≡ q
    same q came_in = one_some r q (sym (ap (λ h. record_in (input h)) is) ∙ came_in)

    first_is : (g : ℕ) → 1 ≤ g → plan_generation r ≡ later g → b ≤ g
    first_is g one of =
        let gs : plan_generation r ≡ g ∷ [] = of ∙ later_is g one in
        (subst (λ zs. Between b (zs ++ generations left) fresh) gs (subst (λ rs. Between b (generations rs) fresh) first up)).0

    by : ((k : ℕ) × (b ≤ k) × AllBelow k (plan_generation r) × Between k (generations left) fresh) → Hears y b i left fresh
    by (k, le, all, rest) = record {
      k = k;
      le = le;
      below = λ q came_in. subst (λ z. AllBelow k (plan_generation z)) (same q came_in) all;
      newer = λ q came_in g one of. first_is g one (ap plan_generation (same q came_in) ∙ of);
      up = rest;
    }

-- ---- and puts nothing on its own line

none_put : (y : Node) (l : LinkId) → l.from ≡ M → is_same_node y M ≡ false → (xs : List Line) → AllByRecursion (IsLineBy y) xs → put_on l xs ≡ []
none_put y l from no_master [] by = refl
none_put y l from no_master (line.Send k f ∷ xs) by =
    elim (cases_Bool (is_same_link l k)) [
      | inl same ↦
          absurd (let from_y : y ≡ M = sym by.0.0 ∙ sym (ap (λ (j : LinkId). j.from) (same_link l k same)) ∙ from in
          let bad : true ≡ false = sym (ap (λ (z : Node). is_same_node z M) from_y) ∙ no_master in cc)
      | inr other ↦ rw other (none_put y l from no_master xs by.1)
    ]
none_put y l from no_master (line.Note n ∷ xs) by = none_put y l from no_master xs by.1
none_put y l from no_master (line.Event e ∷ xs) by = none_put y l from no_master xs by.1
none_put y l from no_master (line.Answer a ∷ xs) by = none_put y l from no_master xs by.1

own_master : (c : Choices) (w : World) (y : Node) (i : Input) → is_same_node y M ≡ false → (carried_on c w (given_to y i)).0.master ≡ w.master
own_master c w T i no_master = refl
own_master c w M i no_master = absurd (let bad : true ≡ false = no_master in cc)
own_master c w A i no_master = refl
own_master c w B i no_master = refl

-- what a node hears where it acts
pub hears_at : (c : Choices) (w : World) (e : Event) (y : Node) (i : Input) → is_same_node y M ≡ false → IsKept w → AreThere w → happening w e ≡ given_to y i → (b : ℕ)
    → Between b (generations (records_on M y w)) (fresh_from y w.master.proc)
    → Hears y b i (records_on M y (world_step c w e).0) (fresh_from y (world_step c w e).0.master.proc)
hears_at c w e y i no_master kept there what b up =
    let l = link M y Ctl in
    let left = left_by c w l refl e (happening w e) in
    let takes : Takes l (given_to y i) (records_on M y w) (records_in left) = subst (λ (h : Happening). Takes l h (records_on M y w) (records_in left)) what (event_takes c w l refl e) in
    let others : (j : LinkId) → IsNoLink j → NoneOf j i = λ j none. subst (λ (h : Happening). HasNone j h) what (nothing_comes c w e j none (kept.silent j none)) in
    let right : GoesRight i y = subst IsRight what (event_right w e) in
    let lines = (world_step c w e).1.lines in
    let own : AllByRecursion (IsLineBy y) lines = subst (λ (h : Happening). AllByRecursion (IsOwnLine w e h) lines) what (own_lines c w e (happening w e) there (event_copies w e)) in
    let flights : flights_on l (world_step c w e).0.links ≡ left =
    flights_next c w e l kept.long ∙ ap (λ fs. left ++ fs) (none_put y l refl no_master lines own) ∙ append-nil left in
    let same : records_on M y (world_step c w e).0 ≡ records_in left = ap records_in flights in
    let proc : (world_step c w e).0.master ≡ w.master = ap (λ (h : Happening). (carried_on c w h).0.master) what ∙ own_master c w y i no_master in
    subst (λ rs. Hears y b i rs (fresh_from y (world_step c w e).0.master.proc)) (sym same)
    (subst (λ m. Hears y b i (records_in left) (fresh_from y m.proc)) (sym proc) (by_takes y no_master b (fresh_from y w.master.proc) i (records_on M y w) (records_in left) others right takes up))
