-- In each run what a node has is older than each plan on its way to it: a generation is new at a node when it takes its plan.
use Rattle.std.proofs.Common.{ℕ, ◌≡◌, ◌≤◌, ◌++◌, false, List, [], ◌∷◌, refl, sym, ap, subst, ◌∙◌, append_assoc, arith}
use Rattle.dc_base.specs.Links.{link}
use Rattle.dc_base.specs.Nodes.{is_same_node}
use Rattle.dc_base.specs.declared.events.Event.{Event}
use Rattle.dc_base.specs.declared.events.Header.{Header}
use Rattle.dc_base.specs.declared.nodes.Class.TheVariants.{Ctl}
use Rattle.dc_base.specs.declared.nodes.Node.{Node}
use Rattle.dc_base.specs.declared.nodes.Node.TheVariants.{A, B, M, T}
use Rattle.dc_base.specs.declared.records.Rec.{Rec}
use Rattle.std.proofs.lemmas.List.{append-nil}
use Rattle.node_rules.specs.Choices.{Choices, Send}
use Rattle.node_rules.specs.MasterStep.{master_step}
use Rattle.node_rules.specs.Run.{Happening, carried_on, given_to, happening, on_links, refused_for, world_after, world_step}
use Rattle.node_rules.specs.World.{World, new_world}
use Rattle.run_control.specs.Links.{records_on, sent_on}
use Rattle.run_control.specs.SecondControl.{records_sent}
use Rattle.run_control.specs.Sound.{AreSound}
use Rattle.run_control.specs.Traffic.{came}
use Rattle.run_control.proofs.Links.{IsControlLink, master_a, master_b, master_terminal}
use Rattle.run_control.proofs.Records.{bare_records}
use Rattle.run_control.proofs.Steps.{master_stepped}
use Rattle.run_control.proofs.Taken.{event_right, event_takes, left_by, records_in}
use Rattle.run_control.proofs.TalkRuns.{after_is, event_kept, new_kept, nothing_comes}
use Rattle.run_control.proofs.TalkSteps.{IsKept}
use Rattle.run_generations.specs.Ahead.{AreSentBelow, IsAhead, IsOlder, generations, sends_by, sent_in}
use Rattle.run_generations.specs.Newer.{Between, IsDrawn, fresh_from, plan_generation}
use Rattle.run_generations.proofs.Events.{carried_ahead, sent_later}
use Rattle.run_generations.proofs.Seconds.{has_later}
use Rattle.run_generations.proofs.Terminals.{halves_later}
use Rattle.run_generations.proofs.Masters.{stepped_told}
use Rattle.run_generations.proofs.Putting.{bare_generations, generations_append, put_to}

-- ---- a plan that awaits its agreement is the last one drawn

carried_drawn : (c : Choices) (w : World) (what : Happening) → IsKept w → IsDrawn w.master.proc → IsDrawn (carried_on c w what).0.master.proc
carried_drawn c w (given_to T i) kept drawn = drawn
carried_drawn c w (given_to M i) kept drawn = (stepped_told T c w.master i (came (master_step c w.master i)) kept.ordered.master kept.sound drawn (master_stepped c w.master i kept.ordered.master)).drawn
carried_drawn c w (given_to A i) kept drawn = drawn
carried_drawn c w (given_to B i) kept drawn = drawn
carried_drawn c w (refused_for why) kept drawn = drawn
carried_drawn c w (on_links effects) kept drawn = drawn

event_drawn : (c : Choices) (w : World) (e : Event) → IsKept w → IsDrawn w.master.proc → IsDrawn (world_step c w e).0.master.proc
event_drawn c w e kept drawn = carried_drawn c w (happening w e) kept drawn

-- ---- an event

down_link : (y : Node) → is_same_node y M ≡ false → IsControlLink (link M y Ctl)
down_link T no_master = master_terminal
down_link M no_master = absurd cc
down_link A no_master = master_a
down_link B no_master = master_b

older_links : (y : Node) (c : Choices) (w : World) (e : Event) (k : ℕ) → IsOlder y k (carried_on c w (happening w e)).0 → IsOlder y k (world_step c w e).0
older_links T c w e k is = is
older_links M c w e k is = is
older_links A c w e k is = is
older_links B c w e k is = is

pub event_ahead : (c : Choices) (w : World) (e : Event) (y : Node) (sent : List Send) → is_same_node y M ≡ false → IsKept w → IsDrawn w.master.proc → IsAhead y w sent
    → IsAhead y (world_step c w e).0 (sent ++ sends_by y (happening w e) (carried_on c w (happening w e)).1.sends)
event_ahead c w e y sent no_master kept drawn ahead =
    let what = happening w e in
    let l = link M y Ctl in
    let left = records_in (left_by c w l refl e what) in
    let sends = (carried_on c w what).1.sends in
    let is : generations (records_on M y (world_step c w e).0) ≡ generations left ++ put_to y (records_sent sends) =
    sym (bare_generations (records_on M y (world_step c w e).0))
    ∙ ap generations (after_is c w e l (down_link y no_master) refl refl kept.long kept.ordered)
    ∙ generations_append (bare_records left) (records_in (sent_on l (records_sent sends)))
    ∙ ap (λ gs. gs ++ put_to y (records_sent sends)) (bare_generations left) in
    let then' =
    carried_ahead c w kept drawn (records_on M y w) left sent y no_master ahead what (event_takes c w l refl e) (λ k none. nothing_comes c w e k none (kept.silent k none)) (event_right w e) in
    record {
      bound = then'.bound;
      some = then'.some;
      older = older_links y c w e then'.bound then'.older;
      below = then'.below;
      line = subst (λ gs. Between then'.bound gs (fresh_from y (world_step c w e).0.master.proc)) (sym is) then'.line;
    }

-- ---- a run

new_ahead : (h : Header) (y : Node) → IsAhead y (new_world h) []
new_ahead h T = record { bound = 1; some = omega arith; older = tt; below = tt; line = omega arith }
new_ahead h M = record { bound = 1; some = omega arith; older = tt; below = tt; line = omega arith }
new_ahead h A = record { bound = 1; some = omega arith; older = (tt, (tt, tt)); below = tt; line = omega arith }
new_ahead h B = record { bound = 1; some = omega arith; older = (tt, (tt, tt)); below = tt; line = omega arith }

run_ahead : (c : Choices) (w : World) (es : List Event) (y : Node) (sent : List Send) → is_same_node y M ≡ false → AreSound es → IsKept w → IsDrawn w.master.proc → IsAhead y w sent
    → IsAhead y (world_after c w es) (sent ++ sent_in y c w es)
run_ahead c w [] y sent no_master sound kept drawn ahead = subst (IsAhead y w) (sym (append-nil sent)) ahead
run_ahead c w (e ∷ es) y sent no_master sound kept drawn ahead =
    let own = sends_by y (happening w e) (carried_on c w (happening w e)).1.sends in
    subst (IsAhead y (world_after c (world_step c w e).0 es)) (append_assoc sent own (sent_in y c (world_step c w e).0 es))
    (run_ahead c (world_step c w e).0 es y (sent ++ own) no_master sound.1 (event_kept c w e sound.0 kept) (event_drawn c w e kept drawn) (event_ahead c w e y sent no_master kept drawn ahead))

-- in each run, for the terminal and each secondary node, with all that it sent
pub always_ahead : (c : Choices) (h : Header) (es : List Event) (y : Node) → is_same_node y M ≡ false → AreSound es → IsAhead y (world_after c (new_world h) es) (sent_in y c (new_world h) es)
always_ahead c h es y no_master sound = run_ahead c (new_world h) es y [] no_master sound (new_kept h) tt (new_ahead h y)

-- ---- a plan is taken

older_later : (y : Node) (w : World) (a b : ℕ) → a ≤ b → IsOlder y a w → IsOlder y b w
older_later T w a b le is = halves_later a b w.terminal le is
older_later M w a b le is = tt
older_later A w a b le is = has_later a b w.a le is
older_later B w a b le is = has_later a b w.b le is

-- when a node takes a plan, it has nothing of its generation yet, nor of a later one, and has sent nothing of these
pub new_when_taken : (y : Node) (w : World) (sent : List Send) (r : Rec) (q : List Rec) (g : ℕ) → IsAhead y w sent → records_on M y w ≡ r ∷ q → plan_generation r ≡ g ∷ [] → IsOlder y g w × AreSentBelow g sent
new_when_taken y w sent r q g ahead first is =
    let line : generations (records_on M y w) ≡ g ∷ generations q = ap generations first ∙ ap (λ gs. gs ++ generations q) is in
    let le = (subst (λ gs. Between ahead.bound gs (fresh_from y w.master.proc)) line ahead.line).0 in
    (older_later y w ahead.bound g le ahead.older, sent_later ahead.bound g sent le ahead.below)
