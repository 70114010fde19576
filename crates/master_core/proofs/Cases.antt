-- By whether the master has an anchor of a bearer, and whether it is active.
use Rattle.std.proofs.Common.{◌≡◌, ℕ, List, [], ◌∷◌, ap, refl, Some, None, Option, Bool, true, false, ◌==◌, sym, ◌∙◌}
use Rattle.std.specs.Prelude.{is_some, not}
use Rattle.std.specs.Option.{option_and_then, option_map}
use Rattle.std.specs.BTreeMap.{insert_entry}
use Rattle.std.specs.Ordering.{nat_cmp}
use Rattle.anchor.specs.States.{frozen_at, is_waiting, renewal}
use Rattle.dc_base.specs.Links.{link}
use Rattle.dc_base.specs.declared.events.Note.TheVariants as note
use Rattle.dc_base.specs.declared.flights.Flight.TheVariants as flight
use Rattle.dc_base.specs.declared.nodes.Class.TheVariants.{Ctl}
use Rattle.dc_base.specs.declared.nodes.Node.{Node}
use Rattle.dc_base.specs.declared.nodes.Node.TheVariants.{M}
use Rattle.dc_base.specs.declared.records.Rec.TheVariants as rec
use Rattle.node_rules.specs.Anchor.{AnchorState, active_anchor, setup_at, waiting_anchor}
use Rattle.node_rules.specs.Choices.{Choices}
use Rattle.node_rules.specs.Effects.{noted, quiet}
use Rattle.node_rules.specs.Freezing.{FreezeOut as Given, freeze}
use Rattle.node_rules.specs.Held.{held, holding}
use Rattle.node_rules.specs.Master.{MasterNode, is_waiting as waits, on_anchor}
use Rattle.node_rules.specs.MasterPlan.{adopts_if, frozen_here, on_waiting, owned, renewed_here}
use Rattle.node_rules.specs.Readers.{edges_of, entity_edges, entity_in}
use Rattle.node_rules.specs.Secondary.{active_in}
use Rattle.node_rules.specs.Setup.{Setup}
use Rattle.node_rules.specs.declared.bearers.AnchorOut.{AnchorOut}
use Rattle.node_rules.specs.declared.inputs.Effects.{Effects}
use Rattle.master_core.specs.Steps.{stepped, stepped_out}

-- an active anchor is one that does not wait
pub is_active : (a : AnchorState) → not (is_waiting a) ≡ is_some (active_in a)
is_active (waiting_anchor w) = refl
is_active (active_anchor a) = refl

-- the rules and the anchor say alike of an anchor that it waits
pub is_same_wait : (a : AnchorState) → is_waiting a ≡ waits a
is_same_wait (waiting_anchor w) = refl
is_same_wait (active_anchor a) = refl

-- the edges of an active anchor in its generation
pub edges_in : (a : AnchorState) (g : ℕ) → ((setup_at a).g == g) ≡ true → edges_of g (entity_in a) ≡ option_map entity_edges (entity_in a)
edges_in (waiting_anchor w) g is = refl
edges_in (active_anchor a) g is = rw is refl

-- and in none else
pub edges_in_none : (a : AnchorState) (g : ℕ) → ((setup_at a).g == g) ≡ false → edges_of g (entity_in a) ≡ None
edges_in_none (waiting_anchor w) g is = refl
edges_in_none (active_anchor a) g is = rw is refl

-- ---- a step of an anchor

-- the master with what such a step gave
abbrev pub Stepped : Type 0
Stepped = MasterNode × Option (ℕ × AnchorOut)

-- what comes of it
abbrev pub after_step_by : ℕ → MasterNode → Option (ℕ × AnchorOut) → MasterNode × Effects
after_step_by id n None = (n, quiet)
after_step_by id n (Some x) = stepped_out n id x.1

abbrev pub after_step : ℕ → Stepped → MasterNode × Effects
after_step id s = after_step_by id s.0 s.1

on_stepped : (m : MasterNode) (id : ℕ) (f : AnchorState → AnchorState × AnchorOut) (o : Option AnchorState) → after_step id (stepped m id f o) ≡ on_anchor m id f o
on_stepped m id f None = refl
on_stepped m id f (Some a) = refl

-- the master has no such anchor
pub steps_none : (m n : MasterNode) (id : ℕ) (f : AnchorState → AnchorState × AnchorOut) (o : Option AnchorState) (out : Option (ℕ × AnchorOut)) → out ≡ None → (let s : Stepped = (n, out) in s) ≡ stepped m id f o
    → (let done : MasterNode × Effects = (n, quiet) in done) ≡ on_anchor m id f o
steps_none m n id f o out is step = ap (after_step_by id n) (sym is) ∙ ap (after_step id) step ∙ on_stepped m id f o

-- or it has one
pub steps_some : (m n : MasterNode) (id : ℕ) (f : AnchorState → AnchorState × AnchorOut) (o : Option AnchorState) (g : ℕ) (out : AnchorOut) (done : MasterNode × Effects)
    → (let s : Stepped = (n, Some (g, out)) in s) ≡ stepped m id f o → done ≡ stepped_out n id out
    → done ≡ on_anchor m id f o
steps_some m n id f o g out done step gave = gave ∙ ap (after_step id) step ∙ on_stepped m id f o

-- what comes of a step by which the anchor may adopt
abbrev pub after_waiting_by : Choices → ℕ → MasterNode → Option (ℕ × AnchorOut) → MasterNode × Effects
after_waiting_by c id n None = (n, quiet)
after_waiting_by c id n (Some x) = adopts_if c id x.0 x.1.adopted (stepped_out n id x.1)

abbrev pub after_waiting : Choices → ℕ → Stepped → MasterNode × Effects
after_waiting c id s = after_waiting_by c id s.0 s.1

on_waited : (c : Choices) (m : MasterNode) (id : ℕ) (f : AnchorState → AnchorState × AnchorOut) (o : Option AnchorState) → after_waiting c id (stepped m id f o) ≡ on_waiting c m id f o
on_waited c m id f None = refl
on_waited c m id f (Some a) = refl

-- the master has no such anchor
pub waits_none : (c : Choices) (m n : MasterNode) (id : ℕ) (f : AnchorState → AnchorState × AnchorOut) (o : Option AnchorState) (out : Option (ℕ × AnchorOut)) → out ≡ None → (let s : Stepped = (n, out) in s) ≡ stepped m id f o
    → (let done : MasterNode × Effects = (n, quiet) in done) ≡ on_waiting c m id f o
waits_none c m n id f o out is step = ap (after_waiting_by c id n) (sym is) ∙ ap (after_waiting c id) step ∙ on_waited c m id f o

-- or it has one
pub waits_some : (c : Choices) (m n : MasterNode) (id : ℕ) (f : AnchorState → AnchorState × AnchorOut) (o : Option AnchorState) (g : ℕ) (out : AnchorOut) (done : MasterNode × Effects)
    → (let s : Stepped = (n, Some (g, out)) in s) ≡ stepped m id f o → done ≡ adopts_if c id g out.adopted (stepped_out n id out)
    → done ≡ on_waiting c m id f o
waits_some c m n id f o g out done step does = does ∙ ap (after_waiting c id) step ∙ on_waited c m id f o

-- ---- an active anchor stays

renewed_by : (m : MasterNode) (id g : ℕ) (setup : Setup) (done : AnchorState × Bool) (a : AnchorState) → is_some (active_in a) ≡ true → done ≡ renewal a setup
    → owned m id g (Some done.0) ≡ renewed_here m id g (Some setup) (Some a)
renewed_by m id g setup done (waiting_anchor w) active step = cc
renewed_by m id g setup done (active_anchor a) active step = ap (λ (d : AnchorState × Bool). owned m id g (Some d.0)) step

pub renews : (m : MasterNode) (id g : ℕ) (setup : Setup) (a : AnchorState) (done : AnchorState × Bool) (es : List (ℕ × AnchorState)) → held id m.anchors ≡ Some a → es ≡ insert_entry nat_cmp m.anchors id done.0
    → is_some (option_and_then active_in (held id m.anchors)) ≡ true → done ≡ renewal a setup
    → (let out : MasterNode × Effects = (record m { anchors = es }, noted (note.Own M id g)) in out) ≡ renewed_here m id g (Some setup) (held id m.anchors)
renews m id g setup a done es there put active step = rw (there, put) (renewed_by m id g setup done a (rw there at active) step)

renews_not_by : (m : MasterNode) (id g : ℕ) (setup : Setup) (o : Option AnchorState) → is_some (option_and_then active_in o) ≡ false
    → (let out : MasterNode × Effects = (m, quiet) in out) ≡ renewed_here m id g (Some setup) o
renews_not_by m id g setup None none = refl
renews_not_by m id g setup (Some (waiting_anchor w)) none = refl
renews_not_by m id g setup (Some (active_anchor a)) none = cc

-- a waiting anchor does not
pub renews_not : (m : MasterNode) (id g : ℕ) (setup : Setup) → is_some (option_and_then active_in (held id m.anchors)) ≡ false
    → (let out : MasterNode × Effects = (m, quiet) in out) ≡ renewed_here m id g (Some setup) (held id m.anchors)
renews_not m id g setup none = renews_not_by m id g setup (held id m.anchors) none

-- ---- an active anchor is handed over

-- what a freeze gives, at the master
abbrev pub Gave : MasterNode → ℕ → ℕ → Node → Given → MasterNode × Effects
Gave m id g to done = (
  record m { anchors = holding id None m.anchors },
  record { notes = note.Give M id g ∷ []; sends = (link M to Ctl, flight.Ctl (rec.Snst done.status)) ∷ done.sends },
)

given_by : (m : MasterNode) (id g : ℕ) (to : Node) (done : Given) (a : AnchorState) → Some done ≡ frozen_at a to g true → Gave m id g to done ≡ frozen_here m id g to (Some a)
given_by m id g to done (waiting_anchor w) step = cc
given_by m id g to done (active_anchor a) step = let same : done ≡ freeze a to g true = cc in ap (Gave m id g to) same

pub hands_over : (m : MasterNode) (id g : ℕ) (to : Node) (a : AnchorState) (done : Given) → held id m.anchors ≡ Some a → Some done ≡ frozen_at a to g true
    → Gave m id g to done ≡ frozen_here m id g to (held id m.anchors)
hands_over m id g to a done there step = rw there (given_by m id g to done a step)

hands_over_not_by : (m : MasterNode) (id g : ℕ) (to : Node) (o : Option AnchorState) → is_some (option_and_then active_in o) ≡ false
    → (let out : MasterNode × Effects = (m, quiet) in out) ≡ frozen_here m id g to o
hands_over_not_by m id g to None none = refl
hands_over_not_by m id g to (Some (waiting_anchor w)) none = refl
hands_over_not_by m id g to (Some (active_anchor a)) none = cc

-- a waiting one is not
pub hands_over_not : (m : MasterNode) (id g : ℕ) (to : Node) → is_some (option_and_then active_in (held id m.anchors)) ≡ false
    → (let out : MasterNode × Effects = (m, quiet) in out) ≡ frozen_here m id g to (held id m.anchors)
hands_over_not m id g to none = hands_over_not_by m id g to (held id m.anchors) none
