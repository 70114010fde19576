-- By whether an anchor is active, and whether what is frozen is for a change.
use Rattle.std.proofs.Common.{◌≡◌, ℕ, List, [], ◌∷◌, ap, refl, Some, None, Option, Bool, true, false, ◌==◌, ◌&&◌, IsSome}
use Rattle.std.specs.Prelude.{is_some, not, cond}
use Rattle.std.specs.Option.{option_and_then, option_map}
use Rattle.std.specs.BTreeMap.{insert_entry}
use Rattle.std.specs.Ordering.{nat_cmp}
use Rattle.anchor.specs.States.{frozen_at, is_waiting}
use Rattle.dc_base.specs.Count.{bits}
use Rattle.dc_base.specs.Links.{link}
use Rattle.dc_base.specs.declared.answers.Refusal.TheVariants as refusal
use Rattle.dc_base.specs.declared.events.Note.TheVariants as note
use Rattle.dc_base.specs.declared.flights.Flight.TheVariants as flight
use Rattle.dc_base.specs.declared.nodes.Class.TheVariants.{Ctl}
use Rattle.dc_base.specs.declared.nodes.Node.{Node}
use Rattle.dc_base.specs.declared.nodes.Node.TheVariants.{M}
use Rattle.dc_base.specs.declared.numbers.SnLen.{SnLen}
use Rattle.dc_base.specs.declared.records.Rec.TheVariants as rec
use Rattle.node_rules.specs.Anchor.{Active, AnchorState, active_anchor, setup_at, waiting_anchor}
use Rattle.node_rules.specs.AnchorSending.{report}
use Rattle.node_rules.specs.Choices.{Choices, Send}
use Rattle.node_rules.specs.Effects.{accepted, noted, quiet}
use Rattle.node_rules.specs.Feed.{Fed, Frozen, freeze_fed, frozen_of, has_ended}
use Rattle.node_rules.specs.Freezing.{FreezeOut as Given, forward_end}
use Rattle.node_rules.specs.Held.{held, holding}
use Rattle.node_rules.specs.Readers.{edges_of, entity_edges, entity_in}
use Rattle.node_rules.specs.SecondPlan.{frozen_active, frozen_there, owned_there, renewed_active, renewed_there, with_fed}
use Rattle.node_rules.specs.SecondStep.{frozen_ended, is_like, second_report}
use Rattle.node_rules.specs.Secondary.{SecondNode, active_at, active_in, name_of, on_fed}
use Rattle.node_rules.specs.Setup.{Setup}
use Rattle.node_rules.specs.declared.bearers.Edges.{Edges}
use Rattle.node_rules.specs.declared.inputs.Effects.{Effects}
use Rattle.node_rules.specs.declared.inputs.Outcome.{Outcome}
use Rattle.second_core.specs.Steps.{is_frozen_for, renewed_as}

-- an active anchor is one that does not wait
pub is_active : (a : AnchorState) → not (is_waiting a) ≡ is_some (active_in a)
is_active (waiting_anchor w) = refl
is_active (active_anchor a) = refl

-- the active anchor of a bearer is that of the line
pub active_of : (s : SecondNode) (id : ℕ) (x : Fed) → held id s.anchors ≡ Some x → active_at s id ≡ active_in x.anchor
active_of s id x there = ap (option_and_then (λ (f : Fed). active_in f.anchor)) there

-- the edges of an active anchor in its generation
pub edges_in : (a : AnchorState) (g : ℕ) → ((setup_at a).g == g) ≡ true → edges_of g (option_map (λ (x : Active). x.entity) (active_in a)) ≡ option_map entity_edges (entity_in a)
edges_in (waiting_anchor w) g is = refl
edges_in (active_anchor a) g is = rw is refl

-- and in none else
pub edges_in_none : (a : AnchorState) (g : ℕ) → ((setup_at a).g == g) ≡ false → edges_of g (option_map (λ (x : Active). x.entity) (active_in a)) ≡ None
edges_in_none (waiting_anchor w) g is = refl
edges_in_none (active_anchor a) g is = rw is refl

-- what an active anchor is set up with
pub like_by : (n : SnLen) (first : ℕ) (a : AnchorState) → is_waiting a ≡ false → is_like n first (active_in a) ≡ ((bits (setup_at a).n == bits n) && ((setup_at a).first == first))
like_by n first (waiting_anchor w) active = cc
like_by n first (active_anchor a) active = refl

-- a report of a bearer whose anchor is active
pub report_of : (c : Choices) (s : SecondNode) (id : ℕ) (o : Option Active) → is_some o ≡ true → accepted (on_fed s id (report c) (held id s.anchors)) ≡ second_report c s id o
report_of c s id None active = cc
report_of c s id (Some a) active = refl

-- an active anchor stays
renewed_by : (s : SecondNode) (id g : ℕ) (setup : Setup) (x : Fed) (done : Fed × Bool) (a : AnchorState) → is_some (active_in a) ≡ true → done ≡ renewed_as x setup a
    → owned_there s id g (Some done.0) ≡ renewed_active s id g setup x (active_in a)
renewed_by s id g setup x done (waiting_anchor w) active step = cc
renewed_by s id g setup x done (active_anchor a) active step = ap (λ (d : Fed × Bool). owned_there s id g (Some d.0)) step

pub renews : (s : SecondNode) (id g : ℕ) (setup : Setup) (x : Fed) (done : Fed × Bool) (es : List (ℕ × Fed)) → held id s.anchors ≡ Some x → es ≡ insert_entry nat_cmp s.anchors id done.0
    → is_some (active_at s id) ≡ true → done ≡ renewed_as x setup x.anchor
    → (let out : SecondNode × Effects = (record s { anchors = es }, noted (note.Own (name_of s) id g)) in out) ≡ renewed_there s id g (Some setup) (held id s.anchors)
renews s id g setup x done es there put active step = rw (there, put) (renewed_by s id g setup x done x.anchor (rw there at active) step)

renewed_not_by : (s : SecondNode) (id g : ℕ) (setup : Setup) (x : Fed) (a : AnchorState) → is_some (active_in a) ≡ false → (let out : SecondNode × Effects = (s, quiet) in out) ≡ renewed_active s id g setup x (active_in a)
renewed_not_by s id g setup x (waiting_anchor w) none = refl
renewed_not_by s id g setup x (active_anchor a) none = cc

renews_not_by : (s : SecondNode) (id g : ℕ) (setup : Setup) (o : Option Fed) → is_some (option_and_then (λ (f : Fed). active_in f.anchor) o) ≡ false
    → (let out : SecondNode × Effects = (s, quiet) in out) ≡ renewed_there s id g (Some setup) o
renews_not_by s id g setup None none = refl
renews_not_by s id g setup (Some x) none = renewed_not_by s id g setup x x.anchor none

-- a waiting anchor does not
pub renews_not : (s : SecondNode) (id g : ℕ) (setup : Setup) → is_some (active_at s id) ≡ false → (let out : SecondNode × Effects = (s, quiet) in out) ≡ renewed_there s id g (Some setup) (held id s.anchors)
renews_not s id g setup none = renews_not_by s id g setup (held id s.anchors) none

-- what a freeze gives, at the node
abbrev pub Gave : SecondNode → ℕ → ℕ → ℕ → Given → SecondNode × Effects
Gave s id g since done = (
  record s { anchors = holding id None s.anchors; frozen = holding id (frozen_of since done.rest) s.frozen },
  record { notes = note.Give (name_of s) id g ∷ []; sends = (link (name_of s) M Ctl, flight.Ctl (rec.Snst done.status)) ∷ done.sends },
)

given_by : (s : SecondNode) (id g : ℕ) (to : Node) (x : Fed) (done : Given) (a : AnchorState) → Some done ≡ frozen_at a to g (has_ended x.ended g) → Gave s id g x.since done ≡ frozen_active s id g to x (active_in a)
given_by s id g to x done (waiting_anchor w) step = cc
given_by s id g to x done (active_anchor a) step = let same : done ≡ freeze_fed x a to g = cc in ap (Gave s id g x.since) same

-- an active anchor is handed over
pub hands_over : (s : SecondNode) (id g : ℕ) (to : Node) (x : Fed) (done : Given) → held id s.anchors ≡ Some x → Some done ≡ frozen_at x.anchor to g (has_ended x.ended g)
    → Gave s id g x.since done ≡ frozen_there s id g to (held id s.anchors)
hands_over s id g to x done there step = rw there (given_by s id g to x done x.anchor step)

given_not_by : (s : SecondNode) (id g : ℕ) (to : Node) (x : Fed) (a : AnchorState) → is_some (active_in a) ≡ false → (let out : SecondNode × Effects = (s, quiet) in out) ≡ frozen_active s id g to x (active_in a)
given_not_by s id g to x (waiting_anchor w) none = refl
given_not_by s id g to x (active_anchor a) none = cc

hands_over_not_by : (s : SecondNode) (id g : ℕ) (to : Node) (o : Option Fed) → is_some (option_and_then (λ (f : Fed). active_in f.anchor) o) ≡ false
    → (let out : SecondNode × Effects = (s, quiet) in out) ≡ frozen_there s id g to o
hands_over_not_by s id g to None none = refl
hands_over_not_by s id g to (Some x) none = given_not_by s id g to x x.anchor none

-- a waiting one is not
pub hands_over_not : (s : SecondNode) (id g : ℕ) (to : Node) → is_some (active_at s id) ≡ false → (let out : SecondNode × Effects = (s, quiet) in out) ≡ frozen_there s id g to (held id s.anchors)
hands_over_not s id g to none = hands_over_not_by s id g to (held id s.anchors) none

-- the line of a frozen anchor ends for its change
pub frozen_closes : (s : SecondNode) (id g : ℕ) (f : Frozen) → held id s.frozen ≡ Some f → is_frozen_for g (held id s.frozen) ≡ true
    → (let out : SecondNode × Effects = (record s { frozen = holding id None s.frozen }, record { notes = []; sends = forward_end f.tunnel }) in out) ≡ frozen_ended s id g (held id s.frozen)
frozen_closes s id g f there is = let same : (f.tunnel.g == g) ≡ true = rw there at is in rw there (rw same refl)

-- or for another one
frozen_stays_by : (s : SecondNode) (id g : ℕ) (o : Option Frozen) → held id s.frozen ≡ o → is_frozen_for g o ≡ false
    → ((f : Frozen) → held id s.frozen ≡ Some f → (let after : SecondNode = record s { frozen = holding id (Some f) s.frozen } in after) ≡ s)
    → (let out : SecondNode × Effects = (s, quiet) in out) ≡ frozen_ended s id g o
frozen_stays_by s id g None at other same = refl
frozen_stays_by s id g (Some f) at other same = rw (other, same f at) refl

pub frozen_stays : (s : SecondNode) (id g : ℕ) → is_frozen_for g (held id s.frozen) ≡ false
    → ((f : Frozen) → held id s.frozen ≡ Some f → (let after : SecondNode = record s { frozen = holding id (Some f) s.frozen } in after) ≡ s)
    → (let out : SecondNode × Effects = (s, quiet) in out) ≡ frozen_ended s id g (held id s.frozen)
frozen_stays s id g other same = frozen_stays_by s id g (held id s.frozen) refl other same
