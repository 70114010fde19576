-- A step of what the node holds of a bearer, as a step of the node.
use Rattle.std.proofs.Common.{◌≡◌, ℕ, List, [], ap, Some}
use Rattle.std.specs.BTreeMap.{insert_entry}
use Rattle.std.specs.Ordering.{nat_cmp}
use Rattle.dc_base.specs.declared.nodes.Node.{Node}
use Rattle.node_rules.specs.Anchor.{AnchorState, setup_at}
use Rattle.node_rules.specs.Choices.{Choices, Send}
use Rattle.node_rules.specs.Effects.{quiet}
use Rattle.node_rules.specs.Feed.{Fed, Frozen, end_in, frozen_sdu_in, sdu_in}
use Rattle.node_rules.specs.Held.{held}
use Rattle.node_rules.specs.Host.{Host}
use Rattle.node_rules.specs.SecondPlan.{with_fed}
use Rattle.node_rules.specs.SecondStep.{fed_ended, fed_took, frozen_took, on_second_host}
use Rattle.node_rules.specs.Secondary.{SecondNode, anchored, fed_did, name_of, on_fed, second_effects}
use Rattle.node_rules.specs.declared.bearers.AnchorOut.{AnchorOut}
use Rattle.node_rules.specs.declared.inputs.Effects.{Effects}

-- the anchors with one that took the place of another
abbrev pub Written : {X : Type 0} → List (ℕ × X) → ℕ → X → List (ℕ × X) → Type 0
Written xs id w es = es ≡ insert_entry nat_cmp xs id w

-- the node after a step of an anchor, with what comes of it
abbrev pub AnchorDid : SecondNode → ℕ → List (ℕ × Fed) → Node → ℕ → AnchorOut → SecondNode × Effects
AnchorDid s id es me g out = (record s { anchors = es }, second_effects me id g out)

pub anchor_steps : (s : SecondNode) (id : ℕ) (f : AnchorState → AnchorState × AnchorOut) (x : Fed) (done : Fed × AnchorOut) (es : List (ℕ × Fed)) (me : Node) (g : ℕ) → held id s.anchors ≡ Some x → Written s.anchors id done.0 es
    → done ≡ anchored x (f x.anchor) → me ≡ name_of s → g ≡ (setup_at done.0.anchor).g
    → AnchorDid s id es me g done.1 ≡ on_fed s id f (held id s.anchors)
anchor_steps s id f x done es me g there put step here of = rw (there, put, here, of) (ap (fed_did s id) step)

pub fed_takes : (c : Choices) (s : SecondNode) (id g : ℕ) (payload : List ℕ) (x : Fed) (done : Fed × AnchorOut) (es : List (ℕ × Fed)) (me : Node) (h : ℕ) → held id s.anchors ≡ Some x → Written s.anchors id done.0 es
    → done ≡ sdu_in c x g payload → me ≡ name_of s → h ≡ (setup_at done.0.anchor).g
    → AnchorDid s id es me h done.1 ≡ fed_took c s id g payload (held id s.anchors)
fed_takes c s id g payload x done es me h there put step here of = rw (there, put, here, of) (ap (fed_did s id) step)

pub fed_ends : (s : SecondNode) (id g : ℕ) (x y : Fed) (es : List (ℕ × Fed)) → held id s.anchors ≡ Some x → Written s.anchors id y es
    → y ≡ end_in x g x.anchor
    → (let out : SecondNode × Effects = (record s { anchors = es }, quiet) in out) ≡ fed_ended s id g (held id s.anchors)
fed_ends s id g x y es there put step = rw (there, put) (ap (λ (z : Fed). (let out : SecondNode × Effects = (with_fed s id (Some z), quiet) in out)) step)

pub frozen_takes : (s : SecondNode) (id g : ℕ) (payload : List ℕ) (x : Frozen) (done : Frozen × List Send) (es : List (ℕ × Frozen)) → held id s.frozen ≡ Some x → Written s.frozen id done.0 es
    → done ≡ frozen_sdu_in x g payload
    → (let out : SecondNode × Effects = (record s { frozen = es }, record { notes = []; sends = done.1 }) in out) ≡ frozen_took s id g payload (held id s.frozen)
frozen_takes s id g payload x done es there put step =
    rw (there, put) (ap (λ (d : Frozen × List Send). (let out : SecondNode × Effects = (record s { frozen = insert_entry nat_cmp s.frozen id d.0 }, record { notes = []; sends = d.1 }) in out)) step)

pub host_steps : (s : SecondNode) (id : ℕ) (f : Host → Host × List Send) (x : Host) (done : Host × List Send) (es : List (ℕ × Host)) → held id s.hosts ≡ Some x → Written s.hosts id done.0 es
    → done ≡ f x
    → (let out : SecondNode × Effects = (record s { hosts = es }, record { notes = []; sends = done.1 }) in out) ≡ on_second_host s id f (held id s.hosts)
host_steps s id f x done es there put step =
    rw (there, put) (ap (λ (d : Host × List Send). (let out : SecondNode × Effects = (record s { hosts = insert_entry nat_cmp s.hosts id d.0 }, record { notes = []; sends = d.1 }) in out)) step)
