-- A step of what the master holds of a bearer, as a step of the master.
use Rattle.std.proofs.Common.{◌≡◌, ℕ, List, [], ap, Some}
use Rattle.std.specs.Prelude.{Option}
use Rattle.std.specs.BTreeMap.{insert_entry}
use Rattle.std.specs.Ordering.{nat_cmp}
use Rattle.node_rules.specs.Anchor.{AnchorState, setup_at}
use Rattle.node_rules.specs.Choices.{Send}
use Rattle.node_rules.specs.Held.{held}
use Rattle.node_rules.specs.Host.{Host}
use Rattle.node_rules.specs.Master.{MasterNode}
use Rattle.node_rules.specs.MasterStep.{on_host}
use Rattle.node_rules.specs.declared.bearers.AnchorOut.{AnchorOut}
use Rattle.node_rules.specs.declared.inputs.Effects.{Effects}
use Rattle.master_core.specs.Steps.{stepped}

-- what is held by identities, with one that took the place of another
abbrev pub Written : {X : Type 0} → List (ℕ × X) → ℕ → X → List (ℕ × X) → Type 0
Written xs id w es = es ≡ insert_entry nat_cmp xs id w

pub anchor_steps : (m : MasterNode) (id : ℕ) (f : AnchorState → AnchorState × AnchorOut) (a : AnchorState) (done : AnchorState × AnchorOut) (es : List (ℕ × AnchorState)) (g : ℕ) → held id m.anchors ≡ Some a → Written m.anchors id done.0 es
    → done ≡ f a → g ≡ (setup_at a).g
    → (let out : MasterNode × Option (ℕ × AnchorOut) = (record m { anchors = es }, Some (g, done.1)) in out) ≡ stepped m id f (held id m.anchors)
anchor_steps m id f a done es g there put step of =
    rw (there, put, of) (ap (λ (d : AnchorState × AnchorOut). (let out : MasterNode × Option (ℕ × AnchorOut) = (record m { anchors = insert_entry nat_cmp m.anchors id d.0 }, Some ((setup_at a).g, d.1)) in out)) step)

pub host_steps : (m : MasterNode) (id : ℕ) (f : Host → Host × List Send) (h : Host) (done : Host × List Send) (es : List (ℕ × Host)) → held id m.hosts ≡ Some h → Written m.hosts id done.0 es
    → done ≡ f h
    → (let out : MasterNode × Effects = (record m { hosts = es }, record { notes = []; sends = done.1 }) in out) ≡ on_host m id f (held id m.hosts)
host_steps m id f h done es there put step =
    rw (there, put) (ap (λ (d : Host × List Send). (let out : MasterNode × Effects = (record m { hosts = insert_entry nat_cmp m.hosts id d.0 }, record { notes = []; sends = d.1 }) in out)) step)
