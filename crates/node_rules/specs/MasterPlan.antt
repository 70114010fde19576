-- How the master carries a plan out at its node (TS 37.340, 10.2 to 10.5), and what its procedures have it do.
use Rattle.std.specs.Prelude.{Bool, List, None, Option, Some, [], false, if◌then◌else◌, option_map, true, ℕ, ◌∷◌}
use Rattle.dc_base.specs.Links.{link}
use Rattle.dc_base.specs.Nodes.{is_same_node}
use Rattle.dc_base.specs.Records.{item_id}
use Rattle.dc_base.specs.declared.events.Note.{Note}
use Rattle.dc_base.specs.declared.events.Note.TheVariants as note
use Rattle.dc_base.specs.declared.flights.Flight.TheVariants as flight
use Rattle.dc_base.specs.declared.nodes.Class.TheVariants.{Ctl, Feed}
use Rattle.dc_base.specs.declared.nodes.KeyName.{KeyName}
use Rattle.dc_base.specs.declared.nodes.Node.{Node}
use Rattle.dc_base.specs.declared.nodes.Node.TheVariants.{A, B, M, T}
use Rattle.dc_base.specs.declared.records.Item.{Item}
use Rattle.dc_base.specs.declared.records.Item.TheVariants as item
use Rattle.dc_base.specs.declared.records.Plan.{Plan}
use Rattle.dc_base.specs.declared.records.Rec.TheVariants as rec
use Rattle.key_chain.specs.KeyNames.{octets}
use Rattle.transcript.specs.Bearers.{roots}
use Rattle.node_rules.specs.declared.acts.Act.{Act}
use Rattle.node_rules.specs.declared.acts.Act.TheVariants.{FailOne as fail_one, Go as go, Pass as pass, Prepare as prepare, RecoverOne as recover_one, Say as say, Send as send, UnlockAll as unlock_all}
use Rattle.node_rules.specs.Adopting.{status_in}
use Rattle.node_rules.specs.declared.bearers.AnchorOut.{AnchorOut}
use Rattle.node_rules.specs.Anchor.{AnchorState, active_anchor, fresh, renew, setup_at, waiting, waiting_anchor}
use Rattle.node_rules.specs.AnchorSending.{fail_scg, recover, unlock}
use Rattle.node_rules.specs.Choices.{Choices}
use Rattle.node_rules.specs.declared.inputs.Effects.{Effects}
use Rattle.node_rules.specs.Effects.{after_effects, both, in_turn, noted, quiet, sent, told}
use Rattle.node_rules.specs.Freezing.{freeze}
use Rattle.node_rules.specs.Held.{held, holding, identities}
use Rattle.node_rules.specs.declared.bearers.Window.{Window}
use Rattle.node_rules.specs.Master.{MasterNode, anchor_did, on_anchor, on_anchor_of, without_waiting}
use Rattle.node_rules.specs.MasterState.{MasterActs}
use Rattle.node_rules.specs.MasterTaking.{master_adopted}
use Rattle.node_rules.specs.declared.parts.Part.{Part}
use Rattle.node_rules.specs.declared.parts.Part.TheVariants.{Awaits as awaits, Drops as drops, Establishes as establishes, HandsOver as hands_over, HasNoAnchor as has_no_anchor, Renews as renews}
use Rattle.node_rules.specs.Parts.{host_at, item_key, part_at}
use Rattle.node_rules.specs.Places.{anchor_at}
use Rattle.node_rules.specs.Setup.{Setup, setup_of}

-- the octets of the key that an item sets (part of the rule master_setup)
abbrev pub key_octets : List (List ℕ) → Option KeyName → List ℕ
key_octets roots None = []
key_octets roots (Some name) = octets roots name

-- what an item of a plan sets up at the master (TS 37.340, 10.2 to 10.5)
abbrev pub master_setup : MasterNode → Plan → Item → Option Setup
master_setup m p i = setup_of M p m.alg (key_octets m.proc.table.book.roots (item_key i)) i

-- an anchor that the master has from now on, in the generation of a plan (part of the rule master_part)
abbrev pub owned : MasterNode → ℕ → ℕ → Option AnchorState → MasterNode × Effects
owned m id g a = (record m { anchors = holding id a m.anchors }, noted (note.Own M id g))

-- the anchor stays, in the new generation (TS 37.340, 10.3)
abbrev pub renewed_here : MasterNode → ℕ → ℕ → Option Setup → Option AnchorState → MasterNode × Effects
renewed_here m id g None a = (m, quiet)
renewed_here m id g (Some s) None = (m, quiet)
renewed_here m id g (Some s) (Some (waiting_anchor w)) = (m, quiet)
renewed_here m id g (Some s) (Some (active_anchor a)) = owned m id g (Some (active_anchor (renew a s)))

-- the anchor is frozen, and tells and forwards to the new one at this node; no SDU comes from the core any more
-- (TS 37.340, 10; TS 38.423, 8.2.2)
abbrev pub frozen_here : MasterNode → ℕ → ℕ → Node → Option AnchorState → MasterNode × Effects
frozen_here m id g to None = (m, quiet)
frozen_here m id g to (Some (waiting_anchor w)) = (m, quiet)
frozen_here m id g to (Some (active_anchor a)) =
    let done = freeze a to g true in (
      record m { anchors = holding id None m.anchors },
      record { notes = note.Give M id g ∷ []; sends = (link M to Ctl, flight.Ctl (rec.Snst done.status)) ∷ done.sends },
    )

-- the part of the master in an item; a waiting anchor was made before (TS 37.340, 10.2 to 10.5)
abbrev pub master_part : MasterNode → Plan → Item → Part → MasterNode × Effects
master_part m p i establishes = owned m (item_id i) p.g (option_map fresh (master_setup m p i))
master_part m p i renews = renewed_here m (item_id i) p.g (master_setup m p i) (held (item_id i) m.anchors)
master_part m p i awaits = (m, quiet)
master_part m p i (hands_over to) = frozen_here m (item_id i) p.g to (held (item_id i) m.anchors)
master_part m p i drops = (record m { anchors = holding (item_id i) None m.anchors }, quiet)
master_part m p i has_no_anchor = (m, quiet)

-- the window of a bearer after an item: a new one begins with the first COUNT (this product's own)
abbrev pub window_after : Item → Option Window → Option Window
window_after (item.Set id n first shape threshold policy key None) w = Some (record { accepted = 0; told = first })
window_after (item.Set id n first shape threshold policy key (Some old)) w = w
window_after (item.Unset id) w = None

-- the leg host and the window after an item (part of the rule carries_item)
abbrev pub with_host_and_window : Plan → MasterNode → Item → MasterNode
with_host_and_window p m i = record m {
  hosts = holding (item_id i) (host_at M p i) m.hosts;
  windows = holding (item_id i) (window_after i (held (item_id i) m.windows)) m.windows;
}

-- the core's line to a secondary anchor that the plan moves away ends (part of the rule line_ends)
abbrev pub line_end : ℕ → ℕ → Node → Node → Effects
line_end g id new M = quiet
line_end g id new T = quiet
line_end g id new A = if is_same_node new A then quiet else sent (link M A Feed) (flight.End id g)
line_end g id new B = if is_same_node new B then quiet else sent (link M B Feed) (flight.End id g)

-- of an item of a plan of this generation with this secondary node (TS 37.340, 10; the line is this product's own)
abbrev pub line_ends : ℕ → Option Node → Item → Effects
line_ends g sec (item.Set id n first shape threshold policy key None) = quiet
line_ends g sec (item.Set id n first shape threshold policy key (Some old)) = line_end g id (anchor_at sec shape) old
line_ends g sec (item.Unset id) = quiet

-- an item is carried out (TS 37.340, 10.2 to 10.5)
abbrev pub carries_item : Plan → MasterNode → Item → MasterNode × Effects
carries_item p m i = after_effects (line_ends p.g p.sec i) (master_part (with_host_and_window p m i) p i (part_at M p.sec i))

-- a waiting anchor is made for an item by which the anchor comes to the master (part of the rule prepares_item)
abbrev pub prepares_part : MasterNode → Plan → Item → Part → MasterNode × Effects
prepares_part m p i establishes = (m, quiet)
prepares_part m p i renews = (m, quiet)
prepares_part m p i awaits = (record m { anchors = holding (item_id i) (option_map waiting (master_setup m p i)) m.anchors }, quiet)
prepares_part m p i (hands_over to) = (m, quiet)
prepares_part m p i drops = (m, quiet)
prepares_part m p i has_no_anchor = (m, quiet)

-- an item of a plan that begins (TS 37.340, 10.3 and 10.4)
abbrev pub prepares_item : Plan → MasterNode → Item → MasterNode × Effects
prepares_item p m i = prepares_part m p i (part_at M p.sec i)

-- the line says that the command was rejected (part of the rule says)
abbrev pub is_rejection : Note → Bool
is_rejection (note.Begin what) = false
is_rejection (note.Join node g) = false
is_rejection (note.Leave node g) = false
is_rejection (note.Give node id g) = false
is_rejection (note.Own node id g) = false
is_rejection (note.Set id g) = false
is_rejection (note.Unset id) = false
is_rejection (note.Up node id d count payload) = false
is_rejection (note.Freed id d count) = false
is_rejection (note.Confirmed node) = false
is_rejection (note.Refused node word) = false
is_rejection note.Done = false
is_rejection note.Rejected = true

-- a line of the procedures; with `rejected` the waiting anchors go (this product's own)
abbrev pub says : MasterNode → Note → MasterNode × Effects
says m n = (if is_rejection n then without_waiting m else m, noted n)

-- what the procedures have the master do; a status transfer is taken where it may lead to an adoption
-- (TS 37.340, 10.2 to 10.5; TS 38.323, 5.5; the acts are this product's own)
abbrev pub master_act : Choices → MasterNode → Act → MasterNode × Effects
master_act c m (send to r) = (m, told M to r)
master_act c m (prepare p) = in_turn (prepares_item p) m p.items
master_act c m (go p) = in_turn (carries_item p) m p.items
master_act c m (unlock_all g) = in_turn (λ n id. on_anchor_of n g (unlock c) id (held id n.anchors)) m (identities m.anchors)
master_act c m (say n) = says m n
master_act c m (recover_one id) = on_anchor m id (recover c) (held id m.anchors)
master_act c m (fail_one id g) = on_anchor_of m g (fail_scg c) id (held id m.anchors)
master_act c m (pass st) = (m, quiet)

-- the procedures after their step, and what they have the master do (this product's own)
abbrev pub does : Choices → MasterNode → MasterActs → MasterNode × Effects
does c m r = in_turn (master_act c) (record m { proc = r.0 }) r.1

-- the anchor may have adopted the bearer: it is active in this generation, and the procedures hear of it (TS 38.423, 8.2.2)
abbrev pub adopts_if : Choices → ℕ → ℕ → Bool → MasterNode × Effects → MasterNode × Effects
adopts_if c id g false done = done
adopts_if c id g true done =
    after_effects (both (noted (note.Own M id g)) done.1) (does c done.0 (master_adopted done.0.proc id))

-- a step of an anchor that may adopt by it (this product's own)
abbrev pub on_waiting : Choices → MasterNode → ℕ → (AnchorState → AnchorState × AnchorOut) → Option AnchorState → MasterNode × Effects
on_waiting c m id f None = (m, quiet)
on_waiting c m id f (Some a) = let done = f a in adopts_if c id (setup_at a).g done.1.adopted (anchor_did m id done)

-- what a record has the master do (TS 37.340, 10.2 to 10.5; a status transfer: TS 38.423, 8.2.2)
abbrev pub master_did : Choices → MasterNode → Act → MasterNode × Effects
master_did c m (send to r) = master_act c m (send to r)
master_did c m (prepare p) = master_act c m (prepare p)
master_did c m (go p) = master_act c m (go p)
master_did c m (unlock_all g) = master_act c m (unlock_all g)
master_did c m (say n) = master_act c m (say n)
master_did c m (recover_one id) = master_act c m (recover_one id)
master_did c m (fail_one id g) = master_act c m (fail_one id g)
master_did c m (pass st) = on_waiting c m st.id (λ a. status_in c a st) (held st.id m.anchors)
