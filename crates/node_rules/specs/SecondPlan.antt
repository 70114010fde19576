-- How a secondary node carries a plan out (TS 37.340, 10.2 to 10.5), and what its procedures have it do.
use Rattle.std.specs.Prelude.{List, None, Option, Some, [], option_map, ℕ, ◌∷◌}
use Rattle.dc_base.specs.Links.{link}
use Rattle.dc_base.specs.Records.{item_id}
use Rattle.dc_base.specs.declared.events.Note.TheVariants as note
use Rattle.dc_base.specs.declared.flights.Flight.TheVariants as flight
use Rattle.dc_base.specs.declared.nodes.Class.TheVariants.{Ctl}
use Rattle.dc_base.specs.declared.nodes.Node.{Node}
use Rattle.dc_base.specs.declared.nodes.Node.TheVariants.{M}
use Rattle.dc_base.specs.declared.records.Item.{Item}
use Rattle.dc_base.specs.declared.records.Plan.{Plan}
use Rattle.dc_base.specs.declared.records.Rec.TheVariants as rec
use Rattle.node_rules.specs.declared.acts.Act.{Act}
use Rattle.node_rules.specs.declared.acts.Act.TheVariants.{FailOne as fail_one, Go as go, Pass as pass, Prepare as prepare, RecoverOne as recover_one, Say as say, Send as send, UnlockAll as unlock_all}
use Rattle.node_rules.specs.Adopting.{status_in}
use Rattle.node_rules.specs.Anchor.{Active, AnchorState, active_anchor, fresh, renew, waiting}
use Rattle.node_rules.specs.AnchorSending.{fail_scg, recover, unlock}
use Rattle.node_rules.specs.Choices.{Choices}
use Rattle.node_rules.specs.declared.inputs.Effects.{Effects}
use Rattle.node_rules.specs.Effects.{in_turn, noted, quiet, told}
use Rattle.node_rules.specs.Feed.{Fed, freeze_fed, frozen_of}
use Rattle.node_rules.specs.Held.{held, holding, identities}
use Rattle.node_rules.specs.declared.parts.Part.{Part}
use Rattle.node_rules.specs.declared.parts.Part.TheVariants.{Awaits as awaits, Drops as drops, Establishes as establishes, HandsOver as hands_over, HasNoAnchor as has_no_anchor, Renews as renews}
use Rattle.node_rules.specs.Parts.{host_at, part_at}
use Rattle.node_rules.specs.SecondState.{SecondActs}
use Rattle.node_rules.specs.Secondary.{SecondNode, active_in, name_of, on_fed, on_fed_of, within}
use Rattle.node_rules.specs.Setup.{Setup, setup_of}

-- an anchor that begins at the node in the generation of a plan: SDUs of older ones are not of its bearer
-- (the generation is this product's own)
abbrev pub beginning : ℕ → AnchorState → Fed
beginning g a = record { since = g; ended = None; anchor = a }

-- an anchor that the node has from now on (part of the rule second_part)
abbrev pub with_fed : SecondNode → ℕ → Option Fed → SecondNode
with_fed s id x = record s { anchors = holding id x s.anchors }

-- it is active in the generation of the plan (part of the rule second_part)
abbrev pub owned_there : SecondNode → ℕ → ℕ → Option Fed → SecondNode × Effects
owned_there s id g x = (with_fed s id x, noted (note.Own (name_of s) id g))

-- the anchor stays, in the new generation (part of the rule renewed_there)
abbrev pub renewed_active : SecondNode → ℕ → ℕ → Setup → Fed → Option Active → SecondNode × Effects
renewed_active s id g setup x None = (s, quiet)
renewed_active s id g setup x (Some a) = owned_there s id g (Some (record x { anchor = active_anchor (renew a setup) }))

-- where the node has it, and the item sets it up (TS 37.340, 10.3)
abbrev pub renewed_there : SecondNode → ℕ → ℕ → Option Setup → Option Fed → SecondNode × Effects
renewed_there s id g None x = (s, quiet)
renewed_there s id g (Some setup) None = (s, quiet)
renewed_there s id g (Some setup) (Some x) = renewed_active s id g setup x (active_in x.anchor)

-- the anchor is frozen, tells the master where it is, and forwards to the new one at this node (part of the rule frozen_there)
abbrev pub frozen_active : SecondNode → ℕ → ℕ → Node → Fed → Option Active → SecondNode × Effects
frozen_active s id g to x None = (s, quiet)
frozen_active s id g to x (Some a) =
    let done = freeze_fed x a to g in (
      record s { anchors = holding id None s.anchors; frozen = holding id (frozen_of x.since done.rest) s.frozen },
      record { notes = note.Give (name_of s) id g ∷ []; sends = (link (name_of s) M Ctl, flight.Ctl (rec.Snst done.status)) ∷ done.sends },
    )

-- where the node has it (TS 37.340, 10; TS 38.423, 8.2.2)
abbrev pub frozen_there : SecondNode → ℕ → ℕ → Node → Option Fed → SecondNode × Effects
frozen_there s id g to None = (s, quiet)
frozen_there s id g to (Some x) = frozen_active s id g to x (active_in x.anchor)

-- the part of the node in an item, with what the item sets up there (TS 37.340, 10.2 to 10.5)
abbrev pub second_part : SecondNode → Plan → Option Setup → ℕ → Part → SecondNode × Effects
second_part s p setup id establishes = owned_there s id p.g (option_map (λ x. beginning p.g (fresh x)) setup)
second_part s p setup id renews = renewed_there s id p.g setup (held id s.anchors)
second_part s p setup id awaits = (with_fed s id (option_map (λ x. beginning p.g (waiting x)) setup), quiet)
second_part s p setup id (hands_over to) = frozen_there s id p.g to (held id s.anchors)
second_part s p setup id drops = (with_fed s id None, quiet)
second_part s p setup id has_no_anchor = (s, quiet)

-- an item is carried out, with the octets of the K_SN (TS 37.340, 10.2 to 10.5)
abbrev pub second_item : List ℕ → Plan → SecondNode → Item → SecondNode × Effects
second_item key p s i =
    second_part (record s { hosts = holding (item_id i) (host_at (name_of s) p i) s.hosts })
    p (setup_of (name_of s) p s.alg key i) (item_id i) (part_at (name_of s) p.sec i)

-- what the procedures have the node do; only the master prepares anchors
-- (TS 37.340, 10.2 to 10.5; TS 38.323, 5.5; the acts are this product's own)
abbrev pub second_act : Choices → List ℕ → SecondNode → Act → SecondNode × Effects
second_act c key s (send to r) = (s, told (name_of s) to r)
second_act c key s (prepare p) = (s, quiet)
second_act c key s (go p) = in_turn (second_item key p) s p.items
second_act c key s (unlock_all g) = in_turn (λ n id. on_fed_of n g (unlock c) id (held id n.anchors)) s (identities s.anchors)
second_act c key s (say n) = (s, noted n)
second_act c key s (recover_one id) = on_fed s id (recover c) (held id s.anchors)
second_act c key s (fail_one id g) = on_fed_of s g (fail_scg c) id (held id s.anchors)
second_act c key s (pass st) = on_fed s st.id (λ a. status_in c a st) (held st.id s.anchors)

-- the procedures after their step, and what they have the node do (this product's own)
abbrev pub second_does : Choices → List ℕ → SecondNode → SecondActs → SecondNode × Effects
second_does c key s r = in_turn (second_act c key) (within r.0.membership (record s { proc = r.0 })) r.1
