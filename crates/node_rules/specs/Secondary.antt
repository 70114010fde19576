-- What a secondary node holds, and what comes of its anchors (TS 37.340, 4.2.2): besides its procedures, the anchors with the
-- core's lines to them, what is left of frozen ones, and the leg hosts.
use Rattle.std.specs.Prelude.{Bool, List, None, Option, Some, [], false, if◌then◌else◌, option_and_then, true, ℕ, ◌==◌}
use Rattle.dc_base.specs.Links.{link}
use Rattle.dc_base.specs.declared.events.Note.TheVariants as note
use Rattle.dc_base.specs.declared.flights.Flight.TheVariants as flight
use Rattle.dc_base.specs.declared.nodes.Alg.{Alg}
use Rattle.dc_base.specs.declared.nodes.Class.TheVariants.{Feed}
use Rattle.dc_base.specs.declared.nodes.Dir.TheVariants.{Ul}
use Rattle.dc_base.specs.declared.nodes.Node.{Node}
use Rattle.dc_base.specs.declared.nodes.Node.TheVariants.{M}
use Rattle.dc_base.specs.declared.records.Rec.TheVariants as rec
use Rattle.node_rules.specs.declared.bearers.AnchorOut.{AnchorOut}
use Rattle.node_rules.specs.Anchor.{Active, AnchorState, active_anchor, setup_at, waiting_anchor}
use Rattle.node_rules.specs.declared.inputs.Effects.{Effects}
use Rattle.node_rules.specs.Effects.{both, noted, quiet, sent, told}
use Rattle.node_rules.specs.Feed.{Fed, Frozen}
use Rattle.node_rules.specs.Held.{held, holding}
use Rattle.node_rules.specs.Host.{Host}
use Rattle.node_rules.specs.Master.{handed_up}
use Rattle.node_rules.specs.declared.commands.Membership.{Membership}
use Rattle.node_rules.specs.declared.commands.Membership.TheVariants.{Joined as joined, Left as left, Outside as outside}
use Rattle.node_rules.specs.SecondState.{SecondProc, new_second_proc}

-- a secondary node: the ciphering algorithm, the procedures, and by identities the anchors, what is frozen and the leg hosts
-- (TS 37.340, 4.2.2; the form is this product's own)
pub record SecondNode : Type 0 where
  pub alg : Alg
  pub proc : SecondProc
  pub anchors : List (ℕ × Fed)
  pub frozen : List (ℕ × Frozen)
  pub hosts : List (ℕ × Host)

-- a secondary node before the first event (this product's own)
abbrev pub new_second : Alg → Node → SecondNode
new_second alg me = record { alg = alg; proc = new_second_proc me; anchors = []; frozen = []; hosts = [] }

-- which node it is (this product's own)
abbrev pub name_of : SecondNode → Node
name_of s = s.proc.me

-- without a context of the terminal it holds nothing (TS 38.423, 8.2.7)
abbrev pub within : Membership → SecondNode → SecondNode
within outside s = record s { anchors = []; frozen = []; hosts = [] }
within joined s = s
within left s = s

-- the Low of an anchor is told to the master where it rose (this product's own)
abbrev pub low_told : Node → ℕ → ℕ → Option ℕ → Effects
low_told me id g None = quiet
low_told me id g (Some count) = sent (link me M Feed) (flight.Told id g count)

-- an anchor that adopted the bearer is active in this generation, and the master hears of it (this product's own)
abbrev pub adopted_there : Node → ℕ → ℕ → Bool → Effects
adopted_there me id g false = quiet
adopted_there me id g true = both (noted (note.Own me id g)) (told me M (rec.Moved g id))

-- what comes of a step of an anchor (part of the rule fed_did)
abbrev pub second_effects : Node → ℕ → ℕ → AnchorOut → Effects
second_effects me id g out =
    both (both (adopted_there me id g out.adopted) (record { notes = handed_up me id Ul out.ups; sends = out.sends })) (low_told me id g out.low)

-- the anchor with its line after its step (part of the rule on_fed)
abbrev pub fed_did : SecondNode → ℕ → Fed × AnchorOut → SecondNode × Effects
fed_did s id done =
    (record s { anchors = holding id (Some done.0) s.anchors }, second_effects (name_of s) id (setup_at done.0.anchor).g done.1)

-- a step of the anchor alone (part of the rule on_fed)
abbrev pub anchored : Fed → AnchorState × AnchorOut → Fed × AnchorOut
anchored f done = (record f { anchor = done.0 }, done.1)

-- a step of the anchor of a bearer, where the node has it (this product's own)
abbrev pub on_fed : SecondNode → ℕ → (AnchorState → AnchorState × AnchorOut) → Option Fed → SecondNode × Effects
on_fed s id f None = (s, quiet)
on_fed s id f (Some x) = fed_did s id (anchored x (f x.anchor))

-- the anchor is the one of this generation (part of the rule on_fed_of)
abbrev pub is_fed_of : ℕ → Option Fed → Bool
is_fed_of g None = false
is_fed_of g (Some x) = (setup_at x.anchor).g == g

-- a step of an anchor of this generation alone (this product's own)
abbrev pub on_fed_of : SecondNode → ℕ → (AnchorState → AnchorState × AnchorOut) → ℕ → Option Fed → SecondNode × Effects
on_fed_of s g f id x = if is_fed_of g x then on_fed s id f x else (s, quiet)

-- an active anchor (this product's own)
abbrev pub active_in : AnchorState → Option Active
active_in (waiting_anchor w) = None
active_in (active_anchor a) = Some a

-- the active anchor of a bearer, where the node has it (this product's own)
abbrev pub active_at : SecondNode → ℕ → Option Active
active_at s id = option_and_then (λ (f : Fed). active_in f.anchor) (held id s.anchors)
