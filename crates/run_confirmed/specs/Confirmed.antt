-- What an anchor stops to keep was received by the terminal.
use Rattle.std.specs.Prelude.{IfSome, Option, ⊤, ℕ, ◌+◌, ◌≡◌, ◌≤◌}
use Rattle.dc_base.specs.Count.{window}
use Rattle.pdcp_tx.specs.Sender.{low}
use Rattle.node_rules.specs.Anchor.{AnchorState, active_anchor, setup_at, waiting_anchor}
use Rattle.run_confirms.specs.Anchors.{KeptOrReceived}
use Rattle.run_confirms.specs.States.{kept_at}
use Rattle.run_confirmed.specs.Stories.{ReceivedBy, Stories}

-- each SDU that an anchor of an identity kept it keeps still after a step, or the terminal received it in the anchor's generation
abbrev pub KeptOrGot : Stories → ℕ → AnchorState → AnchorState → Type 0
KeptOrGot stories id before after = KeptOrReceived (ReceivedBy (stories id (setup_at before).g).rx) (kept_at before) (kept_at after)

-- a tag lies no more than a window behind Low, and the sending entity has the length of SNs of the setup
abbrev pub IsNotBehind : AnchorState → Option ℕ → Type 0
IsNotBehind (waiting_anchor w) tag = ⊤
IsNotBehind (active_anchor a) tag = (a.entity.tx.n ≡ a.entity.setup.n) × IfSome tag (λ count. low a.entity.tx ≤ count + window a.entity.setup.n)
