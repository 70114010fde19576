-- What active anchors keep lies in their windows (TS 38.323, 5.2.1).
use Rattle.std.specs.Prelude.{⊤}
use Rattle.pdcp_tx.specs.Sender.{InWindow}
use Rattle.node_rules.specs.Anchor.{AnchorState, active_anchor, waiting_anchor}

-- what an active anchor keeps lies in the window of its sending entity
abbrev pub IsWindowed : AnchorState → Type 0
IsWindowed (waiting_anchor w) = ⊤
IsWindowed (active_anchor a) = InWindow a.entity.tx.n a.entity.tx.next a.entity.tx.kept
