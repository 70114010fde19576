-- When all that a waiting anchor waits for is there.
use Rattle.std.specs.Prelude.{Bool, ◌&&◌, is_some}
use Rattle.forward.specs.Forwarded.{whole}
use Rattle.node_rules.specs.Anchor.{AnchorState, Waiting, active_anchor, waiting_anchor}
use Rattle.std.specs.Prelude.{false}

-- the record, and all of both lists
abbrev pub is_ready : Waiting → Bool
is_ready w = is_some w.transfer && is_some (whole w.down) && is_some (whole w.up)

-- an anchor that waits, and has all that it waits for
abbrev pub is_to_adopt : AnchorState → Bool
is_to_adopt (waiting_anchor w) = is_ready w
is_to_adopt (active_anchor a) = false
