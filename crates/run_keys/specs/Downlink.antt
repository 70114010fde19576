-- Lines that send a downlink PDU.
use Rattle.std.specs.Prelude.{Bool, false, is_none, not, ◌||◌}
use Rattle.dc_base.specs.Nodes.{is_same_node}
use Rattle.dc_base.specs.declared.events.Line.{Line}
use Rattle.dc_base.specs.declared.events.Line.TheVariants as line
use Rattle.dc_base.specs.declared.nodes.Node.TheVariants.{T}
use Rattle.claims.specs.Sameness.{is_some_and}
use Rattle.claims.specs.Views.{Pdu, pdu_of}

-- a line sends a PDU that another node than the terminal numbered
abbrev pub is_downlink_line : Line → Bool
is_downlink_line (line.Send l f) = is_some_and (λ (u : Pdu). not (is_same_node l.from T || is_none u.num)) (pdu_of f)
is_downlink_line (line.Note n) = false
is_downlink_line (line.Event e) = false
is_downlink_line (line.Answer a) = false
