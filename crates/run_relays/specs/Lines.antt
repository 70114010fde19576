-- Which lines send an uplink PDU.
use Rattle.std.specs.Prelude.{Bool, false, if◌then◌else◌, is_none, not, true, ◌&&◌, ◌||◌}
use Rattle.dc_base.specs.Nodes.{is_same_node}
use Rattle.dc_base.specs.declared.events.Line.{Line}
use Rattle.dc_base.specs.declared.events.Line.TheVariants as line
use Rattle.dc_base.specs.declared.nodes.Dir.{Dir}
use Rattle.dc_base.specs.declared.nodes.Dir.TheVariants.{Dl, Ul}
use Rattle.dc_base.specs.declared.nodes.LinkId.{LinkId}
use Rattle.dc_base.specs.declared.nodes.Node.TheVariants.{T}
use Rattle.claims.specs.Claim.{Claim, of_lines}
use Rattle.claims.specs.Past.{Past}
use Rattle.claims.specs.Protected.{is_protected}
use Rattle.claims.specs.Sameness.{is_none_or, is_some_and}
use Rattle.claims.specs.Taking.{direction_of}
use Rattle.claims.specs.Views.{Pdu, data_of, pdu_of}
use Rattle.run_senders.specs.Lines.{is_on_its_link}

-- the direction is the uplink
abbrev pub is_up : Dir → Bool
is_up Ul = true
is_up Dl = false

-- the PDU is sent by the terminal; or it has no number, as one that is relayed in a tunnel, which comes from another node than the
-- anchor of its plan
abbrev pub is_uplink : Past → LinkId → Pdu → Bool
is_uplink p l u = is_same_node l.from T || (is_none u.num && is_up (direction_of p l u))

-- a line sends such a PDU
abbrev pub sends_uplink : Past → Line → Bool
sends_uplink p (line.Send l f) = is_some_and (is_uplink p l) (pdu_of f)
sends_uplink p (line.Note n) = false
sends_uplink p (line.Event e) = false
sends_uplink p (line.Answer a) = false

-- then it is protected
abbrev pub protects_uplink : Past → Line → Bool
protects_uplink p x = if sends_uplink p x then is_protected p x else true

-- of each line
abbrev pub uplink_protected : Claim
uplink_protected = of_lines protects_uplink

-- ---- by the line alone

-- a line sends a PDU that comes from the terminal, or has no number, as one that a leg host relays has none
abbrev pub is_uplink_line : Line → Bool
is_uplink_line (line.Send l f) = is_some_and (λ (u : Pdu). is_same_node l.from T || is_none u.num) (pdu_of f)
is_uplink_line (line.Note n) = false
is_uplink_line (line.Event e) = false
is_uplink_line (line.Answer a) = false

-- a data PDU without a number that another node than the terminal sends is an uplink PDU by its plan
abbrev pub goes_up : Past → Line → Bool
goes_up p (line.Send l f) = is_none_or (λ (u : Pdu). not (is_none u.num) || is_same_node l.from T || is_up (direction_of p l u)) (data_of f)
goes_up p (line.Note n) = true
goes_up p (line.Event e) = true
goes_up p (line.Answer a) = true

-- if the line is on its link
abbrev pub goes_up_on_link : Past → Line → Bool
goes_up_on_link p x = if is_on_its_link x then goes_up p x else true
