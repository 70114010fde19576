-- The claim on numbers, of the PDUs that are sent on some links.
use Rattle.std.specs.Prelude.{Bool, List, if◌then◌else◌, length, true, ℕ, ◌||◌, ◌≡◌}
use Rattle.dc_base.specs.Links.{is_link}
use Rattle.dc_base.specs.Nodes.{is_same_node}
use Rattle.dc_base.specs.declared.nodes.Node.{Node}
use Rattle.dc_base.specs.declared.events.Line.{Line}
use Rattle.dc_base.specs.declared.events.Line.TheVariants as line
use Rattle.dc_base.specs.declared.nodes.LinkId.{LinkId}
use Rattle.claims.specs.Numbers.{has_next_number, next_number}
use Rattle.claims.specs.Past.{Past}
use Rattle.claims.specs.Protected.{is_copy}
use Rattle.node_rules.specs.Choices.{Send}
use Rattle.run_numbers.specs.Histories.{puts_in, puts_on}
use Rattle.claims.specs.Sameness.{is_none_or}
use Rattle.claims.specs.Views.{pdu_of}

-- a PDU that a line sends on one of these links has the next number there, or none, unless the line is a copy
abbrev pub pdu_has_number_on : (LinkId → Bool) → Past → Line → Bool
pdu_has_number_on these p (line.Send l f) = if these l then is_copy p l f || is_none_or (has_next_number p l) (pdu_of f) else true
pdu_has_number_on these p _ = true

-- the link begins at this node
abbrev pub is_from : Node → LinkId → Bool
is_from y l = is_same_node l.from y

-- by the past a node put on each link what it sent there, and the next number is that of the next PDU
pub record HasSentBy (y : Node) (p : Past) (sent : List Send) : Type 0 where
  pub next : (l : LinkId) → is_from y l ≡ true → is_link l ≡ true → (id g : ℕ) → next_number p l id g ≡ length (puts_on l id g sent)
  pub puts : (l : LinkId) → is_from y l ≡ true → is_link l ≡ true → (id g : ℕ) → puts_in l id g p.pdus ≡ puts_on l id g sent
