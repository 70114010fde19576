-- Short ways to write the parts of a transcript.
use Rattle.std.specs.Prelude.{Bool, List, Option, ℕ}
use Rattle.dc_base.specs.Count.{bits}
use Rattle.dc_base.specs.declared.answers.Answer.{Answer}
use Rattle.dc_base.specs.declared.events.Event.{Event}
use Rattle.dc_base.specs.declared.events.Header.{Header}
use Rattle.dc_base.specs.declared.events.Line.{Line}
use Rattle.dc_base.specs.declared.nodes.Alg.{Alg}
use Rattle.dc_base.specs.declared.nodes.KeyName.{KeyName}
use Rattle.dc_base.specs.declared.nodes.LegSet.{LegSet}
use Rattle.dc_base.specs.declared.nodes.Node.{Node}
use Rattle.dc_base.specs.declared.nodes.Shape.{Shape}
use Rattle.dc_base.specs.declared.nodes.Side.{Side}
use Rattle.dc_base.specs.declared.records.Item.{Item}
use Rattle.dc_base.specs.declared.records.Plan.{Plan}
use Rattle.dc_base.specs.declared.records.StatusTransfer.{StatusTransfer}
use Rattle.transcript.specs.Transcript.{Entry}
use Rattle.claims.specs.Causes.{at_second}

-- a shape
abbrev pub a_shape : Bool → LegSet → Bool → Shape
a_shape at_second legs dup = record { at_second = at_second; legs = legs; dup = dup }

-- a key name
abbrev pub a_key : ℕ → Side → KeyName
a_key root side = record { root = root; side = side }

-- a plan
abbrev pub a_plan : ℕ → Option Node → List Item → Plan
a_plan g sec items = record { g = g; sec = sec; items = items }

-- an SN STATUS TRANSFER
abbrev pub a_transfer : ℕ → ℕ → ℕ → List ℕ → ℕ → StatusTransfer
a_transfer g id ul bits dl = record { g = g; id = id; ul = ul; bits = bits; dl = dl }

-- a header
abbrev pub a_header : Alg → ℕ → List ℕ → Header
a_header alg used root = record { alg = alg; used = used; root = root }

-- an entry
abbrev pub an_entry : Event → Answer → List Line → Entry
an_entry event answer lines = record { event = event; answer = answer; lines = lines }
