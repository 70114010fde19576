-- What octets that come do to a PDCP entity.
use Rattle.std.specs.Prelude.{List, None, Option, Some, ℕ, Result, Ok, Err}
use Rattle.node_rules.specs.Entity.{Entity, take_pdu}
use Rattle.pdcp_pdu.specs.Pdu.{Content, decoded}
use Rattle.pdcp_pdu.specs.declared.pdu.PduErr.{PduErr}
use Rattle.pdcp_rx.specs.Entries.{Entry}

-- what is read comes; what can not be read does nothing (None)
abbrev pub taken_as : Entity → Result Content PduErr → Option (Entity × List Entry)
taken_as e (Err why) = None
taken_as e (Ok x) = Some (take_pdu e x)

-- octets come
abbrev pub taken : Entity → List ℕ → Option (Entity × List Entry)
taken e octets = taken_as e (decoded e.setup.n octets)
