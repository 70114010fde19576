-- The uplink PDUs that a waiting anchor keeps, as octets: what is read of them.
use Rattle.std.specs.Prelude.{ℕ, ◌++◌, List, Option, Some, None, Result, Ok, Err}
use Rattle.std.specs.List.{filter_map}
use Rattle.dc_base.specs.declared.numbers.SnLen.{SnLen}
use Rattle.pdcp_pdu.specs.Pdu.{Content, decoded}
use Rattle.pdcp_pdu.specs.declared.pdu.PduErr.{PduErr}
use Rattle.pdcp_rx.specs.Entries.{Entry}
use Rattle.node_rules.specs.Entity.{Entity}

-- what was read, if something was
abbrev pub said_if : Result Content PduErr → Option Content
said_if (Err e) = None
said_if (Ok x) = Some x

-- what octets say, if they are a PDU
abbrev pub said_by : SnLen → List ℕ → Option Content
said_by n octets = said_if (decoded n octets)

-- what PDUs say, one after another
abbrev pub readable : SnLen → List (List ℕ) → List Content
readable n pdus = filter_map (said_by n) pdus

-- what was handed up before, and then the rest
abbrev pub handing : List Entry → Entity × List Entry → Entity × List Entry
handing ups later = (later.0, ups ++ later.1)
