-- What a node holds of a bearer, and of all its bearers.
use Rattle.std.specs.Prelude.{ℕ, List, [], Option, None, replicate, slice_index_or, slice_set}
use Rattle.pdcp_tx.specs.Sender.{Sender}
use Rattle.pdcp_rx.specs.declared.entity.RxParts.{RxParts}
use Rattle.transcript.specs.Bearers.{Established}

-- a bearer at a node: its sending entity, the PDUs sent on its leg by their numbers there, each with its COUNT if it
-- is a data PDU, and its receiving entity
pub record Entities : Type 0 where
  pub bearer : Established
  pub tx : Sender
  pub sent : List (Option ℕ)
  pub rx : RxParts

-- a bearer that carried nothing yet
abbrev pub fresh : Established → Entities
fresh b = record {
  bearer = b;
  tx = record { n = b.n; next = b.first; kept = []; held = [] };
  sent = [];
  rx = record { n = b.n; deliv = b.first; stored = [] };
}

-- the bearers of a node by their identities, 1 to 32
abbrev pub Table : Type 0
Table = List (Option Entities)

-- no bearer
abbrev pub no_bearers : Table
no_bearers = replicate 33 None

-- the bearer of an identity, if the node has it
abbrev pub bearer_in : Table → ℕ → Option Entities
bearer_in table id = slice_index_or table id None

-- the table with this in the place of an identity
abbrev pub with_bearer : Table → ℕ → Option Entities → Table
with_bearer table id e = slice_set table id e
