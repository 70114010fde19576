-- The names of establishments, as they are seen of the past, and what holds of keys at each moment of a run.
use Rattle.std.specs.Option.{option_map}
use Rattle.std.specs.Prelude.{Option, ℕ}
use Rattle.claims.specs.Past.{Past}
use Rattle.node_rules.specs.World.{World}
use Rattle.run_table.proofs.Runs.{Lasts}
use Rattle.run_windows.specs.Seen.{Count, Face, Seen, latest, seen}
use Rattle.run_keys.specs.Keyed.{AreSet, IsKeyed}
use Rattle.run_keys.specs.Tables.{OfProc}

-- the name of the latest establishment of an identity: the generation that set it up
abbrev pub est : Seen → ℕ → Option ℕ
est s id = option_map (λ (b : Face × Count). b.0.g) (latest id s.bearers)

-- the command table of the claims is the master's, and its keys are as they are to be
pub record HoldsKeys (p : Past) (w : World) : Type 0 where
  pub lasts : Lasts p w
  pub keys : OfProc (IsKeyed (est (seen p))) AreSet w.master.proc
