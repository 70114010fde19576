-- The plans and the keys in records.
use Rattle.std.specs.Prelude.{Bool, List, None, Option, Some, if◌then◌else◌, is_none, length, nat_le, true, ℕ, ◌&&◌, ◌==◌}
use Rattle.dc_base.specs.declared.events.Line.{Line}
use Rattle.dc_base.specs.declared.events.Line.TheVariants as line
use Rattle.dc_base.specs.declared.flights.Flight.TheVariants as flight
use Rattle.dc_base.specs.declared.nodes.KeyName.{KeyName}
use Rattle.dc_base.specs.declared.records.Plan.{Plan}
use Rattle.dc_base.specs.declared.records.Rec.{Rec}
use Rattle.dc_base.specs.declared.records.Rec.TheVariants as rec
use Rattle.key_chain.specs.KeyNames.{octets}
use Rattle.claims.specs.Sameness.{is_none_or, is_same_octets, is_same_plan, is_some_and}
use Rattle.claims.specs.Table.{Command, command_has, is_change, master_key}
use Rattle.claims.specs.Past.{Past}
use Rattle.claims.specs.Reading.{plan}

-- the plan of a record; the one that ends a `want` without a release has generation 0
abbrev pub plan_in : Rec → Option Plan
plan_in (rec.Reconf q key) = Some q
plan_in (rec.Addreq q key) = Some q
plan_in (rec.Modreq q key) = Some q
plan_in (rec.Relreq q) = Some q
plan_in (rec.Chgcnf q) = Some q
plan_in (rec.Relcnf q) = Some q
plan_in _ = None

-- the plan was drawn; that of generation 0 is empty
abbrev pub is_drawn : Past → Plan → Bool
is_drawn p q = if q.g == 0 then is_none q.sec && nat_le (length q.items) 0 else is_some_and (is_same_plan q) (plan p q.g)

-- a record that carries a plan carries the one that was drawn with its generation
abbrev pub is_planned : Past → Line → Bool
is_planned p (line.Send l (flight.Ctl r)) = is_none_or (is_drawn p) (plan_in r)
is_planned p _ = true

-- the key is the one of this name, for the command of this generation
abbrev pub is_key_of : Past → ℕ → (Command → KeyName) → List ℕ → Bool
is_key_of p g name key = command_has (λ c. is_change g c.kind && is_same_octets key (octets p.table.roots (name c))) p.table

-- the terminal gets the root, a secondary the K_SN, that are current once the plan is carried out (TS 33.501, 6.10.2.1)
abbrev pub record_is_keyed : Past → Rec → Bool
record_is_keyed p (rec.Reconf q key) = is_key_of p q.g (λ c. master_key c.root) key
record_is_keyed p (rec.Addreq q key) = is_key_of p q.g (λ c. c.second_key) key
record_is_keyed p (rec.Modreq q key) = is_key_of p q.g (λ c. c.second_key) key
record_is_keyed p _ = true

-- a record carries the octets of the key that its plan names
abbrev pub is_keyed : Past → Line → Bool
is_keyed p (line.Send l (flight.Ctl r)) = record_is_keyed p r
is_keyed p _ = true
