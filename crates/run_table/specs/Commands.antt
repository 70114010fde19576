-- The commands of the secondary node and of keys.
use Rattle.std.specs.Prelude.{Bool, true, false}
use Rattle.dc_base.specs.declared.events.Event.{Event}
use Rattle.dc_base.specs.declared.events.Event.TheVariants as event

-- the event adds, changes or releases the secondary node, or gives a new key
abbrev pub is_key_command : Event → Bool
is_key_command (event.Add node) = true
is_key_command event.Change = true
is_key_command event.Release = true
is_key_command event.RekeySecond = true
is_key_command (event.RekeyMaster root) = true
is_key_command _ = false
