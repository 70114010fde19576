-- The exit status of the program.
use Rattle.std.specs.Prelude.{ℕ}
use Rattle.dc_base.specs.declared.answers.Status.{Status}
use Rattle.dc_base.specs.declared.answers.Status.TheVariants as status

-- the number with which the program ends
abbrev pub status_number : Status → ℕ
status_number status.Ok = 0
status_number status.Usage = 1
status_number (status.BadLine line column) = 2
status_number status.ReadFault = 3
status_number status.WriteFault = 4
status_number status.Memory = 5
status_number status.TooLong = 6
