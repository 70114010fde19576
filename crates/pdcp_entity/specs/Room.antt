-- Whether a submission gets a COUNT.
use Rattle.std.specs.Prelude.{Bool, nat_le, not, ◌&&◌, ◌+◌, ◌-◌, ◌==◌, ◌^◌}
use Rattle.dc_base.specs.Count.{window}
use Rattle.pdcp_tx.specs.Sender.{Sender, low}

-- the window has room for one more SDU, and a COUNT is left (TS 38.323, 5.2.1; the last COUNT is this product's own)
abbrev pub has_room : Sender → Bool
has_room s = not (nat_le (low s + window s.n) s.next) && not (s.next == 2 ^ 32 - 1)
