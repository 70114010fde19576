use Rattle.std.proofs.Common.{◌+◌, ◌*◌, ◌^◌}
use Rattle.std.specs.Int.{bit_at}
use Rattle.nea2.specs.Planes.{octet_of}
use Rattle.nea2.proofs.planes.shift_rows.Goals as goal

pub returns-clause-octets : goal.returns-clause-octets
unfolding octet_of
returns-clause-octets c r column k row_low column_low =
    λ x. bit_at (c.plane_shifted.ensures.lanes r column row_low column_low x) k * 2 ^ 0
    + bit_at (c.plane_shifted-2.ensures.lanes r column row_low column_low x) k * 2 ^ 1
    + bit_at (c.plane_shifted-3.ensures.lanes r column row_low column_low x) k * 2 ^ 2
    + bit_at (c.plane_shifted-4.ensures.lanes r column row_low column_low x) k * 2 ^ 3
    + bit_at (c.plane_shifted-5.ensures.lanes r column row_low column_low x) k * 2 ^ 4
    + bit_at (c.plane_shifted-6.ensures.lanes r column row_low column_low x) k * 2 ^ 5
    + bit_at (c.plane_shifted-7.ensures.lanes r column row_low column_low x) k * 2 ^ 6
    + bit_at (c.plane_shifted-8.ensures.lanes r column row_low column_low x) k * 2 ^ 7
