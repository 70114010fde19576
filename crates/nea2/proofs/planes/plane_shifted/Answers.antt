use Rattle.std.proofs.Common.{ℕ, ◌<◌, arith}
use Rattle.nea2.proofs.Rows.{each_entry, picked}
use Rattle.nea2.proofs.planes.plane_shifted.Goals as goal

pub returns-clause-lanes : goal.returns-clause-lanes
returns-clause-lanes c =
    let at = λ (k : ℕ) (low : k < 16). picked c.args.p c.fits-p.0 k low in
    each_entry _ (at 0 (omega arith)) (at 5 (omega arith)) (at 10 (omega arith)) (at 15 (omega arith)) (at 4 (omega arith)) (at 9 (omega arith)) (at 14 (omega arith)) (at 3 (omega arith)) (at 8 (omega arith)) (at 13 (omega arith)) (at 2 (omega arith)) (at 7 (omega arith)) (at 12 (omega arith)) (at 1 (omega arith)) (at 6 (omega arith)) (at 11 (omega arith))
