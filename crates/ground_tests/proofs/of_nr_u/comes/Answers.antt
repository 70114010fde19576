use Rattle.ground_tests.proofs.of_nr_u.comes.Goals as goal
use Rattle.nr_u.proofs.Numbers.{fits_each}

pub came-requires-in-Some-clause-sn : goal.came-requires-in-Some-clause-sn
came-requires-in-Some-clause-sn c = fits_each _ _ c.if-sn-lt4096.true
