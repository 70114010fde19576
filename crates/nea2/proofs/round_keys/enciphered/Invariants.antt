use Rattle.std.proofs.Common.{◌≡◌, ℕ, ◌<◌, List}
use Rattle.nea2.specs.Cipher.{rounds}
use Rattle.nea2.specs.RoundKeys.{HasRoundKeys}
use Rattle.nea2.specs.Planes.{IsFull, block_of}
use Rattle.nea2.proofs.round_keys.enciphered.Given as goal

abbrev pub invariant-rounds : goal.invariant-rounds
invariant-rounds l = record {
  full : IsFull l.state;
  each_block : (key : List ℕ) (k : ℕ) → HasRoundKeys l.keys key → k < 8 → block_of l.state k ≡ rounds key (block_of l.fn.p k) l.round;
}
