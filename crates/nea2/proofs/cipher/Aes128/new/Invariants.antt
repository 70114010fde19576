use Rattle.std.proofs.Common.{◌≡◌, ◌+◌, length}
use Rattle.nea2.specs.Cipher.{round_key}
use Rattle.nea2.proofs.RoundKeyLemmas.{HoldsTo}
use Rattle.nea2.proofs.cipher.Aes128.new.Given as goal

abbrev pub invariant-rounds : goal.invariant-rounds
invariant-rounds l = record {
  eleven : length l.round_keys ≡ 11;
  last_key : l.last ≡ round_key l.key l.round;
  keys : HoldsTo l.round_keys l.key (l.round + 1);
}
