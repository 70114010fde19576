use Rattle.std.proofs.Common.{◌≡◌, ℕ, ◌+◌, List, length, refl, sym, ap, ◌∙◌, arith}
use Rattle.std.proofs.lemmas.List.{length-set}
use Rattle.nea2.specs.Cipher.{next_round_key, round_key}
use Rattle.nea2.specs.Field.{power_of_x}
use Rattle.nea2.proofs.RoundKeyLemmas.{HoldsTo, HoldsTo-more, holds, length-next_round_key, round_key-more, slice_index-ROUND_CONSTANTS}
use Rattle.nea2.proofs.cipher.Aes128.new.Goals as goal

pub rounds-init : goal.rounds-init
unfolding round_key
rounds-init c = record {
  eleven = refl;
  last_key = refl;
  keys = λ r low.
      let only : r ≡ 0 = omega arith in
      rw only (holds c.new-first.result c.args.key.now c.args.key.now c.told-key c.new-first.ensures.full c.new-first.ensures.octets refl);
}

pub rounds-preserved : goal.rounds-preserved
rounds-preserved c =
    let n = c.rounds.round in
    let next = c.next_round_key-next.ensures
    ∙ (λ i. next_round_key (c.rounds.invariant.last_key i) (slice_index-ROUND_CONSTANTS n c.rounds-test.true i))
    ∙ sym (round_key-more c.args.key.now n) in
    let long = ap length (next ∙ round_key-more c.args.key.now n) ∙ length-next_round_key (round_key c.args.key.now n) (power_of_x n) in
    record {
      eleven = length-set c.rounds.round_keys (n + 1) c.new.result ∙ c.rounds.invariant.eleven;
      last_key = next;
      keys = HoldsTo-more c.rounds.round_keys c.args.key.now n c.new.result (omega (arith, c.rounds.invariant.eleven)) c.rounds.invariant.keys
          (holds c.new.result c.next_round_key-next.result (round_key c.args.key.now (n + 1)) long c.new.ensures.full c.new.ensures.octets next);
    }

pub invariant_of-result : goal.invariant_of-result
unfolding round_key
invariant_of-result c =
    let done : c.rounds.round + 1 ≡ 11 = omega arith in
    let held : HoldsTo c.rounds.round_keys c.args.key.now 11 = rw done at c.rounds.invariant.keys in
    let key = (held 0 (omega arith)).each_block 0 (omega arith) in
    (λ r low. (held r low).full, λ r k low block. (held r low).each_block k block ∙ ap (λ (q : List ℕ). round_key q r) (sym key))

pub returns : goal.returns
unfolding round_key
returns c =
    let done : c.rounds.round + 1 ≡ 11 = omega arith in
    let held : HoldsTo c.rounds.round_keys c.args.key.now 11 = rw done at c.rounds.invariant.keys in
    (held 0 (omega arith)).each_block 0 (omega arith)
