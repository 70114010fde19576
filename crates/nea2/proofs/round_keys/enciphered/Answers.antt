use Rattle.std.proofs.Common.{◌≡◌, ℕ, ◌+◌, List, ap, sym, ◌∙◌, arith}
use Rattle.nea2.specs.Cipher.{add_round_key, cipher, last_round, rounds, whole_round}
use Rattle.nea2.specs.Planes.{block_of}
use Rattle.nea2.proofs.Blocks.{rounds-more}
use Rattle.nea2.proofs.round_keys.enciphered.Goals as goal

pub rounds-init : goal.rounds-init
unfolding rounds
rounds-init c = record {
  full = c.add_round_key-state.ensures.full;
  each_block = λ key k held low.
      c.add_round_key-state.ensures.each_block k low
      ∙ ap (add_round_key (block_of c.args.p k)) (ap (λ (q : List (List ℕ)). block_of q k) c.planes.ensures ∙ held 0 k (omega arith) low);
}

pub rounds-preserved : goal.rounds-preserved
rounds-preserved c = record {
  full = c.whole_round-next.ensures.full;
  each_block = λ key k held low.
      let state = c.rounds.invariant.each_block key k held low in
      let next = ap (λ (q : List (List ℕ)). block_of q k) c.planes-in-rounds.ensures ∙ held (c.rounds.round + 1) k (omega arith) low in
      c.whole_round-next.ensures.each_block k low
      ∙ (λ i. whole_round (state i) (next i))
      ∙ sym (rounds-more key (block_of c.args.p k) c.rounds.round);
}

pub returns : goal.returns
unfolding cipher
returns c = record {
  full = c.last_round.ensures.full;
  each_block = λ key k held low.
      let done : c.rounds.round ≡ 9 = omega arith in
      let state = c.rounds.invariant.each_block key k held low ∙ ap (rounds key (block_of c.args.p k)) done in
      let last = ap (λ (q : List (List ℕ)). block_of q k) c.planes-2.ensures ∙ held 10 k (omega arith) low in
      c.last_round.ensures.each_block k low ∙ (λ i. last_round (state i) (last i));
}
