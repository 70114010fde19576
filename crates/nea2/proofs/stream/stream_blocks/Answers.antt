use Rattle.std.proofs.Common.{◌≡◌, ℕ, ◌+◌, ◌*◌, bit_xor, slice_index, ap, ◌∙◌, List, arith}
use Rattle.nea2.specs.Cipher.{cipher}
use Rattle.nea2.specs.Keystream.{counter_block}
use Rattle.nea2.specs.Planes.{number_octet}
use Rattle.nea2.proofs.Blocks.{block_of-octets, block_of-square}
use Rattle.nea2.proofs.Counters.{counter_block-number_octet}
use Rattle.nea2.proofs.stream.stream_blocks.Goals as goal

pub returns-clause-each_block : goal.returns-clause-each_block
returns-clause-each_block c k low =
    let first : c.counter_block-first.result ≡ counter_block c.args.count c.args.id c.args.dir (8 * c.args.batch) = c.counter_block-first.ensures in
    let planes = block_of-square c.with_numbers-planes.result k
    (λ (r column : ℕ). bit_xor (slice_index (counter_block c.args.count c.args.id c.args.dir (8 * c.args.batch)) (r + 4 * column)) (number_octet (r + 4 * column) k))
    (λ r column r_low column_low.
    c.with_numbers-planes.ensures.octets (r + 4 * column) k (omega arith) low
    ∙ ap (λ (n : ℕ). bit_xor n (number_octet (r + 4 * column) k)) (c.copies.ensures.octets (r + 4 * column) k (omega arith) low ∙ ap (λ (b : List ℕ). slice_index b (r + 4 * column)) first)) in
    block_of-octets c.enciphered.result k _ (c.blocks-2.ensures.full k low) (λ j lane. c.blocks-2.ensures.octets j k lane low)
    ∙ c.enciphered.ensures.each_block k low
    ∙ ap (cipher c.args.key.now) (planes ∙ counter_block-number_octet c.args.count c.args.id c.args.dir c.args.batch k low)
