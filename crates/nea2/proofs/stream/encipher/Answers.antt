use Rattle.std.proofs.Common.{◌≡◌, ℕ, ◌+◌, ◌-◌, ◌*◌, ◌++◌, length, drop, take, refl, ◌∙◌, ap, arith}
use Rattle.std.specs.Int.{div_ceil}
use Rattle.nea2.specs.Cipher.{cipher}
use Rattle.nea2.specs.Combined.{combined}
use Rattle.nea2.specs.Keystream.{counter_block, stream_blocks}
use Rattle.nea2.proofs.KeystreamLaws.{combined-enough, combined-keystream, combined-stream_blocks}
use Rattle.nea2.proofs.stream.encipher.Goals as goal

pub batches-init : goal.batches-init
unfolding stream_blocks
batches-init c = refl

pub parts-init : goal.parts-init
parts-init c =
    let e : 8 * c.batches.batch ≡ 8 * c.batches.batch + 0 = omega arith in
    c.batches.invariant ∙ ap (λ (n : ℕ). combined c.args.text.now (stream_blocks c.args.key.now c.args.count c.args.id c.args.dir n)) e

pub parts-preserved : goal.parts-preserved
parts-preserved c =
    let n = 8 * c.batches.batch + c.parts.k in
    let text = c.parts.text in
    let place : 128 * c.batches.batch + 16 * c.parts.k ≡ 16 * n = omega arith in
    let next : 8 * c.batches.batch + c.parts.k + 1 ≡ 8 * c.batches.batch + (c.parts.k + 1) = omega arith in
    let block = c.stream_blocks-stream.ensures.each_block c.parts.k (omega arith) in
    c.combine_at.ensures
    ∙ (λ i. take (place i) text ++ combined (drop (place i) text) (block i))
    ∙ combined-stream_blocks c.args.text.now c.args.key.now c.args.count c.args.id c.args.dir n text (combined (drop (16 * n) text) (cipher c.args.key.now (counter_block c.args.count c.args.id c.args.dir n)))
    c.parts.invariant refl
    ∙ ap (λ (m : ℕ). combined c.args.text.now (stream_blocks c.args.key.now c.args.count c.args.id c.args.dir m)) next

pub batches-preserved : goal.batches-preserved
batches-preserved c =
    let e : 8 * c.batches.batch + c.parts.k ≡ 8 * (c.batches.batch + 1) = omega arith in
    c.parts.invariant ∙ ap (λ (m : ℕ). combined c.args.text.now (stream_blocks c.args.key.now c.args.count c.args.id c.args.dir m)) e

pub returns : goal.returns
returns c =
    let text = c.args.text.now in
    let n = div_ceil (length text) 16 in
    let more = 8 * c.batches.batch - n in
    let e : 8 * c.batches.batch ≡ n + more = omega arith in
    c.batches.invariant
    ∙ ap (λ (m : ℕ). combined text (stream_blocks c.args.key.now c.args.count c.args.id c.args.dir m)) e
    ∙ combined-enough text c.args.key.now c.args.count c.args.id c.args.dir n more (omega arith)
    ∙ combined-keystream text c.args.key.now c.args.count c.args.id c.args.dir (length text) refl
