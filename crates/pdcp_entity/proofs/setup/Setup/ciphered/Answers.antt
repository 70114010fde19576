use Rattle.std.proofs.Common.{◌≡◌, ℕ, List, length, rules, arith, ap, ◌∙◌}
use Rattle.std.proofs.lemmas.Grind.{common_steps}
use Rattle.nea2.specs.Combined.{combined}
use Rattle.nea2.specs.Keystream.{keystream}
use Rattle.pdcp_entity.proofs.Ciphering.{stream_is}
use Rattle.pdcp_entity.proofs.setup.Setup.ciphered.Goals as goal

pub returns-clause-value : goal.returns-clause-value
returns-clause-value c =
    let s = c.self.inside in
    let text = c.args.text.now in
    let same = stream_is s.alg s.key s.cipher c.args.count s.id c.args.dir (length text) c.self.invariant.0 in
    let plain : c.from_vec.result ≡ combined text (keystream s.alg s.cipher c.args.count s.id c.args.dir (length text)) = first_of (search rules, cc, grind (arith, common_steps)) in
    rw (← c.self.view_is) (plain ∙ ap (λ (ks : List ℕ). combined text ks) same)
