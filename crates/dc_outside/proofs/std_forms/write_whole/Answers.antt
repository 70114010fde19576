use Rattle.std.proofs.Common.{◌≡◌, ℕ, ◌+◌, ◌-◌, List, length, take, drop, ap, ◌∙◌, subst, arith}
use Rattle.std.proofs.lemmas.List.{drop-drop, length-drop}
use Rattle.std.proofs.Math.Seq.{take_all}
use Rattle.std.specs.Io.KnownBytes.{Appends}
use Rattle.dc_outside.proofs.OctetLemmas.{Appends-take}
use Rattle.dc_outside.proofs.std_forms.write_whole.Goals as goal

-- the rest after k more octets
rest_after : (rest octets : List ℕ) (n k : ℕ) → rest ≡ drop n octets → take (length rest - k) (drop k rest) ≡ drop (n + k) octets
rest_after rest octets n k e =
    take_all (length rest - k) (drop k rest) (omega (arith, length-drop k rest)) ∙ ap (drop k) e ∙ drop-drop k n octets

pub loop-rest-preserved : goal.loop-rest-preserved
loop-rest-preserved g c =
    let n = c.loop-rest.invariant.0 in
    let e = c.loop-rest.invariant.1 in
    let k = c.in-Ok.count in
    let contents = g.W.Write.contents in
    let more : Appends (contents c.loop-rest.writer) (contents c.write.new.self) (take k (drop n c.args.bytes.now)) =
    subst (λ (l : List ℕ). Appends (contents c.loop-rest.writer) (contents c.write.new.self) (take k l)) e c.in-Ok.ensures.bytes in
    (n + k, rest_after _ _ n k e, Appends-take _ _ _ _ n k c.loop-rest.invariant.2 more)
