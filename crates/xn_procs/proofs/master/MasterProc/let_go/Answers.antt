use Rattle.std.proofs.Common.{◌≡◌, ◌++◌, ◌∙◌, List, ap, refl, sym}
use Rattle.std.proofs.lemmas.Result.{IfOk-weaker}
use Rattle.node_rules.specs.declared.acts.Act.{Act}
use Rattle.xn_procs.proofs.Stepping.{lets_go-made}
use Rattle.xn_procs.proofs.master.MasterProc.let_go.Goals as goal

pub returns : goal.returns
returns c =
    let e = lets_go-made c.args.self.now c.args.node c.args.draft c.draw.new.self c.go.new.self c.in_ok-prepared.prepared c.in_ok-begun.begun
    (rw (c.in_ok-prepared.ensures, c.in_ok-said.ensures, c.in_ok-preparing.ensures) refl) c.in_ok-draw.ensures (rw c.let_go.ensures at c.in_ok-begun.ensures) in
    IfOk-weaker c.joined-2.result (λ (made : List Act). made ≡ c.in_ok-prepared.prepared ++ c.in_ok-begun.begun) _ (λ made f. e ∙ ap (λ (x : List Act). (c.go.new.self, x)) (sym f)) c.joined-2.ensures
