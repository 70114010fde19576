use Rattle.std.proofs.Common.{◌≡◌, ◌++◌, ◌∙◌, List, None, Some, ap, sym}
use Rattle.std.proofs.lemmas.Result.{IfOk-weaker}
use Rattle.node_rules.specs.declared.acts.Act.{Act}
use Rattle.xn_procs.proofs.Stepping.{begins-alone, begins-asked}
use Rattle.xn_procs.proofs.master.MasterProc.begin.Goals.{in-Some+in_ok-begun-in-Some, in-None+in_ok-begun-in-None}
use Rattle.xn_procs.proofs.master.MasterProc.begin.Goals as goal

pub returns : goal.returns
returns c = elim c.match-first.branch [
  | in-Some+in_ok-begun-in-Some w ↦
      let d = c.args.draft in
      let is_first : d.first ≡ Some (w.in-Some.first, w.in-Some.who) = cc in
      let e = begins-asked c.args.self.now d c.args.wanted w.in-Some.first w.in-Some.who c.draw.new.self c.match-first.self c.in_ok-prepared.prepared c.match-first.begun
      is_first c.in_ok-prepared.ensures c.in_ok-draw.ensures (rw (w.self-is, w.begun-is) w.in_ok-begun-in-Some.ensures) in
      IfOk-weaker c.joined.result (λ (made : List Act). made ≡ c.in_ok-prepared.prepared ++ c.match-first.begun) _ (λ made f. e ∙ ap (λ (x : List Act). (c.match-first.self, x)) (sym f)) c.joined.ensures
  | in-None+in_ok-begun-in-None w ↦
      let d = c.args.draft in
      let e = begins-alone c.args.self.now d c.args.wanted c.draw.new.self c.match-first.self c.in_ok-prepared.prepared c.match-first.begun
      w.in-None.is c.in_ok-prepared.ensures c.in_ok-draw.ensures (rw (w.self-is, w.begun-is) (rw w.alone.ensures at w.in_ok-begun-in-None.ensures)) in
      IfOk-weaker c.joined.result (λ (made : List Act). made ≡ c.in_ok-prepared.prepared ++ c.match-first.begun) _ (λ made f. e ∙ ap (λ (x : List Act). (c.match-first.self, x)) (sym f)) c.joined.ensures
]
