use Rattle.std.proofs.Common.{suc, ◌≡◌, ◌+◌, ◌-◌, ◌<◌, ◌≤◌, ◌∙◌, false, true, length, sym, arith}
use Rattle.std.proofs.lemmas.Bool.{le-ltb, lt-ltb}
use Rattle.dc_base.specs.declared.nodes.LinkId.{LinkId}
use Rattle.dc_base.specs.declared.nodes.Node.TheVariants.{T}
use Rattle.dc_base.specs.declared.nodes.Class.TheVariants.{Ctl}
use Rattle.made_turns.proofs.Loaded.{place_end, place_here, place_later, place_past}
use Rattle.made_turns.proofs.stepping.loaded_at.Goals as goal
use Rattle.made_turns.proofs.stepping.loaded_at.Goals.{then-len-gt0+else-before-eq0, else-len-gt0}

pub returns-then-before-eq0-clause-link : goal.returns-then-before-eq0-clause-link
returns-then-before-eq0-clause-link c =
    let less : c.loop-link.link-index < length c.args.links.now = omega (arith, c.loop-link-test.true) in
    let some : 0 < c.len.result = omega (arith, c.if-len-gt0.true) in
    sym (c.loop-link.invariant
    ∙ place_here c.args.network.now.links c.args.links.now c.loop-link.link-index c.loop-link.before _ less (lt-ltb 0 _ (omega (arith, c.len.ensures, some))) c.if-before-eq0.true)

pub loop-link-preserved : goal.loop-link-preserved
loop-link-preserved c =
    let d : LinkId = record { from = T; to = T; class = Ctl } in
    let less : c.loop-link.link-index < length c.args.links.now = omega (arith, c.loop-link-test.true) in
    c.loop-link.invariant ∙ elim c.if-len-gt0.branch [
      | then-len-gt0+else-before-eq0 w ↦
          let after : c.loop-link.before ≡ suc c.if-len-gt0.before = omega (arith, w.before-is, w.if-before-eq0.false) in
          place_later c.args.network.now.links c.args.links.now c.loop-link.link-index c.loop-link.before c.if-len-gt0.before d less
          (lt-ltb 0 _ (omega (arith, c.len.ensures, w.if-len-gt0.true))) after
      | else-len-gt0 w ↦
          rw w.before-is
          (place_past c.args.network.now.links c.args.links.now c.loop-link.link-index c.loop-link.before d less
          (le-ltb 0 _ (omega (arith, c.len.ensures, w.if-len-gt0.false))))
    ]

pub returns-clause-link : goal.returns-clause-link
returns-clause-link c =
    let past : length c.args.links.now ≤ c.loop-link.link-index = omega (arith, c.loop-link-test.false) in
    sym (c.loop-link.invariant ∙ place_end c.args.network.now.links c.args.links.now c.loop-link.link-index c.loop-link.before past)
