use Rattle.journals.specs.Journals.{taken}
use Rattle.node_rules.specs.Choices.{by_policies}
use Rattle.outlets.specs.Boxes.{ids}
use Rattle.split_leg.specs.Stored.{margins}
use Rattle.workers.specs.Working.{HasRun, Opening, Sound, around}
use Rattle.workers.proofs.worker.Worker.run.Given as goal

abbrev pub invariant-loop-turn : goal.invariant-loop-turn
invariant-loop-turn g l = record {
  some : (o : Opening) × Sound g.C.NodeCore.node g.S.Shaper.is_lossless (around (ids l.boxes) (by_policies (margins l.policies))) o l.turn (taken l.self.journal) l.self;
  each : HasRun g.C.NodeCore.node g.S.Shaper.is_lossless (around (ids l.boxes) (by_policies (margins l.policies))) l.turn l.fn.self l.self;
}
