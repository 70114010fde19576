-- What each part of a step of the master keeps of a pair, the whole step keeps; and what each step of a pair keeps holds in each run.
use Rattle.std.proofs.Common.{◌≡◌, ◌++◌, true, List, [], ◌∷◌, sym, ap, subst, ◌∙◌, append_assoc}
use Rattle.std.proofs.lemmas.List.{append-nil}
use Rattle.std.specs.List.{AllByRecursion, flat_map}
use Rattle.std.specs.Prelude.{⊤}
use Rattle.transcript.proofs.OnEach.{each_append}
use Rattle.dc_base.specs.Nodes.{is_same_node, is_secondary}
use Rattle.dc_base.specs.declared.events.Event.{Event}
use Rattle.dc_base.specs.declared.nodes.Node.{Node}
use Rattle.dc_base.specs.declared.records.Rec.{Rec}
use Rattle.node_rules.specs.Choices.{Choices}
use Rattle.node_rules.specs.MasterState.{MasterActs}
use Rattle.node_rules.specs.Run.{world_after, world_step}
use Rattle.node_rules.specs.World.{World}
use Rattle.node_rules.specs.declared.acts.Act.{Act}
use Rattle.node_rules.specs.declared.acts.Act.TheVariants.{FailOne as fail_one, Go as go, Pass as pass, Prepare as prepare, RecoverOne as recover_one, Say as say, Send as send, UnlockAll as unlock_all}
use Rattle.run_control.specs.Sound.{AreSound}
use Rattle.run_control.proofs.Sent.{either}
use Rattle.run_control.proofs.TalkRuns.{event_kept}
use Rattle.run_control.proofs.TalkSteps.{IsKept}
use Rattle.run_agreed.specs.Lines.{Pair, PairStep, is_spoken, pair_at, said_to, sent_to, spoken}
use Rattle.run_agreed.specs.Segments.{Chain, IsChain, Origin, Segment}
use Rattle.run_agreed.proofs.PairRuns.{event_pair}
use Rattle.run_agreed.proofs.Spoken.{said_append}

-- ---- what acts say

-- each record that the act sends is so
abbrev pub ActSays : (Rec → Type 0) → Act → Type 0
ActSays P (send to r) = P r
ActSays P (prepare p) = ⊤
ActSays P (go p) = ⊤
ActSays P (unlock_all g) = ⊤
ActSays P (say n) = ⊤
ActSays P (recover_one id) = ⊤
ActSays P (fail_one id g) = ⊤
ActSays P (pass status) = ⊤

spoken_all : (P : Rec → Type 0) (rs : List Rec) → AllByRecursion P rs → AllByRecursion P (spoken rs)
spoken_all P [] all = tt
spoken_all P (r ∷ rs) all = either (AllByRecursion P) (is_spoken r) (r ∷ spoken rs) (spoken rs) (all.0, spoken_all P rs all.1) (spoken_all P rs all.1)

sent_all : (P : Rec → Type 0) (x : Node) (a : Act) → ActSays P a → AllByRecursion P (sent_to x a)
sent_all P x (send to r) is = either (AllByRecursion P) (is_same_node x to) (r ∷ []) [] (is, tt) tt
sent_all P x (prepare p) is = tt
sent_all P x (go p) is = tt
sent_all P x (unlock_all g) is = tt
sent_all P x (say n) is = tt
sent_all P x (recover_one id) is = tt
sent_all P x (fail_one id g) is = tt
sent_all P x (pass status) is = tt

flat_all : (P : Rec → Type 0) (x : Node) (acts : List Act) → AllByRecursion (ActSays P) acts → AllByRecursion P (flat_map (sent_to x) acts)
flat_all P x [] all = tt
flat_all P x (a ∷ acts) all = each_append P (sent_to x a) (flat_map (sent_to x) acts) (sent_all P x a all.0) (flat_all P x acts all.1)

-- what acts say to a node is so where each act says so
pub said_all : (P : Rec → Type 0) (x : Node) (acts : List Act) → AllByRecursion (ActSays P) acts → AllByRecursion P (said_to x acts)
said_all P x acts all = spoken_all P (flat_map (sent_to x) acts) (flat_all P x acts all)

pub each_as : {X : Type 0} (P Q : X → Type 0) → ((y : X) → P y → Q y) → (xs : List X) → AllByRecursion P xs → AllByRecursion Q xs
each_as P Q f [] all = tt
each_as P Q f (y ∷ ys) all = (f y all.0, each_as P Q f ys all.1)

-- ---- chains

-- the pair after acts of the master
abbrev pub told_pair : Node → Pair → MasterActs → Pair
told_pair x a out = record a { m = out.0; down = a.down ++ said_to x out.1 }

module _ (x : Node) (o : Origin) (P : Pair → Type 0) (by_part : (a : Pair) (r : MasterActs) → P a → Segment o a.m r → P (told_pair x a r)) where
  told_none : (a : Pair) → P a → P (told_pair x a (a.m, []))
  told_none a is = subst (λ rs. P (record a { down = rs })) (sym (append-nil a.down)) is

  told_twice : (a : Pair) (r q : MasterActs) → P (told_pair x (told_pair x a r) q) → P (told_pair x a (q.0, r.1 ++ q.1))
  told_twice a r q is =
      subst (λ rs. P (record a { m = q.0; down = rs })) (append_assoc a.down (said_to x r.1) (said_to x q.1) ∙ ap (λ rs. a.down ++ rs) (sym (said_append x r.1 q.1))) is

  chain_by : (parts : List MasterActs) (a : Pair) (out : MasterActs) → P a → Chain o parts a.m out → P (told_pair x a out)
  chain_by [] a out is all = subst (λ (y : MasterActs). P (told_pair x a y)) (sym all) (told_none a is)
  chain_by (r ∷ rs) a out is all =
      let q = all.1.0 in
      subst (λ (y : MasterActs). P (told_pair x a y)) (sym all.1.2) (told_twice a r q (chain_by rs (told_pair x a r) q (by_part a r is all.0) all.1.1))

  -- after a step of the master
  pub chain_keeps : (a : Pair) (out : MasterActs) → P a → IsChain o a.m out → P (told_pair x a out)
  chain_keeps a out is chain = chain_by chain.parts a out is chain.all

-- and after one more
pub chains_keep : (x : Node) (P : Pair → Type 0) (a : Pair) (out more : MasterActs) → P (told_pair x (told_pair x a out) more) → P (told_pair x a (more.0, out.1 ++ more.1))
chains_keep x P a out more is = subst (λ rs. P (record a { m = more.0; down = rs })) (append_assoc a.down (said_to x out.1) (said_to x more.1) ∙ ap (λ rs. a.down ++ rs) (sym (said_append x out.1 more.1))) is

-- ---- runs

-- what each step of each pair keeps, and a new run has, each run has
module _ (P : Node → Pair → Type 0) (by_step : (x : Node) → is_secondary x ≡ true → (a b : Pair) → P x a → PairStep x a b → P x b) where
  pub run_pair : (c : Choices) (w : World) (es : List Event) → AreSound es → IsKept w → (x : Node) → is_secondary x ≡ true → P x (pair_at x w) → P x (pair_at x (world_after c w es))
  run_pair c w [] sound kept x second is = is
  run_pair c w (e ∷ es) sound kept x second is =
      let v = (world_step c w e).0 in run_pair c v es sound.1 (event_kept c w e sound.0 kept) x second (by_step x second (pair_at x w) (pair_at x v) is (event_pair c w e kept x second))
