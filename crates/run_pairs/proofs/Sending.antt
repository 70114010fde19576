-- Who sends on the control links between the master and a secondary node.
use Rattle.std.proofs.Common.{ℕ, ◌≡◌, ◌++◌, true, false, List, [], ◌∷◌, Option, Some, None, refl, ap, ◌∙◌}
use Rattle.std.specs.Prelude.{if◌then◌else◌}
use Rattle.dc_base.specs.Links.{is_same_link, link}
use Rattle.dc_base.specs.Nodes.{is_secondary}
use Rattle.dc_base.specs.declared.nodes.Class.TheVariants.{Ctl}
use Rattle.dc_base.specs.declared.nodes.LinkId.{LinkId}
use Rattle.dc_base.specs.declared.nodes.Node.{Node}
use Rattle.dc_base.specs.declared.nodes.Node.TheVariants.{A, B, M, T}
use Rattle.dc_base.specs.declared.records.Rec.{Rec}
use Rattle.dc_base.specs.declared.records.Rec.TheVariants as rec
use Rattle.node_rules.specs.Choices.{Send}
use Rattle.node_rules.specs.Terminal.{TerminalNode}
use Rattle.node_rules.specs.declared.inputs.Effects.{Effects}
use Rattle.node_rules.specs.declared.inputs.Input.{Input}
use Rattle.run_control.specs.Links.{sent_on}
use Rattle.run_control.specs.SecondControl.{record_to, records_sent}
use Rattle.run_control.specs.Steps.{TerminalStepped, terminal_by_failure, terminal_by_nothing, terminal_by_record, terminal_by_traffic}
use Rattle.run_control.specs.TerminalControl.{Bearers, recovery_answer, takes_plan, terminal_answers}
use Rattle.run_control.specs.Views.{Bearer, terminal_view}
use Rattle.run_control.proofs.Names.{IsAway}
use Rattle.run_control.proofs.Sent.{either}
use Rattle.run_control.proofs.Sequences.{no_records}

-- another secondary node, or the node itself, puts nothing on the line to it
pub down_away : (x y : Node) → is_secondary x ≡ true → is_secondary y ≡ true → IsAway y (link M x Ctl)
down_away T y second other = absurd cc
down_away M y second other = absurd cc
down_away A T second other = absurd cc
down_away A M second other = absurd cc
down_away A A second other = by
  where
    by : IsAway A (link M A Ctl)
    by T = refl
    by M = refl
    by A = refl
    by B = refl
down_away A B second other = by
  where
    by : IsAway B (link M A Ctl)
    by T = refl
    by M = refl
    by A = refl
    by B = refl
down_away B T second other = absurd cc
down_away B M second other = absurd cc
down_away B A second other = by
  where
    by : IsAway A (link M B Ctl)
    by T = refl
    by M = refl
    by A = refl
    by B = refl
down_away B B second other = by
  where
    by : IsAway B (link M B Ctl)
    by T = refl
    by M = refl
    by A = refl
    by B = refl

-- nor the master on the line from it
pub master_away : (x : Node) → is_secondary x ≡ true → IsAway M (link x M Ctl)
master_away T second y = absurd cc
master_away M second y = absurd cc
master_away A second T = refl
master_away A second M = refl
master_away A second A = refl
master_away A second B = refl
master_away B second T = refl
master_away B second M = refl
master_away B second A = refl
master_away B second B = refl

pub a_from_b : IsAway B (link A M Ctl)
a_from_b T = refl
a_from_b M = refl
a_from_b A = refl
a_from_b B = refl

pub b_from_a : IsAway A (link B M Ctl)
b_from_a T = refl
b_from_a M = refl
b_from_a A = refl
b_from_a B = refl

-- the terminal sends to the master alone
module _ (l : LinkId) (apart : is_same_link l (link T M Ctl) ≡ false) where
  one_apart : (r : Rec) → sent_on l (record_to T M r ∷ []) ≡ []
  one_apart r = ap (λ b. (if b then (record_to T M r).1 ∷ [] else []) ++ []) apart

  recovery_apart : (id : ℕ) (o : Option Bearer) → sent_on l (recovery_answer id o) ≡ []
  recovery_apart id None = refl
  recovery_apart id (Some b) = one_apart (rec.Recovd id)

  answers_apart : (bearers : Bearers) (r : Rec) → sent_on l (terminal_answers bearers r) ≡ []
  answers_apart bearers (rec.Reconf plan key) = either (λ (xs : List Send). sent_on l xs ≡ []) (takes_plan bearers plan) (record_to T M (rec.Rcomp plan.g) ∷ []) [] (one_apart (rec.Rcomp plan.g)) refl
  answers_apart bearers (rec.Rcomp g) = refl
  answers_apart bearers (rec.Scgf failed) = refl
  answers_apart bearers (rec.Recov id) = recovery_apart id (bearers id)
  answers_apart bearers (rec.Recovd id) = refl
  answers_apart bearers (rec.Addreq plan key) = refl
  answers_apart bearers (rec.Addack g) = refl
  answers_apart bearers (rec.Addrej g) = refl
  answers_apart bearers (rec.Modreq plan key) = refl
  answers_apart bearers (rec.Modack g) = refl
  answers_apart bearers (rec.Modrej g) = refl
  answers_apart bearers (rec.Recfg g) = refl
  answers_apart bearers (rec.Relreq plan) = refl
  answers_apart bearers (rec.Relack g) = refl
  answers_apart bearers (rec.Relrej g) = refl
  answers_apart bearers (rec.Uecr g) = refl
  answers_apart bearers (rec.Snst status) = refl
  answers_apart bearers (rec.Moved g id) = refl
  answers_apart bearers (rec.Scgn id g) = refl
  answers_apart bearers rec.Modrqd = refl
  answers_apart bearers (rec.Modcnf g) = refl
  answers_apart bearers (rec.Modref word) = refl
  answers_apart bearers rec.Chgrqd = refl
  answers_apart bearers (rec.Chgcnf plan) = refl
  answers_apart bearers (rec.Chgref word) = refl
  answers_apart bearers rec.Relrqd = refl
  answers_apart bearers (rec.Relcnf plan) = refl

  pub terminal_away : (t : TerminalNode) (i : Input) (done : TerminalNode × Effects) → TerminalStepped t i done → sent_on l (records_sent done.1.sends) ≡ []
  terminal_away t i done (terminal_by_traffic is) = ap (sent_on l) (no_records done.1.sends is.sends)
  terminal_away t i done (terminal_by_record r came_in is) = ap (sent_on l) is.told ∙ answers_apart (terminal_view t) r
  terminal_away t i done (terminal_by_failure failed came_in is) = ap (sent_on l) is.told ∙ one_apart (rec.Scgf failed)
  terminal_away t i done (terminal_by_nothing is) = ap (λ (z : TerminalNode × Effects). sent_on l (records_sent z.1.sends)) is

pub terminal_down : (x : Node) → is_secondary x ≡ true → is_same_link (link M x Ctl) (link T M Ctl) ≡ false
terminal_down T second = absurd cc
terminal_down M second = absurd cc
terminal_down A second = refl
terminal_down B second = refl

pub terminal_up : (x : Node) → is_secondary x ≡ true → is_same_link (link x M Ctl) (link T M Ctl) ≡ false
terminal_up T second = absurd cc
terminal_up M second = absurd cc
terminal_up A second = refl
terminal_up B second = refl
