-- A secondary node is given an input, or the master is, by the pairs of them: what is kept of all bearers then.
use Rattle.std.proofs.Common.{ℕ, ◌≡◌, ◌≤◌, ◌<◌, ◌+◌, ◌∙◌, Bool, true, false, List, [], Option, Some, None, refl, sym, ap, subst, arith}
use Rattle.std.specs.List.{list_any}
use Rattle.std.specs.Prelude.{◌||◌}
use Rattle.dc_base.specs.Links.{link}
use Rattle.dc_base.specs.Nodes.{is_same_node, is_secondary}
use Rattle.dc_base.specs.declared.flights.Flight.TheVariants as flight
use Rattle.dc_base.specs.declared.nodes.Class.TheVariants.{Ctl}
use Rattle.dc_base.specs.declared.nodes.LinkId.{LinkId}
use Rattle.dc_base.specs.declared.nodes.Node.{Node}
use Rattle.dc_base.specs.declared.nodes.Node.TheVariants.{A, B, M, T}
use Rattle.dc_base.specs.declared.nodes.Want.{Want}
use Rattle.dc_base.specs.declared.records.Rec.{Rec}
use Rattle.node_rules.specs.Choices.{Choices}
use Rattle.node_rules.specs.Master.{MasterNode}
use Rattle.node_rules.specs.MasterState.{MasterProc}
use Rattle.node_rules.specs.MasterTaking.{master_take}
use Rattle.node_rules.specs.Run.{given_to}
use Rattle.node_rules.specs.SecondStep.{second_step, second_takes}
use Rattle.node_rules.specs.Secondary.{SecondNode, name_of}
use Rattle.node_rules.specs.declared.commands.Command.{Command}
use Rattle.node_rules.specs.declared.commands.Command.TheVariants.{Asked as asked, Gone as gone, Recovering as recovering}
use Rattle.node_rules.specs.declared.commands.Membership.{Membership}
use Rattle.node_rules.specs.declared.inputs.Effects.{Effects}
use Rattle.node_rules.specs.declared.inputs.Input.{Input}
use Rattle.node_rules.specs.declared.inputs.Input.TheVariants.{Cmd, Come}
use Rattle.run_control.specs.Claims.{IsStandOf, Stand, agrees, asks, goes_on, is_agreement, refuses, rests}
use Rattle.run_control.specs.Orders.{Ascends}
use Rattle.run_control.specs.SecondControl.{Views, records_sent}
use Rattle.run_control.specs.Sound.{AddsSecond}
use Rattle.run_control.specs.Steps.{MasterStepped, master_by_command, master_by_nothing, master_by_record, master_by_traffic, record_in, sender_of}
use Rattle.run_control.specs.Traffic.{came}
use Rattle.run_control.specs.Views.{master_view, second_view}
use Rattle.run_control.proofs.NoLinks.{IsNoLink, a_a, a_b, b_a, b_b, terminal_a, terminal_b}
use Rattle.run_control.proofs.Records.{bare_records}
use Rattle.run_control.proofs.Runs.{AddsIn}
use Rattle.run_control.proofs.SecondHears.{second_hears}
use Rattle.run_control.proofs.Steps.{second_stepped}
use Rattle.run_control.proofs.Taken.{GoesRight, HasNone, NoneOf, Takes, takes_none, takes_one}
use Rattle.run_control.proofs.TalkSteps.{input_of, refutes}
use Rattle.run_pairs.specs.Apt.{IsApt}
use Rattle.run_pairs.specs.Pairs.{reply}
use Rattle.run_pairs.proofs.Pairing.{IsPaired}
use Rattle.run_pairs.proofs.Replies.{same_node}
use Rattle.run_pairs.proofs.SecondWords.{told_of}
use Rattle.run_places.specs.Tokens.{status_in, statuses}
use Rattle.run_places.proofs.Begins.{IsFree}
use Rattle.run_places.proofs.Counting.{bare_status}
use Rattle.run_places.proofs.Items.{AreNamed}
use Rattle.run_places.proofs.MasterSettling.{WholeThen}
use Rattle.run_places.proofs.MasterStepping.{command_then, heard_then, nothing_then, traffic_then, turn_taken}
use Rattle.run_places.proofs.PairFacts.{IsOpen, none_newer}
use Rattle.run_places.proofs.SecondTurning.{HasTaken, IsFlagOf, alone_taken, record_taken}
use Rattle.run_places.proofs.States.{WaitsFor, course_of, state_of}
use Rattle.run_places.proofs.Taking.{AnswersFrom, take_turned}
use Rattle.run_places.proofs.TurnLines.{AreApartAll}
use Rattle.run_places.proofs.Whole.{WholeIn, agreed_by, ups}

-- ---- where a record comes from

-- a secondary node gets none from elsewhere than the master
not_given : (x : Node) → is_secondary x ≡ true → (i : Input) (r : Rec) → ((l : LinkId) → IsNoLink l → NoneOf l i) → NoneOf (link M x Ctl) i → GoesRight i x → record_in i ≡ Some r → ⊥
not_given x second (Cmd e) r others none right is = absurd cc
not_given T second (Come k f) r others none right is = absurd cc
not_given M second (Come k f) r others none right is = absurd cc
not_given A second (Come k f) r others none right is = by k.from refl
  where
    by : (y : Node) → k.from ≡ y → ⊥
    by T from = refutes T A k f r (others (link T A Ctl) terminal_a) from right is
    by M from = refutes M A k f r none from right is
    by A from = refutes A A k f r (others (link A A Ctl) a_a) from right is
    by B from = refutes B A k f r (others (link B A Ctl) b_a) from right is
not_given B second (Come k f) r others none right is = by k.from refl
  where
    by : (y : Node) → k.from ≡ y → ⊥
    by T from = refutes T B k f r (others (link T B Ctl) terminal_b) from right is
    by M from = refutes M B k f r none from right is
    by A from = refutes A B k f r (others (link A B Ctl) a_b) from right is
    by B from = refutes B B k f r (others (link B B Ctl) b_b) from right is

-- what the master gets is not the node's, where none of its line is taken
pub not_sent : (x : Node) (i : Input) (r : Rec) → NoneOf (link x M Ctl) i → GoesRight i M → record_in i ≡ Some r → is_same_node x (sender_of i) ≡ false
not_sent x (Cmd e) r none right is = absurd cc
not_sent x (Come k f) r none right is = by (is_same_node x k.from) refl
  where
    by : (b : Bool) → is_same_node x k.from ≡ b → b ≡ false
    by false apart = refl
    by true here = absurd (refutes x M k f r none (sym (same_node x k.from here)) right is)

-- ---- a secondary node

-- what the node made of an input
pub record Acted (x : Node) (b : Bool) (m : MasterProc) (s : SecondNode) (down down' : List Rec) (done : SecondNode × Effects) : Type 0 where
  pub taken : ℕ → ℕ
  pub fewer : (k : ℕ) → statuses k (bare_records down') + taken k ≤ statuses k (bare_records down)
  pub line : AreApartAll x (bare_records down')
  pub has : HasTaken x b m.command m.table.rows taken (second_view s) (second_view done.0) (told_of x (records_sent done.1.sends))

module _ (c : Choices) (m : MasterProc) (apt : IsApt m) (b : Bool) (s : SecondNode) (x : Node) (second : is_secondary x ≡ true) (name : name_of s ≡ x) (ascends : Ascends s.anchors) (named : AreNamed (second_view s))
    (waits : (k : ℕ) → WaitsFor x (course_of b m.command) k (second_view s k)) (down down' up : List Rec) (pair : IsPaired x m s.proc.membership s.proc.want (second_view s) (bare_records down) (bare_records up))
    (line : AreApartAll x (bare_records down)) (flag : IsFlagOf x b m.command (bare_records up)) where
  pub node_acts : (i : Input) → Takes (link M x Ctl) (given_to x i) down down' → ((l : LinkId) → IsNoLink l → HasNone l (given_to x i)) → GoesRight i x → Acted x b m s down down' (came (second_step c s i))
  node_acts i (takes_none p none) others right = record {
    taken = λ k. 0;
    fewer = λ k. omega (arith, ap (λ rs. statuses k (bare_records rs)) p);
    line = subst (λ rs. AreApartAll x (bare_records rs)) (sym p) line;
    has = alone_taken x second m apt b s name named waits i (came (second_step c s i)) (λ r is. not_given x second i r others none right is) (second_stepped c s i ascends);
  }
  node_acts i (takes_one r first is) others right =
      let input : i ≡ Come (link M x Ctl) (flight.Ctl r) = ap (λ h. input_of h i) is in
      let whole_line = subst (λ rs. AreApartAll x (bare_records rs)) first line in
      let pair' = subst (λ rs. IsPaired x m s.proc.membership s.proc.want (second_view s) (bare_records rs) (bare_records up)) first pair in
      subst (λ j. Acted x b m s down down' (came (second_step c s j))) (sym input)
      (record {
        taken = λ k. status_in k r;
        fewer = λ k. omega (arith, ap (λ rs. statuses k (bare_records rs)) first, bare_status k r);
        line = whole_line.1;
        has = record_taken x second m apt b s name named waits r (second_takes c s (flight.Ctl r) Ctl) (bare_records down') (bare_records up) pair' whole_line.0 flag (second_hears c s r ascends);
      })

-- ---- no agreement is newer than what was drawn

free_stand : (x : Node) (b : Bool) (o : Option Command) (s : Stand) → IsFree (course_of b o) → IsStandOf x o s → IsOpen s
free_stand x b (Some (asked ch first who wanted)) s free is = absurd free
free_stand x b None rests free is = tt
free_stand x b None (asks f p) free is = absurd is
free_stand x b None (refuses f p) free is = absurd is
free_stand x b None (agrees f p) free is = absurd is
free_stand x b None (goes_on leaves) free is = absurd is
free_stand x b (Some (gone p w)) rests free is = absurd is
free_stand x b (Some (gone p w)) (asks f q) free is = absurd is
free_stand x b (Some (gone p w)) (refuses f q) free is = absurd is
free_stand x b (Some (gone p w)) (agrees f q) free is = absurd is
free_stand x b (Some (gone p w)) (goes_on leaves) free is = tt
free_stand x b (Some (recovering i terminal o)) rests free is = tt
free_stand x b (Some (recovering i terminal o)) (asks f p) free is = absurd is
free_stand x b (Some (recovering i terminal o)) (refuses f p) free is = absurd is
free_stand x b (Some (recovering i terminal o)) (agrees f p) free is = absurd is
free_stand x b (Some (recovering i terminal o)) (goes_on leaves) free is = absurd is

open_reply : (s : Stand) → IsOpen s → reply s ≡ []
open_reply rests is = refl
open_reply (asks f p) is = absurd is
open_reply (refuses f p) is = absurd is
open_reply (agrees f p) is = absurd is
open_reply (goes_on leaves) is = refl

pub fresh_line : (x : Node) (b : Bool) (m : MasterProc) (mem : Membership) (want : Option Want) (at : Views) (down up : List Rec) → IsPaired x m mem want at down up → IsFree (course_of b m.command) → (g : ℕ) → m.table.last < g → list_any (is_agreement g) up ≡ false
fresh_line x b m mem want at down up pair free g newer =
    let is = free_stand x b m.command pair.stand free pair.stands in
    none_newer pair.stand g m.table.last up is newer pair.pair.up_within (pair.pair.answers ∙ open_reply pair.stand is)

pub or_rest : (p q : Bool) → (p || q) ≡ false → q ≡ false
or_rest true q is = absurd cc
or_rest false q is = is

-- on whichever line
pub fresh_lines : (ua ub : List Rec) (g : ℕ) (who : Node) → list_any (is_agreement g) ua ≡ false → list_any (is_agreement g) ub ≡ false → list_any (is_agreement g) (ups ua ub who) ≡ false
fresh_lines ua ub g A p q = p
fresh_lines ua ub g B p q = q
fresh_lines ua ub g M p q = refl
fresh_lines ua ub g T p q = refl

-- ---- the master

-- any input that brings no record of a secondary node
module _ (c : Choices) (m : MasterNode) (asc : Ascends m.anchors) (apt : IsApt m.proc) (b : Bool) (av bv : Views) (da ua db ub : List Rec) (whole : WholeIn (state_of b m.proc) (master_view m) av bv da ua db ub)
    (fresh : IsFree (course_of b m.proc.command) → (g : ℕ) (who : Node) → m.proc.table.last < g → list_any (is_agreement g) (ups ua ub who) ≡ false) (same : b ≡ agreed_by m.proc.command (ups ua ub)) where
  sender_answers : (y : Node) (r : Rec) → is_same_node A y ≡ false → is_same_node B y ≡ false → AnswersFrom b m.proc apt y r
  sender_answers T r off off' = tt
  sender_answers M r off off' = tt
  sender_answers A r off off' = absurd cc
  sender_answers B r off off' = absurd cc

  pub master_by_itself : (i : Input) (done : MasterNode × Effects) → AddsIn i → ((r : Rec) → record_in i ≡ Some r → is_same_node A (sender_of i) ≡ false) → ((r : Rec) → record_in i ≡ Some r → is_same_node B (sender_of i) ≡ false) → MasterStepped c m i done
      → WholeThen av bv da ua db ub done
  master_by_itself i done adds off off' (master_by_traffic is) = traffic_then c m asc apt b av bv da ua db ub whole fresh done same is
  master_by_itself i done adds off off' (master_by_record r came_in is) =
      heard_then c m asc apt b av bv da ua db ub whole fresh (sender_of i) r done
      (turn_taken c m asc apt b av bv da ua db ub whole fresh (master_take (sender_of i) m.proc r) same (take_turned b m.proc apt (sender_of i) r (sender_answers (sender_of i) r (off r came_in) (off' r came_in)))) is
  master_by_itself i done adds off off' (master_by_command e came_in is) =
      let good : AddsSecond e = subst AddsIn came_in adds in
      command_then c m asc apt b av bv da ua db ub whole fresh e done good same is
  master_by_itself i done adds off off' (master_by_nothing is) = nothing_then c m asc apt b av bv da ua db ub whole fresh done same is
