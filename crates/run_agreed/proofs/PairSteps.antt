-- Each event changes the procedures of the master and of a secondary node, and the line between them, in one of a few ways.
use Rattle.std.proofs.Common.{◌≡◌, ◌++◌, Bool, true, false, List, [], ◌∷◌, Option, Some, None, refl, sym, ap, subst, ◌∙◌}
use Rattle.std.specs.Prelude.{Err, Ok, Result, if◌then◌else◌}
use Rattle.std.proofs.lemmas.List.{append-nil}
use Rattle.dc_base.specs.Links.{is_same_link, link}
use Rattle.dc_base.specs.Nodes.{is_same_node, is_secondary}
use Rattle.dc_base.specs.declared.flights.Flight.TheVariants as flight
use Rattle.dc_base.specs.declared.nodes.Class.TheVariants.{Ctl}
use Rattle.dc_base.specs.declared.nodes.LinkId.{LinkId}
use Rattle.dc_base.specs.declared.nodes.Node.{Node}
use Rattle.dc_base.specs.declared.nodes.Node.TheVariants.{A, B, M, T}
use Rattle.dc_base.specs.declared.records.Rec.{Rec}
use Rattle.dc_base.specs.declared.records.Rec.TheVariants as rec
use Rattle.dc_base.specs.declared.records.StatusTransfer.{StatusTransfer}
use Rattle.node_rules.specs.Choices.{Choices, Send}
use Rattle.node_rules.specs.MasterState.{MasterProc}
use Rattle.node_rules.specs.Master.{MasterNode}
use Rattle.node_rules.specs.MasterStep.{master_step}
use Rattle.node_rules.specs.Run.{Happening, given_to}
use Rattle.node_rules.specs.SecondRecords.{second_take, status_passed}
use Rattle.node_rules.specs.SecondState.{SecondActs, SecondProc}
use Rattle.node_rules.specs.SecondStep.{second_step}
use Rattle.node_rules.specs.Secondary.{SecondNode, name_of}
use Rattle.node_rules.specs.World.{World}
use Rattle.node_rules.specs.declared.commands.Membership.{Membership}
use Rattle.node_rules.specs.declared.commands.Membership.TheVariants.{Joined as joined, Left as left, Outside as outside}
use Rattle.node_rules.specs.declared.inputs.Effects.{Effects}
use Rattle.node_rules.specs.declared.inputs.Input.{Input}
use Rattle.node_rules.specs.declared.inputs.Input.TheVariants.{Cmd, Come}
use Rattle.run_control.specs.Links.{sent_on}
use Rattle.run_control.specs.Orders.{Ascends}
use Rattle.run_control.specs.SecondControl.{records_sent}
use Rattle.run_control.specs.Steps.{record_in, sender_of}
use Rattle.run_control.specs.Traffic.{came}
use Rattle.run_control.proofs.MasterHears.{master_hears}
use Rattle.run_control.proofs.Names.{IsAway, second_apart}
use Rattle.run_control.proofs.NoLinks.{IsNoLink, master_apart}
use Rattle.run_control.proofs.Steps.{master_stepped, second_stepped}
use Rattle.run_control.proofs.Taken.{GoesRight, HasNone, Takes, records_in, takes_none, takes_one}
use Rattle.run_control.proofs.TalkSteps.{IsKept, input_of, no_happening}
use Rattle.run_agreed.specs.Lines.{Pair, PairStep, is_spoken, master_ignores, master_moves, master_takes as takes_there, rests, said_to, second_ignores, second_moves, second_takes, spoken}
use Rattle.run_agreed.proofs.PairParts.{MasterTook, SecondDid, did_nothing, did_order, did_take, heard_took, ignored, none_given, none_of, stepped_did, stepped_went, took}
use Rattle.run_agreed.proofs.Spoken.{heard_on}

-- ---- pairs

pub pair_same : {m n : MasterProc} {d e u v : List Rec} {s t : SecondProc} → m ≡ n → d ≡ e → u ≡ v → s ≡ t → ◌≡◌ {A = Pair} (record { m = m; down = d; up = u; s = s }) (record { m = n; down = e; up = v; s = t })
pair_same {m} {n} {d} {e} {u} {v} {s} {t} p q r z =
    ap (λ k. record { m = k; down = d; up = u; s = s }) p ∙ ap (λ k. record { m = n; down = k; up = u; s = s }) q
    ∙ ap (λ k. record { m = n; down = e; up = k; s = s }) r ∙ ap (λ k. record { m = n; down = e; up = v; s = k }) z

-- a record of a line, of commands or not
data Front (r : Rec) (rest : List Rec) (line : List Rec) : Type 0 where
  is_first : (is : spoken line ≡ r ∷ spoken rest) → Front r rest line
  is_none : (unspoken : is_spoken r ≡ false) → (is : spoken line ≡ spoken rest) → Front r rest line

front : (r : Rec) (rest line : List Rec) → line ≡ r ∷ rest → Front r rest line
front r rest line is = by (is_spoken r) refl
  where
    by : (b : Bool) → is_spoken r ≡ b → Front r rest line
    by true yes' = is_first (ap spoken is ∙ ap (λ b. if b then r ∷ spoken rest else spoken rest) yes')
    by false no' = is_none no' (ap spoken is ∙ ap (λ b. if b then r ∷ spoken rest else spoken rest) no')

-- what of a record that is not of commands a secondary node makes
record Unsaid (s : SecondProc) (acts : SecondActs) : Type 0 where
  proc : acts.0 ≡ s
  said : said_to M acts.1 ≡ []

abbrev ok_or : {E : Type 0} → Result SecondActs E → SecondActs → SecondActs
ok_or (Ok r) d = r
ok_or (Err why) d = d

status_unsaid : (s : SecondProc) (st : StatusTransfer) (m : Membership) (acts : SecondActs) → status_passed s st m ≡ Ok acts → Unsaid s acts
status_unsaid s st outside acts is = absurd cc
status_unsaid s st joined acts is = record { proc = ap (λ r. (ok_or r acts).0) (sym is); said = ap (λ r. said_to M (ok_or r acts).1) (sym is) }
status_unsaid s st left acts is = absurd cc

unsaid : (s : SecondProc) (r : Rec) (acts : SecondActs) → is_spoken r ≡ false → second_take s r ≡ Ok acts → Unsaid s acts
unsaid s (rec.Reconf plan key) acts unspoken is = absurd cc
unsaid s (rec.Rcomp g) acts unspoken is = absurd cc
unsaid s (rec.Scgf failed) acts unspoken is = absurd cc
unsaid s (rec.Recov id) acts unspoken is = absurd cc
unsaid s (rec.Recovd id) acts unspoken is = absurd cc
unsaid s (rec.Addreq plan key) acts unspoken is = absurd cc
unsaid s (rec.Addack g) acts unspoken is = absurd cc
unsaid s (rec.Addrej g) acts unspoken is = absurd cc
unsaid s (rec.Modreq plan key) acts unspoken is = absurd cc
unsaid s (rec.Modack g) acts unspoken is = absurd cc
unsaid s (rec.Modrej g) acts unspoken is = absurd cc
unsaid s (rec.Recfg g) acts unspoken is = absurd cc
unsaid s (rec.Relreq plan) acts unspoken is = absurd cc
unsaid s (rec.Relack g) acts unspoken is = absurd cc
unsaid s (rec.Relrej g) acts unspoken is = absurd cc
unsaid s (rec.Uecr g) acts unspoken is = absurd cc
unsaid s (rec.Snst status) acts unspoken is = status_unsaid s status s.membership acts is
unsaid s (rec.Moved g id) acts unspoken is = absurd cc
unsaid s (rec.Scgn id g) acts unspoken is = absurd cc
unsaid s rec.Modrqd acts unspoken is = absurd cc
unsaid s (rec.Modcnf g) acts unspoken is = absurd cc
unsaid s (rec.Modref word) acts unspoken is = absurd cc
unsaid s rec.Chgrqd acts unspoken is = absurd cc
unsaid s (rec.Chgcnf plan) acts unspoken is = absurd cc
unsaid s (rec.Chgref word) acts unspoken is = absurd cc
unsaid s rec.Relrqd acts unspoken is = absurd cc
unsaid s (rec.Relcnf plan) acts unspoken is = absurd cc

-- ---- where each input goes

not_master : (x : Node) → is_secondary x ≡ true → is_same_node x M ≡ false
not_master T is = absurd cc
not_master M is = absurd cc
not_master A is = refl
not_master B is = refl

not_of_master : (x : Node) → is_secondary x ≡ true → is_same_node M x ≡ false
not_of_master T is = absurd cc
not_of_master M is = absurd cc
not_of_master A is = refl
not_of_master B is = refl

up_away : (x : Node) → is_secondary x ≡ true → (y : Node) → is_same_link (link x M Ctl) (link M y Ctl) ≡ false
up_away T is y = absurd cc
up_away M is y = absurd cc
up_away A is T = refl
up_away A is M = refl
up_away A is A = refl
up_away A is B = refl
up_away B is T = refl
up_away B is M = refl
up_away B is A = refl
up_away B is B = refl

down_away : (x : Node) → is_secondary x ≡ true → IsAway x (link M x Ctl)
down_away T is y = absurd cc
down_away M is y = absurd cc
down_away A is T = refl
down_away A is M = refl
down_away A is A = refl
down_away A is B = refl
down_away B is T = refl
down_away B is M = refl
down_away B is A = refl
down_away B is B = refl

-- two that are not the same
abbrev pub AreOthers : Node → Node → Type 0
AreOthers x y = (is_secondary x ≡ true) × (is_secondary y ≡ true) × (is_same_node x y ≡ false)

pub other_down : (x y : Node) → AreOthers x y → IsAway y (link M x Ctl)
other_down A B is T = refl
other_down A B is M = refl
other_down A B is A = refl
other_down A B is B = refl
other_down B A is T = refl
other_down B A is M = refl
other_down B A is A = refl
other_down B A is B = refl
other_down A A is z = absurd (let bad = is.2 in cc)
other_down B B is z = absurd (let bad = is.2 in cc)
other_down A T is z = absurd (let bad = is.1 in cc)
other_down A M is z = absurd (let bad = is.1 in cc)
other_down B T is z = absurd (let bad = is.1 in cc)
other_down B M is z = absurd (let bad = is.1 in cc)
other_down T y is z = absurd (let bad = is.0 in cc)
other_down M y is z = absurd (let bad = is.0 in cc)

pub other_up : (x y : Node) → AreOthers x y → IsAway y (link x M Ctl)
other_up A B is T = refl
other_up A B is M = refl
other_up A B is A = refl
other_up A B is B = refl
other_up B A is T = refl
other_up B A is M = refl
other_up B A is A = refl
other_up B A is B = refl
other_up A A is z = absurd (let bad = is.2 in cc)
other_up B B is z = absurd (let bad = is.2 in cc)
other_up A T is z = absurd (let bad = is.1 in cc)
other_up A M is z = absurd (let bad = is.1 in cc)
other_up B T is z = absurd (let bad = is.1 in cc)
other_up B M is z = absurd (let bad = is.1 in cc)
other_up T y is z = absurd (let bad = is.0 in cc)
other_up M y is z = absurd (let bad = is.0 in cc)

pub terminal_down : (x : Node) → is_secondary x ≡ true → is_same_link (link M x Ctl) (link T M Ctl) ≡ false
terminal_down T is = absurd cc
terminal_down M is = absurd cc
terminal_down A is = refl
terminal_down B is = refl

pub terminal_up : (x : Node) → is_secondary x ≡ true → is_same_link (link x M Ctl) (link T M Ctl) ≡ false
terminal_up T is = absurd cc
terminal_up M is = absurd cc
terminal_up A is = refl
terminal_up B is = refl

some_rec : (r q : Rec) → Some r ≡ Some q → r ≡ q
some_rec r q is = cc

-- nothing on a link is nothing of commands there
unheard : (l : LinkId) (sends : List Send) → sent_on l (records_sent sends) ≡ [] → heard_on l (records_sent sends) ≡ []
unheard l sends none = ap (λ fs. spoken (records_in fs)) none

module _ (c : Choices) (w : World) (kept : IsKept w) (x : Node) (second : is_secondary x ≡ true) (s : SecondNode) (d d' u u' : List Rec) where
  -- before, and after these sends
  abbrev before : Pair
  before = record { m = w.master.proc; down = spoken d; up = spoken u; s = s.proc }

  abbrev after : MasterProc → SecondProc → List Send → Pair
  after m t sends = record { m = m; down = spoken d' ++ heard_on (link M x Ctl) (records_sent sends); up = spoken u' ++ heard_on (link x M Ctl) (records_sent sends); s = t }

  down_is : {e : List Rec} (sends : List Send) {said : List Rec} → spoken d' ≡ e → heard_on (link M x Ctl) (records_sent sends) ≡ said → spoken d' ++ heard_on (link M x Ctl) (records_sent sends) ≡ e ++ said
  down_is {e} sends {said} p q = ap (λ rs. rs ++ heard_on (link M x Ctl) (records_sent sends)) p ∙ ap (λ rs. e ++ rs) q

  up_is : {e : List Rec} (sends : List Send) {said : List Rec} → spoken u' ≡ e → heard_on (link x M Ctl) (records_sent sends) ≡ said → spoken u' ++ heard_on (link x M Ctl) (records_sent sends) ≡ e ++ said
  up_is {e} sends {said} p q = ap (λ rs. rs ++ heard_on (link x M Ctl) (records_sent sends)) p ∙ ap (λ rs. e ++ rs) q

  -- nothing of this pair
  still : (m : MasterProc) (t : SecondProc) (sends : List Send) → m ≡ w.master.proc → t ≡ s.proc → spoken d' ≡ spoken d → spoken u' ≡ spoken u → heard_on (link M x Ctl) (records_sent sends) ≡ [] → heard_on (link x M Ctl) (records_sent sends) ≡ []
      → PairStep x before (after m t sends)
  still m t sends same_m same_t p q none none' =
      rests (pair_same same_m (down_is sends p none ∙ append-nil (spoken d)) (up_is sends q none' ∙ append-nil (spoken u)) same_t)

  -- ---- an input of the master

  abbrev by_master : Input → MasterProc × Effects
  by_master i = let done = came (master_step c w.master i) in (done.0.proc, done.1)

  master_silent : (i : Input) → heard_on (link x M Ctl) (records_sent (by_master i).1.sends) ≡ []
  master_silent i =
      let done = came (master_step c w.master i) in
      unheard (link x M Ctl) done.1.sends (master_apart (link x M Ctl) (up_away x second) c w.master i done kept.ordered.master (master_stepped c w.master i kept.ordered.master))

  alone : (i : Input) → ((q : Rec) → record_in i ≡ Some q → sender_of i ≡ x → is_spoken q ≡ false) → spoken d' ≡ spoken d → spoken u' ≡ spoken u → PairStep x before (after (by_master i).0 s.proc (by_master i).1.sends)
  alone i apart p q =
      let done = came (master_step c w.master i) in
      let went = stepped_went x second c w.master i done kept.ordered.master (master_stepped c w.master i kept.ordered.master) in
      master_moves went.origin (λ r from. let of = went.of_input x r from in apart r of.0 of.1) went.out went.chain (pair_same went.proc (down_is done.1.sends p went.said) (up_is done.1.sends q (master_silent i) ∙ append-nil (spoken u)) refl)

  -- after a record of this node
  abbrev hearing : Rec → MasterNode × Effects
  hearing r = came (master_step c w.master (Come (link x M Ctl) (flight.Ctl r)))

  taking : (r : Rec) → spoken d' ≡ spoken d → u ≡ r ∷ u' → (let i = Come (link x M Ctl) (flight.Ctl r) in PairStep x before (after (by_master i).0 s.proc (by_master i).1.sends))
  taking r p first = by (front r u' u first)
    where
      silent : heard_on (link x M Ctl) (records_sent (hearing r).1.sends) ≡ []
      silent = master_silent (Come (link x M Ctl) (flight.Ctl r))

      took_by : spoken u ≡ r ∷ spoken u' → MasterTook x w.master r (hearing r) → PairStep x before (after (hearing r).0.proc s.proc (hearing r).1.sends)
      took_by is (took out taken more chain proc said) =
          takes_there r (spoken u') is out taken more chain (pair_same proc (down_is (hearing r).1.sends p said) (up_is (hearing r).1.sends refl silent ∙ append-nil (spoken u')) refl)
      took_by is (ignored why refused proc said) =
          master_ignores r (spoken u') is why refused (pair_same proc (down_is (hearing r).1.sends p said ∙ append-nil (spoken d)) (up_is (hearing r).1.sends refl silent ∙ append-nil (spoken u')) refl)

      by : Front r u' u → PairStep x before (after (hearing r).0.proc s.proc (hearing r).1.sends)
      by (is_first is) = took_by is (heard_took x second c w.master r (hearing r) (master_hears c w.master x r kept.ordered.master))
      by (is_none unspoken is) = alone (Come (link x M Ctl) (flight.Ctl r)) (λ q came_in from. subst (λ y. is_spoken y ≡ false) (some_rec r q came_in) unspoken) p (sym is)

  pub to_master : (i : Input) → Takes (link M x Ctl) (given_to M i) d d' → Takes (link x M Ctl) (given_to M i) u u' → GoesRight i M → PairStep x before (after (by_master i).0 s.proc (by_master i).1.sends)
  to_master i (takes_one r first is) t right = absurd (no_happening (given_to M i) x M (Come (link M x Ctl) (flight.Ctl r)) is refl (not_master x second))
  to_master i (takes_none p none) (takes_none q none') right = alone i (λ r came_in from. absurd (none_of x i r none' right from came_in)) (ap spoken p) (ap spoken q)
  to_master i (takes_none p none) (takes_one r first is) right =
      let input : i ≡ Come (link x M Ctl) (flight.Ctl r) = ap (λ h. input_of h i) is in
      subst (λ j. PairStep x before (after (by_master j).0 s.proc (by_master j).1.sends)) (sym input) (taking r (ap spoken p) first)

  -- ---- an input of the secondary node

  abbrev by_second : Input → SecondProc × Effects
  by_second i = let done = came (second_step c s i) in (done.0.proc, done.1)

  module _ (named : name_of s ≡ x) (i : Input) (up : Ascends s.anchors) where
    abbrev out : SecondNode × Effects
    out = came (second_step c s i)

    second_silent : heard_on (link M x Ctl) (records_sent out.1.sends) ≡ []
    second_silent = unheard (link M x Ctl) out.1.sends (second_apart s i (link M x Ctl) out (subst (λ me. IsAway me (link M x Ctl)) (sym named) (down_away x second)) (second_stepped c s i up))

    did : SecondDid x s i out
    did = stepped_did x second s i out named (second_stepped c s i up)

    without_record : spoken d' ≡ spoken d → spoken u' ≡ spoken u → ((r : Rec) → record_in i ≡ Some r → ⊥) → SecondDid x s i out → PairStep x before (after w.master.proc out.0.proc out.1.sends)
    without_record p q never_given (did_nothing proc said) = still w.master.proc out.0.proc out.1.sends refl proc p q second_silent said
    without_record p q never_given (did_order e came_in acts ordered went) =
        second_moves e acts ordered (pair_same refl (down_is out.1.sends p second_silent ∙ append-nil (spoken d)) (up_is out.1.sends q went.said) went.proc)
    without_record p q never_given (did_take r came_in acts taken went) = absurd (never_given r came_in)

    with_record : (r : Rec) → i ≡ Come (link M x Ctl) (flight.Ctl r) → spoken u' ≡ spoken u → d ≡ r ∷ d' → SecondDid x s i out → PairStep x before (after w.master.proc out.0.proc out.1.sends)
    with_record r input q first (did_nothing proc said) = by (front r d' d first)
      where
        by : Front r d' d → PairStep x before (after w.master.proc out.0.proc out.1.sends)
        by (is_first is) = second_ignores r (spoken d') is (pair_same refl (down_is out.1.sends refl second_silent ∙ append-nil (spoken d')) (up_is out.1.sends q said ∙ append-nil (spoken u)) proc)
        by (is_none unspoken is) = still w.master.proc out.0.proc out.1.sends refl proc (sym is) q second_silent said
    with_record r input q first (did_order e came_in acts ordered went) = no_way (sym came_in ∙ input)
      where
        no_way : Cmd e ≡ Come (link M x Ctl) (flight.Ctl r) → PairStep x before (after w.master.proc out.0.proc out.1.sends)
        no_way bad = absurd cc
    with_record r input q first (did_take r' came_in acts taken went) = by (front r d' d first)
      where
        rec_or : Option Rec → Rec → Rec
        rec_or None e = e
        rec_or (Some y) e = y

        same : r' ≡ r
        same = ap (λ o. rec_or o r) (sym came_in ∙ ap record_in input)

        taken' : second_take s.proc r ≡ Ok acts
        taken' = subst (λ y. second_take s.proc y ≡ Ok acts) same taken

        by : Front r d' d → PairStep x before (after w.master.proc out.0.proc out.1.sends)
        by (is_first is) = second_takes r (spoken d') is acts taken' (pair_same refl (down_is out.1.sends refl second_silent ∙ append-nil (spoken d')) (up_is out.1.sends q went.said) went.proc)
        by (is_none unspoken is) =
            let none = unsaid s.proc r acts unspoken taken' in
            still w.master.proc out.0.proc out.1.sends refl (went.proc ∙ none.proc) (sym is) q second_silent (went.said ∙ none.said)

    pub to_second : Takes (link M x Ctl) (given_to x i) d d' → Takes (link x M Ctl) (given_to x i) u u' → ((l : LinkId) → IsNoLink l → HasNone l (given_to x i)) → GoesRight i x
        → PairStep x before (after w.master.proc out.0.proc out.1.sends)
    to_second t (takes_one r first is) others right = absurd (no_happening (given_to x i) M x (Come (link x M Ctl) (flight.Ctl r)) is refl (not_of_master x second))
    to_second (takes_none p none) (takes_none q none') others right =
        without_record (ap spoken p) (ap spoken q) (λ r is. none_given x i r second others none (λ k f input. subst (λ j. GoesRight j x) input right) is) did
    to_second (takes_one r first is) (takes_none q none') others right = with_record r (ap (λ h. input_of h i) is) (ap spoken q) first did

  -- ---- any other

  pub elsewhere : (what : Happening) (sends : List Send) → ((i : Input) → what ≡ given_to x i → ⊥) → ((i : Input) → what ≡ given_to M i → ⊥) → Takes (link M x Ctl) what d d' → Takes (link x M Ctl) what u u'
      → sent_on (link M x Ctl) (records_sent sends) ≡ [] → sent_on (link x M Ctl) (records_sent sends) ≡ [] → PairStep x before (after w.master.proc s.proc sends)
  elsewhere what sends not_x not_m (takes_one r first is) t none none' = absurd (not_x (Come (link M x Ctl) (flight.Ctl r)) is)
  elsewhere what sends not_x not_m (takes_none p no') (takes_one r first is) none none' = absurd (not_m (Come (link x M Ctl) (flight.Ctl r)) is)
  elsewhere what sends not_x not_m (takes_none p no') (takes_none q no'') none none' =
      still w.master.proc s.proc sends refl refl (ap spoken p) (ap spoken q) (unheard (link M x Ctl) sends none) (unheard (link x M Ctl) sends none')
