-- Each event keeps the pair of the master and a secondary node, and the bearers of the node beside it.
use Rattle.std.proofs.Common.{◌≡◌, ◌++◌, Bool, true, false, List, [], ◌∷◌, Option, Some, None, refl, sym, ap, subst, ◌∙◌, inl, inr}
use Rattle.std.proofs.lemmas.Bool.{eq-eqb}
use Rattle.std.proofs.lemmas.List.{append-nil}
use Rattle.dc_base.specs.Links.{is_same_link, link, link_number}
use Rattle.dc_base.specs.Nodes.{is_same_node, is_secondary}
use Rattle.dc_base.specs.declared.answers.Refusal.{Refusal}
use Rattle.dc_base.specs.declared.flights.Flight.{Flight}
use Rattle.dc_base.specs.declared.flights.Flight.TheVariants as flight
use Rattle.dc_base.specs.declared.nodes.Class.{Class}
use Rattle.dc_base.specs.declared.nodes.Class.TheVariants.{Air, Ctl, Feed, Tun}
use Rattle.dc_base.specs.declared.nodes.LinkId.{LinkId}
use Rattle.dc_base.specs.declared.nodes.Node.{Node}
use Rattle.dc_base.specs.declared.nodes.Node.TheVariants.{A, B, M, T}
use Rattle.dc_base.specs.declared.nodes.Want.{Want}
use Rattle.dc_base.specs.declared.records.Rec.{Rec}
use Rattle.dc_base.specs.declared.records.Rec.TheVariants as rec
use Rattle.node_rules.specs.Choices.{Choices, Send}
use Rattle.node_rules.specs.Master.{MasterNode}
use Rattle.node_rules.specs.MasterState.{MasterProc}
use Rattle.node_rules.specs.MasterStep.{master_step, master_takes}
use Rattle.node_rules.specs.MasterTaking.{from_second, master_take}
use Rattle.node_rules.specs.Run.{Happening, carried_on, given_to, on_links, refused_for}
use Rattle.node_rules.specs.SecondStep.{second_step, second_takes}
use Rattle.node_rules.specs.Secondary.{SecondNode, name_of}
use Rattle.node_rules.specs.Terminal.{TerminalNode, terminal_step}
use Rattle.node_rules.specs.World.{World}
use Rattle.node_rules.specs.declared.commands.Membership.{Membership}
use Rattle.node_rules.specs.declared.inputs.Effects.{Effects}
use Rattle.node_rules.specs.declared.inputs.Input.{Input}
use Rattle.node_rules.specs.declared.inputs.Input.TheVariants.{Cmd, Come}
use Rattle.run_control.specs.Claims.{second_at}
use Rattle.run_control.specs.Orders.{Ascends}
use Rattle.run_control.specs.MasterControl.{MasterHeard}
use Rattle.run_control.specs.SecondControl.{bare_record, records_sent}
use Rattle.run_control.specs.Steps.{SecondStepped, master_by_record, second_by_record, record_in, record_on, sender_of}
use Rattle.run_control.specs.Traffic.{came}
use Rattle.run_control.specs.Views.{second_view}
use Rattle.run_control.proofs.MasterHears.{master_hears}
use Rattle.run_control.proofs.Names.{IsAway, second_apart}
use Rattle.run_control.proofs.NoLinks.{IsNoLink, a_a, a_b, b_a, b_b, master_apart, terminal_a, terminal_b}
use Rattle.run_control.proofs.Records.{bare_flights, bare_records, sent_bare}
use Rattle.run_control.proofs.Runs.{AddsIn}
use Rattle.run_control.proofs.SecondHears.{second_hears}
use Rattle.run_control.proofs.Steps.{master_stepped, second_stepped, terminal_stepped}
use Rattle.run_control.proofs.Taken.{GoesRight, HasNone, IsRight, NoneOf, Takes, records_in, takes_none, takes_one}
use Rattle.run_control.proofs.TalkSteps.{IsKept, input_of, no_happening}
use Rattle.run_control.proofs.Turns.{never}
use Rattle.run_pairs.specs.Apt.{IsApt}
use Rattle.run_pairs.specs.Pairs.{IsPair, standing, words}
use Rattle.run_pairs.proofs.Answering.{Goes, heard_goes}
use Rattle.run_pairs.proofs.Following.{taken_or}
use Rattle.run_pairs.proofs.MasterTurns.{HasSpoken, heard_spoken, master_alone}
use Rattle.run_pairs.proofs.Pairing.{IsPaired}
use Rattle.run_pairs.proofs.Putting.{heard_of}
use Rattle.run_pairs.proofs.Replies.{same_node}
use Rattle.run_pairs.proofs.Sending.{down_away, master_away, terminal_away, terminal_down, terminal_up}
use Rattle.run_pairs.proofs.SecondTurns.{PairedAfter, second_alone, second_hearing}
use Rattle.run_pairs.proofs.SecondWords.{told_of}
use Rattle.run_control.specs.SecondControl.{Views}
use Rattle.run_pairs.specs.Fits.{AreFitting, bearing_by}

-- ---- where a record comes from

class_is : (k : Class) (f : Flight) (r : Rec) → record_on k f ≡ Some r → k ≡ Ctl
class_is Ctl f r is = refl
class_is Feed f r is = absurd cc
class_is Air f r is = absurd cc
class_is Tun f r is = absurd cc

link_is : (x y : Node) (k : LinkId) → k.from ≡ x → y ≡ k.to → k.class ≡ Ctl → is_same_link (link x y Ctl) k ≡ true
link_is x y k from to class =
    let is : k ≡ link x y Ctl =
    ap (λ n. record { from = n; to = k.to; class = k.class }) from
    ∙ ap (λ n. record { from = x; to = n; class = k.class }) (sym to)
    ∙ ap (λ n. record { from = x; to = y; class = n }) class in
    subst (λ j. is_same_link (link x y Ctl) j ≡ true) (sym is) (eq-eqb (link_number (link x y Ctl)) (link_number (link x y Ctl)) refl)

-- no record of this link is among the input
no_record_of : (x y : Node) (k : LinkId) (f : Flight) (r : Rec) → NoneOf (link x y Ctl) (Come k f) → k.from ≡ x → y ≡ k.to → record_in (Come k f) ≡ Some r → ⊥
no_record_of x y k f r (inl other) from to is = never (is_same_link (link x y Ctl) k) (link_is x y k from to (class_is k.class f r is)) other
no_record_of x y k f r (inr none) from to is = no_some r (sym none ∙ is)
  where
    no_some : (q : Rec) → None ≡ Some q → ⊥
    no_some q e = absurd cc

-- a record that the master gets is not the node's, where none of its link is taken
sent_apart : (x : Node) (i : Input) (r : Rec) → NoneOf (link x M Ctl) i → GoesRight i M → record_in i ≡ Some r → is_same_node x (sender_of i) ≡ false
sent_apart x (Cmd e) r none right is = absurd cc
sent_apart x (Come k f) r none right is = by (is_same_node x k.from) refl
  where
    by : (b : Bool) → is_same_node x k.from ≡ b → b ≡ false
    by false apart = refl
    by true here = absurd (no_record_of x M k f r none (sym (same_node x k.from here)) right is)

-- between no two of these nodes
no_link_to : (x y : Node) → is_secondary x ≡ true → is_same_node y M ≡ false → IsNoLink (link y x Ctl)
no_link_to T y second apart = absurd cc
no_link_to M y second apart = absurd cc
no_link_to A T second apart = terminal_a
no_link_to A M second apart = absurd cc
no_link_to A A second apart = a_a
no_link_to A B second apart = b_a
no_link_to B T second apart = terminal_b
no_link_to B M second apart = absurd cc
no_link_to B A second apart = a_b
no_link_to B B second apart = b_b

-- nor does the node get a record from elsewhere
not_given_to : (x : Node) → is_secondary x ≡ true → (i : Input) (r : Rec) → ((l : LinkId) → IsNoLink l → NoneOf l i) → NoneOf (link M x Ctl) i → GoesRight i x → record_in i ≡ Some r → ⊥
not_given_to x second (Cmd e) r others none right is = absurd cc
not_given_to x second (Come k f) r others none right is = by (is_same_node k.from M) refl
  where
    by : (b : Bool) → is_same_node k.from M ≡ b → ⊥
    by true here = no_record_of M x k f r none (same_node k.from M here) right is
    by false apart = no_record_of k.from x k f r (others (link k.from x Ctl) (no_link_to x k.from second apart)) refl right is

-- ---- the master takes what a secondary node sends

take_second : (x : Node) → is_secondary x ≡ true → (m : MasterProc) (r : Rec) → master_take x m r ≡ from_second x m r
take_second T second m r = absurd cc
take_second M second m r = absurd cc
take_second A second m r = refl
take_second B second m r = refl

second_no_master : (x : Node) → is_secondary x ≡ true → is_same_node x M ≡ false
second_no_master T second = refl
second_no_master M second = absurd cc
second_no_master A second = refl
second_no_master B second = refl

master_no_second : (x : Node) → is_secondary x ≡ true → is_same_node M x ≡ false
master_no_second T second = refl
master_no_second M second = absurd cc
master_no_second A second = refl
master_no_second B second = refl

bare_words : (r : Rec) (rs : List Rec) → words (bare_record r ∷ rs) ≡ words (r ∷ rs)
bare_words (rec.Reconf plan key) rs = refl
bare_words (rec.Rcomp g) rs = refl
bare_words (rec.Scgf failed) rs = refl
bare_words (rec.Recov id) rs = refl
bare_words (rec.Recovd id) rs = refl
bare_words (rec.Addreq plan key) rs = refl
bare_words (rec.Addack g) rs = refl
bare_words (rec.Addrej g) rs = refl
bare_words (rec.Modreq plan key) rs = refl
bare_words (rec.Modack g) rs = refl
bare_words (rec.Modrej g) rs = refl
bare_words (rec.Recfg g) rs = refl
bare_words (rec.Relreq plan) rs = refl
bare_words (rec.Relack g) rs = refl
bare_words (rec.Relrej g) rs = refl
bare_words (rec.Uecr g) rs = refl
bare_words (rec.Snst status) rs = refl
bare_words (rec.Moved g id) rs = refl
bare_words (rec.Scgn id g) rs = refl
bare_words rec.Modrqd rs = refl
bare_words (rec.Modcnf g) rs = refl
bare_words (rec.Modref word) rs = refl
bare_words rec.Chgrqd rs = refl
bare_words (rec.Chgcnf plan) rs = refl
bare_words (rec.Chgref word) rs = refl
bare_words rec.Relrqd rs = refl
bare_words (rec.Relcnf plan) rs = refl

-- a step of the master or of the terminal leaves the secondary nodes as they are
master_aside : (x : Node) (w : World) (m : MasterNode) → second_at x (record w { master = m }) ≡ second_at x w
master_aside T w m = refl
master_aside M w m = refl
master_aside A w m = refl
master_aside B w m = refl

terminal_aside : (x : Node) (w : World) (t : TerminalNode) → second_at x (record w { terminal = t }) ≡ second_at x w
terminal_aside T w t = refl
terminal_aside M w t = refl
terminal_aside A w t = refl
terminal_aside B w t = refl

-- ---- the pair then

module _ (x : Node) (second : is_secondary x ≡ true) (m : MasterProc) (mem : Membership) (want : Option Want) (at : Views) (down down' up up' : List Rec) (pair : IsPaired x m mem want at (bare_records down) (bare_records up)) where
  -- nothing is taken, and nothing is sent on the two lines
  still_after : (sends : List Send) → down' ≡ down → up' ≡ up → heard_of x (records_sent sends) ≡ [] → told_of x (records_sent sends) ≡ []
      → IsPaired x m mem want at (bare_records down' ++ heard_of x (records_sent sends)) (bare_records up' ++ told_of x (records_sent sends))
  still_after sends p q no_down no_up =
      let lower : bare_records down' ++ heard_of x (records_sent sends) ≡ bare_records down = ap (λ rs. bare_records down' ++ rs) no_down ∙ append-nil (bare_records down') ∙ ap bare_records p in
      let upper : bare_records up' ++ told_of x (records_sent sends) ≡ bare_records up = ap (λ rs. bare_records up' ++ rs) no_up ∙ append-nil (bare_records up') ∙ ap bare_records q in
      subst (λ rs. IsPaired x m mem want at rs (bare_records up' ++ told_of x (records_sent sends))) (sym lower) (subst (λ rs. IsPaired x m mem want at (bare_records down) rs) (sym upper) pair)

-- the node did something, by what stood on its line then
own_after : (x : Node) (m : MasterProc) (done : SecondNode × Effects) (down up : List Rec) → heard_of x (records_sent done.1.sends) ≡ [] → PairedAfter x m done down up
    → IsPaired x m done.0.proc.membership done.0.proc.want (second_view done.0) (down ++ heard_of x (records_sent done.1.sends)) (up ++ told_of x (records_sent done.1.sends))
own_after x m done down up none pair =
    subst (λ rs. IsPaired x m done.0.proc.membership done.0.proc.want (second_view done.0) rs (up ++ told_of x (records_sent done.1.sends))) (sym (ap (λ rs. down ++ rs) none ∙ append-nil down)) pair

module _ (c : Choices) (w : World) (kept : IsKept w) (apt : IsApt w.master.proc) (x : Node) (second : is_secondary x ≡ true) (down down' up up' : List Rec)
    (pair : IsPaired x w.master.proc (second_at x w).proc.membership (second_at x w).proc.want (second_view (second_at x w)) (bare_records down) (bare_records up)) where
  -- the pair in a state, with what was sent
  abbrev pub PairedIn : World → List Send → Type 0
  PairedIn u sends = IsPaired x u.master.proc (second_at x u).proc.membership (second_at x u).proc.want (second_view (second_at x u)) (bare_records down' ++ heard_of x (records_sent sends)) (bare_records up' ++ told_of x (records_sent sends))

  -- after it happened
  abbrev pub PairedThen : Happening → Type 0
  PairedThen what = PairedIn (carried_on c w what).0 (carried_on c w what).1.sends

  quietly : (sends : List Send) → down' ≡ down → up' ≡ up → heard_of x (records_sent sends) ≡ [] → told_of x (records_sent sends) ≡ [] → PairedIn w sends
  quietly sends p q no_down no_up = still_after x second w.master.proc (second_at x w).proc.membership (second_at x w).proc.want (second_view (second_at x w)) down down' up up' pair sends p q no_down no_up

  -- ---- the terminal

  pub to_terminal : (i : Input) → Takes (link M x Ctl) (given_to T i) down down' → Takes (link x M Ctl) (given_to T i) up up' → PairedThen (given_to T i)
  to_terminal i (takes_none p none) (takes_none q none') =
      let done = came (terminal_step c w.terminal i) in
      let stepped = terminal_stepped c w.terminal i kept.ordered.terminal in
      subst
      (λ (s : SecondNode). IsPaired x w.master.proc s.proc.membership s.proc.want (second_view s) (bare_records down' ++ heard_of x (records_sent done.1.sends)) (bare_records up' ++ told_of x (records_sent done.1.sends))) (sym (terminal_aside x w done.0))
      (quietly done.1.sends p q (ap records_in (terminal_away (link M x Ctl) (terminal_down x second) w.terminal i done stepped)) (ap records_in (terminal_away (link x M Ctl) (terminal_up x second) w.terminal i done stepped)))
  to_terminal i (takes_one r first is) t = absurd (no_happening (given_to T i) x T (Come (link M x Ctl) (flight.Ctl r)) is refl (second_no_terminal x second))
    where
      second_no_terminal : (y : Node) → is_secondary y ≡ true → is_same_node y T ≡ false
      second_no_terminal T is' = absurd cc
      second_no_terminal M is' = refl
      second_no_terminal A is' = refl
      second_no_terminal B is' = refl
  to_terminal i (takes_none p none) (takes_one r first is) = absurd (no_happening (given_to T i) M T (Come (link x M Ctl) (flight.Ctl r)) is refl refl)

  -- ---- the master

  -- it spoke, and nothing came to it from the node since
  master_after : (done : MasterNode × Effects) → down' ≡ down → told_of x (records_sent done.1.sends) ≡ [] → HasSpoken x second (second_at x w).proc.membership (second_at x w).proc.want (second_view (second_at x w)) (bare_records down) (bare_records up') done
      → PairedIn (record w { master = done.0 }) done.1.sends
  master_after done p no_up spoken =
      subst
      (λ (s : SecondNode). IsPaired x done.0.proc s.proc.membership s.proc.want (second_view s) (bare_records down' ++ heard_of x (records_sent done.1.sends)) (bare_records up' ++ told_of x (records_sent done.1.sends))) (sym (master_aside x w done.0))
      (subst (λ rs. IsPaired x done.0.proc (second_at x w).proc.membership (second_at x w).proc.want (second_view (second_at x w)) (bare_records rs ++ heard_of x (records_sent done.1.sends)) (bare_records up' ++ told_of x (records_sent done.1.sends))) (sym p)
      (subst (λ rs. IsPaired x done.0.proc (second_at x w).proc.membership (second_at x w).proc.want (second_view (second_at x w)) (bare_records down ++ heard_of x (records_sent done.1.sends)) rs)
      (sym (ap (λ rs. bare_records up' ++ rs) no_up ∙ append-nil (bare_records up'))) spoken.paired))

  -- what it did
  pub record HasTurned (done : MasterNode × Effects) : Type 0 where
    pub apt' : IsApt done.0.proc
    pub then' : PairedIn (record w { master = done.0 }) done.1.sends

  pub to_master : (i : Input) → Takes (link M x Ctl) (given_to M i) down down' → Takes (link x M Ctl) (given_to M i) up up' → GoesRight i M → AddsIn i → HasTurned (came (master_step c w.master i))
  to_master i (takes_none p none) (takes_none q none') right adds =
      let done = came (master_step c w.master i) in
      let stepped = master_stepped c w.master i kept.ordered.master in
      let spoken =
      master_alone x second (second_at x w).proc.membership (second_at x w).proc.want (second_view (second_at x w)) (bare_records down) (bare_records up') c w.master i done adds kept.ordered.master apt
      (subst (λ rs. IsPaired x w.master.proc (second_at x w).proc.membership (second_at x w).proc.want (second_view (second_at x w)) (bare_records down) (bare_records rs)) (sym q) pair) (λ r is. sent_apart x i r none' right is) stepped in
      record { apt' = spoken.apt; then' = master_after done p (ap records_in (master_apart (link x M Ctl) (master_away x second) c w.master i done kept.ordered.master stepped)) spoken }
  to_master i (takes_none p none) (takes_one r first is) right adds =
      let input : i ≡ Come (link x M Ctl) (flight.Ctl r) = ap (λ h. input_of h i) is in
      subst (λ j. HasTurned (came (master_step c w.master j))) (sym input) by
    where
      done : MasterNode × Effects
      done = master_takes c w.master x (flight.Ctl r) Ctl

      hears : MasterHeard c w.master x r done
      hears = master_hears c w.master x r kept.ordered.master

      pair' : IsPair (standing x w.master.proc pair.stand) (second_at x w).proc.membership (second_at x w).proc.want (bare_records down) (words (r ∷ bare_records up'))
      pair' =
          subst (λ rs. IsPair (standing x w.master.proc pair.stand) (second_at x w).proc.membership (second_at x w).proc.want (bare_records down) rs) (bare_words r (bare_records up'))
          (subst (λ rs. IsPair (standing x w.master.proc pair.stand) (second_at x w).proc.membership (second_at x w).proc.want (bare_records down) (words (bare_records rs))) first pair.pair)

      fit' : AreFitting x (bearing_by w.master.proc w.master.proc.command pair.stand) (second_view (second_at x w)) (bare_records down) (bare_record r ∷ bare_records up')
      fit' = subst (λ rs. AreFitting x (bearing_by w.master.proc w.master.proc.command pair.stand) (second_view (second_at x w)) (bare_records down) (bare_records rs)) first pair.fitting

      goes : Goes x (second_at x w).proc.membership (second_at x w).proc.want (second_view (second_at x w)) (bare_records down) (bare_records up') (taken_or w.master.proc (master_take x w.master.proc r))
      goes =
          subst (λ t. Goes x (second_at x w).proc.membership (second_at x w).proc.want (second_view (second_at x w)) (bare_records down) (bare_records up') (taken_or w.master.proc t)) (sym (take_second x second w.master.proc r))
          (heard_goes x second w.master.proc apt pair.stand pair.stands (second_at x w).proc.membership (second_at x w).proc.want (second_view (second_at x w)) (bare_records down) (bare_records up') r pair' fit' pair.empty)

      spoken : HasSpoken x second (second_at x w).proc.membership (second_at x w).proc.want (second_view (second_at x w)) (bare_records down) (bare_records up') done
      spoken = heard_spoken x second (second_at x w).proc.membership (second_at x w).proc.want (second_view (second_at x w)) (bare_records down) (bare_records up') c w.master x r done goes hears

      no_up : told_of x (records_sent done.1.sends) ≡ []
      no_up = ap records_in (master_apart (link x M Ctl) (master_away x second) c w.master (Come (link x M Ctl) (flight.Ctl r)) done kept.ordered.master (master_by_record r refl hears))

      by : HasTurned (came (master_step c w.master (Come (link x M Ctl) (flight.Ctl r))))
      by = record { apt' = spoken.apt; then' = master_after done p no_up spoken }
  to_master i (takes_one r first is) t right adds = absurd (no_happening (given_to M i) x M (Come (link M x Ctl) (flight.Ctl r)) is refl (second_no_master x second))

  -- ---- another secondary node

  pub other_quiet : (s : SecondNode) (y : Node) (i : Input) (done : SecondNode × Effects) → is_secondary y ≡ true → name_of s ≡ y → IsAway y (link x M Ctl) → SecondStepped s i done → down' ≡ down → up' ≡ up → PairedIn w done.1.sends
  other_quiet s y i done other named away stepped p q =
      quietly done.1.sends p q
      (ap records_in (second_apart s i (link M x Ctl) done (subst (λ me. IsAway me (link M x Ctl)) (sym named) (down_away x y second other)) stepped))
      (ap records_in (second_apart s i (link x M Ctl) done (subst (λ me. IsAway me (link x M Ctl)) (sym named) away) stepped))

  -- ---- no node

  pub on_neither : (effects : Effects) → Takes (link M x Ctl) (on_links effects) down down' → Takes (link x M Ctl) (on_links effects) up up' → IsRight (on_links effects) → PairedThen (on_links effects)
  on_neither effects (takes_one r first is) t right = no_way is
    where
      no_way : on_links effects ≡ given_to x (Come (link M x Ctl) (flight.Ctl r)) → PairedThen (on_links effects)
      no_way e = absurd cc
  on_neither effects (takes_none p none) (takes_one r first is) right = no_way is
    where
      no_way : on_links effects ≡ given_to M (Come (link x M Ctl) (flight.Ctl r)) → PairedThen (on_links effects)
      no_way e = absurd cc
  on_neither effects (takes_none p none) (takes_none q none') right =
      quietly effects.sends p q
      (ap records_in (sent_bare (link M x Ctl) refl effects.sends ∙ ap bare_flights (right (link M x Ctl) refl)))
      (ap records_in (sent_bare (link x M Ctl) refl effects.sends ∙ ap bare_flights (right (link x M Ctl) refl)))

  pub in_refusal : (why : Refusal) → Takes (link M x Ctl) (refused_for why) down down' → Takes (link x M Ctl) (refused_for why) up up' → PairedThen (refused_for why)
  in_refusal why (takes_one r first is) t = no_way is
    where
      no_way : refused_for why ≡ given_to x (Come (link M x Ctl) (flight.Ctl r)) → PairedThen (refused_for why)
      no_way e = absurd cc
  in_refusal why (takes_none p none) (takes_one r first is) = no_way is
    where
      no_way : refused_for why ≡ given_to M (Come (link x M Ctl) (flight.Ctl r)) → PairedThen (refused_for why)
      no_way e = absurd cc
  in_refusal why (takes_none p none) (takes_none q none') = quietly [] p q refl refl

-- ---- the node itself

module _ (c : Choices) (m : MasterProc) (apt : IsApt m) (s : SecondNode) (x : Node) (second : is_secondary x ≡ true) (named : name_of s ≡ x) (ascends : Ascends s.anchors) (down down' up up' : List Rec)
    (pair : IsPaired x m s.proc.membership s.proc.want (second_view s) (bare_records down) (bare_records up)) where
  -- the pair after its step
  abbrev pub OwnThen : SecondNode × Effects → Type 0
  OwnThen done = IsPaired x m done.0.proc.membership done.0.proc.want (second_view done.0) (bare_records down' ++ heard_of x (records_sent done.1.sends)) (bare_records up' ++ told_of x (records_sent done.1.sends))

  own_down : (i : Input) (done : SecondNode × Effects) → SecondStepped s i done → heard_of x (records_sent done.1.sends) ≡ []
  own_down i done stepped = ap records_in (second_apart s i (link M x Ctl) done (subst (λ me. IsAway me (link M x Ctl)) (sym named) (down_away x x second second)) stepped)

  pub own_turn : (i : Input) → Takes (link M x Ctl) (given_to x i) down down' → Takes (link x M Ctl) (given_to x i) up up' → ((l : LinkId) → IsNoLink l → HasNone l (given_to x i)) → GoesRight i x → OwnThen (came (second_step c s i))
  own_turn i (takes_none p none) (takes_none q none') others right =
      let done = came (second_step c s i) in
      let stepped = second_stepped c s i ascends in
      own_after x m done (bare_records down') (bare_records up') (own_down i done stepped)
      (second_alone x second m apt s named i done (bare_records down') (bare_records up') (λ r is. not_given_to x second i r others none right is) stepped
      (subst (λ rs. IsPaired x m s.proc.membership s.proc.want (second_view s) (bare_records rs) (bare_records up')) (sym p) (subst (λ rs. IsPaired x m s.proc.membership s.proc.want (second_view s) (bare_records down) (bare_records rs)) (sym q) pair)))
  own_turn i (takes_one r first is) (takes_none q none') others right =
      let input : i ≡ Come (link M x Ctl) (flight.Ctl r) = ap (λ h. input_of h i) is in
      let done = second_takes c s (flight.Ctl r) Ctl in
      let hears = second_hears c s r ascends in
      subst (λ j. OwnThen (came (second_step c s j))) (sym input)
      (own_after x m done (bare_records down') (bare_records up') (own_down (Come (link M x Ctl) (flight.Ctl r)) done (second_by_record r refl hears))
      (second_hearing x second m apt s named r done (bare_records down') (bare_records up') hears
      (subst (λ rs. IsPaired x m s.proc.membership s.proc.want (second_view s) (bare_records rs) (bare_records up')) first (subst (λ rs. IsPaired x m s.proc.membership s.proc.want (second_view s) (bare_records down) (bare_records rs)) (sym q) pair))))
  own_turn i t (takes_one r first is) others right = absurd (no_happening (given_to x i) M x (Come (link x M Ctl) (flight.Ctl r)) is refl (master_no_second x second))
