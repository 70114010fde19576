-- What each node does in one event, as far as the line between the master and a secondary node is of commands.
use Rattle.std.proofs.Common.{ℕ, ◌≡◌, ◌++◌, Bool, true, false, List, [], ◌∷◌, Option, Some, None, refl, sym, ap, subst, ◌∙◌}
use Rattle.std.specs.Prelude.{Err, Ok, if◌then◌else◌, length, map}
use Rattle.std.proofs.lemmas.List.{append-nil}
use Rattle.dc_base.specs.Links.{is_same_link, link}
use Rattle.dc_base.specs.Nodes.{is_same_node, is_secondary}
use Rattle.dc_base.specs.declared.events.Event.{Event}
use Rattle.dc_base.specs.declared.flights.Flight.{Flight}
use Rattle.dc_base.specs.declared.flights.Flight.TheVariants as flight
use Rattle.dc_base.specs.declared.nodes.Class.TheVariants.{Ctl}
use Rattle.dc_base.specs.declared.nodes.LinkId.{LinkId}
use Rattle.dc_base.specs.declared.nodes.Node.{Node}
use Rattle.dc_base.specs.declared.nodes.Node.TheVariants.{A, B, M, T}
use Rattle.dc_base.specs.declared.records.Rec.{Rec}
use Rattle.dc_base.specs.declared.records.Rec.TheVariants as rec
use Rattle.node_rules.specs.Acts.{ProcFault}
use Rattle.node_rules.specs.Choices.{Choices, Send}
use Rattle.node_rules.specs.Effects.{after_effects, quiet}
use Rattle.node_rules.specs.Master.{MasterNode}
use Rattle.node_rules.specs.MasterPlan.{does}
use Rattle.node_rules.specs.MasterState.{MasterActs}
use Rattle.node_rules.specs.MasterTaking.{master_adopted, master_take}
use Rattle.node_rules.specs.Acts.{first_refusal}
use Rattle.node_rules.specs.SecondRecords.{second_take}
use Rattle.node_rules.specs.SecondState.{SecondActs, second_command, second_refusals}
use Rattle.node_rules.specs.Secondary.{SecondNode, name_of}
use Rattle.node_rules.specs.Terminal.{TerminalNode}
use Rattle.node_rules.specs.declared.inputs.Effects.{Effects}
use Rattle.node_rules.specs.declared.inputs.Input.{Input}
use Rattle.node_rules.specs.declared.inputs.Input.TheVariants.{Cmd, Come}
use Rattle.run_control.specs.Links.{sent_on}
use Rattle.run_control.specs.MasterControl.{MasterHeard, adopts_by_it, master_heard, master_no_row, master_ordered, master_passed, master_refused, own_acts_sends, waits_on}
use Rattle.run_control.specs.Orders.{Ascends}
use Rattle.run_control.specs.SecondControl.{SecondHeard, SecondProjects, acts_sends, bare_flight, heard, no_row, not_ordered, ordered, record_to, records_sent, unfit, views_within}
use Rattle.run_control.specs.Steps.{MasterStepped, SecondStepped, TerminalStepped, master_by_command, master_by_nothing, master_by_record, master_by_traffic, record_in, second_by_command, second_by_nothing, second_by_record, second_by_traffic, sender_of, terminal_by_failure, terminal_by_nothing, terminal_by_record, terminal_by_traffic}
use Rattle.run_control.specs.TerminalControl.{Bearers, recovery_answer, takes_plan, terminal_answers}
use Rattle.run_control.specs.Traffic.{master_adopts, master_keeps, second_adopts, second_keeps}
use Rattle.run_control.specs.Views.{Bearer, master_view, second_view, terminal_view}
use Rattle.run_control.proofs.TalkSteps.{refutes}
use Rattle.run_control.proofs.EventTurns.{TakesBusy, second_busy, unless_busy}
use Rattle.run_control.proofs.MasterActs.{does_projects}
use Rattle.run_control.proofs.NoLinks.{IsNoLink, a_a, a_b, b_a, b_b, terminal_a, terminal_b}
use Rattle.run_control.proofs.Sent.{either}
use Rattle.run_control.proofs.Sequences.{no_records, records_both}
use Rattle.run_control.proofs.Taken.{GoesRight, NoneOf, records_in}
use Rattle.run_agreed.specs.Lines.{said_to, spoken}
use Rattle.run_agreed.specs.Segments.{IsChain, OfChain, Origin, by_event, by_itself, by_record}
use Rattle.run_agreed.proofs.Chained.{adoption_chain, command_chain, take_chain}
use Rattle.run_agreed.proofs.Chains.{chain_none}
use Rattle.run_agreed.proofs.Spoken.{acts_heard, heard_on, own_acts_heard}

-- ---- the terminal

-- it sends to the master alone
module _ (l : LinkId) (apart : is_same_link l (link T M Ctl) ≡ false) where
  one_apart : (r : Rec) → sent_on l (record_to T M r ∷ []) ≡ []
  one_apart r = ap (λ b. (if b then (record_to T M r).1 ∷ [] else []) ++ []) apart

  recovery_apart : (id : ℕ) (o : Option Bearer) → sent_on l (recovery_answer id o) ≡ []
  recovery_apart id None = refl
  recovery_apart id (Some b) = one_apart (rec.Recovd id)

  answers_apart : (bearers : Bearers) (r : Rec) → sent_on l (terminal_answers bearers r) ≡ []
  answers_apart bearers (rec.Reconf p key) = either (λ (xs : List Send). sent_on l xs ≡ []) (takes_plan bearers p) (record_to T M (rec.Rcomp p.g) ∷ []) [] (one_apart (rec.Rcomp p.g)) refl
  answers_apart bearers (rec.Rcomp g) = refl
  answers_apart bearers (rec.Scgf failed) = refl
  answers_apart bearers (rec.Recov id) = recovery_apart id (bearers id)
  answers_apart bearers (rec.Recovd id) = refl
  answers_apart bearers (rec.Addreq plan key) = refl
  answers_apart bearers (rec.Addack g) = refl
  answers_apart bearers (rec.Addrej g) = refl
  answers_apart bearers (rec.Modreq plan key) = refl
  answers_apart bearers (rec.Modack g) = refl
  answers_apart bearers (rec.Modrej g) = refl
  answers_apart bearers (rec.Recfg g) = refl
  answers_apart bearers (rec.Relreq plan) = refl
  answers_apart bearers (rec.Relack g) = refl
  answers_apart bearers (rec.Relrej g) = refl
  answers_apart bearers (rec.Uecr g) = refl
  answers_apart bearers (rec.Snst status) = refl
  answers_apart bearers (rec.Moved g id) = refl
  answers_apart bearers (rec.Scgn id g) = refl
  answers_apart bearers rec.Modrqd = refl
  answers_apart bearers (rec.Modcnf g) = refl
  answers_apart bearers (rec.Modref word) = refl
  answers_apart bearers rec.Chgrqd = refl
  answers_apart bearers (rec.Chgcnf plan) = refl
  answers_apart bearers (rec.Chgref word) = refl
  answers_apart bearers rec.Relrqd = refl
  answers_apart bearers (rec.Relcnf plan) = refl

  pub terminal_apart : (t : TerminalNode) (i : Input) (done : TerminalNode × Effects) → TerminalStepped t i done → sent_on l (records_sent done.1.sends) ≡ []
  terminal_apart t i done (terminal_by_traffic is) = ap (sent_on l) (no_records done.1.sends is.sends)
  terminal_apart t i done (terminal_by_record r came_in is) = ap (sent_on l) is.told ∙ answers_apart (terminal_view t) r
  terminal_apart t i done (terminal_by_failure failed came_in is) = ap (sent_on l) is.told ∙ one_apart (rec.Scgf failed)
  terminal_apart t i done (terminal_by_nothing is) = ap (λ (x : TerminalNode × Effects). sent_on l (records_sent x.1.sends)) is

-- ---- what comes to a secondary node comes from the master

no_link : (x y : Node) → is_secondary x ≡ true → is_same_node y M ≡ false → IsNoLink (link y x Ctl)
no_link A T second other = terminal_a
no_link A A second other = a_a
no_link A B second other = b_a
no_link B T second other = terminal_b
no_link B A second other = a_b
no_link B B second other = b_b
no_link A M second other = absurd cc
no_link B M second other = absurd cc
no_link T y second other = absurd cc
no_link M y second other = absurd cc

-- a secondary node gets no record where none of the master's line is taken
pub none_given : (x : Node) (i : Input) (r : Rec) → is_secondary x ≡ true → ((l : LinkId) → IsNoLink l → NoneOf l i) → NoneOf (link M x Ctl) i → ((k : LinkId) (f : Flight) → i ≡ Come k f → x ≡ k.to) → record_in i ≡ Some r → ⊥
none_given x (Cmd e) r second others none right is = absurd cc
none_given x (Come k f) r second others none right is = by k.from refl
  where
    by : (y : Node) → k.from ≡ y → ⊥
    by T from = refutes T x k f r (others (link T x Ctl) (no_link x T second refl)) from (right k f refl) is
    by M from = refutes M x k f r none from (right k f refl) is
    by A from = refutes A x k f r (others (link A x Ctl) (no_link x A second refl)) from (right k f refl) is
    by B from = refutes B x k f r (others (link B x Ctl) (no_link x B second refl)) from (right k f refl) is

-- nor does the master get one of the node where none of the node's line is taken
pub none_of : (x : Node) (i : Input) (r : Rec) → NoneOf (link x M Ctl) i → GoesRight i M → sender_of i ≡ x → record_in i ≡ Some r → ⊥
none_of x (Cmd e) r none right from is = absurd cc
none_of x (Come k f) r none right from is = refutes x M k f r none from right is

-- ---- the master

-- what a step comes from
abbrev record_or : Origin → Rec → Rec
record_or (by_record x r) d = r
record_or (by_event e) d = d
record_or by_itself d = d

abbrev event_or : Origin → Event → Event
event_or (by_record x r) d = d
event_or (by_event e) d = e
event_or by_itself d = d

abbrev sender_or : Origin → Node → Node
sender_or (by_record x r) d = x
sender_or (by_event e) d = d
sender_or by_itself d = d

-- it goes on by parts, and sends the node what these say
pub record MasterWent (x : Node) (m : MasterNode) (i : Input) (done : MasterNode × Effects) : Type 0 where
  pub origin : Origin
  pub of_input : (y : Node) (q : Rec) → origin ≡ by_record y q → (record_in i ≡ Some q) × (sender_of i ≡ y)
  pub of_event : (e : Event) → origin ≡ by_event e → i ≡ Cmd e
  pub out : MasterActs
  pub chain : IsChain origin m.proc out
  pub proc : done.0.proc ≡ out.0
  pub said : heard_on (link M x Ctl) (records_sent done.1.sends) ≡ said_to x out.1

-- it takes a record, and then an adoption may follow
pub data MasterTook (x : Node) (m : MasterNode) (r : Rec) (done : MasterNode × Effects) : Type 0 where
  took : (out : MasterActs) → (taken : master_take x m.proc r ≡ Ok out) → (more : MasterActs) → (chain : IsChain by_itself out.0 more) → (proc : done.0.proc ≡ more.0)
      → (said : heard_on (link M x Ctl) (records_sent done.1.sends) ≡ said_to x (out.1 ++ more.1)) → MasterTook x m r done
  ignored : (why : ProcFault) → (refused : master_take x m.proc r ≡ Err why) → (proc : done.0.proc ≡ m.proc) → (said : heard_on (link M x Ctl) (records_sent done.1.sends) ≡ []) → MasterTook x m r done

module _ (x : Node) (second : is_secondary x ≡ true) where
  -- acts that the master did
  acts_said : (acts : MasterActs) (m : MasterNode) (sends : List Send) → records_sent sends ≡ own_acts_sends acts.1 (master_view m) → heard_on (link M x Ctl) (records_sent sends) ≡ said_to x acts.1
  acts_said acts m sends told = ap (heard_on (link M x Ctl)) told ∙ own_acts_heard x second acts.1 (master_view m)

  nothing_went : (m : MasterNode) (i : Input) (done : MasterNode × Effects) → done.0.proc ≡ m.proc → records_sent done.1.sends ≡ [] → MasterWent x m i done
  nothing_went m i done proc told = record { origin = by_itself; of_input = λ y q is. absurd cc; of_event = λ e is. absurd cc; out = (m.proc, []); chain = chain_none by_itself m.proc; proc = proc; said = ap (heard_on (link M x Ctl)) told }

  quiet_went : (m : MasterNode) (i : Input) (done : MasterNode × Effects) → done ≡ (m, quiet) → MasterWent x m i done
  quiet_went m i done is = nothing_went m i done (ap (λ (y : MasterNode × Effects). y.0.proc) is) (ap (λ (y : MasterNode × Effects). records_sent y.1.sends) is)

  adopted_went : (c : Choices) (m next : MasterNode) (i : Input) (before : Effects) (id : ℕ) (done : MasterNode × Effects) → next.proc ≡ m.proc → records_sent before.sends ≡ [] → Ascends next.anchors
      → done ≡ after_effects before (does c next (master_adopted next.proc id)) → MasterWent x m i done
  adopted_went c m next i before id done proc none up is =
      let acts = master_adopted next.proc id in
      let then' = does c next acts in
      let projects = does_projects c next acts up in
      record {
        origin = by_itself;
        of_input = λ y q is. absurd cc;
        of_event = λ e is. absurd cc;
        out = acts;
        chain = subst (λ p. IsChain by_itself p acts) proc (adoption_chain by_itself next.proc id);
        proc = ap (λ (y : MasterNode × Effects). y.0.proc) is ∙ projects.proc;
        said = acts_said acts next done.1.sends (ap (λ (y : MasterNode × Effects). records_sent y.1.sends) is ∙ records_both before.sends then'.1.sends none projects.told);
      }

  heard_went : (c : Choices) (m : MasterNode) (i : Input) (r : Rec) (done : MasterNode × Effects) → record_in i ≡ Some r → MasterHeard c m (sender_of i) r done → MasterWent x m i done
  heard_went c m i r done came_in (master_heard acts taken plain is) = record {
    origin = by_record (sender_of i) r;
    of_event = λ e is. absurd cc;
    of_input = λ y q same. (came_in ∙ ap (λ k. Some (record_or k r)) same, ap (λ k. sender_or k y) same);
    out = acts;
    chain = subst (OfChain (by_record (sender_of i) r) m.proc) taken (take_chain (by_record (sender_of i) r) m.proc (sender_of i) r refl);
    proc = is.proc;
    said = acts_said acts m done.1.sends is.told;
  }
  heard_went c m i r done came_in (master_passed status taken (waits_on did)) = nothing_went m i done did.proc did.told
  heard_went c m i r done came_in (master_passed status taken (adopts_by_it v at awaited next before did is)) = adopted_went c m next i before status.id done did.proc did.told did.ascends is
  heard_went c m i r done came_in (master_no_row why taken is) = quiet_went m i done is

  pub stepped_went : (c : Choices) (m : MasterNode) (i : Input) (done : MasterNode × Effects) → Ascends m.anchors → MasterStepped c m i done → MasterWent x m i done
  stepped_went c m i done up (master_by_traffic (master_keeps proc views sends ascends)) = nothing_went m i done proc (no_records done.1.sends sends)
  stepped_went c m i done up (master_by_traffic (master_adopts id v at had next before proc views sends ascends is)) =
      adopted_went c m next i before id done proc (no_records before.sends sends) (ascends up) is
  stepped_went c m i done up (master_by_record r came_in is) = heard_went c m i r done came_in is
  stepped_went c m i done up (master_by_command e came_in (master_ordered acts taken is)) =
      record { origin = by_event e; of_input = λ y q same. absurd cc; of_event = λ d same. came_in ∙ ap (λ k. Cmd (event_or k e)) same; out = acts; chain = subst (OfChain (by_event e) m.proc) taken (command_chain (by_event e) m.proc (length c.policies) e refl); proc = is.proc; said = acts_said acts m done.1.sends is.told }
  stepped_went c m i done up (master_by_command e came_in (master_refused why refused is)) = quiet_went m i done is
  stepped_went c m i done up (master_by_nothing is) = quiet_went m i done is

  -- nothing more is said
  nothing_more : (acts : MasterActs) → said_to x acts.1 ≡ said_to x (acts.1 ++ [])
  nothing_more acts = ap (said_to x) (sym (append-nil acts.1))

  pub heard_took : (c : Choices) (m : MasterNode) (r : Rec) (done : MasterNode × Effects) → MasterHeard c m x r done → MasterTook x m r done
  heard_took c m r done (master_heard acts taken plain is) = took acts taken (acts.0, []) (chain_none by_itself acts.0) is.proc (acts_said acts m done.1.sends is.told ∙ nothing_more acts)
  heard_took c m r done (master_passed status taken (waits_on did)) = took (m.proc, _) taken (m.proc, []) (chain_none by_itself m.proc) did.proc (ap (heard_on (link M x Ctl)) did.told)
  heard_took c m r done (master_passed status taken (adopts_by_it v at awaited next before did is)) =
      let acts = master_adopted next.proc status.id in
      let then' = does c next acts in
      let projects = does_projects c next acts did.ascends in
      took (m.proc, _) taken acts (subst (λ p. IsChain by_itself p acts) did.proc (adoption_chain by_itself next.proc status.id)) (ap (λ (y : MasterNode × Effects). y.0.proc) is ∙ projects.proc)
      (acts_said acts next done.1.sends (ap (λ (y : MasterNode × Effects). records_sent y.1.sends) is ∙ records_both before.sends then'.1.sends did.told projects.told))
  heard_took c m r done (master_no_row why taken is) =
      ignored why taken (ap (λ (y : MasterNode × Effects). y.0.proc) is) (ap (λ (y : MasterNode × Effects). heard_on (link M x Ctl) (records_sent y.1.sends)) is)

-- ---- a secondary node

-- its procedures went on
pub record SecondWent (x : Node) (acts : SecondActs) (done : SecondNode × Effects) : Type 0 where
  pub proc : done.0.proc ≡ acts.0
  pub said : heard_on (link x M Ctl) (records_sent done.1.sends) ≡ said_to M acts.1

-- it was given this: nothing came of it for its procedures, a command was carried on, or a record was taken
pub data SecondDid (x : Node) (s : SecondNode) (i : Input) (done : SecondNode × Effects) : Type 0 where
  did_nothing : (proc : done.0.proc ≡ s.proc) → (said : heard_on (link x M Ctl) (records_sent done.1.sends) ≡ []) → SecondDid x s i done
  did_order : (e : Event) → (came_in : i ≡ Cmd e) → (acts : SecondActs) → (ordered : second_command s.proc e ≡ Ok acts) → (went : SecondWent x acts done) → SecondDid x s i done
  did_take : (r : Rec) → (came_in : record_in i ≡ Some r) → (acts : SecondActs) → (taken : second_take s.proc r ≡ Ok acts) → (went : SecondWent x acts done) → SecondDid x s i done

module _ (x : Node) (second : is_secondary x ≡ true) where
  projects_went : (s : SecondNode) (acts : SecondActs) (done : SecondNode × Effects) → name_of s ≡ x → TakesBusy s.proc (Ok acts) → SecondProjects s acts done → SecondWent x acts done
  projects_went s acts done named busy is =
      let me : acts.0.me ≡ x = busy.0 ∙ named in
      let views = views_within acts.0.membership (second_view s) in
      record {
        proc = is.proc;
        said = ap (heard_on (link x M Ctl)) (is.told ∙ ap (λ y. acts_sends y is.chosen views) me) ∙ acts_heard x second is.chosen views ∙ ap (said_to M) is.all;
      }

  quiet_did : (s : SecondNode) (i : Input) (done : SecondNode × Effects) → done ≡ (s, quiet) → SecondDid x s i done
  quiet_did s i done is = did_nothing (ap (λ (y : SecondNode × Effects). y.0.proc) is) (ap (λ (y : SecondNode × Effects). heard_on (link x M Ctl) (records_sent y.1.sends)) is)

  heard_did : (s : SecondNode) (i : Input) (r : Rec) (done : SecondNode × Effects) → name_of s ≡ x → record_in i ≡ Some r → SecondHeard s r done → SecondDid x s i done
  heard_did s i r done named came_in (heard acts fit taken is) = did_take r came_in acts taken (projects_went s acts done named (subst (TakesBusy s.proc) taken (second_busy s.proc r)) is)
  heard_did s i r done named came_in (unfit fit is) = quiet_did s i done is
  heard_did s i r done named came_in (no_row why taken is) = quiet_did s i done is

  pub stepped_did : (s : SecondNode) (i : Input) (done : SecondNode × Effects) → name_of s ≡ x → SecondStepped s i done → SecondDid x s i done
  stepped_did s i done named (second_by_traffic (second_keeps proc views sends ascends)) = did_nothing proc (ap (heard_on (link x M Ctl)) (no_records done.1.sends sends))
  stepped_did s i done named (second_by_traffic (second_adopts id v at had proc views sends ascends)) =
      let told : records_sent done.1.sends ≡ record_to x M (rec.Moved v.bearer.g id) ∷ [] =
      ap (λ (zs : List Send). map (λ (y : Send). (y.0, bare_flight y.1)) zs) sends ∙ ap (λ y. record_to y M (rec.Moved v.bearer.g id) ∷ []) named in
      did_nothing proc (ap (heard_on (link x M Ctl)) told ∙ moved_unsaid (is_same_link (link x M Ctl) (link x M Ctl)))
    where
      moved_unsaid : (b : Bool) → spoken (records_in ((if b then flight.Ctl (rec.Moved v.bearer.g id) ∷ [] else []) ++ [])) ≡ []
      moved_unsaid true = refl
      moved_unsaid false = refl
  stepped_did s i done named (second_by_record r came_in is) = heard_did s i r done named came_in is
  stepped_did s i done named (second_by_command e came_in (ordered acts taken is)) =
      did_order e came_in acts taken (projects_went s acts done named (subst (TakesBusy s.proc) taken (unless_busy s.proc e (first_refusal (second_refusals s.proc e)))) is)
  stepped_did s i done named (second_by_command e came_in (not_ordered why refused is)) = quiet_did s i done is
  stepped_did s i done named (second_by_nothing is) = quiet_did s i done is
