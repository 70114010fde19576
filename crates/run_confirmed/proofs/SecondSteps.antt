-- Whatever a secondary node takes, it adds to the stories of its anchors and leg hosts alone.
use Rattle.std.proofs.Common.{◌≡◌, ℕ, ◌==◌, ◌&&◌, ◌<◌, ◌^◌, true, false, Bool, List, [], ◌∷◌, Option, Some, None, Result, Ok, Err, refl, ◌∙◌, inl, inr}
use Rattle.std.specs.Prelude.{is_none, not, ⊤}
use Rattle.std.specs.List.{AllByRecursion}
use Rattle.std.proofs.lemmas.Bool.{cases_Bool}
use Rattle.dc_base.specs.Links.{link}
use Rattle.dc_base.specs.Nodes.{is_same_node}
use Rattle.dc_base.specs.declared.events.Event.{Event}
use Rattle.dc_base.specs.declared.events.Event.TheVariants as event
use Rattle.dc_base.specs.declared.flights.Flight.{Flight}
use Rattle.dc_base.specs.declared.flights.Flight.TheVariants as flight
use Rattle.dc_base.specs.declared.nodes.Class.{Class}
use Rattle.dc_base.specs.declared.nodes.Class.TheVariants.{Air, Ctl, Feed, Tun}
use Rattle.dc_base.specs.declared.nodes.LinkId.{LinkId}
use Rattle.dc_base.specs.declared.nodes.Node.{Node}
use Rattle.dc_base.specs.declared.nodes.Node.TheVariants.{T}
use Rattle.dc_base.specs.declared.records.Plan.{Plan}
use Rattle.dc_base.specs.declared.records.Rec.{Rec}
use Rattle.dc_base.specs.declared.records.Rec.TheVariants as rec
use Rattle.dc_base.specs.declared.answers.Refusal.{Refusal}
use Rattle.dc_base.specs.declared.answers.Word.{Word}
use Rattle.dc_base.specs.declared.nodes.Want.{Want}
use Rattle.dc_base.specs.declared.nodes.Want.TheVariants as want
use Rattle.dc_base.specs.declared.records.RecKind.{RecKind}
use Rattle.dc_base.specs.declared.records.RecKind.TheVariants as kind
use Rattle.dc_base.specs.declared.records.StatusTransfer.{StatusTransfer}
use Rattle.node_rules.specs.Acts.{ProcFault, first_refusal, refused, unexpected}
use Rattle.node_rules.specs.Adopting.{status_in}
use Rattle.node_rules.specs.Anchor.{Active}
use Rattle.node_rules.specs.AnchorSending.{fail_scg, recover, report, unlock}
use Rattle.node_rules.specs.Choices.{Choices}
use Rattle.node_rules.specs.Effects.{in_turn}
use Rattle.node_rules.specs.Held.{held, identities}
use Rattle.node_rules.specs.SecondPlan.{second_act, second_does, second_item}
use Rattle.node_rules.specs.SecondRecords.{added, addition_asked, failure_told, forgotten, is_one_drop, is_wanted, key_confirmed, leave_confirmed, let_off, modification_asked, modified, reconfigured, recovery_asked, refused_there, release_asked, release_confirmed, release_needless, second_take, status_passed}
use Rattle.node_rules.specs.SecondState.{SecondActs, SecondProc, request, second_command, second_commands_unless, second_refusals}
use Rattle.node_rules.specs.SecondStep.{is_fit, key_in, second_commanded, second_control, second_event, second_record, second_record_taken, second_report, second_step, second_takes}
use Rattle.node_rules.specs.Secondary.{SecondNode, active_at, name_of, on_fed_of, within}
use Rattle.node_rules.specs.declared.acts.Act.{Act}
use Rattle.node_rules.specs.declared.acts.Act.TheVariants.{FailOne as fail_one, Go as go, Pass as pass, Prepare as prepare, RecoverOne as recover_one, Say as say, Send as send, UnlockAll as unlock_all}
use Rattle.node_rules.specs.declared.commands.Membership.{Membership}
use Rattle.node_rules.specs.declared.commands.Membership.TheVariants.{Joined as joined, Left as left, Outside as outside}
use Rattle.node_rules.specs.declared.inputs.Input.{Input}
use Rattle.node_rules.specs.declared.inputs.Input.TheVariants.{Cmd, Come}
use Rattle.run_control.proofs.EventTurns.{TakesBusy, second_busy, unless_busy}
use Rattle.run_confirmed.specs.Flights.{IsReadRight, IsSmallStatus, IsTrue}
use Rattle.run_confirmed.specs.Nodes.{Goes, IsSecondOf}
use Rattle.run_confirmed.specs.Plans.{IsFit, IsFitRecord}
use Rattle.run_confirmed.specs.Stories.{IsInOrder, IsNew, Layout, Stories}
use Rattle.run_confirmed.proofs.SecondPlans.{items_stay}
use Rattle.run_confirmed.proofs.Seconds.{SecondGoes, air_goes, before_goes, held_goes, idle_goes, line_goes, of_goes, order_then, stays_goes, then_goes, tunnel_goes, turns_go}
use Rattle.run_confirmed.proofs.Steps.{fail_is, passed_is, recover_is, report_is, unlock_is}

-- ---- what its procedures have it do

-- an act that carries no plan out
abbrev pub IsNoPlan : Act → Type 0
IsNoPlan (send to r) = IsSmallStatus r
IsNoPlan (prepare p) = ⊤
IsNoPlan (go p) = ⊥
IsNoPlan (unlock_all g) = ⊤
IsNoPlan (say n) = ⊤
IsNoPlan (recover_one id) = ⊤
IsNoPlan (fail_one id g) = ⊤
IsNoPlan (pass status) = status.dl < 2 ^ 32

module _ (layout : Layout) (fresh : ℕ → Type 0) where
  -- a plan is carried out before the anchors do anything else
  abbrev pub DoesRight : List Act → Type 0
  DoesRight [] = ⊤
  DoesRight (send to r ∷ acts) = IsSmallStatus r × DoesRight acts
  DoesRight (say n ∷ acts) = DoesRight acts
  DoesRight (go p ∷ acts) = IsFit layout fresh p × AllByRecursion IsNoPlan acts
  DoesRight (a ∷ acts) = IsNoPlan a × AllByRecursion IsNoPlan acts

  abbrev TakesRight : Result SecondActs ProcFault → Type 0
  TakesRight (Ok r) = DoesRight r.1
  TakesRight (Err why) = ⊤

  added_right : (s : SecondProc) (p : Plan) (d : Bool) → IsFit layout fresh p → DoesRight (added s p d).1
  added_right s p true fit = (tt, tt)
  added_right s p false fit = (tt, (fit, tt))

  addition_right : (s : SecondProc) (p : Plan) (m : Membership) → IsFit layout fresh p → TakesRight (addition_asked s p m)
  addition_right s p outside fit = added_right s p s.denies fit
  addition_right s p joined fit = tt
  addition_right s p left fit = tt

  modified_right : (s : SecondProc) (p : Plan) (d : Bool) → IsFit layout fresh p → DoesRight (modified s p d).1
  modified_right s p true fit = (tt, tt)
  modified_right s p false fit = (tt, (fit, tt))

  modification_right : (s : SecondProc) (p : Plan) (m : Membership) → IsFit layout fresh p → TakesRight (modification_asked s p m)
  modification_right s p outside fit = tt
  modification_right s p joined fit = modified_right s p (s.denies && not (is_one_drop p.items)) fit
  modification_right s p left fit = tt

  let_off_right : (s : SecondProc) (p : Plan) (d : Bool) → IsFit layout fresh p → DoesRight (let_off s p d).1
  let_off_right s p true fit = (tt, tt)
  let_off_right s p false fit = (tt, (fit, tt))

  release_right : (s : SecondProc) (p : Plan) (m : Membership) → IsFit layout fresh p → TakesRight (release_asked s p m)
  release_right s p outside fit = tt
  release_right s p joined fit = let_off_right s p (s.denies && is_none p.sec) fit
  release_right s p left fit = tt

  forgotten_right : (s : SecondProc) (m : Membership) → TakesRight (forgotten s m)
  forgotten_right s outside = tt
  forgotten_right s joined = tt
  forgotten_right s left = tt

  refused_right : (k : RecKind) (s : SecondProc) (w : Word) (wanted : Bool) → TakesRight (refused_there k s w wanted)
  refused_right k s w true = tt
  refused_right k s w false = tt

  key_right : (s : SecondProc) (g : ℕ) (wanted : Bool) (m : Membership) → TakesRight (key_confirmed s g wanted m)
  key_right s g true outside = tt
  key_right s g true joined = (tt, (tt, tt))
  key_right s g true left = tt
  key_right s g false m = tt

  leave_right : (k : RecKind) (s : SecondProc) (p : Plan) (wanted : Bool) (m : Membership) → IsFit layout fresh p → TakesRight (leave_confirmed k s p wanted m)
  leave_right k s p true outside fit = tt
  leave_right k s p true joined fit = (fit, tt)
  leave_right k s p true left fit = tt
  leave_right k s p false m fit = tt

  needless_right : (s : SecondProc) (wanted : Bool) → TakesRight (release_needless s wanted)
  needless_right s true = tt
  needless_right s false = tt

  confirmed_right : (s : SecondProc) (p : Plan) → ((p.g == 0) ≡ false → IsFit layout fresh p) → TakesRight (release_confirmed s p)
  confirmed_right s p fit =
      elim (cases_Bool (p.g == 0)) [
        | inl none ↦ rw none (needless_right s (is_wanted want.Release s.want))
        | inr some ↦ rw some (leave_right kind.Relcnf s p (is_wanted want.Release s.want) s.membership (fit some))
      ]

  reconfigured_right : (s : SecondProc) (g : ℕ) (m : Membership) → TakesRight (reconfigured s g m)
  reconfigured_right s g outside = tt
  reconfigured_right s g joined = (tt, tt)
  reconfigured_right s g left = tt

  status_right : (s : SecondProc) (st : StatusTransfer) (m : Membership) → st.dl < 2 ^ 32 → TakesRight (status_passed s st m)
  status_right s st outside small = tt
  status_right s st joined small = (small, tt)
  status_right s st left small = tt

  recovery_right : (s : SecondProc) (id : ℕ) (m : Membership) → TakesRight (recovery_asked s id m)
  recovery_right s id outside = tt
  recovery_right s id joined = (tt, (tt, tt))
  recovery_right s id left = tt

  failure_right : (s : SecondProc) (id g : ℕ) (m : Membership) → TakesRight (failure_told s id g m)
  failure_right s id g outside = tt
  failure_right s id g joined = (tt, tt)
  failure_right s id g left = (tt, tt)

  take_right : (s : SecondProc) (r : Rec) → IsFitRecord layout fresh r → TakesRight (second_take s r)
  take_right s (rec.Addreq plan key) fit = addition_right s plan s.membership fit
  take_right s (rec.Modreq plan key) fit = modification_right s plan s.membership fit
  take_right s (rec.Relreq plan) fit = release_right s plan s.membership fit
  take_right s (rec.Uecr g) fit = forgotten_right s s.membership
  take_right s (rec.Recfg g) fit = reconfigured_right s g s.membership
  take_right s (rec.Modcnf g) fit = key_right s g (is_wanted want.Rekey s.want) s.membership
  take_right s (rec.Modref word) fit = refused_right kind.Modref s word (is_wanted want.Rekey s.want)
  take_right s (rec.Chgcnf plan) fit = leave_right kind.Chgcnf s plan (is_wanted want.Change s.want) s.membership fit
  take_right s (rec.Chgref word) fit = refused_right kind.Chgref s word (is_wanted want.Change s.want)
  take_right s (rec.Relcnf plan) fit = confirmed_right s plan fit
  take_right s (rec.Snst status) fit = status_right s status s.membership fit
  take_right s (rec.Recov id) fit = recovery_right s id s.membership
  take_right s (rec.Scgn id g) fit = failure_right s id g s.membership
  take_right s (rec.Reconf plan key) fit = tt
  take_right s (rec.Rcomp g) fit = tt
  take_right s (rec.Scgf failed) fit = tt
  take_right s (rec.Recovd id) fit = tt
  take_right s (rec.Addack g) fit = tt
  take_right s (rec.Addrej g) fit = tt
  take_right s (rec.Modack g) fit = tt
  take_right s (rec.Modrej g) fit = tt
  take_right s (rec.Relack g) fit = tt
  take_right s (rec.Relrej g) fit = tt
  take_right s (rec.Moved g id) fit = tt
  take_right s rec.Modrqd fit = tt
  take_right s rec.Chgrqd fit = tt
  take_right s rec.Relrqd fit = tt

  asked_small : (w : Want) → IsSmallStatus (request w)
  asked_small want.Rekey = tt
  asked_small want.Change = tt
  asked_small want.Release = tt

  unless_right : (s : SecondProc) (e : Event) (o : Option Refusal) → TakesRight (second_commands_unless s e o)
  unless_right s (event.Ask node what) None = (asked_small what, tt)
  unless_right s (event.Deny node on) None = tt
  unless_right s (event.Bearer id n first shape threshold policy) None = tt
  unless_right s (event.Reshape id shape) None = tt
  unless_right s (event.Remove id) None = tt
  unless_right s (event.Add node) None = tt
  unless_right s event.Change None = tt
  unless_right s event.Release None = tt
  unless_right s event.RekeySecond None = tt
  unless_right s (event.RekeyMaster root) None = tt
  unless_right s (event.Recover id) None = tt
  unless_right s (event.Report node id) None = tt
  unless_right s event.ScgFail None = tt
  unless_right s (event.Submit id d payload) None = tt
  unless_right s (event.Step l i) None = tt
  unless_right s (event.Lose l i) None = tt
  unless_right s (event.Again l i) None = tt
  unless_right s e (Some why) = tt

-- ---- the node

module _ (layout : Layout) (x : Node) (other : is_same_node x T ≡ false) where
  abbrev InOrder : Stories → Type 0
  InOrder stories = (id g : ℕ) → IsInOrder (stories id g)

  abbrev SecondIs : Stories → SecondNode → Type 0
  SecondIs stories s = IsSecondOf layout x stories s

  -- an act that carries no plan out
  act_goes : (stories : Stories) (order : InOrder stories) (c : Choices) (key : List ℕ) (s : SecondNode) (a : Act) → IsNoPlan a → SecondIs stories s
      → SecondGoes layout x other stories (second_act c key s a)
  act_goes stories order c key s (send to r) small is =
      stays_goes layout x (SecondIs) stories order s ((link (name_of s) to Ctl, flight.Ctl r) ∷ []) is (small, tt)
  act_goes stories order c key s (prepare p) small is = idle_goes layout x other stories s order is
  act_goes stories order c key s (go p) small is = absurd small
  act_goes stories order c key s (unlock_all g) small is =
      turns_go layout x SecondIs (λ (n : SecondNode) (id : ℕ). on_fed_of n g (unlock c) id (held id n.anchors))
      (λ later n id right so. of_goes layout x other later right n g (unlock c) id (unlock_is c) so) stories s (identities s.anchors) order is
  act_goes stories order c key s (say n) small is = idle_goes layout x other stories s order is
  act_goes stories order c key s (recover_one id) small is = held_goes layout x other stories order s id (recover c) (recover_is c) is
  act_goes stories order c key s (fail_one id g) small is = of_goes layout x other stories order s g (fail_scg c) id (fail_is c) is
  act_goes stories order c key s (pass st) small is = held_goes layout x other stories order s st.id (λ a. status_in c a st) (passed_is c st small) is

  acts_go : (stories : Stories) (order : InOrder stories) (c : Choices) (key : List ℕ) (s : SecondNode) (acts : List Act) → AllByRecursion IsNoPlan acts
      → SecondIs stories s
      → SecondGoes layout x other stories (in_turn (second_act c key) s acts)
  acts_go stories order c key s [] small is = idle_goes layout x other stories s order is
  acts_go stories order c key s (a ∷ acts) small is =
      let one = second_act c key s a in
      let first = act_goes stories order c key s a small.0 is in
      let rest = acts_go first.later (order_then layout x SecondIs stories one.0 one.1.sends first) c key one.0 acts small.1 first.so in
      then_goes layout x SecondIs stories one.0 (in_turn (second_act c key) one.0 acts).0 one.1.sends (in_turn (second_act c key) one.0 acts).1.sends first rest

  -- one act that is no plan, and then others
  one_more : (stories : Stories) (order : InOrder stories) (c : Choices) (key : List ℕ) (s : SecondNode) (a : Act) (acts : List Act) → IsNoPlan a
      → AllByRecursion IsNoPlan acts → SecondIs stories s
      → SecondGoes layout x other stories (in_turn (second_act c key) s (a ∷ acts))
  one_more stories order c key s a acts one more is = acts_go stories order c key s (a ∷ acts) (one, more) is

  -- what it does
  does_go : (stories : Stories) (order : InOrder stories) (c : Choices) (key : List ℕ) (s : SecondNode) (acts : List Act)
      → DoesRight layout (IsNew layout x stories) acts → SecondIs stories s
      → SecondGoes layout x other stories (in_turn (second_act c key) s acts)
  does_go stories order c key s [] right is = idle_goes layout x other stories s order is
  does_go stories order c key s (send to r ∷ acts) right is =
      let rest = in_turn (second_act c key) s acts in
      before_goes layout x SecondIs stories rest.0 ((link (name_of s) to Ctl, flight.Ctl r) ∷ []) rest.1.sends (λ later. (right.0, tt)) (does_go stories order c key s acts right.1 is)
  does_go stories order c key s (say n ∷ acts) right is = does_go stories order c key s acts right is
  does_go stories order c key s (go p ∷ acts) right is =
      let one = in_turn (second_item key p) s p.items in
      let stays = items_stay layout x other stories order p right.0.0 key s p.items right.0.1 is in
      let first = stays_goes layout x SecondIs stories order one.0 one.1.sends stays.0 stays.1 in
      let rest = acts_go first.later (order_then layout x SecondIs stories one.0 one.1.sends first) c key one.0 acts right.1 first.so in
      then_goes layout x SecondIs stories one.0 (in_turn (second_act c key) one.0 acts).0 one.1.sends (in_turn (second_act c key) one.0 acts).1.sends first rest
  does_go stories order c key s (prepare p ∷ acts) right is = one_more stories order c key s (prepare p) acts right.0 right.1 is
  does_go stories order c key s (unlock_all g ∷ acts) right is = one_more stories order c key s (unlock_all g) acts right.0 right.1 is
  does_go stories order c key s (recover_one id ∷ acts) right is = one_more stories order c key s (recover_one id) acts right.0 right.1 is
  does_go stories order c key s (fail_one id g ∷ acts) right is = one_more stories order c key s (fail_one id g) acts right.0 right.1 is
  does_go stories order c key s (pass st ∷ acts) right is = one_more stories order c key s (pass st) acts right.0 right.1 is

  within_is : (stories : Stories) (m : Membership) (s : SecondNode) → SecondIs stories s → SecondIs stories (within m s)
  within_is stories outside s is = record { name = is.name; anchors = λ id. tt; hosts = λ id. tt; anchors_ascend = tt; hosts_ascend = tt }
  within_is stories joined s is = is
  within_is stories left s is = is

  second_does_go : (stories : Stories) (order : InOrder stories) (c : Choices) (key : List ℕ) (s : SecondNode) (r : SecondActs) → r.0.me ≡ s.proc.me
      → DoesRight layout (IsNew layout x stories) r.1
      → SecondIs stories s → SecondGoes layout x other stories (second_does c key s r)
  second_does_go stories order c key s r same right is =
      let k : SecondNode = record s { proc = r.0 } in
      let named : SecondIs stories k = record { name = same ∙ is.name; anchors = is.anchors; hosts = is.hosts; anchors_ascend = is.anchors_ascend; hosts_ascend = is.hosts_ascend } in
      does_go stories order c key (within r.0.membership k) r.1 right (within_is stories r.0.membership k named)

  taken_goes : (stories : Stories) (order : InOrder stories) (c : Choices) (key : List ℕ) (s : SecondNode) (r : Result SecondActs ProcFault)
      → TakesBusy s.proc r → TakesRight layout (IsNew layout x stories) r
      → SecondIs stories s → SecondGoes layout x other stories (second_record_taken c key s r)
  taken_goes stories order c key s (Ok r) busy right is = second_does_go stories order c key s r busy.0 right is
  taken_goes stories order c key s (Err why) busy right is = idle_goes layout x other stories s order is

  record_goes : (stories : Stories) (order : InOrder stories) (c : Choices) (s : SecondNode) (r : Rec) (fits : Bool)
      → IsFitRecord layout (IsNew layout x stories) r → SecondIs stories s
      → SecondGoes layout x other stories (second_record c s r fits)
  record_goes stories order c s r true fit is =
      taken_goes stories order c (key_in r) s (second_take s.proc r) (second_busy s.proc r) (take_right layout (IsNew layout x stories) s.proc r fit) is
  record_goes stories order c s r false fit is = idle_goes layout x other stories s order is

  -- what is needed of a flight: it comes over the air from the terminal alone, to the node; it is so and is read right; a record fits
  pub record ComesRight (stories : Stories) (l : LinkId) (f : Flight) : Type 0 where
    pub from : l.class ≡ Air → is_same_node l.from T ≡ true
    pub to : l.to ≡ x
    pub true' : IsTrue layout stories l f
    pub reads : IsReadRight layout stories l f
    pub fits : (r : Rec) → f ≡ flight.Ctl r → l.class ≡ Ctl → IsFitRecord layout (IsNew layout x stories) r

  control_goes : (stories : Stories) (order : InOrder stories) (c : Choices) (s : SecondNode) (f : Flight)
      → ((r : Rec) → f ≡ flight.Ctl r → IsFitRecord layout (IsNew layout x stories) r) → SecondIs stories s
      → SecondGoes layout x other stories (second_control c s f)
  control_goes stories order c s (flight.Ctl r) fits is = record_goes stories order c s r (is_fit s r) (fits r refl) is
  control_goes stories order c s (flight.Air id g num tag pdu) fits is = idle_goes layout x other stories s order is
  control_goes stories order c s (flight.Ack id g num) fits is = idle_goes layout x other stories s order is
  control_goes stories order c s (flight.Tun tag packet) fits is = idle_goes layout x other stories s order is
  control_goes stories order c s (flight.Sdu id g payload) fits is = idle_goes layout x other stories s order is
  control_goes stories order c s (flight.End id g) fits is = idle_goes layout x other stories s order is
  control_goes stories order c s (flight.Told id g count) fits is = idle_goes layout x other stories s order is

  takes_goes : (stories : Stories) (order : InOrder stories) (c : Choices) (s : SecondNode) (l : LinkId) (f : Flight) (k : Class) → l.class ≡ k
      → ComesRight stories l f → SecondIs stories s
      → SecondGoes layout x other stories (second_takes c s f k)
  takes_goes stories order c s l f Ctl class right is = control_goes stories order c s f (λ r same. right.fits r same class) is
  takes_goes stories order c s l f Feed class right is = line_goes layout x other stories order c s f is
  takes_goes stories order c s l f Air class right is = air_goes layout x other stories order s l f (right.from class) right.to right.true' is
  takes_goes stories order c s l f Tun class right is = tunnel_goes layout x other stories order c s l f right.true' right.reads is

  -- ---- its events

  commanded_goes : (stories : Stories) (order : InOrder stories) (c : Choices) (s : SecondNode) (r : Result SecondActs ProcFault) → TakesBusy s.proc r
      → TakesRight layout (IsNew layout x stories) r
      → SecondIs stories s → Goes layout x SecondIs stories (second_commanded c s r).0 (second_commanded c s r).1.sends
  commanded_goes stories order c s (Ok r) busy right is = second_does_go stories order c [] s r busy.0 right is
  commanded_goes stories order c s (Err (refused why)) busy right is = idle_goes layout x other stories s order is
  commanded_goes stories order c s (Err (unexpected k)) busy right is = idle_goes layout x other stories s order is

  command_goes : (stories : Stories) (order : InOrder stories) (c : Choices) (s : SecondNode) (e : Event) → SecondIs stories s
      → (let done = second_commanded c s (second_command s.proc e) in Goes layout x SecondIs stories done.0 done.1.sends)
  command_goes stories order c s e is =
      let o = first_refusal (second_refusals s.proc e) in
      commanded_goes stories order c s (second_commands_unless s.proc e o) (unless_busy s.proc e o) (unless_right layout (IsNew layout x stories) s.proc e o) is

  report_goes : (stories : Stories) (order : InOrder stories) (c : Choices) (s : SecondNode) (id : ℕ) (o : Option Active) → SecondIs stories s
      → Goes layout x SecondIs stories (second_report c s id o).0 (second_report c s id o).1.sends
  report_goes stories order c s id None is = idle_goes layout x other stories s order is
  report_goes stories order c s id (Some a) is = held_goes layout x other stories order s id (report c) (report_is c) is

  event_goes : (stories : Stories) (order : InOrder stories) (c : Choices) (s : SecondNode) (e : Event) → SecondIs stories s
      → Goes layout x SecondIs stories (second_event c s e).0 (second_event c s e).1.sends
  event_goes stories order c s (event.Report node id) is = report_goes stories order c s id (active_at s id) is
  event_goes stories order c s (event.Deny node on) is = command_goes stories order c s (event.Deny node on) is
  event_goes stories order c s (event.Ask node what) is = command_goes stories order c s (event.Ask node what) is
  event_goes stories order c s (event.Bearer id n first shape threshold policy) is = idle_goes layout x other stories s order is
  event_goes stories order c s (event.Reshape id shape) is = idle_goes layout x other stories s order is
  event_goes stories order c s (event.Remove id) is = idle_goes layout x other stories s order is
  event_goes stories order c s (event.Add node) is = idle_goes layout x other stories s order is
  event_goes stories order c s event.Change is = idle_goes layout x other stories s order is
  event_goes stories order c s event.Release is = idle_goes layout x other stories s order is
  event_goes stories order c s event.RekeySecond is = idle_goes layout x other stories s order is
  event_goes stories order c s (event.RekeyMaster root) is = idle_goes layout x other stories s order is
  event_goes stories order c s (event.Recover id) is = idle_goes layout x other stories s order is
  event_goes stories order c s event.ScgFail is = idle_goes layout x other stories s order is
  event_goes stories order c s (event.Submit id d payload) is = idle_goes layout x other stories s order is
  event_goes stories order c s (event.Step l i) is = idle_goes layout x other stories s order is
  event_goes stories order c s (event.Lose l i) is = idle_goes layout x other stories s order is
  event_goes stories order c s (event.Again l i) is = idle_goes layout x other stories s order is

  -- what is needed of an input
  abbrev pub InputIsRight : Stories → Input → Type 0
  InputIsRight stories (Cmd e) = ⊤
  InputIsRight stories (Come l f) = ComesRight stories l f

  -- whatever it takes
  pub second_goes : (stories : Stories) → InOrder stories → (c : Choices) (s : SecondNode) (i : Input) → InputIsRight stories i → SecondIs stories s
      → Goes layout x SecondIs stories (second_step c s i).0 (second_step c s i).1.sends
  second_goes stories order c s (Cmd e) right is = event_goes stories order c s e is
  second_goes stories order c s (Come l f) right is = takes_goes stories order c s l f l.class refl right is
