-- The plans that a step of the master carries out, and those that it sends, were drawn.
use Rattle.std.proofs.Common.{◌≡◌, ◌++◌, Bool, true, false, List, [], ◌∷◌, Option, Some, None, refl, sym, ap, subst, ◌∙◌, inl, inr, ◌⊎◌}
use Rattle.std.specs.Prelude.{filter, is_some, ⊤}
use Rattle.std.specs.List.{AllByRecursion}
use Rattle.std.proofs.lemmas.Bool.{cases_Bool}
use Rattle.dc_base.specs.declared.flights.Flight.TheVariants as flight
use Rattle.dc_base.specs.declared.nodes.Node.{Node}
use Rattle.dc_base.specs.declared.nodes.Node.TheVariants.{A, B, M, T}
use Rattle.dc_base.specs.declared.records.Plan.{Plan}
use Rattle.dc_base.specs.declared.records.Rec.{Rec}
use Rattle.dc_base.specs.declared.records.Rec.TheVariants as rec
use Rattle.transcript.proofs.OnEach.{each_weaker}
use Rattle.master_runs.proofs.Lists.{each_filter}
use Rattle.claims.specs.Planned.{plan_in}
use Rattle.node_rules.specs.Choices.{Send}
use Rattle.node_rules.specs.MasterState.{MasterActs, MasterProc}
use Rattle.node_rules.specs.Master.{MasterNode}
use Rattle.node_rules.specs.declared.acts.Act.{Act}
use Rattle.node_rules.specs.declared.acts.Act.TheVariants.{FailOne as fail_one, Go as go, Pass as pass, Prepare as prepare, RecoverOne as recover_one, Say as say, Send as send, UnlockAll as unlock_all}
use Rattle.node_rules.specs.declared.commands.Change.{Change}
use Rattle.node_rules.specs.declared.commands.Command.TheVariants.{Asked as asked}
use Rattle.node_rules.specs.declared.commands.First.{First}
use Rattle.node_rules.specs.declared.inputs.Effects.{Effects}
use Rattle.run_table.specs.Quiet.{Follows, has_plan, said, said_by}
use Rattle.run_table.specs.Words.{is_order_sent}
use Rattle.run_relays.proofs.ActPlans.{ActsFrom, HasOrder, IsOfPlanAct, IsOrdered, Orders, PlanIs, PlanTold, asking_acts, told_acts}
use Rattle.run_relays.proofs.Planned.{Runs, RunsOnly}
use Rattle.run_relays.proofs.SecondSets.{BringsFlight, BringsPlan, BringsRec}

-- ---- the plan that the terminal is told is among the sends

-- the send tells the terminal this plan
abbrev OrderSent : Plan → Send → Type 0
OrderSent p (l, flight.Ctl (rec.Reconf q key)) = q ≡ p
OrderSent p _ = ⊥

-- one of them does
abbrev pub HasOrderSent : Plan → List Send → Type 0
HasOrderSent p [] = ⊥
HasOrderSent p (s ∷ ss) = OrderSent p s ⊎ HasOrderSent p ss

sent_behind : (p : Plan) (xs ss : List Send) → HasOrderSent p ss → HasOrderSent p (xs ++ ss)
sent_behind p [] ss has = has
sent_behind p (x ∷ xs) ss has = inr (sent_behind p xs ss has)

said_order : (p : Plan) (a : Act) (ss : List Send) → Orders p a → HasOrderSent p ((said_by a).sends ++ ss)
said_order p (send T (rec.Reconf q key)) ss is = inl is
said_order p (send T (rec.Rcomp g)) ss is = absurd is
said_order p (send T (rec.Scgf x)) ss is = absurd is
said_order p (send T (rec.Recov id)) ss is = absurd is
said_order p (send T (rec.Recovd id)) ss is = absurd is
said_order p (send T (rec.Addreq q key)) ss is = absurd is
said_order p (send T (rec.Addack g)) ss is = absurd is
said_order p (send T (rec.Addrej g)) ss is = absurd is
said_order p (send T (rec.Modreq q key)) ss is = absurd is
said_order p (send T (rec.Modack g)) ss is = absurd is
said_order p (send T (rec.Modrej g)) ss is = absurd is
said_order p (send T (rec.Recfg g)) ss is = absurd is
said_order p (send T (rec.Relreq q)) ss is = absurd is
said_order p (send T (rec.Relack g)) ss is = absurd is
said_order p (send T (rec.Relrej g)) ss is = absurd is
said_order p (send T (rec.Uecr g)) ss is = absurd is
said_order p (send T (rec.Snst st)) ss is = absurd is
said_order p (send T (rec.Moved g id)) ss is = absurd is
said_order p (send T (rec.Scgn id g)) ss is = absurd is
said_order p (send T rec.Modrqd) ss is = absurd is
said_order p (send T (rec.Modcnf g)) ss is = absurd is
said_order p (send T (rec.Modref w)) ss is = absurd is
said_order p (send T rec.Chgrqd) ss is = absurd is
said_order p (send T (rec.Chgcnf q)) ss is = absurd is
said_order p (send T (rec.Chgref w)) ss is = absurd is
said_order p (send T rec.Relrqd) ss is = absurd is
said_order p (send T (rec.Relcnf q)) ss is = absurd is
said_order p (send M r) ss is = absurd is
said_order p (send A r) ss is = absurd is
said_order p (send B r) ss is = absurd is
said_order p (prepare q) ss is = absurd is
said_order p (go q) ss is = absurd is
said_order p (unlock_all g) ss is = absurd is
said_order p (say n) ss is = absurd is
said_order p (recover_one id) ss is = absurd is
said_order p (fail_one id g) ss is = absurd is
said_order p (pass st) ss is = absurd is

order_said : (p : Plan) (acts : List Act) → HasOrder p acts → HasOrderSent p (said acts).sends
order_said p [] has = absurd has
order_said p (a ∷ acts) has = elim has [ inl here ↦ said_order p a (said acts).sends here | inr there ↦ sent_behind p (said_by a).sends (said acts).sends (order_said p acts there) ]

-- an order has a plan
order_planned : (p : Plan) (s : Send) → OrderSent p s → has_plan s ≡ true
order_planned p (l, flight.Ctl (rec.Reconf q key)) is = refl
order_planned p (l, flight.Ctl (rec.Rcomp g)) is = absurd is
order_planned p (l, flight.Ctl (rec.Scgf x)) is = absurd is
order_planned p (l, flight.Ctl (rec.Recov id)) is = absurd is
order_planned p (l, flight.Ctl (rec.Recovd id)) is = absurd is
order_planned p (l, flight.Ctl (rec.Addreq q key)) is = absurd is
order_planned p (l, flight.Ctl (rec.Addack g)) is = absurd is
order_planned p (l, flight.Ctl (rec.Addrej g)) is = absurd is
order_planned p (l, flight.Ctl (rec.Modreq q key)) is = absurd is
order_planned p (l, flight.Ctl (rec.Modack g)) is = absurd is
order_planned p (l, flight.Ctl (rec.Modrej g)) is = absurd is
order_planned p (l, flight.Ctl (rec.Recfg g)) is = absurd is
order_planned p (l, flight.Ctl (rec.Relreq q)) is = absurd is
order_planned p (l, flight.Ctl (rec.Relack g)) is = absurd is
order_planned p (l, flight.Ctl (rec.Relrej g)) is = absurd is
order_planned p (l, flight.Ctl (rec.Uecr g)) is = absurd is
order_planned p (l, flight.Ctl (rec.Snst st)) is = absurd is
order_planned p (l, flight.Ctl (rec.Moved g id)) is = absurd is
order_planned p (l, flight.Ctl (rec.Scgn id g)) is = absurd is
order_planned p (l, flight.Ctl rec.Modrqd) is = absurd is
order_planned p (l, flight.Ctl (rec.Modcnf g)) is = absurd is
order_planned p (l, flight.Ctl (rec.Modref w)) is = absurd is
order_planned p (l, flight.Ctl rec.Chgrqd) is = absurd is
order_planned p (l, flight.Ctl (rec.Chgcnf q)) is = absurd is
order_planned p (l, flight.Ctl (rec.Chgref w)) is = absurd is
order_planned p (l, flight.Ctl rec.Relrqd) is = absurd is
order_planned p (l, flight.Ctl (rec.Relcnf q)) is = absurd is
order_planned p (l, flight.Air id g num tag pdu) is = absurd is
order_planned p (l, flight.Ack id g num) is = absurd is
order_planned p (l, flight.Tun tag packet) is = absurd is
order_planned p (l, flight.Sdu id g payload) is = absurd is
order_planned p (l, flight.End id g) is = absurd is
order_planned p (l, flight.Told id g count) is = absurd is

-- so it is among those that have one
kept_planned : (p : Plan) (ss : List Send) → HasOrderSent p ss → HasOrderSent p (filter has_plan ss)
kept_planned p [] has = absurd has
kept_planned p (s ∷ ss) has =
    elim has [
      | inl here ↦ let yes' = order_planned p s here in rw yes' (inl here)
      | inr there ↦ elim (cases_Bool (has_plan s)) [ inl yes' ↦ rw yes' (inr (kept_planned p ss there)) | inr no' ↦ rw no' (kept_planned p ss there) ]
    ]

of_planned : (p : Plan) (ss : List Send) → HasOrderSent p (filter has_plan ss) → HasOrderSent p ss
of_planned p [] has = absurd has
of_planned p (s ∷ ss) has =
    elim (cases_Bool (has_plan s)) [
      | inl yes' ↦ let h = rw yes' at has in elim h [ inl here ↦ inl here | inr there ↦ inr (of_planned p ss there) ]
      | inr no' ↦ inr (of_planned p ss (rw no' at has))
    ]

-- an order is one
order_is : (p : Plan) (s : Send) → OrderSent p s → is_order_sent s ≡ true
order_is p (l, flight.Ctl (rec.Reconf q key)) is = refl
order_is p (l, flight.Ctl (rec.Rcomp g)) is = absurd is
order_is p (l, flight.Ctl (rec.Scgf x)) is = absurd is
order_is p (l, flight.Ctl (rec.Recov id)) is = absurd is
order_is p (l, flight.Ctl (rec.Recovd id)) is = absurd is
order_is p (l, flight.Ctl (rec.Addreq q key)) is = absurd is
order_is p (l, flight.Ctl (rec.Addack g)) is = absurd is
order_is p (l, flight.Ctl (rec.Addrej g)) is = absurd is
order_is p (l, flight.Ctl (rec.Modreq q key)) is = absurd is
order_is p (l, flight.Ctl (rec.Modack g)) is = absurd is
order_is p (l, flight.Ctl (rec.Modrej g)) is = absurd is
order_is p (l, flight.Ctl (rec.Recfg g)) is = absurd is
order_is p (l, flight.Ctl (rec.Relreq q)) is = absurd is
order_is p (l, flight.Ctl (rec.Relack g)) is = absurd is
order_is p (l, flight.Ctl (rec.Relrej g)) is = absurd is
order_is p (l, flight.Ctl (rec.Uecr g)) is = absurd is
order_is p (l, flight.Ctl (rec.Snst st)) is = absurd is
order_is p (l, flight.Ctl (rec.Moved g id)) is = absurd is
order_is p (l, flight.Ctl (rec.Scgn id g)) is = absurd is
order_is p (l, flight.Ctl rec.Modrqd) is = absurd is
order_is p (l, flight.Ctl (rec.Modcnf g)) is = absurd is
order_is p (l, flight.Ctl (rec.Modref w)) is = absurd is
order_is p (l, flight.Ctl rec.Chgrqd) is = absurd is
order_is p (l, flight.Ctl (rec.Chgcnf q)) is = absurd is
order_is p (l, flight.Ctl (rec.Chgref w)) is = absurd is
order_is p (l, flight.Ctl rec.Relrqd) is = absurd is
order_is p (l, flight.Ctl (rec.Relcnf q)) is = absurd is
order_is p (l, flight.Air id g num tag pdu) is = absurd is
order_is p (l, flight.Ack id g num) is = absurd is
order_is p (l, flight.Tun tag packet) is = absurd is
order_is p (l, flight.Sdu id g payload) is = absurd is
order_is p (l, flight.End id g) is = absurd is
order_is p (l, flight.Told id g count) is = absurd is

-- so it is among the orders
pub kept_order : (p : Plan) (ss : List Send) → HasOrderSent p ss → HasOrderSent p (filter is_order_sent ss)
kept_order p [] has = absurd has
kept_order p (s ∷ ss) has =
    elim has [
      | inl here ↦ let yes' = order_is p s here in rw yes' (inl here)
      | inr there ↦ elim (cases_Bool (is_order_sent s)) [ inl yes' ↦ rw yes' (inr (kept_order p ss there)) | inr no' ↦ rw no' (kept_order p ss there) ]
    ]

-- a send without a plan is no order
planless : (s : Send) → has_plan s ≡ false → is_order_sent s ≡ false
planless (l, flight.Ctl (rec.Reconf q key)) is = absurd (let bad : true ≡ false = is in cc)
planless (l, flight.Ctl (rec.Rcomp g)) is = refl
planless (l, flight.Ctl (rec.Scgf x)) is = refl
planless (l, flight.Ctl (rec.Recov id)) is = refl
planless (l, flight.Ctl (rec.Recovd id)) is = refl
planless (l, flight.Ctl (rec.Addreq q key)) is = refl
planless (l, flight.Ctl (rec.Addack g)) is = refl
planless (l, flight.Ctl (rec.Addrej g)) is = refl
planless (l, flight.Ctl (rec.Modreq q key)) is = refl
planless (l, flight.Ctl (rec.Modack g)) is = refl
planless (l, flight.Ctl (rec.Modrej g)) is = refl
planless (l, flight.Ctl (rec.Recfg g)) is = refl
planless (l, flight.Ctl (rec.Relreq q)) is = refl
planless (l, flight.Ctl (rec.Relack g)) is = refl
planless (l, flight.Ctl (rec.Relrej g)) is = refl
planless (l, flight.Ctl (rec.Uecr g)) is = refl
planless (l, flight.Ctl (rec.Snst st)) is = refl
planless (l, flight.Ctl (rec.Moved g id)) is = refl
planless (l, flight.Ctl (rec.Scgn id g)) is = refl
planless (l, flight.Ctl rec.Modrqd) is = refl
planless (l, flight.Ctl (rec.Modcnf g)) is = refl
planless (l, flight.Ctl (rec.Modref w)) is = refl
planless (l, flight.Ctl rec.Chgrqd) is = refl
planless (l, flight.Ctl (rec.Chgcnf q)) is = refl
planless (l, flight.Ctl (rec.Chgref w)) is = refl
planless (l, flight.Ctl rec.Relrqd) is = refl
planless (l, flight.Ctl (rec.Relcnf q)) is = refl
planless (l, flight.Air id g num tag pdu) is = refl
planless (l, flight.Ack id g num) is = refl
planless (l, flight.Tun tag packet) is = refl
planless (l, flight.Sdu id g payload) is = refl
planless (l, flight.End id g) is = refl
planless (l, flight.Told id g count) is = refl

-- the orders are those among the sends that have a plan
pub orders_planned : (ss : List Send) → filter is_order_sent ss ≡ filter is_order_sent (filter has_plan ss)
orders_planned [] = refl
orders_planned (s ∷ ss) =
    elim (cases_Bool (has_plan s)) [
      | inl yes' ↦ elim (cases_Bool (is_order_sent s)) [
        | inl order ↦ rw yes' (rw order (ap (λ xs. s ∷ xs) (orders_planned ss)))
        | inr other ↦ rw yes' (rw other (orders_planned ss))
      ]
      | inr no' ↦ rw no' (rw (planless s no') (orders_planned ss))
    ]

-- ---- what is heard of the step

-- after a step of the master: the plan that the terminal is told was drawn, and so was the one that is asked for
pub record Hears (plans : List Plan) (m : MasterProc) (ss : List Send) : Type 0 where
  pub order : (p : Plan) → HasOrderSent p ss → Runs plans p
  pub asks : (c : Change) (first : First) (who : Node) (wanted : Bool) → m.command ≡ Some (asked c first who wanted) → Runs plans c.plan

-- the plan of a send was drawn
abbrev pub SendBrings : List Plan → Send → Type 0
SendBrings plans s = BringsFlight plans s.1

module _ (plans : List Plan) where
  -- where no plan is sent
  no_plan_brings : (r : Rec) (o : Option Plan) → is_some o ≡ false → BringsPlan plans r o
  no_plan_brings r None none = tt
  no_plan_brings r (Some p) none = absurd (let bad : true ≡ false = none in cc)

  quiet_brings : (s : Send) → has_plan s ≡ false → SendBrings plans s
  quiet_brings (l, flight.Ctl r) none = no_plan_brings r (plan_in r) none
  quiet_brings (l, flight.Air id g num tag pdu) none = tt
  quiet_brings (l, flight.Ack id g num) none = tt
  quiet_brings (l, flight.Tun tag packet) none = tt
  quiet_brings (l, flight.Sdu id g payload) none = tt
  quiet_brings (l, flight.End id g) none = tt
  quiet_brings (l, flight.Told id g count) none = tt

  -- by those that have a plan
  by_planned : (ss : List Send) → AllByRecursion (SendBrings plans) (filter has_plan ss) → AllByRecursion (SendBrings plans) ss
  by_planned [] all = tt
  by_planned (s ∷ ss) all =
      elim (cases_Bool (has_plan s)) [
        | inl yes' ↦ let a = rw yes' at all in (a.0, by_planned ss a.1)
        | inr no' ↦ (quiet_brings s no', by_planned ss (rw no' at all))
      ]

  pub nothing_sent : (ss : List Send) → filter has_plan ss ≡ [] → AllByRecursion (SendBrings plans) ss
  nothing_sent ss none = by_planned ss (subst (AllByRecursion (SendBrings plans)) (sym none) tt)

  -- ---- what the acts of the step are

  -- an act carries out plans that were drawn, and sends such
  abbrev ActBrings : Act → Type 0
  ActBrings (send to r) = BringsRec plans r
  ActBrings (prepare p) = Runs plans p
  ActBrings (go p) = Runs plans p
  ActBrings (unlock_all g) = ⊤
  ActBrings (say n) = ⊤
  ActBrings (recover_one id) = ⊤
  ActBrings (fail_one id g) = ⊤
  ActBrings (pass st) = ⊤

  told_brings : (all : List Act) → ((p : Plan) → HasOrder p all → Runs plans p) → (r : Rec) (o : Option Plan) → PlanTold all r o → BringsPlan plans r o
  told_brings all drawn r None is = tt
  told_brings all drawn r (Some p) (inl has) = inl (drawn p has)
  told_brings all drawn r (Some p) (inr none) = inr none

  ordered_brings : (all : List Act) → ((p : Plan) → HasOrder p all → Runs plans p) → (a : Act) → IsOrdered all a → ActBrings a
  ordered_brings all drawn (send to r) is = told_brings all drawn r (plan_in r) is
  ordered_brings all drawn (prepare p) is = drawn p is
  ordered_brings all drawn (go p) is = drawn p is
  ordered_brings all drawn (unlock_all g) is = tt
  ordered_brings all drawn (say n) is = tt
  ordered_brings all drawn (recover_one id) is = tt
  ordered_brings all drawn (fail_one id g) is = tt
  ordered_brings all drawn (pass st) is = tt

  asked_plan : (p : Plan) → Runs plans p → (r : Rec) (o : Option Plan) → PlanIs p o → BringsPlan plans r o
  asked_plan p runs r None is = tt
  asked_plan p runs r (Some q) is = inl (subst (Runs plans) (sym is) runs)

  asked_brings : (p : Plan) → Runs plans p → (a : Act) → IsOfPlanAct p a → ActBrings a
  asked_brings p runs (send to r) is = asked_plan p runs r (plan_in r) is
  asked_brings p runs (prepare q) is = subst (Runs plans) (sym is) runs
  asked_brings p runs (go q) is = subst (Runs plans) (sym is) runs
  asked_brings p runs (unlock_all g) is = tt
  asked_brings p runs (say n) is = tt
  asked_brings p runs (recover_one id) is = tt
  asked_brings p runs (fail_one id g) is = tt
  asked_brings p runs (pass st) is = tt

  -- of those that a step followed
  acts_bring : (r : MasterActs) (done : MasterNode × Effects) → ActsFrom r → Follows r done → Hears plans done.0.proc done.1.sends → AllByRecursion ActBrings r.1
  acts_bring r done (told_acts are) follows hears =
      each_weaker (IsOrdered r.1) ActBrings
      (ordered_brings r.1 (λ p has. hears.order p (of_planned p done.1.sends (subst (HasOrderSent p) (sym follows.says.sends) (kept_planned p (said r.1).sends (order_said p r.1 has))))))
      r.1 are
  acts_bring r done (asking_acts c first who wanted open' are) follows hears =
      each_weaker (IsOfPlanAct c.plan) ActBrings (asked_brings c.plan (hears.asks c first who wanted (ap (λ (x : MasterProc). x.command) follows.proc ∙ open'))) r.1 are

  run_only : (a : Act) → ActBrings a → RunsOnly plans a
  run_only (send to r) brings = tt
  run_only (prepare p) brings = brings
  run_only (go p) brings = brings
  run_only (unlock_all g) brings = tt
  run_only (say n) brings = tt
  run_only (recover_one id) brings = tt
  run_only (fail_one id g) brings = tt
  run_only (pass st) brings = tt

  pub acts_run : (r : MasterActs) (done : MasterNode × Effects) → ActsFrom r → Follows r done → Hears plans done.0.proc done.1.sends → AllByRecursion (RunsOnly plans) r.1
  acts_run r done from follows hears = each_weaker ActBrings (RunsOnly plans) run_only r.1 (acts_bring r done from follows hears)

  said_brings : (acts : List Act) → AllByRecursion ActBrings acts → AllByRecursion (SendBrings plans) (said acts).sends
  said_brings [] all = tt
  said_brings (send to r ∷ acts) all = (all.0, said_brings acts all.1)
  said_brings (prepare p ∷ acts) all = said_brings acts all.1
  said_brings (go p ∷ acts) all = said_brings acts all.1
  said_brings (unlock_all g ∷ acts) all = said_brings acts all.1
  said_brings (say n ∷ acts) all = said_brings acts all.1
  said_brings (recover_one id ∷ acts) all = said_brings acts all.1
  said_brings (fail_one id g ∷ acts) all = said_brings acts all.1
  said_brings (pass st ∷ acts) all = said_brings acts all.1

  -- all that it sends brings plans that were drawn
  pub sends_bring : (r : MasterActs) (done : MasterNode × Effects) → ActsFrom r → Follows r done → Hears plans done.0.proc done.1.sends → AllByRecursion (SendBrings plans) done.1.sends
  sends_bring r done from follows hears =
      by_planned done.1.sends (subst (AllByRecursion (SendBrings plans)) (sym follows.says.sends)
      (each_filter (SendBrings plans) has_plan (said r.1).sends (said_brings r.1 (acts_bring r done from follows hears))))
