-- What a secondary node does with a record: nothing that its anchors or the status transfers would show; or it gives one to an anchor; or it carries a plan out.
use Rattle.std.proofs.Common.{ℕ, ◌≡◌, ◌+◌, ◌==◌, ◌++◌, ◌∙◌, Bool, true, false, List, [], ◌∷◌, Option, Some, None, refl, sym, ap, subst, arith}
use Rattle.std.specs.List.{AllByRecursion, list_any}
use Rattle.run_control.specs.Claims.{is_agreement}
use Rattle.run_control.specs.Rows.{is_request}
use Rattle.run_pairs.proofs.Serving.{said}
use Rattle.std.specs.Prelude.{Err, Ok, Result, if◌then◌else◌, is_none, not, ⊤, ◌&&◌}
use Rattle.dc_base.specs.declared.answers.Word.{Word}
use Rattle.dc_base.specs.declared.events.Event.{Event}
use Rattle.dc_base.specs.declared.events.Event.TheVariants as event
use Rattle.dc_base.specs.declared.events.Note.TheVariants as note
use Rattle.dc_base.specs.declared.nodes.Node.{Node}
use Rattle.dc_base.specs.declared.nodes.Node.TheVariants.{M}
use Rattle.dc_base.specs.declared.nodes.Want.{Want}
use Rattle.dc_base.specs.declared.nodes.Want.TheVariants as want
use Rattle.dc_base.specs.declared.answers.Refusal.{Refusal}
use Rattle.dc_base.specs.declared.records.Plan.{Plan}
use Rattle.dc_base.specs.declared.records.Rec.{Rec}
use Rattle.dc_base.specs.declared.records.Rec.TheVariants as rec
use Rattle.dc_base.specs.declared.records.RecKind.{RecKind}
use Rattle.dc_base.specs.declared.records.RecKind.TheVariants as kind
use Rattle.dc_base.specs.declared.records.StatusTransfer.{StatusTransfer}
use Rattle.node_rules.specs.Acts.{ProcFault, first_refusal}
use Rattle.node_rules.specs.SecondRecords.{added, addition_asked, failure_told, forgotten, is_one_drop, is_wanted, key_confirmed, leave_confirmed, let_off, modification_asked, modified, reconfigured, recovery_asked, refused_there, release_asked, release_confirmed, release_needless, second_take, status_passed}
use Rattle.node_rules.specs.SecondState.{SecondActs, SecondProc, request, second_command, second_commands, second_commands_unless, second_refusals}
use Rattle.node_rules.specs.SecondStep.{plan_in}
use Rattle.node_rules.specs.declared.acts.Act.{Act}
use Rattle.node_rules.specs.declared.acts.Act.TheVariants.{FailOne as fail_one, Go as go, Pass as pass, Prepare as prepare, RecoverOne as recover_one, Say as say, Send as send, UnlockAll as unlock_all}
use Rattle.node_rules.specs.declared.commands.Membership.{Membership}
use Rattle.node_rules.specs.declared.commands.Membership.TheVariants.{Joined as joined, Left as left, Outside as outside}
use Rattle.run_control.specs.SecondControl.{Views, act_sends, act_view, acts_sends, acts_view, bare_record}
use Rattle.run_places.specs.Tokens.{status_in}
use Rattle.run_places.proofs.Counting.{bare_status, sent, sent_append}
use Rattle.run_places.proofs.TurnKeeps.{AreSame, IsSame, opened_same, same_itself, same_then}

-- ---- quiet acts

abbrev pub IsQuiet : Act → Type 0
IsQuiet (send to r) = (k : ℕ) → status_in k r ≡ 0
IsQuiet (prepare p) = ⊤
IsQuiet (go p) = ⊥
IsQuiet (unlock_all g) = ⊤
IsQuiet (say n) = ⊤
IsQuiet (recover_one id) = ⊤
IsQuiet (fail_one id g) = ⊤
IsQuiet (pass status) = ⊥

quiet_same : (me : Node) (adopts : Bool) (a : Act) (v : Views) → IsQuiet a → AreSame v (act_view me adopts a v)
quiet_same me adopts (send to r) v is k = same_itself (v k)
quiet_same me adopts (prepare p) v is k = same_itself (v k)
quiet_same me adopts (go p) v is k = absurd is
quiet_same me adopts (unlock_all g) v is k = opened_same g (v k)
quiet_same me adopts (say n) v is k = same_itself (v k)
quiet_same me adopts (recover_one id) v is k = same_itself (v k)
quiet_same me adopts (fail_one id g) v is k = same_itself (v k)
quiet_same me adopts (pass status) v is k = absurd is

quiet_silent : (me : Node) (adopts : Bool) (a : Act) (v : Views) (k : ℕ) → IsQuiet a → sent k (act_sends me adopts a v) ≡ 0
quiet_silent me adopts (send to r) v k is = omega (arith, bare_status k r, is k)
quiet_silent me adopts (prepare p) v k is = refl
quiet_silent me adopts (go p) v k is = absurd is
quiet_silent me adopts (unlock_all g) v k is = refl
quiet_silent me adopts (say n) v k is = refl
quiet_silent me adopts (recover_one id) v k is = refl
quiet_silent me adopts (fail_one id g) v k is = refl
quiet_silent me adopts (pass status) v k is = absurd is

-- several
abbrev pub AreQuiet : List (Bool × Act) → Type 0
AreQuiet acts = AllByRecursion (λ (a : Bool × Act). IsQuiet a.1) acts

pub quiets_same : (me : Node) (acts : List (Bool × Act)) (v : Views) → AreQuiet acts → AreSame v (acts_view me acts v)
quiets_same me [] v all k = same_itself (v k)
quiets_same me (a ∷ acts) v all k = same_then (v k) (act_view me a.0 a.1 v k) (acts_view me acts (act_view me a.0 a.1 v) k) (quiet_same me a.0 a.1 v all.0 k) (quiets_same me acts (act_view me a.0 a.1 v) all.1 k)

pub quiets_silent : (me : Node) (acts : List (Bool × Act)) (v : Views) (k : ℕ) → AreQuiet acts → sent k (acts_sends me acts v) ≡ 0
quiets_silent me [] v k all = refl
quiets_silent me (a ∷ acts) v k all =
    sent_append k (act_sends me a.0 a.1 v) (acts_sends me acts (act_view me a.0 a.1 v)) ∙ omega (arith, quiet_silent me a.0 a.1 v k all.0, quiets_silent me acts (act_view me a.0 a.1 v) k all.1)

-- ---- what is done

-- the acts are quiet; or a status transfer is given to an anchor; or, after quiet acts, the plan of the record is carried out
pub data Took (r : Rec) (acts : List Act) : Type 0 where
  took_quietly : (all : AllByRecursion IsQuiet acts) → (unagreed : is_request r ≡ true → (g : ℕ) → list_any (is_agreement g) (said acts) ≡ false) → Took r acts
  took_status : (status : StatusTransfer) → (is : r ≡ rec.Snst status) → (acts_are : acts ≡ pass status ∷ []) → Took r acts
  took_plan : (p : Plan) → (plan : plan_in r ≡ Some p) → (front : List Act) → (all : AllByRecursion IsQuiet front) → (acts_are : acts ≡ front ++ go p ∷ []) → Took r acts

abbrev pub TookBy : Rec → Result SecondActs ProcFault → Type 0
TookBy r (Ok acts) = Took r acts.1
TookBy r (Err why) = ⊤

module _ (s : SecondProc) where
  added_took : (p : Plan) (key : List ℕ) (b : Bool) → Took (rec.Addreq p key) (added s p b).1
  added_took p key true = took_quietly ((λ k. refl), tt) (λ e g. refl)
  added_took p key false = took_plan p refl (say (note.Join s.me p.g) ∷ send M (rec.Addack p.g) ∷ []) (tt, ((λ k. refl), tt)) refl

  addition_took : (p : Plan) (key : List ℕ) (m : Membership) → TookBy (rec.Addreq p key) (addition_asked s p m)
  addition_took p key outside = added_took p key s.denies
  addition_took p key joined = tt
  addition_took p key left = tt

  modified_took : (p : Plan) (key : List ℕ) (b : Bool) → Took (rec.Modreq p key) (modified s p b).1
  modified_took p key true = took_quietly ((λ k. refl), tt) (λ e g. refl)
  modified_took p key false = took_plan p refl (send M (rec.Modack p.g) ∷ []) ((λ k. refl), tt) refl

  modification_took : (p : Plan) (key : List ℕ) (m : Membership) → TookBy (rec.Modreq p key) (modification_asked s p m)
  modification_took p key outside = tt
  modification_took p key joined = modified_took p key (s.denies && not (is_one_drop p.items))
  modification_took p key left = tt

  let_off_took : (p : Plan) (b : Bool) → Took (rec.Relreq p) (let_off s p b).1
  let_off_took p true = took_quietly ((λ k. refl), tt) (λ e g. refl)
  let_off_took p false = took_plan p refl (send M (rec.Relack p.g) ∷ say (note.Leave s.me p.g) ∷ []) ((λ k. refl), (tt, tt)) refl

  release_took : (p : Plan) (m : Membership) → TookBy (rec.Relreq p) (release_asked s p m)
  release_took p outside = tt
  release_took p joined = let_off_took p (s.denies && is_none p.sec)
  release_took p left = tt

  forgotten_took : (g : ℕ) (m : Membership) → TookBy (rec.Uecr g) (forgotten s m)
  forgotten_took g outside = tt
  forgotten_took g joined = tt
  forgotten_took g left = took_quietly tt (λ e g. refl)

  reconfigured_took : (g : ℕ) (m : Membership) → TookBy (rec.Recfg g) (reconfigured s g m)
  reconfigured_took g outside = tt
  reconfigured_took g joined = took_quietly (tt, tt) (λ e g. refl)
  reconfigured_took g left = tt

  key_took : (g : ℕ) (b : Bool) (m : Membership) → TookBy (rec.Modcnf g) (key_confirmed s g b m)
  key_took g true outside = tt
  key_took g true joined = took_quietly (tt, (tt, tt)) (λ e g. refl)
  key_took g true left = tt
  key_took g false m = tt

  refused_took : (r : Rec) (k : RecKind) (w : Word) (b : Bool) → TookBy r (refused_there k s w b)
  refused_took r k w true = took_quietly (tt, tt) (λ e g. refl)
  refused_took r k w false = tt

  leave_took : (r : Rec) (k : RecKind) (p : Plan) (b : Bool) (m : Membership) → plan_in r ≡ Some p → TookBy r (leave_confirmed k s p b m)
  leave_took r k p true outside is = tt
  leave_took r k p true joined is = took_plan p is (say (note.Confirmed s.me) ∷ say (note.Leave s.me p.g) ∷ []) (tt, (tt, tt)) refl
  leave_took r k p true left is = tt
  leave_took r k p false m is = tt

  needless_took : (r : Rec) (b : Bool) → TookBy r (release_needless s b)
  needless_took r true = took_quietly (tt, tt) (λ e g. refl)
  needless_took r false = tt

  confirmed_took : (p : Plan) → TookBy (rec.Relcnf p) (release_confirmed s p)
  confirmed_took p = by (p.g == 0)
    where
      by : (b : Bool) → TookBy (rec.Relcnf p) (if b then release_needless s (is_wanted want.Release s.want) else leave_confirmed kind.Relcnf s p (is_wanted want.Release s.want) s.membership)
      by true = needless_took (rec.Relcnf p) (is_wanted want.Release s.want)
      by false = leave_took (rec.Relcnf p) kind.Relcnf p (is_wanted want.Release s.want) s.membership refl

  status_took : (status : StatusTransfer) (m : Membership) → TookBy (rec.Snst status) (status_passed s status m)
  status_took status outside = tt
  status_took status joined = took_status status refl refl
  status_took status left = tt

  recovery_took : (id : ℕ) (m : Membership) → TookBy (rec.Recov id) (recovery_asked s id m)
  recovery_took id outside = tt
  recovery_took id joined = took_quietly ((λ k. refl), (tt, tt)) (λ e g. refl)
  recovery_took id left = tt

  failure_took : (id g : ℕ) (m : Membership) → TookBy (rec.Scgn id g) (failure_told s id g m)
  failure_took id g outside = tt
  failure_took id g joined = took_quietly (tt, tt) (λ e g. refl)
  failure_took id g left = took_quietly (tt, tt) (λ e g. refl)

  pub took : (r : Rec) → TookBy r (second_take s r)
  took (rec.Addreq p key) = addition_took p key s.membership
  took (rec.Modreq p key) = modification_took p key s.membership
  took (rec.Relreq p) = release_took p s.membership
  took (rec.Uecr g) = forgotten_took g s.membership
  took (rec.Recfg g) = reconfigured_took g s.membership
  took (rec.Modcnf g) = key_took g (is_wanted want.Rekey s.want) s.membership
  took (rec.Modref word) = refused_took (rec.Modref word) kind.Modref word (is_wanted want.Rekey s.want)
  took (rec.Chgcnf p) = leave_took (rec.Chgcnf p) kind.Chgcnf p (is_wanted want.Change s.want) s.membership refl
  took (rec.Chgref word) = refused_took (rec.Chgref word) kind.Chgref word (is_wanted want.Change s.want)
  took (rec.Relcnf p) = confirmed_took p
  took (rec.Snst status) = status_took status s.membership
  took (rec.Recov id) = recovery_took id s.membership
  took (rec.Scgn id g) = failure_took id g s.membership
  took (rec.Reconf p key) = tt
  took (rec.Rcomp g) = tt
  took (rec.Scgf failed) = tt
  took (rec.Recovd id) = tt
  took (rec.Addack g) = tt
  took (rec.Addrej g) = tt
  took (rec.Modack g) = tt
  took (rec.Modrej g) = tt
  took (rec.Relack g) = tt
  took (rec.Relrej g) = tt
  took (rec.Moved g id) = tt
  took rec.Modrqd = tt
  took rec.Chgrqd = tt
  took rec.Relrqd = tt

  -- ---- a command

  asks_quiet : (k : Want) → AllByRecursion IsQuiet (send M (request k) ∷ [])
  asks_quiet want.Rekey = ((λ k. refl), tt)
  asks_quiet want.Change = ((λ k. refl), tt)
  asks_quiet want.Release = ((λ k. refl), tt)

  commands_quiet : (e : Event) → AllByRecursion IsQuiet (second_commands s e).1
  commands_quiet (event.Bearer id n first shape threshold policy) = tt
  commands_quiet (event.Reshape id shape) = tt
  commands_quiet (event.Remove id) = tt
  commands_quiet (event.Add node) = tt
  commands_quiet event.Change = tt
  commands_quiet event.Release = tt
  commands_quiet event.RekeySecond = tt
  commands_quiet (event.RekeyMaster root) = tt
  commands_quiet (event.Recover id) = tt
  commands_quiet (event.Report node id) = tt
  commands_quiet (event.Deny node on) = tt
  commands_quiet (event.Ask node what) = asks_quiet what
  commands_quiet event.ScgFail = tt
  commands_quiet (event.Submit id d payload) = tt
  commands_quiet (event.Step l i) = tt
  commands_quiet (event.Lose l i) = tt
  commands_quiet (event.Again l i) = tt

  abbrev pub OrdersQuiet : Result SecondActs ProcFault → Type 0
  OrdersQuiet (Ok acts) = AllByRecursion IsQuiet acts.1
  OrdersQuiet (Err why) = ⊤

  unless_quiet : (e : Event) (o : Option Refusal) → OrdersQuiet (second_commands_unless s e o)
  unless_quiet e None = commands_quiet e
  unless_quiet e (Some why) = tt

  pub orders_quiet : (e : Event) → OrdersQuiet (second_command s e)
  orders_quiet e = unless_quiet e (first_refusal (second_refusals s e))

  commands_unagreed : (e : Event) (g : ℕ) → list_any (is_agreement g) (said (second_commands s e).1) ≡ false
  commands_unagreed (event.Bearer id n first shape threshold policy) g = refl
  commands_unagreed (event.Reshape id shape) g = refl
  commands_unagreed (event.Remove id) g = refl
  commands_unagreed (event.Add node) g = refl
  commands_unagreed event.Change g = refl
  commands_unagreed event.Release g = refl
  commands_unagreed event.RekeySecond g = refl
  commands_unagreed (event.RekeyMaster root) g = refl
  commands_unagreed (event.Recover id) g = refl
  commands_unagreed (event.Report node id) g = refl
  commands_unagreed (event.Deny node on) g = refl
  commands_unagreed (event.Ask node want.Rekey) g = refl
  commands_unagreed (event.Ask node want.Change) g = refl
  commands_unagreed (event.Ask node want.Release) g = refl
  commands_unagreed event.ScgFail g = refl
  commands_unagreed (event.Submit id d payload) g = refl
  commands_unagreed (event.Step l i) g = refl
  commands_unagreed (event.Lose l i) g = refl
  commands_unagreed (event.Again l i) g = refl

  abbrev pub OrdersUnagreed : Result SecondActs ProcFault → Type 0
  OrdersUnagreed (Ok acts) = (g : ℕ) → list_any (is_agreement g) (said acts.1) ≡ false
  OrdersUnagreed (Err why) = ⊤

  unless_unagreed : (e : Event) (o : Option Refusal) → OrdersUnagreed (second_commands_unless s e o)
  unless_unagreed e None = commands_unagreed e
  unless_unagreed e (Some why) = tt

  -- a command agrees to nothing
  pub orders_unagreed : (e : Event) → OrdersUnagreed (second_command s e)
  orders_unagreed e = unless_unagreed e (first_refusal (second_refusals s e))
