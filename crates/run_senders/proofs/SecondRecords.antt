-- The records that a secondary node sends are between the ends that they have.
use Rattle.std.proofs.Common.{ℕ, ◌≡◌, ◌==◌, Bool, true, false, List, [], ◌∷◌, Option, Some, None, refl, inl, inr}
use Rattle.std.specs.Prelude.{Ok, Err, Result, is_none, not, ◌&&◌, ⊤}
use Rattle.std.specs.List.{AllByRecursion}
use Rattle.std.proofs.lemmas.Bool.{cases_Bool}
use Rattle.dc_base.specs.declared.events.Event.{Event}
use Rattle.dc_base.specs.declared.events.Event.TheVariants as event
use Rattle.dc_base.specs.declared.nodes.Class.TheVariants.{Ctl}
use Rattle.dc_base.specs.declared.nodes.Node.{Node}
use Rattle.dc_base.specs.declared.records.Item.{Item}
use Rattle.dc_base.specs.declared.records.Plan.{Plan}
use Rattle.dc_base.specs.declared.records.Rec.{Rec}
use Rattle.dc_base.specs.declared.records.Rec.TheVariants as rec
use Rattle.transcript.proofs.OnEach.{each_append}
use Rattle.node_rules.specs.Choices.{Send}
use Rattle.node_rules.specs.declared.inputs.Effects.{Effects}
use Rattle.node_rules.specs.declared.inputs.Input.{Input}
use Rattle.dc_base.specs.declared.answers.Refusal.{Refusal}
use Rattle.dc_base.specs.declared.records.RecKind.{RecKind}
use Rattle.dc_base.specs.declared.records.RecKind.TheVariants as kind
use Rattle.dc_base.specs.declared.answers.Word.{Word}
use Rattle.dc_base.specs.declared.records.StatusTransfer.{StatusTransfer}
use Rattle.dc_base.specs.declared.nodes.Want.{Want}
use Rattle.dc_base.specs.declared.nodes.Want.TheVariants as want
use Rattle.dc_base.specs.Records.{item_id}
use Rattle.node_rules.specs.declared.acts.Act.{Act}
use Rattle.node_rules.specs.declared.acts.Act.TheVariants.{FailOne as fail_one, Go as go, Pass as pass, Prepare as prepare, RecoverOne as recover_one, Say as say, Send as send, UnlockAll as unlock_all}
use Rattle.node_rules.specs.declared.commands.Membership.{Membership}
use Rattle.node_rules.specs.declared.commands.Membership.TheVariants.{Joined as joined, Left as left, Outside as outside}
use Rattle.node_rules.specs.Acts.{ProcFault, first_refusal}
use Rattle.node_rules.specs.Parts.{part_at}
use Rattle.node_rules.specs.declared.parts.Part.{Part}
use Rattle.node_rules.specs.declared.parts.Part.TheVariants.{Establishes as establishes, Renews as renews, Awaits as awaits, HandsOver as hands_over, Drops as drops, HasNoAnchor as has_no_anchor}
use Rattle.node_rules.specs.SecondRecords.{added, addition_asked, failure_told, forgotten, is_one_drop, is_wanted, key_confirmed, leave_confirmed, let_off, modification_asked, modified, reconfigured, recovery_asked, refused_there, release_asked, release_confirmed, release_needless, second_take, status_passed}
use Rattle.node_rules.specs.SecondState.{SecondActs, SecondProc, second_commands, second_commands_unless, second_refusals}
use Rattle.node_rules.specs.Secondary.{SecondNode, name_of}
use Rattle.std.specs.Prelude.{map}
use Rattle.std.proofs.Common.{sym, ap, subst, ◌∙◌}
use Rattle.dc_base.specs.Links.{link}
use Rattle.dc_base.specs.Nodes.{is_secondary}
use Rattle.dc_base.specs.declared.nodes.Node.TheVariants.{M}
use Rattle.claims.specs.OnLink.{record_fits}
use Rattle.node_rules.specs.Effects.{quiet}
use Rattle.run_control.specs.SecondControl.{SecondProjects, Views, act_sends, act_view, acts_sends, heard, moved, not_ordered, no_row, ordered, part_sends, record_to, records_sent, sent_by_items, tells, tells_at, unfit, views_within, with_item}
use Rattle.run_control.specs.Steps.{SecondStepped, second_by_command, second_by_nothing, second_by_record, second_by_traffic}
use Rattle.run_control.specs.Traffic.{second_adopts, second_keeps}
use Rattle.run_control.specs.Views.{Stage, View, has_status, holds, is_awaited, lacks_status, second_view}
use Rattle.run_control.proofs.EventTurns.{TakesBusy, second_busy, unless_busy}
use Rattle.run_control.proofs.Sent.{either}
use Rattle.run_control.proofs.Sequences.{no_records}
use Rattle.run_control.specs.SecondControl.{bare_flight}
use Rattle.run_senders.specs.Fitting.{IsFitting}
use Rattle.run_senders.proofs.Records.{bare_fits}

-- an act of this node sends no record that does not fit its link
abbrev FitsFrom : Node → Act → Type 0
FitsFrom x (send to r) = record_fits (link x to Ctl) r ≡ true
FitsFrom x (prepare p) = ⊤
FitsFrom x (go p) = ⊤
FitsFrom x (unlock_all g) = ⊤
FitsFrom x (say n) = ⊤
FitsFrom x (recover_one id) = ⊤
FitsFrom x (fail_one id g) = ⊤
FitsFrom x (pass st) = ⊤

-- of what its procedures answer
abbrev TakeFits : Node → Result SecondActs ProcFault → Type 0
TakeFits x (Ok r) = AllByRecursion (FitsFrom x) r.1
TakeFits x (Err why) = ⊤

module _ (x : Node) (second : is_secondary x ≡ true) (s : SecondProc) where
  added_fits : (p : Plan) (rejects : Bool) → AllByRecursion (FitsFrom x) (added s p rejects).1
  added_fits p true = (second, tt)
  added_fits p false = (tt, (second, (tt, tt)))

  addition_fits : (p : Plan) (m : Membership) → TakeFits x (addition_asked s p m)
  addition_fits p outside = added_fits p s.denies
  addition_fits p joined = tt
  addition_fits p left = tt

  modified_fits : (p : Plan) (rejects : Bool) → AllByRecursion (FitsFrom x) (modified s p rejects).1
  modified_fits p true = (second, tt)
  modified_fits p false = (second, (tt, tt))

  modification_fits : (p : Plan) (m : Membership) → TakeFits x (modification_asked s p m)
  modification_fits p outside = tt
  modification_fits p joined = modified_fits p (s.denies && not (is_one_drop p.items))
  modification_fits p left = tt

  let_off_fits : (p : Plan) (rejects : Bool) → AllByRecursion (FitsFrom x) (let_off s p rejects).1
  let_off_fits p true = (second, tt)
  let_off_fits p false = (second, (tt, (tt, tt)))

  release_fits : (p : Plan) (m : Membership) → TakeFits x (release_asked s p m)
  release_fits p outside = tt
  release_fits p joined = let_off_fits p (s.denies && is_none p.sec)
  release_fits p left = tt

  forgotten_fits : (m : Membership) → TakeFits x (forgotten s m)
  forgotten_fits outside = tt
  forgotten_fits joined = tt
  forgotten_fits left = tt

  refused_fits : (k : RecKind) (w : Word) (wanted : Bool) → TakeFits x (refused_there k s w wanted)
  refused_fits k w true = (tt, tt)
  refused_fits k w false = tt

  key_fits : (g : ℕ) (wanted : Bool) (m : Membership) → TakeFits x (key_confirmed s g wanted m)
  key_fits g true outside = tt
  key_fits g true joined = (tt, (tt, tt))
  key_fits g true left = tt
  key_fits g false outside = tt
  key_fits g false joined = tt
  key_fits g false left = tt

  leave_fits : (k : RecKind) (p : Plan) (wanted : Bool) (m : Membership) → TakeFits x (leave_confirmed k s p wanted m)
  leave_fits k p true outside = tt
  leave_fits k p true joined = (tt, (tt, (tt, tt)))
  leave_fits k p true left = tt
  leave_fits k p false outside = tt
  leave_fits k p false joined = tt
  leave_fits k p false left = tt

  needless_fits : (wanted : Bool) → TakeFits x (release_needless s wanted)
  needless_fits true = (tt, tt)
  needless_fits false = tt

  release_confirmed_fits : (p : Plan) → TakeFits x (release_confirmed s p)
  release_confirmed_fits p =
      elim (cases_Bool (p.g == 0)) [
        | inl idle ↦ rw idle (needless_fits (is_wanted want.Release s.want))
        | inr plan ↦ rw plan (leave_fits kind.Relcnf p (is_wanted want.Release s.want) s.membership)
      ]

  reconfigured_fits : (g : ℕ) (m : Membership) → TakeFits x (reconfigured s g m)
  reconfigured_fits g outside = tt
  reconfigured_fits g joined = (tt, tt)
  reconfigured_fits g left = tt

  status_fits : (st : StatusTransfer) (m : Membership) → TakeFits x (status_passed s st m)
  status_fits st outside = tt
  status_fits st joined = (tt, tt)
  status_fits st left = tt

  recovery_fits : (id : ℕ) (m : Membership) → TakeFits x (recovery_asked s id m)
  recovery_fits id outside = tt
  recovery_fits id joined = (refl, (tt, tt))
  recovery_fits id left = tt

  failure_fits : (id g : ℕ) (m : Membership) → TakeFits x (failure_told s id g m)
  failure_fits id g outside = tt
  failure_fits id g joined = (tt, tt)
  failure_fits id g left = (tt, tt)

  pub take_fits : (r : Rec) → TakeFits x (second_take s r)
  take_fits (rec.Addreq plan key) = addition_fits plan s.membership
  take_fits (rec.Modreq plan key) = modification_fits plan s.membership
  take_fits (rec.Relreq plan) = release_fits plan s.membership
  take_fits (rec.Uecr g) = forgotten_fits s.membership
  take_fits (rec.Recfg g) = reconfigured_fits g s.membership
  take_fits (rec.Modcnf g) = key_fits g (is_wanted want.Rekey s.want) s.membership
  take_fits (rec.Modref word) = refused_fits kind.Modref word (is_wanted want.Rekey s.want)
  take_fits (rec.Chgcnf plan) = leave_fits kind.Chgcnf plan (is_wanted want.Change s.want) s.membership
  take_fits (rec.Chgref word) = refused_fits kind.Chgref word (is_wanted want.Change s.want)
  take_fits (rec.Relcnf plan) = release_confirmed_fits plan
  take_fits (rec.Snst status) = status_fits status s.membership
  take_fits (rec.Recov id) = recovery_fits id s.membership
  take_fits (rec.Scgn id g) = failure_fits id g s.membership
  take_fits (rec.Reconf plan key) = tt
  take_fits (rec.Rcomp g) = tt
  take_fits (rec.Scgf failed) = tt
  take_fits (rec.Recovd id) = tt
  take_fits (rec.Addack g) = tt
  take_fits (rec.Addrej g) = tt
  take_fits (rec.Modack g) = tt
  take_fits (rec.Modrej g) = tt
  take_fits (rec.Relack g) = tt
  take_fits (rec.Relrej g) = tt
  take_fits (rec.Moved g id) = tt
  take_fits rec.Modrqd = tt
  take_fits rec.Chgrqd = tt
  take_fits rec.Relrqd = tt

  -- commands of its own
  asks_fits : (node : Node) (what : Want) → AllByRecursion (FitsFrom x) (second_commands s (event.Ask node what)).1
  asks_fits node want.Rekey = (second, tt)
  asks_fits node want.Change = (second, tt)
  asks_fits node want.Release = (second, tt)

  commands_fits : (e : Event) → AllByRecursion (FitsFrom x) (second_commands s e).1
  commands_fits (event.Ask node what) = asks_fits node what
  commands_fits (event.Report node id) = tt
  commands_fits (event.Deny node on) = tt
  commands_fits (event.Bearer id n first shape threshold policy) = tt
  commands_fits (event.Reshape id shape) = tt
  commands_fits (event.Remove id) = tt
  commands_fits (event.Add node) = tt
  commands_fits event.Change = tt
  commands_fits event.Release = tt
  commands_fits event.RekeySecond = tt
  commands_fits (event.RekeyMaster root) = tt
  commands_fits (event.Recover id) = tt
  commands_fits event.ScgFail = tt
  commands_fits (event.Submit id d payload) = tt
  commands_fits (event.Step l i) = tt
  commands_fits (event.Lose l i) = tt
  commands_fits (event.Again l i) = tt

  unless_fits : (e : Event) (o : Option Refusal) → TakeFits x (second_commands_unless s e o)
  unless_fits e None = commands_fits e
  unless_fits e (Some why) = tt

-- ---- what is sent

abbrev AreFitting : List Send → Type 0
AreFitting ss = AllByRecursion IsFitting ss

module _ (x : Node) (second : is_secondary x ≡ true) where
  by_telling_at : (k : Stage) (g : ℕ) (v : View) → AreFitting (tells_at k (link x M Ctl) g v)
  by_telling_at holds g v = (rw second refl, tt)
  by_telling_at lacks_status g v = tt
  by_telling_at has_status g v = tt

  by_telling : (g : ℕ) (o : Option View) → AreFitting (tells (link x M Ctl) g o)
  by_telling g None = tt
  by_telling g (Some v) = by_telling_at v.stage g v

  by_part : (g : ℕ) (part : Part) (o : Option View) → AreFitting (part_sends x g part o)
  by_part g establishes o = tt
  by_part g renews o = tt
  by_part g awaits o = tt
  by_part g (hands_over to) o = by_telling g o
  by_part g drops o = tt
  by_part g has_no_anchor o = tt

  by_items : (p : Plan) (is : List Item) (v : Views) → AreFitting (sent_by_items x p is v)
  by_items p [] v = tt
  by_items p (i ∷ is) v =
      each_append IsFitting (part_sends x p.g (part_at x p.sec i) (v (item_id i))) (sent_by_items x p is (with_item x p i v)) (by_part p.g (part_at x p.sec i) (v (item_id i))) (by_items p is (with_item x p i v))

  by_moved : (status : StatusTransfer) (adopts : Bool) (o : Option View) → AreFitting (moved x status adopts o)
  by_moved status adopts None = tt
  by_moved status adopts (Some v) = either AreFitting (is_awaited status v && adopts) (record_to x M (rec.Moved v.bearer.g status.id) ∷ []) [] (second, tt) tt

  by_act : (adopts : Bool) (a : Act) (v : Views) → FitsFrom x a → AreFitting (act_sends x adopts a v)
  by_act adopts (send to r) v fits = (bare_fits (link x to Ctl) r fits, tt)
  by_act adopts (prepare p) v fits = tt
  by_act adopts (go p) v fits = by_items p p.items v
  by_act adopts (unlock_all g) v fits = tt
  by_act adopts (say n) v fits = tt
  by_act adopts (recover_one id) v fits = tt
  by_act adopts (fail_one id g) v fits = tt
  by_act adopts (pass status) v fits = by_moved status adopts (v status.id)

  by_acts : (acts : List (Bool × Act)) (v : Views) → AllByRecursion (FitsFrom x) (map (λ (a : Bool × Act). a.1) acts) → AreFitting (acts_sends x acts v)
  by_acts [] v fits = tt
  by_acts (a ∷ acts) v fits = each_append IsFitting (act_sends x a.0 a.1 v) (acts_sends x acts (act_view x a.0 a.1 v)) (by_act a.0 a.1 v fits.0) (by_acts acts (act_view x a.0 a.1 v) fits.1)

  -- by what was sent
  as_sent : (xs ys : List Send) → xs ≡ ys → AreFitting ys → AreFitting xs
  as_sent xs ys same all = subst AreFitting (sym same) all

  by_projects : (s : SecondNode) (acts : SecondActs) (done : SecondNode × Effects) → name_of s ≡ x → TakesBusy s.proc (Ok acts) → TakeFits x (Ok acts) → SecondProjects s acts done → AreFitting (records_sent done.1.sends)
  by_projects s acts done named busy fits is =
      let v = views_within acts.0.membership (second_view s) in
      as_sent (records_sent done.1.sends) (acts_sends x is.chosen v) (is.told ∙ ap (λ me. acts_sends me is.chosen v) (busy.0 ∙ named))
      (by_acts is.chosen v (subst (λ zs. AllByRecursion (FitsFrom x) zs) (sym is.all) fits))

  by_nothing : (s : SecondNode) (done : SecondNode × Effects) → done ≡ (s, quiet) → AreFitting (records_sent done.1.sends)
  by_nothing s done is = subst (λ (d : SecondNode × Effects). AreFitting (records_sent d.1.sends)) (sym is) tt

  pub second_fits : (s : SecondNode) (i : Input) (done : SecondNode × Effects) → name_of s ≡ x → SecondStepped s i done → AreFitting (records_sent done.1.sends)
  second_fits s i done named (second_by_traffic (second_keeps proc views sends ascends)) = as_sent (records_sent done.1.sends) [] (no_records done.1.sends sends) tt
  second_fits s i done named (second_by_traffic (second_adopts id v at had proc views sends ascends)) =
      as_sent (records_sent done.1.sends) (record_to x M (rec.Moved v.bearer.g id) ∷ [])
      (ap (λ (zs : List Send). map (λ (z : Send). (z.0, bare_flight z.1)) zs) sends ∙ ap (λ me. record_to me M (rec.Moved v.bearer.g id) ∷ []) named) (second, tt)
  second_fits s i done named (second_by_record r came_in (heard acts fit taken is)) =
      by_projects s acts done named (subst (TakesBusy s.proc) taken (second_busy s.proc r)) (subst (TakeFits x) taken (take_fits x second s.proc r)) is
  second_fits s i done named (second_by_record r came_in (unfit fit is)) = by_nothing s done is
  second_fits s i done named (second_by_record r came_in (no_row why taken is)) = by_nothing s done is
  second_fits s i done named (second_by_command e came_in (ordered acts taken is)) =
      let o = first_refusal (second_refusals s.proc e) in
      by_projects s acts done named (subst (TakesBusy s.proc) taken (unless_busy s.proc e o)) (subst (TakeFits x) taken (unless_fits x second s.proc e o)) is
  second_fits s i done named (second_by_command e came_in (not_ordered why refused is)) = by_nothing s done is
  second_fits s i done named (second_by_nothing is) = by_nothing s done is
