-- What a secondary node sends the master: the answer to a request, the news of a recovery, or what it asks for.
use Rattle.std.proofs.Common.{ℕ, ◌≡◌, ◌==◌, ◌&&◌, Bool, true, false, Option, Some, None, refl}
use Rattle.std.specs.List.{AllByRecursion}
use Rattle.std.specs.Prelude.{Err, Ok, Result, is_none, not, ⊤}
use Rattle.dc_base.specs.declared.answers.Refusal.{Refusal}
use Rattle.dc_base.specs.declared.answers.Word.{Word}
use Rattle.dc_base.specs.declared.events.Event.{Event}
use Rattle.dc_base.specs.declared.events.Event.TheVariants as event
use Rattle.dc_base.specs.declared.nodes.Want.{Want}
use Rattle.dc_base.specs.declared.nodes.Want.TheVariants as want
use Rattle.dc_base.specs.declared.records.Plan.{Plan}
use Rattle.dc_base.specs.declared.records.Rec.{Rec}
use Rattle.dc_base.specs.declared.records.Rec.TheVariants as rec
use Rattle.dc_base.specs.declared.records.RecKind.{RecKind}
use Rattle.dc_base.specs.declared.records.RecKind.TheVariants as kind
use Rattle.dc_base.specs.declared.records.StatusTransfer.{StatusTransfer}
use Rattle.node_rules.specs.Acts.{ProcFault, first_refusal}
use Rattle.node_rules.specs.SecondRecords.{added, addition_asked, failure_told, forgotten, is_one_drop, is_wanted, key_confirmed, leave_confirmed, let_off, modification_asked, modified, reconfigured, recovery_asked, refused_there, release_asked, release_confirmed, release_needless, second_take, status_passed}
use Rattle.node_rules.specs.SecondState.{SecondActs, SecondProc, request, second_command, second_commands, second_commands_unless, second_refusals}
use Rattle.node_rules.specs.declared.commands.Membership.{Membership}
use Rattle.node_rules.specs.declared.commands.Membership.TheVariants.{Joined as joined, Left as left, Outside as outside}
use Rattle.run_control.proofs.Sent.{either}
use Rattle.run_agreed.proofs.PairKeeping.{ActSays}

-- each record that may come of a record is so
abbrev pub MaySay : (Rec → Type 0) → Rec → Type 0
MaySay P (rec.Addreq p key) = P (rec.Addack p.g) × P (rec.Addrej p.g)
MaySay P (rec.Modreq p key) = P (rec.Modack p.g) × (is_one_drop p.items ≡ false → P (rec.Modrej p.g))
MaySay P (rec.Relreq p) = P (rec.Relack p.g) × (is_none p.sec ≡ true → P (rec.Relrej p.g))
MaySay P (rec.Recov id) = P (rec.Recovd id)
MaySay P _ = ⊤

module _ (P : Rec → Type 0) where
  -- so are those that are sent, if it is taken
  abbrev pub Says : Result SecondActs ProcFault → Type 0
  Says (Ok acts) = AllByRecursion (ActSays P) acts.1
  Says (Err why) = ⊤

  added_says : (s : SecondProc) (p : Plan) (b : Bool) → P (rec.Addack p.g) × P (rec.Addrej p.g) → AllByRecursion (ActSays P) (added s p b).1
  added_says s p true may = (may.1, tt)
  added_says s p false may = (tt, (may.0, (tt, tt)))

  addition_says : (s : SecondProc) (p : Plan) (m : Membership) → P (rec.Addack p.g) × P (rec.Addrej p.g) → Says (addition_asked s p m)
  addition_says s p outside may = added_says s p s.denies may
  addition_says s p joined may = tt
  addition_says s p left may = tt

  modified_says : (s : SecondProc) (p : Plan) (d b : Bool) → is_one_drop p.items ≡ b → P (rec.Modack p.g) × (b ≡ false → P (rec.Modrej p.g)) → AllByRecursion (ActSays P) (modified s p (d && not b)).1
  modified_says s p true false same may = (may.1 refl, tt)
  modified_says s p true true same may = (may.0, (tt, tt))
  modified_says s p false b same may = (may.0, (tt, tt))

  modification_says : (s : SecondProc) (p : Plan) (m : Membership) → P (rec.Modack p.g) × (is_one_drop p.items ≡ false → P (rec.Modrej p.g)) → Says (modification_asked s p m)
  modification_says s p outside may = tt
  modification_says s p joined may = modified_says s p s.denies (is_one_drop p.items) refl may
  modification_says s p left may = tt

  let_off_says : (s : SecondProc) (p : Plan) (d b : Bool) → is_none p.sec ≡ b → P (rec.Relack p.g) × (b ≡ true → P (rec.Relrej p.g)) → AllByRecursion (ActSays P) (let_off s p (d && b)).1
  let_off_says s p true true same may = (may.1 refl, tt)
  let_off_says s p true false same may = (may.0, (tt, (tt, tt)))
  let_off_says s p false b same may = (may.0, (tt, (tt, tt)))

  release_says : (s : SecondProc) (p : Plan) (m : Membership) → P (rec.Relack p.g) × (is_none p.sec ≡ true → P (rec.Relrej p.g)) → Says (release_asked s p m)
  release_says s p outside may = tt
  release_says s p joined may = let_off_says s p s.denies (is_none p.sec) refl may
  release_says s p left may = tt

  forgotten_says : (s : SecondProc) (m : Membership) → Says (forgotten s m)
  forgotten_says s outside = tt
  forgotten_says s joined = tt
  forgotten_says s left = tt

  reconfigured_says : (s : SecondProc) (g : ℕ) (m : Membership) → Says (reconfigured s g m)
  reconfigured_says s g outside = tt
  reconfigured_says s g joined = (tt, tt)
  reconfigured_says s g left = tt

  refused_says : (k : RecKind) (s : SecondProc) (w : Word) (b : Bool) → Says (refused_there k s w b)
  refused_says k s w true = (tt, tt)
  refused_says k s w false = tt

  key_says : (s : SecondProc) (g : ℕ) (b : Bool) (m : Membership) → Says (key_confirmed s g b m)
  key_says s g true outside = tt
  key_says s g true joined = (tt, (tt, tt))
  key_says s g true left = tt
  key_says s g false m = tt

  leave_says : (k : RecKind) (s : SecondProc) (p : Plan) (b : Bool) (m : Membership) → Says (leave_confirmed k s p b m)
  leave_says k s p true outside = tt
  leave_says k s p true joined = (tt, (tt, (tt, tt)))
  leave_says k s p true left = tt
  leave_says k s p false m = tt

  needless_says : (s : SecondProc) (b : Bool) → Says (release_needless s b)
  needless_says s true = (tt, tt)
  needless_says s false = tt

  confirmed_says : (s : SecondProc) (p : Plan) → Says (release_confirmed s p)
  confirmed_says s p =
      either Says (p.g == 0) (release_needless s (is_wanted want.Release s.want)) (leave_confirmed kind.Relcnf s p (is_wanted want.Release s.want) s.membership)
      (needless_says s (is_wanted want.Release s.want)) (leave_says kind.Relcnf s p (is_wanted want.Release s.want) s.membership)

  status_says : (s : SecondProc) (st : StatusTransfer) (m : Membership) → Says (status_passed s st m)
  status_says s st outside = tt
  status_says s st joined = (tt, tt)
  status_says s st left = tt

  recovery_says : (s : SecondProc) (id : ℕ) (m : Membership) → P (rec.Recovd id) → Says (recovery_asked s id m)
  recovery_says s id outside may = tt
  recovery_says s id joined may = (may, (tt, tt))
  recovery_says s id left may = tt

  failure_says : (s : SecondProc) (id g : ℕ) (m : Membership) → Says (failure_told s id g m)
  failure_says s id g outside = tt
  failure_says s id g joined = (tt, tt)
  failure_says s id g left = (tt, tt)

  -- by a record
  pub take_says : (s : SecondProc) (r : Rec) → MaySay P r → Says (second_take s r)
  take_says s (rec.Reconf plan key) may = tt
  take_says s (rec.Rcomp g) may = tt
  take_says s (rec.Scgf failed) may = tt
  take_says s (rec.Recov id) may = recovery_says s id s.membership may
  take_says s (rec.Recovd id) may = tt
  take_says s (rec.Addreq plan key) may = addition_says s plan s.membership may
  take_says s (rec.Addack g) may = tt
  take_says s (rec.Addrej g) may = tt
  take_says s (rec.Modreq plan key) may = modification_says s plan s.membership may
  take_says s (rec.Modack g) may = tt
  take_says s (rec.Modrej g) may = tt
  take_says s (rec.Recfg g) may = reconfigured_says s g s.membership
  take_says s (rec.Relreq plan) may = release_says s plan s.membership may
  take_says s (rec.Relack g) may = tt
  take_says s (rec.Relrej g) may = tt
  take_says s (rec.Uecr g) may = forgotten_says s s.membership
  take_says s (rec.Snst status) may = status_says s status s.membership
  take_says s (rec.Moved g id) may = tt
  take_says s (rec.Scgn id g) may = failure_says s id g s.membership
  take_says s rec.Modrqd may = tt
  take_says s (rec.Modcnf g) may = key_says s g (is_wanted want.Rekey s.want) s.membership
  take_says s (rec.Modref word) may = refused_says kind.Modref s word (is_wanted want.Rekey s.want)
  take_says s rec.Chgrqd may = tt
  take_says s (rec.Chgcnf plan) may = leave_says kind.Chgcnf s plan (is_wanted want.Change s.want) s.membership
  take_says s (rec.Chgref word) may = refused_says kind.Chgref s word (is_wanted want.Change s.want)
  take_says s rec.Relrqd may = tt
  take_says s (rec.Relcnf plan) may = confirmed_says s plan

  commands_say : (s : SecondProc) (e : Event) → ((w : Want) → P (request w)) → AllByRecursion (ActSays P) (second_commands s e).1
  commands_say s (event.Bearer id n first shape threshold policy) may = tt
  commands_say s (event.Reshape id shape) may = tt
  commands_say s (event.Remove id) may = tt
  commands_say s (event.Add node) may = tt
  commands_say s event.Change may = tt
  commands_say s event.Release may = tt
  commands_say s event.RekeySecond may = tt
  commands_say s (event.RekeyMaster root) may = tt
  commands_say s (event.Recover id) may = tt
  commands_say s (event.Report node id) may = tt
  commands_say s (event.Deny node on) may = tt
  commands_say s (event.Ask node what) may = (may what, tt)
  commands_say s event.ScgFail may = tt
  commands_say s (event.Submit id d payload) may = tt
  commands_say s (event.Step l i) may = tt
  commands_say s (event.Lose l i) may = tt
  commands_say s (event.Again l i) may = tt

  unless_says : (s : SecondProc) (e : Event) (q : Option Refusal) → ((w : Want) → P (request w)) → Says (second_commands_unless s e q)
  unless_says s e None may = commands_say s e may
  unless_says s e (Some why) may = tt

  -- by a command
  pub order_says : (s : SecondProc) (e : Event) → ((w : Want) → P (request w)) → Says (second_command s e)
  order_says s e may = unless_says s e (first_refusal (second_refusals s e)) may
