-- What a secondary node does keeps what its procedures hold in line with what it notes of itself.
use Rattle.std.proofs.Common.{ℕ, ◌≡◌, ◌==◌, ◌++◌, Bool, true, false, List, [], ◌∷◌, Option, Some, None, refl, sym, ap, subst, ◌∙◌, inl, inr}
use Rattle.std.specs.Prelude.{Err, Ok, Result, fold, is_none, not, ◌&&◌, ◌||◌, ⊤}
use Rattle.std.specs.List.{AllByRecursion, list_any}
use Rattle.std.proofs.lemmas.Bool.{cases_Bool}
use Rattle.dc_base.specs.declared.answers.Word.{Word}
use Rattle.dc_base.specs.declared.events.Note.{Note}
use Rattle.dc_base.specs.declared.events.Note.TheVariants as note
use Rattle.dc_base.specs.declared.nodes.Node.{Node}
use Rattle.dc_base.specs.declared.nodes.Want.TheVariants as want
use Rattle.dc_base.specs.declared.records.Plan.{Plan}
use Rattle.dc_base.specs.declared.records.Rec.{Rec}
use Rattle.dc_base.specs.declared.records.Rec.TheVariants as rec
use Rattle.dc_base.specs.declared.records.RecKind.{RecKind}
use Rattle.dc_base.specs.declared.records.RecKind.TheVariants as kind
use Rattle.dc_base.specs.declared.records.StatusTransfer.{StatusTransfer}
use Rattle.transcript.proofs.OnEach.{each_append}
use Rattle.node_rules.specs.Acts.{ProcFault}
use Rattle.node_rules.specs.SecondRecords.{added, addition_asked, failure_told, forgotten, is_one_drop, is_wanted, key_confirmed, leave_confirmed, let_off, modification_asked, modified, reconfigured, recovery_asked, refused_there, release_asked, release_confirmed, release_needless, second_take, status_passed}
use Rattle.node_rules.specs.SecondState.{SecondActs, SecondProc}
use Rattle.node_rules.specs.declared.commands.Membership.{Membership}
use Rattle.node_rules.specs.declared.commands.Membership.TheVariants.{Joined as joined, Left as left, Outside as outside}
use Rattle.run_seconds.specs.Own.{IsOwn, own, said}
use Rattle.run_seconds.specs.Sides.{Side, held_by}

-- ---- what the procedures answer to a record

-- what they have the node say is of itself, and says what they hold next
pub record Says (s : SecondProc) (r : SecondActs) : Type 0 where
  pub me : r.0.me ≡ s.me
  pub side : fold own (held_by s) (said r.1) ≡ held_by r.0
  pub own : AllByRecursion (IsOwn s.me) (said r.1)

-- if they take it
abbrev pub SaysIf : SecondProc → Result SecondActs ProcFault → Type 0
SaysIf s (Ok r) = Says s r
SaysIf s (Err why) = ⊤

module _ (s : SecondProc) where
  added_says : (p : Plan) (rejects : Bool) → Says s (added s p rejects)
  added_says p true = record { me = refl; side = refl; own = tt }
  added_says p false = record { me = refl; side = refl; own = ((refl, refl), tt) }

  addition_says : (p : Plan) (m : Membership) → SaysIf s (addition_asked s p m)
  addition_says p outside = added_says p s.denies
  addition_says p joined = tt
  addition_says p left = tt

  modified_says : (p : Plan) (rejects : Bool) → Says s (modified s p rejects)
  modified_says p true = record { me = refl; side = refl; own = tt }
  modified_says p false = record { me = refl; side = refl; own = tt }

  modification_says : (p : Plan) (m : Membership) → SaysIf s (modification_asked s p m)
  modification_says p outside = tt
  modification_says p joined = modified_says p (s.denies && not (is_one_drop p.items))
  modification_says p left = tt

  let_off_says : (p : Plan) (rejects : Bool) → Says s (let_off s p rejects)
  let_off_says p true = record { me = refl; side = refl; own = tt }
  let_off_says p false = record { me = refl; side = refl; own = ((refl, refl), tt) }

  release_says : (p : Plan) (m : Membership) → SaysIf s (release_asked s p m)
  release_says p outside = tt
  release_says p joined = let_off_says p (s.denies && is_none p.sec)
  release_says p left = tt

  forgotten_says : (m : Membership) → s.membership ≡ m → SaysIf s (forgotten s m)
  forgotten_says outside is = tt
  forgotten_says joined is = tt
  forgotten_says left is = record { me = refl; side = ap (λ k. held_by (record s { membership = k })) is; own = tt }

  refused_says : (k : RecKind) (w : Word) (wanted : Bool) → SaysIf s (refused_there k s w wanted)
  refused_says k w true = record { me = refl; side = refl; own = ((refl, refl), tt) }
  refused_says k w false = tt

  key_says : (g : ℕ) (wanted : Bool) (m : Membership) → SaysIf s (key_confirmed s g wanted m)
  key_says g true outside = tt
  key_says g true joined = record { me = refl; side = refl; own = ((refl, refl), tt) }
  key_says g true left = tt
  key_says g false outside = tt
  key_says g false joined = tt
  key_says g false left = tt

  leave_says : (k : RecKind) (p : Plan) (wanted : Bool) (m : Membership) → SaysIf s (leave_confirmed k s p wanted m)
  leave_says k p true outside = tt
  leave_says k p true joined = record { me = refl; side = refl; own = ((refl, refl), ((refl, refl), tt)) }
  leave_says k p true left = tt
  leave_says k p false outside = tt
  leave_says k p false joined = tt
  leave_says k p false left = tt

  needless_says : (wanted : Bool) → SaysIf s (release_needless s wanted)
  needless_says true = record { me = refl; side = refl; own = ((refl, refl), tt) }
  needless_says false = tt

  release_confirmed_says : (p : Plan) → SaysIf s (release_confirmed s p)
  release_confirmed_says p =
      elim (cases_Bool (p.g == 0)) [
        | inl idle ↦ rw idle (needless_says (is_wanted want.Release s.want))
        | inr plan ↦ rw plan (leave_says kind.Relcnf p (is_wanted want.Release s.want) s.membership)
      ]

  reconfigured_says : (g : ℕ) (m : Membership) → SaysIf s (reconfigured s g m)
  reconfigured_says g outside = tt
  reconfigured_says g joined = record { me = refl; side = refl; own = tt }
  reconfigured_says g left = tt

  status_says : (st : StatusTransfer) (m : Membership) → SaysIf s (status_passed s st m)
  status_says st outside = tt
  status_says st joined = record { me = refl; side = refl; own = tt }
  status_says st left = tt

  recovery_says : (id : ℕ) (m : Membership) → SaysIf s (recovery_asked s id m)
  recovery_says id outside = tt
  recovery_says id joined = record { me = refl; side = refl; own = tt }
  recovery_says id left = tt

  failure_says : (id g : ℕ) (m : Membership) → SaysIf s (failure_told s id g m)
  failure_says id g outside = tt
  failure_says id g joined = record { me = refl; side = refl; own = tt }
  failure_says id g left = record { me = refl; side = refl; own = tt }

  -- of any record
  pub take_says : (r : Rec) → SaysIf s (second_take s r)
  take_says (rec.Addreq plan key) = addition_says plan s.membership
  take_says (rec.Modreq plan key) = modification_says plan s.membership
  take_says (rec.Relreq plan) = release_says plan s.membership
  take_says (rec.Uecr g) = forgotten_says s.membership refl
  take_says (rec.Recfg g) = reconfigured_says g s.membership
  take_says (rec.Modcnf g) = key_says g (is_wanted want.Rekey s.want) s.membership
  take_says (rec.Modref word) = refused_says kind.Modref word (is_wanted want.Rekey s.want)
  take_says (rec.Chgcnf plan) = leave_says kind.Chgcnf plan (is_wanted want.Change s.want) s.membership
  take_says (rec.Chgref word) = refused_says kind.Chgref word (is_wanted want.Change s.want)
  take_says (rec.Relcnf plan) = release_confirmed_says plan
  take_says (rec.Snst status) = status_says status s.membership
  take_says (rec.Recov id) = recovery_says id s.membership
  take_says (rec.Scgn id g) = failure_says id g s.membership
  take_says (rec.Reconf plan key) = tt
  take_says (rec.Rcomp g) = tt
  take_says (rec.Scgf failed) = tt
  take_says (rec.Recovd id) = tt
  take_says (rec.Addack g) = tt
  take_says (rec.Addrej g) = tt
  take_says (rec.Modack g) = tt
  take_says (rec.Modrej g) = tt
  take_says (rec.Relack g) = tt
  take_says (rec.Relrej g) = tt
  take_says (rec.Moved g id) = tt
  take_says rec.Modrqd = tt
  take_says rec.Chgrqd = tt
  take_says rec.Relrqd = tt
