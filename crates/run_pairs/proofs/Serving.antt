-- What a secondary node does with a record that has its row: it goes on as is read from the line, and answers.
use Rattle.std.proofs.Common.{ℕ, ◌≡◌, ◌==◌, Bool, true, false, List, [], ◌∷◌, refl, sym, ap, subst}
use Rattle.std.proofs.Common.{◌<◌}
use Rattle.std.specs.Prelude.{Err, Ok, Result, if◌then◌else◌, is_none, not, ◌&&◌, ◌||◌}
use Rattle.std.specs.List.{AllByRecursion, flat_map}
use Rattle.dc_base.specs.Nodes.{is_same_node}
use Rattle.dc_base.specs.declared.answers.Word.{Word}
use Rattle.dc_base.specs.declared.nodes.Node.TheVariants.{M}
use Rattle.dc_base.specs.declared.nodes.Want.TheVariants as want
use Rattle.dc_base.specs.declared.records.Plan.{Plan}
use Rattle.dc_base.specs.declared.records.Rec.{Rec}
use Rattle.dc_base.specs.declared.records.Rec.TheVariants as rec
use Rattle.dc_base.specs.declared.records.RecKind.TheVariants as kind
use Rattle.dc_base.specs.declared.records.StatusTransfer.{StatusTransfer}
use Rattle.node_rules.specs.Acts.{ProcFault}
use Rattle.node_rules.specs.SecondRecords.{added, addition_asked, failure_told, forgotten, is_one_drop, is_wanted, key_confirmed, leave_confirmed, let_off, modification_asked, modified, reconfigured, recovery_asked, refused_there, release_asked, release_confirmed, release_needless, second_take, status_passed}
use Rattle.node_rules.specs.SecondState.{SecondActs, SecondProc, is_joined}
use Rattle.node_rules.specs.declared.acts.Act.{Act}
use Rattle.node_rules.specs.declared.acts.Act.TheVariants.{FailOne as fail_one, Go as go, Pass as pass, Prepare as prepare, RecoverOne as recover_one, Say as say, Send as send, UnlockAll as unlock_all}
use Rattle.node_rules.specs.declared.commands.First.{First}
use Rattle.node_rules.specs.declared.commands.First.TheVariants.{Addition as addition, Modification as modification, Release as release}
use Rattle.node_rules.specs.declared.commands.Membership.{Membership}
use Rattle.node_rules.specs.declared.commands.Membership.TheVariants.{Joined as joined, Left as left, Outside as outside}
use Rattle.run_control.specs.Claims.{IsFirst, agreed_membership}
use Rattle.run_control.specs.Rows.{has_row, is_outside, is_request, membership_after, wanted_after}
use Rattle.run_control.specs.SecondControl.{bare_record}
use Rattle.run_pairs.specs.Bearers.{is_mover}
use Rattle.run_pairs.specs.Fits.{IsPlanBelow}
use Rattle.run_pairs.specs.Pairs.{acknowledge, rejection, words}
use Rattle.run_pairs.proofs.ActKinds.{IsActBelow, IsSaying}
use Rattle.run_pairs.proofs.BearersKept.{IsNoGo}
use Rattle.run_pairs.proofs.BearersServed.{IsCarried, IsNoPass, added_carried, let_off_carried, modified_carried}

-- ---- what acts say to the master

-- an act
abbrev pub said_by : Act → List Rec
said_by (send to r) = if is_same_node M to then bare_record r ∷ [] else []
said_by (prepare p) = []
said_by (go p) = []
said_by (unlock_all g) = []
said_by (say n) = []
said_by (recover_one id) = []
said_by (fail_one id g) = []
said_by (pass status) = []

-- several
abbrev pub said : List Act → List Rec
said acts = flat_map said_by acts

-- the acknowledge of a release by a change; a request is answered otherwise
abbrev pub acknowledged : Rec → List Rec
acknowledged (rec.Relreq plan) = rec.Relack plan.g ∷ []
acknowledged _ = []

-- ---- what is done with a record

-- what becomes of the anchors by a record that is no request: what is held is kept, or a plan by which the node leaves is carried out,
-- or the node forgets the terminal
pub data HoldsOn (s : SecondProc) (r : Rec) (acts : SecondActs) : Type 0 where
  kept_by : (none : AllByRecursion IsNoGo acts.1) → (same : acts.0.membership ≡ s.membership) → HoldsOn s r acts
  moved_by : (mover : is_mover r ≡ true) → (plain : AllByRecursion IsNoPass acts.1) → (below : (n : ℕ) → IsPlanBelow n r → AllByRecursion (IsActBelow n) acts.1)
      → (forgets : is_outside acts.0.membership ≡ true → AllByRecursion IsNoGo acts.1) → HoldsOn s r acts

-- it is taken as it is read; or it is a request, which the node rejects, or agrees to
pub data IsHeardAs (s : SecondProc) (r : Rec) (acts : SecondActs) : Type 0 where
  plainly : (plain : is_request r ≡ false) → (member : acts.0.membership ≡ membership_after r s.membership) → (wanted : acts.0.want ≡ wanted_after r s.want) → (told : words (said acts.1) ≡ acknowledged r)
      → (says : AllByRecursion IsSaying acts.1) → (holds_on : HoldsOn s r acts) → IsHeardAs s r acts
  rejecting : (request : is_request r ≡ true) → (member : acts.0.membership ≡ s.membership) → (wanted : acts.0.want ≡ s.want)
      → (told : (f : First) (p : Plan) → IsFirst f p r → words (said acts.1) ≡ rejection f p.g ∷ []) → (says : AllByRecursion IsSaying acts.1) → (none : AllByRecursion IsNoGo acts.1) → IsHeardAs s r acts
  agreeing : (request : is_request r ≡ true) → (member : (f : First) (p : Plan) → IsFirst f p r → acts.0.membership ≡ agreed_membership f) → (wanted : acts.0.want ≡ s.want)
      → (told : (f : First) (p : Plan) → IsFirst f p r → words (said acts.1) ≡ acknowledge f p.g ∷ []) → (says : AllByRecursion IsSaying acts.1)
      → (carried : (f : First) (p : Plan) → IsFirst f p r → IsCarried s p acts) → (below : (n : ℕ) (f : First) (p : Plan) → IsFirst f p r → p.g < n → AllByRecursion (IsActBelow n) acts.1) → IsHeardAs s r acts

-- it is taken
abbrev pub IsServed : SecondProc → Rec → Result SecondActs ProcFault → Type 0
IsServed s r (Ok acts) = IsHeardAs s r acts
IsServed s r (Err why) = ⊥

-- ---- requests

adds : (s : SecondProc) (plan : Plan) (key : List ℕ) (denies : Bool) → IsHeardAs s (rec.Addreq plan key) (added s plan denies)
adds s plan key true = rejecting refl refl refl told (tt, tt) (tt, tt)
  where
    told : (f : First) (p : Plan) → IsFirst f p (rec.Addreq plan key) → rec.Addrej plan.g ∷ [] ≡ rejection f p.g ∷ []
    told addition p is = ap (λ (q : Plan). rec.Addrej q.g ∷ []) is
    told modification p is = absurd is
    told release p is = absurd is
adds s plan key false = agreeing refl member refl told (tt, (tt, (tt, tt))) carried below
  where
    member : (f : First) (p : Plan) → IsFirst f p (rec.Addreq plan key) → joined ≡ agreed_membership f
    member addition p is = refl
    member modification p is = absurd is
    member release p is = absurd is

    told : (f : First) (p : Plan) → IsFirst f p (rec.Addreq plan key) → rec.Addack plan.g ∷ [] ≡ acknowledge f p.g ∷ []
    told addition p is = ap (λ (q : Plan). rec.Addack q.g ∷ []) is
    told modification p is = absurd is
    told release p is = absurd is

    carried : (f : First) (p : Plan) → IsFirst f p (rec.Addreq plan key) → IsCarried s p (added s plan false)
    carried addition p is = subst (λ (q : Plan). IsCarried s q (added s plan false)) is (added_carried s plan)
    carried modification p is = absurd is
    carried release p is = absurd is

    below : (n : ℕ) (f : First) (p : Plan) → IsFirst f p (rec.Addreq plan key) → p.g < n → AllByRecursion (IsActBelow n) (added s plan false).1
    below n addition p is lt = (tt, (tt, (subst (λ (q : Plan). q.g < n) (sym is) lt, tt)))
    below n modification p is lt = absurd is
    below n release p is lt = absurd is

addition_served : (s : SecondProc) (plan : Plan) (key : List ℕ) (m : Membership) → s.membership ≡ m → has_row m s.want (rec.Addreq plan key) ≡ true → IsServed s (rec.Addreq plan key) (addition_asked s plan m)
addition_served s plan key outside at row = adds s plan key s.denies
addition_served s plan key joined at row = absurd cc
addition_served s plan key left at row = absurd cc

modifies : (s : SecondProc) (plan : Plan) (key : List ℕ) (b : Bool) → s.membership ≡ joined → IsHeardAs s (rec.Modreq plan key) (modified s plan b)
modifies s plan key true at = rejecting refl refl refl told (tt, tt) (tt, tt)
  where
    told : (f : First) (p : Plan) → IsFirst f p (rec.Modreq plan key) → rec.Modrej plan.g ∷ [] ≡ rejection f p.g ∷ []
    told addition p is = absurd is
    told modification p is = ap (λ (q : Plan). rec.Modrej q.g ∷ []) is
    told release p is = absurd is
modifies s plan key false at = agreeing refl member refl told (tt, (tt, tt)) carried below
  where
    member : (f : First) (p : Plan) → IsFirst f p (rec.Modreq plan key) → s.membership ≡ agreed_membership f
    member addition p is = absurd is
    member modification p is = at
    member release p is = absurd is

    told : (f : First) (p : Plan) → IsFirst f p (rec.Modreq plan key) → rec.Modack plan.g ∷ [] ≡ acknowledge f p.g ∷ []
    told addition p is = absurd is
    told modification p is = ap (λ (q : Plan). rec.Modack q.g ∷ []) is
    told release p is = absurd is

    carried : (f : First) (p : Plan) → IsFirst f p (rec.Modreq plan key) → IsCarried s p (modified s plan false)
    carried addition p is = absurd is
    carried modification p is = subst (λ (q : Plan). IsCarried s q (modified s plan false)) is (modified_carried s plan at)
    carried release p is = absurd is

    below : (n : ℕ) (f : First) (p : Plan) → IsFirst f p (rec.Modreq plan key) → p.g < n → AllByRecursion (IsActBelow n) (modified s plan false).1
    below n addition p is lt = absurd is
    below n modification p is lt = (tt, (subst (λ (q : Plan). q.g < n) (sym is) lt, tt))
    below n release p is lt = absurd is

modification_served : (s : SecondProc) (plan : Plan) (key : List ℕ) (m : Membership) → s.membership ≡ m → has_row m s.want (rec.Modreq plan key) ≡ true → IsServed s (rec.Modreq plan key) (modification_asked s plan m)
modification_served s plan key outside at row = absurd cc
modification_served s plan key joined at row = modifies s plan key (s.denies && not (is_one_drop plan.items)) at
modification_served s plan key left at row = absurd cc

-- a request of release, and a release by a change
lets_off : (s : SecondProc) (plan : Plan) (alone denies : Bool) → is_none plan.sec ≡ alone → IsHeardAs s (rec.Relreq plan) (let_off s plan (denies && alone))
lets_off s plan true true is = rejecting is refl refl told (tt, tt) (tt, tt)
  where
    told : (f : First) (p : Plan) → IsFirst f p (rec.Relreq plan) → rec.Relrej plan.g ∷ [] ≡ rejection f p.g ∷ []
    told addition p same = absurd same
    told modification p same = absurd same
    told release p same = ap (λ (q : Plan). rec.Relrej q.g ∷ []) same
lets_off s plan true false is = agreeing is member refl told (tt, (tt, (tt, tt))) carried below
  where
    member : (f : First) (p : Plan) → IsFirst f p (rec.Relreq plan) → left ≡ agreed_membership f
    member addition p same = absurd same
    member modification p same = absurd same
    member release p same = refl

    told : (f : First) (p : Plan) → IsFirst f p (rec.Relreq plan) → rec.Relack plan.g ∷ [] ≡ acknowledge f p.g ∷ []
    told addition p same = absurd same
    told modification p same = absurd same
    told release p same = ap (λ (q : Plan). rec.Relack q.g ∷ []) same

    carried : (f : First) (p : Plan) → IsFirst f p (rec.Relreq plan) → IsCarried s p (let_off s plan false)
    carried addition p is = absurd is
    carried modification p is = absurd is
    carried release p is = subst (λ (q : Plan). IsCarried s q (let_off s plan false)) is (let_off_carried s plan)

    below : (n : ℕ) (f : First) (p : Plan) → IsFirst f p (rec.Relreq plan) → p.g < n → AllByRecursion (IsActBelow n) (let_off s plan false).1
    below n addition p is lt = absurd is
    below n modification p is lt = absurd is
    below n release p is lt = (tt, (tt, (subst (λ (q : Plan). q.g < n) (sym is) lt, tt)))
lets_off s plan false true is = plainly is (ap (λ b. if b then s.membership else left) (sym is)) refl refl (tt, (tt, (tt, tt))) (moved_by refl (tt, (tt, (tt, tt))) (λ n so. (tt, (tt, (so is, tt)))) (λ e. absurd cc))
lets_off s plan false false is = plainly is (ap (λ b. if b then s.membership else left) (sym is)) refl refl (tt, (tt, (tt, tt))) (moved_by refl (tt, (tt, (tt, tt))) (λ n so. (tt, (tt, (so is, tt)))) (λ e. absurd cc))

release_served : (s : SecondProc) (plan : Plan) (m : Membership) → s.membership ≡ m → has_row m s.want (rec.Relreq plan) ≡ true → IsServed s (rec.Relreq plan) (release_asked s plan m)
release_served s plan outside at row = absurd cc
release_served s plan joined at row = lets_off s plan (is_none plan.sec) s.denies refl
release_served s plan left at row = absurd cc

-- ---- others

forgotten_served : (s : SecondProc) (g : ℕ) (m : Membership) → has_row m s.want (rec.Uecr g) ≡ true → IsServed s (rec.Uecr g) (forgotten s m)
forgotten_served s g outside row = absurd cc
forgotten_served s g joined row = absurd cc
forgotten_served s g left row = plainly refl refl refl refl tt (moved_by refl tt (λ n so. tt) (λ e. tt))

complete_served : (s : SecondProc) (g : ℕ) (m : Membership) → has_row m s.want (rec.Recfg g) ≡ true → IsServed s (rec.Recfg g) (reconfigured s g m)
complete_served s g outside row = absurd cc
complete_served s g joined row = plainly refl refl refl refl (tt, tt) (kept_by (tt, tt) refl)
complete_served s g left row = absurd cc

key_served : (s : SecondProc) (g : ℕ) (b : Bool) (m : Membership) → (b && is_joined m) ≡ true → IsServed s (rec.Modcnf g) (key_confirmed s g b m)
key_served s g true outside row = absurd cc
key_served s g true joined row = plainly refl refl refl refl (tt, (tt, tt)) (kept_by (tt, (tt, tt)) refl)
key_served s g true left row = absurd cc
key_served s g false m row = absurd cc

key_refused : (s : SecondProc) (w : Word) (b : Bool) → b ≡ true → IsServed s (rec.Modref w) (refused_there kind.Modref s w b)
key_refused s w true row = plainly refl refl refl refl (tt, tt) (kept_by (tt, tt) refl)
key_refused s w false row = absurd cc

change_refused : (s : SecondProc) (w : Word) (b : Bool) → b ≡ true → IsServed s (rec.Chgref w) (refused_there kind.Chgref s w b)
change_refused s w true row = plainly refl refl refl refl (tt, tt) (kept_by (tt, tt) refl)
change_refused s w false row = absurd cc

change_served : (s : SecondProc) (p : Plan) (b : Bool) (m : Membership) → (b && is_joined m) ≡ true → IsServed s (rec.Chgcnf p) (leave_confirmed kind.Chgcnf s p b m)
change_served s p true outside row = absurd cc
change_served s p true joined row = plainly refl refl refl refl (tt, (tt, (tt, tt))) (moved_by refl (tt, (tt, (tt, tt))) (λ n so. (tt, (tt, (so, tt)))) (λ e. absurd cc))
change_served s p true left row = absurd cc
change_served s p false m row = absurd cc

-- a release that was asked for
leave_served : (s : SecondProc) (p : Plan) (b : Bool) (m : Membership) → (p.g == 0) ≡ false → (b && is_joined m) ≡ true → IsServed s (rec.Relcnf p) (leave_confirmed kind.Relcnf s p b m)
leave_served s p true outside fresh row = absurd cc
leave_served s p true joined fresh row = plainly refl (ap (λ b. if b then s.membership else left) (sym fresh)) refl refl (tt, (tt, (tt, tt))) (moved_by (ap not fresh) (tt, (tt, (tt, tt))) (λ n so. (tt, (tt, (so, tt)))) (λ e. absurd cc))
leave_served s p true left fresh row = absurd cc
leave_served s p false m fresh row = absurd cc

needless_served : (s : SecondProc) (p : Plan) (b : Bool) → (p.g == 0) ≡ true → (b && true) ≡ true → IsServed s (rec.Relcnf p) (release_needless s b)
needless_served s p true zero' row = plainly refl (ap (λ b. if b then s.membership else left) (sym zero')) refl refl (tt, tt) (kept_by (tt, tt) refl)
needless_served s p false zero' row = absurd cc

confirmed_served : (s : SecondProc) (p : Plan) → has_row s.membership s.want (rec.Relcnf p) ≡ true → IsServed s (rec.Relcnf p) (release_confirmed s p)
confirmed_served s p row = by (p.g == 0) refl row
  where
    by : (b : Bool) → (p.g == 0) ≡ b → (is_wanted want.Release s.want && (b || is_joined s.membership)) ≡ true
        → IsServed s (rec.Relcnf p) (if b then release_needless s (is_wanted want.Release s.want) else leave_confirmed kind.Relcnf s p (is_wanted want.Release s.want) s.membership)
    by true zero' is = needless_served s p (is_wanted want.Release s.want) zero' is
    by false fresh is = leave_served s p (is_wanted want.Release s.want) s.membership fresh is

status_served : (s : SecondProc) (status : StatusTransfer) (m : Membership) → has_row m s.want (rec.Snst status) ≡ true → IsServed s (rec.Snst status) (status_passed s status m)
status_served s status outside row = absurd cc
status_served s status joined row = plainly refl refl refl refl (tt, tt) (kept_by (tt, tt) refl)
status_served s status left row = absurd cc

recovery_served : (s : SecondProc) (id : ℕ) (m : Membership) → has_row m s.want (rec.Recov id) ≡ true → IsServed s (rec.Recov id) (recovery_asked s id m)
recovery_served s id outside row = absurd cc
recovery_served s id joined row = plainly refl refl refl refl (tt, (tt, tt)) (kept_by (tt, (tt, tt)) refl)
recovery_served s id left row = absurd cc

failure_served : (s : SecondProc) (id g : ℕ) (m : Membership) → has_row m s.want (rec.Scgn id g) ≡ true → IsServed s (rec.Scgn id g) (failure_told s id g m)
failure_served s id g outside row = absurd cc
failure_served s id g joined row = plainly refl refl refl refl (tt, tt) (kept_by (tt, tt) refl)
failure_served s id g left row = plainly refl refl refl refl (tt, tt) (kept_by (tt, tt) refl)

-- ---- any record

pub served : (s : SecondProc) (r : Rec) → has_row s.membership s.want r ≡ true → IsServed s r (second_take s r)
served s (rec.Reconf plan key) row = absurd cc
served s (rec.Rcomp g) row = absurd cc
served s (rec.Scgf failed) row = absurd cc
served s (rec.Recov id) row = recovery_served s id s.membership row
served s (rec.Recovd id) row = absurd cc
served s (rec.Addreq plan key) row = addition_served s plan key s.membership refl row
served s (rec.Addack g) row = absurd cc
served s (rec.Addrej g) row = absurd cc
served s (rec.Modreq plan key) row = modification_served s plan key s.membership refl row
served s (rec.Modack g) row = absurd cc
served s (rec.Modrej g) row = absurd cc
served s (rec.Recfg g) row = complete_served s g s.membership row
served s (rec.Relreq plan) row = release_served s plan s.membership refl row
served s (rec.Relack g) row = absurd cc
served s (rec.Relrej g) row = absurd cc
served s (rec.Uecr g) row = forgotten_served s g s.membership row
served s (rec.Snst status) row = status_served s status s.membership row
served s (rec.Moved g id) row = absurd cc
served s (rec.Scgn id g) row = failure_served s id g s.membership row
served s rec.Modrqd row = absurd cc
served s (rec.Modcnf g) row = key_served s g (is_wanted want.Rekey s.want) s.membership row
served s (rec.Modref word) row = key_refused s word (is_wanted want.Rekey s.want) row
served s rec.Chgrqd row = absurd cc
served s (rec.Chgcnf plan) row = change_served s plan (is_wanted want.Change s.want) s.membership row
served s (rec.Chgref word) row = change_refused s word (is_wanted want.Change s.want) row
served s rec.Relrqd row = absurd cc
served s (rec.Relcnf plan) row = confirmed_served s plan row
