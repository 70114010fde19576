-- A secondary node takes each record that has its row, and comes to the membership and the want that follow; a line that is read
-- from its front is read on.
use Rattle.std.proofs.Common.{ℕ, ◌≡◌, ◌==◌, ◌++◌, Bool, true, false, List, [], ◌∷◌, Option, None, refl, sym, ap, subst, ◌∙◌}
use Rattle.std.specs.Prelude.{Ok, Result, if◌then◌else◌, is_none, not, ◌&&◌, ◌||◌}
use Rattle.dc_base.specs.declared.answers.Word.{Word}
use Rattle.dc_base.specs.declared.events.Note.TheVariants as note
use Rattle.dc_base.specs.declared.nodes.Node.TheVariants.{M}
use Rattle.dc_base.specs.declared.nodes.Want.{Want}
use Rattle.dc_base.specs.declared.nodes.Want.TheVariants as want
use Rattle.dc_base.specs.declared.records.Plan.{Plan}
use Rattle.dc_base.specs.declared.records.Rec.{Rec}
use Rattle.dc_base.specs.declared.records.Rec.TheVariants as rec
use Rattle.dc_base.specs.declared.records.RecKind.{RecKind}
use Rattle.dc_base.specs.declared.records.RecKind.TheVariants as kind
use Rattle.dc_base.specs.declared.records.StatusTransfer.{StatusTransfer}
use Rattle.node_rules.specs.Acts.{ProcFault}
use Rattle.node_rules.specs.SecondRecords.{addition_asked, answered, failure_told, forgotten, is_wanted, key_confirmed, leave_confirmed, leaves, let_off, modification_asked, reconfigured, recovery_asked, refused_there, release_asked, release_needless, second_take, status_passed}
use Rattle.node_rules.specs.SecondState.{SecondActs, SecondProc, is_joined}
use Rattle.node_rules.specs.declared.acts.Act.TheVariants.{FailOne as fail_one, Pass as pass, RecoverOne as recover_one, Say as say, Send as send, UnlockAll as unlock_all}
use Rattle.node_rules.specs.declared.commands.Membership.{Membership}
use Rattle.node_rules.specs.declared.commands.Membership.TheVariants.{Joined as joined, Left as left, Outside as outside}
use Rattle.run_control.specs.Rows.{IsTaken, Reads, has_row, is_left, is_outside, is_request, membership_after, wanted_after}

-- what a node that takes a record comes to
pub record Comes (m : Membership) (w : Option Want) (t : Result SecondActs ProcFault) : Type 0 where
  pub acts : SecondActs
  pub taken : t ≡ Ok acts
  pub membership : acts.0.membership ≡ m
  pub wants : acts.0.want ≡ w

-- ---- by membership

reconfigured_comes : (s : SecondProc) (g : ℕ) (m : Membership) → s.membership ≡ m → is_joined m ≡ true → Comes m s.want (reconfigured s g m)
reconfigured_comes s g outside is row = absurd cc
reconfigured_comes s g joined is row = record { acts = (s, unlock_all g ∷ []); taken = refl; membership = is; wants = refl }
reconfigured_comes s g left is row = absurd cc

status_comes : (s : SecondProc) (st : StatusTransfer) (m : Membership) → s.membership ≡ m → is_joined m ≡ true → Comes m s.want (status_passed s st m)
status_comes s st outside is row = absurd cc
status_comes s st joined is row = record { acts = (s, pass st ∷ []); taken = refl; membership = is; wants = refl }
status_comes s st left is row = absurd cc

recovery_comes : (s : SecondProc) (id : ℕ) (m : Membership) → s.membership ≡ m → is_joined m ≡ true → Comes m s.want (recovery_asked s id m)
recovery_comes s id outside is row = absurd cc
recovery_comes s id joined is row = record { acts = (s, send M (rec.Recovd id) ∷ recover_one id ∷ []); taken = refl; membership = is; wants = refl }
recovery_comes s id left is row = absurd cc

failure_comes : (s : SecondProc) (id g : ℕ) (m : Membership) → s.membership ≡ m → not (is_outside m) ≡ true → Comes m s.want (failure_told s id g m)
failure_comes s id g outside is row = absurd cc
failure_comes s id g joined is row = record { acts = (s, fail_one id g ∷ []); taken = refl; membership = is; wants = refl }
failure_comes s id g left is row = record { acts = (s, fail_one id g ∷ []); taken = refl; membership = is; wants = refl }

forgotten_comes : (s : SecondProc) (m : Membership) → is_left m ≡ true → Comes outside s.want (forgotten s m)
forgotten_comes s outside row = absurd cc
forgotten_comes s joined row = absurd cc
forgotten_comes s left row = record { acts = (record s { membership = outside }, []); taken = refl; membership = refl; wants = refl }

let_off_comes : (s : SecondProc) (p : Plan) (denies : Bool) → is_none p.sec ≡ false → (let_off s p (denies && is_none p.sec)).0.membership ≡ left
let_off_comes s p denies some' = ap (λ b. (let_off s p b).0.membership) (ap (λ b. denies && b) some' ∙ and_none denies)
  where
    and_none : (b : Bool) → (b && false) ≡ false
    and_none true = refl
    and_none false = refl

let_off_wants : (s : SecondProc) (p : Plan) (b : Bool) → (let_off s p b).0.want ≡ s.want
let_off_wants s p true = refl
let_off_wants s p false = refl

release_comes : (s : SecondProc) (p : Plan) (m : Membership) → is_none p.sec ≡ false → is_joined m ≡ true → Comes left s.want (release_asked s p m)
release_comes s p outside some' row = absurd cc
release_comes s p joined some' row = record { acts = let_off s p (s.denies && is_none p.sec); taken = refl; membership = let_off_comes s p s.denies some'; wants = let_off_wants s p (s.denies && is_none p.sec) }
release_comes s p left some' row = absurd cc

-- ---- by what the node asked for

refused_comes : (k : RecKind) (s : SecondProc) (word : Word) (asked : Bool) → asked ≡ true → Comes s.membership None (refused_there k s word asked)
refused_comes k s word true row = record { acts = (answered s, say (note.Refused s.me word) ∷ []); taken = refl; membership = refl; wants = refl }
refused_comes k s word false row = absurd cc

key_comes : (s : SecondProc) (g : ℕ) (asked : Bool) (m : Membership) → s.membership ≡ m → (asked && is_joined m) ≡ true → Comes m None (key_confirmed s g asked m)
key_comes s g true outside is row = absurd cc
key_comes s g true joined is row = record { acts = (answered s, unlock_all g ∷ say (note.Confirmed s.me) ∷ []); taken = refl; membership = is; wants = refl }
key_comes s g true left is row = absurd cc
key_comes s g false m is row = absurd cc

leave_comes : (k : RecKind) (s : SecondProc) (p : Plan) (asked : Bool) (m : Membership) → (asked && is_joined m) ≡ true → Comes left None (leave_confirmed k s p asked m)
leave_comes k s p true outside row = absurd cc
leave_comes k s p true joined row = record { acts = leaves (answered s) p (say (note.Confirmed s.me) ∷ []); taken = refl; membership = refl; wants = refl }
leave_comes k s p true left row = absurd cc
leave_comes k s p false m row = absurd cc

needless_comes : (s : SecondProc) (asked : Bool) → (asked && true) ≡ true → Comes s.membership None (release_needless s asked)
needless_comes s true row = record { acts = (answered s, say (note.Confirmed s.me) ∷ []); taken = refl; membership = refl; wants = refl }
needless_comes s false row = absurd cc

confirmed_comes : (s : SecondProc) (p : Plan) (none : Bool) → (is_wanted want.Release s.want && (none || is_joined s.membership)) ≡ true
    → Comes (if none then s.membership else left) None (if none then release_needless s (is_wanted want.Release s.want) else leave_confirmed kind.Relcnf s p (is_wanted want.Release s.want) s.membership)
confirmed_comes s p true row = needless_comes s (is_wanted want.Release s.want) row
confirmed_comes s p false row = leave_comes kind.Relcnf s p (is_wanted want.Release s.want) s.membership row

-- ---- any record that is no request

change_comes : (s : SecondProc) (p : Plan) → is_none p.sec ≡ false → is_joined s.membership ≡ true → Comes (if is_none p.sec then s.membership else left) s.want (release_asked s p s.membership)
change_comes s p some' row = subst (λ b. Comes (if b then s.membership else left) s.want (release_asked s p s.membership)) (sym some') (release_comes s p s.membership some' row)

-- a record with a row is taken
pub row_taken : (s : SecondProc) (r : Rec) → is_request r ≡ false → has_row s.membership s.want r ≡ true → Comes (membership_after r s.membership) (wanted_after r s.want) (second_take s r)
row_taken s (rec.Addreq plan key) no' row = absurd cc
row_taken s (rec.Modreq plan key) no' row = absurd cc
row_taken s (rec.Relreq plan) no' row = change_comes s plan no' row
row_taken s (rec.Uecr g) no' row = forgotten_comes s s.membership row
row_taken s (rec.Recfg g) no' row = reconfigured_comes s g s.membership refl row
row_taken s (rec.Modcnf g) no' row = key_comes s g (is_wanted want.Rekey s.want) s.membership refl row
row_taken s (rec.Modref word) no' row = refused_comes kind.Modref s word (is_wanted want.Rekey s.want) row
row_taken s (rec.Chgcnf plan) no' row = leave_comes kind.Chgcnf s plan (is_wanted want.Change s.want) s.membership row
row_taken s (rec.Chgref word) no' row = refused_comes kind.Chgref s word (is_wanted want.Change s.want) row
row_taken s (rec.Relcnf plan) no' row = confirmed_comes s plan (plan.g == 0) row
row_taken s (rec.Snst status) no' row = status_comes s status s.membership refl row
row_taken s (rec.Recov id) no' row = recovery_comes s id s.membership refl row
row_taken s (rec.Scgn id g) no' row = failure_comes s id g s.membership refl row
row_taken s (rec.Reconf plan key) no' row = absurd cc
row_taken s (rec.Rcomp g) no' row = absurd cc
row_taken s (rec.Scgf failed) no' row = absurd cc
row_taken s (rec.Recovd id) no' row = absurd cc
row_taken s (rec.Addack g) no' row = absurd cc
row_taken s (rec.Addrej g) no' row = absurd cc
row_taken s (rec.Modack g) no' row = absurd cc
row_taken s (rec.Modrej g) no' row = absurd cc
row_taken s (rec.Relack g) no' row = absurd cc
row_taken s (rec.Relrej g) no' row = absurd cc
row_taken s (rec.Moved g id) no' row = absurd cc
row_taken s rec.Modrqd no' row = absurd cc
row_taken s rec.Chgrqd no' row = absurd cc
row_taken s rec.Relrqd no' row = absurd cc

-- ---- a request

added_taken : (s : SecondProc) (p : Plan) (m : Membership) → is_outside m ≡ true → IsTaken (addition_asked s p m)
added_taken s p outside row = tt
added_taken s p joined row = absurd cc
added_taken s p left row = absurd cc

modified_taken : (s : SecondProc) (p : Plan) (m : Membership) → is_joined m ≡ true → IsTaken (modification_asked s p m)
modified_taken s p outside row = absurd cc
modified_taken s p joined row = tt
modified_taken s p left row = absurd cc

released_taken : (s : SecondProc) (p : Plan) (m : Membership) → is_joined m ≡ true → IsTaken (release_asked s p m)
released_taken s p outside row = absurd cc
released_taken s p joined row = tt
released_taken s p left row = absurd cc

taken_if : {m : Membership} {w : Option Want} {t : Result SecondActs ProcFault} → Comes m w t → IsTaken t
taken_if is = subst (λ u. IsTaken u) (sym is.taken) tt

-- any record with a row is taken
pub any_taken : (s : SecondProc) (r : Rec) → has_row s.membership s.want r ≡ true → IsTaken (second_take s r)
any_taken s (rec.Addreq plan key) row = added_taken s plan s.membership row
any_taken s (rec.Modreq plan key) row = modified_taken s plan s.membership row
any_taken s (rec.Relreq plan) row = released_taken s plan s.membership row
any_taken s (rec.Uecr g) row = taken_if (row_taken s (rec.Uecr g) refl row)
any_taken s (rec.Recfg g) row = taken_if (row_taken s (rec.Recfg g) refl row)
any_taken s (rec.Modcnf g) row = taken_if (row_taken s (rec.Modcnf g) refl row)
any_taken s (rec.Modref word) row = taken_if (row_taken s (rec.Modref word) refl row)
any_taken s (rec.Chgcnf plan) row = taken_if (row_taken s (rec.Chgcnf plan) refl row)
any_taken s (rec.Chgref word) row = taken_if (row_taken s (rec.Chgref word) refl row)
any_taken s (rec.Relcnf plan) row = taken_if (row_taken s (rec.Relcnf plan) refl row)
any_taken s (rec.Snst status) row = taken_if (row_taken s (rec.Snst status) refl row)
any_taken s (rec.Recov id) row = taken_if (row_taken s (rec.Recov id) refl row)
any_taken s (rec.Scgn id g) row = taken_if (row_taken s (rec.Scgn id g) refl row)
any_taken s (rec.Reconf plan key) row = absurd cc
any_taken s (rec.Rcomp g) row = absurd cc
any_taken s (rec.Scgf failed) row = absurd cc
any_taken s (rec.Recovd id) row = absurd cc
any_taken s (rec.Addack g) row = absurd cc
any_taken s (rec.Addrej g) row = absurd cc
any_taken s (rec.Modack g) row = absurd cc
any_taken s (rec.Modrej g) row = absurd cc
any_taken s (rec.Relack g) row = absurd cc
any_taken s (rec.Relrej g) row = absurd cc
any_taken s (rec.Moved g id) row = absurd cc
any_taken s rec.Modrqd row = absurd cc
any_taken s rec.Chgrqd row = absurd cc
any_taken s rec.Relrqd row = absurd cc

-- ---- a line

-- one that is read, with more records at its end
pub reads_append : (m : Membership) (w : Option Want) (q more : List Rec) (m' : Membership) (w' : Option Want) (m'' : Membership) (w'' : Option Want)
    → Reads m w q m' w' → Reads m' w' more m'' w'' → Reads m w (q ++ more) m'' w''
reads_append m w [] more m' w' m'' w'' read rest = subst (λ z. Reads m z more m'' w'') (sym read.1) (subst (λ z. Reads z w' more m'' w'') (sym read.0) rest)
reads_append m w (r ∷ q) more m' w' m'' w'' read rest = (read.0, reads_append (membership_after r m) (wanted_after r w) q more m' w' m'' w'' read.1 rest)

-- the first of a line is taken, and the rest is read on from where the node then is, unless it was a request
pub head_read : (s : SecondProc) (r : Rec) (q : List Rec) (m : Membership) (w : Option Want) → is_request r ≡ false → Reads s.membership s.want (r ∷ q) m w
    → (acts : SecondActs) × (second_take s r ≡ Ok acts) × Reads acts.0.membership acts.0.want q m w
head_read s r q m w no' read =
    let is = row_taken s r no' read.0 in
    (is.acts, is.taken, subst (λ z. Reads z is.acts.0.want q m w) (sym is.membership) (subst (λ z. Reads (membership_after r s.membership) z q m w) (sym is.wants) read.1))
