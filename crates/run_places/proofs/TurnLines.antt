-- What the turns of the master's procedures are to a secondary node: to its waiting anchors, and to the line to it.
use Rattle.std.proofs.Common.{ℕ, ◌≡◌, ◌+◌, ◌==◌, ◌++◌, ◌∙◌, Bool, true, false, List, [], ◌∷◌, Option, Some, None, refl, sym, ap, subst, inl, inr}
use Rattle.std.specs.List.{AllByRecursion}
use Rattle.std.specs.Prelude.{if◌then◌else◌, ⊤, ◌⊎◌}
use Rattle.dc_base.specs.Nodes.{is_same_node, is_secondary}
use Rattle.dc_base.specs.declared.nodes.Node.{Node}
use Rattle.dc_base.specs.declared.nodes.Node.TheVariants.{A, B, M, T}
use Rattle.dc_base.specs.declared.records.Plan.{Plan}
use Rattle.dc_base.specs.declared.records.Rec.{Rec}
use Rattle.dc_base.specs.declared.records.Rec.TheVariants as rec
use Rattle.node_rules.specs.MasterGo.{moves_here, preparing}
use Rattle.node_rules.specs.declared.acts.Act.{Act}
use Rattle.node_rules.specs.declared.acts.Act.TheVariants.{FailOne as fail_one, Go as go, Pass as pass, Prepare as prepare, RecoverOne as recover_one, Say as say, Send as send, UnlockAll as unlock_all}
use Rattle.run_control.specs.MasterControl.{own_act_sends, own_act_view, own_acts_sends, own_acts_view}
use Rattle.run_control.specs.SecondControl.{Views, bare_record}
use Rattle.run_control.specs.Views.{View}
use Rattle.run_pairs.proofs.Putting.{IsStatus, heard_of, put, put_append, put_cons, put_go, put_send}
use Rattle.run_pairs.proofs.Replies.{same_node}
use Rattle.run_places.proofs.States.{Course, IsAwaited, IsLeave, IsMinor, IsMinorRecord, MayWait, State, Turn, WaitsFor, carried_out, draws, goes_on, is_done, is_rejected, minor, one_then, proposed, settled}

-- ---- waiting anchors

no_wait : (x : Node) → is_secondary x ≡ true → (who : Option Node) → MayWait x who false → ⊥
no_wait T s who is = is
no_wait M s who is = absurd cc
no_wait A s who is = absurd cc
no_wait B s who is = absurd cc

-- by a change of the course
course_waits : (x : Node) (c c' : Course) (k : ℕ) (o : Option View) → ((v : View) → IsAwaited x c k v → IsAwaited x c' k v) → WaitsFor x c k o → WaitsFor x c' k o
course_waits x c c' k None so is = tt
course_waits x c c' k (Some v) so is = λ idle. so v (is idle)

no_more : {X : Type 0} → false ≡ true → X
no_more e = absurd cc

pub turn_waits : (x : Node) → is_secondary x ≡ true → (s s' : State) (acts : List Act) → Turn s acts s' → (k : ℕ) (o : Option View) → WaitsFor x s.course k o → WaitsFor x s'.course k o
turn_waits x second s s' acts (minor at acts' all) k o is = is
turn_waits x second s s' acts (draws at p who free plan fresh) k o is =
    course_waits x settled (proposed p who false) k o (λ v so. absurd so) (subst (λ c. WaitsFor x c k o) free is)
turn_waits x second s s' acts (goes_on at t p who agreed stands sure) k o is =
    course_waits x (proposed p who agreed) s'.course k o (λ v so. (so.0, so.1)) (subst (λ c. WaitsFor x c k o) stands is)
turn_waits x second s s' acts (is_done at p stands) k o is =
    course_waits x (carried_out p []) settled k o (λ v so. no_more so.1) (subst (λ c. WaitsFor x c k o) stands is)
turn_waits x second s s' acts (is_rejected at p who stands) k o is =
    course_waits x (proposed p who false) settled k o (λ v so. no_wait x second who so.2) (subst (λ c. WaitsFor x c k o) stands is)
turn_waits x second s s' acts (one_then at s1 at2 acts1 more one two) k o is = turn_waits x second s1 s' more two k o (turn_waits x second s s1 acts1 one k o is)

-- ---- the line to it

-- a record by whose plan the node leaves has no anchor there
abbrev pub IsApart : Node → Rec → Type 0
IsApart x (rec.Relreq p) = (p.sec ≡ None) ⊎ IsLeave x p
IsApart x (rec.Chgcnf p) = IsLeave x p
IsApart x (rec.Relcnf p) = IsLeave x p
IsApart x _ = ⊤

abbrev pub AreApartAll : Node → List Rec → Type 0
AreApartAll x rs = AllByRecursion (IsApart x) rs

pub both_apart : (x : Node) (xs ys : List Rec) → AreApartAll x xs → AreApartAll x ys → AreApartAll x (xs ++ ys)
both_apart x [] ys p q = q
both_apart x (r ∷ xs) ys p q = (p.0, both_apart x xs ys p.1 q)

minor_apart : (x : Node) (r : Rec) → IsMinorRecord x r → IsApart x (bare_record r)
minor_apart x (rec.Reconf plan key) is = tt
minor_apart x (rec.Rcomp g) is = tt
minor_apart x (rec.Scgf failed) is = tt
minor_apart x (rec.Recov id) is = tt
minor_apart x (rec.Recovd id) is = tt
minor_apart x (rec.Addreq plan key) is = tt
minor_apart x (rec.Addack g) is = tt
minor_apart x (rec.Addrej g) is = tt
minor_apart x (rec.Modreq plan key) is = tt
minor_apart x (rec.Modack g) is = tt
minor_apart x (rec.Modrej g) is = tt
minor_apart x (rec.Recfg g) is = tt
minor_apart x (rec.Relreq plan) is = is
minor_apart x (rec.Relack g) is = tt
minor_apart x (rec.Relrej g) is = tt
minor_apart x (rec.Uecr g) is = tt
minor_apart x (rec.Snst status) is = absurd is
minor_apart x (rec.Moved g id) is = tt
minor_apart x (rec.Scgn id g) is = tt
minor_apart x rec.Modrqd is = tt
minor_apart x (rec.Modcnf g) is = tt
minor_apart x (rec.Modref word) is = tt
minor_apart x rec.Chgrqd is = tt
minor_apart x (rec.Chgcnf plan) is = is
minor_apart x (rec.Chgref word) is = tt
minor_apart x rec.Relrqd is = tt
minor_apart x (rec.Relcnf plan) is = is

status_apart : (x : Node) (r : Rec) → IsStatus r → IsApart x r
status_apart x (rec.Reconf plan key) is = absurd is
status_apart x (rec.Rcomp g) is = absurd is
status_apart x (rec.Scgf failed) is = absurd is
status_apart x (rec.Recov id) is = absurd is
status_apart x (rec.Recovd id) is = absurd is
status_apart x (rec.Addreq plan key) is = absurd is
status_apart x (rec.Addack g) is = absurd is
status_apart x (rec.Addrej g) is = absurd is
status_apart x (rec.Modreq plan key) is = absurd is
status_apart x (rec.Modack g) is = absurd is
status_apart x (rec.Modrej g) is = absurd is
status_apart x (rec.Recfg g) is = absurd is
status_apart x (rec.Relreq plan) is = absurd is
status_apart x (rec.Relack g) is = absurd is
status_apart x (rec.Relrej g) is = absurd is
status_apart x (rec.Uecr g) is = absurd is
status_apart x (rec.Snst status) is = tt
status_apart x (rec.Moved g id) is = absurd is
status_apart x (rec.Scgn id g) is = absurd is
status_apart x rec.Modrqd is = absurd is
status_apart x (rec.Modcnf g) is = absurd is
status_apart x (rec.Modref word) is = absurd is
status_apart x rec.Chgrqd is = absurd is
status_apart x (rec.Chgcnf plan) is = absurd is
status_apart x (rec.Chgref word) is = absurd is
status_apart x rec.Relrqd is = absurd is
status_apart x (rec.Relcnf plan) is = absurd is

statuses_apart : (x : Node) (rs : List Rec) → AllByRecursion IsStatus rs → AreApartAll x rs
statuses_apart x [] all = tt
statuses_apart x (r ∷ rs) all = (status_apart x r all.0, statuses_apart x rs all.1)

module _ (x : Node) (second : is_secondary x ≡ true) where
  send_apart : (to : Node) (r : Rec) (v : Views) → IsMinorRecord to r → AreApartAll x (put x (send to r ∷ []) v)
  send_apart to r v is = subst (AreApartAll x) (sym (put_send x to r v second)) (by (is_same_node x to) refl)
    where
      by : (b : Bool) → is_same_node x to ≡ b → AreApartAll x (if b then bare_record r ∷ [] else [])
      by true here = (minor_apart x r (subst (λ y. IsMinorRecord y r) (sym (same_node x to here)) is), tt)
      by false other = tt

  act_apart : (a : Act) (v : Views) → IsMinor a → AreApartAll x (put x (a ∷ []) v)
  act_apart (send to r) v is = send_apart to r v is
  act_apart (prepare p) v is = absurd is
  act_apart (go p) v is = absurd is
  act_apart (unlock_all g) v is = tt
  act_apart (say n) v is = tt
  act_apart (recover_one id) v is = tt
  act_apart (fail_one id g) v is = tt
  act_apart (pass status) v is = absurd is

  minors_apart : (acts : List Act) (v : Views) → AllByRecursion IsMinor acts → AreApartAll x (put x acts v)
  minors_apart [] v all = tt
  minors_apart (a ∷ acts) v all = subst (AreApartAll x) (sym (put_append x (a ∷ []) acts v)) (both_apart x (put x (a ∷ []) v) (put x acts (own_act_view a v)) (act_apart a v all.0) (minors_apart acts (own_act_view a v) all.1))

  pub turn_apart : (s s' : State) (acts : List Act) → Turn s acts s' → (v : Views) → AreApartAll x (put x acts v)
  turn_apart s s' acts (minor at acts' all) v = minors_apart acts v all
  turn_apart s s' acts (draws at p who free plan fresh) v = by (moves_here p)
    where
      by : (b : Bool) → AreApartAll x (put x (if b then prepare p ∷ [] else []) v)
      by true = tt
      by false = tt
  turn_apart s s' acts (goes_on at t p who agreed stands sure) v =
      subst (AreApartAll x) (sym (put_cons x (go p) [] v)) (both_apart x (heard_of x (own_act_sends (go p) v)) (put x [] (own_act_view (go p) v)) (statuses_apart x (heard_of x (own_act_sends (go p) v)) (put_go x p v)) tt)
  turn_apart s s' acts (is_done at p stands) v = tt
  turn_apart s s' acts (is_rejected at p who stands) v = tt
  turn_apart s s' acts (one_then at s1 at2 acts1 more one two) v =
      subst (AreApartAll x) (sym (put_append x acts1 more v)) (both_apart x (put x acts1 v) (put x more (own_acts_view acts1 v)) (turn_apart s s1 acts1 one v) (turn_apart s1 s' more two (own_acts_view acts1 v)))
