-- What is kept of the master's anchors, as its procedures go on.
use Rattle.std.proofs.Common.{ℕ, ◌≡◌, ◌≤◌, ◌+◌, ◌==◌, ◌++◌, ◌∙◌, Bool, true, false, List, [], ◌∷◌, Option, Some, None, refl, sym, ap, subst, arith, inl, inr}
use Rattle.std.specs.List.{AllByRecursion, filter, find, flat_map, fold, list_any}
use Rattle.std.specs.Prelude.{if◌then◌else◌, not, ⊤, ◌&&◌, ◌||◌, ◌⊎◌}
use Rattle.dc_base.specs.Nodes.{is_same_node}
use Rattle.dc_base.specs.Records.{item_id}
use Rattle.dc_base.specs.declared.flights.Flight.TheVariants as flight
use Rattle.dc_base.specs.declared.nodes.Node.{Node}
use Rattle.dc_base.specs.declared.nodes.Node.TheVariants.{A, B, M, T}
use Rattle.dc_base.specs.declared.records.Item.{Item}
use Rattle.dc_base.specs.declared.records.Item.TheVariants as item
use Rattle.dc_base.specs.declared.records.Plan.{Plan}
use Rattle.dc_base.specs.declared.records.Rec.{Rec}
use Rattle.dc_base.specs.declared.records.Rec.TheVariants as rec
use Rattle.node_rules.specs.MasterPlan.{is_rejection}
use Rattle.node_rules.specs.declared.acts.Act.{Act}
use Rattle.node_rules.specs.declared.acts.Act.TheVariants.{FailOne as fail_one, Go as go, Pass as pass, Prepare as prepare, RecoverOne as recover_one, Say as say, Send as send, UnlockAll as unlock_all}
use Rattle.node_rules.specs.declared.commands.Row.{Row}
use Rattle.run_control.specs.MasterControl.{active_at, active_only, own_act_sends, own_act_view, own_acts_sends, own_acts_view}
use Rattle.run_control.specs.SecondControl.{Views, bare_record, holds_there, is_holding, opened_by}
use Rattle.run_control.specs.Views.{Stage, View, has_status, holds, lacks_status}
use Rattle.run_places.specs.Tokens.{kept_at, kept_by, status_in}
use Rattle.run_places.proofs.Counting.{bare_status, sent, sent_append, status_sent}
use Rattle.run_places.proofs.Items.{AreNamed, IsNamed}
use Rattle.run_places.proofs.States.{Course, IsMinor, IsMinorRecord, Keeps, State, WaitsFor, carried_out, proposed, settled}

-- ---- the same anchors, perhaps opened

-- the bearer and the stage are as they were
abbrev pub IsSame : Option View → Option View → Type 0
IsSame None None = ⊤
IsSame None (Some w) = ⊥
IsSame (Some v) None = ⊥
IsSame (Some v) (Some w) = (w.bearer ≡ v.bearer) × (w.stage ≡ v.stage)

abbrev pub AreSame : Views → Views → Type 0
AreSame v w = (k : ℕ) → IsSame (v k) (w k)

pub same_itself : (o : Option View) → IsSame o o
same_itself None = tt
same_itself (Some v) = (refl, refl)

pub same_then : (a b c : Option View) → IsSame a b → IsSame b c → IsSame a c
same_then None None None one two = tt
same_then None None (Some w) one two = absurd two
same_then None (Some v) c one two = absurd one
same_then (Some u) None c one two = absurd one
same_then (Some u) (Some v) None one two = absurd two
same_then (Some u) (Some v) (Some w) one two = (two.0 ∙ one.0, two.1 ∙ one.1)

pub same_kept : (a b : Option View) → IsSame a b → kept_by b ≡ kept_by a
same_kept None None is = refl
same_kept None (Some w) is = absurd is
same_kept (Some v) None is = absurd is
same_kept (Some v) (Some w) is = ap kept_at is.1

pub same_named : (k : ℕ) (a b : Option View) → IsSame a b → IsNamed k a → IsNamed k b
same_named k None None is named = tt
same_named k None (Some w) is named = absurd is
same_named k (Some v) None is named = absurd is
same_named k (Some v) (Some w) is named = ap (λ z. z.id) is.0 ∙ named

pub same_holds : (a b : Option View) → IsSame a b → holds_there b ≡ holds_there a
same_holds None None is = refl
same_holds None (Some w) is = absurd is
same_holds (Some v) None is = absurd is
same_holds (Some v) (Some w) is = ap is_holding is.1

pub same_waits : (x : Node) (s : Course) (k : ℕ) (a b : Option View) → IsSame a b → WaitsFor x s k a → WaitsFor x s k b
same_waits x s k None None is waits = tt
same_waits x s k None (Some w) is waits = absurd is
same_waits x s k (Some v) None is waits = absurd is
same_waits x settled k (Some v) (Some w) is waits = λ idle. waits (sym (ap is_holding is.1) ∙ idle)
same_waits x (proposed p who agreed) k (Some v) (Some w) is waits = λ idle. let so = waits (sym (ap is_holding is.1) ∙ idle) in (ap (λ z. z.g) is.0 ∙ so.0, so.1, so.2)
same_waits x (carried_out p zs) k (Some v) (Some w) is waits = λ idle. let so = waits (sym (ap is_holding is.1) ∙ idle) in (ap (λ z. z.g) is.0 ∙ so.0, so.1)

pub opened_same : (g : ℕ) (o : Option View) → IsSame o (opened_by g o)
opened_same g None = tt
opened_same g (Some v) = by (v.bearer.g == g)
  where
    by : (b : Bool) → IsSame (Some v) (Some (if b then record v { opened = true } else v))
    by true = (refl, refl)
    by false = (refl, refl)

-- the same is kept, with no more elsewhere
pub keeps_same : (s : State) (mv mv' : Views) (rest rest' : ℕ → ℕ) → AreSame mv mv' → ((k : ℕ) → rest' k ≤ rest k) → Keeps s mv rest → Keeps s mv' rest'
keeps_same s mv mv' rest rest' same fewer is = record {
  named = λ k. same_named k (mv k) (mv' k) (same k) (is.named k);
  once = λ k. omega (arith, is.once k, same_kept (mv k) (mv' k) (same k), fewer k);
  none = λ k none. omega (arith, is.none k none, same_kept (mv k) (mv' k) (same k), fewer k);
  dropped = λ k gone. omega (arith, is.dropped k gone, same_kept (mv k) (mv' k) (same k), fewer k);
  own = λ k r at here stays. same_holds (mv k) (mv' k) (same k) ∙ is.own k r at here stays;
  away = is.away;
  waits = λ k. same_waits M s.course k (mv k) (mv' k) (same k) (is.waits k);
  planned = is.planned;
  single = is.single;
}

-- ---- minor acts

minor_record : (to : Node) (r : Rec) (k : ℕ) → IsMinorRecord to r → status_in k r ≡ 0
minor_record to (rec.Reconf plan key) k is = refl
minor_record to (rec.Rcomp g) k is = refl
minor_record to (rec.Scgf failed) k is = refl
minor_record to (rec.Recov id) k is = refl
minor_record to (rec.Recovd id) k is = refl
minor_record to (rec.Addreq plan key) k is = refl
minor_record to (rec.Addack g) k is = refl
minor_record to (rec.Addrej g) k is = refl
minor_record to (rec.Modreq plan key) k is = refl
minor_record to (rec.Modack g) k is = refl
minor_record to (rec.Modrej g) k is = refl
minor_record to (rec.Recfg g) k is = refl
minor_record to (rec.Relreq plan) k is = refl
minor_record to (rec.Relack g) k is = refl
minor_record to (rec.Relrej g) k is = refl
minor_record to (rec.Uecr g) k is = refl
minor_record to (rec.Snst status) k is = absurd is
minor_record to (rec.Moved g id) k is = refl
minor_record to (rec.Scgn id g) k is = refl
minor_record to rec.Modrqd k is = refl
minor_record to (rec.Modcnf g) k is = refl
minor_record to (rec.Modref word) k is = refl
minor_record to rec.Chgrqd k is = refl
minor_record to (rec.Chgcnf plan) k is = refl
minor_record to (rec.Chgref word) k is = refl
minor_record to rec.Relrqd k is = refl
minor_record to (rec.Relcnf plan) k is = refl

minor_silent : (a : Act) (v : Views) (k : ℕ) → IsMinor a → sent k (own_act_sends a v) ≡ 0
minor_silent (send to r) v k is = omega (arith, bare_status k r, minor_record to r k is)
minor_silent (prepare p) v k is = absurd is
minor_silent (go p) v k is = absurd is
minor_silent (unlock_all g) v k is = refl
minor_silent (say n) v k is = refl
minor_silent (recover_one id) v k is = refl
minor_silent (fail_one id g) v k is = refl
minor_silent (pass status) v k is = absurd is

minor_same : (a : Act) (v : Views) → IsMinor a → AreSame v (own_act_view a v)
minor_same (send to r) v is k = same_itself (v k)
minor_same (prepare p) v is k = absurd is
minor_same (go p) v is k = absurd is
minor_same (unlock_all g) v is k = opened_same g (v k)
minor_same (say n) v is k = subst (λ b. IsSame (v k) (if b then active_only (v k) else v k)) (sym is) (same_itself (v k))
minor_same (recover_one id) v is k = same_itself (v k)
minor_same (fail_one id g) v is k = same_itself (v k)
minor_same (pass status) v is k = absurd is

pub minors_silent : (acts : List Act) (v : Views) (k : ℕ) → AllByRecursion IsMinor acts → sent k (own_acts_sends acts v) ≡ 0
minors_silent [] v k all = refl
minors_silent (a ∷ acts) v k all =
    sent_append k (own_act_sends a v) (own_acts_sends acts (own_act_view a v)) ∙ omega (arith, minor_silent a v k all.0, minors_silent acts (own_act_view a v) k all.1)

pub minors_same : (acts : List Act) (v : Views) → AllByRecursion IsMinor acts → AreSame v (own_acts_view acts v)
minors_same [] v all k = same_itself (v k)
minors_same (a ∷ acts) v all k = same_then (v k) (own_act_view a v k) (own_acts_view acts (own_act_view a v) k) (minor_same a v all.0 k) (minors_same acts (own_act_view a v) all.1 k)
