-- A record that comes first to a secondary node, taken: what it holds then is what the table has of it, and the line behind fits.
use Rattle.std.proofs.Common.{ℕ, ◌≡◌, ◌==◌, Bool, true, false, List, [], ◌∷◌, Option, Some, None, refl, sym, ap, subst, ◌∙◌}
use Rattle.std.specs.Prelude.{find, fold, map, ⊤}
use Rattle.std.specs.List.{AllByRecursion, list_any}
use Rattle.dc_base.specs.declared.nodes.Node.{Node}
use Rattle.dc_base.specs.declared.records.Plan.{Plan}
use Rattle.node_rules.specs.CommandTable.{Table, rows_after}
use Rattle.node_rules.specs.MasterGo.{moving_by}
use Rattle.node_rules.specs.MasterRecords.{is_moving}
use Rattle.node_rules.specs.SecondRecords.{added, let_off, modified}
use Rattle.node_rules.specs.SecondState.{SecondActs, SecondProc}
use Rattle.node_rules.specs.Secondary.{SecondNode, name_of}
use Rattle.node_rules.specs.declared.acts.Act.{Act}
use Rattle.node_rules.specs.declared.acts.Act.TheVariants.{FailOne as fail_one, Go as go, Pass as pass, Prepare as prepare, RecoverOne as recover_one, Say as say, Send as send, UnlockAll as unlock_all}
use Rattle.node_rules.specs.declared.commands.Membership.TheVariants.{Joined as joined}
use Rattle.node_rules.specs.declared.commands.Row.{Row}
use Rattle.node_rules.specs.declared.inputs.Effects.{Effects}
use Rattle.run_control.specs.Rows.{is_outside}
use Rattle.run_control.specs.SecondControl.{SecondProjects, Views, act_view, acts_view, carried_by, fits_plan, opened_by}
use Rattle.run_control.specs.Views.{View, second_view}
use Rattle.run_pairs.specs.Bearers.{AreApart, AreHeld, IsHeldAt, KeepsAll, KeepsHeld}
use Rattle.run_pairs.proofs.BearersCarried.{agreed_held}
use Rattle.run_pairs.proofs.BearersKept.{within_keeps}

-- ---- what is kept is held still

held_kept_at : (x : Node) (v v' : Option View) (moving : Bool) (o : Option Row) → KeepsHeld v v' → IsHeldAt x v moving o → IsHeldAt x v' moving o
held_kept_at x v v' moving None kept held = tt
held_kept_at x v v' moving (Some r) kept held = λ here. (kept.0 r.n r.first (held here).0, λ still. kept.1 ((held here).1 still))

pub held_kept : (x : Node) (views views' : Views) (moving : List (ℕ × Node)) (rows : List Row) → KeepsAll views views' → AreHeld x views moving rows → AreHeld x views' moving rows
held_kept x views views' moving rows kept held k = held_kept_at x (views k) (views' k) _ (find (λ (r : Row). r.id == k) rows) (kept k) (held k)

-- ---- acts that give nothing to an anchor

-- the act is no status transfer
abbrev pub IsNoPass : Act → Type 0
IsNoPass (send to r) = ⊤
IsNoPass (prepare p) = ⊤
IsNoPass (go p) = ⊤
IsNoPass (unlock_all g) = ⊤
IsNoPass (say n) = ⊤
IsNoPass (recover_one id) = ⊤
IsNoPass (fail_one id g) = ⊤
IsNoPass (pass status) = ⊥

-- then the views after it are these
abbrev pub plain_view : Node → Act → Views → Views
plain_view me (send to r) views = views
plain_view me (prepare p) views = views
plain_view me (go p) views = carried_by me p p.items views
plain_view me (unlock_all g) views = λ k. opened_by g (views k)
plain_view me (say n) views = views
plain_view me (recover_one id) views = views
plain_view me (fail_one id g) views = views
plain_view me (pass status) views = views

abbrev pub plain_views : Node → List Act → Views → Views
plain_views me [] views = views
plain_views me (a ∷ acts) views = plain_views me acts (plain_view me a views)

plain_act : (me : Node) (adopts : Bool) (a : Act) (views : Views) → IsNoPass a → act_view me adopts a views ≡ plain_view me a views
plain_act me adopts (send to r) views is = refl
plain_act me adopts (prepare p) views is = refl
plain_act me adopts (go p) views is = refl
plain_act me adopts (unlock_all g) views is = refl
plain_act me adopts (say n) views is = refl
plain_act me adopts (recover_one id) views is = refl
plain_act me adopts (fail_one id g) views is = refl
plain_act me adopts (pass status) views is = absurd is

plain_acts : (me : Node) (acts : List (Bool × Act)) (views : Views) → AllByRecursion IsNoPass (map (λ (a : Bool × Act). a.1) acts) → acts_view me acts views ≡ plain_views me (map (λ (a : Bool × Act). a.1) acts) views
plain_acts me [] views all = refl
plain_acts me (a ∷ acts) views all = ap (acts_view me acts) (plain_act me a.0 a.1 views all.0) ∙ plain_acts me acts (plain_view me a.1 views) all.1

-- ---- a request that the node agrees to

-- the plan is carried out, and nothing else changes
pub record IsCarried (s : SecondProc) (p : Plan) (acts : SecondActs) : Type 0 where
  pub me : acts.0.me ≡ s.me
  pub context : is_outside acts.0.membership ≡ false
  pub plain : AllByRecursion IsNoPass acts.1
  pub carries : (me : Node) (views : Views) → plain_views me acts.1 views ≡ carried_by me p p.items views

-- the views then
carried_views : (s : SecondNode) (p : Plan) (acts : SecondActs) (done : SecondNode × Effects) → IsCarried s.proc p acts → SecondProjects s acts done → (k : ℕ) → second_view done.0 k ≡ carried_by (name_of s) p p.items (second_view s) k
carried_views s p acts done is projects k =
    projects.after k
    ∙ ap (λ views. acts_view acts.0.me projects.chosen views k) (within_keeps acts.0.membership (second_view s) is.context)
    ∙ ap (λ (views : Views). views k) (plain_acts acts.0.me projects.chosen (second_view s) (subst (AllByRecursion IsNoPass) (sym projects.all) is.plain))
    ∙ ap (λ as'. plain_views acts.0.me as' (second_view s) k) projects.all
    ∙ ap (λ (views : Views). views k) (is.carries acts.0.me (second_view s))
    ∙ ap (λ me. carried_by me p p.items (second_view s) k) is.me

-- what a node holds that carried a plan out is what the table has once the plan is carried out
pub carried_held : (t : Table) (s : SecondNode) (p : Plan) (acts : SecondActs) (done : SecondNode × Effects) (rows : List Row) → IsCarried s.proc p acts → SecondProjects s acts done → AreApart p.items → fits_plan (name_of s) (second_view s) (Some p) ≡ true
    → AreHeld (name_of s) (second_view s) [] rows → AreHeld (name_of s) (second_view done.0) (moving_by p) (fold (rows_after t p.g p.sec) rows p.items)
carried_held t s p acts done rows is projects apart fit held k =
    subst (λ v. IsHeldAt (name_of s) v (list_any (is_moving k (name_of s)) (moving_by p)) (find (λ (r : Row). r.id == k) (fold (rows_after t p.g p.sec) rows p.items))) (sym (carried_views s p acts done is projects k)) (agreed_held t (name_of s) p (second_view s) rows apart fit held k)

pub added_carried : (s : SecondProc) (p : Plan) → IsCarried s p (added s p false)
added_carried s p = record { me = refl; context = refl; plain = (tt, (tt, (tt, tt))); carries = λ me views. refl }

pub modified_carried : (s : SecondProc) (p : Plan) → s.membership ≡ joined → IsCarried s p (modified s p false)
modified_carried s p at = record { me = refl; context = ap is_outside at; plain = (tt, (tt, tt)); carries = λ me views. refl }

pub let_off_carried : (s : SecondProc) (p : Plan) → IsCarried s p (let_off s p false)
let_off_carried s p = record { me = refl; context = refl; plain = (tt, (tt, (tt, tt))); carries = λ me views. refl }
