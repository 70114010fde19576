-- What is kept of the master's anchors by any turn of its procedures, and by an adoption.
use Rattle.std.proofs.Common.{ℕ, ◌≡◌, ◌≤◌, ◌+◌, ◌==◌, ◌++◌, ◌∙◌, Bool, true, false, List, [], ◌∷◌, Option, Some, None, refl, sym, ap, subst, arith, inl, inr}
use Rattle.std.specs.List.{filter, list_any}
use Rattle.std.specs.Prelude.{if◌then◌else◌, not, ⊤, ◌&&◌, ◌||◌, ◌⊎◌}
use Rattle.std.proofs.lemmas.Bool.{eqb-true}
use Rattle.dc_base.specs.Nodes.{is_same_node}
use Rattle.dc_base.specs.declared.events.Note.TheVariants as note
use Rattle.dc_base.specs.declared.nodes.Node.{Node}
use Rattle.dc_base.specs.declared.nodes.Node.TheVariants.{M}
use Rattle.dc_base.specs.declared.records.Plan.{Plan}
use Rattle.node_rules.specs.MasterRecords.{is_moving}
use Rattle.node_rules.specs.declared.acts.Act.{Act}
use Rattle.node_rules.specs.declared.acts.Act.TheVariants.{Say as say}
use Rattle.node_rules.specs.declared.commands.Row.{Row}
use Rattle.run_control.specs.MasterControl.{active_at, active_only, own_act_sends, own_act_view, own_acts_sends, own_acts_view}
use Rattle.run_control.specs.SecondControl.{Views, holds_there, is_holding}
use Rattle.run_control.specs.Views.{Stage, View, has_status, holds, lacks_status}
use Rattle.run_control.proofs.Turns.{never}
use Rattle.run_pairs.proofs.Replies.{same_node}
use Rattle.run_places.specs.Tokens.{kept_at, kept_by}
use Rattle.run_places.proofs.Counting.{sent, sent_append}
use Rattle.run_places.proofs.Drawing.{draw_keeps, draw_silent, settled_waits}
use Rattle.run_places.proofs.Going.{go_keeps}
use Rattle.run_places.proofs.Items.{IsNamed}
use Rattle.run_places.proofs.States.{AreSingle, Course, Keeps, State, Turn, WaitsFor, carried_out, draws, goes_on, is_done, is_rejected, minor, one_then, proposed, row_in, set_before, settled, under_way}
use Rattle.run_places.proofs.TurnKeeps.{keeps_same, minors_same, minors_silent, same_itself}

-- ---- a plan ends

module _ (s : State) (p : Plan) (mv : Views) (rest : ℕ → ℕ) (at : s.course ≡ carried_out p []) (keeps : Keeps s mv rest) where
  none_waits : (k : ℕ) (o : Option View) → WaitsFor M (carried_out p []) k o → WaitsFor M settled k o
  none_waits k None is = tt
  none_waits k (Some v) is = λ idle. absurd (no_way (is idle).1)
    where
      no_way : false ≡ true → ⊥
      no_way e = absurd cc

  done_keeps : Keeps (record s { course = settled }) mv rest
  done_keeps = record {
    named = keeps.named;
    once = keeps.once;
    none = λ k none. omega (arith, keeps.none k none, ap (λ c. set_before c k) at);
    dropped = λ k gone. absurd gone;
    own = λ k r there here stays. keeps.own k r there here (ap (λ c. list_any (is_moving k M) (under_way c)) at);
    away = keeps.away;
    waits = λ k. none_waits k (mv k) (subst (λ c. WaitsFor M c k (mv k)) at (keeps.waits k));
    planned = tt;
    single = λ k y z one two. absurd cc;
  }

-- ---- it is rejected

active_few : (o : Option View) → kept_by (active_only o) ≤ kept_by o
active_few None = omega arith
active_few (Some v) = by v.stage refl
  where
    by : (n : Stage) → v.stage ≡ n → kept_by (active_at n v) ≤ kept_at n
    by holds is = omega (arith, ap kept_at is)
    by lacks_status is = omega arith
    by has_status is = omega arith

active_holds : (o : Option View) → holds_there o ≡ true → holds_there (active_only o) ≡ true
active_holds None is = absurd cc
active_holds (Some v) is = by v.stage refl is
  where
    by : (n : Stage) → v.stage ≡ n → is_holding n ≡ true → holds_there (active_at n v) ≡ true
    by holds at held = ap is_holding at
    by lacks_status at held = absurd cc
    by has_status at held = absurd cc

active_named : (k : ℕ) (o : Option View) → IsNamed k o → IsNamed k (active_only o)
active_named k None is = tt
active_named k (Some v) is = by v.stage
  where
    by : (n : Stage) → IsNamed k (active_at n v)
    by holds = is
    by lacks_status = tt
    by has_status = tt

active_waits : (x : Node) (c : Course) (k : ℕ) (o : Option View) → WaitsFor x c k (active_only o)
active_waits x c k None = tt
active_waits x c k (Some v) = by v.stage refl
  where
    by : (n : Stage) → v.stage ≡ n → WaitsFor x c k (active_at n v)
    by holds is = λ idle. absurd (never (is_holding v.stage) (ap is_holding is) idle)
    by lacks_status is = tt
    by has_status is = tt

module _ (s : State) (p : Plan) (who : Option Node) (mv : Views) (rest : ℕ → ℕ) (at : s.course ≡ proposed p who false) (keeps : Keeps s mv rest) where
  none_before : (o : Option Node) (k : ℕ) → set_before (proposed p o false) k ≡ 0
  none_before None k = refl
  none_before (Some x) k = refl

  rejected_keeps : Keeps (record s { course = settled }) (λ k. active_only (mv k)) rest
  rejected_keeps = record {
    named = λ k. active_named k (mv k) (keeps.named k);
    once = λ k. omega (arith, keeps.once k, active_few (mv k));
    none = λ k none. omega (arith, keeps.none k none, ap (λ c. set_before c k) at, none_before who k, active_few (mv k));
    dropped = λ k gone. absurd gone;
    own = λ k r there here stays. active_holds (mv k) (keeps.own k r there here (ap (λ c. list_any (is_moving k M) (under_way c)) at));
    away = keeps.away;
    waits = λ k. active_waits M settled k (mv k);
    planned = tt;
    single = λ k y z one two. absurd cc;
  }

-- ---- any turn

acts_append : (acts more : List Act) (v : Views) → own_acts_view (acts ++ more) v ≡ own_acts_view more (own_acts_view acts v)
acts_append [] more v = refl
acts_append (a ∷ acts) more v = acts_append acts more (own_act_view a v)

pub sends_append : (k : ℕ) (acts more : List Act) (v : Views) → sent k (own_acts_sends (acts ++ more) v) ≡ sent k (own_acts_sends acts v) + sent k (own_acts_sends more (own_acts_view acts v))
sends_append k [] more v = omega arith
sends_append k (a ∷ acts) more v =
    sent_append k (own_act_sends a v) (own_acts_sends (acts ++ more) (own_act_view a v))
    ∙ omega (arith, sends_append k acts more (own_act_view a v), sent_append k (own_act_sends a v) (own_acts_sends acts (own_act_view a v)))

pub turn_keeps : (s s' : State) (acts : List Act) (mv : Views) (rest : ℕ → ℕ) → Turn s acts s' → Keeps s mv rest → Keeps s' (own_acts_view acts mv) (λ k. rest k + sent k (own_acts_sends acts mv))
turn_keeps s s' acts mv rest (minor at acts' all) keeps =
    keeps_same s mv (own_acts_view acts mv) rest (λ k. rest k + sent k (own_acts_sends acts mv)) (minors_same acts mv all) (λ k. omega (arith, minors_silent acts mv k all)) keeps
turn_keeps s s' acts mv rest (draws at p who free is fresh) keeps =
    keeps_same s' (own_acts_view acts mv) (own_acts_view acts mv) rest (λ k. rest k + sent k (own_acts_sends acts mv)) (λ k. same_itself (own_acts_view acts mv k)) (λ k. omega (arith, draw_silent s p who mv rest free is keeps k))
    (draw_keeps s p who mv rest free is keeps)
turn_keeps s s' acts mv rest (goes_on at t p who agreed stands sure) keeps = go_keeps s t p who agreed mv rest stands sure keeps
turn_keeps s s' acts mv rest (is_done at p stands) keeps =
    keeps_same s' mv mv rest (λ k. rest k + sent k (own_acts_sends [] mv)) (λ k. same_itself (mv k)) (λ k. omega arith) (done_keeps s p mv rest stands keeps)
turn_keeps s s' acts mv rest (is_rejected at p who stands) keeps =
    keeps_same s' (λ k. active_only (mv k)) (λ k. active_only (mv k)) rest (λ k. rest k + sent k (own_acts_sends (say note.Rejected ∷ []) mv)) (λ k. same_itself (active_only (mv k))) (λ k. omega arith) (rejected_keeps s p who mv rest stands keeps)
turn_keeps s s' acts mv rest (one_then at s1 at2 acts1 more one two) keeps =
    let first = turn_keeps s s1 acts1 mv rest one keeps in
    let then' = turn_keeps s1 s' more (own_acts_view acts1 mv) (λ k. rest k + sent k (own_acts_sends acts1 mv)) two first in
    subst (λ v. Keeps s' v (λ k. rest k + sent k (own_acts_sends (acts1 ++ more) mv))) (sym (acts_append acts1 more mv))
    (keeps_same s' (own_acts_view more (own_acts_view acts1 mv)) (own_acts_view more (own_acts_view acts1 mv)) (λ k. (rest k + sent k (own_acts_sends acts1 mv)) + sent k (own_acts_sends more (own_acts_view acts1 mv)))
    (λ k. rest k + sent k (own_acts_sends (acts1 ++ more) mv)) (λ k. same_itself (own_acts_view more (own_acts_view acts1 mv) k)) (λ k. omega (arith, sends_append k acts1 more mv)) then')

-- ---- an adoption

-- the bearer moves no longer to the node
abbrev pub without : ℕ → Node → List (ℕ × Node) → List (ℕ × Node)
without id y zs = filter (λ z. not (is_moving id y z)) zs

-- what moves still, moved before
pub without_some : (id : ℕ) (y : Node) (k : ℕ) (z : Node) (zs : List (ℕ × Node)) → list_any (is_moving k z) (without id y zs) ≡ true → list_any (is_moving k z) zs ≡ true
without_some id y k z [] is = is
without_some id y k z (q ∷ zs) is = by (is_moving id y q) is (without_some id y k z zs)
  where
    or_right : (b d : Bool) → d ≡ true → (b || d) ≡ true
    or_right true d so = refl
    or_right false d so = so

    left : (b d : Bool) → (b || d) ≡ true → (d ≡ true → list_any (is_moving k z) zs ≡ true) → (b || list_any (is_moving k z) zs) ≡ true
    left true d so more = refl
    left false d so more = more so

    by : (b : Bool) → list_any (is_moving k z) (if not b then q ∷ without id y zs else without id y zs) ≡ true → (list_any (is_moving k z) (without id y zs) ≡ true → list_any (is_moving k z) zs ≡ true)
        → (is_moving k z q || list_any (is_moving k z) zs) ≡ true
    by true so more = or_right (is_moving k z q) (list_any (is_moving k z) zs) (more so)
    by false so more = left (is_moving k z q) (list_any (is_moving k z) (without id y zs)) so more

-- other bearers, or to other nodes, move as before
pub without_other : (id : ℕ) (y : Node) (k : ℕ) (z : Node) (zs : List (ℕ × Node)) → ((id == k) && is_same_node y z) ≡ false → list_any (is_moving k z) zs ≡ true → list_any (is_moving k z) (without id y zs) ≡ true
without_other id y k z [] apart is = is
without_other id y k z (q ∷ zs) apart is = by (is_moving id y q) refl is (without_other id y k z zs apart)
  where
    both : (b d : Bool) → (b && d) ≡ true → (b ≡ true) × (d ≡ true)
    both true true so = (refl, refl)
    both true false so = absurd cc
    both false d so = absurd cc

    not_it : is_moving id y q ≡ true → is_moving k z q ≡ false
    not_it mine = one (is_moving k z q) refl
      where
        one : (b : Bool) → is_moving k z q ≡ b → b ≡ false
        one false so = refl
        one true so =
            let p1 = both (q.0 == id) (is_same_node y q.1) mine in
            let p2 = both (q.0 == k) (is_same_node z q.1) so in
            absurd
            (never ((id == k) && is_same_node y z)
            (ap (λ n. (n == k) && is_same_node y z) (sym (eqb-true q.0 id p1.0)) ∙ ap (λ b. b && is_same_node y z) p2.0 ∙ ap (is_same_node y) (same_node z q.1 p2.1) ∙ p1.1) apart)

    or_right : (b d : Bool) → d ≡ true → (b || d) ≡ true
    or_right true d so = refl
    or_right false d so = so

    keep : (b d e : Bool) → (b || d) ≡ true → (d ≡ true → e ≡ true) → (b || e) ≡ true
    keep true d e so more = refl
    keep false d e so more = more so

    by : (b : Bool) → is_moving id y q ≡ b → (is_moving k z q || list_any (is_moving k z) zs) ≡ true → (list_any (is_moving k z) zs ≡ true → list_any (is_moving k z) (without id y zs) ≡ true)
        → list_any (is_moving k z) (if not b then q ∷ without id y zs else without id y zs) ≡ true
    by true mine so more = more (sym (ap (λ b. b || list_any (is_moving k z) zs) (not_it mine)) ∙ so)
    by false other so more = keep (is_moving k z q) (list_any (is_moving k z) zs) (list_any (is_moving k z) (without id y zs)) so more

-- a waiting anchor of another bearer, or of another node, waits on; that of this one has its bearer
pub adopt_waits : (x : Node) (p : Plan) (zs : List (ℕ × Node)) (id : ℕ) (y : Node) (k : ℕ) (o : Option View) → (((id == k) && is_same_node y x) ≡ true → holds_there o ≡ true) → WaitsFor x (carried_out p zs) k o → WaitsFor x (carried_out p (without id y zs)) k o
adopt_waits x p zs id y k None sure is = tt
adopt_waits x p zs id y k (Some v) sure is = λ idle. (let so = is idle in (so.0, by ((id == k) && is_same_node y x) refl idle so.1))
  where
    by : (b : Bool) → ((id == k) && is_same_node y x) ≡ b → is_holding v.stage ≡ false → list_any (is_moving k x) zs ≡ true → list_any (is_moving k x) (without id y zs) ≡ true
    by true mine idle moves = absurd (never (is_holding v.stage) (sure mine) idle)
    by false other idle moves = without_other id y k x zs other moves

pub adopt_keeps : (s : State) (p : Plan) (zs : List (ℕ × Node)) (id : ℕ) (y : Node) (mv : Views) (rest : ℕ → ℕ) → s.course ≡ carried_out p zs → (y ≡ M → holds_there (mv id) ≡ true) → Keeps s mv rest
    → Keeps (record s { course = carried_out p (without id y zs) }) mv rest
adopt_keeps s p zs id y mv rest at sure keeps = record {
  named = keeps.named;
  once = keeps.once;
  none = λ k none. omega (arith, keeps.none k none, ap (λ c. set_before c k) at);
  dropped = λ k gone. absurd gone;
  own = own;
  away = keeps.away;
  waits = λ k. adopt_waits M p zs id y k (mv k) (here k) (subst (λ c. WaitsFor M c k (mv k)) at (keeps.waits k));
  planned = tt;
  single = λ k w z one two. (subst (λ c. AreSingle (under_way c)) at keeps.single) k w z (without_some id y k w zs one) (without_some id y k z zs two);
}
  where
    both : (b d : Bool) → (b && d) ≡ true → (b ≡ true) × (d ≡ true)
    both true true so = (refl, refl)
    both true false so = absurd cc
    both false d so = absurd cc

    here : (k : ℕ) → ((id == k) && is_same_node y M) ≡ true → holds_there (mv k) ≡ true
    here k mine =
        let so = both (id == k) (is_same_node y M) mine in
        subst (λ j. holds_there (mv j) ≡ true) (eqb-true id k so.0) (sure (same_node y M so.1))

    own : (k : ℕ) (r : Row) → row_in k s.rows ≡ Some r → r.anchor ≡ M → list_any (is_moving k M) (without id y zs) ≡ false → holds_there (mv k) ≡ true
    own k r there at' stays = by ((id == k) && is_same_node y M) refl (list_any (is_moving k M) zs) refl
      where
        by : (b : Bool) → ((id == k) && is_same_node y M) ≡ b → (d : Bool) → list_any (is_moving k M) zs ≡ d → holds_there (mv k) ≡ true
        by true mine d moves = here k mine
        by false other true moves = absurd (never (list_any (is_moving k M) (without id y zs)) (without_other id y k M zs other moves) stays)
        by false other false moves = keeps.own k r there at' (ap (λ c. list_any (is_moving k M) (under_way c)) at ∙ moves)
