-- Which states of the master's procedures are settled: after the releases that wait were tried, and where a command ends or waits on.
use Rattle.std.proofs.Common.{ℕ, ◌≡◌, Bool, true, false, List, [], ◌∷◌, Option, Some, None, refl, sym, ap, subst, ◌∙◌}
use Rattle.dc_base.specs.Nodes.{is_same_node, is_secondary}
use Rattle.dc_base.specs.declared.events.Event.TheVariants as event
use Rattle.dc_base.specs.declared.events.Note.{Note}
use Rattle.dc_base.specs.declared.events.Note.TheVariants as note
use Rattle.dc_base.specs.declared.nodes.Node.{Node}
use Rattle.dc_base.specs.declared.nodes.Node.TheVariants.{A, B, M, T}
use Rattle.dc_base.specs.declared.records.Plan.{Plan}
use Rattle.node_rules.specs.Drafts.{Draft, draft}
use Rattle.node_rules.specs.MasterEnds.{ends, ends_gone, ends_recovering, forgetting, is_release_spent, releases_if, retries, tried_first, tries, tries_if, tries_now, waits_for}
use Rattle.node_rules.specs.MasterGo.{goes, lets_go}
use Rattle.node_rules.specs.MasterState.{MasterActs, MasterProc, waits_at, with_waits}
use Rattle.node_rules.specs.Places.{is_at, other_second}
use Rattle.node_rules.specs.declared.acts.Act.{Act}
use Rattle.node_rules.specs.declared.commands.Change.{Change}
use Rattle.node_rules.specs.declared.commands.Command.{Command}
use Rattle.node_rules.specs.declared.commands.Command.TheVariants.{Asked as asked, Gone as gone, Recovering as recovering}
use Rattle.node_rules.specs.declared.commands.Going.{Going}
use Rattle.node_rules.specs.declared.commands.Way.{Way}
use Rattle.run_agreed.specs.Stalls.{IsNotOver, IsSettled}

-- ---- which states are settled

-- one with a command that waits for something
pub with_command : (m : MasterProc) (c : Command) → m.command ≡ Some c → IsNotOver (Some c) → IsSettled m
with_command m c is waits = record {
  command = subst IsNotOver (sym is) waits;
  spent = λ x free waiting. let bad : None ≡ Some c = sym free ∙ is in absurd (cc bad);
}

-- one without a command, where no release of either node waits that could begin
abbrev pub Spent : MasterProc → Node → Type 0
Spent m x = waits_at m x ≡ true → is_release_spent m.table (draft m.table event.Release) ≡ true

pub without_command : (m : MasterProc) → m.command ≡ None → Spent m A → Spent m B → IsSettled m
without_command m free a b = record {
  command = subst IsNotOver (sym free) tt;
  spent = λ x f. by x;
}
  where
    by : (x : Node) → Spent m x
    by A = a
    by B = b
    by T = λ waiting. absurd cc
    by M = λ waiting. absurd cc

-- ---- the releases that wait

-- after one is tried that was free: a command is open, or none is, that one is spent, and the other is as it was
pub data Tried (m : MasterProc) (x : Node) (r : MasterActs) : Type 0 where
  went_on : (c : Command) → (is : r.0.command ≡ Some c) → (waits : IsNotOver (Some c)) → Tried m x r
  stays : (free : r.0.command ≡ None) → (spent : Spent r.0 x) → (table : r.0.table ≡ m.table) → (other : (y : Node) → is_same_node x y ≡ false → waits_at r.0 y ≡ waits_at m y) → Tried m x r

lets_go_tried : (m : MasterProc) (x : Node) (d : Draft) → Tried m x (lets_go (with_waits false x m) x d)
lets_go_tried m x d = went_on _ refl (λ complete none. let bad : false ≡ true = complete in cc)

-- without a draft nothing is spent, but a release has one
releases_tried : (m : MasterProc) (x : Node) (b : Bool) (o : Option Draft) → m.command ≡ None → draft m.table event.Release ≡ o → is_release_spent m.table (draft m.table event.Release) ≡ b → Tried m x (releases_if m x b o)
releases_tried m x b None free is spent = no_draft is
  where
    no_draft : draft m.table event.Release ≡ None → Tried m x (releases_if m x b None)
    no_draft bad = absurd cc
releases_tried m x true (Some d) free is spent = stays free (λ waiting. spent) refl (λ y other. refl)
releases_tried m x false (Some d) free is spent = lets_go_tried m x d

-- a release is answered that is needless
needless_tried : (m : MasterProc) (x : Node) (acts : List Act) → is_secondary x ≡ true → m.command ≡ None → Tried m x (with_waits false x m, acts)
needless_tried m A acts second free = stays free (λ waiting. let bad : false ≡ true = waiting in cc) refl by
  where
    by : (y : Node) → is_same_node A y ≡ false → waits_at (with_waits false A m) y ≡ waits_at m y
    by A other = absurd cc
    by B other = refl
    by T other = refl
    by M other = refl
needless_tried m B acts second free = stays free (λ waiting. let bad : false ≡ true = waiting in cc) refl by
  where
    by : (y : Node) → is_same_node B y ≡ false → waits_at (with_waits false B m) y ≡ waits_at m y
    by A other = refl
    by B other = absurd cc
    by T other = refl
    by M other = refl
needless_tried m T acts second free = absurd cc
needless_tried m M acts second free = absurd cc

tried_now : (m : MasterProc) (x : Node) (b : Bool) → is_secondary x ≡ true → m.command ≡ None → Tried m x (tries_now m x b)
tried_now m x true second free = releases_tried m x (is_release_spent m.table (draft m.table event.Release)) (draft m.table event.Release) free refl refl
tried_now m x false second free = needless_tried m x _ second free

tried_if : (m : MasterProc) (x : Node) (b : Bool) → is_secondary x ≡ true → m.command ≡ None → waits_at m x ≡ b → Tried m x (tries_if m x b m.command)
tried_if m x b second free waiting = subst (λ o. Tried m x (tries_if m x b o)) (sym free) (by b waiting)
  where
    by : (d : Bool) → waits_at m x ≡ d → Tried m x (tries_if m x d None)
    by false none = stays free (λ waiting'. let bad : false ≡ true = sym none ∙ waiting' in cc) refl (λ y other. refl)
    by true some' = tried_now m x (is_at x m.table.sec) second free

pub tried : (m : MasterProc) (x : Node) → is_secondary x ≡ true → m.command ≡ None → Tried m x (tries x m)
tried m x second free = tried_if m x (waits_at m x) second free refl

-- with a command that is open nothing is tried
pub busy_tries : (m : MasterProc) (x : Node) (c : Command) → m.command ≡ Some c → tries x m ≡ (m, [])
busy_tries m x c is = ap (λ o. tries_if m x (waits_at m x) o) is ∙ by (waits_at m x) c
  where
    by : (b : Bool) (d : Command) → tries_if m x b (Some d) ≡ (m, [])
    by false d = refl
    by true (asked c' first who wanted) = refl
    by true (gone plan going) = refl
    by true (recovering id t z) = refl

other_is : (x : Node) → is_secondary (other_second x) ≡ true
other_is A = refl
other_is B = refl
other_is M = refl
other_is T = refl

first_is : (sec : Option Node) → is_secondary (tried_first sec) ≡ true
first_is None = refl
first_is (Some A) = refl
first_is (Some B) = refl
first_is (Some M) = refl
first_is (Some T) = refl

-- after both
both_settled : (m : MasterProc) (x : Node) → is_secondary x ≡ true → m.command ≡ None → IsSettled (tries (other_second x) (tries x m).0).0
both_settled m x second free = by (tries x m) (tried m x second free)
  where
    two : (k : MasterProc) (r : MasterActs) → is_secondary x ≡ true → Spent k x → Tried k (other_second x) r → IsSettled r.0
    two k r second' spent (went_on c is waits) = with_command r.0 c is waits
    two k r second' spent (stays free' spent' table other) = pick x second' spent spent' other
      where
        pick : (y : Node) → is_secondary y ≡ true → Spent k y → Spent r.0 (other_second y) → ((z : Node) → is_same_node (other_second y) z ≡ false → waits_at r.0 z ≡ waits_at k z) → IsSettled r.0
        pick A s mine theirs same =
            without_command r.0 free' (λ waiting. ap (λ t. is_release_spent t (draft t event.Release)) table ∙ mine (sym (same A refl) ∙ waiting)) theirs
        pick B s mine theirs same =
            without_command r.0 free' theirs (λ waiting. ap (λ t. is_release_spent t (draft t event.Release)) table ∙ mine (sym (same B refl) ∙ waiting))
        pick T s mine theirs same = absurd cc
        pick M s mine theirs same = absurd cc

    by : (r : MasterActs) → Tried m x r → IsSettled (tries (other_second x) r.0).0
    by r (went_on c is waits) = subst (λ (q : MasterActs). IsSettled q.0) (sym (busy_tries r.0 (other_second x) c is)) (with_command r.0 c is waits)
    by r (stays free' spent table other) = two r.0 (tries (other_second x) r.0) second spent (tried r.0 (other_second x) (other_is x) free')

retries_settled : (m : MasterProc) → m.command ≡ None → IsSettled (retries m).0
retries_settled m free = both_settled m (tried_first m.table.sec) (first_is m.table.sec) free

-- ---- a command ends, or waits on

pub ends_settled : (m : MasterProc) (acts : List Act) (how : Note) → IsSettled (ends m acts how).0
ends_settled m acts how = retries_settled (record m { command = None }) refl

ends_gone_settled : (m : MasterProc) (p : Plan) (w : Going) (complete : Bool) (moving : List (ℕ × Node)) → m.command ≡ Some (gone p w) → w.complete ≡ complete → w.moving ≡ moving → IsSettled (ends_gone m p w complete moving).0
ends_gone_settled m p w false moving opened is left = with_command m (gone p w) opened (λ complete none. let bad : false ≡ true = sym is ∙ complete in cc)
ends_gone_settled m p w true (x ∷ xs) opened is left = with_command m (gone p w) opened (λ complete none. let bad : x ∷ xs ≡ [] = sym left ∙ none in cc)
ends_gone_settled m p w true [] opened is left = ends_settled m (forgetting w.leaving p.g) note.Done

ends_recovering_settled : (m : MasterProc) (id : ℕ) (t : Bool) (z : Option Node) → m.command ≡ Some (recovering id t z) → IsSettled (ends_recovering m t z).0
ends_recovering_settled m id false None opened = ends_settled m [] note.Done
ends_recovering_settled m id false (Some x) opened = with_command m (recovering id false (Some x)) opened (λ t none. let bad : Some x ≡ None = none in cc)
ends_recovering_settled m id true z opened = with_command m (recovering id true z) opened (λ t none. let bad : true ≡ false = t in cc)

pub goes_on_settled : (m : MasterProc) (p : Plan) (w : Going) → IsSettled (waits_for m (gone p w)).0
goes_on_settled m p w = ends_gone_settled (record m { command = Some (gone p w) }) p w w.complete w.moving refl refl refl

pub recovers_on_settled : (m : MasterProc) (id : ℕ) (t : Bool) (z : Option Node) → IsSettled (waits_for m (recovering id t z)).0
recovers_on_settled m id t z = ends_recovering_settled (record m { command = Some (recovering id t z) }) id t z refl

pub goes_settled : (m : MasterProc) (c : Change) (w : Way) → IsSettled (goes m c w).0
goes_settled m c w = with_command (goes m c w).0 _ refl (λ complete none. let bad : false ≡ true = complete in cc)
