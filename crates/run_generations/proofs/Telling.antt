-- Plans that the master's procedures tell a node of are newer than those before: a command begins, goes and ends.
use Rattle.std.proofs.Common.{ℕ, ◌≡◌, ◌≤◌, ◌+◌, ◌++◌, Bool, true, false, List, [], ◌∷◌, Option, Some, None, refl, sym, ap, subst, ◌∙◌, append_assoc, arith}
use Rattle.std.specs.Prelude.{if◌then◌else◌, is_some, ⊤, ◌&&◌}
use Rattle.std.specs.Option.{option_map}
use Rattle.std.proofs.lemmas.Bool.Decides.{nat_tests}
use Rattle.std.proofs.lemmas.List.{append-nil}
use Rattle.dc_base.specs.Nodes.{is_same_node}
use Rattle.dc_base.specs.declared.events.Event.TheVariants as event
use Rattle.dc_base.specs.declared.events.Note.{Note}
use Rattle.dc_base.specs.declared.events.Note.TheVariants as note
use Rattle.dc_base.specs.declared.nodes.Node.{Node}
use Rattle.dc_base.specs.declared.nodes.Node.TheVariants.{A, B, M, T}
use Rattle.dc_base.specs.declared.nodes.Want.TheVariants as want
use Rattle.dc_base.specs.declared.records.Plan.{Plan}
use Rattle.dc_base.specs.declared.records.Rec.{Rec}
use Rattle.dc_base.specs.declared.records.Rec.TheVariants as rec
use Rattle.node_rules.specs.CommandTable.{Table}
use Rattle.node_rules.specs.Drafts.{Draft, draft}
use Rattle.node_rules.specs.MasterEnds.{and_then, ends, ends_gone, ends_recovering, forgetting, is_release_spent, nothing_to_release, releases_if, retries, tried_first, tries, tries_if, tries_now, waits_for}
use Rattle.node_rules.specs.MasterGo.{alone, before_acts, begins, begins_by, begins_if, drawn, first_record, goes, leave_acts, leave_record, let_go, lets_go, moves_here, preparing}
use Rattle.node_rules.specs.MasterState.{MasterActs, MasterProc, waits_at, with_waits}
use Rattle.node_rules.specs.Places.{is_at, other_second}
use Rattle.node_rules.specs.declared.acts.Act.{Act}
use Rattle.node_rules.specs.declared.acts.Act.TheVariants.{Prepare as prepare, Say as say, Send as send}
use Rattle.node_rules.specs.declared.commands.Change.{Change}
use Rattle.node_rules.specs.declared.commands.Command.{Command}
use Rattle.node_rules.specs.declared.commands.Command.TheVariants.{Asked as asked, Gone as gone, Recovering as recovering}
use Rattle.node_rules.specs.declared.commands.First.{First}
use Rattle.node_rules.specs.declared.commands.First.TheVariants.{Addition as addition, Modification as modification, Release as release}
use Rattle.node_rules.specs.declared.commands.Going.{Going}
use Rattle.node_rules.specs.declared.commands.Leaving.{Leaving}
use Rattle.node_rules.specs.declared.commands.Leaving.TheVariants.{ByChangeConfirm as by_change_confirm, ByReleaseConfirm as by_release_confirm, ByRequest as by_request}
use Rattle.node_rules.specs.declared.commands.Way.{Way}
use Rattle.run_control.specs.Sound.{IsSecond}
use Rattle.run_control.proofs.Sent.{either}
use Rattle.run_control.proofs.Sound.{first_is, other_is}
use Rattle.run_generations.specs.Newer.{Between, FirstAsksOther, IsDrawn, IsDrawnBy, IsNewer, IsNextDraft, fresh_by, fresh_from, later, plan_generation, told_in, told_to}

-- ---- ascending generations

between_later : (i j k : ℕ) (gs : List ℕ) → i ≤ j → Between j gs k → Between i gs k
between_later i j k [] le is = omega (arith, le, is)
between_later i j k (g ∷ gs) le is = (omega (arith, le, is.0), is.1)

pub between_append : (i j k : ℕ) (xs ys : List ℕ) → Between i xs j → Between j ys k → Between i (xs ++ ys) k
between_append i j k [] ys le is = between_later i j k ys le is
between_append i j k (x ∷ xs) ys first then' = (first.0, between_append (x + 1) j k xs ys first.1 then')

pub later_is : (g : ℕ) → 1 ≤ g → later g ≡ g ∷ []
later_is g one = grind (arith, nat_tests, one)

-- ---- acts, and one step after another

module _ (y : Node) where
  pub told_append : (xs ys : List Act) → told_in y (xs ++ ys) ≡ told_in y xs ++ told_in y ys
  told_append [] ys = refl
  told_append (x ∷ xs) ys = ap (λ zs. told_to y x ++ zs) (told_append xs ys) ∙ sym (append_assoc (told_to y x) (told_in y xs) (told_in y ys))

  -- a record without a plan
  pub none_told : (to : Node) (r : Rec) → plan_generation r ≡ [] → told_in y (send to r ∷ []) ≡ []
  none_told to r none = ap (λ zs. zs ++ []) (either (λ zs. zs ≡ []) (is_same_node y to) (plan_generation r) [] none refl)

  pub before_newer : (k : ℕ) (acts : List Act) (r : MasterActs) → told_in y acts ≡ [] → IsNewer y k r → IsNewer y k (before_acts acts r)
  before_newer k acts r none newer = record {
    told = subst (λ gs. Between k gs (fresh_from y r.0)) (sym (told_append acts r.1 ∙ ap (λ zs. zs ++ told_in y r.1) none)) newer.told;
    drawn = newer.drawn;
  }

  pub then_newer : (k : ℕ) (r : MasterActs) (f : MasterProc → MasterActs) → IsNewer y k r → IsNewer y (fresh_from y r.0) (f r.0) → IsNewer y k (and_then r f)
  then_newer k r f first then' = record {
    told = subst (λ gs. Between k gs (fresh_from y (f r.0).0)) (sym (told_append r.1 (f r.0).1))
        (between_append k (fresh_from y r.0) (fresh_from y (f r.0).0) (told_in y r.1) (told_in y (f r.0).1) first.told then'.told);
    drawn = then'.drawn;
  }

  pub lower_newer : (j k : ℕ) (r : MasterActs) → j ≤ k → IsNewer y k r → IsNewer y j r
  lower_newer j k r le newer = record { told = between_later j k (fresh_from y r.0) (told_in y r.1) le newer.told; drawn = newer.drawn }

  -- nothing comes of it
  pub stays_newer : (m : MasterProc) → IsDrawn m → IsNewer y (fresh_from y m) (m, [])
  stays_newer m drawn = record { told = omega arith; drawn = drawn }

  -- ---- a plan is carried out

  leave_generation : (how : Leaving) (p : Plan) → plan_generation (leave_record how p) ≡ later p.g
  leave_generation by_request p = refl
  leave_generation by_change_confirm p = refl
  leave_generation by_release_confirm p = refl

  -- the node is told of it since it leaves
  abbrev pub leaves : Way → Bool
  leaves w = is_at y w.leaving && is_some w.told

  -- of the acts by which it goes
  pub record MayHear (k g : ℕ) (w : Way) : Type 0 where
    pub terminal : is_same_node y T ≡ true → k ≤ g
    pub leaver : leaves w ≡ true → k ≤ g
    pub above : k ≤ g + 1

  leave_told : (x : Option Node) (how : Option Leaving) (p : Plan) → told_in y (leave_acts x how p) ≡ (if is_at y x && is_some how then later p.g else [])
  leave_told None how p = refl
  leave_told (Some x) None p = untold (is_same_node y x) (later p.g)
    where
      untold : (b : Bool) (gs : List ℕ) → ◌≡◌ {A = List ℕ} [] (if b && false then gs else [])
      untold true gs = refl
      untold false gs = refl
  leave_told (Some x) (Some how) p = told (is_same_node y x) (plan_generation (leave_record how p)) (leave_generation how p)
    where
      told : (b : Bool) (gs : List ℕ) → gs ≡ later p.g → (if b then gs else []) ++ [] ≡ (if b && true then later p.g else [])
      told true gs is = append-nil gs ∙ is
      told false gs is = refl

  -- no node that leaves is the terminal
  not_both : (w : Way) → IsSecond w.leaving → is_same_node y T ≡ true → leaves w ≡ true → ⊥
  not_both w second terminal leaver = by y w.leaving terminal second (left_of (is_at y w.leaving) (is_some w.told) leaver)
    where
      by : (z : Node) (o : Option Node) → is_same_node z T ≡ true → IsSecond o → is_at z o ≡ true → ⊥
      by T None is second at = absurd cc
      by T (Some T) is second at = absurd cc
      by T (Some M) is second at = absurd cc
      by T (Some A) is second at = absurd cc
      by T (Some B) is second at = absurd cc
      by M o is second at = absurd cc
      by A o is second at = absurd cc
      by B o is second at = absurd cc

      left_of : (a b : Bool) → (a && b) ≡ true → a ≡ true
      left_of true b is = refl
      left_of false b is = absurd cc

  heard : (k g : ℕ) (w : Way) (t l : Bool) → 1 ≤ g → is_same_node y T ≡ t → leaves w ≡ l → IsSecond w.leaving → MayHear k g w
      → Between k ((if t then later g else []) ++ (if l then later g else [])) (g + 1)
  heard k g w true true one terminal leaver second may = absurd (not_both w second terminal leaver)
  heard k g w true false one terminal leaver second may = rw (later_is g one) (may.terminal terminal, omega arith)
  heard k g w false true one terminal leaver second may = rw (later_is g one) (may.leaver leaver, omega arith)
  heard k g w false false one terminal leaver second may = may.above

  pub goes_newer : (k : ℕ) (m : MasterProc) (c : Change) (w : Way) → c.plan.g ≡ m.table.last → 1 ≤ m.table.last → IsSecond w.leaving → MayHear k c.plan.g w → IsNewer y k (goes m c w)
  goes_newer k m c w same one second may = record {
    told = subst (λ gs. Between k gs (m.table.last + 1)) (sym (told_is c w))
        (subst (λ g. Between k ((if is_same_node y T then later c.plan.g else []) ++ (if leaves w then later c.plan.g else [])) (g + 1)) same
        (heard k c.plan.g w (is_same_node y T) (leaves w) (subst (λ g. 1 ≤ g) (sym same) one) refl refl second may));
    drawn = tt;
  }
    where
      told_is : (c : Change) (w : Way) → told_in y (goes m c w).1 ≡ (if is_same_node y T then later c.plan.g else []) ++ (if leaves w then later c.plan.g else [])
      told_is c w = ap (λ gs. (if is_same_node y T then later c.plan.g else []) ++ gs) (leave_told w.leaving w.told c.plan)

  -- ---- a command begins

  preparing_none : (p : Plan) → told_in y (preparing p) ≡ []
  preparing_none p = either (λ acts. told_in y acts ≡ []) (moves_here p) (prepare p ∷ []) [] refl refl

  first_generation : (roots : List (List ℕ)) (first : First) (c : Change) → plan_generation (first_record roots first c) ≡ later c.plan.g
  first_generation roots addition c = refl
  first_generation roots modification c = refl
  first_generation roots release c = refl

  asked_told : (last g : ℕ) (first : First) (who : Node) (r : Rec) (b : Bool) → plan_generation r ≡ later g → g ≡ last + 1 → is_same_node y who ≡ b
      → Between (last + 1) ((if b then plan_generation r else []) ++ []) (if b then g + 1 else g)
  asked_told last g first who r true is next same = rw (is, later_is g (omega (arith, next))) (omega (arith, next), omega arith)
  asked_told last g first who r false is next same = omega (arith, next)

  begins_by_newer : (m : MasterProc) (d : Draft) (wanted : Bool) (o : Option (First × Node)) → d.change.plan.g ≡ m.table.last + 1 → FirstAsksOther o m.table.sec
      → IsNewer y (m.table.last + 1) (begins_by (drawn m d) d wanted o)
  begins_by_newer m d wanted None next other =
      goes_newer (m.table.last + 1) (drawn m d) d.change alone refl (omega (arith, next)) tt (record { terminal = λ t. omega (arith, next); leaver = λ l. omega (arith, next); above = omega (arith, next) })
  begins_by_newer m d wanted (Some (first, who)) next other = record {
    told = asked_told m.table.last d.change.plan.g first who (first_record d.book.roots first d.change) (is_same_node y who) (first_generation d.book.roots first d.change) next refl;
    drawn = (refl, omega (arith, next), other);
  }

  pub begins_newer : (m : MasterProc) (d : Draft) (wanted : Bool) → IsNextDraft m.table (Some d) → IsNewer y (m.table.last + 1) (begins m d wanted)
  begins_newer m d wanted next = before_newer (m.table.last + 1) (preparing d.change.plan) (begins_by (drawn m d) d wanted d.first) (preparing_none d.change.plan) (begins_by_newer m d wanted d.first next.0 next.1)

  pub begins_if_newer : (m : MasterProc) (wanted : Bool) (o : Option Draft) → IsNextDraft m.table o → m.command ≡ None → IsNewer y (m.table.last + 1) (begins_if m wanted o)
  begins_if_newer m wanted None next free =
      record { told = subst (λ c. m.table.last + 1 ≤ fresh_by y m.table.last c) (sym free) (omega arith); drawn = subst (λ c. IsDrawnBy m.table c) (sym free) tt }
  begins_if_newer m wanted (Some d) next free = begins_newer m d wanted next

  -- ---- releases that wait

  lets_go_newer : (m : MasterProc) (x : Node) (d : Draft) → IsSecond (Some x) → d.change.plan.g ≡ m.table.last + 1 → IsNewer y (m.table.last + 1) (lets_go m x d)
  lets_go_newer m x d second next =
      before_newer (m.table.last + 1) (say (note.Begin want.Release) ∷ preparing d.change.plan) (goes (drawn m d) d.change (let_go x)) (preparing_none d.change.plan)
      (goes_newer (m.table.last + 1) (drawn m d) d.change (let_go x) refl (omega (arith, next)) second
      (record { terminal = λ t. omega (arith, next); leaver = λ l. omega (arith, next); above = omega (arith, next) }))

  -- a node waits, or does not any more: nothing is drawn, and nothing goes
  pub waits_fresh : (b : Bool) (x : Node) (m : MasterProc) → fresh_from y (with_waits b x m) ≡ fresh_from y m
  waits_fresh b A m = refl
  waits_fresh b B m = refl
  waits_fresh b M m = refl
  waits_fresh b T m = refl

  pub waits_drawn : (b : Bool) (x : Node) (m : MasterProc) → IsDrawn m → IsDrawn (with_waits b x m)
  waits_drawn b A m is = is
  waits_drawn b B m is = is
  waits_drawn b M m is = is
  waits_drawn b T m is = is

  waits_last : (b : Bool) (x : Node) (m : MasterProc) → (with_waits b x m).table.last ≡ m.table.last
  waits_last b A m = refl
  waits_last b B m = refl
  waits_last b M m = refl
  waits_last b T m = refl

  -- with no command open
  pub free_stays : (m : MasterProc) → m.command ≡ None → IsNewer y (m.table.last + 1) (m, [])
  free_stays m free = record { told = subst (λ c. m.table.last + 1 ≤ fresh_by y m.table.last c) (sym free) (omega arith); drawn = subst (λ c. IsDrawnBy m.table c) (sym free) tt }

  releases_newer : (m : MasterProc) (x : Node) (spent : Bool) (o : Option Draft) → IsSecond (Some x) → IsNextDraft m.table o → m.command ≡ None → IsNewer y (m.table.last + 1) (releases_if m x spent o)
  releases_newer m x spent None second next free = free_stays m free
  releases_newer m x true (Some d) second next free = free_stays m free
  releases_newer m x false (Some d) second next free =
      lower_newer (m.table.last + 1) ((with_waits false x m).table.last + 1) (lets_go (with_waits false x m) x d) (omega (arith, waits_last false x m))
      (lets_go_newer (with_waits false x m) x d second (next.0 ∙ ap (λ k. k + 1) (sym (waits_last false x m))))

  -- the plan of a release asks the secondary node, if there is one
  release_next : (t : Table) → IsNextDraft t (draft t event.Release)
  release_next t = (refl, by t.sec)
    where
      by : (o : Option Node) → FirstAsksOther (option_map (λ x. (release, x)) o) t.sec
      by None = tt
      by (Some x) = tt

  tries_now_newer : (m : MasterProc) (x : Node) (there : Bool) → IsSecond (Some x) → m.command ≡ None → IsNewer y (m.table.last + 1) (tries_now m x there)
  tries_now_newer m x true second free = releases_newer m x (is_release_spent m.table (draft m.table event.Release)) (draft m.table event.Release) second (release_next m.table) free
  tries_now_newer m x false second free = record {
    told = subst (λ gs. Between (m.table.last + 1) gs (fresh_from y (with_waits false x m))) (sym (none_told x nothing_to_release refl))
        (subst (λ k. m.table.last + 1 ≤ k) (sym (waits_fresh false x m)) (free_stays m free).told);
    drawn = waits_drawn false x m (free_stays m free).drawn;
  }

  tries_if_newer : (m : MasterProc) (x : Node) (waits : Bool) (c : Option Command) → IsSecond (Some x) → m.command ≡ c → IsDrawnBy m.table c → IsNewer y (fresh_by y m.table.last c) (tries_if m x waits c)
  tries_if_newer m x false c second is drawn = of_state m c is drawn
    where
      of_state : (m : MasterProc) (c : Option Command) → m.command ≡ c → IsDrawnBy m.table c → IsNewer y (fresh_by y m.table.last c) (m, [])
      of_state m c is drawn = subst (λ d. IsNewer y (fresh_by y m.table.last d) (m, [])) is (stays_newer m (subst (λ d. IsDrawnBy m.table d) (sym is) drawn))
  tries_if_newer m x true None second is drawn = tries_now_newer m x (is_at x m.table.sec) second is
  tries_if_newer m x true (Some (asked c first who wanted)) second is drawn = of_state m (Some (asked c first who wanted)) is drawn
    where
      of_state : (m : MasterProc) (c : Option Command) → m.command ≡ c → IsDrawnBy m.table c → IsNewer y (fresh_by y m.table.last c) (m, [])
      of_state m c is drawn = subst (λ d. IsNewer y (fresh_by y m.table.last d) (m, [])) is (stays_newer m (subst (λ d. IsDrawnBy m.table d) (sym is) drawn))
  tries_if_newer m x true (Some (gone plan going)) second is drawn = subst (λ d. IsNewer y (fresh_by y m.table.last d) (m, [])) is (stays_newer m (subst (λ d. IsDrawnBy m.table d) (sym is) tt))
  tries_if_newer m x true (Some (recovering id terminal sec)) second is drawn = subst (λ d. IsNewer y (fresh_by y m.table.last d) (m, [])) is (stays_newer m (subst (λ d. IsDrawnBy m.table d) (sym is) tt))

  pub tries_newer : (x : Node) (m : MasterProc) → IsSecond (Some x) → IsDrawn m → IsNewer y (fresh_from y m) (tries x m)
  tries_newer x m second drawn = tries_if_newer m x (waits_at m x) m.command second refl drawn

  retries_newer : (m : MasterProc) → IsDrawn m → IsNewer y (fresh_from y m) (retries m)
  retries_newer m drawn =
      let x = tried_first m.table.sec in
      let first = tries_newer x m (first_is m.table.sec) drawn in
      then_newer (fresh_from y m) (tries x m) (tries (other_second x)) first (tries_newer (other_second x) (tries x m).0 (other_is x) first.drawn)

  -- ---- a command ends

  pub ends_newer : (m : MasterProc) (acts : List Act) (how : Note) → told_in y acts ≡ [] → IsNewer y (m.table.last + 1) (ends m acts how)
  ends_newer m acts how none =
      before_newer (m.table.last + 1) (acts ++ say how ∷ []) (retries (record m { command = None })) (told_append acts (say how ∷ []) ∙ ap (λ zs. zs ++ []) none) (retries_newer (record m { command = None }) tt)

  forgetting_none : (x : Option Node) (g : ℕ) → told_in y (forgetting x g) ≡ []
  forgetting_none None g = refl
  forgetting_none (Some x) g = none_told x (rec.Uecr g) refl

  -- the command that is open is carried out, or a recovery
  abbrev pub IsUnderWay : Command → Type 0
  IsUnderWay (asked c first who wanted) = ⊥
  IsUnderWay (gone plan going) = ⊤
  IsUnderWay (recovering id terminal second) = ⊤

  pub under_way_stays : (m : MasterProc) (c : Command) → IsUnderWay c → IsNewer y (m.table.last + 1) (record m { command = Some c }, [])
  under_way_stays m (asked c first who wanted) is = absurd is
  under_way_stays m (gone plan going) is = record { told = omega arith; drawn = tt }
  under_way_stays m (recovering id terminal second) is = record { told = omega arith; drawn = tt }

  ends_gone_newer : (m : MasterProc) (p : Plan) (w v : Going) (complete : Bool) (moving : List (ℕ × Node)) → IsNewer y (m.table.last + 1) (ends_gone (record m { command = Some (gone p v) }) p w complete moving)
  ends_gone_newer m p w v false moving = under_way_stays m (gone p v) tt
  ends_gone_newer m p w v true (x ∷ xs) = under_way_stays m (gone p v) tt
  ends_gone_newer m p w v true [] = ends_newer (record m { command = Some (gone p v) }) (forgetting w.leaving p.g) note.Done (forgetting_none w.leaving p.g)

  ends_recovering_newer : (m : MasterProc) (id : ℕ) (terminal t : Bool) (second s : Option Node) → IsNewer y (m.table.last + 1) (ends_recovering (record m { command = Some (recovering id t s) }) terminal second)
  ends_recovering_newer m id false t None s = ends_newer (record m { command = Some (recovering id t s) }) [] note.Done refl
  ends_recovering_newer m id false t (Some x) s = under_way_stays m (recovering id t s) tt
  ends_recovering_newer m id true t second s = under_way_stays m (recovering id t s) tt

  pub waits_for_newer : (m : MasterProc) (c : Command) → IsUnderWay c → IsNewer y (m.table.last + 1) (waits_for m c)
  waits_for_newer m (asked c first who wanted) is = absurd is
  waits_for_newer m (gone plan going) is = ends_gone_newer m plan going going going.complete going.moving
  waits_for_newer m (recovering id terminal second) is = ends_recovering_newer m id terminal terminal second second
