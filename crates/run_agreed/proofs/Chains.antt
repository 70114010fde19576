-- Parts of the procedures of the master, one after another; and the releases that wait, and the end of a command, are made of such.
use Rattle.std.proofs.Common.{ℕ, ◌≡◌, ◌++◌, Bool, true, false, List, [], ◌∷◌, Option, Some, None, refl, sym, subst, append_assoc}
use Rattle.std.proofs.lemmas.List.{append-nil}
use Rattle.std.specs.List.{AllByRecursion}
use Rattle.dc_base.specs.declared.events.Event.TheVariants as event
use Rattle.dc_base.specs.declared.events.Note.TheVariants as note
use Rattle.dc_base.specs.declared.nodes.Node.{Node}
use Rattle.dc_base.specs.declared.records.Plan.{Plan}
use Rattle.node_rules.specs.Drafts.{Draft, draft}
use Rattle.node_rules.specs.MasterEnds.{ends_gone, ends_if, ends_recovering, forgetting, is_release_spent, nothing_to_release, releases_if, retries, tried_first, tries, tries_if, tries_now, waits_for}
use Rattle.node_rules.specs.MasterGo.{before_acts, lets_go}
use Rattle.node_rules.specs.MasterState.{MasterActs, MasterProc, waits_at, with_waits}
use Rattle.node_rules.specs.Places.{is_at, other_second}
use Rattle.node_rules.specs.declared.acts.Act.{Act}
use Rattle.node_rules.specs.declared.acts.Act.TheVariants.{Say as say, Send as send}
use Rattle.node_rules.specs.declared.commands.Command.{Command}
use Rattle.node_rules.specs.declared.commands.Command.TheVariants.{Asked as asked, Gone as gone, Recovering as recovering}
use Rattle.node_rules.specs.declared.commands.Going.{Going}
use Rattle.run_agreed.specs.Segments.{Chain, IsAside, IsChain, Origin, Segment, aside, ends, lets_off, needless, recovered}

module _ (o : Origin) where
  -- ---- one after another

  pub chain_none : (m : MasterProc) → IsChain o m (m, [])
  chain_none m = record { parts = []; all = refl }

  -- a part, and then more
  pub chain_then : (m : MasterProc) (r q : MasterActs) → Segment o m r → IsChain o r.0 q → IsChain o m (before_acts r.1 q)
  chain_then m r q part rest = record { parts = r ∷ rest.parts; all = (part, (q, rest.all, refl)) }

  -- one part alone
  pub chain_one : (m : MasterProc) (r : MasterActs) → Segment o m r → IsChain o m r
  chain_one m r part = subst (λ acts. IsChain o m (r.0, acts)) (append-nil r.1) (chain_then m r (r.0, []) part (chain_none r.0))

  append_by : (parts : List MasterActs) (m : MasterProc) (r q : MasterActs) → Chain o parts m r → IsChain o r.0 q → IsChain o m (before_acts r.1 q)
  append_by [] m r q is rest =
      subst (λ (y : MasterActs). IsChain o m (before_acts y.1 q)) (sym is) (subst (λ (y : MasterActs). IsChain o y.0 q) is rest)
  append_by (p ∷ ps) m r q all rest =
      let more = all.1.0 in
      let is : r ≡ before_acts p.1 more = all.1.2 in
      let next : IsChain o p.0 (before_acts more.1 q) = append_by ps p.0 more q all.1.1 (subst (λ (y : MasterActs). IsChain o y.0 q) is rest) in
      let whole : IsChain o m (before_acts p.1 (before_acts more.1 q)) = chain_then m p (before_acts more.1 q) all.0 next in
      subst (λ (y : MasterActs). IsChain o m (before_acts y.1 q)) (sym is)
      (subst (λ acts. IsChain o m (q.0, acts)) (sym (append_assoc p.1 more.1 q.1)) whole)

  -- several, and then more
  pub chain_append : (m : MasterProc) (r q : MasterActs) → IsChain o m r → IsChain o r.0 q → IsChain o m (before_acts r.1 q)
  chain_append m r q first rest = append_by first.parts m r q first.all rest

  -- acts of no command
  pub chain_aside : (m : MasterProc) (acts : List Act) → AllByRecursion IsAside acts → IsChain o m (m, acts)
  chain_aside m acts all = chain_one m (m, acts) (aside acts all refl)

  -- ---- the releases that wait

  releases_chain : (m : MasterProc) (x : Node) (spent : Bool) (d : Option Draft) → waits_at m x ≡ true → m.command ≡ None → is_at x m.table.sec ≡ true → draft m.table event.Release ≡ d
      → is_release_spent m.table d ≡ spent → IsChain o m (releases_if m x spent d)
  releases_chain m x spent None waiting free here drawn spends = chain_none m
  releases_chain m x true (Some d) waiting free here drawn spends = chain_none m
  releases_chain m x false (Some d) waiting free here drawn spends = chain_one m (lets_go (with_waits false x m) x d) (lets_off x d waiting free here drawn spends refl)

  tries_now_chain : (m : MasterProc) (x : Node) (here : Bool) → waits_at m x ≡ true → m.command ≡ None → is_at x m.table.sec ≡ here → IsChain o m (tries_now m x here)
  tries_now_chain m x true waiting free at = let d = draft m.table event.Release in releases_chain m x (is_release_spent m.table d) d waiting free at refl refl
  tries_now_chain m x false waiting free at = chain_one m (with_waits false x m, send x nothing_to_release ∷ []) (needless x waiting free at refl)

  tries_if_chain : (m : MasterProc) (x : Node) (b : Bool) (k : Option Command) → waits_at m x ≡ b → m.command ≡ k → IsChain o m (tries_if m x b k)
  tries_if_chain m x false k waiting is = chain_none m
  tries_if_chain m x true None waiting is = tries_now_chain m x (is_at x m.table.sec) waiting is refl
  tries_if_chain m x true (Some (asked c first who wanted)) waiting is = chain_none m
  tries_if_chain m x true (Some (gone plan going)) waiting is = chain_none m
  tries_if_chain m x true (Some (recovering id terminal second)) waiting is = chain_none m

  pub tries_chain : (x : Node) (m : MasterProc) → IsChain o m (tries x m)
  tries_chain x m = tries_if_chain m x (waits_at m x) m.command refl refl

  pub retries_chain : (m : MasterProc) → IsChain o m (retries m)
  retries_chain m =
      let x = tried_first m.table.sec in
      chain_append m (tries x m) (tries (other_second x) (tries x m).0) (tries_chain x m) (tries_chain (other_second x) (tries x m).0)

  -- ---- a command ends

  ends_gone_chain : (m : MasterProc) (p : Plan) (w : Going) (complete : Bool) (moving : List (ℕ × Node)) → m.command ≡ Some (gone p w) → w.complete ≡ complete → IsChain o m (ends_gone m p w complete moving)
  ends_gone_chain m p w false moving opened is = chain_none m
  ends_gone_chain m p w true (x ∷ xs) opened is = chain_none m
  ends_gone_chain m p w true [] opened is =
      let m' : MasterProc = record m { command = None } in
      chain_then m (m', forgetting w.leaving p.g ++ say note.Done ∷ []) (retries m') (ends p w opened is refl) (retries_chain m')

  ends_recovering_chain : (m : MasterProc) (id : ℕ) (terminal : Bool) (second : Option Node) → m.command ≡ Some (recovering id terminal second) → IsChain o m (ends_recovering m terminal second)
  ends_recovering_chain m id false None opened =
      let m' : MasterProc = record m { command = None } in
      chain_then m (m', say note.Done ∷ []) (retries m') (recovered id opened refl) (retries_chain m')
  ends_recovering_chain m id false (Some x) opened = chain_none m
  ends_recovering_chain m id true second opened = chain_none m

  ends_if_chain : (m : MasterProc) (k : Option Command) → m.command ≡ k → IsChain o m (ends_if m k)
  ends_if_chain m None is = chain_none m
  ends_if_chain m (Some (asked c first who wanted)) is = chain_none m
  ends_if_chain m (Some (gone plan going)) is = ends_gone_chain m plan going going.complete going.moving is refl
  ends_if_chain m (Some (recovering id terminal second)) is = ends_recovering_chain m id terminal second is

  -- the command as it is from then on ends if nothing is awaited any more
  pub waits_for_chain : (m : MasterProc) (c : Command) → IsChain o (record m { command = Some c }) (waits_for m c)
  waits_for_chain m c = ends_if_chain (record m { command = Some c }) (Some c) refl
