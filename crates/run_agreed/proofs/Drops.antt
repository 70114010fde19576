-- Each rejection of a modification on its way to the master is of no drop that is asked for, in any run.
use Rattle.std.proofs.Common.{ℕ, ◌≡◌, ◌≤◌, ◌<◌, ◌+◌, ◌==◌, ◌++◌, Bool, true, false, List, [], ◌∷◌, Option, Some, None, refl, sym, ap, subst, arith}
use Rattle.std.specs.List.{AllByRecursion}
use Rattle.std.specs.Prelude.{filter, length, map, ⊤}
use Rattle.transcript.proofs.OnEach.{each_append}
use Rattle.dc_base.specs.Nodes.{is_mm, is_secondary}
use Rattle.dc_base.specs.declared.events.Event.{Event}
use Rattle.dc_base.specs.declared.events.Event.TheVariants as event
use Rattle.dc_base.specs.declared.events.Header.{Header}
use Rattle.dc_base.specs.declared.events.Note.TheVariants as note
use Rattle.dc_base.specs.declared.nodes.KeyName.{KeyName}
use Rattle.dc_base.specs.declared.nodes.Node.{Node}
use Rattle.dc_base.specs.declared.nodes.Node.TheVariants.{A, B, M, T}
use Rattle.dc_base.specs.declared.nodes.Shape.{Shape}
use Rattle.dc_base.specs.declared.nodes.Want.TheVariants as want
use Rattle.dc_base.specs.declared.records.Item.{Item}
use Rattle.dc_base.specs.declared.records.Item.TheVariants as item
use Rattle.dc_base.specs.declared.records.Plan.{Plan}
use Rattle.dc_base.specs.declared.records.Rec.{Rec}
use Rattle.node_rules.specs.Choices.{Choices}
use Rattle.node_rules.specs.CommandTable.{Table, row, second_key_of}
use Rattle.node_rules.specs.Drafts.{Draft, asking, asking_for, draft, key_for, next_second, next_second_key, second_rows, set_to, shape_of, shared_rows}
use Rattle.node_rules.specs.MasterCommands.{recovers_at}
use Rattle.node_rules.specs.MasterEnds.{forgetting}
use Rattle.node_rules.specs.MasterGo.{alone, begins_by, drawn, first_record, goes, leave_acts, leave_record, let_go, moves_here, preparing, way}
use Rattle.node_rules.specs.MasterRecords.{completing, rejecting}
use Rattle.node_rules.specs.MasterState.{MasterActs, MasterProc, with_waits}
use Rattle.node_rules.specs.Places.{mm}
use Rattle.node_rules.specs.Run.{world_after}
use Rattle.node_rules.specs.SecondRecords.{is_one_drop}
use Rattle.node_rules.specs.World.{new_world}
use Rattle.node_rules.specs.declared.acts.Act.{Act}
use Rattle.node_rules.specs.declared.acts.Act.TheVariants.{Prepare as prepare, Say as say, Send as send, UnlockAll as unlock_all}
use Rattle.node_rules.specs.declared.commands.Change.{Change}
use Rattle.node_rules.specs.declared.commands.First.{First}
use Rattle.node_rules.specs.declared.commands.First.TheVariants.{Addition as addition, Modification as modification, Release as release}
use Rattle.node_rules.specs.declared.commands.Leaving.{Leaving}
use Rattle.node_rules.specs.declared.commands.Leaving.TheVariants.{ByChangeConfirm as by_change_confirm, ByReleaseConfirm as by_release_confirm, ByRequest as by_request}
use Rattle.node_rules.specs.declared.commands.Row.{Row}
use Rattle.node_rules.specs.declared.commands.Way.{Way}
use Rattle.run_control.specs.Sound.{AreSound}
use Rattle.run_control.proofs.Sent.{either}
use Rattle.run_control.proofs.TalkRuns.{new_kept}
use Rattle.run_agreed.specs.Drops.{DropStands, DropsByModification, IsDrawnPlan, IsDropFirst, IsNoDrop, OfAsked, RejectionFits, RequestFits, asked_plan, modification_in, rejected_in}
use Rattle.run_agreed.specs.Lines.{Pair, PairStep, master_ignores, master_moves, master_takes, pair_at, rests, said_to, second_ignores, second_moves, second_takes}
use Rattle.run_agreed.specs.Segments.{OfChain, Origin, Segment, agrees, aside, begun, by_itself, by_record, completes, ends, lets_off, moves_on, needless, recovered, recovers, refuses, rejects, second_recovers, terminal_recovers, waits}
use Rattle.run_agreed.proofs.Chained.{take_chain}
use Rattle.run_agreed.proofs.DropSays.{aside_all, asks_none, fits_says, refusal_none, request_fits}
use Rattle.run_agreed.proofs.SecondSays.{Says, order_says, take_says}
use Rattle.run_agreed.proofs.PairKeeping.{ActSays, chain_keeps, chains_keep, each_as, run_pair, said_all, told_pair}

-- ---- drafts

-- a plan of bearers of the table drops none
set_no_drop : (root : ℕ) (key : KeyName) (shape : Row → Shape) (rows : List Row) → is_one_drop (map (set_to root key shape) rows) ≡ false
set_no_drop root key shape [] = refl
set_no_drop root key shape (r ∷ rows) = refl

abbrev IsDropAsked : List Item → Option (First × Node) → Type 0
IsDropAsked items None = ⊤
IsDropAsked items (Some x) = IsDropFirst x.0 items

asking_drop : (items : List Item) (f : First) (x : Option Node) → IsDropFirst f items → IsDropAsked items (asking f x)
asking_drop items f None is = tt
asking_drop items f (Some y) is = is

asking_for_drop : (items : List Item) (s : Shape) (x : Option Node) → IsDropAsked items (asking_for s x)
asking_for_drop items s x = either (IsDropAsked items) (is_mm s) None (asking modification x) tt (asking_drop items modification x tt)

-- the plan of a draft is of the next generation; and only a modification asks for a drop
record IsNext (t : Table) (d : Draft) : Type 0 where
  next : d.change.plan.g ≡ t.last + 1
  asked_so : IsDropAsked d.change.plan.items d.first

abbrev NextIf : Table → Option Draft → Type 0
NextIf t None = ⊤
NextIf t (Some d) = IsNext t d

draft_next : (t : Table) (e : Event) → NextIf t (draft t e)
draft_next t (event.Bearer id n first shape threshold policy) = record { next = refl; asked_so = asking_for_drop (item.Set id n first shape threshold policy (key_for shape t.book.current t.second_key) None ∷ []) shape t.sec }
draft_next t (event.Reshape id shape) =
    record { next = refl; asked_so = asking_drop (map (set_to t.book.current t.second_key (λ r. shape)) (filter (λ r. r.id == id) t.rows)) modification t.sec tt }
draft_next t (event.Remove id) = record { next = refl; asked_so = asking_for_drop (item.Unset id ∷ []) (shape_of (row t id)) t.sec }
draft_next t (event.Add node) = record { next = refl; asked_so = refl }
draft_next t event.Change =
    let no' = set_no_drop t.book.current (next_second_key t) (λ r. r.shape) (shared_rows t) in
    record { next = refl; asked_so = asking_drop (map (set_to t.book.current (next_second_key t) (λ r. r.shape)) (shared_rows t)) addition (next_second t.sec) no' }
draft_next t event.Release =
    let no' = set_no_drop t.book.current t.second_key (λ r. mm) (shared_rows t) in
    record { next = refl; asked_so = asking_drop (map (set_to t.book.current t.second_key (λ r. mm)) (shared_rows t)) release t.sec no' }
draft_next t event.RekeySecond =
    record { next = refl; asked_so = asking_drop (map (set_to t.book.current (next_second_key t) (λ r. r.shape)) (second_rows t)) modification t.sec tt }
draft_next t (event.RekeyMaster root) =
    let number = length t.book.roots in
    record { next = refl; asked_so = asking_drop (map (set_to number (second_key_of number 0) (λ r. r.shape)) t.rows) modification t.sec tt }
draft_next t (event.Recover id) = tt
draft_next t (event.Report node id) = tt
draft_next t (event.Deny node on) = tt
draft_next t (event.Ask node what) = tt
draft_next t event.ScgFail = tt
draft_next t (event.Submit id d payload) = tt
draft_next t (event.Step l i) = tt
draft_next t (event.Lose l i) = tt
draft_next t (event.Again l i) = tt

-- ---- later states

-- the plan that awaits its agreement is that of before, or none, or a later one
pub data IsLater (m k : MasterProc) : Type 0 where
  same_plan : (last : k.table.last ≡ m.table.last) → (plan : asked_plan k.command ≡ asked_plan m.command) → IsLater m k
  no_plan : (last : m.table.last ≤ k.table.last) → (none : asked_plan k.command ≡ None) → IsLater m k
  new_plan : (last : m.table.last ≤ k.table.last) → (p : Plan) → (is : asked_plan k.command ≡ Some p) → (later : m.table.last < p.g) → IsLater m k

of_none : (P : Plan → Type 0) (g : ℕ) (o : Option Plan) → o ≡ None → OfAsked P g o
of_none P g o none = subst (λ k. OfAsked P g k) (sym none) tt

-- of no earlier generation anything is asked
of_later : (P : Plan → Type 0) (g last : ℕ) (o : Option Plan) (p : Plan) → o ≡ Some p → g ≤ last → last < p.g → OfAsked P g o
of_later P g last o p is le lt = subst (λ k. OfAsked P g k) (sym is) (λ same. absurd (omega (arith, same, le, lt)))

module _ (m k : MasterProc) (P : ℕ → Plan → Type 0) where
  still_of : (g : ℕ) → IsLater m k → (g ≤ m.table.last) × OfAsked (P g) g (asked_plan m.command) → (g ≤ k.table.last) × OfAsked (P g) g (asked_plan k.command)
  still_of g (same_plan last plan) is = (omega (arith, is.0, last), subst (λ o. OfAsked (P g) g o) (sym plan) is.1)
  still_of g (no_plan last none) is = (omega (arith, is.0, last), of_none (P g) g (asked_plan k.command) none)
  still_of g (new_plan last p at later) is = (omega (arith, is.0, last), of_later (P g) g m.table.last (asked_plan k.command) p at is.0 later)

module _ (m k : MasterProc) (later : IsLater m k) where
  request_still : (o : Option Plan) → IsDrawnPlan m.table.last (asked_plan m.command) o → IsDrawnPlan k.table.last (asked_plan k.command) o
  request_still None is = tt
  request_still (Some p) is = still_of m k (λ g q. q ≡ p) p.g later is

  pub rejection_still : (o : Option ℕ) → IsNoDrop m.table.last (asked_plan m.command) o → IsNoDrop k.table.last (asked_plan k.command) o
  rejection_still None is = tt
  rejection_still (Some g) is = still_of m k (λ h q. is_one_drop q.items ≡ false) g later is

-- ---- a part of a step of the master

-- what it comes to: the plan is a later one, if another, what is said fits, and only a modification asks for a drop
pub record Goes (m : MasterProc) (r : MasterActs) : Type 0 where
  pub later : IsLater m r.0
  pub says : AllByRecursion (ActSays (RequestFits r.0.table.last (asked_plan r.0.command))) r.1
  pub first : DropsByModification r.0.command

module _ (last : ℕ) (o : Option Plan) where
  abbrev Fits : List Act → Type 0
  Fits acts = AllByRecursion (ActSays (RequestFits last o)) acts

  both_fit : (xs ys : List Act) → Fits xs → Fits ys → Fits (xs ++ ys)
  both_fit xs ys p q = each_append (ActSays (RequestFits last o)) xs ys p q

  preparing_fits : (p : Plan) → Fits (preparing p)
  preparing_fits p = either Fits (moves_here p) (prepare p ∷ []) [] (tt, tt) tt

  leave_fits_by : (how : Leaving) (p : Plan) → RequestFits last o (leave_record how p)
  leave_fits_by by_request p = tt
  leave_fits_by by_change_confirm p = tt
  leave_fits_by by_release_confirm p = tt

  leave_fits : (x : Option Node) (told : Option Leaving) (p : Plan) → Fits (leave_acts x told p)
  leave_fits None told p = tt
  leave_fits (Some x) None p = tt
  leave_fits (Some x) (Some how) p = (leave_fits_by how p, tt)

  completing_fits : (x : Option Node) (confirms : Bool) (g : ℕ) → Fits (completing x confirms g)
  completing_fits None confirms g = tt
  completing_fits (Some x) true g = (tt, tt)
  completing_fits (Some x) false g = (tt, tt)

  forgetting_fits : (x : Option Node) (g : ℕ) → Fits (forgetting x g)
  forgetting_fits None g = tt
  forgetting_fits (Some x) g = (tt, tt)

  rejecting_fits : (f : First) (who : Node) (wanted : Bool) → Fits (rejecting f who wanted)
  rejecting_fits f who false = tt
  rejecting_fits addition who true = (tt, tt)
  rejecting_fits modification who true = (tt, tt)
  rejecting_fits release who true = tt

pub waits_same : (b : Bool) (x : Node) (m : MasterProc) → ((with_waits b x m).table ≡ m.table) × ((with_waits b x m).command ≡ m.command)
waits_same b T m = (refl, refl)
waits_same b M m = (refl, refl)
waits_same b A m = (refl, refl)
waits_same b B m = (refl, refl)

same_goes : (m k : MasterProc) (acts : List Act) → k.table ≡ m.table → k.command ≡ m.command → AllByRecursion (ActSays (RequestFits k.table.last (asked_plan k.command))) acts → DropsByModification m.command → Goes m (k, acts)
same_goes m k acts table command says first = record {
  later = same_plan (ap (λ (t : Table). t.last) table) (ap asked_plan command);
  says = says;
  first = subst DropsByModification (sym command) first;
}

-- a plan is carried out that was drawn before, or is drawn now
gone_goes : (m k : MasterProc) (c : Change) (w : Way) (before : List Act) → m.table.last ≤ k.table.last → AllByRecursion (ActSays (RequestFits k.table.last None)) before → Goes m ((goes k c w).0, before ++ (goes k c w).1)
gone_goes m k c w before le fits = record {
  later = no_plan le refl;
  says = both_fit k.table.last None before (goes k c w).1 fits (tt, (tt, leave_fits k.table.last None w.leaving w.told c.plan));
  first = tt;
}

-- a command begins
begins_goes : (m : MasterProc) (d : Draft) (wanted : Bool) (o : Option (First × Node)) → IsNext m.table d → IsDropAsked d.change.plan.items o
    → (let r = begins_by (drawn m d) d wanted o in Goes m (r.0, preparing d.change.plan ++ r.1))
begins_goes m d wanted None is asks =
    let g = is.next in
    gone_goes m (drawn m d) d.change alone (preparing d.change.plan) (omega (arith, g)) (preparing_fits d.change.plan.g None d.change.plan)
begins_goes m d wanted (Some (f, who)) is asks =
    let g = is.next in
    record {
      later = new_plan (omega (arith, g)) d.change.plan refl (omega (arith, g));
      says = both_fit d.change.plan.g (Some d.change.plan) (preparing d.change.plan) (send who (first_record d.book.roots f d.change) ∷ []) (preparing_fits d.change.plan.g (Some d.change.plan) d.change.plan) (first_fits f, tt);
      first = asks;
    }
  where
    first_fits : (h : First) → RequestFits d.change.plan.g (Some d.change.plan) (first_record d.book.roots h d.change)
    first_fits addition = tt
    first_fits modification = (omega arith, λ same. refl)
    first_fits release = tt

-- nothing is asked for any more
none_goes : (m k : MasterProc) (acts : List Act) → k.table ≡ m.table → asked_plan k.command ≡ None → DropsByModification k.command → AllByRecursion (ActSays (RequestFits k.table.last (asked_plan k.command))) acts → Goes m (k, acts)
none_goes m k acts table none first says = record { later = no_plan (let same = ap (λ (t : Table). t.last) table in omega (arith, same)) none; says = says; first = first }

next_of : (t : Table) (e : Event) (d : Draft) → draft t e ≡ Some d → IsNext t d
next_of t e d is = subst (NextIf t) is (draft_next t e)

recovers_goes : (m : MasterProc) (id : ℕ) (x : Node) → DropsByModification m.command → Goes m (recovers_at m id x)
recovers_goes m id M first = none_goes m (recovers_at m id M).0 (recovers_at m id M).1 refl refl tt (tt, (tt, tt))
recovers_goes m id A first = none_goes m (recovers_at m id A).0 (recovers_at m id A).1 refl refl tt (tt, (tt, tt))
recovers_goes m id B first = none_goes m (recovers_at m id B).0 (recovers_at m id B).1 refl refl tt (tt, (tt, tt))
recovers_goes m id T first = same_goes m m [] refl refl tt first

pub part_goes : (o : Origin) (m : MasterProc) (r : MasterActs) → DropsByModification m.command → Segment o m r → Goes m r
part_goes o m r first (aside acts all is) = subst (Goes m) (sym is) (same_goes m m acts refl refl (aside_all m.table.last (asked_plan m.command) acts all) first)
part_goes o m r first (refuses x q refusal what from is) =
    subst (Goes m) (sym is) (same_goes m m (send x q ∷ []) refl refl (asks_none m.table.last (asked_plan m.command) q (refusal_none q refusal), tt) first)
part_goes o m r first (waits x from is) = let same = waits_same true x m in subst (Goes m) (sym is) (same_goes m (with_waits true x m) [] same.0 same.1 tt first)
part_goes o m r first (needless x waiting free apart is) =
    let same = waits_same false x m in subst (Goes m) (sym is) (same_goes m (with_waits false x m) _ same.0 same.1 (tt, tt) first)
part_goes o m r first (lets_off x d waiting free here drawn' unspent is) =
    let g = (next_of m.table event.Release d drawn').next in
    subst (Goes m) (sym is)
    (gone_goes m (drawn (with_waits false x m) d) d.change (let_go x) (say (note.Begin want.Release) ∷ preparing d.change.plan) (omega (arith, g)) (tt, preparing_fits d.change.plan.g None d.change.plan))
part_goes o m r first (begun e d wanted free drawn' may is) =
    let next = next_of m.table e d drawn' in subst (Goes m) (sym is) (begins_goes m d wanted d.first next next.asked_so)
part_goes o m r first (agrees c f who wanted opened second q from ack is) = subst (Goes m) (sym is) (gone_goes m m c (way f who wanted m.table.sec) [] (omega arith) tt)
part_goes o m r first (completes p w opened waited from is) =
    subst (Goes m) (sym is) (none_goes m _ _ refl refl tt (both_fit m.table.last None (completing w.due w.confirms p.g) (unlock_all p.g ∷ []) (completing_fits m.table.last None w.due w.confirms p.g) (tt, tt)))
part_goes o m r first (moves_on p w moving opened is) = subst (Goes m) (sym is) (none_goes m _ [] refl refl tt tt)
part_goes o m r first (ends p w opened complete is) =
    subst (Goes m) (sym is) (none_goes m _ _ refl refl tt (both_fit m.table.last None (forgetting w.leaving p.g) (say note.Done ∷ []) (forgetting_fits m.table.last None w.leaving p.g) (tt, tt)))
part_goes o m r first (rejects c f who wanted opened second q from rej is) =
    subst (Goes m) (sym is) (none_goes m _ _ refl refl tt (both_fit m.table.last None (rejecting f who wanted) (say note.Rejected ∷ []) (rejecting_fits m.table.last None f who wanted) (tt, tt)))
part_goes o m r first (recovers id x free is) = subst (Goes m) (sym is) (recovers_goes m id x first)
part_goes o m r first (terminal_recovers id t y opened from is) = subst (Goes m) (sym is) (none_goes m _ [] refl refl tt tt)
part_goes o m r first (second_recovers id t x opened from is) = subst (Goes m) (sym is) (none_goes m _ [] refl refl tt tt)
part_goes o m r first (recovered id opened is) = subst (Goes m) (sym is) (none_goes m _ _ refl refl tt (tt, tt))

-- ---- a pair

pub part_keeps : (x : Node) (o : Origin) (a : Pair) (r : MasterActs) → DropStands a → Segment o a.m r → DropStands (told_pair x a r)
part_keeps x o a r is part =
    let goes' = part_goes o a.m r is.first part in
    let last = r.0.table.last in
    let plan = asked_plan r.0.command in
    record {
      requests =
          each_append (RequestFits last plan) a.down (said_to x r.1)
          (each_as (RequestFits a.m.table.last (asked_plan a.m.command)) (RequestFits last plan) (λ q fits. request_still a.m r.0 goes'.later (modification_in q) fits) a.down is.requests)
          (said_all (RequestFits last plan) x r.1 goes'.says);
      rejections =
          each_as (RejectionFits a.m.table.last (asked_plan a.m.command)) (RejectionFits last plan) (λ q fits. rejection_still a.m r.0 goes'.later (rejected_in q) fits) a.up is.rejections;
      first = goes'.first;
    }

-- without the first record of the line
drop_up : (a : Pair) (r : Rec) (rest : List Rec) → a.up ≡ r ∷ rest → DropStands a → DropStands (record a { up = rest })
drop_up a r rest first is = record { requests = is.requests; rejections = (subst (AllByRecursion (RejectionFits a.m.table.last (asked_plan a.m.command))) first is.rejections).1; first = is.first }

pub drop_step : (x : Node) → is_secondary x ≡ true → (a b : Pair) → DropStands a → PairStep x a b → DropStands b
drop_step x second a b is (rests same) = subst DropStands (sym same) is
drop_step x second a b is (master_moves o apart out chain same) = subst DropStands (sym same) (chain_keeps x o DropStands (part_keeps x o) a out is chain)
drop_step x second a b is (master_takes r rest first out taken more chain same) =
    let left : Pair = record a { up = rest } in
    let og = by_record x r in
    let one = chain_keeps x og DropStands (part_keeps x og) left out (drop_up a r rest first is) (subst (OfChain og a.m) taken (take_chain og a.m x r refl)) in
    subst DropStands (sym same) (chains_keep x DropStands left out more (chain_keeps x by_itself DropStands (part_keeps x by_itself) (told_pair x left out) more one chain))
drop_step x second a b is (master_ignores r rest first why refused same) = subst DropStands (sym same) (drop_up a r rest first is)
drop_step x second a b is (second_moves e acts ordered same) =
    let last = a.m.table.last in
    let plan = asked_plan a.m.command in
    subst DropStands (sym same) (record {
      requests = is.requests;
      rejections = each_append (RejectionFits last plan) a.up (said_to M acts.1) is.rejections (said_all (RejectionFits last plan) M acts.1 (subst (Says (RejectionFits last plan)) ordered (order_says (RejectionFits last plan) a.s e (request_fits last plan))));
      first = is.first;
    })
drop_step x second a b is (second_takes r rest first acts taken same) =
    let last = a.m.table.last in
    let plan = asked_plan a.m.command in
    let all = subst (AllByRecursion (RequestFits last plan)) first is.requests in
    subst DropStands (sym same) (record {
      requests = all.1;
      rejections = each_append (RejectionFits last plan) a.up (said_to M acts.1) is.rejections (said_all (RejectionFits last plan) M acts.1 (subst (Says (RejectionFits last plan)) taken (take_says (RejectionFits last plan) a.s r (fits_says last plan r all.0))));
      first = is.first;
    })
drop_step x second a b is (second_ignores r rest first same) =
    subst DropStands (sym same) (record { requests = (subst (AllByRecursion (RequestFits a.m.table.last (asked_plan a.m.command))) first is.requests).1; rejections = is.rejections; first = is.first })

-- ---- a run

pub new_stands : (h : Header) (x : Node) → is_secondary x ≡ true → DropStands (pair_at x (new_world h))
new_stands h A second = record { requests = tt; rejections = tt; first = tt }
new_stands h B second = record { requests = tt; rejections = tt; first = tt }
new_stands h T second = absurd cc
new_stands h M second = absurd cc

-- in each state of each run
pub stands_always : (c : Choices) (h : Header) (es : List Event) → AreSound es → (x : Node) → is_secondary x ≡ true → DropStands (pair_at x (world_after c (new_world h) es))
stands_always c h es sound x second = run_pair (λ y. DropStands) drop_step c (new_world h) es sound (new_kept h) x second (new_stands h x second)
