-- What a generation sets of the latest establishment it sets so after an event that draws no plan, before the lines of the event.
use Rattle.std.proofs.Common.{ℕ, ◌≡◌, ◌≤◌, ◌+◌, ◌==◌, ◌∙◌, Bool, true, false, List, [], ◌∷◌, Option, Some, None, refl, sym, ap, subst}
use Rattle.std.specs.Option.{option_map}
use Rattle.std.specs.Prelude.{if◌then◌else◌, map, nat_lt, ◌&&◌}
use Rattle.dc_base.specs.Nodes.{is_same_node}
use Rattle.dc_base.specs.declared.answers.Answer.{Answer}
use Rattle.dc_base.specs.declared.answers.Answer.TheVariants as answer
use Rattle.dc_base.specs.declared.events.Event.{Event}
use Rattle.dc_base.specs.declared.events.Event.TheVariants as event
use Rattle.dc_base.specs.declared.flights.Flight.{Flight}
use Rattle.dc_base.specs.declared.flights.Flight.TheVariants as flight
use Rattle.dc_base.specs.declared.nodes.Dir.TheVariants.{Dl, Ul}
use Rattle.dc_base.specs.declared.nodes.LinkId.{LinkId}
use Rattle.dc_base.specs.declared.nodes.Node.{Node}
use Rattle.dc_base.specs.declared.nodes.Node.TheVariants.{M}
use Rattle.dc_base.specs.declared.records.Item.{Item}
use Rattle.dc_base.specs.declared.records.Item.TheVariants.{Set, Unset}
use Rattle.dc_base.specs.declared.records.Plan.{Plan}
use Rattle.dc_base.specs.declared.records.Rec.{Rec}
use Rattle.dc_base.specs.declared.records.Rec.TheVariants as rec
use Rattle.node_rules.specs.Run.{happening}
use Rattle.node_rules.specs.World.{World}
use Rattle.claims.specs.Drafts.{Draft, draft}
use Rattle.claims.specs.Judged.{judged}
use Rattle.claims.specs.Links.{find_at}
use Rattle.claims.specs.Past.{Past}
use Rattle.claims.specs.Reading.{holds_any, setting}
use Rattle.claims.specs.Table.{Table}
use Rattle.run_uplinks.specs.Seen as uplinks
use Rattle.run_uplinks.specs.Seen.{Seen, setting_in}
use Rattle.run_uplinks.proofs.Seeing as seeing
use Rattle.run_holders.specs.Holdings.{Holding, dropped_all, dropped_by, holdings, let_go}
use Rattle.run_holders.specs.Owning.{SetsLatest}
use Rattle.run_holders.proofs.HeldLines.{latest_map}
use Rattle.run_holders.proofs.HeldSeeing.{draws, judged_seen, with_event, with_flight, with_given, with_record}
use Rattle.run_holders.proofs.NamesApart.{drop_name}
use Rattle.run_holders.proofs.SecondWellLatest.{LatestOf}
use Rattle.run_holders.proofs.TerminalSuited.{taker}

-- ---- an event that a secondary node takes draws no plan

no_master : {X : Type 0} (x : Node) → Some M ≡ Some x → is_same_node x M ≡ false → X
no_master x is other = absurd (let bad : true ≡ false = ap (λ (o : Option Node). of o) is ∙ other in cc)
  where
    of : Option Node → Bool
    of None = true
    of (Some y) = is_same_node y M

pub no_draft : (w : World) (e : Event) (x : Node) → taker (happening w e) ≡ Some x → is_same_node x M ≡ false → (t : Table) → draft t e ≡ None
no_draft w (event.Bearer id n first shape threshold policy) x is other t = no_master x is other
no_draft w (event.Reshape id shape) x is other t = no_master x is other
no_draft w (event.Remove id) x is other t = no_master x is other
no_draft w (event.Add node) x is other t = no_master x is other
no_draft w event.Change x is other t = no_master x is other
no_draft w event.Release x is other t = no_master x is other
no_draft w event.RekeySecond x is other t = no_master x is other
no_draft w (event.RekeyMaster octets) x is other t = no_master x is other
no_draft w (event.Recover id) x is other t = refl
no_draft w (event.Submit id d sdu) x is other t = refl
no_draft w (event.Report node id) x is other t = refl
no_draft w (event.Deny node denies) x is other t = refl
no_draft w (event.Ask node what) x is other t = refl
no_draft w event.ScgFail x is other t = refl
no_draft w (event.Step l i) x is other t = refl
no_draft w (event.Lose l i) x is other t = refl
no_draft w (event.Again l i) x is other t = refl

-- ---- plans

flight_plans : (f : Flight) (s : Seen) → (uplinks.with_flight f s).plans ≡ s.plans
flight_plans (flight.Ctl (rec.Reconf q key)) s = refl
flight_plans f s = refl

given_plans : (o : Option (LinkId × Flight)) (s : Seen) → (uplinks.with_given o s).plans ≡ s.plans
given_plans None s = refl
given_plans (Some x) s = flight_plans x.1 s

event_plans : (o : Option (LinkId × Flight)) (e : Event) (s : Seen) → (uplinks.with_event None o e s).plans ≡ s.plans
event_plans o (event.Step l i) s = given_plans o s
event_plans o (event.Submit id Dl sdu) s = refl
event_plans o (event.Submit id Ul sdu) s = refl
event_plans o e s = refl

answer_plans : (d : Option Draft) (o : Option (LinkId × Flight)) (e : Event) (a : Answer) (s : Seen) → d ≡ None → (uplinks.answered d o e a s).plans ≡ s.plans
answer_plans d o e answer.Ok s none = ap (λ z. (uplinks.with_event z o e s).plans) none ∙ event_plans o e s
answer_plans d o e (answer.No why) s none = refl

judged_setting : (e : Event) (a : Answer) (p : Past) (id g : ℕ) → draft p.table e ≡ None → setting (judged e a p) id g ≡ setting p id g
judged_setting e a p id g none =
    ap (λ (plans : List Plan). setting_in plans id g)
    (ap (λ (s : Seen). s.plans) (seeing.judged_seen e a p) ∙ answer_plans (draft p.table e) (seeing.flight_at p.standing e) e a (uplinks.seen p) none)

-- ---- establishments

go_id : (x : Node) (h : Holding) → (let_go x h).id ≡ h.id
go_id x h = by (holds_any x h.holder)
  where
    by : (b : Bool) → (if b then record h { holder = None } else h).id ≡ h.id
    by true = refl
    by false = refl

drop_id : (x : Node) (g : ℕ) (i : Item) (h : Holding) → (dropped_by x g h i).id ≡ h.id
drop_id x g (Set id n first shape threshold policy key old) h = refl
drop_id x g (Unset id) h = by ((h.id == id) && nat_lt h.g g)
  where
    by : (b : Bool) → (if b then let_go x h else h).id ≡ h.id
    by true = go_id x h
    by false = refl

drops_latest : (x : Node) (g : ℕ) (items : List Item) (hs : List Holding) (id name : ℕ) → LatestOf id name hs → LatestOf id name (dropped_all x g items hs)
drops_latest x g [] hs id name is = is
drops_latest x g (i ∷ items) hs id name is =
    drops_latest x g items (map (λ (h : Holding). dropped_by x g h i) hs) id name (
      dropped_by x g is.0 i,
      latest_map id (λ h. dropped_by x g h i) (drop_id x g i) hs ∙ ap (λ o. option_map (λ h. dropped_by x g h i) o) is.1,
      drop_name x g i is.0 ∙ is.2,
    )

record_latest : (x : Node) (r : Rec) (hs : List Holding) (id name : ℕ) → LatestOf id name hs → LatestOf id name (with_record x r hs)
record_latest x (rec.Modreq q key) hs id name is = drops_latest x q.g q.items hs id name is
record_latest x r hs id name is = is

flight_latest : (l : LinkId) (f : Flight) (hs : List Holding) (id name : ℕ) → LatestOf id name hs → LatestOf id name (with_flight l f hs)
flight_latest l (flight.Ctl r) hs id name is = record_latest l.to r hs id name is
flight_latest l f hs id name is = is

given_latest : (o : Option (LinkId × Flight)) (hs : List Holding) (id name : ℕ) → LatestOf id name hs → LatestOf id name (with_given o hs)
given_latest None hs id name is = is
given_latest (Some s) hs id name is = flight_latest s.0 s.1 hs id name is

drawn_latest : (g : ℕ) (o : Option Draft) (hs : List Holding) (id name : ℕ) → o ≡ None → LatestOf id name hs → LatestOf id name (draws g o hs)
drawn_latest g o hs id name none is = subst (λ z. LatestOf id name (draws g z hs)) (sym none) is

event_latest : (p : Past) (e : Event) (hs : List Holding) (id name : ℕ) → draft p.table e ≡ None → LatestOf id name hs → LatestOf id name (with_event p e hs)
event_latest p (event.Step l i) hs id name none is = given_latest (find_at l i p.standing) hs id name is
event_latest p e hs id name none is = drawn_latest (p.table.last + 1) (draft p.table e) hs id name none is

judged_latest : (p : Past) (e : Event) (a : Answer) (id name : ℕ) → draft p.table e ≡ None → LatestOf id name (holdings p)
    → LatestOf id name (holdings (judged e a p))
judged_latest p e answer.Ok id name none is = subst (LatestOf id name) (sym (judged_seen e answer.Ok p)) (event_latest p e (holdings p) id name none is)
judged_latest p e (answer.No why) id name none is = subst (LatestOf id name) (sym (judged_seen e (answer.No why) p)) is

pub sets_judged : (p : Past) (e : Event) (a : Answer) (id g : ℕ) → draft p.table e ≡ None → SetsLatest p id g → SetsLatest (judged e a p) id g
sets_judged p e a id g none is =
    let it = judged_latest p e a id is.holding.g none (is.holding, is.latest, refl) in
    record { set = is.set; in_plan = judged_setting e a p id g none ∙ is.in_plan; holding = it.0; latest = it.1; upto = subst (λ n. n ≤ g) (sym it.2) is.upto }
