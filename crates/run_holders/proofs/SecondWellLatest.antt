-- An anchor that becomes active at a secondary node is of a plan that sets its bearer, whose latest establishment is no later.
use Rattle.std.proofs.Common.{ℕ, ◌≡◌, ◌≤◌, ◌==◌, ◌∙◌, Bool, true, false, List, [], ◌∷◌, Option, Some, None, refl, sym, ap, subst, arith}
use Rattle.std.specs.List.{AllByRecursion, list_any}
use Rattle.std.specs.Option.{option_map}
use Rattle.std.specs.Prelude.{if◌then◌else◌, map}
use Rattle.std.proofs.lemmas.Bool.{eq-eqb}
use Rattle.std.proofs.lemmas.Option.{same_Some}
use Rattle.dc_base.specs.declared.nodes.KeyName.{KeyName}
use Rattle.dc_base.specs.declared.nodes.Node.{Node}
use Rattle.dc_base.specs.declared.nodes.Node.TheVariants.{M}
use Rattle.dc_base.specs.declared.nodes.Shape.{Shape}
use Rattle.dc_base.specs.declared.numbers.SnLen.{SnLen}
use Rattle.dc_base.specs.declared.records.Item.TheVariants as item
use Rattle.dc_base.specs.declared.records.Plan.{Plan}
use Rattle.dc_base.specs.declared.records.Rec.{Rec}
use Rattle.dc_base.specs.declared.records.Rec.TheVariants as rec
use Rattle.node_rules.specs.MasterState.{MasterProc}
use Rattle.node_rules.specs.SecondStep.{plan_in}
use Rattle.node_rules.specs.World.{World}
use Rattle.node_rules.specs.declared.commands.Change.{Change}
use Rattle.node_rules.specs.declared.commands.Command.{Command}
use Rattle.node_rules.specs.declared.commands.Command.TheVariants.{Asked as asked, Gone as gone, Recovering as recovering}
use Rattle.node_rules.specs.declared.commands.First.{First}
use Rattle.node_rules.specs.declared.commands.First.TheVariants.{Addition as addition, Modification as modification, Release as release}
use Rattle.node_rules.specs.declared.commands.Row.{Row}
use Rattle.claims.specs.Past.{Bearer, Past}
use Rattle.claims.specs.Table as claims
use Rattle.run_control.proofs.Records.{bare_records}
use Rattle.run_control.specs.Claims.{IsFirst, IsStandOf, asks, is_agreement, second_at}
use Rattle.run_control.specs.Links.{records_on}
use Rattle.run_control.specs.Rows.{is_request}
use Rattle.run_control.specs.SecondControl.{bare_record}
use Rattle.run_control.specs.Views.{second_view}
use Rattle.run_keys.specs.Keyed.{IsKeyedRow}
use Rattle.run_keys.specs.Names.{HoldsKeys, est}
use Rattle.run_keys.proofs.Unused.{row_keyed}
use Rattle.run_pairs.proofs.Pairing.{IsOfAsked, IsPaired, asked_first, asked_stand, of_asked}
use Rattle.run_pairs.proofs.Runs.{LinePaired}
use Rattle.run_pairs.specs.Apt.{IsAptAsked, IsAptCommand}
use Rattle.run_pairs.specs.Bearers.{IsOfRow}
use Rattle.run_pairs.specs.Pairs.{IsLineOf, reply}
use Rattle.run_places.proofs.PairFacts.{none_agreed, replies_in}
use Rattle.run_places.proofs.States.{row_in}
use Rattle.run_table.specs.SameTable.{SameCommand}
use Rattle.run_table.specs.View.{View, planned, view}
use Rattle.run_uplinks.specs.Seen.{Uplink, seen, uplink_of}
use Rattle.run_uplinks.specs.Uplinks.{AreSettings, IsDrawn, bearer_drawn, drop_drawn, nothing_drawn, settings_drawn}
use Rattle.run_windows.specs.Seen as windows
use Rattle.run_windows.specs.Seen.{Count, Face}
use Rattle.run_holders.specs.Holdings.{Holding, holding_of, holdings, latest_in}
use Rattle.run_holders.proofs.SecondWellAlways.{AreEstablished}

-- the latest establishment of an identity is no later than a generation
pub record IsEstablished (p : Past) (id g : ℕ) : Type 0 where
  pub holding : Holding
  pub latest : latest_in id (holdings p) ≡ Some holding
  pub upto : holding.g ≤ g

-- ---- each row of the command table is of the latest establishment

-- which has the name that is seen of it
abbrev pub LatestOf : ℕ → ℕ → List Holding → Type 0
LatestOf id e hs = (h : Holding) × (latest_in id hs ≡ Some h) × (h.g ≡ e)

est_holding : (id e : ℕ) (bs : List Bearer) → option_map (λ (b : Face × Count). b.0.g) (windows.latest id (map windows.seen_of bs)) ≡ Some e
    → LatestOf id e (map holding_of bs)
est_holding id e [] is = absurd (let bad : None ≡ Some e = is in cc)
est_holding id e (b ∷ bs) is = by (b.id == id) is (λ more. est_holding id e bs more)
  where
    by : (d : Bool) → option_map (λ (c : Face × Count). c.0.g) (if d then Some (windows.seen_of b) else windows.latest id (map windows.seen_of bs)) ≡ Some e
        → (option_map (λ (c : Face × Count). c.0.g) (windows.latest id (map windows.seen_of bs)) ≡ Some e → LatestOf id e (map holding_of bs))
        → (h : Holding) × ((if d then Some (holding_of b) else latest_in id (map holding_of bs)) ≡ Some h) × (h.g ≡ e)
    by true here more = (holding_of b, refl, same_Some b.g e here)
    by false there more = more there

pub row_established : (p : Past) (w : World) (id : ℕ) (r : Row) → HoldsKeys p w → row_in id w.master.proc.table.rows ≡ Some r
    → IsEstablished p id w.master.proc.table.last
row_established p w id r keys at =
    let t = w.master.proc.table in
    let it = row_keyed (IsKeyedRow (est (windows.seen p)) t.book t.last) id t.rows r keys.keys.table.rows at in
    let is = est_holding id r.est p.bearers (ap (est (windows.seen p)) (sym it.1) ∙ it.0.latest) in
    record { holding = is.0; latest = is.1; upto = subst (λ n. n ≤ t.last) (sym is.2) it.0.upto }

-- ---- the plan drawn last

-- it sets bearers that were there before; or it sets up one, which is the latest; or it drops one
pub data KindOfLast (p : Past) (q : Plan) : Type 0 where
  sets_olds : (olds : AreSettings 0 q.items) → KindOfLast p q
  sets_new : (id : ℕ) → (n : SnLen) → (first : ℕ) → (shape : Shape) → (threshold : ℕ) → (policy : ℕ) → (key : KeyName)
      → (items : q.items ≡ item.Set id n first shape threshold policy key None ∷ [])
      → (is : IsEstablished p id p.table.last) → KindOfLast p q
  drops_one : (id : ℕ) → (items : q.items ≡ item.Unset id ∷ []) → KindOfLast p q

head_is : (q h : Plan) (ps qs : List Plan) → ps ≡ h ∷ qs → h.g ≡ q.g → planned ps q.g ≡ Some q → h ≡ q
head_is q h ps qs is same at =
    same_Some h q (sym (ap (λ (b : Bool). if b then Some h else planned qs q.g) (eq-eqb h.g q.g same)) ∙ sym (ap (λ zs. planned zs q.g) is) ∙ at)

first_latest : (id : ℕ) (bs : List Bearer) (u : Uplink) (us : List Uplink) → map uplink_of bs ≡ u ∷ us → u.id ≡ id → LatestOf id u.g (map holding_of bs)
first_latest id [] u us is named = absurd (let bad : [] ≡ u ∷ us = is in cc)
first_latest id (b ∷ bs) u us is named =
    let same : uplink_of b ≡ u = ap head is in
    let of_id : b.id ≡ id = ap (λ (z : Uplink). z.id) same ∙ named in
    (holding_of b, ap (λ (d : Bool). if d then Some (holding_of b) else latest_in id (map holding_of bs)) (eq-eqb b.id id of_id), ap (λ (z : Uplink). z.g) same)
  where
    head : List Uplink → Uplink
    head [] = u
    head (z ∷ zs) = z

pub kind_of_last : (p : Past) (q : Plan) → IsDrawn (seen p) → planned p.plans q.g ≡ Some q → q.g ≡ p.table.last → KindOfLast p q
kind_of_last p q (nothing_drawn plans bearers) at last = absurd (let bad : None ≡ Some q = sym (ap (λ zs. planned zs q.g) plans) ∙ at in cc)
kind_of_last p q (settings_drawn h qs plans is olds below) at last =
    sets_olds (subst (λ (z : Plan). AreSettings 0 z.items) (head_is q h p.plans qs plans (is ∙ sym last) at) olds)
kind_of_last p q (bearer_drawn h qs plans is id n first shape threshold policy key items u us bearers named of_id of_n of_first below) at last =
    let it = first_latest id p.bearers u us bearers of_id in
    sets_new id n first shape threshold policy key (sym (ap (λ (z : Plan). z.items) (head_is q h p.plans qs plans (is ∙ sym last) at)) ∙ items)
    (record { holding = it.0; latest = it.1; upto = omega (arith, it.2, named) })
kind_of_last p q (drop_drawn h qs plans is id items below) at last =
    drops_one id (sym (ap (λ (z : Plan). z.items) (head_is q h p.plans qs plans (is ∙ sym last) at)) ∙ items)

-- ---- the plan for which a node is asked

-- the request that comes first is of the plan of the open command, and the node has not agreed to it
pub record IsAskedNow (x : Node) (m : MasterProc) (up : List Rec) (q : Plan) : Type 0 where
  pub change : Change
  pub first : First
  pub wanted : Bool
  pub opened : m.command ≡ Some (asked change first x wanted)
  pub same : q ≡ change.plan
  pub unagreed : list_any (is_agreement change.plan.g) up ≡ false

first_plan : (f : First) (p : Plan) (r : Rec) → IsFirst f p r → plan_in r ≡ Some p
first_plan addition p (rec.Addreq q key) is = ap (λ z. Some z) is
first_plan addition p r is = absurd is
first_plan modification p (rec.Modreq q key) is = ap (λ z. Some z) is
first_plan modification p r is = absurd is
first_plan release p (rec.Relreq q) is = ap (λ z. Some z) is
first_plan release p r is = absurd is

asked_by : (x : Node) (m : MasterProc) (r : Rec) (q : Plan) (f : First) (p : Plan) (up : List Rec) → IsFirst f p r → replies_in (asks f p) up ≡ []
    → plan_in r ≡ Some q → (o : Option Command) → m.command ≡ o → IsStandOf x o (asks f p) → IsAskedNow x m up q
asked_by x m r q f p up first none plan None at is = absurd is
asked_by x m r q f p up first none plan (Some (gone z going)) at is = absurd is
asked_by x m r q f p up first none plan (Some (recovering id terminal o)) at is = absurd is
asked_by x m r q f p up first none plan (Some (asked c f' who wanted)) at is = record {
  change = c;
  first = f';
  wanted = wanted;
  opened = at ∙ ap (λ z. Some (asked c f' z wanted)) (sym is.0);
  same = same_Some q c.plan (sym plan ∙ first_plan f p r first ∙ ap (λ z. Some z) is.2);
  unagreed = ap (λ (z : Plan). list_any (is_agreement z.g) up) (sym is.2) ∙ none_agreed (asks f p) p.g up refl none;
}

bare_plan : (r : Rec) → plan_in (bare_record r) ≡ plan_in r
bare_plan (rec.Snst status) = refl
bare_plan r = refl

bare_request : (r : Rec) → is_request (bare_record r) ≡ is_request r
bare_request (rec.Snst status) = refl
bare_request r = refl

-- the pair with this line to the node
abbrev WithLine : World → Node → List Rec → Type 0
WithLine w x line =
    let s = second_at x w in
    IsPaired x w.master.proc s.proc.membership s.proc.want (second_view s) (bare_records line) (bare_records (records_on x M w))

pub asked_now : (x : Node) (w : World) (r : Rec) (q : Plan) (rest : List Rec) → LinePaired w x → records_on M x w ≡ r ∷ rest → is_request r ≡ true
    → plan_in r ≡ Some q → IsAskedNow x w.master.proc (bare_records (records_on x M w)) q
asked_now x w r q rest pair first request plan = by (subst (WithLine w x) first pair)
  where
    by : WithLine w x (r ∷ rest) → IsAskedNow x w.master.proc (bare_records (records_on x M w)) q
    by pair' = of (asked_stand pair'.stand (bare_record r) (bare_records rest) (bare_request r ∙ request) pair'.pair.line)
      where
        of : IsOfAsked pair'.stand → IsAskedNow x w.master.proc (bare_records (records_on x M w)) q
        of (of_asked f p e) =
            let asks' = subst (λ z. IsLineOf z (bare_record r ∷ bare_records rest)) e pair'.pair.line in
            let none = subst (λ z. replies_in z (bare_records (records_on x M w)) ≡ reply z) e pair'.pair.answers in
            let stands = subst (IsStandOf x w.master.proc.command) e pair'.stands in
            asked_by x w.master.proc (bare_record r) q f p (bare_records (records_on x M w))
            (asked_first f p (bare_record r) (bare_records rest) (bare_request r ∙ request) asks').first none (bare_plan r ∙ plan)
            w.master.proc.command refl stands

-- ---- it was drawn last

same_planned : (v : View) (o : Option Command) (k : Option claims.Command) (c : Change) (first : First) (who : Node) (wanted : Bool)
    → o ≡ Some (asked c first who wanted) → SameCommand v o k → planned v.plans c.plan.g ≡ Some c.plan
same_planned v o k c first who wanted is same = by k (subst (λ z. SameCommand v z k) is same)
  where
    by : (z : Option claims.Command) → SameCommand v (Some (asked c first who wanted)) z → planned v.plans c.plan.g ≡ Some c.plan
    by None so = absurd so
    by (Some y) so = so.1.plan

module _ (p : Past) (w : World) (is : AreEstablished p w) where
  abbrev m : MasterProc
  m = w.master.proc

  last_is : p.table.last ≡ m.table.last
  last_is = is.keys.lasts.agree.same.rest.last

  module _ (x : Node) (up : List Rec) (q : Plan) (now : IsAskedNow x m up q) where
    pub apt_now : IsAptAsked m.table now.change now.first x now.wanted
    apt_now = subst (IsAptCommand m.table) now.opened is.paired.apt.command

    pub planned_now : planned p.plans q.g ≡ Some q
    planned_now =
        subst (λ (z : Plan). planned p.plans z.g ≡ Some z) (sym now.same)
        (same_planned (view p) m.command p.table.command now.change now.first x now.wanted now.opened is.keys.lasts.agree.same.command)

    pub last_now : q.g ≡ m.table.last
    last_now = ap (λ (z : Plan). z.g) now.same ∙ apt_now.fresh

    pub kind_now : KindOfLast p q
    kind_now = kind_of_last p q is.relays.holds.up.drawn planned_now (last_now ∙ sym last_is)

    pub olds_now : AllByRecursion (IsOfRow m.table.rows) q.items
    olds_now = subst (λ (z : Plan). AllByRecursion (IsOfRow m.table.rows) z.items) (sym now.same) apt_now.items.olds
