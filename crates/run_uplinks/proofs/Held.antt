-- What is so at any moment of a run, and what follows of the plan on its way to the terminal.
use Rattle.std.proofs.Common.{ℕ, ◌≡◌, ◌==◌, Bool, true, false, List, [], ◌∷◌, Option, Some, None, slice_get, refl, sym, ap, subst, ◌∙◌}
use Rattle.std.specs.Prelude.{find, is_none, is_some, not}
use Rattle.std.specs.List.{list_any}
use Rattle.std.specs.Option.{option_map}
use Rattle.dc_base.specs.Count.{bits}
use Rattle.dc_base.specs.declared.numbers.SnLen.{SnLen}
use Rattle.std.proofs.lemmas.Bool.{eq-eqb}
use Rattle.dc_base.specs.Links.{link}
use Rattle.dc_base.specs.declared.flights.Flight.{Flight}
use Rattle.dc_base.specs.declared.flights.Flight.TheVariants as flight
use Rattle.dc_base.specs.declared.nodes.Class.TheVariants.{Ctl}
use Rattle.dc_base.specs.declared.nodes.Node.TheVariants.{M, T}
use Rattle.dc_base.specs.declared.records.Item.{Item}
use Rattle.dc_base.specs.declared.records.Item.TheVariants as item
use Rattle.dc_base.specs.declared.records.Plan.{Plan}
use Rattle.dc_base.specs.declared.records.Rec.{Rec}
use Rattle.dc_base.specs.declared.records.Rec.TheVariants as rec
use Rattle.claims.specs.Past.{Past}
use Rattle.claims.specs.Table as claims
use Rattle.node_rules.specs.CommandTable.{row}
use Rattle.node_rules.specs.Held.{held}
use Rattle.node_rules.specs.Terminal.{TerminalNode, is_bearer_like, is_takable}
use Rattle.node_rules.specs.TerminalHalf.{TerminalHalf}
use Rattle.node_rules.specs.World.{World, flights_on}
use Rattle.node_rules.specs.declared.commands.Command.{Command}
use Rattle.node_rules.specs.declared.commands.Command.TheVariants.{Asked as asked, Gone as gone, Recovering as recovering}
use Rattle.run_control.specs.Books.{HaveBoth, bearer_has, bearers_have, row_has, rows_have}
use Rattle.run_control.specs.Claims.{FirstIs, IsTakenThere, Talks, answered_once, asked_once, quiet_both}
use Rattle.run_control.specs.Links.{records_on}
use Rattle.run_control.specs.Telling.{Due, IsAsking, due_by, nothing_due, plan_unless, recovery_if}
use Rattle.run_control.specs.TerminalControl.{is_like_bearer, takes_item, takes_plan}
use Rattle.run_control.specs.Views.{terminal_view}
use Rattle.run_control.proofs.BookRuns.{IsAgreed, taken_first}
use Rattle.run_control.proofs.Records.{bare_records}
use Rattle.run_control.proofs.SecondHears.{any_is}
use Rattle.run_control.proofs.Taken.{records_in}
use Rattle.run_control.proofs.Terminals.{half_view}
use Rattle.run_table.proofs.Runs.{Lasts}
use Rattle.run_table.specs.SameTable.{SameCommand}
use Rattle.run_table.specs.View.{View, view}
use Rattle.run_words.specs.Standing.{StandsAs}
use Rattle.run_uplinks.specs.Seen.{Seen, seen}
use Rattle.run_uplinks.specs.Uplinks.{IsDrawn, IsKeyOf, IsUp, bearer_drawn, drop_drawn, nothing_drawn, settings_drawn}
use Rattle.run_uplinks.proofs.Establishments.{some_is}
use Rattle.run_uplinks.proofs.Plans.{IsLast}
use Rattle.run_uplinks.proofs.Standing.{OrdersStand}
use Rattle.run_uplinks.proofs.Wells.{IsWell}

-- at any moment of a run
pub record Holds (p : Past) (w : World) : Type 0 where
  pub agreed : IsAgreed w
  pub lasts : Lasts p w
  pub stands : StandsAs p w
  pub well : IsWell (view p)
  pub orders : OrdersStand (view p) w
  pub up : IsUp (seen p) w.terminal

-- ---- what can be taken

none_is : (o : Option TerminalHalf) → is_none o ≡ is_none (option_map half_view o)
none_is None = refl
none_is (Some h) = refl

some_there : (o : Option TerminalHalf) → is_some o ≡ is_some (option_map half_view o)
some_there None = refl
some_there (Some h) = refl

like_is : (n : SnLen) (first : ℕ) (o : Option TerminalHalf) → is_bearer_like n first o ≡ is_like_bearer n first (option_map half_view o)
like_is n first None = refl
like_is n first (Some h) = refl

takes_is : (t : TerminalNode) (i : Item) → is_takable t i ≡ takes_item (terminal_view t) i
takes_is t (item.Set id n first shape threshold policy key None) = none_is (held id t.halves)
takes_is t (item.Set id n first shape threshold policy key (Some old)) = like_is n first (held id t.halves)
takes_is t (item.Unset id) = some_there (held id t.halves)

plan_is : (t : TerminalNode) (q : Plan) → not (list_any (λ i. not (is_takable t i)) q.items) ≡ takes_plan (terminal_view t) q
plan_is t q = ap not (any_is (λ i. not (is_takable t i)) (λ i. not (takes_item (terminal_view t) i)) (λ i. ap not (takes_is t i)) q.items)

-- ---- the plan on its way

-- what asks the terminal for a plan is the open command: so it is the last plan drawn
last_by : (v : View) (q : Plan) (key : List ℕ) (o : Option Command) (k : Option claims.Command) → SameCommand v o k → IsAsking (due_by o) (rec.Reconf q key) → q.g ≡ v.table.last
last_by v q key None k same asks = absurd asks
last_by v q key (Some (asked c first who wanted)) k same asks = absurd asks
last_by v q key (Some (gone plan going)) None same asks = absurd same
last_by v q key (Some (gone plan going)) (Some x) same asks = by going.complete asks ∙ same.last
  where
    by : (b : Bool) → IsAsking (plan_unless b plan.g) (rec.Reconf q key) → q.g ≡ plan.g
    by true asks' = absurd asks'
    by false asks' = asks'
last_by v q key (Some (recovering id terminal second)) k same asks = by terminal asks
  where
    by : (b : Bool) → IsAsking (recovery_if b id) (rec.Reconf q key) → q.g ≡ v.table.last
    by true asks' = absurd asks'
    by false asks' = absurd asks'

-- what comes first is asked for
asked_first : (due : Due) (q : Plan) (key : List ℕ) (rs : List Rec) (up : List Rec) → Talks due (rec.Reconf q key ∷ rs) up → IsAsking due (rec.Reconf q key)
asked_first due q key rs up (quiet_both is down_is up_is) = absurd (let bad : rec.Reconf q key ∷ rs ≡ [] = down_is in cc)
asked_first due q key rs up (asked_once r asks down_is up_is) = let same : rec.Reconf q key ≡ r = cc in subst (IsAsking due) (sym same) asks
asked_first due q key rs up (answered_once r answers down_is up_is) = absurd (let bad : rec.Reconf q key ∷ rs ≡ [] = down_is in cc)

-- ---- the last plan

head_found : (q p : Plan) (ps : List Plan) → p.g ≡ q.g → find (λ (x : Plan). x.g == q.g) (p ∷ ps) ≡ Some q → p ≡ q
head_found q p ps same at = let here : (p.g == q.g) ≡ true = eq-eqb p.g q.g same in some_is p q (rw here at at)

is_head : (s : Seen) (q : Plan) (key : List ℕ) → IsKeyOf s.roots q key → IsDrawn s → find (λ (x : Plan). x.g == q.g) s.plans ≡ Some q → q.g ≡ s.last → (qs : List Plan) × IsLast q key qs s
is_head s q key keyed (nothing_drawn plans bearers) at last = absurd (let bad : None ≡ Some q = sym (ap (find (λ (x : Plan). x.g == q.g)) plans) ∙ at in cc)
is_head s q key keyed (settings_drawn p ps plans is olds below) at last =
    let same = head_found q p ps (is ∙ sym last) (sym (ap (find (λ (x : Plan). x.g == q.g)) plans) ∙ at) in
    (ps, record { plans = plans ∙ ap (λ x. x ∷ ps) same; last = last; keyed = keyed })
is_head s q key keyed (bearer_drawn p ps plans is id n first shape threshold policy name items u us bearers named of_id of_n of_first below) at last =
    let same = head_found q p ps (is ∙ sym last) (sym (ap (find (λ (x : Plan). x.g == q.g)) plans) ∙ at) in
    (ps, record { plans = plans ∙ ap (λ x. x ∷ ps) same; last = last; keyed = keyed })
is_head s q key keyed (drop_drawn p ps plans is id items below) at last =
    let same = head_found q p ps (is ∙ sym last) (sym (ap (find (λ (x : Plan). x.g == q.g)) plans) ∙ at) in
    (ps, record { plans = plans ∙ ap (λ x. x ∷ ps) same; last = last; keyed = keyed })

-- ---- a plan comes first on its link

-- it is the last plan, and the terminal takes it
pub record IsTakenNext (p : Past) (w : World) (q : Plan) (key : List ℕ) : Type 0 where
  pub qs : List Plan
  pub last : IsLast q key qs (seen p)
  pub takes : not (list_any (λ i. not (is_takable w.terminal i)) q.items) ≡ true

front_records : (fs : List Flight) (q : Plan) (key : List ℕ) → slice_get fs 0 ≡ Some (flight.Ctl (rec.Reconf q key)) → (rs : List Rec) × (records_in fs ≡ rec.Reconf q key ∷ rs)
front_records [] q key at = absurd (let bad : None ≡ Some (flight.Ctl (rec.Reconf q key)) = at in cc)
front_records (f ∷ fs) q key at =
    let same : f ≡ flight.Ctl (rec.Reconf q key) = cc in (records_in fs, ap (λ x. records_in (x ∷ fs)) same)

pub taken_next : (p : Past) (w : World) (q : Plan) (key : List ℕ) → Holds p w → find (λ (x : Plan). x.g == q.g) p.plans ≡ Some q → IsKeyOf p.table.roots q key
    → slice_get (flights_on (link M T Ctl) w.links) 0 ≡ Some (flight.Ctl (rec.Reconf q key)) → IsTakenNext p w q key
taken_next p w q key holds drawn keyed at =
    let front = front_records (flights_on (link M T Ctl) w.links) q key at in
    let table = rows_have w.master.proc.table.rows in
    let first : FirstIs (IsTakenThere (terminal_view w.terminal)) (rec.Reconf q key ∷ front.0) =
    subst (FirstIs (IsTakenThere (terminal_view w.terminal))) front.1 (taken_first (terminal_view w.terminal) (records_on M T w) table holds.agreed.both) in
    let talks : Talks (due_by w.master.proc.command) (bare_records (rec.Reconf q key ∷ front.0)) (bare_records (records_on T M w)) =
    subst (λ rs. Talks (due_by w.master.proc.command) (bare_records rs) (bare_records (records_on T M w))) front.1 holds.agreed.talks in
    let asks = asked_first (due_by w.master.proc.command) q key (bare_records front.0) (bare_records (records_on T M w)) talks in
    let last = last_by (view p) q key w.master.proc.command p.table.command holds.lasts.agree.same.command asks in
    let head = is_head (seen p) q key keyed holds.up.drawn drawn last in
    record { qs = head.0; last = head.1; takes = plan_is w.terminal q ∙ first }

-- ---- where no command is open, the terminal has the bearers of the table

nothing_on : (due : Due) (down up : List Rec) → due ≡ nothing_due → Talks due down up → down ≡ []
nothing_on due down up none (quiet_both is down_is up_is) = down_is
nothing_on due down up none (asked_once r asks down_is up_is) = absurd (subst (λ d. IsAsking d r) none asks)
nothing_on due down up none (answered_once r answers down_is up_is) = down_is

not_held : (t : TerminalNode) (id : ℕ) → bearer_has (terminal_view t id) ≡ None → held id t.halves ≡ None
not_held t id none = by (held id t.halves) none
  where
    by : (o : Option TerminalHalf) → bearer_has (option_map half_view o) ≡ None → o ≡ None
    by None is = refl
    by (Some h) is = absurd (let bad : Some (bits h.setup.n, h.setup.first) ≡ None = is in cc)

pub free_of : (w : World) (id : ℕ) → IsAgreed w → w.master.proc.command ≡ None → row w.master.proc.table id ≡ None → held id w.terminal.halves ≡ None
free_of w id agreed idle none =
    let line = nothing_on (due_by w.master.proc.command) (bare_records (records_on M T w)) (bare_records (records_on T M w)) (ap due_by idle) agreed.talks in
    let both = subst (λ rs. HaveBoth (bearers_have (terminal_view w.terminal)) rs (rows_have w.master.proc.table.rows)) line agreed.both in
    not_held w.terminal id (both id ∙ ap row_has none)
