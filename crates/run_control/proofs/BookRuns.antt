-- In each run the terminal has the bearers of the master's table, once it has taken what is on its way, and takes what comes first.
use Rattle.std.proofs.Common.{ℕ, ◌≡◌, ◌++◌, ◌==◌, Bool, true, false, List, [], ◌∷◌, Option, Some, None, length, refl, sym, ap, subst, ◌∙◌}
use Rattle.std.specs.Prelude.{Ok, if◌then◌else◌, is_none, is_some, not, ◌||◌}
use Rattle.std.specs.List.{list_any}
use Rattle.std.proofs.lemmas.List.{append-nil}
use Rattle.dc_base.specs.Count.{bits}
use Rattle.dc_base.specs.Links.{link}
use Rattle.dc_base.specs.Records.{item_id}
use Rattle.dc_base.specs.declared.events.Event.{Event}
use Rattle.dc_base.specs.declared.events.Header.{Header}
use Rattle.dc_base.specs.declared.flights.Flight.TheVariants as flight
use Rattle.dc_base.specs.declared.nodes.Class.TheVariants.{Ctl}
use Rattle.dc_base.specs.declared.nodes.LinkId.{LinkId}
use Rattle.dc_base.specs.declared.nodes.Node.TheVariants.{A, B, M, T}
use Rattle.dc_base.specs.declared.records.Item.{Item}
use Rattle.dc_base.specs.declared.records.Item.TheVariants as item
use Rattle.dc_base.specs.declared.records.Plan.{Plan}
use Rattle.dc_base.specs.declared.records.Rec.{Rec}
use Rattle.dc_base.specs.declared.records.Rec.TheVariants as rec
use Rattle.node_rules.specs.Choices.{Choices, Send}
use Rattle.node_rules.specs.Effects.{after_effects, quiet}
use Rattle.node_rules.specs.Master.{MasterNode}
use Rattle.node_rules.specs.MasterPlan.{does}
use Rattle.node_rules.specs.MasterState.{MasterActs, MasterProc}
use Rattle.node_rules.specs.MasterStep.{master_step}
use Rattle.node_rules.specs.MasterTaking.{master_adopted}
use Rattle.node_rules.specs.Run.{Happening, carried_on, given_to, happening, on_links, refused_for, world_after, world_step}
use Rattle.node_rules.specs.SecondStep.{second_step}
use Rattle.node_rules.specs.Terminal.{TerminalNode, terminal_step, terminal_takes}
use Rattle.node_rules.specs.World.{World, new_world}
use Rattle.node_rules.specs.declared.inputs.Effects.{Effects}
use Rattle.node_rules.specs.declared.inputs.Input.{Input}
use Rattle.node_rules.specs.declared.inputs.Input.TheVariants.{Come}
use Rattle.run_control.specs.Books.{Books, Fit, Have, HaveBoth, IsBooked, bearer_has, bearers_have, books_nothing, books_plan, books_recovery, has_like, have_after, have_with, item_fits, item_has, rows_have}
use Rattle.run_control.specs.Claims.{FirstIs, IsTakenThere, Talks, TerminalTalks, answered_once, asked_once, quiet_both}
use Rattle.run_control.specs.Links.{records_on, sent_on}
use Rattle.run_control.specs.MasterControl.{MasterProjects, adopts_by_it, master_heard, master_no_row, master_ordered, master_passed, master_refused, waits_on}
use Rattle.run_control.specs.Orders.{Ascends}
use Rattle.run_control.specs.SecondControl.{bare_record, record_to, records_sent, set_by}
use Rattle.run_control.specs.Sound.{AddsSecond, AreSound, AreSoundActs, IsSound, TakesSound}
use Rattle.run_control.specs.Steps.{MasterStepped, TerminalStepped, master_by_command, master_by_nothing, master_by_record, master_by_traffic, record_in, sender_of, terminal_by_failure, terminal_by_nothing, terminal_by_record, terminal_by_traffic}
use Rattle.run_control.specs.Telling.{Due, due_by}
use Rattle.run_control.specs.TerminalControl.{Bearers, bearers_after, bearers_with, heard_bearers, is_like_bearer, takes_item, takes_plan, terminal_answers}
use Rattle.run_control.specs.Traffic.{came, master_adopts, master_keeps}
use Rattle.run_control.specs.Views.{Bearer, master_view, terminal_view}
use Rattle.run_control.proofs.BookSteps.{TakesBooked, adoption_booked, command_booked, take_booked}
use Rattle.run_control.proofs.MasterActs.{does_projects}
use Rattle.run_control.proofs.Names.{IsAway, second_apart}
use Rattle.run_control.proofs.NoLinks.{IsNoLink}
use Rattle.run_control.proofs.Records.{bare_flights, bare_records, sent_bare}
use Rattle.run_control.proofs.Runs.{AddsBy, AddsIn, event_adds}
use Rattle.run_control.proofs.Sequences.{no_records, records_both}
use Rattle.run_control.proofs.Sound.{adoption_sound, command_sound, take_sound}
use Rattle.run_control.proofs.Steps.{master_stepped, second_stepped, terminal_stepped}
use Rattle.run_control.proofs.Tables.{after_alike, fit_alike}
use Rattle.run_control.proofs.Taken.{GoesRight, HasNone, IsRight, Takes, event_right, event_takes, left_by, records_in, takes_none, takes_one}
use Rattle.run_control.proofs.TalkRuns.{LineTalks, after_is, event_kept, event_talks, new_kept, nothing_comes, talks_of}
use Rattle.run_control.proofs.TalkSteps.{IsKept, a_down, b_down, input_of, no_happening, not_given, told_down}
use Rattle.run_control.proofs.Links.{master_terminal}
use Rattle.run_control.proofs.Talks.{acts_down, rest_of, talks_answered}
use Rattle.run_control.proofs.Telling.{told_in}
use Rattle.run_control.proofs.TerminalHears.{terminal_hears}

-- ---- the terminal takes what fits

item_same : (bearers : Bearers) (i : Item) → takes_item bearers i ≡ item_fits (bearers_have bearers) i
item_same bearers (item.Set id n first shape threshold policy key None) = by (bearers id)
  where
    by : (o : Option Bearer) → is_none o ≡ is_none (bearer_has o)
    by None = refl
    by (Some b) = refl
item_same bearers (item.Set id n first shape threshold policy key (Some old)) = by (bearers id)
  where
    by : (o : Option Bearer) → is_like_bearer n first o ≡ has_like (bits n) first (bearer_has o)
    by None = refl
    by (Some b) = refl
item_same bearers (item.Unset id) = by (bearers id)
  where
    by : (o : Option Bearer) → is_some o ≡ is_some (bearer_has o)
    by None = refl
    by (Some b) = refl

none_refused : (bearers : Bearers) (items : List Item) → Fit (bearers_have bearers) items → list_any (λ i. not (takes_item bearers i)) items ≡ false
none_refused bearers [] fits = refl
none_refused bearers (i ∷ items) fits = ap (λ b. not b || list_any (λ j. not (takes_item bearers j)) items) (item_same bearers i ∙ fits.0) ∙ none_refused bearers items fits.1

plan_taken : (bearers : Bearers) (p : Plan) → Fit (bearers_have bearers) p.items → takes_plan bearers p ≡ true
plan_taken bearers p fits = ap not (none_refused bearers p.items fits)

some_bearer : (o : Option Bearer) → is_some (bearer_has o) ≡ true → is_some o ≡ true
some_bearer None there = absurd cc
some_bearer (Some b) there = refl

-- what comes first is taken
pub taken_first : (bearers : Bearers) (rs : List Rec) (table : Have) → HaveBoth (bearers_have bearers) (bare_records rs) table → FirstIs (IsTakenThere bearers) rs
taken_first bearers [] table both = tt
taken_first bearers (rec.Reconf p key ∷ rs) table both = plan_taken bearers p both.0
taken_first bearers (rec.Recov id ∷ rs) table both = some_bearer (bearers id) both.0
taken_first bearers (rec.Rcomp g ∷ rs) table both = absurd both
taken_first bearers (rec.Scgf failed ∷ rs) table both = absurd both
taken_first bearers (rec.Recovd id ∷ rs) table both = absurd both
taken_first bearers (rec.Addreq plan key ∷ rs) table both = absurd both
taken_first bearers (rec.Addack g ∷ rs) table both = absurd both
taken_first bearers (rec.Addrej g ∷ rs) table both = absurd both
taken_first bearers (rec.Modreq plan key ∷ rs) table both = absurd both
taken_first bearers (rec.Modack g ∷ rs) table both = absurd both
taken_first bearers (rec.Modrej g ∷ rs) table both = absurd both
taken_first bearers (rec.Recfg g ∷ rs) table both = absurd both
taken_first bearers (rec.Relreq plan ∷ rs) table both = absurd both
taken_first bearers (rec.Relack g ∷ rs) table both = absurd both
taken_first bearers (rec.Relrej g ∷ rs) table both = absurd both
taken_first bearers (rec.Uecr g ∷ rs) table both = absurd both
taken_first bearers (rec.Snst status ∷ rs) table both = absurd both
taken_first bearers (rec.Moved g id ∷ rs) table both = absurd both
taken_first bearers (rec.Scgn id g ∷ rs) table both = absurd both
taken_first bearers (rec.Modrqd ∷ rs) table both = absurd both
taken_first bearers (rec.Modcnf g ∷ rs) table both = absurd both
taken_first bearers (rec.Modref word ∷ rs) table both = absurd both
taken_first bearers (rec.Chgrqd ∷ rs) table both = absurd both
taken_first bearers (rec.Chgcnf plan ∷ rs) table both = absurd both
taken_first bearers (rec.Chgref word ∷ rs) table both = absurd both
taken_first bearers (rec.Relrqd ∷ rs) table both = absurd both
taken_first bearers (rec.Relcnf plan ∷ rs) table both = absurd both

-- after a plan
set_has : (g : ℕ) (i : Item) → bearer_has (set_by g i) ≡ item_has i
set_has g (item.Set id n first shape threshold policy key old) = refl
set_has g (item.Unset id) = refl

with_same : (g : ℕ) (i : Item) (bearers : Bearers) (k : ℕ) → bearers_have (bearers_with g i bearers) k ≡ have_with i (bearers_have bearers) k
with_same g i bearers k = by (item_id i == k)
  where
    by : (b : Bool) → bearer_has (if b then set_by g i else bearers k) ≡ (if b then item_has i else bearer_has (bearers k))
    by true = set_has g i
    by false = refl

after_same : (g : ℕ) (items : List Item) (bearers : Bearers) (k : ℕ) → bearers_have (bearers_after g items bearers) k ≡ have_after items (bearers_have bearers) k
after_same g [] bearers k = refl
after_same g (i ∷ items) bearers k =
    after_same g items (bearers_with g i bearers) k ∙ after_alike items (bearers_have (bearers_with g i bearers)) (have_with i (bearers_have bearers)) (with_same g i bearers) k

-- the terminal took the only record of the line
taken_both : (bearers : Bearers) (r : Rec) (rest : List Rec) (table : Have) → HaveBoth (bearers_have bearers) (bare_record r ∷ rest) table → (k : ℕ) → bearers_have (heard_bearers bearers r) k ≡ table k
taken_both bearers (rec.Reconf p key) rest table both k =
    ap (λ b. bearer_has ((if b then bearers_after p.g p.items bearers else bearers) k)) (plan_taken bearers p both.0) ∙ after_same p.g p.items bearers k ∙ both.1 k
taken_both bearers (rec.Recov id) rest table both k = both.1 k
taken_both bearers (rec.Rcomp g) rest table both k = absurd both
taken_both bearers (rec.Scgf failed) rest table both k = absurd both
taken_both bearers (rec.Recovd id) rest table both k = absurd both
taken_both bearers (rec.Addreq plan key) rest table both k = absurd both
taken_both bearers (rec.Addack g) rest table both k = absurd both
taken_both bearers (rec.Addrej g) rest table both k = absurd both
taken_both bearers (rec.Modreq plan key) rest table both k = absurd both
taken_both bearers (rec.Modack g) rest table both k = absurd both
taken_both bearers (rec.Modrej g) rest table both k = absurd both
taken_both bearers (rec.Recfg g) rest table both k = absurd both
taken_both bearers (rec.Relreq plan) rest table both k = absurd both
taken_both bearers (rec.Relack g) rest table both k = absurd both
taken_both bearers (rec.Relrej g) rest table both k = absurd both
taken_both bearers (rec.Uecr g) rest table both k = absurd both
taken_both bearers (rec.Snst status) rest table both k = absurd both
taken_both bearers (rec.Moved g id) rest table both k = absurd both
taken_both bearers (rec.Scgn id g) rest table both k = absurd both
taken_both bearers rec.Modrqd rest table both k = absurd both
taken_both bearers (rec.Modcnf g) rest table both k = absurd both
taken_both bearers (rec.Modref word) rest table both k = absurd both
taken_both bearers rec.Chgrqd rest table both k = absurd both
taken_both bearers (rec.Chgcnf plan) rest table both k = absurd both
taken_both bearers (rec.Chgref word) rest table both k = absurd both
taken_both bearers rec.Relrqd rest table both k = absurd both
taken_both bearers (rec.Relcnf plan) rest table both k = absurd both

-- what is alike stays so
both_alike : (v w : Have) (rs : List Rec) (t u : Have) → ((k : ℕ) → v k ≡ w k) → ((k : ℕ) → t k ≡ u k) → HaveBoth v rs t → HaveBoth w rs u
both_alike v w [] t u same other both = λ k. sym (same k) ∙ both k ∙ other k
both_alike v w (rec.Reconf p key ∷ rs) t u same other both =
    (fit_alike v w p.items same both.0, λ k. sym (after_alike p.items v w same k) ∙ both.1 k ∙ other k)
both_alike v w (rec.Recov id ∷ rs) t u same other both = (sym (ap (λ (o : Option (ℕ × ℕ)). is_some o) (same id)) ∙ both.0, λ k. sym (same k) ∙ both.1 k ∙ other k)
both_alike v w (rec.Rcomp g ∷ rs) t u same other both = absurd both
both_alike v w (rec.Scgf failed ∷ rs) t u same other both = absurd both
both_alike v w (rec.Recovd id ∷ rs) t u same other both = absurd both
both_alike v w (rec.Addreq plan key ∷ rs) t u same other both = absurd both
both_alike v w (rec.Addack g ∷ rs) t u same other both = absurd both
both_alike v w (rec.Addrej g ∷ rs) t u same other both = absurd both
both_alike v w (rec.Modreq plan key ∷ rs) t u same other both = absurd both
both_alike v w (rec.Modack g ∷ rs) t u same other both = absurd both
both_alike v w (rec.Modrej g ∷ rs) t u same other both = absurd both
both_alike v w (rec.Recfg g ∷ rs) t u same other both = absurd both
both_alike v w (rec.Relreq plan ∷ rs) t u same other both = absurd both
both_alike v w (rec.Relack g ∷ rs) t u same other both = absurd both
both_alike v w (rec.Relrej g ∷ rs) t u same other both = absurd both
both_alike v w (rec.Uecr g ∷ rs) t u same other both = absurd both
both_alike v w (rec.Snst status ∷ rs) t u same other both = absurd both
both_alike v w (rec.Moved g id ∷ rs) t u same other both = absurd both
both_alike v w (rec.Scgn id g ∷ rs) t u same other both = absurd both
both_alike v w (rec.Modrqd ∷ rs) t u same other both = absurd both
both_alike v w (rec.Modcnf g ∷ rs) t u same other both = absurd both
both_alike v w (rec.Modref word ∷ rs) t u same other both = absurd both
both_alike v w (rec.Chgrqd ∷ rs) t u same other both = absurd both
both_alike v w (rec.Chgcnf plan ∷ rs) t u same other both = absurd both
both_alike v w (rec.Chgref word ∷ rs) t u same other both = absurd both
both_alike v w (rec.Relrqd ∷ rs) t u same other both = absurd both
both_alike v w (rec.Relcnf plan ∷ rs) t u same other both = absurd both

-- ---- the master

-- what it told, and what its table is then
record BookedBy (have : Have) (done : MasterNode × Effects) : Type 0 where
  acts : MasterActs
  books : Books have acts
  state : IsBooked acts.0
  proc : done.0.proc ≡ acts.0
  down : told_down done.1.sends ≡ told_in acts.1

bare_books : (have : Have) (r : MasterActs) → Books have r → bare_records (told_in r.1) ≡ told_in r.1
bare_books have r (books_nothing told same) = ap bare_records told ∙ sym told
bare_books have r (books_plan p key told fits after) = ap bare_records told ∙ sym told
bare_books have r (books_recovery id told same there) = ap bare_records told ∙ sym told

projects_booked : (have : Have) (m : MasterNode) (acts : MasterActs) (done : MasterNode × Effects) → TakesBooked have (Ok acts) → AreSoundActs acts → MasterProjects m acts done → BookedBy have done
projects_booked have m acts done booked sound is = record {
  acts = acts;
  books = booked.1;
  state = booked.0;
  proc = is.proc;
  down = ap (λ xs. records_in (sent_on (link M T Ctl) xs)) is.told ∙ acts_down acts.1 (master_view m) sound.acts ∙ bare_books have acts booked.1;
}

nothing_booked : (m : MasterNode) (done : MasterNode × Effects) → IsBooked m.proc → done.0.proc ≡ m.proc → told_down done.1.sends ≡ [] → BookedBy (rows_have m.proc.table.rows) done
nothing_booked m done booked proc none = record { acts = (m.proc, []); books = books_nothing refl (λ k. refl); state = booked; proc = proc; down = none }

quiet_booked : (m : MasterNode) (done : MasterNode × Effects) → IsBooked m.proc → done ≡ (m, quiet) → BookedBy (rows_have m.proc.table.rows) done
quiet_booked m done booked is = nothing_booked m done booked (ap (λ (x : MasterNode × Effects). x.0.proc) is) (ap (λ (x : MasterNode × Effects). told_down x.1.sends) is)

adopted_booked : (c : Choices) (m next : MasterNode) (before : Effects) (id : ℕ) (done : MasterNode × Effects) → IsBooked m.proc → IsSound m.proc → next.proc ≡ m.proc
    → records_sent before.sends ≡ [] → Ascends next.anchors → done ≡ after_effects before (does c next (master_adopted next.proc id)) → BookedBy (rows_have m.proc.table.rows) done
adopted_booked c m next before id done booked sound proc none up is =
    let acts = master_adopted next.proc id in
    let then' = does c next acts in
    let projects = does_projects c next acts up in
    let still : IsSound next.proc = subst IsSound (sym proc) sound in
    let kept : IsBooked next.proc = subst IsBooked (sym proc) booked in
    let taken : TakesBooked (rows_have m.proc.table.rows) (Ok acts) = subst (λ (p : MasterProc). TakesBooked (rows_have p.table.rows) (Ok acts)) proc (adoption_booked next.proc kept id still) in
    projects_booked (rows_have m.proc.table.rows) next acts done taken (adoption_sound next.proc id still) (record {
      proc = ap (λ (x : MasterNode × Effects). x.0.proc) is ∙ projects.proc;
      after = λ k. ap (λ (x : MasterNode × Effects). master_view x.0 k) is ∙ projects.after k;
      told = ap (λ (x : MasterNode × Effects). records_sent x.1.sends) is ∙ records_both before.sends then'.1.sends none projects.told;
      ascends = subst (λ (x : MasterNode × Effects). Ascends x.0.anchors) (sym is) projects.ascends;
    })

stepped_booked : (c : Choices) (m : MasterNode) (i : Input) (done : MasterNode × Effects) → AddsIn i → Ascends m.anchors → IsSound m.proc → IsBooked m.proc → MasterStepped c m i done → BookedBy (rows_have m.proc.table.rows) done
stepped_booked c m i done adds up sound booked (master_by_traffic (master_keeps proc views sends ascends)) =
    nothing_booked m done booked proc (ap (λ xs. records_in (sent_on (link M T Ctl) xs)) (no_records done.1.sends sends))
stepped_booked c m i done adds up sound booked (master_by_traffic (master_adopts id v at had next before proc views sends ascends is)) =
    adopted_booked c m next before id done booked sound proc (no_records before.sends sends) (ascends up) is
stepped_booked c m i done adds up sound booked (master_by_record r came_in (master_heard acts taken plain is)) =
    projects_booked (rows_have m.proc.table.rows) m acts done (subst (TakesBooked (rows_have m.proc.table.rows)) taken (take_booked m.proc booked (sender_of i) r sound))
    (subst TakesSound taken (take_sound (sender_of i) m.proc r sound)) is
stepped_booked c m i done adds up sound booked (master_by_record r came_in (master_passed status taken (waits_on did))) =
    nothing_booked m done booked did.proc (ap (λ xs. records_in (sent_on (link M T Ctl) xs)) did.told)
stepped_booked c m i done adds up sound booked (master_by_record r came_in (master_passed status taken (adopts_by_it v at awaited next before did is))) =
    adopted_booked c m next before status.id done booked sound did.proc did.told did.ascends is
stepped_booked c m i done adds up sound booked (master_by_record r came_in (master_no_row why taken is)) = quiet_booked m done booked is
stepped_booked c m i done adds up sound booked (master_by_command e came_in (master_ordered acts taken is)) =
    let good : AddsSecond e = subst AddsIn came_in adds in
    projects_booked (rows_have m.proc.table.rows) m acts done (subst (TakesBooked (rows_have m.proc.table.rows)) taken (command_booked m.proc booked (length c.policies) e good sound))
    (subst TakesSound taken (command_sound (length c.policies) m.proc e good sound)) is
stepped_booked c m i done adds up sound booked (master_by_command e came_in (master_refused why refused is)) = quiet_booked m done booked is
stepped_booked c m i done adds up sound booked (master_by_nothing is) = quiet_booked m done booked is

-- only one record stands on the line
alone : (due : Due) (d : List Rec) (x : Rec) (u : List Rec) → Talks due (d ++ x ∷ []) u → d ≡ []
alone due [] x u talks = refl
alone due (y ∷ d) x u (quiet_both is down_is up_is) = absurd cc
alone due (y ∷ d) x u (asked_once r asks down_is up_is) = by d (ap rest_of down_is)
  where
    by : (e : List Rec) → e ++ x ∷ [] ≡ [] → y ∷ d ≡ []
    by [] is = absurd cc
    by (z ∷ e) is = absurd cc
alone due (y ∷ d) x u (answered_once r answers down_is up_is) = absurd cc

-- the line after what the master told
told_both : (v have : Have) (due : Due) (d u : List Rec) (r : MasterActs) → Talks due (d ++ told_in r.1) u → Books have r → HaveBoth v d have → HaveBoth v (d ++ told_in r.1) (rows_have r.0.table.rows)
told_both v have due d u r talks (books_nothing told same) both =
    subst (λ rs. HaveBoth v rs (rows_have r.0.table.rows)) (sym (ap (λ rs. d ++ rs) told ∙ append-nil d)) (both_alike v v d have (rows_have r.0.table.rows) (λ k. refl) (λ k. sym (same k)) both)
told_both v have due d u r talks (books_plan p key told fits after) both =
    let one = ap (λ rs. d ++ rs) told in
    let none = alone due d (rec.Reconf p key) u (subst (λ rs. Talks due rs u) one talks) in
    let same : (k : ℕ) → v k ≡ have k = subst (λ rs. HaveBoth v rs have) none both in
    subst (λ rs. HaveBoth v rs (rows_have r.0.table.rows)) (sym (one ∙ ap (λ rs. rs ++ rec.Reconf p key ∷ []) none))
    (fit_alike have v p.items (λ k. sym (same k)) fits, λ k. after_alike p.items v have same k ∙ sym (after k))
told_both v have due d u r talks (books_recovery id told still there) both =
    let one = ap (λ rs. d ++ rs) told in
    let none = alone due d (rec.Recov id) u (subst (λ rs. Talks due rs u) one talks) in
    let same : (k : ℕ) → v k ≡ have k = subst (λ rs. HaveBoth v rs have) none both in
    subst (λ rs. HaveBoth v rs (rows_have r.0.table.rows)) (sym (one ∙ ap (λ rs. rs ++ rec.Recov id ∷ []) none))
    (ap (λ (o : Option (ℕ × ℕ)). is_some o) (same id) ∙ there, λ k. same k ∙ sym (still k))

-- ---- any input

module _ (c : Choices) (w : World) (kept : IsKept w) (booked : IsBooked w.master.proc) (down down' up : List Rec) (talks : Talks (due_by w.master.proc.command) (bare_records down) (bare_records up))
    (both : HaveBoth (bearers_have (terminal_view w.terminal)) (bare_records down) (rows_have w.master.proc.table.rows)) where
  -- what is so then
  abbrev pub BothThen : World → List Send → Type 0
  BothThen v sends = HaveBoth (bearers_have (terminal_view v.terminal)) (bare_records down' ++ told_down sends) (rows_have v.master.proc.table.rows)

  -- the line and the table stay
  line_stays : (bearers : Bearers) (sends : List Send) → ((k : ℕ) → terminal_view w.terminal k ≡ bearers k) → down' ≡ down → told_down sends ≡ []
      → HaveBoth (bearers_have bearers) (bare_records down' ++ told_down sends) (rows_have w.master.proc.table.rows)
  line_stays bearers sends same p none =
      subst (λ rs. HaveBoth (bearers_have bearers) rs (rows_have w.master.proc.table.rows)) (sym (ap (λ rs. bare_records down' ++ rs) none ∙ append-nil (bare_records down') ∙ ap bare_records p))
      (both_alike (bearers_have (terminal_view w.terminal)) (bearers_have bearers) (bare_records down) (rows_have w.master.proc.table.rows) (rows_have w.master.proc.table.rows) (λ k. ap bearer_has (same k)) (λ k. refl) both)

  terminal_stays : (i : Input) (done : TerminalNode × Effects) → down' ≡ down → ((r : Rec) → record_in i ≡ Some r → ⊥) → TerminalStepped w.terminal i done
      → HaveBoth (bearers_have (terminal_view done.0)) (bare_records down' ++ told_down done.1.sends) (rows_have w.master.proc.table.rows)
  terminal_stays i done p never_given (terminal_by_traffic is) =
      line_stays (terminal_view done.0) done.1.sends (λ k. sym (is.views k)) p (ap (λ xs. records_in (sent_on (link M T Ctl) xs)) (no_records done.1.sends is.sends))
  terminal_stays i done p never_given (terminal_by_record r came_in is) = absurd (never_given r came_in)
  terminal_stays i done p never_given (terminal_by_failure failed came_in is) =
      line_stays (terminal_view done.0) done.1.sends (λ k. sym (is.after k)) p (ap (λ xs. records_in (sent_on (link M T Ctl) xs)) is.told)
  terminal_stays i done p never_given (terminal_by_nothing is) =
      line_stays (terminal_view done.0) done.1.sends (λ k. sym (ap (λ (x : TerminalNode × Effects). terminal_view x.0 k) is)) p (ap (λ (x : TerminalNode × Effects). told_down x.1.sends) is)

  terminal_took : (r : Rec) → down ≡ r ∷ down' → (let done = terminal_takes c w.terminal M (flight.Ctl r) Ctl in
      HaveBoth (bearers_have (terminal_view done.0)) (bare_records down' ++ told_down done.1.sends) (rows_have w.master.proc.table.rows))
  terminal_took r first =
      let view = terminal_view w.terminal in
      let table = rows_have w.master.proc.table.rows in
      let line : HaveBoth (bearers_have view) (bare_record r ∷ bare_records down') table = subst (λ rs. HaveBoth (bearers_have view) (bare_records rs) table) first both in
      let talk : Talks (due_by w.master.proc.command) (bare_record r ∷ bare_records down') (bare_records up) = subst (λ rs. Talks (due_by w.master.proc.command) (bare_records rs) (bare_records up)) first talks in
      let taken : IsTakenThere view r = subst (FirstIs (IsTakenThere view)) first (taken_first view down table both) in
      by line talk (talks_answered (due_by w.master.proc.command) view r (bare_records down') (bare_records up) taken talk)
    where
      empty : (rs : List Rec) → Talks (due_by w.master.proc.command) (bare_record r ∷ rs) (bare_records up) → rs ≡ []
      empty rs (quiet_both is down_is up_is) = absurd cc
      empty rs (asked_once x asks down_is up_is) = ap rest_of down_is
      empty rs (answered_once x answers down_is up_is) = absurd cc

      by : HaveBoth (bearers_have (terminal_view w.terminal)) (bare_record r ∷ bare_records down') (rows_have w.master.proc.table.rows)
          → Talks (due_by w.master.proc.command) (bare_record r ∷ bare_records down') (bare_records up)
          → ((a : Rec) × (terminal_answers (terminal_view w.terminal) r ≡ record_to T M a ∷ []) × Talks (due_by w.master.proc.command) (bare_records down') (bare_records up ++ bare_record a ∷ []))
          → (let done = terminal_takes c w.terminal M (flight.Ctl r) Ctl in HaveBoth (bearers_have (terminal_view done.0)) (bare_records down' ++ told_down done.1.sends) (rows_have w.master.proc.table.rows))
      by line talk (a, is, then') =
          let done = terminal_takes c w.terminal M (flight.Ctl r) Ctl in
          let did = terminal_hears c w.terminal M r kept.ordered.terminal in
          let none : told_down done.1.sends ≡ [] = ap (λ xs. records_in (sent_on (link M T Ctl) xs)) (did.told ∙ is) in
          let all : bare_records down' ++ told_down done.1.sends ≡ [] = ap (λ rs. bare_records down' ++ rs) none ∙ append-nil (bare_records down') ∙ empty (bare_records down') talk in
          subst (λ rs. HaveBoth (bearers_have (terminal_view done.0)) rs (rows_have w.master.proc.table.rows)) (sym all)
          (λ k. ap bearer_has (did.after k) ∙ taken_both (terminal_view w.terminal) r (bare_records down') (rows_have w.master.proc.table.rows) line k)

  -- by the node that gets it
  to_terminal : (i : Input) → Takes (link M T Ctl) (given_to T i) down down' → ((l : LinkId) → IsNoLink l → HasNone l (given_to T i)) → GoesRight i T → BothThen (carried_on c w (given_to T i)).0 (carried_on c w (given_to T i)).1.sends
  to_terminal i (takes_none p none) others right = terminal_stays i (came (terminal_step c w.terminal i)) p (λ r is. not_given i r others none right is) (terminal_stepped c w.terminal i kept.ordered.terminal)
  to_terminal i (takes_one r first is) others right =
      let input : i ≡ Come (link M T Ctl) (flight.Ctl r) = ap (λ h. input_of h i) is in
      subst (λ j. BothThen (carried_on c w (given_to T j)).0 (carried_on c w (given_to T j)).1.sends) (sym input) (terminal_took r first)

  to_master : (i : Input) (u : List Rec) → Takes (link M T Ctl) (given_to M i) down down' → AddsIn i
      → Talks (due_by (carried_on c w (given_to M i)).0.master.proc.command) (bare_records down' ++ told_down (carried_on c w (given_to M i)).1.sends) u
      → BothThen (carried_on c w (given_to M i)).0 (carried_on c w (given_to M i)).1.sends
  to_master i u (takes_one r first is) adds then' = absurd (no_happening (given_to M i) T M (Come (link M T Ctl) (flight.Ctl r)) is refl refl)
  to_master i u (takes_none p none) adds then' =
      let done = came (master_step c w.master i) in
      let view = bearers_have (terminal_view w.terminal) in
      let have = rows_have w.master.proc.table.rows in
      let by = stepped_booked c w.master i done adds kept.ordered.master kept.sound booked (master_stepped c w.master i kept.ordered.master) in
      let line : bare_records down' ++ told_down done.1.sends ≡ bare_records down ++ told_in by.acts.1 = ap (λ rs. bare_records rs ++ told_down done.1.sends) p ∙ ap (λ rs. bare_records down ++ rs) by.down in
      let talk = subst (λ rs. Talks (due_by done.0.proc.command) rs u) line then' in
      subst (λ (x : MasterProc). HaveBoth view (bare_records down' ++ told_down done.1.sends) (rows_have x.table.rows)) (sym by.proc)
      (subst (λ rs. HaveBoth view rs (rows_have by.acts.0.table.rows)) (sym line) (told_both view have (due_by done.0.proc.command) (bare_records down) u by.acts talk by.books both))

  carried_both : (what : Happening) (u : List Rec) → Takes (link M T Ctl) what down down' → ((l : LinkId) → IsNoLink l → HasNone l what) → IsRight what → AddsBy what
      → Talks (due_by (carried_on c w what).0.master.proc.command) (bare_records down' ++ told_down (carried_on c w what).1.sends) u → BothThen (carried_on c w what).0 (carried_on c w what).1.sends
  carried_both (given_to T i) u s others right adds then' = to_terminal i s others right
  carried_both (given_to M i) u s others right adds then' = to_master i u s adds then'
  carried_both (given_to A i) u (takes_one r first is) others right adds then' = absurd (no_happening (given_to A i) T A (Come (link M T Ctl) (flight.Ctl r)) is refl refl)
  carried_both (given_to A i) u (takes_none p none) others right adds then' =
      let done = came (second_step c w.a i) in
      line_stays (terminal_view w.terminal) done.1.sends (λ k. refl) p
      (ap records_in (second_apart w.a i (link M T Ctl) done (subst (λ me. IsAway me (link M T Ctl)) (sym kept.named.a) a_down) (second_stepped c w.a i kept.ordered.a)))
  carried_both (given_to B i) u (takes_one r first is) others right adds then' = absurd (no_happening (given_to B i) T B (Come (link M T Ctl) (flight.Ctl r)) is refl refl)
  carried_both (given_to B i) u (takes_none p none) others right adds then' =
      let done = came (second_step c w.b i) in
      line_stays (terminal_view w.terminal) done.1.sends (λ k. refl) p
      (ap records_in (second_apart w.b i (link M T Ctl) done (subst (λ me. IsAway me (link M T Ctl)) (sym kept.named.b) b_down) (second_stepped c w.b i kept.ordered.b)))
  carried_both (refused_for why) u (takes_one r first is) others right adds then' = absurd (no_happening (refused_for why) T M (Come (link M T Ctl) (flight.Ctl r)) is refl refl)
  carried_both (refused_for why) u (takes_none p none) others right adds then' = line_stays (terminal_view w.terminal) [] (λ k. refl) p refl
  carried_both (on_links effects) u (takes_one r first is) others right adds then' = absurd (no_happening (on_links effects) T M (Come (link M T Ctl) (flight.Ctl r)) is refl refl)
  carried_both (on_links effects) u (takes_none p none) others right adds then' =
      line_stays (terminal_view w.terminal) effects.sends (λ k. refl) p (ap records_in (sent_bare (link M T Ctl) refl effects.sends ∙ ap bare_flights (right (link M T Ctl) refl)))

-- the state of the master's table
carried_state : (c : Choices) (w : World) (what : Happening) → IsKept w → IsBooked w.master.proc → AddsBy what → IsBooked (carried_on c w what).0.master.proc
carried_state c w (given_to T i) kept booked adds = booked
carried_state c w (given_to M i) kept booked adds =
    let by = stepped_booked c w.master i (came (master_step c w.master i)) adds kept.ordered.master kept.sound booked (master_stepped c w.master i kept.ordered.master) in
    subst IsBooked (sym by.proc) by.state
carried_state c w (given_to A i) kept booked adds = booked
carried_state c w (given_to B i) kept booked adds = booked
carried_state c w (refused_for why) kept booked adds = booked
carried_state c w (on_links effects) kept booked adds = booked

-- ---- a run

-- all that is kept
pub record IsAgreed (w : World) : Type 0 where
  pub kept : IsKept w
  pub booked : IsBooked w.master.proc
  pub talks : LineTalks w
  pub both : HaveBoth (bearers_have (terminal_view w.terminal)) (bare_records (records_on M T w)) (rows_have w.master.proc.table.rows)

pub event_agreed : (c : Choices) (w : World) (e : Event) → AddsSecond e → IsAgreed w → IsAgreed (world_step c w e).0
event_agreed c w e adds is =
    let what = happening w e in
    let left = records_in (left_by c w (link M T Ctl) refl e what) in
    let down = after_is c w e (link M T Ctl) master_terminal refl refl is.kept.long is.kept.ordered in
    let then' = event_talks c w e adds is.kept (taken_first (terminal_view w.terminal) (records_on M T w) (rows_have w.master.proc.table.rows) is.both) is.talks in
    let line = subst (λ rs. Talks (due_by (carried_on c w what).0.master.proc.command) rs (bare_records (records_on T M (world_step c w e).0))) down then' in
    record {
      kept = event_kept c w e adds is.kept;
      booked = carried_state c w what is.kept is.booked (event_adds w e adds);
      talks = then';
      both =
          subst (λ rs. HaveBoth (bearers_have (terminal_view (carried_on c w what).0.terminal)) rs (rows_have (carried_on c w what).0.master.proc.table.rows)) (sym down)
          (carried_both c w is.kept is.booked (records_on M T w) left (records_on T M w) is.talks is.both what (bare_records (records_on T M (world_step c w e).0)) (event_takes c w (link M T Ctl) refl e)
          (λ l none. nothing_comes c w e l none (is.kept.silent l none)) (event_right w e) (event_adds w e adds) line);
    }

new_agreed : (h : Header) → IsAgreed (new_world h)
new_agreed h = record {
  kept = new_kept h;
  booked = record { rows = tt; command = tt };
  talks = quiet_both refl refl refl;
  both = λ k. refl;
}

run_agreed : (c : Choices) (w : World) (es : List Event) → AreSound es → IsAgreed w → IsAgreed (world_after c w es)
run_agreed c w [] sound is = is
run_agreed c w (e ∷ es) sound is = run_agreed c (world_step c w e).0 es sound.1 (event_agreed c w e sound.0 is)

pub always_agreed : (c : Choices) (h : Header) (es : List Event) → AreSound es → IsAgreed (world_after c (new_world h) es)
always_agreed c h es sound = run_agreed c (new_world h) es sound (new_agreed h)

-- in each state of each run what is due from the terminal is asked for once, or answered once, and nothing else is under way
pub talks_always : (c : Choices) (h : Header) (es : List Event) → AreSound es → TerminalTalks (world_after c (new_world h) es)
talks_always c h es sound = talks_of (world_after c (new_world h) es) (always_agreed c h es sound).talks

-- and the terminal takes what comes first
pub taken_always : (c : Choices) (h : Header) (es : List Event) → AreSound es → FirstIs (IsTakenThere (terminal_view (world_after c (new_world h) es).terminal)) (records_on M T (world_after c (new_world h) es))
taken_always c h es sound =
    let w = world_after c (new_world h) es in
    taken_first (terminal_view w.terminal) (records_on M T w) (rows_have w.master.proc.table.rows) (always_agreed c h es sound).both
