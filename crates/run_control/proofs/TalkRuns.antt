-- Between the master and the terminal, each event keeps: what is due is asked for once, or answered once, and nothing else is under way.
use Rattle.std.proofs.Common.{◌≡◌, ◌++◌, Bool, true, false, List, [], ◌∷◌, length, refl, sym, ap, subst, ◌∙◌}
use Rattle.std.specs.Prelude.{if◌then◌else◌, not}
use Rattle.std.proofs.lemmas.List.{map-append}
use Rattle.dc_base.specs.Links.{link, link_number}
use Rattle.dc_base.specs.declared.events.Event.{Event}
use Rattle.dc_base.specs.declared.events.Header.{Header}
use Rattle.dc_base.specs.declared.flights.Flight.{Flight}
use Rattle.dc_base.specs.declared.nodes.Class.TheVariants.{Ctl}
use Rattle.dc_base.specs.declared.nodes.LinkId.{LinkId}
use Rattle.dc_base.specs.declared.nodes.Node.TheVariants.{M, T}
use Rattle.dc_base.specs.declared.records.Rec.{Rec}
use Rattle.dc_base.specs.declared.records.Rec.TheVariants as rec
use Rattle.node_rules.specs.Choices.{Choices}
use Rattle.node_rules.specs.Run.{carried_on, happening, world_after, world_step}
use Rattle.node_rules.specs.World.{World, flights_on, new_world}
use Rattle.master_runs.proofs.Contents.{long_next}
use Rattle.master_runs.proofs.Moving.{none_there}
use Rattle.run_control.specs.Claims.{FirstIs, IsAnswer, IsTakenThere, Talks, TerminalTalks, answered_once, asked_once, is_failure, quiet_both}
use Rattle.run_control.specs.Links.{records_on, sent_on}
use Rattle.run_control.specs.SecondControl.{bare_record, records_sent}
use Rattle.run_control.specs.Sound.{AddsSecond, AreSound}
use Rattle.run_control.specs.Steps.{AreOrdered}
use Rattle.run_control.specs.Telling.{Due, IsAsking, due_by, nothing_due, plan_due, recovery_due}
use Rattle.run_control.specs.Views.{is_control, terminal_view}
use Rattle.run_control.proofs.EventTurns.{always_links}
use Rattle.run_control.proofs.Links.{IsControlLink, master_terminal, terminal_master}
use Rattle.run_control.proofs.Names.{event_named}
use Rattle.run_control.proofs.NoLinks.{IsNoLink, terminal_terminal, terminal_a, terminal_b, a_terminal, a_a, a_b, b_terminal, b_a, b_b, event_silent}
use Rattle.run_control.proofs.Records.{bare_records, records_append, records_bare, sent_bare}
use Rattle.run_control.proofs.Runs.{event_adds, event_sound}
use Rattle.run_control.proofs.Steps.{event_ordered}
use Rattle.run_control.proofs.Taken.{HasNone, Takes, event_right, event_takes, left_by, records_in, takes_none, takes_one}
use Rattle.run_control.proofs.TalkSteps.{IsKept, carried_talks}
use Rattle.run_control.proofs.Talks.{answering, first_or, rest_of}

-- the records on the two lines, without what they say of the traffic
abbrev pub LineTalks : World → Type 0
LineTalks w = Talks (due_by w.master.proc.command) (bare_records (records_on M T w)) (bare_records (records_on T M w))

-- what stands on a control link after an event
pub after_is : (c : Choices) (w : World) (e : Event) (l : LinkId) → IsControlLink l → (control : l.class ≡ Ctl) → is_control l.class ≡ true → length w.links ≡ 64 → AreOrdered w
    → bare_records (records_in (flights_on l (world_step c w e).0.links))
    ≡ bare_records (records_in (left_by c w l control e (happening w e))) ++ records_in (sent_on l (records_sent (carried_on c w (happening w e)).1.sends))
after_is c w e l one control is long up =
    let sends = (carried_on c w (happening w e)).1.sends in
    let left = left_by c w l control e (happening w e) in
    ap (λ (fs : List Flight). bare_records (records_in fs)) (always_links c w e l one long up)
    ∙ ap bare_records (records_append left (sent_on l sends))
    ∙ map-append bare_record (records_in left) (records_in (sent_on l sends))
    ∙ ap (λ (rs : List Rec). bare_records (records_in left) ++ rs) (sym (ap records_in (sent_bare l is sends) ∙ records_bare (sent_on l sends)))

-- nothing comes from where there is no link
no_class : (l : LinkId) → IsNoLink l → l.class ≡ Ctl
no_class l terminal_terminal = refl
no_class l terminal_a = refl
no_class l terminal_b = refl
no_class l a_terminal = refl
no_class l a_a = refl
no_class l a_b = refl
no_class l b_terminal = refl
no_class l b_a = refl
no_class l b_b = refl

pub nothing_comes : (c : Choices) (w : World) (e : Event) (l : LinkId) → IsNoLink l → flights_on l w.links ≡ [] → HasNone l (happening w e)
nothing_comes c w e l none silent = by (event_takes c w l (no_class l none) e)
  where
    no_one : (r : Rec) (rs : List Rec) → [] ≡ r ∷ rs → HasNone l (happening w e)
    no_one r rs is = absurd cc

    by : Takes l (happening w e) (records_in (flights_on l w.links)) (records_in (left_by c w l (no_class l none) e (happening w e))) → HasNone l (happening w e)
    by (takes_none same is) = is
    by (takes_one r first is) = no_one r (records_in (left_by c w l (no_class l none) e (happening w e))) (sym (ap records_in silent) ∙ first)

-- an event in which the terminal takes what comes first to it
pub event_talks : (c : Choices) (w : World) (e : Event) → AddsSecond e → IsKept w → FirstIs (IsTakenThere (terminal_view w.terminal)) (records_on M T w) → LineTalks w → LineTalks (world_step c w e).0
event_talks c w e adds kept taken talks =
    let what = happening w e in
    let due = due_by (carried_on c w what).0.master.proc.command in
    let down = after_is c w e (link M T Ctl) master_terminal refl refl kept.long kept.ordered in
    let up = after_is c w e (link T M Ctl) terminal_master refl refl kept.long kept.ordered in
    let then' =
    carried_talks c w kept (records_on M T w) (records_in (left_by c w (link M T Ctl) refl e what)) (records_on T M w) (records_in (left_by c w (link T M Ctl) refl e what)) taken talks what
    (event_takes c w (link M T Ctl) refl e) (event_takes c w (link T M Ctl) refl e) (λ l none. nothing_comes c w e l none (kept.silent l none)) (event_right w e) (event_adds w e adds) in
    subst (λ rs. Talks due rs (bare_records (records_on T M (world_step c w e).0))) (sym down)
    (subst (λ rs. Talks due (bare_records (records_in (left_by c w (link M T Ctl) refl e what)) ++ records_in (sent_on (link M T Ctl) (records_sent (carried_on c w what).1.sends))) rs) (sym up) then')

-- ---- what is kept besides

pub event_kept : (c : Choices) (w : World) (e : Event) → AddsSecond e → IsKept w → IsKept (world_step c w e).0
event_kept c w e adds kept = record {
  long = long_next c w e kept.long;
  ordered = event_ordered c w e kept.ordered;
  sound = event_sound c w e adds kept.ordered kept.sound;
  silent = event_silent c w e kept.long kept.ordered kept.silent;
  named = event_named c w e kept.ordered kept.named;
}

pub new_kept : (h : Header) → IsKept (new_world h)
new_kept h = record {
  long = refl;
  ordered = record { terminal = tt; master = tt; a = tt; b = tt };
  sound = record { sec = tt; command = tt };
  silent = λ l none. none_there 64 (link_number l) [];
  named = record { a = refl; b = refl };
}

pub run_kept : (c : Choices) (w : World) (es : List Event) → AreSound es → IsKept w → IsKept (world_after c w es)
run_kept c w [] sound kept = kept
run_kept c w (e ∷ es) sound kept = run_kept c (world_step c w e).0 es sound.1 (event_kept c w e sound.0 kept)

-- in each run
pub always_kept : (c : Choices) (h : Header) (es : List Event) → AreSound es → IsKept (world_after c (new_world h) es)
always_kept c h es sound = run_kept c (new_world h) es sound (new_kept h)

-- ---- with what they say of the traffic

same_failure : (r : Rec) → is_failure (bare_record r) ≡ is_failure r
same_failure (rec.Reconf plan key) = refl
same_failure (rec.Rcomp g) = refl
same_failure (rec.Scgf failed) = refl
same_failure (rec.Recov id) = refl
same_failure (rec.Recovd id) = refl
same_failure (rec.Addreq plan key) = refl
same_failure (rec.Addack g) = refl
same_failure (rec.Addrej g) = refl
same_failure (rec.Modreq plan key) = refl
same_failure (rec.Modack g) = refl
same_failure (rec.Modrej g) = refl
same_failure (rec.Recfg g) = refl
same_failure (rec.Relreq plan) = refl
same_failure (rec.Relack g) = refl
same_failure (rec.Relrej g) = refl
same_failure (rec.Uecr g) = refl
same_failure (rec.Snst status) = refl
same_failure (rec.Moved g id) = refl
same_failure (rec.Scgn id g) = refl
same_failure rec.Modrqd = refl
same_failure (rec.Modcnf g) = refl
same_failure (rec.Modref word) = refl
same_failure rec.Chgrqd = refl
same_failure (rec.Chgcnf plan) = refl
same_failure (rec.Chgref word) = refl
same_failure rec.Relrqd = refl
same_failure (rec.Relcnf plan) = refl

answering_bare : (rs : List Rec) → answering (bare_records rs) ≡ bare_records (answering rs)
answering_bare [] = refl
answering_bare (r ∷ rs) =
    ap (λ b. if not b then bare_record r ∷ answering (bare_records rs) else answering (bare_records rs)) (same_failure r) ∙ by (is_failure r) (answering_bare rs)
  where
    by : (b : Bool) → answering (bare_records rs) ≡ bare_records (answering rs) → (if not b then bare_record r ∷ answering (bare_records rs) else answering (bare_records rs)) ≡ bare_records (if not b then r ∷ answering rs else answering rs)
    by true more = more
    by false more = ap (λ (qs : List Rec). bare_record r ∷ qs) more

none_bare : (rs : List Rec) → bare_records rs ≡ [] → rs ≡ []
none_bare [] is = refl
none_bare (r ∷ rs) is = absurd cc

-- one record
data IsOne (x : Rec) (rs : List Rec) : Type 0 where
  is_one : (r : Rec) → (is : rs ≡ r ∷ []) → (same : bare_record r ≡ x) → IsOne x rs

one_bare : (x : Rec) (rs : List Rec) → bare_records rs ≡ x ∷ [] → IsOne x rs
one_bare x [] is = absurd cc
one_bare x (r ∷ rs) is = is_one r (ap (λ (qs : List Rec). r ∷ qs) (none_bare rs (ap rest_of is))) (ap (λ (qs : List Rec). first_or qs (bare_record r)) is)

asking_bare : (due : Due) (r : Rec) → IsAsking due (bare_record r) → IsAsking due r
asking_bare due (rec.Reconf plan key) asks = asks
asking_bare due (rec.Rcomp g) asks = asks
asking_bare due (rec.Scgf failed) asks = asks
asking_bare due (rec.Recov id) asks = asks
asking_bare due (rec.Recovd id) asks = asks
asking_bare due (rec.Addreq plan key) asks = asks
asking_bare due (rec.Addack g) asks = asks
asking_bare due (rec.Addrej g) asks = asks
asking_bare due (rec.Modreq plan key) asks = asks
asking_bare due (rec.Modack g) asks = asks
asking_bare due (rec.Modrej g) asks = asks
asking_bare due (rec.Recfg g) asks = asks
asking_bare due (rec.Relreq plan) asks = asks
asking_bare due (rec.Relack g) asks = asks
asking_bare due (rec.Relrej g) asks = asks
asking_bare due (rec.Uecr g) asks = asks
asking_bare nothing_due (rec.Snst status) asks = asks
asking_bare (plan_due g) (rec.Snst status) asks = asks
asking_bare (recovery_due id) (rec.Snst status) asks = asks
asking_bare due (rec.Moved g id) asks = asks
asking_bare due (rec.Scgn id g) asks = asks
asking_bare due rec.Modrqd asks = asks
asking_bare due (rec.Modcnf g) asks = asks
asking_bare due (rec.Modref word) asks = asks
asking_bare due rec.Chgrqd asks = asks
asking_bare due (rec.Chgcnf plan) asks = asks
asking_bare due (rec.Chgref word) asks = asks
asking_bare due rec.Relrqd asks = asks
asking_bare due (rec.Relcnf plan) asks = asks

answer_bare : (due : Due) (r : Rec) → IsAnswer due (bare_record r) → IsAnswer due r
answer_bare due (rec.Reconf plan key) is = is
answer_bare due (rec.Rcomp g) is = is
answer_bare due (rec.Scgf failed) is = is
answer_bare due (rec.Recov id) is = is
answer_bare due (rec.Recovd id) is = is
answer_bare due (rec.Addreq plan key) is = is
answer_bare due (rec.Addack g) is = is
answer_bare due (rec.Addrej g) is = is
answer_bare due (rec.Modreq plan key) is = is
answer_bare due (rec.Modack g) is = is
answer_bare due (rec.Modrej g) is = is
answer_bare due (rec.Recfg g) is = is
answer_bare due (rec.Relreq plan) is = is
answer_bare due (rec.Relack g) is = is
answer_bare due (rec.Relrej g) is = is
answer_bare due (rec.Uecr g) is = is
answer_bare due (rec.Snst status) is = is
answer_bare due (rec.Moved g id) is = is
answer_bare due (rec.Scgn id g) is = is
answer_bare due rec.Modrqd is = is
answer_bare due (rec.Modcnf g) is = is
answer_bare due (rec.Modref word) is = is
answer_bare due rec.Chgrqd is = is
answer_bare due (rec.Chgcnf plan) is = is
answer_bare due (rec.Chgref word) is = is
answer_bare due rec.Relrqd is = is
answer_bare due (rec.Relcnf plan) is = is

pub talks_whole : (due : Due) (down up : List Rec) → Talks due (bare_records down) (bare_records up) → Talks due down up
talks_whole due down up (quiet_both is down_is up_is) = quiet_both is (none_bare down down_is) (none_bare (answering up) (sym (answering_bare up) ∙ up_is))
talks_whole due down up (asked_once x asks down_is up_is) = by (one_bare x down down_is)
  where
    by : IsOne x down → Talks due down up
    by (is_one r is same) = asked_once r (asking_bare due r (subst (IsAsking due) (sym same) asks)) is (none_bare (answering up) (sym (answering_bare up) ∙ up_is))
talks_whole due down up (answered_once x answers down_is up_is) = by (one_bare x (answering up) (sym (answering_bare up) ∙ up_is))
  where
    by : IsOne x (answering up) → Talks due down up
    by (is_one r is same) = answered_once r (answer_bare due r (subst (IsAnswer due) (sym same) answers)) (none_bare down down_is) is

-- each state in which what comes to the terminal was taken so far
pub talks_of : (w : World) → LineTalks w → TerminalTalks w
talks_of w talks = talks_whole (due_by w.master.proc.command) (records_on M T w) (records_on T M w) talks
