-- The records between the master and the terminal: what is due is asked for once, or answered once, and nothing else is under way.
use Rattle.std.proofs.Common.{ℕ, ◌≡◌, ◌++◌, Bool, true, false, List, [], ◌∷◌, Option, Some, None, refl, sym, ap, subst, ◌∙◌}
use Rattle.std.specs.Prelude.{filter, if◌then◌else◌, is_some, not, ⊤}
use Rattle.std.specs.List.{AllByRecursion}
use Rattle.std.proofs.lemmas.List.{append-nil, map-append}
use Rattle.std.proofs.lemmas.List.Elements.{filter-append}
use Rattle.std.proofs.lemmas.Grind.{flat_map-append}
use Rattle.dc_base.specs.Links.{is_same_link, link}
use Rattle.dc_base.specs.Nodes.{is_same_node}
use Rattle.dc_base.specs.Records.{item_id}
use Rattle.dc_base.specs.declared.flights.Flight.{Flight}
use Rattle.dc_base.specs.declared.flights.Flight.TheVariants as flight
use Rattle.dc_base.specs.declared.nodes.Class.TheVariants.{Ctl}
use Rattle.dc_base.specs.declared.nodes.Node.{Node}
use Rattle.dc_base.specs.declared.nodes.Node.TheVariants.{A, B, M, T}
use Rattle.dc_base.specs.declared.nodes.Shape.{Shape}
use Rattle.dc_base.specs.declared.records.Item.{Item}
use Rattle.dc_base.specs.declared.records.Item.TheVariants as item
use Rattle.dc_base.specs.declared.records.Plan.{Plan}
use Rattle.dc_base.specs.declared.records.Rec.{Rec}
use Rattle.dc_base.specs.declared.records.Rec.TheVariants as rec
use Rattle.transcript.specs.Content.{on_link}
use Rattle.node_rules.specs.MasterState.{MasterActs}
use Rattle.node_rules.specs.Parts.{moved_part, part_at}
use Rattle.node_rules.specs.Places.{anchor_at, node_or_master}
use Rattle.node_rules.specs.declared.acts.Act.{Act}
use Rattle.node_rules.specs.declared.acts.Act.TheVariants.{FailOne as fail_one, Go as go, Pass as pass, Prepare as prepare, RecoverOne as recover_one, Say as say, Send as send, UnlockAll as unlock_all}
use Rattle.node_rules.specs.declared.parts.Part.{Part}
use Rattle.node_rules.specs.declared.parts.Part.TheVariants.{Awaits as awaits, Drops as drops, Establishes as establishes, HandsOver as hands_over, HasNoAnchor as has_no_anchor, Renews as renews}
use Rattle.run_control.specs.Claims.{IsAnswer, IsTakenThere, Talks, answered_once, asked_once, is_failure, quiet_both}
use Rattle.run_control.specs.Links.{sent_on}
use Rattle.run_control.specs.MasterControl.{own_act_sends, own_act_view, own_acts_sends, own_part_sends, sent_here, with_own_item}
use Rattle.run_control.specs.SecondControl.{Views, bare_record, record_to, status_of, tells, tells_at}
use Rattle.run_control.specs.Sound.{IsSecond, IsSoundAct}
use Rattle.run_control.specs.Telling.{Due, IsAsking, Tells, due_by, nothing_due, plan_due, recovery_due, tells_nothing, tells_once, told_by, told_by_act}
use Rattle.run_control.specs.TerminalControl.{Bearers, recovery_answer, terminal_answers}
use Rattle.run_control.specs.Views.{Bearer, Stage, View, has_status, holds, lacks_status}
use Rattle.run_control.proofs.Records.{bare_records, records_append}
use Rattle.run_control.proofs.Sent.{either}
use Rattle.run_control.proofs.Taken.{records_in}
use Rattle.run_control.proofs.Telling.{told_in}

-- those that answer
abbrev pub answering : List Rec → List Rec
answering rs = filter (λ r. not (is_failure r)) rs

-- ---- the two lines

-- failures may come and go
pub talks_by : {due : Due} {down up : List Rec} (up' : List Rec) → answering up' ≡ answering up → Talks due down up → Talks due down up'
talks_by up' same (quiet_both is down_is up_is) = quiet_both is down_is (same ∙ up_is)
talks_by up' same (asked_once r asks down_is up_is) = asked_once r asks down_is (same ∙ up_is)
talks_by up' same (answered_once r answers down_is up_is) = answered_once r answers down_is (same ∙ up_is)

-- where nothing is due nothing asks and nothing answers
not_asked : (due : Due) (r : Rec) → due ≡ nothing_due → IsAsking due r → ⊥
not_asked due r none asks = no_one r (subst (λ d. IsAsking d r) none asks)
  where
    no_one : (x : Rec) → IsAsking nothing_due x → ⊥
    no_one x a = a

not_plan : (due : Due) (g : ℕ) → due ≡ nothing_due → due ≡ plan_due g → ⊥
not_plan due g none is = absurd cc

not_recovery : (due : Due) (id : ℕ) → due ≡ nothing_due → due ≡ recovery_due id → ⊥
not_recovery due id none is = absurd cc

not_answered : (due : Due) (r : Rec) → due ≡ nothing_due → IsAnswer due r → ⊥
not_answered due (rec.Reconf plan key) none answers = answers
not_answered due (rec.Rcomp g) none answers = not_plan due g none answers
not_answered due (rec.Scgf failed) none answers = answers
not_answered due (rec.Recov id) none answers = answers
not_answered due (rec.Recovd id) none answers = not_recovery due id none answers
not_answered due (rec.Addreq plan key) none answers = answers
not_answered due (rec.Addack g) none answers = answers
not_answered due (rec.Addrej g) none answers = answers
not_answered due (rec.Modreq plan key) none answers = answers
not_answered due (rec.Modack g) none answers = answers
not_answered due (rec.Modrej g) none answers = answers
not_answered due (rec.Recfg g) none answers = answers
not_answered due (rec.Relreq plan) none answers = answers
not_answered due (rec.Relack g) none answers = answers
not_answered due (rec.Relrej g) none answers = answers
not_answered due (rec.Uecr g) none answers = answers
not_answered due (rec.Snst status) none answers = answers
not_answered due (rec.Moved g id) none answers = answers
not_answered due (rec.Scgn id g) none answers = answers
not_answered due rec.Modrqd none answers = answers
not_answered due (rec.Modcnf g) none answers = answers
not_answered due (rec.Modref word) none answers = answers
not_answered due rec.Chgrqd none answers = answers
not_answered due (rec.Chgcnf plan) none answers = answers
not_answered due (rec.Chgref word) none answers = answers
not_answered due rec.Relrqd none answers = answers
not_answered due (rec.Relcnf plan) none answers = answers

-- what the master tells
pub talks_told : (due : Due) (r : MasterActs) (down up : List Rec) → Tells due r → Talks due down up → Talks (due_by r.0.command) (down ++ told_in r.1) up
talks_told due r down up (tells_nothing told stays) talks =
    subst (λ d. Talks d (down ++ told_in r.1) up) (sym stays) (subst (λ rs. Talks due rs up) (sym (ap (λ rs. down ++ rs) told ∙ append-nil down)) talks)
talks_told due r down up (tells_once none x told asks) (quiet_both is down_is up_is) = asked_once x asks (ap (λ rs. rs ++ told_in r.1) down_is ∙ told) up_is
talks_told due r down up (tells_once none x told asks) (asked_once y asks' down_is up_is) = absurd (not_asked due y none asks')
talks_told due r down up (tells_once none x told asks) (answered_once y answers down_is up_is) = absurd (not_answered due y none answers)

-- ---- the terminal answers

-- what asks is answered by the terminal that takes it
pub data Answered (due : Due) (bearers : Bearers) (r : Rec) : Type 0 where
  answered_by : (a : Rec) → (is : terminal_answers bearers r ≡ record_to T M a ∷ []) → (answers : IsAnswer due a) → (bare : bare_record a ≡ a) → (counts : is_failure a ≡ false) → Answered due bearers r

recovery_answered : (id : ℕ) (o : Option Bearer) → is_some o ≡ true → recovery_answer id o ≡ record_to T M (rec.Recovd id) ∷ []
recovery_answered id None there = absurd cc
recovery_answered id (Some b) there = refl

pub answers_it : (due : Due) (bearers : Bearers) (r : Rec) → IsAsking due (bare_record r) → IsTakenThere bearers r → Answered due bearers r
answers_it nothing_due bearers r asks taken = absurd asks
answers_it (plan_due g) bearers (rec.Reconf plan key) asks taken =
    answered_by (rec.Rcomp plan.g) (ap (λ b. if b then record_to T M (rec.Rcomp plan.g) ∷ [] else []) taken) (ap (λ h. plan_due h) (sym asks)) refl refl
answers_it (plan_due g') bearers (rec.Rcomp g) asks taken = absurd asks
answers_it (plan_due g') bearers (rec.Scgf failed) asks taken = absurd asks
answers_it (plan_due g') bearers (rec.Recov id) asks taken = absurd asks
answers_it (plan_due g') bearers (rec.Recovd id) asks taken = absurd asks
answers_it (plan_due g') bearers (rec.Addreq plan key) asks taken = absurd asks
answers_it (plan_due g') bearers (rec.Addack g) asks taken = absurd asks
answers_it (plan_due g') bearers (rec.Addrej g) asks taken = absurd asks
answers_it (plan_due g') bearers (rec.Modreq plan key) asks taken = absurd asks
answers_it (plan_due g') bearers (rec.Modack g) asks taken = absurd asks
answers_it (plan_due g') bearers (rec.Modrej g) asks taken = absurd asks
answers_it (plan_due g') bearers (rec.Recfg g) asks taken = absurd asks
answers_it (plan_due g') bearers (rec.Relreq plan) asks taken = absurd asks
answers_it (plan_due g') bearers (rec.Relack g) asks taken = absurd asks
answers_it (plan_due g') bearers (rec.Relrej g) asks taken = absurd asks
answers_it (plan_due g') bearers (rec.Uecr g) asks taken = absurd asks
answers_it (plan_due g') bearers (rec.Snst status) asks taken = absurd asks
answers_it (plan_due g') bearers (rec.Moved g id) asks taken = absurd asks
answers_it (plan_due g') bearers (rec.Scgn id g) asks taken = absurd asks
answers_it (plan_due g') bearers rec.Modrqd asks taken = absurd asks
answers_it (plan_due g') bearers (rec.Modcnf g) asks taken = absurd asks
answers_it (plan_due g') bearers (rec.Modref word) asks taken = absurd asks
answers_it (plan_due g') bearers rec.Chgrqd asks taken = absurd asks
answers_it (plan_due g') bearers (rec.Chgcnf plan) asks taken = absurd asks
answers_it (plan_due g') bearers (rec.Chgref word) asks taken = absurd asks
answers_it (plan_due g') bearers rec.Relrqd asks taken = absurd asks
answers_it (plan_due g') bearers (rec.Relcnf plan) asks taken = absurd asks
answers_it (recovery_due id) bearers (rec.Recov k) asks taken = answered_by (rec.Recovd k) (recovery_answered k (bearers k) taken) (ap (λ j. recovery_due j) (sym asks)) refl refl
answers_it (recovery_due id') bearers (rec.Reconf plan key) asks taken = absurd asks
answers_it (recovery_due id') bearers (rec.Rcomp g) asks taken = absurd asks
answers_it (recovery_due id') bearers (rec.Scgf failed) asks taken = absurd asks
answers_it (recovery_due id') bearers (rec.Recovd id) asks taken = absurd asks
answers_it (recovery_due id') bearers (rec.Addreq plan key) asks taken = absurd asks
answers_it (recovery_due id') bearers (rec.Addack g) asks taken = absurd asks
answers_it (recovery_due id') bearers (rec.Addrej g) asks taken = absurd asks
answers_it (recovery_due id') bearers (rec.Modreq plan key) asks taken = absurd asks
answers_it (recovery_due id') bearers (rec.Modack g) asks taken = absurd asks
answers_it (recovery_due id') bearers (rec.Modrej g) asks taken = absurd asks
answers_it (recovery_due id') bearers (rec.Recfg g) asks taken = absurd asks
answers_it (recovery_due id') bearers (rec.Relreq plan) asks taken = absurd asks
answers_it (recovery_due id') bearers (rec.Relack g) asks taken = absurd asks
answers_it (recovery_due id') bearers (rec.Relrej g) asks taken = absurd asks
answers_it (recovery_due id') bearers (rec.Uecr g) asks taken = absurd asks
answers_it (recovery_due id') bearers (rec.Snst status) asks taken = absurd asks
answers_it (recovery_due id') bearers (rec.Moved g id) asks taken = absurd asks
answers_it (recovery_due id') bearers (rec.Scgn id g) asks taken = absurd asks
answers_it (recovery_due id') bearers rec.Modrqd asks taken = absurd asks
answers_it (recovery_due id') bearers (rec.Modcnf g) asks taken = absurd asks
answers_it (recovery_due id') bearers (rec.Modref word) asks taken = absurd asks
answers_it (recovery_due id') bearers rec.Chgrqd asks taken = absurd asks
answers_it (recovery_due id') bearers (rec.Chgcnf plan) asks taken = absurd asks
answers_it (recovery_due id') bearers (rec.Chgref word) asks taken = absurd asks
answers_it (recovery_due id') bearers rec.Relrqd asks taken = absurd asks
answers_it (recovery_due id') bearers (rec.Relcnf plan) asks taken = absurd asks

-- of a list
abbrev pub first_or : List Rec → Rec → Rec
first_or [] d = d
first_or (r ∷ rs) d = r

abbrev pub rest_of : List Rec → List Rec
rest_of [] = []
rest_of (r ∷ rs) = rs

-- the only record that stands on the line to the terminal is taken, and answered
pub talks_answered : (due : Due) (bearers : Bearers) (r : Rec) (down up : List Rec) → IsTakenThere bearers r → Talks due (bare_record r ∷ down) up
    → (a : Rec) × (terminal_answers bearers r ≡ record_to T M a ∷ []) × Talks due down (up ++ bare_record a ∷ [])
talks_answered due bearers r down up taken (quiet_both is down_is up_is) = absurd cc
talks_answered due bearers r down up taken (asked_once x asks down_is up_is) =
    by (answers_it due bearers r (subst (IsAsking due) (sym (first_is x down_is)) asks) taken)
  where
    first_is : (x : Rec) → bare_record r ∷ down ≡ x ∷ [] → bare_record r ≡ x
    first_is x is = ap (λ (rs : List Rec). first_or rs (bare_record r)) is

    rest_is : bare_record r ∷ down ≡ x ∷ [] → down ≡ []
    rest_is is = ap rest_of is

    by : Answered due bearers r → (a : Rec) × (terminal_answers bearers r ≡ record_to T M a ∷ []) × Talks due down (up ++ bare_record a ∷ [])
    by (answered_by a is answers bare counts) = (
      a,
      is,
      answered_once a answers (rest_is down_is)
          (filter-append (λ y. not (is_failure y)) up (bare_record a ∷ []) ∙ ap (λ rs. rs ++ answering (bare_record a ∷ [])) up_is
          ∙ ap (λ y. answering (y ∷ [])) bare ∙ ap (λ b. if not b then a ∷ [] else []) counts),
    )
talks_answered due bearers r down up taken (answered_once x answers down_is up_is) = absurd cc

-- ---- what the master's acts put on the two lines

one_off : (x : Node) (f : Flight) → is_same_link (link M T Ctl) (link M x Ctl) ≡ false → on_link (link M T Ctl) (link M x Ctl, f) ≡ []
one_off x f apart = ap (λ b. if b then f ∷ [] else []) apart

tells_off_at : (k : Stage) (x : Node) (g : ℕ) (v : View) → is_same_link (link M T Ctl) (link M x Ctl) ≡ false → sent_on (link M T Ctl) (tells_at k (link M x Ctl) g v) ≡ []
tells_off_at holds x g v apart = ap (λ fs. fs ++ []) (one_off x (flight.Ctl (rec.Snst (status_of g v.bearer.id))) apart)
tells_off_at lacks_status x g v apart = refl
tells_off_at has_status x g v apart = refl

tells_off : (x : Node) (g : ℕ) (o : Option View) → is_same_link (link M T Ctl) (link M x Ctl) ≡ false → sent_on (link M T Ctl) (tells (link M x Ctl) g o) ≡ []
tells_off x g None apart = refl
tells_off x g (Some v) apart = tells_off_at v.stage x g v apart

-- a bearer is not handed over to the terminal
abbrev GoesOff : Part → Type 0
GoesOff (hands_over to) = is_same_link (link M T Ctl) (link M to Ctl) ≡ false
GoesOff establishes = ⊤
GoesOff renews = ⊤
GoesOff awaits = ⊤
GoesOff drops = ⊤
GoesOff has_no_anchor = ⊤

second_off : (sec : Option Node) → IsSecond sec → is_same_link (link M T Ctl) (link M (node_or_master sec) Ctl) ≡ false
second_off None second = refl
second_off (Some T) second = absurd cc
second_off (Some M) second = refl
second_off (Some A) second = refl
second_off (Some B) second = refl

anchor_off : (sec : Option Node) (shape : Shape) → IsSecond sec → is_same_link (link M T Ctl) (link M (anchor_at sec shape) Ctl) ≡ false
anchor_off sec shape second = either (λ x. is_same_link (link M T Ctl) (link M x Ctl) ≡ false) shape.at_second (node_or_master sec) M (second_off sec second) refl

moved_off : (new : Node) (b d : Bool) → is_same_link (link M T Ctl) (link M new Ctl) ≡ false → GoesOff (moved_part new b d)
moved_off new true true apart = tt
moved_off new true false apart = apart
moved_off new false true apart = tt
moved_off new false false apart = tt

part_off : (sec : Option Node) (i : Item) → IsSecond sec → GoesOff (part_at M sec i)
part_off sec (item.Set id n first shape threshold policy key None) second = either GoesOff (is_same_node M (anchor_at sec shape)) establishes has_no_anchor tt tt
part_off sec (item.Set id n first shape threshold policy key (Some old)) second = moved_off (anchor_at sec shape) (is_same_node M old) (is_same_node M (anchor_at sec shape)) (anchor_off sec shape second)
part_off sec (item.Unset id) second = tt

part_sends_off : (g : ℕ) (part : Part) (o : Option View) → GoesOff part → sent_on (link M T Ctl) (own_part_sends g part o) ≡ []
part_sends_off g establishes o is = refl
part_sends_off g renews o is = refl
part_sends_off g awaits o is = refl
part_sends_off g (hands_over to) o is = tells_off to g o is
part_sends_off g drops o is = refl
part_sends_off g has_no_anchor o is = refl

items_off : (p : Plan) (is : List Item) (v : Views) → IsSecond p.sec → sent_on (link M T Ctl) (sent_here p is v) ≡ []
items_off p [] v second = refl
items_off p (i ∷ is) v second =
    flat_map-append (on_link (link M T Ctl)) (own_part_sends p.g (part_at M p.sec i) (v (item_id i))) (sent_here p is (with_own_item p i v))
    ∙ ap (λ fs. fs ++ sent_on (link M T Ctl) (sent_here p is (with_own_item p i v))) (part_sends_off p.g (part_at M p.sec i) (v (item_id i)) (part_off p.sec i second))
    ∙ items_off p is (with_own_item p i v) second

one_down : (to : Node) (r : Rec) → records_in (sent_on (link M T Ctl) (record_to M to r ∷ [])) ≡ bare_records (told_by to r)
one_down T r = refl
one_down M r = refl
one_down A r = refl
one_down B r = refl

act_down : (a : Act) (v : Views) → IsSoundAct a → records_in (sent_on (link M T Ctl) (own_act_sends a v)) ≡ bare_records (told_by_act a)
act_down (send to r) v sound = one_down to r
act_down (prepare p) v sound = refl
act_down (go p) v sound = ap records_in (items_off p p.items v sound)
act_down (unlock_all g) v sound = refl
act_down (say n) v sound = refl
act_down (recover_one id) v sound = refl
act_down (fail_one id g) v sound = refl
act_down (pass status) v sound = refl

-- what they tell the terminal stands there
pub acts_down : (acts : List Act) (v : Views) → AllByRecursion IsSoundAct acts → records_in (sent_on (link M T Ctl) (own_acts_sends acts v)) ≡ bare_records (told_in acts)
acts_down [] v sound = refl
acts_down (a ∷ acts) v sound =
    let rest = own_acts_sends acts (own_act_view a v) in
    ap records_in (flat_map-append (on_link (link M T Ctl)) (own_act_sends a v) rest)
    ∙ records_append (sent_on (link M T Ctl) (own_act_sends a v)) (sent_on (link M T Ctl) rest)
    ∙ ap (λ rs. rs ++ records_in (sent_on (link M T Ctl) rest)) (act_down a v sound.0)
    ∙ ap (λ rs. bare_records (told_by_act a) ++ rs) (acts_down acts (own_act_view a v) sound.1)
    ∙ sym (map-append bare_record (told_by_act a) (told_in acts))

-- what asks says nothing of the traffic
bare_asking : (due : Due) (x : Rec) → IsAsking due x → bare_record x ≡ x
bare_asking due (rec.Reconf plan key) asks = refl
bare_asking due (rec.Rcomp g) asks = refl
bare_asking due (rec.Scgf failed) asks = refl
bare_asking due (rec.Recov id) asks = refl
bare_asking due (rec.Recovd id) asks = refl
bare_asking due (rec.Addreq plan key) asks = refl
bare_asking due (rec.Addack g) asks = refl
bare_asking due (rec.Addrej g) asks = refl
bare_asking due (rec.Modreq plan key) asks = refl
bare_asking due (rec.Modack g) asks = refl
bare_asking due (rec.Modrej g) asks = refl
bare_asking due (rec.Recfg g) asks = refl
bare_asking due (rec.Relreq plan) asks = refl
bare_asking due (rec.Relack g) asks = refl
bare_asking due (rec.Relrej g) asks = refl
bare_asking due (rec.Uecr g) asks = refl
bare_asking nothing_due (rec.Snst status) asks = absurd asks
bare_asking (plan_due g) (rec.Snst status) asks = absurd asks
bare_asking (recovery_due id) (rec.Snst status) asks = absurd asks
bare_asking due (rec.Moved g id) asks = refl
bare_asking due (rec.Scgn id g) asks = refl
bare_asking due rec.Modrqd asks = refl
bare_asking due (rec.Modcnf g) asks = refl
bare_asking due (rec.Modref word) asks = refl
bare_asking due rec.Chgrqd asks = refl
bare_asking due (rec.Chgcnf plan) asks = refl
bare_asking due (rec.Chgref word) asks = refl
bare_asking due rec.Relrqd asks = refl
bare_asking due (rec.Relcnf plan) asks = refl

pub bare_told : (due : Due) (r : MasterActs) → Tells due r → bare_records (told_in r.1) ≡ told_in r.1
bare_told due r (tells_nothing told stays) = ap bare_records told ∙ sym told
bare_told due r (tells_once none x told asks) = ap bare_records told ∙ ap (λ y. y ∷ []) (bare_asking (due_by r.0.command) x asks) ∙ sym told
