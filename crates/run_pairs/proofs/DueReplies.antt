-- What a pair says of replies: each is due.
use Rattle.std.proofs.Common.{◌≡◌, Bool, true, false, List, [], ◌∷◌, Option, Some, None, refl, sym, ap, subst, inl, inr}
use Rattle.std.specs.Prelude.{filter, if◌then◌else◌, ◌⊎◌}
use Rattle.std.specs.List.{AllByRecursion}
use Rattle.dc_base.specs.Nodes.{is_secondary}
use Rattle.dc_base.specs.declared.events.Event.{Event}
use Rattle.dc_base.specs.declared.events.Header.{Header}
use Rattle.dc_base.specs.declared.nodes.Node.{Node}
use Rattle.dc_base.specs.declared.nodes.Node.TheVariants.{M}
use Rattle.dc_base.specs.declared.records.Plan.{Plan}
use Rattle.dc_base.specs.declared.records.Rec.{Rec}
use Rattle.dc_base.specs.declared.records.Rec.TheVariants as rec
use Rattle.transcript.proofs.OnEach.{each_weaker}
use Rattle.node_rules.specs.Choices.{Choices}
use Rattle.node_rules.specs.Run.{world_after}
use Rattle.node_rules.specs.World.{World, new_world}
use Rattle.node_rules.specs.declared.commands.Command.{Command}
use Rattle.node_rules.specs.declared.commands.Command.TheVariants.{Asked as asked, Gone as gone, Recovering as recovering}
use Rattle.node_rules.specs.declared.commands.First.{First}
use Rattle.node_rules.specs.declared.commands.First.TheVariants.{Addition as addition, Modification as modification, Release as release}
use Rattle.run_control.specs.Claims.{IsStandOf, Stand, agrees, asks, goes_on, refuses, rests}
use Rattle.run_control.specs.Links.{records_on}
use Rattle.run_control.specs.SecondControl.{bare_record}
use Rattle.run_control.specs.Sound.{AreSound}
use Rattle.run_control.proofs.Records.{bare_records}
use Rattle.run_control.proofs.Turns.{never}
use Rattle.run_pairs.specs.Pairs.{acknowledge, is_reply, is_word, rejection, reply, words}
use Rattle.run_pairs.specs.Standing.{IsReplyDue, RepliesAreDue}
use Rattle.run_pairs.proofs.Runs.{LinePaired, paired_always}
use Rattle.run_pairs.proofs.Outcomes.{either_paired}

-- ---- which replies there are

-- one of these
abbrev IsOneOf : Rec → List Rec → Type 0
IsOneOf r [] = ⊥
IsOneOf r (z ∷ zs) = (r ≡ z) ⊎ IsOneOf r zs

-- what passes a test is one of those that pass it
passing : (test : Rec → Bool) (rs : List Rec) → AllByRecursion (λ r. test r ≡ true → IsOneOf r (filter test rs)) rs
passing test [] = tt
passing test (r ∷ rs) = by (test r) refl (passing test rs)
  where
    by : (b : Bool) → test r ≡ b → AllByRecursion (λ z. test z ≡ true → IsOneOf z (filter test rs)) rs → AllByRecursion (λ z. test z ≡ true → IsOneOf z (if b then r ∷ filter test rs else filter test rs)) (r ∷ rs)
    by true is all = (λ yes'. inl refl, each_weaker (λ z. test z ≡ true → IsOneOf z (filter test rs)) (λ z. test z ≡ true → IsOneOf z (r ∷ filter test rs)) (λ z so yes'. inr (so yes')) rs all)
    by false is all = (λ yes'. never (test r) yes' is, all)

due_rejection : (x : Node) (o : Option Command) (f : First) (p : Plan) → IsStandOf x o (refuses f p) → IsReplyDue x o (rejection f p.g)
due_rejection x None f p is = absurd is
due_rejection x (Some (asked c first who wanted)) addition p is = (sym is.1, sym is.0, ap (λ (q : Plan). q.g) (sym is.2))
due_rejection x (Some (asked c first who wanted)) modification p is = (sym is.1, sym is.0, ap (λ (q : Plan). q.g) (sym is.2))
due_rejection x (Some (asked c first who wanted)) release p is = (sym is.1, sym is.0, ap (λ (q : Plan). q.g) (sym is.2))
due_rejection x (Some (gone plan going)) f p is = absurd is
due_rejection x (Some (recovering id terminal second)) f p is = absurd is

due_acknowledge : (x : Node) (o : Option Command) (f : First) (p : Plan) → IsStandOf x o (agrees f p) → IsReplyDue x o (acknowledge f p.g)
due_acknowledge x None f p is = absurd is
due_acknowledge x (Some (asked c first who wanted)) addition p is = (sym is.1, sym is.0, ap (λ (q : Plan). q.g) (sym is.2))
due_acknowledge x (Some (asked c first who wanted)) modification p is = (sym is.1, sym is.0, ap (λ (q : Plan). q.g) (sym is.2))
due_acknowledge x (Some (asked c first who wanted)) release p is = tt
due_acknowledge x (Some (gone plan going)) f p is = absurd is
due_acknowledge x (Some (recovering id terminal second)) f p is = absurd is

due_one : (x : Node) (o : Option Command) (s : Stand) → IsStandOf x o s → (r : Rec) → IsOneOf r (reply s) → IsReplyDue x o r
due_one x o rests is r one = absurd one
due_one x o (asks f p) is r one = absurd one
due_one x o (refuses f p) is r (inl same) = subst (IsReplyDue x o) (sym same) (due_rejection x o f p is)
due_one x o (refuses f p) is r (inr none) = absurd none
due_one x o (agrees f p) is r (inl same) = subst (IsReplyDue x o) (sym same) (due_acknowledge x o f p is)
due_one x o (agrees f p) is r (inr none) = absurd none
due_one x o (goes_on l) is r one = absurd one

-- a reply is due, if it is one of those; and what is none is anyway
due_each : (x : Node) (o : Option Command) (s : Stand) → IsStandOf x o s → (r : Rec) → (is_reply s r ≡ true → IsOneOf r (reply s)) → IsReplyDue x o r
due_each x o s is (rec.Reconf plan key) so = tt
due_each x o s is (rec.Rcomp g) so = tt
due_each x o s is (rec.Scgf failed) so = tt
due_each x o s is (rec.Recov id) so = tt
due_each x o s is (rec.Recovd id) so = tt
due_each x o s is (rec.Addreq plan key) so = tt
due_each x o s is (rec.Addack g) so = due_one x o s is (rec.Addack g) (so refl)
due_each x o s is (rec.Addrej g) so = due_one x o s is (rec.Addrej g) (so refl)
due_each x o s is (rec.Modreq plan key) so = tt
due_each x o s is (rec.Modack g) so = due_one x o s is (rec.Modack g) (so refl)
due_each x o s is (rec.Modrej g) so = due_one x o s is (rec.Modrej g) (so refl)
due_each x o s is (rec.Recfg g) so = tt
due_each x o s is (rec.Relreq plan) so = tt
due_each x o s is (rec.Relack g) so = tt
due_each x o s is (rec.Relrej g) so = due_one x o s is (rec.Relrej g) (so refl)
due_each x o s is (rec.Uecr g) so = tt
due_each x o s is (rec.Snst status) so = tt
due_each x o s is (rec.Moved g id) so = tt
due_each x o s is (rec.Scgn id g) so = tt
due_each x o s is rec.Modrqd so = tt
due_each x o s is (rec.Modcnf g) so = tt
due_each x o s is (rec.Modref word) so = tt
due_each x o s is rec.Chgrqd so = tt
due_each x o s is (rec.Chgcnf plan) so = tt
due_each x o s is (rec.Chgref word) so = tt
due_each x o s is rec.Relrqd so = tt
due_each x o s is (rec.Relcnf plan) so = tt

-- what is no word is no reply
due_other : (x : Node) (o : Option Command) (r : Rec) → is_word (bare_record r) ≡ false → IsReplyDue x o r
due_other x o (rec.Reconf plan key) is = tt
due_other x o (rec.Rcomp g) is = tt
due_other x o (rec.Scgf failed) is = tt
due_other x o (rec.Recov id) is = tt
due_other x o (rec.Recovd id) is = tt
due_other x o (rec.Addreq plan key) is = tt
due_other x o (rec.Addack g) is = absurd cc
due_other x o (rec.Addrej g) is = absurd cc
due_other x o (rec.Modreq plan key) is = tt
due_other x o (rec.Modack g) is = absurd cc
due_other x o (rec.Modrej g) is = absurd cc
due_other x o (rec.Recfg g) is = tt
due_other x o (rec.Relreq plan) is = tt
due_other x o (rec.Relack g) is = absurd cc
due_other x o (rec.Relrej g) is = absurd cc
due_other x o (rec.Uecr g) is = tt
due_other x o (rec.Snst status) is = tt
due_other x o (rec.Moved g id) is = tt
due_other x o (rec.Scgn id g) is = tt
due_other x o rec.Modrqd is = absurd cc
due_other x o (rec.Modcnf g) is = tt
due_other x o (rec.Modref word) is = tt
due_other x o rec.Chgrqd is = absurd cc
due_other x o (rec.Chgcnf plan) is = tt
due_other x o (rec.Chgref word) is = tt
due_other x o rec.Relrqd is = absurd cc
due_other x o (rec.Relcnf plan) is = tt

due_bare : (x : Node) (o : Option Command) (r : Rec) → IsReplyDue x o (bare_record r) → IsReplyDue x o r
due_bare x o (rec.Reconf plan key) is = is
due_bare x o (rec.Rcomp g) is = is
due_bare x o (rec.Scgf failed) is = is
due_bare x o (rec.Recov id) is = is
due_bare x o (rec.Recovd id) is = is
due_bare x o (rec.Addreq plan key) is = is
due_bare x o (rec.Addack g) is = is
due_bare x o (rec.Addrej g) is = is
due_bare x o (rec.Modreq plan key) is = is
due_bare x o (rec.Modack g) is = is
due_bare x o (rec.Modrej g) is = is
due_bare x o (rec.Recfg g) is = is
due_bare x o (rec.Relreq plan) is = is
due_bare x o (rec.Relack g) is = is
due_bare x o (rec.Relrej g) is = is
due_bare x o (rec.Uecr g) is = is
due_bare x o (rec.Snst status) is = is
due_bare x o (rec.Moved g id) is = is
due_bare x o (rec.Scgn id g) is = is
due_bare x o rec.Modrqd is = is
due_bare x o (rec.Modcnf g) is = is
due_bare x o (rec.Modref word) is = is
due_bare x o rec.Chgrqd is = is
due_bare x o (rec.Chgcnf plan) is = is
due_bare x o (rec.Chgref word) is = is
due_bare x o rec.Relrqd is = is
due_bare x o (rec.Relcnf plan) is = is

due_whole : (x : Node) (o : Option Command) (rs : List Rec) → AllByRecursion (IsReplyDue x o) (words (bare_records rs)) → AllByRecursion (IsReplyDue x o) rs
due_whole x o [] all = tt
due_whole x o (r ∷ rs) all = by (is_word (bare_record r)) refl all (λ more. due_whole x o rs more)
  where
    by : (b : Bool) → is_word (bare_record r) ≡ b → AllByRecursion (IsReplyDue x o) (if b then bare_record r ∷ words (bare_records rs) else words (bare_records rs)) → (AllByRecursion (IsReplyDue x o) (words (bare_records rs)) → AllByRecursion (IsReplyDue x o) rs)
        → AllByRecursion (IsReplyDue x o) (r ∷ rs)
    by true is all more = (due_bare x o r all.0, more all.1)
    by false is all more = (due_other x o r is, more all)

pub replies_due : (w : World) (x : Node) → LinePaired w x → RepliesAreDue w x
replies_due w x paired =
    let s = paired.stand in
    let up = words (bare_records (records_on x M w)) in
    due_whole x w.master.proc.command (records_on x M w)
    (each_weaker (λ r. is_reply s r ≡ true → IsOneOf r (reply s)) (IsReplyDue x w.master.proc.command) (λ r so. due_each x w.master.proc.command s paired.stands r so) up
    (subst (λ rs. AllByRecursion (λ r. is_reply s r ≡ true → IsOneOf r rs) up) paired.pair.answers (passing (is_reply s) up)))

-- ---- in a run

-- in each run each reply is due
pub replies_always : (c : Choices) (h : Header) (es : List Event) → AreSound es → (x : Node) → is_secondary x ≡ true → RepliesAreDue (world_after c (new_world h) es) x
replies_always c h es sound x second = replies_due (world_after c (new_world h) es) x (either_paired (world_after c (new_world h) es) x second (paired_always c h es sound))
