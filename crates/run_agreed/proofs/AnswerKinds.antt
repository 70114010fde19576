-- Which records answer what is asked for.
use Rattle.std.proofs.Common.{ℕ, ◌≡◌, ◌||◌, Bool, true, false, List, Option, Some, refl, sym, ap}
use Rattle.std.specs.List.{AllByRecursion}
use Rattle.std.proofs.lemmas.Bool.{eq-eqb}
use Rattle.dc_base.specs.declared.nodes.Node.{Node}
use Rattle.dc_base.specs.declared.records.Rec.{Rec}
use Rattle.dc_base.specs.declared.records.Rec.TheVariants as rec
use Rattle.node_rules.specs.declared.commands.Change.{Change}
use Rattle.node_rules.specs.declared.commands.Command.{Command}
use Rattle.node_rules.specs.declared.commands.Command.TheVariants.{Asked as asked}
use Rattle.node_rules.specs.declared.commands.First.{First}
use Rattle.node_rules.specs.declared.commands.First.TheVariants.{Addition as addition, Modification as modification, Release as release}
use Rattle.run_control.specs.Claims.{is_agreement, is_rejection}
use Rattle.run_control.specs.Wants.{IsAskedFor}
use Rattle.run_agreed.specs.Expected.{IsAwaited}
use Rattle.run_agreed.specs.Lines.{is_spoken}
use Rattle.run_agreed.specs.Segments.{is_ack, is_rej}

-- ---- answers

-- the record is an acknowledge or a rejection of what is asked for
abbrev pub is_answering : Rec → Bool
is_answering (rec.Addack g) = true
is_answering (rec.Addrej g) = true
is_answering (rec.Modack g) = true
is_answering (rec.Modrej g) = true
is_answering (rec.Relrej g) = true
is_answering _ = false

-- of a node that is not asked for anything none is awaited
abbrev pub IsNotAsked : Node → Option Command → Type 0
IsNotAsked x o = (f : First) (g : ℕ) → IsAskedFor f x g o → ⊥

pub none_answering : (x : Node) (o : Option Command) (r : Rec) → IsNotAsked x o → IsAwaited x o r → is_answering r ≡ false
none_answering x o (rec.Reconf plan key) not_asked is = refl
none_answering x o (rec.Rcomp g) not_asked is = refl
none_answering x o (rec.Scgf failed) not_asked is = refl
none_answering x o (rec.Recov id) not_asked is = refl
none_answering x o (rec.Recovd id) not_asked is = refl
none_answering x o (rec.Addreq plan key) not_asked is = refl
none_answering x o (rec.Addack g) not_asked is = absurd (not_asked addition g is)
none_answering x o (rec.Addrej g) not_asked is = absurd (not_asked addition g is)
none_answering x o (rec.Modreq plan key) not_asked is = refl
none_answering x o (rec.Modack g) not_asked is = absurd (not_asked modification g is)
none_answering x o (rec.Modrej g) not_asked is = absurd (not_asked modification g is)
none_answering x o (rec.Recfg g) not_asked is = refl
none_answering x o (rec.Relreq plan) not_asked is = refl
none_answering x o (rec.Relack g) not_asked is = refl
none_answering x o (rec.Relrej g) not_asked is = absurd (not_asked release g is)
none_answering x o (rec.Uecr g) not_asked is = refl
none_answering x o (rec.Snst status) not_asked is = refl
none_answering x o (rec.Moved g id) not_asked is = refl
none_answering x o (rec.Scgn id g) not_asked is = refl
none_answering x o rec.Modrqd not_asked is = refl
none_answering x o (rec.Modcnf g) not_asked is = refl
none_answering x o (rec.Modref word) not_asked is = refl
none_answering x o rec.Chgrqd not_asked is = refl
none_answering x o (rec.Chgcnf plan) not_asked is = refl
none_answering x o (rec.Chgref word) not_asked is = refl
none_answering x o rec.Relrqd not_asked is = refl
none_answering x o (rec.Relcnf plan) not_asked is = refl

-- what answers nothing is awaited with any command
pub any_awaited : (x : Node) (o k : Option Command) (r : Rec) → is_answering r ≡ false → IsAwaited x o r → IsAwaited x k r
any_awaited x o k (rec.Reconf plan key) none is = absurd is
any_awaited x o k (rec.Rcomp g) none is = absurd is
any_awaited x o k (rec.Scgf failed) none is = absurd is
any_awaited x o k (rec.Recov id) none is = absurd is
any_awaited x o k (rec.Recovd id) none is = tt
any_awaited x o k (rec.Addreq plan key) none is = absurd is
any_awaited x o k (rec.Addack g) none is = absurd cc
any_awaited x o k (rec.Addrej g) none is = absurd cc
any_awaited x o k (rec.Modreq plan key) none is = absurd is
any_awaited x o k (rec.Modack g) none is = absurd cc
any_awaited x o k (rec.Modrej g) none is = absurd cc
any_awaited x o k (rec.Recfg g) none is = absurd is
any_awaited x o k (rec.Relreq plan) none is = absurd is
any_awaited x o k (rec.Relack g) none is = tt
any_awaited x o k (rec.Relrej g) none is = absurd cc
any_awaited x o k (rec.Uecr g) none is = absurd is
any_awaited x o k (rec.Snst status) none is = tt
any_awaited x o k (rec.Moved g id) none is = tt
any_awaited x o k (rec.Scgn id g) none is = absurd is
any_awaited x o k rec.Modrqd none is = tt
any_awaited x o k (rec.Modcnf g) none is = absurd is
any_awaited x o k (rec.Modref word) none is = absurd is
any_awaited x o k rec.Chgrqd none is = tt
any_awaited x o k (rec.Chgcnf plan) none is = absurd is
any_awaited x o k (rec.Chgref word) none is = absurd is
any_awaited x o k rec.Relrqd none is = tt
any_awaited x o k (rec.Relcnf plan) none is = absurd is

abbrev pub AnswersNone : List Rec → Type 0
AnswersNone rs = AllByRecursion (λ r. is_answering r ≡ false) rs

-- an answer that is awaited is of the generation of the open command
pub answer_of : (x : Node) (c : Change) (first : First) (who : Node) (wanted : Bool) (r : Rec) → is_answering r ≡ true → IsAwaited x (Some (asked c first who wanted)) r
    → (is_agreement c.plan.g r || is_rejection c.plan.g r) ≡ true
answer_of x c first who wanted (rec.Reconf plan key) is awaited = absurd cc
answer_of x c first who wanted (rec.Rcomp g) is awaited = absurd cc
answer_of x c first who wanted (rec.Scgf failed) is awaited = absurd cc
answer_of x c first who wanted (rec.Recov id) is awaited = absurd cc
answer_of x c first who wanted (rec.Recovd id) is awaited = absurd cc
answer_of x c first who wanted (rec.Addreq plan key) is awaited = absurd cc
answer_of x c first who wanted (rec.Addack g) is awaited = ap (λ b. b || false) (eq-eqb g c.plan.g (sym awaited.2))
answer_of x c first who wanted (rec.Addrej g) is awaited = eq-eqb g c.plan.g (sym awaited.2)
answer_of x c first who wanted (rec.Modreq plan key) is awaited = absurd cc
answer_of x c first who wanted (rec.Modack g) is awaited = ap (λ b. b || false) (eq-eqb g c.plan.g (sym awaited.2))
answer_of x c first who wanted (rec.Modrej g) is awaited = eq-eqb g c.plan.g (sym awaited.2)
answer_of x c first who wanted (rec.Recfg g) is awaited = absurd cc
answer_of x c first who wanted (rec.Relreq plan) is awaited = absurd cc
answer_of x c first who wanted (rec.Relack g) is awaited = absurd cc
answer_of x c first who wanted (rec.Relrej g) is awaited = eq-eqb g c.plan.g (sym awaited.2)
answer_of x c first who wanted (rec.Uecr g) is awaited = absurd cc
answer_of x c first who wanted (rec.Snst status) is awaited = absurd cc
answer_of x c first who wanted (rec.Moved g id) is awaited = absurd cc
answer_of x c first who wanted (rec.Scgn id g) is awaited = absurd cc
answer_of x c first who wanted rec.Modrqd is awaited = absurd cc
answer_of x c first who wanted (rec.Modcnf g) is awaited = absurd cc
answer_of x c first who wanted (rec.Modref word) is awaited = absurd cc
answer_of x c first who wanted rec.Chgrqd is awaited = absurd cc
answer_of x c first who wanted (rec.Chgcnf plan) is awaited = absurd cc
answer_of x c first who wanted (rec.Chgref word) is awaited = absurd cc
answer_of x c first who wanted rec.Relrqd is awaited = absurd cc
answer_of x c first who wanted (rec.Relcnf plan) is awaited = absurd cc

-- an acknowledge is an agreement
pub ack_agrees : (f : First) (g : ℕ) (r : Rec) → is_ack f g r ≡ true → (is_agreement g r || is_rejection g r) ≡ true
ack_agrees addition g (rec.Reconf plan key) is = absurd cc
ack_agrees addition g (rec.Rcomp h) is = absurd cc
ack_agrees addition g (rec.Scgf failed) is = absurd cc
ack_agrees addition g (rec.Recov id) is = absurd cc
ack_agrees addition g (rec.Recovd id) is = absurd cc
ack_agrees addition g (rec.Addreq plan key) is = absurd cc
ack_agrees addition g (rec.Addack h) is = ap (λ b. b || false) is
ack_agrees addition g (rec.Addrej h) is = absurd cc
ack_agrees addition g (rec.Modreq plan key) is = absurd cc
ack_agrees addition g (rec.Modack h) is = absurd cc
ack_agrees addition g (rec.Modrej h) is = absurd cc
ack_agrees addition g (rec.Recfg h) is = absurd cc
ack_agrees addition g (rec.Relreq plan) is = absurd cc
ack_agrees addition g (rec.Relack h) is = absurd cc
ack_agrees addition g (rec.Relrej h) is = absurd cc
ack_agrees addition g (rec.Uecr h) is = absurd cc
ack_agrees addition g (rec.Snst status) is = absurd cc
ack_agrees addition g (rec.Moved h id) is = absurd cc
ack_agrees addition g (rec.Scgn id h) is = absurd cc
ack_agrees addition g rec.Modrqd is = absurd cc
ack_agrees addition g (rec.Modcnf h) is = absurd cc
ack_agrees addition g (rec.Modref word) is = absurd cc
ack_agrees addition g rec.Chgrqd is = absurd cc
ack_agrees addition g (rec.Chgcnf plan) is = absurd cc
ack_agrees addition g (rec.Chgref word) is = absurd cc
ack_agrees addition g rec.Relrqd is = absurd cc
ack_agrees addition g (rec.Relcnf plan) is = absurd cc
ack_agrees modification g (rec.Reconf plan key) is = absurd cc
ack_agrees modification g (rec.Rcomp h) is = absurd cc
ack_agrees modification g (rec.Scgf failed) is = absurd cc
ack_agrees modification g (rec.Recov id) is = absurd cc
ack_agrees modification g (rec.Recovd id) is = absurd cc
ack_agrees modification g (rec.Addreq plan key) is = absurd cc
ack_agrees modification g (rec.Addack h) is = absurd cc
ack_agrees modification g (rec.Addrej h) is = absurd cc
ack_agrees modification g (rec.Modreq plan key) is = absurd cc
ack_agrees modification g (rec.Modack h) is = ap (λ b. b || false) is
ack_agrees modification g (rec.Modrej h) is = absurd cc
ack_agrees modification g (rec.Recfg h) is = absurd cc
ack_agrees modification g (rec.Relreq plan) is = absurd cc
ack_agrees modification g (rec.Relack h) is = absurd cc
ack_agrees modification g (rec.Relrej h) is = absurd cc
ack_agrees modification g (rec.Uecr h) is = absurd cc
ack_agrees modification g (rec.Snst status) is = absurd cc
ack_agrees modification g (rec.Moved h id) is = absurd cc
ack_agrees modification g (rec.Scgn id h) is = absurd cc
ack_agrees modification g rec.Modrqd is = absurd cc
ack_agrees modification g (rec.Modcnf h) is = absurd cc
ack_agrees modification g (rec.Modref word) is = absurd cc
ack_agrees modification g rec.Chgrqd is = absurd cc
ack_agrees modification g (rec.Chgcnf plan) is = absurd cc
ack_agrees modification g (rec.Chgref word) is = absurd cc
ack_agrees modification g rec.Relrqd is = absurd cc
ack_agrees modification g (rec.Relcnf plan) is = absurd cc
ack_agrees release g (rec.Reconf plan key) is = absurd cc
ack_agrees release g (rec.Rcomp h) is = absurd cc
ack_agrees release g (rec.Scgf failed) is = absurd cc
ack_agrees release g (rec.Recov id) is = absurd cc
ack_agrees release g (rec.Recovd id) is = absurd cc
ack_agrees release g (rec.Addreq plan key) is = absurd cc
ack_agrees release g (rec.Addack h) is = absurd cc
ack_agrees release g (rec.Addrej h) is = absurd cc
ack_agrees release g (rec.Modreq plan key) is = absurd cc
ack_agrees release g (rec.Modack h) is = absurd cc
ack_agrees release g (rec.Modrej h) is = absurd cc
ack_agrees release g (rec.Recfg h) is = absurd cc
ack_agrees release g (rec.Relreq plan) is = absurd cc
ack_agrees release g (rec.Relack h) is = ap (λ b. b || false) is
ack_agrees release g (rec.Relrej h) is = absurd cc
ack_agrees release g (rec.Uecr h) is = absurd cc
ack_agrees release g (rec.Snst status) is = absurd cc
ack_agrees release g (rec.Moved h id) is = absurd cc
ack_agrees release g (rec.Scgn id h) is = absurd cc
ack_agrees release g rec.Modrqd is = absurd cc
ack_agrees release g (rec.Modcnf h) is = absurd cc
ack_agrees release g (rec.Modref word) is = absurd cc
ack_agrees release g rec.Chgrqd is = absurd cc
ack_agrees release g (rec.Chgcnf plan) is = absurd cc
ack_agrees release g (rec.Chgref word) is = absurd cc
ack_agrees release g rec.Relrqd is = absurd cc
ack_agrees release g (rec.Relcnf plan) is = absurd cc

pub rej_agrees : (f : First) (g : ℕ) (r : Rec) → is_rej f g r ≡ true → (is_agreement g r || is_rejection g r) ≡ true
rej_agrees addition g (rec.Reconf plan key) is = absurd cc
rej_agrees addition g (rec.Rcomp h) is = absurd cc
rej_agrees addition g (rec.Scgf failed) is = absurd cc
rej_agrees addition g (rec.Recov id) is = absurd cc
rej_agrees addition g (rec.Recovd id) is = absurd cc
rej_agrees addition g (rec.Addreq plan key) is = absurd cc
rej_agrees addition g (rec.Addack h) is = absurd cc
rej_agrees addition g (rec.Addrej h) is = is
rej_agrees addition g (rec.Modreq plan key) is = absurd cc
rej_agrees addition g (rec.Modack h) is = absurd cc
rej_agrees addition g (rec.Modrej h) is = absurd cc
rej_agrees addition g (rec.Recfg h) is = absurd cc
rej_agrees addition g (rec.Relreq plan) is = absurd cc
rej_agrees addition g (rec.Relack h) is = absurd cc
rej_agrees addition g (rec.Relrej h) is = absurd cc
rej_agrees addition g (rec.Uecr h) is = absurd cc
rej_agrees addition g (rec.Snst status) is = absurd cc
rej_agrees addition g (rec.Moved h id) is = absurd cc
rej_agrees addition g (rec.Scgn id h) is = absurd cc
rej_agrees addition g rec.Modrqd is = absurd cc
rej_agrees addition g (rec.Modcnf h) is = absurd cc
rej_agrees addition g (rec.Modref word) is = absurd cc
rej_agrees addition g rec.Chgrqd is = absurd cc
rej_agrees addition g (rec.Chgcnf plan) is = absurd cc
rej_agrees addition g (rec.Chgref word) is = absurd cc
rej_agrees addition g rec.Relrqd is = absurd cc
rej_agrees addition g (rec.Relcnf plan) is = absurd cc
rej_agrees modification g (rec.Reconf plan key) is = absurd cc
rej_agrees modification g (rec.Rcomp h) is = absurd cc
rej_agrees modification g (rec.Scgf failed) is = absurd cc
rej_agrees modification g (rec.Recov id) is = absurd cc
rej_agrees modification g (rec.Recovd id) is = absurd cc
rej_agrees modification g (rec.Addreq plan key) is = absurd cc
rej_agrees modification g (rec.Addack h) is = absurd cc
rej_agrees modification g (rec.Addrej h) is = absurd cc
rej_agrees modification g (rec.Modreq plan key) is = absurd cc
rej_agrees modification g (rec.Modack h) is = absurd cc
rej_agrees modification g (rec.Modrej h) is = is
rej_agrees modification g (rec.Recfg h) is = absurd cc
rej_agrees modification g (rec.Relreq plan) is = absurd cc
rej_agrees modification g (rec.Relack h) is = absurd cc
rej_agrees modification g (rec.Relrej h) is = absurd cc
rej_agrees modification g (rec.Uecr h) is = absurd cc
rej_agrees modification g (rec.Snst status) is = absurd cc
rej_agrees modification g (rec.Moved h id) is = absurd cc
rej_agrees modification g (rec.Scgn id h) is = absurd cc
rej_agrees modification g rec.Modrqd is = absurd cc
rej_agrees modification g (rec.Modcnf h) is = absurd cc
rej_agrees modification g (rec.Modref word) is = absurd cc
rej_agrees modification g rec.Chgrqd is = absurd cc
rej_agrees modification g (rec.Chgcnf plan) is = absurd cc
rej_agrees modification g (rec.Chgref word) is = absurd cc
rej_agrees modification g rec.Relrqd is = absurd cc
rej_agrees modification g (rec.Relcnf plan) is = absurd cc
rej_agrees release g (rec.Reconf plan key) is = absurd cc
rej_agrees release g (rec.Rcomp h) is = absurd cc
rej_agrees release g (rec.Scgf failed) is = absurd cc
rej_agrees release g (rec.Recov id) is = absurd cc
rej_agrees release g (rec.Recovd id) is = absurd cc
rej_agrees release g (rec.Addreq plan key) is = absurd cc
rej_agrees release g (rec.Addack h) is = absurd cc
rej_agrees release g (rec.Addrej h) is = absurd cc
rej_agrees release g (rec.Modreq plan key) is = absurd cc
rej_agrees release g (rec.Modack h) is = absurd cc
rej_agrees release g (rec.Modrej h) is = absurd cc
rej_agrees release g (rec.Recfg h) is = absurd cc
rej_agrees release g (rec.Relreq plan) is = absurd cc
rej_agrees release g (rec.Relack h) is = absurd cc
rej_agrees release g (rec.Relrej h) is = is
rej_agrees release g (rec.Uecr h) is = absurd cc
rej_agrees release g (rec.Snst status) is = absurd cc
rej_agrees release g (rec.Moved h id) is = absurd cc
rej_agrees release g (rec.Scgn id h) is = absurd cc
rej_agrees release g rec.Modrqd is = absurd cc
rej_agrees release g (rec.Modcnf h) is = absurd cc
rej_agrees release g (rec.Modref word) is = absurd cc
rej_agrees release g rec.Chgrqd is = absurd cc
rej_agrees release g (rec.Chgcnf plan) is = absurd cc
rej_agrees release g (rec.Chgref word) is = absurd cc
rej_agrees release g rec.Relrqd is = absurd cc
rej_agrees release g (rec.Relcnf plan) is = absurd cc

pub answers_said : (g : ℕ) (r : Rec) → (is_agreement g r || is_rejection g r) ≡ true → is_spoken r ≡ true
answers_said g (rec.Reconf plan key) is = refl
answers_said g (rec.Rcomp h) is = refl
answers_said g (rec.Scgf failed) is = refl
answers_said g (rec.Recov id) is = refl
answers_said g (rec.Recovd id) is = refl
answers_said g (rec.Addreq plan key) is = refl
answers_said g (rec.Addack h) is = refl
answers_said g (rec.Addrej h) is = refl
answers_said g (rec.Modreq plan key) is = refl
answers_said g (rec.Modack h) is = refl
answers_said g (rec.Modrej h) is = refl
answers_said g (rec.Recfg h) is = refl
answers_said g (rec.Relreq plan) is = refl
answers_said g (rec.Relack h) is = refl
answers_said g (rec.Relrej h) is = refl
answers_said g (rec.Uecr h) is = refl
answers_said g (rec.Snst status) is = absurd cc
answers_said g (rec.Moved h id) is = absurd cc
answers_said g (rec.Scgn id h) is = refl
answers_said g rec.Modrqd is = refl
answers_said g (rec.Modcnf h) is = refl
answers_said g (rec.Modref word) is = refl
answers_said g rec.Chgrqd is = refl
answers_said g (rec.Chgcnf plan) is = refl
answers_said g (rec.Chgref word) is = refl
answers_said g rec.Relrqd is = refl
answers_said g (rec.Relcnf plan) is = refl
