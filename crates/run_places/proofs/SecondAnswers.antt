-- What a secondary node answers: which records agree to what it is asked, and which reject it.
use Rattle.std.proofs.Common.{ℕ, ◌≡◌, ◌∙◌, Bool, true, false, List, [], ◌∷◌, Some, refl, sym, ap}
use Rattle.std.specs.Prelude.{⊤, ◌&&◌}
use Rattle.dc_base.specs.Nodes.{is_same_node}
use Rattle.dc_base.specs.declared.nodes.Node.{Node}
use Rattle.dc_base.specs.declared.records.Plan.{Plan}
use Rattle.dc_base.specs.declared.records.Rec.{Rec}
use Rattle.dc_base.specs.declared.records.Rec.TheVariants as rec
use Rattle.node_rules.specs.MasterRecords.{is_same_first}
use Rattle.node_rules.specs.declared.commands.Change.{Change}
use Rattle.node_rules.specs.declared.commands.Command.TheVariants.{Asked as asked}
use Rattle.node_rules.specs.declared.commands.First.{First}
use Rattle.node_rules.specs.declared.commands.First.TheVariants.{Addition as addition, Modification as modification, Release as release}
use Rattle.run_control.specs.Claims.{IsStandOf, Stand, agrees, asks, goes_on, is_agreement, refuses, rests}
use Rattle.dc_base.specs.declared.records.StatusTransfer.{StatusTransfer}
use Rattle.run_control.proofs.Turns.{never}
use Rattle.run_pairs.specs.Pairs.{acknowledge, is_reply, is_word, rejection, reply}
use Rattle.run_places.proofs.PairFacts.{Awaits}

-- ---- answers

pub and_last : (p q r : Bool) → (p && q && r) ≡ true → (q ≡ true) × (r ≡ true)
and_last true true true is = (refl, refl)
and_last true true false is = absurd cc
and_last true false r is = absurd cc
and_last false q r is = absurd cc

pub all_three : (p q r : Bool) → p ≡ true → q ≡ true → r ≡ true → (p && q && r) ≡ true
all_three p q r one two three = ap (λ z. z && q && r) one ∙ ap (λ z. true && z && r) two ∙ three

pub head_is : (q r : Rec) → q ∷ [] ≡ r ∷ [] → q ≡ r
head_is q r is = ap first is
  where
    first : List Rec → Rec
    first [] = q
    first (z ∷ zs) = z

pub rejects : (h g : ℕ) (f : First) → is_agreement h (rejection f g) ≡ false
rejects h g addition = refl
rejects h g modification = refl
rejects h g release = refl

-- which first record an acknowledge is of
abbrev pub IsAckOf : First → Rec → Type 0
IsAckOf f r = (first : First) (h : ℕ) → r ≡ acknowledge first h → is_same_first f first ≡ true

pub ack_addition : (g : ℕ) → IsAckOf addition (rec.Addack g)
ack_addition g addition h is = refl
ack_addition g modification h is = absurd cc
ack_addition g release h is = absurd cc

pub ack_modification : (g : ℕ) → IsAckOf modification (rec.Modack g)
ack_modification g addition h is = absurd cc
ack_modification g modification h is = refl
ack_modification g release h is = absurd cc

pub ack_release : (g : ℕ) → IsAckOf release (rec.Relack g)
ack_release g addition h is = absurd cc
ack_release g modification h is = absurd cc
ack_release g release h is = refl

-- a record rejects what a node is asked
abbrev pub IsRejection : Rec → Type 0
IsRejection r = (is_word r ≡ true) × ((s : Stand) (g : ℕ) → Awaits s g → is_reply s r ≡ true)

pub rejects_addition : (g : ℕ) → IsRejection (rec.Addrej g)
rejects_addition g = (refl, by)
  where
    by : (s : Stand) (h : ℕ) → Awaits s h → is_reply s (rec.Addrej g) ≡ true
    by s h awaits = refl

pub rejects_modification : (g : ℕ) → IsRejection (rec.Modrej g)
rejects_modification g = (refl, by)
  where
    by : (s : Stand) (h : ℕ) → Awaits s h → is_reply s (rec.Modrej g) ≡ true
    by s h awaits = refl

pub rejects_release : (g : ℕ) → IsRejection (rec.Relrej g)
rejects_release g = (refl, by)
  where
    by : (s : Stand) (h : ℕ) → Awaits s h → is_reply s (rec.Relrej g) ≡ true
    by s h awaits = refl

-- a node that is asked has a stand that awaits
pub stand_awaits : (x : Node) (ch : Change) (first : First) (who : Node) (wanted : Bool) (s : Stand) → is_same_node x who ≡ true → IsStandOf x (Some (asked ch first who wanted)) s → Awaits s ch.plan.g
stand_awaits x ch first who wanted rests here is = absurd (never (is_same_node x who) here is)
stand_awaits x ch first who wanted (asks f p) here is = ap (λ (z : Plan). z.g) is.2
stand_awaits x ch first who wanted (refuses f p) here is = ap (λ (z : Plan). z.g) is.2
stand_awaits x ch first who wanted (agrees f p) here is = ap (λ (z : Plan). z.g) is.2
stand_awaits x ch first who wanted (goes_on leaves) here is = absurd is

pub the_ack : (x : Node) (ch : Change) (first : First) (who : Node) (wanted : Bool) (s : Stand) (r : Rec) → IsStandOf x (Some (asked ch first who wanted)) s → Awaits s ch.plan.g → reply s ≡ r ∷ [] → is_agreement ch.plan.g r ≡ true → r ≡ acknowledge first ch.plan.g
the_ack x ch first who wanted rests r is awaits answers agrees' = absurd awaits
the_ack x ch first who wanted (asks f p) r is awaits answers agrees' = absurd cc
the_ack x ch first who wanted (refuses f p) r is awaits answers agrees' =
    absurd (never (is_agreement ch.plan.g r) agrees' (sym (ap (is_agreement ch.plan.g) (head_is (rejection f p.g) r answers)) ∙ rejects ch.plan.g p.g f))
the_ack x ch first who wanted (agrees f p) r is awaits answers agrees' =
    sym (head_is (acknowledge f p.g) r answers) ∙ ap (λ z. acknowledge z p.g) is.1 ∙ ap (λ (z : Plan). acknowledge first z.g) is.2
the_ack x ch first who wanted (goes_on leaves) r is awaits answers agrees' = absurd awaits

-- ---- a status transfer, or another record

abbrev pub IsNoStatus : Rec → Type 0
IsNoStatus (rec.Snst status) = ⊥
IsNoStatus _ = ⊤

pub data StatusOr (q : Rec) : Type 0 where
  is_status : (status : StatusTransfer) → (is : q ≡ rec.Snst status) → StatusOr q
  is_other : (is : IsNoStatus q) → StatusOr q

pub status_or : (q : Rec) → StatusOr q
status_or (rec.Snst status) = is_status status refl
status_or (rec.Reconf plan key) = is_other tt
status_or (rec.Rcomp g) = is_other tt
status_or (rec.Scgf failed) = is_other tt
status_or (rec.Recov id) = is_other tt
status_or (rec.Recovd id) = is_other tt
status_or (rec.Addreq plan key) = is_other tt
status_or (rec.Addack g) = is_other tt
status_or (rec.Addrej g) = is_other tt
status_or (rec.Modreq plan key) = is_other tt
status_or (rec.Modack g) = is_other tt
status_or (rec.Modrej g) = is_other tt
status_or (rec.Recfg g) = is_other tt
status_or (rec.Relreq plan) = is_other tt
status_or (rec.Relack g) = is_other tt
status_or (rec.Relrej g) = is_other tt
status_or (rec.Uecr g) = is_other tt
status_or (rec.Moved g id) = is_other tt
status_or (rec.Scgn id g) = is_other tt
status_or rec.Modrqd = is_other tt
status_or (rec.Modcnf g) = is_other tt
status_or (rec.Modref word) = is_other tt
status_or rec.Chgrqd = is_other tt
status_or (rec.Chgcnf plan) = is_other tt
status_or (rec.Chgref word) = is_other tt
status_or rec.Relrqd = is_other tt
status_or (rec.Relcnf plan) = is_other tt
