-- What the records of the procedures ask of modifications, and what a secondary node rejects.
use Rattle.std.proofs.Common.{ℕ, ◌≡◌, ◌≤◌, false, List, [], ◌∷◌, Option, Some, None, refl, ap, ◌∙◌}
use Rattle.std.specs.List.{AllByRecursion}
use Rattle.dc_base.specs.declared.nodes.Want.{Want}
use Rattle.dc_base.specs.declared.nodes.Want.TheVariants as want
use Rattle.dc_base.specs.declared.records.Plan.{Plan}
use Rattle.dc_base.specs.declared.records.Rec.{Rec}
use Rattle.dc_base.specs.declared.records.Rec.TheVariants as rec
use Rattle.node_rules.specs.SecondRecords.{is_one_drop}
use Rattle.node_rules.specs.SecondState.{request}
use Rattle.node_rules.specs.declared.acts.Act.{Act}
use Rattle.node_rules.specs.declared.acts.Act.TheVariants.{FailOne as fail_one, Go as go, Pass as pass, Prepare as prepare, RecoverOne as recover_one, Say as say, Send as send, UnlockAll as unlock_all}
use Rattle.run_agreed.specs.Drops.{IsDrawnPlan, IsNoDrop, OfAsked, RejectionFits, RequestFits, modification_in}
use Rattle.run_agreed.specs.Segments.{IsAside, IsAsideRecord, IsRefusal}
use Rattle.run_agreed.proofs.PairKeeping.{ActSays}
use Rattle.run_agreed.proofs.SecondSays.{MaySay}

-- ---- records that ask for no modification

aside_none : (r : Rec) → IsAsideRecord r → modification_in r ≡ None
aside_none (rec.Reconf plan key) is = absurd is
aside_none (rec.Rcomp g) is = absurd is
aside_none (rec.Scgf failed) is = absurd is
aside_none (rec.Recov id) is = absurd is
aside_none (rec.Recovd id) is = absurd is
aside_none (rec.Addreq plan key) is = absurd is
aside_none (rec.Addack g) is = absurd is
aside_none (rec.Addrej g) is = absurd is
aside_none (rec.Modreq plan key) is = absurd is
aside_none (rec.Modack g) is = absurd is
aside_none (rec.Modrej g) is = absurd is
aside_none (rec.Recfg g) is = absurd is
aside_none (rec.Relreq plan) is = absurd is
aside_none (rec.Relack g) is = absurd is
aside_none (rec.Relrej g) is = absurd is
aside_none (rec.Uecr g) is = absurd is
aside_none (rec.Snst status) is = refl
aside_none (rec.Moved g id) is = absurd is
aside_none (rec.Scgn id g) is = refl
aside_none rec.Modrqd is = absurd is
aside_none (rec.Modcnf g) is = absurd is
aside_none (rec.Modref word) is = absurd is
aside_none rec.Chgrqd is = absurd is
aside_none (rec.Chgcnf plan) is = absurd is
aside_none (rec.Chgref word) is = absurd is
aside_none rec.Relrqd is = absurd is
aside_none (rec.Relcnf plan) is = absurd is

pub refusal_none : (r : Rec) → IsRefusal r → modification_in r ≡ None
refusal_none (rec.Reconf plan key) is = absurd is
refusal_none (rec.Rcomp g) is = absurd is
refusal_none (rec.Scgf failed) is = absurd is
refusal_none (rec.Recov id) is = absurd is
refusal_none (rec.Recovd id) is = absurd is
refusal_none (rec.Addreq plan key) is = absurd is
refusal_none (rec.Addack g) is = absurd is
refusal_none (rec.Addrej g) is = absurd is
refusal_none (rec.Modreq plan key) is = absurd is
refusal_none (rec.Modack g) is = absurd is
refusal_none (rec.Modrej g) is = absurd is
refusal_none (rec.Recfg g) is = absurd is
refusal_none (rec.Relreq plan) is = absurd is
refusal_none (rec.Relack g) is = absurd is
refusal_none (rec.Relrej g) is = absurd is
refusal_none (rec.Uecr g) is = absurd is
refusal_none (rec.Snst status) is = absurd is
refusal_none (rec.Moved g id) is = absurd is
refusal_none (rec.Scgn id g) is = absurd is
refusal_none rec.Modrqd is = absurd is
refusal_none (rec.Modcnf g) is = absurd is
refusal_none (rec.Modref word) is = refl
refusal_none rec.Chgrqd is = absurd is
refusal_none (rec.Chgcnf plan) is = absurd is
refusal_none (rec.Chgref word) is = refl
refusal_none rec.Relrqd is = absurd is
refusal_none (rec.Relcnf plan) is = absurd is

module _ (last : ℕ) (o : Option Plan) where
  -- a record that asks for none fits
  pub asks_none : (r : Rec) → modification_in r ≡ None → RequestFits last o r
  asks_none r none = by (modification_in r) none
    where
      by : (m : Option Plan) → m ≡ None → IsDrawnPlan last o m
      by None is = tt
      by (Some p) is = absurd cc

  aside_says : (a : Act) → IsAside a → ActSays (RequestFits last o) a
  aside_says (send to r) is = asks_none r (aside_none r is)
  aside_says (prepare p) is = tt
  aside_says (go p) is = tt
  aside_says (unlock_all g) is = tt
  aside_says (say n) is = tt
  aside_says (recover_one id) is = tt
  aside_says (fail_one id g) is = tt
  aside_says (pass status) is = tt

  pub aside_all : (acts : List Act) → AllByRecursion IsAside acts → AllByRecursion (ActSays (RequestFits last o)) acts
  aside_all [] all = tt
  aside_all (a ∷ acts) all = (aside_says a all.0, aside_all acts all.1)

  -- ---- what a secondary node answers

  -- a request that fits is rejected where it is no drop alone
  fits_answer : (p : Plan) → (p.g ≤ last) × OfAsked (λ q. q ≡ p) p.g o → is_one_drop p.items ≡ false → IsNoDrop last o (Some p.g)
  fits_answer p drawn kept = (drawn.0, by o drawn.1)
    where
      by : (k : Option Plan) → OfAsked (λ q. q ≡ p) p.g k → OfAsked (λ q. is_one_drop q.items ≡ false) p.g k
      by None of = tt
      by (Some q) of = λ same. ap (λ (y : Plan). is_one_drop y.items) (of same) ∙ kept

  pub fits_says : (r : Rec) → RequestFits last o r → MaySay (RejectionFits last o) r
  fits_says (rec.Reconf plan key) fits = tt
  fits_says (rec.Rcomp g) fits = tt
  fits_says (rec.Scgf failed) fits = tt
  fits_says (rec.Recov id) fits = tt
  fits_says (rec.Recovd id) fits = tt
  fits_says (rec.Addreq plan key) fits = (tt, tt)
  fits_says (rec.Addack g) fits = tt
  fits_says (rec.Addrej g) fits = tt
  fits_says (rec.Modreq plan key) fits = (tt, λ kept. fits_answer plan fits kept)
  fits_says (rec.Modack g) fits = tt
  fits_says (rec.Modrej g) fits = tt
  fits_says (rec.Recfg g) fits = tt
  fits_says (rec.Relreq plan) fits = (tt, λ none. tt)
  fits_says (rec.Relack g) fits = tt
  fits_says (rec.Relrej g) fits = tt
  fits_says (rec.Uecr g) fits = tt
  fits_says (rec.Snst status) fits = tt
  fits_says (rec.Moved g id) fits = tt
  fits_says (rec.Scgn id g) fits = tt
  fits_says rec.Modrqd fits = tt
  fits_says (rec.Modcnf g) fits = tt
  fits_says (rec.Modref word) fits = tt
  fits_says rec.Chgrqd fits = tt
  fits_says (rec.Chgcnf plan) fits = tt
  fits_says (rec.Chgref word) fits = tt
  fits_says rec.Relrqd fits = tt
  fits_says (rec.Relcnf plan) fits = tt

  pub request_fits : (w : Want) → RejectionFits last o (request w)
  request_fits want.Rekey = tt
  request_fits want.Change = tt
  request_fits want.Release = tt
