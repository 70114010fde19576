-- The records of a recovery among others: the order to recover, and the news that it is done.
use Rattle.std.proofs.Common.{ℕ, ◌≡◌, ◌++◌, Bool, true, false, List, [], ◌∷◌, refl, sym, ap, ◌∙◌}
use Rattle.std.proofs.lemmas.Bool.{eqb-true}
use Rattle.std.specs.List.{list_any}
use Rattle.std.specs.Prelude.{if◌then◌else◌, ◌||◌}
use Rattle.dc_base.specs.declared.records.Rec.{Rec}
use Rattle.dc_base.specs.declared.records.Rec.TheVariants as rec
use Rattle.run_agreed.specs.Lines.{is_spoken, spoken}
use Rattle.run_agreed.specs.Stalls.{is_recov, is_recovd}

-- ---- one record

-- a record that tests as the order to recover this bearer is that order
pub recov_is : (id : ℕ) (r : Rec) → is_recov id r ≡ true → r ≡ rec.Recov id
recov_is id (rec.Reconf plan key) is = absurd cc
recov_is id (rec.Rcomp g) is = absurd cc
recov_is id (rec.Scgf failed) is = absurd cc
recov_is id (rec.Recov i) is = ap (λ k. rec.Recov k) (eqb-true i id is)
recov_is id (rec.Recovd i) is = absurd cc
recov_is id (rec.Addreq plan key) is = absurd cc
recov_is id (rec.Addack g) is = absurd cc
recov_is id (rec.Addrej g) is = absurd cc
recov_is id (rec.Modreq plan key) is = absurd cc
recov_is id (rec.Modack g) is = absurd cc
recov_is id (rec.Modrej g) is = absurd cc
recov_is id (rec.Recfg g) is = absurd cc
recov_is id (rec.Relreq plan) is = absurd cc
recov_is id (rec.Relack g) is = absurd cc
recov_is id (rec.Relrej g) is = absurd cc
recov_is id (rec.Uecr g) is = absurd cc
recov_is id (rec.Snst status) is = absurd cc
recov_is id (rec.Moved g i) is = absurd cc
recov_is id (rec.Scgn i g) is = absurd cc
recov_is id rec.Modrqd is = absurd cc
recov_is id (rec.Modcnf g) is = absurd cc
recov_is id (rec.Modref word) is = absurd cc
recov_is id rec.Chgrqd is = absurd cc
recov_is id (rec.Chgcnf plan) is = absurd cc
recov_is id (rec.Chgref word) is = absurd cc
recov_is id rec.Relrqd is = absurd cc
recov_is id (rec.Relcnf plan) is = absurd cc

-- one that tests as the news of it is that news
pub recovd_is : (id : ℕ) (r : Rec) → is_recovd id r ≡ true → r ≡ rec.Recovd id
recovd_is id (rec.Reconf plan key) is = absurd cc
recovd_is id (rec.Rcomp g) is = absurd cc
recovd_is id (rec.Scgf failed) is = absurd cc
recovd_is id (rec.Recov i) is = absurd cc
recovd_is id (rec.Recovd i) is = ap (λ k. rec.Recovd k) (eqb-true i id is)
recovd_is id (rec.Addreq plan key) is = absurd cc
recovd_is id (rec.Addack g) is = absurd cc
recovd_is id (rec.Addrej g) is = absurd cc
recovd_is id (rec.Modreq plan key) is = absurd cc
recovd_is id (rec.Modack g) is = absurd cc
recovd_is id (rec.Modrej g) is = absurd cc
recovd_is id (rec.Recfg g) is = absurd cc
recovd_is id (rec.Relreq plan) is = absurd cc
recovd_is id (rec.Relack g) is = absurd cc
recovd_is id (rec.Relrej g) is = absurd cc
recovd_is id (rec.Uecr g) is = absurd cc
recovd_is id (rec.Snst status) is = absurd cc
recovd_is id (rec.Moved g i) is = absurd cc
recovd_is id (rec.Scgn i g) is = absurd cc
recovd_is id rec.Modrqd is = absurd cc
recovd_is id (rec.Modcnf g) is = absurd cc
recovd_is id (rec.Modref word) is = absurd cc
recovd_is id rec.Chgrqd is = absurd cc
recovd_is id (rec.Chgcnf plan) is = absurd cc
recovd_is id (rec.Chgref word) is = absurd cc
recovd_is id rec.Relrqd is = absurd cc
recovd_is id (rec.Relcnf plan) is = absurd cc

-- a record that is of no command is no such order
pub recov_unsaid : (id : ℕ) (r : Rec) → is_spoken r ≡ false → is_recov id r ≡ false
recov_unsaid id (rec.Reconf plan key) unsaid = absurd cc
recov_unsaid id (rec.Rcomp g) unsaid = absurd cc
recov_unsaid id (rec.Scgf failed) unsaid = absurd cc
recov_unsaid id (rec.Recov i) unsaid = absurd cc
recov_unsaid id (rec.Recovd i) unsaid = absurd cc
recov_unsaid id (rec.Addreq plan key) unsaid = absurd cc
recov_unsaid id (rec.Addack g) unsaid = absurd cc
recov_unsaid id (rec.Addrej g) unsaid = absurd cc
recov_unsaid id (rec.Modreq plan key) unsaid = absurd cc
recov_unsaid id (rec.Modack g) unsaid = absurd cc
recov_unsaid id (rec.Modrej g) unsaid = absurd cc
recov_unsaid id (rec.Recfg g) unsaid = absurd cc
recov_unsaid id (rec.Relreq plan) unsaid = absurd cc
recov_unsaid id (rec.Relack g) unsaid = absurd cc
recov_unsaid id (rec.Relrej g) unsaid = absurd cc
recov_unsaid id (rec.Uecr g) unsaid = absurd cc
recov_unsaid id (rec.Snst status) unsaid = refl
recov_unsaid id (rec.Moved g i) unsaid = refl
recov_unsaid id (rec.Scgn i g) unsaid = absurd cc
recov_unsaid id rec.Modrqd unsaid = absurd cc
recov_unsaid id (rec.Modcnf g) unsaid = absurd cc
recov_unsaid id (rec.Modref word) unsaid = absurd cc
recov_unsaid id rec.Chgrqd unsaid = absurd cc
recov_unsaid id (rec.Chgcnf plan) unsaid = absurd cc
recov_unsaid id (rec.Chgref word) unsaid = absurd cc
recov_unsaid id rec.Relrqd unsaid = absurd cc
recov_unsaid id (rec.Relcnf plan) unsaid = absurd cc

-- nor such news
pub recovd_unsaid : (id : ℕ) (r : Rec) → is_spoken r ≡ false → is_recovd id r ≡ false
recovd_unsaid id (rec.Reconf plan key) unsaid = absurd cc
recovd_unsaid id (rec.Rcomp g) unsaid = absurd cc
recovd_unsaid id (rec.Scgf failed) unsaid = absurd cc
recovd_unsaid id (rec.Recov i) unsaid = absurd cc
recovd_unsaid id (rec.Recovd i) unsaid = absurd cc
recovd_unsaid id (rec.Addreq plan key) unsaid = absurd cc
recovd_unsaid id (rec.Addack g) unsaid = absurd cc
recovd_unsaid id (rec.Addrej g) unsaid = absurd cc
recovd_unsaid id (rec.Modreq plan key) unsaid = absurd cc
recovd_unsaid id (rec.Modack g) unsaid = absurd cc
recovd_unsaid id (rec.Modrej g) unsaid = absurd cc
recovd_unsaid id (rec.Recfg g) unsaid = absurd cc
recovd_unsaid id (rec.Relreq plan) unsaid = absurd cc
recovd_unsaid id (rec.Relack g) unsaid = absurd cc
recovd_unsaid id (rec.Relrej g) unsaid = absurd cc
recovd_unsaid id (rec.Uecr g) unsaid = absurd cc
recovd_unsaid id (rec.Snst status) unsaid = refl
recovd_unsaid id (rec.Moved g i) unsaid = refl
recovd_unsaid id (rec.Scgn i g) unsaid = absurd cc
recovd_unsaid id rec.Modrqd unsaid = absurd cc
recovd_unsaid id (rec.Modcnf g) unsaid = absurd cc
recovd_unsaid id (rec.Modref word) unsaid = absurd cc
recovd_unsaid id rec.Chgrqd unsaid = absurd cc
recovd_unsaid id (rec.Chgcnf plan) unsaid = absurd cc
recovd_unsaid id (rec.Chgref word) unsaid = absurd cc
recovd_unsaid id rec.Relrqd unsaid = absurd cc
recovd_unsaid id (rec.Relcnf plan) unsaid = absurd cc

-- ---- several

module _ (test : Rec → Bool) where
  -- some of the first lot
  pub any_first : (xs ys : List Rec) → list_any test xs ≡ true → list_any test (xs ++ ys) ≡ true
  any_first [] ys is = absurd cc
  any_first (x ∷ xs) ys is = by (test x) is (λ more. any_first xs ys more)
    where
      by : (b : Bool) → (b || list_any test xs) ≡ true → (list_any test xs ≡ true → list_any test (xs ++ ys) ≡ true) → (b || list_any test (xs ++ ys)) ≡ true
      by true here more = refl
      by false later more = more later

  -- some of the last
  pub any_last : (xs ys : List Rec) → list_any test ys ≡ true → list_any test (xs ++ ys) ≡ true
  any_last [] ys is = is
  any_last (x ∷ xs) ys is = by (test x) (any_last xs ys is)
    where
      by : (b : Bool) → list_any test (xs ++ ys) ≡ true → (b || list_any test (xs ++ ys)) ≡ true
      by true more = refl
      by false more = more

  -- not the first one
  pub any_later : (x : Rec) (xs : List Rec) → test x ≡ false → list_any test (x ∷ xs) ≡ true → list_any test xs ≡ true
  any_later x xs other is = ap (λ b. b || list_any test xs) (sym other) ∙ is

  -- what is of no command does not count
  pub any_spoken : ((r : Rec) → is_spoken r ≡ false → test r ≡ false) → (rs : List Rec) → list_any test (spoken rs) ≡ list_any test rs
  any_spoken unsaid [] = refl
  any_spoken unsaid (r ∷ rs) = by (is_spoken r) refl (any_spoken unsaid rs)
    where
      by : (b : Bool) → is_spoken r ≡ b → list_any test (spoken rs) ≡ list_any test rs → list_any test (if b then r ∷ spoken rs else spoken rs) ≡ (test r || list_any test rs)
      by true said more = ap (λ b. test r || b) more
      by false none more = more ∙ ap (λ b. b || list_any test rs) (sym (unsaid r none))
