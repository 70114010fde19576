-- What stands on the two lines between the master and a secondary node: record by record, and one line after another.
use Rattle.std.proofs.Common.{ℕ, ◌≡◌, ◌≤◌, ◌++◌, true, false, List, [], ◌∷◌, Option, Some, None, refl, sym, ap, subst, ◌∙◌, arith, inl, inr, ◌+◌}
use Rattle.std.specs.Prelude.{if◌then◌else◌, not}
use Rattle.std.specs.List.{AllByRecursion}
use Rattle.std.proofs.lemmas.Bool.{ne_eqb}
use Rattle.dc_base.specs.declared.nodes.Want.{Want}
use Rattle.dc_base.specs.declared.records.Plan.{Plan}
use Rattle.dc_base.specs.declared.records.Rec.{Rec}
use Rattle.dc_base.specs.declared.records.Rec.TheVariants as rec
use Rattle.transcript.proofs.OnEach.{each_append, each_weaker}
use Rattle.node_rules.specs.declared.commands.First.{First}
use Rattle.node_rules.specs.declared.commands.Membership.{Membership}
use Rattle.node_rules.specs.declared.commands.Membership.TheVariants.{Left as left}
use Rattle.run_control.specs.Claims.{IsFirst, Stand, agrees, asks, goes_on, refuses, rests}
use Rattle.run_control.specs.Rows.{Reads, has_row, is_outside, is_request, membership_after, wanted_after}
use Rattle.run_pairs.specs.Pairs.{IsAskingLine, IsLineOf, IsWithin, is_before, is_notice}

-- ---- notices

-- a notice is no request
pub notice_plain : (r : Rec) → is_notice r ≡ true → is_request r ≡ false
notice_plain (rec.Reconf plan key) is = absurd cc
notice_plain (rec.Rcomp g) is = absurd cc
notice_plain (rec.Scgf failed) is = absurd cc
notice_plain (rec.Recov id) is = absurd cc
notice_plain (rec.Recovd id) is = absurd cc
notice_plain (rec.Addreq plan key) is = absurd cc
notice_plain (rec.Addack g) is = absurd cc
notice_plain (rec.Addrej g) is = absurd cc
notice_plain (rec.Modreq plan key) is = absurd cc
notice_plain (rec.Modack g) is = absurd cc
notice_plain (rec.Modrej g) is = absurd cc
notice_plain (rec.Recfg g) is = absurd cc
notice_plain (rec.Relreq plan) is = absurd cc
notice_plain (rec.Relack g) is = absurd cc
notice_plain (rec.Relrej g) is = absurd cc
notice_plain (rec.Uecr g) is = absurd cc
notice_plain (rec.Snst status) is = absurd cc
notice_plain (rec.Moved g id) is = absurd cc
notice_plain (rec.Scgn id g) is = refl
notice_plain rec.Modrqd is = absurd cc
notice_plain (rec.Modcnf g) is = absurd cc
notice_plain (rec.Modref word) is = refl
notice_plain rec.Chgrqd is = absurd cc
notice_plain (rec.Chgcnf plan) is = absurd cc
notice_plain (rec.Chgref word) is = refl
notice_plain rec.Relrqd is = absurd cc
notice_plain (rec.Relcnf plan) is = absurd cc

-- it leaves the membership as it is
pub notice_still : (m : Membership) (r : Rec) → is_notice r ≡ true → membership_after r m ≡ m
notice_still m (rec.Reconf plan key) is = absurd cc
notice_still m (rec.Rcomp g) is = absurd cc
notice_still m (rec.Scgf failed) is = absurd cc
notice_still m (rec.Recov id) is = absurd cc
notice_still m (rec.Recovd id) is = absurd cc
notice_still m (rec.Addreq plan key) is = absurd cc
notice_still m (rec.Addack g) is = absurd cc
notice_still m (rec.Addrej g) is = absurd cc
notice_still m (rec.Modreq plan key) is = absurd cc
notice_still m (rec.Modack g) is = absurd cc
notice_still m (rec.Modrej g) is = absurd cc
notice_still m (rec.Recfg g) is = absurd cc
notice_still m (rec.Relreq plan) is = absurd cc
notice_still m (rec.Relack g) is = absurd cc
notice_still m (rec.Relrej g) is = absurd cc
notice_still m (rec.Uecr g) is = absurd cc
notice_still m (rec.Snst status) is = absurd cc
notice_still m (rec.Moved g id) is = absurd cc
notice_still m (rec.Scgn id g) is = refl
notice_still m rec.Modrqd is = absurd cc
notice_still m (rec.Modcnf g) is = absurd cc
notice_still m (rec.Modref word) is = refl
notice_still m rec.Chgrqd is = absurd cc
notice_still m (rec.Chgcnf plan) is = absurd cc
notice_still m (rec.Chgref word) is = refl
notice_still m rec.Relrqd is = absurd cc
notice_still m (rec.Relcnf plan) is = absurd cc

-- and has its row in any other one, if there is a context
pub notice_row : (m n : Membership) (w : Option Want) (r : Rec) → is_notice r ≡ true → is_outside n ≡ false → has_row m w r ≡ true → has_row n w r ≡ true
notice_row m n w (rec.Reconf plan key) is context row = absurd cc
notice_row m n w (rec.Rcomp g) is context row = absurd cc
notice_row m n w (rec.Scgf failed) is context row = absurd cc
notice_row m n w (rec.Recov id) is context row = absurd cc
notice_row m n w (rec.Recovd id) is context row = absurd cc
notice_row m n w (rec.Addreq plan key) is context row = absurd cc
notice_row m n w (rec.Addack g) is context row = absurd cc
notice_row m n w (rec.Addrej g) is context row = absurd cc
notice_row m n w (rec.Modreq plan key) is context row = absurd cc
notice_row m n w (rec.Modack g) is context row = absurd cc
notice_row m n w (rec.Modrej g) is context row = absurd cc
notice_row m n w (rec.Recfg g) is context row = absurd cc
notice_row m n w (rec.Relreq plan) is context row = absurd cc
notice_row m n w (rec.Relack g) is context row = absurd cc
notice_row m n w (rec.Relrej g) is context row = absurd cc
notice_row m n w (rec.Uecr g) is context row = absurd cc
notice_row m n w (rec.Snst status) is context row = absurd cc
notice_row m n w (rec.Moved g id) is context row = absurd cc
notice_row m n w (rec.Scgn id g) is context row = ap not context
notice_row m n w rec.Modrqd is context row = absurd cc
notice_row m n w (rec.Modcnf g) is context row = absurd cc
notice_row m n w (rec.Modref word) is context row = row
notice_row m n w rec.Chgrqd is context row = absurd cc
notice_row m n w (rec.Chgcnf plan) is context row = absurd cc
notice_row m n w (rec.Chgref word) is context row = row
notice_row m n w rec.Relrqd is context row = absurd cc
notice_row m n w (rec.Relcnf plan) is context row = absurd cc

-- ---- requests

-- a request counts for nothing
pub request_still : (m : Membership) (r : Rec) → is_request r ≡ true → membership_after r m ≡ m
request_still m (rec.Reconf plan key) is = absurd cc
request_still m (rec.Rcomp g) is = absurd cc
request_still m (rec.Scgf failed) is = absurd cc
request_still m (rec.Recov id) is = absurd cc
request_still m (rec.Recovd id) is = absurd cc
request_still m (rec.Addreq plan key) is = refl
request_still m (rec.Addack g) is = absurd cc
request_still m (rec.Addrej g) is = absurd cc
request_still m (rec.Modreq plan key) is = refl
request_still m (rec.Modack g) is = absurd cc
request_still m (rec.Modrej g) is = absurd cc
request_still m (rec.Recfg g) is = absurd cc
request_still m (rec.Relreq plan) is = ap (λ b. if b then m else left) is
request_still m (rec.Relack g) is = absurd cc
request_still m (rec.Relrej g) is = absurd cc
request_still m (rec.Uecr g) is = absurd cc
request_still m (rec.Snst status) is = absurd cc
request_still m (rec.Moved g id) is = absurd cc
request_still m (rec.Scgn id g) is = absurd cc
request_still m rec.Modrqd is = absurd cc
request_still m (rec.Modcnf g) is = absurd cc
request_still m (rec.Modref word) is = absurd cc
request_still m rec.Chgrqd is = absurd cc
request_still m (rec.Chgcnf plan) is = absurd cc
request_still m (rec.Chgref word) is = absurd cc
request_still m rec.Relrqd is = absurd cc
request_still m (rec.Relcnf plan) is = absurd cc

pub request_wants : (w : Option Want) (r : Rec) → is_request r ≡ true → wanted_after r w ≡ w
request_wants w (rec.Reconf plan key) is = absurd cc
request_wants w (rec.Rcomp g) is = absurd cc
request_wants w (rec.Scgf failed) is = absurd cc
request_wants w (rec.Recov id) is = absurd cc
request_wants w (rec.Recovd id) is = absurd cc
request_wants w (rec.Addreq plan key) is = refl
request_wants w (rec.Addack g) is = absurd cc
request_wants w (rec.Addrej g) is = absurd cc
request_wants w (rec.Modreq plan key) is = refl
request_wants w (rec.Modack g) is = absurd cc
request_wants w (rec.Modrej g) is = absurd cc
request_wants w (rec.Recfg g) is = absurd cc
request_wants w (rec.Relreq plan) is = refl
request_wants w (rec.Relack g) is = absurd cc
request_wants w (rec.Relrej g) is = absurd cc
request_wants w (rec.Uecr g) is = absurd cc
request_wants w (rec.Snst status) is = absurd cc
request_wants w (rec.Moved g id) is = absurd cc
request_wants w (rec.Scgn id g) is = absurd cc
request_wants w rec.Modrqd is = absurd cc
request_wants w (rec.Modcnf g) is = absurd cc
request_wants w (rec.Modref word) is = absurd cc
request_wants w rec.Chgrqd is = absurd cc
request_wants w (rec.Chgcnf plan) is = absurd cc
request_wants w (rec.Chgref word) is = absurd cc
request_wants w rec.Relrqd is = absurd cc
request_wants w (rec.Relcnf plan) is = absurd cc

-- ---- what the node asked for

-- what has its row where nothing is asked for has it where something is, and answers nothing
pub row_with : (m : Membership) (k : Want) (r : Rec) → has_row m None r ≡ true → (has_row m (Some k) r ≡ true) × (wanted_after r None ≡ None) × (wanted_after r (Some k) ≡ Some k)
row_with m k (rec.Reconf plan key) row = absurd cc
row_with m k (rec.Rcomp g) row = absurd cc
row_with m k (rec.Scgf failed) row = absurd cc
row_with m k (rec.Recov id) row = (row, refl, refl)
row_with m k (rec.Recovd id) row = absurd cc
row_with m k (rec.Addreq plan key) row = (row, refl, refl)
row_with m k (rec.Addack g) row = absurd cc
row_with m k (rec.Addrej g) row = absurd cc
row_with m k (rec.Modreq plan key) row = (row, refl, refl)
row_with m k (rec.Modack g) row = absurd cc
row_with m k (rec.Modrej g) row = absurd cc
row_with m k (rec.Recfg g) row = (row, refl, refl)
row_with m k (rec.Relreq plan) row = (row, refl, refl)
row_with m k (rec.Relack g) row = absurd cc
row_with m k (rec.Relrej g) row = absurd cc
row_with m k (rec.Uecr g) row = (row, refl, refl)
row_with m k (rec.Snst status) row = (row, refl, refl)
row_with m k (rec.Moved g id) row = absurd cc
row_with m k (rec.Scgn id g) row = (row, refl, refl)
row_with m k rec.Modrqd row = absurd cc
row_with m k (rec.Modcnf g) row = absurd cc
row_with m k (rec.Modref word) row = absurd cc
row_with m k rec.Chgrqd row = absurd cc
row_with m k (rec.Chgcnf plan) row = absurd cc
row_with m k (rec.Chgref word) row = absurd cc
row_with m k rec.Relrqd row = absurd cc
row_with m k (rec.Relcnf plan) row = absurd cc

-- a line that is read where nothing is asked for is read where something is
pub reads_with : (m : Membership) (k : Want) (down : List Rec) (m' : Membership) (w : Option Want) → Reads m None down m' w → (w ≡ None) × Reads m (Some k) down m' (Some k)
reads_with m k [] m' w reads = (sym reads.1, (reads.0, refl))
reads_with m k (r ∷ down) m' w reads =
    let at = row_with m k r reads.0 in
    let rest = reads_with (membership_after r m) k down m' w (subst (λ z. Reads (membership_after r m) z down m' w) at.1 reads.1) in
    (rest.0, (at.0, subst (λ z. Reads (membership_after r m) z down m' (Some k)) (sym at.2) rest.1))

-- ---- reading on

-- one line after another
pub reads_append : (m : Membership) (w : Option Want) (down : List Rec) (m' : Membership) (w' : Option Want) (more : List Rec) (m'' : Membership) (w'' : Option Want)
    → Reads m w down m' w' → Reads m' w' more m'' w'' → Reads m w (down ++ more) m'' w''
reads_append m w [] m' w' more m'' w'' reads then' = subst (λ z. Reads z w more m'' w'') (sym reads.0) (subst (λ z. Reads m' z more m'' w'') (sym reads.1) then')
reads_append m w (r ∷ down) m' w' more m'' w'' reads then' = (reads.0, reads_append (membership_after r m) (wanted_after r w) down m' w' more m'' w'' reads.1 then')

-- notices are read in any membership with a context
pub notices_read : (n : Membership) (down : List Rec) (m m' : Membership) (w w' : Option Want) → AllByRecursion (λ r. is_notice r ≡ true) down → is_outside n ≡ false → Reads m w down m' w' → (m ≡ m') × Reads n w down n w'
notices_read n [] m m' w w' all context reads = (reads.0, (refl, reads.1))
notices_read n (r ∷ down) m m' w w' all context reads =
    let rest = notices_read n down (membership_after r m) m' (wanted_after r w) w' all.1 context reads.1 in
    (sym (notice_still m r all.0) ∙ rest.0, (notice_row m n w r all.0 context reads.0, subst (λ z. Reads z (wanted_after r w) down n w') (sym (notice_still n r all.0)) rest.1))

-- ---- what may stand on a line

-- notices are no requests
pub notices_plain : (down : List Rec) → AllByRecursion (λ r. is_notice r ≡ true) down → AllByRecursion (λ r. is_request r ≡ false) down
notices_plain down all = each_weaker (λ r. is_notice r ≡ true) (λ r. is_request r ≡ false) notice_plain down all

asking_notice : (first : First) (p : Plan) (down : List Rec) (r : Rec) → is_notice r ≡ true → IsAskingLine first p down → IsAskingLine first p (down ++ r ∷ [])
asking_notice first p [] r is line = absurd line
asking_notice first p (x ∷ q) r is (inl here) = inl (here.0, here.1, each_append (λ y. is_notice y ≡ true) q (r ∷ []) here.2 (is, tt))
asking_notice first p (x ∷ q) r is (inr later) = inr (later.0, later.1, asking_notice first p q r is later.2)

-- a notice may come behind whatever stands there
pub line_notice : (s : Stand) (down : List Rec) (r : Rec) → is_notice r ≡ true → IsLineOf s down → IsLineOf s (down ++ r ∷ [])
line_notice rests down r is line = each_append (λ y. is_request y ≡ false) down (r ∷ []) line (notice_plain r is, tt)
line_notice (asks first p) down r is line = asking_notice first p down r is line
line_notice (refuses first p) down r is line = each_append (λ y. is_notice y ≡ true) down (r ∷ []) line (is, tt)
line_notice (agrees first p) down r is line = each_append (λ y. is_notice y ≡ true) down (r ∷ []) line (is, tt)
line_notice (goes_on leaves) down r is line = each_append (λ y. is_request y ≡ false) down (r ∷ []) line (notice_plain r is, tt)

-- no release of a generation is before it is drawn
pub within_before : (last g : ℕ) (r : Rec) → g ≡ last + 1 → IsWithin last r → is_before g r ≡ true
within_before last h (rec.Reconf plan key) fresh within = refl
within_before last h (rec.Rcomp g) fresh within = refl
within_before last h (rec.Scgf failed) fresh within = refl
within_before last h (rec.Recov id) fresh within = refl
within_before last h (rec.Recovd id) fresh within = refl
within_before last h (rec.Addreq plan key) fresh within = refl
within_before last h (rec.Addack g) fresh within = refl
within_before last h (rec.Addrej g) fresh within = refl
within_before last h (rec.Modreq plan key) fresh within = refl
within_before last h (rec.Modack g) fresh within = refl
within_before last h (rec.Modrej g) fresh within = refl
within_before last h (rec.Recfg g) fresh within = refl
within_before last h (rec.Relreq plan) fresh within = ap not (ne_eqb plan.g h (λ e. omega (arith, e, fresh, within)))
within_before last h (rec.Relack g) fresh within = refl
within_before last h (rec.Relrej g) fresh within = refl
within_before last h (rec.Uecr g) fresh within = refl
within_before last h (rec.Snst status) fresh within = refl
within_before last h (rec.Moved g id) fresh within = refl
within_before last h (rec.Scgn id g) fresh within = refl
within_before last h rec.Modrqd fresh within = refl
within_before last h (rec.Modcnf g) fresh within = refl
within_before last h (rec.Modref word) fresh within = refl
within_before last h rec.Chgrqd fresh within = refl
within_before last h (rec.Chgcnf plan) fresh within = refl
within_before last h (rec.Chgref word) fresh within = refl
within_before last h rec.Relrqd fresh within = refl
within_before last h (rec.Relcnf plan) fresh within = refl

-- a request behind what stood there
pub asking_line : (first : First) (p : Plan) (last : ℕ) (down : List Rec) (r : Rec) → p.g ≡ last + 1 → is_request r ≡ true → IsFirst first p r → AllByRecursion (λ x. is_request x ≡ false) down → AllByRecursion (IsWithin last) down
    → IsAskingLine first p (down ++ r ∷ [])
asking_line first p last [] r fresh is first_is plain within = inl (is, first_is, tt)
asking_line first p last (x ∷ q) r fresh is first_is plain within = inr (plain.0, within_before last p.g x fresh within.0, asking_line first p last q r fresh is first_is plain.1 within.1)

-- what is within a generation is within a later one
pub within_later : (last last' : ℕ) → last ≤ last' → (r : Rec) → IsWithin last r → IsWithin last' r
within_later last last' le (rec.Reconf plan key) within = tt
within_later last last' le (rec.Rcomp g) within = tt
within_later last last' le (rec.Scgf failed) within = tt
within_later last last' le (rec.Recov id) within = tt
within_later last last' le (rec.Recovd id) within = tt
within_later last last' le (rec.Addreq plan key) within = tt
within_later last last' le (rec.Addack g) within = tt
within_later last last' le (rec.Addrej g) within = tt
within_later last last' le (rec.Modreq plan key) within = tt
within_later last last' le (rec.Modack g) within = tt
within_later last last' le (rec.Modrej g) within = tt
within_later last last' le (rec.Recfg g) within = tt
within_later last last' le (rec.Relreq plan) within = omega (arith, le, within)
within_later last last' le (rec.Relack g) within = omega (arith, le, within)
within_later last last' le (rec.Relrej g) within = tt
within_later last last' le (rec.Uecr g) within = tt
within_later last last' le (rec.Snst status) within = tt
within_later last last' le (rec.Moved g id) within = tt
within_later last last' le (rec.Scgn id g) within = tt
within_later last last' le rec.Modrqd within = tt
within_later last last' le (rec.Modcnf g) within = tt
within_later last last' le (rec.Modref word) within = tt
within_later last last' le rec.Chgrqd within = tt
within_later last last' le (rec.Chgcnf plan) within = tt
within_later last last' le (rec.Chgref word) within = tt
within_later last last' le rec.Relrqd within = tt
within_later last last' le (rec.Relcnf plan) within = tt
