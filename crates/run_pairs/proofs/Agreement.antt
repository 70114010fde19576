-- The master and each secondary node agree, in each run in which the node can take what comes first to it.
use Rattle.std.proofs.Common.{ℕ, ◌≡◌, ◌==◌, Bool, true, false, List, [], ◌∷◌, Option, refl, sym, ap, subst, ◌∙◌, inl, inr}
use Rattle.std.specs.Prelude.{filter, if◌then◌else◌, ◌||◌}
use Rattle.std.specs.List.{AllByRecursion, list_any}
use Rattle.std.proofs.lemmas.Bool.{eq-eqb}
use Rattle.dc_base.specs.Nodes.{is_secondary}
use Rattle.dc_base.specs.declared.events.Event.{Event}
use Rattle.dc_base.specs.declared.events.Header.{Header}
use Rattle.dc_base.specs.declared.nodes.Node.{Node}
use Rattle.dc_base.specs.declared.nodes.Node.TheVariants.{A, B, M, T}
use Rattle.dc_base.specs.declared.nodes.Want.{Want}
use Rattle.dc_base.specs.declared.records.Plan.{Plan}
use Rattle.dc_base.specs.declared.records.Rec.{Rec}
use Rattle.dc_base.specs.declared.records.Rec.TheVariants as rec
use Rattle.node_rules.specs.Choices.{Choices}
use Rattle.node_rules.specs.Places.{is_at}
use Rattle.node_rules.specs.Run.{world_after}
use Rattle.node_rules.specs.World.{World, new_world}
use Rattle.node_rules.specs.declared.commands.First.{First}
use Rattle.node_rules.specs.declared.commands.First.TheVariants.{Addition as addition, Modification as modification, Release as release}
use Rattle.node_rules.specs.declared.commands.Membership.{Membership}
use Rattle.run_control.specs.Claims.{Agrees, AreAnswers, IsFirst, IsLine, Stand, agrees, asks, goes_on, is_agreement, is_rejection, membership_by, refuses, rests, second_at}
use Rattle.run_control.specs.Links.{records_on}
use Rattle.run_control.specs.Rows.{Reads, is_request, membership_after, wanted_after}
use Rattle.run_control.specs.SecondControl.{bare_record}
use Rattle.run_control.specs.Sound.{AreSound}
use Rattle.run_control.proofs.Records.{bare_records}
use Rattle.run_pairs.specs.Pairs.{IsAskingLine, IsLineOf, acknowledge, is_asked_in, is_notice, is_reply, is_word, rejection, reply, words}
use Rattle.run_pairs.proofs.Lines.{notice_plain}
use Rattle.run_pairs.proofs.Runs.{ArePaired, LinePaired, paired_always}
use Rattle.run_pairs.proofs.SecondWords.{bare_row}

-- ---- with what the records say of the traffic

bare_member : (m : Membership) (r : Rec) → membership_after (bare_record r) m ≡ membership_after r m
bare_member m (rec.Reconf plan key) = refl
bare_member m (rec.Rcomp g) = refl
bare_member m (rec.Scgf failed) = refl
bare_member m (rec.Recov id) = refl
bare_member m (rec.Recovd id) = refl
bare_member m (rec.Addreq plan key) = refl
bare_member m (rec.Addack g) = refl
bare_member m (rec.Addrej g) = refl
bare_member m (rec.Modreq plan key) = refl
bare_member m (rec.Modack g) = refl
bare_member m (rec.Modrej g) = refl
bare_member m (rec.Recfg g) = refl
bare_member m (rec.Relreq plan) = refl
bare_member m (rec.Relack g) = refl
bare_member m (rec.Relrej g) = refl
bare_member m (rec.Uecr g) = refl
bare_member m (rec.Snst status) = refl
bare_member m (rec.Moved g id) = refl
bare_member m (rec.Scgn id g) = refl
bare_member m rec.Modrqd = refl
bare_member m (rec.Modcnf g) = refl
bare_member m (rec.Modref word) = refl
bare_member m rec.Chgrqd = refl
bare_member m (rec.Chgcnf plan) = refl
bare_member m (rec.Chgref word) = refl
bare_member m rec.Relrqd = refl
bare_member m (rec.Relcnf plan) = refl

bare_wanted : (w : Option Want) (r : Rec) → wanted_after (bare_record r) w ≡ wanted_after r w
bare_wanted w (rec.Reconf plan key) = refl
bare_wanted w (rec.Rcomp g) = refl
bare_wanted w (rec.Scgf failed) = refl
bare_wanted w (rec.Recov id) = refl
bare_wanted w (rec.Recovd id) = refl
bare_wanted w (rec.Addreq plan key) = refl
bare_wanted w (rec.Addack g) = refl
bare_wanted w (rec.Addrej g) = refl
bare_wanted w (rec.Modreq plan key) = refl
bare_wanted w (rec.Modack g) = refl
bare_wanted w (rec.Modrej g) = refl
bare_wanted w (rec.Recfg g) = refl
bare_wanted w (rec.Relreq plan) = refl
bare_wanted w (rec.Relack g) = refl
bare_wanted w (rec.Relrej g) = refl
bare_wanted w (rec.Uecr g) = refl
bare_wanted w (rec.Snst status) = refl
bare_wanted w (rec.Moved g id) = refl
bare_wanted w (rec.Scgn id g) = refl
bare_wanted w rec.Modrqd = refl
bare_wanted w (rec.Modcnf g) = refl
bare_wanted w (rec.Modref word) = refl
bare_wanted w rec.Chgrqd = refl
bare_wanted w (rec.Chgcnf plan) = refl
bare_wanted w (rec.Chgref word) = refl
bare_wanted w rec.Relrqd = refl
bare_wanted w (rec.Relcnf plan) = refl

bare_request : (r : Rec) → is_request (bare_record r) ≡ is_request r
bare_request (rec.Reconf plan key) = refl
bare_request (rec.Rcomp g) = refl
bare_request (rec.Scgf failed) = refl
bare_request (rec.Recov id) = refl
bare_request (rec.Recovd id) = refl
bare_request (rec.Addreq plan key) = refl
bare_request (rec.Addack g) = refl
bare_request (rec.Addrej g) = refl
bare_request (rec.Modreq plan key) = refl
bare_request (rec.Modack g) = refl
bare_request (rec.Modrej g) = refl
bare_request (rec.Recfg g) = refl
bare_request (rec.Relreq plan) = refl
bare_request (rec.Relack g) = refl
bare_request (rec.Relrej g) = refl
bare_request (rec.Uecr g) = refl
bare_request (rec.Snst status) = refl
bare_request (rec.Moved g id) = refl
bare_request (rec.Scgn id g) = refl
bare_request rec.Modrqd = refl
bare_request (rec.Modcnf g) = refl
bare_request (rec.Modref word) = refl
bare_request rec.Chgrqd = refl
bare_request (rec.Chgcnf plan) = refl
bare_request (rec.Chgref word) = refl
bare_request rec.Relrqd = refl
bare_request (rec.Relcnf plan) = refl

bare_first : (f : First) (p : Plan) (r : Rec) → IsFirst f p (bare_record r) → IsFirst f p r
bare_first f p (rec.Reconf plan key) is = is
bare_first f p (rec.Rcomp g) is = is
bare_first f p (rec.Scgf failed) is = is
bare_first f p (rec.Recov id) is = is
bare_first f p (rec.Recovd id) is = is
bare_first f p (rec.Addreq plan key) is = is
bare_first f p (rec.Addack g) is = is
bare_first f p (rec.Addrej g) is = is
bare_first f p (rec.Modreq plan key) is = is
bare_first f p (rec.Modack g) is = is
bare_first f p (rec.Modrej g) is = is
bare_first f p (rec.Recfg g) is = is
bare_first f p (rec.Relreq plan) is = is
bare_first f p (rec.Relack g) is = is
bare_first f p (rec.Relrej g) is = is
bare_first f p (rec.Uecr g) is = is
bare_first addition p (rec.Snst status) is = absurd is
bare_first modification p (rec.Snst status) is = absurd is
bare_first release p (rec.Snst status) is = absurd is
bare_first f p (rec.Moved g id) is = is
bare_first f p (rec.Scgn id g) is = is
bare_first f p rec.Modrqd is = is
bare_first f p (rec.Modcnf g) is = is
bare_first f p (rec.Modref word) is = is
bare_first f p rec.Chgrqd is = is
bare_first f p (rec.Chgcnf plan) is = is
bare_first f p (rec.Chgref word) is = is
bare_first f p rec.Relrqd is = is
bare_first f p (rec.Relcnf plan) is = is

reads_whole : (m : Membership) (w : Option Want) (rs : List Rec) (m' : Membership) (w' : Option Want) → Reads m w (bare_records rs) m' w' → Reads m w rs m' w'
reads_whole m w [] m' w' reads = reads
reads_whole m w (r ∷ rs) m' w' reads = (
  sym (bare_row m w r) ∙ reads.0,
  reads_whole (membership_after r m) (wanted_after r w) rs m' w'
      (subst (λ n. Reads n (wanted_after r w) (bare_records rs) m' w') (bare_member m r) (subst (λ z. Reads (membership_after (bare_record r) m) z (bare_records rs) m' w') (bare_wanted w r) reads.1)),
)

-- ---- the line to the node

no_requests : (rs : List Rec) → AllByRecursion (λ r. is_request r ≡ false) (bare_records rs) → filter is_request rs ≡ []
no_requests [] all = refl
no_requests (r ∷ rs) all = ap (λ b. if b then r ∷ filter is_request rs else filter is_request rs) (sym (bare_request r) ∙ all.0) ∙ no_requests rs all.1

notices_none : (rs : List Rec) → AllByRecursion (λ r. is_notice r ≡ true) (bare_records rs) → filter is_request rs ≡ []
notices_none [] all = refl
notices_none (r ∷ rs) all = ap (λ b. if b then r ∷ filter is_request rs else filter is_request rs) (sym (bare_request r) ∙ notice_plain (bare_record r) all.0) ∙ notices_none rs all.1

asking_whole : (f : First) (p : Plan) (rs : List Rec) → IsAskingLine f p (bare_records rs) → IsLine (asks f p) rs
asking_whole f p [] line = absurd line
asking_whole f p (r ∷ rs) (inl here) =
    (r, ap (λ b. if b then r ∷ filter is_request rs else filter is_request rs) (sym (bare_request r) ∙ here.0) ∙ ap (λ zs. r ∷ zs) (notices_none rs here.2), bare_first f p r here.1)
asking_whole f p (r ∷ rs) (inr later) =
    let rest = asking_whole f p rs later.2 in
    (rest.0, ap (λ b. if b then r ∷ filter is_request rs else filter is_request rs) (sym (bare_request r) ∙ later.0) ∙ rest.1, rest.2)

line_whole : (s : Stand) (rs : List Rec) → IsLineOf s (bare_records rs) → IsLine s rs
line_whole rests rs line = no_requests rs line
line_whole (asks f p) rs line = asking_whole f p rs line
line_whole (refuses f p) rs line = notices_none rs line
line_whole (agrees f p) rs line = notices_none rs line
line_whole (goes_on l) rs line = no_requests rs line

-- ---- the line from it

-- a record of this kind is a reply, and says nothing of the traffic
pub record IsOfReply (test : Rec → Bool) (s : Stand) (r : Rec) : Type 0 where
  pub same : test (bare_record r) ≡ test r
  pub counts : test r ≡ true → (is_word (bare_record r) ≡ true) × (is_reply s (bare_record r) ≡ true) × (bare_record r ≡ r)

-- the replies among records
abbrev replies_in : Stand → List Rec → List Rec
replies_in s rs = filter (is_reply s) (words (bare_records rs))

-- with one in front
replies_cons : (s : Stand) (r : Rec) (rs : List Rec) (b d : Bool) → is_word (bare_record r) ≡ b → is_reply s (bare_record r) ≡ d → replies_in s (r ∷ rs) ≡ (if b then (if d then bare_record r ∷ replies_in s rs else replies_in s rs) else replies_in s rs)
replies_cons s r rs true d word' is =
    ap (λ c. filter (is_reply s) (if c then bare_record r ∷ words (bare_records rs) else words (bare_records rs))) word' ∙ ap (λ c. if c then bare_record r ∷ replies_in s rs else replies_in s rs) is
replies_cons s r rs false d word' is = ap (λ c. filter (is_reply s) (if c then bare_record r ∷ words (bare_records rs) else words (bare_records rs))) word'

module _ (test : Rec → Bool) (s : Stand) (each : (r : Rec) → IsOfReply test s r) where
  test_cons : (r : Rec) (zs : List Rec) (b : Bool) → test r ≡ b → filter test (r ∷ zs) ≡ (if b then r ∷ filter test zs else filter test zs)
  test_cons r zs b is = ap (λ c. if c then r ∷ filter test zs else filter test zs) is

  -- where it does not count
  passed_over : (r : Rec) (rs : List Rec) (b d : Bool) → test (bare_record r) ≡ false → filter test (if b then (if d then bare_record r ∷ replies_in s rs else replies_in s rs) else replies_in s rs) ≡ filter test (replies_in s rs)
  passed_over r rs true true none = test_cons (bare_record r) (replies_in s rs) false none
  passed_over r rs true false none = refl
  passed_over r rs false d none = refl

  -- those of this kind are those among the replies
  pub kept_replies : (rs : List Rec) → filter test rs ≡ filter test (replies_in s rs)
  kept_replies [] = refl
  kept_replies (r ∷ rs) = by (kept_replies rs) (test r) refl
    where
      by : filter test rs ≡ filter test (replies_in s rs) → (b : Bool) → test r ≡ b → filter test (r ∷ rs) ≡ filter test (replies_in s (r ∷ rs))
      by more true is =
          let at = (each r).counts is in
          test_cons r rs true is
          ∙ ap (λ zs. r ∷ zs) more
          ∙ sym (test_cons r (replies_in s rs) true is)
          ∙ ap (λ z. filter test (z ∷ replies_in s rs)) (sym at.2)
          ∙ ap (filter test) (sym (replies_cons s r rs true true at.0 at.1))
      by more false is =
          test_cons r rs false is
          ∙ more
          ∙ sym (passed_over r rs (is_word (bare_record r)) (is_reply s (bare_record r)) ((each r).same ∙ is))
          ∙ ap (filter test) (sym (replies_cons s r rs (is_word (bare_record r)) (is_reply s (bare_record r)) refl refl))

any_none : (test : Rec → Bool) (rs : List Rec) → filter test rs ≡ [] → list_any test rs ≡ false
any_none test [] none = refl
any_none test (r ∷ rs) none = by (test r) none (λ rest. any_none test rs rest)
  where
    by : (b : Bool) → (if b then r ∷ filter test rs else filter test rs) ≡ [] → (filter test rs ≡ [] → list_any test rs ≡ false) → (b || list_any test rs) ≡ false
    by true is more = absurd cc
    by false is more = more is

-- ---- acknowledges and rejections

agreement_reply : (s : Stand) (g : ℕ) → ((h : ℕ) → is_asked_in s h ≡ (h == g)) → (r : Rec) → IsOfReply (is_agreement g) s r
agreement_reply s g asked' (rec.Reconf plan key) = record { same = refl; counts = λ is. absurd cc }
agreement_reply s g asked' (rec.Rcomp h) = record { same = refl; counts = λ is. absurd cc }
agreement_reply s g asked' (rec.Scgf failed) = record { same = refl; counts = λ is. absurd cc }
agreement_reply s g asked' (rec.Recov id) = record { same = refl; counts = λ is. absurd cc }
agreement_reply s g asked' (rec.Recovd id) = record { same = refl; counts = λ is. absurd cc }
agreement_reply s g asked' (rec.Addreq plan key) = record { same = refl; counts = λ is. absurd cc }
agreement_reply s g asked' (rec.Addack h) = record { same = refl; counts = λ is. (refl, refl, refl) }
agreement_reply s g asked' (rec.Addrej h) = record { same = refl; counts = λ is. absurd cc }
agreement_reply s g asked' (rec.Modreq plan key) = record { same = refl; counts = λ is. absurd cc }
agreement_reply s g asked' (rec.Modack h) = record { same = refl; counts = λ is. (refl, refl, refl) }
agreement_reply s g asked' (rec.Modrej h) = record { same = refl; counts = λ is. absurd cc }
agreement_reply s g asked' (rec.Recfg h) = record { same = refl; counts = λ is. absurd cc }
agreement_reply s g asked' (rec.Relreq plan) = record { same = refl; counts = λ is. absurd cc }
agreement_reply s g asked' (rec.Relack h) = record { same = refl; counts = λ is. (refl, asked' h ∙ is, refl) }
agreement_reply s g asked' (rec.Relrej h) = record { same = refl; counts = λ is. absurd cc }
agreement_reply s g asked' (rec.Uecr h) = record { same = refl; counts = λ is. absurd cc }
agreement_reply s g asked' (rec.Snst status) = record { same = refl; counts = λ is. absurd cc }
agreement_reply s g asked' (rec.Moved h id) = record { same = refl; counts = λ is. absurd cc }
agreement_reply s g asked' (rec.Scgn id h) = record { same = refl; counts = λ is. absurd cc }
agreement_reply s g asked' rec.Modrqd = record { same = refl; counts = λ is. absurd cc }
agreement_reply s g asked' (rec.Modcnf h) = record { same = refl; counts = λ is. absurd cc }
agreement_reply s g asked' (rec.Modref word) = record { same = refl; counts = λ is. absurd cc }
agreement_reply s g asked' rec.Chgrqd = record { same = refl; counts = λ is. absurd cc }
agreement_reply s g asked' (rec.Chgcnf plan) = record { same = refl; counts = λ is. absurd cc }
agreement_reply s g asked' (rec.Chgref word) = record { same = refl; counts = λ is. absurd cc }
agreement_reply s g asked' rec.Relrqd = record { same = refl; counts = λ is. absurd cc }
agreement_reply s g asked' (rec.Relcnf plan) = record { same = refl; counts = λ is. absurd cc }

rejection_reply : (s : Stand) (g : ℕ) (r : Rec) → IsOfReply (is_rejection g) s r
rejection_reply s g (rec.Reconf plan key) = record { same = refl; counts = λ is. absurd cc }
rejection_reply s g (rec.Rcomp h) = record { same = refl; counts = λ is. absurd cc }
rejection_reply s g (rec.Scgf failed) = record { same = refl; counts = λ is. absurd cc }
rejection_reply s g (rec.Recov id) = record { same = refl; counts = λ is. absurd cc }
rejection_reply s g (rec.Recovd id) = record { same = refl; counts = λ is. absurd cc }
rejection_reply s g (rec.Addreq plan key) = record { same = refl; counts = λ is. absurd cc }
rejection_reply s g (rec.Addack h) = record { same = refl; counts = λ is. absurd cc }
rejection_reply s g (rec.Addrej h) = record { same = refl; counts = λ is. (refl, refl, refl) }
rejection_reply s g (rec.Modreq plan key) = record { same = refl; counts = λ is. absurd cc }
rejection_reply s g (rec.Modack h) = record { same = refl; counts = λ is. absurd cc }
rejection_reply s g (rec.Modrej h) = record { same = refl; counts = λ is. (refl, refl, refl) }
rejection_reply s g (rec.Recfg h) = record { same = refl; counts = λ is. absurd cc }
rejection_reply s g (rec.Relreq plan) = record { same = refl; counts = λ is. absurd cc }
rejection_reply s g (rec.Relack h) = record { same = refl; counts = λ is. absurd cc }
rejection_reply s g (rec.Relrej h) = record { same = refl; counts = λ is. (refl, refl, refl) }
rejection_reply s g (rec.Uecr h) = record { same = refl; counts = λ is. absurd cc }
rejection_reply s g (rec.Snst status) = record { same = refl; counts = λ is. absurd cc }
rejection_reply s g (rec.Moved h id) = record { same = refl; counts = λ is. absurd cc }
rejection_reply s g (rec.Scgn id h) = record { same = refl; counts = λ is. absurd cc }
rejection_reply s g rec.Modrqd = record { same = refl; counts = λ is. absurd cc }
rejection_reply s g (rec.Modcnf h) = record { same = refl; counts = λ is. absurd cc }
rejection_reply s g (rec.Modref word) = record { same = refl; counts = λ is. absurd cc }
rejection_reply s g rec.Chgrqd = record { same = refl; counts = λ is. absurd cc }
rejection_reply s g (rec.Chgcnf plan) = record { same = refl; counts = λ is. absurd cc }
rejection_reply s g (rec.Chgref word) = record { same = refl; counts = λ is. absurd cc }
rejection_reply s g rec.Relrqd = record { same = refl; counts = λ is. absurd cc }
rejection_reply s g (rec.Relcnf plan) = record { same = refl; counts = λ is. absurd cc }

-- of the plan itself
own_agreement : (f : First) (g : ℕ) → is_agreement g (acknowledge f g) ≡ true
own_agreement addition g = eq-eqb g g refl
own_agreement modification g = eq-eqb g g refl
own_agreement release g = eq-eqb g g refl

own_rejection : (f : First) (g : ℕ) → is_rejection g (rejection f g) ≡ true
own_rejection addition g = eq-eqb g g refl
own_rejection modification g = eq-eqb g g refl
own_rejection release g = eq-eqb g g refl

no_agreement : (f : First) (g h : ℕ) → is_agreement g (rejection f h) ≡ false
no_agreement addition g h = refl
no_agreement modification g h = refl
no_agreement release g h = refl

no_rejection : (f : First) (g h : ℕ) → is_rejection g (acknowledge f h) ≡ false
no_rejection addition g h = refl
no_rejection modification g h = refl
no_rejection release g h = refl

one_if : (test : Rec → Bool) (r : Rec) (b : Bool) → test r ≡ b → filter test (r ∷ []) ≡ (if b then r ∷ [] else [])
one_if test r b is = ap (λ c. if c then r ∷ [] else []) is

answers_whole : (s : Stand) (rs : List Rec) → replies_in s rs ≡ reply s → AreAnswers s rs
answers_whole rests rs is = tt
answers_whole (goes_on l) rs is = tt
answers_whole (asks f p) rs is = (
  any_none (is_agreement p.g) rs (kept_replies (is_agreement p.g) (asks f p) (agreement_reply (asks f p) p.g (λ h. refl)) rs ∙ ap (filter (is_agreement p.g)) is),
  any_none (is_rejection p.g) rs (kept_replies (is_rejection p.g) (asks f p) (rejection_reply (asks f p) p.g) rs ∙ ap (filter (is_rejection p.g)) is),
)
answers_whole (refuses f p) rs is = (
  any_none (is_agreement p.g) rs
      (kept_replies (is_agreement p.g) (refuses f p) (agreement_reply (refuses f p) p.g (λ h. refl)) rs ∙ ap (filter (is_agreement p.g)) is ∙ one_if (is_agreement p.g) (rejection f p.g) false (no_agreement f p.g p.g)),
  (rejection f p.g, kept_replies (is_rejection p.g) (refuses f p) (rejection_reply (refuses f p) p.g) rs ∙ ap (filter (is_rejection p.g)) is ∙ one_if (is_rejection p.g) (rejection f p.g) true (own_rejection f p.g)),
)
answers_whole (agrees f p) rs is = (
  (
    acknowledge f p.g,
    kept_replies (is_agreement p.g) (agrees f p) (agreement_reply (agrees f p) p.g (λ h. refl)) rs ∙ ap (filter (is_agreement p.g)) is ∙ one_if (is_agreement p.g) (acknowledge f p.g) true (own_agreement f p.g),
  ),
  any_none (is_rejection p.g) rs
      (kept_replies (is_rejection p.g) (agrees f p) (rejection_reply (agrees f p) p.g) rs ∙ ap (filter (is_rejection p.g)) is ∙ one_if (is_rejection p.g) (acknowledge f p.g) false (no_rejection f p.g p.g)),
)

-- ---- agreement

-- a pair agrees
pub agrees_of : (w : World) (x : Node) → LinePaired w x → Agrees w x
agrees_of w x pair = record {
  stand = pair.stand;
  stands = pair.stands;
  wants = pair.pair.wants;
  reads = reads_whole (second_at x w).proc.membership (second_at x w).proc.want (records_on M x w) (membership_by (is_at x w.master.proc.table.sec) pair.stand) pair.pair.wants pair.pair.reads;
  line = line_whole pair.stand (records_on M x w) pair.pair.line;
  answers = answers_whole pair.stand (records_on x M w) pair.pair.answers;
}

both_agree : (w : World) (x : Node) → is_secondary x ≡ true → ArePaired w → Agrees w x
both_agree w T second paired = absurd cc
both_agree w M second paired = absurd cc
both_agree w A second paired = agrees_of w A paired.a
both_agree w B second paired = agrees_of w B paired.b

-- in each run the master and each secondary node agree
pub agrees_always : (c : Choices) (h : Header) (es : List Event) → AreSound es → (x : Node) → is_secondary x ≡ true → Agrees (world_after c (new_world h) es) x
agrees_always c h es sound x second = both_agree (world_after c (new_world h) es) x second (paired_always c h es sound)
