-- What a pair says of wants: each stands somewhere.
use Rattle.std.proofs.Common.{◌≡◌, ◌++◌, Bool, true, false, List, [], ◌∷◌, Option, Some, None, refl, sym, ap, subst, ◌∙◌, inl, inr}
use Rattle.std.specs.Prelude.{if◌then◌else◌, ◌||◌, ◌⊎◌}
use Rattle.std.specs.List.{list_any}
use Rattle.dc_base.specs.Nodes.{is_secondary}
use Rattle.dc_base.specs.declared.events.Event.{Event}
use Rattle.dc_base.specs.declared.events.Header.{Header}
use Rattle.dc_base.specs.declared.nodes.Node.{Node}
use Rattle.dc_base.specs.declared.nodes.Node.TheVariants.{A, B, M, T}
use Rattle.dc_base.specs.declared.nodes.Want.{Want}
use Rattle.dc_base.specs.declared.nodes.Want.TheVariants as want
use Rattle.dc_base.specs.declared.records.Rec.{Rec}
use Rattle.dc_base.specs.declared.records.Rec.TheVariants as rec
use Rattle.node_rules.specs.Choices.{Choices}
use Rattle.node_rules.specs.MasterState.{waits_at}
use Rattle.node_rules.specs.Places.{is_at}
use Rattle.node_rules.specs.Run.{world_after}
use Rattle.node_rules.specs.SecondRecords.{is_wanted}
use Rattle.node_rules.specs.World.{World, new_world}
use Rattle.node_rules.specs.declared.commands.Membership.{Membership}
use Rattle.run_control.specs.Claims.{membership_by, second_at}
use Rattle.run_control.specs.Links.{records_on}
use Rattle.run_control.specs.Rows.{Reads, has_row, membership_after, wanted_after}
use Rattle.run_control.specs.SecondControl.{bare_record}
use Rattle.run_control.specs.Sound.{AreSound}
use Rattle.run_control.proofs.Records.{bare_records}
use Rattle.run_pairs.specs.Pairs.{asked_for, begun_for, is_word, waiting_of, wants_in, words}
use Rattle.run_control.specs.Wants.{is_answer_to, is_request_for}
use Rattle.run_pairs.specs.Standing.{WantStands, is_answered, is_begun, is_sent, is_waiting}
use Rattle.run_pairs.proofs.Replies.{lone}
use Rattle.run_pairs.proofs.Runs.{ArePaired, LinePaired, paired_always}

-- ---- answers on the line to the node

or_right : (b d : Bool) → d ≡ true → (b || d) ≡ true
or_right true d is = refl
or_right false d is = is

-- a record that has its row answers the want, or leaves it
answered_or_kept : (a : Want) (m : Membership) (r : Rec) → has_row m (Some a) r ≡ true → (is_answer_to a r ≡ true) ⊎ (wanted_after r (Some a) ≡ Some a)
answered_or_kept a m (rec.Reconf plan key) row = inr refl
answered_or_kept a m (rec.Rcomp g) row = inr refl
answered_or_kept a m (rec.Scgf failed) row = inr refl
answered_or_kept a m (rec.Recov id) row = inr refl
answered_or_kept a m (rec.Recovd id) row = inr refl
answered_or_kept a m (rec.Addreq plan key) row = inr refl
answered_or_kept a m (rec.Addack g) row = inr refl
answered_or_kept a m (rec.Addrej g) row = inr refl
answered_or_kept a m (rec.Modreq plan key) row = inr refl
answered_or_kept a m (rec.Modack g) row = inr refl
answered_or_kept a m (rec.Modrej g) row = inr refl
answered_or_kept a m (rec.Recfg g) row = inr refl
answered_or_kept a m (rec.Relreq plan) row = inr refl
answered_or_kept a m (rec.Relack g) row = inr refl
answered_or_kept a m (rec.Relrej g) row = inr refl
answered_or_kept a m (rec.Uecr g) row = inr refl
answered_or_kept a m (rec.Snst status) row = inr refl
answered_or_kept a m (rec.Moved g id) row = inr refl
answered_or_kept a m (rec.Scgn id g) row = inr refl
answered_or_kept a m rec.Modrqd row = inr refl
answered_or_kept want.Rekey m (rec.Modcnf g) row = inl refl
answered_or_kept want.Change m (rec.Modcnf g) row = absurd cc
answered_or_kept want.Release m (rec.Modcnf g) row = absurd cc
answered_or_kept want.Rekey m (rec.Modref word) row = inl refl
answered_or_kept want.Change m (rec.Modref word) row = absurd cc
answered_or_kept want.Release m (rec.Modref word) row = absurd cc
answered_or_kept a m rec.Chgrqd row = inr refl
answered_or_kept want.Rekey m (rec.Chgcnf plan) row = absurd cc
answered_or_kept want.Change m (rec.Chgcnf plan) row = inl refl
answered_or_kept want.Release m (rec.Chgcnf plan) row = absurd cc
answered_or_kept want.Rekey m (rec.Chgref word) row = absurd cc
answered_or_kept want.Change m (rec.Chgref word) row = inl refl
answered_or_kept want.Release m (rec.Chgref word) row = absurd cc
answered_or_kept a m rec.Relrqd row = inr refl
answered_or_kept want.Rekey m (rec.Relcnf plan) row = absurd cc
answered_or_kept want.Change m (rec.Relcnf plan) row = absurd cc
answered_or_kept want.Release m (rec.Relcnf plan) row = inl refl

answered_on : (a : Want) (m : Membership) (down : List Rec) (m' : Membership) (w : Option Want) → Reads m (Some a) down m' w → (list_any (is_answer_to a) down ≡ true) ⊎ (w ≡ Some a)
answered_on a m [] m' w reads = inr (sym reads.1)
answered_on a m (r ∷ down) m' w reads =
    by (answered_or_kept a m r reads.0) (λ kept. answered_on a (membership_after r m) down m' w (subst (λ z. Reads (membership_after r m) z down m' w) kept reads.1))
  where
    by : (is_answer_to a r ≡ true) ⊎ (wanted_after r (Some a) ≡ Some a) → (wanted_after r (Some a) ≡ Some a → (list_any (is_answer_to a) down ≡ true) ⊎ (w ≡ Some a)) → (list_any (is_answer_to a) (r ∷ down) ≡ true) ⊎ (w ≡ Some a)
    by (inl answers) more = inl (ap (λ b. b || list_any (is_answer_to a) down) answers)
    by (inr kept) more = later (more kept)
      where
        later : (list_any (is_answer_to a) down ≡ true) ⊎ (w ≡ Some a) → (list_any (is_answer_to a) (r ∷ down) ≡ true) ⊎ (w ≡ Some a)
        later (inl there) = inl (or_right (is_answer_to a r) (list_any (is_answer_to a) down) there)
        later (inr same) = inr same

-- ---- requests on the line from it

wanted_itself : (a : Want) → is_wanted a (Some a) ≡ true
wanted_itself want.Rekey = refl
wanted_itself want.Change = refl
wanted_itself want.Release = refl

want_in : {k a : Want} {zs : List Want} → k ∷ zs ≡ a ∷ [] → a ≡ k
want_in {k} {a} {zs} e = some_in (lone k zs (Some a) e).1
  where
    the : Option Want → Want
    the None = k
    the (Some z) = z

    some_in : Some a ≡ Some k → a ≡ k
    some_in e = ap the e

request_first : (a k : Want) → a ≡ k → is_wanted a (Some k) ≡ true
request_first a k same = subst (λ z. is_wanted a (Some z) ≡ true) same (wanted_itself a)

requested : (a : Want) (up : List Rec) → asked_for up ≡ a ∷ [] → list_any (is_request_for a) up ≡ true
requested a [] e = absurd cc
requested a ((rec.Reconf plan key) ∷ up) e = requested a up e
requested a ((rec.Rcomp g) ∷ up) e = requested a up e
requested a ((rec.Scgf failed) ∷ up) e = requested a up e
requested a ((rec.Recov id) ∷ up) e = requested a up e
requested a ((rec.Recovd id) ∷ up) e = requested a up e
requested a ((rec.Addreq plan key) ∷ up) e = requested a up e
requested a ((rec.Addack g) ∷ up) e = requested a up e
requested a ((rec.Addrej g) ∷ up) e = requested a up e
requested a ((rec.Modreq plan key) ∷ up) e = requested a up e
requested a ((rec.Modack g) ∷ up) e = requested a up e
requested a ((rec.Modrej g) ∷ up) e = requested a up e
requested a ((rec.Recfg g) ∷ up) e = requested a up e
requested a ((rec.Relreq plan) ∷ up) e = requested a up e
requested a ((rec.Relack g) ∷ up) e = requested a up e
requested a ((rec.Relrej g) ∷ up) e = requested a up e
requested a ((rec.Uecr g) ∷ up) e = requested a up e
requested a ((rec.Snst status) ∷ up) e = requested a up e
requested a ((rec.Moved g id) ∷ up) e = requested a up e
requested a ((rec.Scgn id g) ∷ up) e = requested a up e
requested a (rec.Modrqd ∷ up) e = ap (λ b. b || list_any (is_request_for a) up) (request_first a want.Rekey (want_in e))
requested a ((rec.Modcnf g) ∷ up) e = requested a up e
requested a ((rec.Modref word) ∷ up) e = requested a up e
requested a (rec.Chgrqd ∷ up) e = ap (λ b. b || list_any (is_request_for a) up) (request_first a want.Change (want_in e))
requested a ((rec.Chgcnf plan) ∷ up) e = requested a up e
requested a ((rec.Chgref word) ∷ up) e = requested a up e
requested a (rec.Relrqd ∷ up) e = ap (λ b. b || list_any (is_request_for a) up) (request_first a want.Release (want_in e))
requested a ((rec.Relcnf plan) ∷ up) e = requested a up e

-- with the records that are no words
bare_answer : (a : Want) (r : Rec) → is_answer_to a (bare_record r) ≡ is_answer_to a r
bare_answer a (rec.Reconf plan key) = refl
bare_answer a (rec.Rcomp g) = refl
bare_answer a (rec.Scgf failed) = refl
bare_answer a (rec.Recov id) = refl
bare_answer a (rec.Recovd id) = refl
bare_answer a (rec.Addreq plan key) = refl
bare_answer a (rec.Addack g) = refl
bare_answer a (rec.Addrej g) = refl
bare_answer a (rec.Modreq plan key) = refl
bare_answer a (rec.Modack g) = refl
bare_answer a (rec.Modrej g) = refl
bare_answer a (rec.Recfg g) = refl
bare_answer a (rec.Relreq plan) = refl
bare_answer a (rec.Relack g) = refl
bare_answer a (rec.Relrej g) = refl
bare_answer a (rec.Uecr g) = refl
bare_answer a (rec.Snst status) = refl
bare_answer a (rec.Moved g id) = refl
bare_answer a (rec.Scgn id g) = refl
bare_answer a rec.Modrqd = refl
bare_answer a (rec.Modcnf g) = refl
bare_answer a (rec.Modref word) = refl
bare_answer a rec.Chgrqd = refl
bare_answer a (rec.Chgcnf plan) = refl
bare_answer a (rec.Chgref word) = refl
bare_answer a rec.Relrqd = refl
bare_answer a (rec.Relcnf plan) = refl

bare_requested : (a : Want) (r : Rec) → is_request_for a (bare_record r) ≡ is_request_for a r
bare_requested a (rec.Reconf plan key) = refl
bare_requested a (rec.Rcomp g) = refl
bare_requested a (rec.Scgf failed) = refl
bare_requested a (rec.Recov id) = refl
bare_requested a (rec.Recovd id) = refl
bare_requested a (rec.Addreq plan key) = refl
bare_requested a (rec.Addack g) = refl
bare_requested a (rec.Addrej g) = refl
bare_requested a (rec.Modreq plan key) = refl
bare_requested a (rec.Modack g) = refl
bare_requested a (rec.Modrej g) = refl
bare_requested a (rec.Recfg g) = refl
bare_requested a (rec.Relreq plan) = refl
bare_requested a (rec.Relack g) = refl
bare_requested a (rec.Relrej g) = refl
bare_requested a (rec.Uecr g) = refl
bare_requested a (rec.Snst status) = refl
bare_requested a (rec.Moved g id) = refl
bare_requested a (rec.Scgn id g) = refl
bare_requested a rec.Modrqd = refl
bare_requested a (rec.Modcnf g) = refl
bare_requested a (rec.Modref word) = refl
bare_requested a rec.Chgrqd = refl
bare_requested a (rec.Chgcnf plan) = refl
bare_requested a (rec.Chgref word) = refl
bare_requested a rec.Relrqd = refl
bare_requested a (rec.Relcnf plan) = refl

any_bare : (test : Rec → Bool) → ((r : Rec) → test (bare_record r) ≡ test r) → (rs : List Rec) → list_any test (bare_records rs) ≡ list_any test rs
any_bare test same [] = refl
any_bare test same (r ∷ rs) = ap (λ b. b || list_any test (bare_records rs)) (same r) ∙ ap (λ b. test r || b) (any_bare test same rs)

any_word : (test : Rec → Bool) (rs : List Rec) → list_any test (words rs) ≡ true → list_any test rs ≡ true
any_word test [] there = there
any_word test (r ∷ rs) there = by (is_word r) there (λ more. any_word test rs more)
  where
    by : (b : Bool) → list_any test (if b then r ∷ words rs else words rs) ≡ true → (list_any test (words rs) ≡ true → list_any test rs ≡ true) → (test r || list_any test rs) ≡ true
    by true is more = one (test r) is more
      where
        one : (d : Bool) → (d || list_any test (words rs)) ≡ true → (list_any test (words rs) ≡ true → list_any test rs ≡ true) → (d || list_any test rs) ≡ true
        one true is more = refl
        one false is more = more is
    by false is more = or_right (test r) (list_any test rs) (more is)

-- ---- a want stands somewhere

-- what is owed is a release that waits, or what the command was begun for, or it was just asked for
owed_somewhere : (w : World) (x : Node) (a : Want) (b : Bool) → waits_at w.master.proc x ≡ b → (begun : List Want) → begun_for x w.master.proc.command ≡ begun → (up : List Rec) → (waiting_of b ++ begun) ++ asked_for up ≡ a ∷ []
    → (list_any (is_request_for a) up ≡ true → WantStands w x a) → WantStands w x a
owed_somewhere w x a true waits begun is up owes sent = is_waiting (want_in owes) waits
owed_somewhere w x a false waits [] is up owes sent = sent (requested a up owes)
owed_somewhere w x a false waits (k ∷ ks) is up owes sent = is_begun (is ∙ alone ks (want_in owes) (lone k (ks ++ asked_for up) (Some a) owes).0)
  where
    alone : (zs : List Want) → a ≡ k → zs ++ asked_for up ≡ [] → k ∷ zs ≡ a ∷ []
    alone [] same none = ap (λ z. z ∷ []) (sym same)
    alone (z ∷ zs) same none = absurd cc

pub want_stands : (w : World) (x : Node) → LinePaired w x → (a : Want) → (second_at x w).proc.want ≡ Some a → WantStands w x a
want_stands w x paired a asks' =
    let after = membership_by (is_at x w.master.proc.table.sec) paired.stand in
    by (answered_on a (second_at x w).proc.membership (bare_records (records_on M x w)) after paired.pair.wants (subst (λ z. Reads (second_at x w).proc.membership z (bare_records (records_on M x w)) after paired.pair.wants) asks' paired.pair.reads))
  where
    by : (list_any (is_answer_to a) (bare_records (records_on M x w)) ≡ true) ⊎ (paired.pair.wants ≡ Some a) → WantStands w x a
    by (inl there) = is_answered (sym (any_bare (is_answer_to a) (bare_answer a) (records_on M x w)) ∙ there)
    by (inr same) =
        owed_somewhere w x a (waits_at w.master.proc x) refl (begun_for x w.master.proc.command) refl (words (bare_records (records_on x M w))) (paired.pair.owes ∙ ap wants_in same)
        (λ there. is_sent (sym (any_bare (is_request_for a) (bare_requested a) (records_on x M w)) ∙ any_word (is_request_for a) (bare_records (records_on x M w)) there))

-- ---- in a run

-- that of a secondary node
pub either_paired : (w : World) (x : Node) → is_secondary x ≡ true → ArePaired w → LinePaired w x
either_paired w T second paired = absurd cc
either_paired w M second paired = absurd cc
either_paired w A second paired = paired.a
either_paired w B second paired = paired.b

-- in each run each want stands somewhere
pub wants_always : (c : Choices) (h : Header) (es : List Event) → AreSound es → (x : Node) → is_secondary x ≡ true
    → (let w = world_after c (new_world h) es in (a : Want) → (second_at x w).proc.want ≡ Some a → WantStands w x a)
wants_always c h es sound x second = want_stands (world_after c (new_world h) es) x (either_paired (world_after c (new_world h) es) x second (paired_always c h es sound))
