-- The pair of the master and a secondary node, as the node takes what comes first to it, and as it acts on its own.
use Rattle.std.proofs.Common.{ℕ, ◌≡◌, ◌≤◌, ◌++◌, ◌==◌, Bool, true, false, List, [], ◌∷◌, Option, Some, None, refl, sym, ap, subst, ◌∙◌, inl, inr, append_assoc}
use Rattle.std.specs.Prelude.{filter, if◌then◌else◌, not}
use Rattle.std.specs.List.{AllByRecursion}
use Rattle.std.proofs.lemmas.Bool.{eq-eqb}
use Rattle.std.proofs.lemmas.List.{append-nil}
use Rattle.std.proofs.lemmas.List.Elements.{filter-append}
use Rattle.std.proofs.lemmas.Grind.{flat_map-append}
use Rattle.dc_base.specs.declared.nodes.Node.{Node}
use Rattle.dc_base.specs.declared.nodes.Want.{Want}
use Rattle.dc_base.specs.declared.nodes.Want.TheVariants as want
use Rattle.dc_base.specs.declared.records.Plan.{Plan}
use Rattle.dc_base.specs.declared.records.Rec.{Rec}
use Rattle.dc_base.specs.declared.records.Rec.TheVariants as rec
use Rattle.transcript.proofs.OnEach.{each_append}
use Rattle.node_rules.specs.MasterState.{MasterProc}
use Rattle.node_rules.specs.SecondState.{request}
use Rattle.node_rules.specs.Places.{is_at}
use Rattle.node_rules.specs.declared.commands.Command.{Command}
use Rattle.node_rules.specs.declared.commands.Command.TheVariants.{Asked as asked, Gone as gone, Recovering as recovering}
use Rattle.node_rules.specs.declared.commands.First.{First}
use Rattle.node_rules.specs.declared.commands.First.TheVariants.{Addition as addition, Modification as modification, Release as release}
use Rattle.node_rules.specs.declared.commands.Membership.{Membership}
use Rattle.run_control.specs.Claims.{IsFirst, IsStandOf, Stand, agreed_membership, agrees, asks, goes_on, membership_by, membership_if, refuses, rests}
use Rattle.run_control.specs.SecondControl.{Views}
use Rattle.run_pairs.specs.Fits.{AreFitting, bearing_by}
use Rattle.run_control.specs.Rows.{Reads, is_outside, is_request, membership_after, wanted_after}
use Rattle.run_control.proofs.Turns.{never}
use Rattle.run_pairs.specs.Pairs.{IsLineOf, IsPair, IsWithin, Standing, acknowledge, asked_for, asks_of, is_before, is_notice, is_reply, rejection, standing, wants_in, words}
use Rattle.run_pairs.proofs.Lines.{notice_plain, notices_read, reads_with, request_still, request_wants}
use Rattle.run_pairs.proofs.Serving.{acknowledged}

-- ---- what comes first is no request

-- the rest of the line is as it was
line_rest : (s : Stand) (r : Rec) (down : List Rec) → is_request r ≡ false → IsLineOf s (r ∷ down) → IsLineOf s down
line_rest rests r down plain line = line.1
line_rest (asks f p) r down plain (inl here) = absurd (never (is_request r) here.0 plain)
line_rest (asks f p) r down plain (inr later) = later.2
line_rest (refuses f p) r down plain line = line.1
line_rest (agrees f p) r down plain line = line.1
line_rest (goes_on l) r down plain line = line.1

other_generation : (b : Bool) → not b ≡ true → b ≡ false
other_generation true is = absurd cc
other_generation false is = refl

-- whatever holds of nothing and of the acknowledge of a release holds of what is acknowledged
acknowledged_by : (P : List Rec → Type 0) (r : Rec) → P [] → ((plan : Plan) → r ≡ rec.Relreq plan → P (rec.Relack plan.g ∷ [])) → P (acknowledged r)
acknowledged_by P (rec.Reconf plan key) none some = none
acknowledged_by P (rec.Rcomp g) none some = none
acknowledged_by P (rec.Scgf failed) none some = none
acknowledged_by P (rec.Recov id) none some = none
acknowledged_by P (rec.Recovd id) none some = none
acknowledged_by P (rec.Addreq plan key) none some = none
acknowledged_by P (rec.Addack g) none some = none
acknowledged_by P (rec.Addrej g) none some = none
acknowledged_by P (rec.Modreq plan key) none some = none
acknowledged_by P (rec.Modack g) none some = none
acknowledged_by P (rec.Modrej g) none some = none
acknowledged_by P (rec.Recfg g) none some = none
acknowledged_by P (rec.Relreq plan) none some = some plan refl
acknowledged_by P (rec.Relack g) none some = none
acknowledged_by P (rec.Relrej g) none some = none
acknowledged_by P (rec.Uecr g) none some = none
acknowledged_by P (rec.Snst status) none some = none
acknowledged_by P (rec.Moved g id) none some = none
acknowledged_by P (rec.Scgn id g) none some = none
acknowledged_by P rec.Modrqd none some = none
acknowledged_by P (rec.Modcnf g) none some = none
acknowledged_by P (rec.Modref word) none some = none
acknowledged_by P rec.Chgrqd none some = none
acknowledged_by P (rec.Chgcnf plan) none some = none
acknowledged_by P (rec.Chgref word) none some = none
acknowledged_by P rec.Relrqd none some = none
acknowledged_by P (rec.Relcnf plan) none some = none

-- the acknowledge of a release by a change replies to nothing that was asked
asked_none : (s : Stand) (r : Rec) (down : List Rec) (plan : Plan) → r ≡ rec.Relreq plan → is_request r ≡ false → IsLineOf s (r ∷ down) → is_reply s (rec.Relack plan.g) ≡ false
asked_none rests r down plan e plain line = refl
asked_none (asks f p) r down plan e plain (inl here) = absurd (never (is_request r) here.0 plain)
asked_none (asks f p) r down plan e plain (inr later) = other_generation (plan.g == p.g) (sym (ap (is_before p.g) e) ∙ later.1)
asked_none (refuses f p) r down plan e plain line = never (is_notice r) line.0 (ap is_notice e)
asked_none (agrees f p) r down plan e plain line = never (is_notice r) line.0 (ap is_notice e)
asked_none (goes_on l) r down plan e plain line = refl

-- the words that the node adds to its line
filter_more : (s : Stand) (up more : List Rec) (rs : List Rec) → filter (is_reply s) up ≡ rs → filter (is_reply s) more ≡ [] → filter (is_reply s) (up ++ more) ≡ rs
filter_more s up more rs is none = filter-append (is_reply s) up more ∙ ap (λ zs. filter (is_reply s) up ++ zs) none ∙ append-nil (filter (is_reply s) up) ∙ is

asked_more : (owed : List Want) (up more : List Rec) (ws : List Want) → owed ++ asked_for up ≡ ws → asked_for more ≡ [] → owed ++ asked_for (up ++ more) ≡ ws
asked_more owed up more ws is none = ap (λ zs. owed ++ zs) (flat_map-append asks_of up more ∙ ap (λ zs. asked_for up ++ zs) none ∙ append-nil (asked_for up)) ∙ is

-- a record that is no request is taken as it is read
pub plain_pair : (v : Standing) (m : Membership) (w : Option Want) (r : Rec) (down up : List Rec) → is_request r ≡ false → IsPair v m w (r ∷ down) up → IsPair v (membership_after r m) (wanted_after r w) down (up ++ acknowledged r)
plain_pair v m w r down up plain pair = record {
  wants = pair.wants;
  owes = asked_more v.owed up (acknowledged r) (wants_in pair.wants) pair.owes (acknowledged_by (λ rs. asked_for rs ≡ []) r refl (λ plan e. refl));
  reads = pair.reads.1;
  line = line_rest v.stand r down plain pair.line;
  answers = filter_more v.stand up (acknowledged r) v.replies pair.answers
      (acknowledged_by (λ rs. filter (is_reply v.stand) rs ≡ []) r refl (λ plan e. ap (λ b. if b then rec.Relack plan.g ∷ [] else []) (asked_none v.stand r down plan e plain pair.line)));
  down_within = pair.down_within.1;
  up_within = each_append (IsWithin v.last) up (acknowledged r) pair.up_within (acknowledged_by (AllByRecursion (IsWithin v.last)) r tt (λ plan e. (subst (IsWithin v.last) e pair.down_within.0, tt)));
}

-- ---- what comes first is the request

rejection_replies : (f : First) (p : Plan) → filter (is_reply (refuses f p)) (rejection f p.g ∷ []) ≡ rejection f p.g ∷ []
rejection_replies addition p = refl
rejection_replies modification p = refl
rejection_replies release p = refl

rejection_asks : (f : First) (g : ℕ) → asked_for (rejection f g ∷ []) ≡ []
rejection_asks addition g = refl
rejection_asks modification g = refl
rejection_asks release g = refl

rejection_within : (f : First) (g last : ℕ) → IsWithin last (rejection f g)
rejection_within addition g last = tt
rejection_within modification g last = tt
rejection_within release g last = tt

acknowledge_replies : (f : First) (p : Plan) → filter (is_reply (agrees f p)) (acknowledge f p.g ∷ []) ≡ acknowledge f p.g ∷ []
acknowledge_replies addition p = refl
acknowledge_replies modification p = refl
acknowledge_replies release p = ap (λ b. if b then rec.Relack p.g ∷ [] else []) (eq-eqb p.g p.g refl)

acknowledge_asks : (f : First) (g : ℕ) → asked_for (acknowledge f g ∷ []) ≡ []
acknowledge_asks addition g = refl
acknowledge_asks modification g = refl
acknowledge_asks release g = refl

release_within : (last : ℕ) (p : Plan) (r : Rec) → IsFirst release p r → IsWithin last r → p.g ≤ last
release_within last p (rec.Reconf plan key) is within = absurd is
release_within last p (rec.Rcomp g) is within = absurd is
release_within last p (rec.Scgf failed) is within = absurd is
release_within last p (rec.Recov id) is within = absurd is
release_within last p (rec.Recovd id) is within = absurd is
release_within last p (rec.Addreq plan key) is within = absurd is
release_within last p (rec.Addack g) is within = absurd is
release_within last p (rec.Addrej g) is within = absurd is
release_within last p (rec.Modreq plan key) is within = absurd is
release_within last p (rec.Modack g) is within = absurd is
release_within last p (rec.Modrej g) is within = absurd is
release_within last p (rec.Recfg g) is within = absurd is
release_within last p (rec.Relreq plan) is within = subst (λ (q : Plan). q.g ≤ last) is within
release_within last p (rec.Relack g) is within = absurd is
release_within last p (rec.Relrej g) is within = absurd is
release_within last p (rec.Uecr g) is within = absurd is
release_within last p (rec.Snst status) is within = absurd is
release_within last p (rec.Moved g id) is within = absurd is
release_within last p (rec.Scgn id g) is within = absurd is
release_within last p rec.Modrqd is within = absurd is
release_within last p (rec.Modcnf g) is within = absurd is
release_within last p (rec.Modref word) is within = absurd is
release_within last p rec.Chgrqd is within = absurd is
release_within last p (rec.Chgcnf plan) is within = absurd is
release_within last p (rec.Chgref word) is within = absurd is
release_within last p rec.Relrqd is within = absurd is
release_within last p (rec.Relcnf plan) is within = absurd is

acknowledge_within : (f : First) (last : ℕ) (p : Plan) (r : Rec) → IsFirst f p r → IsWithin last r → IsWithin last (acknowledge f p.g)
acknowledge_within addition last p r is within = tt
acknowledge_within modification last p r is within = tt
acknowledge_within release last p r is within = release_within last p r is within

agreed_context : (f : First) → is_outside (agreed_membership f) ≡ false
agreed_context addition = refl
agreed_context modification = refl
agreed_context release = refl

-- the request is of what is asked, and notices alone stand behind it
pub record IsAsked (f : First) (p : Plan) (r : Rec) (down : List Rec) : Type 0 where
  pub first : IsFirst f p r
  pub notices : AllByRecursion (λ z. is_notice z ≡ true) down

pub asked_first : (f : First) (p : Plan) (r : Rec) (down : List Rec) → is_request r ≡ true → IsLineOf (asks f p) (r ∷ down) → IsAsked f p r down
asked_first f p r down is (inl here) = record { first = here.1; notices = here.2 }
asked_first f p r down is (inr later) = absurd (never (is_request r) is later.0)

module _ (x : Node) (m : MasterProc) (f : First) (p : Plan) (mem : Membership) (w : Option Want) (r : Rec) (down up : List Rec) (is : is_request r ≡ true) (pair : IsPair (standing x m (asks f p)) mem w (r ∷ down) up) where
  asked_is : IsAsked f p r down
  asked_is = asked_first f p r down is pair.line

  -- the line is read without it
  read_rest : Reads mem w down (membership_if (is_at x m.table.sec)) pair.wants
  read_rest = subst (λ n. Reads n w down (membership_if (is_at x m.table.sec)) pair.wants) (request_still mem r is)
      (subst (λ z. Reads (membership_after r mem) z down (membership_if (is_at x m.table.sec)) pair.wants) (request_wants w r is) pair.reads.1)

  pub rejecting_pair : IsPair (standing x m (refuses f p)) mem w down (up ++ rejection f p.g ∷ [])
  rejecting_pair = record {
    wants = pair.wants;
    owes = asked_more _ up (rejection f p.g ∷ []) (wants_in pair.wants) pair.owes (rejection_asks f p.g);
    reads = read_rest;
    line = asked_is.notices;
    answers = filter-append (is_reply (refuses f p)) up (rejection f p.g ∷ []) ∙ ap (λ zs. zs ++ filter (is_reply (refuses f p)) (rejection f p.g ∷ [])) pair.answers ∙ rejection_replies f p;
    down_within = pair.down_within.1;
    up_within = each_append (IsWithin m.table.last) up (rejection f p.g ∷ []) pair.up_within (rejection_within f p.g m.table.last, tt);
  }

  pub agreeing_pair : IsPair (standing x m (agrees f p)) (agreed_membership f) w down (up ++ acknowledge f p.g ∷ [])
  agreeing_pair = record {
    wants = pair.wants;
    owes = asked_more _ up (acknowledge f p.g ∷ []) (wants_in pair.wants) pair.owes (acknowledge_asks f p.g);
    reads = (notices_read (agreed_membership f) down mem (membership_if (is_at x m.table.sec)) w pair.wants asked_is.notices (agreed_context f) read_rest).1;
    line = asked_is.notices;
    answers = filter-append (is_reply (agrees f p)) up (acknowledge f p.g ∷ []) ∙ ap (λ zs. zs ++ filter (is_reply (agrees f p)) (acknowledge f p.g ∷ [])) pair.answers ∙ acknowledge_replies f p;
    down_within = pair.down_within.1;
    up_within = each_append (IsWithin m.table.last) up (acknowledge f p.g ∷ []) pair.up_within (acknowledge_within f m.table.last p r asked_is.first pair.down_within.0, tt);
  }

-- ---- any record

pub stand_refuses : (x : Node) (o : Option Command) (f : First) (p : Plan) → IsStandOf x o (asks f p) → IsStandOf x o (refuses f p)
stand_refuses x None f p is = absurd is
stand_refuses x (Some (asked c first who wanted)) f p is = is
stand_refuses x (Some (gone plan going)) f p is = absurd is
stand_refuses x (Some (recovering id terminal o)) f p is = absurd is

pub stand_agrees : (x : Node) (o : Option Command) (f : First) (p : Plan) → IsStandOf x o (asks f p) → IsStandOf x o (agrees f p)
stand_agrees x None f p is = absurd is
stand_agrees x (Some (asked c first who wanted)) f p is = is
stand_agrees x (Some (gone plan going)) f p is = absurd is
stand_agrees x (Some (recovering id terminal o)) f p is = absurd is

-- the pair, with a stand of the open command, and the bearers of the node beside it; without a context of the terminal it has none
pub record IsPaired (x : Node) (m : MasterProc) (mem : Membership) (w : Option Want) (at : Views) (down up : List Rec) : Type 0 where
  pub stand : Stand
  pub stands : IsStandOf x m.command stand
  pub pair : IsPair (standing x m stand) mem w down (words up)
  pub fitting : AreFitting x (bearing_by m m.command stand) at down up
  pub empty : is_outside mem ≡ true → (k : ℕ) → at k ≡ None

-- a request stands on the line only where it is asked
pub data IsOfAsked (s : Stand) : Type 0 where
  of_asked : (f : First) (p : Plan) → (is : s ≡ asks f p) → IsOfAsked s

pub asked_stand : (s : Stand) (r : Rec) (down : List Rec) → is_request r ≡ true → IsLineOf s (r ∷ down) → IsOfAsked s
asked_stand rests r down is line = absurd (never (is_request r) is line.0)
asked_stand (asks f p) r down is line = of_asked f p refl
asked_stand (refuses f p) r down is line = absurd (never (is_request r) is (notice_plain r line.0))
asked_stand (agrees f p) r down is line = absurd (never (is_request r) is (notice_plain r line.0))
asked_stand (goes_on l) r down is line = absurd (never (is_request r) is line.0)

-- ---- the node asks for something

request_asks : (k : Want) → asked_for (request k ∷ []) ≡ k ∷ []
request_asks want.Rekey = refl
request_asks want.Change = refl
request_asks want.Release = refl

request_replies : (s : Stand) (k : Want) → filter (is_reply s) (request k ∷ []) ≡ []
request_replies s want.Rekey = refl
request_replies s want.Change = refl
request_replies s want.Release = refl

request_within : (last : ℕ) (k : Want) → IsWithin last (request k)
request_within last want.Rekey = tt
request_within last want.Change = tt
request_within last want.Release = tt

pub asking_pair : (v : Standing) (m : Membership) (k : Want) (down up : List Rec) → IsPair v m None down up → IsPair v m (Some k) down (up ++ request k ∷ [])
asking_pair v m k down up pair =
    let at = reads_with m k down (membership_by v.secondary v.stand) pair.wants pair.reads in
    record {
      wants = Some k;
      owes = ap (λ zs. v.owed ++ zs) (flat_map-append asks_of up (request k ∷ []) ∙ ap (λ zs. asked_for up ++ zs) (request_asks k))
          ∙ sym (append_assoc v.owed (asked_for up) (k ∷ [])) ∙ ap (λ zs. zs ++ k ∷ []) (pair.owes ∙ ap wants_in at.0);
      reads = at.1;
      line = pair.line;
      answers = filter_more v.stand up (request k ∷ []) v.replies pair.answers (request_replies v.stand k);
      down_within = pair.down_within;
      up_within = each_append (IsWithin v.last) up (request k ∷ []) pair.up_within (request_within v.last k, tt);
    }
