-- The master takes what a secondary node says: the replies to what it asked, and what the node asks for.
use Rattle.std.proofs.Common.{ℕ, ◌≡◌, ◌++◌, ◌==◌, Bool, true, false, List, [], ◌∷◌, Option, Some, None, refl, sym, ap, subst, ◌∙◌, append_assoc}
use Rattle.std.specs.Prelude.{filter, if◌then◌else◌, ◌&&◌}
use Rattle.dc_base.specs.Nodes.{is_same_node, is_secondary}
use Rattle.dc_base.specs.declared.nodes.Node.{Node}
use Rattle.dc_base.specs.declared.nodes.Want.{Want}
use Rattle.dc_base.specs.declared.nodes.Want.TheVariants as want
use Rattle.dc_base.specs.declared.records.Plan.{Plan}
use Rattle.dc_base.specs.declared.records.Rec.{Rec}
use Rattle.dc_base.specs.declared.records.Rec.TheVariants as rec
use Rattle.dc_base.specs.declared.records.RecKind.TheVariants as kind
use Rattle.node_rules.specs.MasterRecords.{agreed, agreed_if, is_answer, is_same_first, released, wanted_by}
use Rattle.node_rules.specs.MasterState.{MasterActs, MasterProc}
use Rattle.node_rules.specs.MasterTaking.{from_second}
use Rattle.node_rules.specs.declared.commands.Command.{Command}
use Rattle.node_rules.specs.declared.commands.Command.TheVariants.{Asked as asked, Gone as gone, Recovering as recovering}
use Rattle.node_rules.specs.declared.commands.First.{First}
use Rattle.node_rules.specs.declared.commands.First.TheVariants.{Addition as addition, Modification as modification, Release as release}
use Rattle.node_rules.specs.declared.commands.Membership.{Membership}
use Rattle.run_control.specs.Claims.{IsStandOf, Stand, agrees, asks, goes_on, refuses, rests}
use Rattle.std.proofs.Common.{◌+◌}
use Rattle.std.specs.Prelude.{not}
use Rattle.std.specs.List.{list_any}
use Rattle.std.proofs.lemmas.Bool.{eqb-true}
use Rattle.master_runs.proofs.Lists.{each_filter}
use Rattle.node_rules.specs.MasterRecords.{adopted_if, is_moving, moved}
use Rattle.node_rules.specs.Places.{is_at}
use Rattle.run_control.specs.Rows.{is_outside}
use Rattle.run_control.specs.SecondControl.{Views, bare_record}
use Rattle.run_pairs.specs.Apt.{IsAptCommand, IsPlaced}
use Rattle.run_pairs.specs.Fits.{AreFitting, Bearing, bearing_by}
use Rattle.run_pairs.proofs.FitLines.{both_are}
use Rattle.run_pairs.proofs.FitTurns.{fits_adopted, fits_rest}
use Rattle.run_pairs.proofs.Taking.{going_follows, gone_stand, moving_standing}
use Rattle.run_control.proofs.Talks.{first_or, rest_of}
use Rattle.run_pairs.specs.Apt.{IsApt}
use Rattle.run_pairs.specs.Pairs.{IsPair, Standing, acknowledge, asked_for, asks_of, begun_as, is_asked_in, is_reply, rejection, reply, standing, words}
use Rattle.run_pairs.proofs.Agreeing.{agreed_follows}
use Rattle.run_pairs.proofs.Following.{Follows, follows_still, taken_or}
use Rattle.run_pairs.proofs.Hearing.{other_follows, released_or}
use Rattle.run_pairs.proofs.Pairing.{IsPaired}
use Rattle.run_pairs.proofs.Putting.{put}
use Rattle.run_pairs.proofs.Replies.{node_itself}
use Rattle.run_pairs.proofs.Resting.{rejected_follows}
use Rattle.run_pairs.proofs.Wanting.{asking_standing, wanted_follows}

-- ---- which reply it is

-- the generation that a reply names
abbrev named : Rec → ℕ
named (rec.Addack g) = g
named (rec.Modack g) = g
named (rec.Relack g) = g
named (rec.Addrej g) = g
named (rec.Modrej g) = g
named (rec.Relrej g) = g
named _ = 0

-- an acknowledge is no rejection
never_both : (f f' : First) (g h : ℕ) → acknowledge f g ≡ rejection f' h → ⊥
never_both addition addition g h e = absurd cc
never_both addition modification g h e = absurd cc
never_both addition release g h e = absurd cc
never_both modification addition g h e = absurd cc
never_both modification modification g h e = absurd cc
never_both modification release g h e = absurd cc
never_both release addition g h e = absurd cc
never_both release modification g h e = absurd cc
never_both release release g h e = absurd cc

same_acknowledge : (f f' : First) (g h : ℕ) → acknowledge f g ≡ acknowledge f' h → (f' ≡ f) × (g ≡ h)
same_acknowledge addition addition g h e = (refl, ap named e)
same_acknowledge addition modification g h e = absurd cc
same_acknowledge addition release g h e = absurd cc
same_acknowledge modification addition g h e = absurd cc
same_acknowledge modification modification g h e = (refl, ap named e)
same_acknowledge modification release g h e = absurd cc
same_acknowledge release addition g h e = absurd cc
same_acknowledge release modification g h e = absurd cc
same_acknowledge release release g h e = (refl, ap named e)

same_rejection : (f f' : First) (g h : ℕ) → rejection f g ≡ rejection f' h → (f' ≡ f) × (g ≡ h)
same_rejection addition addition g h e = (refl, ap named e)
same_rejection addition modification g h e = absurd cc
same_rejection addition release g h e = absurd cc
same_rejection modification addition g h e = absurd cc
same_rejection modification modification g h e = (refl, ap named e)
same_rejection modification release g h e = absurd cc
same_rejection release addition g h e = absurd cc
same_rejection release modification g h e = absurd cc
same_rejection release release g h e = (refl, ap named e)

-- the acknowledge that is awaited came, and nothing else is
data IsAgreedBy (f : First) (g : ℕ) (rest : List Rec) (s : Stand) : Type 0 where
  agreed_by : (p : Plan) → (is : s ≡ agrees f p) → (same : g ≡ p.g) → (none : rest ≡ []) → IsAgreedBy f g rest s

data IsRejectedBy (f : First) (g : ℕ) (rest : List Rec) (s : Stand) : Type 0 where
  rejected_by : (p : Plan) → (is : s ≡ refuses f p) → (same : g ≡ p.g) → (none : rest ≡ []) → IsRejectedBy f g rest s

head_is : (r z : Rec) (rs zs : List Rec) → r ∷ rs ≡ z ∷ zs → r ≡ z
head_is r z rs zs e = ap (λ (l : List Rec). first_or l r) e

rest_is : (r z : Rec) (rs zs : List Rec) → r ∷ rs ≡ z ∷ zs → rs ≡ zs
rest_is r z rs zs e = ap rest_of e

which_agreed : (f : First) (g : ℕ) (rest : List Rec) (s : Stand) → acknowledge f g ∷ rest ≡ reply s → IsAgreedBy f g rest s
which_agreed f g rest rests e = absurd cc
which_agreed f g rest (asks f' p) e = absurd cc
which_agreed f g rest (refuses f' p) e = absurd (never_both f f' g p.g (head_is (acknowledge f g) (rejection f' p.g) rest [] e))
which_agreed f g rest (agrees f' p) e =
    let same = same_acknowledge f f' g p.g (head_is (acknowledge f g) (acknowledge f' p.g) rest [] e) in
    agreed_by p (ap (λ z. agrees z p) same.0) same.1 (rest_is (acknowledge f g) (acknowledge f' p.g) rest [] e)
which_agreed f g rest (goes_on l) e = absurd cc

which_rejected : (f : First) (g : ℕ) (rest : List Rec) (s : Stand) → rejection f g ∷ rest ≡ reply s → IsRejectedBy f g rest s
which_rejected f g rest rests e = absurd cc
which_rejected f g rest (asks f' p) e = absurd cc
which_rejected f g rest (refuses f' p) e =
    let same = same_rejection f f' g p.g (head_is (rejection f g) (rejection f' p.g) rest [] e) in
    rejected_by p (ap (λ z. refuses z p) same.0) same.1 (rest_is (rejection f g) (rejection f' p.g) rest [] e)
which_rejected f g rest (agrees f' p) e = absurd (never_both f' f p.g g (sym (head_is (rejection f g) (acknowledge f' p.g) rest [] e)))
which_rejected f g rest (goes_on l) e = absurd cc

-- ---- what goes on

-- the state, the pair and the bearers of the node after acts, whatever the master's anchors are
pub record Goes (x : Node) (mem : Membership) (w : Option Want) (at : Views) (down up : List Rec) (r : MasterActs) : Type 0 where
  pub apt : IsApt r.0
  pub paired : (views : Views) → IsPaired x r.0 mem w at (down ++ put x r.1 views) up

-- without a context there is no bearer
abbrev pub IsEmptyOutside : Membership → Views → Type 0
IsEmptyOutside mem at = is_outside mem ≡ true → (k : ℕ) → at k ≡ None

-- by what the procedures come to
pub follows_goes : (x : Node) (v : Standing) (mem : Membership) (w : Option Want) (at : Views) (down up : List Rec) (r : MasterActs) → Follows x v r → IsPair v mem w down (words up) → AreFitting x v.bearing at down up → IsEmptyOutside mem at → Goes x mem w at down up r
follows_goes x v mem w at down up r is pair fit empty = record {
  apt = is.apt;
  paired = λ views. let on = is.leads views mem w at down (words up) up pair fit in record { stand = is.stand; stands = is.stands; pair = on.0; fitting = on.1; empty = empty };
}

-- a reply was taken
reply_gone : (v : Standing) (mem : Membership) (w : Option Want) (r : Rec) (down up : List Rec) → asks_of r ≡ [] → filter (is_reply v.stand) up ≡ [] → IsPair v mem w down (r ∷ up) → IsPair (record v { replies = [] }) mem w down up
reply_gone v mem w r down up silent none pair = record {
  wants = pair.wants;
  owes = ap (λ l. v.owed ++ (l ++ asked_for up)) (sym silent) ∙ pair.owes;
  reads = pair.reads;
  line = pair.line;
  answers = none;
  down_within = pair.down_within;
  up_within = pair.up_within.1;
}

-- what a reply is not
word_gone : (v : Standing) (mem : Membership) (w : Option Want) (r : Rec) (down up : List Rec) → asks_of r ≡ [] → is_reply v.stand r ≡ false → IsPair v mem w down (r ∷ up) → IsPair v mem w down up
word_gone v mem w r down up silent none pair = record {
  wants = pair.wants;
  owes = ap (λ l. v.owed ++ (l ++ asked_for up)) (sym silent) ∙ pair.owes;
  reads = pair.reads;
  line = pair.line;
  answers = sym (ap (λ b. if b then r ∷ filter (is_reply v.stand) up else filter (is_reply v.stand) up) none) ∙ pair.answers;
  down_within = pair.down_within;
  up_within = pair.up_within.1;
}

-- what a node asked for is owed
request_gone : (v : Standing) (mem : Membership) (w : Option Want) (k : Want) (r : Rec) (down up : List Rec) → asks_of r ≡ k ∷ [] → is_reply v.stand r ≡ false → IsPair v mem w down (r ∷ up) → IsPair (record v { owed = v.owed ++ k ∷ [] }) mem w down up
request_gone v mem w k r down up asks' none pair = record {
  wants = pair.wants;
  owes = append_assoc v.owed (k ∷ []) (asked_for up) ∙ ap (λ l. v.owed ++ (l ++ asked_for up)) (sym asks') ∙ pair.owes;
  reads = pair.reads;
  line = pair.line;
  answers = sym (ap (λ b. if b then r ∷ filter (is_reply v.stand) up else filter (is_reply v.stand) up) none) ∙ pair.answers;
  down_within = pair.down_within;
  up_within = pair.up_within.1;
}

acknowledge_silent : (f : First) (g : ℕ) → asks_of (acknowledge f g) ≡ []
acknowledge_silent addition g = refl
acknowledge_silent modification g = refl
acknowledge_silent release g = refl

rejection_silent : (f : First) (g : ℕ) → asks_of (rejection f g) ≡ []
rejection_silent addition g = refl
rejection_silent modification g = refl
rejection_silent release g = refl

rejection_reply : (s : Stand) (f : First) (g : ℕ) → is_reply s (rejection f g) ≡ true
rejection_reply s addition g = refl
rejection_reply s modification g = refl
rejection_reply s release g = refl

and_none : (b : Bool) → (b && false) ≡ false
and_none true = refl
and_none false = refl

module _ (x : Node) (second : is_secondary x ≡ true) (m : MasterProc) (apt : IsApt m) (s : Stand) (stands : IsStandOf x m.command s) (mem : Membership) (w : Option Want) (at : Views) (down up : List Rec) (fit : AreFitting x (bearing_by m m.command s) at down up) (empty : IsEmptyOutside mem at) where
  -- ---- replies

  front : (r : Rec) → is_reply s r ≡ true → IsPair (standing x m s) mem w down (r ∷ words up) → r ∷ filter (is_reply s) (words up) ≡ reply s
  front r is pair = sym (ap (λ b. if b then r ∷ filter (is_reply s) (words up) else filter (is_reply s) (words up)) is) ∙ pair.answers

  agreed_goes : (f : First) (g : ℕ) (r' : MasterActs) → is_reply s (acknowledge f g) ≡ true
      → ((p : Plan) → g ≡ p.g → IsStandOf x m.command (agrees f p) → Follows x (record (standing x m (agrees f p)) { replies = [] }) r')
      → IsPair (standing x m s) mem w down (acknowledge f g ∷ words up) → Goes x mem w at down up r'
  agreed_goes f g r' is follows pair = by (which_agreed f g (filter (is_reply s) (words up)) s (front (acknowledge f g) is pair))
    where
      by : IsAgreedBy f g (filter (is_reply s) (words up)) s → Goes x mem w at down up r'
      by (agreed_by p e same none) =
          follows_goes x (record (standing x m s) { replies = [] }) mem w at down up r'
          (subst (λ z. Follows x (record (standing x m z) { replies = [] }) r') (sym e) (follows p same (subst (IsStandOf x m.command) e stands)))
          (reply_gone (standing x m s) mem w (acknowledge f g) down (words up) (acknowledge_silent f g) none pair) fit empty

  rejected_goes : (f : First) (g : ℕ) (r' : MasterActs) → ((p : Plan) → g ≡ p.g → IsStandOf x m.command (refuses f p) → Follows x (record (standing x m (refuses f p)) { replies = [] }) r')
      → IsPair (standing x m s) mem w down (rejection f g ∷ words up) → Goes x mem w at down up r'
  rejected_goes f g r' follows pair = by (which_rejected f g (filter (is_reply s) (words up)) s (front (rejection f g) (rejection_reply s f g) pair))
    where
      by : IsRejectedBy f g (filter (is_reply s) (words up)) s → Goes x mem w at down up r'
      by (rejected_by p e same none) =
          follows_goes x (record (standing x m s) { replies = [] }) mem w at down up r'
          (subst (λ z. Follows x (record (standing x m z) { replies = [] }) r') (sym e) (follows p same (subst (IsStandOf x m.command) e stands)))
          (reply_gone (standing x m s) mem w (rejection f g) down (words up) (rejection_silent f g) none pair) fit empty

  -- ---- the acknowledge of a release that was not asked for

  unasked : (g : ℕ) (o : Option Command) → IsStandOf x o s → is_asked_in s g ≡ false → taken_or m (agreed kind.Relack release x g m o) ≡ (m, [])
  unasked g None is none = refl
  unasked g (Some (asked c first who wanted)) is none = ap (λ b. taken_or m (agreed_if kind.Relack m c first who wanted b)) (by s is none)
    where
      of_other : is_same_node x who ≡ false → is_answer release x g first who c.plan.g ≡ false
      of_other apart = ap (λ b. (is_same_first release first && b) && (g == c.plan.g)) apart ∙ ap (λ b. b && (g == c.plan.g)) (and_none (is_same_first release first))

      of_older : (p : Plan) → p ≡ c.plan → (g == p.g) ≡ false → is_answer release x g first who c.plan.g ≡ false
      of_older p same older =
          ap (λ b. (is_same_first release first && is_same_node x who) && b) (sym (ap (λ (q : Plan). g == q.g) same) ∙ older) ∙ and_none (is_same_first release first && is_same_node x who)

      by : (s : Stand) → IsStandOf x (Some (asked c first who wanted)) s → is_asked_in s g ≡ false → is_answer release x g first who c.plan.g ≡ false
      by rests is none = of_other is
      by (asks f p) is none = of_older p is.2 none
      by (refuses f p) is none = of_older p is.2 none
      by (agrees f p) is none = of_older p is.2 none
      by (goes_on l) is none = absurd is
  unasked g (Some (gone p going)) is none = refl
  unasked g (Some (recovering id terminal o)) is none = refl

  release_goes : (g : ℕ) → IsPair (standing x m s) mem w down (rec.Relack g ∷ words up) → Goes x mem w at down up (taken_or m (released (agreed kind.Relack release x g m m.command) m))
  release_goes g pair = subst (Goes x mem w at down up) (sym (released_or m (agreed kind.Relack release x g m m.command))) (by (is_asked_in s g) refl)
    where
      by : (b : Bool) → is_asked_in s g ≡ b → Goes x mem w at down up (taken_or m (agreed kind.Relack release x g m m.command))
      by true is = agreed_goes release g (taken_or m (agreed kind.Relack release x g m m.command)) is (λ p same now. agreed_follows x second m apt kind.Relack release p g same now) pair
      by false is =
          subst (Goes x mem w at down up) (sym (unasked g m.command stands is))
          (follows_goes x (standing x m s) mem w at down up (m, []) (follows_still x m s stands apt) (word_gone (standing x m s) mem w (rec.Relack g) down (words up) refl is pair) fit empty)

  -- ---- requests

  wanted_goes : (k : Want) (r : Rec) → asks_of r ≡ k ∷ [] → is_reply s r ≡ false → IsPair (standing x m s) mem w down (r ∷ words up) → Goes x mem w at down up (wanted_by x k m)
  wanted_goes k r asks' none pair =
      follows_goes x (asking_standing x m s (k ∷ [])) mem w at down up (wanted_by x k m)
      (subst (λ b. Follows x (asking_standing x m s (begun_as k b)) (wanted_by x k m)) (node_itself x) (wanted_follows x second m apt s stands x k second))
      (request_gone (standing x m s) mem w k r down (words up) asks' none pair) fit empty

-- ---- the node says that it adopted a bearer

-- the pair, whatever is said of the bearers
rebear : (v : Standing) (b : Bearing) (mem : Membership) (w : Option Want) (down up : List Rec) → IsPair v mem w down up → IsPair (record v { bearing = b }) mem w down up
rebear v b mem w down up pair = record { wants = pair.wants; owes = pair.owes; reads = pair.reads; line = pair.line; answers = pair.answers; down_within = pair.down_within; up_within = pair.up_within }

moved_goes : (x : Node) (second : is_secondary x ≡ true) (m : MasterProc) (apt : IsApt m) (s : Stand) (stands : IsStandOf x m.command s) (mem : Membership) (w : Option Want) (at : Views) (down up : List Rec) (g id : ℕ) → IsPair (standing x m s) mem w down (words up)
    → AreFitting x (bearing_by m m.command s) at down (rec.Moved g id ∷ up) → IsEmptyOutside mem at → Goes x mem w at down up (taken_or m (moved x g id m m.command))
moved_goes x second m apt s stands mem w at down up g id pair fit empty = by m.command refl apt.command
  where
    still : Goes x mem w at down up (m, [])
    still = follows_goes x (standing x m s) mem w at down up (m, []) (follows_still x m s stands apt) pair (fits_rest x (bearing_by m m.command s) at down _ up fit) empty

    by : (o : Option Command) → m.command ≡ o → IsAptCommand m.table o → Goes x mem w at down up (taken_or m (moved x g id m o))
    by None is apt' = still
    by (Some (asked c first who wanted)) is apt' = still
    by (Some (gone p going)) is apt' = one ((p.g == g) && list_any (is_moving id x) going.moving) refl
      where
        one : (b : Bool) → ((p.g == g) && list_any (is_moving id x) going.moving) ≡ b → Goes x mem w at down up (taken_or m (adopted_if kind.Moved m id x p going b))
        one false no' = still
        one true yes' =
            let both = both_are (p.g == g) (list_any (is_moving id x) going.moving) yes' in
            let same : bearing_by m m.command s ≡ record { rows = m.table.rows; moving = going.moving; gen = p.g; below = m.table.last + 1 } =
            ap (λ z. bearing_by m m.command z) (gone_stand x p going s (subst (λ c. IsStandOf x c s) is stands)) ∙ ap (λ c. bearing_by m c (goes_on (is_at x going.leaving))) is in
            let fit' = subst (λ b. AreFitting x b at down (rec.Moved g id ∷ up)) same fit in
            let v' = moving_standing x second m apt s stands p (filter (λ y. not (is_moving id x y)) going.moving) in
            follows_goes x v' mem w at down up _
            (going_follows x second m apt s stands p going (filter (λ y. not (is_moving id x y)) going.moving) is (each_filter (λ (z : ℕ × Node). IsPlaced m.table.sec z.1) (λ y. not (is_moving id x y)) going.moving apt'.1.moving))
            (rebear (standing x m s) v'.bearing mem w down (words up) pair)
            (fits_adopted x m.table.rows going.moving p.g (m.table.last + 1) id at (fit'.moved.0 (sym (eqb-true p.g g both.0)) both.1) g down up fit') empty
    by (Some (recovering i terminal o)) is apt' = still

-- ---- any record of the node

-- whatever record the master takes from the node
pub heard_goes : (x : Node) → is_secondary x ≡ true → (m : MasterProc) → IsApt m → (s : Stand) → IsStandOf x m.command s → (mem : Membership) (w : Option Want) (at : Views) (down up : List Rec) (r : Rec)
    → IsPair (standing x m s) mem w down (words (r ∷ up)) → AreFitting x (bearing_by m m.command s) at down (bare_record r ∷ up) → IsEmptyOutside mem at → Goes x mem w at down up (taken_or m (from_second x m r))
heard_goes x second m apt s stands mem w at down up (rec.Reconf plan key) pair fit empty = follows_goes x (standing x m s) mem w at down up _ (other_follows x second m apt s stands x (rec.Reconf plan key) refl tt) pair (fits_rest x (bearing_by m m.command s) at down _ up fit) empty
heard_goes x second m apt s stands mem w at down up (rec.Rcomp g) pair fit empty = follows_goes x (standing x m s) mem w at down up _ (other_follows x second m apt s stands x (rec.Rcomp g) refl tt) pair (fits_rest x (bearing_by m m.command s) at down _ up fit) empty
heard_goes x second m apt s stands mem w at down up (rec.Scgf failed) pair fit empty = follows_goes x (standing x m s) mem w at down up _ (other_follows x second m apt s stands x (rec.Scgf failed) refl tt) pair (fits_rest x (bearing_by m m.command s) at down _ up fit) empty
heard_goes x second m apt s stands mem w at down up (rec.Recov id) pair fit empty = follows_goes x (standing x m s) mem w at down up _ (other_follows x second m apt s stands x (rec.Recov id) refl tt) pair (fits_rest x (bearing_by m m.command s) at down _ up fit) empty
heard_goes x second m apt s stands mem w at down up (rec.Recovd id) pair fit empty = follows_goes x (standing x m s) mem w at down up _ (other_follows x second m apt s stands x (rec.Recovd id) refl tt) pair (fits_rest x (bearing_by m m.command s) at down _ up fit) empty
heard_goes x second m apt s stands mem w at down up (rec.Addreq plan key) pair fit empty = follows_goes x (standing x m s) mem w at down up _ (other_follows x second m apt s stands x (rec.Addreq plan key) refl tt) pair (fits_rest x (bearing_by m m.command s) at down _ up fit) empty
heard_goes x second m apt s stands mem w at down up (rec.Addack g) pair fit empty = agreed_goes x second m apt s stands mem w at down up (fits_rest x (bearing_by m m.command s) at down _ up fit) empty addition g _ refl (λ p same now. agreed_follows x second m apt kind.Addack addition p g same now) pair
heard_goes x second m apt s stands mem w at down up (rec.Addrej g) pair fit empty = rejected_goes x second m apt s stands mem w at down up (fits_rest x (bearing_by m m.command s) at down _ up fit) empty addition g _ (λ p same now. rejected_follows x second m apt kind.Addrej addition p g same now) pair
heard_goes x second m apt s stands mem w at down up (rec.Modreq plan key) pair fit empty = follows_goes x (standing x m s) mem w at down up _ (other_follows x second m apt s stands x (rec.Modreq plan key) refl tt) pair (fits_rest x (bearing_by m m.command s) at down _ up fit) empty
heard_goes x second m apt s stands mem w at down up (rec.Modack g) pair fit empty = agreed_goes x second m apt s stands mem w at down up (fits_rest x (bearing_by m m.command s) at down _ up fit) empty modification g _ refl (λ p same now. agreed_follows x second m apt kind.Modack modification p g same now) pair
heard_goes x second m apt s stands mem w at down up (rec.Modrej g) pair fit empty = rejected_goes x second m apt s stands mem w at down up (fits_rest x (bearing_by m m.command s) at down _ up fit) empty modification g _ (λ p same now. rejected_follows x second m apt kind.Modrej modification p g same now) pair
heard_goes x second m apt s stands mem w at down up (rec.Recfg g) pair fit empty = follows_goes x (standing x m s) mem w at down up _ (other_follows x second m apt s stands x (rec.Recfg g) refl tt) pair (fits_rest x (bearing_by m m.command s) at down _ up fit) empty
heard_goes x second m apt s stands mem w at down up (rec.Relreq plan) pair fit empty = follows_goes x (standing x m s) mem w at down up _ (other_follows x second m apt s stands x (rec.Relreq plan) refl tt) pair (fits_rest x (bearing_by m m.command s) at down _ up fit) empty
heard_goes x second m apt s stands mem w at down up (rec.Relack g) pair fit empty = release_goes x second m apt s stands mem w at down up (fits_rest x (bearing_by m m.command s) at down _ up fit) empty g pair
heard_goes x second m apt s stands mem w at down up (rec.Relrej g) pair fit empty = rejected_goes x second m apt s stands mem w at down up (fits_rest x (bearing_by m m.command s) at down _ up fit) empty release g _ (λ p same now. rejected_follows x second m apt kind.Relrej release p g same now) pair
heard_goes x second m apt s stands mem w at down up (rec.Uecr g) pair fit empty = follows_goes x (standing x m s) mem w at down up _ (other_follows x second m apt s stands x (rec.Uecr g) refl tt) pair (fits_rest x (bearing_by m m.command s) at down _ up fit) empty
heard_goes x second m apt s stands mem w at down up (rec.Snst status) pair fit empty = follows_goes x (standing x m s) mem w at down up _ (other_follows x second m apt s stands x (rec.Snst status) refl tt) pair (fits_rest x (bearing_by m m.command s) at down _ up fit) empty
heard_goes x second m apt s stands mem w at down up (rec.Moved g id) pair fit empty = moved_goes x second m apt s stands mem w at down up g id pair fit empty
heard_goes x second m apt s stands mem w at down up (rec.Scgn id g) pair fit empty = follows_goes x (standing x m s) mem w at down up _ (other_follows x second m apt s stands x (rec.Scgn id g) refl tt) pair (fits_rest x (bearing_by m m.command s) at down _ up fit) empty
heard_goes x second m apt s stands mem w at down up rec.Modrqd pair fit empty = wanted_goes x second m apt s stands mem w at down up (fits_rest x (bearing_by m m.command s) at down _ up fit) empty want.Rekey rec.Modrqd refl refl pair
heard_goes x second m apt s stands mem w at down up (rec.Modcnf g) pair fit empty = follows_goes x (standing x m s) mem w at down up _ (other_follows x second m apt s stands x (rec.Modcnf g) refl tt) pair (fits_rest x (bearing_by m m.command s) at down _ up fit) empty
heard_goes x second m apt s stands mem w at down up (rec.Modref word) pair fit empty = follows_goes x (standing x m s) mem w at down up _ (other_follows x second m apt s stands x (rec.Modref word) refl tt) pair (fits_rest x (bearing_by m m.command s) at down _ up fit) empty
heard_goes x second m apt s stands mem w at down up rec.Chgrqd pair fit empty = wanted_goes x second m apt s stands mem w at down up (fits_rest x (bearing_by m m.command s) at down _ up fit) empty want.Change rec.Chgrqd refl refl pair
heard_goes x second m apt s stands mem w at down up (rec.Chgcnf plan) pair fit empty = follows_goes x (standing x m s) mem w at down up _ (other_follows x second m apt s stands x (rec.Chgcnf plan) refl tt) pair (fits_rest x (bearing_by m m.command s) at down _ up fit) empty
heard_goes x second m apt s stands mem w at down up (rec.Chgref word) pair fit empty = follows_goes x (standing x m s) mem w at down up _ (other_follows x second m apt s stands x (rec.Chgref word) refl tt) pair (fits_rest x (bearing_by m m.command s) at down _ up fit) empty
heard_goes x second m apt s stands mem w at down up rec.Relrqd pair fit empty = wanted_goes x second m apt s stands mem w at down up (fits_rest x (bearing_by m m.command s) at down _ up fit) empty want.Release rec.Relrqd refl refl pair
heard_goes x second m apt s stands mem w at down up (rec.Relcnf plan) pair fit empty = follows_goes x (standing x m s) mem w at down up _ (other_follows x second m apt s stands x (rec.Relcnf plan) refl tt) pair (fits_rest x (bearing_by m m.command s) at down _ up fit) empty
