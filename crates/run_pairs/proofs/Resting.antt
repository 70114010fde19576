-- Where no command is open any more, a secondary node rests: what it hears as a command is rejected, and as its own wish is refused.
use Rattle.std.proofs.Common.{◌+◌, ℕ, ◌≡◌, ◌≤◌, ◌++◌, Bool, true, false, List, [], ◌∷◌, Option, Some, None, refl, sym, ap, subst, ◌∙◌, arith}
use Rattle.std.specs.Prelude.{filter}
use Rattle.std.specs.List.{AllByRecursion}
use Rattle.std.proofs.lemmas.List.{append-nil}
use Rattle.dc_base.specs.Nodes.{is_same_node, is_secondary}
use Rattle.dc_base.specs.declared.answers.Word.{Word}
use Rattle.dc_base.specs.declared.answers.Word.TheVariants as word
use Rattle.dc_base.specs.declared.events.Note.TheVariants as note
use Rattle.dc_base.specs.declared.nodes.Node.{Node}
use Rattle.dc_base.specs.declared.nodes.Want.{Want}
use Rattle.dc_base.specs.declared.nodes.Want.TheVariants as want
use Rattle.dc_base.specs.declared.records.Plan.{Plan}
use Rattle.dc_base.specs.declared.records.Rec.{Rec}
use Rattle.dc_base.specs.declared.records.Rec.TheVariants as rec
use Rattle.dc_base.specs.declared.records.RecKind.{RecKind}
use Rattle.transcript.proofs.OnEach.{each_append}
use Rattle.node_rules.specs.MasterEnds.{ends}
use Rattle.node_rules.specs.MasterRecords.{is_answer, rejected, rejected_if, rejecting}
use Rattle.node_rules.specs.MasterState.{MasterProc, waits_at}
use Rattle.node_rules.specs.Places.{is_at, other_second}
use Rattle.node_rules.specs.declared.acts.Act.{Act}
use Rattle.node_rules.specs.declared.acts.Act.TheVariants.{Send as send}
use Rattle.node_rules.specs.declared.commands.Command.{Command}
use Rattle.node_rules.specs.declared.commands.Command.TheVariants.{Asked as asked, Gone as gone, Recovering as recovering}
use Rattle.node_rules.specs.declared.commands.First.{First}
use Rattle.node_rules.specs.declared.commands.First.TheVariants.{Addition as addition, Modification as modification, Release as release}
use Rattle.node_rules.specs.declared.commands.Membership.{Membership}
use Rattle.run_control.specs.Claims.{IsStandOf, Stand, membership_by, membership_if, refuses, rests}
use Rattle.run_control.specs.Rows.{has_row, is_request, membership_after, wanted_after}
use Rattle.run_control.specs.SecondControl.{Views, bare_record}
use Rattle.run_pairs.specs.Apt.{IsApt}
use Rattle.run_pairs.specs.Fits.{bearing_by}
use Rattle.run_pairs.proofs.FitSteps.{IsLater, IsLight, fits_on, later_same}
use Rattle.run_pairs.specs.Pairs.{IsLineOf, IsWithin, Standing, asked_for, begun_as, begun_asked, begun_for, is_notice, is_reply, standing, waiting_of}
use Rattle.run_pairs.proofs.Agreeing.{answer_from, answers_it, rests_apart}
use Rattle.run_pairs.proofs.Beginning.{free, rested}
use Rattle.run_pairs.proofs.Ending.{ends_follows}
use Rattle.run_pairs.proofs.Following.{Follows, Leads, follows_still, leads_to, taken_or}
use Rattle.run_pairs.proofs.Lines.{notice_plain, notices_plain}
use Rattle.run_pairs.proofs.Putting.{put, put_here, put_there}
use Rattle.run_pairs.proofs.Replies.{cleared, lone_between, replies_rest}

-- ---- refusals

-- the record refuses what was asked for
pub record IsRefusal (k : Want) (r : Rec) : Type 0 where
  pub row : (m : Membership) → has_row m (Some k) r ≡ true
  pub member : (m : Membership) → membership_after r m ≡ m
  pub wanted : (w : Option Want) → wanted_after r w ≡ None
  pub notice : is_notice r ≡ true
  pub within : (last : ℕ) → IsWithin last r
  pub bare : bare_record r ≡ r
  pub light : (x : Node) (n : ℕ) → IsLight x n r

pub key_refusal : (w : Word) → IsRefusal want.Rekey (rec.Modref w)
key_refusal w = record { row = λ m. refl; member = λ m. refl; wanted = λ o. refl; notice = refl; within = λ last. tt; bare = refl; light = λ x n. record { free = λ at. refl; below = tt } }

pub change_refusal : (w : Word) → IsRefusal want.Change (rec.Chgref w)
change_refusal w = record { row = λ m. refl; member = λ m. refl; wanted = λ o. refl; notice = refl; within = λ last. tt; bare = refl; light = λ x n. record { free = λ at. refl; below = tt } }

-- ---- to rest

-- the node may rest from this standing
pub record MayRest (x : Node) (v : Standing) (m : MasterProc) : Type 0 where
  pub plain : (down : List Rec) → IsLineOf v.stand down → AllByRecursion (λ r. is_request r ≡ false) down
  pub answers : (up : List Rec) → filter (is_reply v.stand) up ≡ v.replies → filter (is_reply rests) up ≡ []
  pub member : membership_by v.secondary v.stand ≡ membership_if (is_at x m.table.sec)
  pub last : v.last ≡ m.table.last
  pub bearing : IsLater x v.bearing (free x m []).bearing

le_of : {a b : ℕ} → a ≡ b → a ≤ b
le_of e = omega (arith, e)

module _ (x : Node) (second : is_secondary x ≡ true) (m : MasterProc) (v : Standing) (may : MayRest x v m) where
  -- nothing is said to it, where nothing is owed but what waits
  pub rests_leads : (acts : List Act) → ((views : Views) → put x acts views ≡ []) → v.owed ≡ waiting_of (waits_at m x) ++ [] → Leads x v (free x m []) acts
  rests_leads acts none same =
      leads_to x v (free x m []) acts [] none (record {
        shift = λ w up owes. (w, sym (ap (λ l. l ++ asked_for up) same) ∙ owes, (may.member, refl));
        line = λ down line old. subst (IsLineOf rests) (sym (append-nil down)) (may.plain down line);
        answers = λ up old answers. may.answers up answers;
        later = le_of may.last;
        within = tt;
        fits = λ mem w at down up all pair fit. fits_on x v.bearing (free x m []).bearing [] may.bearing tt at down all fit;
      })

  -- what it asked for is refused
  refused_here : (to : Node) (k : Want) (r : Rec) → IsRefusal k r → is_same_node x to ≡ true → v.owed ≡ waiting_of (waits_at m x) ++ k ∷ [] → Leads x v (free x m []) (send to r ∷ [])
  refused_here to k r is here same =
      leads_to x v (free x m []) (send to r ∷ []) (r ∷ []) (λ views. put_here x to r views second here ∙ ap (λ z. z ∷ []) is.bare) (record {
        shift = λ w up owes.
            let at = lone_between (waiting_of (waits_at m x)) k (asked_for up) w (sym (ap (λ l. l ++ asked_for up) same) ∙ owes) in (
              None,
              cleared (waiting_of (waits_at m x)) (asked_for up) at.0 at.1,
              (ap (λ z. has_row (membership_by v.secondary v.stand) z r) at.2 ∙ is.row (membership_by v.secondary v.stand), (is.member (membership_by v.secondary v.stand) ∙ may.member, is.wanted w)),
            );
        line = λ down line old. each_append (λ z. is_request z ≡ false) down (r ∷ []) (may.plain down line) (notice_plain r is.notice, tt);
        answers = λ up old answers. may.answers up answers;
        later = le_of may.last;
        within = (is.within m.table.last, tt);
        fits = λ mem w at down up all pair fit. fits_on x v.bearing (free x m []).bearing (r ∷ []) may.bearing (is.light x (m.table.last + 1), tt) at down all fit;
      })

  pub refused_leads : (to : Node) (k : Want) (r : Rec) → IsRefusal k r → v.owed ≡ waiting_of (waits_at m x) ++ begun_as k (is_same_node x to) → Leads x v (free x m []) (send to r ∷ [])
  refused_leads to k r is same = by (is_same_node x to) refl same
    where
      by : (b : Bool) → is_same_node x to ≡ b → v.owed ≡ waiting_of (waits_at m x) ++ begun_as k b → Leads x v (free x m []) (send to r ∷ [])
      by true here owed = refused_here to k r is here owed
      by false apart owed = rests_leads (send to r ∷ []) (λ views. put_there x to r views second apart) owed

  -- a rejection is told to the node that asked for the command
  pub rejecting_leads : (first : First) (who : Node) (wanted : Bool) → v.owed ≡ waiting_of (waits_at m x) ++ begun_asked x first who wanted → Leads x v (free x m []) (rejecting first who wanted)
  rejecting_leads first who false same = rests_leads [] (λ views. refl) same
  rejecting_leads addition who true same = refused_leads (other_second who) want.Change (rec.Chgref word.Rejected) (change_refusal word.Rejected) same
  rejecting_leads modification who true same = refused_leads who want.Rekey (rec.Modref word.Rejected) (key_refusal word.Rejected) same
  rejecting_leads release who true same = rests_leads [] (λ views. refl) same

-- ---- a rejection

-- the standing, once it came
abbrev pub rejected_standing : Node → MasterProc → First → Plan → List Want → Standing
rejected_standing x m first p owed = record { secondary = is_at x m.table.sec; stand = refuses first p; owed = owed; replies = []; last = m.table.last; bearing = bearing_by m m.command (refuses first p) }

module _ (x : Node) (second : is_secondary x ≡ true) (m : MasterProc) (apt : IsApt m) where
  may_rejected : (first : First) (p : Plan) (owed : List Want) → MayRest x (rejected_standing x m first p owed) m
  may_rejected first p owed = record { plain = λ down line. notices_plain down line; answers = λ up none. replies_rest (refuses first p) rests (λ g. refl) up none; member = refl; last = refl; bearing = later_same x (free x m []).bearing }

  may_rested : (owed : List Want) → MayRest x (rested x m owed) m
  may_rested owed = record { plain = λ down line. line; answers = λ up none. none; member = refl; last = refl; bearing = later_same x (free x m []).bearing }

  -- from the node itself, which rejected
  pub rejected_follows : (k : RecKind) (first : First) (p : Plan) (g : ℕ) → g ≡ p.g → IsStandOf x m.command (refuses first p)
      → Follows x (rejected_standing x m first p (waiting_of (waits_at m x) ++ begun_for x m.command)) (taken_or m (rejected k first x g m m.command))
  rejected_follows k f p g same stands = by m.command stands
    where
      by : (o : Option Command) → IsStandOf x o (refuses f p) → Follows x (rejected_standing x m f p (waiting_of (waits_at m x) ++ begun_for x o)) (taken_or m (rejected k f x g m o))
      by None is = absurd is
      by (Some (asked c first who wanted)) is =
          let yes' = answers_it f x g first who c.plan.g is.1 is.0 (same ∙ ap (λ (q : Plan). q.g) is.2) in
          let v = rejected_standing x m f p (waiting_of (waits_at m x) ++ begun_asked x first who wanted) in
          subst (λ b. Follows x v (taken_or m (rejected_if k m first who wanted b))) (sym yes')
          (ends_follows x second v m (rejecting first who wanted) note.Rejected apt (rejecting_leads x second m v (may_rejected f p v.owed) first who wanted refl))
      by (Some (gone plan going)) is = absurd is
      by (Some (recovering id terminal sec)) is = absurd is

  -- from another node
  pub rejected_elsewhere : (k : RecKind) (f : First) (y : Node) (g : ℕ) (s : Stand) → is_same_node x y ≡ false → IsStandOf x m.command s → Follows x (standing x m s) (taken_or m (rejected k f y g m m.command))
  rejected_elsewhere k f y g s apart stands = by m.command refl stands
    where
      still : Follows x (standing x m s) (m, [])
      still = follows_still x m s stands apt

      by : (o : Option Command) → m.command ≡ o → IsStandOf x o s → Follows x (standing x m s) (taken_or m (rejected k f y g m o))
      by None at is = still
      by (Some (asked c first who wanted)) at is = one (is_answer f y g first who c.plan.g) refl
        where
          one : (b : Bool) → is_answer f y g first who c.plan.g ≡ b → Follows x (standing x m s) (taken_or m (rejected_if k m first who wanted b))
          one true yes' =
              let other : is_same_node x who ≡ false = ap (is_same_node x) (sym (answer_from f y g first who c.plan.g yes')) ∙ apart in
              let v = rested x m (waiting_of (waits_at m x) ++ begun_asked x first who wanted) in
              subst (λ z. Follows x (standing x m z) (ends m (rejecting first who wanted) note.Rejected)) (sym (rests_apart x second m apt c first who wanted s other is))
              (subst (λ z. Follows x (record (rested x m (waiting_of (waits_at m x) ++ begun_for x z)) { bearing = bearing_by m z rests }) (ends m (rejecting first who wanted) note.Rejected)) (sym at)
              (ends_follows x second v m (rejecting first who wanted) note.Rejected apt (rejecting_leads x second m v (may_rested v.owed) first who wanted refl)))
          one false no' = still
      by (Some (gone plan going)) at is = still
      by (Some (recovering id terminal sec)) at is = still
