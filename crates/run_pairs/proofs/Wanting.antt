-- What a secondary node asks the master for, and what comes of it.
use Rattle.run_control.specs.Claims.{rests}
use Rattle.std.proofs.Common.{◌≡◌, ◌++◌, Bool, true, false, List, [], ◌∷◌, Option, Some, None, refl, sym, ap, subst, ◌∙◌, arith}
use Rattle.std.specs.Prelude.{if◌then◌else◌, is_some, not}
use Rattle.std.proofs.lemmas.List.{append-nil}
use Rattle.dc_base.specs.Nodes.{is_same_node, is_secondary}
use Rattle.dc_base.specs.declared.answers.Word.{Word}
use Rattle.dc_base.specs.declared.answers.Word.TheVariants as word
use Rattle.dc_base.specs.declared.events.Event.TheVariants as event
use Rattle.dc_base.specs.declared.events.Note.TheVariants as note
use Rattle.dc_base.specs.declared.nodes.Node.{Node}
use Rattle.dc_base.specs.declared.nodes.Want.{Want}
use Rattle.dc_base.specs.declared.nodes.Want.TheVariants as want
use Rattle.dc_base.specs.declared.records.Rec.{Rec}
use Rattle.dc_base.specs.declared.records.Rec.TheVariants as rec
use Rattle.node_rules.specs.CommandTable.{is_counter_spent}
use Rattle.node_rules.specs.Drafts.{Draft, asking, next_second, second_rows, shared_rows, with_next_key}
use Rattle.node_rules.specs.MasterEnds.{tries}
use Rattle.node_rules.specs.MasterGo.{before_acts, begins}
use Rattle.node_rules.specs.MasterRecords.{asking_refusal, begins_asked, wanted_by}
use Rattle.node_rules.specs.MasterState.{MasterProc, waits_at, with_waits}
use Rattle.node_rules.specs.Places.{is_at}
use Rattle.node_rules.specs.declared.acts.Act.TheVariants.{Say as say, Send as send}
use Rattle.node_rules.specs.declared.commands.Command.{Command}
use Rattle.node_rules.specs.declared.commands.First.TheVariants.{Addition as addition, Modification as modification}
use Rattle.run_control.specs.Claims.{IsStandOf, Stand, membership_by}
use Rattle.run_control.specs.Rows.{has_row}
use Rattle.run_pairs.specs.Apt.{IsApt}
use Rattle.run_pairs.specs.Fits.{bearing_by}
use Rattle.run_pairs.proofs.FitSteps.{fits_on, later_same}
use Rattle.run_pairs.specs.Pairs.{IsLineOf, Standing, asked_for, begun_as, begun_for, standing, waiting_of, wants_in}
use Rattle.run_pairs.proofs.Beginning.{begun_by, begun_follows, rested}
use Rattle.run_pairs.proofs.Ending.{none_rests, tries_follows, waits_apart, waits_apt, waits_here, waits_stand, waits_standing}
use Rattle.run_pairs.proofs.Following.{Follows, Leads, before_follows, follows_from, leads_none, leads_to}
use Rattle.run_pairs.proofs.Lines.{line_notice}
use Rattle.run_pairs.proofs.Placed.{IsAptDraft, apt_draft, other_twice}
use Rattle.run_pairs.proofs.Putting.{put_here, put_there}
use Rattle.run_pairs.proofs.Replies.{lone_between, none_in_either, same_node}
use Rattle.run_pairs.proofs.Resting.{IsRefusal, change_refusal, key_refusal}

-- the standing, once a node asked for something
abbrev pub asking_standing : Node → MasterProc → Stand → List Want → Standing
asking_standing x m s more = record (standing x m s) { owed = (waiting_of (waits_at m x) ++ begun_for x m.command) ++ more }

pub more_none : (x : Node) (m : MasterProc) (s : Stand) → asking_standing x m s [] ≡ standing x m s
more_none x m s = ap (λ l. record (standing x m s) { owed = l }) (append-nil (waiting_of (waits_at m x) ++ begun_for x m.command))

-- ---- a new K_SN, or a change

-- the master does not refuse: no command is open, and the node is the secondary node
no_word : {X : Type 0} (a b d : Bool) (u v w : X) → (if a then Some u else if b then Some v else if d then Some w else None) ≡ None → (a ≡ false) × (b ≡ false)
no_word true b d u v w is = absurd cc
no_word false true d u v w is = absurd cc
no_word false false d u v w is = (refl, refl)

pub not_false : (b : Bool) → not b ≡ false → b ≡ true
not_false true is = refl
not_false false is = absurd cc

pub none_open : (o : Option Command) → is_some o ≡ false → o ≡ None
none_open None is = refl
none_open (Some c) is = absurd cc

second_is : (y : Node) (o : Option Node) → is_at y o ≡ true → o ≡ Some y
second_is y None is = absurd cc
second_is y (Some z) is = ap (λ n. Some n) (sym (same_node y z is))

module _ (x : Node) (second : is_secondary x ≡ true) (m : MasterProc) (apt : IsApt m) (s : Stand) (stands : IsStandOf x m.command s) where
  -- it is refused
  refuses_it : (y : Node) (k : Want) (r : Rec) → IsRefusal k r → Follows x (asking_standing x m s (begun_as k (is_same_node x y))) (m, send y r ∷ [])
  refuses_it y k r is = record { stand = s; stands = stands; apt = apt; leads = by (is_same_node x y) refl }
    where
      owed : List Want
      owed = waiting_of (waits_at m x) ++ begun_for x m.command

      by : (b : Bool) → is_same_node x y ≡ b → Leads x (asking_standing x m s (begun_as k b)) (standing x m s) (send y r ∷ [])
      by false apart =
          subst (λ v. Leads x v (standing x m s) (send y r ∷ [])) (sym (more_none x m s)) (leads_none x (standing x m s) (send y r ∷ []) (λ views. put_there x y r views second apart))
      by true here =
          leads_to x (asking_standing x m s (k ∷ [])) (standing x m s) (send y r ∷ []) (r ∷ []) (λ views. put_here x y r views second here ∙ ap (λ z. z ∷ []) is.bare) (record {
            shift = λ w up owes.
                let at = lone_between (waiting_of (waits_at m x) ++ begun_for x m.command) k (asked_for up) w owes in (
                  None,
                  ap (λ l. l ++ asked_for up) at.0 ∙ at.1,
                  (ap (λ z. has_row (membership_by (is_at x m.table.sec) s) z r) at.2 ∙ is.row (membership_by (is_at x m.table.sec) s), (is.member (membership_by (is_at x m.table.sec) s), is.wanted w)),
                );
            line = λ down line old. line_notice s down r is.notice line;
            answers = λ up old answers. answers;
            later = omega arith;
            within = (is.within m.table.last, tt);
            fits = λ mem w at down up all pair fit.
                fits_on x (standing x m s).bearing (standing x m s).bearing (r ∷ []) (later_same x (standing x m s).bearing) (is.light x (standing x m s).bearing.below, tt) at down all fit;
          })

  -- it begins
  begins_it : (y : Node) (k : Want) (d : Draft) → m.command ≡ None → IsAptDraft m.table true d → waiting_of (waits_at m x) ++ begun_by x true d.first ≡ waiting_of (waits_at m x) ++ begun_as k (is_same_node x y)
      → Follows x (asking_standing x m s (begun_as k (is_same_node x y))) (before_acts (say (note.Begin k) ∷ []) (begins m d true))
  begins_it y k d none draft_is owes =
      subst (λ v. Follows x v (before_acts (say (note.Begin k) ∷ []) (begins m d true))) (sym standing_is)
      (before_follows x (rested x m owed) (rested x m owed) (say (note.Begin k) ∷ []) (begins m d true) (leads_none x (rested x m owed) (say (note.Begin k) ∷ []) (λ views. refl))
      (begun_follows x m true d owed second apt draft_is owes))
    where
      owed : List Want
      owed = waiting_of (waits_at m x) ++ begun_as k (is_same_node x y)

      standing_is : asking_standing x m s (begun_as k (is_same_node x y)) ≡ rested x m owed
      standing_is =
          ap (λ z. asking_standing x m z (begun_as k (is_same_node x y))) (none_rests x m.command s none stands)
          ∙ ap (λ c. record (rested x m ((waiting_of (waits_at m x) ++ begun_for x c) ++ begun_as k (is_same_node x y))) { bearing = bearing_by m c rests }) none
          ∙ ap (λ l. rested x m (l ++ begun_as k (is_same_node x y))) (append-nil (waiting_of (waits_at m x)))

  -- a new K_SN is asked for by the secondary node, which is asked first
  key_owed : (y : Node) → m.table.sec ≡ Some y → begun_by x true (asking modification m.table.sec) ≡ begun_as want.Rekey (is_same_node x y)
  key_owed y is = ap (λ o. begun_by x true (asking modification o)) is

  -- a change too, and the other node is asked first
  change_owed : (y : Node) → is_secondary y ≡ true → m.table.sec ≡ Some y → begun_by x true (asking addition (next_second m.table.sec)) ≡ begun_as want.Change (is_same_node x y)
  change_owed y asker is = ap (λ o. begun_by x true (asking addition (next_second o))) is ∙ ap (λ z. begun_as want.Change (is_same_node x z)) (other_twice y asker)

  key_follows : (y : Node) (o : Option Word) → asking_refusal y m ≡ o → is_secondary y ≡ true
      → Follows x (asking_standing x m s (begun_as want.Rekey (is_same_node x y))) (begins_asked m y want.Rekey event.RekeySecond (λ w. rec.Modref w) o)
  key_follows y (Some why) is asker = refuses_it y want.Rekey (rec.Modref why) (key_refusal why)
  key_follows y None is asker =
      let free' = no_word (not (is_at y m.table.sec)) (is_some m.command) (is_counter_spent m.table) word.NoSecondary word.Busy word.CounterSpent is in
      let at = second_is y m.table.sec (not_false (is_at y m.table.sec) free'.0) in
      begins_it y want.Rekey (with_next_key m.table m.table.sec (second_rows m.table) modification) (none_open m.command free'.1) (apt_draft m.table true event.RekeySecond apt.second apt.rows apt.up tt) (ap (λ l. waiting_of (waits_at m x) ++ l) (key_owed y at))

  change_follows : (y : Node) (o : Option Word) → asking_refusal y m ≡ o → is_secondary y ≡ true
      → Follows x (asking_standing x m s (begun_as want.Change (is_same_node x y))) (begins_asked m y want.Change event.Change (λ w. rec.Chgref w) o)
  change_follows y (Some why) is asker = refuses_it y want.Change (rec.Chgref why) (change_refusal why)
  change_follows y None is asker =
      let free' = no_word (not (is_at y m.table.sec)) (is_some m.command) (is_counter_spent m.table) word.NoSecondary word.Busy word.CounterSpent is in
      let at = second_is y m.table.sec (not_false (is_at y m.table.sec) free'.0) in
      begins_it y want.Change (with_next_key m.table (next_second m.table.sec) (shared_rows m.table) addition) (none_open m.command free'.1) (apt_draft m.table true event.Change apt.second apt.rows apt.up tt) (ap (λ l. waiting_of (waits_at m x) ++ l) (change_owed y asker at))

  -- ---- a release

  -- it waits from now on
  waits_leads : (y : Node) (b : Bool) → is_same_node x y ≡ b → Leads x (asking_standing x m s (begun_as want.Release b)) (standing x (with_waits true y m) s) []
  waits_leads y false apart =
      subst (λ v. Leads x v (standing x (with_waits true y m) s) []) (sym (more_none x m s))
      (subst (λ v. Leads x (standing x m s) v []) (sym (waits_standing true x y m s ∙ ap (λ b. record (standing x m s) { owed = waiting_of b ++ begun_for x m.command }) (waits_apart true x y apart m)))
      (leads_none x (standing x m s) [] (λ views. refl)))
  waits_leads y true here =
      subst (λ v. Leads x (asking_standing x m s (want.Release ∷ [])) v []) (sym (waits_standing true x y m s ∙ ap (λ b. record (standing x m s) { owed = waiting_of b ++ begun_for x m.command }) (waits_here true x y second here m)))
      (leads_to x (asking_standing x m s (want.Release ∷ [])) (record (standing x m s) { owed = want.Release ∷ begun_for x m.command }) [] [] (λ views. refl) (record {
        shift = λ w up owes.
            let at = lone_between (waiting_of (waits_at m x) ++ begun_for x m.command) want.Release (asked_for up) w owes in
            let begun = (none_in_either (waiting_of (waits_at m x)) (begun_for x m.command) at.0).1 in
            (w, ap (λ l. want.Release ∷ (l ++ asked_for up)) begun ∙ ap (λ l. want.Release ∷ l) at.1 ∙ ap wants_in (sym at.2), (refl, refl));
        line = λ down line old. subst (λ ds. IsLineOf s ds) (sym (append-nil down)) line;
        answers = λ up old answers. answers;
        later = omega arith;
        within = tt;
        fits = λ mem w at down up all pair fit. fits_on x (standing x m s).bearing (standing x m s).bearing [] (later_same x (standing x m s).bearing) tt at down all fit;
      }))

  release_follows : (y : Node) → is_secondary y ≡ true → Follows x (asking_standing x m s (begun_as want.Release (is_same_node x y))) (tries y (with_waits true y m))
  release_follows y asker =
      follows_from x (asking_standing x m s (begun_as want.Release (is_same_node x y))) (standing x (with_waits true y m) s) (tries y (with_waits true y m)) (waits_leads y (is_same_node x y) refl)
      (tries_follows x second (with_waits true y m) y s (waits_apt true y m apt) asker (waits_stand true x y m s stands))

  -- whatever a secondary node asks for
  pub wanted_follows : (y : Node) (k : Want) → is_secondary y ≡ true → Follows x (asking_standing x m s (begun_as k (is_same_node x y))) (wanted_by y k m)
  wanted_follows y want.Rekey asker = key_follows y (asking_refusal y m) refl asker
  wanted_follows y want.Change asker = change_follows y (asking_refusal y m) refl asker
  wanted_follows y want.Release asker = release_follows y asker
