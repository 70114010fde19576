-- Whatever record the master takes from another node than this secondary node, or from it without a word: the pair goes on.
use Rattle.std.specs.Prelude.{⊤}
use Rattle.std.proofs.Common.{◌+◌, ℕ, ◌≡◌, ◌++◌, ◌==◌, Bool, true, false, [], ◌∷◌, Option, Some, None, refl, sym, ap, subst, ◌∙◌, arith}
use Rattle.std.specs.Prelude.{Err, Ok, Result, not, ◌&&◌}
use Rattle.dc_base.specs.Nodes.{is_same_node, is_secondary}
use Rattle.dc_base.specs.declared.nodes.Node.{Node}
use Rattle.dc_base.specs.declared.nodes.Node.TheVariants.{T}
use Rattle.dc_base.specs.declared.nodes.Want.{Want}
use Rattle.dc_base.specs.declared.nodes.Want.TheVariants as want
use Rattle.dc_base.specs.declared.records.Rec.{Rec}
use Rattle.dc_base.specs.declared.records.Rec.TheVariants as rec
use Rattle.dc_base.specs.declared.records.RecKind.TheVariants as kind
use Rattle.transcript.proofs.OnEach.{each_append}
use Rattle.node_rules.specs.Acts.{ProcFault}
use Rattle.node_rules.specs.MasterEnds.{waits_for}
use Rattle.node_rules.specs.MasterRecords.{agreed, completed, completed_if, completing, released, wanted_by}
use Rattle.node_rules.specs.MasterState.{MasterActs, MasterProc, waits_at}
use Rattle.node_rules.specs.MasterTaking.{from_second, from_terminal}
use Rattle.node_rules.specs.Places.{is_at}
use Rattle.node_rules.specs.declared.acts.Act.TheVariants.{Send as send, UnlockAll as unlock_all}
use Rattle.node_rules.specs.declared.commands.Command.{Command}
use Rattle.node_rules.specs.declared.commands.Command.TheVariants.{Asked as asked, Gone as gone, Recovering as recovering}
use Rattle.node_rules.specs.declared.commands.First.TheVariants.{Addition as addition, Modification as modification, Release as release}
use Rattle.node_rules.specs.declared.commands.Going.{Going}
use Rattle.node_rules.specs.declared.commands.Membership.TheVariants.{Joined as joined}
use Rattle.run_control.specs.Claims.{IsStandOf, Stand, goes_on, membership_by}
use Rattle.run_control.specs.Rows.{has_row, is_request}
use Rattle.run_control.specs.SecondControl.{Views}
use Rattle.node_rules.specs.MasterRecords.{moved}
use Rattle.run_pairs.specs.Fits.{bearing_by}
use Rattle.run_pairs.proofs.FitSteps.{fits_on, later_same}
use Rattle.run_pairs.specs.Apt.{IsApt, IsAptCommand, IsDueAt}
use Rattle.run_pairs.specs.Pairs.{Standing, asked_for, begun_as, begun_for, is_word, standing, waiting_of}
use Rattle.run_pairs.proofs.Agreeing.{agreed_elsewhere}
use Rattle.run_pairs.proofs.Ending.{going_waits}
use Rattle.run_pairs.proofs.Following.{Follows, Leads, before_follows, follows_still, leads_none, leads_then, leads_to, taken_or}
use Rattle.run_pairs.proofs.Putting.{put, put_here, put_there}
use Rattle.run_pairs.proofs.Replies.{lone_between}
use Rattle.run_pairs.proofs.Resting.{rejected_elsewhere}
use Rattle.run_pairs.proofs.Taking.{failed_follows, gone_stand, joined_there, moved_follows, recovered_follows, transferred_follows}
use Rattle.run_pairs.proofs.Wanting.{asking_standing, more_none, wanted_follows}

-- the acknowledge of a release that answers nothing is like any other one
pub released_or : (m : MasterProc) (t : Result MasterActs ProcFault) → taken_or m (released t m) ≡ taken_or m t
released_or m (Ok r) = refl
released_or m (Err why) = refl

and_false : (b : Bool) → (b && false) ≡ false
and_false true = refl
and_false false = refl

module _ (x : Node) (second : is_secondary x ≡ true) (m : MasterProc) (apt : IsApt m) (s : Stand) (stands : IsStandOf x m.command s) where
  still : Follows x (standing x m s) (m, [])
  still = follows_still x m s stands apt

  -- ---- the terminal answers that the reconfiguration is complete

  -- the standing of the node while the plan is, and is not, complete
  abbrev going_standing : ℕ → Going → Bool → Standing
  going_standing g going complete = record (standing x m (goes_on (is_at x going.leaving))) {
    owed = waiting_of (waits_at m x) ++ begun_as want.Rekey ((going.confirms && not complete) && is_at x going.due);
    bearing = record { rows = m.table.rows; moving = going.moving; gen = g; below = m.table.last + 1 };
  }

  -- nothing is owed to it
  owes_none : (g : ℕ) (going : Going) → begun_as want.Rekey ((going.confirms && not false) && is_at x going.due) ≡ [] → going_standing g going false ≡ going_standing g going true
  owes_none g going none = ap (λ l. record (going_standing g going false) { owed = waiting_of (waits_at m x) ++ l }) (none ∙ sym (no_more going.confirms))
    where
      no_more : (b : Bool) → begun_as want.Rekey ((b && not true) && is_at x going.due) ≡ []
      no_more b = ap (λ c. begun_as want.Rekey (c && is_at x going.due)) (and_false b)

  -- the node is to hear of it
  due_row : (b l : Bool) (w : Option Want) (r : Rec) → b ≡ true → has_row joined w r ≡ true → has_row (membership_by b (goes_on l)) w r ≡ true
  due_row b l w r is row = subst (λ n. has_row n w r ≡ true) (sym (joined_there b l is)) row

  completing_here : (going : Going) (y : Node) (confirms : Bool) (g : ℕ) → going.confirms ≡ confirms → going.due ≡ Some y → is_same_node x y ≡ true → is_at x m.table.sec ≡ true
      → Leads x (going_standing g going false) (going_standing g going true) (completing (Some y) confirms g)
  completing_here going y true g confirms due here there =
      leads_to x (going_standing g going false) (going_standing g going true) (send y (rec.Modcnf g) ∷ []) (rec.Modcnf g ∷ []) (λ views. put_here x y (rec.Modcnf g) views second here) (record {
        shift = λ w up owes.
            let at = lone_between (waiting_of (waits_at m x)) want.Rekey (asked_for up) w (sym (ap (λ b. (waiting_of (waits_at m x) ++ begun_as want.Rekey b) ++ asked_for up) asker) ∙ owes) in (
              None,
              ap (λ b. (waiting_of (waits_at m x) ++ begun_as want.Rekey b) ++ asked_for up) answered ∙ ap (λ l. (l ++ []) ++ asked_for up) at.0 ∙ at.1,
              (due_row (is_at x m.table.sec) (is_at x going.leaving) w (rec.Modcnf g) there (ap (λ z. has_row joined z (rec.Modcnf g)) at.2), (refl, refl)),
            );
        line = λ down line old. each_append (λ z. is_request z ≡ false) down (rec.Modcnf g ∷ []) line (refl, tt);
        answers = λ up old answers. answers;
        later = omega arith;
        within = (tt, tt);
        fits = λ mem w at down up all pair fit.
            fits_on x (going_standing g going false).bearing (going_standing g going true).bearing (rec.Modcnf g ∷ []) (later_same x (going_standing g going false).bearing) (record { free = λ at'. refl; below = tt }, tt) at down all fit;
      })
    where
      asker : ((going.confirms && not false) && is_at x going.due) ≡ true
      asker = ap (λ b. (b && true) && is_at x going.due) confirms ∙ ap (is_at x) due ∙ here

      answered : ((going.confirms && not true) && is_at x going.due) ≡ false
      answered = ap (λ b. b && is_at x going.due) (and_false going.confirms)
  completing_here going y false g confirms due here there =
      subst (λ v. Leads x v (going_standing g going true) (send y (rec.Recfg g) ∷ [])) (sym (owes_none g going (ap (λ b. begun_as want.Rekey ((b && true) && is_at x going.due)) confirms)))
      (leads_to x (going_standing g going true) (going_standing g going true) (send y (rec.Recfg g) ∷ []) (rec.Recfg g ∷ []) (λ views. put_here x y (rec.Recfg g) views second here) (record {
        shift = λ w up owes. (w, owes, (due_row (is_at x m.table.sec) (is_at x going.leaving) w (rec.Recfg g) there refl, (refl, refl)));
        line = λ down line old. each_append (λ z. is_request z ≡ false) down (rec.Recfg g ∷ []) line (refl, tt);
        answers = λ up old answers. answers;
        later = omega arith;
        within = (tt, tt);
        fits = λ mem w at down up all pair fit.
            fits_on x (going_standing g going false).bearing (going_standing g going true).bearing (rec.Recfg g ∷ []) (later_same x (going_standing g going false).bearing) (record { free = λ at'. refl; below = tt }, tt) at down all fit;
      }))

  completing_apart : (going : Going) (o : Option Node) (confirms : Bool) (g : ℕ) → going.due ≡ o → is_at x o ≡ false → Leads x (going_standing g going false) (going_standing g going true) (completing o confirms g)
  completing_apart going o confirms g due apart =
      subst (λ v. Leads x v (going_standing g going true) (completing o confirms g)) (sym (owes_none g going (ap (λ b. begun_as want.Rekey ((going.confirms && true) && b)) (ap (is_at x) due ∙ apart) ∙ ap (λ b. begun_as want.Rekey b) (and_false (going.confirms && true)))))
      (leads_none x (going_standing g going true) (completing o confirms g) (by o confirms apart))
    where
      by : (o : Option Node) (b : Bool) → is_at x o ≡ false → (views : Views) → put x (completing o b g) views ≡ []
      by None b is views = refl
      by (Some y) true is views = put_there x y (rec.Modcnf g) views second is
      by (Some y) false is views = put_there x y (rec.Recfg g) views second is

  completing_leads : (going : Going) (g : ℕ) → IsDueAt going.due m.table.sec → Leads x (going_standing g going false) (going_standing g going true) (completing going.due going.confirms g)
  completing_leads going g due = by going.due refl due
    where
      by : (o : Option Node) → going.due ≡ o → IsDueAt o m.table.sec → Leads x (going_standing g going false) (going_standing g going true) (completing o going.confirms g)
      by None at is = completing_apart going None going.confirms g at refl
      by (Some y) at is = one (is_same_node x y) refl
        where
          one : (b : Bool) → is_same_node x y ≡ b → Leads x (going_standing g going false) (going_standing g going true) (completing (Some y) going.confirms g)
          one true here = completing_here going y going.confirms g refl at here (ap (is_at x) is ∙ here)
          one false apart = completing_apart going (Some y) going.confirms g at apart

  completed_follows : (g : ℕ) → Follows x (standing x m s) (taken_or m (completed g m m.command))
  completed_follows g = by m.command refl stands apt.command
    where
      by : (o : Option Command) → m.command ≡ o → IsStandOf x o s → IsAptCommand m.table o → Follows x (standing x m s) (taken_or m (completed g m o))
      by None at is apt' = still
      by (Some (asked c first who wanted)) at is apt' = still
      by (Some (gone p going)) at is apt' = one going.complete refl
        where
          then' : going.complete ≡ false → (b : Bool) → Follows x (standing x m s) (taken_or m (completed_if m p going b))
          then' open' false = still
          then' open' true =
              let before : standing x m s ≡ going_standing p.g going false =
              ap (λ z. standing x m z) (gone_stand x p going s is) ∙ ap (λ c. record (standing x m (goes_on (is_at x going.leaving))) { owed = waiting_of (waits_at m x) ++ begun_for x c; bearing = bearing_by m c (goes_on (is_at x going.leaving)) }) at
              ∙ ap (λ b. going_standing p.g going b) open' in
              subst (λ v. Follows x v (taken_or m (completed_if m p going true))) (sym before)
              (before_follows x (going_standing p.g going false) (going_standing p.g going true) (completing going.due going.confirms p.g ++ unlock_all p.g ∷ []) (waits_for m (gone p (record going { complete = true })))
              (leads_then x (going_standing p.g going false) (going_standing p.g going true) (going_standing p.g going true) (completing going.due going.confirms p.g) (unlock_all p.g ∷ []) (completing_leads going p.g apt'.1.due)
              (leads_none x (going_standing p.g going true) (unlock_all p.g ∷ []) (λ views. refl)))
              (going_waits x second m p (record going { complete = true })
              (record { second = apt.second; rows = apt.rows; up = apt.up; command = (apt'.0, record { due = apt'.1.due; leaving = apt'.1.leaving; moving = apt'.1.moving }) })))

          one : (b : Bool) → going.complete ≡ b → Follows x (standing x m s) (taken_or m (completed_if m p going ((p.g == g) && not going.complete)))
          one true done = subst (λ b. Follows x (standing x m s) (taken_or m (completed_if m p going b))) (sym (ap (λ b. (p.g == g) && not b) done ∙ and_false (p.g == g))) still
          one false open' = then' open' ((p.g == g) && not going.complete)
      by (Some (recovering i terminal o)) at is apt' = still

  -- ---- any record

  -- from the terminal
  pub terminal_follows : (r : Rec) → Follows x (standing x m s) (taken_or m (from_terminal m r))
  terminal_follows (rec.Reconf plan key) = still
  terminal_follows (rec.Rcomp g) = completed_follows g
  terminal_follows (rec.Scgf failed) = failed_follows x second m apt s stands failed
  terminal_follows (rec.Recov id) = still
  terminal_follows (rec.Recovd id) = recovered_follows x second m apt s stands T id
  terminal_follows (rec.Addreq plan key) = still
  terminal_follows (rec.Addack g) = still
  terminal_follows (rec.Addrej g) = still
  terminal_follows (rec.Modreq plan key) = still
  terminal_follows (rec.Modack g) = still
  terminal_follows (rec.Modrej g) = still
  terminal_follows (rec.Recfg g) = still
  terminal_follows (rec.Relreq plan) = still
  terminal_follows (rec.Relack g) = still
  terminal_follows (rec.Relrej g) = still
  terminal_follows (rec.Uecr g) = still
  terminal_follows (rec.Snst status) = still
  terminal_follows (rec.Moved g id) = still
  terminal_follows (rec.Scgn id g) = still
  terminal_follows rec.Modrqd = still
  terminal_follows (rec.Modcnf g) = still
  terminal_follows (rec.Modref word) = still
  terminal_follows rec.Chgrqd = still
  terminal_follows (rec.Chgcnf plan) = still
  terminal_follows (rec.Chgref word) = still
  terminal_follows rec.Relrqd = still
  terminal_follows (rec.Relcnf plan) = still

  -- what comes of the news of an adoption, if the record is that
  abbrev pub OfMoved : Node → Rec → Type 0
  OfMoved y (rec.Moved g id) = Follows x (standing x m s) (taken_or m (moved y g id m m.command))
  OfMoved y _ = ⊤

  -- what is no word, from a secondary node
  pub other_follows : (y : Node) (r : Rec) → is_word r ≡ false → OfMoved y r → Follows x (standing x m s) (taken_or m (from_second y m r))
  other_follows y (rec.Reconf plan key) is own = still
  other_follows y (rec.Rcomp g) is own = still
  other_follows y (rec.Scgf failed) is own = still
  other_follows y (rec.Recov id) is own = still
  other_follows y (rec.Recovd id) is own = recovered_follows x second m apt s stands y id
  other_follows y (rec.Addreq plan key) is own = still
  other_follows y (rec.Addack g) is own = absurd cc
  other_follows y (rec.Addrej g) is own = absurd cc
  other_follows y (rec.Modreq plan key) is own = still
  other_follows y (rec.Modack g) is own = absurd cc
  other_follows y (rec.Modrej g) is own = absurd cc
  other_follows y (rec.Recfg g) is own = still
  other_follows y (rec.Relreq plan) is own = still
  other_follows y (rec.Relack g) is own = absurd cc
  other_follows y (rec.Relrej g) is own = absurd cc
  other_follows y (rec.Uecr g) is own = still
  other_follows y (rec.Snst status) is own = transferred_follows x second m apt s stands y status
  other_follows y (rec.Moved g id) is own = own
  other_follows y (rec.Scgn id g) is own = still
  other_follows y rec.Modrqd is own = absurd cc
  other_follows y (rec.Modcnf g) is own = still
  other_follows y (rec.Modref word) is own = still
  other_follows y rec.Chgrqd is own = absurd cc
  other_follows y (rec.Chgcnf plan) is own = still
  other_follows y (rec.Chgref word) is own = still
  other_follows y rec.Relrqd is own = absurd cc
  other_follows y (rec.Relcnf plan) is own = still

  -- what another secondary node asks for
  wanted_elsewhere : (y : Node) (k : Want) → is_same_node x y ≡ false → is_secondary y ≡ true → Follows x (standing x m s) (wanted_by y k m)
  wanted_elsewhere y k apart asker =
      subst (λ v. Follows x v (wanted_by y k m)) (ap (λ b. asking_standing x m s (begun_as k b)) apart ∙ more_none x m s) (wanted_follows x second m apt s stands y k asker)

  -- any record from another secondary node
  pub elsewhere_follows : (y : Node) (r : Rec) → is_same_node x y ≡ false → is_secondary y ≡ true → Follows x (standing x m s) (taken_or m (from_second y m r))
  elsewhere_follows y (rec.Reconf plan key) apart asker = other_follows y (rec.Reconf plan key) refl tt
  elsewhere_follows y (rec.Rcomp g) apart asker = other_follows y (rec.Rcomp g) refl tt
  elsewhere_follows y (rec.Scgf failed) apart asker = other_follows y (rec.Scgf failed) refl tt
  elsewhere_follows y (rec.Recov id) apart asker = other_follows y (rec.Recov id) refl tt
  elsewhere_follows y (rec.Recovd id) apart asker = other_follows y (rec.Recovd id) refl tt
  elsewhere_follows y (rec.Addreq plan key) apart asker = other_follows y (rec.Addreq plan key) refl tt
  elsewhere_follows y (rec.Addack g) apart asker = agreed_elsewhere x second m apt kind.Addack addition y g s apart stands
  elsewhere_follows y (rec.Addrej g) apart asker = rejected_elsewhere x second m apt kind.Addrej addition y g s apart stands
  elsewhere_follows y (rec.Modreq plan key) apart asker = other_follows y (rec.Modreq plan key) refl tt
  elsewhere_follows y (rec.Modack g) apart asker = agreed_elsewhere x second m apt kind.Modack modification y g s apart stands
  elsewhere_follows y (rec.Modrej g) apart asker = rejected_elsewhere x second m apt kind.Modrej modification y g s apart stands
  elsewhere_follows y (rec.Recfg g) apart asker = other_follows y (rec.Recfg g) refl tt
  elsewhere_follows y (rec.Relreq plan) apart asker = other_follows y (rec.Relreq plan) refl tt
  elsewhere_follows y (rec.Relack g) apart asker = subst (Follows x (standing x m s)) (sym (released_or m (agreed kind.Relack release y g m m.command))) (agreed_elsewhere x second m apt kind.Relack release y g s apart stands)
  elsewhere_follows y (rec.Relrej g) apart asker = rejected_elsewhere x second m apt kind.Relrej release y g s apart stands
  elsewhere_follows y (rec.Uecr g) apart asker = other_follows y (rec.Uecr g) refl tt
  elsewhere_follows y (rec.Snst status) apart asker = other_follows y (rec.Snst status) refl tt
  elsewhere_follows y (rec.Moved g id) apart asker = moved_follows x second m apt s stands y g id apart
  elsewhere_follows y (rec.Scgn id g) apart asker = other_follows y (rec.Scgn id g) refl tt
  elsewhere_follows y rec.Modrqd apart asker = wanted_elsewhere y want.Rekey apart asker
  elsewhere_follows y (rec.Modcnf g) apart asker = other_follows y (rec.Modcnf g) refl tt
  elsewhere_follows y (rec.Modref word) apart asker = other_follows y (rec.Modref word) refl tt
  elsewhere_follows y rec.Chgrqd apart asker = wanted_elsewhere y want.Change apart asker
  elsewhere_follows y (rec.Chgcnf plan) apart asker = other_follows y (rec.Chgcnf plan) refl tt
  elsewhere_follows y (rec.Chgref word) apart asker = other_follows y (rec.Chgref word) refl tt
  elsewhere_follows y rec.Relrqd apart asker = wanted_elsewhere y want.Release apart asker
  elsewhere_follows y (rec.Relcnf plan) apart asker = other_follows y (rec.Relcnf plan) refl tt
