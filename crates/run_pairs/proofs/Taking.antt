-- The master takes a record, or its anchor adopts a bearer: what that says to a secondary node.
use Rattle.std.proofs.lemmas.List.{append-nil}
use Rattle.run_control.proofs.Turns.{never}
use Rattle.run_control.specs.SecondControl.{Views}
use Rattle.run_pairs.specs.Pairs.{Standing}
use Rattle.run_pairs.proofs.Following.{follows_from}
use Rattle.std.proofs.Common.{◌+◌, ℕ, ◌≡◌, ◌++◌, ◌==◌, Bool, true, false, List, [], ◌∷◌, Option, Some, None, refl, sym, ap, subst, ◌∙◌, arith}
use Rattle.std.specs.Prelude.{◌||◌, Err, Ok, filter, find, if◌then◌else◌, not, ⊤, ◌&&◌}
use Rattle.std.specs.List.{AllByRecursion, flat_map, list_any}
use Rattle.dc_base.specs.Nodes.{is_same_node, is_secondary}
use Rattle.dc_base.specs.declared.nodes.Node.{Node}
use Rattle.dc_base.specs.declared.nodes.Node.TheVariants.{A, B, M, T}
use Rattle.dc_base.specs.declared.records.Plan.{Plan}
use Rattle.dc_base.specs.declared.records.Rec.{Rec}
use Rattle.dc_base.specs.declared.records.Rec.TheVariants as rec
use Rattle.dc_base.specs.declared.records.RecKind.TheVariants as kind
use Rattle.dc_base.specs.declared.records.StatusTransfer.{StatusTransfer}
use Rattle.transcript.proofs.OnEach.{each_append}
use Rattle.master_runs.proofs.Lists.{each_filter}
use Rattle.node_rules.specs.Acts.{unexpected}
use Rattle.node_rules.specs.CommandTable.{row}
use Rattle.node_rules.specs.MasterEnds.{waits_for}
use Rattle.node_rules.specs.MasterRecords.{adopted_if, failed_legs, failing, failing_at, is_moving, moved, passed_to, recovered, recovered_second, recovered_there, transferred}
use Rattle.node_rules.specs.MasterState.{MasterProc, waits_at}
use Rattle.node_rules.specs.MasterTaking.{adopted_here, master_adopted}
use Rattle.node_rules.specs.Places.{is_at}
use Rattle.node_rules.specs.declared.acts.Act.TheVariants.{FailOne as fail_one, Pass as pass, Send as send}
use Rattle.node_rules.specs.declared.commands.Command.{Command}
use Rattle.node_rules.specs.declared.commands.Command.TheVariants.{Asked as asked, Gone as gone, Recovering as recovering}
use Rattle.node_rules.specs.declared.commands.First.TheVariants.{Addition as addition, Modification as modification, Release as release}
use Rattle.node_rules.specs.declared.commands.Going.{Going}
use Rattle.node_rules.specs.declared.commands.Membership.TheVariants.{Joined as joined}
use Rattle.node_rules.specs.declared.commands.Row.{Row}
use Rattle.run_control.specs.Claims.{IsStandOf, Stand, agrees, asks, goes_on, membership_by, refuses, rests}
use Rattle.run_control.specs.Rows.{has_row, is_outside, is_request}
use Rattle.run_control.specs.SecondControl.{status_of}
use Rattle.run_control.proofs.Sent.{either}
use Rattle.run_pairs.specs.Bearers.{IsHeldAt}
use Rattle.run_pairs.specs.Fits.{Bearing, IsMovedHeld, bearing_by}
use Rattle.run_pairs.proofs.FitSteps.{IsLater, fits_on, later_same}
use Rattle.run_pairs.specs.Apt.{IsApt, IsAptCommand, IsPlaced, IsPlacedRow}
use Rattle.run_pairs.specs.Pairs.{IsLineOf, begun_for, standing, waiting_of}
use Rattle.run_pairs.proofs.Ending.{going_waits, recovering_waits}
use Rattle.run_pairs.proofs.Following.{Follows, Leads, follows_still, leads_none, leads_then, leads_to, taken_or}
use Rattle.run_pairs.proofs.Lines.{line_notice}
use Rattle.run_pairs.proofs.Putting.{put_here, put_there}
use Rattle.run_pairs.proofs.Replies.{node_itself, same_node}

-- what stands may be of an open command alone
pub gone_stand : (x : Node) (p : Plan) (going : Going) (s : Stand) → IsStandOf x (Some (gone p going)) s → s ≡ goes_on (is_at x going.leaving)
gone_stand x p going rests is = absurd is
gone_stand x p going (asks f q) is = absurd is
gone_stand x p going (refuses f q) is = absurd is
gone_stand x p going (agrees f q) is = absurd is
gone_stand x p going (goes_on l) is = ap (λ b. goes_on b) is

recovering_stand : (x : Node) (id : ℕ) (terminal : Bool) (o : Option Node) (s : Stand) → IsStandOf x (Some (recovering id terminal o)) s → s ≡ rests
recovering_stand x id terminal o rests is = refl
recovering_stand x id terminal o (asks f q) is = absurd is
recovering_stand x id terminal o (refuses f q) is = absurd is
recovering_stand x id terminal o (agrees f q) is = absurd is
recovering_stand x id terminal o (goes_on l) is = absurd is

-- the secondary node has a context
context_there : (b : Bool) (s : Stand) → b ≡ true → is_outside (membership_by b s) ≡ false
context_there true rests is = refl
context_there true (asks f p) is = refl
context_there true (refuses f p) is = refl
context_there true (agrees addition p) is = refl
context_there true (agrees modification p) is = refl
context_there true (agrees release p) is = refl
context_there true (goes_on l) is = refl
context_there false s is = absurd cc

-- and serves the terminal once the plan is carried out
pub joined_there : (b l : Bool) → b ≡ true → membership_by b (goes_on l) ≡ joined
joined_there true l is = refl
joined_there false l is = absurd cc

no_master : (x : Node) → is_secondary x ≡ true → is_same_node x M ≡ false
no_master T second = absurd cc
no_master M second = absurd cc
no_master A second = refl
no_master B second = refl

-- what moves to this node does so still, where a bearer that moved to another one does not
others_move : (x y : Node) (id k : ℕ) → is_same_node x y ≡ false → (zs : List (ℕ × Node)) → list_any (is_moving k x) (filter (λ z. not (is_moving id y z)) zs) ≡ list_any (is_moving k x) zs
others_move x y id k apart [] = refl
others_move x y id k apart (z ∷ zs) = by (is_moving id y z) refl (others_move x y id k apart zs)
  where
    not_mine : is_moving id y z ≡ true → is_moving k x z ≡ false
    not_mine moves = ap (λ b. (z.0 == k) && b) (by_node (is_same_node x z.1) refl) ∙ and_no (z.0 == k)
      where
        and_no : (b : Bool) → (b && false) ≡ false
        and_no true = refl
        and_no false = refl

        right : (b d : Bool) → (b && d) ≡ true → d ≡ true
        right true d is = is
        right false d is = absurd cc

        by_node : (b : Bool) → is_same_node x z.1 ≡ b → b ≡ false
        by_node false apart' = refl
        by_node true same =
            let mine : x ≡ z.1 = same_node x z.1 same in
            let its : y ≡ z.1 = same_node y z.1 (right (z.0 == id) (is_same_node y z.1) moves) in
            never (is_same_node x y) (subst (λ n. is_same_node x n ≡ true) (mine ∙ sym its) (node_itself x)) apart

    by : (b : Bool) → is_moving id y z ≡ b → list_any (is_moving k x) (filter (λ z. not (is_moving id y z)) zs) ≡ list_any (is_moving k x) zs
        → list_any (is_moving k x) (if not b then z ∷ filter (λ z. not (is_moving id y z)) zs else filter (λ z. not (is_moving id y z)) zs) ≡ (is_moving k x z || list_any (is_moving k x) zs)
    by true moves rest = rest ∙ sym (ap (λ b. b || list_any (is_moving k x) zs) (not_mine moves))
    by false stays rest = ap (λ b. is_moving k x z || b) rest

filtered_moved : (x y : Node) (id : ℕ) (rows : List Row) (zs : List (ℕ × Node)) (g n : ℕ) → is_same_node x y ≡ false → (at : Views) (r : Rec) → IsMovedHeld x (record { rows = rows; moving = zs; gen = g; below = n }) at r
    → IsMovedHeld x (record { rows = rows; moving = filter (λ z. not (is_moving id y z)) zs; gen = g; below = n }) at r
filtered_moved x y id rows zs g n apart at (rec.Reconf plan key) is = is
filtered_moved x y id rows zs g n apart at (rec.Rcomp h) is = is
filtered_moved x y id rows zs g n apart at (rec.Scgf failed) is = is
filtered_moved x y id rows zs g n apart at (rec.Recov k) is = is
filtered_moved x y id rows zs g n apart at (rec.Recovd k) is = is
filtered_moved x y id rows zs g n apart at (rec.Addreq plan key) is = is
filtered_moved x y id rows zs g n apart at (rec.Addack h) is = is
filtered_moved x y id rows zs g n apart at (rec.Addrej h) is = is
filtered_moved x y id rows zs g n apart at (rec.Modreq plan key) is = is
filtered_moved x y id rows zs g n apart at (rec.Modack h) is = is
filtered_moved x y id rows zs g n apart at (rec.Modrej h) is = is
filtered_moved x y id rows zs g n apart at (rec.Recfg h) is = is
filtered_moved x y id rows zs g n apart at (rec.Relreq plan) is = is
filtered_moved x y id rows zs g n apart at (rec.Relack h) is = is
filtered_moved x y id rows zs g n apart at (rec.Relrej h) is = is
filtered_moved x y id rows zs g n apart at (rec.Uecr h) is = is
filtered_moved x y id rows zs g n apart at (rec.Snst status) is = is
filtered_moved x y id rows zs g n apart at (rec.Moved h k) is = λ same moves. is same (sym (others_move x y id k apart zs) ∙ moves)
filtered_moved x y id rows zs g n apart at (rec.Scgn k h) is = is
filtered_moved x y id rows zs g n apart at rec.Modrqd is = is
filtered_moved x y id rows zs g n apart at (rec.Modcnf h) is = is
filtered_moved x y id rows zs g n apart at (rec.Modref word) is = is
filtered_moved x y id rows zs g n apart at rec.Chgrqd is = is
filtered_moved x y id rows zs g n apart at (rec.Chgcnf plan) is = is
filtered_moved x y id rows zs g n apart at (rec.Chgref word) is = is
filtered_moved x y id rows zs g n apart at rec.Relrqd is = is
filtered_moved x y id rows zs g n apart at (rec.Relcnf plan) is = is

later_filter : (x y : Node) (id : ℕ) (rows : List Row) (zs : List (ℕ × Node)) (g n : ℕ) → is_same_node x y ≡ false
    → IsLater x (record { rows = rows; moving = zs; gen = g; below = n }) (record { rows = rows; moving = filter (λ z. not (is_moving id y z)) zs; gen = g; below = n })
later_filter x y id rows zs g n apart = record {
  held = λ at held k. subst (λ b. IsHeldAt x (at k) b (find (λ (r : Row). r.id == k) rows)) (sym (others_move x y id k apart zs)) (held k);
  moved = filtered_moved x y id rows zs g n apart;
  below = omega arith;
}

-- a node that is placed and secondary is the secondary node
pub placed_at : (x : Node) (sec : Option Node) → is_secondary x ≡ true → IsPlaced sec x → is_at x sec ≡ true
placed_at T sec second is = absurd cc
placed_at M sec second is = absurd cc
placed_at A sec second is = is
placed_at B sec second is = is

module _ (x : Node) (second : is_secondary x ≡ true) (m : MasterProc) (apt : IsApt m) (s : Stand) (stands : IsStandOf x m.command s) where
  still : Follows x (standing x m s) (m, [])
  still = follows_still x m s stands apt

  -- ---- the failure of legs

  -- a failure is told to the anchor's node
  failed_leads : (y : Node) (id g : ℕ) → IsPlaced m.table.sec y → Leads x (standing x m s) (standing x m s) (send y (rec.Scgn id g) ∷ [])
  failed_leads y id g placed = by (is_same_node x y) refl
    where
      by : (b : Bool) → is_same_node x y ≡ b → Leads x (standing x m s) (standing x m s) (send y (rec.Scgn id g) ∷ [])
      by false apart = leads_none x (standing x m s) (send y (rec.Scgn id g) ∷ []) (λ views. put_there x y (rec.Scgn id g) views second apart)
      by true here =
          let at = placed_at x m.table.sec second (subst (IsPlaced m.table.sec) (sym (same_node x y here)) placed) in
          leads_to x (standing x m s) (standing x m s) (send y (rec.Scgn id g) ∷ []) (rec.Scgn id g ∷ []) (λ views. put_here x y (rec.Scgn id g) views second here) (record {
            shift = λ w up owes. (w, owes, (ap not (context_there (is_at x m.table.sec) s at), (refl, refl)));
            line = λ down line old. line_notice s down (rec.Scgn id g) refl line;
            answers = λ up old answers. answers;
            later = omega arith;
            within = (tt, tt);
            fits = λ mem w at down up all pair fit.
                fits_on x (standing x m s).bearing (standing x m s).bearing (rec.Scgn id g ∷ []) (later_same x (standing x m s).bearing) (record { free = λ at'. refl; below = tt }, tt) at down all fit;
          })

  failing_at_leads : (id g : ℕ) (y : Node) → IsPlaced m.table.sec y → Leads x (standing x m s) (standing x m s) (failing_at id g y)
  failing_at_leads id g M placed = leads_none x (standing x m s) (fail_one id g ∷ []) (λ views. refl)
  failing_at_leads id g A placed = failed_leads A id g placed
  failing_at_leads id g B placed = failed_leads B id g placed
  failing_at_leads id g T placed = leads_none x (standing x m s) [] (λ views. refl)

  failing_leads : (id g : ℕ) (o : Option Row) → IsPlacedRow m.table.sec o → Leads x (standing x m s) (standing x m s) (failing id g o)
  failing_leads id g None placed = leads_none x (standing x m s) [] (λ views. refl)
  failing_leads id g (Some r) placed = either (Leads x (standing x m s) (standing x m s)) (r.g == g) (failing_at id g r.anchor) [] (failing_at_leads id g r.anchor placed.0) (leads_none x (standing x m s) [] (λ views. refl))

  failed_each : (pairs : List (ℕ × ℕ)) → Leads x (standing x m s) (standing x m s) (flat_map (λ (z : ℕ × ℕ). failing z.0 z.1 (row m.table z.0)) pairs)
  failed_each [] = leads_none x (standing x m s) [] (λ views. refl)
  failed_each (z ∷ zs) =
      leads_then x (standing x m s) (standing x m s) (standing x m s) (failing z.0 z.1 (row m.table z.0)) (flat_map (λ (z : ℕ × ℕ). failing z.0 z.1 (row m.table z.0)) zs) (failing_leads z.0 z.1 (row m.table z.0) (apt.rows z.0)) (failed_each zs)

  pub failed_follows : (pairs : List (ℕ × ℕ)) → Follows x (standing x m s) (failed_legs m pairs)
  failed_follows pairs = record { stand = s; stands = stands; apt = apt; leads = failed_each pairs }

  -- ---- status transfers

  -- to the new anchor of a bearer that moves, if there is one
  abbrev IsTarget : Option (ℕ × Node) → Type 0
  IsTarget None = ⊤
  IsTarget (Some z) = IsPlaced m.table.sec z.1

  find_target : (id : ℕ) (zs : List (ℕ × Node)) → AllByRecursion (λ (z : ℕ × Node). IsPlaced m.table.sec z.1) zs → IsTarget (find (λ (z : ℕ × Node). z.0 == id) zs)
  find_target id [] all = tt
  find_target id (z ∷ zs) all = either IsTarget (z.0 == id) (Some z) (find (λ (y : ℕ × Node). y.0 == id) zs) all.0 (find_target id zs all.1)

  -- it is passed on to a node that serves the terminal
  status_leads : (y : Node) (status : StatusTransfer) (l : Bool) → s ≡ goes_on l → IsPlaced m.table.sec y → Leads x (standing x m s) (standing x m s) (send y (rec.Snst status) ∷ [])
  status_leads y status l at placed = by (is_same_node x y) refl
    where
      plain : (t : Stand) → t ≡ goes_on l → (down : List Rec) → IsLineOf t down → IsLineOf t (down ++ rec.Snst (status_of status.g status.id) ∷ [])
      plain rests is down line = absurd cc
      plain (asks f p) is down line = absurd cc
      plain (refuses f p) is down line = absurd cc
      plain (agrees f p) is down line = absurd cc
      plain (goes_on k) is down line = each_append (λ z. is_request z ≡ false) down (rec.Snst (status_of status.g status.id) ∷ []) line (refl, tt)

      by : (b : Bool) → is_same_node x y ≡ b → Leads x (standing x m s) (standing x m s) (send y (rec.Snst status) ∷ [])
      by false apart = leads_none x (standing x m s) (send y (rec.Snst status) ∷ []) (λ views. put_there x y (rec.Snst status) views second apart)
      by true here =
          let there = placed_at x m.table.sec second (subst (IsPlaced m.table.sec) (sym (same_node x y here)) placed) in
          let is : membership_by (is_at x m.table.sec) s ≡ joined = ap (membership_by (is_at x m.table.sec)) at ∙ joined_there (is_at x m.table.sec) l there in
          leads_to x (standing x m s) (standing x m s) (send y (rec.Snst status) ∷ []) (rec.Snst (status_of status.g status.id) ∷ []) (λ views. put_here x y (rec.Snst status) views second here) (record {
            shift = λ w up owes. (w, owes, (ap (λ n. has_row n w (rec.Snst (status_of status.g status.id))) is, (refl, refl)));
            line = λ down line old. plain s at down line;
            answers = λ up old answers. answers;
            later = omega arith;
            within = (tt, tt);
            fits = λ mem w at down up all pair fit.
                fits_on x (standing x m s).bearing (standing x m s).bearing (rec.Snst (status_of status.g status.id) ∷ []) (later_same x (standing x m s).bearing) (record { free = λ at'. refl; below = tt }, tt) at down all fit;
          })

  passed_follows : (status : StatusTransfer) (from : Node) (l : Bool) → s ≡ goes_on l → (o : Option (ℕ × Node)) → IsTarget o → Follows x (standing x m s) (taken_or m (passed_to m status from o))
  passed_follows status from l at None placed = still
  passed_follows status from l at (Some (id, M)) placed = record { stand = s; stands = stands; apt = apt; leads = leads_none x (standing x m s) (pass status ∷ []) (λ views. refl) }
  passed_follows status from l at (Some (id, A)) placed =
      either (λ t. Follows x (standing x m s) (taken_or m t)) (is_same_node from A) (Err (unexpected kind.Snst)) (Ok (m, send A (rec.Snst status) ∷ [])) still
      (record { stand = s; stands = stands; apt = apt; leads = status_leads A status l at placed })
  passed_follows status from l at (Some (id, B)) placed =
      either (λ t. Follows x (standing x m s) (taken_or m t)) (is_same_node from B) (Err (unexpected kind.Snst)) (Ok (m, send B (rec.Snst status) ∷ [])) still
      (record { stand = s; stands = stands; apt = apt; leads = status_leads B status l at placed })
  passed_follows status from l at (Some (id, T)) placed = still

  pub transferred_follows : (from : Node) (status : StatusTransfer) → Follows x (standing x m s) (taken_or m (transferred from status m m.command))
  transferred_follows from status = by m.command stands apt.command
    where
      by : (o : Option Command) → IsStandOf x o s → IsAptCommand m.table o → Follows x (standing x m s) (taken_or m (transferred from status m o))
      by None is apt' = still
      by (Some (asked c first who wanted)) is apt' = still
      by (Some (gone p going)) is apt' =
          passed_follows status from (is_at x going.leaving) (gone_stand x p going s is) (if p.g == status.g then find (λ (z : ℕ × Node). z.0 == status.id) going.moving else None)
          (either IsTarget (p.g == status.g) (find (λ (z : ℕ × Node). z.0 == status.id) going.moving) None (find_target status.id going.moving apt'.1.moving) tt)
      by (Some (recovering id terminal o)) is apt' = still

  -- ---- what the open command waits for

  -- the standing, where these bearers still move by the plan
  abbrev pub moving_standing : Plan → List (ℕ × Node) → Standing
  moving_standing p moving = record (standing x m s) { bearing = record { rows = m.table.rows; moving = moving; gen = p.g; below = m.table.last + 1 } }

  -- the plan that was carried out goes on with this
  pub going_follows : (p : Plan) (going : Going) (moving : List (ℕ × Node)) → m.command ≡ Some (gone p going) → AllByRecursion (λ (z : ℕ × Node). IsPlaced m.table.sec z.1) moving
      → Follows x (moving_standing p moving) (waits_for m (gone p (record going { moving = moving })))
  going_follows p going moving at placed =
      let stand_is = gone_stand x p going s (subst (λ c. IsStandOf x c s) at stands) in
      let apt' : IsAptCommand m.table (Some (gone p going)) = subst (IsAptCommand m.table) at apt.command in
      let fixed : Bearing = record { rows = m.table.rows; moving = moving; gen = p.g; below = m.table.last + 1 } in
      let before : moving_standing p moving ≡ standing x (record m { command = Some (gone p (record going { moving = moving })) }) (goes_on (is_at x going.leaving)) =
      ap (λ z. record (standing x m z) { bearing = fixed }) stand_is ∙ ap (λ c. record (standing x m (goes_on (is_at x going.leaving))) { owed = waiting_of (waits_at m x) ++ begun_for x c; bearing = fixed }) at in
      subst (λ v. Follows x v (waits_for m (gone p (record going { moving = moving })))) (sym before)
      (going_waits x second m p (record going { moving = moving })
      (record { second = apt.second; rows = apt.rows; up = apt.up; command = (apt'.0, record { due = apt'.1.due; leaving = apt'.1.leaving; moving = placed }) }))

  -- a bearer that another node adopted moves no longer: that is nothing to this one
  moves_aside : (p : Plan) (going : Going) (from : Node) (id : ℕ) → is_same_node x from ≡ false → m.command ≡ Some (gone p going)
      → Leads x (standing x m s) (moving_standing p (filter (λ y. not (is_moving id from y)) going.moving)) []
  moves_aside p going from id apart at =
      let stand_is = gone_stand x p going s (subst (λ c. IsStandOf x c s) at stands) in
      let v' = moving_standing p (filter (λ y. not (is_moving id from y)) going.moving) in
      let same : (standing x m s).bearing ≡ record { rows = m.table.rows; moving = going.moving; gen = p.g; below = m.table.last + 1 } =
      ap (λ z. bearing_by m m.command z) stand_is ∙ ap (λ c. bearing_by m c (goes_on (is_at x going.leaving))) at in
      leads_to x (standing x m s) v' [] [] (λ views. refl) (record {
        shift = λ w up owes. (w, owes, (refl, refl));
        line = λ down line old. subst (λ ds. IsLineOf s ds) (sym (append-nil down)) line;
        answers = λ up old answers. answers;
        later = omega arith;
        within = tt;
        fits = λ mem w at' down up all pair fit. fits_on x (standing x m s).bearing v'.bearing [] (subst (λ b. IsLater x b v'.bearing) (sym same) (later_filter x from id m.table.rows going.moving p.g (m.table.last + 1) apart)) tt at' down all fit;
      })

  recovering_follows : (i : ℕ) (terminal : Bool) (o : Option Node) (terminal' : Bool) (o' : Option Node) → m.command ≡ Some (recovering i terminal o) → Follows x (standing x m s) (waits_for m (recovering i terminal' o'))
  recovering_follows i terminal o terminal' o' at =
      let before : standing x m s ≡ standing x (record m { command = Some (recovering i terminal' o') }) rests =
      ap (λ z. standing x m z) (recovering_stand x i terminal o s (subst (λ c. IsStandOf x c s) at stands)) ∙ ap (λ c. record (standing x m rests) { owed = waiting_of (waits_at m x) ++ begun_for x c; bearing = bearing_by m c rests }) at in
      subst (λ v. Follows x v (waits_for m (recovering i terminal' o'))) (sym before) (recovering_waits x second m i terminal' o' (record { second = apt.second; rows = apt.rows; up = apt.up; command = tt }))

  -- another node says that it adopted a bearer
  pub moved_follows : (from : Node) (g id : ℕ) → is_same_node x from ≡ false → Follows x (standing x m s) (taken_or m (moved from g id m m.command))
  moved_follows from g id apart = by m.command refl apt.command
    where
      by : (o : Option Command) → m.command ≡ o → IsAptCommand m.table o → Follows x (standing x m s) (taken_or m (moved from g id m o))
      by None at apt' = still
      by (Some (asked c first who wanted)) at apt' = still
      by (Some (gone p going)) at apt' = one ((p.g == g) && list_any (is_moving id from) going.moving)
        where
          one : (b : Bool) → Follows x (standing x m s) (taken_or m (adopted_if kind.Moved m id from p going b))
          one true =
              follows_from x (standing x m s) (moving_standing p (filter (λ y. not (is_moving id from y)) going.moving)) _ (moves_aside p going from id apart at)
              (going_follows p going (filter (λ y. not (is_moving id from y)) going.moving) at
              (each_filter (λ (z : ℕ × Node). IsPlaced m.table.sec z.1) (λ y. not (is_moving id from y)) going.moving apt'.1.moving))
          one false = still
      by (Some (recovering i terminal o)) at apt' = still

  -- the master's own anchor adopts a bearer
  pub adoption_follows : (id : ℕ) → Follows x (standing x m s) (master_adopted m id)
  adoption_follows id = by m.command refl apt.command
    where
      by : (o : Option Command) → m.command ≡ o → IsAptCommand m.table o → Follows x (standing x m s) (adopted_here id m o)
      by None at apt' = still
      by (Some (asked c first who wanted)) at apt' = still
      by (Some (gone p going)) at apt' =
          follows_from x (standing x m s) (moving_standing p (filter (λ y. not (is_moving id M y)) going.moving)) _ (moves_aside p going M id (no_master x second) at)
          (going_follows p going (filter (λ y. not (is_moving id M y)) going.moving) at (each_filter (λ (z : ℕ × Node). IsPlaced m.table.sec z.1) (λ y. not (is_moving id M y)) going.moving apt'.1.moving))
      by (Some (recovering i terminal o)) at apt' = still

  pub recovered_follows : (from : Node) (id : ℕ) → Follows x (standing x m s) (taken_or m (recovered from id m m.command))
  recovered_follows from id = by m.command refl
    where
      there : (i : ℕ) (terminal : Bool) (o : Option Node) → m.command ≡ Some (recovering i terminal o) → (b : Bool) → Follows x (standing x m s) (taken_or m (recovered_there m i o b))
      there i terminal o at true = recovering_follows i terminal o false o at
      there i terminal o at false = still

      here : (i : ℕ) (terminal : Bool) (o : Option Node) → m.command ≡ Some (recovering i terminal o) → (b : Bool) → Follows x (standing x m s) (taken_or m (recovered_second m i terminal b))
      here i terminal o at true = recovering_follows i terminal o terminal None at
      here i terminal o at false = still

      at_node : (y : Node) (i : ℕ) (terminal : Bool) (o : Option Node) → m.command ≡ Some (recovering i terminal o) → Follows x (standing x m s) (taken_or m (recovered y id m (Some (recovering i terminal o))))
      at_node T i terminal o at = there i terminal o at (terminal && (i == id))
      at_node A i terminal o at = here i terminal o at (is_at A o && (i == id))
      at_node B i terminal o at = here i terminal o at (is_at B o && (i == id))
      at_node M i terminal o at = still

      by : (o : Option Command) → m.command ≡ o → Follows x (standing x m s) (taken_or m (recovered from id m o))
      by None at = still
      by (Some (asked c first who wanted)) at = still
      by (Some (gone p going)) at = still
      by (Some (recovering i terminal o)) at = at_node from i terminal o at
