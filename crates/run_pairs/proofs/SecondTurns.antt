-- A step of a secondary node: how the pair of it and the master goes on, and its bearers beside it.
use Rattle.std.proofs.Common.{ℕ, ◌≡◌, ◌++◌, Bool, true, false, List, [], ◌∷◌, Option, Some, None, refl, sym, ap, subst, ◌∙◌}
use Rattle.std.specs.Prelude.{Err, Ok, Result, if◌then◌else◌, is_some, map, not, ⊤}
use Rattle.std.proofs.lemmas.List.{append-nil}
use Rattle.dc_base.specs.Links.{link}
use Rattle.dc_base.specs.Nodes.{is_secondary}
use Rattle.dc_base.specs.declared.answers.Refusal.{Refusal}
use Rattle.dc_base.specs.declared.answers.Refusal.TheVariants as refusal
use Rattle.dc_base.specs.declared.events.Event.{Event}
use Rattle.dc_base.specs.declared.events.Event.TheVariants as event
use Rattle.dc_base.specs.declared.flights.Flight.TheVariants as flight
use Rattle.dc_base.specs.declared.nodes.Class.TheVariants.{Ctl}
use Rattle.dc_base.specs.declared.nodes.Node.{Node}
use Rattle.dc_base.specs.declared.nodes.Node.TheVariants.{M}
use Rattle.dc_base.specs.declared.nodes.Want.{Want}
use Rattle.dc_base.specs.declared.nodes.Want.TheVariants as want
use Rattle.dc_base.specs.declared.records.Rec.{Rec}
use Rattle.dc_base.specs.declared.records.Rec.TheVariants as rec
use Rattle.node_rules.specs.Acts.{ProcFault, first_refusal}
use Rattle.node_rules.specs.Choices.{Send}
use Rattle.node_rules.specs.Effects.{quiet}
use Rattle.node_rules.specs.MasterState.{MasterProc}
use Rattle.node_rules.specs.SecondRecords.{second_take}
use Rattle.node_rules.specs.SecondState.{SecondActs, SecondProc, is_joined, request, second_command, second_commands, second_commands_unless, second_refusals}
use Rattle.node_rules.specs.Secondary.{SecondNode, name_of}
use Rattle.node_rules.specs.declared.acts.Act.TheVariants.{Send as send}
use Rattle.node_rules.specs.declared.inputs.Effects.{Effects}
use Rattle.node_rules.specs.declared.inputs.Input.{Input}
use Rattle.run_control.specs.Rows.{has_row}
use Rattle.run_control.specs.SecondControl.{SecondHeard, SecondOrdered, SecondProjects, bare_flight, bare_record, fits, heard, no_row, not_ordered, ordered, records_sent, unfit}
use Rattle.run_control.specs.Steps.{SecondStepped, record_in, second_by_command, second_by_nothing, second_by_record, second_by_traffic}
use Rattle.run_control.specs.Traffic.{second_adopts, second_keeps}
use Rattle.run_control.specs.Views.{View, second_view}
use Rattle.run_control.proofs.EventTurns.{TakesBusy, second_busy, unless_busy}
use Rattle.run_control.proofs.Sent.{either}
use Rattle.run_control.proofs.Sequences.{no_records}
use Rattle.run_control.proofs.Turns.{never}
use Rattle.std.proofs.Common.{◌<◌, ◌≤◌, ◌+◌, ◌==◌, arith}
use Rattle.std.specs.List.{AllByRecursion}
use Rattle.std.proofs.lemmas.Bool.{eq-eqb}
use Rattle.run_control.specs.Claims.{IsStandOf, Stand, agreed_membership, agrees, asks, refuses}
use Rattle.run_control.specs.Rows.{is_outside, membership_after, wanted_after}
use Rattle.run_control.specs.Traffic.{with_view}
use Rattle.run_control.specs.Views.{adopting}
use Rattle.run_pairs.specs.Apt.{IsApt}
use Rattle.run_pairs.specs.Bearers.{KeepsHeld}
use Rattle.run_pairs.specs.Fits.{AreFitting, IsViewBelow, bearing_by}
use Rattle.run_pairs.specs.Pairs.{IsPair, Standing, standing, words}
use Rattle.run_pairs.proofs.ActKinds.{IsSaying}
use Rattle.run_pairs.proofs.Adoptions.{IsSaid}
use Rattle.run_pairs.proofs.BearersKept.{IsNoGo, adopts_keeps}
use Rattle.run_pairs.proofs.FitSteps.{view_below}
use Rattle.run_control.specs.SecondControl.{holds_there}
use Rattle.run_pairs.proofs.FitTurns.{bare_fits, fits_kept, fits_refused, fits_taken, leaves_held}
use Rattle.run_pairs.proofs.Pairing.{IsOfAsked, IsPaired, agreeing_pair, asked_first, asked_stand, asking_pair, of_asked, plain_pair, rejecting_pair, stand_agrees, stand_refuses}
use Rattle.run_pairs.proofs.SecondFits.{agreed_fit, asked_plan, emptied, kept_fit, left_fit, same_keeps}
use Rattle.run_pairs.proofs.SecondWords.{bare_heard, bare_row, projects_words, told_of, told_send, words_append}
use Rattle.run_pairs.proofs.Serving.{HoldsOn, IsHeardAs, IsServed, agreeing, kept_by, moved_by, plainly, rejecting, said, served}

-- the pair after what a secondary node did
abbrev pub PairedAfter : Node → MasterProc → SecondNode × Effects → List Rec → List Rec → Type 0
PairedAfter x m done down up = IsPaired x m done.0.proc.membership done.0.proc.want (second_view done.0) down (up ++ told_of x (records_sent done.1.sends))

less : (g last : ℕ) → g ≡ last → g < last + 1
less g last e = omega (arith, e)

le_next : (g last : ℕ) → g ≡ last → g ≤ last + 1
le_next g last e = omega (arith, e)

module _ (x : Node) (second : is_secondary x ≡ true) (m : MasterProc) (apt : IsApt m) (s : SecondNode) (named : name_of s ≡ x) where
  -- the pair before
  abbrev PairedBefore : List Rec → List Rec → Type 0
  PairedBefore down up = IsPaired x m s.proc.membership s.proc.want (second_view s) down up

  -- ---- by acts

  acts_after : (acts : SecondActs) (done : SecondNode × Effects) (down up : List Rec) → TakesBusy s.proc (Ok acts) → SecondProjects s acts done → (stand : Stand) → IsStandOf x m.command stand
      → IsPair (standing x m stand) acts.0.membership acts.0.want down (words up ++ words (said acts.1)) → AreFitting x (bearing_by m m.command stand) (second_view done.0) down (up ++ told_of x (records_sent done.1.sends))
      → (is_outside acts.0.membership ≡ true → (k : ℕ) → second_view done.0 k ≡ None) → PairedAfter x m done down up
  acts_after acts done down up busy projects stand stands pair fitting empty = record {
    stand = stand;
    stands = stands;
    pair = subst (λ (p : SecondProc). IsPair (standing x m stand) p.membership p.want down (words (up ++ told_of x (records_sent done.1.sends)))) (sym projects.proc)
        (subst (λ rs. IsPair (standing x m stand) acts.0.membership acts.0.want down rs)
        (sym (words_append up (told_of x (records_sent done.1.sends)) ∙ ap (λ rs. words up ++ rs) (projects_words x second s acts done named busy projects))) pair);
    fitting = fitting;
    empty = λ out. empty (sym (ap (λ (p : SecondProc). is_outside p.membership) projects.proc) ∙ out);
  }

  -- ---- the record that comes first

  heard_after : (r : Rec) (acts : SecondActs) (done : SecondNode × Effects) (down up : List Rec) → IsHeardAs s.proc r acts → TakesBusy s.proc (Ok acts) → SecondProjects s acts done → PairedBefore (r ∷ down) up → PairedAfter x m done down up
  heard_after r acts done down up (plainly plain member wanted told says holds_on) busy projects is = by holds_on
    where
      pair' : IsPair (standing x m is.stand) acts.0.membership acts.0.want down (words up ++ words (said acts.1))
      pair' =
          subst (λ n. IsPair (standing x m is.stand) n acts.0.want down (words up ++ words (said acts.1))) (sym member)
          (subst (λ z. IsPair (standing x m is.stand) (membership_after r s.proc.membership) z down (words up ++ words (said acts.1))) (sym wanted)
          (subst (λ zs. IsPair (standing x m is.stand) (membership_after r s.proc.membership) (wanted_after r s.proc.want) down (words up ++ zs)) (sym told)
          (plain_pair (standing x m is.stand) s.proc.membership s.proc.want r down (words up) plain is.pair)))

      by : HoldsOn s.proc r acts → PairedAfter x m done down up
      by (kept_by none same) =
          acts_after acts done down up busy projects is.stand is.stands pair'
          (kept_fit x second s named acts done busy projects none says same is.empty (bearing_by m m.command is.stand) down up (fits_taken x (bearing_by m m.command is.stand) (second_view s) r down up is.fitting))
          (emptied x second s named acts done busy projects none)
      by (moved_by mover still below forgets) =
          let b = bearing_by m m.command is.stand in
          let at = leaves_held x second m apt s.proc.membership s.proc.want is.pair.wants r down plain mover is.stand is.pair.line is.pair.reads (second_view done.0) in
          acts_after acts done down up busy projects is.stand is.stands pair' (left_fit x second s named acts done busy projects still says b (below b.below is.fitting.down_below.0) at.0 at.1 r down up mover is.fitting)
          (λ out. emptied x second s named acts done busy projects (forgets out) out)
  heard_after r acts done down up (rejecting request member wanted told says none) busy projects is = by (asked_stand is.stand r down request is.pair.line)
    where
      by : IsOfAsked is.stand → PairedAfter x m done down up
      by (of_asked f p e) =
          let pair : IsPair (standing x m (asks f p)) s.proc.membership s.proc.want (r ∷ down) (words up) = subst (λ z. IsPair (standing x m z) s.proc.membership s.proc.want (r ∷ down) (words up)) e is.pair in
          let fit : AreFitting x (bearing_by m m.command (asks f p)) (second_view s) (r ∷ down) up = subst (λ z. AreFitting x (bearing_by m m.command z) (second_view s) (r ∷ down) up) e is.fitting in
          let first = (asked_first f p r down request pair.line).first in
          let stands = subst (IsStandOf x m.command) e is.stands in
          let plan_is = asked_plan x m m.command f p stands apt.command in
          acts_after acts done down up busy projects (refuses f p) (stand_refuses x m.command f p stands)
          (subst (λ n. IsPair (standing x m (refuses f p)) n acts.0.want down (words up ++ words (said acts.1))) (sym member)
          (subst (λ z. IsPair (standing x m (refuses f p)) s.proc.membership z down (words up ++ words (said acts.1))) (sym wanted)
          (subst (λ zs. IsPair (standing x m (refuses f p)) s.proc.membership s.proc.want down (words up ++ zs)) (sym (told f p first)) (rejecting_pair x m f p s.proc.membership s.proc.want r down (words up) request pair))))
          (kept_fit x second s named acts done busy projects none says member is.empty (bearing_by m m.command (refuses f p)) down up
          (fits_refused x m m.command f p (second_view s) down up plan_is.0 (fits_taken x (bearing_by m m.command (asks f p)) (second_view s) r down up fit)))
          (emptied x second s named acts done busy projects none)
  heard_after r acts done down up (agreeing request member wanted told says carried below) busy projects is = by (asked_stand is.stand r down request is.pair.line)
    where
      by : IsOfAsked is.stand → PairedAfter x m done down up
      by (of_asked f p e) =
          let pair : IsPair (standing x m (asks f p)) s.proc.membership s.proc.want (r ∷ down) (words up) = subst (λ z. IsPair (standing x m z) s.proc.membership s.proc.want (r ∷ down) (words up)) e is.pair in
          let fit : AreFitting x (bearing_by m m.command (asks f p)) (second_view s) (r ∷ down) up = subst (λ z. AreFitting x (bearing_by m m.command z) (second_view s) (r ∷ down) up) e is.fitting in
          let first = (asked_first f p r down request pair.line).first in
          let stands = subst (IsStandOf x m.command) e is.stands in
          let plan_is = asked_plan x m m.command f p stands apt.command in
          acts_after acts done down up busy projects (agrees f p) (stand_agrees x m.command f p stands)
          (subst (λ n. IsPair (standing x m (agrees f p)) n acts.0.want down (words up ++ words (said acts.1))) (sym (member f p first))
          (subst (λ z. IsPair (standing x m (agrees f p)) (agreed_membership f) z down (words up ++ words (said acts.1))) (sym wanted)
          (subst (λ zs. IsPair (standing x m (agrees f p)) (agreed_membership f) s.proc.want down (words up ++ zs)) (sym (told f p first)) (agreeing_pair x m f p s.proc.membership s.proc.want r down (words up) request pair))))
          (agreed_fit x second s named acts done busy projects m f p (carried f p first) says (below (m.table.last + 1) f p first (less p.g m.table.last plan_is.0)) plan_is.0 plan_is.1 r down up request first
          (λ k. view_below p.g (m.table.last + 1) (le_next p.g m.table.last plan_is.0) (second_view s k) (fit.at_below k)) fit)
          (λ out. never (is_outside acts.0.membership) out (carried f p first).context)

  -- ---- by traffic, or by nothing

  -- the procedures as they were, without a word
  same_after : (done : SecondNode × Effects) (down up : List Rec) → done.0.proc ≡ s.proc → words (told_of x (records_sent done.1.sends)) ≡ [] → (is : PairedBefore down up)
      → AreFitting x (bearing_by m m.command is.stand) (second_view done.0) down (up ++ told_of x (records_sent done.1.sends)) → (is_outside s.proc.membership ≡ true → (k : ℕ) → second_view done.0 k ≡ None) → PairedAfter x m done down up
  same_after done down up proc none is fitting empty = record {
    stand = is.stand;
    stands = is.stands;
    pair = subst (λ (p : SecondProc). IsPair (standing x m is.stand) p.membership p.want down (words (up ++ told_of x (records_sent done.1.sends)))) (sym proc)
        (subst (λ rs. IsPair (standing x m is.stand) s.proc.membership s.proc.want down rs) (sym (words_append up (told_of x (records_sent done.1.sends)) ∙ ap (λ rs. words up ++ rs) none ∙ append-nil (words up))) is.pair);
    fitting = fitting;
    empty = λ out. empty (sym (ap (λ (p : SecondProc). is_outside p.membership) proc) ∙ out);
  }

  nothing_after : (done : SecondNode × Effects) (down up : List Rec) → done ≡ (s, quiet) → PairedBefore down up → PairedAfter x m done down up
  nothing_after done down up is pair = subst (λ (z : SecondNode × Effects). PairedAfter x m z down up) (sym is) (subst (λ rs. PairedBefore down rs) (sym (append-nil up)) pair)

  keeps_after : (done : SecondNode × Effects) (down up : List Rec) → done.0.proc ≡ s.proc → ((k : ℕ) → second_view done.0 k ≡ second_view s k) → told_of x (records_sent done.1.sends) ≡ [] → PairedBefore down up → PairedAfter x m done down up
  keeps_after done down up proc views none is =
      let b = bearing_by m m.command is.stand in
      same_after done down up proc (ap words none) is
      (fits_kept x b (second_view s) (second_view done.0) down up (told_of x (records_sent done.1.sends)) (same_keeps (second_view s) (second_view done.0) views)
      (λ k. subst (IsViewBelow b.below) (sym (views k)) (is.fitting.at_below k)) (subst (AllByRecursion (IsSaid x b (second_view done.0))) (sym none) tt) is.fitting)
      (λ out k. views k ∙ is.empty out k)

  adopts_after : (id : ℕ) (v : View) (done : SecondNode × Effects) (down up : List Rec) → second_view s id ≡ Some v → done.0.proc ≡ s.proc → ((k : ℕ) → second_view done.0 k ≡ with_view id (adopting v) (second_view s) k)
      → told_of x (records_sent done.1.sends) ≡ rec.Moved v.bearer.g id ∷ [] → PairedBefore down up → PairedAfter x m done down up
  adopts_after id v done down up at proc views told is =
      let b = bearing_by m m.command is.stand in
      let lt : IsViewBelow b.below (Some v) = subst (IsViewBelow b.below) at (is.fitting.at_below id) in
      let here : holds_there (second_view done.0 id) ≡ true = ap holds_there (views id ∙ ap (λ c. if c then Some (adopting v) else second_view s id) (eq-eqb id id refl)) in
      same_after done down up proc (ap words told) is
      (fits_kept x b (second_view s) (second_view done.0) down up (told_of x (records_sent done.1.sends))
      (λ k. subst (KeepsHeld (second_view s k)) (sym (views k)) (adopts_keeps id v (second_view s) at k))
      (λ k. subst (IsViewBelow b.below) (sym (views k)) (either (IsViewBelow b.below) (id == k) (Some (adopting v)) (second_view s k) lt (is.fitting.at_below k)))
      (subst (AllByRecursion (IsSaid x b (second_view done.0))) (sym told) ((λ same moves. here, lt), tt)) is.fitting)
      (λ out k. absurd (none_some (sym (is.empty out id) ∙ at)))
    where
      none_some : None ≡ Some v → ⊥
      none_some e = absurd cc

  -- ---- a command

  module _ (v : Standing) where
    -- nothing that matters changes
    abbrev IsStill : SecondActs → Type 0
    IsStill acts = (acts.0.membership ≡ s.proc.membership) × (acts.0.want ≡ s.proc.want) × (words (said acts.1) ≡ [])

    still_paired : (acts : SecondActs) (down up : List Rec) → IsStill acts → IsPair v s.proc.membership s.proc.want down up → IsPair v acts.0.membership acts.0.want down (up ++ words (said acts.1))
    still_paired acts down up is pair =
        subst (λ n. IsPair v n acts.0.want down (up ++ words (said acts.1))) (sym is.0)
        (subst (λ z. IsPair v s.proc.membership z down (up ++ words (said acts.1))) (sym is.1)
        (subst (λ rs. IsPair v s.proc.membership s.proc.want down rs) (sym (ap (λ rs. up ++ rs) is.2 ∙ append-nil up)) pair))

    -- the node may ask
    may_ask : (a b : Bool) (u w : Refusal) → first_refusal ((a, u) ∷ (b, w) ∷ []) ≡ None → b ≡ false
    may_ask true b u w is = absurd cc
    may_ask false true u w is = absurd cc
    may_ask false false u w is = refl

    no_want : (o : Option Want) → is_some o ≡ false → o ≡ None
    no_want None is = refl
    no_want (Some w) is = absurd cc

    request_word : (k : Want) → words (said (send M (request k) ∷ [])) ≡ request k ∷ []
    request_word want.Rekey = refl
    request_word want.Change = refl
    request_word want.Release = refl

    asks_after : (node : Node) (k : Want) (down up : List Rec) → first_refusal (second_refusals s.proc (event.Ask node k)) ≡ None → IsPair v s.proc.membership s.proc.want down up
        → IsPair v s.proc.membership (Some k) down (up ++ words (said (send M (request k) ∷ [])))
    asks_after node k down up free pair =
        let none = no_want s.proc.want (may_ask (not (is_joined s.proc.membership)) (is_some s.proc.want) refusal.NoSecondary refusal.Busy free) in
        subst (λ rs. IsPair v s.proc.membership (Some k) down (up ++ rs)) (sym (request_word k)) (asking_pair v s.proc.membership k down up (subst (λ z. IsPair v s.proc.membership z down up) none pair))

    -- the procedures carried a command on
    abbrev IsOrdered : Result SecondActs ProcFault → List Rec → List Rec → Type 0
    IsOrdered (Ok acts) down up = IsPair v acts.0.membership acts.0.want down (up ++ words (said acts.1))
    IsOrdered (Err why) down up = ⊤

    order_still : (e : Event) (o : Option Refusal) (down up : List Rec) → IsStill (second_commands s.proc e) → IsPair v s.proc.membership s.proc.want down up → IsOrdered (second_commands_unless s.proc e o) down up
    order_still e None down up is pair = still_paired (second_commands s.proc e) down up is pair
    order_still e (Some why) down up is pair = tt

    order_asks : (node : Node) (k : Want) (o : Option Refusal) (down up : List Rec) → first_refusal (second_refusals s.proc (event.Ask node k)) ≡ o → IsPair v s.proc.membership s.proc.want down up
        → IsOrdered (second_commands_unless s.proc (event.Ask node k) o) down up
    order_asks node k None down up is pair = asks_after node k down up is pair
    order_asks node k (Some why) down up is pair = tt

    command_paired : (e : Event) (down up : List Rec) → IsPair v s.proc.membership s.proc.want down up → IsOrdered (second_command s.proc e) down up
    command_paired (event.Bearer id n first shape threshold policy) down up pair = order_still (event.Bearer id n first shape threshold policy) (first_refusal (second_refusals s.proc (event.Bearer id n first shape threshold policy))) down up (refl, refl, refl) pair
    command_paired (event.Reshape id shape) down up pair = order_still (event.Reshape id shape) (first_refusal (second_refusals s.proc (event.Reshape id shape))) down up (refl, refl, refl) pair
    command_paired (event.Remove id) down up pair = order_still (event.Remove id) (first_refusal (second_refusals s.proc (event.Remove id))) down up (refl, refl, refl) pair
    command_paired (event.Add node) down up pair = order_still (event.Add node) (first_refusal (second_refusals s.proc (event.Add node))) down up (refl, refl, refl) pair
    command_paired event.Change down up pair = order_still event.Change (first_refusal (second_refusals s.proc event.Change)) down up (refl, refl, refl) pair
    command_paired event.Release down up pair = order_still event.Release (first_refusal (second_refusals s.proc event.Release)) down up (refl, refl, refl) pair
    command_paired event.RekeySecond down up pair = order_still event.RekeySecond (first_refusal (second_refusals s.proc event.RekeySecond)) down up (refl, refl, refl) pair
    command_paired (event.RekeyMaster root) down up pair = order_still (event.RekeyMaster root) (first_refusal (second_refusals s.proc (event.RekeyMaster root))) down up (refl, refl, refl) pair
    command_paired (event.Recover id) down up pair = order_still (event.Recover id) (first_refusal (second_refusals s.proc (event.Recover id))) down up (refl, refl, refl) pair
    command_paired (event.Report node id) down up pair = order_still (event.Report node id) (first_refusal (second_refusals s.proc (event.Report node id))) down up (refl, refl, refl) pair
    command_paired (event.Deny node on) down up pair = order_still (event.Deny node on) (first_refusal (second_refusals s.proc (event.Deny node on))) down up (refl, refl, refl) pair
    command_paired (event.Ask node what) down up pair = order_asks node what (first_refusal (second_refusals s.proc (event.Ask node what))) down up refl pair
    command_paired event.ScgFail down up pair = order_still event.ScgFail (first_refusal (second_refusals s.proc event.ScgFail)) down up (refl, refl, refl) pair
    command_paired (event.Submit id d payload) down up pair = order_still (event.Submit id d payload) (first_refusal (second_refusals s.proc (event.Submit id d payload))) down up (refl, refl, refl) pair
    command_paired (event.Step l i) down up pair = order_still (event.Step l i) (first_refusal (second_refusals s.proc (event.Step l i))) down up (refl, refl, refl) pair
    command_paired (event.Lose l i) down up pair = order_still (event.Lose l i) (first_refusal (second_refusals s.proc (event.Lose l i))) down up (refl, refl, refl) pair
    command_paired (event.Again l i) down up pair = order_still (event.Again l i) (first_refusal (second_refusals s.proc (event.Again l i))) down up (refl, refl, refl) pair

  -- it leaves the membership, carries no plan out, and tells of no adoption
  abbrev IsCalm : SecondActs → Type 0
  IsCalm acts = (acts.0.membership ≡ s.proc.membership) × AllByRecursion IsNoGo acts.1 × AllByRecursion IsSaying acts.1

  abbrev TakesCalm : Result SecondActs ProcFault → Type 0
  TakesCalm (Ok acts) = IsCalm acts
  TakesCalm (Err why) = ⊤

  asks_calm : (k : Want) → AllByRecursion IsSaying (send M (request k) ∷ [])
  asks_calm want.Rekey = (tt, tt)
  asks_calm want.Change = (tt, tt)
  asks_calm want.Release = (tt, tt)

  commands_calm : (e : Event) → IsCalm (second_commands s.proc e)
  commands_calm (event.Bearer id n first shape threshold policy) = (refl, tt, tt)
  commands_calm (event.Reshape id shape) = (refl, tt, tt)
  commands_calm (event.Remove id) = (refl, tt, tt)
  commands_calm (event.Add node) = (refl, tt, tt)
  commands_calm event.Change = (refl, tt, tt)
  commands_calm event.Release = (refl, tt, tt)
  commands_calm event.RekeySecond = (refl, tt, tt)
  commands_calm (event.RekeyMaster root) = (refl, tt, tt)
  commands_calm (event.Recover id) = (refl, tt, tt)
  commands_calm (event.Report node id) = (refl, tt, tt)
  commands_calm (event.Deny node on) = (refl, tt, tt)
  commands_calm (event.Ask node what) = (refl, (tt, tt), asks_calm what)
  commands_calm event.ScgFail = (refl, tt, tt)
  commands_calm (event.Submit id d payload) = (refl, tt, tt)
  commands_calm (event.Step l i) = (refl, tt, tt)
  commands_calm (event.Lose l i) = (refl, tt, tt)
  commands_calm (event.Again l i) = (refl, tt, tt)

  unless_calm : (e : Event) (o : Option Refusal) → TakesCalm (second_commands_unless s.proc e o)
  unless_calm e None = commands_calm e
  unless_calm e (Some why) = tt

  ordered_after : (e : Event) (done : SecondNode × Effects) (down up : List Rec) → SecondOrdered s e done → PairedBefore down up → PairedAfter x m done down up
  ordered_after e done down up (ordered acts taken is) pair =
      let busy : TakesBusy s.proc (Ok acts) = subst (TakesBusy s.proc) taken (unless_busy s.proc e (first_refusal (second_refusals s.proc e))) in
      let calm : IsCalm acts = subst TakesCalm taken (unless_calm e (first_refusal (second_refusals s.proc e))) in
      acts_after acts done down up busy is pair.stand pair.stands (subst (λ t. IsOrdered (standing x m pair.stand) t down (words up)) taken (command_paired (standing x m pair.stand) e down (words up) pair.pair))
      (kept_fit x second s named acts done busy is calm.1 calm.2 calm.0 pair.empty (bearing_by m m.command pair.stand) down up pair.fitting) (emptied x second s named acts done busy is calm.1)
  ordered_after e done down up (not_ordered why refused is) pair = nothing_after done down up is pair

  -- ---- any input that brings no record

  pub second_alone : (i : Input) (done : SecondNode × Effects) (down up : List Rec) → ((r : Rec) → record_in i ≡ Some r → ⊥) → SecondStepped s i done → PairedBefore down up → PairedAfter x m done down up
  second_alone i done down up never_given (second_by_traffic (second_keeps proc views sends ascends)) pair = keeps_after done down up proc views (ap (λ zs. told_of x zs) (no_records done.1.sends sends)) pair
  second_alone i done down up never_given (second_by_traffic (second_adopts id v at had proc views sends ascends)) pair =
      adopts_after id v done down up at proc views
      (ap (λ (zs : List Send). told_of x (map (λ (z : Send). (z.0, bare_flight z.1)) zs)) sends ∙ ap (λ me. told_of x ((link me M Ctl, flight.Ctl (rec.Moved v.bearer.g id)) ∷ [])) named ∙ told_send x M (rec.Moved v.bearer.g id) second) pair
  second_alone i done down up never_given (second_by_record r came_in is) pair = absurd (never_given r came_in)
  second_alone i done down up never_given (second_by_command e came_in is) pair = ordered_after e done down up is pair
  second_alone i done down up never_given (second_by_nothing is) pair = nothing_after done down up is pair

  -- ---- the record that comes first

  not_served : (r : Rec) (why : ProcFault) → second_take s.proc r ≡ Err why → has_row s.proc.membership s.proc.want r ≡ true → ⊥
  not_served r why taken row = subst (IsServed s.proc r) taken (served s.proc r row)

  pub second_hearing : (r : Rec) (done : SecondNode × Effects) (down up : List Rec) → SecondHeard s r done → PairedBefore (bare_record r ∷ down) up → PairedAfter x m done down up
  second_hearing r done down up (heard acts fit' taken is) pair =
      let row : has_row s.proc.membership s.proc.want r ≡ true = sym (bare_row s.proc.membership s.proc.want r) ∙ pair.pair.reads.0 in
      heard_after (bare_record r) acts done down up (bare_heard s.proc r acts (subst (IsServed s.proc r) taken (served s.proc r row))) (subst (TakesBusy s.proc) taken (second_busy s.proc r)) is pair
  second_hearing r done down up (unfit not' is) pair = never (fits x (second_view s) r) (bare_fits x (second_view s) r pair.fitting.line.0) (ap (λ me. fits me (second_view s) r) (sym named) ∙ not')
  second_hearing r done down up (no_row why taken is) pair = absurd (not_served r why taken (sym (bare_row s.proc.membership s.proc.want r) ∙ pair.pair.reads.0))
