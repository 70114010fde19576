-- A command begins, and a command ends.
use Rattle.std.proofs.Common.{ℕ, ◌≡◌, ◌++◌, ◌≤◌, Bool, true, false, List, [], ◌∷◌, Option, Some, None, refl, sym, ap, subst, ◌∙◌, inl, inr, ◌⊎◌, arith}
use Rattle.std.specs.Prelude.{fold, is_some}
use Rattle.std.specs.List.{AllByRecursion}
use Rattle.std.proofs.lemmas.List.{append-nil}
use Rattle.std.proofs.lemmas.Bool.{cases_Bool}
use Rattle.dc_base.specs.declared.events.Event.{Event}
use Rattle.dc_base.specs.declared.events.Event.TheVariants as event
use Rattle.dc_base.specs.declared.events.Note.TheVariants as note
use Rattle.dc_base.specs.declared.nodes.Node.{Node}
use Rattle.dc_base.specs.declared.nodes.Node.TheVariants.{A, B, M, T}
use Rattle.dc_base.specs.declared.nodes.Want.{Want}
use Rattle.dc_base.specs.declared.nodes.Want.TheVariants as want
use Rattle.dc_base.specs.declared.records.Plan.{Plan}
use Rattle.key_chain.specs.Book.{Claim}
use Rattle.claims.specs.Drafts.{command_of}
use Rattle.node_rules.specs.CommandTable.{carried}
use Rattle.node_rules.specs.Drafts.{Draft, draft}
use Rattle.node_rules.specs.MasterEnds.{and_then, ends, ends_gone, ends_if, ends_recovering, forgetting, is_release_spent, releases_if, retries, tried_first, tries, tries_if, tries_now, waits_for}
use Rattle.node_rules.specs.MasterGo.{alone, before_acts, begins, begins_by, drawn, first_record, goes, let_go, lets_go, moves_here, preparing}
use Rattle.node_rules.specs.MasterState.{MasterActs, MasterProc, waits_at, with_waits}
use Rattle.node_rules.specs.Places.{is_at, other_second}
use Rattle.node_rules.specs.declared.acts.Act.{Act}
use Rattle.node_rules.specs.declared.acts.Act.TheVariants.{Say as say, Send as send}
use Rattle.node_rules.specs.declared.commands.Change.{Change}
use Rattle.node_rules.specs.declared.commands.Command.{Command}
use Rattle.node_rules.specs.declared.commands.Command.TheVariants.{Asked as asked, Gone as gone, Recovering as recovering}
use Rattle.node_rules.specs.declared.commands.First.{First}
use Rattle.node_rules.specs.declared.commands.First.TheVariants.{Addition as addition, Modification as modification, Release as release}
use Rattle.node_rules.specs.declared.commands.Going.{Going}
use Rattle.node_rules.specs.declared.commands.Row.{Row}
use Rattle.node_rules.specs.declared.commands.Way.{Way}
use Rattle.run_table.specs.Orders.{OrderFits}
use Rattle.run_table.specs.SameTable.{Agree, AreFit, Fits, IsPlaced, IsSound, SameCommand}
use Rattle.run_table.specs.View.{View, draws, ends as ends_view}
use Rattle.run_table.specs.Words.{Ending, Words, begun_notes, by_words, done, ending_note, hears, lines_in, order_sends, over_notes}
use Rattle.run_table.proofs.Drafting.{IsDrawable, SameDrawn, same_drawn}
use Rattle.run_table.proofs.Fitting.{IsAllowed, fits_for}
use Rattle.run_table.proofs.Procs.{Goes, IsWordless, Opened, Speaks, agree_ended, agree_waits, carried_on, ended_by, ended_words, goes_after, stays}
use Rattle.run_table.proofs.Rows.{each_weaker}

-- nothing is said
pub none_said : IsWordless []
none_said = record { notes = refl; orders = refl; no_pass = refl }

preparing_wordless : (p : Plan) → IsWordless (preparing p)
preparing_wordless p =
    elim (cases_Bool (moves_here p)) [ inl yes' ↦ rw yes' (record { notes = refl; orders = refl; no_pass = refl }) | inr no' ↦ rw no' (record { notes = refl; orders = refl; no_pass = refl }) ]

first_wordless : (who : Node) (roots : List (List ℕ)) (f : First) (c : Change) → IsWordless (send who (first_record roots f c) ∷ [])
first_wordless who roots addition c = record { notes = refl; orders = refl; no_pass = refl }
first_wordless who roots modification c = record { notes = refl; orders = refl; no_pass = refl }
first_wordless who roots release c = record { notes = refl; orders = refl; no_pass = refl }

pub opened_after : (v : View) (acts : List Act) (r : MasterActs) → IsWordless acts → Opened v r → Opened v (before_acts acts r)
opened_after v acts r none o = record { goes = goes_after v acts r none o.goes; over = o.over; begun = o.begun }

-- ---- what a draft begins

module _ (v : View) (m : MasterProc) (d : Draft) (drawn' : SameDrawn v m d) (sound : IsSound m)
    (fit : AreFit d.change.plan.items × IsPlaced d.change.plan.sec (carried (drawn m d).table d.change).rows) where
  fits_drawn : Fits (drawn m d).table d.change
  fits_drawn = record { items = fit.0; placed = fit.1; last = refl; later = omega (arith, drawn'.next) }

  rows_drawn : AllByRecursion (λ (r : Row). r.est ≤ d.change.plan.g) m.table.rows
  rows_drawn =
      each_weaker (λ (r : Row). r.est ≤ m.table.last) (λ (r : Row). r.est ≤ d.change.plan.g) (λ r below. omega (arith, drawn'.next)) m.table.rows sound.rows

  claims_drawn : AllByRecursion (λ (c : Claim). c.est ≤ d.change.plan.g) d.book.claims
  claims_drawn =
      subst (λ cs. AllByRecursion (λ (c : Claim). c.est ≤ d.change.plan.g) cs) (sym drawn'.claims)
      (each_weaker (λ (c : Claim). c.est ≤ m.table.last) (λ (c : Claim). c.est ≤ d.change.plan.g) (λ c below. omega (arith, drawn'.next)) m.table.book.claims sound.claims)

  -- it is carried out at once
  pub goes_drawn : (w : Way) → Opened v (goes (drawn m d) d.change w)
  goes_drawn w = carried_on v (drawn m d) d.change drawn'.command w drawn'.rest drawn'.is_open drawn'.is_drawn drawn'.is_for fits_drawn rows_drawn claims_drawn

  by_first : (wanted : Bool) (o : Option (First × Node)) → Opened v (begins_by (drawn m d) d wanted o)
  by_first wanted None = goes_drawn alone
  by_first wanted (Some (first, who)) = record {
    goes =
        stays v (record (drawn m d) { command = Some (asked d.change first who wanted) }) (send who (first_record (drawn m d).table.book.roots first d.change) ∷ [])
        (first_wordless who (drawn m d).table.book.roots first d.change)
        (record {
          same = record {
            rest = drawn'.rest;
            command = subst (λ o. SameCommand v (Some (asked d.change first who wanted)) o) (sym drawn'.is_open) (drawn'.is_drawn, drawn'.is_for);
          };
          sound = record { placed = sound.placed; rows = rows_drawn; claims = claims_drawn; open_fits = fits_drawn };
        });
    over = refl;
    begun = refl;
  }

  pub begins_drawn : (wanted : Bool) → Opened v (begins m d wanted)
  begins_drawn wanted =
      opened_after v (preparing d.change.plan) (begins_by (drawn m d) d wanted d.first) (preparing_wordless d.change.plan) (by_first wanted d.first)

-- a command that the master draws
module _ (v : View) (m : MasterProc) (e : Event) (asker : Option Node) (agree : Agree v m) (may : IsAllowed m.table.sec e) (can : IsDrawable m.table.sec e) where
  pub begins_it : (wanted : Bool) (d : Draft) → draft m.table e ≡ Some d → Opened (draws e asker v) (begins m d wanted)
  begins_it wanted d is =
      begins_drawn (draws e asker v) m d (same_drawn e asker v m agree.same.rest d is can agree.sound.placed.anchors) agree.sound
      (fits_for m.table agree.sound.placed e d is may) wanted

  pub goes_it : (w : Way) (d : Draft) → draft m.table e ≡ Some d → Opened (draws e asker v) (goes (drawn m d) d.change w)
  goes_it w d is =
      goes_drawn (draws e asker v) m d (same_drawn e asker v m agree.same.rest d is can agree.sound.placed.anchors) agree.sound
      (fits_for m.table agree.sound.placed e d is may) w

-- ---- a command begins for a secondary node

-- a step in whose words no command ends
pub record Begun (v : View) (r : MasterActs) : Type 0 where
  pub goes : Goes v r
  pub over : goes.words.over ≡ None

begun_after : (v : View) (acts : List Act) (r : MasterActs) → IsWordless acts → Begun v r → Begun v (before_acts acts r)
begun_after v acts r none b = record { goes = goes_after v acts r none b.goes; over = b.over }

begun_speaks : (x : Want) (w : Words) (acts : List Act) → w.over ≡ None → w.begun ≡ None → Speaks w acts → Speaks (record w { begun = Some x }) (say (note.Begin x) ∷ acts)
begun_speaks x w acts over begun s = record {
  notes =
      ap (λ ns. note.Begin x ∷ ns) (s.notes ∙ ap (λ o. over_notes o ++ begun_notes w.begun) over ∙ ap (λ o. begun_notes o) begun)
      ∙ sym (ap (λ o. over_notes o ++ note.Begin x ∷ []) over);
  orders = s.orders;
  no_pass = s.no_pass;
}

begun_by : (x : Want) (w : Words) (v : View) → w.over ≡ None → w.begun ≡ None → by_words (record w { begun = Some x }) v ≡ by_words w (draws (command_of x) v.table.sec v)
begun_by x w v over begun =
    ap (λ o. fold hears v (lines_in (over_notes o ++ note.Begin x ∷ []) (order_sends w.order))) over
    ∙ sym (ap (λ o. fold hears (draws (command_of x) v.table.sec v) (lines_in (begun_notes o) (order_sends w.order))) begun)
    ∙ sym (ap (λ o. fold hears (draws (command_of x) v.table.sec v) (lines_in (over_notes o ++ begun_notes w.begun) (order_sends w.order))) over)

-- it begins, and what it does follows
pub begun_for : (x : Want) (v : View) (r : MasterActs) → Opened (draws (command_of x) v.table.sec v) r → Begun v (before_acts (say (note.Begin x) ∷ []) r)
begun_for x v r o = record {
  goes = record {
    words = record o.goes.words { begun = Some x };
    speaks = begun_speaks x o.goes.words r.1 o.over o.begun o.goes.speaks;
    agree = subst (λ u. Agree u r.0) (sym (begun_by x o.goes.words v o.over o.begun)) o.goes.agree;
    fits = subst (λ u. OrderFits u o.goes.words.order) (sym (begun_by x (record o.goes.words { order = None }) v o.over o.begun)) o.goes.fits;
  };
  over = o.over;
}

-- ---- a release that was asked for

-- nothing is said and all stays, or a release begins and is open
abbrev pub Tried : View → MasterActs → Type 0
Tried v r = (IsWordless r.1 × Agree v r.0) ⊎ (Begun v r × (is_some r.0.command ≡ true))

waits_table : (m : MasterProc) (w : Bool) (x : Node) → (with_waits w x m).table ≡ m.table
waits_table m w A = refl
waits_table m w B = refl
waits_table m w M = refl
waits_table m w T = refl

lets_it_go : (v : View) (m : MasterProc) (x : Node) (d : Draft) → Agree v m → draft m.table event.Release ≡ Some d → Tried v (lets_go m x d)
lets_it_go v m x d agree is =
    inr (
      begun_for want.Release v (before_acts (preparing d.change.plan) (goes (drawn m d) d.change (let_go x)))
          (opened_after (draws event.Release v.table.sec v) (preparing d.change.plan) (goes (drawn m d) d.change (let_go x)) (preparing_wordless d.change.plan)
          (goes_it v m event.Release v.table.sec agree tt tt (let_go x) d is)),
      refl,
    )

module _ (v : View) (m : MasterProc) (x : Node) (agree : Agree v m) where
  tried_release : (spent : Bool) (o : Option Draft) → draft m.table event.Release ≡ o → Tried v (releases_if m x spent o)
  tried_release spent None is = inl (none_said, agree)
  tried_release true (Some d) is = inl (none_said, agree)
  tried_release false (Some d) is =
      lets_it_go v (with_waits false x m) x d (agree_waits v m false x agree) (ap (λ t. draft t event.Release) (waits_table m false x) ∙ is)

  tried_now : (there : Bool) → Tried v (tries_now m x there)
  tried_now true = tried_release (is_release_spent m.table (draft m.table event.Release)) (draft m.table event.Release) refl
  tried_now false = inl (record { notes = refl; orders = refl; no_pass = refl }, agree_waits v m false x agree)

  tried_if : (waits : Bool) (c : Option Command) → Tried v (tries_if m x waits c)
  tried_if false c = inl (none_said, agree)
  tried_if true None = tried_now (is_at x m.table.sec)
  tried_if true (Some (asked c first who wanted)) = inl (none_said, agree)
  tried_if true (Some (gone plan going)) = inl (none_said, agree)
  tried_if true (Some (recovering id terminal second)) = inl (none_said, agree)

  pub tried : Tried v (tries x m)
  tried = tried_if (waits_at m x) m.command

-- where a command is open nothing is tried
not_tried : (m : MasterProc) (x : Node) (waits : Bool) (c : Option Command) → is_some c ≡ true → tries_if m x waits c ≡ (m, [])
not_tried m x false c open' = refl
not_tried m x true None open' = absurd cc
not_tried m x true (Some (asked c first who wanted)) open' = refl
not_tried m x true (Some (gone plan going)) open' = refl
not_tried m x true (Some (recovering id terminal second)) open' = refl

-- what was tried begins nothing, or a release
pub begun_tried : (v : View) (r : MasterActs) → Tried v r → Begun v r
begun_tried v r (inl (none, agree)) = record { goes = stays v r.0 r.1 none agree; over = refl }
begun_tried v r (inr (b, open')) = b

then_tried : (v : View) (y : Node) (r : MasterActs) → Tried v r → Begun v (and_then r (tries y))
then_tried v y r (inl (none, agree)) = begun_after v r.1 (tries y r.0) none (begun_tried v (tries y r.0) (tried v r.0 y agree))
then_tried v y r (inr (b, open')) =
    let is : and_then r (tries y) ≡ r = ap (λ (x : MasterActs). before_acts r.1 x) (not_tried r.0 y (waits_at r.0 y) r.0.command open') ∙ ap (λ acts. (r.0, acts)) (append-nil r.1) in
    subst (λ x. Begun v x) (sym is) b

pub retried : (v : View) (m : MasterProc) → Agree v m → Begun v (retries m)
retried v m agree = let x = tried_first m.table.sec in then_tried v (other_second x) (tries x m) (tried v m x agree)

-- ---- a command ends

pub ended : (v : View) (m : MasterProc) (acts : List Act) (x : Ending) → IsWordless acts → Agree v m → Goes v (ends m acts (ending_note x))
ended v m acts x none agree =
    let b = retried (ends_view v) (record m { command = None }) (agree_ended v m agree) in record {
      words = record b.goes.words { over = Some x };
      speaks = ended_words x b.goes.words acts (retries (record m { command = None })).1 b.over none b.goes.speaks;
      agree = subst (λ u. Agree u (retries (record m { command = None })).0) (sym (ended_by x b.goes.words v b.over)) b.goes.agree;
      fits = subst (λ u. OrderFits u b.goes.words.order) (sym (ended_by x (record b.goes.words { order = None }) v b.over)) b.goes.fits;
    }

forgetting_wordless : (o : Option Node) (g : ℕ) → IsWordless (forgetting o g)
forgetting_wordless None g = none_said
forgetting_wordless (Some x) g = record { notes = refl; orders = refl; no_pass = refl }

ended_gone : (v : View) (m : MasterProc) (p : Plan) (w : Going) (complete : Bool) (moving : List (ℕ × Node)) → Agree v m → Goes v (ends_gone m p w complete moving)
ended_gone v m p w false moving agree = stays v m [] none_said agree
ended_gone v m p w true (x ∷ xs) agree = stays v m [] none_said agree
ended_gone v m p w true [] agree = ended v m (forgetting w.leaving p.g) done (forgetting_wordless w.leaving p.g) agree

ended_recovering : (v : View) (m : MasterProc) (terminal : Bool) (second : Option Node) → Agree v m → Goes v (ends_recovering m terminal second)
ended_recovering v m false None agree = ended v m [] done none_said agree
ended_recovering v m false (Some x) agree = stays v m [] none_said agree
ended_recovering v m true second agree = stays v m [] none_said agree

ended_if : (v : View) (m : MasterProc) (c : Option Command) → Agree v m → Goes v (ends_if m c)
ended_if v m None agree = stays v m [] none_said agree
ended_if v m (Some (asked c first who wanted)) agree = stays v m [] none_said agree
ended_if v m (Some (gone plan going)) agree = ended_gone v m plan going going.complete going.moving agree
ended_if v m (Some (recovering id terminal second)) agree = ended_recovering v m terminal second agree

-- the state with an open command, which ends if nothing is awaited any more
pub waited : (v : View) (m : MasterProc) (c : Command) → Agree v (record m { command = Some c }) → Goes v (waits_for m c)
waited v m c agree = ended_if v (record m { command = Some c }) (Some c) agree
