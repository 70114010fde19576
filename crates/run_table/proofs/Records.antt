-- What the master does with a record keeps both tables the same.
use Rattle.std.proofs.Common.{ℕ, ◌≡◌, ◌++◌, ◌==◌, ◌&&◌, Bool, true, false, List, [], ◌∷◌, Option, Some, None, refl, subst, inl, inr, ◌⊎◌}
use Rattle.std.specs.Prelude.{Ok, Err, Result, filter, find, if◌then◌else◌, is_some, not, ⊤}
use Rattle.std.specs.List.{flat_map, list_any}
use Rattle.std.proofs.lemmas.Bool.{cases_Bool}
use Rattle.dc_base.specs.Nodes.{is_same_node}
use Rattle.dc_base.specs.declared.answers.Word.{Word}
use Rattle.dc_base.specs.declared.events.Event.{Event}
use Rattle.dc_base.specs.declared.events.Event.TheVariants as event
use Rattle.dc_base.specs.declared.events.Note.TheVariants as note
use Rattle.dc_base.specs.declared.nodes.Node.{Node}
use Rattle.dc_base.specs.declared.nodes.Node.TheVariants.{A, B, M, T}
use Rattle.dc_base.specs.declared.nodes.Want.{Want}
use Rattle.dc_base.specs.declared.nodes.Want.TheVariants as want
use Rattle.dc_base.specs.declared.records.Plan.{Plan}
use Rattle.dc_base.specs.declared.records.Rec.{Rec}
use Rattle.dc_base.specs.declared.records.Rec.TheVariants as rec
use Rattle.dc_base.specs.declared.records.RecKind.{RecKind}
use Rattle.dc_base.specs.declared.records.RecKind.TheVariants as kind
use Rattle.dc_base.specs.declared.records.StatusTransfer.{StatusTransfer}
use Rattle.claims.specs.Drafts.{command_of}
use Rattle.claims.specs.Table as claims
use Rattle.node_rules.specs.Acts.{ProcFault}
use Rattle.node_rules.specs.CommandTable.{row}
use Rattle.node_rules.specs.Drafts.{Draft, draft}
use Rattle.node_rules.specs.MasterEnds.{tries, waits_for}
use Rattle.node_rules.specs.MasterGo.{before_acts, begins, goes, way}
use Rattle.node_rules.specs.MasterRecords.{adopted_if, agreed, agreed_if, asking_refusal, begins_asked, completed, completed_if, completing, failing, failing_at, is_answer, is_moving, moved, passed_to, recovered, recovered_at, recovered_second, recovered_there, rejected, rejected_if, rejecting, released, transferred, wanted_by}
use Rattle.node_rules.specs.MasterState.{MasterActs, MasterProc, with_waits}
use Rattle.node_rules.specs.MasterTaking.{adopted_here, from_second, from_terminal, master_adopted, master_take}
use Rattle.node_rules.specs.Places.{is_at}
use Rattle.node_rules.specs.declared.acts.Act.TheVariants.{Pass as pass, Say as say, Send as send, UnlockAll as unlock_all}
use Rattle.node_rules.specs.declared.commands.Change.{Change}
use Rattle.node_rules.specs.declared.commands.Command.{Command}
use Rattle.node_rules.specs.declared.commands.Command.TheVariants.{Asked as asked, Gone as gone, Recovering as recovering}
use Rattle.node_rules.specs.declared.commands.First.{First}
use Rattle.node_rules.specs.declared.commands.First.TheVariants.{Addition as addition, Modification as modification, Release as release}
use Rattle.node_rules.specs.declared.commands.Going.{Going}
use Rattle.node_rules.specs.declared.commands.Row.{Row}
use Rattle.node_rules.specs.declared.commands.Way.{Way}
use Rattle.run_table.specs.SameTable.{Agree, Fits, FitsOpen, SameCommand}
use Rattle.run_table.specs.View.{View}
use Rattle.run_table.specs.Words as words
use Rattle.run_table.proofs.Drafting.{IsDrawable}
use Rattle.run_table.proofs.Fitting.{IsAllowed}
use Rattle.run_table.proofs.Procs.{Goes, IsWordless, agree_waits, carried_on, goes_after, stays, wordless_both}
use Rattle.run_table.proofs.Beginnings.{begins_it, begun_for, begun_tried, ended, none_said, tried, waited}

-- what a record has it do, if anything
abbrev pub GoesIf : View → Result MasterActs ProcFault → Type 0
GoesIf v (Ok r) = Goes v r
GoesIf v (Err why) = ⊤

-- or a status transfer is given to the master's own anchor, and that is all
pub record Passes (m : MasterProc) (r : MasterActs) : Type 0 where
  pub status : StatusTransfer
  pub is : r ≡ (m, pass status ∷ [])

abbrev pub TakenIf : View → MasterProc → Result MasterActs ProcFault → Type 0
TakenIf v m (Ok r) = Goes v r ⊎ Passes m r
TakenIf v m (Err why) = ⊤

goes_so : (v : View) (m : MasterProc) (r : Result MasterActs ProcFault) → GoesIf v r → TakenIf v m r
goes_so v m (Ok r) g = inl g
goes_so v m (Err why) g = tt

-- ---- another part of the command that is open

gone_so : (v : View) (p : Plan) (w w' : Going) (o : Option claims.Command) → SameCommand v (Some (gone p w)) o → SameCommand v (Some (gone p w')) o
gone_so v p w w' None is = is
gone_so v p w w' (Some k) is = is

still_gone : (v : View) (m : MasterProc) (p : Plan) (w w' : Going) → m.command ≡ Some (gone p w) → Agree v m → Agree v (record m { command = Some (gone p w') })
still_gone v m p w w' is a = record {
  same = record { rest = a.same.rest; command = gone_so v p w w' v.table.command (subst (λ c. SameCommand v c v.table.command) is a.same.command) };
  sound = record { placed = a.sound.placed; rows = a.sound.rows; claims = a.sound.claims; open_fits = subst (λ c. FitsOpen m.table c) is a.sound.open_fits };
}

recovering_so : (v : View) (id : ℕ) (t t' : Bool) (x x' : Option Node) (o : Option claims.Command) → SameCommand v (Some (recovering id t x)) o → SameCommand v (Some (recovering id t' x')) o
recovering_so v id t t' x x' None is = is
recovering_so v id t t' x x' (Some k) is = is

still_recovering : (v : View) (m : MasterProc) (id : ℕ) (t t' : Bool) (x x' : Option Node) → m.command ≡ Some (recovering id t x) → Agree v m
    → Agree v (record m { command = Some (recovering id t' x') })
still_recovering v m id t t' x x' is a = record {
  same = record { rest = a.same.rest; command = recovering_so v id t t' x x' v.table.command (subst (λ c. SameCommand v c v.table.command) is a.same.command) };
  sound = record { placed = a.sound.placed; rows = a.sound.rows; claims = a.sound.claims; open_fits = tt };
}

-- ---- the answers to a first record

module _ (v : View) (m : MasterProc) (agree : Agree v m) where
  agreed_with : (c : Change) (first : First) (who : Node) (wanted : Bool) (w : Way) → Fits m.table c → (o : Option claims.Command) → v.table.command ≡ o → SameCommand v (Some (asked c first who wanted)) o
      → Goes v (goes m c w)
  agreed_with c first who wanted w fits None is same = absurd same
  agreed_with c first who wanted w fits (Some k) is same = (carried_on v m c k w agree.same.rest is same.0 same.1 fits agree.sound.rows agree.sound.claims).goes

  agreed_now : (k : RecKind) (c : Change) (first : First) (who : Node) (wanted : Bool) → m.command ≡ Some (asked c first who wanted) → (is : Bool) → GoesIf v (agreed_if k m c first who wanted is)
  agreed_now k c first who wanted open' true =
      agreed_with c first who wanted (way first who wanted m.table.sec) (subst (λ o. FitsOpen m.table o) open' agree.sound.open_fits) v.table.command refl
      (subst (λ o. SameCommand v o v.table.command) open' agree.same.command)
  agreed_now k c first who wanted open' false = tt

  on_agreed : (k : RecKind) (f : First) (from : Node) (g : ℕ) (o : Option Command) → m.command ≡ o → GoesIf v (agreed k f from g m o)
  on_agreed k f from g None is = tt
  on_agreed k f from g (Some (asked c first who wanted)) is = agreed_now k c first who wanted is (is_answer f from g first who c.plan.g)
  on_agreed k f from g (Some (gone plan going)) is = tt
  on_agreed k f from g (Some (recovering id terminal second)) is = tt

  on_released : (r : Result MasterActs ProcFault) → GoesIf v r → GoesIf v (released r m)
  on_released (Ok r) g = g
  on_released (Err why) g = stays v m [] none_said agree

  rejecting_wordless : (first : First) (who : Node) (wanted : Bool) → IsWordless (rejecting first who wanted)
  rejecting_wordless first who false = none_said
  rejecting_wordless addition who true = record { notes = refl; orders = refl; no_pass = refl }
  rejecting_wordless modification who true = record { notes = refl; orders = refl; no_pass = refl }
  rejecting_wordless release who true = none_said

  rejected_now : (k : RecKind) (first : First) (who : Node) (wanted is : Bool) → GoesIf v (rejected_if k m first who wanted is)
  rejected_now k first who wanted true = ended v m (rejecting first who wanted) words.rejected (rejecting_wordless first who wanted) agree
  rejected_now k first who wanted false = tt

  on_rejected : (k : RecKind) (f : First) (from : Node) (g : ℕ) (o : Option Command) → GoesIf v (rejected k f from g m o)
  on_rejected k f from g None = tt
  on_rejected k f from g (Some (asked c first who wanted)) = rejected_now k first who wanted (is_answer f from g first who c.plan.g)
  on_rejected k f from g (Some (gone plan going)) = tt
  on_rejected k f from g (Some (recovering id terminal second)) = tt

  -- ---- the terminal's answers

  completing_wordless : (o : Option Node) (confirms : Bool) (g : ℕ) → IsWordless (completing o confirms g ++ unlock_all g ∷ [])
  completing_wordless None confirms g = record { notes = refl; orders = refl; no_pass = refl }
  completing_wordless (Some x) true g = record { notes = refl; orders = refl; no_pass = refl }
  completing_wordless (Some x) false g = record { notes = refl; orders = refl; no_pass = refl }

  completed_now : (p : Plan) (w : Going) → m.command ≡ Some (gone p w) → (is : Bool) → GoesIf v (completed_if m p w is)
  completed_now p w open' true =
      let w' : Going = record w { complete = true } in
      goes_after v (completing w.due w.confirms p.g ++ unlock_all p.g ∷ []) (waits_for m (gone p w')) (completing_wordless w.due w.confirms p.g)
      (waited v m (gone p w') (still_gone v m p w w' open' agree))
  completed_now p w open' false = tt

  on_completed : (g : ℕ) (o : Option Command) → m.command ≡ o → GoesIf v (completed g m o)
  on_completed g None is = tt
  on_completed g (Some (asked c first who wanted)) is = tt
  on_completed g (Some (gone p w)) is = completed_now p w is ((p.g == g) && not w.complete)
  on_completed g (Some (recovering id terminal second)) is = tt

  failing_to : (id g : ℕ) (x : Node) → IsWordless (failing_at id g x)
  failing_to id g M = record { notes = refl; orders = refl; no_pass = refl }
  failing_to id g A = record { notes = refl; orders = refl; no_pass = refl }
  failing_to id g B = record { notes = refl; orders = refl; no_pass = refl }
  failing_to id g T = record { notes = refl; orders = refl; no_pass = refl }

  failing_row : (id g : ℕ) (o : Option Row) → IsWordless (failing id g o)
  failing_row id g None = none_said
  failing_row id g (Some r) = elim (cases_Bool (r.g == g)) [ inl yes' ↦ rw yes' (failing_to id g r.anchor) | inr no' ↦ rw no' none_said ]

  failing_all : (pairs : List (ℕ × ℕ)) → IsWordless (flat_map (λ (x : ℕ × ℕ). failing x.0 x.1 (row m.table x.0)) pairs)
  failing_all [] = none_said
  failing_all (x ∷ xs) =
      wordless_both (failing x.0 x.1 (row m.table x.0)) (flat_map (λ (y : ℕ × ℕ). failing y.0 y.1 (row m.table y.0)) xs) (failing_row x.0 x.1 (row m.table x.0)) (failing_all xs)

  -- ---- recoveries and moves

  recovered_at_terminal : (id : ℕ) (t : Bool) (x : Option Node) → m.command ≡ Some (recovering id t x) → (is : Bool) → GoesIf v (recovered_there m id x is)
  recovered_at_terminal id t x open' true = waited v m (recovering id false x) (still_recovering v m id t false x x open' agree)
  recovered_at_terminal id t x open' false = tt

  recovered_at_second : (id : ℕ) (t : Bool) (x : Option Node) → m.command ≡ Some (recovering id t x) → (is : Bool) → GoesIf v (recovered_second m id t is)
  recovered_at_second id t x open' true = waited v m (recovering id t None) (still_recovering v m id t t x None open' agree)
  recovered_at_second id t x open' false = tt

  on_recovered_at : (from : Node) (id : ℕ) (t : Bool) (x : Option Node) → m.command ≡ Some (recovering id t x) → (same : Bool) → GoesIf v (recovered_at from m id t x same)
  on_recovered_at T id t x open' same = recovered_at_terminal id t x open' (t && same)
  on_recovered_at A id t x open' same = recovered_at_second id t x open' (is_at A x && same)
  on_recovered_at B id t x open' same = recovered_at_second id t x open' (is_at B x && same)
  on_recovered_at M id t x open' same = tt

  on_recovered : (from : Node) (id : ℕ) (o : Option Command) → m.command ≡ o → GoesIf v (recovered from id m o)
  on_recovered from id None is = tt
  on_recovered from id (Some (asked c first who wanted)) is = tt
  on_recovered from id (Some (gone plan going)) is = tt
  on_recovered from id (Some (recovering i t x)) is = on_recovered_at from i t x is (i == id)

  adopted_now : (k : RecKind) (id : ℕ) (x : Node) (p : Plan) (w : Going) → m.command ≡ Some (gone p w) → (is : Bool) → GoesIf v (adopted_if k m id x p w is)
  adopted_now k id x p w open' true =
      let w' : Going = record w { moving = filter (λ y. not (is_moving id x y)) w.moving } in waited v m (gone p w') (still_gone v m p w w' open' agree)
  adopted_now k id x p w open' false = tt

  on_moved : (from : Node) (g id : ℕ) (o : Option Command) → m.command ≡ o → GoesIf v (moved from g id m o)
  on_moved from g id None is = tt
  on_moved from g id (Some (asked c first who wanted)) is = tt
  on_moved from g id (Some (gone p w)) is = adopted_now kind.Moved id from p w is ((p.g == g) && list_any (is_moving id from) w.moving)
  on_moved from g id (Some (recovering i terminal second)) is = tt

  on_adopted : (id : ℕ) (o : Option Command) → m.command ≡ o → Goes v (adopted_here id m o)
  on_adopted id None is = stays v m [] none_said agree
  on_adopted id (Some (asked c first who wanted)) is = stays v m [] none_said agree
  on_adopted id (Some (gone p w)) is =
      let w' : Going = record w { moving = filter (λ y. not (is_moving id M y)) w.moving } in waited v m (gone p w') (still_gone v m p w w' is agree)
  on_adopted id (Some (recovering i terminal second)) is = stays v m [] none_said agree

  -- the master's own anchor adopted a bearer
  pub goes_adopted : (id : ℕ) → Goes v (master_adopted m id)
  goes_adopted id = on_adopted id m.command refl

  passed_on : (s : StatusTransfer) (from : Node) (o : Option (ℕ × Node)) → TakenIf v m (passed_to m s from o)
  passed_on s from None = tt
  passed_on s from (Some (id, M)) = inr (record { status = s; is = refl })
  passed_on s from (Some (id, A)) =
      elim (cases_Bool (is_same_node from A)) [ inl yes' ↦ rw yes' tt | inr no' ↦ rw no' (inl (stays v m (send A (rec.Snst s) ∷ []) (record { notes = refl; orders = refl; no_pass = refl }) agree)) ]
  passed_on s from (Some (id, B)) =
      elim (cases_Bool (is_same_node from B)) [ inl yes' ↦ rw yes' tt | inr no' ↦ rw no' (inl (stays v m (send B (rec.Snst s) ∷ []) (record { notes = refl; orders = refl; no_pass = refl }) agree)) ]
  passed_on s from (Some (id, T)) = tt

  on_transferred : (from : Node) (s : StatusTransfer) (o : Option Command) → TakenIf v m (transferred from s m o)
  on_transferred from s None = tt
  on_transferred from s (Some (asked c first who wanted)) = tt
  on_transferred from s (Some (gone p w)) = passed_on s from (if p.g == s.g then find (λ (x : ℕ × Node). x.0 == s.id) w.moving else None)
  on_transferred from s (Some (recovering i terminal second)) = tt

  -- ---- requests

  refused_so : (from : Node) (what : Want) (e : Event) (refuse : Word → Rec) (why : Word) → IsWordless (send from (refuse why) ∷ []) → Goes v (begins_asked m from what e refuse (Some why))
  refused_so from what e refuse why none = stays v m (send from (refuse why) ∷ []) none agree

  -- a request is not refused where its node is the secondary
  asker_there : (from : Node) → asking_refusal from m ≡ None → is_some m.table.sec ≡ true
  asker_there from none = there m.table.sec refl
    where
      there : (o : Option Node) → m.table.sec ≡ o → is_some o ≡ true
      there None is = absurd (let n = rw is at none in cc)
      there (Some x) is = refl

  begins_wanted : (from : Node) (what : Want) (refuse : Word → Rec) → ((w : Word) → IsWordless (send from (refuse w) ∷ [])) → IsAllowed m.table.sec (command_of what) → IsDrawable m.table.sec (command_of what)
      → (d : Draft) → draft m.table (command_of what) ≡ Some d → Goes v (before_acts (say (note.Begin what) ∷ []) (begins m d true))
  begins_wanted from what refuse none may can d is = (begun_for what v (begins m d true) (begins_it v m (command_of what) v.table.sec agree may can true d is)).goes

  on_rekey : (from : Node) (o : Option Word) → asking_refusal from m ≡ o → Goes v (begins_asked m from want.Rekey event.RekeySecond (λ w. rec.Modref w) o)
  on_rekey from None is = begins_wanted from want.Rekey (λ w. rec.Modref w) (λ w. record { notes = refl; orders = refl; no_pass = refl }) tt tt _ refl
  on_rekey from (Some why) is = refused_so from want.Rekey event.RekeySecond (λ w. rec.Modref w) why (record { notes = refl; orders = refl; no_pass = refl })

  on_change : (from : Node) (o : Option Word) → asking_refusal from m ≡ o → Goes v (begins_asked m from want.Change event.Change (λ w. rec.Chgref w) o)
  on_change from None is =
      begins_wanted from want.Change (λ w. rec.Chgref w) (λ w. record { notes = refl; orders = refl; no_pass = refl }) (asker_there from is) (asker_there from is) _ refl
  on_change from (Some why) is = refused_so from want.Change event.Change (λ w. rec.Chgref w) why (record { notes = refl; orders = refl; no_pass = refl })

  on_wanted : (from : Node) (w : Want) → Goes v (wanted_by from w m)
  on_wanted from want.Rekey = on_rekey from (asking_refusal from m) refl
  on_wanted from want.Change = on_change from (asking_refusal from m) refl
  on_wanted from want.Release =
      let n = with_waits true from m in (begun_tried v (tries from n) (tried v n from (agree_waits v m true from agree))).goes

  -- ---- all records

  of_second : (x : Node) (r : Rec) → TakenIf v m (from_second x m r)
  of_second x (rec.Reconf plan key) = tt
  of_second x (rec.Rcomp g) = tt
  of_second x (rec.Scgf failed) = tt
  of_second x (rec.Recov id) = tt
  of_second x (rec.Recovd id) = goes_so v m (from_second x m (rec.Recovd id)) (on_recovered x id m.command refl)
  of_second x (rec.Addreq plan key) = tt
  of_second x (rec.Addack g) = goes_so v m (from_second x m (rec.Addack g)) (on_agreed kind.Addack addition x g m.command refl)
  of_second x (rec.Addrej g) = goes_so v m (from_second x m (rec.Addrej g)) (on_rejected kind.Addrej addition x g m.command)
  of_second x (rec.Modreq plan key) = tt
  of_second x (rec.Modack g) = goes_so v m (from_second x m (rec.Modack g)) (on_agreed kind.Modack modification x g m.command refl)
  of_second x (rec.Modrej g) = goes_so v m (from_second x m (rec.Modrej g)) (on_rejected kind.Modrej modification x g m.command)
  of_second x (rec.Recfg g) = tt
  of_second x (rec.Relreq plan) = tt
  of_second x (rec.Relack g) = goes_so v m (from_second x m (rec.Relack g)) (on_released (agreed kind.Relack release x g m m.command) (on_agreed kind.Relack release x g m.command refl))
  of_second x (rec.Relrej g) = goes_so v m (from_second x m (rec.Relrej g)) (on_rejected kind.Relrej release x g m.command)
  of_second x (rec.Uecr g) = tt
  of_second x (rec.Snst status) = on_transferred x status m.command
  of_second x (rec.Moved g id) = goes_so v m (from_second x m (rec.Moved g id)) (on_moved x g id m.command refl)
  of_second x (rec.Scgn id g) = tt
  of_second x rec.Modrqd = inl (on_wanted x want.Rekey)
  of_second x (rec.Modcnf g) = tt
  of_second x (rec.Modref word) = tt
  of_second x rec.Chgrqd = inl (on_wanted x want.Change)
  of_second x (rec.Chgcnf plan) = tt
  of_second x (rec.Chgref word) = tt
  of_second x rec.Relrqd = inl (on_wanted x want.Release)
  of_second x (rec.Relcnf plan) = tt

  of_terminal : (r : Rec) → TakenIf v m (from_terminal m r)
  of_terminal (rec.Reconf plan key) = tt
  of_terminal (rec.Rcomp g) = goes_so v m (from_terminal m (rec.Rcomp g)) (on_completed g m.command refl)
  of_terminal (rec.Scgf failed) = inl (stays v m (flat_map (λ (x : ℕ × ℕ). failing x.0 x.1 (row m.table x.0)) failed) (failing_all failed) agree)
  of_terminal (rec.Recov id) = tt
  of_terminal (rec.Recovd id) = goes_so v m (from_terminal m (rec.Recovd id)) (on_recovered T id m.command refl)
  of_terminal (rec.Addreq plan key) = tt
  of_terminal (rec.Addack g) = tt
  of_terminal (rec.Addrej g) = tt
  of_terminal (rec.Modreq plan key) = tt
  of_terminal (rec.Modack g) = tt
  of_terminal (rec.Modrej g) = tt
  of_terminal (rec.Recfg g) = tt
  of_terminal (rec.Relreq plan) = tt
  of_terminal (rec.Relack g) = tt
  of_terminal (rec.Relrej g) = tt
  of_terminal (rec.Uecr g) = tt
  of_terminal (rec.Snst status) = tt
  of_terminal (rec.Moved g id) = tt
  of_terminal (rec.Scgn id g) = tt
  of_terminal rec.Modrqd = tt
  of_terminal (rec.Modcnf g) = tt
  of_terminal (rec.Modref word) = tt
  of_terminal rec.Chgrqd = tt
  of_terminal (rec.Chgcnf plan) = tt
  of_terminal (rec.Chgref word) = tt
  of_terminal rec.Relrqd = tt
  of_terminal (rec.Relcnf plan) = tt

  -- whatever record comes from whichever node
  pub goes_taken : (from : Node) (r : Rec) → TakenIf v m (master_take from m r)
  goes_taken T r = of_terminal r
  goes_taken A r = of_second A r
  goes_taken B r = of_second B r
  goes_taken M r = tt
