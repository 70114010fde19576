-- A step of a pair keeps its recovery under way, if the secondary node takes the order to recover.
use Rattle.std.proofs.Common.{ℕ, ◌≡◌, ◌==◌, ◌&&◌, ◌++◌, Bool, true, false, List, [], ◌∷◌, Option, Some, None, refl, sym, ap, subst, ◌∙◌, inl, inr}
use Rattle.std.proofs.lemmas.Bool.{eq-eqb}
use Rattle.std.specs.List.{list_any}
use Rattle.std.specs.Prelude.{Err, Ok, Result, ⊤, ◌||◌, ◌⊎◌}
use Rattle.dc_base.specs.Nodes.{is_secondary}
use Rattle.dc_base.specs.declared.nodes.Node.{Node}
use Rattle.dc_base.specs.declared.nodes.Node.TheVariants.{A, B, M, T}
use Rattle.dc_base.specs.declared.records.Rec.{Rec}
use Rattle.dc_base.specs.declared.records.Rec.TheVariants as rec
use Rattle.node_rules.specs.Acts.{ProcFault}
use Rattle.node_rules.specs.Drafts.{Draft}
use Rattle.node_rules.specs.MasterCommands.{recovers_at}
use Rattle.node_rules.specs.MasterGo.{begins_by, drawn}
use Rattle.node_rules.specs.MasterRecords.{recovered, recovered_second}
use Rattle.node_rules.specs.MasterState.{MasterActs, MasterProc}
use Rattle.node_rules.specs.MasterTaking.{master_take}
use Rattle.node_rules.specs.Places.{is_at}
use Rattle.node_rules.specs.declared.commands.Command.{Command}
use Rattle.node_rules.specs.declared.commands.Command.TheVariants.{Asked as asked, Gone as gone, Recovering as recovering}
use Rattle.node_rules.specs.declared.commands.First.{First}
use Rattle.run_control.specs.Rows.{IsTaken}
use Rattle.run_agreed.specs.Lines.{Pair, PairStep, master_ignores, master_moves, master_takes, rests, said_to, second_ignores, second_moves, second_takes}
use Rattle.run_agreed.specs.Segments.{IsChain, OfChain, Origin, Segment, agrees, aside, begun, by_itself, by_record, completes, ends, lets_off, moves_on, needless, recovered as is_recovered, recovers, refuses, rejects, second_recovers, terminal_recovers, waits}
use Rattle.run_agreed.specs.Stalls.{is_recov, is_recovd}
use Rattle.run_agreed.proofs.Chained.{take_chain}
use Rattle.run_agreed.proofs.Chains.{waits_for_chain}
use Rattle.run_agreed.proofs.Drops.{waits_same}
use Rattle.run_agreed.proofs.PairKeeping.{chain_keeps, chains_keep, told_pair}
use Rattle.run_expected.specs.Recoveries.{RecoveryIsIn}
use Rattle.run_expected.proofs.RecoveryRecords.{any_first, any_last, any_later, recovd_is}

-- ---- open commands

-- it is no recovery that waits for a secondary node
abbrev pub IsNoneSought : Option Command → Type 0
IsNoneSought None = ⊤
IsNoneSought (Some (asked c first who wanted)) = ⊤
IsNoneSought (Some (gone plan going)) = ⊤
IsNoneSought (Some (recovering id terminal None)) = ⊤
IsNoneSought (Some (recovering id terminal (Some x))) = ⊥

begins_none : (m : MasterProc) (d : Draft) (wanted : Bool) (o : Option (First × Node)) → IsNoneSought (begins_by m d wanted o).0.command
begins_none m d wanted None = tt
begins_none m d wanted (Some (first, who)) = tt

-- ---- a part of a step of the master

module _ (x : Node) where
  -- the recovery of a pair is under way
  abbrev pub Stands : Pair → Type 0
  Stands a = RecoveryIsIn x a.m a.down a.up

  none_sought : (m : MasterProc) (down up : List Rec) → IsNoneSought m.command → RecoveryIsIn x m down up
  none_sought m down up none id t is = absurd (subst IsNoneSought is none)

  -- with the same command
  same_command : (a : Pair) (r : MasterActs) → r.0.command ≡ a.m.command → Stands a → Stands (told_pair x a r)
  same_command a r same before id t is =
      elim (before id t (sym same ∙ is)) [ inl there ↦ inl (any_first (is_recov id) a.down (said_to x r.1) there) | inr there ↦ inr there ]

  other_command : (a : Pair) (r : MasterActs) → IsNoneSought r.0.command → Stands (told_pair x a r)
  other_command a r none = none_sought r.0 (a.down ++ said_to x r.1) a.up none

  ordered_at : (a : Pair) (i : ℕ) (y : Node) → list_any (is_recov i) (said_to y (recovers_at a.m i y).1) ≡ true → (o : Option Command) → o ≡ Some (recovering i true (Some y))
      → (id : ℕ) (t : Bool) → o ≡ Some (recovering id t (Some x)) → list_any (is_recov id) (a.down ++ said_to x (recovers_at a.m i y).1) ≡ true
  ordered_at a i y said o opened id t is =
      let both : Some (recovering i true (Some y)) ≡ Some (recovering id t (Some x)) = sym opened ∙ is in
      let here : y ≡ x = cc in
      let same : i ≡ id = cc in
      any_last (is_recov id) a.down (said_to x (recovers_at a.m i y).1)
      (subst (λ k. list_any (is_recov k) (said_to x (recovers_at a.m i y).1) ≡ true) same (subst (λ z. list_any (is_recov i) (said_to z (recovers_at a.m i y).1) ≡ true) here said))

  recovers_stands : (a : Pair) (i : ℕ) (y : Node) → Stands a → Stands (told_pair x a (recovers_at a.m i y))
  recovers_stands a i M before = other_command a (recovers_at a.m i M) tt
  recovers_stands a i T before = same_command a (recovers_at a.m i T) refl before
  recovers_stands a i A before = λ id t is. inl (ordered_at a i A (ap (λ b. b || false) (eq-eqb i i refl)) (recovers_at a.m i A).0.command refl id t is)
  recovers_stands a i B before = λ id t is. inl (ordered_at a i B (ap (λ b. b || false) (eq-eqb i i refl)) (recovers_at a.m i B).0.command refl id t is)

  terminal_stands : (a : Pair) (i : ℕ) (s : Bool) (y : Option Node) → a.m.command ≡ Some (recovering i s y) → Stands a → Stands (told_pair x a (record a.m { command = Some (recovering i false y) }, []))
  terminal_stands a i s y opened before id t is =
      let whom : y ≡ Some x = cc in
      let same : i ≡ id = cc in
      elim (before id s (opened ∙ ap (λ z. Some (recovering i s z)) whom ∙ ap (λ k. Some (recovering k s (Some x))) same)) [
        | inl there ↦ inl (any_first (is_recov id) a.down (said_to x []) there)
        | inr there ↦ inr there
      ]

  by_part : (o : Origin) (a : Pair) (r : MasterActs) → Stands a → Segment o a.m r → Stands (told_pair x a r)
  by_part o a r before (aside acts all at) = same_command a r (ap (λ (z : MasterActs). z.0.command) at) before
  by_part o a r before (refuses y q refusal what from at) = same_command a r (ap (λ (z : MasterActs). z.0.command) at) before
  by_part o a r before (waits y from at) = same_command a r (ap (λ (z : MasterActs). z.0.command) at ∙ (waits_same true y a.m).1) before
  by_part o a r before (needless y waiting free apart at) = same_command a r (ap (λ (z : MasterActs). z.0.command) at ∙ (waits_same false y a.m).1) before
  by_part o a r before (lets_off y d waiting free here plan unspent at) = other_command a r (subst (λ (z : MasterActs). IsNoneSought z.0.command) (sym at) tt)
  by_part o a r before (begun e d wanted free plan may at) = other_command a r (subst (λ (z : MasterActs). IsNoneSought z.0.command) (sym at) (begins_none (drawn a.m d) d wanted d.first))
  by_part o a r before (agrees c f who wanted opened second q from ack at) = other_command a r (subst (λ (z : MasterActs). IsNoneSought z.0.command) (sym at) tt)
  by_part o a r before (completes p w opened waited from at) = other_command a r (subst (λ (z : MasterActs). IsNoneSought z.0.command) (sym at) tt)
  by_part o a r before (moves_on p w moving opened at) = other_command a r (subst (λ (z : MasterActs). IsNoneSought z.0.command) (sym at) tt)
  by_part o a r before (ends p w opened complete at) = other_command a r (subst (λ (z : MasterActs). IsNoneSought z.0.command) (sym at) tt)
  by_part o a r before (rejects c f who wanted opened second q from rej at) = other_command a r (subst (λ (z : MasterActs). IsNoneSought z.0.command) (sym at) tt)
  by_part o a r before (recovers i y free at) = subst (λ (z : MasterActs). Stands (told_pair x a z)) (sym at) (recovers_stands a i y before)
  by_part o a r before (terminal_recovers i t y opened from at) = subst (λ (z : MasterActs). Stands (told_pair x a z)) (sym at) (terminal_stands a i t y opened before)
  by_part o a r before (second_recovers i t y opened from at) = other_command a r (subst (λ (z : MasterActs). IsNoneSought z.0.command) (sym at) tt)
  by_part o a r before (is_recovered i opened at) = other_command a r (subst (λ (z : MasterActs). IsNoneSought z.0.command) (sym at) tt)

-- ---- the news comes to the master

-- it waits for the node no more
abbrev OfNews : MasterProc → ℕ → Bool → Result MasterActs ProcFault → Type 0
OfNews m i t (Ok out) = IsChain by_itself (record m { command = Some (recovering i t None) }) out
OfNews m i t (Err why) = ⊤

news_of : (m : MasterProc) (i : ℕ) (t b : Bool) → OfNews m i t (recovered_second m i t b)
news_of m i t true = waits_for_chain by_itself m (recovering i t None)
news_of m i t false = tt

news_taken : (x : Node) → is_secondary x ≡ true → (m : MasterProc) (i : ℕ) (t : Bool) (z : Option Node) → m.command ≡ Some (recovering i t z) → OfNews m i t (master_take x m (rec.Recovd i))
news_taken A second m i t z is = subst (λ o. OfNews m i t (recovered A i m o)) (sym is) (news_of m i t (is_at A z && (i == i)))
news_taken B second m i t z is = subst (λ o. OfNews m i t (recovered B i m o)) (sym is) (news_of m i t (is_at B z && (i == i)))
news_taken T second m i t z is = absurd cc
news_taken M second m i t z is = absurd cc

row_of : (m : MasterProc) (i : ℕ) (t b : Bool) → b ≡ true → IsTaken (recovered_second m i t b)
row_of m i t true is = tt
row_of m i t false is = absurd cc

-- and has a row for it
news_row : (x : Node) → is_secondary x ≡ true → (m : MasterProc) (i : ℕ) (t : Bool) → m.command ≡ Some (recovering i t (Some x)) → IsTaken (master_take x m (rec.Recovd i))
news_row A second m i t is = subst (λ o. IsTaken (recovered A i m o)) (sym is) (row_of m i t (i == i) (eq-eqb i i refl))
news_row B second m i t is = subst (λ o. IsTaken (recovered B i m o)) (sym is) (row_of m i t (i == i) (eq-eqb i i refl))
news_row T second m i t is = absurd cc
news_row M second m i t is = absurd cc

-- ---- a step

module _ (x : Node) (second : is_secondary x ≡ true) where
  -- any other record is taken off the line
  other_off : (m : MasterProc) (down rest : List Rec) (r : Rec) → ((id : ℕ) (t : Bool) → m.command ≡ Some (recovering id t (Some x)) → is_recovd id r ≡ false) → RecoveryIsIn x m down (r ∷ rest) → RecoveryIsIn x m down rest
  other_off m down rest r other before id t is = elim (before id t is) [ inl there ↦ inl there | inr there ↦ inr (any_later (is_recovd id) r rest (other id t is) there) ]

  module _ (m : MasterProc) (down rest : List Rec) (r : Rec) (before : RecoveryIsIn x m down (r ∷ rest)) where
    same_id : (i : ℕ) (s : Bool) (z : Option Node) → m.command ≡ Some (recovering i s z) → (b : Bool) → is_recovd i r ≡ b → (id : ℕ) (t : Bool) → m.command ≡ Some (recovering id t (Some x)) → is_recovd id r ≡ b
    same_id i s z opened b of id t is =
        let both : Some (recovering i s z) ≡ Some (recovering id t (Some x)) = sym opened ∙ is in
        let same : i ≡ id = cc in
        subst (λ k. is_recovd k r ≡ b) same of

    none_same : (o : Option Command) → m.command ≡ o → IsNoneSought o → RecoveryIsIn x m down rest
    none_same o opened none = none_sought x m down rest (subst IsNoneSought (sym opened) none)

    -- the record is taken
    heard_by : (s : Pair) (out : MasterActs) → RecoveryIsIn x m down rest → master_take x m r ≡ Ok out → RecoveryIsIn x out.0 (down ++ said_to x out.1) rest
    heard_by s out start taken =
        chain_keeps x (by_record x r) (Stands x) (by_part x (by_record x r)) (record s { m = m; down = down; up = rest }) out start (subst (OfChain (by_record x r) m) taken (take_chain (by_record x r) m x r refl))

    news_by : (s : Pair) (i : ℕ) (t : Bool) (z : Option Node) (out : MasterActs) → m.command ≡ Some (recovering i t z) → is_recovd i r ≡ true → master_take x m r ≡ Ok out → RecoveryIsIn x out.0 (down ++ said_to x out.1) rest
    news_by s i t z out opened news taken =
        let is : r ≡ rec.Recovd i = recovd_is i r news in
        let k : MasterProc = record m { command = Some (recovering i t None) } in
        chain_keeps x by_itself (Stands x) (by_part x by_itself) (record s { m = k; down = down; up = rest }) out (none_sought x k down rest tt)
        (subst (OfNews m i t) (sym (ap (master_take x m) is) ∙ taken) (news_taken x second m i t z opened))

    takes_by : (s : Pair) (out : MasterActs) (o : Option Command) → m.command ≡ o → master_take x m r ≡ Ok out → RecoveryIsIn x out.0 (down ++ said_to x out.1) rest
    takes_by s out None opened taken = heard_by s out (none_same None opened tt) taken
    takes_by s out (Some (asked c first who wanted)) opened taken = heard_by s out (none_same (Some (asked c first who wanted)) opened tt) taken
    takes_by s out (Some (gone plan going)) opened taken = heard_by s out (none_same (Some (gone plan going)) opened tt) taken
    takes_by s out (Some (recovering i t z)) opened taken = by (is_recovd i r) refl
      where
        by : (b : Bool) → is_recovd i r ≡ b → RecoveryIsIn x out.0 (down ++ said_to x out.1) rest
        by true news = news_by s i t z out opened news taken
        by false other = heard_by s out (other_off m down rest r (same_id i t z opened false other) before) taken

    -- it has no row
    ignores_by : (why : ProcFault) → master_take x m r ≡ Err why → RecoveryIsIn x m down rest
    ignores_by why refused id t is = by (is_recovd id r) refl
      where
        by : (b : Bool) → is_recovd id r ≡ b → (list_any (is_recov id) down ≡ true) ⊎ (list_any (is_recovd id) rest ≡ true)
        by true news = absurd (subst IsTaken (sym (ap (master_take x m) (recovd_is id r news)) ∙ refused) (news_row x second m id t is))
        by false other = elim (before id t is) [ inl there ↦ inl there | inr there ↦ inr (any_later (is_recovd id) r rest other there) ]

  -- each step keeps the recovery under way, if the order is answered where it is taken off the line
  pub step_stands : (a b : Pair) → Stands x a → ((id : ℕ) → list_any (is_recov id) a.down ≡ true → (list_any (is_recov id) b.down ≡ true) ⊎ (list_any (is_recovd id) b.up ≡ true)) → PairStep x a b → Stands x b
  step_stands a b before goes_on (rests same) = subst (Stands x) (sym same) before
  step_stands a b before goes_on (master_moves o apart out chain same) = subst (Stands x) (sym same) (chain_keeps x o (Stands x) (by_part x o) a out before chain)
  step_stands a b before goes_on (master_takes r rest first out taken more chain same) =
      let cut : Pair = record a { up = rest } in
      let mid = takes_by a.m a.down rest r (subst (λ rs. RecoveryIsIn x a.m a.down rs) first before) a out a.m.command refl taken in
      subst (Stands x) (sym same) (chains_keep x (Stands x) cut out more (chain_keeps x by_itself (Stands x) (by_part x by_itself) (told_pair x cut out) more mid chain))
  step_stands a b before goes_on (master_ignores r rest first why refused same) = subst (Stands x) (sym same) (ignores_by a.m a.down rest r (subst (λ rs. RecoveryIsIn x a.m a.down rs) first before) why refused)
  step_stands a b before goes_on (second_moves e acts ordered same) = λ id t is.
      elim (before id t (sym (ap (λ (y : Pair). y.m.command) same) ∙ is)) [
        | inl there ↦ goes_on id there
        | inr there ↦ inr (subst (λ (y : Pair). list_any (is_recovd id) y.up ≡ true) (sym same) (any_first (is_recovd id) a.up (said_to M acts.1) there))
      ]
  step_stands a b before goes_on (second_takes r rest first acts taken same) = λ id t is.
      elim (before id t (sym (ap (λ (y : Pair). y.m.command) same) ∙ is)) [
        | inl there ↦ goes_on id there
        | inr there ↦ inr (subst (λ (y : Pair). list_any (is_recovd id) y.up ≡ true) (sym same) (any_first (is_recovd id) a.up (said_to M acts.1) there))
      ]
  step_stands a b before goes_on (second_ignores r rest first same) = λ id t is.
      elim (before id t (sym (ap (λ (y : Pair). y.m.command) same) ∙ is)) [
        | inl there ↦ goes_on id there
        | inr there ↦ inr (subst (λ (y : Pair). list_any (is_recovd id) y.up ≡ true) (sym same) there)
      ]
