-- Each event keeps what is kept of all bearers.
use Rattle.std.proofs.Common.{ℕ, ◌≡◌, ◌≤◌, ◌<◌, ◌+◌, ◌++◌, ◌∙◌, Bool, true, false, List, [], ◌∷◌, refl, sym, ap, subst, arith}
use Rattle.std.specs.List.{list_any}
use Rattle.std.proofs.lemmas.List.{append-nil}
use Rattle.dc_base.specs.Links.{link}
use Rattle.dc_base.specs.Nodes.{is_same_node, is_secondary}
use Rattle.dc_base.specs.declared.answers.Refusal.{Refusal}
use Rattle.dc_base.specs.declared.flights.Flight.TheVariants as flight
use Rattle.dc_base.specs.declared.nodes.Class.TheVariants.{Ctl}
use Rattle.dc_base.specs.declared.nodes.LinkId.{LinkId}
use Rattle.dc_base.specs.declared.nodes.Node.{Node}
use Rattle.dc_base.specs.declared.nodes.Node.TheVariants.{A, B, M, T}
use Rattle.dc_base.specs.declared.records.Rec.{Rec}
use Rattle.node_rules.specs.Choices.{Choices, Send}
use Rattle.node_rules.specs.MasterState.{MasterProc}
use Rattle.node_rules.specs.MasterStep.{master_step, master_takes}
use Rattle.node_rules.specs.Run.{Happening, carried_on, given_to, on_links, refused_for}
use Rattle.node_rules.specs.SecondStep.{second_step}
use Rattle.node_rules.specs.Secondary.{SecondNode, name_of}
use Rattle.node_rules.specs.Terminal.{terminal_step}
use Rattle.node_rules.specs.World.{World}
use Rattle.node_rules.specs.declared.inputs.Effects.{Effects}
use Rattle.node_rules.specs.declared.inputs.Input.{Input}
use Rattle.node_rules.specs.declared.inputs.Input.TheVariants.{Come}
use Rattle.run_control.specs.Claims.{is_agreement}
use Rattle.run_control.specs.Links.{sent_on}
use Rattle.run_control.specs.SecondControl.{Views, bare_record, records_sent}
use Rattle.run_control.specs.Steps.{SecondStepped, sender_of}
use Rattle.run_control.specs.Orders.{Ascends}
use Rattle.run_control.specs.Traffic.{came}
use Rattle.run_control.specs.Views.{is_control, master_view, second_view}
use Rattle.run_control.proofs.MasterHears.{master_hears}
use Rattle.run_control.proofs.Names.{IsAway, second_apart}
use Rattle.run_control.proofs.NoLinks.{IsNoLink, master_apart}
use Rattle.run_control.proofs.Records.{bare_flights, bare_records, sent_bare}
use Rattle.run_control.proofs.Runs.{AddsIn}
use Rattle.run_control.proofs.Steps.{master_stepped, second_stepped, terminal_stepped}
use Rattle.run_control.proofs.Taken.{GoesRight, HasNone, IsRight, NoneOf, Takes, records_in, takes_none, takes_one}
use Rattle.run_control.proofs.TalkSteps.{IsKept, input_of, no_happening}
use Rattle.run_pairs.specs.Apt.{IsApt}
use Rattle.run_pairs.proofs.Pairing.{IsPaired}
use Rattle.run_pairs.proofs.Putting.{heard_of}
use Rattle.run_pairs.proofs.SecondWords.{told_of}
use Rattle.run_pairs.proofs.Sending.{a_from_b, b_from_a, down_away, master_away, terminal_away}
use Rattle.run_places.specs.Tokens.{statuses}
use Rattle.run_places.proofs.Acting.{fresh_line, fresh_lines, master_by_itself, node_acts, not_sent, or_rest}
use Rattle.run_places.proofs.Begins.{IsFree}
use Rattle.run_places.proofs.Counting.{bare_status}
use Rattle.run_places.proofs.MasterSettling.{WholeThen}
use Rattle.run_places.proofs.SecondSays.{comes}
use Rattle.run_places.proofs.States.{course_of, state_of}
use Rattle.run_places.proofs.TurnKeeps.{same_itself}
use Rattle.run_places.proofs.Whole.{Whole, WholeIn, a_acts, agreed_by, b_acts, ups, whole_less}

-- ---- lines

-- the same lines
same_lines : {m : MasterProc} {mv av bv : Views} {da da' ua ua' db db' ub ub' : List Rec} → da' ≡ da → ua' ≡ ua → db' ≡ db → ub' ≡ ub → Whole m mv av bv da ua db ub → Whole m mv av bv da' ua' db' ub'
same_lines {m} {mv} {av} {bv} {da} {da'} {ua} {ua'} {db} {db'} {ub} {ub'} p q r s whole =
    subst (λ z. Whole m mv av bv z ua' db' ub') (sym p) (subst (λ z. Whole m mv av bv da z db' ub') (sym q) (subst (λ z. Whole m mv av bv da ua z ub') (sym r) (subst (λ z. Whole m mv av bv da ua db z) (sym s) whole)))

-- nothing is taken or sent on one
line_still : (rs rs' more : List Rec) → rs' ≡ rs → more ≡ [] → bare_records rs' ++ more ≡ bare_records rs
line_still rs rs' more p none = ap (λ z. bare_records rs' ++ z) none ∙ append-nil (bare_records rs') ∙ ap bare_records p

-- nothing is sent
line_then : (rs more : List Rec) → more ≡ [] → rs ++ more ≡ rs
line_then rs more none = ap (λ z. rs ++ z) none ∙ append-nil rs

-- or something is
line_more : (rs rs' more : List Rec) → rs' ≡ rs → bare_records rs' ++ more ≡ bare_records rs ++ more
line_more rs rs' more p = ap (λ z. bare_records z ++ more) p

-- nothing is taken of a line to another node
takes_still : (l : LinkId) (z : Node) (i : Input) (before after : List Rec) → is_same_node l.to z ≡ false → Takes l (given_to z i) before after → (after ≡ before) × NoneOf l i
takes_still l z i before after other (takes_none p none) = (p, none)
takes_still l z i before after other (takes_one r first is) = absurd (no_happening (given_to z i) l.to z (Come l (flight.Ctl r)) is refl other)

whole_in : {m : MasterProc} {mv av bv : Views} {da ua db ub : List Rec} → Whole m mv av bv da ua db ub → WholeIn (state_of (agreed_by m.command (ups ua ub)) m) mv av bv da ua db ub
whole_in whole = record { keeps = whole.keeps; a = whole.a; b = whole.b }

less_cons : (k : ℕ) (r : Rec) (rs : List Rec) → statuses k rs ≤ statuses k (r ∷ rs)
less_cons k r rs = omega arith

module _ (c : Choices) (w : World) (kept : IsKept w) (apt : IsApt w.master.proc) (ad ad' au au' bd bd' bu bu' : List Rec)
    (pa : IsPaired A w.master.proc w.a.proc.membership w.a.proc.want (second_view w.a) (bare_records ad) (bare_records au))
    (pb : IsPaired B w.master.proc w.b.proc.membership w.b.proc.want (second_view w.b) (bare_records bd) (bare_records bu))
    (whole : Whole w.master.proc (master_view w.master) (second_view w.a) (second_view w.b) (bare_records ad) (bare_records au) (bare_records bd) (bare_records bu)) where
  -- in a state, with what was sent
  abbrev pub After : World → List Send → Type 0
  After u sends =
      Whole u.master.proc (master_view u.master) (second_view u.a) (second_view u.b) (bare_records ad' ++ heard_of A (records_sent sends)) (bare_records au' ++ told_of A (records_sent sends)) (bare_records bd' ++ heard_of B (records_sent sends))
      (bare_records bu' ++ told_of B (records_sent sends))

  abbrev pub Then : Happening → Type 0
  Then what = After (carried_on c w what).0 (carried_on c w what).1.sends

  abbrev flag : Bool
  flag = agreed_by w.master.proc.command (ups (bare_records au) (bare_records bu))

  -- ---- the terminal

  pub to_terminal : (i : Input) → Takes (link M A Ctl) (given_to T i) ad ad' → Takes (link A M Ctl) (given_to T i) au au' → Takes (link M B Ctl) (given_to T i) bd bd' → Takes (link B M Ctl) (given_to T i) bu bu' → Then (given_to T i)
  to_terminal i s t s' t' =
      let done = came (terminal_step c w.terminal i) in
      let stepped = terminal_stepped c w.terminal i kept.ordered.terminal in
      same_lines
      (line_still ad ad' (heard_of A (records_sent done.1.sends)) (takes_still (link M A Ctl) T i ad ad' refl s).0 (ap records_in (terminal_away (link M A Ctl) refl w.terminal i done stepped)))
      (line_still au au' (told_of A (records_sent done.1.sends)) (takes_still (link A M Ctl) T i au au' refl t).0 (ap records_in (terminal_away (link A M Ctl) refl w.terminal i done stepped)))
      (line_still bd bd' (heard_of B (records_sent done.1.sends)) (takes_still (link M B Ctl) T i bd bd' refl s').0 (ap records_in (terminal_away (link M B Ctl) refl w.terminal i done stepped)))
      (line_still bu bu' (told_of B (records_sent done.1.sends)) (takes_still (link B M Ctl) T i bu bu' refl t').0 (ap records_in (terminal_away (link B M Ctl) refl w.terminal i done stepped)))
      whole

  -- ---- no node

  none_taken : (l : LinkId) (what : Happening) (before after : List Rec) → ((z : Node) (i : Input) → what ≡ given_to z i → ⊥) → Takes l what before after → after ≡ before
  none_taken l what before after none (takes_none p is) = p
  none_taken l what before after none (takes_one r first is) = absurd (none l.to (Come l (flight.Ctl r)) is)

  pub on_neither : (effects : Effects) → Takes (link M A Ctl) (on_links effects) ad ad' → Takes (link A M Ctl) (on_links effects) au au' → Takes (link M B Ctl) (on_links effects) bd bd' → Takes (link B M Ctl) (on_links effects) bu bu' → IsRight (on_links effects)
      → Then (on_links effects)
  on_neither effects s t s' t' right =
      same_lines
      (line_still ad ad' (heard_of A (records_sent effects.sends)) (none_taken (link M A Ctl) (on_links effects) ad ad' no_way s) (silent (link M A Ctl) refl refl))
      (line_still au au' (told_of A (records_sent effects.sends)) (none_taken (link A M Ctl) (on_links effects) au au' no_way t) (silent (link A M Ctl) refl refl))
      (line_still bd bd' (heard_of B (records_sent effects.sends)) (none_taken (link M B Ctl) (on_links effects) bd bd' no_way s') (silent (link M B Ctl) refl refl))
      (line_still bu bu' (told_of B (records_sent effects.sends)) (none_taken (link B M Ctl) (on_links effects) bu bu' no_way t') (silent (link B M Ctl) refl refl))
      whole
    where
      no_way : (z : Node) (i : Input) → on_links effects ≡ given_to z i → ⊥
      no_way z i is = absurd (differ (ap of is))
        where
          of : Happening → Bool
          of (given_to y j) = true
          of (refused_for why) = false
          of (on_links e) = false

          differ : false ≡ true → ⊥
          differ e = absurd cc

      silent : (l : LinkId) → is_control l.class ≡ true → l.class ≡ Ctl → records_in (sent_on l (records_sent effects.sends)) ≡ []
      silent l is control = ap records_in (sent_bare l is effects.sends ∙ ap bare_flights (right l control))

  pub in_refusal : (why : Refusal) → Takes (link M A Ctl) (refused_for why) ad ad' → Takes (link A M Ctl) (refused_for why) au au' → Takes (link M B Ctl) (refused_for why) bd bd' → Takes (link B M Ctl) (refused_for why) bu bu' → Then (refused_for why)
  in_refusal why s t s' t' =
      same_lines (line_still ad ad' [] (none_taken (link M A Ctl) (refused_for why) ad ad' no_way s) refl) (line_still au au' [] (none_taken (link A M Ctl) (refused_for why) au au' no_way t) refl)
      (line_still bd bd' [] (none_taken (link M B Ctl) (refused_for why) bd bd' no_way s') refl) (line_still bu bu' [] (none_taken (link B M Ctl) (refused_for why) bu bu' no_way t') refl) whole
    where
      no_way : (z : Node) (i : Input) → refused_for why ≡ given_to z i → ⊥
      no_way z i is = absurd (differ (ap of is))
        where
          of : Happening → Bool
          of (given_to y j) = true
          of (refused_for why') = false
          of (on_links e) = false

          differ : false ≡ true → ⊥
          differ e = absurd cc

  -- ---- a secondary node

  apart_heard : (x y : Node) (s : SecondNode) (i : Input) → is_secondary x ≡ true → is_secondary y ≡ true → name_of s ≡ y → (done : SecondNode × Effects) → done ≡ came (second_step c s i) → Ascends s.anchors → heard_of x (records_sent done.1.sends) ≡ []
  apart_heard x y s i second other named done is up =
      ap records_in (second_apart s i (link M x Ctl) done (subst (λ me. IsAway me (link M x Ctl)) (sym named) (down_away x y second other)) (subst (λ z. SecondStepped s i z) (sym is) (second_stepped c s i up)))

  apart_told : (x : Node) (s : SecondNode) (i : Input) → IsAway (name_of s) (link x M Ctl) → (done : SecondNode × Effects) → done ≡ came (second_step c s i) → Ascends s.anchors → told_of x (records_sent done.1.sends) ≡ []
  apart_told x s i away done is up = ap records_in (second_apart s i (link x M Ctl) done away (subst (λ z. SecondStepped s i z) (sym is) (second_stepped c s i up)))

  pub to_a : (i : Input) → Takes (link M A Ctl) (given_to A i) ad ad' → Takes (link A M Ctl) (given_to A i) au au' → Takes (link M B Ctl) (given_to A i) bd bd' → Takes (link B M Ctl) (given_to A i) bu bu' → ((l : LinkId) → IsNoLink l → HasNone l (given_to A i)) → GoesRight i A
      → Then (given_to A i)
  to_a i s t s' t' others right =
      let done = came (second_step c w.a i) in
      let acted = node_acts c w.master.proc apt flag w.a A refl kept.named.a kept.ordered.a whole.a.named whole.a.waits ad ad' au pa whole.a.line (λ ch first wanted e. ap (λ o. agreed_by o (ups (bare_records au) (bare_records bu))) e) i s others right in
      same_lines (line_then (bare_records ad') (heard_of A (records_sent done.1.sends)) (apart_heard A A w.a i refl refl kept.named.a done refl kept.ordered.a))
      (line_more au au' (told_of A (records_sent done.1.sends)) (takes_still (link A M Ctl) A i au au' refl t).0)
      (line_still bd bd' (heard_of B (records_sent done.1.sends)) (takes_still (link M B Ctl) A i bd bd' refl s').0 (apart_heard B A w.a i refl refl kept.named.a done refl kept.ordered.a))
      (line_still bu bu' (told_of B (records_sent done.1.sends)) (takes_still (link B M Ctl) A i bu bu' refl t').0 (apart_told B w.a i (subst (λ me. IsAway me (link B M Ctl)) (sym kept.named.a) b_from_a) done refl kept.ordered.a))
      (a_acts w.master.proc (master_view w.master) (second_view w.a) (second_view w.b) (bare_records ad) (bare_records au) (bare_records bd) (bare_records bu) whole (second_view done.0) (bare_records ad') (told_of A (records_sent done.1.sends)) acted.taken acted.fewer
      acted.line acted.has)

  pub to_b : (i : Input) → Takes (link M A Ctl) (given_to B i) ad ad' → Takes (link A M Ctl) (given_to B i) au au' → Takes (link M B Ctl) (given_to B i) bd bd' → Takes (link B M Ctl) (given_to B i) bu bu' → ((l : LinkId) → IsNoLink l → HasNone l (given_to B i)) → GoesRight i B
      → Then (given_to B i)
  to_b i s t s' t' others right =
      let done = came (second_step c w.b i) in
      let acted = node_acts c w.master.proc apt flag w.b B refl kept.named.b kept.ordered.b whole.b.named whole.b.waits bd bd' bu pb whole.b.line (λ ch first wanted e. ap (λ o. agreed_by o (ups (bare_records au) (bare_records bu))) e) i s' others right in
      same_lines (line_still ad ad' (heard_of A (records_sent done.1.sends)) (takes_still (link M A Ctl) B i ad ad' refl s).0 (apart_heard A B w.b i refl refl kept.named.b done refl kept.ordered.b))
      (line_still au au' (told_of A (records_sent done.1.sends)) (takes_still (link A M Ctl) B i au au' refl t).0 (apart_told A w.b i (subst (λ me. IsAway me (link A M Ctl)) (sym kept.named.b) a_from_b) done refl kept.ordered.b))
      (line_then (bare_records bd') (heard_of B (records_sent done.1.sends)) (apart_heard B B w.b i refl refl kept.named.b done refl kept.ordered.b))
      (line_more bu bu' (told_of B (records_sent done.1.sends)) (takes_still (link B M Ctl) B i bu bu' refl t').0)
      (b_acts w.master.proc (master_view w.master) (second_view w.a) (second_view w.b) (bare_records ad) (bare_records au) (bare_records bd) (bare_records bu) whole (second_view done.0) (bare_records bd') (told_of B (records_sent done.1.sends)) acted.taken acted.fewer
      acted.line acted.has)

  -- ---- the master

  -- the lines from the secondary nodes, once a record was taken, hold no agreement that is newer
  fresh_a : IsFree (course_of flag w.master.proc.command) → (g : ℕ) → w.master.proc.table.last < g → list_any (is_agreement g) (bare_records au) ≡ false
  fresh_a free g newer = fresh_line A flag w.master.proc w.a.proc.membership w.a.proc.want (second_view w.a) (bare_records ad) (bare_records au) pa free g newer

  fresh_b : IsFree (course_of flag w.master.proc.command) → (g : ℕ) → w.master.proc.table.last < g → list_any (is_agreement g) (bare_records bu) ≡ false
  fresh_b free g newer = fresh_line B flag w.master.proc w.b.proc.membership w.b.proc.want (second_view w.b) (bare_records bd) (bare_records bu) pb free g newer

  sent_nothing : (x : Node) (second : is_secondary x ≡ true) (i : Input) → told_of x (records_sent (came (master_step c w.master i)).1.sends) ≡ []
  sent_nothing x second i = ap records_in (master_apart (link x M Ctl) (master_away x second) c w.master i (came (master_step c w.master i)) kept.ordered.master (master_stepped c w.master i kept.ordered.master))

  pub to_master : (i : Input) → Takes (link M A Ctl) (given_to M i) ad ad' → Takes (link A M Ctl) (given_to M i) au au' → Takes (link M B Ctl) (given_to M i) bd bd' → Takes (link B M Ctl) (given_to M i) bu bu' → GoesRight i M → AddsIn i → Then (given_to M i)
  to_master i s t s' t' right adds =
      let done = came (master_step c w.master i) in
      same_lines (line_more ad ad' (heard_of A (records_sent done.1.sends)) (takes_still (link M A Ctl) M i ad ad' refl s).0) (line_then (bare_records au') (told_of A (records_sent done.1.sends)) (sent_nothing A refl i))
      (line_more bd bd' (heard_of B (records_sent done.1.sends)) (takes_still (link M B Ctl) M i bd bd' refl s').0) (line_then (bare_records bu') (told_of B (records_sent done.1.sends)) (sent_nothing B refl i)) (by t t')
    where
      alone : NoneOf (link A M Ctl) i → NoneOf (link B M Ctl) i → WholeThen (second_view w.a) (second_view w.b) (bare_records ad) (bare_records au) (bare_records bd) (bare_records bu) (came (master_step c w.master i))
      alone none none' =
          master_by_itself c w.master kept.ordered.master apt flag (second_view w.a) (second_view w.b) (bare_records ad) (bare_records au) (bare_records bd) (bare_records bu) (whole_in whole)
          (λ free g who newer. fresh_lines (bare_records au) (bare_records bu) g who (fresh_a free g newer) (fresh_b free g newer)) refl i (came (master_step c w.master i)) adds (λ r is. not_sent A i r none right is) (λ r is. not_sent B i r none' right is)
          (master_stepped c w.master i kept.ordered.master)

      no_both : {X : Type 0} (r r' : Rec) → given_to M i ≡ given_to M (Come (link A M Ctl) (flight.Ctl r)) → given_to M i ≡ given_to M (Come (link B M Ctl) (flight.Ctl r')) → X
      no_both r r' is is' = absurd (differ (ap (λ h. is_same_node A (sender_of (input_of h i))) (sym is ∙ is')))
        where
          differ : true ≡ false → ⊥
          differ e = absurd cc

      from_a : (r : Rec) → au ≡ r ∷ au' → WholeThen (second_view w.a) (second_view w.b) (bare_records ad) (bare_records au') (bare_records bd) (bare_records bu) (master_takes c w.master A (flight.Ctl r) Ctl)
      from_a r first =
          comes c w.master kept.ordered.master apt flag (second_view w.a) (second_view w.b) (bare_records ad) (bare_records au') (bare_records bd) (bare_records bu)
          (whole_less (state_of flag w.master.proc) (master_view w.master) (master_view w.master) (second_view w.a) (second_view w.b) (bare_records ad) (bare_records au) (bare_records au') (bare_records bd) (bare_records bu) (bare_records bu) (λ k. same_itself (master_view w.master k))
          (λ k. omega (arith, ap (λ rs. statuses k (bare_records rs)) first, less_cons k (bare_record r) (bare_records au'))) (λ k. omega arith) (whole_in whole))
          (λ free g who newer. fresh_lines (bare_records au') (bare_records bu) g who (or_rest (is_agreement g (bare_record r)) (list_any (is_agreement g) (bare_records au')) (sym (ap (λ rs. list_any (is_agreement g) (bare_records rs)) first) ∙ fresh_a free g newer)) (fresh_b free g newer))
          A refl (bare_records au) (bare_records bu) (bare_record r) refl (ap bare_records first) others w.a.proc.membership w.a.proc.want (second_view w.a) (bare_records ad)
          (subst (λ rs. IsPaired A w.master.proc w.a.proc.membership w.a.proc.want (second_view w.a) (bare_records ad) (bare_records rs)) first pa) (λ same k. refl) (λ same. absurd (no_way same)) r (master_takes c w.master A (flight.Ctl r) Ctl) refl (λ z. refl)
          (master_hears c w.master A r kept.ordered.master) (whole_in whole) (λ k. omega (arith, ap (λ rs. statuses k (bare_records rs)) first, bare_status k r))
        where
          no_way : is_same_node A B ≡ true → ⊥
          no_way e = absurd cc

          others : (y : Node) → is_same_node A y ≡ false → ups (bare_records au) (bare_records bu) y ≡ ups (bare_records au') (bare_records bu) y
          others A off = absurd cc
          others B off = refl
          others M off = refl
          others T off = refl

      from_b : (r : Rec) → bu ≡ r ∷ bu' → WholeThen (second_view w.a) (second_view w.b) (bare_records ad) (bare_records au) (bare_records bd) (bare_records bu') (master_takes c w.master B (flight.Ctl r) Ctl)
      from_b r first =
          comes c w.master kept.ordered.master apt flag (second_view w.a) (second_view w.b) (bare_records ad) (bare_records au) (bare_records bd) (bare_records bu')
          (whole_less (state_of flag w.master.proc) (master_view w.master) (master_view w.master) (second_view w.a) (second_view w.b) (bare_records ad) (bare_records au) (bare_records au) (bare_records bd) (bare_records bu) (bare_records bu') (λ k. same_itself (master_view w.master k))
          (λ k. omega arith) (λ k. omega (arith, ap (λ rs. statuses k (bare_records rs)) first, less_cons k (bare_record r) (bare_records bu'))) (whole_in whole))
          (λ free g who newer. fresh_lines (bare_records au) (bare_records bu') g who (fresh_a free g newer) (or_rest (is_agreement g (bare_record r)) (list_any (is_agreement g) (bare_records bu')) (sym (ap (λ rs. list_any (is_agreement g) (bare_records rs)) first) ∙ fresh_b free g newer)))
          B refl (bare_records au) (bare_records bu) (bare_record r) refl (ap bare_records first) others w.b.proc.membership w.b.proc.want (second_view w.b) (bare_records bd)
          (subst (λ rs. IsPaired B w.master.proc w.b.proc.membership w.b.proc.want (second_view w.b) (bare_records bd) (bare_records rs)) first pb) (λ same. absurd (no_way same)) (λ same k. refl) r (master_takes c w.master B (flight.Ctl r) Ctl) refl (λ z. refl)
          (master_hears c w.master B r kept.ordered.master) (whole_in whole) (λ k. omega (arith, ap (λ rs. statuses k (bare_records rs)) first, bare_status k r))
        where
          no_way : is_same_node B A ≡ true → ⊥
          no_way e = absurd cc

          others : (y : Node) → is_same_node B y ≡ false → ups (bare_records au) (bare_records bu) y ≡ ups (bare_records au) (bare_records bu') y
          others B off = absurd cc
          others A off = refl
          others M off = refl
          others T off = refl

      by : Takes (link A M Ctl) (given_to M i) au au' → Takes (link B M Ctl) (given_to M i) bu bu'
          → WholeThen (second_view w.a) (second_view w.b) (bare_records ad) (bare_records au') (bare_records bd) (bare_records bu') (came (master_step c w.master i))
      by (takes_none p none) (takes_none q none') =
          subst (λ rs. WholeThen (second_view w.a) (second_view w.b) (bare_records ad) (bare_records rs) (bare_records bd) (bare_records bu') (came (master_step c w.master i))) (sym p)
          (subst (λ rs. WholeThen (second_view w.a) (second_view w.b) (bare_records ad) (bare_records au) (bare_records bd) (bare_records rs) (came (master_step c w.master i))) (sym q) (alone none none'))
      by (takes_one r first is) (takes_none q none') =
          subst (λ j. WholeThen (second_view w.a) (second_view w.b) (bare_records ad) (bare_records au') (bare_records bd) (bare_records bu') (came (master_step c w.master j))) (sym (ap (λ h. input_of h i) is))
          (subst (λ rs. WholeThen (second_view w.a) (second_view w.b) (bare_records ad) (bare_records au') (bare_records bd) (bare_records rs) (master_takes c w.master A (flight.Ctl r) Ctl)) (sym q) (from_a r first))
      by (takes_none p none) (takes_one r first is) =
          subst (λ j. WholeThen (second_view w.a) (second_view w.b) (bare_records ad) (bare_records au') (bare_records bd) (bare_records bu') (came (master_step c w.master j))) (sym (ap (λ h. input_of h i) is))
          (subst (λ rs. WholeThen (second_view w.a) (second_view w.b) (bare_records ad) (bare_records rs) (bare_records bd) (bare_records bu') (master_takes c w.master B (flight.Ctl r) Ctl)) (sym p) (from_b r first))
      by (takes_one r first is) (takes_one r' first' is') = no_both r r' is is'
