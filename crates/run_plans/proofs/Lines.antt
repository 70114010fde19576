-- The lines of an event: after some that carry no plan, none draws one.
use Rattle.std.proofs.Common.{ℕ, ◌≡◌, ◌≤◌, ◌+◌, ◌++◌, ◌==◌, ◌&&◌, Bool, true, false, List, [], ◌∷◌, Option, Some, None, refl, sym, ap, subst, ◌∙◌, inl, inr, ◌⊎◌, arith, append_assoc}
use Rattle.std.specs.Prelude.{filter, find, fold, if◌then◌else◌, is_none, is_some, length, map, nat_le, not, ⊤}
use Rattle.std.specs.List.{AllByRecursion, flat_map, list_any}
use Rattle.std.proofs.lemmas.Bool.{cases_Bool, eqb-true}
use Rattle.dc_base.specs.Links.{all_links, is_same_link}
use Rattle.dc_base.specs.declared.answers.Answer.{Answer}
use Rattle.dc_base.specs.declared.answers.Answer.TheVariants as answer
use Rattle.dc_base.specs.declared.events.Event.{Event}
use Rattle.dc_base.specs.declared.events.Event.TheVariants as event
use Rattle.dc_base.specs.declared.events.Line.{Line}
use Rattle.dc_base.specs.declared.events.Line.TheVariants as line
use Rattle.dc_base.specs.declared.events.Note.{Note}
use Rattle.dc_base.specs.declared.events.Note.TheVariants as note
use Rattle.dc_base.specs.declared.flights.Flight.{Flight}
use Rattle.dc_base.specs.declared.flights.Flight.TheVariants as flight
use Rattle.dc_base.specs.declared.nodes.LinkId.{LinkId}
use Rattle.dc_base.specs.declared.nodes.Node.{Node}
use Rattle.dc_base.specs.declared.nodes.Want.{Want}
use Rattle.dc_base.specs.declared.records.Plan.{Plan}
use Rattle.dc_base.specs.declared.records.Rec.{Rec}
use Rattle.dc_base.specs.declared.records.Rec.TheVariants as rec
use Rattle.transcript.proofs.OnEach.{each_append, each_weaker}
use Rattle.claims.specs.Drafts.{Draft, command_of, draft}
use Rattle.claims.specs.Judged.{judged}
use Rattle.claims.specs.Links.{find_at}
use Rattle.claims.specs.Past.{Past}
use Rattle.claims.specs.Planned.{plan_in}
use Rattle.claims.specs.Table as claims
use Rattle.claims.specs.Views.{forwarding_of}
use Rattle.node_rules.specs.Choices.{Send}
use Rattle.node_rules.specs.Lines.{ended, is_end, is_idle_release, lines_by, lines_of, notes_after, notes_at, notes_before, ordered, place, sends_after, sends_before, sends_on}
use Rattle.node_rules.specs.declared.inputs.Outcome.{Outcome}
use Rattle.run_table.specs.Quiet.{effects_of, has_plan}
use Rattle.run_table.specs.View.{View, carries, carries_if, carries_plan, carries_with, draws, draws_if, planned}
use Rattle.run_table.specs.Words.{hears}
use Rattle.run_table.proofs.Views.{hears_answer, hears_event, loses, loses_flight}
use Rattle.run_words.proofs.Lines.{each_flat}
use Rattle.run_relays.specs.Setups.{no_release}
use Rattle.run_relays.proofs.Drawn.{SendBrings}
use Rattle.run_relays.proofs.Planned.{Runs}
use Rattle.run_relays.proofs.SecondSets.{BringsPlan}
use Rattle.run_plans.specs.Lines.{AreLater, IsFree, IsFreeFlight, IsStill, is_begin}
use Rattle.run_plans.specs.Steps.{ArePlanless, IsSorted}

-- ---- a line that draws no plan

carries_plans : (g : ℕ) (v : View) → (carries g v).plans ≡ v.plans
carries_plans g v = by v.table.command
  where
    of_plan : (c : claims.Command) (o : Option Plan) → (carries_plan g c o v).plans ≡ v.plans
    of_plan c None = refl
    of_plan c (Some q) = refl

    if_so : (c : claims.Command) (b : Bool) → (carries_if g c b v).plans ≡ v.plans
    if_so c true = of_plan c (planned v.plans g)
    if_so c false = refl

    by : (o : Option claims.Command) → (carries_with g o v).plans ≡ v.plans
    by None = refl
    by (Some c) = if_so c _

still_note : (v : View) (n : Note) → is_begin n ≡ false → (hears v (line.Note n)).plans ≡ v.plans
still_note v (note.Begin w) is = absurd (let bad : true ≡ false = is in cc)
still_note v (note.Join x g) is = refl
still_note v (note.Leave x g) is = refl
still_note v (note.Give x id g) is = refl
still_note v (note.Own x id g) is = refl
still_note v (note.Set id g) is = refl
still_note v (note.Unset id) is = refl
still_note v (note.Up x id d count sdu) is = refl
still_note v (note.Freed id d count) is = refl
still_note v (note.Confirmed x) is = refl
still_note v (note.Refused x w) is = refl
still_note v note.Done is = refl
still_note v note.Rejected is = refl

still_record : (l : LinkId) (v : View) (r : Rec) → (hears v (line.Send l (flight.Ctl r))).plans ≡ v.plans
still_record l v (rec.Reconf q key) = carries_plans q.g v
still_record l v (rec.Rcomp g) = refl
still_record l v (rec.Scgf x) = refl
still_record l v (rec.Recov id) = refl
still_record l v (rec.Recovd id) = refl
still_record l v (rec.Addreq q key) = refl
still_record l v (rec.Addack g) = refl
still_record l v (rec.Addrej g) = refl
still_record l v (rec.Modreq q key) = refl
still_record l v (rec.Modack g) = refl
still_record l v (rec.Modrej g) = refl
still_record l v (rec.Recfg g) = refl
still_record l v (rec.Relreq q) = refl
still_record l v (rec.Relack g) = refl
still_record l v (rec.Relrej g) = refl
still_record l v (rec.Uecr g) = refl
still_record l v (rec.Snst st) = refl
still_record l v (rec.Moved g id) = refl
still_record l v (rec.Scgn id g) = refl
still_record l v rec.Modrqd = refl
still_record l v (rec.Modcnf g) = refl
still_record l v (rec.Modref w) = refl
still_record l v rec.Chgrqd = refl
still_record l v (rec.Chgcnf q) = refl
still_record l v (rec.Chgref w) = refl
still_record l v rec.Relrqd = refl
still_record l v (rec.Relcnf q) = refl

still_flight : (l : LinkId) (v : View) (f : Flight) → (hears v (line.Send l f)).plans ≡ v.plans
still_flight l v (flight.Ctl r) = still_record l v r
still_flight l v (flight.Air id g num tag pdu) = refl
still_flight l v (flight.Ack id g num) = refl
still_flight l v (flight.Tun tag packet) = refl
still_flight l v (flight.Sdu id g payload) = refl
still_flight l v (flight.End id g) = refl
still_flight l v (flight.Told id g count) = refl

pub still_plans : (v : View) (x : Line) → IsStill x → (hears v x).plans ≡ v.plans
still_plans v (line.Note n) is = still_note v n is
still_plans v (line.Send l f) is = still_flight l v f
still_plans v (line.Event e) is = refl
still_plans v (line.Answer a) is = refl

pub still_fold : (xs : List Line) (v : View) → AllByRecursion IsStill xs → (fold hears v xs).plans ≡ v.plans
still_fold [] v are = refl
still_fold (x ∷ xs) v are = still_fold xs (hears v x) are.1 ∙ still_plans v x are.0

pub heard_after : (xs ys : List Line) (v : View) → fold hears v (xs ++ ys) ≡ fold hears (fold hears v xs) ys
heard_after [] ys v = refl
heard_after (x ∷ xs) ys v = heard_after xs ys (hears v x)

-- ---- generations begin with 1

later_draft : (e : Event) (asker : Option Node) (o : Option Draft) (v : View) → AreLater v.plans → AreLater (draws_if e asker o v).plans
later_draft e asker None v later = later
later_draft e asker (Some d) v later = (omega arith, later)

later_draws : (e : Event) (asker : Option Node) (v : View) → AreLater v.plans → AreLater (draws e asker v).plans
later_draws e asker v later = later_draft e asker (draft v.table e) v later

later_begin : (v : View) (n : Note) → is_begin n ≡ true → AreLater v.plans → AreLater (hears v (line.Note n)).plans
later_begin v (note.Begin w) is later = later_draws (command_of w) v.table.sec v later
later_begin v (note.Join x g) is later = absurd (let bad : false ≡ true = is in cc)
later_begin v (note.Leave x g) is later = absurd (let bad : false ≡ true = is in cc)
later_begin v (note.Give x id g) is later = absurd (let bad : false ≡ true = is in cc)
later_begin v (note.Own x id g) is later = absurd (let bad : false ≡ true = is in cc)
later_begin v (note.Set id g) is later = absurd (let bad : false ≡ true = is in cc)
later_begin v (note.Unset id) is later = absurd (let bad : false ≡ true = is in cc)
later_begin v (note.Up x id d count sdu) is later = absurd (let bad : false ≡ true = is in cc)
later_begin v (note.Freed id d count) is later = absurd (let bad : false ≡ true = is in cc)
later_begin v (note.Confirmed x) is later = absurd (let bad : false ≡ true = is in cc)
later_begin v (note.Refused x w) is later = absurd (let bad : false ≡ true = is in cc)
later_begin v note.Done is later = absurd (let bad : false ≡ true = is in cc)
later_begin v note.Rejected is later = absurd (let bad : false ≡ true = is in cc)

later_note : (v : View) (n : Note) → AreLater v.plans → AreLater (hears v (line.Note n)).plans
later_note v n later =
    elim (cases_Bool (is_begin n)) [ inl yes' ↦ later_begin v n yes' later | inr no' ↦ subst AreLater (sym (still_note v n no')) later ]

later_line : (v : View) (x : Line) → AreLater v.plans → AreLater (hears v x).plans
later_line v (line.Note n) later = later_note v n later
later_line v (line.Send l f) later = subst AreLater (sym (still_flight l v f)) later
later_line v (line.Event e) later = later
later_line v (line.Answer a) later = later

pub later_lines : (xs : List Line) (v : View) → AreLater v.plans → AreLater (fold hears v xs).plans
later_lines [] v later = later
later_lines (x ∷ xs) v later = later_lines xs (hears v x) (later_line v x later)

later_loses : (o : Option (ℕ × ℕ)) (v : View) → AreLater v.plans → AreLater (loses o v).plans
later_loses None v later = later
later_loses (Some x) v later = later

later_lost : (o : Option (LinkId × Flight)) (v : View) → AreLater v.plans → AreLater (loses_flight o v).plans
later_lost None v later = later
later_lost (Some s) v later = later_loses (forwarding_of s.1) v later

later_event : (p : Past) (e : Event) (v : View) → AreLater v.plans → AreLater (hears_event p e v).plans
later_event p (event.Bearer id n first shape threshold policy) v later = later_draws (event.Bearer id n first shape threshold policy) None v later
later_event p (event.Reshape id shape) v later = later_draws (event.Reshape id shape) None v later
later_event p (event.Remove id) v later = later_draws (event.Remove id) None v later
later_event p (event.Add node) v later = later_draws (event.Add node) None v later
later_event p event.Change v later = later_draws event.Change None v later
later_event p event.Release v later = later_draws event.Release None v later
later_event p event.RekeySecond v later = later_draws event.RekeySecond None v later
later_event p (event.RekeyMaster root) v later = later_draws (event.RekeyMaster root) None v later
later_event p (event.Recover id) v later = later
later_event p (event.Lose l i) v later = later_lost (find_at l i p.standing) v later
later_event p (event.Submit id d payload) v later = later
later_event p (event.Report x id) v later = later
later_event p (event.Deny x on) v later = later
later_event p (event.Ask x w) v later = later
later_event p event.ScgFail v later = later
later_event p (event.Step l i) v later = later
later_event p (event.Again l i) v later = later

pub later_answer : (p : Past) (e : Event) (a : Answer) (v : View) → AreLater v.plans → AreLater (hears_answer p e a v).plans
later_answer p e answer.Ok v later = later_event p e v later
later_answer p e (answer.No why) v later = later

pub found_later : (plans : List Plan) (g : ℕ) (q : Plan) → AreLater plans → planned plans g ≡ Some q → 1 ≤ q.g
found_later [] g q later at = absurd (let bad : None ≡ Some q = at in cc)
found_later (x ∷ plans) g q later at =
    elim (cases_Bool (x.g == g)) [
      | inl here ↦ let same : x ≡ q = let e = rw here at at in cc in subst (λ (y : Plan). 1 ≤ y.g) same later.0
      | inr there ↦ found_later plans g q later.1 (rw there at at)
    ]

-- ---- lines that carry no plan

none_of : (o : Option Plan) → is_some o ≡ false → o ≡ None
none_of None is = refl
none_of (Some q) is = absurd (let bad : true ≡ false = is in cc)

planless_free : (s : Send) → has_plan s ≡ false → IsFree (line.Send s.0 s.1)
planless_free (l, flight.Ctl r) is = inl (none_of (plan_in r) is)
planless_free (l, flight.Air id g num tag pdu) is = tt
planless_free (l, flight.Ack id g num) is = tt
planless_free (l, flight.Tun tag packet) is = tt
planless_free (l, flight.Sdu id g payload) is = tt
planless_free (l, flight.End id g) is = tt
planless_free (l, flight.Told id g count) is = tt

-- of the sends of an event
module _ (plans : List Plan) (later : AreLater plans) where
  of_release : (q : Plan) → BringsPlan plans (rec.Relcnf q) (Some q) → (q.g == 0) ≡ true → IsFreeFlight (flight.Ctl (rec.Relcnf q))
  of_release q (inl runs) is = let zero' = eqb-true q.g 0 is in let one = found_later plans q.g q later runs.0 in absurd (omega (arith, zero', one))
  of_release q (inr none) is = inr (ap (λ (p : Plan). rec.Relcnf p) none.0)

  idle_free : (s : Send) → SendBrings plans s → is_idle_release s ≡ true → IsFree (line.Send s.0 s.1)
  idle_free (l, flight.Ctl (rec.Reconf q key)) brings is = absurd (let bad : false ≡ true = is in cc)
  idle_free (l, flight.Ctl (rec.Rcomp g)) brings is = absurd (let bad : false ≡ true = is in cc)
  idle_free (l, flight.Ctl (rec.Scgf x)) brings is = absurd (let bad : false ≡ true = is in cc)
  idle_free (l, flight.Ctl (rec.Recov id)) brings is = absurd (let bad : false ≡ true = is in cc)
  idle_free (l, flight.Ctl (rec.Recovd id)) brings is = absurd (let bad : false ≡ true = is in cc)
  idle_free (l, flight.Ctl (rec.Addreq q key)) brings is = absurd (let bad : false ≡ true = is in cc)
  idle_free (l, flight.Ctl (rec.Addack g)) brings is = absurd (let bad : false ≡ true = is in cc)
  idle_free (l, flight.Ctl (rec.Addrej g)) brings is = absurd (let bad : false ≡ true = is in cc)
  idle_free (l, flight.Ctl (rec.Modreq q key)) brings is = absurd (let bad : false ≡ true = is in cc)
  idle_free (l, flight.Ctl (rec.Modack g)) brings is = absurd (let bad : false ≡ true = is in cc)
  idle_free (l, flight.Ctl (rec.Modrej g)) brings is = absurd (let bad : false ≡ true = is in cc)
  idle_free (l, flight.Ctl (rec.Recfg g)) brings is = absurd (let bad : false ≡ true = is in cc)
  idle_free (l, flight.Ctl (rec.Relreq q)) brings is = absurd (let bad : false ≡ true = is in cc)
  idle_free (l, flight.Ctl (rec.Relack g)) brings is = absurd (let bad : false ≡ true = is in cc)
  idle_free (l, flight.Ctl (rec.Relrej g)) brings is = absurd (let bad : false ≡ true = is in cc)
  idle_free (l, flight.Ctl (rec.Uecr g)) brings is = absurd (let bad : false ≡ true = is in cc)
  idle_free (l, flight.Ctl (rec.Snst st)) brings is = absurd (let bad : false ≡ true = is in cc)
  idle_free (l, flight.Ctl (rec.Moved g id)) brings is = absurd (let bad : false ≡ true = is in cc)
  idle_free (l, flight.Ctl (rec.Scgn id g)) brings is = absurd (let bad : false ≡ true = is in cc)
  idle_free (l, flight.Ctl rec.Modrqd) brings is = absurd (let bad : false ≡ true = is in cc)
  idle_free (l, flight.Ctl (rec.Modcnf g)) brings is = absurd (let bad : false ≡ true = is in cc)
  idle_free (l, flight.Ctl (rec.Modref w)) brings is = absurd (let bad : false ≡ true = is in cc)
  idle_free (l, flight.Ctl rec.Chgrqd) brings is = absurd (let bad : false ≡ true = is in cc)
  idle_free (l, flight.Ctl (rec.Chgcnf q)) brings is = absurd (let bad : false ≡ true = is in cc)
  idle_free (l, flight.Ctl (rec.Chgref w)) brings is = absurd (let bad : false ≡ true = is in cc)
  idle_free (l, flight.Ctl rec.Relrqd) brings is = absurd (let bad : false ≡ true = is in cc)
  idle_free (l, flight.Ctl (rec.Relcnf q)) brings is = of_release q brings is
  idle_free (l, flight.Air id g num tag pdu) brings is = tt
  idle_free (l, flight.Ack id g num) brings is = tt
  idle_free (l, flight.Tun tag packet) brings is = tt
  idle_free (l, flight.Sdu id g payload) brings is = tt
  idle_free (l, flight.End id g) brings is = tt
  idle_free (l, flight.Told id g count) brings is = tt

  idles_free : (ss : List Send) → AllByRecursion (SendBrings plans) ss → AllByRecursion IsFree (map (λ (s : Send). line.Send s.0 s.1) (filter is_idle_release ss))
  idles_free [] bring = tt
  idles_free (s ∷ ss) bring =
      elim (cases_Bool (is_idle_release s)) [ inl yes' ↦ rw yes' (idle_free s bring.0 yes', idles_free ss bring.1) | inr no' ↦ rw no' (idles_free ss bring.1) ]

notes_free : (ns : List Note) → AllByRecursion IsFree (map (λ x. line.Note x) ns)
notes_free [] = tt
notes_free (n ∷ ns) = (tt, notes_free ns)

first_free : (notes : List Note) (ks : List ℕ) → AllByRecursion IsFree (flat_map (notes_at notes) ks)
first_free notes ks = each_flat IsFree (notes_at notes) ks (λ k. notes_free (filter (λ x. place x == k) notes))

on_free : (l : LinkId) (ss : List Send) → ArePlanless ss → AllByRecursion IsFree (sends_on ss l)
on_free l [] none = tt
on_free l (s ∷ ss) none =
    elim (cases_Bool (is_same_link l s.0)) [ inl yes' ↦ rw yes' (planless_free s none.0, on_free l ss none.1) | inr no' ↦ rw no' (on_free l ss none.1) ]

ordered_free : (notes : List Note) (ss : List Send) → ArePlanless ss → AllByRecursion IsFree (ordered notes ss)
ordered_free notes ss none =
    let first = flat_map (notes_at notes) (0 ∷ 1 ∷ 2 ∷ 3 ∷ 4 ∷ []) in
    let mid = flat_map (sends_on ss) all_links in
    let last = flat_map (notes_at notes) (5 ∷ 6 ∷ []) in
    each_append IsFree (first ++ mid) last
    (each_append IsFree first mid (first_free notes (0 ∷ 1 ∷ 2 ∷ 3 ∷ 4 ∷ [])) (each_flat IsFree (sends_on ss) all_links (λ l. on_free l ss none))) (first_free notes (5 ∷ 6 ∷ []))

-- ---- lines that draw none

sends_still : (ss : List Send) → AllByRecursion IsStill (map (λ (s : Send). line.Send s.0 s.1) ss)
sends_still [] = tt
sends_still (s ∷ ss) = (tt, sends_still ss)

still_at : (k : ℕ) → ((w : Want) → (place (note.Begin w) == k) ≡ false) → (n : Note) → (place n == k) ≡ true → is_begin n ≡ false
still_at k not_zero (note.Begin w) at = absurd (let bad : false ≡ true = sym (not_zero w) ∙ at in cc)
still_at k not_zero (note.Join x g) at = refl
still_at k not_zero (note.Leave x g) at = refl
still_at k not_zero (note.Give x id g) at = refl
still_at k not_zero (note.Own x id g) at = refl
still_at k not_zero (note.Set id g) at = refl
still_at k not_zero (note.Unset id) at = refl
still_at k not_zero (note.Up x id d count sdu) at = refl
still_at k not_zero (note.Freed id d count) at = refl
still_at k not_zero (note.Confirmed x) at = refl
still_at k not_zero (note.Refused x w) at = refl
still_at k not_zero note.Done at = refl
still_at k not_zero note.Rejected at = refl

last_still : (k : ℕ) → ((w : Want) → (place (note.Begin w) == k) ≡ false) → (ns : List Note) → AllByRecursion IsStill (notes_at ns k)
last_still k not_zero [] = tt
last_still k not_zero (n ∷ ns) =
    elim (cases_Bool (place n == k)) [ inl yes' ↦ rw yes' (still_at k not_zero n yes', last_still k not_zero ns) | inr no' ↦ rw no' (last_still k not_zero ns) ]

-- ---- the lines of an outcome

-- first some that carry no plan, and then some that draw none
pub record Splits (lines : List Line) : Type 0 where
  pub start : List Line
  pub rest : List Line
  pub is : lines ≡ start ++ rest
  pub free : AllByRecursion IsFree start
  pub still : AllByRecursion IsStill rest

split_ordered : (notes : List Note) (ss : List Send) → Splits (ordered notes ss)
split_ordered notes ss =
    let first = flat_map (notes_at notes) (0 ∷ 1 ∷ 2 ∷ 3 ∷ 4 ∷ []) in
    let mid = flat_map (sends_on ss) all_links in
    let last = flat_map (notes_at notes) (5 ∷ 6 ∷ []) in
    record {
      start = first;
      rest = mid ++ last;
      is = append_assoc first mid last;
      free = first_free notes (0 ∷ 1 ∷ 2 ∷ 3 ∷ 4 ∷ []);
      still =
          each_append IsStill mid last (each_flat IsStill (sends_on ss) all_links (λ l. sends_still (filter (λ (s : Send). is_same_link l s.0) ss)))
          (each_append IsStill (notes_at notes 5) (notes_at notes 6 ++ []) (last_still 5 (λ w. refl) notes) (each_append IsStill (notes_at notes 6) [] (last_still 6 (λ w. refl) notes) tt));
    }

split_ended : (plans : List Plan) → AreLater plans → (notes : List Note) (ss : List Send) → AllByRecursion (SendBrings plans) ss → ArePlanless (sends_before ss) → Splits (ended notes ss)
split_ended plans later notes ss bring none =
    let before = ordered (notes_before notes) (sends_before ss) in
    let idle = map (λ (s : Send). line.Send s.0 s.1) (filter is_idle_release ss) in
    let more = split_ordered (notes_after notes) (sends_after ss) in
    record {
      start = (before ++ idle) ++ more.start;
      rest = more.rest;
      is = ap (λ xs. (before ++ idle) ++ xs) more.is ∙ sym (append_assoc (before ++ idle) more.start more.rest);
      free =
          each_append IsFree (before ++ idle) more.start
          (each_append IsFree before idle (ordered_free (notes_before notes) (sends_before ss) none) (idles_free plans later ss bring)) more.free;
      still = more.still;
    }

pub split_lines : (plans : List Plan) → AreLater plans → (o : Outcome) → AllByRecursion (SendBrings plans) o.sends → IsSorted (effects_of o) → Splits (lines_of o)
split_lines plans later o bring (inl none) = subst (λ b. Splits (lines_by b o)) (sym none) (split_ordered o.notes o.sends)
split_lines plans later o bring (inr planless) = by (list_any is_end o.notes)
  where
    by : (b : Bool) → Splits (lines_by b o)
    by true = split_ended plans later o.notes o.sends bring planless
    by false = split_ordered o.notes o.sends
