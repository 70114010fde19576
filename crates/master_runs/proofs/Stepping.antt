-- A flight that is to be taken from its link, or a tunnel that is to lose or repeat one: it is done, or refused.
use Rattle.std.proofs.Common.{ℕ, zero, suc, ◌≡◌, ◌≤◌, ◌&&◌, ◌⊎◌, List, [], ◌∷◌, Option, Some, None, true, false, length, slice_get, refl, sym, ap, ◌∙◌, subst, arith, inl, inr}
use Rattle.std.specs.Prelude.{if◌then◌else◌, nat_lt, nat_le, not}
use Rattle.std.proofs.lemmas.Option.{same_Some}
use Rattle.std.proofs.lemmas.Bool.{le-leb, cond_both, cond-true, cond-false}
use Rattle.std.proofs.lemmas.Bool.Decides.{nat_tests}
use Rattle.dc_base.specs.declared.nodes.Class.{Class}
use Rattle.dc_base.specs.declared.nodes.Class.TheVariants.{Ctl, Feed, Air, Tun}
use Rattle.dc_base.specs.declared.nodes.Dir.{Dir}
use Rattle.dc_base.specs.declared.nodes.Dir.TheVariants.{Ul, Dl}
use Rattle.dc_base.specs.declared.nodes.LinkId.{LinkId}
use Rattle.dc_base.specs.declared.nodes.Node.{Node}
use Rattle.dc_base.specs.declared.nodes.Node.TheVariants.{T, M, A, B}
use Rattle.dc_base.specs.declared.flights.Flight.{Flight}
use Rattle.dc_base.specs.declared.flights.Flight.TheVariants as flight
use Rattle.dc_base.specs.declared.records.Rec.{Rec}
use Rattle.dc_base.specs.declared.records.Rec.TheVariants.{Reconf, Rcomp, Recov, Recovd}
use Rattle.dc_base.specs.declared.answers.Answer.TheVariants as answer
use Rattle.dc_base.specs.declared.answers.Answer.TheVariants.{No}
use Rattle.dc_base.specs.declared.answers.Refusal.{Refusal}
use Rattle.dc_base.specs.declared.answers.Refusal.TheVariants.{NoFlight, NotFirst, NotTunnel, Aged}
use Rattle.dc_base.specs.declared.events.Header.{Header}
use Rattle.dc_base.specs.declared.events.Event.{Event}
use Rattle.dc_base.specs.declared.events.Event.TheVariants.{Step}
use Rattle.dc_base.specs.declared.events.Line.{Line}
use Rattle.dc_base.specs.Links.{is_ordered, is_tunnel, link}
use Rattle.transcript.specs.Transcript.{Entry}
use Rattle.transcript.specs.Content.{content, mt_ctl, tm_ctl, place_taken}
use Rattle.transcript.specs.Claims.{step_answer, tunnel_answer}
use Rattle.transcript.proofs.OnEach.{each_at}
use Rattle.master_runs.specs.Entities.{Table}
use Rattle.master_runs.specs.Plane.{Outcome, leg, other, air_taken, is_aged}
use Rattle.master_runs.specs.Control.{Nodes, told_terminal, told_master}
use Rattle.master_runs.specs.Links.{on}
use Rattle.master_runs.specs.Run.{WorldState, table_at, taken_from, stepped, tunnelled, tunnelled_at}
use Rattle.master_runs.proofs.Sound.{receiver_table, IsAckOf, OnLeg, a_pdu, a_report, an_ack, Promise, Phase, idle, Happened, Sound, commanded as phase_commanded, answered as phase_answered, recovering as phase_recovering, recovered as phase_recovered}
use Rattle.master_runs.proofs.Tables.{with_receiver}
use Rattle.master_runs.proofs.Refusing.{refused_happened}
use Rattle.master_runs.proofs.Reporting.{report_happened}
use Rattle.master_runs.proofs.SettingUp.{told_terminal_happened, told_master_happened}
use Rattle.master_runs.proofs.Receiving.{data_happened, aged_happened}
use Rattle.master_runs.proofs.Acking.{ack_happened}
use Rattle.master_runs.proofs.Deciding.{Next, next}

-- no place is past the end
past_end : {X : Type 0} (xs : List X) (i : ℕ) → slice_get xs i ≡ None → length xs ≤ i
past_end [] i none = omega arith
past_end (x ∷ xs) zero none = absurd cc
past_end (x ∷ xs) (suc i) none = omega (arith, past_end xs i none)

-- no flight stands on a tunnel
no_tunnel : (h : Header) (t : List Entry) (s : Nodes) (from to : Node) (f : Flight) → Promise h t s from to Tun f → ⊥
no_tunnel h t s T T f p = p
no_tunnel h t s T M f p = p
no_tunnel h t s T A f p = p
no_tunnel h t s T B f p = p
no_tunnel h t s M T f p = p
no_tunnel h t s M M f p = p
no_tunnel h t s M A f p = p
no_tunnel h t s M B f p = p
no_tunnel h t s A to f p = p
no_tunnel h t s B to f p = p

module _ (h : Header) (policies : ℕ) (t : List Entry) (w : WorldState) (sound : Sound h policies t w) where
  -- ---- a step

  -- a step that is refused
  refuse_step : (l : LinkId) (i : ℕ) (why : Refusal) → place_taken (Step l i) (No why) ≡ None → No why ≡ step_answer t l i (slice_get (content l t) i)
      → Next h policies t w (Step l i) (w.nodes, (No why, []))
  refuse_step l i why none due =
      next h policies t w sound (Step l i) (w.nodes, (No why, []))
      (refused_happened h policies t w sound (Step l i) why (λ g. refl) refl (λ g o. refl) (λ b d c. refl) refl none due)

  -- on a link that keeps its order only the first place is left
  first_place : (i : ℕ) → nat_lt 0 i ≡ false → i ≡ 0
  first_place zero is = refl
  first_place (suc i) is = absurd (let e : nat_lt 0 (suc i) ≡ true = grind (arith, nat_tests) in cc)

  -- on a control link stands one record at most, and a record is never aged
  abbrev HasRecord : List Flight → Type 0
  HasRecord fs = (fs ≡ []) ⊎ ((r : Rec) × (fs ≡ flight.Ctl r ∷ []))

  -- what stands on the control links
  records : Phase h t w.nodes w.links → HasRecord (on w.links mt_ctl) × HasRecord (on w.links tm_ctl)
  records (idle free reconf rcomp all) = (inl reconf, inl rcomp)
  records (phase_commanded b there shape threshold policy busy reconf rcomp unused unsent lacks others) = (inr (Reconf _ h.root, reconf), inl rcomp)
  records (phase_answered b there busy reconf rcomp all) = (inl reconf, inr (Rcomp b.g, rcomp))
  records (phase_recovering b there busy recov recovd all) = (inr (Recov b.id, recov), inl recovd)
  records (phase_recovered b there busy recov recovd all) = (inl recov, inr (Recovd b.id, recovd))

  -- no record is aged
  young_record : (fs : List Flight) (f : Flight) (table : Table) → HasRecord fs → slice_get fs 0 ≡ Some f → is_aged table f ≡ false
  young_record fs f table (inl none) at = absurd (let e : None ≡ Some f = ap (λ (xs : List Flight). slice_get xs 0) (sym none) ∙ at in cc)
  young_record fs f table (inr (r, one)) at =
      let is : flight.Ctl r ≡ f = same_Some (flight.Ctl r) f (ap (λ (xs : List Flight). slice_get xs 0) (sym one) ∙ at) in
      ap (is_aged table) (sym is)

  -- the decision on a step, where the flight is not aged
  abbrev given : Node → Node → Class → Flight → Nodes × Outcome
  given from to class f = let done = taken_from h w.nodes from to class f in (done.0, (answer.Ok, done.1))

  -- the decision with the flight at its place
  abbrev judged : Node → Node → Class → ℕ → Flight → Nodes × Outcome
  judged from to class i f =
      if is_ordered class && nat_lt 0 i then (w.nodes, (No NotFirst, []))
      else if is_aged (table_at to w.nodes) f then (w.nodes, (No Aged, [])) else given from to class f

  -- a flight on a leg, in its direction
  on_leg : (d : Dir) (i : ℕ) (f : Flight) → slice_get (on w.links (leg d)) i ≡ Some f → OnLeg h t w.nodes d f
      → Next h policies t w (Step (leg d) i) (if is_aged (receiver_table d w.nodes) f then (w.nodes, (No Aged, []))
      else (let done = air_taken h d (receiver_table d w.nodes) f in (with_receiver d w.nodes done.0, (answer.Ok, done.1))))
  on_leg d i f at promise =
      let taken' : Nodes × Outcome = (let done = air_taken h d (receiver_table d w.nodes) f in (with_receiver d w.nodes done.0, (answer.Ok, done.1))) in
      cond_both (is_aged (receiver_table d w.nodes) f) (w.nodes, (No Aged, [])) taken' (Next h policies t w (Step (leg d) i))
      (λ old. next h policies t w sound (Step (leg d) i) (w.nodes, (No Aged, [])) (elim promise [
        | a_pdu pdu ↦ aged_happened h policies t w sound d i f at pdu old
        | a_report report ↦ absurd (let no : is_aged (receiver_table d w.nodes) f ≡ false = ap (is_aged (receiver_table d w.nodes)) report.is in cc)
        | an_ack ack ↦ absurd (let no : is_aged (receiver_table d w.nodes) f ≡ false = ap (is_aged (receiver_table d w.nodes)) ack.is in cc)
      ]))
      (λ young. next h policies t w sound (Step (leg d) i) taken' (elim promise [
        | a_pdu pdu ↦ data_happened h policies t w sound d i f at pdu young
        | a_report report ↦ report_happened h policies t w sound d i f at report
        | an_ack ack ↦ acked d i at ack
      ]))
    where
      acked : (d : Dir) (i : ℕ) → slice_get (on w.links (leg d)) i ≡ Some f → IsAckOf t w.nodes (other d) f
          → Happened h policies t w (record { event = Step (leg d) i; answer = answer.Ok; lines = (air_taken h d (receiver_table d w.nodes) f).1 })
          (with_receiver d w.nodes (air_taken h d (receiver_table d w.nodes) f).0)
      acked Dl i at ack = ack_happened h policies t w sound Ul i f at ack
      acked Ul i at ack = ack_happened h policies t w sound Dl i f at ack

  -- a flight on a control link, which keeps its order
  control_step : (l : LinkId) → l.class ≡ Ctl → (i : ℕ) (f : Flight) (told_by : Flight → Nodes × List Line) (table : Table)
      → slice_get (on w.links l) i ≡ Some f → HasRecord (on w.links l)
      → ((f : Flight) → slice_get (on w.links l) 0 ≡ Some f → Happened h policies t w (record { event = Step l 0; answer = answer.Ok; lines = (told_by f).1 }) (told_by f).0)
      → Next h policies t w (Step l i) (if nat_lt 0 i then (w.nodes, (No NotFirst, [])) else if is_aged table f then (w.nodes, (No Aged, [])) else ((told_by f).0, (answer.Ok, (told_by f).1)))
  control_step l control i f told_by table at has happened =
      let taken' : Nodes × Outcome = ((told_by f).0, (answer.Ok, (told_by f).1)) in
      cond_both (nat_lt 0 i) (w.nodes, (No NotFirst, [])) _ (Next h policies t w (Step l i))
      (λ late. refuse_step l i NotFirst refl (sym (ap (step_answer t l i) (ap (λ (xs : List Flight). slice_get xs i) (sound.contents l) ∙ at)
      ∙ cond-true (is_ordered l.class && nat_lt 0 i) _ _ (ap (λ k. is_ordered k && nat_lt 0 i) control ∙ late))))
      (λ first.
      let zero_is = first_place i first in
      let at_0 : slice_get (on w.links l) 0 ≡ Some f = subst (λ k. slice_get (on w.links l) k ≡ Some f) zero_is at in
      let young = young_record (on w.links l) f table has at_0 in
      subst (Next h policies t w (Step l i)) (sym (cond-false (is_aged table f) (w.nodes, (No Aged, [])) taken' young))
      (subst (λ k. Next h policies t w (Step l k) taken') (sym zero_is) (next h policies t w sound (Step l 0) taken' (happened f at_0))))

  -- a step on a link
  step_at : (from to : Node) (class : Class) (i : ℕ) (f : Flight) → slice_get (on w.links (link from to class)) i ≡ Some f → Promise h t w.nodes from to class f
      → Next h policies t w (Step (link from to class) i) (judged from to class i f)
  step_at M T Air i f at promise = on_leg Dl i f at promise
  step_at T M Air i f at promise = on_leg Ul i f at promise
  step_at M T Ctl i f at promise = control_step mt_ctl refl i f (λ f. told_terminal h w.nodes f) w.nodes.terminal at (records sound.phase).0 (λ f at. told_terminal_happened h policies t w sound f at)
  step_at T M Ctl i f at promise = control_step tm_ctl refl i f (λ f. told_master w.nodes f) w.nodes.master at (records sound.phase).1 (λ f at. told_master_happened h policies t w sound f at)
  step_at M T Feed i f at promise = absurd promise
  step_at M T Tun i f at promise = absurd promise
  step_at T M Feed i f at promise = absurd promise
  step_at T M Tun i f at promise = absurd promise
  step_at T T class i f at promise = absurd promise
  step_at T A class i f at promise = absurd promise
  step_at T B class i f at promise = absurd promise
  step_at M M class i f at promise = absurd promise
  step_at M A class i f at promise = absurd promise
  step_at M B class i f at promise = absurd promise
  step_at A to class i f at promise = absurd promise
  step_at B to class i f at promise = absurd promise

  -- a step, with the flight at its place
  pub step_with : (l : LinkId) (i : ℕ) (o : Option Flight) → slice_get (on w.links l) i ≡ o → Next h policies t w (Step l i) (stepped (record w { header = h }) l i o)
  step_with l i None at =
      refuse_step l i NoFlight refl (sym (ap (step_answer t l i) (ap (λ (xs : List Flight). slice_get xs i) (sound.contents l) ∙ at)))
  step_with l i (Some f) at =
      step_at l.from l.to l.class i f at (each_at (Promise h t w.nodes l.from l.to l.class) (on w.links l) i f (sound.promises l) at)

  -- ---- a loss, or a repeat

  -- an event of a tunnel
  pub tunnel_with : (e : Event) (l : LinkId) (i : ℕ) (lines : Flight → List Line) (o : Option Flight) → slice_get (on w.links l) i ≡ o
      → ((why : Refusal) → No why ≡ tunnel_answer t l i → Next h policies t w e (w.nodes, (No why, [])))
      → Next h policies t w e (tunnelled (record w { header = h }) l o lines)
  tunnel_with e l i lines o at refuse =
      cond_both (is_tunnel l.class) (tunnelled_at (record w { header = h }) o lines) (w.nodes, (No NotTunnel, [])) (Next h policies t w e)
      (λ tunnel. in_tunnel o at tunnel)
      (λ other. refuse NotTunnel (sym (cond-true (not (is_tunnel l.class)) _ _ (ap not other))))
    where
      tun_is : (c : Class) → is_tunnel c ≡ true → c ≡ Tun
      tun_is Ctl e = absurd cc
      tun_is Feed e = absurd cc
      tun_is Air e = absurd cc
      tun_is Tun e = refl

      -- by what stands in the tunnel
      in_tunnel : (o : Option Flight) → slice_get (on w.links l) i ≡ o → is_tunnel l.class ≡ true → Next h policies t w e (tunnelled_at (record w { header = h }) o lines)
      in_tunnel None at tunnel =
          let past : nat_le (length (content l t)) i ≡ true =
          ap (λ (xs : List Flight). nat_le (length xs) i) (sound.contents l) ∙ le-leb (length (on w.links l)) i (past_end (on w.links l) i at) in
          refuse NoFlight (sym (cond-false (not (is_tunnel l.class)) _ _ (ap not tunnel) ∙ cond-true _ _ _ past))
      in_tunnel (Some f) at tunnel =
          absurd (no_tunnel h t w.nodes l.from l.to f
          (subst (λ c. Promise h t w.nodes l.from l.to c f) (tun_is l.class tunnel) (each_at (Promise h t w.nodes l.from l.to l.class) (on w.links l) i f (sound.promises l) at)))
