-- What the master does in an event, by parts, and the record, the event or the adoption from which that comes.
use Rattle.std.proofs.Common.{ℕ, ◌≡◌, true, List, [], ◌∷◌, Option, Some, None, refl, sym, ap, subst, ◌∙◌, slice_get}
use Rattle.std.specs.Prelude.{if◌then◌else◌, nat_lt, ⊤, ◌&&◌}
use Rattle.dc_base.specs.Links.{is_ordered, is_tunnel, link}
use Rattle.dc_base.specs.Nodes.{is_secondary}
use Rattle.dc_base.specs.declared.answers.Refusal.TheVariants as refusal
use Rattle.dc_base.specs.declared.events.Event.{Event}
use Rattle.dc_base.specs.declared.events.Event.TheVariants as event
use Rattle.dc_base.specs.declared.flights.Flight.{Flight}
use Rattle.dc_base.specs.declared.flights.Flight.TheVariants as flight
use Rattle.dc_base.specs.declared.nodes.Class.{Class}
use Rattle.dc_base.specs.declared.nodes.Class.TheVariants.{Ctl}
use Rattle.dc_base.specs.declared.nodes.LinkId.{LinkId}
use Rattle.dc_base.specs.declared.nodes.Node.{Node}
use Rattle.dc_base.specs.declared.nodes.Node.TheVariants.{A, B, M, T}
use Rattle.dc_base.specs.declared.records.Rec.{Rec}
use Rattle.node_rules.specs.Choices.{Choices}
use Rattle.node_rules.specs.Flights.{weight}
use Rattle.node_rules.specs.MasterState.{MasterActs, MasterProc}
use Rattle.node_rules.specs.MasterStep.{master_step}
use Rattle.node_rules.specs.Readers.{is_aged_for}
use Rattle.node_rules.specs.Run.{Happening, carried_on, copy_of, given_to, happening, in_tunnel, loss_of, node_at, on_links, refused_for, step_of, world_step}
use Rattle.node_rules.specs.World.{World, flights_on}
use Rattle.node_rules.specs.declared.inputs.Input.{Input}
use Rattle.node_rules.specs.declared.inputs.Input.TheVariants.{Cmd, Come}
use Rattle.run_control.specs.Links.{records_on}
use Rattle.run_control.specs.Steps.{record_in, sender_of}
use Rattle.run_control.specs.Traffic.{came}
use Rattle.run_control.proofs.Sent.{either}
use Rattle.run_control.proofs.Steps.{master_stepped}
use Rattle.run_control.proofs.Taken.{GoesRight, IsRight, Takes, event_right, event_takes, left_by, records_in, takes_none, takes_one}
use Rattle.run_control.proofs.TalkSteps.{IsKept, input_of}
use Rattle.run_agreed.specs.Segments.{Chain, IsChain, Origin, Segment, by_event, by_itself, by_record}
use Rattle.run_agreed.proofs.Chains.{chain_none}
use Rattle.run_agreed.proofs.PairParts.{none_of, stepped_went}

-- ---- chains of procedures alone

module _ (o : Origin) (P : MasterProc → Type 0) (by_part : (m : MasterProc) (r : MasterActs) → P m → Segment o m r → P r.0) where
  keeps_by : (parts : List MasterActs) (m : MasterProc) (out : MasterActs) → P m → Chain o parts m out → P out.0
  keeps_by [] m out is all = subst (λ (y : MasterActs). P y.0) (sym all) is
  keeps_by (r ∷ rs) m out is all = subst (λ (y : MasterActs). P y.0) (sym all.1.2) (keeps_by rs r.0 all.1.0 (by_part m r is all.0) all.1.1)

  -- what each part keeps, the whole keeps
  pub proc_keeps : (m : MasterProc) (out : MasterActs) → P m → IsChain o m out → P out.0
  proc_keeps m out is chain = keeps_by chain.parts m out is chain.all

-- ---- an event that is given to a node

-- it is this event
abbrev OfEvent : Event → Input → Type 0
OfEvent e (Cmd d) = d ≡ e
OfEvent e (Come l f) = ⊤

abbrev CmdOf : Event → Happening → Type 0
CmdOf e (given_to x i) = OfEvent e i
CmdOf e (refused_for why) = ⊤
CmdOf e (on_links effects) = ⊤

step_cmd : (e : Event) (w : World) (l : LinkId) (i : ℕ) (o : Option Flight) → CmdOf e (step_of w l i o)
step_cmd e w l i None = tt
step_cmd e w l i (Some f) =
    either (CmdOf e) (is_ordered l.class && nat_lt 0 i) (refused_for refusal.NotFirst) (if is_aged_for (node_at w l.to) (weight f) then refused_for refusal.Aged else given_to l.to (Come l f))
    tt (either (CmdOf e) (is_aged_for (node_at w l.to) (weight f)) (refused_for refusal.Aged) (given_to l.to (Come l f)) tt tt)

tunnel_cmd : (e : Event) (k : Class) (h : Happening) → CmdOf e h → CmdOf e (in_tunnel k h)
tunnel_cmd e k h is = either (CmdOf e) (is_tunnel k) h (refused_for refusal.NotTunnel) is tt

loss_cmd : (e : Event) (o : Option Flight) → CmdOf e (loss_of o)
loss_cmd e None = tt
loss_cmd e (Some f) = tt

copy_cmd : (e : Event) (l : LinkId) (o : Option Flight) → CmdOf e (copy_of l o)
copy_cmd e l None = tt
copy_cmd e l (Some f) = tt

event_cmd : (w : World) (e : Event) → CmdOf e (happening w e)
event_cmd w (event.Bearer id n first shape threshold policy) = refl
event_cmd w (event.Reshape id shape) = refl
event_cmd w (event.Remove id) = refl
event_cmd w (event.Add node) = refl
event_cmd w event.Change = refl
event_cmd w event.Release = refl
event_cmd w event.RekeySecond = refl
event_cmd w (event.RekeyMaster root) = refl
event_cmd w (event.Recover id) = refl
event_cmd w (event.Report node id) = refl
event_cmd w (event.Deny node on) = refl
event_cmd w (event.Ask node what) = refl
event_cmd w event.ScgFail = refl
event_cmd w (event.Submit id d payload) = refl
event_cmd w (event.Step l i) = step_cmd (event.Step l i) w l i (slice_get (flights_on l w.links) i)
event_cmd w (event.Lose l i) = tunnel_cmd (event.Lose l i) l.class (loss_of (slice_get (flights_on l w.links) i)) (loss_cmd (event.Lose l i) (slice_get (flights_on l w.links) i))
event_cmd w (event.Again l i) = tunnel_cmd (event.Again l i) l.class (copy_of l (slice_get (flights_on l w.links) i)) (copy_cmd (event.Again l i) l (slice_get (flights_on l w.links) i))

-- ---- the master in an event

-- its procedures rest, or they go on by parts: by a record that was first on its link, by the event, or by an adoption
pub record MasterEvent (w : World) (e : Event) (m : MasterProc) : Type 0 where
  pub origin : Origin
  pub on_line : (y : Node) (q : Rec) → is_secondary y ≡ true → origin ≡ by_record y q → (rest : List Rec) × (records_on y M w ≡ q ∷ rest)
  pub of_event : (d : Event) → origin ≡ by_event d → d ≡ e
  pub out : MasterActs
  pub chain : IsChain origin w.master.proc out
  pub proc : m ≡ out.0

still : (w : World) (e : Event) → MasterEvent w e w.master.proc
still w e = record {
  origin = by_itself;
  on_line = λ y q second is. absurd cc;
  of_event = λ d is. absurd cc;
  out = (w.master.proc, []);
  chain = chain_none by_itself w.master.proc;
  proc = refl;
}

first_rec : (r q : Rec) → Some r ≡ Some q → r ≡ q
first_rec r q is = cc

module _ (c : Choices) (w : World) (e : Event) (kept : IsKept w) where
  -- a record that comes on a link is the first there
  came_first : (i : Input) → GoesRight i M → happening w e ≡ given_to M i → (y : Node) (q : Rec) (control : (link y M Ctl).class ≡ Ctl) → record_in i ≡ Some q → sender_of i ≡ y
      → Takes (link y M Ctl) (given_to M i) (records_on y M w) (records_in (left_by c w (link y M Ctl) control e (happening w e))) → (rest : List Rec) × (records_on y M w ≡ q ∷ rest)
  came_first i right is y q control came_in from (takes_none same none) = absurd (none_of y i q none right from came_in)
  came_first i right is y q control came_in from (takes_one r first at) =
      let input : i ≡ Come (link y M Ctl) (flight.Ctl r) = ap (λ h. input_of h i) at in
      let same : r ≡ q = first_rec r q (sym (ap record_in input) ∙ came_in) in
      (records_in (left_by c w (link y M Ctl) control e (happening w e)), first ∙ ap (λ x. x ∷ records_in (left_by c w (link y M Ctl) control e (happening w e))) same)

  given_master : (i : Input) → happening w e ≡ given_to M i → MasterEvent w e (came (master_step c w.master i)).0.proc
  given_master i is =
      let done = came (master_step c w.master i) in
      let went = stepped_went A refl c w.master i done kept.ordered.master (master_stepped c w.master i kept.ordered.master) in
      record {
        origin = went.origin;
        on_line = λ y q second from. let of = went.of_input y q from in
            came_first i (subst IsRight is (event_right w e)) is y q refl of.0 of.1 (subst (λ h. Takes (link y M Ctl) h (records_on y M w) (records_in (left_by c w (link y M Ctl) refl e (happening w e)))) is (event_takes c w (link y M Ctl) refl e));
        of_event = λ d from. subst (OfEvent e) (went.of_event d from) (subst (CmdOf e) is (event_cmd w e));
        out = went.out;
        chain = went.chain;
        proc = went.proc;
      }

  by_happening : (what : Happening) → happening w e ≡ what → MasterEvent w e (carried_on c w what).0.master.proc
  by_happening (given_to T i) is = still w e
  by_happening (given_to M i) is = given_master i is
  by_happening (given_to A i) is = still w e
  by_happening (given_to B i) is = still w e
  by_happening (refused_for why) is = still w e
  by_happening (on_links effects) is = still w e

  -- of any event
  pub master_event : MasterEvent w e (world_step c w e).0.master.proc
  master_event = by_happening (happening w e) refl
