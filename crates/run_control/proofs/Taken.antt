-- An event takes at most the first record of a control link, and gives it to the node that receives from there.
use Rattle.std.proofs.Common.{ℕ, suc, zero, ◌≡◌, ◌++◌, Bool, true, false, List, [], ◌∷◌, Option, Some, None, refl, sym, ap, subst, ◌∙◌, slice_get, inl, inr, arith}
use Rattle.std.proofs.lemmas.Bool.Decides.{nat_tests}
use Rattle.std.specs.Prelude.{if◌then◌else◌, nat_lt, remove, ⊤, ◌&&◌, ◌⊎◌}
use Rattle.std.specs.List.{filter_map}
use Rattle.std.specs.Option.{unwrap_or}
use Rattle.dc_base.specs.Links.{is_ordered, is_same_link, is_tunnel}
use Rattle.dc_base.specs.declared.answers.Answer.TheVariants as answer
use Rattle.dc_base.specs.declared.answers.Refusal.TheVariants as refusal
use Rattle.dc_base.specs.declared.events.Event.{Event}
use Rattle.dc_base.specs.declared.events.Event.TheVariants as event
use Rattle.dc_base.specs.declared.flights.Flight.{Flight}
use Rattle.dc_base.specs.declared.flights.Flight.TheVariants as flight
use Rattle.dc_base.specs.declared.nodes.Class.{Class}
use Rattle.dc_base.specs.declared.nodes.Class.TheVariants.{Air, Ctl, Feed, Tun}
use Rattle.dc_base.specs.declared.nodes.LinkId.{LinkId}
use Rattle.dc_base.specs.declared.nodes.Node.{Node}
use Rattle.dc_base.specs.declared.nodes.Node.TheVariants.{A, B, M, T}
use Rattle.dc_base.specs.declared.records.Rec.{Rec}
use Rattle.transcript.specs.Content.{place_taken, without_taken}
use Rattle.node_rules.specs.Choices.{Choices}
use Rattle.node_rules.specs.Flights.{weight}
use Rattle.node_rules.specs.Readers.{is_aged_for}
use Rattle.node_rules.specs.Run.{Happening, carried_on, copy_of, given_to, happening, in_tunnel, loss_of, node_at, on_links, refused_for, step_of}
use Rattle.node_rules.specs.World.{World, flights_on}
use Rattle.node_rules.specs.declared.inputs.Input.{Input}
use Rattle.node_rules.specs.declared.inputs.Input.TheVariants.{Cmd, Come}
use Rattle.master_runs.proofs.Moving.{same_link}
use Rattle.run_control.specs.Links.{record_of, sent_on}
use Rattle.run_control.specs.Steps.{record_in, record_on}
use Rattle.run_control.proofs.Sent.{either}

-- the records among flights, in their order
abbrev pub records_in : List Flight → List Rec
records_in fs = filter_map record_of fs

-- ---- what is taken

-- an input brings no record of the link
abbrev pub NoneOf : LinkId → Input → Type 0
NoneOf l (Cmd e) = ⊤
NoneOf l (Come k f) = (is_same_link l k ≡ false) ⊎ (record_in (Come k f) ≡ None)

abbrev pub HasNone : LinkId → Happening → Type 0
HasNone l (given_to x i) = NoneOf l i
HasNone l (refused_for why) = ⊤
HasNone l (on_links effects) = ⊤

-- the records of a link after something was taken: as they were, or without the first one, which its receiver is given
pub data Takes (l : LinkId) (what : Happening) (before after : List Rec) : Type 0 where
  takes_none : (same : after ≡ before) → (none : HasNone l what) → Takes l what before after
  takes_one : (r : Rec) → (first : before ≡ r ∷ after) → (is : what ≡ given_to l.to (Come l (flight.Ctl r))) → Takes l what before after

-- ---- a step

first_place : (i : ℕ) → nat_lt 0 i ≡ false → i ≡ 0
first_place zero first = refl
first_place (suc i) first = absurd (let later : nat_lt 0 (suc i) ≡ true = grind (arith, nat_tests) in cc)

first_flight : (fs : List Flight) (i : ℕ) (f : Flight) → i ≡ 0 → slice_get fs i ≡ Some f → fs ≡ f ∷ remove fs i
first_flight [] zero f first at = absurd cc
first_flight (x ∷ xs) zero f first at = ap (λ y. y ∷ xs) (ap (λ o. unwrap_or o x) at)
first_flight fs (suc i) f first at = absurd cc

-- a record does not age
aged_none : (w : World) (x : Node) (f : Flight) → is_aged_for (node_at w x) (weight f) ≡ true → record_of f ≡ None
aged_none w x (flight.Ctl r) aged = absurd cc
aged_none w x (flight.Air id g num tag pdu) aged = refl
aged_none w x (flight.Ack id g num) aged = refl
aged_none w x (flight.Tun tag packet) aged = refl
aged_none w x (flight.Sdu id g payload) aged = refl
aged_none w x (flight.End id g) aged = refl
aged_none w x (flight.Told id g count) aged = refl

with_none : (f : Flight) (fs : List Flight) → record_of f ≡ None → records_in (f ∷ fs) ≡ records_in fs
with_none (flight.Ctl r) fs none = absurd cc
with_none (flight.Air id g num tag pdu) fs none = refl
with_none (flight.Ack id g num) fs none = refl
with_none (flight.Tun tag packet) fs none = refl
with_none (flight.Sdu id g payload) fs none = refl
with_none (flight.End id g) fs none = refl
with_none (flight.Told id g count) fs none = refl

-- an input that comes is answered
come_ok : (c : Choices) (w : World) (k : LinkId) (f : Flight) (x : Node) → (carried_on c w (given_to x (Come k f))).1.answer ≡ answer.Ok
come_ok c w k f T = refl
come_ok c w k f M = refl
come_ok c w k f A = refl
come_ok c w k f B = refl

-- a flight that has no record brings none
no_record : (k : Class) (f : Flight) → record_of f ≡ None → record_on k f ≡ None
no_record Feed f none = refl
no_record Air f none = refl
no_record Tun f none = refl
no_record Ctl (flight.Ctl r) none = absurd cc
no_record Ctl (flight.Air id g num tag pdu) none = refl
no_record Ctl (flight.Ack id g num) none = refl
no_record Ctl (flight.Tun tag packet) none = refl
no_record Ctl (flight.Sdu id g payload) none = refl
no_record Ctl (flight.End id g) none = refl
no_record Ctl (flight.Told id g count) none = refl

module _ (c : Choices) (w : World) (l : LinkId) (control : l.class ≡ Ctl) where
  abbrev pub fs : List Flight
  fs = flights_on l w.links

  -- what is left where this happened
  abbrev pub left_by : Event → Happening → List Flight
  left_by e what = without_taken l (place_taken e (carried_on c w what).1.answer) fs

  -- a flight that is on the link
  module _ (k : LinkId) (i : ℕ) (f : Flight) (at : slice_get (flights_on k w.links) i ≡ Some f) (first : (is_ordered k.class && nat_lt 0 i) ≡ false) where
    front : is_same_link l k ≡ true → fs ≡ f ∷ remove fs i
    front same =
        let is : l ≡ k = same_link l k same in
        let class : k.class ≡ Ctl = sym (ap (λ (j : LinkId). j.class) is) ∙ control in
        first_flight fs i f (first_place i (sym (ap (λ (d : Class). is_ordered d && nat_lt 0 i) class) ∙ first)) (ap (λ (j : LinkId). slice_get (flights_on j w.links) i) is ∙ at)

    -- it has no record
    passes : (b : Bool) → is_same_link l k ≡ b → record_of f ≡ None → records_in (if b then remove fs i else fs) ≡ records_in fs
    passes false other none = refl
    passes true same none = sym (ap records_in (front same) ∙ with_none f (remove fs i) none)

    aged_takes : is_aged_for (node_at w k.to) (weight f) ≡ true → Takes l (refused_for refusal.Aged) (records_in fs) (records_in (left_by (event.Step k i) (refused_for refusal.Aged)))
    aged_takes aged = takes_none (passes (is_same_link l k) refl (aged_none w k.to f aged)) tt

    given_takes : Takes l (given_to k.to (Come k f)) (records_in fs) (records_in (left_by (event.Step k i) (given_to k.to (Come k f))))
    given_takes =
        subst (λ a. Takes l (given_to k.to (Come k f)) (records_in fs) (records_in (without_taken l (place_taken (event.Step k i) a) fs))) (sym (come_ok c w k f k.to)) (by (is_same_link l k) refl)
      where
        by : (b : Bool) → is_same_link l k ≡ b → Takes l (given_to k.to (Come k f)) (records_in fs) (records_in (if b then remove fs i else fs))
        by false other = takes_none refl (inl other)
        by true same = one f (front same) (same_link l k same)
          where
            one : (g : Flight) → fs ≡ g ∷ remove fs i → l ≡ k → Takes l (given_to k.to (Come k g)) (records_in fs) (records_in (remove fs i))
            one (flight.Ctl r) is link_is =
                takes_one r (ap records_in is) (ap (λ (j : LinkId). given_to j.to (Come j (flight.Ctl r))) (sym link_is))
            one (flight.Air id g num tag pdu) is link_is = takes_none (sym (ap records_in is)) (inr (no_record k.class (flight.Air id g num tag pdu) refl))
            one (flight.Ack id g num) is link_is = takes_none (sym (ap records_in is)) (inr (no_record k.class (flight.Ack id g num) refl))
            one (flight.Tun tag packet) is link_is = takes_none (sym (ap records_in is)) (inr (no_record k.class (flight.Tun tag packet) refl))
            one (flight.Sdu id g payload) is link_is = takes_none (sym (ap records_in is)) (inr (no_record k.class (flight.Sdu id g payload) refl))
            one (flight.End id g) is link_is = takes_none (sym (ap records_in is)) (inr (no_record k.class (flight.End id g) refl))
            one (flight.Told id g count) is link_is = takes_none (sym (ap records_in is)) (inr (no_record k.class (flight.Told id g count) refl))

  step_by : (k : LinkId) (i : ℕ) (o : Option Flight) → slice_get (flights_on k w.links) i ≡ o → Takes l (step_of w k i o) (records_in fs) (records_in (left_by (event.Step k i) (step_of w k i o)))
  step_by k i None at = takes_none refl tt
  step_by k i (Some f) at = by (is_ordered k.class && nat_lt 0 i) refl (is_aged_for (node_at w k.to) (weight f)) refl
    where
      by : (b : Bool) → (is_ordered k.class && nat_lt 0 i) ≡ b → (d : Bool) → is_aged_for (node_at w k.to) (weight f) ≡ d
          → (let what = if b then refused_for refusal.NotFirst else if d then refused_for refusal.Aged else given_to k.to (Come k f) in
          Takes l what (records_in fs) (records_in (left_by (event.Step k i) what)))
      by true later d aged = takes_none refl tt
      by false first true aged = aged_takes k i f at first aged
      by false first false fresh = given_takes k i f at first

  -- ---- losses and repeats

  lose_by : (k : LinkId) (i : ℕ) (o : Option Flight) (b : Bool) → is_tunnel k.class ≡ b
      → (let what = if b then loss_of o else refused_for refusal.NotTunnel in Takes l what (records_in fs) (records_in (left_by (event.Lose k i) what)))
  lose_by k i o false other = takes_none refl tt
  lose_by k i None true tunnel = takes_none refl tt
  lose_by k i (Some f) true tunnel = takes_none (by (is_same_link l k) refl) tt
    where
      by : (b : Bool) → is_same_link l k ≡ b → records_in (if b then remove fs i else fs) ≡ records_in fs
      by false other = refl
      by true same =
          let no' : is_tunnel Ctl ≡ true = sym (ap is_tunnel (sym (ap (λ (j : LinkId). j.class) (same_link l k same)) ∙ control)) ∙ tunnel in
          absurd cc

  again_none : (k : LinkId) (o : Option Flight) → HasNone l (in_tunnel k.class (copy_of k o))
  again_none k None = either (HasNone l) (is_tunnel k.class) (copy_of k None) (refused_for refusal.NotTunnel) tt tt
  again_none k (Some f) = either (HasNone l) (is_tunnel k.class) (copy_of k (Some f)) (refused_for refusal.NotTunnel) tt tt

  -- ---- any event

  pub event_takes : (e : Event) → Takes l (happening w e) (records_in fs) (records_in (left_by e (happening w e)))
  event_takes (event.Bearer id n first shape threshold policy) = takes_none refl tt
  event_takes (event.Reshape id shape) = takes_none refl tt
  event_takes (event.Remove id) = takes_none refl tt
  event_takes (event.Add node) = takes_none refl tt
  event_takes event.Change = takes_none refl tt
  event_takes event.Release = takes_none refl tt
  event_takes event.RekeySecond = takes_none refl tt
  event_takes (event.RekeyMaster root) = takes_none refl tt
  event_takes (event.Recover id) = takes_none refl tt
  event_takes (event.Report node id) = takes_none refl tt
  event_takes (event.Deny node on) = takes_none refl tt
  event_takes (event.Ask node what) = takes_none refl tt
  event_takes event.ScgFail = takes_none refl tt
  event_takes (event.Submit id d payload) = takes_none refl tt
  event_takes (event.Step k i) = step_by k i (slice_get (flights_on k w.links) i) refl
  event_takes (event.Lose k i) = lose_by k i (slice_get (flights_on k w.links) i) (is_tunnel k.class) refl
  event_takes (event.Again k i) = takes_none refl (again_none k (slice_get (flights_on k w.links) i))

-- ---- where it goes

-- what comes goes to the receiver of its link; and what is put on links alone is put on no control link
abbrev pub GoesRight : Input → Node → Type 0
GoesRight (Cmd e) x = ⊤
GoesRight (Come k f) x = x ≡ k.to

abbrev pub IsRight : Happening → Type 0
IsRight (given_to x i) = GoesRight i x
IsRight (refused_for why) = ⊤
IsRight (on_links effects) = (l : LinkId) → l.class ≡ Ctl → sent_on l effects.sends ≡ []

step_right : (w : World) (k : LinkId) (i : ℕ) (o : Option Flight) → IsRight (step_of w k i o)
step_right w k i None = tt
step_right w k i (Some f) =
    either IsRight (is_ordered k.class && nat_lt 0 i) (refused_for refusal.NotFirst) (if is_aged_for (node_at w k.to) (weight f) then refused_for refusal.Aged else given_to k.to (Come k f))
    tt (either IsRight (is_aged_for (node_at w k.to) (weight f)) (refused_for refusal.Aged) (given_to k.to (Come k f)) tt refl)

loss_right : (o : Option Flight) → IsRight (loss_of o)
loss_right None = tt
loss_right (Some f) = λ l control. refl

copy_right : (k : LinkId) (o : Option Flight) (b : Bool) → is_tunnel k.class ≡ b → IsRight (if b then copy_of k o else refused_for refusal.NotTunnel)
copy_right k o false other = tt
copy_right k None true tunnel = tt
copy_right k (Some f) true tunnel = λ l control. by l control (is_same_link l k) refl
  where
    by : (l : LinkId) → l.class ≡ Ctl → (b : Bool) → is_same_link l k ≡ b → (if b then f ∷ [] else []) ++ [] ≡ []
    by l control false other = refl
    by l control true same =
        let no' : is_tunnel Ctl ≡ true = sym (ap is_tunnel (sym (ap (λ (j : LinkId). j.class) (same_link l k same)) ∙ control)) ∙ tunnel in
        absurd cc

pub event_right : (w : World) (e : Event) → IsRight (happening w e)
event_right w (event.Bearer id n first shape threshold policy) = tt
event_right w (event.Reshape id shape) = tt
event_right w (event.Remove id) = tt
event_right w (event.Add node) = tt
event_right w event.Change = tt
event_right w event.Release = tt
event_right w event.RekeySecond = tt
event_right w (event.RekeyMaster root) = tt
event_right w (event.Recover id) = tt
event_right w (event.Report node id) = tt
event_right w (event.Deny node on) = tt
event_right w (event.Ask node what) = tt
event_right w event.ScgFail = tt
event_right w (event.Submit id d payload) = tt
event_right w (event.Step k i) = step_right w k i (slice_get (flights_on k w.links) i)
event_right w (event.Lose k i) = either IsRight (is_tunnel k.class) (loss_of (slice_get (flights_on k w.links) i)) (refused_for refusal.NotTunnel) (loss_right (slice_get (flights_on k w.links) i)) tt
event_right w (event.Again k i) = copy_right k (slice_get (flights_on k w.links) i) (is_tunnel k.class) refl
