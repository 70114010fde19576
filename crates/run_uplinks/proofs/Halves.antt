-- The terminal's half of a bearer after each of its steps.
use Rattle.std.proofs.Common.{ℕ, ◌≡◌, ◌≤◌, ◌+◌, Bool, true, false, List, Option, Some, None, refl, sym, ap, subst, ◌∙◌, arith, inl, inr}
use Rattle.std.specs.Prelude.{Err, Ok, Result, filter, fold, if◌then◌else◌, nat_lt}
use Rattle.std.proofs.lemmas.Bool.{cases_Bool, le-ltb}
use Rattle.dc_base.specs.declared.flights.Flight.{Flight}
use Rattle.dc_base.specs.declared.flights.Flight.TheVariants as flight
use Rattle.dc_base.specs.declared.nodes.Cell.TheVariants.{Scg}
use Rattle.dc_base.specs.declared.nodes.LegSet.{LegSet}
use Rattle.dc_base.specs.declared.nodes.LegSet.TheVariants as legs
use Rattle.dc_base.specs.declared.nodes.Node.{Node}
use Rattle.dc_base.specs.declared.nodes.Shape.{Shape}
use Rattle.pdcp_pdu.specs.Bitmap.{names}
use Rattle.pdcp_pdu.specs.Pdu.{Content, decoded, report, sdu}
use Rattle.pdcp_pdu.specs.declared.pdu.PduErr.{PduErr}
use Rattle.pdcp_tx.specs.Sender.{Sender, counts, low}
use Rattle.split_leg.specs.Legs.{LegsState, leg_at, settled_on_both, with_ack, with_leg}
use Rattle.split_leg.specs.Routes.{has_leg}
use Rattle.claims.specs.Judged.{has_scg_in}
use Rattle.claims.specs.Reading.{Setting}
use Rattle.claims.specs.Shapes.{has_scg}
use Rattle.node_rules.specs.Choices.{Choices}
use Rattle.node_rules.specs.Entity.{confirmed_where, risen, risen_low, take_pdu}
use Rattle.node_rules.specs.Sending.{Pdu, send_each, sends}
use Rattle.node_rules.specs.Setup.{Setup, cell_of, has_cell, with_failed_scg}
use Rattle.node_rules.specs.TerminalHalf.{TerminalHalf, is_taken, pdu_came, terminal_air_in, terminal_fail}
use Rattle.node_rules.specs.declared.bearers.HalfOut.{HalfOut}
use Rattle.run_uplinks.specs.Seen.{Uplink, fails_in, freed_to, leg_fails, setting_in}
use Rattle.run_uplinks.specs.Uplinks.{IsHalf, IsSender, IsSetBy, Plane}
use Rattle.run_uplinks.proofs.Legs.{SameLegs, send_each_same, settled_same, with_ack_same}
use Rattle.run_uplinks.proofs.Senders.{freed_if, sender_as, sender_confirmed, unconfirmed}

-- ---- legs alone

set_as : (roots : List (List ℕ)) (s : Setup) (ls : LegsState) (o : Option Setting) → ls.shape ≡ s.legs.shape → IsSetBy roots s o → IsSetBy roots (record s { legs = ls }) o
set_as roots s ls None same set = set
set_as roots s ls (Some x) same set = (set.0 ∙ sym same, set.1, set.2, set.3)

pub half_legs : (k : Plane) (u : Uplink) (h : TerminalHalf) (ls : LegsState) → SameLegs ls h.setup.legs → IsHalf k u h
    → IsHalf k u (record h { setup = record h.setup { legs = ls } })
half_legs k u h ls same is = record {
  node = is.node;
  alg = is.alg;
  taken = is.taken;
  id = is.id;
  n = is.n;
  first = is.first;
  set = set_as k.roots h.setup ls (setting_in k.plans u.id h.setup.g) same.shape is.set;
  since = is.since;
  upto = is.upto;
  failed = same.scg ∙ is.failed;
  mcg = same.mcg ∙ is.mcg;
  sender = is.sender;
}

-- PDUs are sent
pub half_sends : (c : Choices) (k : Plane) (u : Uplink) (h : TerminalHalf) (pdus : List Pdu) → IsHalf k u h → IsHalf k u (sends c h pdus).0
half_sends c k u h pdus is = half_legs k u h (send_each c pdus h.setup.legs).0 (send_each_same c pdus h.setup.legs) is

-- ---- another sending entity

pub half_sender : (k : Plane) (u v : Uplink) (h : TerminalHalf) (tx : Sender) → IsHalf k u h → v.g ≡ u.g → v.id ≡ u.id → v.n ≡ u.n → v.first ≡ u.first → v.terminal ≡ u.terminal
    → v.is_failed ≡ u.is_failed → IsSender v tx → IsHalf k v (record h { tx = tx })
half_sender k u v h tx is g id n first terminal failed sender = record {
  node = is.node;
  alg = is.alg;
  taken = terminal ∙ is.taken;
  id = is.id ∙ sym id;
  n = is.n ∙ sym n;
  first = is.first ∙ sym first;
  set = subst (λ j. IsSetBy k.roots h.setup (setting_in k.plans j h.setup.g)) (sym id) is.set;
  since = subst (λ j. j ≤ h.setup.g) (sym g) is.since;
  upto = is.upto;
  failed = is.failed ∙ sym failed;
  mcg = is.mcg;
  sender = sender;
}

-- ---- a flight over the air

-- after a step, the window begins where Low rose to
abbrev pub StillHalf : Plane → Uplink → TerminalHalf × HalfOut → Type 0
StillHalf k u done = IsHalf k (freed_if done.1.low u) done.0

-- where Low stays
no_rise : (j : ℕ) → risen j j ≡ None
no_rise j = let no' : nat_lt j j ≡ false = le-ltb j j (omega arith) in rw no' refl

-- COUNTs are confirmed
confirmed_half : (k : Plane) (u : Uplink) (h : TerminalHalf) (test : ℕ → Bool) → IsHalf k u h
    → IsHalf k (freed_if (risen_low h (confirmed_where test h)) u) (confirmed_where test h)
confirmed_half k u h test is =
    let ls = fold (λ ls c. settled_on_both c (c + 1) ls) h.setup.legs (filter test (counts h.tx.kept)) in
    let tx = unconfirmed test h.tx in
    let by = half_legs k u h ls (settled_same (filter test (counts h.tx.kept)) h.setup.legs) is in
    with_tx (risen (low h.tx) (low tx)) (record h { setup = record h.setup { legs = ls } }) tx by (sender_confirmed u h.tx test is.sender)
  where
    with_tx : (o : Option ℕ) (x : TerminalHalf) (tx : Sender) → IsHalf k u x → IsSender (freed_if o u) tx → IsHalf k (freed_if o u) (record x { tx = tx })
    with_tx None x tx by sender = half_sender k u u x tx by refl refl refl refl refl refl sender
    with_tx (Some count) x tx by sender = half_sender k u (freed_to count u) x tx by refl refl refl refl refl refl sender

taken_half : (k : Plane) (u : Uplink) (h : TerminalHalf) (x : Content) → IsHalf k u h
    → IsHalf k (freed_if (risen_low h (take_pdu h x).0) u) (take_pdu h x).0
taken_half k u h (report fmc bits) is = confirmed_half k u h (names fmc bits) is
taken_half k u h (sdu s body) is =
    let same = no_rise (low h.tx) in
    subst (λ o. IsHalf k (freed_if o u) (take_pdu h (sdu s body)).0) (sym same) (record {
      node = is.node;
      alg = is.alg;
      taken = is.taken;
      id = is.id;
      n = is.n;
      first = is.first;
      set = is.set;
      since = is.since;
      upto = is.upto;
      failed = is.failed;
      mcg = is.mcg;
      sender = is.sender;
    })

pdu_half : (k : Plane) (u : Uplink) (h : TerminalHalf) (from : Node) (num : ℕ) (r : Result Content PduErr) → IsHalf k u h → StillHalf k u (pdu_came h from num r)
pdu_half k u h from num (Err e) is = is
pdu_half k u h from num (Ok x) is = taken_half k u h x is

pub air_half : (k : Plane) (u : Uplink) (h : TerminalHalf) (from : Node) (f : Flight) → IsHalf k u h → StillHalf k u (terminal_air_in h from f)
air_half k u h from (flight.Air id g num tag pdu) is =
    elim (cases_Bool (is_taken h.setup from id g)) [ inl yes' ↦ rw yes' (pdu_half k u h from num (decoded h.setup.n pdu) is) | inr no' ↦ rw no' is ]
air_half k u h from (flight.Ack id g num) is =
    elim (cases_Bool (is_taken h.setup from id g)) [
      | inl yes' ↦ rw yes' (half_legs k u h (with_leg h.setup.legs (cell_of from) (with_ack (leg_at h.setup.legs (cell_of from)) num)) (with_ack_same (cell_of from) num h.setup.legs) is)
      | inr no' ↦ rw no' is
    ]
air_half k u h from (flight.Tun tag packet) is = is
air_half k u h from (flight.Sdu id g payload) is = is
air_half k u h from (flight.End id g) is = is
air_half k u h from (flight.Told id g count) is = is
air_half k u h from (flight.Ctl r) is = is

-- ---- the secondary cell group fails

has_cell_scg : (ls : LegSet) → has_scg ls ≡ has_leg ls Scg
has_cell_scg legs.Mcg = refl
has_cell_scg legs.Scg = refl
has_cell_scg (legs.Split primary) = refl

marked : (k : Plane) (u : Uplink) (h : TerminalHalf) (b : Bool) → IsHalf k u h
    → IsHalf k (leg_fails b u) (if b then record h { setup = with_failed_scg h.setup } else h)
marked k u h false is = is
marked k u h true is = record {
  node = is.node;
  alg = is.alg;
  taken = is.taken;
  id = is.id;
  n = is.n;
  first = is.first;
  set = set_as k.roots h.setup (with_failed_scg h.setup).legs (setting_in k.plans u.id h.setup.g) refl is.set;
  since = is.since;
  upto = is.upto;
  failed = refl;
  mcg = is.mcg;
  sender = sender_as u (leg_fails true u) h.tx refl refl refl refl is.sender;
}

scg_is : (roots : List (List ℕ)) (h : TerminalHalf) (o : Option Setting) → IsSetBy roots h.setup o → has_scg_in o ≡ has_cell h.setup Scg
scg_is roots h None set = absurd set
scg_is roots h (Some x) set = has_cell_scg x.shape.legs ∙ ap (λ (z : Shape). has_leg z.legs Scg) set.0

pub failed_half : (k : Plane) (u : Uplink) (h : TerminalHalf) → IsHalf k u h → IsHalf k (fails_in k.plans u u.terminal) (terminal_fail h)
failed_half k u h is =
    let scg = scg_is k.roots h (setting_in k.plans u.id h.setup.g) is.set in
    subst (λ o. IsHalf k (fails_in k.plans u o) (terminal_fail h)) (sym is.taken)
    (subst (λ b. IsHalf k (leg_fails b u) (terminal_fail h)) (sym scg) (marked k u h (has_cell h.setup Scg) is))
