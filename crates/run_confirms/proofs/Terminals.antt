-- The terminal acks a PDU once it has received it, and what it received it has for good.
use Rattle.std.proofs.Common.{◌≡◌, ℕ, ◌-◌, ◌<◌, ◌^◌, true, false, Bool, List, Option, Result, Ok, Err, Some, None, refl, sym, ap, ◌∙◌, subst, inl, inr, arith}
use Rattle.std.specs.Prelude.{◌==◌, IfSome, option_map, slice_get}
use Rattle.std.specs.List.{AllByRecursion}
use Rattle.std.specs.Option.{IsSomeAnd}
use Rattle.std.proofs.lemmas.Bool.{cases_Bool}
use Rattle.dc_base.specs.Count.{count_for, sn}
use Rattle.dc_base.specs.declared.flights.Flight.{Flight}
use Rattle.dc_base.specs.declared.flights.Flight.TheVariants as flight
use Rattle.dc_base.specs.declared.nodes.Node.{Node}
use Rattle.pdcp_pdu.specs.Pdu.{Content, decoded, report, sdu}
use Rattle.pdcp_pdu.specs.declared.pdu.PduErr.{PduErr}
use Rattle.pdcp_rx.specs.Receiver.{Received}
use Rattle.pdcp_rx.proofs.Laws.{Received-put, Received-put_same}
use Rattle.node_rules.specs.Choices.{Send}
use Rattle.node_rules.specs.Entity.{ciphered, direction_to, received_as, received_under}
use Rattle.node_rules.specs.HostRules.{sn_in}
use Rattle.node_rules.specs.TerminalHalf.{TerminalHalf, is_taken, pdu_came, terminal_air_in}
use Rattle.run_confirms.specs.Hosts.{Shows}
use Rattle.run_confirms.specs.Statuses.{Stays}
use Rattle.run_confirms.specs.Terminals.{IsInferred, IsTrueAck}

-- ---- what was received is received still

under_stays : (last : Bool) (h : TerminalHalf) (count : ℕ) (body : List ℕ) → Stays (Received h.rx) (Received (received_under last h.setup h.rx count body).0)
under_stays true h count body = λ c is. is
under_stays false h count body = λ c is. Received-put h.rx c count (ciphered h.setup (direction_to h.setup.node) count body) is

as_stays : (h : TerminalHalf) (body : List ℕ) (o : Option ℕ) → Stays (Received h.rx) (Received (received_as h.setup h.rx body o).0)
as_stays h body None = λ c is. is
as_stays h body (Some count) = under_stays (count == 2 ^ 32 - 1) h count body

pub terminal_stays : (h : TerminalHalf) (from : Node) (num : ℕ) (x : Result Content PduErr) → Stays (Received h.rx) (Received (pdu_came h from num x).0.rx)
terminal_stays h from num (Err e) = λ c is. is
terminal_stays h from num (Ok (sdu s body)) = as_stays h body (count_for h.setup.n h.rx.deliv s)
terminal_stays h from num (Ok (report fmc bits)) = λ c is. is

-- ---- the PDU that comes

-- a data PDU whose COUNT is inferred is received, new or not
received_now : (h : TerminalHalf) (body : List ℕ) (s count : ℕ) → count_for h.setup.n h.rx.deliv s ≡ Some count → count < 2 ^ 32 - 1
    → Received (received_as h.setup h.rx body (count_for h.setup.n h.rx.deliv s)).0 count
received_now h body s count inferred small =
    let other : (count == 2 ^ 32 - 1) ≡ false = not_last count small in
    subst (λ (o : Option ℕ). Received (received_as h.setup h.rx body o).0 count) (sym inferred)
    (subst (λ (last : Bool). Received (received_under last h.setup h.rx count body).0 count) (sym other)
    (Received-put_same h.rx count (ciphered h.setup (direction_to h.setup.node) count body)))
  where
    not_last : (c : ℕ) → c < 2 ^ 32 - 1 → (c == 2 ^ 32 - 1) ≡ false
    not_last c below = grind arith

-- what is read of the PDU shows its tag: then the terminal has received the tag afterwards
tag_received : (h : TerminalHalf) (from : Node) (num : ℕ) (tag : Option ℕ) (x : Content) → sn_in x ≡ option_map (sn h.setup.n) tag → IfSome tag (IsInferred h)
    → IfSome tag (Received (pdu_came h from num (Ok x)).0.rx)
tag_received h from num None x shows inferred = tt
tag_received h from num (Some count) (sdu s body) shows inferred =
    let same : s ≡ sn h.setup.n count = some_same s (sn h.setup.n count) shows in
    received_now h body s count (ap (count_for h.setup.n h.rx.deliv) same ∙ inferred.0) inferred.1
  where
    some_same : (a b : ℕ) → Some a ≡ Some b → a ≡ b
    some_same a b is = cc
tag_received h from num (Some count) (report fmc bits) shows inferred = absurd (none_some (sn h.setup.n count) shows)
  where
    none_some : (b : ℕ) → None ≡ Some b → ⊥
    none_some b is = cc

-- ---- its ack

-- the terminal acks what it has received: a PDU of this number on the leg, with this tag
pub terminal_acks : (leg : List (Option ℕ)) (h : TerminalHalf) (from : Node) (num : ℕ) (tag : Option ℕ) (x : Result Content PduErr)
    → slice_get leg num ≡ Some tag → Shows h.setup.n tag x → IfSome tag (IsInferred h)
    → let done = pdu_came h from num x in AllByRecursion (λ (s : Send). IsTrueAck h.setup.id h.setup.g leg (Received done.0.rx) s.1) done.1.sends
terminal_acks leg h from num tag (Err e) at shows inferred = tt
terminal_acks leg h from num tag (Ok x) at shows inferred =
    let done = pdu_came h from num (Ok x) in
    ((refl, refl, subst (λ (o : Option (Option ℕ)). IsSomeAnd o (λ t. IfSome t (Received done.0.rx))) (sym at) (tag_received h from num tag x shows inferred)), tt)

-- ---- a flight over the air

-- whatever comes over the air, what was received is received still
pub terminal_air_stays : (h : TerminalHalf) (from : Node) (f : Flight) → Stays (Received h.rx) (Received (terminal_air_in h from f).0.rx)
terminal_air_stays h from (flight.Air id g num tag pdu) =
    elim (cases_Bool (is_taken h.setup from id g)) [
      | inl taken ↦ rw taken (terminal_stays h from num (decoded h.setup.n pdu))
      | inr left ↦ rw left (λ c is. is)
    ]
terminal_air_stays h from (flight.Ack id g num) = elim (cases_Bool (is_taken h.setup from id g)) [ inl taken ↦ rw taken (λ c is. is) | inr left ↦ rw left (λ c is. is) ]
terminal_air_stays h from (flight.Tun tag packet) = λ c is. is
terminal_air_stays h from (flight.Sdu id g payload) = λ c is. is
terminal_air_stays h from (flight.End id g) = λ c is. is
terminal_air_stays h from (flight.Told id g count) = λ c is. is
terminal_air_stays h from (flight.Ctl r) = λ c is. is

-- a PDU over the air is acked by the truth, if the terminal takes it
pub terminal_air_acks : (leg : List (Option ℕ)) (h : TerminalHalf) (from : Node) (id g num : ℕ) (tag : Option ℕ) (pdu : List ℕ)
    → (is_taken h.setup from id g ≡ true → (slice_get leg num ≡ Some tag) × Shows h.setup.n tag (decoded h.setup.n pdu) × IfSome tag (IsInferred h))
    → let done = terminal_air_in h from (flight.Air id g num tag pdu) in AllByRecursion (λ (s : Send). IsTrueAck h.setup.id h.setup.g leg (Received done.0.rx) s.1) done.1.sends
terminal_air_acks leg h from id g num tag pdu promise =
    elim (cases_Bool (is_taken h.setup from id g)) [
      | inl taken ↦ let is = promise taken in rw taken (terminal_acks leg h from num tag (decoded h.setup.n pdu) is.0 is.1 is.2)
      | inr left ↦ rw left tt
    ]
