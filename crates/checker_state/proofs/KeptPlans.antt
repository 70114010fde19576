-- What is kept of a past is all that the claim on plans rests on.
use Rattle.std.proofs.Common.{◌≡◌, refl}
use Rattle.dc_base.specs.declared.events.Line.{Line}
use Rattle.dc_base.specs.declared.events.Line.TheVariants as line
use Rattle.dc_base.specs.declared.flights.Flight.TheVariants as flight
use Rattle.claims.specs.Past.{Past}
use Rattle.claims.specs.Planned.{is_planned}
use Rattle.checker_state.specs.Kept.{kept}

pub planned_kept : (p : Past) (x : Line) → is_planned (kept p) x ≡ is_planned p x
planned_kept p (line.Note n) = refl
planned_kept p (line.Send l (flight.Air id g num tag pdu)) = refl
planned_kept p (line.Send l (flight.Ack id g num)) = refl
planned_kept p (line.Send l (flight.Tun tag packet)) = refl
planned_kept p (line.Send l (flight.Sdu id g sdu)) = refl
planned_kept p (line.Send l (flight.End id g)) = refl
planned_kept p (line.Send l (flight.Told id g count)) = refl
planned_kept p (line.Send l (flight.Ctl r)) = refl
planned_kept p (line.Event e) = refl
planned_kept p (line.Answer a) = refl
