-- An entry that takes a PDU from a leg and sends its confirm alone: what that confirm owes.
use Rattle.std.proofs.Common.{ℕ, ◌≡◌, ◌≤◌, ◌++◌, List, [], ◌∷◌, Option, Some, sym, subst, arith}
use Rattle.std.specs.Prelude.{count_by}
use Rattle.std.specs.List.{AllByRecursion, flat_map}
use Rattle.dc_base.specs.declared.nodes.Dir.{Dir}
use Rattle.dc_base.specs.declared.nodes.LinkId.{LinkId}
use Rattle.dc_base.specs.declared.flights.Flight.{Flight}
use Rattle.dc_base.specs.declared.flights.Flight.TheVariants as flight
use Rattle.dc_base.specs.declared.events.Header.{Header}
use Rattle.transcript.specs.Transcript.{Entry, sends}
use Rattle.transcript.specs.Content.{given}
use Rattle.transcript.specs.Bearers.{Established}
use Rattle.transcript.specs.Claims.{Protects, IsDataFlight, IsProtected, IsReason, IsLicensed, AscendsFrom, count_in, is_uncounted}
use Rattle.master_runs.specs.Plane.{leg, other}
use Rattle.master_runs.specs.Control.{Nodes}
use Rattle.master_runs.proofs.Directions.{leg_back}
use Rattle.master_runs.proofs.Leaving.{ack_promised}
use Rattle.master_runs.proofs.Sound.{IsAckOf, PromiseOf}

module _ (h : Header) (t : List Entry) (e : Entry) (d : Dir) (id g num : ℕ) (one : sends e.lines ≡ (leg (other d), flight.Ack id g num) ∷ []) where
  -- its promise is that of the confirm
  pub confirm_sent : (s' : Nodes) → IsAckOf (t ++ e ∷ []) s' d (flight.Ack id g num) → AllByRecursion (PromiseOf h (t ++ e ∷ []) s') (sends e.lines)
  confirm_sent s' ack = subst (AllByRecursion (PromiseOf h (t ++ e ∷ []) s')) (sym one) (ack_promised h (t ++ e ∷ []) s' d (flight.Ack id g num) ack, tt)

  -- it has nothing to protect
  pub confirm_protects : (b : Established) (k : Dir) → Protects h b k t e
  confirm_protects b k = subst (AllByRecursion (λ s. IsDataFlight (t ++ e ∷ []) b k s → IsProtected h (t ++ e ∷ []) b k s)) (sym one) ((λ data'. absurd data'), tt)

  -- its reason is the PDU
  pub confirm_licence : (tag : Option ℕ) (pdu : List ℕ) → given t e ≡ Some (leg d, flight.Air id g num tag pdu) → IsLicensed h t e
  confirm_licence tag pdu is = record {
    reasons = subst (AllByRecursion (IsReason h t e)) (sym one) (record { from = leg d; back = leg_back d; tag = tag; pdu = pdu; is_given = is }, tt);
    ascends = subst (λ (ss : List (LinkId × Flight)). AscendsFrom 0 (flat_map count_in ss)) (sym one) tt;
    one = subst (λ (ss : List (LinkId × Flight)). count_by is_uncounted ss ≤ 1) (sym one) (omega arith);
  }
