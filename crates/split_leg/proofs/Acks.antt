-- The PDU of a number, and its ack.
use Rattle.std.proofs.Common.{◌≡◌, ◌∙◌, ℕ, zero, suc, ◌<◌, true, false, cond, List, [], ◌∷◌, length, get_or, set, slice_get, Some, None, ap, sym, arith}
use Rattle.std.proofs.lemmas.List.{set-get_or}
use Rattle.split_leg.specs.declared.leg.Pdu.{Pdu}
use Rattle.split_leg.specs.Legs.{LegState, acked_count, count_unless_acked, set_acked, with_ack}

-- what is read at a place is the element there
get_some : (xs : List Pdu) (i : ℕ) (p : Pdu) → i < length xs → p ≡ get_or xs i p → slice_get xs i ≡ Some p
get_some [] i p inside read = absurd (omega arith)
get_some (x ∷ xs) zero p inside read = ap Some (sym read)
get_some (x ∷ xs) (suc i) p inside read = get_some xs i p (omega arith) read

pub acked_count_is : (pdus : List Pdu) (i : ℕ) (p : Pdu) → i < length pdus → p ≡ get_or pdus i p → p.acked ≡ false → p.count ≡ acked_count pdus i
acked_count_is pdus i p inside read fresh =
    sym (ap count_unless_acked (get_some pdus i p inside read) ∙ ap (λ b. cond b None p.count) fresh)

pub with_ack_is : (leg : LegState) (i : ℕ) (p : Pdu) → i < length leg.pdus → p ≡ get_or leg.pdus i p
    → record leg { pdus = set leg.pdus i (record p { acked = true }) } ≡ with_ack leg i
with_ack_is leg i p inside read =
    ap (λ (l : List Pdu). record leg { pdus = l }) (sym (ap (set_acked leg.pdus i) (get_some leg.pdus i p inside read)))

same_ack : (p : Pdu) → p.acked ≡ true → record p { acked = true } ≡ p
same_ack p old = ap (λ b. record p { acked = b }) (sym old)

-- an ack that comes again changes nothing
pub with_ack_again : (leg : LegState) (i : ℕ) (p : Pdu) → i < length leg.pdus → p ≡ get_or leg.pdus i p → p.acked ≡ true → leg ≡ with_ack leg i
with_ack_again leg i p inside read old =
    let same : set leg.pdus i (record p { acked = true }) ≡ leg.pdus =
    ap (set leg.pdus i) (same_ack p old ∙ read) ∙ set-get_or leg.pdus i p in
    ap (λ (l : List Pdu). record leg { pdus = l }) (sym same) ∙ with_ack_is leg i p inside read
