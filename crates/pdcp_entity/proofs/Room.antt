-- A submission is refused exactly where there is no room for it.
use Rattle.std.proofs.Common.{Err, List, false, inl, inr, refl, true, ℕ, ◌+◌, ◌-◌, ◌==◌, ◌^◌, ◌≡◌}
use Rattle.std.specs.Prelude.{nat_le}
use Rattle.std.proofs.lemmas.Bool.{cases_Bool}
use Rattle.dc_base.specs.Count.{window}
use Rattle.pdcp_entity.specs.Room.{has_room}
use Rattle.pdcp_tx.specs.Sender.{Sender, low}
use Rattle.pdcp_tx.specs.Sending.{take_sdu}
use Rattle.pdcp_tx.specs.declared.tx.TxErr.{TxErr}
use Rattle.pdcp_tx.specs.declared.tx.TxErr.TheVariants.{Exhausted, Full}

-- without room it is refused
pub refused_without : (s : Sender) (sdu : List ℕ) → has_room s ≡ false → (e : TxErr) × (take_sdu s sdu ≡ Err e)
refused_without s sdu none =
    elim (cases_Bool (nat_le (low s + window s.n) s.next)) [
      | inl full ↦ (Full (low s) s.next, rw full refl)
      | inr free ↦ elim (cases_Bool (s.next == 2 ^ 32 - 1)) [
        | inl last ↦ (Exhausted, rw free (rw last refl))
        | inr more ↦ let bad : true ≡ false = rw (free, more) at none in absurd cc
      ]
    ]

-- with room it is not
pub taken_with : (s : Sender) (sdu : List ℕ) (e : TxErr) → has_room s ≡ true → take_sdu s sdu ≡ Err e → ⊥
taken_with s sdu e room refused =
    elim (cases_Bool (nat_le (low s + window s.n) s.next)) [
      | inl full ↦ let bad : false ≡ true = rw full at room in cc
      | inr free ↦ elim (cases_Bool (s.next == 2 ^ 32 - 1)) [
        | inl last ↦ let bad : false ≡ true = rw (free, last) at room in cc
        | inr more ↦ cc (rw (free, more) at refused)
      ]
    ]
