use Rattle.std.proofs.Common.{◌≡◌, ℕ, ◌<◌, ◌≤◌, false, not, length, get_or}
use Rattle.std.specs.List.{filter}
use Rattle.pdcp_pdu.specs.Bitmap.{names}
use Rattle.pdcp_tx.specs.Sender.{Entry}
use Rattle.pdcp_tx.specs.Slots.{live, is_due, AreSlots}
use Rattle.pdcp_tx.proofs.kept.empty_named.Given as goal

abbrev pub invariant-loop-place : goal.invariant-loop-place
invariant-loop-place l = record {
  slots : AreSlots l.next l.kept.items;
  len : length l.kept.items ≡ length l.initial.kept.items;
  rest : filter (λ (e : Entry). not (names l.fmc l.bits e.0)) (live l.next l.kept.items) ≡ filter (λ (e : Entry). not (names l.fmc l.bits e.0)) (live l.next l.initial.kept.items);
  later : (k : ℕ) → l.place ≤ k → (d : Entry) → get_or l.kept.items k d ≡ get_or l.initial.kept.items k d;
  done : (k : ℕ) → k < l.place → (d : Entry) → is_due l.next l.fmc l.bits (get_or l.kept.items k d).0 ≡ false;
}
