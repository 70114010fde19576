-- What a new anchor keeps of what was forwarded ascends, and lies in the window below the COUNT that is next.
use Rattle.std.proofs.Common.{Bool, List, None, Option, Some, [], false, fold, true, ℕ, refl, arith, ◌+◌, ◌-◌, ◌<◌, ◌≡◌, ◌≤◌, ◌∷◌, ◌&&◌, not}
use Rattle.std.specs.Prelude.{if◌then◌else◌, nat_lt}
use Rattle.std.proofs.lemmas.Bool.Decides.{nat_tests}
use Rattle.std.proofs.lemmas.Bool.{ltb-true}
use Rattle.dc_base.specs.Count.{count_for, modulus, window}
use Rattle.dc_base.specs.declared.numbers.SnLen.{SnLen}
use Rattle.dc_base.proofs.Counting.{count_for_finds}
use Rattle.forward.specs.Load.{Sdu}
use Rattle.pdcp_rx.specs.Entries.{is_stored, with_sdu}
use Rattle.pdcp_tx.specs.Sender.{Entry, InWindow, Rises}
use Rattle.node_rules.specs.Adopting.{count_of, is_payload, numbered_of, with_counted}

-- one more in its place
rises_in : (c : ℕ) (sdu : List ℕ) (from next : ℕ) (es : List Entry) → from ≤ c → c < next → is_stored c es ≡ false → Rises from next es → Rises from next (with_sdu c sdu es)
rises_in c sdu from next [] le less none up = (le, omega (arith, less))
rises_in c sdu from next (e ∷ es) le less none up = grind (arith, nat_tests, rises_in c sdu (e.0 + 1) next es)

-- if it may be there
one_rises : (n : SnLen) (dl : ℕ) (es : List Entry) (sdu : List ℕ) (o : Option ℕ) → ((c : ℕ) → o ≡ Some c → dl ≤ c + window n) → Rises (dl - window n) dl es
    → Rises (dl - window n) dl (with_counted (λ c. nat_lt c dl) es sdu o)
one_rises n dl es sdu None near up = up
one_rises n dl es sdu (Some c) near up = by (is_payload sdu) (nat_lt c dl) (is_stored c es) refl refl
  where
    by : (good below there : Bool) → nat_lt c dl ≡ below → is_stored c es ≡ there → Rises (dl - window n) dl (if good && below && not there then with_sdu c sdu es else es)
    by true true false below none = let far = near c refl in let less = ltb-true c dl below in rises_in c sdu (dl - window n) dl es (omega arith) less none up
    by true true true below there = up
    by true false there below is = up
    by false below there less is = up

-- a COUNT of an SN is at most a window below the next one
count_near : (n : SnLen) (dl : ℕ) (o : Option ℕ) (c : ℕ) → count_of n dl o ≡ Some c → dl ≤ c + window n
count_near n dl None c is = absurd cc
count_near n dl (Some sn) c is = by (nat_lt sn (modulus n)) refl is
  where
    by : (t : Bool) → nat_lt sn (modulus n) ≡ t → (if t then count_for n dl sn else None) ≡ Some c → dl ≤ c + window n
    by true small found = let x = count_for_finds n dl sn c (ltb-true sn (modulus n) small) found in x.0.low
    by false small found = absurd cc

counted_rises : (n : SnLen) (dl : ℕ) (sdus : List Sdu) (es : List Entry) → Rises (dl - window n) dl es
    → Rises (dl - window n) dl (fold (λ xs (s : Sdu). with_counted (λ c. nat_lt c dl) xs s.1 (count_of n dl s.0)) es sdus)
counted_rises n dl [] es up = up
counted_rises n dl (s ∷ sdus) es up =
    counted_rises n dl sdus (with_counted (λ c. nat_lt c dl) es s.1 (count_of n dl s.0)) (one_rises n dl es s.1 (count_of n dl s.0) (count_near n dl s.0) up)

-- whatever was forwarded
pub numbered_in_window : (n : SnLen) (dl : ℕ) (sdus : List Sdu) → InWindow n dl (numbered_of n dl sdus)
numbered_in_window n dl sdus = record { from = dl - window n; near = omega arith; rises = counted_rises n dl sdus [] (omega arith) }
