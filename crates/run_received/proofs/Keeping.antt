-- An uplink grows as the terminal submits more, as a status report is taken, and as its holder takes a PDU; the anchor that waits for it
-- gathers what it did.
use Rattle.std.proofs.Common.{ℕ, ◌≡◌, ◌≤◌, List, [], ◌∷◌, Option, Some, None, refl, sym, ap, subst, ◌∙◌, arith, length-append}
use Rattle.dc_base.specs.declared.nodes.Node.{Node}
use Rattle.claims.specs.Past.{Past}
use Rattle.node_rules.specs.Anchor.{Waiting}
use Rattle.forward.specs.Forwarded.{Forwarded}
use Rattle.pdcp_rx.specs.Entries.{Entry}
use Rattle.pdcp_rx.specs.declared.entity.RxParts.{RxParts}
use Rattle.run_receivers.specs.Anchors.{IsGathering}
use Rattle.run_receivers.specs.Receiving.{HasTaken}
use Rattle.run_receivers.proofs.Gathering.{gathers_any}
use Rattle.run_uplinks.specs.Seen.{seen}
use Rattle.run_uplinks.specs.Uplinks.{plane}
use Rattle.run_received.specs.OnTheWay.{Grows}
use Rattle.run_received.specs.Receipts.{Receipt, submitted_to}
use Rattle.run_received.specs.Receivers.{ciphering_of}
use Rattle.run_received.specs.Uplinks.{IsWaiter}
use Rattle.run_received.proofs.Planes.{same_ciphering, same_setting}
use Rattle.run_received.proofs.Receiving.{with_confirms, with_one, with_taken}
use Rattle.claims.specs.Confirming.{Confirmation}

-- nothing of it changes
pub grows_still : (r : Receipt) (rx : RxParts) → Grows r r rx rx
grows_still r rx = record {
  g = refl;
  id = refl;
  n = refl;
  first = refl;
  more = omega arith;
  terminal = refl;
  owned = refl;
  holder = refl;
  freed = λ g above upto. omega arith;
  deliv = omega arith;
  received = λ c got. got;
  frozen = λ none. refl;
}

-- its holder takes PDUs
pub grows_taken : (r : Receipt) (rx after : RxParts) (tags : List (Option ℕ)) (counts : List ℕ) (ups : List Entry) (x : Node × ℕ) → r.holder ≡ Some x
    → HasTaken (submitted_to r) r.freed tags rx after ups → Grows r (with_taken counts ups r) rx after
grows_taken r rx after tags counts ups x held t = record {
  g = refl;
  id = refl;
  n = refl;
  first = refl;
  more = omega arith;
  terminal = refl;
  owned = refl;
  holder = refl;
  freed = λ g above upto. omega arith;
  deliv = t.rises;
  received = t.grown;
  frozen = λ none. absurd (let bad : Some x ≡ None = sym held ∙ none in cc);
}

-- the terminal submits one more
pub grows_one : (r : Receipt) (rx : RxParts) (payload : List ℕ) → Grows r (with_one payload r) rx rx
grows_one r rx payload = record {
  g = refl;
  id = refl;
  n = refl;
  first = refl;
  more = let long = length-append r.submitted (payload ∷ []) in omega (arith, long);
  terminal = refl;
  owned = refl;
  holder = refl;
  freed = λ g above upto. omega arith;
  deliv = omega arith;
  received = λ c got. got;
  frozen = λ none. refl;
}

-- the terminal takes a status report, in a generation in which an anchor was active
pub grows_confirmed : (r : Receipt) (rx : RxParts) (cs : List Confirmation) (count h : ℕ) → r.terminal ≡ Some h → h ≤ r.owned
    → Grows r (with_confirms cs count r) rx rx
grows_confirmed r rx cs count h at upto = record {
  g = refl;
  id = refl;
  n = refl;
  first = refl;
  more = omega arith;
  terminal = refl;
  owned = refl;
  holder = refl;
  freed = λ g above below. absurd (let le = below h at in omega (arith, le, above, upto));
  deliv = omega arith;
  received = λ c got. got;
  frozen = λ none. refl;
}

-- ---- an anchor that waits

-- it gathers as it did while the holder takes PDUs
pub waiter_taken : (p q : Past) (r : Receipt) (rx after : RxParts) (counts : List ℕ) (ups : List Entry) (x : Node) (v : Waiting) (h : Node × ℕ)
    → plane (seen q) ≡ plane (seen p) → r.holder ≡ Some h → IsWaiter p r rx x v → IsWaiter q (with_taken counts ups r) after x v
waiter_taken p q r rx after counts ups x v h same held w =
    let apart = w.apart h held in
    let none_sdus : v.up.sdus ≡ [] = ap (λ (f : Forwarded). f.sdus) apart.1 in
    let none_total : v.up.total ≡ None = ap (λ (f : Forwarded). f.total) apart.1 in
    let gathers = gathers_any (submitted_to r) r.freed (ciphering_of p r.id w.set) rx after w.tags v w.gathers apart.0 none_sdus none_total in
    record {
      set = w.set;
      in_plan = same_setting p q same r.id v.setup.g ∙ w.in_plan;
      tags = w.tags;
      gathers = subst (λ k. IsGathering (submitted_to r) r.freed k after w.tags v) (sym (same_ciphering p q same r.id w.set)) gathers;
      early = w.early;
      kept = w.kept;
      took = w.took;
      since = w.since;
      apart = w.apart;
    }

-- nothing of its uplink changes
pub waiter_still : (p q : Past) (r : Receipt) (rx : RxParts) (x : Node) (v : Waiting) → plane (seen q) ≡ plane (seen p) → IsWaiter p r rx x v
    → IsWaiter q r rx x v
waiter_still p q r rx x v same w = record {
  set = w.set;
  in_plan = same_setting p q same r.id v.setup.g ∙ w.in_plan;
  tags = w.tags;
  gathers = subst (λ k. IsGathering (submitted_to r) r.freed k rx w.tags v) (sym (same_ciphering p q same r.id w.set)) w.gathers;
  early = w.early;
  kept = w.kept;
  took = w.took;
  since = w.since;
  apart = w.apart;
}
