-- An anchor that waits keeps an uplink PDU that comes early.
use Rattle.std.proofs.Common.{ℕ, ◌≡◌, ◌≤◌, ◌<◌, ◌+◌, ◌==◌, arith, ◌++◌, ◌⊎◌, Bool, true}
use Rattle.std.proofs.Common.{List, [], ◌∷◌, Option, Some, None, refl, sym, ap, subst, ◌∙◌, inl, inr}
use Rattle.std.specs.Prelude.{filter, if◌then◌else◌, map, nat_le, nat_lt}
use Rattle.std.proofs.lemmas.Bool.{and_from, le-leb, lt-ltb, eq-eqb, eqb-true, or_cases, or_left, or_right}
use Rattle.dc_base.specs.Nodes.{is_same_node}
use Rattle.dc_base.specs.declared.nodes.Node.{Node}
use Rattle.dc_base.specs.declared.nodes.Node.TheVariants.{A, B, M, T}
use Rattle.claims.specs.Noted.{is_early_at}
use Rattle.claims.specs.Past.{Early, Past}
use Rattle.claims.specs.Sameness.{is_among}
use Rattle.node_rules.specs.Anchor.{Waiting}
use Rattle.pdcp_pdu.specs.Pdu.{Content}
use Rattle.pdcp_rx.specs.declared.entity.RxParts.{RxParts}
use Rattle.run_legs.specs.Puts.{IsAmong}
use Rattle.run_legs.proofs.Sends.{among_left, among_right}
use Rattle.run_receivers.specs.Anchors.{IsGathering}
use Rattle.run_receivers.specs.Pdus.{ArePdus, Ciphering, IsPduOf}
use Rattle.run_receivers.specs.Receiving.{HasTaken}
use Rattle.run_receivers.specs.Submitted.{Submitted, next_of}
use Rattle.run_receivers.proofs.Growing.{below_next}
use Rattle.run_receivers.proofs.Gathering.{pdus_more}
use Rattle.run_uplinks.specs.Seen.{seen}
use Rattle.run_uplinks.specs.Uplinks.{plane}
use Rattle.run_received.specs.Changes.{early_on, owned_on}
use Rattle.run_received.specs.Receipts.{Receipt, early_counts, submitted_to}
use Rattle.run_received.specs.Receivers.{IsReceiver, ciphering_of}
use Rattle.run_received.proofs.Folding.{with_ups}
use Rattle.run_received.proofs.Receiving.{receives_more}
use Rattle.pdcp_rx.specs.Entries.{Entry}
use Rattle.claims.specs.HandedUp.{is_within}
use Rattle.dc_base.specs.Count.{window}
use Rattle.run_received.specs.Uplinks.{IsWaiter}
use Rattle.run_received.proofs.Planes.{same_ciphering, same_setting}

self : (n : Node) → is_same_node n n ≡ true
self M = refl
self A = refl
self B = refl
self T = refl

-- it is one of those that came early there, the first of them
early_first : (x : Node) (g c : ℕ) (r : Receipt) → early_counts x g (early_on true x g (Some c) r) ≡ c ∷ early_counts x g r
early_first x g c r =
    let here : is_early_at x g (record { node = x; g = g; count = c }) ≡ true = and_from (is_same_node x x) (g == g) (self x) (eq-eqb g g refl) in
    ap (λ (t : Bool). map (λ (e : Early). e.count) (if t then record { node = x; g = g; count = c } ∷ filter (is_early_at x g) r.early
    else filter (is_early_at x g) r.early)) here

either_of : (xs : List (Option ℕ)) (c d : ℕ) → IsAmong (xs ++ Some c ∷ []) (Some d) → IsAmong xs (Some d) ⊎ (d ≡ c)
either_of [] c d (inl is) = inr cc
either_of [] c d (inr none) = absurd none
either_of (x ∷ xs) c d (inl is) = inl (inl is)
either_of (x ∷ xs) c d (inr more) = elim (either_of xs c d more) [ inl left ↦ inl (inr left) | inr same ↦ inr same ]

-- it gathers as before, and keeps the PDU besides
pub waiter_keeps : (p q : Past) (r : Receipt) (rx : RxParts) (x : Node) (v : Waiting) (c : ℕ) (content : Content) → plane (seen q) ≡ plane (seen p)
    → (w : IsWaiter p r rx x v) → IsPduOf (submitted_to r) (ciphering_of p r.id w.set) c content → r.freed ≤ c
    → ((h : ℕ) → r.terminal ≡ Some h → v.setup.g ≤ h)
    → IsWaiter q (early_on true x v.setup.g (Some c) r) rx x (record v { pdus = v.pdus ++ content ∷ [] })
waiter_keeps p q r rx x v c content same w pdu from took =
    let u = submitted_to r in
    let k = ciphering_of p r.id w.set in
    let counts = early_first x v.setup.g c r in
    record {
      set = w.set;
      in_plan = same_setting p q same r.id v.setup.g ∙ w.in_plan;
      tags = w.tags ++ Some c ∷ [];
      gathers = subst (λ j. IsGathering u r.freed j rx (w.tags ++ Some c ∷ []) (record v { pdus = v.pdus ++ content ∷ [] })) (sym
          (same_ciphering p q same r.id w.set))
          (record {
            reader = w.gathers.reader;
            transfer = w.gathers.transfer;
            up = w.gathers.up;
            kept = pdus_more u k r.freed w.tags v.pdus (Some c) content w.gathers.kept pdu from;
          });
      early = λ d there. elim (or_cases (c == d) (is_among d (early_counts x v.setup.g r)) (sym (ap (is_among d) counts) ∙ there)) [
        | inl here ↦ among_right w.tags (Some c ∷ []) (Some d) (inl (ap Some (sym (eqb-true c d here))))
        | inr before ↦ among_left w.tags (Some c ∷ []) (Some d) (w.early d before)
      ];
      kept = λ d there. ap (is_among d) counts ∙ elim (either_of w.tags c d there) [
        | inl before ↦ or_right (c == d) (is_among d (early_counts x v.setup.g r)) (w.kept d before)
        | inr here ↦ or_left (c == d) (is_among d (early_counts x v.setup.g r)) (eq-eqb c d (sym here))
      ];
      took = λ d there h at. took h at;
      since = w.since;
      apart = w.apart;
    }

-- ---- it becomes active

-- what came early is taken then: the entity is what the past says, once the node holds the bearer and has handed up
pub adoption_receives : (p : Past) (r : Receipt) (rx after : RxParts) (x : Node) (v : Waiting) (ups : List Entry) (w : IsWaiter p r rx x v) → IsReceiver r rx
    → HasTaken (submitted_to r) r.freed w.tags rx after ups → IsReceiver (with_ups ups (owned_on x v.setup.g r)) after
adoption_receives p r rx after x v ups w is t =
    let now = receives_more r rx after w.tags (early_counts x v.setup.g r) ups is t (record { came = w.early; only = w.kept }) in
    record { receiving = now.receiving; handed = now.handed; taken = now.taken; only = now.only; confirmed = now.confirmed }

-- a COUNT of PDUs is one that was submitted, and is not below this one
pdus_at : (u : Submitted) (k : Ciphering) (low c : ℕ) (tags : List (Option ℕ)) (xs : List Content) → ArePdus u k low tags xs → IsAmong tags (Some c)
    → (low ≤ c) × (c < next_of u)
pdus_at u k low c [] xs all there = absurd there
pdus_at u k low c (tag ∷ tags) [] all there = absurd all
pdus_at u k low c (tag ∷ tags) (x ∷ xs) all (inr more) = pdus_at u k low c tags xs all.2 more
pdus_at u k low c (None ∷ tags) (x ∷ xs) all (inl is) = absurd (let bad : Some c ≡ None = is in cc)
pdus_at u k low c (Some d ∷ tags) (x ∷ xs) all (inl is) =
    let same : d ≡ c = let both : Some c ≡ Some d = is in cc in
    let pdu = all.0 in
    let from = all.1 in
    let below = below_next u (d, pdu.payload) pdu.submission in
    (omega (arith, same, from), omega (arith, same, below))

-- the COUNT of each is within a window of RX_DELIV, so that it is inferred rightly as it is taken
pub early_within : (p : Past) (r : Receipt) (rx : RxParts) (x : Node) (v : Waiting) (w : IsWaiter p r rx x v) → IsReceiver r rx → (c : ℕ)
    → is_among c (early_counts x v.setup.g r) ≡ true → is_within r.n rx.deliv c ≡ true
early_within p r rx x v w is c there =
    let at = pdus_at (submitted_to r) (ciphering_of p r.id w.set) r.freed c w.tags v.pdus w.gathers.kept (w.early c there) in
    let above = is.receiving.above in let upto = is.receiving.upto in let near = is.receiving.near in
    and_from (nat_le rx.deliv (c + window r.n)) (nat_lt c (rx.deliv + window r.n)) (le-leb rx.deliv (c + window r.n) (omega (arith, at.0, upto, near)))
    (lt-ltb c (rx.deliv + window r.n) (omega (arith, at.1, above, near)))
