-- What is claimed of one uplink: what is handed up is the next submission, under its COUNT, and was taken; nothing waits that could be
-- handed up; and Told, RX_DELIV and the next COUNT are in their window.
use Rattle.std.proofs.Common.{ℕ, zero, suc, ◌≡◌, ◌+◌, ◌-◌, ◌<◌, ◌≤◌, ◌==◌, ◌++◌, Bool, true, false, not, List, []}
use Rattle.std.proofs.Common.{◌∷◌, Option, Some, None, length, slice_get, take, refl, sym, ap, subst, ◌∙◌, inl, inr, arith, append_assoc}
use Rattle.std.specs.Prelude.{⊤, if◌then◌else◌, is_none, nat_le, ◌&&◌}
use Rattle.std.specs.List.{AllByRecursion}
use Rattle.std.specs.Option.{option_map}
use Rattle.std.proofs.lemmas.Bool.{and_from, cases_Bool, eq-eqb, le-leb, or_right}
use Rattle.std.proofs.lemmas.List.{length-take-le}
use Rattle.dc_base.specs.Count.{window}
use Rattle.dc_base.specs.declared.nodes.Dir.TheVariants.{Ul}
use Rattle.claims.specs.HandedUp.{is_next, lane_is_drained}
use Rattle.claims.specs.Past.{Bearer, Past}
use Rattle.claims.specs.Reading.{deliv, latest, next_count}
use Rattle.claims.specs.Sameness.{is_among, is_payload, is_same_octets}
use Rattle.claims.specs.Told.{is_in_window}
use Rattle.pdcp_rx.specs.Entries.{Entry}
use Rattle.pdcp_rx.specs.Receiver.{Received}
use Rattle.pdcp_rx.specs.declared.entity.RxParts.{RxParts}
use Rattle.pdcp_rx.proofs.Entries.{stored_from}
use Rattle.transcript.specs.Bearers.{numbered}
use Rattle.run_receivers.specs.Receiving.{HasTaken}
use Rattle.run_received.specs.Receipts.{Receipt, receipt, receipt_of, submitted_to}
use Rattle.run_received.specs.Receivers.{IsReceiver}
use Rattle.run_received.proofs.Folding.{with_ups}
use Rattle.run_received.proofs.Receiving.{with_taken}

-- ---- RX_DELIV

length_numbered : (c : ℕ) (xs : List (List ℕ)) → length (numbered c xs) ≡ length xs
length_numbered c [] = refl
length_numbered c (x ∷ xs) = ap suc (length_numbered (c + 1) xs)

-- RX_DELIV of the entity is that of the past
pub deliv_is : (r : Receipt) (rx : RxParts) → IsReceiver r rx → r.first + length r.handed ≡ rx.deliv
deliv_is r rx is =
    let from = is.receiving.from in let above = is.receiving.above in let upto = is.receiving.upto in
    let long : length r.handed ≡ rx.deliv - r.first =
    ap length is.handed ∙ length_numbered r.first (take (rx.deliv - r.first) r.submitted)
    ∙ length-take-le (rx.deliv - r.first) r.submitted (omega (arith, upto)) in
    omega (arith, long, from, above)

-- ---- drained

pub deliv_not_taken : (r : Receipt) (rx : RxParts) → IsReceiver r rx → is_among (r.first + length r.handed) r.taken ≡ false
deliv_not_taken r rx is =
    elim (cases_Bool (is_among (r.first + length r.handed) r.taken)) [
      | inl yes' ↦ absurd (elim (subst (Received rx) (deliv_is r rx is) (is.taken (r.first + length r.handed) yes')) [
        | inl below ↦ omega (arith, below)
        | inr there ↦ let from = stored_from (rx.deliv + 1) rx.deliv rx.stored is.receiving.ascends there in omega (arith, from)
      ])
      | inr no' ↦ no'
    ]

-- nothing waits that could be handed up
pub uplink_drained : (b : Bearer) (rx : RxParts) → IsReceiver (receipt_of b) rx → lane_is_drained Ul b ≡ true
uplink_drained b rx is = or_right (is_none b.holder) _ (ap not (deliv_not_taken (receipt_of b) rx is))

-- ---- the window

-- Told is at most what was handed up, that at most what was submitted, and that at most a window past Told
pub uplink_in_window : (b : Bearer) (rx : RxParts) → IsReceiver (receipt_of b) rx → b.up.told ≡ b.up.freed → is_in_window Ul b ≡ true
uplink_in_window b rx is told =
    let at = deliv_is (receipt_of b) rx is in
    let above = is.receiving.above in let upto = is.receiving.upto in let near = is.receiving.near in
    and_from _ _ (and_from _ _ (le-leb b.up.told (deliv Ul b) (omega (arith, told, above, at))) (le-leb (deliv Ul b) (next_count Ul b) (omega
    (arith, at, upto))))
    (le-leb (next_count Ul b) (b.up.told + window b.n) (omega (arith, told, near)))

-- ---- what is handed up

-- the payload is the submission of the next COUNT to hand up
abbrev pub is_next_on : ℕ → List ℕ → Receipt → Bool
is_next_on c sdu r = (c == r.first + length r.handed) && is_payload (if nat_le r.first c then slice_get r.submitted (c - r.first) else None) sdu

pub next_is : (p : Past) (id c : ℕ) (sdu : List ℕ) (r : Receipt) → receipt p id ≡ Some r → is_next_on c sdu r ≡ true → is_next Ul c sdu (latest p id) ≡ true
next_is p id c sdu r at is = by (latest p id) at
  where
    by : (o : Option Bearer) → option_map receipt_of o ≡ Some r → is_next Ul c sdu o ≡ true
    by None none = absurd (let bad : None ≡ Some r = none in cc)
    by (Some b) some = subst (λ (x : Receipt). is_next_on c sdu x ≡ true) (let same : receipt_of b ≡ r = cc in sym same) is

-- each of these is, one after another
abbrev pub AreNext : Receipt → List Entry → Type 0
AreNext r [] = ⊤
AreNext r (e ∷ es) = (is_next_on e.0 e.1 r ≡ true) × AreNext (with_ups (e ∷ []) r) es

same_octets : (xs : List ℕ) → is_same_octets xs xs ≡ true
same_octets [] = refl
same_octets (x ∷ xs) = and_from (x == x) (is_same_octets xs xs) (eq-eqb x x refl) (same_octets xs)

after_front : {X : Type 0} (xs ys : List X) (y : X) → slice_get (xs ++ y ∷ ys) (length xs) ≡ Some y
after_front [] ys y = refl
after_front (x ∷ xs) ys y = after_front xs ys y

-- what stands at a place of numbered payloads
numbered_at : (c k : ℕ) (xs : List (List ℕ)) (e : Entry) → slice_get (numbered c xs) k ≡ Some e → (e.0 ≡ c + k) × (slice_get xs k ≡ Some e.1)
numbered_at c k [] e at = absurd (let bad : None ≡ Some e = at in cc)
numbered_at c zero (x ∷ xs) e at =
    let same : (c, x) ≡ e = let some : Some (c, x) ≡ Some e = at in cc in
    (let zero' : e.0 ≡ c = ap (λ (y : Entry). y.0) (sym same) in omega (arith, zero'), ap (λ (y : Entry). Some y.1) same)
numbered_at c (suc k) (x ∷ xs) e at = let rest = numbered_at (c + 1) k xs e at in (let is = rest.0 in omega (arith, is), rest.1)

taken_at : {X : Type 0} (k i : ℕ) (xs : List X) (x : X) → slice_get (take k xs) i ≡ Some x → slice_get xs i ≡ Some x
taken_at zero i [] x at = at
taken_at zero i (y ∷ xs) x at = absurd (let bad : None ≡ Some x = at in cc)
taken_at (suc k) i [] x at = at
taken_at (suc k) zero (y ∷ xs) x at = at
taken_at (suc k) (suc i) (y ∷ xs) x at = taken_at k i xs x at

-- a front of the submissions, each under its COUNT
pub front_next : (r : Receipt) (k : ℕ) (es : List Entry) → r.handed ++ es ≡ numbered r.first (take k r.submitted) → AreNext r es
front_next r k [] is = tt
front_next r k (e ∷ es) is =
    let at = numbered_at r.first (length r.handed) (take k r.submitted) e (ap (λ (xs : List Entry). slice_get xs (length r.handed)) (sym is)
    ∙ after_front r.handed es e) in
    let payload = taken_at k (length r.handed) r.submitted e.1 at.1 in
    let count = at.0 in
    let from : nat_le r.first e.0 ≡ true = le-leb r.first e.0 (omega (arith, count)) in
    let place : e.0 - r.first ≡ length r.handed = omega (arith, count) in
    let found : (if nat_le r.first e.0 then slice_get r.submitted (e.0 - r.first) else None) ≡ Some e.1 =
    ap (λ t. if t then slice_get r.submitted (e.0 - r.first) else None) from ∙ ap (slice_get r.submitted) place ∙ payload in (
      and_from (e.0 == r.first + length r.handed) _ (eq-eqb e.0 (r.first + length r.handed) count) (ap (λ o. is_payload o e.1) found ∙ same_octets e.1),
      front_next (with_ups (e ∷ []) r) k es (append_assoc r.handed (e ∷ []) es ∙ is),
    )

-- what PDUs made the entity hand up
pub taken_next : (r : Receipt) (rx after : RxParts) (tags : List (Option ℕ)) (ups : List Entry) → IsReceiver r rx
    → HasTaken (submitted_to r) r.freed tags rx after ups → AreNext r ups
taken_next r rx after tags ups is t = front_next r (after.deliv - r.first) ups (ap (λ (xs : List Entry). xs ++ ups) is.handed ∙ t.handed)

-- and each was taken
abbrev pub AreTaken : Receipt → List Entry → Type 0
AreTaken r es = AllByRecursion (λ (e : Entry). is_among e.0 r.taken ≡ true) es

each_so : (P : Entry → Type 0) (Q : Entry → Type 0) → ((e : Entry) → P e → Q e) → (es : List Entry) → AllByRecursion P es → AllByRecursion Q es
each_so P Q so [] all = tt
each_so P Q so (e ∷ es) all = (so e all.0, each_so P Q so es all.1)

pub taken_were : (r : Receipt) (rx after : RxParts) (tags : List (Option ℕ)) (counts : List ℕ) (ups : List Entry)
    → HasTaken (submitted_to r) r.freed tags rx after ups → IsReceiver (with_taken counts ups r) after → AreTaken (with_taken counts [] r) ups
taken_were r rx after tags counts ups t now =
    each_so (λ e. (r.first ≤ e.0) × (e.0 < after.deliv)) (λ e. is_among e.0 (with_taken counts [] r).taken ≡ true)
    (λ e both. now.only e.0 both.0 (inl both.1)) ups t.each
