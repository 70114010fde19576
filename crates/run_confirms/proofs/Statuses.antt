-- A delivery status goes on saying the truth, and an anchor that reads it confirms only what was received.
use Rattle.std.proofs.Common.{◌≡◌, ℕ, ◌+◌, ◌++◌, ◌<◌, ◌≤◌, ◌^◌, ◌∷◌, [], true, false, Bool, List, Option, Some, None, zero, suc, length, map, not, ltb, leb, refl, subst, inl, inr, ◌⊎◌, arith, length-append}
use Rattle.std.specs.Prelude.{IfSome, option_map, slice_get}
use Rattle.std.specs.List.{AllByRecursion}
use Rattle.std.specs.Option.{IsSomeAnd}
use Rattle.std.proofs.lemmas.Bool.{and_parts, leb-true, lt-ltb}
use Rattle.std.proofs.lemmas.Option.{slice_get_within}
use Rattle.dc_base.specs.declared.numbers.SnLen.{SnLen}
use Rattle.dc_base.specs.Count.{modulus, sn, window}
use Rattle.dc_base.proofs.Counting.{count_for_is, sn_small}
use Rattle.nr_u.specs.declared.frame.Frame.{Frame}
use Rattle.nr_u.specs.declared.frame.Range.{Range}
use Rattle.nr_u.specs.declared.tunnel.outbound.Sent.{Sent}
use Rattle.nr_u.specs.Tunnel.Ends.{FirstSendsRise}
use Rattle.nr_u.specs.Tunnel.Outgoing.{AreFirstSends, Counted, Outgoing, confirmed_by, confirms, first_send, highest_of, is_listed}
use Rattle.nr_u.specs.Tunnel.Verdicts.{confirmed_of}
use Rattle.nr_u.proofs.Filters.{all_filter}
use Rattle.run_confirms.specs.Statuses.{AreReceivedTo, FirstsBelow, IsAckOf, IsNear, IsStatusOf, Stays, WasFirst}

-- ---- lists

pub get_front : {X : Type 0} (xs ys : List X) (k : ℕ) (x : X) → slice_get xs k ≡ Some x → slice_get (xs ++ ys) k ≡ Some x
get_front [] ys k x is = absurd cc
get_front (y ∷ xs) ys zero x is = is
get_front (y ∷ xs) ys (suc k) x is = get_front xs ys k x is

pub get_parts : {X : Type 0} (xs ys : List X) (k : ℕ) (x : X) → slice_get (xs ++ ys) k ≡ Some x → (slice_get xs k ≡ Some x) ⊎ (length xs ≤ k)
get_parts [] ys k x is = inr (omega arith)
get_parts (y ∷ xs) ys zero x is = inl is
get_parts (y ∷ xs) ys (suc k) x is =
    elim (get_parts xs ys k x is) [
      | inl before ↦ inl before
      | inr after ↦ inr (omega (arith, after))
    ]

pub get_last : {X : Type 0} (xs : List X) (x : X) → slice_get (xs ++ x ∷ []) (length xs) ≡ Some x
get_last [] x = refl
get_last (y ∷ ys) x = get_last ys x

pub all_map : {X Y : Type 0} (P : X → Type 0) (Q : Y → Type 0) (f : X → Y) (xs : List X) → AllByRecursion P xs → ((x : X) → P x → Q (f x))
    → AllByRecursion Q (map f xs)
all_map P Q f [] all gives = tt
all_map P Q f (x ∷ xs) all gives = (gives x all.0, all_map P Q f xs all.1 gives)

-- ---- tests

pub not_true : (b : Bool) → not b ≡ true → b ≡ false
not_true true is = absurd cc
not_true false is = refl

-- ---- it lasts

pub if_some_stays : (received later : ℕ → Type 0) (tag : Option ℕ) → Stays received later → IfSome tag received → IfSome tag later
if_some_stays received later None stays is = tt
if_some_stays received later (Some count) stays is = stays count is

-- an ack goes on saying the truth while the leg grows behind and more is received
pub ack_lasts : (leg more : List (Option ℕ)) (received later : ℕ → Type 0) (num : ℕ) → Stays received later → IsAckOf leg received num
    → IsAckOf (leg ++ more) later num
ack_lasts leg more received later num stays is = by (slice_get leg num) refl is
  where
    by : (o : Option (Option ℕ)) → slice_get leg num ≡ o → IsSomeAnd o (λ tag. IfSome tag received) → IsAckOf (leg ++ more) later num
    by None at there = absurd there
    by (Some tag) at there = rw (get_front leg more num tag at) (if_some_stays received later tag stays there)

first_lasts : (tun more : List Sent) (tag : Option ℕ) → IfSome tag (WasFirst tun) → IfSome tag (WasFirst (tun ++ more))
first_lasts tun more None first = tt
first_lasts tun more (Some h) first = (first.0, get_front tun more first.0 (first_send h) first.1)

received_to : (tun more : List Sent) (received later : ℕ → Type 0) (tag : Option ℕ) (lost : List Range) → FirstSendsRise (tun ++ more) → Stays received later
    → IfSome tag (WasFirst tun) → IfSome tag (AreReceivedTo tun received lost) → IfSome tag (AreReceivedTo (tun ++ more) later lost)
received_to tun more received later None lost rise stays first delivered = tt
received_to tun more received later (Some h) lost rise stays first delivered = λ number count at le unlisted.
    elim (get_parts tun more number (first_send count) at) [
      | inl before ↦ stays count (delivered number count before le unlisted)
      | inr after ↦
          let inside : first.0 < length tun = slice_get_within tun first.0 (first_send h) first.1 in
          absurd (omega (arith, le, rise first.0 number h count (omega (arith, inside, after)) (get_front tun more first.0 (first_send h) first.1) at))
    ]

-- a delivery status does too, as the COUNTs of first sends rise
pub status_lasts : (n : SnLen) (tun more : List Sent) (received later : ℕ → Type 0) (tag : Option ℕ) (f : Frame) → FirstSendsRise (tun ++ more)
    → Stays received later
    → IsStatusOf n tun received tag f → IsStatusOf n (tun ++ more) later tag f
status_lasts n tun more received later tag f rise stays is = record {
  highest = is.highest;
  lost = is.lost;
  frame = is.frame;
  given = λ number listed. omega (arith, is.given number listed, length-append tun more);
  shown = is.shown;
  first = first_lasts tun more tag is.first;
  delivered = received_to tun more received later tag is.lost rise stays is.first is.delivered;
}

-- ---- what it confirms

-- the COUNT that an anchor reads is the tag
pub highest_is : (n : SnLen) (low h : ℕ) → h < 2 ^ 32 → low ≤ h + window n → h < low + window n → highest_of n low (Some (sn n h)) ≡ Some h
highest_is n low h small above below =
    let test : ltb (sn n h) (modulus n) ≡ true = lt-ltb _ _ (sn_small n h) in
    rw test (count_for_is n low (sn n h) h small (record { low = above; high = below; shows = refl }))

-- the tag as an anchor reads it
read_tag : (n : SnLen) (tun : List Sent) (low : ℕ) (tag : Option ℕ) → FirstsBelow (2 ^ 32) tun → IsNear n low tag → IfSome tag (WasFirst tun)
    → highest_of n low (option_map (sn n) tag) ≡ tag
read_tag n tun low None small near first = refl
read_tag n tun low (Some h) small near first = highest_is n low h (small first.0 h first.1) near.0 near.1

-- a first send that a status confirms was received
received_one : (tun : List Sent) (received : ℕ → Type 0) (tag : Option ℕ) (lost : List Range) (e : Counted) → IfSome tag (AreReceivedTo tun received lost)
    → slice_get tun e.0 ≡ Some (first_send e.1)
    → confirms tag lost e ≡ true → received e.1
received_one tun received None lost e delivered at confirmed = absurd cc
received_one tun received (Some h) lost e delivered at confirmed =
    let both = and_parts (leb e.1 h) (not (is_listed lost e.0)) confirmed in
    delivered e.0 e.1 at (leb-true _ _ both.0) (not_true _ both.1)

-- what an anchor confirms by a delivery status was received
pub only_received : (n : SnLen) (tun : List Sent) (received : ℕ → Type 0) (o : Outgoing) (low : ℕ) (tag : Option ℕ) (f : Frame) → o.n ≡ n
    → FirstsBelow (2 ^ 32) tun → AreFirstSends tun o.waiting → IsNear n low tag
    → IsStatusOf n tun received tag f → AllByRecursion received (confirmed_of o low f)
only_received n tun received o low tag f same small waits near is =
    let top : highest_of o.n low is.highest ≡ tag = rw (same, is.shown) (read_tag n tun low tag small near is.first) in
    let those : AllByRecursion (λ (e : Counted). received e.1) (confirmed_by o low is.highest is.lost) =
    all_filter (λ (e : Counted). slice_get tun e.0 ≡ Some (first_send e.1)) (λ (e : Counted). received e.1) (confirms (highest_of o.n low is.highest) is.lost) o.waiting waits
    (λ e at confirmed. received_one tun received tag is.lost e is.delivered at (subst (λ (h : Option ℕ). confirms h is.lost e ≡ true) top confirmed)) in
    rw is.frame (all_map (λ (e : Counted). received e.1) received (λ (e : Counted). e.1) (confirmed_by o low is.highest is.lost) those (λ e yes. yes))
