-- Whatever comes of a tunnel agrees with what was sent.
use Rattle.std.proofs.Common.{◌≡◌, ℕ, ◌+◌, ◌^◌, ◌<◌, inl, inr, Bool, true, false, List, [], ◌∷◌, ◌++◌, length, Option, Some, None, refl, sym, ap, subst, ◌∙◌, arith, zero, suc}
use Rattle.std.specs.Prelude.{IsSome, is_some, slice_get, Result, Ok, Err, OnOk, OnErr}
use Rattle.dc_base.specs.declared.lists.Memory.{Memory}
use Rattle.std.specs.List.{AllByRecursion}
use Rattle.std.proofs.lemmas.List.{append-nil}
use Rattle.std.proofs.lemmas.List.Elements.{recursion_from_All}
use Rattle.gtpu.specs.Content.{Content}
use Rattle.nr_u.specs.declared.frame.Frame.TheVariants.{User}
use Rattle.nr_u.specs.Frames.{IsFrame}
use Rattle.nr_u.proofs.Grammar.{one_frame}
use Rattle.forward.specs.Load.{Sdu, Load, Piece, Total, Nothing, HasNumber, Carries}
use Rattle.forward.specs.Forwarded.{Forwarded, nothing_came, sdu_under, with_piece, with_total, after, all_by, whole}
use Rattle.forward.specs.Outgoing.{total_packet}
use Rattle.forward.specs.Tunnel.{Tunnel, IsPacketOf, sdu_of, total_of, marker_of, IsEndOf, IsLater, Comes, IsListSent}
use Rattle.forward.proofs.Numbers.{under-insert, all_from_came, all_from_list}
use Rattle.forward.proofs.Frames.{IsSent, packet_sent}

-- ---- one packet more

piece_sent : (t : Tunnel) (i : Forwarded) (number : ℕ) (sdu : Sdu) (there : Option Sdu) → slice_get t.sdus number ≡ Some sdu → IsEndOf t i → IsEndOf t (with_piece i number sdu there)
piece_sent t i number sdu (Some s) sent end = end
piece_sent t i number sdu None sent end = record {
  each = λ q s is.
      elim (under-insert i.sdus number sdu q) [
        | inl new ↦ ap (slice_get t.sdus) new.0 ∙ (sent ∙ (sym new.1 ∙ is))
        | inr old ↦ end.each q s (sym old ∙ is)
      ];
  whole = end.whole;
}

total_sent : (t : Tunnel) (i : Forwarded) (total : ℕ) (there : Option ℕ) → (t.closed ≡ true) × (total ≡ length t.sdus) → IsEndOf t i → IsEndOf t (with_total i total there)
total_sent t i total (Some n) sent end = end
total_sent t i total None sent end = record {
  each = end.each;
  whole = λ n is. let same : total ≡ n = cc in (sent.0, sym same ∙ sent.1);
}

after_sent : (t : Tunnel) (i : Forwarded) (load : Load) → IsSent t load → IsEndOf t i → IsEndOf t (after i load)
after_sent t i (Piece number sdu) sent end = piece_sent t i number sdu (sdu_under i number) sent end
after_sent t i (Total total) sent end = total_sent t i total i.total sent end
after_sent t i Nothing sent end = end

-- what a packet of the tunnel carries is of the tunnel
pub after_packet : (t : Tunnel) (i : Forwarded) (p : Content) (load : Load) → length t.sdus < 2 ^ 24 → IsPacketOf t p → Carries p load → IsEndOf t i → IsEndOf t (after i load)
after_packet t i p load fits of c end = after_sent t i load (packet_sent t p load fits of c) end

pub nothing_of : (t : Tunnel) → IsEndOf t nothing_came
nothing_of t = record {
  each = λ number sdu is. absurd (cc is);
  whole = λ total is. absurd (cc is);
}

-- ---- a tunnel that is given more

slice_get-longer : {A : Type 0} (xs ys : List A) (k : ℕ) (x : A) → slice_get xs k ≡ Some x → slice_get (xs ++ ys) k ≡ Some x
slice_get-longer [] ys k x is = absurd (cc is)
slice_get-longer (y ∷ xs) ys zero x is = is
slice_get-longer (y ∷ xs) ys (suc k) x is = slice_get-longer xs ys k x is

kept_later : (t later : Tunnel) → IsLater t later → (k : ℕ) (s : Sdu) → slice_get t.sdus k ≡ Some s → slice_get later.sdus k ≡ Some s
kept_later t later l k s is = ap (λ (xs : List Sdu). slice_get xs k) l.longer ∙ slice_get-longer t.sdus l.more k s is

same_later : (t later : Tunnel) → IsLater t later → t.closed ≡ true → later.sdus ≡ t.sdus
same_later t later l closed = l.longer ∙ (ap (λ (xs : List Sdu). t.sdus ++ xs) (l.last closed).1 ∙ append-nil t.sdus)

pub packet_later : (t later : Tunnel) (p : Content) → IsLater t later → IsPacketOf t p → IsPacketOf later p
packet_later t later p l (sdu_of teid n k s there is) = sdu_of teid n k s (kept_later t later l k s there) is
packet_later t later p l (total_of teid closed is) =
    let same = same_later t later l closed in
    total_of teid (l.last closed).0 (subst (λ (xs : List Sdu). p ≡ total_packet teid (length xs)) (sym same) is)
packet_later t later p l (marker_of teid closed is) = marker_of teid (l.last closed).0 is

pub end_later : (t later : Tunnel) (i : Forwarded) → IsLater t later → IsEndOf t i → IsEndOf later i
end_later t later i l end = record {
  each = λ k s is. kept_later t later l k s (end.each k s is);
  whole = λ total is.
      let was = end.whole total is in
      ((l.last was.0).0, was.1 ∙ ap length (sym (same_later t later l was.0)));
}

-- ---- all of it

run_of : (t : Tunnel) → length t.sdus < 2 ^ 24 → (came : List Content) → AllByRecursion (IsPacketOf t) came → (i now : Forwarded) → Comes i came now → IsEndOf t i → IsEndOf t now
run_of t fits [] all i now run end = subst (IsEndOf t) (sym run) end
run_of t fits (p ∷ ps) all i now run end = run_of t fits ps all.1 (after i run.0) now run.2 (after_packet t i p run.0 fits all.0 run.1 end)

found : {A : Type 0} (x o : Option A) → IsSome o → ((a : A) → o ≡ Some a → x ≡ Some a) → x ≡ o
found x None some h = absurd cc
found x (Some a) some h = h a refl

list_by : (t : Tunnel) (now : Forwarded) (total : Option ℕ) → now.total ≡ total → IsEndOf t now → IsSome (all_by now total) → (all_by now total ≡ Some t.sdus) × (t.closed ≡ true)
list_by t now None known end done = absurd cc
list_by t now (Some n) known end done =
    let total = end.whole n known in (
      all_from_list now t.sdus 0 n (sym total.1) (λ i less.
          let place : 0 + i ≡ i = omega arith in
          found (slice_get t.sdus i) (sdu_under now (0 + i)) (all_from_came now 0 n done i less) (λ s is. end.each i s (sym (ap (sdu_under now) place) ∙ is))),
      total.0,
    )

-- an end that is done has the list of the tunnel
pub list_of : (t : Tunnel) (now : Forwarded) → IsEndOf t now → IsSome (whole now) → (whole now ≡ Some t.sdus) × (t.closed ≡ true)
list_of t now end done = list_by t now now.total refl end done

pub one_list : (now : Forwarded) (a b : List Sdu) → whole now ≡ Some a → whole now ≡ Some b → a ≡ b
one_list now a b p q = let same : Some a ≡ Some b = sym p ∙ q in cc

pub list_sent : (now : Forwarded) (list : List Sdu) → whole now ≡ Some list → IsListSent now list
list_sent now list is t fits came all run =
    let end = run_of t fits came (recursion_from_All (IsPacketOf t) came all) nothing_came now run (nothing_of t) in
    let done = list_of t now end (ap is_some is) in
    (one_list now list t.sdus is done.0, done.1)

pub one_octets : (p : Content) (k m : ℕ) (u v : Bool) → HasNumber p k u → HasNumber p m v → (k ≡ m) × (u ≡ v)
one_octets p k m u v a b =
    let same : a.octets ≡ b.octets = cc (a.has_container, b.has_container) in
    let frames : User k u a.repeat ≡ User m v b.repeat = one_frame b.octets (User k u a.repeat) (User m v b.repeat) (subst (λ (o : List ℕ). IsFrame o (User k u a.repeat)) same a.frame) b.frame in
    (cc, cc)

pub without_number : (p : Content) → ((k : ℕ) (u : Bool) → HasNumber p k u → ⊥) → Carries p Nothing
without_number p none = (λ k h. none k true h, λ k h _ _. none k false h)

-- a packet carries one thing
pub one_load : (p : Content) (a b : Load) → Carries p a → Carries p b → a ≡ b
one_load p (Piece k s) (Piece m t) a b =
    ap (λ (x : ℕ). Piece x s) (one_octets p k m true true a.0 b.0).0 ∙ ap (λ (x : Sdu). Piece m x) (a.1 ∙ sym b.1)
one_load p (Piece k s) (Total m) a b = absurd (cc ((one_octets p k m true false a.0 b.0).1))
one_load p (Piece k s) Nothing a b = absurd (b.0 k a.0)
one_load p (Total k) (Piece m t) a b = absurd (cc ((one_octets p k m false true a.0 b.0).1))
one_load p (Total k) (Total m) a b = ap (λ (x : ℕ). Total x) (one_octets p k m false false a.0 b.0).0
one_load p (Total k) Nothing a b = absurd (b.1 k a.0 a.1 a.2)
one_load p Nothing (Piece m t) a b = absurd (a.0 m b.0)
one_load p Nothing (Total m) a b = absurd (a.1 m b.0 b.1 b.2)
one_load p Nothing Nothing a b = refl

-- whatever a call took in of a packet of the tunnel
pub came_kept : (t : Tunnel) (p : Content) (old now : Forwarded) (r : Result (Unit {0}) Memory) → length t.sdus < 2 ^ 24 → IsPacketOf t p → OnOk r ((load : Load) × Carries p load × (now ≡ after old load)) → OnErr r (now ≡ old) → IsEndOf t old → IsEndOf t now
came_kept t p old now (Ok x) fits of is same end = subst (IsEndOf t) (sym is.2) (after_packet t old p is.0 fits of is.1 end)
came_kept t p old now (Err e) fits of is same end = subst (IsEndOf t) (sym same) end
