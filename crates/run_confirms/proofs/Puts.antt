-- What an anchor puts on the legs of a bearer: its numbers there, what the tunnel has of it, and the flights.
use Rattle.std.proofs.Common.{◌≡◌, ℕ, ◌+◌, ◌++◌, ◌∷◌, [], true, false, Bool, List, Option, Some, None, zero, suc, fold, length, map, not, refl, sym, ap, ◌∙◌, subst, inl, inr, arith, append_assoc, length-append}
use Rattle.std.specs.Prelude.{◌||◌, IfSome, filter, option_and_then, slice_get}
use Rattle.std.specs.List.{AllByRecursion}
use Rattle.std.specs.Ordering.{nat_cmp}
use Rattle.std.specs.BTreeMap.{insert_entry}
use Rattle.std.proofs.lemmas.Bool.{cases_Bool, false≢true}
use Rattle.std.proofs.lemmas.List.{append-nil, length-map, map-append}
use Rattle.std.proofs.lemmas.Simd.{map-map}
use Rattle.dc_base.specs.declared.nodes.Cell.{Cell}
use Rattle.dc_base.specs.declared.nodes.Cell.TheVariants.{Mcg, Scg}
use Rattle.nr_u.specs.declared.tunnel.outbound.Sent.{Sent}
use Rattle.nr_u.specs.Tunnel.Outgoing.{Counted, IsHistory, Outgoing, noted, with_sent}
use Rattle.nr_u.proofs.ByNumber.{cmp_tells}
use Rattle.nr_u.proofs.History.{history_sent}
use Rattle.split_leg.specs.Legs.{LegsState, is_count, leg_at}
use Rattle.node_rules.specs.AnchorSending.{tunnelled}
use Rattle.node_rules.specs.Sending.{Pdu}
use Rattle.node_rules.specs.Setup.{is_same_cell, other_cell}
use Rattle.node_rules.specs.declared.bearers.OnLeg.{OnLeg}
use Rattle.run_legs.specs.Puts.{AreNumbered, AreSent, HasGrown, HaveGrown, IsAmong, IsPut, listed, over}
use Rattle.run_confirms.specs.Anchors.{as_sent, has_live, is_among, put_as_sent, sent_on, sent_put, was_put}
use Rattle.run_confirms.specs.Statuses.{count_under}
use Rattle.run_confirms.proofs.Arrivals.{each_with}
use Rattle.run_confirms.proofs.Legs.{among_left, among_right, put_still}
use Rattle.run_confirms.proofs.Statuses.{get_front, get_last}

-- ---- legs that grew

pub grown_at : (cell : Cell) (puts : List OnLeg) (a b : LegsState) → HaveGrown puts a b → HasGrown (over cell puts) (leg_at a cell) (leg_at b cell)
grown_at Mcg puts a b grown = grown.mcg
grown_at Scg puts a b grown = grown.scg

-- a leg has behind what was sent on it what was put there
pub grown_sent : (cell : Cell) (puts : List OnLeg) (a b : LegsState) → HaveGrown puts a b
    → sent_on (leg_at b cell) ≡ sent_on (leg_at a cell) ++ sent_put cell puts
grown_sent cell puts a b grown =
    ap (map as_sent) (grown_at cell puts a b grown).pdus ∙ map-append as_sent (leg_at a cell).pdus (map listed (over cell puts))
    ∙ ap (λ (xs : List Sent). sent_on (leg_at a cell) ++ xs) (map-map as_sent listed (over cell puts))

-- ---- each is under its number

get_at : {X : Type 0} (xs ys : List X) (x : X) → slice_get (xs ++ x ∷ ys) (length xs) ≡ Some x
get_at [] ys x = refl
get_at (y ∷ xs) ys x = get_at xs ys x

numbered_at : (before : List Sent) (num : ℕ) (ps : List OnLeg) → num ≡ length before → AreNumbered num ps
    → AllByRecursion (λ (p : OnLeg). slice_get (before ++ map put_as_sent ps) p.num ≡ Some (put_as_sent p)) ps
numbered_at before num [] is all = tt
numbered_at before num (p ∷ ps) is all =
    let here : slice_get (before ++ put_as_sent p ∷ map put_as_sent ps) p.num ≡ Some (put_as_sent p) =
    ap (slice_get (before ++ put_as_sent p ∷ map put_as_sent ps)) (all.0 ∙ is) ∙ get_at before (map put_as_sent ps) (put_as_sent p) in
    let more : (before ++ put_as_sent p ∷ []) ++ map put_as_sent ps ≡ before ++ put_as_sent p ∷ map put_as_sent ps = append_assoc before (put_as_sent p ∷ []) (map put_as_sent ps) in (
      here,
      subst (λ (xs : List Sent). AllByRecursion (λ (q : OnLeg). slice_get xs q.num ≡ Some (put_as_sent q)) ps) more
          (numbered_at (before ++ put_as_sent p ∷ []) (num + 1) ps (omega (arith, is, length-append before (put_as_sent p ∷ []))) all.1),
    )

-- what holds of each that passes
each_passing : {X : Type 0} (P : X → Type 0) (test : X → Bool) (xs : List X) → AllByRecursion P (filter test xs) → AllByRecursion (λ x. test x ≡ true → P x) xs
each_passing P test [] all = tt
each_passing {X} P test (x ∷ xs) all =
    elim (cases_Bool (test x)) [
      | inl passes ↦
          let step : filter test (x ∷ xs) ≡ x ∷ filter test xs = rw passes refl in
          let both = subst (AllByRecursion P) step all in
          (λ is. both.0, each_passing P test xs both.1)
      | inr fails ↦
          let step : filter test (x ∷ xs) ≡ filter test xs = rw fails refl in
          (λ is. absurd (false≢true (sym fails ∙ is)), each_passing P test xs (subst (AllByRecursion P) step all))
    ]

-- each that was put on a leg is there under its number
pub puts_at : (cell : Cell) (puts : List OnLeg) (a b : LegsState) → HaveGrown puts a b
    → AllByRecursion (λ (p : OnLeg). is_same_cell p.cell cell ≡ true → slice_get (sent_on (leg_at b cell)) p.num ≡ Some (put_as_sent p)) puts
puts_at cell puts a b grown =
    let numbered = numbered_at (sent_on (leg_at a cell)) (length (leg_at a cell).pdus) (over cell puts) (sym (length-map (leg_at a cell).pdus as_sent)) (grown_at cell puts a b grown).numbered in
    each_passing (λ (p : OnLeg). slice_get (sent_on (leg_at b cell)) p.num ≡ Some (put_as_sent p)) (λ (p : OnLeg). is_same_cell p.cell cell) puts
    (subst (λ (xs : List Sent). AllByRecursion (λ (p : OnLeg). slice_get xs p.num ≡ Some (put_as_sent p)) (over cell puts)) (sym (grown_sent cell puts a b grown)) numbered)

-- ---- what was put before and now

-- all that was put on the legs before is there
pub grown_still : (puts : List OnLeg) (a b : LegsState) (count : ℕ) → HaveGrown puts a b → was_put a count ≡ true → was_put b count ≡ true
grown_still puts a b count grown there =
    put_still a b count (λ at. rw (grown_sent Mcg puts a b grown) (among_left count (sent_on a.mcg) (sent_put Mcg puts) at)) (λ at. rw (grown_sent Scg puts a b grown) (among_left count (sent_on a.scg) (sent_put Scg puts) at)) there

pub among_at : (count num : ℕ) (xs : List Sent) (s : Sent) → slice_get xs num ≡ Some s → s.count ≡ Some count → is_among count xs ≡ true
among_at count num [] s at is = absurd cc
among_at count zero (x ∷ xs) s at is =
    let same : x ≡ s = cc in
    let counts : x.count ≡ Some count = ap (λ (y : Sent). y.count) same ∙ is in
    rw counts (or_eq count)
  where
    or_eq : (c : ℕ) → (is_count c (Some c) || is_among c xs) ≡ true
    or_eq c = grind arith
among_at count (suc num) (x ∷ xs) s at is = among_right count (x ∷ []) xs (among_at count num xs s at is)

pub cell_put : (cell : Cell) (legs : LegsState) (count : ℕ) → is_among count (sent_on (leg_at legs cell)) ≡ true → was_put legs count ≡ true
cell_put Mcg legs count there = rw there refl
cell_put Scg legs count there = elim (cases_Bool (is_among count (sent_on legs.mcg))) [ inl at ↦ rw at refl | inr not_at ↦ rw (not_at, there) refl ]

same_cell : (cell : Cell) → is_same_cell cell cell ≡ true
same_cell Mcg = refl
same_cell Scg = refl

-- what holds of a PDU's COUNT, if it has one: it was put on a leg
abbrev pub IsThere : LegsState → Pdu → Type 0
IsThere legs pdu = IfSome pdu.0 (λ count. was_put legs count ≡ true)

one_there : (b : LegsState) (p : OnLeg) → slice_get (sent_on (leg_at b p.cell)) p.num ≡ Some (put_as_sent p) → IsThere b p.pdu
one_there b p at = by p.pdu.0 refl
  where
    by : (tag : Option ℕ) → p.pdu.0 ≡ tag → IfSome tag (λ count. was_put b count ≡ true)
    by None is = tt
    by (Some count) is = cell_put p.cell b count (among_at count p.num (sent_on (leg_at b p.cell)) (put_as_sent p) at is)

both_cells : (puts : List OnLeg) (b : LegsState)
    → ((cell : Cell) → AllByRecursion (λ (p : OnLeg). is_same_cell p.cell cell ≡ true → slice_get (sent_on (leg_at b cell)) p.num ≡ Some (put_as_sent p)) puts)
    → AllByRecursion (λ (p : OnLeg). IsThere b p.pdu) puts
both_cells [] b all = tt
both_cells (p ∷ puts) b all = (one_there b p ((all p.cell).0 (same_cell p.cell)), both_cells puts b (λ cell. (all cell).1))

there_among : (b : LegsState) (puts : List OnLeg) (pdu : Pdu) → AllByRecursion (λ (p : OnLeg). IsThere b p.pdu) puts
    → IsAmong (map (λ (p : OnLeg). p.pdu) puts) pdu → IsThere b pdu
there_among b [] pdu all none = absurd none
there_among b (p ∷ puts) pdu all (inl is) = subst (IsThere b) (sym is) all.0
there_among b (p ∷ puts) pdu all (inr later) = there_among b puts pdu all.1 later

-- what was sent while a leg was live is on a leg
pub sent_there : (pdus : List Pdu) (a b : LegsState) (puts : List OnLeg) → AreSent pdus a b puts → has_live a ≡ true → AllByRecursion (IsThere b) pdus
sent_there pdus a b puts sent live =
    each_with (IsPut puts) (IsThere b) pdus (sent.all live) (λ pdu is. there_among b puts pdu (both_cells puts b (λ cell. puts_at cell puts a b sent.grown)) is)

-- ---- the tunnel

-- what the tunnel has: the history, and what was not asked for again was sent
pub record HasTunnel (tun : List Sent) (o : Outgoing) : Type 0 where
  pub history : IsHistory tun o
  pub unasked : AllByRecursion (λ (e : Counted). count_under tun e.0 ≡ Some e.1) o.unasked

all_insert : (P : Counted → Type 0) (k v : ℕ) (es : List Counted) → P (k, v) → AllByRecursion P es → AllByRecursion P (insert_entry nat_cmp es k v)
all_insert P k v [] here all = (here, tt)
all_insert P k v (e ∷ es) here all =
    elim (cmp_tells k e.0) [
      | inl less ↦ rw less.0 (here, all)
      | inr rest ↦ elim rest [
        | inl same ↦ rw same.0 (subst (λ (x : ℕ). P (x, v)) same.1 here, all.1)
        | inr more ↦ rw more.0 (all.0, all_insert P k v es here all.1)
      ]
    ]

under_front : (tun more : List Sent) (number count : ℕ) → count_under tun number ≡ Some count → count_under (tun ++ more) number ≡ Some count
under_front tun more number count is = by (slice_get tun number) refl
  where
    by : (o : Option Sent) → slice_get tun number ≡ o → count_under (tun ++ more) number ≡ Some count
    by None at = let none : None ≡ Some count = sym (ap (λ (o : Option Sent). option_and_then (λ (s : Sent). s.count) o) at) ∙ is in absurd cc
    by (Some s) at = ap (λ (o : Option Sent). option_and_then (λ (s : Sent). s.count) o) (get_front tun more number s at) ∙ sym (ap (λ (o : Option Sent). option_and_then (λ (s : Sent). s.count) o) at) ∙ is

unasked_sent : (tun : List Sent) (next : ℕ) (count : Option ℕ) (repeat : Bool) (es : List Counted) → length tun ≡ next
    → AllByRecursion (λ (e : Counted). count_under tun e.0 ≡ Some e.1) es
    → AllByRecursion (λ (e : Counted). count_under (tun ++ (record { count = count; repeat = repeat }) ∷ []) e.0 ≡ Some e.1) (noted count next es)
unasked_sent tun next None repeat es len all =
    each_with (λ (e : Counted). count_under tun e.0 ≡ Some e.1) (λ (e : Counted). count_under (tun ++ (record { count = None; repeat = repeat }) ∷ []) e.0 ≡ Some e.1) es all
    (λ e is. under_front tun ((record { count = None; repeat = repeat }) ∷ []) e.0 e.1 is)
unasked_sent tun next (Some c) repeat es len all =
    let s : Sent = record { count = Some c; repeat = repeat } in
    let here : count_under (tun ++ s ∷ []) next ≡ Some c = rw (← len) (ap (λ (o : Option Sent). option_and_then (λ (x : Sent). x.count) o) (get_last tun s)) in
    all_insert (λ (e : Counted). count_under (tun ++ s ∷ []) e.0 ≡ Some e.1) next c es here
    (each_with (λ (e : Counted). count_under tun e.0 ≡ Some e.1) (λ (e : Counted). count_under (tun ++ s ∷ []) e.0 ≡ Some e.1) es all (λ e is. under_front tun (s ∷ []) e.0 e.1 is))

tunnel_sent : (tun : List Sent) (o : Outgoing) (count : Option ℕ) (repeat : Bool) → HasTunnel tun o
    → HasTunnel (tun ++ (record { count = count; repeat = repeat }) ∷ []) (with_sent o (record { count = count; repeat = repeat }))
tunnel_sent tun o count repeat is = record { history = history_sent tun o count repeat is.history; unasked = unasked_sent tun o.next count repeat o.unasked is.history.numbers is.unasked }

pub other_is : (cell own : Cell) → is_same_cell cell (other_cell own) ≡ not (is_same_cell cell own)
other_is Mcg Mcg = refl
other_is Mcg Scg = refl
other_is Scg Mcg = refl
other_is Scg Scg = refl

-- the tunnel has behind what was sent in it what was put on the other leg
pub tunnel_is : (own : Cell) (puts : List OnLeg) (tun : List Sent) (o : Outgoing) → HasTunnel tun o
    → HasTunnel (tun ++ sent_put (other_cell own) puts) (fold (λ (o : Outgoing) (p : OnLeg). tunnelled o p (is_same_cell p.cell own)) o puts)
tunnel_is own [] tun o is = subst (λ (t : List Sent). HasTunnel t o) (sym (append-nil tun)) is
tunnel_is own (p ∷ puts) tun o is =
    elim (cases_Bool (is_same_cell p.cell own)) [
      | inl local ↦
          let other : is_same_cell p.cell (other_cell own) ≡ false = other_is p.cell own ∙ ap not local in
          rw (local, other) (tunnel_is own puts tun o is)
      | inr far ↦
          let other : is_same_cell p.cell (other_cell own) ≡ true = other_is p.cell own ∙ ap not far in
          let more : (tun ++ put_as_sent p ∷ []) ++ sent_put (other_cell own) puts ≡ tun ++ put_as_sent p ∷ sent_put (other_cell own) puts = append_assoc tun (put_as_sent p ∷ []) (sent_put (other_cell own) puts) in
          let step : HasTunnel (tun ++ put_as_sent p ∷ []) (with_sent o (put_as_sent p)) = tunnel_sent tun o p.pdu.0 p.repeat is in
          rw (far, other) (subst (λ (t : List Sent). HasTunnel t (fold (λ (o : Outgoing) (p : OnLeg). tunnelled o p (is_same_cell p.cell own)) (with_sent o (put_as_sent p)) puts)) more
          (tunnel_is own puts (tun ++ put_as_sent p ∷ []) (with_sent o (put_as_sent p)) step))
    ]
