-- What sends put on a link, one after another: numbers that count on.
use Rattle.std.proofs.Common.{ℕ, ◌≡◌, ◌++◌, ◌+◌, Bool, true, false, List, [], ◌∷◌, length, refl, sym, ap, subst, ◌∙◌, arith}
use Rattle.std.specs.Prelude.{if◌then◌else◌, map}
use Rattle.std.specs.List.{AllByRecursion, flat_map}
use Rattle.std.proofs.lemmas.Grind.{flat_map-append}
use Rattle.std.proofs.lemmas.List.{append-nil, length-append, length-map, map-append}
use Rattle.dc_base.specs.declared.flights.Flight.{Flight}
use Rattle.dc_base.specs.declared.nodes.Cell.{Cell}
use Rattle.dc_base.specs.declared.nodes.LinkId.{LinkId}
use Rattle.nr_u.specs.declared.tunnel.outbound.Sent.{Sent}
use Rattle.node_rules.specs.Choices.{Send}
use Rattle.node_rules.specs.Setup.{is_same_cell}
use Rattle.node_rules.specs.declared.bearers.OnLeg.{OnLeg}
use Rattle.transcript.specs.Content.{on_link}
use Rattle.split_leg.specs.declared.leg.Pdu.{Pdu}
use Rattle.split_leg.specs.Legs.{LegState}
use Rattle.claims.specs.Views.{pdu_of}
use Rattle.run_control.specs.Links.{sent_on}
use Rattle.run_legs.specs.Puts.{AreNumbered, HasGrown, listed, over}
use Rattle.run_numbers.specs.Histories.{ArePut, Continues, IsNumberedFrom, Numbered, counted_from, numbered_if, puts_of, puts_on}

-- ---- one after another

-- what sends put, and then others
pub puts_append : (l : LinkId) (id g : ℕ) (xs ys : List Send) → puts_on l id g (xs ++ ys) ≡ puts_on l id g xs ++ puts_on l id g ys
puts_append l id g xs ys =
    ap (puts_of id g) (flat_map-append (on_link l) xs ys) ∙ flat_map-append (λ (f : Flight). numbered_if id g (pdu_of f)) (sent_on l xs) (sent_on l ys)

-- numbers that count on
pub numbered_counted : (n : ℕ) (ss : List Sent) → IsNumberedFrom n (counted_from n ss)
numbered_counted n [] = tt
numbered_counted n (s ∷ ss) = (refl, numbered_counted (n + 1) ss)

pub length_counted : (n : ℕ) (ss : List Sent) → length (counted_from n ss) ≡ length ss
length_counted n [] = refl
length_counted n (s ∷ ss) = let more = length_counted (n + 1) ss in omega (arith, more)

pub counted_append : (n : ℕ) (xs ys : List Sent) → counted_from n (xs ++ ys) ≡ counted_from n xs ++ counted_from (n + length xs) ys
counted_append n [] ys = ap (λ k. counted_from k ys) (omega arith)
counted_append n (x ∷ xs) ys =
    ap (λ zs. (n, x) ∷ zs) (counted_append (n + 1) xs ys ∙ ap (λ k. counted_from (n + 1) xs ++ counted_from k ys) (omega arith))

-- without their numbers they are what was counted
pub uncounted : (n : ℕ) (ss : List Sent) → map (λ (x : Numbered). x.1) (counted_from n ss) ≡ ss
uncounted n [] = refl
uncounted n (s ∷ ss) = ap (λ zs. s ∷ zs) (uncounted (n + 1) ss)

-- ---- a leg that goes on

from_none : (n : ℕ) → n ≡ 0 + n
from_none n = omega arith

module _ (sent : List Send) (l : LinkId) (id g : ℕ) where
  -- its sends have the next numbers
  pub next_follow : (had has : List Sent) (sends : List Send) → ArePut sent l id g had → Continues l id g had has sends → IsNumberedFrom (length (puts_on l id g sent)) (puts_on l id g sends)
  next_follow had has sends put goes =
      subst (λ k. IsNumberedFrom k (puts_on l id g sends)) (sym (ap length put ∙ length_counted 0 had))
      (subst (IsNumberedFrom (length had)) (sym goes.puts) (numbered_counted (length had) goes.more))

  -- and it has then all that was put
  pub next_put : (had has : List Sent) (sends : List Send) → ArePut sent l id g had → Continues l id g had has sends → ArePut (sent ++ sends) l id g has
  next_put had has sends put goes =
      puts_append l id g sent sends ∙ ap (λ zs. zs ++ puts_on l id g sends) put ∙ ap (λ zs. counted_from 0 had ++ zs) (goes.puts ∙ ap (λ k. counted_from k goes.more) (from_none (length had)))
      ∙ sym (ap (counted_from 0) goes.grown ∙ counted_append 0 had goes.more)

  -- where nothing is put there, nothing changes
  pub none_put : (these : List Sent) (sends : List Send) → puts_on l id g sends ≡ [] → ArePut sent l id g these → ArePut (sent ++ sends) l id g these
  none_put these sends none put = puts_append l id g sent sends ∙ ap (λ zs. puts_on l id g sent ++ zs) none ∙ append-nil (puts_on l id g sent) ∙ put

  pub none_follow : (sends : List Send) → puts_on l id g sends ≡ [] → IsNumberedFrom (length (puts_on l id g sent)) (puts_on l id g sends)
  none_follow sends none = subst (IsNumberedFrom (length (puts_on l id g sent))) (sym none) tt

-- a leg on which nothing was put
pub continues_none : (l : LinkId) (id g : ℕ) (had : List Sent) (sends : List Send) → puts_on l id g sends ≡ [] → Continues l id g had had sends
continues_none l id g had sends none = record { more = []; puts = none; grown = sym (append-nil had) }

-- sends, and then others
pub continues_both : (l : LinkId) (id g : ℕ) (one two three : List Sent) (xs ys : List Send) → Continues l id g one two xs → Continues l id g two three ys → Continues l id g one three (xs ++ ys)
continues_both l id g one two three xs ys first then' = record {
  more = first.more ++ then'.more;
  puts =
      puts_append l id g xs ys ∙ ap (λ zs. zs ++ puts_on l id g ys) first.puts
      ∙ ap (λ zs. counted_from (length one) first.more ++ zs)
      (then'.puts ∙ ap (λ k. counted_from k then'.more) (ap length first.grown ∙ length-append one first.more))
      ∙ sym (counted_append (length one) first.more then'.more);
  grown = then'.grown ∙ ap (λ zs. zs ++ then'.more) first.grown ∙ append_three one first.more then'.more;
}
  where
    append_three : (xs ys zs : List Sent) → (xs ++ ys) ++ zs ≡ xs ++ (ys ++ zs)
    append_three [] ys zs = refl
    append_three (x ∷ xs) ys zs = ap (λ us. x ∷ us) (append_three xs ys zs)

-- ---- what an entity puts on its legs

module _ (l : LinkId) (id g : ℕ) (sends_of : OnLeg → List Send) where
  -- where each put over a cell group, and no other, is sent on the link
  pub puts_each : (cell : Cell) (as_sent : OnLeg → Sent) (ps : List OnLeg) → AllByRecursion (λ (p : OnLeg). puts_on l id g (sends_of p) ≡ (if is_same_cell p.cell cell then (p.num, as_sent p) ∷ [] else [])) ps
      → puts_on l id g (flat_map sends_of ps) ≡ map (λ (p : OnLeg). (p.num, as_sent p)) (over cell ps)
  puts_each cell as_sent [] all = refl
  puts_each cell as_sent (p ∷ ps) all =
      puts_append l id g (sends_of p) (flat_map sends_of ps) ∙ ap (λ zs. zs ++ puts_on l id g (flat_map sends_of ps)) all.0 ∙ by (is_same_cell p.cell cell) (puts_each cell as_sent ps all.1)
    where
      by : (t : Bool) → puts_on l id g (flat_map sends_of ps) ≡ map (λ (q : OnLeg). (q.num, as_sent q)) (over cell ps)
          → (if t then (p.num, as_sent p) ∷ [] else []) ++ puts_on l id g (flat_map sends_of ps) ≡ map (λ (q : OnLeg). (q.num, as_sent q)) (if t then p ∷ over cell ps else over cell ps)
      by true more = ap (λ zs. (p.num, as_sent p) ∷ zs) more
      by false more = more

  pub puts_over : (cell : Cell) (as_sent : OnLeg → Sent) → ((p : OnLeg) → puts_on l id g (sends_of p) ≡ (if is_same_cell p.cell cell then (p.num, as_sent p) ∷ [] else [])) → (ps : List OnLeg)
      → puts_on l id g (flat_map sends_of ps) ≡ map (λ (p : OnLeg). (p.num, as_sent p)) (over cell ps)
  puts_over cell as_sent is ps = puts_each cell as_sent ps (every ps)
    where
      every : (qs : List OnLeg) → AllByRecursion (λ (p : OnLeg). puts_on l id g (sends_of p) ≡ (if is_same_cell p.cell cell then (p.num, as_sent p) ∷ [] else [])) qs
      every [] = tt
      every (q ∷ qs) = (is q, every qs)

  -- where none of these is
  pub none_each : (ps : List OnLeg) → AllByRecursion (λ (p : OnLeg). puts_on l id g (sends_of p) ≡ []) ps → puts_on l id g (flat_map sends_of ps) ≡ []
  none_each [] all = refl
  none_each (p ∷ ps) all = puts_append l id g (sends_of p) (flat_map sends_of ps) ∙ ap (λ zs. zs ++ puts_on l id g (flat_map sends_of ps)) all.0 ∙ none_each ps all.1

  -- where none is
  pub puts_nowhere : ((p : OnLeg) → puts_on l id g (sends_of p) ≡ []) → (ps : List OnLeg) → puts_on l id g (flat_map sends_of ps) ≡ []
  puts_nowhere none [] = refl
  puts_nowhere none (p ∷ ps) =
      puts_append l id g (sends_of p) (flat_map sends_of ps) ∙ ap (λ zs. zs ++ puts_on l id g (flat_map sends_of ps)) (none p) ∙ puts_nowhere none ps

-- puts with the numbers from one on
pub counted_puts : (n : ℕ) (as_sent : OnLeg → Sent) (ps : List OnLeg) → AreNumbered n ps → map (λ (p : OnLeg). (p.num, as_sent p)) ps ≡ counted_from n (map as_sent ps)
counted_puts n as_sent [] all = refl
counted_puts n as_sent (p ∷ ps) all =
    ap (λ k. (k, as_sent p) ∷ map (λ (q : OnLeg). (q.num, as_sent q)) ps) all.0 ∙ ap (λ zs. (n, as_sent p) ∷ zs) (counted_puts (n + 1) as_sent ps all.1)

-- a leg with these puts behind goes on, as its PDUs are seen
pub leg_continues : (l : LinkId) (id g : ℕ) (seen : Pdu → Sent) (puts : List OnLeg) (had has : LegState) (sends : List Send) → puts_on l id g sends ≡ map (λ (p : OnLeg). (p.num, seen (listed p))) puts
    → HasGrown puts had has → Continues l id g (map seen had.pdus) (map seen has.pdus) sends
leg_continues l id g seen puts had has sends is grown = record {
  more = map (λ (p : OnLeg). seen (listed p)) puts;
  puts =
      is ∙ counted_puts (length had.pdus) (λ (p : OnLeg). seen (listed p)) puts grown.numbered
      ∙ ap (λ k. counted_from k (map (λ (p : OnLeg). seen (listed p)) puts)) (sym (length-map had.pdus seen));
  grown = ap (map seen) grown.pdus ∙ map-append seen had.pdus (map listed puts) ∙ ap (λ zs. map seen had.pdus ++ zs) (map_twice puts);
}
  where
    map_twice : (ps : List OnLeg) → map seen (map listed ps) ≡ map (λ (p : OnLeg). seen (listed p)) ps
    map_twice [] = refl
    map_twice (p ∷ ps) = ap (λ zs. seen (listed p) ∷ zs) (map_twice ps)
