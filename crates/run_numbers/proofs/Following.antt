-- What an anchor or a leg host sends follows on from what its node sent before, if that is what its legs have.
use Rattle.std.proofs.Common.{ℕ, ◌≡◌, ◌≤◌, ◌++◌, ◌+◌, ◌==◌, Bool, true, false, List, [], ◌∷◌, Option, Some, None, length, refl, sym, ap, subst, ◌∙◌, arith}
use Rattle.std.specs.Prelude.{if◌then◌else◌, ◌&&◌, ◌^◌}
use Rattle.std.proofs.lemmas.Bool.{eq-eqb}
use Rattle.std.proofs.lemmas.List.{append-nil, length-append, length-map}
use Rattle.dc_base.specs.Links.{is_same_link, link, link_number}
use Rattle.dc_base.specs.declared.nodes.Class.TheVariants.{Air, Tun}
use Rattle.dc_base.specs.declared.nodes.LinkId.{LinkId}
use Rattle.dc_base.specs.declared.nodes.Node.{Node}
use Rattle.dc_base.specs.declared.nodes.Node.TheVariants.{T}
use Rattle.claims.specs.Views.{Pdu, pdu_of}
use Rattle.split_leg.specs.Legs.{leg_at}
use Rattle.node_rules.specs.Choices.{Send}
use Rattle.node_rules.specs.Host.{Host}
use Rattle.node_rules.specs.Setup.{Setup, anchor_cell, host_of}
use Rattle.master_runs.proofs.Moving.{same_link}
use Rattle.run_confirms.specs.Anchors.{as_sent, sent_on}
use Rattle.run_numbers.specs.Histories.{ArePut, IsNumberedFrom, NoneOf, OnlyOf, counted_from, numbered_if, puts_on, with_number}
use Rattle.run_numbers.specs.Records.{AnchorFollows, AnchorGoes, HasFew, HostFollows, HostSends, IsAnchorPut, IsHostPut, IsInRange, air_sents, anchor_on, far_of, far_on}
use Rattle.run_numbers.proofs.AnchorLegs.{air_no_tunnel}
use Rattle.run_numbers.proofs.Holding.{only_follow}
use Rattle.run_numbers.proofs.Lines.{puts_cons}
use Rattle.run_numbers.proofs.Next.{one_of}
use Rattle.run_numbers.proofs.Puts.{length_counted, next_follow, next_put, none_follow, none_put, puts_append}

-- ---- no more than is sent

one_at_most : (l : LinkId) (id g : ℕ) (k : LinkId) (o : Option Pdu) → length (one_of l id g k o) ≤ 1
one_at_most l id g k o = on (is_same_link l k) o
  where
    number : (u : Pdu) (n : Option ℕ) → length (with_number u n) ≤ 1
    number u None = omega arith
    number u (Some n) = omega arith

    of : (u : Pdu) (b : Bool) → length (if b then with_number u u.num else []) ≤ 1
    of u true = number u u.num
    of u false = omega arith

    on : (b : Bool) (o : Option Pdu) → length (if b then numbered_if id g o else []) ≤ 1
    on true None = omega arith
    on true (Some u) = of u ((u.id == id) && (u.g == g))
    on false o = omega arith

puts_fewer : (l : LinkId) (id g : ℕ) (ss : List Send) → length (puts_on l id g ss) ≤ length ss
puts_fewer l id g [] = omega arith
puts_fewer l id g (s ∷ ss) =
    let more = puts_fewer l id g ss in
    let one = one_at_most l id g s.0 (pdu_of s.1) in
    let sum = ap length (puts_cons l id g s.0 s.1 ss) ∙ length-append (one_of l id g s.0 (pdu_of s.1)) (puts_on l id g ss) in
    omega (arith, more, one, sum)

-- ---- an anchor

tunnel_itself : (x y : Node) → is_same_link (link x y Tun) (link x y Tun) ≡ true
tunnel_itself x y = eq-eqb (link_number (link x y Tun)) (link_number (link x y Tun)) refl

-- what is on the link of the tunnel
far_is : (s : Setup) (host : Node) → host_of s ≡ Some host → anchor_on (link s.node host Tun) s ≡ sent_on (leg_at s.legs (far_of s))
far_is s host to =
    ap (λ (b : Bool). if b then air_sents (leg_at s.legs (anchor_cell s.legs.shape)) else far_on (link s.node host Tun) s (host_of s)) (no_air (is_same_link (link s.node host Tun) (link s.node T Air)) refl)
    ∙ ap (far_on (link s.node host Tun) s) to ∙ ap (λ (b : Bool). if b then sent_on (leg_at s.legs (far_of s)) else []) (tunnel_itself s.node host)
  where
    no_air : (b : Bool) → is_same_link (link s.node host Tun) (link s.node T Air) ≡ b → is_same_link (link s.node host Tun) (link s.node T Air) ≡ false
    no_air true same = absurd (let bad : true ≡ false = sym (tunnel_itself s.node host) ∙ air_no_tunnel (link s.node host Tun) s.node s.node host same in cc)
    no_air false apart = apart

module _ (sent : List Send) (s t : Setup) (ss : List Send) (range : IsInRange s) (few : length (sent ++ ss) ≤ 2 ^ 24) (put : IsAnchorPut sent s) (goes : AnchorGoes s t ss) where
  has_few : HasFew s t
  has_few host to =
      let l = link s.node host Tun in
      let leg = leg_at s.legs (far_of s) in
      let is : length (puts_on l s.id s.g sent) ≡ length leg.pdus =
      ap length (put l ∙ ap (counted_from 0) (far_is s host to)) ∙ length_counted 0 (sent_on leg) ∙ length-map leg.pdus as_sent in
      let le = puts_fewer l s.id s.g sent in
      let more = goes.more host to in
      let sum = length-append sent ss in
      omega (arith, few, is, le, more, sum)

  -- the setup before it, as the one after names it
  before : (l : LinkId) → ArePut sent l t.id t.g (anchor_on l s)
  before l =
      subst (λ i. ArePut sent l i t.g (anchor_on l s)) (sym (ap (λ (x : Setup). x.id) goes.same)) (subst (λ g. ArePut sent l s.id g (anchor_on l s)) (sym (ap (λ (x : Setup). x.g) goes.same)) (put l))

  pub anchor_follows : AnchorFollows sent t ss
  anchor_follows =
      let is = goes.goes range has_few in
      record {
        follows = only_follow sent ss t.id t.g (λ l. next_follow sent l t.id t.g (anchor_on l s) (anchor_on l t) ss (before l) (is.own l)) is.others;
        puts = λ l. next_put sent l t.id t.g (anchor_on l s) (anchor_on l t) ss (before l) (is.own l);
        others = is.others;
      }

-- where nothing of it is sent it stays so
pub anchor_stays : (sent ss : List Send) (s : Setup) → NoneOf s.id s.g ss → IsAnchorPut sent s → IsAnchorPut (sent ++ ss) s
anchor_stays sent ss s none put l = none_put sent l s.id s.g (anchor_on l s) ss (none l) (put l)

-- ---- a leg host

module _ (sent : List Send) (h later : Host) (ss : List Send) (put : IsHostPut sent h) (goes : HostSends h later ss) where
  -- its leg
  abbrev leg : LinkId
  leg = link h.node T Air

  host_each : (l : LinkId) → IsNumberedFrom (length (puts_on l h.id h.g sent)) (puts_on l h.id h.g ss)
  host_each l = by (is_same_link l leg) refl
    where
      by : (b : Bool) → is_same_link l leg ≡ b → IsNumberedFrom (length (puts_on l h.id h.g sent)) (puts_on l h.id h.g ss)
      by true same =
          subst (λ k. IsNumberedFrom (length (puts_on k h.id h.g sent)) (puts_on k h.id h.g ss)) (sym (same_link l leg same)) (subst (λ n. IsNumberedFrom n (puts_on leg h.id h.g ss)) (sym put) goes.own)
      by false apart = none_follow sent l h.id h.g ss (goes.elsewhere l apart)

  pub host_follows : HostFollows sent later ss
  host_follows = record {
    follows = only_follow sent ss h.id h.g host_each goes.others;
    puts =
        subst (λ x. length (puts_on (link x T Air) later.id later.g (sent ++ ss)) ≡ length later.carried) (sym goes.node)
        (subst (λ i. length (puts_on leg i later.g (sent ++ ss)) ≡ length later.carried) (sym goes.id)
        (subst (λ g. length (puts_on leg h.id g (sent ++ ss)) ≡ length later.carried) (sym goes.g)
        (ap length (puts_append leg h.id h.g sent ss) ∙ length-append (puts_on leg h.id h.g sent) (puts_on leg h.id h.g ss) ∙ ap (λ n. n + length (puts_on leg h.id h.g ss)) put ∙ sym goes.counts)));
    others = subst (λ i. OnlyOf i later.g ss) (sym goes.id) (subst (λ g. OnlyOf h.id g ss) (sym goes.g) goes.others);
  }

pub host_stays : (sent ss : List Send) (h : Host) → NoneOf h.id h.g ss → IsHostPut sent h → IsHostPut (sent ++ ss) h
host_stays sent ss h none put =
    let l = link h.node T Air in
    ap length (puts_append l h.id h.g sent ss ∙ ap (λ zs. puts_on l h.id h.g sent ++ zs) (none l) ∙ append-nil (puts_on l h.id h.g sent)) ∙ put
