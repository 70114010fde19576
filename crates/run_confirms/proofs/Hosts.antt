-- The host of a leg, step by step: it has what was sent in the tunnel, numbers it on its leg, and tells the anchor the truth.
use Rattle.std.proofs.Common.{◌≡◌, ℕ, ◌++◌, ◌≤◌, ◌^◌, ◌∷◌, [], true, false, Bool, List, Option, Result, Ok, Err, Some, None, length, map, refl, sym, ap, ◌∙◌, subst, inl, inr, arith}
use Rattle.std.specs.Prelude.{IfSome, option_map, slice_get}
use Rattle.std.specs.List.{AllByRecursion}
use Rattle.std.specs.Option.{IsSomeAnd}
use Rattle.std.specs.Ordering.{nat_cmp}
use Rattle.std.specs.BTreeMap.{insert_entry}
use Rattle.std.specs.BTreeSet.{insert_key}
use Rattle.std.proofs.lemmas.Bool.{cases_Bool}
use Rattle.std.proofs.lemmas.List.{append-nil, map-append}
use Rattle.std.proofs.lemmas.Option.{slice_get-map}
use Rattle.dc_base.specs.declared.nodes.Node.{Node}
use Rattle.dc_base.specs.declared.numbers.SnLen.{SnLen}
use Rattle.nr_u.specs.declared.tunnel.inbound.Arrival.{Arrival}
use Rattle.nr_u.specs.declared.tunnel.outbound.Sent.{Sent}
use Rattle.nr_u.specs.Tunnel.Delivery.{status_of, tag_of}
use Rattle.nr_u.specs.Tunnel.Ends.{FirstSendsRise}
use Rattle.nr_u.specs.Tunnel.Incoming.{Incoming, Numbered, has, with_ack, with_arrival}
use Rattle.nr_u.proofs.ByNumber.{cmp_tells, has-insert}
use Rattle.pdcp_pdu.specs.Pdu.{Content}
use Rattle.pdcp_pdu.specs.declared.pdu.PduErr.{PduErr}
use Rattle.node_rules.specs.Choices.{Send}
use Rattle.node_rules.specs.Host.{Host, new_host}
use Rattle.node_rules.specs.HostRules.{confirmed, pdu_came, sn_in}
use Rattle.run_legs.proofs.Sends.{each_more}
use Rattle.run_confirms.specs.Arrivals.{CameAs, HasCome}
use Rattle.run_confirms.specs.Hosts.{HostHas, IsNumberedOn, SendsStatus, Shows, WasSent, host_leg}
use Rattle.run_confirms.specs.Statuses.{FirstsBelow, IsAckOf, Stays, count_under}
use Rattle.run_confirms.proofs.Arrivals.{ack_kept, arrival_kept, come_lasts, each_with, has_one, says_truth, status_fits}
use Rattle.run_confirms.proofs.Statuses.{get_front, get_last}

-- a new host, of a tunnel in which anything was sent
pub host_new : (tun : List Sent) (received : ℕ → Type 0) (node anchor : Node) (g id : ℕ) (n : SnLen) → HostHas tun received (new_host node anchor g id n)
host_new tun received node anchor g id n = record { come = record { ascends = tt; sent = tt; acked = tt }; carried = tt }

-- more is sent in the tunnel, and more is received
pub host_lasts : (tun more : List Sent) (received later : ℕ → Type 0) (h : Host) → Stays received later → HostHas tun received h → HostHas (tun ++ more) later h
host_lasts tun more received later h stays is = record { come = come_lasts tun more received later h.tunnel stays is.come; carried = is.carried }

-- what is on its leg has the COUNTs that it had
pub host_leg_lasts : (tun more : List Sent) (received : ℕ → Type 0) (h : Host) → HostHas tun received h → host_leg (tun ++ more) h ≡ host_leg tun h
host_leg_lasts tun more received h is = by h.carried is.carried
  where
    one : (number : ℕ) → has number h.tunnel.came ≡ true → count_under (tun ++ more) number ≡ count_under tun number
    one number there =
        let came = has_one (λ (a : Numbered). IsSomeAnd (slice_get tun a.0) (CameAs h.tunnel.n a.1)) number h.tunnel.came is.come.sent there in
        sent_still (CameAs h.tunnel.n came.0) (slice_get tun number) refl came.1
      where
        sent_still : (P : Sent → Type 0) (o : Option Sent) → slice_get tun number ≡ o → IsSomeAnd o P
            → count_under (tun ++ more) number ≡ count_under tun number
        sent_still P None at holds = absurd holds
        sent_still P (Some s) at holds = rw (get_front tun more number s at, at) refl

    by : (numbers : List ℕ) → AllByRecursion (λ number. has number h.tunnel.came ≡ true) numbers
        → map (count_under (tun ++ more)) numbers ≡ map (count_under tun) numbers
    by [] all = refl
    by (number ∷ numbers) all = rw (one number all.0, by numbers all.1) refl

-- ---- a PDU comes through the tunnel

has_new : (k : ℕ) (a : Arrival) (es : List Numbered) → has k (insert_entry nat_cmp es k a) ≡ true
has_new k a [] = grind (arith, cmp_tells k k)
has_new k a (e ∷ es) = grind (arith, cmp_tells k e.0, cmp_tells k k, has_new k a es)

pub host_came : (tun : List Sent) (received : ℕ → Type 0) (h : Host) (number : ℕ) (repeat : Bool) (tag : Option ℕ) (pdu : List ℕ) (x : Result Content PduErr)
    → WasSent tun number repeat tag → Shows h.tunnel.n tag x → HostHas tun received h → HostHas tun received (pdu_came h number repeat tag pdu x).0
host_came tun received h number repeat tag pdu (Err e) sent shows is = is
host_came tun received h number repeat tag pdu (Ok c) sent shows is =
    elim (cases_Bool (has number h.tunnel.came)) [
      | inl came ↦ rw came is
      | inr new ↦ rw new (record {
        come = let a : Arrival = record { sn = sn_in c; repeat = repeat; tag = tag } in
            let as_sent : IsSomeAnd (slice_get tun number) (CameAs h.tunnel.n a) = rw sent ((refl, shows), refl) in
            subst (λ (i : Incoming). HasCome tun received i) (came_new a new) (arrival_kept tun received h.tunnel number a as_sent is.come);
        carried = each_more (λ k. has k (insert_entry nat_cmp h.tunnel.came number (record { sn = sn_in c; repeat = repeat; tag = tag })) ≡ true) h.carried (number ∷ [])
            (each_with (λ k. has k h.tunnel.came ≡ true) (λ k. has k (insert_entry nat_cmp h.tunnel.came number (record { sn = sn_in c; repeat = repeat; tag = tag })) ≡ true) h.carried is.carried
            (λ k there. has-insert k number (record { sn = sn_in c; repeat = repeat; tag = tag }) h.tunnel.came there))
            (has_new number (record { sn = sn_in c; repeat = repeat; tag = tag }) h.tunnel.came, tt);
      })
    ]
  where
    came_new : (a : Arrival) → has number h.tunnel.came ≡ false
        → with_arrival h.tunnel number a ≡ record h.tunnel { came = insert_entry nat_cmp h.tunnel.came number a; unacked = insert_key nat_cmp h.tunnel.unacked number }
    came_new a new = rw new refl

-- its leg grows behind
pub host_leg_grows : (tun : List Sent) (h : Host) (number : ℕ) (repeat : Bool) (tag : Option ℕ) (pdu : List ℕ) (x : Result Content PduErr)
    → (more : List (Option ℕ)) × (host_leg tun (pdu_came h number repeat tag pdu x).0 ≡ host_leg tun h ++ more)
host_leg_grows tun h number repeat tag pdu (Err e) = ([], sym (append-nil (host_leg tun h)))
host_leg_grows tun h number repeat tag pdu (Ok c) =
    elim (cases_Bool (has number h.tunnel.came)) [
      | inl came ↦ ([], rw came (sym (append-nil (host_leg tun h))))
      | inr new ↦ (count_under tun number ∷ [], rw new (map-append (count_under tun) h.carried (number ∷ [])))
    ]

-- what it puts on the leg has its number there
pub host_puts : (tun : List Sent) (received : ℕ → Type 0) (h : Host) (number : ℕ) (repeat : Bool) (tag : Option ℕ) (pdu : List ℕ) (x : Result Content PduErr)
    → WasSent tun number repeat tag
    → let done = pdu_came h number repeat tag pdu x in AllByRecursion (λ (s : Send). IsNumberedOn h.id h.g (host_leg tun done.0) s.1) done.1
host_puts tun received h number repeat tag pdu (Err e) sent = tt
host_puts tun received h number repeat tag pdu (Ok c) sent =
    elim (cases_Bool (has number h.tunnel.came)) [
      | inl came ↦ rw came tt
      | inr new ↦
          let last : slice_get (h.carried ++ number ∷ []) (length h.carried) ≡ Some number = get_last h.carried number in
          let under : count_under tun number ≡ tag = rw sent refl in
          rw new ((refl, refl, slice_get-map (count_under tun) (h.carried ++ number ∷ []) (length h.carried) ∙ ap (option_map (count_under tun)) last ∙ ap Some under), tt)
    ]

-- ---- an ack comes over the air

acked_number : (tun : List Sent) (received : ℕ → Type 0) (h : Host) (num number : ℕ) → slice_get h.carried num ≡ Some number
    → IsAckOf (host_leg tun h) received num → IfSome (count_under tun number) received
acked_number tun received h num number at acks =
    let there : slice_get (host_leg tun h) num ≡ Some (count_under tun number) = slice_get-map (count_under tun) h.carried num ∙ ap (option_map (count_under tun)) at in
    subst (λ (o : Option (Option ℕ)). IsSomeAnd o (λ tag. IfSome tag received)) there acks

pub host_confirmed : (tun : List Sent) (received : ℕ → Type 0) (h : Host) (num : ℕ) → IsAckOf (host_leg tun h) received num → HostHas tun received h
    → HostHas tun received (confirmed h (slice_get h.carried num)).0
host_confirmed tun received h num acks is = by (slice_get h.carried num) refl
  where
    by : (o : Option ℕ) → slice_get h.carried num ≡ o → HostHas tun received (confirmed h o).0
    by None at = is
    by (Some number) at = record { come = ack_kept tun received h.tunnel number (acked_number tun received h num number at acks) is.come; carried = is.carried }

-- its leg stays
pub host_leg_stays : (tun : List Sent) (h : Host) (num : ℕ) → host_leg tun (confirmed h (slice_get h.carried num)).0 ≡ host_leg tun h
host_leg_stays tun h num = by (slice_get h.carried num)
  where
    by : (o : Option ℕ) → host_leg tun (confirmed h o).0 ≡ host_leg tun h
    by None = refl
    by (Some number) = refl

-- the delivery status that it sends says the truth
pub host_says : (tun : List Sent) (received : ℕ → Type 0) (h : Host) (num : ℕ) → FirstSendsRise tun → FirstsBelow (2 ^ 32) tun → length tun ≤ 2 ^ 24
    → IsAckOf (host_leg tun h) received num → HostHas tun received h
    → AllByRecursion (SendsStatus tun received h) (confirmed h (slice_get h.carried num)).1
host_says tun received h num rise small short acks is = by (slice_get h.carried num) refl
  where
    by : (o : Option ℕ) → slice_get h.carried num ≡ o → AllByRecursion (SendsStatus tun received h) (confirmed h o).1
    by None at = tt
    by (Some number) at =
        let kept = ack_kept tun received h.tunnel number (acked_number tun received h num number at acks) is.come in (
          record {
            tag = tag_of (with_ack h.tunnel number);
            status = status_of (with_ack h.tunnel number);
            is = refl;
            truth = says_truth tun received (with_ack h.tunnel number) rise small kept;
            fits = status_fits tun received (with_ack h.tunnel number) short kept;
          },
          tt,
        )
