-- What was submitted stays so when more is, and a receiving entity is as right as it was.
use Rattle.std.proofs.Common.{ℕ, ◌≡◌, ◌+◌, ◌-◌, ◌^◌, ◌<◌, ◌≤◌, List, [], ◌∷◌, Option, Some, None, refl, ap, arith}
use Rattle.std.proofs.lemmas.List.{length-append, take-append-le}
use Rattle.std.proofs.lemmas.Option.{slice_get_within}
use Rattle.dc_base.specs.Count.{window}
use Rattle.dc_base.specs.declared.numbers.SnLen.{SnLen}
use Rattle.pdcp_pdu.specs.DataPdu.{IsPayload}
use Rattle.pdcp_pdu.specs.Pdu.{Content, report, sdu}
use Rattle.pdcp_rx.specs.Entries.{Entry}
use Rattle.pdcp_rx.specs.Receiver.{IsInOrder}
use Rattle.pdcp_rx.specs.declared.entity.RxParts.{RxParts}
use Rattle.transcript.specs.Bearers.{numbered}
use Rattle.transcript.proofs.OnEach.{each_append, each_weaker}
use Rattle.master_runs.proofs.Lists.{slice_get_left}
use Rattle.run_receivers.specs.Pdus.{ArePdus, Ciphering, IsPdu, IsPduIn, IsPduOf}
use Rattle.run_receivers.specs.Receiving.{IsReceiving, handed_by}
use Rattle.run_receivers.specs.Submitted.{IsSubmission, Submitted, next_of, with_more}

-- the COUNT of a submission is below the next one
pub below_next : (u : Submitted) (e : Entry) → IsSubmission u e → e.0 < next_of u
below_next u e s = let from = s.from in let within = slice_get_within u.payloads (e.0 - u.first) e.1 s.payload in omega arith

-- a receiving entity that is right is in order
pub in_order : (u : Submitted) (low : ℕ) (rx : RxParts) → IsReceiving u low rx → IsInOrder rx
in_order u low rx r =
    let same : window rx.n ≡ window u.n = ap window r.same_n in
    let small = r.small in let above = r.above in let near = r.near in
    record {
      ascends = r.ascends;
      in_window = each_weaker (IsSubmission u) (λ e. e.0 < rx.deliv + window rx.n) (λ e s. let below = below_next u e s in omega arith) rx.stored r.stored;
      not_last = each_weaker (IsSubmission u) (λ e. e.0 < 2 ^ 32 - 1) (λ e s. let below = below_next u e s in omega arith) rx.stored r.stored;
    }

-- nothing was submitted yet
pub fresh_receiving : (n : SnLen) (first : ℕ) → first ≤ 2 ^ 32 - 1
    → IsReceiving (record { n = n; first = first; payloads = [] }) first (record { n = n; deliv = first; stored = [] })
fresh_receiving n first small = record {
  same_n = refl;
  payloads = tt;
  small = omega arith;
  from = omega arith;
  above = omega arith;
  upto = omega arith;
  near = omega arith;
  ascends = tt;
  stored = tt;
}

-- ---- more is submitted

pub submission_later : (u : Submitted) (more : List (List ℕ)) (e : Entry) → IsSubmission u e → IsSubmission (with_more u more) e
submission_later u more e s = record { from = s.from; payload = slice_get_left u.payloads more (e.0 - u.first) e.1 s.payload }

pub receiving_more : (u : Submitted) (low : ℕ) (rx : RxParts) (p : List ℕ) → IsReceiving u low rx → IsPayload p → next_of u < low + window u.n
    → next_of u < 2 ^ 32 - 1
    → IsReceiving (with_more u (p ∷ [])) low rx
receiving_more u low rx p r good room left =
    let longer = length-append u.payloads (p ∷ []) in let upto = r.upto in
    record {
      same_n = r.same_n;
      payloads = each_append IsPayload u.payloads (p ∷ []) r.payloads (good, tt);
      small = omega arith;
      from = r.from;
      above = r.above;
      upto = omega arith;
      near = omega arith;
      ascends = r.ascends;
      stored = each_weaker (IsSubmission u) (IsSubmission (with_more u (p ∷ []))) (submission_later u (p ∷ [])) rx.stored r.stored;
    }

-- what was handed up is what it was
pub handed_later : (u : Submitted) (low : ℕ) (more : List (List ℕ)) (rx : RxParts) → IsReceiving u low rx → handed_by (with_more u more) rx ≡ handed_by u rx
handed_later u low more rx r =
    let upto = r.upto in
    ap (numbered u.first) (take-append-le (rx.deliv - u.first) u.payloads more (omega arith))

pub pdu_later : (u : Submitted) (k : Ciphering) (more : List (List ℕ)) (tag : ℕ) (x : Content) → IsPduOf u k tag x → IsPduOf (with_more u more) k tag x
pdu_later u k more tag x p = record { payload = p.payload; submission = submission_later u more (tag, p.payload) p.submission; is = p.is }

pub any_pdu_later : (u : Submitted) (k : Ciphering) (more : List (List ℕ)) (tag : Option ℕ) (x : Content) → IsPdu u k tag x → IsPdu (with_more u more) k tag x
any_pdu_later u k more (Some tag) x p = pdu_later u k more tag x p
any_pdu_later u k more None (sdu sn body) p = p
any_pdu_later u k more None (report fmc bits) p = tt

pub octets_later : (u : Submitted) (k : Ciphering) (more : List (List ℕ)) (tag : Option ℕ) (octets : List ℕ) → IsPduIn u k tag octets
    → IsPduIn (with_more u more) k tag octets
octets_later u k more tag octets p = record { content = p.content; read = p.read; is = any_pdu_later u k more tag p.content p.is }

pub pdus_later : (u : Submitted) (k : Ciphering) (low : ℕ) (more : List (List ℕ)) (tags : List (Option ℕ)) (xs : List Content) → ArePdus u k low tags xs
    → ArePdus (with_more u more) k low tags xs
pdus_later u k low more [] [] all = tt
pdus_later u k low more [] (x ∷ xs) all = all
pdus_later u k low more (tag ∷ tags) [] all = all
pdus_later u k low more (tag ∷ tags) (x ∷ xs) all = (any_pdu_later u k more tag x all.0, all.1, pdus_later u k low more tags xs all.2)

-- ---- Low rises

pub receiving_higher : (u : Submitted) (low higher : ℕ) (rx : RxParts) → IsReceiving u low rx → low ≤ higher → higher ≤ rx.deliv → IsReceiving u higher rx
receiving_higher u low higher rx r le above =
    let from = r.from in let near = r.near in
    record {
      same_n = r.same_n;
      payloads = r.payloads;
      small = r.small;
      from = omega arith;
      above = above;
      upto = r.upto;
      near = omega arith;
      ascends = r.ascends;
      stored = r.stored;
    }
