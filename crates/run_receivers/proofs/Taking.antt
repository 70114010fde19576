-- PDUs are taken, one or several: what goes up are the next of the submissions.
use Rattle.std.proofs.Common.{ℕ, ◌≡◌, ◌+◌, ◌-◌, ◌^◌, ◌<◌, ◌≤◌, ◌==◌, ◌++◌, ◌⊎◌, List, [], ◌∷◌, Option, Some, None, Bool, false, sym, ap, ◌∙◌, subst, arith, inl, inr, append_assoc}
use Rattle.std.proofs.lemmas.List.{append-nil}
use Rattle.std.proofs.lemmas.Bool.{ne_eqb}
use Rattle.dc_base.specs.Count.{count_for, sn, window}
use Rattle.dc_base.specs.declared.numbers.SnLen.{SnLen}
use Rattle.pdcp_pdu.specs.Pdu.{Content, report, sdu}
use Rattle.pdcp_rx.specs.Entries.{Entry}
use Rattle.pdcp_rx.specs.Receiver.{handed_of, put}
use Rattle.pdcp_rx.specs.declared.entity.RxParts.{RxParts}
use Rattle.pdcp_rx.proofs.Laws.{sent_inferred}
use Rattle.transcript.proofs.OnEach.{each_append, each_weaker}
use Rattle.node_rules.specs.Entity.{Entity, ciphered, direction_to, received_as, received_under, take_pdu, take_pdus}
use Rattle.run_legs.specs.Puts.{IsAmong}
use Rattle.run_legs.proofs.Sends.{among_left, among_right}
use Rattle.run_receivers.specs.Anchors.{IsYoung}
use Rattle.run_receivers.specs.Pdus.{ArePdus, Ciphering, IsFrom, IsPdu, IsPduOf, IsReader, ciphered_by}
use Rattle.run_receivers.specs.Receiving.{HasTaken, IsReceiving, handed_by}
use Rattle.run_receivers.specs.Submitted.{IsSubmission, Submitted}
use Rattle.run_receivers.proofs.Ciphering.{ciphered_twice}
use Rattle.run_receivers.proofs.Fronts.{put_taken}
use Rattle.run_receivers.proofs.Growing.{below_next}

-- ---- taken one after another

among_either : {X : Type 0} (xs ys : List X) (x : X) → IsAmong (xs ++ ys) x → IsAmong xs x ⊎ IsAmong ys x
among_either [] ys x there = inr there
among_either (y ∷ xs) ys x (inl is) = inl (inl is)
among_either (y ∷ xs) ys x (inr more) = elim (among_either xs ys x more) [ inl left ↦ inl (inr left) | inr right ↦ inr right ]

pub taken_none : (u : Submitted) (low : ℕ) (rx : RxParts) → IsReceiving u low rx → HasTaken u low [] rx rx []
taken_none u low rx r = record {
  receiving = r;
  handed = append-nil (handed_by u rx);
  rises = omega arith;
  each = tt;
  grown = λ c got. got;
  came = λ c none. absurd none;
  only = λ c got. inr got;
}

pub taken_again : (u : Submitted) (low : ℕ) (xs ys : List (Option ℕ)) (a b c : RxParts) (ups more : List Entry)
    → HasTaken u low xs a b ups → HasTaken u low ys b c more → HasTaken u low (xs ++ ys) a c (ups ++ more)
taken_again u low xs ys a b c ups more first later =
    let before = first.rises in let after = later.rises in
    record {
      receiving = later.receiving;
      handed = sym (append_assoc (handed_by u a) ups more) ∙ ap (λ (es : List Entry). es ++ more) first.handed ∙ later.handed;
      rises = omega arith;
      each = each_append (λ e. (u.first ≤ e.0) × (e.0 < c.deliv)) ups more
          (each_weaker (λ e. (u.first ≤ e.0) × (e.0 < b.deliv)) (λ e. (u.first ≤ e.0) × (e.0 < c.deliv))
          (λ e both. (both.0, omega (arith, both.1))) ups first.each) later.each;
      grown = λ d got. later.grown d (first.grown d got);
      came = λ d there. elim (among_either xs ys (Some d) there) [ inl left ↦ later.grown d (first.came d left) | inr right ↦ later.came d right ];
      only = λ d got. elim (later.only d got) [
        | inl right ↦ inl (among_right xs ys (Some d) right)
        | inr before' ↦ elim (first.only d before') [ inl left ↦ inl (among_left xs ys (Some d) left) | inr old ↦ inr old ]
      ];
    }

-- ---- one PDU

module _ (u : Submitted) (low : ℕ) (k : Ciphering) (e : Entity) (r : IsReceiving u low e.rx) (reader : IsReader u k e.setup) where
  -- what the node makes of a ciphered payload
  abbrev with_payload : ℕ → List ℕ → Entity × List Entry
  with_payload c p = let done = put e.rx c p in (record e { rx = done.0 }, handed_of done.1)

  data_is : (tag : ℕ) (p : List ℕ) → IsSubmission u (tag, p) → e.rx.deliv ≤ tag + window u.n
      → take_pdu e (sdu (sn u.n tag) (ciphered_by k tag p)) ≡ with_payload tag p
  data_is tag p s young =
      let below = below_next u (tag, p) s in
      let small = r.small in let above = r.above in let near = r.near in
      let body = ciphered_by k tag p in
      let inferred : count_for e.setup.n e.rx.deliv (sn u.n tag) ≡ Some tag =
      ap (λ (n : SnLen). count_for n e.rx.deliv (sn u.n tag)) reader.same_n ∙ sent_inferred u.n e.rx.deliv tag (omega arith) young (omega arith) in
      let not_last : (tag == 2 ^ 32 - 1) ≡ false = ne_eqb tag (2 ^ 32 - 1) (λ same. omega arith) in
      let clear : ciphered e.setup (direction_to e.setup.node) tag body ≡ p =
      ap (λ (j : Ciphering). ciphered_by j tag body) reader.same_key ∙ ciphered_twice k tag p in
      ap {B = Entity × List Entry} (λ (o : Option ℕ). let done = received_as e.setup e.rx body o in (record e { rx = done.0 }, done.1)) inferred
      ∙ ap {B = Entity × List Entry} (λ (b : Bool). let done = received_under b e.setup e.rx tag body in (record e { rx = done.0 }, done.1)) not_last
      ∙ ap (with_payload tag) clear

  -- the data PDU of a submission, which is not aged
  pub data_taken : (tag : ℕ) (x : Content) → IsPduOf u k tag x → e.rx.deliv ≤ tag + window u.n
      → HasTaken u low (Some tag ∷ []) e.rx (take_pdu e x).0.rx (take_pdu e x).1
  data_taken tag x p young =
      let Q : Entity × List Entry → Type 0 = λ done. HasTaken u low (Some tag ∷ []) e.rx done.0.rx done.1 in
      let is : take_pdu e x ≡ with_payload tag p.payload = ap (take_pdu e) p.is ∙ data_is tag p.payload p.submission young in
      subst Q (sym is) (put_taken u low e.rx r tag p.payload p.submission)

  -- a status report
  pub report_taken : (fmc : ℕ) (bits : List ℕ) → HasTaken u low (None ∷ []) e.rx (take_pdu e (report fmc bits)).0.rx (take_pdu e (report fmc bits)).1
  report_taken fmc bits = record {
    receiving = r;
    handed = append-nil (handed_by u e.rx);
    rises = omega arith;
    each = tt;
    grown = λ c got. got;
    came = λ c there. elim there [ inl is ↦ absurd cc | inr none ↦ absurd none ];
    only = λ c got. inr got;
  }

  -- any PDU that is not aged
  pub young_taken : (tag : Option ℕ) (x : Content) → IsPdu u k tag x → IsYoung u e.rx tag → HasTaken u low (tag ∷ []) e.rx (take_pdu e x).0.rx (take_pdu e x).1
  young_taken (Some tag) x p young = data_taken tag x p young
  young_taken None (sdu sn body) p young = absurd p
  young_taken None (report fmc bits) p young = report_taken fmc bits

  -- any PDU that is not below Low
  pub pdu_taken : (tag : Option ℕ) (x : Content) → IsPdu u k tag x → IsFrom low tag → HasTaken u low (tag ∷ []) e.rx (take_pdu e x).0.rx (take_pdu e x).1
  pdu_taken (Some tag) x p from = let upto = r.upto in let near = r.near in data_taken tag x p (omega (arith, from))
  pdu_taken None (sdu sn body) p from = absurd p
  pdu_taken None (report fmc bits) p from = report_taken fmc bits

-- ---- several

-- the node reads on as it did
pub reader_stays : (u : Submitted) (k : Ciphering) (e : Entity) (x : Content) → IsReader u k e.setup → IsReader u k (take_pdu e x).0.setup
reader_stays u k e (sdu sn body) reader = record { same_n = reader.same_n; same_key = reader.same_key }
reader_stays u k e (report fmc bits) reader = record { same_n = reader.same_n; same_key = reader.same_key }

pub readers_stay : (u : Submitted) (k : Ciphering) (e : Entity) (xs : List Content) → IsReader u k e.setup → IsReader u k (take_pdus e xs).0.setup
readers_stay u k e [] reader = reader
readers_stay u k e (x ∷ xs) reader = readers_stay u k (take_pdu e x).0 xs (reader_stays u k e x reader)

-- PDUs in any order, none of which is below Low
pub pdus_taken : (u : Submitted) (low : ℕ) (k : Ciphering) (e : Entity) → IsReceiving u low e.rx → IsReader u k e.setup
    → (tags : List (Option ℕ)) (xs : List Content) → ArePdus u k low tags xs
    → HasTaken u low tags e.rx (take_pdus e xs).0.rx (take_pdus e xs).1
pdus_taken u low k e r reader [] [] all = taken_none u low e.rx r
pdus_taken u low k e r reader [] (x ∷ xs) all = absurd all
pdus_taken u low k e r reader (tag ∷ tags) [] all = absurd all
pdus_taken u low k e r reader (tag ∷ tags) (x ∷ xs) all =
    let here = take_pdu e x in
    let first = pdu_taken u low k e r reader tag x all.0 all.1 in
    taken_again u low (tag ∷ []) tags e.rx here.0.rx (take_pdus here.0 xs).0.rx here.1 (take_pdus here.0 xs).1 first
    (pdus_taken u low k here.0 first.receiving (reader_stays u k e x reader) tags xs all.2)
