-- What each step of an active anchor makes of the submissions that have yet to come to it.
use Rattle.std.proofs.Common.{Err, Bool, List, None, Ok, Option, Result, Some, [], false, not, refl, sym, ap, subst, arith, true, ℕ, inl, inr, ◌+◌, ◌++◌, ◌-◌, ◌<◌, ◌≡◌, ◌≤◌, ◌∷◌, ◌∙◌, ◌^◌, ◌==◌, length, append_assoc}
use Rattle.std.specs.List.{AllByRecursion, enumerate_from, filter, range_with_len}
use Rattle.std.specs.Prelude.{slice_get}
use Rattle.std.proofs.lemmas.Bool.{cases_Bool}
use Rattle.std.proofs.lemmas.List.{length-append}
use Rattle.dc_base.specs.Count.{window}
use Rattle.pdcp_pdu.specs.Bitmap.{names}
use Rattle.pdcp_pdu.specs.Pdu.{Content, report, sdu}
use Rattle.pdcp_tx.specs.Sender.{Entry, Sender, least, low}
use Rattle.pdcp_tx.specs.Sending.{give_numbers, hold_sdu, take_sdu}
use Rattle.pdcp_tx.specs.declared.tx.TxErr.{TxErr}
use Rattle.pdcp_tx.proofs.Entries.{Rises-enumerated, Rises-filter}
use Rattle.pdcp_tx.proofs.Laws.{low-give_numbers, low-take_sdu}
use Rattle.pdcp_tx.proofs.Rules.{give_numbers-ok, take_sdu-ok}
use Rattle.transcript.proofs.OnEach.{each_append, each_weaker}
use Rattle.master_runs.proofs.Lists.{each_filter, slice_get_left, slice_get_right}
use Rattle.node_rules.specs.Anchor.{Active}
use Rattle.node_rules.specs.AnchorSending.{anchor_recovers, open_if, opens, recover_at, report_at, submit_as, submit_at, with_failure, with_numbers}
use Rattle.node_rules.specs.Choices.{Choices}
use Rattle.node_rules.specs.Entity.{Entity, confirmed_count, confirmed_where, take_pdu, take_pdus}
use Rattle.run_receivers.specs.Submitted.{IsSubmission, Submitted, next_of, with_more}
use Rattle.run_ordered.specs.Fronts.{HasFront, IsFront}

-- ---- submissions in their order

-- payloads behind others were submitted under the COUNTs that follow
given_are : (u : Submitted) (before ps later : List (List ℕ)) → u.payloads ≡ before ++ (ps ++ later) → AllByRecursion (IsSubmission u) (enumerate_from (u.first + length before) ps)
given_are u before [] later all = tt
given_are u before (p ∷ ps) later all =
    let place : length before + 0 ≡ u.first + length before - u.first = omega arith in
    let there = slice_get_right before (p ∷ (ps ++ later)) 0 p refl in
    let longer = length-append before (p ∷ []) in
    let next : u.first + length (before ++ p ∷ []) ≡ u.first + length before + 1 = omega arith in (
      record {
        from = omega arith;
        payload = subst (λ xs. slice_get xs (u.first + length before - u.first) ≡ Some p) (sym all) (subst (λ i. slice_get (before ++ p ∷ (ps ++ later)) i ≡ Some p) place there);
      },
      subst (λ k. AllByRecursion (IsSubmission u) (enumerate_from k ps)) next (given_are u (before ++ p ∷ []) ps later (all ∙ sym (append_assoc before (p ∷ []) (ps ++ later)))),
    )

-- what is left of these has no lower Low
pub least_without : (test : Entry → Bool) (next : ℕ) (es : List Entry) → least next es ≤ least next (filter test es)
least_without test next [] = omega arith
least_without test next (e ∷ es) =
    let rest = least_without test next es in
    elim (cases_Bool (test e)) [ inl yes' ↦ rw yes' (omega arith) | inr no' ↦ rw no' (omega arith) ]

-- ---- Low does not fall

pub pdu_rises : (e : Entity) (x : Content) → low e.tx ≤ low (take_pdu e x).0.tx
pdu_rises e (sdu s body) = omega arith
pdu_rises e (report fmc bits) = least_without (λ (x : Entry). not (names fmc bits x.0)) e.tx.next e.tx.kept

pub pdus_rise : (e : Entity) (xs : List Content) → low e.tx ≤ low (take_pdus e xs).0.tx
pdus_rise e [] = omega arith
pdus_rise e (x ∷ xs) = let one = pdu_rises e x in let more = pdus_rise (take_pdu e x).0 xs in omega arith

pub submit_rises : (c : Choices) (t : Bool) (a : Active) (p : List ℕ) → low a.entity.tx ≤ low (submit_at t c a p).0.entity.tx
submit_rises c false a p = omega arith
submit_rises c true a p = by (take_sdu a.entity.tx p) refl
  where
    by : (r : Result (Sender × ℕ) TxErr) → take_sdu a.entity.tx p ≡ r → low a.entity.tx ≤ low (submit_as c a p r).0.entity.tx
    by (Ok (tx, count)) is = low-take_sdu a.entity.tx tx p count is
    by (Err e) is = omega arith

pub open_rises : (c : Choices) (t : Bool) (a : Active) → low a.entity.tx ≤ low (open_if t c a).0.entity.tx
open_rises c false a = omega arith
open_rises c true a = by (give_numbers a.entity.tx) refl
  where
    by : (r : Result (Sender × List ℕ) TxErr) → give_numbers a.entity.tx ≡ r → low a.entity.tx ≤ low (with_numbers c (anchor_recovers c (record a { is_open = true })).0 r).0.entity.tx
    by (Ok (tx, given)) is = low-give_numbers a.entity.tx tx given is
    by (Err e) is = omega arith

module _ (u : Submitted) where
  -- how many submissions there are
  pub length_is : (rest : List (List ℕ)) (is_open : Bool) (tx : Sender) (f : IsFront u rest is_open tx) → next_of u ≡ u.first + length f.given + (length tx.held + length rest)
  length_is rest is_open tx f =
      let one = length-append f.given (tx.held ++ rest) in
      let two = length-append tx.held rest in
      let all : length u.payloads ≡ length (f.given ++ (tx.held ++ rest)) = ap length f.all in
      omega arith

  -- the next COUNT is at most a window past Low
  pub front_near : (rest : List (List ℕ)) (is_open : Bool) (tx : Sender) → IsFront u rest is_open tx → tx.next ≤ low tx + window u.n
  front_near rest is_open tx f = let len = length_is rest is_open tx f in let next = f.next in let room = f.room in omega arith

  -- ---- a sending entity

  -- it waits for its COUNT
  pub held_front : (rest : List (List ℕ)) (p : List ℕ) (tx : Sender) → IsFront u (p ∷ rest) false tx → IsFront u rest false (hold_sdu tx p)
  held_front rest p tx f = record {
    same_n = f.same_n;
    given = f.given;
    next = f.next;
    all = f.all ∙ ap (λ (xs : List (List ℕ)). f.given ++ xs) (sym (append_assoc tx.held (p ∷ []) rest));
    rises = f.rises;
    kept = f.kept;
    room = f.room;
    small = f.small;
    none_held = λ is. absurd cc;
  }

  -- it is numbered
  numbered_front : (rest : List (List ℕ)) (p : List ℕ) (tx : Sender) → IsFront u (p ∷ rest) true tx
      → IsFront u rest true (record tx { next = tx.next + 1; kept = tx.kept ++ (tx.next, p) ∷ [] })
  numbered_front rest p tx f =
      let none = f.none_held refl in
      let all : u.payloads ≡ f.given ++ (p ∷ rest) = f.all ∙ ap (λ (xs : List (List ℕ)). f.given ++ (xs ++ p ∷ rest)) none in
      let longer = length-append f.given (p ∷ []) in
      let next = f.next in
      let room = f.room in
      let len = length_is (p ∷ rest) true tx f in
      let same : window tx.n ≡ window u.n = ap window f.same_n in
      let ok = take_sdu-ok tx p (omega arith) (λ last. let small = f.small in omega arith) in
      let risen = low-take_sdu tx (record tx { next = tx.next + 1; kept = tx.kept ++ (tx.next, p) ∷ [] }) p tx.next ok in
      record {
        same_n = f.same_n;
        given = f.given ++ p ∷ [];
        next = omega arith;
        all = all ∙ sym (append_assoc f.given (p ∷ []) rest) ∙ ap (λ (xs : List (List ℕ)). (f.given ++ p ∷ []) ++ (xs ++ rest)) (sym none);
        rises = Rises-enumerated u.first tx.next tx.kept (p ∷ []) f.rises;
        kept = each_append (IsSubmission u) tx.kept ((tx.next, p) ∷ []) f.kept
            (subst (λ k. AllByRecursion (IsSubmission u) ((k, p) ∷ [])) (sym next) (given_are u f.given (p ∷ []) rest all));
        room = omega arith;
        small = f.small;
        none_held = λ is. none;
      }

  -- an SDU comes
  pub submit_front : (c : Choices) (rest : List (List ℕ)) (p : List ℕ) (a : Active) → HasFront u (p ∷ rest) a → HasFront u rest (submit_at a.is_open c a p).0
  submit_front c rest p a f = by a.is_open refl
    where
      tx : Sender
      tx = a.entity.tx

      taken : IsFront u (p ∷ rest) true tx → take_sdu tx p ≡ Ok (record tx { next = tx.next + 1; kept = tx.kept ++ (tx.next, p) ∷ [] }, tx.next)
      taken g =
          let len = length_is (p ∷ rest) true tx g in
          let next = g.next in
          let room = g.room in
          let small = g.small in
          let same : window tx.n ≡ window u.n = ap window g.same_n in
          take_sdu-ok tx p (omega arith) (λ last. omega arith)

      by : (t : Bool) → a.is_open ≡ t → HasFront u rest (submit_at t c a p).0
      by false shut = record {
        same_n = f.same_n;
        front = subst (λ b. IsFront u rest b (hold_sdu tx p)) (sym shut) (held_front rest p tx (subst (λ b. IsFront u (p ∷ rest) b tx) shut f.front));
      }
      by true open' =
          let g = subst (λ b. IsFront u (p ∷ rest) b tx) open' f.front in
          subst (λ (r : Result (Sender × ℕ) TxErr). HasFront u rest (submit_as c a p r).0) (sym (taken g))
          (record { same_n = f.same_n; front = subst (λ b. IsFront u rest b (record tx { next = tx.next + 1; kept = tx.kept ++ (tx.next, p) ∷ [] })) (sym open') (numbered_front rest p tx g) })

  -- all that is held has COUNTs
  given_front : (rest : List (List ℕ)) (is_open : Bool) (tx : Sender) → IsFront u rest is_open tx
      → (give_numbers tx ≡ Ok (record tx { next = tx.next + length tx.held; kept = tx.kept ++ enumerate_from tx.next tx.held; held = [] }, range_with_len tx.next (length tx.held)))
      × IsFront u rest true (record tx { next = tx.next + length tx.held; kept = tx.kept ++ enumerate_from tx.next tx.held; held = [] })
  given_front rest is_open tx f =
      let len = length_is rest is_open tx f in
      let next = f.next in
      let room = f.room in
      let small = f.small in
      let same : window tx.n ≡ window u.n = ap window f.same_n in
      let ok = give_numbers-ok tx (omega arith) (omega arith) in
      let longer = length-append f.given tx.held in
      let risen = low-give_numbers tx (record tx { next = tx.next + length tx.held; kept = tx.kept ++ enumerate_from tx.next tx.held; held = [] }) (range_with_len tx.next (length tx.held)) ok in (
        ok,
        record {
          same_n = f.same_n;
          given = f.given ++ tx.held;
          next = omega arith;
          all = f.all ∙ sym (append_assoc f.given tx.held rest);
          rises = Rises-enumerated u.first tx.next tx.kept tx.held f.rises;
          kept = each_append (IsSubmission u) tx.kept (enumerate_from tx.next tx.held) f.kept
              (subst (λ k. AllByRecursion (IsSubmission u) (enumerate_from k tx.held)) (sym next) (given_are u f.given tx.held rest f.all));
          room = omega arith;
          small = f.small;
          none_held = λ is. refl;
        },
      )

  -- it opens
  pub opening_front : (c : Choices) (rest : List (List ℕ)) (a : Active) → HasFront u rest a → HasFront u rest (opens c a).0
  opening_front c rest a f =
      let again = anchor_recovers c (record a { is_open = true }) in
      let done = given_front rest a.is_open a.entity.tx f.front in
      subst (λ (r : Result (Sender × List ℕ) TxErr). HasFront u rest (with_numbers c again.0 r).0) (sym done.0) (record { same_n = f.same_n; front = done.1 })

  pub open_if_front : (c : Choices) (rest : List (List ℕ)) (t : Bool) (a : Active) → HasFront u rest a → HasFront u rest (open_if t c a).0
  open_if_front c rest true a f = opening_front c rest a f
  open_if_front c rest false a f = f

  -- ---- what leaves it as it is

  pub recovery_front : (c : Choices) (rest : List (List ℕ)) (t : Bool) (a : Active) → HasFront u rest a → HasFront u rest (recover_at t c a).0
  recovery_front c rest true a f = record { same_n = f.same_n; front = f.front }
  recovery_front c rest false a f = f

  pub failure_front : (c : Choices) (rest : List (List ℕ)) (a : Active) → HasFront u rest a → HasFront u rest (recover_at a.is_open c (record a { entity = with_failure a.entity })).0
  failure_front c rest a f = recovery_front c rest a.is_open (record a { entity = with_failure a.entity }) (record { same_n = f.same_n; front = f.front })

  pub report_front : (c : Choices) (rest : List (List ℕ)) (t : Bool) (a : Active) → HasFront u rest a → HasFront u rest (report_at t c a).0
  report_front c rest true a f = record { same_n = f.same_n; front = f.front }
  report_front c rest false a f = f

  -- ---- confirming

  pub confirmed_front : (rest : List (List ℕ)) (is_open : Bool) (test : ℕ → Bool) (e : Entity) → IsFront u rest is_open e.tx → IsFront u rest is_open (confirmed_where test e).tx
  confirmed_front rest is_open test e f =
      let risen = least_without (λ (x : Entry). not (test x.0)) e.tx.next e.tx.kept in
      let room = f.room in
      record {
        same_n = f.same_n;
        given = f.given;
        next = f.next;
        all = f.all;
        rises = Rises-filter (λ (x : Entry). not (test x.0)) u.first e.tx.next e.tx.kept f.rises;
        kept = each_filter (IsSubmission u) (λ (x : Entry). not (test x.0)) e.tx.kept f.kept;
        room = omega arith;
        small = f.small;
        none_held = f.none_held;
      }

  pub count_front : (rest : List (List ℕ)) (is_open : Bool) (e : Entity) (o : Option ℕ) → IsFront u rest is_open e.tx → IsFront u rest is_open (confirmed_count e o).tx
  count_front rest is_open e None f = f
  count_front rest is_open e (Some count) f = confirmed_front rest is_open (λ c. c == count) e f

  pub pdu_front : (rest : List (List ℕ)) (is_open : Bool) (e : Entity) (x : Content) → IsFront u rest is_open e.tx → IsFront u rest is_open (take_pdu e x).0.tx
  pdu_front rest is_open e (sdu s body) f = f
  pdu_front rest is_open e (report fmc bits) f = confirmed_front rest is_open (names fmc bits) e f

  pub pdus_front : (rest : List (List ℕ)) (is_open : Bool) (e : Entity) (xs : List Content) → IsFront u rest is_open e.tx → IsFront u rest is_open (take_pdus e xs).0.tx
  pdus_front rest is_open e [] f = f
  pdus_front rest is_open e (x ∷ xs) f = pdus_front rest is_open (take_pdu e x).0 xs (pdu_front rest is_open e x f)

  -- ---- more is submitted

  pub front_more : (rest : List (List ℕ)) (is_open : Bool) (tx : Sender) (p : List ℕ) → IsFront u rest is_open tx → next_of u < low tx + window u.n → next_of u < 2 ^ 32 - 1
      → IsFront (with_more u (p ∷ [])) (rest ++ p ∷ []) is_open tx
  front_more rest is_open tx p f room small =
      let longer = length-append u.payloads (p ∷ []) in
      record {
        same_n = f.same_n;
        given = f.given;
        next = f.next;
        all =
            ap (λ (xs : List (List ℕ)). xs ++ p ∷ []) f.all ∙ append_assoc f.given (tx.held ++ rest) (p ∷ [])
            ∙ ap (λ (xs : List (List ℕ)). f.given ++ xs) (append_assoc tx.held rest (p ∷ []));
        rises = f.rises;
        kept = each_weaker (IsSubmission u) (IsSubmission (with_more u (p ∷ [])))
            (λ e s. record { from = s.from; payload = slice_get_left u.payloads (p ∷ []) (e.0 - u.first) e.1 s.payload }) tx.kept f.kept;
        room = omega arith;
        small = omega arith;
        none_held = f.none_held;
      }
