-- Laws of the receiving entity, for the layers above.
use Rattle.std.proofs.Common.{ℕ, ◌≡◌, ◌+◌, ◌^◌, ◌<◌, ◌≤◌, ◌⊎◌, ◌++◌, ◌∷◌, [], true, false, List, Some, length, drop, refl, sym, ap, ◌∙◌, subst, arith, inl, inr, add-zero, length-append, ◌==◌}
use Rattle.std.proofs.lemmas.List.{take-append-drop}
use Rattle.std.specs.List.{AllByRecursion}
use Rattle.std.proofs.lemmas.Bool.{or_cases, eqb-true}
use Rattle.dc_base.specs.declared.numbers.SnLen.{SnLen}
use Rattle.dc_base.specs.Count.{window, sn, count_for}
use Rattle.dc_base.proofs.Counting.{count_for_is}
use Rattle.pdcp_rx.specs.declared.entity.RxParts.{RxParts}
use Rattle.pdcp_rx.specs.Entries.{Entry, is_stored, with_sdu}
use Rattle.pdcp_rx.specs.Run.{IsConsecutive, run_from}
use Rattle.pdcp_rx.specs.Receiver.{Received, handed_of, put, put_all}
use Rattle.pdcp_rx.proofs.Entries.{is_stored-with_sdu, is_stored-with_sdu_same, each_with_sdu, each_take, each_drop, each_append}
use Rattle.pdcp_rx.proofs.Runs.{run_consecutive, run-take, stored_past_run, IsConsecutive-append}
use Rattle.pdcp_rx.proofs.Putting.{put_cases, put_new}

-- the length of the sequence numbers stays
pub n-put : (r : RxParts) (c : ℕ) (sdu : List ℕ) → (put r c sdu).0.n ≡ r.n
n-put r c sdu = put_cases (λ a. a.0.n ≡ r.n) r c sdu (λ lt. refl) (λ le is. refl) (λ le new. refl)

-- RX_DELIV never falls: it rises by as many SDUs as are handed up
pub deliv-put : (r : RxParts) (c : ℕ) (sdu : List ℕ) → (put r c sdu).0.deliv ≡ r.deliv + length (handed_of (put r c sdu).1)
deliv-put r c sdu =
    put_cases (λ a. a.0.deliv ≡ r.deliv + length (handed_of a.1)) r c sdu (λ lt. sym (add-zero r.deliv)) (λ le is. sym (add-zero r.deliv)) (λ le new. refl)

-- what is handed up has the COUNTs from RX_DELIV on, in order
pub handed_consecutive : (r : RxParts) (c : ℕ) (sdu : List ℕ) → IsConsecutive r.deliv (handed_of (put r c sdu).1)
handed_consecutive r c sdu =
    put_cases (λ a. IsConsecutive r.deliv (handed_of a.1)) r c sdu (λ lt. tt) (λ le is. tt) (λ le new. run_consecutive r.deliv (with_sdu c sdu r.stored))

-- what is handed up and what is stored then are what was stored and the new SDU
pub handed_and_stored : (r : RxParts) (c : ℕ) (sdu : List ℕ) → r.deliv ≤ c → is_stored c r.stored ≡ false → handed_of (put r c sdu).1 ++ (put r c sdu).0.stored ≡ with_sdu c sdu r.stored
handed_and_stored r c sdu le new =
    let es = with_sdu c sdu r.stored in
    let parts : run_from r.deliv es ++ drop (length (run_from r.deliv es)) es ≡ es = ap (λ xs. xs ++ drop (length (run_from r.deliv es)) es) (run-take r.deliv es) ∙ take-append-drop (length (run_from r.deliv es)) es in
    rw (put_new r c sdu le new) parts

-- an SDU that was received before is refused, and all stays as it was
pub received_refused : (r : RxParts) (c : ℕ) (sdu : List ℕ) → Received r c → ((put r c sdu).0 ≡ r) × (handed_of (put r c sdu).1 ≡ [])
received_refused r c sdu received =
    put_cases (λ a. (a.0 ≡ r) × (handed_of a.1 ≡ [])) r c sdu (λ lt. (refl, refl)) (λ le is. (refl, refl)) (λ le new. elim received [ inl lt ↦ absurd (omega arith) | inr is ↦ absurd (cc) ])

-- what was received once stays so
pub Received-put : (r : RxParts) (b c : ℕ) (sdu : List ℕ) → Received r b → Received (put r c sdu).0 b
Received-put r b c sdu received =
    put_cases (λ a. Received a.0 b) r c sdu (λ lt. received) (λ le is. received)
    (λ le new. elim received [
      | inl lt ↦ inl (omega arith)
      | inr is ↦ stored_past_run b r.deliv (with_sdu c sdu r.stored) (is_stored-with_sdu b c sdu r.stored is)
    ])

-- and so is the new SDU
pub Received-put_same : (r : RxParts) (c : ℕ) (sdu : List ℕ) → Received (put r c sdu).0 c
Received-put_same r c sdu =
    put_cases (λ a. Received a.0 c) r c sdu (λ lt. inl lt) (λ le is. inr is)
    (λ le new. stored_past_run c r.deliv (with_sdu c sdu r.stored) (is_stored-with_sdu_same c sdu r.stored))

-- so the same COUNT a second time hands up nothing
pub put_twice : (r : RxParts) (c : ℕ) (sdu again : List ℕ) → handed_of (put (put r c sdu).0 c again).1 ≡ []
put_twice r c sdu again = (received_refused (put r c sdu).0 c again (Received-put_same r c sdu)).1

-- what holds of each SDU stored and of the new one holds of each handed up, and of each stored then
module _ (P : Entry → Type 0) where
  pub each-put : (r : RxParts) (c : ℕ) (sdu : List ℕ) → AllByRecursion P r.stored → P (c, sdu) → AllByRecursion P (handed_of (put r c sdu).1) × AllByRecursion P (put r c sdu).0.stored
  each-put r c sdu all one =
      put_cases (λ a. AllByRecursion P (handed_of a.1) × AllByRecursion P a.0.stored) r c sdu (λ lt. (tt, all)) (λ le is. (tt, all))
      (λ le new.
      let es = with_sdu c sdu r.stored in
      let each = each_with_sdu P c sdu r.stored one all in
      let k = length (run_from r.deliv es) in
      (subst (AllByRecursion P) (sym (run-take r.deliv es)) (each_take P k es each), each_drop P k es each))

  -- and over any SDUs, in any order
  pub each-put_all : (r : RxParts) (es : List Entry) → AllByRecursion P r.stored → AllByRecursion P es → AllByRecursion P (put_all r es).1 × AllByRecursion P (put_all r es).0.stored
  each-put_all r [] all news = (tt, all)
  each-put_all r (e ∷ es) all news =
      let here = each-put r e.0 e.1 all news.0 in
      let later = each-put_all (put r e.0 e.1).0 es here.1 news.1 in
      (each_append P (handed_of (put r e.0 e.1).1) _ here.0 later.0, later.1)

-- over any SDUs, in any order: the COUNTs handed up are those from RX_DELIV on, each once and in order
pub handed_in_order : (r : RxParts) (es : List Entry) → IsConsecutive r.deliv (put_all r es).1 × ((put_all r es).0.deliv ≡ r.deliv + length (put_all r es).1)
handed_in_order r [] = (tt, sym (add-zero r.deliv))
handed_in_order r (e ∷ es) =
    let here = put r e.0 e.1 in
    let later = handed_in_order here.0 es in
    let place = deliv-put r e.0 e.1 in (
      IsConsecutive-append r.deliv (handed_of here.1) (put_all here.0 es).1 (handed_consecutive r e.0 e.1) (subst (λ d. IsConsecutive d (put_all here.0 es).1) place later.0),
      omega (arith, later.1, place, length-append (handed_of here.1) (put_all here.0 es).1),
    )

-- and each of them was received in the end
pub Received-put_all : (r : RxParts) (b : ℕ) (es : List Entry) → Received r b ⊎ (is_stored b es ≡ true) → Received (put_all r es).0 b
Received-put_all r b [] (inl received) = received
Received-put_all r b [] (inr among) = absurd cc
Received-put_all r b (e ∷ es) (inl received) = Received-put_all (put r e.0 e.1).0 b es (inl (Received-put r b e.0 e.1 received))
Received-put_all r b (e ∷ es) (inr among) =
    elim (or_cases (e.0 == b) (is_stored b es) among) [
      | inl here ↦ Received-put_all (put r e.0 e.1).0 b es (inl (subst (Received (put r e.0 e.1).0) (eqb-true e.0 b here) (Received-put_same r e.0 e.1)))
      | inr later ↦ Received-put_all (put r e.0 e.1).0 b es (inr later)
    ]

-- within the window, the COUNT that is inferred from RX_DELIV is the one that was sent
pub sent_inferred : (n : SnLen) (deliv tag : ℕ) → tag < 2 ^ 32 → deliv ≤ tag + window n → tag < deliv + window n → count_for n deliv (sn n tag) ≡ Some tag
sent_inferred n deliv tag small low high = count_for_is n deliv (sn n tag) tag small (record { low = low; high = high; shows = refl })
