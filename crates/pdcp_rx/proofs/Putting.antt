-- What becomes of a received SDU, by cases.
use Rattle.std.proofs.Common.{ℕ, ◌≡◌, ◌+◌, ◌-◌, ◌^◌, ◌<◌, ◌≤◌, ltb, true, false, List, [], ◌∷◌, length, take, drop, refl, sym, ap, ◌∙◌, add-zero, arith}
use Rattle.std.proofs.lemmas.Bool.{cond-true, cond-false, cond_both, le-ltb, ltb-true, ltb-false}
use Rattle.dc_base.specs.Count.{window}
use Rattle.pdcp_rx.specs.declared.entity.Put.{Put}
use Rattle.pdcp_rx.specs.declared.entity.Put.TheVariants.{Stored, Old, Again}
use Rattle.pdcp_rx.specs.declared.entity.RxParts.{RxParts}
use Rattle.pdcp_rx.specs.Entries.{is_stored, with_sdu}
use Rattle.pdcp_rx.specs.Run.{run_from}
use Rattle.pdcp_rx.specs.Receiver.{IsInOrder, handed_up, put}
use Rattle.pdcp_rx.proofs.Entries.{AscendFrom-weaker, AscendFrom-with_sdu, stored_below, with_sdu_first, each_with_sdu, each_drop, each_weaker}
use Rattle.pdcp_rx.proofs.Runs.{run-take, run_first, run_none, ascends_past_run}

-- whatever holds in each of the three cases holds of `put`
pub put_cases : (Q : RxParts × Put → Type 0) (r : RxParts) (c : ℕ) (sdu : List ℕ)
    → (c < r.deliv → Q (r, Old r.deliv)) → (r.deliv ≤ c → is_stored c r.stored ≡ true → Q (r, Again))
    → (r.deliv ≤ c → is_stored c r.stored ≡ false → Q (handed_up (record r { stored = with_sdu c sdu r.stored })))
    → Q (put r c sdu)
put_cases Q r c sdu old again new =
    cond_both (ltb c r.deliv) _ _ Q (λ t. old (ltb-true c r.deliv t))
    (λ f. cond_both (is_stored c r.stored) _ _ Q (again (ltb-false c r.deliv f)) (new (ltb-false c r.deliv f)))

pub put_again : (r : RxParts) (c : ℕ) (sdu : List ℕ) → r.deliv ≤ c → is_stored c r.stored ≡ true → put r c sdu ≡ (r, Again)
put_again r c sdu le is = cond-false _ _ _ (le-ltb c r.deliv le) ∙ cond-true _ _ _ is

pub put_new : (r : RxParts) (c : ℕ) (sdu : List ℕ) → r.deliv ≤ c → is_stored c r.stored ≡ false → put r c sdu ≡ handed_up (record r { stored = with_sdu c sdu r.stored })
put_new r c sdu le is = cond-false _ _ _ (le-ltb c r.deliv le) ∙ cond-false _ _ _ is

-- above RX_DELIV, a new SDU waits
pub put_later : (r : RxParts) (c : ℕ) (sdu : List ℕ) → IsInOrder r → r.deliv < c → is_stored c r.stored ≡ false → put r c sdu ≡ (record r { stored = with_sdu c sdu r.stored }, Stored [])
put_later r c sdu ok lt new =
    put_new r c sdu (omega arith) new
    ∙ (let none = run_none r.deliv (with_sdu c sdu r.stored) (AscendFrom-with_sdu (r.deliv + 1) c sdu r.stored (omega arith) new ok.ascends) in
    rw (none, add-zero) refl)

-- at RX_DELIV, it goes up with those that follow it, up to the first gap
pub put_next : (r : RxParts) (gap : ℕ) (sdu : List ℕ) → IsInOrder r → gap ≡ r.deliv + 1 + length (run_from (r.deliv + 1) r.stored)
    → put r r.deliv sdu ≡ (record r { deliv = gap; stored = drop (gap - r.deliv - 1) r.stored }, Stored ((r.deliv, sdu) ∷ take (gap - r.deliv - 1) r.stored))
put_next r gap sdu ok gap_is =
    let run = run_from (r.deliv + 1) r.stored in
    let number : gap - r.deliv - 1 ≡ length run = omega arith in
    let front : take (gap - r.deliv - 1) r.stored ≡ run = rw number (sym (run-take (r.deliv + 1) r.stored)) in
    put_new r r.deliv sdu (omega arith) (stored_below (r.deliv + 1) r.deliv r.stored ok.ascends (omega arith))
    ∙ rw (with_sdu_first r.deliv sdu r.stored ok.ascends, run_first r.deliv sdu r.stored, front, number)
    (ap {B = RxParts × Put} (λ d. (record { n = r.n; deliv = d; stored = drop (length run) r.stored }, Stored ((r.deliv, sdu) ∷ run))) (omega arith))

-- within the window, all stays in order
pub in_order-put : (r : RxParts) (c : ℕ) (sdu : List ℕ) → IsInOrder r → c < 2 ^ 32 - 1 → c < r.deliv + window r.n → IsInOrder (put r c sdu).0
in_order-put r c sdu ok not_last in_window =
    put_cases (λ a. IsInOrder a.0) r c sdu (λ lt. ok) (λ le is. ok)
    (λ le new.
    let es = with_sdu c sdu r.stored in
    let run = run_from r.deliv es in
    let later = r.deliv + length run in
    record {
      ascends = ascends_past_run r.deliv es (AscendFrom-with_sdu r.deliv c sdu r.stored le new (AscendFrom-weaker r.deliv (r.deliv + 1) r.stored (omega arith) ok.ascends));
      in_window = each_drop (λ e. e.0 < later + window r.n) (length run) es (each_weaker (λ e. e.0 < r.deliv + window r.n) (λ e. e.0 < later + window r.n) (λ e lt. omega arith) es (each_with_sdu (λ e. e.0 < r.deliv + window r.n) c sdu r.stored in_window ok.in_window));
      not_last = each_drop (λ e. e.0 < 2 ^ 32 - 1) (length run) es (each_with_sdu (λ e. e.0 < 2 ^ 32 - 1) c sdu r.stored not_last ok.not_last);
    })
