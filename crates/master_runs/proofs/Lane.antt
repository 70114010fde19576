-- One bearer in one direction: what was submitted, its sending entity, its receiving entity, and what every event keeps.
use Rattle.std.proofs.Common.{ℕ, suc, ◌≡◌, ◌+◌, ◌-◌, ◌^◌, ◌<◌, ◌≤◌, ◌⊎◌, ◌==◌, ◌||◌, ◌++◌, ◌&&◌, not, true, false, List, [], ◌∷◌, Some, None, length, take, slice_get, refl, sym, ap, ◌∙◌, subst, arith, inl, inr, append_assoc}
use Rattle.std.specs.Prelude.{Ok, Option, filter}
use Rattle.std.specs.List.{AllByRecursion}
use Rattle.std.proofs.lemmas.List.{append-nil, length_push, length-take-le, take_all}
use Rattle.std.proofs.lemmas.List.Folds.{list_any-append}
use Rattle.std.proofs.lemmas.Option.{slice_get_within}
use Rattle.std.proofs.lemmas.Bool.{eqb-true, eq-eqb, not-true, cases_Bool, cases_lt, or_cases, or_from, or_left, or_right, and_from}
use Rattle.std.proofs.lemmas.Bool.Decides.{nat_tests}
use Rattle.dc_base.specs.Count.{window, sn, count_for}
use Rattle.dc_base.specs.declared.numbers.SnLen.{SnLen}
use Rattle.pdcp_tx.specs.Sender.{Sender, least, low, is_kept, Rises}
use Rattle.pdcp_tx.specs.Sending.{take_sdu as taken}
use Rattle.pdcp_tx.proofs.Entries.{Rises-bounds, Rises-filter, Rises-enumerated}
use Rattle.pdcp_tx.proofs.Laws.{is_kept-without, low-confirm_count as low-confirmed, low-take_report as low-reported, low-take_sdu as low-taken}
use Rattle.pdcp_rx.specs.Entries.{AscendFrom, is_stored, with_sdu}
use Rattle.pdcp_rx.specs.Run.{run_from}
use Rattle.pdcp_rx.specs.declared.entity.RxParts.{RxParts}
use Rattle.pdcp_rx.specs.Receiver.{put, handed_of, Received}
use Rattle.pdcp_rx.proofs.Laws.{Received-put, sent_inferred}
use Rattle.pdcp_rx.proofs.Entries.{AscendFrom-weaker, AscendFrom-with_sdu, stored_from, each_with_sdu, each_drop}
use Rattle.pdcp_rx.proofs.Runs.{ascends_past_run}
use Rattle.pdcp_rx.proofs.Putting.{put_cases}
use Rattle.pdcp_pdu.specs.DataPdu.{IsPayload}
use Rattle.transcript.specs.Bearers.{Confirmation, acked, reported, is_of, is_confirmed, numbered, least_but}
use Rattle.transcript.proofs.OnEach.{each_at, each_append, each_weaker}
use Rattle.master_runs.proofs.Lists.{slice_get_left, slice_get_last, each_filter, take_next, numbered-append, least_upto, kept_before, kept_same, least_is, is_stored-with_sdu_other, run_stored, stored_before_drop, but_one}
use Rattle.master_runs.proofs.Room.{has_room}

-- the payload submitted under this COUNT
pub record IsNumbered (first : ℕ) (submitted : List (List ℕ)) (e : ℕ × List ℕ) : Type 0 where
  pub counted : first ≤ e.0
  pub payload : slice_get submitted (e.0 - first) ≡ Some e.1

-- the PDU of a number is a control PDU, or has a COUNT that was given
abbrev pub IsGiven : ℕ → ℕ → Option ℕ → Type 0
IsGiven first next None = Unit {0}
IsGiven first next (Some c) = (first ≤ c) × (c < next)

-- sender and receiver of one lane: `submitted` has the payloads in order, `confirms` what confirmed COUNTs so far
pub record IsLane (n : SnLen) (first : ℕ) (submitted : List (List ℕ)) (confirms : List Confirmation) (tx : Sender) (sent : List (Option ℕ)) (rx : RxParts) : Type 0 where
  pub tx_length : tx.n ≡ n
  pub rx_length : rx.n ≡ n
  pub payloads : AllByRecursion IsPayload submitted
  pub counted : tx.next ≡ first + length submitted
  pub small : tx.next < 2 ^ 32
  pub given : AllByRecursion (IsGiven first tx.next) sent
  pub rises : Rises first tx.next tx.kept
  pub near : tx.next ≤ low tx + window n
  pub kept_are : (c : ℕ) → first ≤ c → c < tx.next → is_kept tx.kept c ≡ not (is_confirmed confirms c)
  pub not_yet : (c : ℕ) → tx.next ≤ c → is_confirmed confirms c ≡ false
  pub kept_payloads : AllByRecursion (IsNumbered first submitted) tx.kept
  pub from : first ≤ rx.deliv
  pub upto : rx.deliv ≤ tx.next
  pub ascends : AscendFrom (rx.deliv + 1) rx.stored
  pub stored : AllByRecursion (IsNumbered first submitted) rx.stored
  pub found : (c : ℕ) → first ≤ c → c < tx.next → (is_kept tx.kept c ≡ true) ⊎ Received rx c

-- nothing happened yet
pub fresh_lane : (n : SnLen) (first : ℕ) → first < 2 ^ 32 - 1
    → IsLane n first [] [] (record { n = n; next = first; kept = []; held = [] }) [] (record { n = n; deliv = first; stored = [] })
fresh_lane n first small =
    record {
      tx_length = refl;
      rx_length = refl;
      payloads = tt;
      counted = omega arith;
      small = omega arith;
      given = tt;
      rises = omega arith;
      near = omega arith;
      kept_are = λ c from below. absurd (omega arith);
      not_yet = λ c above. refl;
      kept_payloads = tt;
      from = omega arith;
      upto = omega arith;
      ascends = tt;
      stored = tt;
      found = λ c from below. absurd (omega arith);
    }

-- a COUNT of a submission is below the next one
pub numbered_below : (first : ℕ) (submitted : List (List ℕ)) (c : ℕ) (p : List ℕ) → IsNumbered first submitted (c, p) → c < first + length submitted
numbered_below first submitted c p e =
    let low = e.counted in let within = slice_get_within submitted (c - first) p e.payload in omega arith

-- and is so when more come
pub IsNumbered-later : (first : ℕ) (submitted more : List (List ℕ)) (e : ℕ × List ℕ) → IsNumbered first submitted e → IsNumbered first (submitted ++ more) e
IsNumbered-later first submitted more e n = record { counted = n.counted; payload = slice_get_left submitted more (e.0 - first) e.1 n.payload }

-- nothing but c becomes received
pub Received-only : (r : RxParts) (c d : ℕ) (p : List ℕ) → Received (put r c p).0 d → (d ≡ c) ⊎ Received r d
Received-only r c d p =
    put_cases (λ q. Received q.0 d → (d ≡ c) ⊎ Received r d) r c p (λ old h. inr h) (λ le again h. inr h) (λ le new h.
    let es = with_sdu c p r.stored in
    let was : is_stored d es ≡ true → (d ≡ c) ⊎ Received r d =
    λ there. elim (is_stored-with_sdu_other d c p r.stored there) [ inl same ↦ inl same | inr before ↦ inr (inr before) ] in
    elim h [
      | inl below ↦ elim (cases_lt d r.deliv) [ inl under ↦ inr (inl under) | inr above ↦ was (run_stored r.deliv d es above below) ]
      | inr stored ↦ was (stored_before_drop (length (run_from r.deliv es)) d es stored)
    ])

-- each COUNT of a run is below its end
run_below : (c : ℕ) (es : List (ℕ × List ℕ)) → AllByRecursion (λ u. u.0 < c + length (run_from c es)) (run_from c es)
run_below c [] = tt
run_below c (e ∷ es) =
    elim (cases_Bool (e.0 == c)) [
      | inl same ↦
          let is = eqb-true e.0 c same in
          let end : c + 1 + length (run_from (c + 1) es) ≡ c + suc (length (run_from (c + 1) es)) = omega arith in
          rw same (omega arith, subst (λ k. AllByRecursion (λ u. u.0 < k) (run_from (c + 1) es)) end (run_below (c + 1) es))
      | inr other ↦ rw other tt
    ]

-- what goes up is below RX_DELIV then
pub put_below : (r : RxParts) (c : ℕ) (p : List ℕ) → AllByRecursion (λ u. u.0 < (put r c p).0.deliv) (handed_of (put r c p).1)
put_below r c p =
    put_cases (λ q. AllByRecursion (λ u. u.0 < q.0.deliv) (handed_of q.1)) r c p (λ old. tt) (λ le again. tt)
    (λ le new. run_below r.deliv (with_sdu c p r.stored))

-- what is handed up continues what was, where each that is stored was submitted
run_numbered : (first : ℕ) (submitted : List (List ℕ)) (c : ℕ) (es : List (ℕ × List ℕ)) → first ≤ c → AllByRecursion (IsNumbered first submitted) es
    → numbered first (take (c - first) submitted) ++ run_from c es ≡ numbered first (take (c + length (run_from c es) - first) submitted)
run_numbered first submitted c [] le all = append-nil _ ∙ ap (λ k. numbered first (take k submitted)) (omega arith)
run_numbered first submitted c (e ∷ es) le all =
    elim (cases_Bool (e.0 == c)) [
      | inl same ↦ rw same (
          let is = eqb-true e.0 c same in
          let at_c : slice_get submitted (c - first) ≡ Some e.1 = subst (λ k. slice_get submitted (k - first) ≡ Some e.1) is all.0.payload in
          let within = slice_get_within submitted (c - first) e.1 at_c in
          let one : c + 1 - first ≡ suc (c - first) = omega arith in
          let front = numbered first (take (c - first) submitted) in
          let count : first + length (take (c - first) submitted) ≡ e.0 = let len = length-take-le (c - first) submitted (omega arith) in omega arith in
          let more : numbered first (take (c + 1 - first) submitted) ≡ front ++ e ∷ [] =
          ap (λ k. numbered first (take k submitted)) one ∙ ap (numbered first) (take_next submitted (c - first) e.1 at_c)
          ∙ numbered-append first (take (c - first) submitted) (e.1 ∷ []) ∙ ap (λ k. front ++ (k, e.1) ∷ []) count in
          let rest = run_numbered first submitted (c + 1) es (omega arith) all.1 in
          let up : c + 1 + length (run_from (c + 1) es) ≡ c + suc (length (run_from (c + 1) es)) = omega arith in
          sym (append_assoc front (e ∷ []) (run_from (c + 1) es))
          ∙ ap (λ (xs : List (ℕ × List ℕ)). xs ++ run_from (c + 1) es) (sym more)
          ∙ rest ∙ ap (λ k. numbered first (take (k - first) submitted)) up)
      | inr other ↦ rw other (append-nil _ ∙ ap (λ k. numbered first (take k submitted)) (omega arith))
    ]

-- a run ends where the submissions end, or before
run_upto : (first : ℕ) (submitted : List (List ℕ)) (c : ℕ) (es : List (ℕ × List ℕ)) → c ≤ first + length submitted → AllByRecursion (IsNumbered first submitted) es
    → c + length (run_from c es) ≤ first + length submitted
run_upto first submitted c [] le all = omega arith
run_upto first submitted c (e ∷ es) le all =
    let below = numbered_below first submitted e.0 e.1 all.0 in grind (arith, nat_tests, run_upto first submitted (c + 1) es)

-- each that is stored was submitted, so its COUNT is below the next one
stored_submitted : (first : ℕ) (submitted : List (List ℕ)) (c : ℕ) (es : List (ℕ × List ℕ)) → AllByRecursion (IsNumbered first submitted) es → is_stored c es ≡ true
    → c < first + length submitted
stored_submitted first submitted c [] all stored = absurd cc
stored_submitted first submitted c (e ∷ es) all stored =
    let below = numbered_below first submitted e.0 e.1 all.0 in
    elim (or_cases (e.0 == c) (is_stored c es) stored) [
      | inl here ↦ let is = eqb-true e.0 c here in omega arith
      | inr later ↦ stored_submitted first submitted c es all.1 later
    ]

-- a COUNT that was given is so when more are
pub IsGiven-later : (first next next' : ℕ) (o : Option ℕ) → next ≤ next' → IsGiven first next o → IsGiven first next' o
IsGiven-later first next next' None le is = is
IsGiven-later first next next' (Some c) le is = (is.0, omega (arith, is.1))

-- Low does not fall where some are confirmed
pub low_but : (tx : Sender) (x : Confirmation) → low tx ≤ low (record tx { kept = filter (λ e. not (is_of e.0 x)) tx.kept })
low_but tx (acked c) = low-confirmed tx c
low_but tx (reported fmc bits) = low-reported tx fmc bits

module _ (n : SnLen) (first : ℕ) (submitted : List (List ℕ)) (confirms : List Confirmation) (tx : Sender) (sent : List (Option ℕ)) (rx : RxParts)
    (lane : IsLane n first submitted confirms tx sent rx) where
  -- Low is where the window begins
  pub low_is : low tx ≡ least_but confirms first (length submitted)
  low_is =
      let counted = lane.counted in
      ap (λ k. least k tx.kept) counted
      ∙ least_is confirms (length submitted) first tx.kept (subst (λ k. Rises first k tx.kept) counted lane.rises) (λ d from below. lane.kept_are d from (omega arith))

  -- RX_DELIV was not received, so it is kept
  deliv_kept : rx.deliv < tx.next → is_kept tx.kept rx.deliv ≡ true
  deliv_kept below =
      elim (lane.found rx.deliv lane.from below) [
        | inl kept ↦ kept
        | inr got ↦ elim got [
          | inl lt ↦ absurd (omega arith)
          | inr stored ↦ absurd (let above = stored_from (rx.deliv + 1) rx.deliv rx.stored lane.ascends stored in omega arith)
        ]
      ]

  -- Low is not past RX_DELIV, so no COUNT sent is a window past it
  pub low_upto : low tx ≤ rx.deliv
  low_upto =
      elim (cases_lt rx.deliv tx.next) [
        | inl below ↦ least_upto tx.next rx.deliv tx.kept (deliv_kept below)
        | inr all ↦ let bounds = Rises-bounds first tx.next tx.kept lane.rises in omega (arith, bounds.1)
      ]

  -- the next COUNT is within the window of the receiver
  pub next_near : tx.next ≤ rx.deliv + window n
  next_near = let near = lane.near in let low = low_upto in omega arith

  -- a COUNT that is not a window behind is found by its sequence number
  pub found_by_sn : (c : ℕ) → c < tx.next → rx.deliv ≤ c + window n → count_for n rx.deliv (sn n c) ≡ Some c
  found_by_sn c below behind = let near = next_near in let small = lane.small in sent_inferred n rx.deliv c (omega arith) behind (omega arith)

  -- what was received was submitted
  pub received_below : (c : ℕ) → Received rx c → c < tx.next
  received_below c got =
      let upto = lane.upto in let counted = lane.counted in
      elim got [ inl lt ↦ omega arith | inr stored ↦ let below = stored_submitted first submitted c rx.stored lane.stored stored in omega arith ]

  -- a submission that is taken
  pub lane_taken : (p : List ℕ) (tx' : Sender) (c : ℕ) → IsPayload p → taken tx p ≡ Ok (tx', c)
      → (c ≡ first + length submitted) × IsLane n first (submitted ++ p ∷ []) confirms tx' (sent ++ Some c ∷ []) rx
  lane_taken p tx' c good ok =
      let t = has_room tx tx' p c ok in
      let after : Sender = record tx { next = tx.next + 1; kept = tx.kept ++ (tx.next, p) ∷ [] } in
      let counted = lane.counted in let small = lane.small in let left = t.left in let room = t.room in let upto = lane.upto in
      let grown : length (submitted ++ p ∷ []) ≡ length submitted + 1 = length_push submitted p in
      let low_grown : low tx ≤ low after = low-taken tx after p tx.next (ok ∙ ap Ok (sym t.is)) in
      let same : window tx.n ≡ window n = ap window lane.tx_length in
      let last : IsNumbered first (submitted ++ p ∷ []) (tx.next, p) = record {
        counted = omega arith;
        payload = subst (λ k. slice_get (submitted ++ p ∷ []) k ≡ Some p) (omega arith) (slice_get_last submitted p);
      } in
      let lane' : IsLane n first (submitted ++ p ∷ []) confirms after (sent ++ Some tx.next ∷ []) rx = record {
        tx_length = lane.tx_length;
        rx_length = lane.rx_length;
        payloads = each_append IsPayload submitted (p ∷ []) lane.payloads (good, tt);
        counted = omega arith;
        small = omega arith;
        given = each_append (IsGiven first (tx.next + 1)) sent (Some tx.next ∷ [])
            (each_weaker (IsGiven first tx.next) (IsGiven first (tx.next + 1)) (λ o. IsGiven-later first tx.next (tx.next + 1) o (omega arith)) sent lane.given)
            ((omega arith, omega arith), tt);
        rises = Rises-enumerated first tx.next tx.kept (p ∷ []) lane.rises;
        near = omega arith;
        kept_are = λ d from below. elim (cases_lt d tx.next) [
          | inl before ↦ kept_before tx.next d p tx.kept before ∙ lane.kept_are d from before
          | inr above ↦ kept_same tx.next d p tx.kept (omega arith) ∙ ap not (sym (lane.not_yet d above))
        ];
        not_yet = λ d above. lane.not_yet d (omega arith);
        kept_payloads = each_append (IsNumbered first (submitted ++ p ∷ [])) tx.kept ((tx.next, p) ∷ [])
            (each_weaker (IsNumbered first submitted) (IsNumbered first (submitted ++ p ∷ [])) (IsNumbered-later first submitted (p ∷ [])) tx.kept lane.kept_payloads)
            (last, tt);
        from = lane.from;
        upto = omega arith;
        ascends = lane.ascends;
        stored = each_weaker (IsNumbered first submitted) (IsNumbered first (submitted ++ p ∷ [])) (IsNumbered-later first submitted (p ∷ [])) rx.stored lane.stored;
        found = λ d from below. elim (cases_lt d tx.next) [
          | inl before ↦ elim (lane.found d from before) [ inl kept ↦ inl (kept_before tx.next d p tx.kept before ∙ kept) | inr got ↦ inr got ]
          | inr above ↦ inl (kept_same tx.next d p tx.kept (omega arith))
        ];
      } in
      subst (λ (q : Sender × ℕ). (q.1 ≡ first + length submitted) × IsLane n first (submitted ++ p ∷ []) confirms q.0 (sent ++ Some q.1 ∷ []) rx) t.is (counted, lane')

  -- what confirms COUNTs that were received alone
  pub lane_confirmed : (x : Confirmation) → ((c : ℕ) → first ≤ c → is_of c x ≡ true → Received rx c)
      → IsLane n first submitted (confirms ++ x ∷ []) (record tx { kept = filter (λ e. not (is_of e.0 x)) tx.kept }) sent rx
  lane_confirmed x got =
      let near = lane.near in let low_grown = low_but tx x in let counted = lane.counted in
      let added : (d : ℕ) → is_confirmed (confirms ++ x ∷ []) d ≡ (is_confirmed confirms d || (is_of d x || false)) = λ d. list_any-append (is_of d) confirms (x ∷ []) in
      let kept_now : (d : ℕ) → is_kept (filter (λ e. not (is_of e.0 x)) tx.kept) d ≡ (is_kept tx.kept d && not (is_of d x)) = is_kept-without (λ c. is_of c x) tx.kept in
      record {
        tx_length = lane.tx_length;
        rx_length = lane.rx_length;
        payloads = lane.payloads;
        counted = lane.counted;
        small = lane.small;
        given = lane.given;
        rises = Rises-filter (λ e. not (is_of e.0 x)) first tx.next tx.kept lane.rises;
        near = omega arith;
        kept_are = λ d from' below'. kept_now d ∙ ap (λ b. b && not (is_of d x)) (lane.kept_are d from' below')
            ∙ but_one (is_confirmed confirms d) (is_of d x) ∙ ap not (sym (added d));
        not_yet = λ d above. added d ∙ or_from _ _ (lane.not_yet d above) (elim (cases_Bool (is_of d x)) [
          | inl is ↦ absurd (let below = received_below d (got d (omega arith) is) in omega arith)
          | inr other ↦ or_from _ _ other refl
        ]);
        kept_payloads = each_filter (IsNumbered first submitted) (λ e. not (is_of e.0 x)) tx.kept lane.kept_payloads;
        from = lane.from;
        upto = lane.upto;
        ascends = lane.ascends;
        stored = lane.stored;
        found = λ d from' below'. elim (cases_Bool (is_of d x)) [
          | inl is ↦ inr (got d from' is)
          | inr other ↦ elim (lane.found d from' below') [
            | inl kept ↦ inl (kept_now d ∙ and_from _ _ kept (ap not other))
            | inr got' ↦ inr got'
          ]
        ];
      }

  -- more PDUs are sent, of COUNTs that were given
  pub lane_sent : (more : List (Option ℕ)) → AllByRecursion (IsGiven first tx.next) more → IsLane n first submitted confirms tx (sent ++ more) rx
  lane_sent more given =
      record {
        tx_length = lane.tx_length;
        rx_length = lane.rx_length;
        payloads = lane.payloads;
        counted = lane.counted;
        small = lane.small;
        given = each_append (IsGiven first tx.next) sent more lane.given given;
        rises = lane.rises;
        near = lane.near;
        kept_are = lane.kept_are;
        not_yet = lane.not_yet;
        kept_payloads = lane.kept_payloads;
        from = lane.from;
        upto = lane.upto;
        ascends = lane.ascends;
        stored = lane.stored;
        found = lane.found;
      }

  -- each of these, all of which are kept, was submitted, and is not confirmed
  each_kept : (from : ℕ) (es : List (ℕ × List ℕ)) → first ≤ from → Rises from tx.next es → AllByRecursion (IsNumbered first submitted) es
      → ((c : ℕ) → is_kept es c ≡ true → is_kept tx.kept c ≡ true)
      → AllByRecursion (λ (e : ℕ × List ℕ). IsNumbered first submitted e × (e.0 < tx.next) × (is_confirmed confirms e.0 ≡ false) × IsPayload e.1) es
  each_kept from [] le up all sub = tt
  each_kept from (e ∷ es) le up all sub =
      let bounds = Rises-bounds (e.0 + 1) tx.next es up.1 in
      let above : first ≤ e.0 = omega (arith, up.0) in
      let below : e.0 < tx.next = omega (arith, bounds.0, bounds.1) in
      let kept = sub e.0 (or_left (e.0 == e.0) (is_kept es e.0) (eq-eqb e.0 e.0 refl)) in
      let free : is_confirmed confirms e.0 ≡ false = not-true (is_confirmed confirms e.0) (sym (lane.kept_are e.0 above below) ∙ kept) in (
        (all.0, below, free, each_at IsPayload submitted (e.0 - first) e.1 lane.payloads all.0.payload),
        each_kept (e.0 + 1) es (omega arith) up.1 all.1 (λ c k. sub c (or_right (e.0 == c) (is_kept es c) k)),
      )

  -- what is kept was submitted, and is not confirmed
  pub kept_unconfirmed : AllByRecursion (λ (e : ℕ × List ℕ). IsNumbered first submitted e × (e.0 < tx.next) × (is_confirmed confirms e.0 ≡ false) × IsPayload e.1) tx.kept
  kept_unconfirmed = each_kept first tx.kept (omega arith) lane.rises lane.kept_payloads (λ c k. k)

  -- a payload is received
  pub lane_put : (c : ℕ) (p : List ℕ) → IsNumbered first submitted (c, p) → IsLane n first submitted confirms tx sent (put rx c p).0
  lane_put c p e =
      put_cases (λ q. ((d : ℕ) → Received rx d → Received q.0 d) → IsLane n first submitted confirms tx sent q.0) rx c p
      (λ old more. lane) (λ le again more. lane) (λ le new more.
      let es = with_sdu c p rx.stored in
      let all = each_with_sdu (IsNumbered first submitted) c p rx.stored e lane.stored in
      let ascends = AscendFrom-with_sdu rx.deliv c p rx.stored le new (AscendFrom-weaker rx.deliv (rx.deliv + 1) rx.stored (omega arith) lane.ascends) in
      let counted = lane.counted in let from = lane.from in let upto = lane.upto in
      let ends = run_upto first submitted rx.deliv es (omega arith) all in
      record {
        tx_length = lane.tx_length;
        rx_length = lane.rx_length;
        counted = lane.counted;
        small = lane.small;
        payloads = lane.payloads;
        given = lane.given;
        kept_payloads = lane.kept_payloads;
        rises = lane.rises;
        near = lane.near;
        kept_are = lane.kept_are;
        not_yet = lane.not_yet;
        from = omega arith;
        upto = omega arith;
        ascends = ascends_past_run rx.deliv es ascends;
        stored = each_drop (IsNumbered first submitted) (length (run_from rx.deliv es)) es all;
        found = λ d from' below'. elim (lane.found d from' below') [ inl kept ↦ inl kept | inr got ↦ inr (more d got) ];
      })
      (λ d. Received-put rx d c p)

  -- what goes up continues what went up
  pub lane_handed : (c : ℕ) (p : List ℕ) → IsNumbered first submitted (c, p)
      → numbered first (take (rx.deliv - first) submitted) ++ handed_of (put rx c p).1 ≡ numbered first (take ((put rx c p).0.deliv - first) submitted)
  lane_handed c p e =
      put_cases (λ q. numbered first (take (rx.deliv - first) submitted) ++ handed_of q.1 ≡ numbered first (take (q.0.deliv - first) submitted)) rx c p
      (λ old. append-nil _) (λ le again. append-nil _)
      (λ le new. run_numbered first submitted rx.deliv (with_sdu c p rx.stored) lane.from (each_with_sdu (IsNumbered first submitted) c p rx.stored e lane.stored))

  -- once all was received, all went up
  pub all_handed : ((c : ℕ) → first ≤ c → c < tx.next → Received rx c) → take (rx.deliv - first) submitted ≡ submitted
  all_handed all =
      let counted = lane.counted in let from = lane.from in
      take_all (rx.deliv - first) submitted (elim (cases_lt rx.deliv tx.next) [
        | inr past ↦ omega arith
        | inl below ↦ elim (all rx.deliv lane.from below) [
          | inl lt ↦ absurd (omega arith)
          | inr stored ↦ absurd (let above = stored_from (rx.deliv + 1) rx.deliv rx.stored lane.ascends stored in omega arith)
        ]
      ])
