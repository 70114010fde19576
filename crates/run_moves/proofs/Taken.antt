-- The entity that a new anchor takes over is the one that the old anchor froze.
use Rattle.std.proofs.Common.{ℕ, ◌≡◌, ◌+◌, ◌-◌, ◌<◌, ◌≤◌, ◌^◌, ◌++◌, ◌∷◌, [], true, Bool, List, Option, Some, None, fold, map, refl, sym, ap, ◌∙◌, subst, arith, ltb}
use Rattle.std.specs.List.{AllByRecursion, filter_map}
use Rattle.std.specs.Prelude.{nat_lt, ◌&&◌}
use Rattle.std.proofs.lemmas.Bool.{lt-ltb}
use Rattle.std.proofs.lemmas.Grind.{fold-append}
use Rattle.std.proofs.lemmas.List.{append_assoc}
use Rattle.std.proofs.lemmas.List.Elements.{filter_map-append}
use Rattle.dc_base.specs.declared.numbers.SnLen.{SnLen}
use Rattle.dc_base.specs.Count.{window, modulus, sn, count_for}
use Rattle.dc_base.proofs.Counting.{sn_small}
use Rattle.forward.specs.Load.{Sdu}
use Rattle.pdcp_tx.specs.Sender.{InWindow, Rises}
use Rattle.pdcp_tx.proofs.Entries.{Rises-bounds}
use Rattle.pdcp_rx.specs.declared.entity.RxParts.{RxParts}
use Rattle.pdcp_rx.specs.Entries.{AscendFrom, Entry}
use Rattle.pdcp_rx.specs.Receiver.{IsInOrder}
use Rattle.pdcp_rx.proofs.Laws.{sent_inferred}
use Rattle.node_rules.specs.Adopting.{count_of, if_fresh, is_payload, numbered_of, stored_of, taken_over, with_counted}
use Rattle.node_rules.specs.Anchor.{Waiting}
use Rattle.node_rules.specs.Entity.{Entity}
use Rattle.node_rules.specs.Setup.{Setup}
use Rattle.node_rules.specs.Freezing.{down_sdus, numbered, transfer_of, up_sdus}
use Rattle.run_moves.specs.Movable.{ArePayloads, IsMovable}
use Rattle.run_moves.proofs.Counted.{IsTaken, fresh_taken, numbered_taken}

-- a sequence number says the COUNT that lies in the window round the reference
says_count : (n : SnLen) (r c : ℕ) → c < 2 ^ 32 → r ≤ c + window n → c < r + window n → count_of n r (Some (sn n c)) ≡ Some c
says_count n r c small low high = rw (lt-ltb (sn n c) (modulus n) (sn_small n c)) (sent_inferred n r c small low high)

-- ---- downlink

rises_ascend : (from next : ℕ) (es : List Entry) → Rises from next es → AscendFrom from es
rises_ascend from next [] rises = tt
rises_ascend from next (e ∷ es) rises = (rises.0, rises_ascend (e.0 + 1) next es rises.1)

kept_each : (n : SnLen) (next low from : ℕ) (es : List Entry) → next < 2 ^ 32 → next ≤ low + window n → low ≤ from → Rises from next es → ArePayloads es
    → AllByRecursion (IsTaken n next (λ c. nat_lt c next)) es
kept_each n next low from [] small near le rises all = tt
kept_each n next low from (e ∷ es) small near le rises all =
    let below : e.0 + 1 ≤ next = let b = Rises-bounds (e.0 + 1) next es rises.1 in omega (arith, b.0, b.1) in (
      record {
        says = says_count n next e.0 (omega (arith, below, small)) (omega (arith, near, le, rises.0)) (omega (arith, below));
        may = lt-ltb e.0 next (omega (arith, below));
        payload = all.0;
      },
      kept_each n next low (e.0 + 1) es small near (omega (arith, le, rises.0)) rises.1 all.1,
    )

-- the SDUs that no COUNT was given to
abbrev pub unnumbered : List (List ℕ) → List Sdu
unnumbered sdus = map (λ (sdu : List ℕ). (None, sdu)) sdus

-- what was kept is kept under the same COUNTs, whatever fresh SDUs come behind it
pub kept_same : (n : SnLen) (next : ℕ) (kept : List Entry) (fresh : List (List ℕ)) → next < 2 ^ 32 → InWindow n next kept → ArePayloads kept
    → numbered_of n next (numbered n kept ++ unnumbered fresh) ≡ kept
kept_same n next kept fresh small w all =
    let taken = kept_each n next w.from w.from kept small w.near (omega arith) w.rises all in
    fold-append (λ xs (s : Sdu). with_counted (λ c. nat_lt c next) xs s.1 (count_of n next s.0)) [] (numbered n kept) (unnumbered fresh)
    ∙ ap (λ (xs : List Entry). fold (λ ys (s : Sdu). with_counted (λ c. nat_lt c next) ys s.1 (count_of n next s.0)) xs (unnumbered fresh))
    (numbered_taken n next (λ c. nat_lt c next) w.from [] kept tt (rises_ascend w.from next kept w.rises) taken)
    ∙ fresh_taken n next (λ c. nat_lt c next) kept fresh

none_fresh : (n : SnLen) (es : List Entry) → filter_map if_fresh (numbered n es) ≡ []
none_fresh n [] = refl
none_fresh n (e ∷ es) = none_fresh n es

all_fresh : (sdus : List (List ℕ)) → AllByRecursion (λ (sdu : List ℕ). is_payload sdu ≡ true) sdus → filter_map if_fresh (unnumbered sdus) ≡ sdus
all_fresh [] all = refl
all_fresh (sdu ∷ sdus) all = rw all.0 (ap (λ (xs : List (List ℕ)). sdu ∷ xs) (all_fresh sdus all.1))

-- what had no COUNT yet has none, in the same order
pub held_same : (n : SnLen) (kept : List Entry) (fresh : List (List ℕ)) → AllByRecursion (λ (sdu : List ℕ). is_payload sdu ≡ true) fresh
    → filter_map if_fresh (numbered n kept ++ unnumbered fresh) ≡ fresh
held_same n kept fresh all =
    filter_map-append if_fresh (numbered n kept) (unnumbered fresh) ∙ ap (λ (xs : List (List ℕ)). xs ++ filter_map if_fresh (unnumbered fresh)) (none_fresh n kept) ∙ all_fresh fresh all

-- ---- uplink

stored_each : (n : SnLen) (deliv from : ℕ) (es : List Entry) → deliv < from → AscendFrom from es → AllByRecursion (λ (e : Entry). e.0 < deliv + window n) es
    → AllByRecursion (λ (e : Entry). e.0 < 2 ^ 32 - 1) es → ArePayloads es → AllByRecursion (IsTaken n deliv (λ c. nat_lt deliv c && nat_lt c (2 ^ 32 - 1))) es
stored_each n deliv from [] less ascends near small all = tt
stored_each n deliv from (e ∷ es) less ascends near small all = (
  record {
    says = says_count n deliv e.0 (omega (arith, small.0)) (omega (arith, less, ascends.0)) near.0;
    may = rw (lt-ltb deliv e.0 (omega (arith, less, ascends.0)), lt-ltb e.0 (2 ^ 32 - 1) small.0) refl;
    payload = all.0;
  },
  stored_each n deliv (e.0 + 1) es (omega (arith, less, ascends.0)) ascends.1 near.1 small.1 all.1,
)

-- what was stored is stored under the same COUNTs
pub stored_same : (rx : RxParts) → IsInOrder rx → ArePayloads rx.stored → stored_of rx.n rx.deliv (numbered rx.n rx.stored) ≡ rx.stored
stored_same rx order all =
    numbered_taken rx.n rx.deliv (λ c. nat_lt rx.deliv c && nat_lt c (2 ^ 32 - 1)) (rx.deliv + 1) [] rx.stored tt order.ascends
    (stored_each rx.n rx.deliv (rx.deliv + 1) rx.stored (omega arith) order.ascends order.in_window order.not_last all)

-- ---- the entity

unnumbered_more : (sdus later : List (List ℕ)) → unnumbered sdus ++ unnumbered later ≡ unnumbered (sdus ++ later)
unnumbered_more [] later = refl
unnumbered_more (sdu ∷ sdus) later = ap (λ (xs : List Sdu). (None, sdu) ∷ xs) (unnumbered_more sdus later)

all_more : (sdus later : List (List ℕ)) → AllByRecursion (λ (sdu : List ℕ). is_payload sdu ≡ true) sdus → AllByRecursion (λ (sdu : List ℕ). is_payload sdu ≡ true) later
    → AllByRecursion (λ (sdu : List ℕ). is_payload sdu ≡ true) (sdus ++ later)
all_more [] later all more = more
all_more (sdu ∷ sdus) later all more = (all.0, all_more sdus later all.1 more)

-- what was forwarded: the SDUs of the freeze, and those that came from the core after it
down_is : (e : Entity) (later : List (List ℕ)) → down_sdus e ++ unnumbered later ≡ numbered e.setup.n e.tx.kept ++ unnumbered (e.tx.held ++ later)
down_is e later =
    append_assoc (numbered e.setup.n e.tx.kept) (unnumbered e.tx.held) (unnumbered later) ∙ ap (λ (xs : List Sdu). numbered e.setup.n e.tx.kept ++ xs) (unnumbered_more e.tx.held later)

-- entities are the same if their parts are
same_entity : (s : Setup) (n m : SnLen) (next : ℕ) (kept kept' : List Entry) (held held' : List (List ℕ)) (deliv : ℕ) (stored stored' : List Entry) (k : SnLen)
    → n ≡ m → kept ≡ kept' → held ≡ held' → n ≡ k → stored ≡ stored'
    → ◌≡◌ {A = Entity} (record {
      setup = s;
      tx = record { n = n; next = next; kept = kept; held = held };
      rx = record { n = n; deliv = deliv; stored = stored };
    }) (record {
      setup = s;
      tx = record { n = m; next = next; kept = kept'; held = held' };
      rx = record { n = k; deliv = deliv; stored = stored' };
    })
same_entity s n m next kept kept' held held' deliv stored stored' k lengths keeps holds others stores = rw (sym keeps, sym holds, sym stores, sym lengths, sym others) refl

-- the entity that is taken over, of what was forwarded at the freeze and after it, is the frozen one; what the core sent
-- meanwhile to the new anchor stands behind
pub taken_is : (w : Waiting) (e : Entity) (g : ℕ) (later : List (List ℕ)) → w.setup.n ≡ e.setup.n → IsMovable e
    → AllByRecursion (λ (sdu : List ℕ). is_payload sdu ≡ true) later
    → taken_over w (transfer_of e g) (down_sdus e ++ unnumbered later) (up_sdus e)
    ≡ record { setup = w.setup; tx = record e.tx { held = (e.tx.held ++ later) ++ w.fresh }; rx = e.rx }
taken_is w e g later same movable fresh =
    let n = w.setup.n in
    let kept : numbered_of n e.tx.next (down_sdus e ++ unnumbered later) ≡ e.tx.kept =
    rw (same, down_is e later) (kept_same e.setup.n e.tx.next e.tx.kept (e.tx.held ++ later) movable.small movable.window movable.kept) in
    let held : filter_map if_fresh (down_sdus e ++ unnumbered later) ≡ e.tx.held ++ later =
    rw (down_is e later) (held_same e.setup.n e.tx.kept (e.tx.held ++ later) (all_more e.tx.held later movable.held fresh)) in
    let stored : stored_of n e.rx.deliv (up_sdus e) ≡ e.rx.stored =
    rw (same, sym movable.receiver_n) (stored_same e.rx movable.order movable.stored) in
    same_entity w.setup n e.tx.n e.tx.next (numbered_of n e.tx.next (down_sdus e ++ unnumbered later)) e.tx.kept
    (filter_map if_fresh (down_sdus e ++ unnumbered later) ++ w.fresh) ((e.tx.held ++ later) ++ w.fresh) e.rx.deliv (stored_of n e.rx.deliv (up_sdus e)) e.rx.stored e.rx.n
    (same ∙ sym movable.sender_n) kept (ap (λ (xs : List (List ℕ)). xs ++ w.fresh) held) (same ∙ sym movable.receiver_n) stored
