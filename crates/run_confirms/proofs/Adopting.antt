-- An anchor in a new generation: it begins with an empty history; one that adopts a bearer may open at once.
use Rattle.std.proofs.Common.{◌≡◌, ℕ, ◌+◌, ◌-◌, ◌++◌, ◌<◌, ◌≤◌, ◌∷◌, [], true, false, Bool, List, Option, Some, None, fold, ltb, refl, sym, ap, ◌∙◌, subst, inl, inr, arith}
use Rattle.std.specs.Prelude.{◌&&◌, filter, is_none, nat_lt, not}
use Rattle.std.specs.List.{AllByRecursion}
use Rattle.std.proofs.lemmas.Bool.{cases_Bool, ltb-true}
use Rattle.dc_base.specs.Count.{modulus, window}
use Rattle.dc_base.specs.declared.nodes.Dir.{Dir}
use Rattle.dc_base.specs.declared.nodes.Dir.TheVariants.{Dl, Ul}
use Rattle.dc_base.specs.declared.numbers.SnLen.{SnLen}
use Rattle.dc_base.specs.declared.records.StatusTransfer.{StatusTransfer}
use Rattle.dc_base.proofs.Counting.{count_for_finds}
use Rattle.forward.specs.Forwarded.{whole}
use Rattle.forward.specs.Load.{Load, Sdu}
use Rattle.nr_u.specs.declared.tunnel.outbound.Sent.{Sent}
use Rattle.pdcp_pdu.specs.Bitmap.{names}
use Rattle.pdcp_pdu.specs.Pdu.{Content, report, sdu}
use Rattle.pdcp_rx.specs.Entries.{AscendFrom, Entry, is_stored}
use Rattle.pdcp_rx.proofs.Entries.{AscendFrom-with_sdu, each_with_sdu}
use Rattle.pdcp_tx.specs.Sender.{InWindow, Rises, counts}
use Rattle.pdcp_tx.proofs.Entries.{in_window-filter}
use Rattle.node_rules.specs.Adopting.{active_with, adopts, adopts_with, count_of, is_payload, forward_in, numbered_of, settled, status_in, taken_over, with_counted, with_load}
use Rattle.node_rules.specs.Anchor.{Active, AnchorState, Waiting, active_anchor, fresh, new_tunnel, renew, silent, waiting, waiting_anchor}
use Rattle.node_rules.specs.AnchorSending.{open_if}
use Rattle.node_rules.specs.Choices.{Choices, Send}
use Rattle.node_rules.specs.Entity.{Entity, new_entity, take_pdu, take_pdus}
use Rattle.node_rules.specs.Setup.{Setup, is_of}
use Rattle.node_rules.specs.declared.bearers.AnchorOut.{AnchorOut}
use Rattle.split_leg.specs.Legs.{LegsState}
use Rattle.run_confirms.specs.Anchors.{AnchorSent, IsOfAnchor, Sends, sent_on}
use Rattle.run_confirms.specs.States.{HasEmptyLegs, StateSends, StateSent}
use Rattle.run_confirms.proofs.Anchors.{none_step}
use Rattle.run_confirms.proofs.Confirming.{SameSends, all_settled_same, same_more, same_none}
use Rattle.run_confirms.proofs.Opening.{opens_step}
use Rattle.run_confirms.proofs.Sending.{new_sent}
use Rattle.run_confirms.proofs.States.{stays_at}

-- ---- an anchor that begins

-- of a new bearer
pub fresh_sent : (s : Setup) → HasEmptyLegs s → StateSent [] [] (fresh s)
fresh_sent s new = new_sent (new_entity s) new

-- that waits
pub waiting_sent : (s : Setup) → HasEmptyLegs s → StateSent [] [] (waiting s)
waiting_sent s new = (refl, refl, new)

-- in a new generation
pub renew_sent : (a : Active) (s : Setup) → HasEmptyLegs s → AnchorSent [] [] (renew a s)
renew_sent a s new = new_sent (record a.entity { setup = s }) new

-- ---- what is taken of the forwarded SDUs lies in the window

-- entries under ascending COUNTs in a range
abbrev Lies : ℕ → ℕ → List Entry → Type 0
Lies from next es = AscendFrom 0 es × AllByRecursion (λ (e : Entry). (from ≤ e.0) × (e.0 < next)) es

reference_near : (n : SnLen) (dl : ℕ) (sn : Option ℕ) (c : ℕ) → count_of n dl sn ≡ Some c → dl ≤ c + window n
reference_near n dl None c is = absurd cc
reference_near n dl (Some s) c is =
    elim (cases_Bool (ltb s (modulus n))) [
      | inl fits ↦ (count_for_finds n dl s c (ltb-true s (modulus n) fits) (rw fits at is)).0.low
      | inr large ↦ absurd (let none : ◌≡◌ {A = Option ℕ} None (Some c) = rw large at is in cc)
    ]

one_counted : (from next : ℕ) (es : List Entry) (payload : List ℕ) (o : Option ℕ) → ((c : ℕ) → o ≡ Some c → from ≤ c) → Lies from next es
    → Lies from next (with_counted (λ c. nat_lt c next) es payload o)
one_counted from next es payload None near is = is
one_counted from next es payload (Some c) near is =
    elim (cases_Bool (is_payload payload)) [
      | inr not_payload ↦ rw not_payload is
      | inl some ↦ elim (cases_Bool (ltb c next)) [
        | inr past ↦ rw (some, past) is
        | inl below ↦ elim (cases_Bool (is_stored c es)) [
          | inl there ↦ rw (some, below, there) is
          | inr new ↦ rw (some, below, new) (
            AscendFrom-with_sdu 0 c payload es (omega arith) new is.0,
            each_with_sdu (λ (e : Entry). (from ≤ e.0) × (e.0 < next)) c payload es (near c refl, ltb-true c next below) is.1,
          )
        ]
      ]
    ]

all_counted : (n : SnLen) (next : ℕ) (es : List Entry) (sdus : List Sdu) → Lies (next - window n) next es
    → Lies (next - window n) next (fold (λ es (s : Sdu). with_counted (λ c. nat_lt c next) es s.1 (count_of n next s.0)) es sdus)
all_counted n next es [] is = is
all_counted n next es (s ∷ sdus) is =
    all_counted n next (with_counted (λ c. nat_lt c next) es s.1 (count_of n next s.0)) sdus
    (one_counted (next - window n) next es s.1 (count_of n next s.0) (λ c found. omega (arith, reference_near n next s.0 c found)) is)

rises_from : (from next : ℕ) (es : List Entry) → from ≤ next → AscendFrom from es → AllByRecursion (λ (e : Entry). e.0 < next) es → Rises from next es
rises_from from next [] le up below = le
rises_from from next (e ∷ es) le up below = (up.0, rises_from (e.0 + 1) next es (omega (arith, below.0)) up.1 below.1)

lies_rises : (from next : ℕ) (es : List Entry) → from ≤ next → Lies from next es → Rises from next es
lies_rises from next [] le is = le
lies_rises from next (e ∷ es) le is = (is.1.0.0, rises_from (e.0 + 1) next es (omega (arith, is.1.0.1)) is.0.1 (lower es is.1.1))
  where
    lower : (es : List Entry) → AllByRecursion (λ (e : Entry). (from ≤ e.0) × (e.0 < next)) es → AllByRecursion (λ (e : Entry). e.0 < next) es
    lower [] all = tt
    lower (x ∷ xs) all = (all.0.1, lower xs all.1)

pub numbered_window : (n : SnLen) (dl : ℕ) (sdus : List Sdu) → InWindow n dl (numbered_of n dl sdus)
numbered_window n dl sdus =
    record { from = dl - window n; near = omega arith; rises = lies_rises (dl - window n) dl (numbered_of n dl sdus) (omega arith) (all_counted n dl [] sdus (tt, tt)) }

-- ---- the uplink PDUs that it kept

-- what the sending side of an entity has after PDUs came
record AreTaken (n : SnLen) (e after : Entity) : Type 0 where
  pub legs : SameSends e.setup.legs after.setup.legs
  pub setup : after.setup ≡ record e.setup { legs = after.setup.legs }
  pub window : InWindow n e.tx.next e.tx.kept → InWindow n after.tx.next after.tx.kept

one_taken : (n : SnLen) (e : Entity) (x : Content) → AreTaken n e (take_pdu e x).0
one_taken n e (sdu s body) = record { legs = same_none e.setup.legs; setup = refl; window = λ is. is }
one_taken n e (report fmc bits) = record {
  legs = all_settled_same e.setup.legs (filter (names fmc bits) (counts e.tx.kept));
  setup = refl;
  window = λ is. in_window-filter (λ x. not (names fmc bits x.0)) n e.tx.next e.tx.kept is;
}

all_taken : (n : SnLen) (e : Entity) (xs : List Content) → AreTaken n e (take_pdus e xs).0
all_taken n e [] = record { legs = same_none e.setup.legs; setup = refl; window = λ is. is }
all_taken n e (x ∷ xs) =
    let here = one_taken n e x in
    let later = all_taken n (take_pdu e x).0 xs in
    record {
      legs = same_more e.setup.legs (take_pdu e x).0.setup.legs (take_pdus (take_pdu e x).0 xs).0.setup.legs here.legs later.legs;
      setup = later.setup ∙ ap (λ (s : Setup). record s { legs = (take_pdus (take_pdu e x).0 xs).0.setup.legs }) here.setup;
      window = λ is. later.window (here.window is);
    }

-- ---- the adoption

opened : (c : Choices) (a : Active) (told : Bool) → a.is_open ≡ false → AnchorSent [] [] a → InWindow a.entity.setup.n a.entity.tx.next a.entity.tx.kept
    → Sends [] [] a (open_if told c a)
opened c a true shut is window = opens_step c [] [] a a.entity.setup.n shut is window
opened c a false shut is window = none_step [] [] a a is

adopt_sends : (c : Choices) (w : Waiting) (e : Entity) → e.setup ≡ w.setup → HasEmptyLegs w.setup → InWindow w.setup.n e.tx.next e.tx.kept
    → StateSends [] [] (waiting_anchor w) (adopts c w e)
adopt_sends c w e setup_is new near =
    let up = (take_pdus e w.pdus).0 in
    let taken = all_taken w.setup.n e w.pdus in
    let named : (f : Setup → ℕ) → ((s : Setup) (legs : LegsState) → f (record s { legs = legs }) ≡ f s) → f up.setup ≡ f w.setup =
    λ f same. ap f taken.setup ∙ same e.setup up.setup.legs ∙ ap f setup_is in
    let n_is : up.setup.n ≡ w.setup.n = ap (λ (s : Setup). s.n) taken.setup ∙ ap (λ (s : Setup). s.n) setup_is in
    let id_is : up.setup.id ≡ w.setup.id = named (λ s. s.id) (λ s legs. refl) in
    let g_is : up.setup.g ≡ w.setup.g = named (λ s. s.g) (λ s legs. refl) in
    let empty : HasEmptyLegs up.setup = (taken.legs.mcg ∙ ap (λ (s : Setup). sent_on s.legs.mcg) setup_is ∙ new.0, taken.legs.scg ∙ ap (λ (s : Setup). sent_on s.legs.scg) setup_is ∙ new.1) in
    let a : Active = record { entity = up; is_open = false; tunnel = new_tunnel w.setup.n } in
    let sent : AnchorSent [] [] a = subst (λ (n : SnLen). AnchorSent [] [] (record { entity = up; is_open = false; tunnel = new_tunnel n })) n_is (new_sent up empty) in
    let step = opened c a w.is_told refl sent (subst (λ (n : SnLen). InWindow n up.tx.next up.tx.kept) (sym n_is) (taken.window near)) in
    let sends : List Send = (active_with c w up).1 in
    let told = subst (λ (id : ℕ). AllByRecursion (λ (x : Send). IsOfAnchor id up.setup.g ([] ++ step.more_air) ([] ++ step.more_tun) x.1) sends) id_is step.flights in
    record {
      more_air = step.more_air;
      more_tun = step.more_tun;
      after = step.after;
      flights = subst (λ (g : ℕ). AllByRecursion (λ (x : Send). IsOfAnchor w.setup.id g ([] ++ step.more_air) ([] ++ step.more_tun) x.1) sends) g_is told;
    }

settled_sends : (c : Choices) (w : Waiting) → HasEmptyLegs w.setup → StateSends [] [] (waiting_anchor w) (settled c w)
settled_sends c w new = by w.transfer (whole w.down) (whole w.up)
  where
    nothing : StateSends [] [] (waiting_anchor w) (waiting_anchor w, silent)
    nothing = stays_at [] [] (waiting_anchor w) (waiting_anchor w, silent) (refl, refl, new) tt

    by : (t : Option StatusTransfer) (down up : Option (List Sdu)) → StateSends [] [] (waiting_anchor w) (adopts_with c w t down up)
    by None down up = nothing
    by (Some st) None up = nothing
    by (Some st) (Some down) None = nothing
    by (Some st) (Some down) (Some up) = adopt_sends c w (taken_over w st down up) refl new (numbered_window w.setup.n st.dl down)

-- a waiting anchor has an empty history
none_before : (air : List (Option ℕ)) (tun : List Sent) (w : Waiting) (done : AnchorState × AnchorOut) → StateSent air tun (waiting_anchor w)
    → StateSends [] [] (waiting_anchor w) done
    → StateSends air tun (waiting_anchor w) done
none_before air tun w done is step =
    subst (λ (t : List Sent). StateSends air t (waiting_anchor w) done) (sym is.1) (subst (λ (xs : List (Option ℕ)). StateSends xs [] (waiting_anchor w) done) (sym is.0) step)

-- the same waiting anchor, with more of what it waits for
as_waiting : (v w : Waiting) (done : AnchorState × AnchorOut) → v.setup ≡ w.setup → StateSends [] [] (waiting_anchor v) done
    → StateSends [] [] (waiting_anchor w) done
as_waiting v w done same step = record { more_air = step.more_air; more_tun = step.more_tun; after = step.after; flights = rw (← same) step.flights }

-- a packet of a forwarding tunnel comes
pub forward_sends : (c : Choices) (air : List (Option ℕ)) (tun : List Sent) (s : AnchorState) (d : Dir) (load : Load) → StateSent air tun s
    → StateSends air tun s (forward_in c s d load)
forward_sends c air tun (active_anchor a) d load is = stays_at air tun (active_anchor a) (forward_in c (active_anchor a) d load) is tt
forward_sends c air tun (waiting_anchor w) d load is = none_before air tun w (forward_in c (waiting_anchor w) d load) is (by d)
  where
    by : (d : Dir) → StateSends [] [] (waiting_anchor w) (settled c (with_load w d load))
    by Ul = as_waiting (with_load w Ul load) w (settled c (with_load w Ul load)) refl (settled_sends c (with_load w Ul load) is.2)
    by Dl = as_waiting (with_load w Dl load) w (settled c (with_load w Dl load)) refl (settled_sends c (with_load w Dl load) is.2)

-- SN STATUS TRANSFER comes
pub status_sends : (c : Choices) (air : List (Option ℕ)) (tun : List Sent) (s : AnchorState) (st : StatusTransfer) → StateSent air tun s
    → StateSends air tun s (status_in c s st)
status_sends c air tun (active_anchor a) st is = stays_at air tun (active_anchor a) (status_in c (active_anchor a) st) is tt
status_sends c air tun (waiting_anchor w) st is =
    elim (cases_Bool (is_of w.setup st.id st.g && is_none w.transfer)) [
      | inl first ↦ rw first (none_before air tun w (settled c (record w { transfer = Some st })) is
          (as_waiting (record w { transfer = Some st }) w (settled c (record w { transfer = Some st })) refl (settled_sends c (record w { transfer = Some st }) is.2)))
      | inr late ↦ rw late (stays_at air tun (waiting_anchor w) (waiting_anchor w, silent) is tt)
    ]
