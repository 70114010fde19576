-- What comes to the master over the air.
use Rattle.std.proofs.Common.{ℕ, ◌≡◌, ◌+◌, ◌-◌, ◌^◌, ◌≤◌, ◌==◌, ◌++◌, Bool, true, false, List, [], ◌∷◌, Option, Some, None, slice_get, refl, sym, ap, subst, ◌∙◌, inl, inr, arith}
use Rattle.std.specs.Prelude.{Ok, Err, Result, map, filter, find, nat_lt, not, if◌then◌else◌}
use Rattle.std.specs.List.{AllByRecursion}
use Rattle.std.specs.Option.{option_map}
use Rattle.std.proofs.lemmas.Option.{same_Some}
use Rattle.std.proofs.lemmas.Bool.{cases_Bool, eq-eqb, le-ltb, ltb-false}
use Rattle.std.proofs.lemmas.List.{append-nil}
use Rattle.dc_base.specs.Count.{count_for}
use Rattle.dc_base.specs.declared.answers.Answer.TheVariants as answer
use Rattle.dc_base.specs.declared.events.Header.{Header}
use Rattle.dc_base.specs.declared.events.Line.{Line}
use Rattle.dc_base.specs.declared.events.Line.TheVariants as line
use Rattle.dc_base.specs.declared.events.Note.TheVariants as note
use Rattle.dc_base.specs.declared.flights.Flight.TheVariants as flight
use Rattle.dc_base.specs.declared.nodes.Cell.TheVariants as cell
use Rattle.dc_base.specs.declared.nodes.Dir.TheVariants.{Dl, Ul}
use Rattle.dc_base.specs.declared.nodes.Node.TheVariants.{M}
use Rattle.nr_u.specs.Tunnel.Outgoing.{Outgoing}
use Rattle.pdcp_pdu.specs.Bitmap.{names}
use Rattle.pdcp_pdu.specs.Pdu.{Content, decoded, sdu, report}
use Rattle.pdcp_pdu.specs.declared.pdu.PduErr.{PduErr}
use Rattle.pdcp_rx.specs.Receiver.{put, handed_of}
use Rattle.pdcp_rx.specs.declared.entity.RxParts.{RxParts}
use Rattle.pdcp_tx.specs.Sender.{Sender, Entry, counts, low}
use Rattle.pdcp_tx.specs.Sending.{confirm_count as confirmed, take_report as reported}
use Rattle.pdcp_tx.proofs.Laws.{low-confirm_count as low-confirmed, low-take_report as low-reported}
use Rattle.split_leg.specs.declared.leg.Pdu.{Pdu}
use Rattle.split_leg.specs.Legs.{count_unless_acked, set_acked}
use Rattle.transcript.proofs.OnEach.{each_at}
use Rattle.transcript.specs.Content.{mt_air}
use Rattle.master_runs.specs.Control.{Nodes}
use Rattle.master_runs.specs.Entities.{Entities, bearer_in, with_bearer}
use Rattle.master_runs.specs.Plane as plane
use Rattle.master_runs.specs.Plane.{ack_line, freed_lines, pdu_taken, taken_for, up_line, with_count, confirmed_at}
use Rattle.master_runs.proofs.Tables.{within_table}
use Rattle.node_rules.specs.Anchor.{Active, AnchorState, active_anchor, silent}
use Rattle.node_rules.specs.AnchorReceiving as anchor
use Rattle.node_rules.specs.Choices.{Choices, Send}
use Rattle.node_rules.specs.Effects.{accepted, quiet}
use Rattle.node_rules.specs.Lines.{lines_of}
use Rattle.node_rules.specs.MasterPlan.{adopts_if, on_waiting}
use Rattle.node_rules.specs.declared.inputs.Outcome.{Outcome as WholeOutcome}
use Rattle.node_rules.specs.Entity.{confirmed_count, received_as, risen}
use Rattle.node_rules.specs.Held.{held, holding}
use Rattle.node_rules.specs.HostRules.{host_air_in}
use Rattle.node_rules.specs.Master.{MasterNode, anchor_did, handed_up}
use Rattle.node_rules.specs.MasterStep as master
use Rattle.node_rules.specs.declared.bearers.AnchorOut.{AnchorOut}
use Rattle.node_rules.specs.declared.bearers.Window.{Window}
use Rattle.node_rules.specs.declared.commands.Row.{Row}
use Rattle.master_runs.specs.Forms.{Leg, legs_as, setup_as, entity_as}
use Rattle.master_runs.specs.Same.{tags_of, Inside, IsBearer, IsConfirmed, IsGone, IsPlainLine, SameBearer, no_bearer, a_bearer, SameMaster, MasterDid, master_as}
use Rattle.master_runs.proofs.Ciphering.{ciphered_same}
use Rattle.master_runs.proofs.Lining.{lines_handed}
use Rattle.master_runs.proofs.Legs.{settled, settled_legs, tags-settled, confirmed-settled, acked_in, tags-acked, confirmed-acked, confirmed_fewer}
use Rattle.master_runs.proofs.Holding.{held-same, held-other}
use Rattle.master_runs.proofs.SameConfirming.{kept_fewer, gone_then, filter_none, filter_empty, tag_at}
use Rattle.master_runs.proofs.Downwards.{eqb_sym, not_risen, handed_lines, plain_handed}
use Rattle.master_runs.proofs.Bearers.{active_as, did_there, put_back, bearers_with}

module _ (h : Header) (c : Choices) (s : Nodes) (y : Inside) (same : SameMaster h s y)
    (e : Entities) (x : Leg) (r : Row) (opened : Bool) (tunnel : Outgoing) (w : Window) (is : IsBearer s.drawn s.busy y.command e.bearer.id e x r opened w)
    (at : bearer_in s.master e.bearer.id ≡ Some e) (row : find (λ r. r.id == e.bearer.id) y.rows ≡ Some r)
    (anchor_at : held e.bearer.id y.anchors ≡ Some (active_anchor (active_as h e.bearer x e.tx e.rx opened tunnel))) (window_at : held e.bearer.id y.windows ≡ Some w) where
  -- the master, and the anchor
  abbrev the_master : MasterNode
  the_master = master_as h s.drawn y

  abbrev the_anchor : Active
  the_anchor = active_as h e.bearer x e.tx e.rx opened tunnel

  -- the state with another anchor
  abbrev with_anchor : Leg → Sender → RxParts → List (ℕ × Window) → Inside
  with_anchor z tx rx windows = record y { anchors = holding e.bearer.id (Some (active_anchor (active_as h e.bearer z tx rx opened tunnel))) y.anchors; windows = windows }

  -- nothing is confirmed
  module _ (z : Leg) (rx : RxParts) (tags : tags_of z ≡ e.sent) (confirmed : AllByRecursion (IsConfirmed e.tx.kept) z.pdus) where
    same_received : SameMaster h (record s { master = with_bearer s.master e.bearer.id (Some (record e { rx = rx })) }) (with_anchor z e.tx rx y.windows)
    same_received = bearers_with h s y same e.bearer.id (within_table s.master e.bearer.id e at) (record e { rx = rx }) z r opened tunnel w y.windows row window_at (λ k apart. refl) (record {
      named = refl;
      tags = tags;
      confirmed = confirmed;
      n = is.n;
      tx_n = is.tx_n;
      anchor = is.anchor;
      accepted = is.accepted;
      told = is.told;
      known = is.known;
      unsettled = is.unsettled;
      open_is = is.open_is;
      unused = is.unused;
    })

  -- nothing comes of it
  nothing_came : (z : Leg) → tags_of z ≡ e.sent → AllByRecursion (IsConfirmed e.tx.kept) z.pdus
      → MasterDid h (accepted (anchor_did the_master e.bearer.id (active_anchor (active_as h e.bearer z e.tx e.rx opened tunnel), silent)))
      (record s { master = with_bearer s.master e.bearer.id (Some e) }, (answer.Ok, []))
  nothing_came z tags confirmed = record {
    after = with_anchor z e.tx e.rx y.windows;
    notes = [];
    sends = [];
    is = refl;
    lined = refl;
    plain = tt;
    same = same_received z e.rx tags confirmed;
  }

  -- some COUNTs are confirmed
  module _ (z : Leg) (test : ℕ → Bool) (tags : tags_of z ≡ e.sent) (confirmed : AllByRecursion (IsConfirmed (filter (λ (k : Entry). not (test k.0)) e.tx.kept)) z.pdus)
      (rose : low e.tx ≤ low (record e.tx { kept = filter (λ (k : Entry). not (test k.0)) e.tx.kept })) (acks : List Send) where
    abbrev fewer_kept : Sender
    fewer_kept = record e.tx { kept = filter (λ (k : Entry). not (test k.0)) e.tx.kept }

    abbrev what_comes : AnchorOut
    what_comes = record { adopted = false; ups = []; low = risen (low e.tx) (low fewer_kept); sends = acks }

    -- the two then
    same_confirmed : (w' : Window) (windows : List (ℕ × Window)) → held e.bearer.id windows ≡ Some w' → ((k : ℕ) → (e.bearer.id == k) ≡ false → held k windows ≡ held k y.windows)
        → r.first + w'.accepted ≡ e.tx.next → w'.told ≡ low fewer_kept
        → SameMaster h (record s { master = with_bearer s.master e.bearer.id (Some (record e { tx = fewer_kept })) }) (with_anchor z fewer_kept e.rx windows)
    same_confirmed w' windows here elsewhere accepted told =
        bearers_with h s y same e.bearer.id (within_table s.master e.bearer.id e at) (record e { tx = fewer_kept }) z r opened tunnel w' windows row here elsewhere (record {
          named = refl;
          tags = tags;
          confirmed = confirmed;
          n = is.n;
          tx_n = is.tx_n;
          anchor = is.anchor;
          accepted = accepted;
          told = told;
          known = is.known;
          unsettled = is.unsettled;
          open_is = is.open_is;
          unused = λ open'. let was = is.unused open' in record { kept = filter_empty (λ (k : Entry). not (test k.0)) e.tx.kept was.kept; held = was.held; short = was.short };
        })

    -- the window begins there, if that is further than before
    confirmed_as : (lines : List Line)
        → lines_of (record { answer = answer.Ok; notes = (if nat_lt (low e.tx) (low fewer_kept) then note.Freed e.bearer.id Dl (low fewer_kept) ∷ [] else []); sends = acks }) ≡ lines
        → AllByRecursion IsPlainLine lines
        → MasterDid h (accepted (anchor_did the_master e.bearer.id (active_anchor (active_as h e.bearer z fewer_kept e.rx opened tunnel), what_comes)))
        (record s { master = with_bearer s.master e.bearer.id (Some (record e { tx = fewer_kept })) }, (answer.Ok, lines))
    confirmed_as lines lined plain =
        let told_is = is.told in
        let w' : Window = record w { told = low fewer_kept } in
        elim (cases_Bool (nat_lt (low e.tx) (low fewer_kept))) [
          | inl rises ↦
              let told : nat_lt w.told (low fewer_kept) ≡ true = ap (λ k. nat_lt k (low fewer_kept)) told_is ∙ rises in
              record {
                after = with_anchor z fewer_kept e.rx (holding e.bearer.id (Some w') y.windows);
                notes = note.Freed e.bearer.id Dl (low fewer_kept) ∷ [];
                sends = acks;
                is = rw (rises, window_at, told, append-nil acks) refl;
                lined = (let l = rw rises at lined in l);
                plain = plain;
                same = same_confirmed w' (holding e.bearer.id (Some w') y.windows) (held-same e.bearer.id w' y.windows) (λ k apart. held-other e.bearer.id k w' y.windows apart) is.accepted refl;
              }
          | inr stays ↦
              let upto = ltb-false (low e.tx) (low fewer_kept) stays in
              record {
                after = with_anchor z fewer_kept e.rx y.windows;
                notes = [];
                sends = acks;
                is = rw (stays, append-nil acks) refl;
                lined = (let l = rw stays at lined in l);
                plain = plain;
                same = same_confirmed w y.windows window_at (λ k apart. refl) is.accepted (omega arith);
              }
        ]

  -- ---- a PDU

  module _ (num : ℕ) where
    -- its confirm
    abbrev the_confirm : List Send
    the_confirm = (mt_air, flight.Ack e.bearer.id e.bearer.g num) ∷ []

    -- SDUs are handed up
    handed_as : (rx : RxParts) (us : List (ℕ × List ℕ))
        → MasterDid h (accepted (anchor_did the_master e.bearer.id (active_anchor (active_as h e.bearer x e.tx rx opened tunnel), record { adopted = false; ups = us; low = risen (low e.tx) (low e.tx); sends = the_confirm })))
        (record s { master = with_bearer s.master e.bearer.id (Some (record e { rx = rx })) }, (answer.Ok, map (up_line e.bearer.id Ul) us ++ ack_line e.bearer Ul num ∷ []))
    handed_as rx us = record {
      after = with_anchor x e.tx rx y.windows;
      notes = handed_up M e.bearer.id Ul us;
      sends = the_confirm;
      is = rw (not_risen (low e.tx), append-nil) refl;
      lined = lines_handed answer.Ok M e.bearer.id Ul us (mt_air, flight.Ack e.bearer.id e.bearer.g num) refl ∙ ap (λ ls. ls ++ ack_line e.bearer Ul num ∷ []) (handed_lines e.bearer.id Ul us);
      plain = plain_handed e.bearer.id Ul us (ack_line e.bearer Ul num) tt;
      same = same_received x rx is.tags is.confirmed;
    }

    -- what comes of a step of the anchor
    abbrev did : AnchorState × AnchorOut → MasterNode × WholeOutcome
    did done = accepted (adopts_if c e.bearer.id e.bearer.g done.1.adopted (anchor_did the_master e.bearer.id done))

    -- by the COUNT of a data PDU
    data_as : (body : List ℕ) (o : Option ℕ)
        → MasterDid h (did (anchor.with_confirm the_confirm (anchor.stepped the_anchor (let done = received_as the_anchor.entity.setup e.rx body o in (record the_anchor.entity { rx = done.0 }, done.1)))))
        (let done = with_count h Ul e body o in (record s { master = with_bearer s.master e.bearer.id (Some done.0) }, (answer.Ok, done.1 ++ ack_line e.bearer Ul num ∷ [])))
    data_as body None = handed_as e.rx []
    data_as body (Some count) =
        elim (cases_Bool (count == 2 ^ 32 - 1)) [
          | inl last ↦ did_there h (rw last refl) (rw last refl) (handed_as e.rx [])
          | inr other ↦
              let done = put e.rx count (plane.ciphered h e.bearer.id Ul count body) in
              let clear = ciphered_same h M e.bearer (legs_as x) Ul count body in
              did_there h (rw (other, clear) refl) (rw other refl) (handed_as done.0 (handed_of done.1))
        ]

    -- a report confirms
    report_as : (fmc : ℕ) (bits : List ℕ)
        → MasterDid h (did (anchor.air_pdu (active_anchor the_anchor) num (Ok (report fmc bits))))
        (let done = pdu_taken h Ul e num (Ok (report fmc bits)) in (record s { master = with_bearer s.master e.bearer.id (Some done.0) }, (answer.Ok, done.1)))
    report_as fmc bits =
        let tx = reported e.tx fmc bits in
        let cs = filter (names fmc bits) (counts e.tx.kept) in
        let z = settled x cs in
        let out : AnchorOut = record { adopted = false; ups = []; low = risen (low e.tx) (low tx); sends = the_confirm } in
        let lines = freed_lines e.bearer.id Dl (low e.tx) (low tx) ++ ack_line e.bearer Ul num ∷ [] in
        did_there h {done' = (record s { master = with_bearer s.master e.bearer.id (Some (record e { tx = tx })) }, (answer.Ok, lines))}
        (ap (λ ls. accepted (anchor_did the_master e.bearer.id (active_anchor (record { entity = record { setup = setup_as h M e.bearer ls; tx = tx; rx = e.rx }; is_open = opened; tunnel = tunnel }), out))) (settled_legs x cs)) refl
        (confirmed_as z (names fmc bits) (tags-settled x cs ∙ is.tags)
        (confirmed-settled tx.kept x cs (confirmed_fewer e.tx.kept tx.kept (λ k none. kept_fewer (λ (q : Entry). not (names fmc bits q.0)) k e.tx.kept none) x.pdus is.confirmed))
        (low-reported e.tx fmc bits) the_confirm lines
        (elim (cases_Bool (nat_lt (low e.tx) (low tx))) [ inl yes' ↦ rw yes' refl | inr no' ↦ rw no' refl ])
        (elim (cases_Bool (nat_lt (low e.tx) (low tx))) [ inl yes' ↦ rw yes' (tt, (tt, tt)) | inr no' ↦ rw no' (tt, tt) ]))

    -- a PDU that is read, or is not
    read_as : (q : Result Content PduErr)
        → MasterDid h (did (anchor.air_pdu (active_anchor the_anchor) num q))
        (let done = pdu_taken h Ul e num q in (record s { master = with_bearer s.master e.bearer.id (Some done.0) }, (answer.Ok, done.1)))
    read_as (Err why) = nothing_came x is.tags is.confirmed
    read_as (Ok (sdu shown body)) = data_as body (count_for e.bearer.n e.rx.deliv shown)
    read_as (Ok (report fmc bits)) = report_as fmc bits

    -- ---- a confirm

    -- a PDU that is acked, and is to be gone
    all_acked : (kept : List Entry) (o : Option Pdu) → slice_get x.pdus num ≡ o → ((p : Pdu) → o ≡ Some p → IsGone kept p.count)
        → AllByRecursion (IsConfirmed kept) x.pdus → AllByRecursion (IsConfirmed kept) (set_acked x.pdus num o)
    all_acked kept None there gone all = all
    all_acked kept (Some p) there gone all = confirmed-acked kept x.pdus num p there (gone p refl) all

    -- the leg then
    acked_leg : (kept : List Entry) → ((p : Pdu) → slice_get x.pdus num ≡ Some p → IsGone kept p.count) → AllByRecursion (IsConfirmed kept) x.pdus
        → AllByRecursion (IsConfirmed kept) (acked_in x num).pdus
    acked_leg kept gone all = all_acked kept (slice_get x.pdus num) refl gone all

    -- nothing is confirmed
    none_as : ((p : Pdu) → slice_get x.pdus num ≡ Some p → IsGone e.tx.kept p.count)
        → MasterDid h (accepted (anchor_did the_master e.bearer.id (anchor.stepped the_anchor (entity_as h M e.bearer (acked_in x num) e.tx e.rx, []))))
        (record s { master = with_bearer s.master e.bearer.id (Some e) }, (answer.Ok, []))
    none_as gone = did_there h (rw (not_risen (low e.tx)) refl) refl (nothing_came (acked_in x num) (tags-acked x num ∙ is.tags) (acked_leg e.tx.kept gone is.confirmed))

    -- this COUNT is confirmed
    one_as : (k : ℕ) → ((p : Pdu) → slice_get x.pdus num ≡ Some p → p.count ≡ Some k)
        → MasterDid h (accepted (anchor_did the_master e.bearer.id (anchor.stepped the_anchor (confirmed_count (entity_as h M e.bearer (acked_in x num) e.tx e.rx) (Some k), []))))
        (let done = confirmed_at e (Some (Some k)) in (record s { master = with_bearer s.master e.bearer.id (Some done.0) }, (answer.Ok, done.1)))
    one_as k its =
        let tx = confirmed e.tx k in
        let cs = filter (λ d. d == k) (counts e.tx.kept) in
        let z = settled (acked_in x num) cs in
        let out : AnchorOut = record { adopted = false; ups = []; low = risen (low e.tx) (low tx); sends = [] } in
        let lines = freed_lines e.bearer.id Dl (low e.tx) (low tx) in
        did_there h {done' = (record s { master = with_bearer s.master e.bearer.id (Some (record e { tx = tx })) }, (answer.Ok, lines))}
        (ap (λ ls. accepted (anchor_did the_master e.bearer.id (active_anchor (record { entity = record { setup = setup_as h M e.bearer ls; tx = tx; rx = e.rx }; is_open = opened; tunnel = tunnel }), out))) (settled_legs (acked_in x num) cs)) refl
        (confirmed_as z (λ d. d == k) (tags-settled (acked_in x num) cs ∙ tags-acked x num ∙ is.tags)
        (confirmed-settled tx.kept (acked_in x num) cs (acked_leg tx.kept (λ p there. subst (IsGone tx.kept) (sym (its p there)) (gone_then k e.tx.kept))
        (confirmed_fewer e.tx.kept tx.kept (λ d none. kept_fewer (λ (q : Entry). not (q.0 == k)) d e.tx.kept none) x.pdus is.confirmed)))
        (low-confirmed e.tx k) [] lines
        (elim (cases_Bool (nat_lt (low e.tx) (low tx))) [ inl yes' ↦ rw yes' refl | inr no' ↦ rw no' refl ])
        (elim (cases_Bool (nat_lt (low e.tx) (low tx))) [ inl yes' ↦ rw yes' (tt, tt) | inr no' ↦ rw no' tt ]))

    -- by the PDU of that number
    acked_as : (o : Option Pdu) → slice_get x.pdus num ≡ o
        → MasterDid h (accepted (anchor_did the_master e.bearer.id (anchor.stepped the_anchor (confirmed_count (entity_as h M e.bearer (acked_in x num) e.tx e.rx) (count_unless_acked o), []))))
        (let done = confirmed_at e (option_map (λ (p : Pdu). p.count) o) in (record s { master = with_bearer s.master e.bearer.id (Some done.0) }, (answer.Ok, done.1)))
    acked_as None there = none_as (λ p it. absurd (let no' : None ≡ Some p = sym there ∙ it in cc (no')))
    acked_as (Some p) there = by p.count p.acked refl refl
      where
        -- that PDU is the only one
        the_one : (q : Pdu) → slice_get x.pdus num ≡ Some q → p ≡ q
        the_one q it = let both : Some p ≡ Some q = sym there ∙ it in same_Some p q both

        by : (count : Option ℕ) (acked : Bool) → p.count ≡ count → p.acked ≡ acked
            → MasterDid h (accepted (anchor_did the_master e.bearer.id (anchor.stepped the_anchor (confirmed_count (entity_as h M e.bearer (acked_in x num) e.tx e.rx) (if p.acked then None else p.count), []))))
            (let done = confirmed_at e (Some p.count) in (record s { master = with_bearer s.master e.bearer.id (Some done.0) }, (answer.Ok, done.1)))
        by None acked tag was =
            did_there h (rw tag (elim (cases_Bool p.acked) [ inl yes' ↦ rw yes' refl | inr no' ↦ rw no' refl ])) (rw tag refl)
            (none_as (λ q it. subst (IsGone e.tx.kept) (sym tag ∙ ap (λ (z : Pdu). z.count) (the_one q it)) tt))
        by (Some k) true tag was =
            let gone : IsGone e.tx.kept (Some k) = subst (IsGone e.tx.kept) tag (each_at (IsConfirmed e.tx.kept) x.pdus num p is.confirmed there was) in
            let stays : confirmed e.tx k ≡ e.tx = ap (λ es. record e.tx { kept = es }) (filter_none k e.tx.kept gone) in
            did_there h (rw was refl)
            (rw tag (ap (λ (tx : Sender). (record s { master = with_bearer s.master e.bearer.id (Some (record e { tx = tx })) }, (answer.Ok, freed_lines e.bearer.id Dl (low e.tx) (low tx)))) stays
            ∙ ap (λ b. (record s { master = with_bearer s.master e.bearer.id (Some e) }, (answer.Ok, if b then line.Note (note.Freed e.bearer.id Dl (low e.tx)) ∷ [] else []))) (le-ltb (low e.tx) (low e.tx) (omega arith))))
            (none_as (λ q it. subst (IsGone e.tx.kept) (sym tag ∙ ap (λ (z : Pdu). z.count) (the_one q it)) gone))
        by (Some k) false tag was =
            did_there h (rw (was, tag) refl) (rw tag refl) (one_as k (λ q it. ap (λ (z : Pdu). z.count) (sym (the_one q it)) ∙ tag))

    -- ---- a flight of this bearer

    -- it is of another generation
    other_came : MasterDid h (accepted (the_master, quiet)) (record s { master = with_bearer s.master e.bearer.id (Some e) }, (answer.Ok, []))
    other_came =
        did_there h refl (ap (λ t. (record s { master = t }, (answer.Ok, []))) (put_back s.master e.bearer.id e at))
        (record { after = y; notes = []; sends = []; is = refl; lined = refl; plain = tt; same = same })

    -- it is on the leg
    on_leg : (g : ℕ) → (e.bearer.g == g) ≡ true → anchor.is_on_leg the_anchor.entity.setup cell.Mcg e.bearer.id g ≡ true
    on_leg g mine = rw (eq-eqb e.bearer.id e.bearer.id refl, mine) refl

    -- a PDU over the air
    pdu_came : (g : ℕ) (tag : Option ℕ) (pdu : List ℕ) → let f = flight.Air e.bearer.id g num tag pdu in
        MasterDid h (accepted (master.data_taken c the_master (λ a. anchor.air_in a cell.Mcg f) (λ k. host_air_in k f) (Some (e.bearer.id, g))))
        (let done = taken_for h Ul s.master e.bearer.id f (Some e) in (record s { master = done.0 }, (answer.Ok, done.1)))
    pdu_came g tag pdu =
        let f = flight.Air e.bearer.id g num tag pdu in
        let F : AnchorState → AnchorState × AnchorOut = λ a. anchor.air_in a cell.Mcg f in
        let first = ap (λ q. accepted (if master.is_anchor_of g q then on_waiting c the_master e.bearer.id F q else (the_master, quiet))) anchor_at in
        elim (cases_Bool (g == e.bearer.g)) [
          | inl mine ↦
              let mine' : (e.bearer.g == g) ≡ true = eqb_sym e.bearer.g g ∙ mine in
              did_there h
              (first ∙ ap (λ b. accepted (if b then on_waiting c the_master e.bearer.id F (Some (active_anchor the_anchor)) else (the_master, quiet))) mine'
              ∙ ap (λ b. did (if b then anchor.air_pdu (active_anchor the_anchor) num (decoded e.bearer.n pdu) else (active_anchor the_anchor, silent))) (on_leg g mine'))
              (rw mine refl) (read_as (decoded e.bearer.n pdu))
          | inr other ↦
              let other' : (e.bearer.g == g) ≡ false = eqb_sym e.bearer.g g ∙ other in
              did_there h (first ∙ ap (λ b. accepted (if b then on_waiting c the_master e.bearer.id F (Some (active_anchor the_anchor)) else (the_master, quiet))) other') (rw other refl) other_came
        ]

    -- a confirm over the air
    ack_came : (g : ℕ) → let f = flight.Ack e.bearer.id g num in
        MasterDid h (accepted (master.data_taken c the_master (λ a. anchor.air_in a cell.Mcg f) (λ k. host_air_in k f) (Some (e.bearer.id, g))))
        (let done = taken_for h Ul s.master e.bearer.id f (Some e) in (record s { master = done.0 }, (answer.Ok, done.1)))
    ack_came g =
        let f = flight.Ack e.bearer.id g num in
        let F : AnchorState → AnchorState × AnchorOut = λ a. anchor.air_in a cell.Mcg f in
        let first = ap (λ q. accepted (if master.is_anchor_of g q then on_waiting c the_master e.bearer.id F q else (the_master, quiet))) anchor_at in
        let listed : slice_get e.sent num ≡ option_map (λ (p : Pdu). p.count) (slice_get x.pdus num) =
        ap (λ (ts : List (Option ℕ)). slice_get ts num) (sym is.tags) ∙ tag_at x.pdus num in
        elim (cases_Bool (g == e.bearer.g)) [
          | inl mine ↦
              let mine' : (e.bearer.g == g) ≡ true = eqb_sym e.bearer.g g ∙ mine in
              did_there h
              (first ∙ ap (λ b. accepted (if b then on_waiting c the_master e.bearer.id F (Some (active_anchor the_anchor)) else (the_master, quiet))) mine'
              ∙ ap (λ b. did (if b then anchor.air_ack (active_anchor the_anchor) num else (active_anchor the_anchor, silent))) (on_leg g mine'))
              (rw mine (ap (λ o. let done = confirmed_at e o in (record s { master = with_bearer s.master e.bearer.id (Some done.0) }, (answer.Ok, done.1))) listed))
              (acked_as (slice_get x.pdus num) refl)
          | inr other ↦
              let other' : (e.bearer.g == g) ≡ false = eqb_sym e.bearer.g g ∙ other in
              did_there h (first ∙ ap (λ b. accepted (if b then on_waiting c the_master e.bearer.id F (Some (active_anchor the_anchor)) else (the_master, quiet))) other') (rw other refl) other_came
        ]

-- a PDU comes for an identity
pub pdu_up : (h : Header) (c : Choices) (s : Nodes) (y : Inside) → SameMaster h s y → (id g num : ℕ) (tag : Option ℕ) (pdu : List ℕ)
    {o : Option Entities} {r : Option Row} {a : Option AnchorState} {w : Option Window}
    → SameBearer h s.drawn s.busy y.command id o r a w → bearer_in s.master id ≡ o → find (λ r. r.id == id) y.rows ≡ r → held id y.anchors ≡ a → held id y.windows ≡ w
    → let f = flight.Air id g num tag pdu in
    MasterDid h (accepted (master.data_taken c (master_as h s.drawn y) (λ a. anchor.air_in a cell.Mcg f) (λ k. host_air_in k f) (Some (id, g))))
    (let done = taken_for h Ul s.master id f o in (record s { master = done.0 }, (answer.Ok, done.1)))
pdu_up h c s y same id g num tag pdu no_bearer at row anchor_at window_at =
    did_there h (rw anchor_at refl) refl (record { after = y; notes = []; sends = []; is = refl; lined = refl; plain = tt; same = same })
pdu_up h c s y same id g num tag pdu (a_bearer e x r opened tunnel w is) at row anchor_at window_at =
    let P : ℕ → Type 0 = λ j. IsBearer s.drawn s.busy y.command j e x r opened w → bearer_in s.master j ≡ Some e → find (λ r. r.id == j) y.rows ≡ Some r
    → held j y.anchors ≡ Some (active_anchor (active_as h e.bearer x e.tx e.rx opened tunnel)) → held j y.windows ≡ Some w → let f = flight.Air j g num tag pdu in
    MasterDid h (accepted (master.data_taken c (master_as h s.drawn y) (λ a. anchor.air_in a cell.Mcg f) (λ k. host_air_in k f) (Some (j, g))))
    (let done = taken_for h Ul s.master j f (Some e) in (record s { master = done.0 }, (answer.Ok, done.1))) in
    subst P is.named (λ is at row anchor_at window_at. pdu_came h c s y same e x r opened tunnel w is at row anchor_at window_at num g tag pdu) is at row anchor_at window_at

-- a confirm
pub ack_up : (h : Header) (c : Choices) (s : Nodes) (y : Inside) → SameMaster h s y → (id g num : ℕ)
    {o : Option Entities} {r : Option Row} {a : Option AnchorState} {w : Option Window}
    → SameBearer h s.drawn s.busy y.command id o r a w → bearer_in s.master id ≡ o → find (λ r. r.id == id) y.rows ≡ r → held id y.anchors ≡ a → held id y.windows ≡ w
    → let f = flight.Ack id g num in
    MasterDid h (accepted (master.data_taken c (master_as h s.drawn y) (λ a. anchor.air_in a cell.Mcg f) (λ k. host_air_in k f) (Some (id, g))))
    (let done = taken_for h Ul s.master id f o in (record s { master = done.0 }, (answer.Ok, done.1)))
ack_up h c s y same id g num no_bearer at row anchor_at window_at =
    did_there h (rw anchor_at refl) refl (record { after = y; notes = []; sends = []; is = refl; lined = refl; plain = tt; same = same })
ack_up h c s y same id g num (a_bearer e x r opened tunnel w is) at row anchor_at window_at =
    let P : ℕ → Type 0 = λ j. IsBearer s.drawn s.busy y.command j e x r opened w → bearer_in s.master j ≡ Some e → find (λ r. r.id == j) y.rows ≡ Some r
    → held j y.anchors ≡ Some (active_anchor (active_as h e.bearer x e.tx e.rx opened tunnel)) → held j y.windows ≡ Some w → let f = flight.Ack j g num in
    MasterDid h (accepted (master.data_taken c (master_as h s.drawn y) (λ a. anchor.air_in a cell.Mcg f) (λ k. host_air_in k f) (Some (j, g))))
    (let done = taken_for h Ul s.master j f (Some e) in (record s { master = done.0 }, (answer.Ok, done.1))) in
    subst P is.named (λ is at row anchor_at window_at. ack_came h c s y same e x r opened tunnel w is at row anchor_at window_at num g) is at row anchor_at window_at
