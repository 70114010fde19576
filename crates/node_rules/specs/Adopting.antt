-- How an anchor takes a bearer over (TS 37.340, 10; TS 38.423, 8.2.2): SN STATUS TRANSFER and all that the old anchor forwards
-- have to be there.
use Rattle.std.specs.Prelude.{ℕ, ◌-◌, ◌^◌, ◌&&◌, ◌++◌, nat_le, nat_lt, not, if◌then◌else◌, Bool, true, false, List, [], fold, length, Option, Some, None, is_none}
use Rattle.std.specs.List.{filter_map}
use Rattle.dc_base.specs.Count.{count_for, modulus}
use Rattle.dc_base.specs.declared.numbers.SnLen.{SnLen}
use Rattle.dc_base.specs.declared.nodes.Dir.{Dir}
use Rattle.dc_base.specs.declared.nodes.Dir.TheVariants.{Ul, Dl}
use Rattle.dc_base.specs.declared.records.StatusTransfer.{StatusTransfer}
use Rattle.forward.specs.Load.{Sdu, Load}
use Rattle.pdcp_rx.specs.Entries.{Entry, is_stored, with_sdu}
use Rattle.node_rules.specs.declared.bearers.AnchorOut.{AnchorOut}
use Rattle.node_rules.specs.Anchor.{Active, AnchorState, Waiting, active_anchor, new_tunnel, silent, waiting_anchor}
use Rattle.node_rules.specs.AnchorSending.{open_if}
use Rattle.node_rules.specs.Choices.{Choices, Send}
use Rattle.node_rules.specs.Entity.{Entity, risen_low, take_pdus}
use Rattle.forward.specs.Forwarded.{after, whole}
use Rattle.node_rules.specs.Setup.{is_of}

-- ---- what of the forwarded SDUs is taken

-- whether the SDU is a payload: 1 to 9000 octets (this product's own)
abbrev pub is_payload : List ℕ → Bool
is_payload sdu = nat_le 1 (length sdu) && nat_le (length sdu) 9000

-- the COUNT of an SN, if it is one of the bearer, with this reference (TS 38.323, 5.2.2)
abbrev pub count_of : SnLen → ℕ → Option ℕ → Option ℕ
count_of n reference None = None
count_of n reference (Some sn) = if nat_lt sn (modulus n) then count_for n reference sn else None

-- the entries with one more; one of a COUNT that is there already is left out, and so is one that is no payload or whose
-- COUNT may not be there (part of the rule counted)
abbrev pub with_counted : (ℕ → Bool) → List Entry → List ℕ → Option ℕ → List Entry
with_counted may_be es sdu None = es
with_counted may_be es sdu (Some c) = if is_payload sdu && may_be c && not (is_stored c es) then with_sdu c sdu es else es

-- the forwarded SDUs that have a COUNT, in ascending COUNT (TS 38.423, 8.2.2; TS 37.340, 10)
abbrev pub counted : SnLen → ℕ → (ℕ → Bool) → List Sdu → List Entry
counted n reference may_be sdus = fold (λ es (s : Sdu). with_counted may_be es s.1 (count_of n reference s.0)) [] sdus

-- downlink SDUs with an SN were numbered: their COUNTs lie below that of the next one (TS 38.423, 8.2.2; TS 37.340, 10)
abbrev pub numbered_of : SnLen → ℕ → List Sdu → List Entry
numbered_of n dl sdus = counted n dl (λ c. nat_lt c dl) sdus

-- uplink SDUs are stored: their COUNTs lie above RX_DELIV, and the last COUNT is not used (TS 38.423, 8.2.2; TS 37.340, 10)
abbrev pub stored_of : SnLen → ℕ → List Sdu → List Entry
stored_of n ul sdus = counted n ul (λ c. nat_lt ul c && nat_lt c (2 ^ 32 - 1)) sdus

-- the SDU, if it has no SN and is a payload (part of the rule taken_over)
abbrev pub if_fresh : Sdu → Option (List ℕ)
if_fresh s = if is_none s.0 && is_payload s.1 then Some s.1 else None

-- ---- the adoption

-- the entity that is taken over: both sides as the old anchor left them, and the SDUs that have no COUNT yet
-- (TS 38.423, 8.2.2; TS 37.340, 10)
abbrev pub taken_over : Waiting → StatusTransfer → List Sdu → List Sdu → Entity
taken_over w st down up = record {
  setup = w.setup;
  tx = record { n = w.setup.n; next = st.dl; kept = numbered_of w.setup.n st.dl down; held = filter_map if_fresh down ++ w.fresh };
  rx = record { n = w.setup.n; deliv = st.ul; stored = stored_of w.setup.n st.ul up };
}

-- the anchor is active with this entity, and opens if it was told that the reconfiguration is complete
-- (part of the rule adopts)
abbrev pub active_with : Choices → Waiting → Entity → Active × List Send
active_with c w e = open_if w.is_told c (record { entity = e; is_open = false; tunnel = new_tunnel w.setup.n })

-- it adopts: it takes the entity over, then the uplink PDUs that it kept, and opens
-- (TS 38.423, 8.2.2; TS 37.340, 10; the order is this product's own)
abbrev pub adopts : Choices → Waiting → Entity → AnchorState × AnchorOut
adopts c w e =
    let up = take_pdus e w.pdus in
    let done = active_with c w up.0 in
    (active_anchor done.0, record { adopted = true; ups = up.1; low = risen_low e up.0; sends = done.1 })

-- once the record and both lists are there (part of the rule settled)
abbrev pub adopts_with : Choices → Waiting → Option StatusTransfer → Option (List Sdu) → Option (List Sdu) → AnchorState × AnchorOut
adopts_with c w None down up = (waiting_anchor w, silent)
adopts_with c w (Some st) None up = (waiting_anchor w, silent)
adopts_with c w (Some st) (Some down) None = (waiting_anchor w, silent)
adopts_with c w (Some st) (Some down) (Some up) = adopts c w (taken_over w st down up)

-- the anchor after something that it waits for came (this product's own)
abbrev pub settled : Choices → Waiting → AnchorState × AnchorOut
settled c w = adopts_with c w w.transfer (whole w.down) (whole w.up)

-- ---- what it waits for

-- the first SN STATUS TRANSFER counts (part of the rule status_in)
abbrev pub status_at : Choices → Waiting → StatusTransfer → AnchorState × AnchorOut
status_at c w st = if is_of w.setup st.id st.g && is_none w.transfer then settled c (record w { transfer = Some st }) else (waiting_anchor w, silent)

-- SN STATUS TRANSFER comes (TS 38.423, 8.2.2)
abbrev pub status_in : Choices → AnchorState → StatusTransfer → AnchorState × AnchorOut
status_in c (waiting_anchor w) st = status_at c w st
status_in c (active_anchor a) st = (active_anchor a, silent)

-- the anchor with what came out of a forwarding tunnel (part of the rule forward_in)
abbrev pub with_load : Waiting → Dir → Load → Waiting
with_load w Dl load = record w { down = after w.down load }
with_load w Ul load = record w { up = after w.up load }

-- a packet of a forwarding tunnel comes; an anchor that adopted already has all of them (TS 37.340, 10; TS 29.281, 5)
abbrev pub forward_in : Choices → AnchorState → Dir → Load → AnchorState × AnchorOut
forward_in c (waiting_anchor w) d load = settled c (with_load w d load)
forward_in c (active_anchor a) d load = (active_anchor a, silent)
