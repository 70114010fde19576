-- What comes.
use Rattle.std.proofs.Common.{ℕ, ◌≡◌, ◌≤◌, ◌<◌, ◌-◌, ◌^◌, ◌==◌, Bool, true, false, List, [], Some, None, Option, length, arith, length-append, ap, refl, nat_lt, ◌∙◌}
use Rattle.std.proofs.lemmas.Bool.{ne_eqb}
use Rattle.dc_base.specs.Count.{count_for}
use Rattle.node_rules.specs.Entity.{Entity, received_as, received_under, take_pdu}
use Rattle.pdcp_pdu.specs.Pdu.{sdu}
use Rattle.pdcp_rx.specs.Entries.{Entry, is_stored}
use Rattle.pdcp_rx.specs.Receiver.{put}
use Rattle.pdcp_rx.specs.declared.entity.RxParts.{RxParts}
use Rattle.pdcp_pdu.specs.StatusReport.{NamesReceived, report_header}

-- a report is short
pub report_short : (fmc : ℕ) (set : ℕ → Bool) (octets : List ℕ) → NamesReceived fmc set octets → length octets ≤ 9000
report_short fmc set octets names =
    let n = length-append (report_header names.report.r fmc) names.bits in
    let same = ap (λ (xs : List ℕ). length xs) names.report.spelled in
    omega (arith, names.report.most)

-- a data PDU by its COUNT
abbrev pub Received : Entity → List ℕ → Option ℕ → Entity × List Entry
Received e body count = let done = received_as e.setup e.rx body count in (record e { rx = done.0 }, done.1)

-- there is none
pub received_none : (e : Entity) (sn : ℕ) (body : List ℕ) → count_for e.setup.n e.rx.deliv sn ≡ None → take_pdu e (sdu sn body) ≡ (e, [])
received_none e sn body none = ap (λ (o : Option ℕ). Received e body o) none

-- it is the last
pub received_last : (e : Entity) (sn count : ℕ) (body : List ℕ) → count_for e.setup.n e.rx.deliv sn ≡ Some count → count ≡ 2 ^ 32 - 1 → take_pdu e (sdu sn body) ≡ (e, [])
received_last e sn count body found last =
    ap (λ (o : Option ℕ). Received e body o) found ∙ ap (λ (c : ℕ). Received e body (Some c)) last

-- it is another
pub received_some : (e : Entity) (sn count : ℕ) (body : List ℕ) → count_for e.setup.n e.rx.deliv sn ≡ Some count → count < 2 ^ 32 - 1
    → (let done = received_under false e.setup e.rx count body in let after : Entity × List Entry = (record e { rx = done.0 }, done.1) in take_pdu e (sdu sn body) ≡ after)
received_some e sn count body found less =
    let other : (count == 2 ^ 32 - 1) ≡ false = ne_eqb count (2 ^ 32 - 1) (λ is. omega arith) in
    let under : Bool → Entity × List Entry = λ b. let done = received_under b e.setup e.rx count body in (record e { rx = done.0 }, done.1) in
    ap (λ (o : Option ℕ). Received e body o) found ∙ ap under other

-- the SN length stays
pub put_keeps : (r : RxParts) (count : ℕ) (octets : List ℕ) → (put r count octets).0.n ≡ r.n
put_keeps r count octets = at (nat_lt count r.deliv) (is_stored count r.stored) refl refl
  where
    at : (t u : Bool) → nat_lt count r.deliv ≡ t → is_stored count r.stored ≡ u → (put r count octets).0.n ≡ r.n
    at true u old again = rw old refl
    at false true old again = rw (old, again) refl
    at false false old again = rw (old, again) refl
