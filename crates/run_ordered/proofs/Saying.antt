-- What a flight says of sending entities that are handed over, for one of them.
use Rattle.std.proofs.Common.{refl, Bool, sym, ℕ, ◌≡◌, ◌∙◌}
use Rattle.dc_base.specs.declared.flights.Flight.{Flight}
use Rattle.dc_base.specs.declared.flights.Flight.TheVariants as flight
use Rattle.dc_base.specs.declared.records.Rec.{Rec}
use Rattle.dc_base.specs.declared.records.Rec.TheVariants as rec
use Rattle.forward.specs.Tunnel.{IsLater}
use Rattle.forward.proofs.Arrivals.{packet_later}
use Rattle.pdcp_tx.specs.Sender.{Sender}
use Rattle.run_ordered.specs.Forwarding.{IsBeforeFreeze, IsNoTransfer, IsOfSender, IsOtherRecord, IsRecordOf, IsSilent, IsSilentOf, IsTransferElse, SaysOnlyOf, SaysRecordOf, down_tunnel}

-- ---- of this one

record_only : (tx : Sender) (g id : ℕ) (r : Rec) → SaysRecordOf tx g id r → IsRecordOf tx g id r
record_only tx g id (rec.Reconf plan key) says = tt
record_only tx g id (rec.Rcomp g') says = tt
record_only tx g id (rec.Scgf failed) says = tt
record_only tx g id (rec.Recov id') says = tt
record_only tx g id (rec.Recovd id') says = tt
record_only tx g id (rec.Addreq plan key) says = tt
record_only tx g id (rec.Addack g') says = tt
record_only tx g id (rec.Addrej g') says = tt
record_only tx g id (rec.Modreq plan key) says = tt
record_only tx g id (rec.Modack g') says = tt
record_only tx g id (rec.Modrej g') says = tt
record_only tx g id (rec.Recfg g') says = tt
record_only tx g id (rec.Relreq plan) says = tt
record_only tx g id (rec.Relack g') says = tt
record_only tx g id (rec.Relrej g') says = tt
record_only tx g id (rec.Uecr g') says = tt
record_only tx g id (rec.Snst st) says = λ same named. says.2
record_only tx g id (rec.Moved g' id') says = tt
record_only tx g id (rec.Scgn id' g') says = tt
record_only tx g id rec.Modrqd says = tt
record_only tx g id (rec.Modcnf g') says = tt
record_only tx g id (rec.Modref word) says = tt
record_only tx g id rec.Chgrqd says = tt
record_only tx g id (rec.Chgcnf plan) says = tt
record_only tx g id (rec.Chgref word) says = tt
record_only tx g id rec.Relrqd says = tt
record_only tx g id (rec.Relcnf plan) says = tt

-- what is said only of an entity is so of it
pub only_of : (tx : Sender) (closed : Bool) (g id : ℕ) (f : Flight) → SaysOnlyOf tx closed g id f → IsOfSender tx closed g id f
only_of tx closed g id (flight.Air id' g' num tag pdu) says = tt
only_of tx closed g id (flight.Ack id' g' num) says = tt
only_of tx closed g id (flight.Tun tag packet) says = λ load is. (says id g load is).2
only_of tx closed g id (flight.Sdu id' g' payload) says = tt
only_of tx closed g id (flight.End id' g') says = tt
only_of tx closed g id (flight.Told id' g' count) says = tt
only_of tx closed g id (flight.Ctl r) says = record_only tx g id r says

-- ---- of another

record_other : (tx ty : Sender) (h i g id : ℕ) (r : Rec) → (g ≡ h → id ≡ i → ⊥) → SaysRecordOf tx h i r → IsRecordOf ty g id r
record_other tx ty h i g id (rec.Reconf plan key) other says = tt
record_other tx ty h i g id (rec.Rcomp g') other says = tt
record_other tx ty h i g id (rec.Scgf failed) other says = tt
record_other tx ty h i g id (rec.Recov id') other says = tt
record_other tx ty h i g id (rec.Recovd id') other says = tt
record_other tx ty h i g id (rec.Addreq plan key) other says = tt
record_other tx ty h i g id (rec.Addack g') other says = tt
record_other tx ty h i g id (rec.Addrej g') other says = tt
record_other tx ty h i g id (rec.Modreq plan key) other says = tt
record_other tx ty h i g id (rec.Modack g') other says = tt
record_other tx ty h i g id (rec.Modrej g') other says = tt
record_other tx ty h i g id (rec.Recfg g') other says = tt
record_other tx ty h i g id (rec.Relreq plan) other says = tt
record_other tx ty h i g id (rec.Relack g') other says = tt
record_other tx ty h i g id (rec.Relrej g') other says = tt
record_other tx ty h i g id (rec.Uecr g') other says = tt
record_other tx ty h i g id (rec.Snst st) other says = λ same named. absurd (other (sym same ∙ says.0) (sym named ∙ says.1))
record_other tx ty h i g id (rec.Moved g' id') other says = tt
record_other tx ty h i g id (rec.Scgn id' g') other says = tt
record_other tx ty h i g id rec.Modrqd other says = tt
record_other tx ty h i g id (rec.Modcnf g') other says = tt
record_other tx ty h i g id (rec.Modref word) other says = tt
record_other tx ty h i g id rec.Chgrqd other says = tt
record_other tx ty h i g id (rec.Chgcnf plan) other says = tt
record_other tx ty h i g id (rec.Chgref word) other says = tt
record_other tx ty h i g id rec.Relrqd other says = tt
record_other tx ty h i g id (rec.Relcnf plan) other says = tt

-- nor of any other
pub only_other : (tx ty : Sender) (closed shut : Bool) (h i g id : ℕ) (f : Flight) → (g ≡ h → id ≡ i → ⊥) → SaysOnlyOf tx closed h i f → IsOfSender ty shut g id f
only_other tx ty closed shut h i g id (flight.Air id' g' num tag pdu) other says = tt
only_other tx ty closed shut h i g id (flight.Ack id' g' num) other says = tt
only_other tx ty closed shut h i g id (flight.Tun tag packet) other says = λ load is. let said = says id g load is in absurd (other said.0 said.1)
only_other tx ty closed shut h i g id (flight.Sdu id' g' payload) other says = tt
only_other tx ty closed shut h i g id (flight.End id' g') other says = tt
only_other tx ty closed shut h i g id (flight.Told id' g' count) other says = tt
only_other tx ty closed shut h i g id (flight.Ctl r) other says = record_other tx ty h i g id r other says

record_before : (tx : Sender) (h i g id : ℕ) (r : Rec) → (g ≡ h → id ≡ i → ⊥) → SaysRecordOf tx h i r → IsOtherRecord g id r
record_before tx h i g id (rec.Reconf plan key) other says = tt
record_before tx h i g id (rec.Rcomp g') other says = tt
record_before tx h i g id (rec.Scgf failed) other says = tt
record_before tx h i g id (rec.Recov id') other says = tt
record_before tx h i g id (rec.Recovd id') other says = tt
record_before tx h i g id (rec.Addreq plan key) other says = tt
record_before tx h i g id (rec.Addack g') other says = tt
record_before tx h i g id (rec.Addrej g') other says = tt
record_before tx h i g id (rec.Modreq plan key) other says = tt
record_before tx h i g id (rec.Modack g') other says = tt
record_before tx h i g id (rec.Modrej g') other says = tt
record_before tx h i g id (rec.Recfg g') other says = tt
record_before tx h i g id (rec.Relreq plan) other says = tt
record_before tx h i g id (rec.Relack g') other says = tt
record_before tx h i g id (rec.Relrej g') other says = tt
record_before tx h i g id (rec.Uecr g') other says = tt
record_before tx h i g id (rec.Snst st) other says = λ same named. other (sym same ∙ says.0) (sym named ∙ says.1)
record_before tx h i g id (rec.Moved g' id') other says = tt
record_before tx h i g id (rec.Scgn id' g') other says = tt
record_before tx h i g id rec.Modrqd other says = tt
record_before tx h i g id (rec.Modcnf g') other says = tt
record_before tx h i g id (rec.Modref word) other says = tt
record_before tx h i g id rec.Chgrqd other says = tt
record_before tx h i g id (rec.Chgcnf plan) other says = tt
record_before tx h i g id (rec.Chgref word) other says = tt
record_before tx h i g id rec.Relrqd other says = tt
record_before tx h i g id (rec.Relcnf plan) other says = tt

pub only_before : (tx : Sender) (closed : Bool) (h i g id : ℕ) (f : Flight) → (g ≡ h → id ≡ i → ⊥) → SaysOnlyOf tx closed h i f → IsBeforeFreeze g id f
only_before tx closed h i g id (flight.Air id' g' num tag pdu) other says = tt
only_before tx closed h i g id (flight.Ack id' g' num) other says = tt
only_before tx closed h i g id (flight.Tun tag packet) other says = λ load is. let said = says id g load is in other said.0 said.1
only_before tx closed h i g id (flight.Sdu id' g' payload) other says = tt
only_before tx closed h i g id (flight.End id' g') other says = tt
only_before tx closed h i g id (flight.Told id' g' count) other says = tt
only_before tx closed h i g id (flight.Ctl r) other says = record_before tx h i g id r other says

-- ---- of none

record_silent : (tx : Sender) (g id : ℕ) (r : Rec) → IsNoTransfer r → IsRecordOf tx g id r
record_silent tx g id (rec.Reconf plan key) none = tt
record_silent tx g id (rec.Rcomp g') none = tt
record_silent tx g id (rec.Scgf failed) none = tt
record_silent tx g id (rec.Recov id') none = tt
record_silent tx g id (rec.Recovd id') none = tt
record_silent tx g id (rec.Addreq plan key) none = tt
record_silent tx g id (rec.Addack g') none = tt
record_silent tx g id (rec.Addrej g') none = tt
record_silent tx g id (rec.Modreq plan key) none = tt
record_silent tx g id (rec.Modack g') none = tt
record_silent tx g id (rec.Modrej g') none = tt
record_silent tx g id (rec.Recfg g') none = tt
record_silent tx g id (rec.Relreq plan) none = tt
record_silent tx g id (rec.Relack g') none = tt
record_silent tx g id (rec.Relrej g') none = tt
record_silent tx g id (rec.Uecr g') none = tt
record_silent tx g id (rec.Snst st) none = absurd none
record_silent tx g id (rec.Moved g' id') none = tt
record_silent tx g id (rec.Scgn id' g') none = tt
record_silent tx g id rec.Modrqd none = tt
record_silent tx g id (rec.Modcnf g') none = tt
record_silent tx g id (rec.Modref word) none = tt
record_silent tx g id rec.Chgrqd none = tt
record_silent tx g id (rec.Chgcnf plan) none = tt
record_silent tx g id (rec.Chgref word) none = tt
record_silent tx g id rec.Relrqd none = tt
record_silent tx g id (rec.Relcnf plan) none = tt

-- what says nothing is so of each
pub silent_of : (tx : Sender) (closed : Bool) (g id : ℕ) (f : Flight) → IsSilent f → IsOfSender tx closed g id f
silent_of tx closed g id (flight.Air id' g' num tag pdu) none = tt
silent_of tx closed g id (flight.Ack id' g' num) none = tt
silent_of tx closed g id (flight.Tun tag packet) none = λ load is. absurd (none id g load is)
silent_of tx closed g id (flight.Sdu id' g' payload) none = tt
silent_of tx closed g id (flight.End id' g') none = tt
silent_of tx closed g id (flight.Told id' g' count) none = tt
silent_of tx closed g id (flight.Ctl r) none = record_silent tx g id r none

record_silent_before : (g id : ℕ) (r : Rec) → IsNoTransfer r → IsOtherRecord g id r
record_silent_before g id (rec.Reconf plan key) none = tt
record_silent_before g id (rec.Rcomp g') none = tt
record_silent_before g id (rec.Scgf failed) none = tt
record_silent_before g id (rec.Recov id') none = tt
record_silent_before g id (rec.Recovd id') none = tt
record_silent_before g id (rec.Addreq plan key) none = tt
record_silent_before g id (rec.Addack g') none = tt
record_silent_before g id (rec.Addrej g') none = tt
record_silent_before g id (rec.Modreq plan key) none = tt
record_silent_before g id (rec.Modack g') none = tt
record_silent_before g id (rec.Modrej g') none = tt
record_silent_before g id (rec.Recfg g') none = tt
record_silent_before g id (rec.Relreq plan) none = tt
record_silent_before g id (rec.Relack g') none = tt
record_silent_before g id (rec.Relrej g') none = tt
record_silent_before g id (rec.Uecr g') none = tt
record_silent_before g id (rec.Snst st) none = absurd none
record_silent_before g id (rec.Moved g' id') none = tt
record_silent_before g id (rec.Scgn id' g') none = tt
record_silent_before g id rec.Modrqd none = tt
record_silent_before g id (rec.Modcnf g') none = tt
record_silent_before g id (rec.Modref word) none = tt
record_silent_before g id rec.Chgrqd none = tt
record_silent_before g id (rec.Chgcnf plan) none = tt
record_silent_before g id (rec.Chgref word) none = tt
record_silent_before g id rec.Relrqd none = tt
record_silent_before g id (rec.Relcnf plan) none = tt

pub silent_before : (g id : ℕ) (f : Flight) → IsSilent f → IsBeforeFreeze g id f
silent_before g id (flight.Air id' g' num tag pdu) none = tt
silent_before g id (flight.Ack id' g' num) none = tt
silent_before g id (flight.Tun tag packet) none = λ load is. none id g load is
silent_before g id (flight.Sdu id' g' payload) none = tt
silent_before g id (flight.End id' g') none = tt
silent_before g id (flight.Told id' g' count) none = tt
silent_before g id (flight.Ctl r) none = record_silent_before g id r none

-- ---- before and later

record_first : (tx : Sender) (g id : ℕ) (r : Rec) → IsOtherRecord g id r → IsRecordOf tx g id r
record_first tx g id (rec.Reconf plan key) none = tt
record_first tx g id (rec.Rcomp g') none = tt
record_first tx g id (rec.Scgf failed) none = tt
record_first tx g id (rec.Recov id') none = tt
record_first tx g id (rec.Recovd id') none = tt
record_first tx g id (rec.Addreq plan key) none = tt
record_first tx g id (rec.Addack g') none = tt
record_first tx g id (rec.Addrej g') none = tt
record_first tx g id (rec.Modreq plan key) none = tt
record_first tx g id (rec.Modack g') none = tt
record_first tx g id (rec.Modrej g') none = tt
record_first tx g id (rec.Recfg g') none = tt
record_first tx g id (rec.Relreq plan) none = tt
record_first tx g id (rec.Relack g') none = tt
record_first tx g id (rec.Relrej g') none = tt
record_first tx g id (rec.Uecr g') none = tt
record_first tx g id (rec.Snst st) none = λ same named. absurd (none same named)
record_first tx g id (rec.Moved g' id') none = tt
record_first tx g id (rec.Scgn id' g') none = tt
record_first tx g id rec.Modrqd none = tt
record_first tx g id (rec.Modcnf g') none = tt
record_first tx g id (rec.Modref word) none = tt
record_first tx g id rec.Chgrqd none = tt
record_first tx g id (rec.Chgcnf plan) none = tt
record_first tx g id (rec.Chgref word) none = tt
record_first tx g id rec.Relrqd none = tt
record_first tx g id (rec.Relcnf plan) none = tt

-- what was before the freeze is of any entity that is frozen then
pub before_of : (tx : Sender) (closed : Bool) (g id : ℕ) (f : Flight) → IsBeforeFreeze g id f → IsOfSender tx closed g id f
before_of tx closed g id (flight.Air id' g' num tag pdu) none = tt
before_of tx closed g id (flight.Ack id' g' num) none = tt
before_of tx closed g id (flight.Tun tag packet) none = λ load is. absurd (none load is)
before_of tx closed g id (flight.Sdu id' g' payload) none = tt
before_of tx closed g id (flight.End id' g') none = tt
before_of tx closed g id (flight.Told id' g' count) none = tt
before_of tx closed g id (flight.Ctl r) none = record_first tx g id r none

record_later : (tx ty : Sender) (g id : ℕ) (r : Rec) → ty.next ≡ tx.next → IsRecordOf tx g id r → IsRecordOf ty g id r
record_later tx ty g id (rec.Reconf plan key) same says = tt
record_later tx ty g id (rec.Rcomp g') same says = tt
record_later tx ty g id (rec.Scgf failed) same says = tt
record_later tx ty g id (rec.Recov id') same says = tt
record_later tx ty g id (rec.Recovd id') same says = tt
record_later tx ty g id (rec.Addreq plan key) same says = tt
record_later tx ty g id (rec.Addack g') same says = tt
record_later tx ty g id (rec.Addrej g') same says = tt
record_later tx ty g id (rec.Modreq plan key) same says = tt
record_later tx ty g id (rec.Modack g') same says = tt
record_later tx ty g id (rec.Modrej g') same says = tt
record_later tx ty g id (rec.Recfg g') same says = tt
record_later tx ty g id (rec.Relreq plan) same says = tt
record_later tx ty g id (rec.Relack g') same says = tt
record_later tx ty g id (rec.Relrej g') same says = tt
record_later tx ty g id (rec.Uecr g') same says = tt
record_later tx ty g id (rec.Snst st) same says = λ g_is named. says g_is named ∙ sym same
record_later tx ty g id (rec.Moved g' id') same says = tt
record_later tx ty g id (rec.Scgn id' g') same says = tt
record_later tx ty g id rec.Modrqd same says = tt
record_later tx ty g id (rec.Modcnf g') same says = tt
record_later tx ty g id (rec.Modref word) same says = tt
record_later tx ty g id rec.Chgrqd same says = tt
record_later tx ty g id (rec.Chgcnf plan) same says = tt
record_later tx ty g id (rec.Chgref word) same says = tt
record_later tx ty g id rec.Relrqd same says = tt
record_later tx ty g id (rec.Relcnf plan) same says = tt

-- what is said lasts while more is forwarded
pub of_later : (tx ty : Sender) (closed shut : Bool) (g id : ℕ) (f : Flight) → IsLater (down_tunnel tx closed) (down_tunnel ty shut) → ty.next ≡ tx.next → IsOfSender tx closed g id f → IsOfSender ty shut g id f
of_later tx ty closed shut g id (flight.Air id' g' num tag pdu) later same says = tt
of_later tx ty closed shut g id (flight.Ack id' g' num) later same says = tt
of_later tx ty closed shut g id (flight.Tun tag packet) later same says =
    λ load is. let of = says load is in (of.0, packet_later (down_tunnel tx closed) (down_tunnel ty shut) of.0 later of.1, of.2)
of_later tx ty closed shut g id (flight.Sdu id' g' payload) later same says = tt
of_later tx ty closed shut g id (flight.End id' g') later same says = tt
of_later tx ty closed shut g id (flight.Told id' g' count) later same says = tt
of_later tx ty closed shut g id (flight.Ctl r) later same says = record_later tx ty g id r same says

-- ---- of another identity

record_else_before : (g id : ℕ) (r : Rec) → IsTransferElse id r → IsOtherRecord g id r
record_else_before g id (rec.Reconf plan key) none = tt
record_else_before g id (rec.Rcomp g') none = tt
record_else_before g id (rec.Scgf failed) none = tt
record_else_before g id (rec.Recov id') none = tt
record_else_before g id (rec.Recovd id') none = tt
record_else_before g id (rec.Addreq plan key) none = tt
record_else_before g id (rec.Addack g') none = tt
record_else_before g id (rec.Addrej g') none = tt
record_else_before g id (rec.Modreq plan key) none = tt
record_else_before g id (rec.Modack g') none = tt
record_else_before g id (rec.Modrej g') none = tt
record_else_before g id (rec.Recfg g') none = tt
record_else_before g id (rec.Relreq plan) none = tt
record_else_before g id (rec.Relack g') none = tt
record_else_before g id (rec.Relrej g') none = tt
record_else_before g id (rec.Uecr g') none = tt
record_else_before g id (rec.Snst st) none = λ same named. none named
record_else_before g id (rec.Moved g' id') none = tt
record_else_before g id (rec.Scgn id' g') none = tt
record_else_before g id rec.Modrqd none = tt
record_else_before g id (rec.Modcnf g') none = tt
record_else_before g id (rec.Modref word) none = tt
record_else_before g id rec.Chgrqd none = tt
record_else_before g id (rec.Chgcnf plan) none = tt
record_else_before g id (rec.Chgref word) none = tt
record_else_before g id rec.Relrqd none = tt
record_else_before g id (rec.Relcnf plan) none = tt

-- what says nothing of an identity is so of each entity of it
pub else_before : (g id : ℕ) (f : Flight) → IsSilentOf id f → IsBeforeFreeze g id f
else_before g id (flight.Air id' g' num tag pdu) none = tt
else_before g id (flight.Ack id' g' num) none = tt
else_before g id (flight.Tun tag packet) none = λ load is. none id g load is refl
else_before g id (flight.Sdu id' g' payload) none = tt
else_before g id (flight.End id' g') none = tt
else_before g id (flight.Told id' g' count) none = tt
else_before g id (flight.Ctl r) none = record_else_before g id r none

record_else_of : (tx : Sender) (g id : ℕ) (r : Rec) → IsTransferElse id r → IsRecordOf tx g id r
record_else_of tx g id (rec.Reconf plan key) none = tt
record_else_of tx g id (rec.Rcomp g') none = tt
record_else_of tx g id (rec.Scgf failed) none = tt
record_else_of tx g id (rec.Recov id') none = tt
record_else_of tx g id (rec.Recovd id') none = tt
record_else_of tx g id (rec.Addreq plan key) none = tt
record_else_of tx g id (rec.Addack g') none = tt
record_else_of tx g id (rec.Addrej g') none = tt
record_else_of tx g id (rec.Modreq plan key) none = tt
record_else_of tx g id (rec.Modack g') none = tt
record_else_of tx g id (rec.Modrej g') none = tt
record_else_of tx g id (rec.Recfg g') none = tt
record_else_of tx g id (rec.Relreq plan) none = tt
record_else_of tx g id (rec.Relack g') none = tt
record_else_of tx g id (rec.Relrej g') none = tt
record_else_of tx g id (rec.Uecr g') none = tt
record_else_of tx g id (rec.Snst st) none = λ same named. absurd (none named)
record_else_of tx g id (rec.Moved g' id') none = tt
record_else_of tx g id (rec.Scgn id' g') none = tt
record_else_of tx g id rec.Modrqd none = tt
record_else_of tx g id (rec.Modcnf g') none = tt
record_else_of tx g id (rec.Modref word) none = tt
record_else_of tx g id rec.Chgrqd none = tt
record_else_of tx g id (rec.Chgcnf plan) none = tt
record_else_of tx g id (rec.Chgref word) none = tt
record_else_of tx g id rec.Relrqd none = tt
record_else_of tx g id (rec.Relcnf plan) none = tt

pub else_of : (tx : Sender) (closed : Bool) (g id : ℕ) (f : Flight) → IsSilentOf id f → IsOfSender tx closed g id f
else_of tx closed g id (flight.Air id' g' num tag pdu) none = tt
else_of tx closed g id (flight.Ack id' g' num) none = tt
else_of tx closed g id (flight.Tun tag packet) none = λ load is. absurd (none id g load is refl)
else_of tx closed g id (flight.Sdu id' g' payload) none = tt
else_of tx closed g id (flight.End id' g') none = tt
else_of tx closed g id (flight.Told id' g' count) none = tt
else_of tx closed g id (flight.Ctl r) none = record_else_of tx g id r none

record_no_else : (id : ℕ) (r : Rec) → IsNoTransfer r → IsTransferElse id r
record_no_else id (rec.Reconf plan key) none = tt
record_no_else id (rec.Rcomp g') none = tt
record_no_else id (rec.Scgf failed) none = tt
record_no_else id (rec.Recov id') none = tt
record_no_else id (rec.Recovd id') none = tt
record_no_else id (rec.Addreq plan key) none = tt
record_no_else id (rec.Addack g') none = tt
record_no_else id (rec.Addrej g') none = tt
record_no_else id (rec.Modreq plan key) none = tt
record_no_else id (rec.Modack g') none = tt
record_no_else id (rec.Modrej g') none = tt
record_no_else id (rec.Recfg g') none = tt
record_no_else id (rec.Relreq plan) none = tt
record_no_else id (rec.Relack g') none = tt
record_no_else id (rec.Relrej g') none = tt
record_no_else id (rec.Uecr g') none = tt
record_no_else id (rec.Snst st) none = absurd none
record_no_else id (rec.Moved g' id') none = tt
record_no_else id (rec.Scgn id' g') none = tt
record_no_else id rec.Modrqd none = tt
record_no_else id (rec.Modcnf g') none = tt
record_no_else id (rec.Modref word) none = tt
record_no_else id rec.Chgrqd none = tt
record_no_else id (rec.Chgcnf plan) none = tt
record_no_else id (rec.Chgref word) none = tt
record_no_else id rec.Relrqd none = tt
record_no_else id (rec.Relcnf plan) none = tt

-- what says nothing at all says nothing of an identity
pub silent_else : (id : ℕ) (f : Flight) → IsSilent f → IsSilentOf id f
silent_else id (flight.Air id' g' num tag pdu) none = tt
silent_else id (flight.Ack id' g' num) none = tt
silent_else id (flight.Tun tag packet) none = λ i h load is named. none i h load is
silent_else id (flight.Sdu id' g' payload) none = tt
silent_else id (flight.End id' g') none = tt
silent_else id (flight.Told id' g' count) none = tt
silent_else id (flight.Ctl r) none = record_no_else id r none

record_only_else : (tx : Sender) (h i id : ℕ) (r : Rec) → (i ≡ id → ⊥) → SaysRecordOf tx h i r → IsTransferElse id r
record_only_else tx h i id (rec.Reconf plan key) other says = tt
record_only_else tx h i id (rec.Rcomp g') other says = tt
record_only_else tx h i id (rec.Scgf failed) other says = tt
record_only_else tx h i id (rec.Recov id') other says = tt
record_only_else tx h i id (rec.Recovd id') other says = tt
record_only_else tx h i id (rec.Addreq plan key) other says = tt
record_only_else tx h i id (rec.Addack g') other says = tt
record_only_else tx h i id (rec.Addrej g') other says = tt
record_only_else tx h i id (rec.Modreq plan key) other says = tt
record_only_else tx h i id (rec.Modack g') other says = tt
record_only_else tx h i id (rec.Modrej g') other says = tt
record_only_else tx h i id (rec.Recfg g') other says = tt
record_only_else tx h i id (rec.Relreq plan) other says = tt
record_only_else tx h i id (rec.Relack g') other says = tt
record_only_else tx h i id (rec.Relrej g') other says = tt
record_only_else tx h i id (rec.Uecr g') other says = tt
record_only_else tx h i id (rec.Snst st) other says = λ named. other (sym says.1 ∙ named)
record_only_else tx h i id (rec.Moved g' id') other says = tt
record_only_else tx h i id (rec.Scgn id' g') other says = tt
record_only_else tx h i id rec.Modrqd other says = tt
record_only_else tx h i id (rec.Modcnf g') other says = tt
record_only_else tx h i id (rec.Modref word) other says = tt
record_only_else tx h i id rec.Chgrqd other says = tt
record_only_else tx h i id (rec.Chgcnf plan) other says = tt
record_only_else tx h i id (rec.Chgref word) other says = tt
record_only_else tx h i id rec.Relrqd other says = tt
record_only_else tx h i id (rec.Relcnf plan) other says = tt

-- nor does what is said of another one alone
pub only_else : (tx : Sender) (closed : Bool) (h i id : ℕ) (f : Flight) → (i ≡ id → ⊥) → SaysOnlyOf tx closed h i f → IsSilentOf id f
only_else tx closed h i id (flight.Air id' g' num tag pdu) other says = tt
only_else tx closed h i id (flight.Ack id' g' num) other says = tt
only_else tx closed h i id (flight.Tun tag packet) other says = λ j k load is named. other (sym (says j k load is).1 ∙ named)
only_else tx closed h i id (flight.Sdu id' g' payload) other says = tt
only_else tx closed h i id (flight.End id' g') other says = tt
only_else tx closed h i id (flight.Told id' g' count) other says = tt
only_else tx closed h i id (flight.Ctl r) other says = record_only_else tx h i id r other says
