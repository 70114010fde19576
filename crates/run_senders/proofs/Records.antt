-- What is so of the records among sends is so of the sends.
use Rattle.std.proofs.Common.{◌≡◌, Bool, true, false, List, [], ◌∷◌, refl, sym, ◌∙◌}
use Rattle.std.specs.Prelude.{filter, if◌then◌else◌, map, ◌||◌}
use Rattle.std.specs.List.{AllByRecursion, list_any}
use Rattle.dc_base.specs.declared.flights.Flight.{Flight}
use Rattle.dc_base.specs.declared.flights.Flight.TheVariants as flight
use Rattle.dc_base.specs.declared.nodes.LinkId.{LinkId}
use Rattle.dc_base.specs.declared.records.Rec.{Rec}
use Rattle.dc_base.specs.declared.records.Rec.TheVariants as rec
use Rattle.claims.specs.OnLink.{record_fits}
use Rattle.node_rules.specs.Choices.{Send}
use Rattle.node_rules.specs.Lines.{is_idle_release}
use Rattle.run_control.specs.SecondControl.{bare_flight, bare_record, records_sent}
use Rattle.run_control.specs.Views.{is_control, is_of_control, is_record}
use Rattle.run_control.proofs.EventTurns.{same_idle}
use Rattle.run_senders.specs.Fitting.{FitsOn, IsFitting}
use Rattle.run_senders.proofs.OnLinks.{IsIdleLinked}

-- where it is so of what is no record in any case, and a record may be without what a status transfer says of the traffic
module _ (P : Send → Type 0) (same : (s : Send) → P (s.0, bare_flight s.1) → P s) (other : (s : Send) → is_of_control s ≡ false → P s) where
  pub from_records : (xs : List Send) → AllByRecursion P (records_sent xs) → AllByRecursion P xs
  from_records [] all = tt
  from_records (x ∷ xs) all = by (is_of_control x) refl (from_records xs) all
    where
      by : (b : Bool) → is_of_control x ≡ b → (AllByRecursion P (records_sent xs) → AllByRecursion P xs)
          → AllByRecursion P (map (λ (s : Send). (s.0, bare_flight s.1)) (if b then x ∷ filter (λ (s : Send). is_of_control s) xs else filter (λ (s : Send). is_of_control s) xs)) → AllByRecursion P (x ∷ xs)
      by true is more all = (same x all.0, more all.1)
      by false is more all = (other x is, more all)

or_true : (a b : Bool) → b ≡ true → (a || b) ≡ true
or_true true b is = refl
or_true false b is = is

-- ---- answers that nothing has to be released

idle_record : (s : Send) → is_idle_release s ≡ true → is_record s.1 ≡ true
idle_record (l, flight.Ctl r) idle = refl
idle_record (l, flight.Air id g num tag pdu) idle = absurd cc
idle_record (l, flight.Ack id g num) idle = absurd cc
idle_record (l, flight.Tun tag packet) idle = absurd cc
idle_record (l, flight.Sdu id g payload) idle = absurd cc
idle_record (l, flight.End id g) idle = absurd cc
idle_record (l, flight.Told id g count) idle = absurd cc

-- where there is none
pub none_idle : (xs : List Send) → list_any is_idle_release xs ≡ false → AllByRecursion IsIdleLinked xs
none_idle [] none = tt
none_idle (x ∷ xs) none = by (is_idle_release x) refl (none_idle xs) none
  where
    by : (b : Bool) → is_idle_release x ≡ b → (list_any is_idle_release xs ≡ false → AllByRecursion IsIdleLinked xs) → (b || list_any is_idle_release xs) ≡ false → AllByRecursion IsIdleLinked (x ∷ xs)
    by true is more none = absurd cc
    by false is more none = (λ idle. let bad : false ≡ true = sym is ∙ idle in absurd cc, more none)

pub idle_from_records : (xs : List Send) → AllByRecursion IsIdleLinked (records_sent xs) → AllByRecursion IsIdleLinked xs
idle_from_records xs all =
    from_records IsIdleLinked (λ s so idle. so (same_idle s ∙ idle))
    (λ s is idle. let bad : false ≡ true = sym is ∙ or_true (is_control s.0.class) (is_record s.1) (idle_record s idle) in absurd cc) xs all

-- ---- records between their ends

same_record : (l : LinkId) (r : Rec) → record_fits l (bare_record r) ≡ true → record_fits l r ≡ true
same_record l (rec.Reconf plan key) fits = fits
same_record l (rec.Rcomp g) fits = fits
same_record l (rec.Scgf failed) fits = fits
same_record l (rec.Recov id) fits = fits
same_record l (rec.Recovd id) fits = fits
same_record l (rec.Addreq plan key) fits = fits
same_record l (rec.Addack g) fits = fits
same_record l (rec.Addrej g) fits = fits
same_record l (rec.Modreq plan key) fits = fits
same_record l (rec.Modack g) fits = fits
same_record l (rec.Modrej g) fits = fits
same_record l (rec.Recfg g) fits = fits
same_record l (rec.Relreq plan) fits = fits
same_record l (rec.Relack g) fits = fits
same_record l (rec.Relrej g) fits = fits
same_record l (rec.Uecr g) fits = fits
same_record l (rec.Snst status) fits = fits
same_record l (rec.Moved g id) fits = fits
same_record l (rec.Scgn id g) fits = fits
same_record l rec.Modrqd fits = fits
same_record l (rec.Modcnf g) fits = fits
same_record l (rec.Modref word) fits = fits
same_record l rec.Chgrqd fits = fits
same_record l (rec.Chgcnf plan) fits = fits
same_record l (rec.Chgref word) fits = fits
same_record l rec.Relrqd fits = fits
same_record l (rec.Relcnf plan) fits = fits

same_flight : (l : LinkId) (f : Flight) → FitsOn l (bare_flight f) → FitsOn l f
same_flight l (flight.Ctl r) fits = same_record l r fits
same_flight l (flight.Air id g num tag pdu) fits = tt
same_flight l (flight.Ack id g num) fits = tt
same_flight l (flight.Tun tag packet) fits = tt
same_flight l (flight.Sdu id g payload) fits = tt
same_flight l (flight.End id g) fits = tt
same_flight l (flight.Told id g count) fits = tt

no_record : (l : LinkId) (f : Flight) → is_record f ≡ false → FitsOn l f
no_record l (flight.Ctl r) is = absurd cc
no_record l (flight.Air id g num tag pdu) is = tt
no_record l (flight.Ack id g num) is = tt
no_record l (flight.Tun tag packet) is = tt
no_record l (flight.Sdu id g payload) is = tt
no_record l (flight.End id g) is = tt
no_record l (flight.Told id g count) is = tt

or_false : (a b : Bool) → (a || b) ≡ false → b ≡ false
or_false true b is = absurd cc
or_false false b is = is

pub fits_from_records : (xs : List Send) → AllByRecursion IsFitting (records_sent xs) → AllByRecursion IsFitting xs
fits_from_records xs all = from_records IsFitting (λ s so. same_flight s.0 s.1 so) (λ s is. no_record s.0 s.1 (or_false (is_control s.0.class) (is_record s.1) is)) xs all

-- a record without what a status transfer says of the traffic
pub bare_fits : (l : LinkId) (r : Rec) → record_fits l r ≡ true → record_fits l (bare_record r) ≡ true
bare_fits l (rec.Reconf plan key) fits = fits
bare_fits l (rec.Rcomp g) fits = fits
bare_fits l (rec.Scgf failed) fits = fits
bare_fits l (rec.Recov id) fits = fits
bare_fits l (rec.Recovd id) fits = fits
bare_fits l (rec.Addreq plan key) fits = fits
bare_fits l (rec.Addack g) fits = fits
bare_fits l (rec.Addrej g) fits = fits
bare_fits l (rec.Modreq plan key) fits = fits
bare_fits l (rec.Modack g) fits = fits
bare_fits l (rec.Modrej g) fits = fits
bare_fits l (rec.Recfg g) fits = fits
bare_fits l (rec.Relreq plan) fits = fits
bare_fits l (rec.Relack g) fits = fits
bare_fits l (rec.Relrej g) fits = fits
bare_fits l (rec.Uecr g) fits = fits
bare_fits l (rec.Snst status) fits = fits
bare_fits l (rec.Moved g id) fits = fits
bare_fits l (rec.Scgn id g) fits = fits
bare_fits l rec.Modrqd fits = fits
bare_fits l (rec.Modcnf g) fits = fits
bare_fits l (rec.Modref word) fits = fits
bare_fits l rec.Chgrqd fits = fits
bare_fits l (rec.Chgcnf plan) fits = fits
bare_fits l (rec.Chgref word) fits = fits
bare_fits l rec.Relrqd fits = fits
bare_fits l (rec.Relcnf plan) fits = fits
