-- The records that are sent on a link, without what a status transfer says of the traffic.
use Rattle.std.proofs.Common.{◌≡◌, ◌++◌, Bool, true, false, List, [], ◌∷◌, refl, sym, ap, ◌∙◌}
use Rattle.std.specs.Prelude.{filter, if◌then◌else◌, map}
use Rattle.std.specs.List.{list_any}
use Rattle.std.proofs.lemmas.List.{map-append}
use Rattle.std.proofs.lemmas.List.Elements.{filter_map-append}
use Rattle.dc_base.specs.Links.{is_same_link}
use Rattle.dc_base.specs.declared.flights.Flight.{Flight}
use Rattle.dc_base.specs.declared.flights.Flight.TheVariants as flight
use Rattle.dc_base.specs.declared.nodes.LinkId.{LinkId}
use Rattle.dc_base.specs.declared.records.Rec.{Rec}
use Rattle.transcript.specs.Content.{on_link}
use Rattle.node_rules.specs.Choices.{Send}
use Rattle.node_rules.specs.Lines.{is_idle_release}
use Rattle.master_runs.proofs.Moving.{same_link}
use Rattle.run_control.specs.Links.{record_of, sent_on}
use Rattle.run_control.specs.SecondControl.{bare_flight, bare_record, records_sent}
use Rattle.run_control.specs.Views.{controls, is_control, is_of_control, is_record}
use Rattle.run_control.proofs.EventTurns.{same_idle}
use Rattle.run_control.proofs.Links.{idle_none}
use Rattle.run_control.proofs.Taken.{records_in}
use Rattle.run_control.proofs.Turns.{never, or_first, or_later}

-- the flights without it
abbrev pub bare_flights : List Flight → List Flight
bare_flights fs = map bare_flight fs

abbrev pub bare_records : List Rec → List Rec
bare_records rs = map bare_record rs

abbrev bare : Send → Send
bare s = (s.0, bare_flight s.1)

module _ (l : LinkId) (control : is_control l.class ≡ true) where
  nothing_of : (x : Send) → is_of_control x ≡ false → on_link l x ≡ []
  nothing_of x other = by (is_same_link l x.0) refl
    where
      by : (b : Bool) → is_same_link l x.0 ≡ b → (if b then x.1 ∷ [] else []) ≡ []
      by true same = never (is_control l.class) control (ap (λ (k : LinkId). is_control k.class) (same_link l x.0 same) ∙ or_first (is_control x.0.class) (is_record x.1) other)
      by false apart = refl

  bare_one : (x : Send) → on_link l (bare x) ≡ bare_flights (on_link l x)
  bare_one x = by (is_same_link l x.0)
    where
      by : (b : Bool) → (if b then bare_flight x.1 ∷ [] else []) ≡ bare_flights (if b then x.1 ∷ [] else [])
      by true = refl
      by false = refl

  pub sent_bare : (xs : List Send) → sent_on l (records_sent xs) ≡ bare_flights (sent_on l xs)
  sent_bare [] = refl
  sent_bare (x ∷ xs) = by (is_of_control x) refl (sent_bare xs) ∙ sym (map-append bare_flight (on_link l x) (sent_on l xs))
    where
      by : (b : Bool) → is_of_control x ≡ b → sent_on l (records_sent xs) ≡ bare_flights (sent_on l xs)
          → sent_on l (map bare (if b then x ∷ controls xs else controls xs)) ≡ bare_flights (on_link l x) ++ bare_flights (sent_on l xs)
      by true is more = ap (λ fs. fs ++ sent_on l (records_sent xs)) (bare_one x) ∙ ap (λ fs. bare_flights (on_link l x) ++ fs) more
      by false is more = more ∙ sym (ap (λ fs. bare_flights fs ++ bare_flights (sent_on l xs)) (nothing_of x is))

-- the records of flights
pub records_bare : (fs : List Flight) → records_in (bare_flights fs) ≡ bare_records (records_in fs)
records_bare [] = refl
records_bare (flight.Ctl r ∷ fs) = ap (λ rs. bare_record r ∷ rs) (records_bare fs)
records_bare (flight.Air id g num tag pdu ∷ fs) = records_bare fs
records_bare (flight.Ack id g num ∷ fs) = records_bare fs
records_bare (flight.Tun tag packet ∷ fs) = records_bare fs
records_bare (flight.Sdu id g payload ∷ fs) = records_bare fs
records_bare (flight.End id g ∷ fs) = records_bare fs
records_bare (flight.Told id g count ∷ fs) = records_bare fs

pub records_append : (fs gs : List Flight) → records_in (fs ++ gs) ≡ records_in fs ++ records_in gs
records_append fs gs = filter_map-append record_of fs gs

-- nothing that is bare is nothing
pub no_flights : (fs : List Flight) → bare_flights fs ≡ [] → fs ≡ []
no_flights [] none = refl
no_flights (f ∷ fs) none = absurd cc

-- none on a link is none of some
pub none_of : (l : LinkId) (test : Send → Bool) (xs : List Send) → sent_on l xs ≡ [] → sent_on l (filter test xs) ≡ []
none_of l test [] none = refl
none_of l test (x ∷ xs) none = by (is_same_link l x.0) refl (test x) none (λ rest. none_of l test xs rest)
  where
    by : (b : Bool) → is_same_link l x.0 ≡ b → (d : Bool) → (if b then x.1 ∷ [] else []) ++ sent_on l xs ≡ [] → (sent_on l xs ≡ [] → sent_on l (filter test xs) ≡ [])
        → sent_on l (if d then x ∷ filter test xs else filter test xs) ≡ []
    by true same d none more = absurd cc
    by false apart true none more = ap (λ c. (if c then x.1 ∷ [] else []) ++ sent_on l (filter test xs)) apart ∙ more none
    by false apart false none more = more none

-- where none of the control plane is idle, none is
pub idle_gone : (xs : List Send) → list_any is_idle_release (records_sent xs) ≡ false → filter is_idle_release xs ≡ []
idle_gone [] none = refl
idle_gone (x ∷ xs) none = by (is_of_control x) refl (is_idle_release x) refl none (λ rest. idle_gone xs rest)
  where
    by : (b : Bool) → is_of_control x ≡ b → (d : Bool) → is_idle_release x ≡ d → list_any is_idle_release (map bare (if b then x ∷ controls xs else controls xs)) ≡ false
        → (list_any is_idle_release (records_sent xs) ≡ false → filter is_idle_release xs ≡ []) → (if d then x ∷ filter is_idle_release xs else filter is_idle_release xs) ≡ []
    by true is true idle none more = never (is_idle_release x) idle (sym (same_idle x) ∙ or_first (is_idle_release (bare x)) (list_any is_idle_release (records_sent xs)) none)
    by true is false busy none more = more (or_later (is_idle_release (bare x)) (list_any is_idle_release (records_sent xs)) none)
    by false is true idle none more = never (is_idle_release x) idle (idle_none x.0 x.1 (or_later (is_control x.0.class) (is_record x.1) is))
    by false is false busy none more = more none
