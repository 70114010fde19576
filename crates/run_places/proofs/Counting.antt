-- Counting status transfers: on lines, and among sends.
use Rattle.std.proofs.Common.{ℕ, ◌≡◌, ◌≤◌, ◌+◌, ◌==◌, ◌++◌, ◌∙◌, Bool, true, false, List, [], ◌∷◌, Option, Some, None, refl, sym, ap, subst, arith}
use Rattle.std.specs.Prelude.{if◌then◌else◌}
use Rattle.dc_base.specs.Links.{is_same_link, link_number}
use Rattle.dc_base.specs.declared.flights.Flight.{Flight}
use Rattle.dc_base.specs.declared.flights.Flight.TheVariants as flight
use Rattle.dc_base.specs.declared.nodes.LinkId.{LinkId}
use Rattle.dc_base.specs.declared.records.Rec.{Rec}
use Rattle.dc_base.specs.declared.records.Rec.TheVariants as rec
use Rattle.node_rules.specs.Choices.{Send}
use Rattle.run_control.specs.Links.{record_of, sent_on}
use Rattle.run_control.specs.SecondControl.{bare_record}
use Rattle.run_control.proofs.Records.{bare_records, records_append}
use Rattle.run_control.proofs.Taken.{records_in}
use Rattle.run_control.proofs.Turns.{never}
use Rattle.std.proofs.lemmas.Bool.{eqb-true}
use Rattle.run_places.specs.Tokens.{status_in, statuses}

-- ---- on lines

pub statuses_append : (id : ℕ) (xs ys : List Rec) → statuses id (xs ++ ys) ≡ statuses id xs + statuses id ys
statuses_append id [] ys = omega arith
statuses_append id (x ∷ xs) ys = omega (arith, statuses_append id xs ys)

pub bare_status : (id : ℕ) (r : Rec) → status_in id (bare_record r) ≡ status_in id r
bare_status id (rec.Reconf plan key) = refl
bare_status id (rec.Rcomp g) = refl
bare_status id (rec.Scgf failed) = refl
bare_status id (rec.Recov i) = refl
bare_status id (rec.Recovd i) = refl
bare_status id (rec.Addreq plan key) = refl
bare_status id (rec.Addack g) = refl
bare_status id (rec.Addrej g) = refl
bare_status id (rec.Modreq plan key) = refl
bare_status id (rec.Modack g) = refl
bare_status id (rec.Modrej g) = refl
bare_status id (rec.Recfg g) = refl
bare_status id (rec.Relreq plan) = refl
bare_status id (rec.Relack g) = refl
bare_status id (rec.Relrej g) = refl
bare_status id (rec.Uecr g) = refl
bare_status id (rec.Snst status) = refl
bare_status id (rec.Moved g i) = refl
bare_status id (rec.Scgn i g) = refl
bare_status id rec.Modrqd = refl
bare_status id (rec.Modcnf g) = refl
bare_status id (rec.Modref word) = refl
bare_status id rec.Chgrqd = refl
bare_status id (rec.Chgcnf plan) = refl
bare_status id (rec.Chgref word) = refl
bare_status id rec.Relrqd = refl
bare_status id (rec.Relcnf plan) = refl

pub bare_statuses : (id : ℕ) (rs : List Rec) → statuses id (bare_records rs) ≡ statuses id rs
bare_statuses id [] = refl
bare_statuses id (r ∷ rs) = omega (arith, bare_status id r, bare_statuses id rs)

-- ---- among sends

-- a flight is one
abbrev pub status_sent : ℕ → Option Rec → ℕ
status_sent id None = 0
status_sent id (Some r) = status_in id r

-- how many are
abbrev pub sent : ℕ → List Send → ℕ
sent id [] = 0
sent id (s ∷ ss) = status_sent id (record_of s.1) + sent id ss

pub sent_append : (id : ℕ) (xs ys : List Send) → sent id (xs ++ ys) ≡ sent id xs + sent id ys
sent_append id [] ys = omega arith
sent_append id (x ∷ xs) ys = omega (arith, sent_append id xs ys)

one_flight : (id : ℕ) (f : Flight) → statuses id (records_in (f ∷ [])) ≡ status_sent id (record_of f)
one_flight id (flight.Ctl r) = omega arith
one_flight id (flight.Air i g num tag pdu) = refl
one_flight id (flight.Ack i g num) = refl
one_flight id (flight.Tun tag packet) = refl
one_flight id (flight.Sdu i g payload) = refl
one_flight id (flight.End i g) = refl
one_flight id (flight.Told i g count) = refl

-- what stands on a line after a send, and more
line_cons : (id : ℕ) (l : LinkId) (s : Send) (ss : List Send)
    → statuses id (records_in (sent_on l (s ∷ ss))) ≡ (if is_same_link l s.0 then status_sent id (record_of s.1) else 0) + statuses id (records_in (sent_on l ss))
line_cons id l s ss =
    ap (statuses id) (records_append (if is_same_link l s.0 then s.1 ∷ [] else []) (sent_on l ss))
    ∙ statuses_append id (records_in (if is_same_link l s.0 then s.1 ∷ [] else [])) (records_in (sent_on l ss))
    ∙ ap (λ n. n + statuses id (records_in (sent_on l ss))) (by (is_same_link l s.0))
  where
    by : (b : Bool) → statuses id (records_in (if b then s.1 ∷ [] else [])) ≡ (if b then status_sent id (record_of s.1) else 0)
    by true = one_flight id s.1
    by false = refl

-- a line has no more of them than are sent
pub line_sent : (id : ℕ) (l : LinkId) (ss : List Send) → statuses id (records_in (sent_on l ss)) ≤ sent id ss
line_sent id l [] = omega arith
line_sent id l (s ∷ ss) = by (is_same_link l s.0) (line_cons id l s ss) (line_sent id l ss)
  where
    by : (b : Bool) → statuses id (records_in (sent_on l (s ∷ ss))) ≡ (if b then status_sent id (record_of s.1) else 0) + statuses id (records_in (sent_on l ss)) → statuses id (records_in (sent_on l ss)) ≤ sent id ss
        → statuses id (records_in (sent_on l (s ∷ ss))) ≤ sent id (s ∷ ss)
    by true is more = omega (arith, is, more)
    by false is more = omega (arith, is, more)

-- nor have two lines
pub two_lines : (id : ℕ) (l k : LinkId) (ss : List Send) → is_same_link l k ≡ false → statuses id (records_in (sent_on l ss)) + statuses id (records_in (sent_on k ss)) ≤ sent id ss
two_lines id l k [] apart = omega arith
two_lines id l k (s ∷ ss) apart = by (is_same_link l s.0) (is_same_link k s.0) refl refl (line_cons id l s ss) (line_cons id k s ss) (two_lines id l k ss apart)
  where
    by : (b d : Bool) → is_same_link l s.0 ≡ b → is_same_link k s.0 ≡ d
        → statuses id (records_in (sent_on l (s ∷ ss))) ≡ (if b then status_sent id (record_of s.1) else 0) + statuses id (records_in (sent_on l ss))
        → statuses id (records_in (sent_on k (s ∷ ss))) ≡ (if d then status_sent id (record_of s.1) else 0) + statuses id (records_in (sent_on k ss))
        → statuses id (records_in (sent_on l ss)) + statuses id (records_in (sent_on k ss)) ≤ sent id ss → statuses id (records_in (sent_on l (s ∷ ss))) + statuses id (records_in (sent_on k (s ∷ ss))) ≤ sent id (s ∷ ss)
    by true true one two is js more =
        absurd (never (is_same_link l k) (ap (λ n. link_number l == n) (eqb-true (link_number k) (link_number s.0) two) ∙ one) apart)
    by true false one two is js more = omega (arith, is, js, more)
    by false true one two is js more = omega (arith, is, js, more)
    by false false one two is js more = omega (arith, is, js, more)
