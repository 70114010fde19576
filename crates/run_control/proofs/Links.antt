-- What stands on a control link after an event: what was there without what was taken, and what was sent there, in order.
use Rattle.std.proofs.Common.{ℕ, ◌≡◌, ◌++◌, ◌==◌, Bool, true, false, List, [], ◌∷◌, length, refl, sym, ap, ◌∙◌, append_assoc}
use Rattle.std.specs.Prelude.{filter, if◌then◌else◌, map}
use Rattle.std.specs.List.{flat_map, list_any}
use Rattle.std.proofs.lemmas.Bool.{eqb-true}
use Rattle.std.proofs.lemmas.List.{append-nil}
use Rattle.std.proofs.lemmas.Grind.{flat_map-append}
use Rattle.dc_base.specs.Links.{all_links, is_same_link, link, link_number}
use Rattle.dc_base.specs.declared.events.Event.{Event}
use Rattle.dc_base.specs.declared.events.Line.{Line}
use Rattle.dc_base.specs.declared.events.Line.TheVariants as line
use Rattle.dc_base.specs.declared.events.Note.{Note}
use Rattle.dc_base.specs.declared.flights.Flight.{Flight}
use Rattle.dc_base.specs.declared.flights.Flight.TheVariants as flight
use Rattle.dc_base.specs.declared.nodes.Class.TheVariants.{Ctl}
use Rattle.dc_base.specs.declared.nodes.LinkId.{LinkId}
use Rattle.dc_base.specs.declared.nodes.Node.TheVariants.{A, B, M, T}
use Rattle.dc_base.specs.declared.records.Rec.TheVariants as rec
use Rattle.transcript.specs.Content.{on_link, place_taken, put_on, without_taken}
use Rattle.transcript.specs.Transcript.{sends, sends_of}
use Rattle.node_rules.specs.Choices.{Choices, Send}
use Rattle.node_rules.specs.Lines.{ended, is_end, is_idle_release, lines_by, lines_of, notes_after, notes_at, notes_before, opens_release, ordered, place as note_place, sends_after, sends_before, sends_on}
use Rattle.node_rules.specs.Run.{carried_on, happening, world_after, world_step}
use Rattle.node_rules.specs.World.{World, flights_on}
use Rattle.node_rules.specs.declared.inputs.Outcome.{Outcome}
use Rattle.master_runs.proofs.Contents.{flights_next, long_next}
use Rattle.master_runs.proofs.Moving.{same_link}
use Rattle.run_control.specs.Links.{idles_first, is_in_turn, sent_on}
use Rattle.run_control.specs.Views.{controls, is_control, is_of_control, is_record}
use Rattle.run_control.proofs.Turns.{later_first, never, none_later, or_first, or_later}

-- ---- what the lines of an outcome put on a link

pub put_append : (l : LinkId) (xs ys : List Line) → put_on l (xs ++ ys) ≡ put_on l xs ++ put_on l ys
put_append l xs ys = ap (flat_map (on_link l)) (flat_map-append sends_of xs ys) ∙ flat_map-append (on_link l) (sends xs) (sends ys)

-- notes put nothing
put_notes : (l : LinkId) (xs : List Note) → put_on l (map (λ x. line.Note x) xs) ≡ []
put_notes l [] = refl
put_notes l (x ∷ xs) = put_notes l xs

pub put_places : (l : LinkId) (notes : List Note) (ks : List ℕ) → put_on l (flat_map (notes_at notes) ks) ≡ []
put_places l notes [] = refl
put_places l notes (k ∷ ks) = put_append l (notes_at notes k) (flat_map (notes_at notes) ks) ∙ ap (λ zs. zs ++ put_on l (flat_map (notes_at notes) ks)) (put_notes l (filter (λ x. note_place x == k) notes)) ∙ put_places l notes ks

-- sends put what they send
pub put_sends : (l : LinkId) (xs : List Send) → put_on l (map (λ (s : Send). line.Send s.0 s.1) xs) ≡ sent_on l xs
put_sends l [] = refl
put_sends l (x ∷ xs) = ap (λ zs. on_link l x ++ zs) (put_sends l xs)

-- those on one link, as seen on it and on another
same_there : (l k : LinkId) (xs : List Send) → is_same_link l k ≡ true → sent_on l (filter (λ (s : Send). is_same_link k s.0) xs) ≡ sent_on l xs
same_there l k [] same = refl
same_there l k (x ∷ xs) same = by (is_same_link l x.0) refl (same_there l k xs same)
  where
    is : link_number l ≡ link_number k
    is = eqb-true (link_number l) (link_number k) same

    by : (b : Bool) → is_same_link l x.0 ≡ b → sent_on l (filter (λ (s : Send). is_same_link k s.0) xs) ≡ sent_on l xs → sent_on l (filter (λ (s : Send). is_same_link k s.0) (x ∷ xs)) ≡ sent_on l (x ∷ xs)
    by true here more =
        let there : is_same_link k x.0 ≡ true = ap (λ n. n == link_number x.0) (sym is) ∙ here in
        ap (λ c. sent_on l (if c then x ∷ filter (λ (s : Send). is_same_link k s.0) xs else filter (λ (s : Send). is_same_link k s.0) xs)) there ∙ ap (λ zs. on_link l x ++ zs) more
    by false apart more =
        let there : is_same_link k x.0 ≡ false = ap (λ n. n == link_number x.0) (sym is) ∙ apart in
        ap (λ c. sent_on l (if c then x ∷ filter (λ (s : Send). is_same_link k s.0) xs else filter (λ (s : Send). is_same_link k s.0) xs)) there
        ∙ more ∙ sym (ap (λ c. (if c then x.1 ∷ [] else []) ++ sent_on l xs) apart)

none_there : (l k : LinkId) (xs : List Send) → is_same_link l k ≡ false → sent_on l (filter (λ (s : Send). is_same_link k s.0) xs) ≡ []
none_there l k [] apart = refl
none_there l k (x ∷ xs) apart = by (is_same_link k x.0) refl (none_there l k xs apart)
  where
    by : (b : Bool) → is_same_link k x.0 ≡ b → sent_on l (filter (λ (s : Send). is_same_link k s.0) xs) ≡ []
        → sent_on l (if b then x ∷ filter (λ (s : Send). is_same_link k s.0) xs else filter (λ (s : Send). is_same_link k s.0) xs) ≡ []
    by true here more =
        let is : link_number k ≡ link_number x.0 = eqb-true (link_number k) (link_number x.0) here in
        let other : is_same_link l x.0 ≡ false = ap (λ n. link_number l == n) (sym is) ∙ apart in
        ap (λ c. (if c then x.1 ∷ [] else []) ++ sent_on l (filter (λ (s : Send). is_same_link k s.0) xs)) other ∙ more
    by false there more = more

put_link : (l k : LinkId) (xs : List Send) → put_on l (sends_on xs k) ≡ (if is_same_link l k then sent_on l xs else [])
put_link l k xs = put_sends l (filter (λ (s : Send). is_same_link k s.0) xs) ∙ by (is_same_link l k) refl
  where
    by : (b : Bool) → is_same_link l k ≡ b → sent_on l (filter (λ (s : Send). is_same_link k s.0) xs) ≡ (if b then sent_on l xs else [])
    by true same = same_there l k xs same
    by false apart = none_there l k xs apart

pub put_links : (l : LinkId) (xs : List Send) (ks : List LinkId) → put_on l (flat_map (sends_on xs) ks) ≡ flat_map (λ k. if is_same_link l k then sent_on l xs else []) ks
put_links l xs [] = refl
put_links l xs (k ∷ ks) = put_append l (sends_on xs k) (flat_map (sends_on xs) ks) ∙ ap (λ zs. zs ++ put_on l (flat_map (sends_on xs) ks)) (put_link l k xs) ∙ ap (λ zs. (if is_same_link l k then sent_on l xs else []) ++ zs) (put_links l xs ks)

-- a control link is one of the links, and stands among them once
pub data IsControlLink : LinkId → Type 0 where
  master_terminal : IsControlLink (link M T Ctl)
  terminal_master : IsControlLink (link T M Ctl)
  master_a : IsControlLink (link M A Ctl)
  a_master : IsControlLink (link A M Ctl)
  master_b : IsControlLink (link M B Ctl)
  b_master : IsControlLink (link B M Ctl)

once : (l : LinkId) → IsControlLink l → (fs : List Flight) → flat_map (λ k. if is_same_link l k then fs else []) all_links ≡ fs
once l master_terminal fs = append-nil fs
once l terminal_master fs = append-nil fs
once l master_a fs = append-nil fs
once l a_master fs = append-nil fs
once l master_b fs = append-nil fs
once l b_master fs = append-nil fs

put_ordered : (l : LinkId) → IsControlLink l → (notes : List Note) (xs : List Send) → put_on l (ordered notes xs) ≡ sent_on l xs
put_ordered l control notes xs =
    let before = flat_map (notes_at notes) (0 ∷ 1 ∷ 2 ∷ 3 ∷ 4 ∷ []) in
    let middle = flat_map (sends_on xs) all_links in
    let after = flat_map (notes_at notes) (5 ∷ 6 ∷ []) in
    put_append l (before ++ middle) after
    ∙ ap (λ zs. put_on l (before ++ middle) ++ zs) (put_places l notes (5 ∷ 6 ∷ []))
    ∙ append-nil (put_on l (before ++ middle))
    ∙ put_append l before middle
    ∙ ap (λ zs. zs ++ put_on l middle) (put_places l notes (0 ∷ 1 ∷ 2 ∷ 3 ∷ 4 ∷ []))
    ∙ put_links l xs all_links
    ∙ once l control (sent_on l xs)

-- ---- where a command ends

-- a control link carries nothing but what is of the control plane
class_of : (l : LinkId) → IsControlLink l → is_control l.class ≡ true
class_of l master_terminal = refl
class_of l terminal_master = refl
class_of l master_a = refl
class_of l a_master = refl
class_of l master_b = refl
class_of l b_master = refl

not_there : (l : LinkId) → IsControlLink l → (x : Send) → is_of_control x ≡ false → on_link l x ≡ []
not_there l control x other = by (is_same_link l x.0) refl
  where
    by : (b : Bool) → is_same_link l x.0 ≡ b → (if b then x.1 ∷ [] else []) ≡ []
    by true same =
        never (is_control l.class) (class_of l control) (ap (λ (k : LinkId). is_control k.class) (same_link l x.0 same) ∙ or_first (is_control x.0.class) (is_record x.1) other)
    by false apart = refl

-- only a record opens a release
opens_none : (l : LinkId) (f : Flight) → is_record f ≡ false → opens_release (l, f) ≡ false
opens_none l (flight.Ctl r) other = absurd cc
opens_none l (flight.Air id g num tag pdu) other = refl
opens_none l (flight.Ack id g num) other = refl
opens_none l (flight.Tun tag packet) other = refl
opens_none l (flight.Sdu id g payload) other = refl
opens_none l (flight.End id g) other = refl
opens_none l (flight.Told id g count) other = refl

pub idle_none : (l : LinkId) (f : Flight) → is_record f ≡ false → is_idle_release (l, f) ≡ false
idle_none l (flight.Ctl r) other = absurd cc
idle_none l (flight.Air id g num tag pdu) other = refl
idle_none l (flight.Ack id g num) other = refl
idle_none l (flight.Tun tag packet) other = refl
idle_none l (flight.Sdu id g payload) other = refl
idle_none l (flight.End id g) other = refl
idle_none l (flight.Told id g count) other = refl

-- what is idle opens
pub opens_idle : (x : Send) → is_idle_release x ≡ true → opens_release x ≡ true
opens_idle (l, flight.Ctl (rec.Relcnf plan)) idle = idle
opens_idle (l, flight.Ctl (rec.Reconf plan key)) idle = absurd cc
opens_idle (l, flight.Ctl (rec.Rcomp g)) idle = absurd cc
opens_idle (l, flight.Ctl (rec.Scgf failed)) idle = absurd cc
opens_idle (l, flight.Ctl (rec.Recov id)) idle = absurd cc
opens_idle (l, flight.Ctl (rec.Recovd id)) idle = absurd cc
opens_idle (l, flight.Ctl (rec.Addreq plan key)) idle = absurd cc
opens_idle (l, flight.Ctl (rec.Addack g)) idle = absurd cc
opens_idle (l, flight.Ctl (rec.Addrej g)) idle = absurd cc
opens_idle (l, flight.Ctl (rec.Modreq plan key)) idle = absurd cc
opens_idle (l, flight.Ctl (rec.Modack g)) idle = absurd cc
opens_idle (l, flight.Ctl (rec.Modrej g)) idle = absurd cc
opens_idle (l, flight.Ctl (rec.Recfg g)) idle = absurd cc
opens_idle (l, flight.Ctl (rec.Relreq plan)) idle = absurd cc
opens_idle (l, flight.Ctl (rec.Relack g)) idle = absurd cc
opens_idle (l, flight.Ctl (rec.Relrej g)) idle = absurd cc
opens_idle (l, flight.Ctl (rec.Uecr g)) idle = absurd cc
opens_idle (l, flight.Ctl (rec.Snst status)) idle = absurd cc
opens_idle (l, flight.Ctl (rec.Moved g id)) idle = absurd cc
opens_idle (l, flight.Ctl (rec.Scgn id g)) idle = absurd cc
opens_idle (l, flight.Ctl rec.Modrqd) idle = absurd cc
opens_idle (l, flight.Ctl (rec.Modcnf g)) idle = absurd cc
opens_idle (l, flight.Ctl (rec.Modref word)) idle = absurd cc
opens_idle (l, flight.Ctl rec.Chgrqd) idle = absurd cc
opens_idle (l, flight.Ctl (rec.Chgcnf plan)) idle = absurd cc
opens_idle (l, flight.Ctl (rec.Chgref word)) idle = absurd cc
opens_idle (l, flight.Ctl rec.Relrqd) idle = absurd cc
opens_idle (l, flight.Air id g num tag pdu) idle = absurd cc
opens_idle (l, flight.Ack id g num) idle = absurd cc
opens_idle (l, flight.Tun tag packet) idle = absurd cc
opens_idle (l, flight.Sdu id g payload) idle = absurd cc
opens_idle (l, flight.End id g) idle = absurd cc
opens_idle (l, flight.Told id g count) idle = absurd cc

idle_opens : (x : Send) → opens_release x ≡ false → is_idle_release x ≡ false
idle_opens x still = by (is_idle_release x) refl
  where
    by : (b : Bool) → is_idle_release x ≡ b → b ≡ false
    by true idle = never (opens_release x) (opens_idle x idle) still
    by false busy = refl

-- those that are not idle
abbrev is_no_idle : Send → Bool
is_no_idle r = if is_idle_release r then false else true

-- a send is idle or not, where it is put before others
idle_cons : (l : LinkId) (x : Send) (xs : List Send) (b : Bool) → is_idle_release x ≡ b → sent_on l (filter is_idle_release (x ∷ xs)) ≡ (if b then on_link l x else []) ++ sent_on l (filter is_idle_release xs)
idle_cons l x xs true is = ap (λ c. sent_on l (if c then x ∷ filter is_idle_release xs else filter is_idle_release xs)) is
idle_cons l x xs false is = ap (λ c. sent_on l (if c then x ∷ filter is_idle_release xs else filter is_idle_release xs)) is

busy_cons : (l : LinkId) (x : Send) (xs : List Send) (b : Bool) → is_idle_release x ≡ b → sent_on l (filter is_no_idle (x ∷ xs)) ≡ (if b then [] else on_link l x) ++ sent_on l (filter is_no_idle xs)
busy_cons l x xs true is = ap (λ c. sent_on l (if (if c then false else true) then x ∷ filter is_no_idle xs else filter is_no_idle xs)) is
busy_cons l x xs false is = ap (λ c. sent_on l (if (if c then false else true) then x ∷ filter is_no_idle xs else filter is_no_idle xs)) is

-- what of the sends is of the control plane, with one in front
controls_cons : (x : Send) (xs : List Send) (b : Bool) → is_of_control x ≡ b → controls (x ∷ xs) ≡ (if b then x ∷ controls xs else controls xs)
controls_cons x xs b is = ap (λ c. if c then x ∷ controls xs else controls xs) is

module _ (l : LinkId) (control : IsControlLink l) where
  -- where none is idle
  none_idle : (xs : List Send) → list_any is_idle_release (controls xs) ≡ false → (sent_on l (filter is_idle_release xs) ≡ []) × (sent_on l (filter is_no_idle xs) ≡ sent_on l xs)
  none_idle [] none = (refl, refl)
  none_idle (x ∷ xs) none = by (λ rest. none_idle xs rest) (is_of_control x) refl
    where
      More : Type 0
      More = list_any is_idle_release (controls xs) ≡ false → (sent_on l (filter is_idle_release xs) ≡ []) × (sent_on l (filter is_no_idle xs) ≡ sent_on l xs)

      with' : More → is_idle_release x ≡ false → list_any is_idle_release (controls xs) ≡ false
          → (sent_on l (filter is_idle_release (x ∷ xs)) ≡ []) × (sent_on l (filter is_no_idle (x ∷ xs)) ≡ sent_on l (x ∷ xs))
      with' later busy rest =
          let more = later rest in
          (idle_cons l x xs false busy ∙ more.0, busy_cons l x xs false busy ∙ ap (λ fs. on_link l x ++ fs) more.1)

      by : More → (b : Bool) → is_of_control x ≡ b → (sent_on l (filter is_idle_release (x ∷ xs)) ≡ []) × (sent_on l (filter is_no_idle (x ∷ xs)) ≡ sent_on l (x ∷ xs))
      by later true is =
          let there = sym (ap (list_any is_idle_release) (controls_cons x xs true is)) ∙ none in
          with' later (or_first (is_idle_release x) (list_any is_idle_release (controls xs)) there) (or_later (is_idle_release x) (list_any is_idle_release (controls xs)) there)
      by later false is =
          with' later (idle_none x.0 x.1 (or_later (is_control x.0.class) (is_record x.1) is)) (sym (ap (list_any is_idle_release) (controls_cons x xs false is)) ∙ none)

  -- where the idle ones come first
  from_first : (xs : List Send) → idles_first is_idle_release (controls xs) ≡ true → sent_on l (filter is_idle_release xs) ++ sent_on l (filter is_no_idle xs) ≡ sent_on l xs
  from_first [] first = refl
  from_first (x ∷ xs) first = by (λ rest. from_first xs rest) (is_of_control x) refl (is_idle_release x) refl
    where
      Same : Type 0
      Same = sent_on l (filter is_idle_release (x ∷ xs)) ++ sent_on l (filter is_no_idle (x ∷ xs)) ≡ sent_on l (x ∷ xs)

      split : (us vs : List Flight) → sent_on l (filter is_idle_release (x ∷ xs)) ≡ us → sent_on l (filter is_no_idle (x ∷ xs)) ≡ vs → us ++ vs ≡ sent_on l (x ∷ xs) → Same
      split us vs p q r = ap (λ fs. fs ++ sent_on l (filter is_no_idle (x ∷ xs))) p ∙ ap (λ fs. us ++ fs) q ∙ r

      there : is_of_control x ≡ true → idles_first is_idle_release (x ∷ controls xs) ≡ true
      there is = sym (ap (idles_first is_idle_release) (controls_cons x xs true is)) ∙ first

      More : Type 0
      More = idles_first is_idle_release (controls xs) ≡ true → sent_on l (filter is_idle_release xs) ++ sent_on l (filter is_no_idle xs) ≡ sent_on l xs

      by : More → (b : Bool) → is_of_control x ≡ b → (d : Bool) → is_idle_release x ≡ d → Same
      by later true is true idle =
          split (on_link l x ++ sent_on l (filter is_idle_release xs)) (sent_on l (filter is_no_idle xs)) (idle_cons l x xs true idle) (busy_cons l x xs true idle)
          (append_assoc (on_link l x) (sent_on l (filter is_idle_release xs)) (sent_on l (filter is_no_idle xs))
          ∙ ap (λ fs. on_link l x ++ fs) (later (later_first is_idle_release opens_release x (controls xs) idle (there is))))
      by later true is false busy =
          let more = none_idle xs (none_later is_idle_release opens_release x (controls xs) busy (there is)) in
          split [] (on_link l x ++ sent_on l xs) (idle_cons l x xs false busy ∙ more.0) (busy_cons l x xs false busy ∙ ap (λ fs. on_link l x ++ fs) more.1) refl
      by later false is true idle = never (is_idle_release x) idle (idle_none x.0 x.1 (or_later (is_control x.0.class) (is_record x.1) is))
      by later false is false busy =
          let nothing = not_there l control x is in
          let more = later (sym (ap (idles_first is_idle_release) (controls_cons x xs false is)) ∙ first) in
          split (sent_on l (filter is_idle_release xs)) (sent_on l (filter is_no_idle xs))
          (idle_cons l x xs false busy) (busy_cons l x xs false busy ∙ ap (λ fs. fs ++ sent_on l (filter is_no_idle xs)) nothing) (more ∙ sym (ap (λ fs. fs ++ sent_on l xs) nothing))

  -- before the release, the idle ones, and the release
  parts : (xs : List Send) → is_in_turn is_idle_release opens_release (controls xs) ≡ true
      → (sent_on l (sends_before xs) ++ sent_on l (filter is_idle_release xs)) ++ sent_on l (sends_after xs) ≡ sent_on l xs
  parts [] turn = refl
  parts (x ∷ xs) turn = by (λ rest. parts xs rest) (opens_release x) refl
    where
      Parts : Bool → Type 0
      Parts b =
          (sent_on l (if b then [] else x ∷ sends_before xs) ++ sent_on l (filter is_idle_release (x ∷ xs))) ++ sent_on l (if b then filter is_no_idle (x ∷ xs) else sends_after xs) ≡ sent_on l (x ∷ xs)

      -- what opens is a record
      first : opens_release x ≡ true → (b : Bool) → is_of_control x ≡ b → idles_first is_idle_release (controls (x ∷ xs)) ≡ true
      first opens true is =
          ap (idles_first is_idle_release) (controls_cons x xs true is)
          ∙ sym (ap (λ c. if c then idles_first is_idle_release (x ∷ controls xs) else is_in_turn is_idle_release opens_release (controls xs)) opens)
          ∙ sym (ap (is_in_turn is_idle_release opens_release) (controls_cons x xs true is)) ∙ turn
      first opens false is = never (opens_release x) opens (opens_none x.0 x.1 (or_later (is_control x.0.class) (is_record x.1) is))

      rest : opens_release x ≡ false → (b : Bool) → is_of_control x ≡ b → is_in_turn is_idle_release opens_release (controls xs) ≡ true
      rest still true is =
          sym (ap (λ c. if c then idles_first is_idle_release (x ∷ controls xs) else is_in_turn is_idle_release opens_release (controls xs)) still)
          ∙ sym (ap (is_in_turn is_idle_release opens_release) (controls_cons x xs true is)) ∙ turn
      rest still false is = sym (ap (is_in_turn is_idle_release opens_release) (controls_cons x xs false is)) ∙ turn

      More : Type 0
      More = is_in_turn is_idle_release opens_release (controls xs) ≡ true → (sent_on l (sends_before xs) ++ sent_on l (filter is_idle_release xs)) ++ sent_on l (sends_after xs) ≡ sent_on l xs

      by : More → (b : Bool) → opens_release x ≡ b → Parts b
      by later true opens = from_first (x ∷ xs) (first opens (is_of_control x) refl)
      by later false still =
          let before = sent_on l (sends_before xs) in
          let idle = sent_on l (filter is_idle_release xs) in
          let after = sent_on l (sends_after xs) in
          ap (λ fs. ((on_link l x ++ before) ++ fs) ++ after) (idle_cons l x xs false (idle_opens x still))
          ∙ ap (λ fs. fs ++ after) (append_assoc (on_link l x) before idle)
          ∙ append_assoc (on_link l x) (before ++ idle) after
          ∙ ap (λ fs. on_link l x ++ fs) (later (rest still (is_of_control x) refl))

  put_ended : (notes : List Note) (xs : List Send) → is_in_turn is_idle_release opens_release (controls xs) ≡ true → put_on l (ended notes xs) ≡ sent_on l xs
  put_ended notes xs turn =
      let before = ordered (notes_before notes) (sends_before xs) in
      let idle = map (λ (s : Send). line.Send s.0 s.1) (filter is_idle_release xs) in
      let after = ordered (notes_after notes) (sends_after xs) in
      put_append l (before ++ idle) after
      ∙ ap (λ zs. zs ++ put_on l after)
      (put_append l before idle ∙ ap (λ zs. put_on l before ++ zs) (put_sends l (filter is_idle_release xs))
      ∙ ap (λ zs. zs ++ sent_on l (filter is_idle_release xs)) (put_ordered l control (notes_before notes) (sends_before xs)))
      ∙ ap (λ zs. (sent_on l (sends_before xs) ++ sent_on l (filter is_idle_release xs)) ++ zs) (put_ordered l control (notes_after notes) (sends_after xs))
      ∙ parts xs turn

  -- the lines of an outcome put on a control link what was sent there, in order
  pub put_outcome : (o : Outcome) → is_in_turn is_idle_release opens_release (controls o.sends) ≡ true → put_on l (lines_of o) ≡ sent_on l o.sends
  put_outcome o turn = by (list_any is_end o.notes)
    where
      by : (b : Bool) → put_on l (lines_by b o) ≡ sent_on l o.sends
      by true = put_ended o.notes o.sends turn
      by false = put_ordered l control o.notes o.sends

-- ---- an event

-- what stands on a control link after an event
pub event_links : (c : Choices) (w : World) (e : Event) (l : LinkId) → IsControlLink l → length w.links ≡ 64
    → is_in_turn is_idle_release opens_release (controls (carried_on c w (happening w e)).1.sends) ≡ true
    → flights_on l (world_step c w e).0.links ≡ without_taken l (place_taken e (carried_on c w (happening w e)).1.answer) (flights_on l w.links) ++ sent_on l (carried_on c w (happening w e)).1.sends
event_links c w e l control long turn =
    let o = (carried_on c w (happening w e)).1 in
    flights_next c w e l long
    ∙ ap (λ fs. without_taken l (place_taken e o.answer) (flights_on l w.links) ++ fs) (put_outcome l control o turn)

-- there are as many links in each run
pub always_long : (c : Choices) (w : World) (es : List Event) → length w.links ≡ 64 → length (world_after c w es).links ≡ 64
always_long c w [] long = long
always_long c w (e ∷ es) long = always_long c (world_step c w e).0 es (long_next c w e long)
