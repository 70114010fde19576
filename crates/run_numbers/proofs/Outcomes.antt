-- The lines of an outcome put the PDUs on each link that its sends put there, in their order.
use Rattle.std.proofs.Common.{ℕ, ◌≡◌, ◌++◌, Bool, true, false, List, [], ◌∷◌, refl, sym, ap, ◌∙◌}
use Rattle.std.specs.Prelude.{filter, if◌then◌else◌, map}
use Rattle.std.specs.List.{flat_map, list_any}
use Rattle.std.proofs.lemmas.Grind.{flat_map-append}
use Rattle.std.proofs.lemmas.List.{append-nil}
use Rattle.dc_base.specs.Links.{all_links, is_link, is_same_link, link}
use Rattle.dc_base.specs.declared.events.Line.TheVariants as line
use Rattle.dc_base.specs.declared.events.Note.{Note}
use Rattle.dc_base.specs.declared.flights.Flight.{Flight}
use Rattle.dc_base.specs.declared.flights.Flight.TheVariants as flight
use Rattle.dc_base.specs.declared.nodes.Class.{Class}
use Rattle.dc_base.specs.declared.nodes.Class.TheVariants.{Air, Ctl, Feed, Tun}
use Rattle.dc_base.specs.declared.nodes.LinkId.{LinkId}
use Rattle.dc_base.specs.declared.nodes.Node.{Node}
use Rattle.dc_base.specs.declared.nodes.Node.TheVariants.{A, B, M, T}
use Rattle.transcript.specs.Content.{put_on}
use Rattle.transcript.specs.Transcript.{sends}
use Rattle.claims.specs.Views.{pdu_of}
use Rattle.node_rules.specs.Choices.{Send}
use Rattle.node_rules.specs.Lines.{ended, is_end, is_idle_release, lines_by, lines_of, notes_after, notes_at, notes_before, opens_release, ordered, sends_after, sends_before, sends_on}
use Rattle.node_rules.specs.declared.inputs.Outcome.{Outcome}
use Rattle.run_control.specs.Links.{sent_on}
use Rattle.run_control.proofs.Links.{put_append, put_links, put_places, put_sends}
use Rattle.run_numbers.specs.Histories.{Numbered, numbered_if, puts_of, puts_on}
use Rattle.run_numbers.proofs.Holding.{record_none}
use Rattle.run_numbers.proofs.Puts.{puts_append}

-- each of the 22 links stands among them once
once_at : (from to : Node) (class : Class) → is_link (link from to class) ≡ true → (fs : List Flight) → flat_map (λ k. if is_same_link (link from to class) k then fs else []) all_links ≡ fs
once_at T T Ctl is fs = absurd (let bad : false ≡ true = is in cc)
once_at T M Ctl is fs = append-nil fs
once_at T A Ctl is fs = absurd (let bad : false ≡ true = is in cc)
once_at T B Ctl is fs = absurd (let bad : false ≡ true = is in cc)
once_at M T Ctl is fs = append-nil fs
once_at M M Ctl is fs = absurd (let bad : false ≡ true = is in cc)
once_at M A Ctl is fs = append-nil fs
once_at M B Ctl is fs = append-nil fs
once_at A T Ctl is fs = absurd (let bad : false ≡ true = is in cc)
once_at A M Ctl is fs = append-nil fs
once_at A A Ctl is fs = absurd (let bad : false ≡ true = is in cc)
once_at A B Ctl is fs = absurd (let bad : false ≡ true = is in cc)
once_at B T Ctl is fs = absurd (let bad : false ≡ true = is in cc)
once_at B M Ctl is fs = append-nil fs
once_at B A Ctl is fs = absurd (let bad : false ≡ true = is in cc)
once_at B B Ctl is fs = absurd (let bad : false ≡ true = is in cc)
once_at T T Feed is fs = absurd (let bad : false ≡ true = is in cc)
once_at T M Feed is fs = absurd (let bad : false ≡ true = is in cc)
once_at T A Feed is fs = absurd (let bad : false ≡ true = is in cc)
once_at T B Feed is fs = absurd (let bad : false ≡ true = is in cc)
once_at M T Feed is fs = absurd (let bad : false ≡ true = is in cc)
once_at M M Feed is fs = absurd (let bad : false ≡ true = is in cc)
once_at M A Feed is fs = append-nil fs
once_at M B Feed is fs = append-nil fs
once_at A T Feed is fs = absurd (let bad : false ≡ true = is in cc)
once_at A M Feed is fs = append-nil fs
once_at A A Feed is fs = absurd (let bad : false ≡ true = is in cc)
once_at A B Feed is fs = absurd (let bad : false ≡ true = is in cc)
once_at B T Feed is fs = absurd (let bad : false ≡ true = is in cc)
once_at B M Feed is fs = append-nil fs
once_at B A Feed is fs = absurd (let bad : false ≡ true = is in cc)
once_at B B Feed is fs = absurd (let bad : false ≡ true = is in cc)
once_at T T Air is fs = absurd (let bad : false ≡ true = is in cc)
once_at T M Air is fs = append-nil fs
once_at T A Air is fs = append-nil fs
once_at T B Air is fs = append-nil fs
once_at M T Air is fs = append-nil fs
once_at M M Air is fs = absurd (let bad : false ≡ true = is in cc)
once_at M A Air is fs = absurd (let bad : false ≡ true = is in cc)
once_at M B Air is fs = absurd (let bad : false ≡ true = is in cc)
once_at A T Air is fs = append-nil fs
once_at A M Air is fs = absurd (let bad : false ≡ true = is in cc)
once_at A A Air is fs = absurd (let bad : false ≡ true = is in cc)
once_at A B Air is fs = absurd (let bad : false ≡ true = is in cc)
once_at B T Air is fs = append-nil fs
once_at B M Air is fs = absurd (let bad : false ≡ true = is in cc)
once_at B A Air is fs = absurd (let bad : false ≡ true = is in cc)
once_at B B Air is fs = absurd (let bad : false ≡ true = is in cc)
once_at T T Tun is fs = absurd (let bad : false ≡ true = is in cc)
once_at T M Tun is fs = absurd (let bad : false ≡ true = is in cc)
once_at T A Tun is fs = absurd (let bad : false ≡ true = is in cc)
once_at T B Tun is fs = absurd (let bad : false ≡ true = is in cc)
once_at M T Tun is fs = absurd (let bad : false ≡ true = is in cc)
once_at M M Tun is fs = absurd (let bad : false ≡ true = is in cc)
once_at M A Tun is fs = append-nil fs
once_at M B Tun is fs = append-nil fs
once_at A T Tun is fs = absurd (let bad : false ≡ true = is in cc)
once_at A M Tun is fs = append-nil fs
once_at A A Tun is fs = absurd (let bad : false ≡ true = is in cc)
once_at A B Tun is fs = append-nil fs
once_at B T Tun is fs = absurd (let bad : false ≡ true = is in cc)
once_at B M Tun is fs = append-nil fs
once_at B A Tun is fs = append-nil fs
once_at B B Tun is fs = absurd (let bad : false ≡ true = is in cc)

once : (l : LinkId) → is_link l ≡ true → (fs : List Flight) → flat_map (λ k. if is_same_link l k then fs else []) all_links ≡ fs
once l is fs = once_at l.from l.to l.class is fs

-- and no other does
none_at : (from to : Node) (class : Class) → is_link (link from to class) ≡ false → (fs : List Flight) → flat_map (λ k. if is_same_link (link from to class) k then fs else []) all_links ≡ []
none_at T T Ctl is fs = refl
none_at T M Ctl is fs = absurd (let bad : true ≡ false = is in cc)
none_at T A Ctl is fs = refl
none_at T B Ctl is fs = refl
none_at M T Ctl is fs = absurd (let bad : true ≡ false = is in cc)
none_at M M Ctl is fs = refl
none_at M A Ctl is fs = absurd (let bad : true ≡ false = is in cc)
none_at M B Ctl is fs = absurd (let bad : true ≡ false = is in cc)
none_at A T Ctl is fs = refl
none_at A M Ctl is fs = absurd (let bad : true ≡ false = is in cc)
none_at A A Ctl is fs = refl
none_at A B Ctl is fs = refl
none_at B T Ctl is fs = refl
none_at B M Ctl is fs = absurd (let bad : true ≡ false = is in cc)
none_at B A Ctl is fs = refl
none_at B B Ctl is fs = refl
none_at T T Feed is fs = refl
none_at T M Feed is fs = refl
none_at T A Feed is fs = refl
none_at T B Feed is fs = refl
none_at M T Feed is fs = refl
none_at M M Feed is fs = refl
none_at M A Feed is fs = absurd (let bad : true ≡ false = is in cc)
none_at M B Feed is fs = absurd (let bad : true ≡ false = is in cc)
none_at A T Feed is fs = refl
none_at A M Feed is fs = absurd (let bad : true ≡ false = is in cc)
none_at A A Feed is fs = refl
none_at A B Feed is fs = refl
none_at B T Feed is fs = refl
none_at B M Feed is fs = absurd (let bad : true ≡ false = is in cc)
none_at B A Feed is fs = refl
none_at B B Feed is fs = refl
none_at T T Air is fs = refl
none_at T M Air is fs = absurd (let bad : true ≡ false = is in cc)
none_at T A Air is fs = absurd (let bad : true ≡ false = is in cc)
none_at T B Air is fs = absurd (let bad : true ≡ false = is in cc)
none_at M T Air is fs = absurd (let bad : true ≡ false = is in cc)
none_at M M Air is fs = refl
none_at M A Air is fs = refl
none_at M B Air is fs = refl
none_at A T Air is fs = absurd (let bad : true ≡ false = is in cc)
none_at A M Air is fs = refl
none_at A A Air is fs = refl
none_at A B Air is fs = refl
none_at B T Air is fs = absurd (let bad : true ≡ false = is in cc)
none_at B M Air is fs = refl
none_at B A Air is fs = refl
none_at B B Air is fs = refl
none_at T T Tun is fs = refl
none_at T M Tun is fs = refl
none_at T A Tun is fs = refl
none_at T B Tun is fs = refl
none_at M T Tun is fs = refl
none_at M M Tun is fs = refl
none_at M A Tun is fs = absurd (let bad : true ≡ false = is in cc)
none_at M B Tun is fs = absurd (let bad : true ≡ false = is in cc)
none_at A T Tun is fs = refl
none_at A M Tun is fs = absurd (let bad : true ≡ false = is in cc)
none_at A A Tun is fs = refl
none_at A B Tun is fs = absurd (let bad : true ≡ false = is in cc)
none_at B T Tun is fs = refl
none_at B M Tun is fs = absurd (let bad : true ≡ false = is in cc)
none_at B A Tun is fs = absurd (let bad : true ≡ false = is in cc)
none_at B B Tun is fs = refl

none_of : (l : LinkId) → is_link l ≡ false → (fs : List Flight) → flat_map (λ k. if is_same_link l k then fs else []) all_links ≡ []
none_of l is fs = none_at l.from l.to l.class is fs

put_ordered : (l : LinkId) → is_link l ≡ true → (notes : List Note) (xs : List Send) → put_on l (ordered notes xs) ≡ sent_on l xs
put_ordered l is notes xs =
    let before = flat_map (notes_at notes) (0 ∷ 1 ∷ 2 ∷ 3 ∷ 4 ∷ []) in
    let middle = flat_map (sends_on xs) all_links in
    let after = flat_map (notes_at notes) (5 ∷ 6 ∷ []) in
    put_append l (before ++ middle) after
    ∙ ap (λ zs. put_on l (before ++ middle) ++ zs) (put_places l notes (5 ∷ 6 ∷ []))
    ∙ append-nil (put_on l (before ++ middle))
    ∙ put_append l before middle
    ∙ ap (λ zs. zs ++ put_on l middle) (put_places l notes (0 ∷ 1 ∷ 2 ∷ 3 ∷ 4 ∷ []))
    ∙ put_links l xs all_links
    ∙ once l is (sent_on l xs)

-- ---- where a command ends

module _ (l : LinkId) (id g : ℕ) where
  -- an answer that nothing has to be released is no PDU
  idle_one : (k : LinkId) (f : Flight) → is_idle_release (k, f) ≡ true → puts_on l id g ((k, f) ∷ []) ≡ []
  idle_one k (flight.Ctl r) idle = record_none k r id g l
  idle_one k (flight.Air i h num tag pdu) idle = absurd (let bad : false ≡ true = idle in cc)
  idle_one k (flight.Ack i h num) idle = absurd (let bad : false ≡ true = idle in cc)
  idle_one k (flight.Tun tag packet) idle = absurd (let bad : false ≡ true = idle in cc)
  idle_one k (flight.Sdu i h payload) idle = absurd (let bad : false ≡ true = idle in cc)
  idle_one k (flight.End i h) idle = absurd (let bad : false ≡ true = idle in cc)
  idle_one k (flight.Told i h count) idle = absurd (let bad : false ≡ true = idle in cc)

  idle_all : (xs : List Send) → puts_on l id g (filter is_idle_release xs) ≡ []
  idle_all [] = refl
  idle_all (x ∷ xs) = by (is_idle_release x) refl (idle_all xs)
    where
      by : (b : Bool) → is_idle_release x ≡ b → puts_on l id g (filter is_idle_release xs) ≡ [] → puts_on l id g (if b then x ∷ filter is_idle_release xs else filter is_idle_release xs) ≡ []
      by true idle more = puts_append l id g (x ∷ []) (filter is_idle_release xs) ∙ ap (λ zs. zs ++ puts_on l id g (filter is_idle_release xs)) (idle_one x.0 x.1 idle) ∙ more
      by false busy more = more

  -- the others
  abbrev busy : List Send → List Send
  busy xs = filter (λ r. if is_idle_release r then false else true) xs

  busy_all : (xs : List Send) → puts_on l id g (busy xs) ≡ puts_on l id g xs
  busy_all [] = refl
  busy_all (x ∷ xs) = by (is_idle_release x) refl (busy_all xs) ∙ sym (puts_append l id g (x ∷ []) xs)
    where
      by : (b : Bool) → is_idle_release x ≡ b → puts_on l id g (busy xs) ≡ puts_on l id g xs
          → puts_on l id g (if (if b then false else true) then x ∷ busy xs else busy xs) ≡ puts_on l id g (x ∷ []) ++ puts_on l id g xs
      by true idle more = more ∙ ap (λ zs. zs ++ puts_on l id g xs) (sym (idle_one x.0 x.1 idle))
      by false no' more = puts_append l id g (x ∷ []) (busy xs) ∙ ap (λ zs. puts_on l id g (x ∷ []) ++ zs) more

  -- those before a release, and those from it on
  parts : (xs : List Send) → puts_on l id g (sends_before xs) ++ puts_on l id g (sends_after xs) ≡ puts_on l id g xs
  parts [] = refl
  parts (x ∷ xs) = by (opens_release x) (parts xs)
    where
      append_three : (us vs ws : List Numbered) → (us ++ vs) ++ ws ≡ us ++ (vs ++ ws)
      append_three [] vs ws = refl
      append_three (u ∷ us) vs ws = ap (λ zs. u ∷ zs) (append_three us vs ws)

      by : (b : Bool) → puts_on l id g (sends_before xs) ++ puts_on l id g (sends_after xs) ≡ puts_on l id g xs
          → puts_on l id g (if b then [] else x ∷ sends_before xs) ++ puts_on l id g (if b then busy (x ∷ xs) else sends_after xs) ≡ puts_on l id g (x ∷ xs)
      by true more = busy_all (x ∷ xs)
      by false more =
          ap (λ zs. zs ++ puts_on l id g (sends_after xs)) (puts_append l id g (x ∷ []) (sends_before xs))
          ∙ append_three (puts_on l id g (x ∷ [])) (puts_on l id g (sends_before xs)) (puts_on l id g (sends_after xs))
          ∙ ap (λ zs. puts_on l id g (x ∷ []) ++ zs) more ∙ sym (puts_append l id g (x ∷ []) xs)

  puts_ended : is_link l ≡ true → (notes : List Note) (xs : List Send) → puts_of id g (put_on l (ended notes xs)) ≡ puts_on l id g xs
  puts_ended is notes xs =
      let before = ordered (notes_before notes) (sends_before xs) in
      let idle = map (λ (s : Send). line.Send s.0 s.1) (filter is_idle_release xs) in
      let after = ordered (notes_after notes) (sends_after xs) in
      ap (puts_of id g)
      (put_append l (before ++ idle) after
      ∙ ap (λ zs. zs ++ put_on l after) (put_append l before idle ∙ ap (λ zs. put_on l before ++ zs) (put_sends l (filter is_idle_release xs)) ∙ ap (λ zs. zs ++ sent_on l (filter is_idle_release xs)) (put_ordered l is (notes_before notes) (sends_before xs)))
      ∙ ap (λ zs. (sent_on l (sends_before xs) ++ sent_on l (filter is_idle_release xs)) ++ zs) (put_ordered l is (notes_after notes) (sends_after xs)))
      ∙ flat_map-append (λ (f : Flight). numbered_if id g (pdu_of f)) (sent_on l (sends_before xs) ++ sent_on l (filter is_idle_release xs)) (sent_on l (sends_after xs))
      ∙ ap (λ zs. zs ++ puts_on l id g (sends_after xs))
      (flat_map-append (λ (f : Flight). numbered_if id g (pdu_of f)) (sent_on l (sends_before xs)) (sent_on l (filter is_idle_release xs)) ∙ ap (λ zs. puts_on l id g (sends_before xs) ++ zs) (idle_all xs) ∙ append-nil (puts_on l id g (sends_before xs)))
      ∙ parts xs

-- the lines of an outcome put on a link the PDUs that it sends there
pub outcome_puts : (o : Outcome) (l : LinkId) (id g : ℕ) → is_link l ≡ true → puts_on l id g (sends (lines_of o)) ≡ puts_on l id g o.sends
outcome_puts o l id g is = by (list_any is_end o.notes)
  where
    by : (b : Bool) → puts_of id g (put_on l (lines_by b o)) ≡ puts_on l id g o.sends
    by true = puts_ended l id g is o.notes o.sends
    by false = ap (puts_of id g) (put_ordered l is o.notes o.sends)

-- ---- on what is no link

none_ordered : (l : LinkId) → is_link l ≡ false → (notes : List Note) (xs : List Send) → put_on l (ordered notes xs) ≡ []
none_ordered l is notes xs =
    let before = flat_map (notes_at notes) (0 ∷ 1 ∷ 2 ∷ 3 ∷ 4 ∷ []) in
    let middle = flat_map (sends_on xs) all_links in
    let after = flat_map (notes_at notes) (5 ∷ 6 ∷ []) in
    put_append l (before ++ middle) after
    ∙ ap (λ zs. put_on l (before ++ middle) ++ zs) (put_places l notes (5 ∷ 6 ∷ []))
    ∙ append-nil (put_on l (before ++ middle))
    ∙ put_append l before middle
    ∙ ap (λ zs. zs ++ put_on l middle) (put_places l notes (0 ∷ 1 ∷ 2 ∷ 3 ∷ 4 ∷ []))
    ∙ put_links l xs all_links
    ∙ none_of l is (sent_on l xs)

none_ended : (l : LinkId) (id g : ℕ) → is_link l ≡ false → (notes : List Note) (xs : List Send) → puts_of id g (put_on l (ended notes xs)) ≡ []
none_ended l id g is notes xs =
    let before = ordered (notes_before notes) (sends_before xs) in
    let idle = map (λ (s : Send). line.Send s.0 s.1) (filter is_idle_release xs) in
    let after = ordered (notes_after notes) (sends_after xs) in
    ap (puts_of id g)
    (put_append l (before ++ idle) after ∙ ap (λ zs. put_on l (before ++ idle) ++ zs) (none_ordered l is (notes_after notes) (sends_after xs)) ∙ append-nil (put_on l (before ++ idle))
    ∙ put_append l before idle ∙ ap (λ zs. zs ++ put_on l idle) (none_ordered l is (notes_before notes) (sends_before xs)) ∙ put_sends l (filter is_idle_release xs))
    ∙ idle_all l id g xs

-- nothing is put on what is no link
pub outcome_none : (o : Outcome) (l : LinkId) (id g : ℕ) → is_link l ≡ false → puts_on l id g (sends (lines_of o)) ≡ []
outcome_none o l id g is = by (list_any is_end o.notes)
  where
    by : (b : Bool) → puts_of id g (put_on l (lines_by b o)) ≡ []
    by true = none_ended l id g is o.notes o.sends
    by false = ap (puts_of id g) (none_ordered l is o.notes o.sends)
