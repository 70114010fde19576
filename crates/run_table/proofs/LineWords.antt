-- The lines of an outcome that change the command table: its words, in their order, whatever else comes of the event.
use Rattle.std.proofs.Common.{ℕ, ◌≡◌, ◌==◌, ◌++◌, Bool, true, false, List, [], ◌∷◌, Option, Some, None, refl, sym, ap, ◌∙◌, inl, inr}
use Rattle.std.specs.Prelude.{filter, fold, if◌then◌else◌, map}
use Rattle.std.specs.List.{flat_map, list_any}
use Rattle.std.proofs.lemmas.Bool.{cases_Bool}
use Rattle.std.proofs.lemmas.List.{append-nil}
use Rattle.dc_base.specs.Links.{all_links, is_same_link}
use Rattle.dc_base.specs.declared.events.Line.{Line}
use Rattle.dc_base.specs.declared.events.Line.TheVariants as line
use Rattle.dc_base.specs.declared.events.Note.{Note}
use Rattle.dc_base.specs.declared.events.Note.TheVariants as note
use Rattle.dc_base.specs.declared.flights.Flight.{Flight}
use Rattle.dc_base.specs.declared.flights.Flight.TheVariants as flight
use Rattle.dc_base.specs.declared.nodes.LinkId.{LinkId}
use Rattle.dc_base.specs.declared.nodes.Want.{Want}
use Rattle.dc_base.specs.declared.records.Plan.{Plan}
use Rattle.dc_base.specs.declared.records.Rec.{Rec}
use Rattle.dc_base.specs.declared.records.Rec.TheVariants as rec
use Rattle.transcript.specs.Transcript.{sends}
use Rattle.node_rules.specs.Choices.{Send}
use Rattle.node_rules.specs.Lines.{ended, is_end, is_idle_release, lines_by, lines_of, notes_after, notes_at, notes_before, opens_release, ordered, place, sends_after, sends_before, sends_on}
use Rattle.node_rules.specs.declared.inputs.Outcome.{Outcome}
use Rattle.run_table.specs.View.{View}
use Rattle.run_table.specs.Words.{Words, Ending, begun_notes, done, ending_note, hears, hears_flight, hears_note, hears_record, is_order, is_order_sent, is_word, is_word_line, lines_in, notes_of, order_sends, orders, over_notes, by_words, rejected}

-- ---- filters

pub filter_append : {X : Type 0} (f : X → Bool) (xs ys : List X) → filter f (xs ++ ys) ≡ filter f xs ++ filter f ys
filter_append f [] ys = refl
filter_append f (x ∷ xs) ys =
    elim (cases_Bool (f x)) [ inl yes' ↦ rw yes' (ap (λ zs. x ∷ zs) (filter_append f xs ys)) | inr no' ↦ rw no' (filter_append f xs ys) ]

pub filter_none : {X : Type 0} (f : X → Bool) (xs : List X) → list_any f xs ≡ false → filter f xs ≡ []
filter_none f [] none = refl
filter_none f (x ∷ xs) none =
    elim (cases_Bool (f x)) [ inl yes' ↦ let n = rw yes' at none in absurd cc | inr no' ↦ rw no' (filter_none f xs (rw no' at none)) ]

-- ---- what a line that is no word does: nothing

quiet_note : (v : View) (n : Note) → is_word n ≡ false → hears_note v n ≡ v
quiet_note v (note.Begin w) is = absurd cc
quiet_note v (note.Join x g) is = refl
quiet_note v (note.Leave x g) is = refl
quiet_note v (note.Give x id g) is = refl
quiet_note v (note.Own x id g) is = refl
quiet_note v (note.Set id g) is = refl
quiet_note v (note.Unset id) is = refl
quiet_note v (note.Up x id d count sdu) is = refl
quiet_note v (note.Freed id d count) is = refl
quiet_note v (note.Confirmed x) is = refl
quiet_note v (note.Refused x w) is = refl
quiet_note v note.Done is = absurd cc
quiet_note v note.Rejected is = absurd cc

quiet_record : (v : View) (r : Rec) → is_order r ≡ false → hears_record v r ≡ v
quiet_record v (rec.Reconf q key) is = absurd cc
quiet_record v (rec.Rcomp g) is = refl
quiet_record v (rec.Scgf pairs) is = refl
quiet_record v (rec.Recov id) is = refl
quiet_record v (rec.Recovd id) is = refl
quiet_record v (rec.Addreq q key) is = refl
quiet_record v (rec.Addack g) is = refl
quiet_record v (rec.Addrej g) is = refl
quiet_record v (rec.Modreq q key) is = refl
quiet_record v (rec.Modack g) is = refl
quiet_record v (rec.Modrej g) is = refl
quiet_record v (rec.Recfg g) is = refl
quiet_record v (rec.Relreq q) is = refl
quiet_record v (rec.Relack g) is = refl
quiet_record v (rec.Relrej g) is = refl
quiet_record v (rec.Uecr g) is = refl
quiet_record v (rec.Snst s) is = refl
quiet_record v (rec.Moved g id) is = refl
quiet_record v (rec.Scgn id g) is = refl
quiet_record v rec.Modrqd is = refl
quiet_record v (rec.Modcnf g) is = refl
quiet_record v (rec.Modref w) is = refl
quiet_record v rec.Chgrqd is = refl
quiet_record v (rec.Chgcnf q) is = refl
quiet_record v (rec.Chgref w) is = refl
quiet_record v rec.Relrqd is = refl
quiet_record v (rec.Relcnf q) is = refl

quiet_flight : (v : View) (f : Flight) → orders f ≡ false → hears_flight v f ≡ v
quiet_flight v (flight.Air id g num tag pdu) is = refl
quiet_flight v (flight.Ack id g num) is = refl
quiet_flight v (flight.Tun tag packet) is = refl
quiet_flight v (flight.Sdu id g sdu) is = refl
quiet_flight v (flight.End id g) is = refl
quiet_flight v (flight.Told id g count) is = refl
quiet_flight v (flight.Ctl r) is = quiet_record v r is

pub quiet_line : (v : View) (x : Line) → is_word_line x ≡ false → hears v x ≡ v
quiet_line v (line.Note n) is = quiet_note v n is
quiet_line v (line.Send l f) is = quiet_flight v f is
quiet_line v (line.Event e) is = refl
quiet_line v (line.Answer a) is = refl

-- so only the words count
fold_words : (xs : List Line) (v : View) → fold hears v xs ≡ fold hears v (filter is_word_line xs)
fold_words [] v = refl
fold_words (x ∷ xs) v =
    elim (cases_Bool (is_word_line x)) [
      | inl yes' ↦ rw yes' (fold_words xs (hears v x))
      | inr no' ↦ rw no' (ap (λ u. fold hears u xs) (quiet_line v x no') ∙ fold_words xs v)
    ]

-- ---- the words of lines in order

words_flat : {X Y : Type 0} (f : Y → Bool) (g h : X → List Y) (xs : List X) → ((x : X) → filter f (g x) ≡ h x) → filter f (flat_map g xs) ≡ flat_map h xs
words_flat f g h [] same = refl
words_flat f g h (x ∷ xs) same =
    filter_append f (g x) (flat_map g xs) ∙ ap (λ ys. ys ++ filter f (flat_map g xs)) (same x) ∙ ap (λ ys. h x ++ ys) (words_flat f g h xs same)

words_at : (k : ℕ) (notes : List Note) → filter is_word_line (notes_at notes k) ≡ notes_at (filter is_word notes) k
words_at k [] = refl
words_at k (n ∷ ns) =
    elim (cases_Bool (place n == k)) [
      | inl here ↦ elim (cases_Bool (is_word n)) [
        | inl said ↦ rw here (rw said (rw here (ap (λ xs. line.Note n ∷ xs) (words_at k ns))))
        | inr quiet' ↦ rw here (rw quiet' (words_at k ns))
      ]
      | inr apart ↦ elim (cases_Bool (is_word n)) [
        | inl said ↦ rw apart (rw said (rw apart (words_at k ns)))
        | inr quiet' ↦ rw apart (rw quiet' (words_at k ns))
      ]
    ]

words_on : (l : LinkId) (sends : List Send) → filter is_word_line (sends_on sends l) ≡ sends_on (filter is_order_sent sends) l
words_on l [] = refl
words_on l (s ∷ ss) =
    elim (cases_Bool (is_same_link l s.0)) [
      | inl here ↦ elim (cases_Bool (orders s.1)) [
        | inl said ↦ rw here (rw said (rw here (ap (λ xs. line.Send s.0 s.1 ∷ xs) (words_on l ss))))
        | inr quiet' ↦ rw here (rw quiet' (words_on l ss))
      ]
      | inr apart ↦ elim (cases_Bool (orders s.1)) [
        | inl said ↦ rw apart (rw said (rw apart (words_on l ss)))
        | inr quiet' ↦ rw apart (rw quiet' (words_on l ss))
      ]
    ]

words_ordered : (notes : List Note) (sends : List Send) → filter is_word_line (ordered notes sends) ≡ ordered (filter is_word notes) (filter is_order_sent sends)
words_ordered notes sends =
    let first = flat_map (notes_at notes) (0 ∷ 1 ∷ 2 ∷ 3 ∷ 4 ∷ []) in
    let mid = flat_map (sends_on sends) all_links in
    let last = flat_map (notes_at notes) (5 ∷ 6 ∷ []) in
    let ns = filter is_word notes in
    let ss = filter is_order_sent sends in
    let at_first = words_flat is_word_line (notes_at notes) (notes_at ns) (0 ∷ 1 ∷ 2 ∷ 3 ∷ 4 ∷ []) (λ k. words_at k notes) in
    let at_mid = words_flat is_word_line (sends_on sends) (sends_on ss) all_links (λ l. words_on l sends) in
    let at_last = words_flat is_word_line (notes_at notes) (notes_at ns) (5 ∷ 6 ∷ []) (λ k. words_at k notes) in
    filter_append is_word_line (first ++ mid) last
    ∙ ap (λ xs. xs ++ filter is_word_line last) (filter_append is_word_line first mid)
    ∙ ap (λ xs. (xs ++ filter is_word_line mid) ++ filter is_word_line last) at_first
    ∙ ap (λ xs. (flat_map (notes_at ns) (0 ∷ 1 ∷ 2 ∷ 3 ∷ 4 ∷ []) ++ xs) ++ filter is_word_line last) at_mid
    ∙ ap (λ xs. (flat_map (notes_at ns) (0 ∷ 1 ∷ 2 ∷ 3 ∷ 4 ∷ []) ++ flat_map (sends_on ss) all_links) ++ xs) at_last

-- where no command ends
words_calm : (o : Option Want) (x : Option (Plan × List ℕ)) → ordered (begun_notes o) (order_sends x) ≡ lines_in (begun_notes o) (order_sends x)
words_calm None None = refl
words_calm None (Some x) = refl
words_calm (Some w) None = refl
words_calm (Some w) (Some x) = refl

-- ---- where one ends

end_is_word : (n : Note) → is_word n ≡ false → is_end n ≡ false
end_is_word (note.Begin w) is = absurd cc
end_is_word (note.Join x g) is = refl
end_is_word (note.Leave x g) is = refl
end_is_word (note.Give x id g) is = refl
end_is_word (note.Own x id g) is = refl
end_is_word (note.Set id g) is = refl
end_is_word (note.Unset id) is = refl
end_is_word (note.Up x id d count sdu) is = refl
end_is_word (note.Freed id d count) is = refl
end_is_word (note.Confirmed x) is = refl
end_is_word (note.Refused x w) is = refl
end_is_word note.Done is = absurd cc
end_is_word note.Rejected is = absurd cc

end_said : (n : Note) → is_end n ≡ true → is_word n ≡ true
end_said (note.Begin w) is = absurd cc
end_said (note.Join x g) is = absurd cc
end_said (note.Leave x g) is = absurd cc
end_said (note.Give x id g) is = absurd cc
end_said (note.Own x id g) is = absurd cc
end_said (note.Set id g) is = absurd cc
end_said (note.Unset id) is = absurd cc
end_said (note.Up x id d count sdu) is = absurd cc
end_said (note.Freed id d count) is = absurd cc
end_said (note.Confirmed x) is = absurd cc
end_said (note.Refused x w) is = absurd cc
end_said note.Done is = refl
end_said note.Rejected is = refl

any_end : (notes : List Note) → list_any is_end notes ≡ list_any is_end (filter is_word notes)
any_end [] = refl
any_end (n ∷ ns) =
    elim (cases_Bool (is_word n)) [
      | inl said ↦ rw said (elim (cases_Bool (is_end n)) [ inl yes' ↦ rw yes' refl | inr no' ↦ rw no' (any_end ns) ])
      | inr quiet' ↦ rw quiet' (rw (end_is_word n quiet') (any_end ns))
    ]

words_before : (notes : List Note) → filter is_word (notes_before notes) ≡ notes_before (filter is_word notes)
words_before [] = refl
words_before (n ∷ ns) =
    elim (cases_Bool (is_end n)) [
      | inl yes' ↦ rw yes' (rw (end_said n yes') (rw yes' refl))
      | inr no' ↦ elim (cases_Bool (is_word n)) [
        | inl said ↦ rw no' (rw said (rw no' (ap (λ xs. n ∷ xs) (words_before ns))))
        | inr quiet' ↦ rw no' (rw quiet' (words_before ns))
      ]
    ]

words_after : (notes : List Note) → filter is_word (notes_after notes) ≡ notes_after (filter is_word notes)
words_after [] = refl
words_after (n ∷ ns) =
    elim (cases_Bool (is_end n)) [
      | inl yes' ↦ rw yes' (rw (end_said n yes') (rw yes' refl))
      | inr no' ↦ elim (cases_Bool (is_word n)) [
        | inl said ↦ rw no' (rw said (rw no' (words_after ns)))
        | inr quiet' ↦ rw no' (rw quiet' (words_after ns))
      ]
    ]

-- an order opens a release, and is no idle answer
shut_no_order : (s : Send) → opens_release s ≡ false → is_order_sent s ≡ false
shut_no_order (l, flight.Air id g num tag pdu) is = refl
shut_no_order (l, flight.Ack id g num) is = refl
shut_no_order (l, flight.Tun tag packet) is = refl
shut_no_order (l, flight.Sdu id g sdu) is = refl
shut_no_order (l, flight.End id g) is = refl
shut_no_order (l, flight.Told id g count) is = refl
shut_no_order (l, flight.Ctl (rec.Reconf q key)) is = absurd cc
shut_no_order (l, flight.Ctl (rec.Rcomp g)) is = refl
shut_no_order (l, flight.Ctl (rec.Scgf pairs)) is = refl
shut_no_order (l, flight.Ctl (rec.Recov id)) is = refl
shut_no_order (l, flight.Ctl (rec.Recovd id)) is = refl
shut_no_order (l, flight.Ctl (rec.Addreq q key)) is = refl
shut_no_order (l, flight.Ctl (rec.Addack g)) is = refl
shut_no_order (l, flight.Ctl (rec.Addrej g)) is = refl
shut_no_order (l, flight.Ctl (rec.Modreq q key)) is = refl
shut_no_order (l, flight.Ctl (rec.Modack g)) is = refl
shut_no_order (l, flight.Ctl (rec.Modrej g)) is = refl
shut_no_order (l, flight.Ctl (rec.Recfg g)) is = refl
shut_no_order (l, flight.Ctl (rec.Relreq q)) is = refl
shut_no_order (l, flight.Ctl (rec.Relack g)) is = refl
shut_no_order (l, flight.Ctl (rec.Relrej g)) is = refl
shut_no_order (l, flight.Ctl (rec.Uecr g)) is = refl
shut_no_order (l, flight.Ctl (rec.Snst s)) is = refl
shut_no_order (l, flight.Ctl (rec.Moved g id)) is = refl
shut_no_order (l, flight.Ctl (rec.Scgn id g)) is = refl
shut_no_order (l, flight.Ctl rec.Modrqd) is = refl
shut_no_order (l, flight.Ctl (rec.Modcnf g)) is = refl
shut_no_order (l, flight.Ctl (rec.Modref w)) is = refl
shut_no_order (l, flight.Ctl rec.Chgrqd) is = refl
shut_no_order (l, flight.Ctl (rec.Chgcnf q)) is = refl
shut_no_order (l, flight.Ctl (rec.Chgref w)) is = refl
shut_no_order (l, flight.Ctl rec.Relrqd) is = refl
shut_no_order (l, flight.Ctl (rec.Relcnf q)) is = refl

idle_no_order : (s : Send) → is_idle_release s ≡ true → is_order_sent s ≡ false
idle_no_order (l, flight.Air id g num tag pdu) is = refl
idle_no_order (l, flight.Ack id g num) is = refl
idle_no_order (l, flight.Tun tag packet) is = refl
idle_no_order (l, flight.Sdu id g sdu) is = refl
idle_no_order (l, flight.End id g) is = refl
idle_no_order (l, flight.Told id g count) is = refl
idle_no_order (l, flight.Ctl (rec.Reconf q key)) is = absurd cc
idle_no_order (l, flight.Ctl (rec.Rcomp g)) is = refl
idle_no_order (l, flight.Ctl (rec.Scgf pairs)) is = refl
idle_no_order (l, flight.Ctl (rec.Recov id)) is = refl
idle_no_order (l, flight.Ctl (rec.Recovd id)) is = refl
idle_no_order (l, flight.Ctl (rec.Addreq q key)) is = refl
idle_no_order (l, flight.Ctl (rec.Addack g)) is = refl
idle_no_order (l, flight.Ctl (rec.Addrej g)) is = refl
idle_no_order (l, flight.Ctl (rec.Modreq q key)) is = refl
idle_no_order (l, flight.Ctl (rec.Modack g)) is = refl
idle_no_order (l, flight.Ctl (rec.Modrej g)) is = refl
idle_no_order (l, flight.Ctl (rec.Recfg g)) is = refl
idle_no_order (l, flight.Ctl (rec.Relreq q)) is = refl
idle_no_order (l, flight.Ctl (rec.Relack g)) is = refl
idle_no_order (l, flight.Ctl (rec.Relrej g)) is = refl
idle_no_order (l, flight.Ctl (rec.Uecr g)) is = refl
idle_no_order (l, flight.Ctl (rec.Snst s)) is = refl
idle_no_order (l, flight.Ctl (rec.Moved g id)) is = refl
idle_no_order (l, flight.Ctl (rec.Scgn id g)) is = refl
idle_no_order (l, flight.Ctl rec.Modrqd) is = refl
idle_no_order (l, flight.Ctl (rec.Modcnf g)) is = refl
idle_no_order (l, flight.Ctl (rec.Modref w)) is = refl
idle_no_order (l, flight.Ctl rec.Chgrqd) is = refl
idle_no_order (l, flight.Ctl (rec.Chgcnf q)) is = refl
idle_no_order (l, flight.Ctl (rec.Chgref w)) is = refl
idle_no_order (l, flight.Ctl rec.Relrqd) is = refl
idle_no_order (l, flight.Ctl (rec.Relcnf q)) is = refl

orders_before : (sends : List Send) → filter is_order_sent (sends_before sends) ≡ []
orders_before [] = refl
orders_before (s ∷ ss) =
    elim (cases_Bool (opens_release s)) [
      | inl yes' ↦ rw yes' refl
      | inr no' ↦ rw no' (rw (shut_no_order s no') (orders_before ss))
    ]

no_idle : (sends : List Send) → filter is_order_sent (filter (λ r. if is_idle_release r then false else true) sends) ≡ filter is_order_sent sends
no_idle [] = refl
no_idle (s ∷ ss) =
    elim (cases_Bool (is_idle_release s)) [
      | inl idle ↦ rw idle (rw (idle_no_order s idle) (no_idle ss))
      | inr busy ↦ elim (cases_Bool (is_order_sent s)) [
        | inl yes' ↦ rw busy (rw yes' (ap (λ xs. s ∷ xs) (no_idle ss)))
        | inr no' ↦ rw busy (rw no' (no_idle ss))
      ]
    ]

orders_after : (sends : List Send) → filter is_order_sent (sends_after sends) ≡ filter is_order_sent sends
orders_after [] = refl
orders_after (s ∷ ss) =
    elim (cases_Bool (opens_release s)) [
      | inl yes' ↦ rw yes' (no_idle (s ∷ ss))
      | inr no' ↦ rw no' (rw (shut_no_order s no') (orders_after ss))
    ]

idle_words : (sends : List Send) → filter is_word_line (map (λ (s : Send). line.Send s.0 s.1) (filter is_idle_release sends)) ≡ []
idle_words [] = refl
idle_words (s ∷ ss) =
    elim (cases_Bool (is_idle_release s)) [
      | inl idle ↦ rw idle (rw (idle_no_order s idle) (idle_words ss))
      | inr busy ↦ rw busy (idle_words ss)
    ]

words_ended : (notes : List Note) (sends : List Send)
    → filter is_word_line (ended notes sends)
    ≡ ordered (notes_before (filter is_word notes)) [] ++ ordered (notes_after (filter is_word notes)) (filter is_order_sent sends)
words_ended notes sends =
    let first = ordered (notes_before notes) (sends_before sends) in
    let idle = map (λ (s : Send). line.Send s.0 s.1) (filter is_idle_release sends) in
    let last = ordered (notes_after notes) (sends_after sends) in
    let at_first : filter is_word_line first ≡ ordered (notes_before (filter is_word notes)) [] =
    words_ordered (notes_before notes) (sends_before sends)
    ∙ ap (λ ns. ordered ns (filter is_order_sent (sends_before sends))) (words_before notes)
    ∙ ap (λ ss. ordered (notes_before (filter is_word notes)) ss) (orders_before sends) in
    let at_last : filter is_word_line last ≡ ordered (notes_after (filter is_word notes)) (filter is_order_sent sends) =
    words_ordered (notes_after notes) (sends_after sends)
    ∙ ap (λ ns. ordered ns (filter is_order_sent (sends_after sends))) (words_after notes)
    ∙ ap (λ ss. ordered (notes_after (filter is_word notes)) ss) (orders_after sends) in
    filter_append is_word_line (first ++ idle) last
    ∙ ap (λ xs. xs ++ filter is_word_line last) (filter_append is_word_line first idle)
    ∙ ap (λ xs. (filter is_word_line first ++ xs) ++ filter is_word_line last) (idle_words sends)
    ∙ ap (λ xs. (xs ++ []) ++ filter is_word_line last) at_first
    ∙ ap (λ xs. (ordered (notes_before (filter is_word notes)) [] ++ []) ++ xs) at_last
    ∙ ap (λ xs. xs ++ ordered (notes_after (filter is_word notes)) (filter is_order_sent sends)) (append-nil (ordered (notes_before (filter is_word notes)) []))

words_end : (x : Ending) (o : Option Want) (s : Option (Plan × List ℕ))
    → ordered (notes_before (ending_note x ∷ begun_notes o)) [] ++ ordered (notes_after (ending_note x ∷ begun_notes o)) (order_sends s)
    ≡ lines_in (ending_note x ∷ begun_notes o) (order_sends s)
words_end done None None = refl
words_end done None (Some x) = refl
words_end done (Some w) None = refl
words_end done (Some w) (Some x) = refl
words_end rejected None None = refl
words_end rejected None (Some x) = refl
words_end rejected (Some w) None = refl
words_end rejected (Some w) (Some x) = refl

no_end : (o : Option Want) → list_any is_end (begun_notes o) ≡ true → ⊥
no_end None is = absurd cc
no_end (Some w) is = absurd cc

an_end : (x : Ending) (o : Option Want) → list_any is_end (ending_note x ∷ begun_notes o) ≡ false → ⊥
an_end done o is = absurd cc
an_end rejected o is = absurd cc

-- ---- of an outcome

words_by : (ends : Bool) (o : Outcome) (w : Words) → list_any is_end (filter is_word o.notes) ≡ ends → filter is_word o.notes ≡ notes_of w
    → filter is_order_sent o.sends ≡ order_sends w.order → filter is_word_line (lines_by ends o) ≡ lines_in (notes_of w) (order_sends w.order)
words_by true o w any notes sends = of_over w.over refl
  where
    of_over : (x : Option Ending) → w.over ≡ x → filter is_word_line (ended o.notes o.sends) ≡ lines_in (notes_of w) (order_sends w.order)
    of_over None is = absurd (no_end w.begun (ap (λ ns. list_any is_end ns) (sym (ap (λ y. over_notes y ++ begun_notes w.begun) is)) ∙ ap (λ ns. list_any is_end ns) (sym notes) ∙ any))
    of_over (Some x) is =
        let ns : notes_of w ≡ ending_note x ∷ begun_notes w.begun = ap (λ y. over_notes y ++ begun_notes w.begun) is in
        words_ended o.notes o.sends
        ∙ ap (λ xs. ordered (notes_before xs) [] ++ ordered (notes_after xs) (filter is_order_sent o.sends)) (notes ∙ ns)
        ∙ ap (λ ss. ordered (notes_before (ending_note x ∷ begun_notes w.begun)) [] ++ ordered (notes_after (ending_note x ∷ begun_notes w.begun)) ss) sends
        ∙ words_end x w.begun w.order ∙ ap (λ xs. lines_in xs (order_sends w.order)) (sym ns)
words_by false o w any notes sends = of_over w.over refl
  where
    of_over : (x : Option Ending) → w.over ≡ x → filter is_word_line (ordered o.notes o.sends) ≡ lines_in (notes_of w) (order_sends w.order)
    of_over None is =
        let ns : notes_of w ≡ begun_notes w.begun = ap (λ y. over_notes y ++ begun_notes w.begun) is in
        words_ordered o.notes o.sends ∙ ap (λ xs. ordered xs (filter is_order_sent o.sends)) (notes ∙ ns) ∙ ap (λ ss. ordered (begun_notes w.begun) ss) sends
        ∙ words_calm w.begun w.order ∙ ap (λ xs. lines_in xs (order_sends w.order)) (sym ns)
    of_over (Some x) is =
        absurd (an_end x w.begun (ap (λ ns. list_any is_end ns) (sym (ap (λ y. over_notes y ++ begun_notes w.begun) is)) ∙ ap (λ ns. list_any is_end ns) (sym notes) ∙ any))

-- the words of its lines
pub lines_words : (o : Outcome) (w : Words) → filter is_word o.notes ≡ notes_of w → filter is_order_sent o.sends ≡ order_sends w.order
    → filter is_word_line (lines_of o) ≡ lines_in (notes_of w) (order_sends w.order)
lines_words o w notes sends = words_by (list_any is_end o.notes) o w (sym (any_end o.notes)) notes sends

-- where an outcome says these words, and whatever else, its lines change the table by them
pub heard_lines : (o : Outcome) (w : Words) (v : View) → filter is_word o.notes ≡ notes_of w → filter is_order_sent o.sends ≡ order_sends w.order
    → fold hears v (lines_of o) ≡ by_words w v
heard_lines o w v notes sends = fold_words (lines_of o) v ∙ ap (λ xs. fold hears v xs) (lines_words o w notes sends)

-- ---- the orders among its sends

orders_of_line : (x : Line) (xs : List Line) → filter is_order_sent (sends xs) ≡ sends (filter is_word_line xs) → filter is_order_sent (sends (x ∷ xs)) ≡ sends (filter is_word_line (x ∷ xs))
orders_of_line (line.Note n) xs rest = elim (cases_Bool (is_word n)) [ inl yes' ↦ rw yes' rest | inr no' ↦ rw no' rest ]
orders_of_line (line.Send l f) xs rest = elim (cases_Bool (orders f)) [ inl yes' ↦ rw yes' (ap (λ ss. (l, f) ∷ ss) rest) | inr no' ↦ rw no' rest ]
orders_of_line (line.Event e) xs rest = rest
orders_of_line (line.Answer a) xs rest = rest

orders_of_lines : (xs : List Line) → filter is_order_sent (sends xs) ≡ sends (filter is_word_line xs)
orders_of_lines [] = refl
orders_of_lines (x ∷ xs) = orders_of_line x xs (orders_of_lines xs)

sends_of_notes : (ns : List Note) (xs : List Line) → sends (map (λ n. line.Note n) ns ++ xs) ≡ sends xs
sends_of_notes [] xs = refl
sends_of_notes (n ∷ ns) xs = sends_of_notes ns xs

sends_of_order : (o : Option (Plan × List ℕ)) → sends (map (λ (s : Send). line.Send s.0 s.1) (order_sends o)) ≡ order_sends o
sends_of_order None = refl
sends_of_order (Some x) = refl

-- the orders that stand on its lines
pub orders_sent : (o : Outcome) (w : Words) → filter is_word o.notes ≡ notes_of w → filter is_order_sent o.sends ≡ order_sends w.order
    → filter is_order_sent (sends (lines_of o)) ≡ order_sends w.order
orders_sent o w notes sent =
    orders_of_lines (lines_of o) ∙ ap sends (lines_words o w notes sent)
    ∙ sends_of_notes (notes_of w) (map (λ (s : Send). line.Send s.0 s.1) (order_sends w.order)) ∙ sends_of_order w.order
