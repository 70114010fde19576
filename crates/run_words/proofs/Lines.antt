-- What the lines of an outcome are: its notes and its sends.
use Rattle.std.proofs.Common.{ℕ, ◌==◌, ◌++◌, Bool, true, false, List, [], ◌∷◌, inl, inr}
use Rattle.std.specs.Prelude.{filter, if◌then◌else◌, map}
use Rattle.std.specs.List.{AllByRecursion, flat_map, list_any}
use Rattle.std.proofs.lemmas.Bool.{cases_Bool}
use Rattle.dc_base.specs.Links.{all_links, is_same_link}
use Rattle.dc_base.specs.declared.events.Line.{Line}
use Rattle.dc_base.specs.declared.events.Line.TheVariants as line
use Rattle.dc_base.specs.declared.events.Note.{Note}
use Rattle.dc_base.specs.declared.nodes.LinkId.{LinkId}
use Rattle.transcript.proofs.OnEach.{each_append}
use Rattle.node_rules.specs.Choices.{Send}
use Rattle.node_rules.specs.Lines.{ended, is_end, is_idle_release, lines_by, lines_of, notes_after, notes_at, notes_before, opens_release, ordered, place, sends_after, sends_before, sends_on}
use Rattle.node_rules.specs.declared.inputs.Outcome.{Outcome}

-- what is so of each of a list is so of those that pass a test
each_filter : {X : Type 0} (P : X → Type 0) (f : X → Bool) (xs : List X) → AllByRecursion P xs → AllByRecursion P (filter f xs)
each_filter P f [] all = tt
each_filter P f (x ∷ xs) all = elim (cases_Bool (f x)) [ inl yes' ↦ rw yes' (all.0, each_filter P f xs all.1) | inr no' ↦ rw no' (each_filter P f xs all.1) ]

each_map : {X Y : Type 0} (P : Y → Type 0) (f : X → Y) (xs : List X) → AllByRecursion (λ x. P (f x)) xs → AllByRecursion P (map f xs)
each_map P f [] all = tt
each_map P f (x ∷ xs) all = (all.0, each_map P f xs all.1)

pub each_flat : {X Y : Type 0} (P : Y → Type 0) (f : X → List Y) (xs : List X) → ((x : X) → AllByRecursion P (f x)) → AllByRecursion P (flat_map f xs)
each_flat P f [] all = tt
each_flat P f (x ∷ xs) all = each_append P (f x) (flat_map f xs) (all x) (each_flat P f xs all)

module _ (P : Line → Type 0) where
  -- of a note, and of a send
  abbrev OfNote : Note → Type 0
  OfNote n = P (line.Note n)

  abbrev OfSend : Send → Type 0
  OfSend s = P (line.Send s.0 s.1)

  each_note_at : (notes : List Note) → AllByRecursion OfNote notes → (k : ℕ) → AllByRecursion P (notes_at notes k)
  each_note_at notes all k = each_map P (λ n. line.Note n) (filter (λ n. place n == k) notes) (each_filter OfNote (λ n. place n == k) notes all)

  each_send_on : (sends : List Send) → AllByRecursion OfSend sends → (l : LinkId) → AllByRecursion P (sends_on sends l)
  each_send_on sends all l =
      each_map P (λ (s : Send). line.Send s.0 s.1) (filter (λ (s : Send). is_same_link l s.0) sends) (each_filter OfSend (λ (s : Send). is_same_link l s.0) sends all)

  each_ordered : (notes : List Note) (sends : List Send) → AllByRecursion OfNote notes → AllByRecursion OfSend sends → AllByRecursion P (ordered notes sends)
  each_ordered notes sends of_notes of_sends =
      let first = each_flat P (notes_at notes) (0 ∷ 1 ∷ 2 ∷ 3 ∷ 4 ∷ []) (each_note_at notes of_notes) in
      let mid = each_flat P (sends_on sends) all_links (each_send_on sends of_sends) in
      let last = each_flat P (notes_at notes) (5 ∷ 6 ∷ []) (each_note_at notes of_notes) in
      each_append P (flat_map (notes_at notes) (0 ∷ 1 ∷ 2 ∷ 3 ∷ 4 ∷ []) ++ flat_map (sends_on sends) all_links) (flat_map (notes_at notes) (5 ∷ 6 ∷ []))
      (each_append P (flat_map (notes_at notes) (0 ∷ 1 ∷ 2 ∷ 3 ∷ 4 ∷ [])) (flat_map (sends_on sends) all_links) first mid) last

  each_before : (notes : List Note) → AllByRecursion OfNote notes → AllByRecursion OfNote (notes_before notes)
  each_before [] all = tt
  each_before (n ∷ ns) all = elim (cases_Bool (is_end n)) [ inl yes' ↦ rw yes' (all.0, tt) | inr no' ↦ rw no' (all.0, each_before ns all.1) ]

  each_after : (notes : List Note) → AllByRecursion OfNote notes → AllByRecursion OfNote (notes_after notes)
  each_after [] all = tt
  each_after (n ∷ ns) all = elim (cases_Bool (is_end n)) [ inl yes' ↦ rw yes' all.1 | inr no' ↦ rw no' (each_after ns all.1) ]

  each_send_before : (sends : List Send) → AllByRecursion OfSend sends → AllByRecursion OfSend (sends_before sends)
  each_send_before [] all = tt
  each_send_before (s ∷ ss) all = elim (cases_Bool (opens_release s)) [ inl yes' ↦ rw yes' tt | inr no' ↦ rw no' (all.0, each_send_before ss all.1) ]

  each_send_after : (sends : List Send) → AllByRecursion OfSend sends → AllByRecursion OfSend (sends_after sends)
  each_send_after [] all = tt
  each_send_after (s ∷ ss) all =
      elim (cases_Bool (opens_release s)) [
        | inl yes' ↦ rw yes' (each_filter OfSend (λ r. if is_idle_release r then false else true) (s ∷ ss) all)
        | inr no' ↦ rw no' (each_send_after ss all.1)
      ]

  each_ended : (notes : List Note) (sends : List Send) → AllByRecursion OfNote notes → AllByRecursion OfSend sends → AllByRecursion P (ended notes sends)
  each_ended notes sends of_notes of_sends =
      let idle = map (λ (s : Send). line.Send s.0 s.1) (filter is_idle_release sends) in
      let last = ordered (notes_after notes) (sends_after sends) in
      let first = ordered (notes_before notes) (sends_before sends) in
      each_append P (first ++ idle) last
      (each_append P first idle (each_ordered (notes_before notes) (sends_before sends) (each_before notes of_notes) (each_send_before sends of_sends))
      (each_map P (λ (s : Send). line.Send s.0 s.1) (filter is_idle_release sends) (each_filter OfSend is_idle_release sends of_sends)))
      (each_ordered (notes_after notes) (sends_after sends) (each_after notes of_notes) (each_send_after sends of_sends))

  -- what is so of each note and each send is so of each line
  pub each_line_of : (o : Outcome) → AllByRecursion OfNote o.notes → AllByRecursion OfSend o.sends → AllByRecursion P (lines_of o)
  each_line_of o of_notes of_sends = by (list_any is_end o.notes)
    where
      by : (ends : Bool) → AllByRecursion P (lines_by ends o)
      by true = each_ended o.notes o.sends of_notes of_sends
      by false = each_ordered o.notes o.sends of_notes of_sends
