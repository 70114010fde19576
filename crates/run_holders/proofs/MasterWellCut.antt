-- The lines of a step in which a plan is carried out: those of what came before, and those from its command on, of which none draws a
-- plan.
use Rattle.std.proofs.Common.{append_assoc, ℕ, ◌≡◌, ◌==◌, ◌++◌, ◌∙◌, Bool, true, false, List, [], ◌∷◌, refl, sym, ap, subst, inl, inr}
use Rattle.std.proofs.lemmas.Bool.{cases_Bool}
use Rattle.std.specs.List.{AllByRecursion, list_any}
use Rattle.std.specs.Prelude.{filter, flat_map, if◌then◌else◌, map, ◌||◌, ◌⊎◌}
use Rattle.dc_base.specs.Links.{all_links, is_same_link}
use Rattle.dc_base.specs.declared.events.Line.{Line}
use Rattle.dc_base.specs.declared.events.Line.TheVariants as line
use Rattle.dc_base.specs.declared.events.Note.{Note}
use Rattle.dc_base.specs.declared.events.Note.TheVariants as note
use Rattle.dc_base.specs.declared.flights.Flight.TheVariants as flight
use Rattle.dc_base.specs.declared.nodes.LinkId.{LinkId}
use Rattle.dc_base.specs.declared.nodes.Want.{Want}
use Rattle.dc_base.specs.declared.records.Plan.{Plan}
use Rattle.dc_base.specs.declared.records.Rec.TheVariants as rec
use Rattle.transcript.proofs.OnEach.{each_append, each_weaker}
use Rattle.node_rules.specs.Choices.{Send}
use Rattle.node_rules.specs.Lines.{is_end, is_idle_release, lines_by, lines_of, notes_after, notes_at, notes_before, opens_release, ordered, place, sends_after, sends_before, sends_on}
use Rattle.node_rules.specs.declared.inputs.Outcome.{Outcome}
use Rattle.run_words.proofs.Lines.{each_flat}
use Rattle.run_holders.proofs.MasterWellLines.{LineOf, OrdersOf, OwnsOf, StillOf}

-- first lines of the one kind, and then of the other
pub record Cut (P Q : Line → Type 0) (lines : List Line) : Type 0 where
  pub start : List Line
  pub rest : List Line
  pub is : lines ≡ start ++ rest
  pub first : AllByRecursion P start
  pub then' : AllByRecursion Q rest

-- the note ends no command
abbrev pub NoEnd : Note → Type 0
NoEnd n = is_end n ≡ false

pub each_filter : {X : Type 0} (P : X → Type 0) (f : X → Bool) (xs : List X) → AllByRecursion P xs → AllByRecursion P (filter f xs)
each_filter P f [] all = tt
each_filter P f (x ∷ xs) all = elim (cases_Bool (f x)) [ inl yes' ↦ rw yes' (all.0, each_filter P f xs all.1) | inr no' ↦ rw no' (each_filter P f xs all.1) ]

each_map : {X Y : Type 0} (P : Y → Type 0) (f : X → Y) (xs : List X) → AllByRecursion (λ x. P (f x)) xs → AllByRecursion P (map f xs)
each_map P f [] all = tt
each_map P f (x ∷ xs) all = (all.0, each_map P f xs all.1)

-- ---- lines in their order

-- what stands first is of no anchor
first_place : (N : ℕ → ℕ → Type 0) (R : Plan → Type 0) (ns : List Note) → AllByRecursion (LineOf N R) (notes_at ns 0)
first_place N R [] = tt
first_place N R (note.Begin w ∷ ns) = (tt, first_place N R ns)
first_place N R (note.Join x g ∷ ns) = first_place N R ns
first_place N R (note.Leave x g ∷ ns) = first_place N R ns
first_place N R (note.Give x id g ∷ ns) = first_place N R ns
first_place N R (note.Own x id g ∷ ns) = first_place N R ns
first_place N R (note.Set id g ∷ ns) = first_place N R ns
first_place N R (note.Unset id ∷ ns) = first_place N R ns
first_place N R (note.Up x id d count sdu ∷ ns) = first_place N R ns
first_place N R (note.Freed id d count ∷ ns) = first_place N R ns
first_place N R (note.Confirmed x ∷ ns) = first_place N R ns
first_place N R (note.Refused x w ∷ ns) = first_place N R ns
first_place N R (note.Done ∷ ns) = first_place N R ns
first_place N R (note.Rejected ∷ ns) = first_place N R ns

module _ (P : ℕ → ℕ → Type 0) (Q : Plan → Type 0) where
  note_at : (k : ℕ) → ((w : Want) → (place (note.Begin w) == k) ≡ false) → (n : Note) → (place n == k) ≡ true → OwnsOf P n → StillOf P Q (line.Note n)
  note_at k later (note.Begin w) at is = absurd (let bad : false ≡ true = sym (later w) ∙ at in cc)
  note_at k later n at is = (refl, is)

  notes_still : (k : ℕ) → ((w : Want) → (place (note.Begin w) == k) ≡ false) → (ns : List Note) → AllByRecursion (OwnsOf P) ns
      → AllByRecursion (StillOf P Q) (notes_at ns k)
  notes_still k later [] all = tt
  notes_still k later (n ∷ ns) all =
      elim (cases_Bool (place n == k)) [
        | inl yes' ↦ rw yes' (note_at k later n yes' all.0, notes_still k later ns all.1)
        | inr no' ↦ rw no'
            (notes_still k later ns all.1)
      ]

  sends_still : (ss : List Send) → AllByRecursion (λ (s : Send). OrdersOf Q s.1) ss → (l : LinkId) → AllByRecursion (StillOf P Q) (sends_on ss l)
  sends_still ss all l =
      each_map (StillOf P Q) (λ (s : Send). line.Send s.0 s.1) (filter (λ (s : Send). is_same_link l s.0) ss)
      (each_weaker (λ (s : Send). OrdersOf Q s.1) (λ (s : Send). StillOf P Q (line.Send s.0 s.1)) (λ s is. (tt, is))
      (filter (λ (s : Send). is_same_link l s.0) ss)
      (each_filter (λ (s : Send). OrdersOf Q s.1) (λ (s : Send). is_same_link l s.0) ss all))

  -- what begins, and all the rest
  cut_ordered : (N : ℕ → ℕ → Type 0) (R : Plan → Type 0) (ns : List Note) (ss : List Send) → AllByRecursion (OwnsOf P) ns
      → AllByRecursion (λ (s : Send). OrdersOf Q s.1) ss → Cut (LineOf N R) (StillOf P Q) (ordered ns ss)
  cut_ordered N R ns ss notes sends =
      let more = flat_map (notes_at ns) (1 ∷ 2 ∷ 3 ∷ 4 ∷ []) in
      let mid = flat_map (sends_on ss) all_links in
      let last = flat_map (notes_at ns) (5 ∷ 6 ∷ []) in
      record {
        start = notes_at ns 0;
        rest = more ++ (mid ++ last);
        is = append_assoc (notes_at ns 0 ++ more) mid last ∙ append_assoc (notes_at ns 0) more (mid ++ last);
        first = first_place N R ns;
        then' =
            each_append (StillOf P Q) more (mid ++ last)
            (each_append (StillOf P Q) (notes_at ns 1) (flat_map (notes_at ns) (2 ∷ 3 ∷ 4 ∷ [])) (notes_still 1 (λ w. refl) ns notes)
            (each_append (StillOf P Q) (notes_at ns 2) (flat_map (notes_at ns) (3 ∷ 4 ∷ [])) (notes_still 2 (λ w. refl) ns notes)
            (each_append (StillOf P Q) (notes_at ns 3) (flat_map (notes_at ns) (4 ∷ [])) (notes_still 3 (λ w. refl) ns notes)
            (each_append (StillOf P Q) (notes_at ns 4) [] (notes_still 4 (λ w. refl) ns notes) tt))))
            (each_append (StillOf P Q) mid last (each_flat (StillOf P Q) (sends_on ss) all_links (sends_still ss sends))
            (each_append (StillOf P Q) (notes_at ns 5) (flat_map (notes_at ns) (6 ∷ [])) (notes_still 5 (λ w. refl) ns notes)
            (each_append (StillOf P Q) (notes_at ns 6) [] (notes_still 6 (λ w. refl) ns notes) tt)));
      }

-- ---- a command that ends

-- what comes before the first end, where none comes later
before_end : (P : Note → Type 0) (before later : List Note) → AllByRecursion P before → AllByRecursion NoEnd later → list_any is_end (before ++ later) ≡ true
    → AllByRecursion P (notes_before (before ++ later))
before_end P [] later all none some' = absurd (never later none some')
  where
    never : (ns : List Note) → AllByRecursion NoEnd ns → list_any is_end ns ≡ true → ⊥
    never [] quiet some'' = absurd (let bad : false ≡ true = some'' in cc)
    never (n ∷ ns) quiet some'' = never ns quiet.1 (ap (λ b. b || list_any is_end ns) (sym quiet.0) ∙ some'')
before_end P (n ∷ ns) later all none some' =
    elim (cases_Bool (is_end n)) [ inl yes' ↦ rw yes' (all.0, tt) | inr no' ↦ rw no' (all.0, before_end P ns later all.1 none (rw no' at some')) ]

after_end : (P : Note → Type 0) (ns : List Note) → AllByRecursion P ns → AllByRecursion P (notes_after ns)
after_end P [] all = tt
after_end P (n ∷ ns) all = elim (cases_Bool (is_end n)) [ inl yes' ↦ rw yes' all.1 | inr no' ↦ rw no' (after_end P ns all.1) ]

-- the sends before the first that opens a release carry no order
opens_not : (s : Send) → opens_release s ≡ false → OrdersOf (λ q. ⊥) s.1
opens_not (l, flight.Ctl (rec.Reconf q key)) is = absurd (let bad : true ≡ false = is in cc)
opens_not (l, f) is = tt

sends_first : (ss : List Send) → AllByRecursion (λ (s : Send). OrdersOf (λ q. ⊥) s.1) (sends_before ss)
sends_first [] = tt
sends_first (s ∷ ss) = elim (cases_Bool (opens_release s)) [ inl yes' ↦ rw yes' tt | inr no' ↦ rw no' (opens_not s no', sends_first ss) ]

sends_then : (P : Send → Type 0) (ss : List Send) → AllByRecursion P ss → AllByRecursion P (sends_after ss)
sends_then P [] all = tt
sends_then P (s ∷ ss) all =
    elim (cases_Bool (opens_release s)) [
      | inl yes' ↦ rw yes' (each_filter P (λ (r : Send). if is_idle_release r then false else true) (s ∷ ss) all)
      | inr no' ↦ rw no' (sends_then P ss all.1)
    ]

idle_not : (s : Send) → is_idle_release s ≡ true → OrdersOf (λ q. ⊥) s.1
idle_not (l, flight.Ctl (rec.Reconf q key)) is = absurd (let bad : false ≡ true = is in cc)
idle_not (l, f) is = tt

idles : (P : ℕ → ℕ → Type 0) (ss : List Send) → AllByRecursion (LineOf P (λ q. ⊥)) (map (λ (s : Send). line.Send s.0 s.1) (filter is_idle_release ss))
idles P [] = tt
idles P (s ∷ ss) = elim (cases_Bool (is_idle_release s)) [ inl yes' ↦ rw yes' (idle_not s yes', idles P ss) | inr no' ↦ rw no' (idles P ss) ]

-- all lines of an outcome in which no command ends, or all before its end
all_ordered : (P : Line → Type 0) (ns : List Note) (ss : List Send) → AllByRecursion (λ n. P (line.Note n)) ns
    → AllByRecursion (λ (s : Send). P (line.Send s.0 s.1)) ss → AllByRecursion P (ordered ns ss)
all_ordered P ns ss notes sends =
    let at = λ (k : ℕ). each_map P (λ n. line.Note n) (filter (λ n. place n == k) ns) (each_filter (λ n. P (line.Note n)) (λ n. place n == k) ns notes) in
    let first = flat_map (notes_at ns) (0 ∷ 1 ∷ 2 ∷ 3 ∷ 4 ∷ []) in
    let mid = flat_map (sends_on ss) all_links in
    let last = flat_map (notes_at ns) (5 ∷ 6 ∷ []) in
    each_append P (first ++ mid) last
    (each_append P first mid (each_flat P (notes_at ns) (0 ∷ 1 ∷ 2 ∷ 3 ∷ 4 ∷ []) at)
    (each_flat P (sends_on ss) all_links
    (λ l. each_map P (λ (s : Send). line.Send s.0 s.1) (filter (λ (s : Send). is_same_link l s.0) ss)
    (each_filter (λ (s : Send). P (line.Send s.0 s.1)) (λ (s : Send). is_same_link l s.0) ss sends))))
    (each_flat P (notes_at ns) (5 ∷ 6 ∷ []) at)

owns_more : (P N : ℕ → ℕ → Type 0) → ((id g : ℕ) → P id g → N id g) → (n : Note) → OwnsOf P n → OwnsOf N n
owns_more P N more (note.Own x id g) is = more id g is
owns_more P N more n is = tt

-- where each note that ends a command comes before the others
pub cut_lines : (P N : ℕ → ℕ → Type 0) (Q : Plan → Type 0) (o : Outcome) (before later : List Note) → o.notes ≡ before ++ later
    → AllByRecursion (OwnsOf P) before → AllByRecursion (OwnsOf N) later → AllByRecursion NoEnd later
    → AllByRecursion (λ (s : Send). OrdersOf Q s.1) o.sends → Cut (LineOf P (λ q. ⊥)) (StillOf (λ id g. P id g ⊎ N id g) Q) (lines_of o)
cut_lines P N Q o before later is first then' none sends = by (list_any is_end o.notes) refl
  where
    all : AllByRecursion (OwnsOf (λ id g. P id g ⊎ N id g)) o.notes
    all =
        subst (AllByRecursion (OwnsOf (λ id g. P id g ⊎ N id g))) (sym is)
        (each_append (OwnsOf (λ id g. P id g ⊎ N id g)) before later
        (each_weaker (OwnsOf P) (OwnsOf (λ id g. P id g ⊎ N id g)) (owns_more P (λ id g. P id g ⊎ N id g) (λ id g so. inl so)) before first)
        (each_weaker (OwnsOf N) (OwnsOf (λ id g. P id g ⊎ N id g)) (owns_more N (λ id g. P id g ⊎ N id g) (λ id g so. inr so)) later then'))

    by : (b : Bool) → list_any is_end o.notes ≡ b → Cut (LineOf P (λ q. ⊥)) (StillOf (λ id g. P id g ⊎ N id g) Q) (lines_by b o)
    by false ends = cut_ordered (λ id g. P id g ⊎ N id g) Q P (λ q. ⊥) o.notes o.sends all sends
    by true ends =
        let begin = ordered (notes_before o.notes) (sends_before o.sends) in
        let idle = map (λ (s : Send). line.Send s.0 s.1) (filter is_idle_release o.sends) in
        let more = cut_ordered (λ id g. P id g ⊎ N id g) Q P (λ q. ⊥) (notes_after o.notes) (sends_after o.sends)
        (after_end (OwnsOf (λ id g. P id g ⊎ N id g)) o.notes all) (sends_then (λ (s : Send). OrdersOf Q s.1) o.sends sends) in
        let these : AllByRecursion (OwnsOf P) (notes_before o.notes) =
        subst (λ ns. AllByRecursion (OwnsOf P) (notes_before ns)) (sym is)
        (before_end (OwnsOf P) before later first none (ap (list_any is_end) (sym is) ∙ ends)) in
        record {
          start = (begin ++ idle) ++ more.start;
          rest = more.rest;
          is = ap (λ xs. (begin ++ idle) ++ xs) more.is ∙ sym (append_assoc (begin ++ idle) more.start more.rest);
          first =
              each_append (LineOf P (λ q. ⊥)) (begin ++ idle) more.start
              (each_append (LineOf P (λ q. ⊥)) begin idle
              (all_ordered (LineOf P (λ q. ⊥)) (notes_before o.notes) (sends_before o.sends) these (sends_first o.sends)) (idles P o.sends)) more.first;
          then' = more.then';
        }
