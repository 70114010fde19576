-- Queues of flights by the numbers of their links.
use Rattle.std.proofs.Common.{ℕ, suc, ◌≡◌, ◌≢◌, ◌<◌, ◌≤◌, ◌++◌, true, List, [], ◌∷◌, Some, length, drop, refl, sym, ap, ◌∙◌, arith, inl, inr}
use Rattle.std.specs.Prelude.{if◌then◌else◌, remove, slice_index_or, slice_set}
use Rattle.std.proofs.lemmas.Bool.{cases_Bool, eqb-true, eqb-false}
use Rattle.std.proofs.lemmas.List.{append-nil, drop_all, get_or-set_other, get_or-set_same, take_all}
use Rattle.dc_base.specs.Links.{is_same_link, link_number}
use Rattle.dc_base.specs.declared.events.Line.TheVariants as line
use Rattle.dc_base.specs.declared.flights.Flight.{Flight}
use Rattle.dc_base.specs.declared.nodes.LinkId.{LinkId}
use Rattle.transcript.specs.Content.{put_on, without_taken}
use Rattle.checker.specs.Parts.{Queues, flights_on}

-- past the end there is nothing to remove
pub remove_past : {X : Type 0} (xs : List X) (i : ℕ) → length xs ≤ i → remove xs i ≡ xs
remove_past xs i past = ap (λ ys. ys ++ drop (suc i) xs) (take_all i xs past) ∙ ap (λ ys. xs ++ ys) (drop_all (suc i) xs (omega arith)) ∙ append-nil xs

-- one queue is written
pub written_on : (l k : LinkId) (fs : List Flight) (qs : Queues) → link_number k < length qs
    → flights_on l (slice_set qs (link_number k) fs) ≡ (if is_same_link l k then fs else flights_on l qs)
written_on l k fs qs within = elim (cases_Bool (is_same_link l k)) [
  | inl same ↦
      let n : link_number l ≡ link_number k = eqb-true (link_number l) (link_number k) same in
      rw same (ap (λ i. slice_index_or (slice_set qs (link_number k) fs) i []) n ∙ get_or-set_same qs (link_number k) fs [] within)
  | inr apart ↦
      let n : link_number l ≢ link_number k = eqb-false (link_number l) (link_number k) apart in
      rw apart (get_or-set_other qs (link_number k) (link_number l) fs [] n)
]

-- the queue of a link is the one of the same link
pub on_same : (l k : LinkId) (qs : Queues) → is_same_link l k ≡ true → flights_on l qs ≡ flights_on k qs
on_same l k qs same = ap (λ i. slice_index_or qs i []) (eqb-true (link_number l) (link_number k) same)

-- a flight is taken from a place of a link
pub taken_from : (l k : LinkId) (i : ℕ) (qs : Queues) → link_number k < length qs
    → flights_on l (slice_set qs (link_number k) (remove (flights_on k qs) i)) ≡ without_taken l (Some (k, i)) (flights_on l qs)
taken_from l k i qs within = written_on l k (remove (flights_on k qs) i) qs within ∙ elim (cases_Bool (is_same_link l k)) [
  | inl same ↦ rw same (ap (λ fs. remove fs i) (sym (on_same l k qs same)))
  | inr apart ↦ rw apart refl
]

-- a flight is put at the end of a link
pub put_at : (l k : LinkId) (f : Flight) (qs : Queues) → link_number k < length qs
    → flights_on l (slice_set qs (link_number k) (flights_on k qs ++ f ∷ [])) ≡ flights_on l qs ++ put_on l (line.Send k f ∷ [])
put_at l k f qs within = written_on l k (flights_on k qs ++ f ∷ []) qs within ∙ elim (cases_Bool (is_same_link l k)) [
  | inl same ↦ rw same (ap (λ fs. fs ++ f ∷ []) (sym (on_same l k qs same)))
  | inr apart ↦ rw apart (sym (append-nil (flights_on l qs)))
]
