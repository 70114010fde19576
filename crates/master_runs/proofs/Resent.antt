-- The PDUs that a node sends again for all that it keeps of a bearer: their lines, and what these do not say.
use Rattle.std.proofs.Common.{ℕ, zero, suc, ◌≡◌, ◌+◌, ◌<◌, ◌≤◌, ◌⊎◌, ◌==◌, ◌++◌, List, [], ◌∷◌, Option, Some, Bool, false, length, map, slice_get, refl, sym, ap, ◌∙◌, subst, arith, inl, inr, append_assoc}
use Rattle.std.specs.Prelude.{if◌then◌else◌, fold}
use Rattle.std.specs.List.{AllByRecursion, flat_map}
use Rattle.std.proofs.lemmas.List.{append-nil, length_push}
use Rattle.std.proofs.lemmas.Bool.{cases_Bool, eq-eqb}
use Rattle.dc_base.specs.declared.nodes.Dir.{Dir}
use Rattle.dc_base.specs.declared.nodes.LinkId.{LinkId}
use Rattle.dc_base.specs.declared.flights.Flight.{Flight}
use Rattle.dc_base.specs.declared.events.Header.{Header}
use Rattle.pdcp_tx.specs.Sender.{low, Rises}
use Rattle.dc_base.specs.Links.{is_same_link}
use Rattle.transcript.specs.Transcript.{sends}
use Rattle.transcript.specs.Content.{put_on}
use Rattle.transcript.specs.Bearers.{OpenCommand, Established, up_of, freed_of, tag_of, ends_command, has_after}
use Rattle.transcript.specs.Claims.{AscendsFrom, count_in, is_uncounted}
use Rattle.master_runs.specs.Plane.{leg, data_flight, resends}
use Rattle.master_runs.proofs.Lane.{IsGiven}
use Rattle.master_runs.proofs.Directions.{same_leg}
use Rattle.master_runs.proofs.Served.{listed_push}
use Rattle.master_runs.proofs.Sound.{listed}

-- the PDUs of a leg for these payloads
abbrev pub counts_sent : List (ℕ × List ℕ) → List (Option ℕ)
counts_sent xs = map (λ x. Some x.0) xs

-- ---- places

-- the COUNT of a payload stands at its place
pub counts_at : (xs : List (ℕ × List ℕ)) (k : ℕ) (x : ℕ × List ℕ) → slice_get xs k ≡ Some x → slice_get (counts_sent xs) k ≡ Some (Some x.0)
counts_at [] k x at = absurd cc
counts_at (y ∷ xs) zero x at = let same : y ≡ x = cc in ap (λ (z : ℕ × List ℕ). Some (Some z.0)) same
counts_at (y ∷ xs) (suc k) x at = counts_at xs k x at

-- COUNTs that were given are given again
pub given_again : (first next : ℕ) (P : ℕ × List ℕ → Type 0) → ((x : ℕ × List ℕ) → P x → (first ≤ x.0) × (x.0 < next)) → (xs : List (ℕ × List ℕ)) → AllByRecursion P xs
    → AllByRecursion (IsGiven first next) (counts_sent xs)
given_again first next P is [] all = tt
given_again first next P is (x ∷ xs) all = (is x all.0, given_again first next P is xs all.1)

-- ---- the lines

module _ (h : Header) (b : Established) (d : Dir) where
  -- what is so of each PDU sent again is so of all these sends
  pub each_resent : (P : LinkId × Flight → Type 0) (num : ℕ) (xs : List (ℕ × List ℕ)) → ((k : ℕ) (x : ℕ × List ℕ) → slice_get xs k ≡ Some x → P (leg d, data_flight h b d (num + k) x.0 x.1))
      → AllByRecursion P (sends (resends h b d num xs))
  each_resent P num [] each = tt
  each_resent P num (x ∷ xs) each =
      let first : num + 0 ≡ num = omega arith in (
        subst (λ m. P (leg d, data_flight h b d m x.0 x.1)) first (each 0 x refl),
        each_resent P (num + 1) xs (λ k y at.
            let next : num + suc k ≡ num + 1 + k = omega arith in
            subst (λ m. P (leg d, data_flight h b d m y.0 y.1)) next (each (suc k) y at)),
      )

  -- they stand on no other link
  pub resent_apart : (l : LinkId) → is_same_link l (leg d) ≡ false → (num : ℕ) (xs : List (ℕ × List ℕ)) → put_on l (resends h b d num xs) ≡ []
  resent_apart l apart num [] = refl
  resent_apart l apart num (x ∷ xs) =
      ap (λ c. (if c then data_flight h b d num x.0 x.1 ∷ [] else []) ++ put_on l (resends h b d (num + 1) xs)) apart ∙ resent_apart l apart (num + 1) xs

  -- nothing goes up
  pub resent_ups : (c : Established) (k : Dir) (num : ℕ) (xs : List (ℕ × List ℕ)) → flat_map (up_of c k) (resends h b d num xs) ≡ []
  resent_ups c k num [] = refl
  resent_ups c k num (x ∷ xs) = resent_ups c k (num + 1) xs

  -- no window moves
  pub resent_frees : (c : Established) (k : Dir) (num : ℕ) (xs : List (ℕ × List ℕ)) → flat_map (freed_of c k) (resends h b d num xs) ≡ []
  resent_frees c k num [] = refl
  resent_frees c k num (x ∷ xs) = resent_frees c k (num + 1) xs

  -- nothing is set at the terminal
  pub resent_sets : (id : ℕ) (has : Bool) (num : ℕ) (xs : List (ℕ × List ℕ)) → fold (has_after id) has (resends h b d num xs) ≡ has
  resent_sets id has num [] = refl
  resent_sets id has num (x ∷ xs) = resent_sets id has (num + 1) xs

  -- no command ends
  pub resent_ends : (o : Option OpenCommand) (num : ℕ) (xs : List (ℕ × List ℕ)) → fold ends_command o (resends h b d num xs) ≡ o
  resent_ends o num [] = refl
  resent_ends o num (x ∷ xs) = resent_ends o (num + 1) xs

  -- each COUNT is sent under the next number
  pub resent_tags : (ys : List (Option ℕ)) (xs : List (ℕ × List ℕ)) (num n : ℕ) → n ≡ length ys
      → listed (slice_get ys num) ++ flat_map (tag_of (leg d) b.id b.g num) (sends (resends h b d n xs)) ≡ listed (slice_get (ys ++ counts_sent xs) num)
  resent_tags ys [] num n is = append-nil _ ∙ ap (λ zs. listed (slice_get zs num)) (sym (append-nil ys))
  resent_tags ys (x ∷ xs) num n is =
      let rest = flat_map (tag_of (leg d) b.id b.g num) (sends (resends h b d (n + 1) xs)) in
      let tag : flat_map (tag_of (leg d) b.id b.g num) ((leg d, data_flight h b d n x.0 x.1) ∷ []) ≡ (if length ys == num then x.0 ∷ [] else []) =
      rw (same_leg d, eq-eqb b.id b.id refl, eq-eqb b.g b.g refl, is) (append-nil _) in
      let more : n + 1 ≡ length (ys ++ Some x.0 ∷ []) = ap (λ k. k + 1) is ∙ sym (length_push ys (Some x.0)) in
      ap (λ zs. listed (slice_get ys num) ++ (zs ++ rest)) (sym (append-nil _) ∙ tag)
      ∙ sym (append_assoc (listed (slice_get ys num)) (if length ys == num then x.0 ∷ [] else []) rest)
      ∙ ap (λ zs. zs ++ rest) (listed_push ys x.0 num)
      ∙ resent_tags (ys ++ Some x.0 ∷ []) xs num (n + 1) more
      ∙ ap (λ zs. listed (slice_get zs num)) (append_assoc ys (Some x.0 ∷ []) (counts_sent xs))

  -- on another link, or for another identity or generation, none is
  pub resent_untagged : (l : LinkId) (id g num n : ℕ) → (is_same_link l (leg d) ≡ false) ⊎ ((b.id == id) ≡ false) ⊎ ((b.g == g) ≡ false) → (xs : List (ℕ × List ℕ))
      → flat_map (tag_of l id g num) (sends (resends h b d n xs)) ≡ []
  resent_untagged l id g num n apart [] = refl
  resent_untagged l id g num n apart (x ∷ xs) =
      let tag : tag_of l id g num (leg d, data_flight h b d n x.0 x.1) ≡ [] = elim apart [
        | inl turned ↦ rw turned refl
        | inr unlike ↦ elim (cases_Bool (is_same_link l (leg d))) [
          | inr turned ↦ rw turned refl
          | inl same ↦ elim unlike [
            | inl other' ↦ rw (same, other') refl
            | inr later ↦ elim (cases_Bool (b.id == id)) [ inl named ↦ rw (same, named, later) refl | inr other' ↦ rw (same, other') refl ]
          ]
        ]
      ] in
      ap (λ zs. zs ++ flat_map (tag_of l id g num) (sends (resends h b d (n + 1) xs))) tag ∙ resent_untagged l id g num (n + 1) apart xs

  -- the COUNTs ascend
  pub resent_ascend : (low from next num : ℕ) (xs : List (ℕ × List ℕ)) → low ≤ from → Rises from next xs → AscendsFrom low (flat_map count_in (sends (resends h b d num xs)))
  resent_ascend low from next num [] le up = tt
  resent_ascend low from next num (x ∷ xs) le up = (omega (arith, up.0), resent_ascend (x.0 + 1) (x.0 + 1) next (num + 1) xs (omega arith) up.1)

  -- each has a COUNT
  pub resent_counted : (num n : ℕ) (xs : List (ℕ × List ℕ)) → fold (λ a s. a + (if is_uncounted s then 1 else 0)) n (sends (resends h b d num xs)) ≡ n
  resent_counted num n [] = refl
  resent_counted num n (x ∷ xs) = resent_counted (num + 1) (n + 0) xs ∙ omega arith
