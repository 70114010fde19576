-- What is held by identities, of which each has put its own, after one of them sent more.
use Rattle.std.proofs.Common.{ℕ, ◌≡◌, ◌++◌, ◌==◌, Bool, true, false, List, [], ◌∷◌, Option, Some, None, length, refl, sym, ap, subst, ◌∙◌}
use Rattle.std.specs.Option.{option_map}
use Rattle.std.specs.Prelude.{if◌then◌else◌, ◌&&◌}
use Rattle.std.proofs.lemmas.Bool.{eqb-true}
use Rattle.std.proofs.lemmas.List.{length-append}
use Rattle.dc_base.specs.Links.{is_same_link}
use Rattle.dc_base.specs.declared.flights.Flight.TheVariants as flight
use Rattle.dc_base.specs.declared.records.Rec.{Rec}
use Rattle.dc_base.specs.declared.nodes.LinkId.{LinkId}
use Rattle.node_rules.specs.Choices.{Send}
use Rattle.node_rules.specs.Held.{held, holding}
use Rattle.master_runs.proofs.Holding.{held-other, held-same}
use Rattle.run_control.specs.Orders.{Ascends}
use Rattle.run_control.proofs.Ascending.{seen_without}
use Rattle.run_numbers.specs.Histories.{FollowOn, IsNumberedFrom, NoneOf, OnlyOf, puts_of, puts_on}
use Rattle.run_numbers.specs.Records.{AllPut}
use Rattle.run_numbers.proofs.Lines.{both_follow}
use Rattle.run_numbers.proofs.Puts.{none_follow, puts_append}

-- ---- whose sends they are

-- of another bearer nothing is sent
pub none_other : (id g i h : ℕ) (sends : List Send) → OnlyOf id g sends → (id == i) ≡ false → NoneOf i h sends
none_other id g i h sends only apart = λ l. only l i h (rw apart refl)

-- nor of another generation
pub none_older : (id g h : ℕ) (sends : List Send) → OnlyOf id g sends → (g == h) ≡ false → NoneOf id h sends
none_older id g h sends only apart = λ l. only l id h (both (id == id))
  where
    both : (b : Bool) → (b && (g == h)) ≡ false
    both true = apart
    both false = refl

-- what is of one bearer and generation follows, if it does on each link
pub only_follow : (sent sends : List Send) (id g : ℕ) → ((l : LinkId) → IsNumberedFrom (length (puts_on l id g sent)) (puts_on l id g sends)) → OnlyOf id g sends → FollowOn sent sends
only_follow sent sends id g own only l i h = by (id == i) (g == h) refl refl
  where
    by : (a b : Bool) → (id == i) ≡ a → (g == h) ≡ b → IsNumberedFrom (length (puts_on l i h sent)) (puts_on l i h sends)
    by true true same same' =
        subst (λ k. IsNumberedFrom (length (puts_on l k h sent)) (puts_on l k h sends)) (eqb-true id i same)
        (subst (λ k. IsNumberedFrom (length (puts_on l id k sent)) (puts_on l id k sends)) (eqb-true g h same') (own l))
    by true false same apart = none_follow sent l i h sends (only l i h (rw (same, apart) refl))
    by false b apart same = none_follow sent l i h sends (only l i h (rw apart refl))

-- where nothing of it is sent at all
pub nothing_follows : (sent sends : List Send) → ((id g : ℕ) → NoneOf id g sends) → FollowOn sent sends
nothing_follows sent sends none l id g = none_follow sent l id g sends (none id g l)

-- what follows, and then follows again
pub follow_both : (sent xs ys : List Send) → FollowOn sent xs → FollowOn (sent ++ xs) ys → FollowOn sent (xs ++ ys)
follow_both sent xs ys first then' = λ l id g.
    let before = puts_on l id g sent in
    let here = puts_on l id g xs in
    subst (IsNumberedFrom (length before)) (sym (puts_append l id g xs ys))
    (both_follow (length before) here (puts_on l id g ys) (first l id g)
    (subst (λ k. IsNumberedFrom k (puts_on l id g ys)) (ap length (puts_append l id g sent xs) ∙ length-append before here) (then' l id g)))

-- a record is no PDU, nor is an ack
pub record_none : (k : LinkId) (r : Rec) (id g : ℕ) → NoneOf id g ((k, flight.Ctl r) ∷ [])
record_none k r id g l = by (is_same_link l k)
  where
    by : (b : Bool) → puts_of id g ((if b then flight.Ctl r ∷ [] else []) ++ []) ≡ []
    by true = refl
    by false = refl

pub ack_none : (k : LinkId) (i h num : ℕ) (id g : ℕ) → NoneOf id g ((k, flight.Ack i h num) ∷ [])
ack_none k i h num id g l = by (is_same_link l k)
  where
    by : (b : Bool) → puts_of id g ((if b then flight.Ack i h num ∷ [] else []) ++ []) ≡ []
    by true = refl
    by false = refl

-- nothing of it is sent, one after another
pub none_both : (id g : ℕ) (xs ys : List Send) → NoneOf id g xs → NoneOf id g ys → NoneOf id g (xs ++ ys)
none_both id g xs ys first then' = λ l. puts_append l id g xs ys ∙ ap (λ zs. zs ++ puts_on l id g ys) (first l) ∙ then' l

pub only_both : (id g : ℕ) (xs ys : List Send) → OnlyOf id g xs → OnlyOf id g ys → OnlyOf id g (xs ++ ys)
only_both id g xs ys first then' = λ l i h apart. puts_append l i h xs ys ∙ ap (λ zs. zs ++ puts_on l i h ys) (first l i h apart) ∙ then' l i h apart

-- ---- what is held

pub held_without : {X : Type 0} (id k : ℕ) (xs : List (ℕ × X)) → Ascends xs → held k (holding id None xs) ≡ (if id == k then None else held k xs)
held_without {X = X} id k xs up =
    sym (bare (held k (holding id None xs))) ∙ seen_without (λ x. x) id k xs up ∙ ap (λ o. if id == k then None else o) (bare (held k xs))
  where
    bare : (o : Option X) → option_map (λ x. x) o ≡ o
    bare None = refl
    bare (Some x) = refl

module _ {X : Type 0} (id_of g_of : X → ℕ) (P : List Send → X → Type 0) (stays : (sent sends : List Send) (x : X) → NoneOf (id_of x) (g_of x) sends → P sent x → P (sent ++ sends) x) where
  -- nothing of what is held is sent
  pub all_stay : (sent sends : List Send) (xs : List (ℕ × X)) → ((k : ℕ) (x : X) → held k xs ≡ Some x → NoneOf (id_of x) (g_of x) sends) → AllPut id_of P sent xs → AllPut id_of P (sent ++ sends) xs
  all_stay sent sends xs none all = λ k x at. ((all k x at).0, stays sent sends x (none k x at) (all k x at).1)

  -- of one that is held something is sent
  pub put_in : (sent sends : List Send) (xs : List (ℕ × X)) (id g : ℕ) (y : X) → id_of y ≡ id → P (sent ++ sends) y → OnlyOf id g sends → AllPut id_of P sent xs
      → AllPut id_of P (sent ++ sends) (holding id (Some y) xs)
  put_in sent sends xs id g y named so only all = λ k x at. by k x at (id == k) refl
    where
      some_is : (a b : X) → Some a ≡ Some b → a ≡ b
      some_is a b same = cc

      by : (k : ℕ) (x : X) → held k (holding id (Some y) xs) ≡ Some x → (b : Bool) → (id == k) ≡ b → (id_of x ≡ k) × P (sent ++ sends) x
      by k x at true same =
          let key = eqb-true id k same in
          let is : y ≡ x = some_is y x (sym (held-same id y xs) ∙ ap (λ j. held j (holding id (Some y) xs)) key ∙ at) in
          (subst (λ z. id_of z ≡ k) is (named ∙ key), subst (P (sent ++ sends)) is so)
      by k x at false apart =
          let was = all k x (sym (held-other id k y xs apart) ∙ at) in
          (was.0, stays sent sends x (none_other id g (id_of x) (g_of x) sends only (ap (λ j. id == j) was.0 ∙ apart)) was.1)

  -- one is held no more
  pub put_out : (sent sends : List Send) (xs : List (ℕ × X)) (id g : ℕ) → Ascends xs → OnlyOf id g sends → AllPut id_of P sent xs → AllPut id_of P (sent ++ sends) (holding id None xs)
  put_out sent sends xs id g up only all = λ k x at. by k x (sym (held_without id k xs up) ∙ at) (id == k) refl
    where
      by : (k : ℕ) (x : X) → (if id == k then None else held k xs) ≡ Some x → (b : Bool) → (id == k) ≡ b → (id_of x ≡ k) × P (sent ++ sends) x
      by k x at true same = absurd (let bad : None ≡ Some x = sym (ap (λ b. if b then None else held k xs) same) ∙ at in cc)
      by k x at false apart =
          let was = all k x (sym (ap (λ b. if b then None else held k xs) apart) ∙ at) in
          (was.0, stays sent sends x (none_other id g (id_of x) (g_of x) sends only (ap (λ j. id == j) was.0 ∙ apart)) was.1)
