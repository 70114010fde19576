-- The row of the test: the master sends the terminal a flight in its entry, and the terminal takes it in its own.
use Rattle.std.proofs.Common.{List, [], arith, false, refl, suc, zero, ℕ, ◌<◌, ◌==◌, ◌∙◌, ◌∷◌, ◌≡◌}
use Rattle.std.proofs.lemmas.Bool.{cond-false, ne_eqb}
use Rattle.std.specs.List.{AllByRecursion}
use Rattle.dc_base.specs.declared.answers.Answer.{Answer}
use Rattle.dc_base.specs.declared.events.Event.{Event}
use Rattle.dc_base.specs.declared.events.Line.{Line}
use Rattle.dc_base.specs.declared.events.Line.TheVariants.{Send}
use Rattle.dc_base.specs.declared.flights.Flight.{Flight}
use Rattle.dc_base.specs.declared.nodes.Class.TheVariants.{Air}
use Rattle.dc_base.specs.declared.nodes.LinkId.{LinkId}
use Rattle.dc_base.specs.declared.nodes.Node.TheVariants.{M, T}
use Rattle.journals.specs.declared.entries.JournalEntry.{JournalEntry}
use Rattle.journals.specs.declared.entries.What.TheVariants.{Driver, Step}
use Rattle.journals.specs.Journals.{AreFirst, Legal, Rising, Stamped, sent, taken}
use Rattle.journals.specs.Merging.{numbered}
use Rattle.journals.specs.Messages.{from, message, to}

abbrev pub air : LinkId
air = record { from = M; to = T; class = Air }

abbrev pub sends : Event → Answer → Flight → JournalEntry
sends x answer f = record { stamp = 1; turn = 0; what = Driver x; answer = answer; lines = Send air f ∷ [] }

abbrev pub takes : Answer → Flight → JournalEntry
takes answer f = record { stamp = 2; turn = 0; what = Step (message 1 air f); answer = answer; lines = [] }

past : (t m a b : List JournalEntry) (k : ℕ) → numbered t m a b (suc (suc (suc (suc k)))) ≡ []
past t m a b k =
    let n : ℕ = suc (suc (suc (suc k))) in
    let none : (i : ℕ) → i < 4 → (i == n) ≡ false = λ i h. ne_eqb i n (λ e. omega arith) in
    cond-false (0 == n) _ _ (none 0 (omega arith)) ∙ (cond-false (1 == n) _ _ (none 1 (omega arith)) ∙ (cond-false (2 == n) _ _ (none 2 (omega arith)) ∙ cond-false (3 == n) _ _ (none 3 (omega arith))))

module _ (x : Event) (p q : Answer) (f : Flight) where
  abbrev pub four : ℕ → List JournalEntry
  four = numbered (takes q f ∷ []) (sends x p f ∷ []) [] []

  stamped : (n : ℕ) → AllByRecursion (Stamped n) (four n)
  stamped zero = (record { sends = tt; takes = (omega arith, tt) }, tt)
  stamped (suc zero) = (record { sends = (refl, tt); takes = tt }, tt)
  stamped (suc (suc zero)) = tt
  stamped (suc (suc (suc zero))) = tt
  stamped (suc (suc (suc (suc k)))) = rw (past (takes q f ∷ []) (sends x p f ∷ []) [] [] k) tt

  rising : (n : ℕ) → Rising 0 0 (four n)
  rising zero = (omega arith, omega arith, tt)
  rising (suc zero) = (omega arith, omega arith, tt)
  rising (suc (suc zero)) = tt
  rising (suc (suc (suc zero))) = tt
  rising (suc (suc (suc (suc k)))) = rw (past (takes q f ∷ []) (sends x p f ∷ []) [] [] k) tt

  others : (k : ℕ) → from (suc (suc k)) (message 1 air f ∷ []) ≡ []
  others k = let no' : (1 == suc (suc k)) ≡ false = ne_eqb 1 (suc (suc k)) (λ e. omega arith) in rw no' refl

  first : (s n : ℕ) → AreFirst (from s (taken (four n))) (to n (sent (four s)))
  first zero zero = ([], refl)
  first (suc zero) zero = ([], refl)
  first (suc (suc s)) zero = rw (others s) (to 0 (sent (four (suc (suc s)))), refl)
  first s (suc zero) = (to 1 (sent (four s)), refl)
  first s (suc (suc zero)) = (to 2 (sent (four s)), refl)
  first s (suc (suc (suc zero))) = (to 3 (sent (four s)), refl)
  first s (suc (suc (suc (suc k)))) = rw (past (takes q f ∷ []) (sends x p f ∷ []) [] [] k) (to (suc (suc (suc (suc k)))) (sent (four s)), refl)

  pub legal : (lines none : List Line) (t m a b : List JournalEntry) → lines ≡ Send air f ∷ [] → none ≡ []
      → t ≡ record { stamp = 2; turn = 0; what = Step (message 1 air f); answer = q; lines = none } ∷ []
      → m ≡ record { stamp = 1; turn = 0; what = Driver x; answer = p; lines = lines } ∷ []
      → a ≡ [] → b ≡ [] → Legal (numbered t m a b)
  legal lines none t m a b is_lines is_none is_t is_m is_a is_b = rw (is_t, is_m, is_a, is_b, is_lines, is_none) (record { stamped = stamped; rising = rising; first = first })
