-- What was taken was sent before.
use Rattle.std.proofs.Common.{ℕ, ◌≡◌, ◌⊎◌, ◌==◌, ◌<◌, ◌∙◌, Bool, true, List, [], ◌∷◌, ◌++◌, refl, ap, sym, subst, arith, inl, inr}
use Rattle.std.specs.List.{AllByRecursion, filter}
use Rattle.std.proofs.lemmas.Bool.{cases_Bool, eq-eqb}
use Rattle.dc_base.specs.Nodes.{node_number}
use Rattle.journals.specs.declared.entries.JournalEntry.{JournalEntry}
use Rattle.journals.specs.declared.entries.Message.{Message}
use Rattle.journals.proofs.Stamps.{sends_stamped}
use Rattle.journals.specs.Messages.{from, to}
use Rattle.journals.specs.Journals.{took, taken, outputs, sent, Stamped, Legal, Somewhere, SentBefore}

module _ {X : Type 0} (P : X → Type 0) where
  pub somewhere_left : (xs ys : List X) → Somewhere P xs → Somewhere P (xs ++ ys)
  somewhere_left [] ys h = absurd h
  somewhere_left (x ∷ xs) ys h = elim h [ inl here ↦ inl here | inr there ↦ inr (somewhere_left xs ys there) ]

  pub somewhere_right : (xs ys : List X) → Somewhere P ys → Somewhere P (xs ++ ys)
  somewhere_right [] ys h = h
  somewhere_right (x ∷ xs) ys h = inr (somewhere_right xs ys h)

  somewhere_split : (xs ys : List X) → Somewhere P (xs ++ ys) → Somewhere P xs ⊎ Somewhere P ys
  somewhere_split [] ys h = inr h
  somewhere_split (x ∷ xs) ys h = elim h [ inl here ↦ inl (inl here) | inr there ↦ elim (somewhere_split xs ys there) [ inl a ↦ inl (inr a) | inr b ↦ inr b ] ]

  unfiltered : (test : X → Bool) (xs : List X) → Somewhere P (filter test xs) → Somewhere P xs
  unfiltered test [] h = h
  unfiltered test (x ∷ xs) h =
      elim (cases_Bool (test x)) [
        | inl yes' ↦ (let g : P x ⊎ Somewhere P (filter test xs) = rw yes' at h in elim g [ inl here ↦ inl here | inr there ↦ inr (unfiltered test xs there) ])
        | inr no' ↦ (let g : Somewhere P (filter test xs) = rw no' at h in inr (unfiltered test xs g))
      ]

  filtered : (test : X → Bool) (xs : List X) → ((x : X) → P x → test x ≡ true) → Somewhere P xs → Somewhere P (filter test xs)
  filtered test [] passes h = h
  filtered test (x ∷ xs) passes h =
      elim h [
        | inl here ↦ (let y : test x ≡ true = passes x here in rw y (inl here))
        | inr there ↦ elim (cases_Bool (test x)) [ inl yes' ↦ rw yes' (inr (filtered test xs passes there)) | inr no' ↦ rw no' (filtered test xs passes there) ]
      ]

sender_of : (n : ℕ) (m : Message) (es : List JournalEntry) → AllByRecursion (Stamped n) es → Somewhere (λ (x : Message). x ≡ m) (sent es)
    → Somewhere (λ (f : JournalEntry). (f.stamp ≡ m.stamp) × Somewhere (λ (x : Message). x ≡ m) (outputs f)) es
sender_of n m [] all h = h
sender_of n m (e ∷ es) all h =
    elim (somewhere_split (λ (x : Message). x ≡ m) (outputs e) (sent es) h) [
      | inl here ↦ inl (stamp_of (outputs e) (sends_stamped n e all.0) here, here)
      | inr there ↦ inr (sender_of n m es all.1 there)
    ]
  where
    stamp_of : (ms : List Message) → AllByRecursion (λ (x : Message). (node_number x.link.from ≡ n) × (x.stamp ≡ e.stamp)) ms → Somewhere (λ (x : Message). x ≡ m) ms → e.stamp ≡ m.stamp
    stamp_of [] each' found = absurd found
    stamp_of (x ∷ xs) each' found = elim found [ inl here ↦ sym each'.0.1 ∙ ap (λ (y : Message). y.stamp) here | inr there ↦ stamp_of xs each'.1 there ]

weaker_somewhere : {X : Type 0} (P Q : X → Type 0) → ((x : X) → P x → Q x) → (xs : List X) → Somewhere P xs → Somewhere Q xs
weaker_somewhere P Q so [] h = h
weaker_somewhere P Q so (x ∷ xs) h = elim h [ inl here ↦ inl (so x here) | inr there ↦ inr (weaker_somewhere P Q so xs there) ]

-- what is taken in a part of a journal is taken in it
before_of : (j : ℕ → List JournalEntry) (n : ℕ) → Legal j → (es : List JournalEntry) → AllByRecursion (Stamped n) es → ((m : Message) → Somewhere (λ (x : Message). x ≡ m) (taken es) → Somewhere (λ (x : Message). x ≡ m) (taken (j n)))
    → AllByRecursion (λ (e : JournalEntry). AllByRecursion (SentBefore j e.stamp) (took e.what)) es
before_of j n legal [] all within = tt
before_of j n legal (e ∷ es) all within = (
  each_took (took e.what) all.0.takes (λ m h. within m (somewhere_left (λ (x : Message). x ≡ m) (took e.what) (taken es) h)),
  before_of j n legal es all.1 (λ m h. within m (somewhere_right (λ (x : Message). x ≡ m) (took e.what) (taken es) h)),
)
  where
    one : (m : Message) → m.stamp < e.stamp → Somewhere (λ (x : Message). x ≡ m) (taken (j n)) → SentBefore j e.stamp m
    one m less there =
        let p = node_number m.link.from in
        let of_p : Somewhere (λ (x : Message). x ≡ m) (from p (taken (j n))) = filtered (λ (x : Message). x ≡ m) (λ x. node_number x.link.from == p) (taken (j n)) (λ x is. eq-eqb (node_number x.link.from) p (ap (λ (y : Message). node_number y.link.from) is)) there in
        let f = legal.first p n in
        let in_sent : Somewhere (λ (x : Message). x ≡ m) (to n (sent (j p))) = subst (Somewhere (λ (x : Message). x ≡ m)) (sym f.1) (somewhere_left (λ (x : Message). x ≡ m) (from p (taken (j n))) f.0 of_p) in
        weaker_somewhere (λ (f : JournalEntry). (f.stamp ≡ m.stamp) × Somewhere (λ (x : Message). x ≡ m) (outputs f)) (λ (f : JournalEntry). (f.stamp < e.stamp) × Somewhere (λ (x : Message). x ≡ m) (outputs f))
        (λ f h. let same = h.0 in (omega arith, h.1)) (j p)
        (sender_of p m (j p) (legal.stamped p) (unfiltered (λ (x : Message). x ≡ m) (λ x. node_number x.link.to == n) (sent (j p)) in_sent))

    each_took : (ms : List Message) → AllByRecursion (λ (m : Message). m.stamp < e.stamp) ms → ((m : Message) → Somewhere (λ (x : Message). x ≡ m) ms → Somewhere (λ (x : Message). x ≡ m) (taken (j n))) → AllByRecursion (SentBefore j e.stamp) ms
    each_took [] less there = tt
    each_took (m ∷ ms) less there = (one m less.0 (there m (inl refl)), each_took ms less.1 (λ x h. there x (inr h)))

pub all_before : (j : ℕ → List JournalEntry) (n : ℕ) → Legal j → AllByRecursion (λ (e : JournalEntry). AllByRecursion (SentBefore j e.stamp) (took e.what)) (j n)
all_before j n legal = before_of j n legal (j n) (legal.stamped n) (λ m h. h)
