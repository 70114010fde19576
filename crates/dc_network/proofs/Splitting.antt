-- Notes and sends of an event in which a command ends, one after another.
use Rattle.std.proofs.Common.{◌≡◌, ◌++◌, ◌∷◌, ◌||◌, [], Bool, List, true, false, refl, ap, inl, inr, not, sym, ◌∙◌}
use Rattle.std.specs.Prelude.{filter}
use Rattle.std.specs.List.{list_any}
use Rattle.std.proofs.lemmas.List.{append-nil}
use Rattle.std.proofs.lemmas.List.Elements.{filter-append}
use Rattle.std.specs.Prelude.{if◌then◌else◌}
use Rattle.std.proofs.lemmas.Bool.{cases_Bool}
use Rattle.dc_base.specs.declared.events.Note.{Note}
use Rattle.node_rules.specs.Choices.{Send}
use Rattle.node_rules.specs.Lines.{is_end, is_idle_release, notes_after, notes_before, opens_release, sends_after, sends_before}

-- none of a list passes a test, and what is left of the first does not
pub none_here : {X : Type 0} (p : X → Bool) (x : X) (xs : List X) → list_any p (x ∷ xs) ≡ false → p x ≡ false
none_here p x xs none = elim (cases_Bool (p x)) [ inl yes' ↦ let bad : true ≡ false = rw yes' at none in cc | inr no' ↦ no' ]

-- so the rest does not either
pub none_later : {X : Type 0} (p : X → Bool) (x : X) (xs : List X) → list_any p (x ∷ xs) ≡ false → list_any p xs ≡ false
none_later p x xs none = elim (cases_Bool (p x)) [ inl yes' ↦ let bad : true ≡ false = rw yes' at none in cc | inr no' ↦ rw no' at none ]

-- where none passes, none is left of the list
pub none_pass : {X : Type 0} (p : X → Bool) (xs : List X) → list_any p xs ≡ false → filter p xs ≡ []
none_pass p [] none = refl
none_pass p (x ∷ xs) none = rw (none_here p x xs none) (none_pass p xs (none_later p x xs none))

-- and where what passes is taken away, all is left
pub all_fail : {X : Type 0} (p : X → Bool) (xs : List X) → list_any p xs ≡ false → filter (λ x. not (p x)) xs ≡ xs
all_fail p [] none = refl
all_fail p (x ∷ xs) none = rw (none_here p x xs none) (ap (λ zs. x ∷ zs) (all_fail p xs (none_later p x xs none)))

-- ---- notes

-- before an end one more note stands before it
pub notes_before-push : (xs : List Note) (x : Note) → list_any is_end xs ≡ false → notes_before (xs ++ x ∷ []) ≡ notes_before xs ++ x ∷ []
notes_before-push [] x none = elim (cases_Bool (is_end x)) [ inl yes' ↦ rw yes' refl | inr no' ↦ rw no' refl ]
notes_before-push (y ∷ xs) x none =
    rw (none_here is_end y xs none) (ap (λ zs. y ∷ zs) (notes_before-push xs x (none_later is_end y xs none)))

-- after it none does
pub notes_before-kept : (xs : List Note) (x : Note) → list_any is_end xs ≡ true → notes_before (xs ++ x ∷ []) ≡ notes_before xs
notes_before-kept [] x some = absurd cc
notes_before-kept (y ∷ xs) x some =
    elim (cases_Bool (is_end y)) [
      | inl yes' ↦ rw yes' refl
      | inr no' ↦ let more : list_any is_end xs ≡ true = rw no' at some in rw no' (ap (λ zs. y ∷ zs) (notes_before-kept xs x more))
    ]

-- before an end there is none after it
pub notes_after-none : (xs : List Note) → list_any is_end xs ≡ false → notes_after xs ≡ []
notes_after-none [] none = refl
notes_after-none (y ∷ xs) none = rw (none_here is_end y xs none) (notes_after-none xs (none_later is_end y xs none))

-- nor where the next is the end
pub notes_after-first : (xs : List Note) (x : Note) → list_any is_end xs ≡ false → notes_after (xs ++ x ∷ []) ≡ []
notes_after-first [] x none = elim (cases_Bool (is_end x)) [ inl yes' ↦ rw yes' refl | inr no' ↦ rw no' refl ]
notes_after-first (y ∷ xs) x none = rw (none_here is_end y xs none) (notes_after-first xs x (none_later is_end y xs none))

-- after it each one more is
pub notes_after-push : (xs : List Note) (x : Note) → list_any is_end xs ≡ true → notes_after (xs ++ x ∷ []) ≡ notes_after xs ++ x ∷ []
notes_after-push [] x some = absurd cc
notes_after-push (y ∷ xs) x some =
    elim (cases_Bool (is_end y)) [
      | inl yes' ↦ rw yes' refl
      | inr no' ↦ let more : list_any is_end xs ≡ true = rw no' at some in rw no' (notes_after-push xs x more)
    ]

-- ---- any list

-- one more
pub any-push : {X : Type 0} (p : X → Bool) (xs : List X) (x : X) → list_any p (xs ++ x ∷ []) ≡ (list_any p xs || p x)
any-push p [] x = elim (cases_Bool (p x)) [ inl yes' ↦ rw yes' refl | inr no' ↦ rw no' refl ]
any-push p (y ∷ xs) x = elim (cases_Bool (p y)) [ inl yes' ↦ rw yes' refl | inr no' ↦ rw no' (any-push p xs x) ]

-- one more, where one passed the test
pub any-push_some : {X : Type 0} (p : X → Bool) (xs : List X) (x : X) → list_any p xs ≡ true → list_any p (xs ++ x ∷ []) ≡ true
any-push_some p [] x some = absurd cc
any-push_some p (y ∷ xs) x some =
    elim (cases_Bool (p y)) [
      | inl yes' ↦ rw yes' refl
      | inr no' ↦ let more : list_any p xs ≡ true = rw no' at some in rw no' (any-push_some p xs x more)
    ]

-- one more, where none did
pub any-push_none : {X : Type 0} (p : X → Bool) (xs : List X) (x : X) → list_any p xs ≡ false → list_any p (xs ++ x ∷ []) ≡ p x
any-push_none p [] x none = elim (cases_Bool (p x)) [ inl yes' ↦ rw yes' refl | inr no' ↦ rw no' refl ]
any-push_none p (y ∷ xs) x none = rw (none_here p y xs none) (any-push_none p xs x (none_later p y xs none))

-- ---- sends

-- before a release opens one more send stands before it
pub sends_before-push : (xs : List Send) (x : Send) → list_any opens_release xs ≡ false → opens_release x ≡ false → sends_before (xs ++ x ∷ []) ≡ sends_before xs ++ x ∷ []
sends_before-push [] x none not_one = rw not_one refl
sends_before-push (y ∷ xs) x none not_one =
    rw (none_here opens_release y xs none) (ap (λ zs. y ∷ zs) (sends_before-push xs x (none_later opens_release y xs none) not_one))

-- the first of the release does not
pub sends_before-first : (xs : List Send) (x : Send) → list_any opens_release xs ≡ false → opens_release x ≡ true → sends_before (xs ++ x ∷ []) ≡ sends_before xs
sends_before-first [] x none one = rw one refl
sends_before-first (y ∷ xs) x none one =
    rw (none_here opens_release y xs none) (ap (λ zs. y ∷ zs) (sends_before-first xs x (none_later opens_release y xs none) one))

-- after it none does
pub sends_before-kept : (xs : List Send) (x : Send) → list_any opens_release xs ≡ true → sends_before (xs ++ x ∷ []) ≡ sends_before xs
sends_before-kept [] x some = absurd cc
sends_before-kept (y ∷ xs) x some =
    elim (cases_Bool (opens_release y)) [
      | inl yes' ↦ rw yes' refl
      | inr no' ↦ let more : list_any opens_release xs ≡ true = rw no' at some in rw no' (ap (λ zs. y ∷ zs) (sends_before-kept xs x more))
    ]

-- the sends that are no answer that nothing has to be released
abbrev pub is_other : Send → Bool
is_other s = if is_idle_release s then false else true

-- before a release opens there is none of it
pub sends_after-none : (xs : List Send) → list_any opens_release xs ≡ false → sends_after xs ≡ []
sends_after-none [] none = refl
sends_after-none (y ∷ xs) none = rw (none_here opens_release y xs none) (sends_after-none xs (none_later opens_release y xs none))

-- none is added by one that does not open it
pub sends_after-still : (xs : List Send) (x : Send) → list_any opens_release xs ≡ false → opens_release x ≡ false → sends_after (xs ++ x ∷ []) ≡ []
sends_after-still [] x none not_one = rw not_one refl
sends_after-still (y ∷ xs) x none not_one = rw (none_here opens_release y xs none) (sends_after-still xs x (none_later opens_release y xs none) not_one)

-- the first of the release
pub sends_after-first : (xs : List Send) (x : Send) → list_any opens_release xs ≡ false → opens_release x ≡ true → sends_after (xs ++ x ∷ []) ≡ filter is_other (x ∷ [])
sends_after-first [] x none one = rw one refl
sends_after-first (y ∷ xs) x none one =
    rw (none_here opens_release y xs none) (sends_after-first xs x (none_later opens_release y xs none) one)

-- one more of the release
pub sends_after-push : (xs : List Send) (x : Send) → list_any opens_release xs ≡ true → sends_after (xs ++ x ∷ []) ≡ sends_after xs ++ filter is_other (x ∷ [])
sends_after-push [] x some = absurd cc
sends_after-push (y ∷ xs) x some =
    elim (cases_Bool (opens_release y)) [
      | inl yes' ↦ rw yes' (filter-append is_other (y ∷ xs) (x ∷ []))
      | inr no' ↦ let more : list_any opens_release xs ≡ true = rw no' at some in rw no' (sends_after-push xs x more)
    ]

-- ---- one more send

-- neither is so
pub neither : (a b : Bool) → (a || b) ≡ false → (a ≡ false) × (b ≡ false)
neither true b h = absurd cc
neither false b h = (refl, h)

-- a release has not begun
pub before_one : (xs : List Send) (x : Send) → (list_any opens_release xs || opens_release x) ≡ false → sends_before (xs ++ x ∷ []) ≡ sends_before xs ++ x ∷ []
before_one xs x still = let both = neither (list_any opens_release xs) (opens_release x) still in sends_before-push xs x both.0 both.1

-- and nothing is of one
pub before_none : (xs : List Send) (x : Send) → (list_any opens_release xs || opens_release x) ≡ false → sends_after (xs ++ x ∷ []) ≡ sends_after xs
before_none xs x still =
    let both = neither (list_any opens_release xs) (opens_release x) still in
    sends_after-still xs x both.0 both.1 ∙ sym (sends_after-none xs both.0)

-- it has begun: nothing more stands before it
pub after_none : (xs : List Send) (x : Send) → (list_any opens_release xs || opens_release x) ≡ true → sends_before (xs ++ x ∷ []) ≡ sends_before xs
after_none xs x begun =
    elim (cases_Bool (list_any opens_release xs)) [
      | inl some ↦ sends_before-kept xs x some
      | inr none ↦ sends_before-first xs x none (rw none at begun)
    ]

-- the send is of it, unless it is an answer that nothing has to be released
pub after_one : (xs : List Send) (x : Send) → (list_any opens_release xs || opens_release x) ≡ true → sends_after (xs ++ x ∷ []) ≡ sends_after xs ++ filter is_other (x ∷ [])
after_one xs x begun =
    elim (cases_Bool (list_any opens_release xs)) [
      | inl some ↦ sends_after-push xs x some
      | inr none ↦ sends_after-first xs x none (rw none at begun) ∙ sym (ap (λ zs. zs ++ filter is_other (x ∷ [])) (sends_after-none xs none))
    ]

-- a send that is no such answer is none of them
pub idle_not : (xs : List Send) (x : Send) → is_idle_release x ≡ false → filter is_idle_release (xs ++ x ∷ []) ≡ filter is_idle_release xs
idle_not xs x other = filter-append is_idle_release xs (x ∷ []) ∙ rw other (append-nil (filter is_idle_release xs))

-- and one that is comes after them
pub idle_one : (xs : List Send) (x : Send) → is_idle_release x ≡ true → filter is_idle_release (xs ++ x ∷ []) ≡ filter is_idle_release xs ++ x ∷ []
idle_one xs x idle = filter-append is_idle_release xs (x ∷ []) ∙ rw idle refl

-- what is of the release but such an answer
pub other_one : (xs : List Send) (x : Send) → (list_any opens_release xs || opens_release x) ≡ true → is_idle_release x ≡ false → sends_after (xs ++ x ∷ []) ≡ sends_after xs ++ x ∷ []
other_one xs x begun other = after_one xs x begun ∙ rw other refl

-- such an answer is not of it
pub other_not : (xs : List Send) (x : Send) → (list_any opens_release xs || opens_release x) ≡ true → is_idle_release x ≡ true → sends_after (xs ++ x ∷ []) ≡ sends_after xs
other_not xs x begun idle = after_one xs x begun ∙ rw idle (append-nil (sends_after xs))
