-- Lines whose PDUs have the next numbers of their links: the claim on PDUs holds of each, and all of them are counted.
use Rattle.std.proofs.Common.{ℕ, ◌≡◌, ◌++◌, ◌+◌, Bool, true, false, List, [], ◌∷◌, None, length, refl, sym, ap, subst, ◌∙◌, arith, append_assoc}
use Rattle.std.specs.Prelude.{fold, if◌then◌else◌, ◌||◌}
use Rattle.std.proofs.lemmas.List.{append-nil, length-append}
use Rattle.dc_base.specs.Links.{is_same_link}
use Rattle.dc_base.specs.declared.events.Line.{Line}
use Rattle.dc_base.specs.declared.events.Line.TheVariants as line
use Rattle.dc_base.specs.declared.flights.Flight.{Flight}
use Rattle.dc_base.specs.declared.nodes.LinkId.{LinkId}
use Rattle.transcript.specs.Transcript.{sends}
use Rattle.claims.specs.Claim.{EachLine}
use Rattle.claims.specs.Noted.{noted}
use Rattle.claims.specs.Numbers.{has_next_number, next_number}
use Rattle.claims.specs.Protected.{is_copy}
use Rattle.claims.specs.Sameness.{is_none_or}
use Rattle.claims.specs.Past.{Past}
use Rattle.claims.specs.Views.{pdu_of}
use Rattle.node_rules.specs.Choices.{Send}
use Rattle.run_numbers.specs.Claims.{pdu_has_number_on}
use Rattle.run_numbers.specs.Histories.{IsNumberedFrom, Numbered, numbered_if, puts_in, puts_of, puts_on}
use Rattle.run_numbers.specs.Traffic.{Traffic}
use Rattle.run_numbers.proofs.Next.{flight_numbered, next_flight, next_in, one_of, puts_flight}
use Rattle.run_numbers.proofs.Puts.{puts_append}
use Rattle.run_numbers.proofs.Traffic.{note_leaves, send_adds}

-- ---- numbers that follow, in two parts

pub first_follow : (n : ℕ) (xs ys : List Numbered) → IsNumberedFrom n (xs ++ ys) → IsNumberedFrom n xs
first_follow n [] ys all = tt
first_follow n (x ∷ xs) ys all = (all.0, first_follow (n + 1) xs ys all.1)

pub later_follow : (n : ℕ) (xs ys : List Numbered) → IsNumberedFrom n (xs ++ ys) → IsNumberedFrom (n + length xs) ys
later_follow n [] ys all = subst (λ k. IsNumberedFrom k ys) (omega arith) all
later_follow n (x ∷ xs) ys all = subst (λ k. IsNumberedFrom k ys) (omega arith) (later_follow (n + 1) xs ys all.1)

pub both_follow : (n : ℕ) (xs ys : List Numbered) → IsNumberedFrom n xs → IsNumberedFrom (n + length xs) ys → IsNumberedFrom n (xs ++ ys)
both_follow n [] ys first then' = subst (λ k. IsNumberedFrom k ys) (omega arith) then'
both_follow n (x ∷ xs) ys first then' = (first.0, both_follow (n + 1) xs ys first.1 (subst (λ k. IsNumberedFrom k ys) (omega arith) then'))

-- ---- one send more

one_is : (l k : LinkId) (id g : ℕ) (f : Flight) → puts_on l id g ((k, f) ∷ []) ≡ one_of l id g k (pdu_of f)
one_is l k id g f = by (is_same_link l k)
  where
    by : (b : Bool) → puts_of id g ((if b then f ∷ [] else []) ++ []) ≡ (if b then numbered_if id g (pdu_of f) else [])
    by true = append-nil (numbered_if id g (pdu_of f))
    by false = refl

pub puts_cons : (l : LinkId) (id g : ℕ) (k : LinkId) (f : Flight) (ss : List Send) → puts_on l id g ((k, f) ∷ ss) ≡ one_of l id g k (pdu_of f) ++ puts_on l id g ss
puts_cons l id g k f ss = puts_append l id g ((k, f) ∷ []) ss ∙ ap (λ zs. zs ++ puts_on l id g ss) (one_is l k id g f)

-- ---- lines

-- what lines put on these links has the next numbers there
abbrev pub LinesFollow : (LinkId → Bool) → Past → List Line → Type 0
LinesFollow these p xs = (l : LinkId) → these l ≡ true → (id g : ℕ) → IsNumberedFrom (next_number p l id g) (puts_on l id g (sends xs))

module _ (p : Past) (l : LinkId) (f : Flight) (none : p.copied ≡ None) (k : LinkId) (id g : ℕ) where
  -- a send is counted
  send_counted : IsNumberedFrom (next_number p k id g) (one_of k id g l (pdu_of f)) → next_number (noted p (line.Send l f)) k id g ≡ next_number p k id g + length (one_of k id g l (pdu_of f))
  send_counted is = ap (λ (t : Traffic). next_in t.pdus k id g) (send_adds p l f none) ∙ next_flight p.pdus l (pdu_of f) k id g is

  send_put : puts_in k id g (noted p (line.Send l f)).pdus ≡ puts_in k id g p.pdus ++ one_of k id g l (pdu_of f)
  send_put = ap (λ (t : Traffic). puts_in k id g t.pdus) (send_adds p l f none) ∙ puts_flight p.pdus l (pdu_of f) k id g

-- a line leaves what is copied
copied_after : (p : Past) (x : Line) → p.copied ≡ None → (noted p x).copied ≡ None
copied_after p (line.Note n) none = ap (λ (t : Traffic). t.copied) (note_leaves p n) ∙ none
copied_after p (line.Send l f) none = ap (λ (t : Traffic). t.copied) (send_adds p l f none) ∙ none
copied_after p (line.Event e) none = none
copied_after p (line.Answer a) none = none

note_follow : (these : LinkId → Bool) (p : Past) (n : _) (xs : List Line) → LinesFollow these p (line.Note n ∷ xs) → LinesFollow these (noted p (line.Note n)) xs
note_follow these p n xs follow = λ l of id g. subst (λ (t : Traffic). IsNumberedFrom (next_in t.pdus l id g) (puts_on l id g (sends xs))) (sym (note_leaves p n)) (follow l of id g)

send_follow : (these : LinkId → Bool) (p : Past) (l : LinkId) (f : Flight) (xs : List Line) → p.copied ≡ None → LinesFollow these p (line.Send l f ∷ xs) → LinesFollow these (noted p (line.Send l f)) xs
send_follow these p l f xs none follow = λ k of id g.
    let all : IsNumberedFrom (next_number p k id g) (one_of k id g l (pdu_of f) ++ puts_on k id g (sends xs)) = subst (IsNumberedFrom (next_number p k id g)) (puts_cons k id g l f (sends xs)) (follow k of id g) in
    subst (λ n. IsNumberedFrom n (puts_on k id g (sends xs))) (sym (send_counted p l f none k id g (first_follow _ _ (puts_on k id g (sends xs)) all)))
    (later_follow (next_number p k id g) (one_of k id g l (pdu_of f)) (puts_on k id g (sends xs)) all)

or_right : (a b : Bool) → b ≡ true → (a || b) ≡ true
or_right true b is = refl
or_right false b is = is

-- each PDU among them has the next number
pub lines_numbered : (these : LinkId → Bool) (xs : List Line) (p : Past) → p.copied ≡ None → LinesFollow these p xs → EachLine (pdu_has_number_on these) p xs
lines_numbered these [] p none follow = tt
lines_numbered these (line.Note n ∷ xs) p none follow = (refl, lines_numbered these xs (noted p (line.Note n)) (copied_after p (line.Note n) none) (note_follow these p n xs follow))
lines_numbered these (line.Send l f ∷ xs) p none follow = (
  one (these l) refl,
  lines_numbered these xs (noted p (line.Send l f)) (copied_after p (line.Send l f) none) (send_follow these p l f xs none follow),
)
  where
    first : these l ≡ true → (id g : ℕ) → IsNumberedFrom (next_number p l id g) (one_of l id g l (pdu_of f))
    first of id g = first_follow (next_number p l id g) (one_of l id g l (pdu_of f)) (puts_on l id g (sends xs)) (subst (IsNumberedFrom (next_number p l id g)) (puts_cons l id g l f (sends xs)) (follow l of id g))

    one : (b : Bool) → these l ≡ b → pdu_has_number_on these p (line.Send l f) ≡ true
    one true of = rw of (or_right (is_copy p l f) (is_none_or (has_next_number p l) (pdu_of f)) (flight_numbered p l (pdu_of f) (first of)))
    one false of = rw of refl
lines_numbered these (line.Event e ∷ xs) p none follow = (refl, lines_numbered these xs (noted p (line.Event e)) none follow)
lines_numbered these (line.Answer a ∷ xs) p none follow = (refl, lines_numbered these xs (noted p (line.Answer a)) none follow)

-- so many are counted after them
pub lines_counted : (these : LinkId → Bool) (xs : List Line) (p : Past) → p.copied ≡ None → LinesFollow these p xs → (l : LinkId) → these l ≡ true → (id g : ℕ)
    → next_number (fold noted p xs) l id g ≡ next_number p l id g + length (puts_on l id g (sends xs))
lines_counted these [] p none follow l of id g = omega arith
lines_counted these (line.Note n ∷ xs) p none follow l of id g =
    lines_counted these xs (noted p (line.Note n)) (copied_after p (line.Note n) none) (note_follow these p n xs follow) l of id g
    ∙ ap (λ (t : Traffic). next_in t.pdus l id g + length (puts_on l id g (sends xs))) (note_leaves p n)
lines_counted these (line.Send k f ∷ xs) p none follow l of id g =
    let one = one_of l id g k (pdu_of f) in
    let rest = puts_on l id g (sends xs) in
    let first = first_follow (next_number p l id g) one rest (subst (IsNumberedFrom (next_number p l id g)) (puts_cons l id g k f (sends xs)) (follow l of id g)) in
    let more = lines_counted these xs (noted p (line.Send k f)) (copied_after p (line.Send k f) none) (send_follow these p k f xs none follow) l of id g in
    more ∙ ap (λ n. n + length rest) (send_counted p k f none l id g first) ∙ sums (next_number p l id g) (length one) (length rest)
    ∙ ap (λ n. next_number p l id g + n) (sym (ap length (puts_cons l id g k f (sends xs)) ∙ length-append one rest))
  where
    sums : (a b c : ℕ) → (a + b) + c ≡ a + (b + c)
    sums a b c = omega arith
lines_counted these (line.Event e ∷ xs) p none follow l of id g = lines_counted these xs (noted p (line.Event e)) none follow l of id g
lines_counted these (line.Answer a ∷ xs) p none follow l of id g = lines_counted these xs (noted p (line.Answer a)) none follow l of id g

-- and all that they put is there, in its order
pub lines_put : (xs : List Line) (p : Past) → p.copied ≡ None → (l : LinkId) (id g : ℕ) → puts_in l id g (fold noted p xs).pdus ≡ puts_in l id g p.pdus ++ puts_on l id g (sends xs)
lines_put [] p none l id g = sym (append-nil (puts_in l id g p.pdus))
lines_put (line.Note n ∷ xs) p none l id g =
    lines_put xs (noted p (line.Note n)) (copied_after p (line.Note n) none) l id g ∙ ap (λ (t : Traffic). puts_in l id g t.pdus ++ puts_on l id g (sends xs)) (note_leaves p n)
lines_put (line.Send k f ∷ xs) p none l id g =
    lines_put xs (noted p (line.Send k f)) (copied_after p (line.Send k f) none) l id g ∙ ap (λ zs. zs ++ puts_on l id g (sends xs)) (send_put p k f none l id g)
    ∙ append_assoc (puts_in l id g p.pdus) (one_of l id g k (pdu_of f)) (puts_on l id g (sends xs))
    ∙ ap (λ zs. puts_in l id g p.pdus ++ zs) (sym (puts_cons l id g k f (sends xs)))
lines_put (line.Event e ∷ xs) p none l id g = lines_put xs (noted p (line.Event e)) none l id g
lines_put (line.Answer a ∷ xs) p none l id g = lines_put xs (noted p (line.Answer a)) none l id g
