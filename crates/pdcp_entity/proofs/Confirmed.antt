-- COUNTs that are confirmed one after another, and those that are confirmed at once.
use Rattle.std.proofs.Common.{ℕ, ◌≡◌, ◌+◌, ◌<◌, ◌==◌, Bool, true, false, ◌&&◌, ◌||◌, not, cond, List, [], ◌∷◌, ◌++◌, length, take, get_or, Option, Some, None, fold, map, refl, ap, sym, ◌∙◌, Bor, option_copied}
use Rattle.std.proofs.lemmas.Bool.{eqb-true, eqb-false, eq-eqb, ne_eqb}
use Rattle.std.proofs.lemmas.List.{append-nil}
use Rattle.std.proofs.lemmas.List.Elements.{filter_more}
use Rattle.std.specs.List.{filter}
use Rattle.std.specs.Option.{is_some}
use Rattle.node_rules.specs.Entity.{Entity, confirmed_where}
use Rattle.node_rules.specs.Setup.{Setup}
use Rattle.pdcp_pdu.specs.Bitmap.{is_among}
use Rattle.pdcp_tx.specs.Sender.{Entry, Sender, counts, sdu_at}
use Rattle.pdcp_tx.specs.Sending.{confirm_count}
use Rattle.split_leg.specs.declared.leg.Pdu.{Pdu}
use Rattle.split_leg.specs.Legs.{LegState, LegsState, is_settled_by, settle, settle_all, settled_on_both}

and_false : (b : Bool) → (b && false) ≡ false
and_false true = refl
and_false false = refl

or_true : (b : Bool) → (b || true) ≡ true
or_true true = refl
or_true false = refl

-- ---- the legs

-- a PDU is settled once
settle_twice : (a b : ℕ) (p : Pdu) → settle a b (settle a b p) ≡ settle a b p
settle_twice a b p = at (is_settled_by a b p) refl
  where
    at : (t : Bool) → is_settled_by a b p ≡ t → settle a b (settle a b p) ≡ settle a b p
    at true is =
        let done : settle a b p ≡ record p { settled = true } = rw is refl in
        let again : settle a b (record p { settled = true }) ≡ record p { settled = true } = rw (and_false (not p.repeat && not p.acked)) refl in
        ap (λ (q : Pdu). settle a b q) done ∙ again ∙ sym done
    at false is = let same : settle a b p ≡ p = rw is refl in ap (λ (q : Pdu). settle a b q) same

map_twice : (f : Pdu → Pdu) → ((p : Pdu) → f (f p) ≡ f p) → (ps : List Pdu) → map f (map f ps) ≡ map f ps
map_twice f twice [] = refl
map_twice f twice (p ∷ ps) = let here = twice p in let rest = map_twice f twice ps in cc

leg_twice : (a b : ℕ) (leg : LegState) → settle_all a b (settle_all a b leg) ≡ settle_all a b leg
leg_twice a b leg = ap (λ (ps : List Pdu). record leg { pdus = ps }) (map_twice (settle a b) (settle_twice a b) leg.pdus)

both_twice : (a b : ℕ) (legs : LegsState) → settled_on_both a b (settled_on_both a b legs) ≡ settled_on_both a b legs
both_twice a b legs =
    ap (λ (leg : LegState). record legs { mcg = leg; scg = settle_all a b (settle_all a b legs.scg) }) (leg_twice a b legs.mcg)
    ∙ ap (λ (leg : LegState). record legs { mcg = settle_all a b legs.mcg; scg = leg }) (leg_twice a b legs.scg)

-- a COUNT is confirmed
abbrev pub Settled : LegsState → ℕ → LegsState
Settled legs c = settled_on_both c (c + 1) legs

-- confirmed again, it changes nothing
settled_stays : (legs : LegsState) (count : ℕ) (cs : List ℕ) → Settled legs count ≡ legs → fold Settled legs (filter (λ c. c == count) cs) ≡ legs
settled_stays legs count [] same = refl
settled_stays legs count (c ∷ cs) same = at (c == count) refl (settled_stays legs count cs same)
  where
    at : (t : Bool) → (c == count) ≡ t → fold Settled legs (filter (λ d. d == count) cs) ≡ legs → fold Settled legs (filter (λ d. d == count) (c ∷ cs)) ≡ legs
    at true is rest =
        let here : Settled legs c ≡ legs = ap (λ (n : ℕ). Settled legs n) (eqb-true c count is) ∙ same in
        rw is (ap (λ (l : LegsState). fold Settled l (filter (λ d. d == count) cs)) here ∙ rest)
    at false is rest = rw is rest

-- of what is kept one COUNT is confirmed, if it is there
abbrev pub settled_if : Bool → LegsState → ℕ → LegsState
settled_if true legs count = Settled legs count
settled_if false legs count = legs

pub settled_once : (legs : LegsState) (count : ℕ) (es : List Entry)
    → fold Settled legs (filter (λ c. c == count) (counts es)) ≡ settled_if (is_some (sdu_at es count)) legs count
settled_once legs count [] = refl
settled_once legs count (e ∷ es) = at (e.0 == count) refl (settled_once legs count es)
  where
    at : (t : Bool) → (e.0 == count) ≡ t → fold Settled legs (filter (λ c. c == count) (counts es)) ≡ settled_if (is_some (sdu_at es count)) legs count
        → fold Settled legs (filter (λ c. c == count) (counts (e ∷ es))) ≡ settled_if (is_some (sdu_at (e ∷ es) count)) legs count
    at true is rest =
        let here : Settled legs e.0 ≡ Settled legs count = ap (λ (n : ℕ). Settled legs n) (eqb-true e.0 count is) in
        rw is (ap (λ (l : LegsState). fold Settled l (filter (λ c. c == count) (counts es))) here ∙ settled_stays (Settled legs count) count (counts es) (both_twice count (count + 1) legs))
    at false is rest = rw is rest

-- ---- the sending side

filter_all : (es : List Entry) → filter (λ (e : Entry). true) es ≡ es
filter_all [] = refl
filter_all (e ∷ es) = ap (λ (xs : List Entry). e ∷ xs) (filter_all es)

filter_both : (p q r : Entry → Bool) → ((e : Entry) → r e ≡ (q e && p e)) → (es : List Entry) → filter p (filter q es) ≡ filter r es
filter_both p q r same [] = refl
filter_both p q r same (e ∷ es) = at (q e) refl (filter_both p q r same es)
  where
    at : (t : Bool) → q e ≡ t → filter p (filter q es) ≡ filter r es → filter p (filter q (e ∷ es)) ≡ filter r (e ∷ es)
    at true is rest =
        let here : r e ≡ p e = same e ∙ ap (λ (b : Bool). b && p e) is in
        rw (is, here, rest) refl
    at false is rest =
        let here : r e ≡ false = same e ∙ ap (λ (b : Bool). b && p e) is in
        rw (is, here) rest

eqb_swap : (a b : ℕ) → (a == b) ≡ (b == a)
eqb_swap a b = at (a == b) refl
  where
    at : (t : Bool) → (a == b) ≡ t → (a == b) ≡ (b == a)
    at true is = is ∙ sym (eq-eqb b a (sym (eqb-true a b is)))
    at false is = is ∙ sym (ne_eqb b a (λ e. eqb-false a b is (sym e)))

not_or : (a b : Bool) → not (a || b) ≡ (not a && not b)
not_or true b = refl
not_or false b = refl

-- COUNTs that are confirmed one after another leave what is not among them
fold_confirm : (cs : List ℕ) (s : Sender) → fold confirm_count s cs ≡ record s { kept = filter (λ (e : Entry). not (is_among cs e.0)) s.kept }
fold_confirm [] s = ap (λ (es : List Entry). record s { kept = es }) (sym (filter_all s.kept))
fold_confirm (c ∷ cs) s =
    let here : (e : Entry) → not (is_among (c ∷ cs) e.0) ≡ (not (e.0 == c) && not (is_among cs e.0)) =
    λ e. not_or (c == e.0) (is_among cs e.0) ∙ ap (λ (b : Bool). not b && not (is_among cs e.0)) (eqb_swap c e.0) in
    let joined = filter_both (λ (e : Entry). not (is_among cs e.0)) (λ (e : Entry). not (e.0 == c)) (λ (e : Entry). not (is_among (c ∷ cs) e.0)) here s.kept in
    fold_confirm cs (confirm_count s c) ∙ ap (λ (es : List Entry). record s { kept = es }) joined

-- what is among those of a list that pass a test
among_passed : (test : ℕ → Bool) (cs : List ℕ) (n : ℕ) → is_among (filter test cs) n ≡ (is_among cs n && test n)
among_passed test [] n = refl
among_passed test (c ∷ cs) n = at (test c) (c == n) refl refl (among_passed test cs n)
  where
    at : (t u : Bool) → test c ≡ t → (c == n) ≡ u → is_among (filter test cs) n ≡ (is_among cs n && test n)
        → is_among (filter test (c ∷ cs)) n ≡ (is_among (c ∷ cs) n && test n)
    at true true passed is rest =
        let there : test n ≡ true = ap test (sym (eqb-true c n is)) ∙ passed in
        rw (passed, is, there) refl
    at true false passed is rest = rw (passed, is) rest
    at false true passed is rest =
        let there : test n ≡ false = ap test (sym (eqb-true c n is)) ∙ passed in
        let none : is_among (filter test cs) n ≡ false = rest ∙ ap (λ (b : Bool). is_among cs n && b) there ∙ and_false (is_among cs n) in
        rw (passed, is, there) none
    at false false passed is rest = rw (passed, is) rest

-- of entries whose COUNTs are among these, those whose COUNTs do not pass the test
filter_passed : (test : ℕ → Bool) (cs : List ℕ) (es : List Entry) → ((n : ℕ) → is_among (counts es) n ≡ true → is_among cs n ≡ true)
    → filter (λ (e : Entry). not (is_among (filter test cs) e.0)) es ≡ filter (λ (e : Entry). not (test e.0)) es
filter_passed test cs [] inside = refl
filter_passed test cs (e ∷ es) inside =
    let itself : is_among (counts (e ∷ es)) e.0 ≡ true = rw (eq-eqb e.0 e.0 refl) refl in
    let here : is_among (filter test cs) e.0 ≡ test e.0 = among_passed test cs e.0 ∙ ap (λ (b : Bool). b && test e.0) (inside e.0 itself) in
    let later : (n : ℕ) → is_among (counts es) n ≡ true → is_among cs n ≡ true =
    λ n k. inside n (ap (λ (b : Bool). (e.0 == n) || b) k ∙ or_true (e.0 == n)) in
    rw (here, filter_passed test cs es later) refl

-- what is left when all COUNTs are confirmed that pass a test
pub confirmed_kept : (test : ℕ → Bool) (s : Sender)
    → fold confirm_count s (filter test (counts s.kept)) ≡ record s { kept = filter (λ (e : Entry). not (test e.0)) s.kept }
confirmed_kept test s =
    fold_confirm (filter test (counts s.kept)) s ∙ ap (λ (es : List Entry). record s { kept = es }) (filter_passed test (counts s.kept) s.kept (λ n k. k))

-- those that pass a test, with the next, if it passes
pub passed_yes : (test : ℕ → Bool) (cs : List ℕ) (i : ℕ) (found : List ℕ) → i < length cs → found ≡ filter test (take i cs) → test (get_or cs i 0) ≡ true
    → found ++ get_or cs i 0 ∷ [] ≡ filter test (take (i + 1) cs)
passed_yes test cs i found inside so_far passes =
    let more = filter_more test cs i 0 inside in
    let here = ap (λ (b : Bool). filter test (take i cs) ++ cond b (get_or cs i 0 ∷ []) []) passes in
    rw so_far (sym (more ∙ here))

pub passed_no : (test : ℕ → Bool) (cs : List ℕ) (i : ℕ) (found : List ℕ) → i < length cs → found ≡ filter test (take i cs) → test (get_or cs i 0) ≡ false
    → found ≡ filter test (take (i + 1) cs)
passed_no test cs i found inside so_far fails =
    let more = filter_more test cs i 0 inside in
    let here = ap (λ (b : Bool). filter test (take i cs) ++ cond b (get_or cs i 0 ∷ []) []) fails in
    so_far ∙ sym (more ∙ here ∙ append-nil (filter test (take i cs)))

-- ---- the entity

-- all COUNTs that pass a test are confirmed
pub confirmed_all : (test : ℕ → Bool) (e : Entity) (s : Setup) (tx : Sender) (named : List ℕ) → named ≡ filter test (counts e.tx.kept)
    → s ≡ record e.setup { legs = fold Settled e.setup.legs named } → tx ≡ fold confirm_count e.tx named
    → record e { setup = s; tx = tx } ≡ confirmed_where test e
confirmed_all test e s tx named is setup_is tx_is = rw (setup_is, tx_is, is, confirmed_kept test e.tx) refl

-- what is kept then
pub confirmed_tx : (test : ℕ → Bool) (s tx : Sender) (named : List ℕ) → named ≡ filter test (counts s.kept) → tx ≡ fold confirm_count s named
    → tx ≡ record s { kept = filter (λ (x : Entry). not (test x.0)) s.kept }
confirmed_tx test s tx named is tx_is = rw (tx_is, is) (confirmed_kept test s)

-- a COUNT that is not kept
unkept : (es : List Entry) (count : ℕ) → is_some (sdu_at es count) ≡ false → filter (λ (e : Entry). not (e.0 == count)) es ≡ es
unkept [] count none = refl
unkept (e ∷ es) count none = at (e.0 == count) refl (unkept es count)
  where
    at : (t : Bool) → (e.0 == count) ≡ t → (is_some (sdu_at es count) ≡ false → filter (λ (x : Entry). not (x.0 == count)) es ≡ es)
        → filter (λ (x : Entry). not (x.0 == count)) (e ∷ es) ≡ e ∷ es
    at true is rest =
        let yes : is_some (sdu_at (e ∷ es) count) ≡ true = rw is refl in
        let bad = sym yes ∙ none in
        absurd (cc)
    at false is rest =
        let same : is_some (sdu_at (e ∷ es) count) ≡ is_some (sdu_at es count) = rw is refl in
        rw (is, rest (sym same ∙ none)) refl

pub confirmed_not : (e : Entity) (count : ℕ) → is_some (sdu_at e.tx.kept count) ≡ false → e ≡ confirmed_where (λ c. c == count) e
confirmed_not e count none =
    let legs = settled_once e.setup.legs count e.tx.kept ∙ ap (λ (b : Bool). settled_if b e.setup.legs count) none in
    rw (legs, unkept e.tx.kept count none) refl

-- a COUNT that is kept
pub confirmed_one : (e : Entity) (count : ℕ) → is_some (sdu_at e.tx.kept count) ≡ true
    → record e { setup = record e.setup { legs = Settled e.setup.legs count }; tx = confirm_count e.tx count } ≡ confirmed_where (λ c. c == count) e
confirmed_one e count found =
    let legs = settled_once e.setup.legs count e.tx.kept ∙ ap (λ (b : Bool). settled_if b e.setup.legs count) found in
    rw legs refl

pub is_some_copied : {T : Type 0} (o : Option (Bor T)) → is_some (option_copied o) ≡ is_some o
is_some_copied None = refl
is_some_copied (Some x) = refl
