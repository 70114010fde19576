-- Lines read one after another.
use Rattle.std.proofs.Common.{Bool, false, true, ℕ, ◌≡◌, ◌≢◌, ◌+◌, ◌-◌, ◌≤◌, ◌<◌, ◌++◌, List, [], ◌∷◌, Option, Some, None, length, map, take, drop, refl, sym, ap, ◌∙◌, subst, arith}
use Rattle.std.specs.Prelude.{IfSome}
use Rattle.std.specs.Io.KnownBytes.{IsAtEnd}
use Rattle.std.specs.List.{position_or_len}
use Rattle.std.proofs.lemmas.List.{length-drop, length-take, drop_all}
use Rattle.dc_base.specs.declared.events.Event.{Event}
use Rattle.dc_text.specs.Lines.{GivesLine, is_line_feed, line_of, rest_of, span, taken_by}
use Rattle.transcript_entries.specs.Lines.{Ahead, AreFirstLines, HaveRead, HaveReadOf, IsSettled}
use Rattle.transcript_entries.specs.Read.{HaveReadUp}

-- two runs of lines, one after the other
pub lines_join : (ts us : List (List ℕ)) (a b c : List ℕ) → AreFirstLines a ts b → AreFirstLines b us c → AreFirstLines a (ts ++ us) c
lines_join [] us a b c first second = subst (λ o. AreFirstLines o us c) (sym first) second
lines_join (t ∷ ts) us a b c first second = (first.0, first.1, lines_join ts us (rest_of a) b c first.2 second)

-- what comes after lines is no longer than all
pub rest_long : (ts : List (List ℕ)) (a b : List ℕ) → AreFirstLines a ts b → length b ≤ length a
rest_long [] a b h = let n : length a ≡ length b = ap length h in omega arith
rest_long (t ∷ ts) a b h =
    let less : length b ≤ length (rest_of a) = rest_long ts (rest_of a) b h.2 in
    omega (arith, less, length-drop (position_or_len is_line_feed a + 1) a)

-- of two runs
join_of : (o : Option (List ℕ)) (n : ℕ) (b c : Ahead) (ts us : List (List ℕ)) → HaveReadOf o n ts b → HaveRead b us c → HaveReadOf o n (ts ++ us) c
join_of None n b c ts us first second = tt
join_of (Some os) n b c ts us first second =
    let next : HaveReadOf (Some first.0) b.passed us c = subst (λ q. HaveReadOf q b.passed us c) first.2 second in
    (next.0, lines_join ts us os first.0 next.0 first.1 next.1, next.2, omega (arith, first.3, next.3), next.4)

pub read_join : (a b c : Ahead) (ts us : List (List ℕ)) → HaveRead a ts b → HaveRead b us c → HaveRead a (ts ++ us) c
read_join a b c ts us first second = join_of a.octets a.passed b c ts us first second

-- no lines, of a reader that is settled
read_none_of : (o : Option (List ℕ)) (n : ℕ) (e : Bool) → (e ≡ true → IsAtEnd o) → HaveReadOf o n [] (record { octets = o; passed = n; ended = e })
read_none_of None n e settled = tt
read_none_of (Some os) n e settled = (os, refl, refl, refl, settled)

pub read_none : (a : Ahead) → IsSettled a → HaveRead a [] a
read_none a settled = read_none_of a.octets a.passed a.ended settled

-- the first line without its LF is all there is
no_rest : (os line : List ℕ) (last : Bool) → line ≡ line_of os → span os ≡ taken_by line last → last ≡ true → rest_of os ≡ []
no_rest os line last is ends over =
    let bare : span os ≡ length line + 0 = subst (λ b. span os ≡ taken_by line b) over ends in
    let same : length line ≡ length (line_of os) = ap length is in
    let p = position_or_len is_line_feed os in
    drop_all (p + 1) os (omega (arith, bare, same, length-take p os, length-drop (p + 1) os))

-- one line
read_one_of : (o : Option (List ℕ)) (n : ℕ) (b : Ahead) (line : List ℕ) → GivesLine o b.octets line → IfSome o (λ os. b.passed ≡ n + span os)
    → IfSome o (λ os. span os ≡ taken_by line b.ended) → HaveReadOf o n (line ∷ []) b
read_one_of None n b line gives counted ends = tt
read_one_of (Some os) n b line gives counted ends =
    (rest_of os, (gives.0, gives.1, refl), gives.2, omega (arith, counted, length-drop (position_or_len is_line_feed os + 1) os), no_rest os line b.ended gives.1 ends)

pub read_one : (a b : Ahead) (line : List ℕ) → GivesLine a.octets b.octets line → IfSome a.octets (λ os. b.passed ≡ a.passed + span os)
    → IfSome a.octets (λ os. span os ≡ taken_by line b.ended) → HaveRead a (line ∷ []) b
read_one a b line gives counted ends = read_one_of a.octets a.passed b line gives counted ends

-- after some lines the end is found
read_up_of : (o : Option (List ℕ)) (n : ℕ) (b c : Ahead) (ts : List (List ℕ)) → HaveReadOf o n ts b → (IsSettled b → IsAtEnd b.octets × IsAtEnd c.octets)
    → IfSome o (λ os. AreFirstLines os ts [] × IsAtEnd c.octets)
read_up_of None n b c ts read over = tt
read_up_of (Some os) n b c ts read over =
    let settled : IsSettled b = λ last. subst IsAtEnd (sym read.2) (read.4 last) in
    let ends = over settled in
    let none : read.0 ≡ [] = subst IsAtEnd read.2 ends.0 in
    (subst (λ r. AreFirstLines os ts r) none read.1, ends.1)

pub read_up : (a b c : Ahead) (ts : List (List ℕ)) → HaveRead a ts b → (IsSettled b → IsAtEnd b.octets × IsAtEnd c.octets) → HaveReadUp None a ts c
read_up a b c ts read over = read_up_of a.octets a.passed b c ts read over

-- what is read after some lines
join_up_of : (o : Option (List ℕ)) (n : ℕ) (b c : Ahead) (ts us : List (List ℕ)) → HaveReadOf o n ts b → IfSome b.octets (λ os. AreFirstLines os us [] × IsAtEnd c.octets)
    → IfSome o (λ os. AreFirstLines os (ts ++ us) [] × IsAtEnd c.octets)
join_up_of None n b c ts us first second = tt
join_up_of (Some os) n b c ts us first second =
    let next = subst (λ q. IfSome q (λ rest. AreFirstLines rest us [] × IsAtEnd c.octets)) first.2 second in
    (lines_join ts us os first.0 [] first.1 next.0, next.1)

pub join_up : (e : Option Event) (a b c : Ahead) (ts us : List (List ℕ)) → HaveRead a ts b → HaveReadUp e b us c → HaveReadUp e a (ts ++ us) c
join_up None a b c ts us first second = join_up_of a.octets a.passed b c ts us first second
join_up (Some e) a b c ts us first second = read_join a b c ts us first second

-- where the octets are told, a reader that read lines is settled
settled_of : (o : Option (List ℕ)) (n : ℕ) (b : Ahead) (ts : List (List ℕ)) → HaveReadOf o n ts b → IfSome o (λ _. IsSettled b)
settled_of None n b ts read = tt
settled_of (Some os) n b ts read = λ last. subst IsAtEnd (sym read.2) (read.4 last)

pub settled_after : (a b : Ahead) (ts : List (List ℕ)) → HaveRead a ts b → IfSome a.octets (λ _. IsSettled b)
settled_after a b ts read = settled_of a.octets a.passed b ts read
