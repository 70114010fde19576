-- What is kept or held was submitted.
use Rattle.std.proofs.Common.{ℕ, ◌≡◌, ◌+◌, ◌==◌, Bool, true, false, List, [], ◌∷◌, ◌++◌, All, Some, length, refl, ap, sym, ◌∙◌, subst, ◌-◌, ◌^◌, nat_lt, Result, Ok, Err, IfOk, OnErr}
use Rattle.std.specs.List.{enumerate_from, filter, range_with_len}
use Rattle.std.proofs.lemmas.List.Elements.{All-append, All-cons, All-filter, All-head, All-nil, All-tail}
use Rattle.pdcp_pdu.specs.DataPdu.{IsPayload}
use Rattle.dc_base.specs.Count.{window}
use Rattle.dc_base.specs.declared.numbers.SnLen.{SnLen}
use Rattle.pdcp_tx.specs.Sender.{Entry, Sender, low, sdu_at}
use Rattle.pdcp_tx.specs.Sending.{give_numbers}
use Rattle.pdcp_tx.specs.declared.tx.TxErr.{TxErr}
use Rattle.pdcp_tx.specs.declared.tx.TxErr.TheVariants.{Full, Exhausted}

-- the SDUs of these are payloads
abbrev pub ArePayloads : List Entry → Type 0
ArePayloads es = All (λ (x : Entry). IsPayload x.1) es

-- what a confirm leaves are payloads
pub payloads_stay : (test : Entry → Bool) (es : List Entry) → ArePayloads es → ArePayloads (filter test es)
payloads_stay test es all = All-filter test (λ (x : Entry). IsPayload x.1) es all

-- an SDU that is found is a payload
pub payload_found : (es : List Entry) (count : ℕ) (sdu : List ℕ) → ArePayloads es → sdu_at es count ≡ Some sdu → IsPayload sdu
payload_found [] count sdu all found = absurd (cc (found))
payload_found (e ∷ es) count sdu all found = at (e.0 == count) refl (payload_found es count sdu (All-tail (λ (x : Entry). IsPayload x.1) e es all))
  where
    at : (b : Bool) → (e.0 == count) ≡ b → (sdu_at es count ≡ Some sdu → IsPayload sdu) → IsPayload sdu
    at true is rest =
        let here : sdu_at (e ∷ es) count ≡ Some e.1 = rw is refl in
        let both = sym here ∙ found in
        let same : e.1 ≡ sdu = cc in
        subst (λ (x : List ℕ). IsPayload x) same (All-head (λ (x : Entry). IsPayload x.1) e es all)
    at false is rest =
        let here : sdu_at (e ∷ es) count ≡ sdu_at es count = rw is refl in
        rest (sym here ∙ found)

-- what was held is a payload when it has a COUNT
pub payloads_numbered : (from : ℕ) (held : List (List ℕ)) → All IsPayload held → ArePayloads (enumerate_from from held)
payloads_numbered from [] all = All-nil (λ (x : Entry). IsPayload x.1)
payloads_numbered from (x ∷ xs) all =
    All-cons (λ (x : Entry). IsPayload x.1) (from, x) (enumerate_from (from + 1) xs) (All-head IsPayload x xs all) (payloads_numbered (from + 1) xs (All-tail IsPayload x xs all))

-- a sending side has this SN length, and what it keeps or holds was submitted
abbrev pub IsSound : SnLen → Sender → Type 0
IsSound n s = (s.n ≡ n) × ArePayloads s.kept × All IsPayload s.held

-- the sending side of an answer, or this one
abbrev sender_of : Sender → Result (Sender × List ℕ) TxErr → Sender
sender_of s (Ok x) = x.0
sender_of s (Err e) = s

numbered_sound : (n : SnLen) (s new : Sender) (given : List ℕ) → give_numbers s ≡ Ok (new, given) → IsSound n s → IsSound n new
numbered_sound n s new given is sound = at (nat_lt (low s + window s.n) (s.next + length s.held)) (nat_lt (2 ^ 32 - 1) (s.next + length s.held)) refl refl
  where
    at : (t u : Bool) → nat_lt (low s + window s.n) (s.next + length s.held) ≡ t → nat_lt (2 ^ 32 - 1) (s.next + length s.held) ≡ u → IsSound n new
    at true u full last =
        let no : give_numbers s ≡ Err (Full (low s) s.next) = rw full refl in
        let bad = sym no ∙ is in
        absurd (cc)
    at false true full last =
        let no : give_numbers s ≡ Err Exhausted = rw (full, last) refl in
        let bad = sym no ∙ is in
        absurd (cc)
    at false false full last =
        let after : Sender = record s { next = s.next + length s.held; kept = s.kept ++ enumerate_from s.next s.held; held = [] } in
        let yes : give_numbers s ≡ Ok (after, range_with_len s.next (length s.held)) = rw (full, last) refl in
        let new_is : new ≡ after = ap (sender_of s) (sym is ∙ yes) in
        let kept = All-append (λ (x : Entry). IsPayload x.1) s.kept (enumerate_from s.next s.held) sound.1 (payloads_numbered s.next s.held sound.2) in
        subst (λ (x : Sender). IsSound n x) (sym new_is) (sound.0, kept, All-nil IsPayload)

pub numbers_sound : (n : SnLen) (r : Result (List ℕ) TxErr) (s new : Sender)
    → IfOk r (λ given. give_numbers s ≡ Ok (new, given)) → OnErr r (new ≡ s) → IsSound n s → IsSound n new
numbers_sound n (Ok given) s new ok err sound = numbered_sound n s new given ok sound
numbers_sound n (Err e) s new ok err sound = subst (λ (x : Sender). IsSound n x) (sym err) sound
