-- PDUs are sent one after another.
use Rattle.std.proofs.Common.{ℕ, ◌≡◌, ◌+◌, ◌<◌, ◌∙◌, List, [], ◌∷◌, ◌++◌, Option, Some, None, length, take, get_or, refl, ap, sym, append_assoc}
use Rattle.std.proofs.lemmas.List.{append-nil, take_more}
use Rattle.std.specs.List.{cons_option, filter_map}
use Rattle.std.specs.Option.{option_map}
use Rattle.std.proofs.lemmas.List.Elements.{filter_map-append}
use Rattle.node_rules.specs.Choices.{Choices}
use Rattle.node_rules.specs.Entity.{Entity, pdu_of}
use Rattle.node_rules.specs.Sending.{Pdu, pdu_at, send_counts, send_each, send_one, sends}
use Rattle.node_rules.specs.declared.bearers.OnLeg.{OnLeg}
use Rattle.node_rules.specs.Setup.{Setup}
use Rattle.pdcp_tx.specs.Sender.{sdu_at}
use Rattle.split_leg.specs.Legs.{LegsState}

-- first some, and then others
abbrev pub SentThen : Choices → List Pdu → LegsState × List OnLeg → LegsState × List OnLeg
SentThen c pdus done = let later = send_each c pdus done.0 in (later.0, done.1 ++ later.1)

send_each-append : (c : Choices) (ps qs : List Pdu) (legs : LegsState) → send_each c (ps ++ qs) legs ≡ SentThen c qs (send_each c ps legs)
send_each-append c [] qs legs = refl
send_each-append c (p ∷ ps) qs legs =
    let here = send_one c p legs in
    let rest = send_each c ps here.0 in
    let last = send_each c qs rest.0 in
    let joined = append_assoc here.1 rest.1 last.1 in
    ap (λ (x : LegsState × List OnLeg). (x.0, here.1 ++ x.1)) (send_each-append c ps qs here.0) ∙ ap (λ (put : List OnLeg). (last.0, put)) (sym joined)

-- one more COUNT
send_counts-push : (c : Choices) (e : Entity) (cs : List ℕ) (count : ℕ)
    → (let done = send_counts c e cs in
    let one = send_counts c done.0 (count ∷ []) in
    let sent : Entity × List OnLeg = (one.0, done.1 ++ one.1) in
    send_counts c e (cs ++ count ∷ []) ≡ sent)
send_counts-push c e cs count =
    let split = filter_map-append (pdu_at e) cs (count ∷ []) in
    let pushed = send_each-append c (filter_map (pdu_at e) cs) (filter_map (pdu_at e) (count ∷ [])) e.setup.legs in
    let all : LegsState × List OnLeg → Entity × List OnLeg = λ x. (record e { setup = record e.setup { legs = x.0 } }, x.1) in
    ap (λ (ps : List Pdu). sends c e ps) split ∙ ap all pushed

-- the first i COUNTs were sent
abbrev pub AreSent : Choices → Entity → List ℕ → ℕ → Entity → List OnLeg → Type 0
AreSent c e0 cs i e1 put = let sent : Entity × List OnLeg = (e1, put) in sent ≡ send_counts c e0 (take i cs)

-- and then the COUNT at place i
pub sent_more : (c : Choices) (e0 e1 e2 : Entity) (put1 put2 : List OnLeg) (cs : List ℕ) (i : ℕ)
    → i < length cs → AreSent c e0 cs i e1 put1
    → e2 ≡ (send_counts c e1 (get_or cs i 0 ∷ [])).0
    → put2 ≡ put1 ++ (send_counts c e1 (get_or cs i 0 ∷ [])).1
    → AreSent c e0 cs (i + 1) e2 put2
sent_more c e0 e1 e2 put1 put2 cs i inside so_far entity put =
    let more : take (i + 1) cs ≡ take i cs ++ get_or cs i 0 ∷ [] = take_more cs i 0 inside in
    let e_is : e1 ≡ (send_counts c e0 (take i cs)).0 = ap (λ (x : Entity × List OnLeg). x.0) so_far in
    let put_is : put1 ≡ (send_counts c e0 (take i cs)).1 = ap (λ (x : Entity × List OnLeg). x.1) so_far in
    let pushed = send_counts-push c e0 (take i cs) (get_or cs i 0) in
    rw (more, entity, put, put_is, e_is) (sym pushed)

-- one COUNT whose SDU is not kept
pub sent_none : (c : Choices) (e : Entity) (count : ℕ) (put : List OnLeg) → sdu_at e.tx.kept count ≡ None
    → (e ≡ (send_counts c e (count ∷ [])).0) × (put ≡ put ++ (send_counts c e (count ∷ [])).1)
sent_none c e count put none =
    let made : Option (List ℕ) → Option Pdu = λ o. option_map (λ (x : List ℕ). (Some count, pdu_of e.setup (count, x))) o in
    let is : sends c e [] ≡ send_counts c e (count ∷ []) = ap (λ (o : Option (List ℕ)). sends c e (cons_option (made o) [])) (sym none) in
    (ap (λ (x : Entity × List OnLeg). x.0) is, sym (append-nil put) ∙ ap (λ (x : Entity × List OnLeg). put ++ x.1) is)

-- one COUNT whose SDU is kept
pub sent_one : (c : Choices) (e : Entity) (s2 : Setup) (count : ℕ) (sdu : List ℕ) (put1 put2 : List OnLeg) → sdu_at e.tx.kept count ≡ Some sdu
    → s2 ≡ record e.setup { legs = (send_one c (Some count, pdu_of e.setup (count, sdu)) e.setup.legs).0 }
    → put2 ≡ put1 ++ (send_one c (Some count, pdu_of e.setup (count, sdu)) e.setup.legs).1
    → (record e { setup = s2 } ≡ (send_counts c e (count ∷ [])).0) × (put2 ≡ put1 ++ (send_counts c e (count ∷ [])).1)
sent_one c e s2 count sdu put1 put2 found setup put =
    let pdu : Pdu = (Some count, pdu_of e.setup (count, sdu)) in
    let made : Option (List ℕ) → Option Pdu = λ o. option_map (λ (x : List ℕ). (Some count, pdu_of e.setup (count, x))) o in
    let is : sends c e (pdu ∷ []) ≡ send_counts c e (count ∷ []) = ap (λ (o : Option (List ℕ)). sends c e (cons_option (made o) [])) (sym found) in
    let alone : (sends c e (pdu ∷ [])).1 ≡ (send_one c pdu e.setup.legs).1 = append-nil (send_one c pdu e.setup.legs).1 in (
      ap (λ (s : Setup). record e { setup = s }) setup ∙ ap (λ (x : Entity × List OnLeg). x.0) is,
      put ∙ ap (λ (x : List OnLeg). put1 ++ x) (sym alone) ∙ ap (λ (x : Entity × List OnLeg). put1 ++ x.1) is,
    )
