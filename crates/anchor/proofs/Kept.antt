-- PDUs that a waiting anchor keeps.
use Rattle.std.proofs.Common.{ℕ, ◌≡◌, ◌++◌, Bool, true, false, List, [], ◌∷◌, Result, Ok, Err, sym, ap, ◌∙◌}
use Rattle.std.specs.List.{cons_option}
use Rattle.std.proofs.lemmas.List.Elements.{filter_map-append}
use Rattle.dc_base.specs.declared.numbers.SnLen.{SnLen}
use Rattle.pdcp_pdu.specs.Pdu.{Content, decoded}
use Rattle.pdcp_pdu.specs.declared.pdu.PduErr.{PduErr}
use Rattle.node_rules.specs.Anchor.{Waiting}
use Rattle.anchor.specs.Readable.{readable, said_by, said_if}
use Rattle.anchor.specs.Receiving.{kept_pdu}

pub readable-more : (n : SnLen) (pdus : List (List ℕ)) (octets : List ℕ) (x : Content) → decoded n octets ≡ Ok x
    → readable n (pdus ++ octets ∷ []) ≡ readable n pdus ++ x ∷ []
readable-more n pdus octets x is =
    filter_map-append (said_by n) pdus (octets ∷ [])
    ∙ ap (λ (r : Result Content PduErr). readable n pdus ++ cons_option (said_if r) []) is

-- one more PDU is kept
pub kept_pdu-ok : (w : Waiting) (r : Result Content PduErr) (x : Content) (pdus : List Content) → r ≡ Ok x → pdus ≡ w.pdus ++ x ∷ []
    → ◌≡◌ {A = Waiting × Bool} (record w { pdus = pdus }, true) (kept_pdu w r)
kept_pdu-ok w r x pdus is more =
    ap {B = Waiting × Bool} (λ (xs : List Content). (record w { pdus = xs }, true)) more ∙ ap {B = Waiting × Bool} (λ (r : Result Content PduErr). kept_pdu w r) (sym is)

pub kept_pdu-err : (w : Waiting) (r : Result Content PduErr) (e : PduErr) → r ≡ Err e → ◌≡◌ {A = Waiting × Bool} (w, false) (kept_pdu w r)
kept_pdu-err w r e is = ap {B = Waiting × Bool} (λ (r : Result Content PduErr). kept_pdu w r) (sym is)
