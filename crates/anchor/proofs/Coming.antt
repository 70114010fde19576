-- PDUs that were kept as octets come one after another.
use Rattle.std.proofs.Common.{ℕ, ◌≡◌, ◌++◌, List, [], ◌∷◌, Option, Some, None, Result, Ok, Err, refl, sym, ap, ◌∙◌, append_assoc}
use Rattle.std.specs.List.{cons_option}
use Rattle.pdcp_entity.specs.Reading.{taken, taken_as}
use Rattle.pdcp_pdu.specs.Pdu.{Content, decoded, sdu, report}
use Rattle.pdcp_pdu.specs.declared.pdu.PduErr.{PduErr}
use Rattle.pdcp_rx.specs.Entries.{Entry}
use Rattle.dc_base.specs.declared.numbers.SnLen.{SnLen}
use Rattle.node_rules.specs.Entity.{Entity, take_pdu, take_pdus}
use Rattle.anchor.specs.Readable.{handing, readable, said_if}

pub n-take_pdu : (e : Entity) (x : Content) → (take_pdu e x).0.setup.n ≡ e.setup.n
n-take_pdu e (sdu s body) = refl
n-take_pdu e (report fmc bits) = refl

some_as : (e now : Entity) (more : List Entry) (r : Result Content PduErr) (xs : List Content)
    → ◌≡◌ {A = Option (Entity × List Entry)} (Some (now, more)) (taken_as e r)
    → (take_pdus e (cons_option (said_if r) xs) ≡ handing more (take_pdus now xs)) × (now.setup.n ≡ e.setup.n)
some_as e now more (Err why) xs is = absurd cc
some_as e now more (Ok x) xs is =
    let step : ◌≡◌ {A = Entity × List Entry} (now, more) (take_pdu e x) = cc in
    (ap {B = Entity × List Entry} (λ (here : Entity × List Entry). handing here.1 (take_pdus here.0 xs)) (sym step), ap (λ (here : Entity × List Entry). here.0.setup.n) step ∙ n-take_pdu e x)

none_as : (e : Entity) (r : Result Content PduErr) (xs : List Content) → ◌≡◌ {A = Option (Entity × List Entry)} None (taken_as e r)
    → take_pdus e (cons_option (said_if r) xs) ≡ take_pdus e xs
none_as e (Err why) xs is = refl
none_as e (Ok x) xs is = absurd cc

-- octets that are a PDU come first
pub take_pdus-some : (e now : Entity) (more : List Entry) (octets : List ℕ) (rest : List (List ℕ))
    → ◌≡◌ {A = Option (Entity × List Entry)} (Some (now, more)) (taken e octets)
    → take_pdus e (readable e.setup.n (octets ∷ rest)) ≡ handing more (take_pdus now (readable now.setup.n rest))
take_pdus-some e now more octets rest is =
    let both = some_as e now more (decoded e.setup.n octets) (readable e.setup.n rest) is in
    both.0 ∙ ap {B = Entity × List Entry} (λ (n : SnLen). handing more (take_pdus now (readable n rest))) (sym both.1)

-- octets that are none come first
pub take_pdus-none : (e : Entity) (octets : List ℕ) (rest : List (List ℕ)) → ◌≡◌ {A = Option (Entity × List Entry)} None (taken e octets)
    → take_pdus e (readable e.setup.n (octets ∷ rest)) ≡ take_pdus e (readable e.setup.n rest)
take_pdus-none e octets rest is = none_as e (decoded e.setup.n octets) (readable e.setup.n rest) is

-- in front of what was handed up before
pub handing-append : (ups more : List Entry) (later : Entity × List Entry) → handing (ups ++ more) later ≡ handing ups (handing more later)
handing-append ups more later = ap {B = Entity × List Entry} (λ (xs : List Entry). (later.0, xs)) (append_assoc ups more later.1)
