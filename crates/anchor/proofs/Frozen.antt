-- The packets of a freeze, one list after another.
use Rattle.std.proofs.Common.{ℕ, ◌≡◌, ◌+◌, ◌∙◌, Bool, true, false, List, [], ◌∷◌, ◌++◌, None, Option, Some, length, map, if◌then◌else◌, refl, sym, ap, append_assoc, arith}
use Rattle.std.proofs.lemmas.List.{length-map, length-append}
use Rattle.dc_base.specs.Count.{sn}
use Rattle.forward.specs.Load.{Sdu}
use Rattle.pdcp_rx.specs.Entries.{Entry}
use Rattle.node_rules.specs.Choices.{Send}
use Rattle.dc_base.specs.Tunnel.{teid}
use Rattle.dc_base.specs.declared.nodes.Node.{Node}
use Rattle.dc_base.specs.declared.records.StatusTransfer.{StatusTransfer}
use Rattle.node_rules.specs.Anchor.{Active}
use Rattle.node_rules.specs.Freezing.{FreezeOut, Tunnel, closing, down_sdus, freeze, new_tunnel, numbered, pieces, rest_of, transfer_of, up_sdus, whole_tunnel}
use Rattle.anchor.specs.Paths.{ForwardPath, after_pieces}
use Rattle.anchor.proofs.Pieces.{pieces-append, pieces-next}

-- the tunnels of both directions
abbrev pub down_path : Active → Node → ℕ → ForwardPath
down_path a target g = record { tunnel = new_tunnel a.entity target g; teid = teid g a.entity.setup.id 1 }

abbrev pub up_path : Active → Node → ℕ → ForwardPath
up_path a target g = record { tunnel = new_tunnel a.entity target g; teid = teid g a.entity.setup.id 2 }

append_none : (xs : List Send) → xs ++ [] ≡ xs
append_none [] = refl
append_none (x ∷ xs) = ap (λ (ys : List Send). x ∷ ys) (append_none xs)

length-numbered : (t : Tunnel) (es : List Entry) → length (numbered t.n es) ≡ length es
length-numbered t es = length-map es (λ (e : Entry). (Some (sn t.n e.0), e.1))

-- SDUs without COUNTs
abbrev pub bare : List (List ℕ) → List Sdu
bare held = map (λ (sdu : List ℕ). (None, sdu)) held

length-bare : (held : List (List ℕ)) → length (bare held) ≡ length held
length-bare held = length-map held (λ (sdu : List ℕ). (None, sdu))

-- the packets of both lists of downlink are those of one
both : (t : Tunnel) (teid : ℕ) (kept : List Entry) (held : List (List ℕ))
    → pieces t teid 0 (numbered t.n kept) ++ pieces (record t { next = 0 + length kept }) teid (0 + length kept) (bare held) ≡ pieces t teid 0 (numbered t.n kept ++ bare held)
both t teid kept held =
    let count : 0 + length kept ≡ 0 + length (numbered t.n kept) = omega (arith, length-numbered t kept) in
    ap (λ (xs : List Send). pieces t teid 0 (numbered t.n kept) ++ xs) (pieces-next t (0 + length kept) teid (0 + length kept) (bare held))
    ∙ ap (λ (k : ℕ). pieces t teid 0 (numbered t.n kept) ++ pieces t teid k (bare held)) count
    ∙ sym (pieces-append t teid 0 (numbered t.n kept) (bare held))

-- with the end of the downlink tunnel if no SDU comes any more
abbrev pub ended : Tunnel → ℕ → Bool → List Sdu → List Send
ended t teid true sdus = whole_tunnel t teid sdus
ended t teid false sdus = pieces t teid 0 sdus

down-is : (t : Tunnel) (teid : ℕ) (last : Bool) (kept : List Entry) (held : List (List ℕ))
    → (pieces t teid 0 (numbered t.n kept) ++ pieces (record t { next = 0 + length kept }) teid (0 + length kept) (bare held)) ++ (if last then closing t teid (0 + length kept + length held) else [])
    ≡ ended t teid last (numbered t.n kept ++ bare held)
down-is t teid true kept held =
    let count : 0 + length kept + length held ≡ length (numbered t.n kept ++ bare held) = omega (arith, length-append (numbered t.n kept) (bare held), length-numbered t kept, length-bare held) in
    ap (λ (xs : List Send). xs ++ closing t teid (0 + length kept + length held)) (both t teid kept held)
    ∙ ap (λ (k : ℕ). pieces t teid 0 (numbered t.n kept ++ bare held) ++ closing t teid k) count
down-is t teid false kept held = append_none _ ∙ both t teid kept held

-- the packets of both directions
pub frozen-sends : (t : Tunnel) (down up : ℕ) (last : Bool) (kept stored : List Entry) (held : List (List ℕ))
    → (((pieces t down 0 (numbered t.n kept) ++ pieces (record t { next = 0 + length kept }) down (0 + length kept) (bare held)) ++ (if last then closing t down (0 + length kept + length held) else [])) ++ pieces t up 0 (numbered t.n stored)) ++ closing t up (0 + length stored)
    ≡ ended t down last (numbered t.n kept ++ bare held) ++ whole_tunnel t up (numbered t.n stored)
frozen-sends t down up last kept stored held =
    let count : 0 + length stored ≡ length (numbered t.n stored) = omega (arith, length-numbered t stored) in
    let ends = ended t down last (numbered t.n kept ++ bare held) in
    ap (λ (xs : List Send). (xs ++ pieces t up 0 (numbered t.n stored)) ++ closing t up (0 + length stored)) (down-is t down last kept held)
    ∙ ap (λ (k : ℕ). (ends ++ pieces t up 0 (numbered t.n stored)) ++ closing t up k) count
    ∙ append_assoc ends (pieces t up 0 (numbered t.n stored)) (closing t up (length (numbered t.n stored)))

-- the freeze of an anchor, from what its parts give
pub freeze-is : (a : Active) (target : Node) (g : ℕ) (last : Bool) (status : StatusTransfer) (s1 s2 s3 s4 s5 : List Send) (p1 p2 q1 : ForwardPath) (rest : Option Tunnel)
    → status ≡ transfer_of a.entity g
    → p1 ≡ after_pieces (down_path a target g) (length a.entity.tx.kept)
    → s1 ≡ pieces (new_tunnel a.entity target g) (teid g a.entity.setup.id 1) 0 (numbered a.entity.setup.n a.entity.tx.kept)
    → p2 ≡ after_pieces p1 (length a.entity.tx.held)
    → s2 ≡ s1 ++ pieces p1.tunnel p1.teid p1.tunnel.next (bare a.entity.tx.held)
    → rest ≡ rest_of p2.tunnel last p2.tunnel.next
    → s3 ≡ s2 ++ (if last then closing p2.tunnel p2.teid p2.tunnel.next else [])
    → q1 ≡ after_pieces (up_path a target g) (length a.entity.rx.stored)
    → s4 ≡ s3 ++ pieces (new_tunnel a.entity target g) (teid g a.entity.setup.id 2) 0 (numbered a.entity.setup.n a.entity.rx.stored)
    → s5 ≡ s4 ++ closing q1.tunnel q1.teid q1.tunnel.next
    → ◌≡◌ {A = FreezeOut} (record { status = status; sends = s5; rest = rest }) (freeze a target g last)
freeze-is a target g last status s1 s2 s3 s4 s5 p1 p2 q1 rest status_is p1_is s1_is p2_is s2_is rest_is s3_is q1_is s4_is s5_is =
    let e = a.entity in
    let t : Tunnel = new_tunnel e target g in
    let k = length e.tx.kept in
    let h = length e.tx.held in
    let first = pieces t (teid g e.setup.id 1) 0 (numbered t.n e.tx.kept) in
    let up = pieces t (teid g e.setup.id 2) 0 (numbered t.n e.rx.stored) in
    let second : ForwardPath → List Send = λ p. pieces p.tunnel p.teid p.tunnel.next (bare e.tx.held) in
    let third : ForwardPath → List Send = λ p. if last then closing p.tunnel p.teid p.tunnel.next else [] in
    let fifth : ForwardPath → List Send = λ p. closing p.tunnel p.teid p.tunnel.next in
    let one : ForwardPath = after_pieces (down_path a target g) k in
    let two : ForwardPath = after_pieces one h in
    let p2_at = p2_is ∙ ap (λ (p : ForwardPath). after_pieces p h) p1_is in
    let s2_at = s2_is ∙ ap (λ (xs : List Send). xs ++ second p1) s1_is ∙ ap (λ (p : ForwardPath). first ++ second p) p1_is in
    let s3_at = s3_is ∙ ap (λ (xs : List Send). xs ++ third p2) s2_at ∙ ap (λ (p : ForwardPath). (first ++ second one) ++ third p) p2_at in
    let s4_at = s4_is ∙ ap (λ (xs : List Send). xs ++ up) s3_at in
    let s5_at = s5_is ∙ ap (λ (xs : List Send). xs ++ fifth q1) s4_at ∙ ap (λ (p : ForwardPath). (((first ++ second one) ++ third two) ++ up) ++ fifth p) q1_is in
    let sends_is = s5_at ∙ frozen-sends t (teid g e.setup.id 1) (teid g e.setup.id 2) last e.tx.kept e.rx.stored e.tx.held in
    let count : 0 + k + h ≡ length (down_sdus e) = omega (arith, length-append (numbered t.n e.tx.kept) (bare e.tx.held), length-numbered t e.tx.kept, length-bare e.tx.held) in
    let rest_at = rest_is ∙ ap (λ (p : ForwardPath). rest_of p.tunnel last p.tunnel.next) p2_at ∙ ap (λ (m : ℕ). rest_of t last m) count in
    ap {B = FreezeOut} (λ (x : StatusTransfer). record { status = x; sends = s5; rest = rest }) status_is
    ∙ ap {B = FreezeOut} (λ (x : List Send). record { status = transfer_of e g; sends = x; rest = rest }) sends_is
    ∙ ap {B = FreezeOut} (λ (x : Option Tunnel). record { status = transfer_of e g; sends = ended t (teid g e.setup.id 1) last (down_sdus e) ++ whole_tunnel t (teid g e.setup.id 2) (up_sdus e); rest = x }) rest_at
