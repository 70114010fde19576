-- The PDU of a payload is the same by both rules, and so are the PDUs that are sent again.
use Rattle.std.proofs.Common.{ℕ, ◌≡◌, ◌+◌, List, [], ◌∷◌, Option, Some, length, refl, ap, ◌∙◌}
use Rattle.std.specs.Prelude.{map}
use Rattle.std.specs.List.{AllByRecursion}
use Rattle.dc_base.specs.Count.{sn}
use Rattle.dc_base.specs.declared.events.Header.{Header}
use Rattle.dc_base.specs.declared.flights.Flight.TheVariants as flight
use Rattle.dc_base.specs.declared.events.Line.TheVariants as line
use Rattle.dc_base.specs.declared.nodes.Alg.{Alg}
use Rattle.dc_base.specs.declared.nodes.Alg.TheVariants.{Nea0, Nea2}
use Rattle.dc_base.specs.declared.nodes.Dir.{Dir}
use Rattle.dc_base.specs.declared.nodes.Dir.TheVariants.{Dl, Ul}
use Rattle.dc_base.specs.declared.nodes.Node.{Node}
use Rattle.dc_base.specs.declared.nodes.Node.TheVariants.{M, T}
use Rattle.key_chain.specs.KeyNames.{upenc}
use Rattle.nea2.specs.Combined.{combined}
use Rattle.nea2.specs.Keystream.{keystream}
use Rattle.pdcp_pdu.specs.DataPdu.{data_pdu}
use Rattle.pdcp_tx.specs.Sender.{Entry}
use Rattle.split_leg.specs.Legs.{LegsState}
use Rattle.transcript.specs.Bearers.{Established, master_key}
use Rattle.master_runs.specs.Plane as plane
use Rattle.master_runs.specs.Plane.{leg, resends}
use Rattle.node_rules.specs.Entity.{pdu_of, stream, ciphered}
use Rattle.master_runs.specs.Forms.{setup_as, flights_from, all_on}
use Rattle.master_runs.specs.Same.{IsPlainLine}
use Rattle.master_runs.proofs.Lining.{send_lines}

-- the node that sends in a direction
abbrev pub sender_of : Dir → Node
sender_of Dl = M
sender_of Ul = T

-- NEA0 needs no key
no_key : (key : List ℕ) (count id : ℕ) (d : Dir) (many : ℕ) → keystream Nea0 [] count id d many ≡ keystream Nea0 key count id d many
unfolding keystream
no_key key count id d many = refl

-- the keystream
stream_same : (alg : Alg) (root : List ℕ) (count id : ℕ) (d : Dir) (many : ℕ)
    → stream alg root count id d many ≡ keystream alg (upenc (root ∷ []) (master_key 0) alg) count id d many
stream_same Nea0 root count id d many = no_key (upenc (root ∷ []) (master_key 0) Nea0) count id d many
stream_same Nea2 root count id d many = refl

-- octets under it
pub ciphered_same : (h : Header) (node : Node) (b : Established) (legs : LegsState) (d : Dir) (count : ℕ) (text : List ℕ)
    → ciphered (setup_as h node b legs) d count text ≡ plane.ciphered h b.id d count text
ciphered_same h node b legs d count text = ap (combined text) (stream_same h.alg h.root count b.id d (length text))

-- a PDU
pub pdu_same : (h : Header) (d : Dir) (b : Established) (legs : LegsState) (count : ℕ) (text : List ℕ)
    → pdu_of (setup_as h (sender_of d) b legs) (count, text) ≡ data_pdu b.n (sn b.n count) (plane.ciphered h b.id d count text)
pdu_same h Dl b legs count text = ap (data_pdu b.n (sn b.n count)) (ciphered_same h M b legs Dl count text)
pdu_same h Ul b legs count text = ap (data_pdu b.n (sn b.n count)) (ciphered_same h T b legs Ul count text)

-- all that is kept, as PDUs
abbrev pub kept_pdus : Header → Dir → Established → LegsState → List Entry → List (Option ℕ × List ℕ)
kept_pdus h d b legs es = map (λ e. (Some e.0, pdu_of (setup_as h (sender_of d) b legs) (e.0, e.1))) es

-- their COUNTs
pub tags_kept : (h : Header) (d : Dir) (b : Established) (legs : LegsState) (es : List Entry) → map (λ (p : Option ℕ × List ℕ). p.0) (kept_pdus h d b legs es) ≡ map (λ (y : Entry). Some y.0) es
tags_kept h d b legs [] = refl
tags_kept h d b legs (y ∷ ys) = ap (λ ts. Some y.0 ∷ ts) (tags_kept h d b legs ys)

-- no plan is among what is sent again
pub plain_resends : (h : Header) (b : Established) (d : Dir) (num : ℕ) (es : List Entry) → AllByRecursion IsPlainLine (resends h b d num es)
plain_resends h b d num [] = tt
plain_resends h b d num (e ∷ es) = (tt, plain_resends h b d (num + 1) es)

-- what is sent again
pub resends_same : (h : Header) (d : Dir) (b : Established) (legs : LegsState) (num : ℕ) (es : List Entry)
    → send_lines (all_on (leg d) (flights_from b num (kept_pdus h d b legs es))) ≡ resends h b d num es
resends_same h d b legs num [] = refl
resends_same h d b legs num (e ∷ es) =
    ap (λ pdu. line.Send (leg d) (flight.Air b.id b.g num (Some e.0) pdu) ∷ send_lines (all_on (leg d) (flights_from b (num + 1) (kept_pdus h d b legs es)))) (pdu_same h d b legs e.0 e.1)
    ∙ ap (λ ls. line.Send (leg d) (plane.data_flight h b d num e.0 e.1) ∷ ls) (resends_same h d b legs (num + 1) es)
