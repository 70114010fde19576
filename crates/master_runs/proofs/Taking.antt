-- What a node makes of the data PDU of a submission: ciphered twice, its payload is as it was submitted; it confirms nothing.
use Rattle.std.proofs.Common.{ℕ, ◌≡◌, ◌-◌, ◌^◌, ◌<◌, ◌≤◌, ◌++◌, Bool, true, false, List, [], ◌∷◌, Option, Some, Ok, length, map, refl, ap, ◌∙◌, subst, arith, ◌==◌}
use Rattle.std.specs.Prelude.{bit_xor, if◌then◌else◌, ◌&&◌}
use Rattle.std.specs.Int.Bits.{xor_self, xor_zero_r}
use Rattle.std.proofs.lemmas.Bool.{cond-true, cond-false, eq-eqb, ne_eqb}
use Rattle.std.proofs.lemmas.Bool.Decides.{nat_tests}
use Rattle.dc_base.specs.Count.{modulus, sn, count_for}
use Rattle.dc_base.specs.declared.numbers.SnLen.{SnLen}
use Rattle.dc_base.specs.declared.numbers.SnLen.TheVariants.{S12, S18}
use Rattle.dc_base.specs.declared.events.Header.{Header}
use Rattle.dc_base.specs.declared.events.Line.{Line}
use Rattle.dc_base.specs.declared.nodes.Dir.{Dir}
use Rattle.dc_base.specs.declared.nodes.Dir.TheVariants.{Ul, Dl}
use Rattle.dc_base.specs.declared.nodes.LinkId.{LinkId}
use Rattle.dc_base.specs.declared.flights.Flight.TheVariants as flight
use Rattle.dc_base.proofs.Counting.{sn_small}
use Rattle.nea2.specs.Combined.{combined}
use Rattle.nea2.specs.Keystream.{keystream}
use Rattle.key_chain.specs.KeyNames.{upenc}
use Rattle.pdcp_pdu.specs.DataPdu.{IsPayload, data_pdu}
use Rattle.pdcp_pdu.specs.Pdu.{sdu, decoded, read_data}
use Rattle.pdcp_pdu.proofs.Reading.{data_again}
use Rattle.pdcp_rx.specs.Receiver.{put, handed_of}
use Rattle.dc_base.specs.Links.{is_to}
use Rattle.pdcp_pdu.specs.DataPdu.{is_data}
use Rattle.transcript.specs.Transcript.{Entry}
use Rattle.transcript.specs.Bearers.{Established, master_key, confirmed_by, read_of, is_generation_of, submitter}
use Rattle.master_runs.specs.Entities.{Entities}
use Rattle.master_runs.specs.Plane.{ciphered, data_flight, flight_taken, pdu_taken, with_count, sdu_taken, up_line, ack_line}
use lib.Bits.{xor_assoc}

-- a number combined twice with the same is as before
xor_twice : (x k : ℕ) → bit_xor (bit_xor x k) k ≡ x
xor_twice x k = xor_assoc x k k ∙ ap (bit_xor x) (xor_self k) ∙ xor_zero_r x

-- so is a text
combined_twice : (text stream : List ℕ) → combined (combined text stream) stream ≡ text
combined_twice text [] = refl
combined_twice [] (k ∷ ks) = refl
combined_twice (x ∷ xs) (k ∷ ks) = let head = xor_twice x k in let rest = combined_twice xs ks in cc

-- its length stays
length-combined : (text stream : List ℕ) → length (combined text stream) ≡ length text
length-combined text [] = refl
length-combined [] (k ∷ ks) = refl
length-combined (x ∷ xs) (k ∷ ks) = let rest = length-combined xs ks in cc

-- a ciphered payload is as long as the payload
pub length-ciphered : (h : Header) (id : ℕ) (d : Dir) (count : ℕ) (text : List ℕ) → length (ciphered h id d count text) ≡ length text
length-ciphered h id d count text = length-combined text _

-- ciphered twice it is as before
pub ciphered_twice : (h : Header) (id : ℕ) (d : Dir) (count : ℕ) (text : List ℕ) → ciphered h id d count (ciphered h id d count text) ≡ text
ciphered_twice h id d count text =
    let key = upenc (h.root ∷ []) (master_key 0) h.alg in
    let stream = keystream h.alg key count id d (length text) in
    ap (λ k. combined (combined text stream) (keystream h.alg key count id d k)) (length-combined text stream) ∙ combined_twice text stream

-- a data PDU is read again
decoded_pdu : (n : SnLen) (shown : ℕ) (body : List ℕ) → shown < modulus n → 1 ≤ length body → length body ≤ 9000 → decoded n (data_pdu n shown body) ≡ Ok (sdu shown body)
unfolding data_pdu
decoded_pdu n shown body small some most = data_again n 0 shown body small some most

module _ (h : Header) (d : Dir) (r : Entities) (num c : ℕ) (p : List ℕ) where
  -- what the payload makes of the entities, and the lines that it gives
  abbrev put_there : List ℕ → Entities × List Line
  put_there q = let done = put r.rx c q in (record r { rx = done.0 }, map (up_line r.bearer.id d) (handed_of done.1))

  -- a flight of the entities' own bearer
  taken_own : IsPayload p → c < 2 ^ 32 - 1 → count_for r.bearer.n r.rx.deliv (sn r.bearer.n c) ≡ Some c
      → flight_taken h d r (data_flight h r.bearer d num c p) ≡ ((put_there p).0, (put_there p).1 ++ ack_line r.bearer d num ∷ [])
  taken_own good small found =
      let b = r.bearer in
      let body = ciphered h b.id d c p in
      let long = length-ciphered h b.id d c p in let some = good.some in let most = good.most in
      let done : sdu_taken h d r body c ≡ put_there p = cond-false _ _ _ (ne_eqb c (2 ^ 32 - 1) (λ e. omega arith)) ∙ ap put_there (ciphered_twice h b.id d c p) in
      cond-true _ _ _ (eq-eqb b.g b.g refl)
      ∙ ap (pdu_taken h d r num) (decoded_pdu b.n (sn b.n c) body (sn_small b.n c) (omega arith) (omega arith))
      ∙ ap (λ o. let done = with_count h d r body o in (done.0, done.1 ++ ack_line b d num ∷ [])) found
      ∙ ap (λ (q : Entities × List Line). (q.0, q.1 ++ ack_line b d num ∷ [])) done

-- the receiving node makes of the data PDU of a submission what was submitted, and confirms it
pub taken_data : (h : Header) (d : Dir) (b : Established) (r : Entities) (num c : ℕ) (p : List ℕ) → r.bearer ≡ b → IsPayload p → c < 2 ^ 32 - 1 → count_for b.n r.rx.deliv (sn b.n c) ≡ Some c
    → flight_taken h d r (data_flight h b d num c p) ≡ (record r { rx = (put r.rx c p).0 }, map (up_line b.id d) (handed_of (put r.rx c p).1) ++ ack_line b d num ∷ [])
taken_data h d b r num c p is good small =
    subst (λ (x : Established). count_for x.n r.rx.deliv (sn x.n c) ≡ Some c
    → flight_taken h d r (data_flight h x d num c p) ≡ (record r { rx = (put r.rx c p).0 }, map (up_line x.id d) (handed_of (put r.rx c p).1) ++ ack_line x d num ∷ []))
    is (taken_own h d r num c p good small)

-- what `data_pdu` makes is a data PDU
header_is_data : (n : SnLen) (shown : ℕ) (body : List ℕ) → is_data (data_pdu n shown body) ≡ true
unfolding data_pdu
header_is_data S12 shown body = grind (arith, nat_tests)
header_is_data S18 shown body = grind (arith, nat_tests)

-- so the data PDU of a submission is one
pub is_data_flight : (h : Header) (d : Dir) (b : Established) (c : ℕ) (p : List ℕ) → is_data (data_pdu b.n (sn b.n c) (ciphered h b.id d c p)) ≡ true
is_data_flight h d b c p = header_is_data b.n (sn b.n c) (ciphered h b.id d c p)

-- a data PDU is no status report
no_report : (n : SnLen) (pdu : List ℕ) → is_data pdu ≡ true → read_of (decoded n pdu) ≡ []
unfolding decoded read_data
no_report n pdu is = grind (arith, nat_tests)

-- what is empty is so whether it is taken or not
none_either : {A : Type 0} (c : Bool) (xs : List A) → xs ≡ [] → (if c then xs else []) ≡ []
none_either true xs none = none
none_either false xs none = refl

-- what a PDU on a link confirms
pub pdu_confirms : (x : Established) (k : Dir) (t : List Entry) (l : LinkId) (id g num : ℕ) (tag : Option ℕ) (pdu : List ℕ)
    → confirmed_by x k t (Some (l, flight.Air id g num tag pdu)) ≡ (if is_to (submitter k) l && (id == x.id) && is_generation_of x g t then read_of (decoded x.n pdu) else [])
pdu_confirms x Dl t l id g num tag pdu = refl
pdu_confirms x Ul t l id g num tag pdu = refl

-- so it confirms nothing
pub data_confirmed : (x : Established) (k : Dir) (t : List Entry) (l : LinkId) (id g num : ℕ) (tag : Option ℕ) (pdu : List ℕ) → is_data pdu ≡ true
    → confirmed_by x k t (Some (l, flight.Air id g num tag pdu)) ≡ []
data_confirmed x k t l id g num tag pdu is = pdu_confirms x k t l id g num tag pdu ∙ none_either _ _ (no_report x.n pdu is)
