-- Octets are read as the packet that they are, or as the first check that they fail.
use Rattle.std.proofs.Common.{◌≡◌, ℕ, zero, suc, ◌+◌, ◌-◌, ◌*◌, ◌/◌, ◌%◌, ◌^◌, ◌<◌, ◌≤◌, inl, inr, Bool, false, true, cond, not, ◌&&◌, ◌||◌, eqb, ltb, List, [], ◌∷◌, ◌++◌, length, take, drop, get_or, Option, Some, None, refl, sym, ap, subst, ◌∙◌, arith, drop-cons, length-drop}
use Rattle.std.specs.Prelude.{is_some, is_none, Result, Ok, Err, MatchResult}
use Rattle.std.specs.Option.{option_to_list, option_or}
use Rattle.std.specs.Int.{w16, w32, to_be_bytes, from_be_bytes}
use Rattle.std.proofs.Math.Seq.{take-length}
use Rattle.std.proofs.lemmas.Bool.{cases_Bool, or_parts, not-false, eqb-true, eqb-false, ltb-true, ltb-false, lt-ltb, both_ways}
use Rattle.std.proofs.lemmas.List.{take-append-drop, length-take-le}
use Rattle.std.proofs.lemmas.Nat.{be_bytes_2, be_bytes_4}
use Rattle.gtpu.specs.declared.faults.GtpErr.{GtpErr}
use Rattle.gtpu.specs.declared.packet.GtpKind.{GtpKind}
use Rattle.gtpu.specs.declared.packet.GtpKind.TheVariants.{GPdu, EndMarker, EchoRequest, EchoResponse, ErrorIndication}
use Rattle.gtpu.specs.declared.packet.PduNumber.{PduNumber}
use Rattle.gtpu.specs.declared.packet.Packet.{Packet}
use Rattle.gtpu.specs.Content.{Content, view, message_type, kind_of}
use Rattle.gtpu.specs.Extension.{is_unknown_required, may_have_length, container_of, number_of, AreExtensions}
use Rattle.gtpu.specs.Grammar.{IsAfterTeid, plain, HasHeader, IsPacket}
use Rattle.gtpu.specs.Fault.{header_fault, is_misshapen, is_second, HasExtensionFault, HasFault}
use Rattle.gtpu.specs.Decoded.{Parts, outcome, content_of, behind, extensions_from, parts_of, with_parts, of_kind, behind_checks, decoded}
use Rattle.gtpu.specs.Walk.{Splits, Joins}
use Rattle.gtpu.proofs.Headers.{extends}
use Rattle.gtpu.proofs.Places.{sequenced_at, extended_at}
use Rattle.gtpu.proofs.Unique.{one_packet, no_fault, one_fault}

-- ---- one extension header

cons-first : (xs : List ℕ) → 0 < length xs → xs ≡ get_or xs 0 0 ∷ drop 1 xs
cons-first [] some = absurd (omega arith)
cons-first (x ∷ xs) some = refl

-- a header whose shape has no fault
splits : (type : ℕ) (after : List ℕ) → is_misshapen type after ≡ false → Splits type after (content_of after) (get_or (behind after) 0 0 ∷ drop 1 (behind after))
splits type [] fine = absurd (cc fine)
splits type (units ∷ after) fine =
    let ends = or_parts (eqb units 0 || not (may_have_length type units)) (ltb (length after + 1) (4 * units)) fine in
    let shape = or_parts (eqb units 0) (not (may_have_length type units)) ends.0 in
    let some = eqb-false units 0 shape.0 in
    let within : 4 * units ≤ length after + 1 = ltb-false (length after + 1) (4 * units) ends.1 in
    let len = 4 * units - 2 in
    let more : 0 < length (drop len after) = omega (arith, length-drop len after, within, some) in
    record {
      units = units;
      spelled = ap (λ (o : List ℕ). units ∷ o) (sym (take-append-drop len after) ∙ ap (λ (o : List ℕ). take len after ++ o) (cons-first (drop len after) more));
      whole = omega (arith, length-take-le len after (omega (arith, within)), within, some);
      prescribed = not-false (may_have_length type units) shape.1;
      more = omega arith;
    }

joined : {A : Type 0} (b : Bool) (o : Option A) (x : A) → (b && is_some o) ≡ false → option_to_list (option_or o (cond b (Some x) None)) ≡ option_to_list o ++ option_to_list (cond b (Some x) None)
joined true None x one = refl
joined true (Some y) x one = absurd (cc one)
joined false None x one = refl
joined false (Some y) x one = refl

joined_either : {A : Type 0} (a b : Bool) (o : Option A) (x y : A) → ((a || b) && is_some o) ≡ false
    → option_to_list (option_or o (cond a (Some x) (cond b (Some y) None))) ≡ option_to_list o ++ option_to_list (cond a (Some x) (cond b (Some y) None))
joined_either true b None x y one = refl
joined_either true b (Some z) x y one = absurd (cc one)
joined_either false b o x y one = joined b o y one

joins : (type : ℕ) (content : List ℕ) (c : Option (List ℕ)) (n : Option PduNumber) → is_second c n type ≡ false → Joins type content c n (option_or c (container_of type content)) (option_or n (number_of type content))
joins type content c n one =
    let parts = or_parts (eqb type 0x84 && is_some c) ((eqb type 0xC0 || eqb type 0x82) && is_some n) one in
    record { container_is = joined (eqb type 0x84) c content parts.0; number_is = joined_either (eqb type 0xC0) (eqb type 0x82) n _ _ parts.1 }

-- ---- the extension headers from one on

abbrev AreRead : List ℕ → Result Parts GtpErr → Type 0
AreRead octets r = MatchResult r (λ x. AreExtensions (drop 11 octets) x.container x.number (0 ∷ x.body)) (HasExtensionFault octets)

reads_on : (headers : ℕ) (octets : List ℕ) (c : Option (List ℕ)) (n : Option PduNumber) (type : ℕ) (after : List ℕ) → length after < headers → AreExtensions (drop 11 octets) c n (type ∷ after) → AreRead octets (extensions_from headers (length octets) c n type after)
reads_on zero octets c n type after less before = absurd (omega arith)
reads_on (suc headers) octets c n type after less before =
    elim (cases_Bool (eqb type 0)) [
      | inl ended ↦ rw (ended, extensions_from) (subst (λ (t : ℕ). AreExtensions (drop 11 octets) c n (t ∷ after)) (eqb-true type 0 ended) before)
      | inr other ↦
          let not_0 = eqb-false type 0 other in
          let some : 0 < type = omega (arith, not_0) in
          elim (cases_Bool (is_unknown_required type)) [
            | inl unknown ↦ rw (other, unknown, extensions_from) (record { container = c; number = n; type = type; after = after; before = before; some = some; fault = rw unknown refl })
            | inr known ↦ elim (cases_Bool (is_misshapen type after || is_second c n type)) [
              | inl broken ↦ rw (other, known, broken, extensions_from) (record { container = c; number = n; type = type; after = after; before = before; some = some; fault = rw (known, broken) refl })
              | inr fine ↦
                  let parts = or_parts (is_misshapen type after) (is_second c n type) fine in
                  let content = content_of after in
                  let rest = behind after in
                  let step = extends type after content (get_or rest 0 0 ∷ drop 1 rest) c (option_or c (container_of type content)) n (option_or n (number_of type content)) some known (splits type after parts.0) (joins type content c n parts.1) in
                  rw (other, known, fine, extensions_from) (reads_on headers octets (option_or c (container_of type content)) (option_or n (number_of type content)) (get_or rest 0 0) (drop 1 rest) (omega (arith, step.1)) (step.2 (drop 11 octets) before))
            ]
          ]
    ]

-- ---- what stands behind the TEID

abbrev ArePartsRead : List ℕ → ℕ → Result Parts GtpErr → Type 0
ArePartsRead octets flags r =
    MatchResult r (λ x. IsAfterTeid flags x.container x.number x.body (drop 8 octets)) (λ e. (4 ≤ flags) × HasExtensionFault octets e)

parts_extended : (octets : List ℕ) (flags : ℕ) (r : Result Parts GtpErr) → 4 ≤ flags → 12 ≤ length octets → AreRead octets r → ArePartsRead octets flags r
parts_extended octets flags (Ok x) four long are = extended_at flags octets x.container x.number x.body four long are
parts_extended octets flags (Err e) four long fault = (four, fault)

parts_read : (octets : List ℕ) (flags : ℕ) → (0 < flags → 12 ≤ length octets) → ArePartsRead octets flags (parts_of octets flags)
parts_read octets flags numbers =
    elim (cases_Bool (eqb flags 0)) [
      | inl none ↦ rw (none, parts_of) (plain (eqb-true flags 0 none) refl refl refl)
      | inr other ↦
          let not_0 = eqb-false flags 0 other in
          let some : 0 < flags = omega (arith, not_0) in
          let long = numbers some in
          elim (cases_Bool (ltb flags 4)) [
            | inl less ↦
                let all : take (length octets - 12) (drop 12 octets) ≡ drop 12 octets = ap (λ n. take n (drop 12 octets)) (sym (length-drop 12 octets)) ∙ take-length (drop 12 octets) in
                rw (other, less, parts_of) (subst (λ (body : List ℕ). IsAfterTeid flags None None body (drop 8 octets)) all (sequenced_at flags octets some (ltb-true flags 4 less) long))
            | inr more ↦
                let four = ltb-false flags 4 more in
                let before : AreExtensions (drop 11 octets) None None (get_or octets 11 0 ∷ drop 12 octets) =
                record { headers = []; spelled = drop-cons octets 11 0 (omega (arith, long)); each = tt; one_container = refl; one_number = refl } in
                rw (other, more, parts_of) (parts_extended octets flags (extensions_from (length octets) (length octets) None None (get_or octets 11 0) (drop 12 octets)) four long (reads_on (length octets) octets None None (get_or octets 11 0) (drop 12 octets) (omega (arith, length-drop 12 octets, long)) before))
          ]
    ]

-- ---- the header

-- what the checks of the header say where all pass
record Checks (octets : List ℕ) : Type 0 where
  long : 8 ≤ length octets
  version : get_or octets 0 0 / 16 ≡ 3
  kind : is_none (kind_of (get_or octets 1 0)) ≡ false
  whole : 256 * get_or octets 2 0 + get_or octets 3 0 + 8 ≡ length octets
  numbers : 0 < get_or octets 0 0 % 8 → 12 ≤ length octets

passed : {A : Type 0} (b : Bool) (x : A) (o : Option A) → cond b (Some x) o ≡ None → (b ≡ false) × (o ≡ None)
passed true x o none = absurd (cc none)
passed false x o none = (refl, none)

there : (a b : ℕ) → (ltb 0 a && ltb b 12) ≡ false → 0 < a → 12 ≤ b
there a b e some = ltb-false b 12 (rw (lt-ltb 0 a some) at e)

checks : (octets : List ℕ) → header_fault octets ≡ None → Checks octets
checks octets none =
    let a = passed _ _ _ none in
    let b = passed _ _ _ a.1 in
    let c = passed _ _ _ b.1 in
    let d = passed _ _ _ c.1 in
    let e = passed _ _ _ d.1 in
    record {
      long = ltb-false (length octets) 8 a.0;
      version = eqb-true (get_or octets 0 0 / 16) 3 (not-false _ b.0);
      kind = c.0;
      whole = eqb-true (256 * get_or octets 2 0 + get_or octets 3 0 + 8) (length octets) (not-false _ d.0);
      numbers = there (get_or octets 0 0 % 8) (length octets) e.0;
    }

-- the message type of an octet
type_of : (n : ℕ) (kind : GtpKind) → kind_of n ≡ Some kind → message_type kind ≡ n
type_of n kind is =
    elim (cases_Bool (eqb n 255)) [
      | inl e ↦ let h = rw e at is in let k : GPdu ≡ kind = cc in sym (ap message_type k) ∙ sym (eqb-true n 255 e)
      | inr not_255 ↦ let is1 = rw not_255 at is in elim (cases_Bool (eqb n 254)) [
        | inl e ↦ let h = rw e at is1 in let k : EndMarker ≡ kind = cc in sym (ap message_type k) ∙ sym (eqb-true n 254 e)
        | inr not_254 ↦ let is2 = rw not_254 at is1 in elim (cases_Bool (eqb n 1)) [
          | inl e ↦ let h = rw e at is2 in let k : EchoRequest ≡ kind = cc in sym (ap message_type k) ∙ sym (eqb-true n 1 e)
          | inr not_1 ↦ let is3 = rw not_1 at is2 in elim (cases_Bool (eqb n 2)) [
            | inl e ↦ let h = rw e at is3 in let k : EchoResponse ≡ kind = cc in sym (ap message_type k) ∙ sym (eqb-true n 2 e)
            | inr not_2 ↦ let is4 = rw not_2 at is3 in elim (cases_Bool (eqb n 26)) [
              | inl e ↦ let h = rw e at is4 in let k : ErrorIndication ≡ kind = cc in sym (ap message_type k) ∙ sym (eqb-true n 26 e)
              | inr not_26 ↦ let h = rw not_26 at is4 in absurd (cc h)
            ]
          ]
        ]
      ]
    ]

-- the first octets are octets
abbrev pub AreOctets : List ℕ → Type 0
AreOctets octets = (i : ℕ) → i < 8 → get_or octets i 0 < 2 ^ 8

small_2 : (a b : ℕ) → a < 256 → b < 256 → (i : ℕ) → get_or (a ∷ b ∷ []) i 0 < 256
small_2 a b p q zero = p
small_2 a b p q (suc zero) = q
small_2 a b p q (suc (suc i)) = omega arith

small_4 : (a b c d : ℕ) → a < 256 → b < 256 → c < 256 → d < 256 → (i : ℕ) → get_or (a ∷ b ∷ c ∷ d ∷ []) i 0 < 256
small_4 a b c d p q r s zero = p
small_4 a b c d p q r s (suc zero) = q
small_4 a b c d p q r s (suc (suc i)) = small_2 c d r s i

has_header : (a b c d e f g h : ℕ) (after : List ℕ) (kind : GtpKind) → a / 16 ≡ 3 → message_type kind ≡ b → 256 * c + d ≡ length after → c < 256 → d < 256 → e < 256 → f < 256 → g < 256 → h < 256
    → HasHeader (a ∷ b ∷ c ∷ d ∷ e ∷ f ∷ g ∷ h ∷ after) a kind (from_be_bytes w32 (e ∷ f ∷ g ∷ h ∷ [])) after
has_header a b c d e f g h after kind version type whole c8 d8 e8 f8 g8 h8 =
    let teid = from_be_bytes w32 (e ∷ f ∷ g ∷ h ∷ []) in
    let len : to_be_bytes w16 (length after) ≡ c ∷ d ∷ [] = be_bytes_2 (c ∷ d ∷ []) (length after) refl (small_2 c d c8 d8) (omega arith) in
    let four : to_be_bytes w32 teid ≡ e ∷ f ∷ g ∷ h ∷ [] = be_bytes_4 (e ∷ f ∷ g ∷ h ∷ []) teid refl (small_4 e f g h e8 f8 g8 h8) refl in
    record {
      spelled = ap (λ (t : ℕ). a ∷ t ∷ c ∷ d ∷ e ∷ f ∷ g ∷ h ∷ after) (sym type) ∙ (ap (λ (o : List ℕ). a ∷ message_type kind ∷ o ++ (e ∷ f ∷ g ∷ h ∷ []) ++ after) (sym len) ∙ ap (λ (o : List ℕ). a ∷ message_type kind ∷ to_be_bytes w16 (length after) ++ o ++ after) (sym four));
      version = version;
      fits = omega arith;
      short = omega arith;
    }

header_read : (octets : List ℕ) (kind : GtpKind) → AreOctets octets → header_fault octets ≡ None → kind_of (get_or octets 1 0) ≡ Some kind
    → HasHeader octets (get_or octets 0 0) kind (from_be_bytes w32 (take 4 (drop 4 octets))) (drop 8 octets)
header_read [] kind small none is = absurd (cc none)
header_read (a ∷ []) kind small none is = absurd (cc none)
header_read (a ∷ b ∷ []) kind small none is = absurd (cc none)
header_read (a ∷ b ∷ c ∷ []) kind small none is = absurd (cc none)
header_read (a ∷ b ∷ c ∷ d ∷ []) kind small none is = absurd (cc none)
header_read (a ∷ b ∷ c ∷ d ∷ e ∷ []) kind small none is = absurd (cc none)
header_read (a ∷ b ∷ c ∷ d ∷ e ∷ f ∷ []) kind small none is = absurd (cc none)
header_read (a ∷ b ∷ c ∷ d ∷ e ∷ f ∷ g ∷ []) kind small none is = absurd (cc none)
header_read (a ∷ b ∷ c ∷ d ∷ e ∷ f ∷ g ∷ h ∷ after) kind small none is =
    let fine = checks (a ∷ b ∷ c ∷ d ∷ e ∷ f ∷ g ∷ h ∷ after) none in
    has_header a b c d e f g h after kind fine.version (type_of b kind is) (omega (arith, fine.whole)) (small 2 (omega arith)) (small 3 (omega arith)) (small 4 (omega arith)) (small 5 (omega arith)) (small 6 (omega arith)) (small 7 (omega arith))

-- ---- all of it

abbrev pub IsRead : List ℕ → Result Content GtpErr → Type 0
IsRead octets r = MatchResult r (λ p. IsPacket p octets) (HasFault octets)

of_parts : (octets : List ℕ) (kind : GtpKind) (teid : ℕ) (r : Result Parts GtpErr) → header_fault octets ≡ None → HasHeader octets (get_or octets 0 0) kind teid (drop 8 octets) → ArePartsRead octets (get_or octets 0 0 % 8) r → IsRead octets (with_parts kind teid r)
of_parts octets kind teid (Ok x) none header are = record { first = get_or octets 0 0; after = drop 8 octets; header = header; parts = are }
of_parts octets kind teid (Err e) none header fault = inr (none, fault.0, fault.1)

of_kind_read : (octets : List ℕ) (k : Option GtpKind) → AreOctets octets → header_fault octets ≡ None → kind_of (get_or octets 1 0) ≡ k → IsRead octets (of_kind octets k)
of_kind_read octets None small none is =
    let known = (checks octets none).kind in
    let unknown : is_none (kind_of (get_or octets 1 0)) ≡ true = ap is_none is in
    absurd (both_ways _ known unknown)
of_kind_read octets (Some kind) small none is =
    of_parts octets kind (from_be_bytes w32 (take 4 (drop 4 octets))) (parts_of octets (get_or octets 0 0 % 8)) none (header_read octets kind small none is) (parts_read octets (get_or octets 0 0 % 8) (checks octets none).numbers)

behind_read : (octets : List ℕ) (f : Option GtpErr) → AreOctets octets → header_fault octets ≡ f → IsRead octets (behind_checks octets f)
behind_read octets (Some e) small is = inl is
behind_read octets None small is = of_kind_read octets (kind_of (get_or octets 1 0)) small is refl

-- octets are read as a packet that they are, or as a fault that they have
pub is_read : (octets : List ℕ) → AreOctets octets → IsRead octets (decoded octets)
unfolding decoded
is_read octets small = behind_read octets (header_fault octets) small refl

the_packet : (octets : List ℕ) (r : Result Content GtpErr) (p : Content) → IsRead octets r → IsPacket p octets → r ≡ Ok p
the_packet octets (Ok q) p read is = ap (λ (x : Content). Ok x) (one_packet q p octets read is)
the_packet octets (Err e) p read is = absurd (no_fault p octets e is read)

the_fault : (octets : List ℕ) (r : Result Content GtpErr) (e : GtpErr) → IsRead octets r → HasFault octets e → r ≡ Err e
the_fault octets (Ok q) e read fault = absurd (no_fault q octets e read fault)
the_fault octets (Err f) e read fault = ap (λ (x : GtpErr). Err x) (one_fault octets f e read fault)

small_4_before : (a b c d : ℕ) (after : List ℕ) → a < 256 → b < 256 → c < 256 → d < 256 → (i : ℕ) → i < 4 → get_or (a ∷ b ∷ c ∷ d ∷ after) i 0 < 256
small_4_before a b c d after p q r s zero less = p
small_4_before a b c d after p q r s (suc zero) less = q
small_4_before a b c d after p q r s (suc (suc zero)) less = r
small_4_before a b c d after p q r s (suc (suc (suc zero))) less = s
small_4_before a b c d after p q r s (suc (suc (suc (suc i)))) less = absurd (omega arith)

small_8 : (a b c d e f g h : ℕ) (after : List ℕ) → a < 256 → b < 256 → c < 256 → d < 256 → e < 256 → f < 256 → g < 256 → h < 256 → AreOctets (a ∷ b ∷ c ∷ d ∷ e ∷ f ∷ g ∷ h ∷ after)
small_8 a b c d e f g h after a8 b8 c8 d8 e8 f8 g8 h8 zero less = a8
small_8 a b c d e f g h after a8 b8 c8 d8 e8 f8 g8 h8 (suc zero) less = b8
small_8 a b c d e f g h after a8 b8 c8 d8 e8 f8 g8 h8 (suc (suc zero)) less = c8
small_8 a b c d e f g h after a8 b8 c8 d8 e8 f8 g8 h8 (suc (suc (suc zero))) less = d8
small_8 a b c d e f g h after a8 b8 c8 d8 e8 f8 g8 h8 (suc (suc (suc (suc i)))) less = small_4_before e f g h after e8 f8 g8 h8 i (omega arith)

type_small : (kind : GtpKind) → message_type kind < 256
type_small GPdu = omega arith
type_small EndMarker = omega arith
type_small EchoRequest = omega arith
type_small EchoResponse = omega arith
type_small ErrorIndication = omega arith

-- the first octets of a packet are octets
octets_of_header : (first : ℕ) (kind : GtpKind) (teid : ℕ) (after : List ℕ) → first / 16 ≡ 3 → AreOctets (first ∷ message_type kind ∷ to_be_bytes w16 (length after) ++ to_be_bytes w32 teid ++ after)
octets_of_header first kind teid after version =
    small_8 _ _ _ _ _ _ _ _ after (omega (arith, version)) (type_small kind) (omega arith) (omega arith) (omega arith) (omega arith) (omega arith) (omega arith)

-- a packet is read as that packet
pub packet_is_read : (octets : List ℕ) (p : Content) → IsPacket p octets → decoded octets ≡ Ok p
packet_is_read octets p is =
    let small = subst AreOctets (sym is.header.spelled) (octets_of_header is.first p.kind p.teid is.after is.header.version) in
    the_packet octets (decoded octets) p (is_read octets small) is

-- what is read as a packet is that packet
pub read_is_packet : (octets : List ℕ) (p : Content) → AreOctets octets → decoded octets ≡ Ok p → IsPacket p octets
read_is_packet octets p small is = subst (IsRead octets) is (is_read octets small)

-- octets are read as their first fault
pub fault_is_read : (octets : List ℕ) (e : GtpErr) → AreOctets octets → HasFault octets e → decoded octets ≡ Err e
fault_is_read octets e small fault = the_fault octets (decoded octets) e (is_read octets small) fault

-- what a decoder returned is what is read
pub outcome_is_read : (octets : List ℕ) (r : Result Packet GtpErr) → AreOctets octets → MatchResult r (λ p. IsPacket (view p) octets) (HasFault octets) → outcome r ≡ decoded octets
outcome_is_read octets (Ok q) small is = sym (packet_is_read octets (view q) is)
outcome_is_read octets (Err e) small fault = sym (fault_is_read octets e small fault)
