-- What is written is a packet that says what was to be written.
use Rattle.std.proofs.Common.{◌≡◌, ℕ, ◌+◌, ◌/◌, ◌^◌, ◌<◌, ◌≤◌, List, [], ◌∷◌, ◌++◌, length, Option, Some, None, refl, sym, ap, subst, ◌∙◌, append_assoc, arith, length-append}
use Rattle.std.specs.Prelude.{IfSome}
use Rattle.std.specs.Option.{option_to_list}
use Rattle.std.specs.Int.{w16, w32, to_be_bytes}
use Rattle.std.specs.List.{flat_map, AllByRecursion}
use Rattle.std.proofs.lemmas.List.{append-nil}
use Rattle.std.proofs.lemmas.List.Elements.{filter_map-append}
use Rattle.gtpu.specs.declared.packet.GtpKind.{GtpKind}
use Rattle.gtpu.specs.declared.packet.PduNumber.{PduNumber}
use Rattle.gtpu.specs.declared.packet.PduNumber.TheVariants.{Short, Long}
use Rattle.gtpu.specs.Content.{Content, message_type}
use Rattle.gtpu.specs.Extension.{octets_of, IsExtension, container_of, number_of, containers, numbers, AreExtensions}
use Rattle.gtpu.specs.Grammar.{IsAfterTeid, plain, extended, HasHeader, IsPacket}
use Rattle.gtpu.specs.Spelling.{container_header, number_header, extensions, spelling, IsContainer, FitsLong, FitsShort}
use Rattle.gtpu.proofs.Headers.{each-append}

container_each : (c : Option (List ℕ)) → IfSome c IsContainer → AllByRecursion IsExtension (container_header c)
container_each None h = tt
container_each (Some content) h = (record { some = omega arith; understood = refl; whole = omega (arith, h.0); prescribed = refl }, tt)

number_each : (n : Option PduNumber) → AllByRecursion IsExtension (number_header n)
number_each None = tt
number_each (Some (Short n)) = (record { some = omega arith; understood = refl; whole = refl; prescribed = refl }, tt)
number_each (Some (Long n)) = (record { some = omega arith; understood = refl; whole = refl; prescribed = refl }, tt)

container_read : (c : Option (List ℕ)) → containers (container_header c) ≡ option_to_list c
container_read None = refl
container_read (Some content) = refl

no_container : (n : Option PduNumber) → containers (number_header n) ≡ []
no_container None = refl
no_container (Some (Short n)) = refl
no_container (Some (Long n)) = refl

no_number : (c : Option (List ℕ)) → numbers (container_header c) ≡ []
no_number None = refl
no_number (Some content) = refl

number_read : (n : Option PduNumber) → IfSome n FitsShort → IfSome n FitsLong → numbers (number_header n) ≡ option_to_list n
number_read None short long = refl
number_read (Some (Short n)) short long = ap (λ m. Short m ∷ []) (omega (arith, short))
number_read (Some (Long n)) short long = ap (λ m. Long m ∷ []) (omega (arith, long))

headers_read : (c : Option (List ℕ)) (n : Option PduNumber) (body : List ℕ) → IfSome c IsContainer → IfSome n FitsShort → IfSome n FitsLong → AreExtensions (flat_map octets_of (container_header c ++ number_header n) ++ 0 ∷ body) c n (0 ∷ body)
headers_read c n body fits short long =
    record {
      headers = container_header c ++ number_header n;
      spelled = refl;
      each = each-append IsExtension (container_header c) (number_header n) (container_each c fits) (number_each n);
      one_container = filter_map-append (λ x. container_of x.type x.content) (container_header c) (number_header n) ∙ (ap (λ (xs : List (List ℕ)). containers (container_header c) ++ xs) (no_container n) ∙ (append-nil (containers (container_header c)) ∙ container_read c));
      one_number = filter_map-append (λ x. number_of x.type x.content) (container_header c) (number_header n) ∙ (ap (λ (xs : List PduNumber). xs ++ numbers (number_header n)) (no_number c) ∙ number_read n short long);
    }

extended_read : (flags : ℕ) (c : Option (List ℕ)) (n : Option PduNumber) (body : List ℕ) → 4 ≤ flags → IfSome c IsContainer → IfSome n FitsShort → IfSome n FitsLong → IsAfterTeid flags c n body ((0 ∷ 0 ∷ 0 ∷ flat_map octets_of (container_header c ++ number_header n) ++ 0 ∷ []) ++ body)
extended_read flags c n body four fits short long =
    extended four 0 0 0 _ (ap (λ (o : List ℕ). 0 ∷ 0 ∷ 0 ∷ o) (append_assoc (flat_map octets_of (container_header c ++ number_header n)) (0 ∷ []) body)) (headers_read c n body fits short long)

-- the octets before the extension headers
header_read : (first : ℕ) (kind : GtpKind) (teid : ℕ) (between body : List ℕ) → first / 16 ≡ 3 → teid < 2 ^ 32 → length between + length body < 2 ^ 16
    → HasHeader (first ∷ message_type kind ∷ to_be_bytes w16 (length between + length body) ++ to_be_bytes w32 teid ++ between ++ body) first kind teid (between ++ body)
header_read first kind teid between body version fits short =
    let len = length-append between body in
    let front : ℕ → List ℕ = λ n. first ∷ message_type kind ∷ to_be_bytes w16 n ++ to_be_bytes w32 teid in
    record {
      spelled = append_assoc (front (length between + length body)) between body ∙ ap (λ n. front n ++ (between ++ body)) (sym len);
      version = version;
      fits = fits;
      short = omega (arith, len);
    }

again : (kind : GtpKind) (teid : ℕ) (c : Option (List ℕ)) (n : Option PduNumber) (body : List ℕ) → let p : Content = record { kind = kind; teid = teid; container = c; number = n; body = body } in
    teid < 2 ^ 32 → length (extensions p) + length body < 2 ^ 16 → IfSome c IsContainer → IfSome n FitsShort → IfSome n FitsLong → IsPacket p (spelling p)
again kind teid None None body in_range size fits short long =
    record { first = 0x30; after = body; header = header_read 0x30 kind teid [] body refl in_range size; parts = plain refl refl refl refl }
again kind teid None (Some n) body in_range size fits short long =
    let between : List ℕ = 0 ∷ 0 ∷ 0 ∷ flat_map octets_of (container_header None ++ number_header (Some n)) ++ 0 ∷ [] in
    record { first = 0x34; after = between ++ body; header = header_read 0x34 kind teid between body refl in_range size; parts = extended_read 4 None (Some n) body (omega arith) fits short long }
again kind teid (Some c) n body in_range size fits short long =
    let between : List ℕ = 0 ∷ 0 ∷ 0 ∷ flat_map octets_of (container_header (Some c) ++ number_header n) ++ 0 ∷ [] in
    record { first = 0x34; after = between ++ body; header = header_read 0x34 kind teid between body refl in_range size; parts = extended_read 4 (Some c) n body (omega arith) fits short long }

-- what is spelled so is the packet
pub read_again : (p : Content) (octets : List ℕ) → octets ≡ spelling p → p.teid < 2 ^ 32 → length (extensions p) + length p.body < 2 ^ 16 → IfSome p.container IsContainer → IfSome p.number FitsShort → IfSome p.number FitsLong → IsPacket p octets
read_again p octets is in_range size fits short long =
    subst (IsPacket p) (sym is) (again p.kind p.teid p.container p.number p.body in_range size fits short long)
