-- What octets are read as, and the grammar.
use Rattle.std.proofs.Common.{ℕ, suc, ◌≡◌, ◌+◌, ◌-◌, ◌*◌, ◌/◌, ◌%◌, ◌^◌, ◌<◌, ◌≤◌, ◌==◌, ltb, leb, true, List, [], ◌∷◌, ◌++◌, Result, Ok, Err, Option, Some, None, IfOk, IfErr, length, drop, get_or, refl, sym, ap, ◌∙◌, subst, arith, inl, inr}
use Rattle.std.proofs.lemmas.Bool.{ltb-true, ltb-false, leb-true, leb-false, cases_Bool, or_right, or_cases, cases_lt}
use Rattle.std.proofs.lemmas.Bool.Decides.{nat_tests}
use Rattle.dc_base.specs.declared.numbers.SnLen.{SnLen}
use Rattle.dc_base.specs.declared.numbers.SnLen.TheVariants.{S12, S18}
use Rattle.dc_base.specs.Count.{modulus}
use Rattle.pdcp_pdu.specs.declared.pdu.Pdu.{Pdu}
use Rattle.pdcp_pdu.specs.declared.pdu.PduErr.{PduErr}
use Rattle.pdcp_pdu.specs.declared.pdu.PduErr.TheVariants.{Short, TooLong, ControlKind}
use Rattle.pdcp_pdu.specs.DataPdu.{IsBytes, IsPayload, IsDataPdu, header, header_len, reserved}
use Rattle.pdcp_pdu.specs.Pdu.{Content, sdu, report, IsPdu, shown_sn, shown_fmc, read_data, read_report, judged, decoded, content, outcome, IsBadAt}
use Rattle.pdcp_pdu.specs.Bitmap.{names, is_shown}
use Rattle.pdcp_pdu.specs.StatusReport.{report_header, IsStatusReport, first_beyond}
use Rattle.pdcp_pdu.proofs.Bits.{none_beyond, some_beyond}

-- how many COUNTs lie above this one
abbrev pub room_above : ℕ → ℕ
room_above fmc = 2 ^ 32 - 1 - fmc

pub same_cells : (a b c d : ℕ) (xs : List ℕ) → a ≡ c → b ≡ d → a ∷ b ∷ xs ≡ c ∷ d ∷ xs
same_cells a b c d xs e f = cc

-- ---- data PDUs

pub decoded_data : (n : SnLen) (octets : List ℕ) → 128 ≤ get_or octets 0 0 → decoded n octets ≡ read_data n octets
unfolding decoded
decoded_data n [] first = absurd (omega arith)
decoded_data n (x ∷ xs) first = grind (arith, nat_tests)

pub read_data_whole : (n : SnLen) (octets : List ℕ) → header_len n + 1 ≤ length octets → length octets ≤ header_len n + 9000
    → read_data n octets ≡ Ok (sdu (shown_sn n octets) (drop (header_len n) octets))
unfolding read_data
read_data_whole n octets least most = grind (arith, nat_tests)

-- what the cells of a header show
header_shows : (n : SnLen) (r sn : ℕ) (body : List ℕ) → sn < modulus n → shown_sn n (header n r sn ++ body) ≡ sn
unfolding modulus
header_shows S12 r sn body small = omega arith
header_shows S18 r sn body small = omega arith

header_first : (n : SnLen) (r sn : ℕ) (body : List ℕ) → 128 ≤ get_or (header n r sn ++ body) 0 0
header_first S12 r sn body = omega arith
header_first S18 r sn body = omega arith

length-header : (n : SnLen) (r sn : ℕ) (body : List ℕ) → length (header n r sn ++ body) ≡ header_len n + length body
length-header S12 r sn body = omega arith
length-header S18 r sn body = omega arith

drop-header : (n : SnLen) (r sn : ℕ) (body : List ℕ) → drop (header_len n) (header n r sn ++ body) ≡ body
drop-header S12 r sn body = refl
drop-header S18 r sn body = refl

pub data_again : (n : SnLen) (r sn : ℕ) (body : List ℕ) → sn < modulus n → 1 ≤ length body → length body ≤ 9000 → decoded n (header n r sn ++ body) ≡ Ok (sdu sn body)
data_again n r sn body small some most =
    let octets = header n r sn ++ body in
    let len = length-header n r sn body in
    let whole : read_data n octets ≡ Ok (sdu (shown_sn n octets) (drop (header_len n) octets)) = read_data_whole n octets (omega arith) (omega arith) in
    decoded_data n octets (header_first n r sn body) ∙ whole ∙ ap (λ (s : ℕ). Ok (sdu s (drop (header_len n) octets))) (header_shows n r sn body small)
    ∙ ap (λ (b : List ℕ). Ok (sdu sn b)) (drop-header n r sn body)

pub data_pdu_is : (n : SnLen) (sn : ℕ) (body octets : List ℕ) → octets ≡ header n 0 sn ++ body → sn < modulus n → IsPayload body → IsDataPdu n sn body octets
data_pdu_is n sn body octets is small payload = record { small = small; payload = payload; r = 0; r_small = none n; spelled = is }
  where
    none : (n : SnLen) → 0 < reserved n
    none S12 = omega arith
    none S18 = omega arith

-- a sequence number by its length
pub small_12 : (n : SnLen) (sn : ℕ) → n ≡ S12 → sn < modulus n → sn < 4096
unfolding modulus
small_12 S12 sn e small = omega arith
small_12 S18 sn e small = absurd cc

pub small_18 : (n : SnLen) (sn : ℕ) → n ≡ S18 → sn < modulus n → sn < 262144
unfolding modulus
small_18 S12 sn e small = absurd cc
small_18 S18 sn e small = omega arith

-- the header that octets begin with, where they are long enough and begin with D/C bit 1
data_spelled : (n : SnLen) (octets : List ℕ) → IsBytes octets → 128 ≤ get_or octets 0 0 → header_len n + 1 ≤ length octets → length octets ≤ header_len n + 9000
    → IsDataPdu n (shown_sn n octets) (drop (header_len n) octets) octets
unfolding modulus
data_spelled S12 [] bytes first least most = absurd (omega arith)
data_spelled S12 (a ∷ []) bytes first least most = absurd (omega arith)
data_spelled S12 (a ∷ b ∷ body) bytes first least most =
    let a_small : a < 256 = bytes 0 in
    let b_small : b < 256 = bytes 1 in
    record {
      small = omega arith;
      payload = record { some = omega arith; most = omega arith; bytes = λ i. bytes (suc (suc i)) };
      r = (a - 128) / 16;
      r_small = omega arith;
      spelled = same_cells a b (128 + 16 * ((a - 128) / 16) + (a % 16 * 256 + b) / 256) ((a % 16 * 256 + b) % 256) body (omega arith) (omega arith);
    }
data_spelled S18 [] bytes first least most = absurd (omega arith)
data_spelled S18 (a ∷ []) bytes first least most = absurd (omega arith)
data_spelled S18 (a ∷ b ∷ []) bytes first least most = absurd (omega arith)
data_spelled S18 (a ∷ b ∷ d ∷ body) bytes first least most =
    let a_small : a < 256 = bytes 0 in
    let b_small : b < 256 = bytes 1 in
    let d_small : d < 256 = bytes 2 in
    let sn = a % 4 * 65536 + b * 256 + d in
    let last : d ≡ sn % 256 = omega arith in
    record {
      small = omega arith;
      payload = record { some = omega arith; most = omega arith; bytes = λ i. bytes (suc (suc (suc i))) };
      r = (a - 128) / 4;
      r_small = omega arith;
      spelled = same_cells a b (128 + 4 * ((a - 128) / 4) + sn / 65536) (sn / 256 % 256) (d ∷ body) (omega arith) (omega arith)
          ∙ ap (λ (x : ℕ). (128 + 4 * ((a - 128) / 4) + sn / 65536) ∷ (sn / 256 % 256) ∷ x ∷ body) last;
    }

module _ (Q : Result Content PduErr → Type 0) where
  -- the checks of a data PDU, one after another
  pub read_data_cases : (n : SnLen) (octets : List ℕ) → Q (Err (Short (length octets))) → Q (Err (TooLong (header_len n + 9000)))
      → (header_len n + 1 ≤ length octets → length octets ≤ header_len n + 9000 → Q (Ok (sdu (shown_sn n octets) (drop (header_len n) octets)))) → Q (read_data n octets)
  unfolding read_data
  read_data_cases n octets short long whole =
      elim (cases_Bool (ltb (length octets) (header_len n + 1))) [
        | inl yes' ↦ rw yes' short
        | inr no' ↦ rw no' (elim (cases_Bool (ltb (header_len n + 9000) (length octets))) [
          | inl yes'' ↦ rw yes'' long
          | inr no'' ↦ rw no'' (whole (ltb-false _ _ no') (ltb-false _ _ no''))
        ])
      ]

  -- the checks of a status report, one after another
  pub read_report_cases : (octets : List ℕ) → Q (Err (Short (length octets))) → Q (Err (TooLong 9000))
      → (5 ≤ length octets → length octets ≤ 9000 → (found : Option ℕ) → first_beyond (room_above (shown_fmc octets)) (drop 5 octets) ≡ found → Q (judged (shown_fmc octets) (drop 5 octets) found))
      → Q (read_report octets)
  unfolding read_report
  read_report_cases octets short long whole =
      elim (cases_Bool (ltb (length octets) 5)) [
        | inl yes' ↦ rw yes' short
        | inr no' ↦ rw no' (elim (cases_Bool (ltb 9000 (length octets))) [
          | inl yes'' ↦ rw yes'' long
          | inr no'' ↦ rw no'' (whole (ltb-false _ _ no') (ltb-false _ _ no'') (first_beyond (room_above (shown_fmc octets)) (drop 5 octets)) refl)
        ])
      ]

  -- the checks of a PDU, one after another
  pub decoded_cases : (n : SnLen) (octets : List ℕ) → Q (Err (Short 0)) → (128 ≤ get_or octets 0 0 → Q (read_data n octets)) → Q (Err (ControlKind 0))
      → (get_or octets 0 0 < 16 → Q (read_report octets)) → Q (decoded n octets)
  unfolding decoded
  decoded_cases n octets none data_case other report_case =
      elim (cases_Bool (length octets == 0)) [
        | inl yes' ↦ rw yes' none
        | inr no' ↦ rw no' (elim (cases_Bool (leb 128 (get_or octets 0 0))) [
          | inl data' ↦ rw data' (data_case (leb-true _ _ data'))
          | inr control ↦ rw control (elim (cases_Bool (leb 16 (get_or octets 0 0))) [
            | inl other' ↦ rw other' other
            | inr report' ↦ rw report' (report_case (leb-false _ _ report'))
          ])
        ])
      ]

pub data_finds : (n : SnLen) (octets : List ℕ) (said : Content) → IsBytes octets → 128 ≤ get_or octets 0 0 → read_data n octets ≡ Ok said → IsPdu n said octets
data_finds n octets said bytes first =
    read_data_cases (λ r. r ≡ Ok said → IsPdu n said octets) n octets (λ e. absurd (cc (e))) (λ e. absurd (cc (e)))
    (λ least most e. let same : sdu (shown_sn n octets) (drop (header_len n) octets) ≡ said = cc (e) in
    subst (λ s. IsPdu n s octets) same (data_spelled n octets bytes first least most))

-- ---- status reports

pub decoded_report : (n : SnLen) (octets : List ℕ) → 1 ≤ length octets → get_or octets 0 0 < 16 → decoded n octets ≡ read_report octets
unfolding decoded
decoded_report n octets some first = grind (arith, nat_tests)

pub read_report_whole : (octets : List ℕ) → 5 ≤ length octets → length octets ≤ 9000
    → read_report octets ≡ judged (shown_fmc octets) (drop 5 octets) (first_beyond (room_above (shown_fmc octets)) (drop 5 octets))
unfolding read_report
read_report_whole octets least most = grind (arith, nat_tests)

fmc_shows : (r fmc : ℕ) (bits : List ℕ) → fmc < 2 ^ 32 → shown_fmc (report_header r fmc ++ bits) ≡ fmc
fmc_shows r fmc bits small = omega arith

-- a bit that is 1 names a COUNT
named_by_bit : (fmc : ℕ) (bits : List ℕ) (b : ℕ) → is_shown bits (suc b) ≡ true → names fmc bits (fmc + suc b) ≡ true
named_by_bit fmc bits b shown =
    let back : fmc + suc b - fmc ≡ suc b = omega arith in
    or_right _ _ (ap (λ (k : ℕ). is_shown bits k) back ∙ shown)

-- a bitmap that names COUNTs alone has no octet beyond
all_inside : (fmc : ℕ) (bits : List ℕ) → ((c : ℕ) → names fmc bits c ≡ true → c < 2 ^ 32) → (found : Option ℕ) → first_beyond (room_above fmc) bits ≡ found → found ≡ None
all_inside fmc bits counts None is = refl
all_inside fmc bits counts (Some i) is =
    let past = some_beyond (room_above fmc) bits i is in
    let out = past.beyond in
    let inside = counts (fmc + suc past.bit) (named_by_bit fmc bits past.bit past.shown) in
    absurd (omega arith)

pub report_again : (n : SnLen) (r fmc : ℕ) (bits : List ℕ) → fmc < 2 ^ 32 → r < 16 → length bits ≤ 8995 → ((c : ℕ) → names fmc bits c ≡ true → c < 2 ^ 32)
    → decoded n (report_header r fmc ++ bits) ≡ Ok (report fmc bits)
report_again n r fmc bits small few most counts =
    let octets = report_header r fmc ++ bits in
    let clear = all_inside fmc bits counts (first_beyond (room_above fmc) bits) refl in
    decoded_report n octets (omega arith) few ∙ read_report_whole octets (omega arith) (omega arith)
    ∙ ap (λ (f : ℕ). judged f bits (first_beyond (room_above f) bits)) (fmc_shows r fmc bits small) ∙ ap (judged fmc bits) clear

-- a bitmap without an octet beyond names COUNTs alone
named_inside : (fmc : ℕ) (bits : List ℕ) → first_beyond (room_above fmc) bits ≡ None → (c : ℕ) → names fmc bits c ≡ true → fmc < 2 ^ 32 → c < 2 ^ 32
named_inside fmc bits clear c named small =
    elim (cases_lt fmc c) [
      | inl above ↦
          let k : ℕ = c - fmc - 1 in
          let is : c - fmc ≡ suc k = omega arith in
          elim (or_cases _ _ named) [
            | inl below ↦ let less : c < fmc = ltb-true _ _ below in absurd (omega arith)
            | inr shown ↦
                let inside = none_beyond (room_above fmc) bits clear k (ap (λ (j : ℕ). is_shown bits j) (sym is) ∙ shown) in
                omega arith
          ]
      | inr at_most ↦ omega arith
    ]

report_spelled : (octets : List ℕ) → IsBytes octets → get_or octets 0 0 < 16 → 5 ≤ length octets → length octets ≤ 9000
    → first_beyond (room_above (shown_fmc octets)) (drop 5 octets) ≡ None → IsStatusReport (shown_fmc octets) (drop 5 octets) octets
report_spelled [] bytes first least most clear = absurd (omega arith)
report_spelled (a ∷ []) bytes first least most clear = absurd (omega arith)
report_spelled (a ∷ b ∷ []) bytes first least most clear = absurd (omega arith)
report_spelled (a ∷ b ∷ c ∷ []) bytes first least most clear = absurd (omega arith)
report_spelled (a ∷ b ∷ c ∷ d ∷ []) bytes first least most clear = absurd (omega arith)
report_spelled (a ∷ b ∷ c ∷ d ∷ e ∷ bits) bytes first least most clear =
    let b_small : b < 256 = bytes 1 in
    let c_small : c < 256 = bytes 2 in
    let d_small : d < 256 = bytes 3 in
    let e_small : e < 256 = bytes 4 in
    let fmc = b * 16777216 + c * 65536 + d * 256 + e in
    let b_is : b ≡ fmc / 16777216 = omega arith in
    let c_is : c ≡ fmc / 65536 % 256 = omega arith in
    let d_is : d ≡ fmc / 256 % 256 = omega arith in
    let e_is : e ≡ fmc % 256 = omega arith in
    record {
      fmc_small = omega arith;
      most = omega arith;
      counts = λ k named. named_inside fmc bits clear k named (omega arith);
      r = a;
      r_small = first;
      spelled = ap (λ (xs : List ℕ). a ∷ xs) (same_cells b c (fmc / 16777216) (fmc / 65536 % 256) (d ∷ e ∷ bits) b_is c_is
          ∙ ap (λ (xs : List ℕ). (fmc / 16777216) ∷ (fmc / 65536 % 256) ∷ xs) (same_cells d e (fmc / 256 % 256) (fmc % 256) bits d_is e_is));
    }

-- ---- what octets are read as is a PDU of the grammar, and a PDU of the grammar is read

pub report_finds : (n : SnLen) (octets : List ℕ) (said : Content) → IsBytes octets → get_or octets 0 0 < 16 → read_report octets ≡ Ok said → IsPdu n said octets
report_finds n octets said bytes first =
    read_report_cases (λ r. r ≡ Ok said → IsPdu n said octets) octets (λ e. absurd (cc (e))) (λ e. absurd (cc (e))) (good n octets said bytes first)
  where
    good : (n : SnLen) (octets : List ℕ) (said : Content) → IsBytes octets → get_or octets 0 0 < 16 → 5 ≤ length octets → length octets ≤ 9000
        → (found : Option ℕ) → first_beyond (room_above (shown_fmc octets)) (drop 5 octets) ≡ found → judged (shown_fmc octets) (drop 5 octets) found ≡ Ok said → IsPdu n said octets
    good n octets said bytes first least most None clear e =
        let same : report (shown_fmc octets) (drop 5 octets) ≡ said = cc (e) in
        subst (λ s. IsPdu n s octets) same (report_spelled octets bytes first least most clear)
    good n octets said bytes first least most (Some i) clear e = absurd (cc (e))

pub decoded_finds : (n : SnLen) (octets : List ℕ) (said : Content) → IsBytes octets → decoded n octets ≡ Ok said → IsPdu n said octets
decoded_finds n octets said bytes =
    decoded_cases (λ r. r ≡ Ok said → IsPdu n said octets) n octets (λ e. absurd (cc (e))) (data_finds n octets said bytes) (λ e. absurd (cc (e))) (report_finds n octets said bytes)

pub decoded_again : (n : SnLen) (octets : List ℕ) (said : Content) → IsPdu n said octets → decoded n octets ≡ Ok said
decoded_again n octets (sdu sn body) pdu = rw pdu.spelled (data_again n pdu.r sn body pdu.small pdu.payload.some pdu.payload.most)
decoded_again n octets (report fmc bits) pdu = rw pdu.spelled (report_again n pdu.r fmc bits pdu.fmc_small pdu.r_small pdu.most pdu.counts)

-- ---- where a bad report is bad

pub bad_at : (n : SnLen) (octets : List ℕ) (fault : PduErr) → decoded n octets ≡ Err fault → IsBadAt octets fault
bad_at n octets fault =
    decoded_cases (λ r. r ≡ Err fault → IsBadAt octets fault) n octets (λ e. subst (IsBadAt octets) (faults e) tt)
    (λ _. read_data_cases (λ r. r ≡ Err fault → IsBadAt octets fault) n octets (λ e. subst (IsBadAt octets) (faults e) tt) (λ e. subst (IsBadAt octets) (faults e) tt) (λ _ _ e. absurd (cc (e))))
    (λ e. subst (IsBadAt octets) (faults e) tt)
    (λ _. read_report_cases (λ r. r ≡ Err fault → IsBadAt octets fault) octets (λ e. subst (IsBadAt octets) (faults e) tt) (λ e. subst (IsBadAt octets) (faults e) tt)
    (λ _ _ found is e. bad octets fault found is e))
  where
    faults : {x y : PduErr} → ◌≡◌ {A = Result Content PduErr} (Err x) (Err y) → x ≡ y
    faults e = cc (e)

    bad : (octets : List ℕ) (fault : PduErr) (found : Option ℕ) → first_beyond (room_above (shown_fmc octets)) (drop 5 octets) ≡ found
        → judged (shown_fmc octets) (drop 5 octets) found ≡ Err fault → IsBadAt octets fault
    bad octets fault None is e = absurd (cc (e))
    bad octets fault (Some i) is e =
        let past = some_beyond (room_above (shown_fmc octets)) (drop 5 octets) i is in
        let out = past.beyond in
        subst (IsBadAt octets) (faults e) (
          i,
          refl,
          record {
            bit = past.bit;
            here = past.here;
            shown = past.shown;
            beyond = omega arith;
            first = λ b shown above. past.first b shown (omega arith);
          },
        )

-- ---- what a decoder returned

pub result_finds : (n : SnLen) (octets : List ℕ) (result : Result Pdu PduErr) → IsBytes octets → outcome result ≡ decoded n octets → IfOk result (λ pdu. IsPdu n (content pdu) octets)
result_finds n octets (Ok pdu) bytes is = decoded_finds n octets (content pdu) bytes (sym is)
result_finds n octets (Err e) bytes is = tt

pub result_bad_at : (n : SnLen) (octets : List ℕ) (result : Result Pdu PduErr) → outcome result ≡ decoded n octets → IfErr result (IsBadAt octets)
result_bad_at n octets (Ok pdu) is = tt
result_bad_at n octets (Err e) is = bad_at n octets e (sym is)
