-- The header and the first event.
use Rattle.std.proofs.Common.{Bool, false, true, ℕ, ◌≡◌, ◌≢◌, ◌+◌, ◌⊎◌, List, [], ◌∷◌, Option, Some, None, length, refl, sym, ap, ◌∙◌, subst, arith, inl, inr}
use Rattle.std.specs.Prelude.{IfSome}
use Rattle.std.specs.Io.KnownBytes.{IsAtEnd, prepend_known}
use Rattle.dc_base.specs.declared.events.Header.{Header}
use Rattle.dc_text.specs.Lines.{Reader, line_of, rest_of, span}
use Rattle.transcript.specs.Text.{header_text}
use Rattle.script_text.specs.Grammar.{IsHeaderColumn}
use Rattle.script_text.specs.Scripts.{IsScriptHeader}
use Rattle.transcript_entries.specs.declared.fault.EntryFault.{EntryFault}
use Rattle.transcript_entries.specs.declared.fault.EntryFault.TheVariants as fault
use Rattle.transcript_entries.specs.Lines.{Ahead, HaveRead, HaveReadOf, IsSettled}
use Rattle.transcript_entries.specs.Places.{opening}
use Rattle.transcript_entries.specs.Read.{HasHeader, HasNoHeader, IsBadFrom, IsLong, IsLongFrom, IsNoHeader, IsUncut, IsUnopened, IsUnread, ahead, unread}
use Rattle.transcript_entries.proofs.Unreading.{long_same}

-- a reader that holds nothing is at the beginning of what its source has left
nothing_held : (o : Option (List ℕ)) → prepend_known [] o ≡ o
nothing_held None = refl
nothing_held (Some os) = refl

pub at_beginning : (r : Reader) (o : Option (List ℕ)) → r.held ≡ [] → r.passed ≡ 0 → r.ended ≡ false → ahead r o ≡ unread o
at_beginning r o held passed ended =
    ap (λ h. record { octets = prepend_known h o; passed = r.passed; ended = r.ended }) held
    ∙ ap (λ k. record { octets = prepend_known [] o; passed = k; ended = r.ended }) passed
    ∙ ap (λ e. record { octets = prepend_known [] o; passed = 0; ended = e }) ended ∙ ap unread (nothing_held o)

-- nothing was found to end yet
pub settled_first : (o : Option (List ℕ)) → IsSettled (unread o)
settled_first o over = absurd (apart over)
  where
    apart : false ≡ true → ⊥
    apart is = cc

-- no header came
pub no_header : (f : EntryFault) (o : Option (List ℕ)) → IsNoHeader f o → IsUnopened f o
no_header (fault.BadLine line column) None h = tt
no_header (fault.BadLine line column) (Some os) h = inl h
no_header fault.TooLong None h = tt
no_header fault.TooLong (Some os) h = inl h
no_header fault.ReadFault o h = tt
no_header fault.Memory o h = tt

-- a header came, and no event
bad_after_header : (o : Option (List ℕ)) (b : Ahead) (h : Header) (number column : ℕ) → IsScriptHeader h → HaveReadOf o 0 (header_text h ∷ []) b
    → IfSome b.octets (λ os. IsBadFrom opening 1 os number column) → IsUnopened (fault.BadLine number column) o
bad_after_header None b h number column good read bad = tt
bad_after_header (Some os) b h number column good read bad =
    let told : b.octets ≡ Some (rest_of os) = read.2 ∙ ap Some (sym read.1.2) in
    inr (record {
      header = h;
      good = good;
      there = read.1.0;
      text = read.1.1;
      rest = subst (λ k. IfSome k (λ os. IsBadFrom opening 1 os number column)) told bad;
    })

long_after_header : (o : Option (List ℕ)) (b : Ahead) (h : Header) → IsScriptHeader h → HaveReadOf o 0 (header_text h ∷ []) b
    → IfSome b.octets (IsLongFrom opening 1 b.passed) → IsUnopened fault.TooLong o
long_after_header None b h good read long = tt
long_after_header (Some os) b h good read long =
    let told : b.octets ≡ Some (rest_of os) = read.2 ∙ ap Some (sym read.1.2) in
    let same : length (rest_of os) ≡ length read.0 = ap length read.1.2 in
    let passed : b.passed ≡ span os = omega (arith, read.3, same) in
    inr (record {
      header = h;
      good = good;
      there = read.1.0;
      text = read.1.1;
      rest = subst (λ n. IsLongFrom opening 1 n (rest_of os)) passed (subst (λ k. IfSome k (IsLongFrom opening 1 b.passed)) told long);
    })

pub no_event : (f : EntryFault) (a b : Ahead) (h : Header) → a.passed ≡ 0 → IsScriptHeader h → HaveRead a (header_text h ∷ []) b → IsUnread f opening 1 b
    → IsUnopened f a.octets
no_event (fault.BadLine number column) a b h begin good read cut =
    bad_after_header a.octets b h number column good (subst (λ n. HaveReadOf a.octets n (header_text h ∷ []) b) begin read) cut
no_event fault.TooLong a b h begin good read cut =
    long_after_header a.octets b h good (subst (λ n. HaveReadOf a.octets n (header_text h ∷ []) b) begin read) cut
no_event fault.ReadFault a b h begin good read cut = tt
no_event fault.Memory a b h begin good read cut = tt
