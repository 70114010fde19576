-- A check after some entries, and one entry more.
use Rattle.std.proofs.Common.{ℕ, ◌≡◌, ◌+◌, ◌*◌, ◌≤◌, ◌++◌, true, false, List, [], ◌∷◌, Option, Some, None, length, map, refl, sym, ap, ◌∙◌, subst, arith, inl, inr, append_assoc, append-nil}
use Rattle.std.specs.Prelude.{IsSome}
use Rattle.std.specs.Io.KnownBytes.{IsAtEnd}
use Rattle.std.specs.List.{flat_map}
use Rattle.std.proofs.lemmas.List.{length-append, map-append}
use Rattle.dc_base.specs.declared.events.Event.{Event}
use Rattle.dc_base.specs.declared.events.Header.{Header}
use Rattle.dc_base.specs.declared.events.Line.{Line}
use Rattle.dc_base.specs.declared.events.Line.TheVariants as line
use Rattle.transcript.specs.Text.{header_text}
use Rattle.transcript.specs.Transcript.{Entry, entry_lines}
use Rattle.claims.specs.Claim.{Each}
use Rattle.claims.specs.Noted.{after, past}
use Rattle.claims.specs.Past.{new_past}
use Rattle.checker.specs.Decided.{claim_of, first_broken}
use Rattle.checker.specs.Parts.{ArePartsOf, Parts}
use Rattle.checker.specs.declared.claim.Broken.{Broken}
use Rattle.checker.specs.declared.claim.Claim.{Claim}
use Rattle.checker.proofs.Breaking.{holds_more, past_more}
use Rattle.transcript_entries.specs.declared.entry.ReadEntry.{ReadEntry}
use Rattle.transcript_entries.specs.declared.fault.EntryFault.{EntryFault}
use Rattle.transcript_entries.specs.Lines.{Ahead, AreFirstLines, HaveRead, IsSettled, IsTranscript, text_of, texts}
use Rattle.transcript_entries.specs.Places.{answering}
use Rattle.transcript_entries.specs.Read.{Entries, GivesEntry, HaveReadUp, IsOpened, IsUnread, ahead, entry_of, event_line, unread}
use Rattle.transcript_entries.proofs.Joining.{join_up, settled_after}
use Rattle.check_form.specs.declared.verdict.Verdict.TheVariants as verdict
use Rattle.check_form.specs.Verdicts.{AllHold, BeginsWith, FailsAt, IsAfter, IsCutAfter, IsSoFar, IsVerdict, broken_line, line_after}

-- ---- the beginning

pub so_far_first : (octets : List ℕ) (left : Option (List ℕ)) (h : Header) (at : Entries) (parts : Parts) → IsOpened (Some octets) left h at
    → ((policies : ℕ) → ArePartsOf parts (new_past h policies)) → IsAfter octets 0 at (ahead at.reader left) parts
so_far_first octets left h at parts opened are = record {
  header = h;
  before = [];
  so_far = record {
    begins = record { header = opened.header; read = opened.read };
    taken = omega (arith, opened.taken);
    hold = λ policies c. tt;
    are = are;
  };
  counted = refl;
}

-- ---- one entry more

-- a reader that read these lines is settled
settled_up : (octets : List ℕ) (e : Option Event) (ts : List (List ℕ)) (now : Ahead) → HaveReadUp e (unread (Some octets)) ts now → IsSettled now
settled_up octets None ts now read = λ over. read.1
settled_up octets (Some e) ts now read = settled_after (unread (Some octets)) now ts read

pub is_settled : (octets : List ℕ) (count : ℕ) (at : Entries) (now : Ahead) (parts : Parts) → IsAfter octets count at now parts → IsSettled now
is_settled octets count at now parts a = settled_up octets at.event _ now a.so_far.begins.read

-- the lines of entries with one more
lines_more : (t : List Entry) (e : Entry) → flat_map entry_lines (t ++ e ∷ []) ≡ flat_map entry_lines t ++ entry_lines e
lines_more [] e = append-nil (entry_lines e)
lines_more (x ∷ t) e = ap (λ ls. entry_lines x ++ ls) (lines_more t e) ∙ sym (append_assoc (entry_lines x) (flat_map entry_lines t) (entry_lines e))

-- up to the event of an entry, and from its answer on
lines_joined : (t : List Entry) (e : Entry) (next : List Line)
    → (flat_map entry_lines t ++ line.Event e.event ∷ []) ++ (line.Answer e.answer ∷ e.lines ++ next) ≡ flat_map entry_lines (t ++ e ∷ []) ++ next
lines_joined t e next =
    append_assoc (flat_map entry_lines t) (line.Event e.event ∷ []) (line.Answer e.answer ∷ e.lines ++ next)
    ∙ sym (append_assoc (flat_map entry_lines t) (entry_lines e) next) ∙ ap (λ ls. ls ++ next) (sym (lines_more t e))

begins_more : (octets : List ℕ) (h : Header) (t : List Entry) (at new : Entries) (before left : Option (List ℕ)) (e : ReadEntry)
    → BeginsWith octets h t at.event (ahead at.reader before) → GivesEntry at new before left e → BeginsWith octets h (t ++ entry_of e ∷ []) new.event (ahead new.reader left)
begins_more octets h t at new before left e begins gives =
    let ls = flat_map entry_lines t in
    let first : HaveRead (unread (Some octets)) (header_text h ∷ texts (ls ++ line.Event e.event ∷ [])) (ahead at.reader before) =
    subst (λ o. HaveReadUp o (unread (Some octets)) (header_text h ∷ texts (ls ++ event_line o)) (ahead at.reader before)) gives.event begins.read in
    let rest = line.Answer e.answer ∷ e.lines ++ event_line new.event in
    let all : (header_text h ∷ texts (ls ++ line.Event e.event ∷ [])) ++ texts rest ≡ header_text h ∷ texts (flat_map entry_lines (t ++ entry_of e ∷ []) ++ event_line new.event) =
    ap (λ ts. header_text h ∷ ts) (sym (map-append text_of (ls ++ line.Event e.event ∷ []) rest) ∙ ap texts (lines_joined t (entry_of e) (event_line new.event))) in
    record {
      header = begins.header;
      read = subst (λ ts. HaveReadUp new.event (unread (Some octets)) ts (ahead new.reader left)) all
          (join_up new.event (unread (Some octets)) (ahead at.reader before) (ahead new.reader left) (header_text h ∷ texts (ls ++ line.Event e.event ∷ [])) (texts rest) first gives.read);
    }

taken_at : (octets : List ℕ) (h : Header) (t : List Entry) (at : Entries) (now : Ahead) (parts : Parts) (e : Event) → IsSoFar octets h t at now parts → at.event ≡ Some e
    → at.taken ≡ line_after t
taken_at octets h t at now parts e s is =
    let one : length (event_line at.event) ≡ 1 = ap (λ o. length (event_line o)) is in omega (arith, s.taken, one)

pub after_entry : (octets : List ℕ) (count : ℕ) (at new : Entries) (before left : Option (List ℕ)) (e : ReadEntry) (parts parts' : Parts)
    → IsAfter octets count at (ahead at.reader before) parts → GivesEntry at new before left e
    → ((policies : ℕ) (h : Header) (t : List Entry) → ArePartsOf parts (past h policies t) → first_broken (past h policies t) (entry_of e) ≡ None)
    → ((policies : ℕ) (h : Header) (t : List Entry) → ArePartsOf parts (past h policies t) → ArePartsOf parts' (after (past h policies t) (entry_of e)))
    → IsAfter octets (count + 1) new (ahead new.reader left) parts'
after_entry octets count at new before left e parts parts' a gives none are =
    let h = a.header in
    let t = a.before in
    let s = a.so_far in
    let x = entry_of e in
    let taken = taken_at octets h t at (ahead at.reader before) parts e.event s gives.event in
    let long : length (flat_map entry_lines (t ++ x ∷ [])) ≡ length (flat_map entry_lines t ++ entry_lines x) = ap length (lines_more t x) in
    record {
      header = h;
      before = t ++ x ∷ [];
      so_far = record {
        begins = begins_more octets h t at new before left e s.begins gives;
        taken = omega (arith, gives.taken, taken, long, length-append (flat_map entry_lines t) (entry_lines x));
        hold = λ policies c. holds_more c (new_past h policies) t x (s.hold policies c) (none policies h t (s.are policies));
        are = λ policies. subst (ArePartsOf parts') (sym (past_more (new_past h policies) t x)) (are policies h t (s.are policies));
      };
      counted = omega (arith, a.counted, length-append t (x ∷ []));
    }

-- ---- how it ends

pub ends_well : (octets : List ℕ) (count : ℕ) (at : Entries) (now : Ahead) (parts : Parts) → IsAfter octets count at now parts → at.event ≡ None
    → IsVerdict (verdict.Holds count) octets
ends_well octets count at now parts a over =
    let s = a.so_far in
    let ls = flat_map entry_lines a.before in
    let read = subst (λ o. HaveReadUp o (unread (Some octets)) (header_text a.header ∷ texts (ls ++ event_line o)) now) over s.begins.read in
    (a.header, a.before, s.begins.header, subst (λ k. AreFirstLines octets (header_text a.header ∷ texts k) []) (append-nil ls) read.0, a.counted, s.hold)

pub ends_cut : (octets : List ℕ) (count : ℕ) (at : Entries) (now : Ahead) (parts : Parts) (f : EntryFault) (e : Event) → IsAfter octets count at now parts → at.event ≡ Some e
    → IsUnread f answering at.taken now → IsVerdict (verdict.Unread f) octets
ends_cut octets count at now parts f e a is cut =
    let s = a.so_far in
    let ls = flat_map entry_lines a.before in
    inr (record {
      header = a.header;
      before = a.before;
      event = e;
      now = now;
      begins = record {
        header = s.begins.header;
        read = subst (λ o. HaveReadUp o (unread (Some octets)) (header_text a.header ∷ texts (ls ++ event_line o)) now) is s.begins.read;
      };
      hold = s.hold;
      cut = subst (λ n. IsUnread f answering n now) (taken_at octets a.header a.before at now parts e s is) cut;
    })

pub ends_badly : (octets : List ℕ) (count number : ℕ) (at new : Entries) (before left : Option (List ℕ)) (e : ReadEntry) (parts : Parts) (b : Broken)
    → IsAfter octets count at (ahead at.reader before) parts → GivesEntry at new before left e
    → ((policies : ℕ) (h : Header) (t : List Entry) → ArePartsOf parts (past h policies t) → first_broken (past h policies t) (entry_of e) ≡ Some b)
    → number ≡ broken_line e.number b.line → IsVerdict (verdict.Fails number b.claim) octets
ends_badly octets count number at new before left e parts b a gives some is =
    let s = a.so_far in
    let taken = taken_at octets a.header a.before at (ahead at.reader before) parts e.event s gives.event in
    record {
      header = a.header;
      before = a.before;
      entry = entry_of e;
      next = new.event;
      now = ahead new.reader left;
      begins = begins_more octets a.header a.before at new before left e s.begins gives;
      hold = s.hold;
      broken = b;
      first = λ policies. some policies a.header a.before (s.are policies);
      which = refl;
      place = is ∙ ap (λ n. broken_line n b.line) (gives.number ∙ taken);
    }

-- each entry has two lines and more
two_each : (t : List Entry) → 2 * length t ≤ length (flat_map entry_lines t)
two_each [] = omega arith
two_each (e ∷ t) = omega (arith, two_each t, length-append (entry_lines e) (flat_map entry_lines t))

-- there are not so many entries
pub not_so_many : (octets : List ℕ) (count : ℕ) → count ≡ 4294967295 → (at : Entries) (now : Ahead) (parts : Parts) → IsAfter octets count at now parts
    → at.taken ≤ 4294967295 → ⊥
not_so_many octets count last at now parts a few = omega (arith, last, a.so_far.taken, a.counted, two_each a.before, few)

-- an event that is there
pub event_there : (o : Option Event) → IsSome o → (e : Event) × (o ≡ Some e)
event_there (Some e) there = (e, refl)
event_there None there = absurd (apart there)
  where
    apart : false ≡ true → ⊥
    apart is = cc

-- an entry, with these lines
abbrev pub read_with : ReadEntry → List Line → Entry
read_with e ls = record { event = e.event; answer = e.answer; lines = ls }
