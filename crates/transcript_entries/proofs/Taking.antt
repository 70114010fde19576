-- Lines of an entry, one after another, and why no more come.
use Rattle.std.proofs.Common.{Bool, ℕ, ◌≡◌, ◌+◌, ◌≤◌, ◌++◌, List, [], ◌∷◌, Option, Some, None, length, refl, sym, ap, ◌∙◌, subst, arith, append-nil}
use Rattle.std.specs.Prelude.{IfSome}
use Rattle.std.specs.Io.KnownBytes.{IsAtEnd}
use Rattle.std.specs.List.{AllByRecursion}
use Rattle.std.proofs.lemmas.List.{map-append}
use Rattle.dc_base.specs.declared.answers.Answer.{Answer}
use Rattle.dc_base.specs.declared.events.Event.{Event}
use Rattle.dc_base.specs.declared.events.Line.{Line}
use Rattle.dc_base.specs.declared.events.Line.TheVariants as line
use Rattle.transcript_entries.specs.declared.fault.EntryFault.{EntryFault}
use Rattle.transcript_entries.specs.declared.fault.EntryFault.TheVariants as fault
use Rattle.transcript_entries.specs.Lines.{Ahead, AreFirstLines, HaveRead, HaveReadOf, IsSettled, text_of, texts}
use Rattle.transcript_entries.specs.Places.{IsRead, answering, within}
use Rattle.transcript_entries.specs.Read.{HaveReadUp, IsNoEvent, IsNoLineNext, IsUnread}
use Rattle.transcript_entries.proofs.Joining.{join_up, read_join, read_up, settled_after}
use Rattle.transcript_entries.proofs.Standing.{all_within}
use Rattle.transcript_entries.proofs.Unreading.{after_unread, many_unread, next_unread}

-- one more line
pub more_lines : (a b c : Ahead) (ls : List Line) (l : Line) → HaveRead a (texts ls) b → HaveRead b (text_of l ∷ []) c → HaveRead a (texts (ls ++ l ∷ [])) c
more_lines a b c ls l first second = subst (λ ts. HaveRead a ts c) (sym (map-append text_of ls (l ∷ []))) (read_join a b c (texts ls) (text_of l ∷ []) first second)

-- no more
pub end_of_lines : (a b c : Ahead) (ls : List Line) → HaveRead a (texts ls) b → (IsSettled b → IsAtEnd b.octets × IsAtEnd c.octets) → HaveReadUp None a (texts (ls ++ [])) c
end_of_lines a b c ls read over = subst (λ k. HaveReadUp None a (texts k) c) (sym (append-nil ls)) (read_up a b c (texts ls) read over)

-- none at all
at_once_of : (o : Option (List ℕ)) (c : Ahead) → IsAtEnd o → IsAtEnd c.octets → IfSome o (λ os. AreFirstLines os [] [] × IsAtEnd c.octets)
at_once_of None c over ends = tt
at_once_of (Some os) c over ends = (over, ends)

pub at_once : (a c : Ahead) → IsAtEnd a.octets → IsAtEnd c.octets → HaveReadUp None a [] c
at_once a c over ends = at_once_of a.octets c over ends

-- the next line is none
pub cut_within : (f : EntryFault) (a b : Ahead) (taken number : ℕ) (ls : List Line) → HaveRead a (texts ls) b → AllByRecursion IsRead ls → AllByRecursion IsNoEvent ls
    → number ≡ taken + length ls + 1 → IsNoLineNext f number b → IsUnread f within taken a
cut_within f a b taken number ls read good plain is cut =
    after_unread f a b within within taken ls read good (all_within ls plain) (next_unread f within (taken + length ls) number b is cut)

-- there are too many
pub many_within : (a b : Ahead) (taken : ℕ) (ls : List Line) → HaveRead a (texts ls) b → AllByRecursion IsRead ls → AllByRecursion IsNoEvent ls
    → 4294967295 ≤ taken + length ls → IsUnread fault.TooLong within taken a
many_within a b taken ls read good plain many =
    after_unread fault.TooLong a b within within taken ls read good (all_within ls plain) (many_unread within (taken + length ls) b many)

-- ---- after the answer

join_if_of : (o : Option (List ℕ)) (n : ℕ) (k : Bool) (e : Option Event) (b c : Ahead) (ts us : List (List ℕ)) → HaveReadOf o n ts b → IfSome o (λ _. IsSettled b)
    → (IsSettled b → HaveReadUp e b us c) → HaveReadUp e (record { octets = o; passed = n; ended = k }) (ts ++ us) c
join_if_of None n k None b c ts us first settled second = tt
join_if_of None n k (Some e) b c ts us first settled second = tt
join_if_of (Some os) n k e b c ts us first settled second = join_up e (record { octets = Some os; passed = n; ended = k }) b c ts us first (second settled)

pub join_if : (e : Option Event) (a b c : Ahead) (ts us : List (List ℕ)) → HaveRead a ts b → (IsSettled b → HaveReadUp e b us c) → HaveReadUp e a (ts ++ us) c
join_if e a b c ts us first second = join_if_of a.octets a.passed a.ended e b c ts us first (settled_after a b ts first) second

unread_if_of : (o : Option (List ℕ)) (n : ℕ) (k : Bool) (f : EntryFault) (b : Ahead) (taken : ℕ) (x : Answer) → HaveReadOf o n (text_of (line.Answer x) ∷ []) b
    → IfSome o (λ _. IsSettled b) → (IsSettled b → IsUnread f within (taken + 1) b) → IsUnread f answering taken (record { octets = o; passed = n; ended = k })
unread_if_of None n k (fault.BadLine number column) b taken x read settled cut = tt
unread_if_of None n k fault.ReadFault b taken x read settled cut = tt
unread_if_of None n k fault.TooLong b taken x read settled cut = tt
unread_if_of None n k fault.Memory b taken x read settled cut = tt
unread_if_of (Some os) n k f b taken x read settled cut =
    after_unread f (record { octets = Some os; passed = n; ended = k }) b answering within taken (line.Answer x ∷ []) read (record { in_range = tt; shown = tt }, tt) refl (cut settled)

pub unread_if : (f : EntryFault) (a b : Ahead) (taken : ℕ) (x : Answer) → HaveRead a (text_of (line.Answer x) ∷ []) b → (IsSettled b → IsUnread f within (taken + 1) b)
    → IsUnread f answering taken a
unread_if f a b taken x read cut = unread_if_of a.octets a.passed a.ended f b taken x read (settled_after a b (text_of (line.Answer x) ∷ []) read) cut
