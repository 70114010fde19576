-- The claims by their names, and which of them a transcript breaks.
use Rattle.std.specs.Prelude.{List, [], filter, if◌then◌else◌, map, not, ℕ, ◌∷◌}
use Rattle.dc_base.specs.declared.events.Header.{Header}
use Rattle.dc_base.specs.declared.events.Line.{Line}
use Rattle.transcript.specs.Transcript.{Entry}
use Rattle.claims.specs.Sameness.{is_among}
use Rattle.claims.specs.Past.{Past, new_past}
use Rattle.claims.specs.Judged.{judged}
use Rattle.claims.specs.Noted.{after, noted}
use Rattle.claims.specs.Claim.{Claim, Each, of_entries, of_lines}
use Rattle.claims.specs.OnLink.{is_consequence, is_on_link}
use Rattle.claims.specs.Protected.{is_protected}
use Rattle.claims.specs.HandedUp.{is_carried, is_drained, is_front, is_inferred, is_inferred_early}
use Rattle.claims.specs.OneUse.{is_one_use}
use Rattle.claims.specs.Told.{all_in_window, all_told, is_told}
use Rattle.claims.specs.Holder.{is_by_holder}
use Rattle.claims.specs.Planned.{is_keyed, is_planned}
use Rattle.claims.specs.AtRest.{is_all_of_it, is_unstalled}
use Rattle.claims.specs.Causes.{has_cause}
use Rattle.claims.specs.Numbers.{has_number, is_reported}
use Rattle.claims.specs.Licensed.{is_licensed}
use Rattle.claims.specs.Replied.{all_replied, is_due_line}
use Rattle.claims.specs.Placed.{is_placed}
use Rattle.claims.specs.ComeControl.{has_come}
use Rattle.claims.specs.Order.{is_in_order}

-- a claim
pub data Name : Type 0 where
  consequence : Name
  on_link : Name
  protected : Name
  carried : Name
  front : Name
  drained : Name
  inferred : Name
  one_use : Name
  told : Name
  windowed : Name
  holder : Name
  planned : Name
  keyed : Name
  numbered : Name
  true_report : Name
  licensed : Name
  placed : Name
  come : Name
  cause : Name
  replied : Name
  unstalled : Name
  all_of_it : Name
  ordered : Name

-- what it says
abbrev pub claim : Name → Claim
claim consequence = of_lines is_consequence
claim on_link = of_lines is_on_link
claim protected = of_lines is_protected
claim carried = of_lines is_carried
claim front = of_lines is_front
claim drained = of_entries (λ p e q. is_drained q)
claim inferred = record { of_line = is_inferred_early; of_entry = is_inferred }
claim one_use = of_lines is_one_use
claim told = record { of_line = is_told; of_entry = λ p e q. all_told q }
claim windowed = of_entries (λ p e q. all_in_window q)
claim holder = of_lines is_by_holder
claim planned = of_lines is_planned
claim keyed = of_lines is_keyed
claim numbered = of_lines has_number
claim true_report = of_lines is_reported
claim licensed = of_lines is_licensed
claim placed = of_lines is_placed
claim come = of_entries has_come
claim cause = of_entries (λ p e q. has_cause p e)
claim replied = record { of_line = is_due_line; of_entry = all_replied }
claim unstalled = of_entries (λ p e q. is_unstalled q)
claim all_of_it = of_entries (λ p e q. is_all_of_it q)
claim ordered = of_lines is_in_order

-- each claim holds of each entry of a transcript of a run with so many policies
abbrev pub Faithful : Header → ℕ → List Entry → Type 0
Faithful h policies t = (n : Name) → Each (claim n) (new_past h policies) t

-- ---- as tests

-- the claims of what is printed: all but that on the octets of keys
abbrev pub printed : List Name
printed =
    consequence ∷ on_link ∷ protected ∷ carried ∷ front ∷ drained ∷ inferred ∷ one_use ∷ told ∷ windowed ∷ holder ∷ planned
    ∷ numbered ∷ true_report ∷ licensed ∷ placed ∷ come ∷ cause ∷ replied ∷ unstalled ∷ all_of_it ∷ ordered ∷ []

-- those that a line breaks
abbrev pub breaks_line : List Name → Past → Line → List Name
breaks_line ns p x = filter (λ n. not ((claim n).of_line p x)) ns

-- the claims that are left unbroken by lines
abbrev pub unbroken_by_lines : List Name → Past → List Line → List Name
unbroken_by_lines ns p [] = ns
unbroken_by_lines ns p (x ∷ xs) = unbroken_by_lines (filter (λ n. (claim n).of_line p x) ns) (noted p x) xs

-- by an entry, with the past after it
abbrev pub unbroken_by_entry : List Name → Past → Entry → Past → List Name
unbroken_by_entry ns p e q = filter (λ n. (claim n).of_entry p e q) (unbroken_by_lines ns (judged e.event e.answer p) e.lines)

-- by entries
abbrev pub unbroken_from : List Name → Past → List Entry → List Name
unbroken_from ns p [] = ns
unbroken_from ns p (e ∷ es) = unbroken_from (unbroken_by_entry ns p e (after p e)) (after p e) es

-- a claim as a number
abbrev pub name_number : Name → ℕ
name_number consequence = 0
name_number on_link = 1
name_number protected = 2
name_number carried = 3
name_number front = 4
name_number drained = 5
name_number inferred = 6
name_number one_use = 7
name_number told = 8
name_number windowed = 9
name_number holder = 10
name_number planned = 11
name_number keyed = 12
name_number numbered = 13
name_number true_report = 14
name_number licensed = 15
name_number placed = 16
name_number come = 17
name_number cause = 18
name_number replied = 19
name_number unstalled = 20
name_number all_of_it = 21
name_number ordered = 22

-- the names of one list that are not in the other, which is the first with some left out
abbrev pub left_out : List ℕ → List Name → List Name
left_out kept' [] = []
left_out kept' (n ∷ ns) = if is_among (name_number n) kept' then left_out kept' ns else n ∷ left_out kept' ns

-- the claims of a list that a transcript breaks, with two policies
abbrev pub breaks_of : List Name → Header → List Entry → List Name
breaks_of ns h t = left_out (map name_number (unbroken_from ns (new_past h 2) t)) ns

-- the claims of what is printed that it breaks
abbrev pub breaks : Header → List Entry → List Name
breaks h t = breaks_of printed h t
