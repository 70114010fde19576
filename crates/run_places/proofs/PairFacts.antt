-- What a pair of the master and a secondary node says of agreements on the line from the node.
use Rattle.std.proofs.Common.{ℕ, ◌≡◌, ◌≤◌, ◌<◌, ◌+◌, ◌==◌, ◌++◌, ◌∙◌, Bool, true, false, List, [], ◌∷◌, Option, Some, None, refl, sym, ap, subst, arith, inl, inr}
use Rattle.std.specs.List.{AllByRecursion, filter, list_any}
use Rattle.std.specs.Prelude.{if◌then◌else◌, ⊤, ◌&&◌, ◌||◌, ◌⊎◌}
use Rattle.std.proofs.lemmas.Bool.{eqb-true, ne_eqb}
use Rattle.dc_base.specs.declared.nodes.Node.{Node}
use Rattle.dc_base.specs.declared.records.Plan.{Plan}
use Rattle.dc_base.specs.declared.records.Rec.{Rec}
use Rattle.dc_base.specs.declared.records.Rec.TheVariants as rec
use Rattle.node_rules.specs.declared.commands.First.{First}
use Rattle.run_control.specs.Claims.{Stand, agrees, asks, goes_on, is_agreement, refuses, rests}
use Rattle.run_control.proofs.Turns.{never}
use Rattle.run_pairs.specs.Pairs.{IsWithin, acknowledge, is_reply, is_word, rejection, reply, words}

-- ---- an agreement is a word, and a reply

-- to a stand that awaits an answer in this generation
abbrev pub Awaits : Stand → ℕ → Type 0
Awaits rests g = ⊥
Awaits (asks f p) g = p.g ≡ g
Awaits (refuses f p) g = p.g ≡ g
Awaits (agrees f p) g = p.g ≡ g
Awaits (goes_on leaves) g = ⊥

in_generation : (h g g' : ℕ) → (h == g) ≡ true → g' ≡ g → (h == g') ≡ true
in_generation h g g' is same = ap (λ n. h == n) same ∙ is

pub agreement_replies : (s : Stand) (g : ℕ) (r : Rec) → Awaits s g → is_agreement g r ≡ true → (is_word r ≡ true) × (is_reply s r ≡ true)
agreement_replies rests g r awaits is = absurd awaits
agreement_replies (goes_on leaves) g r awaits is = absurd awaits
agreement_replies (asks f p) g (rec.Addack h) awaits is = (refl, refl)
agreement_replies (asks f p) g (rec.Modack h) awaits is = (refl, refl)
agreement_replies (asks f p) g (rec.Relack h) awaits is = (refl, in_generation h g p.g is awaits)
agreement_replies (asks f p) g r awaits is = absurd cc
agreement_replies (refuses f p) g (rec.Addack h) awaits is = (refl, refl)
agreement_replies (refuses f p) g (rec.Modack h) awaits is = (refl, refl)
agreement_replies (refuses f p) g (rec.Relack h) awaits is = (refl, in_generation h g p.g is awaits)
agreement_replies (refuses f p) g r awaits is = absurd cc
agreement_replies (agrees f p) g (rec.Addack h) awaits is = (refl, refl)
agreement_replies (agrees f p) g (rec.Modack h) awaits is = (refl, refl)
agreement_replies (agrees f p) g (rec.Relack h) awaits is = (refl, in_generation h g p.g is awaits)
agreement_replies (agrees f p) g r awaits is = absurd cc

-- the replies among the words of a line
abbrev pub replies_in : Stand → List Rec → List Rec
replies_in s up = filter (is_reply s) (words up)

replies_cons : (s : Stand) (r : Rec) (up : List Rec) → replies_in s (r ∷ up) ≡ (if is_word r && is_reply s r then r ∷ replies_in s up else replies_in s up)
replies_cons s r up = by (is_word r)
  where
    by : (b : Bool) → filter (is_reply s) (if b then r ∷ words up else words up) ≡ (if b && is_reply s r then r ∷ replies_in s up else replies_in s up)
    by true = refl
    by false = refl

-- where none is a reply, none is an agreement
pub none_agreed : (s : Stand) (g : ℕ) (up : List Rec) → Awaits s g → replies_in s up ≡ [] → list_any (is_agreement g) up ≡ false
none_agreed s g [] awaits none = refl
none_agreed s g (r ∷ up) awaits none = by (is_agreement g r) refl (is_word r && is_reply s r) refl (sym (replies_cons s r up) ∙ none) (none_agreed s g up awaits)
  where
    both : (b d : Bool) → b ≡ true → d ≡ true → (b && d) ≡ true
    both b d p q = ap (λ z. z && d) p ∙ q

    by : (b : Bool) → is_agreement g r ≡ b → (d : Bool) → (is_word r && is_reply s r) ≡ d → (if d then r ∷ replies_in s up else replies_in s up) ≡ []
        → (replies_in s up ≡ [] → list_any (is_agreement g) up ≡ false) → (is_agreement g r || list_any (is_agreement g) up) ≡ false
    by b is true mine empty more = absurd cc
    by true is false mine empty more =
        let so = agreement_replies s g r awaits is in absurd (never (is_word r && is_reply s r) (both (is_word r) (is_reply s r) so.0 so.1) mine)
    by false is false mine empty more = ap (λ z. z || list_any (is_agreement g) up) is ∙ more empty

-- the first record of a line is a reply: it is the one that is awaited, and no other follows
pub record IsTheReply (s : Stand) (r : Rec) (up : List Rec) : Type 0 where
  pub first : reply s ≡ r ∷ []
  pub rest : replies_in s up ≡ []

one_of : (s : Stand) (r : Rec) (rs : List Rec) → r ∷ rs ≡ reply s → (reply s ≡ r ∷ []) × (rs ≡ [])
one_of rests r rs is = absurd cc
one_of (asks f p) r rs is = absurd cc
one_of (goes_on leaves) r rs is = absurd cc
one_of (refuses f p) r rs is = (ap (λ z. z ∷ []) (sym (ap head is)), ap tail is)
  where
    head : List Rec → Rec
    head [] = r
    head (z ∷ zs) = z

    tail : List Rec → List Rec
    tail [] = []
    tail (z ∷ zs) = zs
one_of (agrees f p) r rs is = (ap (λ z. z ∷ []) (sym (ap head is)), ap tail is)
  where
    head : List Rec → Rec
    head [] = r
    head (z ∷ zs) = z

    tail : List Rec → List Rec
    tail [] = []
    tail (z ∷ zs) = zs

pub the_reply : (s : Stand) (r : Rec) (up : List Rec) → is_word r ≡ true → is_reply s r ≡ true → replies_in s (r ∷ up) ≡ reply s → IsTheReply s r up
the_reply s r up word is answers =
    let whole : r ∷ replies_in s up ≡ reply s = sym (replies_cons s r up ∙ ap (λ b. if b then r ∷ replies_in s up else replies_in s up) (ap (λ b. b && is_reply s r) word ∙ is)) ∙ answers in
    let so = one_of s r (replies_in s up) whole in
    record { first = so.0; rest = so.1 }

-- ---- where nothing is asked, none is newer than what was drawn

never_newer : (g last : ℕ) → last < g → (h : ℕ) → h ≤ last → (h == g) ≡ false
never_newer g last newer h le = ne_eqb h g (λ e. omega (arith, newer, le, e))

-- a reply to no stand but those that await, and no acknowledge of a later release
abbrev pub IsOpen : Stand → Type 0
IsOpen rests = ⊤
IsOpen (asks f p) = ⊥
IsOpen (refuses f p) = ⊥
IsOpen (agrees f p) = ⊥
IsOpen (goes_on leaves) = ⊤

open_agreement : (s : Stand) (g last : ℕ) (r : Rec) → IsOpen s → last < g → IsWithin last r → (is_word r && is_reply s r) ≡ false → is_agreement g r ≡ false
open_agreement s g last (rec.Addack h) free newer within none = absurd cc
open_agreement s g last (rec.Modack h) free newer within none = absurd cc
open_agreement s g last (rec.Relack h) free newer within none = never_newer g last newer h within
open_agreement s g last r free newer within none = refl

pub none_newer : (s : Stand) (g last : ℕ) (up : List Rec) → IsOpen s → last < g → AllByRecursion (IsWithin last) (words up) → replies_in s up ≡ [] → list_any (is_agreement g) up ≡ false
none_newer s g last [] free newer within none = refl
none_newer s g last (r ∷ up) free newer within none = by (is_word r) refl within (is_word r && is_reply s r) refl (sym (replies_cons s r up) ∙ none) (λ all empty. none_newer s g last up free newer all empty)
  where
    no_word : (b : Bool) → is_word r ≡ false → is_agreement g r ≡ b → b ≡ false
    no_word false idle is = refl
    no_word true idle is = absurd (never (is_word r) (agreement_word r is) idle)
      where
        agreement_word : (q : Rec) → is_agreement g q ≡ true → is_word q ≡ true
        agreement_word (rec.Addack h) is' = refl
        agreement_word (rec.Modack h) is' = refl
        agreement_word (rec.Relack h) is' = refl
        agreement_word q is' = absurd cc

    rest : (d : Bool) → (if d then r ∷ replies_in s up else replies_in s up) ≡ [] → (d ≡ false) × (replies_in s up ≡ [])
    rest true empty = absurd cc
    rest false empty = (refl, empty)

    by : (b : Bool) → is_word r ≡ b → AllByRecursion (IsWithin last) (if b then r ∷ words up else words up) → (d : Bool) → (is_word r && is_reply s r) ≡ d → (if d then r ∷ replies_in s up else replies_in s up) ≡ []
        → (AllByRecursion (IsWithin last) (words up) → replies_in s up ≡ [] → list_any (is_agreement g) up ≡ false) → (is_agreement g r || list_any (is_agreement g) up) ≡ false
    by true word all d mine empty more =
        let so = rest d empty in ap (λ z. z || list_any (is_agreement g) up) (open_agreement s g last r free newer all.0 (mine ∙ so.0)) ∙ more all.1 so.1
    by false idle all d mine empty more = let so = rest d empty in ap (λ z. z || list_any (is_agreement g) up) (no_word (is_agreement g r) idle refl) ∙ more all so.1
