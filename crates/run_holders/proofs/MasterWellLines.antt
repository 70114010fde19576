-- When the lines of an event suit the past: by what is so before them, of some, and by what is so after them, of the others.
use Rattle.std.proofs.Common.{ℕ, ◌≡◌, ◌++◌, ◌∙◌, true, false, List, [], ◌∷◌, Option, Some, None, refl, sym, ap, subst, inl, inr}
use Rattle.std.specs.List.{AllByRecursion, list_any}
use Rattle.std.specs.Prelude.{fold, ⊤, ◌⊎◌}
use Rattle.dc_base.specs.declared.events.Line.{Line}
use Rattle.dc_base.specs.declared.events.Line.TheVariants as line
use Rattle.dc_base.specs.declared.events.Note.{Note}
use Rattle.dc_base.specs.declared.events.Note.TheVariants as note
use Rattle.dc_base.specs.declared.flights.Flight.{Flight}
use Rattle.dc_base.specs.declared.flights.Flight.TheVariants as flight
use Rattle.dc_base.specs.declared.records.Plan.{Plan}
use Rattle.dc_base.specs.declared.records.Rec.TheVariants as rec
use Rattle.claims.specs.Noted.{noted}
use Rattle.claims.specs.Past.{Past}
use Rattle.claims.specs.Reading.{unsets}
use Rattle.run_plans.specs.Lines.{IsStill}
use Rattle.run_table.specs.View.{planned, view}
use Rattle.run_uplinks.proofs.Wells.{IsWell}
use Rattle.run_holders.specs.Actives.{Actives, line_actives}
use Rattle.run_holders.specs.Fitting.{AllSuit, IsDroppedBy, IsOfLatest, Suits}
use Rattle.run_holders.specs.Lines.{IsQuiet}
use Rattle.run_holders.proofs.MasterWellSets.{SetsBy, plan_noted, sets_before, sets_latest, sets_noted, well_noted}
use Rattle.run_holders.proofs.NamesApart.{Descends, after_descends}

-- ---- what is asked of notes and of flights

-- of a note by which an anchor becomes active
abbrev pub OwnsOf : (ℕ → ℕ → Type 0) → Note → Type 0
OwnsOf P (note.Own x id g) = P id g
OwnsOf P _ = ⊤

-- of the plan of an order to reconfigure
abbrev pub OrdersOf : (Plan → Type 0) → Flight → Type 0
OrdersOf P (flight.Ctl (rec.Reconf q key)) = P q
OrdersOf P _ = ⊤

-- of a line
abbrev pub LineOf : (ℕ → ℕ → Type 0) → (Plan → Type 0) → Line → Type 0
LineOf P Q (line.Note n) = OwnsOf P n
LineOf P Q (line.Send l f) = OrdersOf Q f
LineOf P Q (line.Event e) = ⊤
LineOf P Q (line.Answer a) = ⊤

-- and the line draws no plan
abbrev pub StillOf : (ℕ → ℕ → Type 0) → (Plan → Type 0) → Line → Type 0
StillOf P Q l = IsStill l × LineOf P Q l

-- ---- one line

line_suits : (P : ℕ → ℕ → Type 0) (Q : Plan → Type 0) (p : Past) (a : Actives) → ((id g : ℕ) → P id g → IsOfLatest p id g)
    → ((q : Plan) → Q q → (id : ℕ) → IsDroppedBy p q.g id → a id ≡ None) → (l : Line) → LineOf P Q l → Suits p a l
line_suits P Q p a own order (line.Note (note.Own x id g)) is = own id g is
line_suits P Q p a own order (line.Send l (flight.Ctl (rec.Reconf q key))) is = order q is
line_suits P Q p a own order l is = tt

quiet_still : (l : Line) → IsQuiet l → (a : Actives) → line_actives a l ≡ a
quiet_still (line.Note (note.Own y id g)) quiet a = absurd cc
quiet_still (line.Note (note.Give y id g)) quiet a = absurd cc
quiet_still l quiet a = refl

-- a quiet line
quiet_suits : (Q : Plan → Type 0) (p : Past) (a : Actives) (l : Line) → IsQuiet l → ((q : Plan) → Q q → (id : ℕ) → IsDroppedBy p q.g id → a id ≡ None)
    → LineOf (λ id g. ⊤) Q l → Suits p a l
quiet_suits Q p a (line.Note (note.Own y id g)) quiet order is = absurd cc
quiet_suits Q p a (line.Send l (flight.Ctl (rec.Reconf q key))) quiet order is = order q is
quiet_suits Q p a l quiet order is = tt

-- ---- lines, one after another

pub suit_append : (xs ys : List Line) (p : Past) (a : Actives) → AllSuit p a xs → AllSuit (fold noted p xs) (fold line_actives a xs) ys → AllSuit p a (xs ++ ys)
suit_append [] ys p a one more = more
suit_append (x ∷ xs) ys p a one more = (one.0, suit_append xs ys (noted p x) (line_actives a x) one.1 more)

pub well_all : (ls : List Line) (p : Past) → IsWell (view p) → IsWell (view (fold noted p ls))
well_all [] p well = well
well_all (l ∷ ls) p well = well_all ls (noted p l) (well_noted p l well)

pub descends_all : (ls : List Line) (p : Past) → Descends p → Descends (fold noted p ls)
descends_all [] p down = down
descends_all (l ∷ ls) p down = descends_all ls (noted p l) (after_descends l p down)

pub sets_all : (ls : List Line) (p : Past) → IsWell (view p) → (id g : ℕ) → SetsBy p id g → SetsBy (fold noted p ls) id g
sets_all [] p well id g is = is
sets_all (l ∷ ls) p well id g is = sets_all ls (noted p l) (well_noted p l well) id g (sets_noted p l well id g is)

pub plan_all : (ls : List Line) (p : Past) → IsWell (view p) → (g : ℕ) (q : Plan) → planned p.plans g ≡ Some q → planned (fold noted p ls).plans g ≡ Some q
plan_all [] p well g q at = at
plan_all (l ∷ ls) p well g q at = plan_all ls (noted p l) (well_noted p l well) g q (plan_noted p l well g q at)

pub back_all : (ls : List Line) (p : Past) → AllByRecursion IsStill ls → (id g : ℕ) → SetsBy (fold noted p ls) id g → SetsBy p id g
back_all [] p still id g is = is
back_all (l ∷ ls) p still id g is = sets_before p l still.0 id g (back_all ls (noted p l) still.1 id g is)

pub stills : (P : ℕ → ℕ → Type 0) (Q : Plan → Type 0) (ls : List Line) → AllByRecursion (StillOf P Q) ls → AllByRecursion IsStill ls
stills P Q [] all = tt
stills P Q (l ∷ ls) all = (all.0.0, stills P Q ls all.1)

-- lines that suit by what is so before them
pub suit_start : (P : ℕ → ℕ → Type 0) (ls : List Line) (p : Past) (a : Actives) → IsWell (view p) → Descends p → ((id g : ℕ) → P id g → SetsBy p id g)
    → AllByRecursion (LineOf P (λ q. ⊥)) ls → AllSuit p a ls
suit_start P [] p a well down own all = tt
suit_start P (l ∷ ls) p a well down own all = (
  line_suits P (λ q. ⊥) p a (λ id g is. sets_latest p id g down (own id g is)) (λ q bad. absurd bad) l all.0,
  suit_start P ls (noted p l) (line_actives a l) (well_noted p l well) (after_descends l p down) (λ id g is. sets_noted p l well id g (own id g is)) all.1,
)

-- the plan drops no bearer
abbrev pub DropsNone : Plan → Type 0
DropsNone q = (id : ℕ) → list_any (unsets id) q.items ≡ false

pub some_plan : (q r : Plan) → Some q ≡ Some r → q ≡ r
some_plan q r is = ap or_else is
  where
    or_else : Option Plan → Plan
    or_else None = q
    or_else (Some z) = z

module _ (then' : Past) (q : Plan) (drawn : planned then'.plans q.g ≡ Some q) where
  -- a plan that drops the identity by its generation does
  dropped_is : (ls : List Line) (p : Past) → fold noted p ls ≡ then' → IsWell (view p) → (r : Plan) → r ≡ q → (id : ℕ) → IsDroppedBy p r.g id
      → list_any (unsets id) q.items ≡ true
  dropped_is ls p ends well r same id drops =
      let at : planned then'.plans r.g ≡ Some drops.0 = subst (λ (y : Past). planned y.plans r.g ≡ Some drops.0) ends
      (plan_all ls p well r.g drops.0 drops.1) in
      let one : drops.0 ≡ q = some_plan drops.0 q (sym at ∙ ap (λ (z : Plan). planned then'.plans z.g) same ∙ drawn) in
      subst (λ (z : Plan). list_any (unsets id) z.items ≡ true) one drops.2

  -- lines that suit by what is so after them
  pub suit_rest : (P N : ℕ → ℕ → Type 0) → DropsNone q → ((id g : ℕ) → N id g → SetsBy then' id g) → (ls : List Line) (p : Past) (a : Actives)
      → fold noted p ls ≡ then' → IsWell (view p) → Descends p → ((id g : ℕ) → P id g → SetsBy p id g)
      → AllByRecursion (StillOf (λ id g. P id g ⊎ N id g) (λ r. r ≡ q)) ls → AllSuit p a ls
  suit_rest P N none now [] p a ends well down own all = tt
  suit_rest P N none now (l ∷ ls) p a ends well down own all = (
    line_suits (λ id g. P id g ⊎ N id g) (λ r. r ≡ q) p a (λ id g is. sets_latest p id g down (either' id g is))
        (λ r same id drops. absurd (let bad : false ≡ true = sym (none id) ∙ dropped_is (l ∷ ls) p ends well r same id drops in cc)) l all.0.1,
    suit_rest P N none now ls (noted p l) (line_actives a l) ends (well_noted p l well) (after_descends l p down)
        (λ id g is. sets_noted p l well id g (own id g is)) all.1,
  )
    where
      either' : (id g : ℕ) → P id g ⊎ N id g → SetsBy p id g
      either' id g (inl is) = own id g is
      either' id g (inr is) = back_all (l ∷ ls) p (stills (λ i h. P i h ⊎ N i h) (λ r. r ≡ q) (l ∷ ls) all) id g
          (subst (λ (y : Past). SetsBy y id g) (sym ends) (now id g is))

  -- quiet lines, where the plan drops nothing that is active
  pub suit_quiet : (ls : List Line) (p : Past) (a : Actives) → fold noted p ls ≡ then' → IsWell (view p)
      → ((id : ℕ) → list_any (unsets id) q.items ≡ true → a id ≡ None) → AllByRecursion IsQuiet ls
      → AllByRecursion (LineOf (λ id g. ⊤) (λ r. r ≡ q)) ls → AllSuit p a ls
  suit_quiet [] p a ends well none quiet all = tt
  suit_quiet (l ∷ ls) p a ends well none quiet all = (
    quiet_suits (λ r. r ≡ q) p a l quiet.0 (λ r same id drops. none id (dropped_is (l ∷ ls) p ends well r same id drops)) all.0,
    subst (λ (z : Actives). AllSuit (noted p l) z ls) (sym (quiet_still l quiet.0 a))
        (suit_quiet ls (noted p l) a ends (well_noted p l well) none quiet.1 all.1),
  )
