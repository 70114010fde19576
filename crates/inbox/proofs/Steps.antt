-- Each step keeps the rule of an inbox.
use Rattle.std.proofs.Common.{◌≡◌, ◌≢◌, ◌⊎◌, ◌==◌, ℕ, zero, suc, Bool, not, true, false, List, [], ◌∷◌, ◌++◌, length, set, sym, refl, ap, ◌∙◌, subst, ⊎_elim, append_assoc, inl, inr}
use mathlib.Core.Option.{some, some-ne-none, some-injective}
use lib.ListN.{get_elem?}
use Rattle.std.specs.Prelude.{if◌then◌else◌}
use Rattle.std.specs.List.{AllByRecursion, filter}
use Rattle.std.proofs.lemmas.Bool.{cases_Bool, eq-eqb, ne_eqb, false≢true, not-true, cond-true, cond-false}
use Rattle.std.proofs.lemmas.List.Elements.{filter-append}
use Rattle.std.proofs.lemmas.List.{append-nil}
use Rattle.crossbeam_queue.specs.Fifo.{Pushes, Pops, Forks, Merges, Learns}
use Rattle.crossbeam_queue.proofs.Lists.{at_set}
use Rattle.dc_base.specs.Nodes.{node_number}
use Rattle.journals.specs.declared.entries.Message.{Message}
use Rattle.journals.specs.Messages.{from}
use Rattle.journals.proofs.OnEach.{each_weaker, each_append}
use Rattle.inbox.specs.declared.Claim.{Claim}
use Rattle.inbox.specs.declared.View.{View}
use Rattle.inbox.specs.Inbox.{claim, view_of, sender, whole, claim_of, claims_but, pushed_on, popped_on, put_of, IsSender, FitsClaim, Fits, Delivers, Kept}

snoc_cases : (l : List View) (a b : View) (j : ℕ) → get_elem? (l ++ a ∷ []) j ≡ some b → (get_elem? l j ≡ some b) ⊎ ((j ≡ length l) × (a ≡ b))
snoc_cases [] a b zero e = inr (refl, some-injective a b e)
snoc_cases [] a b (suc j) e = absurd (some-ne-none b (sym e))
snoc_cases (x ∷ xs) a b zero e = inl e
snoc_cases (x ∷ xs) a b (suc j) e = elim (snoc_cases xs a b j e) [ inl h ↦ inl h | inr h ↦ inr (ap suc h.0, h.1) ]

abbrev AllViews : (ℕ → View → Type 0) → List View → Type 0
AllViews F views = (pass : ℕ) (v : View) → get_elem? views pass ≡ some v → F pass v

all_set : (F : ℕ → View → Type 0) (views : List View) (pass : ℕ) (w : View) → F pass w → ((j : ℕ) (u : View) → j ≢ pass → get_elem? views j ≡ some u → F j u) → AllViews F (set views pass w)
all_set F views pass w mine others j u e = ⊎_elim (λ (x : (j ≡ pass) × (w ≡ u)). subst (λ (y : ℕ × View). F y.0 y.1) (λ i. (sym x.0 i, x.1 i)) mine)
    (λ (x : (j ≢ pass) × (get_elem? views j ≡ some u)). others j u x.0 x.1) (at_set views pass j w u e)

-- what a filter keeps passes its test
each_kept : {X : Type 0} (P : X → Type 0) (test : X → Bool) (xs : List X) → AllByRecursion P xs → AllByRecursion (λ x. (test x ≡ true) × P x) (filter test xs)
each_kept P test [] all = tt
each_kept P test (x ∷ xs) all =
    elim (cases_Bool (test x)) [ inl yes' ↦ rw yes' ((yes', all.0), each_kept P test xs all.1) | inr no' ↦ rw no' (each_kept P test xs all.1) ]

pub begins : Delivers [] (whole ∷ [])
begins = (0, (λ q. 0), (λ q. []), [], (λ q. refl), one)
  where
    one : AllViews (Fits 0 (λ q. 0) (λ q. []) []) (whole ∷ [])
    one zero v e = subst (Fits 0 (λ q. 0) (λ q. []) [] 0) (some-injective whole v e) ((λ _. (refl, refl)), ((refl, refl), ((refl, refl), ((refl, refl), ((refl, refl), tt)))))
    one (suc j) v e = absurd (some-ne-none v (sym e))

one_more : (p q : ℕ) (x : Message) → node_number x.link.from ≡ p → q ≢ p → from q (x ∷ []) ≡ []
one_more p q x is other = let no' : (node_number x.link.from == q) ≡ false = ne_eqb (node_number x.link.from) q (λ e. other (sym e ∙ is)) in rw no' refl

pushes_at : (n pass p : ℕ) (put : List Message) (x : Message) → node_number x.link.from ≡ p → Pushes Delivers n pass (sender p put) x (λ w. w ≡ pushed_on (sender p put) x)
pushes_at n pass p put x is items views _ h at =
    let w : View = pushed_on (sender p put) x in
    let mine = h.5 pass (sender p put) at in
    let pushed : ℕ → List Message = λ q. h.2 q ++ from q (x ∷ []) in
    let its : from p (x ∷ []) ≡ x ∷ [] = (let y : (node_number x.link.from == p) ≡ true = eq-eqb (node_number x.link.from) p is in rw y refl) in (
      w,
      (
        h.0,
        h.1,
        pushed,
        h.3,
        λ q. ap (λ (l : List Message). from q h.3 ++ l) (filter-append (λ m. node_number m.link.from == q) items (x ∷ [])) ∙ (sym (append_assoc (from q h.3) (from q items) (from q (x ∷ []))) ∙ ap (λ (l : List Message). l ++ from q (x ∷ [])) (h.4 q)),
        all_set (Fits h.0 h.1 pushed h.3) views pass w
            ((λ g. absurd (false≢true g)), ((mine.1.0.0, ap (λ (l : List Message). l ++ x ∷ []) mine.1.0.1 ∙ ap (λ (l : List Message). h.2 p ++ l) (sym its)), tt))
            (λ j u other e.
            let theirs = h.5 j u e in (
              theirs.0,
              each_weaker (FitsClaim h.1 h.2 j) (FitsClaim h.1 pushed j)
                  (λ c f. (f.0, f.1 ∙ sym (ap (λ (l : List Message). h.2 c.sender ++ l) (one_more p c.sender x is (λ same. other (sym f.0 ∙ (ap h.1 same ∙ mine.1.0.0)))) ∙ append-nil (h.2 c.sender))))
                  u.claims theirs.1,
            )),
      ),
      refl,
    )

pub pushes : (n pass : ℕ) (v : View) (x : Message) → IsSender (node_number x.link.from) v → Pushes Delivers n pass v x (λ w. w ≡ pushed_on v x)
pushes n pass v x is = subst (λ (u : View). Pushes Delivers n pass u x (λ w. w ≡ pushed_on u x)) (sym is) (pushes_at n pass (node_number x.link.from) (put_of v) x refl)

pub pops : (pass : ℕ) (v : View) → v.gets ≡ true → Pops Delivers pass v (λ x w. w ≡ popped_on v x)
pops pass v may x items views h at =
    let w : View = popped_on v x in
    let mine = h.5 pass v at in
    let got : List Message = h.3 ++ x ∷ [] in (
      w,
      (
        h.0,
        h.1,
        h.2,
        got,
        λ q. ap (λ (l : List Message). l ++ from q items) (filter-append (λ m. node_number m.link.from == q) h.3 (x ∷ [])) ∙ (append_assoc (from q h.3) (from q (x ∷ [])) (from q items)
            ∙ (ap (λ (l : List Message). from q h.3 ++ l) (sym (filter-append (λ m. node_number m.link.from == q) (x ∷ []) items)) ∙ h.4 q)),
        all_set (Fits h.0 h.1 h.2 got) views pass w ((λ _. ((mine.0 may).0, ap (λ (l : List Message). l ++ x ∷ []) (mine.0 may).1)), mine.1)
            (λ j u other e. let theirs = h.5 j u e in ((λ g. absurd (other ((theirs.0 g).0 ∙ sym (mine.0 may).0))), theirs.1)),
      ),
      refl,
    )

pub forks : (pass p : ℕ) (v : View) → claim_of p v.claims ≡ claim p [] ∷ [] → Forks Delivers pass v (view_of v.gets v.got (claims_but p v.claims)) (view_of false [] (claim_of p v.claims))
forks pass p v is items views h at =
    let l : View = view_of v.gets v.got (claims_but p v.claims) in
    let r : View = view_of false [] (claim_of p v.claims) in
    let mine = h.5 pass v at in
    let vs : List View = set views pass l in
    let new : ℕ = length vs in
    let seat : ℕ → ℕ = λ q. if q == p then new else h.1 q in
    let its = each_kept (FitsClaim h.1 h.2 pass) (λ c. c.sender == p) v.claims mine.1 in
    let rest = each_kept (FitsClaim h.1 h.2 pass) (λ c. not (c.sender == p)) v.claims mine.1 in
    let one : AllByRecursion (λ (c : Claim). ((c.sender == p) ≡ true) × FitsClaim h.1 h.2 pass c) (claim p [] ∷ []) = subst (AllByRecursion (λ (c : Claim). ((c.sender == p) ≡ true) × FitsClaim h.1 h.2 pass c)) is its in
    let was : h.1 p ≡ pass = one.0.1.0 in
    let old : AllViews (Fits h.0 seat h.2 h.3) vs =
    all_set (Fits h.0 seat h.2 h.3) views pass l
    (mine.0, each_weaker (λ (c : Claim). (not (c.sender == p) ≡ true) × FitsClaim h.1 h.2 pass c) (FitsClaim seat h.2 pass) (λ c f. (cond-false (c.sender == p) new (h.1 c.sender) (not-true _ f.0) ∙ f.1.0, f.1.1)) (claims_but p v.claims) rest)
    (λ j u other e.
    let theirs = h.5 j u e in (
      theirs.0,
      each_weaker (FitsClaim h.1 h.2 j) (FitsClaim seat h.2 j)
          (λ c f. (cond-false (c.sender == p) new (h.1 c.sender) (ne_eqb c.sender p (λ same. other (sym f.0 ∙ (ap h.1 same ∙ was)))) ∙ f.0, f.1)) u.claims theirs.1,
    )) in (
      h.0,
      seat,
      h.2,
      h.3,
      h.4,
      λ j u e. elim (snoc_cases vs r u j e) [
        | inl x ↦ old j u x
        | inr x ↦ subst (λ (y : ℕ × View). Fits h.0 seat h.2 h.3 y.0 y.1) (λ i. (sym x.0 i, x.1 i)) (
          (λ g. absurd (false≢true g)),
          each_weaker (λ (c : Claim). ((c.sender == p) ≡ true) × FitsClaim h.1 h.2 pass c) (FitsClaim seat h.2 new) (λ c f. (cond-true (c.sender == p) new (h.1 c.sender) f.0, f.1.1)) (claim_of p v.claims) its,
        )
      ],
    )

pub merges : (pass : ℕ) (v : View) (other : ℕ) (u : View) → Merges Delivers pass v other u (view_of v.gets v.got (v.claims ++ u.claims)) (view_of false [] [])
merges pass v other u items views h at two at' =
    let both : View = view_of v.gets v.got (v.claims ++ u.claims) in
    let mine = h.5 pass v at in
    let vs : List View = set views pass both in
    let was : get_elem? views other ≡ some u = ⊎_elim (λ x. absurd (two x.0)) (λ x. x.1) (at_set views pass other both u at') in
    let theirs = h.5 other u was in
    let seat : ℕ → ℕ = λ q. if h.1 q == other then pass else h.1 q in
    let Now : ℕ → View → Type 0 = λ j y. j ≢ other → Fits h.0 seat h.2 h.3 j y in
    let now : AllViews Now vs =
    all_set Now views pass both
    (λ _. (
      mine.0,
      each_append (FitsClaim seat h.2 pass) v.claims u.claims
          (each_weaker (FitsClaim h.1 h.2 pass) (FitsClaim seat h.2 pass) (λ c f. (cond-false (h.1 c.sender == other) pass (h.1 c.sender) (ne_eqb (h.1 c.sender) other (λ same. two (sym same ∙ f.0))) ∙ f.0, f.1)) v.claims mine.1)
          (each_weaker (FitsClaim h.1 h.2 other) (FitsClaim seat h.2 pass) (λ c f. (cond-true (h.1 c.sender == other) pass (h.1 c.sender) (eq-eqb (h.1 c.sender) other f.0), f.1)) u.claims theirs.1),
    ))
    (λ j y not_mine e apart.
    let hers = h.5 j y e in (
      hers.0,
      each_weaker (FitsClaim h.1 h.2 j) (FitsClaim seat h.2 j) (λ c f. (cond-false (h.1 c.sender == other) pass (h.1 c.sender) (ne_eqb (h.1 c.sender) other (λ same. apart (sym f.0 ∙ same))) ∙ f.0, f.1)) y.claims hers.1,
    )) in
    (h.0, seat, h.2, h.3, h.4, all_set (Fits h.0 seat h.2 h.3) vs other (view_of false [] []) ((λ g. absurd (false≢true g)), tt) (λ j y apart e. now j y e apart))

pub totals : (pass : ℕ) (v : View) → v.gets ≡ true → Learns Delivers pass v (λ items. AllByRecursion (Kept v.got items) v.claims)
totals pass v may items views h at =
    let mine = h.5 pass v at in
    each_weaker (FitsClaim h.1 h.2 pass) (Kept v.got items) (λ c f. ap (λ (l : List Message). from c.sender l ++ from c.sender items) (mine.0 may).1 ∙ (h.4 c.sender ∙ sym f.1)) v.claims mine.1
