-- The replies that stand on the line from a secondary node, and what the node asked for.
use Rattle.std.proofs.Common.{subst}
use Rattle.std.proofs.Common.{ℕ, ◌≡◌, ◌++◌, ◌+◌, Bool, true, false, List, [], ◌∷◌, Option, Some, None, refl, sym, ap, ◌∙◌, arith}
use Rattle.std.specs.Prelude.{filter, if◌then◌else◌}
use Rattle.std.specs.List.{AllByRecursion}
use Rattle.std.proofs.lemmas.Bool.{ne_eqb}
use Rattle.dc_base.specs.Nodes.{is_same_node}
use Rattle.dc_base.specs.declared.nodes.Node.{Node}
use Rattle.dc_base.specs.declared.nodes.Node.TheVariants.{A, B, M, T}
use Rattle.dc_base.specs.declared.nodes.Want.{Want}
use Rattle.dc_base.specs.declared.records.Plan.{Plan}
use Rattle.dc_base.specs.declared.records.Rec.{Rec}
use Rattle.dc_base.specs.declared.records.Rec.TheVariants as rec
use Rattle.node_rules.specs.declared.commands.First.{First}
use Rattle.run_control.specs.Claims.{Stand, asks, rests}
use Rattle.run_control.proofs.Turns.{never}
use Rattle.run_pairs.specs.Pairs.{IsWithin, is_asked_in, is_reply, wants_in}

-- ---- nodes

-- a node that is the same is the same
pub same_node : (x y : Node) → is_same_node x y ≡ true → x ≡ y
same_node T T is = refl
same_node T M is = absurd cc
same_node T A is = absurd cc
same_node T B is = absurd cc
same_node M T is = absurd cc
same_node M M is = refl
same_node M A is = absurd cc
same_node M B is = absurd cc
same_node A T is = absurd cc
same_node A M is = absurd cc
same_node A A is = refl
same_node A B is = absurd cc
same_node B T is = absurd cc
same_node B M is = absurd cc
same_node B A is = absurd cc
same_node B B is = refl

pub node_itself : (x : Node) → is_same_node x x ≡ true
node_itself T = refl
node_itself M = refl
node_itself A = refl
node_itself B = refl

-- nor the other way round
pub apart_turned : (x y : Node) → is_same_node x y ≡ false → is_same_node y x ≡ false
apart_turned x y apart = by (is_same_node y x) refl
  where
    by : (b : Bool) → is_same_node y x ≡ b → b ≡ false
    by true same = never (is_same_node x y) (subst (λ z. is_same_node x z ≡ true) (sym (same_node y x same)) (node_itself x)) apart
    by false other = refl

-- ---- what the node asked for

abbrev tail_of : List Want → List Want
tail_of [] = []
tail_of (w ∷ ws) = ws

abbrev head_or : List Want → Want → Want
head_or [] d = d
head_or (w ∷ ws) d = w

-- at most one thing is asked for
pub lone : (k : Want) (ys : List Want) (w : Option Want) → k ∷ ys ≡ wants_in w → (ys ≡ []) × (w ≡ Some k)
lone k ys None is = absurd cc
lone k ys (Some j) is = (tails is, ap (λ i. Some i) (sym (heads is)))
  where
    tails : k ∷ ys ≡ j ∷ [] → ys ≡ []
    tails e = ap tail_of e

    heads : k ∷ ys ≡ j ∷ [] → k ≡ j
    heads e = ap (λ l. head_or l k) e

-- and then nothing before it, and nothing after
pub lone_between : (xs : List Want) (k : Want) (ys : List Want) (w : Option Want) → (xs ++ k ∷ []) ++ ys ≡ wants_in w → (xs ≡ []) × (ys ≡ []) × (w ≡ Some k)
lone_between [] k ys w is = let at = lone k ys w is in (refl, at.0, at.1)
lone_between (x ∷ xs) k ys w is = absurd (never_none xs (lone x ((xs ++ k ∷ []) ++ ys) w is).0)
  where
    never_none : (zs : List Want) → (zs ++ k ∷ []) ++ ys ≡ [] → ⊥
    never_none [] e = absurd cc
    never_none (z ∷ zs) e = absurd cc

pub none_in_either : (xs ys : List Want) → xs ++ ys ≡ [] → (xs ≡ []) × (ys ≡ [])
none_in_either [] ys is = (refl, is)
none_in_either (x ∷ xs) ys is = absurd cc

pub cleared : (xs ys : List Want) → xs ≡ [] → ys ≡ [] → (xs ++ []) ++ ys ≡ []
cleared xs ys none no' = ap (λ l. (l ++ []) ++ ys) none ∙ no'

-- ---- replies

-- what replies to nothing that was asked replies anyway
reply_weaker : (s s' : Stand) → ((g : ℕ) → is_asked_in s' g ≡ false) → (r : Rec) → is_reply s' r ≡ true → is_reply s r ≡ true
reply_weaker s s' rests' (rec.Reconf plan key) is = absurd cc
reply_weaker s s' rests' (rec.Rcomp g) is = absurd cc
reply_weaker s s' rests' (rec.Scgf failed) is = absurd cc
reply_weaker s s' rests' (rec.Recov id) is = absurd cc
reply_weaker s s' rests' (rec.Recovd id) is = absurd cc
reply_weaker s s' rests' (rec.Addreq plan key) is = absurd cc
reply_weaker s s' rests' (rec.Addack g) is = refl
reply_weaker s s' rests' (rec.Addrej g) is = refl
reply_weaker s s' rests' (rec.Modreq plan key) is = absurd cc
reply_weaker s s' rests' (rec.Modack g) is = refl
reply_weaker s s' rests' (rec.Modrej g) is = refl
reply_weaker s s' rests' (rec.Recfg g) is = absurd cc
reply_weaker s s' rests' (rec.Relreq plan) is = absurd cc
reply_weaker s s' rests' (rec.Relack g) is = never (is_asked_in s' g) is (rests' g)
reply_weaker s s' rests' (rec.Relrej g) is = refl
reply_weaker s s' rests' (rec.Uecr g) is = absurd cc
reply_weaker s s' rests' (rec.Snst status) is = absurd cc
reply_weaker s s' rests' (rec.Moved g id) is = absurd cc
reply_weaker s s' rests' (rec.Scgn id g) is = absurd cc
reply_weaker s s' rests' rec.Modrqd is = absurd cc
reply_weaker s s' rests' (rec.Modcnf g) is = absurd cc
reply_weaker s s' rests' (rec.Modref word) is = absurd cc
reply_weaker s s' rests' rec.Chgrqd is = absurd cc
reply_weaker s s' rests' (rec.Chgcnf plan) is = absurd cc
reply_weaker s s' rests' (rec.Chgref word) is = absurd cc
reply_weaker s s' rests' rec.Relrqd is = absurd cc
reply_weaker s s' rests' (rec.Relcnf plan) is = absurd cc

pub none_weaker : {X : Type 0} (p q : X → Bool) → ((x : X) → q x ≡ true → p x ≡ true) → (xs : List X) → filter p xs ≡ [] → filter q xs ≡ []
none_weaker p q so [] none = refl
none_weaker p q so (x ∷ xs) none = by (q x) refl (p x) refl none (λ rest. none_weaker p q so xs rest)
  where
    by : (b : Bool) → q x ≡ b → (d : Bool) → p x ≡ d → (if d then x ∷ filter p xs else filter p xs) ≡ [] → (filter p xs ≡ [] → filter q xs ≡ []) → (if b then x ∷ filter q xs else filter q xs) ≡ []
    by true yes' true is none more = absurd cc
    by true yes' false is none more = never (p x) (so x yes') is
    by false no' true is none more = absurd cc
    by false no' false is none more = more none

-- no reply stands there, also where nothing is asked
pub replies_rest : (s s' : Stand) → ((g : ℕ) → is_asked_in s' g ≡ false) → (up : List Rec) → filter (is_reply s) up ≡ [] → filter (is_reply s') up ≡ []
replies_rest s s' rests' up none = none_weaker (is_reply s) (is_reply s') (reply_weaker s s' rests') up none

-- nothing replies to a plan of a new generation
fresh_reply : (first : First) (p : Plan) (last : ℕ) → p.g ≡ last + 1 → (r : Rec) → IsWithin last r → is_reply (asks first p) r ≡ is_reply rests r
fresh_reply first p last fresh (rec.Reconf plan key) within = refl
fresh_reply first p last fresh (rec.Rcomp g) within = refl
fresh_reply first p last fresh (rec.Scgf failed) within = refl
fresh_reply first p last fresh (rec.Recov id) within = refl
fresh_reply first p last fresh (rec.Recovd id) within = refl
fresh_reply first p last fresh (rec.Addreq plan key) within = refl
fresh_reply first p last fresh (rec.Addack g) within = refl
fresh_reply first p last fresh (rec.Addrej g) within = refl
fresh_reply first p last fresh (rec.Modreq plan key) within = refl
fresh_reply first p last fresh (rec.Modack g) within = refl
fresh_reply first p last fresh (rec.Modrej g) within = refl
fresh_reply first p last fresh (rec.Recfg g) within = refl
fresh_reply first p last fresh (rec.Relreq plan) within = refl
fresh_reply first p last fresh (rec.Relack g) within = ne_eqb g p.g (λ e. omega (arith, e, fresh, within))
fresh_reply first p last fresh (rec.Relrej g) within = refl
fresh_reply first p last fresh (rec.Uecr g) within = refl
fresh_reply first p last fresh (rec.Snst status) within = refl
fresh_reply first p last fresh (rec.Moved g id) within = refl
fresh_reply first p last fresh (rec.Scgn id g) within = refl
fresh_reply first p last fresh rec.Modrqd within = refl
fresh_reply first p last fresh (rec.Modcnf g) within = refl
fresh_reply first p last fresh (rec.Modref word) within = refl
fresh_reply first p last fresh rec.Chgrqd within = refl
fresh_reply first p last fresh (rec.Chgcnf plan) within = refl
fresh_reply first p last fresh (rec.Chgref word) within = refl
fresh_reply first p last fresh rec.Relrqd within = refl
fresh_reply first p last fresh (rec.Relcnf plan) within = refl

pub replies_fresh : (first : First) (p : Plan) (last : ℕ) → p.g ≡ last + 1 → (up : List Rec) → AllByRecursion (IsWithin last) up → filter (is_reply rests) up ≡ [] → filter (is_reply (asks first p)) up ≡ []
replies_fresh first p last fresh [] within none = refl
replies_fresh first p last fresh (r ∷ up) within none =
    ap (λ b. if b then r ∷ filter (is_reply (asks first p)) up else filter (is_reply (asks first p)) up) (fresh_reply first p last fresh r within.0)
    ∙ by (is_reply rests r) none (λ rest. replies_fresh first p last fresh up within.1 rest)
  where
    by : (b : Bool) → (if b then r ∷ filter (is_reply rests) up else filter (is_reply rests) up) ≡ [] → (filter (is_reply rests) up ≡ [] → filter (is_reply (asks first p)) up ≡ [])
        → (if b then r ∷ filter (is_reply (asks first p)) up else filter (is_reply (asks first p)) up) ≡ []
    by true none more = absurd cc
    by false none more = more none
