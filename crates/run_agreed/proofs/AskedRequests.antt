-- Where a secondary node agrees, the request that comes first there is asked for.
use Rattle.std.proofs.Common.{◌≡◌, Bool, true, false, List, [], ◌∷◌, Option, Some, None, refl, sym, ap, subst, ◌∙◌}
use Rattle.std.specs.Prelude.{filter, if◌then◌else◌}
use Rattle.dc_base.specs.declared.nodes.Node.{Node}
use Rattle.dc_base.specs.declared.records.Plan.{Plan}
use Rattle.dc_base.specs.declared.records.Rec.{Rec}
use Rattle.dc_base.specs.declared.records.Rec.TheVariants as rec
use Rattle.node_rules.specs.declared.commands.Command.{Command}
use Rattle.node_rules.specs.declared.commands.Command.TheVariants.{Asked as asked, Gone as gone, Recovering as recovering}
use Rattle.node_rules.specs.declared.commands.First.{First}
use Rattle.node_rules.specs.declared.commands.First.TheVariants.{Addition as addition, Modification as modification, Release as release}
use Rattle.run_control.specs.Claims.{IsFirst, IsLine, IsStandOf, Stand, agrees as agreeing, asks, goes_on, refuses as refusing, rests as resting}
use Rattle.run_control.specs.Rows.{is_request}
use Rattle.run_agreed.specs.Lines.{is_spoken, spoken}
use Rattle.run_agreed.proofs.AwaitedAnswers.{IsAsked}

-- ---- agreement, of the records of commands

-- where the first of the line is a request, it is the one that is asked
pub one_first : {X : Type 0} (a b : X) (xs ys : List X) → a ∷ xs ≡ b ∷ ys → (a ≡ b) × (xs ≡ ys)
one_first a b xs ys is = (cc, cc)

first_asked : (x : Node) (o : Option Command) (f : First) (p : Plan) (r : Rec) → IsStandOf x o (asks f p) → IsFirst f p r → IsAsked x o r
first_asked x None f p r stands first = absurd stands
first_asked x (Some (gone plan going)) f p r stands first = absurd stands
first_asked x (Some (recovering id t z)) f p r stands first = absurd stands
first_asked x (Some (asked c first who wanted)) f p r stands is = by f r stands.1 is
  where
    by : (h : First) (q : Rec) → h ≡ first → IsFirst h p q → IsAsked x (Some (asked c first who wanted)) q
    by addition (rec.Reconf plan key) same at = absurd at
    by addition (rec.Rcomp g) same at = absurd at
    by addition (rec.Scgf failed) same at = absurd at
    by addition (rec.Recov id) same at = absurd at
    by addition (rec.Recovd id) same at = absurd at
    by addition (rec.Addreq plan key) same at = (sym same, sym stands.0, ap (λ (y : Plan). y.g) (sym stands.2) ∙ ap (λ (y : Plan). y.g) (sym at))
    by addition (rec.Addack g) same at = absurd at
    by addition (rec.Addrej g) same at = absurd at
    by addition (rec.Modreq plan key) same at = absurd at
    by addition (rec.Modack g) same at = absurd at
    by addition (rec.Modrej g) same at = absurd at
    by addition (rec.Recfg g) same at = absurd at
    by addition (rec.Relreq plan) same at = absurd at
    by addition (rec.Relack g) same at = absurd at
    by addition (rec.Relrej g) same at = absurd at
    by addition (rec.Uecr g) same at = absurd at
    by addition (rec.Snst status) same at = absurd at
    by addition (rec.Moved g id) same at = absurd at
    by addition (rec.Scgn id g) same at = absurd at
    by addition rec.Modrqd same at = absurd at
    by addition (rec.Modcnf g) same at = absurd at
    by addition (rec.Modref word) same at = absurd at
    by addition rec.Chgrqd same at = absurd at
    by addition (rec.Chgcnf plan) same at = absurd at
    by addition (rec.Chgref word) same at = absurd at
    by addition rec.Relrqd same at = absurd at
    by addition (rec.Relcnf plan) same at = absurd at
    by modification (rec.Reconf plan key) same at = absurd at
    by modification (rec.Rcomp g) same at = absurd at
    by modification (rec.Scgf failed) same at = absurd at
    by modification (rec.Recov id) same at = absurd at
    by modification (rec.Recovd id) same at = absurd at
    by modification (rec.Addreq plan key) same at = absurd at
    by modification (rec.Addack g) same at = absurd at
    by modification (rec.Addrej g) same at = absurd at
    by modification (rec.Modreq plan key) same at = (sym same, sym stands.0, ap (λ (y : Plan). y.g) (sym stands.2) ∙ ap (λ (y : Plan). y.g) (sym at))
    by modification (rec.Modack g) same at = absurd at
    by modification (rec.Modrej g) same at = absurd at
    by modification (rec.Recfg g) same at = absurd at
    by modification (rec.Relreq plan) same at = absurd at
    by modification (rec.Relack g) same at = absurd at
    by modification (rec.Relrej g) same at = absurd at
    by modification (rec.Uecr g) same at = absurd at
    by modification (rec.Snst status) same at = absurd at
    by modification (rec.Moved g id) same at = absurd at
    by modification (rec.Scgn id g) same at = absurd at
    by modification rec.Modrqd same at = absurd at
    by modification (rec.Modcnf g) same at = absurd at
    by modification (rec.Modref word) same at = absurd at
    by modification rec.Chgrqd same at = absurd at
    by modification (rec.Chgcnf plan) same at = absurd at
    by modification (rec.Chgref word) same at = absurd at
    by modification rec.Relrqd same at = absurd at
    by modification (rec.Relcnf plan) same at = absurd at
    by release (rec.Reconf plan key) same at = absurd at
    by release (rec.Rcomp g) same at = absurd at
    by release (rec.Scgf failed) same at = absurd at
    by release (rec.Recov id) same at = absurd at
    by release (rec.Recovd id) same at = absurd at
    by release (rec.Addreq plan key) same at = absurd at
    by release (rec.Addack g) same at = absurd at
    by release (rec.Addrej g) same at = absurd at
    by release (rec.Modreq plan key) same at = absurd at
    by release (rec.Modack g) same at = absurd at
    by release (rec.Modrej g) same at = absurd at
    by release (rec.Recfg g) same at = absurd at
    by release (rec.Relreq plan) same at = λ none. (sym same, sym stands.0, ap (λ (y : Plan). y.g) (sym stands.2) ∙ ap (λ (y : Plan). y.g) (sym at))
    by release (rec.Relack g) same at = absurd at
    by release (rec.Relrej g) same at = absurd at
    by release (rec.Uecr g) same at = absurd at
    by release (rec.Snst status) same at = absurd at
    by release (rec.Moved g id) same at = absurd at
    by release (rec.Scgn id g) same at = absurd at
    by release rec.Modrqd same at = absurd at
    by release (rec.Modcnf g) same at = absurd at
    by release (rec.Modref word) same at = absurd at
    by release rec.Chgrqd same at = absurd at
    by release (rec.Chgcnf plan) same at = absurd at
    by release (rec.Chgref word) same at = absurd at
    by release rec.Relrqd same at = absurd at
    by release (rec.Relcnf plan) same at = absurd at

-- each request that comes first is asked for
request_asked : (x : Node) (o : Option Command) (stand : Stand) (down : List Rec) (r : Rec) (rest : List Rec) → IsStandOf x o stand → IsLine stand down → filter is_request down ≡ r ∷ rest → IsAsked x o r
request_asked x o (asks f p) down r rest stands line is =
    let same = one_first r line.0 rest [] (sym is ∙ line.1) in first_asked x o f p r stands (subst (IsFirst f p) (sym same.0) line.2)
request_asked x o resting down r rest stands line is = no_one r rest (sym line ∙ is)
  where
    no_one : (y : Rec) (ys : List Rec) → [] ≡ y ∷ ys → IsAsked x o r
    no_one y ys bad = absurd cc
request_asked x o (refusing f p) down r rest stands line is = no_one r rest (sym line ∙ is)
  where
    no_one : (y : Rec) (ys : List Rec) → [] ≡ y ∷ ys → IsAsked x o r
    no_one y ys bad = absurd cc
request_asked x o (agreeing f p) down r rest stands line is = no_one r rest (sym line ∙ is)
  where
    no_one : (y : Rec) (ys : List Rec) → [] ≡ y ∷ ys → IsAsked x o r
    no_one y ys bad = absurd cc
request_asked x o (goes_on leaves) down r rest stands line is = no_one r rest (sym line ∙ is)
  where
    no_one : (y : Rec) (ys : List Rec) → [] ≡ y ∷ ys → IsAsked x o r
    no_one y ys bad = absurd cc

-- what is no request asks for nothing
no_request : (x : Node) (o : Option Command) (r : Rec) → is_request r ≡ false → IsAsked x o r
no_request x o (rec.Reconf plan key) none = tt
no_request x o (rec.Rcomp g) none = tt
no_request x o (rec.Scgf failed) none = tt
no_request x o (rec.Recov id) none = tt
no_request x o (rec.Recovd id) none = tt
no_request x o (rec.Addreq plan key) none = absurd cc
no_request x o (rec.Addack g) none = tt
no_request x o (rec.Addrej g) none = tt
no_request x o (rec.Modreq plan key) none = absurd cc
no_request x o (rec.Modack g) none = tt
no_request x o (rec.Modrej g) none = tt
no_request x o (rec.Recfg g) none = tt
no_request x o (rec.Relreq plan) none = λ no_sec. let bad : true ≡ false = sym no_sec ∙ none in absurd (cc bad)
no_request x o (rec.Relack g) none = tt
no_request x o (rec.Relrej g) none = tt
no_request x o (rec.Uecr g) none = tt
no_request x o (rec.Snst status) none = tt
no_request x o (rec.Moved g id) none = tt
no_request x o (rec.Scgn id g) none = tt
no_request x o rec.Modrqd none = tt
no_request x o (rec.Modcnf g) none = tt
no_request x o (rec.Modref word) none = tt
no_request x o rec.Chgrqd none = tt
no_request x o (rec.Chgcnf plan) none = tt
no_request x o (rec.Chgref word) none = tt
no_request x o rec.Relrqd none = tt
no_request x o (rec.Relcnf plan) none = tt

-- a test that only records of commands pass sees the same of both lines
pub filter_spoken : (t : Rec → Bool) → ((r : Rec) → t r ≡ true → is_spoken r ≡ true) → (rs : List Rec) → filter t (spoken rs) ≡ filter t rs
filter_spoken t says [] = refl
filter_spoken t says (r ∷ rs) = by (is_spoken r) refl (t r) refl (filter_spoken t says rs)
  where
    by : (b : Bool) → is_spoken r ≡ b → (d : Bool) → t r ≡ d → filter t (spoken rs) ≡ filter t rs → filter t (if b then r ∷ spoken rs else spoken rs) ≡ (if t r then r ∷ filter t rs else filter t rs)
    by true said d is more = ap (λ xs. if t r then r ∷ xs else xs) more
    by false unsaid true is more = let bad : true ≡ false = sym (says r is) ∙ unsaid in absurd (cc bad)
    by false unsaid false is more = more ∙ sym (ap (λ b. if b then r ∷ filter t rs else filter t rs) is)

request_said : (r : Rec) → is_request r ≡ true → is_spoken r ≡ true
request_said (rec.Reconf plan key) is = refl
request_said (rec.Rcomp g) is = refl
request_said (rec.Scgf failed) is = refl
request_said (rec.Recov id) is = refl
request_said (rec.Recovd id) is = refl
request_said (rec.Addreq plan key) is = refl
request_said (rec.Addack g) is = refl
request_said (rec.Addrej g) is = refl
request_said (rec.Modreq plan key) is = refl
request_said (rec.Modack g) is = refl
request_said (rec.Modrej g) is = refl
request_said (rec.Recfg g) is = refl
request_said (rec.Relreq plan) is = refl
request_said (rec.Relack g) is = refl
request_said (rec.Relrej g) is = refl
request_said (rec.Uecr g) is = refl
request_said (rec.Snst status) is = absurd cc
request_said (rec.Moved g id) is = absurd cc
request_said (rec.Scgn id g) is = refl
request_said rec.Modrqd is = refl
request_said (rec.Modcnf g) is = refl
request_said (rec.Modref word) is = refl
request_said rec.Chgrqd is = refl
request_said (rec.Chgcnf plan) is = refl
request_said (rec.Chgref word) is = refl
request_said rec.Relrqd is = refl
request_said (rec.Relcnf plan) is = refl

pub front_asked : (x : Node) (o : Option Command) (stand : Stand) (down : List Rec) (r : Rec) (rest : List Rec) → IsStandOf x o stand → IsLine stand down → spoken down ≡ r ∷ rest → IsAsked x o r
front_asked x o stand down r rest stands line first = by (is_request r) refl
  where
    by : (b : Bool) → is_request r ≡ b → IsAsked x o r
    by true is =
        request_asked x o stand down r (filter is_request rest) stands line
        (sym (filter_spoken is_request request_said down) ∙ ap (filter is_request) first ∙ ap (λ b. if b then r ∷ filter is_request rest else filter is_request rest) is)
    by false is = no_request x o r is
