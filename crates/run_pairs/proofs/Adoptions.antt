-- What a secondary node tells of adoptions as it acts: of bearers that it holds then; and the generations of its bearers.
use Rattle.std.proofs.Common.{ℕ, ◌≡◌, ◌<◌, ◌++◌, ◌==◌, Bool, true, false, List, [], ◌∷◌, Option, Some, None, refl, sym, ap, subst}
use Rattle.std.specs.Prelude.{if◌then◌else◌, map, ◌&&◌}
use Rattle.std.specs.List.{AllByRecursion}
use Rattle.std.proofs.lemmas.Bool.{eq-eqb}
use Rattle.dc_base.specs.Links.{is_same_link, link}
use Rattle.dc_base.specs.Nodes.{is_secondary}
use Rattle.dc_base.specs.Records.{item_id}
use Rattle.dc_base.specs.declared.flights.Flight.TheVariants as flight
use Rattle.dc_base.specs.declared.nodes.Class.TheVariants.{Ctl}
use Rattle.dc_base.specs.declared.nodes.LinkId.{LinkId}
use Rattle.dc_base.specs.declared.nodes.Node.{Node}
use Rattle.dc_base.specs.declared.nodes.Node.TheVariants.{M}
use Rattle.dc_base.specs.declared.records.Item.{Item}
use Rattle.dc_base.specs.declared.records.Item.TheVariants as item
use Rattle.dc_base.specs.declared.records.Plan.{Plan}
use Rattle.dc_base.specs.declared.records.Rec.{Rec}
use Rattle.dc_base.specs.declared.records.Rec.TheVariants as rec
use Rattle.dc_base.specs.declared.records.StatusTransfer.{StatusTransfer}
use Rattle.transcript.proofs.OnEach.{each_append}
use Rattle.node_rules.specs.Choices.{Send}
use Rattle.node_rules.specs.Parts.{part_at}
use Rattle.node_rules.specs.declared.acts.Act.{Act}
use Rattle.node_rules.specs.declared.acts.Act.TheVariants.{FailOne as fail_one, Go as go, Pass as pass, Prepare as prepare, RecoverOne as recover_one, Say as say, Send as send, UnlockAll as unlock_all}
use Rattle.node_rules.specs.declared.parts.Part.{Part}
use Rattle.node_rules.specs.declared.parts.Part.TheVariants.{Awaits as awaits, Drops as drops, Establishes as establishes, HandsOver as hands_over, HasNoAnchor as has_no_anchor, Renews as renews}
use Rattle.run_control.specs.SecondControl.{Views, act_sends, act_view, acts_sends, acts_view, bare_record, carried_by, given, given_at, made, moved, opened_by, part_sends, part_view, passed, record_to, renewed, renewed_at, sent_by_items, set_by, stage_after, status_of, tells, tells_at, with_item}
use Rattle.run_control.specs.Views.{Bearer, Stage, View, at_stage, has_status, holds, is_awaited, lacks_status}
use Rattle.run_control.proofs.Sent.{either}
use Rattle.run_control.proofs.Taken.{records_in}
use Rattle.run_pairs.specs.Bearers.{KeepsAll, KeepsHeld}
use Rattle.run_pairs.specs.Fits.{Bearing, IsMovedBelow, IsMovedHeld, IsViewBelow}
use Rattle.run_pairs.proofs.ActKinds.{IsActBelow, IsSaying, IsUnmoved}
use Rattle.run_pairs.proofs.BearersKept.{IsNoGo, acts_keep}
use Rattle.run_pairs.proofs.BearersServed.{IsNoPass}
use Rattle.run_pairs.proofs.SecondWords.{told_append, told_of, told_send}

-- ---- generations

module _ (n : ℕ) where
  made_below : (g : ℕ) (i : Item) (k : Stage) → g < n → IsViewBelow n (made k (set_by g i))
  made_below g (item.Set id sn first shape threshold policy key old) k lt = lt
  made_below g (item.Unset id) k lt = tt

  renewed_at_below : (b : Bearer) (v : View) (k : Stage) → b.g < n → IsViewBelow n (Some v) → IsViewBelow n (Some (renewed_at k b v))
  renewed_at_below b v holds lt is = lt
  renewed_at_below b v lacks_status lt is = is
  renewed_at_below b v has_status lt is = is

  renewed_below : (g : ℕ) (i : Item) (o : Option View) → g < n → IsViewBelow n o → IsViewBelow n (renewed (set_by g i) o)
  renewed_below g (item.Set id sn first shape threshold policy key old) None lt is = tt
  renewed_below g (item.Set id sn first shape threshold policy key old) (Some v) lt is = renewed_at_below (record { id = id; g = g; n = sn; first = first }) v v.stage lt is
  renewed_below g (item.Unset id) o lt is = is

  given_at_below : (k : Stage) (v : View) → IsViewBelow n (Some v) → IsViewBelow n (given_at k v)
  given_at_below holds v is = tt
  given_at_below lacks_status v is = is
  given_at_below has_status v is = is

  given_below : (o : Option View) → IsViewBelow n o → IsViewBelow n (given o)
  given_below None is = tt
  given_below (Some v) is = given_at_below v.stage v is

  part_below : (g : ℕ) (i : Item) (part : Part) (o : Option View) → g < n → IsViewBelow n o → IsViewBelow n (part_view g i part o)
  part_below g i establishes o lt is = made_below g i holds lt
  part_below g i renews o lt is = renewed_below g i o lt is
  part_below g i awaits o lt is = made_below g i lacks_status lt
  part_below g i (hands_over to) o lt is = given_below o is
  part_below g i drops o lt is = tt
  part_below g i has_no_anchor o lt is = is

  items_below : (me : Node) (p : Plan) (items : List Item) (views : Views) → p.g < n → ((k : ℕ) → IsViewBelow n (views k)) → (k : ℕ) → IsViewBelow n (carried_by me p items views k)
  items_below me p [] views lt below k = below k
  items_below me p (i ∷ items) views lt below k =
      items_below me p items (with_item me p i views) lt
      (λ j. either (IsViewBelow n) (item_id i == j) (part_view p.g i (part_at me p.sec i) (views (item_id i))) (views j) (part_below p.g i (part_at me p.sec i) (views (item_id i)) lt (below (item_id i))) (below j)) k

  opened_below : (g : ℕ) (o : Option View) → IsViewBelow n o → IsViewBelow n (opened_by g o)
  opened_below g None is = tt
  opened_below g (Some v) is = either (λ (z : View). IsViewBelow n (Some z)) (v.bearer.g == g) (record v { opened = true }) v is is

  passed_below : (status : StatusTransfer) (adopts : Bool) (o : Option View) → IsViewBelow n o → IsViewBelow n (passed status adopts o)
  passed_below status adopts None is = tt
  passed_below status adopts (Some v) is = either (λ (z : View). IsViewBelow n (Some z)) (is_awaited status v) (at_stage (stage_after adopts) v) v is is

  act_below : (me : Node) (adopts : Bool) (a : Act) (views : Views) → IsActBelow n a → ((k : ℕ) → IsViewBelow n (views k)) → (k : ℕ) → IsViewBelow n (act_view me adopts a views k)
  act_below me adopts (send to r) views is below k = below k
  act_below me adopts (prepare p) views is below k = below k
  act_below me adopts (go p) views is below k = items_below me p p.items views is below k
  act_below me adopts (unlock_all g) views is below k = opened_below g (views k) (below k)
  act_below me adopts (say m) views is below k = below k
  act_below me adopts (recover_one id) views is below k = below k
  act_below me adopts (fail_one id g) views is below k = below k
  act_below me adopts (pass status) views is below k =
      either (IsViewBelow n) (status.id == k) (passed status adopts (views status.id)) (views k) (passed_below status adopts (views status.id) (below status.id)) (below k)

  -- acts leave each bearer of a generation below, if the plans that they carry out are
  pub acts_below : (me : Node) (acts : List (Bool × Act)) (views : Views) → AllByRecursion (IsActBelow n) (map (λ (a : Bool × Act). a.1) acts) → ((k : ℕ) → IsViewBelow n (views k)) → (k : ℕ) → IsViewBelow n (acts_view me acts views k)
  acts_below me [] views all below k = below k
  acts_below me (a ∷ acts) views all below k = acts_below me acts (act_view me a.0 a.1 views) all.1 (act_below me a.0 a.1 views all.0 below) k

  -- acts that carry none out
  pub still_below : (a : Act) → IsNoGo a → IsActBelow n a
  still_below (send to r) is = tt
  still_below (prepare p) is = tt
  still_below (go p) is = absurd is
  still_below (unlock_all g) is = tt
  still_below (say m) is = tt
  still_below (recover_one id) is = tt
  still_below (fail_one id g) is = tt
  still_below (pass status) is = tt

-- ---- nothing is told of an adoption

bare_unmoved : (r : Rec) → IsUnmoved r → IsUnmoved (bare_record r)
bare_unmoved (rec.Reconf plan key) is = is
bare_unmoved (rec.Rcomp g) is = is
bare_unmoved (rec.Scgf failed) is = is
bare_unmoved (rec.Recov id) is = is
bare_unmoved (rec.Recovd id) is = is
bare_unmoved (rec.Addreq plan key) is = is
bare_unmoved (rec.Addack g) is = is
bare_unmoved (rec.Addrej g) is = is
bare_unmoved (rec.Modreq plan key) is = is
bare_unmoved (rec.Modack g) is = is
bare_unmoved (rec.Modrej g) is = is
bare_unmoved (rec.Recfg g) is = is
bare_unmoved (rec.Relreq plan) is = is
bare_unmoved (rec.Relack g) is = is
bare_unmoved (rec.Relrej g) is = is
bare_unmoved (rec.Uecr g) is = is
bare_unmoved (rec.Snst status) is = is
bare_unmoved (rec.Moved g id) is = is
bare_unmoved (rec.Scgn id g) is = is
bare_unmoved rec.Modrqd is = is
bare_unmoved (rec.Modcnf g) is = is
bare_unmoved (rec.Modref word) is = is
bare_unmoved rec.Chgrqd is = is
bare_unmoved (rec.Chgcnf plan) is = is
bare_unmoved (rec.Chgref word) is = is
bare_unmoved rec.Relrqd is = is
bare_unmoved (rec.Relcnf plan) is = is

module _ (x : Node) where
  unmoved_both : (xs ys : List Send) → AllByRecursion IsUnmoved (told_of x xs) → AllByRecursion IsUnmoved (told_of x ys) → AllByRecursion IsUnmoved (told_of x (xs ++ ys))
  unmoved_both xs ys p q = subst (AllByRecursion IsUnmoved) (sym (told_append x xs ys)) (each_append IsUnmoved (told_of x xs) (told_of x ys) p q)

  one_unmoved : (k : LinkId) (r : Rec) → IsUnmoved r → AllByRecursion IsUnmoved (told_of x ((k, flight.Ctl r) ∷ []))
  one_unmoved k r is = by (is_same_link (link x M Ctl) k)
    where
      by : (b : Bool) → AllByRecursion IsUnmoved (records_in ((if b then flight.Ctl r ∷ [] else []) ++ []))
      by true = (is, tt)
      by false = tt

  tells_unmoved_at : (k : Stage) (me : Node) (g : ℕ) (v : View) → AllByRecursion IsUnmoved (told_of x (tells_at k (link me M Ctl) g v))
  tells_unmoved_at holds me g v = one_unmoved (link me M Ctl) (rec.Snst (status_of g v.bearer.id)) tt
  tells_unmoved_at lacks_status me g v = tt
  tells_unmoved_at has_status me g v = tt

  tells_unmoved : (me : Node) (g : ℕ) (o : Option View) → AllByRecursion IsUnmoved (told_of x (tells (link me M Ctl) g o))
  tells_unmoved me g None = tt
  tells_unmoved me g (Some v) = tells_unmoved_at v.stage me g v

  part_unmoved : (me : Node) (g : ℕ) (part : Part) (o : Option View) → AllByRecursion IsUnmoved (told_of x (part_sends me g part o))
  part_unmoved me g establishes o = tt
  part_unmoved me g renews o = tt
  part_unmoved me g awaits o = tt
  part_unmoved me g (hands_over to) o = tells_unmoved me g o
  part_unmoved me g drops o = tt
  part_unmoved me g has_no_anchor o = tt

  items_unmoved : (me : Node) (p : Plan) (items : List Item) (views : Views) → AllByRecursion IsUnmoved (told_of x (sent_by_items me p items views))
  items_unmoved me p [] views = tt
  items_unmoved me p (i ∷ items) views =
      unmoved_both (part_sends me p.g (part_at me p.sec i) (views (item_id i))) (sent_by_items me p items (with_item me p i views)) (part_unmoved me p.g (part_at me p.sec i) (views (item_id i))) (items_unmoved me p items (with_item me p i views))

  act_unmoved : (adopts : Bool) (a : Act) (views : Views) → IsNoPass a → IsSaying a → AllByRecursion IsUnmoved (told_of x (act_sends x adopts a views))
  act_unmoved adopts (send to r) views plain is = one_unmoved (link x to Ctl) (bare_record r) (bare_unmoved r is)
  act_unmoved adopts (prepare p) views plain is = tt
  act_unmoved adopts (go p) views plain is = items_unmoved x p p.items views
  act_unmoved adopts (unlock_all g) views plain is = tt
  act_unmoved adopts (say m) views plain is = tt
  act_unmoved adopts (recover_one id) views plain is = tt
  act_unmoved adopts (fail_one id g) views plain is = tt
  act_unmoved adopts (pass status) views plain is = absurd plain

  -- by acts that give nothing to an anchor
  pub acts_unmoved : (acts : List (Bool × Act)) (views : Views) → AllByRecursion IsNoPass (map (λ (a : Bool × Act). a.1) acts) → AllByRecursion IsSaying (map (λ (a : Bool × Act). a.1) acts) → AllByRecursion IsUnmoved (told_of x (acts_sends x acts views))
  acts_unmoved [] views plain all = tt
  acts_unmoved (a ∷ acts) views plain all =
      unmoved_both (act_sends x a.0 a.1 views) (acts_sends x acts (act_view x a.0 a.1 views)) (act_unmoved a.0 a.1 views plain.0 all.0) (acts_unmoved acts (act_view x a.0 a.1 views) plain.1 all.1)

-- ---- what is told of one

-- the bearer is held, if it moved by what is said of the bearers, and its generation is known
abbrev pub IsSaid : Node → Bearing → Views → Rec → Type 0
IsSaid x b at r = IsMovedHeld x b at r × IsMovedBelow b.below r

-- a record that tells of no adoption says nothing false of one
pub unmoved_said : (x : Node) (b : Bearing) (at : Views) (r : Rec) → IsUnmoved r → IsSaid x b at r
unmoved_said x b at (rec.Reconf plan key) is = (tt, tt)
unmoved_said x b at (rec.Rcomp g) is = (tt, tt)
unmoved_said x b at (rec.Scgf failed) is = (tt, tt)
unmoved_said x b at (rec.Recov id) is = (tt, tt)
unmoved_said x b at (rec.Recovd id) is = (tt, tt)
unmoved_said x b at (rec.Addreq plan key) is = (tt, tt)
unmoved_said x b at (rec.Addack g) is = (tt, tt)
unmoved_said x b at (rec.Addrej g) is = (tt, tt)
unmoved_said x b at (rec.Modreq plan key) is = (tt, tt)
unmoved_said x b at (rec.Modack g) is = (tt, tt)
unmoved_said x b at (rec.Modrej g) is = (tt, tt)
unmoved_said x b at (rec.Recfg g) is = (tt, tt)
unmoved_said x b at (rec.Relreq plan) is = (tt, tt)
unmoved_said x b at (rec.Relack g) is = (tt, tt)
unmoved_said x b at (rec.Relrej g) is = (tt, tt)
unmoved_said x b at (rec.Uecr g) is = (tt, tt)
unmoved_said x b at (rec.Snst status) is = (tt, tt)
unmoved_said x b at (rec.Moved g id) is = absurd is
unmoved_said x b at (rec.Scgn id g) is = (tt, tt)
unmoved_said x b at rec.Modrqd is = (tt, tt)
unmoved_said x b at (rec.Modcnf g) is = (tt, tt)
unmoved_said x b at (rec.Modref word) is = (tt, tt)
unmoved_said x b at rec.Chgrqd is = (tt, tt)
unmoved_said x b at (rec.Chgcnf plan) is = (tt, tt)
unmoved_said x b at (rec.Chgref word) is = (tt, tt)
unmoved_said x b at rec.Relrqd is = (tt, tt)
unmoved_said x b at (rec.Relcnf plan) is = (tt, tt)

module _ (x : Node) (second : is_secondary x ≡ true) (b : Bearing) (at : Views) where
  moved_said : (status : StatusTransfer) (adopts : Bool) (o : Option View) → IsViewBelow b.below o → KeepsHeld (passed status adopts o) (at status.id) → AllByRecursion (IsSaid x b at) (told_of x (moved x status adopts o))
  moved_said status adopts None below keeps = tt
  moved_said status adopts (Some v) below keeps = by (is_awaited status v) adopts keeps
    where
      by : (c d : Bool) → KeepsHeld (Some (if c then at_stage (stage_after d) v else v)) (at status.id) → AllByRecursion (IsSaid x b at) (told_of x (if c && d then record_to x M (rec.Moved v.bearer.g status.id) ∷ [] else []))
      by true true keeps = subst (AllByRecursion (IsSaid x b at)) (sym (told_send x M (rec.Moved v.bearer.g status.id) second)) ((λ same moves. keeps.1 refl, below), tt)
      by true false keeps = tt
      by false d keeps = tt

  unmoved_each : (rs : List Rec) → AllByRecursion IsUnmoved rs → AllByRecursion (IsSaid x b at) rs
  unmoved_each [] all = tt
  unmoved_each (r ∷ rs) all = (unmoved_said x b at r all.0, unmoved_each rs all.1)

  act_said : (adopts : Bool) (a : Act) (views : Views) → IsSaying a → ((k : ℕ) → IsViewBelow b.below (views k)) → KeepsAll (act_view x adopts a views) at → AllByRecursion (IsSaid x b at) (told_of x (act_sends x adopts a views))
  act_said adopts (send to r) views is below keeps = unmoved_each (told_of x (record_to x to r ∷ [])) (act_unmoved x adopts (send to r) views tt is)
  act_said adopts (prepare p) views is below keeps = tt
  act_said adopts (go p) views is below keeps = unmoved_each (told_of x (sent_by_items x p p.items views)) (items_unmoved x x p p.items views)
  act_said adopts (unlock_all g) views is below keeps = tt
  act_said adopts (say m) views is below keeps = tt
  act_said adopts (recover_one id) views is below keeps = tt
  act_said adopts (fail_one id g) views is below keeps = tt
  act_said adopts (pass status) views is below keeps =
      moved_said status adopts (views status.id) (below status.id) (subst (λ c. KeepsHeld (if c then passed status adopts (views status.id) else views status.id) (at status.id)) (eq-eqb status.id status.id refl) (keeps status.id))

-- by acts that carry no plan out
pub acts_said : (x : Node) → is_secondary x ≡ true → (b : Bearing) (acts : List (Bool × Act)) (views : Views) → AllByRecursion IsNoGo (map (λ (a : Bool × Act). a.1) acts) → AllByRecursion IsSaying (map (λ (a : Bool × Act). a.1) acts)
    → ((k : ℕ) → IsViewBelow b.below (views k)) → AllByRecursion (IsSaid x b (acts_view x acts views)) (told_of x (acts_sends x acts views))
acts_said x second b [] views none all below = tt
acts_said x second b (a ∷ acts) views none all below =
    let last = acts_view x acts (act_view x a.0 a.1 views) in
    subst (AllByRecursion (IsSaid x b last)) (sym (told_append x (act_sends x a.0 a.1 views) (acts_sends x acts (act_view x a.0 a.1 views))))
    (each_append (IsSaid x b last) (told_of x (act_sends x a.0 a.1 views)) (told_of x (acts_sends x acts (act_view x a.0 a.1 views)))
    (act_said x second b last a.0 a.1 views all.0 below (acts_keep x acts (act_view x a.0 a.1 views) none.1))
    (acts_said x second b acts (act_view x a.0 a.1 views) none.1 all.1 (act_below b.below x a.0 a.1 views (still_below b.below a.1 none.0) below)))

-- ---- without bearers

act_empty : (me : Node) (adopts : Bool) (a : Act) (views : Views) → IsNoGo a → ((k : ℕ) → views k ≡ None) → (k : ℕ) → act_view me adopts a views k ≡ None
act_empty me adopts (send to r) views is none k = none k
act_empty me adopts (prepare p) views is none k = none k
act_empty me adopts (go p) views is none k = absurd is
act_empty me adopts (unlock_all g) views is none k = ap (opened_by g) (none k)
act_empty me adopts (say m) views is none k = none k
act_empty me adopts (recover_one id) views is none k = none k
act_empty me adopts (fail_one id g) views is none k = none k
act_empty me adopts (pass status) views is none k = either (λ (o : Option View). o ≡ None) (status.id == k) (passed status adopts (views status.id)) (views k) (ap (passed status adopts) (none status.id)) (none k)

-- acts that carry no plan out make none
pub acts_empty : (me : Node) (acts : List (Bool × Act)) (views : Views) → AllByRecursion IsNoGo (map (λ (a : Bool × Act). a.1) acts) → ((k : ℕ) → views k ≡ None) → (k : ℕ) → acts_view me acts views k ≡ None
acts_empty me [] views all none k = none k
acts_empty me (a ∷ acts) views all none k = acts_empty me acts (act_view me a.0 a.1 views) all.1 (act_empty me a.0 a.1 views all.0 none) k
