-- What a secondary node notes of itself, as it takes a record, stands in its place.
use Rattle.std.proofs.Common.{ℕ, ◌≡◌, ◌==◌, ◌&&◌, ◌++◌, Bool, true, false, not, List, [], ◌∷◌, Option, Some, None, refl, sym, ap, subst, ◌∙◌, inl, inr}
use Rattle.std.specs.Prelude.{Err, Ok, Result, filter, if◌then◌else◌, is_none, is_some, ⊤}
use Rattle.std.specs.List.{AllByRecursion, list_any}
use Rattle.std.proofs.lemmas.Bool.{cases_Bool, eq-eqb}
use Rattle.dc_base.specs.declared.answers.Word.{Word}
use Rattle.dc_base.specs.declared.events.Line.TheVariants as line
use Rattle.dc_base.specs.declared.events.Note.{Note}
use Rattle.dc_base.specs.declared.events.Note.TheVariants as note
use Rattle.dc_base.specs.declared.nodes.Node.{Node}
use Rattle.dc_base.specs.declared.nodes.Want.{Want}
use Rattle.dc_base.specs.declared.nodes.Want.TheVariants as want
use Rattle.dc_base.specs.declared.records.Plan.{Plan}
use Rattle.dc_base.specs.declared.records.Rec.{Rec}
use Rattle.dc_base.specs.declared.records.Rec.TheVariants as rec
use Rattle.dc_base.specs.declared.records.RecKind.{RecKind}
use Rattle.dc_base.specs.declared.records.RecKind.TheVariants as kind
use Rattle.claims.specs.Past.{Past}
use Rattle.claims.specs.Placed.{confirms_want, refuses_want, tells_leave}
use Rattle.claims.specs.Reading.{second}
use Rattle.claims.specs.Sameness.{word_number}
use Rattle.node_rules.specs.Acts.{ProcFault}
use Rattle.node_rules.specs.Choices.{Choices}
use Rattle.node_rules.specs.Effects.{accepted, in_turn}
use Rattle.node_rules.specs.Held.{held, identities}
use Rattle.node_rules.specs.Lines.{is_end, lines_of, place}
use Rattle.node_rules.specs.Anchor.{AnchorState}
use Rattle.node_rules.specs.AnchorSending.{fail_scg, recover, unlock}
use Rattle.node_rules.specs.Adopting.{status_in}
use Rattle.node_rules.specs.SecondPlan.{second_act, second_item}
use Rattle.node_rules.specs.SecondRecords.{added, addition_asked, failure_told, forgotten, is_one_drop, is_wanted, key_confirmed, leave_confirmed, let_off, modification_asked, modified, reconfigured, recovery_asked, refused_there, release_asked, release_confirmed, release_needless, second_take, status_passed}
use Rattle.node_rules.specs.SecondState.{SecondActs, SecondProc, is_joined}
use Rattle.node_rules.specs.SecondStep.{key_in, second_record, second_record_taken}
use Rattle.node_rules.specs.Secondary.{SecondNode, on_fed_of, within}
use Rattle.node_rules.specs.declared.acts.Act.{Act}
use Rattle.node_rules.specs.declared.acts.Act.TheVariants.{FailOne as fail_one, Go as go, Pass as pass, Prepare as prepare, RecoverOne as recover_one, Say as say, Send as send, UnlockAll as unlock_all}
use Rattle.node_rules.specs.declared.commands.Membership.{Membership}
use Rattle.node_rules.specs.declared.commands.Membership.TheVariants.{Joined as joined, Left as left, Outside as outside}
use Rattle.node_rules.specs.declared.inputs.Effects.{Effects}
use Rattle.run_seconds.specs.Own.{IsOwn, said}
use Rattle.run_seconds.specs.Sides.{Side, held_by, side_of, sides}
use Rattle.run_seconds.proofs.Acts.{acts_did}
use Rattle.run_uplinks.proofs.SecondNotes.{AreOfAnchors, IsOfAnchor, second_by_each, second_by_fed, second_by_fed_of, second_by_item}
use Rattle.run_placed.proofs.OwnLines.{IsBefore, IsBetween, IsNoOwn, OneReasoned, SecondPlaced, outcome_placed, side_at, silent_placed}
use Rattle.run_placed.proofs.Reasons.{confirmed_there, joins, leaves_released, leaves_told}
use Rattle.run_placed.proofs.Reasons as reasons

-- ---- notes of anchors

-- a place at which no note of an anchor stands
record IsOff (j : ℕ) : Type 0 where
  zero : (0 == j) ≡ false
  two : (2 == j) ≡ false
  three : (3 == j) ≡ false
  four : (4 == j) ≡ false

off_one : IsOff 1
off_one = record { zero = refl; two = refl; three = refl; four = refl }

off_five : IsOff 5
off_five = record { zero = refl; two = refl; three = refl; four = refl }

anchor_off : (j : ℕ) → IsOff j → (n : Note) → IsOfAnchor n → (place n == j) ≡ false
anchor_off j off (note.Begin w) is = off.zero
anchor_off j off (note.Join x g) is = absurd cc
anchor_off j off (note.Leave x g) is = absurd cc
anchor_off j off (note.Give x id g) is = off.two
anchor_off j off (note.Own x id g) is = off.two
anchor_off j off (note.Set id g) is = off.two
anchor_off j off (note.Unset id) is = off.two
anchor_off j off (note.Up x id d count sdu) is = off.three
anchor_off j off (note.Freed id d count) is = off.four
anchor_off j off (note.Confirmed x) is = absurd cc
anchor_off j off (note.Refused x w) is = absurd cc
anchor_off j off note.Done is = absurd cc
anchor_off j off note.Rejected is = absurd cc

anchor_no_own : (n : Note) → IsOfAnchor n → IsNoOwn (line.Note n)
anchor_no_own (note.Begin w) is = refl
anchor_no_own (note.Join x g) is = absurd cc
anchor_no_own (note.Leave x g) is = absurd cc
anchor_no_own (note.Give x id g) is = refl
anchor_no_own (note.Own x id g) is = refl
anchor_no_own (note.Set id g) is = refl
anchor_no_own (note.Unset id) is = refl
anchor_no_own (note.Up x id d count sdu) is = refl
anchor_no_own (note.Freed id d count) is = refl
anchor_no_own (note.Confirmed x) is = absurd cc
anchor_no_own (note.Refused x w) is = absurd cc
anchor_no_own note.Done is = refl
anchor_no_own note.Rejected is = refl

-- notes of anchors are none of the node itself
pub anchors_no_own : (ns : List Note) → AreOfAnchors ns → AllByRecursion (λ n. IsNoOwn (line.Note n)) ns
anchors_no_own [] all = tt
anchors_no_own (n ∷ ns) all = (anchor_no_own n all.0, anchors_no_own ns all.1)

-- ---- notes of acts

at_append : (j : ℕ) (xs ys : List Note) → filter (λ n. place n == j) (xs ++ ys) ≡ filter (λ n. place n == j) xs ++ filter (λ n. place n == j) ys
at_append j [] ys = refl
at_append j (n ∷ xs) ys =
    elim (cases_Bool (place n == j)) [
      | inl here ↦ rw here (ap (λ zs. n ∷ zs) (at_append j xs ys))
      | inr there ↦ rw there (at_append j xs ys)
    ]

module _ (j : ℕ) (off : IsOff j) where
  anchors_none : (ns : List Note) → AreOfAnchors ns → filter (λ n. place n == j) ns ≡ []
  anchors_none [] all = refl
  anchors_none (n ∷ ns) all = let is = anchor_off j off n all.0 in rw is (anchors_none ns all.1)

  act_at : (c : Choices) (key : List ℕ) (s : SecondNode) (a : Act) → filter (λ n. place n == j) (second_act c key s a).1.notes ≡ filter (λ n. place n == j) (said (a ∷ []))
  act_at c key s (send to r) = refl
  act_at c key s (prepare p) = refl
  act_at c key s (go p) = anchors_none (second_act c key s (go p)).1.notes (second_by_each (second_item key p) (second_by_item key p) s p.items)
  act_at c key s (unlock_all g) =
      let f : SecondNode → ℕ → SecondNode × Effects = λ n id. on_fed_of n g (unlock c) id (held id n.anchors) in
      anchors_none (second_act c key s (unlock_all g)).1.notes (second_by_each f (λ n id. second_by_fed_of n g (unlock c) id (held id n.anchors)) s (identities s.anchors))
  act_at c key s (say n) = refl
  act_at c key s (recover_one id) = anchors_none (second_act c key s (recover_one id)).1.notes (second_by_fed s id (recover c) (held id s.anchors))
  act_at c key s (fail_one id g) = anchors_none (second_act c key s (fail_one id g)).1.notes (second_by_fed_of s g (fail_scg c) id (held id s.anchors))
  act_at c key s (pass st) = anchors_none (second_act c key s (pass st)).1.notes (second_by_fed s st.id (λ a. status_in c a st) (held st.id s.anchors))

  said_first : (a : Act) (acts : List Act) → said (a ∷ acts) ≡ said (a ∷ []) ++ said acts
  said_first (send to r) acts = refl
  said_first (prepare p) acts = refl
  said_first (go p) acts = refl
  said_first (unlock_all g) acts = refl
  said_first (say n) acts = refl
  said_first (recover_one id) acts = refl
  said_first (fail_one id g) acts = refl
  said_first (pass st) acts = refl

  -- those of the place are what the node was to say
  acts_at : (c : Choices) (key : List ℕ) (s : SecondNode) (acts : List Act) → filter (λ n. place n == j) (in_turn (second_act c key) s acts).1.notes ≡ filter (λ n. place n == j) (said acts)
  acts_at c key s [] = refl
  acts_at c key s (a ∷ acts) =
      let here = second_act c key s a in
      let rest = in_turn (second_act c key) here.0 acts in
      at_append j here.1.notes rest.1.notes
      ∙ ap (λ ns. ns ++ filter (λ n. place n == j) rest.1.notes) (act_at c key s a)
      ∙ ap (λ ns. filter (λ n. place n == j) (said (a ∷ [])) ++ ns) (acts_at c key here.0 acts)
      ∙ sym (at_append j (said (a ∷ [])) (said acts))
      ∙ ap (filter (λ n. place n == j)) (sym (said_first a acts))

own_no_end : (me : Node) (ns : List Note) → AllByRecursion (IsOwn me) ns → list_any is_end ns ≡ false
own_no_end me [] all = refl
own_no_end me (n ∷ ns) all = let off = all.0.0 in rw off (own_no_end me ns all.1)

-- ---- what the node is to say

module _ (s : SecondProc) (at_side : (q : Past) → side_of (second s.me q) ≡ side_at s.me (sides q)) where
  -- all that it is to say by a record stands in its place
  record AreReasoned (r : Rec) (acts : List Act) : Type 0 where
    own : AllByRecursion (IsOwn s.me) (said acts)
    front : OneReasoned (IsBefore s.me r (held_by s)) (filter (λ n. place n == 1) (said acts))
    back : OneReasoned (IsBetween s.me r (held_by s)) (filter (λ n. place n == 5) (said acts))

  abbrev TakesReasoned : Rec → Result SecondActs ProcFault → Type 0
  TakesReasoned r (Ok a) = AreReasoned r a.1
  TakesReasoned r (Err why) = ⊤

  joined_is : (r : Rec) (q : Past) → IsBefore s.me r (held_by s) q → (second s.me q).joined ≡ is_joined s.membership
  joined_is r q is = ap (λ (z : Side). z.joined) (at_side q ∙ is.side)

  denies_is : (r : Rec) (q : Past) → IsBefore s.me r (held_by s) q → (second s.me q).denies ≡ s.denies
  denies_is r q is = ap (λ (z : Side). z.denies) (at_side q ∙ is.side)

  wants_is : (r : Rec) (q : Past) → IsBetween s.me r (held_by s) q → (second s.me q).wants ≡ s.want
  wants_is r q is = ap (λ (z : Side). z.wants) (at_side q) ∙ is.wants

  wanted_some : (w : Want) (o : Option Want) → is_wanted w o ≡ true → is_some o ≡ true
  wanted_some want.Rekey None is = absurd cc
  wanted_some want.Change None is = absurd cc
  wanted_some want.Release None is = absurd cc
  wanted_some w (Some x) is = refl

  asked_for : (w : Want) (r : Rec) (q : Past) → IsBetween s.me r (held_by s) q → is_wanted w s.want ≡ true → is_some (second s.me q).wants ≡ true
  asked_for w r q is wanted = ap is_some (wants_is r q is) ∙ wanted_some w s.want wanted

  -- an addition
  added_reasoned : (q : Plan) (key : List ℕ) (d : Bool) → s.membership ≡ outside → s.denies ≡ d → AreReasoned (rec.Addreq q key) (added s q d).1
  added_reasoned q key true out denies = record { own = tt; front = tt; back = tt }
  added_reasoned q key false out denies = record {
    own = ((refl, refl), tt);
    front = λ p is. joins p s.me q key is.given (joined_is (rec.Addreq q key) p is ∙ ap is_joined out) (denies_is (rec.Addreq q key) p is ∙ denies);
    back = tt;
  }

  addition_reasoned : (q : Plan) (key : List ℕ) (m : Membership) → s.membership ≡ m → TakesReasoned (rec.Addreq q key) (addition_asked s q m)
  addition_reasoned q key outside is = added_reasoned q key s.denies is refl
  addition_reasoned q key joined is = tt
  addition_reasoned q key left is = tt

  -- a modification says nothing of the node
  modified_reasoned : (r : Rec) (q : Plan) (d : Bool) → AreReasoned r (modified s q d).1
  modified_reasoned r q true = record { own = tt; front = tt; back = tt }
  modified_reasoned r q false = record { own = tt; front = tt; back = tt }

  modification_reasoned : (r : Rec) (q : Plan) (m : Membership) → TakesReasoned r (modification_asked s q m)
  modification_reasoned r q outside = tt
  modification_reasoned r q joined = modified_reasoned r q (s.denies && not (is_one_drop q.items))
  modification_reasoned r q left = tt

  -- a release
  let_off_reasoned : (q : Plan) (d : Bool) → s.membership ≡ joined → (s.denies && is_none q.sec) ≡ d → AreReasoned (rec.Relreq q) (let_off s q d).1
  let_off_reasoned q true there denies = record { own = tt; front = tt; back = tt }
  let_off_reasoned q false there denies = record {
    own = ((refl, refl), tt);
    front = λ p is. leaves_released p s.me q is.given (joined_is (rec.Relreq q) p is ∙ ap is_joined there) (ap (λ b. b && is_none q.sec) (denies_is (rec.Relreq q) p is) ∙ denies);
    back = tt;
  }

  release_reasoned : (q : Plan) (m : Membership) → s.membership ≡ m → TakesReasoned (rec.Relreq q) (release_asked s q m)
  release_reasoned q outside is = tt
  release_reasoned q joined is = let_off_reasoned q (s.denies && is_none q.sec) is refl
  release_reasoned q left is = tt

  -- a request that is refused
  refused_reasoned : (k : RecKind) (r : Rec) (w : Word) (what : Want) → refuses_want w r ≡ true → (b : Bool) → is_wanted what s.want ≡ b → TakesReasoned r (refused_there k s w b)
  refused_reasoned k r w what refuses false wanted = tt
  refused_reasoned k r w what refuses true wanted = record {
    own = ((refl, refl), tt);
    front = tt;
    back = λ p is. reasons.refused_there p s.me r w is.given refuses (asked_for what r p is wanted);
  }

  -- one that is confirmed
  key_reasoned : (g : ℕ) (b : Bool) → is_wanted want.Rekey s.want ≡ b → (m : Membership) → TakesReasoned (rec.Modcnf g) (key_confirmed s g b m)
  key_reasoned g false wanted m = tt
  key_reasoned g true wanted outside = tt
  key_reasoned g true wanted left = tt
  key_reasoned g true wanted joined = record {
    own = ((refl, refl), tt);
    front = tt;
    back = λ p is. confirmed_there p s.me (rec.Modcnf g) is.given refl (asked_for want.Rekey (rec.Modcnf g) p is wanted);
  }

  leave_reasoned : (k : RecKind) (r : Rec) (q : Plan) (what : Want) → tells_leave q.g r ≡ true → confirms_want r ≡ true → (b : Bool) → is_wanted what s.want ≡ b → (m : Membership) → s.membership ≡ m
      → TakesReasoned r (leave_confirmed k s q b m)
  leave_reasoned k r q what tells confirms false wanted m there = tt
  leave_reasoned k r q what tells confirms true wanted outside there = tt
  leave_reasoned k r q what tells confirms true wanted left there = tt
  leave_reasoned k r q what tells confirms true wanted joined there = record {
    own = ((refl, refl), ((refl, refl), tt));
    front = λ p is. leaves_told p s.me r q.g is.given tells (joined_is r p is ∙ ap is_joined there);
    back = λ p is. confirmed_there p s.me r is.given confirms (asked_for what r p is wanted);
  }

  needless_reasoned : (q : Plan) (b : Bool) → is_wanted want.Release s.want ≡ b → TakesReasoned (rec.Relcnf q) (release_needless s b)
  needless_reasoned q false wanted = tt
  needless_reasoned q true wanted = record {
    own = ((refl, refl), tt);
    front = tt;
    back = λ p is. confirmed_there p s.me (rec.Relcnf q) is.given refl (asked_for want.Release (rec.Relcnf q) p is wanted);
  }

  release_confirmed_reasoned : (q : Plan) → TakesReasoned (rec.Relcnf q) (release_confirmed s q)
  release_confirmed_reasoned q = by (q.g == 0)
    where
      by : (b : Bool) → TakesReasoned (rec.Relcnf q) (if b then release_needless s (is_wanted want.Release s.want) else leave_confirmed kind.Relcnf s q (is_wanted want.Release s.want) s.membership)
      by true = needless_reasoned q (is_wanted want.Release s.want) refl
      by false = leave_reasoned kind.Relcnf (rec.Relcnf q) q want.Release (eq-eqb q.g q.g refl) refl (is_wanted want.Release s.want) refl s.membership refl

  -- any record
  take_reasoned : (r : Rec) → TakesReasoned r (second_take s r)
  take_reasoned (rec.Addreq q key) = addition_reasoned q key s.membership refl
  take_reasoned (rec.Modreq q key) = modification_reasoned (rec.Modreq q key) q s.membership
  take_reasoned (rec.Relreq q) = release_reasoned q s.membership refl
  take_reasoned (rec.Modcnf g) = key_reasoned g (is_wanted want.Rekey s.want) refl s.membership
  take_reasoned (rec.Modref w) = refused_reasoned kind.Modref (rec.Modref w) w want.Rekey (eq-eqb (word_number w) (word_number w) refl) (is_wanted want.Rekey s.want) refl
  take_reasoned (rec.Chgcnf q) = leave_reasoned kind.Chgcnf (rec.Chgcnf q) q want.Change (eq-eqb q.g q.g refl) refl (is_wanted want.Change s.want) refl s.membership refl
  take_reasoned (rec.Chgref w) = refused_reasoned kind.Chgref (rec.Chgref w) w want.Change (eq-eqb (word_number w) (word_number w) refl) (is_wanted want.Change s.want) refl
  take_reasoned (rec.Relcnf q) = release_confirmed_reasoned q
  take_reasoned (rec.Uecr g) = by s.membership
    where
      by : (m : Membership) → TakesReasoned (rec.Uecr g) (forgotten s m)
      by outside = tt
      by joined = tt
      by left = record { own = tt; front = tt; back = tt }
  take_reasoned (rec.Recfg g) = by s.membership
    where
      by : (m : Membership) → TakesReasoned (rec.Recfg g) (reconfigured s g m)
      by outside = tt
      by left = tt
      by joined = record { own = tt; front = tt; back = tt }
  take_reasoned (rec.Snst status) = by s.membership
    where
      by : (m : Membership) → TakesReasoned (rec.Snst status) (status_passed s status m)
      by outside = tt
      by left = tt
      by joined = record { own = tt; front = tt; back = tt }
  take_reasoned (rec.Recov id) = by s.membership
    where
      by : (m : Membership) → TakesReasoned (rec.Recov id) (recovery_asked s id m)
      by outside = tt
      by left = tt
      by joined = record { own = tt; front = tt; back = tt }
  take_reasoned (rec.Scgn id g) = by s.membership
    where
      by : (m : Membership) → TakesReasoned (rec.Scgn id g) (failure_told s id g m)
      by outside = tt
      by joined = record { own = tt; front = tt; back = tt }
      by left = record { own = tt; front = tt; back = tt }
  take_reasoned (rec.Reconf q key) = tt
  take_reasoned (rec.Rcomp g) = tt
  take_reasoned (rec.Scgf failed) = tt
  take_reasoned (rec.Recovd id) = tt
  take_reasoned (rec.Addack g) = tt
  take_reasoned (rec.Addrej g) = tt
  take_reasoned (rec.Modack g) = tt
  take_reasoned (rec.Modrej g) = tt
  take_reasoned (rec.Relack g) = tt
  take_reasoned (rec.Relrej g) = tt
  take_reasoned (rec.Moved g id) = tt
  take_reasoned rec.Modrqd = tt
  take_reasoned rec.Chgrqd = tt
  take_reasoned rec.Relrqd = tt

-- ---- its lines

-- a node takes a record that it was given, and of which the past says what its procedures hold
pub record_placed : (c : Choices) (s : SecondNode) → ((q : Past) → side_of (second s.proc.me q) ≡ side_at s.proc.me (sides q)) → (r : Rec) (fits : Bool) (q : Past)
    → IsBefore s.proc.me r (held_by s.proc) q → SecondPlaced q (lines_of (accepted (second_record c s r fits)).1)
record_placed c s at_side r false q is = silent_placed (accepted (second_record c s r false)).1 q tt
record_placed c s at_side r true q is = by (second_take s.proc r) (take_reasoned s.proc at_side r)
  where
    by : (x : Result SecondActs ProcFault) → TakesReasoned s.proc at_side r x → SecondPlaced q (lines_of (accepted (second_record_taken c (key_in r) s x)).1)
    by (Err why) reasoned = silent_placed (accepted (second_record_taken c (key_in r) s (Err why))).1 q tt
    by (Ok a) reasoned =
        let n = within a.0.membership (record s { proc = a.0 }) in
        let done = in_turn (second_act c (key_in r)) n a.1 in
        outcome_placed s.proc.me r (held_by s.proc) (accepted done).1
        (own_no_end s.proc.me done.1.notes ((acts_did c (key_in r) n a.1).own s.proc.me reasoned.own))
        (subst (OneReasoned (IsBefore s.proc.me r (held_by s.proc))) (sym (acts_at 1 off_one c (key_in r) n a.1)) reasoned.front)
        (subst (OneReasoned (IsBetween s.proc.me r (held_by s.proc))) (sym (acts_at 5 off_five c (key_in r) n a.1)) reasoned.back) q is
