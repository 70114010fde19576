-- What a secondary node notes as it does what its procedures have it do: what these say; all else is of its anchors.
use Rattle.std.proofs.Common.{ℕ, ◌≡◌, ◌++◌, Bool, true, false, List, [], ◌∷◌, Option, Some, None, refl, sym, ap, subst, ◌∙◌, inl, inr}
use Rattle.std.specs.Prelude.{fold, ◌||◌}
use Rattle.std.specs.List.{AllByRecursion}
use Rattle.std.proofs.lemmas.Bool.{cases_Bool}
use Rattle.dc_base.specs.Records.{item_id}
use Rattle.dc_base.specs.declared.events.Note.{Note}
use Rattle.dc_base.specs.declared.events.Note.TheVariants as note
use Rattle.dc_base.specs.declared.nodes.Node.{Node}
use Rattle.dc_base.specs.declared.records.Item.{Item}
use Rattle.dc_base.specs.declared.records.Plan.{Plan}
use Rattle.transcript.proofs.OnEach.{each_append}
use Rattle.node_rules.specs.Adopting.{status_in}
use Rattle.node_rules.specs.Anchor.{Active, AnchorState}
use Rattle.node_rules.specs.AnchorSending.{fail_scg, recover, unlock}
use Rattle.node_rules.specs.Choices.{Choices}
use Rattle.node_rules.specs.Effects.{in_turn}
use Rattle.node_rules.specs.Feed.{Fed}
use Rattle.node_rules.specs.Held.{held, holding, identities}
use Rattle.node_rules.specs.Parts.{part_at}
use Rattle.node_rules.specs.SecondPlan.{frozen_active, frozen_there, renewed_active, renewed_there, second_act, second_does, second_item, second_part}
use Rattle.node_rules.specs.SecondState.{SecondActs}
use Rattle.node_rules.specs.Secondary.{SecondNode, active_in, is_fed_of, name_of, on_fed, on_fed_of, within}
use Rattle.node_rules.specs.Setup.{Setup, setup_of}
use Rattle.node_rules.specs.declared.acts.Act.{Act}
use Rattle.node_rules.specs.declared.acts.Act.TheVariants.{FailOne as fail_one, Go as go, Pass as pass, Prepare as prepare, RecoverOne as recover_one, Say as say, Send as send, UnlockAll as unlock_all}
use Rattle.node_rules.specs.declared.bearers.AnchorOut.{AnchorOut}
use Rattle.node_rules.specs.declared.commands.Membership.{Membership}
use Rattle.node_rules.specs.declared.commands.Membership.TheVariants.{Joined as joined, Left as left, Outside as outside}
use Rattle.node_rules.specs.declared.inputs.Effects.{Effects}
use Rattle.node_rules.specs.declared.parts.Part.{Part}
use Rattle.node_rules.specs.declared.parts.Part.TheVariants.{Establishes as establishes, Renews as renews, Awaits as awaits, HandsOver as hands_over, Drops as drops, HasNoAnchor as has_no_anchor}
use Rattle.run_uplinks.specs.Notes.{changes, is_procedural}
use Rattle.run_uplinks.proofs.SecondNotes.{AreOfAnchors, IsOfAnchor, second_by_each, second_by_fed, second_by_fed_of, second_by_item}
use Rattle.run_seconds.specs.Own.{IsOwn, own, said}
use Rattle.run_seconds.specs.Sides.{Side, held_by}
use Rattle.run_seconds.proofs.Own.{Says}

-- ---- notes of anchors

-- a node may note it of itself
of_anchor_own : (me : Node) (n : Note) → IsOfAnchor n → IsOwn me n
of_anchor_own me (note.Begin w) is = (refl, tt)
of_anchor_own me (note.Join x g) is = absurd cc
of_anchor_own me (note.Leave x g) is = absurd cc
of_anchor_own me (note.Give x id g) is = (refl, tt)
of_anchor_own me (note.Own x id g) is = (refl, tt)
of_anchor_own me (note.Set id g) is = (refl, tt)
of_anchor_own me (note.Unset id) is = (refl, tt)
of_anchor_own me (note.Up x id d count sdu) is = (refl, tt)
of_anchor_own me (note.Freed id d count) is = (refl, tt)
of_anchor_own me (note.Confirmed x) is = absurd cc
of_anchor_own me (note.Refused x w) is = absurd cc
of_anchor_own me note.Done is = absurd cc
of_anchor_own me note.Rejected is = absurd cc

-- nothing is said by it
of_anchor_silent : (n : Note) → IsOfAnchor n → (z : Side) → own z n ≡ z
of_anchor_silent (note.Begin w) is z = refl
of_anchor_silent (note.Join x g) is z = absurd cc
of_anchor_silent (note.Leave x g) is z = absurd cc
of_anchor_silent (note.Give x id g) is z = refl
of_anchor_silent (note.Own x id g) is z = refl
of_anchor_silent (note.Set id g) is z = refl
of_anchor_silent (note.Unset id) is z = refl
of_anchor_silent (note.Up x id d count sdu) is z = refl
of_anchor_silent (note.Freed id d count) is z = refl
of_anchor_silent (note.Confirmed x) is z = absurd cc
of_anchor_silent (note.Refused x w) is z = absurd cc
of_anchor_silent note.Done is z = refl
of_anchor_silent note.Rejected is z = refl

pub anchors_own : (me : Node) (ns : List Note) → AreOfAnchors ns → AllByRecursion (IsOwn me) ns
anchors_own me [] all = tt
anchors_own me (n ∷ ns) all = (of_anchor_own me n all.0, anchors_own me ns all.1)

pub anchors_silent : (ns : List Note) → AreOfAnchors ns → (z : Side) → fold own z ns ≡ z
anchors_silent [] all z = refl
anchors_silent (n ∷ ns) all z = ap (λ y. fold own y ns) (of_anchor_silent n all.0 z) ∙ anchors_silent ns all.1 z

own_append : (xs ys : List Note) (z : Side) → fold own z (xs ++ ys) ≡ fold own (fold own z xs) ys
own_append [] ys z = refl
own_append (n ∷ xs) ys z = own_append xs ys (own z n)

-- ---- the procedures stay as they are

pub fed_proc : (s : SecondNode) (id : ℕ) (f : AnchorState → AnchorState × AnchorOut) (o : Option Fed) → (on_fed s id f o).0.proc ≡ s.proc
fed_proc s id f None = refl
fed_proc s id f (Some x) = refl

fed_of_proc : (s : SecondNode) (g : ℕ) (f : AnchorState → AnchorState × AnchorOut) (id : ℕ) (o : Option Fed) → (on_fed_of s g f id o).0.proc ≡ s.proc
fed_of_proc s g f id o = elim (cases_Bool (is_fed_of g o)) [ inl yes' ↦ rw yes' (fed_proc s id f o) | inr no' ↦ rw no' refl ]

each_proc : {X : Type 0} (f : SecondNode → X → SecondNode × Effects) → ((s : SecondNode) (x : X) → (f s x).0.proc ≡ s.proc) → (s : SecondNode) (xs : List X) → (in_turn f s xs).0.proc ≡ s.proc
each_proc f each s [] = refl
each_proc f each s (x ∷ xs) = each_proc f each (f s x).0 xs ∙ each s x

active_proc : (s : SecondNode) (id g : ℕ) (setup : Setup) (x : Fed) (o : Option Active) → (renewed_active s id g setup x o).0.proc ≡ s.proc
active_proc s id g setup x None = refl
active_proc s id g setup x (Some a) = refl

renewed_proc : (s : SecondNode) (id g : ℕ) (setup : Option Setup) (o : Option Fed) → (renewed_there s id g setup o).0.proc ≡ s.proc
renewed_proc s id g None o = refl
renewed_proc s id g (Some setup) None = refl
renewed_proc s id g (Some setup) (Some x) = active_proc s id g setup x (active_in x.anchor)

frozen_proc : (s : SecondNode) (id g : ℕ) (to : Node) (x : Fed) (o : Option Active) → (frozen_active s id g to x o).0.proc ≡ s.proc
frozen_proc s id g to x None = refl
frozen_proc s id g to x (Some a) = refl

frozen_there_proc : (s : SecondNode) (id g : ℕ) (to : Node) (o : Option Fed) → (frozen_there s id g to o).0.proc ≡ s.proc
frozen_there_proc s id g to None = refl
frozen_there_proc s id g to (Some x) = frozen_proc s id g to x (active_in x.anchor)

part_proc : (s : SecondNode) (p : Plan) (setup : Option Setup) (id : ℕ) (part : Part) → (second_part s p setup id part).0.proc ≡ s.proc
part_proc s p setup id establishes = refl
part_proc s p setup id renews = renewed_proc s id p.g setup (held id s.anchors)
part_proc s p setup id awaits = refl
part_proc s p setup id (hands_over to) = frozen_there_proc s id p.g to (held id s.anchors)
part_proc s p setup id drops = refl
part_proc s p setup id has_no_anchor = refl

item_proc : (key : List ℕ) (p : Plan) (s : SecondNode) (i : Item) → (second_item key p s i).0.proc ≡ s.proc
item_proc key p s i = part_proc _ p (setup_of (name_of s) p s.alg key i) (item_id i) (part_at (name_of s) p.sec i)

-- ---- acts

-- the node did this, and noted what it was to say
pub record Did (s : SecondNode) (ns : List Note) (done : SecondNode × Effects) : Type 0 where
  pub proc : done.0.proc ≡ s.proc
  pub side : (z : Side) → fold own z done.1.notes ≡ fold own z ns
  pub own : (me : Node) → AllByRecursion (IsOwn me) ns → AllByRecursion (IsOwn me) done.1.notes

-- it is of its anchors alone
pub of_anchors : (s : SecondNode) (done : SecondNode × Effects) → done.0.proc ≡ s.proc → AreOfAnchors done.1.notes → Did s [] done
of_anchors s done same all = record { proc = same; side = anchors_silent done.1.notes all; own = λ me none. anchors_own me done.1.notes all }

act_did : (c : Choices) (key : List ℕ) (s : SecondNode) (a : Act) → Did s (said (a ∷ [])) (second_act c key s a)
act_did c key s (send to r) = of_anchors s (second_act c key s (send to r)) refl tt
act_did c key s (prepare p) = of_anchors s (second_act c key s (prepare p)) refl tt
act_did c key s (go p) =
    of_anchors s (second_act c key s (go p)) (each_proc (second_item key p) (item_proc key p) s p.items) (second_by_each (second_item key p) (second_by_item key p) s p.items)
act_did c key s (unlock_all g) =
    let f : SecondNode → ℕ → SecondNode × Effects = λ n id. on_fed_of n g (unlock c) id (held id n.anchors) in
    of_anchors s (second_act c key s (unlock_all g)) (each_proc f (λ n id. fed_of_proc n g (unlock c) id (held id n.anchors)) s (identities s.anchors))
    (second_by_each f (λ n id. second_by_fed_of n g (unlock c) id (held id n.anchors)) s (identities s.anchors))
act_did c key s (say n) = record { proc = refl; side = λ z. refl; own = λ me all. all }
act_did c key s (recover_one id) = of_anchors s (second_act c key s (recover_one id)) (fed_proc s id (recover c) (held id s.anchors)) (second_by_fed s id (recover c) (held id s.anchors))
act_did c key s (fail_one id g) =
    of_anchors s (second_act c key s (fail_one id g)) (fed_of_proc s g (fail_scg c) id (held id s.anchors)) (second_by_fed_of s g (fail_scg c) id (held id s.anchors))
act_did c key s (pass st) =
    of_anchors s (second_act c key s (pass st)) (fed_proc s st.id (λ a. status_in c a st) (held st.id s.anchors)) (second_by_fed s st.id (λ a. status_in c a st) (held st.id s.anchors))

-- what an act says comes before what the others do
said_first : (a : Act) (acts : List Act) → said (a ∷ acts) ≡ said (a ∷ []) ++ said acts
said_first (send to r) acts = refl
said_first (prepare p) acts = refl
said_first (go p) acts = refl
said_first (unlock_all g) acts = refl
said_first (say n) acts = refl
said_first (recover_one id) acts = refl
said_first (fail_one id g) acts = refl
said_first (pass st) acts = refl

own_parts : (me : Node) (xs ys : List Note) → AllByRecursion (IsOwn me) (xs ++ ys) → AllByRecursion (IsOwn me) xs × AllByRecursion (IsOwn me) ys
own_parts me [] ys all = (tt, all)
own_parts me (n ∷ xs) ys all = let more = own_parts me xs ys all.1 in ((all.0, more.0), more.1)

pub acts_did : (c : Choices) (key : List ℕ) (s : SecondNode) (acts : List Act) → Did s (said acts) (in_turn (second_act c key) s acts)
acts_did c key s [] = record { proc = refl; side = λ z. refl; own = λ me all. all }
acts_did c key s (a ∷ acts) =
    let first = second_act c key s a in
    let here = act_did c key s a in
    let more = acts_did c key first.0 acts in
    let rest = in_turn (second_act c key) first.0 acts in
    record {
      proc = more.proc ∙ here.proc;
      side = λ z. own_append first.1.notes rest.1.notes z ∙ ap (λ y. fold own y rest.1.notes) (here.side z) ∙ more.side (fold own z (said (a ∷ [])))
          ∙ sym (own_append (said (a ∷ [])) (said acts) z) ∙ ap (fold own z) (sym (said_first a acts));
      own = λ me all.
          let parts = own_parts me (said (a ∷ [])) (said acts) (subst (AllByRecursion (IsOwn me)) (said_first a acts) all) in
          each_append (IsOwn me) first.1.notes rest.1.notes (here.own me parts.0) (more.own me parts.1);
    }

-- ---- the procedures

within_proc : (m : Membership) (s : SecondNode) → (within m s).proc ≡ s.proc
within_proc outside s = refl
within_proc joined s = refl
within_proc left s = refl

-- after a step of this node what is said of it is what its procedures hold, and what it noted is of itself
pub record IsKept (z : Side) (s next : SecondNode) (ns : List Note) : Type 0 where
  pub me : next.proc.me ≡ s.proc.me
  pub side : fold own z ns ≡ held_by next.proc
  pub own : AllByRecursion (IsOwn s.proc.me) ns

-- where what it was to say is so
pub does_kept : (c : Choices) (key : List ℕ) (z : Side) (s : SecondNode) (r : SecondActs) → r.0.me ≡ s.proc.me → fold own z (said r.1) ≡ held_by r.0 → AllByRecursion (IsOwn s.proc.me) (said r.1)
    → let done = second_does c key s r in IsKept z s done.0 done.1.notes
does_kept c key z s r me side all =
    let start = within r.0.membership (record s { proc = r.0 }) in
    let did = acts_did c key start r.1 in
    let now : (second_does c key s r).0.proc ≡ r.0 = did.proc ∙ within_proc r.0.membership (record s { proc = r.0 }) in
    record { me = ap (λ q. q.me) now ∙ me; side = did.side z ∙ side ∙ ap held_by (sym now); own = did.own s.proc.me all }
