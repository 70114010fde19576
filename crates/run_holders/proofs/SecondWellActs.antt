-- What a secondary node notes of anchors that become active, where it carries a plan out, opens anchors or has them recover.
use Rattle.std.proofs.Common.{ℕ, ◌≡◌, ◌++◌, ◌∙◌, Bool, true, false, List, [], ◌∷◌, Option, Some, None, refl, sym, subst, inl, inr}
use Rattle.std.specs.List.{AllByRecursion}
use Rattle.std.specs.Prelude.{⊤, ◌⊎◌}
use Rattle.dc_base.specs.Records.{item_id}
use Rattle.dc_base.specs.declared.events.Note.{Note}
use Rattle.dc_base.specs.declared.events.Note.TheVariants as note
use Rattle.dc_base.specs.declared.nodes.Dir.TheVariants.{Ul}
use Rattle.dc_base.specs.declared.nodes.Node.{Node}
use Rattle.dc_base.specs.declared.records.Item.{Item}
use Rattle.dc_base.specs.declared.records.Plan.{Plan}
use Rattle.transcript.proofs.OnEach.{each_append}
use Rattle.node_rules.specs.Anchor.{Active, AnchorState, setup_at}
use Rattle.node_rules.specs.AnchorSending.{fail_scg, recover, unlock}
use Rattle.node_rules.specs.Choices.{Choices}
use Rattle.node_rules.specs.Effects.{in_turn, quiet}
use Rattle.node_rules.specs.Feed.{Fed}
use Rattle.node_rules.specs.Held.{held, holding, identities}
use Rattle.node_rules.specs.Master.{handed_up}
use Rattle.node_rules.specs.Parts.{host_at, part_at}
use Rattle.node_rules.specs.SecondPlan.{frozen_active, frozen_there, renewed_active, renewed_there, second_act, second_does, second_item, second_part}
use Rattle.node_rules.specs.SecondState.{SecondActs}
use Rattle.node_rules.specs.Secondary.{SecondNode, active_in, adopted_there, is_fed_of, low_told, name_of, on_fed, on_fed_of, second_effects, within}
use Rattle.node_rules.specs.Setup.{Setup, setup_of}
use Rattle.node_rules.specs.declared.acts.Act.{Act}
use Rattle.node_rules.specs.declared.acts.Act.TheVariants.{FailOne as fail_one, Go as go, Pass as pass, Prepare as prepare, RecoverOne as recover_one, Say as say, Send as send, UnlockAll as unlock_all}
use Rattle.node_rules.specs.declared.bearers.AnchorOut.{AnchorOut}
use Rattle.node_rules.specs.declared.commands.Membership.{Membership}
use Rattle.node_rules.specs.declared.commands.Membership.TheVariants.{Joined as joined, Left as left, Outside as outside}
use Rattle.node_rules.specs.declared.inputs.Effects.{Effects}
use Rattle.node_rules.specs.declared.parts.Part.{Part}
use Rattle.node_rules.specs.declared.parts.Part.TheVariants.{Awaits as awaits, Drops as drops, Establishes as establishes, HandsOver as hands_over, HasNoAnchor as has_no_anchor, Renews as renews}
use Rattle.run_places.proofs.SecondTakes.{IsQuiet}
use Rattle.run_holders.specs.Actives.{is_of_anchor}
use Rattle.run_holders.proofs.AnchorSteps.{Stays, either, fail_stays, recover_stays, unlock_stays}
use Rattle.run_holders.proofs.SecondTelling.{SaysBeside}

-- ---- items, parts and notes

-- an item is one of several
abbrev pub IsAmong : Item → List Item → Type 0
IsAmong i [] = ⊥
IsAmong i (j ∷ items) = (j ≡ i) ⊎ IsAmong i items

-- what is so of each is so of it
pub each_among : (P : Item → Type 0) (items : List Item) (i : Item) → AllByRecursion P items → IsAmong i items → P i
each_among P [] i all among = absurd among
each_among P (j ∷ items) i all (inl here) = subst P here all.0
each_among P (j ∷ items) i all (inr later) = each_among P items i all.1 later

-- by this part in an item a node has an active anchor of the bearer, which is noted
abbrev pub is_active_part : Part → Bool
is_active_part establishes = true
is_active_part renews = true
is_active_part awaits = false
is_active_part (hands_over to) = false
is_active_part drops = false
is_active_part has_no_anchor = false

-- a note says of no anchor that it is active, but where this holds of its bearer and generation
abbrev pub OwnBy : (ℕ → ℕ → Type 0) → Note → Type 0
OwnBy P (note.Own y id g) = P id g
OwnBy P _ = ⊤

module _ (P : ℕ → ℕ → Type 0) where
  abbrev pub AreOwn : List Note → Type 0
  AreOwn ns = AllByRecursion (OwnBy P) ns

  -- a step keeps the name of the node
  pub record Walks (me : Node) (done : SecondNode × Effects) : Type 0 where
    pub name : name_of done.0 ≡ me
    pub own : AreOwn done.1.notes

  -- ---- anchors

  ups_own : (me : Node) (id : ℕ) (ups : List (ℕ × List ℕ)) → AreOwn (handed_up me id Ul ups)
  ups_own me id [] = tt
  ups_own me id (u ∷ ups) = (tt, ups_own me id ups)

  pub effects_own : (me : Node) (id g : ℕ) (out : AnchorOut) → (out.adopted ≡ true → P id g) → AreOwn (second_effects me id g out).notes
  effects_own me id g out so =
      each_append (OwnBy P) ((adopted_there me id g out.adopted).notes ++ handed_up me id Ul out.ups) (low_told me id g out.low).notes
      (each_append (OwnBy P) (adopted_there me id g out.adopted).notes (handed_up me id Ul out.ups) (by out.adopted so) (ups_own me id out.ups)) (low out.low)
    where
      by : (b : Bool) → (b ≡ true → P id g) → AreOwn (adopted_there me id g b).notes
      by true so' = (so' refl, tt)
      by false so' = tt

      low : (o : Option ℕ) → AreOwn (low_told me id g o).notes
      low None = tt
      low (Some count) = tt

  pub no_adoption : (b : Bool) → b ≡ false → {X : Type 0} → b ≡ true → X
  no_adoption b none is = absurd (let bad : true ≡ false = sym is ∙ none in cc)

  pub on_fed_walks : (s : SecondNode) (id : ℕ) (f : AnchorState → AnchorState × AnchorOut) (o : Option Fed)
      → ((x : Fed) → o ≡ Some x → (f x.anchor).1.adopted ≡ true → P id (setup_at (f x.anchor).0).g) → Walks (name_of s) (on_fed s id f o)
  on_fed_walks s id f None so = record { name = refl; own = tt }
  on_fed_walks s id f (Some x) so = record { name = refl; own = effects_own (name_of s) id (setup_at (f x.anchor).0).g (f x.anchor).1 (so x refl) }

  pub stays_walk : (s : SecondNode) (id : ℕ) (f : AnchorState → AnchorState × AnchorOut) → ((a : AnchorState) → Stays a (f a)) → (o : Option Fed)
      → Walks (name_of s) (on_fed s id f o)
  stays_walk s id f stays o = on_fed_walks s id f o (λ x at adopted. no_adoption (f x.anchor).1.adopted (stays x.anchor).adopted adopted)

  stays_walk_of : (s : SecondNode) (g : ℕ) (f : AnchorState → AnchorState × AnchorOut) → ((a : AnchorState) → Stays a (f a)) → (id : ℕ) (o : Option Fed)
      → Walks (name_of s) (on_fed_of s g f id o)
  stays_walk_of s g f stays id o =
      either (Walks (name_of s)) (is_fed_of g o) (on_fed s id f o) (s, quiet) (stays_walk s id f stays o) (record { name = refl; own = tt })

  -- ---- one step after another

  turn_walks : {X : Type 0} (me : Node) (Fits : X → Type 0) (f : SecondNode → X → SecondNode × Effects)
      → ((s : SecondNode) (x : X) → name_of s ≡ me → Fits x → Walks me (f s x)) → (s : SecondNode) (xs : List X) → name_of s ≡ me → AllByRecursion Fits xs
      → Walks me (in_turn f s xs)
  turn_walks me Fits f each s [] named fits = record { name = named; own = tt }
  turn_walks me Fits f each s (x ∷ xs) named fits =
      let one = each s x named fits.0 in
      let more = turn_walks me Fits f each (f s x).0 xs one.name fits.1 in
      record { name = more.name; own = each_append (OwnBy P) (f s x).1.notes (in_turn f (f s x).0 xs).1.notes one.own more.own }

  -- ---- a plan

  renews_walk : (s : SecondNode) (id g : ℕ) (st : Setup) (x : Fed) (o : Option Active) → P id g → Walks (name_of s) (renewed_active s id g st x o)
  renews_walk s id g st x None so = record { name = refl; own = tt }
  renews_walk s id g st x (Some a) so = record { name = refl; own = (so, tt) }

  renewed_walks : (s : SecondNode) (id g : ℕ) (o : Option Setup) (x : Option Fed) → P id g → Walks (name_of s) (renewed_there s id g o x)
  renewed_walks s id g None x so = record { name = refl; own = tt }
  renewed_walks s id g (Some st) None so = record { name = refl; own = tt }
  renewed_walks s id g (Some st) (Some x) so = renews_walk s id g st x (active_in x.anchor) so

  gives_walk : (s : SecondNode) (id g : ℕ) (to : Node) (x : Fed) (o : Option Active) → Walks (name_of s) (frozen_active s id g to x o)
  gives_walk s id g to x None = record { name = refl; own = tt }
  gives_walk s id g to x (Some a) = record { name = refl; own = (tt, tt) }

  frozen_walks : (s : SecondNode) (id g : ℕ) (to : Node) (o : Option Fed) → Walks (name_of s) (frozen_there s id g to o)
  frozen_walks s id g to None = record { name = refl; own = tt }
  frozen_walks s id g to (Some x) = gives_walk s id g to x (active_in x.anchor)

  part_walks : (s : SecondNode) (p : Plan) (setup : Option Setup) (id : ℕ) (part : Part) → (is_active_part part ≡ true → P id p.g)
      → Walks (name_of s) (second_part s p setup id part)
  part_walks s p setup id establishes so = record { name = refl; own = (so refl, tt) }
  part_walks s p setup id renews so = renewed_walks s id p.g setup (held id s.anchors) (so refl)
  part_walks s p setup id awaits so = record { name = refl; own = tt }
  part_walks s p setup id (hands_over to) so = frozen_walks s id p.g to (held id s.anchors)
  part_walks s p setup id drops so = record { name = refl; own = tt }
  part_walks s p setup id has_no_anchor so = record { name = refl; own = tt }

  -- an item by which an anchor becomes active is such
  abbrev pub ItemOwns : Node → Plan → Item → Type 0
  ItemOwns me p i = is_active_part (part_at me p.sec i) ≡ true → P (item_id i) p.g

  item_walks : (me : Node) (key : List ℕ) (p : Plan) (s : SecondNode) (i : Item) → name_of s ≡ me → ItemOwns me p i → Walks me (second_item key p s i)
  item_walks me key p s i named so =
      let s' : SecondNode = record s { hosts = holding (item_id i) (host_at (name_of s) p i) s.hosts } in
      let is =
      part_walks s' p (setup_of (name_of s) p s.alg key i) (item_id i) (part_at (name_of s) p.sec i)
      (λ active. so (subst (λ z. is_active_part (part_at z p.sec i) ≡ true) named active)) in
      record { name = is.name ∙ named; own = is.own }

  -- ---- acts

  -- an act by which anchors become active so; a status transfer is passed on alone
  abbrev pub ActOwns : Node → Act → Type 0
  ActOwns me (send to r) = ⊤
  ActOwns me (prepare p) = ⊤
  ActOwns me (go p) = AllByRecursion (ItemOwns me p) p.items
  ActOwns me (unlock_all g) = ⊤
  ActOwns me (say n) = OwnBy P n
  ActOwns me (recover_one id) = ⊤
  ActOwns me (fail_one id g) = ⊤
  ActOwns me (pass st) = ⊥

  any_fit : {X : Type 0} (xs : List X) → AllByRecursion (λ (x : X). ⊤) xs
  any_fit [] = tt
  any_fit (x ∷ xs) = (tt, any_fit xs)

  named_walks : (s : SecondNode) (me : Node) (done : SecondNode × Effects) → name_of s ≡ me → Walks (name_of s) done → Walks me done
  named_walks s me done named is = record { name = is.name ∙ named; own = is.own }

  act_walks : (c : Choices) (key : List ℕ) (me : Node) (s : SecondNode) (a : Act) → name_of s ≡ me → ActOwns me a → Walks me (second_act c key s a)
  act_walks c key me s (send to r) named owns = record { name = named; own = tt }
  act_walks c key me s (prepare p) named owns = record { name = named; own = tt }
  act_walks c key me s (go p) named owns =
      turn_walks me (ItemOwns me p) (second_item key p) (λ n i same so. item_walks me key p n i same so) s p.items named owns
  act_walks c key me s (unlock_all g) named owns =
      turn_walks me (λ id. ⊤) (λ n id. on_fed_of n g (unlock c) id (held id n.anchors))
      (λ n id same fits. named_walks n me _ same (stays_walk_of n g (unlock c) (unlock_stays c) id (held id n.anchors))) s (identities s.anchors) named
      (any_fit (identities s.anchors))
  act_walks c key me s (say n) named owns = record { name = named; own = (owns, tt) }
  act_walks c key me s (recover_one id) named owns = named_walks s me _ named (stays_walk s id (recover c) (recover_stays c) (held id s.anchors))
  act_walks c key me s (fail_one id g) named owns = named_walks s me _ named (stays_walk_of s g (fail_scg c) (fail_stays c) id (held id s.anchors))
  act_walks c key me s (pass st) named owns = absurd owns

  within_name : (m : Membership) (s : SecondNode) → name_of (within m s) ≡ name_of s
  within_name outside s = refl
  within_name joined s = refl
  within_name left s = refl

  pub does_own : (c : Choices) (key : List ℕ) (s : SecondNode) (r : SecondActs) → AllByRecursion (ActOwns r.0.me) r.1 → AreOwn (second_does c key s r).1.notes
  does_own c key s r owns =
      let s' : SecondNode = record s { proc = r.0 } in
      (turn_walks r.0.me (ActOwns r.0.me) (second_act c key) (λ n a same so. act_walks c key r.0.me n a same so)
      (within r.0.membership s') r.1 (within_name r.0.membership s') owns).own

  -- what is said beside anchors
  said_own : (n : Note) → is_of_anchor n ≡ false → OwnBy P n
  said_own (note.Own x id g) none = absurd cc
  said_own (note.Up x id d count sdu) none = tt
  said_own (note.Give x id g) none = tt
  said_own (note.Begin w) none = tt
  said_own (note.Join x g) none = tt
  said_own (note.Leave x g) none = tt
  said_own (note.Set id g) none = tt
  said_own (note.Unset id) none = tt
  said_own (note.Freed id d count) none = tt
  said_own (note.Confirmed x) none = tt
  said_own (note.Refused x w) none = tt
  said_own note.Done none = tt
  said_own note.Rejected none = tt

  quiet_owns : (me : Node) (a : Act) → IsQuiet a → SaysBeside a → ActOwns me a
  quiet_owns me (send to r) is beside = tt
  quiet_owns me (prepare p) is beside = tt
  quiet_owns me (go p) is beside = absurd is
  quiet_owns me (unlock_all g) is beside = tt
  quiet_owns me (say n) is beside = said_own n beside
  quiet_owns me (recover_one id) is beside = tt
  quiet_owns me (fail_one id g) is beside = tt
  quiet_owns me (pass st) is beside = absurd is

  pub quiets_own : (me : Node) (acts : List Act) → AllByRecursion IsQuiet acts → AllByRecursion SaysBeside acts → AllByRecursion (ActOwns me) acts
  quiets_own me [] all beside = tt
  quiets_own me (a ∷ acts) all beside = (quiet_owns me a all.0 beside.0, quiets_own me acts all.1 beside.1)

  pub front_beside : (front more : List Act) → AllByRecursion SaysBeside (front ++ more) → AllByRecursion SaysBeside front
  front_beside [] more beside = tt
  front_beside (a ∷ front) more beside = (beside.0, front_beside front more beside.1)

  pub each_item : (Q : Item → Type 0) (items : List Item) → ((i : Item) → IsAmong i items → Q i) → AllByRecursion Q items
  each_item Q [] so = tt
  each_item Q (i ∷ items) so = (so i (inl refl), each_item Q items (λ j among. so j (inr among)))
