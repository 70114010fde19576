-- What a node with anchors and leg hosts sends follows on from what it sent before, when one of them takes a step; and each begins with
-- nothing sent.
use Rattle.std.proofs.Common.{ℕ, ◌≡◌, ◌≤◌, ◌++◌, ◌==◌, Bool, true, false, List, [], Option, Some, None, length, map, refl, sym, ap, subst, ◌∙◌, arith}
use Rattle.std.specs.Prelude.{if◌then◌else◌, ◌^◌}
use Rattle.std.proofs.lemmas.Bool.{eq-eqb, eqb-true, ne_eqb}
use Rattle.dc_base.specs.Links.{is_same_link, link}
use Rattle.dc_base.specs.declared.nodes.Cell.{Cell}
use Rattle.dc_base.specs.declared.nodes.Cell.TheVariants.{Mcg, Scg}
use Rattle.dc_base.specs.declared.nodes.Class.TheVariants.{Air, Tun}
use Rattle.dc_base.specs.declared.nodes.LinkId.{LinkId}
use Rattle.dc_base.specs.declared.nodes.Node.{Node}
use Rattle.dc_base.specs.declared.nodes.Node.TheVariants.{T}
use Rattle.nr_u.specs.declared.tunnel.outbound.Sent.{Sent}
use Rattle.split_leg.specs.Legs.{leg_at}
use Rattle.node_rules.specs.Choices.{Send}
use Rattle.node_rules.specs.Held.{held, holding}
use Rattle.node_rules.specs.Host.{Host}
use Rattle.node_rules.specs.Setup.{Setup, anchor_cell, host_of, other_cell}
use Rattle.master_runs.proofs.Holding.{held-other, held-same}
use Rattle.run_confirms.specs.Anchors.{as_sent, sent_on}
use Rattle.run_control.specs.Orders.{Ascends}
use Rattle.run_control.proofs.Ascending.{ascends_with, ascends_without}
use Rattle.run_numbers.specs.Histories.{FollowOn, NoneOf, OnlyOf, counted_from}
use Rattle.run_numbers.specs.Records.{AnchorGoes, AreBearersPut, HostSends, IsAnchorPutInRange, IsHostPut, IsInRange, air_sent, air_sents, anchor_on, far_on}
use Rattle.run_numbers.proofs.Following.{anchor_follows, anchor_stays, host_follows, host_stays}
use Rattle.run_numbers.proofs.Holding.{all_stay, held_without, none_older, none_other, put_in}

some_is : {X : Type 0} (a b : X) → Some a ≡ Some b → a ≡ b
some_is a b same = cc

-- ---- what is held of an identity, after one was put in or taken out

-- it is the one put in, or was there before
held_in : {X : Type 0} (P : ℕ → X → Type 0) (id : ℕ) (y : X) (xs : List (ℕ × X)) → P id y → ((k : ℕ) (x : X) → (id == k) ≡ false → held k xs ≡ Some x → P k x) → (k : ℕ) (x : X) → held k (holding id (Some y) xs) ≡ Some x → P k x
held_in {X = X} P id y xs here there k x at = by (id == k) refl
  where
    by : (b : Bool) → (id == k) ≡ b → P k x
    by true same =
        let key = eqb-true id k same in
        subst (P k) (some_is y x (sym (held-same id y xs) ∙ ap (λ j. held j (holding id (Some y) xs)) key ∙ at)) (subst (λ j. P j y) key here)
    by false apart = there k x apart (sym (held-other id k y xs apart) ∙ at)

-- it was there before
held_out : {X : Type 0} (P : ℕ → X → Type 0) (id : ℕ) (xs : List (ℕ × X)) → Ascends xs → ((k : ℕ) (x : X) → (id == k) ≡ false → held k xs ≡ Some x → P k x) → (k : ℕ) (x : X) → held k (holding id None xs) ≡ Some x → P k x
held_out {X = X} P id xs up there k x at = by (id == k) refl (sym (held_without id k xs up) ∙ at)
  where
    by : (b : Bool) → (id == k) ≡ b → (if id == k then None else held k xs) ≡ Some x → P k x
    by true same now = absurd (let bad : None ≡ Some x = sym (ap (λ b. if b then None else held k xs) same) ∙ now in cc)
    by false apart now = there k x apart (sym (ap (λ b. if b then None else held k xs) apart) ∙ now)

-- ---- new legs

nothing : (b : Bool) (none : List Sent) → (if b then none else none) ≡ none
nothing true none = refl
nothing false none = refl

new_shown : (s : Setup) → s.legs.mcg.pdus ≡ [] → s.legs.scg.pdus ≡ [] → (l : LinkId) → anchor_on l s ≡ []
new_shown s mcg scg l =
    ap (λ zs. if is_same_link l (link s.node T Air) then zs else far_on l s (host_of s)) (air (anchor_cell s.legs.shape))
    ∙ ap (λ zs. if is_same_link l (link s.node T Air) then [] else zs) (far (host_of s)) ∙ nothing (is_same_link l (link s.node T Air)) []
  where
    air : (cell : Cell) → air_sents (leg_at s.legs cell) ≡ []
    air Mcg = ap (map air_sent) mcg
    air Scg = ap (map air_sent) scg

    on : (cell : Cell) → sent_on (leg_at s.legs cell) ≡ []
    on Mcg = ap (map as_sent) mcg
    on Scg = ap (map as_sent) scg

    far : (o : Option Node) → far_on l s o ≡ []
    far None = refl
    far (Some host) = ap (λ zs. if is_same_link l (link s.node host Tun) then zs else []) (on (other_cell (anchor_cell s.legs.shape))) ∙ nothing (is_same_link l (link s.node host Tun)) []

module _ {X : Type 0} (setup_in : X → Setup) where
  -- the identity and the generation
  abbrev id_of : X → ℕ
  id_of x = (setup_in x).id

  abbrev g_of : X → ℕ
  g_of x = (setup_in x).g

  abbrev Put : List Send → X → Type 0
  Put ss x = IsAnchorPutInRange ss (setup_in x)

  stays : (sent ss : List Send) (x : X) → NoneOf (id_of x) (g_of x) ss → Put sent x → Put (sent ++ ss) x
  stays sent ss x none is = (is.0, anchor_stays sent ss (setup_in x) none is.1)

  module _ (sent : List Send) (xs : List (ℕ × X)) (hs : List (ℕ × Host)) (put : AreBearersPut setup_in sent xs hs) where
    -- after what is sent
    abbrev After : List (ℕ × X) → List (ℕ × Host) → List Send → Type 0
    After xs' hs' ss = FollowOn sent ss × AreBearersPut setup_in (sent ++ ss) xs' hs'

    -- an anchor takes a step
    pub anchor_steps : (id : ℕ) (x y : X) (ss : List Send) → held id xs ≡ Some x → AnchorGoes (setup_in x) (setup_in y) ss → length (sent ++ ss) ≤ 2 ^ 24 → After (holding id (Some y) xs) hs ss
    anchor_steps id x y ss at goes few =
        let is = put.each_anchor id x at in
        let done = anchor_follows sent (setup_in x) (setup_in y) ss is.1.0 few is.1.1 goes in
        let same_id : id_of y ≡ id_of x = ap (λ (s : Setup). s.id) goes.same in
        let same_g : g_of y ≡ g_of x = ap (λ (s : Setup). s.g) goes.same in
        let only : OnlyOf id (g_of y) ss = subst (λ i. OnlyOf i (g_of y) ss) (same_id ∙ is.0) done.others in (
          done.follows,
          record {
            anchors_ascend = ascends_with 0 id y xs (omega arith) put.anchors_ascend;
            hosts_ascend = put.hosts_ascend;
            each_anchor = put_in id_of g_of Put stays sent ss xs id (g_of y) y (same_id ∙ is.0) (subst IsInRange (sym goes.same) is.1.0, done.puts) only put.each_anchor;
            each_host =
                all_stay (λ (h : Host). h.id) (λ (h : Host). h.g) IsHostPut host_stays sent ss hs
                (λ k h there. hosts_none k h there only same_g) put.each_host;
            apart = λ k z h was.
                held_in (λ j v. (h : Host) → held j hs ≡ Some h → (g_of v == h.g) ≡ false) id y xs (λ h' there. ap (λ g. g == h'.g) same_g ∙ put.apart id x h' at there)
                (λ j v other was' h' there. put.apart j v h' was' there) k z was h;
          },
        )
      where
        hosts_none : (k : ℕ) (h : Host) → held k hs ≡ Some h → OnlyOf id (g_of y) ss → g_of y ≡ g_of x → NoneOf h.id h.g ss
        hosts_none k h there only same_g = by (id == k) refl
          where
            by : (b : Bool) → (id == k) ≡ b → NoneOf h.id h.g ss
            by true same =
                let key = eqb-true id k same in
                let named : h.id ≡ id = (put.each_host k h there).0 ∙ sym key in
                subst (λ i. NoneOf i h.g ss) (sym named)
                (none_older id (g_of y) h.g ss only (ap (λ g. g == h.g) same_g ∙ put.apart id x h at (ap (λ j. held j hs) key ∙ there)))
            by false apart' = none_other id (g_of y) h.id h.g ss only (ap (λ j. id == j) (put.each_host k h there).0 ∙ apart')

    -- no PDU is sent
    pub quiet_steps : (ss : List Send) → ((id g : ℕ) → NoneOf id g ss) → AreBearersPut setup_in (sent ++ ss) xs hs
    quiet_steps ss none = record {
      anchors_ascend = put.anchors_ascend;
      hosts_ascend = put.hosts_ascend;
      each_anchor = all_stay id_of g_of Put stays sent ss xs (λ k x at. none (id_of x) (g_of x)) put.each_anchor;
      each_host = all_stay (λ (h : Host). h.id) (λ (h : Host). h.g) IsHostPut host_stays sent ss hs (λ k h there. none h.id h.g) put.each_host;
      apart = put.apart;
    }

    -- a leg host takes a step
    pub host_steps : (id : ℕ) (h later : Host) (ss : List Send) → held id hs ≡ Some h → HostSends h later ss → After xs (holding id (Some later) hs) ss
    host_steps id h later ss at goes =
        let is = put.each_host id h at in
        let done = host_follows sent h later ss is.1 goes in
        let named : later.id ≡ id = goes.id ∙ is.0 in
        let only : OnlyOf id later.g ss = subst (λ i. OnlyOf i later.g ss) named done.others in (
          done.follows,
          record {
            anchors_ascend = put.anchors_ascend;
            hosts_ascend = ascends_with 0 id later hs (omega arith) put.hosts_ascend;
            each_anchor = all_stay id_of g_of Put stays sent ss xs (λ k x there. anchors_none k x there only) put.each_anchor;
            each_host = put_in (λ (z : Host). z.id) (λ (z : Host). z.g) IsHostPut host_stays sent ss hs id later.g later named done.puts only put.each_host;
            apart = λ k x z there was.
                held_in (λ j (v : Host). (x' : X) → held j xs ≡ Some x' → (g_of x' == v.g) ≡ false) id later hs (λ x' there'. ap (λ g. g_of x' == g) goes.g ∙ put.apart id x' h there' at)
                (λ j v other was x' there'. put.apart j x' v there' was) k z was x there;
          },
        )
      where
        flipped : (a b : ℕ) → (a == b) ≡ false → (b == a) ≡ false
        flipped a b apart' = ne_eqb b a (λ same. let bad : true ≡ false = sym (eq-eqb a b (sym same)) ∙ apart' in cc)

        anchors_none : (k : ℕ) (x : X) → held k xs ≡ Some x → OnlyOf id later.g ss → NoneOf (id_of x) (g_of x) ss
        anchors_none k x there only = by (id == k) refl
          where
            by : (b : Bool) → (id == k) ≡ b → NoneOf (id_of x) (g_of x) ss
            by true same =
                let key = eqb-true id k same in
                let named : id_of x ≡ id = (put.each_anchor k x there).0 ∙ sym key in
                subst (λ i. NoneOf i (g_of x) ss) (sym named)
                (none_older id later.g (g_of x) ss only (ap (λ g. g == g_of x) goes.g ∙ flipped (g_of x) h.g (put.apart id x h (ap (λ j. held j xs) key ∙ there) at)))
            by false apart' = none_other id later.g (id_of x) (g_of x) ss only (ap (λ j. id == j) (put.each_anchor k x there).0 ∙ apart')

    -- an anchor begins in a generation of which nothing was sent, and of which the node has no leg host
    pub anchor_begins : (id : ℕ) (y : X) → id_of y ≡ id → IsInRange (setup_in y) → (setup_in y).legs.mcg.pdus ≡ [] → (setup_in y).legs.scg.pdus ≡ [] → NoneOf (id_of y) (g_of y) sent
        → ((h : Host) → held id hs ≡ Some h → (g_of y == h.g) ≡ false) → AreBearersPut setup_in sent (holding id (Some y) xs) hs
    anchor_begins id y named range mcg scg none new = record {
      anchors_ascend = ascends_with 0 id y xs (omega arith) put.anchors_ascend;
      hosts_ascend = put.hosts_ascend;
      each_anchor = λ k x.
          held_in (λ j v. (id_of v ≡ j) × Put sent v) id y xs (named, (range, λ l. none l ∙ ap (counted_from 0) (sym (new_shown (setup_in y) mcg scg l)))) (λ j v other was. put.each_anchor j v was) k x;
      each_host = put.each_host;
      apart = λ k x h was. held_in (λ j v. (h' : Host) → held j hs ≡ Some h' → (g_of v == h'.g) ≡ false) id y xs new (λ j v other was' h' there. put.apart j v h' was' there) k x was h;
    }

    -- it ends
    pub anchor_ends : (id : ℕ) → AreBearersPut setup_in sent (holding id None xs) hs
    anchor_ends id = record {
      anchors_ascend = ascends_without 0 id xs put.anchors_ascend;
      hosts_ascend = put.hosts_ascend;
      each_anchor = λ k x. held_out (λ j v. (id_of v ≡ j) × Put sent v) id xs put.anchors_ascend (λ j v other was. put.each_anchor j v was) k x;
      each_host = put.each_host;
      apart = λ k x h was. held_out (λ j v. (h' : Host) → held j hs ≡ Some h' → (g_of v == h'.g) ≡ false) id xs put.anchors_ascend (λ j v other was' h' there. put.apart j v h' was' there) k x was h;
    }

    -- a leg host begins so
    pub host_begins : (id : ℕ) (h : Host) → h.id ≡ id → h.carried ≡ [] → NoneOf h.id h.g sent → ((x : X) → held id xs ≡ Some x → (g_of x == h.g) ≡ false) → AreBearersPut setup_in sent xs (holding id (Some h) hs)
    host_begins id h named carried none new = record {
      anchors_ascend = put.anchors_ascend;
      hosts_ascend = ascends_with 0 id h hs (omega arith) put.hosts_ascend;
      each_anchor = put.each_anchor;
      each_host = λ k z. held_in (λ j (v : Host). (v.id ≡ j) × IsHostPut sent v) id h hs (named, ap length (none (link h.node T Air)) ∙ sym (ap length carried)) (λ j v other was. put.each_host j v was) k z;
      apart = λ k x z there was.
          held_in (λ j (v : Host). (x' : X) → held j xs ≡ Some x' → (g_of x' == v.g) ≡ false) id h hs new (λ j v other was' x' there'. put.apart j x' v there' was') k z was x there;
    }

    -- it ends
    pub host_ends : (id : ℕ) → AreBearersPut setup_in sent xs (holding id None hs)
    host_ends id = record {
      anchors_ascend = put.anchors_ascend;
      hosts_ascend = ascends_without 0 id hs put.hosts_ascend;
      each_anchor = put.each_anchor;
      each_host = λ k z. held_out (λ j (v : Host). (v.id ≡ j) × IsHostPut sent v) id hs put.hosts_ascend (λ j v other was. put.each_host j v was) k z;
      apart = λ k x z there was.
          held_out (λ j (v : Host). (x' : X) → held j xs ≡ Some x' → (g_of x' == v.g) ≡ false) id hs put.hosts_ascend (λ j v other was' x' there'. put.apart j x' v there' was') k z was x there;
    }

-- before anything was sent, a node that has nothing
pub nothing_held : {X : Type 0} (setup_in : X → Setup) → AreBearersPut setup_in [] [] []
nothing_held setup_in = record { anchors_ascend = tt; hosts_ascend = tt; each_anchor = λ k x at. absurd cc; each_host = λ k h at. absurd cc; apart = λ k x h at there. absurd cc }
