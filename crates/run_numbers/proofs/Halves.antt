-- What the entity of a bearer at the terminal sends has the next numbers of its legs.
use Rattle.std.proofs.Common.{ℕ, ◌≡◌, ◌++◌, ◌==◌, Bool, true, false, List, [], ◌∷◌, Option, Some, None, refl, sym, ap, subst, ◌∙◌, inl, inr}
use Rattle.std.specs.Prelude.{if◌then◌else◌, ◌&&◌, ◌⊎◌}
use Rattle.std.specs.List.{flat_map}
use Rattle.std.proofs.lemmas.Bool.{eq-eqb}
use Rattle.dc_base.specs.Links.{is_same_link, link, link_number}
use Rattle.dc_base.specs.Nodes.{is_secondary}
use Rattle.dc_base.specs.declared.flights.Flight.TheVariants as flight
use Rattle.dc_base.specs.declared.nodes.Cell.{Cell}
use Rattle.dc_base.specs.declared.nodes.Cell.TheVariants.{Mcg, Scg}
use Rattle.dc_base.specs.declared.nodes.Class.TheVariants.{Air}
use Rattle.dc_base.specs.declared.nodes.LinkId.{LinkId}
use Rattle.dc_base.specs.declared.nodes.Node.{Node}
use Rattle.dc_base.specs.declared.nodes.Node.TheVariants.{A, B, M, T}
use Rattle.nr_u.specs.declared.tunnel.outbound.Sent.{Sent}
use Rattle.node_rules.specs.Choices.{Send}
use Rattle.node_rules.specs.Entity.{Entity}
use Rattle.node_rules.specs.Places.{is_at}
use Rattle.node_rules.specs.Sending.{Pdu}
use Rattle.node_rules.specs.Setup.{Setup, is_same_cell, node_of}
use Rattle.node_rules.specs.TerminalHalf.{leg_send, with_sends}
use Rattle.node_rules.specs.declared.bearers.OnLeg.{OnLeg}
use Rattle.split_leg.specs.Legs.{LegsState}
use Rattle.master_runs.proofs.Moving.{same_link}
use Rattle.run_control.specs.Sound.{IsSecond}
use Rattle.run_control.proofs.Turns.{never}
use Rattle.run_legs.specs.Entities.{HasSent}
use Rattle.run_pairs.proofs.Replies.{same_node}
use Rattle.run_numbers.specs.Histories.{Continues, puts_of, puts_on}
use Rattle.run_numbers.specs.Records.{HalfSends, air_sent, air_sents, leg_on, leg_sents}
use Rattle.run_numbers.proofs.Puts.{continues_none, leg_continues, puts_nowhere, puts_over}

-- a put as it is sent over the air
abbrev put_as : OnLeg → Sent
put_as p = record { count = p.pdu.0; repeat = false }

module _ (s : Setup) where
  -- what one put sends
  abbrev sends_of : OnLeg → List Send
  sends_of p = leg_send s p (node_of s.sec p.cell)

  -- on a link, of its own bearer and generation
  abbrev own : LinkId → OnLeg → List (ℕ × Sent)
  own l p = puts_on l s.id s.g (sends_of p)

  itself : ((s.id == s.id) && (s.g == s.g)) ≡ true
  itself = rw (eq-eqb s.id s.id refl, eq-eqb s.g s.g refl) refl

  one_put : (x node : Node) (p : OnLeg) → puts_on (link T x Air) s.id s.g (leg_send s p (Some node)) ≡ (if is_same_link (link T x Air) (link T node Air) then (p.num, put_as p) ∷ [] else [])
  one_put x node p = by (is_same_link (link T x Air) (link T node Air))
    where
      by : (t : Bool) → puts_of s.id s.g ((if t then flight.Air s.id s.g p.num p.pdu.0 p.pdu.1 ∷ [] else []) ++ []) ≡ (if t then (p.num, put_as p) ∷ [] else [])
      by true = ap (λ (u : Bool). (if u then (p.num, put_as p) ∷ [] else []) ++ []) itself
      by false = refl

  -- the leg to this node is over this cell group, and no other is
  abbrev IsOver : Node → Cell → Type 0
  IsOver x cell = (p : OnLeg) → own (link T x Air) p ≡ (if is_same_cell p.cell cell then (p.num, put_as p) ∷ [] else [])

  -- the leg in the MCG goes to the master
  over_master : IsSecond s.sec → IsOver M Mcg
  over_master second p = by p.cell s.sec second
    where
      by : (cell : Cell) (sec : Option Node) → IsSecond sec
          → puts_on (link T M Air) s.id s.g (leg_send s p (node_of sec cell)) ≡ (if is_same_cell cell Mcg then (p.num, put_as p) ∷ [] else [])
      by Mcg sec second = one_put M M p
      by Scg None second = refl
      by Scg (Some T) second = absurd cc
      by Scg (Some M) second = absurd cc
      by Scg (Some A) second = one_put M A p
      by Scg (Some B) second = one_put M B p

  -- and that in the SCG to the secondary node
  over_second : (x : Node) → is_secondary x ≡ true → s.sec ≡ Some x → IsOver x Scg
  over_second x second at p = by p.cell s.sec x second at
    where
      by : (cell : Cell) (sec : Option Node) (y : Node) → is_secondary y ≡ true → sec ≡ Some y
          → puts_on (link T y Air) s.id s.g (leg_send s p (node_of sec cell)) ≡ (if is_same_cell cell Scg then (p.num, put_as p) ∷ [] else [])
      by cell sec T is at' = absurd cc
      by cell sec M is at' = absurd cc
      by Mcg sec A is at' = one_put A M p
      by Mcg sec B is at' = one_put B M p
      by Scg sec A is at' = ap (λ o. puts_on (link T A Air) s.id s.g (leg_send s p o)) at' ∙ one_put A A p
      by Scg sec B is at' = ap (λ o. puts_on (link T B Air) s.id s.g (leg_send s p o)) at' ∙ one_put B B p

  -- to another node nothing is sent
  over_none : (x : Node) → is_secondary x ≡ true → IsSecond s.sec → is_at x s.sec ≡ false → (p : OnLeg) → own (link T x Air) p ≡ []
  over_none x second sound apart p = by p.cell s.sec x second sound apart
    where
      by : (cell : Cell) (sec : Option Node) (y : Node) → is_secondary y ≡ true → IsSecond sec → is_at y sec ≡ false → puts_on (link T y Air) s.id s.g (leg_send s p (node_of sec cell)) ≡ []
      by cell sec T is sound' apart' = absurd cc
      by cell sec M is sound' apart' = absurd cc
      by Mcg sec A is sound' apart' = one_put A M p
      by Mcg sec B is sound' apart' = one_put B M p
      by Scg None A is sound' apart' = refl
      by Scg (Some T) A is sound' apart' = absurd cc
      by Scg (Some M) A is sound' apart' = absurd cc
      by Scg (Some A) A is sound' apart' = absurd cc
      by Scg (Some B) A is sound' apart' = one_put A B p
      by Scg None B is sound' apart' = refl
      by Scg (Some T) B is sound' apart' = absurd cc
      by Scg (Some M) B is sound' apart' = absurd cc
      by Scg (Some A) B is sound' apart' = one_put B A p
      by Scg (Some B) B is sound' apart' = absurd cc

  -- nor to the terminal
  over_terminal : IsSecond s.sec → (p : OnLeg) → own (link T T Air) p ≡ []
  over_terminal sound p = by p.cell s.sec sound
    where
      by : (cell : Cell) (sec : Option Node) → IsSecond sec → puts_on (link T T Air) s.id s.g (leg_send s p (node_of sec cell)) ≡ []
      by Mcg sec sound' = one_put T M p
      by Scg None sound' = refl
      by Scg (Some T) sound' = absurd cc
      by Scg (Some M) sound' = absurd cc
      by Scg (Some A) sound' = one_put T A p
      by Scg (Some B) sound' = one_put T B p

  -- nor on another link
  elsewhere : (l : LinkId) → is_same_link l (link T l.to Air) ≡ false → (p : OnLeg) (o : Option Node) → puts_on l s.id s.g (leg_send s p o) ≡ []
  elsewhere l apart p None = refl
  elsewhere l apart p (Some node) = by (is_same_link l (link T node Air)) refl
    where
      on_own : (k : LinkId) → k ≡ link T node Air → is_same_link k (link T k.to Air) ≡ true
      on_own k is = ap (λ (m : LinkId). is_same_link m (link T m.to Air)) is ∙ eq-eqb (link_number (link T node Air)) (link_number (link T node Air)) refl

      by : (t : Bool) → is_same_link l (link T node Air) ≡ t → puts_of s.id s.g ((if t then flight.Air s.id s.g p.num p.pdu.0 p.pdu.1 ∷ [] else []) ++ []) ≡ []
      by true same = never (is_same_link l (link T l.to Air)) (on_own l (same_link l (link T node Air) same)) apart
      by false other = refl

  -- nor is anything of another bearer or generation
  other_leg : (l : LinkId) (id g : ℕ) → ((s.id == id) && (s.g == g)) ≡ false → (p : OnLeg) (o : Option Node) → puts_on l id g (leg_send s p o) ≡ []
  other_leg l id g apart p None = refl
  other_leg l id g apart p (Some node) = by (is_same_link l (link T node Air))
    where
      by : (t : Bool) → puts_of id g ((if t then flight.Air s.id s.g p.num p.pdu.0 p.pdu.1 ∷ [] else []) ++ []) ≡ []
      by true = ap (λ (u : Bool). (if u then (p.num, put_as p) ∷ [] else []) ++ []) apart
      by false = refl

  pub others_none : (l : LinkId) (id g : ℕ) → ((s.id == id) && (s.g == g)) ≡ false → (ps : List OnLeg) → puts_on l id g (flat_map sends_of ps) ≡ []
  others_none l id g apart ps = puts_nowhere l id g sends_of (λ p. other_leg l id g apart p (node_of s.sec p.cell)) ps

-- what a leg in the SCG has, if it is over this node
abbrev scg_sents : Bool → LegsState → List Sent
scg_sents t legs = if t then air_sents legs.scg else []

module _ (pdus : List Pdu) (e : Entity) (done : Entity × List OnLeg) (sent : HasSent pdus e done) (sound : IsSecond e.setup.sec) where
  -- the setup after it
  abbrev s : Setup
  s = done.0.setup

  same_sec : s.sec ≡ e.setup.sec
  same_sec = ap (λ (x : Setup). x.sec) sent.setup

  sound_after : IsSecond s.sec
  sound_after = subst IsSecond (sym same_sec) sound

  abbrev Goes : LinkId → List Sent → List Sent → Type 0
  Goes l had has = Continues l s.id s.g had has (with_sends done).1

  none_over : (l : LinkId) → ((p : OnLeg) → own s l p ≡ []) → Goes l [] []
  none_over l none = continues_none l s.id s.g [] (with_sends done).1 (puts_nowhere l s.id s.g (sends_of s) none done.1)

  -- to the master
  to_master : Goes (link T M Air) (air_sents e.setup.legs.mcg) (air_sents s.legs.mcg)
  to_master =
      leg_continues (link T M Air) s.id s.g air_sent _ e.setup.legs.mcg s.legs.mcg (with_sends done).1
      (puts_over (link T M Air) s.id s.g (sends_of s) Mcg put_as (over_master s sound_after) done.1) sent.legs.grown.mcg

  -- to a secondary node
  second_goes : (x : Node) → is_secondary x ≡ true → (t : Bool) → is_at x s.sec ≡ t → s.sec ≡ Some x ⊎ (t ≡ false) → Goes (link T x Air) (scg_sents t e.setup.legs) (scg_sents t s.legs)
  second_goes x second true at (inl is) =
      leg_continues (link T x Air) s.id s.g air_sent _ e.setup.legs.scg s.legs.scg (with_sends done).1
      (puts_over (link T x Air) s.id s.g (sends_of s) Scg put_as (over_second s x second is) done.1) sent.legs.grown.scg
  second_goes x second true at (inr no') = absurd cc
  second_goes x second false at which = none_over (link T x Air) (over_none s x second sound_after at)

  where_is : (x : Node) (sec : Option Node) (t : Bool) → is_at x sec ≡ t → sec ≡ Some x ⊎ (t ≡ false)
  where_is x None t at = inr (sym at)
  where_is x (Some y) true at = inl (ap (λ n. Some n) (sym (same_node x y at)))
  where_is x (Some y) false at = inr refl

  to_second : (x : Node) → is_secondary x ≡ true → Goes (link T x Air) (scg_sents (is_at x e.setup.sec) e.setup.legs) (scg_sents (is_at x s.sec) s.legs)
  to_second x second =
      subst (λ o. Goes (link T x Air) (scg_sents (is_at x o) e.setup.legs) (scg_sents (is_at x s.sec) s.legs)) same_sec
      (second_goes x second (is_at x s.sec) refl (where_is x s.sec (is_at x s.sec) refl))

  -- on a link
  abbrev GoesOn : LinkId → Type 0
  GoesOn l = Goes l (leg_on l e.setup) (leg_on l s)

  to_node : (x : Node) → GoesOn (link T x Air)
  to_node T = none_over (link T T Air) (over_terminal s sound_after)
  to_node M = to_master
  to_node A = to_second A refl
  to_node B = to_second B refl

  on_link : (l : LinkId) → GoesOn l
  on_link l = by (is_same_link l (link T l.to Air)) refl
    where
      by : (t : Bool) → is_same_link l (link T l.to Air) ≡ t → GoesOn l
      by true same = subst GoesOn (sym (same_link l (link T l.to Air) same)) (to_node l.to)
      by false apart =
          subst (λ (t : Bool). Goes l (if t then leg_sents l.to e.setup else []) (if t then leg_sents l.to s else [])) (sym apart)
          (none_over l (λ p. elsewhere s l apart p (node_of s.sec p.cell)))

  -- all that an entity of the terminal sends
  pub half_sends : HalfSends e.setup s (with_sends done).1
  half_sends = record { own = on_link; others = λ l id g apart. others_none s l id g apart done.1 }
