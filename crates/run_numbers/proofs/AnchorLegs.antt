-- What the entity of a bearer at its anchor sends has the next numbers of its legs: on the leg of its own node, and in the tunnel.
use Rattle.std.proofs.Common.{ℕ, ◌≡◌, ◌≤◌, ◌<◌, ◌++◌, ◌+◌, ◌==◌, Bool, true, false, List, [], ◌∷◌, Option, Some, None, length, map, refl, sym, ap, subst, ◌∙◌, arith}
use Rattle.std.specs.Prelude.{if◌then◌else◌, not, ◌&&◌, ◌^◌}
use Rattle.std.specs.List.{AllByRecursion, flat_map}
use Rattle.std.proofs.lemmas.Bool.{eq-eqb}
use Rattle.std.proofs.lemmas.List.{length-append, length-map}
use Rattle.dc_base.specs.Links.{is_same_link, link}
use Rattle.dc_base.specs.declared.flights.Flight.{Flight}
use Rattle.dc_base.specs.declared.flights.Flight.TheVariants as flight
use Rattle.dc_base.specs.declared.nodes.Cell.{Cell}
use Rattle.dc_base.specs.declared.nodes.Cell.TheVariants.{Mcg, Scg}
use Rattle.dc_base.specs.declared.nodes.Class.TheVariants.{Air, Tun}
use Rattle.dc_base.specs.declared.nodes.LinkId.{LinkId}
use Rattle.dc_base.specs.declared.nodes.Node.{Node}
use Rattle.dc_base.specs.declared.nodes.Node.TheVariants.{T}
use Rattle.dc_base.specs.declared.nodes.Shape.{Shape}
use Rattle.claims.specs.Views.{pdu_in}
use Rattle.nr_u.specs.declared.tunnel.outbound.Sent.{Sent}
use Rattle.split_leg.specs.Legs.{LegState, LegsState, leg_at}
use Rattle.node_rules.specs.Anchor.{Active}
use Rattle.node_rules.specs.AnchorSending.{air_send, is_local, leg_send, tunnel_send, with_sends}
use Rattle.node_rules.specs.Choices.{Send}
use Rattle.node_rules.specs.Entity.{Entity}
use Rattle.node_rules.specs.Packets.{down_packet}
use Rattle.node_rules.specs.Sending.{Pdu}
use Rattle.node_rules.specs.Setup.{Setup, anchor_cell, host_of, is_same_cell, other_cell}
use Rattle.node_rules.specs.declared.bearers.OnLeg.{OnLeg}
use Rattle.master_runs.proofs.Moving.{same_link}
use Rattle.run_confirms.specs.Anchors.{as_sent, put_as_sent, sent_on}
use Rattle.run_legs.specs.Entities.{HasSent}
use Rattle.run_legs.specs.Puts.{AreNumbered, HasGrown, HaveGrown, listed, over}
use Rattle.run_numbers.specs.Histories.{Continues, OnlyOf, numbered_if, puts_of, puts_on}
use Rattle.run_numbers.specs.Records.{AnchorGoes, HasFew, IsInRange, air_sent, air_sents, anchor_on, far_on}
use Rattle.run_numbers.proofs.Packets.{down_is_viewed}
use Rattle.run_numbers.proofs.Puts.{continues_none, leg_continues, none_each, puts_each, puts_nowhere, puts_over}

-- a put as it is sent over the air
abbrev put_as : OnLeg → Sent
put_as p = record { count = p.pdu.0; repeat = false }

-- ---- links

-- a flight is not on another link
link_none : (l k : LinkId) (f : Flight) (id g : ℕ) → is_same_link l k ≡ false → puts_on l id g ((k, f) ∷ []) ≡ []
link_none l k f id g apart = ap (λ (b : Bool). puts_of id g ((if b then f ∷ [] else []) ++ [])) apart

-- a link over the air is no tunnel
pub air_no_tunnel : (l : LinkId) (x y z : Node) → is_same_link l (link x T Air) ≡ true → is_same_link l (link y z Tun) ≡ false
air_no_tunnel l x y z air = by (is_same_link l (link y z Tun)) refl
  where
    by : (b : Bool) → is_same_link l (link y z Tun) ≡ b → b ≡ false
    by true tun =
        let bad : Air ≡ Tun = ap (λ (k : LinkId). k.class) (sym (same_link l (link x T Air) air) ∙ same_link l (link y z Tun) tun) in absurd cc
    by false tun = refl

other_is : (c d : Cell) → is_same_cell c (other_cell d) ≡ not (is_same_cell c d)
other_is Mcg Mcg = refl
other_is Mcg Scg = refl
other_is Scg Mcg = refl
other_is Scg Scg = refl

-- ---- one put

module _ (s : Setup) where
  itself : ((s.id == s.id) && (s.g == s.g)) ≡ true
  itself = rw (eq-eqb s.id s.id refl, eq-eqb s.g s.g refl) refl

  -- what one put sends
  abbrev sends_of : OnLeg → List Send
  sends_of p = leg_send s p (is_local s p)

  air_one : (l : LinkId) (p : OnLeg) → is_same_link l (link s.node T Air) ≡ true → puts_on l s.id s.g (air_send s p ∷ []) ≡ (p.num, put_as p) ∷ []
  air_one l p same =
      ap (λ (b : Bool). puts_of s.id s.g ((if b then flight.Air s.id s.g p.num p.pdu.0 p.pdu.1 ∷ [] else []) ++ [])) same
      ∙ ap (λ (u : Bool). (if u then (p.num, put_as p) ∷ [] else []) ++ []) itself

  tunnel_one : (l : LinkId) (p : OnLeg) (host : Node) → IsInRange s → p.num < 2 ^ 24 → is_same_link l (link s.node host Tun) ≡ true → puts_on l s.id s.g (tunnel_send s p (Some host)) ≡ (p.num, put_as_sent p) ∷ []
  tunnel_one l p host range few same =
      ap (λ (b : Bool). puts_of s.id s.g ((if b then flight.Tun p.pdu.0 (down_packet s.g s.id p.num p.repeat p.pdu.1) ∷ [] else []) ++ [])) same
      ∙ ap (λ o. numbered_if s.id s.g (pdu_in p.pdu.0 o) ++ []) (down_is_viewed s.g s.id p.num p.repeat p.pdu.1 range.0 range.1 range.2 few)
      ∙ ap (λ (u : Bool). (if u then (p.num, put_as_sent p) ∷ [] else []) ++ []) itself

  -- by whether the leg is the own one, and the host
  abbrev sends_by : OnLeg → Bool → Option Node → List Send
  sends_by p true o = air_send s p ∷ []
  sends_by p false o = tunnel_send s p o

  sends_is : (p : OnLeg) (b : Bool) → leg_send s p b ≡ sends_by p b (host_of s)
  sends_is p true = refl
  sends_is p false = refl

  -- on the leg of the anchor's own node there are the puts of its cell group
  own_one : (l : LinkId) → is_same_link l (link s.node T Air) ≡ true → (p : OnLeg) → puts_on l s.id s.g (sends_of p) ≡ (if is_same_cell p.cell (anchor_cell s.legs.shape) then (p.num, put_as p) ∷ [] else [])
  own_one l same p = ap (puts_on l s.id s.g) (sends_is p (is_local s p)) ∙ by (is_local s p) (host_of s)
    where
      by : (b : Bool) (o : Option Node) → puts_on l s.id s.g (sends_by p b o) ≡ (if b then (p.num, put_as p) ∷ [] else [])
      by true o = air_one l p same
      by false None = refl
      by false (Some host) = link_none l (link s.node host Tun) _ s.id s.g (air_no_tunnel l s.node s.node host same)

  -- in the tunnel to the host there are those of the other
  far_one : (l : LinkId) (host : Node) → host_of s ≡ Some host → IsInRange s → is_same_link l (link s.node T Air) ≡ false → is_same_link l (link s.node host Tun) ≡ true → (p : OnLeg)
      → (is_same_cell p.cell (other_cell (anchor_cell s.legs.shape)) ≡ true → p.num < 2 ^ 24)
      → puts_on l s.id s.g (sends_of p) ≡ (if is_same_cell p.cell (other_cell (anchor_cell s.legs.shape)) then (p.num, put_as_sent p) ∷ [] else [])
  far_one l host to range no_air same p few =
      ap (puts_on l s.id s.g) (sends_is p (is_local s p) ∙ ap (sends_by p (is_local s p)) to) ∙ by (is_local s p) refl
      ∙ ap (λ b. if b then (p.num, put_as_sent p) ∷ [] else []) (sym (other_is p.cell (anchor_cell s.legs.shape)))
    where
      by : (b : Bool) → is_local s p ≡ b → puts_on l s.id s.g (sends_by p b (Some host)) ≡ (if not b then (p.num, put_as_sent p) ∷ [] else [])
      by true is = link_none l (link s.node T Air) _ s.id s.g no_air
      by false is = tunnel_one l p host range (few (other_is p.cell (anchor_cell s.legs.shape) ∙ ap not is)) same

  -- on another link there is nothing
  none_one : (l : LinkId) → is_same_link l (link s.node T Air) ≡ false → ((host : Node) → host_of s ≡ Some host → is_same_link l (link s.node host Tun) ≡ false) → (p : OnLeg) → puts_on l s.id s.g (sends_of p) ≡ []
  none_one l no_air no_tun p = ap (puts_on l s.id s.g) (sends_is p (is_local s p)) ∙ by (is_local s p) (host_of s) no_tun
    where
      by : (b : Bool) (o : Option Node) → ((host : Node) → o ≡ Some host → is_same_link l (link s.node host Tun) ≡ false) → puts_on l s.id s.g (sends_by p b o) ≡ []
      by true o none = link_none l (link s.node T Air) _ s.id s.g no_air
      by false None none = refl
      by false (Some host) none = link_none l (link s.node host Tun) _ s.id s.g (none host refl)

  -- nor is there anything of another bearer or generation
  others_one : IsInRange s → (l : LinkId) (id g : ℕ) → ((s.id == id) && (s.g == g)) ≡ false → (p : OnLeg)
      → ((host : Node) → host_of s ≡ Some host → is_same_cell p.cell (other_cell (anchor_cell s.legs.shape)) ≡ true → p.num < 2 ^ 24) → puts_on l id g (sends_of p) ≡ []
  others_one range l id g apart p few = ap (puts_on l id g) (sends_is p (is_local s p)) ∙ by (is_local s p) refl (host_of s) refl
    where
      air : (t : Bool) → puts_of id g ((if t then flight.Air s.id s.g p.num p.pdu.0 p.pdu.1 ∷ [] else []) ++ []) ≡ []
      air true = ap (λ (u : Bool). (if u then (p.num, put_as p) ∷ [] else []) ++ []) apart
      air false = refl

      tun : p.num < 2 ^ 24 → (t : Bool) → puts_of id g ((if t then flight.Tun p.pdu.0 (down_packet s.g s.id p.num p.repeat p.pdu.1) ∷ [] else []) ++ []) ≡ []
      tun small true =
          ap (λ o. numbered_if id g (pdu_in p.pdu.0 o) ++ []) (down_is_viewed s.g s.id p.num p.repeat p.pdu.1 range.0 range.1 range.2 small)
          ∙ ap (λ (u : Bool). (if u then (p.num, put_as_sent p) ∷ [] else []) ++ []) apart
      tun small false = refl

      by : (b : Bool) → is_local s p ≡ b → (o : Option Node) → host_of s ≡ o → puts_on l id g (sends_by p b o) ≡ []
      by true is o to = air (is_same_link l (link s.node T Air))
      by false is None to = refl
      by false is (Some host) to = tun (few host to (other_is p.cell (anchor_cell s.legs.shape) ∙ ap not is)) (is_same_link l (link s.node host Tun))

  -- each put in the tunnel is sent
  far_many : (host : Node) → host_of s ≡ Some host → (ps : List OnLeg) → length (over (other_cell (anchor_cell s.legs.shape)) ps) ≤ length (flat_map sends_of ps)
  far_many host to [] = omega arith
  far_many host to (p ∷ ps) =
      let more = far_many host to ps in
      let sum = length-append (sends_of p) (flat_map sends_of ps) in
      let one : length (sends_of p) ≡ 1 = ap length (sends_is p (is_local s p) ∙ ap (sends_by p (is_local s p)) to) ∙ single (is_local s p) in
      by (is_same_cell p.cell (other_cell (anchor_cell s.legs.shape))) (omega (arith, more, sum, one)) (omega (arith, more, sum, one))
    where
      single : (b : Bool) → length (sends_by p b (Some host)) ≡ 1
      single true = refl
      single false = refl

      by : (b : Bool) → length (over (other_cell (anchor_cell s.legs.shape)) ps) + 1 ≤ length (flat_map sends_of (p ∷ ps)) → length (over (other_cell (anchor_cell s.legs.shape)) ps) ≤ length (flat_map sends_of (p ∷ ps))
          → length (if b then p ∷ over (other_cell (anchor_cell s.legs.shape)) ps else over (other_cell (anchor_cell s.legs.shape)) ps) ≤ length (flat_map sends_of (p ∷ ps))
      by true first then' = omega (arith, first)
      by false first then' = then'

-- ---- numbers of 24 bits

few_of : (cell : Cell) (n : ℕ) (ps : List OnLeg) → AreNumbered n (over cell ps) → n + length (over cell ps) ≤ 2 ^ 24 → AllByRecursion (λ (p : OnLeg). is_same_cell p.cell cell ≡ true → p.num < 2 ^ 24) ps
few_of cell n [] all le = tt
few_of cell n (p ∷ ps) all le = by (is_same_cell p.cell cell) refl all le (λ k more some. few_of cell k ps more some)
  where
    by : (b : Bool) → is_same_cell p.cell cell ≡ b → AreNumbered n (if b then p ∷ over cell ps else over cell ps) → n + length (if b then p ∷ over cell ps else over cell ps) ≤ 2 ^ 24
        → ((k : ℕ) → AreNumbered k (over cell ps) → k + length (over cell ps) ≤ 2 ^ 24 → AllByRecursion (λ (q : OnLeg). is_same_cell q.cell cell ≡ true → q.num < 2 ^ 24) ps)
        → AllByRecursion (λ (q : OnLeg). is_same_cell q.cell cell ≡ true → q.num < 2 ^ 24) (p ∷ ps)
    by true is all' le' more = let at = all'.0 in (λ same. omega (arith, at, le'), more (n + 1) all'.1 (omega (arith, le')))
    by false is all' le' more = (λ same. absurd (let bad : true ≡ false = sym same ∙ is in cc), more n all' le')

-- ---- an entity that sent

grown_at : (cell : Cell) (puts : List OnLeg) (a b : LegsState) → HaveGrown puts a b → HasGrown (over cell puts) (leg_at a cell) (leg_at b cell)
grown_at Mcg puts a b grown = grown.mcg
grown_at Scg puts a b grown = grown.scg

grown_length : (puts : List OnLeg) (a b : LegState) → HasGrown puts a b → length b.pdus ≡ length a.pdus + length puts
grown_length puts a b grown = ap length grown.pdus ∙ length-append a.pdus (map listed puts) ∙ ap (λ k. length a.pdus + k) (length-map puts listed)

module _ (pdus : List Pdu) (a : Active) (done : Entity × List OnLeg) (sent : HasSent pdus a.entity done) where
  -- the setup before it, and after
  abbrev s : Setup
  s = a.entity.setup

  abbrev t : Setup
  t = done.0.setup

  abbrev ss : List Send
  ss = (with_sends a done).1

  -- the cell group of the anchor's own node, and the other
  abbrev near : Cell
  near = anchor_cell s.legs.shape

  abbrev far : Cell
  far = other_cell near

  grown : (cell : Cell) → HasGrown (over cell done.1) (leg_at s.legs cell) (leg_at t.legs cell)
  grown cell = grown_at cell done.1 s.legs t.legs sent.legs.grown

  few_puts : (host : Node) → host_of s ≡ Some host → HasFew s t → AllByRecursion (λ (p : OnLeg). is_same_cell p.cell far ≡ true → p.num < 2 ^ 24) done.1
  few_puts host to few =
      let le = few host to in
      let is = grown_length (over far done.1) (leg_at s.legs far) (leg_at t.legs far) (grown far) in
      few_of far (length (leg_at s.legs far).pdus) done.1 (grown far).numbered (omega (arith, le, is))

  -- on a link of the setup before
  abbrev Goes : LinkId → List Sent → List Sent → Type 0
  Goes l had has = Continues l s.id s.g had has ss

  on_own : (l : LinkId) → is_same_link l (link s.node T Air) ≡ true → Goes l (air_sents (leg_at s.legs near)) (air_sents (leg_at t.legs near))
  on_own l same =
      leg_continues l s.id s.g air_sent (over near done.1) (leg_at s.legs near) (leg_at t.legs near) ss
      (puts_over l s.id s.g (sends_of s) near put_as (own_one s l same) done.1) (grown near)

  on_far : (l : LinkId) (host : Node) → host_of s ≡ Some host → IsInRange s → HasFew s t → is_same_link l (link s.node T Air) ≡ false → is_same_link l (link s.node host Tun) ≡ true
      → Goes l (sent_on (leg_at s.legs far)) (sent_on (leg_at t.legs far))
  on_far l host to range few no_air same =
      leg_continues l s.id s.g as_sent (over far done.1) (leg_at s.legs far) (leg_at t.legs far) ss
      (puts_each l s.id s.g (sends_of s) far put_as_sent done.1 (each done.1 (few_puts host to few))) (grown far)
    where
      each : (ps : List OnLeg) → AllByRecursion (λ (p : OnLeg). is_same_cell p.cell far ≡ true → p.num < 2 ^ 24) ps
          → AllByRecursion (λ (p : OnLeg). puts_on l s.id s.g (sends_of s p) ≡ (if is_same_cell p.cell far then (p.num, put_as_sent p) ∷ [] else [])) ps
      each [] all = tt
      each (p ∷ ps) all = (far_one s l host to range no_air same p all.0, each ps all.1)

  nowhere : (l : LinkId) → is_same_link l (link s.node T Air) ≡ false → ((host : Node) → host_of s ≡ Some host → is_same_link l (link s.node host Tun) ≡ false) → Goes l [] []
  nowhere l no_air no_tun = continues_none l s.id s.g [] ss (puts_nowhere l s.id s.g (sends_of s) (none_one s l no_air no_tun) done.1)

  -- on any link, with the legs after it in the setup before
  abbrev GoesOn : LinkId → Type 0
  GoesOn l = Goes l (anchor_on l s) (anchor_on l (record s { legs = record t.legs { shape = s.legs.shape } }))

  on_link : (l : LinkId) → IsInRange s → HasFew s t → GoesOn l
  on_link l range few = by (is_same_link l (link s.node T Air)) refl
    where
      tunnel : is_same_link l (link s.node T Air) ≡ false → (o : Option Node) → host_of s ≡ o → Goes l (far_on l s o) (far_on l (record s { legs = record t.legs { shape = s.legs.shape } }) o)
      tunnel no_air None to = nowhere l no_air (λ host is. absurd (let bad : None ≡ Some host = sym to ∙ is in cc))
      tunnel no_air (Some host) to = there (is_same_link l (link s.node host Tun)) refl
        where
          there : (b : Bool) → is_same_link l (link s.node host Tun) ≡ b → Goes l (if b then sent_on (leg_at s.legs far) else []) (if b then sent_on (leg_at t.legs far) else [])
          there true same = on_far l host to range few no_air same
          there false other =
              nowhere l no_air (λ h is. let same : Some host ≡ Some h = sym to ∙ is in let eq : host ≡ h = cc in ap (λ n. is_same_link l (link s.node n Tun)) (sym eq) ∙ other)

      by : (b : Bool) → is_same_link l (link s.node T Air) ≡ b
          → Goes l (if b then air_sents (leg_at s.legs near) else far_on l s (host_of s)) (if b then air_sents (leg_at t.legs near) else far_on l (record s { legs = record t.legs { shape = s.legs.shape } }) (host_of s))
      by true same = on_own l same
      by false no_air = tunnel no_air (host_of s) refl

  -- the legs have the shape that they had
  abbrev in_shape : Setup
  in_shape = record s { legs = record t.legs { shape = s.legs.shape } }

  shaped : t ≡ in_shape
  shaped = sent.setup ∙ ap (λ (shape : Shape). record s { legs = record t.legs { shape = shape } }) sent.legs.grown.shape

  others : IsInRange s → HasFew s t → (l : LinkId) (id g : ℕ) → ((s.id == id) && (s.g == g)) ≡ false → puts_on l id g ss ≡ []
  others range few l id g apart = none_each l id g (sends_of s) done.1 (by (host_of s) refl)
    where
      none : (ps : List OnLeg) → ((host : Node) → host_of s ≡ Some host → ⊥) → AllByRecursion (λ (p : OnLeg). puts_on l id g (sends_of s p) ≡ []) ps
      none [] no' = tt
      none (p ∷ ps) no' = (others_one s range l id g apart p (λ host to. absurd (no' host to)), none ps no')

      each : (ps : List OnLeg) → AllByRecursion (λ (p : OnLeg). is_same_cell p.cell far ≡ true → p.num < 2 ^ 24) ps → AllByRecursion (λ (p : OnLeg). puts_on l id g (sends_of s p) ≡ []) ps
      each [] all = tt
      each (p ∷ ps) all = (others_one s range l id g apart p (λ host to. all.0), each ps all.1)

      by : (o : Option Node) → host_of s ≡ o → AllByRecursion (λ (p : OnLeg). puts_on l id g (sends_of s p) ≡ []) done.1
      by None to = none done.1 (λ host is. let bad : None ≡ Some host = sym to ∙ is in cc)
      by (Some host) to = each done.1 (few_puts host to few)

  -- all that an anchor's entity sends
  pub entity_goes : AnchorGoes s t ss
  entity_goes = record {
    same = sent.setup;
    shape = sent.legs.grown.shape;
    more = λ host to. let is = grown_length (over far done.1) (leg_at s.legs far) (leg_at t.legs far) (grown far) in let le = far_many s host to done.1 in omega (arith, is, le);
    grow = λ cell. let is = grown_length (over cell done.1) (leg_at s.legs cell) (leg_at t.legs cell) (grown cell) in omega (arith, is);
    goes = λ range few. record {
      own = λ l. subst (λ (u : Setup). Continues l u.id u.g (anchor_on l s) (anchor_on l u) ss) (sym shaped) (on_link l range few);
      others = subst (λ (u : Setup). OnlyOf u.id u.g ss) (sym shaped) (others range few);
    };
  }
