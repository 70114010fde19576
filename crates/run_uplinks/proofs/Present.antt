-- What the terminal holds of a bearer, in the words of the past.
use Rattle.std.proofs.Common.{ℕ, ◌≡◌, Option, Some, None, refl, sym, subst, ◌∙◌}
use Rattle.std.specs.Option.{option_map}
use Rattle.claims.specs.Causes.{at_terminal}
use Rattle.claims.specs.Past.{Bearer, Past}
use Rattle.claims.specs.Reading as reading
use Rattle.node_rules.specs.Choices.{Choices}
use Rattle.node_rules.specs.Held.{held}
use Rattle.node_rules.specs.TerminalHalf.{TerminalHalf}
use Rattle.node_rules.specs.World.{World}
use Rattle.run_uplinks.specs.Seen.{Uplink, seen, uplink_of}
use Rattle.run_uplinks.specs.Uplinks.{IsHalf, plane}
use Rattle.run_uplinks.proofs.Answering.{none_at}
use Rattle.run_uplinks.proofs.Establishments.{some_is}
use Rattle.run_uplinks.proofs.Held.{Holds}
use Rattle.run_uplinks.proofs.Terminals.{present_at}
use Rattle.run_uplinks.proofs.Unseen.{latest_is}

-- of an establishment that is seen
seen_bearer : (o : Option Bearer) (u : Uplink) → option_map uplink_of o ≡ Some u → (b : Bearer) × (o ≡ Some b) × (uplink_of b ≡ u)
seen_bearer None u is = absurd (let bad : None ≡ Some u = is in cc)
seen_bearer (Some b) u is = (b, refl, some_is (uplink_of b) u is)

-- what the terminal holds is that of the latest establishment of its identity
pub held_present : (c : Choices) (p : Past) (w : World) → Holds p w → (id : ℕ) (h : TerminalHalf) → held id w.terminal.halves ≡ Some h
    → (b : Bearer) × (reading.latest p id ≡ Some b) × IsHalf (plane (seen p)) (uplink_of b) h
held_present c p w holds id h at =
    let x = present_at c (seen p) w.terminal holds.up id h at in
    let b = seen_bearer (reading.latest p id) x.0 (sym (latest_is id p.bearers) ∙ x.1) in (b.0, b.1, subst (λ (u : Uplink). IsHalf (plane (seen p)) u h) (sym b.2) x.2)

none_seen : (o : Option Bearer) → option_map uplink_of o ≡ None → o ≡ None
none_seen None is = refl
none_seen (Some b) is = absurd (let bad : Some (uplink_of b) ≡ None = is in cc)

-- where it holds nothing, the past has no establishment of the identity at the terminal
pub held_absent : (p : Past) (w : World) → Holds p w → (id : ℕ) → held id w.terminal.halves ≡ None → at_terminal p id ≡ None
held_absent p w holds id none = none_seen (at_terminal p id) (none_at p w.terminal holds.up id none)
