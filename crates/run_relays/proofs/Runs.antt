-- In each run, on each link: an uplink data PDU is the PDU of its submission.
use Rattle.std.proofs.Common.{ℕ, ◌≡◌, List, [], ◌∷◌, Some, None, sym, subst}
use Rattle.std.specs.List.{AllByRecursion}
use Rattle.dc_base.specs.Links.{link_number}
use Rattle.dc_base.specs.declared.events.Event.{Event}
use Rattle.dc_base.specs.declared.events.Header.{Header}
use Rattle.claims.specs.Noted.{after, past, past_from}
use Rattle.claims.specs.Past.{Past, new_past}
use Rattle.master_runs.proofs.Moving.{none_there}
use Rattle.node_rules.specs.Choices.{Choices}
use Rattle.node_rules.specs.Run.{entries_from, happening, world_after, world_step}
use Rattle.node_rules.specs.World.{World, new_world}
use Rattle.run_control.specs.Sound.{AddsSecond}
use Rattle.run_senders.proofs.Lines.{event_copies, own_lines}
use Rattle.run_senders.proofs.Standing.{AreRight, right_new, right_next}
use Rattle.run_uplinks.specs.Readings.{reading}
use Rattle.run_uplinks.specs.Seen.{seen}
use Rattle.run_uplinks.proofs.Held.{Holds}
use Rattle.run_uplinks.proofs.Protected.{event_protects}
use Rattle.run_uplinks.proofs.Runs.{holds_new, holds_next}
use Rattle.run_uplinks.proofs.Wells.{well_new}
use Rattle.run_relays.specs.Relays.{AreOnLinks, OnLine, OnLink}
use Rattle.run_relays.proofs.Lines.{event_lines, links_next}
use Rattle.run_relays.proofs.Pasts.{Becomes, IsRead, becomes_self, becomes_then, judged_becomes, lines_become}
use Rattle.run_relays.proofs.Steps.{Any, AnyHost, KeptOf, any_hosts, brings_any_to, carried_kept, carried_sends, event_given}

-- what is so at any moment of a run
pub record Relays (p : Past) (w : World) : Type 0 where
  pub holds : Holds p w
  pub right : AreRight w
  pub read : IsRead p
  pub on : AreOnLinks (reading (seen p)) w
  pub any : KeptOf Any w

-- what is read grows at an event
pub event_becomes : (c : Choices) (w : World) (p : Past) (e : Event) → IsRead p → Becomes p (after p (world_step c w e).1)
event_becomes c w p e is =
    let x = (world_step c w e).1 in
    let one = judged_becomes e x.answer p is in
    becomes_then p _ (after p x) one (lines_become x.lines _ one.is)

-- and in a run
pub run_becomes : (c : Choices) (es : List Event) (w : World) (p : Past) → IsRead p → Becomes p (past_from p (entries_from c w es))
run_becomes c [] w p is = becomes_self p is
run_becomes c (e ∷ es) w p is =
    let one = event_becomes c w p e is in
    let q = after p (world_step c w e).1 in
    becomes_then p q (past_from q (entries_from c (world_step c w e).0 es)) one (run_becomes c es (world_step c w e).0 q one.is)

-- ---- an event

-- its lines
pub lines_relay : (c : Choices) (w : World) (p : Past) (e : Event) → Relays p w → AllByRecursion (OnLine (reading (seen (after p (world_step c w e).1)))) (world_step c w e).1.lines
lines_relay c w p e is =
    event_lines c w p e (happening w e) is.read is.on (event_given (reading (seen p)) w is.on e) (carried_sends AnyHost c w (happening w e) (any_hosts w) is.any) (event_protects c w p is.holds e)
    (own_lines c w e (happening w e) is.right.there (event_copies w e))

any_next : (c : Choices) (w : World) (e : Event) → KeptOf Any w → KeptOf Any (world_step c w e).0
any_next c w e kept = let x = carried_kept Any c w (happening w e) (brings_any_to (happening w e)) kept in record { master = x.master; a = x.a; b = x.b }

pub relays_next : (c : Choices) (w : World) (p : Past) (e : Event) → AddsSecond e → Relays p w → Relays (after p (world_step c w e).1) (world_step c w e).0
relays_next c w p e adds is =
    let all = event_becomes c w p e is.read in
    record {
      holds = holds_next c w p e adds is.holds;
      right = right_next c w e is.right;
      read = all.is;
      on = links_next c w e (reading (seen p)) (reading (seen (after p (world_step c w e).1))) is.right.long all.grows is.on (lines_relay c w p e is);
      any = any_next c w e is.any;
    }

-- ---- a run

pub read_new : (h : Header) (policies : ℕ) → IsRead (new_past h policies)
read_new h policies = record { well = well_new h policies; rooted = λ id g x at. absurd (let bad : None ≡ Some x = at in cc); apart = tt }

pub relays_new : (c : Choices) (h : Header) (policies : ℕ) → Relays (new_past h policies) (new_world h)
relays_new c h policies = record {
  holds = holds_new c h policies;
  right = right_new h;
  read = read_new h policies;
  on = λ l. subst (AllByRecursion (OnLink (reading (seen (new_past h policies))) l)) (sym (none_there 64 (link_number l) [])) tt;
  any = record { master = tt; a = tt; b = tt };
}

pub relays_on : (c : Choices) (es : List Event) → AllByRecursion AddsSecond es → (w : World) (p : Past) → Relays p w → Relays (past_from p (entries_from c w es)) (world_after c w es)
relays_on c [] adds w p is = is
relays_on c (e ∷ es) adds w p is = relays_on c es adds.1 (world_step c w e).0 (after p (world_step c w e).1) (relays_next c w p e adds.0 is)

-- after any events of which each addition is of a secondary node, each data PDU that stands on the air to another node than the
-- terminal, or is relayed in a tunnel, is that of the submission with its tag as COUNT, under the key of its generation's plan
pub relays_always : (c : Choices) (h : Header) (policies : ℕ) (es : List Event) → AllByRecursion AddsSecond es
    → AreOnLinks (reading (seen (past h policies (entries_from c (new_world h) es)))) (world_after c (new_world h) es)
relays_always c h policies es adds = (relays_on c es adds (new_world h) (new_past h policies) (relays_new c h policies)).on
