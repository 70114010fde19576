-- In each run each line that sends an uplink data PDU, by the line alone, is protected.
use Rattle.std.proofs.Common.{ℕ, ◌≡◌, ◌&&◌, ◌||◌, Bool, true, false, List, [], ◌∷◌, Option, Some, None, refl, sym, ap, subst, ◌∙◌}
use Rattle.std.specs.Prelude.{if◌then◌else◌, is_none, length, not, ◌<◌, ◌^◌}
use Rattle.std.specs.List.{AllByRecursion}
use Rattle.dc_base.specs.Links.{link_number}
use Rattle.dc_base.specs.Nodes.{is_same_node}
use Rattle.dc_base.specs.declared.events.Event.{Event}
use Rattle.dc_base.specs.declared.events.Header.{Header}
use Rattle.dc_base.specs.declared.events.Line.{Line}
use Rattle.dc_base.specs.declared.events.Line.TheVariants as line
use Rattle.dc_base.specs.declared.flights.Flight.{Flight}
use Rattle.dc_base.specs.declared.nodes.LinkId.{LinkId}
use Rattle.dc_base.specs.declared.nodes.Node.TheVariants.{T}
use Rattle.pdcp_pdu.specs.DataPdu.{is_data}
use Rattle.transcript.specs.Transcript.{Entry}
use Rattle.transcript.proofs.OnEach.{each_weaker}
use Rattle.claims.specs.Claim.{Each, EachLine, of_lines}
use Rattle.claims.specs.Judged.{judged}
use Rattle.claims.specs.Names.{claim, protected}
use Rattle.claims.specs.Noted.{after, noted, past, past_from}
use Rattle.claims.specs.Past.{Past, new_past}
use Rattle.claims.specs.Protected.{is_protected, is_protected_pdu}
use Rattle.claims.specs.Sameness.{is_none_or, is_some_and}
use Rattle.claims.specs.Taking.{direction_of}
use Rattle.claims.specs.Views.{Pdu, if_data, pdu_of}
use Rattle.master_runs.proofs.Moving.{none_there}
use Rattle.node_rules.specs.Choices.{Choices}
use Rattle.node_rules.specs.Run.{entries_from, happening, world_step}
use Rattle.node_rules.specs.World.{World, new_world}
use Rattle.run_control.specs.Sound.{AddsSecond}
use Rattle.run_senders.specs.Lines.{is_on_its_link}
use Rattle.run_senders.proofs.Classes.{sends_on_links}
use Rattle.run_senders.proofs.Lines.{event_copies, own_lines}
use Rattle.run_uplinks.specs.Readings.{Reading, reading}
use Rattle.run_uplinks.specs.Seen.{seen}
use Rattle.run_words.specs.Parts.{at_lines}
use Rattle.run_relays.specs.Elsewhere.{AreFromElsewhere, InTunnel}
use Rattle.run_relays.specs.Kept.{AreSmall}
use Rattle.run_relays.specs.Lines.{goes_up_on_link, is_up, is_uplink_line, protects_uplink, uplink_protected}
use Rattle.run_relays.specs.Pdus.{GrowsTo}
use Rattle.run_relays.specs.Ranges.{NamesIdentity}
use Rattle.run_relays.proofs.ClaimRuns.{uplinks_protected_all}
use Rattle.run_relays.proofs.Claimed.{HoldsFrom, each_from}
use Rattle.run_relays.proofs.Directions.{line_goes}
use Rattle.run_relays.proofs.Directions as directions
use Rattle.run_relays.proofs.Elsewhere.{LineIn, OfPlan, elsewhere_next, event_in, tunnel_stays}
use Rattle.run_relays.proofs.Keeping.{small_before}
use Rattle.run_relays.proofs.Pasts.{becomes_self, becomes_then, judged_becomes, lines_become}
use Rattle.run_relays.proofs.Protecting as protecting
use Rattle.run_relays.proofs.Protecting.{if_true}
use Rattle.run_relays.proofs.Runs.{Relays, event_becomes, relays_new, relays_next, run_becomes}
use Rattle.run_relays.proofs.SetRuns.{Planned, planned_new, planned_next}
use Rattle.run_relays.proofs.Small.{small_always}
use Rattle.run_relays.proofs.Steps.{HostsOf, carried_sends}

-- ---- what is relayed goes up, in each run

line_stays : (r s : Reading) (x : Line) → GrowsTo r s → LineIn r x → LineIn s x
line_stays r s (line.Send l f) grows is = tunnel_stays r s l f grows is
line_stays r s (line.Note n) grows is = tt
line_stays r s (line.Event e) grows is = tt
line_stays r s (line.Answer a) grows is = tt

directed_on : (c : Choices) (es : List Event) → AllByRecursion AddsSecond es → (w : World) (p : Past) → Relays p w → Planned p w → AreFromElsewhere (reading (seen p)) w → AreSmall (reading (seen (past_from p (entries_from c w es))))
    → Each (of_lines goes_up_on_link) p (entries_from c w es)
directed_on c [] adds w p is have on small = tt
directed_on c (e ∷ es) adds w p is have on small =
    let r = reading (seen p) in
    let h = happening w e in
    let x = (world_step c w e).1 in
    let v = (world_step c w e).0 in
    let q = judged e x.answer p in
    let end' = past_from (after p x) (entries_from c v es) in
    let hosts : HostsOf (OfPlan r) w = record { master = have.have.master.hosts; a = have.have.a.hosts; b = have.have.b.hosts } in
    let lines : AllByRecursion (LineIn r) x.lines = event_in r c w e h on (carried_sends (OfPlan r) c w h hosts is.any) (own_lines c w e h is.right.there (event_copies w e)) in
    let one = judged_becomes e x.answer p is.read in
    let next = lines_become x.lines q one.is in
    let more = run_becomes c es v (after p x) next.is in
    let all = becomes_then q (after p x) end' next more in
    let small_now = small_before (reading (seen q)) (reading (seen end')) all.grows small in (
      each_from goes_up_on_link q x.lines q (becomes_self q one.is) refl
          (each_weaker (LineIn r) (HoldsFrom goes_up_on_link q) (λ k here. line_goes q k small_now (line_stays r (reading (seen q)) k one.grows here)) x.lines lines),
      refl,
      directed_on c es adds.1 v (after p x) (relays_next c w p e adds.0 is) (planned_next c w p e adds.0 is have)
          (elsewhere_next c w e r (reading (seen (after p x))) is.right.long (event_becomes c w p e is.read).grows on lines) small,
    )

-- a data PDU without a number that another node than the terminal sends goes up by its plan
pub relayed_go_up : (c : Choices) (h : Header) (policies : ℕ) (es : List Event) → AllByRecursion AddsSecond es → AreSmall (reading (seen (past h policies (entries_from c (new_world h) es))))
    → Each (of_lines goes_up_on_link) (new_past h policies) (entries_from c (new_world h) es)
relayed_go_up c h policies es adds small =
    directed_on c es adds (new_world h) (new_past h policies) (relays_new c h policies) (planned_new h policies)
    (λ l. subst (AllByRecursion (InTunnel (reading (seen (new_past h policies))) l)) (sym (none_there 64 (link_number l) [])) tt) small

-- ---- all together

-- a line is protected, if it sends an uplink PDU
abbrev protects_line : Past → Line → Bool
protects_line p x = if is_uplink_line x then is_protected p x else true

merge : (data' from none up is : Bool) → (if data' then not none || from || up else true) ≡ true → (if from || (none && up) then (if data' then is else true) else true) ≡ true
    → (if from || none then (if data' then is else true) else true) ≡ true
merge false from none up is goes weak = if_true (from || none) true refl
merge true true none up is goes weak = weak
merge true false false up is goes weak = refl
merge true false true false is goes weak = absurd (let bad : false ≡ true = goes in cc)
merge true false true true is goes weak = weak

if_there : {X : Type 0} (g : X → Bool) (u : X) (b : Bool) → is_none_or g (if b then Some u else None) ≡ (if b then g u else true)
if_there g u true = refl
if_there g u false = refl

-- by the PDU that its flight carries
abbrev strong : Past → LinkId → Flight → Option Pdu → Bool
strong p l f o = if is_some_and (λ (u : Pdu). is_same_node l.from T || is_none u.num) o then is_none_or (is_protected_pdu p l f) (if_data o) else true

by_pdu : (p : Past) (l : LinkId) (f : Flight) (o : Option Pdu) → directions.test_by p l o ≡ true → protecting.test_by p l f o ≡ true → strong p l f o ≡ true
by_pdu p l f None goes weak = refl
by_pdu p l f (Some u) goes weak =
    let from = is_same_node l.from T in
    let up = is_up (direction_of p l u) in
    let none = is_none u.num in
    let data' = is_data u.octets in
    let of = if_there (is_protected_pdu p l f) u data' in
    ap (λ b. if from || none then b else true) of
    ∙ merge data' from none up (is_protected_pdu p l f u) (sym (if_there (λ (v : Pdu). not (is_none v.num) || is_same_node l.from T || is_up (direction_of p l v)) u data') ∙ goes)
    (sym (ap (λ b. if from || (none && up) then b else true) of) ∙ weak)

one_line : (p : Past) (x : Line) → is_on_its_link x ≡ true → goes_up_on_link p x ≡ true → protects_uplink p x ≡ true → protects_line p x ≡ true
one_line p (line.Send l f) on goes weak =
    by_pdu p l f (pdu_of f) (sym (ap (λ b. if b then directions.test_by p l (pdu_of f) else true) on) ∙ goes) weak
one_line p (line.Note n) on goes weak = refl
one_line p (line.Event e) on goes weak = refl
one_line p (line.Answer a) on goes weak = refl

each_line_merged : (p : Past) (xs : List Line) → EachLine (λ q x. is_on_its_link x) p xs → EachLine goes_up_on_link p xs → EachLine protects_uplink p xs → EachLine protects_line p xs
each_line_merged p [] on goes weak = tt
each_line_merged p (x ∷ xs) on goes weak = (one_line p x on.0 goes.0 weak.0, each_line_merged (noted p x) xs on.1 goes.1 weak.1)

each_merged : (p : Past) (es : List Entry) → Each (of_lines (λ q x. is_on_its_link x)) p es → Each (of_lines goes_up_on_link) p es → Each uplink_protected p es → Each (at_lines is_uplink_line (claim protected)) p es
each_merged p [] on goes weak = tt
each_merged p (e ∷ es) on goes weak = (each_line_merged (judged e.event e.answer p) e.lines on.0 goes.0 weak.0, refl, each_merged (after p e) es on.2 goes.2 weak.2)

-- after any events of which each addition is of a secondary node, while the plans drawn are small: each line that sends an uplink data
-- PDU, whether from the terminal, relayed by a leg host or as a copy, protects the submission of its tag under the key of its plan,
-- and what is relayed is passed on or copied
pub uplink_lines_protected : (c : Choices) (h : Header) (policies : ℕ) (es : List Event) → AllByRecursion AddsSecond es → AreSmall (reading (seen (past h policies (entries_from c (new_world h) es))))
    → Each (at_lines is_uplink_line (claim protected)) (new_past h policies) (entries_from c (new_world h) es)
uplink_lines_protected c h policies es adds small =
    each_merged (new_past h policies) (entries_from c (new_world h) es) (sends_on_links c h policies es adds) (relayed_go_up c h policies es adds small) (uplinks_protected_all c h policies es adds small)

-- the same of fewer than 2^23 events, where each bearer has an identity of 1 to 32
pub uplink_lines_protected_in_range : (c : Choices) (h : Header) (policies : ℕ) (es : List Event) → AllByRecursion AddsSecond es → AllByRecursion NamesIdentity es → length es < 2 ^ 23
    → Each (at_lines is_uplink_line (claim protected)) (new_past h policies) (entries_from c (new_world h) es)
uplink_lines_protected_in_range c h policies es adds names few = uplink_lines_protected c h policies es adds (small_always c h policies es adds names few)
