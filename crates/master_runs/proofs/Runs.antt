-- The two runs give the same entries, so what is proved of the one is so of the other.
use Rattle.std.proofs.Common.{ℕ, ◌≡◌, ◌++◌, true, List, [], ◌∷◌, None, length, refl, sym, ap, subst, ◌∙◌}
use Rattle.std.specs.List.{AllByRecursion}
use Rattle.dc_base.specs.Links.{link_number}
use Rattle.dc_base.specs.declared.events.Event.{Event}
use Rattle.dc_base.specs.declared.events.Header.{Header}
use Rattle.transcript.specs.Claims.{IsFaithful}
use Rattle.transcript.specs.Content.{mt_ctl, place_taken}
use Rattle.transcript.specs.Transcript.{Entry}
use Rattle.master_runs.specs.Control.{Nodes}
use Rattle.master_runs.specs.Links.{Links, moved, on}
use Rattle.master_runs.specs.Run as alone
use Rattle.master_runs.specs.OfMaster.{IsEventInRange, is_of_master, AreOfMaster}
use Rattle.master_runs.specs.Run.{WorldState, entry_of, happen}
use Rattle.master_runs.proofs.Moving.{none_there, on_moved}
use Rattle.master_runs.proofs.Faithful.{event_sound, new_sound, run_faithful}
use Rattle.master_runs.proofs.Sound.{Sound}
use Rattle.node_rules.specs.Choices.{Choices}
use Rattle.node_rules.specs.CommandTable.{second_key_of}
use Rattle.node_rules.specs.Entity.{Entity}
use Rattle.node_rules.specs.Run as whole
use Rattle.node_rules.specs.Run.{moved_on, world_step}
use Rattle.node_rules.specs.World.{World, links_after, new_world}
use Rattle.master_runs.specs.Same.{Inside, IsPlainFlight, SameHalf, no_half, SameTerminal, SameBearer, no_bearer, no_command, SameMaster, world_as}
use Rattle.master_runs.proofs.Contents.{links_same}
use Rattle.master_runs.proofs.Events.{event_same}
use Rattle.master_runs.proofs.Lifting.{plain_after}

-- the two worlds are the same, but for what never happens in such a run
pub record SameWorld (h : Header) (s : Nodes) (links : Links) (v : World) : Type 0 where
  pub halves : List (ℕ × Entity)
  pub inside : Inside
  pub is : v ≡ world_as h s.drawn halves inside links
  pub terminal : SameTerminal h s.terminal halves
  pub master : SameMaster h s inside
  pub plain : AllByRecursion IsPlainFlight (on links mt_ctl)

-- what one event does to both
pub record SameStep (h : Header) (done : Nodes) (links : Links) (x : Entry) (next : World × Entry) : Type 0 where
  pub entry : next.1 ≡ x
  pub world : SameWorld h done links next.0

module _ (h : Header) (c : Choices) (t : List Entry) (s : Nodes) (links : Links) (v : World)
    (sound : Sound h (length c.policies) t (record { header = h; nodes = s; links = links })) (same : SameWorld h s links v) where
  -- the world as it was
  abbrev first_world : WorldState
  first_world = record { header = h; nodes = s; links = links }

  -- an event
  step_same : (e : Event) → IsEventInRange e → is_of_master e ≡ true
      → SameStep h (happen (length c.policies) first_world e).0.nodes (happen (length c.policies) first_world e).0.links (entry_of (length c.policies) first_world e) (world_step c v e)
  step_same e good built =
      let v0 = world_as h s.drawn same.halves same.inside links in
      let done = alone.decided (length c.policies) first_world e in
      let did = event_same h c t s links sound same.halves same.inside same.terminal same.master same.plain e good built in
      let place = place_taken e done.1.0 in
      let links' = moved links place done.1.1 in
      let w' : World = world_as h done.0.drawn did.halves did.inside links' in
      let x : Entry = record { event = e; answer = done.1.0; lines = done.1.1 } in
      let now : world_step c v0 e ≡ (w', x) =
      ap (moved_on e) did.is
      ∙ ap (λ ls. (world_as h done.0.drawn did.halves did.inside (links_after place ls links), record { event = e; answer = done.1.0; lines = ls })) did.lined
      ∙ ap (λ (k : Links). (world_as h done.0.drawn did.halves did.inside k, x)) (links_same place done.1.1 links) in
      let whole' : world_step c v e ≡ (w', x) = ap (λ u. world_step c u e) same.is ∙ now in
      subst (SameStep h done.0 links' x) (sym whole') (record {
        entry = refl;
        world = record {
          halves = did.halves;
          inside = did.inside;
          is = refl;
          terminal = did.terminal;
          master = did.master;
          plain = subst (AllByRecursion IsPlainFlight) (sym (on_moved links place done.1.1 mt_ctl sound.long)) (plain_after mt_ctl place done.1.1 (on links mt_ctl) same.plain did.plain);
        };
      })

-- runs from worlds that are the same
same_from : (h : Header) (c : Choices) (es : List Event) (t : List Entry) (w : WorldState) (v : World) → Sound h (length c.policies) t w → SameWorld h w.nodes w.links v → AreOfMaster es
    → whole.entries_from c v es ≡ alone.entries_from (length c.policies) w es
same_from h c [] t w v sound same good = refl
same_from h c (e ∷ es) t w v sound same good =
    let w0 : WorldState = record w { header = h } in
    let header : w ≡ w0 = ap (λ (k : Header). record w { header = k }) sound.header in
    let sound0 : Sound h (length c.policies) t w0 = subst (Sound h (length c.policies) t) header sound in
    let step = step_same h c t w.nodes w.links v sound0 same e good.0.0 good.0.1 in
    let next = event_sound h (length c.policies) t w0 sound0 e good.0.0 good.0.1 in
    let rest = same_from h c es (t ++ entry_of (length c.policies) w0 e ∷ []) (happen (length c.policies) w0 e).0 (world_step c v e).0 next step.world good.1 in
    ap (λ x. x ∷ whole.entries_from c (world_step c v e).0 es) step.entry ∙ ap (λ xs. entry_of (length c.policies) w0 e ∷ xs) rest
    ∙ ap (λ (u : WorldState). alone.entries_from (length c.policies) u (e ∷ es)) (sym header)

-- the new worlds are the same
new_same : (h : Header) → SameWorld h (alone.new_world h).nodes (alone.new_world h).links (new_world h)
new_same h =
    let y : Inside = record { counters = h.used ∷ []; claims = []; second_key = second_key_of 0 0; rows = []; command = None; anchors = []; windows = [] } in
    record {
      halves = [];
      inside = y;
      is = refl;
      terminal = λ id. subst (λ o. SameHalf h id o None) (sym (none_there 33 id None)) no_half;
      master = record {
        bearers = λ id. subst (λ o. SameBearer h 0 None None id o None None None) (sym (none_there 33 id None)) no_bearer;
        command = no_command;
        unclaimed = λ id none. refl;
      };
      plain = subst (AllByRecursion IsPlainFlight) (sym (none_there 64 (link_number mt_ctl) [])) tt;
    }

-- a run by the rules of the whole machine, of events for bearers at the master alone, has the entries that it has by theirs
pub same_entries : (c : Choices) (h : Header) (es : List Event) → AreOfMaster es
    → whole.entries_from c (new_world h) es ≡ alone.entries_from (length c.policies) (alone.new_world h) es
same_entries c h es good = same_from h c es [] (alone.new_world h) (new_world h) (new_sound h (length c.policies)) (new_same h) good

-- so it meets the claims, whatever the policies are
pub whole_faithful : (c : Choices) (h : Header) (es : List Event) → AreOfMaster es → IsFaithful h (length c.policies) (whole.entries_from c (new_world h) es)
whole_faithful c h es good = subst (IsFaithful h (length c.policies)) (sym (same_entries c h es good)) (run_faithful (length c.policies) h es good)
