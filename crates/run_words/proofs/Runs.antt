-- What holds of each entry of a run because of what stands on the links.
use Rattle.std.proofs.Common.{ℕ, ◌≡◌, Bool, true, List, [], ◌∷◌, length, refl, sym}
use Rattle.std.specs.List.{AllByRecursion}
use Rattle.std.specs.Prelude.{if◌then◌else◌, ⊤}
use Rattle.dc_base.specs.Links.{link_number}
use Rattle.dc_base.specs.declared.events.Event.{Event}
use Rattle.dc_base.specs.declared.events.Event.TheVariants as event
use Rattle.dc_base.specs.declared.events.Header.{Header}
use Rattle.dc_base.specs.declared.events.Line.{Line}
use Rattle.transcript.specs.Transcript.{Entry}
use Rattle.claims.specs.Causes.{has_cause}
use Rattle.claims.specs.Claim.{Claim, Each, EachLine}
use Rattle.claims.specs.Judged.{judged}
use Rattle.claims.specs.Names.{cause, claim}
use Rattle.claims.specs.Noted.{after, noted}
use Rattle.claims.specs.Past.{Past, new_past}
use Rattle.node_rules.specs.Choices.{Choices}
use Rattle.node_rules.specs.Run.{entries_from, world_step}
use Rattle.node_rules.specs.World.{World, new_world}
use Rattle.master_runs.proofs.Contents.{long_next}
use Rattle.master_runs.proofs.Moving.{none_there}
use Rattle.run_words.specs.Parts.{at_events, is_loss_or_copy}
use Rattle.run_words.specs.Standing.{StandsAs}
use Rattle.run_words.proofs.Standing.{stands_next}
use Rattle.run_words.proofs.Causes.{copy_cause, lose_cause}

-- a claim holds of a run where something that is so at the start gives it at each event, and lasts, if the events are as they
-- should be
module _ (c : Choices) (k : Claim) (Fits : Event → Type 0) (Holds : Past → World → Type 0)
    (lines : (v : World) (p : Past) (e : Event) → Fits e → Holds p v → let x = (world_step c v e).1 in EachLine k.of_line (judged x.event x.answer p) x.lines)
    (entry : (v : World) (p : Past) (e : Event) → Fits e → Holds p v → let x = (world_step c v e).1 in k.of_entry p x (after p x) ≡ true)
    (lasts : (v : World) (p : Past) (e : Event) → Fits e → Holds p v → Holds (after p (world_step c v e).1) (world_step c v e).0) where
  pub each_if : (es : List Event) → AllByRecursion Fits es → (v : World) (p : Past) → Holds p v → Each k p (entries_from c v es)
  each_if [] fits v p holds = tt
  each_if (e ∷ es) fits v p holds =
      (lines v p e fits.0 holds, entry v p e fits.0 holds, each_if es fits.1 (world_step c v e).0 (after p (world_step c v e).1) (lasts v p e fits.0 holds))

-- where nothing is asked of the events
any_events : (es : List Event) → AllByRecursion (λ e. ⊤) es
any_events [] = tt
any_events (e ∷ es) = (tt, any_events es)

-- the same of any events
module _ (c : Choices) (k : Claim) (Holds : Past → World → Type 0)
    (lines : (v : World) (p : Past) (e : Event) → Holds p v → let x = (world_step c v e).1 in EachLine k.of_line (judged x.event x.answer p) x.lines)
    (entry : (v : World) (p : Past) (e : Event) → Holds p v → let x = (world_step c v e).1 in k.of_entry p x (after p x) ≡ true)
    (lasts : (v : World) (p : Past) (e : Event) → Holds p v → Holds (after p (world_step c v e).1) (world_step c v e).0) where
  pub each_by : (es : List Event) (v : World) (p : Past) → Holds p v → Each k p (entries_from c v es)
  each_by es v p holds =
      each_if c k (λ e. ⊤) Holds (λ v p e fits holds. lines v p e holds) (λ v p e fits holds. entry v p e holds) (λ v p e fits holds. lasts v p e holds) es (any_events es) v p holds

-- of lines nothing is said
pub none_said : (p : Past) (xs : List Line) → EachLine (λ q x. true) p xs
none_said p [] = tt
none_said p (x ∷ xs) = (refl, none_said (noted p x) xs)

-- what is so of the links at any moment of a run
pub record AreLinked (p : Past) (v : World) : Type 0 where
  pub long : length v.links ≡ 64
  pub same : StandsAs p v

-- at the start
pub linked_new : (h : Header) (policies : ℕ) → AreLinked (new_past h policies) (new_world h)
linked_new h policies = record { long = refl; same = λ l. sym (none_there 64 (link_number l) []) }

-- and after an event
pub linked_next : (c : Choices) (v : World) (p : Past) (e : Event) → AreLinked p v → AreLinked (after p (world_step c v e).1) (world_step c v e).0
linked_next c v p e linked = record { long = long_next c v e linked.long; same = stands_next c v p e linked.long linked.same }

-- the answer of an event is the one that it is due, if it is a loss or a copy
abbrev loss_has_cause : Past → Entry → Bool
loss_has_cause p x = if is_loss_or_copy x.event then has_cause p x else true

cause_of : (c : Choices) (v : World) (p : Past) (e : Event) → AreLinked p v → loss_has_cause p (world_step c v e).1 ≡ true
cause_of c v p (event.Lose l i) linked = lose_cause c v p linked.same l i
cause_of c v p (event.Again l i) linked = copy_cause c v p linked.same l i
cause_of c v p (event.Step l i) linked = refl
cause_of c v p (event.Bearer id n first shape threshold policy) linked = refl
cause_of c v p (event.Reshape id shape) linked = refl
cause_of c v p (event.Remove id) linked = refl
cause_of c v p (event.Add x) linked = refl
cause_of c v p event.Change linked = refl
cause_of c v p event.Release linked = refl
cause_of c v p event.RekeySecond linked = refl
cause_of c v p (event.RekeyMaster root) linked = refl
cause_of c v p (event.Recover id) linked = refl
cause_of c v p (event.Report x id) linked = refl
cause_of c v p (event.Deny x on) linked = refl
cause_of c v p (event.Ask x w) linked = refl
cause_of c v p event.ScgFail linked = refl
cause_of c v p (event.Submit id d sdu) linked = refl

-- each loss and each copy of a run is answered as it is due
pub loss_causes_hold : (c : Choices) (h : Header) (policies : ℕ) (es : List Event)
    → Each (at_events is_loss_or_copy (claim cause)) (new_past h policies) (entries_from c (new_world h) es)
loss_causes_hold c h policies es =
    each_by c (at_events is_loss_or_copy (claim cause)) AreLinked (λ v p e linked. none_said (judged e (world_step c v e).1.answer p) (world_step c v e).1.lines) (cause_of c) (linked_next c)
    es (new_world h) (new_past h policies) (linked_new h policies)
