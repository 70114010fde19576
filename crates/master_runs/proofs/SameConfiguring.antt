-- A plan comes to the terminal.
use Rattle.std.proofs.Common.{ℕ, ◌≡◌, ◌<◌, true, false, Bool, List, [], ◌∷◌, Option, Some, None, length, refl, sym, subst}
use Rattle.dc_base.specs.Nodes.{is_mm}
use Rattle.dc_base.specs.declared.answers.Answer.TheVariants as answer
use Rattle.dc_base.specs.declared.events.Header.{Header}
use Rattle.dc_base.specs.declared.events.Note.TheVariants as note
use Rattle.dc_base.specs.declared.flights.Flight.TheVariants as flight
use Rattle.dc_base.specs.declared.nodes.LegSet.{LegSet}
use Rattle.dc_base.specs.declared.nodes.LegSet.TheVariants.{Mcg, Scg, Split}
use Rattle.dc_base.specs.declared.nodes.Node.TheVariants.{T}
use Rattle.dc_base.specs.declared.nodes.Shape.{Shape}
use Rattle.dc_base.specs.declared.numbers.SnLen.{SnLen}
use Rattle.dc_base.specs.declared.records.Rec.TheVariants.{Reconf, Rcomp}
use Rattle.transcript.specs.Content.{mt_ctl, tm_ctl}
use Rattle.master_runs.specs.Control.{Nodes, opened, plan_for, told_terminal}
use Rattle.master_runs.specs.Entities.{Entities, bearer_in, fresh}
use Rattle.node_rules.specs.Choices.{Choices}
use Rattle.node_rules.specs.Entity.{Entity}
use Rattle.node_rules.specs.Held.{held, holding}
use Rattle.node_rules.specs.Setup.{new_leg}
use Rattle.node_rules.specs.Terminal.{terminal_step}
use Rattle.node_rules.specs.declared.inputs.Input.TheVariants.{Come}
use Rattle.master_runs.specs.Forms.{Leg, entity_as}
use Rattle.master_runs.specs.Same.{SameHalf, a_half, no_half, SameTerminal, TerminalDid, terminal_as}
use Rattle.master_runs.proofs.Halves.{halves_with}

-- the shape of a bearer at the master alone
pub mm_shape : (s : Shape) → is_mm s ≡ true → s ≡ record { at_second = false; legs = Mcg; dup = s.dup }
mm_shape s mm = by s.at_second s.legs mm
  where
    by : (at_second : Bool) (legs : LegSet) → is_mm (record { at_second = at_second; legs = legs; dup = s.dup }) ≡ true
        → ◌≡◌ {A = Shape} (record { at_second = at_second; legs = legs; dup = s.dup }) (record { at_second = false; legs = Mcg; dup = s.dup })
    by true legs mm = absurd cc
    by false Mcg mm = refl
    by false Scg mm = absurd cc
    by false (Split primary) mm = absurd cc

-- its legs, on which nothing was put
abbrev pub unused_leg : Bool → ℕ → ℕ → Leg
unused_leg dup threshold policy = record { dup = dup; threshold = threshold; policy = policy; pdus = []; before = 0; other = new_leg }

-- where nothing is held by the one, nothing is by the other
none_held : (h : Header) (id : ℕ) {o : Option Entities} {p : Option Entity} → SameHalf h id o p → o ≡ None → p ≡ None
none_held h id no_half is = refl
none_held h id (a_half e x named tags) is = absurd cc

-- the terminal sets the bearer up
pub configured : (h : Header) (c : Choices) (s : Nodes) (halves : List (ℕ × Entity)) → SameTerminal h s.terminal halves
    → (g id : ℕ) (n : SnLen) (first : ℕ) (shape : Shape) (threshold policy : ℕ) → is_mm shape ≡ true → id < length s.terminal → bearer_in s.terminal id ≡ None
    → let f = flight.Ctl (Reconf (plan_for g id n first shape threshold policy) h.root) in
    TerminalDid h (terminal_step c (terminal_as h halves) (Come mt_ctl f)) ((told_terminal h s f).0.terminal, (answer.Ok, (told_terminal h s f).1))
configured h c s halves same g id n first shape threshold policy mm small lacks =
    let P : Shape → Type 0 = λ shape. let f = flight.Ctl (Reconf (plan_for g id n first shape threshold policy) h.root) in
    TerminalDid h (terminal_step c (terminal_as h halves) (Come mt_ctl f)) ((told_terminal h s f).0.terminal, (answer.Ok, (told_terminal h s f).1)) in
    let none : held id halves ≡ None = none_held h id (same id) lacks in
    let b = opened g id n first in
    let x = unused_leg shape.dup threshold policy in
    let e = fresh b in
    subst P (sym (mm_shape shape mm)) (record {
      after = holding id (Some (entity_as h T b x e.tx e.rx)) halves;
      notes = note.Set id g ∷ [];
      sends = (tm_ctl, flight.Ctl (Rcomp g)) ∷ [];
      is = rw (none, none) refl;
      lined = refl;
      plain = (tt, (tt, tt));
      same = halves_with h s.terminal halves same id small e x refl refl;
    })
