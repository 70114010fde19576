-- What comes of a step of a node besides its new state: notes and sends, each in the order in which they happen.
use Rattle.std.specs.Prelude.{List, None, Option, Some, [], ◌++◌, ◌∷◌}
use Rattle.dc_base.specs.Links.{link}
use Rattle.dc_base.specs.declared.answers.Answer.TheVariants as answer
use Rattle.dc_base.specs.declared.answers.Refusal.{Refusal}
use Rattle.dc_base.specs.declared.events.Note.{Note}
use Rattle.dc_base.specs.declared.flights.Flight.{Flight}
use Rattle.dc_base.specs.declared.flights.Flight.TheVariants as flight
use Rattle.dc_base.specs.declared.nodes.Class.TheVariants.{Ctl}
use Rattle.dc_base.specs.declared.nodes.LinkId.{LinkId}
use Rattle.dc_base.specs.declared.nodes.Node.{Node}
use Rattle.dc_base.specs.declared.records.Rec.{Rec}
use Rattle.node_rules.specs.declared.inputs.Outcome.{Outcome}
use Rattle.node_rules.specs.Choices.{Send}
use Rattle.node_rules.specs.declared.inputs.Effects.{Effects}

-- nothing comes of it (this product's own)
abbrev pub quiet : Effects
quiet = record { notes = []; sends = [] }

-- a note (this product's own)
abbrev pub noted : Note → Effects
noted n = record { notes = n ∷ []; sends = [] }

-- a flight that is put on a link (this product's own)
abbrev pub sent : LinkId → Flight → Effects
sent l f = record { notes = []; sends = (l, f) ∷ [] }

-- a record for another node (this product's own)
abbrev pub told : Node → Node → Rec → Effects
told from to r = sent (link from to Ctl) (flight.Ctl r)

-- first the one and then the other (this product's own)
abbrev pub both : Effects → Effects → Effects
both x y = record { notes = x.notes ++ y.notes; sends = x.sends ++ y.sends }

-- what came before a step, with what comes of it (this product's own)
abbrev pub after_effects : {S : Type 0} → Effects → S × Effects → S × Effects
after_effects x done = (done.0, both x done.1)

-- a step for each of these in turn (this product's own)
abbrev pub in_turn : {S X : Type 0} → (S → X → S × Effects) → S → List X → S × Effects
in_turn f s [] = (s, quiet)
in_turn f s (x ∷ xs) = let here = f s x in after_effects here.1 (in_turn f here.0 xs)

-- the outcome of an input that is answered ok (this product's own)
abbrev pub accepted : {S : Type 0} → S × Effects → S × Outcome
accepted done = (done.0, record { answer = answer.Ok; notes = done.1.notes; sends = done.1.sends })

-- of one that is refused: all stays (this product's own)
abbrev pub turned_down : {S : Type 0} → S → Refusal → S × Outcome
turned_down s why = (s, record { answer = answer.No why; notes = []; sends = [] })

-- by the first refusal, if there is one (this product's own)
abbrev pub unless : {S : Type 0} → S → Option Refusal → S × Effects → S × Outcome
unless s None done = accepted done
unless s (Some why) done = turned_down s why
