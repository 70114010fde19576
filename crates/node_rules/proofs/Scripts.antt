-- Scripts and their transcripts, so that the rules can be tried by computing.
use Rattle.std.specs.Prelude.{Bool, Err, List, None, Ok, Option, Result, Some, [], bytes_eq, codes, false, flat_map, if◌then◌else◌, map, suc, true, zero, ℕ, ◌++◌, ◌+◌, ◌∷◌}
use Rattle.dc_base.specs.declared.events.Event.{Event}
use Rattle.dc_base.specs.declared.events.Event.TheVariants as event
use Rattle.dc_base.specs.declared.events.Header.{Header}
use Rattle.dc_base.specs.declared.nodes.Alg.TheVariants.{Nea0}
use Rattle.dc_base.specs.declared.nodes.LegSet.{LegSet}
use Rattle.dc_base.specs.declared.nodes.Shape.{Shape}
use Rattle.transcript.specs.Text.{line_text, mark, note_text, rec_text}
use Rattle.transcript.specs.Transcript.{Entry, entry_lines}
use Rattle.transcript.specs.Words.{node_word, refusal_word, spaced}
use Rattle.node_rules.specs.declared.acts.Act.{Act}
use Rattle.node_rules.specs.declared.acts.Act.TheVariants.{FailOne as fail_one, Go as go, Pass as pass, Prepare as prepare, RecoverOne as recover_one, Say as say, Send as send, UnlockAll as unlock_all}
use Rattle.node_rules.specs.Acts.{ProcFault, refused, unexpected}
use Rattle.node_rules.specs.AnchorSending.{recover}
use Rattle.node_rules.specs.Choices.{Choices}
use Rattle.node_rules.specs.MasterState.{MasterActs, MasterProc}
use Rattle.node_rules.specs.Run.{world_step}
use Rattle.node_rules.specs.World.{World, first_loaded, new_world}

-- a line of a script: an event, or the order to take steps until the links are empty
pub data Scripted : Type 0 where
  one : (event : Event) → Scripted
  drain : Scripted

-- an event with all that comes after it
abbrev pub and_on : (World → World × List Entry) → World × Entry → World × List Entry
and_on f x = let rest = f x.0 in (rest.0, x.1 ∷ rest.1)

-- at most so many steps, each of the first flight on the first link that has one
abbrev pub drained : Choices → ℕ → World → World × List Entry
drained c zero w = (w, [])
drained c (suc k) w =
    elim (first_loaded w.links) [ None ↦ (w, []) | Some l ↦ and_on (drained c k) (world_step c w (event.Step l 0)) ]

-- the lines of a script in turn
abbrev pub script_run : Choices → World → List Scripted → List Entry
script_run c w [] = []
script_run c w (one e ∷ ss) = let x = world_step c w e in x.1 ∷ script_run c x.0 ss
script_run c w (drain ∷ ss) = let x = drained c 1000 w in x.1 ++ script_run c x.0 ss

-- the world after steps until the links are empty, and after the lines of a script
abbrev pub script_after : Choices → World → List Scripted → World
script_after c w [] = w
script_after c w (one e ∷ ss) = script_after c (world_step c w e).0 ss
script_after c w (drain ∷ ss) = script_after c (drained c 1000 w).0 ss

-- two stored policies: 0 chooses the leg with the smaller volume, MCG where both are equal; 1 the SCG while its volume is at
-- most 100,000 octets more
abbrev pub two_policies : Choices
two_policies = record { policies = record { plus = 0; minus = 1 } ∷ record { plus = 100000; minus = 0 } ∷ [] }

-- the lines of the transcript of a script, after the header line
abbrev pub output : Header → List Scripted → List (List ℕ)
output h script = map (λ l. mark l ++ line_text l) (flat_map entry_lines (script_run two_policies (new_world h) script))

-- the world after a script
abbrev pub script_world : Header → List Scripted → World
script_world h script = script_after two_policies (new_world h) script

-- these lines stand in an output, in this order
abbrev pub stand_in : List (List ℕ) → List (List ℕ) → Bool
stand_in [] lines = true
stand_in (x ∷ xs) [] = false
stand_in (x ∷ xs) (l ∷ lines) = if bytes_eq x l then stand_in xs lines else stand_in (x ∷ xs) lines

-- the first place at which an output is not as it is wanted, with both lines there
abbrev pub first_difference : ℕ → List (List ℕ) → List (List ℕ) → Option (ℕ × List ℕ × List ℕ)
first_difference k [] [] = None
first_difference k (x ∷ xs) [] = Some (k, x, [])
first_difference k [] (y ∷ ys) = Some (k, [], y)
first_difference k (x ∷ xs) (y ∷ ys) = if bytes_eq x y then first_difference (k + 1) xs ys else Some (k, x, y)

-- the parts of an event, in short
abbrev pub shape : Bool → LegSet → Bool → Shape
shape at_second legs dup = record { at_second = at_second; legs = legs; dup = dup }

-- a header without ciphering, with so many SN Counters of this root drawn before
abbrev pub plain : ℕ → List ℕ → Header
plain used root = record { alg = Nea0; used = used; root = root }

-- what the procedures have the master do, in words
abbrev pub act_text : Act → List ℕ
act_text (send to r) = spaced (codes "send" ∷ node_word to ∷ rec_text r ∷ [])
act_text (prepare p) = codes "prepare"
act_text (go p) = codes "go"
act_text (unlock_all g) = codes "open"
act_text (say n) = spaced (codes "say" ∷ note_text n ∷ [])
act_text (recover_one id) = codes "recover"
act_text (fail_one id g) = codes "fail"
act_text (pass st) = codes "pass"

-- all of it, or why there is nothing
abbrev pub shown_acts : Result MasterActs ProcFault → List (List ℕ)
shown_acts (Ok r) = map act_text r.1
shown_acts (Err (refused why)) = refusal_word why ∷ []
shown_acts (Err (unexpected which)) = codes "unexpected" ∷ []

-- the state after a step of the procedures; a refused one changes nothing
abbrev pub proc_after : MasterProc → Result MasterActs ProcFault → MasterProc
proc_after m (Ok r) = r.0
proc_after m (Err why) = m
