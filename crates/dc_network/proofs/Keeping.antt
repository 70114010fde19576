-- The lines of one more event.
use Rattle.std.proofs.Common.{◌≡◌, ◌++◌, ◌∷◌, ◌∙◌, List, [], ap, append_assoc, subst}
use Rattle.dc_base.specs.declared.events.Event.{Event}
use Rattle.dc_base.specs.declared.events.Line.{Line}
use Rattle.dc_base.specs.declared.events.Line.TheVariants as line
use Rattle.transcript.specs.Transcript.{Entry, entry_lines}
use Rattle.node_rules.specs.Choices.{Choices}
use Rattle.node_rules.specs.Run.{world_step}
use Rattle.node_rules.specs.World.{World}
use Rattle.dc_network.specs.Keeping.{Kept, kept_after}

-- an event, its answer and its lines are put after the lines so far
kept_more : (c : Choices) (k : Kept) (e : Event) (w : World) (x : Entry) (one two three : List Line) → (w, x) ≡ world_step c k.now e
    → one ≡ k.lines ++ line.Event x.event ∷ [] → two ≡ one ++ line.Answer x.answer ∷ [] → three ≡ two ++ x.lines
    → (let kept : Kept = record { now = w; lines = three } in kept) ≡ kept_after c k e
kept_more c k e w x one two three step first second third =
    let joined : k.lines ++ line.Event x.event ∷ [] ++ line.Answer x.answer ∷ [] ++ x.lines ≡ k.lines ++ entry_lines x =
    append_assoc (k.lines ++ line.Event x.event ∷ []) (line.Answer x.answer ∷ []) x.lines
    ∙ append_assoc k.lines (line.Event x.event ∷ []) (line.Answer x.answer ∷ x.lines) in
    let lines : three ≡ k.lines ++ entry_lines x = rw (third, second, first) joined in
    rw lines (ap (λ (d : World × Entry). (let kept : Kept = record { now = d.0; lines = k.lines ++ entry_lines d.1 } in kept)) step)

-- the same, of what is seen of its parts
pub kept_within : (c : Choices) (n : World) (so_far : List Line) (k : Kept) (e : Event) (w : World) (x : Entry) (one two three : List Line)
    → (let inside : Kept = record { now = n; lines = so_far } in inside) ≡ k → (w, x) ≡ world_step c n e
    → one ≡ so_far ++ line.Event x.event ∷ [] → two ≡ one ++ line.Answer x.answer ∷ [] → three ≡ two ++ x.lines
    → (let kept : Kept = record { now = w; lines = three } in kept) ≡ kept_after c k e
kept_within c n so_far k e w x one two three seen step first second third =
    let After : Kept → Type 0 = λ before. (let kept : Kept = record { now = w; lines = three } in kept) ≡ kept_after c before e in
    subst After seen (kept_more c (record { now = n; lines = so_far }) e w x one two three step first second third)
