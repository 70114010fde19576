-- What one event does to what there is and to what was counted.
use Rattle.std.proofs.Common.{◌≡◌, ◌++◌, List, ap, sym, ◌∙◌}
use Rattle.dc_base.specs.declared.answers.Answer.{Answer}
use Rattle.dc_base.specs.declared.events.Event.{Event}
use Rattle.dc_base.specs.declared.events.Line.{Line}
use Rattle.transcript.specs.Transcript.{Entry, entry_lines}
use Rattle.node_rules.specs.Choices.{Choices}
use Rattle.node_rules.specs.Run.{world_step}
use Rattle.node_rules.specs.World.{World}
use Rattle.dc_network.specs.Counting.{Counted, counted, counts_of_both}
use Rattle.dc_network.proofs.Counted.{counted-append}
use Rattle.counted_network.specs.Counted.{Counting, counting_after}

abbrev pub with_counts : World → Counted → Counting
with_counts w n = record { world = w; counts = n }

abbrev pub entry_of : Event → Answer → List Line → Entry
entry_of e a ls = record { event = e; answer = a; lines = ls }

-- the entry is that of the rules
pub happened : (c : Choices) (v w : World) (e : Event) (a : Answer) (ls : List Line) → (w, entry_of e a ls) ≡ world_step c v e → (world_step c v e).1 ≡ entry_of e a ls
happened c v w e a ls is = sym (ap (λ (p : World × Entry). p.1) is)

-- the counts are those before it and those of its lines
pub counted_next : (c : Choices) (k : Counting) (w : World) (n : Counted) (e : Event) (a : Answer) (ls : List Line) (before : List Line) → counted before ≡ k.counts
    → (w, entry_of e a ls) ≡ world_step c k.world e → ((x : Entry) → x.lines ≡ ls → counted (before ++ entry_lines x) ≡ n) → with_counts w n ≡ counting_after c k e
counted_next c k w n e a ls before counts is summed =
    let x = (world_step c k.world e).1 in
    let same : x ≡ entry_of e a ls = happened c k.world w e a ls is in
    let total : counted (before ++ entry_lines x) ≡ n = summed x (ap (λ (y : Entry). y.lines) same) in
    ap (λ (v : World). with_counts v n) (ap (λ (p : World × Entry). p.0) is)
    ∙ ap (with_counts (world_step c k.world e).0)
    (sym total ∙ counted-append before (entry_lines x) ∙ ap (λ m. counts_of_both m (counted (entry_lines x))) counts)
