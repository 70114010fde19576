use Rattle.std.proofs.Common.{◌≡◌, ◌++◌, ◌<◌, ◌≤◌, length, take, ℕ}
use Rattle.std.specs.Prelude.{slice_index_or}
use Rattle.std.specs.List.{flat_map}
use Rattle.dc_base.specs.declared.nodes.LinkId.{LinkId}
use Rattle.node_rules.specs.Lines.{sends_on}
use Rattle.dc_network.proofs.outcome_lines.write_links.Given as goal

abbrev pub invariant-loop-link : goal.invariant-loop-link
invariant-loop-link l = record {
  ahead : (k : ℕ) (d : LinkId) → l.link-index ≤ k → k < length l.links → sends_on l.left.items (slice_index_or l.links k d) ≡ sends_on l.fn.sends.items (slice_index_or l.links k d);
  written : l.lines ≡ l.initial.lines ++ flat_map (sends_on l.fn.sends.items) (take l.link-index l.links);
}
