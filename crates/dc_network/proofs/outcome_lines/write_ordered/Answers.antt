use Rattle.std.proofs.Common.{◌++◌, ◌∙◌, ap}
use Rattle.std.specs.List.{flat_map}
use Rattle.node_rules.specs.Lines.{sends_on}
use Rattle.dc_network.proofs.Ordering.{all_apart, in_turns}
use Rattle.dc_network.proofs.outcome_lines.write_ordered.Goals as goal

pub write_links-requires : goal.write_links-requires
write_links-requires c = rw c.all.ensures all_apart

pub returns : goal.returns
returns c =
    in_turns c.args.notes.items c.args.sends.items c.in_ok-notes.notes.items c.in_ok-notes-2.notes.items c.in_ok-notes-3.notes.items
    c.in_ok-notes-4.notes.items c.in_ok-notes-5.notes.items c.in_ok-notes-6.notes.items c.args.lines.now c.write_place.new.lines
    c.write_place-2.new.lines c.write_place-3.new.lines c.write_place-4.new.lines c.write_place-5.new.lines c.write_links.new.lines
    c.write_place-6.new.lines c.write_place-7.new.lines c.in_ok-notes.ensures.others c.in_ok-notes.ensures.written
    c.in_ok-notes-2.ensures.others c.in_ok-notes-2.ensures.written c.in_ok-notes-3.ensures.others c.in_ok-notes-3.ensures.written
    c.in_ok-notes-4.ensures.others c.in_ok-notes-4.ensures.written c.in_ok-notes-5.ensures.others c.in_ok-notes-5.ensures.written
    (c.in_ok-write_links.ensures ∙ ap (λ ls. c.write_place-5.new.lines ++ flat_map (sends_on c.args.sends.items) ls) c.all.ensures) c.in_ok-notes-6.ensures.others c.in_ok-notes-6.ensures.written c.in_ok-write_place.ensures.written
