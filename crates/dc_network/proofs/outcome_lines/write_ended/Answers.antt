use Rattle.dc_network.proofs.Ordering.{ended_in_turns}
use Rattle.dc_network.proofs.outcome_lines.write_ended.Goals as goal

pub returns : goal.returns
returns c =
    ended_in_turns c.args.notes.items c.in_ok-notes_before.notes_before.items c.in_ok-notes_before.notes_after.items c.args.sends.items
    c.in_ok-sends.sends.before.items c.in_ok-sends.sends.idle.items c.in_ok-sends.sends.after.items c.args.lines.now c.write_ordered.new.lines
    c.write_sends.new.lines c.write_ordered-2.new.lines c.in_ok-notes_before.ensures.before c.in_ok-notes_before.ensures.after
    c.in_ok-sends.ensures.before c.in_ok-sends.ensures.idle c.in_ok-sends.ensures.after c.in_ok-write_ordered.ensures c.in_ok-write_sends.ensures
    c.in_ok-write_ordered-2.ensures
