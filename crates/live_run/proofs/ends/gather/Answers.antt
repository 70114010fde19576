use Rattle.outlets.specs.Boxes.{ids}
use Rattle.live_run.proofs.Journals.{all_sent, all_taken, legal_of, readers_of, ways_of}
use Rattle.live_run.proofs.ends.gather.Goals as goal

pub close_all-requires-clause-readers : goal.close_all-requires-clause-readers
close_all-requires-clause-readers g c =
    let w = c.args.workers in
    (all_taken w.t.journal w.m.journal w.a.journal w.b.journal, readers_of (ids c.args.boxes.now) w.t w.m w.a w.b _ c.requires.t c.requires.m c.requires.a c.requires.b c.parted-reader_t.ensures.ticket c.parted-reader_m.ensures.ticket c.parted-reader_a.ensures.ticket c.parted-reader_b.ensures.ticket)

pub close_all-requires-clause-ways : goal.close_all-requires-clause-ways
close_all-requires-clause-ways g c =
    let w = c.args.workers in
    (all_sent w.t.journal w.m.journal w.a.journal w.b.journal, ways_of (ids c.args.boxes.now) w.t w.m w.a w.b _ c.requires.t c.requires.m c.requires.a c.requires.b c.parted-reader_t.ensures.outlets c.parted-reader_m.ensures.outlets c.parted-reader_a.ensures.outlets c.parted-reader_b.ensures.outlets)

pub returns-clause-legal : goal.returns-clause-legal
returns-clause-legal g c =
    let w = c.args.workers in
    legal_of (ids c.args.boxes.now) w.t w.m w.a w.b c.requires.t c.requires.m c.requires.a c.requires.b
    (c.close_all.ensures (all_taken w.t.journal w.m.journal w.a.journal w.b.journal) (all_sent w.t.journal w.m.journal w.a.journal w.b.journal)
    (readers_of (ids c.args.boxes.now) w.t w.m w.a w.b _ c.requires.t c.requires.m c.requires.a c.requires.b c.parted-reader_t.ensures.ticket c.parted-reader_m.ensures.ticket c.parted-reader_a.ensures.ticket c.parted-reader_b.ensures.ticket)
    (ways_of (ids c.args.boxes.now) w.t w.m w.a w.b _ c.requires.t c.requires.m c.requires.a c.requires.b c.parted-reader_t.ensures.outlets c.parted-reader_m.ensures.outlets c.parted-reader_a.ensures.outlets c.parted-reader_b.ensures.outlets))
