use Rattle.nr_u.proofs.Written.{written_is_frame, written_fits}
use Rattle.nr_u.proofs.encoding.encode.Goals as goal

pub returns-clause-frame : goal.returns-clause-frame
returns-clause-frame c =
    rw (c.from_vec.ensures, c.in_ok-pad.ensures, c.in_ok-write_frame.ensures, c.in_ok-out.ensures.items) (written_is_frame c.args.f.now c.requires)

pub returns-clause-fits : goal.returns-clause-fits
returns-clause-fits c =
    rw (c.from_vec.ensures, c.in_ok-pad.ensures, c.in_ok-write_frame.ensures, c.in_ok-out.ensures.items) (written_fits c.args.f.now c.requires)
