use Rattle.std.proofs.Common.{◌≡◌, refl}
use Rattle.node_rules.specs.MasterState.{MasterProc}
use Rattle.xn_procs.proofs.Stepping.{goes-made}
use Rattle.xn_procs.proofs.master.MasterProc.go.Goals as goal

pub returns : goal.returns
returns c =
    let a = c.self.inside in
    let m : MasterProc = record { table = a.table; command = a.command; a_waits = a.a_waits; b_waits = a.b_waits } in
    rw (← c.self.view_is) (goes-made m c.args.change c.args.way c.carry.new.self c.in_ok-moving_by.field-0 c.in_ok-octets.field-0 c.in_ok-copy.field-0 c.in_ok-copy-2.field-0 c.in_ok-leave_acts.field-0 c.in_ok-made.made
    c.in_ok-carry.ensures c.in_ok-moving_by.ensures c.in_ok-octets.ensures c.in_ok-copy.ensures c.in_ok-copy-2.ensures c.in_ok-leave_acts.ensures
    (rw (c.in_ok-made.ensures, c.in_ok-acts.ensures, c.send.ensures) refl))
