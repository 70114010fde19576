use Rattle.std.proofs.Common.{refl, arith}
use Rattle.nea2.proofs.Gates.{no_wire, plane, wire, xor_gate}
use Rattle.nea2.proofs.Rows.{octet_of-times_x}
use Rattle.nea2.proofs.planes.times_x.Goals as goal

pub returns : goal.returns
returns c =
    let p0 = plane c.args.p 0 0xaaaaaaaaaaaaaaaaaaaaaaaaaaaaaaaaaaaaaaaaaaaaaaaaaaaaaaaaaaaaaaaa (omega arith) (c.requires 0 (omega arith)) refl in
    let p1 = plane c.args.p 1 0xcccccccccccccccccccccccccccccccccccccccccccccccccccccccccccccccc (omega arith) (c.requires 1 (omega arith)) refl in
    let p2 = plane c.args.p 2 0xf0f0f0f0f0f0f0f0f0f0f0f0f0f0f0f0f0f0f0f0f0f0f0f0f0f0f0f0f0f0f0f0 (omega arith) (c.requires 2 (omega arith)) refl in
    let p3 = plane c.args.p 3 0xff00ff00ff00ff00ff00ff00ff00ff00ff00ff00ff00ff00ff00ff00ff00ff00 (omega arith) (c.requires 3 (omega arith)) refl in
    let p4 = plane c.args.p 4 0xffff0000ffff0000ffff0000ffff0000ffff0000ffff0000ffff0000ffff0000 (omega arith) (c.requires 4 (omega arith)) refl in
    let p5 = plane c.args.p 5 0xffffffff00000000ffffffff00000000ffffffff00000000ffffffff00000000 (omega arith) (c.requires 5 (omega arith)) refl in
    let p6 = plane c.args.p 6 0xffffffffffffffff0000000000000000ffffffffffffffff0000000000000000 (omega arith) (c.requires 6 (omega arith)) refl in
    let p7 = plane c.args.p 7 0xffffffffffffffffffffffffffffffff00000000000000000000000000000000 (omega arith) (c.requires 7 (omega arith)) refl in
    let x0 = xor_gate p0 p7 0x55555555555555555555555555555555aaaaaaaaaaaaaaaaaaaaaaaaaaaaaaaa refl in
    let x2 = xor_gate p2 p7 0xf0f0f0f0f0f0f0f0f0f0f0f0f0f0f0ff0f0f0f0f0f0f0f0f0f0f0f0f0f0f0f0 refl in
    let x3 = xor_gate p3 p7 0xff00ff00ff00ff00ff00ff00ff00ffff00ff00ff00ff00ff00ff00ff00ff00 refl in
    let outputs = wire p7 (wire x0 (wire p1 (wire x2 (wire x3 (wire p4 (wire p5 (wire p6 (no_wire c.args.p)))))))) in
    record {
      full = λ i low. (outputs.all i low).full;
      octets = octet_of-times_x c.args.p _ outputs.all;
    }
