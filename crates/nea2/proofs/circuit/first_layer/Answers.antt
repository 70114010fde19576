use Rattle.std.proofs.Common.{refl, arith}
use Rattle.nea2.proofs.Gates.{no_wire, plane, wire, xor_gate}
use Rattle.nea2.proofs.circuit.first_layer.Goals as goal

pub returns : goal.returns
returns c =
    let x7 = plane c.args.p 0 0xaaaaaaaaaaaaaaaaaaaaaaaaaaaaaaaaaaaaaaaaaaaaaaaaaaaaaaaaaaaaaaaa (omega arith) (c.requires 0 (omega arith)) refl in
    let x6 = plane c.args.p 1 0xcccccccccccccccccccccccccccccccccccccccccccccccccccccccccccccccc (omega arith) (c.requires 1 (omega arith)) refl in
    let x5 = plane c.args.p 2 0xf0f0f0f0f0f0f0f0f0f0f0f0f0f0f0f0f0f0f0f0f0f0f0f0f0f0f0f0f0f0f0f0 (omega arith) (c.requires 2 (omega arith)) refl in
    let x4 = plane c.args.p 3 0xff00ff00ff00ff00ff00ff00ff00ff00ff00ff00ff00ff00ff00ff00ff00ff00 (omega arith) (c.requires 3 (omega arith)) refl in
    let x3 = plane c.args.p 4 0xffff0000ffff0000ffff0000ffff0000ffff0000ffff0000ffff0000ffff0000 (omega arith) (c.requires 4 (omega arith)) refl in
    let x2 = plane c.args.p 5 0xffffffff00000000ffffffff00000000ffffffff00000000ffffffff00000000 (omega arith) (c.requires 5 (omega arith)) refl in
    let x1 = plane c.args.p 6 0xffffffffffffffff0000000000000000ffffffffffffffff0000000000000000 (omega arith) (c.requires 6 (omega arith)) refl in
    let x0 = plane c.args.p 7 0xffffffffffffffffffffffffffffffff00000000000000000000000000000000 (omega arith) (c.requires 7 (omega arith)) refl in
    let y14 = xor_gate x3 x5 0xf0ff0f00f0ff0f00f0ff0f00f0ff0f00f0ff0f00f0ff0f00f0ff0f00f0ff0f0 refl in
    let y13 = xor_gate x0 x6 0x33333333333333333333333333333333cccccccccccccccccccccccccccccccc refl in
    let y9 = xor_gate x0 x3 0xffff0000ffff0000ffff0000ffffffff0000ffff0000ffff0000ffff0000 refl in
    let y8 = xor_gate x0 x5 0xf0f0f0f0f0f0f0f0f0f0f0f0f0f0f0ff0f0f0f0f0f0f0f0f0f0f0f0f0f0f0f0 refl in
    let t0 = xor_gate x1 x2 0xffffffffffffffff0000000000000000ffffffffffffffff00000000 refl in
    let y1 = xor_gate t0 x7 0xaaaaaaaa5555555555555555aaaaaaaaaaaaaaaa5555555555555555aaaaaaaa refl in
    let y4 = xor_gate y1 x3 0x5555aaaaaaaa5555aaaa55555555aaaa5555aaaaaaaa5555aaaa55555555aaaa refl in
    let y12 = xor_gate y13 y14 0x3c3cc3c33c3cc3c33c3cc3c33c3cc3c3c3c33c3cc3c33c3cc3c33c3cc3c33c3c refl in
    let y2 = xor_gate y1 x0 0x55555555aaaaaaaaaaaaaaaa55555555aaaaaaaa5555555555555555aaaaaaaa refl in
    let y5 = xor_gate y1 x6 0x6666666699999999999999996666666666666666999999999999999966666666 refl in
    let y3 = xor_gate y5 y8 0x6969696996969696969696966969696996969696696969696969696996969696 refl in
    let t1 = xor_gate x4 y12 0xc33c3cc3c33c3cc3c33c3cc3c33c3cc33cc3c33c3cc3c33c3cc3c33c3cc3c33c refl in
    let y15 = xor_gate t1 x5 0x33cccc3333cccc3333cccc3333cccc33cc3333cccc3333cccc3333cccc3333cc refl in
    let y20 = xor_gate t1 x1 0x3cc3c33c3cc3c33cc33c3cc3c33c3cc3c33c3cc3c33c3cc33cc3c33c3cc3c33c refl in
    let y6 = xor_gate y15 x7 0x9966669999666699996666999966669966999966669999666699996666999966 refl in
    let y10 = xor_gate y15 t0 0x33cccc33cc3333cccc3333cc33cccc33cc3333cc33cccc3333cccc33cc3333cc refl in
    let y11 = xor_gate y20 y9 0x3cc33cc33cc33cc3c33cc33cc33cc33c3cc33cc33cc33cc3c33cc33cc33cc33c refl in
    let y7 = xor_gate x7 y11 0x9669966996699669699669966996699696699669966996696996699669966996 refl in
    let y17 = xor_gate y10 y11 0xf0ff0f0f0f00f0f0f0ff0f0f0f00f0ff0f00f0f0f0ff0f0f0f00f0f0f0ff0f0 refl in
    let y19 = xor_gate y10 y8 0x3cc3c33cc33c3cc3c33c3cc33cc3c33c3cc3c33cc33c3cc3c33c3cc33cc3c33c refl in
    let y16 = xor_gate t0 y11 0x3cc33cc3c33cc33c3cc33cc3c33cc33c3cc33cc3c33cc33c3cc33cc3c33cc33c refl in
    let y21 = xor_gate y13 y16 0xff00ff0f00ff00f0ff00ff0f00ff00ff00ff00f0ff00ff0f00ff00f0ff00ff0 refl in
    let y18 = xor_gate x0 y16 0xc33cc33c3cc33cc3c33cc33c3cc33cc33cc33cc3c33cc33c3cc33cc3c33cc33c refl in
    let outputs = wire x7 (wire y1 (wire y2 (wire y3 (wire y4 (wire y5 (wire y6 (wire y7 (wire y8 (wire y9 (wire y10 (wire y11 (wire y12 (wire y13 (wire y14 (wire y15 (wire y16 (wire y17 (wire y18 (wire y19 (wire y20 (wire y21 (no_wire c.args.p)))))))))))))))))))))) in
    outputs.all
