use Rattle.std.proofs.Common.{refl, arith}
use Rattle.nea2.proofs.Gates.{no_wire, ones_wire, wire, xor_gate}
use Rattle.nea2.proofs.circuit.last_layer.Goals as goal

pub returns : goal.returns
returns c q held =
    let z0 = held 0 (omega arith) in
    let z1 = held 1 (omega arith) in
    let z2 = held 2 (omega arith) in
    let z3 = held 3 (omega arith) in
    let z4 = held 4 (omega arith) in
    let z5 = held 5 (omega arith) in
    let z6 = held 6 (omega arith) in
    let z7 = held 7 (omega arith) in
    let z8 = held 8 (omega arith) in
    let z9 = held 9 (omega arith) in
    let z10 = held 10 (omega arith) in
    let z11 = held 11 (omega arith) in
    let z12 = held 12 (omega arith) in
    let z13 = held 13 (omega arith) in
    let z14 = held 14 (omega arith) in
    let z15 = held 15 (omega arith) in
    let z16 = held 16 (omega arith) in
    let z17 = held 17 (omega arith) in
    let ones = ones_wire q in
    let t46 = xor_gate z15 z16 0xa0c384f0e07e39a0805f3ed020c86d24da3c0a007bf1010d18570d0d1fe90a0 refl in
    let t47 = xor_gate z10 z11 0x207883a2329e54c134b817833971a168c0d4022eaa415448aacb7d6501071c38 refl in
    let t48 = xor_gate z5 z13 0x463a6019d5190607999b1986c1263b40043740a15489cf04198c00901660104 refl in
    let t49 = xor_gate z9 z10 0x743441caa2a2c655a2060204647c23e946929ca2c1626955286a645d01d31a2e refl in
    let t50 = xor_gate z2 z12 0xa000b0bbb119b900939a1b38933bb11122c60628eae8ea40c62ea08e2c2682ee refl in
    let t51 = xor_gate z2 z5 0xa20304ebb4419a49c2ba22b88838c1922aeb96e03e60be69caa2e81a41a86b2c refl in
    let t52 = xor_gate z7 z8 0x3b4064e0a8422789c417f2f0514487165c632b013f45d83051940b0ac710b268 refl in
    let t53 = xor_gate z0 z3 0x1e8e7c33b2944f010d4414a2c2dc413df87206878d2be34c188231cf0a2d8258 refl in
    let t54 = xor_gate z6 z7 0x22cf7863d4e1050bcb31c32c3328cd24d4e12284048b10d2b0904e1cc53ed080 refl in
    let t55 = xor_gate z16 z17 0xb0366ec040166830707c6330b0959769bcaa0b0bc59c0f0a9166050c7927060 refl in
    let t56 = xor_gate z12 t48 0x44194108c40a34048a9a0885f0152a5080ff08a55805cb00514c00d0dea89c0 refl in
    let t57 = xor_gate t50 t53 0xbe8ecc88038df6019ede0f9a51e7f02cdab400af67c3090cdeac9141260b00b6 refl in
    let t58 = xor_gate z4 t46 0x88e984f4f17a39f1904a6a9028eacf84d89682a02bb1405d0d134857956382a refl in
    let t59 = xor_gate z3 t54 0x2e8d446255f1862bf7b1d3acf0388c38eca1360745b3d1d2a4117e1fc7125294 refl in
    let t60 = xor_gate t46 t57 0xb482f4c70d8a159b96dbfc7753eb76fe9717c00f607c191c0f29e191f7f59016 refl in
    let t61 = xor_gate z14 t57 0xbf8fc9cd0305fe2bbed6273a51b7b57df29628a733975c598aedc511840922bc refl in
    let t62 = xor_gate t52 t58 0x33cefcafe7558416dd13545953ca2bee11ea432b3dfecc3581453f8fbe468a42 refl in
    let t63 = xor_gate t49 t58 0x7cbad985edb565cabb02a4ad66f28f110b1bf488c3d97d50f8bb50d878852204 refl in
    let t64 = xor_gate z4 t59 0x2c0fe46214e1c62ee6b086e8f0baa612ec8b9e8d40b7d5c7a5453a4a6fbafa1e refl in
    let t65 = xor_gate t61 t62 0x8c413562e4507a3d63c57363027d9e93e37c6b8c0e69906c0ba8fa9e3a4fa8fe refl in
    let t66 = xor_gate z1 t63 0xec9edf9d7cd361522b60a6247e94ad890f837ccec1c8ec14da32c8b858953346 refl in
    let s0 = xor_gate t59 t63 0x52379de7b844e3e14cb3770196ca0329e7bac28f866aac825caa2ec7bf977090 refl in
    let n62 = xor_gate t62 ones 0xcc31035018aa7be922ecaba6ac35d411ee15bcd4c20133ca7ebac07041b975bd refl in
    let s6 = xor_gate t56 n62 0xc870974094ead8a96a450b2ef33486b4e61a4c5e97816f7a7bae007d4c53fc7d refl in
    let n60 = xor_gate t60 ones 0x4b7d0b38f275ea6469240388ac14890168e83ff09f83e6e3f0d61e6e080a6fe9 refl in
    let s7 = xor_gate t48 n60 0x4f1ead396f247a0410bdb210c006eab568ab4bfa8acb7a13b14ede67096c6eed refl in
    let t67 = xor_gate t64 t65 0xa04ed100f0b1bc138575f58bf2c738810ff7f5014ede45abaeedc0d455f552e0 refl in
    let s3 = xor_gate t53 t66 0xf210a3aece472e532624b286bc48ecb4f7f17a494ce30f58c2b0f97752b8b11e refl in
    let s4 = xor_gate t51 t66 0x4e9ddb76c892fb1be9da849cf6ac6c1b2568ea2effa8527d109020a2193d586a refl in
    let s5 = xor_gate t47 t65 0xac39b6c0d6ce2efc577d64e03b0c3ffb23a869a2a428c424a16387fb3b48b4c6 refl in
    let n3 = xor_gate s3 ones 0xdef5c5131b8d1acd9db4d7943b7134b080e85b6b31cf0a73d4f0688ad474ee1 refl in
    let s1 = xor_gate t64 n3 0x21e0b833255917823f6bcb91b30db559e4851b3bf3ab2560980a3cc2c2fdb4ff refl in
    let n67 = xor_gate t67 ones 0x5fb12eff0f4e43ec7a8a0a740d38c77ef0080afeb121ba5451123f2baa0aad1f refl in
    let s2 = xor_gate t55 n67 0x54b248130b4f256f7d8dcc4706319e086bc2aa4e0d787aa4f8045f7b6d98dd7f refl in
    let outputs = wire s7 (wire s6 (wire s5 (wire s4 (wire s3 (wire s2 (wire s1 (wire s0 (no_wire q)))))))) in
    outputs.all
