use Rattle.std.proofs.Common.{◌≡◌, ◌∙◌, length, refl, arith}
use Rattle.std.specs.BTreeMap.{get}
use Rattle.std.specs.BTreeSet.{contains}
use Rattle.std.specs.Ordering.{nat_cmp}
use Rattle.split_leg.proofs.OpenKeys.{no_key_past}
use Rattle.split_leg.proofs.Outstanding.{indexed_put}
use Rattle.split_leg.proofs.leg.Leg.put.Goals as goal

pub note-requires : goal.note-requires
note-requires c =
    let at : c.len-num.result ≡ length c.self.inside.pdus.items = omega (arith, c.len-num.ensures, c.self.inside.pdus.ok.0) in
    λ k is. c.self.invariant.open_keys k ∙ no_key_past c.self.inside.pdus.items c.args.count k (rw at at is)

pub invariant_of-self-2 : goal.invariant_of-self-2
invariant_of-self-2 c =
    let items = rw (c.unwrap.ensures, c.reserve.ensures.items) at c.push.ensures.items in
    let num : c.len-num.result ≡ length c.self.inside.pdus.items = omega (arith, c.len-num.ensures, c.self.inside.pdus.ok.0) in
    let room = rw (← c.self.view_is) at c.requires.fewer in
    indexed_put c.self.inside.pdus.items c.push.new.self.items c.self.inside.outstanding c.open_octets.result c.len-num.result (λ q. get nat_cmp c.self.inside.firsts q)
    (λ q. get nat_cmp c.note.new.firsts q) (λ k. contains nat_cmp c.self.inside.open_keys k) (λ k. contains nat_cmp c.note.new.open_keys k) _ c.self.invariant items c.requires.octets refl refl room
    c.open_octets.ensures num c.in_ok-note.ensures.firsts c.in_ok-note.ensures.open_keys
