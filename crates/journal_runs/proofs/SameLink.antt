-- Nodes, classes and links are known by their numbers.
use Rattle.std.proofs.Common.{ap, arith, refl, true, ◌<◌, ◌∙◌, ◌≡◌}
use Rattle.std.proofs.lemmas.Bool.{eqb-true}
use Rattle.dc_base.specs.Links.{class_number, is_same_link, link_number}
use Rattle.dc_base.specs.Nodes.{node_number}
use Rattle.dc_base.specs.declared.nodes.Class.{Class}
use Rattle.dc_base.specs.declared.nodes.Class.TheVariants.{Air, Ctl, Feed, Tun}
use Rattle.dc_base.specs.declared.nodes.LinkId.{LinkId}
use Rattle.dc_base.specs.declared.nodes.Node.{Node}
use Rattle.dc_base.specs.declared.nodes.Node.TheVariants.{A, B, M, T}

-- a node has its number below 4
pub node_small : (n : Node) → node_number n < 4
node_small T = omega arith
node_small M = omega arith
node_small A = omega arith
node_small B = omega arith

-- and so has a class
class_small : (c : Class) → class_number c < 4
class_small Ctl = omega arith
class_small Feed = omega arith
class_small Air = omega arith
class_small Tun = omega arith

-- each link has its number below 64
pub link_small : (l : LinkId) → link_number l < 64
link_small l = let a = node_small l.from in let b = node_small l.to in let k = class_small l.class in omega (arith, a, b, k)

-- nodes and classes of one number are one
pub node_is : (m n : Node) → node_number m ≡ node_number n → m ≡ n
node_is T T e = refl
node_is T M e = absurd (omega (arith, e))
node_is T A e = absurd (omega (arith, e))
node_is T B e = absurd (omega (arith, e))
node_is M T e = absurd (omega (arith, e))
node_is M M e = refl
node_is M A e = absurd (omega (arith, e))
node_is M B e = absurd (omega (arith, e))
node_is A T e = absurd (omega (arith, e))
node_is A M e = absurd (omega (arith, e))
node_is A A e = refl
node_is A B e = absurd (omega (arith, e))
node_is B T e = absurd (omega (arith, e))
node_is B M e = absurd (omega (arith, e))
node_is B A e = absurd (omega (arith, e))
node_is B B e = refl

-- a class is known by its number
class_is : (m n : Class) → class_number m ≡ class_number n → m ≡ n
class_is Ctl Ctl e = refl
class_is Ctl Feed e = absurd (omega (arith, e))
class_is Ctl Air e = absurd (omega (arith, e))
class_is Ctl Tun e = absurd (omega (arith, e))
class_is Feed Ctl e = absurd (omega (arith, e))
class_is Feed Feed e = refl
class_is Feed Air e = absurd (omega (arith, e))
class_is Feed Tun e = absurd (omega (arith, e))
class_is Air Ctl e = absurd (omega (arith, e))
class_is Air Feed e = absurd (omega (arith, e))
class_is Air Air e = refl
class_is Air Tun e = absurd (omega (arith, e))
class_is Tun Ctl e = absurd (omega (arith, e))
class_is Tun Feed e = absurd (omega (arith, e))
class_is Tun Air e = absurd (omega (arith, e))
class_is Tun Tun e = refl

-- links of one number are one link
pub same_link : (l k : LinkId) → is_same_link l k ≡ true → l ≡ k
same_link l k same =
    let is : link_number l ≡ link_number k = eqb-true (link_number l) (link_number k) same in
    let a = node_small l.from in let b = node_small l.to in let c = node_small k.from in let d = node_small k.to in
    let from = node_is l.from k.from (omega (arith, is, a, b, c, d)) in
    let to = node_is l.to k.to (omega (arith, is, a, b, c, d)) in
    let class = class_is l.class k.class (omega (arith, is, a, b, c, d)) in
    ap (λ n. record { from = n; to = l.to; class = l.class }) from
    ∙ ap (λ n. record { from = k.from; to = n; class = l.class }) to
    ∙ ap (λ n. record { from = k.from; to = k.to; class = n }) class
