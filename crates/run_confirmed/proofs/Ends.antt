-- Over the air each link has the terminal at one end.
use Rattle.std.proofs.Common.{◌≡◌, true, false, refl}
use Rattle.std.specs.Prelude.{not}
use Rattle.dc_base.specs.Links.{is_link, link}
use Rattle.dc_base.specs.Nodes.{is_same_node}
use Rattle.dc_base.specs.declared.nodes.Class.TheVariants.{Air}
use Rattle.dc_base.specs.declared.nodes.Node.{Node}
use Rattle.dc_base.specs.declared.nodes.Node.TheVariants.{A, B, M, T}

-- what goes over a link of the air comes from the terminal, or goes to it
pub air_ends : (from to : Node) → is_link (link from to Air) ≡ true → is_same_node from T ≡ not (is_same_node to T)
air_ends T T is = absurd (let bad : false ≡ true = is in cc)
air_ends T M is = refl
air_ends T A is = refl
air_ends T B is = refl
air_ends M T is = refl
air_ends M M is = absurd (let bad : false ≡ true = is in cc)
air_ends M A is = absurd (let bad : false ≡ true = is in cc)
air_ends M B is = absurd (let bad : false ≡ true = is in cc)
air_ends A T is = refl
air_ends A M is = absurd (let bad : false ≡ true = is in cc)
air_ends A A is = absurd (let bad : false ≡ true = is in cc)
air_ends A B is = absurd (let bad : false ≡ true = is in cc)
air_ends B T is = refl
air_ends B M is = absurd (let bad : false ≡ true = is in cc)
air_ends B A is = absurd (let bad : false ≡ true = is in cc)
air_ends B B is = absurd (let bad : false ≡ true = is in cc)
