-- A step of a PDCP entity that leaves its receiving side as it is.
use Rattle.std.specs.Prelude.{◌≡◌}
use Rattle.node_rules.specs.Entity.{Entity}
use Rattle.node_rules.specs.Setup.{Setup}

-- nothing of the setup changed but the legs
pub record IsSameSetup (before after : Setup) : Type 0 where
  pub node : after.node ≡ before.node
  pub id : after.id ≡ before.id
  pub g : after.g ≡ before.g
  pub n : after.n ≡ before.n
  pub alg : after.alg ≡ before.alg
  pub key : after.key ≡ before.key

-- nor did the receiving entity
pub record IsUntouched (before after : Entity) : Type 0 where
  pub setup : IsSameSetup before.setup after.setup
  pub rx : after.rx ≡ before.rx
