-- What is seen of the stored policies: the two numbers of each.
use Rattle.std.specs.Prelude.{List, map}
use Rattle.split_leg.specs.declared.policies.Policy.{Policy}
use Rattle.split_leg.specs.declared.policies.Policies.{Policies}
use Rattle.split_leg.specs.Routing.{Margins}

-- the two numbers of a stored policy, in octets
abbrev pub margins_of : {T : _} {S : _} {g : _} → Policy T S g → Margins
margins_of policy = record { plus = policy.plus; minus = policy.minus }

-- the two numbers of each stored policy, in the order of the policies' numbers, from 0
abbrev pub margins : {T : _} {S : _} {g : _} → Policies T S g → List Margins
margins policies = map margins_of policies.list.items
