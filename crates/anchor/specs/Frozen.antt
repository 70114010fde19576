-- What a freeze gives, as the rules have it.
use Rattle.node_rules.specs.Freezing.{FreezeOut as Given}
use Rattle.anchor.specs.declared.freezing.FreezeOut.{FreezeOut}

-- the same record
abbrev pub given : FreezeOut → Given
given out = record { status = out.status; sends = out.sends; rest = out.rest }
