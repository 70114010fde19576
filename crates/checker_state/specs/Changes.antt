-- The changes of one bearer.
use Rattle.std.specs.Prelude.{None, true}
use Rattle.claims.specs.Carrying.{dropped_at, gone_at_master, with_set}
use Rattle.claims.specs.Noted.{given_away, owned_by, set_to_generation}
use Rattle.claims.specs.Past.{Bearer}
use Rattle.checker_state.specs.declared.bearers.Change.{Change}
use Rattle.checker_state.specs.declared.bearers.Change.TheVariants as change

-- what a change does
abbrev pub changed_by : Change → Bearer → Bearer
changed_by (change.Own x g) b = owned_by x g b
changed_by (change.Give x g) b = given_away x g b
changed_by (change.Set g) b = set_to_generation g b
changed_by change.Unset b = record b { terminal = None }
changed_by change.Drop b = record b { is_dropped = true }
changed_by change.Done b = record b { is_done = true }
changed_by (change.Carried g) b = with_set g b
changed_by change.Gone b = gone_at_master b
changed_by (change.DroppedAt x) b = dropped_at x b
