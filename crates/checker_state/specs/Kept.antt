-- What is kept of a past: the command table, the plans, the bearers, the secondary nodes and the flight that the event gives. All
-- else is as before anything happened.
use Rattle.std.specs.Option.{option_map}
use Rattle.std.specs.Prelude.{false, map}
use Rattle.claims.specs.Past.{Bearer, Past, new_bearer, new_past}
use Rattle.claims.specs.Table.{Command, Table}

-- of a bearer: where its anchor is, what the terminal has, and whether it is done, dropped or gone
abbrev pub kept_bearer : Bearer → Bearer
kept_bearer b = record (new_bearer b.g b.id b.n b.first) {
  holder = b.holder;
  owned = b.owned;
  gave = b.gave;
  terminal = b.terminal;
  carried = b.carried;
  is_done = b.is_done;
  is_dropped = b.is_dropped;
  is_gone = b.is_gone;
}

-- of the open command all but whether a forwarded packet was lost
abbrev pub kept_command : Command → Command
kept_command c = record c { is_lost = false }

-- of the table all but that
abbrev pub kept_table : Table → Table
kept_table t = record t { command = option_map kept_command t.command }

-- what is kept; how many policies were handed in is in no text
abbrev pub kept : Past → Past
kept p = record (new_past p.header 0) {
  table = kept_table p.table;
  plans = p.plans;
  bearers = map kept_bearer p.bearers;
  a = p.a;
  b = p.b;
  seen = p.seen;
  completed = p.completed;
  configured = p.configured;
  given = p.given;
}
