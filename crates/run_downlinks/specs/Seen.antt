-- What of the past decides whether a downlink PDU protects its submission, in the form that is used of uplinks.
use Rattle.std.specs.Prelude.{None, Option, false, map}
use Rattle.dc_base.specs.declared.answers.Answer.{Answer}
use Rattle.dc_base.specs.declared.answers.Answer.TheVariants as answer
use Rattle.dc_base.specs.declared.events.Event.{Event}
use Rattle.dc_base.specs.declared.events.Event.TheVariants as event
use Rattle.dc_base.specs.declared.nodes.Dir.TheVariants.{Dl, Ul}
use Rattle.claims.specs.Drafts.{Draft}
use Rattle.claims.specs.Past.{Bearer, Past}
use Rattle.run_uplinks.specs.Readings.{Reading, reading}
use Rattle.run_uplinks.specs.Seen.{Seen, Uplink, draws, on_latest, one_more}

-- an establishment, with the payloads that were submitted in downlink
abbrev pub downlink_of : Bearer → Uplink
downlink_of b = record {
  g = b.g;
  id = b.id;
  n = b.n;
  first = b.first;
  terminal = None;
  is_failed = false;
  submitted = b.down.submitted;
  freed = b.first;
}

-- of a past
abbrev pub seen : Past → Seen
seen p = record { bearers = map downlink_of p.bearers; plans = p.plans; roots = p.table.roots; last = p.table.last; alg = p.header.alg; sec = None }

-- what is read of it
abbrev pub down_reading : Past → Reading
down_reading p = reading (seen p)

-- ---- steps

-- an event that was answered ok, with what it draws
abbrev pub with_event : Option Draft → Event → Seen → Seen
with_event d (event.Bearer id n first shape threshold policy) s = draws d s
with_event d (event.Reshape id shape) s = draws d s
with_event d (event.Remove id) s = draws d s
with_event d (event.Add x) s = draws d s
with_event d event.Change s = draws d s
with_event d event.Release s = draws d s
with_event d event.RekeySecond s = draws d s
with_event d (event.RekeyMaster root) s = draws d s
with_event d (event.Recover id) s = s
with_event d (event.Submit id Dl sdu) s = record s { bearers = on_latest id (one_more sdu) s.bearers }
with_event d (event.Submit id Ul sdu) s = s
with_event d (event.Report x id) s = s
with_event d (event.Deny x on) s = s
with_event d (event.Ask x w) s = s
with_event d event.ScgFail s = s
with_event d (event.Step l i) s = s
with_event d (event.Lose l i) s = s
with_event d (event.Again l i) s = s

-- an event with its answer
abbrev pub answered : Option Draft → Event → Answer → Seen → Seen
answered d e answer.Ok s = with_event d e s
answered d e (answer.No why) s = s
