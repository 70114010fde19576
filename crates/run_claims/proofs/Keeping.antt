-- Each run keeps these claims.
use Rattle.std.specs.List.{AllByRecursion}
use Rattle.std.specs.Prelude.{List, length, ◌<◌, ◌^◌}
use Rattle.dc_base.specs.declared.events.Event.{Event}
use Rattle.dc_base.specs.declared.events.Header.{Header}
use Rattle.node_rules.specs.Choices.{Choices}
use Rattle.node_rules.specs.Run.{entries_from}
use Rattle.node_rules.specs.World.{new_world}
use Rattle.run_control.specs.Sound.{AddsSecond}
use Rattle.run_words.proofs.Claims.{consequence_holds}
use Rattle.run_words.proofs.Runs.{loss_causes_hold}
use Rattle.run_table.proofs.Causes.{key_causes_hold}
use Rattle.run_agreed.proofs.BearerCauses.{bearer_causes_hold, submissions_have_answers}
use Rattle.run_agreed.proofs.MasterReports.{master_reports_hold}
use Rattle.run_uplinks.proofs.Answering.{terminal_answered, uplinks_near}
use Rattle.run_uplinks.proofs.Rising.{freed_lines_rise}
use Rattle.run_seconds.proofs.Answering.{second_causes_hold, steps_answered}
use Rattle.run_senders.proofs.Classes.{records_between_ends, sends_on_links}
use Rattle.run_relays.specs.Ranges.{NamesIdentity}
use Rattle.run_relays.proofs.UplinkRuns.{uplink_lines_protected_in_range}
use Rattle.run_plans.proofs.Runs.{records_planned}
use Rattle.run_keys.proofs.Keys.{records_keyed}
use Rattle.run_keys.proofs.Unused.{orders_unused}
use Rattle.run_keys.proofs.Relayed.{uplink_uses_once}
use Rattle.run_placed.proofs.Placed.{terminal_notes_placed}
use Rattle.run_placed.proofs.Seconds.{second_notes_placed}
use Rattle.run_holders.proofs.Always.{gives_by_holder, hands_by_holder}
use Rattle.run_claims.specs.KeepsClaims.{KeepsClaims}

-- the transcript of fewer than 2^23 events by the rules, if each addition is of a secondary node and each bearer has an identity of 1 to
-- 32, keeps the claims
pub run_keeps_claims : (c : Choices) (h : Header) (es : List Event) → AllByRecursion AddsSecond es → AllByRecursion NamesIdentity es → length es < 2 ^ 23
    → KeepsClaims h (length c.policies) (entries_from c (new_world h) es)
run_keeps_claims c h es adds names few =
    let policies = length c.policies in
    record {
      consequences = consequence_holds c h policies es;
      on_links = sends_on_links c h policies es adds;
      records = records_between_ends c h policies es adds;
      losses = loss_causes_hold c h policies es;
      key_commands = key_causes_hold c h policies es adds;
      bearer_commands = bearer_causes_hold c h es adds;
      submissions = submissions_have_answers c h es adds;
      at_terminal = terminal_answered c h policies es adds;
      at_seconds = second_causes_hold c h policies es;
      master_reports = master_reports_hold c h es adds;
      steps = steps_answered c h policies es;
      uplink_windows = uplinks_near c h policies es adds;
      uplink_freed = freed_lines_rise c h policies es adds;
      uplink_protected = uplink_lines_protected_in_range c h policies es adds names few;
      plans = records_planned c h policies es adds;
      keys = records_keyed c h policies es adds;
      order_uses = orders_unused c h policies es adds;
      uplink_uses = uplink_uses_once c h policies es adds names few;
      terminal_notes = terminal_notes_placed c h policies es adds;
      second_notes = second_notes_placed c h policies es;
      gives = gives_by_holder c h policies es adds;
      hand_ups = hands_by_holder c h policies es adds;
    }
