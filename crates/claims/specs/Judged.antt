-- The step of an event with its answer, before its lines.
use Rattle.std.specs.Prelude.{Bool, List, None, Option, Some, [], false, map, true, ℕ, ◌++◌, ◌||◌, ◌∷◌}
use Rattle.dc_base.specs.declared.answers.Answer.{Answer}
use Rattle.dc_base.specs.declared.answers.Answer.TheVariants as answer
use Rattle.dc_base.specs.declared.answers.Refusal.{Refusal}
use Rattle.dc_base.specs.declared.answers.Refusal.TheVariants as refusal
use Rattle.dc_base.specs.declared.events.Event.{Event}
use Rattle.dc_base.specs.declared.events.Event.TheVariants as event
use Rattle.dc_base.specs.declared.flights.Flight.{Flight}
use Rattle.dc_base.specs.declared.nodes.LinkId.{LinkId}
use Rattle.claims.specs.Links.{find_at, without}
use Rattle.claims.specs.Sameness.{is_some_and}
use Rattle.claims.specs.Shapes.{has_scg}
use Rattle.claims.specs.Views.{forwarding_of, owner_of}
use Rattle.claims.specs.Table.{Command, is_change, recovery}
use Rattle.claims.specs.Past.{Bearer, Calm, Lane, Past, lossless, lossy, recovered, untouched}
use Rattle.claims.specs.Reading.{Setting, change_bearer, lane, on_latest, second, setting, with_lane, with_second}
use Rattle.claims.specs.Carrying.{drawn_by}
use Rattle.claims.specs.Taking.{given_if}

-- ---- what is lost

-- the open command, if a forwarded packet of its generation was lost
abbrev pub lost_command : ℕ → Option Command → Option Command
lost_command g None = None
lost_command g (Some c) = Some (record c { is_lost = c.is_lost || is_change g c.kind })

-- a forwarded packet of this identity and generation is lost
abbrev pub forward_lost : Option (ℕ × ℕ) → Past → Past
forward_lost None p = p
forward_lost (Some x) p = record p {
  bearers = change_bearer p x.0 x.1 (λ b. record b { lost_forward = true });
  table = record p.table { command = lost_command x.1 p.table.command };
}

-- something was lost or failed somewhere
abbrev pub troubled : Calm → Calm
troubled untouched = lossless
troubled recovered = lossless
troubled lossless = lossless
troubled lossy = lossy

-- every bearer, after that
abbrev pub trouble : List Bearer → List Bearer
trouble bs = map (λ (b : Bearer). record b { calm = troubled b.calm }) bs

-- a flight of this identity and generation is lost
abbrev pub own_lost : Option (ℕ × ℕ) → Past → Past
own_lost None p = p
own_lost (Some x) p = record p { bearers = change_bearer p x.0 x.1 (λ b. record b { calm = lossy }) }

-- a flight is lost
abbrev pub lost_if : Option (LinkId × Flight) → Past → Past
lost_if None p = p
lost_if (Some s) p = forward_lost (forwarding_of s.1) (own_lost (owner_of s.1) (record p { bearers = trouble p.bearers }))

-- ---- what fails

-- a leg that the terminal has there fails
abbrev pub leg_fails : Bool → Bearer → Bearer
leg_fails false b = b
leg_fails true b = record b { is_failed = true }

-- the setting has a leg in the secondary cell group
abbrev pub has_scg_in : Option Setting → Bool
has_scg_in s = is_some_and (λ t. has_scg t.shape.legs) s

-- the SCG leg of the generation that the terminal has fails, if it has one
abbrev pub fails_in : Past → Bearer → Option ℕ → Bearer
fails_in p b None = b
fails_in p b (Some g) = leg_fails (has_scg_in (setting p b.id g)) b

-- of each bearer
abbrev pub fails : Past → Bearer → Bearer
fails p b = fails_in p b b.terminal

-- ---- the event

-- a direction with one more submission
abbrev pub with_submission : List ℕ → Lane → Lane
with_submission sdu x = record x { submitted = x.submitted ++ sdu ∷ [] }

-- a recovery begins anew what is calm
abbrev pub calmed : Calm → Calm
calmed untouched = untouched
calmed recovered = recovered
calmed lossless = recovered
calmed lossy = recovered

-- the recovery of an identity is open
abbrev pub recovering : ℕ → Past → Past
recovering id p = record p {
  table = record p.table {
    command = Some (record {
      kind = recovery id;
      event = event.Recover id;
      asker = None;
      target = None;
      root = p.table.root;
      second_key = p.table.second_key;
      is_carried = true;
      is_lost = false;
    });
  };
  bearers = on_latest id (λ b. record b { calm = calmed b.calm }) p.bearers;
}

-- the drop of an identity is open
abbrev pub dropping : ℕ → Past → Past
dropping id p = drawn_by (event.Remove id) None (record p { bearers = on_latest id (λ b. record b { is_dropped = true }) p.bearers })

-- an event that was answered ok
abbrev pub accepted : Event → Past → Past
accepted (event.Bearer id n first shape threshold policy) p = drawn_by (event.Bearer id n first shape threshold policy) None p
accepted (event.Reshape id shape) p = drawn_by (event.Reshape id shape) None p
accepted (event.Remove id) p = dropping id p
accepted (event.Add x) p = drawn_by (event.Add x) None p
accepted event.Change p = drawn_by event.Change None p
accepted event.Release p = drawn_by event.Release None p
accepted event.RekeySecond p = drawn_by event.RekeySecond None p
accepted (event.RekeyMaster root) p = drawn_by (event.RekeyMaster root) None p
accepted (event.Recover id) p = recovering id p
accepted (event.Submit id d sdu) p = record p { bearers = on_latest id (λ b. with_lane d (with_submission sdu (lane d b)) b) p.bearers }
accepted (event.Report x id) p = p
accepted (event.Deny x on) p = with_second x (record (second x p) { denies = on }) p
accepted (event.Ask x w) p = with_second x (record (second x p) { wants = Some w }) p
accepted event.ScgFail p = record p { bearers = trouble (map (fails p) p.bearers) }
accepted (event.Step l i) p = given_if (find_at l i p.standing) (record p { standing = without l i p.standing })
accepted (event.Lose l i) p = lost_if (find_at l i p.standing) (record p { standing = without l i p.standing })
accepted (event.Again l i) p = record p { copied = find_at l i p.standing }

-- an aged flight is gone
abbrev pub aged : Event → Past → Past
aged (event.Step l i) p = record p { standing = without l i p.standing }
aged _ p = p

-- an event that was refused
abbrev pub refused : Refusal → Event → Past → Past
refused refusal.Aged e p = aged e p
refused _ e p = p

-- an event with its answer
abbrev pub answered : Event → Answer → Past → Past
answered e answer.Ok p = accepted e p
answered e (answer.No why) p = refused why e p

-- the past before the lines of an event
abbrev pub judged : Event → Answer → Past → Past
judged e a p = answered e a (record p { earlier = p.pdus; event = e; answer = a; given = None; copied = None; fresh = []; said = [] })
