-- The steps of what is kept: as those of the past, but for what is not kept.
use Rattle.std.specs.Prelude.{None, Option, Some, false, fold, true, ℕ, ◌+◌, ◌∷◌}
use Rattle.dc_base.specs.declared.answers.Answer.{Answer}
use Rattle.dc_base.specs.declared.answers.Answer.TheVariants as answer
use Rattle.dc_base.specs.declared.events.Event.{Event}
use Rattle.dc_base.specs.declared.events.Event.TheVariants as event
use Rattle.dc_base.specs.declared.events.Line.{Line}
use Rattle.dc_base.specs.declared.events.Line.TheVariants as line
use Rattle.dc_base.specs.declared.events.Note.{Note}
use Rattle.dc_base.specs.declared.events.Note.TheVariants as note
use Rattle.dc_base.specs.declared.flights.Flight.{Flight}
use Rattle.dc_base.specs.declared.flights.Flight.TheVariants as flight
use Rattle.dc_base.specs.declared.nodes.LinkId.{LinkId}
use Rattle.dc_base.specs.declared.nodes.Node.{Node}
use Rattle.dc_base.specs.declared.nodes.Want.{Want}
use Rattle.dc_base.specs.declared.records.Rec.{Rec}
use Rattle.dc_base.specs.declared.records.Rec.TheVariants as rec
use Rattle.claims.specs.Carrying.{plan_of, with_command, with_new}
use Rattle.claims.specs.Drafts.{Draft, command_of, draft}
use Rattle.claims.specs.Links.{find_at}
use Rattle.claims.specs.Noted.{answers, noted_note, noted_record}
use Rattle.claims.specs.Past.{Past}
use Rattle.claims.specs.Reading.{on_latest, second, with_second}
use Rattle.claims.specs.Table.{recovery}
use Rattle.claims.specs.Taking.{on_record}

-- a command is drawn; how calm bearers were is not kept
abbrev pub kept_draft : Past → Event → Option Node → Option Draft → Past
kept_draft s e asker None = s
kept_draft s e asker (Some d) = record s {
  plans = plan_of s.table d ∷ s.plans;
  bearers = fold (with_new (s.table.last + 1)) s.bearers d.items;
  table = with_command s.table e asker d;
}

-- an event draws its command, for a secondary that asked or for none
abbrev pub kept_drawn : Event → Option Node → Past → Past
kept_drawn e asker s = kept_draft s e asker (draft s.table e)

-- a request is begun
abbrev pub kept_begun : Option Node → Want → Past → Past
kept_begun None w s = kept_drawn (command_of w) None s
kept_begun (Some x) w s = kept_drawn (command_of w) (Some x) (answers x s)

-- a note; what goes up and what is freed is not kept
abbrev pub kept_note : Note → Past → Past
kept_note (note.Begin w) s = kept_begun s.table.sec w s
kept_note (note.Up x id d count sdu) s = s
kept_note (note.Freed id d count) s = s
kept_note n s = noted_note n s

-- a flight that is sent: records alone are read
abbrev pub kept_flight : LinkId → Flight → Past → Past
kept_flight l (flight.Ctl r) s = noted_record l.to r s
kept_flight l f s = s

-- a line
abbrev pub kept_line : Line → Past → Past
kept_line (line.Note n) s = kept_note n s
kept_line (line.Send l f) s = kept_flight l f s
kept_line x s = s

-- the recovery of an identity is open
abbrev pub kept_recovering : ℕ → Past → Past
kept_recovering id s = record s {
  table = record s.table {
    command = Some (record {
      kind = recovery id;
      event = event.Recover id;
      asker = None;
      target = None;
      root = s.table.root;
      second_key = s.table.second_key;
      is_carried = true;
      is_lost = false;
    });
  };
}

-- the drop of an identity is open
abbrev pub kept_dropping : ℕ → Past → Past
kept_dropping id s = kept_drawn (event.Remove id) None (record s { bearers = on_latest id (λ b. record b { is_dropped = true }) s.bearers })

-- a record comes; of failures and moves nothing is kept
abbrev pub kept_record : LinkId → Rec → Past → Past
kept_record l (rec.Scgf pairs) s = s
kept_record l (rec.Scgn id g) s = s
kept_record l (rec.Snst t) s = s
kept_record l (rec.Moved g id) s = s
kept_record l r s = on_record l r s

-- a flight comes
abbrev pub kept_taken : LinkId → Flight → Past → Past
kept_taken l (flight.Ctl r) s = kept_record l r s
kept_taken l f s = s

-- it is given to the receiver of its link
abbrev pub kept_given : Option (LinkId × Flight) → Past → Past
kept_given None s = s
kept_given (Some x) s = kept_taken x.0 x.1 (record s { given = Some x })

-- an event that was answered ok, with the flight that stands at its place
abbrev pub kept_accepted : Event → Option (LinkId × Flight) → Past → Past
kept_accepted (event.Bearer id n first shape threshold policy) x s = kept_drawn (event.Bearer id n first shape threshold policy) None s
kept_accepted (event.Reshape id shape) x s = kept_drawn (event.Reshape id shape) None s
kept_accepted (event.Remove id) x s = kept_dropping id s
kept_accepted (event.Add node) x s = kept_drawn (event.Add node) None s
kept_accepted event.Change x s = kept_drawn event.Change None s
kept_accepted event.Release x s = kept_drawn event.Release None s
kept_accepted event.RekeySecond x s = kept_drawn event.RekeySecond None s
kept_accepted (event.RekeyMaster root) x s = kept_drawn (event.RekeyMaster root) None s
kept_accepted (event.Recover id) x s = kept_recovering id s
kept_accepted (event.Submit id d sdu) x s = s
kept_accepted (event.Report node id) x s = s
kept_accepted (event.Deny node on) x s = with_second node (record (second node s) { denies = on }) s
kept_accepted (event.Ask node w) x s = with_second node (record (second node s) { wants = Some w }) s
kept_accepted event.ScgFail x s = s
kept_accepted (event.Step l i) x s = kept_given x s
kept_accepted (event.Lose l i) x s = s
kept_accepted (event.Again l i) x s = s

-- an event with its answer
abbrev pub kept_answered : Event → Answer → Option (LinkId × Flight) → Past → Past
kept_answered e answer.Ok x s = kept_accepted e x s
kept_answered e (answer.No why) x s = s

-- what is kept before the lines of an event
abbrev pub kept_judged : Event → Answer → Option (LinkId × Flight) → Past → Past
kept_judged e a x s = kept_answered e a x (record s { given = None })

-- the flight that stands at the place that an event names, where it is stepped
abbrev pub flight_at : Event → Past → Option (LinkId × Flight)
flight_at (event.Step l i) p = find_at l i p.standing
flight_at _ p = None
