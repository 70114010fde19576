-- What a worker has may go to another thread.
use denote.RattleType.{RattleType}
use mathlib.Core.List.{List, [], ◌∷◌}
use mir.Syntax.{Sym, Ty}
use denote.Exit.{no}
use denote.Param.{arg, param}
use denote.Param.Send.{AllSend, IsSend, IsSync, arg_send, param_send, sendable, struct_send, struct_sync}
use denote.Param.SendFields.{FieldsHave, as_row_send, as_row_sync, declared_send}
use denote.Struct.Declared.{shape}
use denote.Struct.Field.{row_field}
use denote.Struct.Tuple.{TupleAt, parts, type_at}
use Rattle.std.proofs.Crossing.{crosses}
use Rattle.dc_base.specs.contracts.events.Event as Event
use Rattle.dc_base.specs.contracts.events.Line as Line
use Rattle.dc_base.specs.contracts.events.Note as Note
use Rattle.dc_base.specs.contracts.flights.Flight as Flight
use Rattle.dc_base.specs.contracts.lists.Octets as Octets
use Rattle.dc_base.specs.contracts.records.Item as Item
use Rattle.dc_base.specs.contracts.records.Plan as Plan
use Rattle.dc_base.specs.contracts.records.Rec as Rec
use Rattle.journals.specs.contracts.entries.JournalEntry as JournalEntry
use Rattle.journals.specs.contracts.entries.Message as Message
use Rattle.journals.specs.contracts.entries.What as What
use Rattle.outlets.specs.contracts.outlet.Outlet as Outlet
use Rattle.outlets.specs.contracts.ways.Outlets as Outlets
use Rattle.workers.specs.contracts.worker.Worker as Worker
use Rattle.atomic_table.proofs.shared.Seat.TheSendSync as Seat
use Rattle.atomic_table.proofs.shared.Shared.TheSendSync as Shared
use Rattle.atomic_table.proofs.send_lease.SendLease.TheSendSync as SendLease
use Rattle.outlets.specs.contracts.boxes.Inboxes as Inboxes

pub octets_send : IsSend (Octets.the_field).row
octets_send = search (sendable, crosses) depth 20

event_send : IsSend (Event.the_field).row
event_send = search (sendable, octets_send) depth 60 fits 100000

item_send : IsSend (Item.the_field).row
item_send = search sendable depth 60 fits 100000

plan_send : IsSend (Plan.the_field).row
plan_send = search (sendable, crosses, item_send) depth 20

rec_send : IsSend (Rec.the_field).row
rec_send = search (sendable, crosses, octets_send, plan_send) depth 60 fits 100000

flight_send : IsSend (Flight.the_field).row
flight_send = search (sendable, octets_send, rec_send) depth 20

note_send : IsSend (Note.the_field).row
note_send = search (sendable, octets_send) depth 60 fits 100000

line_send : IsSend (Line.the_field).row
line_send = search (sendable, event_send, note_send, flight_send) depth 60 fits 100000

message_send : IsSend (Message.the_field).row
message_send = search (sendable, flight_send) depth 20

what_send : IsSend (What.the_field).row
what_send = search (sendable, event_send, message_send) depth 20

entry_send : IsSend (JournalEntry.the_field).row
entry_send = search (sendable, crosses, what_send, line_send) depth 60 fits 100000

outlet_send : IsSend (Outlet.the_field).row
outlet_send = search (sendable, crosses, message_send, Seat.the_send) depth 60 fits 100000

outlets_send : IsSend (Outlets.the_field).row
outlets_send = search (sendable, outlet_send) depth 20

worker_field : (C G S : RattleType) → IsSend C → IsSend G → IsSend S → IsSend (Worker.the_field C G S).row
worker_field C G S c g s = struct_send (shape (Worker.the_type C G S)) (
  search sendable depth 60 fits 100000,
  (
    search sendable depth 60 fits 100000,
    (
      search sendable depth 60 fits 100000,
      (
        search sendable depth 60 fits 100000,
        (
          search (sendable, crosses, Seat.the_send, message_send) depth 60 fits 100000,
          (
            outlets_send,
            (
              search sendable depth 60 fits 100000,
              (
                search sendable depth 60 fits 100000,
                (
                  search (sendable, crosses, event_send) depth 60 fits 100000,
                  (
                    search (sendable, crosses, entry_send) depth 60 fits 100000,
                    (
                      search (sendable, crosses) depth 60 fits 100000,
                      tt,
                    ),
                  ),
                ),
              ),
            ),
          ),
        ),
      ),
    ),
  ),
)

pub worker_send : (C G S : RattleType) → IsSend C → IsSend G → IsSend S → IsSend (Worker.the_row C G S)
worker_send C G S c g s = as_row_send (Worker.the_field C G S) (worker_field C G S c g s)

-- as an argument of a type
message_row : IsSend Message.the_row
message_row = as_row_send Message.the_field message_send

inboxes_field : IsSync (Inboxes.the_field).row
inboxes_field = struct_sync (shape Inboxes.the_type) (
  search (sendable, crosses, message_row, Shared.the_sync, SendLease.the_sync) depth 60 fits 100000,
  (
    search (sendable, crosses, message_row, Shared.the_sync, SendLease.the_sync) depth 60 fits 100000,
    (
      search (sendable, crosses, message_row, Shared.the_sync, SendLease.the_sync) depth 60 fits 100000,
      (
        search (sendable, crosses, message_row, Shared.the_sync, SendLease.the_sync) depth 60 fits 100000,
        tt,
      ),
    ),
  ),
)

pub inboxes_sync : IsSync Inboxes.the_row
inboxes_sync = as_row_sync Inboxes.the_field inboxes_field

rows_send : (Ts : List RattleType) → AllSend Ts → FieldsHave IsSend (parts Ts)
rows_send [] all = tt
rows_send (T ∷ Ts) all = (as_row_send (row_field T) all.0, rows_send Ts all.1)

-- a closure that captures these values
pub closure_send : (δ : Ty) (ν : Sym) (Ts : List RattleType) → AllSend Ts → IsSend (param 1 (arg δ no (TupleAt ν Ts)))
closure_send δ ν Ts all = param_send 1 (arg δ no (TupleAt ν Ts)) (arg_send δ no (TupleAt ν Ts) (declared_send (type_at ν Ts) (rows_send Ts all)))
