-- The past of a run: one record.
use Rattle.std.specs.Prelude.{Bool, List, None, Option, [], false, ℕ}
use Rattle.dc_base.specs.declared.answers.Answer.{Answer}
use Rattle.dc_base.specs.declared.answers.Answer.TheVariants as answer
use Rattle.dc_base.specs.declared.events.Event.{Event}
use Rattle.dc_base.specs.declared.events.Event.TheVariants as event
use Rattle.dc_base.specs.declared.events.Header.{Header}
use Rattle.dc_base.specs.declared.events.Line.{Line}
use Rattle.dc_base.specs.declared.flights.Flight.{Flight}
use Rattle.dc_base.specs.declared.nodes.LinkId.{LinkId}
use Rattle.dc_base.specs.declared.nodes.Node.{Node}
use Rattle.dc_base.specs.declared.nodes.Want.{Want}
use Rattle.dc_base.specs.declared.numbers.SnLen.{SnLen}
use Rattle.dc_base.specs.declared.records.Plan.{Plan}
use Rattle.pdcp_pdu.specs.Bitmap.{names}
use Rattle.claims.specs.Packets.{Packet}
use Rattle.claims.specs.Confirming.{Confirmation}
use Rattle.claims.specs.Views.{Pdu}
use Rattle.claims.specs.Table.{Table, new_table}

-- one direction of an establishment: the payloads submitted; those handed up, each with its COUNT; the COUNTs that the
-- receiving entity's node took; what confirmed; Told; and the COUNT of the last `freed` line
pub record Lane : Type 0 where
  pub submitted : List (List ℕ)
  pub handed : List (ℕ × List ℕ)
  pub taken : List ℕ
  pub confirms : List Confirmation
  pub told : ℕ
  pub freed : ℕ

-- a status report that an anchor took while it was waiting
pub record Waiting : Type 0 where
  pub node : Node
  pub g : ℕ
  pub names : Confirmation

-- the COUNT of an uplink data PDU that it took so
pub record Early : Type 0 where
  pub node : Node
  pub g : ℕ
  pub count : ℕ

-- how calm a bearer was: nothing at all was lost, failed or planned for it since its beginning; nothing was lost or
-- failed and no command came since its last recovery; no flight of its own was lost since its beginning, its last
-- recovery or the last plan that set it was carried out; or one was
pub data Calm : Type 0 where
  untouched : Calm
  recovered : Calm
  lossless : Calm
  lossy : Calm

-- an establishment, and what happened to it
pub record Bearer : Type 0 where
  pub g : ℕ  -- the generation that set it up: its name
  pub id : ℕ
  pub n : SnLen
  pub first : ℕ
  pub down : Lane
  pub up : Lane
  pub holder : Option (Node × ℕ)  -- where its anchor is active, in which generation
  pub owned : ℕ  -- the generation of the last `own`
  pub gave : Option (Node × ℕ)  -- the node of the last `give`, and the generation of that change
  pub terminal : Option ℕ  -- the generation that the terminal has
  pub is_failed : Bool  -- the terminal's SCG leg of that generation failed
  pub warned : List (Node × ℕ)  -- the nodes that were told so of a generation
  pub carried : ℕ  -- the generation carried out last, 0 before the first
  pub before : ℕ  -- how many downlink submissions came before that
  pub is_done : Bool
  pub is_dropped : Bool  -- a `drop` was answered ok
  pub is_gone : Bool  -- and carried out at the master
  pub calm : Calm
  pub lost_forward : Bool  -- a forwarded packet of it was lost, ever
  pub reports : List Waiting
  pub early : List Early
  pub tells : ℕ  -- the Low that a secondary holder told last, or took over
  pub asked : List (ℕ × ℕ)  -- generation and number of the PDUs that were asked for again

-- a secondary: joined and not left; set to deny; its `want` without an answer; the request that the master took and did
-- not answer yet
pub record Second : Type 0 where
  pub joined : Bool
  pub denies : Bool
  pub wants : Option Want
  pub request : Option Want

-- the past, and the event that happens: with its answer, the flight that it gives, the one that it copies, and its lines
-- so far
pub record Past : Type 0 where
  pub header : Header
  pub policies : ℕ  -- how many policies were handed in
  pub table : Table
  pub plans : List Plan  -- drawn, the latest first
  pub standing : List (LinkId × Flight)  -- what stands on the links, in the order of sending
  pub sent : List (LinkId × Flight)  -- all that was sent, the latest first
  pub pdus : List (LinkId × Pdu)  -- the PDUs among that, without copies
  pub forwards : List (LinkId × Packet)  -- and the forwarded SDUs, totals and End Markers
  pub bearers : List Bearer  -- the latest first
  pub a : Second
  pub b : Second
  pub seen : Option Node  -- the secondary of the last plan that the terminal took
  pub completed : List ℕ  -- the generations whose `rcomp` the master took
  pub configured : List (Node × ℕ)  -- those whose `recfg` or `modcnf` a secondary took
  pub arrived : List (LinkId × Flight)  -- the forwarded packets, transfers, `moved` and `end` that a node took
  pub earlier : List (LinkId × Pdu)  -- the PDUs that were sent before the event
  pub event : Event
  pub answer : Answer
  pub given : Option (LinkId × Flight)
  pub copied : Option (LinkId × Flight)
  pub fresh : List ℕ  -- the numbers that the delivery status just taken lists and none before did
  pub said : List Line

-- a direction in which nothing happened
abbrev pub new_lane : ℕ → Lane
new_lane first = record { submitted = []; handed = []; taken = []; confirms = []; told = first; freed = first }

-- an establishment to which nothing happened
abbrev pub new_bearer : ℕ → ℕ → SnLen → ℕ → Bearer
new_bearer g id n first = record {
  g = g;
  id = id;
  n = n;
  first = first;
  down = new_lane first;
  up = new_lane first;
  holder = None;
  owned = 0;
  gave = None;
  terminal = None;
  is_failed = false;
  warned = [];
  carried = 0;
  before = 0;
  is_done = false;
  is_dropped = false;
  is_gone = false;
  calm = untouched;
  lost_forward = false;
  reports = [];
  early = [];
  tells = first;
  asked = [];
}

-- a secondary to which nothing happened
abbrev pub new_second : Second
new_second = record { joined = false; denies = false; wants = None; request = None }

-- nothing happened yet
abbrev pub new_past : Header → ℕ → Past
new_past h policies = record {
  header = h;
  policies = policies;
  table = new_table h;
  plans = [];
  standing = [];
  sent = [];
  pdus = [];
  forwards = [];
  bearers = [];
  a = new_second;
  b = new_second;
  seen = None;
  completed = [];
  configured = [];
  arrived = [];
  earlier = [];
  event = event.ScgFail;
  answer = answer.Ok;
  given = None;
  copied = None;
  fresh = [];
  said = [];
}
