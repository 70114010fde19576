-- What every event keeps: of each bearer in each direction, of each flight, and of the whole run.
use Rattle.std.proofs.Common.{ℕ, ◌≡◌, ◌-◌, ◌^◌, ◌<◌, ◌≤◌, ◌⊎◌, ◌++◌, true, false, List, [], ◌∷◌, Option, Some, None, length, take, slice_get}
use Rattle.std.specs.Prelude.{Ok, if◌then◌else◌, nat_lt, Contains, is_some}
use Rattle.std.specs.List.{AllByRecursion}
use Rattle.std.specs.Option.{option_map}
use Rattle.dc_base.specs.declared.nodes.Class.{Class}
use Rattle.dc_base.specs.declared.nodes.Class.TheVariants.{Ctl, Air}
use Rattle.dc_base.specs.declared.nodes.Dir.{Dir}
use Rattle.dc_base.specs.declared.nodes.Dir.TheVariants.{Ul, Dl}
use Rattle.dc_base.specs.declared.nodes.LinkId.{LinkId}
use Rattle.dc_base.specs.declared.nodes.Node.{Node}
use Rattle.dc_base.specs.declared.nodes.Node.TheVariants.{T, M}
use Rattle.dc_base.specs.declared.nodes.Shape.{Shape}
use Rattle.dc_base.specs.declared.flights.Flight.{Flight}
use Rattle.dc_base.specs.declared.flights.Flight.TheVariants as flight
use Rattle.dc_base.specs.declared.records.Rec.TheVariants.{Reconf, Rcomp, Recov, Recovd}
use Rattle.dc_base.specs.declared.events.Header.{Header}
use Rattle.pdcp_pdu.specs.DataPdu.{IsPayload}
use Rattle.pdcp_pdu.specs.Bitmap.{names}
use Rattle.pdcp_pdu.specs.Pdu.{report, decoded}
use Rattle.pdcp_rx.specs.declared.entity.RxParts.{RxParts}
use Rattle.pdcp_pdu.specs.DataPdu.{is_data}
use Rattle.pdcp_tx.specs.Sender.{low}
use Rattle.pdcp_rx.specs.Receiver.{Received}
use Rattle.transcript.specs.Transcript.{Entry, sends, Each, SomeEntry}
use Rattle.transcript.specs.Content.{content, mt_ctl, tm_ctl, place_taken}
use Rattle.transcript.specs.Bearers.{Established, change, recovery, established, latest, generation, plans, key_in, master_key, submitted, handed, numbered, confirmed, tags_sent, frees, open_command, at_terminal, is_set}
use Rattle.transcript.specs.Claims.{TakesData, KeepsAll, Protects, Carried, HasCause, IsLicensed, NoStall}
use Rattle.transcript.proofs.Establishing.{IsOnce}
use Rattle.master_runs.specs.Entities.{Entities, Table, fresh, bearer_in}
use Rattle.master_runs.specs.Plane.{leg, other, data_flight}
use Rattle.master_runs.specs.Control.{Nodes, plan_for}
use Rattle.master_runs.specs.Links.{Links, on, moved}
use Rattle.master_runs.specs.Run.{WorldState}
use Rattle.master_runs.proofs.Lane.{IsNumbered, IsLane}

-- ---- what the nodes hold of a bearer

-- what a node holds of a bearer, or begins with
abbrev pub or_fresh : Established → Option Entities → Entities
or_fresh b None = fresh b
or_fresh b (Some e) = e

abbrev pub half : Established → Table → Entities
half b table = or_fresh b (bearer_in table b.id)

-- the bearers of the node that sends in a direction, and of the one that receives
abbrev pub sender_table : Dir → Nodes → Table
sender_table Dl s = s.master
sender_table Ul s = s.terminal

abbrev pub receiver_table : Dir → Nodes → Table
receiver_table Dl s = s.terminal
receiver_table Ul s = s.master

-- ---- flights

-- the flight carries the PDU with this COUNT of the bearer
abbrev pub CarriesCount : Established → ℕ → Flight → Type 0
CarriesCount b c (flight.Air id g num tag pdu) = (id ≡ b.id) × (g ≡ b.g) × (tag ≡ Some c)
CarriesCount b c _ = ⊥

-- one of the flights does
abbrev pub IsUnderWay : Established → ℕ → List Flight → Type 0
IsUnderWay b c [] = ⊥
IsUnderWay b c (f ∷ fs) = CarriesCount b c f ⊎ IsUnderWay b c fs

-- a bearer's leg has this as the PDU of a number: its COUNT, or none where it is no data PDU
abbrev pub IsNumberOf : Nodes → Established → Dir → ℕ → Option ℕ → Type 0
IsNumberOf s b d num sent = slice_get (half b (sender_table d s)).sent num ≡ Some sent

-- the flight is the PDU of a submission in this direction
pub record IsPduOf (h : Header) (t : List Entry) (s : Nodes) (d : Dir) (f : Flight) : Type 0 where
  pub bearer : Established
  pub there : Contains (established t) bearer
  pub num : ℕ
  pub count : ℕ
  pub numbered : IsNumberOf s bearer d num (Some count)
  pub payload : List ℕ
  pub good : IsPayload payload
  pub submission : IsNumbered bearer.first (submitted bearer d t) (count, payload)
  pub is : f ≡ data_flight h bearer d num count payload

-- the flight is a status report that travels in this direction: what it names was received the other way
pub record IsReportOf (t : List Entry) (s : Nodes) (d : Dir) (f : Flight) : Type 0 where
  pub bearer : Established
  pub there : Contains (established t) bearer
  pub num : ℕ
  pub numbered : IsNumberOf s bearer d num None
  pub pdu : List ℕ
  pub control : is_data pdu ≡ false
  pub fmc : ℕ
  pub bits : List ℕ
  pub read : decoded bearer.n pdu ≡ Ok (report fmc bits)
  pub named : (c : ℕ) → bearer.first ≤ c → names fmc bits c ≡ true → Received (half bearer (receiver_table (other d) s)).rx c
  pub is : f ≡ flight.Air bearer.id bearer.g num None pdu

-- the COUNT of a PDU, if it has one, was received
abbrev pub IsGot : Established → RxParts → Option ℕ → Type 0
IsGot b rx None = Unit {0}
IsGot b rx (Some c) = (b.first ≤ c) × Received rx c

-- the flight is the confirm of a PDU of this direction, which was received
pub record IsAckOf (t : List Entry) (s : Nodes) (d : Dir) (f : Flight) : Type 0 where
  pub bearer : Established
  pub there : Contains (established t) bearer
  pub num : ℕ
  pub sent : Option ℕ
  pub numbered : IsNumberOf s bearer d num sent
  pub got : IsGot bearer (half bearer (receiver_table d s)).rx sent
  pub is : f ≡ flight.Ack bearer.id bearer.g num

-- what is so because a flight stands on the leg of a direction
pub data OnLeg (h : Header) (t : List Entry) (s : Nodes) (d : Dir) (f : Flight) : Type 0 where
  a_pdu : IsPduOf h t s d f → OnLeg h t s d f
  a_report : IsReportOf t s d f → OnLeg h t s d f
  an_ack : IsAckOf t s (other d) f → OnLeg h t s d f

-- and on any link; of the control links the phase tells
abbrev pub Promise : Header → List Entry → Nodes → Node → Node → Class → Flight → Type 0
Promise h t s M T Air f = OnLeg h t s Dl f
Promise h t s T M Air f = OnLeg h t s Ul f
Promise h t s M T Ctl f = Unit {0}
Promise h t s T M Ctl f = Unit {0}
Promise h t s _ _ _ f = ⊥

-- ---- the command

-- every bearer is at the terminal
abbrev pub AllConfigured : List Entry → Nodes → Type 0
AllConfigured t s = (b : Established) → Contains (established t) b → bearer_in s.terminal b.id ≡ None → ⊥

-- where the open command stands: there is none; the terminal is to take its plan, or it took it; it is to recover a bearer,
-- or it did
pub data Phase (h : Header) (t : List Entry) (s : Nodes) (links : Links) : Type 0 where
  idle : s.busy ≡ None → on links mt_ctl ≡ [] → on links tm_ctl ≡ [] → AllConfigured t s → Phase h t s links
  commanded : (b : Established) → Contains (established t) b → (shape : Shape) (threshold policy : ℕ) → s.busy ≡ Some (change b.g)
      → on links mt_ctl ≡ flight.Ctl (Reconf (plan_for b.g b.id b.n b.first shape threshold policy) h.root) ∷ [] → on links tm_ctl ≡ []
      → ((d : Dir) → submitted b d t ≡ []) → (half b s.master).sent ≡ [] → bearer_in s.terminal b.id ≡ None
      → ((c : Established) → Contains (established t) c → bearer_in s.terminal c.id ≡ None → c ≡ b) → Phase h t s links
  answered : (b : Established) → Contains (established t) b → s.busy ≡ Some (change b.g) → on links mt_ctl ≡ [] → on links tm_ctl ≡ flight.Ctl (Rcomp b.g) ∷ []
      → AllConfigured t s → Phase h t s links
  recovering : (b : Established) → Contains (established t) b → s.busy ≡ Some (recovery b.id) → on links mt_ctl ≡ flight.Ctl (Recov b.id) ∷ [] → on links tm_ctl ≡ []
      → AllConfigured t s → Phase h t s links
  recovered : (b : Established) → Contains (established t) b → s.busy ≡ Some (recovery b.id) → on links mt_ctl ≡ [] → on links tm_ctl ≡ flight.Ctl (Recovd b.id) ∷ []
      → AllConfigured t s → Phase h t s links

-- ---- a bearer

-- the COUNT of the PDU of a number, if it is one and has one
abbrev pub listed : Option (Option ℕ) → List ℕ
listed (Some (Some c)) = c ∷ []
listed _ = []

-- one bearer in one direction
pub record IsServed (t : List Entry) (s : Nodes) (links : Links) (b : Established) (d : Dir) : Type 0 where
  pub lane : IsLane b.n b.first (submitted b d t) (confirmed b d t) (half b (sender_table d s)).tx (half b (sender_table d s)).sent (half b (receiver_table d s)).rx
  pub handed_is : handed b d t ≡ numbered b.first (take ((half b (receiver_table d s)).rx.deliv - b.first) (submitted b d t))
  pub came : (c : ℕ) → b.first ≤ c → Received (half b (receiver_table d s)).rx c → SomeEntry (TakesData b d c) t
  pub owed : (c : ℕ) → b.first ≤ c → c < (half b (sender_table d s)).tx.next → Received (half b (receiver_table d s)).rx c ⊎ IsUnderWay b c (on links (leg d))
  pub numbers : (num : ℕ) → tags_sent (leg d) b.id b.g num t ≡ listed (slice_get (half b (sender_table d s)).sent num)

-- the bearers of the transcript are those of the nodes
pub record IsTabled (t : List Entry) (s : Nodes) : Type 0 where
  pub master_long : length s.master ≡ 33
  pub terminal_long : length s.terminal ≡ 33
  pub master_is : (id : ℕ) → option_map (λ e. e.bearer) (bearer_in s.master id) ≡ latest id (established t)
  pub terminal_is : (id : ℕ) → option_map (λ e. e.bearer) (bearer_in s.terminal id) ≡ at_terminal id t
  pub set_is : (id : ℕ) → is_set id t ≡ is_some (bearer_in s.terminal id)
  pub drawn_is : s.drawn ≡ generation t
  pub busy_is : s.busy ≡ open_command t
  pub once : IsOnce (established t)
  pub ranged : (b : Established) → Contains (established t) b → (b.id ≤ 32) × (b.first < 2 ^ 32 - 1)
  pub keyed : (b : Established) → Contains (established t) b → key_in b.g b.id (plans t) ≡ Some (master_key 0)

-- ---- the run

-- no PDU of a generation that was not drawn was sent
abbrev pub NoneSent : List Entry → Type 0
NoneSent t = (l : LinkId) (id g num : ℕ) → generation t < g → tags_sent l id g num t ≡ []

pub record Sound (h : Header) (policies : ℕ) (t : List Entry) (w : WorldState) : Type 0 where
  pub header : w.header ≡ h
  pub long : length w.links ≡ 64
  pub contents : (l : LinkId) → content l t ≡ on w.links l
  pub tables : IsTabled t w.nodes
  pub phase : Phase h t w.nodes w.links
  pub served : (b : Established) (d : Dir) → Contains (established t) b → IsServed t w.nodes w.links b d
  pub promises : (l : LinkId) → AllByRecursion (Promise h t w.nodes l.from l.to l.class) (on w.links l)
  pub none_sent : NoneSent t
  pub claims : Each (KeepsAll h) t
  pub causes : Each (HasCause policies) t
  pub licence : Each (IsLicensed h) t
  pub no_stall : Each NoStall t

-- what flights speak of only grows
pub record Grows (t : List Entry) (s : Nodes) (t' : List Entry) (s' : Nodes) : Type 0 where
  pub there : (b : Established) → Contains (established t) b → Contains (established t') b
  pub numbered : (b : Established) (d : Dir) → Contains (established t) b → (e : ℕ × List ℕ) → IsNumbered b.first (submitted b d t) e → IsNumbered b.first (submitted b d t') e
  pub received : (b : Established) (d : Dir) → Contains (established t) b → (c : ℕ) → Received (half b (receiver_table d s)).rx c → Received (half b (receiver_table d s')).rx c
  pub sent : (b : Established) (d : Dir) → Contains (established t) b → (num : ℕ) (sent : Option ℕ) → IsNumberOf s b d num sent → IsNumberOf s' b d num sent

-- the promise of a send
abbrev pub PromiseOf : Header → List Entry → Nodes → LinkId × Flight → Type 0
PromiseOf h t s (l, f) = Promise h t s l.from l.to l.class f

-- all that an event of its own owes: the rest follows
pub record Happened (h : Header) (policies : ℕ) (t : List Entry) (w : WorldState) (e : Entry) (s' : Nodes) : Type 0 where
  pub tables : IsTabled (t ++ e ∷ []) s'
  pub phase : Phase h (t ++ e ∷ []) s' (moved w.links (place_taken e.event e.answer) e.lines)
  pub served : (b : Established) (d : Dir) → Contains (established (t ++ e ∷ [])) b → IsServed (t ++ e ∷ []) s' (moved w.links (place_taken e.event e.answer) e.lines) b d
  pub grows : Grows t w.nodes (t ++ e ∷ []) s'
  pub sent : AllByRecursion (PromiseOf h (t ++ e ∷ []) s') (sends e.lines)
  pub none_sent : NoneSent (t ++ e ∷ [])
  pub protects : (b : Established) (d : Dir) → Contains (established (t ++ e ∷ [])) b → Protects h b d t e
  pub carried : (b : Established) (d : Dir) → Contains (established (t ++ e ∷ [])) b → Carried b d t e
  pub freed : (b : Established) (d : Dir) → Contains (established (t ++ e ∷ [])) b
      → frees b d t e ≡ (if nat_lt (low (half b (sender_table d w.nodes)).tx) (low (half b (sender_table d s')).tx) then low (half b (sender_table d s')).tx ∷ [] else [])
  pub fresh_before : (b : Established) → Contains (established (t ++ e ∷ [])) b → Contains (established t) b ⊎ ((generation t < b.g) × (bearer_in w.nodes.master b.id ≡ None) × (bearer_in w.nodes.terminal b.id ≡ None))
  pub cause : HasCause policies t e
  pub licence : IsLicensed h t e
