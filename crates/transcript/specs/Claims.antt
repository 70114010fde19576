-- What is claimed of a transcript: each claim for one bearer and one direction, or for one entry.
use Rattle.std.specs.Prelude.{◌≡◌, ℕ, ◌+◌, ◌-◌, ◌^◌, ◌<◌, ◌≤◌, ◌⊎◌, ◌==◌, ◌&&◌, not, count_by, nat_lt, nat_le, if◌then◌else◌, Bool, true, false, List, [], ◌∷◌, ◌++◌, length, slice_get, Contains, Option, Some, None, is_some, ⊤}
use Rattle.std.specs.List.{AllByRecursion, flat_map}
use Rattle.dc_base.specs.Count.{window, sn}
use Rattle.dc_base.specs.declared.nodes.Node.{Node}
use Rattle.dc_base.specs.declared.nodes.Node.TheVariants.{T, M}
use Rattle.dc_base.specs.declared.nodes.Dir.{Dir}
use Rattle.dc_base.specs.declared.nodes.Dir.TheVariants.{Ul, Dl}
use Rattle.dc_base.specs.declared.nodes.KeyName.{KeyName}
use Rattle.dc_base.specs.declared.nodes.Shape.{Shape}
use Rattle.dc_base.specs.declared.nodes.LinkId.{LinkId}
use Rattle.dc_base.specs.declared.flights.Flight.{Flight}
use Rattle.dc_base.specs.declared.flights.Flight.TheVariants as flight
use Rattle.dc_base.specs.declared.records.Rec.{Rec}
use Rattle.dc_base.specs.declared.records.Rec.TheVariants.{Reconf, Rcomp, Recov, Recovd}
use Rattle.dc_base.specs.declared.records.Plan.{Plan}
use Rattle.dc_base.specs.declared.answers.Answer.{Answer}
use Rattle.dc_base.specs.declared.answers.Answer.TheVariants.{Ok, No}
use Rattle.dc_base.specs.declared.answers.Refusal.TheVariants.{NoBearer, BearerThere, Busy, NoSecondary, NoFlight, NotFirst, NotTunnel, Aged, Full, Exhausted, NoPolicy}
use Rattle.dc_base.specs.declared.events.Header.{Header}
use Rattle.dc_base.specs.declared.events.Event.{Event}
use Rattle.dc_base.specs.declared.events.Event.TheVariants.{Bearer, Recover, Report, Submit, Step, Lose, Again}
use Rattle.nea2.specs.Combined.{combined}
use Rattle.nea2.specs.Keystream.{keystream}
use Rattle.key_chain.specs.KeyNames.{upenc}
use Rattle.pdcp_pdu.specs.DataPdu.{data_pdu}
use Rattle.dc_base.specs.Nodes.{is_mm}
use Rattle.dc_base.specs.Links.{reverse, is_ordered, is_tunnel}
use Rattle.pdcp_pdu.specs.DataPdu.{is_data}
use Rattle.transcript.specs.Transcript.{Entry, sends, Each, SomeEntry}
use Rattle.transcript.specs.Content.{mt_ctl, tm_ctl, air_link, direction, content, given}
use Rattle.transcript.specs.Bearers.{Established, established, latest, is_generation_of, plans, plan_drawn, key_in, roots, submitted, ups, handed, numbered, frees, told, confirmed, is_confirmed, open_command, at_master, at_node, at_submitter, submitter}

-- the flight is a data PDU of the bearer in this direction
abbrev pub IsDataFlight : List Entry → Established → Dir → LinkId × Flight → Type 0
IsDataFlight t b d (l, flight.Air id g num tag pdu) = (is_data pdu ≡ true) × (id ≡ b.id) × (is_generation_of b g t ≡ true) × (direction l ≡ d)
IsDataFlight t b d _ = ⊥

-- the PDU of a submission: its sequence number, and the payload combined with the keystream of the key that
-- ciphers under this name, the COUNT, the identity and the direction
abbrev pub protected_pdu : Header → List Entry → Established → Dir → KeyName → ℕ → List ℕ → List ℕ
protected_pdu h t b d key count sdu =
    data_pdu b.n (sn b.n count) (combined sdu (keystream h.alg (upenc (roots h t) key h.alg) count b.id d (length sdu)))

-- a PDU of this generation and tag protects the submission of that COUNT, under the key of the generation's plan
pub record ProtectsSubmission (h : Header) (t : List Entry) (b : Established) (d : Dir) (g : ℕ) (tag : Option ℕ) (pdu : List ℕ) : Type 0 where
  pub count : ℕ
  pub tagged : tag ≡ Some count
  pub counted : b.first ≤ count
  pub sdu : List ℕ
  pub submission : slice_get (submitted b d t) (count - b.first) ≡ Some sdu
  pub key : KeyName
  pub keyed : key_in g b.id (plans t) ≡ Some key
  pub spelled : pdu ≡ protected_pdu h t b d key count sdu

-- a PDU on the air protects a submission of the bearer; of any other flight nothing is claimed
abbrev pub IsProtected : Header → List Entry → Established → Dir → LinkId × Flight → Type 0
IsProtected h t b d (l, flight.Air id g num tag pdu) = ProtectsSubmission h t b d g tag pdu
IsProtected h t b d _ = ⊤

-- each data PDU of the bearer that an entry sends protects a submission made so far
abbrev pub Protects : Header → Established → Dir → List Entry → Entry → Type 0
Protects h b d before e =
    let t = before ++ e ∷ [] in AllByRecursion (λ s. IsDataFlight t b d s → IsProtected h t b d s) (sends e.lines)

-- the node that receives a bearer's data in a direction: the terminal, or the master, which is every bearer's anchor
abbrev pub receiver : Dir → Node
receiver Dl = T
receiver Ul = M

-- the flight is a PDU on the air, and is tagged with this COUNT
abbrev pub HasTag : ℕ → Flight → Type 0
HasTag count (flight.Air id g num tag pdu) = tag ≡ Some count
HasTag count _ = ⊥

-- the entry is a step that gave a data PDU of the bearer with this COUNT to the receiver
pub record TakesData (b : Established) (d : Dir) (count : ℕ) (before : List Entry) (e : Entry) : Type 0 where
  pub taken : LinkId × Flight
  pub is_given : given before e ≡ Some taken
  pub of_bearer : IsDataFlight before b d taken
  pub tagged : HasTag count taken.1
  pub received : taken.0.to ≡ receiver d

-- each payload that an entry hands up was carried by a data PDU that came then or before
abbrev pub Carried : Established → Dir → List Entry → Entry → Type 0
Carried b d before e = AllByRecursion (λ up. SomeEntry (TakesData b d up.0) (before ++ e ∷ [])) (ups b d before e)

-- what was handed up so far is a front of what was submitted so far, and submission i has COUNT first + i
abbrev pub Prefix : Established → Dir → List Entry → Entry → Type 0
Prefix b d before e =
    let t = before ++ e ∷ [] in (rest : List (ℕ × List ℕ)) × (numbered b.first (submitted b d t) ≡ handed b d t ++ rest)

-- the submitter's window moves exactly where the value told rises, and to it
abbrev pub Frees : Established → Dir → List Entry → Entry → Type 0
Frees b d before e =
    let t = before ++ e ∷ [] in
    frees b d before e ≡ (if nat_lt (told b d before) (told b d t) then told b d t ∷ [] else [])

-- nothing stands on any link
abbrev pub IsQuiet : List Entry → Type 0
IsQuiet t = (l : LinkId) → content l t ≡ []

-- all that was submitted so far was handed up, if nothing stands on the air link of the direction
abbrev pub Complete : Established → Dir → List Entry → Entry → Type 0
Complete b d before e =
    let t = before ++ e ∷ [] in content (air_link d) t ≡ [] → handed b d t ≡ numbered b.first (submitted b d t)

-- what is claimed of a bearer, in one direction, at each entry from its establishment on
pub record IsKept (h : Header) (b : Established) (d : Dir) (before : List Entry) (e : Entry) : Type 0 where
  pub protects : Protects h b d before e
  pub carried : Carried b d before e
  pub prefix : Prefix b d before e
  pub frees : Frees b d before e
  pub complete : Complete b d before e

-- no command is open when nothing stands on any link
abbrev pub NoStall : List Entry → Entry → Type 0
NoStall before e = let t = before ++ e ∷ [] in IsQuiet t → open_command t ≡ None

-- and so of every bearer
abbrev pub KeepsAll : Header → List Entry → Entry → Type 0
KeepsAll h before e = (b : Established) (d : Dir) → Contains (established (before ++ e ∷ [])) b → IsKept h b d before e

-- the answer that a new bearer is due where there are so many policies; there is no secondary
abbrev pub bearer_answer : ℕ → List Entry → ℕ → Shape → ℕ → Answer
bearer_answer policies before id shape policy =
    if is_some (open_command before) then No Busy
    else if is_some (at_master id before) then No BearerThere
    else if not (is_mm shape) then No NoSecondary
    else if nat_le policies policy then No NoPolicy
    else Ok

-- the answer that a recovery of the bearer is due
abbrev pub recover_answer : List Entry → Option Established → Answer
recover_answer before b =
    if is_some (open_command before) then No Busy else if is_some b then Ok else No NoBearer

-- the answer that a report of this bearer is due
abbrev pub report_answer : Option Established → Answer
report_answer b = if is_some b then Ok else No NoBearer

-- the answer that a submission to this bearer is due
abbrev pub submit_answer : Dir → List Entry → Option Established → Answer
submit_answer d before None = No NoBearer
submit_answer d before (Some b) =
    let next = b.first + length (submitted b d before) in
    if nat_le (told b d before + window b.n) next then No Full else if next == 2 ^ 32 - 1 then No Exhausted else Ok

-- whether the COUNT of this generation is more than a window behind what the bearer handed up
abbrev pub is_behind : List Entry → Dir → ℕ → ℕ → Option Established → Bool
is_behind before d g count None = false
is_behind before d g count (Some b) = (b.g == g) && nat_lt (count + window b.n) (b.first + length (handed b d before))

-- whether a flight on a link is aged
abbrev pub is_aged : List Entry → LinkId × Flight → Bool
is_aged before (l, flight.Air id g num (Some count) pdu) = is_data pdu && is_behind before (direction l) g count (latest id (established before))
is_aged before _ = false

-- the answer that a step is due, with the flight at its place
abbrev pub step_answer : List Entry → LinkId → ℕ → Option Flight → Answer
step_answer before l i None = No NoFlight
step_answer before l i (Some f) =
    if is_ordered l.class && nat_lt 0 i then No NotFirst else if is_aged before (l, f) then No Aged else Ok

-- the answer that a loss or a repeat is due
abbrev pub tunnel_answer : List Entry → LinkId → ℕ → Answer
tunnel_answer before l i =
    if not (is_tunnel l.class) then No NotTunnel else if nat_le (length (content l before)) i then No NoFlight else Ok

-- the answer that an event is due
abbrev pub due_answer : ℕ → List Entry → Event → Answer
due_answer policies before (Bearer id n first shape threshold policy) = bearer_answer policies before id shape policy
due_answer policies before (Recover id) = recover_answer before (at_master id before)
due_answer policies before (Report node id) = report_answer (at_node node id before)
due_answer policies before (Submit id d sdu) = submit_answer d before (at_submitter d id before)
due_answer policies before (Step l i) = step_answer before l i (slice_get (content l before) i)
due_answer policies before (Lose l i) = tunnel_answer before l i
due_answer policies before (Again l i) = tunnel_answer before l i
due_answer policies before _ = Ok

-- each event has the answer that it is due
abbrev pub HasCause : ℕ → List Entry → Entry → Type 0
HasCause policies before e = e.answer ≡ due_answer policies before e.event

-- an ack is sent for the PDU just taken, with its identity, generation and number, the other way
pub record Acknowledges (before : List Entry) (e : Entry) (l : LinkId) (id g num : ℕ) : Type 0 where
  pub from : LinkId
  pub back : l ≡ reverse from
  pub tag : Option ℕ
  pub pdu : List ℕ
  pub is_given : given before e ≡ Some (from, flight.Air id g num tag pdu)

-- a PDU is of the bearer that is the latest of its identity, in a generation of it
pub record IsOfBearer (before : List Entry) (id g : ℕ) (bearer : Established) : Type 0 where
  pub latest_is : latest id (established before) ≡ Some bearer
  pub of_generation : is_generation_of bearer g before ≡ true

-- a data PDU is sent at the submission of its payload
pub record FirstSent (before : List Entry) (e : Entry) (l : LinkId) (id g : ℕ) (tag : Option ℕ) : Type 0 where
  pub sdu : List ℕ
  pub submits : e.event ≡ Submit id (direction l) sdu
  pub accepted : e.answer ≡ Ok
  pub bearer : Established
  pub of_bearer : IsOfBearer before id g bearer
  pub tagged : tag ≡ Some (bearer.first + length (submitted bearer (direction l) before))

-- the entry makes the submitter in direction d recover the bearer: the command does the master, and its record the terminal
abbrev pub MakesRecover : List Entry → Entry → Dir → ℕ → Type 0
MakesRecover before e Dl id = (e.event ≡ Recover id) × (e.answer ≡ Ok)
MakesRecover before e Ul id = given before e ≡ Some (mt_ctl, flight.Ctl (Recov id))

-- a data PDU is sent again in a recovery: its COUNT was submitted, and is not confirmed
pub record SentAgain (before : List Entry) (e : Entry) (l : LinkId) (id g : ℕ) (tag : Option ℕ) : Type 0 where
  pub recovers : MakesRecover before e (direction l) id
  pub bearer : Established
  pub of_bearer : IsOfBearer before id g bearer
  pub count : ℕ
  pub tagged : tag ≡ Some count
  pub from : bearer.first ≤ count
  pub below : count < bearer.first + length (submitted bearer (direction l) before)
  pub unconfirmed : is_confirmed (confirmed bearer (direction l) before) count ≡ false

-- a status report is sent at its event, by the node that was told to
pub record Reports (before : List Entry) (e : Entry) (l : LinkId) (id g : ℕ) : Type 0 where
  pub node : Node
  pub commanded : e.event ≡ Report node id
  pub accepted : e.answer ≡ Ok
  pub by : l.from ≡ node
  pub bearer : Established
  pub of_bearer : IsOfBearer before id g bearer

-- a reconfiguration carries the plan that the entry draws, and the octets of the current root
pub record Reconfigures (h : Header) (before : List Entry) (e : Entry) (l : LinkId) (plan : Plan) (root : List ℕ) : Type 0 where
  pub drawn : plan_drawn before e ≡ plan ∷ []
  pub keyed : root ≡ h.root
  pub to_terminal : l ≡ mt_ctl

-- it is answered when it is taken, with its generation
pub record Completes (before : List Entry) (e : Entry) (l : LinkId) (g : ℕ) : Type 0 where
  pub plan : Plan
  pub root : List ℕ
  pub is_given : given before e ≡ Some (mt_ctl, flight.Ctl (Reconf plan root))
  pub same : plan.g ≡ g
  pub to_master : l ≡ tm_ctl

-- the terminal is told to recover by the command
pub record TellsRecovery (e : Entry) (l : LinkId) (id : ℕ) : Type 0 where
  pub commanded : e.event ≡ Recover id
  pub accepted : e.answer ≡ Ok
  pub to_terminal : l ≡ mt_ctl

-- and answers that when it is taken
pub record TellsRecovered (before : List Entry) (e : Entry) (l : LinkId) (id : ℕ) : Type 0 where
  pub is_given : given before e ≡ Some (mt_ctl, flight.Ctl (Recov id))
  pub to_master : l ≡ tm_ctl

-- the reason in its own event for which a record is sent
abbrev pub IsReasonForRecord : Header → List Entry → Entry → LinkId → Rec → Type 0
IsReasonForRecord h before e l (Reconf plan root) = Reconfigures h before e l plan root
IsReasonForRecord h before e l (Rcomp g) = Completes before e l g
IsReasonForRecord h before e l (Recov id) = TellsRecovery e l id
IsReasonForRecord h before e l (Recovd id) = TellsRecovered before e l id
IsReasonForRecord h before e l _ = ⊥

-- the reason in its own event for which a flight is sent
abbrev pub IsReason : Header → List Entry → Entry → LinkId × Flight → Type 0
IsReason h before e (l, flight.Air id g num tag pdu) =
    ((is_data pdu ≡ true) × (FirstSent before e l id g tag ⊎ SentAgain before e l id g tag)) ⊎ ((is_data pdu ≡ false) × Reports before e l id g)
IsReason h before e (l, flight.Ack id g num) = Acknowledges before e l id g num
IsReason h before e (l, flight.Ctl r) = IsReasonForRecord h before e l r
IsReason h before e _ = ⊥

-- the COUNT of a data PDU, and nothing of any other flight
abbrev pub count_in : LinkId × Flight → List ℕ
count_in (l, flight.Air id g num (Some count) pdu) = count ∷ []
count_in _ = []

-- whether a flight has no COUNT
abbrev pub is_uncounted : LinkId × Flight → Bool
is_uncounted (l, flight.Air id g num (Some count) pdu) = false
is_uncounted _ = true

-- the numbers ascend, from low on
abbrev pub AscendsFrom : ℕ → List ℕ → Type 0
AscendsFrom low [] = ⊤
AscendsFrom low (c ∷ cs) = (low ≤ c) × AscendsFrom (c + 1) cs

-- each flight that an entry sends has its reason; the COUNTs of its data PDUs ascend, so that each is sent once, and
-- there is at most one other flight
pub record IsLicensed (h : Header) (before : List Entry) (e : Entry) : Type 0 where
  pub reasons : AllByRecursion (IsReason h before e) (sends e.lines)
  pub ascends : AscendsFrom 0 (flat_map count_in (sends e.lines))
  pub one : count_by is_uncounted (sends e.lines) ≤ 1

-- the flight was sent
abbrev pub IsSentIn : List Entry → LinkId × Flight → Type 0
IsSentIn t s = SomeEntry (λ before e. Contains (sends e.lines) s) t

-- the key name that a generation gives the identity, and the COUNT, under which a flight is protected
abbrev pub protection : List Entry → LinkId × Flight → Option KeyName × Option ℕ
protection t (l, flight.Air id g num tag pdu) = (key_in g id (plans t), tag)
protection t _ = (None, None)

-- data PDUs of one identity and direction that are protected under one key name and COUNT are of one establishment
abbrev pub IsOneUse : List Entry → Type 0
IsOneUse t = (b c : Established) (d : Dir) (x y : LinkId × Flight) → IsSentIn t x → IsSentIn t y
    → IsDataFlight t b d x → IsDataFlight t c d y → b.id ≡ c.id → protection t x ≡ protection t y → b.g ≡ c.g

-- all claims of a transcript of a run with so many policies
pub record IsFaithful (h : Header) (policies : ℕ) (t : List Entry) : Type 0 where
  pub bearers : Each (KeepsAll h) t
  pub causes : Each (HasCause policies) t
  pub licence : Each (IsLicensed h) t
  pub no_stall : Each NoStall t
  pub one_use : IsOneUse t
