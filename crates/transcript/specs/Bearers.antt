-- Bearers: when each was established, under which plans and keys, and what was submitted and handed up.
use Rattle.std.specs.Prelude.{ℕ, zero, suc, ◌+◌, ◌==◌, ◌&&◌, ◌++◌, map, Result, Ok, nat_le, if◌then◌else◌, Bool, true, false, List, [], ◌∷◌, length, fold, filter, count_by, Option, Some, None}
use Rattle.std.specs.List.{flat_map, list_any}
use Rattle.dc_base.specs.declared.numbers.SnLen.{SnLen}
use Rattle.dc_base.specs.declared.nodes.Dir.{Dir}
use Rattle.dc_base.specs.declared.nodes.Dir.TheVariants.{Ul, Dl}
use Rattle.dc_base.specs.declared.nodes.KeyName.{KeyName}
use Rattle.dc_base.specs.declared.nodes.LinkId.{LinkId}
use Rattle.dc_base.specs.declared.nodes.Node.{Node}
use Rattle.dc_base.specs.declared.nodes.Node.TheVariants.{T, M}
use Rattle.dc_base.specs.declared.flights.Flight.{Flight}
use Rattle.dc_base.specs.declared.flights.Flight.TheVariants as flight
use Rattle.dc_base.specs.declared.nodes.Side.TheVariants.{Master}
use Rattle.dc_base.specs.declared.answers.Answer.{Answer}
use Rattle.dc_base.specs.declared.answers.Answer.TheVariants as answer
use Rattle.dc_base.specs.declared.events.Header.{Header}
use Rattle.dc_base.specs.declared.events.Event.{Event}
use Rattle.dc_base.specs.declared.events.Event.TheVariants.{Bearer, Recover, Submit}
use Rattle.dc_base.specs.declared.events.Line.{Line}
use Rattle.dc_base.specs.declared.events.Line.TheVariants as line
use Rattle.dc_base.specs.declared.events.Note.TheVariants.{Set as SetNote, Unset as UnsetNote, Up, Freed, Done}
use Rattle.dc_base.specs.declared.records.Item.{Item}
use Rattle.dc_base.specs.declared.records.Item.TheVariants.{Set, Unset}
use Rattle.dc_base.specs.declared.records.Plan.{Plan}
use Rattle.dc_base.specs.Nodes.{is_same_dir}
use Rattle.dc_base.specs.Links.{is_same_link, is_to, reverse}
use Rattle.transcript.specs.Transcript.{Entry, sends, gathered}
use Rattle.transcript.specs.Content.{given}
use Rattle.pdcp_pdu.specs.Bitmap.{names}
use Rattle.pdcp_pdu.specs.Pdu.{Content, report, decoded}
use Rattle.pdcp_pdu.specs.declared.pdu.PduErr.{PduErr}

-- one establishment of an identity, named by the generation that its command drew
pub record Established : Type 0 where
  pub g : ℕ
  pub id : ℕ
  pub n : SnLen
  pub first : ℕ  -- the COUNT of its first submission in both directions

-- whether an entry draws the next generation
abbrev pub is_draw_of : Event → Answer → Bool
is_draw_of (Bearer id n first shape threshold policy) answer.Ok = true
is_draw_of _ _ = false

-- whether an entry draws the next generation: it is the setup of a bearer, and was answered ok
abbrev pub is_draw : Entry → Bool
is_draw e = is_draw_of e.event e.answer

-- the last generation drawn, 0 before the first
abbrev pub generation : List Entry → ℕ
generation t = count_by is_draw t

-- the master's key of a root
abbrev pub master_key : ℕ → KeyName
master_key root = record { root = root; side = Master }

-- the plan that an entry draws
abbrev pub plan_of : ℕ → Event → Answer → List Plan
plan_of g (Bearer id n first shape threshold policy) answer.Ok =
    record { g = g; sec = None; items = Set id n first shape threshold policy (master_key 0) None ∷ [] } ∷ []
plan_of g _ _ = []

-- the plan that an entry draws, under the next generation after those drawn before; none if it draws no generation
abbrev pub plan_drawn : List Entry → Entry → List Plan
plan_drawn before e = plan_of (generation before + 1) e.event e.answer

-- all plans drawn, the oldest first
abbrev pub plans : List Entry → List Plan
plans t = gathered plan_drawn t

-- the bearer that an item establishes: one without an old anchor
abbrev pub established_by : ℕ → Item → List Established
established_by g (Set id n first shape threshold policy key None) = record { g = g; id = id; n = n; first = first } ∷ []
established_by g _ = []

-- all establishments, the oldest first
abbrev pub established : List Entry → List Established
established t = flat_map (λ p. flat_map (established_by p.g) p.items) (plans t)

-- the latest of these with the identity
abbrev pub latest : ℕ → List Established → Option Established
latest id bearers = fold (λ found b. if b.id == id then Some b else found) None bearers

-- whether it is this one
abbrev pub is_named : Established → Option Established → Bool
is_named b None = false
is_named b (Some c) = c.g == b.g

-- whether a bearer is the latest of its identity
abbrev pub is_latest : Established → List Entry → Bool
is_latest b t = is_named b (latest b.id (established t))

-- whether a generation of the identity is one of the bearer: no later establishment was drawn up to it
abbrev pub is_generation_of : Established → ℕ → List Entry → Bool
is_generation_of b g t = is_named b (latest b.id (filter (λ c. nat_le c.g g) (established t)))

-- the key that an item gives the identity
abbrev pub key_of_item : ℕ → Option KeyName → Item → Option KeyName
key_of_item id found (Set i n first shape threshold policy key old) = if i == id then Some key else found
key_of_item id found (Unset i) = found

-- the key of an identity in the plan of a generation
abbrev pub key_in : ℕ → ℕ → List Plan → Option KeyName
key_in g id ps = fold (λ found p. if p.g == g then fold (key_of_item id) found p.items else found) None ps

-- the root keys in the order named
abbrev pub roots : Header → List Entry → List (List ℕ)
roots h t = h.root ∷ []

-- the payload that an entry submits to the bearer in this direction
abbrev pub submission_of : Established → Dir → Bool → Event → Answer → List (List ℕ)
submission_of b d current (Submit id dir sdu) answer.Ok = if (id == b.id) && is_same_dir dir d && current then sdu ∷ [] else []
submission_of b d current _ _ = []

-- the payload that an entry submits to the bearer; none if it is refused, or a later bearer has the identity
abbrev pub submission : Established → Dir → List Entry → Entry → List (List ℕ)
submission b d before e = submission_of b d (is_latest b before) e.event e.answer

-- the payloads submitted to the bearer in this direction and accepted, in order
abbrev pub submitted : Established → Dir → List Entry → List (List ℕ)
submitted b d t = gathered (submission b d) t

-- the payload that a line hands up, with its COUNT
abbrev pub up_of : Established → Dir → Line → List (ℕ × List ℕ)
up_of b d (line.Note (Up node id dir count sdu)) = if (id == b.id) && is_same_dir dir d then (count, sdu) ∷ [] else []
up_of b d _ = []

-- what an entry hands up for the bearer, each payload with its COUNT; none once a later bearer has the identity
abbrev pub ups : Established → Dir → List Entry → Entry → List (ℕ × List ℕ)
ups b d before e = if is_latest b before then flat_map (up_of b d) e.lines else []

-- the payloads of the bearer that were handed up in this direction, each with its COUNT, in order
abbrev pub handed : Established → Dir → List Entry → List (ℕ × List ℕ)
handed b d t = gathered (ups b d) t

-- payloads with the COUNTs c, c + 1 and so on
abbrev pub numbered : ℕ → List (List ℕ) → List (ℕ × List ℕ)
numbered c [] = []
numbered c (sdu ∷ sdus) = (c, sdu) ∷ numbered (c + 1) sdus

-- the COUNT to which a line moves the submitter's window
abbrev pub freed_of : Established → Dir → Line → List ℕ
freed_of b d (line.Note (Freed id dir count)) = if (id == b.id) && is_same_dir dir d then count ∷ [] else []
freed_of b d _ = []

-- the COUNTs to which an entry moves the submitter's window; none once a later bearer has the identity
abbrev pub frees : Established → Dir → List Entry → Entry → List ℕ
frees b d before e = if is_latest b before then flat_map (freed_of b d) e.lines else []

-- a command that is open: one that drew this generation, or the recovery of this identity
pub data OpenCommand : Type 0 where
  change : ℕ → OpenCommand
  recovery : ℕ → OpenCommand

-- an event may open a command: g is the generation that it would draw
abbrev pub opens : ℕ → Option OpenCommand → Event → Answer → Option OpenCommand
opens g open' (Bearer id n first shape threshold policy) answer.Ok = Some (change g)
opens g open' (Recover id) answer.Ok = Some (recovery id)
opens g open' _ _ = open'

-- and `done` ends it
abbrev pub ends_command : Option OpenCommand → Line → Option OpenCommand
ends_command open' (line.Note Done) = None
ends_command open' _ = open'

-- what an entry makes of the command that is open
abbrev pub command_after : List Entry → Option OpenCommand → Entry → Option OpenCommand
command_after before open' e = fold ends_command (opens (generation before + 1) open' e.event e.answer) e.lines

-- so do the entries, one after another
abbrev pub open_from : List Entry → Option OpenCommand → List Entry → Option OpenCommand
open_from before open' [] = open'
open_from before open' (e ∷ es) = open_from (before ++ e ∷ []) (command_after before open' e) es

-- the command that is open, if one is
abbrev pub open_command : List Entry → Option OpenCommand
open_command t = open_from [] None t

-- whether the bearer's own command is still open
abbrev pub is_opening : Option OpenCommand → Established → Bool
is_opening (Some (change g)) b = g == b.g
is_opening _ b = false

-- the bearer, unless its own command is still open
abbrev pub unless_opening : Option OpenCommand → Option Established → Option Established
unless_opening g None = None
unless_opening g (Some b) = if is_opening g b then None else Some b

-- the bearer of an identity at the master: the latest, once its command is done
abbrev pub at_master : ℕ → List Entry → Option Established
at_master id t = unless_opening (open_command t) (latest id (established t))

-- whether the terminal has the identity after a line: it took a generation of it, or dropped it
abbrev pub has_after : ℕ → Bool → Line → Bool
has_after id has (line.Note (SetNote i g)) = if i == id then true else has
has_after id has (line.Note (UnsetNote i)) = if i == id then false else has
has_after id has _ = has

-- and after all lines
abbrev pub is_set : ℕ → List Entry → Bool
is_set id t = fold (has_after id) false (flat_map (λ e. e.lines) t)

-- the bearer of an identity at the terminal
abbrev pub at_terminal : ℕ → List Entry → Option Established
at_terminal id t = if is_set id t then latest id (established t) else None

-- the bearer of an identity at a node; the secondaries have none
abbrev pub at_node : Node → ℕ → List Entry → Option Established
at_node M id t = at_master id t
at_node T id t = at_terminal id t
at_node _ id t = None

-- the node that submits in a direction, and so is told what is confirmed
abbrev pub submitter : Dir → Node
submitter Dl = M
submitter Ul = T

-- the bearer of an identity there
abbrev pub at_submitter : Dir → ℕ → List Entry → Option Established
at_submitter d id t = at_node (submitter d) id t

-- ---- what is confirmed

-- a confirmation: of one COUNT, or of all that a status report with this FMC and this bitmap names
pub data Confirmation : Type 0 where
  acked : ℕ → Confirmation
  reported : ℕ → List ℕ → Confirmation

-- whether a confirmation is of this COUNT
abbrev pub is_of : ℕ → Confirmation → Bool
is_of count (acked c) = count == c
is_of count (reported fmc bits) = names fmc bits count

-- whether one of them is
abbrev pub is_confirmed : List Confirmation → ℕ → Bool
is_confirmed confirmations count = list_any (is_of count) confirmations

-- the tag of a data PDU that was sent on the link with this identity, generation and number
abbrev pub tag_of : LinkId → ℕ → ℕ → ℕ → LinkId × Flight → List ℕ
tag_of l id g num (k, flight.Air i h m (Some count) pdu) = if is_same_link l k && (i == id) && (h == g) && (m == num) then count ∷ [] else []
tag_of l id g num _ = []

-- all of them
abbrev pub tags_sent : LinkId → ℕ → ℕ → ℕ → List Entry → List ℕ
tags_sent l id g num t = gathered (λ before e. flat_map (tag_of l id g num) (sends e.lines)) t

-- what a PDU that was read confirms
abbrev pub read_of : Result Content PduErr → List Confirmation
read_of (Ok (report fmc bits)) = reported fmc bits ∷ []
read_of _ = []

-- what a flight that comes to the submitter in direction d confirms: a status report all that it names, and an ack of
-- a downlink PDU its COUNT; in uplink status reports alone confirm
abbrev pub confirmed_by : Established → Dir → List Entry → Option (LinkId × Flight) → List Confirmation
confirmed_by b Dl before (Some (l, flight.Ack id g num)) =
    if is_to M l && (id == b.id) && is_generation_of b g before then map acked (tags_sent (reverse l) id g num before) else []
confirmed_by b d before (Some (l, flight.Air id g num tag pdu)) =
    if is_to (submitter d) l && (id == b.id) && is_generation_of b g before then read_of (decoded b.n pdu) else []
confirmed_by b d before _ = []

-- what an entry confirms
abbrev pub confirms : Established → Dir → List Entry → Entry → List Confirmation
confirms b d before e = confirmed_by b d before (given before e)

-- all that was confirmed of the bearer in this direction
abbrev pub confirmed : Established → Dir → List Entry → List Confirmation
confirmed b d t = gathered (confirms b d) t

-- the least COUNT from c on that is not confirmed, among the first k
abbrev pub least_but : List Confirmation → ℕ → ℕ → ℕ
least_but confirmations c zero = c
least_but confirmations c (suc k) = if is_confirmed confirmations c then least_but confirmations (c + 1) k else c

-- where the submitter's window begins: the least COUNT that is not confirmed, or the next one
abbrev pub told : Established → Dir → List Entry → ℕ
told b d t = least_but (confirmed b d t) b.first (length (submitted b d t))
