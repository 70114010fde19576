-- What a secondary node's procedures have it do, as far as the control plane sees it.
use Rattle.std.specs.List.{list_any}
use Rattle.std.specs.Prelude.{Bool, Err, List, None, Ok, Option, Some, [], false, if◌then◌else◌, map, not, true, ℕ, ◌&&◌, ◌++◌, ◌==◌, ◌∷◌, ◌≡◌}
use Rattle.std.specs.Option.{option_map}
use Rattle.dc_base.specs.Count.{bits}
use Rattle.dc_base.specs.Links.{link}
use Rattle.dc_base.specs.Nodes.{is_same_node}
use Rattle.dc_base.specs.Records.{item_id}
use Rattle.dc_base.specs.declared.events.Event.{Event}
use Rattle.dc_base.specs.declared.flights.Flight.{Flight}
use Rattle.dc_base.specs.declared.flights.Flight.TheVariants as flight
use Rattle.dc_base.specs.declared.nodes.Class.TheVariants.{Ctl}
use Rattle.dc_base.specs.declared.nodes.LinkId.{LinkId}
use Rattle.dc_base.specs.declared.nodes.Node.{Node}
use Rattle.dc_base.specs.declared.nodes.Node.TheVariants.{M}
use Rattle.dc_base.specs.declared.numbers.SnLen.{SnLen}
use Rattle.dc_base.specs.declared.records.Item.{Item}
use Rattle.dc_base.specs.declared.records.Item.TheVariants as item
use Rattle.dc_base.specs.declared.records.Plan.{Plan}
use Rattle.dc_base.specs.declared.records.Rec.{Rec}
use Rattle.dc_base.specs.declared.records.Rec.TheVariants as rec
use Rattle.dc_base.specs.declared.records.StatusTransfer.{StatusTransfer}
use Rattle.node_rules.specs.Acts.{ProcFault}
use Rattle.node_rules.specs.Choices.{Send}
use Rattle.node_rules.specs.Effects.{quiet}
use Rattle.node_rules.specs.Parts.{part_at}
use Rattle.node_rules.specs.SecondRecords.{second_take}
use Rattle.node_rules.specs.SecondState.{SecondActs, second_command}
use Rattle.node_rules.specs.SecondStep.{plan_in, recovery_in}
use Rattle.node_rules.specs.Secondary.{SecondNode, name_of}
use Rattle.node_rules.specs.declared.commands.Membership.{Membership}
use Rattle.node_rules.specs.declared.commands.Membership.TheVariants.{Joined as joined, Left as left, Outside as outside}
use Rattle.node_rules.specs.declared.acts.Act.{Act}
use Rattle.node_rules.specs.declared.acts.Act.TheVariants.{FailOne as fail_one, Go as go, Pass as pass, Prepare as prepare, RecoverOne as recover_one, Say as say, Send as send, UnlockAll as unlock_all}
use Rattle.node_rules.specs.declared.inputs.Effects.{Effects}
use Rattle.node_rules.specs.declared.parts.Part.{Part}
use Rattle.node_rules.specs.declared.parts.Part.TheVariants.{Awaits as awaits, Drops as drops, Establishes as establishes, HandsOver as hands_over, HasNoAnchor as has_no_anchor, Renews as renews}
use Rattle.run_control.specs.Orders.{Ascends}
use Rattle.run_control.specs.Views.{Bearer, Stage, View, at_stage, controls, has_status, holds, is_awaited, lacks_status, second_view}

-- ---- records, without what they say of the traffic

-- a status transfer of a bearer in a generation
abbrev pub status_of : ℕ → ℕ → StatusTransfer
status_of g id = record { g = g; id = id; ul = 0; bits = []; dl = 0 }

-- a record
abbrev pub bare_record : Rec → Rec
bare_record (rec.Snst status) = rec.Snst (status_of status.g status.id)
bare_record r = r

-- a flight
abbrev pub bare_flight : Flight → Flight
bare_flight (flight.Ctl r) = flight.Ctl (bare_record r)
bare_flight f = f

-- what is sent on the control links
abbrev pub records_sent : List Send → List Send
records_sent sends = map (λ (s : Send). (s.0, bare_flight s.1)) (controls sends)

-- a record on a control link
abbrev pub record_to : Node → Node → Rec → Send
record_to from to r = (link from to Ctl, flight.Ctl (bare_record r))

-- ---- an item

-- the views of a node, by identities
abbrev pub Views : Type 0
Views = ℕ → Option View

-- the views with this one
abbrev pub at_id : ℕ → Option View → Views → Views
at_id id v views k = if id == k then v else views k

-- the bearer that an item of a plan of this generation sets
abbrev pub set_by : ℕ → Item → Option Bearer
set_by g (item.Set id n first shape threshold policy key old) = Some (record { id = id; g = g; n = n; first = first })
set_by g (item.Unset id) = None

-- an anchor that is made, closed
abbrev pub made : Stage → Option Bearer → Option View
made k b = option_map (λ x. record { bearer = x; opened = false; stage = k }) b

-- an active anchor in a new generation
abbrev pub renewed_at : Stage → Bearer → View → View
renewed_at holds b v = record { bearer = b; opened = false; stage = holds }
renewed_at lacks_status b v = v
renewed_at has_status b v = v

-- where there is one
abbrev pub renewed : Option Bearer → Option View → Option View
renewed None v = v
renewed (Some b) None = None
renewed (Some b) (Some v) = Some (renewed_at v.stage b v)

-- an active anchor is given up
abbrev pub given_at : Stage → View → Option View
given_at holds v = None
given_at lacks_status v = Some v
given_at has_status v = Some v

-- where there is one
abbrev pub given : Option View → Option View
given None = None
given (Some v) = given_at v.stage v

-- by the part that the node has in the item
abbrev pub part_view : ℕ → Item → Part → Option View → Option View
part_view g i establishes v = made holds (set_by g i)
part_view g i renews v = renewed (set_by g i) v
part_view g i awaits v = made lacks_status (set_by g i)
part_view g i (hands_over to) v = given v
part_view g i drops v = None
part_view g i has_no_anchor v = v

-- an active anchor that is given up tells where it is
abbrev pub tells_at : Stage → LinkId → ℕ → View → List Send
tells_at holds l g v = (l, flight.Ctl (rec.Snst (status_of g v.bearer.id))) ∷ []
tells_at lacks_status l g v = []
tells_at has_status l g v = []

-- where there is one
abbrev pub tells : LinkId → ℕ → Option View → List Send
tells l g None = []
tells l g (Some v) = tells_at v.stage l g v

-- by the part; from a secondary node the master is told
abbrev pub part_sends : Node → ℕ → Part → Option View → List Send
part_sends me g establishes v = []
part_sends me g renews v = []
part_sends me g awaits v = []
part_sends me g (hands_over to) v = tells (link me M Ctl) g v
part_sends me g drops v = []
part_sends me g has_no_anchor v = []

-- ---- a plan

-- the views after an item
abbrev pub with_item : Node → Plan → Item → Views → Views
with_item me p i views = at_id (item_id i) (part_view p.g i (part_at me p.sec i) (views (item_id i))) views

-- after several
abbrev pub carried_by : Node → Plan → List Item → Views → Views
carried_by me p [] views = views
carried_by me p (i ∷ is) views = carried_by me p is (with_item me p i views)

-- and what is sent
abbrev pub sent_by_items : Node → Plan → List Item → Views → List Send
sent_by_items me p [] views = []
sent_by_items me p (i ∷ is) views = part_sends me p.g (part_at me p.sec i) (views (item_id i)) ++ sent_by_items me p is (with_item me p i views)

-- ---- what the procedures have the node do

-- an anchor of this generation opens
abbrev pub opened_by : ℕ → Option View → Option View
opened_by g None = None
opened_by g (Some v) = Some (if v.bearer.g == g then record v { opened = true } else v)

-- the stage of an anchor with its status transfer, which may adopt its bearer at once
abbrev pub stage_after : Bool → Stage
stage_after true = holds
stage_after false = has_status

-- a status transfer comes
abbrev pub passed : StatusTransfer → Bool → Option View → Option View
passed status adopts None = None
passed status adopts (Some v) = Some (if is_awaited status v then at_stage (stage_after adopts) v else v)

-- an anchor that adopts its bearer by it is told to the master
abbrev pub moved : Node → StatusTransfer → Bool → Option View → List Send
moved me status adopts None = []
moved me status adopts (Some v) = if is_awaited status v && adopts then record_to me M (rec.Moved v.bearer.g status.id) ∷ [] else []

-- the views after an act; `adopts`: by a status transfer, if one comes
abbrev pub act_view : Node → Bool → Act → Views → Views
act_view me adopts (send to r) views = views
act_view me adopts (prepare p) views = views
act_view me adopts (go p) views = carried_by me p p.items views
act_view me adopts (unlock_all g) views = λ k. opened_by g (views k)
act_view me adopts (say n) views = views
act_view me adopts (recover_one id) views = views
act_view me adopts (fail_one id g) views = views
act_view me adopts (pass status) views = at_id status.id (passed status adopts (views status.id)) views

-- and what is sent
abbrev pub act_sends : Node → Bool → Act → Views → List Send
act_sends me adopts (send to r) views = record_to me to r ∷ []
act_sends me adopts (prepare p) views = []
act_sends me adopts (go p) views = sent_by_items me p p.items views
act_sends me adopts (unlock_all g) views = []
act_sends me adopts (say n) views = []
act_sends me adopts (recover_one id) views = []
act_sends me adopts (fail_one id g) views = []
act_sends me adopts (pass status) views = moved me status adopts (views status.id)

-- after several acts, each with its `adopts`
abbrev pub acts_view : Node → List (Bool × Act) → Views → Views
acts_view me [] views = views
acts_view me (a ∷ acts) views = acts_view me acts (act_view me a.0 a.1 views)

-- and what they send, one after another
abbrev pub acts_sends : Node → List (Bool × Act) → Views → List Send
acts_sends me [] views = []
acts_sends me (a ∷ acts) views = act_sends me a.0 a.1 views ++ acts_sends me acts (act_view me a.0 a.1 views)

-- the node did this
pub record SecondDid (s : SecondNode) (views : Views) (sends : List Send) (done : SecondNode × Effects) : Type 0 where
  pub proc : done.0.proc ≡ s.proc
  pub after : (k : ℕ) → second_view done.0 k ≡ views k
  pub told : records_sent done.1.sends ≡ sends
  pub ascends : Ascends done.0.anchors

-- ---- a step of the procedures

-- an act that did this, for some `adopts`
pub record SecondActDid (me : Node) (s : SecondNode) (a : Act) (done : SecondNode × Effects) : Type 0 where
  pub adopts : Bool
  pub is : SecondDid s (act_view me adopts a (second_view s)) (act_sends me adopts a (second_view s)) done

-- and several
pub record SecondActsDid (me : Node) (s : SecondNode) (views : Views) (acts : List Act) (done : SecondNode × Effects) : Type 0 where
  pub chosen : List (Bool × Act)
  pub all : map (λ (x : Bool × Act). x.1) chosen ≡ acts
  pub is : SecondDid s (acts_view me chosen views) (acts_sends me chosen views) done

-- without a context of the terminal there is none
abbrev pub views_within : Membership → Views → Views
views_within outside views = λ k. None
views_within joined views = views
views_within left views = views

-- the procedures came to this state, and the node did what they had it do
pub record SecondProjects (s : SecondNode) (acts : SecondActs) (done : SecondNode × Effects) : Type 0 where
  pub chosen : List (Bool × Act)
  pub all : map (λ (x : Bool × Act). x.1) chosen ≡ acts.1
  pub proc : done.0.proc ≡ acts.0
  pub after : (k : ℕ) → second_view done.0 k ≡ acts_view acts.0.me chosen (views_within acts.0.membership (second_view s)) k
  pub told : records_sent done.1.sends ≡ acts_sends acts.0.me chosen (views_within acts.0.membership (second_view s))
  pub ascends : Ascends done.0.anchors

-- ---- which records fit the anchors

-- an anchor has the bearer, with this SN length and first COUNT
abbrev pub holds_like_at : Stage → SnLen → ℕ → Bearer → Bool
holds_like_at holds n first b = (bits b.n == bits n) && (b.first == first)
holds_like_at lacks_status n first b = false
holds_like_at has_status n first b = false

-- an anchor at the node has a bearer of this SN length and first COUNT
abbrev pub holds_like : SnLen → ℕ → Option View → Bool
holds_like n first None = false
holds_like n first (Some v) = holds_like_at v.stage n first v.bearer

-- an item presupposes an anchor at the node that is not there
abbrev pub misses : Node → Views → Item → Bool
misses me views (item.Set id n first shape threshold policy key None) = false
misses me views (item.Set id n first shape threshold policy key (Some old)) = is_same_node old me && not (holds_like n first (views id))
misses me views (item.Unset id) = false

-- no item of the plan does
abbrev pub fits_plan : Node → Views → Option Plan → Bool
fits_plan me views None = true
fits_plan me views (Some p) = not (list_any (misses me views) p.items)

-- an anchor has the bearer
abbrev pub is_holding : Stage → Bool
is_holding holds = true
is_holding lacks_status = false
is_holding has_status = false

-- an anchor at the node has its bearer
abbrev pub holds_there : Option View → Bool
holds_there None = false
holds_there (Some v) = is_holding v.stage

-- the bearer that recovers is there
abbrev pub fits_recovery : Views → Option ℕ → Bool
fits_recovery views None = true
fits_recovery views (Some id) = holds_there (views id)

-- the record fits the anchors
abbrev pub fits : Node → Views → Rec → Bool
fits me views r = fits_plan me views (plan_in r) && fits_recovery views (recovery_in r)

-- a record came: it was taken by the procedures, or it had no effect, since it did not fit or had no row there
pub data SecondHeard (s : SecondNode) (r : Rec) (done : SecondNode × Effects) : Type 0 where
  heard : (acts : SecondActs) → (fit : fits (name_of s) (second_view s) r ≡ true) → (taken : second_take s.proc r ≡ Ok acts) → (is : SecondProjects s acts done) → SecondHeard s r done
  unfit : (fit : fits (name_of s) (second_view s) r ≡ false) → (is : done ≡ (s, quiet)) → SecondHeard s r done
  no_row : (why : ProcFault) → (taken : second_take s.proc r ≡ Err why) → (is : done ≡ (s, quiet)) → SecondHeard s r done

-- a command was carried on, or refused
pub data SecondOrdered (s : SecondNode) (e : Event) (done : SecondNode × Effects) : Type 0 where
  ordered : (acts : SecondActs) → (taken : second_command s.proc e ≡ Ok acts) → (is : SecondProjects s acts done) → SecondOrdered s e done
  not_ordered : (why : ProcFault) → (refused : second_command s.proc e ≡ Err why) → (is : done ≡ (s, quiet)) → SecondOrdered s e done
