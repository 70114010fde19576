-- What the master's procedures have it do, as far as the control plane sees it.
use Rattle.std.specs.List.{list_any}
use Rattle.std.specs.Prelude.{Bool, Err, List, None, Ok, Option, Some, [], false, if◌then◌else◌, true, ℕ, ◌++◌, ◌∷◌, ◌≡◌}
use Rattle.dc_base.specs.Links.{link}
use Rattle.dc_base.specs.Records.{item_id}
use Rattle.dc_base.specs.declared.events.Event.{Event}
use Rattle.dc_base.specs.declared.nodes.Class.TheVariants.{Ctl}
use Rattle.dc_base.specs.declared.nodes.Node.{Node}
use Rattle.dc_base.specs.declared.nodes.Node.TheVariants.{M}
use Rattle.dc_base.specs.declared.records.Item.{Item}
use Rattle.dc_base.specs.declared.records.Plan.{Plan}
use Rattle.dc_base.specs.declared.records.Rec.{Rec}
use Rattle.dc_base.specs.declared.records.StatusTransfer.{StatusTransfer}
use Rattle.node_rules.specs.Acts.{ProcFault}
use Rattle.node_rules.specs.Choices.{Choices, Send}
use Rattle.node_rules.specs.Effects.{after_effects, quiet}
use Rattle.node_rules.specs.Master.{MasterNode}
use Rattle.node_rules.specs.MasterCommands.{master_command}
use Rattle.node_rules.specs.MasterPlan.{does, is_rejection}
use Rattle.node_rules.specs.MasterState.{MasterActs}
use Rattle.node_rules.specs.MasterTaking.{master_adopted, master_take}
use Rattle.node_rules.specs.Parts.{part_at}
use Rattle.node_rules.specs.declared.acts.Act.{Act}
use Rattle.node_rules.specs.declared.acts.Act.TheVariants.{FailOne as fail_one, Go as go, Pass as pass, Prepare as prepare, RecoverOne as recover_one, Say as say, Send as send, UnlockAll as unlock_all}
use Rattle.node_rules.specs.declared.inputs.Effects.{Effects}
use Rattle.node_rules.specs.declared.parts.Part.{Part}
use Rattle.node_rules.specs.declared.parts.Part.TheVariants.{Awaits as awaits, Drops as drops, Establishes as establishes, HandsOver as hands_over, HasNoAnchor as has_no_anchor, Renews as renews}
use Rattle.run_control.specs.Orders.{Ascends}
use Rattle.run_control.specs.SecondControl.{Views, at_id, given, made, opened_by, passed, record_to, records_sent, renewed, set_by, tells}
use Rattle.run_control.specs.Views.{Stage, View, adopting, has_status, holds, is_awaited, lacks_status, master_view}

-- ---- an item

-- by the part that the master has in it; a waiting anchor was made before
abbrev pub own_part_view : ℕ → Item → Part → Option View → Option View
own_part_view g i establishes v = made holds (set_by g i)
own_part_view g i renews v = renewed (set_by g i) v
own_part_view g i awaits v = v
own_part_view g i (hands_over to) v = given v
own_part_view g i drops v = None
own_part_view g i has_no_anchor v = v

-- an anchor that is given up tells the new one where it is
abbrev pub own_part_sends : ℕ → Part → Option View → List Send
own_part_sends g establishes v = []
own_part_sends g renews v = []
own_part_sends g awaits v = []
own_part_sends g (hands_over to) v = tells (link M to Ctl) g v
own_part_sends g drops v = []
own_part_sends g has_no_anchor v = []

-- where a plan begins, an anchor is made that waits
abbrev pub prepared_view : ℕ → Item → Part → Option View → Option View
prepared_view g i establishes v = v
prepared_view g i renews v = v
prepared_view g i awaits v = made lacks_status (set_by g i)
prepared_view g i (hands_over to) v = v
prepared_view g i drops v = v
prepared_view g i has_no_anchor v = v

-- ---- a plan

-- the views after an item
abbrev pub with_own_item : Plan → Item → Views → Views
with_own_item p i views = at_id (item_id i) (own_part_view p.g i (part_at M p.sec i) (views (item_id i))) views

-- after several
abbrev pub carried_here : Plan → List Item → Views → Views
carried_here p [] views = views
carried_here p (i ∷ is) views = carried_here p is (with_own_item p i views)

-- and what is sent
abbrev pub sent_here : Plan → List Item → Views → List Send
sent_here p [] views = []
sent_here p (i ∷ is) views = own_part_sends p.g (part_at M p.sec i) (views (item_id i)) ++ sent_here p is (with_own_item p i views)

-- the views after the waiting anchors of an item are made
abbrev pub with_prepared : Plan → Item → Views → Views
with_prepared p i views = at_id (item_id i) (prepared_view p.g i (part_at M p.sec i) (views (item_id i))) views

-- of several
abbrev pub prepared_here : Plan → List Item → Views → Views
prepared_here p [] views = views
prepared_here p (i ∷ is) views = prepared_here p is (with_prepared p i views)

-- ---- what the procedures have the master do

-- an anchor that has its bearer stays, and one that waits goes
abbrev pub active_at : Stage → View → Option View
active_at holds v = Some v
active_at lacks_status v = None
active_at has_status v = None

-- where there is one
abbrev pub active_only : Option View → Option View
active_only None = None
active_only (Some v) = active_at v.stage v

-- the views after an act; a status transfer that is passed to the master's own anchor is no act of this kind
abbrev pub own_act_view : Act → Views → Views
own_act_view (send to r) views = views
own_act_view (prepare p) views = prepared_here p p.items views
own_act_view (go p) views = carried_here p p.items views
own_act_view (unlock_all g) views = λ k. opened_by g (views k)
own_act_view (say n) views = λ k. if is_rejection n then active_only (views k) else views k
own_act_view (recover_one id) views = views
own_act_view (fail_one id g) views = views
own_act_view (pass status) views = views

-- and what is sent
abbrev pub own_act_sends : Act → Views → List Send
own_act_sends (send to r) views = record_to M to r ∷ []
own_act_sends (prepare p) views = []
own_act_sends (go p) views = sent_here p p.items views
own_act_sends (unlock_all g) views = []
own_act_sends (say n) views = []
own_act_sends (recover_one id) views = []
own_act_sends (fail_one id g) views = []
own_act_sends (pass status) views = []

-- after several acts
abbrev pub own_acts_view : List Act → Views → Views
own_acts_view [] views = views
own_acts_view (a ∷ acts) views = own_acts_view acts (own_act_view a views)

-- and what they send, one after another
abbrev pub own_acts_sends : List Act → Views → List Send
own_acts_sends [] views = []
own_acts_sends (a ∷ acts) views = own_act_sends a views ++ own_acts_sends acts (own_act_view a views)

-- the master did this
pub record MasterDid (m : MasterNode) (views : Views) (sends : List Send) (done : MasterNode × Effects) : Type 0 where
  pub proc : done.0.proc ≡ m.proc
  pub after : (k : ℕ) → master_view done.0 k ≡ views k
  pub told : records_sent done.1.sends ≡ sends
  pub ascends : Ascends done.0.anchors

-- the procedures came to this state, and the master did what they had it do
pub record MasterProjects (m : MasterNode) (acts : MasterActs) (done : MasterNode × Effects) : Type 0 where
  pub proc : done.0.proc ≡ acts.0
  pub after : (k : ℕ) → master_view done.0 k ≡ own_acts_view acts.1 (master_view m) k
  pub told : records_sent done.1.sends ≡ own_acts_sends acts.1 (master_view m)
  pub ascends : Ascends done.0.anchors

-- ---- a record

-- the act gives a status transfer to the master's own anchor
abbrev pub is_pass : Act → Bool
is_pass (send to r) = false
is_pass (prepare p) = false
is_pass (go p) = false
is_pass (unlock_all g) = false
is_pass (say n) = false
is_pass (recover_one id) = false
is_pass (fail_one id g) = false
is_pass (pass status) = true

-- none does
abbrev pub Passes_nothing : List Act → Type 0
Passes_nothing acts = list_any is_pass acts ≡ false

-- a status transfer was passed to the master's own anchor: it waits on, or it adopts, and then the procedures hear of it
pub data MasterPassed (c : Choices) (m : MasterNode) (status : StatusTransfer) (done : MasterNode × Effects) : Type 0 where
  waits_on : (is : MasterDid m (at_id status.id (passed status false (master_view m status.id)) (master_view m)) [] done) → MasterPassed c m status done
  adopts_by_it : (v : View) → (at : master_view m status.id ≡ Some v) → (awaited : is_awaited status v ≡ true)
      → (next : MasterNode) (before : Effects) → (did : MasterDid m (at_id status.id (Some (adopting v)) (master_view m)) [] (next, before))
      → (is : done ≡ after_effects before (does c next (master_adopted next.proc status.id))) → MasterPassed c m status done

-- a record came from a node: the procedures took it, a status transfer among them; or it had no row there, and no effect
pub data MasterHeard (c : Choices) (m : MasterNode) (from : Node) (r : Rec) (done : MasterNode × Effects) : Type 0 where
  master_heard : (acts : MasterActs) → (taken : master_take from m.proc r ≡ Ok acts) → (plain : Passes_nothing acts.1) → (is : MasterProjects m acts done) → MasterHeard c m from r done
  master_passed : (status : StatusTransfer) → (taken : master_take from m.proc r ≡ Ok (m.proc, pass status ∷ [])) → (is : MasterPassed c m status done) → MasterHeard c m from r done
  master_no_row : (why : ProcFault) → (taken : master_take from m.proc r ≡ Err why) → (is : done ≡ (m, quiet)) → MasterHeard c m from r done

-- a command was carried on, or refused
pub data MasterOrdered (m : MasterNode) (policies : ℕ) (e : Event) (done : MasterNode × Effects) : Type 0 where
  master_ordered : (acts : MasterActs) → (taken : master_command policies m.proc e ≡ Ok acts) → (is : MasterProjects m acts done) → MasterOrdered m policies e done
  master_refused : (why : ProcFault) → (refused : master_command policies m.proc e ≡ Err why) → (is : done ≡ (m, quiet)) → MasterOrdered m policies e done
