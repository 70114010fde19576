-- A secondary node stays the same one, and sends from itself.
use Rattle.std.proofs.Common.{ℕ, ◌≡◌, ◌++◌, Bool, false, List, [], ◌∷◌, Option, Some, None, refl, sym, ap, subst, ◌∙◌}
use Rattle.std.specs.Prelude.{Ok, if◌then◌else◌, map, ◌&&◌}
use Rattle.std.proofs.lemmas.Grind.{flat_map-append}
use Rattle.dc_base.specs.Links.{is_same_link, link}
use Rattle.dc_base.specs.Records.{item_id}
use Rattle.dc_base.specs.declared.events.Event.{Event}
use Rattle.dc_base.specs.declared.flights.Flight.{Flight}
use Rattle.dc_base.specs.declared.flights.Flight.TheVariants as flight
use Rattle.dc_base.specs.declared.nodes.Class.TheVariants.{Ctl}
use Rattle.dc_base.specs.declared.nodes.LinkId.{LinkId}
use Rattle.dc_base.specs.declared.nodes.Node.{Node}
use Rattle.dc_base.specs.declared.nodes.Node.TheVariants.{A, B, M, T}
use Rattle.dc_base.specs.declared.records.Item.{Item}
use Rattle.dc_base.specs.declared.records.Plan.{Plan}
use Rattle.dc_base.specs.declared.records.Rec.TheVariants as rec
use Rattle.dc_base.specs.declared.records.StatusTransfer.{StatusTransfer}
use Rattle.transcript.specs.Content.{on_link}
use Rattle.node_rules.specs.Acts.{first_refusal}
use Rattle.node_rules.specs.Choices.{Choices, Send}
use Rattle.node_rules.specs.Effects.{quiet}
use Rattle.node_rules.specs.Parts.{part_at}
use Rattle.node_rules.specs.Run.{Happening, carried_on, given_to, happening, on_links, refused_for, world_step}
use Rattle.node_rules.specs.SecondState.{SecondActs, SecondProc, second_refusals}
use Rattle.node_rules.specs.SecondStep.{second_step}
use Rattle.node_rules.specs.Secondary.{SecondNode, name_of}
use Rattle.node_rules.specs.World.{World}
use Rattle.node_rules.specs.declared.acts.Act.{Act}
use Rattle.node_rules.specs.declared.acts.Act.TheVariants.{FailOne as fail_one, Go as go, Pass as pass, Prepare as prepare, RecoverOne as recover_one, Say as say, Send as send, UnlockAll as unlock_all}
use Rattle.node_rules.specs.declared.inputs.Effects.{Effects}
use Rattle.node_rules.specs.declared.inputs.Input.{Input}
use Rattle.node_rules.specs.declared.parts.Part.{Part}
use Rattle.node_rules.specs.declared.parts.Part.TheVariants.{Awaits as awaits, Drops as drops, Establishes as establishes, HandsOver as hands_over, HasNoAnchor as has_no_anchor, Renews as renews}
use Rattle.run_control.specs.Links.{sent_on}
use Rattle.run_control.specs.SecondControl.{SecondProjects, Views, act_sends, act_view, acts_sends, bare_flight, heard, moved, no_row, not_ordered, ordered, part_sends, record_to, records_sent, sent_by_items, status_of, tells, tells_at, unfit, views_within, with_item}
use Rattle.run_control.specs.Steps.{AreOrdered, SecondStepped, second_by_command, second_by_nothing, second_by_record, second_by_traffic}
use Rattle.run_control.specs.Traffic.{came, second_adopts, second_keeps}
use Rattle.run_control.specs.Views.{Stage, View, has_status, holds, is_awaited, lacks_status, second_view}
use Rattle.run_control.proofs.EventTurns.{TakesBusy, second_busy, unless_busy}
use Rattle.run_control.proofs.Sent.{either}
use Rattle.run_control.proofs.Sequences.{no_records}
use Rattle.run_control.proofs.Steps.{second_stepped}

-- a link from another node
abbrev pub IsAway : Node → LinkId → Type 0
IsAway me l = (x : Node) → is_same_link l (link me x Ctl) ≡ false

module _ (me : Node) (l : LinkId) (away : IsAway me l) where
  one_apart : (x : Node) (f : Flight) → on_link l (link me x Ctl, f) ≡ []
  one_apart x f = ap (λ b. if b then f ∷ [] else []) (away x)

  tells_apart_at : (k : Stage) (g : ℕ) (v : View) → sent_on l (tells_at k (link me M Ctl) g v) ≡ []
  tells_apart_at holds g v = ap (λ fs. fs ++ []) (one_apart M (flight.Ctl (rec.Snst (status_of g v.bearer.id))))
  tells_apart_at lacks_status g v = refl
  tells_apart_at has_status g v = refl

  tells_apart : (g : ℕ) (o : Option View) → sent_on l (tells (link me M Ctl) g o) ≡ []
  tells_apart g None = refl
  tells_apart g (Some v) = tells_apart_at v.stage g v

  part_apart : (g : ℕ) (part : Part) (o : Option View) → sent_on l (part_sends me g part o) ≡ []
  part_apart g establishes o = refl
  part_apart g renews o = refl
  part_apart g awaits o = refl
  part_apart g (hands_over to) o = tells_apart g o
  part_apart g drops o = refl
  part_apart g has_no_anchor o = refl

  both_apart : (xs ys : List Send) → sent_on l xs ≡ [] → sent_on l ys ≡ [] → sent_on l (xs ++ ys) ≡ []
  both_apart xs ys p q = flat_map-append (on_link l) xs ys ∙ ap (λ fs. fs ++ sent_on l ys) p ∙ q

  items_apart : (p : Plan) (is : List Item) (v : Views) → sent_on l (sent_by_items me p is v) ≡ []
  items_apart p [] v = refl
  items_apart p (i ∷ is) v =
      both_apart (part_sends me p.g (part_at me p.sec i) (v (item_id i))) (sent_by_items me p is (with_item me p i v)) (part_apart p.g (part_at me p.sec i) (v (item_id i))) (items_apart p is (with_item me p i v))

  moved_apart : (status : StatusTransfer) (adopts : Bool) (o : Option View) → sent_on l (moved me status adopts o) ≡ []
  moved_apart status adopts None = refl
  moved_apart status adopts (Some v) =
      either (λ (xs : List Send). sent_on l xs ≡ []) (is_awaited status v && adopts) (record_to me M (rec.Moved v.bearer.g status.id) ∷ []) []
      (ap (λ fs. fs ++ []) (one_apart M (flight.Ctl (rec.Moved v.bearer.g status.id)))) refl

  act_apart : (adopts : Bool) (a : Act) (v : Views) → sent_on l (act_sends me adopts a v) ≡ []
  act_apart adopts (send to r) v = ap (λ fs. fs ++ []) (one_apart to (record_to me to r).1)
  act_apart adopts (prepare p) v = refl
  act_apart adopts (go p) v = items_apart p p.items v
  act_apart adopts (unlock_all g) v = refl
  act_apart adopts (say n) v = refl
  act_apart adopts (recover_one id) v = refl
  act_apart adopts (fail_one id g) v = refl
  act_apart adopts (pass status) v = moved_apart status adopts (v status.id)

  acts_apart : (acts : List (Bool × Act)) (v : Views) → sent_on l (acts_sends me acts v) ≡ []
  acts_apart [] v = refl
  acts_apart (a ∷ acts) v = both_apart (act_sends me a.0 a.1 v) (acts_sends me acts (act_view me a.0 a.1 v)) (act_apart a.0 a.1 v) (acts_apart acts (act_view me a.0 a.1 v))

-- ---- a step

projects_apart : (s : SecondNode) (l : LinkId) (acts : SecondActs) (done : SecondNode × Effects) → IsAway (name_of s) l → TakesBusy s.proc (Ok acts) → SecondProjects s acts done → sent_on l (records_sent done.1.sends) ≡ []
projects_apart s l acts done away busy is =
    ap (sent_on l) is.told ∙ acts_apart acts.0.me l (subst (λ me. IsAway me l) (sym busy.0) away) is.chosen (views_within acts.0.membership (second_view s))

nothing_apart : (s : SecondNode) (l : LinkId) (done : SecondNode × Effects) → done ≡ (s, quiet) → sent_on l (records_sent done.1.sends) ≡ []
nothing_apart s l done is = ap (λ (x : SecondNode × Effects). sent_on l (records_sent x.1.sends)) is

pub second_apart : (s : SecondNode) (i : Input) (l : LinkId) (done : SecondNode × Effects) → IsAway (name_of s) l → SecondStepped s i done → sent_on l (records_sent done.1.sends) ≡ []
second_apart s i l done away (second_by_traffic (second_keeps proc views sends ascends)) = ap (sent_on l) (no_records done.1.sends sends)
second_apart s i l done away (second_by_traffic (second_adopts id v at had proc views sends ascends)) =
    ap (λ (zs : List Send). sent_on l (map (λ (x : Send). (x.0, bare_flight x.1)) zs)) sends
    ∙ ap (λ fs. fs ++ []) (one_apart (name_of s) l away M (flight.Ctl (rec.Moved v.bearer.g id)))
second_apart s i l done away (second_by_record r came_in (heard acts fit taken is)) = projects_apart s l acts done away (subst (TakesBusy s.proc) taken (second_busy s.proc r)) is
second_apart s i l done away (second_by_record r came_in (unfit fit is)) = nothing_apart s l done is
second_apart s i l done away (second_by_record r came_in (no_row why taken is)) = nothing_apart s l done is
second_apart s i l done away (second_by_command e came_in (ordered acts taken is)) = projects_apart s l acts done away (subst (TakesBusy s.proc) taken (unless_busy s.proc e (first_refusal (second_refusals s.proc e)))) is
second_apart s i l done away (second_by_command e came_in (not_ordered why refused is)) = nothing_apart s l done is
second_apart s i l done away (second_by_nothing is) = nothing_apart s l done is

projects_named : (s : SecondNode) (acts : SecondActs) (done : SecondNode × Effects) → TakesBusy s.proc (Ok acts) → SecondProjects s acts done → name_of done.0 ≡ name_of s
projects_named s acts done busy is = ap (λ (p : SecondProc). p.me) is.proc ∙ busy.0

nothing_named : (s : SecondNode) (done : SecondNode × Effects) → done ≡ (s, quiet) → name_of done.0 ≡ name_of s
nothing_named s done is = ap (λ (x : SecondNode × Effects). name_of x.0) is

second_named : (s : SecondNode) (i : Input) (done : SecondNode × Effects) → SecondStepped s i done → name_of done.0 ≡ name_of s
second_named s i done (second_by_traffic (second_keeps proc views sends ascends)) = ap (λ (p : SecondProc). p.me) proc
second_named s i done (second_by_traffic (second_adopts id v at had proc views sends ascends)) = ap (λ (p : SecondProc). p.me) proc
second_named s i done (second_by_record r came_in (heard acts fit taken is)) = projects_named s acts done (subst (TakesBusy s.proc) taken (second_busy s.proc r)) is
second_named s i done (second_by_record r came_in (unfit fit is)) = nothing_named s done is
second_named s i done (second_by_record r came_in (no_row why taken is)) = nothing_named s done is
second_named s i done (second_by_command e came_in (ordered acts taken is)) = projects_named s acts done (subst (TakesBusy s.proc) taken (unless_busy s.proc e (first_refusal (second_refusals s.proc e)))) is
second_named s i done (second_by_command e came_in (not_ordered why refused is)) = nothing_named s done is
second_named s i done (second_by_nothing is) = nothing_named s done is

-- ---- a run

-- each is the one that it is called
pub record AreNamed (w : World) : Type 0 where
  pub a : name_of w.a ≡ A
  pub b : name_of w.b ≡ B

carried_named : (c : Choices) (w : World) (what : Happening) → AreOrdered w → AreNamed w → AreNamed (carried_on c w what).0
carried_named c w (given_to T i) up named = record { a = named.a; b = named.b }
carried_named c w (given_to M i) up named = record { a = named.a; b = named.b }
carried_named c w (given_to A i) up named = record { a = second_named w.a i (came (second_step c w.a i)) (second_stepped c w.a i up.a) ∙ named.a; b = named.b }
carried_named c w (given_to B i) up named = record { a = named.a; b = second_named w.b i (came (second_step c w.b i)) (second_stepped c w.b i up.b) ∙ named.b }
carried_named c w (refused_for why) up named = record { a = named.a; b = named.b }
carried_named c w (on_links effects) up named = record { a = named.a; b = named.b }

pub event_named : (c : Choices) (w : World) (e : Event) → AreOrdered w → AreNamed w → AreNamed (world_step c w e).0
event_named c w e up named = let is = carried_named c w (happening w e) up named in record { a = is.a; b = is.b }
