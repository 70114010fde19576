-- No record ever stands between two nodes of which neither is the master.
use Rattle.std.proofs.Common.{ℕ, suc, zero, ◌≡◌, ◌++◌, Bool, true, false, List, [], ◌∷◌, Option, Some, None, length, refl, sym, ap, ◌∙◌, slice_get}
use Rattle.std.specs.Prelude.{filter, if◌then◌else◌, map, nat_lt, remove, ⊤, ◌&&◌}
use Rattle.std.specs.List.{flat_map, list_any}
use Rattle.std.proofs.lemmas.List.{append-nil}
use Rattle.std.proofs.lemmas.Grind.{flat_map-append}
use Rattle.dc_base.specs.Links.{all_links, is_ordered, is_same_link, is_tunnel, link}
use Rattle.dc_base.specs.Records.{item_id}
use Rattle.dc_base.specs.declared.answers.Refusal.TheVariants as refusal
use Rattle.dc_base.specs.declared.events.Event.{Event}
use Rattle.dc_base.specs.declared.events.Event.TheVariants as event
use Rattle.dc_base.specs.declared.events.Line.TheVariants as line
use Rattle.dc_base.specs.declared.events.Note.{Note}
use Rattle.dc_base.specs.declared.flights.Flight.{Flight}
use Rattle.dc_base.specs.declared.nodes.Class.TheVariants.{Ctl}
use Rattle.dc_base.specs.declared.nodes.LinkId.{LinkId}
use Rattle.dc_base.specs.declared.nodes.Node.{Node}
use Rattle.dc_base.specs.declared.nodes.Node.TheVariants.{A, B, M, T}
use Rattle.dc_base.specs.declared.records.Item.{Item}
use Rattle.dc_base.specs.declared.records.Plan.{Plan}
use Rattle.transcript.specs.Content.{on_link, place_taken, put_on, without_taken}
use Rattle.node_rules.specs.Choices.{Choices, Send}
use Rattle.node_rules.specs.Effects.{after_effects, quiet}
use Rattle.node_rules.specs.Flights.{weight}
use Rattle.node_rules.specs.Lines.{ended, is_end, is_idle_release, lines_by, lines_of, notes_after, notes_at, notes_before, ordered, sends_after, sends_before, sends_on}
use Rattle.node_rules.specs.Master.{MasterNode}
use Rattle.node_rules.specs.MasterPlan.{does}
use Rattle.node_rules.specs.MasterStep.{master_step}
use Rattle.node_rules.specs.MasterTaking.{master_adopted}
use Rattle.node_rules.specs.Parts.{part_at}
use Rattle.node_rules.specs.Readers.{is_aged_for}
use Rattle.node_rules.specs.Run.{Happening, carried_on, copy_of, given_to, happening, loss_of, node_at, on_links, refused_for, step_of, world_step}
use Rattle.node_rules.specs.SecondStep.{second_step}
use Rattle.node_rules.specs.Terminal.{terminal_step}
use Rattle.node_rules.specs.World.{World, flights_on}
use Rattle.node_rules.specs.declared.acts.Act.{Act}
use Rattle.node_rules.specs.declared.acts.Act.TheVariants.{FailOne as fail_one, Go as go, Pass as pass, Prepare as prepare, RecoverOne as recover_one, Say as say, Send as send, UnlockAll as unlock_all}
use Rattle.node_rules.specs.declared.inputs.Effects.{Effects}
use Rattle.node_rules.specs.declared.inputs.Input.{Input}
use Rattle.node_rules.specs.declared.inputs.Input.TheVariants.{Come}
use Rattle.node_rules.specs.declared.inputs.Outcome.{Outcome}
use Rattle.node_rules.specs.declared.parts.Part.{Part}
use Rattle.node_rules.specs.declared.parts.Part.TheVariants.{Awaits as awaits, Drops as drops, Establishes as establishes, HandsOver as hands_over, HasNoAnchor as has_no_anchor, Renews as renews}
use Rattle.master_runs.proofs.Contents.{flights_next}
use Rattle.run_control.specs.Links.{sent_on}
use Rattle.run_control.specs.MasterControl.{adopts_by_it, master_heard, master_no_row, master_ordered, master_passed, master_refused, own_act_sends, own_act_view, own_acts_sends, own_part_sends, sent_here, waits_on, with_own_item}
use Rattle.run_control.specs.Orders.{Ascends}
use Rattle.run_control.specs.SecondControl.{Views, record_to, records_sent, tells, tells_at}
use Rattle.run_control.specs.Steps.{AreOrdered, MasterStepped, master_by_command, master_by_nothing, master_by_record, master_by_traffic}
use Rattle.run_control.specs.Traffic.{came, master_adopts, master_keeps}
use Rattle.run_control.specs.Views.{Stage, View, has_status, holds, lacks_status, is_control, master_view}
use Rattle.run_control.proofs.EventTurns.{second_idle, terminal_idle}
use Rattle.run_control.proofs.Links.{put_append, put_links, put_places, put_sends}
use Rattle.run_control.proofs.MasterActs.{does_projects}
use Rattle.run_control.proofs.Records.{idle_gone, no_flights, none_of, sent_bare}
use Rattle.run_control.proofs.Sent.{either}
use Rattle.run_control.proofs.Sequences.{no_records, records_both}
use Rattle.run_control.proofs.Steps.{master_stepped, second_stepped, terminal_stepped}

-- between two such nodes
pub data IsNoLink : LinkId → Type 0 where
  terminal_terminal : IsNoLink (link T T Ctl)
  terminal_a : IsNoLink (link T A Ctl)
  terminal_b : IsNoLink (link T B Ctl)
  a_terminal : IsNoLink (link A T Ctl)
  a_a : IsNoLink (link A A Ctl)
  a_b : IsNoLink (link A B Ctl)
  b_terminal : IsNoLink (link B T Ctl)
  b_a : IsNoLink (link B A Ctl)
  b_b : IsNoLink (link B B Ctl)

on_control : (l : LinkId) → IsNoLink l → is_control l.class ≡ true
on_control l terminal_terminal = refl
on_control l terminal_a = refl
on_control l terminal_b = refl
on_control l a_terminal = refl
on_control l a_a = refl
on_control l a_b = refl
on_control l b_terminal = refl
on_control l b_a = refl
on_control l b_b = refl

-- ---- the lines put nothing there, but what says that a release is needless

no_where : (l : LinkId) → IsNoLink l → (fs : List Flight) → flat_map (λ k. if is_same_link l k then fs else []) all_links ≡ []
no_where l terminal_terminal fs = refl
no_where l terminal_a fs = refl
no_where l terminal_b fs = refl
no_where l a_terminal fs = refl
no_where l a_a fs = refl
no_where l a_b fs = refl
no_where l b_terminal fs = refl
no_where l b_a fs = refl
no_where l b_b fs = refl

put_nowhere : (l : LinkId) → IsNoLink l → (notes : List Note) (xs : List Send) → put_on l (ordered notes xs) ≡ []
put_nowhere l none notes xs =
    let before = flat_map (notes_at notes) (0 ∷ 1 ∷ 2 ∷ 3 ∷ 4 ∷ []) in
    let middle = flat_map (sends_on xs) all_links in
    let after = flat_map (notes_at notes) (5 ∷ 6 ∷ []) in
    put_append l (before ++ middle) after
    ∙ ap (λ zs. put_on l (before ++ middle) ++ zs) (put_places l notes (5 ∷ 6 ∷ []))
    ∙ append-nil (put_on l (before ++ middle))
    ∙ put_append l before middle
    ∙ ap (λ zs. zs ++ put_on l middle) (put_places l notes (0 ∷ 1 ∷ 2 ∷ 3 ∷ 4 ∷ []))
    ∙ put_links l xs all_links
    ∙ no_where l none (sent_on l xs)

end_nowhere : (l : LinkId) → IsNoLink l → (notes : List Note) (xs : List Send) → sent_on l (filter is_idle_release xs) ≡ [] → put_on l (ended notes xs) ≡ []
end_nowhere l none notes xs idle =
    let before = ordered (notes_before notes) (sends_before xs) in
    let middle = map (λ (s : Send). line.Send s.0 s.1) (filter is_idle_release xs) in
    let after = ordered (notes_after notes) (sends_after xs) in
    put_append l (before ++ middle) after
    ∙ ap (λ zs. put_on l (before ++ middle) ++ zs) (put_nowhere l none (notes_after notes) (sends_after xs))
    ∙ append-nil (put_on l (before ++ middle))
    ∙ put_append l before middle
    ∙ ap (λ zs. zs ++ put_on l middle) (put_nowhere l none (notes_before notes) (sends_before xs))
    ∙ put_sends l (filter is_idle_release xs) ∙ idle

-- of an outcome
pub data IsSilent (l : LinkId) (o : Outcome) : Type 0 where
  ends_none : (is : list_any is_end o.notes ≡ false) → IsSilent l o
  none_idle : (is : sent_on l (filter is_idle_release o.sends) ≡ []) → IsSilent l o

outcome_nowhere : (l : LinkId) → IsNoLink l → (o : Outcome) → IsSilent l o → put_on l (lines_of o) ≡ []
outcome_nowhere l none o (ends_none is) = ap (λ b. put_on l (lines_by b o)) is ∙ put_nowhere l none o.notes o.sends
outcome_nowhere l none o (none_idle is) = by (list_any is_end o.notes)
  where
    by : (b : Bool) → put_on l (lines_by b o) ≡ []
    by true = end_nowhere l none o.notes o.sends is
    by false = put_nowhere l none o.notes o.sends

-- nothing is left of nothing
nothing_left : (i : ℕ) → ◌≡◌ {A = List Flight} (remove [] i) []
nothing_left zero = refl
nothing_left (suc i) = refl

-- ---- the master sends from itself

apart : (l : LinkId) → IsNoLink l → (x : Node) → is_same_link l (link M x Ctl) ≡ false
apart l terminal_terminal T = refl
apart l terminal_terminal M = refl
apart l terminal_terminal A = refl
apart l terminal_terminal B = refl
apart l terminal_a T = refl
apart l terminal_a M = refl
apart l terminal_a A = refl
apart l terminal_a B = refl
apart l terminal_b T = refl
apart l terminal_b M = refl
apart l terminal_b A = refl
apart l terminal_b B = refl
apart l a_terminal T = refl
apart l a_terminal M = refl
apart l a_terminal A = refl
apart l a_terminal B = refl
apart l a_a T = refl
apart l a_a M = refl
apart l a_a A = refl
apart l a_a B = refl
apart l a_b T = refl
apart l a_b M = refl
apart l a_b A = refl
apart l a_b B = refl
apart l b_terminal T = refl
apart l b_terminal M = refl
apart l b_terminal A = refl
apart l b_terminal B = refl
apart l b_a T = refl
apart l b_a M = refl
apart l b_a A = refl
apart l b_a B = refl
apart l b_b T = refl
apart l b_b M = refl
apart l b_b A = refl
apart l b_b B = refl

module _ (l : LinkId) (away : (x : Node) → is_same_link l (link M x Ctl) ≡ false) where
  one_apart : (x : Node) (f : Flight) → on_link l (link M x Ctl, f) ≡ []
  one_apart x f = ap (λ b. if b then f ∷ [] else []) (away x)

  tells_apart_at : (k : Stage) (x : Node) (g : ℕ) (v : View) → sent_on l (tells_at k (link M x Ctl) g v) ≡ []
  tells_apart_at holds x g v = ap (λ fs. fs ++ []) (one_apart x _)
  tells_apart_at lacks_status x g v = refl
  tells_apart_at has_status x g v = refl

  tells_apart : (x : Node) (g : ℕ) (o : Option View) → sent_on l (tells (link M x Ctl) g o) ≡ []
  tells_apart x g None = refl
  tells_apart x g (Some v) = tells_apart_at v.stage x g v

  part_apart : (g : ℕ) (part : Part) (o : Option View) → sent_on l (own_part_sends g part o) ≡ []
  part_apart g establishes o = refl
  part_apart g renews o = refl
  part_apart g awaits o = refl
  part_apart g (hands_over to) o = tells_apart to g o
  part_apart g drops o = refl
  part_apart g has_no_anchor o = refl

  both_apart : (xs ys : List Send) → sent_on l xs ≡ [] → sent_on l ys ≡ [] → sent_on l (xs ++ ys) ≡ []
  both_apart xs ys p q = flat_map-append (on_link l) xs ys ∙ ap (λ fs. fs ++ sent_on l ys) p ∙ q

  items_apart : (p : Plan) (is : List Item) (v : Views) → sent_on l (sent_here p is v) ≡ []
  items_apart p [] v = refl
  items_apart p (i ∷ is) v =
      both_apart (own_part_sends p.g (part_at M p.sec i) (v (item_id i))) (sent_here p is (with_own_item p i v)) (part_apart p.g (part_at M p.sec i) (v (item_id i))) (items_apart p is (with_own_item p i v))

  act_apart : (a : Act) (v : Views) → sent_on l (own_act_sends a v) ≡ []
  act_apart (send to r) v = ap (λ fs. fs ++ []) (one_apart to (record_to M to r).1)
  act_apart (prepare p) v = refl
  act_apart (go p) v = items_apart p p.items v
  act_apart (unlock_all g) v = refl
  act_apart (say n) v = refl
  act_apart (recover_one id) v = refl
  act_apart (fail_one id g) v = refl
  act_apart (pass status) v = refl

  pub acts_apart : (acts : List Act) (v : Views) → sent_on l (own_acts_sends acts v) ≡ []
  acts_apart [] v = refl
  acts_apart (a ∷ acts) v = both_apart (own_act_sends a v) (own_acts_sends acts (own_act_view a v)) (act_apart a v) (acts_apart acts (own_act_view a v))

  -- by what it did
  abbrev pub Apart : MasterNode × Effects → Type 0
  Apart done = sent_on l (records_sent done.1.sends) ≡ []

  nothing_apart : (m : MasterNode) (done : MasterNode × Effects) → done ≡ (m, quiet) → Apart done
  nothing_apart m done is = ap (λ (x : MasterNode × Effects). sent_on l (records_sent x.1.sends)) is

  adopted_apart : (c : Choices) (next : MasterNode) (before : Effects) (id : ℕ) (done : MasterNode × Effects) → records_sent before.sends ≡ [] → Ascends next.anchors
      → done ≡ after_effects before (does c next (master_adopted next.proc id)) → Apart done
  adopted_apart c next before id done nothing up is =
      let acts = master_adopted next.proc id in
      let then' = does c next acts in
      ap (λ (x : MasterNode × Effects). sent_on l (records_sent x.1.sends)) is
      ∙ ap (sent_on l) (records_both before.sends then'.1.sends nothing (does_projects c next acts up).told)
      ∙ acts_apart acts.1 (master_view next)

  pub master_apart : (c : Choices) (m : MasterNode) (i : Input) (done : MasterNode × Effects) → Ascends m.anchors → MasterStepped c m i done → Apart done
  master_apart c m i done up (master_by_traffic (master_keeps proc views sends ascends)) = ap (sent_on l) (no_records done.1.sends sends)
  master_apart c m i done up (master_by_traffic (master_adopts id v at had next before proc views sends ascends is)) = adopted_apart c next before id done (no_records before.sends sends) (ascends up) is
  master_apart c m i done up (master_by_record r came_in (master_heard acts taken plain is)) = ap (sent_on l) is.told ∙ acts_apart acts.1 (master_view m)
  master_apart c m i done up (master_by_record r came_in (master_passed status taken (waits_on did))) = ap (sent_on l) did.told
  master_apart c m i done up (master_by_record r came_in (master_passed status taken (adopts_by_it v at awaited next before did is))) = adopted_apart c next before status.id done did.told did.ascends is
  master_apart c m i done up (master_by_record r came_in (master_no_row why taken is)) = nothing_apart m done is
  master_apart c m i done up (master_by_command e came_in (master_ordered acts taken is)) = ap (sent_on l) is.told ∙ acts_apart acts.1 (master_view m)
  master_apart c m i done up (master_by_command e came_in (master_refused why refused is)) = nothing_apart m done is
  master_apart c m i done up (master_by_nothing is) = nothing_apart m done is

module _ (l : LinkId) (none : IsNoLink l) where
  -- ---- an event

  from_bare : (xs : List Send) → sent_on l (records_sent xs) ≡ [] → sent_on l (filter is_idle_release xs) ≡ []
  from_bare xs nothing = none_of l is_idle_release xs (no_flights (sent_on l xs) (sym (sent_bare l (on_control l none) xs) ∙ nothing))

  gone : (xs : List Send) → list_any is_idle_release (records_sent xs) ≡ false → sent_on l (filter is_idle_release xs) ≡ []
  gone xs busy = ap (sent_on l) (idle_gone xs busy)

  -- nothing ends where links alone change
  abbrev Unended : Happening → Type 0
  Unended (given_to x i) = ⊤
  Unended (refused_for why) = ⊤
  Unended (on_links effects) = list_any is_end effects.notes ≡ false

  copy_unended : (k : LinkId) (o : Option Flight) → Unended (copy_of k o)
  copy_unended k None = tt
  copy_unended k (Some f) = refl

  loss_unended : (o : Option Flight) → Unended (loss_of o)
  loss_unended None = tt
  loss_unended (Some f) = refl

  step_unended : (w : World) (k : LinkId) (i : ℕ) (o : Option Flight) → Unended (step_of w k i o)
  step_unended w k i None = tt
  step_unended w k i (Some f) =
      either Unended (is_ordered k.class && nat_lt 0 i) (refused_for refusal.NotFirst) (if is_aged_for (node_at w k.to) (weight f) then refused_for refusal.Aged else given_to k.to (Come k f))
      tt (either Unended (is_aged_for (node_at w k.to) (weight f)) (refused_for refusal.Aged) (given_to k.to (Come k f)) tt tt)

  carried_silent : (c : Choices) (w : World) (what : Happening) → Unended what → AreOrdered w → IsSilent l (carried_on c w what).1
  carried_silent c w (given_to T i) un up = let done = came (terminal_step c w.terminal i) in none_idle (gone done.1.sends (terminal_idle w.terminal i done (terminal_stepped c w.terminal i up.terminal)))
  carried_silent c w (given_to M i) un up = let done = came (master_step c w.master i) in none_idle (from_bare done.1.sends (master_apart l (apart l none) c w.master i done up.master (master_stepped c w.master i up.master)))
  carried_silent c w (given_to A i) un up = let done = came (second_step c w.a i) in none_idle (gone done.1.sends (second_idle w.a i done (second_stepped c w.a i up.a)))
  carried_silent c w (given_to B i) un up = let done = came (second_step c w.b i) in none_idle (gone done.1.sends (second_idle w.b i done (second_stepped c w.b i up.b)))
  carried_silent c w (refused_for why) un up = ends_none refl
  carried_silent c w (on_links effects) un up = ends_none un

  event_unended : (w : World) (e : Event) → Unended (happening w e)
  event_unended w (event.Bearer id n first shape threshold policy) = tt
  event_unended w (event.Reshape id shape) = tt
  event_unended w (event.Remove id) = tt
  event_unended w (event.Add node) = tt
  event_unended w event.Change = tt
  event_unended w event.Release = tt
  event_unended w event.RekeySecond = tt
  event_unended w (event.RekeyMaster root) = tt
  event_unended w (event.Recover id) = tt
  event_unended w (event.Report node id) = tt
  event_unended w (event.Deny node on) = tt
  event_unended w (event.Ask node what) = tt
  event_unended w event.ScgFail = tt
  event_unended w (event.Submit id d payload) = tt
  event_unended w (event.Step k i) = step_unended w k i (slice_get (flights_on k w.links) i)
  event_unended w (event.Lose k i) = either Unended (is_tunnel k.class) (loss_of (slice_get (flights_on k w.links) i)) (refused_for refusal.NotTunnel) (loss_unended (slice_get (flights_on k w.links) i)) tt
  event_unended w (event.Again k i) = either Unended (is_tunnel k.class) (copy_of k (slice_get (flights_on k w.links) i)) (refused_for refusal.NotTunnel) (copy_unended k (slice_get (flights_on k w.links) i)) tt

  -- what holds nothing goes on so
  pub still_none : (c : Choices) (w : World) (e : Event) → length w.links ≡ 64 → AreOrdered w → flights_on l w.links ≡ [] → flights_on l (world_step c w e).0.links ≡ []
  still_none c w e long up nothing =
      let o = (carried_on c w (happening w e)).1 in
      let place = place_taken e o.answer in
      flights_next c w e l long
      ∙ ap (λ fs. without_taken l place fs ++ put_on l (lines_of o)) nothing
      ∙ ap (λ fs. fs ++ put_on l (lines_of o)) (without_none place)
      ∙ outcome_nowhere l none o (carried_silent c w (happening w e) (event_unended w e) up)
    where
      without_none : (place : Option (LinkId × ℕ)) → without_taken l place [] ≡ []
      without_none None = refl
      without_none (Some p) = either (λ (fs : List Flight). fs ≡ []) (is_same_link l p.0) (remove [] p.1) [] (nothing_left p.1) refl

-- between no two of them anything stands
abbrev pub AreSilent : World → Type 0
AreSilent w = (l : LinkId) → IsNoLink l → flights_on l w.links ≡ []

pub event_silent : (c : Choices) (w : World) (e : Event) → length w.links ≡ 64 → AreOrdered w → AreSilent w → AreSilent (world_step c w e).0
event_silent c w e long up silent l none = still_none l none c w e long up (silent l none)
