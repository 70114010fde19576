-- What a secondary node does with a record and with a command, as the control plane sees it.
use Rattle.std.proofs.Common.{ℕ, ◌≡◌, Bool, true, false, List, [], ◌∷◌, Option, Some, None, refl, sym, ap, ◌∙◌}
use Rattle.std.specs.Prelude.{Err, Ok, Result, not, option_and_then, is_some, ◌&&◌, ◌||◌}
use Rattle.std.specs.List.{list_any}
use Rattle.std.specs.Option.{option_map}
use Rattle.dc_base.specs.Nodes.{is_same_node}
use Rattle.dc_base.specs.declared.events.Event.{Event}
use Rattle.dc_base.specs.declared.flights.Flight.TheVariants as flight
use Rattle.dc_base.specs.declared.nodes.Class.TheVariants.{Ctl}
use Rattle.dc_base.specs.declared.numbers.SnLen.{SnLen}
use Rattle.dc_base.specs.declared.records.Item.{Item}
use Rattle.dc_base.specs.declared.records.Item.TheVariants as item
use Rattle.dc_base.specs.declared.records.Plan.{Plan}
use Rattle.dc_base.specs.declared.records.Rec.{Rec}
use Rattle.dc_base.specs.declared.records.StatusTransfer.{StatusTransfer}
use Rattle.node_rules.specs.Acts.{ProcFault, refused, unexpected}
use Rattle.node_rules.specs.Anchor.{AnchorState, active_anchor, waiting_anchor}
use Rattle.node_rules.specs.Choices.{Choices}
use Rattle.node_rules.specs.Feed.{Fed}
use Rattle.node_rules.specs.Held.{held}
use Rattle.node_rules.specs.SecondRecords.{second_take}
use Rattle.node_rules.specs.SecondState.{SecondActs, second_command}
use Rattle.node_rules.specs.SecondStep.{is_fit, is_fit_plan, is_fit_recovery, is_like, is_unfit, key_in, plan_in, recovery_in, second_commanded, second_record, second_record_taken, second_takes}
use Rattle.node_rules.specs.Secondary.{SecondNode, active_in, name_of}
use Rattle.run_control.specs.Orders.{Ascends}
use Rattle.run_control.specs.SecondControl.{SecondHeard, SecondOrdered, fits, fits_plan, fits_recovery, heard, holds_like, holds_like_at, holds_there, is_holding, misses, no_row, not_ordered, ordered, unfit}
use Rattle.run_control.specs.Traffic.{came}
use Rattle.run_control.specs.Views.{Bearer, bearer_of, second_view, view_of, waits_with}
use Rattle.run_control.proofs.SecondActs.{does_projects}
use Rattle.run_control.proofs.Seconds.{fed_view}

-- ---- which records fit

waits_unlike : (n : SnLen) (first : ℕ) (b : Bearer) (t : Option StatusTransfer) → false ≡ holds_like_at (waits_with t) n first b
waits_unlike n first b None = refl
waits_unlike n first b (Some st) = refl

anchor_like : (n : SnLen) (first : ℕ) (a : AnchorState) → is_like n first (active_in a) ≡ holds_like n first (Some (view_of a))
anchor_like n first (waiting_anchor w) = waits_unlike n first (bearer_of w.setup) w.transfer
anchor_like n first (active_anchor a) = refl

like_is : (n : SnLen) (first : ℕ) (o : Option Fed) → is_like n first (option_and_then (λ (f : Fed). active_in f.anchor) o) ≡ holds_like n first (option_map fed_view o)
like_is n first None = refl
like_is n first (Some x) = anchor_like n first x.anchor

misses_is : (s : SecondNode) (i : Item) → is_unfit s i ≡ misses (name_of s) (second_view s) i
misses_is s (item.Set id n first shape threshold policy key None) = refl
misses_is s (item.Set id n first shape threshold policy key (Some old)) = ap (λ b. is_same_node old (name_of s) && not b) (like_is n first (held id s.anchors))
misses_is s (item.Unset id) = refl

pub any_is : {X : Type 0} (f g : X → Bool) → ((x : X) → f x ≡ g x) → (xs : List X) → list_any f xs ≡ list_any g xs
any_is f g same [] = refl
any_is f g same (x ∷ xs) = ap (λ b. b || list_any f xs) (same x) ∙ ap (λ b. g x || b) (any_is f g same xs)

plan_is : (s : SecondNode) (p : Option Plan) → is_fit_plan s p ≡ fits_plan (name_of s) (second_view s) p
plan_is s None = refl
plan_is s (Some p) = ap not (any_is (is_unfit s) (misses (name_of s) (second_view s)) (misses_is s) p.items)

waits_not : (t : Option StatusTransfer) → false ≡ is_holding (waits_with t)
waits_not None = refl
waits_not (Some st) = refl

anchor_holds : (a : AnchorState) → is_some (active_in a) ≡ is_holding (view_of a).stage
anchor_holds (waiting_anchor w) = waits_not w.transfer
anchor_holds (active_anchor a) = refl

holds_is : (o : Option Fed) → is_some (option_and_then (λ (f : Fed). active_in f.anchor) o) ≡ holds_there (option_map fed_view o)
holds_is None = refl
holds_is (Some x) = anchor_holds x.anchor

recovery_is : (s : SecondNode) (o : Option ℕ) → is_fit_recovery s o ≡ fits_recovery (second_view s) o
recovery_is s None = refl
recovery_is s (Some id) = holds_is (held id s.anchors)

pub fits_is : (s : SecondNode) (r : Rec) → is_fit s r ≡ fits (name_of s) (second_view s) r
fits_is s r =
    ap (λ b. b && is_fit_recovery s (recovery_in r)) (plan_is s (plan_in r))
    ∙ ap (λ b. fits_plan (name_of s) (second_view s) (plan_in r) && b) (recovery_is s (recovery_in r))

-- ---- a record

taken_by : (c : Choices) (s : SecondNode) (r : Rec) (t : Result SecondActs ProcFault) → Ascends s.anchors → fits (name_of s) (second_view s) r ≡ true → second_take s.proc r ≡ t
    → SecondHeard s r (second_record_taken c (key_in r) s t)
taken_by c s r (Ok acts) up fit is = heard acts fit is (does_projects c (key_in r) s acts up)
taken_by c s r (Err why) up fit is = no_row why is refl

record_by : (c : Choices) (s : SecondNode) (r : Rec) (fit : Bool) → Ascends s.anchors → fits (name_of s) (second_view s) r ≡ fit → SecondHeard s r (second_record c s r fit)
record_by c s r true up fit = taken_by c s r (second_take s.proc r) up fit refl
record_by c s r false up fit = unfit fit refl

-- a record comes to a secondary node
pub second_hears : (c : Choices) (s : SecondNode) (r : Rec) → Ascends s.anchors → SecondHeard s r (second_takes c s (flight.Ctl r) Ctl)
second_hears c s r up = record_by c s r (is_fit s r) up (sym (fits_is s r))

-- ---- a command

ordered_by : (c : Choices) (s : SecondNode) (e : Event) (t : Result SecondActs ProcFault) → Ascends s.anchors → second_command s.proc e ≡ t → SecondOrdered s e (came (second_commanded c s t))
ordered_by c s e (Ok acts) up is = ordered acts is (does_projects c [] s acts up)
ordered_by c s e (Err (refused why)) up is = not_ordered (refused why) is refl
ordered_by c s e (Err (unexpected k)) up is = not_ordered (unexpected k) is refl

pub second_orders : (c : Choices) (s : SecondNode) (e : Event) → Ascends s.anchors → SecondOrdered s e (came (second_commanded c s (second_command s.proc e)))
second_orders c s e up = ordered_by c s e (second_command s.proc e) up refl
