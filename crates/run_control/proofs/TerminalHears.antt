-- What the terminal does with a record, as the control plane sees it.
use Rattle.std.proofs.Common.{ℕ, ◌≡◌, ◌==◌, Bool, true, false, List, [], ◌∷◌, Option, Some, None, refl, ap, subst, ◌∙◌, arith}
use Rattle.std.specs.Prelude.{if◌then◌else◌, is_none, is_some, not}
use Rattle.std.specs.List.{list_any}
use Rattle.std.specs.Option.{option_map}
use Rattle.dc_base.specs.Records.{item_id}
use Rattle.dc_base.specs.declared.events.Note.TheVariants as note
use Rattle.dc_base.specs.declared.flights.Flight.TheVariants as flight
use Rattle.dc_base.specs.declared.nodes.Class.TheVariants.{Ctl}
use Rattle.dc_base.specs.declared.nodes.Node.{Node}
use Rattle.dc_base.specs.declared.nodes.Node.TheVariants.{M, T}
use Rattle.dc_base.specs.declared.numbers.SnLen.{SnLen}
use Rattle.dc_base.specs.declared.records.Item.{Item}
use Rattle.dc_base.specs.declared.records.Item.TheVariants as item
use Rattle.dc_base.specs.declared.records.Plan.{Plan}
use Rattle.dc_base.specs.declared.records.Rec.{Rec}
use Rattle.dc_base.specs.declared.records.Rec.TheVariants as rec
use Rattle.key_chain.specs.KeyNames.{octets_of_side}
use Rattle.node_rules.specs.Choices.{Choices, Send}
use Rattle.node_rules.specs.Effects.{in_turn, noted, quiet}
use Rattle.node_rules.specs.Entity.{renewed}
use Rattle.node_rules.specs.Held.{held}
use Rattle.node_rules.specs.Sending.{send_kept}
use Rattle.node_rules.specs.Setup.{Setup, new_legs}
use Rattle.node_rules.specs.Terminal.{TerminalNode, half_set, is_bearer_like, is_takable, item_taken, plan_taken, recovered_half, terminal_takes, with_half}
use Rattle.node_rules.specs.TerminalHalf.{TerminalHalf, terminal_new, terminal_recover, terminal_renew}
use Rattle.node_rules.specs.declared.inputs.Effects.{Effects}
use Rattle.run_control.specs.Orders.{Ascends}
use Rattle.run_control.specs.SecondControl.{record_to, set_by}
use Rattle.run_control.specs.TerminalControl.{Bearers, TerminalDid, bearers_after, bearers_with, heard_bearers, is_like_bearer, recovery_answer, sec_after, takes_item, takes_plan, terminal_answers}
use Rattle.run_control.specs.Views.{Bearer, bearer_of, controls, terminal_view}
use Rattle.run_control.proofs.Ascending.{ascends_with}
use Rattle.run_control.proofs.Holding.{seen_again}
use Rattle.run_control.proofs.SecondHears.{any_is}
use Rattle.run_control.proofs.SecondItems.{ascends_put, seen_put}
use Rattle.run_control.proofs.Sequences.{no_records, records_both}
use Rattle.run_control.proofs.Terminals.{half_view, sends_none}

-- ---- which plans can be taken

like_is : (n : SnLen) (first : ℕ) (o : Option TerminalHalf) → is_bearer_like n first o ≡ is_like_bearer n first (option_map half_view o)
like_is n first None = refl
like_is n first (Some h) = refl

none_is : (o : Option TerminalHalf) → is_none o ≡ is_none (option_map half_view o)
none_is None = refl
none_is (Some h) = refl

some_is : (o : Option TerminalHalf) → is_some o ≡ is_some (option_map half_view o)
some_is None = refl
some_is (Some h) = refl

takes_is : (t : TerminalNode) (i : Item) → is_takable t i ≡ takes_item (terminal_view t) i
takes_is t (item.Set id n first shape threshold policy key None) = none_is (held id t.halves)
takes_is t (item.Set id n first shape threshold policy key (Some old)) = like_is n first (held id t.halves)
takes_is t (item.Unset id) = some_is (held id t.halves)

plan_is : (t : TerminalNode) (p : Plan) → not (list_any (λ i. not (is_takable t i)) p.items) ≡ takes_plan (terminal_view t) p
plan_is t p = ap not (any_is (λ i. not (is_takable t i)) (λ i. not (takes_item (terminal_view t) i)) (λ i. ap not (takes_is t i)) p.items)

-- ---- an item

put_did : (t : TerminalNode) (id : ℕ) (h : Option TerminalHalf) (b : Option Bearer) (x : Effects) → controls x.sends ≡ [] → Ascends t.halves → option_map half_view h ≡ b
    → TerminalDid t t.sec (λ k. if id == k then b else terminal_view t k) [] (with_half t id h, x)
put_did t id h b x none up is = record {
  joins = refl;
  after = λ k. seen_put half_view id k h t.halves up ∙ ap (λ z. if id == k then z else terminal_view t k) is;
  told = no_records x.sends none;
  ascends = ascends_put id h t.halves up;
}

set_did : (c : Choices) (t : TerminalNode) (id : ℕ) (s : Setup) (o : Option TerminalHalf) → Ascends t.halves
    → TerminalDid t t.sec (λ k. if id == k then Some (bearer_of s) else terminal_view t k) [] (half_set c t id s o)
set_did c t id s None up = put_did t id (Some (terminal_new s)) (Some (bearer_of s)) quiet refl up refl
set_did c t id s (Some h) up = put_did t id (Some (terminal_renew c h s).0) (Some (bearer_of s)) _ (sends_none (send_kept c (renewed h s))) up refl

item_did : (c : Choices) (root : List ℕ) (p : Plan) (t : TerminalNode) (i : Item) → Ascends t.halves → TerminalDid t t.sec (bearers_with p.g i (terminal_view t)) [] (item_taken c root p t i)
item_did c root p t (item.Set id n first shape threshold policy key old) up =
    let s : Setup = record {
      node = T;
      sec = p.sec;
      g = p.g;
      id = id;
      n = n;
      first = first;
      alg = t.alg;
      key = octets_of_side root key.side;
      legs = new_legs shape threshold policy;
    } in
    let is = set_did c t id s (held id t.halves) up in
    record { joins = is.joins; after = is.after; told = is.told; ascends = is.ascends }
item_did c root p t (item.Unset id) up = put_did t id None None (noted (note.Unset id)) refl up refl

-- ---- a plan

after_alike : (g : ℕ) (items : List Item) (v w : Bearers) → ((k : ℕ) → v k ≡ w k) → (k : ℕ) → bearers_after g items v k ≡ bearers_after g items w k
after_alike g [] v w same k = same k
after_alike g (i ∷ items) v w same k = after_alike g items (bearers_with g i v) (bearers_with g i w) (λ j. ap (λ z. if item_id i == j then set_by g i else z) (same j)) k

items_did : (c : Choices) (root : List ℕ) (p : Plan) (t : TerminalNode) (items : List Item) → Ascends t.halves
    → TerminalDid t t.sec (bearers_after p.g items (terminal_view t)) [] (in_turn (item_taken c root p) t items)
items_did c root p t [] up = record { joins = refl; after = λ k. refl; told = refl; ascends = up }
items_did c root p t (i ∷ items) up =
    let here = item_taken c root p t i in
    let one = item_did c root p t i up in
    let more = items_did c root p here.0 items one.ascends in
    record {
      joins = more.joins ∙ one.joins;
      after = λ k. more.after k ∙ after_alike p.g items (terminal_view here.0) (bearers_with p.g i (terminal_view t)) one.after k;
      told = records_both here.1.sends (in_turn (item_taken c root p) here.0 items).1.sends one.told more.told;
      ascends = more.ascends;
    }

plan_did : (c : Choices) (root : List ℕ) (p : Plan) (t : TerminalNode) (takes : Bool) → Ascends t.halves
    → TerminalDid t (if takes then p.sec else t.sec) (if takes then bearers_after p.g p.items (terminal_view t) else terminal_view t) (if takes then record_to T M (rec.Rcomp p.g) ∷ [] else []) (plan_taken c root p t takes)
plan_did c root p t true up =
    let t' : TerminalNode = record t { sec = p.sec } in
    let is = items_did c root p t' p.items up in
    record {
      joins = is.joins;
      after = is.after;
      told = ap (λ (zs : List Send). record_to T M (rec.Rcomp p.g) ∷ zs) is.told;
      ascends = is.ascends;
    }
plan_did c root p t false up = record { joins = refl; after = λ k. refl; told = refl; ascends = up }

-- ---- a record

recovered_did : (c : Choices) (t : TerminalNode) (id : ℕ) (o : Option TerminalHalf) → Ascends t.halves → held id t.halves ≡ o
    → TerminalDid t t.sec (terminal_view t) (recovery_answer id (option_map half_view o)) (recovered_half c t id o)
recovered_did c t id None up at = record { joins = refl; after = λ k. refl; told = refl; ascends = up }
recovered_did c t id (Some h) up at = record {
  joins = refl;
  after = λ k. seen_again half_view id k (terminal_recover c h).0 h t.halves at refl;
  told = ap (λ (zs : List Send). record_to T M (rec.Recovd id) ∷ zs) (no_records (terminal_recover c h).1 (sends_none (send_kept c h)));
  ascends = ascends_with 0 id (terminal_recover c h).0 t.halves (omega arith) up;
}

nothing : (t : TerminalNode) → Ascends t.halves → TerminalDid t t.sec (terminal_view t) [] (t, quiet)
nothing t up = record { joins = refl; after = λ k. refl; told = refl; ascends = up }

-- a record comes to the terminal
pub terminal_hears : (c : Choices) (t : TerminalNode) (from : Node) (r : Rec) → Ascends t.halves
    → TerminalDid t (sec_after (terminal_view t) t.sec r) (heard_bearers (terminal_view t) r) (terminal_answers (terminal_view t) r) (terminal_takes c t from (flight.Ctl r) Ctl)
terminal_hears c t from (rec.Reconf p key) up =
    let takes = not (list_any (λ i. not (is_takable t i)) p.items) in
    subst (λ b. TerminalDid t (if b then p.sec else t.sec) (if b then bearers_after p.g p.items (terminal_view t) else terminal_view t) (if b then record_to T M (rec.Rcomp p.g) ∷ [] else []) (plan_taken c key p t takes))
    (plan_is t p) (plan_did c key p t takes up)
terminal_hears c t from (rec.Recov id) up = recovered_did c t id (held id t.halves) up refl
terminal_hears c t from (rec.Rcomp g) up = nothing t up
terminal_hears c t from (rec.Scgf failed) up = nothing t up
terminal_hears c t from (rec.Recovd id) up = nothing t up
terminal_hears c t from (rec.Addreq plan key) up = nothing t up
terminal_hears c t from (rec.Addack g) up = nothing t up
terminal_hears c t from (rec.Addrej g) up = nothing t up
terminal_hears c t from (rec.Modreq plan key) up = nothing t up
terminal_hears c t from (rec.Modack g) up = nothing t up
terminal_hears c t from (rec.Modrej g) up = nothing t up
terminal_hears c t from (rec.Recfg g) up = nothing t up
terminal_hears c t from (rec.Relreq plan) up = nothing t up
terminal_hears c t from (rec.Relack g) up = nothing t up
terminal_hears c t from (rec.Relrej g) up = nothing t up
terminal_hears c t from (rec.Uecr g) up = nothing t up
terminal_hears c t from (rec.Snst status) up = nothing t up
terminal_hears c t from (rec.Moved g id) up = nothing t up
terminal_hears c t from (rec.Scgn id g) up = nothing t up
terminal_hears c t from rec.Modrqd up = nothing t up
terminal_hears c t from (rec.Modcnf g) up = nothing t up
terminal_hears c t from (rec.Modref word) up = nothing t up
terminal_hears c t from rec.Chgrqd up = nothing t up
terminal_hears c t from (rec.Chgcnf plan) up = nothing t up
terminal_hears c t from (rec.Chgref word) up = nothing t up
terminal_hears c t from rec.Relrqd up = nothing t up
terminal_hears c t from (rec.Relcnf plan) up = nothing t up
