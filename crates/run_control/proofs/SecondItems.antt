-- How a secondary node carries a plan out, item by item, as the control plane sees it.
use Rattle.std.proofs.Common.{ℕ, ◌≡◌, ◌+◌, ◌==◌, Bool, true, false, List, [], ◌∷◌, Option, Some, None, refl, sym, ap, subst, ◌∙◌, arith, length}
use Rattle.std.specs.Prelude.{if◌then◌else◌}
use Rattle.std.specs.Option.{option_map}
use Rattle.dc_base.specs.Links.{link}
use Rattle.dc_base.specs.Records.{item_id}
use Rattle.dc_base.specs.Tunnel.{teid}
use Rattle.dc_base.specs.declared.flights.Flight.TheVariants as flight
use Rattle.dc_base.specs.declared.nodes.Alg.{Alg}
use Rattle.dc_base.specs.declared.nodes.Class.TheVariants.{Ctl}
use Rattle.dc_base.specs.declared.nodes.Node.{Node}
use Rattle.dc_base.specs.declared.nodes.Node.TheVariants.{M}
use Rattle.dc_base.specs.declared.records.Item.{Item}
use Rattle.dc_base.specs.declared.records.Item.TheVariants as item
use Rattle.dc_base.specs.declared.records.Plan.{Plan}
use Rattle.dc_base.specs.declared.records.Rec.TheVariants as rec
use Rattle.dc_base.specs.declared.records.StatusTransfer.{StatusTransfer}
use Rattle.forward.specs.Load.{Sdu}
use Rattle.node_rules.specs.Anchor.{Active, AnchorState, active_anchor, fresh, renew, waiting, waiting_anchor}
use Rattle.node_rules.specs.Choices.{Send}
use Rattle.node_rules.specs.Effects.{in_turn, quiet}
use Rattle.node_rules.specs.Feed.{Fed, has_ended}
use Rattle.node_rules.specs.Freezing.{Tunnel, closing, down_sdus, down_sends, freeze, new_tunnel, pieces, up_sdus, whole_tunnel}
use Rattle.node_rules.specs.Held.{held, holding}
use Rattle.node_rules.specs.Parts.{host_at, part_at}
use Rattle.node_rules.specs.SecondPlan.{beginning, frozen_active, frozen_there, renewed_active, renewed_there, second_item, second_part, with_fed}
use Rattle.node_rules.specs.Secondary.{SecondNode, active_in, name_of}
use Rattle.node_rules.specs.Setup.{Setup, setup_of}
use Rattle.node_rules.specs.declared.inputs.Effects.{Effects}
use Rattle.node_rules.specs.declared.parts.Part.{Part}
use Rattle.node_rules.specs.declared.parts.Part.TheVariants.{Awaits as awaits, Drops as drops, Establishes as establishes, HandsOver as hands_over, HasNoAnchor as has_no_anchor, Renews as renews}
use Rattle.run_control.specs.Orders.{Ascends}
use Rattle.run_control.specs.SecondControl.{SecondDid, Views, at_id, carried_by, given, given_at, made, part_sends, part_view, renewed, renewed_at, sent_by_items, set_by, status_of, tells, tells_at, with_item}
use Rattle.run_control.specs.Views.{Bearer, View, bearer_of, controls, holds, lacks_status, second_view, view_of, waits_with}
use Rattle.run_control.proofs.Ascending.{ascends_with, ascends_without, seen_without}
use Rattle.run_control.proofs.Holding.{seen_with}
use Rattle.run_control.proofs.Seconds.{fed_view}
use Rattle.run_control.proofs.Sent.{none_in_both}
use Rattle.run_control.proofs.Sequences.{at_same, carried_alike, items_alike, no_records, records_both}

-- ---- what is held

-- something, or nothing, is held from now on
pub seen_put : {X Y : Type 0} (f : X → Y) (id k : ℕ) (o : Option X) (xs : List (ℕ × X)) → Ascends xs
    → option_map f (held k (holding id o xs)) ≡ (if id == k then option_map f o else option_map f (held k xs))
seen_put f id k None xs up = seen_without f id k xs up
seen_put f id k (Some x) xs up = seen_with f id k x xs

pub ascends_put : {X : Type 0} (id : ℕ) (o : Option X) (xs : List (ℕ × X)) → Ascends xs → Ascends (holding id o xs)
ascends_put id None xs up = ascends_without 0 id xs up
ascends_put id (Some x) xs up = ascends_with 0 id x xs (omega arith) up

-- nothing is done, where that is what is to be done
pub unchanged : (s : SecondNode) (id : ℕ) (v : Option View) → Ascends s.anchors → second_view s id ≡ v → SecondDid s (at_id id v (second_view s)) [] (s, quiet)
unchanged s id v up is = record { proc = refl; after = λ k. at_same id k (second_view s) ∙ ap (λ z. at_id id z (second_view s) k) is; told = refl; ascends = up }

-- ---- an anchor begins

begun_view : (me : Node) (p : Plan) (alg : Alg) (key : List ℕ) (i : Item) → option_map fed_view (option_map (λ x. beginning p.g (fresh x)) (setup_of me p alg key i)) ≡ made holds (set_by p.g i)
begun_view me p alg key (item.Set id n first shape threshold policy name old) = refl
begun_view me p alg key (item.Unset id) = refl

awaited_view : (me : Node) (p : Plan) (alg : Alg) (key : List ℕ) (i : Item) → option_map fed_view (option_map (λ x. beginning p.g (waiting x)) (setup_of me p alg key i)) ≡ made lacks_status (set_by p.g i)
awaited_view me p alg key (item.Set id n first shape threshold policy name old) = refl
awaited_view me p alg key (item.Unset id) = refl

pub set_bearer : (me : Node) (p : Plan) (alg : Alg) (key : List ℕ) (i : Item) → option_map bearer_of (setup_of me p alg key i) ≡ set_by p.g i
set_bearer me p alg key (item.Set id n first shape threshold policy name old) = refl
set_bearer me p alg key (item.Unset id) = refl

put_did : (s : SecondNode) (id : ℕ) (x : Option Fed) (v : Option View) (notes : Effects) → controls notes.sends ≡ [] → Ascends s.anchors → option_map fed_view x ≡ v
    → SecondDid s (at_id id v (second_view s)) [] (with_fed s id x, notes)
put_did s id x v notes none up is = record {
  proc = refl;
  after = λ k. seen_put fed_view id k x s.anchors up ∙ ap (λ z. if id == k then z else second_view s k) is;
  told = no_records notes.sends none;
  ascends = ascends_put id x s.anchors up;
}

-- ---- it stays

pub waits_renewed : (b : Bearer) (v : View) (t : Option StatusTransfer) → renewed_at (waits_with t) b v ≡ v
waits_renewed b v None = refl
waits_renewed b v (Some st) = refl

renewed_fed : (s : SecondNode) (id g : ℕ) (st : Setup) (since : ℕ) (ended : Option ℕ) (a : AnchorState) → Ascends s.anchors → held id s.anchors ≡ Some (record { since = since; ended = ended; anchor = a })
    → SecondDid s (at_id id (renewed (Some (bearer_of st)) (second_view s id)) (second_view s)) [] (renewed_active s id g st (record { since = since; ended = ended; anchor = a }) (active_in a))
renewed_fed s id g st since ended (waiting_anchor w) up at =
    let seen : second_view s id ≡ Some (view_of (waiting_anchor w)) = ap (λ o. option_map fed_view o) at in
    unchanged s id (renewed (Some (bearer_of st)) (second_view s id)) up
    (seen ∙ ap (λ z. Some z) (sym (waits_renewed (bearer_of st) (view_of (waiting_anchor w)) w.transfer)) ∙ sym (ap (renewed (Some (bearer_of st))) seen))
renewed_fed s id g st since ended (active_anchor a) up at =
    let seen : second_view s id ≡ Some (view_of (active_anchor a)) = ap (λ o. option_map fed_view o) at in
    put_did s id (Some (record { since = since; ended = ended; anchor = active_anchor (renew a st) })) (renewed (Some (bearer_of st)) (second_view s id)) _ refl up
    (sym (ap (renewed (Some (bearer_of st))) seen))

renewed_did : (s : SecondNode) (id g : ℕ) (setup : Option Setup) (o : Option Fed) → Ascends s.anchors → held id s.anchors ≡ o
    → SecondDid s (at_id id (renewed (option_map bearer_of setup) (second_view s id)) (second_view s)) [] (renewed_there s id g setup o)
renewed_did s id g None o up at = unchanged s id (second_view s id) up refl
renewed_did s id g (Some st) None up at =
    let seen : second_view s id ≡ None = ap (λ o. option_map fed_view o) at in
    unchanged s id (renewed (Some (bearer_of st)) (second_view s id)) up (seen ∙ sym (ap (renewed (Some (bearer_of st))) seen))
renewed_did s id g (Some st) (Some x) up at = renewed_fed s id g st x.since x.ended x.anchor up at

-- ---- it is given up

pieces_none : (t : Tunnel) (key number : ℕ) (sdus : List Sdu) → controls (pieces t key number sdus) ≡ []
pieces_none t key number [] = refl
pieces_none t key number (x ∷ xs) = pieces_none t key (number + 1) xs

whole_none : (t : Tunnel) (key : ℕ) (sdus : List Sdu) → controls (whole_tunnel t key sdus) ≡ []
whole_none t key sdus = none_in_both (pieces t key 0 sdus) (closing t key (length sdus)) (pieces_none t key 0 sdus) refl

down_none : (t : Tunnel) (last : Bool) (sdus : List Sdu) → controls (down_sends t last sdus) ≡ []
down_none t true sdus = whole_none t (teid t.g t.id 1) sdus
down_none t false sdus = pieces_none t (teid t.g t.id 1) 0 sdus

pub freeze_none : (a : Active) (to : Node) (g : ℕ) (last : Bool) → controls (freeze a to g last).sends ≡ []
freeze_none a to g last =
    let t = new_tunnel a.entity to g in
    none_in_both (down_sends t last (down_sdus a.entity)) (whole_tunnel t (teid g a.entity.setup.id 2) (up_sdus a.entity)) (down_none t last (down_sdus a.entity)) (whole_none t (teid g a.entity.setup.id 2) (up_sdus a.entity))

pub waits_given : (v : View) (t : Option StatusTransfer) → given_at (waits_with t) v ≡ Some v
waits_given v None = refl
waits_given v (Some st) = refl

waits_tells : (me : Node) (g : ℕ) (v : View) (t : Option StatusTransfer) → tells_at (waits_with t) (link me M Ctl) g v ≡ []
waits_tells me g v None = refl
waits_tells me g v (Some st) = refl

-- other sends
pub with_told : (s : SecondNode) (views : Views) (us vs : List Send) (done : SecondNode × Effects) → us ≡ vs → SecondDid s views us done → SecondDid s views vs done
with_told s views us vs done same is = record { proc = is.proc; after = is.after; told = is.told ∙ same; ascends = is.ascends }

frozen_fed : (s : SecondNode) (id g : ℕ) (to : Node) (since : ℕ) (ended : Option ℕ) (a : AnchorState) → Ascends s.anchors → held id s.anchors ≡ Some (record { since = since; ended = ended; anchor = a })
    → SecondDid s (at_id id (given (second_view s id)) (second_view s)) (tells (link (name_of s) M Ctl) g (second_view s id)) (frozen_active s id g to (record { since = since; ended = ended; anchor = a }) (active_in a))
frozen_fed s id g to since ended (waiting_anchor w) up at =
    let v = view_of (waiting_anchor w) in
    let seen : second_view s id ≡ Some v = ap (λ o. option_map fed_view o) at in
    with_told s (at_id id (given (second_view s id)) (second_view s)) [] (tells (link (name_of s) M Ctl) g (second_view s id)) (s, quiet) (sym (ap (tells (link (name_of s) M Ctl) g) seen ∙ waits_tells (name_of s) g v w.transfer))
    (unchanged s id (given (second_view s id)) up (seen ∙ sym (waits_given v w.transfer) ∙ sym (ap given seen)))
frozen_fed s id g to since ended (active_anchor a) up at =
    let v = view_of (active_anchor a) in
    let seen : second_view s id ≡ Some v = ap (λ o. option_map fed_view o) at in
    record {
      proc = refl;
      after = λ k. seen_put fed_view id k None s.anchors up ∙ ap (λ z. if id == k then z else second_view s k) (sym (ap given seen));
      told = ap (λ (zs : List Send). (link (name_of s) M Ctl, flight.Ctl (rec.Snst (status_of g a.entity.setup.id))) ∷ zs) (no_records (freeze a to g (has_ended ended g)).sends (freeze_none a to g (has_ended ended g)))
          ∙ sym (ap (tells (link (name_of s) M Ctl) g) seen);
      ascends = ascends_put id None s.anchors up;
    }

frozen_did : (s : SecondNode) (id g : ℕ) (to : Node) (o : Option Fed) → Ascends s.anchors → held id s.anchors ≡ o
    → SecondDid s (at_id id (given (second_view s id)) (second_view s)) (tells (link (name_of s) M Ctl) g (second_view s id)) (frozen_there s id g to o)
frozen_did s id g to None up at =
    let seen : second_view s id ≡ None = ap (λ o. option_map fed_view o) at in
    with_told s (at_id id (given (second_view s id)) (second_view s)) [] (tells (link (name_of s) M Ctl) g (second_view s id)) (s, quiet) (sym (ap (tells (link (name_of s) M Ctl) g) seen))
    (unchanged s id (given (second_view s id)) up (seen ∙ sym (ap given seen)))
frozen_did s id g to (Some x) up at = frozen_fed s id g to x.since x.ended x.anchor up at

-- ---- an item

part_did : (key : List ℕ) (p : Plan) (s : SecondNode) (i : Item) (part : Part) → Ascends s.anchors
    → SecondDid s (at_id (item_id i) (part_view p.g i part (second_view s (item_id i))) (second_view s)) (part_sends (name_of s) p.g part (second_view s (item_id i)))
    (second_part s p (setup_of (name_of s) p s.alg key i) (item_id i) part)
part_did key p s i establishes up =
    put_did s (item_id i) (option_map (λ x. beginning p.g (fresh x)) (setup_of (name_of s) p s.alg key i)) (made holds (set_by p.g i)) _ refl up (begun_view (name_of s) p s.alg key i)
part_did key p s i renews up =
    subst (λ b. SecondDid s (at_id (item_id i) (renewed b (second_view s (item_id i))) (second_view s)) [] (renewed_there s (item_id i) p.g (setup_of (name_of s) p s.alg key i) (held (item_id i) s.anchors)))
    (set_bearer (name_of s) p s.alg key i) (renewed_did s (item_id i) p.g (setup_of (name_of s) p s.alg key i) (held (item_id i) s.anchors) up refl)
part_did key p s i awaits up =
    put_did s (item_id i) (option_map (λ x. beginning p.g (waiting x)) (setup_of (name_of s) p s.alg key i)) (made lacks_status (set_by p.g i)) quiet refl up (awaited_view (name_of s) p s.alg key i)
part_did key p s i (hands_over to) up = frozen_did s (item_id i) p.g to (held (item_id i) s.anchors) up refl
part_did key p s i drops up = put_did s (item_id i) None None quiet refl up refl
part_did key p s i has_no_anchor up = unchanged s (item_id i) (second_view s (item_id i)) up refl

-- what the node does of its own name
pub item_did : (me : Node) (key : List ℕ) (p : Plan) (s : SecondNode) (i : Item) → name_of s ≡ me → Ascends s.anchors
    → SecondDid s (with_item me p i (second_view s)) (part_sends me p.g (part_at me p.sec i) (second_view s (item_id i))) (second_item key p s i)
item_did me key p s i named up =
    let s' : SecondNode = record s { hosts = holding (item_id i) (host_at (name_of s) p i) s.hosts } in
    let is = part_did key p s' i (part_at (name_of s) p.sec i) up in
    subst (λ x. SecondDid s (with_item x p i (second_view s)) (part_sends x p.g (part_at x p.sec i) (second_view s (item_id i))) (second_item key p s i)) named
    (record { proc = is.proc; after = is.after; told = is.told; ascends = is.ascends })

-- ---- a plan

pub items_did : (me : Node) (key : List ℕ) (p : Plan) (s : SecondNode) (items : List Item) → name_of s ≡ me → Ascends s.anchors
    → SecondDid s (carried_by me p items (second_view s)) (sent_by_items me p items (second_view s)) (in_turn (second_item key p) s items)
items_did me key p s [] named up = record { proc = refl; after = λ k. refl; told = refl; ascends = up }
items_did me key p s (i ∷ items) named up =
    let here = second_item key p s i in
    let one = item_did me key p s i named up in
    let more = items_did me key p here.0 items (ap (λ q. q.me) one.proc ∙ named) one.ascends in
    record {
      proc = more.proc ∙ one.proc;
      after = λ k. more.after k ∙ carried_alike me p items (second_view here.0) (with_item me p i (second_view s)) one.after k;
      told = records_both here.1.sends (in_turn (second_item key p) here.0 items).1.sends one.told (more.told ∙ items_alike me p items (second_view here.0) (with_item me p i (second_view s)) one.after);
      ascends = more.ascends;
    }
