-- What a secondary node notes in a step fits its active anchors, and says which are active after it.
use Rattle.std.proofs.Common.{ℕ, ◌≡◌, ◌==◌, ◌++◌, ◌∙◌, Bool, true, false, List, [], ◌∷◌, Option, Some, None, refl, sym, ap, subst, arith, inl, inr}
use Rattle.std.specs.List.{AllByRecursion}
use Rattle.std.specs.Option.{option_map}
use Rattle.std.specs.Prelude.{Err, Ok, Result, if◌then◌else◌, is_none, is_some, nat_lt, not, ⊤, ◌&&◌, ◌⊎◌}
use Rattle.dc_base.specs.Records.{item_id}
use Rattle.dc_base.specs.declared.answers.Refusal.{Refusal}
use Rattle.dc_base.specs.declared.answers.Word.{Word}
use Rattle.dc_base.specs.declared.events.Event.{Event}
use Rattle.dc_base.specs.declared.events.Event.TheVariants as event
use Rattle.dc_base.specs.declared.events.Note.TheVariants as note
use Rattle.dc_base.specs.declared.flights.Flight.{Flight}
use Rattle.dc_base.specs.declared.flights.Flight.TheVariants as flight
use Rattle.dc_base.specs.declared.nodes.Cell.TheVariants as cell
use Rattle.dc_base.specs.declared.nodes.Class.{Class}
use Rattle.dc_base.specs.declared.nodes.Class.TheVariants.{Air, Ctl, Feed, Tun}
use Rattle.dc_base.specs.declared.nodes.Dir.TheVariants.{Ul}
use Rattle.dc_base.specs.declared.nodes.Node.{Node}
use Rattle.dc_base.specs.declared.nodes.Want.TheVariants as want
use Rattle.dc_base.specs.declared.records.Item.{Item}
use Rattle.dc_base.specs.declared.records.Item.TheVariants as item
use Rattle.dc_base.specs.declared.records.Plan.{Plan}
use Rattle.dc_base.specs.declared.records.Rec.{Rec}
use Rattle.dc_base.specs.declared.records.Rec.TheVariants as rec
use Rattle.dc_base.specs.declared.records.RecKind.{RecKind}
use Rattle.dc_base.specs.declared.records.RecKind.TheVariants as kind
use Rattle.dc_base.specs.declared.records.StatusTransfer.{StatusTransfer}
use Rattle.node_rules.specs.Acts.{ProcFault, first_refusal, refused, unexpected}
use Rattle.node_rules.specs.Adopting.{status_in}
use Rattle.node_rules.specs.Anchor.{Active, AnchorState, active_anchor, fresh, renew, setup_at, silent, waiting, waiting_anchor}
use Rattle.node_rules.specs.AnchorReceiving.{air_in, tunnel_in}
use Rattle.node_rules.specs.AnchorSending.{fail_scg, recover, report, submit, unlock}
use Rattle.node_rules.specs.Choices.{Choices, Send}
use Rattle.node_rules.specs.Effects.{after_effects, in_turn, quiet}
use Rattle.node_rules.specs.Feed.{Fed, Frozen, end_in, sdu_in}
use Rattle.node_rules.specs.Flights.{Named, flight_named}
use Rattle.node_rules.specs.Held.{held, holding, identities}
use Rattle.node_rules.specs.Host.{Host}
use Rattle.node_rules.specs.HostRules.{host_air_in, host_tunnel_in}
use Rattle.node_rules.specs.Master.{handed_up}
use Rattle.node_rules.specs.Parts.{host_at, part_at}
use Rattle.node_rules.specs.SecondPlan.{beginning, frozen_active, frozen_there, owned_there, renewed_active, renewed_there, second_act, second_item, second_part, with_fed}
use Rattle.node_rules.specs.SecondRecords.{added, addition_asked, failure_told, forgotten, is_one_drop, is_wanted, key_confirmed, leave_confirmed, let_off, modification_asked, modified, reconfigured, recovery_asked, refused_there, release_asked, release_confirmed, release_needless, second_take, status_passed}
use Rattle.node_rules.specs.SecondState.{SecondActs, SecondProc, second_command, second_commands, second_commands_unless, second_refusals}
use Rattle.node_rules.specs.SecondStep.{fed_ended, fed_took, frozen_ended, frozen_took, is_before_change, is_fit, key_in, on_second_host, second_commanded, second_control, second_data, second_event, second_line, second_record, second_record_taken, second_report, second_step, second_takes}
use Rattle.node_rules.specs.Secondary.{SecondNode, active_at, active_in, adopted_there, anchored, fed_did, is_fed_of, low_told, name_of, on_fed, on_fed_of, second_effects, within}
use Rattle.node_rules.specs.Setup.{Setup, setup_of}
use Rattle.node_rules.specs.declared.acts.Act.{Act}
use Rattle.node_rules.specs.declared.acts.Act.TheVariants.{FailOne as fail_one, Go as go, Pass as pass, Prepare as prepare, RecoverOne as recover_one, Say as say, Send as send, UnlockAll as unlock_all}
use Rattle.node_rules.specs.declared.bearers.AnchorOut.{AnchorOut}
use Rattle.node_rules.specs.declared.commands.Membership.{Membership}
use Rattle.node_rules.specs.declared.commands.Membership.TheVariants.{Joined as joined, Left as left, Outside as outside}
use Rattle.node_rules.specs.declared.inputs.Effects.{Effects}
use Rattle.node_rules.specs.declared.inputs.Input.{Input}
use Rattle.node_rules.specs.declared.inputs.Outcome.{Outcome}
use Rattle.node_rules.specs.declared.inputs.Input.TheVariants.{Cmd, Come}
use Rattle.node_rules.specs.declared.parts.Part.{Part}
use Rattle.node_rules.specs.declared.parts.Part.TheVariants.{Awaits as awaits, Drops as drops, Establishes as establishes, HandsOver as hands_over, HasNoAnchor as has_no_anchor, Renews as renews}
use Rattle.run_control.specs.Orders.{Ascends}
use Rattle.run_control.proofs.Ascending.{ascends_with}
use Rattle.run_control.proofs.Holding.{seen_again}
use Rattle.run_control.proofs.SecondItems.{ascends_put, seen_put}
use Rattle.run_holders.specs.Actives.{Actives, Within, active_of, is_of_anchor, second_actives, with_active}
use Rattle.run_holders.proofs.AnchorSteps.{Steps, air_steps, either, fail_stays, goes_on, recover_stays, report_stays, status_steps, stays_steps, submit_stays, takes_over, tunnel_steps, unlock_stays}
use Rattle.run_holders.proofs.Notes.{within_itself, within_then}
use Rattle.run_holders.proofs.Telling.{Tells, beside, less_with, own_tells, quietly, still_hands, tells_then, with_whatever}

-- ---- what a step of the node tells

-- the node stays itself, with its anchors in order, and what it notes says which are active
pub record SecondTells (s : SecondNode) (done : SecondNode × Effects) : Type 0 where
  pub name : name_of done.0 ≡ name_of s
  pub up : Ascends done.0.anchors
  pub tells : Tells (name_of s) (second_actives s) done.1.notes (second_actives done.0)

second_then : (s mid : SecondNode) (x : Effects) (done : SecondNode × Effects) → SecondTells s (mid, x) → SecondTells mid done → SecondTells s (after_effects x done)
second_then s mid x done one two = record {
  name = two.name ∙ one.name;
  up = two.up;
  tells = tells_then (name_of s) (second_actives s) (second_actives mid) (second_actives done.0) x.notes done.1.notes one.tells
      (subst (λ y. Tells y (second_actives mid) done.1.notes (second_actives done.0)) one.name two.tells);
}

idle : (s : SecondNode) → Ascends s.anchors → SecondTells s (s, quiet)
idle s up = record { name = refl; up = up; tells = quietly (name_of s) (second_actives s) (second_actives s) (within_itself (second_actives s)) }

-- the active anchor of what is held
abbrev fed_active : Option Fed → Option ℕ
fed_active o = active_of (option_map (λ (x : Fed). x.anchor) o)

put_within : (s : SecondNode) (id : ℕ) (o : Option Fed) → Ascends s.anchors → Within (second_actives (with_fed s id o)) (with_active id (fed_active o) (second_actives s))
put_within s id o up k g at =
    by (id == k) refl (sym (ap active_of (seen_put (λ (x : Fed). x.anchor) id k o s.anchors up)) ∙ at)
  where
    by : (d : Bool) → (id == k) ≡ d → active_of (if id == k then option_map (λ (x : Fed). x.anchor) o else option_map (λ (x : Fed). x.anchor) (held k s.anchors)) ≡ Some g
        → with_active id (fed_active o) (second_actives s) k ≡ Some g
    by true here is = ap (λ d. if d then fed_active o else second_actives s k) here ∙ sym (ap (λ d. active_of (if d then option_map (λ (x : Fed). x.anchor) o else option_map (λ (x : Fed). x.anchor) (held k s.anchors))) here) ∙ is
    by false apart is = ap (λ d. if d then fed_active o else second_actives s k) apart ∙ sym (ap (λ d. active_of (if d then option_map (λ (x : Fed). x.anchor) o else option_map (λ (x : Fed). x.anchor) (held k s.anchors))) apart) ∙ is

-- ---- an anchor with its line

-- it is held as it was, as far as it is active
again_within : (s : SecondNode) (id : ℕ) (x y : Fed) → Ascends s.anchors → held id s.anchors ≡ Some y → active_of (Some x.anchor) ≡ active_of (Some y.anchor)
    → Within (second_actives (with_fed s id (Some x))) (second_actives s)
again_within s id x y up at same k g is =
    sym (ap (λ (o : Option (Option ℕ)). flat o) (seen_again (λ (z : Fed). active_of (Some z.anchor)) id k x y s.anchors at same) ∙ flat_is (held k s.anchors)) ∙ flat_is (held k (holding id (Some x) s.anchors)) ∙ is
  where
    flat : Option (Option ℕ) → Option ℕ
    flat None = None
    flat (Some o) = o

    flat_is : (o : Option Fed) → flat (option_map (λ (z : Fed). active_of (Some z.anchor)) o) ≡ active_of (option_map (λ (z : Fed). z.anchor) o)
    flat_is None = refl
    flat_is (Some z) = refl

low_silent : (me : Node) (id g : ℕ) (o : Option ℕ) → (low_told me id g o).notes ≡ []
low_silent me id g None = refl
low_silent me id g (Some count) = refl

-- what it notes
effects_still : (me : Node) (id g : ℕ) (out : AnchorOut) (a b : Actives) → out.adopted ≡ false → Within b a → (is_some (a id) ≡ true) ⊎ (out.ups ≡ []) → Tells me a (second_effects me id g out).notes b
effects_still me id g out a b stays less ups =
    subst (λ z. Tells me a z b) (sym is) (still_hands me id out.ups a b less ups)
  where
    is : (second_effects me id g out).notes ≡ handed_up me id Ul out.ups ++ []
    is = ap (λ z. (z.notes ++ handed_up me id Ul out.ups) ++ (low_told me id g out.low).notes) (ap (adopted_there me id g) stays) ∙ ap (λ z. handed_up me id Ul out.ups ++ z) (low_silent me id g out.low)

effects_own : (me : Node) (id g : ℕ) (out : AnchorOut) (a b : Actives) → out.adopted ≡ true → Within b (with_active id (Some g) a) → Tells me a (second_effects me id g out).notes b
effects_own me id g out a b adopts less =
    subst (λ z. Tells me a z b) (sym is)
    (tells_then me a (with_active id (Some g) a) b (note.Own me id g ∷ []) (handed_up me id Ul out.ups ++ []) (own_tells me id g a (with_active id (Some g) a) (within_itself (with_active id (Some g) a)))
    (still_hands me id out.ups (with_active id (Some g) a) b less (inl (with_whatever id g a))))
  where
    is : (second_effects me id g out).notes ≡ note.Own me id g ∷ (handed_up me id Ul out.ups ++ [])
    is = ap (λ z. (z.notes ++ handed_up me id Ul out.ups) ++ (low_told me id g out.low).notes) (ap (adopted_there me id g) adopts) ∙ ap (λ z. note.Own me id g ∷ (handed_up me id Ul out.ups ++ z)) (low_silent me id g out.low)

fed_tells : (s : SecondNode) (id : ℕ) (x : Fed) (done : Fed × AnchorOut) → Ascends s.anchors → held id s.anchors ≡ Some x → Steps x.anchor (done.0.anchor, done.1) → SecondTells s (fed_did s id done)
fed_tells s id x done up at (goes_on stays active ups) = record {
  name = refl;
  up = ascends_with 0 id done.0 s.anchors (omega arith) up;
  tells = effects_still (name_of s) id (setup_at done.0.anchor).g done.1 (second_actives s) (second_actives (with_fed s id (Some done.0))) stays (again_within s id done.0 x up at active) (by ups);
}
  where
    here : second_actives s id ≡ active_of (Some x.anchor)
    here = ap (λ o. active_of (option_map (λ (z : Fed). z.anchor) o)) at

    by : (is_some (active_of (Some x.anchor)) ≡ true) ⊎ (done.1.ups ≡ []) → (is_some (second_actives s id) ≡ true) ⊎ (done.1.ups ≡ [])
    by (inl is) = inl (ap is_some here ∙ is)
    by (inr none) = inr none
fed_tells s id x done up at (takes_over adopts active same) = record {
  name = refl;
  up = ascends_with 0 id done.0 s.anchors (omega arith) up;
  tells = effects_own (name_of s) id (setup_at done.0.anchor).g done.1 (second_actives s) (second_actives (with_fed s id (Some done.0))) adopts
      (subst (λ z. Within (second_actives (with_fed s id (Some done.0))) (with_active id z (second_actives s))) (active ∙ ap (λ z. Some z) (sym same)) (put_within s id (Some done.0) up));
}

on_fed_tells : (s : SecondNode) (id : ℕ) (f : AnchorState → AnchorState × AnchorOut) (o : Option Fed) → ((a : AnchorState) → Steps a (f a)) → Ascends s.anchors → held id s.anchors ≡ o → SecondTells s (on_fed s id f o)
on_fed_tells s id f None steps up at = idle s up
on_fed_tells s id f (Some x) steps up at = fed_tells s id x (anchored x (f x.anchor)) up at (steps x.anchor)

on_fed_of_tells : (s : SecondNode) (g : ℕ) (f : AnchorState → AnchorState × AnchorOut) (id : ℕ) → ((a : AnchorState) → Steps a (f a)) → Ascends s.anchors → SecondTells s (on_fed_of s g f id (held id s.anchors))
on_fed_of_tells s g f id steps up = by (is_fed_of g (held id s.anchors))
  where
    by : (b : Bool) → SecondTells s (if b then on_fed s id f (held id s.anchors) else (s, quiet))
    by true = on_fed_tells s id f (held id s.anchors) steps up refl
    by false = idle s up

each_tells : {X : Type 0} (f : SecondNode → X → SecondNode × Effects) → ((s : SecondNode) (x : X) → Ascends s.anchors → SecondTells s (f s x)) → (s : SecondNode) (xs : List X) → Ascends s.anchors → SecondTells s (in_turn f s xs)
each_tells f each s [] up = idle s up
each_tells f each s (x ∷ xs) up =
    let one = each s x up in second_then s (f s x).0 (f s x).1 (in_turn f (f s x).0 xs) one (each_tells f each (f s x).0 xs one.up)

-- ---- a plan

-- an anchor is put there and noted
owned_tells : (s : SecondNode) (id g : ℕ) (o : Option Fed) → Ascends s.anchors → Within (with_active id (fed_active o) (second_actives s)) (with_active id (Some g) (second_actives s)) → SecondTells s (owned_there s id g o)
owned_tells s id g o up less = record {
  name = refl;
  up = ascends_put id o s.anchors up;
  tells = own_tells (name_of s) id g (second_actives s) (second_actives (with_fed s id o)) (within_then (second_actives (with_fed s id o)) _ _ (put_within s id o up) less);
}

-- or put there silently, and not active
silent_tells : (s : SecondNode) (id : ℕ) (o : Option Fed) → Ascends s.anchors → fed_active o ≡ None → SecondTells s (with_fed s id o, quiet)
silent_tells s id o up none = record {
  name = refl;
  up = ascends_put id o s.anchors up;
  tells = quietly (name_of s) (second_actives s) (second_actives (with_fed s id o))
      (within_then (second_actives (with_fed s id o)) (with_active id None (second_actives s)) (second_actives s)
      (subst (λ z. Within (second_actives (with_fed s id o)) (with_active id z (second_actives s))) none (put_within s id o up)) (less_with id (second_actives s)));
}

begun_less : (s : SecondNode) (p : Plan) (id : ℕ) (me : Node) (key : List ℕ) (i : Item)
    → Within (with_active id (fed_active (option_map (λ x. beginning p.g (fresh x)) (setup_of me p s.alg key i))) (second_actives s)) (with_active id (Some p.g) (second_actives s))
begun_less s p id me key (item.Set j n first shape threshold policy name old) = within_itself (with_active id (Some p.g) (second_actives s))
begun_less s p id me key (item.Unset j) = λ k g. by k g (id == k)
  where
    by : (k g : ℕ) (d : Bool) → (if d then None else second_actives s k) ≡ Some g → (if d then Some p.g else second_actives s k) ≡ Some g
    by k g true at = absurd cc
    by k g false at = at

waits_none : (p : Plan) (me : Node) (s : SecondNode) (key : List ℕ) (i : Item) → fed_active (option_map (λ x. beginning p.g (waiting x)) (setup_of me p s.alg key i)) ≡ None
waits_none p me s key (item.Set j n first shape threshold policy name old) = refl
waits_none p me s key (item.Unset j) = refl

setup_g : (me : Node) (p : Plan) (s : SecondNode) (key : List ℕ) (i : Item) (st : Setup) → setup_of me p s.alg key i ≡ Some st → st.g ≡ p.g
setup_g me p s key (item.Set j n first shape threshold policy name old) st is = sym (ap (λ (o : Option Setup). g_of o) is)
  where
    g_of : Option Setup → ℕ
    g_of None = p.g
    g_of (Some z) = z.g
setup_g me p s key (item.Unset j) st is = absurd (let bad : None ≡ Some st = is in cc)

renewed_tells : (s : SecondNode) (id g : ℕ) (st : Setup) (x : Fed) (o : Option Active) → Ascends s.anchors → st.g ≡ g → SecondTells s (renewed_active s id g st x o)
renewed_tells s id g st x None up same = idle s up
renewed_tells s id g st x (Some a) up same =
    owned_tells s id g (Some (record x { anchor = active_anchor (renew a st) })) up
    (subst (λ z. Within (with_active id (Some z) (second_actives s)) (with_active id (Some g) (second_actives s))) (sym same) (within_itself (with_active id (Some g) (second_actives s))))

renews_tells : (s : SecondNode) (id g : ℕ) (o : Option Setup) (x : Option Fed) → Ascends s.anchors → ((st : Setup) → o ≡ Some st → st.g ≡ g) → SecondTells s (renewed_there s id g o x)
renews_tells s id g None x up same = idle s up
renews_tells s id g (Some st) None up same = idle s up
renews_tells s id g (Some st) (Some x) up same = renewed_tells s id g st x (active_in x.anchor) up (same st refl)

gives_tells : (s : SecondNode) (id g : ℕ) (to : Node) (x : Fed) (a : AnchorState) → Ascends s.anchors → held id s.anchors ≡ Some x → x.anchor ≡ a → SecondTells s (frozen_active s id g to x (active_in a))
gives_tells s id g to x (waiting_anchor w) up at is = idle s up
gives_tells s id g to x (active_anchor a) up at is = record {
  name = refl;
  up = ascends_put id None s.anchors up;
  tells = record {
    fits = ((refl, ap (λ o. is_some (active_of (option_map (λ (z : Fed). z.anchor) o))) at ∙ ap (λ z. is_some (active_of (Some z))) is), tt);
    after = put_within s id None up;
  };
}

frozen_tells : (s : SecondNode) (id g : ℕ) (to : Node) (o : Option Fed) → Ascends s.anchors → held id s.anchors ≡ o → SecondTells s (frozen_there s id g to o)
frozen_tells s id g to None up at = idle s up
frozen_tells s id g to (Some x) up at = gives_tells s id g to x x.anchor up at refl

part_tells : (key : List ℕ) (p : Plan) (s : SecondNode) (i : Item) (part : Part) → Ascends s.anchors → SecondTells s (second_part s p (setup_of (name_of s) p s.alg key i) (item_id i) part)
part_tells key p s i establishes up =
    owned_tells s (item_id i) p.g (option_map (λ x. beginning p.g (fresh x)) (setup_of (name_of s) p s.alg key i)) up (begun_less s p (item_id i) (name_of s) key i)
part_tells key p s i renews up = renews_tells s (item_id i) p.g (setup_of (name_of s) p s.alg key i) (held (item_id i) s.anchors) up (setup_g (name_of s) p s key i)
part_tells key p s i awaits up = silent_tells s (item_id i) (option_map (λ x. beginning p.g (waiting x)) (setup_of (name_of s) p s.alg key i)) up (waits_none p (name_of s) s key i)
part_tells key p s i (hands_over to) up = frozen_tells s (item_id i) p.g to (held (item_id i) s.anchors) up refl
part_tells key p s i drops up = silent_tells s (item_id i) None up refl
part_tells key p s i has_no_anchor up = idle s up

item_tells : (key : List ℕ) (p : Plan) (s : SecondNode) (i : Item) → Ascends s.anchors → SecondTells s (second_item key p s i)
item_tells key p s i up =
    let s' : SecondNode = record s { hosts = holding (item_id i) (host_at (name_of s) p i) s.hosts } in
    let is = part_tells key p s' i (part_at (name_of s) p.sec i) up in
    record { name = is.name; up = is.up; tells = is.tells }

-- ---- acts

-- what is said says nothing of anchors
abbrev pub SaysBeside : Act → Type 0
SaysBeside (say n) = is_of_anchor n ≡ false
SaysBeside (send to r) = ⊤
SaysBeside (prepare p) = ⊤
SaysBeside (go p) = ⊤
SaysBeside (unlock_all g) = ⊤
SaysBeside (recover_one id) = ⊤
SaysBeside (fail_one id g) = ⊤
SaysBeside (pass st) = ⊤

act_tells : (c : Choices) (key : List ℕ) (s : SecondNode) (a : Act) → SaysBeside a → Ascends s.anchors → SecondTells s (second_act c key s a)
act_tells c key s (send to r) beside up = record { name = refl; up = up; tells = quietly (name_of s) (second_actives s) (second_actives s) (within_itself (second_actives s)) }
act_tells c key s (prepare p) beside up = idle s up
act_tells c key s (go p) beside up = each_tells (second_item key p) (item_tells key p) s p.items up
act_tells c key s (unlock_all g) beside up =
    each_tells (λ n id. on_fed_of n g (unlock c) id (held id n.anchors)) (λ n id above. on_fed_of_tells n g (unlock c) id (λ a. stays_steps (unlock_stays c a)) above) s (identities s.anchors) up
act_tells c key s (say n) none up =
    let is = beside n none in
    record {
      name = refl;
      up = up;
      tells = record { fits = (is.fits (name_of s) (second_actives s), tt); after = subst (Within (second_actives s)) (sym (is.still (second_actives s))) (within_itself (second_actives s)) };
    }
act_tells c key s (recover_one id) beside up = on_fed_tells s id (recover c) (held id s.anchors) (λ a. stays_steps (recover_stays c a)) up refl
act_tells c key s (fail_one id g) beside up = on_fed_of_tells s g (fail_scg c) id (λ a. stays_steps (fail_stays c a)) up
act_tells c key s (pass st) beside up = on_fed_tells s st.id (λ a. status_in c a st) (held st.id s.anchors) (λ a. status_steps c a st) up refl

acts_tell : (c : Choices) (key : List ℕ) (s : SecondNode) (acts : List Act) → AllByRecursion SaysBeside acts → Ascends s.anchors → SecondTells s (in_turn (second_act c key) s acts)
acts_tell c key s [] beside up = idle s up
acts_tell c key s (a ∷ acts) beside up =
    let one = act_tells c key s a beside.0 up in
    second_then s (second_act c key s a).0 (second_act c key s a).1 (in_turn (second_act c key) (second_act c key s a).0 acts) one (acts_tell c key (second_act c key s a).0 acts beside.1 one.up)

within_actives : (m : Membership) (s : SecondNode) → Within (second_actives (within m s)) (second_actives s)
within_actives outside s = λ k g at. absurd (let bad : None ≡ Some g = at in cc)
within_actives joined s = within_itself (second_actives s)
within_actives left s = within_itself (second_actives s)

within_up : (m : Membership) (s : SecondNode) → Ascends s.anchors → Ascends (within m s).anchors
within_up outside s up = tt
within_up joined s up = up
within_up left s up = up

within_name : (m : Membership) (s : SecondNode) → name_of (within m s) ≡ name_of s
within_name outside s = refl
within_name joined s = refl
within_name left s = refl

does_tell : (c : Choices) (key : List ℕ) (s : SecondNode) (r : SecondActs) → r.0.me ≡ name_of s → AllByRecursion SaysBeside r.1 → Ascends s.anchors
    → SecondTells s (in_turn (second_act c key) (within r.0.membership (record s { proc = r.0 })) r.1)
does_tell c key s r me beside up =
    let s' : SecondNode = record s { proc = r.0 } in
    let n = within r.0.membership s' in
    let named : name_of n ≡ name_of s = within_name r.0.membership s' ∙ me in
    second_then s n quiet (in_turn (second_act c key) n r.1)
    (record { name = named; up = within_up r.0.membership s' up; tells = quietly (name_of s) (second_actives s) (second_actives n) (within_actives r.0.membership s') })
    (acts_tell c key n r.1 beside (within_up r.0.membership s' up))

-- ---- what its procedures answer

-- the node stays itself, and says nothing of anchors
abbrev pub AnswersBeside : SecondProc → Result SecondActs ProcFault → Type 0
AnswersBeside s (Ok r) = (r.0.me ≡ s.me) × AllByRecursion SaysBeside r.1
AnswersBeside s (Err why) = ⊤

module _ (s : SecondProc) where
  added_says : (p : Plan) (rejects : Bool) → AnswersBeside s (Ok (added s p rejects))
  added_says p true = (refl, (tt, tt))
  added_says p false = (refl, (refl, (tt, (tt, tt))))

  addition_says : (p : Plan) (m : Membership) → AnswersBeside s (addition_asked s p m)
  addition_says p outside = added_says p s.denies
  addition_says p joined = tt
  addition_says p left = tt

  modified_says : (p : Plan) (rejects : Bool) → AnswersBeside s (Ok (modified s p rejects))
  modified_says p true = (refl, (tt, tt))
  modified_says p false = (refl, (tt, (tt, tt)))

  modification_says : (p : Plan) (m : Membership) → AnswersBeside s (modification_asked s p m)
  modification_says p outside = tt
  modification_says p joined = modified_says p (s.denies && not (is_one_drop p.items))
  modification_says p left = tt

  let_off_says : (p : Plan) (rejects : Bool) → AnswersBeside s (Ok (let_off s p rejects))
  let_off_says p true = (refl, (tt, tt))
  let_off_says p false = (refl, (tt, (refl, (tt, tt))))

  release_says : (p : Plan) (m : Membership) → AnswersBeside s (release_asked s p m)
  release_says p outside = tt
  release_says p joined = let_off_says p (s.denies && is_none p.sec)
  release_says p left = tt

  forgotten_says : (m : Membership) → AnswersBeside s (forgotten s m)
  forgotten_says outside = tt
  forgotten_says joined = tt
  forgotten_says left = (refl, tt)

  refused_says : (k : RecKind) (w : Word) (wanted : Bool) → AnswersBeside s (refused_there k s w wanted)
  refused_says k w true = (refl, (refl, tt))
  refused_says k w false = tt

  key_says : (g : ℕ) (wanted : Bool) (m : Membership) → AnswersBeside s (key_confirmed s g wanted m)
  key_says g true outside = tt
  key_says g true joined = (refl, (tt, (refl, tt)))
  key_says g true left = tt
  key_says g false outside = tt
  key_says g false joined = tt
  key_says g false left = tt

  leave_says : (k : RecKind) (p : Plan) (wanted : Bool) (m : Membership) → AnswersBeside s (leave_confirmed k s p wanted m)
  leave_says k p true outside = tt
  leave_says k p true joined = (refl, (refl, (refl, (tt, tt))))
  leave_says k p true left = tt
  leave_says k p false outside = tt
  leave_says k p false joined = tt
  leave_says k p false left = tt

  needless_says : (wanted : Bool) → AnswersBeside s (release_needless s wanted)
  needless_says true = (refl, (refl, tt))
  needless_says false = tt

  release_confirmed_says : (p : Plan) → AnswersBeside s (release_confirmed s p)
  release_confirmed_says p = by (p.g == 0)
    where
      by : (b : Bool) → AnswersBeside s (if b then release_needless s (is_wanted want.Release s.want) else leave_confirmed kind.Relcnf s p (is_wanted want.Release s.want) s.membership)
      by true = needless_says (is_wanted want.Release s.want)
      by false = leave_says kind.Relcnf p (is_wanted want.Release s.want) s.membership

  reconfigured_says : (g : ℕ) (m : Membership) → AnswersBeside s (reconfigured s g m)
  reconfigured_says g outside = tt
  reconfigured_says g joined = (refl, (tt, tt))
  reconfigured_says g left = tt

  status_says : (st : StatusTransfer) (m : Membership) → AnswersBeside s (status_passed s st m)
  status_says st outside = tt
  status_says st joined = (refl, (tt, tt))
  status_says st left = tt

  recovery_says : (id : ℕ) (m : Membership) → AnswersBeside s (recovery_asked s id m)
  recovery_says id outside = tt
  recovery_says id joined = (refl, (tt, (tt, tt)))
  recovery_says id left = tt

  failure_says : (id g : ℕ) (m : Membership) → AnswersBeside s (failure_told s id g m)
  failure_says id g outside = tt
  failure_says id g joined = (refl, (tt, tt))
  failure_says id g left = (refl, (tt, tt))

  pub take_says : (r : Rec) → AnswersBeside s (second_take s r)
  take_says (rec.Addreq plan key) = addition_says plan s.membership
  take_says (rec.Modreq plan key) = modification_says plan s.membership
  take_says (rec.Relreq plan) = release_says plan s.membership
  take_says (rec.Uecr g) = forgotten_says s.membership
  take_says (rec.Recfg g) = reconfigured_says g s.membership
  take_says (rec.Modcnf g) = key_says g (is_wanted want.Rekey s.want) s.membership
  take_says (rec.Modref word) = refused_says kind.Modref word (is_wanted want.Rekey s.want)
  take_says (rec.Chgcnf plan) = leave_says kind.Chgcnf plan (is_wanted want.Change s.want) s.membership
  take_says (rec.Chgref word) = refused_says kind.Chgref word (is_wanted want.Change s.want)
  take_says (rec.Relcnf plan) = release_confirmed_says plan
  take_says (rec.Snst status) = status_says status s.membership
  take_says (rec.Recov id) = recovery_says id s.membership
  take_says (rec.Scgn id g) = failure_says id g s.membership
  take_says (rec.Reconf plan key) = tt
  take_says (rec.Rcomp g) = tt
  take_says (rec.Scgf failed) = tt
  take_says (rec.Recovd id) = tt
  take_says (rec.Addack g) = tt
  take_says (rec.Addrej g) = tt
  take_says (rec.Modack g) = tt
  take_says (rec.Modrej g) = tt
  take_says (rec.Relack g) = tt
  take_says (rec.Relrej g) = tt
  take_says (rec.Moved g id) = tt
  take_says rec.Modrqd = tt
  take_says rec.Chgrqd = tt
  take_says rec.Relrqd = tt

  ordered_says : (e : Event) (o : Option Refusal) → (second_commands s e).0.me ≡ s.me → AllByRecursion SaysBeside (second_commands s e).1 → AnswersBeside s (second_commands_unless s e o)
  ordered_says e None me says = (me, says)
  ordered_says e (Some why) me says = tt

-- ---- inputs

by_record : (c : Choices) (s : SecondNode) (r : Rec) (b : Bool) → Ascends s.anchors → SecondTells s (second_record c s r b)
by_record c s r false up = idle s up
by_record c s r true up = by (second_take s.proc r) (take_says s.proc r)
  where
    by : (t : Result SecondActs ProcFault) → AnswersBeside s.proc t → SecondTells s (second_record_taken c (key_in r) s t)
    by (Ok acts) says = does_tell c (key_in r) s acts says.0 says.1 up
    by (Err why) says = idle s up

-- what comes of an outcome
abbrev pub Told : SecondNode → SecondNode × Outcome → Type 0
Told s done = SecondTells s (done.0, record { notes = done.1.notes; sends = done.1.sends })

by_order : (c : Choices) (s : SecondNode) (t : Result SecondActs ProcFault) → AnswersBeside s.proc t → Ascends s.anchors → Told s (second_commanded c s t)
by_order c s (Ok acts) says up = does_tell c [] s acts says.0 says.1 up
by_order c s (Err (refused why)) says up = idle s up
by_order c s (Err (unexpected k)) says up = idle s up

by_report : (c : Choices) (s : SecondNode) (id : ℕ) (o : Option Active) → Ascends s.anchors → Told s (second_report c s id o)
by_report c s id None up = idle s up
by_report c s id (Some a) up = on_fed_tells s id (report c) (held id s.anchors) (λ x. stays_steps (report_stays c x)) up refl

by_event : (c : Choices) (s : SecondNode) (e : Event) → Ascends s.anchors → Told s (second_event c s e)
by_event c s (event.Report node id) up = by_report c s id (active_at s id) up
by_event c s (event.Deny node on) up =
    by_order c s (second_command s.proc (event.Deny node on)) (ordered_says s.proc (event.Deny node on) (first_refusal (second_refusals s.proc (event.Deny node on))) refl tt) up
by_event c s (event.Ask node what) up =
    by_order c s (second_command s.proc (event.Ask node what)) (ordered_says s.proc (event.Ask node what) (first_refusal (second_refusals s.proc (event.Ask node what))) refl (tt, tt)) up
by_event c s (event.Bearer id n first shape threshold policy) up = idle s up
by_event c s (event.Reshape id shape) up = idle s up
by_event c s (event.Remove id) up = idle s up
by_event c s (event.Add node) up = idle s up
by_event c s event.Change up = idle s up
by_event c s event.Release up = idle s up
by_event c s event.RekeySecond up = idle s up
by_event c s (event.RekeyMaster root) up = idle s up
by_event c s (event.Recover id) up = idle s up
by_event c s event.ScgFail up = idle s up
by_event c s (event.Submit id d payload) up = idle s up
by_event c s (event.Step l i) up = idle s up
by_event c s (event.Lose l i) up = idle s up
by_event c s (event.Again l i) up = idle s up

-- the core's lines
same_anchors : (s s' : SecondNode) (x : Effects) → s'.anchors ≡ s.anchors → name_of s' ≡ name_of s → x.notes ≡ [] → Ascends s.anchors → SecondTells s (s', x)
same_anchors s s' x same name none up = record {
  name = name;
  up = subst (λ xs. Ascends xs) (sym same) up;
  tells = subst (λ ns. Tells (name_of s) (second_actives s) ns (second_actives s')) (sym none)
      (quietly (name_of s) (second_actives s) (second_actives s') (subst (λ xs. Within (second_actives (record s' { anchors = xs })) (second_actives s)) (sym same) (within_itself (second_actives s))));
}

frozen_took_tells : (s : SecondNode) (id g : ℕ) (payload : List ℕ) (o : Option Frozen) → Ascends s.anchors → SecondTells s (frozen_took s id g payload o)
frozen_took_tells s id g payload None up = idle s up
frozen_took_tells s id g payload (Some f) up = same_anchors s _ _ refl refl refl up

sdu_steps : (c : Choices) (x : Fed) (g : ℕ) (payload : List ℕ) → Steps x.anchor ((sdu_in c x g payload).0.anchor, (sdu_in c x g payload).1)
sdu_steps c x g payload =
    either (λ (done : Fed × AnchorOut). Steps x.anchor (done.0.anchor, done.1)) (nat_lt g x.since) (x, silent) (record x { anchor = (submit c x.anchor payload).0 }, (submit c x.anchor payload).1)
    (goes_on refl refl (inr refl)) (stays_steps (submit_stays c x.anchor payload))

fed_took_tells : (c : Choices) (s : SecondNode) (id g : ℕ) (payload : List ℕ) (o : Option Fed) → Ascends s.anchors → held id s.anchors ≡ o → SecondTells s (fed_took c s id g payload o)
fed_took_tells c s id g payload None up at = idle s up
fed_took_tells c s id g payload (Some x) up at = fed_tells s id x (sdu_in c x g payload) up at (sdu_steps c x g payload)

frozen_ended_tells : (s : SecondNode) (id g : ℕ) (o : Option Frozen) → Ascends s.anchors → SecondTells s (frozen_ended s id g o)
frozen_ended_tells s id g None up = idle s up
frozen_ended_tells s id g (Some f) up = same_anchors s _ _ refl refl refl up

end_active : (x : Fed) (g : ℕ) (a : AnchorState) → active_of (Some (end_in x g a).anchor) ≡ active_of (Some x.anchor)
end_active x g (active_anchor a) = refl
end_active x g (waiting_anchor w) = refl

fed_ended_tells : (s : SecondNode) (id g : ℕ) (o : Option Fed) → Ascends s.anchors → held id s.anchors ≡ o → SecondTells s (fed_ended s id g o)
fed_ended_tells s id g None up at = idle s up
fed_ended_tells s id g (Some x) up at = record {
  name = refl;
  up = ascends_with 0 id (end_in x g x.anchor) s.anchors (omega arith) up;
  tells = quietly (name_of s) (second_actives s) (second_actives (with_fed s id (Some (end_in x g x.anchor)))) (again_within s id (end_in x g x.anchor) x up at (end_active x g x.anchor));
}

by_line : (c : Choices) (s : SecondNode) (f : Flight) → Ascends s.anchors → SecondTells s (second_line c s f)
by_line c s (flight.Sdu id g payload) up = by (is_before_change g (held id s.frozen))
  where
    by : (b : Bool) → SecondTells s (if b then frozen_took s id g payload (held id s.frozen) else fed_took c s id g payload (held id s.anchors))
    by true = frozen_took_tells s id g payload (held id s.frozen) up
    by false = fed_took_tells c s id g payload (held id s.anchors) up refl
by_line c s (flight.End id g) up = by (is_some (held id s.frozen))
  where
    by : (b : Bool) → SecondTells s (if b then frozen_ended s id g (held id s.frozen) else fed_ended s id g (held id s.anchors))
    by true = frozen_ended_tells s id g (held id s.frozen) up
    by false = fed_ended_tells s id g (held id s.anchors) up refl
by_line c s (flight.Told id g count) up = idle s up
by_line c s (flight.Air id g num tag pdu) up = idle s up
by_line c s (flight.Ack id g num) up = idle s up
by_line c s (flight.Tun tag packet) up = idle s up
by_line c s (flight.Ctl r) up = idle s up

by_host : (s : SecondNode) (id : ℕ) (f : Host → Host × List Send) (o : Option Host) → Ascends s.anchors → SecondTells s (on_second_host s id f o)
by_host s id f None up = idle s up
by_host s id f (Some h) up = same_anchors s _ _ refl refl refl up

by_data : (s : SecondNode) (f : AnchorState → AnchorState × AnchorOut) (h : Host → Host × List Send) (o : Option Named) → ((a : AnchorState) → Steps a (f a)) → Ascends s.anchors → SecondTells s (second_data s f h o)
by_data s f h None steps up = idle s up
by_data s f h (Some (id, g)) steps up = by (is_fed_of g (held id s.anchors))
  where
    by : (b : Bool) → SecondTells s (if b then on_fed s id f (held id s.anchors) else on_second_host s id h (held id s.hosts))
    by true = on_fed_tells s id f (held id s.anchors) steps up refl
    by false = by_host s id h (held id s.hosts) up

by_control : (c : Choices) (s : SecondNode) (f : Flight) → Ascends s.anchors → SecondTells s (second_control c s f)
by_control c s (flight.Ctl r) up = by_record c s r (is_fit s r) up
by_control c s (flight.Air id g num tag pdu) up = idle s up
by_control c s (flight.Ack id g num) up = idle s up
by_control c s (flight.Tun tag packet) up = idle s up
by_control c s (flight.Sdu id g payload) up = idle s up
by_control c s (flight.End id g) up = idle s up
by_control c s (flight.Told id g count) up = idle s up

by_class : (c : Choices) (s : SecondNode) (f : Flight) (k : Class) → Ascends s.anchors → SecondTells s (second_takes c s f k)
by_class c s f Ctl up = by_control c s f up
by_class c s f Feed up = by_line c s f up
by_class c s f Air up = by_data s (λ a. air_in a cell.Scg f) (λ h. host_air_in h f) (flight_named f) (λ a. air_steps a cell.Scg f) up
by_class c s f Tun up = by_data s (λ a. tunnel_in c a f) (λ h. host_tunnel_in h f) (flight_named f) (λ a. tunnel_steps c a f) up

-- whatever a secondary node takes, what it notes says which of its anchors are active
pub second_tells : (c : Choices) (s : SecondNode) (i : Input) → Ascends s.anchors → Told s (second_step c s i)
second_tells c s (Cmd e) up = by_event c s e up
second_tells c s (Come l f) up = by_class c s f l.class up
