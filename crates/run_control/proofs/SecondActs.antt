-- What a secondary node's procedures have it do, act by act, as the control plane sees it.
use Rattle.std.proofs.Common.{ℕ, ◌≡◌, ◌++◌, ◌==◌, Bool, true, false, List, [], ◌∷◌, Option, Some, None, refl, sym, ap, subst, ◌∙◌, arith, inl, inr}
use Rattle.std.specs.Prelude.{if◌then◌else◌, map, ◌&&◌, ◌||◌}
use Rattle.std.specs.List.{list_any}
use Rattle.std.specs.Option.{option_map}
use Rattle.std.proofs.lemmas.Bool.{cases_Bool, eqb-true, ne_eqb, eqb-false}
use Rattle.dc_base.specs.Links.{link}
use Rattle.dc_base.specs.declared.flights.Flight.TheVariants as flight
use Rattle.dc_base.specs.declared.nodes.Class.TheVariants.{Ctl}
use Rattle.dc_base.specs.declared.nodes.Node.{Node}
use Rattle.dc_base.specs.declared.nodes.Node.TheVariants.{M}
use Rattle.dc_base.specs.declared.records.Rec.TheVariants as rec
use Rattle.dc_base.specs.declared.records.StatusTransfer.{StatusTransfer}
use Rattle.node_rules.specs.Adopting.{status_in}
use Rattle.node_rules.specs.Anchor.{AnchorState, setup_at}
use Rattle.node_rules.specs.AnchorSending.{fail_scg, recover, unlock}
use Rattle.node_rules.specs.Choices.{Choices, Send}
use Rattle.node_rules.specs.Effects.{in_turn, quiet}
use Rattle.node_rules.specs.Feed.{Fed}
use Rattle.node_rules.specs.Held.{held, identities}
use Rattle.node_rules.specs.SecondPlan.{second_act, second_does}
use Rattle.node_rules.specs.SecondState.{SecondActs}
use Rattle.node_rules.specs.Secondary.{SecondNode, anchored, fed_did, is_fed_of, name_of, on_fed, on_fed_of, second_effects, within}
use Rattle.node_rules.specs.declared.acts.Act.{Act}
use Rattle.node_rules.specs.declared.acts.Act.TheVariants.{FailOne as fail_one, Go as go, Pass as pass, Prepare as prepare, RecoverOne as recover_one, Say as say, Send as send, UnlockAll as unlock_all}
use Rattle.node_rules.specs.declared.bearers.AnchorOut.{AnchorOut}
use Rattle.node_rules.specs.declared.commands.Membership.{Membership}
use Rattle.node_rules.specs.declared.commands.Membership.TheVariants.{Joined as joined, Left as left, Outside as outside}
use Rattle.node_rules.specs.declared.inputs.Effects.{Effects}
use Rattle.run_control.specs.Orders.{Ascends}
use Rattle.run_control.specs.SecondControl.{SecondActDid, SecondActsDid, SecondDid, SecondProjects, Views, act_sends, act_view, acts_sends, acts_view, at_id, bare_flight, moved, opened_by, passed, record_to, views_within}
use Rattle.run_control.specs.Traffic.{Keeps, OnStatus, adopts_at_once, notes, passes}
use Rattle.run_control.specs.Views.{View, at_stage, has_status, holds, second_view}
use Rattle.run_control.proofs.Anchors.{fail_keeps, recover_keeps, unlock_opens}
use Rattle.run_control.proofs.Arrivals.{status_is}
use Rattle.run_control.proofs.Ascending.{ascends_with}
use Rattle.master_runs.proofs.Holding.{held-cons}
use Rattle.run_control.proofs.Holding.{seen_again, seen_with}
use Rattle.run_control.proofs.SecondItems.{items_did, unchanged, with_told}
use Rattle.run_control.proofs.Seconds.{effects_moved, effects_none, fed_view, setup_g}
use Rattle.run_control.proofs.Sequences.{Alike, at_alike, at_same, carried_alike, items_alike, no_records, records_both}

-- nothing is done
idle : (s : SecondNode) → Ascends s.anchors → SecondDid s (second_view s) [] (s, quiet)
idle s up = record { proc = refl; after = λ k. refl; told = refl; ascends = up }

-- ---- an anchor that stays

kept_fed : (s : SecondNode) (id : ℕ) (x : Fed) (done : Fed × AnchorOut) → Ascends s.anchors → held id s.anchors ≡ Some x → Keeps x.anchor (done.0.anchor, done.1) → SecondDid s (second_view s) [] (fed_did s id done)
kept_fed s id x done up at is = record {
  proc = refl;
  after = λ k. seen_again fed_view id k done.0 x s.anchors at is.view;
  told = no_records (second_effects (name_of s) id (setup_at done.0.anchor).g done.1).sends (effects_none (name_of s) id (setup_at done.0.anchor).g done.1 is.stays is.sends);
  ascends = ascends_with 0 id done.0 s.anchors (omega arith) up;
}

kept_if_there : (s : SecondNode) (id : ℕ) (f : AnchorState → AnchorState × AnchorOut) (o : Option Fed) → ((a : AnchorState) → Keeps a (f a)) → Ascends s.anchors → held id s.anchors ≡ o
    → SecondDid s (second_view s) [] (on_fed s id f o)
kept_if_there s id f None is up at = idle s up
kept_if_there s id f (Some x) is up at = kept_fed s id x (anchored x (f x.anchor)) up at (is x.anchor)

either_did : (s : SecondNode) (views : Views) (told : List Send) (b : Bool) (x y : SecondNode × Effects) → SecondDid s views told x → SecondDid s views told y → SecondDid s views told (if b then x else y)
either_did s views told true x y p q = p
either_did s views told false x y p q = q

failed_did : (c : Choices) (s : SecondNode) (id g : ℕ) → Ascends s.anchors → SecondDid s (second_view s) [] (on_fed_of s g (fail_scg c) id (held id s.anchors))
failed_did c s id g up =
    either_did s (second_view s) [] (is_fed_of g (held id s.anchors)) (on_fed s id (fail_scg c) (held id s.anchors)) (s, quiet)
    (kept_if_there s id (fail_scg c) (held id s.anchors) (λ a. fail_keeps c a) up refl) (idle s up)

-- ---- the anchors of a generation open

opened_fed : (c : Choices) (s : SecondNode) (id g : ℕ) (x : Fed) (own : Bool) → Ascends s.anchors → held id s.anchors ≡ Some x → ((setup_at x.anchor).g == g) ≡ own
    → SecondDid s (at_id id (opened_by g (second_view s id)) (second_view s)) [] (if own then on_fed s id (unlock c) (Some x) else (s, quiet))
opened_fed c s id g x true up at own =
    let done = anchored x (unlock c x.anchor) in
    let is = unlock_opens c x.anchor in
    let seen : second_view s id ≡ Some (fed_view x) = ap (λ o. option_map fed_view o) at in
    let mine : ((fed_view x).bearer.g == g) ≡ true = ap (λ n. n == g) (sym (setup_g x.anchor)) ∙ own in
    let new : opened_by g (second_view s id) ≡ Some (record (fed_view x) { opened = true }) =
    ap (opened_by g) seen ∙ ap (λ b. Some (if b then record (fed_view x) { opened = true } else fed_view x)) mine in
    record {
      proc = refl;
      after = λ k. seen_with fed_view id k done.0 s.anchors ∙ ap (λ z. if id == k then z else second_view s k) (ap (λ v. Some v) is.view ∙ sym new);
      told = no_records (second_effects (name_of s) id (setup_at done.0.anchor).g done.1).sends (effects_none (name_of s) id (setup_at done.0.anchor).g done.1 is.stays is.sends);
      ascends = ascends_with 0 id done.0 s.anchors (omega arith) up;
    }
opened_fed c s id g x false up at own =
    let seen : second_view s id ≡ Some (fed_view x) = ap (λ o. option_map fed_view o) at in
    let other : ((fed_view x).bearer.g == g) ≡ false = ap (λ n. n == g) (sym (setup_g x.anchor)) ∙ own in
    let old : opened_by g (second_view s id) ≡ Some (fed_view x) =
    ap (opened_by g) seen ∙ ap (λ b. Some (if b then record (fed_view x) { opened = true } else fed_view x)) other in
    unchanged s id (opened_by g (second_view s id)) up (seen ∙ sym old)

opened_did : (c : Choices) (s : SecondNode) (id g : ℕ) (o : Option Fed) → Ascends s.anchors → held id s.anchors ≡ o
    → SecondDid s (at_id id (opened_by g (second_view s id)) (second_view s)) [] (on_fed_of s g (unlock c) id o)
opened_did c s id g None up at =
    let seen : second_view s id ≡ None = ap (λ o. option_map fed_view o) at in
    unchanged s id (opened_by g (second_view s id)) up (seen ∙ sym (ap (opened_by g) seen))
opened_did c s id g (Some x) up at = opened_fed c s id g x ((setup_at x.anchor).g == g) up at refl

-- of these identities, in turn
abbrev pub opened_in : ℕ → List ℕ → Views → Views
opened_in g [] v = v
opened_in g (id ∷ ids) v = opened_in g ids (at_id id (opened_by g (v id)) v)

pub opened_alike : (g : ℕ) (ids : List ℕ) (v w : Views) → Alike v w → Alike (opened_in g ids v) (opened_in g ids w)
opened_alike g [] v w same = same
opened_alike g (id ∷ ids) v w same = opened_alike g ids _ _ (at_alike id _ _ v w (ap (opened_by g) (same id)) same)

opened_twice : (g : ℕ) (o : Option View) → opened_by g (opened_by g o) ≡ opened_by g o
opened_twice g None = refl
opened_twice g (Some v) = by (v.bearer.g == g) refl
  where
    by : (b : Bool) → (v.bearer.g == g) ≡ b → opened_by g (Some (if b then record v { opened = true } else v)) ≡ Some (if b then record v { opened = true } else v)
    by true own = ap (λ b. Some (if b then record v { opened = true } else record v { opened = true })) own
    by false other = ap (λ b. Some (if b then record v { opened = true } else v)) other

pub opened_at : (g : ℕ) (ids : List ℕ) (v : Views) (k : ℕ) → opened_in g ids v k ≡ (if list_any (λ id. id == k) ids then opened_by g (v k) else v k)
opened_at g [] v k = refl
opened_at g (id ∷ ids) v k =
    let more = opened_at g ids (at_id id (opened_by g (v id)) v) k in
    elim (cases_Bool (id == k)) [
      | inl here ↦
          let now : at_id id (opened_by g (v id)) v k ≡ opened_by g (v k) = ap (λ b. if b then opened_by g (v id) else v k) here ∙ ap (λ j. opened_by g (v j)) (eqb-true id k here) in
          let done : opened_in g (id ∷ ids) v k ≡ opened_by g (v k) =
          more ∙ ap (λ z. if list_any (λ j. j == k) ids then opened_by g z else z) now ∙ both_ways (list_any (λ j. j == k) ids) (opened_by g (v k)) (opened_twice g (v k)) in
          rw here done
      | inr apart ↦
          let now : at_id id (opened_by g (v id)) v k ≡ v k = ap (λ b. if b then opened_by g (v id) else v k) apart in
          let done : opened_in g (id ∷ ids) v k ≡ (if list_any (λ j. j == k) ids then opened_by g (v k) else v k) = more ∙ ap (λ z. if list_any (λ j. j == k) ids then opened_by g z else z) now in
          rw apart done
    ]
  where
    both_ways : (b : Bool) (o : Option View) → opened_by g o ≡ o → (if b then opened_by g o else o) ≡ o
    both_ways true o is = is
    both_ways false o is = refl

pub not_in : {X : Type 0} (k : ℕ) (xs : List (ℕ × X)) → list_any (λ id. id == k) (identities xs) ≡ false → held k xs ≡ None
not_in k [] none = refl
not_in k (x ∷ xs) none =
    elim (cases_Bool (x.0 == k)) [
      | inl here ↦ absurd (false_is (sym none ∙ ap (λ b. b || list_any (λ id. id == k) (identities xs)) here))
      | inr apart ↦
          held-cons k x xs ∙ ap (λ b. if b then Some x.1 else held k xs) (ne_eqb k x.0 (λ same. eqb-false x.0 k apart (sym same)))
          ∙ not_in k xs (sym (ap (λ b. b || list_any (λ id. id == k) (identities xs)) apart) ∙ none)
    ]
  where
    false_is : false ≡ true → ⊥
    false_is e = absurd cc

-- so all of the generation open
pub all_opened : {X : Type 0} (f : X → View) (g : ℕ) (xs : List (ℕ × X)) (k : ℕ) → opened_in g (identities xs) (λ j. option_map f (held j xs)) k ≡ opened_by g (option_map f (held k xs))
all_opened f g xs k =
    let v : Views = λ j. option_map f (held j xs) in
    elim (cases_Bool (list_any (λ id. id == k) (identities xs))) [
      | inl there ↦ opened_at g (identities xs) v k ∙ ap (λ b. if b then opened_by g (v k) else v k) there
      | inr none ↦
          let gone : v k ≡ None = ap (λ o. option_map f o) (not_in k xs none) in
          opened_at g (identities xs) v k ∙ ap (λ b. if b then opened_by g (v k) else v k) none ∙ gone ∙ sym (ap (opened_by g) gone)
    ]

opened_each : (c : Choices) (g : ℕ) (s : SecondNode) (ids : List ℕ) → Ascends s.anchors
    → SecondDid s (opened_in g ids (second_view s)) [] (in_turn (λ n id. on_fed_of n g (unlock c) id (held id n.anchors)) s ids)
opened_each c g s [] up = idle s up
opened_each c g s (id ∷ ids) up =
    let step = λ (n : SecondNode) (i : ℕ). on_fed_of n g (unlock c) i (held i n.anchors) in
    let here = step s id in
    let one = opened_did c s id g (held id s.anchors) up refl in
    let more = opened_each c g here.0 ids one.ascends in
    record {
      proc = more.proc ∙ one.proc;
      after = λ k. more.after k ∙ opened_alike g ids (second_view here.0) (at_id id (opened_by g (second_view s id)) (second_view s)) one.after k;
      told = records_both here.1.sends (in_turn step here.0 ids).1.sends one.told more.told;
      ascends = more.ascends;
    }

unlocked_did : (c : Choices) (g : ℕ) (s : SecondNode) → Ascends s.anchors
    → SecondDid s (λ k. opened_by g (second_view s k)) [] (in_turn (λ n id. on_fed_of n g (unlock c) id (held id n.anchors)) s (identities s.anchors))
unlocked_did c g s up =
    let is = opened_each c g s (identities s.anchors) up in
    record { proc = is.proc; after = λ k. is.after k ∙ all_opened fed_view g s.anchors k; told = is.told; ascends = is.ascends }

-- ---- a status transfer

-- for some `adopts`
record PassDid (me : Node) (s : SecondNode) (st : StatusTransfer) (done : SecondNode × Effects) : Type 0 where
  pub adopts : Bool
  pub is : SecondDid s (at_id st.id (passed st adopts (second_view s st.id)) (second_view s)) (moved me st adopts (second_view s st.id)) done

status_fed : (s : SecondNode) (st : StatusTransfer) (x : Fed) (done : Fed × AnchorOut) → Ascends s.anchors → held st.id s.anchors ≡ Some x → OnStatus st x.anchor (done.0.anchor, done.1)
    → PassDid (name_of s) s st (fed_did s st.id done)
status_fed s st x done up at (passes other is) =
    let seen : second_view s st.id ≡ Some (fed_view x) = ap (λ o. option_map fed_view o) at in
    let old : passed st false (second_view s st.id) ≡ Some (fed_view x) = ap (passed st false) seen ∙ ap (λ b. Some (if b then at_stage has_status (fed_view x) else fed_view x)) other in
    let none : moved (name_of s) st false (second_view s st.id) ≡ [] =
    ap (moved (name_of s) st false) seen ∙ ap (λ b. if b && false then record_to (name_of s) M (rec.Moved (fed_view x).bearer.g st.id) ∷ [] else []) other in
    let kept = kept_fed s st.id x done up at is in
    record {
      adopts = false;
      is = record {
        proc = kept.proc;
        after = λ k. kept.after k ∙ at_same st.id k (second_view s) ∙ ap (λ z. at_id st.id z (second_view s) k) (seen ∙ sym old);
        told = kept.told ∙ sym none;
        ascends = kept.ascends;
      };
    }
status_fed s st x done up at (notes awaited stays view sends) =
    let seen : second_view s st.id ≡ Some (fed_view x) = ap (λ o. option_map fed_view o) at in
    let new : passed st false (second_view s st.id) ≡ Some (at_stage has_status (fed_view x)) =
    ap (passed st false) seen ∙ ap (λ b. Some (if b then at_stage has_status (fed_view x) else fed_view x)) awaited in
    let none : moved (name_of s) st false (second_view s st.id) ≡ [] =
    ap (moved (name_of s) st false) seen ∙ ap (λ b. if b && false then record_to (name_of s) M (rec.Moved (fed_view x).bearer.g st.id) ∷ [] else []) awaited in
    record {
      adopts = false;
      is = record {
        proc = refl;
        after = λ k. seen_with fed_view st.id k done.0 s.anchors ∙ ap (λ z. if st.id == k then z else second_view s k) (ap (λ v. Some v) view ∙ sym new);
        told = no_records (second_effects (name_of s) st.id (setup_at done.0.anchor).g done.1).sends (effects_none (name_of s) st.id (setup_at done.0.anchor).g done.1 stays sends) ∙ sym none;
        ascends = ascends_with 0 st.id done.0 s.anchors (omega arith) up;
      };
    }
status_fed s st x done up at (adopts_at_once awaited adopted view sends) =
    let seen : second_view s st.id ≡ Some (fed_view x) = ap (λ o. option_map fed_view o) at in
    let new : passed st true (second_view s st.id) ≡ Some (at_stage holds (fed_view x)) =
    ap (passed st true) seen ∙ ap (λ b. Some (if b then at_stage holds (fed_view x) else fed_view x)) awaited in
    let one : moved (name_of s) st true (second_view s st.id) ≡ record_to (name_of s) M (rec.Moved (fed_view x).bearer.g st.id) ∷ [] =
    ap (moved (name_of s) st true) seen ∙ ap (λ b. if b && true then record_to (name_of s) M (rec.Moved (fed_view x).bearer.g st.id) ∷ [] else []) awaited in
    record {
      adopts = true;
      is = record {
        proc = refl;
        after = λ k. seen_with fed_view st.id k done.0 s.anchors ∙ ap (λ z. if st.id == k then z else second_view s k) (ap (λ v. Some v) view ∙ sym new);
        told = ap (λ (zs : List Send). map (λ (z : Send). (z.0, bare_flight z.1)) zs)
            (effects_moved (name_of s) st.id (setup_at done.0.anchor).g done.1 adopted sends
            ∙ ap (λ g. (link (name_of s) M Ctl, flight.Ctl (rec.Moved g st.id)) ∷ []) (setup_g done.0.anchor ∙ ap (λ (v : View). v.bearer.g) view))
            ∙ sym one;
        ascends = ascends_with 0 st.id done.0 s.anchors (omega arith) up;
      };
    }

pass_did : (c : Choices) (s : SecondNode) (st : StatusTransfer) (o : Option Fed) → Ascends s.anchors → held st.id s.anchors ≡ o → PassDid (name_of s) s st (on_fed s st.id (λ a. status_in c a st) o)
pass_did c s st None up at =
    let seen : second_view s st.id ≡ None = ap (λ o. option_map fed_view o) at in
    record {
      adopts = false;
      is = with_told s (at_id st.id (passed st false (second_view s st.id)) (second_view s)) [] (moved (name_of s) st false (second_view s st.id)) (s, quiet) (sym (ap (moved (name_of s) st false) seen))
          (unchanged s st.id (passed st false (second_view s st.id)) up (seen ∙ sym (ap (passed st false) seen)));
    }
pass_did c s st (Some x) up at = status_fed s st x (anchored x (status_in c x.anchor st)) up at (status_is c x.anchor st)

-- ---- an act

as_act : (s : SecondNode) (a : Act) (b : Bool) (done : SecondNode × Effects) → SecondDid s (act_view (name_of s) b a (second_view s)) (act_sends (name_of s) b a (second_view s)) done → SecondActDid (name_of s) s a done
as_act s a b done is = record { adopts = b; is = is }

own_act : (c : Choices) (key : List ℕ) (s : SecondNode) (a : Act) → Ascends s.anchors → SecondActDid (name_of s) s a (second_act c key s a)
own_act c key s (send to r) up = as_act s (send to r) false _ (record { proc = refl; after = λ k. refl; told = refl; ascends = up })
own_act c key s (prepare p) up = as_act s (prepare p) false _ (idle s up)
own_act c key s (go p) up = as_act s (go p) false _ (items_did (name_of s) key p s p.items refl up)
own_act c key s (unlock_all g) up = as_act s (unlock_all g) false _ (unlocked_did c g s up)
own_act c key s (say n) up = as_act s (say n) false _ (record { proc = refl; after = λ k. refl; told = refl; ascends = up })
own_act c key s (recover_one id) up = as_act s (recover_one id) false _ (kept_if_there s id (recover c) (held id s.anchors) (λ a. recover_keeps c a) up refl)
own_act c key s (fail_one id g) up = as_act s (fail_one id g) false _ (failed_did c s id g up)
own_act c key s (pass st) up = let did = pass_did c s st (held st.id s.anchors) up refl in as_act s (pass st) did.adopts _ did.is

act_did : (me : Node) (c : Choices) (key : List ℕ) (s : SecondNode) (a : Act) → name_of s ≡ me → Ascends s.anchors → SecondActDid me s a (second_act c key s a)
act_did me c key s a named up = subst (λ x. SecondActDid x s a (second_act c key s a)) named (own_act c key s a up)

-- ---- several

opened_all_alike : (g : ℕ) (v w : Views) → Alike v w → Alike (λ k. opened_by g (v k)) (λ k. opened_by g (w k))
opened_all_alike g v w same k = ap (opened_by g) (same k)

act_alike : (me : Node) (b : Bool) (a : Act) (v w : Views) → Alike v w → Alike (act_view me b a v) (act_view me b a w)
act_alike me b (send to r) v w same = same
act_alike me b (prepare p) v w same = same
act_alike me b (go p) v w same = carried_alike me p p.items v w same
act_alike me b (unlock_all g) v w same = opened_all_alike g v w same
act_alike me b (say n) v w same = same
act_alike me b (recover_one id) v w same = same
act_alike me b (fail_one id g) v w same = same
act_alike me b (pass st) v w same = at_alike st.id _ _ v w (ap (passed st b) (same st.id)) same

act_sends_alike : (me : Node) (b : Bool) (a : Act) (v w : Views) → Alike v w → act_sends me b a v ≡ act_sends me b a w
act_sends_alike me b (send to r) v w same = refl
act_sends_alike me b (prepare p) v w same = refl
act_sends_alike me b (go p) v w same = items_alike me p p.items v w same
act_sends_alike me b (unlock_all g) v w same = refl
act_sends_alike me b (say n) v w same = refl
act_sends_alike me b (recover_one id) v w same = refl
act_sends_alike me b (fail_one id g) v w same = refl
act_sends_alike me b (pass st) v w same = ap (moved me st b) (same st.id)

pub acts_alike : (me : Node) (acts : List (Bool × Act)) (v w : Views) → Alike v w → Alike (acts_view me acts v) (acts_view me acts w)
acts_alike me [] v w same = same
acts_alike me (a ∷ acts) v w same = acts_alike me acts _ _ (act_alike me a.0 a.1 v w same)

pub acts_sends_alike : (me : Node) (acts : List (Bool × Act)) (v w : Views) → Alike v w → acts_sends me acts v ≡ acts_sends me acts w
acts_sends_alike me [] v w same = refl
acts_sends_alike me (a ∷ acts) v w same =
    ap (λ zs. zs ++ acts_sends me acts (act_view me a.0 a.1 v)) (act_sends_alike me a.0 a.1 v w same)
    ∙ ap (λ zs. act_sends me a.0 a.1 w ++ zs) (acts_sends_alike me acts _ _ (act_alike me a.0 a.1 v w same))

pub acts_did : (me : Node) (c : Choices) (key : List ℕ) (s : SecondNode) (acts : List Act) → name_of s ≡ me → Ascends s.anchors → SecondActsDid me s (second_view s) acts (in_turn (second_act c key) s acts)
acts_did me c key s [] named up = record { chosen = []; all = refl; is = idle s up }
acts_did me c key s (a ∷ acts) named up =
    let here = second_act c key s a in
    let one = act_did me c key s a named up in
    let more = acts_did me c key here.0 acts (ap (λ q. q.me) one.is.proc ∙ named) one.is.ascends in
    record {
      chosen = (one.adopts, a) ∷ more.chosen;
      all = ap (λ zs. a ∷ zs) more.all;
      is = record {
        proc = more.is.proc ∙ one.is.proc;
        after = λ k. more.is.after k ∙ acts_alike me more.chosen (second_view here.0) (act_view me one.adopts a (second_view s)) one.is.after k;
        told = records_both here.1.sends (in_turn (second_act c key) here.0 acts).1.sends one.is.told
            (more.is.told ∙ acts_sends_alike me more.chosen (second_view here.0) (act_view me one.adopts a (second_view s)) one.is.after);
        ascends = more.is.ascends;
      };
    }

-- ---- a step of the procedures

within_view : (m : Membership) (s : SecondNode) (k : ℕ) → second_view (within m s) k ≡ views_within m (second_view s) k
within_view outside s k = refl
within_view joined s k = refl
within_view left s k = refl

within_ascends : (m : Membership) (s : SecondNode) → Ascends s.anchors → Ascends (within m s).anchors
within_ascends outside s up = tt
within_ascends joined s up = up
within_ascends left s up = up

within_proc : (m : Membership) (s : SecondNode) → (within m s).proc ≡ s.proc
within_proc outside s = refl
within_proc joined s = refl
within_proc left s = refl

pub does_projects : (c : Choices) (key : List ℕ) (s : SecondNode) (acts : SecondActs) → Ascends s.anchors → SecondProjects s acts (second_does c key s acts)
does_projects c key s acts up =
    let s' : SecondNode = record s { proc = acts.0 } in
    let m = acts.0.membership in
    let did = acts_did acts.0.me c key (within m s') acts.1 (ap (λ q. q.me) (within_proc m s')) (within_ascends m s' up) in
    record {
      chosen = did.chosen;
      all = did.all;
      proc = did.is.proc ∙ within_proc m s';
      after = λ k. did.is.after k ∙ acts_alike acts.0.me did.chosen (second_view (within m s')) (views_within m (second_view s)) (within_view m s') k;
      told = did.is.told ∙ acts_sends_alike acts.0.me did.chosen (second_view (within m s')) (views_within m (second_view s)) (within_view m s');
      ascends = did.is.ascends;
    }
