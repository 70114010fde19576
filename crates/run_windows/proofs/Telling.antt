-- The windows of the master after each of its steps, as they are seen of the notes.
use Rattle.std.proofs.Common.{ℕ, ◌≡◌, ◌+◌, ◌==◌, ◌++◌, Bool, true, false, List, [], ◌∷◌, Option, Some, None, refl, sym, ap, subst, ◌∙◌, arith, inl, inr}
use Rattle.std.specs.Prelude.{fold, filter, is_some, nat_lt, not, if◌then◌else◌}
use Rattle.std.specs.List.{AllByRecursion, flat_map}
use Rattle.std.proofs.lemmas.Bool.{cases_Bool, eqb-true, ltb-true}
use Rattle.dc_base.specs.declared.events.Note.{Note}
use Rattle.dc_base.specs.declared.events.Note.TheVariants as note
use Rattle.dc_base.specs.declared.nodes.Dir.TheVariants.{Ul}
use Rattle.dc_base.specs.declared.nodes.Node.{Node}
use Rattle.dc_base.specs.declared.nodes.Node.TheVariants.{A, B, M, T}
use Rattle.dc_base.specs.declared.numbers.SnLen.{SnLen}
use Rattle.dc_base.specs.declared.records.Item.{Item}
use Rattle.dc_base.specs.declared.records.Item.TheVariants as item
use Rattle.dc_base.specs.declared.records.Plan.{Plan}
use Rattle.node_rules.specs.declared.acts.Act.{Act}
use Rattle.node_rules.specs.declared.acts.Act.TheVariants.{FailOne as fail_one, Go as go, Pass as pass, Prepare as prepare, RecoverOne as recover_one, Say as say, Send as send, UnlockAll as unlock_all}
use Rattle.node_rules.specs.declared.bearers.AnchorOut.{AnchorOut}
use Rattle.node_rules.specs.declared.bearers.Window.{Window}
use Rattle.node_rules.specs.declared.commands.Row.{Row}
use Rattle.node_rules.specs.declared.inputs.Effects.{Effects}
use Rattle.node_rules.specs.Anchor.{AnchorState, active_anchor, setup_at, waiting_anchor}
use Rattle.node_rules.specs.AnchorSending.{fail_scg, recover, unlock}
use Rattle.node_rules.specs.Choices.{Choices}
use Rattle.node_rules.specs.Effects.{in_turn}
use Rattle.node_rules.specs.Held.{held, holding, identities}
use Rattle.node_rules.specs.Master.{MasterNode, without_waiting, anchor_did, handed_up, low_rises, on_anchor, on_anchor_of, told_by, window_told}
use Rattle.node_rules.specs.MasterPlan.{carries_item, does, frozen_here, line_end, is_rejection, master_act, master_did, master_part, master_setup, prepares_item, prepares_part, renewed_here, says, with_host_and_window}
use Rattle.node_rules.specs.MasterState.{MasterActs}
use Rattle.dc_base.specs.Nodes.{is_same_node}
use Rattle.dc_base.specs.Records.{item_id}
use Rattle.node_rules.specs.Lines.{place}
use Rattle.node_rules.specs.Parts.{part_at}
use Rattle.node_rules.specs.Places.{anchor_at}
use Rattle.node_rules.specs.declared.parts.Part.{Part}
use Rattle.node_rules.specs.declared.parts.Part.TheVariants.{Establishes as establishes, Renews as renews, Awaits as awaits, HandsOver as hands_over, Drops as drops, HasNoAnchor as has_no_anchor}
use Rattle.node_rules.specs.Setup.{Setup}
use Rattle.master_runs.proofs.Holding.{held-same, held-other}
use Rattle.run_windows.specs.ActNotes.{IsKept, IsPlain, act_notes, acts_notes}
use Rattle.run_windows.specs.Controls.{controls, is_control}
use Rattle.run_windows.specs.Seen.{Seen, with_note}
use Rattle.run_windows.specs.Windows.{AreCounted, Ascends}
use Rattle.run_windows.proofs.Keys.{ascends-out, ascends-put, out-other, out-same}
use Rattle.run_windows.proofs.Latest.{counted_done, counted_freed, counted_held}

-- the master went from one state to another with these notes: its windows are counted as before, for the same bearers, its
-- procedures are as they were, and of the notes these begin or end a command
pub record Tells (m after : MasterNode) (ns : List Note) (cs : List Note) : Type 0 where
  pub counted : (pend : Option (ℕ × SnLen × ℕ)) (s : Seen) → AreCounted pend s.bearers m.windows → AreCounted pend (fold with_note s ns).bearers after.windows
  pub there : Ascends 0 m.windows → Ascends 0 after.windows × ((id : ℕ) → is_some (held id after.windows) ≡ is_some (held id m.windows))
  pub proc : after.proc ≡ m.proc
  pub said : controls ns ≡ cs

fold_append : (s : Seen) (xs ys : List Note) → fold with_note s (xs ++ ys) ≡ fold with_note (fold with_note s xs) ys
fold_append s [] ys = refl
fold_append s (x ∷ xs) ys = fold_append (with_note s x) xs ys

filter_append : (f : Note → Bool) (xs ys : List Note) → filter f (xs ++ ys) ≡ filter f xs ++ filter f ys
filter_append f [] ys = refl
filter_append f (x ∷ xs) ys =
    elim (cases_Bool (f x)) [ inl yes' ↦ rw yes' (ap (λ zs. x ∷ zs) (filter_append f xs ys)) | inr no' ↦ rw no' (filter_append f xs ys) ]

pub controls_append : (xs ys : List Note) → controls (xs ++ ys) ≡ controls xs ++ controls ys
controls_append xs ys = filter_append is_control xs ys

pub tells_then : (m k n : MasterNode) (xs ys cs ds : List Note) → Tells m k xs cs → Tells k n ys ds → Tells m n (xs ++ ys) (cs ++ ds)
tells_then m k n xs ys cs ds first next = record {
  counted = λ pend s is. subst (λ (t : Seen). AreCounted pend t.bearers n.windows) (sym (fold_append s xs ys)) (next.counted pend (fold with_note s xs) (first.counted pend s is));
  there = λ up. let x = first.there up in let y = next.there x.0 in (y.0, λ id. y.1 id ∙ x.1 id);
  proc = next.proc ∙ first.proc;
  said = filter_append is_control xs ys ∙ ap (λ zs. zs ++ controls ys) first.said ∙ ap (λ zs. cs ++ zs) next.said;
}

-- nothing is told
pub tells_nothing : (m : MasterNode) → Tells m m [] []
tells_nothing m = record { counted = λ pend s is. is; there = λ up. (up, λ id. refl); proc = refl; said = refl }

-- notes of which nothing is seen, where the windows stay
pub tells_unseen : (m n : MasterNode) (ns : List Note) → n.windows ≡ m.windows → n.proc ≡ m.proc → ((s : Seen) → fold with_note s ns ≡ s) → controls ns ≡ [] → Tells m n ns []
tells_unseen m n ns same proc unseen none = record {
  counted = λ pend s is.
      subst (λ ws. AreCounted pend (fold with_note s ns).bearers ws) (sym same) (subst (λ (t : Seen). AreCounted pend t.bearers m.windows) (sym (unseen s)) is);
  there = λ up. (subst (λ ws. Ascends 0 ws) (sym same) up, λ id. ap (λ ws. is_some (held id ws)) same);
  proc = proc;
  said = none;
}

-- ---- windows

window_tells : (m : MasterNode) (id count : ℕ) (o : Option Window) → held id m.windows ≡ o → Tells m (window_told m id count o).0 (window_told m id count o).1.notes []
window_tells m id count None at = tells_nothing m
window_tells m id count (Some w) at =
    elim (cases_Bool (nat_lt w.told count)) [
      | inl rises ↦ rw rises (record {
        counted = λ pend s is. counted_freed pend s.bearers m.windows is id w count at (ltb-true w.told count rises);
        there = λ up. (ascends-put 0 id (record w { told = count }) m.windows (omega arith) up, there rises);
        proc = refl;
        said = refl;
      })
      | inr stays ↦ rw stays (tells_nothing m)
    ]
  where
    there : nat_lt w.told count ≡ true → (k : ℕ) → is_some (held k (holding id (Some (record w { told = count })) m.windows)) ≡ is_some (held k m.windows)
    there rises k =
        elim (cases_Bool (id == k)) [
          | inl same ↦
              let here : id ≡ k = eqb-true id k same in
              subst (λ j. is_some (held j (holding id (Some (record w { told = count })) m.windows)) ≡ is_some (held j m.windows)) here
              (ap is_some (held-same id (record w { told = count }) m.windows) ∙ sym (ap is_some at))
          | inr other ↦ ap is_some (held-other id k (record w { told = count }) m.windows other)
        ]

low_tells : (m : MasterNode) (id : ℕ) (o : Option ℕ) → Tells m (low_rises m id o).0 (low_rises m id o).1.notes []
low_tells m id None = tells_nothing m
low_tells m id (Some count) = window_tells m id count (held id m.windows) refl

pub told_tells : (m : MasterNode) (id g count : ℕ) (o : Option Row) → Tells m (told_by m id g count o).0 (told_by m id g count o).1.notes []
told_tells m id g count None = tells_nothing m
told_tells m id g count (Some r) =
    elim (cases_Bool (nat_lt g r.est)) [ inl earlier ↦ rw earlier (tells_nothing m) | inr not' ↦ rw not' (window_tells m id count (held id m.windows) refl) ]

-- ---- anchors

ups_unseen : (id : ℕ) (ups : List (ℕ × List ℕ)) (s : Seen) → fold with_note s (handed_up M id Ul ups) ≡ s
ups_unseen id [] s = refl
ups_unseen id (u ∷ ups) s = ups_unseen id ups s

ups_quiet : (id : ℕ) (ups : List (ℕ × List ℕ)) → controls (handed_up M id Ul ups) ≡ []
ups_quiet id [] = refl
ups_quiet id (u ∷ ups) = ups_quiet id ups

pub anchor_tells : (m : MasterNode) (id : ℕ) (done : AnchorState × AnchorOut) → Tells m (anchor_did m id done).0 (anchor_did m id done).1.notes []
anchor_tells m id done =
    let k = record m { anchors = holding id (Some done.0) m.anchors } in
    tells_then m k (low_rises k id done.1.low).0 (handed_up M id Ul done.1.ups) (low_rises k id done.1.low).1.notes [] []
    (tells_unseen m k (handed_up M id Ul done.1.ups) refl refl (ups_unseen id done.1.ups) (ups_quiet id done.1.ups)) (low_tells k id done.1.low)

pub on_anchor_tells : (m : MasterNode) (id : ℕ) (f : AnchorState → AnchorState × AnchorOut) (o : Option AnchorState) → Tells m (on_anchor m id f o).0 (on_anchor m id f o).1.notes []
on_anchor_tells m id f None = tells_nothing m
on_anchor_tells m id f (Some a) = anchor_tells m id (f a)

on_anchor_of_tells : (m : MasterNode) (g : ℕ) (f : AnchorState → AnchorState × AnchorOut) (id : ℕ) (o : Option AnchorState)
    → Tells m (on_anchor_of m g f id o).0 (on_anchor_of m g f id o).1.notes []
on_anchor_of_tells m g f id None = tells_nothing m
on_anchor_of_tells m g f id (Some a) =
    elim (cases_Bool ((setup_at a).g == g)) [ inl same ↦ rw same (anchor_tells m id (f a)) | inr other ↦ rw other (tells_nothing m) ]

-- ---- one after another

module _ {X : Type 0} (f : MasterNode → X → MasterNode × Effects) (cs : X → List Note) (P : X → Type 0)
    (one : (m : MasterNode) (x : X) → P x → Tells m (f m x).0 (f m x).1.notes (cs x)) where
  each_tells : (m : MasterNode) (xs : List X) → AllByRecursion P xs → Tells m (in_turn f m xs).0 (in_turn f m xs).1.notes (flat_map cs xs)
  each_tells m [] all = tells_nothing m
  each_tells m (x ∷ xs) all =
      tells_then m (f m x).0 (in_turn f (f m x).0 xs).0 (f m x).1.notes (in_turn f (f m x).0 xs).1.notes (cs x) (flat_map cs xs) (one m x all.0) (each_tells (f m x).0 xs all.1)

-- of which no note begins or ends a command
module _ {X : Type 0} (f : MasterNode → X → MasterNode × Effects) (one : (m : MasterNode) (x : X) → Tells m (f m x).0 (f m x).1.notes []) where
  each_quiet : (m : MasterNode) (xs : List X) → Tells m (in_turn f m xs).0 (in_turn f m xs).1.notes []
  each_quiet m [] = tells_nothing m
  each_quiet m (x ∷ xs) =
      tells_then m (f m x).0 (in_turn f (f m x).0 xs).0 (f m x).1.notes (in_turn f (f m x).0 xs).1.notes [] [] (one m x) (each_quiet (f m x).0 xs)

-- ---- items

-- what was held is held again
again : (id : ℕ) (o : Option Window) (ws : List (ℕ × Window)) → Ascends 0 ws → held id ws ≡ o → (k : ℕ) → held k (holding id o ws) ≡ held k ws
again id None ws up at k =
    elim (cases_Bool (id == k)) [
      | inl same ↦ subst (λ j. held j (holding id None ws) ≡ held j ws) (eqb-true id k same) (out-same 0 id ws up ∙ sym at)
      | inr other ↦ out-other id k ws other
    ]
again id (Some w) ws up at k =
    elim (cases_Bool (id == k)) [
      | inl same ↦ subst (λ j. held j (holding id (Some w) ws) ≡ held j ws) (eqb-true id k same) (held-same id w ws ∙ sym at)
      | inr other ↦ held-other id k w ws other
    ]

ascends_holding : (id : ℕ) (o : Option Window) (ws : List (ℕ × Window)) → Ascends 0 ws → Ascends 0 (holding id o ws)
ascends_holding id None ws up = ascends-out 0 id ws up
ascends_holding id (Some w) ws up = ascends-put 0 id w ws (omega arith) up

pub no_line_notes : (g id : ℕ) (new old : Node) → (line_end g id new old).notes ≡ []
no_line_notes g id new M = refl
no_line_notes g id new T = refl
no_line_notes g id new A = elim (cases_Bool (is_same_node new A)) [ inl yes' ↦ rw yes' refl | inr no' ↦ rw no' refl ]
no_line_notes g id new B = elim (cases_Bool (is_same_node new B)) [ inl yes' ↦ rw yes' refl | inr no' ↦ rw no' refl ]

-- the part of the master in an item
renewed_tells : (m : MasterNode) (id g : ℕ) (s : Option Setup) (o : Option AnchorState) → Tells m (renewed_here m id g s o).0 (renewed_here m id g s o).1.notes []
renewed_tells m id g None o = tells_nothing m
renewed_tells m id g (Some s) None = tells_nothing m
renewed_tells m id g (Some s) (Some (waiting_anchor w)) = tells_nothing m
renewed_tells m id g (Some s) (Some (active_anchor a)) = tells_unseen m _ (note.Own M id g ∷ []) refl refl (λ s. refl) refl

frozen_tells : (m : MasterNode) (id g : ℕ) (to : Node) (o : Option AnchorState) → Tells m (frozen_here m id g to o).0 (frozen_here m id g to o).1.notes []
frozen_tells m id g to None = tells_nothing m
frozen_tells m id g to (Some (waiting_anchor w)) = tells_nothing m
frozen_tells m id g to (Some (active_anchor a)) = tells_unseen m _ (note.Give M id g ∷ []) refl refl (λ s. refl) refl

pub part_tells : (m : MasterNode) (p : Plan) (i : Item) (part : Part) → Tells m (master_part m p i part).0 (master_part m p i part).1.notes []
part_tells m p i establishes = tells_unseen m _ (note.Own M (item_id i) p.g ∷ []) refl refl (λ s. refl) refl
part_tells m p i renews = renewed_tells m (item_id i) p.g (master_setup m p i) (held (item_id i) m.anchors)
part_tells m p i awaits = tells_nothing m
part_tells m p i (hands_over to) = frozen_tells m (item_id i) p.g to (held (item_id i) m.anchors)
part_tells m p i drops = tells_unseen m _ [] refl refl (λ s. refl) refl
part_tells m p i has_no_anchor = tells_nothing m

-- an item of a bearer that was there before
kept_tells : (p : Plan) (m : MasterNode) (i : Item) → IsKept i → Tells m (carries_item p m i).0 (carries_item p m i).1.notes []
kept_tells p m (item.Set id n first shape threshold policy key (Some old)) kept =
    let i = item.Set id n first shape threshold policy key (Some old) in
    let k = with_host_and_window p m i in
    let part = part_at M p.sec i in
    let line = line_end p.g id (anchor_at p.sec shape) old in
    subst (λ ns. Tells m (master_part k p i part).0 (ns ++ (master_part k p i part).1.notes) []) (sym (no_line_notes p.g id (anchor_at p.sec shape) old))
    (tells_then m k (master_part k p i part).0 [] (master_part k p i part).1.notes [] [] (record {
      counted = λ pend s is. counted_held pend s.bearers m.windows is k.windows (again id (held id m.windows) m.windows is.ascends refl) (ascends_holding id (held id m.windows) m.windows is.ascends);
      there = λ up. (ascends_holding id (held id m.windows) m.windows up, λ j. ap is_some (again id (held id m.windows) m.windows up refl j));
      proc = refl;
      said = refl;
    }) (part_tells k p i part))
kept_tells p m (item.Set id n first shape threshold policy key None) kept = absurd kept
kept_tells p m (item.Unset id) kept = absurd kept

-- ---- acts

prepared_tells : (p : Plan) (m : MasterNode) (i : Item) → Tells m (prepares_item p m i).0 (prepares_item p m i).1.notes []
prepared_tells p m i = by (part_at M p.sec i)
  where
    by : (part : Part) → Tells m (prepares_part m p i part).0 (prepares_part m p i part).1.notes []
    by establishes = tells_nothing m
    by renews = tells_nothing m
    by awaits = tells_unseen m _ [] refl refl (λ s. refl) refl
    by (hands_over to) = tells_nothing m
    by drops = tells_nothing m
    by has_no_anchor = tells_nothing m

kept_all_tell : (p : Plan) (m : MasterNode) (items : List Item) → AllByRecursion IsKept items → Tells m (in_turn (carries_item p) m items).0 (in_turn (carries_item p) m items).1.notes []
kept_all_tell p m [] all = tells_nothing m
kept_all_tell p m (i ∷ items) all =
    let k = (carries_item p m i).0 in
    tells_then m k (in_turn (carries_item p) k items).0 (carries_item p m i).1.notes (in_turn (carries_item p) k items).1.notes [] [] (kept_tells p m i all.0) (kept_all_tell p k items all.1)

-- a note of the procedures
noted_counted : (n : Note) → (place n == 4) ≡ false → (pend : Option (ℕ × SnLen × ℕ)) (s : Seen) (ws : List (ℕ × Window)) → AreCounted pend s.bearers ws → AreCounted pend (with_note s n).bearers ws
noted_counted (note.Begin w) apart pend s ws is = is
noted_counted (note.Join x g) apart pend s ws is = is
noted_counted (note.Leave x g) apart pend s ws is = is
noted_counted (note.Give x id g) apart pend s ws is = is
noted_counted (note.Own x id g) apart pend s ws is = is
noted_counted (note.Set id g) apart pend s ws is = is
noted_counted (note.Unset id) apart pend s ws is = is
noted_counted (note.Up x id d count sdu) apart pend s ws is = is
noted_counted (note.Freed id d count) apart pend s ws is = let bad : true ≡ false = apart in cc
noted_counted (note.Confirmed x) apart pend s ws is = is
noted_counted (note.Refused x w) apart pend s ws is = is
noted_counted note.Done apart pend s ws is = counted_done pend s.bearers ws is s.kind
noted_counted note.Rejected apart pend s ws is = is

says_tells : (m : MasterNode) (n : Note) → (place n == 4) ≡ false → Tells m (says m n).0 (says m n).1.notes (controls (n ∷ []))
says_tells m n apart = by (is_rejection n)
  where
    by : (b : Bool) → Tells m (if b then without_waiting m else m) (n ∷ []) (controls (n ∷ []))
    by true = record { counted = λ pend s is. noted_counted n apart pend s m.windows is; there = λ up. (up, λ id. refl); proc = refl; said = refl }
    by false = record { counted = λ pend s is. noted_counted n apart pend s m.windows is; there = λ up. (up, λ id. refl); proc = refl; said = refl }

act_tells : (c : Choices) (m : MasterNode) (a : Act) → IsPlain a → Tells m (master_act c m a).0 (master_act c m a).1.notes (act_notes a)
act_tells c m (send to r) plain = tells_nothing m
act_tells c m (prepare p) plain = each_quiet (prepares_item p) (prepared_tells p) m p.items
act_tells c m (go p) plain = kept_all_tell p m p.items plain
act_tells c m (unlock_all g) plain =
    each_quiet (λ n id. on_anchor_of n g (unlock c) id (held id n.anchors)) (λ n id. on_anchor_of_tells n g (unlock c) id (held id n.anchors)) m (identities m.anchors)
act_tells c m (say n) plain = says_tells m n plain
act_tells c m (recover_one id) plain = on_anchor_tells m id (recover c) (held id m.anchors)
act_tells c m (fail_one id g) plain = on_anchor_of_tells m g (fail_scg c) id (held id m.anchors)
act_tells c m (pass st) plain = absurd plain

did_tells : (c : Choices) (m : MasterNode) (a : Act) → IsPlain a → Tells m (master_did c m a).0 (master_did c m a).1.notes (act_notes a)
did_tells c m (send to r) plain = act_tells c m (send to r) plain
did_tells c m (prepare p) plain = act_tells c m (prepare p) plain
did_tells c m (go p) plain = act_tells c m (go p) plain
did_tells c m (unlock_all g) plain = act_tells c m (unlock_all g) plain
did_tells c m (say n) plain = act_tells c m (say n) plain
did_tells c m (recover_one id) plain = act_tells c m (recover_one id) plain
did_tells c m (fail_one id g) plain = act_tells c m (fail_one id g) plain
did_tells c m (pass st) plain = absurd plain

-- all that the procedures have the master do
pub does_tells : (c : Choices) (m : MasterNode) (r : MasterActs) → AllByRecursion IsPlain r.1
    → Tells (record m { proc = r.0 }) (does c m r).0 (does c m r).1.notes (acts_notes r.1)
does_tells c m r plain = each_tells (master_act c) act_notes IsPlain (act_tells c) (record m { proc = r.0 }) r.1 plain

pub taken_tells : (c : Choices) (m : MasterNode) (acts : List Act) → AllByRecursion IsPlain acts
    → Tells m (in_turn (master_did c) m acts).0 (in_turn (master_did c) m acts).1.notes (acts_notes acts)
taken_tells c m acts plain = each_tells (master_did c) act_notes IsPlain (did_tells c) m acts plain
