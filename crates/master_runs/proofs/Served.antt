-- A bearer that is served is so after an entry; and what is under way.
use Rattle.std.proofs.Common.{Option, ℕ, zero, suc, ◌≡◌, ◌-◌, ◌<◌, ◌≤◌, ◌⊎◌, ◌++◌, List, [], ◌∷◌, Some, take, slice_get, refl, sym, ap, ◌∙◌, subst, arith, inl, inr, None, length, ◌==◌}
use Rattle.std.specs.List.{flat_map, remove}
use Rattle.std.proofs.lemmas.List.{append-nil, take-append-le}
use Rattle.std.proofs.lemmas.Option.{same_Some}
use Rattle.dc_base.specs.declared.numbers.SnLen.{SnLen}
use Rattle.dc_base.specs.declared.nodes.Dir.{Dir}
use Rattle.dc_base.specs.declared.flights.Flight.{Flight}
use Rattle.pdcp_tx.specs.Sender.{Sender}
use Rattle.pdcp_rx.specs.declared.entity.RxParts.{RxParts}
use Rattle.pdcp_rx.specs.Receiver.{Received}
use Rattle.transcript.specs.Transcript.{Entry, sends}
use Rattle.transcript.specs.Bearers.{Confirmation, Established, submission, submitted, ups, handed, numbered, confirmed, confirms, tag_of, tags_sent}
use Rattle.transcript.specs.Claims.{TakesData}
use Rattle.transcript.proofs.Growing.{SomeEntry-later}
use Rattle.master_runs.specs.Plane.{leg}
use Rattle.master_runs.specs.Control.{Nodes}
use Rattle.master_runs.specs.Links.{Links, on}
use Rattle.transcript.proofs.Establishing.{submitted-next, handed-next, confirmed-next, tags_sent-next}
use Rattle.master_runs.proofs.Lane.{IsLane}
use Rattle.master_runs.proofs.Sound.{half, sender_table, receiver_table, CarriesCount, IsUnderWay, listed, IsServed}
use Rattle.std.specs.Prelude.{if◌then◌else◌}
use Rattle.std.proofs.lemmas.Bool.Decides.{nat_tests}
use Rattle.master_runs.specs.Entities.{Entities}

-- ---- what is under way

-- what is under way stays so when more comes after it
pub under_way_left : (b : Established) (c : ℕ) (fs gs : List Flight) → IsUnderWay b c fs → IsUnderWay b c (fs ++ gs)
under_way_left b c [] gs way = absurd way
under_way_left b c (f ∷ fs) gs way = elim way [ inl here ↦ inl here | inr there ↦ inr (under_way_left b c fs gs there) ]

-- the new flight stands at the end of its leg
pub under_way_last : (b : Established) (c : ℕ) (fs : List Flight) (f : Flight) → IsUnderWay b c (f ∷ []) → IsUnderWay b c (fs ++ f ∷ [])
under_way_last b c [] f under = under
under_way_last b c (x ∷ fs) f under = inr (under_way_last b c fs f under)

-- a flight that is taken out leaves the others
pub under_way_but : (b : Established) (c i : ℕ) (f : Flight) (fs : List Flight) → slice_get fs i ≡ Some f → IsUnderWay b c fs → CarriesCount b c f ⊎ IsUnderWay b c (remove fs i)
under_way_but b c i f [] at way = absurd way
under_way_but b c zero f (g ∷ fs) at way =
    elim way [ inl here ↦ inl (subst (CarriesCount b c) (same_Some g f at) here) | inr there ↦ inr there ]
under_way_but b c (suc i) f (g ∷ fs) at way =
    elim way [
      | inl here ↦ inr (inl here)
      | inr there ↦ elim (under_way_but b c i f fs at there) [ inl it ↦ inl it | inr still ↦ inr (inr still) ]
    ]

-- ---- what was sent

-- the PDU of a number, where one more was sent
pub listed_push : (xs : List (Option ℕ)) (c num : ℕ) → listed (slice_get xs num) ++ (if length xs == num then c ∷ [] else []) ≡ listed (slice_get (xs ++ Some c ∷ []) num)
listed_push [] c zero = refl
listed_push [] c (suc num) = grind (arith, nat_tests)
listed_push (x ∷ xs) c zero = grind (arith, nat_tests, append-nil (listed (Some x)))
listed_push (x ∷ xs) c (suc num) = grind (arith, nat_tests, listed_push xs c num)

-- a control PDU has no COUNT under its number
pub listed_none : (xs : List (Option ℕ)) (num : ℕ) → listed (slice_get (xs ++ None ∷ []) num) ≡ listed (slice_get xs num)
listed_none [] zero = refl
listed_none [] (suc num) = refl
listed_none (x ∷ xs) zero = refl
listed_none (x ∷ xs) (suc num) = listed_none xs num

-- ---- a bearer

-- the lane of a bearer, with what the node that sends holds of it
pub lane_of : (t : List Entry) (s : Nodes) (links : Links) (b : Established) (d : Dir) (e : Entities) → IsServed t s links b d → half b (sender_table d s) ≡ e
    → IsLane b.n b.first (submitted b d t) (confirmed b d t) e.tx e.sent (half b (receiver_table d s)).rx
lane_of t s links b d e was is = subst (λ (x : Entities). IsLane b.n b.first (submitted b d t) (confirmed b d t) x.tx x.sent (half b (receiver_table d s)).rx) is was.lane

-- a lane with equal parts
pub lane_same : (n : SnLen) (first : ℕ) (xs xs' : List (List ℕ)) (cs cs' : List Confirmation) (tx tx' : Sender) (sent sent' : List (Option ℕ)) (rx rx' : RxParts)
    → xs' ≡ xs → cs' ≡ cs → tx' ≡ tx → sent' ≡ sent → rx' ≡ rx → IsLane n first xs cs tx sent rx → IsLane n first xs' cs' tx' sent' rx'
lane_same n first xs xs' cs cs' tx tx' sent sent' rx rx' x c s q r lane =
    subst (λ a. IsLane n first a cs' tx' sent' rx') (sym x) (subst (λ a. IsLane n first xs a tx' sent' rx') (sym c)
    (subst (λ a. IsLane n first xs cs a sent' rx') (sym s) (subst (λ a. IsLane n first xs cs tx a rx') (sym q)
    (subst (λ a. IsLane n first xs cs tx sent a) (sym r) lane))))

module _ (t : List Entry) (s : Nodes) (links : Links) (b : Established) (d : Dir) (e : Entry) (s' : Nodes) (links' : Links) (was : IsServed t s links b d) (no_ups : ups b d t e ≡ [])
    (rx : (half b (receiver_table d s')).rx ≡ (half b (receiver_table d s)).rx) where
  -- the bearer is served where nothing goes up, with what the entry tells of what is sent
  pub served_next : IsLane b.n b.first (submitted b d t ++ submission b d t e) (confirmed b d t ++ confirms b d t e) (half b (sender_table d s')).tx (half b (sender_table d s')).sent (half b (receiver_table d s)).rx
      → ((c : ℕ) → b.first ≤ c → c < (half b (sender_table d s')).tx.next → Received (half b (receiver_table d s)).rx c ⊎ IsUnderWay b c (on links' (leg d)))
      → ((num : ℕ) → tags_sent (leg d) b.id b.g num t ++ flat_map (tag_of (leg d) b.id b.g num) (sends e.lines) ≡ listed (slice_get (half b (sender_table d s')).sent num))
      → IsServed (t ++ e ∷ []) s' links' b d
  served_next lane owed numbers =
      let upto = was.lane.upto in let counted = was.lane.counted in
      let deliv = (half b (receiver_table d s)).rx.deliv in
      record {
        lane = lane_same b.n b.first _ _ _ _ _ _ _ _ _ _ (submitted-next b d t e) (confirmed-next b d t e) refl refl rx lane;
        handed_is = handed-next b d t e ∙ ap (λ us. handed b d t ++ us) no_ups ∙ append-nil (handed b d t) ∙ was.handed_is
            ∙ ap (numbered b.first) (sym (take-append-le (deliv - b.first) (submitted b d t) (submission b d t e) (omega arith)) ∙ ap (take (deliv - b.first)) (sym (submitted-next b d t e)))
            ∙ ap (λ (r : RxParts). numbered b.first (take (r.deliv - b.first) (submitted b d (t ++ e ∷ [])))) (sym rx);
        came = λ c from got. SomeEntry-later (TakesData b d c) t e (was.came c from (subst (λ r. Received r c) rx got));
        owed = λ c from below. subst (λ r. Received r c ⊎ IsUnderWay b c (on links' (leg d))) (sym rx) (owed c from below);
        numbers = λ num. tags_sent-next (leg d) b.id b.g num t e ∙ numbers num;
      }

  -- and as before where the entry says nothing of it; what was under way is so still, or was received
  pub served_still : submission b d t e ≡ [] → confirms b d t e ≡ [] → ((num : ℕ) → flat_map (tag_of (leg d) b.id b.g num) (sends e.lines) ≡ [])
      → (half b (sender_table d s')).tx ≡ (half b (sender_table d s)).tx → (half b (sender_table d s')).sent ≡ (half b (sender_table d s)).sent
      → ((c : ℕ) → IsUnderWay b c (on links (leg d)) → Received (half b (receiver_table d s)).rx c ⊎ IsUnderWay b c (on links' (leg d)))
      → IsServed (t ++ e ∷ []) s' links' b d
  served_still submits confirming tags tx sent flying =
      served_next
      (lane_same b.n b.first _ _ _ _ _ _ _ _ _ _ (ap (λ xs. submitted b d t ++ xs) submits ∙ append-nil _) (ap (λ xs. confirmed b d t ++ xs) confirming ∙ append-nil _) tx sent refl was.lane)
      (λ c from below. elim (was.owed c from (subst (λ (x : Sender). c < x.next) tx below)) [ inl got ↦ inl got | inr way ↦ flying c way ])
      (λ num. ap (λ xs. tags_sent (leg d) b.id b.g num t ++ xs) (tags num) ∙ append-nil _ ∙ was.numbers num ∙ ap (λ xs. listed (slice_get xs num)) (sym sent))
