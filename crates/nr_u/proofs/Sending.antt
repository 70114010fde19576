-- What `Outbound` keeps, when a PDU is sent and when a frame comes.
use Rattle.std.proofs.Common.{◌≡◌, ℕ, zero, suc, ◌+◌, ◌-◌, ◌<◌, ◌++◌, Bool, true, false, cond, List, [], ◌∷◌, length, Option, Some, None, is_some, refl, sym, ap, ◌∙◌, subst, inl, inr, arith}
use Rattle.std.specs.Prelude.{filter, slice_get}
use Rattle.std.specs.List.{AllByRecursion}
use Rattle.std.specs.Ordering.{nat_cmp}
use Rattle.std.specs.BTreeMap.{insert_entry, is_at}
use Rattle.std.specs.Map.{lookup, remove_entry}
use Rattle.std.proofs.lemmas.List.Elements.{filter-append}
use Rattle.nr_u.specs.Tunnel.Outgoing.{Counted, noted, is_open}
use Rattle.nr_u.specs.Tunnel.Waiting.{Climbs, IsNext, AreGiven, ByNumber, Covers, IsOutboundState}
use Rattle.nr_u.proofs.ByNumber.{cmp_tells, remove-insert}
use Rattle.nr_u.proofs.Filters.{given_filter, sorted_none}
use Rattle.nr_u.proofs.Confirming.{climbs_filter}

-- ---- a number that is new

pub given_next : (next : ℕ) (es : List Counted) → AreGiven next es → AreGiven (next + 1) es
given_next next [] all = tt
given_next next (e ∷ es) all = (omega (arith, all.0), given_next next es all.1)

-- it goes in at the end
pub insert_last : (k v : ℕ) (es : List Counted) → AreGiven k es → insert_entry nat_cmp es k v ≡ es ++ (k, v) ∷ []
insert_last k v [] all = refl
insert_last k v (e ∷ es) all = grind (arith, cmp_tells k e.0, insert_last k v es all.1, all.0)

given_push : (k v : ℕ) (es : List Counted) → AreGiven k es → AreGiven (k + 1) (es ++ (k, v) ∷ [])
given_push k v [] all = (omega arith, tt)
given_push k v (e ∷ es) all = (omega (arith, all.0), given_push k v es all.1)

given_noted : (next : ℕ) (count : Option ℕ) (es : List Counted) → AreGiven next es → AreGiven (next + 1) (noted count next es)
given_noted next None es all = given_next next es all
given_noted next (Some c) es all = rw (insert_last next c es all) (given_push next c es all)

given_first : (next : ℕ) (count : Option ℕ) (repeat : Bool) (es : List Counted) → AreGiven next es → AreGiven (next + 1) (cond repeat es (noted count next es))
given_first next count true es all = given_next next es all
given_first next count false es all = given_noted next count es all

absent : (k : ℕ) (es : List Counted) → AreGiven k es → is_some (lookup (is_at (nat_cmp k)) es) ≡ false
absent k [] all = refl
absent k (e ∷ es) all = grind (arith, cmp_tells k e.0, absent k es all.1, all.0)

remove_absent : (k : ℕ) (es : List Counted) → AreGiven k es → remove_entry (is_at (nat_cmp k)) es ≡ es
remove_absent k [] all = refl
remove_absent k (e ∷ es) all = grind (arith, cmp_tells k e.0, remove_absent k es all.1, all.0)

-- put in, and taken out again
pub noted_back : (k : ℕ) (count : Option ℕ) (es : List Counted) → AreGiven k es → remove_entry (is_at (nat_cmp k)) (noted count k es) ≡ es
noted_back k None es all = remove_absent k es all
noted_back k (Some c) es all = remove-insert k c es (absent k es all)

-- ---- the COUNTs that wait do not fall

climbs_push : (low k v : ℕ) (e : Counted) (es : List Counted) → Climbs low (e ∷ es) → IsNext (e ∷ es) v → Climbs low ((e ∷ es) ++ (k, v) ∷ [])
climbs_push low k v e [] up next = (up.0, (next e refl, tt))
climbs_push low k v e (f ∷ fs) up next =
    let at : length (e ∷ f ∷ fs) - 1 ≡ suc (length (f ∷ fs) - 1) = omega arith in
    let later : IsNext (f ∷ fs) v = λ g is. next g (ap (slice_get (e ∷ f ∷ fs)) at ∙ is) in
    (up.0, climbs_push e.1 k v f fs up.1 later)

climbs_last : (k v : ℕ) (es : List Counted) → Climbs 0 es → IsNext es v → Climbs 0 (es ++ (k, v) ∷ [])
climbs_last k v [] up next = (omega arith, tt)
climbs_last k v (e ∷ es) up next = climbs_push 0 k v e es up next

climbs_first : (next : ℕ) (count : Option ℕ) (repeat : Bool) (es : List Counted) → AreGiven next es → Climbs 0 es → (repeat ≡ false → (c : ℕ) → count ≡ Some c → IsNext es c) → Climbs 0 (cond repeat es (noted count next es))
climbs_first next count true es all up is_next = up
climbs_first next None false es all up is_next = up
climbs_first next (Some c) false es all up is_next = rw (insert_last next c es all) (climbs_last next c es up (is_next refl c refl))

-- ---- what is open is to be looked at

covers_noted : (low : ℕ) (confirmed : List ℕ) (next : ℕ) (count : Option ℕ) (askable unasked : List Counted) → AreGiven next askable → AreGiven next unasked → Covers low confirmed askable unasked
    → Covers low confirmed (noted count next askable) (noted count next unasked)
covers_noted low confirmed next None askable unasked given given' covers = covers
covers_noted low confirmed next (Some c) askable unasked given given' covers =
    let may : Counted → Bool = λ e. is_open low confirmed e.1 in
    rw (insert_last next c askable given, insert_last next c unasked given')
    (filter-append may askable ((next, c) ∷ []) ∙ ap (λ (x : List Counted). x ++ filter may ((next, c) ∷ [])) covers ∙ sym (filter-append may unasked ((next, c) ∷ [])))

-- ---- the state

-- a number was given
pub state_next : (next : ℕ) (waiting unasked askable : List Counted) (confirmed : List ℕ) (in_order : Bool) (reference : ℕ) → IsOutboundState next waiting unasked askable confirmed in_order reference
    → IsOutboundState (next + 1) waiting unasked askable confirmed in_order reference
state_next next waiting unasked askable confirmed in_order reference state = record {
  waiting_given = given_next next waiting state.waiting_given;
  unasked_given = given_next next unasked state.unasked_given;
  askable_given = given_next next askable state.askable_given;
  sorted = state.sorted;
  climbs = state.climbs;
  covers = state.covers;
}

-- the first send was noted
pub state_first : (next : ℕ) (waiting unasked askable : List Counted) (confirmed : List ℕ) (before after : Bool) (reference : ℕ) (count : Option ℕ) (repeat : Bool) → IsOutboundState next waiting unasked askable confirmed before reference
    → (after ≡ true → before ≡ true) → (after ≡ true → repeat ≡ false → (c : ℕ) → count ≡ Some c → IsNext waiting c)
    → IsOutboundState (next + 1) (cond repeat waiting (noted count next waiting)) unasked askable confirmed after reference
state_first next waiting unasked askable confirmed before after reference count repeat state kept is_next = record {
  waiting_given = given_first next count repeat waiting state.waiting_given;
  unasked_given = given_next next unasked state.unasked_given;
  askable_given = given_next next askable state.askable_given;
  sorted = state.sorted;
  climbs = λ ordered. climbs_first next count repeat waiting state.waiting_given (state.climbs (kept ordered)) (is_next ordered);
  covers = state.covers;
}

-- the PDU was noted
pub state_sent : (next : ℕ) (waiting unasked askable : List Counted) (confirmed : List ℕ) (before after : Bool) (reference : ℕ) (count : Option ℕ) (repeat : Bool) → IsOutboundState next waiting unasked askable confirmed before reference
    → (after ≡ true → before ≡ true) → (after ≡ true → repeat ≡ false → (c : ℕ) → count ≡ Some c → IsNext waiting c) → ByNumber (noted count next unasked)
    → IsOutboundState (next + 1) (cond repeat waiting (noted count next waiting)) (noted count next unasked) (noted count next askable) confirmed after reference
state_sent next waiting unasked askable confirmed before after reference count repeat state kept is_next sorted =
    let first = state_first next waiting unasked askable confirmed before after reference count repeat state kept is_next in
    record {
      waiting_given = first.waiting_given;
      unasked_given = given_noted next count unasked state.unasked_given;
      askable_given = given_noted next count askable state.askable_given;
      sorted = sorted;
      climbs = first.climbs;
      covers = covers_noted reference confirmed next count askable unasked state.askable_given state.unasked_given state.covers;
    }

-- a frame took out some of the first sends
pub state_frame : (next : ℕ) (waiting waiting' unasked unasked' askable askable' : List Counted) (confirmed confirmed' : List ℕ) (in_order : Bool) (reference reference' : ℕ) (p : Counted → Bool) → IsOutboundState next waiting unasked askable confirmed in_order reference
    → waiting' ≡ filter p waiting → AreGiven next unasked' → AreGiven next askable' → ByNumber unasked' → Covers reference' confirmed' askable' unasked' → IsOutboundState next waiting' unasked' askable' confirmed' in_order reference'
state_frame next waiting waiting' unasked unasked' askable askable' confirmed confirmed' in_order reference reference' p state waiting_is given given' sorted covers = record {
  waiting_given = rw waiting_is (given_filter next p waiting state.waiting_given);
  unasked_given = given;
  askable_given = given';
  sorted = sorted;
  climbs = λ ordered. rw waiting_is (climbs_filter p 0 waiting (state.climbs ordered));
  covers = covers;
}

-- nothing was sent
pub state_none : (waiting unasked askable : List Counted) (confirmed : List ℕ) → waiting ≡ [] → unasked ≡ [] → askable ≡ [] → IsOutboundState 0 waiting unasked askable confirmed true 0
state_none waiting unasked askable confirmed waiting_is unasked_is askable_is = rw (waiting_is, unasked_is, askable_is) (record {
  waiting_given = tt;
  unasked_given = tt;
  askable_given = tt;
  sorted = sorted_none;
  climbs = λ ordered. tt;
  covers = refl;
})
