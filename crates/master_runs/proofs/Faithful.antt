-- The run theorem: the transcript of every run meets the claims.
use Rattle.std.proofs.Common.{ℕ, ◌≡◌, ◌++◌, List, [], ◌∷◌, Option, None, true, slice_get, refl, sym, ap, ◌∙◌, subst, arith, append_assoc}
use Rattle.std.specs.Prelude.{is_some, Contains}
use Rattle.std.specs.List.{AllByRecursion}
use Rattle.std.specs.Option.{option_map}
use Rattle.std.proofs.lemmas.List.{append-nil}
use Rattle.dc_base.specs.declared.nodes.Dir.{Dir}
use Rattle.dc_base.specs.declared.nodes.Dir.TheVariants.{Ul, Dl}
use Rattle.dc_base.specs.declared.nodes.LinkId.{LinkId}
use Rattle.dc_base.specs.declared.flights.Flight.{Flight}
use Rattle.dc_base.specs.declared.flights.Flight.TheVariants as flight
use Rattle.dc_base.specs.declared.answers.Answer.TheVariants.{No}
use Rattle.dc_base.specs.declared.events.Header.{Header}
use Rattle.dc_base.specs.declared.events.Event.{Event}
use Rattle.dc_base.specs.declared.events.Event.TheVariants.{Bearer, Reshape, Remove, Add, Change, Release, RekeySecond, RekeyMaster, Recover, Report, Deny, Ask, ScgFail, Submit, Step, Lose, Again}
use Rattle.dc_base.specs.declared.events.Line.TheVariants as line
use Rattle.dc_base.specs.Links.{link_number}
use Rattle.transcript.specs.Transcript.{Entry}
use Rattle.transcript.specs.Bearers.{Established, established}
use Rattle.transcript.specs.Claims.{IsDataFlight, IsOneUse, IsFaithful}
use Rattle.transcript.proofs.Establishing.{IsOnce, same_bearer, generation_there}
use Rattle.master_runs.specs.Entities.{Entities}
use Rattle.master_runs.specs.Control.{new_nodes}
use Rattle.master_runs.specs.Links.{on}
use Rattle.master_runs.specs.OfMaster.{IsEventInRange, is_of_master, AreOfMaster}
use Rattle.master_runs.specs.Run.{WorldState, new_world, decided, happen, entry_of, world_after, entries_from}
use Rattle.master_runs.proofs.Sound.{Promise, idle, Sound}
use Rattle.master_runs.proofs.Moving.{none_there}
use Rattle.master_runs.proofs.Refusing.{refused_happened}
use Rattle.master_runs.proofs.Deciding.{Next, next, serving}
use Rattle.master_runs.proofs.Commanding.{bearer_sound, recover_sound}
use Rattle.master_runs.proofs.Sending.{submit_any, report_sound}
use Rattle.master_runs.proofs.Stepping.{step_with, tunnel_with}

module _ (h : Header) (policies : ℕ) (t : List Entry) (w : WorldState) (sound : Sound h policies t w) where
  -- any event
  decided_sound : (e : Event) → IsEventInRange e → is_of_master e ≡ true → Next h policies t w e (decided policies (record w { header = h }) e)
  decided_sound (Bearer id n first shape threshold policy) good built = bearer_sound h policies t w sound id n first shape threshold policy good.0 good.1
  decided_sound (Recover id) good built = recover_sound h policies t w sound id
  decided_sound (Report node id) good built = report_sound h policies t w sound node id
  decided_sound (Submit id Dl payload) good built = submit_any h policies t w sound id Dl payload good (serving w Dl id) refl
  decided_sound (Submit id Ul payload) good built = submit_any h policies t w sound id Ul payload good (serving w Ul id) refl
  decided_sound (Step l i) good built = step_with h policies t w sound l i (slice_get (on w.links l) i) refl
  decided_sound (Lose l i) good built = tunnel_with h policies t w sound (Lose l i) l i (λ f. []) (slice_get (on w.links l) i) refl
      (λ why due. next h policies t w sound (Lose l i) (w.nodes, (No why, [])) (refused_happened h policies t w sound (Lose l i) why (λ g. refl) refl (λ g o. refl) (λ b d c. refl) refl refl due))
  decided_sound (Again l i) good built = tunnel_with h policies t w sound (Again l i) l i (λ f. line.Send l f ∷ []) (slice_get (on w.links l) i) refl
      (λ why due. next h policies t w sound (Again l i) (w.nodes, (No why, [])) (refused_happened h policies t w sound (Again l i) why (λ g. refl) refl (λ g o. refl) (λ b d c. refl) refl refl due))
  decided_sound (Reshape id shape) good built = absurd cc
  decided_sound (Remove id) good built = absurd cc
  decided_sound (Add node) good built = absurd cc
  decided_sound Change good built = absurd cc
  decided_sound Release good built = absurd cc
  decided_sound RekeySecond good built = absurd cc
  decided_sound (RekeyMaster root) good built = absurd cc
  decided_sound (Deny node state) good built = absurd cc
  decided_sound (Ask node what) good built = absurd cc
  decided_sound ScgFail good built = absurd cc

-- the same with the world as it is
pub event_sound : (h : Header) (policies : ℕ) (t : List Entry) (w : WorldState) → Sound h policies t w → (e : Event) → IsEventInRange e → is_of_master e ≡ true
    → Sound h policies (t ++ entry_of policies w e ∷ []) (happen policies w e).0
event_sound h policies t w sound e good built =
    let same : record w { header = h } ≡ w = ap (λ (k : Header). record w { header = k }) (sym sound.header) in
    subst (λ v. Sound h policies (t ++ entry_of policies v e ∷ []) (happen policies v e).0) same
    (decided_sound h policies t (record w { header = h }) (subst (Sound h policies t) (sym same) sound) e good built)

-- ---- a run

-- any run
run_sound : (h : Header) (policies : ℕ) (t : List Entry) (w : WorldState) (es : List Event) → AreOfMaster es → Sound h policies t w
    → Sound h policies (t ++ entries_from policies w es) (world_after policies w es)
run_sound h policies t w [] good sound = subst (λ u. Sound h policies u w) (sym (append-nil t)) sound
run_sound h policies t w (e ∷ es) good sound =
    subst (λ u. Sound h policies u (world_after policies (happen policies w e).0 es)) (append_assoc t (entry_of policies w e ∷ []) (entries_from policies (happen policies w e).0 es))
    (run_sound h policies (t ++ entry_of policies w e ∷ []) (happen policies w e).0 es good.1 (event_sound h policies t w sound e good.0.0 good.0.1))

-- the new world is sound
pub new_sound : (h : Header) (policies : ℕ) → Sound h policies [] (new_world h)
new_sound h policies = record {
  header = refl;
  long = refl;
  contents = λ l. sym (none_there 64 (link_number l) []);
  tables = record {
    master_long = refl;
    terminal_long = refl;
    master_is = λ id. ap (option_map (λ (e : Entities). e.bearer)) (none_there 33 id None);
    terminal_is = λ id. ap (option_map (λ (e : Entities). e.bearer)) (none_there 33 id None);
    set_is = λ id. ap (λ (o : Option Entities). is_some o) (sym (none_there 33 id None));
    drawn_is = refl;
    busy_is = refl;
    once = λ b (k, less, is). absurd (omega arith);
    ranged = λ b (k, less, is). absurd (omega arith);
    keyed = λ b (k, less, is). absurd (omega arith);
  };
  phase = idle refl refl refl (λ b (k, less, is) none. absurd (omega arith));
  served = λ b d (k, less, is). absurd (omega arith);
  promises = λ l. subst (AllByRecursion (Promise h [] new_nodes l.from l.to l.class)) (sym (none_there 64 (link_number l) [])) tt;
  none_sent = λ l id g num later. refl;
  claims = tt;
  causes = tt;
  licence = tt;
  no_stall = tt;
}

-- so is every run from it
all_sound : (policies : ℕ) (h : Header) (es : List Event) → AreOfMaster es → Sound h policies (entries_from policies (new_world h) es) (world_after policies (new_world h) es)
all_sound policies h es good = run_sound h policies [] (new_world h) es good (new_sound h policies)

-- the bearer of a data PDU was established
of_generation : (t : List Entry) (b : Established) (d : Dir) (x : LinkId × Flight) → IsDataFlight t b d x → (c : Established) × Contains (established t) c × (c.id ≡ b.id) × (c.g ≡ b.g)
of_generation t b d (l, flight.Air id g num tag pdu) is = generation_there t b g is.2
of_generation t b d (l, flight.Ack id g num) is = absurd is
of_generation t b d (l, flight.Tun tag packet) is = absurd is
of_generation t b d (l, flight.Sdu id g sdu) is = absurd is
of_generation t b d (l, flight.End id g) is = absurd is
of_generation t b d (l, flight.Told id g count) is = absurd is
of_generation t b d (l, flight.Ctl r) is = absurd is

-- an identity is established once, so no key of it is used by two establishments
one_use : (t : List Entry) → IsOnce (established t) → IsOneUse t
one_use t once b c d x y sent_x sent_y is_x is_y same key =
    let (b', b_there, b_id, b_g) = of_generation t b d x is_x in
    let (c', c_there, c_id, c_g) = of_generation t c d y is_y in
    sym b_g ∙ ap (λ (e : Established). e.g) (same_bearer (established t) b' c' once b_there c_there (b_id ∙ same ∙ sym c_id)) ∙ c_g

-- the run theorem
pub run_faithful : (policies : ℕ) (h : Header) (es : List Event) → AreOfMaster es → IsFaithful h policies (entries_from policies (new_world h) es)
run_faithful policies h es good =
    let sound = all_sound policies h es good in
    record {
      bearers = sound.claims;
      causes = sound.causes;
      licence = sound.licence;
      no_stall = sound.no_stall;
      one_use = one_use (entries_from policies (new_world h) es) sound.tables.once;
    }
