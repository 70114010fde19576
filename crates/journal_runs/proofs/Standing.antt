-- What stands on the links of the world is what was sent and not taken.
use Rattle.std.proofs.Common.{List, Option, Some, [], ap, inl, inr, length, refl, subst, sym, true, zero, suc, ℕ, ◌++◌, ◌==◌, ◌∙◌, ◌∷◌, ◌≡◌}
use Rattle.std.proofs.lemmas.Bool.{cases_Bool, eq-eqb, eqb-true}
use Rattle.std.proofs.lemmas.List.{append-nil}
use Rattle.std.specs.List.{AllByRecursion}
use Rattle.std.specs.Prelude.{drop, replicate, slice_index_or}
use Rattle.dc_base.specs.Links.{is_same_link, link_number}
use Rattle.dc_base.specs.Nodes.{node_number}
use Rattle.dc_base.specs.declared.events.Header.{Header}
use Rattle.dc_base.specs.declared.flights.Flight.{Flight}
use Rattle.dc_base.specs.declared.nodes.LinkId.{LinkId}
use Rattle.dc_base.specs.declared.nodes.Node.{Node}
use Rattle.journal_runs.proofs.Flights.{flights_append, flights_next, flights_none, flights_of, flights_sent, flights_to, long_next}
use Rattle.journal_runs.proofs.SameLink.{node_is, same_link}
use Rattle.journal_runs.proofs.Steps.{Stands, entry_is, place_is, place_of}
use Rattle.journal_runs.specs.OwnSteps.{MayTake, Says, own_step}
use Rattle.journal_runs.specs.Scripts.{event_of}
use Rattle.journals.proofs.OnEach.{each_append}
use Rattle.journals.specs.Journals.{Stamped, outputs}
use Rattle.journals.specs.Merging.{Found, IsAtFront, Under, added, after, empty, taken_off, without_first}
use Rattle.journals.specs.Messages.{to}
use Rattle.journals.specs.declared.entries.JournalEntry.{JournalEntry}
use Rattle.journals.specs.declared.entries.Message.{Message}
use Rattle.journals.specs.declared.entries.What.{What}
use Rattle.journals.specs.declared.entries.What.TheVariants.{Driver, Loss, Step}
use Rattle.node_rules.specs.Choices.{Choices}
use Rattle.node_rules.specs.Run.{node_at, world_step}
use Rattle.node_rules.specs.World.{World, flights_on, new_world}
use Rattle.transcript.specs.Content.{content_after, place_taken, put_on, without_taken}

abbrev IsFromTo : ℕ → ℕ → Message → Type 0
IsFromTo p k m = (node_number m.link.from ≡ p) × (node_number m.link.to ≡ k)

pub record Stood (under : Under) (w : World) : Type 0 where
  pub long : length w.links ≡ 64
  pub flights : (l : LinkId) → flights_on l w.links ≡ flights_of l (under (node_number l.from) (node_number l.to))
  pub placed : (p k : ℕ) → AllByRecursion (IsFromTo p k) (under p k)

-- nothing stands in a list of nothing
none_there : {X : Type 0} (n i : ℕ) (x : X) → slice_index_or (replicate n x) i x ≡ x
none_there zero i x = refl
none_there (suc n) zero x = refl
none_there (suc n) (suc i) x = none_there n i x

pub stood_new : (h : Header) → Stood empty (new_world h)
stood_new h = record { long = refl; flights = λ l. none_there 64 (link_number l) []; placed = λ p k. tt }

-- ---- what is found stands on its link

at_front : (under : Under) (w : World) (n : Node) (m : Message) → Stood under w → IsAtFront under (node_number n) m
    → (m.link.to ≡ n) × (rest : List Flight) × (flights_on m.link w.links ≡ m.flight ∷ rest)
at_front under w n m s f =
    let p = node_number m.link.from in
    let all : AllByRecursion (IsFromTo p (node_number n)) (m ∷ f.0) = subst (AllByRecursion (IsFromTo p (node_number n))) f.1 (s.placed p (node_number n)) in
    let its : is_same_link m.link m.link ≡ true = eq-eqb (link_number m.link) (link_number m.link) refl in
    let head : flights_of m.link (m ∷ f.0) ≡ m.flight ∷ flights_of m.link f.0 = rw its refl in (
      node_is m.link.to n all.0.1,
      flights_of m.link f.0,
      s.flights m.link ∙ (ap (λ (k : ℕ). flights_of m.link (under p k)) all.0.1 ∙ (ap (flights_of m.link) f.1 ∙ head)),
    )

pub stands_of : (under : Under) (w : World) (n : Node) (what : What) → Stood under w → Found under (node_number n) what → Stands w n what
stands_of under w n (Driver e) s f = tt
stands_of under w n (Step m) s f = at_front under w n m s f
stands_of under w n (Loss m) s f = at_front under w n m s f

-- ---- without what is taken

fewer : {X : Type 0} (P : X → Type 0) (xs : List X) → AllByRecursion P xs → AllByRecursion P (drop 1 xs)
fewer P [] all = tt
fewer P (x ∷ xs) all = all.1

placed_off : (under : Under) (q n : ℕ) → ((p k : ℕ) → AllByRecursion (IsFromTo p k) (under p k)) → (p k : ℕ) → AllByRecursion (IsFromTo p k) (without_first q n under p k)
placed_off under q n all p k =
    elim (cases_Bool (q == p)) [
      | inl a ↦ elim (cases_Bool (n == k)) [ inl b ↦ rw (a, b) (fewer (IsFromTo p k) (under p k) (all p k)) | inr b ↦ rw (a, b) (all p k) ]
      | inr a ↦ rw a (all p k)
    ]

off_first : (under : Under) (n : ℕ) (m : Message) (l : LinkId) → IsAtFront under n m → node_number m.link.to ≡ n
    → flights_of l (without_first (node_number m.link.from) n under (node_number l.from) (node_number l.to)) ≡ without_taken l (Some (m.link, 0)) (flights_of l (under (node_number l.from) (node_number l.to)))
off_first under n m l f to =
    let q = node_number m.link.from in
    let p = node_number l.from in
    let k = node_number l.to in
    let whole : (q == p) ≡ true → (n == k) ≡ true → under p k ≡ m ∷ f.0 = λ a b. sym (ap (λ (z : ℕ). under z n) (eqb-true q p a) ∙ ap (λ (z : ℕ). under p z) (eqb-true n k b)) ∙ f.1 in
    elim (cases_Bool (is_same_link l m.link)) [
      | inl same ↦
          let its : l ≡ m.link = same_link l m.link same in
          let a : (q == p) ≡ true = eq-eqb q p (ap (λ (z : LinkId). node_number z.from) (sym its)) in
          let b : (n == k) ≡ true = eq-eqb n k (sym to ∙ ap (λ (z : LinkId). node_number z.to) (sym its)) in
          let is : under p k ≡ m ∷ f.0 = whole a b in
          rw (a, b, is, same) refl
      | inr other ↦ elim (cases_Bool (q == p)) [
        | inl a ↦ elim (cases_Bool (n == k)) [
          | inl b ↦ (let is : under p k ≡ m ∷ f.0 = whole a b in rw (a, b, is, other) refl)
          | inr b ↦ rw (a, b, other) refl
        ]
        | inr a ↦ rw (a, other) refl
      ]
    ]

-- ---- with what is sent

each_to : (n k : ℕ) (ms : List Message) → AllByRecursion (λ (m : Message). node_number m.link.from ≡ n) ms → AllByRecursion (IsFromTo n k) (to k ms)
each_to n k [] all = tt
each_to n k (m ∷ ms) all =
    elim (cases_Bool (node_number m.link.to == k)) [
      | inl here ↦ rw here ((all.0, eqb-true (node_number m.link.to) k here), each_to n k ms all.1)
      | inr other ↦ rw other (each_to n k ms all.1)
    ]

placed_added : (under : Under) (n : ℕ) (ms : List Message) → ((p k : ℕ) → AllByRecursion (IsFromTo p k) (under p k)) → AllByRecursion (λ (m : Message). node_number m.link.from ≡ n) ms
    → (p k : ℕ) → AllByRecursion (IsFromTo p k) (added under n ms p k)
placed_added under n ms all more p k =
    elim (cases_Bool (n == p)) [
      | inl here ↦ rw here (each_append (IsFromTo p k) (under p k) (to k ms) (all p k) (subst (λ (z : ℕ). AllByRecursion (IsFromTo z k) (to k ms)) (eqb-true n p here) (each_to n k ms more)))
      | inr other ↦ rw other (all p k)
    ]

flights_added : (under : Under) (n : ℕ) (ms : List Message) (l : LinkId) → AllByRecursion (λ (m : Message). node_number m.link.from ≡ n) ms
    → flights_of l (added under n ms (node_number l.from) (node_number l.to)) ≡ flights_of l (under (node_number l.from) (node_number l.to)) ++ flights_of l ms
flights_added under n ms l all =
    let old = under (node_number l.from) (node_number l.to) in
    elim (cases_Bool (n == node_number l.from)) [
      | inl here ↦ rw here (flights_append l old (to (node_number l.to) ms) ∙ ap (λ (fs : List Flight). flights_of l old ++ fs) (flights_to l ms))
      | inr other ↦
          let none : flights_of l ms ≡ [] = flights_none l n ms (λ e. let yes' : (n == node_number l.from) ≡ true = eq-eqb n (node_number l.from) (sym e) in absurd cc) all in
          rw other (sym (append-nil (flights_of l old)) ∙ ap (λ (fs : List Flight). flights_of l old ++ fs) (sym none))
    ]

-- ---- after an entry

off_is : (under : Under) (w : World) (n : Node) (what : What) (l : LinkId) → Stood under w → Found under (node_number n) what
    → flights_of l (taken_off under (node_number n) what (node_number l.from) (node_number l.to)) ≡ without_taken l (place_of what) (flights_of l (under (node_number l.from) (node_number l.to)))
off_is under w n (Driver e) l s f = refl
off_is under w n (Step m) l s f = off_first under (node_number n) m l f (ap node_number (at_front under w n m s f).0)
off_is under w n (Loss m) l s f = off_first under (node_number n) m l f (ap node_number (at_front under w n m s f).0)

off_placed : (under : Under) (n : ℕ) (what : What) → ((p k : ℕ) → AllByRecursion (IsFromTo p k) (under p k)) → (p k : ℕ) → AllByRecursion (IsFromTo p k) (taken_off under n what p k)
off_placed under n (Driver e) all p k = all p k
off_placed under n (Step m) all p k = placed_off under (node_number m.link.from) n all p k
off_placed under n (Loss m) all p k = placed_off under (node_number m.link.from) n all p k

pub stood_next : (c : Choices) (under : Under) (w : World) (n : Node) (e : JournalEntry) → Stood under w → Found under (node_number n) e.what → MayTake n e.what → Stamped (node_number n) e
    → Says (own_step c (node_at w n) e.what).1 e → Stood (after under (n, e)) (world_step c w (event_of e.what)).0
stood_next c under w n e s f may stamped says =
    let x = event_of e.what in
    let k = node_number n in
    let stands = stands_of under w n e.what s f in
    let place : place_taken x e.answer ≡ place_of e.what = ap (place_taken x) says.0 ∙ place_is c (node_at w n) n e.what may in
    let old : LinkId → List Flight = λ l. flights_of l (under (node_number l.from) (node_number l.to)) in
    record {
      long = long_next c w x s.long;
      flights = λ l.
          flights_next c w x l s.long
          ∙ (ap (content_after l (flights_on l w.links)) (entry_is c w n e may stands says)
          ∙ (ap (λ (z : Option (LinkId × ℕ)). without_taken l z (flights_on l w.links) ++ put_on l e.lines) place
          ∙ (ap (λ (fs : List Flight). without_taken l (place_of e.what) fs ++ put_on l e.lines) (s.flights l)
          ∙ sym (flights_added (taken_off under k e.what) k (outputs e) l stamped.sends
          ∙ (ap (λ (fs : List Flight). fs ++ flights_of l (outputs e)) (off_is under w n e.what l s f)
          ∙ ap (λ (fs : List Flight). without_taken l (place_of e.what) (old l) ++ fs) (flights_sent l e.stamp e.lines))))));
      placed = placed_added (taken_off under k e.what) k (outputs e) (off_placed under k e.what s.placed) stamped.sends;
    }
