-- The records by which plans are carried out stand on the link to the terminal alone, each with the plan that was drawn with its
-- generation.
use Rattle.std.proofs.Common.{◌&&◌, ℕ, zero, suc, ◌≡◌, ◌++◌, true, false, List, [], ◌∷◌, Option, Some, None, slice_get, refl, sym, ap, subst, ◌∙◌, inl, inr}
use Rattle.std.specs.Prelude.{filter, fold, remove, ⊤}
use Rattle.std.specs.List.{AllByRecursion, flat_map}
use Rattle.std.proofs.lemmas.Bool.{cases_Bool}
use Rattle.transcript.proofs.OnEach.{each_append}
use Rattle.dc_base.specs.Links.{is_same_link, link, link_number}
use Rattle.dc_base.specs.declared.events.Event.{Event}
use Rattle.dc_base.specs.declared.events.Header.{Header}
use Rattle.dc_base.specs.declared.events.Line.{Line}
use Rattle.dc_base.specs.declared.events.Line.TheVariants as line
use Rattle.dc_base.specs.declared.events.Note.{Note}
use Rattle.dc_base.specs.declared.flights.Flight.{Flight}
use Rattle.dc_base.specs.declared.flights.Flight.TheVariants as flight
use Rattle.dc_base.specs.declared.nodes.Class.TheVariants.{Ctl}
use Rattle.dc_base.specs.declared.nodes.LinkId.{LinkId}
use Rattle.dc_base.specs.declared.nodes.Node.TheVariants.{M, T}
use Rattle.dc_base.specs.declared.records.Plan.{Plan}
use Rattle.dc_base.specs.declared.records.Rec.{Rec}
use Rattle.dc_base.specs.declared.records.Rec.TheVariants as rec
use Rattle.transcript.specs.Content.{on_link, place_taken, put_on, without_taken}
use Rattle.transcript.specs.Transcript.{sends}
use Rattle.claims.specs.Noted.{after}
use Rattle.claims.specs.Past.{Past}
use Rattle.claims.proofs.Readable.{octets_are}
use Rattle.claims.specs.Sameness.{is_same_octets, is_some_and}
use Rattle.claims.specs.Table.{Command, is_change, master_key}
use Rattle.key_chain.specs.KeyNames.{octets}
use Rattle.node_rules.specs.Choices.{Choices, Send}
use Rattle.node_rules.specs.Run.{world_step}
use Rattle.node_rules.specs.World.{World, flights_on, new_world}
use Rattle.master_runs.proofs.Contents.{flights_next}
use Rattle.master_runs.proofs.Moving.{none_there}
use Rattle.run_table.specs.Orders.{IsFitting, OrderFits}
use Rattle.run_control.specs.Sound.{AddsSecond}
use Rattle.run_table.specs.View.{View, planned, view}
use Rattle.run_table.specs.Words.{hears, is_order_sent, is_word_line, lines_in, notes_of, order_sends, orders}
use Rattle.run_table.proofs.LineWords.{filter_append, quiet_line}
use Rattle.run_table.proofs.Runs.{Lasts}
use Rattle.run_table.proofs.Steps.{agrees_after}
use Rattle.run_table.proofs.Views.{after_view, hears_answer}
use Rattle.run_uplinks.specs.Uplinks.{IsKeyOf}
use Rattle.run_uplinks.proofs.Establishments.{some_is}
use Rattle.run_uplinks.proofs.Plans.{both_true}
use Rattle.run_uplinks.proofs.Wells.{AreKeyed, Grows, IsWell, answer_grows, line_grows, lines_grow, then_grows}

-- the plan and the octets of the root in such a record
abbrev order_of : Rec → Option (Plan × List ℕ)
order_of (rec.Reconf q key) = Some (q, key)
order_of _ = None

-- in a flight
abbrev pub order_in : Flight → Option (Plan × List ℕ)
order_in (flight.Ctl r) = order_of r
order_in _ = None

-- the plan is the one drawn with its generation, and the octets are those of the root of its keys
abbrev pub IsDrawnOrder : View → Option (Plan × List ℕ) → Type 0
IsDrawnOrder v None = ⊤
IsDrawnOrder v (Some x) = (planned v.plans x.0.g ≡ Some x.0) × IsKeyOf v.table.roots x.0 x.1

-- such a record
abbrev pub IsOrderOn : View → LinkId → Flight → Type 0
IsOrderOn v l f = (is_same_link l (link M T Ctl) ≡ true) × IsDrawnOrder v (order_in f)

-- all of them
abbrev pub OrdersStand : View → World → Type 0
OrdersStand v w = (l : LinkId) → AllByRecursion (IsOrderOn v l) (filter orders (flights_on l w.links))

pub orders_new : (v : View) (h : Header) → OrdersStand v (new_world h)
orders_new v h = λ l. subst (λ fs. AllByRecursion (IsOrderOn v l) (filter orders fs)) (sym (none_there 64 (link_number l) [])) tt

-- ---- those that stood there

key_stays : (v w : View) (q : Plan) (key : List ℕ) → Grows v w → IsKeyOf v.table.roots q key → IsKeyOf w.table.roots q key
key_stays v w q key grows is = let x = grows.roots is.root is.named in record { root = is.root; named = x.0; is = is.is ∙ sym x.1; items = is.items }

order_stays : (v w : View) (l : LinkId) (f : Flight) → Grows v w → IsOrderOn v l f → IsOrderOn w l f
order_stays v w l f grows is = (is.0, by (order_in f) is.1)
  where
    by : (o : Option (Plan × List ℕ)) → IsDrawnOrder v o → IsDrawnOrder w o
    by None at = tt
    by (Some x) at = (grows.stays x.0.g x.0 at.0, key_stays v w x.0 x.1 grows at.1)

all_stay : (v w : View) (l : LinkId) (fs : List Flight) → Grows v w → AllByRecursion (IsOrderOn v l) fs → AllByRecursion (IsOrderOn w l) fs
all_stay v w l [] grows all = tt
all_stay v w l (f ∷ fs) grows all = (order_stays v w l f grows all.0, all_stay v w l fs grows all.1)

module _ (P : Flight → Type 0) where
  left : (i : ℕ) (fs : List Flight) → AllByRecursion P (filter orders fs) → AllByRecursion P (filter orders (remove fs i))
  left zero [] all = tt
  left (suc i) [] all = tt
  left zero (f ∷ fs) all = elim (cases_Bool (orders f)) [ inl yes' ↦ let a = rw yes' at all in a.1 | inr no' ↦ rw no' at all ]
  left (suc i) (f ∷ fs) all =
      elim (cases_Bool (orders f)) [ inl yes' ↦ let a = rw yes' at all in rw yes' (a.0, left i fs a.1) | inr no' ↦ rw no' (left i fs (rw no' at all)) ]

  without : (l : LinkId) (place : Option (LinkId × ℕ)) (fs : List Flight) → AllByRecursion P (filter orders fs) → AllByRecursion P (filter orders (without_taken l place fs))
  without l None fs all = all
  without l (Some place) fs all = elim (cases_Bool (is_same_link l place.0)) [ inl here ↦ rw here (left place.1 fs all) | inr there ↦ rw there all ]

  -- one at a place
  pub order_at : (i : ℕ) (fs : List Flight) (f : Flight) → AllByRecursion P (filter orders fs) → slice_get fs i ≡ Some f → orders f ≡ true → P f
  order_at i [] f all at is = absurd (let bad : None ≡ Some f = at in cc)
  order_at zero (x ∷ fs) f all at is =
      let same : x ≡ f = cc in
      let here : orders x ≡ true = ap orders same ∙ is in
      let a = rw here at all in subst P same a.0
  order_at (suc i) (x ∷ fs) f all at is =
      elim (cases_Bool (orders x)) [ inl yes' ↦ let a = rw yes' at all in order_at i fs f a.1 at is | inr no' ↦ order_at i fs f (rw no' at all) at is ]

-- ---- the one that is sent

words_alone : (xs : List Line) (v : View) → fold hears v xs ≡ fold hears v (filter is_word_line xs)
words_alone [] v = refl
words_alone (x ∷ xs) v =
    elim (cases_Bool (is_word_line x)) [
      | inl yes' ↦ rw yes' (words_alone xs (hears v x))
      | inr no' ↦ rw no' (ap (λ w. fold hears w xs) (quiet_line v x no') ∙ words_alone xs v)
    ]

-- where it is sent, the plan was drawn, and the octets are those of its root
fits_drawn : (v : View) (x : Plan × List ℕ) → IsWell v → IsFitting v x → IsDrawnOrder v (Some x)
fits_drawn v x well fits = (fits.drawn, by v.table.command well.command fits.keyed)
  where
    by : (o : Option Command) → AreKeyed v.plans v.table.roots o → is_some_and (λ c. is_change x.0.g c.kind && is_same_octets x.1 (octets v.table.roots (master_key c.root))) o ≡ true → IsKeyOf v.table.roots x.0 x.1
    by None keyed test = absurd (let bad : false ≡ true = test in cc)
    by (Some c) keyed test =
        let two = both_true (is_change x.0.g c.kind) (is_same_octets x.1 (octets v.table.roots (master_key c.root))) test in
        record { root = c.root; named = keyed.named; is = octets_are x.1 (octets v.table.roots (master_key c.root)) two.1; items = keyed.items x.0.g x.0 two.0 fits.drawn }

sent_planned : (ns : List Note) (o : Option (Plan × List ℕ)) (v : View) → IsWell v → OrderFits (fold hears v (lines_in ns [])) o → (x : Plan × List ℕ) → o ≡ Some x
    → IsDrawnOrder (fold hears v (lines_in ns (order_sends o))) (Some x)
sent_planned [] None v well fits x is = absurd (let bad : None ≡ Some x = is in cc)
sent_planned [] (Some y) v well fits x is =
    let same : y ≡ x = some_is y x is in
    let line = line.Send (link M T Ctl) (flight.Ctl (rec.Reconf y.0 y.1)) in
    let grows = line_grows v line well in
    let here = fits_drawn v y well fits in
    subst (λ (z : Plan × List ℕ). IsDrawnOrder (hears v line) (Some z)) same (grows.stays y.0.g y.0 here.0, key_stays v (hears v line) y.0 y.1 grows here.1)
sent_planned (n ∷ ns) o v well fits x is = sent_planned ns o (hears v (line.Note n)) (line_grows v (line.Note n) well).well fits x is

put_there : (v : View) (l : LinkId) (o : Option (Plan × List ℕ)) → ((x : Plan × List ℕ) → o ≡ Some x → IsDrawnOrder v (Some x)) → AllByRecursion (IsOrderOn v l) (flat_map (on_link l) (order_sends o))
put_there v l None is = tt
put_there v l (Some x) is =
    elim (cases_Bool (is_same_link l (link M T Ctl))) [ inl here ↦ rw here ((here, is x refl), tt) | inr there ↦ rw there tt ]

-- the orders that are put on a link
orders_on : (l : LinkId) (ss : List Send) → filter orders (flat_map (on_link l) ss) ≡ flat_map (on_link l) (filter is_order_sent ss)
orders_on l [] = refl
orders_on l (s ∷ ss) =
    elim (cases_Bool (is_same_link l s.0)) [
      | inl here ↦ elim (cases_Bool (orders s.1)) [
        | inl yes' ↦ rw here (rw yes' (rw here (ap (λ fs. s.1 ∷ fs) (orders_on l ss))))
        | inr no' ↦ rw here (rw no' (orders_on l ss))
      ]
      | inr there ↦ elim (cases_Bool (orders s.1)) [
        | inl yes' ↦ rw there (rw yes' (rw there (orders_on l ss)))
        | inr no' ↦ rw there (rw no' (orders_on l ss))
      ]
    ]

-- ---- an event

pub orders_next : (c : Choices) (w : World) (p : Past) (e : Event) → AddsSecond e → Lasts p w → IsWell (view p) → OrdersStand (view p) w
    → OrdersStand (view (after p (world_step c w e).1)) (world_step c w e).0
orders_next c w p e names lasts well stand = λ l.
    let x = (world_step c w e).1 in
    let place = place_taken x.event x.answer in
    let v = hears_answer p e x.answer (view p) in
    let done = agrees_after c w p (view p) e names lasts.none lasts.agree in
    let first = answer_grows p e x.answer (view p) well in
    let more = lines_grow x.lines v first.well in
    let now = after_view p x in
    let heard = words_alone x.lines v ∙ ap (fold hears v) done.said in
    let new : (y : Plan × List ℕ) → done.words.order ≡ Some y → IsDrawnOrder (fold hears v x.lines) (Some y) =
    λ y is. subst (λ (z : View). IsDrawnOrder z (Some y)) (sym heard) (sent_planned (notes_of done.words) done.words.order v first.well done.fits y is) in
    subst (λ (z : View). AllByRecursion (IsOrderOn z l) (filter orders (flights_on l (world_step c w e).0.links))) (sym now)
    (subst (AllByRecursion (IsOrderOn (fold hears v x.lines) l))
    (sym (ap (filter orders) (flights_next c w e l lasts.long) ∙ filter_append orders (without_taken l place (flights_on l w.links)) (put_on l x.lines)
    ∙ ap (λ fs. filter orders (without_taken l place (flights_on l w.links)) ++ fs) (orders_on l (sends x.lines) ∙ ap (flat_map (on_link l)) done.sent)))
    (each_append (IsOrderOn (fold hears v x.lines) l) (filter orders (without_taken l place (flights_on l w.links))) (flat_map (on_link l) (order_sends done.words.order))
    (without (IsOrderOn (fold hears v x.lines) l) l place (flights_on l w.links)
    (all_stay (view p) (fold hears v x.lines) l (filter orders (flights_on l w.links)) (then_grows (view p) v (fold hears v x.lines) first more) (stand l)))
    (put_there (fold hears v x.lines) l done.words.order new)))
