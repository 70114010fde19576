-- What is still asked of a run is that flights are read right, and that no PDU comes to the terminal from a window ahead of RX_DELIV.
use Rattle.std.proofs.Common.{ℕ, ◌<◌, ◌^◌, List, [], ◌∷◌, refl, arith}
use Rattle.std.specs.Prelude.{length, ⊤}
use Rattle.std.specs.List.{AllByRecursion}
use Rattle.dc_base.specs.declared.events.Event.{Event}
use Rattle.dc_base.specs.declared.events.Header.{Header}
use Rattle.dc_base.specs.declared.nodes.Node.{Node}
use Rattle.dc_base.specs.declared.nodes.Node.TheVariants.{A, B, T}
use Rattle.dc_base.specs.declared.records.Plan.{Plan}
use Rattle.claims.specs.Noted.{after, past_from}
use Rattle.claims.specs.Past.{Past, new_past}
use Rattle.node_rules.specs.Choices.{Choices}
use Rattle.node_rules.specs.Run.{entries_from, happening, world_after, world_step}
use Rattle.node_rules.specs.World.{World, new_world}
use Rattle.run_control.specs.Sound.{AddsSecond}
use Rattle.run_table.specs.View.{view}
use Rattle.run_relays.specs.Ranges.{NamesIdentity}
use Rattle.run_relays.proofs.MasterTurn.{Stay}
use Rattle.run_relays.proofs.Small.{small_always}
use Rattle.run_confirmed.specs.Heard.{HappensRead}
use Rattle.run_confirmed.specs.Laid.{AreLow, BeginsLow, layout_of}
use Rattle.run_confirmed.proofs.Low.{low_always}
use Rattle.run_confirmed.specs.Stories.{IsUnused, Layout, Stories, blank}
use Rattle.run_confirmed.specs.Worlds.{IsWorldOf}
use Rattle.run_confirmed.proofs.Always.{new_is}
use Rattle.run_confirmed.proofs.Laid.{AreNamed}
use Rattle.run_confirmed.proofs.Runs.{event_right, event_stays, plans_of, run_stays}
use Rattle.run_confirmed.proofs.News.{AllFresh, Newly, event_heard, event_new, newly_new, newly_next}

module _ (c : Choices) (plans : List Plan) (named : AreNamed plans) (low : AreLow plans) where
  -- each flight that is taken is read right, and the terminal infers its COUNT, by the stories up to it
  abbrev pub AreRead : (es : List Event) → AllByRecursion AddsSecond es → (w : World) (p : Past) → Newly p w → (stories : Stories)
      → IsWorldOf (layout_of plans) stories w → AllFresh (layout_of plans) w stories → Stay (view (past_from p (entries_from c w es))).plans plans
      → Type 0
  AreRead [] adds w p is_new stories is fresh stay = ⊤
  AreRead (e ∷ es) adds w p is_new stories is fresh stay =
      let x = (world_step c w e).1 in
      let q = after p x in
      let next' = newly_next c w p e adds.0 is_new in
      let from_next : Stay (view q).plans plans = λ g y at. stay g y (run_stays c es adds.1 (world_step c w e).0 q next'.stands g y at) in
      let from_here : Stay (view p).plans plans = λ g y at. from_next g y (event_stays c w p e is_new.stands g y at) in
      (read : HappensRead (layout_of plans) stories w (happening w e)) × (let heard = event_heard (layout_of plans) c p w is_new stories is fresh e read in
      let right = event_right c plans named low p w is_new.stands stories is from_here e adds.0 from_next heard in
      let got = event_new (layout_of plans) c p w is_new stories is fresh e right in
      AreRead es adds.1 (world_step c w e).0 q next' got.later got.so got.fresh' stay)

  read_goes : (es : List Event) (adds : AllByRecursion AddsSecond es) (w : World) (p : Past) (is_new : Newly p w) (stories : Stories)
      (is : IsWorldOf (layout_of plans) stories w) (fresh : AllFresh (layout_of plans) w stories) (stay : Stay (view (past_from p (entries_from c w es))).plans plans)
      → AreRead es adds w p is_new stories is fresh stay
      → (later : Stories) × IsWorldOf (layout_of plans) later (world_after c w es)
  read_goes [] adds w p is_new stories is fresh stay read = (stories, is)
  read_goes (e ∷ es) adds w p is_new stories is fresh stay read =
      let x = (world_step c w e).1 in
      let q = after p x in
      let next' = newly_next c w p e adds.0 is_new in
      let from_next : Stay (view q).plans plans = λ g y at. stay g y (run_stays c es adds.1 (world_step c w e).0 q next'.stands g y at) in
      let from_here : Stay (view p).plans plans = λ g y at. from_next g y (event_stays c w p e is_new.stands g y at) in
      let heard = event_heard (layout_of plans) c p w is_new stories is fresh e read.0 in
      let right = event_right c plans named low p w is_new.stands stories is from_here e adds.0 from_next heard in
      let got = event_new (layout_of plans) c p w is_new stories is fresh e right in
      read_goes es adds.1 (world_step c w e).0 q next' got.later got.so got.fresh' stay read.1

-- before the first event all is new
pub new_fresh : (layout : Layout) (h : Header) → AllFresh layout (new_world h) (λ id g. blank)
new_fresh layout h = record {
  t = record { bound = 1; some = omega arith; older = tt; line = omega arith; unused = λ id g above. blank_unused T id g };
  a = record { bound = 1; some = omega arith; older = (tt, (tt, tt)); line = omega arith; unused = λ id g above. blank_unused A id g };
  b = record { bound = 1; some = omega arith; older = (tt, (tt, tt)); line = omega arith; unused = λ id g above. blank_unused B id g };
}
  where
    blank_unused : (y : Node) (id g : ℕ) → IsUnused layout y id g blank
    blank_unused y id g = record { own = λ here. refl; tunnel = λ here. refl; far = λ here. refl; rx = λ here. refl }

-- after fewer than 2^23 events of which each addition is of a secondary node, and each bearer has an identity of 1 to 32 and a first COUNT
-- of 32 bits, while flights that are taken are read right, and no PDU comes to the terminal from a window ahead: there are stories that all nodes
-- and links agree with, laid out as the plans drawn say
pub read_always : (c : Choices) (h : Header) (policies : ℕ) (es : List Event) (adds : AllByRecursion AddsSecond es) (names : AllByRecursion NamesIdentity es) (few : length es < 2 ^ 23)
    (begins : AllByRecursion BeginsLow es)
    → (let plans = plans_of c h policies es in
    AreRead c plans (small_always c h policies es adds names few) (low_always c h policies es adds begins) es adds (new_world h) (new_past h policies) (newly_new c h policies) (λ id g. blank) (new_is (layout_of plans) h) (new_fresh (layout_of plans) h) (λ g q at. at))
    → (stories : Stories) × IsWorldOf (layout_of (plans_of c h policies es)) stories (world_after c (new_world h) es)
read_always c h policies es adds names few begins read =
    let plans = plans_of c h policies es in
    let named = small_always c h policies es adds names few in
    read_goes c plans named (low_always c h policies es adds begins) es adds (new_world h) (new_past h policies) (newly_new c h policies) (λ id g. blank) (new_is (layout_of plans) h) (new_fresh (layout_of plans) h) (λ g q at. at) read
