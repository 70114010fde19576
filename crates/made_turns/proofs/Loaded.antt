-- Links on which flights stand, and losses, link by link.
use Rattle.std.proofs.Common.{ℕ, suc, ◌≡◌, ◌+◌, ◌<◌, ◌≤◌, false, true, List, [], ◌∷◌, None, Some, drop, get_or, length, refl, ap, ◌∙◌, arith, add-one}
use Rattle.std.specs.Prelude.{◌==◌, slice_get}
use Rattle.std.proofs.Math.Seq.{drop-cons}
use Rattle.std.proofs.lemmas.Bool.{eq-eqb, ne_eqb}
use Rattle.std.proofs.lemmas.List.{drop_all}
use Rattle.std.proofs.lemmas.Option.{slice_get_past}
use Rattle.dc_base.specs.Links.{all_links, is_tunnel}
use Rattle.dc_base.specs.declared.events.Event.{Event}
use Rattle.dc_base.specs.declared.events.Event.TheVariants.{Lose}
use Rattle.dc_base.specs.declared.nodes.LinkId.{LinkId}
use Rattle.node_rules.specs.World.{Links, flights_on}
use Rattle.made_scripts.specs.Draws.{drawn, next_state}
use Rattle.made_scripts.specs.Turns.{drawn_step, first_loss, is_loaded, loaded_count, loaded_of, loss_on, own_place, step_on_drawn, turn}

-- what is left from a place on
cut : (ls : List LinkId) (i : ℕ) (d : LinkId) → i < length ls → drop i ls ≡ get_or ls i d ∷ drop (i + 1) ls
cut ls i d less = rw add-one (drop-cons ls i d less)

module _ (links : Links) where
  -- ---- losses

  pub no_tunnel : (l : LinkId) → is_tunnel l.class ≡ false → loss_on links l ≡ None
  unfolding loss_on
  no_tunnel l other = rw other refl

  pub no_own : (l : LinkId) → is_tunnel l.class ≡ true → own_place (flights_on l links) ≡ None → loss_on links l ≡ None
  unfolding loss_on
  no_own l tunnel none = rw (tunnel, none) refl

  pub own_lost : (l : LinkId) (i : ℕ) → is_tunnel l.class ≡ true → own_place (flights_on l links) ≡ Some i → loss_on links l ≡ Some (Lose l i)
  unfolding loss_on
  own_lost l i tunnel is = rw (tunnel, is) refl

  pub loss_at : (ls : List LinkId) (i : ℕ) (d : LinkId) (event : Event) → i < length ls → loss_on links (get_or ls i d) ≡ Some event → first_loss links (drop i ls) ≡ Some event
  unfolding first_loss
  loss_at ls i d event less is = rw (cut ls i d less, is) refl

  pub loss_past : (ls : List LinkId) (i : ℕ) (d : LinkId) → i < length ls → loss_on links (get_or ls i d) ≡ None
      → first_loss links (drop i ls) ≡ first_loss links (drop (i + 1) ls)
  unfolding first_loss
  loss_past ls i d less is = rw (cut ls i d less, is) refl

  pub loss_end : (ls : List LinkId) (i : ℕ) → length ls ≤ i → first_loss links (drop i ls) ≡ None
  unfolding first_loss
  loss_end ls i past = rw (drop_all i ls past) refl

  -- ---- links on which flights stand

  here : (l : LinkId) (ls : List LinkId) → is_loaded links l ≡ true → loaded_of links (l ∷ ls) ≡ l ∷ loaded_of links ls
  unfolding loaded_of
  here l ls loaded = rw loaded refl

  later : (l : LinkId) (ls : List LinkId) → is_loaded links l ≡ false → loaded_of links (l ∷ ls) ≡ loaded_of links ls
  unfolding loaded_of
  later l ls empty = rw empty refl

  nowhere : loaded_of links [] ≡ []
  unfolding loaded_of
  nowhere = refl

  -- the first of those that are left
  pub place_here : (ls : List LinkId) (i k : ℕ) (d : LinkId) → i < length ls → is_loaded links (get_or ls i d) ≡ true → k ≡ 0
      → slice_get (loaded_of links (drop i ls)) k ≡ Some (get_or ls i d)
  place_here ls i k d less loaded none =
      ap (λ (m : List LinkId). slice_get (loaded_of links m) k) (cut ls i d less)
      ∙ ap (λ (m : List LinkId). slice_get m k) (here (get_or ls i d) (drop (i + 1) ls) loaded)
      ∙ ap (λ n. slice_get (get_or ls i d ∷ loaded_of links (drop (i + 1) ls)) n) none

  -- another one
  pub place_later : (ls : List LinkId) (i k m : ℕ) (d : LinkId) → i < length ls → is_loaded links (get_or ls i d) ≡ true → k ≡ suc m
      → slice_get (loaded_of links (drop i ls)) k ≡ slice_get (loaded_of links (drop (i + 1) ls)) m
  place_later ls i k m d less loaded more =
      ap (λ (m : List LinkId). slice_get (loaded_of links m) k) (cut ls i d less)
      ∙ ap (λ (m : List LinkId). slice_get m k) (here (get_or ls i d) (drop (i + 1) ls) loaded)
      ∙ ap (λ n. slice_get (get_or ls i d ∷ loaded_of links (drop (i + 1) ls)) n) more

  -- a link on which none stands
  pub place_past : (ls : List LinkId) (i k : ℕ) (d : LinkId) → i < length ls → is_loaded links (get_or ls i d) ≡ false
      → slice_get (loaded_of links (drop i ls)) k ≡ slice_get (loaded_of links (drop (i + 1) ls)) k
  place_past ls i k d less empty =
      ap (λ (m : List LinkId). slice_get (loaded_of links m) k) (cut ls i d less)
      ∙ ap (λ (m : List LinkId). slice_get m k) (later (get_or ls i d) (drop (i + 1) ls) empty)

  pub place_end : (ls : List LinkId) (i k : ℕ) → length ls ≤ i → slice_get (loaded_of links (drop i ls)) k ≡ None
  place_end ls i k past =
      ap (λ (m : List LinkId). slice_get (loaded_of links m) k) (drop_all i ls past) ∙ ap (λ (m : List LinkId). slice_get m k) nowhere
      ∙ slice_get_past [] k (omega arith)

  -- ---- a step that is drawn

  pub none_loaded : (draws : ℕ) → loaded_count links all_links ≡ 0 → drawn_step links draws ≡ turn None draws
  unfolding drawn_step
  none_loaded draws none = let test : (loaded_count links all_links == 0) ≡ true = eq-eqb _ 0 none in rw test refl

  pub some_loaded : (draws : ℕ) → (loaded_count links all_links ≡ 0 → ⊥)
      → drawn_step links draws
      ≡ step_on_drawn links (next_state draws) (slice_get (loaded_of links all_links) (drawn (next_state draws) (loaded_count links all_links)))
  unfolding drawn_step
  some_loaded draws some = let test : (loaded_count links all_links == 0) ≡ false = ne_eqb _ 0 some in rw test refl
