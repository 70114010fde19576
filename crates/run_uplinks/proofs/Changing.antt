-- The terminal's side after one bearer changed.
use Rattle.std.proofs.Common.{ℕ, ◌≡◌, ◌<◌, ◌==◌, false, List, [], ◌∷◌, Option, Some, None, refl, sym, ap, subst, ◌∙◌, arith, inl, inr}
use Rattle.std.specs.Prelude.{if◌then◌else◌}
use Rattle.std.specs.List.{AllByRecursion}
use Rattle.std.specs.Option.{option_map}
use Rattle.std.proofs.lemmas.Bool.{cases_Bool, eqb-true}
use Rattle.node_rules.specs.Held.{held, holding}
use Rattle.node_rules.specs.Terminal.{TerminalNode, with_half}
use Rattle.node_rules.specs.TerminalHalf.{TerminalHalf}
use Rattle.master_runs.proofs.Holding.{held-other, held-same}
use Rattle.run_windows.proofs.Keys.{ascends-out, ascends-put, out-other, out-same}
use Rattle.run_uplinks.specs.Seen.{Seen, Uplink, latest, on_latest, unset}
use Rattle.run_uplinks.specs.Uplinks.{plane, Plane, Fits, IsDrawn, IsHalf, IsNear, IsOut, IsUp, absent, bearer_drawn, drop_drawn, nothing_drawn, present, settings_drawn}
use Rattle.run_uplinks.proofs.Establishments.{alone_latest, descend_latest, latest-other, latest-same, some_is}

-- a change keeps name, identity, length of SNs and first COUNT
pub record KeepsFace (f : Uplink → Uplink) : Type 0 where
  pub g : (u : Uplink) → (f u).g ≡ u.g
  pub id : (u : Uplink) → (f u).id ≡ u.id
  pub n : (u : Uplink) → (f u).n ≡ u.n
  pub first : (u : Uplink) → (f u).first ≡ u.first

-- the latest of an identity changed
abbrev pub with_latest : ℕ → (Uplink → Uplink) → Seen → Seen
with_latest id f s = record s { bearers = on_latest id f s.bearers }

drawn_latest : (id : ℕ) (f : Uplink → Uplink) → KeepsFace f → (s : Seen) → IsDrawn s → IsDrawn (with_latest id f s)
drawn_latest id f keeps s (nothing_drawn plans bearers) = nothing_drawn plans (ap (on_latest id f) bearers)
drawn_latest id f keeps s (settings_drawn q qs plans last olds below) = settings_drawn q qs plans last olds (descend_latest s.last id f keeps.g s.bearers below)
drawn_latest id f keeps s (drop_drawn q qs plans last i items below) = drop_drawn q qs plans last i items (descend_latest s.last id f keeps.g s.bearers below)
drawn_latest id f keeps s (bearer_drawn q qs plans last i n first shape threshold policy key items u us bearers named of_id of_n of_first below) =
    elim (cases_Bool (u.id == id)) [
      | inl here ↦
          bearer_drawn q qs plans last i n first shape threshold policy key items (f u) us (ap (on_latest id f) bearers ∙ ap (λ b. if b then f u ∷ us else u ∷ on_latest id f us) here)
          (keeps.g u ∙ named) (keeps.id u ∙ of_id) (keeps.n u ∙ of_n) (keeps.first u ∙ of_first) below
      | inr there ↦
          bearer_drawn q qs plans last i n first shape threshold policy key items u (on_latest id f us) (ap (on_latest id f) bearers ∙ ap (λ b. if b then f u ∷ us else u ∷ on_latest id f us) there)
          named of_id of_n of_first (descend_latest s.last id f keeps.g us below)
    ]

-- the window of the one that changed, and of the others
near_latest : (id : ℕ) (f : Uplink → Uplink) (us : List Uplink) (u : Uplink) → latest id us ≡ Some u → IsNear (f u) → AllByRecursion IsNear us → AllByRecursion IsNear (on_latest id f us)
near_latest id f [] u at near all = tt
near_latest id f (v ∷ us) u at near all =
    elim (cases_Bool (v.id == id)) [
      | inl here ↦ let same = some_is v u (rw here at at) in rw here (subst (λ (x : Uplink). IsNear (f x)) (sym same) near, all.1)
      | inr there ↦ rw there (all.0, near_latest id f us u (rw there at at) near all.1)
    ]

near_unset : (id : ℕ) (us : List Uplink) → AllByRecursion IsNear us → AllByRecursion IsNear (on_latest id unset us)
near_unset id [] all = tt
near_unset id (v ∷ us) all = elim (cases_Bool (v.id == id)) [ inl here ↦ rw here (all.0, all.1) | inr there ↦ rw there (all.0, near_unset id us all.1) ]

near_half : (k : Plane) (u : Uplink) (h : TerminalHalf) → IsHalf k u h → IsNear u
near_half k u h is = let near = is.sender.near in let next = is.sender.next in omega (arith, near, next)

module _ (s : Seen) (t : TerminalNode) (is : IsUp s t) where
  -- what another identity has stays
  other_fits : (id k : ℕ) (f : Uplink → Uplink) (o : Option TerminalHalf) → KeepsFace f → (id == k) ≡ false → held k (holding id o t.halves) ≡ held k t.halves → Fits s t k
      → Fits (with_latest id f s) (with_half t id o) k
  other_fits id k f o keeps apart same (absent none out) =
      absent (same ∙ none) (subst (λ x. IsOut s.last x) (sym (latest-other id k f keeps.id apart s.bearers)) out)
  other_fits id k f o keeps apart same (present h there u at half) =
      present h (same ∙ there) u (latest-other id k f keeps.id apart s.bearers ∙ at) half

  -- the terminal holds this of the latest establishment of an identity
  pub half_changed : (id : ℕ) (f : Uplink → Uplink) (u : Uplink) (h : TerminalHalf) → KeepsFace f → latest id s.bearers ≡ Some u → IsHalf (plane s) (f u) h
      → IsUp (with_latest id f s) (with_half t id (Some h))
  half_changed id f u h keeps at half = record {
    each = λ k. elim (cases_Bool (id == k)) [
      | inl same ↦
          subst (λ j. Fits (with_latest id f s) (with_half t id (Some h)) j) (eqb-true id k same)
          (present h (held-same id h t.halves) (f u) (latest-same id f keeps.id s.bearers ∙ ap (option_map f) at) half)
      | inr apart ↦ other_fits id k f (Some h) keeps apart (held-other id k h t.halves apart) (is.each k)
    ];
    alone = alone_latest id f keeps.id s.bearers is.alone;
    near = near_latest id f s.bearers u at (near_half (plane s) (f u) h half) is.near;
    drawn = drawn_latest id f keeps s is.drawn;
    sec = is.sec;
    alg = is.alg;
    ascends = ascends-put 0 id h t.halves (omega arith) is.ascends;
  }

  -- what is seen stays, and the terminal holds this
  pub half_kept : (id : ℕ) (u : Uplink) (h : TerminalHalf) → latest id s.bearers ≡ Some u → IsHalf (plane s) u h → IsUp s (with_half t id (Some h))
  half_kept id u h at half = record {
    each = λ k. elim (cases_Bool (id == k)) [
      | inl same ↦ subst (λ j. Fits s (with_half t id (Some h)) j) (eqb-true id k same) (present h (held-same id h t.halves) u at half)
      | inr apart ↦ still k apart (is.each k)
    ];
    alone = is.alone;
    near = is.near;
    drawn = is.drawn;
    sec = is.sec;
    alg = is.alg;
    ascends = ascends-put 0 id h t.halves (omega arith) is.ascends;
  }
    where
      still : (k : ℕ) → (id == k) ≡ false → Fits s t k → Fits s (with_half t id (Some h)) k
      still k apart (absent none out) = absent (held-other id k h t.halves apart ∙ none) out
      still k apart (present x there v v_at half') = present x (held-other id k h t.halves apart ∙ there) v v_at half'

  -- it dropped the bearer, which was named before the last generation
  pub half_dropped : (id : ℕ) → ((u : Uplink) → latest id s.bearers ≡ Some u → u.g < s.last) → IsUp (with_latest id unset s) (with_half t id None)
  half_dropped id before = record {
    each = λ k. elim (cases_Bool (id == k)) [
      | inl same ↦
          subst (λ j. Fits (with_latest id unset s) (with_half t id None) j) (eqb-true id k same)
          (absent (out-same 0 id t.halves is.ascends) (subst (λ o. IsOut s.last o) (sym (latest-same id unset (λ u. refl) s.bearers)) (by (latest id s.bearers) before)))
      | inr apart ↦ other_fits id k unset None keeps apart (out-other id k t.halves apart) (is.each k)
    ];
    alone = alone_latest id unset (λ u. refl) s.bearers is.alone;
    near = near_unset id s.bearers is.near;
    drawn = drawn_latest id unset keeps s is.drawn;
    sec = is.sec;
    alg = is.alg;
    ascends = ascends-out 0 id t.halves is.ascends;
  }
    where
      keeps : KeepsFace unset
      keeps = record { g = λ u. refl; id = λ u. refl; n = λ u. refl; first = λ u. refl }

      by : (o : Option Uplink) → ((u : Uplink) → o ≡ Some u → u.g < s.last) → IsOut s.last (option_map unset o)
      by None before' = tt
      by (Some u) before' = (refl, inr (before' u refl))
