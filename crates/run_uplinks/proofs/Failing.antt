-- The terminal's side where the secondary cell group fails.
use Rattle.std.proofs.Common.{ℕ, ◌≡◌, ◌+◌, ◌==◌, Bool, true, false, List, [], ◌∷◌, Option, Some, None, refl, sym, ap, subst, ◌∙◌}
use Rattle.std.specs.Prelude.{if◌then◌else◌, map}
use Rattle.std.specs.List.{AllByRecursion}
use Rattle.std.specs.Option.{option_map}
use Rattle.dc_base.specs.declared.records.Plan.{Plan}
use Rattle.claims.specs.Judged.{has_scg_in}
use Rattle.node_rules.specs.Held.{held}
use Rattle.node_rules.specs.Terminal.{TerminalNode}
use Rattle.node_rules.specs.TerminalHalf.{TerminalHalf, terminal_fail}
use Rattle.master_runs.proofs.Holding.{held-cons}
use Rattle.run_windows.specs.Windows.{Ascends}
use Rattle.run_uplinks.specs.Seen.{Seen, Uplink, fails_in, latest, leg_fails, setting_in}
use Rattle.run_uplinks.specs.Uplinks.{plane, Fits, IsDrawn, IsNear, IsOut, IsUp, absent, bearer_drawn, drop_drawn, nothing_drawn, present, settings_drawn}
use Rattle.run_uplinks.proofs.Changing.{KeepsFace}
use Rattle.run_uplinks.proofs.Establishments.{alone_each, descend_each, latest-each}
use Rattle.run_uplinks.proofs.Halves.{failed_half}

-- ---- halves

held_each : (id : ℕ) (xs : List (ℕ × TerminalHalf)) → held id (map (λ (x : ℕ × TerminalHalf). (x.0, terminal_fail x.1)) xs) ≡ option_map terminal_fail (held id xs)
held_each id [] = refl
held_each id (x ∷ xs) =
    let f : ℕ × TerminalHalf → ℕ × TerminalHalf = λ y. (y.0, terminal_fail y.1) in
    held-cons id (f x) (map f xs) ∙ ap (λ o. if id == x.0 then Some (terminal_fail x.1) else o) (held_each id xs)
    ∙ by (id == x.0) ∙ sym (ap (option_map terminal_fail) (held-cons id x xs))
  where
    by : (b : Bool) → (if b then Some (terminal_fail x.1) else option_map terminal_fail (held id xs)) ≡ option_map terminal_fail (if b then Some x.1 else held id xs)
    by true = refl
    by false = refl

ascends_each : (low : ℕ) (xs : List (ℕ × TerminalHalf)) → Ascends low xs → Ascends low (map (λ (x : ℕ × TerminalHalf). (x.0, terminal_fail x.1)) xs)
ascends_each low [] up = tt
ascends_each low (x ∷ xs) up = (up.0, ascends_each (x.0 + 1) xs up.1)

-- ---- establishments

-- a failure changes the mark alone
record Keeps (u v : Uplink) : Type 0 where
  g : v.g ≡ u.g
  id : v.id ≡ u.id
  n : v.n ≡ u.n
  first : v.first ≡ u.first
  terminal : v.terminal ≡ u.terminal

leg_keeps : (b : Bool) (u : Uplink) → Keeps u (leg_fails b u)
leg_keeps false u = record { g = refl; id = refl; n = refl; first = refl; terminal = refl }
leg_keeps true u = record { g = refl; id = refl; n = refl; first = refl; terminal = refl }

fails_keeps : (plans : List Plan) (u : Uplink) (o : Option ℕ) → Keeps u (fails_in plans u o)
fails_keeps plans u None = record { g = refl; id = refl; n = refl; first = refl; terminal = refl }
fails_keeps plans u (Some g) = leg_keeps (has_scg_in (setting_in plans u.id g)) u

near_leg : (b : Bool) (u : Uplink) → IsNear u → IsNear (leg_fails b u)
near_leg false u near = near
near_leg true u near = near

near_fails : (plans : List Plan) (u : Uplink) (o : Option ℕ) → IsNear u → IsNear (fails_in plans u o)
near_fails plans u None near = near
near_fails plans u (Some g) near = near_leg (has_scg_in (setting_in plans u.id g)) u near

near_each : (plans : List Plan) (us : List Uplink) → AllByRecursion IsNear us → AllByRecursion IsNear (map (λ (u : Uplink). fails_in plans u u.terminal) us)
near_each plans [] all = tt
near_each plans (u ∷ us) all = (near_fails plans u u.terminal all.0, near_each plans us all.1)

module _ (s : Seen) (t : TerminalNode) (is : IsUp s t) where
  abbrev fails : Uplink → Uplink
  fails u = fails_in s.plans u u.terminal

  keeps : KeepsFace fails
  keeps = record {
    g = λ u. (fails_keeps s.plans u u.terminal).g;
    id = λ u. (fails_keeps s.plans u u.terminal).id;
    n = λ u. (fails_keeps s.plans u u.terminal).n;
    first = λ u. (fails_keeps s.plans u u.terminal).first;
  }

  abbrev seen_failed : Seen
  seen_failed = record s { bearers = map (λ (u : Uplink). fails_in s.plans u u.terminal) s.bearers }

  abbrev failed : TerminalNode
  failed = record t { halves = map (λ (x : ℕ × TerminalHalf). (x.0, terminal_fail x.1)) t.halves }

  out_failed : (o : Option Uplink) → IsOut s.last o → IsOut s.last (option_map fails o)
  out_failed None out = tt
  out_failed (Some u) out = subst (λ o. IsOut s.last (Some (fails_in s.plans u o))) (sym out.0) out

  fits_failed : (id : ℕ) → Fits s t id → Fits seen_failed failed id
  fits_failed id (absent none out) =
      absent (held_each id t.halves ∙ ap (option_map terminal_fail) none) (subst (λ o. IsOut s.last o) (sym (latest-each id fails keeps.id s.bearers)) (out_failed (latest id s.bearers) out))
  fits_failed id (present h there u at half) =
      present (terminal_fail h) (held_each id t.halves ∙ ap (option_map terminal_fail) there) (fails u) (latest-each id fails keeps.id s.bearers ∙ ap (option_map fails) at)
      (failed_half (plane s) u h half)

  drawn_failed : IsDrawn s → IsDrawn seen_failed
  drawn_failed (nothing_drawn plans bearers) = nothing_drawn plans (ap (map fails) bearers)
  drawn_failed (settings_drawn q qs plans last olds below) = settings_drawn q qs plans last olds (descend_each s.last fails keeps.g s.bearers below)
  drawn_failed (drop_drawn q qs plans last i items below) = drop_drawn q qs plans last i items (descend_each s.last fails keeps.g s.bearers below)
  drawn_failed (bearer_drawn q qs plans last i n first shape threshold policy key items u us bearers named of_id of_n of_first below) =
      bearer_drawn q qs plans last i n first shape threshold policy key items (fails u) (map fails us) (ap (map fails) bearers)
      (keeps.g u ∙ named) (keeps.id u ∙ of_id) (keeps.n u ∙ of_n) (keeps.first u ∙ of_first) (descend_each s.last fails keeps.g us below)

  -- all of it
  pub failed_up : IsUp seen_failed failed
  failed_up = record {
    each = λ id. fits_failed id (is.each id);
    alone = alone_each fails keeps.id (λ u out. (fails_keeps s.plans u u.terminal).terminal ∙ out) s.bearers is.alone;
    near = near_each s.plans s.bearers is.near;
    drawn = drawn_failed is.drawn;
    sec = is.sec;
    alg = is.alg;
    ascends = ascends_each 0 t.halves is.ascends;
  }
