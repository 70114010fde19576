-- What becomes of the master's window of a bearer, as Low is told, and of a new bearer.
use Rattle.std.proofs.Common.{List, Option, Some, [], false, refl, sym, ap, arith, ℕ, ◌++◌, ◌-◌, ◌^◌, ◌≡◌, ◌≤◌, ◌∙◌, ◌∷◌}
use Rattle.std.specs.List.{AllByRecursion}
use Rattle.dc_base.specs.declared.flights.Flight.{Flight}
use Rattle.dc_base.specs.declared.flights.Flight.TheVariants as flight
use Rattle.dc_base.specs.declared.nodes.Node.{Node}
use Rattle.pdcp_tx.specs.Sender.{Sender, low}
use Rattle.transcript.proofs.OnEach.{each_append, each_weaker}
use Rattle.node_rules.specs.Anchor.{new_tunnel}
use Rattle.node_rules.specs.Entity.{new_entity}
use Rattle.node_rules.specs.Setup.{Setup}
use Rattle.node_rules.specs.declared.bearers.Window.{Window}
use Rattle.run_receivers.specs.Submitted.{Submitted}
use Rattle.run_ordered.specs.Feeds.{IsTold}
use Rattle.run_ordered.specs.Fronts.{HasFront}
use Rattle.run_ordered.specs.Orders.{IsWindowOf, Scene}

-- ---- what is told

-- a COUNT that is told is at most Low, however far that rises
pub told_higher : (est id k h : ℕ) (line : List Flight) → k ≤ h → AllByRecursion (IsTold est id k) line → AllByRecursion (IsTold est id h) line
told_higher est id k h line le all = each_weaker (IsTold est id k) (IsTold est id h) (λ f so. one f so) line all
  where
    one : (f : Flight) → IsTold est id k f → IsTold est id h f
    one (flight.Told i g count) so = λ named since. let few = so named since in omega (arith, few, le)
    one (flight.Air i g num tag pdu) so = tt
    one (flight.Ack i g num) so = tt
    one (flight.Tun tag packet) so = tt
    one (flight.Sdu i g payload) so = tt
    one (flight.End i g) so = tt
    one (flight.Ctl x) so = tt

-- one more is
pub told_more : (est id k i g count : ℕ) (line : List Flight) → (i ≡ id → count ≤ k) → AllByRecursion (IsTold est id k) line → AllByRecursion (IsTold est id k) (line ++ flight.Told i g count ∷ [])
told_more est id k i g count line le all = each_append (IsTold est id k) line (flight.Told i g count ∷ []) all (λ named since. le named, tt)

-- the window stays, or begins at a COUNT that is further on, and at most this one
pub data IsFreed (before after : Option Window) (most : ℕ) : Type 0 where
  stays : (same : after ≡ before) → IsFreed before after most
  begins : (w : Window) → (count : ℕ) → (was : before ≡ Some w) → (is : after ≡ Some (record w { told = count })) → (further : w.told ≤ count) → (upto : count ≤ most) → IsFreed before after most

module _ (u : Submitted) (est id : ℕ) (s s' : Scene) where
  -- it is that of an entity whose Low has not fallen
  pub window_next : (tx ty : Sender) → low tx ≤ low ty → IsFreed s.window s'.window (low ty) → ((z : Node) → AllByRecursion (IsTold est id (low ty)) (s.at z).told → AllByRecursion (IsTold est id (low ty)) (s'.at z).told)
      → IsWindowOf u est id s tx → IsWindowOf u est id s' ty
  window_next tx ty le (stays same) lines is =
      let told = is.told in
      record {
        begun = is.begun;
        there = same ∙ is.there;
        accepted = is.accepted;
        told = omega arith;
        near = is.near;
        on_lines = λ z. lines z (told_higher est id (low tx) (low ty) (s.at z).told le (is.on_lines z));
      }
  window_next tx ty le (begins w count was after further upto) lines is =
      let same : w ≡ is.begun = one w is.begun (sym was ∙ is.there) in
      let near = is.near in
      let told_is : w.told ≡ is.begun.told = ap (λ (x : Window). x.told) same in
      record {
        begun = record w { told = count };
        there = after;
        accepted = ap (λ (x : Window). x.accepted) same ∙ is.accepted;
        told = upto;
        near = omega arith;
        on_lines = λ z. lines z (told_higher est id (low tx) (low ty) (s.at z).told le (is.on_lines z));
      }
    where
      one : (a b : Window) → Some a ≡ Some b → a ≡ b
      one a b e = cc

-- ---- a new bearer

-- nothing was submitted to it yet
pub fresh_front : (s : Setup) → s.first ≤ 2 ^ 32 - 1 → HasFront (record { n = s.n; first = s.first; payloads = [] }) [] (record { entity = new_entity s; is_open = false; tunnel = new_tunnel s.n })
fresh_front s small = record {
  same_n = refl;
  front = record {
    same_n = refl;
    given = [];
    next = omega arith;
    all = refl;
    rises = omega arith;
    kept = tt;
    room = omega arith;
    small = omega arith;
    none_held = λ is. refl;
  };
}
