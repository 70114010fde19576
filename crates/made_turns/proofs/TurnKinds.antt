-- What a turn does, by its first draw.
use Rattle.std.proofs.Common.{ℕ, ◌≡◌, ◌<◌, ◌≤◌, false, true, Some, refl, arith}
use Rattle.std.specs.Prelude.{◌==◌, nat_lt}
use Rattle.std.proofs.lemmas.Bool.{eq-eqb, le-ltb, lt-ltb, ne_eqb}
use Rattle.dc_base.specs.declared.events.Event.TheVariants.{Submit}
use Rattle.dc_base.specs.declared.nodes.Dir.TheVariants.{Dl, Ul}
use Rattle.node_rules.specs.World.{World}
use Rattle.made_scripts.specs.Draws.{drawn, next_state}
use Rattle.made_scripts.specs.Turns.{command_of, drawn_step, loss, payload_of, turn, turn_of_kind, unless_busy}

module _ (w : World) (number draws kind : ℕ) where
  pub kind_dl : kind < 2 → turn_of_kind w number draws kind ≡ turn (Some (Submit 1 Dl (payload_of number))) draws
  unfolding turn_of_kind
  kind_dl less = let yes : nat_lt kind 2 ≡ true = lt-ltb kind 2 less in rw yes refl

  pub kind_ul : kind ≡ 2 → turn_of_kind w number draws kind ≡ turn (Some (Submit 1 Ul (payload_of number))) draws
  unfolding turn_of_kind
  kind_ul is =
      let no : nat_lt kind 2 ≡ false = le-ltb kind 2 (omega arith) in
      let yes : (kind == 2) ≡ true = eq-eqb kind 2 is in
      rw (no, yes) refl

  pub kind_step : 3 ≤ kind → kind < 14 → turn_of_kind w number draws kind ≡ drawn_step w.links draws
  unfolding turn_of_kind
  kind_step least less =
      let no : nat_lt kind 2 ≡ false = le-ltb kind 2 (omega arith) in
      let other : (kind == 2) ≡ false = ne_eqb kind 2 (λ is. omega arith) in
      let yes : nat_lt kind 14 ≡ true = lt-ltb kind 14 less in
      rw (no, other, yes) refl

  pub kind_loss : kind ≡ 14 → turn_of_kind w number draws kind ≡ turn (unless_busy w (loss w.links)) draws
  unfolding turn_of_kind
  kind_loss is =
      let no : nat_lt kind 2 ≡ false = le-ltb kind 2 (omega arith) in
      let other : (kind == 2) ≡ false = ne_eqb kind 2 (λ two. omega arith) in
      let more : nat_lt kind 14 ≡ false = le-ltb kind 14 (omega arith) in
      let yes : (kind == 14) ≡ true = eq-eqb kind 14 is in
      rw (no, other, more, yes) refl

  pub kind_command : 15 ≤ kind
      → turn_of_kind w number draws kind ≡ turn (unless_busy w (command_of (drawn (next_state draws) 24))) (next_state draws)
  unfolding turn_of_kind
  kind_command least =
      let no : nat_lt kind 2 ≡ false = le-ltb kind 2 (omega arith) in
      let other : (kind == 2) ≡ false = ne_eqb kind 2 (λ two. omega arith) in
      let more : nat_lt kind 14 ≡ false = le-ltb kind 14 (omega arith) in
      let last : (kind == 14) ≡ false = ne_eqb kind 14 (λ is. omega arith) in
      rw (no, other, more, last) refl
