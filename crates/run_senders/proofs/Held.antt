-- What is so of all that is held stays so, and is so of each.
use Rattle.std.proofs.Common.{ℕ, List, [], ◌∷◌, Option, Some, None, Ordering, Less, Equal, Greater, inl, inr}
use Rattle.std.specs.Ordering.{is_eq, match_ordering, nat_cmp}
use Rattle.std.proofs.lemmas.Bool.{cases_Bool}
use Rattle.transcript.proofs.OnEach.{each_append}
use Rattle.dc_base.specs.declared.nodes.Node.{Node}
use Rattle.node_rules.specs.Effects.{in_turn}
use Rattle.node_rules.specs.Held.{held, holding}
use Rattle.node_rules.specs.declared.inputs.Effects.{Effects}
use Rattle.run_words.specs.Senders.{IsBy}
use Rattle.run_senders.specs.Holders.{AllHeld, IfThere, Leaves}

module _ {X : Type 0} (P : X → Type 0) where
  -- of what is held of an identity
  pub held_so : (id : ℕ) (xs : List (ℕ × X)) → AllHeld P xs → IfThere P (held id xs)
  held_so id [] all = tt
  held_so id (e ∷ es) all = elim (cases_Bool (is_eq (nat_cmp id e.0))) [ inl here ↦ rw here all.0 | inr there ↦ rw there (held_so id es all.1) ]

  put_so : (id : ℕ) (x : X) → P x → (xs : List (ℕ × X)) → AllHeld P xs → AllHeld P (holding id (Some x) xs)
  put_so id x so [] all = (so, tt)
  put_so id x so (e ∷ es) all = by (nat_cmp id e.0) (put_so id x so es all.1)
    where
      by : (o : Ordering) → AllHeld P (holding id (Some x) es) → AllHeld P (match_ordering o ((id, x) ∷ e ∷ es) ((e.0, x) ∷ es) (e ∷ holding id (Some x) es))
      by Less more = (so, all)
      by Equal more = (so, all.1)
      by Greater more = (all.0, more)

  gone_so : (id : ℕ) (xs : List (ℕ × X)) → AllHeld P xs → AllHeld P (holding id None xs)
  gone_so id [] all = tt
  gone_so id (e ∷ es) all = elim (cases_Bool (is_eq (nat_cmp id e.0))) [ inl here ↦ rw here all.1 | inr there ↦ rw there (all.0, gone_so id es all.1) ]

  -- after something is held of an identity, or nothing
  pub holding_so : (id : ℕ) (o : Option X) → IfThere P o → (xs : List (ℕ × X)) → AllHeld P xs → AllHeld P (holding id o xs)
  holding_so id None so xs all = gone_so id xs all
  holding_so id (Some x) so xs all = put_so id x so xs all

-- one step after another
pub in_turn_so : {S X : Type 0} (P : S → Type 0) (x : Node) (f : S → X → S × Effects) → ((s : S) (y : X) → P s → Leaves P x (f s y)) → (s : S) (ys : List X) → P s → Leaves P x (in_turn f s ys)
in_turn_so P x f each s [] so = record { so = so; by = tt }
in_turn_so P x f each s (y ∷ ys) so =
    let one = each s y so in
    let more = in_turn_so P x f each (f s y).0 ys one.so in
    record { so = more.so; by = each_append (IsBy x) (f s y).1.sends (in_turn f (f s y).0 ys).1.sends one.by more.by }
