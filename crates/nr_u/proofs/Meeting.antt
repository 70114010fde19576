-- The conditions under which a delivery status is trusted stay true while the tunnel is used.
use Rattle.std.proofs.Common.{◌≡◌, ℕ, zero, suc, ◌<◌, ◌++◌, ◌⊎◌, List, [], ◌∷◌, length, Some, refl, ap, subst, inl, inr, arith}
use Rattle.std.specs.Prelude.{slice_get}
use Rattle.std.specs.List.{AllByRecursion}
use Rattle.std.specs.Option.{IsSomeAnd}
use Rattle.std.specs.Ordering.{nat_cmp}
use Rattle.std.specs.BTreeMap.{insert_entry}
use Rattle.std.proofs.lemmas.Bool.{cases_Bool}
use Rattle.std.proofs.lemmas.Option.{slice_get_within}
use Rattle.dc_base.specs.declared.numbers.SnLen.{SnLen}
use Rattle.nr_u.specs.declared.tunnel.inbound.Arrival.{Arrival}
use Rattle.nr_u.specs.declared.tunnel.outbound.Sent.{Sent}
use Rattle.nr_u.specs.Tunnel.Incoming.{Incoming, Numbered, Ascends, has, with_arrival}
use Rattle.nr_u.specs.Tunnel.Outgoing.{first_send}
use Rattle.nr_u.specs.Tunnel.Ends.{FirstSendsRise, IsAsSent, CameAsSent}
use Rattle.nr_u.proofs.ByNumber.{Ascends-insert, insert_all}
use Rattle.nr_u.proofs.History.{get_cases}

-- ---- what came is what was sent

some_and : {X : Type 0} (P : X → Type 0) (xs : List X) (k : ℕ) (x : X) → slice_get xs k ≡ Some x → P x → IsSomeAnd (slice_get xs k) P
some_and P xs k x is holds = rw is holds

some_before : {X : Type 0} (P : X → Type 0) (xs : List X) (x : X) (k : ℕ) → IsSomeAnd (slice_get xs k) P → IsSomeAnd (slice_get (xs ++ x ∷ []) k) P
some_before P [] x k there = absurd there
some_before P (y ∷ ys) x zero there = there
some_before P (y ∷ ys) x (suc k) there = some_before P ys x k there

-- a PDU comes under a number of this tunnel
pub CameAsSent-arrival : (n : SnLen) (sent : List Sent) (i : Incoming) (number : ℕ) (a : Arrival) (s : Sent) → slice_get sent number ≡ Some s → IsAsSent n a s → CameAsSent n sent i.came → CameAsSent n sent (with_arrival i number a).came
CameAsSent-arrival n sent i number a s at as_sent all =
    elim (cases_Bool (has number i.came)) [
      | inl came ↦ rw came all
      | inr new ↦ rw new (insert_all _ number a i.came (some_and (IsAsSent n a) sent number s at as_sent) all)
    ]

-- another PDU is sent
pub CameAsSent-sent : (n : SnLen) (sent : List Sent) (s : Sent) (came : List Numbered) → CameAsSent n sent came → CameAsSent n (sent ++ s ∷ []) came
CameAsSent-sent n sent s [] all = tt
CameAsSent-sent n sent s (a ∷ came) all = (some_before (IsAsSent n a.1) sent s a.0 all.0, CameAsSent-sent n sent s came all.1)

-- ---- the numbers that came ascend

pub Ascends-arrival : (i : Incoming) (number : ℕ) (a : Arrival) → Ascends 0 i.came → Ascends 0 (with_arrival i number a).came
Ascends-arrival i number a up =
    elim (cases_Bool (has number i.came)) [
      | inl came ↦ rw came up
      | inr new ↦ rw new (Ascends-insert 0 number a i.came (omega arith) up new)
    ]

-- ---- the COUNTs of the first sends rise

-- a first send is above those before it; a repeat, or a PDU that has no COUNT, is no first send
pub FirstSendsRise-sent : (sent : List Sent) (s : Sent) → FirstSendsRise sent → ((j c d : ℕ) → slice_get sent j ≡ Some (first_send c) → s ≡ first_send d → c < d) → FirstSendsRise (sent ++ s ∷ [])
FirstSendsRise-sent sent s rise above = λ j k c d less at_j at_k.
    elim (get_cases sent s (first_send d) k at_k) [
      | inl before ↦
          let inside = slice_get_within sent k (first_send d) before in
          elim (get_cases sent s (first_send c) j at_j) [
            | inl also ↦ rise j k c d less also before
            | inr last ↦ absurd (omega (arith, last.0, inside))
          ]
      | inr last ↦
          elim (get_cases sent s (first_send c) j at_j) [
            | inl before ↦ above j c d before last.1
            | inr also ↦ absurd (omega (arith, last.0, also.0))
          ]
    ]
