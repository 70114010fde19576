-- What `Inbound` keeps stays true when a number comes, and when one is acked.
use Rattle.std.proofs.Common.{◌≡◌, ℕ, ◌+◌, ◌<◌, ◌^◌, false, cond, List, Option, sym, ◌∙◌, arith}
use Rattle.std.specs.Prelude.{max, IfSome}
use Rattle.std.specs.Ordering.{nat_cmp}
use Rattle.std.specs.BTreeMap.{insert_entry, is_at}
use Rattle.std.specs.BTreeSet.{insert_key}
use Rattle.std.specs.Set.{remove_key}
use Rattle.nr_u.specs.declared.frame.Range.{Range}
use Rattle.nr_u.specs.declared.tunnel.inbound.Arrival.{Arrival}
use Rattle.nr_u.specs.Tunnel.Incoming.{Numbered, has, is_first}
use Rattle.nr_u.specs.Tunnel.Kept.{ByEnd, IsInboundState, gap_at, from_or, with_below, without_below, narrowed}
use Rattle.nr_u.proofs.ByNumber.{Ascends-insert, Came-insert, Came-remove, filter-insert, insert_all}
use Rattle.nr_u.proofs.Gaps.{gaps_after, below_new, next_after-insert}

pub state-insert : (came : List Numbered) (unacked : List ℕ) (firsts : List Numbered) (ends : ByEnd) (next k : ℕ) (a : Arrival) → IsInboundState came unacked firsts ends next → k < 2 ^ 24 → has k came ≡ false → IfSome a.sn (λ s. s < 2 ^ 18)
    → IsInboundState (insert_entry nat_cmp came k a) (insert_key nat_cmp unacked k) (cond (is_first a) (insert_entry nat_cmp firsts k a) firsts) (narrowed k (gap_at k ends) (with_below (from_or next (gap_at k ends)) k ends)) (max next (k + 1))
state-insert came unacked firsts ends next k a state fits new sn_fits =
    let next_is = next_after-insert 0 k a came (omega arith) state.ascends new in
    record {
      ascends = Ascends-insert 0 k a came (omega arith) state.ascends new;
      small = omega (arith, next_is, state.small);
      unacked_came = Came-insert k a came unacked state.unacked_came;
      firsts_are = rw state.firsts_are (sym (filter-insert (λ b. is_first b.1) 0 k a came state.ascends new));
      gaps_are = gaps_after next k a came ends state.ascends new state.gaps_are state.next_is;
      next_is = rw state.next_is (sym next_is);
      sns = insert_all (λ b. IfSome b.1.sn (λ s. s < 2 ^ 18)) k a came sn_fits state.sns;
    }

pub state-remove : (came : List Numbered) (unacked : List ℕ) (firsts : List Numbered) (ends : ByEnd) (next k : ℕ) → IsInboundState came unacked firsts ends next
    → IsInboundState came (remove_key (is_at (nat_cmp k)) unacked) firsts ends next
state-remove came unacked firsts ends next k state = record {
  ascends = state.ascends;
  small = state.small;
  unacked_came = Came-remove k came unacked state.unacked_came;
  firsts_are = state.firsts_are;
  gaps_are = state.gaps_are;
  next_is = state.next_is;
  sns = state.sns;
}

-- the part below the number was put in, and taken out again
pub state-restored : (came : List Numbered) (unacked : List ℕ) (firsts : List Numbered) (ends : ByEnd) (next k : ℕ) (came' : List Numbered) (unacked' : List ℕ) (firsts' : List Numbered) (gap : Option Range) (from : ℕ) (more ends' : ByEnd)
    → IsInboundState came unacked firsts ends next → has k came ≡ false → came' ≡ came → unacked' ≡ unacked → firsts' ≡ firsts
    → gap ≡ gap_at k ends → from ≡ from_or next gap → more ≡ with_below from k ends → ends' ≡ without_below from k more → IsInboundState came' unacked' firsts' ends' next
state-restored came unacked firsts ends next k came' unacked' firsts' gap from more ends' state new came_is unacked_is firsts_is gap_is from_is more_is ends_is =
    let back : ends' ≡ ends = ends_is ∙ rw (more_is, from_is, gap_is) (below_new next k came ends state.ascends new state.gaps_are state.next_is) in
    rw (came_is, unacked_is, firsts_is, back) state
