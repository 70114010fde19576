-- The answer to a submission, but for whether there is room for it.
use Rattle.std.proofs.Common.{◌≡◌, ◌==◌, ◌+◌, ◌-◌, ◌^◌, Bool, true, false, nat_le, refl, Some}
use Rattle.std.specs.Prelude.{if◌then◌else◌}
use Rattle.dc_base.specs.Count.{window}
use Rattle.dc_base.specs.declared.answers.Answer.TheVariants as answer
use Rattle.dc_base.specs.declared.answers.Refusal.TheVariants as refusal
use Rattle.dc_base.specs.declared.nodes.Dir.{Dir}
use Rattle.claims.specs.Causes.{submit_due}
use Rattle.claims.specs.Past.{Bearer}
use Rattle.claims.specs.Reading.{lane, next_count}
use Rattle.checker_state.specs.Due.{without_room}

room : (full used : Bool) → without_room (if full then answer.No refusal.Full else if used then answer.No refusal.Exhausted else answer.Ok) ≡ answer.Ok
room true used = refl
room false true = refl
room false false = refl

-- it is ok where there is such a bearer
pub room_is : (d : Dir) (b : Bearer) → without_room (submit_due d (Some b)) ≡ answer.Ok
room_is d b = room (nat_le ((lane d b).told + window b.n) (next_count d b)) (next_count d b == 2 ^ 32 - 1)
