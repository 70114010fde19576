-- A line that could not be written.
use Rattle.std.proofs.Common.{ℕ, ◌≡◌, List, [], Option, Result, Ok, Err, sym, ap, subst}
use Rattle.std.specs.Prelude.{IfOk, OnErr}
use Rattle.std.specs.Io.KnownBytes.{Appends}
use Rattle.std.proofs.KnownBytes.{Appends-nil}
use Rattle.dc_base.specs.declared.lists.Memory.{Memory}
use Rattle.dc_outside.specs.Octets.{AppendsFront}
use Rattle.transcript_entries.specs.declared.fault.EntryFault.TheVariants as fault
use Rattle.check_form.specs.declared.outcome.Outcome.{Outcome}
use Rattle.check_form.specs.declared.outcome.Outcome.TheVariants as outcome
use Rattle.check_form.specs.Written.{HasChecked, IsLineOf}

-- a front of it was put out, or there was no memory for it
pub line_failed : (K : Type 0) (put : K → Option (List ℕ)) (old new : K) (octets : List ℕ) (text : Result (List ℕ) Memory) (line : List ℕ) (o : Outcome)
    → IfOk text (λ t. t ≡ line) → IsLineOf octets line → IfOk text (λ t. (o ≡ outcome.WriteFault) × AppendsFront (put old) (put new) t)
    → OnErr text ((o ≡ outcome.Unread fault.Memory) × (new ≡ old)) → HasChecked octets o (put old) (put new)
line_failed K put old new octets (Ok t) line o is told front none =
    subst (λ q. HasChecked octets q (put old) (put new)) (sym front.0) (t, subst (IsLineOf octets) (sym is) told, front.1)
line_failed K put old new octets (Err e) line o is told front none =
    subst (λ q. HasChecked octets q (put old) (put new)) (sym none.0) (subst (λ k. Appends (put old) k []) (sym (ap put none.1)) (Appends-nil (put old)))
