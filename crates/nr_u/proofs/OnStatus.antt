-- What a delivery status leaves of what was sent.
use Rattle.std.proofs.Common.{◌≡◌, ℕ, not, List, Option, refl, sym, ap, ◌∙◌}
use Rattle.std.specs.Prelude.{map, filter, fold}
use Rattle.std.specs.Ordering.{nat_cmp}
use Rattle.std.specs.BTreeSet.{insert_key}
use Rattle.nr_u.specs.declared.frame.Range.{Range}
use Rattle.nr_u.specs.declared.frame.Frame.{Frame}
use Rattle.nr_u.specs.declared.frame.Frame.TheVariants.{Status}
use Rattle.nr_u.specs.Tunnel.Outgoing.{Outgoing, Counted, highest_of, confirms, asks, asked_by, with_status}
use Rattle.nr_u.specs.Tunnel.Verdicts.{confirmed_of}

pub leaves : (o : Outgoing) (low : ℕ) (highest : Option ℕ) (lost read : List Range) (h : Option ℕ) (waiting unasked : List Counted) (confirmed counts slice : List ℕ)
    → read ≡ lost → h ≡ highest_of o.n low highest → counts ≡ map (λ e. e.1) (filter (confirms h read) o.waiting) → waiting ≡ filter (λ e. not (confirms h read e)) o.waiting
    → slice ≡ counts → confirmed ≡ fold (insert_key nat_cmp) o.confirmed slice → unasked ≡ filter (λ e. not (asks low confirmed read e)) o.unasked
    → record o { waiting = waiting; unasked = unasked; confirmed = confirmed } ≡ with_status o low highest lost
leaves o low highest lost read h waiting unasked confirmed counts slice read_is h_is counts_are waiting_is slice_is confirmed_is unasked_is =
    rw (unasked_is, waiting_is, confirmed_is, slice_is, counts_are, h_is, read_is) refl

pub asked_counts : (o : Outgoing) (low : ℕ) (highest : Option ℕ) (lost read : List Range) (h : Option ℕ) (confirmed counts slice : List ℕ)
    → read ≡ lost → h ≡ highest_of o.n low highest → counts ≡ map (λ e. e.1) (filter (confirms h read) o.waiting)
    → slice ≡ counts → confirmed ≡ fold (insert_key nat_cmp) o.confirmed slice
    → map (λ (e : Counted). e.1) (asked_by o low highest lost) ≡ map (λ (e : Counted). e.1) (filter (asks low confirmed read) o.unasked)
asked_counts o low highest lost read h confirmed counts slice read_is h_is counts_are slice_is confirmed_is =
    rw (confirmed_is, slice_is, counts_are, h_is, read_is) refl

pub confirmed_is : (o sender : Outgoing) (low : ℕ) (f : Frame) (highest : Option ℕ) (lost read : List Range) (h : Option ℕ) (counts answer : List ℕ)
    → o ≡ sender → f ≡ Status highest lost → read ≡ lost → h ≡ highest_of o.n low highest → counts ≡ map (λ e. e.1) (filter (confirms h read) o.waiting) → answer ≡ counts → answer ≡ confirmed_of sender low f
confirmed_is o sender low f highest lost read h counts answer same frame read_is h_is counts_are answer_is =
    let here : answer ≡ confirmed_of o low (Status highest lost) = answer_is ∙ counts_are ∙ rw (h_is, read_is) refl in
    here ∙ ap (λ (x : Outgoing). confirmed_of x low (Status highest lost)) same ∙ ap (confirmed_of sender low) (sym frame)
