-- What lines count, one after another.
use Rattle.std.proofs.Common.{ℕ, ◌≡◌, ◌+◌, ◌++◌, ◌∷◌, List, [], ap, length, length-append, zero-add, ◌∙◌}
use Rattle.std.specs.Prelude.{cond, sum_by}
use Rattle.std.proofs.lemmas.List.Sums.{sum_by-append}
use Rattle.std.proofs.lemmas.Grind.{flat_map-append}
use Rattle.dc_base.specs.declared.events.Line.{Line}
use Rattle.dc_base.specs.declared.events.Line.TheVariants.{Send}
use Rattle.dc_base.specs.declared.flights.Flight.{Flight}
use Rattle.dc_base.specs.declared.nodes.LinkId.{LinkId}
use Rattle.dc_network.specs.Counting.{counted, counts_of_both, is_event, octets_of}
use Rattle.transcript.specs.Transcript.{sends, sends_of}

pub sends-append : (xs ys : List Line) → sends (xs ++ ys) ≡ sends xs ++ sends ys
sends-append xs ys = flat_map-append sends_of xs ys

pub counted-append : (xs ys : List Line) → counted (xs ++ ys) ≡ counts_of_both (counted xs) (counted ys)
counted-append xs ys =
    let events = sum_by-append (λ (l : Line). cond (is_event l) 1 0) xs ys in
    let parts = sends-append xs ys in
    let flights : length (sends (xs ++ ys)) ≡ length (sends xs) + length (sends ys) = ap (λ (s : List (LinkId × Flight)). length s) parts ∙ length-append (sends xs) (sends ys) in
    let octets : sum_by octets_of (sends (xs ++ ys)) ≡ sum_by octets_of (sends xs) + sum_by octets_of (sends ys) =
    ap (λ (s : List (LinkId × Flight)). sum_by octets_of s) parts ∙ sum_by-append octets_of (sends xs) (sends ys) in cc

pub counted-send : (l : LinkId) (f : Flight) (n : ℕ) → n ≡ octets_of (l, f) → counted (Send l f ∷ []) ≡ record { events = 0; flights = 1; octets = n }
counted-send l f n e = let z = zero-add (octets_of (l, f)) in cc
