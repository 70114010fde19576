-- The lines of a summary.
use Rattle.std.specs.Prelude.{ℕ, List, [], ◌∷◌, ◌++◌, codes}
use Rattle.std.specs.Fmt.{decimal}
use Rattle.std.specs.List.{flat_map}
use Rattle.dc_base.specs.declared.nodes.Dir.{Dir}
use Rattle.dc_base.specs.declared.nodes.Dir.TheVariants.{Dl, Ul}
use Rattle.transcript.specs.Text.{ended}
use Rattle.transcript.specs.Words.{dir_word, spaced}
use Rattle.summary.specs.declared.tallies.Passed.{Passed}
use Rattle.summary.specs.declared.tallies.Tally.{Tally}
use Rattle.summary.specs.Summed.{Totals}

-- the payloads of a bearer in one direction: ID DIR HANDED/SUBMITTED
abbrev pub passed_text : ℕ → Dir → Passed → List ℕ
passed_text id dir p = ended (spaced (decimal id ∷ dir_word dir ∷ (decimal p.handed ++ codes "/" ++ decimal p.submitted) ∷ []))

-- those of both directions
abbrev pub tally_text : Tally → List ℕ
tally_text t = passed_text t.id Dl t.dl ++ passed_text t.id Ul t.ul

-- the lines of all establishments, the oldest first
abbrev pub bearers_text : List Tally → List ℕ
bearers_text bearers = flat_map tally_text bearers

-- how many events, flights and refusals there were
abbrev pub counts_text : Totals → List ℕ
counts_text t =
    ended (spaced (codes "events" ∷ decimal t.events ∷ codes "flights" ∷ decimal t.flights ∷ codes "refused" ∷ decimal t.refused ∷ []))

-- the summary of a run
abbrev pub summary_text : Totals → List ℕ
summary_text t = bearers_text t.bearers ++ counts_text t
