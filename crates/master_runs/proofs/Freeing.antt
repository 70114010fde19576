-- The line that tells of a window that rose, before other lines: what it says, and what it does not.
use Rattle.std.proofs.Common.{ℕ, ◌≡◌, ◌==◌, ◌++◌, List, [], ◌∷◌, Option, Bool, true, refl, inl, inr}
use Rattle.std.specs.Prelude.{nat_lt, ◌&&◌, if◌then◌else◌, fold}
use Rattle.std.specs.List.{flat_map}
use Rattle.std.proofs.lemmas.Bool.{cases_Bool, eq-eqb, and_from}
use Rattle.dc_base.specs.declared.nodes.Dir.{Dir}
use Rattle.dc_base.specs.declared.events.Line.{Line}
use Rattle.pdcp_tx.specs.Sender.{low}
use Rattle.dc_base.specs.Nodes.{is_same_dir}
use Rattle.transcript.specs.Transcript.{sends}
use Rattle.transcript.specs.Bearers.{Established, OpenCommand, ends_command, has_after, up_of, freed_of}
use Rattle.master_runs.specs.Entities.{Entities}
use Rattle.master_runs.specs.Plane.{freed_lines}
use Rattle.master_runs.proofs.Directions.{Apart, same_dir, not_named}

-- such a line sends nothing
pub freed_sends : (id : ℕ) (d : Dir) (x y : ℕ) (rest : List Line) → sends (freed_lines id d x y ++ rest) ≡ sends rest
freed_sends id d x y rest = elim (cases_Bool (nat_lt x y)) [ inl less ↦ rw less refl | inr most ↦ rw most refl ]

-- it hands nothing up
pub freed_ups : (b : Established) (k : Dir) (id : ℕ) (d : Dir) (x y : ℕ) (rest : List Line) → flat_map (up_of b k) (freed_lines id d x y ++ rest) ≡ flat_map (up_of b k) rest
freed_ups b k id d x y rest = elim (cases_Bool (nat_lt x y)) [ inl less ↦ rw less refl | inr most ↦ rw most refl ]

-- it ends no command
pub freed_ends : (o : Option OpenCommand) (id : ℕ) (d : Dir) (x y : ℕ) (rest : List Line) → fold ends_command o (freed_lines id d x y ++ rest) ≡ fold ends_command o rest
freed_ends o id d x y rest = elim (cases_Bool (nat_lt x y)) [ inl less ↦ rw less refl | inr most ↦ rw most refl ]

-- it sets no bearer up
pub freed_sets : (k : ℕ) (has : Bool) (id : ℕ) (d : Dir) (x y : ℕ) (rest : List Line) → fold (has_after k) has (freed_lines id d x y ++ rest) ≡ fold (has_after k) has rest
freed_sets k has id d x y rest = elim (cases_Bool (nat_lt x y)) [ inl less ↦ rw less refl | inr most ↦ rw most refl ]

-- of another bearer or direction it says nothing
pub freed_apart : (b : Established) (k : Dir) (id : ℕ) (d : Dir) (x y : ℕ) (rest : List Line) → Apart d id k b.id → flat_map (freed_of b k) (freed_lines id d x y ++ rest) ≡ flat_map (freed_of b k) rest
freed_apart b k id d x y rest apart = elim (cases_Bool (nat_lt x y)) [ inl less ↦ rw (less, not_named d id k b.id apart) refl | inr most ↦ rw most refl ]

-- of its own it says where Low is, where Low rises
pub freed_here : (b : Established) (d : Dir) (x y : ℕ) (rest : List Line) → flat_map (freed_of b d) (freed_lines b.id d x y ++ rest) ≡ (if nat_lt x y then y ∷ [] else []) ++ flat_map (freed_of b d) rest
freed_here b d x y rest =
    let mine : ((b.id == b.id) && is_same_dir d d) ≡ true = and_from (b.id == b.id) (is_same_dir d d) (eq-eqb b.id b.id refl) (same_dir d) in
    elim (cases_Bool (nat_lt x y)) [ inl less ↦ rw (less, mine) refl | inr most ↦ rw most refl ]

-- where Low is, if that is further than before
abbrev pub rising : Entities → Entities → List ℕ
rising x y = if nat_lt (low x.tx) (low y.tx) then low y.tx ∷ [] else []
