-- The lines of payloads that go up: what they say, and what they do not.
use Rattle.std.proofs.Common.{ℕ, ◌≡◌, ◌==◌, ◌++◌, true, false, Bool, List, [], ◌∷◌, Option, map, refl, ap, ◌∙◌}
use Rattle.std.specs.Prelude.{if◌then◌else◌, ◌&&◌, fold}
use Rattle.std.specs.List.{flat_map}
use Rattle.dc_base.specs.declared.nodes.Dir.{Dir}
use Rattle.dc_base.specs.declared.events.Line.{Line}
use Rattle.dc_base.specs.Nodes.{is_same_dir}
use Rattle.transcript.specs.Transcript.{sends}
use Rattle.transcript.specs.Bearers.{OpenCommand, Established, up_of, freed_of, ends_command, has_after}
use Rattle.master_runs.specs.Plane.{up_line}

module _ (id : ℕ) (d : Dir) (last : List Line) where
  -- payloads that go up send nothing
  pub sends_after_ups : (run : List (ℕ × List ℕ)) → sends (map (up_line id d) run ++ last) ≡ sends last
  sends_after_ups [] = refl
  sends_after_ups (u ∷ run) = sends_after_ups run

  -- of the run's own bearer and direction the run goes up
  pub ups_here : (b : Established) (k : Dir) → ((id == b.id) && is_same_dir d k) ≡ true → (run : List (ℕ × List ℕ)) → flat_map (up_of b k) (map (up_line id d) run ++ last) ≡ run ++ flat_map (up_of b k) last
  ups_here b k is [] = refl
  ups_here b k is (u ∷ run) = ap (λ x. (if x then u ∷ [] else []) ++ flat_map (up_of b k) (map (up_line id d) run ++ last)) is ∙ ap (λ (xs : List (ℕ × List ℕ)). u ∷ xs) (ups_here b k is run)

  -- of any other nothing does
  pub ups_elsewhere : (b : Established) (k : Dir) → ((id == b.id) && is_same_dir d k) ≡ false → (run : List (ℕ × List ℕ)) → flat_map (up_of b k) (map (up_line id d) run ++ last) ≡ flat_map (up_of b k) last
  ups_elsewhere b k is [] = refl
  ups_elsewhere b k is (u ∷ run) = ap (λ x. (if x then u ∷ [] else []) ++ flat_map (up_of b k) (map (up_line id d) run ++ last)) is ∙ ups_elsewhere b k is run

  -- they move no window
  pub frees_after_ups : (b : Established) (k : Dir) (run : List (ℕ × List ℕ)) → flat_map (freed_of b k) (map (up_line id d) run ++ last) ≡ flat_map (freed_of b k) last
  frees_after_ups b k [] = refl
  frees_after_ups b k (u ∷ run) = frees_after_ups b k run

  -- they set nothing at the terminal
  pub has_after_ups : (k : ℕ) (has : Bool) (run : List (ℕ × List ℕ)) → fold (has_after k) has (map (up_line id d) run ++ last) ≡ fold (has_after k) has last
  has_after_ups k has [] = refl
  has_after_ups k has (u ∷ run) = has_after_ups k has run

  -- they end no command
  pub command_after_ups : (g : Option OpenCommand) (run : List (ℕ × List ℕ)) → fold ends_command g (map (up_line id d) run ++ last) ≡ fold ends_command g last
  command_after_ups g [] = refl
  command_after_ups g (u ∷ run) = command_after_ups g run
