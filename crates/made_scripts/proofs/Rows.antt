-- Worked rows, computed: the draws of seed 1, and its one turn.
use Rattle.std.proofs.Common.{◌≡◌, [], ◌∷◌, refl}
use Rattle.dc_base.specs.Count.{window}
use Rattle.node_rules.specs.Choices.{Choices, by_policies}
use Rattle.made_scripts.specs.Draws.{drawn, next_state}
use Rattle.made_scripts.specs.Scripts.{drain_steps, opened, script_events, turns_from}
use Rattle.made_scripts.specs.Turns.{command_of, drawn_step, first_loss, loaded_count, loaded_of, loss_on, own_place, turn_of_kind}

-- the first two states of seed 1, and what is drawn below 16
first_state : next_state 1 ≡ 7806831264735756412
unfolding next_state
first_state = refl

second_state : next_state 7806831264735756412 ≡ 9396908728118811419
unfolding next_state
second_state = refl

first_drawn : drawn 7806831264735756412 16 ≡ 6
unfolding drawn
first_drawn = refl

-- two policies: 0 chooses the leg with the smaller volume, 1 the SCG while its volume is at most 100,000 octets more
abbrev two_policies : Choices
two_policies = by_policies (record { plus = 0; minus = 1 } ∷ record { plus = 100000; minus = 0 } ∷ [])

-- the script of one turn has no line of that turn: it would step a flight, and after the opening none is under way
one_turn : turns_from two_policies (opened two_policies) 0 1 1 ≡ []
unfolding turns_from turn_of_kind drawn_step loaded_count loaded_of script_events drain_steps drawn next_state command_of loss_on first_loss own_place window
one_turn = refl
