-- What the procedures of the master have it do, as far as it decides how downlink submissions are answered.
use Rattle.std.specs.Prelude.{◌≡◌, ◌==◌, false, List, [], ◌∷◌, Some, None, ⊤}
use Rattle.std.specs.List.{AllByRecursion, flat_map}
use Rattle.dc_base.specs.declared.events.Note.{Note}
use Rattle.dc_base.specs.declared.records.Item.{Item}
use Rattle.dc_base.specs.declared.records.Item.TheVariants as item
use Rattle.node_rules.specs.declared.acts.Act.{Act}
use Rattle.node_rules.specs.declared.acts.Act.TheVariants.{FailOne as fail_one, Go as go, Pass as pass, Prepare as prepare, RecoverOne as recover_one, Say as say, Send as send, UnlockAll as unlock_all}
use Rattle.node_rules.specs.Lines.{place}
use Rattle.run_windows.specs.Controls.{controls}

-- the item sets a bearer that was there before
abbrev pub IsKept : Item → Type 0
IsKept (item.Set id n first shape threshold policy key None) = ⊥
IsKept (item.Set id n first shape threshold policy key (Some old)) = ⊤
IsKept (item.Unset id) = ⊥

-- what neither sets a bearer up nor drops one, and passes no status transfer on
abbrev pub IsPlain : Act → Type 0
IsPlain (send to r) = ⊤
IsPlain (prepare p) = ⊤
IsPlain (go p) = AllByRecursion IsKept p.items
IsPlain (unlock_all g) = ⊤
IsPlain (say n) = (place n == 4) ≡ false
IsPlain (recover_one id) = ⊤
IsPlain (fail_one id g) = ⊤
IsPlain (pass st) = ⊥

-- the notes of an act that begin or end a command
abbrev pub act_notes : Act → List Note
act_notes (send to r) = []
act_notes (prepare p) = []
act_notes (go p) = []
act_notes (unlock_all g) = []
act_notes (say n) = controls (n ∷ [])
act_notes (recover_one id) = []
act_notes (fail_one id g) = []
act_notes (pass st) = []

-- the notes of several acts
abbrev pub acts_notes : List Act → List Note
acts_notes acts = flat_map act_notes acts
