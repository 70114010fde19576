-- Acts of a secondary node that say nothing of an adoption, and the generations of the plans that acts carry out.
use Rattle.std.specs.Prelude.{ℕ, ⊤, ◌<◌}
use Rattle.dc_base.specs.declared.records.Rec.{Rec}
use Rattle.dc_base.specs.declared.records.Rec.TheVariants as rec
use Rattle.node_rules.specs.declared.acts.Act.{Act}
use Rattle.node_rules.specs.declared.acts.Act.TheVariants.{FailOne as fail_one, Go as go, Pass as pass, Prepare as prepare, RecoverOne as recover_one, Say as say, Send as send, UnlockAll as unlock_all}

-- the record tells of no adoption
abbrev pub IsUnmoved : Rec → Type 0
IsUnmoved (rec.Moved g id) = ⊥
IsUnmoved _ = ⊤

-- nor does a record that the act sends
abbrev pub IsSaying : Act → Type 0
IsSaying (send to r) = IsUnmoved r
IsSaying (prepare p) = ⊤
IsSaying (go p) = ⊤
IsSaying (unlock_all g) = ⊤
IsSaying (say n) = ⊤
IsSaying (recover_one id) = ⊤
IsSaying (fail_one id g) = ⊤
IsSaying (pass status) = ⊤

-- a plan that the act carries out is of a generation below this
abbrev pub IsActBelow : ℕ → Act → Type 0
IsActBelow n (send to r) = ⊤
IsActBelow n (prepare p) = ⊤
IsActBelow n (go p) = p.g < n
IsActBelow n (unlock_all g) = ⊤
IsActBelow n (say m) = ⊤
IsActBelow n (recover_one id) = ⊤
IsActBelow n (fail_one id g) = ⊤
IsActBelow n (pass status) = ⊤
