-- What a secondary node answers is awaited by the master, where the plans of its requests are asked for.
use Rattle.std.proofs.Common.{◌≡◌, true, Option}
use Rattle.std.specs.Prelude.{is_none, ⊤}
use Rattle.dc_base.specs.declared.nodes.Node.{Node}
use Rattle.dc_base.specs.declared.nodes.Want.{Want}
use Rattle.dc_base.specs.declared.nodes.Want.TheVariants as want
use Rattle.dc_base.specs.declared.records.Rec.{Rec}
use Rattle.dc_base.specs.declared.records.Rec.TheVariants as rec
use Rattle.node_rules.specs.SecondState.{request}
use Rattle.node_rules.specs.declared.commands.Command.{Command}
use Rattle.node_rules.specs.declared.commands.First.TheVariants.{Addition as addition, Modification as modification, Release as release}
use Rattle.run_control.specs.Wants.{IsAskedFor}
use Rattle.run_agreed.specs.Expected.{IsAwaited}
use Rattle.run_agreed.proofs.SecondSays.{MaySay}

-- ---- what a secondary node answers

module _ (x : Node) (o : Option Command) where
  abbrev Awaited : Rec → Type 0
  Awaited r = IsAwaited x o r

  -- the plan of a request is asked for
  abbrev pub IsAsked : Rec → Type 0
  IsAsked (rec.Addreq p key) = IsAskedFor addition x p.g o
  IsAsked (rec.Modreq p key) = IsAskedFor modification x p.g o
  IsAsked (rec.Relreq p) = is_none p.sec ≡ true → IsAskedFor release x p.g o
  IsAsked _ = ⊤

  -- so is each answer to it
  pub asked_awaited : (r : Rec) → IsAsked r → MaySay Awaited r
  asked_awaited (rec.Reconf plan key) is = tt
  asked_awaited (rec.Rcomp g) is = tt
  asked_awaited (rec.Scgf failed) is = tt
  asked_awaited (rec.Recov id) is = tt
  asked_awaited (rec.Recovd id) is = tt
  asked_awaited (rec.Addreq plan key) is = (is, is)
  asked_awaited (rec.Addack g) is = tt
  asked_awaited (rec.Addrej g) is = tt
  asked_awaited (rec.Modreq plan key) is = (is, λ kept. is)
  asked_awaited (rec.Modack g) is = tt
  asked_awaited (rec.Modrej g) is = tt
  asked_awaited (rec.Recfg g) is = tt
  asked_awaited (rec.Relreq plan) is = (tt, is)
  asked_awaited (rec.Relack g) is = tt
  asked_awaited (rec.Relrej g) is = tt
  asked_awaited (rec.Uecr g) is = tt
  asked_awaited (rec.Snst status) is = tt
  asked_awaited (rec.Moved g id) is = tt
  asked_awaited (rec.Scgn id g) is = tt
  asked_awaited rec.Modrqd is = tt
  asked_awaited (rec.Modcnf g) is = tt
  asked_awaited (rec.Modref word) is = tt
  asked_awaited rec.Chgrqd is = tt
  asked_awaited (rec.Chgcnf plan) is = tt
  asked_awaited (rec.Chgref word) is = tt
  asked_awaited rec.Relrqd is = tt
  asked_awaited (rec.Relcnf plan) is = tt

  -- and each request
  pub request_awaited : (w : Want) → Awaited (request w)
  request_awaited want.Rekey = tt
  request_awaited want.Change = tt
  request_awaited want.Release = tt
