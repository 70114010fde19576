use Rattle.std.proofs.Common.{◌≡◌, Some, ◌∙◌}
use Rattle.node_rules.specs.Drafts.{draft}
use Rattle.xn_procs.proofs.Drafted.{is_release_spent-drafted}
use Rattle.xn_procs.proofs.master.MasterProc.spends_identity.Goals as goal

pub returns-in-Some : goal.returns-in-Some
returns-in-Some c =
    let t = c.self.inside.table in
    let e = rw c.in-Some.is at c.in_ok-draft.ensures in
    rw (← c.self.view_is) (c.is_spent_by.ensures ∙ is_release_spent-drafted t c.in-Some.draft (draft t c.args.event.now) e)
