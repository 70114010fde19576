-- A run of a front of some events, with those that are left.
use Rattle.std.proofs.Common.{◌≡◌, ◌++◌, List, [], refl, sym, ◌∙◌, subst, append_assoc, append-nil}
use Rattle.dc_base.specs.declared.events.Event.{Event}
use Rattle.node_rules.specs.Choices.{Choices}
use Rattle.dc_network.specs.Counting.{IsWithin}
use Rattle.made_runs.specs.Running.{HasRun, PassesLimit, Running}
use Rattle.made_runs.proofs.Runs.{passes_front, passes_then, run_none, run_then}

-- of all events these are done, which led from one to the other, and those are left
pub record IsUpTo (c : Choices) (r : Running) (all left : List Event) (s : Running) : Type 0 where
  pub done : List Event
  pub ran : HasRun c r done s
  pub rest : all ≡ done ++ left

module _ (c : Choices) where
  abbrev pub up_first : (r : Running) (all : List Event) → IsWithin r.counting.counts → IsUpTo c r all all r
  up_first r all within = record { done = []; ran = run_none c r within; rest = refl }

  abbrev pub up_more : (r s t : Running) (all es left : List Event) → IsUpTo c r all (es ++ left) s → HasRun c s es t → IsUpTo c r all left t
  up_more r s t all es left u more = record {
    done = u.done ++ es;
    ran = run_then c r s t u.done es u.ran more;
    rest = u.rest ∙ sym (append_assoc u.done es left);
  }

  pub up_end : (r s : Running) (all : List Event) → IsUpTo c r all [] s → HasRun c r all s
  up_end r s all u = subst (λ es. HasRun c r es s) (sym (u.rest ∙ append-nil u.done)) u.ran

  pub up_past : (r s : Running) (all es left : List Event) → IsUpTo c r all (es ++ left) s → PassesLimit c s es → PassesLimit c r all
  up_past r s all es left u past =
      subst (PassesLimit c r) (sym u.rest) (passes_then c r s u.done (es ++ left) u.ran (passes_front c s es left past))
