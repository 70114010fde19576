-- The events of a script add secondary nodes alone, and bearers of identities in their range.
use Rattle.std.proofs.Common.{◌++◌, List, [], ◌∷◌, sym, subst, inl, inr}
use Rattle.std.specs.List.{AllByRecursion}
use Rattle.transcript.proofs.OnEach.{each_append}
use Rattle.dc_base.specs.declared.events.Event.{Event}
use Rattle.dc_base.specs.declared.events.Event.TheVariants as event
use Rattle.script_text.specs.Scripts.{IsScripted}
use Rattle.script_text.specs.declared.scripted.Scripted.{Scripted}
use Rattle.script_text.specs.declared.scripted.Scripted.TheVariants.{One, Drain}
use Rattle.node_rules.specs.Choices.{Choices}
use Rattle.node_rules.specs.Run.{world_step}
use Rattle.node_rules.specs.World.{World}
use Rattle.dc_top.specs.Script.{IsInRange}
use Rattle.counted_network.specs.Counted.{Counting}
use Rattle.dc_top.specs.Steps.{AreBegun, AreFirstSteps}
use Rattle.dc_top.specs.SoFar.{IsFit}

-- an event that a script may have does
pub scripted_fits : (e : Event) → IsScripted e → IsFit e
scripted_fits (event.Bearer id n first shape threshold policy) is = (tt, is.0)
scripted_fits (event.Reshape id shape) is = (tt, tt)
scripted_fits (event.Remove id) is = (tt, tt)
scripted_fits (event.Add node) is = (is, tt)
scripted_fits event.Change is = (tt, tt)
scripted_fits event.Release is = (tt, tt)
scripted_fits event.RekeySecond is = (tt, tt)
scripted_fits (event.RekeyMaster root) is = (tt, tt)
scripted_fits (event.Recover id) is = (tt, tt)
scripted_fits (event.Report node id) is = (tt, tt)
scripted_fits (event.Deny node on) is = (tt, tt)
scripted_fits (event.Ask node what) is = (tt, tt)
scripted_fits event.ScgFail is = (tt, tt)
scripted_fits (event.Submit id d payload) is = (tt, tt)
scripted_fits (event.Step l i) is = (tt, tt)
scripted_fits (event.Lose l i) is = (tt, tt)
scripted_fits (event.Again l i) is = (tt, tt)

-- so does a step
steps_fit : (c : Choices) (w : World) (es : List Event) → AreFirstSteps c w es → AllByRecursion IsFit es
steps_fit c w [] steps = tt
steps_fit c w (e ∷ es) steps = (subst IsFit (sym steps.0.step) (tt, tt), steps_fit c (world_step c w e).0 es steps.1)

-- and so do the events of a line, or a front of them
pub line_fits : (c : Choices) (line : Scripted) (k : Counting) (es : List Event) → IsInRange line → AreBegun c line k es → AllByRecursion IsFit es
line_fits c (One e) k es is (inl none) = subst (AllByRecursion IsFit) (sym none) tt
line_fits c (One e) k es is (inr one) = subst (AllByRecursion IsFit) (sym one) (scripted_fits e is, tt)
line_fits c Drain k es is steps = steps_fit c k.world es steps

-- so it is of what comes after such events
pub fit_more : (es fs : List Event) → AllByRecursion IsFit es → AllByRecursion IsFit fs → AllByRecursion IsFit (es ++ fs)
fit_more es fs fit more = each_append IsFit es fs fit more
