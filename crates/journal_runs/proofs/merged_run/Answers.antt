use Rattle.journal_runs.proofs.Running.{run_of}
use Rattle.journal_runs.proofs.merged_run.Goals as goal

pub returns : goal.returns
returns c = run_of
