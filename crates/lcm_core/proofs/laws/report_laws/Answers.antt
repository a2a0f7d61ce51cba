use Rattle.lcm_core.proofs.RepairedReports.{runs_reportable, traces_reportable}
use Rattle.lcm_core.proofs.laws.report_laws.Goals as goal

pub returns : goal.returns
returns c = record { traces = traces_reportable; runs = runs_reportable }
